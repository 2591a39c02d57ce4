-- A step behind an opening: a batch, or an end.
use Rattle.std.specs.Prelude.{◌≡◌, ◌<◌, ◌≤◌, ◌⊎◌, ℕ, ◌+◌, ◌-◌, ◌%◌, ◌==◌, ◌&&◌, nat_lt, Bool, true, false, cond, List, [], ◌∷◌, ◌++◌, map, filter, take, length, Option}
use Rattle.std.proofs.Common.{zero, suc, refl, sym, ap, ◌∙◌, subst, inl, inr, arith, add-one}
use Rattle.std.proofs.lemmas.List.{length-append, length-map}
use Rattle.std.proofs.lemmas.List.FromFn.{length-range_with_len}
use Rattle.std.proofs.lemmas.Bool.{lt-ltb, le-ltb, cases_lt}
use Rattle.ob_base.specs.declared.params.Params.{Params}
use Rattle.ob_base.specs.Tree.{below}
use Rattle.ob_base.specs.Layout.{EpochTwin, log_cell, record_cells}
use Rattle.ob_store.specs.declared.watch.Note.{Note}
use Rattle.ob_store.specs.declared.watch.Note.TheVariants.{Write, Sync}
use Rattle.ob_schedule.specs.Holes.{Hole, final_holes}
use Rattle.ob_schedule.specs.Paths.{by_falling_level}
use Rattle.ob_schedule.specs.Schedule.{Public, batch_leaves, batch_notes, bucket_writes, check_cells, counts_now, hole_reads, is_lifted_by_end, log_gates, phase_notes, record_notes, set_twin, writes_of}
use Rattle.ob_schedule.specs.declared.want.Side.{Side}
use Rattle.ob_schedule.specs.declared.want.Side.TheVariants.{Even, Odd}
use Rattle.ob_schedule.specs.declared.want.Gate.{Gate}
use Rattle.ob_schedule.specs.declared.want.Gate.TheVariants.{Closed}
use Rattle.ob_schedule.specs.declared.want.Register.TheVariants.{Epoch}
use Rattle.ob_schedule.specs.declared.want.Want.{Want}
use Rattle.ob_schedule.specs.Sides.{other, side_number}
use Rattle.ob_schedule.specs.Standing.{StandingKnown, standing_ended}
use Rattle.ob_schedule.specs.Wants.{kept, places, record_wants, sets, writes_anew, end_holes, end_wants}
use Rattle.ob_schedule.specs.declared.want.Want.TheVariants.{Record}
use Rattle.ob_schedule.specs.Follow.{Follow, taken_up}
use Rattle.ob_histories.specs.Fills.{AllFills, AreAllFills, public_at, public_in_epoch, fills_at, leaves_of_batches}
use Rattle.ob_histories.specs.Runs.{RunFound, HistoryTurn, next_turn, notes_of_batch, notes_of_end, notes_of_turn}
use Rattle.ob_histories.specs.Histories.{AreRecordsLeft, IsBatchLeft, IsEndLeft, IsTurnLeft}
use Rattle.ob_histories.proofs.Standing.{Holds}
use Rattle.ob_histories.proofs.Ended.{other_side, same_counts, same_lifted, ended_holds}
use Rattle.ob_histories.proofs.Holes.{end_are}
use Rattle.ob_histories.proofs.Walks.{Reach, Walk, walk_join, walk_weaker, walk_kept, Stops}
use Rattle.ob_histories.proofs.Places.{at, rest_of, Known, InEpoch, Keeps, walk_holes}
use Rattle.ob_histories.proofs.Finding.{GateMay, RecordsMay, Fits, Stands, Allows, holds_rest, epoch_at, gate_still}
use Rattle.ob_histories.proofs.Sets.{IsOf, found_at, walk_epoch}
use Rattle.ob_histories.proofs.Batches.{AtTurn, before, walk_repeat, walk_begin}

pub same_side : (a b : Side) → side_number a ≡ side_number b → a ≡ b
same_side Even Even same = refl
same_side Even Odd same = absurd (omega (arith, same))
same_side Odd Even same = absurd (omega (arith, same))
same_side Odd Odd same = refl

other_home : (side : Side) (home : ℕ) → side_number side ≡ home → side_number (other side) ≡ 1 - home
other_home Even home is = omega (arith, is)
other_home Odd home is = omega (arith, is)

own_side : (side : Side) (n m : ℕ) → side_number side ≡ n % 2 → m ≡ n + 2 → side_number side ≡ m % 2
own_side side n m is next = omega (arith, is, next)

-- the notes of a setting
pub set_long : (p : Params) (number : ℕ) (was : Bool) → (was ≡ true → 6 ≤ length (set_twin p EpochTwin number was)) × (4 ≤ length (set_twin p EpochTwin number was))
set_long p number true = (λ is. omega arith, omega arith)
set_long p number false = (λ is. (let never : false ≡ true = is in cc), omega arith)

-- what lacks more than the setting hasn't ended
end_still : (p : Params) (t : HistoryTurn) (y : RunFound) (lacking : ℕ) → (t.gate ≡ true → 6 ≤ lacking) → 4 ≤ lacking → IsEndLeft p t lacking y → (y.epoch ≡ t.epoch) × ((y.epoch_gate ≡ t.gate) × (y.records ≡ p.batches))
end_still p t y zero six four left = absurd (omega (arith, four))
end_still p t y (suc zero) six four left = absurd (omega (arith, four))
end_still p t y (suc (suc n)) six four left = (left.0, (gate_still t.gate y.epoch_gate (suc (suc n)) six four left.1, left.2))

-- wants that end with a sync's, and more
pub wants_some : (xs : List Note) (ws : List Want) (p : Params) (s : StandingKnown) (c : ℕ) (ls : List ℕ) (hs : List Hole) → at p s c ls hs (kept (xs ++ Sync ∷ []) ++ ws) ≡ taken_up (at p s c ls hs (kept (xs ++ Sync ∷ []) ++ ws))
wants_some [] ws p s c ls [] = refl
wants_some (x ∷ xs) ws p s c ls [] = refl
wants_some [] ws p s c ls (h ∷ hs) = refl
wants_some (x ∷ xs) ws p s c ls (h ∷ hs) = refl

module _ (p : Params) (f : AllFills) (all : AreAllFills p f) (t : HistoryTurn) (generation : ℕ) where
  abbrev Rest : Type 0
  Rest = Side × (Gate × (Gate × (ℕ × Bool)))

  abbrev EndTurn : ℕ → Follow → Type 0
  EndTurn k h = (y : RunFound) → IsOf generation y → IsEndLeft p t k y → Stops p (Allows p f y) h

  abbrev pub public : Public
  public = public_in_epoch p f t.epoch p.batches

  abbrev pub number : ℕ
  number = (public_at p f t.epoch).epoch + 1

  abbrev pub ends : List Note
  ends = set_twin p EpochTwin number t.gate

  abbrev pub lifts : List Hole
  lifts = final_holes p (counts_now p public) (public_at p f t.epoch).counter

  -- what an end writes before it sets the epoch
  abbrev pub writes : List Note
  writes =
      bucket_writes p (λ u. 1 - (public_at p f t.epoch).homes u) (filter (is_lifted_by_end p public) (by_falling_level (p.levels + 1)))
      ++ writes_of (check_cells p (number % 2)) ++ writes_of (log_gates p ((number + 1) % 2)) ++ (Sync ∷ [])

  at_end : (s : StandingKnown) → AtTurn p f t generation s → t.batch ≡ p.batches → Fits p (rest_of s) (found_at p t generation p.batches)
  at_end s is last = record { generation = is.side; generation_gate = is.generation_gate; epoch_gate = is.epoch_gate; records = go is.logged; few = omega arith }
    where
      go : ((t.batch < t.records) × RecordsMay s.logged s.maybe t.records) ⊎ ((t.records ≤ t.batch) × (s.logged ≡ t.batch)) → RecordsMay s.logged s.maybe p.batches
      go (inl more) = absurd (omega (arith, more.0, is.few, last))
      go (inr done) = inl (sym last ∙ sym done.1)

  -- while the setting hasn't begun
  end_stops : (r : Rest) (k : ℕ) (h : Follow) → Fits p r (found_at p t generation p.batches) → length ends ≤ k → Stops p (InEpoch p f t.epoch r) h → EndTurn k h
  end_stops r k h fits many stops y of left =
      let long = set_long p number t.gate in
      let still = end_still p t y k (λ is. omega (arith, long.0 is, many)) (omega (arith, long.1, many)) left in
      let known = stops.1.1.1 in
      let stands : Stands p f y h.stands = (
        subst (λ (e : ℕ). Holds p f h.stands e) (sym still.0) known.0,
        subst (λ (q : Rest). Fits p q y) (sym known.1) (record {
          generation = fits.generation ∙ ap (λ (n : ℕ). n % 2) (sym of.0);
          generation_gate = subst (λ (b : Bool). GateMay r.1.0 b) (sym of.1) fits.generation_gate;
          epoch_gate = subst (λ (b : Bool). GateMay r.1.1.0 b) (sym still.1.0) fits.epoch_gate;
          records = subst (λ (n : ℕ). RecordsMay r.1.1.1.0 r.1.1.1.1 n) (sym still.1.1) fits.records;
          few = omega (arith, still.1.1);
        }),
      ) in
      (stops.0, (stops.1.0, subst (λ (o : Option StandingKnown). Allows p f y h.stands o) (sym stops.1.1.0) stands))

  -- the wants' writes are the schedule's
  abbrev pub known_writes : StandingKnown → List ℕ → List Note
  known_writes s ls = writes_anew p s ls (by_falling_level (p.levels + 1)) ++ writes_of (check_cells p (side_number (other s.epoch))) ++ writes_of (log_gates p (side_number s.epoch)) ++ (Sync ∷ [])

  pub next_number : number % 2 ≡ suc t.epoch % 2
  next_number = ap (λ (n : ℕ). n % 2) (ap (λ (n : ℕ). n + 1) (epoch_at p f t.epoch) ∙ add-one t.epoch)

  pub same_writes : (s : StandingKnown) (ls : List ℕ) → Holds p f s t.epoch → ls ≡ leaves_of_batches p f (suc t.epoch) p.batches → known_writes s ls ≡ writes
  same_writes s ls holds shown =
      let check : side_number (other s.epoch) ≡ number % 2 = other_side s.epoch t.epoch holds.side ∙ sym next_number in
      let log : side_number s.epoch ≡ (number + 1) % 2 = own_side s.epoch t.epoch (number + 1) holds.side (omega (arith, epoch_at p f t.epoch)) in
      let buckets : writes_anew p s ls (by_falling_level (p.levels + 1)) ≡ bucket_writes p (λ u. 1 - (public_at p f t.epoch).homes u) (filter (is_lifted_by_end p public) (by_falling_level (p.levels + 1))) =
      (λ i. bucket_writes p (λ u. other_home (s.homes u) ((public_at p f t.epoch).homes u) (holds.homes u) i) (filter (λ u. same_lifted p f s t.epoch all holds ls shown u i) (by_falling_level (p.levels + 1)))) in
      λ i. buckets i ++ writes_of (check_cells p (check i)) ++ writes_of (log_gates p (log i)) ++ (Sync ∷ [])

  pub same_lifts : (s : StandingKnown) (ls : List ℕ) → Holds p f s t.epoch → ls ≡ leaves_of_batches p f (suc t.epoch) p.batches → end_holes p s ls ≡ lifts
  same_lifts s ls holds shown = λ i. final_holes p (λ u. same_counts p f s t.epoch all holds ls shown u i) (holds.counter i)

  -- the end's wants are taken up
  pub loaded_end : (s : StandingKnown) (ls : List ℕ) → t.batch ≡ p.batches → leaves_of_batches p f (suc t.epoch) t.batch ≡ ls → before p f t s ≡ at p s t.batch ls (end_holes p s ls) (end_wants p s ls)
  loaded_end s ls last shown =
      (λ i. cond (le-ltb t.batch p.batches (omega (arith, last)) i)
      (at p s (t.batch + 1) (leaves_of_batches p f (suc t.epoch) t.batch) [] (cond (nat_lt t.batch s.logged) (places p t.batch) (cond ((t.batch == s.logged) && s.maybe) (Record t.batch ∷ []) (record_wants p (other s.epoch) t.batch ++ places p t.batch))))
      (at p s t.batch (leaves_of_batches p f (suc t.epoch) t.batch) (end_holes p s (leaves_of_batches p f (suc t.epoch) t.batch)) (end_wants p s (leaves_of_batches p f (suc t.epoch) t.batch))))
      ∙ ap (λ (xs : List ℕ). at p s t.batch xs (end_holes p s xs) (end_wants p s xs)) shown

  abbrev ended_turn : HistoryTurn
  ended_turn = record { epoch = suc t.epoch; batch = 0; records = 0; gate = true }

  abbrev EndStep : StandingKnown → Type 0
  EndStep s = (s' : StandingKnown) × (AtTurn p f ended_turn generation s' × Walk EndTurn (before p f t s) (notes_of_end p f t) (before p f ended_turn s'))

  ended_at : (s : StandingKnown) (ls : List ℕ) → Stands p f (found_at p t generation p.batches) s → ls ≡ leaves_of_batches p f (suc t.epoch) p.batches
      → AtTurn p f ended_turn generation (standing_ended p (record s { epoch_gate = Closed }) ls)
  ended_at s ls stands shown = record {
    holds = ended_holds p f (record s { epoch_gate = Closed }) t.epoch all (holds_rest p f s t.epoch s.generation s.generation_gate Closed s.logged s.maybe stands.0) ls shown;
    side = stands.1.generation;
    generation_gate = stands.1.generation_gate;
    epoch_gate = refl;
    logged = inr (omega arith, refl);
    few = omega arith;
    low = omega arith;
  }

  pub walk_end : (s : StandingKnown) → AtTurn p f t generation s → t.batch ≡ p.batches → EndStep s
  walk_end s is last =
      let ls : List ℕ = leaves_of_batches p f (suc t.epoch) p.batches in
      let r : Rest = rest_of s in
      let fits : Fits p r (found_at p t generation p.batches) = at_end s is last in
      let wants : List Want = end_wants p s ls in
      let start : before p f t s ≡ taken_up (at p s t.batch ls lifts wants) =
      loaded_end s ls last (ap (leaves_of_batches p f (suc t.epoch)) last) ∙ ap (λ (hs : List Hole). at p s t.batch ls hs wants) (same_lifts s ls is.holds refl)
      ∙ wants_some (writes_anew p s ls (by_falling_level (p.levels + 1)) ++ writes_of (check_cells p (side_number (other s.epoch))) ++ writes_of (log_gates p (side_number s.epoch))) (sets p Epoch (other s.epoch) s.epoch_gate) p s t.batch ls lifts in
      let one = walk_holes p f all t.epoch r s t.batch ls lifts wants (is.holds, refl) (end_are p f t.epoch) in
      let s1 : StandingKnown = one.0 in
      let known : Known p f t.epoch r s1 = one.1.0 in
      let mid : Follow = taken_up (at p s1 t.batch ls [] wants) in
      let set_wants : List Want = sets p Epoch (other s.epoch) s.epoch_gate in
      let ready : Follow = taken_up (at p s1 t.batch ls [] set_wants) in
      let two : Walk (Keeps p f t.epoch r) mid (known_writes s ls) ready = walk_kept p (InEpoch p f t.epoch r) (at p s1 t.batch ls [] []) (known_writes s ls) set_wants (refl, (refl, (refl, known))) in
      let stands : Stands p f (found_at p t generation p.batches) s1 = (known.0, subst (λ (q : Rest). Fits p q (found_at p t generation p.batches)) (sym known.1) fits) in
      let same : s1.epoch ≡ s.epoch = same_side s1.epoch s.epoch (known.0.side ∙ sym is.holds.side) in
      let gate : s1.epoch_gate ≡ s.epoch_gate = ap (λ (q : Rest). q.1.1.0) known.1 in
      let s2 : StandingKnown = standing_ended p (record s1 { epoch_gate = Closed }) ls in
      let three : Walk EndTurn (taken_up (at p s1 t.batch ls [] (sets p Epoch (other s1.epoch) s1.epoch_gate))) ends (taken_up (at p s2 0 [] [] [])) = walk_epoch p f all t generation number s1 stands t.batch ls refl next_number in
      let reads : List Note = hole_reads p (public_at p f t.epoch) (fills_at p f t.epoch) lifts in
      let set_walk : Walk EndTurn ready ends (taken_up (at p s2 0 [] [] [])) = subst (λ (ws : List Want). Walk EndTurn (taken_up (at p s1 t.batch ls [] ws)) ends (taken_up (at p s2 0 [] [] []))) (λ i. sets p Epoch (other (same i)) (gate i)) three in
      let two_weak : Walk (λ k. EndTurn (k + length ends)) mid writes ready = subst (λ (ns : List Note). Walk (λ k. EndTurn (k + length ends)) mid ns ready) (same_writes s ls is.holds refl)
      (walk_weaker (Keeps p f t.epoch r) (λ k. EndTurn (k + length ends)) mid ready (known_writes s ls) (λ k h stops. end_stops r (k + length ends) h fits (omega arith) stops) two) in
      let behind : Walk EndTurn mid (writes ++ ends) (taken_up (at p s2 0 [] [] [])) = walk_join EndTurn mid ready (taken_up (at p s2 0 [] [] [])) writes ends two_weak set_walk in
      let one_weak : Walk (λ k. EndTurn (k + length (writes ++ ends))) (taken_up (at p s t.batch ls lifts wants)) reads mid =
      walk_weaker (Keeps p f t.epoch r) (λ k. EndTurn (k + length (writes ++ ends))) (taken_up (at p s t.batch ls lifts wants)) mid reads
      (λ k h stops. end_stops r (k + length (writes ++ ends)) h fits (omega (arith, length-append writes ends)) stops) one.1.1 in
      let whole : Walk EndTurn (taken_up (at p s t.batch ls lifts wants)) (reads ++ (writes ++ ends)) (taken_up (at p s2 0 [] [] [])) = walk_join EndTurn (taken_up (at p s t.batch ls lifts wants)) mid (taken_up (at p s2 0 [] [] [])) reads (writes ++ ends) one_weak behind in
      (s2, (ended_at s1 ls stands refl, subst (λ (g : Follow). Walk EndTurn g (notes_of_end p f t) (before p f ended_turn s2)) (sym start) whole))

  -- ---- a batch or an end

  pub record_long : (a b : ℕ) → length (record_notes p a t.batch) ≡ length (record_notes p b t.batch)
  record_long a b = long a ∙ sym (long b)
    where
      long : (a : ℕ) → length (record_notes p a t.batch) ≡ record_cells p + 3
      long a = (let cells : List ℕ = map (log_cell p a t.batch) (below (record_cells p)) in
          let one : length (writes_of cells ++ Sync ∷ Write (log_cell p a t.batch (record_cells p)) ∷ Sync ∷ []) ≡ length (writes_of cells) + 3 = length-append (writes_of cells) (Sync ∷ Write (log_cell p a t.batch (record_cells p)) ∷ Sync ∷ []) in
          let two : length (writes_of cells) ≡ length cells = length-map cells (λ (c : ℕ). Write c) in
          let three : length cells ≡ length (below (record_cells p)) = length-map (below (record_cells p)) (log_cell p a t.batch) in
          one ∙ ap (λ (n : ℕ). n + 3) (two ∙ three ∙ length-range_with_len 0 (record_cells p)))

  -- all of the step is taken, and what a stop on the way leaves is allowed
  abbrev Stop : StandingKnown → ℕ → Type 0
  Stop s n = (h : Follow) × (Reach (before p f t s) (take n (notes_of_turn p f t)) h × ((y : RunFound) → IsOf generation y → IsTurnLeft p f t n y → Stops p (Allows p f y) h))

  pub record Steps (s : StandingKnown) : Type 0 where
    pub then : StandingKnown
    pub known : AtTurn p f (next_turn p t) generation then
    pub whole : Reach (before p f t s) (notes_of_turn p f t) (before p f (next_turn p t) then)
    pub stops : (n : ℕ) → Stop s n

  abbrev Stepped : StandingKnown → HistoryTurn → List Note → Bool → Type 0
  Stepped s next notes low =
      (s' : StandingKnown) × (AtTurn p f next generation s' × (Reach (before p f t s) notes (before p f next s')
      × ((n : ℕ) → (h : Follow) × (Reach (before p f t s) (take n notes) h × ((y : RunFound) → IsOf generation y → cond low (IsBatchLeft p t n y) (IsEndLeft p t (length notes - n) y) → Stops p (Allows p f y) h)))))

  repeats : (s : StandingKnown) → AtTurn p f t generation s → (low : t.batch < p.batches) → (more : t.batch < t.records) → Stepped s (record t { batch = suc t.batch }) (notes_of_batch p f t) true
  repeats s is low more =
      let step = walk_repeat p f all t generation low s is more in
      let yes_more : nat_lt t.batch t.records ≡ true = lt-ltb t.batch t.records more in
      let same : notes_of_batch p f t ≡ phase_of = (λ i. cond (yes_more i) phase_of (batch_notes p (public_in_epoch p f t.epoch t.batch) (fills_at p f t.epoch) t.batch)) in (
        step.0,
        (
          step.1.0,
          (
            subst (λ (ns : List Note). Reach (before p f t s) ns (before p f (record t { batch = suc t.batch }) step.0)) (sym same) step.1.1.whole,
            λ n. (let stop = step.1.1.stops n in (
              stop.0,
              (
                subst (λ (ns : List Note). Reach (before p f t s) (take n ns) stop.0) (sym same) stop.1.0,
                λ y of left. stop.1.1 y (of, (left.0, left.1)) (subst (λ (b : Bool). cond b (y.records ≡ t.records) (AreRecordsLeft t.batch (length (record_notes p 0 t.batch) - n) y.records)) yes_more left.2),
              ),
            )),
          ),
        ),
      )
    where
      phase_of : List Note
      phase_of = phase_notes p (public_in_epoch p f t.epoch t.batch) (fills_at p f t.epoch) (batch_leaves p (fills_at p f t.epoch) t.batch)

  begins : (s : StandingKnown) → AtTurn p f t generation s → (low : t.batch < p.batches) → t.records ≤ t.batch → s.logged ≡ t.batch → Stepped s (record t { batch = suc t.batch }) (notes_of_batch p f t) true
  begins s is low new logged =
      let step = walk_begin p f all t generation low s is new logged in
      let no_more : nat_lt t.batch t.records ≡ false = le-ltb t.batch t.records new in
      let phase : List Note = phase_notes p (public_in_epoch p f t.epoch t.batch) (fills_at p f t.epoch) (batch_leaves p (fills_at p f t.epoch) t.batch) in
      let record_part : List Note = record_notes p (((public_at p f t.epoch).epoch + 1) % 2) t.batch in
      let same : notes_of_batch p f t ≡ record_part ++ phase = (λ i. cond (no_more i) phase (record_part ++ phase)) in (
        step.0,
        (
          step.1.0,
          (
            subst (λ (ns : List Note). Reach (before p f t s) ns (before p f (record t { batch = suc t.batch }) step.0)) (sym same) step.1.1.whole,
            λ n. (let stop = step.1.1.stops n in
                let lacks : length (record_notes p 0 t.batch) - n ≡ (length (record_part ++ phase) - n) - length phase =
                omega (arith, length-append record_part phase, record_long 0 (((public_at p f t.epoch).epoch + 1) % 2)) in (
                  stop.0,
                  (
                    subst (λ (ns : List Note). Reach (before p f t s) (take n ns) stop.0) (sym same) stop.1.0,
                    λ y of left. stop.1.1 y (of, (left.0, left.1)) (subst (λ (k : ℕ). AreRecordsLeft t.batch k y.records) lacks
                        (subst (λ (b : Bool). cond b (y.records ≡ t.records) (AreRecordsLeft t.batch (length (record_notes p 0 t.batch) - n) y.records)) no_more left.2)),
                  ),
                )),
          ),
        ),
      )

  batches : (s : StandingKnown) → AtTurn p f t generation s → t.batch < p.batches → Stepped s (record t { batch = suc t.batch }) (notes_of_batch p f t) true
  batches s is low = go is.logged
    where
      go : ((t.batch < t.records) × RecordsMay s.logged s.maybe t.records) ⊎ ((t.records ≤ t.batch) × (s.logged ≡ t.batch)) → Stepped s (record t { batch = suc t.batch }) (notes_of_batch p f t) true
      go (inl more) = repeats s is low more.0
      go (inr new) = begins s is low new.0 new.1

  endings : (s : StandingKnown) → AtTurn p f t generation s → t.batch ≡ p.batches → Stepped s ended_turn (notes_of_end p f t) false
  endings s is last = let step = walk_end s is last in (step.0, (step.1.0, (step.1.1.whole, step.1.1.stops)))

  by_turn : (s : StandingKnown) (low : Bool) → nat_lt t.batch p.batches ≡ low → Stepped s (cond low (record t { batch = suc t.batch }) ended_turn) (cond low (notes_of_batch p f t) (notes_of_end p f t)) low → Steps s
  by_turn s low is stepped =
      let all_same : Stepped s (next_turn p t) (notes_of_turn p f t) (nat_lt t.batch p.batches) =
      subst (λ (b : Bool). Stepped s (cond b (record t { batch = suc t.batch }) ended_turn) (cond b (notes_of_batch p f t) (notes_of_end p f t)) b) (sym is) stepped in
      record { then = all_same.0; known = all_same.1.0; whole = all_same.1.1.0; stops = all_same.1.1.1 }

  pub walk_turn : (s : StandingKnown) → AtTurn p f t generation s → Steps s
  walk_turn s is = go (cases_lt t.batch p.batches)
    where
      go : (t.batch < p.batches) ⊎ (p.batches ≤ t.batch) → Steps s
      go (inl low) = by_turn s true (lt-ltb t.batch p.batches low) (batches s is low)
      go (inr high) = by_turn s false (le-ltb t.batch p.batches high) (endings s is (omega (arith, high, is.low)))
