-- The other calls of a row of runs.
use Rattle.std.specs.Prelude.{◌≡◌, ◌⊎◌, ℕ, zero, suc, ◌+◌, ◌^◌, ◌<◌, List, [], ◌∷◌, ◌++◌, length, map, Option, None, Some, ⊤}
use Rattle.std.proofs.Common.{arith, refl, sym, ap, subst, ◌∙◌, inl, inr, append_assoc}
use Rattle.std.proofs.lemmas.List.{append-nil, length-map}
use Rattle.ob_base.specs.declared.params.Params.{Params}
use Rattle.ob_deniable.proofs.Pairs.{cons_head, cons_tail}
use Rattle.ob_deniable.specs.Works.{LifeWork, Opens, SameShape, VersionSlots, acts_of}
use Rattle.ob_deniable_runs.proofs.Calling.{Makes, again_puts, again_same, counted, puts_join}
use Rattle.ob_deniable_runs.proofs.Denied.{own_shape}
use Rattle.ob_deniable_runs.specs.OtherCalls.{AreOtherRuns, IsWorkOfOpening, IsWorkOfRuns, OtherRun, shows_again}
use Rattle.ob_deniable_runs.specs.RunsDenied.{work_of}
use Rattle.ob_fresh.specs.Drawn.{AllDrawNext, WordsKept}
use Rattle.ob_recover.specs.Calls.{Finds, repeated}
use Rattle.ob_recover.specs.Known.{gates_open}
use Rattle.ob_recover.specs.Life.{Append, IsLife, LifeAct, LifeBatch, LifeState, Open, ShowBatch, ShowLifts, WordId, life_step, reached}
use Rattle.ob_recover.specs.LifePublic.{public_in}
use Rattle.ob_recover.specs.Lives.{life_batch}
use Rattle.ob_schedule.specs.Schedule.{Fills}
use Rattle.ob_seal.specs.declared.keys.Keys.{Keys}
use Rattle.ob_serial.specs.Vaults.{End, Fetch, VaultCall}
use Rattle.ob_store.specs.Disk.{Disk}
use Rattle.ob_store.specs.declared.event.Event.{Event}
use Rattle.ob_vault.specs.Hidden.{RingDrawsCut, RingHidden}
use Rattle.ob_vault.specs.Joined.{AreParts, RunPart, Served, Stopped}
use Rattle.ob_vault.specs.Lives.{IsLeftInLife, opening_acts}
use Rattle.ob_vault.specs.Shown.{AreFilledBy}
use Rattle.ob_vault.specs.RingKind.{RingFound, ring_hidden, ring_public}
use Rattle.ob_vault.specs.Shapes.{Shape}
use Rattle.ob_deniable_draws.proofs.Matching.{CallsMatch, RefusedMatch, calls_matched, calls_work, join_shapes, refused_matched, refused_work}

reached_on : (p : Params) (tape : WordId → ℕ) (s : LifeState) (xs ys : List LifeAct) → reached p tape s (xs ++ ys) ≡ reached p tape (reached p tape s xs) ys
reached_on p tape s [] ys = refl
reached_on p tape s (x ∷ xs) ys = reached_on p tape (life_step p tape s x) xs ys

-- ---- openings

pub repeated_more : (n k : ℕ) → repeated (n + k) ≡ repeated n ++ repeated k
repeated_more zero k = ap repeated (let z : 0 + k ≡ k = omega arith in z)
repeated_more (suc n) k = ap repeated (let z : suc n + k ≡ suc (n + k) = omega arith in z) ∙ ap (λ (xs : List LifeAct). ShowBatch ∷ xs) (repeated_more n k)

abbrev IsFront : ℕ → List LifeAct → Type 0
IsFront m xs = (n : ℕ) × (k : ℕ) × (xs ≡ repeated n) × (m ≡ n + k)

front_more : (m : ℕ) (x : LifeAct) (xs : List LifeAct) → x ≡ ShowBatch → IsFront m xs → IsFront (suc m) (x ∷ xs)
front_more m x xs head (n, k, is, many) = (suc n, k, (λ i. head i ∷ is i), omega arith)

front_repeated : (m : ℕ) (xs ys : List LifeAct) → repeated m ≡ xs ++ ys → IsFront m xs
front_repeated m [] ys e = (0, m, refl, omega arith)
front_repeated zero (x ∷ xs) ys e = absurd (cc)
front_repeated (suc m) (x ∷ xs) ys e = front_more m x xs (sym (cons_head ShowBatch x (repeated m) (xs ++ ys) e)) (front_repeated m xs ys (cons_tail ShowBatch x (repeated m) (xs ++ ys) e))

pub acts_again : (e : ℕ) (slots : VersionSlots) (n : ℕ) (W : List LifeWork) → acts_of e slots (shows_again n ++ W) ≡ repeated n ++ acts_of e slots W
acts_again e slots zero W = refl
acts_again e slots (suc n) W = ap (λ (xs : List LifeAct). ShowBatch ∷ xs) (acts_again e slots n W)

again_state : (p : Params) (tape : WordId → ℕ) (n : ℕ) (s : LifeState) → reached p tape s (repeated n) ≡ record s { begun = s.begun + n }
again_state p tape zero s = λ i. record s { begun = (let z : s.begun ≡ s.begun + 0 = omega arith in z) i }
again_state p tape (suc n) s = again_state p tape n (life_step p tape s ShowBatch) ∙ (λ i. record s { begun = (let z : (s.begun + 1) + n ≡ s.begun + suc n = omega arith in z) i })

-- where a life is behind an opening
abbrev pub at_opening : LifeState → LifeState
at_opening s = record s { generation = suc s.generation; drawn = 0; begun = length s.log }

pub opened_is : (p : Params) (tape : WordId → ℕ) (s : LifeState) → reached p tape s (opening_acts s) ≡ at_opening s
opened_is p tape s = again_state p tape (length s.log) (life_step p tape s (Open (suc s.generation))) ∙ (λ i. record (at_opening s) { begun = (let z : 0 + length s.log ≡ length s.log = omega arith in z) i })

abbrev pub opening_work : LifeState → List LifeWork
opening_work s = Opens (suc s.generation) ∷ shows_again (length s.log)

-- the first acts of an opening, and their work
abbrev pub StoppedMatch : LifeState → List LifeAct → List LifeWork → Type 0
StoppedMatch s acts work = ((acts ≡ []) × (work ≡ [])) ⊎ ((n : ℕ) × (k : ℕ) × (length s.log ≡ n + k) × (acts ≡ Open (suc s.generation) ∷ repeated n) × (work ≡ Opens (suc s.generation) ∷ shows_again n))

module _ (p : Params) where
  opening_shape : (s : LifeState) (n : ℕ) → SameShape (map work_of (Open (suc s.generation) ∷ repeated n)) (Opens (suc s.generation) ∷ shows_again n)
  opening_shape s n = (refl, subst (λ (w : List LifeWork). SameShape w (shows_again n)) (sym (again_same n)) (own_shape (shows_again n)))

  stopped_matched : (at : ℕ × ℕ) (s : LifeState) (first rest : List LifeAct) → opening_acts s ≡ first ++ rest → Makes p at first (StoppedMatch s first)
  stopped_matched at s [] rest is = record { work = []; shape = tt; puts = tt; is = inl (refl, refl) }
  stopped_matched at s (x ∷ xs) rest is =
      let head : Open (suc s.generation) ≡ x = cons_head (Open (suc s.generation)) x (repeated (length s.log)) (xs ++ rest) is in
      let front : IsFront (length s.log) xs = front_repeated (length s.log) xs rest (cons_tail (Open (suc s.generation)) x (repeated (length s.log)) (xs ++ rest) is) in
      let whole : x ∷ xs ≡ Open (suc s.generation) ∷ repeated front.0 = (λ i. sym head i ∷ front.2 i) in
      record {
        work = Opens (suc s.generation) ∷ shows_again front.0;
        shape = subst (λ (ys : List LifeAct). SameShape (map work_of ys) (Opens (suc s.generation) ∷ shows_again front.0)) (sym whole) (opening_shape s front.0);
        puts = again_puts p (suc s.generation, 0) front.0;
        is = inr (front.0, front.1, front.3, whole, refl);
      }

  stopped_work : (s : LifeState) (acts : List LifeAct) (work : List LifeWork) → StoppedMatch s acts work → (more : List LifeWork) × IsWorkOfOpening (work ++ more)
  stopped_work s acts work (inl (none, empty)) = (Opens 0 ∷ [], (0, 0, ap (λ (w : List LifeWork). w ++ Opens 0 ∷ []) empty))
  stopped_work s acts work (inr (n, k, many, is, are)) = ([], (suc s.generation, n, append-nil work ∙ are))

-- ---- the row's runs, side by side with a work

-- what is known of a run: the calls that were answered drew its steps, behind an opening where the life is
pub record RowRun (p : Params) (w : WordId → ℕ) (s : LifeState) (found : RingFound) (calls : List VaultCall) (steps : List (Shape × Fills)) (behind : RingHidden) (called : List LifeAct) : Type 0 where
  pub known : (ring_public p found).known ≡ public_in p w s (gates_open (found.run).gates)
  pub is_life : IsLife p w s called
  pub turn : (k : WordsKept) → k.drawn ≡ s.drawn → AllDrawNext p w s k called
  pub drawn_then : (reached p w s called).drawn ≡ length behind.words
  pub generation_then : (reached p w s called).generation ≡ behind.generation
  pub batches_then : length behind.records ≡ length (reached p w s called).log
  pub low : (ring_hidden found).generation < 2 ^ 62
  pub epoch : (ring_hidden found).epoch < 2 ^ 62

-- what fills the holes of the call that was refused, as far as it showed
abbrev CutFilled : (p : Params) → (w : WordId → ℕ) → LifeState → (behind : RingHidden) → VaultCall → (words : List ℕ) → (left : List LifeAct) → Type 0
CutFilled p w s behind (Fetch asks) words left = (b : LifeBatch) → left ≡ Append b ∷ ShowBatch ∷ [] → (f : Fills) → RingDrawsCut p behind (Fetch asks) f words → AreFilledBy p w s (Append b ∷ ShowBatch ∷ []) (Fetch asks) f
CutFilled p w s behind (End writes) words left = (f : Fills) → RingDrawsCut p behind (End writes) f words → AreFilledBy p w s (ShowLifts ∷ []) (End writes) f

abbrev pub RowCut : (p : Params) → (w : WordId → ℕ) → LifeState → (behind : RingHidden) → Option VaultCall → (words : List ℕ) → (left : List LifeAct) → Type 0
RowCut p w s behind None words left = ⊤
RowCut p w s behind (Some call) words left = CutFilled p w s behind call words left

two_acts : (A : Type 0) (xs ys : List LifeAct) (a b : LifeAct) → xs ≡ [] → xs ++ ys ≡ a ∷ b ∷ [] → (in_flight : Option LifeAct) → Finds in_flight ys → A
two_acts A xs ys a b none is in_flight (inl nothing) = absurd (no_act a (b ∷ []) ((λ i. sym none i ++ sym nothing i) ∙ is))
  where
    no_act : (x : LifeAct) (zs : List LifeAct) → ◌≡◌ {A = List LifeAct} [] (x ∷ zs) → ⊥
    no_act x zs e = cc
two_acts A xs ys a b none is in_flight (inr (c, flies, one)) = absurd (no_more c a b ((λ i. sym none i ++ sym one i) ∙ is))
  where
    no_more : (x y z : LifeAct) → x ∷ [] ≡ y ∷ z ∷ [] → ⊥
    no_more x y z e = cc

one_append : (b c : LifeBatch) → Append b ≡ Append c → b ≡ c
one_append b c e = cc

module _ (keys : Keys) (most : ℕ) (p : Params) (w : WordId → ℕ) (s : LifeState) (behind : RingHidden) (words : List ℕ) (seen : List Event) (new : Disk) where
  row_cut : (refused : Option VaultCall) (left : IsLeftInLife keys most p w s behind refused words seen new) (rest : List LifeAct) → Finds left.in_flight rest → RowCut p w s behind refused words (left.made ++ rest)
  row_cut None left rest finds = tt
  row_cut (Some (Fetch asks)) left rest finds = λ b is f draws. elim (left.shown (Fetch asks) refl) [
    | inl (acts, filled) ↦ (
        let made : (c : LifeBatch) × (left.made ≡ Append c ∷ ShowBatch ∷ []) = elim acts [ inl own ↦ (own.0, own.2) | inr showing ↦ (showing.0, showing.2) ] in
        let same : made.0 ≡ b = one_append made.0 b (cons_head (Append made.0) (Append b) (ShowBatch ∷ rest) (ShowBatch ∷ []) ((λ i. sym made.1 i ++ rest) ∙ is)) in
        subst (λ (xs : List LifeAct). AreFilledBy p w s xs (Fetch asks) f) (made.1 ∙ (λ i. Append (same i) ∷ ShowBatch ∷ [])) (filled f draws))
    | inr (none, barely) ↦ two_acts (AreFilledBy p w s (Append b ∷ ShowBatch ∷ []) (Fetch asks) f) left.made rest (Append b) ShowBatch none is left.in_flight finds
  ]
  row_cut (Some (End writes)) left rest finds = λ f draws. elim (left.shown (End writes) refl) [
    | inl (acts, filled) ↦ elim acts [
      | inl own ↦ (let x = subst (λ (xs : List LifeAct). AreFilledBy p w s xs (End writes) f) own.3 (filled f draws) in record { labels = x.labels; slots = x.slots })
      | inr showing ↦ subst (λ (xs : List LifeAct). AreFilledBy p w s xs (End writes) f) showing (filled f draws)
    ]
    | inr (none, barely) ↦ absurd barely
  ]

module _ {S : Type 0} (p : Params) (w : WordId → ℕ) where
  abbrev pub RunsMatch : LifeState → List (RunPart S) → List OtherRun → List LifeAct → List LifeWork → Type 0
  RunsMatch s [] [] acts work = (acts ≡ []) × (work ≡ [])
  RunsMatch s [] (run ∷ runs) acts work = ⊥
  RunsMatch s (Served most old found opened calls steps behind refused words seen new ∷ parts) [] acts work = ⊥
  RunsMatch s (Served most old found opened calls steps behind refused words seen new ∷ parts) (run ∷ runs) acts work =
      (called : List LifeAct) × (left : List LifeAct) × (later : List LifeAct) × (called_work : List LifeWork) × (left_work : List LifeWork) × (later_work : List LifeWork)
      × (acts ≡ opening_acts s ++ (called ++ (left ++ later))) × (work ≡ opening_work s ++ (called_work ++ (left_work ++ later_work)))
      × CallsMatch p w (reached p w s (opening_acts s)) calls run.calls steps called called_work × RefusedMatch refused run.refused left left_work
      × RowRun p w (reached p w s (opening_acts s)) found calls steps behind called
      × RowCut p w (reached p w (reached p w s (opening_acts s)) called) behind refused words left × RunsMatch (reached p w (reached p w (reached p w s (opening_acts s)) called) left) parts runs later later_work
  RunsMatch s (Stopped old new ∷ parts) runs acts work =
      (first : List LifeAct) × (later : List LifeAct) × (first_work : List LifeWork) × (later_work : List LifeWork) × (acts ≡ first ++ later) × (work ≡ first_work ++ later_work)
      × StoppedMatch s first first_work × RunsMatch (reached p w s first) parts runs later later_work

  pub runs_work : (s : LifeState) (parts : List (RunPart S)) (runs : List OtherRun) (acts : List LifeAct) (work : List LifeWork) → RunsMatch s parts runs acts work → IsWorkOfRuns parts runs work
  runs_work s [] [] acts work m = m.1
  runs_work s [] (run ∷ runs) acts work m = absurd m
  runs_work s (Served most old found opened calls steps behind refused words seen new ∷ parts) [] acts work m = absurd m
  runs_work s (Served most old found opened calls steps behind refused words seen new ∷ parts) (run ∷ runs) acts work (called, left, later, called_work, left_work, later_work, are, is, match, cut, row, row_left, more) = (
    (opening_work s ++ called_work) ++ left_work,
    later_work,
    is ∙ sym (append_assoc (opening_work s) called_work (left_work ++ later_work)) ∙ sym (append_assoc (opening_work s ++ called_work) left_work later_work),
    (opening_work s, called_work, left_work, refl, (suc s.generation, length s.log, refl), calls_work p w (reached p w s (opening_acts s)) calls run.calls steps called called_work match, refused_work refused run.refused left left_work cut),
    runs_work (reached p w (reached p w (reached p w s (opening_acts s)) called) left) parts runs later later_work more,
  )
  runs_work s (Stopped old new ∷ parts) runs acts work (first, later, first_work, later_work, are, is, match, more) = (first_work, later_work, is, stopped_work p s first first_work match, runs_work (reached p w s first) parts runs later later_work more)

  -- ---- such a work is made

  module _ (disk : S → Disk) (keys : Keys) where
    pub runs_matched : (at : ℕ × ℕ) (s : LifeState) (parts : List (RunPart S)) (runs : List OtherRun) (acts : List LifeAct) → AreOtherRuns p parts runs → AreParts disk keys p w s parts acts → Makes p at acts (RunsMatch s parts runs acts)
    runs_matched at s [] [] acts like is = record { work = []; shape = subst (λ (xs : List LifeAct). SameShape (map work_of xs) []) (sym is) tt; puts = tt; is = (is, refl) }
    runs_matched at s [] (run ∷ runs) acts like is = absurd like
    runs_matched at s (Served most old found opened calls steps behind refused words seen new ∷ parts) [] acts like is = absurd like
    runs_matched at s (Served most old found opened calls steps behind refused words seen new ∷ parts) (other ∷ runs) acts like (first, later, is, (run, m, is_map, rest, finds, are), more) =
        let left = (run.goes).left m is_map in
        let s1 : LifeState = reached p w s (opening_acts s) in
        let called : List LifeAct = (run.goes).acts in
        let cut_acts : List LifeAct = left.made ++ rest in
        let calls_made = calls_matched p w (counted at (opening_work s)) s1 calls other.calls steps called like.0 (run.goes).shown in
        let at2 : ℕ × ℕ = counted (counted at (opening_work s)) calls_made.work in
        let cut = refused_matched p at2 refused other.refused left.made rest left.in_flight like.1 left.first finds in
        let state : reached p w s first ≡ reached p w (reached p w s1 called) cut_acts = ap (reached p w s) are ∙ reached_on p w s (opening_acts s ++ called) cut_acts ∙ ap (λ (t : LifeState). reached p w t cut_acts) (reached_on p w s (opening_acts s) called) in
        let then = runs_matched (counted at2 cut.work) (reached p w (reached p w s1 called) cut_acts) parts runs later like.2 (subst (λ (t : LifeState). AreParts disk keys p w t parts later) state more) in
        let whole : acts ≡ opening_acts s ++ (called ++ (cut_acts ++ later)) =
        is ∙ ap (λ (xs : List LifeAct). xs ++ later) are ∙ append_assoc (opening_acts s ++ called) cut_acts later ∙ append_assoc (opening_acts s) called (cut_acts ++ later) in
        let shape : SameShape (map work_of (opening_acts s ++ (called ++ (cut_acts ++ later)))) (opening_work s ++ (calls_made.work ++ (cut.work ++ then.work))) =
        join_shapes (opening_acts s) (called ++ (cut_acts ++ later)) (opening_work s) (calls_made.work ++ (cut.work ++ then.work)) (opening_shape p s (length s.log))
        (join_shapes called (cut_acts ++ later) calls_made.work (cut.work ++ then.work) calls_made.shape (join_shapes cut_acts later cut.work then.work cut.shape then.shape)) in
        let standing = is_map.at in
        record {
          work = opening_work s ++ (calls_made.work ++ (cut.work ++ then.work));
          shape = subst (λ (xs : List LifeAct). SameShape (map work_of xs) (opening_work s ++ (calls_made.work ++ (cut.work ++ then.work)))) (sym whole) shape;
          puts = puts_join p at (opening_work s) (calls_made.work ++ (cut.work ++ then.work)) (again_puts p (suc s.generation, 0) (length s.log))
              (puts_join p (counted at (opening_work s)) calls_made.work (cut.work ++ then.work) calls_made.puts (puts_join p at2 cut.work then.work cut.puts then.puts));
          is = (
            called,
            cut_acts,
            later,
            calls_made.work,
            cut.work,
            then.work,
            whole,
            refl,
            calls_made.is,
            cut.is,
            record {
              known = run.known;
              is_life = (run.goes).is_life;
              turn = (run.goes).turn;
              drawn_then = ((run.goes).then).drawn;
              generation_then = ((run.goes).then).generation;
              batches_then = sym (length-map behind.records life_batch) ∙ sym (ap length (((run.goes).then).life).log);
              low = subst (λ (n : ℕ). n < 2 ^ 62) (sym (standing.runs).generation_is) ((standing.stands).generation).small;
              epoch = subst (λ (n : ℕ). n < 2 ^ 62) (sym (standing.runs).epoch_is) ((standing.stands).epoch).small;
            },
            row_cut keys most p w (reached p w s1 called) behind words seen (disk new) refused left rest finds,
            then.is,
          );
        }
    runs_matched at s (Stopped old new ∷ parts) runs acts like (first, later, is, (rest, opens), more) =
        let part = stopped_matched p at s first rest opens in
        let then = runs_matched (counted at part.work) (reached p w s first) parts runs later like more in
        record {
          work = part.work ++ then.work;
          shape = subst (λ (xs : List LifeAct). SameShape (map work_of xs) (part.work ++ then.work)) (sym is) (join_shapes first later part.work then.work part.shape then.shape);
          puts = puts_join p at part.work then.work part.puts then.puts;
          is = (first, later, part.work, then.work, is, refl, part.is, then.is);
        }
