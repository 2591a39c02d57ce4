-- What is known at a state, of lines whose labels are some leaves, with slots that are some fills'.
use Rattle.std.specs.Prelude.{◌≡◌, ◌<◌, ◌≤◌, ℕ, ◌+◌, ◌==◌, ◌&&◌, nat_lt, Bool, true, false, cond, List, [], ◌∷◌, ◌++◌, map, Option, Some, None}
use Rattle.std.proofs.Common.{suc, refl, sym, ap, ◌∙◌, subst, arith, add-one, append_assoc}
use Rattle.std.proofs.lemmas.Bool.{eq-eqb, ltb-true, ltb-false}
use Rattle.std.proofs.lemmas.List.{append-nil}
use Rattle.ob_base.specs.declared.params.Params.{Params}
use Rattle.ob_base.specs.Tree.{below}
use Rattle.ob_base.specs.Layout.{GenerationTwin, EpochTwin, LogArea, log_cell, log_gate, record_cells}
use Rattle.ob_store.specs.declared.watch.Note.{Note}
use Rattle.ob_store.specs.declared.watch.Note.TheVariants.{Write, Sync}
use Rattle.ob_schedule.specs.Holes.{Hole, final_holes}
use Rattle.ob_schedule.specs.Paths.{by_falling_level}
use Rattle.ob_schedule.specs.Schedule.{counts_now, is_lifted_by_end, first_reads, head_notes, reads_of, writes_of, check_cells, region_cells, log_gates}
use Rattle.ob_schedule.specs.declared.want.Side.TheVariants.{Even}
use Rattle.ob_schedule.specs.declared.want.Gate.TheVariants.{Closed}
use Rattle.ob_schedule.specs.declared.want.Register.TheVariants.{Generation, Epoch}
use Rattle.ob_schedule.specs.declared.want.Change.{Change}
use Rattle.ob_schedule.specs.declared.want.Change.TheVariants.{Keeps, Formats, Settles, Doubts, Closes, SetsGeneration, EndsEpoch, MayLog, Logs}
use Rattle.ob_schedule.specs.declared.want.Want.{Want}
use Rattle.ob_schedule.specs.declared.want.Want.TheVariants.{Fixed, Place, Record, Setting, Checkpoint}
use Rattle.ob_schedule.specs.Sides.{other, side_number}
use Rattle.ob_schedule.specs.Standing.{StandingKnown, public_known, with_label, with_slot}
use Rattle.ob_schedule.specs.Wants.{kept, sets, record_wants, places, found_wants, end_wants, end_holes, writes_anew}
use Rattle.ob_schedule.specs.Follow.{Follow, taken_up, on_from, next_step, opened, opened_wants}
use Rattle.ob_histories.specs.Fills.{AllFills, AreAllFills, public_in_epoch, leaves_of_batches}
use Rattle.ob_histories.proofs.Standing.{Holds}
use Rattle.ob_histories.proofs.Ended.{same_counts}
use Rattle.ob_histories.proofs.Holes.{AreHoles, end_are}
use Rattle.ob_histories.proofs.Fronts.{Rest}
use Rattle.ob_histories.proofs.Labels.{Leaves, InRange}
use Rattle.ob_histories.proofs.Slots.{Slots, filling, leaves_same, holes_same, AreSlots, first_slots, first_are, fills_by}
use Rattle.ob_histories.proofs.SlotsAt.{UntilSettled, StandsAt, before_batch, kept_at, kept_until, generation_ends, epoch_at_end, places_at}

-- ---- what a slot and a label change of what is marked

abbrev pub used_of : StandingKnown → ℕ → ℕ → Bool
used_of s = s.used

abbrev pub slots_of : StandingKnown → Hole → Option ℕ
slots_of s = s.slots

abbrev slot_by : StandingKnown → Hole → ℕ → Option ℕ → StandingKnown
slot_by s h slot o =
    elim o [
      | None ↦ record s {
        used = λ u x. cond ((h.bucket == u) && (slot == x)) true (s.used u x);
        slots = λ g. cond ((h.bucket == g.bucket) && (h.number == g.number)) (Some slot) (s.slots g);
      }
      | Some x ↦ s
    ]

abbrev label_by : StandingKnown → ℕ → ℕ → ℕ → Option ℕ → StandingKnown
label_by s batch place leaf o = elim o [ None ↦ record s { labels = λ b i. cond ((batch == b) && (place == i)) (Some leaf) (s.labels b i) } | Some x ↦ s ]

cond_more : (c b : Bool) → b ≡ true → cond c true b ≡ true
cond_more true b is = refl
cond_more false b is = is

some_is : (x y : ℕ) → ◌≡◌ {A = Option ℕ} (Some x) (Some y) → x ≡ y
some_is x y e = cc

abbrev pub Marked : StandingKnown → Type 0
Marked s = (h : Hole) (x : ℕ) → s.slots h ≡ Some x → s.used h.bucket x ≡ true

pub marked_by : (s t : StandingKnown) → slots_of t ≡ slots_of s → used_of t ≡ used_of s → Marked s → Marked t
marked_by s t slots used marked h x shown =
    ap (λ (f : ℕ → ℕ → Bool). f h.bucket x) used ∙ marked h x (sym (ap (λ (f : Hole → Option ℕ). f h) slots) ∙ shown)

pub slot_marked : (s : StandingKnown) (h : Hole) (x : ℕ) → Marked s → Marked (with_slot s h x)
slot_marked s h x marked = go (s.slots h)
  where
    both_parts : (a b : Bool) → (a && b) ≡ true → a ≡ true
    both_parts true b is = refl
    both_parts false b is = cc

    new_marked : (g : Hole) (y : ℕ) (t : Bool) → ((h.bucket == g.bucket) && (h.number == g.number)) ≡ t → cond t (Some x) (s.slots g) ≡ Some y → cond ((h.bucket == g.bucket) && (x == y)) true (s.used g.bucket y) ≡ true
    new_marked g y true at is =
        (let here : (h.bucket == g.bucket) ≡ true = both_parts (h.bucket == g.bucket) (h.number == g.number) at in
        let same : (x == y) ≡ true = eq-eqb x y (some_is x y is) in
        λ i. cond (here i && same i) true (s.used g.bucket y))
    new_marked g y false at is = cond_more ((h.bucket == g.bucket) && (x == y)) (s.used g.bucket y) (marked g y is)

    go : (o : Option ℕ) → Marked (slot_by s h x o)
    go None = λ g y shown. new_marked g y ((h.bucket == g.bucket) && (h.number == g.number)) refl shown
    go (Some y) = marked

pub slot_more : (s : StandingKnown) (h : Hole) (x u y : ℕ) → s.used u y ≡ true → (with_slot s h x).used u y ≡ true
slot_more s h x u y used = go (s.slots h)
  where
    go : (o : Option ℕ) → (slot_by s h x o).used u y ≡ true
    go None = cond_more ((h.bucket == u) && (x == y)) (s.used u y) used
    go (Some z) = used

pub slot_shown : (s : StandingKnown) (h : Hole) (x : ℕ) → Marked s → ((y : ℕ) → s.slots h ≡ Some y → x ≡ y) → (with_slot s h x).used h.bucket x ≡ true
slot_shown s h x marked same = go (s.slots h) refl
  where
    go : (o : Option ℕ) → s.slots h ≡ o → (slot_by s h x o).used h.bucket x ≡ true
    go None is = λ i. cond (eq-eqb h.bucket h.bucket refl i && eq-eqb x x refl i) true (s.used h.bucket x)
    go (Some y) is = subst (λ (z : ℕ). s.used h.bucket z ≡ true) (sym (same y is)) (marked h y is)

pub label_same : (s : StandingKnown) (b i x : ℕ) → (slots_of (with_label s b i x) ≡ slots_of s) × (used_of (with_label s b i x) ≡ used_of s)
label_same s b i x = go (s.labels b i)
  where
    go : (o : Option ℕ) → (slots_of (label_by s b i x o) ≡ slots_of s) × (used_of (label_by s b i x o) ≡ used_of s)
    go None = (refl, refl)
    go (Some y) = (refl, refl)

-- ---- outside of runs

abbrev pub IsKept : Change → Type 0
IsKept Keeps = Unit {0}
IsKept Formats = Unit {0}
IsKept Settles = ⊥
IsKept (Doubts r) = ⊥
IsKept (Closes r) = ⊥
IsKept SetsGeneration = ⊥
IsKept EndsEpoch = ⊥
IsKept MayLog = ⊥
IsKept Logs = ⊥

abbrev pub OnlyKept : List Want → Type 0
OnlyKept [] = Unit {0}
OnlyKept (Fixed note change ∷ wants) = IsKept change × OnlyKept wants
OnlyKept (Place b i ∷ wants) = ⊥
OnlyKept (Record b ∷ wants) = ⊥
OnlyKept (Setting r ∷ wants) = ⊥
OnlyKept (Checkpoint ∷ wants) = ⊥

abbrev pub IsUnsettled : Bool → List Want → Type 0
IsUnsettled true wants = UntilSettled wants
IsUnsettled false wants = Unit {0}

abbrev pub any_rest : Rest
any_rest = (Even, (Closed, (Closed, (0, false))))

module _ (p : Params) (leaf : Leaves) (within : InRange p leaf) where
  abbrev pub fills : Slots → AllFills
  fills slots = filling p leaf within slots

  -- what goes by the leaves alone is told of these
  abbrev pub bare : AllFills
  bare = filling p leaf within (first_slots p leaf within)

  pub all_bare : AreAllFills p bare
  all_bare = fills_by p leaf within (first_slots p leaf within) (first_are p leaf within)

  abbrev pub WantsAt : Bool → ℕ → List ℕ → ℕ → List Want → Type 0
  WantsAt true epoch leaves batch wants = StandsAt p bare epoch leaves batch wants
  WantsAt false epoch leaves batch wants = OnlyKept wants

  -- what the last end may have left
  pub record IsNewer (slots : Slots) (epoch : ℕ) (s t : StandingKnown) : Type 0 where
    pub holds : Holds p (fills slots) t (suc epoch)
    pub none : (h : Hole) → t.slots h ≡ None
    pub more : (u x : ℕ) → is_lifted_by_end p (public_in_epoch p bare epoch p.batches) u ≡ false → s.used u x ≡ true → t.used u x ≡ true

  abbrev pub NewerIs : Slots → ℕ → StandingKnown → Option StandingKnown → Bool → List Hole → List Want → Type 0
  NewerIs slots epoch s None runs holes wants = Unit {0}
  NewerIs slots epoch s (Some t) runs holes wants = IsNewer slots epoch s t × (IsUnsettled runs wants × (holes ≡ []))

  pub record Slotted (slots : Slots) (epoch : ℕ) (k : Follow) : Type 0 where
    pub params : k.params ≡ p
    pub few : k.batch ≤ p.batches
    pub holds : Holds p (fills slots) k.stands epoch
    pub marked : Marked k.stands
    pub newer : NewerIs slots epoch k.stands k.newer k.runs k.holes k.wants
    pub holes : AreHoles p bare epoch k.holes
    pub wants : WantsAt k.runs epoch k.leaves k.batch k.wants

  pub no_newer : (slots : Slots) (epoch : ℕ) (s : StandingKnown) (o : Option StandingKnown) (runs : Bool) (hs : List Hole) (ws : List Want) → o ≡ None → NewerIs slots epoch s o runs hs ws
  no_newer slots epoch s o runs hs ws none = subst (λ (o : Option StandingKnown). NewerIs slots epoch s o runs hs ws) (sym none) tt

  pub never_newer : (slots : Slots) (epoch : ℕ) (s : StandingKnown) (o : Option StandingKnown) (runs : Bool) (hs : List Hole) (ws : List Want) → (IsUnsettled runs ws → ⊥) → NewerIs slots epoch s o runs hs ws → o ≡ None
  never_newer slots epoch s None runs hs ws never is = refl
  never_newer slots epoch s (Some t) runs hs ws never is = absurd (never is.1.0)

  pub slot_newer : (slots : Slots) (epoch : ℕ) (s : StandingKnown) (o : Option StandingKnown) (runs : Bool) (h : Hole) (hs : List Hole) (ws : List Want) → NewerIs slots epoch s o runs (h ∷ hs) ws → o ≡ None
  slot_newer slots epoch s None runs h hs ws is = refl
  slot_newer slots epoch s (Some t) runs h hs ws is = absurd (let never : ◌≡◌ {A = List Hole} (h ∷ hs) [] = is.1.1 in cc)

  pub leaves_by : (slots : Slots) (epoch batches : ℕ) (ls tail : List ℕ) → ls ≡ leaves_of_batches p bare epoch batches ++ tail → ls ≡ leaves_of_batches p (fills slots) epoch batches ++ tail
  leaves_by slots epoch batches ls tail is = is ∙ ap (λ (xs : List ℕ). xs ++ tail) (leaves_same p leaf within (first_slots p leaf within) slots epoch batches)

  -- ---- what is taken up

  batch_at : (epoch b : ℕ) (s : StandingKnown) (ls : List ℕ) (low both : Bool) → b < p.batches → ls ≡ before_batch p bare epoch b
      → StandsAt p bare epoch ls (b + 1) (cond low (places p b) (cond both (Record b ∷ []) (record_wants p (other s.epoch) b ++ places p b)))
  batch_at epoch b s ls low both few is = subst (λ (c : ℕ). StandsAt p bare epoch ls c (cond low (places p b) (cond both (Record b ∷ []) (record_wants p (other s.epoch) b ++ places p b)))) (sym (add-one b)) (go low both)
    where
      all_places : StandsAt p bare epoch ls (suc b) (places p b)
      all_places = places_at p bare epoch all_bare any_rest p.places ls b 0 few (omega arith) (is ∙ sym (append-nil (before_batch p bare epoch b)))

      front : List Note
      front = map (λ c. Write c) (map (log_cell p (side_number (other s.epoch)) b) (below (record_cells p)))

      gates : List Want
      gates = Fixed Sync Keeps ∷ Fixed (Write (log_gate p (side_number (other s.epoch)) b)) MayLog ∷ Fixed Sync Logs ∷ []

      go : (low both : Bool) → StandsAt p bare epoch ls (suc b) (cond low (places p b) (cond both (Record b ∷ []) (record_wants p (other s.epoch) b ++ places p b)))
      go true both = all_places
      go false true = (few, (is, (refl, refl)))
      go false false =
          subst (λ (ws : List Want). StandsAt p bare epoch ls (suc b) ws) (sym (append_assoc (kept front) gates (places p b)))
          (kept_at p bare epoch ls (suc b) front (gates ++ places p b) all_places)

  module _ (slots : Slots) (epoch : ℕ) (k0 : Follow) (are : AreSlots p leaf within slots) (is : Slotted slots epoch (record k0 { params = p; holes = []; wants = []; runs = true })) where
    abbrev k : Follow
    k = record k0 { params = p; holes = []; wants = []; runs = true }

    none_newer : k0.newer ≡ None
    none_newer = never_newer slots epoch k0.stands k0.newer true [] [] (λ never. never) is.newer

    begins : k0.batch < p.batches → Slotted slots epoch (record k {
      batch = k0.batch + 1;
      wants = cond (nat_lt k0.batch k0.stands.logged) (places p k0.batch) (cond ((k0.batch == k0.stands.logged) && k0.stands.maybe) (Record k0.batch ∷ []) (record_wants p (other k0.stands.epoch) k0.batch ++ places p k0.batch));
    })
    begins low = record {
      params = refl;
      few = omega (arith, low);
      holds = is.holds;
      marked = is.marked;
      newer = no_newer slots epoch k0.stands k0.newer true [] (cond (nat_lt k0.batch k0.stands.logged) (places p k0.batch)
          (cond ((k0.batch == k0.stands.logged) && k0.stands.maybe) (Record k0.batch ∷ []) (record_wants p (other k0.stands.epoch) k0.batch ++ places p k0.batch))) none_newer;
      holes = tt;
      wants = batch_at epoch k0.batch k0.stands k0.leaves (nat_lt k0.batch k0.stands.logged) ((k0.batch == k0.stands.logged) && k0.stands.maybe) low is.wants;
    }

    ends : p.batches ≤ k0.batch → Slotted slots epoch (record k { holes = end_holes p k0.stands k0.leaves; wants = end_wants p k0.stands k0.leaves })
    ends high = record {
      params = refl;
      few = is.few;
      holds = is.holds;
      marked = is.marked;
      newer = no_newer slots epoch k0.stands k0.newer true (end_holes p k0.stands k0.leaves) (end_wants p k0.stands k0.leaves) none_newer;
      holes = holes_same p leaf within slots (first_slots p leaf within) epoch (end_holes p k0.stands k0.leaves) holes;
      wants = kept_at p bare epoch k0.leaves k0.batch
          (writes_anew p k0.stands k0.leaves (by_falling_level (p.levels + 1)) ++ writes_of (check_cells p (side_number (other k0.stands.epoch))) ++ writes_of (log_gates p (side_number k0.stands.epoch)) ++ (Sync ∷ []))
          (sets p Epoch (other k0.stands.epoch) k0.stands.epoch_gate) (epoch_at_end p bare epoch k0.leaves k0.batch (other k0.stands.epoch) k0.stands.epoch_gate all_leaves);
    }
      where
        all_leaves : k0.leaves ≡ before_batch p bare epoch p.batches
        all_leaves = (let all : k0.batch ≡ p.batches = omega (arith, high, is.few) in subst (λ (b : ℕ). k0.leaves ≡ before_batch p bare epoch b) all is.wants)

        shown : k0.leaves ≡ leaves_of_batches p (fills slots) (suc epoch) p.batches
        shown = all_leaves ∙ leaves_same p leaf within (first_slots p leaf within) slots (suc epoch) p.batches

        same : counts_now p (public_known p k0.stands k0.leaves) ≡ counts_now p (public_in_epoch p (fills slots) epoch p.batches)
        same = λ i u. same_counts p (fills slots) k0.stands epoch (fills_by p leaf within slots are) is.holds k0.leaves shown u i

        holes : AreHoles p (fills slots) epoch (end_holes p k0.stands k0.leaves)
        holes = subst (λ (hs : List Hole). AreHoles p (fills slots) epoch hs) (λ i. final_holes p (sym same i) (sym is.holds.counter i)) (end_are p (fills slots) epoch)

    step_slotted : Slotted slots epoch (next_step k)
    step_slotted = go (nat_lt k0.batch p.batches) refl
      where
        go : (low : Bool) → nat_lt k0.batch p.batches ≡ low → Slotted slots epoch (cond low
            (record k {
              batch = k0.batch + 1;
              wants = cond (nat_lt k0.batch k0.stands.logged) (places p k0.batch) (cond ((k0.batch == k0.stands.logged) && k0.stands.maybe) (Record k0.batch ∷ []) (record_wants p (other k0.stands.epoch) k0.batch ++ places p k0.batch));
            })
            (record k { holes = end_holes p k0.stands k0.leaves; wants = end_wants p k0.stands k0.leaves }))
        go true low = begins (ltb-true k0.batch p.batches low)
        go false high = ends (ltb-false k0.batch p.batches high)

  pub up_slotted : (slots : Slots) (epoch : ℕ) (k : Follow) → AreSlots p leaf within slots → Slotted slots epoch k → Slotted slots epoch (taken_up k)
  up_slotted slots epoch k are is = go k.holes k.wants k.runs refl refl refl
    where
      go : (hs : List Hole) (ws : List Want) (runs : Bool) → k.holes ≡ hs → k.wants ≡ ws → k.runs ≡ runs → Slotted slots epoch (on_from hs ws runs k)
      go (h ∷ hs) ws runs a b c = is
      go [] (w ∷ ws) runs a b c = is
      go [] [] false a b c = is
      go [] [] true a b c =
          (let same : k ≡ record k { params = p; holes = []; wants = []; runs = true } = (λ i. record k { params = is.params i; holes = a i; wants = b i; runs = c i }) in
          subst (λ (g : Follow). Slotted slots epoch (next_step g)) (sym same) (step_slotted slots epoch k are (subst (λ (g : Follow). Slotted slots epoch g) same is)))

  -- ---- a run begins

  found_at : (q : Params) (s : StandingKnown) (epoch : ℕ) → StandsAt p bare epoch [] 0 (found_wants q s)
  found_at q s epoch = kept_at p bare epoch [] 0 (reads_of (check_cells q (side_number s.epoch)) ++ reads_of (region_cells q (LogArea (side_number (other s.epoch)))))
      (Fixed Sync Settles ∷ sets q Generation (other s.generation) s.generation_gate) (generation_ends p bare epoch (other s.generation) s.generation_gate)

  pub opening_slotted : (slots : Slots) (epoch : ℕ) (mirrored : Bool) (k : Follow) → Slotted slots epoch k → Slotted slots epoch (opened mirrored k)
  opening_slotted slots epoch mirrored k is = go k.formatted
    where
      front : List Note
      front = first_reads k.params mirrored ++ reads_of (region_cells k.params GenerationTwin ++ region_cells k.params EpochTwin)

      wants : (o : Option StandingKnown) → StandsAt p bare epoch [] 0 (opened_wants k.params mirrored k.stands o)
      wants None = kept_at p bare epoch [] 0 front (found_wants k.params k.stands) (found_at k.params k.stands epoch)
      wants (Some newer) = kept_at p bare epoch [] 0 front (Checkpoint ∷ []) refl

      newer_runs : (o : Option StandingKnown) → NewerIs slots epoch k.stands o k.runs k.holes k.wants → NewerIs slots epoch k.stands o true [] (opened_wants k.params mirrored k.stands o)
      newer_runs None was = tt
      newer_runs (Some t) was = (was.0, (kept_until front (Checkpoint ∷ []) tt, refl))

      newer_idle : (o : Option StandingKnown) → NewerIs slots epoch k.stands o k.runs k.holes k.wants → NewerIs slots epoch k.stands o false [] (kept head_notes)
      newer_idle None was = tt
      newer_idle (Some t) was = (was.0, (tt, refl))

      go : (b : Bool) → Slotted slots epoch (cond b (record k { runs = true; chosen = false; batch = 0; leaves = []; holes = []; wants = opened_wants k.params mirrored k.stands k.newer }) (record k { runs = false; holes = []; wants = kept head_notes }))
      go true = record { params = is.params; few = omega arith; holds = is.holds; marked = is.marked; newer = newer_runs k.newer is.newer; holes = tt; wants = wants k.newer }
      go false = record { params = is.params; few = is.few; holds = is.holds; marked = is.marked; newer = newer_idle k.newer is.newer; holes = tt; wants = (tt, tt) }
