-- Of lines that are admitted each label is its place's leaf, by some leaves.
use Rattle.std.specs.Prelude.{◌≡◌, ◌<◌, ◌≤◌, ◌⊎◌, ℕ, ◌+◌, ◌^◌, ◌==◌, ◌&&◌, nat_lt, Bool, true, false, cond, List, [], ◌∷◌, ◌++◌, map, drop, Option, Some, None}
use Rattle.std.specs.List.{range_with_len}
use Rattle.std.proofs.Common.{zero, suc, refl, sym, ap, ◌∙◌, subst, subst₂, inl, inr, arith, add-one, append_assoc}
use Rattle.std.proofs.lemmas.Nat.{pow_pos}
use Rattle.std.proofs.lemmas.Bool.{ltb-true, ltb-false, eqb-true, eq-eqb, ne_eqb}
use Rattle.ob_base.specs.declared.params.Params.{Params}
use Rattle.ob_base.specs.Tree.{below}
use Rattle.ob_base.specs.Layout.{GenerationTwin, EpochTwin, LogArea, log_cell, log_gate, record_cells}
use Rattle.ob_store.specs.declared.watch.Note.{Note}
use Rattle.ob_store.specs.declared.watch.Note.TheVariants.{Label, Write, Sync}
use Rattle.ob_schedule.specs.Holes.{Hole}
use Rattle.ob_schedule.specs.Schedule.{first_reads, format_notes, head_notes, reads_of, writes_of, check_cells, region_cells, log_gates}
use Rattle.ob_schedule.specs.declared.line.Line.{Line}
use Rattle.ob_schedule.specs.declared.line.Line.TheVariants as L
use Rattle.ob_schedule.specs.declared.want.Gate.{Gate}
use Rattle.ob_schedule.specs.declared.want.Gate.TheVariants.{Open, Closed, Unsure}
use Rattle.ob_schedule.specs.declared.want.Register.{Register}
use Rattle.ob_schedule.specs.declared.want.Register.TheVariants.{Generation, Epoch}
use Rattle.ob_schedule.specs.declared.want.Change.{Change}
use Rattle.ob_schedule.specs.declared.want.Change.TheVariants.{Keeps, Formats, Settles, Doubts, Closes, SetsGeneration, EndsEpoch, MayLog, Logs}
use Rattle.ob_schedule.specs.declared.want.Want.{Want}
use Rattle.ob_schedule.specs.declared.want.Want.TheVariants.{Fixed, Place, Record, Setting, Checkpoint}
use Rattle.ob_schedule.specs.declared.want.Side.{Side}
use Rattle.ob_schedule.specs.Sides.{other, side_number}
use Rattle.ob_schedule.specs.Standing.{StandingKnown, with_label, with_slot, standing_formatted, standing_ended}
use Rattle.ob_schedule.specs.Wants.{kept, setting, sets, record_wants, places, found_wants, end_wants, end_holes, writes_anew}
use Rattle.ob_schedule.specs.Paths.{by_falling_level}
use Rattle.ob_schedule.specs.Follow.{Follow, TakesLine, TakesNote, TakesWant, MayLabel, shows_label, repeated_batch, with_gate, taken_up, on_from, next_step, changed, next_side, opened, opened_wants, newer_or_same, format_wants, started}
use Rattle.ob_histories.specs.Filled.{settled_by, settled_next, epoch_behind, IsOfLeaves, TakesLabelled, HasNoStart}
use Rattle.ob_histories.specs.Laws.{TakesLines, LabelsAreLeaves}
use Rattle.ob_histories.proofs.Fronts.{same_label}
use Rattle.ob_histories.proofs.Standing.{same_two}

abbrev pub Leaves : Type 0
Leaves = (epoch batch place : ℕ) → ℕ

label_or_write : (x c : ℕ) (n : Note) → n ≡ Label x → n ≡ Write c → ⊥
label_or_write x c n a b = cc

-- ---- which labels may come

abbrev PlainChange : Change → Type 0
PlainChange Settles = ⊥
PlainChange Logs = ⊥
PlainChange change = Unit {0}

abbrev Plain : List Want → Type 0
Plain [] = Unit {0}
Plain (Fixed note change ∷ wants) = PlainChange change × Plain wants
Plain (Setting r ∷ wants) = wants ≡ []
Plain (Place b i ∷ wants) = ⊥
Plain (Record b ∷ wants) = ⊥
Plain (Checkpoint ∷ wants) = ⊥

abbrev ByChange : Change → Type 0 → Type 0 → Type 0 → Type 0
ByChange Settles plain logs stays = plain
ByChange Logs plain logs stays = logs
ByChange change plain logs stays = stays

-- a label is wanted once its batch is logged
abbrev WantsOk : ℕ → ℕ → List Want → Type 0
WantsOk batch logged [] = Unit {0}
WantsOk batch logged (Fixed note change ∷ wants) = ByChange change (Plain wants) ((logged ≤ batch) × WantsOk batch batch wants) (WantsOk batch logged wants)
WantsOk batch logged (Place b i ∷ wants) = (b < logged) × WantsOk batch logged wants
WantsOk batch logged (Record b ∷ wants) = (b ≡ logged) × ((batch ≡ suc b) × (wants ≡ []))
WantsOk batch logged (Setting r ∷ wants) = wants ≡ []
WantsOk batch logged (Checkpoint ∷ wants) = wants ≡ []

plain_ok : (batch logged : ℕ) (wants : List Want) → Plain wants → WantsOk batch logged wants
plain_ok batch logged [] plain = tt
plain_ok batch logged (Fixed note Keeps ∷ wants) plain = plain_ok batch logged wants plain.1
plain_ok batch logged (Fixed note Formats ∷ wants) plain = plain_ok batch logged wants plain.1
plain_ok batch logged (Fixed note Settles ∷ wants) plain = absurd plain.0
plain_ok batch logged (Fixed note (Doubts r) ∷ wants) plain = plain_ok batch logged wants plain.1
plain_ok batch logged (Fixed note (Closes r) ∷ wants) plain = plain_ok batch logged wants plain.1
plain_ok batch logged (Fixed note SetsGeneration ∷ wants) plain = plain_ok batch logged wants plain.1
plain_ok batch logged (Fixed note EndsEpoch ∷ wants) plain = plain_ok batch logged wants plain.1
plain_ok batch logged (Fixed note MayLog ∷ wants) plain = plain_ok batch logged wants plain.1
plain_ok batch logged (Fixed note Logs ∷ wants) plain = absurd plain.0
plain_ok batch logged (Setting r ∷ wants) plain = plain
plain_ok batch logged (Place b i ∷ wants) plain = absurd plain
plain_ok batch logged (Record b ∷ wants) plain = absurd plain
plain_ok batch logged (Checkpoint ∷ wants) plain = absurd plain

kept_ok : (batch logged : ℕ) (ns : List Note) (wants : List Want) → WantsOk batch logged wants → WantsOk batch logged (kept ns ++ wants)
kept_ok batch logged [] wants ok = ok
kept_ok batch logged (n ∷ ns) wants ok = kept_ok batch logged ns wants ok

dropped_ok : (batch logged : ℕ) (ns : List Note) (w : Want) (wants : List Want) → WantsOk batch logged (w ∷ wants) → WantsOk batch logged wants → WantsOk batch logged (drop 1 (kept ns ++ w ∷ wants))
dropped_ok batch logged [] w wants ok rest = rest
dropped_ok batch logged (n ∷ ns) w wants ok rest = kept_ok batch logged ns (w ∷ wants) ok

places_ok : (batch logged b a n : ℕ) → b < logged → WantsOk batch logged (map (λ i. Place b i) (range_with_len a n))
places_ok batch logged b a zero low = tt
places_ok batch logged b a (suc n) low = (low, places_ok batch logged b (a + 1) n low)

places_dropped : (batch logged b n : ℕ) → b < logged → WantsOk batch logged (drop 1 (map (λ i. Place b i) (range_with_len 0 n)))
places_dropped batch logged b zero low = tt
places_dropped batch logged b (suc n) low = places_ok batch logged b 1 n low

generation_plain : (p : Params) (side : Side) (gate : Gate) → Plain (sets p Generation side gate)
generation_plain p side Open = (tt, (tt, (tt, (tt, (tt, (tt, tt))))))
generation_plain p side Closed = (tt, (tt, (tt, (tt, tt))))
generation_plain p side Unsure = refl

epoch_ok : (batch logged : ℕ) (p : Params) (side : Side) (gate : Gate) → WantsOk batch logged (sets p Epoch side gate)
epoch_ok batch logged p side Open = tt
epoch_ok batch logged p side Closed = tt
epoch_ok batch logged p side Unsure = refl

-- ---- what is known

pub record Labelled (p : Params) (leaf : Leaves) (epoch : ℕ) (k : Follow) : Type 0 where
  pub params : k.params ≡ p
  pub known : (b i x : ℕ) → k.stands.labels b i ≡ Some x → leaf (suc epoch) b i ≡ x
  pub logged : (b i x : ℕ) → k.stands.labels b i ≡ Some x → b < k.stands.logged
  pub newer : (s : StandingKnown) → k.newer ≡ Some s → (b i : ℕ) → s.labels b i ≡ None
  pub wants : WantsOk k.batch k.stands.logged k.wants

-- only what is wanted changes
rewanted : (p : Params) (leaf : Leaves) (epoch : ℕ) (k : Follow) (holes : List Hole) (wants : List Want) (batch : ℕ) → Labelled p leaf epoch k → WantsOk batch k.stands.logged wants
    → Labelled p leaf epoch (record k { holes = holes; wants = wants; batch = batch })
rewanted p leaf epoch k holes wants batch is ok = record { params = is.params; known = is.known; logged = is.logged; newer = is.newer; wants = ok }

batch_wants : (p : Params) (s : StandingKnown) (b : ℕ) (low both : Bool) → nat_lt b s.logged ≡ low → ((b == s.logged) && s.maybe) ≡ both
    → WantsOk (b + 1) s.logged (cond low (places p b) (cond both (Record b ∷ []) (record_wants p (other s.epoch) b ++ places p b)))
batch_wants p s b true both low is = places_ok (b + 1) s.logged b 0 p.places (ltb-true b s.logged low)
batch_wants p s b false true high is = (both_same b s.logged s.maybe is, (add-one b, refl))
  where
    both_same : (x y : ℕ) (m : Bool) → ((x == y) && m) ≡ true → x ≡ y
    both_same x y m same = eqb-true x y (first (x == y) m same)
      where
        first : (a m : Bool) → (a && m) ≡ true → a ≡ true
        first true m h = refl
        first false m h = cc
batch_wants p s b false false high is =
    let many : s.logged ≤ b = ltb-false b s.logged high in
    let front : List Note = map (λ c. Write c) (map (log_cell p (side_number (other s.epoch)) b) (below (record_cells p))) in
    assoc_ok (b + 1) s.logged front _ (places p b) (kept_ok (b + 1) s.logged front _ (omega (arith, many), places_ok (b + 1) (b + 1) b 0 p.places (omega arith)))
  where
    assoc_ok : (batch logged : ℕ) (ns : List Note) (xs ys : List Want) → WantsOk batch logged (kept ns ++ (xs ++ ys)) → WantsOk batch logged ((kept ns ++ xs) ++ ys)
    assoc_ok batch logged ns xs ys ok = subst (λ (ws : List Want). WantsOk batch logged ws) (sym (append_assoc (kept ns) xs ys)) ok

step_labelled : (p : Params) (leaf : Leaves) (epoch : ℕ) (k : Follow) → Labelled p leaf epoch k → Labelled p leaf epoch (next_step k)
step_labelled p leaf epoch k is = go (nat_lt k.batch k.params.batches)
  where
    go : (low : Bool) → Labelled p leaf epoch (cond low
        (record k { batch = k.batch + 1; wants = cond (nat_lt k.batch k.stands.logged) (places k.params k.batch) (cond ((k.batch == k.stands.logged) && k.stands.maybe) (Record k.batch ∷ []) (record_wants k.params (other k.stands.epoch) k.batch ++ places k.params k.batch)) })
        (record k { holes = end_holes k.params k.stands k.leaves; wants = end_wants k.params k.stands k.leaves }))
    go true = rewanted p leaf epoch k k.holes (cond (nat_lt k.batch k.stands.logged) (places k.params k.batch) (cond ((k.batch == k.stands.logged) && k.stands.maybe) (Record k.batch ∷ []) (record_wants k.params (other k.stands.epoch) k.batch ++ places k.params k.batch)))
        (k.batch + 1) is (batch_wants k.params k.stands k.batch (nat_lt k.batch k.stands.logged) ((k.batch == k.stands.logged) && k.stands.maybe) refl refl)
    go false = rewanted p leaf epoch k (end_holes k.params k.stands k.leaves) (end_wants k.params k.stands k.leaves) k.batch is (kept_ok k.batch k.stands.logged
        (writes_anew k.params k.stands k.leaves (by_falling_level (k.params.levels + 1)) ++ writes_of (check_cells k.params (side_number (other k.stands.epoch))) ++ writes_of (log_gates k.params (side_number k.stands.epoch)) ++ (Sync ∷ []))
        (sets k.params Epoch (other k.stands.epoch) k.stands.epoch_gate) (epoch_ok k.batch k.stands.logged k.params (other k.stands.epoch) k.stands.epoch_gate))

up_labelled : (p : Params) (leaf : Leaves) (epoch : ℕ) (k : Follow) → Labelled p leaf epoch k → Labelled p leaf epoch (taken_up k)
up_labelled p leaf epoch k is = go k.holes k.wants k.runs
  where
    go : (hs : List Hole) (ws : List Want) (runs : Bool) → Labelled p leaf epoch (on_from hs ws runs k)
    go (h ∷ hs) ws runs = is
    go [] (w ∷ ws) runs = is
    go [] [] true = step_labelled p leaf epoch k is
    go [] [] false = is

-- labels and the epoch don't change with what is taken up
pub up_stands : (k : Follow) → (taken_up k).stands ≡ k.stands
up_stands k = go k.holes k.wants k.runs
  where
    step : (low : Bool) (g h : Follow) → g.stands ≡ k.stands → h.stands ≡ k.stands → (cond low g h).stands ≡ k.stands
    step true g h a b = a
    step false g h a b = b

    go : (hs : List Hole) (ws : List Want) (runs : Bool) → (on_from hs ws runs k).stands ≡ k.stands
    go (h ∷ hs) ws runs = refl
    go [] (w ∷ ws) runs = refl
    go [] [] true = step (nat_lt k.batch k.params.batches) _ _ refl refl
    go [] [] false = refl

-- ---- a line

abbrev pub InRange : Params → Leaves → Type 0
InRange p leaf = (e b i : ℕ) → leaf e b i < 2 ^ p.levels

-- other leaves that are the same where they are known
abbrev pub AgreeLeaves : Leaves → Leaves → ℕ → StandingKnown → Type 0
AgreeLeaves leaf other epoch s = ((e b i : ℕ) → e ≤ epoch → other e b i ≡ leaf e b i) × ((b i x : ℕ) → s.labels b i ≡ Some x → other (suc epoch) b i ≡ x)

record Step (p : Params) (leaf : Leaves) (epoch : ℕ) (k : Follow) (hs : List Hole) (ws : List Want) (note : Note) (next : Follow) : Type 0 where
  leaf_then : Leaves
  within : InRange p leaf_then
  past : (e b i : ℕ) → e ≤ epoch → leaf_then e b i ≡ leaf e b i
  known : (b i x : ℕ) → k.stands.labels b i ≡ Some x → leaf_then (suc epoch) b i ≡ x
  keeps : ((settled_next hs ws k epoch ≡ epoch) × ((b i x : ℕ) → k.stands.labels b i ≡ Some x → next.stands.labels b i ≡ Some x)) ⊎ (settled_next hs ws k epoch ≡ suc epoch)
  labelled : Labelled p leaf_then (settled_next hs ws k epoch) next
  shows : (leaf_last : Leaves) → AgreeLeaves leaf_then leaf_last (settled_next hs ws k epoch) next.stands → IsOfLeaves leaf_last epoch hs ws note

module _ (p : Params) where
  -- as known before, with other wants
  labelled_by : (leaf : Leaves) (epoch : ℕ) (k g : Follow) → Labelled p leaf epoch k → g.params ≡ p → g.stands.labels ≡ k.stands.labels → k.stands.logged ≤ g.stands.logged
      → ((s : StandingKnown) → g.newer ≡ Some s → (b i : ℕ) → s.labels b i ≡ None) → WantsOk g.batch g.stands.logged g.wants → Labelled p leaf epoch g
  labelled_by leaf epoch k g is params labels more newer ok = record {
    params = params;
    known = λ b i x shown. is.known b i x (sym (ap (λ (l : ℕ → ℕ → Option ℕ). l b i) labels) ∙ shown);
    logged = λ b i x shown. (let low : b < k.stands.logged = is.logged b i x (sym (ap (λ (l : ℕ → ℕ → Option ℕ). l b i) labels) ∙ shown) in omega (arith, low, more));
    newer = newer;
    wants = ok;
  }

  -- no label, and no end
  quiet : (leaf : Leaves) (epoch : ℕ) (k : Follow) (hs : List Hole) (ws : List Want) (note : Note) (next g : Follow) → InRange p leaf → Labelled p leaf epoch k → settled_next hs ws k epoch ≡ epoch → next ≡ taken_up g
      → g.stands.labels ≡ k.stands.labels → Labelled p leaf epoch g → ((last : Leaves) → IsOfLeaves last epoch hs ws note) → Step p leaf epoch k hs ws note next
  quiet leaf epoch k hs ws note next g within is still same labels then shows =
      let stands : next.stands.labels ≡ k.stands.labels = ap (λ (h : Follow). h.stands.labels) same ∙ ap (λ (s : StandingKnown). s.labels) (up_stands g) ∙ labels in
      record {
        leaf_then = leaf;
        within = within;
        past = λ e b i low. refl;
        known = is.known;
        keeps = inl (still, λ b i x shown. ap (λ (l : ℕ → ℕ → Option ℕ). l b i) stands ∙ shown);
        labelled = subst₂ (λ (n : ℕ) (h : Follow). Labelled p leaf n h) (sym still) (sym same) (up_labelled p leaf epoch g then);
        shows = λ last agree. shows last;
      }

  abbrev labels_of : StandingKnown → ℕ → ℕ → Option ℕ
  labels_of s = s.labels

  abbrev logged_of : StandingKnown → ℕ
  logged_of s = s.logged

  slot_same : (s : StandingKnown) (h : Hole) (x : ℕ) → (labels_of (with_slot s h x) ≡ labels_of s) × (logged_of (with_slot s h x) ≡ logged_of s)
  slot_same s h x = go (s.slots h)
    where
      go : (o : Option ℕ) → (labels_of (elim o [
        | None ↦ record s { used = λ u y. cond ((h.bucket == u) && (x == y)) true (s.used u y); slots = λ g. cond ((h.bucket == g.bucket) && (h.number == g.number)) (Some x) (s.slots g) }
        | Some y ↦ s
      ]) ≡ labels_of s) × (logged_of (elim o [
        | None ↦ record s { used = λ u y. cond ((h.bucket == u) && (x == y)) true (s.used u y); slots = λ g. cond ((h.bucket == g.bucket) && (h.number == g.number)) (Some x) (s.slots g) }
        | Some y ↦ s
      ]) ≡ logged_of s)
      go None = (refl, refl)
      go (Some y) = (refl, refl)

  -- ---- a label

  abbrev with_leaf : Leaves → ℕ → ℕ → ℕ → ℕ → Leaves
  with_leaf leaf epoch b i x = λ e b' i'. cond ((e == suc epoch) && ((b == b') && (i == i'))) x (leaf e b' i')

  -- leaves with the label, which were any where it wasn't known
  record Labels (leaf : Leaves) (epoch : ℕ) (s : StandingKnown) (b i x : ℕ) : Type 0 where
    then : Leaves
    within : InRange p then
    past : (e b' i' : ℕ) → e ≤ epoch → then e b' i' ≡ leaf e b' i'
    known : (b' i' y : ℕ) → (with_label s b i x).labels b' i' ≡ Some y → then (suc epoch) b' i' ≡ y
    keeps : (b' i' y : ℕ) → s.labels b' i' ≡ Some y → (with_label s b i x).labels b' i' ≡ Some y
    shown : (with_label s b i x).labels b i ≡ Some x
    only : (b' i' y : ℕ) → (with_label s b i x).labels b' i' ≡ Some y → (b' ≡ b) ⊎ (s.labels b' i' ≡ Some y)
    logged : (with_label s b i x).logged ≡ s.logged

  some_same : (x y : ℕ) → ◌≡◌ {A = Option ℕ} (Some x) (Some y) → x ≡ y
  some_same x y e = cc

  range_by : (c : Bool) (x y : ℕ) → x < 2 ^ p.levels → y < 2 ^ p.levels → cond c x y < 2 ^ p.levels
  range_by true x y a b = a
  range_by false x y a b = b

  one_label : (leaf : Leaves) (epoch : ℕ) (s : StandingKnown) (b i x : ℕ) (o : Option ℕ) → s.labels b i ≡ o → InRange p leaf → ((b' i' y : ℕ) → s.labels b' i' ≡ Some y → leaf (suc epoch) b' i' ≡ y)
      → (o ≡ None → x < 2 ^ p.levels) → ((y : ℕ) → o ≡ Some y → x ≡ y) → Labels leaf epoch s b i x
  one_label leaf epoch s b i x (Some y) is within known low same =
      let stays : with_label s b i x ≡ s = ap (λ (o : Option ℕ). elim o [ None ↦ record s { labels = λ b' i'. cond ((b == b') && (i == i')) (Some x) (s.labels b' i') } | Some z ↦ s ]) is in
      record {
        then = leaf;
        within = within;
        past = λ e b' i' few. refl;
        known = λ b' i' z shown. known b' i' z (sym (ap (λ (t : StandingKnown). t.labels b' i') stays) ∙ shown);
        keeps = λ b' i' z shown. ap (λ (t : StandingKnown). t.labels b' i') stays ∙ shown;
        shown = ap (λ (t : StandingKnown). t.labels b i) stays ∙ is ∙ ap {A = ℕ} {B = Option ℕ} (λ (n : ℕ). Some n) (sym (same y refl));
        only = λ b' i' z shown. inr (sym (ap (λ (t : StandingKnown). t.labels b' i') stays) ∙ shown);
        logged = ap (λ (t : StandingKnown). t.logged) stays;
      }
  one_label leaf epoch s b i x None is within known low same =
      let changes : with_label s b i x ≡ record s { labels = λ b' i'. cond ((b == b') && (i == i')) (Some x) (s.labels b' i') } =
      ap (λ (o : Option ℕ). elim o [ None ↦ record s { labels = λ b' i'. cond ((b == b') && (i == i')) (Some x) (s.labels b' i') } | Some z ↦ s ]) is in
      record {
        then = with_leaf leaf epoch b i x;
        within = λ e b' i'. range_by ((e == suc epoch) && ((b == b') && (i == i'))) x (leaf e b' i') (low refl) (within e b' i');
        past = λ e b' i' few. ap (λ (c : Bool). cond (c && ((b == b') && (i == i'))) x (leaf e b' i')) (ne_eqb e (suc epoch) (λ same_epoch. omega (arith, few, same_epoch)));
        known = λ b' i' y shown. known_then b' i' y ((b == b') && (i == i')) refl (sym (ap (λ (t : StandingKnown). t.labels b' i') changes) ∙ shown);
        keeps = λ b' i' y shown. ap (λ (t : StandingKnown). t.labels b' i') changes ∙ kept_then b' i' y ((b == b') && (i == i')) refl shown;
        shown = ap (λ (t : StandingKnown). t.labels b i) changes ∙ (λ j. cond (eq-eqb b b refl j && eq-eqb i i refl j) (Some x) (s.labels b i));
        only = λ b' i' y shown. only_then b' i' y ((b == b') && (i == i')) refl (sym (ap (λ (t : StandingKnown). t.labels b' i') changes) ∙ shown);
        logged = ap (λ (t : StandingKnown). t.logged) changes;
      }
    where
      known_then : (b' i' y : ℕ) (c : Bool) → ((b == b') && (i == i')) ≡ c → cond c (Some x) (s.labels b' i') ≡ Some y → cond ((suc epoch == suc epoch) && ((b == b') && (i == i'))) x (leaf (suc epoch) b' i') ≡ y
      known_then b' i' y true at shown = (λ j. cond (eq-eqb (suc epoch) (suc epoch) refl j && at j) x (leaf (suc epoch) b' i')) ∙ some_same x y shown
      known_then b' i' y false at shown = (λ j. cond (eq-eqb (suc epoch) (suc epoch) refl j && at j) x (leaf (suc epoch) b' i')) ∙ known b' i' y shown

      kept_then : (b' i' y : ℕ) (c : Bool) → ((b == b') && (i == i')) ≡ c → s.labels b' i' ≡ Some y → cond ((b == b') && (i == i')) (Some x) (s.labels b' i') ≡ Some y
      kept_then b' i' y true at shown = (let both = same_two b i b' i' at in let never : ◌≡◌ {A = Option ℕ} None (Some y) = sym is ∙ (λ j. s.labels (both.0 j) (both.1 j)) ∙ shown in absurd (cc))
      kept_then b' i' y false at shown = ap (λ (c : Bool). cond c (Some x) (s.labels b' i')) at ∙ shown

      only_then : (b' i' y : ℕ) (c : Bool) → ((b == b') && (i == i')) ≡ c → cond c (Some x) (s.labels b' i') ≡ Some y → (b' ≡ b) ⊎ (s.labels b' i' ≡ Some y)
      only_then b' i' y true at shown = inl (sym (same_two b i b' i' at).0)
      only_then b' i' y false at shown = inr shown

  -- a state whose standing shows the label too
  label_step : (leaf : Leaves) (epoch : ℕ) (k : Follow) (hs : List Hole) (ws : List Want) (note : Note) (next g : Follow) (s : StandingKnown) (b i x : ℕ) → Labelled p leaf epoch k → settled_next hs ws k epoch ≡ epoch → next ≡ taken_up g
      → s.labels ≡ k.stands.labels → g.params ≡ p → g.stands ≡ with_label s b i x → g.newer ≡ k.newer → b < s.logged → k.stands.logged ≤ s.logged → WantsOk g.batch s.logged g.wants → Labels leaf epoch s b i x
      → ((last : Leaves) → last (suc epoch) b i ≡ x → IsOfLeaves last epoch hs ws note) → Step p leaf epoch k hs ws note next
  label_step leaf epoch k hs ws note next g s b i x is still same labels params stands newer low more ok l shows =
      let there : next.stands ≡ with_label s b i x = ap (λ (h : Follow). h.stands) same ∙ up_stands g ∙ stands in
      let long : g.stands.logged ≡ s.logged = ap (λ (t : StandingKnown). t.logged) stands ∙ l.logged in
      let then : Labelled p l.then epoch g = record {
        params = params;
        known = λ b' i' y shown. l.known b' i' y (sym (ap (λ (t : StandingKnown). t.labels b' i') stands) ∙ shown);
        logged = λ b' i' y shown. below_by b' i' y (l.only b' i' y (sym (ap (λ (t : StandingKnown). t.labels b' i') stands) ∙ shown)) long;
        newer = λ t some. is.newer t (sym newer ∙ some);
        wants = subst (λ (n : ℕ). WantsOk g.batch n g.wants) (sym long) ok;
      } in
      record {
        leaf_then = l.then;
        within = l.within;
        past = l.past;
        known = λ b' i' y shown. l.known b' i' y (l.keeps b' i' y (ap (λ (t : ℕ → ℕ → Option ℕ). t b' i') labels ∙ shown));
        keeps = inl (still, λ b' i' y shown. ap (λ (t : StandingKnown). t.labels b' i') there ∙ l.keeps b' i' y (ap (λ (t : ℕ → ℕ → Option ℕ). t b' i') labels ∙ shown));
        labelled = subst₂ (λ (n : ℕ) (h : Follow). Labelled p l.then n h) (sym still) (sym same) (up_labelled p l.then epoch g then);
        shows = λ last agree. shows last (ap (λ (n : ℕ). last (suc n) b i) (sym still) ∙ agree.1 b i x (ap (λ (t : StandingKnown). t.labels b i) there ∙ l.shown));
      }
    where
      below_by : (b' i' y : ℕ) → ((b' ≡ b) ⊎ (s.labels b' i' ≡ Some y)) → g.stands.logged ≡ s.logged → b' < g.stands.logged
      below_by b' i' y (inl at) long = omega (arith, at, low, long)
      below_by b' i' y (inr shown) long = (let was : b' < k.stands.logged = is.logged b' i' y (sym (ap (λ (t : ℕ → ℕ → Option ℕ). t b' i') labels) ∙ shown) in omega (arith, was, more, long))

  -- ---- any note

  module _ (leaf : Leaves) (epoch : ℕ) (k : Follow) (within : InRange p leaf) (is : Labelled p leaf epoch k) (note : Note) (next : Follow) where
    by_settling : (wants : List Want) (c : Bool) (o : Option StandingKnown) → k.chosen ≡ c → k.newer ≡ o → Plain wants → (wanted : Note)
        → next ≡ taken_up (changed Settles (record k { wants = wants })) → Step p leaf epoch k [] (Fixed wanted Settles ∷ wants) note next
    by_settling wants false o chosen newer plain wanted same =
        quiet leaf epoch k [] (Fixed wanted Settles ∷ wants) note next (changed Settles (record k { wants = wants })) within is (ap (λ (c : Bool). cond c (elim k.newer [ None ↦ epoch | Some s ↦ suc epoch ]) epoch) chosen) same
        (ap (λ (c : Bool). (cond c (newer_or_same k.stands k.newer) k.stands).labels) chosen)
        (labelled_by leaf epoch k (changed Settles (record k { wants = wants })) is is.params (ap (λ (c : Bool). (cond c (newer_or_same k.stands k.newer) k.stands).labels) chosen)
        (let e : (cond k.chosen (newer_or_same k.stands k.newer) k.stands).logged ≡ k.stands.logged = ap (λ (c : Bool). (cond c (newer_or_same k.stands k.newer) k.stands).logged) chosen in omega (arith, e))
        (λ s never. absurd (cc)) (plain_ok 0 _ wants plain)) (λ last. tt)
    by_settling wants true None chosen newer plain wanted same =
        let stands : cond k.chosen (newer_or_same k.stands k.newer) k.stands ≡ k.stands = (λ i. cond (chosen i) (newer_or_same k.stands (newer i)) k.stands) in
        quiet leaf epoch k [] (Fixed wanted Settles ∷ wants) note next (changed Settles (record k { wants = wants })) within is (λ i. cond (chosen i) (elim (newer i) [ None ↦ epoch | Some s ↦ suc epoch ]) epoch) same
        (ap (λ (s : StandingKnown). s.labels) stands)
        (labelled_by leaf epoch k (changed Settles (record k { wants = wants })) is is.params (ap (λ (s : StandingKnown). s.labels) stands)
        (let e : (cond k.chosen (newer_or_same k.stands k.newer) k.stands).logged ≡ k.stands.logged = ap (λ (s : StandingKnown). s.logged) stands in omega (arith, e))
        (λ s never. absurd (cc)) (plain_ok 0 _ wants plain)) (λ last. tt)
    by_settling wants true (Some newer) chosen some plain wanted same =
        let stands : cond k.chosen (newer_or_same k.stands k.newer) k.stands ≡ newer = (λ i. cond (chosen i) (newer_or_same k.stands (some i)) k.stands) in
        let index : cond k.chosen (elim k.newer [ None ↦ epoch | Some s ↦ suc epoch ]) epoch ≡ suc epoch = (λ i. cond (chosen i) (elim (some i) [ None ↦ epoch | Some s ↦ suc epoch ]) epoch) in
        let g : Follow = changed Settles (record k { wants = wants }) in
        let none : (b i x : ℕ) → g.stands.labels b i ≡ Some x → ⊥ = (λ b i x shown. (let never : ◌≡◌ {A = Option ℕ} None (Some x) = sym (is.newer newer some b i) ∙ sym (ap (λ (s : StandingKnown). s.labels b i) stands) ∙ shown in cc)) in
        record {
          leaf_then = leaf;
          within = within;
          past = λ e b i low. refl;
          known = is.known;
          keeps = inr index;
          labelled = subst₂ (λ (n : ℕ) (h : Follow). Labelled p leaf n h) (sym index) (sym same) (up_labelled p leaf (suc epoch) g (record {
            params = is.params;
            known = λ b i x shown. absurd (none b i x shown);
            logged = λ b i x shown. absurd (none b i x shown);
            newer = λ s never. absurd (cc);
            wants = plain_ok 0 g.stands.logged wants plain;
          }));
          shows = λ last agree. tt;
        }

    -- a change that keeps the labels
    by_keeping : (wanted : Note) (change : Change) (wants : List Want) → ((n : ℕ) → settled_by change k n ≡ n) → next ≡ taken_up (changed change (record k { wants = wants }))
        → (changed change (record k { wants = wants })).stands.labels ≡ k.stands.labels → Labelled p leaf epoch (changed change (record k { wants = wants })) → Step p leaf epoch k [] (Fixed wanted change ∷ wants) note next
    by_keeping wanted change wants still same labels then = quiet leaf epoch k [] (Fixed wanted change ∷ wants) note next (changed change (record k { wants = wants })) within is (still epoch) same labels then (λ last. tt)

    by_fixed : (wanted : Note) (change : Change) (wants : List Want) → WantsOk k.batch k.stands.logged (Fixed wanted change ∷ wants) → next ≡ taken_up (changed change (record k { wants = wants }))
        → Step p leaf epoch k [] (Fixed wanted change ∷ wants) note next
    by_fixed wanted Keeps wants ok same = by_keeping wanted Keeps wants (λ n. refl) same refl (labelled_by leaf epoch k (changed Keeps (record k { wants = wants })) is is.params refl (omega arith) is.newer ok)
    by_fixed wanted Formats wants ok same = by_keeping wanted Formats wants (λ n. refl) same refl (labelled_by leaf epoch k (changed Formats (record k { wants = wants })) is is.params refl (omega arith) is.newer ok)
    by_fixed wanted Settles wants ok same = by_settling wants k.chosen k.newer refl refl ok wanted same
    by_fixed wanted (Doubts Generation) wants ok same = by_keeping wanted (Doubts Generation) wants (λ n. refl) same refl (labelled_by leaf epoch k (changed (Doubts Generation) (record k { wants = wants })) is is.params refl (omega arith) is.newer ok)
    by_fixed wanted (Doubts Epoch) wants ok same = by_keeping wanted (Doubts Epoch) wants (λ n. refl) same refl (labelled_by leaf epoch k (changed (Doubts Epoch) (record k { wants = wants })) is is.params refl (omega arith) is.newer ok)
    by_fixed wanted (Closes Generation) wants ok same = by_keeping wanted (Closes Generation) wants (λ n. refl) same refl (labelled_by leaf epoch k (changed (Closes Generation) (record k { wants = wants })) is is.params refl (omega arith) is.newer ok)
    by_fixed wanted (Closes Epoch) wants ok same = by_keeping wanted (Closes Epoch) wants (λ n. refl) same refl (labelled_by leaf epoch k (changed (Closes Epoch) (record k { wants = wants })) is is.params refl (omega arith) is.newer ok)
    by_fixed wanted SetsGeneration wants ok same = by_keeping wanted SetsGeneration wants (λ n. refl) same refl (labelled_by leaf epoch k (changed SetsGeneration (record k { wants = wants })) is is.params refl (omega arith) is.newer ok)
    by_fixed wanted EndsEpoch wants ok same = by_keeping wanted EndsEpoch wants (λ n. refl) same refl (labelled_by leaf epoch k (changed EndsEpoch (record k { wants = wants })) is is.params refl (omega arith) (λ s ended. ended_none s ended) ok)
      where
        ended_none : (s : StandingKnown) → Some (standing_ended k.params k.stands k.leaves) ≡ Some s → (b i : ℕ) → s.labels b i ≡ None
        ended_none s ended b i = ap (λ (o : Option StandingKnown). (newer_or_same standing_formatted o).labels b i) (sym ended)
    by_fixed wanted MayLog wants ok same = by_keeping wanted MayLog wants (λ n. refl) same refl (labelled_by leaf epoch k (changed MayLog (record k { wants = wants })) is is.params refl (omega arith) is.newer ok)
    by_fixed wanted Logs wants ok same = by_keeping wanted Logs wants (λ n. refl) same refl (labelled_by leaf epoch k (changed Logs (record k { wants = wants })) is is.params refl (omega (arith, ok.0)) is.newer ok.1)

    may_range : (x : ℕ) (o : Option ℕ) → MayLabel k o x → o ≡ None → x < 2 ^ p.levels
    may_range x None may none = subst (λ (q : Params). x < 2 ^ q.levels) is.params may
    may_range x (Some y) may none = absurd (cc)

    may_same : (x : ℕ) (o : Option ℕ) → MayLabel k o x → (y : ℕ) → o ≡ Some y → x ≡ y
    may_same x None may y shown = absurd (cc)
    may_same x (Some z) may y shown = may ∙ some_same z y shown

    by_place : (b i : ℕ) (wants : List Want) → WantsOk k.batch k.stands.logged (Place b i ∷ wants) → TakesWant k (Place b i) wants note next → Step p leaf epoch k [] (Place b i ∷ wants) note next
    by_place b i wants ok (x, (shows, same)) =
        label_step leaf epoch k [] (Place b i ∷ wants) note next (shows_label (record k { wants = wants }) b i x) k.stands b i x is refl same refl is.params refl refl ok.0 (omega arith) ok.1
        (one_label leaf epoch k.stands b i x (k.stands.labels b i) refl within is.known (may_range x (k.stands.labels b i) shows.may) (may_same x (k.stands.labels b i) shows.may))
        (λ last at. shows.is ∙ ap (λ (n : ℕ). Label n) (sym at))

    by_record : (b : ℕ) (wants : List Want) → WantsOk k.batch k.stands.logged (Record b ∷ wants) → TakesWant k (Record b) wants note next → Step p leaf epoch k [] (Record b ∷ wants) note next
    by_record b wants ok (inl (x, repeats)) =
        let s : StandingKnown = record k.stands { logged = k.batch; maybe = false } in
        label_step leaf epoch k [] (Record b ∷ wants) note next (repeated_batch k b wants x) s b 0 x is refl repeats.then refl is.params refl refl (omega (arith, ok.1.0)) (omega (arith, ok.0, ok.1.0))
        (subst (λ (ws : List Want). WantsOk k.batch k.batch (ws ++ drop 1 (places k.params b))) (sym ok.1.1) (places_dropped k.batch k.batch b k.params.places (omega (arith, ok.1.0))))
        (one_label leaf epoch s b 0 x (s.labels b 0) refl within is.known (λ none. subst (λ (q : Params). x < 2 ^ q.levels) is.params repeats.within)
        (λ y shown. absurd (let low : b < k.stands.logged = is.logged b 0 y shown in omega (arith, low, ok.0))))
        (λ last at y given. same_label y x note given repeats.is ∙ sym at)
    by_record b wants ok (inr begins) =
        let cells : List Note = map (λ c. Write c) (map (log_cell k.params (side_number (other k.stands.epoch)) b) (below (record_cells k.params))) in
        let gate : List Want = Fixed Sync Keeps ∷ Fixed (Write (log_gate k.params (side_number (other k.stands.epoch)) b)) MayLog ∷ Fixed Sync Logs ∷ [] in
        let g : Follow = record k { stands = record k.stands { maybe = false }; wants = wants ++ drop 1 (record_wants k.params (other k.stands.epoch) b ++ places k.params b) } in
        let rest : (k.stands.logged ≤ k.batch) × WantsOk k.batch k.batch (places k.params b) = (omega (arith, ok.0, ok.1.0), places_ok k.batch k.batch b 0 k.params.places (omega (arith, ok.1.0))) in
        let dropped : WantsOk k.batch k.stands.logged (drop 1 (kept cells ++ (gate ++ places k.params b))) =
        dropped_ok k.batch k.stands.logged cells (Fixed Sync Keeps) (Fixed (Write (log_gate k.params (side_number (other k.stands.epoch)) b)) MayLog ∷ Fixed Sync Logs ∷ places k.params b) rest rest in
        quiet leaf epoch k [] (Record b ∷ wants) note next g within is refl begins.then refl
        (labelled_by leaf epoch k g is is.params refl (omega arith) is.newer
        (subst (λ (ws : List Want). WantsOk k.batch k.stands.logged (ws ++ drop 1 (record_wants k.params (other k.stands.epoch) b ++ places k.params b))) (sym ok.1.1)
        (subst (λ (ws : List Want). WantsOk k.batch k.stands.logged (drop 1 ws)) (sym (append_assoc (kept cells) gate (places k.params b))) dropped)))
        (λ last x given. absurd (label_or_write x (log_cell k.params (side_number (other k.stands.epoch)) b 0) note given begins.is))

    by_setting : (r : Register) (wants : List Want) → wants ≡ [] → TakesWant k (Setting r) wants note next → Step p leaf epoch k [] (Setting r ∷ wants) note next
    by_setting Generation wants none (inl closes) =
        let g : Follow = record k { wants = wants ++ drop 1 (setting k.params Generation (next_side k.stands Generation)) } in
        quiet leaf epoch k [] (Setting Generation ∷ wants) note next g within is refl closes.then refl
        (labelled_by leaf epoch k g is is.params refl (omega arith) is.newer (subst (λ (ws : List Want). WantsOk k.batch k.stands.logged (ws ++ drop 1 (setting k.params Generation (next_side k.stands Generation)))) (sym none) tt)) (λ last. tt)
    by_setting Generation wants none (inr body) =
        let g : Follow = record k { stands = with_gate Generation Closed k.stands; wants = wants ++ drop 3 (setting k.params Generation (next_side k.stands Generation)) } in
        quiet leaf epoch k [] (Setting Generation ∷ wants) note next g within is refl body.then refl
        (labelled_by leaf epoch k g is is.params refl (omega arith) is.newer (subst (λ (ws : List Want). WantsOk k.batch k.stands.logged (ws ++ drop 3 (setting k.params Generation (next_side k.stands Generation)))) (sym none) tt)) (λ last. tt)
    by_setting Epoch wants none (inl closes) =
        let g : Follow = record k { wants = wants ++ drop 1 (setting k.params Epoch (next_side k.stands Epoch)) } in
        quiet leaf epoch k [] (Setting Epoch ∷ wants) note next g within is refl closes.then refl
        (labelled_by leaf epoch k g is is.params refl (omega arith) is.newer (subst (λ (ws : List Want). WantsOk k.batch k.stands.logged (ws ++ drop 1 (setting k.params Epoch (next_side k.stands Epoch)))) (sym none) tt)) (λ last. tt)
    by_setting Epoch wants none (inr body) =
        let g : Follow = record k { stands = with_gate Epoch Closed k.stands; wants = wants ++ drop 3 (setting k.params Epoch (next_side k.stands Epoch)) } in
        quiet leaf epoch k [] (Setting Epoch ∷ wants) note next g within is refl body.then refl
        (labelled_by leaf epoch k g is is.params refl (omega arith) is.newer (subst (λ (ws : List Want). WantsOk k.batch k.stands.logged (ws ++ drop 3 (setting k.params Epoch (next_side k.stands Epoch)))) (sym none) tt)) (λ last. tt)

    found_dropped : (q : Params) (s : StandingKnown) (logged : ℕ) → WantsOk k.batch logged (drop 1 (found_wants q s))
    found_dropped q s logged =
        let plain : Plain (sets q Generation (other s.generation) s.generation_gate) = generation_plain q (other s.generation) s.generation_gate in
        dropped_ok k.batch logged (reads_of (check_cells q (side_number s.epoch)) ++ reads_of (region_cells q (LogArea (side_number (other s.epoch))))) (Fixed Sync Settles)
        (sets q Generation (other s.generation) s.generation_gate) plain (plain_ok k.batch logged (sets q Generation (other s.generation) s.generation_gate) plain)

    by_checkpoint : (wants : List Want) → wants ≡ [] → TakesWant k Checkpoint wants note next → Step p leaf epoch k [] (Checkpoint ∷ wants) note next
    by_checkpoint wants none (inl older) =
        let g : Follow = record k { wants = wants ++ drop 1 (found_wants k.params k.stands) } in
        quiet leaf epoch k [] (Checkpoint ∷ wants) note next g within is refl older.then refl
        (labelled_by leaf epoch k g is is.params refl (omega arith) is.newer (subst (λ (ws : List Want). WantsOk k.batch k.stands.logged (ws ++ drop 1 (found_wants k.params k.stands))) (sym none) (found_dropped k.params k.stands k.stands.logged))) (λ last. tt)
    by_checkpoint wants none (inr newer) =
        let g : Follow = record k { chosen = true; wants = wants ++ drop 1 (found_wants k.params (newer_or_same k.stands k.newer)) } in
        quiet leaf epoch k [] (Checkpoint ∷ wants) note next g within is refl newer.then refl
        (labelled_by leaf epoch k g is is.params refl (omega arith) is.newer
        (subst (λ (ws : List Want). WantsOk k.batch k.stands.logged (ws ++ drop 1 (found_wants k.params (newer_or_same k.stands k.newer)))) (sym none) (found_dropped k.params (newer_or_same k.stands k.newer) k.stands.logged))) (λ last. tt)

    by_slot : (h : Hole) (hs : List Hole) (slot : ℕ) → next ≡ taken_up (record k { stands = with_slot k.stands h slot; holes = hs }) → Step p leaf epoch k (h ∷ hs) k.wants note next
    by_slot h hs slot same =
        let g : Follow = record k { stands = with_slot k.stands h slot; holes = hs } in
        let kept_labels = slot_same k.stands h slot in
        quiet leaf epoch k (h ∷ hs) k.wants note next g within is refl same kept_labels.0
        (labelled_by leaf epoch k g is is.params kept_labels.0 (omega (arith, kept_labels.1)) is.newer (subst (λ (n : ℕ). WantsOk k.batch n k.wants) (sym kept_labels.1) is.wants)) (λ last. tt)

    by_want : (w : Want) (wants : List Want) → WantsOk k.batch k.stands.logged (w ∷ wants) → TakesWant k w wants note next → Step p leaf epoch k [] (w ∷ wants) note next
    by_want (Fixed wanted change) wants ok takes = by_fixed wanted change wants ok takes.1
    by_want (Place b i) wants ok takes = by_place b i wants ok takes
    by_want (Record b) wants ok takes = by_record b wants ok takes
    by_want (Setting r) wants ok takes = by_setting r wants ok takes
    by_want Checkpoint wants ok takes = by_checkpoint wants ok takes

    one_step : TakesLine k (L.Note note) next → Step p leaf epoch k k.holes k.wants note next
    one_step takes = go k.holes k.wants refl is.wants takes
      where
        go : (hs : List Hole) (ws : List Want) → k.wants ≡ ws → WantsOk k.batch k.stands.logged ws → TakesNote k hs ws note next → Step p leaf epoch k hs ws note next
        go (h ∷ hs) ws same ok (slot, takes) = subst (λ (xs : List Want). Step p leaf epoch k (h ∷ hs) xs note next) same (by_slot h hs slot takes.1)
        go [] (w ∷ ws) same ok takes = by_want w ws ok takes
        go [] [] same ok takes = absurd takes

  -- a run begins
  opening_labelled : (leaf : Leaves) (epoch : ℕ) (mirrored : Bool) (k : Follow) → Labelled p leaf epoch k → Labelled p leaf epoch (opened mirrored k)
  opening_labelled leaf epoch mirrored k is = go k.formatted
    where
      all_wants : (o : Option StandingKnown) → WantsOk 0 k.stands.logged (opened_wants k.params mirrored k.stands o)
      all_wants (Some newer) = kept_ok 0 k.stands.logged (first_reads k.params mirrored ++ reads_of (region_cells k.params GenerationTwin ++ region_cells k.params EpochTwin)) (Checkpoint ∷ []) refl
      all_wants None = kept_ok 0 k.stands.logged (first_reads k.params mirrored ++ reads_of (region_cells k.params GenerationTwin ++ region_cells k.params EpochTwin)) (found_wants k.params k.stands)
          (kept_ok 0 k.stands.logged (reads_of (check_cells k.params (side_number k.stands.epoch)) ++ reads_of (region_cells k.params (LogArea (side_number (other k.stands.epoch)))))
          (Fixed Sync Settles ∷ sets k.params Generation (other k.stands.generation) k.stands.generation_gate) (generation_plain k.params (other k.stands.generation) k.stands.generation_gate))

      go : (b : Bool) → Labelled p leaf epoch (cond b (record k { runs = true; chosen = false; batch = 0; leaves = []; holes = []; wants = opened_wants k.params mirrored k.stands k.newer }) (record k { runs = false; holes = []; wants = kept head_notes }))
      go true = record { params = is.params; known = is.known; logged = is.logged; newer = is.newer; wants = all_wants k.newer }
      go false = record { params = is.params; known = is.known; logged = is.logged; newer = is.newer; wants = tt }

  pub opening_stands : (mirrored : Bool) (k : Follow) → (opened mirrored k).stands ≡ k.stands
  opening_stands mirrored k = go k.formatted
    where
      go : (b : Bool) → (cond b (record k { runs = true; chosen = false; batch = 0; leaves = []; holes = []; wants = opened_wants k.params mirrored k.stands k.newer }) (record k { runs = false; holes = []; wants = kept head_notes })).stands ≡ k.stands
      go true = refl
      go false = refl

  -- ---- lines

  pub record Passed (leaf : Leaves) (epoch : ℕ) (k : Follow) (lines : List Line) : Type 0 where
    pub last : Leaves
    pub within : InRange p last
    pub agree : AgreeLeaves leaf last epoch k.stands
    pub labelled : TakesLabelled last epoch k lines

  step_agrees : (leaf : Leaves) (epoch : ℕ) (k : Follow) (note : Note) (next : Follow) (s : Step p leaf epoch k k.holes k.wants note next) (last : Leaves) → AgreeLeaves s.leaf_then last (epoch_behind k epoch) next.stands → AgreeLeaves leaf last epoch k.stands
  step_agrees leaf epoch k note next s last agree = go s.keeps
    where
      go : ((epoch_behind k epoch ≡ epoch) × ((b i x : ℕ) → k.stands.labels b i ≡ Some x → next.stands.labels b i ≡ Some x)) ⊎ (epoch_behind k epoch ≡ suc epoch) → AgreeLeaves leaf last epoch k.stands
      go (inl keeps) = (λ e b i low. agree.0 e b i (omega (arith, low, keeps.0)) ∙ s.past e b i low, λ b i x shown. ap (λ (n : ℕ). last (suc n) b i) (sym keeps.0) ∙ agree.1 b i x (keeps.1 b i x shown))
      go (inr more) = (λ e b i low. agree.0 e b i (omega (arith, low, more)) ∙ s.past e b i low, λ b i x shown. agree.0 (suc epoch) b i (omega (arith, more)) ∙ s.known b i x shown)

  pub pass : (leaf : Leaves) (epoch : ℕ) (k : Follow) (lines : List Line) (end : Follow) → HasNoStart lines → InRange p leaf → Labelled p leaf epoch k → TakesLines k lines end → Passed leaf epoch k lines
  pass leaf epoch k [] end none within is takes = record { last = leaf; within = within; agree = (λ e b i low. refl, is.known); labelled = tt }
  pass leaf epoch k (L.Start q ∷ lines) end none within is takes = absurd none
  pass leaf epoch k (L.Bad ∷ lines) end none within is (next, takes, more) = absurd takes
  pass leaf epoch k (L.Open mirrored ∷ lines) end none within is (next, takes, more) =
      let rest = pass leaf epoch (opened mirrored k) lines end none within (opening_labelled leaf epoch mirrored k is) (subst (λ (g : Follow). TakesLines g lines end) takes more) in
      record { last = rest.last; within = rest.within; agree = subst (λ (s : StandingKnown). AgreeLeaves leaf rest.last epoch s) (opening_stands mirrored k) rest.agree; labelled = rest.labelled }
  pass leaf epoch k (L.Note note ∷ lines) end none within is (next, takes, more) =
      let s = one_step leaf epoch k within is note next takes in
      let rest = pass s.leaf_then (epoch_behind k epoch) next lines end none s.within s.labelled more in
      record { last = rest.last; within = rest.within; agree = step_agrees leaf epoch k note next s rest.last rest.agree; labelled = (next, (takes, (s.shows rest.last rest.agree, rest.labelled))) }

-- ---- from a format on

format_ok : (notes : List Note) → WantsOk 0 0 (format_wants notes)
format_ok [] = tt
format_ok (note ∷ []) = tt
format_ok (note ∷ next ∷ notes) = format_ok (next ∷ notes)

started_labelled : (p : Params) (leaf : Leaves) → Labelled p leaf 0 (started p)
started_labelled p leaf = record {
  params = refl;
  known = λ b i x shown. absurd (cc);
  logged = λ b i x shown. absurd (cc);
  newer = λ s never. absurd (cc);
  wants = format_ok (format_notes p);
}

pub labels_are : LabelsAreLeaves
labels_are p lines last none takes =
    let passed = pass p (λ e b i. 0) 0 (started p) lines last none (λ e b i. pow_pos p.levels) (started_labelled p (λ e b i. 0)) takes in
    (passed.last, passed.within, passed.labelled)
