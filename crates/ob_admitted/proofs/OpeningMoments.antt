-- What an opening has shown, and leaves, at each moment at which a crash may cut it off.
use Rattle.std.specs.Prelude.{◌≡◌, ◌⊎◌, ◌<◌, ◌≤◌, ℕ, ◌+◌, ◌-◌, ◌%◌, Bool, true, false, IsTrue, ◌||◌, List, [], ◌∷◌, length}
use Rattle.std.proofs.Common.{zero, suc, arith, refl, sym, ap, ◌∙◌, subst, inl, inr, ⊎_elim}
use Rattle.std.proofs.lemmas.Bool.{cases_eq}
use mathlib.Core.Path.{fun_ext}
use Rattle.ob_base.specs.declared.params.Params.{Params}
use Rattle.ob_opening.proofs.OpenedLaws.{next_stands, opens_then}
use Rattle.ob_opening.specs.OpeningRuns.{BeginsInStages, OpensFrom}
use Rattle.ob_opening.specs.OpeningStops.{next_set}
use Rattle.ob_recover.proofs.FindLaws.{number_found, reads_both}
use Rattle.ob_recover.specs.Finds.{IsFoundInRing}
use Rattle.ob_recover.specs.declared.found.Found.{Found}
use Rattle.ob_seal.specs.declared.keys.Keys.{Keys}
use Rattle.ob_stand.proofs.Frames.{stands_all}
use Rattle.ob_stand.proofs.OpenLaws.{open_begins}
use Rattle.ob_stand.specs.Stands.{OneOf, RingStanding, Stands, with_generation}
use Rattle.ob_start.specs.Beginning.{IsBeginStage, IsLackingBy, IsNumberBy, IsSyncedLeft}
use Rattle.ob_start.specs.Registers.{HaveOpen}
use Rattle.ob_store.specs.Disk.{Clock, Disk, Image, NotAfter}
use Rattle.ob_store.specs.Images.{IsSynced, Passes, Same}
use Rattle.ob_store.specs.declared.watch.Note.{Note}
use Rattle.ob_twin.proofs.Gating.{closed_of}
use Rattle.ob_twin.specs.Keyed.{tagging}
use Rattle.ob_twin.specs.Opening.{GatesAre, HasOpen, is_closed_first}
use Rattle.ob_twin.specs.Orders.{set_notes}
use Rattle.ob_twin.specs.Reading.{Counts}
use Rattle.ob_twin.specs.Register.{IsOpen, KeepsAt, OldOrNew, StandsAt, number_at, place_of}
use Rattle.ob_twin.specs.Stages.{AreSpans}
use Rattle.ob_twin.specs.Stops.{IsPlaceLeft}
use Rattle.ob_twin.specs.declared.gates.Open.{Open}
use Rattle.ob_vault.proofs.Staging.{again_stops, read_stops, stage_stops}
use Rattle.ob_vault.specs.Lives.{RingStops}
use Rattle.ob_vault.specs.RingLaws.{ReadsHead}
use Rattle.ob_vault.specs.Spans.{span}
use Rattle.ob_vault.specs.Stages.{HowFar}
use Rattle.ob_admitted.specs.OpeningMoments.{AreReadsShown, CutOpeningsAreShown, IsCutInStages, IsMomentShown, IsOpeningCutShown, IsShownIn}
use Rattle.ob_admitted.specs.Stopped.{IsBegunLeft, begun_row, reads_of_opening}
use Rattle.ob_admitted.proofs.Bridging.{generation_by, reads_are, split, begun_is}

-- ---- a register stands at one number

at_most : (keys : Keys) (image : Image) (a b : ℕ) → StandsAt (tagging keys) 5 image a → StandsAt (tagging keys) 5 image b → b ≤ a
at_most keys image a b here there = ⊎_elim
    (λ same. let is : b ≡ a = sym there.number ∙ ap (λ (k : ℕ). number_at 5 image k) same ∙ here.number in omega (arith, is))
    (λ apart.
    let other : b % 2 ≡ (a + 1) % 2 = omega arith in
    let under = here.other (subst (λ (k : ℕ). IsOpen 5 image k) other there.open_at) in
    let low : number_at 5 image (place_of (a + 1)) ≤ a = under.1 in
    let is : number_at 5 image (place_of (a + 1)) ≡ b = ap (λ (k : ℕ). number_at 5 image k) (sym other) ∙ there.number in
    omega (arith, low, is))
    (cases_eq (b % 2) (a % 2))

one_number : (keys : Keys) (image : Image) (a b : ℕ) → StandsAt (tagging keys) 5 image a → StandsAt (tagging keys) 5 image b → a ≡ b
one_number keys image a b here there = (let low = at_most keys image a b here there in let high = at_most keys image b a there here in omega (arith, low, high))

-- where it stands decides
one_of : (keys : Keys) (p : Params) (st : RingStanding) (d : Image) → Stands keys p st d → (c : Image) → OldOrNew (tagging keys) 1 d st.generation (suc st.generation) c → OneOf keys p st (with_generation st (suc st.generation)) c
one_of keys p st d at c either = (let laws = open_begins keys p st (suc st.generation) c d at in ⊎_elim (λ kept. inl (laws.old kept)) (λ kept. inr (laws.new (omega arith) kept)) either)

-- ---- what was found has open gates

gate_known : (known : Open) (first : ℕ) (image : Image) (n : ℕ) → GatesAre known first image → Counts first image n → HasOpen known
gate_known known first image n are counts =
    let (place, low, opened, number) = counts.some in
    ⊎_elim
    (λ even. one_open known.zero known.one (inl (are.zero.1 (subst (λ (k : ℕ). IsOpen first image k) even opened))))
    (λ odd. one_open known.zero known.one (inr (are.one.1 (subst (λ (k : ℕ). IsOpen first image k) odd opened))))
    (which place low)
  where
    which : (place : ℕ) → place < 2 → (place ≡ 0) ⊎ (place ≡ 1)
    which zero low = inl refl
    which (suc zero) low = inr refl
    which (suc (suc more)) low = absurd (omega (arith, low))

    one_open : (a b : Bool) → IsTrue a ⊎ IsTrue b → IsTrue (a || b)
    one_open true b is = refl
    one_open false b (inl first) = absurd (let wrong : false ≡ true = first in cc)
    one_open false b (inr second) = second

found_open : (keys : Keys) (p : Params) (image : Image) (found : Found) → IsFoundInRing keys p image found → HaveOpen found.gates
found_open keys p image found is = (
  gate_known found.gates.generation 1 image found.generation is.generation_gates is.registers.generation_counts,
  gate_known found.gates.epoch 5 image found.epoch is.epoch_gates is.registers.epoch_counts,
)

-- ---- behind its first sync no cell changed, and all of the set lacks

module _ (keys : Keys) (known : Open) (n : ℕ) (cells : Image) (are : GatesAre known 1 cells) where
  place_left : (closes : Bool) → closes ≡ is_closed_first known (place_of n) → IsPlaceLeft (tagging keys) 1 n cells (length (set_notes closes 1 n)) cells
  place_left true is = refl
  place_left false is = λ opened. closed_of known 1 n cells are (λ (closed : IsTrue (is_closed_first known (place_of n))). let wrong : false ≡ true = is ∙ closed in cc) opened

  number_left : (closes : Bool) (before : ℕ) → StandsAt (tagging keys) 1 cells before → IsNumberBy keys cells before n (length (set_notes closes 1 n)) cells
  number_left true before stands = record { stands = stands; rest = λ k out. refl }
  number_left false before stands = record { stands = stands; rest = λ k out. refl }

  synced_left : IsSyncedLeft keys n cells (length (set_notes (is_closed_first known (place_of n)) 1 n)) cells
  synced_left = record {
    rest = λ k out. refl;
    register = record { place = place_left (is_closed_first known (place_of n)) refl; other = refl };
    number = λ before is stands. number_left (is_closed_first known (place_of n)) before stands;
  }

module _ {S : Type 0} (disk : S → Disk) (counts_now : (x : S) (t : Clock) (c : Image) → NotAfter t (disk x).moment → (disk x).may_leave c → (disk x).left_since t c) (only_now : (x : S) (c : Image) → (disk x).left_since (disk x).moment c → (disk x).may_leave c)
    (keys : Keys) (p : Params) (old read : S) (s : RingStanding) (tells : (disk old).tells) (stands : Stands keys p s (disk old).cells) (head : ReadsHead (disk old) (disk read)) where
  read_same : (disk read).cells ≡ (disk old).cells
  read_same = fun_ext (λ k. head.keeps.cells tells k)

  -- ---- up to its first sync

  reads_cut : (new x : S) → Passes Same (disk old) (disk x) → (notes : List Note) → ((epoch : ℕ) → StandsAt (tagging keys) 5 (disk old).cells epoch → AreReadsShown p epoch notes) → IsMomentShown disk keys p old (old, x) notes
  reads_cut new x passes notes shown = (
    read_stops disk counts_now only_now keys p old read new head tells x passes,
    inl (record {
      shown = shown;
      shrinks = λ c since.
          ⊎_elim (λ before. before)
          (λ now. subst (λ (i : Image). (disk old).left_since (disk old).moment i) (sym now.2) (counts_now old (disk old).moment now.0 (λ part. omega arith) now.1))
          (passes.since (disk old).moment c (λ part. omega arith) since);
    }),
  )

  -- ---- behind it

  module _ (new : S) (found : Found) (in_read : IsFoundInRing keys p (disk read).cells found) (synced : S) (same : (disk synced).cells ≡ (disk old).cells) (settled : IsSynced (disk synced)) where
    in_cells : IsFoundInRing keys p (disk old).cells found
    in_cells = subst (λ (i : Image). IsFoundInRing keys p i found) read_same in_read

    abbrev some : HaveOpen found.gates
    some = found_open keys p (disk old).cells found in_cells

    abbrev g : ℕ
    g = found.generation

    abbrev closes : Bool
    closes = is_closed_first found.gates.generation (place_of (suc g))

    number : (st : RingStanding) → Stands keys p st (disk read).cells → g ≡ st.generation
    number st at = number_found keys 1 (disk read).cells st.generation g at.generation in_read.registers.generation_whole in_read.registers.generation_counts

    abbrev Stage : ℕ → S × S → Type 0
    Stage stage x = IsBeginStage disk keys closes (suc g) synced stage x

    left_of : (stage : ℕ) (x : S × S) → Stage stage x → (lacking : ℕ) → IsLackingBy stage lacking → (image : Image) → (disk x.1).left_since (disk x.0).moment image → IsSyncedLeft keys (suc g) (disk old).cells lacking image
    left_of stage x one lacking is image since = subst (λ (i : Image). IsSyncedLeft keys (suc g) i lacking image) same (one.left lacking is image since)

    begun_left : (lacking : ℕ) (image : Image) → IsSyncedLeft keys (suc g) (disk old).cells lacking image → IsBegunLeft keys g (disk old).cells lacking image
    begun_left lacking image left = record { gates = left; stands = generation_by keys p (disk old) (disk new) found s stands in_cells some lacking image left }

    -- it stood at the generation found, in each life that was there
    by_number : (st : RingStanding) → Stands keys p st (disk read).cells → (lacking : ℕ) (image : Image) → IsSyncedLeft keys (suc g) (disk old).cells lacking image → IsNumberBy keys (disk read).cells st.generation (suc st.generation) lacking image
    by_number st at lacking image left =
        subst (λ (i : Image). IsNumberBy keys i st.generation (suc st.generation) lacking image) (sym read_same)
        (subst (λ (n : ℕ). IsNumberBy keys (disk old).cells n (suc n) lacking image) (number st at)
        (left.number g refl (subst (λ (i : Image). StandsAt (tagging keys) 1 i g) read_same (subst (λ (n : ℕ). StandsAt (tagging keys) 1 (disk read).cells n) (sym (number st at)) at.generation))))

    either_by : (st : RingStanding) (lacking : ℕ) (image : Image) → 1 ≤ lacking → IsNumberBy keys (disk read).cells st.generation (suc st.generation) lacking image → OldOrNew (tagging keys) 1 (disk read).cells st.generation (suc st.generation) image
    either_by st zero image few by = absurd (omega (arith, few))
    either_by st (suc zero) image few by = by
    either_by st (suc (suc lacking)) image few by = inl by

    -- while the generation begins
    set_stops : (stage : ℕ) (x : S × S) → Stage stage x → (lacking : ℕ) → IsLackingBy stage lacking → 1 ≤ lacking → RingStops keys p (span disk (old, old)) (span disk x)
    set_stops stage (a, x) one lacking is few =
        stage_stops disk counts_now only_now keys p old read new head tells a x
        (λ st at c since. one_of keys p st (disk read).cells at c (either_by st lacking c few (by_number st at lacking c (left_of stage (a, x) one lacking is c since))))

    -- and while batches are shown again
    repeat_stops : (stage : ℕ) (x : S × S) → Stage stage x → IsLackingBy stage 0 → RingStops keys p (span disk (old, old)) (span disk x)
    repeat_stops stage (a, x) one is =
        again_stops disk counts_now only_now keys p old read new head tells a x
        (λ st at c since. next_stands keys p st (disk read).cells c at (by_number st at 0 c (left_of stage (a, x) one 0 is c since)))

    stops_in : (stage : ℕ) (x : S × S) → Stage stage x → RingStops keys p (span disk (old, old)) (span disk x)
    stops_in zero x one = set_stops 0 x one 5 refl (omega arith)
    stops_in (suc zero) x one = set_stops 1 x one 2 (omega arith, omega arith) (omega arith)
    stops_in (suc (suc zero)) x one = set_stops 2 x one 1 refl (omega arith)
    stops_in (suc (suc (suc stage))) x one = repeat_stops (suc (suc (suc stage))) x one refl

    -- by how many of its notes lack
    stage_cut : (stage : ℕ) (x : S × S) → Stage stage x → (notes : List Note) → IsShownIn p found (suc (suc stage)) notes → IsMomentShown disk keys p old x notes
    stage_cut stage x one notes (count, many, lacks, are) = (
      stops_in stage x one,
      inr (record {
        found = found;
        found_in = in_cells;
        found_open = some;
        count = count;
        settled = many;
        notes_are = are;
        left = λ image since. begun_left (length (begun_row p found) - count) image (left_of stage x one (length (begun_row p found) - count) lacks image since);
      }),
    )

    -- just the first sync was shown
    all_lack : length (begun_row p found) - suc (length (reads_of_opening p found.epoch)) ≡ length (next_set found)
    all_lack =
        let whole = split keys p (disk old) (disk new) found s stands in_cells some in
        let reads = ap (λ (ns : List Note). length ns) (reads_are p found.epoch) in
        let begun = ap (λ (ns : List Note). length ns) (begun_is keys p (disk old) (disk new) found s stands in_cells some) in
        omega (arith, whole, reads, begun)

    synced_images : (image : Image) → (disk synced).left_since (disk synced).moment image → IsSyncedLeft keys (suc g) (disk old).cells (length (next_set found)) image
    synced_images image since =
        let is : image ≡ (disk old).cells = fun_ext (λ k. settled image (only_now synced image since) k) ∙ same in
        subst (λ (i : Image). IsSyncedLeft keys (suc g) (disk old).cells (length (next_set found)) i) (sym is) (synced_left keys found.gates.generation (suc g) (disk old).cells in_cells.generation_gates)

    many_lack : (closed : Bool) → 1 ≤ length (set_notes closed 1 (suc g))
    many_lack true = omega arith
    many_lack false = omega arith

    sync_cut : (notes : List Note) → IsShownIn p found 1 notes → IsMomentShown disk keys p old (synced, synced) notes
    sync_cut notes are = (
      stage_stops disk counts_now only_now keys p old read new head tells synced synced
          (λ st at c since. one_of keys p st (disk read).cells at c (either_by st (length (next_set found)) c (many_lack closes) (by_number st at (length (next_set found)) c (synced_images c since)))),
      inr (record {
        found = found;
        found_in = in_cells;
        found_open = some;
        count = suc (length (reads_of_opening p found.epoch));
        settled = omega arith;
        notes_are = are;
        left = λ image since. subst (λ (n : ℕ). IsBegunLeft keys g (disk old).cells n image) (sym all_lack) (begun_left (length (next_set found)) image (synced_images image since));
      }),
    )

    abbrev Cut : ℕ → S × S → Type 0
    Cut stage x = (notes : List Note) → IsShownIn p found stage notes → IsMomentShown disk keys p old x notes

    stages_cut : (stage : ℕ) (from : S) (ends : List S) (to : S) → AreSpans Stage stage from ends to → AreSpans Cut (suc (suc stage)) from ends to
    stages_cut stage from [] to is = is
    stages_cut stage from (end ∷ ends) to is = (stage_cut stage (from, end) is.0, stages_cut (suc stage) end ends to is.1)

    epoch_is : (epoch : ℕ) → StandsAt (tagging keys) 5 (disk old).cells epoch → found.epoch ≡ epoch
    epoch_is epoch at = number_found keys 5 (disk old).cells epoch found.epoch at in_cells.registers.epoch_whole in_cells.registers.epoch_counts

    all_cut : Passes Same (disk read) (disk synced) → (ends : List S) (to : S) → AreSpans Stage 0 synced ends to → AreSpans Cut 0 old (synced ∷ synced ∷ ends) to
    all_cut until ends to stages = (
      (λ notes shown. reads_cut new synced (reads_both (disk old) (disk read) (disk synced) head.passes until) notes (λ epoch at. subst (λ (e : ℕ). AreReadsShown p e notes) (epoch_is epoch at) shown)),
      (sync_cut, stages_cut 0 synced ends to stages),
    )

  cut_opens : (new : S) → OpensFrom disk keys p read new → IsCutInStages disk keys p old new
  cut_opens new o =
      let told : (disk read).tells = head.keeps.tells tells in
      let b : BeginsInStages disk keys p read o.synced new = o.in_stages told in
      let same : (disk o.synced).cells ≡ (disk old).cells = fun_ext (λ k. o.keeps.cells told k ∙ head.keeps.cells tells k) in
      let here : Stands keys p s (disk read).cells = stands_all keys p s (disk read).cells (disk old).cells (head.keeps.cells tells) stands in
      let number : b.found.generation ≡ s.generation = number_found keys 1 (disk read).cells s.generation b.found.generation here.generation b.found_in.registers.generation_whole b.found_in.registers.generation_counts in
      record {
        found = b.found;
        found_in = subst (λ (i : Image). IsFoundInRing keys p i b.found) read_same b.found_in;
        synced = o.synced;
        ends = b.ends;
        cut = all_cut new b.found b.found_in o.synced same (o.settled told) o.until b.ends new (b.stages (subst (λ (n : ℕ). StandsAt (tagging keys) 1 (disk read).cells n) (sym number) here.generation));
      }

  cut_shown : (new : S) (how : HowFar disk keys p read new) → IsOpeningCutShown disk keys p s.epoch old read new how
  cut_shown new (inl still) = λ notes shown. reads_cut new new (reads_both (disk old) (disk read) (disk new) head.passes still) notes (λ epoch at. subst (λ (e : ℕ). AreReadsShown p e notes) (one_number keys (disk old).cells s.epoch epoch stands.epoch at) shown)
  cut_shown new (inr (inl opens)) = cut_opens new opens
  cut_shown new (inr (inr begins)) =
      let b = begins.begins in
      cut_opens new (opens_then disk keys p begins.found read begins.found_in b.between new b.from b.whole (only_now b.between) (λ c may. counts_now b.between (disk b.between).moment c (λ part. omega arith) may) b.reads
      b.settled
      (λ h told at.
      let is = number_found keys 1 (disk read).cells h begins.found.generation at (begins.found_in told).registers.generation_whole (begins.found_in told).registers.generation_counts in
      subst (λ (n : ℕ). KeepsAt (tagging keys) 1 (disk read).cells (suc n) (disk b.between).cells) is (b.cells told (subst (λ (n : ℕ). StandsAt (tagging keys) 1 (disk read).cells n) (sym is) at))))

pub cut_openings : {S : Type 0} (disk : S → Disk) → ((x : S) (t : Clock) (c : Image) → NotAfter t (disk x).moment → (disk x).may_leave c → (disk x).left_since t c) → ((x : S) (c : Image) → (disk x).left_since (disk x).moment c → (disk x).may_leave c) → CutOpeningsAreShown disk
cut_openings disk counts_now only_now keys p old read new s tells stands head how = cut_shown disk counts_now only_now keys p old read s tells stands head new how
