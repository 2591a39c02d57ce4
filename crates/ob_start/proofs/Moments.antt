-- A begin in stages.
use mathlib.Core.Path.{fun_ext}
use Rattle.std.proofs.Common.{◌≡◌, ◌≤◌, ◌↔◌, ℕ, zero, suc, ◌+◌, Bool, true, false, IsTrue, ⊎_elim, List, [], ◌∷◌, length, Result, Ok, Err, arith, refl, sym, subst}
use Rattle.ob_seal.specs.declared.keys.Keys.{Keys}
use Rattle.ob_store.specs.Disk.{Disk, Image}
use Rattle.ob_store.specs.Images.{IsSynced}
use Rattle.ob_twin.proofs.Gating.{open_of}
use Rattle.ob_twin.specs.Keyed.{tagging}
use Rattle.ob_twin.specs.Opening.{GatesAre, is_closed_first}
use Rattle.ob_twin.specs.Register.{IsOpen, KeepsAt, SameOutside, StandsAt, place_of}
use Rattle.ob_twin.specs.Stages.{AreSpans, IsLackingIn, IsNumberLeft, IsSetStage, StagesSet}
use Rattle.ob_twin.specs.declared.gates.Open.{Open}
use Rattle.ob_twin.specs.declared.set_err.SetErr.{SetErr}
use Rattle.ob_twin.specs.declared.set_err.SetErr.TheVariants.{Before, Unsure}
use Rattle.ob_start.specs.Beginning.{IsBeginStage, IsNumberBy, IsSyncedLeft, WhereStood}
use Rattle.ob_store.specs.Calls.{Keeps, Notes}
use Rattle.ob_store.specs.Told.{events_of}
use Rattle.ob_twin.specs.Orders.{set_notes}

-- ---- what is known of gates is the same

same_truth : (a b : Bool) (A : Type 0) → IsTrue a ↔ A → IsTrue b ↔ A → a ≡ b
same_truth true true A one two = refl
same_truth false false A one two = refl
same_truth true false A one two = sym (two.1 (one.0 refl))
same_truth false true A one two = one.1 (two.0 refl)

pub known_alike : (a b : Open) (image : Image) → GatesAre a 1 image → GatesAre b 1 image → a ≡ b
known_alike a b image one two =
    let zero_is : a.zero ≡ b.zero = same_truth a.zero b.zero (IsOpen 1 image 0) one.zero two.zero in
    let one_is : a.one ≡ b.one = same_truth a.one b.one (IsOpen 1 image 1) one.one two.one in
    (λ i. record { zero = zero_is i; one = one_is i })

-- ---- how many stages there are

pub few_set : (r : Result (Unit {0}) SetErr) (many : ℕ) → StagesSet r many → many ≤ 3
few_set (Ok done) many is = omega (arith, is)
few_set (Err (Before fault)) many is = omega (arith, is)
few_set (Err (Unsure fault)) many is = omega (arith, is)

-- ---- a set's stages are a begin's

module _ {S : Type 0} (disk : S → Disk) (keys : Keys) (closes : Bool) (n : ℕ) (synced : S) (m : ℕ) (next : n ≡ m + 1) (tells : (disk synced).tells) (settled : IsSynced (disk synced)) (opened : IsTrue closes → IsOpen 1 (disk synced).cells (place_of n))
    (stands : StandsAt (tagging keys) 1 (disk synced).cells m) where
  abbrev cells : Image
  cells = (disk synced).cells

  abbrev Kept : ℕ → Image → Type 0
  Kept k image = KeepsAt (tagging keys) 1 cells k image

  -- the old number
  old_by : (before lacking : ℕ) (image : Image) → 2 ≤ lacking → Kept before image → IsNumberBy keys cells before n lacking image
  old_by before zero image two keeps = absurd (omega (arith, two))
  old_by before (suc zero) image two keeps = absurd (omega (arith, two))
  old_by before (suc (suc more)) image two keeps = keeps

  numbers : (stage lacking : ℕ) (image : Image) → stage ≤ 2 → IsLackingIn stage lacking → IsNumberLeft (tagging keys) 1 cells m n stage image → IsNumberBy keys cells m n lacking image
  numbers zero lacking image few is left = old_by m lacking image (omega (arith, is)) left
  numbers (suc zero) lacking image few is left = old_by m lacking image is.0 left
  numbers (suc (suc stage)) lacking image few is left = subst (λ (k : ℕ). IsNumberBy keys cells m n k image) (sym is) left

  off_register : (stage : ℕ) (image : Image) → IsNumberLeft (tagging keys) 1 cells m n stage image → SameOutside 1 image cells
  off_register zero image left = left.rest
  off_register (suc zero) image left = left.rest
  off_register (suc (suc stage)) image left = ⊎_elim (λ was. was.rest) (λ is. is.rest) left

  before_is : (before : ℕ) → n ≡ suc before → m ≡ before
  before_is before is = omega (arith, next, is)

  module _ (stage : ℕ) (few : stage ≤ 2) (x : S × S) (one : IsSetStage disk (tagging keys) closes 1 n synced stage x) where
    left_in : (lacking : ℕ) → IsLackingIn stage lacking → (image : Image) → (disk x.1).left_since (disk x.0).moment image → IsSyncedLeft keys n cells lacking image
    left_in lacking is image left =
        let number : IsNumberLeft (tagging keys) 1 cells m n stage image = (one.leaves m next tells settled opened stands).each image left in
        record {
          rest = off_register stage image number;
          register = one.gates lacking is image left tells settled opened;
          number = λ before after at. subst (λ (k : ℕ). IsNumberBy keys cells k n lacking image) (before_is before after) (numbers stage lacking image few is number);
        }

  stage_of : (stage : ℕ) → stage ≤ 2 → (x : S × S) → IsSetStage disk (tagging keys) closes 1 n synced stage x → IsBeginStage disk keys closes n synced stage x
  stage_of zero few x one = record { made = one.made; left = left_in zero few x one }
  stage_of (suc zero) few x one = record { made = one.made; left = left_in (suc zero) few x one }
  stage_of (suc (suc zero)) few x one = record { made = one.made; left = left_in (suc (suc zero)) few x one }
  stage_of (suc (suc (suc stage))) few x one = absurd (omega (arith, few))

  pub begin_stages : (stage : ℕ) (old : S) (ends : List S) (new : S) → stage + length ends ≤ 3 → AreSpans (IsSetStage disk (tagging keys) closes 1 n synced) stage old ends new → AreSpans (IsBeginStage disk keys closes n synced) stage old ends new
  begin_stages stage old [] new few same = same
  begin_stages stage old (end ∷ ends) new few spans = (stage_of stage (omega (arith, few)) (old, end) spans.0, begin_stages (suc stage) end ends new (omega (arith, few)) spans.1)

-- by what is known of the gates
module _ {S : Type 0} (disk : S → Disk) (keys : Keys) (known : Open) (g : ℕ) (old synced new : S) (gates : (disk old).tells → GatesAre known 1 (disk old).cells) (keeps : Keeps (disk old) (disk synced)) (settled : (disk old).tells → IsSynced (disk synced)) where
  same : (disk old).tells → (disk synced).cells ≡ (disk old).cells
  same told = fun_ext (λ k. keeps.cells told k)

  -- what is so by what is known is so by all that tells the gates as they are
  by_known : (IsSo : Bool → ℕ → Type 0) → (disk old).tells → IsSo (is_closed_first known (place_of (g + 1))) (g + 1) → (other : Open) → GatesAre other 1 (disk old).cells → IsSo (is_closed_first other (place_of (suc g))) (suc g)
  by_known IsSo told so other are =
      let next : g + 1 ≡ suc g = omega arith in
      subst (λ (k : Open). IsSo (is_closed_first k (place_of (suc g))) (suc g)) (known_alike known other (disk old).cells (gates told) are) (subst (λ (n : ℕ). IsSo (is_closed_first known (place_of n)) n) next so)

  pub stages_known : (ends : List S) → length ends ≤ 3 → AreSpans (IsSetStage disk (tagging keys) (is_closed_first known (place_of (g + 1))) 1 (g + 1) synced) 0 synced ends new
      → WhereStood keys g (disk old) (λ closes. AreSpans (IsBeginStage disk keys closes (suc g) synced) 0 synced ends new)
  stages_known ends few spans told stands =
      let at : StandsAt (tagging keys) 1 (disk synced).cells g = subst (λ (i : Image). StandsAt (tagging keys) 1 i g) (sym (same told)) stands in
      let here : GatesAre known 1 (disk synced).cells = subst (λ (i : Image). GatesAre known 1 i) (sym (same told)) (gates told) in
      by_known (λ closes n. AreSpans (IsBeginStage disk keys closes n synced) 0 synced ends new) told
      (begin_stages disk keys (is_closed_first known (place_of (g + 1))) (g + 1) synced g refl (keeps.tells told) (settled told) (open_of (tagging keys) known 1 g (g + 1) (disk synced).cells refl here at) at 0 synced ends new (omega (arith, few)) spans)

  -- behind them each image is the one that reads give
  pub behind_known : ((image : Image) → (disk new).left_since (disk new).moment image → (disk new).may_leave image) → ((disk old).tells → IsSynced (disk new)) → Notes (events_of (set_notes (is_closed_first known (place_of (g + 1))) 1 (g + 1))) (disk synced).seen (disk new).seen
      → ((disk old).tells → IsSyncedLeft keys (suc g) (disk old).cells 0 (disk new).cells) → WhereStood keys g (disk old) (λ closes. IsBeginStage disk keys closes (suc g) synced 3 (new, new))
  behind_known only durable made set told stands =
      by_known (λ closes n. IsBeginStage disk keys closes n synced 3 (new, new)) told
      (record {
        made = made;
        left = λ lacking is image since.
            let here : image ≡ (disk new).cells = fun_ext (λ k. durable told image (only image since) k) in
            let next : suc g ≡ g + 1 = omega arith in
            subst (λ (n : ℕ). IsSyncedLeft keys n (disk synced).cells lacking image) next
            (subst (λ (l : ℕ). IsSyncedLeft keys (suc g) (disk synced).cells l image) (sym is)
            (subst (λ (i : Image). IsSyncedLeft keys (suc g) (disk synced).cells 0 i) (sym here) (subst (λ (from : Image). IsSyncedLeft keys (suc g) from 0 (disk new).cells) (sym (same told)) (set told))));
      })

-- the register stood so before reads too
pub stood_before : (keys : Keys) (g : ℕ) (old mid : Disk) (IsSo : Bool → Type 0) → Keeps old mid → WhereStood keys g mid IsSo → WhereStood keys g old IsSo
stood_before keys g old mid IsSo keeps so told stands known are =
    let same : mid.cells ≡ old.cells = fun_ext (λ k. keeps.cells told k) in
    so (keeps.tells told) (subst (λ (i : Image). StandsAt (tagging keys) 1 i g) (sym same) stands) known (subst (λ (i : Image). GatesAre known 1 i) (sym same) are)
