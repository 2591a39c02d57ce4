-- An end in stages: its writes, and those of the register's set.
use Rattle.std.specs.Prelude.{◌≡◌, ◌≤◌, ◌<◌, ◌+◌, ℕ, zero, suc, Bool, IsTrue, List, [], ◌∷◌, length, Option, Ok, Err}
use Rattle.std.proofs.Common.{arith, refl, sym, ap, ◌∙◌, subst, inl, inr, ⊎_elim}
use Rattle.ob_base.specs.declared.params.Params.{Params}
use Rattle.ob_end.proofs.Stops.{left_from}
use Rattle.ob_end.specs.Closings.{IfWritten, SameGeneration}
use Rattle.ob_end.specs.EndRuns.{end_err_of}
use Rattle.ob_end.specs.EndWrites.{SameFirst}
use Rattle.ob_end.specs.Stages.{EndStagesSet, IsEndSetStage, IsEndSpanned, StandsInStage}
use Rattle.ob_seal.specs.declared.keys.Keys.{Keys}
use Rattle.ob_serial.specs.declared.vault.EndErr.TheVariants as end
use Rattle.ob_stand.proofs.EndLaws.{end_is_held, end_sets, end_spares}
use Rattle.ob_stand.specs.Ends.{IsEndOf, IsEndWritten, RingEnd, standing_after}
use Rattle.ob_stand.specs.Spare.{SameButIn, Spare}
use Rattle.ob_stand.specs.Stands.{HoldsRest, OneOf, RingStanding, Stands}
use Rattle.ob_store.proofs.Moments.{passed_then, passes_so, weakened}
use Rattle.ob_store.specs.Calls.{Keeps, Notes}
use Rattle.ob_store.specs.Told.{events_of}
use Rattle.ob_store.specs.Disk.{Disk, Image}
use Rattle.ob_store.specs.Images.{IsSynced, LeavesOnly, Passes, Same}
use Rattle.ob_store.specs.declared.event.Event.{Event}
use Rattle.ob_twin.specs.Keyed.{tagging}
use Rattle.ob_twin.specs.Register.{IsOpen, KeepsAt, place_of}
use Rattle.ob_twin.specs.Stops.{IsRegisterLeft}
use Rattle.ob_twin.specs.Stages.{AreSetStages, AreSpans, IsNumberLeft, IsSetStage, StagesSet, made_before}
use Rattle.ob_twin.specs.declared.set_err.SetErr.{SetErr}
use Rattle.ob_twin.specs.declared.set_err.SetErr.TheVariants as set

-- Stages that are so are so too, those below a bound.
pub spans_so : {S : Type 0} (IsSo IsToo : ℕ → S × S → Type 0) (bound : ℕ) → ((stage : ℕ) (x : S × S) → stage < bound → IsSo stage x → IsToo stage x) → (stage : ℕ) (old : S) (ends : List S) (new : S) → stage + length ends ≤ bound
    → AreSpans IsSo stage old ends new → AreSpans IsToo stage old ends new
spans_so IsSo IsToo bound so stage old [] new few are = are
spans_so IsSo IsToo bound so stage old (end ∷ ends) new few are = (so stage (old, end) (omega (arith, few)) are.0, spans_so IsSo IsToo bound so (suc stage) end ends new (omega (arith, few)) are.1)

-- ---- the set behind the writes

module _ {S : Type 0} (disk : S → Disk) (keys : Keys) (p : Params) (s : RingStanding) (end : RingEnd) (closes : Bool) (old mid : S) (follows : IsEndOf p s end) (stood : Stands keys p s (disk old).cells) (elsewhere : SameButIn (Spare p s) (disk mid).cells (disk old).cells)
    (written : IsEndWritten keys p s end (disk mid).cells) (tells : (disk mid).tells) (synced : IsSynced (disk mid)) (opened : IsTrue closes → IsOpen 5 (disk mid).cells (place_of (suc s.epoch)))
    (same : (k : ℕ) → k < 9 → (disk mid).cells k ≡ (disk old).cells k) where
  stands : Stands keys p s (disk mid).cells
  stands = end_spares keys p s (disk mid).cells (disk old).cells elsewhere stood

  holds : HoldsRest keys p (standing_after s end) (disk mid).cells
  holds = end_is_held keys p s end (disk mid).cells (disk old).cells follows elsewhere stood written

  -- by the number that the register is left at
  number_stands : (stage : ℕ) (c : Image) → IsNumberLeft (tagging keys) 5 (disk mid).cells s.epoch (suc s.epoch) stage c → StandsInStage keys p s (standing_after s end) stage c
  number_stands zero c kept = (end_sets keys p s end c (disk mid).cells stands).old kept
  number_stands (suc zero) c kept = (end_sets keys p s end c (disk mid).cells stands).old kept
  number_stands (suc (suc stage)) c either = ⊎_elim (λ kept. inl ((end_sets keys p s end c (disk mid).cells stands).old kept)) (λ kept. inr ((end_sets keys p s end c (disk mid).cells stands).new holds kept)) either

  -- no other cell changes
  number_rest : (stage : ℕ) (c : Image) → IsNumberLeft (tagging keys) 5 (disk mid).cells s.epoch (suc s.epoch) stage c → SameGeneration c (disk mid).cells
  number_rest zero c kept k low = kept.rest k (inl low)
  number_rest (suc zero) c kept k low = kept.rest k (inl low)
  number_rest (suc (suc stage)) c either k low = ⊎_elim (λ (kept : KeepsAt (tagging keys) 5 (disk mid).cells s.epoch c). kept.rest k (inl low)) (λ (kept : KeepsAt (tagging keys) 5 (disk mid).cells (suc s.epoch) c). kept.rest k (inl low)) either

  left_at : (stage : ℕ) (x : S × S) → IsSetStage disk (tagging keys) closes 5 (suc s.epoch) mid stage x → LeavesOnly (disk x.0) (disk x.1) (IsNumberLeft (tagging keys) 5 (disk mid).cells s.epoch (suc s.epoch) stage)
  left_at stage x is = is.leaves s.epoch (omega arith) tells synced opened stands.epoch

  set_stage : (stage : ℕ) (x : S × S) → IsSetStage disk (tagging keys) closes 5 (suc s.epoch) mid stage x → IsEndSetStage disk keys p s (standing_after s end) closes old mid stage x
  set_stage stage x is = record {
    made = is.made;
    gates = λ lacking few c left. left_from (tagging keys) (suc s.epoch) (disk mid).cells (disk old).cells c lacking (λ k low. sym (same k low)) (is.gates lacking few c left tells synced opened);
    generation = λ c left k low. number_rest stage c ((left_at stage x is).each c left) k low ∙ same k (omega (arith, low));
    stands = weakened (disk x.0) (disk x.1) (IsNumberLeft (tagging keys) 5 (disk mid).cells s.epoch (suc s.epoch) stage) (StandsInStage keys p s (standing_after s end) stage) (λ c left. number_stands stage c left) (left_at stage x is);
  }

  pub set_spanned : (Made : Option (List Event) → Option (List Event) → Type 0) (IsMany : ℕ → Type 0) (new : S) → Made (disk old).seen (disk mid).seen → Passes SameFirst (disk old) (disk mid) → LeavesOnly (disk old) (disk mid) (Stands keys p s)
      → AreSetStages disk (tagging keys) closes 5 (suc s.epoch) IsMany mid new → IsEndSpanned disk keys p s (standing_after s end) closes Made IsMany old new
  set_spanned Made IsMany new made kept writing are = record {
    wrote = mid;
    ends = are.ends;
    many = are.many;
    made = inr made;
    kept = kept;
    writing = writing;
    setting = spans_so (IsSetStage disk (tagging keys) closes 5 (suc s.epoch) mid) (IsEndSetStage disk keys p s (standing_after s end) closes old mid) (length are.ends) (λ stage x low is. set_stage stage x is) 0 mid are.ends new (omega arith) are.spans;
  }

-- it was refused in its writes
pub unset_spanned : {S : Type 0} (disk : S → Disk) (keys : Keys) (p : Params) (s then : RingStanding) (closes : Bool) (Made : Option (List Event) → Option (List Event) → Type 0) (old new : S) → Passes SameFirst (disk old) (disk new) → LeavesOnly (disk old) (disk new) (Stands keys p s)
    → IsEndSpanned disk keys p s then closes Made (λ many. many ≤ 2) old new
unset_spanned disk keys p s then closes Made old new kept writing = record { wrote = new; ends = []; many = omega arith; made = inl refl; kept = kept; writing = writing; setting = refl }

-- ---- behind the lifts' reads

first_again : (c d e : Image) → SameFirst c d → SameFirst d e → SameFirst c e
first_again c d e one two k low = one k low ∙ two k low

pub only_read : (old mid : Disk) → Passes Same old mid → Passes SameFirst old mid
only_read old mid reads = passes_so Same SameFirst old mid (λ c d same k low. ap (λ (i : Image). i k) same) reads

reads_first : (old mid new : Disk) → Passes Same old mid → Passes SameFirst mid new → Passes SameFirst old new
reads_first old mid new reads writes = passed_then SameFirst old mid new first_again (only_read old mid reads) writes

module _ {S : Type 0} (disk : S → Disk) (keys ks : Keys) (p q : Params) (s then after : RingStanding) (closes first : Bool) (old mid new : S) (keys_are : ks ≡ keys) (params_are : q ≡ p) (closes_are : first ≡ closes) (reads : Passes Same (disk old) (disk mid)) (keeps : Keeps (disk old) (disk mid)) (told : (disk old).tells)
    (Made Made' : Option (List Event) → Option (List Event) → Type 0) (made : (x : S) → Made' (disk mid).seen (disk x).seen → Made (disk old).seen (disk x).seen) (writing : (x : S) → LeavesOnly (disk mid) (disk x) (Stands ks q s) → LeavesOnly (disk old) (disk x) (Stands keys p s)) where
  abbrev Stood : Keys → Params → Disk → Disk → Type 0
  Stood k r a b = LeavesOnly a b (Stands k r s)

  stood_as : (a b : Disk) → Stood ks q a b → Stood keys p a b
  stood_as a b is = subst (λ (r : Params). Stood keys r a b) params_are (subst (λ (k : Keys). Stood k q a b) keys_are is)

  abbrev Either : Disk → Disk → Type 0
  Either a b = LeavesOnly a b (OneOf ks q s after) → LeavesOnly a b (OneOf keys p s then)

  -- as the run names it
  stands_as : (bound : ℕ) → ((a b : Disk) → 2 < bound → Either a b) → (stage : ℕ) → stage < bound → (a b : Disk) → LeavesOnly a b (StandsInStage ks q s after stage) → LeavesOnly a b (StandsInStage keys p s then stage)
  stands_as bound either zero low a b is = stood_as a b is
  stands_as bound either (suc zero) low a b is = stood_as a b is
  stands_as bound either (suc (suc stage)) low a b is = either a b (omega (arith, low)) is

  stage_as : (bound : ℕ) → ((a b : Disk) → 2 < bound → Either a b) → (wrote : S) (stage : ℕ) (x : S × S) → stage < bound → IsEndSetStage disk ks q s after first mid wrote stage x → IsEndSetStage disk keys p s then closes old wrote stage x
  stage_as bound either wrote stage x low is = record {
    made = subst (λ (b : Bool). Notes (events_of (made_before b 5 (suc s.epoch) stage)) (disk wrote).seen (disk x.0).seen) closes_are is.made;
    gates = λ lacking few c left.
        left_from (tagging keys) (suc s.epoch) (disk mid).cells (disk old).cells c lacking (λ k under. sym (keeps.cells told k))
        (subst (λ (k : Keys). IsRegisterLeft (tagging k) 5 (suc s.epoch) (disk mid).cells lacking c) keys_are (is.gates lacking few c left));
    generation = λ c left k under. is.generation c left k under ∙ keeps.cells told k;
    stands = stands_as bound either stage low (disk x.0) (disk x.1) is.stands;
  }

  onto_reads : (bound : ℕ) → ((a b : Disk) → 2 < bound → Either a b) → (IsMany IsMany' : ℕ → Type 0) → ((many : ℕ) → IsMany' many → (many ≤ bound) × IsMany many) → IsEndSpanned disk ks q s after first Made' IsMany' mid new → IsEndSpanned disk keys p s then closes Made IsMany old new
  onto_reads bound either IsMany IsMany' fits is = record {
    wrote = is.wrote;
    ends = is.ends;
    many = (fits (length is.ends) is.many).1;
    made = ⊎_elim (λ none. inl none) (λ all. inr (made is.wrote all)) is.made;
    kept = reads_first (disk old) (disk mid) (disk is.wrote) reads is.kept;
    writing = writing is.wrote is.writing;
    setting = spans_so (IsEndSetStage disk ks q s after first mid is.wrote) (IsEndSetStage disk keys p s then closes old is.wrote) bound (λ stage x low one. stage_as bound either is.wrote stage x low one) 0 is.wrote is.ends new
        (let few = (fits (length is.ends) is.many).0 in omega (arith, few)) is.setting;
  }

  pub ended_spanned : ((a b : Disk) → Either a b) → IsEndSpanned disk ks q s after first Made' (StagesSet (Ok tt)) mid new → IsEndSpanned disk keys p s then closes Made (EndStagesSet (Ok tt)) old new
  ended_spanned either is = onto_reads 3 (λ a b low. either a b) (EndStagesSet (Ok tt)) (StagesSet (Ok tt)) (λ many is. (omega (arith, is), is)) is

  -- refused before its gate was written the end left no other standing
  pub closed_spanned : (rows : Type 0) → (rows → (a b : Disk) → Either a b) → (x : SetErr) → IfWritten rows (Err x) → IsEndSpanned disk ks q s after first Made' (StagesSet (Err x)) mid new → IsEndSpanned disk keys p s then closes Made (EndStagesSet (Err (end_err_of x))) old new
  closed_spanned rows either (set.Before fault) left is = onto_reads 2 (λ a b low. absurd (omega (arith, low))) (EndStagesSet (Err (end.Before fault))) (StagesSet (Err (set.Before fault))) (λ many is. (is, is)) is
  closed_spanned rows either (set.Unsure fault) left is = onto_reads 3 (λ a b low. either left a b) (EndStagesSet (Err (end.Unsure fault))) (StagesSet (Err (set.Unsure fault))) (λ many is. (omega (arith, is), is)) is
