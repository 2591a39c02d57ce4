-- A set in stages.
use Rattle.std.proofs.Common.{◌≡◌, ◌≢◌, ℕ, suc, ◌+◌, ◌%◌, ◌^◌, ◌<◌, ◌≤◌, Bool, true, false, if◌then◌else◌, List, [], ◌∷◌, ◌++◌, length, length-append, Result, Ok, Err, refl, sym, ◌∙◌, ap, subst, arith}
use Rattle.std.specs.Prelude.{IsErr}
use Rattle.ob_base.specs.declared.fault.Failed.{Failed}
use Rattle.ob_base.specs.declared.fault.Fault.{Fault}
use Rattle.ob_store.proofs.Moments.{weakened}
use Rattle.ob_store.specs.Calls.{Notes}
use Rattle.ob_store.specs.Disk.{Disk}
use Rattle.ob_store.specs.Images.{IsSynced, LeavesOnly, SameBut}
use Rattle.ob_store.specs.Told.{events_of}
use Rattle.ob_twin.specs.Bodies.{Tagging, open_gate}
use Rattle.ob_twin.specs.Orders.{prepare_notes, through_notes}
use Rattle.ob_twin.specs.Register.{IsPrepared, IsTornOnly, KeepsAt, OldOrNew, body_at, gate_at, place_of}
use Rattle.ob_twin.specs.Stages.{AreSetStages, AreSpans, IsSetStage, SetMoments, StagesLaid}
use Rattle.ob_twin.specs.Stops.{IsRegisterLeft}
use Rattle.ob_twin.specs.declared.set_err.SetErr.TheVariants.{Before}
use Rattle.ob_twin.proofs.Moves.{closing, kept_shut, torn_open}
use Rattle.ob_twin.proofs.Stops.{closing_image, laying_image, opening_image}

-- one stage more
pub spans_more : {S : Type 0} (IsSo : ℕ → S × S → Type 0) (stage : ℕ) (old : S) (ends : List S) (mid new : S) → AreSpans IsSo stage old ends mid → IsSo (stage + length ends) (mid, new) → AreSpans IsSo stage old (ends ++ new ∷ []) new
spans_more IsSo stage old [] mid new are one =
    (subst (λ x. IsSo stage (x, new)) are (let none : stage + 0 ≡ stage = omega arith in subst (λ n. IsSo n (mid, new)) none one), refl)
spans_more IsSo stage old (end ∷ ends) mid new are one =
    let more : stage + suc (length ends) ≡ suc stage + length ends = omega arith in
    (are.0, spans_more IsSo (suc stage) end ends mid new are.1 (subst (λ n. IsSo n (mid, new)) more one))

-- how many there are
pub laid_two : (r : Result (Unit {0}) Failed) → StagesLaid r 2
laid_two (Ok done) = refl
laid_two (Err failed) = omega arith

pub laid_few : (r : Result (Unit {0}) Failed) (many : ℕ) → IsErr r → many ≤ 2 → StagesLaid r many
laid_few (Ok done) many err few = absurd (let wrong : false ≡ true = err in cc)
laid_few (Err failed) many err few = few

module _ {S : Type 0} (disk : S → Disk) (tag : Tagging) (closes : Bool) (first n : ℕ) (old : S) where
  pub closing_stage : (new : S) → Notes (events_of []) (disk old).seen (disk old).seen → (IsSynced (disk old) → LeavesOnly (disk old) (disk new) (λ c. IsTornOnly closes (gate_at first (place_of n)) c (disk old).cells)) → IsSetStage disk tag closes first n old 0 (old, new)
  closing_stage new none all = record {
    made = none;
    gates = λ lacking is c left tells settled opened. subst (λ l. IsRegisterLeft tag first n (disk old).cells l c) (sym is) (closing_image tag first n (disk old).cells closes c opened ((all settled).each c left));
    leaves = λ m next tells settled opened stands. closing tag first m n closes (disk old) (disk new) next stands opened (all settled);
  }

  pub laying_stage : (mid new : S) → Notes (events_of (if closes then through_notes (gate_at first (place_of n)) else [])) (disk old).seen (disk mid).seen → ((disk old).tells → IsSynced (disk old) → IsSynced (disk mid))
      → ((disk old).tells → (disk mid).cells (gate_at first (place_of n)) ≢ open_gate) → ((disk old).tells → SameBut (gate_at first (place_of n)) (disk mid).cells (disk old).cells)
      → (IsSynced (disk mid) → LeavesOnly (disk mid) (disk new) (λ c. SameBut (body_at first (place_of n)) c (disk mid).cells)) → IsSetStage disk tag closes first n old 1 (mid, new)
  laying_stage mid new made durable shut rest all = record {
    made = made;
    gates = λ lacking is c left tells settled opened. laying_image tag first n (disk old).cells (disk mid).cells c lacking is (shut tells) (rest tells) ((all (durable tells settled)).each c left);
    leaves = λ m next tells settled opened stands.
        let place : n % 2 ≡ (m + 1) % 2 = ap (λ x. x % 2) next in
        weakened (disk mid) (disk new) (λ c. SameBut (body_at first (n % 2)) c (disk mid).cells) (KeepsAt tag first (disk old).cells m)
        (λ c same. kept_shut tag first m (n % 2) (disk old).cells place stands c (λ k a b. same k a ∙ rest tells k b) (λ o. shut tells (sym (same (gate_at first (n % 2)) (omega arith)) ∙ o)))
        (all (durable tells settled));
  }

  pub opening_stage : (mid new : S) → n < 2 ^ 62 → Notes (events_of (prepare_notes closes first n)) (disk old).seen (disk mid).seen → ((disk old).tells → IsSynced (disk mid)) → ((disk old).tells → IsPrepared tag first (disk old).cells n (disk mid).cells)
      → (IsSynced (disk mid) → LeavesOnly (disk mid) (disk new) (λ c. SameBut (gate_at first (place_of n)) c (disk mid).cells)) → IsSetStage disk tag closes first n old 2 (mid, new)
  opening_stage mid new small made durable ready all = record {
    made = made;
    gates = λ lacking is c left tells settled opened. subst (λ l. IsRegisterLeft tag first n (disk old).cells l c) (sym is) (opening_image tag first n (disk old).cells (disk mid).cells c (ready tells) ((all (durable tells)).each c left));
    leaves = λ m next tells settled opened stands.
        weakened (disk mid) (disk new) (λ c. SameBut (gate_at first (n % 2)) c (disk mid).cells) (OldOrNew tag first (disk old).cells m n)
        (λ c same. torn_open tag first m n (disk old).cells (disk mid).cells c next small stands (ready tells) same) (all (durable tells));
  }

  -- once the body is laid, and the gate is opened behind it
  pub opened_stages : (mid new : S) → AreSetStages disk tag closes first n (λ many. many ≡ 2) old mid → IsSetStage disk tag closes first n old 2 (mid, new) → AreSetStages disk tag closes first n (λ many. many ≡ 3) old new
  opened_stages mid new laid last = record {
    ends = laid.ends ++ new ∷ [];
    many = (let two = laid.many in let more = length-append laid.ends (new ∷ []) in omega (arith, two, more));
    spans = spans_more (IsSetStage disk tag closes first n old) 0 old laid.ends mid new laid.spans
        (let two = laid.many in let at : 2 ≡ 0 + length laid.ends = omega (arith, two) in subst (λ stage. IsSetStage disk tag closes first n old stage (mid, new)) at last);
  }

  -- and where it was refused before
  pub stopped_moments : (new : S) (fault : Fault) → AreSetStages disk tag closes first n (λ many. many ≤ 2) old new → SetMoments disk tag closes first n old new (Err (Before fault))
  stopped_moments new fault are = record { stages = are; behind = λ tells under. tt }
