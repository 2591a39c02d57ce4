-- A vault over an opened store is at what stood.
use Rattle.std.specs.Prelude.{◌≡◌, ◌+◌, ◌-◌, false, length, None, Result, Ok, IfOk}
use Rattle.std.specs.Ordering.{nat_cmp}
use Rattle.std.proofs.Common.{ap, arith, subst}
use Rattle.ob_base.specs.declared.params.Params.{Params}
use Rattle.ob_vault.specs.RingVaults.{opened_ring}
use Rattle.ob_ring_vault_tests.specs.Opened.{opened_ring_at}
use Rattle.ob_serial.specs.Serial.{Map}
use Rattle.ob_stand.specs.Stands.{RingStanding}
use Rattle.ob_opening.specs.declared.opening.Opening.{Opening}

module _ {L : Type 0} (p : Params) (s : RingStanding) (content : Map nat_cmp) (o : Opening L) (params : o.params ≡ p) (left : o.left + length s.records ≡ p.batches) where
  batches_are : (o.params).batches ≡ p.batches
  batches_are = ap (λ (q : Params). q.batches) params

  left_are : o.left ≡ p.batches - length s.records
  left_are = omega (arith, left)

  pub opened_is : opened_ring o s content ≡ opened_ring_at p s content
  opened_is = λ i. record { batches = batches_are i; epoch = s.epoch; content = content; left = left_are i; spent = false; doubt = None }

-- what a result says, said of what it holds
pub answers_of : {R F V : Type 0} (r : Result R F) (x : R) (A B : R → V → Type 0) → r ≡ Ok x → IfOk r (λ y. (last : V) × A y last × B y last) → (last : V) × A x last
answers_of {R} {F} {V} r x A B is told = let got = subst (λ (q : Result R F). IfOk q (λ y. (last : V) × A y last × B y last)) is told in (got.0, got.1)
