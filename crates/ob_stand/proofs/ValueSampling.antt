-- Cases that are computed from the definitions.
use Rattle.std.specs.Prelude.{◌≡◌, ◌≤◌, ℕ, List, [], ◌∷◌, length}
use Rattle.std.specs.declared.option.Option.TheVariants.{None, Some}
use Rattle.std.specs.FinMap as finite
use Rattle.std.specs.Ordering.{nat_cmp}
use Rattle.std.proofs.Common.{refl, arith}
use Rattle.std.proofs.lemmas.Bool.{false≢true}
use Rattle.ob_base.specs.declared.params.Params.{Params}
use Rattle.ob_ring.specs.FlatTable.{Writes, after}
use Rattle.ob_ring.specs.Ring.{empty_table}
use Rattle.ob_ring.specs.Writing.{leaf_writes, values_after}
use Rattle.ob_ring.proofs.Rows.{p0}
use Rattle.ob_stand.specs.Values.{with_entries}
use Rattle.ob_stand.specs.Carries.{Slots, Carries}
use Rattle.ob_stand.specs.ValueSamples.{ValuesSampled, puts}
use Rattle.ob_stand.proofs.Written.{writes_carry}

nothing_carried : (p : Params) (slots : Slots) → Carries p empty_table finite.empty slots (λ k. None)
nothing_carried p slots = record {
  low = λ k e. absurd (false≢true e);
  keys = λ k. refl;
  short = λ k v e. absurd (cc);
  held = λ k e. finite.get-empty nat_cmp k;
  others = λ k u j e. finite.get-empty nat_cmp k;
  placed = λ k u j v e f. absurd (cc);
}

put_carried : (slots : Slots) → Carries p0 (after p0 empty_table (Writes (leaf_writes (puts 0)))) (values_after finite.empty (puts 0)) slots (with_entries (λ k. None) (puts 0))
put_carried slots = writes_carry p0 empty_table (puts 0) finite.empty slots (λ k. None) (omega arith, (λ v e. short v e), tt) (nothing_carried p0 slots)
  where
    short : (v : List ℕ) → Some (113 ∷ []) ≡ Some v → length v ≤ 64
    short v e = let same : 113 ∷ [] ≡ v = cc in rw (← same) (omega arith)

pub sampled : ValuesSampled
sampled = record {
  p = p0;
  numbers = refl;
  lifted = refl;
  lies = refl;
  lies_higher = refl;
  counter = refl;
  nothing = nothing_carried p0;
  put = put_carried;
  spelled = refl;
  long = refl;
}
