-- A plan's jobs have room.
use Rattle.std.specs.Prelude.{◌≡◌, ℕ, ◌+◌, ◌*◌, ◌<◌, ◌≤◌, max}
use Rattle.std.proofs.Common.{zero, suc, arith, ◌∙◌}
use Rattle.std.proofs.Math.Nat.{mul-le-mul_left, mul-le-mul_right}
use Rattle.ob_base.specs.declared.params.Params.{Params}
use Rattle.ob_base.specs.Planned.{Planned, most_jobs}
use Rattle.ob_ring.specs.Fetching.{GrowsBy}

pub swapped : (n m z : ℕ) → n * (m * z) + m * z ≡ m * ((n + 1) * z)
swapped n m z = grind arith

pub batch_room : (p : Params) (n : ℕ) → n < p.places → n * ((p.levels + 1) * (p.real + 1)) + (p.levels + 1) * (p.real + 1) ≤ most_jobs p
batch_room p n h =
    let a : (n + 1) * (p.real + 1) ≤ p.places * (p.real + 1) = mul-le-mul_right (p.real + 1) (omega arith) in
    let b : (n + 1) * (p.real + 1) ≤ max (p.places * (p.real + 1)) (p.evictions * p.real) = omega arith in
    let c : (p.levels + 1) * ((n + 1) * (p.real + 1)) ≤ (p.levels + 1) * max (p.places * (p.real + 1)) (p.evictions * p.real) = mul-le-mul_left (p.levels + 1) b in
    omega (arith, swapped n (p.levels + 1) (p.real + 1))

pub lifts_room : (p : Params) (n : ℕ) → n < p.evictions → n * ((p.levels + 1) * p.real) + (p.levels + 1) * p.real ≤ most_jobs p
lifts_room p n h =
    let a : (n + 1) * p.real ≤ p.evictions * p.real = mul-le-mul_right p.real (omega arith) in
    let b : (n + 1) * p.real ≤ max (p.places * (p.real + 1)) (p.evictions * p.real) = omega arith in
    let c : (p.levels + 1) * ((n + 1) * p.real) ≤ (p.levels + 1) * max (p.places * (p.real + 1)) (p.evictions * p.real) = mul-le-mul_left (p.levels + 1) b in
    omega (arith, swapped n (p.levels + 1) p.real)

pub grows_by_then : (n m k c : ℕ) (old mid new : Planned) → n + k ≡ c → GrowsBy n m old mid → GrowsBy k 1 mid new → GrowsBy c (m + 1) old new
grows_by_then n m k c old mid new e a b = record {
  few = omega (arith, a.few, b.few);
  places = omega (arith, a.places, b.places);
  room = b.room ∙ a.room;
  place_room = b.place_room ∙ a.place_room;
}

pub lifts_most : (p : Params) (n : ℕ) → n ≤ p.evictions → n * ((p.levels + 1) * p.real) ≤ most_jobs p
lifts_most p zero h = omega arith
lifts_most p (suc n) h =
    let a : n * ((p.levels + 1) * p.real) + (p.levels + 1) * p.real ≤ most_jobs p = lifts_room p n (omega arith) in
    let b : suc n * ((p.levels + 1) * p.real) ≡ n * ((p.levels + 1) * p.real) + (p.levels + 1) * p.real = omega arith in
    omega arith
