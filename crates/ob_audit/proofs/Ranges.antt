-- The parameters of a store, by their numbers.
use Rattle.std.proofs.Common.{◌≡◌, ◌≤◌, ◌<◌, ◌*◌, ◌^◌, ℕ, Bool, true, ◌&&◌, nat_le, refl, None, arith}
use mathlib.Core.HLevel.{is_prop→PathP}
use native.Mathlib.Bridge.{le_prop}
use Rattle.std.proofs.lemmas.Bool.{le-leb}
use Rattle.ob_base.specs.declared.params.Params.{Params}
use Rattle.ob_base.specs.Parameters.{AreInRange}
use Rattle.ob_base.specs.Fields.{is_within, first_out_of_range}

both_true : (a b : Bool) → a ≡ true → b ≡ true → (a && b) ≡ true
both_true a b e f = λ i. e i && f i

within : (low high x : ℕ) → low ≤ x → x ≤ high → is_within low high x ≡ true
within low high x h g = both_true (nat_le low x) (nat_le x high) (le-leb low x h) (le-leb x high g)

pub none_out : (p : Params) → first_out_of_range p.keys p.levels p.real p.dummies p.batches p.places p.writes p.evictions p.room ≡ None
none_out p =
    let r = p.in_range in
    let k = within 1 65536 p.keys r.some_keys r.few_keys in
    let l = within 1 16 p.levels r.some_levels r.few_levels in
    let z = within 1 16 p.real r.some_real r.few_real in
    let s = within 1 32 p.dummies r.some_dummies r.few_dummies in
    let b = within 1 16 p.batches r.some_batches r.few_batches in
    let q = within 1 64 p.places r.some_places r.few_places in
    let w = within 1 256 p.writes r.some_writes r.few_writes in
    let e = within 1 64 p.evictions r.some_evictions r.few_evictions in
    let t = within 1 1024 p.room r.some_room r.few_room in
    let f = le-leb p.keys (p.real * 2 ^ p.levels) r.keys_fit in
    rw (k, l, z, s, b, q, w, e, t, f) refl

pub same_params : (p q : Params) → p.keys ≡ q.keys → p.levels ≡ q.levels → p.real ≡ q.real → p.dummies ≡ q.dummies → p.batches ≡ q.batches → p.places ≡ q.places → p.writes ≡ q.writes → p.evictions ≡ q.evictions → p.room ≡ q.room → p ≡ q
same_params p q k l z s b c w e t =
    λ i. record {
      keys = k i;
      levels = l i;
      real = z i;
      dummies = s i;
      batches = b i;
      places = c i;
      writes = w i;
      evictions = e i;
      room = t i;
      in_range = is_prop→PathP (λ j. AreInRange (k j) (l j) (z j) (s j) (b j) (c j) (w j) (e j) (t j)) (λ j. hlevel (le_prop)) p.in_range q.in_range i;
    }

pub few_numbers : (p : Params) → (p.keys < 2 ^ 32) × (p.levels < 2 ^ 32) × (p.real < 2 ^ 32) × (p.dummies < 2 ^ 32) × (p.batches < 2 ^ 32) × (p.places < 2 ^ 32) × (p.writes < 2 ^ 32) × (p.evictions < 2 ^ 32) × (p.room < 2 ^ 32)
few_numbers p =
    let r = p.in_range in
    (omega (arith, r.few_keys), omega (arith, r.few_levels), omega (arith, r.few_real), omega (arith, r.few_dummies), omega (arith, r.few_batches), omega (arith, r.few_places), omega (arith, r.few_writes), omega (arith, r.few_evictions), omega (arith, r.few_room))
