use Rattle.std.proofs.Common.{◌≡◌, ◌<◌, ◌+◌, ◌-◌, ◌*◌, ◌%◌, ℕ, [], length, List, arith, subst, sym, ap, slice_index_or, refl}
use Rattle.ob_base.specs.Tree.{width}
use Rattle.ob_end.specs.EndWrites.{listed_at}
use Rattle.ob_end.specs.Sealing.{IsBucketSealed}
use Rattle.ob_end.proofs.Products.{between}
use Rattle.ob_end.proofs.sealing.seal_in_time.Goals as goal

pub returns-then-is_multiple_of-clause-ready : goal.returns-then-is_multiple_of-clause-ready
returns-then-is_multiple_of-clause-ready g c = λ first e k le lt same.
    let s = c.args.sealer.now in
    let r = c.args.ring.now in
    let i = c.args.i in
    let rows = c.seal_few.new.rows in
    let w = width r.p in
    let multiple : i % 32 ≡ 0 = c.if-is_multiple_of.ensures.0 refl in
    let at : k % 32 ≡ k - i = omega (arith, le, same, multiple) in
    let low : k - i < c.min-few.result = (let many = ap (λ (us : List ℕ). length us) c.to_refill.ensures in omega (arith, c.min-few.ensures, many, lt, le, same, multiple)) in
    let number : s.next + (k - i) * w ≡ first + k * w = (let parts = between i k w le in omega (arith, e, parts)) in
    let place : i + (k - i) ≡ k = omega (arith, le) in
    subst (λ (n : ℕ). IsBucketSealed s.keys s.generation n r (listed_at r k) (slice_index_or rows (k % 32) [])) number
    (subst (λ (n : ℕ). IsBucketSealed s.keys s.generation (s.next + (k - i) * w) r (listed_at r n) (slice_index_or rows (k % 32) [])) place
    (subst (λ (n : ℕ). IsBucketSealed s.keys s.generation (s.next + (k - i) * w) r (listed_at r (i + (k - i))) (slice_index_or rows n [])) (sym at) (c.seal_few.ensures.each (k - i) low)))

pub returns-else-is_multiple_of-clause-ready : goal.returns-else-is_multiple_of-clause-ready
returns-else-is_multiple_of-clause-ready g c = λ first e k le lt same. c.requires.ready first e k (λ z. absurd (grind (arith, c.is_multiple_of.ensures, c.if-is_multiple_of.false, z))) le lt same
