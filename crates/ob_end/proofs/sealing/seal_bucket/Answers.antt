use Rattle.std.proofs.Common.{◌≡◌, ◌≢◌, ◌<◌, ◌+◌, ◌%◌, ℕ, [], length, List, get_or, set, arith, sym, ap, ◌∙◌, subst, below_more, get_or-set_same, get_or-set_other, length-set, rules}
use Rattle.ob_base.proofs.Bounds.{cells_le, width_le}
use Rattle.ob_seal.specs.Sealing.{Sealing}
use Rattle.ob_seal.specs.Seals.{sealed}
use Rattle.ob_cells.specs.Windows.{IsSlotSealed}
use Rattle.ob_end.specs.EndWrites.{slot_plain}
use Rattle.ob_end.proofs.sealing.seal_bucket.Goals as goal

pub overflow_add-first : goal.overflow_add-first
overflow_add-first c = omega (arith, c.slot_cell-first.ensures.within, cells_le c.args.p.now, width_le c.args.p.now, c.loop-j-test.true)

pub loop-j-preserved : goal.loop-j-preserved
loop-j-preserved c =
    let s = c.args.sealer.now in
    let j = c.loop-j.j in
    let first = c.slot_cell-first.result in
    let slots = c.loop-j.slots in
    let bytes = c.seal.result in
    let now : c.loop-j.seals ≡ record { keys = s.keys; generation = s.generation; next = c.args.number + j } = c.loop-j.invariant.seals in
    let wide : j < 48 = omega (arith, width_le c.args.p.now, c.loop-j-test.true) in
    let room : j < length slots = (let many = c.loop-j.invariant.many in omega (arith, wide, many)) in
    let plain = slot_plain c.args.ring.now c.args.bucket in
    let one : IsSlotSealed s.keys (first + j) s.generation (c.args.number + j) (plain j) bytes = record {
      bytes_are = c.seal.ensures.bytes ∙ ap (λ (t : Sealing). sealed t.keys (first + j) t.generation t.next c.plain_of-plain.result) now ∙ ap (λ (b : List ℕ). sealed s.keys (first + j) s.generation (c.args.number + j) b) c.plain_of-plain.ensures;
      whole = ap (λ (b : List ℕ). length b) (sym c.plain_of-plain.ensures) ∙ search rules;
    } in
    let low : j ≡ j % 256 = omega (arith, wide) in
    let next : c.args.number + j + 1 ≡ c.args.number + (j + 1) = omega arith in
    let here = subst (λ n. IsSlotSealed s.keys (first + j) s.generation (c.args.number + j) (plain n) bytes) low one in
    record {
      seals = c.seal.ensures.next ∙ ap (λ (t : Sealing). record t { next = t.next + 1 }) now ∙ ap (λ (n : ℕ). let t : Sealing = record { keys = s.keys; generation = s.generation; next = n } in t) next;
      sealed_so = below_more (λ k. IsSlotSealed s.keys (first + k) s.generation (c.args.number + k) (plain (k % 256)) (get_or (set slots j bytes) k [])) j
          (λ k lt. let other : k ≢ j = omega arith in subst (λ (b : List ℕ). IsSlotSealed s.keys (first + k) s.generation (c.args.number + k) (plain (k % 256)) b) (sym (get_or-set_other slots j k bytes [] other)) (c.loop-j.invariant.sealed_so k lt))
          (subst (λ (b : List ℕ). IsSlotSealed s.keys (first + j) s.generation (c.args.number + j) (plain (j % 256)) b) (sym (get_or-set_same slots j bytes [] room)) here);
      many = length-set slots j bytes ∙ c.loop-j.invariant.many;
    }
