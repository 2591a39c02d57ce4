use Rattle.std.proofs.Common.{◌+◌, ◌*◌, ◌%◌, ◌^◌, ◌∙◌, ℕ, [], List, ap, arith, sym}
use Rattle.std.specs.Prelude.{slice_index_or}
use Rattle.ob_base.specs.Layout.{slot_cell}
use Rattle.ob_base.specs.Tree.{width}
use Rattle.ob_seal.specs.Seals.{sealed}
use Rattle.ob_end.specs.EndWrites.{listed_at, slot_plain, version_of}
use Rattle.ob_end.proofs.sealing.seal_rows.Goals as goal

pub returns-clause-each : goal.returns-clause-each
returns-clause-each g c = λ k lt j low.
    let at = (c.for_each_mut.ensures k [] (omega (arith, lt, c.for_each_mut.auto.s))).1 in
    let r = c.args.ring.now in
    let s = c.args.sealer.now in
    let u = listed_at r (c.args.first + k) in
    let one = at.call j low in
    record {
      bytes_are = ap (λ (slots : List (List ℕ)). slice_index_or slots j []) (sym at.left) ∙ one.bytes_are
          ∙ ap (λ (t : ℕ × ℕ). sealed s.keys (slot_cell r.p (version_of r u).home u 0 + j) s.generation (t.1 + k * width r.p + j) (slot_plain r u (j % 2 ^ 8))) c.next-number.ensures.identity;
      whole = one.whole;
    }
