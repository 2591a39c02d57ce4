use Rattle.std.proofs.Common.{◌<◌, length, sym, subst, arith}
use Rattle.std.proofs.lemmas.List.Elements.{All-get_or}
use Rattle.ob_base.specs.declared.value.Write.{Write}
use Rattle.ob_flat.proofs.Maps.{write_more}
use Rattle.ob_flat.proofs.values.apply.Goals as goal

pub loop-write-preserved : goal.loop-write-preserved
loop-write-preserved c =
    let i = c.loop-write.write-index in
    let w = c.write-item.result in
    let is = sym c.write-item.is in
    let low : w.key < length c.args.values.now = subst (λ (x : Write). x.key < length c.args.values.now) is (All-get_or (λ (x : Write). x.key < length c.args.values.now) c.args.writes.now i w c.loop-write-test.true c.requires) in
    let here : w.key < length c.loop-write.values = omega arith in
    write_more c.args.values.now c.loop-write.values c.args.writes.now i w c.loop-write-test.true is here c.loop-write.invariant
