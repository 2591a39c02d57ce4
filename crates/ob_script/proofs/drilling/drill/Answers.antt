use Rattle.std.proofs.Common.{◌≡◌, ◌∙◌, ap, sym, subst, arith}
use Rattle.ob_script.specs.Drill.{drill_txn, key_given, number_behind}
use Rattle.ob_script.specs.Script.{AreSound}
use Rattle.ob_script.specs.ScriptViews.{script_of}
use Rattle.ob_script.proofs.Drills.{drill_held, drill_more, drill_sound, two_more}
use Rattle.ob_script.proofs.drilling.drill.Goals as goal

pub loop-preserved : goal.loop-preserved
loop-preserved c =
    let was = c.loop.invariant in
    let read = c.number_behind-read.ensures in
    let next = c.number_behind-x.ensures ∙ ap number_behind read in
    let told = c.in_ok-txn.ensures ∙ (λ j. drill_txn ((c.key_given.ensures.given ∙ ap key_given read) j) ((c.key_given-in-loop.ensures.given ∙ ap key_given next) j)) in
    (was.0, ap script_of c.push_reserved-in-loop.ensures.items ∙ drill_more c.loop.counter c.loop.txns.items _ c.loop.x was.1 was.2 told, next ∙ two_more c.loop.counter c.loop.x was.2, omega (arith, c.push_reserved-in-loop.ensures.len, was.3), omega (arith, c.push_reserved-in-loop.ensures.capacity, was.4))

pub new-requires : goal.new-requires
new-requires c =
    let all : c.loop.counter ≡ c.args.count = omega (arith, c.loop-test.false, c.loop.auto.counter-end) in
    subst AreSound (sym (drill_held _ _ c.loop.txns.items c.loop.invariant.0 c.loop.invariant.1)) (drill_sound c.loop.counter)
