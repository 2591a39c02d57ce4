use Rattle.std.proofs.Common.{map, sym, subst}
use Rattle.ob_mirrored.specs.Asked.{IsAsked}
use Rattle.ob_mirrored.proofs.Doing.{refused_told, work_asks}
use Rattle.ob_mirrored.proofs.asked.mirror_asked.Goals as goal

pub returns-in-Ok : goal.returns-in-Ok
returns-in-Ok c = subst (λ run. IsAsked (map (λ w. w.now) c.args.words.now) run) (sym c.mirrored.ensures) (work_asks (map (λ w. w.now) c.args.words.now) c.in-Ok.work c.in-Ok.ensures.work)

pub returns-in-Err : goal.returns-in-Err
returns-in-Err c = refused_told (map (λ w. w.now) c.args.words.now) c.in-Err.fault c.in-Err.ensures.refused c.refused_for.result c.refused_for.ensures
