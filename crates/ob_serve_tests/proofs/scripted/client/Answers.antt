use Rattle.std.proofs.Common.{ap, arith, refl}
use Rattle.ob_script.specs.Script.{Scripts}
use Rattle.ob_serve_tests.proofs.scripted.client.Goals as goal

pub returns : goal.returns
returns g c =
    let e = c.in-Ok-new.ensures in
    let keys = ap (λ (s : Scripts). s.keys) c.in-Ok.ensures.script.scripts_are in
    let bound = e.bound in
    record { named = e.client; below = omega (arith, bound, keys); unsaid = (e.fits, refl) }
