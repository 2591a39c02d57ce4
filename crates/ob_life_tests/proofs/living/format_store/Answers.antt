use Rattle.std.specs.Prelude.{[], codes}
use Rattle.ob_mem.specs.Memory.{disk_of_store}
use Rattle.ob_life_tests.proofs.Told.{all_plain, made}
use Rattle.ob_life_tests.proofs.living.format_store.Goals as goal

pub returns-clause-made : goal.returns-clause-made
returns-clause-made g c =
    let asked = c.forms_are_read.ensures.format (codes "store") (codes "keys") (codes "8") (codes "2") (codes "2") (codes "3") (codes "2") (codes "2") (codes "2") (codes "2") (codes "8") []
    all_plain tt tt in
    λ zero. (_, made disk_of_store c.args.keys c.args.store.now c.obladi.new.store.0 _ _ _ _ c.obladi.result _ _ (c.obladi.ensures.format _ _ _ _ asked) zero)
