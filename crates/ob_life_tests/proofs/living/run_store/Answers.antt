use Rattle.std.specs.Prelude.{codes}
use Rattle.std.proofs.Common.{[], None, false, refl}
use Rattle.ob_mem.specs.Memory.{disk_of_store}
use Rattle.ob_seal.specs.Draws.{list_drawn}
use Rattle.ob_top.specs.Outside.{words_given}
use Rattle.ob_life_tests.proofs.Told.{keys_plain, ran, store_plain}
use Rattle.ob_life_tests.proofs.living.run_store.Goals as goal

pub returns-clause-ran : goal.returns-clause-ran
returns-clause-ran g c =
    let asked = c.forms_are_read.ensures.run (codes "store") (codes "keys") [] store_plain keys_plain tt in
    ran disk_of_store c.args.keys c.args.store.now c.obladi.new.store.0 _ _ _ _ c.obladi.result _ (words_given c.obladi.new.tape.generation (list_drawn c.obladi.new.tape)) None false _ _ _ _
    (λ k shares keys are given has. c.obladi.ensures.headline _ _ _ _ _ _ _ k shares keys asked are given has) (c.obladi.ensures.run _ _ _ _ _ _ _ asked)
