use Rattle.std.proofs.Common.{ℕ, subst}
use Rattle.ob_hall.specs.Passes.{IsRaised}
use Rattle.ob_driver.proofs.Beginning.{params_are, begins}
use Rattle.ob_driver.proofs.driving.announce.Goals as goal

pub returns-clause-params : goal.returns-clause-params
returns-clause-params g c = params_are c.args.hall.now c.args.pass.now c.args.params.now (g.V.Vault.counts c.args.vault.now) c.requires.first

pub raise-requires-clause-own : goal.raise-requires-clause-own
raise-requires-clause-own g c = c.requires.first.fresh.own

pub raise-requires-clause-driver : goal.raise-requires-clause-driver
raise-requires-clause-driver g c = c.requires.first.raises

pub returns-clause-found : goal.returns-clause-found
returns-clause-found g c = (subst (λ (n : ℕ). IsRaised c.args.pass.now c.raise.new.pass n) c.epoch.ensures.epoch c.raise.ensures.raised)

pub returns-clause-rests : goal.returns-clause-rests
returns-clause-rests g c = begins c.args.hall.now c.args.pass.now c.args.params.now (g.V.Vault.counts c.args.vault.now) c.requires.first c.raise.new.pass (subst (λ (n : ℕ). IsRaised c.args.pass.now c.raise.new.pass n) c.epoch.ensures.epoch c.raise.ensures.raised) c.raise.ensures.own
