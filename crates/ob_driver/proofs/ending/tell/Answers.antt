use Rattle.std.proofs.Common.{◌≡◌, ◌∙◌, ℕ, suc, map, sym, ap, subst}
use Rattle.ob_base.specs.declared.params.Params.{Params}
use Rattle.ob_base.specs.Writes.{pair_of}
use Rattle.ob_serial.specs.Views.{record_of}
use Rattle.ob_serial.specs.Vaults.{VaultCounts}
use Rattle.ob_serial.specs.VaultKinds.{kind_of}
use Rattle.ob_turn.specs.BellCalls.{Raises}
use Rattle.ob_conduct.specs.declared.run_err.RunErr.{RunErr}
use Rattle.ob_conduct.specs.Scenes.{scene}
use Rattle.ob_driver.specs.Inside.{counts_ended, EndRefused}
use Rattle.ob_driver.proofs.Shutting.{ends_so, gives_up}
use Rattle.ob_driver.proofs.ending.tell.Goals as goal

pub end-requires-clause-serves : goal.end-requires-clause-serves
end-requires-clause-serves g c κs within = c.requires.vault.0

pub end-requires-clause-none_left : goal.end-requires-clause-none_left
end-requires-clause-none_left g c κs within = c.requires.vault.1

pub end-requires-clause-watched : goal.end-requires-clause-watched
end-requires-clause-watched g c κs within = c.requires.vault.2

pub end-requires-clause-few : goal.end-requires-clause-few
end-requires-clause-few g c κs within = rw c.requires.params.0 c.requires.writes.0

pub end-requires-clause-rising : goal.end-requires-clause-rising
end-requires-clause-rising g c κs within = c.requires.writes.1

pub end-requires-clause-keys : goal.end-requires-clause-keys
end-requires-clause-keys g c κs within = rw c.requires.params.0 c.requires.writes.2

pub publish-requires-clause-params : goal.publish-requires-clause-params
publish-requires-clause-params g c = c.requires.params.1

pub publish-requires-clause-ending : goal.publish-requires-clause-ending
publish-requires-clause-ending g c = (
  g.V.Vault.counts c.args.vault.now,
  map pair_of c.args.writes.now.items,
  c.requires.ending,
  c.epoch-ended.ensures.epoch ∙ ap (λ (x : VaultCounts). x.epoch) c.in-Ok.ensures.counts,
)

pub publish-requires-clause-few : goal.publish-requires-clause-few
publish-requires-clause-few g c = c.epoch-ended.ensures.few

pub give_up-requires : goal.give_up-requires
give_up-requires g c = record { ending = (g.V.Vault.counts c.args.vault.now, map pair_of c.args.writes.now.items, c.requires.ending) }

pub returns-in-Ok-clause-params : goal.returns-in-Ok-clause-params
returns-in-Ok-clause-params g c = c.in-Ok.ensures.params ∙ c.requires.params.0

pub returns-in-Ok-clause-ended : goal.returns-in-Ok-clause-ended
returns-in-Ok-clause-ended g c = λ d.
    ends_so (kind_of g.V.Vault) c.args.pass.now c.publish.new.pass d c.args.vault.now c.end.new.vault (g.W.Watch.trace c.args.watch.now) (g.W.Watch.trace c.end.new.watch) (g.V.Vault.counts c.args.vault.now) (map pair_of c.args.writes.now.items) c.epoch-ended.result
    c.args.params.now.batches (record_of c.publish.result) c.in-Ok.ensures.called (c.epoch-ended.ensures.epoch ∙ ap (λ (x : VaultCounts). x.epoch) c.in-Ok.ensures.counts)
    (c.publish.ensures.due (g.V.Vault.counts c.args.vault.now) (map pair_of c.args.writes.now.items) c.requires.ending) c.publish.ensures.made

pub returns-in-Ok-clause-counts : goal.returns-in-Ok-clause-counts
returns-in-Ok-clause-counts g c = c.in-Ok.ensures.counts ∙ ap (λ (p : Params). counts_ended p.batches (g.V.Vault.counts c.args.vault.now)) c.requires.params.0

pub returns-in-Ok-clause-raised : goal.returns-in-Ok-clause-raised
returns-in-Ok-clause-raised g c = subst (λ (n : ℕ). Raises c.args.pass.now.ear c.publish.new.pass.ear n) (c.epoch-ended.ensures.epoch ∙ ap (λ (x : VaultCounts). x.epoch) c.in-Ok.ensures.counts) c.publish.ensures.raised

pub returns-in-Ok-clause-ear : goal.returns-in-Ok-clause-ear
returns-in-Ok-clause-ear g c = tt

pub returns-in-Ok-clause-refused : goal.returns-in-Ok-clause-refused
returns-in-Ok-clause-refused g c = λ d. tt

pub returns-in-Ok-clause-stand : goal.returns-in-Ok-clause-stand
returns-in-Ok-clause-stand g c = c.publish.ensures.stand

pub returns-in-Ok-clause-own : goal.returns-in-Ok-clause-own
returns-in-Ok-clause-own g c = c.publish.ensures.own

pub returns-in-Ok-clause-idle : goal.returns-in-Ok-clause-idle
returns-in-Ok-clause-idle g c = c.publish.ensures.idle

pub returns-in-Err-clause-params : goal.returns-in-Err-clause-params
returns-in-Err-clause-params g c = c.in-Err.ensures.params ∙ c.requires.params.0

pub returns-in-Err-clause-ended : goal.returns-in-Err-clause-ended
returns-in-Err-clause-ended g c = λ d. tt

pub returns-in-Err-clause-counts : goal.returns-in-Err-clause-counts
returns-in-Err-clause-counts g c = tt

pub returns-in-Err-clause-raised : goal.returns-in-Err-clause-raised
returns-in-Err-clause-raised g c = tt

pub returns-in-Err-clause-ear : goal.returns-in-Err-clause-ear
returns-in-Err-clause-ear g c = c.give_up.ensures.ear

pub returns-in-Err-clause-refused : goal.returns-in-Err-clause-refused
returns-in-Err-clause-refused g c = λ d.
    subst (λ (e : RunErr). EndRefused (kind_of g.V.Vault) (suc (g.V.Vault.counts c.args.vault.now).epoch) (map pair_of c.args.writes.now.items) c.args.pass.now (scene d c.args.vault.now (g.W.Watch.trace c.args.watch.now)) e c.give_up.new.pass (scene d c.end.new.vault (g.W.Watch.trace c.end.new.watch)))
    (sym c.give_up.ensures.fault)
    (gives_up (kind_of g.V.Vault) c.args.pass.now c.give_up.new.pass d c.args.vault.now c.end.new.vault (g.W.Watch.trace c.args.watch.now) (g.W.Watch.trace c.end.new.watch) (g.V.Vault.counts c.args.vault.now) (map pair_of c.args.writes.now.items) c.in-Err.refused
    c.in-Err.ensures.called c.in-Err.ensures.faults c.in-Err.ensures.cause c.give_up.ensures.made)

pub returns-in-Err-clause-stand : goal.returns-in-Err-clause-stand
returns-in-Err-clause-stand g c = c.give_up.ensures.stand

pub returns-in-Err-clause-own : goal.returns-in-Err-clause-own
returns-in-Err-clause-own g c = c.give_up.ensures.own

pub returns-in-Err-clause-idle : goal.returns-in-Err-clause-idle
returns-in-Err-clause-idle g c = c.give_up.ensures.idle
