use Rattle.std.proofs.Common.{◌∙◌, sym, suc, arith}
use Rattle.ob_shares.specs.Shares.{no_shares}
use Rattle.ob_shares.proofs.Fitting.{none_fit}
use Rattle.ob_conduct.proofs.Conducting.{own_shares, own_opens}
use Rattle.ob_run.proofs.Scripts.{may_open, opens_all, below_all, none_made, scripts_are_quiet}
use Rattle.ob_run_tests.proofs.Opening.{new_same}
use Rattle.ob_run_tests.proofs.runs.run_over.Goals as goal

pub run_in_threads-requires-clause-params : goal.run_in_threads-requires-clause-params
run_in_threads-requires-clause-params g c κs within = c.requires.params

pub run_in_threads-requires-clause-whole : goal.run_in_threads-requires-clause-whole
run_in_threads-requires-clause-whole g c κs within = c.requires.whole

pub run_in_threads-requires-clause-serves : goal.run_in_threads-requires-clause-serves
run_in_threads-requires-clause-serves g c κs within = c.requires.serves

pub run_in_threads-requires-clause-clients : goal.run_in_threads-requires-clause-clients
run_in_threads-requires-clause-clients g c κs within = c.clients-clients.ensures.clients ∙ sym c.in-Ok.ensures.clients_are

pub run_in_threads-requires-clause-fresh : goal.run_in_threads-requires-clause-fresh
run_in_threads-requires-clause-fresh g c κs within = own_shares c.args.params.now no_shares _ _ _ _
    (c.in-Ok-new.ensures ∙ new_same c.args.params.now _ _ _ _ _ _ (let e = c.epoch.ensures.epoch in omega (arith, e)) c.left.ensures (c.clients-clients.ensures.clients ∙ sym c.in-Ok.ensures.clients_are))

pub run_in_threads-requires-clause-opens : goal.run_in_threads-requires-clause-opens
run_in_threads-requires-clause-opens g c κs within = own_opens c.args.params.now no_shares _ _ _ _
    (c.in-Ok-new.ensures ∙ new_same c.args.params.now _ _ _ _ _ _ (let e = c.epoch.ensures.epoch in omega (arith, e)) c.left.ensures (c.clients-clients.ensures.clients ∙ sym c.in-Ok.ensures.clients_are))
    (opens_all c.args.scripts.now c.in-Ok.runners.items c.in-Ok.ensures c.args.params.now no_shares (suc (g.V.Vault.counts c.args.vault.now).epoch) (g.V.Vault.counts c.args.vault.now).left
    (may_open c.args.params.now no_shares (suc (g.V.Vault.counts c.args.vault.now).epoch) (g.V.Vault.counts c.args.vault.now).left c.args.scripts.now (let e = c.epoch.ensures.epoch in let few = c.epoch.ensures.few in omega (arith, e, few)) c.requires.few c.requires.sound (none_fit _ _ _)))

pub run_in_threads-requires-clause-below : goal.run_in_threads-requires-clause-below
run_in_threads-requires-clause-below g c κs within = below_all c.args.scripts.now c.in-Ok.runners.items c.in-Ok.ensures c.args.params.now.keys c.requires.keys

pub run_in_threads-requires-clause-none_made : goal.run_in_threads-requires-clause-none_made
run_in_threads-requires-clause-none_made g c κs within = none_made c.args.scripts.now c.in-Ok.runners.items c.in-Ok.ensures

pub run_in_threads-requires-clause-quiet : goal.run_in_threads-requires-clause-quiet
run_in_threads-requires-clause-quiet g c κs within = scripts_are_quiet

pub run-requires-clause-params : goal.run-requires-clause-params
run-requires-clause-params g c κs within = c.requires.params

pub run-requires-clause-whole : goal.run-requires-clause-whole
run-requires-clause-whole g c κs within = c.requires.whole

pub run-requires-clause-serves : goal.run-requires-clause-serves
run-requires-clause-serves g c κs within = c.requires.serves

pub run-requires-clause-clients : goal.run-requires-clause-clients
run-requires-clause-clients g c κs within = c.clients-clients.ensures.clients ∙ sym c.in-Ok.ensures.clients_are

pub run-requires-clause-fresh : goal.run-requires-clause-fresh
run-requires-clause-fresh g c κs within = own_shares c.args.params.now no_shares _ _ _ _
    (c.in-Ok-new.ensures ∙ new_same c.args.params.now _ _ _ _ _ _ (let e = c.epoch.ensures.epoch in omega (arith, e)) c.left.ensures (c.clients-clients.ensures.clients ∙ sym c.in-Ok.ensures.clients_are))

pub run-requires-clause-opens : goal.run-requires-clause-opens
run-requires-clause-opens g c κs within = own_opens c.args.params.now no_shares _ _ _ _
    (c.in-Ok-new.ensures ∙ new_same c.args.params.now _ _ _ _ _ _ (let e = c.epoch.ensures.epoch in omega (arith, e)) c.left.ensures (c.clients-clients.ensures.clients ∙ sym c.in-Ok.ensures.clients_are))
    (opens_all c.args.scripts.now c.in-Ok.runners.items c.in-Ok.ensures c.args.params.now no_shares (suc (g.V.Vault.counts c.args.vault.now).epoch) (g.V.Vault.counts c.args.vault.now).left
    (may_open c.args.params.now no_shares (suc (g.V.Vault.counts c.args.vault.now).epoch) (g.V.Vault.counts c.args.vault.now).left c.args.scripts.now (let e = c.epoch.ensures.epoch in let few = c.epoch.ensures.few in omega (arith, e, few)) c.requires.few c.requires.sound (none_fit _ _ _)))

pub run-requires-clause-below : goal.run-requires-clause-below
run-requires-clause-below g c κs within = below_all c.args.scripts.now c.in-Ok.runners.items c.in-Ok.ensures c.args.params.now.keys c.requires.keys

pub run-requires-clause-none_made : goal.run-requires-clause-none_made
run-requires-clause-none_made g c κs within = none_made c.args.scripts.now c.in-Ok.runners.items c.in-Ok.ensures

pub run-requires-clause-quiet : goal.run-requires-clause-quiet
run-requires-clause-quiet g c κs within = scripts_are_quiet
