use Rattle.std.proofs.Common.{◌∙◌, ℕ, List, suc, refl, sym, ap, subst}
use Rattle.ob_desk.specs.Desk.{MayOpen, new_desk, setup_of}
use Rattle.ob_shares.specs.Shares.{no_shares}
use Rattle.ob_conduct.proofs.Conducting.{own_shares, own_opens}
use Rattle.ob_conduct.proofs.Quitting.{two_open}
use Rattle.ob_shares.proofs.Fitting.{none_fit}
use Rattle.ob_serve_tests.proofs.Pairing.{below_all}
use Rattle.ob_serve_tests.proofs.runs.run_over.Goals as goal

pub run-requires-clause-serves : goal.run-requires-clause-serves
run-requires-clause-serves g c κs within = c.desk_at-desk.ensures.opens.serves

pub run-requires-clause-clients : goal.run-requires-clause-clients
run-requires-clause-clients g c κs within = sym c.requires.two.named

pub run-requires-clause-fresh : goal.run-requires-clause-fresh
run-requires-clause-fresh g c κs within = own_shares c.args.params.now no_shares _ _ _ _
    (c.desk_at-desk.ensures.desk
    ∙ ap (λ (xs : List ℕ). new_desk (setup_of c.args.params.now) (suc (g.V.Vault.counts c.args.vault.now).epoch) (g.V.Vault.counts c.args.vault.now).left xs) (sym c.requires.two.named))

pub run-requires-clause-opens : goal.run-requires-clause-opens
run-requires-clause-opens g c κs within = own_opens c.args.params.now no_shares _ _ _ _
    (c.desk_at-desk.ensures.desk
    ∙ ap (λ (xs : List ℕ). new_desk (setup_of c.args.params.now) (suc (g.V.Vault.counts c.args.vault.now).epoch) (g.V.Vault.counts c.args.vault.now).left xs) (sym c.requires.two.named))
    (subst (MayOpen (setup_of c.args.params.now) (suc (g.V.Vault.counts c.args.vault.now).epoch) (g.V.Vault.counts c.args.vault.now).left) (sym c.requires.two.named)
    (two_open _ _ _ 1 2 c.desk_at-desk.ensures.opens.few c.desk_at-desk.ensures.opens.low refl refl (none_fit 2 _ _)))

pub run-requires-clause-below : goal.run-requires-clause-below
run-requires-clause-below g c κs within =
    below_all g.U.Runner.client g.U.Runner.bound g.U.Runner.fits c.args.runners.now.items c.args.params.now.keys c.desk_at-desk.ensures.opens.keys c.requires.two

pub run-requires-clause-none_made : goal.run-requires-clause-none_made
run-requires-clause-none_made g c κs within = c.requires.two.unsaid
