use Rattle.std.proofs.Common.{◌∙◌, ◌∷◌, suc, length, sym, ap, subst, arith}
use Rattle.std.proofs.lemmas.List.{length-map}
use Rattle.ob_serial.specs.VaultKinds.{kind_of}
use Rattle.ob_desk.specs.Desk.{MayOpen, new_desk, setup_with}
use Rattle.ob_hall.specs.Opening.{ArePasses}
use Rattle.ob_conduct.specs.Acts.{calls}
use Rattle.ob_conduct.proofs.Conducting.{own_shares, own_opens}
use Rattle.ob_conduct.proofs.Moving.{goes_all}
use Rattle.ob_run.proofs.Shapes.{idle}
use Rattle.ob_run.proofs.in_threads.run_in_threads.Goals as goal

pub open_hall-requires : goal.open_hall-requires
open_hall-requires g c = record {
  opens = (
    setup_with c.args.params.now c.args.desk.setup.shares,
    suc (g.V.Vault.counts c.args.vault.now).epoch,
    (g.V.Vault.counts c.args.vault.now).left,
    subst (MayOpen (setup_with c.args.params.now c.args.desk.setup.shares) (suc (g.V.Vault.counts c.args.vault.now).epoch) (g.V.Vault.counts c.args.vault.now).left) (sym c.requires.clients) c.requires.opens,
    c.requires.fresh ∙ ap (new_desk (setup_with c.args.params.now c.args.desk.setup.shares) (suc (g.V.Vault.counts c.args.vault.now).epoch) (g.V.Vault.counts c.args.vault.now).left) (sym c.requires.clients),
  );
}

pub returns-in_default-clause-done : goal.returns-in_default-clause-done
returns-in_default-clause-done g c = (c.args.desk, idle _ _ c.args.params.now _ _ _ _ _ _ c.requires.fresh c.args.starts c.requires.none_made)

pub serve_hall-requires-clause-fresh : goal.serve_hall-requires-clause-fresh
serve_hall-requires-clause-fresh g c κs within = own_shares c.args.params.now c.args.desk.setup.shares _ _ _ _ (c.in-Ok.ensures.desk ∙ c.requires.fresh)

pub serve_hall-requires-clause-opens : goal.serve_hall-requires-clause-opens
serve_hall-requires-clause-opens g c κs within = own_opens c.args.params.now c.args.desk.setup.shares _ _ _ _ (c.in-Ok.ensures.desk ∙ c.requires.fresh) c.requires.opens

pub serve_hall-requires-clause-passes : goal.serve_hall-requires-clause-passes
serve_hall-requires-clause-passes g c κs within = subst (λ l. ArePasses c.in-Ok.opened.hall l (c.in-Ok.opened.driver ∷ c.in-Ok.opened.passes.items)) c.requires.clients c.in-Ok.ensures.passes

pub serve_hall-requires-clause-room : goal.serve_hall-requires-clause-room
serve_hall-requires-clause-room g c κs within =
    let same = ap length c.requires.clients ∙ length-map c.args.runners.now.items g.U.Runner.client in
    let room = c.in-Ok.ensures.room in
    let clients = room.0 in
    let passes = room.1 in
    (omega (arith, same, clients), omega (arith, same, passes))

pub returns-clause-anchors : goal.returns-clause-anchors
returns-clause-anchors g c =
    let done = c.serve_hall.ensures.done in
    let d = done.1.1 in
    (goes_all (kind_of g.V.Vault) c.args.vault.now _ (calls done.1.0) d.notes c.serve_hall.new.vault _ d.chain).anchors

pub returns-clause-done : goal.returns-clause-done
returns-clause-done g c = rw c.in-Ok.ensures.desk at c.serve_hall.ensures.done
