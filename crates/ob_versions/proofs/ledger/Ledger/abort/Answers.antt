use Rattle.std.proofs.Common.{◌≡◌, List, true, sym, ap, ◌∙◌, subst}
use Rattle.ob_order.specs.Works.{Work, goes_on, Tidy, aborted}
use Rattle.ob_versions.specs.Ledgers.{LedgerModel}
use Rattle.ob_versions.proofs.ledger.Ledger.abort.Goals as goal

pub abort_in-requires-clause-live : goal.abort_in-requires-clause-live
abort_in-requires-clause-live c = subst (λ (d : LedgerModel). goes_on d.works c.args.t ≡ true) (sym c.self.view_is) c.requires.live

pub abort_in-requires-clause-tidy : goal.abort_in-requires-clause-tidy
abort_in-requires-clause-tidy c = subst (λ (d : LedgerModel). Tidy d.works) (sym c.self.view_is) c.requires.tidy

pub abort_in-requires-clause-kept : goal.abort_in-requires-clause-kept
abort_in-requires-clause-kept c = c.self.invariant.0

pub abort_in-requires-clause-ready : goal.abort_in-requires-clause-ready
abort_in-requires-clause-ready c = c.self.invariant.1

pub invariant_of-self : goal.invariant_of-self
invariant_of-self c = (c.abort_in.ensures.kept, c.abort_in.ensures.ready)

pub returns : goal.returns
returns c =
    ap (λ (ws : List Work). let q : LedgerModel = record { keys = c.self.inside.keys; works = ws } in q) c.abort_in.ensures.list
    ∙ ap (λ (d : LedgerModel). let q : LedgerModel = record d { works = aborted d.works c.args.t } in q) c.self.view_is
