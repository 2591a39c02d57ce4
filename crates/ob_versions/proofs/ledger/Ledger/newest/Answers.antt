use Rattle.std.proofs.Common.{sym, ap, ◌∙◌}
use Rattle.ob_versions.proofs.Kept.{newest_in}
use Rattle.std.specs.Option.{option_map}
use Rattle.ob_versions.proofs.Indexed.{version_from}
use Rattle.ob_versions.proofs.ledger.Ledger.newest.Goals as goal

pub returns-in-Some : goal.returns-in-Some
returns-in-Some c =
    let a = c.self.inside in
    ap (option_map version_from) (sym c.in-Some.is) ∙ newest_in a.keys a.written a.works.items a.table c.args.self.now c.self.invariant.0 c.self.view_is c.args.key c.args.t c.newest.result c.newest.ensures

pub returns-in-None : goal.returns-in-None
returns-in-None c =
    let a = c.self.inside in
    ap (option_map version_from) (sym c.in-None.is) ∙ newest_in a.keys a.written a.works.items a.table c.args.self.now c.self.invariant.0 c.self.view_is c.args.key c.args.t c.newest.result c.newest.ensures
