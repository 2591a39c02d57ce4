use Rattle.std.proofs.Common.{ap, ◌∙◌}
use Rattle.std.specs.Option.{unwrap_or, option_map}
use Rattle.ob_versions.proofs.Kept.{covered_in}
use Rattle.ob_versions.proofs.ledger.Ledger.reader_above.Goals as goal

pub returns-then-t-mark : goal.returns-then-t-mark
returns-then-t-mark c =
    let a = c.self.inside in
    let stored = c.mark_of-mark.ensures ∙ ap (λ b. unwrap_or (option_map (λ p. p.1.mark) c.newest-newest.result) b) c.mark_of_base.ensures in
    let covered = covered_in a.keys a.written a.works.items a.table c.args.self.now c.self.invariant.0 c.self.view_is c.args.key c.args.t c.mark_of-mark.result c.newest-newest.result c.newest-newest.ensures stored in
    (c.if-t-mark.true, covered.above c.if-t-mark.true)

pub returns-else-t-mark : goal.returns-else-t-mark
returns-else-t-mark c =
    let a = c.self.inside in
    let stored = c.mark_of-mark.ensures ∙ ap (λ b. unwrap_or (option_map (λ p. p.1.mark) c.newest-newest.result) b) c.mark_of_base.ensures in
    let covered = covered_in a.keys a.written a.works.items a.table c.args.self.now c.self.invariant.0 c.self.view_is c.args.key c.args.t c.mark_of-mark.result c.newest-newest.result c.newest-newest.ensures stored in
    covered.below c.if-t-mark.false
