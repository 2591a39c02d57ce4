use Rattle.std.proofs.Common.{ap, ◌∙◌}
use Rattle.std.specs.FinMap as map
use Rattle.ob_plain_serial.proofs.Entries.{one_put}
use Rattle.ob_plain_serial.proofs.map.PlainMap.insert.Goals as goal

pub returns-clause-ok : goal.returns-clause-ok
returns-clause-ok c = one_put c.self.inside.values.entries c.insert.new.self.entries c.args.key c.args.value c.in_ok-insert.ensures.updates.0 ∙ ap (λ m. map.insert m c.args.key c.args.value) c.self.view_is
