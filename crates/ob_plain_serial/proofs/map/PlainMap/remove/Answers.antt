use Rattle.std.proofs.Common.{ap, ◌∙◌}
use Rattle.std.specs.FinMap as map
use Rattle.ob_plain_serial.proofs.Entries.{one_gone}
use Rattle.ob_plain_serial.proofs.map.PlainMap.remove.Goals as goal

pub returns : goal.returns
returns c = one_gone c.self.inside.values.entries c.remove-value.new.self.entries c.args.key c.remove-value.ensures.updates.0 ∙ ap (λ m. map.remove m c.args.key) c.self.view_is
