use Rattle.std.proofs.Common.{ap, sym, ◌∙◌}
use Rattle.std.specs.FinMap as map
use Rattle.ob_plain_serial.proofs.Entries.{get_value}
use Rattle.ob_plain_serial.proofs.map.PlainMap.get.Goals as goal

pub returns : goal.returns
returns c = c.copied.ensures ∙ c.get.ensures.value ∙ sym (get_value c.self.inside.values.entries c.args.key) ∙ ap (λ m. map.get m c.args.key) c.self.view_is
