use Rattle.std.proofs.Common.{◌∙◌, sym, ap, length}
use Rattle.std.specs.FinMap.{len, len-entries}
use Rattle.ob_plain_serial.proofs.Laid.{entries_of}
use Rattle.ob_plain_serial.proofs.map.PlainMap.len.Goals as goal

pub returns : goal.returns
returns c = c.len.ensures.len ∙ ap length (sym (entries_of c.self.inside.values.entries c.len.ensures.ordered)) ∙ sym (len-entries _) ∙ ap len c.self.view_is
