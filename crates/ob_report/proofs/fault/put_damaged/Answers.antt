use Rattle.std.proofs.Common.{append_assoc}
use Rattle.std.proofs.lemmas.List.{append-nil}
use Rattle.ob_report.proofs.fault.put_damaged.Goals as goal

pub returns : goal.returns
returns g c = simp append_assoc (simp (append-nil, c.check_text.ensures) at c.put_pieces.ensures)
