use Rattle.std.proofs.Common.{◌≡◌, ◌∙◌, decimal}
use Rattle.ob_report.proofs.piece.put_piece.Goals as goal

pub returns-in-Text : goal.returns-in-Text
returns-in-Text g c = rw c.in-Text.is c.put_bytes.ensures

pub returns-in-Number : goal.returns-in-Number
returns-in-Number g c =
    let text : c.as_bytes.result.now ≡ decimal c.in-Number.n = c.as_bytes.ensures.value ∙ c.format.ensures.text in
    rw (c.in-Number.is, ← text) c.put_bytes-in-Number.ensures
