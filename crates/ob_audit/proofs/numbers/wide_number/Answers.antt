use Rattle.std.proofs.Common.{Err, sym}
use Rattle.std.proofs.lemmas.Str.Parse.{parse_digits}
use Rattle.ob_audit.proofs.Numerals.{own, numeral_digits, numeral_utf8, numeral_some, too_big}
use Rattle.ob_audit.proofs.numbers.wide_number.Goals as goal

pub returns-in_default : goal.returns-in_default
returns-in_default c = absurd (c.in_default.ensures.cases.0 (numeral_utf8 c.args.bytes.now (sym c.if-not-is_canonical.ensures)))

pub returns-in-Err : goal.returns-in-Err
returns-in-Err c =
    let numeral = sym c.if-not-is_canonical.ensures in
    let same = c.in-Ok.ensures.cases.0 in
    let parsed = rw same at c.in-Err.ensures.value.0 in
    too_big c.args.bytes.now numeral (λ small. parse_digits own 64 c.args.bytes.now (Err c.in-Err.field-0) parsed (numeral_digits c.args.bytes.now numeral) (numeral_some c.args.bytes.now numeral, small))
