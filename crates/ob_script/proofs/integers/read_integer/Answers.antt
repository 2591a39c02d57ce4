use Rattle.std.proofs.Common.{◌∙◌}
use Rattle.std.proofs.lemmas.Fmt.{parse-signed_decimal}
use Rattle.std.specs.Int.{w64}
use Rattle.ob_script.proofs.Amounts.{none_found, spelled_utf8}
use Rattle.ob_script.proofs.integers.read_integer.Goals as goal

pub returns-in_default : goal.returns-in_default
returns-in_default c = none_found c.args.bytes.now (λ z is fits. absurd (c.in_default.ensures.cases.0 (spelled_utf8 c.args.bytes.now z is fits)))

pub returns-in_default-parse : goal.returns-in_default-parse
returns-in_default-parse c =
    let same = c.in-Ok.ensures.cases.0 in
    none_found c.args.bytes.now (λ z is fits. c.in_default-parse.not-Ok z (parse-signed_decimal w64 z c.in-Ok.text.now c.parse.result fits fits.sfits (same ∙ is) c.parse.ensures.value.0))
