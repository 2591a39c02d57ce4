use Rattle.std.proofs.Common.{◌≡◌, Option, Some, None, sym, ap, ◌∙◌, List, ℕ}
use Rattle.std.specs.Prelude.{IfSome}
use Rattle.std.specs.Fmt.{decimal}
use Rattle.ob_script.specs.Reading.{numeral_value}
use Rattle.ob_script.proofs.Numbers.{number_found, number_only}
use Rattle.ob_script.proofs.reading.number_of.Goals as goal

spelled : (bytes : List ℕ) (found : Option ℕ) → found ≡ numeral_value bytes → IfSome found (λ n. bytes ≡ decimal n)
spelled bytes None is = tt
spelled bytes (Some n) is = (number_found bytes n (sym is)).0

pub returns-clause-found : goal.returns-clause-found
returns-clause-found c = spelled c.args.bytes.now c.number_at.result c.number_at.ensures

pub returns-clause-only : goal.returns-clause-only
returns-clause-only c = λ n small is. c.number_at.ensures ∙ ap numeral_value is ∙ number_only n small
