use Rattle.std.proofs.Common.{◌≡◌, Option, Some, None, sym, ap, ◌∙◌, List, ℕ}
use Rattle.std.specs.Prelude.{IfSome}
use Rattle.std.specs.Fmt.{decimal}
use Rattle.ob_audit.specs.Reading.{wide_number}
use Rattle.ob_audit.proofs.Numerals.{number_found, number_only}
use Rattle.ob_audit.proofs.numbers.number_of.Goals as goal

spelled : (bytes : List ℕ) (found : Option ℕ) → found ≡ wide_number bytes → IfSome found (λ n. bytes ≡ decimal n)
spelled bytes None is = tt
spelled bytes (Some n) is = (number_found bytes n (sym is)).0

pub returns-clause-found : goal.returns-clause-found
returns-clause-found c = spelled c.args.bytes.now c.wide_number.result c.wide_number.ensures

pub returns-clause-only : goal.returns-clause-only
returns-clause-only c = λ n small is. c.wide_number.ensures ∙ ap wide_number is ∙ number_only n small
