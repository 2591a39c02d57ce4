use Rattle.std.proofs.Common.{refl, subst}
use Rattle.ob_seal.specs.KeyText.{IsDigits}
use Rattle.ob_seal.proofs.KeyLemmas.{is_key_text}
use Rattle.ob_seal.proofs.keys.Keys.from_hex.Goals as goal

pub returns-clause-found : goal.returns-clause-found
returns-clause-found c =
    let found = c.in_ok-bytes.ensures.found in
    let digits = subst IsDigits c.without_line_feed.ensures (found.0 refl) in
    (λ _. is_key_text c.args.text.now digits, λ _. refl)
