use Rattle.std.proofs.Common.{◌≡◌, ◌∙◌, ℕ, List, [], Option, Some, None, refl, ap, option_map}
use Rattle.std.specs.Prelude.{unwrap_or}
use Rattle.std.specs.Borrow.{Bor}
use Rattle.clap.specs.Words.{Text, found_of}
use Rattle.clap.proofs.WalkLemmas.{first_value-rows}
use Rattle.ob_words.proofs.request.text_of.Goals as goal

behind : (o : Option (Bor (List ℕ))) (d : Bor (List ℕ)) → (unwrap_or o d).now ≡ unwrap_or (option_map (λ s. s.now) o) d.now
behind None d = refl
behind (Some s) d = refl

pub returns : goal.returns
returns c =
    ap (λ (b : Bor (List ℕ)). b.now) c.unwrap_or.ensures ∙ behind c.get_str.result _
    ∙ ap (λ (o : Option Text). unwrap_or o []) (c.get_str.ensures ∙ first_value-rows (found_of c.args.found.now) c.args.id.now)
