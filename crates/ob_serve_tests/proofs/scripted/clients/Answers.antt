use Rattle.std.proofs.Common.{◌∙◌, ◌++◌, [], ◌∷◌, ap}
use Rattle.ob_serve_tests.proofs.Pairing.{two_are}
use Rattle.ob_serve_tests.proofs.scripted.clients.Goals as goal

pub returns : goal.returns
returns g c =
    two_are _ _ _ c.push_reserved-2.new.self.items c.client-first.result c.client-second.result
    (c.push_reserved-2.ensures.items ∙ ap (λ l. l ++ c.client-second.result ∷ []) (c.push_reserved.ensures.items ∙ ap (λ l. l ++ c.client-first.result ∷ []) c.in-Ok.ensures.items))
    c.client-first.ensures c.client-second.ensures
