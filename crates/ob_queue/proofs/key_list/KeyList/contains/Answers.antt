use Rattle.std.proofs.Common.{◌≡◌, ℕ, ◌==◌, List, ◌∙◌, subst}
use Rattle.std.specs.List.{list_any}
use Rattle.ob_queue.proofs.Once.{once_has}
use Rattle.ob_queue.proofs.key_list.KeyList.contains.Goals as goal

pub returns : goal.returns
returns c =
    let a = c.self.inside in
    subst (λ (ks : List ℕ). c.contains.result ≡ list_any (λ j. j == c.args.key) ks) c.self.view_is
    (c.contains.ensures ∙ once_has a.known.keys a.keys.items c.args.key c.self.invariant)
