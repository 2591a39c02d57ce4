use Rattle.std.proofs.Common.{◌≡◌, ℕ, ◌==◌, List, [], ◌∷◌, ◌++◌, false, sym, ap, ◌∙◌, subst}
use Rattle.std.specs.List.{list_any}
use Rattle.std.proofs.lemmas.Result.{IfOk-from_err}
use Rattle.ob_queue.specs.Queues.{AreOnce}
use Rattle.ob_queue.proofs.Once.{once_pushed}
use Rattle.ob_queue.proofs.key_list.KeyList.push.Goals as goal

pub invariant_of-self-2 : goal.invariant_of-self-2
invariant_of-self-2 c =
    let a = c.self.inside in
    let key = c.args.key in
    let new : list_any (λ j. j == key) a.keys.items ≡ false = subst (λ (ks : List ℕ). list_any (λ j. j == key) ks ≡ false) (sym c.self.view_is) c.requires in
    subst (λ (ks : List ℕ). AreOnce c.insert.new.self.keys ks) (sym (c.push_reserved.ensures.items ∙ ap (λ (ks : List ℕ). ks ++ key ∷ []) c.in_ok-reserve.ensures.items))
    (once_pushed a.known.keys c.insert.new.self.keys a.keys.items key c.self.invariant new c.in_ok-insert.ensures.updates.0)

pub returns-in_err-reserve-clause-ok : goal.returns-in_err-reserve-clause-ok
returns-in_err-reserve-clause-ok c = IfOk-from_err c.from_residual.result _ c.from_residual.ensures.0

pub returns-in_err-insert-clause-ok : goal.returns-in_err-insert-clause-ok
returns-in_err-insert-clause-ok c = IfOk-from_err c.from_residual-in_err-insert.result _ c.from_residual-in_err-insert.ensures.0
