use Rattle.std.proofs.Common.{ℕ, ◌==◌, ◌&&◌, not, List, take, nat_eq, sym, ap, ◌∙◌, subst}
use Rattle.std.specs.List.{list_any}
use Rattle.ob_queue.specs.Queues.{AreOnce}
use Rattle.ob_queue.proofs.Once.{once_front}
use Rattle.ob_queue.proofs.key_list.KeyList.drop_front.Goals as goal

pub invariant_of-self : goal.invariant_of-self
invariant_of-self c =
    let a = c.self.inside in
    subst (λ (ks : List ℕ). AreOnce c.forget.new.known.keys ks) (sym (c.drop.ensures.items ∙ c.drain.ensures.kept))
    (once_front a.known.keys c.forget.new.known.keys a.keys.items c.args.many c.self.invariant
    (λ k. c.forget.ensures k ∙ ap (λ (ks : List ℕ). not (list_any (λ j. j == k) (take c.args.many ks)) && list_any (nat_eq k) a.known.keys) c.as_slice.ensures.value))
