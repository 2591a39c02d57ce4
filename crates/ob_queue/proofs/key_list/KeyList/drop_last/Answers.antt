use Rattle.std.proofs.Common.{◌≡◌, ℕ, ◌-◌, ◌==◌, ◌&&◌, not, List, length, take, drop, nat_eq, sym, ap, ◌∙◌, subst, arith}
use Rattle.std.specs.List.{list_any}
use Rattle.std.proofs.lemmas.List.{length-drop, take_all}
use Rattle.ob_queue.specs.Queues.{AreOnce}
use Rattle.ob_queue.proofs.Once.{once_back}
use Rattle.ob_queue.proofs.key_list.KeyList.drop_last.Goals as goal

pub invariant_of-self : goal.invariant_of-self
invariant_of-self c =
    let a = c.self.inside in
    let rest : ℕ = c.len-rest.result - 1 in
    let all : List ℕ = c.as_slice.result.now in
    let last : take (length all - rest) (drop rest all) ≡ drop rest a.keys.items = take_all (length all - rest) (drop rest all) (let e = length-drop rest all in omega (arith, e)) ∙ ap (λ (ks : List ℕ). drop rest ks) c.as_slice.ensures.value in
    subst (λ (ks : List ℕ). AreOnce c.forget.new.known.keys ks) (sym c.truncate.ensures.items)
    (once_back a.known.keys c.forget.new.known.keys a.keys.items rest c.self.invariant
    (λ k. c.forget.ensures k ∙ ap (λ (ks : List ℕ). not (list_any (λ j. j == k) ks) && list_any (nat_eq k) a.known.keys) last))
