use Rattle.std.proofs.Common.{◌≡◌, ℕ, ◌==◌, ◌&&◌, not, nat_eq, take}
use Rattle.std.specs.List.{list_any}
use Rattle.ob_queue.proofs.key_list.forget.Given as goal

-- none of the keys so far is known any more
abbrev pub invariant-loop-i : goal.invariant-loop-i
invariant-loop-i l = (k : ℕ) → list_any (nat_eq k) l.known.keys ≡ (not (list_any (λ j. j == k) (take l.i l.keys)) && list_any (nat_eq k) l.fn.known.keys)
