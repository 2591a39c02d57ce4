use Rattle.std.proofs.Common.{◌≡◌, ℕ, List, [], ◌++◌, length}
use Rattle.std.specs.List.{filter, range_with_len}
use Rattle.ob_ring.specs.Order.{is_live, is_spare, HoldsFirst}
use Rattle.ob_ring.proofs.order.lift_order.Given as goal

pub record SoFar (out room : List ℕ) (n limit : ℕ) (xs : List ℕ) : Type 0 where
  pub long : length out ≡ length room
  pub held : HoldsFirst out n limit xs

abbrev pub invariant-loop-j : goal.invariant-loop-j
invariant-loop-j l = SoFar l.out l.fn.out l.n (length l.keys) ([] ++ filter (is_live l.keys) (range_with_len 0 l.j))

abbrev pub invariant-loop-i : goal.invariant-loop-i
invariant-loop-i l = SoFar l.out l.fn.out l.n (length l.keys) (filter (is_live l.keys) (range_with_len 0 (length l.used)) ++ filter (is_spare l.keys l.used) (range_with_len 0 l.i))
