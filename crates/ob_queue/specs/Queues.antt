-- How a queue keeps its keys and values, and what it shows of them.
use Rattle.std.specs.Prelude.{◌≡◌, ℕ, ◌+◌, ◌-◌, ◌*◌, ◌==◌, ◌≤◌, cond, nat_eq, List, [], length, take, drop, count_by}
use Rattle.std.specs.declared.option.Option.{Option}
use Rattle.std.specs.List.{list_any}
use Rattle.std.specs.Ordering.{nat_cmp}
use Rattle.std.specs.FinMap as finite
use Rattle.ob_order.specs.Order.{OrderState}

-- the state of an epoch without transactions, where the first of these keys are in flight and the others queued
abbrev pub state_of : ℕ → ℕ → List ℕ → finite.FinMap nat_cmp (Option (List ℕ)) → OrderState
state_of left flying keys bases = record { left = left; works = []; queue = drop flying keys; flying = take flying keys; bases = bases }

-- the key that was queued last is queued no more
abbrev pub without_last : OrderState → OrderState
without_last o = record o { queue = take (length o.queue - 1) o.queue }

-- each known key is once among these keys, and no other key is
abbrev pub AreOnce : List ℕ → List ℕ → Type 0
AreOnce known keys = (k : ℕ) → count_by (λ j. j == k) keys ≡ cond (list_any (nat_eq k) known) 1 0

-- there is room for all values of an epoch, and for those that may still come
pub record HasRoom (places batches left flying bases spare : ℕ) : Type 0 where
  pub all_fit : places * batches ≤ bases + spare
  pub rest_fits : flying + places * left ≤ spare
