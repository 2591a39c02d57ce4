-- What the transactions of an epoch make of a map.
use Rattle.std.specs.Prelude.{ℕ, zero, suc, ◌≡◌, true, if◌then◌else◌, List, slice_get}
use Rattle.std.specs.Option.{option_map, unwrap_or}
use Rattle.std.specs.declared.option.Option.TheVariants.{Some}
use Rattle.std.specs.Ordering.{nat_cmp}
use Rattle.ob_order.specs.Works.{Work, is_going}
use Rattle.ob_serial.specs.Serial.{Map, after_ops, Replays}

-- m with the writes of the first n transactions that aren't aborted, in ticket order
abbrev pub map_after : Map nat_cmp → List Work → ℕ → Map nat_cmp
map_after m ws zero = m
map_after m ws (suc n) = unwrap_or (option_map (λ w. if is_going w.fate then after_ops nat_cmp (map_after m ws n) w.ops else map_after m ws n) (slice_get ws n)) (map_after m ws n)

-- each transaction that isn't aborted replays on m with the writes of the earlier ones that aren't aborted, in ticket order
pub record EachReplays (m : Map nat_cmp) (ws : List Work) : Type 0 where
  pub at_each : (n : ℕ) (w : Work) → slice_get ws n ≡ Some w → is_going w.fate ≡ true → Replays nat_cmp (map_after m ws n) w.ops
