use Rattle.std.specs.Prelude.{◌≤◌, ℕ, List}
use Rattle.std.proofs.Common.{Option, nat_cmp}
use Rattle.std.specs.FinMap as finite
use Rattle.std.specs.Coded.{Coded, coded_ℕ, coded_list, coded_option}
use Rattle.ob_order.specs.Works.{Work, Tidy}
use Rattle.ob_order.specs.Order.{Params, OrderState, count_below, is_written}

-- what callers see of an Order
pub record OrderModel : Type 0 where
  pub params : Params
  pub state : OrderState

abbrev pub bases_code : Coded (finite.FinMap nat_cmp (Option (List ℕ)))
bases_code = finite.code coded_ℕ (coded_option (coded_list coded_ℕ))

-- no transaction that goes on has read from one that is gone, and the write batch has a place for each key with a version
pub record IsKept (p : Params) (ws : List Work) : Type 0 where
  pub tidy : Tidy ws
  pub few : count_below (is_written ws) p.keys ≤ p.writes
