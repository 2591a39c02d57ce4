-- What each call keeps of the works: who goes on has read from none that is gone, and the write batch has a place for each key.
use Rattle.std.proofs.Common.{◌≡◌, ℕ, List, [], ◌∷◌, ◌++◌, map, Option, Some, sym, ◌∙◌, arith}
use Rattle.ob_order.specs.Works.{Get, Work, Version, edit, wait_for, stop_work, with_op, aborted}
use Rattle.ob_order.specs.Order.{Params, OrderState, fresh, answer, other_keys, write_op}
use Rattle.ob_order.specs.OrderModel.{IsKept}
use Rattle.std.proofs.lemmas.Bool.{false≢true}
use Rattle.ob_order.proofs.Tidies.{tidy_none, tidy_begun, tidy_got, tidy_wrote, tidy_waits, tidy_aborted}
use Rattle.ob_order.proofs.Counts.{written_none, written_begun, written_got, written_waits, written_wrote, written_aborted, written_stopped, stopped_at}

pub kept_none : (p : Params) → IsKept p []
kept_none p = record { tidy = tidy_none; few = let none = written_none p.keys in omega (arith, none) }

pub kept_begun : (p : Params) (ws : List Work) → IsKept p ws → IsKept p (ws ++ fresh ∷ [])
kept_begun p ws h = record { tidy = tidy_begun ws h.tidy; few = let same = written_begun ws p.keys in let few = h.few in omega (arith, same, few) }

pub kept_got : (p : Params) (o : OrderState) (t k : ℕ) (v : Version) → IsKept p o.works → answer o t k ≡ Some v → IsKept p (with_op o.works t (Get k v.value v.source))
kept_got p o t k v h is = record { tidy = tidy_got o t k v h.tidy is; few = let same = written_got o.works t k v.value v.source p.keys in let few = h.few in omega (arith, same, few) }

pub kept_waits : (p : Params) (ws : List Work) (t k : ℕ) → IsKept p ws → IsKept p (edit (wait_for k) ws t)
kept_waits p ws t k h = record { tidy = tidy_waits ws t k h.tidy; few = let less = written_waits ws t k p.keys in let few = h.few in omega (arith, less, few) }

pub kept_wrote : (p : Params) (o : OrderState) (t k : ℕ) (v : Option (List ℕ)) → IsKept p o.works → (other_keys p o k ≡ p.writes → ⊥) → IsKept p (with_op o.works t (write_op k v))
kept_wrote p o t k v h room = record { tidy = tidy_wrote o.works t k v h.tidy; few = written_wrote p o t k v h.few room }

pub kept_aborted : (p : Params) (ws : List Work) (t : ℕ) → IsKept p ws → IsKept p (aborted ws t)
kept_aborted p ws t h = record { tidy = tidy_aborted ws t h.tidy; few = let less = written_aborted ws t p.keys in let few = h.few in omega (arith, less, few) }

pub kept_stopped : (p : Params) (ws : List Work) → IsKept p (map stop_work ws)
kept_stopped p ws = record {
  tidy = record {
    rises = record { at_each = λ u w there going. absurd (false≢true (sym (stopped_at ws u w there) ∙ going)) };
    at_each = λ u w there going. absurd (false≢true (sym (stopped_at ws u w there) ∙ going));
  };
  few = let none = written_stopped ws p.keys in omega (arith, none);
}
