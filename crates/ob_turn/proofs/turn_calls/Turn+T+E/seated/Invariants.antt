use Rattle.std.proofs.Common.{◌≡◌, ◌+◌, ◌≤◌, length, vec_len}
use Rattle.std.specs.Prelude.{vec_capacity}
use Rattle.ob_turn.proofs.Opening.{IsMaking}
use Rattle.ob_turn.proofs.turn_calls.Turn+T+E.seated.Given as goal

abbrev pub invariant-loop : goal.invariant-loop
invariant-loop g l = IsMaking l.initial.last.table_id l.fn.value l.seats l.places.items l.last × (length l.places.items + 1 ≡ l.counter) × (vec_len l.places + 1 ≡ l.counter) × (l.seats ≤ vec_capacity l.places)
