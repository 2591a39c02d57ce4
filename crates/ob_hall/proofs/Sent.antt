-- A desk may go to another thread, and so may a seat at a turn of desks.
use denote.Param.Send.{IsSend, IsSync, sendable}
use denote.RattleType.{RattleType}
use Rattle.std.proofs.Crossing.{crosses}
use Rattle.ob_desk.specs.contracts.desk.Desk as Desk
use Rattle.ob_desk.proofs.desk.Desk.TheSendSync as desk_law
use Rattle.atomic_table.specs.contracts.shared.Seat as Seat
use Rattle.atomic_table.proofs.shared.Seat.TheSendSync as seat_law
use Rattle.ob_turn.specs.contracts.turn.Slot as Slot
use Rattle.ob_turn.specs.contracts.turn.View as View
use Rattle.ob_turn.specs.contracts.turn.Board as Board
use Rattle.ob_turn.proofs.turn.Board.TheSendSync as board_law
use Rattle.ob_turn.specs.contracts.turn.Opened as Opened
use Rattle.atomic_table.specs.declared.shared.TableRule as rule
use Rattle.ob_hall.specs.contracts.turned.Turned as Turned
use Rattle.std.specs.contracts.snapshot.Snapshot as Snapshot
use Rattle.ob_hall.specs.contracts.hall.Beside as Beside
use Rattle.ob_hall.proofs.hall.Beside.TheSendSync as beside_law

pub desk_sent : IsSend Desk.the_row
desk_sent = desk_law.the_send

pub slot_sent : (T E : RattleType) → IsSend T → IsSend (Slot.the_row T E)
slot_sent T E s = search sendable depth 40

pub turn_seat_sent : (T E V : RattleType) → IsSend T → IsSend (Seat.the_row (Slot.the_row T E) V)
turn_seat_sent T E V s = seat_law.the_send _ _ (slot_sent T E s)

-- a client's right to take turns
pub pass_sent : IsSend (Seat.the_row (Slot.the_row Desk.the_row Turned.the_row) (View.the_row Desk.the_row Turned.the_row))
pass_sent = turn_seat_sent Desk.the_row Turned.the_row (View.the_row Desk.the_row Turned.the_row) desk_sent

module _ (S V K P : RattleType) (g : rule.Ghosts P.Denot S.Denot V.Denot K.Denot) where
  pub board_shared : IsSend S → IsSync (Board.the_row S V K P g)
  board_shared = board_law.the_sync S V K P g
  -- the turn of desks

pub hall_shared : (P : RattleType) (g : rule.Ghosts P.Denot (Slot.the_row Desk.the_row Turned.the_row).Denot (View.the_row Desk.the_row Turned.the_row).Denot (Opened.the_row Desk.the_row).Denot)
    → IsSync (Board.the_row (Slot.the_row Desk.the_row Turned.the_row) (View.the_row Desk.the_row Turned.the_row) (Opened.the_row Desk.the_row) P g)
hall_shared P g = board_shared (Slot.the_row Desk.the_row Turned.the_row) (View.the_row Desk.the_row Turned.the_row) (Opened.the_row Desk.the_row) P g (slot_sent Desk.the_row Turned.the_row desk_sent)

-- a hall's parts
pub both_shared : (A B C : RattleType) → IsSync A → IsSync B → IsSync C → IsSync (Beside.the_row A B C)
both_shared A B C a b c = beside_law.the_sync A B C a b c

pub kept_shared : (T : RattleType) → IsSync (Snapshot.the_row T)
kept_shared T = search (sendable, crosses) depth 40
