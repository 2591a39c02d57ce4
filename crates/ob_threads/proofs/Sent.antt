-- A client, which is a pass and a runner, may go to another thread, and a hall may be shared.
use denote.Param.Send.{IsSend, IsSync, sendable}
use denote.RattleType.{RattleType}
use denote.Param.SendFields.{declared_send, as_row_send}
use denote.Struct.Field.{row_field, unit-field}
use denote.Struct.Tuple.{TupleAt, type_at}
use denote.Builtin.{bool}
use Rattle.std.proofs.Crossing.{crosses}
use Rattle.std.specs.contracts.snapshot.Snapshot as Snapshot
use Rattle.std.specs.contracts.sync.atomic.AtomicBool as AtomicBool
use mir.Syntax.{Sym}
use mathlib.Core.List.{[], ◌∷◌}
use Rattle.atomic_table.specs.contracts.shared.Seat as Seat
use Rattle.atomic_table.proofs.shared.Seat.TheSendSync as seat_law
use Rattle.ob_desk.specs.contracts.desk.Desk as Desk
use Rattle.ob_turn.specs.contracts.turn.Slot as Slot
use Rattle.ob_turn.specs.contracts.turn.View as View
use Rattle.ob_turn.specs.contracts.turn.Board as Board
use Rattle.ob_turn.specs.contracts.turn.Opened as Opened
use Rattle.ob_turn.specs.contracts.turn.OneHistory as OneHistory
use Rattle.ob_turn.specs.contracts.turn.OneHistoryTableRuleSlotViewOpened.TheImpl as history_rule
use Rattle.ob_turn.specs.contracts.bell.Bell as Bell
use Rattle.ob_turn.specs.contracts.bell.Heard as Heard
use Rattle.ob_turn.proofs.bell.Bell.TheSendSync as bell_law
use Rattle.ob_hall.specs.contracts.turned.Turned as Turned
use Rattle.ob_hall.specs.contracts.turned.DeskSteppedTurned.TheImpl as desk_steps
use Rattle.ob_hall.specs.contracts.hall.Beside as Beside
use Rattle.ob_hall.specs.contracts.hall.Held as Held
use Rattle.ob_hall.proofs.hall.Held.TheSendSync as held_law
use Rattle.ob_hall.proofs.Sent.{pass_sent, hall_shared, both_shared, kept_shared}

-- what a thread is given, or gives back, is sent where its parts are
pub pair_sent : (name : Sym) (A B : RattleType) → IsSend A → IsSend B → IsSend (TupleAt name (A ∷ B ∷ []))
pair_sent name A B a b = declared_send (type_at name (A ∷ B ∷ [])) (as_row_send (row_field A) a, (as_row_send (row_field B) b, tt))

pub four_sent : (name : Sym) (A B C D : RattleType) → IsSend A → IsSend B → IsSend C → IsSend D → IsSend (TupleAt name (A ∷ B ∷ C ∷ D ∷ []))
four_sent name A B C D a b c d = declared_send (type_at name (A ∷ B ∷ C ∷ D ∷ [])) (as_row_send (row_field A) a, (as_row_send (row_field B) b, (as_row_send (row_field C) c, (as_row_send (row_field D) d, tt))))

-- ---- a pass, a client, and what comes back of one

abbrev slot_row : RattleType
slot_row = Slot.the_row Desk.the_row Turned.the_row

abbrev view_row : RattleType
view_row = View.the_row Desk.the_row Turned.the_row

abbrev opened_row : RattleType
opened_row = Opened.the_row Desk.the_row

abbrev seat_row : RattleType
seat_row = Seat.the_row slot_row view_row

abbrev ear_row : RattleType
ear_row = Seat.the_row unit-field.row Heard.the_row

ear_sent : IsSend ear_row
ear_sent = seat_law.the_send unit-field.row Heard.the_row (search sendable)

abbrev pub pass_row : RattleType
pass_row = Held.the_row seat_row ear_row

pub whole_pass_sent : IsSend pass_row
whole_pass_sent = held_law.the_send seat_row ear_row pass_sent ear_sent

-- a pass and a runner
abbrev pub client_row : RattleType → RattleType
client_row U = TupleAt (40 ∷ 44 ∷ 41 ∷ []) (pass_row ∷ U ∷ [])

pub client_sent : (U : RattleType) → IsSend U → IsSend (client_row U)
client_sent U u = pair_sent (40 ∷ 44 ∷ 41 ∷ []) pass_row U whole_pass_sent u

-- and whether they were served
abbrev pub back_row : RattleType → RattleType
back_row U = TupleAt (40 ∷ 44 ∷ 41 ∷ []) (client_row U ∷ bool ∷ [])

pub back_sent : (U : RattleType) → IsSend U → IsSend (back_row U)
back_sent U u = pair_sent (40 ∷ 44 ∷ 41 ∷ []) (client_row U) bool (client_sent U u) (search sendable)

-- ---- a hall, a flag

abbrev board_row : RattleType
board_row = Board.the_row slot_row view_row opened_row OneHistory.the_row (history_rule.ghosts Turned.the_row Desk.the_row desk_steps.ghosts history_rule.no_dict history_rule.no_dict)

abbrev kept_row : RattleType
kept_row = Snapshot.the_row Desk.the_row

abbrev pub hall_row : RattleType
hall_row = Beside.the_row board_row Bell.the_row kept_row

pub whole_hall_shared : IsSync hall_row
whole_hall_shared = both_shared board_row Bell.the_row kept_row (hall_shared OneHistory.the_row (history_rule.ghosts Turned.the_row Desk.the_row desk_steps.ghosts history_rule.no_dict history_rule.no_dict)) bell_law.the_sync (kept_shared Desk.the_row)

pub flag_shared : IsSync AtomicBool.the_row
flag_shared = search (sendable, crosses) depth 40
