-- What the desk's two epochs are seen as, and the room that is kept for them.
use Rattle.std.specs.Prelude.{ℕ, ◌≡◌, ◌≤◌, ◌+◌, ◌^◌, Bool, false, if◌then◌else◌, List, [], filter, length, slice_get, vec_capacity}
use Rattle.std.specs.Option.{option_map, unwrap_or}
use Rattle.std.specs.List.{cons_option, range_with_len}
use Rattle.std.specs.declared.option.Option.{Option}
use Rattle.std.specs.declared.option.Option.TheVariants.{None, Some}
use Rattle.ob_serial.specs.Serial.{TxnRecord}
use Rattle.ob_order.specs.Works.{Work, goes_on}
use Rattle.ob_shares.specs.declared.shares.Shares.{Shares}
use Rattle.ob_shares.specs.Seen.{uses_of}
use Rattle.ob_desk.specs.declared.part.Part.{Part as CodePart}
use Rattle.ob_desk.specs.Desk.{Part, DeskState, Holder, Client, Fault, Committed, AbortedBy, why_of, setup_with}

abbrev pub part_of : CodePart → Part
part_of p = record { epoch = p.epoch; order = p.order.state; holders = p.holders.items; uses = uses_of p.uses }

-- there is room for the record of each transaction
pub record HasRecordRoom (p : CodePart) : Type 0 where
  pub none_yet : p.told.items ≡ []
  pub fits : length p.holders.items ≤ vec_capacity p.told

-- each ticket that goes on is on the list, once and in order, beside some that don't
pub record HasGoing (ws : List Work) (tickets : List ℕ) : Type 0 where
  pub listed : filter (goes_on ws) tickets ≡ filter (goes_on ws) (range_with_len 1 (length ws))

-- the list of a part
abbrev pub ListsGoing : CodePart → Type 0
ListsGoing p = HasGoing p.order.state.works p.going.items

-- the same parameters and the same room, for as many transactions, and the list still has those that go on
pub record KeepsRoom (old new : CodePart) : Type 0 where
  pub params : new.order.params ≡ old.order.params
  pub told : new.told ≡ old.told
  pub holders : length new.holders.items ≡ length old.holders.items
  pub going : ListsGoing old → ListsGoing new

-- two epochs with the same parameters and room for both, the list of those that go on, and an epoch that may still be closed has a number to count on from
pub record ArePartsKept (running other : CodePart) (is_closed : Bool) (stop : Option Fault) : Type 0 where
  pub alike : other.order.params ≡ running.order.params
  pub running_room : HasRecordRoom running
  pub other_room : HasRecordRoom other
  pub going : ListsGoing running
  pub low : is_closed ≡ false → stop ≡ None → running.epoch ≤ 2 ^ 62

-- what is seen of a desk
abbrev pub desk_of : Shares → List Client → Option Fault → CodePart → Bool → CodePart → DeskState
desk_of shares clients stop running is_closed other = record {
  setup = setup_with running.order.params shares;
  clients = clients;
  stop = stop;
  running = part_of running;
  closed = if is_closed then Some (part_of other) else None;
}

-- the record of a transaction whose ticket is n + 1, where it has a holder
abbrev pub told_at : ℕ → ℕ → Work → List Holder → List (TxnRecord ℕ)
told_at epoch n w hs = cons_option (option_map (λ h. let t : TxnRecord ℕ = record { epoch = epoch; ticket = n + 1; client = h.client; ops = w.ops; outcome = unwrap_or (option_map AbortedBy (why_of w.fate h.cause)) Committed } in t) (slice_get hs n)) []
