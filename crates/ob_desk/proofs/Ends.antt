-- The steps that end an epoch, from what the two parts are.
use Rattle.std.proofs.Common.{◌≡◌, ℕ, zero, suc, ◌+◌, ◌≤◌, ◌^◌, Bool, true, false, not, ◌&&◌, if◌then◌else◌, List, length, Option, None, Some, option_map, unwrap_or, is_some, refl, sym, ap, ap₂, ◌∙◌, add-one}
use Rattle.std.specs.Option.{option_or}
use Rattle.std.proofs.lemmas.Bool.{false≢true}
use Rattle.std.proofs.lemmas.Option.{none-some}
use Rattle.ob_serial.specs.Serial.{EpochRecord}
use Rattle.ob_base.specs.declared.params.Params.{Params}
use Rattle.ob_order.specs.Works.{goes_on, last_writes}
use Rattle.ob_desk.specs.declared.part.Part.{Part as CodePart}
use Rattle.ob_desk.specs.Desk.{Part, DeskState, Client, Fault, EpochEnd, Committed, UnsureOf, new_part, end_of, close_to, closing, asked_at, settle, stop_part, record_of, MayCall, Close, CloseStep, PublishStep, UnsureStep, setup_with}
use Rattle.ob_shares.specs.declared.shares.Shares.{Shares}
use Rattle.ob_desk.specs.Parts.{part_of, desk_of, ArePartsKept, KeepsRoom}

-- what a flag says of the closed part
pub none_closed : (b : Bool) (p : Part) → (if b then Some p else None) ≡ None → b ≡ false
none_closed true p e = absurd (none-some p (sym e))
none_closed false p e = refl

pub some_closed : (b : Bool) (p : Part) (o : Option Part) → (if b then Some p else None) ≡ o → is_some o ≡ true → o ≡ Some p
some_closed true p o e is = sym e
some_closed false p o e is = absurd (false≢true (ap is_some e ∙ is))

-- a close keeps the number
pub closed_epoch : (part : Part) (n : ℕ) → (close_to part n).epoch ≡ part.epoch
closed_epoch part zero = refl
closed_epoch part (suc n) = step (goes_on (close_to part n).order.works (suc n) && not (asked_at (close_to part n) (suc n))) ∙ closed_epoch part n
  where
    step : (b : Bool) → (if b then end_of (close_to part n) (suc n) EpochEnd else close_to part n).epoch ≡ (close_to part n).epoch
    step true = refl
    step false = refl

pub closing-epoch : (part : Part) → (closing part).epoch ≡ part.epoch
closing-epoch part = closed_epoch part (length part.order.works)

pub closing_epoch : (old new : CodePart) → part_of new ≡ closing (part_of old) → new.epoch ≡ old.epoch
closing_epoch old new e = ap (λ (p : Part). p.epoch) e ∙ closed_epoch (part_of old) (length old.order.state.works)

module _ (shares : Shares) (clients : List Client) (stop : Option Fault) (running other : CodePart) (is_closed : Bool) where
  pub low_epoch : ArePartsKept running other is_closed stop → MayCall (desk_of shares clients stop running is_closed other) Close → running.epoch ≤ 2 ^ 62
  low_epoch kept may = kept.low (none_closed is_closed (part_of other) may.0) may.3

  pub close_step : (writes : List (ℕ × Option (List ℕ))) (ended next : CodePart) → ArePartsKept running other is_closed stop
      → part_of ended ≡ closing (part_of running) → KeepsRoom running ended
      → part_of next ≡ new_part (ended.epoch + 1) other.order.params.batches → next.order.params ≡ other.order.params
      → writes ≡ last_writes ended.order.params.keys ended.order.state.works
      → CloseStep (desk_of shares clients stop running is_closed other) writes (desk_of shares clients stop next true ended)
  close_step writes ended next kept ended_is room next_is next_params writes_are = record {
    batch = writes_are ∙ ap₂ (λ (p : Params) (q : Part). last_writes p.keys q.order.works) room.params ended_is;
    state = ap (λ (p : Params). made p (part_of next) (part_of ended)) (next_params ∙ kept.alike)
        ∙ ap₂ (made running.order.params) (next_is ∙ ap₂ new_part (add-one ended.epoch ∙ ap suc (closing_epoch running ended ended_is)) (ap (λ (p : Params). p.batches) kept.alike)) ended_is;
  }
    where
      made : Params → Part → Part → DeskState
      made p a b = record { setup = setup_with p shares; clients = clients; stop = stop; running = a; closed = Some b }

  pub publish_step : (told : EpochRecord ℕ) (settled : List Client) (left : CodePart) → is_some (desk_of shares clients stop running is_closed other).closed ≡ true
      → told ≡ record_of (part_of other) → settled ≡ settle (part_of other) Committed clients
      → PublishStep (desk_of shares clients stop running is_closed other) told (desk_of shares settled stop running false left)
  publish_step told settled left was told_is settled_is = record {
    part = part_of other;
    is_closed = some_closed is_closed (part_of other) _ refl was;
    record_is = told_is;
    state = ap (λ (cs : List Client). let q : DeskState = record { setup = setup_with running.order.params shares; clients = cs; stop = stop; running = part_of running; closed = None } in q) settled_is;
  }

-- a desk in doubt
pub unsure_step : (d halted new : DeskState) (f : Fault) (other : CodePart) (is_closed : Bool) → is_some d.closed ≡ true
    → (if is_closed then Some (part_of other) else None) ≡ halted.closed
    → halted ≡ record d { stop = option_or d.stop (Some f); running = stop_part f d.running }
    → new ≡ record halted { closed = None; clients = unwrap_or (option_map (λ c. settle c (UnsureOf other.epoch) halted.clients) halted.closed) halted.clients }
    → UnsureStep d f new
unsure_step d halted new f other is_closed was flag halted_is new_is =
    let here : d.closed ≡ Some (part_of other) = some_closed is_closed (part_of other) d.closed (flag ∙ ap (λ (q : DeskState). q.closed) halted_is) was in
    record {
      part = part_of other;
      is_closed = here;
      state = new_is
          ∙ (ap (λ (q : DeskState). let r : DeskState = record q { closed = None; clients = unwrap_or (option_map (λ c. settle c (UnsureOf other.epoch) q.clients) q.closed) q.clients } in r) halted_is
          ∙ ap (λ (o : Option Part). let r : DeskState = record d { stop = option_or d.stop (Some f); running = stop_part f d.running; closed = None; clients = unwrap_or (option_map (λ c. settle c (UnsureOf other.epoch) d.clients) o) d.clients } in r) here);
    }
