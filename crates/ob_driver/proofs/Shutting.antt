-- An epoch that was closed in a turn, and what is told of its end in another, behind which clients had theirs.
use Rattle.std.proofs.Common.{◌≡◌, ◌∙◌, ◌<◌, ◌+◌, ◌^◌, ℕ, suc, true, All, List, [], ◌∷◌, ◌++◌, Option, None, Err, refl, sym, ap, subst, arith}
use Rattle.std.specs.Option.{is_some}
use Rattle.std.proofs.lemmas.Option.{same_Some}
use mathlib.Core.List.{IsPrefix}
use Rattle.ob_base.specs.Causes.{Rose}
use Rattle.ob_base.specs.declared.params.Params.{Params}
use Rattle.ob_store.specs.Calls.{IsStoreFault}
use Rattle.ob_store.specs.Lines.{Trace}
use Rattle.ob_serial.specs.Serial.{EpochRecord}
use Rattle.ob_serial.specs.Vaults.{End, Ended, VaultCounts}
use Rattle.ob_serial.specs.VaultViews.{IsEndFault, IsStoreEnd, end_answer}
use Rattle.ob_serial.specs.VaultKinds.{Kind}
use Rattle.ob_serial.specs.declared.vault.EndErr.{EndErr}
use Rattle.ob_serial.specs.declared.vault.EndErr.TheVariants.{Before, Unsure}
use Rattle.ob_desk.specs.Desk as desk
use Rattle.ob_desk.specs.Desk.{DeskState, MayCall, PublishStep, closing, record_of}
use Rattle.ob_turn.specs.declared.turn.Entry.{Entry}
use Rattle.ob_turn.specs.TurnCalls.{TurnSeat}
use Rattle.ob_turn.proofs.Prefixes.{prefix_self}
use Rattle.ob_hall.specs.Passes.{Steps, Hall, Pass, opening_of, history_of, calls_in, IsPassOf, IsRaised, EntersTurn}
use Rattle.ob_hall.specs.Rounds.{Rounds, rounds_of, rounds_behind, StaysClosed}
use Rattle.ob_hall.proofs.Staying.{closed_stays}
use Rattle.ob_conduct.specs.declared.run_err.RunErr.TheVariants as failed
use Rattle.ob_conduct.specs.Acts.{stop_for, fault_in}
use Rattle.ob_conduct.specs.Scenes.{scene, Watched}
use Rattle.ob_conduct.specs.Ready.{IsBetweenActs, IsDueRecord}
use Rattle.ob_conduct.proofs.Closing.{store_end}
use Rattle.ob_driver.specs.Resting.{params_of, rounds_by, ending, IsMild, IsDriver}
use Rattle.ob_driver.specs.Turning.{MakesTurn}
use Rattle.ob_driver.specs.Places.{MakesEntries}
use Rattle.ob_driver.specs.Inside.{Ends, EndRefused}
use Rattle.ob_driver.proofs.Sound.{front_mild, history_mild}
use Rattle.ob_driver.proofs.Dues.{due_closed}
use Rattle.ob_driver.proofs.Resting.{legal, mine, sound, rounds_are}
use Rattle.ob_driver.proofs.Insides.{asks_one}
use Rattle.ob_driver.proofs.Standing.{made_from}

abbrev Writes : Type 0
Writes = List (ℕ × Option (List ℕ))

abbrev TSeat : Type 0
TSeat = TurnSeat DeskState Steps

pub may_close : (p : Params) (d : DeskState) (c : VaultCounts) → IsBetweenActs p d c → d.stop ≡ None → c.left ≡ 0 → MayCall d desk.Close
may_close p d c r none zero = (r.none_closed, r.left ∙ zero, r.landed, none)

-- ---- the turn in which it is told

module _ (hall : Hall) (before mid : Pass) (d : DeskState) (c : VaultCounts) (writes : Writes) (driver : IsDriver hall before) (rounds : rounds_by hall before ≡ ending (params_of hall).batches c writes) (entered : EntersTurn hall before mid d) where
  rounds_now : rounds_of d ≡ ending (params_of hall).batches c writes
  rounds_now = rounds_are hall before mid d driver entered ∙ rounds

  pub still_closed : is_some d.closed ≡ true
  still_closed = ap (λ (r : Rounds). r.has_closed) rounds_now

  -- the epoch that was ended may be published
  pub may_publish : (ended left : ℕ) → ended ≡ suc c.epoch → ended < 2 ^ 62 → left ≡ (params_of hall).batches → MayCall d (desk.Publish (ended + 1) left)
  may_publish ended left is few left_is =
      let at : d.running.epoch ≡ suc (suc c.epoch) = ap (λ (r : Rounds). r.epoch) rounds_now in (
        omega (arith, at, is),
        omega (arith, few),
        left_is ∙ sym (ap (λ (q : Params). q.batches) (sound hall before mid d driver entered).params),
        still_closed,
      )

  stays : StaysClosed (opening_of hall) (calls_in (history_of mid)) (record { epoch = suc c.epoch; writes = writes }) d
  stays = closed_stays (opening_of hall) d (history_of mid) (record { epoch = suc c.epoch; writes = writes }) driver.own.opens (legal hall before mid d driver entered)
      (ap (λ (es : List (Entry Steps)). (rounds_behind (params_of hall).batches (rounds_of (opening_of hall)) (calls_in es)).due) (mine hall before mid d driver entered) ∙ ap (λ (r : Rounds). r.due) rounds)

  all_mild : All IsMild (calls_in (history_of mid))
  all_mild = history_mild (opening_of hall) (history_of mid) d (legal hall before mid d driver entered) (subst (λ (es : List (Entry Steps)). All IsMild (calls_in es)) (sym (mine hall before mid d driver entered)) driver.mild)

  -- the part that is published is the one that was closed
  pub due_told : (told : EpochRecord ℕ) (new : DeskState) → PublishStep d told new → IsDueRecord (suc c.epoch) writes told
  due_told told new step =
      let s = stays in
      let due : IsDueRecord s.at.running.epoch writes (record_of (closing s.at.running)) =
      due_closed (opening_of hall) s.at d s.front s.behind writes driver.own.opens (front_mild s.front ((desk.Close, desk.Writes writes) ∷ s.behind) (subst (All IsMild) s.steps_are all_mild)) s.led s.rest in
      let part_is : closing s.at.running ≡ step.part = same_Some (closing s.at.running) step.part (sym s.stays ∙ step.is_closed) in
      subst (λ (x : EpochRecord ℕ). IsDueRecord (suc c.epoch) writes x) (ap record_of part_is ∙ sym step.record_is)
      (subst (λ (n : ℕ). IsDueRecord n writes (record_of (closing s.at.running))) s.epoch_is due)

-- ---- a number that was raised before that turn

module _ (hall : Hall) (before rung : Pass) (n : ℕ) (r : IsRaised before rung n) where
  pub driver_rung : IsPassOf hall rung → IsDriver hall before → IsDriver hall rung
  driver_rung own d = record {
    own = own;
    place = ap (λ (s : TSeat). s.me.0.by) r.seat ∙ d.place;
    raises = (λ i. (r.raises.knows i).raises) ∙ d.raises;
    mild = subst (λ (s : TSeat). All IsMild (calls_in s.me.0.mine)) (sym r.seat) d.mild;
  }

  pub rounds_rung : rounds_by hall rung ≡ rounds_by hall before
  rounds_rung = ap (λ (s : TSeat). rounds_behind (params_of hall).batches (rounds_of (opening_of hall)) (calls_in s.me.0.mine)) r.seat

  pub turn_of_rung : (after : Pass) (calls : Steps) → MakesTurn rung after calls → MakesTurn before after calls
  turn_of_rung after calls m = record {
    turn = m.turn;
    made = m.made ∙ ap (λ (s : TSeat). s.me.0.mine ++ m.turn ∷ []) r.seat;
    calls_are = m.calls_are;
    place = m.place ∙ ap (λ (s : TSeat). s.me.0.by) r.seat;
  }

  pub entries_of_rung : (after : Pass) (k m : ℕ) → MakesEntries rung k after m → MakesEntries before k after m
  entries_of_rung after k m x =
      made_from before rung after k m (ap (λ (s : TSeat). s.me.0.mine) r.seat) (subst (λ (s : TSeat). IsPrefix (history_of before) s.me.0.seen) (sym r.seat) (prefix_self (history_of before))) x

-- ---- what came of the end

module _ {V : Type 0} (k : Kind V) (before after : Pass) (d : DeskState) (v w : V) (t u : Trace) (c : VaultCounts) (writes : Writes) where
  -- it was ended, and published
  pub ends_so : (ended left : ℕ) (told : EpochRecord ℕ) → Watched k v t (End writes) Ended w u → ended ≡ suc c.epoch → IsDueRecord (suc c.epoch) writes told → MakesTurn before after ((desk.Publish (ended + 1) left, desk.Published told) ∷ [])
      → Ends k (suc c.epoch) writes before (scene d v t) told after (scene d w u)
  ends_so ended left told asked is due made =
      let named : told.epoch ≡ suc c.epoch = due.epoch_is in
      let number : ended + 1 ≡ suc told.epoch = omega (arith, named, is) in record {
        left = left;
        made = subst (λ (n : ℕ). MakesTurn before after ((desk.Publish n left, desk.Published told) ∷ [])) number made;
        asks = asks_one k d d v w t u (End writes) Ended asked;
        due = due;
      }

-- or refused, or left in doubt

store_of : (refused : EndErr) → IsStoreFault (fault_in refused) → IsStoreEnd refused
store_of (Before fault) store = store_end fault store
store_of (Unsure fault) store = tt

module _ {V : Type 0} (k : Kind V) (before after : Pass) (d : DeskState) (v w : V) (t u : Trace) (c : VaultCounts) (writes : Writes) where
  pub gives_up : (refused : EndErr) → Watched k v t (End writes) (end_answer (Err refused)) w u → IsEndFault (c.epoch + 1) refused → (IsStoreEnd refused → Rose (k.disk v).faults (k.disk w).faults) → MakesTurn before after ((stop_for refused, desk.Done) ∷ [])
      → EndRefused k (suc c.epoch) writes before (scene d v t) (failed.Fault (fault_in refused)) after (scene d w u)
  gives_up refused asked is_fault cause made =
      let number : c.epoch + 1 ≡ suc c.epoch = omega arith in record {
        refused = refused;
        made = made;
        asks = asks_one k d d v w t u (End writes) (end_answer (Err refused)) asked;
        fault_is = refl;
        is_fault = subst (λ (n : ℕ). IsEndFault n refused) number is_fault;
        cause = λ store. cause (store_of refused store);
      }
