-- What the driver may rest on once it is in its turn.
use Rattle.std.proofs.Common.{◌≡◌, ◌∙◌, ◌≤◌, ℕ, zero, false, All, List, [], Option, None, Some, refl, sym, ap, subst}
use Rattle.std.specs.Option.{is_some}
use Rattle.std.proofs.lemmas.Bool.{false≢true}
use Rattle.ob_serial.specs.Vaults.{VaultCounts}
use Rattle.ob_desk.specs.Desk.{DeskState, Part}
use Rattle.ob_turn.specs.declared.turn.Entry.{Entry}
use Rattle.ob_turn.specs.History.{entries_of}
use Rattle.ob_hall.specs.Passes.{Steps, Hall, Pass, opening_of, pass_place, history_of, entries_by, own_calls, calls_in, IsPassOf, IsLegal, EntersTurn}
use Rattle.ob_hall.specs.Rounds.{Rounds, rounds_of, rounds_behind}
use Rattle.ob_hall.proofs.Making.{entered_legal}
use Rattle.ob_hall.proofs.Rounds.{history_moves}
use Rattle.ob_conduct.specs.Ready.{IsBetweenActs}
use Rattle.ob_hall.proofs.Histories.{noted_calls}
use Rattle.ob_turn.specs.declared.bell.Heard.{Heard}
use Rattle.ob_turn.specs.BellHistory.{latest}
use Rattle.atomic_table.specs.declared.shared.Seat.{Seat}
use Rattle.ob_driver.specs.Resting.{params_of, IsMild, rounds_by, resting, IsDriver, IsWhere, IsInTurn, noted_by}
use Rattle.ob_driver.proofs.Sound.{IsSound, history_sound}

abbrev Ear : Type 0
Ear = Seat (Unit {0}) Heard

none_of : (o : Option Part) → is_some o ≡ false → o ≡ None
none_of None is = refl
none_of (Some part) is = absurd (false≢true (sym is))

module _ (hall : Hall) (before mid : Pass) (d : DeskState) (driver : IsDriver hall before) (entered : EntersTurn hall before mid d) where
  pub mid_place : pass_place mid ≡ zero
  mid_place = (λ i. (entered.enters.knows i).by) ∙ driver.place

  pub legal : IsLegal hall (history_of mid) d
  legal = entered_legal hall before mid d driver.own entered

  pub mine : entries_of 0 (history_of mid) ≡ entries_by before
  unfolding mid_place
  mine = ap (λ (n : ℕ). entries_of n (history_of mid)) (sym mid_place) ∙ (entered.enters.own ∙ (λ i. (entered.enters.knows i).mine))

  pub sound : IsSound (params_of hall) d
  sound = history_sound (params_of hall) (opening_of hall) (history_of mid) d refl driver.own.opens legal (subst (λ (es : List (Entry Steps)). All IsMild (calls_in es)) (sym mine) driver.mild)

  pub rounds_are : rounds_of d ≡ rounds_by hall before
  rounds_are = history_moves (params_of hall).batches (opening_of hall) (history_of mid) d refl legal
      ∙ ap (λ (es : List (Entry Steps)). rounds_behind (params_of hall).batches (rounds_of (opening_of hall)) (calls_in es)) mine

  pub not_closed : (r : Rounds) → rounds_by hall before ≡ r → r.has_closed ≡ false → d.closed ≡ None
  not_closed r is open_is = none_of d.closed (ap (λ (q : Rounds). q.has_closed) (rounds_are ∙ is) ∙ open_is)

  -- it is in its turn, and has noted nothing
  pub in_turn : IsPassOf hall mid → IsInTurn hall mid d
  in_turn own = record { own = own; place = mid_place; inside = entered.enters.inside; value = entered.enters.value }

  pub none_noted : noted_by mid ≡ []
  none_noted = ap noted_calls (λ i. (entered.enters.knows i).noted)

  pub same_entries : entries_by mid ≡ entries_by before
  same_entries = λ i. (entered.enters.knows i).mine

-- The hall's desk is where the vault is.
pub ready_in : (hall : Hall) (before mid : Pass) (d : DeskState) (c : VaultCounts) → IsWhere hall before c → EntersTurn hall before mid d → IsBetweenActs (params_of hall) d c
ready_in hall before mid d c r entered =
    let s = sound hall before mid d r.driver entered in
    let are : rounds_of d ≡ resting c = rounds_are hall before mid d r.driver entered ∙ r.rounds in record {
      params = s.params;
      none_closed = not_closed hall before mid d r.driver entered (resting c) r.rounds refl;
      landed = ap (λ (q : Rounds). q.flying) are;
      epoch = ap (λ (q : Rounds). q.epoch) are;
      left = ap (λ (q : Rounds). q.left) are;
      serves = r.serves;
      stop = s.stop;
      fit = s.fit;
    }

-- Where it has entered it is where it was.
pub still_where : (hall : Hall) (before mid : Pass) (d : DeskState) (c : VaultCounts) → IsWhere hall before c → IsPassOf hall mid → EntersTurn hall before mid d → IsWhere hall mid c
still_where hall before mid d c r own entered = let same : own_calls mid ≡ own_calls before = ap calls_in (same_entries hall before mid d r.driver entered) in record {
  driver = record { own = own; place = mid_place hall before mid d r.driver entered; raises = ap (λ (e : Ear). e.me.0.raises) entered.beside.ear ∙ r.driver.raises; mild = subst (All IsMild) (sym same) r.driver.mild };
  rounds = ap (rounds_behind (params_of hall).batches (rounds_of (opening_of hall))) same ∙ r.rounds;
  serves = r.serves;
  told = subst (λ (n : ℕ). n ≤ c.epoch) (sym (ap (λ (e : Ear). latest 0 e.me.0.seen) entered.beside.ear)) r.told;
}
