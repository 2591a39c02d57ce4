-- All seats of a turn, each with its one part.
use Rattle.std.proofs.Common.{◌≡◌, ◌+◌, ◌≤◌, ◌++◌, ℕ, List, [], ◌∷◌, length, take, drop, refl, ◌∙◌, arith}
use Rattle.std.specs.List.{All, sum_by}
use Rattle.std.proofs.lemmas.List.Elements.{All-head, All-tail, All-append, All-drop, All-take}
use Rattle.std.proofs.lemmas.List.Sums.{sum_by-cons}
use Rattle.ob_turn.specs.TurnCalls.{Turn, TurnSeat, IsTurnSeat, IsIdle, AreSeats, HaveAll, seats_of}

module _ {T E : Type 0} where
  abbrev pub IsOne : TurnSeat T E → Type 0
  IsOne s = s.me.0.parts ≡ 1

  sum_of_ones : (seats : List (TurnSeat T E)) → All IsOne seats → sum_by (λ (s : TurnSeat T E). s.me.0.parts) seats ≡ length seats
  sum_of_ones [] ones = refl
  sum_of_ones (s ∷ ss) ones =
      let head : s.me.0.parts ≡ 1 = All-head IsOne s ss ones in
      let tail : sum_by (λ (s : TurnSeat T E). s.me.0.parts) ss ≡ length ss = sum_of_ones ss (All-tail IsOne s ss ones) in
      let both : sum_by (λ (s : TurnSeat T E). s.me.0.parts) (s ∷ ss) ≡ s.me.0.parts + sum_by (λ (s : TurnSeat T E). s.me.0.parts) ss = sum_by-cons (λ (s : TurnSeat T E). s.me.0.parts) s ss in
      omega (arith, head, tail, both)

  -- As many seats as the turn was made with, each with one part, are all that there are.
  pub have_all : (turn : Turn T E) (seats : List (TurnSeat T E)) → 1 ≤ seats_of turn → length seats ≡ seats_of turn → All IsOne seats → HaveAll turn seats
  have_all turn seats some long ones = record { some_seat = omega (arith, some, long); parts = sum_of_ones seats ones ∙ long }

  -- what holds of each seat of a new turn
  module _ (turn : Turn T E) (x : T) (count : ℕ) (seats : List (TurnSeat T E)) (opened : AreSeats turn x count seats) where
    pub all_own : All (λ (s : TurnSeat T E). IsTurnSeat turn s) seats
    all_own k d lt = (opened.fresh k d lt).own

    pub all_one : All IsOne seats
    all_one k d lt = λ i. ((opened.fresh k d lt).knows i).0.parts

    pub all_idle : All (λ (s : TurnSeat T E). IsIdle s) seats
    all_idle k d lt =
        let f = opened.fresh k d lt in
        let one = all_one k d lt in
        record { stage = λ i. (f.knows i).0.stage; some_part = omega (arith, one); empty = λ i. (f.knows i).1 }

  -- what holds of those of a slice, and of those behind it
  pub all_left : (P : TurnSeat T E → Type 0) (n : ℕ) (new old : List (TurnSeat T E)) → All P new → All P old → All P (take n (new ++ drop (length new) old))
  all_left P n new old its others = All-take P n (new ++ drop (length new) old) (All-append P new (drop (length new) old) its (All-drop P (length new) old others))
