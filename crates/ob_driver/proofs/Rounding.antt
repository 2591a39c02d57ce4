-- Rounds, one behind the other.
use Rattle.std.proofs.Common.{◌≡◌, ◌∙◌, ℕ, List, [], ◌∷◌, ◌++◌, flat_map, refl, sym, ap, subst, append-nil, append_assoc}
use Rattle.std.proofs.lemmas.List.{append_cancel_left}
use Rattle.std.proofs.lemmas.List.Concat.{flat_map-append}
use mathlib.Core.List.{IsPrefix}
use Rattle.ob_desk.specs.Desk.{DeskState}
use Rattle.ob_turn.specs.declared.turn.Entry.{Entry}
use Rattle.ob_turn.specs.TurnCalls.{TurnSeat}
use Rattle.ob_hall.specs.Passes.{Steps, Pass, history_of, entries_by}
use Rattle.ob_conduct.specs.Acts.{Act}
use Rattle.ob_conduct.specs.Rounds.{IsOneThing}
use Rattle.ob_driver.specs.Turning.{AreActs}
use Rattle.ob_driver.specs.Places.{StandIn, MakesEntries, HandRound, AreHandRounds, AreInRounds}
use Rattle.ob_driver.proofs.Standing.{stand_longer}

module _ {H : Type 0} (steps : ℕ → H → H → ℕ → Type 0) where
  rounds_longer : (log more : List (Entry Steps)) (n : ℕ) (first : H) (rounds : List (HandRound H)) (last : H) (m : ℕ) → IsPrefix log more → AreHandRounds steps log n first rounds last m → AreHandRounds steps more n first rounds last m
  rounds_longer log more n first [] last m p are = are
  rounds_longer log more n first (r ∷ rounds) last m p (made, one, acts, stand, rest) = (made, one, acts, stand_longer log more r.stepped r.entries r.turns p stand, rounds_longer log more r.turns r.hands rounds last m p rest)

  rounds_snoc : (log : List (Entry Steps)) (n : ℕ) (first : H) (rounds : List (HandRound H)) (mid : H) (k : ℕ) (r : HandRound H) → AreHandRounds steps log n first rounds mid k → steps k mid r.hands r.stepped → IsOneThing r.thing → AreActs r.entries r.thing → StandIn log r.stepped r.entries r.turns
      → AreHandRounds steps log n first (rounds ++ r ∷ []) r.hands r.turns
  rounds_snoc log n first [] mid k r (same, at) made one acts stand = (subst (λ (h : H). steps n h r.hands r.stepped) same (subst (λ (x : ℕ). steps x mid r.hands r.stepped) (sym at) made), one, acts, stand, (refl, refl))
  rounds_snoc log n first (q ∷ rounds) mid k r (before, its, are, there, rest) made one acts stand = (before, its, are, there, rounds_snoc log q.turns q.hands rounds mid k r rest made one acts stand)

  -- no round was made
  pub rounds_none : (first : H) (pass : Pass) → (z : AreInRounds steps first first pass pass []) × (z.count ≡ 0)
  rounds_none first pass = (record { rounds = []; count = 0; are = (refl, refl); acts_are = refl; made = sym (append-nil (entries_by pass)) }, refl)

  -- one more was made
  pub rounds_more : (first mid last : H) (before now after : Pass) (acts thing : List Act) (n k m : ℕ) (q : AreInRounds steps first mid before now acts) → q.count ≡ n → steps n mid last k → MakesEntries now k after m
      → IsOneThing thing → (turns : List (Entry Steps)) → AreActs turns thing → entries_by after ≡ entries_by now ++ turns → (z : AreInRounds steps first last before after (acts ++ thing)) × (z.count ≡ m)
  rounds_more first mid last before now after acts thing n k m q at made x one turns are made_by =
      let same : turns ≡ x.entries = append_cancel_left (entries_by now) turns x.entries (sym made_by ∙ x.made) in
      let r : HandRound H = record { hands = last; stepped = k; thing = thing; entries = x.entries; turns = m } in
      let things : List Act = flat_map (λ (r : HandRound H). r.thing) q.rounds in
      let entries : List (Entry Steps) = flat_map (λ (r : HandRound H). r.entries) q.rounds in (
        record {
          rounds = q.rounds ++ r ∷ [];
          count = m;
          are = rounds_snoc (history_of after) 0 first q.rounds mid q.count r (rounds_longer (history_of now) (history_of after) 0 first q.rounds mid q.count x.goes_on q.are) (subst (λ (y : ℕ). steps y mid last k) (sym at) made) one
              (subst (λ (es : List (Entry Steps)). AreActs es thing) same are) x.stand;
          acts_are = ap (λ (l : List Act). l ++ thing) q.acts_are ∙ (ap (λ (l : List Act). things ++ l) (sym (append-nil thing)) ∙ sym (flat_map-append (λ (r : HandRound H). r.thing) q.rounds (r ∷ [])));
          made = x.made
              ∙ (ap (λ (es : List (Entry Steps)). es ++ x.entries) q.made
              ∙ (append_assoc (entries_by before) entries x.entries
              ∙ ap (λ (es : List (Entry Steps)). entries_by before ++ es) (ap (λ (es : List (Entry Steps)). entries ++ es) (sym (append-nil x.entries)) ∙ sym (flat_map-append (λ (r : HandRound H). r.entries) q.rounds (r ∷ [])))));
        },
        refl,
      )

  -- by the pass as it was before a number was raised
  pub rounds_rung : (first last : H) (before rung after : Pass) (acts : List Act) → rung.seat ≡ before.seat → AreInRounds steps first last rung after acts → AreInRounds steps first last before after acts
  rounds_rung first last before rung after acts seat q = record {
    rounds = q.rounds;
    count = q.count;
    are = q.are;
    acts_are = q.acts_are;
    made = q.made ∙ ap (λ (s : TurnSeat DeskState Steps). s.me.0.mine ++ flat_map (λ (r : HandRound H). r.entries) q.rounds) seat;
  }
