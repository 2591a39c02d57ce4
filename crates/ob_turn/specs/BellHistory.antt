-- A bell's word under its rule: it is the last number of one rising history, and each seat was told a beginning of it.
use Rattle.std.specs.Prelude.{◌≡◌, ℕ, ◌+◌, ◌-◌, ◌<◌, ◌≤◌, Bool, true, false, ◌||◌, List, [], ◌∷◌, ◌++◌}
use Rattle.std.specs.List.{All}
use mathlib.Core.Option.{some}
use mathlib.Core.List.{IsPrefix}
use lib.ListN.{get_elem?}
use Rattle.atomic_table.specs.Table.{State, Me, Step}
use Rattle.ob_turn.specs.declared.bell.Heard.{Heard}
use Rattle.ob_turn.specs.History.{longer}
use Rattle.ob_turn.specs.TurnRule.{total}

-- the last number, or n where there is none
abbrev pub latest : ℕ → List ℕ → ℕ
latest n [] = n
latest n (x ∷ xs) = latest x xs

-- no number is below the one before it
abbrev pub NumbersRise : ℕ → List ℕ → Type 0
NumbersRise n [] = Unit {0}
NumbersRise n (x ∷ xs) = (n ≤ x) × NumbersRise x xs

abbrev pub parts_heard : Heard → ℕ
parts_heard v = v.parts

-- what a seat knows is so: it and those joined into it were told a beginning of the history, and the seat that raises, of which there is one, all of it
pub record Knows (log : List ℕ) (raiser by : ℕ) (v : Heard) : Type 0 where
  pub prefix : IsPrefix v.seen log
  pub joined : All (λ told. IsPrefix told log) v.joined
  pub whole : v.raises ≡ true → (by ≡ raiser) × (v.seen ≡ log)

-- the seat at this place raises, and has a part
abbrev pub HasRaiser : List Heard → ℕ → Type 0
HasRaiser views raiser = (v : Heard) × (get_elem? views raiser ≡ some v) × (v.raises ≡ true) × (0 < v.parts)

-- The word is the last number of a rising history, what each seat knows is so, and the seats have all parts, one of them the right to raise.
pub record Rung {S : Type 0} (seats : ℕ) (s : State S Heard) : Type 0 where
  pub log : List ℕ
  pub raiser : ℕ
  pub word : s.words ≡ latest 0 log ∷ []
  pub rising : NumbersRise 0 log
  pub each : (by : ℕ) (v : Heard) → get_elem? s.views by ≡ some v → Knows log raiser by v
  pub parts : total parts_heard s.views ≡ seats
  pub raises : HasRaiser s.views raiser

-- the seat of a new bell, which has all parts and raises
abbrev pub first_heard : ℕ → Heard
first_heard seats = record { parts = seats; raises = true; seen = []; joined = [] }

-- what a seat keeps that one part was taken off, and what that part gets
abbrev pub kept_part : Heard → Heard
kept_part v = record v { parts = v.parts - 1 }

abbrev pub heard_anew : Heard → Heard
heard_anew v = record { parts = 1; raises = false; seen = v.seen; joined = [] }

-- what was told to two seats, of which either may be the one that raises: that was told all
abbrev pub told_either : Bool → Bool → List ℕ → List ℕ → List ℕ
told_either true other xs ys = xs
told_either false true xs ys = ys
told_either false false xs ys = longer xs ys

-- a seat that took in another
abbrev pub both_heard : Heard → Heard → Heard
both_heard v w = record {
  parts = v.parts + w.parts;
  raises = v.raises || w.raises;
  seen = told_either v.raises w.raises v.seen w.seen;
  joined = v.joined ++ (w.joined ++ v.seen ∷ w.seen ∷ []);
}

abbrev pub spent_heard : Heard
spent_heard = record { parts = 0; raises = false; seen = []; joined = [] }

-- what a load tells: the number last raised, in a history that goes on from what the seat and those joined into it were told
abbrev pub Looks : {S : Type 0} → Step S → Me S Heard → ℕ → Me S Heard → Type 0
Looks st m found w =
    (w.0 ≡ record m.0 { seen = w.0.seen }) × IsPrefix m.0.seen w.0.seen × All (λ told. IsPrefix told w.0.seen) m.0.joined
    × (found ≡ latest 0 w.0.seen) × (latest 0 m.0.seen ≤ found) × (m.0.raises ≡ true → w.0.seen ≡ m.0.seen) × (w.1 ≡ m.1)

-- what an addition tells: the history is one number longer
abbrev pub AddsNumber : {S : Type 0} → Step S → Me S Heard → ℕ → Me S Heard → Type 0
AddsNumber st m found w = (w ≡ (record m.0 { seen = m.0.seen ++ (found + st.first) ∷ [] }, m.1)) × (found ≡ latest 0 m.0.seen)
