-- Numbers that seats claim from one counter, each once: the rule of its word, and what each atomic step tells.
use Rattle.std.specs.Prelude.{◌≡◌, ℕ, ◌+◌, ◌-◌, ◌^◌, ◌<◌, ◌≤◌, ◌==◌, true, false, List, [], ◌∷◌, ◌++◌, max}
use Rattle.std.specs.List.{All, count_by, sum_by}
use Rattle.atomic_table.specs.Table.{State, Me, Step}
use Rattle.ob_base.specs.Tree.{below}
use Rattle.ob_claims.specs.declared.claims.Hold.{Hold}

-- how often x stands in a list
abbrev pub times : ℕ → List ℕ → ℕ
times x numbers = count_by (λ y. y == x) numbers

abbrev pub hold : ℕ → ℕ → ℕ → List ℕ → Hold
hold seats parts reached claimed = record { seats = seats; parts = parts; ready = false; reached = reached; claimed = claimed }

-- the first seat has all parts; nothing is claimed
abbrev pub first_hold : ℕ → Hold
first_hold seats = hold seats seats 0 []

-- what a seat keeps that one part was taken off, and what that part gets
abbrev pub kept_hold : Hold → Hold
kept_hold v = hold v.seats (v.parts - 1) v.reached v.claimed

abbrev pub new_hold : Hold → Hold
new_hold v = hold v.seats 1 v.reached []

-- a seat that took in another, and what is left of that
abbrev pub both_holds : Hold → Hold → Hold
both_holds v w = hold v.seats (v.parts + w.parts) (max v.reached w.reached) (v.claimed ++ w.claimed)

abbrev pub spent_hold : Hold
spent_hold = hold 0 0 0 []

-- What a seat knows is so: the counter doesn't stand below what the seat saw it reach, and a seat without parts has claimed nothing.
pub record FitsCounter (seats counter : ℕ) (v : Hold) : Type 0 where
  pub seats_are : 0 < v.parts → v.seats ≡ seats
  pub reached : v.reached ≤ counter
  pub ready : v.ready ≡ true → 0 < v.parts
  pub spent : v.parts ≡ 0 → (v.reached ≡ 0) × (v.claimed ≡ [])

-- The seats have all parts, and each number below the counter stands once in what they have claimed, and no other. A seat may claim that saw the counter below 2 ^ 62, so the word can't wrap.
pub record Claimed {S : Type 0} (seats : ℕ) (s : State S Hold) : Type 0 where
  pub counter : ℕ
  pub few : seats ≤ 2 ^ 62
  pub word : s.words ≡ counter ∷ []
  pub parts : sum_by (λ v. v.parts) s.views ≡ seats
  pub bound : counter + count_by (λ v. v.ready) s.views ≤ 2 ^ 62 + seats
  pub each : All (FitsCounter seats counter) s.views
  pub once : (x : ℕ) → sum_by (λ v. times x v.claimed) s.views ≡ times x (below counter)

-- who has all parts has claimed each number below the counter once, and no other
abbrev pub ClaimsAllBelow : ℕ → Hold → Type 0
ClaimsAllBelow counter v = v.parts ≡ v.seats → (x : ℕ) → times x v.claimed ≡ times x (below counter)

-- what a load tells
pub record SeesCounter {S : Type 0} (st : Step S) (m : Me S Hold) (found : ℕ) (w : Me S Hold) : Type 0 where
  pub rises : m.0.reached ≤ found
  pub knows : w ≡ (record m.0 { ready = w.0.ready; reached = found }, m.1)
  pub may : found < 2 ^ 62 → w.0.ready ≡ true
  pub all : ClaimsAllBelow found m.0

-- what an addition of one tells: the number that it found is the seat's
pub record TakesNumber {S : Type 0} (st : Step S) (m : Me S Hold) (found : ℕ) (w : Me S Hold) : Type 0 where
  pub rises : m.0.reached ≤ found
  pub knows : w ≡ (hold m.0.seats m.0.parts (found + 1) (m.0.claimed ++ found ∷ []), m.1)
  pub all : ClaimsAllBelow found m.0

-- what a store of 0 tells: nothing is claimed
abbrev pub CountsAnew : {S : Type 0} → Step S → Me S Hold → ℕ → Me S Hold → Type 0
CountsAnew st m stored w = w ≡ (hold m.0.seats m.0.parts 0 [], m.1)
