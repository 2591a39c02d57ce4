-- One history of turns, and what it leads to.
use Rattle.std.specs.Prelude.{◌≡◌, ℕ, List, [], ◌∷◌, ◌==◌, if◌then◌else◌, Option, Some, None}
use Rattle.std.specs.List.{All}
use mathlib.Core.List.{IsPrefix}
use Rattle.ob_turn.specs.declared.turn.Entry.{Entry}
use Rattle.ob_turn.specs.declared.turn.Joined.{Joined}
use Rattle.ob_turn.specs.declared.turn.View.{View}

abbrev pub entry : {E : Type 0} → ℕ → List E → Entry E
entry by calls = record { by = by; calls = calls }

-- the longer of two beginnings of one list
abbrev pub longer : {A : Type 0} → List A → List A → List A
longer [] ys = ys
longer (x ∷ xs) [] = x ∷ xs
longer (x ∷ xs) (y ∷ ys) = x ∷ longer xs ys

-- the entries of one caller, in order
abbrev pub entries_of : {E : Type 0} → ℕ → List (Entry E) → List (Entry E)
entries_of by [] = []
entries_of by (l ∷ ls) = if by == l.by then l ∷ entries_of by ls else entries_of by ls

-- the history begins with all that a seat had seen, and of its caller's entries it has just those that the seat made
abbrev pub HasPart : {T E : Type 0} → List (Entry E) → Joined T E → Type 0
HasPart log j = IsPrefix j.seen log × (entries_of j.by log ≡ j.mine)

module _ {T E : Type 0} (steps : ℕ → T → E → T → Type 0) where
  -- these calls of one caller lead from x to y, one after another
  abbrev pub Calls : ℕ → T → List E → T → Type 0
  Calls by x [] y = x ≡ y
  Calls by x (e ∷ es) y = (z : T) × steps by x e z × Calls by z es y

  -- these turns lead from x to y: the history is legal
  abbrev pub LeadsByTurns : T → List (Entry E) → T → Type 0
  LeadsByTurns x [] y = x ≡ y
  LeadsByTurns x (l ∷ ls) y = (z : T) × Calls l.by x l.calls z × LeadsByTurns z ls y

  -- the same from the opening value, where that is known
  abbrev pub LeadsFromOpening : Option T → List (Entry E) → T → Type 0
  LeadsFromOpening None ls y = ⊥
  LeadsFromOpening (Some x) ls y = LeadsByTurns x ls y

  -- y is what the history that a seat has seen leads to, and then these calls of its caller
  abbrev pub IsAt : View T E → List E → T → Type 0
  IsAt v calls y = (x : T) × LeadsFromOpening v.opening v.seen x × Calls v.by x calls y

  -- y is what that history, and the calls that the seat has noted in this turn, lead to
  abbrev pub Reaches : View T E → T → Type 0
  Reaches v y = IsAt v v.noted y

  -- The history leads from the value that a seat knows as the opening one to x, begins with all that the seat has seen, and of its caller's entries it has just those that the seat made, each once.
  pub record TellsOf (log : List (Entry E)) (x : T) (opening : Option T) (by : ℕ) (seen mine : List (Entry E)) : Type 0 where
    pub legal : LeadsFromOpening opening log x
    pub prefix : IsPrefix seen log
    pub own : entries_of by log ≡ mine

  -- so it is of a seat, and of all seats that were joined into it
  pub record TellsSeats (log : List (Entry E)) (x : T) (v : View T E) : Type 0 where
    pub seat : TellsOf log x v.opening v.by v.seen v.mine
    pub joined : All (λ (j : Joined T E). TellsOf log x j.opening j.by j.seen j.mine) v.joined
