-- What calls in a turn may do to the desk, and whose they are.
use Rattle.std.specs.Prelude.{◌≡◌, ℕ, zero, suc, All, List, map, slice_get, Some, None}
use Rattle.ob_desk.specs.Desk.{DeskState, Call, Reply}
use Rattle.ob_session.specs.Steps.{Leads, IsOwn}
use Rattle.ob_session.specs.Clients.{client_of}

-- the numbers of the desk's clients, in order
abbrev pub client_numbers : DeskState → List ℕ
client_numbers d = map (λ c. c.number) d.clients

-- At place 0 no call is a client's. At place i + 1 they are calls of the i-th client, besides `stop` for want of memory.
abbrev pub IsBy : ℕ → DeskState → List (Call × Reply) → Type 0
IsBy zero d calls = All (λ s. client_of s.0 ≡ None) calls
IsBy (suc i) d calls = (number : ℕ) × (slice_get (client_numbers d) i ≡ Some number) × All (IsOwn number) calls

-- These calls of the caller at this place lead from desk to desk, each allowed where it is made.
abbrev pub IsTurn : ℕ → DeskState → List (Call × Reply) → DeskState → Type 0
IsTurn by d calls new = Leads d calls new × IsBy by d calls
