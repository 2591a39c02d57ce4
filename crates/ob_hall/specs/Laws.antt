-- What holds of every history that is legal from a new desk.
use Rattle.std.specs.Prelude.{◌≡◌, ℕ, suc, All, List, Some, None, slice_get}
use Rattle.ob_desk.specs.Desk.{DeskState}
use Rattle.ob_session.specs.Steps as steps
use Rattle.ob_session.specs.Clients.{client_of, said_by}
use Rattle.ob_session.specs.Agreeing.{Agrees}
use Rattle.ob_turn.specs.declared.turn.Entry.{Entry}
use Rattle.ob_turn.specs.History.{entries_of, LeadsByTurns}
use Rattle.ob_hall.specs.Turns.{client_numbers, IsTurn}
use Rattle.ob_hall.specs.Passes.{Steps, IsNew, calls_in}

-- its calls, one behind the other, are a chain of allowed desk steps
abbrev pub IsOneChain : Type 0
IsOneChain = (opened d : DeskState) (history : List (Entry Steps)) → IsNew opened → LeadsByTurns IsTurn opened history d → steps.Leads opened (calls_in history) d

-- a client's calls in it are those of the entries of its own place, which have no other client's call
abbrev pub AreOwnCalls : Type 0
AreOwnCalls = (opened d : DeskState) (history : List (Entry Steps)) (at number : ℕ) → IsNew opened → LeadsByTurns IsTurn opened history d → slice_get (client_numbers opened) at ≡ Some number
    → (said_by number (calls_in history) ≡ said_by number (calls_in (entries_of (suc at) history))) × All (steps.IsOwn number) (calls_in (entries_of (suc at) history))

-- the entries of place 0 have no client's call
abbrev pub IsDriverAlone : Type 0
IsDriverAlone = (opened d : DeskState) (history : List (Entry Steps)) → IsNew opened → LeadsByTurns IsTurn opened history d → All (λ s. client_of s.0 ≡ None) (calls_in (entries_of 0 history))

-- the desk agrees with what each client was told by its own entries
abbrev pub DeskAgrees : Type 0
DeskAgrees = (opened d : DeskState) (history : List (Entry Steps)) (at number : ℕ) → IsNew opened → LeadsByTurns IsTurn opened history d → slice_get (client_numbers opened) at ≡ Some number
    → Agrees d number (said_by number (calls_in (entries_of (suc at) history)))
