-- Who calls a desk.
use Rattle.std.specs.Prelude.{ℕ, ◌≡◌, Contains, List, [], map}
use Rattle.ob_desk.specs.Desk.{DeskState, Setup, Call, Reply, new_desk}
use Rattle.ob_session.specs.Steps.{Leads}
use Rattle.ob_session.specs.Clients.{said_by}

-- no call changes which clients a desk has
abbrev pub ClientsStay : Type 0
ClientsStay = (d : DeskState) (steps : List (Call × Reply)) (new : DeskState) → Leads d steps new → map (λ c. c.number) new.clients ≡ map (λ c. c.number) d.clients

-- none but the clients that a new desk was given has called it
abbrev pub OnlyClientsCall : Type 0
OnlyClientsCall = (setup : Setup) (epoch left : ℕ) (clients : List ℕ) (steps : List (Call × Reply)) (d : DeskState) (number : ℕ)
    → Leads (new_desk setup epoch left clients) steps d → (Contains clients number → ⊥) → said_by number steps ≡ []
