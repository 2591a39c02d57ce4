-- The numbers of clients.
use Rattle.std.specs.Prelude.{◌≤◌, ℕ}

-- a script names at most so many clients, and a desk is made with at most so many
abbrev pub most_clients : ℕ
most_clients = 64

abbrev pub IsClientNumber : ℕ → Type 0
IsClientNumber client = (1 ≤ client) × (client ≤ most_clients)
