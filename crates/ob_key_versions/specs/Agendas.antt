-- Tickets to look at, in rising order.
use Rattle.std.specs.Prelude.{ℕ, ◌≡◌, ◌<◌, ◌≤◌, Bool, true, false, ◌==◌, List, [], ◌∷◌}
use Rattle.std.specs.List.{list_any}
use Rattle.std.specs.HashMap as hash
use Rattle.ob_key_versions.specs.Chains.{Chain}
use Rattle.ob_key_versions.specs.Tables.{is_reader}

-- what callers see of an agenda: up to which ticket it has room, and its tickets
pub record AgendaModel : Type 0 where
  pub room : ℕ
  pub tickets : List ℕ

-- whether ticket u is one of these
abbrev pub has_ticket : List ℕ → ℕ → Bool
has_ticket ts u = list_any (λ t. t == u) ts

-- rising numbers above the first bound, and none above the second
abbrev pub RisesBetween : ℕ → ℕ → List ℕ → Type 0
RisesBetween low high [] = low ≤ high
RisesBetween low high (t ∷ ts) = (low < t) × RisesBetween t high ts

-- tickets with this property came to an agenda, and none went
pub record Adds (old new : AgendaModel) (P : ℕ → Type 0) : Type 0 where
  pub kept : (u : ℕ) → has_ticket old.tickets u ≡ true → has_ticket new.tickets u ≡ true
  pub came : (u : ℕ) → has_ticket new.tickets u ≡ true → has_ticket old.tickets u ≡ false → P u
  pub room : old.room ≤ new.room

-- ticket u stands above ticket t, and is noted as a reader of some key
abbrev pub IsReaderAbove : {S : Type 0} → hash.HashMap ℕ Chain S → ℕ → ℕ → Type 0
IsReaderAbove m t u = (t < u) × ((k : ℕ) × (is_reader m k u ≡ true))
