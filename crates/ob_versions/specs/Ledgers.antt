-- Private: the works of an epoch with the index of their versions.
use Rattle.std.specs.Prelude.{ℕ, suc, ◌≡◌, ◌<◌, ◌≤◌, List, [], length, true, false, slice_get}
use Rattle.std.specs.declared.option.Option.{Option}
use Rattle.std.specs.declared.option.Option.TheVariants.{Some}
use Rattle.std.specs.HashMap as hash
use Rattle.ob_order.specs.Works.{Get, Work, at_ticket, waiting_at, mark, source_of, newest}
use Rattle.ob_order.specs.Order.{count_below}
use Rattle.ob_order.specs.Chains.{Sourced}
use Rattle.ob_key_versions.specs.declared.chain.Chain.{Chain}
use Rattle.ob_key_versions.specs.Tables.{link_at, base_mark, has_links, is_reader}
use Rattle.ob_key_versions.specs.Agendas.{AgendaModel, has_ticket}
use Rattle.ob_versions.specs.Index.{IsIndex}

-- what callers see of a ledger: the number of keys, and the works by ticket
pub record LedgerModel : Type 0 where
  pub keys : ℕ
  pub works : List Work

-- who has read a ticket's version of a key, or waits for the key, is among its readers, and these were drawn
pub record HasReaders {S : Type 0} (ws : List Work) (m : hash.HashMap ℕ Chain S) : Type 0 where
  pub gets : (u : ℕ) (w : Work) → slice_get ws u ≡ Some w → (i k : ℕ) (r : Option (List ℕ)) (s : ℕ) → slice_get w.ops i ≡ Some (Get k r s) → 0 < s → is_reader m k (suc u) ≡ true
  pub waits : (t k : ℕ) → waiting_at ws t ≡ Some k → is_reader m k t ≡ true
  pub drawn : (k t : ℕ) → is_reader m k t ≡ true → (0 < t) × (t ≤ length ws)

-- no readers went, and none came but this one
pub record NotesReader {S : Type 0} (m n : hash.HashMap ℕ Chain S) (t : ℕ) : Type 0 where
  pub kept : (k u : ℕ) → is_reader m k u ≡ true → is_reader n k u ≡ true
  pub came : (k u : ℕ) → is_reader n k u ≡ true → is_reader m k u ≡ false → u ≡ t

-- the chains are those of the works, and so many keys have versions
pub record IsLedger {S : Type 0} (keys written : ℕ) (ws : List Work) (m : hash.HashMap ℕ Chain S) : Type 0 where
  pub index : IsIndex ws (λ k t. link_at m k t) (λ k. base_mark m k)
  pub sourced : Sourced ws
  pub counted : written ≡ count_below (has_links m) keys
  pub readers : HasReaders ws m

-- the mark of what a write by ticket t would cover
abbrev pub covered_mark : List Work → ℕ → ℕ → ℕ
covered_mark ws t k = mark ws k (source_of (newest ws t k))

-- each above ticket n that has read what ticket s wrote is one of these
abbrev pub ReadersIn : List Work → List ℕ → ℕ → ℕ → Type 0
ReadersIn ws tickets s n = (u : ℕ) (w : Work) → at_ticket ws u ≡ Some w → (i k : ℕ) (r : Option (List ℕ)) → slice_get w.ops i ≡ Some (Get k r s) → n < u → has_ticket tickets u ≡ true

-- ticket u was drawn after ticket t
abbrev pub IsAbove : ℕ → List Work → ℕ → Type 0
IsAbove t ws u = (t < u) × (u ≤ length ws)

-- the agenda is empty, with room for all tickets
abbrev pub IsReadyAgenda : List Work → AgendaModel → Type 0
IsReadyAgenda ws agenda = (length ws ≤ agenda.room) × (agenda.tickets ≡ [])
