-- Client shares: how many different keys the calls of one client may name in an epoch, and which they named.
use Rattle.std.specs.Prelude.{ℕ, ◌≡◌, ◌*◌, ◌≤◌, Bool, not, ◌&&◌, ◌==◌, if◌then◌else◌, List, [], ◌∷◌, ◌++◌}
use Rattle.std.specs.List.{list_any, count_by}
use Rattle.std.specs.declared.option.Option.{Option}
use Rattle.std.specs.declared.option.Option.TheVariants.{None, Some}
pub use Rattle.ob_shares.specs.declared.named.Named.{Named}
pub use Rattle.ob_shares.specs.declared.shares.Shares.{Shares}

-- no shares
abbrev pub no_shares : Shares
no_shares = record { reads = None; writes = None }

-- The keys that clients' gets named in an epoch, and those that their puts and deletes named: each once a client, in the order of naming.
pub record Uses : Type 0 where
  pub reads : List Named
  pub writes : List Named

-- nothing was named
abbrev pub none_used : Uses
none_used = record { reads = []; writes = [] }

-- whether it is this client's name of this key
abbrev pub is_name : ℕ → ℕ → Named → Bool
is_name client key named = (named.client == client) && (named.key == key)

-- whether the client named the key
abbrev pub has_named : List Named → ℕ → ℕ → Bool
has_named names client key = list_any (is_name client key) names

-- how many keys the client named
abbrev pub count_named : List Named → ℕ → ℕ
count_named names client = count_by (λ named. named.client == client) names

-- the share that the client would go past by naming the key, where it would: it named so many keys, and not this one
abbrev pub past : Option ℕ → List Named → ℕ → ℕ → Option ℕ
past None names client key = None
past (Some keys) names client key = if not (has_named names client key) && (count_named names client == keys) then Some keys else None

-- the names with this one, which is kept where there is a share
abbrev pub with_name : Option ℕ → List Named → ℕ → ℕ → List Named
with_name None names client key = names
with_name (Some keys) names client key = if has_named names client key then names else names ++ record { client = client; key = key } ∷ []

-- so many clients that keep to their shares name together no more keys than a read batch, and the write batch, has places
pub record AreFitting (shares : Shares) (clients read_places write_places : ℕ) : Type 0 where
  pub reads : (keys : ℕ) → shares.reads ≡ Some keys → clients * keys ≤ read_places
  pub writes : (keys : ℕ) → shares.writes ≡ Some keys → clients * keys ≤ write_places
