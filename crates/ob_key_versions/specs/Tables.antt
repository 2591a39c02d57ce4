-- The versions of all keys, as the code keeps them.
use Rattle.std.specs.Prelude.{ℕ, max, ◌≡◌, ◌<◌, Bool, false, nat_lt, nat_eq, ◌==◌, ◌&&◌, if◌then◌else◌, is_some, true}
use Rattle.std.specs.Option.{option_map, option_and_then, unwrap_or}
use Rattle.std.specs.declared.option.Option.{Option}
use Rattle.std.specs.declared.option.Option.TheVariants.{None, Some}
use Rattle.std.specs.HashMap as hash
use Rattle.ob_order.specs.Works.{Op, Get, Put, Del}
use Rattle.ob_key_versions.specs.Chains.{Link, Chain, link_in, links_in, has_reader}

-- read by this ticket too
abbrev pub raised : ℕ → Link → Link
raised reader l = record l { mark = max l.mark reader }

module _ {S : Type 0} where
  -- key k's versions
  abbrev pub chain_at : hash.HashMap ℕ Chain S → ℕ → Option Chain
  chain_at m k = hash.get nat_eq m k

  -- ticket t's version of key k
  abbrev pub link_at : hash.HashMap ℕ Chain S → ℕ → ℕ → Option Link
  link_at m k t = option_and_then (λ c. link_in c t) (chain_at m k)

  -- the mark of the value that the epoch began with
  abbrev pub base_mark : hash.HashMap ℕ Chain S → ℕ → ℕ
  base_mark m k = unwrap_or (option_map (λ c. c.base_mark) (chain_at m k)) 0

  -- whether key k has versions
  abbrev pub has_links : hash.HashMap ℕ Chain S → ℕ → Bool
  has_links m k = unwrap_or (option_map (λ c. nat_lt 0 (links_in c)) (chain_at m k)) false

  -- whether ticket u is noted as a reader of key k
  abbrev pub is_reader : hash.HashMap ℕ Chain S → ℕ → ℕ → Bool
  is_reader m k u = unwrap_or (option_map (λ c. has_reader c u) (chain_at m k)) false

  -- the same versions
  abbrev pub SameLinks : hash.HashMap ℕ Chain S → hash.HashMap ℕ Chain S → Type 0
  SameLinks m n = (k t : ℕ) → link_at n k t ≡ link_at m k t

  -- the same marks of the values that the epoch began with
  abbrev pub SameBases : hash.HashMap ℕ Chain S → hash.HashMap ℕ Chain S → Type 0
  SameBases m n = (k : ℕ) → base_mark n k ≡ base_mark m k

  -- the same keys have versions
  abbrev pub SameKeys : hash.HashMap ℕ Chain S → hash.HashMap ℕ Chain S → Type 0
  SameKeys m n = (k : ℕ) → has_links n k ≡ has_links m k

  -- the same readers
  abbrev pub SameReaders : hash.HashMap ℕ Chain S → hash.HashMap ℕ Chain S → Type 0
  SameReaders m n = (k u : ℕ) → is_reader n k u ≡ is_reader m k u

  -- a key that had room for its versions has it still
  abbrev pub KeepsChainRoom : hash.HashMap ℕ Chain S → hash.HashMap ℕ Chain S → Type 0
  KeepsChainRoom m n = (k : ℕ) → is_some (chain_at m k) ≡ true → is_some (chain_at n k) ≡ true

  -- what ticket s wrote of key k was read by this reader too, or the value that the epoch began with where s is 0
  pub record IsMarkRaised (m n : hash.HashMap ℕ Chain S) (k s reader : ℕ) : Type 0 where
    pub from_write : 0 < s → ((j u : ℕ) → link_at n j u ≡ (if (k == j) && (s == u) then option_map (raised reader) (link_at m j u) else link_at m j u)) × SameBases m n
    pub from_base : s ≡ 0 → SameLinks m n × ((j : ℕ) → base_mark n j ≡ (if k == j then max (base_mark m j) reader else base_mark m j))

-- the key that an operation writes
abbrev pub key_of : Op ℕ → Option ℕ
key_of (Get k r s) = None
key_of (Put k v) = Some k
key_of (Del k) = Some k
