-- Where the numbers in the tables come from over an epoch: they are kept ones, or those of the running generation.
use Rattle.std.specs.Prelude.{◌≡◌, ◌⊎◌, ℕ, ◌<◌, ◌≤◌, ◌^◌, List, length, Option}
use Rattle.std.specs.declared.option.Option.TheVariants.{Some}
use Rattle.ob_base.specs.declared.params.Params.{Params}
use Rattle.ob_base.specs.declared.value.Write.{Write}
use Rattle.ob_base.specs.Tree.{buckets}
use Rattle.ob_tables.specs.Version.{Version}
use Rattle.ob_tables.specs.Buckets.{Buckets, version_at}
use Rattle.ob_tables.specs.Content.{Content, FitsBook, FitsSeals}
use Rattle.ob_tables.specs.declared.entry.Entry.{Entry}
use Rattle.ob_tables.specs.Kept.{entry_at}
use Rattle.ob_ring.specs.Fetching.{after_labels, places_of}
use Rattle.ob_ring.specs.Filling.{AreSealedAnew}
use Rattle.ob_ring.specs.Picked.{SameSeals}
use Rattle.ob_ring.specs.Writing.{entries_after, writes_of}

-- no number in the tables is of a later generation
pub record IsKnown (c : Content) (g : ℕ) : Type 0 where
  pub entries : (k : ℕ) (e : Entry) → entry_at c.book k ≡ Some e → e.generation ≤ g
  pub seals : (u : ℕ) → (version_at c.versions u).generation ≤ g

-- an entry that this generation gives
pub record IsOwnEntry (p : Params) (g : ℕ) (e : Entry) : Type 0 where
  pub under : e.generation ≡ g
  pub index : e.index < 2 ^ 64
  pub leaf : e.leaf < 2 ^ p.levels

-- each entry is the key's of before, or this generation's
abbrev pub RenewsBook : Params → ℕ → List (Option Entry) → List (Option Entry) → Type 0
RenewsBook p g old new = (k : ℕ) (e : Entry) → entry_at new k ≡ Some e → (entry_at old k ≡ Some e) ⊎ IsOwnEntry p g e

-- an entry that this generation gives, or an earlier one
pub record IsKnownEntry (p : Params) (g : ℕ) (e : Entry) : Type 0 where
  pub under : e.generation ≤ g
  pub index : e.index < 2 ^ 64
  pub leaf : e.leaf < 2 ^ p.levels

-- each entry is the key's of before, or one of this generation or of an earlier one: that of a batch that was begun before a crash
abbrev pub KnowsBook : Params → ℕ → List (Option Entry) → List (Option Entry) → Type 0
KnowsBook p g old new = (k : ℕ) (e : Entry) → entry_at new k ≡ Some e → (entry_at old k ≡ Some e) ⊎ IsKnownEntry p g e

pub record IsSealedAs (old new : Version) : Type 0 where
  pub generation : new.generation ≡ old.generation
  pub base : new.base ≡ old.base

pub record IsSealedIn (g : ℕ) (v : Version) : Type 0 where
  pub under : v.generation ≡ g
  pub base : v.base < 2 ^ 64

-- each version is sealed as before, or in this generation
abbrev pub RenewsSeals : ℕ → List Version → List Version → Type 0
RenewsSeals g old new = (u : ℕ) → IsSealedAs (version_at old u) (version_at new u) ⊎ IsSealedIn g (version_at new u)

-- Of the planner's calls, by what each of them says of the book and of the buckets.
pub record StepsRenew : Type 0 where
  pub batch : (p : Params) (old new : List (Option Entry)) (asks : List (Option ℕ)) (words : List ℕ) (first : ℕ × ℕ) (n : ℕ)
      → ((k : ℕ) → entry_at new k ≡ after_labels (λ i. entry_at old i) (places_of p asks words first n) k) → RenewsBook p first.0 old new
  pub writes : (p : Params) (old new : List (Option Entry)) (writes : List Write) (words : List ℕ) (first : ℕ × ℕ) (n : ℕ)
      → ((k : ℕ) → entry_at new k ≡ entries_after (λ i. entry_at old i) (writes_of p writes words first n) k) → RenewsBook p first.0 old new
  pub seals : (old new : Buckets) (g : ℕ) → SameSeals old new → RenewsSeals g old.versions new.versions
  pub refill : (p : Params) (old new : Buckets) (words : List ℕ) (first : ℕ × ℕ) → AreSealedAnew p old new words first (length old.order)
      → RenewsSeals first.0 old.versions new.versions
  -- and of one call behind another
  pub books : (p : Params) (g : ℕ) (a b c : List (Option Entry)) → RenewsBook p g a b → RenewsBook p g b c → RenewsBook p g a c
  pub versions : (g : ℕ) (a b c : List Version) → RenewsSeals g a b → RenewsSeals g b c → RenewsSeals g a c
  -- what this generation gives is known in it
  pub knows : (p : Params) (g : ℕ) (a b c : List (Option Entry)) → KnowsBook p g a b → RenewsBook p g b c → KnowsBook p g a c

-- So they stay in their fields, and known.
pub record RenewedFit : Type 0 where
  pub book : (p : Params) (g : ℕ) (old new : List (Option Entry)) → g < 2 ^ 64 → length new ≡ p.keys → FitsBook p old → KnowsBook p g old new → FitsBook p new
  pub seals : (p : Params) (g : ℕ) (old new : List Version) → g < 2 ^ 64 → RenewsSeals g old new
      → ((u : ℕ) → u < buckets p → FitsSeals (version_at old u)) → (u : ℕ) → u < buckets p → FitsSeals (version_at new u)
  pub known : (p : Params) (g : ℕ) (old new : Content) → KnowsBook p g old.book new.book → RenewsSeals g old.versions new.versions → IsKnown old g → IsKnown new g
  pub later : (c : Content) (g h : ℕ) → g ≤ h → IsKnown c g → IsKnown c h
