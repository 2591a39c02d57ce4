-- What an end makes of the planner's tables, once its final lifts were read.
use Rattle.std.specs.Prelude.{◌≡◌, ℕ, ◌+◌, ◌*◌, ◌<◌, ◌≤◌, ◌^◌, List, take, drop, length, Result, Ok, Err}
use Rattle.ob_base.specs.declared.fault.Fault.{Fault}
use Rattle.ob_base.specs.declared.fault.Fault.TheVariants as fault
use Rattle.ob_base.specs.declared.value.Write.{Write}
use Rattle.ob_base.specs.Layout.{checkpoint_cells}
use Rattle.ob_base.specs.Tree.{width}
use Rattle.ob_fetch.specs.Fetches.{words_since}
use Rattle.ob_ring.specs.Filling.{AreSealedAnew, HasJustStashRows}
use Rattle.ob_ring.specs.FlatTable.{FlatTable, Refill, Writes, after}
use Rattle.ob_ring.specs.Picked.{SameSeals}
use Rattle.ob_ring.specs.Ring.{AreListedWithin, IsListed, IsRing, Kept, StandsFor}
use Rattle.ob_ring.specs.Writing.{entries_after, leaf_writes, values_after, writes_of}
use Rattle.ob_tables.specs.Kept.{entry_at}
use Rattle.ob_tables.specs.declared.entry.Entry.{Entry}

-- It stands for a table, and its stash has a row of each key that lies in no bucket, and no other rows.
pub record HasItsRows (r : Kept) : Type 0 where
  pub table : FlatTable
  pub stands : StandsFor r table
  pub rows : HasJustStashRows table (r.stash).rows

-- the words of the listed buckets, as many as each has slots
abbrev pub refill_words : Kept → ℕ
refill_words r = length (r.metas).order * width r.p

-- the words that an end draws
abbrev pub end_words : Kept → ℕ
end_words r = (r.p).writes + refill_words r

-- the seals that it makes: of each slot of the listed buckets, and of the checkpoint
abbrev pub end_seals : Kept → ℕ
end_seals r = refill_words r + checkpoint_cells r.p

-- those of the words drawn that the writes take, and those that the buckets take
abbrev pub own_words : Kept → List ℕ → List ℕ → List ℕ
own_words r old new = take (r.p).writes (words_since old new)

abbrev pub bucket_words : Kept → List ℕ → List ℕ → List ℕ
bucket_words r old new = drop (r.p).writes (words_since old new)

-- the epoch's writes, each with the entry that its place gives: the word's id is the generation and the word's place
abbrev pub renewed_writes : Kept → List Write → (words : List ℕ) → (generation drawn : ℕ) → List (Write × Entry)
renewed_writes r writes words generation drawn = writes_of r.p writes words (generation, drawn) (length writes)

-- the table before the refill
abbrev pub table_behind_writes : Kept → List (Write × Entry) → FlatTable → FlatTable
table_behind_writes r ws t = after r.p t (Writes (leaf_writes ws))

-- The writes were made.
pub record AreMade (ws : List (Write × Entry)) (old new : Kept) : Type 0 where
  pub kept : new ≡ record old { book = new.book; metas = new.metas; stash = new.stash }
  pub room : (new.stash).room ≡ (old.stash).room
  pub entries : (k : ℕ) → entry_at new.book k ≡ entries_after (λ i. entry_at old.book i) ws k
  pub values : (new.stash).rows ≡ values_after (old.stash).rows ws
  pub seals : SameSeals old.metas new.metas
  pub listed : IsListed new
  pub rules : IsRing new
  pub table : (t : FlatTable) → StandsFor old t → StandsFor new (table_behind_writes old ws t)

-- The listed buckets were filled anew, their slots the ranks of these words, sealed from this number on.
pub record AreRefilled (words : List ℕ) (generation next : ℕ) (old new : Kept) : Type 0 where
  pub kept : new ≡ record old { metas = new.metas }
  pub order : (new.metas).order ≡ (old.metas).order
  pub within : AreListedWithin new
  pub rules : IsRing new
  pub anew : AreSealedAnew old.p old.metas new.metas words (generation, next) (length (old.metas).order)
  pub table : (t : FlatTable) → StandsFor old t → StandsFor new (after old.p t Refill)

-- The writes with the first words, and then the buckets with the rest.
pub record Renews (writes : List Write) (words : List ℕ) (generation drawn next : ℕ) (old new : Kept) : Type 0 where
  pub between : Kept
  pub made : AreMade (renewed_writes old writes (take (old.p).writes words) generation drawn) old between
  pub filled : AreRefilled (drop (old.p).writes words) generation next between new

-- What is answered: how many rows are left in the stash, before the seals are counted.
abbrev pub RenewAnswers : (size room next seals : ℕ) → Result (Unit {0}) Fault → Type 0
RenewAnswers size room next seals (Ok done) = (size ≤ room) × (next + seals ≤ 2 ^ 62)
RenewAnswers size room next seals (Err (fault.StashFull rows)) = (rows ≡ size) × (room < size)
RenewAnswers size room next seals (Err (fault.Worn number)) = (number ≡ 2 ^ 62) × (size ≤ room) × (2 ^ 62 < next + seals)
RenewAnswers size room next seals (Err _) = ⊥
