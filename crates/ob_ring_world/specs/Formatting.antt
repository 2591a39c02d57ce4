-- A format of a ring store, and a crash inside it, as the beginning of a world.
use Rattle.std.specs.Prelude.{◌≡◌, ◌⊎◌, ℕ, ◌+◌, List, length}
use Rattle.ob_base.specs.declared.params.Params.{Params}
use Rattle.ob_tables.specs.Rank.{IsRanking}
use Rattle.ob_store.specs.Calls.{Notes}
use Rattle.ob_store.specs.Disk.{Disk, Image}
use Rattle.ob_store.specs.Images.{LeavesOnly}
use Rattle.ob_store.specs.Told.{events_of}
use Rattle.ob_schedule.specs.Schedule.{format_notes}
use Rattle.ob_seal.specs.declared.keys.Keys.{Keys}
use Rattle.ob_start.specs.Heads.{head_cell}
use Rattle.ob_start.specs.Laying.{HasNoHead, IsTornHead}
use Rattle.ob_recover.specs.Life.{WordId}
use Rattle.ob_opening.specs.Formats.{RingFormatLeaves, drawn_ranks, format_words}
use Rattle.ob_opening.specs.OpeningActs.{AreSlotsIn}
use Rattle.ob_stand.specs.Fresh.{fresh_content}
use Rattle.ob_vault.specs.Formats.{MakesEmpty, beginning}
use Rattle.ob_vault.specs.Lives.{RingFormatted}
use Rattle.ob_vault.specs.RingKind.{ring_kind, ring_version}
use Rattle.ob_ring_world.specs.Pasts.{IsWholeRow, format_row}
use Rattle.ob_ring_world.specs.Runs.{BeginsWorld, Formats, FormatsPartly, left_by_format}

-- the row of all that a format calls its store for
abbrev pub whole_format : Params → ℕ
whole_format p = length (events_of (format_notes p))

-- A format that returned begins a world in each image that it may have left; and its row is whole, and is what its store was called for.
abbrev pub FormatsBeginWorlds : {S : Type 0} → (S → Disk) → Type 0
FormatsBeginWorlds {S} disk = (keys : Keys) (p : Params) (drawn : List ℕ) (word_of : WordId → ℕ) (old made : S) (formatted : RingFormatted keys p drawn (disk made)) → (disk old).tells → MakesEmpty ring_kind keys p (disk old) (disk made)
    → BeginsWorld keys p word_of formatted.slot (left_by_format (disk made) Formats) beginning × IsWholeRow p (format_row p (whole_format p)) × Notes (format_row p (whole_format p)).events (disk old).seen (disk made).seen

-- In one life, whatever words the tapes will give, a world begins in this image: the slots of a bucket's indexes are the ranks of its words.
abbrev pub BeginsIn : Keys → Params → (drawn : List ℕ) → Disk → Image → Type 0
BeginsIn keys p drawn made image = (slot : ℕ → ℕ → ℕ) × ((u : ℕ) → IsRanking (p.real + p.dummies) (slot u)) × AreSlotsIn p (fresh_content p (drawn_ranks p drawn)) slot
    × ((word_of : WordId → ℕ) → BeginsWorld keys p word_of slot (left_by_format made (FormatsPartly image)) beginning)

-- It is the store before, but for its head; or no store; or, where its head is whole, a new one.
abbrev pub IsLeftInFormat : Keys → Params → (drawn : List ℕ) → Disk → Image → Type 0
IsLeftInFormat keys p drawn old image = IsTornHead old image ⊎ HasNoHead image ⊎ (image 0 ≡ head_cell keys ring_version p → BeginsIn keys p drawn old image)

-- So it is of each image that a crash leaves at any moment of a format, which drew a word for each index of each bucket.
abbrev pub FormatsMomentByMoment : {S : Type 0} → (S → Disk) → Type 0
FormatsMomentByMoment {S} disk = (keys : Keys) (p : Params) (drawn : List ℕ) (old new : S) → length drawn ≡ format_words p → LeavesOnly (disk old) (disk new) (RingFormatLeaves keys p drawn (disk old)) → LeavesOnly (disk old) (disk new) (IsLeftInFormat keys p drawn (disk old))
