-- An end right after the format of the small store, with words that are all 0, without batches and writes: the two eviction paths are
-- lifted and filled anew, and nothing else is done.
use Rattle.std.specs.Prelude.{◌≡◌, ℕ, Bool, true, false, List, [], ◌∷◌, replicate}
use Rattle.std.specs.declared.option.Option.TheVariants.{None}
use Rattle.std.specs.FinMap as finite
use Rattle.ob_base.specs.declared.params.Params.{Params}
use Rattle.ob_tables.specs.Version.{Version, EMPTY}
use Rattle.ob_tables.specs.Buckets.{Buckets}
use Rattle.ob_tables.specs.Content.{Rows}
use Rattle.ob_tables.specs.Spelling.{slot_bytes}
use Rattle.ob_ring.specs.Ring.{Kept}
use Rattle.ob_stand.specs.Carries.{Slots}
use Rattle.ob_stand.specs.Epochs.{before_refill}
use Rattle.ob_stand.specs.Runs.{Plains}
use Rattle.ob_stand.specs.ValueSamples.{numbers_of}
use Rattle.ob_stand.specs.Calls.{AreSlotsWritten, RefillsRing}
use Rattle.ob_stand.specs.Counts.{IsEndPublic, public_of}
use Rattle.ob_stand.specs.EpochEnds.{IsNext, IsRunFrom, RefillRun}
use Rattle.ob_stand.specs.ContentSamples.{end_version, format_version, formatted}
use Rattle.ob_stand.specs.Table.{flat_of}
use Rattle.ob_stand.specs.Valued.{content_with}

abbrev pub idle_order : List ℕ
idle_order = 3 ∷ 5 ∷ 1 ∷ 2 ∷ 0 ∷ []

-- the versions after the refill, whose first slot is sealed with number 0
abbrev pub idle_versions : List Version
idle_versions = end_version 20 (None ∷ None ∷ []) ∷ end_version 10 (None ∷ None ∷ []) ∷ end_version 15 (None ∷ None ∷ []) ∷ end_version 0 (None ∷ None ∷ [])
    ∷ format_version 4 ∷ end_version 5 (None ∷ None ∷ []) ∷ format_version 6 ∷ []

abbrev pub idle_lifted : List Bool
idle_lifted = true ∷ true ∷ true ∷ true ∷ false ∷ true ∷ false ∷ []

abbrev pub idle_run : RefillRun
idle_run = record {
  start = record { versions = formatted.versions; lifted = replicate 7 false; order = idle_order };
  before = record { versions = formatted.versions; lifted = idle_lifted; order = idle_order };
  filled = record { versions = idle_versions; lifted = replicate 7 false; order = idle_order };
  words = replicate 25 0;
  first = (2, 0);
}

-- the planner's ring with these buckets
abbrev pub idle_ring : Params → Buckets → Kept
idle_ring p s = record { p = p; book = formatted.book; metas = s; stash = record { rows = finite.empty; room = 8 }; counter = 2 }

-- every cell has the bytes of no row
abbrev pub no_rows : Plains
no_rows cell generation number = slot_bytes EMPTY []

-- it meets all that is asked of an end, and the content after it follows
pub record Idled : Type 0 where
  pub p : Params
  pub numbers : numbers_of p ≡ 8 ∷ 2 ∷ 2 ∷ 3 ∷ 2 ∷ 2 ∷ 2 ∷ 2 ∷ 8 ∷ []
  pub run : IsRunFrom p idle_run formatted formatted.book 2 [] []
  pub rows_then : Rows
  pub slots_then : Slots
  pub next : IsNext p formatted (content_with idle_run.filled formatted.book rows_then 2) slots_then (λ k. None) (λ k. None) 2 idle_order
  -- so it does of the public state, of the planner's refill, and of the cells that were written
  pub public : (gates : ℕ → Bool) → IsEndPublic p (public_of formatted 0 gates) (flat_of p formatted) [] idle_run.before idle_run.filled idle_run.words idle_run.first
      (content_with idle_run.filled formatted.book rows_then 2)
  pub ring : RefillsRing (idle_ring p idle_run.before) (idle_ring p idle_run.filled) idle_run.words idle_run.first (before_refill p (flat_of p formatted) [] [])
  pub cells : AreSlotsWritten (idle_ring p idle_run.filled) no_rows no_rows
