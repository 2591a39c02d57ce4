-- What is read of an image that stands, and the end that an epoch's run leads to.
use Rattle.std.specs.Prelude.{◌≡◌, ℕ, List, length, take, drop, Option}
use Rattle.ob_base.specs.declared.params.Params.{Params}
use Rattle.ob_base.specs.declared.job.Job.{Job}
use Rattle.ob_base.specs.declared.value.Write.{Write}
use Rattle.ob_store.specs.Disk.{Image}
use Rattle.ob_seal.specs.declared.keys.Keys.{Keys}
use Rattle.ob_seal.specs.Pads.{pad_of, xored}
use Rattle.ob_seal.specs.Seals.{sealed}
use Rattle.ob_tables.specs.Content.{Content, Rows}
use Rattle.ob_tables.specs.declared.entry.Entry.{Entry}
use Rattle.ob_stand.specs.Values.{with_entries}
use Rattle.ob_stand.specs.Carries.{Slots}
use Rattle.ob_stand.specs.Epochs.{Read, IsEpoch}
use Rattle.ob_stand.specs.Runs.{Plains, slots_of}
use Rattle.ob_stand.specs.EpochEnds.{RefillRun, IsRunFrom}
use Rattle.ob_stand.specs.Table.{flat_of}
use Rattle.ob_stand.specs.Valued.{IsValued, content_with}
use Rattle.ob_stand.specs.Ends.{RingEnd, IsEndOf}
use Rattle.ob_stand.specs.Stands.{RingStanding, Stands}

-- what the cells of an image hold, opened under a generation and a number
abbrev pub plains_in : Keys → Image → Plains
plains_in keys image cell generation number = xored (take 96 (drop 16 (image cell))) (pad_of keys.seal generation number)

-- a sealed cell holds its plain bytes
abbrev pub SealedAreOpened : Type 0
SealedAreOpened = (keys : Keys) (image : Image) (cell generation number : ℕ) (plain : List ℕ) → length plain ≡ 96 → image cell ≡ sealed keys cell generation number plain
    → plains_in keys image cell generation number ≡ plain

-- the slots of the content's versions, as the image holds them
abbrev pub slots_in : Keys → Params → Content → Image → Slots
slots_in keys p content image = slots_of p content.versions (plains_in keys image)

-- so the slots that the image holds have the map's values
abbrev pub StandsValued : Type 0
StandsValued = (keys : Keys) (p : Params) (s : RingStanding) (image : Image) → Stands keys p s image → IsValued s.content (slots_in keys p s.content image) s.map

-- the end that a run of the planner's calls leads to
abbrev pub end_of_run : RingStanding → RefillRun → List (Option Entry) → Rows → ℕ → Slots → List (Write × Entry) → RingEnd
end_of_run s r book rows counter slots ws =
    record { content = content_with r.filled book rows counter; map = with_entries s.map ws; slots = slots; order = (r.before).order }

-- From an image that stands: a run of the planner's calls, which read the image's slots and sealed in its generation, leads to an end.
abbrev pub RunsEnd : Type 0
RunsEnd = (keys : Keys) (p : Params) (s : RingStanding) (image : Image) (r : RefillRun) (slots : Slots) (bs : List Read) (js : List Job) (ws : List (Write × Entry)) (book : List (Option Entry)) (rows : Rows) (counter : ℕ)
    → Stands keys p s image → (r.first).0 ≡ s.generation → IsEpoch p (flat_of p s.content) s.content.rows rows (slots_in keys p s.content image) slots bs js ws
    → IsRunFrom p r s.content book counter bs ws → IsEndOf p s (end_of_run s r book rows counter slots ws)
