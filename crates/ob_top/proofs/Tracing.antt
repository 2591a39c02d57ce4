-- A trace whose first line broke its watch, or left it whole.
use Rattle.std.proofs.Common.{◌≡◌, true, false, Option, Some, refl, subst, inl, inr}
use Rattle.ob_conduct.specs.declared.run_err.RunErr.{RunErr}
use Rattle.ob_conduct.specs.declared.run_err.RunErr.TheVariants as failed
use Rattle.ob_desk.specs.Beats.{BeatKind}
use Rattle.ob_io.specs.Streams.{Flow}
use Rattle.ob_seal.specs.declared.keys.Keys.{Keys}
use Rattle.ob_store.specs.Disk.{Disk}
use Rattle.ob_store.specs.Lines.{AddsOnly, Trace, first_line}
use Rattle.ob_store.specs.declared.line.Start.{Start}
use Rattle.ob_words.specs.declared.work.Command.{Command}
use Rattle.ob_top.specs.Outside.{Given, Outside, TellsTrace}
use Rattle.ob_top.specs.Over.{TracedDoes, WatchedDoes, start_for}

-- nothing was done
pub broke_first : {S W : Type 0} (disk : S → Disk) (flow : W → Flow) (beat : BeatKind) (tape : Given) (command : Command) (keys : Keys) (old : S) (before : Outside) (was : Option W) (w v : W) (start t : Trace) (begun : Start) → AddsOnly (first_line begun) start t → begun ≡ start_for command
    → was ≡ Some w → TellsTrace (flow w) start → start.broken ≡ false → TellsTrace (flow v) t → t.broken ≡ true
    → TracedDoes disk flow beat tape command keys old old before before was (Some v) (Some failed.Unwatched) true
broke_first disk flow beat tape command keys old before was w v start t begun line is was_is tells whole told broken = inr (
  t,
  t,
  record { before = w; after = v; was_is = was_is; is_is = refl; start = start; tells = tells; whole = whole; line = subst (λ (x : Start). AddsOnly (first_line x) start t) is line; told = told },
  inl (broken, refl, (refl, refl, refl)),
)

-- the command was done under it
pub watched_on : {S W : Type 0} (disk : S → Disk) (flow : W → Flow) (beat : BeatKind) (tape : Given) (command : Command) (keys : Keys) (old new : S) (before after : Outside) (was : Option W) (w v : W) (start t u : Trace) (begun : Start) (err : Option RunErr)
    → AddsOnly (first_line begun) start t → begun ≡ start_for command → was ≡ Some w → TellsTrace (flow w) start → start.broken ≡ false → TellsTrace (flow v) u → t.broken ≡ false → WatchedDoes disk beat tape command keys old new before after t u err
    → TracedDoes disk flow beat tape command keys old new before after was (Some v) err true
watched_on disk flow beat tape command keys old new before after was w v start t u begun err line is was_is tells whole told unbroken does = inr (
  t,
  u,
  record { before = w; after = v; was_is = was_is; is_is = refl; start = start; tells = tells; whole = whole; line = subst (λ (x : Start). AddsOnly (first_line x) start t) is line; told = told },
  inr (unbroken, does),
)
