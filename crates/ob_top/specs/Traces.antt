-- What a trace's sink has been written.
use Rattle.std.specs.Prelude.{ℕ, ◌≡◌, false, List, ◌++◌}
use Rattle.ob_io.specs.Flows.{appended}
use Rattle.ob_io.specs.Streams.{Flow}
use Rattle.ob_report.specs.Printed.{IsPrinted}
use Rattle.ob_store.specs.Lines.{AddsOnly, Shows, Trace, lines_of}
use Rattle.ob_store.specs.declared.watch.Note.{Note}
use Rattle.ob_top.specs.Outside.{TellsTrace}

-- A text was written to the sink of a watch that tells this behind it; or a front of the text, where the sink's count rose. Where the watch
-- is whole it is all of it.
pub record HasText (text : List ℕ) (before after : Flow) (told : Trace) : Type 0 where
  pub printed : IsPrinted before after text
  pub all : told.broken ≡ false → after.bytes ≡ appended before.bytes text

-- A first line and then these notes' lines were.
abbrev pub TracesArePrinted : Type 0
TracesArePrinted = (first : List ℕ) (notes : List Note) (before after : Flow) (s t u : Trace) → TellsTrace before s → s.broken ≡ false → AddsOnly first s t → t.broken ≡ false
    → Shows notes t u → TellsTrace after u → HasText (first ++ lines_of notes) before after u

-- So were a first line, the lines of these notes and of others behind them: those of an opening and of what was served.
abbrev pub RunsArePrinted : Type 0
RunsArePrinted = (first : List ℕ) (notes others : List Note) (before after : Flow) (s t midway u : Trace) → TellsTrace before s → s.broken ≡ false → AddsOnly first s t → t.broken ≡ false
    → Shows notes t midway → Shows others midway u → TellsTrace after u → HasText (first ++ lines_of (notes ++ others)) before after u
