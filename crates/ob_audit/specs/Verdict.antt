-- What an audit writes.
use Rattle.std.specs.Prelude.{ℕ, List, [], ◌∷◌, ◌++◌, codes, decimal}
use Rattle.ob_schedule.specs.declared.line.Wanted.{Wanted}
use Rattle.ob_schedule.specs.declared.line.Wanted.TheVariants as W
use Rattle.ob_audit.specs.declared.verdict.Audit.{Audit}
use Rattle.ob_audit.specs.declared.verdict.Audit.TheVariants.{Fits, Breaks}
use Rattle.ob_audit.specs.Spelling.{note_text}

abbrev pub wanted_text : Wanted → List ℕ
wanted_text W.Start = codes "start"
wanted_text W.Label = codes "label"
wanted_text (W.Slot bucket) = codes "slot of bucket " ++ decimal bucket
wanted_text (W.Line note) = note_text note
wanted_text (W.LabelOr cell) = codes "label or W " ++ decimal cell
wanted_text (W.Either first second) = (codes "R " ++ decimal first) ++ (codes " or R " ++ decimal second)
wanted_text (W.EitherWrite gate body) = (codes "W " ++ decimal gate) ++ (codes " or W " ++ decimal body)
wanted_text W.End = codes "end"

-- `fits`, or `breaks line N wanted W`, and a line feed
abbrev pub verdict_text : Audit → List ℕ
verdict_text Fits = codes "fits\n"
verdict_text (Breaks line wanted found) = (codes "breaks line " ++ decimal line) ++ (codes " wanted " ++ (wanted_text wanted ++ 10 ∷ []))
