-- Lines and the texts that whoever shows them writes.
use Rattle.std.specs.Prelude.{◌≡◌, ◌≤◌, ◌↔◌, ℕ, ◌^◌, List, [], ◌∷◌, length, Option, Some}
use Rattle.std.specs.List.{flat_map}
use Rattle.ob_store.specs.Lines.{line_of, start_line, open_line}
use Rattle.ob_schedule.specs.declared.line.Line.{Line}
use Rattle.ob_schedule.specs.declared.line.Line.TheVariants as L
use Rattle.ob_schedule.specs.Follow.{Follow}
use Rattle.ob_audit.specs.Spelling.{IsNoteInRange}
use Rattle.ob_audit.specs.declared.verdict.Audit.{Audit}
use Rattle.ob_audit.specs.declared.verdict.Audit.TheVariants.{Fits}
use Rattle.ob_audit.specs.Traces.{lines_in, TakesNext, Admitted, FitsWhole, IsVerdict}
use Rattle.ob_histories.specs.Laws.{AreAdmitted}

-- a line's text and its line feed
abbrev pub with_feed : Line → List ℕ
with_feed (L.Start p) = start_line p
with_feed (L.Open mirrored) = open_line mirrored
with_feed (L.Note note) = line_of note
with_feed L.Bad = []

-- lines that are written, with labels and cells below 2^64
abbrev pub HaveTexts : List Line → Type 0
HaveTexts [] = Unit {0}
HaveTexts (L.Start p ∷ lines) = HaveTexts lines
HaveTexts (L.Open mirrored ∷ lines) = HaveTexts lines
HaveTexts (L.Note note ∷ lines) = IsNoteInRange note × HaveTexts lines
HaveTexts (L.Bad ∷ lines) = ⊥

-- each line may stand next, behind those before it or behind none
abbrev pub TakesAll : Option Follow → List Line → Option Follow → Type 0
TakesAll known [] last = last ≡ known
TakesAll known (line ∷ lines) last = (next : Follow) × TakesNext known line next × TakesAll (Some next) lines last

-- An auditor admits the texts exactly where the lines are admitted. Lines that are admitted are written, and it answers that their texts fit, as far
-- as it looks at them all; and to what fits it answers nothing else.
pub record LinesAreAdmitted : Type 0 where
  pub texts : (known last : Option Follow) (lines : List Line) → HaveTexts lines → Admitted known (lines_in (flat_map with_feed lines)) last ↔ TakesAll known lines last
  pub written : (lines : List Line) → AreAdmitted lines → HaveTexts lines
  pub fits : (lines : List Line) → AreAdmitted lines → length (flat_map with_feed lines) ≤ 2 ^ 32 → FitsWhole (2 ^ 32) (flat_map with_feed lines)
  pub alone : (limit : ℕ) (input : List ℕ) (audit : Audit) → FitsWhole limit input → IsVerdict limit input audit → audit ≡ Fits
