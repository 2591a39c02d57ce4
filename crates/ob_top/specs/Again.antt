-- That the headline's premises are met: behind a format, and again behind each run.
use Rattle.std.specs.Prelude.{ℕ, ◌≡◌, List, [], None}
use Rattle.ob_base.specs.declared.params.Params.{Params}
use Rattle.ob_recover.specs.Life.{LifeAct, WordId}
use Rattle.ob_seal.specs.declared.keys.Keys.{Keys}
use Rattle.ob_serial.specs.Vaults.{Standing}
use Rattle.ob_store.specs.Disk.{Disk}
use Rattle.ob_store.specs.Images.{IsImageOf, IsSynced}
use Rattle.ob_vault.specs.Acts.{AreTapeWords}
use Rattle.ob_vault.specs.Formats.{beginning}
use Rattle.ob_vault.specs.RingLives.{ring_lives}
use Rattle.ob_top.specs.Audited.{ring_audits}
use Rattle.ob_vault.specs.RingKind.{ring_kind}
use Rattle.ob_top.specs.Calls.{RunCall}
use Rattle.ob_top.specs.Formats.{IsFormatted}
use Rattle.ob_top.specs.Headline.{Headline, RunTold, Stood}
use Rattle.ob_top.specs.Outside.{Given}
use Rattle.ob_top.specs.Pasts.{PastLife, with_acts}

-- nothing was done since the format, which gave these slots
abbrev pub new_past : (WordId → ℕ) → (ℕ → ℕ → ℕ) → PastLife
new_past word_of slot = record { word_of = word_of; slot = slot; acts = [] }

module _ {S : Type 0} (disk : S → Disk) where
  -- A store that a format made stood, at the empty map, if its tape and the next run's gave the words of their generations.
  abbrev pub FormatsStand : Type 0
  FormatsStand = (keys : Keys) (p : Params) (made_by tape : Given) (old made : S) (word_of : WordId → ℕ) → IsFormatted ring_kind ring_lives ring_audits disk made_by keys p old made → (disk old).tells → (disk made).leaves
      → AreTapeWords word_of made_by.generation made_by.words → AreTapeWords word_of tape.generation tape.words → (slot : ℕ → ℕ → ℕ) × Stood disk keys p beginning (new_past word_of slot) tape made

  -- it stood again, behind more acts
  abbrev pub IsStoodAgain : Keys → Params → PastLife → (tape : Given) → S → Type 0
  IsStoodAgain keys p past tape left = (at : Standing) × (more : List LifeAct) × Stood disk keys p at (with_acts past more) tape left

  -- So did one that a run left of which the headline holds, if nothing cut it off, as it is.
  abbrev pub RunsStand : Type 0
  RunsStand = (keys : Keys) (p : Params) (at : Standing) (past : PastLife) (call : RunCall S) (run : RunTold S) (tape : Given) → Headline disk keys p at past call run → run.err ≡ None → AreTapeWords past.word_of tape.generation tape.words
      → IsStoodAgain keys p past tape call.new

  -- And whatever cut it off, one of which a crash left an image behind the run, or what reads gave.
  abbrev pub CrashesStand : Type 0
  CrashesStand = (keys : Keys) (p : Params) (at : Standing) (past : PastLife) (call : RunCall S) (run : RunTold S) (left : S) (tape : Given) → Headline disk keys p at past call run → IsImageOf (disk call.new) (disk left).cells → IsSynced (disk left)
      → (disk left).tells → (disk left).leaves → AreTapeWords past.word_of tape.generation tape.words → IsStoodAgain keys p past tape left
