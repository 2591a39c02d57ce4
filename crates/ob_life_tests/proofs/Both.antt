-- The headline of a run behind a format, and of a run on what a crash left behind that.
use Rattle.std.proofs.Common.{ℕ, inl}
use Rattle.ob_base.specs.declared.params.Params.{Params}
use Rattle.ob_recover.specs.Life.{WordId}
use Rattle.ob_seal.specs.declared.keys.Keys.{Keys}
use Rattle.ob_store.specs.Disk.{Disk}
use Rattle.ob_store.specs.Images.{IsSynced}
use Rattle.ob_top.specs.Again.{CrashesStand, FormatsStand, new_past}
use Rattle.ob_top.specs.Formats.{IsFormatted}
use Rattle.ob_top.specs.Outside.{Given}
use Rattle.ob_top.specs.Pasts.{PastLife, with_acts}
use Rattle.ob_vault.specs.Acts.{AreTapeWords}
use Rattle.ob_vault.specs.Formats.{beginning}
use Rattle.ob_vault.specs.RingLives.{ring_lives}
use Rattle.ob_top.specs.Audited.{ring_audits}
use Rattle.ob_vault.specs.RingKind.{ring_kind}
use Rattle.ob_life_tests.specs.Held.{HasHeadline, HeadlinesHold, KeepsToHeadline}

-- a tape that gave the words of its generation
abbrev IsOfWords : (WordId → ℕ) → Given → Type 0
IsOfWords word_of tape = AreTapeWords word_of tape.generation tape.words

module _ {S : Type 0} (disk : S → Disk) (keys : Keys) (p : Params) (made_by first_by second_by : Given) (blank made ran left new : S) (word_of : WordId → ℕ) where
  pub both_held : FormatsStand disk → CrashesStand disk → IsFormatted ring_kind ring_lives ring_audits disk made_by keys p blank made → (disk blank).tells → (disk made).leaves → IsOfWords word_of made_by
      → KeepsToHeadline disk keys first_by made ran → IsOfWords word_of first_by
      → (disk ran).may_leave (disk left).cells → IsSynced (disk left) → (disk left).tells → (disk left).leaves
      → KeepsToHeadline disk keys second_by left new → IsOfWords word_of second_by → HeadlinesHold disk keys p word_of first_by second_by made ran left new
  both_held formats crashes is told leaves_made made_words first_holds first_words may sure told_left leaves_left second_holds second_words =
      let (slot, stood) = formats keys p made_by first_by blank made word_of is told leaves_made made_words first_words in
      let past : PastLife = new_past word_of slot in
      let first : HasHeadline disk keys p beginning past first_by made ran = first_holds p beginning past stood in
      let (at, acts, again) = crashes keys p beginning past (record first.call { old = made; new = ran; tape = first_by; status = 0 }) first.run left second_by first.headline (inl may) sure told_left leaves_left second_words in
      record { slot = slot; first = first; at = at; acts = acts; second = second_holds p at (with_acts past acts) again }
