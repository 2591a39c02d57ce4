-- Private: a format, a run, a crash behind it and another run, as one life of their store.
use Rattle.std.specs.Prelude.{◌≡◌, ℕ, List, [], ◌∷◌, ◌++◌, map, None}
use Rattle.ob_base.specs.Repeats.{NoRepeats}
use Rattle.ob_base.specs.declared.params.Params.{Params}
use Rattle.ob_conduct.specs.Acts.{calls}
use Rattle.ob_pads.specs.Lives.{IsLife, StoreAct, answers_of, formatted_at, pads_of}
use Rattle.ob_pads.specs.Seals.{pads_from}
use Rattle.ob_fresh.specs.Drawn.{formatted_words, life_words}
use Rattle.ob_fresh.specs.Fresh.{WordsAreApart}
use Rattle.ob_recover.specs.Life.{WordId, formatted_life}
use Rattle.ob_seal.specs.declared.keys.Keys.{Keys}
use Rattle.ob_serial.specs.Serial.{EpochRecord}
use Rattle.ob_serial.specs.Vaults.{VaultAnswer}
use Rattle.ob_store.specs.Disk.{Disk}
use Rattle.ob_top.specs.Formats.{FormatDone}
use Rattle.ob_top.specs.Outside.{Given, Outside, blind}
use Rattle.ob_top.specs.Parts.{Manner}
use Rattle.ob_top.specs.Runs.{Ran, RunDone}
use Rattle.ob_vault.specs.Acts.{AreTapeWords}
use Rattle.ob_vault.specs.Joined.{AreGiven, IsOneLife, RunPart, Served}
use Rattle.ob_vault.specs.RingLives.{ring_lives}
use Rattle.ob_top.specs.Audited.{ring_audits}
use Rattle.ob_vault.specs.RingKind.{ring_kind}
use Rattle.ob_vault.specs.Shapes.{answered, refused}
use Rattle.ob_words.specs.Work.{AreKeys}
use Rattle.ob_life_tests.specs.Held.{HeadlinesHold, KeepsToHeadline}

module _ {S : Type 0} (disk : S → Disk) where
  -- a format under the keys of this text, without a trace, that answered 0, with what its tape gave
  pub record HasFormatted (text : List ℕ) (tape : Given) (old new : S) : Type 0 where
    pub keys : Keys
    pub are : AreKeys text keys
    pub p : Params
    pub before : Outside
    pub after : Outside
    pub done : FormatDone ring_kind ring_lives ring_audits disk tape keys p old new before after blind blind 0

  -- a run that answered 0
  pub record HasRun (text : List ℕ) (tape : Given) (old new : S) : Type 0 where
    pub keys : Keys
    pub are : AreKeys text keys
    pub by : Manner
    pub before : Outside
    pub after : Outside
    pub done : RunDone ring_kind ring_lives ring_audits disk by tape keys old new before after blind blind 0
    pub held : KeepsToHeadline disk keys tape old new

  -- a whole run, whose script came to its end
  pub record IsWholeRun (keys : Keys) (tape : Given) (old new : S) : Type 0 where
    pub by : Manner
    pub before : Outside
    pub after : Outside
    pub records : List (EpochRecord ℕ)
    pub ran : Ran ring_kind ring_lives ring_audits disk by tape keys old new before after blind blind records None

  module _ {keys : Keys} {tape : Given} {old new : S} (r : IsWholeRun keys tape old new) where
    -- it as a part of a life
    abbrev pub part_of : RunPart S
    part_of = Served (r.by).lanes old (r.ran).found (r.ran).between (answered (calls (r.ran).serving.is_served.served.evidence.acts)) (r.ran).serving.traced.steps (r.ran).serving.traced.behind (refused (calls (r.ran).serving.is_served.served.evidence.acts)) tape.words (r.ran).serving.traced.more new

    -- what its vault's calls answered
    abbrev pub answers : List VaultAnswer
    answers = map (λ s. s.1) (calls (r.ran).serving.is_served.served.evidence.acts)

  -- A run behind a format, a crash behind that, and a run on what it left. All their acts are one life of the store, whose words are those that
  -- the three tapes gave, each in a generation of its own; so no word is shown in two holes, of labels and slots together. And no pad is used
  -- twice, those of the format among them. Of both runs the headline holds, each with its own past, by the same words.
  pub record AreOneLife (keys : Keys) (made_by first_by second_by : Given) (formatted new : S) : Type 0 where
    pub p : Params
    pub ran : S
    pub left : S
    pub first : IsWholeRun keys first_by formatted ran
    pub crashed : (disk ran).may_leave (disk left).cells
    pub second : IsWholeRun keys second_by left new
    pub word_of : WordId → ℕ
    pub given : AreGiven word_of (part_of first ∷ part_of second ∷ [])
    pub drawn : AreTapeWords word_of made_by.generation made_by.words
    pub one_life : IsOneLife disk keys p word_of made_by.words (part_of first ∷ part_of second ∷ [])
    pub apart : WordsAreApart p word_of (life_words p word_of (formatted_life one_life.slot) (formatted_words p) one_life.acts)
    pub acts : List (StoreAct S)
    pub is_life : IsLife disk keys (formatted_at formatted) acts
    pub answered : answers_of acts ≡ answers first ++ answers second
    pub fresh : (seals : ℕ) → NoRepeats (pads_from 1 0 seals ++ pads_of (formatted_at formatted) acts)
    pub headlines : HeadlinesHold disk keys p word_of first_by second_by formatted ran left new
