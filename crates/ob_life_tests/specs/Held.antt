-- Private: that the headline holds of a run, and of both runs of a life.
use Rattle.std.specs.Prelude.{ℕ, List}
use Rattle.ob_base.specs.declared.params.Params.{Params}
use Rattle.ob_recover.specs.Life.{LifeAct, WordId}
use Rattle.ob_seal.specs.declared.keys.Keys.{Keys}
use Rattle.ob_serial.specs.Vaults.{Standing}
use Rattle.ob_store.specs.Disk.{Disk}
use Rattle.ob_top.specs.Again.{new_past}
use Rattle.ob_top.specs.Calls.{RunCall}
use Rattle.ob_top.specs.Headline.{Headline, RunTold, Stood}
use Rattle.ob_top.specs.Outside.{Given}
use Rattle.ob_top.specs.Pasts.{PastLife, with_acts}
use Rattle.ob_vault.specs.Formats.{beginning}

module _ {S : Type 0} (disk : S → Disk) where
  -- Over a store that stood, with this past, a run answered 0, and of all that it came to the headline holds.
  pub record HasHeadline (keys : Keys) (p : Params) (at : Standing) (past : PastLife) (tape : Given) (old new : S) : Type 0 where
    pub stood : Stood disk keys p at past tape old
    pub call : RunCall S
    pub run : RunTold S
    pub headline : Headline disk keys p at past (record call { old = old; new = new; tape = tape; status = 0 }) run

  -- so it does of this run whatever the store's past was, if it stood
  abbrev pub KeepsToHeadline : Keys → Given → S → S → Type 0
  KeepsToHeadline keys tape old new = (p : Params) (at : Standing) (past : PastLife) → Stood disk keys p at past tape old → HasHeadline keys p at past tape old new

  -- The headline holds of a run over what a format made, at the empty map and with nothing done since; and of a run over what a crash left
  -- behind that one, with the acts that were made by then. The words of both pasts are the same.
  pub record HeadlinesHold (keys : Keys) (p : Params) (word_of : WordId → ℕ) (first_by second_by : Given) (formatted ran left new : S) : Type 0 where
    pub slot : ℕ → ℕ → ℕ
    pub first : HasHeadline keys p beginning (new_past word_of slot) first_by formatted ran
    pub at : Standing
    pub acts : List LifeAct
    pub second : HasHeadline keys p at (with_acts (new_past word_of slot) acts) second_by left new
