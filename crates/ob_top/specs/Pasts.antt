-- What was done with a ring store since its format, and where that leads.
use Rattle.std.specs.Prelude.{ℕ, List, ◌++◌}
use Rattle.ob_base.specs.Tree.{width}
use Rattle.ob_base.specs.declared.params.Params.{Params}
use Rattle.ob_fresh.specs.Drawn.{AreWordsInTurn, formatted_words, life_words}
use Rattle.ob_fresh.specs.Fresh.{WordsAreApart}
use Rattle.ob_opening.specs.OpeningActs.{StandsInLife}
use Rattle.ob_recover.specs.Life.{HolesAreFresh, IsLife, LifeAct, LifeState, WordId, formatted_life, life_labels, life_slots, reached}
use Rattle.ob_seal.specs.declared.keys.Keys.{Keys}
use Rattle.ob_serial.specs.Vaults.{Standing}
use Rattle.ob_store.specs.Disk.{Image}
use Rattle.ob_tables.specs.Rank.{IsRanking}
use Rattle.ob_vault.specs.Acts.{AreBatchesSmall}
use Rattle.ob_vault.specs.Kinds.{Stands}
use Rattle.ob_vault.specs.Lives.{opening_acts}
use Rattle.ob_vault.specs.RingKind.{ring_kind}

-- The word at each place of each generation's tape; the slots that the format gave the rows of each bucket; and the acts since, over all
-- runs: generations that began, batches whose record became durable, what was shown, epochs that ended.
pub record PastLife : Type 0 where
  pub word_of : WordId → ℕ
  pub slot : ℕ → ℕ → ℕ
  pub acts : List LifeAct

abbrev pub with_acts : PastLife → List LifeAct → PastLife
with_acts past more = record past { acts = past.acts ++ more }

-- where it leads; and where an opening's acts lead from there
abbrev pub life_of : Params → PastLife → LifeState
life_of p past = reached p past.word_of (formatted_life past.slot) past.acts

abbrev pub opened_life : Params → PastLife → LifeState
opened_life p past = reached p past.word_of (life_of p past) (opening_acts (life_of p past))

-- where a run's acts lead behind those; and the past behind a run, with more acts
abbrev pub run_life : Params → PastLife → (shown : List LifeAct) → LifeState
run_life p past shown = reached p past.word_of (opened_life p past) shown

abbrev pub behind_run : Params → PastLife → (shown more : List LifeAct) → PastLife
behind_run p past shown more = with_acts past ((opening_acts (life_of p past) ++ shown) ++ more)

-- It is a life, whose words were drawn in turn, none of them left out or drawn twice.
pub record IsPastLife (p : Params) (past : PastLife) : Type 0 where
  pub ranked : (u : ℕ) → IsRanking (width p) (past.slot u)
  pub is_life : IsLife p past.word_of (formatted_life past.slot) past.acts
  pub in_turn : AreWordsInTurn p past.word_of past.slot past.acts
  pub small : AreBatchesSmall (life_of p past).log

-- The image stands for this epoch and this map, and is where the past leads.
pub record LeadsToAt (keys : Keys) (p : Params) (past : PastLife) (at : Standing) (image : Image) : Type 0 where
  pub stands : Stands ring_kind keys p image at
  pub there : StandsInLife keys p past.word_of (life_of p past) image

-- so it does for some epoch and map
pub record LeadsTo (keys : Keys) (p : Params) (past : PastLife) (image : Image) : Type 0 where
  pub is_past : IsPastLife p past
  pub at : Standing
  pub is_at : LeadsToAt keys p past at image

-- All that was shown in it: no two labels show one word, no two reads one slot of a bucket's filling, and a hole that is shown again is
-- filled as before; and no word is in two holes, of labels and slots together, a slot being its word's rank.
pub record IsLifeFresh (p : Params) (past : PastLife) : Type 0 where
  pub holes : HolesAreFresh (life_labels p past.word_of (formatted_life past.slot) past.acts) (life_slots p past.word_of (formatted_life past.slot) past.acts)
  pub words : WordsAreApart p past.word_of (life_words p past.word_of (formatted_life past.slot) (formatted_words p) past.acts)
