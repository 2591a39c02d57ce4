-- An opening, as acts of a life of its store: what was in flight when the last run stopped, or nothing of it; the next generation; and a
-- repeat of each batch of the log.
use Rattle.std.specs.Prelude.{◌≡◌, ◌⊎◌, ℕ, suc, ◌<◌, ◌≤◌, Bool, List, [], ◌∷◌, ◌++◌, length, Option, Some, None}
use Rattle.ob_base.specs.declared.params.Params.{Params}
use Rattle.ob_base.specs.Tree.{buckets, width}
use Rattle.ob_tables.specs.Content.{Content}
use Rattle.ob_store.specs.declared.watch.Note.{Note}
use Rattle.ob_store.specs.Disk.{Disk, Image}
use Rattle.ob_store.specs.Images.{Same}
use Rattle.ob_store.specs.Lines.{Trace}
use Rattle.ob_store.specs.Told.{TellsFirst}
use Rattle.ob_seal.specs.declared.keys.Keys.{Keys}
use Rattle.ob_twin.specs.declared.gates.Gates.{Gates}
use Rattle.ob_twin.specs.Opening.{GatesAre}
use Rattle.ob_log.specs.Logs.{BatchRecord}
use Rattle.ob_schedule.specs.Phases.{Phase, open_phases}
use Rattle.ob_schedule.specs.Schedule.{open_notes}
use Rattle.ob_recover.specs.Life.{LifeAct, LifeState, Open, WordId, IsActAllowed, reached}
use Rattle.ob_recover.specs.Calls.{CallLaw, Finds, Leaves, LifeCall, Opened, repeated}
use Rattle.ob_stand.specs.Stands.{RingStanding, Stands}
use Rattle.ob_recover.specs.Known.{fills_of, gates_open, public_of_kept, slot_kept}
use Rattle.ob_recover.specs.Lives.{IsLifeAt}
use Rattle.ob_recover.specs.Telling.{AreTold}

-- ---- where a run stopped

-- this function tells the slot of each index of the tree's buckets, as the content keeps it
abbrev pub AreSlotsIn : Params → Content → (ℕ → ℕ → ℕ) → Type 0
AreSlotsIn p c slot = (u j : ℕ) → u < buckets p → j < width p → slot u j ≡ slot_kept c u j

-- what the image stands for is what the life has reached: its epoch, generation, content and records
pub record StandsInLife (keys : Keys) (p : Params) (word_of : WordId → ℕ) (s : LifeState) (image : Image) : Type 0 where
  pub standing : RingStanding
  pub stands : Stands keys p standing image
  pub epoch : standing.epoch ≡ s.epoch
  pub generation : standing.generation ≡ s.generation
  pub life : IsLifeAt p word_of standing.content standing.records s

-- A run stopped where the life had reached this state. An act may be in flight, one that the life allows; what is read stands for the
-- state, or for the one after the act.
pub record IsLeftAt (keys : Keys) (p : Params) (word_of : WordId → ℕ) (s : LifeState) (pending : Option LifeAct) (cells : Image) : Type 0 where
  pub allowed : (a : LifeAct) → pending ≡ Some a → IsActAllowed p word_of s a
  pub stands : Leaves p word_of (StandsInLife keys p word_of) s pending (Same cells)

-- ---- the call

-- the opening that found these acts begins the generation behind theirs, and repeats each batch of their log
abbrev pub opening_call : Params → (WordId → ℕ) → LifeState → List LifeAct → LifeCall
opening_call p word_of s found = let t = reached p word_of s found in Opened found (suc t.generation) (length t.log)

-- ---- what is told of its acts

-- the gates of both registers
pub record AreGatesIn (gates : Gates) (image : Image) : Type 0 where
  pub generation : GatesAre gates.generation 1 image
  pub epoch : GatesAre gates.epoch 5 image

-- the schedule's opening of what stands, with these gates found and so many repeats, behind a run that had shown these records' batches
-- and knew these gates
abbrev pub notes_of_opening : Params → RingStanding → Gates → ℕ → List BatchRecord → Gates → List Note
notes_of_opening p s gates count shown known = open_notes p (public_of_kept p s.content shown s.epoch known) (fills_of p s.content s.records) (gates_open gates) (suc s.generation) count

-- and its phases
abbrev pub phases_of_opening : Params → RingStanding → Gates → ℕ → List BatchRecord → Gates → List Phase
phases_of_opening p s gates count shown known = open_phases p (public_of_kept p s.content shown s.epoch known) (fills_of p s.content s.records) (gates_open gates) (suc s.generation) count

-- The generation began, and nothing is in flight: a repeat was told for each batch that was shown again, behind all that comes before it.
pub record HasShown (most : ℕ) (p : Params) (word_of : WordId → ℕ) (s : LifeState) (found made : List LifeAct) (in_flight : Option LifeAct) (standing : RingStanding) (old new : Disk) (before after : Trace) : Type 0 where
  pub count : ℕ
  pub few : count ≤ length standing.records
  pub made_are : made ≡ found ++ Open (suc standing.generation) ∷ repeated count
  pub none : in_flight ≡ None
  pub told : (gates : Gates) → AreGatesIn gates old.cells → (shown : List BatchRecord) (known : Gates) → AreTold most (phases_of_opening p standing gates count shown known) (notes_of_opening p standing gates count shown known) old.seen new.seen before after

-- Or the first of an opening's steps were told. Nothing was done, and what was in flight still is; or what was in flight is settled, and
-- the generation may have begun.
pub record HasNotBegun (p : Params) (found made : List LifeAct) (pending in_flight : Option LifeAct) (standing : RingStanding) (old new : Disk) (before after : Trace) : Type 0 where
  pub acts : ((made ≡ []) × (in_flight ≡ pending)) ⊎ ((made ≡ found) × (in_flight ≡ Some (Open (suc standing.generation))))
  pub told : (gates : Gates) → AreGatesIn gates old.cells → (shown : List BatchRecord) (known : Gates)
      → TellsFirst (notes_of_opening p standing gates (length standing.records) shown known) old.seen new.seen before after

-- ---- the law

-- What was found of the act in flight, and what was made of the opening's acts: a life, all of them where it was answered, else the first
-- ones, with what a crash may leave then, and what was told.
pub record OpensInLife (keys : Keys) (most : ℕ) (p : Params) (word_of : WordId → ℕ) (s : LifeState) (pending : Option LifeAct) (old new : Disk) (before after : Trace) (answered : Bool) : Type 0 where
  pub found : List LifeAct
  pub finds : Finds pending found
  pub here : StandsInLife keys p word_of (reached p word_of s found) old.cells
  pub made : List LifeAct
  pub in_flight : Option LifeAct
  pub law : CallLaw p word_of (StandsInLife keys p word_of) s pending (opening_call p word_of s found) answered made in_flight old.may_leave new.may_leave
  pub told : HasShown most p word_of s found made in_flight (here.standing) old new before after ⊎ HasNotBegun p found made pending in_flight (here.standing) old new before after
