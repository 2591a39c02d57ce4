-- What the headline of a run over a mirror says of each half alone.
use Rattle.std.specs.Prelude.{◌≡◌, ℕ, suc, ◌+◌, ◌++◌, List, [], ◌∷◌, Option, Some, length}
use Rattle.ob_base.specs.declared.params.Params.{Params}
use Rattle.ob_conduct.specs.Left.{IsLeftNow, IsThisOrNext, next_at}
use Rattle.ob_recover.specs.Calls.{Finds}
use Rattle.ob_recover.specs.Life.{LifeAct}
use Rattle.ob_seal.specs.declared.keys.Keys.{Keys}
use Rattle.ob_serial.specs.Serial.{EpochRecord}
use Rattle.ob_serial.specs.Vaults.{Standing, StandsIn}
use Rattle.ob_store.specs.Disk.{Disk, Image}
use Rattle.ob_vault.specs.Kinds.{AllStand, StandsAsBefore, opened_with}
use Rattle.ob_vault.specs.RingKind.{ring_kind}
use Rattle.ob_top.specs.Calls.{IsToldInDoubt, RunCall, StandsNow}
use Rattle.ob_top.specs.Headline.{Headline, RunTold}
use Rattle.ob_top.specs.Pasts.{LeadsTo, PastLife, behind_run}
use Rattle.ob_top.specs.Promised.{Unserved}

-- A half of two that serve as one: what a crash leaves of it alone, at any moment, it leaves of both; and where both tell their cells as one,
-- it has these.
pub record IsHalf {X : Type 0} (disk half : X → Disk) : Type 0 where
  pub left : (x : X) (image : Image) → (half x).may_leave image → (disk x).may_leave image
  pub since : (x y : X) (image : Image) → (half y).left_since (half x).moment image → (disk y).left_since (disk x).moment image
  pub reads : (x : X) → (disk x).tells → (cell : ℕ) → (half x).cells cell ≡ (disk x).cells cell

-- Stages of serving, one behind each epoch's end, as far as this half goes: from one to the next a crash leaves of it what stands behind the
-- epochs so far, or behind one more.
abbrev pub HalfStaged : {X : Type 0} → (half : X → Disk) → (Image → Standing → Type 0) → Standing → List (EpochRecord ℕ) → Option (EpochRecord ℕ) → X → X → Type 0
HalfStaged half stands now [] next from last = (c : Image) → (half last).left_since (half from).moment c → StandsIn stands (IsThisOrNext now next) c
HalfStaged {X} half stands now (r ∷ told) next from last = (mid : X) × ((c : Image) → (half mid).left_since (half from).moment c → StandsIn stands (IsThisOrNext now (Some r)) c) × HalfStaged half stands (next_at now r) told next mid last

module _ {X : Type 0} (disk half : X → Disk) (keys : Keys) (p : Params) (at : Standing) (past : PastLife) (call : RunCall X) where
  -- A run came to something. A crash leaves of this half alone what both stood for, until they were opened; then, at any write, a prefix of the
  -- epochs, with each that had ended by then; so in the end every epoch whose lines stand in the output; and the next run may go on from there.
  pub record HalfServed (run : RunTold X) : Type 0 where
    pub opening : (c : Image) → (half run.opened).left_since (half call.old).moment c → StandsAsBefore ring_kind keys p (disk call.old) c
    pub prefix : HalfStaged half (StandsNow keys p run.found) at run.records run.next run.opened call.new
    pub kept : (c : Image) → (half call.new).may_leave c → StandsIn (StandsNow keys p run.found) (IsLeftNow (opened_with p (ring_kind.left p run.found) at) run.records run.next (IsToldInDoubt (suc at.epoch + length run.records) run.err)) c
    pub again : (c : Image) → (half call.new).may_leave c → (found : List LifeAct) × Finds run.flying found × LeadsTo keys p (behind_run p past run.shown (run.cut ++ found)) c

  -- Nothing was run. A crash leaves of this half alone what both stood for.
  pub record HalfUnserved : Type 0 where
    pub opening : (c : Image) → (half call.new).left_since (half call.old).moment c → StandsAsBefore ring_kind keys p (disk call.old) c
    pub sound : AllStand ring_kind keys p (half call.new)

-- So it is of each run over both, where the headline holds of it, or of none.
pub record HalfKeeps {X : Type 0} (disk half : X → Disk) : Type 0 where
  pub served : (keys : Keys) (p : Params) (at : Standing) (past : PastLife) (call : RunCall X) (run : RunTold X) → Headline disk keys p at past call run → HalfServed disk half keys p at past call run
  pub unserved : (keys : Keys) (p : Params) (at : Standing) (past : PastLife) (call : RunCall X) → Unserved disk keys p past call → HalfUnserved disk half keys p at past call
