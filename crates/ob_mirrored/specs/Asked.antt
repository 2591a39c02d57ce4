-- Which words ask for a mirror.
use Rattle.std.specs.Prelude.{◌≡◌, ℕ, Bool, true, false, is_some, List, Option, Some, None}
use Rattle.ob_words.specs.Reading.{AskedShares, asked_by, run_asked}
use Rattle.ob_words.specs.declared.work.Command.TheVariants.{Format, Run}
use Rattle.ob_words.specs.declared.work.Work.{Work}
use Rattle.ob_words.specs.declared.work.Work.TheVariants.{Audit, Drill, OnStore}
use Rattle.ob_words.specs.Work.{AreBadLanes, AreLanes, AreShares}
use Rattle.ob_mirrored.specs.declared.asked.MirrorRun.{MirrorRun}

-- The words ask for a run, with these words of its lanes, and its store is to be mirrored.
pub record AsksForMirror (words : List (List ℕ)) (lanes : Option (List ℕ)) : Type 0 where
  pub store_path : List ℕ
  pub keys_path : List ℕ
  pub turns : Bool
  pub trace : Option (List ℕ)
  pub file : List ℕ
  pub limits : AskedShares
  pub asked : asked_by words ≡ Some (run_asked store_path keys_path lanes turns trace (Some file) limits)

-- This is the run that is asked for, with a number of lanes in range.
pub record IsRunOf {words : List (List ℕ)} {lanes : Option (List ℕ)} (asks : AsksForMirror words lanes) (run : MirrorRun) : Type 0 where
  pub in_range : AreLanes lanes run.lanes
  pub turns : run.turns ≡ asks.turns
  pub traced : run.traced ≡ is_some asks.trace
  pub shares : AreShares asks.limits run.shares

-- a run is asked for
pub record IsMirrorAsked (words : List (List ℕ)) (run : MirrorRun) : Type 0 where
  pub lanes : Option (List ℕ)
  pub asks : AsksForMirror words lanes
  pub own : IsRunOf asks run

-- They ask for no mirror, or the number is out of range.
abbrev pub IsNoMirrorAsked : List (List ℕ) → Type 0
IsNoMirrorAsked words = (lanes : Option (List ℕ)) → AsksForMirror words lanes → AreBadLanes lanes

-- what the words ask for
abbrev pub IsAsked : List (List ℕ) → Option MirrorRun → Type 0
IsAsked words (Some run) = IsMirrorAsked words run
IsAsked words None = IsNoMirrorAsked words

-- the run of a work with a mirror
abbrev pub mirror_of : Work → Option MirrorRun
mirror_of (OnStore (Run k turns traced true shares)) = Some (record { lanes = k; turns = turns; traced = traced; shares = shares })
mirror_of (OnStore (Run k turns traced false shares)) = None
mirror_of (OnStore (Format p traced)) = None
mirror_of Audit = None
mirror_of (Drill n) = None
