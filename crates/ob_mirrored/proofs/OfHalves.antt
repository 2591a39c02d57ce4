-- The headline of a run over a mirror, of each half alone.
use Rattle.std.proofs.Common.{ℕ, List, [], ◌∷◌, Option, inl}
use Rattle.ob_base.specs.declared.params.Params.{Params}
use Rattle.ob_seal.specs.declared.keys.Keys.{Keys}
use Rattle.ob_serial.specs.Serial.{EpochRecord}
use Rattle.ob_serial.specs.Vaults.{Standing}
use Rattle.ob_conduct.specs.Left.{next_at}
use Rattle.ob_store.specs.Disk.{Disk, Image}
use Rattle.ob_mirror.specs.Standing.{EachStands}
use Rattle.ob_top.specs.Calls.{RunCall, StandsNow}
use Rattle.ob_top.specs.Headline.{Headline, RunTold}
use Rattle.ob_top.specs.Parts.{StagedFrom}
use Rattle.ob_top.specs.Pasts.{PastLife}
use Rattle.ob_top.specs.Promised.{Unserved}
use Rattle.ob_mirrored.specs.Halves.{HalfKeeps, HalfServed, HalfStaged, HalfUnserved, IsHalf}

module _ {X : Type 0} (disk half : X → Disk) (is : IsHalf disk half) where
  half_staged : (stands : Image → Standing → Type 0) (now : Standing) (told : List (EpochRecord ℕ)) (next : Option (EpochRecord ℕ)) (from last : X) → StagedFrom disk stands now told next (disk from) (disk last) → HalfStaged half stands now told next from last
  half_staged stands now [] next from last leaves = λ c left. leaves.each c (is.since from last c left)
  half_staged stands now (r ∷ told) next from last (mid, leaves, rest) = (mid, (λ c left. leaves.each c (is.since from mid c left)), half_staged stands (next_at now r) told next mid last rest)

  half_served : (keys : Keys) (p : Params) (at : Standing) (past : PastLife) (call : RunCall X) (run : RunTold X) → Headline disk keys p at past call run → HalfServed disk half keys p at past call run
  half_served keys p at past call run h = record {
    opening = λ c left. h.opening.each c (is.since call.old run.opened c left);
    prefix = half_staged (StandsNow keys p run.found) at run.records run.next run.opened call.new h.prefix;
    kept = λ c left. h.kept c (inl (is.left call.new c left));
    again = λ c left. h.again.0 c (inl (is.left call.new c left));
  }

  half_unserved : (keys : Keys) (p : Params) (at : Standing) (past : PastLife) (call : RunCall X) → Unserved disk keys p past call → HalfUnserved disk half keys p at past call
  half_unserved keys p at past call u = record {
    opening = λ c left. u.opening.each c (is.since call.old call.new c left);
    sound = λ c left. u.sound c (is.left call.new c left);
  }

  pub half_keeps : HalfKeeps disk half
  half_keeps = record { served = half_served; unserved = half_unserved }

-- from what holds of any two states of a mirror
module _ {X : Type 0} (disk first second : X → Disk) (each : (x y : X) → EachStands (first x) (first y) (second x) (second y) (disk x) (disk y)) where
  pub is_first : IsHalf disk first
  is_first = record {
    left = λ x image left. (each x x).first image left;
    since = λ x y image left. (each x y).first_since image left;
    reads = λ x tells cell. ((each x x).reads tells cell).0;
  }

  pub is_second : IsHalf disk second
  is_second = record {
    left = λ x image left. (each x x).second image left;
    since = λ x y image left. (each x y).second_since image left;
    reads = λ x tells cell. ((each x x).reads tells cell).1;
  }
