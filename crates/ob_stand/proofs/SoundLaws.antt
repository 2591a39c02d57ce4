-- What a run of calls leaves is sound.
use Rattle.std.specs.Prelude.{◌⊎◌}
use Rattle.std.proofs.Common.{refl, inl, inr, ⊎_elim}
use Rattle.ob_base.specs.declared.params.Params.{Params}
use Rattle.ob_store.specs.Disk.{Clock, NotAfter, Disk, Image}
use Rattle.ob_store.specs.Images.{IsSynced, LeavesOnly}
use Rattle.ob_twin.proofs.Moves.{at_the_end}
use Rattle.ob_seal.specs.declared.keys.Keys.{Keys}
use Rattle.ob_stand.specs.Stands.{RingStanding, Stands, OneOf}
use Rattle.ob_stand.specs.Sound.{point_of, StandsAtPoint, AreNear, IsSoundDisk, StoresAreSound}
use Rattle.ob_stand.proofs.Frames.{stands_all}

either_point : (keys : Keys) (p : Params) (a b : RingStanding) (c : Image) → OneOf keys p a b c → StandsAtPoint keys p (point_of a) c ⊎ StandsAtPoint keys p (point_of b) c
either_point keys p a b c either = ⊎_elim
    (λ at. inl (record { generation = a.generation; records = a.records; stands = at }))
    (λ at. inr (record { generation = b.generation; records = b.records; stands = at }))
    either

after_run : (keys : Keys) (p : Params) (a b : RingStanding) (old new : Disk) → ((t : Clock) (c : Image) → NotAfter t new.moment → new.may_leave c → new.left_since t c) → AreNear (point_of a) (point_of b)
    → LeavesOnly old new (OneOf keys p a b) → IsSoundDisk keys p new
after_run keys p a b old new counts near run = record {
  low = point_of a;
  high = point_of b;
  near = near;
  images = λ c left. either_point keys p a b c (at_the_end old new (OneOf keys p a b) counts run c left);
  cells = λ tells. either_point keys p a b new.cells (run.told tells);
}

settled_sound : (keys : Keys) (p : Params) (s : RingStanding) (d : Disk) → IsSynced d → Stands keys p s d.cells → IsSoundDisk keys p d
settled_sound keys p s d settled stands = record {
  low = point_of s;
  high = point_of s;
  near = inl refl;
  images = λ c left. inl (record { generation = s.generation; records = s.records; stands = stands_all keys p s c d.cells (settled c left) stands });
  cells = λ tells. inl (record { generation = s.generation; records = s.records; stands = stands });
}

pub sound_after : {S : Type 0} → (disk : S → Disk) → ((store : S) (t : Clock) (c : Image) → NotAfter t (disk store).moment → (disk store).may_leave c → (disk store).left_since t c) → StoresAreSound disk
sound_after disk counts = record {
  after_run = λ keys p a b old new near run. after_run keys p a b (disk old) (disk new) (counts new) near run;
  settled = λ keys p s store settled stands. settled_sound keys p s (disk store) settled stands;
}
