-- Places that stay, and places that were as at first.
use Rattle.std.proofs.Common.{◌≡◌, ℕ, List, Option, sym, subst}
use Rattle.ob_store.specs.declared.event.Event.{Event}
use Rattle.ob_store.specs.declared.store.Store.{Ghosts}
use Rattle.ob_store.specs.Disk.{Disk}
use Rattle.ob_lanes.specs.declared.hand.Hand.{Hand}
use Rattle.ob_lanes.specs.declared.hand.SealedJobs.{SealedJobs}
use Rattle.ob_mirror.specs.declared.lane.MirrorLane.{MirrorLane}
use Rattle.ob_mirror.specs.declared.lane.SecondLane.{SecondLane}
use Rattle.ob_mirror.specs.Reading.{IsParted, IsPlaceMended, TellLanes, TellPlaces}

pub parted_still : {A B L M : Type 0} {ga : Ghosts A L} {gb : Ghosts B M} (h : Option (Hand (MirrorLane A B L M ga gb))) (f g : Option (Hand L)) (s t : Option (SecondLane M)) → IsParted h f s → g ≡ f → t ≡ s → IsParted h g t
parted_still h f g s t parted first second =
    subst (λ (x : Option (Hand _)). IsParted h x t) (sym first) (subst (λ (y : Option (SecondLane _)). IsParted h f y) (sym second) parted)

pub mended_from : {A B L M : Type 0} {ga : Ghosts A L} {gb : Ghosts B M} (asked : SealedJobs) (b : Disk) (seen : M → Option (List Event)) (faults : M → ℕ) (f g : Option (Hand L)) (s t : Option (SecondLane M)) (new : Option (Hand (MirrorLane A B L M ga gb))) → IsPlaceMended asked b seen faults f s new → f ≡ g → s ≡ t → IsPlaceMended asked b seen faults g t new
mended_from asked b seen faults f g s t new mended first second =
    subst (λ (x : Option (Hand _)). IsPlaceMended asked b seen faults x t new) first (subst (λ (y : Option (SecondLane _)). IsPlaceMended asked b seen faults f y new) second mended)

module _ {L M : Type 0} (seen_a : L → Option (List Event)) (faults_a : L → ℕ) (seen_b : M → Option (List Event)) where
  pub lanes_still : (f g : Option (Hand L)) (s t : Option (SecondLane M)) → g ≡ f → t ≡ s → TellLanes seen_a faults_a seen_b f s → TellLanes seen_a faults_a seen_b g t
  lanes_still f g s t first second told =
      subst (λ (x : Option (Hand L)). TellLanes seen_a faults_a seen_b x t) (sym first) (subst (λ (y : Option (SecondLane M)). TellLanes seen_a faults_a seen_b f y) (sym second) told)

  pub told_still : (asked : SealedJobs) (f g : Option (Hand L)) (s t : Option (SecondLane M)) → g ≡ f → t ≡ s → TellPlaces seen_a faults_a seen_b asked f s → TellPlaces seen_a faults_a seen_b asked g t
  told_still asked f g s t first second told =
      subst (λ (x : Option (Hand L)). TellPlaces seen_a faults_a seen_b asked x t) (sym first) (subst (λ (y : Option (SecondLane M)). TellPlaces seen_a faults_a seen_b asked f y) (sym second) told)
