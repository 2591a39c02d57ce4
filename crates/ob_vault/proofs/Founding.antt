-- What is found of a store that stands is what it stands for.
use Rattle.std.proofs.Common.{◌≡◌, suc, Ok, subst, arith}
use Rattle.ob_base.specs.declared.params.Params.{Params}
use Rattle.ob_check.specs.ReadBack.{IsCheckRead}
use Rattle.ob_log.proofs.ReadBack.{accepted_same}
use Rattle.ob_log.specs.Reads.{AreAccepted}
use Rattle.ob_recover.proofs.FindLaws.{check_read, number_found}
use Rattle.ob_recover.specs.Finds.{IsFoundInRing, IsFoundOf}
use Rattle.ob_recover.specs.declared.found.Found.{Found}
use Rattle.ob_seal.specs.declared.keys.Keys.{Keys}
use Rattle.ob_stand.specs.Stands.{RingStanding, Stands}
use Rattle.ob_store.specs.Disk.{Image}

pub found_is_standing : (keys : Keys) (p : Params) (s : RingStanding) (image : Image) (found : Found) → Stands keys p s image → IsFoundInRing keys p image found → IsFoundOf s found
found_is_standing keys p s image found stands is =
    let epoch : found.epoch ≡ s.epoch = number_found keys 5 image s.epoch found.epoch stands.epoch (is.registers).epoch_whole (is.registers).epoch_counts in
    record {
      generation = number_found keys 1 image s.generation found.generation stands.generation (is.registers).generation_whole (is.registers).generation_counts;
      epoch = epoch;
      content = check_read keys p s image (Ok found.tables) stands (subst (λ n. IsCheckRead keys p n image (Ok found.tables)) epoch is.tables);
      records = accepted_same keys p (suc s.epoch) s.records image (let small = (stands.epoch).small in omega (arith, small)) (stands.holds).log found.records (subst (λ n. AreAccepted keys p (suc n) found.records image) epoch is.records);
    }
