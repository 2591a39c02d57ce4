-- A format of a ring store, in the words of its kind of store.
use Rattle.std.specs.FinMap.{get-empty}
use Rattle.std.specs.Ordering.{nat_cmp}
use Rattle.std.proofs.Common.{ℕ, List, refl, sym}
use Rattle.ob_base.specs.declared.params.Params.{Params}
use Rattle.ob_vault.specs.Formats.{beginning}
use Rattle.ob_seal.specs.declared.keys.Keys.{Keys}
use Rattle.ob_stand.proofs.VaultLaws.{ring_stands}
use Rattle.ob_stand.specs.Stands.{Stands, StandsRing}
use Rattle.ob_store.specs.Disk.{Disk, Image}
use Rattle.ob_opening.specs.Formats.{formatted_standing}
use Rattle.ob_vault.specs.RingLaws.{RingFormats}

-- it stands for epoch 0 and no key, in generation 1
stands_empty : (keys : Keys) (p : Params) (drawn : List ℕ) (c : Image) → Stands keys p (formatted_standing p drawn) c → StandsRing keys p 1 c beginning
stands_empty keys p drawn c stands = ring_stands keys p (formatted_standing p drawn) c beginning (record { epoch = refl; map = λ k. sym (get-empty nat_cmp k) }) stands

pub ring_formats : {S : Type 0} (disk : S → Disk) → RingFormats disk
ring_formats disk = record {
  made = λ keys p drawn old new seen stands images durable closed. record {
    seen = seen;
    stands = λ tells. stands_empty keys p drawn (disk new).cells (stands tells);
    images = λ tells c left. stands_empty keys p drawn c (images tells c left);
    durable = durable;
    lays = closed;
  };
}
