-- A second store behind a call.
use Rattle.std.proofs.Common.{◌≡◌, Option, Some, None}
use Rattle.ob_store.specs.Disk.{Disk}
use Rattle.ob_mirrored.specs.Mirrored.{SecondIn, SecondStays}

pub second_in : {B : Type 0} (two : B → Disk) (first last : Option B) → SecondStays two first last → SecondIn two last
second_in two (Some b) (Some d) stays = stays
second_in two None None stays = tt
second_in two (Some b) None stays = absurd stays
second_in two None (Some d) stays = absurd stays
