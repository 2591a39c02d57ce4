-- The room of a part.
use Rattle.std.proofs.Common.{◌≡◌, ℕ, List, length}
use Rattle.ob_order.specs.Works.{edit}
use Rattle.ob_order.proofs.Edits.{length-edit}

pub length_edited : {A : Type 0} (f : A → A) (xs : List A) (t : ℕ) → length (edit f xs t) ≡ length xs
length_edited f xs t = length-edit f xs t
