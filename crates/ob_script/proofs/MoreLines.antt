-- One more line.
use Rattle.std.proofs.Common.{◌≡◌, ℕ, List, [], ◌∷◌, ◌++◌, Option, Some, None, false, refl}
use Rattle.std.specs.Prelude.{option_map, is_some}
use Rattle.ob_script.specs.Script.{Text, State, AcceptsLine, ReadsLines}

pub reads_more : (n : ℕ) (first : State) (texts : List Text) (mid : State) (text : Text) (last : State) → ReadsLines n first texts mid → AcceptsLine n mid text last → ReadsLines n first (texts ++ text ∷ []) last
reads_more n first [] mid text last h one = (last, rw h one, refl)
reads_more n first (t ∷ texts) mid text last h one = (h.0, h.1, reads_more n h.0 texts mid text last h.2 one)

pub none_mapped : {A B : Type 0} (f : A → B) (o : Option A) → false ≡ is_some o → option_map f o ≡ None
none_mapped f None h = refl
none_mapped f (Some x) h = cc
