-- What a list of shown labels says of a place.
use Rattle.std.specs.Prelude.{ℕ, ◌==◌, ◌&&◌, List, Option, option_map}
use Rattle.std.specs.List.{find}
use Rattle.ob_wants.specs.declared.seen.SeenLabel.{SeenLabel}

abbrev pub label_shown : List SeenLabel → ℕ → ℕ → Option ℕ
label_shown labels batch place = option_map (λ (seen : SeenLabel). seen.leaf) (find (λ (seen : SeenLabel). (seen.batch == batch) && (seen.place == place)) labels)
