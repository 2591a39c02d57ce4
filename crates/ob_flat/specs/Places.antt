-- Where the cells of a plain vault's store lie: the head, the two registers, and two areas of a row for each key.
use Rattle.std.specs.Prelude.{ℕ, ◌+◌, ◌*◌, ◌%◌}
use Rattle.ob_base.specs.declared.params.Params.{Params}

-- the cells of a store
abbrev pub cells : Params → ℕ
cells p = 9 + 2 * p.keys

-- the first row of an epoch's area, of so many keys
abbrev pub area_of : ℕ → ℕ → ℕ
area_of keys epoch = 9 + epoch % 2 * keys
