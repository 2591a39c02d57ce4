-- What cells in memory are read as.
use Rattle.std.specs.Prelude.{ℕ, List, replicate, slice_index_or}
use Rattle.ob_store.specs.Disk.{Image}

abbrev pub zeros : List ℕ
zeros = replicate 128 0

-- past the end zeros are read
abbrev pub cell_of : List (List ℕ) → Image
cell_of cells k = slice_index_or cells k zeros
