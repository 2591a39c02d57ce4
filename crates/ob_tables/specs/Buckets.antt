-- What is kept of all buckets.
use Rattle.std.specs.Prelude.{ℕ, Bool, false, List, [], replicate, slice_index_or, slice_set}
use Rattle.ob_base.specs.declared.params.Params.{Params}
use Rattle.ob_base.specs.Tree.{buckets}
use Rattle.ob_tables.specs.Version.{Version, blank}

-- of each bucket its version and whether it is lifted, and a list with room for all buckets
pub record Buckets : Type 0 where
  pub versions : List Version
  pub lifted : List Bool
  pub order : List ℕ

abbrev pub no_version : Version
no_version = record { home = 0; generation = 0; base = 0; keys = []; ranks = []; used = [] }

abbrev pub version_at : List Version → ℕ → Version
version_at versions bucket = slice_index_or versions bucket no_version

abbrev pub with_version : Buckets → ℕ → Version → Buckets
with_version s bucket v = record s { versions = slice_set s.versions bucket v }

abbrev pub is_lifted : Buckets → ℕ → Bool
is_lifted s bucket = slice_index_or s.lifted bucket false

-- before any version was written
abbrev pub new_buckets : Params → Buckets
new_buckets p = record { versions = replicate (buckets p) (blank p); lifted = replicate (buckets p) false; order = [] }
