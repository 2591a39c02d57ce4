-- A bucket's version that is lent for writing.
use Rattle.std.specs.Prelude.{ℕ}
use Rattle.std.specs.Borrow.{Lends, MutBor, Fml}
use Rattle.ob_tables.specs.Version.{Version}
use Rattle.ob_tables.specs.Buckets.{Buckets, with_version}
use Rattle.ob_tables.specs.contracts.metas.Metas.{the_row}
use Rattle.ob_tables.specs.contracts.meta.Meta.{the_row as meta_row}

-- the buckets end with the version that was left behind the reference
abbrev pub LendsVersion : MutBor Buckets → ℕ → MutBor Version → Fml
LendsVersion s bucket r = Lends the_row meta_row s r (with_version s.now bucket)
