-- What a contract sees of a sealer.
use Rattle.std.specs.Prelude.{ℕ}
use Rattle.ob_seal.specs.declared.keys.Keys.{Keys}

-- its keys, its generation, and the number of the next seal
pub record Sealing : Type 0 where
  pub keys : Keys
  pub generation : ℕ
  pub next : ℕ
