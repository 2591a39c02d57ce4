use Rattle.std.specs.Prelude.{◌≡◌, ℕ, ◌<◌, length, None}
use Rattle.ob_tables.specs.Version.{Version, key_at}
use Rattle.ob_ring.proofs.reads.clear_keys.Given as goal

-- the first n indexes are empty
pub record SoFar (n : ℕ) (old new : Version) : Type 0 where
  pub empty : (j : ℕ) → j < n → key_at new j ≡ None
  pub keys : length new.keys ≡ length old.keys
  pub home : new.home ≡ old.home
  pub generation : new.generation ≡ old.generation
  pub base : new.base ≡ old.base
  pub ranks : new.ranks ≡ old.ranks
  pub used : new.used ≡ old.used

abbrev pub invariant-loop-j : goal.invariant-loop-j
invariant-loop-j l = SoFar l.j l.fn.meta l.meta
