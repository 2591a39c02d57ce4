-- Two stores that were just formatted are alike, whatever words their buckets' slots are ranks of.
use Rattle.std.specs.Prelude.{ℕ, []}
use Rattle.std.specs.FinMap as finite
use Rattle.ob_base.specs.declared.params.Params.{Params}
use Rattle.ob_ring.specs.Ring.{Kept}
use Rattle.ob_stand.specs.Fresh.{AreRanked, Ranks, fresh_content}
use Rattle.ob_stand.specs.Table.{buckets_of, flat_of}
use Rattle.ob_vault.specs.Hidden.{RingHidden}
use Rattle.ob_blind.specs.Draws.{AreHiddenAlike}
use Rattle.ob_blind.specs.Rings.{AreOfTable}

-- the ring that an opening makes of it
abbrev pub ring_first : Params → Ranks → Kept
ring_first p ranks = record { p = p; book = (fresh_content p ranks).book; metas = buckets_of p (fresh_content p ranks); stash = record { rows = finite.empty; room = p.keys }; counter = 0 }

-- and what is hidden then, in this generation
abbrev pub hidden_first : Params → Ranks → ℕ → RingHidden
hidden_first p ranks generation = record { epoch = 0; content = fresh_content p ranks; records = []; generation = generation; words = []; seals = 0 }

pub record FormatsAreAlike : Type 0 where
  pub rings : (p : Params) (ranks others : Ranks) → AreRanked p ranks → AreRanked p others → AreOfTable (flat_of p (fresh_content p ranks)) (ring_first p ranks) (ring_first p others)
  pub hidden : (p : Params) (ranks others : Ranks) (generation : ℕ) → AreHiddenAlike p (hidden_first p ranks generation) (hidden_first p others generation)
