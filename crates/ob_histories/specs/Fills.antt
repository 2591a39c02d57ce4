-- What fills the holes of all epochs, and what is public at each epoch's beginning by it.
use Rattle.std.specs.Prelude.{◌≡◌, ◌<◌, ℕ, ◌^◌, cond, List, [], ◌++◌, map}
use Rattle.std.proofs.Common.{zero, suc}
use Rattle.ob_base.specs.declared.params.Params.{Params}
use Rattle.ob_base.specs.Tree.{width, below}
use Rattle.ob_schedule.specs.Schedule.{Fills, Public, public_formatted, is_lifted_by_end, after_end}

-- The epoch that a store's format begins is 1, and the one that filled a bucket is 0 where the format did.
pub record AllFills : Type 0 where
  pub leaf : (epoch batch place : ℕ) → ℕ
  pub slot : (bucket version number : ℕ) → ℕ  -- a version goes by the epoch that filled it

-- Leaves and slots are in range, and no version shows a slot twice.
pub record AreAllFills (p : Params) (f : AllFills) : Type 0 where
  pub leaves : (epoch batch place : ℕ) → f.leaf epoch batch place < 2 ^ p.levels
  pub slots : (bucket version number : ℕ) → f.slot bucket version number < width p
  pub apart : (bucket version m n : ℕ) → m < width p → n < width p → f.slot bucket version m ≡ f.slot bucket version n → m ≡ n

-- what the first batches of an epoch show
abbrev pub leaves_of_batches : Params → AllFills → ℕ → ℕ → List ℕ
leaves_of_batches p f epoch zero = []
leaves_of_batches p f epoch (suc batches) = leaves_of_batches p f epoch batches ++ map (f.leaf epoch batches) (below p.places)

abbrev pub behind : Params → AllFills → ℕ → Public → ℕ → Public
behind p f epoch q batches = record q { leaves = leaves_of_batches p f epoch batches }

-- what is public once so many epochs are durable
abbrev pub public_at : Params → AllFills → ℕ → Public
public_at p f zero = public_formatted p
public_at p f (suc epoch) = after_end p (behind p f (suc epoch) (public_at p f epoch) p.batches)

-- and behind so many batches of the epoch that runs then
abbrev pub public_in_epoch : Params → AllFills → ℕ → ℕ → Public
public_in_epoch p f epoch batches = behind p f (suc epoch) (public_at p f epoch) batches

-- the version that a bucket has then
abbrev pub version_filled : Params → AllFills → ℕ → ℕ → ℕ
version_filled p f zero bucket = 0
version_filled p f (suc epoch) bucket = cond (is_lifted_by_end p (public_in_epoch p f epoch p.batches) bucket) (suc epoch) (version_filled p f epoch bucket)

-- what fills the holes of the epoch that runs then
abbrev pub fills_at : Params → AllFills → ℕ → Fills
fills_at p f epoch = record { label = f.leaf (suc epoch); slot = λ hole. f.slot hole.bucket (version_filled p f epoch hole.bucket) hole.number }
