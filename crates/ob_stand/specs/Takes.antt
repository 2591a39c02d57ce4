-- Which keys leave their buckets for the stash.
use Rattle.std.specs.Prelude.{◌≡◌, ℕ, ◌<◌, Bool, true, false, List, [], ◌∷◌, Option, ⊤}
use Rattle.std.specs.declared.option.Option.TheVariants.{None, Some}
use Rattle.std.specs.List.{list_any}
use Rattle.ob_base.specs.declared.params.Params.{Params}
use Rattle.ob_schedule.specs.Paths.{eviction_path}
use Rattle.ob_ring.specs.FlatTable.{FlatTable, Spot, InStash, In, Batch, FinalLifts, after, spot_of, asks_for}
use Rattle.ob_ring.specs.Laws.{IsOrderly}
use Rattle.ob_ring.specs.Picked.{Picked, batch_picked, final_picked}

abbrev pub is_present : {X : Type 0} → Option X → Bool
is_present None = false
is_present (Some x) = true

-- where each key lies; a key that isn't present counts as lying in the stash
abbrev pub spots : FlatTable → ℕ → Spot
spots t k = spot_of (t.rows k)

-- whether an index is picked with this key
abbrev pub is_picked : List Picked → ℕ → Bool
is_picked qs k = list_any (λ q. asks_for q.key k) qs

-- each index that is picked with a key is that key's own
abbrev pub AreOwn : (ℕ → Spot) → List Picked → Type 0
AreOwn s [] = ⊤
AreOwn s (q ∷ qs) = ((k : ℕ) → q.key ≡ Some k → s k ≡ In q.bucket q.index) × AreOwn s qs

-- The keys that are picked leave their buckets for the stash, and no other key moves.
pub record Takes (old new : ℕ → Spot) (qs : List Picked) : Type 0 where
  pub own : AreOwn old qs
  pub goes : (k : ℕ) → is_picked qs k ≡ true → new k ≡ InStash
  pub stays : (k : ℕ) → is_picked qs k ≡ false → new k ≡ old k

-- the same keys are present
abbrev pub KeepsKeys : FlatTable → FlatTable → Type 0
KeepsKeys t t' = (k : ℕ) → is_present (t'.rows k) ≡ is_present (t.rows k)

-- each present key is one of the store's
abbrev pub AreKeysLow : Params → FlatTable → Type 0
AreKeysLow p t = (k : ℕ) → is_present (t.rows k) ≡ true → k < p.keys

-- Of a batch and of the final lifts: a key lies in a bucket before and not after just where an index is picked with it, and that index
-- is its own. No key comes or goes.
pub record PickedAreTaken : Type 0 where
  pub batch : (p : Params) (t : FlatTable) (places : List (Option ℕ × ℕ)) → IsOrderly p t → AreKeysLow p t
      → Takes (spots t) (spots (after p t (Batch places))) (batch_picked p t places)
  pub lifts : (p : Params) (t : FlatTable) → IsOrderly p t → AreKeysLow p t
      → Takes (spots t) (spots (after p t FinalLifts)) (final_picked p t (eviction_path p t.counter))
  pub batch_keys : (p : Params) (t : FlatTable) (places : List (Option ℕ × ℕ)) → KeepsKeys t (after p t (Batch places))
  pub lifts_keys : (p : Params) (t : FlatTable) → KeepsKeys t (after p t FinalLifts)
