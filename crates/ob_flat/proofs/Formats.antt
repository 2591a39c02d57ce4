-- What a store holds as it is formatted.
use Rattle.std.proofs.Common.{◌≡◌, ◌⊎◌, ⊎_elim, inl, inr, ℕ, ◌+◌, ◌<◌, List, Option, None, replicate, length, sym, ◌∙◌, subst, arith}
use Rattle.std.specs.FinMap as finite
use Rattle.std.specs.Ordering.{nat_cmp}
use Rattle.std.proofs.lemmas.List.{length-replicate, get_or-replicate}
use Rattle.ob_base.specs.declared.params.Params.{Params}
use Rattle.ob_store.specs.Calls.{Holds}
use Rattle.ob_store.specs.Disk.{Disk, Image}
use Rattle.ob_store.specs.Images.{SameBut, SameOff, Passes, LeavesOnly}
use Rattle.ob_store.proofs.Moments.{then_on, weakened, passes_so}
use Rattle.ob_seal.specs.declared.keys.Keys.{Keys}
use Rattle.ob_seal.specs.Pieces.{onward}
use Rattle.ob_twin.specs.Keyed.{tagging}
use Rattle.ob_twin.specs.Register.{StandsAt}
use Rattle.ob_twin.proofs.Frames.{register_moved}
use Rattle.ob_flat.specs.Rows.{IsRow, AreRows, row_cells}
use Rattle.ob_start.specs.Laying.{SameHead, HasNoHead, IsTornHead}
use Rattle.ob_start.proofs.Spelling.{head_is}
use Rattle.ob_flat.specs.Places.{area_of}
use Rattle.ob_flat.specs.Heads.{flat_version, head_cell, IsHead}
use Rattle.ob_flat.specs.Formats.{IsLaid, FormatLeaves}
use Rattle.ob_flat.specs.Standing.{StandsFlat}

-- the store of an empty map
pub formatted : (keys : Keys) (p : Params) (a b c : Image) → StandsAt (tagging keys) 1 a 1 → ((k : ℕ) → k < 5 → b k ≡ a k) → StandsAt (tagging keys) 5 b 0 → AreRows keys 9 b (replicate p.keys None) → SameBut 0 c b → c 0 ≡ head_cell keys p
    → StandsFlat keys p 1 c (record { epoch = 0; content = finite.empty })
formatted keys p a b c generation low epoch rows same head = record {
  head = subst (λ (l : List ℕ). IsHead keys p l) (sym head) (head_is keys flat_version p);
  begun = register_moved (tagging keys) 1 1 c a (λ k from to. same k (omega arith) ∙ low k (omega arith)) generation;
  epoch = register_moved (tagging keys) 5 0 c b (λ k from to. same k (omega arith)) epoch;
  rows = record { generation = rows.0; first = rows.1; each = row };
  no_more = λ key high. finite.get-empty nat_cmp key;
}
  where
    row : (key : ℕ) → key < p.keys → IsRow keys (area_of p.keys 0 + key) rows.0 (onward rows.1 key) (c (area_of p.keys 0 + key)) (finite.get (finite.empty {X = List ℕ} {R = nat_cmp}) key)
    row key lt =
        let area : 9 ≡ area_of p.keys 0 = omega arith in
        let few : key < length (replicate {A = Option (List ℕ)} p.keys None) = omega (arith, length-replicate {A = Option (List ℕ)} p.keys None) in
        let here : IsRow keys (9 + key) rows.0 (onward rows.1 key) (b (9 + key)) None = subst (λ (v : Option (List ℕ)). IsRow keys (9 + key) rows.0 (onward rows.1 key) (b (9 + key)) v) (get_or-replicate p.keys key None None lt) (rows.2 key few) in
        let there : IsRow keys (9 + key) rows.0 (onward rows.1 key) (c (9 + key)) None = subst (λ (l : List ℕ). IsRow keys (9 + key) rows.0 (onward rows.1 key) l None) (sym (same (9 + key) (omega arith))) here in
        subst (λ (v : Option (List ℕ)). IsRow keys (area_of p.keys 0 + key) rows.0 (onward rows.1 key) (c (area_of p.keys 0 + key)) v) (sym (finite.get-empty nat_cmp key))
        (subst (λ n. IsRow keys (n + key) rows.0 (onward rows.1 key) (c (n + key)) None) area there)

-- ---- what a crash leaves meanwhile

pub off_head : (base n : ℕ) (old new : Disk) → 0 < base → Passes (SameOff base n) old new → Passes SameHead old new
off_head base n old new high passes = passes_so (SameOff base n) SameHead old new (λ c d same. same 0 (inl (omega arith))) passes

module _ (keys : Keys) (n : ℕ) (old : Disk) where
  pub as_cleared : (a : Disk) → LeavesOnly old a (λ c. IsTornHead old c ⊎ HasNoHead c) → LeavesOnly old a (FormatLeaves keys n old)
  as_cleared a run = weakened old a (λ c. IsTornHead old c ⊎ HasNoHead c) (FormatLeaves keys n old) (λ c either. ⊎_elim (λ torn. inl torn) (λ none. inr (inl none)) either) run

  pub still_cleared : (a b : Disk) → LeavesOnly old a (λ c. IsTornHead old c ⊎ HasNoHead c) → LeavesOnly a b HasNoHead → LeavesOnly old b (FormatLeaves keys n old)
  still_cleared a b first second = then_on old a b (FormatLeaves keys n old) (as_cleared a first) (weakened a b HasNoHead (FormatLeaves keys n old) (λ c none. inr (inl none)) second)

  -- all but the head is made
  pub laid : (a b : Image) → StandsAt (tagging keys) 1 a 1 → ((k : ℕ) → k < 5 → b k ≡ a k) → StandsAt (tagging keys) 5 b 0 → Holds 9 (row_cells keys 9 1 0 (replicate n None)) b → (c : Image) → SameBut 0 c b → IsLaid keys n c
  laid a b generation low epoch rows c same = record {
    begun = register_moved (tagging keys) 1 1 c a (λ k from to. same k (omega arith) ∙ low k (omega arith)) generation;
    epoch = register_moved (tagging keys) 5 0 c b (λ k from to. same k (omega arith)) epoch;
    rows = λ i lt. same (9 + i) (omega arith) ∙ rows i lt;
  }

  pub head_written : (b new : Disk) → LeavesOnly old b (FormatLeaves keys n old) → ((c : Image) → SameBut 0 c b.cells → IsLaid keys n c) → LeavesOnly b new (λ c. SameBut 0 c b.cells) → LeavesOnly old new (FormatLeaves keys n old)
  head_written b new first made last =
      then_on old b new (FormatLeaves keys n old) first (weakened b new (λ c. SameBut 0 c b.cells) (FormatLeaves keys n old) (λ c same. inr (inr (made c same))) last)
