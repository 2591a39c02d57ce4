-- What an image stands for is told by few of its cells.
use Rattle.std.proofs.Common.{◌≡◌, inl, inr, ℕ, ◌+◌, ◌^◌, ◌<◌, ◌≤◌, List, length, Option, None, sym, ◌∙◌, subst, arith}
use Rattle.std.specs.FinMap as finite
use Rattle.ob_base.specs.declared.params.Params.{Params}
use Rattle.ob_store.specs.Disk.{Image}
use Rattle.ob_store.specs.Calls.{Holds}
use Rattle.std.specs.Ordering.{nat_cmp}
use Rattle.ob_seal.specs.declared.keys.Keys.{Keys}
use Rattle.ob_seal.specs.Pieces.{onward}
use Rattle.ob_twin.specs.Keyed.{tagging}
use Rattle.ob_twin.specs.Register.{SameOutside, KeepsAt}
use Rattle.ob_twin.proofs.Frames.{register_moved}
use Rattle.ob_serial.specs.Vaults.{Standing}
use Rattle.ob_serial.specs.Serial.{Map}
use Rattle.ob_seal.specs.Sealing.{Sealing}
use Rattle.ob_flat.specs.Rows.{IsRow, AreRows, AreShort, row_cells}
use Rattle.ob_flat.proofs.RowCells.{rows_are}
use Rattle.ob_flat.specs.Places.{area_of}
use Rattle.ob_flat.specs.Heads.{IsHead}
use Rattle.ob_flat.specs.Standing.{HasSealedRows, StandsFlat}

-- rows lie behind the registers
pub row_high : (n epoch key : ℕ) → 9 ≤ area_of n epoch + key
row_high n epoch key = omega arith

-- the rows are the same cells
pub rows_moved : (keys : Keys) (base n : ℕ) (c d : Image) (content : Map nat_cmp) → ((key : ℕ) → key < n → c (base + key) ≡ d (base + key)) → HasSealedRows keys base n d content → HasSealedRows keys base n c content
rows_moved keys base n c d content same rows = record {
  generation = rows.generation;
  first = rows.first;
  each = λ key lt. subst (λ (l : List ℕ). IsRow keys (base + key) rows.generation (onward rows.first key) l (finite.get content key)) (sym (same key lt)) (rows.each key lt);
}

-- the image has the cells that tell what the other stands for
pub stands_moved : (keys : Keys) (p : Params) (g : ℕ) (at : Standing) (c d : Image) → ((k : ℕ) → k < 9 → c k ≡ d k) → ((key : ℕ) → key < p.keys → c (area_of p.keys at.epoch + key) ≡ d (area_of p.keys at.epoch + key))
    → StandsFlat keys p g d at → StandsFlat keys p g c at
stands_moved keys p g at c d low rows stands = record {
  head = subst (λ (l : List ℕ). IsHead keys p l) (sym (low 0 (omega arith))) stands.head;
  begun = register_moved (tagging keys) 1 g c d (λ k from to. low k (omega arith)) stands.begun;
  epoch = register_moved (tagging keys) 5 at.epoch c d (λ k from to. low k (omega arith)) stands.epoch;
  rows = rows_moved keys (area_of p.keys at.epoch) p.keys c d at.content rows stands.rows;
  no_more = stands.no_more;
}

-- the same image, cell by cell
pub stands_same : (keys : Keys) (p : Params) (g : ℕ) (at : Standing) (c d : Image) → ((k : ℕ) → c k ≡ d k) → StandsFlat keys p g d at → StandsFlat keys p g c at
stands_same keys p g at c d same stands = stands_moved keys p g at c d (λ k low. same k) (λ key lt. same _) stands

-- a set of the generation leaves what the image stands for, at the new generation
pub generation_set : (keys : Keys) (p : Params) (at : Standing) (g n : ℕ) (c d : Image) → KeepsAt (tagging keys) 1 d n c → StandsFlat keys p g d at → StandsFlat keys p n c at
generation_set keys p at g n c d kept stands = record {
  head = subst (λ (l : List ℕ). IsHead keys p l) (sym (kept.rest 0 (inl (omega arith)))) stands.head;
  begun = kept.stands;
  epoch = register_moved (tagging keys) 5 at.epoch c d (λ k from to. kept.rest k (inr (omega arith))) stands.epoch;
  rows = rows_moved keys (area_of p.keys at.epoch) p.keys c d at.content (λ key lt. kept.rest _ (inr (high key))) stands.rows;
  no_more = stands.no_more;
}
  where
    high : (key : ℕ) → 1 + 4 ≤ area_of p.keys at.epoch + key
    high key = let above : 9 ≤ area_of p.keys at.epoch + key = row_high p.keys at.epoch key in omega arith

-- a set of the epoch makes the image stand for that epoch, with the map of its rows
pub epoch_set : (keys : Keys) (p : Params) (g : ℕ) (now next : Standing) (c d : Image) → KeepsAt (tagging keys) 5 d next.epoch c → StandsFlat keys p g d now
    → HasSealedRows keys (area_of p.keys next.epoch) p.keys d next.content
    → ((key : ℕ) → p.keys ≤ key → finite.get next.content key ≡ None) → StandsFlat keys p g c next
epoch_set keys p g now next c d kept stands rows no_more = record {
  head = subst (λ (l : List ℕ). IsHead keys p l) (sym (kept.rest 0 (inl (omega arith)))) stands.head;
  begun = register_moved (tagging keys) 1 g c d (λ k from to. kept.rest k (inl (omega arith))) stands.begun;
  epoch = kept.stands;
  rows = rows_moved keys (area_of p.keys next.epoch) p.keys c d next.content (λ key lt. kept.rest _ (inr (high key))) rows;
  no_more = no_more;
}
  where
    high : (key : ℕ) → 5 + 4 ≤ area_of p.keys next.epoch + key
    high key = row_high p.keys next.epoch key

-- a set of the epoch leaves the rows alone
pub rows_kept : (n epoch : ℕ) (rows : List (List ℕ)) (c d : Image) → SameOutside 5 c d → Holds (area_of n epoch) rows d → Holds (area_of n epoch) rows c
rows_kept n epoch rows c d same holds i lt = same (area_of n epoch + i) (inr (row_high n epoch i)) ∙ holds i lt

-- the rows that a sealer wrote
pub rows_written : (sealing : Sealing) (base : ℕ) (image : Image) (values : List (Option (List ℕ))) → sealing.generation < 2 ^ 62 → sealing.next + length values ≤ 2 ^ 62 → AreShort values
    → Holds base (row_cells sealing.keys base sealing.generation sealing.next values) image → AreRows sealing.keys base image values
rows_written sealing base image values small room short holds =
    (sealing.generation, sealing.next, rows_are sealing.keys base sealing.generation sealing.next image values (omega arith) room short holds)
