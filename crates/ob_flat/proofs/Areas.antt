-- The two areas of rows, and what the end of an epoch leaves of them.
use Rattle.std.proofs.Common.{◌≡◌, ◌⊎◌, inl, inr, ⊎_elim, ℕ, suc, ◌+◌, ◌*◌, ◌%◌, ◌<◌, ◌≤◌, List, Option, None, length, get_or, sym, ◌∙◌, ap, subst, arith}
use Rattle.std.proofs.lemmas.Bool.{cases_eq}
use Rattle.std.specs.FinMap as finite
use Rattle.ob_base.specs.declared.params.Params.{Params}
use Rattle.ob_store.specs.Disk.{Disk, Image}
use Rattle.ob_store.specs.Images.{SameOff, Passes, LeavesOnly}
use Rattle.ob_store.proofs.Moments.{leaves_of, then_on, weakened}
use Rattle.ob_seal.specs.declared.keys.Keys.{Keys}
use Rattle.ob_seal.specs.Pieces.{onward}
use Rattle.ob_twin.specs.Keyed.{tagging}
use Rattle.ob_twin.specs.Register.{KeepsAt, OldOrNew}
use Rattle.ob_serial.specs.Vaults.{Standing}
use Rattle.ob_flat.specs.Rows.{IsRow, AreRows}
use Rattle.ob_flat.specs.Places.{area_of}
use Rattle.ob_flat.specs.Standing.{HasSealedRows, StandsFlat}
use Rattle.ob_flat.specs.Ends.{EndsFrom, StandsAtOne}
use Rattle.ob_flat.proofs.Moved.{stands_moved, stands_same, epoch_set}

pub areas : (n m next : ℕ) → next ≡ suc m → ((area_of n m ≡ 9) × (area_of n next ≡ 9 + n)) ⊎ ((area_of n m ≡ 9 + n) × (area_of n next ≡ 9))
areas n m next is =
    ⊎_elim
    (λ even. let odd_next : next % 2 ≡ 1 = omega arith in inl (ap (λ p. 9 + p * n) even ∙ omega arith, ap (λ p. 9 + p * n) odd_next ∙ omega arith))
    (λ other. let odd : m % 2 ≡ 1 = omega arith in let even_next : next % 2 ≡ 0 = omega arith in inr (ap (λ p. 9 + p * n) odd ∙ omega arith, ap (λ p. 9 + p * n) even_next ∙ omega arith))
    (cases_eq (m % 2) 0)

-- the cells that the rows of the next epoch leave alone
pub spared_row : (n m next key : ℕ) → next ≡ suc m → key < n → (area_of n m + key < area_of n next) ⊎ (area_of n next + n ≤ area_of n m + key)
spared_row n m next key is lt = ⊎_elim (λ a. inl (omega arith)) (λ a. inr (omega arith)) (areas n m next is)

pub spared_low : (n next k : ℕ) → k < 9 → (k < area_of n next) ⊎ (area_of n next + n ≤ k)
spared_low n next k low = inl (omega arith)

module _ (keys : Keys) (p : Params) (g : ℕ) (old : Disk) (epoch : ℕ) (values : List (Option (List ℕ))) (now next : Standing) (from : EndsFrom keys p g old epoch values now next) where
  follows : epoch ≡ suc now.epoch
  follows = from.follows

  -- while the rows are written the image stands for the old epoch
  pub rows_stay : (c d : Image) → SameOff (area_of (length values) epoch) (length values) c d → StandsFlat keys p g d now → StandsFlat keys p g c now
  rows_stay c d same stands =
      let off : SameOff (area_of p.keys epoch) p.keys c d = subst (λ n. SameOff (area_of n epoch) n c d) from.whole same in
      stands_moved keys p g now c d (λ k low. off k (spared_low p.keys epoch k low)) (λ key lt. off _ (spared_row p.keys now.epoch epoch key from.follows lt)) stands

  pub rows_leave : (mid : Disk) → ((c : Image) → old.left_since old.moment c → old.may_leave c) → Passes (SameOff (area_of (length values) epoch) (length values)) old mid → LeavesOnly old mid (λ c. StandsFlat keys p g c now)
  rows_leave mid only passes =
      leaves_of (SameOff (area_of (length values) epoch) (length values)) (λ d. StandsFlat keys p g d now) (λ c. StandsFlat keys p g c now) old mid passes only
      (λ c left. stands_same keys p g now c old.cells (from.settled c left) from.stands)
      (λ tells. from.stands)
      (λ c d was step. rows_stay c d step was)
      (λ c was. was)

  -- the rows that were written are those of the next map
  rows_next : (d : Image) → AreRows keys (area_of (length values) epoch) d values → HasSealedRows keys (area_of p.keys next.epoch) p.keys d next.content
  rows_next d rows = record { generation = rows.0; first = rows.1; each = row }
    where
      row : (key : ℕ) → key < p.keys → IsRow keys (area_of p.keys next.epoch + key) rows.0 (onward rows.1 key) (d (area_of p.keys next.epoch + key)) (finite.get next.content key)
      row key lt =
          let here : key < length values = omega (arith, from.whole) in
          let value : finite.get next.content key ≡ get_or values key None = from.content.below key here in
          let at : area_of (length values) epoch ≡ area_of p.keys next.epoch = ap (λ n. area_of n epoch) from.whole ∙ ap (λ e. area_of p.keys e) (sym from.is) in
          subst (λ (v : Option (List ℕ)). IsRow keys (area_of p.keys next.epoch + key) rows.0 (onward rows.1 key) (d (area_of p.keys next.epoch + key)) v) (sym value)
          (subst (λ a. IsRow keys (a + key) rows.0 (onward rows.1 key) (d (a + key)) (get_or values key None)) at (rows.2 key here))

  pub stands_next : (c d : Image) → AreRows keys (area_of (length values) epoch) d values → StandsFlat keys p g d now → KeepsAt (tagging keys) 5 d epoch c → StandsFlat keys p g c next
  stands_next c d rows stands kept =
      epoch_set keys p g now next c d (subst (λ e. KeepsAt (tagging keys) 5 d e c) (sym from.is) kept) stands (rows_next d rows) (λ key le. from.content.above key (omega (arith, from.whole)))

  pub stands_now : (c d : Image) → StandsFlat keys p g d now → KeepsAt (tagging keys) 5 d now.epoch c → StandsFlat keys p g c now
  stands_now c d stands kept = epoch_set keys p g now now c d kept stands stands.rows stands.no_more

  -- the rows, and then the number
  pub ends_at_one : (mid new : Disk) → ((c : Image) → old.left_since old.moment c → old.may_leave c) → Passes (SameOff (area_of (length values) epoch) (length values)) old mid
      → SameOff (area_of (length values) epoch) (length values) mid.cells old.cells → AreRows keys (area_of (length values) epoch) mid.cells values
      → LeavesOnly mid new (OldOrNew (tagging keys) 5 mid.cells now.epoch epoch) → LeavesOnly old new (StandsAtOne keys p g now next)
  ends_at_one mid new only passes same rows last =
      let stands_mid : StandsFlat keys p g mid.cells now = rows_stay mid.cells old.cells same from.stands in
      then_on old mid new (StandsAtOne keys p g now next)
      (weakened old mid (λ c. StandsFlat keys p g c now) (StandsAtOne keys p g now next) (λ c stands. inl stands) (rows_leave mid only passes))
      (weakened mid new (OldOrNew (tagging keys) 5 mid.cells now.epoch epoch) (StandsAtOne keys p g now next)
      (λ c either. ⊎_elim (λ kept. inl (stands_now c mid.cells stands_mid kept)) (λ kept. inr (stands_next c mid.cells rows stands_mid kept)) either)
      last)

  pub ends_before : (mid new : Disk) → ((c : Image) → old.left_since old.moment c → old.may_leave c) → Passes (SameOff (area_of (length values) epoch) (length values)) old mid
      → SameOff (area_of (length values) epoch) (length values) mid.cells old.cells
      → LeavesOnly mid new (KeepsAt (tagging keys) 5 mid.cells now.epoch) → LeavesOnly old new (λ c. StandsFlat keys p g c now)
  ends_before mid new only passes same last =
      let stands_mid : StandsFlat keys p g mid.cells now = rows_stay mid.cells old.cells same from.stands in
      then_on old mid new (λ c. StandsFlat keys p g c now) (rows_leave mid only passes)
      (weakened mid new (KeepsAt (tagging keys) 5 mid.cells now.epoch) (λ c. StandsFlat keys p g c now) (λ c kept. stands_now c mid.cells stands_mid kept) last)
