-- A run of cells as far as it is read.
use Rattle.std.proofs.Common.{◌≡◌, ◌≢◌, ℕ, zero, suc, ◌+◌, ◌<◌, ◌^◌, ◌%◌, List, Option, Some, None, Result, Err, get_or, set, length, refl, sym, ap, ◌∙◌, subst, arith, below_more, get_or-set_same, get_or-set_other}
use mathlib.Core.Path.{fun_ext}
use Rattle.ob_base.specs.declared.fault.Fault.{Fault}
use Rattle.ob_base.specs.declared.fault.Fault.TheVariants.{Memory, Usage, BadScript, BadParams, NotStore, Damaged, StoreFault, StashFull, Worn, SourceFault, SinkFault}
use Rattle.ob_store.specs.Disk.{Image}
use Rattle.ob_seal.specs.declared.keys.Keys.{Keys}
use Rattle.ob_seal.specs.Damage.{IsExpected}
use Rattle.ob_seal.specs.Pieces.{onward}
use Rattle.ob_flat.specs.declared.row.Row.{Row}
use Rattle.ob_flat.specs.Rows.{IsRow, AreRows}
use Rattle.ob_cells.specs.Reads.{expected_at}
use Rattle.ob_flat.specs.Reads.{IsOneRowRead, AreRowsRead}

-- The rows so far: their seals go on from the first one's, and the next row is expected to have the seal behind the last one's.
pub record SoFar (keys : Keys) (base : ℕ) (image : Image) (values : List (Option (List ℕ))) (i : ℕ) (expected : Option (ℕ × ℕ)) : Type 0 where
  pub generation : ℕ
  pub first : ℕ
  pub next : expected ≡ expected_at generation first i
  pub rows : (j : ℕ) → j < i → IsRow keys (base + j) generation (onward first j) (image (base + j)) (get_or values j None)

pub none_read : (keys : Keys) (base : ℕ) (image : Image) (values : List (Option (List ℕ))) → SoFar keys base image values 0 None
none_read keys base image values = record { generation = 0; first = 0; next = refl; rows = λ j lt. absurd (omega arith) }

-- the seal behind the last one
behind : (first i n : ℕ) → n ≡ onward first i → (n + 1) % 2 ^ 64 ≡ onward first (suc i)
behind first i n is = omega arith

module _ (keys : Keys) (base : ℕ) (image : Image) (values : List (Option (List ℕ))) where
  -- one row more, of the run that begins with this seal
  taken : (i generation first : ℕ) (row : Row) → i < length values → generation ≡ row.generation → onward first i ≡ row.number
      → ((j : ℕ) → j < i → IsRow keys (base + j) generation (onward first j) (image (base + j)) (get_or values j None)) → IsRow keys (base + i) row.generation row.number (image (base + i)) row.value
      → SoFar keys base image (set values i row.value) (i + 1) (Some (row.generation, (row.number + 1) % 2 ^ 64))
  taken i generation first row lt same number rows here =
      let one : i + 1 ≡ suc i = omega arith in
      record {
        generation = generation;
        first = first;
        next = ap (λ (e : ℕ × ℕ). Some e) (pair same (behind first i row.number (sym number))) ∙ ap (λ n. expected_at generation first n) (sym one);
        rows = below_more (λ j. IsRow keys (base + j) generation (onward first j) (image (base + j)) (get_or (set values i row.value) j None)) i
            (λ j below. let other : j ≢ i = omega arith in subst (λ (v : Option (List ℕ)). IsRow keys (base + j) generation (onward first j) (image (base + j)) v) (sym (get_or-set_other values i j row.value None other)) (rows j below))
            (subst (λ (v : Option (List ℕ)). IsRow keys (base + i) generation (onward first i) (image (base + i)) v) (sym (get_or-set_same values i row.value None lt))
            (subst (λ n. IsRow keys (base + i) generation n (image (base + i)) row.value) (sym number) (subst (λ n. IsRow keys (base + i) n row.number (image (base + i)) row.value) (sym same) here)));
      }
    where
      pair : {a b c d : ℕ} → a ≡ b → c ≡ d → ◌≡◌ {A = ℕ × ℕ} (b, c) (a, d)
      pair p q = cc

  one_row : (i : ℕ) (expected : Option (ℕ × ℕ)) (row : Row) → i < length values → SoFar keys base image values i expected → IsExpected expected row.generation row.number
      → IsRow keys (base + i) row.generation row.number (image (base + i)) row.value
      → SoFar keys base image (set values i row.value) (i + 1) (Some (row.generation, (row.number + 1) % 2 ^ 64))
  one_row zero expected row lt so_far same here =
      taken zero row.generation row.number row lt refl (first_seal row.number here.number_fits) (λ j low. absurd (omega arith)) here
    where
      first_seal : (n : ℕ) → n < 2 ^ 64 → onward n 0 ≡ n
      first_seal n small = omega arith
  one_row (suc i) expected row lt so_far same here =
      let is : ◌≡◌ {A = ℕ × ℕ} (so_far.generation, onward so_far.first (suc i)) (row.generation, row.number) = subst (λ (e : Option (ℕ × ℕ)). IsExpected e row.generation row.number) so_far.next same in
      taken (suc i) so_far.generation so_far.first row lt (ap (λ (e : ℕ × ℕ). e.0) is) (ap (λ (e : ℕ × ℕ). e.1) is) so_far.rows here

  pub next_row : (i : ℕ) (expected : Option (ℕ × ℕ)) (row : Row) → i < length values → SoFar keys base image values i expected
      → IsExpected expected row.generation row.number × IsRow keys (base + i) row.generation row.number (image (base + i)) row.value
      → SoFar keys base image (set values i row.value) (i + 1) (Some (row.generation, (row.number + 1) % 2 ^ 64))
  next_row i expected row lt so_far read = one_row i expected row lt so_far read.0 read.1

  -- all rows
  pub all_read : (i : ℕ) (expected : Option (ℕ × ℕ)) → length values ≡ i → SoFar keys base image values i expected → AreRows keys base image values
  all_read i expected all so_far = (so_far.generation, so_far.first, λ j lt. so_far.rows j (omega (arith, all)))

  -- a row that breaks a rule stops the run
  pub stopped : (i : ℕ) (expected : Option (ℕ × ℕ)) (f : Fault) → i < length values → SoFar keys base image values i expected
      → IsOneRowRead keys (base + i) expected (image (base + i)) (Err f) → AreRowsRead keys base image values (Err f)
  stopped i expected (Damaged cell check kept computed) lt so_far breaks = record {
    row = i;
    within = lt;
    generation = so_far.generation;
    first = so_far.first;
    earlier = λ j low. (get_or values j None, so_far.rows j low);
    breaks = subst (λ (e : Option (ℕ × ℕ)). IsOneRowRead keys (base + i) e (image (base + i)) (Err (Damaged cell check kept computed))) so_far.next breaks;
  }
  stopped i expected Memory lt so_far breaks = tt
  stopped i expected Usage lt so_far breaks = tt
  stopped i expected (BadScript line) lt so_far breaks = tt
  stopped i expected (BadParams field) lt so_far breaks = tt
  stopped i expected NotStore lt so_far breaks = tt
  stopped i expected (StoreFault unsure) lt so_far breaks = tt
  stopped i expected (StashFull left) lt so_far breaks = tt
  stopped i expected (Worn number) lt so_far breaks = tt
  stopped i expected SourceFault lt so_far breaks = tt
  stopped i expected SinkFault lt so_far breaks = tt

-- the same cells have the same rows
pub read_alike : (keys : Keys) (base : ℕ) (a b : Image) (values : List (Option (List ℕ))) (r : Result (Unit {0}) Fault) → ((k : ℕ) → a k ≡ b k) → AreRowsRead keys base a values r → AreRowsRead keys base b values r
read_alike keys base a b values r same read = subst (λ (image : Image). AreRowsRead keys base image values r) (fun_ext (λ k. same k)) read
