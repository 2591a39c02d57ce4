-- Rows in rising order have just the keys of a range that pass a test.
use Rattle.std.specs.Prelude.{◌≡◌, ◌≢◌, ◌<◌, ◌≤◌, ℕ, ◌+◌, Bool, true, false, ◌&&◌, T, cond, List, [], ◌∷◌, map, filter, length}
use Rattle.std.specs.List.{range_with_len}
use Rattle.std.specs.Ordering.{nat_cmp}
use Rattle.std.specs.FinMap.{is_sorted}
use Rattle.std.specs.FinMap.Entries.{below_all}
use Rattle.std.proofs.Common.{zero, suc, arith, refl, sym, ap, ◌∙◌}
use Rattle.std.proofs.lemmas.Bool.{true≢false}
use Rattle.ob_tables.specs.Rows.{row_key_at, Rises}
use Rattle.ob_tables.proofs.RowLaws.{rises}

rest_rises : (a b : Bool) → T (a && b) → T b
rest_rises true b h = h
rest_rises false b h = absurd h

abbrev first_of : ℕ × List ℕ → ℕ
first_of row = row.0

module _ (q : ℕ → Bool) where
  -- each number of a range that passes is a row's key, and each row's key is one
  pub record AreKeys (a n : ℕ) (rows : List (ℕ × List ℕ)) : Type 0 where
    pub rise : Rises rows
    pub there : (k : ℕ) → a ≤ k → k < a + n → q k ≡ true → (i : ℕ) × (i < length rows) × (row_key_at rows i ≡ k)
    pub pass : (i : ℕ) → i < length rows → q (row_key_at rows i) ≡ true
    pub from : (i : ℕ) → i < length rows → a ≤ row_key_at rows i
    pub low : (i : ℕ) → i < length rows → row_key_at rows i < a + n

  -- the first number is no key
  without : (a n : ℕ) (rows : List (ℕ × List ℕ)) → q a ≡ false → AreKeys a (suc n) rows → AreKeys (a + 1) n rows
  without a n rows out k = record {
    rise = k.rise;
    there = λ x le lt on. k.there x (omega arith) (omega arith) on;
    pass = k.pass;
    from = λ i lt. (
        let ne : a ≢ row_key_at rows i = λ e. true≢false (sym (k.pass i lt) ∙ ap q (sym e) ∙ out) in
        let le : a ≤ row_key_at rows i = k.from i lt in
        omega arith);
    low = λ i lt. (let l : row_key_at rows i < a + suc n = k.low i lt in omega arith);
  }

  first_is : (a n : ℕ) (row : ℕ × List ℕ) (rows : List (ℕ × List ℕ)) → q a ≡ true → AreKeys a (suc n) (row ∷ rows) → row.0 ≡ a
  first_is a n row rows on k =
      let at = k.there a (omega arith) (omega arith) on in
      let le : a ≤ row.0 = k.from 0 (omega arith) in
      found at.0 at.1 at.2 le
    where
      found : (i : ℕ) → i < suc (length rows) → row_key_at (row ∷ rows) i ≡ a → a ≤ row.0 → row.0 ≡ a
      found zero lt is le = is
      found (suc i) lt is le = let more : row.0 < row_key_at (row ∷ rows) (suc i) = rises (row ∷ rows) k.rise 0 (suc i) (omega arith) (omega arith) in absurd (omega arith)

  behind : (a n : ℕ) (row : ℕ × List ℕ) (rows : List (ℕ × List ℕ)) → row.0 ≡ a → AreKeys a (suc n) (row ∷ rows) → AreKeys (a + 1) n rows
  behind a n row rows is k = record {
    rise = rest_rises (below_all nat_cmp row.0 rows) (is_sorted nat_cmp rows) k.rise;
    there = λ x le lt on. (let at = k.there x (omega arith) (omega arith) on in later x at.0 at.1 at.2 le);
    pass = λ i lt. k.pass (suc i) (omega arith);
    from = λ i lt. (let more : row.0 < row_key_at (row ∷ rows) (suc i) = rises (row ∷ rows) k.rise 0 (suc i) (omega arith) (omega arith) in let e : row_key_at (row ∷ rows) (suc i) ≡ row_key_at rows i = refl in omega arith);
    low = λ i lt. (let l : row_key_at rows i < a + suc n = k.low (suc i) (omega arith) in omega arith);
  }
    where
      later : (x i : ℕ) → i < suc (length rows) → row_key_at (row ∷ rows) i ≡ x → a + 1 ≤ x → (j : ℕ) × (j < length rows) × (row_key_at rows j ≡ x)
      later x zero lt at le = let e : row.0 ≡ x = at in absurd (omega arith)
      later x (suc i) lt at le = (i, (let l : i < length rows = omega arith in l), at)

  pub keys_are : (n a : ℕ) (rows : List (ℕ × List ℕ)) → AreKeys a n rows → map first_of rows ≡ filter q (range_with_len a n)
  keys_are zero a [] k = refl
  keys_are zero a (row ∷ rows) k = absurd (let le : a ≤ row.0 = k.from 0 (omega arith) in let lt : row.0 < a + 0 = k.low 0 (omega arith) in omega arith)
  keys_are (suc n) a rows k = by_case (q a) refl rows k (λ rs ks. keys_are n (a + 1) rs ks)
    where
      by_case : (b : Bool) → q a ≡ b → (rs : List (ℕ × List ℕ)) → AreKeys a (suc n) rs → ((es : List (ℕ × List ℕ)) → AreKeys (a + 1) n es → map first_of es ≡ filter q (range_with_len (a + 1) n)) → map first_of rs ≡ cond (q a)
          (a ∷ filter q (range_with_len (a + 1) n)) (filter q (range_with_len (a + 1) n))
      by_case false out rs ks rest = rest rs (without a n rs out ks) ∙ ap (λ (b : Bool). cond b (a ∷ filter q (range_with_len (a + 1) n)) (filter q (range_with_len (a + 1) n))) (sym out)
      by_case true on [] ks rest = absurd (let at = ks.there a (omega arith) (omega arith) on in let l : at.0 < 0 = at.1 in omega arith)
      by_case true on (row ∷ rs) ks rest =
          let is : row.0 ≡ a = first_is a n row rs on ks in
          ap (λ (x : ℕ). x ∷ map first_of rs) is ∙ ap (λ (xs : List ℕ). a ∷ xs) (rest rs (behind a n row rs is ks))
          ∙ ap (λ (b : Bool). cond b (a ∷ filter q (range_with_len (a + 1) n)) (filter q (range_with_len (a + 1) n))) (sym on)
