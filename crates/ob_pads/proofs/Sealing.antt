-- Cells that are sealed with numbers in between: by one run of seals, by gates, and by one call behind another.
use Rattle.std.proofs.Common.{◌≡◌, ◌⊎◌, inl, inr, ⊎_elim, ℕ, ◌+◌, ◌-◌, ◌<◌, ◌≤◌, ◌^◌, List, [], ◌∷◌, Option, Result, Ok, Err, refl, sym, ap, ◌∙◌, subst, arith}
use Rattle.std.proofs.lemmas.Bool.{cases_eq, cases_lt}
use Rattle.ob_store.specs.Disk.{Image}
use Rattle.ob_store.specs.declared.event.Event.{Event}
use Rattle.ob_seal.specs.Pieces.{onward}
use Rattle.ob_seal.specs.Seals.{sealed}
use Rattle.ob_seal.specs.Sealing.{Sealing}
use Rattle.ob_seal.specs.declared.keys.Keys.{Keys}
use Rattle.ob_twin.specs.Clear.{InClearBy}
use Rattle.ob_twin.specs.Keyed.{tagging}
use Rattle.ob_serial.specs.Vaults.{VaultAnswer, Values, Ended, RefusedBy, DoubtBy}
use Rattle.ob_serial.specs.declared.vault.EndErr.{EndErr}
use Rattle.ob_serial.specs.declared.vault.EndErr.TheVariants as end
use Rattle.ob_pads.specs.Seals.{answer_of_end, CellsAreSealed, ClearBy, IsGate, IsSealedWith, IsUnsealed, SealerGoesOn}

-- ---- nothing was sealed

pub none_sealed : (was now : Sealing) (old new : Image) → ((cell : ℕ) → 9 ≤ cell → IsUnsealed old new cell) → CellsAreSealed was now old new
none_sealed was now old new unsealed = record {
  number = λ cell. 0;
  each = λ cell low. inl (unsealed cell low);
  alone = λ j k low_j low_k is. inr (inl (unsealed j low_j));
}

-- ---- a run of seals, behind which no other cell was sealed

module _ (base many : ℕ) (plain : ℕ → List ℕ) (was now : Sealing) (old new : Image) (next : now.next ≡ was.next + many) (fits : was.next + many ≤ 2 ^ 62)
    (written : (i : ℕ) → i < many → new (base + i) ≡ sealed was.keys (base + i) was.generation (onward was.next i) (plain i)) (rest : (cell : ℕ) → (cell < base) ⊎ (base + many ≤ cell) → IsUnsealed old new cell) where
  abbrev number_at : ℕ → ℕ
  number_at cell = was.next + (cell - base)

  in_run : (cell : ℕ) → ((base ≤ cell) × (cell < base + many)) ⊎ IsUnsealed old new cell
  in_run cell = ⊎_elim
      (λ below. inr (rest cell (inl below)))
      (λ from. ⊎_elim (λ lt. inl (from, lt)) (λ to. inr (rest cell (inr to))) (cases_lt cell (base + many)))
      (cases_lt cell base)

  at_cell : (cell : ℕ) → base ≤ cell → cell < base + many → IsSealedWith was now cell (number_at cell) (new cell)
  at_cell cell from to =
      let i : ℕ = cell - base in
      let here : base + i ≡ cell = omega (arith, from) in
      let lt : i < many = omega (arith, from, to) in
      let on : onward was.next i ≡ was.next + i = omega (arith, lt, fits) in
      subst (λ c. IsSealedWith was now c (number_at c) (new c)) here
      (record {
        plain = plain i;
        spelled = written i lt ∙ ap (λ n. sealed was.keys (base + i) was.generation n (plain i)) (on ∙ (let same : was.next + i ≡ was.next + (base + i - base) = omega arith in same));
        taken = omega arith;
        before = omega (arith, next, lt);
      })

  pub run_sealed : CellsAreSealed was now old new
  run_sealed = record {
    number = number_at;
    each = λ cell low. ⊎_elim (λ at. inr (at_cell cell at.0 at.1)) (λ unsealed. inl unsealed) (in_run cell);
    alone = λ j k low_j low_k is. ⊎_elim
        (λ at_j. ⊎_elim (λ at_k. inl (omega (arith, is, at_j.0, at_k.0))) (λ unsealed. inr (inr unsealed)) (in_run k))
        (λ unsealed. inr (inl unsealed))
        (in_run j);
  }

-- ---- one call behind another

-- two rows of bytes are the same, or not
same_bytes : (xs ys : List ℕ) → (xs ≡ ys) ⊎ (xs ≡ ys → ⊥)
same_bytes [] [] = inl refl
same_bytes [] (y ∷ ys) = inr (λ e. absurd (cc))
same_bytes (x ∷ xs) [] = inr (λ e. absurd (cc))
same_bytes (x ∷ xs) (y ∷ ys) = ⊎_elim
    (λ (here : x ≡ y). ⊎_elim (λ (more : xs ≡ ys). inl (λ i. here i ∷ more i)) (λ (apart : xs ≡ ys → ⊥). inr (λ e. apart (tails e))) (same_bytes xs ys))
    (λ (apart : x ≡ y → ⊥). inr (λ e. apart (heads e)))
    (cases_eq x y)
  where
    heads : x ∷ xs ≡ y ∷ ys → x ≡ y
    heads e = cc

    tails : x ∷ xs ≡ y ∷ ys → xs ≡ ys
    tails e = cc

module _ (a b c : Sealing) (x y z : Image) (on : SealerGoesOn a b) (more : SealerGoesOn b c) (first : CellsAreSealed a b x y) (second : CellsAreSealed b c y z) where
  -- a cell that the second call left is the first one's
  abbrev Left : ℕ → Type 0
  Left cell = (z cell ≡ y cell) ⊎ (z cell ≡ y cell → ⊥)

  left : (cell : ℕ) → Left cell
  left cell = same_bytes (z cell) (y cell)

  abbrev number_of : (cell : ℕ) → Left cell → ℕ
  number_of cell (inl same) = first.number cell
  number_of cell (inr apart) = second.number cell

  still : (cell : ℕ) → z cell ≡ y cell → IsUnsealed x y cell → IsUnsealed x z cell
  still cell same unsealed = ⊎_elim (λ (e : y cell ≡ x cell). inl (same ∙ e)) (λ (gate : IsGate (y cell)). inr (subst IsGate (sym same) gate)) unsealed

  sealed_first : (cell n : ℕ) → z cell ≡ y cell → IsSealedWith a b cell n (y cell) → IsSealedWith a c cell n (z cell)
  sealed_first cell n same s = record { plain = s.plain; spelled = same ∙ s.spelled; taken = s.taken; before = (let lt = s.before in let le = more.on in omega (arith, lt, le)) }

  sealed_second : (cell n : ℕ) → IsSealedWith b c cell n (z cell) → IsSealedWith a c cell n (z cell)
  sealed_second cell n s = record {
    plain = s.plain;
    spelled = s.spelled ∙ (λ i. sealed (on.keys i) cell (on.generation i) n s.plain);
    taken = (let le = on.on in let from = s.taken in omega (arith, le, from));
    before = s.before;
  }

  each_by : (cell : ℕ) (l : Left cell) → 9 ≤ cell → IsUnsealed x z cell ⊎ IsSealedWith a c cell (number_of cell l) (z cell)
  each_by cell (inl same) low = ⊎_elim (λ unsealed. inl (still cell same unsealed)) (λ s. inr (sealed_first cell (first.number cell) same s)) (first.each cell low)
  each_by cell (inr apart) low = ⊎_elim
      (λ (unsealed : IsUnsealed y z cell). ⊎_elim (λ (same : z cell ≡ y cell). absurd (apart same)) (λ (gate : IsGate (z cell)). inl (inr gate)) unsealed)
      (λ (s : IsSealedWith b c cell (second.number cell) (z cell)). inr (sealed_second cell (second.number cell) s))
      (second.each cell low)

  -- what is told of two cells of the second call
  apart_gate : (cell : ℕ) → (z cell ≡ y cell → ⊥) → IsUnsealed y z cell → IsUnsealed x z cell
  apart_gate cell apart unsealed = ⊎_elim (λ (same : z cell ≡ y cell). absurd (apart same)) (λ (gate : IsGate (z cell)). inr gate) unsealed

  abbrev Alone : ℕ → ℕ → Type 0
  Alone j k = (j ≡ k) ⊎ (IsUnsealed x z j ⊎ IsUnsealed x z k)

  -- a number of the first call is none of the second one's
  mixed : (j k : ℕ) → z j ≡ y j → (z k ≡ y k → ⊥) → 9 ≤ j → 9 ≤ k → first.number j ≡ second.number k → IsUnsealed x z j ⊎ IsUnsealed x z k
  mixed j k same apart low_j low_k is = ⊎_elim
      (λ (unsealed : IsUnsealed x y j). inl (still j same unsealed))
      (λ (s : IsSealedWith a b j (first.number j) (y j)). ⊎_elim
      (λ (unsealed : IsUnsealed y z k). inr (apart_gate k apart unsealed))
      (λ (t : IsSealedWith b c k (second.number k) (z k)). absurd (let lt = s.before in let from = t.taken in omega (arith, lt, from, is)))
      (second.each k low_k))
      (first.each j low_j)

  swap : {A B : Type 0} → A ⊎ B → B ⊎ A
  swap {A} {B} s = ⊎_elim (λ (l : A). inr l) (λ (r : B). inl r) s

  alone_by : (j k : ℕ) (l : Left j) (m : Left k) → 9 ≤ j → 9 ≤ k → number_of j l ≡ number_of k m → Alone j k
  alone_by j k (inl same) (inl kept) low_j low_k is = ⊎_elim
      (λ (e : j ≡ k). inl e)
      (λ (either : IsUnsealed x y j ⊎ IsUnsealed x y k). inr (⊎_elim (λ (u : IsUnsealed x y j). inl (still j same u)) (λ (u : IsUnsealed x y k). inr (still k kept u)) either))
      (first.alone j k low_j low_k is)
  alone_by j k (inl same) (inr apart) low_j low_k is = inr (mixed j k same apart low_j low_k is)
  alone_by j k (inr apart) (inl kept) low_j low_k is = inr (swap (mixed k j kept apart low_k low_j (sym is)))
  alone_by j k (inr apart) (inr other) low_j low_k is = ⊎_elim
      (λ (e : j ≡ k). inl e)
      (λ (either : IsUnsealed y z j ⊎ IsUnsealed y z k). inr (⊎_elim (λ (u : IsUnsealed y z j). inl (apart_gate j apart u)) (λ (u : IsUnsealed y z k). inr (apart_gate k other u)) either))
      (second.alone j k low_j low_k is)

  pub sealed_join : CellsAreSealed a c x z
  sealed_join = record {
    number = λ cell. number_of cell (left cell);
    each = λ cell low. each_by cell (left cell) low;
    alone = λ j k low_j low_k is. alone_by j k (left j) (left k) low_j low_k is;
  }

-- ---- the first nine cells

-- a call that leaves them as they were
pub kept_clear : (answer : VaultAnswer) (keys : Keys) (seen : Option (List Event)) (old new : Image) → ((cell : ℕ) → cell ≤ 8 → new cell ≡ old cell) → ClearBy answer keys seen old new
kept_clear (Values values) keys seen old new same = λ cell low. inl (same cell low)
kept_clear Ended keys seen old new same = λ cell low. inl (same cell low)
kept_clear (RefusedBy fault) keys seen old new same = λ cell low. inl (inl (same cell low))
kept_clear (DoubtBy fault) keys seen old new same = λ cell low. inl (inl (same cell low))

-- an end by its answer
pub ended_clear : (r : Result (Unit {0}) EndErr) (keys : Keys) (seen : Option (List Event)) (old new : Image) → InClearBy (tagging keys) seen old new r → ClearBy (answer_of_end r) keys seen old new
ended_clear (Ok done) keys seen old new clear = clear
ended_clear (Err (end.Before refused)) keys seen old new clear = clear
ended_clear (Err (end.Unsure refused)) keys seen old new clear = clear
