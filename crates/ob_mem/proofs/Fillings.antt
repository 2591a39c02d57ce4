-- What a crash leaves, filling by filling.
use Rattle.std.proofs.Common.{◌≡◌, ◌≢◌, ◌⊎◌, inl, inr, ⊎_elim, ℕ, ◌+◌, ◌<◌, ◌≤◌, List, [], ◌∷◌, ◌++◌, length, take, min, get_or, Some, None, true, false, Contains, refl, sym, ◌∙◌, ap, subst, arith, ◌==◌, if◌then◌else◌}
use Rattle.std.proofs.Math.ListN.{set}
use Rattle.std.proofs.lemmas.Bool.{cases_eq, cases_lt}
use Rattle.std.proofs.lemmas.Bool.Decides.{nat_tests}
use Rattle.std.proofs.lemmas.List.{get_or-set_other, get_or-set_same, set_past, take_more, take_all}
use Rattle.std.proofs.lemmas.List.Sums.{fold-append}
use Rattle.ob_store.specs.Disk.{Image}
use Rattle.ob_mem.specs.declared.call.Call.{Call}
use Rattle.ob_mem.specs.Replay.{Moment, after_call, replay, zeros, cell_of, IsUnsure, IsCell, MayLeave, given, IsLeft}
use Rattle.ob_mem.proofs.Calls.{replay-push}

pub replay_next : (calls : List Call) (i : ℕ) (d : Call) (s : Moment) → i < length calls → replay (take (i + 1) calls) s ≡ after_call (get_or calls i d) (replay (take i calls) s)
replay_next calls i d s lt = ap (λ (l : List Call). replay l s) (take_more calls i d lt) ∙ replay-push (take i calls) (get_or calls i d) s

given_push : (fs : List (ℕ × List ℕ)) (cell k : ℕ) (bytes : List ℕ) → given (fs ++ (cell, bytes) ∷ []) k ≡ (if cell == k then Some bytes else given fs k)
given_push fs cell k bytes = fold-append (λ found f. if f.0 == k then Some f.1 else found) None fs ((cell, bytes) ∷ [])

given_here : (fs : List (ℕ × List ℕ)) (cell : ℕ) (bytes : List ℕ) → given (fs ++ (cell, bytes) ∷ []) cell ≡ Some bytes
given_here fs cell bytes = given_push fs cell cell bytes ∙ (rw same refl)
  where
    same : (cell == cell) ≡ true
    same = grind (arith, nat_tests)

given_there : (fs : List (ℕ × List ℕ)) (cell k : ℕ) (bytes : List ℕ) → k ≢ cell → given (fs ++ (cell, bytes) ∷ []) k ≡ given fs k
given_there fs cell k bytes ne = given_push fs cell k bytes ∙ (rw other refl)
  where
    other : (cell == k) ≡ false
    other = grind (arith, nat_tests)

-- one filling more
module _ (s : Moment) (fs : List (ℕ × List ℕ)) (cells : List (List ℕ)) (size : length cells ≡ length s.cells) (left : IsLeft s fs (cell_of cells)) (cell : ℕ) (bytes : List ℕ) where
  put_here : cell < length s.cells → cell_of (set cells cell bytes) cell ≡ bytes
  put_here lt = let there : cell < length cells = omega arith in get_or-set_same cells cell bytes zeros there

  put_there : (k : ℕ) → k ≢ cell → cell_of (set cells cell bytes) k ≡ cell_of cells k
  put_there k ne = get_or-set_other cells cell k bytes zeros ne

  pub filled_one : Contains s.unsure cell → IsLeft s (fs ++ (cell, bytes) ∷ []) (cell_of (set cells cell bytes))
  filled_one among = record {
    filled = λ k b unsure found. ⊎_elim
        (λ (here : k ≡ cell).
        let lt : cell < length s.cells = omega (arith, unsure.1, here) in
        let is : Some bytes ≡ Some b = sym (given_here fs cell bytes) ∙ ap (λ j. given (fs ++ (cell, bytes) ∷ []) j) (sym here) ∙ found in
        let same : bytes ≡ b = cc in
        ap (cell_of (set cells cell bytes)) here ∙ put_here lt ∙ same)
        (λ ne. put_there k ne ∙ left.filled k b unsure (sym (given_there fs cell k bytes ne) ∙ found))
        (cases_eq k cell);
    unfilled = λ k none. ⊎_elim
        (λ (here : k ≡ cell).
        let is : Some bytes ≡ None = sym (given_here fs cell bytes) ∙ ap (λ j. given (fs ++ (cell, bytes) ∷ []) j) (sym here) ∙ none in
        absurd (let wrong : Some bytes ≡ None = is in cc))
        (λ ne. put_there k ne ∙ left.unfilled k (sym (given_there fs cell k bytes ne) ∙ none))
        (cases_eq k cell);
    sure = λ k not_unsure. ⊎_elim
        (λ (here : k ≡ cell). ⊎_elim
        (λ lt. absurd (not_unsure (subst (λ j. Contains s.unsure j) (sym here) among, omega (arith, lt, here))))
        (λ out. let past : length cells ≤ cell = omega arith in ap (λ (l : List (List ℕ)). cell_of l k) (set_past cells cell bytes past) ∙ left.sure k not_unsure)
        (cases_lt cell (length s.cells)))
        (λ ne. put_there k ne ∙ left.sure k not_unsure)
        (cases_eq k cell);
  }

  pub skipped_one : (Contains s.unsure cell → ⊥) → IsLeft s (fs ++ (cell, bytes) ∷ []) (cell_of cells)
  skipped_one out = record {
    filled = λ k b unsure found. ⊎_elim
        (λ (here : k ≡ cell). absurd (out (subst (λ j. Contains s.unsure j) here unsure.0)))
        (λ ne. left.filled k b unsure (sym (given_there fs cell k bytes ne) ∙ found))
        (cases_eq k cell);
    unfilled = λ k none. ⊎_elim
        (λ (here : k ≡ cell).
        let is : Some bytes ≡ None = sym (given_here fs cell bytes) ∙ ap (λ j. given (fs ++ (cell, bytes) ∷ []) j) (sym here) ∙ none in
        absurd (let wrong : Some bytes ≡ None = is in cc))
        (λ ne. left.unfilled k (sym (given_there fs cell k bytes ne) ∙ none))
        (cases_eq k cell);
    sure = λ k not_unsure. left.sure k not_unsure;
  }

  pub possible_one : Contains s.unsure cell → IsCell bytes → MayLeave s (cell_of cells) → MayLeave s (cell_of (set cells cell bytes))
  possible_one among is may k = ⊎_elim
      (λ (here : k ≡ cell). ⊎_elim
      (λ lt. inl ((subst (λ j. Contains s.unsure j) (sym here) among, omega (arith, lt, here)), subst (λ (b : List ℕ). IsCell b) (sym (ap (cell_of (set cells cell bytes)) here ∙ put_here lt)) is))
      (λ out. let past : length cells ≤ cell = omega arith in subst (λ (l : List (List ℕ)). (IsUnsure s k × IsCell (cell_of l k)) ⊎ (cell_of l k ≡ cell_of s.cells k)) (sym (set_past cells cell bytes past)) (may k))
      (cases_lt cell (length s.cells)))
      (λ ne. subst (λ (b : List ℕ). (IsUnsure s k × IsCell b) ⊎ (b ≡ cell_of s.cells k)) (sym (put_there k ne)) (may k))
      (cases_eq k cell)

nothing : (b : List ℕ) → None ≡ Some b → ⊥
nothing b found = cc

-- none is given yet
pub none_filled : (s : Moment) → IsLeft s [] (cell_of s.cells)
none_filled s = record {
  filled = λ k b unsure found. absurd (nothing b found);
  unfilled = λ k none. refl;
  sure = λ k out. refl;
}

pub none_possible : (s : Moment) → MayLeave s (cell_of s.cells)
none_possible s k = inr refl

-- one step of the loop
module _ (s : Moment) (fillings : List (ℕ × List ℕ)) (i : ℕ) (d : ℕ × List ℕ) (cells new : List (List ℕ)) (lt : i < length fillings) (size : length cells ≡ length s.cells) (left : IsLeft s (take i fillings) (cell_of cells))
    (cases : (Contains s.unsure (get_or fillings i d).0 × (new ≡ set cells (get_or fillings i d).0 (get_or fillings i d).1)) ⊎ ((Contains s.unsure (get_or fillings i d).0 → ⊥) × (new ≡ cells))) where
  pub left_next : IsLeft s (take (i + 1) fillings) (cell_of new)
  left_next = rw (take_more fillings i d lt) (⊎_elim
      (λ put. subst (λ (l : List (List ℕ)). IsLeft s (take i fillings ++ get_or fillings i d ∷ []) (cell_of l)) (sym put.1) (filled_one s (take i fillings) cells size left (get_or fillings i d).0 (get_or fillings i d).1 put.0))
      (λ same. subst (λ (l : List (List ℕ)). IsLeft s (take i fillings ++ get_or fillings i d ∷ []) (cell_of l)) (sym same.1) (skipped_one s (take i fillings) cells size left (get_or fillings i d).0 (get_or fillings i d).1 same.0))
      cases)

  pub possible_next : IsCell (get_or fillings i d).1 → MayLeave s (cell_of cells) → MayLeave s (cell_of new)
  possible_next is may = ⊎_elim
      (λ put. subst (λ (l : List (List ℕ)). MayLeave s (cell_of l)) (sym put.1) (possible_one s (take i fillings) cells size left (get_or fillings i d).0 (get_or fillings i d).1 put.0 is may))
      (λ same. subst (λ (l : List (List ℕ)). MayLeave s (cell_of l)) (sym same.1) may)
      cases

-- one call of the replay more
module _ (calls : List Call) (i : ℕ) (d : Call) (s : Moment) (cells : List (List ℕ)) (unsure : List ℕ) (lt : i < length calls)
    (cells_are : cells ≡ (replay (take i calls) s).cells) (unsure_are : unsure ≡ (replay (take i calls) s).unsure) where
  held : ◌≡◌ {A = Moment} (record { cells = cells; unsure = unsure }) (replay (take i calls) s)
  held = ap (λ (l : List (List ℕ)). record { cells = l; unsure = unsure }) cells_are ∙ ap (λ (l : List ℕ). record { cells = (replay (take i calls) s).cells; unsure = l }) unsure_are

  pub held_next : after_call (get_or calls i d) (record { cells = cells; unsure = unsure }) ≡ replay (take (i + 1) calls) s
  held_next = ap (after_call (get_or calls i d)) held ∙ sym (replay_next calls i d s lt)

-- the cells and the cells that aren't sure, as they were kept one beside the other
module _ (s : Moment) (cells : List (List ℕ)) (unsure : List ℕ) (cells_are : cells ≡ s.cells) (unsure_are : unsure ≡ s.unsure) (fillings : List (ℕ × List ℕ)) (image : Image) where
  pair : ◌≡◌ {A = Moment} (record { cells = cells; unsure = unsure }) s
  pair = ap (λ (l : List (List ℕ)). record { cells = l; unsure = unsure }) cells_are ∙ ap (λ (l : List ℕ). record { cells = s.cells; unsure = l }) unsure_are

  pub left_of : IsLeft (record { cells = cells; unsure = unsure }) fillings image → IsLeft s fillings image
  left_of = subst (λ (m : Moment). IsLeft m fillings image) pair

  pub possible_of : MayLeave (record { cells = cells; unsure = unsure }) image → MayLeave s image
  possible_of = subst (λ (m : Moment). MayLeave m image) pair

-- more calls than there are
pub take_min : (calls : List Call) (n : ℕ) → take (min n (length calls)) calls ≡ take n calls
take_min calls n = ⊎_elim
    (λ lt. let e : min n (length calls) ≡ n = omega arith in ap (λ m. take m calls) e)
    (λ le. let e : min n (length calls) ≡ length calls = omega arith in ap (λ m. take m calls) e ∙ take_all (length calls) calls (omega arith) ∙ sym (take_all n calls le))
    (cases_lt n (length calls))
