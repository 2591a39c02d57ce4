-- A front of a history's run is one, of fewer steps.
use Rattle.std.specs.Prelude.{◌≡◌, ◌<◌, ◌≤◌, ◌⊎◌, ℕ, Bool, ◌+◌, List, [], ◌++◌, take, length}
use Rattle.std.proofs.Common.{zero, suc, arith, refl, sym, ap, ◌∙◌, inl, inr}
use Rattle.ob_base.specs.declared.params.Params.{Params}
use Rattle.ob_store.specs.declared.watch.Note.{Note}
use Rattle.ob_histories.specs.Fills.{AllFills}
use Rattle.ob_histories.specs.Runs.{HistoryTurn, RunFound, first_turn, next_turn, notes_from, notes_of_turn, notes_shown, opening_step}
use Rattle.ob_histories.proofs.Lists.{front_cases}
use Rattle.ob_admitted.specs.Fronts.{FrontsAreRuns}

none_shown : (count : ℕ) → ◌≡◌ {A = List Note} (take count []) []
none_shown zero = refl
none_shown (suc count) = refl

module _ (p : Params) (f : AllFills) where
  -- so many whole turns, and some of the next one, or all of them
  abbrev pub Front : ℕ → HistoryTurn → List Note → Type 0
  Front steps t notes = (whole : ℕ) × (shown : ℕ) × (notes_from p f t whole shown ≡ notes) × ((whole < steps) ⊎ ((whole ≡ steps) × (shown ≡ 0)))

  pub front_turns : (steps : ℕ) (t : HistoryTurn) (count : ℕ) → Front steps t (take count (notes_from p f t steps 0))
  front_turns zero t count = (0, 0, sym (none_shown count), inr (refl, refl))
  front_turns (suc steps) t count = go (front_cases count (notes_of_turn p f t) (notes_from p f (next_turn p t) steps 0)) (λ m. front_turns steps (next_turn p t) m)
    where
      one_more : (whole shown : ℕ) → (whole < steps) ⊎ ((whole ≡ steps) × (shown ≡ 0)) → (suc whole < suc steps) ⊎ ((suc whole ≡ suc steps) × (shown ≡ 0))
      one_more whole shown (inl few) = inl (omega (arith, few))
      one_more whole shown (inr (all, none)) = inr (ap suc all, none)

      go : ((count ≤ length (notes_of_turn p f t)) × (take count (notes_of_turn p f t ++ notes_from p f (next_turn p t) steps 0) ≡ take count (notes_of_turn p f t)))
          ⊎ ((m : ℕ) × ((count ≡ length (notes_of_turn p f t) + m) × (take count (notes_of_turn p f t ++ notes_from p f (next_turn p t) steps 0) ≡ notes_of_turn p f t ++ take m (notes_from p f (next_turn p t) steps 0))))
          → ((m : ℕ) → Front steps (next_turn p t) (take m (notes_from p f (next_turn p t) steps 0))) → Front (suc steps) t (take count (notes_of_turn p f t ++ notes_from p f (next_turn p t) steps 0))
      go (inl (few, same)) later = (0, count, sym same, inl (omega arith))
      go (inr (m, (is, same))) later = (let rest = later m in (suc rest.0, rest.1, ap (λ (ns : List Note). notes_of_turn p f t ++ ns) rest.2 ∙ sym same, one_more rest.0 rest.1 rest.3))

  front_run : (mirrored : Bool) (found : RunFound) (steps count : ℕ) → (n : ℕ) × ((shown : ℕ) × (notes_shown p f mirrored found n shown ≡ take count (notes_shown p f mirrored found steps 0)))
  front_run mirrored found zero count = (0, (0, sym (none_shown count)))
  front_run mirrored found (suc steps) count = go (front_cases count (opening_step p f mirrored found) (notes_from p f (first_turn found) steps 0))
    where
      go : ((count ≤ length (opening_step p f mirrored found)) × (take count (opening_step p f mirrored found ++ notes_from p f (first_turn found) steps 0) ≡ take count (opening_step p f mirrored found)))
          ⊎ ((m : ℕ) × ((count ≡ length (opening_step p f mirrored found) + m) × (take count (opening_step p f mirrored found ++ notes_from p f (first_turn found) steps 0) ≡ opening_step p f mirrored found ++ take m (notes_from p f (first_turn found) steps 0))))
          → (n : ℕ) × ((shown : ℕ) × (notes_shown p f mirrored found n shown ≡ take count (opening_step p f mirrored found ++ notes_from p f (first_turn found) steps 0)))
      go (inl (few, same)) = (0, (count, sym same))
      go (inr (m, (is, same))) = (let rest = front_turns steps (first_turn found) m in (suc rest.0, (rest.1, ap (λ (ns : List Note). opening_step p f mirrored found ++ ns) rest.2 ∙ sym same)))

pub fronts_are : FrontsAreRuns
fronts_are p f mirrored found steps count =
    let front = front_run p f mirrored found steps count in
    record { run = record { mirrored = mirrored; found = found; steps = front.0; shown = front.1.0 }; has = refl; finds = refl; shows = front.1.1 }
