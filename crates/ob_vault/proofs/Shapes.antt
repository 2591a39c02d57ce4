-- Shapes of calls, one behind the other.
use Rattle.std.proofs.Common.{◌≡◌, suc, List, [], ◌∷◌, ◌++◌, length, map, None, refl, ap}
use Rattle.ob_serial.specs.Vaults.{VaultCall, Fetch, End, VaultAnswer, Values, Ended, RefusedBy, DoubtBy}
use Rattle.ob_vault.specs.Shapes.{Shape, Fetches, Ends, answered, shape_of, shapes, refused}
use Rattle.ob_vault.specs.KindLaws.{AllAnswered}

pub shapes_join : (xs ys : List (VaultCall × VaultAnswer)) → shapes (xs ++ ys) ≡ shapes xs ++ shapes ys
shapes_join [] ys = refl
shapes_join ((Fetch keys, Values values) ∷ xs) ys = ap (λ (l : List Shape). Fetches ∷ l) (shapes_join xs ys)
shapes_join ((Fetch keys, Ended) ∷ xs) ys = shapes_join xs ys
shapes_join ((Fetch keys, RefusedBy fault) ∷ xs) ys = shapes_join xs ys
shapes_join ((Fetch keys, DoubtBy fault) ∷ xs) ys = shapes_join xs ys
shapes_join ((End writes, Values values) ∷ xs) ys = shapes_join xs ys
shapes_join ((End writes, Ended) ∷ xs) ys = ap (λ (l : List Shape). Ends ∷ l) (shapes_join xs ys)
shapes_join ((End writes, RefusedBy fault) ∷ xs) ys = shapes_join xs ys
shapes_join ((End writes, DoubtBy fault) ∷ xs) ys = shapes_join xs ys

pub answered_join : (xs ys : List (VaultCall × VaultAnswer)) → answered (xs ++ ys) ≡ answered xs ++ answered ys
answered_join [] ys = refl
answered_join ((Fetch keys, Values values) ∷ xs) ys = ap (λ (l : List VaultCall). Fetch keys ∷ l) (answered_join xs ys)
answered_join ((Fetch keys, Ended) ∷ xs) ys = answered_join xs ys
answered_join ((Fetch keys, RefusedBy fault) ∷ xs) ys = answered_join xs ys
answered_join ((Fetch keys, DoubtBy fault) ∷ xs) ys = answered_join xs ys
answered_join ((End writes, Values values) ∷ xs) ys = answered_join xs ys
answered_join ((End writes, Ended) ∷ xs) ys = ap (λ (l : List VaultCall). End writes ∷ l) (answered_join xs ys)
answered_join ((End writes, RefusedBy fault) ∷ xs) ys = answered_join xs ys
answered_join ((End writes, DoubtBy fault) ∷ xs) ys = answered_join xs ys

pub shapes_of_answered : (steps : List (VaultCall × VaultAnswer)) → shapes steps ≡ map shape_of (answered steps)
shapes_of_answered [] = refl
shapes_of_answered ((Fetch keys, Values values) ∷ steps) = ap (λ (l : List Shape). Fetches ∷ l) (shapes_of_answered steps)
shapes_of_answered ((Fetch keys, Ended) ∷ steps) = shapes_of_answered steps
shapes_of_answered ((Fetch keys, RefusedBy fault) ∷ steps) = shapes_of_answered steps
shapes_of_answered ((Fetch keys, DoubtBy fault) ∷ steps) = shapes_of_answered steps
shapes_of_answered ((End writes, Values values) ∷ steps) = shapes_of_answered steps
shapes_of_answered ((End writes, Ended) ∷ steps) = ap (λ (l : List Shape). Ends ∷ l) (shapes_of_answered steps)
shapes_of_answered ((End writes, RefusedBy fault) ∷ steps) = shapes_of_answered steps
shapes_of_answered ((End writes, DoubtBy fault) ∷ steps) = shapes_of_answered steps

pub answered_have_shapes : (steps : List (VaultCall × VaultAnswer)) → AllAnswered steps → length (shapes steps) ≡ length steps
answered_have_shapes [] are = refl
answered_have_shapes ((Fetch keys, Values values) ∷ steps) are = ap suc (answered_have_shapes steps are)
answered_have_shapes ((Fetch keys, Ended) ∷ steps) are = absurd are
answered_have_shapes ((Fetch keys, RefusedBy fault) ∷ steps) are = absurd are
answered_have_shapes ((Fetch keys, DoubtBy fault) ∷ steps) are = absurd are
answered_have_shapes ((End writes, Values values) ∷ steps) are = absurd are
answered_have_shapes ((End writes, Ended) ∷ steps) are = ap suc (answered_have_shapes steps are)
answered_have_shapes ((End writes, RefusedBy fault) ∷ steps) are = absurd are
answered_have_shapes ((End writes, DoubtBy fault) ∷ steps) are = absurd are

pub answered_not_refused : (steps : List (VaultCall × VaultAnswer)) → AllAnswered steps → refused steps ≡ None
answered_not_refused [] are = refl
answered_not_refused ((Fetch keys, Values values) ∷ []) are = refl
answered_not_refused ((Fetch keys, Values values) ∷ step ∷ steps) are = answered_not_refused (step ∷ steps) are
answered_not_refused ((Fetch keys, Ended) ∷ steps) are = absurd are
answered_not_refused ((Fetch keys, RefusedBy fault) ∷ steps) are = absurd are
answered_not_refused ((Fetch keys, DoubtBy fault) ∷ steps) are = absurd are
answered_not_refused ((End writes, Values values) ∷ steps) are = absurd are
answered_not_refused ((End writes, Ended) ∷ []) are = refl
answered_not_refused ((End writes, Ended) ∷ step ∷ steps) are = answered_not_refused (step ∷ steps) are
answered_not_refused ((End writes, RefusedBy fault) ∷ steps) are = absurd are
answered_not_refused ((End writes, DoubtBy fault) ∷ steps) are = absurd are

-- a refused call behind answered ones
pub refused_last : (steps : List (VaultCall × VaultAnswer)) (last : VaultCall × VaultAnswer) → AllAnswered steps → refused (steps ++ last ∷ []) ≡ refused (last ∷ [])
refused_last [] last are = refl
refused_last ((Fetch keys, Values values) ∷ []) last are = refl
refused_last ((Fetch keys, Values values) ∷ step ∷ steps) last are = refused_last (step ∷ steps) last are
refused_last ((Fetch keys, Ended) ∷ steps) last are = absurd are
refused_last ((Fetch keys, RefusedBy fault) ∷ steps) last are = absurd are
refused_last ((Fetch keys, DoubtBy fault) ∷ steps) last are = absurd are
refused_last ((End writes, Values values) ∷ steps) last are = absurd are
refused_last ((End writes, Ended) ∷ []) last are = refl
refused_last ((End writes, Ended) ∷ step ∷ steps) last are = refused_last (step ∷ steps) last are
refused_last ((End writes, RefusedBy fault) ∷ steps) last are = absurd are
refused_last ((End writes, DoubtBy fault) ∷ steps) last are = absurd are
