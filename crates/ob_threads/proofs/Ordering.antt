-- The turns of a round, one behind the other.
use Rattle.std.proofs.Common.{◌≡◌, ℕ, ◌+◌, ◌<◌, zero, suc, List, [], ◌∷◌, length, take, set, sym, subst, arith}
use Rattle.ob_hall.specs.Passes.{history_of}
use Rattle.ob_threads.specs.declared.starting.Started.{Started}
use Rattle.ob_threads.specs.declared.starting.Started.TheVariants.{Away, Here}
use Rattle.ob_threads.specs.Starts.{AreOrdered}

module _ {U : Type 0} where
  ordered_next : (n k m i : ℕ) (now : List (Started U)) (y : Started U) → i < length now → AreOrdered n (take i now) k → AreOrdered k (y ∷ []) m → AreOrdered n (take (suc i) (set now i y)) m
  ordered_next n k m i [] y lt first one = absurd (omega (arith, lt))
  ordered_next n k m zero (z ∷ zs) y lt first one = subst (λ x. AreOrdered x (y ∷ []) m) (sym first) one
  ordered_next n k m (suc i) (Away handle ∷ zs) y lt first one = ordered_next n k m i zs y (omega (arith, lt)) first one
  ordered_next n k m (suc i) (Here client ∷ zs) y lt first one = (first.0, ordered_next (length (history_of client.0)) k m i zs y (omega (arith, lt)) first.1 one)

  -- one more stands behind the first ones
  pub ordered_more : (n k m i : ℕ) (now : List (Started U)) (y : Started U) → i < length now → AreOrdered n (take i now) k → AreOrdered k (y ∷ []) m → AreOrdered n (take (i + 1) (set now i y)) m
  ordered_more n k m i now y lt first one = let next : suc i ≡ i + 1 = omega arith in subst (λ x. AreOrdered n (take x (set now i y)) m) next (ordered_next n k m i now y lt first one)
