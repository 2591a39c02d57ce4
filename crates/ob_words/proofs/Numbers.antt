-- Nine numbers of nine words.
use Rattle.std.proofs.Common.{◌≡◌, ℕ, List, [], ◌∷◌, Result, Ok, Err, Some, None}
use Rattle.std.specs.Prelude.{MatchResult, IfOk}
use Rattle.ob_base.specs.declared.params.Params.{Params}
use Rattle.ob_base.specs.declared.fault.Field.{Field}
use Rattle.ob_base.specs.Fields.{first_out_of_range}
use Rattle.ob_words.specs.Work.{AllDenote, AreParams, IsBadNumber}

module _ (n l z s r br bw e t : ℕ) (words : List (List ℕ)) (denote : AllDenote words (n ∷ l ∷ z ∷ s ∷ r ∷ br ∷ bw ∷ e ∷ t ∷ [])) where
  pub named : (made : Result Params Field)
      → IfOk made (λ p. (p.keys ≡ n) × (p.levels ≡ l) × (p.real ≡ z) × (p.dummies ≡ s) × (p.batches ≡ r) × (p.places ≡ br) × (p.writes ≡ bw) × (p.evictions ≡ e) × (p.room ≡ t))
      → MatchResult made (λ p. first_out_of_range n l z s r br bw e t ≡ None) (λ field. first_out_of_range n l z s r br bw e t ≡ Some field)
      → MatchResult made (λ p. AreParams words p) (λ field. IsBadNumber words field)
  named (Ok p) (pn, pl, pz, ps, pr, pbr, pbw, pe, pt) first = (record { denote = rw (pn, pl, pz, ps, pr, pbr, pbw, pe, pt) denote; in_range = rw (pn, pl, pz, ps, pr, pbr, pbw, pe, pt) first })
  named (Err field) made first = record { numbers = n ∷ l ∷ z ∷ s ∷ r ∷ br ∷ bw ∷ e ∷ t ∷ []; denote = denote; first = first }
