-- The pieces of a summary, one behind the other, are its lines.
use Rattle.std.proofs.Common.{◌≡◌, ℕ, List, [], ◌∷◌, ◌++◌, refl, append_assoc}

-- a word, a number and an end, and more behind them
line_then : (word number rest : List ℕ) → word ++ (number ++ (10 ∷ rest)) ≡ (word ++ number ++ (10 ∷ [])) ++ rest
line_then word number rest = simp append_assoc refl

pub four_lines : (first a second b third c fourth d : List ℕ)
    → first ++ (a ++ (10 ∷ (second ++ (b ++ (10 ∷ (third ++ (c ++ (10 ∷ (fourth ++ (d ++ (10 ∷ []))))))))))) ≡ (first ++ a ++ (10 ∷ [])) ++ (second ++ b ++ (10 ∷ [])) ++ (third ++ c ++ (10 ∷ [])) ++ (fourth ++ d ++ (10 ∷ []))
four_lines first a second b third c fourth d =
    rw (line_then first a (second ++ (b ++ (10 ∷ (third ++ (c ++ (10 ∷ (fourth ++ (d ++ (10 ∷ []))))))))), line_then second b (third ++ (c ++ (10 ∷ (fourth ++ (d ++ (10 ∷ [])))))), line_then third c (fourth ++ (d ++ (10 ∷ []))))
    (simp append_assoc refl)
