-- Which of a store's parameters is the first out of its range.
use Rattle.std.specs.Prelude.{ℕ, ◌*◌, ◌^◌, Bool, ◌&&◌, nat_le, List, [], ◌∷◌, Option, Some, None, if◌then◌else◌}
use Rattle.ob_base.specs.declared.fault.Field.{Field}
use Rattle.ob_base.specs.declared.fault.Field.TheVariants.{N, L, Z, S, R, BR, BW, E, T}

-- the first field whose test fails
abbrev pub first_failed : List (Field × Bool) → Option Field
first_failed [] = None
first_failed (f ∷ fs) = if f.1 then first_failed fs else Some f.0

abbrev pub is_within : ℕ → ℕ → ℕ → Bool
is_within low high x = nat_le low x && nat_le x high

-- each field with the test of its range, in the order in which they are tested
abbrev pub range_tests : ℕ → ℕ → ℕ → ℕ → ℕ → ℕ → ℕ → ℕ → ℕ → List (Field × Bool)
range_tests n l z s r br bw e t =
    (N, is_within 1 65536 n) ∷ (L, is_within 1 16 l) ∷ (Z, is_within 1 16 z) ∷ (S, is_within 1 32 s)
    ∷ (R, is_within 1 16 r) ∷ (BR, is_within 1 64 br) ∷ (BW, is_within 1 256 bw) ∷ (E, is_within 1 64 e)
    ∷ (T, is_within 1 1024 t) ∷ (N, nat_le n (z * 2 ^ l)) ∷ []

abbrev pub first_out_of_range : ℕ → ℕ → ℕ → ℕ → ℕ → ℕ → ℕ → ℕ → ℕ → Option Field
first_out_of_range n l z s r br bw e t = first_failed (range_tests n l z s r br bw e t)
