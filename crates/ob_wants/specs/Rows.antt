-- Lists in rows of 48 places. What lies behind a list's end, or a row's, is what nothing stands for.
use Rattle.std.specs.Prelude.{ℕ, ◌+◌, ◌*◌, ◌==◌, nat_lt, Bool, cond, List, slice_index_or, Option, Some, None}
use Rattle.std.specs.Int.{bit_at}
use Rattle.std.proofs.Common.{zero, suc}

abbrev pub in_rows : {T : Type 0} → List T → T → ℕ → ℕ → T
in_rows list none row place = cond (nat_lt place 48) (slice_index_or list (row * 48 + place) none) none

-- a number one greater than the one that is kept stands for it, and 0 for none
abbrev pub kept_number : ℕ → Option ℕ
kept_number zero = None
kept_number (suc number) = Some number

-- whether a bit of a word is set
abbrev pub has_bit : ℕ → ℕ → Bool
has_bit word bit = bit_at word bit == 1
