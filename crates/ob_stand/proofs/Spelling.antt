-- What is read of a slot that spells a row.
use Rattle.std.specs.Prelude.{◌≡◌, ℕ, ◌+◌, ◌-◌, ◌<◌, ◌≤◌, ◌^◌, List, ◌∷◌, ◌++◌, drop, length, replicate}
use Rattle.std.specs.declared.option.Option.TheVariants.{None}
use Rattle.std.specs.Int.{w32, to_le_bytes}
use Rattle.std.proofs.Common.{zero, suc, arith, refl, ap, ◌∙◌}
use Rattle.std.proofs.lemmas.Bool.{eq-eqb, le-leb}
use Rattle.std.proofs.lemmas.Nat.{from_le_bytes-to_le_bytes_4}
use Rattle.std.proofs.Math.Seq.{take-append_seam}
use Rattle.ob_ring.specs.Settling.{key_field, len_field, row_value, row_fault}
use Rattle.ob_ring.specs.Plain.{row_plain}
use Rattle.ob_tables.specs.Spelling.{slot_bytes}

pub key_read : (key : ℕ) (value : List ℕ) → key < 2 ^ 32 → key_field (slot_bytes key value) ≡ key
key_read key value low = from_le_bytes-to_le_bytes_4 key low

pub len_read : (key : ℕ) (value : List ℕ) → len_field (slot_bytes key value) ≡ length value
len_read key value = refl

pub value_read : (key : ℕ) (value : List ℕ) → row_value (slot_bytes key value) ≡ value
value_read key value = take-append_seam value (replicate (91 - length value) 0)

pub no_fault : (cell key : ℕ) (value : List ℕ) → key < 2 ^ 32 → length value ≤ 64 → row_fault cell key (slot_bytes key value) ≡ None
no_fault cell key value low short = rw (eq-eqb (key_field (slot_bytes key value)) key (key_read key value low), le-leb (length value) 64 short) refl

drop_zeros : (n m : ℕ) → n ≤ m → drop {A = ℕ} n (replicate m 0) ≡ replicate (m - n) 0
drop_zeros zero m h = let e : m ≡ m - 0 = omega arith in ap (λ (i : ℕ). replicate i 0) e
drop_zeros (suc n) zero h = absurd (omega arith)
drop_zeros (suc n) (suc m) h = let e : m - n ≡ suc m - suc n = omega arith in drop_zeros n m (omega arith) ∙ ap (λ (i : ℕ). replicate i 0) e

-- what a refill writes for a key is that key's row
pub plain_is_spelled : (key : ℕ) (value : List ℕ) → length value ≤ 64 → row_plain key value ≡ slot_bytes key value
plain_is_spelled key value short =
    let five : 5 + length value ≡ suc (suc (suc (suc (suc (length value))))) = omega arith in
    let front : List ℕ = to_le_bytes w32 key ++ (length value ∷ replicate 91 0) in
    let rest : drop (5 + length value) front ≡ replicate (91 - length value) 0 = ap (λ (i : ℕ). drop i front) five ∙ drop_zeros (length value) 91 (omega arith) in
    ap (λ (zs : List ℕ). to_le_bytes w32 key ++ (length value ∷ (value ++ zs))) rest
