-- Cells that are spelled alike hold the same.
use Rattle.std.proofs.Common.{◌≡◌, ◌<◌, ◌≤◌, ℕ, ◌+◌, ◌^◌, List, ◌++◌, take, drop, length, arith, refl, sym, ap, ◌∙◌, append_assoc, length-append, length-drop, ap₂, inr, subst, Option, Some, None}
use Rattle.std.specs.Prelude.{IsSomeAnd}
use Rattle.ob_base.specs.declared.fault.Damaged.{Damaged}
use Rattle.ob_seal.specs.declared.sealer.Opened.{Opened}
use Rattle.std.proofs.lemmas.List.{take-append-drop, take_all, take_at, drop_at, drop-drop, length-take-le}
use Rattle.sha2.specs.Sha256.{sha256}
use Rattle.sha2.proofs.Facts256.{length-sha256}
use Rattle.ob_seal.specs.declared.keys.Keys.{Keys}
use Rattle.ob_seal.specs.Pads.{pad_of, xored}
use Rattle.ob_seal.specs.Seals.{le64, tag_of, stamped, identity_bytes, sealed_front, sealed}
use Rattle.ob_seal.specs.Damage.{kept_tag, computed_tag, IsOtherIdentity, IsExpected, IsDamage}
use Rattle.ob_base.proofs.Spelled.{split_same, le64_same}
use Rattle.ob_seal.proofs.PadLemmas.{length-xored, xored_twice, xored_same}

-- an identity is told by its bytes
pub identity_same : (g h m n : ℕ) → g < 2 ^ 64 → h < 2 ^ 64 → m < 2 ^ 64 → n < 2 ^ 64 → identity_bytes g m ≡ identity_bytes h n → (g ≡ h) × (m ≡ n)
identity_same g h m n hg hh hm hn e =
    let parts = split_same (le64 g) (le64 h) (le64 m) (le64 n) refl e in
    (le64_same g h hg hh parts.0, le64_same m n hm hn parts.1)

-- ---- stamps

pub length-tag_of : (key : List ℕ) (cell : ℕ) (bytes : List ℕ) → length (tag_of key cell bytes) ≡ 16
unfolding tag_of
length-tag_of key cell bytes =
    let long = length-sha256 (key ++ le64 cell ++ bytes) in
    length-take-le 16 (sha256 (key ++ le64 cell ++ bytes)) (omega arith)

-- a cell with the right tag is the stamped cell of what it has before it
pub stamped_whole : (keys : Keys) (cell : ℕ) (bytes : List ℕ) → length bytes ≡ 128
    → kept_tag bytes ≡ computed_tag keys cell bytes → bytes ≡ stamped keys cell (take 112 bytes)
unfolding stamped
stamped_whole keys cell bytes long right =
    let whole = take-append-drop 112 bytes in
    let rest : length (drop 112 bytes) ≤ 16 = rw (length-drop 112 bytes) (omega arith) in
    let tag = take_all 16 (drop 112 bytes) rest in
    sym whole ∙ ap (λ (xs : List ℕ). take 112 bytes ++ xs) (sym tag ∙ right)

-- a stamped cell has its plain bytes before the tag, and the right tag
pub stamped_parts : (keys : Keys) (cell : ℕ) (bytes plain : List ℕ) → length plain ≡ 112
    → bytes ≡ stamped keys cell plain → (take 112 bytes ≡ plain) × (kept_tag bytes ≡ computed_tag keys cell bytes)
unfolding stamped
stamped_parts keys cell bytes plain long e =
    let front : take 112 bytes ≡ plain = rw e (take_at plain (tag_of keys.tag cell plain) 112 long) in
    let back : drop 112 bytes ≡ tag_of keys.tag cell plain = rw e (drop_at plain (tag_of keys.tag cell plain) 112 long) in
    let size = length-tag_of keys.tag cell plain in
    (front, rw (back, front) (take_all 16 (tag_of keys.tag cell plain) (omega arith)))

-- ---- seals

pub length-sealed_front : (keys : Keys) (g n : ℕ) (plain : List ℕ) → length plain ≡ 96 → length (sealed_front keys g n plain) ≡ 112
unfolding sealed_front
length-sealed_front keys g n plain long =
    let size = length-xored plain (pad_of keys.seal g n) in
    rw length-append (omega arith)

-- the bytes before the tag, from the numbers that they spell and the bytes behind these
pub front_spelled : (keys : Keys) (front : List ℕ) (g n : ℕ) → length front ≡ 112 → le64 g ≡ take 8 front → le64 n ≡ take 8 (drop 8 front)
    → front ≡ sealed_front keys g n (xored (take 96 (drop 16 front)) (pad_of keys.seal g n))
unfolding sealed_front
front_spelled keys front g n long first second =
    let back : drop 8 (drop 8 front) ≡ drop 16 front = drop-drop 8 8 front in
    let size : length (drop 16 front) ≤ 96 = rw (length-drop 16 front) (omega arith) in
    let last : take 96 (drop 16 front) ≡ drop 16 front = take_all 96 (drop 16 front) size in
    let cipher : xored (xored (take 96 (drop 16 front)) (pad_of keys.seal g n)) (pad_of keys.seal g n) ≡ drop 16 front = xored_twice (take 96 (drop 16 front)) (pad_of keys.seal g n) ∙ last in
    let rest : take 8 (drop 8 front) ++ drop 16 front ≡ drop 8 front = rw (← back) (take-append-drop 8 (drop 8 front)) in
    let parts : identity_bytes g n ++ drop 16 front ≡ front =
    ap₂ (λ (xs ys : List ℕ). xs ++ ys ++ drop 16 front) first second
    ∙ append_assoc (take 8 front) (take 8 (drop 8 front)) (drop 16 front)
    ∙ ap (λ (xs : List ℕ). take 8 front ++ xs) rest ∙ take-append-drop 8 front in
    sym parts ∙ ap (λ (xs : List ℕ). identity_bytes g n ++ xs) (sym cipher)

-- sealed cells of one spelling hold the same
pub sealed_same : (keys : Keys) (cell g h m n : ℕ) (xs ys : List ℕ) → g < 2 ^ 64 → h < 2 ^ 64 → m < 2 ^ 64 → n < 2 ^ 64 → length xs ≡ length ys
    → sealed keys cell g m xs ≡ sealed keys cell h n ys → (g ≡ h) × (m ≡ n) × (xs ≡ ys)
unfolding sealed stamped sealed_front
sealed_same keys cell g h m n xs ys hg hh hm hn long e =
    let front = split_same (identity_bytes g m ++ xored xs (pad_of keys.seal g m)) (identity_bytes h n ++ xored ys (pad_of keys.seal h n)) _ _ (rw (length-append, length-append, length-xored, length-xored) (omega arith)) e in
    let parts = split_same (identity_bytes g m) (identity_bytes h n) _ _ refl front.0 in
    let identity = identity_same g h m n hg hh hm hn parts.0 in
    let pads : pad_of keys.seal g m ≡ pad_of keys.seal h n = ap (λ (x : ℕ). pad_of keys.seal x m) identity.0 ∙ ap (pad_of keys.seal h) identity.1 in
    (identity.0, identity.1, xored_same xs ys (pad_of keys.seal g m) (parts.1 ∙ ap (xored ys) (sym pads)))

-- stamped cells of one spelling hold the same
pub stamped_same : (keys : Keys) (cell : ℕ) (xs ys : List ℕ) → length xs ≡ length ys → stamped keys cell xs ≡ stamped keys cell ys → xs ≡ ys
unfolding stamped
stamped_same keys cell xs ys long e = (split_same xs ys _ _ long e).0

-- ---- what is told of a sealed cell

pub sealed_stamped : (keys : Keys) (cell g n : ℕ) (plain : List ℕ) → sealed keys cell g n plain ≡ stamped keys cell (sealed_front keys g n plain)
unfolding sealed
sealed_stamped keys cell g n plain = refl

-- a sealed cell has the right tag, and keeps its identity
pub sealed_parts : (keys : Keys) (cell g n : ℕ) (bytes plain : List ℕ) → length plain ≡ 96 → bytes ≡ sealed keys cell g n plain
    → (kept_tag bytes ≡ computed_tag keys cell bytes) × (take 16 bytes ≡ identity_bytes g n)
unfolding sealed sealed_front stamped
sealed_parts keys cell g n bytes plain long e =
    let parts = stamped_parts keys cell bytes (sealed_front keys g n plain) (length-sealed_front keys g n plain long) (e ∙ sealed_stamped keys cell g n plain) in
    (parts.1, ap (take 16) e)

-- an identity that is the expected one is no other
pub not_other : (expected : Option (ℕ × ℕ)) (cell g n : ℕ) (d : Damaged) → IsExpected expected g n
    → IsSomeAnd expected (λ e. IsOtherIdentity cell (identity_bytes g n) (identity_bytes e.0 e.1) d) → ⊥
not_other None cell g n d same other = absurd other
not_other (Some e) cell g n d same other = other.differs (ap (λ (p : ℕ × ℕ). identity_bytes p.0 p.1) (sym same))

-- a cell of another identity than the expected one is damaged
pub wrong_seal : (keys : Keys) (cell : ℕ) (expected : Option (ℕ × ℕ)) (bytes : List ℕ) (g n : ℕ) (d : Damaged)
    → kept_tag bytes ≡ computed_tag keys cell bytes → take 16 bytes ≡ identity_bytes g n
    → IsSomeAnd expected (λ e. IsOtherIdentity cell (identity_bytes g n) (identity_bytes e.0 e.1) d) → IsDamage keys cell expected bytes d
wrong_seal keys cell None bytes g n d right kept other = absurd other
wrong_seal keys cell (Some e) bytes g n d right kept other = inr (right, subst (λ (xs : List ℕ). IsOtherIdentity cell xs (identity_bytes e.0 e.1) d) (sym kept) other)

-- a stamped cell whose bytes before the tag are spelled as a sealed one's
pub sealed_from : (keys : Keys) (cell g n : ℕ) (bytes front plain : List ℕ) → bytes ≡ stamped keys cell front → front ≡ sealed_front keys g n plain
    → bytes ≡ sealed keys cell g n plain
sealed_from keys cell g n bytes front plain stamp e = stamp ∙ ap (stamped keys cell) e ∙ sym (sealed_stamped keys cell g n plain)

-- what two openings of one cell hold
pub opened_same : (keys : Keys) (cell g n : ℕ) (bytes plain : List ℕ) (o : Opened) → o.generation < 2 ^ 64 → o.number < 2 ^ 64 → length o.plain ≡ 96
    → bytes ≡ sealed keys cell o.generation o.number o.plain → g < 2 ^ 64 → n < 2 ^ 64 → length plain ≡ 96 → bytes ≡ sealed keys cell g n plain
    → o ≡ record { generation = g; number = n; plain = plain }
opened_same keys cell g n bytes plain o hog hon holong first hg hn hlong second =
    let same = sealed_same keys cell o.generation g o.number n o.plain plain hog hg hon hn (holong ∙ sym hlong) (sym first ∙ second) in
    opened_is o g n plain same.0 same.1 same.2
  where
    opened_is : (o : Opened) (g n : ℕ) (plain : List ℕ) → o.generation ≡ g → o.number ≡ n → o.plain ≡ plain → o ≡ record { generation = g; number = n; plain = plain }
    opened_is o g n plain a b c = rw (← a, ← b, ← c) refl
