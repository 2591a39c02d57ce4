-- Words name one list of numbers, and a text one triple of keys.
use Rattle.std.proofs.Common.{◌≡◌, ◌<◌, ◌^◌, ◌*◌, ◌++◌, ℕ, List, [], ◌∷◌, length, Option, Some, None, refl, sym, ap, inl, inr, arith, ◌∙◌, length-append}
use Rattle.std.specs.Borrow.{Bor}
use Rattle.std.proofs.lemmas.Fmt.{decimal_injective}
use Rattle.hex.proofs.HexLemmas.{decode_of-ok, decode_of-same}
use Rattle.ob_base.specs.declared.params.Params.{Params}
use Rattle.ob_base.specs.declared.fault.Field.{Field}
use Rattle.ob_base.specs.declared.fault.Fault.{Fault}
use Rattle.ob_seal.specs.declared.keys.Keys.{Keys}
use Rattle.ob_shares.specs.declared.shares.Shares.{Shares}
use Rattle.ob_words.specs.Reading.{AskedShares}
use Rattle.ob_seal.specs.KeyText.{digits_of}
use Rattle.ob_seal.proofs.KeyLemmas.{is_key_text}
use Rattle.ob_base.proofs.Spelled.{split_same}
use Rattle.ob_start.specs.Heads.{numbers_of}
use Rattle.ob_words.specs.Work.{Denotes, AllDenote, AreParams, IsBadNumber, AreLanes, AreBadLanes, IsShare, AreShares, AreKeys, HasKeys, IsKeysRefused, first_out}

none_some : {A : Type 0} (o : Option A) (x : A) → o ≡ None → o ≡ Some x → ⊥
none_some o x none some = let both : None ≡ Some x = sym none ∙ some in cc both

one_number : (word : List ℕ) (m n : ℕ) → 0 < m → m < 2 ^ 32 → Denotes word m → Denotes word n → m ≡ n
one_number word m n some small (inl (a, low)) (inl (b, less)) = decimal_injective m n (omega arith) (omega arith) (sym a ∙ b)
one_number word m n some small (inl (a, low)) (inr (zero, none)) = absurd (none m small a)
one_number word m n some small (inr (zero, none)) b = absurd (omega (arith, zero))

abbrev AllFit : List ℕ → Type 0
AllFit [] = Unit {0}
AllFit (n ∷ numbers) = (0 < n) × (n < 2 ^ 32) × AllFit numbers

cons_same : (a b : ℕ) (xs ys : List ℕ) → a ≡ b → xs ≡ ys → ◌≡◌ {A = List ℕ} (a ∷ xs) (b ∷ ys)
cons_same a b xs ys p q = cc

one_list : (words : List (List ℕ)) (xs ys : List ℕ) → AllFit xs → AllDenote words xs → AllDenote words ys → xs ≡ ys
one_list [] [] [] fit a b = refl
one_list (word ∷ words) (m ∷ xs) (n ∷ ys) fit a b = cons_same m n xs ys (one_number word m n fit.0 fit.1 a.0 b.0) (one_list words xs ys fit.2 a.1 b.1)
one_list [] (m ∷ xs) ys fit a b = absurd a
one_list [] [] (n ∷ ys) fit a b = absurd b
one_list (word ∷ words) [] ys fit a b = absurd a
one_list (word ∷ words) (m ∷ xs) [] fit a b = absurd b

params_small : (p : Params) → AllFit (numbers_of p)
params_small p =
    let r = p.in_range in (
      omega (arith, r.some_keys),
      omega (arith, r.few_keys),
      (
        omega (arith, r.some_levels),
        omega (arith, r.few_levels),
        (
          omega (arith, r.some_real),
          omega (arith, r.few_real),
          (
            omega (arith, r.some_dummies),
            omega (arith, r.few_dummies),
            (
              omega (arith, r.some_batches),
              omega (arith, r.few_batches),
              (
                omega (arith, r.some_places),
                omega (arith, r.few_places),
                (
                  omega (arith, r.some_writes),
                  omega (arith, r.few_writes),
                  (
                    omega (arith, r.some_evictions),
                    omega (arith, r.few_evictions),
                    (omega (arith, r.some_room), omega (arith, r.few_room), tt),
                  ),
                ),
              ),
            ),
          ),
        ),
      ),
    )

-- where the numbers are in range, none is told to be out of it
pub no_bad_number : (words : List (List ℕ)) (p : Params) (field : Field) → AreParams words p → IsBadNumber words field → ⊥
no_bad_number words p field good bad =
    let same = one_list words (numbers_of p) bad.numbers (params_small p) good.denote bad.denote in
    none_some (first_out bad.numbers) field (ap first_out (sym same) ∙ good.in_range) bad.first

-- nor lanes that are
pub no_bad_lanes : (lanes : Option (List ℕ)) (k : ℕ) → AreLanes lanes k → AreBadLanes lanes → ⊥
no_bad_lanes None k are bad = absurd bad
no_bad_lanes (Some word) k (is, some, few) bad = bad k some few is

-- a word denotes one number, be it 0
same_number : (word : List ℕ) (m n : ℕ) → Denotes word m → Denotes word n → m ≡ n
same_number word m n (inl (a, low)) (inl (b, less)) = decimal_injective m n (omega (arith, low)) (omega (arith, less)) (sym a ∙ b)
same_number word m n (inl (a, low)) (inr (zero, none)) = absurd (none m low a)
same_number word m n (inr (zero, none)) (inl (b, less)) = absurd (none n less b)
same_number word m n (inr (zero, none)) (inr (other, nor)) = zero ∙ sym other

one_share : (word : Option (List ℕ)) (a b : Option ℕ) → IsShare word a → IsShare word b → a ≡ b
one_share None a b x y = x ∙ sym y
one_share (Some word) a b x y = x.1 ∙ ap (λ (n : ℕ). Some n) (same_number word x.0 y.0 x.2 y.2) ∙ sym y.1

-- the words give one pair of shares
pub one_shares : (asked : AskedShares) (a b : Shares) → AreShares asked a → AreShares asked b → a ≡ b
one_shares asked a b x y =
    let reads = one_share asked.reads a.reads b.reads x.reads y.reads in
    let writes = one_share asked.writes a.writes b.writes x.writes y.writes in
    λ i. record { reads = reads i; writes = writes i }

keys_made : (a : Keys) (s t u : List ℕ) → a.seal ≡ s → a.tag ≡ t → a.tape ≡ u → a ≡ record { seal = s; tag = t; tape = u }
keys_made a s t u p q r = rw (← p, ← q, ← r) refl

-- a text has one triple of keys
text_keys : (text : List ℕ) (a b : Keys) → AreKeys text a → AreKeys text b → a ≡ b
text_keys text a b x y =
    let bytes = decode_of-same (digits_of text) (a.seal ++ a.tag ++ a.tape) (b.seal ++ b.tag ++ b.tape) x.spelled y.spelled in
    let long : length (a.seal ++ a.tag) ≡ length (b.seal ++ b.tag) =
    omega (arith, length-append a.seal a.tag, length-append b.seal b.tag, x.seal_whole, y.seal_whole, x.tag_whole, y.tag_whole) in
    let one = split_same (a.seal ++ a.tag) (b.seal ++ b.tag) a.tape b.tape long bytes in
    let two = split_same a.seal b.seal a.tag b.tag (x.seal_whole ∙ sym y.seal_whole) one.0 in
    keys_made a b.seal b.tag b.tape two.0 two.1 one.1

pub one_keys : (text : Option (Bor (List ℕ))) (a b : Keys) → HasKeys text a → HasKeys text b → a ≡ b
one_keys None a b x y = absurd x
one_keys (Some text) a b x y = text_keys text.now a b x y

-- keys that are keys aren't refused
pub keys_stand : (text : Option (Bor (List ℕ))) (keys : Keys) (f : Fault) → HasKeys text keys → IsKeysRefused text f → ⊥
keys_stand None keys f has refused = absurd has
keys_stand (Some text) keys f has refused =
    let ok = decode_of-ok (digits_of text.now) (keys.seal ++ keys.tag ++ keys.tape) has.spelled in
    let long : length (digits_of text.now) ≡ 2 * length (keys.seal ++ keys.tag ++ keys.tape) = ok.2 in
    let size : length (digits_of text.now) ≡ 192 = omega (arith, long, length-append (keys.seal ++ keys.tag) keys.tape, length-append keys.seal keys.tag, has.seal_whole, has.tag_whole, has.tape_whole) in
    refused.1 (is_key_text text.now (size, ok.1))
