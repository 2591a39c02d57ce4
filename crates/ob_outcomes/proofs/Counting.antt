-- There are no more epochs than transactions in the script.
use Rattle.std.proofs.Common.{◌≡◌, ◌<◌, ◌≤◌, ◌+◌, ◌==◌, ℕ, suc, Bool, true, false, if◌then◌else◌, List, [], ◌∷◌, length, map, subst, refl, ap, arith}
use Rattle.std.specs.List.{All}
use Rattle.std.specs.Prelude.{filter, flat_map}
use Rattle.std.proofs.lemmas.Bool.Decides.{Decides-eqb}
use Rattle.std.proofs.lemmas.List.{length-append}
use Rattle.std.proofs.lemmas.List.Elements.{All-head, All-tail}
use Rattle.ob_serial.specs.Serial.{TxnRecord, EpochRecord}
use Rattle.ob_session.specs.Records.{txns_by}
use Rattle.ob_script.specs.Script.{ScriptTxn, asks_by}
use Rattle.ob_outcomes.specs.Served.{ServedFirst}
use Rattle.ob_outcomes.specs.ScriptLaws.{EpochsAreFew}

-- ---- a list that has of each number no more than another is no longer

abbrev pub one_if : Bool → ℕ
one_if true = 1
one_if false = 0

abbrev pub times : ℕ → List ℕ → ℕ
times n [] = 0
times n (x ∷ xs) = one_if (x == n) + times n xs

-- the list without one of these
record Without (x : ℕ) (ys : List ℕ) : Type 0 where
  pub left : List ℕ
  pub shorter : length ys ≡ suc (length left)
  pub counts : (n : ℕ) → times n ys ≡ one_if (x == n) + times n left

same_one : (x : ℕ) → (x == x) ≡ true
same_one x = (Decides-eqb x x).1 refl

without : (x : ℕ) (ys : List ℕ) → 0 < times x ys → Without x ys
without x [] some = absurd (omega (arith, some))
without x (y ∷ ys) some = by (y == x) refl some (λ more. without x ys more)
  where
    by : (b : Bool) → (y == x) ≡ b → 0 < one_if (y == x) + times x ys → (0 < times x ys → Without x ys) → Without x (y ∷ ys)
    by true is some rest = record { left = ys; shorter = refl; counts = λ n. ap (λ z. one_if (z == n) + times n ys) ((Decides-eqb y x).0 is) }
    by false is some rest =
        let w = rest (past (times x ys) (subst (λ b. 0 < one_if b + times x ys) is some)) in
        record {
          left = y ∷ w.left;
          shorter = ap suc w.shorter;
          counts = λ n. swapped (one_if (y == n)) (one_if (x == n)) (times n ys) (times n w.left) (w.counts n);
        }
      where
        past : (t : ℕ) → 0 < 0 + t → 0 < t
        past t some = omega (arith, some)

        swapped : (a b c d : ℕ) → c ≡ b + d → a + c ≡ b + (a + d)
        swapped a b c d is = omega (arith, is)

pub no_longer : (xs ys : List ℕ) → ((n : ℕ) → times n xs ≤ times n ys) → length xs ≤ length ys
no_longer [] ys few = omega arith
no_longer (x ∷ xs) ys few =
    let here = few x in
    let w = without x ys (some (times x xs) (times x ys) (subst (λ b. one_if b + times x xs ≤ times x ys) (same_one x) here)) in
    let shorter : length xs ≤ length w.left = no_longer xs w.left (λ n. less (one_if (x == n)) (times n xs) (times n w.left) (times n ys) (w.counts n) (few n)) in
    let is = w.shorter in
    omega (arith, is, shorter)
  where
    some : (a b : ℕ) → 1 + a ≤ b → 0 < b
    some a b le = omega (arith, le)

    less : (a b c d : ℕ) → d ≡ a + c → a + b ≤ d → b ≤ c
    less a b c d is le = omega (arith, is, le)

-- ---- clients' transactions

times_by : {A : Type 0} (client : A → ℕ) (n : ℕ) (xs : List A) → times n (map client xs) ≡ length (filter (λ x. client x == n) xs)
times_by client n [] = refl
times_by client n (x ∷ xs) = by (client x == n) (times_by client n xs)
  where
    by : (b : Bool) → times n (map client xs) ≡ length (filter (λ x. client x == n) xs) → one_if b + times n (map client xs) ≡ length (if b then x ∷ filter (λ x. client x == n) xs else filter (λ x. client x == n) xs)
    by true rest = omega (arith, rest)
    by false rest = omega (arith, rest)

served_few : (asks : List ScriptTxn) (txns : List (TxnRecord ℕ)) → ServedFirst asks txns → length txns ≤ length asks
served_few asks [] served = omega arith
served_few [] (t ∷ txns) served = absurd served
served_few (ask ∷ asks) (t ∷ txns) (one, served) = let few = served_few asks txns served in omega (arith, few)

length_mapped : {A B : Type 0} (f : A → B) (xs : List A) → length (map f xs) ≡ length xs
length_mapped f [] = refl
length_mapped f (x ∷ xs) = ap suc (length_mapped f xs)

pub few_txns : (script : List ScriptTxn) (told : List (EpochRecord ℕ)) → ((c : ℕ) → ServedFirst (asks_by c script) (txns_by c told)) → length (flat_map (λ r. r.txns) told) ≤ length script
few_txns script told served =
    let txns = flat_map (λ (r : EpochRecord ℕ). r.txns) told in
    let few : length (map (λ (t : TxnRecord ℕ). t.client) txns) ≤ length (map (λ (t : ScriptTxn). t.client) script) =
    no_longer (map (λ (t : TxnRecord ℕ). t.client) txns) (map (λ (t : ScriptTxn). t.client) script)
    (λ n. let le = served_few (asks_by n script) (txns_by n told) (served n) in let a = times_by (λ (t : TxnRecord ℕ). t.client) n txns in let b = times_by (λ (t : ScriptTxn). t.client) n script in omega (arith, a, b, le)) in
    let a = length_mapped (λ (t : TxnRecord ℕ). t.client) txns in let b = length_mapped (λ (t : ScriptTxn). t.client) script in omega (arith, few, a, b)

-- where each epoch has a transaction there are no more epochs
pub few_epochs : (told : List (EpochRecord ℕ)) → All (λ r. 0 < length r.txns) told → length told ≤ length (flat_map (λ r. r.txns) told)
few_epochs [] some = omega arith
few_epochs (r ∷ told) some =
    let rest = few_epochs told (All-tail (λ (r : EpochRecord ℕ). 0 < length r.txns) r told some) in
    let here = All-head (λ (r : EpochRecord ℕ). 0 < length r.txns) r told some in
    let is = length-append r.txns (flat_map (λ (r : EpochRecord ℕ). r.txns) told) in
    omega (arith, rest, here, is)

pub epochs_are_few : EpochsAreFew
epochs_are_few script told served some = let epochs = few_epochs told some in let txns = few_txns script.txns told served in omega (arith, epochs, txns)
