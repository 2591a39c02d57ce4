-- The records up to an epoch, and what an end that is called makes of them.
use Rattle.std.proofs.Common.{◌≡◌, ℕ, suc, ◌<◌, ◌≤◌, Bool, true, false, if◌then◌else◌, List, [], ◌∷◌, ◌++◌, refl, sym, ap, ◌∙◌, subst, arith, nat_cmp}
use Rattle.std.specs.Prelude.{nat_le}
use Rattle.std.proofs.lemmas.List.{append-nil}
use Rattle.std.proofs.lemmas.Bool.Decides.{nat_tests}
use Rattle.ob_serial.specs.Serial.{TxnRecord, EpochRecord, Map, OneByOne, committed_of}
use Rattle.ob_serial.proofs.Runs.{goes_on}
use Rattle.ob_desk.proofs.Runs.{committed_append}
use Rattle.ob_world.specs.Worlds.{records_up_to}
use Rattle.ob_world.specs.Headlines.{AreUpTo}

passes_later : (a e f : ℕ) → e ≤ f → nat_le a f ≡ false → nat_le a e ≡ true → ⊥
passes_later a e f le x y = grind (arith, nat_tests)

pub up_to_again : (e f : ℕ) → e ≤ f → (rs : List (EpochRecord ℕ)) → records_up_to e (records_up_to f rs) ≡ records_up_to e rs
up_to_again e f le [] = refl
up_to_again e f le (r ∷ rs) = step (nat_le r.epoch f) (nat_le r.epoch e) refl refl (up_to_again e f le rs)
  where
    step : (bf be : Bool) → nat_le r.epoch f ≡ bf → nat_le r.epoch e ≡ be → records_up_to e (records_up_to f rs) ≡ records_up_to e rs
        → records_up_to e (if bf then r ∷ records_up_to f rs else records_up_to f rs) ≡ (if be then r ∷ records_up_to e rs else records_up_to e rs)
    step true be isf ise ih = λ i. if ise i then r ∷ ih i else ih i
    step false true isf ise ih = absurd (passes_later r.epoch e f le isf ise)
    step false false isf ise ih = ih

pub up_to_append : (e : ℕ) (rs qs : List (EpochRecord ℕ)) → records_up_to e (rs ++ qs) ≡ records_up_to e rs ++ records_up_to e qs
up_to_append e [] qs = refl
up_to_append e (r ∷ rs) qs = step (nat_le r.epoch e) (up_to_append e rs qs)
  where
    step : (b : Bool) → records_up_to e (rs ++ qs) ≡ records_up_to e rs ++ records_up_to e qs → (if b then r ∷ records_up_to e (rs ++ qs) else records_up_to e (rs ++ qs)) ≡ (if b then r ∷ records_up_to e rs else records_up_to e rs) ++ records_up_to e qs
    step true ih = ap (λ xs. r ∷ xs) ih
    step false ih = ih

above : (e a : ℕ) → e < a → nat_le a e ≡ false
above e a lt = grind (arith, nat_tests)

at_most : (a e : ℕ) → a ≤ e → nat_le a e ≡ true
at_most a e le = grind (arith, nat_tests)

pub up_to_above : (e : ℕ) (r : EpochRecord ℕ) → e < r.epoch → records_up_to e (r ∷ []) ≡ []
up_to_above e r lt = ap (λ (b : Bool). if b then r ∷ [] else []) (above e r.epoch lt)

pub up_to_at : (e : ℕ) (r : EpochRecord ℕ) → r.epoch ≤ e → records_up_to e (r ∷ []) ≡ r ∷ []
up_to_at e r le = ap (λ (b : Bool). if b then r ∷ [] else []) (at_most r.epoch e le)

-- an end that is called changes no record of the epochs before its own
pub up_to_kept : (e v : ℕ) (rs : List (EpochRecord ℕ)) (r : EpochRecord ℕ) → e ≤ v → v < r.epoch → records_up_to e (records_up_to v rs ++ r ∷ []) ≡ records_up_to e rs
up_to_kept e v rs r le lt =
    up_to_append e (records_up_to v rs) (r ∷ [])
    ∙ (ap (λ xs. records_up_to e (records_up_to v rs) ++ xs) (up_to_above e r (omega (arith, le, lt)))
    ∙ (append-nil (records_up_to e (records_up_to v rs)) ∙ up_to_again e v le rs))

-- up to its own epoch its record is the last one
up_to_less : (e f : ℕ) → e ≤ f → (rs : List (EpochRecord ℕ)) → records_up_to f (records_up_to e rs) ≡ records_up_to e rs
up_to_less e f le [] = refl
up_to_less e f le (r ∷ rs) = step (nat_le r.epoch e) refl (up_to_less e f le rs)
  where
    step : (b : Bool) → nat_le r.epoch e ≡ b → records_up_to f (records_up_to e rs) ≡ records_up_to e rs → records_up_to f (if b then r ∷ records_up_to e rs else records_up_to e rs) ≡ (if b then r ∷ records_up_to e rs else records_up_to e rs)
    step true is ih = ap (λ (b : Bool). if b then r ∷ records_up_to f (records_up_to e rs) else records_up_to f (records_up_to e rs)) (let small : nat_le r.epoch f ≡ true = grind (arith, nat_tests) in small) ∙ ap (λ xs. r ∷ xs) ih
    step false is ih = ih

pub up_to_next : (v : ℕ) (rs : List (EpochRecord ℕ)) (r : EpochRecord ℕ) → r.epoch ≡ suc v → records_up_to (suc v) (records_up_to v rs ++ r ∷ []) ≡ records_up_to v rs ++ r ∷ []
up_to_next v rs r is = up_to_append (suc v) (records_up_to v rs) (r ∷ []) ∙ (λ i. up_to_less v (suc v) (omega arith) rs i ++ up_to_at (suc v) r (omega (arith, is)) i)

-- the records so far lead to a map, and the next one from it to another
pub one_more : (first here last : Map nat_cmp) (v : ℕ) (rs : List (EpochRecord ℕ)) (r : EpochRecord ℕ) → r.epoch ≡ suc v
    → OneByOne nat_cmp first (committed_of (records_up_to v rs)) here → OneByOne nat_cmp here (committed_of (r ∷ [])) last → OneByOne nat_cmp first (committed_of (records_up_to (suc v) (records_up_to v rs ++ r ∷ []))) last
one_more first here last v rs r is before after =
    let parts : committed_of (records_up_to (suc v) (records_up_to v rs ++ r ∷ [])) ≡ committed_of (records_up_to v rs) ++ committed_of (r ∷ []) =
    ap (λ xs. committed_of xs) (up_to_next v rs r is) ∙ committed_append (records_up_to v rs) (r ∷ []) in
    subst (λ (ts : List (TxnRecord ℕ)). OneByOne nat_cmp first ts last) (sym parts) (goes_on nat_cmp first (committed_of (records_up_to v rs)) (committed_of (r ∷ [])) here last before after)

pub held_later : (e f : ℕ) → e ≤ f → (xs : List ℕ) → AreUpTo e xs → AreUpTo f xs
held_later e f le [] h = tt
held_later e f le (x ∷ xs) h = ((let small : x ≤ e = h.0 in omega (arith, small, le)), held_later e f le xs h.1)

pub held_append : (e : ℕ) (xs ys : List ℕ) → AreUpTo e xs → AreUpTo e ys → AreUpTo e (xs ++ ys)
held_append e [] ys h q = q
held_append e (x ∷ xs) ys h q = (h.0, held_append e xs ys h.1 q)
