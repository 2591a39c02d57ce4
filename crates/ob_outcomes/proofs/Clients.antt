-- Each client's transactions in the records are those of its script.
use Rattle.std.proofs.Common.{◌≡◌, ◌∙◌, ◌⊎◌, ℕ, zero, suc, ◌==◌, Bool, true, false, List, [], ◌∷◌, map, sym, subst, inl, inr, refl, ap, arith}
use Rattle.std.specs.List.{All, Contains}
use Rattle.std.proofs.lemmas.Bool.{false≢true}
use Rattle.std.proofs.lemmas.Bool.Decides.{Decides-eqb}
use Rattle.std.proofs.lemmas.List.Elements.{All-head, All-tail, All-cons, All-nil}
use Rattle.ob_serial.specs.Serial.{EpochRecord}
use Rattle.ob_desk.specs.Desk.{Call, Reply}
use Rattle.ob_session.specs.Clients.{told_of, said_by, has_signed_off, was_refused}
use Rattle.ob_session.specs.Records.{txns_by, TellFirst, TellAll}
use Rattle.ob_script.specs.Script.{ScriptTxn, asks_by}
use Rattle.ob_runner.specs.Meaning.{MeantFirst, MeantAll}
use Rattle.ob_outcomes.specs.Served.{ServedFirst, ServedAll}
use Rattle.ob_outcomes.proofs.Meeting.{served_first, served_all}

-- none of these is it
abbrev pub NoneIs : ℕ → List ℕ → Type 0
NoneIs c numbers = All (λ n. n ≡ c → ⊥) numbers

pub none_is : (c : ℕ) (numbers : List ℕ) → NoneIs c numbers → Contains numbers c → ⊥
none_is c [] none (k, low, is) = omega (arith, low)
none_is c (n ∷ numbers) none (zero, low, is) = All-head (λ n. n ≡ c → ⊥) n numbers none is
none_is c (n ∷ numbers) none (suc k, low, is) = none_is c numbers (All-tail (λ n. n ≡ c → ⊥) n numbers none) (k, omega (arith, low), is)

-- a number is among them, or none is it
pub is_among : (numbers : List ℕ) (c : ℕ) → Contains numbers c ⊎ NoneIs c numbers
is_among [] c = inr (All-nil (λ n. n ≡ c → ⊥))
is_among (n ∷ numbers) c = by (n == c) refl (is_among numbers c)
  where
    by : (b : Bool) → (n == c) ≡ b → Contains numbers c ⊎ NoneIs c numbers → Contains (n ∷ numbers) c ⊎ NoneIs c (n ∷ numbers)
    by true same more = inl (0, omega arith, (Decides-eqb n c).0 same)
    by false other (inl (k, low, is)) = inl (suc k, omega (arith, low), is)
    by false other (inr none) = inr (All-cons (λ m. m ≡ c → ⊥) n numbers (λ e. false≢true (sym other ∙ (Decides-eqb n c).1 e)) none)

-- a script's runner: what it has made, and what it is to do
pub record IsRunner {U : Type 0} (client : U → ℕ) (fits : U → List (Call × Reply) → Type 0) (plan : U → List ScriptTxn) (asks : List ScriptTxn) (steps : List (Call × Reply)) (u : U) : Type 0 where
  pub fitting : fits u (said_by (client u) steps)
  pub planned : plan u ≡ asks_by (client u) asks

first_same : {A : Type 0} (x y : A) (xs ys : List A) → ◌≡◌ {A = List A} (x ∷ xs) (y ∷ ys) → x ≡ y
first_same x y xs ys is = cc is

rest_same : {A : Type 0} (x y : A) (xs ys : List A) → ◌≡◌ {A = List A} (x ∷ xs) (y ∷ ys) → xs ≡ ys
rest_same x y xs ys is = cc is

no_first : {A : Type 0} (x : A) (xs : List A) → ◌≡◌ {A = List A} (x ∷ xs) [] → ⊥
no_first x xs is = cc is

module _ {U : Type 0} (client : U → ℕ) (fits : U → List (Call × Reply) → Type 0) (plan : U → List ScriptTxn) where
  -- runners keep what they are to do
  pub still : (asks : List ScriptTxn) (steps : List (Call × Reply)) (us vs : List U) → map client us ≡ map client vs → map plan us ≡ map plan vs
      → All (λ v. plan v ≡ asks_by (client v) asks) vs → All (λ u. fits u (said_by (client u) steps)) us → All (IsRunner client fits plan asks steps) us
  still asks steps [] vs clients plans were fitting = All-nil (IsRunner client fits plan asks steps)
  still asks steps (u ∷ us) [] clients plans were fitting = absurd (no_first (client u) (map client us) clients)
  still asks steps (u ∷ us) (v ∷ vs) clients plans were fitting =
      let same : client u ≡ client v = first_same (client u) (client v) (map client us) (map client vs) clients in
      let alike : plan u ≡ plan v = first_same (plan u) (plan v) (map plan us) (map plan vs) plans in
      let was : plan v ≡ asks_by (client v) asks = All-head (λ v. plan v ≡ asks_by (client v) asks) v vs were in
      All-cons (IsRunner client fits plan asks steps) u us
      (record { fitting = All-head (λ u. fits u (said_by (client u) steps)) u us fitting; planned = alike ∙ was ∙ ap (λ c. asks_by c asks) (sym same) })
      (still asks steps us vs (rest_same (client u) (client v) (map client us) (map client vs) clients) (rest_same (plan u) (plan v) (map plan us) (map plan vs) plans)
      (All-tail (λ v. plan v ≡ asks_by (client v) asks) v vs were) (All-tail (λ u. fits u (said_by (client u) steps)) u us fitting))

  abbrev Found : List ScriptTxn → List (Call × Reply) → List U → ℕ → Type 0
  Found asks steps us c = ((u : U) × (client u ≡ c) × Contains (map client us) (client u) × IsRunner client fits plan asks steps u) ⊎ NoneIs c (map client us)

  later : (n : ℕ) (numbers : List ℕ) (c : ℕ) → Contains numbers c → Contains (n ∷ numbers) c
  later n numbers c (k, low, is) = (suc k, omega (arith, low), is)

  -- the runner of a client, where there is one
  find : (asks : List ScriptTxn) (steps : List (Call × Reply)) (us : List U) (c : ℕ) → All (IsRunner client fits plan asks steps) us → Found asks steps us c
  find asks steps [] c are = inr (All-nil (λ n. n ≡ c → ⊥))
  find asks steps (u ∷ us) c are = by (client u == c) refl (find asks steps us c (All-tail (IsRunner client fits plan asks steps) u us are))
    where
      is : IsRunner client fits plan asks steps u
      is = All-head (IsRunner client fits plan asks steps) u us are

      by : (b : Bool) → (client u == c) ≡ b → Found asks steps us c → Found asks steps (u ∷ us) c
      by true same more = inl (u, (Decides-eqb (client u) c).0 same, (0, omega arith, refl), is)
      by false other (inl (v, same, among, it)) = inl (v, same, later (client u) (map client us) (client v) among, it)
      by false other (inr none) = inr (All-cons (λ n. n ≡ c → ⊥) (client u) (map client us) (λ e. false≢true (sym other ∙ (Decides-eqb (client u) c).1 e)) none)

  module _ (means : (u : U) (said : List (Call × Reply)) → fits u said → MeantFirst (plan u) (told_of said) × (has_signed_off said ≡ true → was_refused said ≡ false → MeantAll (plan u) (told_of said)))
      (asks : List ScriptTxn) (steps : List (Call × Reply)) (us : List U) (are : All (IsRunner client fits plan asks steps) us)
      (only : (c : ℕ) → (Contains (map client us) c → ⊥) → said_by c steps ≡ []) where
    -- what each client was told is what its script means
    pub meant : (c : ℕ) → MeantFirst (asks_by c asks) (told_of (said_by c steps))
    meant c = by (find asks steps us c are)
      where
        by : Found asks steps us c → MeantFirst (asks_by c asks) (told_of (said_by c steps))
        by (inl (u, same, among, is)) = subst (λ n. MeantFirst (asks_by n asks) (told_of (said_by n steps))) same (subst (λ a. MeantFirst a (told_of (said_by (client u) steps))) is.planned (means u (said_by (client u) steps) is.fitting).0)
        by (inr none) = subst (λ l. MeantFirst (asks_by c asks) (told_of l)) (sym (only c (none_is c (map client us) none))) tt

    pub clients_first : (c : ℕ) (told : List (EpochRecord ℕ)) → TellFirst c (txns_by c told) (told_of (said_by c steps)) → ServedFirst (asks_by c asks) (txns_by c told)
    clients_first c told tells = served_first c (asks_by c asks) (txns_by c told) (told_of (said_by c steps)) tells (meant c)

    -- where each has signed off and none was refused, and the script is of these clients alone: all of it
    module _ (signed_off : (c : ℕ) → Contains (map client us) c → has_signed_off (said_by c steps) ≡ true) (served : (c : ℕ) → was_refused (said_by c steps) ≡ false)
        (named : (c : ℕ) → (Contains (map client us) c → ⊥) → asks_by c asks ≡ []) where
      meant_all : (c : ℕ) → MeantAll (asks_by c asks) (told_of (said_by c steps))
      meant_all c = by (find asks steps us c are)
        where
          by : Found asks steps us c → MeantAll (asks_by c asks) (told_of (said_by c steps))
          by (inl (u, same, among, is)) = subst (λ n. MeantAll (asks_by n asks) (told_of (said_by n steps))) same
              (subst (λ a. MeantAll a (told_of (said_by (client u) steps))) is.planned ((means u (said_by (client u) steps) is.fitting).1 (signed_off (client u) among) (served (client u))))
          by (inr none) =
              let other : Contains (map client us) c → ⊥ = none_is c (map client us) none in
              subst (λ a. MeantAll a (told_of (said_by c steps))) (sym (named c other)) (subst (λ l. MeantAll [] (told_of l)) (sym (only c other)) tt)

      pub clients_all : (c : ℕ) (told : List (EpochRecord ℕ)) → TellAll c (txns_by c told) (told_of (said_by c steps)) → ServedAll (asks_by c asks) (txns_by c told)
      clients_all c told tells = served_all c (asks_by c asks) (txns_by c told) (told_of (said_by c steps)) tells (meant_all c)
