-- The script of a self-test, transaction by transaction, and that it is sound.
use Rattle.std.proofs.Common.{◌≡◌, ◌<◌, ◌+◌, ◌*◌, ◌∷◌, [], ◌++◌, ℕ, zero, suc, List, map, refl, sym, subst, ◌∙◌, ap, arith, add-one}
use Rattle.std.proofs.Math.Nat.{mod-lt}
use Rattle.std.proofs.lemmas.List.{map-append}
use Rattle.std.proofs.lemmas.List.Elements.{All-push, All-nil, Contains-push}
use Rattle.std.specs.Prelude.{All, Contains, pos}
use Rattle.std.specs.List.{range_with_len}
use Rattle.ob_base.specs.Clients.{IsClientNumber}
use Rattle.ob_base.specs.Tree.{below}
use Rattle.ob_script.specs.declared.line.Ask.{Ask}
use Rattle.ob_script.specs.declared.line.Ask.TheVariants.{Get, Add}
use Rattle.ob_script.specs.declared.line.ScriptTxn.{ScriptTxn as CodeTxn}
use Rattle.ob_script.specs.Drill.{drill_script, drill_txn, key_added, key_given, key_read, number_after, number_behind}
use Rattle.ob_script.specs.Script.{ScriptTxn, AreSound, key_of}
use Rattle.ob_script.specs.ScriptViews.{script_of, script_txn_of, scripts_of}

abbrev pub txn_at : ℕ → ScriptTxn
txn_at i = drill_txn (key_read i) (key_added i)

range_more : (a n j : ℕ) → a + n ≡ j → range_with_len a (suc n) ≡ range_with_len a n ++ j ∷ []
range_more a zero j e = let same : a ≡ j = omega arith in rw same refl
range_more a (suc n) j e = ap (λ xs. a ∷ xs) (range_more (a + 1) n j (omega arith))

made_more : (n : ℕ) → map txn_at (below (n + 1)) ≡ map txn_at (below n) ++ txn_at n ∷ []
made_more n = ap (map txn_at) (rw add-one (range_more 0 n n (omega arith))) ∙ map-append txn_at (below n) (n ∷ [])

all_made : (P : ScriptTxn → Type 0) → ((i : ℕ) → P (txn_at i)) → (n : ℕ) → All P (map txn_at (below n))
all_made P each zero = All-nil P
all_made P each (suc n) = let more : map txn_at (below (suc n)) ≡ map txn_at (below n) ++ txn_at n ∷ [] = rw add-one at (made_more n) in subst (All P) (sym more) (All-push P (map txn_at (below n)) (txn_at n) (all_made P each n) (each n))

few : (x : ℕ) → key_given x < 256
few x = mod-lt _ (omega arith)

both_below : (i : ℕ) → All (λ ask. key_of ask < 256) (txn_at i).asks
both_below i =
    let first = few (number_after (2 * i + 1)) in
    let second = few (number_after (2 * i + 2)) in
    All-push (λ ask. key_of ask < 256) (Get (key_read i) ∷ []) (Add (key_added i) (pos 1)) (All-push (λ ask. key_of ask < 256) [] (Get (key_read i)) (All-nil (λ (ask : Ask). key_of ask < 256)) first) second

pub drill_sound : (n : ℕ) → AreSound (drill_script n)
drill_sound n = record {
  below = all_made (λ t. All (λ ask. key_of ask < 256) t.asks) both_below n;
  named = All-push IsClientNumber [] 1 (All-nil IsClientNumber) (omega arith, omega arith);
  rising = λ k within. omega arith;
  owned = all_made (λ t. Contains (1 ∷ []) t.client) (λ i. Contains-push {X = ℕ} [] 1) n;
}

-- what is held is the script, if its lists are
pub drill_held : (n : ℕ) (clients : List ℕ) (txns : List CodeTxn) → clients ≡ 1 ∷ [] → script_of txns ≡ map txn_at (below n) → scripts_of 256 clients txns ≡ drill_script n
drill_held n clients txns one all = ap (λ c. record { keys = 256; clients = c; txns = script_of txns }) one ∙ ap (λ t. record { keys = 256; clients = 1 ∷ []; txns = t }) all

one_step : (m : ℕ) → number_after (m + 1) ≡ number_behind (number_after m)
one_step m = let is : m + 1 ≡ suc m = omega arith in ap number_after is

two_steps : (m : ℕ) → number_after (m + 2) ≡ number_behind (number_behind (number_after m))
two_steps m = let is : m + 2 ≡ suc (suc m) = omega arith in ap number_after is

behind : (n : ℕ) → drill_txn (key_given (number_behind (number_after (2 * n)))) (key_given (number_behind (number_behind (number_after (2 * n))))) ≡ txn_at n
behind n = λ j. drill_txn (key_given (sym (one_step (2 * n)) j)) (key_given (sym (two_steps (2 * n)) j))

-- one transaction more
pub drill_more : (n : ℕ) (txns : List CodeTxn) (txn : CodeTxn) (x : ℕ) → script_of txns ≡ map txn_at (below n) → x ≡ number_after (2 * n)
    → script_txn_of txn ≡ drill_txn (key_given (number_behind x)) (key_given (number_behind (number_behind x))) → script_of (txns ++ txn ∷ []) ≡ map txn_at (below (n + 1))
drill_more n txns txn x made at told =
    map-append script_txn_of txns (txn ∷ []) ∙ ap (λ (l : List ScriptTxn). l ++ script_txn_of txn ∷ []) made
    ∙ ap (λ t. map txn_at (below n) ++ t ∷ []) (told ∙ ap (λ y. drill_txn (key_given (number_behind y)) (key_given (number_behind (number_behind y)))) at ∙ behind n) ∙ sym (made_more n)

pub two_more : (n x : ℕ) → x ≡ number_after (2 * n) → number_behind (number_behind x) ≡ number_after (2 * (n + 1))
two_more n x at =
    let twice : 2 * (n + 1) ≡ suc (suc (2 * n)) = omega arith in
    ap (λ y. number_behind (number_behind y)) at ∙ sym (ap number_after twice)
