-- What a script wants next of the transaction that its runner is in.
use Rattle.std.proofs.Common.{◌≡◌, ◌+◌, ◌∙◌, ℕ, zero, suc, List, [], ◌∷◌, take, Option, Some, None, option_map, refl, sym, ap, subst, inl}
use Rattle.std.specs.Prelude.{slice_get, unwrap_or}
use Rattle.std.proofs.lemmas.Option.{same_Some, slice_get-map}
use Rattle.ob_desk.specs.declared.calls.Txn.{Txn}
use Rattle.ob_script.specs.declared.line.Ask.{Ask}
use Rattle.ob_script.specs.declared.line.Ending.{Ending}
use Rattle.ob_script.specs.declared.line.Ending.TheVariants as ending
use Rattle.ob_script.specs.declared.line.ScriptTxn.{ScriptTxn as CodeTxn}
use Rattle.ob_script.specs.ScriptViews.{script_of, script_txn_of}
use Rattle.ob_runner.specs.declared.place.Place.TheVariants as place
use Rattle.ob_runner.specs.declared.place.Wanted.{Wanted}
use Rattle.ob_runner.specs.declared.place.Wanted.TheVariants as wanted
use Rattle.ob_runner.specs.Meaning.{Meets}
use Rattle.ob_runner.specs.Places.{RunnerState, wanted_of, IsPlacedIn, InTxn, IsAskAt, IsAtTxnEnd, IsToAbort}

abbrev wants : Option Ask → ℕ → Ending → Wanted
wants found i end = unwrap_or (option_map (λ a. wanted.Ask a (i + 1)) found) (wanted.End end)

an_ask : (found : Option Ask) (i : ℕ) (end : Ending) (a : Ask) (next : ℕ) → wants found i end ≡ wanted.Ask a next → (found ≡ Some a) × (next ≡ i + 1)
an_ask None i end a next is = cc is
an_ask (Some b) i end a next is = (cc is, cc is)

an_end : (found : Option Ask) (i : ℕ) (end e : Ending) → wants found i end ≡ wanted.End e → (found ≡ None) × (end ≡ e)
an_end None i end e is = (refl, cc is)
an_end (Some b) i end e is = cc is

take_past : {A : Type 0} (xs : List A) (i : ℕ) → slice_get xs i ≡ None → take i xs ≡ xs
take_past [] zero past = refl
take_past [] (suc i) past = refl
take_past (x ∷ xs) zero past = cc past
take_past (x ∷ xs) (suc i) past = ap (λ l. x ∷ l) (take_past xs i past)

module _ (r : RunnerState) (x : Txn) (i : ℕ) (at : r.place ≡ place.Next x i) where
  -- an ask at the index
  pub wants_ask : (a : Ask) (next : ℕ) → option_map (λ s. wanted_of s i) (slice_get r.script r.at) ≡ Some (wanted.Ask a next) → InTxn r (IsAskAt a i next)
  wants_ask a next is s t here placed =
      let (current, meets) = subst (λ p. IsPlacedIn p s t) at placed in
      let w : wanted_of s i ≡ wanted.Ask a next = same_Some _ _ (sym (ap (option_map (λ s. wanted_of s i)) here) ∙ is) in
      let (found, behind) = an_ask (slice_get s.asks i) i s.ending a next w in
      (found, behind, meets)

  -- the transaction's end
  pub wants_end : (e : Ending) → option_map (λ s. wanted_of s i) (slice_get r.script r.at) ≡ Some (wanted.End e) → InTxn r (IsAtTxnEnd e)
  wants_end e is s t here placed =
      let (current, meets) = subst (λ p. IsPlacedIn p s t) at placed in
      let w : wanted_of s i ≡ wanted.End e = same_Some _ _ (sym (ap (option_map (λ s. wanted_of s i)) here) ∙ is) in
      let (past, end) = an_end (slice_get s.asks i) i s.ending e w in
      (subst (λ l. Meets l t.ops) (take_past s.asks i past) meets, end)

  pub wants_abort : option_map (λ s. wanted_of s i) (slice_get r.script r.at) ≡ Some (wanted.End ending.Abort) → InTxn r IsToAbort
  wants_abort is s t here placed = inl (wants_end ending.Abort is s t here placed)

-- what it wants, by the transaction in the code
pub wanted_is : (txns : List CodeTxn) (at : ℕ) (txn : CodeTxn) (i : ℕ) (found : Option Ask) (w : Wanted) → slice_get txns at ≡ Some txn → slice_get txn.asks.items i ≡ found → wants found i txn.ending ≡ w
    → option_map (λ s. wanted_of s i) (slice_get (script_of txns) at) ≡ Some w
wanted_is txns at txn i found w here ask is =
    ap (option_map (λ s. wanted_of s i)) (slice_get-map (λ t. script_txn_of t) txns at ∙ ap (option_map (λ t. script_txn_of t)) here) ∙ ap Some (ap (λ o. wants o i txn.ending) ask ∙ is)
