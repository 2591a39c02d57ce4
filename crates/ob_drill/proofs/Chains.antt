-- Calls that change no value, one behind the other.
use Rattle.std.proofs.Common.{◌≡◌, ◌∙◌, inl, inr, ℕ, zero, suc, Option, Result, Ok, Err, OnOk, IfErr, All, List, [], ◌∷◌, ◌++◌, ◌+◌, ◌≤◌, length-append, refl, sym, subst, arith}
use Rattle.std.proofs.lemmas.List.Elements.{All-append}
use Rattle.ob_base.specs.declared.fault.Fault.{Fault}
use Rattle.ob_base.specs.Causes.{Rose}
use Rattle.ob_store.specs.Lines.{Trace, Shows}
use Rattle.ob_store.specs.Calls.{GoesOn}
use Rattle.ob_store.proofs.Serving.{goes_same, goes_then, rose_later}
use Rattle.ob_serial.specs.Vaults.{VaultCall, Fetch, End, VaultAnswer, Values, Ended, RefusedBy, DoubtBy, VaultState, vault_next, IsAnswer, AnswersAll}
use Rattle.ob_serial.specs.VaultViews.{fetch_answer}
use Rattle.ob_serial.specs.Serial.{Map}
use Rattle.std.specs.Ordering.{nat_cmp}
use Rattle.ob_serial.specs.VaultKinds.{Kind, Called}
use Rattle.ob_drill.specs.Reading.{AllShown, ChangesNone, IsGiven, IsRefusal, IsReading, ReadsOnly, IsRefusedReading, ReadingFails}

-- such a call leaves the map
one_held : (v : VaultState) (call : VaultCall) (answer : VaultAnswer) → ChangesNone call → IsGiven answer → (vault_next v call answer).content ≡ v.content
one_held v (Fetch keys) (Values values) none given = refl
one_held v (Fetch keys) Ended none given = refl
one_held v (Fetch keys) (RefusedBy fault) none given = absurd given
one_held v (Fetch keys) (DoubtBy fault) none given = absurd given
one_held v (End []) (Values values) none given = refl
one_held v (End []) Ended none given = refl
one_held v (End []) (RefusedBy fault) none given = absurd given
one_held v (End []) (DoubtBy fault) none given = absurd given
one_held v (End (write ∷ writes)) answer none given = absurd none

module _ {V : Type 0} (k : Kind V) where
  shown_then : (a b c : V) (t u w : Trace) (xs ys : List (VaultCall × VaultAnswer)) → AllShown k a t xs b u → AllShown k b u ys c w → AllShown k a t (xs ++ ys) c w
  shown_then a b c t u w [] ys (same, still) more = subst (λ x. AllShown k x t ys c w) same (subst (λ s. AllShown k b s ys c w) still more)
  shown_then a b c t u w (x ∷ xs) ys (mid, at, one, shown, rest) more = (mid, at, one, shown, shown_then mid b c at u w xs ys rest more)

  goes_on : (a b : V) (t u : Trace) (steps : List (VaultCall × VaultAnswer)) → AllShown k a t steps b u → GoesOn (k.disk a) (k.disk b)
  goes_on a b t u [] (same, still) = subst (λ x. GoesOn (k.disk a) (k.disk x)) (sym same) (goes_same (k.disk a))
  goes_on a b t u (x ∷ xs) (mid, at, one, shown, rest) = goes_then (k.disk a) (k.disk mid) (k.disk b) one.goes (goes_on mid b at u xs rest)

  all_held : (a b : V) (t u : Trace) (steps : List (VaultCall × VaultAnswer)) → AllShown k a t steps b u → All IsReading steps
      → (v : VaultState) → k.holds a v → (w : VaultState) × k.holds b w × (w.content ≡ v.content)
  all_held a b t u [] (same, still) reads v held = (v, subst (λ x. k.holds x v) (sym same) held, refl)
  all_held a b t u (x ∷ xs) (mid, at, one, shown, rest) reads v held =
      let first : ChangesNone x.0 × IsGiven x.1 = reads 0 x (omega arith) in
      let (w, holds, is) = all_held mid b at u xs rest (λ i d lt. reads (suc i) d (omega (arith, lt))) (vault_next v x.0 x.1) (one.holds v held) in
      (w, holds, is ∙ one_held v x.0 x.1 first.0 first.1)

  pub reads_none : (most : ℕ) (a : V) (t : Trace) → ReadsOnly k most a t a t
  reads_none most a t = record { steps = []; few = omega arith; chain = (refl, refl); reads = λ i d lt. absurd (omega (arith, lt)) }

  pub reads_one : (a b : V) (t u : Trace) (call : VaultCall) (answer : VaultAnswer) (one : Called k a call answer b) → Shows one.notes t u → ChangesNone call → IsGiven answer → ReadsOnly k 1 a t b u
  reads_one a b t u call answer one shown none given = record {
    steps = (call, answer) ∷ [];
    few = omega arith;
    chain = (b, u, one, shown, (refl, refl));
    reads = single;
  }
    where
      single : All IsReading ((call, answer) ∷ [])
      single zero d lt = (none, given)
      single (suc i) d lt = absurd (omega (arith, lt))

  pub reads_then : (m n most : ℕ) → m + n ≤ most → (a b c : V) (t u w : Trace) → ReadsOnly k m a t b u → ReadsOnly k n b u c w → ReadsOnly k most a t c w
  reads_then m n most within a b c t u w first rest = record {
    steps = first.steps ++ rest.steps;
    few = let f = first.few in let r = rest.few in omega (arith, f, r, within, length-append first.steps rest.steps);
    chain = shown_then a b c t u w first.steps rest.steps first.chain rest.chain;
    reads = All-append IsReading first.steps rest.steps first.reads rest.reads;
  }

  pub reads_within : (m n : ℕ) → m ≤ n → (a b : V) (t u : Trace) → ReadsOnly k m a t b u → ReadsOnly k n a t b u
  reads_within m n within a b t u all = record { steps = all.steps; few = let f = all.few in omega (arith, f, within); chain = all.chain; reads = all.reads }

  pub refused_one : (most : ℕ) (a b : V) (t u : Trace) (call : VaultCall) (answer : VaultAnswer) (fault : Fault) (one : Called k a call answer b) → Shows one.notes t u → ChangesNone call → IsRefusal fault answer → IsRefusedReading k most a t fault b u
  refused_one most a b t u call answer fault one shown none refused = record {
    mid = a;
    at = t;
    behind = reads_none most a t;
    call = call;
    reads = none;
    answer = answer;
    refused = refused;
    one = one;
    shown = shown;
  }

  pub refused_then : (m n most : ℕ) → m + n ≤ most → (a b c : V) (t u w : Trace) (fault : Fault) → ReadsOnly k m a t b u → IsRefusedReading k n b u fault c w → IsRefusedReading k most a t fault c w
  refused_then m n most within a b c t u w fault first rest = record {
    mid = rest.mid;
    at = rest.at;
    behind = reads_then m n most within a b rest.mid t u rest.at first rest.behind;
    call = rest.call;
    reads = rest.reads;
    answer = rest.answer;
    refused = rest.refused;
    one = rest.one;
    shown = rest.shown;
  }

  pub fails_then : (m n most : ℕ) → m + n ≤ most → (a b c : V) (t u w : Trace) (fault : Fault) → ReadsOnly k m a t b u → ReadingFails k n b u fault c w → ReadingFails k most a t fault c w
  fails_then m n most within a b c t u w fault first (inl (memory, rest)) = inl (memory, reads_then m n most within a b c t u w first rest)
  fails_then m n most within a b c t u w fault first (inr rest) = inr (refused_then m n most within a b c t u w fault first rest)

  pub cause_then : (m : ℕ) (a b c : V) (t u : Trace) → ReadsOnly k m a t b u → Rose (k.disk b).faults (k.disk c).faults → Rose (k.disk a).faults (k.disk c).faults
  cause_then m a b c t u first rose = rose_later (k.disk a).faults (k.disk b).faults (k.disk c).faults (goes_on a b t u first.steps first.chain).faults rose

  pub held_behind : (m : ℕ) (a b : V) (t u : Trace) → ReadsOnly k m a t b u → (v : VaultState) → k.holds a v → (w : VaultState) × k.holds b w × (w.content ≡ v.content)
  held_behind m a b t u first = all_held a b t u first.steps first.chain first.reads

  -- a fetch behind the call that leaves a batch for it
  pub fetched : (a b c : V) (t u w : Trace) (asks : List (Option ℕ)) (values : List (Option (List ℕ))) (r : Result (Unit {0}) Fault) → ReadsOnly k 1 a t b u → (one : Called k b (Fetch asks) (fetch_answer values r) c) → Shows one.notes u w → OnOk r (ReadsOnly k 2 a t c w)
  fetched a b c t u w asks values (Ok done) first one shown = reads_then 1 1 2 (omega arith) a b c t u w first (reads_one b c u w (Fetch asks) (Values values) one shown tt tt)
  fetched a b c t u w asks values (Err fault) first one shown = tt

  pub fetch_refused : (a b c : V) (t u w : Trace) (asks : List (Option ℕ)) (values : List (Option (List ℕ))) (r : Result (Unit {0}) Fault) → ReadsOnly k 1 a t b u → (one : Called k b (Fetch asks) (fetch_answer values r) c) → Shows one.notes u w
      → IfErr r (λ fault. IsRefusedReading k 2 a t fault c w)
  fetch_refused a b c t u w asks values (Ok done) first one shown = tt
  fetch_refused a b c t u w asks values (Err fault) first one shown = refused_then 1 1 2 (omega arith) a b c t u w fault first (refused_one 1 b c u w (Fetch asks) (RefusedBy fault) fault one shown tt refl)

  pub answers_behind : (m : ℕ) (a b : V) (t u : Trace) (asks : List (Option ℕ)) (values : List (Option (List ℕ))) (r : Result (Unit {0}) Fault) → ReadsOnly k m a t b u → ((v : VaultState) → k.holds b v → IsAnswer v.content (Fetch asks) (fetch_answer values r))
      → OnOk r ((v : VaultState) → k.holds a v → AnswersAll v.content asks values)
  answers_behind m a b t u asks values (Ok done) first answered = λ v held. let (w, holds, is) = held_behind m a b t u first v held in subst (λ (x : Map nat_cmp). AnswersAll x asks values) is (answered w holds)
  answers_behind m a b t u asks values (Err fault) first answered = tt
