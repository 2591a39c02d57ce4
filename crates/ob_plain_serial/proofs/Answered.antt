-- How the answers to a list of calls go on.
use Rattle.std.proofs.Common.{◌≡◌, ◌∙◌, ◌<◌, ◌+◌, ◌++◌, ◌∷◌, [], ℕ, List, sym, refl, ap, subst, arith, true, false, drop, length, map, get_or}
use Rattle.std.proofs.lemmas.List.{drop_more, drop-map, length-map, map-append, length-append}
use Rattle.ob_base.specs.declared.params.Params.{Params}
use Rattle.ob_plain_serial.specs.declared.calls.Request.{Request}
use Rattle.ob_plain_serial.specs.declared.calls.Reply.{Reply}
use Rattle.ob_serial.specs.Vaults.{VaultCall, Fetch, End, VaultAnswer, Values, Ended, RefusedBy, DoubtBy, VaultCounts, VaultState, VaultStep, counts_next}
use Rattle.ob_plain_serial.specs.VaultRuns.{AnsweredBy, served, call_of, answer_of, MayServe, MayServeAll}

-- one more answer
pub answered_on : (v : VaultState) (calls : List VaultCall) (answers : List VaultAnswer) (mid : VaultState) (call : VaultCall) (behind : List VaultCall) (answer : VaultAnswer) (next : VaultState)
    → AnsweredBy v calls answers mid → drop (length answers) calls ≡ call ∷ behind → VaultStep mid call answer next → AnsweredBy v calls (answers ++ answer ∷ []) next
answered_on v [] [] mid call behind answer next is at step = absurd (cons_not_nil at)
  where
    cons_not_nil : [] ≡ call ∷ behind → ⊥
    cons_not_nil e = cc
answered_on v (c ∷ calls) [] mid call behind answer next is at step =
    let same : c ≡ call = head_is at in
    (next, rw (same, sym is) step, refl)
  where
    head_is : c ∷ calls ≡ call ∷ behind → c ≡ call
    head_is e = cc
answered_on v [] (a ∷ answers) mid call behind answer next is at step = absurd is
answered_on v (c ∷ calls) (a ∷ answers) mid call behind answer next (between, first, rest) at step = (between, first, answered_on between calls answers mid call behind answer next rest at step)

-- An answer that leaves a vault unspent isn't a refusal.
pub served_counts : (batches : ℕ) (v : VaultCounts) (call : VaultCall) (answer : VaultAnswer) → (counts_next batches v call answer).spent ≡ false → counts_next batches v call answer ≡ counts_next batches v call (served call)
served_counts batches v (Fetch keys) (Values values) is = refl
served_counts batches v (Fetch keys) Ended is = absurd (not_spent is)
  where
    not_spent : true ≡ false → ⊥
    not_spent e = cc
served_counts batches v (Fetch keys) (RefusedBy fault) is = absurd (not_spent is)
  where
    not_spent : true ≡ false → ⊥
    not_spent e = cc
served_counts batches v (Fetch keys) (DoubtBy fault) is = absurd (not_spent is)
  where
    not_spent : true ≡ false → ⊥
    not_spent e = cc
served_counts batches v (End writes) (Values values) is = absurd (not_spent is)
  where
    not_spent : true ≡ false → ⊥
    not_spent e = cc
served_counts batches v (End writes) Ended is = refl
served_counts batches v (End writes) (RefusedBy fault) is = absurd (not_spent is)
  where
    not_spent : true ≡ false → ⊥
    not_spent e = cc
served_counts batches v (End writes) (DoubtBy fault) is = absurd (not_spent is)
  where
    not_spent : true ≡ false → ⊥
    not_spent e = cc

-- the front of the requests that is answered grows by one
pub grown : (v : VaultState) (requests : List Request) (replies : List Reply) (i : ℕ) (item : Request) (reply : Reply) (mid next : VaultState)
    → i < length requests → item ≡ get_or requests i item → length replies ≡ i
    → AnsweredBy v (map call_of requests) (map answer_of replies) mid → VaultStep mid (call_of item) (answer_of reply) next
    → AnsweredBy v (map call_of requests) (map answer_of (replies ++ reply ∷ [])) next
grown v requests replies i item reply mid next lt is count answered step =
    let dropped : drop i requests ≡ item ∷ drop (i + 1) requests = drop_more requests i item lt ∙ ap (λ x. x ∷ drop (i + 1) requests) (sym is) in
    let at : drop (length (map answer_of replies)) (map call_of requests) ≡ call_of item ∷ map call_of (drop (i + 1) requests) =
    ap (λ n. drop n (map call_of requests)) (length-map replies answer_of ∙ count) ∙ drop-map call_of i requests ∙ ap (map call_of) dropped in
    rw (map-append answer_of replies (reply ∷ []))
    (answered_on v (map call_of requests) (map answer_of replies) mid (call_of item) (map call_of (drop (i + 1) requests)) (answer_of reply) next answered at step)

-- what is left of the requests may be served
pub rest_may : (p : Params) (counts next : VaultCounts) (requests : List Request) (i : ℕ) (item : Request) (reply : Reply)
    → i < length requests → item ≡ get_or requests i item → next ≡ counts_next p.batches counts (call_of item) (answer_of reply) → next.spent ≡ false
    → MayServeAll p counts (drop i requests) → MayServe p counts item × MayServeAll p next (drop (i + 1) requests)
rest_may p counts next requests i item reply lt is new going may =
    let dropped : drop i requests ≡ item ∷ drop (i + 1) requests = drop_more requests i item lt ∙ ap (λ x. x ∷ drop (i + 1) requests) (sym is) in
    let split : MayServe p counts item × MayServeAll p (counts_next p.batches counts (call_of item) (served (call_of item))) (drop (i + 1) requests) = subst (MayServeAll p counts) dropped may in
    let same : next ≡ counts_next p.batches counts (call_of item) (served (call_of item)) = new ∙ served_counts p.batches counts (call_of item) (answer_of reply) (ap (λ c. c.spent) (sym new) ∙ going) in
    (split.0, subst (λ c. MayServeAll p c (drop (i + 1) requests)) (sym same) split.1)

pub count_more : {X : Type 0} (xs : List X) (x : X) (n : ℕ) → length xs ≡ n → length (xs ++ x ∷ []) ≡ n + 1
count_more xs x n is = length-append xs (x ∷ []) ∙ omega (arith, is)
