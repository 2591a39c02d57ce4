-- A script's keys are below its bound, and its clients rise.
use Rattle.std.proofs.Common.{◌≡◌, ◌<◌, ◌≤◌, ◌+◌, ◌⊎◌, ◌∷◌, [], ◌++◌, length, get_or, ℕ, List, Bool, true, false, Option, Some, None, refl, sym, subst, cond, ◌==◌, nat_lt, inl, inr, arith, length-append, ◌∙◌}
use Rattle.std.proofs.Math.ListN.{get_or-append}
use Rattle.std.proofs.lemmas.List.{get_or-append-add}
use Rattle.std.specs.Prelude.{All, Contains}
use Rattle.std.specs.List.Sorted.{IsStrictlyIncreasing}
use Rattle.std.proofs.lemmas.Bool.{ltb-true, ltb-false, eqb-false}
use Rattle.std.proofs.lemmas.List.Elements.{All-push, All-nil, All-weaker, Contains-push, Contains-append_left}
use Rattle.ob_script.specs.declared.line.Ask.{Ask}
use Rattle.ob_script.specs.declared.line.Ask.TheVariants.{Get, Put, Del, Add}
use Rattle.ob_script.specs.declared.line.Ending.{Ending}
use Rattle.ob_script.specs.declared.line.Line.{Line}
use Rattle.ob_script.specs.declared.line.Line.TheVariants.{Blank, Client, Begin, Asks, Ends}
use Rattle.ob_script.specs.Script.{Text, ScriptTxn, State, start, step, step_from, with_client, with_asks, with_txn, IsInRange, IsAskInRange, ReadsLines, key_of, AreOpsBelow, AreSound}

-- what is so of a transaction that is open
record IsOpenSound (n : ℕ) (s : State) (asks : List Ask) : Type 0 where
  below : All (λ ask. key_of ask < n) asks
  owned : Contains s.clients s.client

-- What was read so far is sound: the clients are none above the last, which is one of them unless it is 0.
record IsSoundSoFar (n : ℕ) (s : State) : Type 0 where
  below : AreOpsBelow n s.done
  named : All (λ c. (1 ≤ c) × (c ≤ 64)) s.clients
  rising : IsStrictlyIncreasing s.clients
  owned : All (λ (t : ScriptTxn). Contains s.clients t.client) s.done
  highest : All (λ c. c ≤ s.client) s.clients
  here : (s.client ≡ 0) ⊎ Contains s.clients s.client
  opened : (asks : List Ask) → s.open_asks ≡ Some asks → IsOpenSound n s asks

-- one more that is above all
rising_more : (xs : List ℕ) (x : ℕ) → IsStrictlyIncreasing xs → All (λ y. y < x) xs → IsStrictlyIncreasing (xs ++ x ∷ [])
rising_more xs x rising above k within =
    let whole = length-append xs (x ∷ []) in
    let here : k < length xs = omega arith in
    let first = get_or-append xs (x ∷ []) 0 k here in
    elim (nat_lt (k + 1) (length xs)) as (λ b. nat_lt (k + 1) (length xs) ≡ b → get_or (xs ++ x ∷ []) k 0 < get_or (xs ++ x ∷ []) (k + 1) 0) [
      | true ↦ λ test. let inside = ltb-true (k + 1) (length xs) test in
          omega (arith, first, get_or-append xs (x ∷ []) 0 (k + 1) inside, rising k inside)
      | false ↦ λ test. let last : k + 1 ≡ length xs + 0 = omega (arith, ltb-false (k + 1) (length xs) test) in
          rw (last, get_or-append-add xs (x ∷ []) 0 0) (omega (arith, first, above k 0 here))
    ] refl

ask_below : (n : ℕ) (ask : Ask) → IsAskInRange n ask → key_of ask < n
ask_below n (Get key) range = range
ask_below n (Put key value) range = range.0
ask_below n (Del key) range = range
ask_below n (Add key amount) range = range.0

one_state : (a b : State) → Some a ≡ Some b → a ≡ b
one_state a b is = cc is

none_there : (a : State) → None ≡ Some a → ⊥
none_there a is = cc is

same_asks : (a b : List Ask) → Some a ≡ Some b → a ≡ b
same_asks a b is = cc is

no_asks : (a : List Ask) → None ≡ Some a → ⊥
no_asks a is = cc is

module _ (n : ℕ) where
  -- with one client more
  named_more : (s : State) (client : ℕ) → IsSoundSoFar n s → s.open_asks ≡ None → (1 ≤ client) × (client ≤ 64) → s.client < client → IsSoundSoFar n (with_client client s)
  named_more s client sound none range above = record {
    below = sound.below;
    named = All-push (λ c. (1 ≤ c) × (c ≤ 64)) s.clients client sound.named range;
    rising = rising_more s.clients client sound.rising (All-weaker (λ c. c ≤ s.client) (λ c. c < client) (λ c le. omega arith) s.clients sound.highest);
    owned = All-weaker (λ (t : ScriptTxn). Contains s.clients t.client) (λ (t : ScriptTxn). Contains (s.clients ++ client ∷ []) t.client) (λ t has. Contains-append_left s.clients (client ∷ []) t.client has) s.done sound.owned;
    highest = All-push (λ c. c ≤ client) s.clients client (All-weaker (λ c. c ≤ s.client) (λ c. c ≤ client) (λ c le. omega arith) s.clients sound.highest) (omega arith);
    here = inr (Contains-push s.clients client);
    opened = λ asks at. absurd (no_asks asks (sym none ∙ at));
  }

  begun_more : (s : State) → IsSoundSoFar n s → Contains s.clients s.client → IsSoundSoFar n (with_asks (Some []) s)
  begun_more s sound has = record {
    below = sound.below;
    named = sound.named;
    rising = sound.rising;
    owned = sound.owned;
    highest = sound.highest;
    here = sound.here;
    opened = λ asks at. subst (IsOpenSound n (with_asks (Some []) s)) (same_asks [] asks at) (record { below = All-nil _; owned = has });
  }

  asked_more : (s : State) (asks : List Ask) (ask : Ask) → IsSoundSoFar n s → s.open_asks ≡ Some asks → key_of ask < n → IsSoundSoFar n (with_asks (Some (asks ++ ask ∷ [])) s)
  asked_more s asks ask sound is below = let one = sound.opened asks is in record {
    below = sound.below;
    named = sound.named;
    rising = sound.rising;
    owned = sound.owned;
    highest = sound.highest;
    here = sound.here;
    opened = λ more at. subst (IsOpenSound n (with_asks (Some (asks ++ ask ∷ [])) s)) (same_asks _ more at) (record { below = All-push (λ a. key_of a < n) asks ask one.below below; owned = one.owned });
  }

  ended_more : (s : State) (asks : List Ask) (ending : Ending) → IsSoundSoFar n s → s.open_asks ≡ Some asks → IsSoundSoFar n (with_txn asks ending s)
  ended_more s asks ending sound is = let one = sound.opened asks is in record {
    below = All-push (λ (t : ScriptTxn). All (λ a. key_of a < n) t.asks) s.done (record { client = s.client; asks = asks; ending = ending }) sound.below one.below;
    named = sound.named;
    rising = sound.rising;
    owned = All-push (λ (t : ScriptTxn). Contains s.clients t.client) s.done (record { client = s.client; asks = asks; ending = ending }) sound.owned one.owned;
    highest = sound.highest;
    here = sound.here;
    opened = λ more at. absurd (no_asks more at);
  }

  by_client : (b : Bool) (s : State) (client : ℕ) (next : State) → nat_lt s.client client ≡ b → IsSoundSoFar n s → s.open_asks ≡ None → (1 ≤ client) × (client ≤ 64) → cond b (Some (with_client client s)) None ≡ Some next → IsSoundSoFar n next
  by_client true s client next test sound none range is = subst (IsSoundSoFar n) (one_state _ _ is) (named_more s client sound none range (ltb-true _ _ test))
  by_client false s client next test sound none range is = absurd (none_there next is)

  owner : (s : State) → (s.client == 0) ≡ false → (s.client ≡ 0) ⊎ Contains s.clients s.client → Contains s.clients s.client
  owner s test (inl zero_is) = absurd (eqb-false s.client 0 test zero_is)
  owner s test (inr has) = has

  by_begin : (b : Bool) (s : State) (next : State) → (s.client == 0) ≡ b → IsSoundSoFar n s → cond b None (Some (with_asks (Some []) s)) ≡ Some next → IsSoundSoFar n next
  by_begin true s next test sound is = absurd (none_there next is)
  by_begin false s next test sound is = subst (IsSoundSoFar n) (one_state _ _ is) (begun_more s sound (owner s test sound.here))

  from_sound : (s : State) (asks : Option (List Ask)) (line : Line) (next : State) → IsSoundSoFar n s → s.open_asks ≡ asks → IsInRange n line → step_from s asks line ≡ Some next → IsSoundSoFar n next
  from_sound s None Blank next sound at range is = absurd (none_there next is)
  from_sound s None (Client c) next sound at range is = by_client (nat_lt s.client c) s c next refl sound at range is
  from_sound s None Begin next sound at range is = by_begin (s.client == 0) s next refl sound is
  from_sound s None (Asks ask) next sound at range is = absurd (none_there next is)
  from_sound s None (Ends ending) next sound at range is = absurd (none_there next is)
  from_sound s (Some asks) Blank next sound at range is = absurd (none_there next is)
  from_sound s (Some asks) (Client c) next sound at range is = absurd (none_there next is)
  from_sound s (Some asks) Begin next sound at range is = absurd (none_there next is)
  from_sound s (Some asks) (Asks ask) next sound at range is = subst (IsSoundSoFar n) (one_state _ _ is) (asked_more s asks ask sound at (ask_below n ask range))
  from_sound s (Some asks) (Ends ending) next sound at range is = subst (IsSoundSoFar n) (one_state _ _ is) (ended_more s asks ending sound at)

  step_sound : (s next : State) (line : Line) → IsSoundSoFar n s → IsInRange n line → step s line ≡ Some next → IsSoundSoFar n next
  step_sound s next Blank sound range is = subst (IsSoundSoFar n) (one_state s next is) sound
  step_sound s next (Client c) sound range is = from_sound s s.open_asks (Client c) next sound refl range is
  step_sound s next Begin sound range is = from_sound s s.open_asks Begin next sound refl range is
  step_sound s next (Asks ask) sound range is = from_sound s s.open_asks (Asks ask) next sound refl range is
  step_sound s next (Ends ending) sound range is = from_sound s s.open_asks (Ends ending) next sound refl range is

  reads_sound : (first last : State) (texts : List Text) → IsSoundSoFar n first → ReadsLines n first texts last → IsSoundSoFar n last
  reads_sound first last [] sound is = subst (IsSoundSoFar n) is sound
  reads_sound first last (text ∷ texts) sound (next, stands, rest) = reads_sound next last texts (step_sound first next stands.line sound stands.range stands.next_is) rest

  start_sound : IsSoundSoFar n start
  start_sound = record {
    below = All-nil _;
    named = All-nil _;
    rising = λ k within. absurd (omega arith);
    owned = All-nil _;
    highest = All-nil _;
    here = inl refl;
    opened = λ asks at. absurd (no_asks asks at);
  }

  -- what is read is sound
  pub read_sound : (last : State) (texts : List Text) → ReadsLines n start texts last → AreSound (record { keys = n; clients = last.clients; txns = last.done })
  read_sound last texts reads = let sound = reads_sound start last texts start_sound reads in
      record { below = sound.below; named = sound.named; rising = sound.rising; owned = sound.owned }
