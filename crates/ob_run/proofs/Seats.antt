-- The clients of a hall before and after their calls.
use Rattle.std.proofs.Common.{◌≡◌, ◌∙◌, ◌<◌, ◌≤◌, ◌+◌, ℕ, zero, suc, false, All, Contains, List, [], ◌∷◌, ◌++◌, map, length, slice_get, Some, refl, sym, ap, ap₂, subst, inl, inr, arith}
use Rattle.std.proofs.lemmas.Option.{none-some, same_Some}
use Rattle.std.proofs.lemmas.List.Elements.{All-nil, All-cons, All-head, All-tail}
use Rattle.ob_desk.specs.Desk.{DeskState}
use Rattle.ob_session.specs.Clients.{said_by, stands_after}
use Rattle.ob_session.specs.declared.runner.Step.TheVariants.{Done}
use Rattle.ob_turn.specs.declared.turn.Entry.{Entry}
use Rattle.ob_turn.specs.History.{entries_of}
use Rattle.ob_hall.specs.Turns.{client_numbers}
use Rattle.ob_hall.specs.Passes.{Steps, Hall, Pass, IsNew, opening_of, pass_place, entries_by, calls_in, said_of, IsPassOf, IsOutOfTurn, IsLegal}
use Rattle.ob_hall.specs.Opening.{IsFreshPass, AreClients}
use Rattle.ob_hall.specs.Closing.{HasPass}
use Rattle.ob_hall.specs.Calling.{IsReady, IsBetween}
use Rattle.ob_hall.specs.Driving.{StepRule, AreSteps}
use Rattle.ob_hall.specs.Laws.{AreOwnCalls}
use Rattle.ob_conduct.specs.Scenes.{RunnerKind, runner_kind, seat_of}
use Rattle.ob_threads.specs.Served.{Words, words, IsClient, IsLater}
use Rattle.ob_threads.specs.Starts.{Each}
use Rattle.ob_run.specs.Threaded.{is_by_hand}
use Rattle.ob_run.proofs.Keeping.{IsPlanned}
use Rattle.ob_run.proofs.ByHand.{IsNewHere}

among_map : {A B : Type 0} (f : A → B) (x : A) (xs : List A) → Contains xs x → Contains (map f xs) (f x)
among_map {A} f x [] (i, low, is) = absurd (none i low)
  where
    none : (i : ℕ) → i < length {A = A} [] → ⊥
    none i low = omega (arith, low)
among_map f x (y ∷ xs) (zero, low, is) = (0, omega arith, ap f is)
among_map f x (y ∷ xs) (suc i, low, is) = let (j, less, same) = among_map f x xs (i, omega (arith, low), is) in (suc j, omega (arith, less), same)

among_more : {A : Type 0} (y x : A) (xs : List A) → Contains xs x → Contains (y ∷ xs) x
among_more y x xs (i, low, is) = (suc i, omega (arith, low), is)

module _ {U Plan : Type 0} (client bound : U → ℕ) (plan : U → Plan) (fits : U → Steps → Type 0) (turn : Plan → StepRule) (hall : Hall) where
  abbrev w : Words U Plan
  w = words client bound plan fits turn

  abbrev kind : RunnerKind U Plan
  kind = runner_kind client bound plan fits turn

  abbrev passes_of : List (Pass × U) → List Pass
  passes_of cs = map (λ (c : Pass × U). c.0) cs

  abbrev runners_of : List (Pass × U) → List U
  runners_of cs = map (λ (c : Pass × U). c.1) cs

  fresh_said : (at : ℕ) (p : Pass) → IsFreshPass hall at p → said_of p ≡ []
  fresh_said at p f = ap (λ (es : List (Entry Steps)). said_by p.client (calls_in es)) f.none_made

  -- ---- before their calls

  -- new passes with runners that have made no call are clients
  pub seated : (keys at : ℕ) (cs : List (Pass × U)) → (opening_of hall).setup.params.keys ≡ keys → AreClients hall at (map client (runners_of cs)) (passes_of cs) → All (λ p. IsReady hall p × IsBetween p) (passes_of cs)
      → All (λ u. bound u ≤ keys) (runners_of cs) → All (λ u. fits u []) (runners_of cs) → All (IsClient w hall) cs
  seated keys at [] keys_are are ready below none = All-nil (IsClient w hall)
  seated keys at (c ∷ cs) keys_are (fresh, named, raises, rest) ready below none = All-cons (IsClient w hall) c cs
      (record {
        ready = (All-head (λ p. IsReady hall p × IsBetween p) c.0 (passes_of cs) ready).0;
        named = sym named;
        below = subst (λ n. bound c.1 ≤ n) (sym keys_are) (All-head (λ u. bound u ≤ keys) c.1 (runners_of cs) below);
        fits = subst (fits c.1) (sym (fresh_said (suc at) c.0 fresh)) (All-head (λ u. fits u []) c.1 (runners_of cs) none);
      })
      (seated keys (suc at) cs keys_are rest (All-tail (λ p. IsReady hall p × IsBetween p) c.0 (passes_of cs) ready) (All-tail (λ u. bound u ≤ keys) c.1 (runners_of cs) below) (All-tail (λ u. fits u []) c.1 (runners_of cs) none))

  pub same_numbers : (cs : List (Pass × U)) → All (IsClient w hall) cs → map client (runners_of cs) ≡ map (λ (c : Pass × U). c.0.client) cs
  same_numbers [] all = refl
  same_numbers (c ∷ cs) all = ap₂ (λ (n : ℕ) (l : List ℕ). n ∷ l) (All-head (IsClient w hall) c cs all).named (same_numbers cs (All-tail (IsClient w hall) c cs all))

  -- they have made no call
  pub none_yet : (at : ℕ) (numbers : List ℕ) (cs : List (Pass × U)) → AreClients hall at numbers (passes_of cs) → All (IsClient w hall) cs → All (IsNewHere w hall) cs
  none_yet at [] [] are all = All-nil (IsNewHere w hall)
  none_yet at [] (c ∷ cs) are all = absurd are
  none_yet at (number ∷ numbers) [] are all = All-nil (IsNewHere w hall)
  none_yet at (number ∷ numbers) (c ∷ cs) (fresh, named, raises, rest) all =
      All-cons (IsNewHere w hall) c cs (record { none_made = fresh.none_made; clients = (All-head (IsClient w hall) c cs all).ready.clients }) (none_yet (suc at) numbers cs rest (All-tail (IsClient w hall) c cs all))

  -- ---- behind their calls

  still_client : (c n : Pass × U) → IsClient w hall c → IsLater w hall c n → IsClient w hall n
  still_client c n is (inl same) = subst (IsClient w hall) (sym same) is
  still_client c n is (inr more) = more.is_client

  pub still_clients : (cs ns : List (Pass × U)) → All (IsClient w hall) cs → Each (IsLater w hall) cs ns → All (IsClient w hall) ns
  still_clients [] [] all each = All-nil (IsClient w hall)
  still_clients [] (n ∷ ns) all each = absurd each
  still_clients (c ∷ cs) [] all each = absurd each
  still_clients (c ∷ cs) (n ∷ ns) all (one, each) = All-cons (IsClient w hall) n ns (still_client c n (All-head (IsClient w hall) c cs all) one) (still_clients cs ns (All-tail (IsClient w hall) c cs all) each)

  -- what stays of a runner
  pub stays : {A : Type 0} (f : U → A) → ((c n : Pass × U) → IsLater w hall c n → f n.1 ≡ f c.1) → (cs ns : List (Pass × U)) → Each (IsLater w hall) cs ns → map f (runners_of ns) ≡ map f (runners_of cs)
  stays f same [] [] each = refl
  stays f same [] (n ∷ ns) each = absurd each
  stays f same (c ∷ cs) [] each = absurd each
  stays f same (c ∷ cs) (n ∷ ns) (one, each) = ap₂ (λ x (l : List _). x ∷ l) (same c n one) (stays f same cs ns each)

  pub same_client : (c n : Pass × U) → IsLater w hall c n → client n.1 ≡ client c.1
  same_client c n (inl same) = ap (λ (x : Pass × U). client x.1) same
  same_client c n (inr more) = more.client

  pub same_bound : (c n : Pass × U) → IsLater w hall c n → bound n.1 ≡ bound c.1
  same_bound c n (inl same) = ap (λ (x : Pass × U). bound x.1) same
  same_bound c n (inr more) = more.bound

  pub same_plan : (c n : Pass × U) → IsLater w hall c n → plan n.1 ≡ plan c.1
  same_plan c n (inl same) = ap (λ (x : Pass × U). plan x.1) same
  same_plan c n (inr more) = more.plan

  pub still_ready : (ns : List (Pass × U)) → All (IsClient w hall) ns → All (IsPassOf hall) (passes_of ns) × All IsOutOfTurn (passes_of ns)
  still_ready [] all = (All-nil (IsPassOf hall), All-nil IsOutOfTurn)
  still_ready (n ∷ ns) all =
      let is = All-head (IsClient w hall) n ns all in
      let (own, idle) = still_ready ns (All-tail (IsClient w hall) n ns all) in
      (All-cons (IsPassOf hall) n.0 (passes_of ns) is.ready.own own, All-cons IsOutOfTurn n.0 (passes_of ns) is.ready.idle idle)

  -- ---- in the whole history

  module _ (log : List (Entry Steps)) (raised : List ℕ) (d : DeskState) (own_calls : AreOwnCalls) (new : IsNew (opening_of hall)) (led : IsLegal hall log d) where
    -- what a client has said is what the history says of it
    said_is : (n : Pass × U) → IsClient w hall n → HasPass log raised n.0 → said_by (client n.1) (calls_in log) ≡ said_of n.0
    said_is n is has =
        let named = is.ready.clients in
        let mine = (own_calls (opening_of hall) d log named.at n.0.client new led named.named).0 in
        let its : entries_of (suc named.at) log ≡ entries_by n.0 = subst (λ at. entries_of at log ≡ entries_by n.0) named.place has.own in
        ap (λ number. said_by number (calls_in log)) is.named ∙ (mine ∙ ap (λ (es : List (Entry Steps)). said_by n.0.client (calls_in es)) its)

    fits_one : (n : Pass × U) → IsClient w hall n → HasPass log raised n.0 → fits n.1 (said_by (client n.1) (calls_in log))
    fits_one n is has = subst (fits n.1) (sym (said_is n is has)) is.fits

    -- Those that aren't by hand have signed off, by the history.
    pub signed_off : (hand : List ℕ) (ns : List (Pass × U)) → All (IsClient w hall) ns → All (HasPass log raised) (passes_of ns) → All (λ (n : Pass × U). is_by_hand hand n.0.client ≡ false → stands_after (said_of n.0) ≡ Done) ns
        → All (λ number. is_by_hand hand number ≡ false → stands_after (said_by number (calls_in log)) ≡ Done) (map client (runners_of ns))
    signed_off hand [] all have off = All-nil (λ number. is_by_hand hand number ≡ false → stands_after (said_by number (calls_in log)) ≡ Done)
    signed_off hand (n ∷ ns) all have off =
        let is = All-head (IsClient w hall) n ns all in
        All-cons (λ number. is_by_hand hand number ≡ false → stands_after (said_by number (calls_in log)) ≡ Done) (client n.1) (map client (runners_of ns))
        (λ other. ap stands_after (said_is n is (All-head (HasPass log raised) n.0 (passes_of ns) have)) ∙ All-head (λ (x : Pass × U). is_by_hand hand x.0.client ≡ false → stands_after (said_of x.0) ≡ Done) n ns off (ap (is_by_hand hand) (sym is.named) ∙ other))
        (signed_off hand ns (All-tail (IsClient w hall) n ns all) (All-tail (HasPass log raised) n.0 (passes_of ns) have) (All-tail (λ (x : Pass × U). is_by_hand hand x.0.client ≡ false → stands_after (said_of x.0) ≡ Done) n ns off))

    pub fitting : (ns : List (Pass × U)) → All (IsClient w hall) ns → All (HasPass log raised) (passes_of ns) → All (λ u. fits u (said_by (client u) (calls_in log))) (runners_of ns)
    fitting [] all have = All-nil (λ u. fits u (said_by (client u) (calls_in log)))
    fitting (n ∷ ns) all have = All-cons (λ u. fits u (said_by (client u) (calls_in log))) n.1 (runners_of ns)
        (fits_one n (All-head (IsClient w hall) n ns all) (All-head (HasPass log raised) n.0 (passes_of ns) have))
        (fitting ns (All-tail (IsClient w hall) n ns all) (All-tail (HasPass log raised) n.0 (passes_of ns) have))

    -- the client at a place
    pub record IsFound (at number : ℕ) (cs : List (Pass × U)) : Type 0 where
      pub before : Pass × U
      pub after : Pass × U
      pub among : Contains cs before
      pub is_client : IsClient w hall before
      pub later : IsLater w hall before after
      pub fresh : IsFreshPass hall (suc at) before.0
      pub named : before.0.client ≡ number
      pub has : HasPass log raised after.0

    find : (from : ℕ) (numbers : List ℕ) (cs ns : List (Pass × U)) → AreClients hall from numbers (passes_of cs) → All (IsClient w hall) cs → Each (IsLater w hall) cs ns → All (HasPass log raised) (passes_of ns)
        → (i at number : ℕ) → at ≡ from + i → slice_get numbers i ≡ Some number → IsFound at number cs
    find from [] cs ns are all each have i at number same named = absurd (none-some number named)
    find from (m ∷ numbers) [] ns are all each have i at number same named = absurd are
    find from (m ∷ numbers) (c ∷ cs) [] are all each have i at number same named = absurd each
    find from (m ∷ numbers) (c ∷ cs) (n ∷ ns) (fresh, is, raises, rest) all (one, each) have zero at number same named = record {
      before = c;
      after = n;
      among = (0, omega arith, refl);
      is_client = All-head (IsClient w hall) c cs all;
      later = one;
      fresh = subst (λ k. IsFreshPass hall (suc k) c.0) (let here : from ≡ at = omega (arith, same) in here) fresh;
      named = is ∙ same_Some m number named;
      has = All-head (HasPass log raised) n.0 (passes_of ns) have;
    }
    find from (m ∷ numbers) (c ∷ cs) (n ∷ ns) (fresh, is, raises, rest) all (one, each) have (suc i) at number same named =
        let f = find (suc from) numbers cs ns rest (All-tail (IsClient w hall) c cs all) each (All-tail (HasPass log raised) n.0 (passes_of ns) have) i at number (omega (arith, same)) named in
        record { before = f.before; after = f.after; among = among_more c f.before cs f.among; is_client = f.is_client; later = f.later; fresh = f.fresh; named = f.named; has = f.has }

    -- its entries are steps by its plan
    its_steps : (at number : ℕ) (cs : List (Pass × U)) (f : IsFound at number cs) → IsLater w hall f.before f.after → AreSteps (turn (plan f.before.1)) number [] (entries_of (suc at) log)
    its_steps at number cs f (inl same) =
        let none : entries_by f.after.0 ≡ [] = ap (λ (x : Pass × U). entries_by x.0) same ∙ f.fresh.none_made in
        let place : pass_place f.after.0 ≡ suc at = ap (λ (x : Pass × U). pass_place x.0) same ∙ f.fresh.place in
        subst (AreSteps (turn (plan f.before.1)) number []) (sym (ap (λ k. entries_of k log) (sym place) ∙ (f.has.own ∙ none))) tt
    its_steps at number cs f (inr more) =
        let made : entries_by f.after.0 ≡ more.turns.new = more.turns.made ∙ ap (λ (es : List (Entry Steps)). es ++ more.turns.new) f.fresh.none_made in
        let place : pass_place f.after.0 ≡ suc at = more.made.made.place ∙ f.fresh.place in
        subst (AreSteps (turn (plan f.before.1)) number []) (sym (ap (λ k. entries_of k log) (sym place) ∙ (f.has.own ∙ made)))
        (subst (λ n. AreSteps (turn (plan f.before.1)) n [] more.turns.new) f.named (subst (λ (said : Steps). AreSteps (turn (plan f.before.1)) f.before.0.client said more.turns.new) (fresh_said (suc at) f.before.0 f.fresh) more.turns.keep))

    -- each client is planned, by its place
    pub planned : (cs ns : List (Pass × U)) → AreClients hall 0 (client_numbers (opening_of hall)) (passes_of cs) → All (IsClient w hall) cs → Each (IsLater w hall) cs ns → All (HasPass log raised) (passes_of ns)
        → (at number : ℕ) → slice_get (client_numbers (opening_of hall)) at ≡ Some number → IsPlanned turn (map (seat_of kind) (runners_of cs)) (opening_of hall) d log own_calls new led at number
    planned cs ns are all each have at number named =
        let f = find 0 (client_numbers (opening_of hall)) cs ns are all each have at at number (omega arith) named in
        record {
          plan = plan f.before.1;
          seat = subst (λ n. Contains (map (seat_of kind) (runners_of cs)) (n, plan f.before.1)) (f.is_client.named ∙ f.named)
              (among_map (seat_of kind) f.before.1 (runners_of cs) (among_map (λ (c : Pass × U). c.1) f.before cs f.among));
          steps = its_steps at number cs f f.later;
        }
