-- Clients that were started, stepped and joined.
use Rattle.std.proofs.Common.{◌≡◌, ◌≤◌, ◌∙◌, ◌++◌, [], ◌∷◌, All, List, sym, subst, inl, inr}
use Rattle.ob_session.specs.Steps.{IsOwn}
use Rattle.std.proofs.lemmas.List.Elements.{All-append}
use Rattle.ob_hall.specs.Passes.{Hall, Pass, opening_of, said_of}
use Rattle.ob_hall.specs.Calling.{IsReady, TellsCalls}
use Rattle.ob_hall.specs.Driving.{TurnSays, MakesStep, MakesSteps}
use Rattle.ob_hall.proofs.Chaining.{makes_join}
use Rattle.ob_threads.specs.declared.starting.Started.{Started}
use Rattle.ob_threads.specs.declared.starting.Started.TheVariants.{Away, Here}
use Rattle.ob_threads.specs.Served.{Words, IsClient, MakesOwnSteps, IsLater}
use Rattle.ob_threads.specs.Starts.{Each, HasItsPlace, IsWaitedFor, CanStep, IsStepped, IsJoined}
use Rattle.ob_threads.proofs.Joining.{steps_join}
use Rattle.ob_threads.proofs.Eaching.{each-all, each-through}

module _ {U Plan : Type 0} (w : Words U Plan) (hall : Hall) where
  goes_on_join : (a b c : Pass × U) → MakesOwnSteps w hall a b → MakesOwnSteps w hall b c → MakesOwnSteps w hall a c
  goes_on_join a b c m n = record {
    made = record {
      calls = m.made.calls ++ n.made.calls;
      says = All-append (IsOwn a.0.client) m.made.calls n.made.calls m.made.says (subst (λ number. All (IsOwn number) n.made.calls) m.made.made.client n.made.says);
      made = makes_join hall a.0 b.0 c.0 m.made.calls n.made.calls m.made.made n.made.made;
    };
    turns = steps_join (w.turn (w.plan a.1)) a.0 b.0 c.0 m.made.made.client m.turns (subst (λ (p : Plan). MakesSteps (w.turn p) b.0 c.0) m.plan n.turns);
    is_client = n.is_client;
    client = n.client ∙ m.client;
    bound = n.bound ∙ m.bound;
    plan = n.plan ∙ m.plan;
  }

  pub later_join : (a b c : Pass × U) → IsLater w hall a b → IsLater w hall b c → IsLater w hall a c
  later_join a b c (inl same) n = subst (λ x. IsLater w hall x c) same n
  later_join a b c (inr m) (inl same) = inr (subst (MakesOwnSteps w hall a) (sym same) m)
  later_join a b c (inr m) (inr n) = inr (goes_on_join a b c m n)

  -- ---- from the start to the join

  placed_waited : (client : Pass × U) (one : Started U) → IsClient w hall client → HasItsPlace w hall client one → IsWaitedFor w hall one
  placed_waited client (Away handle) is placed = (placed.0, subst (IsClient w hall) (sym placed.1) is)
  placed_waited client (Here now) is placed = tt

  placed_met : (client : Pass × U) (one : Started U) → IsClient w hall client → HasItsPlace w hall client one → CanStep w hall one
  placed_met client (Away handle) is placed = tt
  placed_met client (Here now) is placed = placed.0

  placed_stepped : (client : Pass × U) (one next : Started U) → HasItsPlace w hall client one → IsStepped w hall one next → HasItsPlace w hall client next
  placed_stepped client (Away handle) next placed stepped = subst (HasItsPlace w hall client) (sym stepped) placed
  placed_stepped client (Here now) (Here next) placed stepped = (stepped.0.is_client, later_join client now next placed.1 (inr stepped.0))
  placed_stepped client (Here now) (Away handle) placed stepped = absurd stepped

  -- ---- one step

  pub is_here : (one : Started U) (client : Pass × U) → one ≡ Here client → CanStep w hall one → IsClient w hall client
  is_here one client is met = subst (CanStep w hall) is met

  pub has_stepped : (a b : Pass × U) → IsClient w hall a → TellsCalls hall a.0 b.0 (TurnSays a.0.client (said_of a.0)) → MakesStep (w.turn (w.plan a.1)) a.0 b.0
      → w.fits b.1 (said_of b.0) → w.client b.1 ≡ w.client a.1 → w.bound b.1 ≡ w.bound a.1 → w.plan b.1 ≡ w.plan a.1 → IsReady hall b.0 → IsStepped w hall (Here a) (Here b)
  has_stepped a b is t s fits client bound plan ready = (
    record {
      made = record { calls = t.calls; says = t.says.0; made = t.made };
      turns = record { new = s.step ∷ []; made = s.made; keep = (s.keeps, tt) };
      is_client = record {
        ready = ready;
        named = client ∙ (is.named ∙ sym t.made.client);
        below = subst (λ n. n ≤ (opening_of hall).setup.params.keys) (sym bound) is.below;
        fits = fits;
      };
      client = client;
      bound = bound;
      plan = plan;
    },
    t,
    s,
  )

  -- ---- all of them

  -- each one that is away is waited for,
  pub all_waited : (clients : List (Pass × U)) (started : List (Started U)) → All (IsClient w hall) clients → Each (HasItsPlace w hall) clients started → All (IsWaitedFor w hall) started
  all_waited clients started all placed = each-all (HasItsPlace w hall) (IsClient w hall) (IsWaitedFor w hall) placed_waited clients started all placed

  -- each one that is here can make a step,
  pub all_met : (clients : List (Pass × U)) (started : List (Started U)) → All (IsClient w hall) clients → Each (HasItsPlace w hall) clients started → All (CanStep w hall) started
  all_met clients started all placed = each-all (HasItsPlace w hall) (IsClient w hall) (CanStep w hall) placed_met clients started all placed

  -- and stays in its place
  pub still_placed : (clients : List (Pass × U)) (started next : List (Started U)) → Each (HasItsPlace w hall) clients started → Each (IsStepped w hall) started next → Each (HasItsPlace w hall) clients next
  still_placed clients started next placed stepped = each-through (HasItsPlace w hall) (IsStepped w hall) (HasItsPlace w hall) placed_stepped clients started next placed stepped

  back : (client : Pass × U) (one : Started U) (now : Pass × U) → HasItsPlace w hall client one → IsJoined w hall one now → IsLater w hall client now
  back client (Away handle) now placed joined = inr (subst (λ x. MakesOwnSteps w hall x now) placed.1 joined.goes_on)
  back client (Here here) now placed joined = subst (IsLater w hall client) (sym joined) placed.1

  -- Each client comes back in its place, as it was or later.
  pub all_back : (clients : List (Pass × U)) (started : List (Started U)) (now : List (Pass × U)) → Each (HasItsPlace w hall) clients started → Each (IsJoined w hall) started now → Each (IsLater w hall) clients now
  all_back clients started now placed joined = each-through (HasItsPlace w hall) (IsJoined w hall) (IsLater w hall) back clients started now placed joined
