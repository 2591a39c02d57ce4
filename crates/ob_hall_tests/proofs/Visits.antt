-- Clients of the tests that sign off, from their seats to the join.
use Rattle.std.proofs.Common.{◌≡◌, ℕ, Bool, true, false, List, length, inl, inr, sym, subst, arith}
use Rattle.std.specs.Prelude.{MatchBool}
use Rattle.std.specs.List.{All}
use Rattle.ob_session.specs.Clients.{IsOneCall}
use Rattle.ob_hall.specs.Passes.{Hall, Pass, said_of}
use Rattle.ob_hall.specs.Calling.{IsReady}
use Rattle.ob_hall.specs.Testing.{Visits}
use Rattle.ob_threads.specs.declared.starting.Started.{Started}
use Rattle.ob_threads.specs.Served.{Words, words, IsClient, IsLater, StepsToSignOff}
use Rattle.ob_threads.specs.Starts.{Each, HasItsPlace, IsStepped, IsJoined}
use Rattle.ob_threads.proofs.Eaching.{each-all, each-length}
use Rattle.ob_threads.proofs.Placing.{still_placed, all_back}
use Rattle.ob_hall_tests.specs.Halls.{IsFresh, IsVisiting}

pub fresh_visiting : (hall : Hall) (pass : Pass) (client : ℕ) (gone : Bool) → IsFresh hall pass → client ≡ pass.client → gone ≡ false → IsVisiting hall pass client gone
fresh_visiting hall pass client gone fresh named here = record { ready = fresh.ready; named = named; said = subst (λ b. Visits client b (said_of pass)) (sym here) fresh.unsaid }

module _ {V : Type 0} (client : V → ℕ) (gone : V → Bool) (hall : Hall) where
  abbrev pub visits : Words V (Unit {0})
  visits = words client (λ v. 0) (λ v. tt) (λ v said. Visits (client v) (gone v) said) (λ plan number said calls. IsOneCall said calls)

  pub is_client : (c : Pass × V) → IsVisiting hall c.0 (client c.1) (gone c.1) → IsClient visits hall c
  is_client c visiting = record { ready = visiting.ready; named = visiting.named; below = omega arith; fits = visiting.said }

  pub are_clients : (cs : List (Pass × V)) → All (λ c. IsVisiting hall c.0 (client c.1) (gone c.1)) cs → All (IsClient visits hall) cs
  are_clients cs visiting k d lt = is_client _ (visiting k d lt)

  -- one whose flag was looked at
  pub still_visiting : (before after : Pass × V) (served : Bool) → IsVisiting hall before.0 (client before.1) (gone before.1) → MatchBool served (StepsToSignOff visits hall before after) (after ≡ before) → IsVisiting hall after.0 (client after.1) (gone after.1)
  still_visiting before after true is steps = let c = steps.goes_on.is_client in record { ready = c.ready; named = c.named; said = c.fits }
  still_visiting before after false is same = subst (λ (c : Pass × V). IsVisiting hall c.0 (client c.1) (gone c.1)) (sym same) is

  later_ready : (before after : Pass × V) → IsClient visits hall before → IsLater visits hall before after → IsReady hall after.0
  later_ready before after is (inl same) = subst (λ (c : Pass × V). IsReady hall c.0) (sym same) is.ready
  later_ready before after is (inr steps) = steps.is_client.ready

  -- those that were started, stepped and joined
  pub all_ready : (clients : List (Pass × V)) (started next : List (Started V)) (back : List (Pass × V)) → All (IsClient visits hall) clients → Each (HasItsPlace visits hall) clients started → Each (IsStepped visits hall) started next
      → Each (IsJoined visits hall) next back → All (λ c. IsReady hall c.0) back × (length back ≡ length clients)
  all_ready clients started next back are placed stepped joined =
      let later = all_back visits hall clients next back (still_placed visits hall clients started next placed stepped) joined in
      (each-all (IsLater visits hall) (IsClient visits hall) (λ c. IsReady hall c.0) later_ready clients back are later, each-length (IsLater visits hall) clients back later)
