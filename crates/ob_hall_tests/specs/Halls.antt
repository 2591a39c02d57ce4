-- For tests: what the passes of their halls are, before their work and behind it.
use Rattle.std.specs.Prelude.{◌≡◌, ◌+◌, ℕ, zero, suc, Bool, All, true, false, List, [], ◌∷◌, length}
use Rattle.ob_hall.specs.Passes.{Hall, Pass, opening_of, callers_of, pass_place, entries_by, calls_in, said_of, raised_by, may_raise, IsPassOf, IsOutOfTurn}
use Rattle.ob_hall.specs.Rounds.{rounds_of, rounds_behind}
use Rattle.ob_hall.specs.Calling.{IsReady, IsBetween}
use Rattle.ob_hall.specs.Testing.{Visits}

-- the driver's pass, which has called nothing and raised no epoch
pub record IsNewDriver (hall : Hall) (pass : Pass) : Type 0 where
  pub own : IsPassOf hall pass
  pub idle : IsOutOfTurn pass
  pub place : pass_place pass ≡ 0
  pub raises : may_raise pass ≡ true
  pub none_told : raised_by pass ≡ []
  pub unmade : entries_by pass ≡ []
  pub none_closed : (rounds_of (opening_of hall)).has_closed ≡ false

-- a client's pass, which has called nothing, at a hall of 64 keys
pub record IsFresh (hall : Hall) (pass : Pass) : Type 0 where
  pub ready : IsReady hall pass
  pub between : IsBetween pass
  pub unsaid : said_of pass ≡ []
  pub keys : (opening_of hall).setup.params.keys ≡ 64

-- the driver's pass, whose calls leave no epoch closed
pub record LeavesOpen (hall : Hall) (pass : Pass) : Type 0 where
  pub own : IsPassOf hall pass
  pub idle : IsOutOfTurn pass
  pub place : pass_place pass ≡ 0
  pub none_closed : (rounds_behind (opening_of hall).setup.params.batches (rounds_of (opening_of hall)) (calls_in (entries_by pass))).has_closed ≡ false

-- the pass of the caller at this place, before its work
abbrev pub MayStart : Hall → ℕ → Pass → Type 0
MayStart hall zero pass = IsNewDriver hall pass
MayStart hall (suc at) pass = IsFresh hall pass

-- and behind it
abbrev pub HasWorked : Hall → ℕ → Pass → Type 0
HasWorked hall zero pass = LeavesOpen hall pass
HasWorked hall (suc at) pass = IsReady hall pass

-- the driver's pass, and behind it those of all clients but so many
pub record AreHeld (hall : Hall) (IsDrivers IsClients : Pass → Type 0) (away : ℕ) (passes : List Pass) : Type 0 where
  pub driver : Pass
  pub clients : List Pass
  pub are : passes ≡ driver ∷ clients
  pub its : IsDrivers driver
  pub theirs : All IsClients clients
  pub count : suc (length clients) + away ≡ callers_of hall

-- these passes, before their work
abbrev pub AreStarting : Hall → ℕ → List Pass → Type 0
AreStarting hall away passes = AreHeld hall (IsNewDriver hall) (IsFresh hall) away passes

-- and behind it
abbrev pub AreDone : Hall → ℕ → List Pass → Type 0
AreDone hall away passes = AreHeld hall (LeavesOpen hall) (IsReady hall) away passes

-- the pass of a client that signs off in its first step has made just its calls
pub record IsVisiting (hall : Hall) (pass : Pass) (client : ℕ) (gone : Bool) : Type 0 where
  pub ready : IsReady hall pass
  pub named : client ≡ pass.client
  pub said : Visits client gone (said_of pass)
