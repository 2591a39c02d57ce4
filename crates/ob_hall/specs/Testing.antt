-- For tests: what their halls and clients are.
use Rattle.std.specs.Prelude.{◌≡◌, ℕ, suc, All, Bool, true, false, length, List, [], ◌∷◌}
use Rattle.ob_desk.specs.Desk as desk
use Rattle.ob_desk.specs.declared.calls.Txn.{Txn}
use Rattle.ob_hall.specs.Passes.{Steps, Hall, Pass, opening_of, callers_of, pass_place, entries_by, said_of, raised_by, may_raise, IsPassOf, IsOutOfTurn}
use Rattle.ob_hall.specs.Rounds.{rounds_of}
use Rattle.ob_hall.specs.Calling.{IsReady, IsBetween, IsIn, HasNotSignedOff}

-- a new hall, the driver's pass and those of the clients
pub record IsOpenedHall (keys : ℕ) (hall : Hall) (driver : Pass) (clients : List Pass) : Type 0 where
  pub own : IsPassOf hall driver
  pub idle : IsOutOfTurn driver
  pub place : pass_place driver ≡ 0
  pub raises : may_raise driver ≡ true
  pub none_told : raised_by driver ≡ []
  pub ready : All (λ p. IsReady hall p) clients
  pub between : All (λ p. IsBetween p) clients
  pub count : suc (length clients) ≡ callers_of hall
  pub keys_are : (opening_of hall).setup.params.keys ≡ keys
  pub unmade : entries_by driver ≡ []
  pub unsaid : All (λ p. said_of p ≡ []) clients
  pub none_closed : (rounds_of (opening_of hall)).has_closed ≡ false

-- it is in a transaction, and hasn't signed off
abbrev pub IsInTxn : Pass → Type 0
IsInTxn pass = (x : Txn) × IsIn pass x × HasNotSignedOff pass

-- whether it is in one, or may begin one
abbrev pub IsInTxnOrNot : Bool → Pass → Type 0
IsInTxnOrNot true pass = IsInTxn pass
IsInTxnOrNot false pass = IsBetween pass

-- the calls of a client that signs off in its first step
abbrev pub Visits : ℕ → Bool → Steps → Type 0
Visits client false said = said ≡ []
Visits client true said = said ≡ (desk.SignOff client, desk.Done) ∷ []
