-- The passes of a new hall.
use Rattle.std.specs.Prelude.{◌≡◌, ℕ, All, suc, true, false, List, [], ◌∷◌, length, None}
use Rattle.ob_hall.specs.Passes.{Hall, Pass, callers_of, pass_place, history_of, entries_by, raised_by, may_raise, last_of_pass, IsPassOf, IsOutOfTurn}
use Rattle.ob_hall.specs.Calling.{IsReady, IsBetween}

-- the pass of the caller at this place, which has made no call and seen none
pub record IsFreshPass (hall : Hall) (at : ℕ) (pass : Pass) : Type 0 where
  pub own : IsPassOf hall pass
  pub idle : IsOutOfTurn pass
  pub place : pass_place pass ≡ at
  pub none_seen : history_of pass ≡ []
  pub none_made : entries_by pass ≡ []
  pub none_told : raised_by pass ≡ []
  pub none_begun : last_of_pass pass ≡ None

-- fresh passes of these clients, from place at + 1 on
abbrev pub AreClients : Hall → ℕ → List ℕ → List Pass → Type 0
AreClients hall at [] [] = Unit {0}
AreClients hall at (number ∷ numbers) (pass ∷ passes) = IsFreshPass hall (suc at) pass × (pass.client ≡ number) × (may_raise pass ≡ false) × AreClients hall (suc at) numbers passes
AreClients hall at _ _ = ⊥

-- the driver's pass, which may raise, and those of the clients
pub record ArePasses (hall : Hall) (clients : List ℕ) (passes : List Pass) : Type 0 where
  pub callers : callers_of hall ≡ suc (length clients)
  pub driver : Pass
  pub others : List Pass
  pub are : passes ≡ driver ∷ others
  pub first : IsFreshPass hall 0 driver
  pub raises : may_raise driver ≡ true
  pub clients_are : AreClients hall 0 clients others
  -- each of these may begin a transaction
  pub ready : All (λ p. IsReady hall p × IsBetween p) others
