-- For tests: how far the first transaction of a script's runner has come.
use Rattle.std.specs.Prelude.{◌≡◌, ℕ, false, List, [], ◌∷◌, Some}
use Rattle.ob_desk.specs.Desk as desk
use Rattle.ob_desk.specs.Desk.{AbortedBy, Asked}
use Rattle.ob_desk.specs.declared.calls.Txn.{Txn}
use Rattle.ob_session.specs.Clients.{begun, over, told_of, has_signed_off, stands_after}
use Rattle.ob_session.specs.declared.runner.Step.TheVariants as stands
use Rattle.ob_hall.specs.Passes.{Steps}
use Rattle.ob_serve_tests.specs.declared.first.First.{First}
use Rattle.ob_serve_tests.specs.declared.first.First.TheVariants as first

-- the client gave it up, and was told of no other
pub record IsGivenUp (x : Txn) (client : ℕ) (said : Steps) : Type 0 where
  pub named : x.client ≡ client
  pub told : told_of said ≡ over (AbortedBy Asked) (begun x) ∷ []
  pub here : has_signed_off said ≡ false
  pub ran : stands_after said ≡ stands.Ran

-- what its client said, where the first transaction has come so far
abbrev pub HasComeTo : First → ℕ → Steps → Type 0
HasComeTo first.Unbegun client said = said ≡ []
HasComeTo (first.Begun x) client said = said ≡ (desk.Begin client, desk.Begun x) ∷ []
HasComeTo (first.GivenUp x) client said = IsGivenUp x client said
HasComeTo first.Past client said = Unit {0}
