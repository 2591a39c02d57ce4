use Rattle.std.proofs.Common.{false, refl, sym, subst}
use Rattle.ob_session.specs.Steps.{Leads}
use Rattle.ob_hall.specs.Passes.{Steps}
use Rattle.ob_hall.specs.Testing.{Visits}
use Rattle.ob_hall.proofs.Visiting.{may_visit}
use Rattle.ob_hall_tests.proofs.visitor.VisitorRunner.step.Goals as goal

pub returns-clause-made : goal.returns-clause-made
returns-clause-made c =
    let (said, fits, agrees) = c.requires.agrees in
    let none : Visits c.args.self.now.client false said = subst (λ b. Visits c.args.self.now.client b said) c.if-self.false fits in
    subst (λ (s : Steps). Leads c.args.desk.now s c.sign_off.new.self) (sym c.one.ensures) (c.sign_off.new.self, may_visit c.args.desk.now c.args.self.now.client said none agrees, c.sign_off.ensures, refl)
