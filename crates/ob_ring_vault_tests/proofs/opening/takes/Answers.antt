use Rattle.std.proofs.Common.{sym, ◌∙◌}
use Rattle.ob_ring_vault_tests.proofs.CallLaws.{all_taken}
use Rattle.ob_ring_vault_tests.proofs.opening.takes.Goals as goal

pub returns : goal.returns
returns g c = λ is. all_taken c.args.p.now _ _ _ _ c.requires c.left-many.ensures (sym c.spent.ensures ∙ c.if-spent.false) (c.may_serve_all.ensures is)
