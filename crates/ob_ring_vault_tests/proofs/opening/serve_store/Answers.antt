use Rattle.ob_ring_vault_tests.specs.Opened.{opened_ring_at}
use Rattle.ob_ring_vault_tests.proofs.OpenedLaws.{answers_of}
use Rattle.ob_ring_vault_tests.proofs.opening.serve_store.Goals as goal

pub returns-in-Ok-answer-clause-law : goal.returns-in-Ok-answer-clause-law
returns-in-Ok-answer-clause-law g c = λ s content tells stands map.
    answers_of _ _ _ _ c.in-Ok-answer.is (c.serve-answer.ensures.law (opened_ring_at c.args.setting.now.p s content) (c.in-Ok.ensures.sound s content tells stands map).holds)
