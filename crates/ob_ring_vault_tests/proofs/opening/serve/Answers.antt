use Rattle.ob_ring_vault_tests.proofs.opening.serve.Goals as goal

pub returns : goal.returns
returns g c = record { law = c.serve_all.ensures.law }
