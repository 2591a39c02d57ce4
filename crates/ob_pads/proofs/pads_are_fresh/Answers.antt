use Rattle.ob_pads.proofs.Fresh as law
use Rattle.ob_pads.proofs.pads_are_fresh.Goals as goal

pub returns-clause-fresh : goal.returns-clause-fresh
returns-clause-fresh g c = λ keys n store acts formatted life.
    law.pads_are_fresh _ (λ s. g.S.Store.disk s) keys n store acts (record { counts_now = g.met.S.Store.counts_now; only_now = g.met.S.Store.only_now; includes_reads = g.met.S.Store.includes_reads }) formatted life

pub returns-clause-durable : goal.returns-clause-durable
returns-clause-durable g c = λ keys store acts formatted life.
    law.generations_are_durable _ (λ s. g.S.Store.disk s) keys store acts (record { counts_now = g.met.S.Store.counts_now; only_now = g.met.S.Store.only_now; includes_reads = g.met.S.Store.includes_reads }) formatted life
