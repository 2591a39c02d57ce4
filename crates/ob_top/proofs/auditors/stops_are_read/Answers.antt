use Rattle.ob_vault.specs.Spans.{span}
use Rattle.ob_top.proofs.AuditingStops.{heads_read, openings_read, stops_read}
use Rattle.ob_top.proofs.auditors.stops_are_read.Goals as goal

pub returns-clause-stops : goal.returns-clause-stops
returns-clause-stops g c = stops_read (λ x. g.S.Store.disk x)

pub returns-clause-stages : goal.returns-clause-stages
returns-clause-stages g c = stops_read (span (λ x. g.S.Store.disk x))

pub returns-clause-openings : goal.returns-clause-openings
returns-clause-openings g c = openings_read (λ x. g.S.Store.disk x)

pub returns-clause-heads : goal.returns-clause-heads
returns-clause-heads g c = heads_read (λ x. g.S.Store.disk x)
