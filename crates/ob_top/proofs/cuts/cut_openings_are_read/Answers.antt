use Rattle.ob_top.proofs.OpeningCuts.{broken_openings_read, cut_heads_read, cut_openings_read, refused_openings_read, runs_openings_read, stops_lead_on}
use Rattle.ob_top.proofs.cuts.cut_openings_are_read.Goals as goal

pub returns-clause-openings : goal.returns-clause-openings
returns-clause-openings g c = cut_openings_read (λ x. g.S.Store.disk x) (λ x moment image since left. g.met.S.Store.counts_now x moment image since left) (λ x image left. g.met.S.Store.only_now x image left)

pub returns-clause-runs : goal.returns-clause-runs
returns-clause-runs g c = runs_openings_read (λ x. g.S.Store.disk x) (λ x moment image since left. g.met.S.Store.counts_now x moment image since left) (λ x image left. g.met.S.Store.only_now x image left)

pub returns-clause-refused : goal.returns-clause-refused
returns-clause-refused g c = refused_openings_read (λ x. g.S.Store.disk x) (λ x moment image since left. g.met.S.Store.counts_now x moment image since left) (λ x image left. g.met.S.Store.only_now x image left)

pub returns-clause-broken : goal.returns-clause-broken
returns-clause-broken g c = broken_openings_read (λ x. g.S.Store.disk x) (λ x moment image since left. g.met.S.Store.counts_now x moment image since left) (λ x image left. g.met.S.Store.only_now x image left)

pub returns-clause-heads : goal.returns-clause-heads
returns-clause-heads g c = cut_heads_read (λ x. g.S.Store.disk x) (λ x moment image since left. g.met.S.Store.counts_now x moment image since left) (λ x image left. g.met.S.Store.only_now x image left)

pub returns-clause-onward : goal.returns-clause-onward
returns-clause-onward g c = stops_lead_on (λ x. g.S.Store.disk x) (λ x moment image since left. g.met.S.Store.counts_now x moment image since left) (λ x image left. g.met.S.Store.only_now x image left)
