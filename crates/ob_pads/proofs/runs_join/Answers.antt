use Rattle.ob_pads.proofs.Chains.{lives_join, runs_join, unopened_lives}
use Rattle.ob_pads.proofs.runs_join.Goals as goal

pub returns-clause-join : goal.returns-clause-join
returns-clause-join g c = λ keys at first more life rest. lives_join (λ s. g.S.Store.disk s) keys at first more life rest

pub returns-clause-runs : goal.returns-clause-runs
returns-clause-runs g c = λ keys a b d first more one two. runs_join (λ s. g.S.Store.disk s) keys a b d first more one two

pub returns-clause-unopened : goal.returns-clause-unopened
returns-clause-unopened g c = λ keys old new leaves. unopened_lives (λ s. g.S.Store.disk s) keys old new leaves
