use Rattle.std.proofs.Common.{arith}
use Rattle.ob_store.proofs.Serving.{goes_then}
use Rattle.ob_vault.specs.RingKind.{ring_kind}
use Rattle.ob_vault.proofs.Standing.{ring_keeps}
use Rattle.ob_vault.specs.RingLives.{ring_lives}
use Rattle.ob_top.specs.Audited.{ring_audits}
use Rattle.ob_top.proofs.Beginnings.{early_at_head, ring_quiet}
use Rattle.ob_top.proofs.Behind.{head_still}
use Rattle.ob_top.proofs.Running.{ended_early}
use Rattle.ob_top.proofs.run.run_on.Goals as goal

-- ---- the head was refused, or the watch broke

pub returns-in-Err-clause-goes : goal.returns-in-Err-clause-goes
returns-in-Err-clause-goes g c = c.in-Err.ensures.goes

pub returns-in-Err-clause-none_out : goal.returns-in-Err-clause-none_out
returns-in-Err-clause-none_out g c = omega (arith, c.in-Err.ensures.out, c.requires.none_out)

pub returns-in-Err-clause-done : goal.returns-in-Err-clause-done
returns-in-Err-clause-done g c =
    ended_early ring_kind ring_quiet ring_lives ring_audits ring_keeps (λ s. g.S.Store.disk s) (λ x t image at left. g.met.S.Store.counts_now x t image at left) _ _ c.args.keys.now _ _ _ _ _ _ _ c.in-Err.err
    (early_at_head (λ s. g.S.Store.disk s) _ _ c.args.keys.now c.args.means.lanes c.args.means.shares _ _ _ _ _ _ c.in-Err.err (c.in-Err.ensures.refused c.args.means.lanes c.args.means.shares _)) c.in-Err.ensures.lives

-- ---- the rest of the run

pub run_behind_head-requires-clause-none_out : goal.run_behind_head-requires-clause-none_out
run_behind_head-requires-clause-none_out g c κs within = omega (arith, c.in-Ok.ensures.out, c.requires.none_out)

pub run_behind_head-requires-clause-unstarted : goal.run_behind_head-requires-clause-unstarted
run_behind_head-requires-clause-unstarted g c κs within = c.requires.unstarted

pub run_behind_head-requires-clause-lanes : goal.run_behind_head-requires-clause-lanes
run_behind_head-requires-clause-lanes g c κs within = c.requires.lanes

pub run_behind_head-requires-clause-whole : goal.run_behind_head-requires-clause-whole
run_behind_head-requires-clause-whole g c κs within = c.in-Ok.ensures.read.whole

pub run_behind_head-requires-clause-head : goal.run_behind_head-requires-clause-head
run_behind_head-requires-clause-head g c κs within = λ tells. head_still c.args.keys.now c.in-Ok.params (g.S.Store.disk c.args.store.now) (g.S.Store.disk c.head_on.new.store) _ _ c.in-Ok.ensures.read tells

pub returns-clause-goes : goal.returns-clause-goes
returns-clause-goes g c = goes_then _ _ _ c.in-Ok.ensures.goes c.run_behind_head.ensures.goes

pub returns-clause-none_out : goal.returns-clause-none_out
returns-clause-none_out g c = c.run_behind_head.ensures.none_out

pub returns-clause-done : goal.returns-clause-done
returns-clause-done g c = c.run_behind_head.ensures.done.0 c.args.store.now _ c.in-Ok.ensures.read
