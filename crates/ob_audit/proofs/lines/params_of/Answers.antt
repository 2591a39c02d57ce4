use Rattle.std.proofs.Common.{Some, ap}
use Rattle.ob_base.specs.declared.params.Params.{Params}
use Rattle.ob_audit.proofs.Nine.{are_numbers, never_out, made_same}
use Rattle.ob_audit.proofs.lines.params_of.Goals as goal

pub returns-in-Ok-clause-only : goal.returns-in-Ok-clause-only
returns-in-Ok-clause-only c =
    λ p is. ap (λ (q : Params). Some q) (made_same p c.in-Ok.p _ _ _ _ _ _ _ _ _
    (are_numbers p c.in_ok-keys.keys c.in_ok-keys.levels c.in_ok-keys.real c.in_ok-dummies.dummies c.in_ok-dummies.batches c.in_ok-dummies.places c.in_ok-writes.writes c.in_ok-writes.evictions c.in_ok-writes.room
    c.args.bytes.now c.in_ok-keys.behind_real.now c.in_ok-dummies.behind_places.now c.in_ok-keys.ensures.only c.in_ok-dummies.ensures.only c.in_ok-writes.ensures.only is)
    c.in-Ok.ensures.made)

pub returns-in-Err-clause-only : goal.returns-in-Err-clause-only
returns-in-Err-clause-only c =
    λ p is. absurd (never_out p _ _ _ _ _ _ _ _ _ c.in-Err.field-0
    (are_numbers p c.in_ok-keys.keys c.in_ok-keys.levels c.in_ok-keys.real c.in_ok-dummies.dummies c.in_ok-dummies.batches c.in_ok-dummies.places c.in_ok-writes.writes c.in_ok-writes.evictions c.in_ok-writes.room
    c.args.bytes.now c.in_ok-keys.behind_real.now c.in_ok-dummies.behind_places.now c.in_ok-keys.ensures.only c.in_ok-dummies.ensures.only c.in_ok-writes.ensures.only is)
    c.in-Err.ensures.first)
