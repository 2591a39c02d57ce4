use Rattle.std.proofs.Common.{◌∷◌, [], ◌+◌}
use Rattle.ob_store.specs.declared.watch.Note.TheVariants.{Sync}
use Rattle.ob_schedule.specs.Paths.{by_falling_level}
use Rattle.ob_schedule.specs.Schedule.{writes_of, check_cells, log_gates}
use Rattle.ob_schedule.specs.declared.want.Register.TheVariants.{Epoch}
use Rattle.ob_schedule.specs.Sides.{other, side_number}
use Rattle.ob_schedule.specs.Wants.{sets, writes_anew}
use Rattle.ob_wants.specs.Shown.{standing_of}
use Rattle.ob_wants.proofs.Pushed.{end_put}
use Rattle.ob_wants.proofs.wants.push_end.Goals as goal

pub returns : goal.returns
returns c =
    let p = c.args.p.now in
    let s = standing_of c.args.standing.now in
    end_put c.push_sets.result c.args.wants.now _ _ _ _ _ c.other-next.result (other s.epoch) (writes_anew p s c.args.leaves.now (by_falling_level (p.levels + 1))) (writes_of (log_gates p (side_number s.epoch))) (Sync ∷ [])
    (λ side. writes_of (check_cells p (side_number side))) (λ q side. sets q Epoch side s.epoch_gate) p
    c.other-next.ensures c.in_ok-push_writes_anew.ensures c.in_ok-push_check_writes.ensures c.in_ok-push_gates.ensures c.in_ok-push_kept.ensures c.push_sets.ensures
