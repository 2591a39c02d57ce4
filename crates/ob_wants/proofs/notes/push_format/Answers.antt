use Rattle.std.proofs.Common.{◌++◌}
use Rattle.std.proofs.lemmas.Result.{on_ok_weaker}
use Rattle.ob_base.specs.Tree.{below, buckets}
use Rattle.ob_schedule.specs.Schedule.{writes_of, bucket_writes, check_cells}
use Rattle.ob_schedule.specs.Wants.{format_front}
use Rattle.ob_wants.proofs.Formats.{set_epoch, format_made}
use Rattle.ob_wants.proofs.Pushed.{then_kept}
use Rattle.ob_wants.proofs.notes.push_format.Goals as goal

pub returns : goal.returns
returns c =
    let p = c.args.p.now in
    let old = c.args.wants.now in
    let front = format_front p in
    let homes = bucket_writes p (λ u. 0) (below (buckets p)) in
    let checks = writes_of (check_cells p 0) in
    let two = then_kept old _ _ front homes c.in_ok-push_front.ensures c.in_ok-push_homes.ensures in
    let three = then_kept old _ _ (front ++ homes) checks two c.in_ok-push_check_writes.ensures in
    on_ok_weaker c.push_kept.result (λ told. (((front ++ homes) ++ checks) ++ set_epoch, format_made p, then_kept old _ _ ((front ++ homes) ++ checks) set_epoch three told)) c.push_kept.ensures
