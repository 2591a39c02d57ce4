use Rattle.std.proofs.Common.{◌≡◌, ◌+◌, ◌≤◌, ◌^◌, true, map, sym, ap, ap₂, ◌∙◌, subst, arith}
use Rattle.ob_base.specs.Writes.{pair_of}
use Rattle.ob_desk.specs.Parts.{desk_of}
use Rattle.ob_desk.specs.Desk as desks
use Rattle.ob_desk.specs.Desk.{DeskState}
use Rattle.ob_desk.specs.declared.part.Part.{Part as CodePart}
use Rattle.ob_desk.proofs.Ends.{low_epoch, close_step, closing_epoch}
use Rattle.ob_desk.proofs.desk.Desk.close.Goals as goal

pub overflow_add-self-inside : goal.overflow_add-self-inside
overflow_add-self-inside c =
    let a = c.self.inside in
    let low : a.running.epoch ≤ 2 ^ 62 = low_epoch a.shares a.clients.items a.stopped a.running a.other a.is_closed c.self.invariant (subst (λ (d : DeskState). desks.MayCall d desks.Close) (sym c.self.view_is) c.requires.may) in
    let same : c.swap.new.y.epoch ≡ a.running.epoch = ap (λ (p : CodePart). p.epoch) c.swap.ensures.y_after ∙ closing_epoch a.running c.end_unasked.new.part c.end_unasked.ensures.part in
    omega (arith, low, same)

pub returns-clause-step : goal.returns-clause-step
returns-clause-step c =
    let a = c.self.inside in
    let writes = map pair_of c.last_writes.new.out.items in
    let ended = c.end_unasked.new.part in
    subst (λ (d : DeskState). desks.CloseStep d writes (desk_of a.shares a.clients.items a.stopped c.restart.new.part true c.swap.new.y)) c.self.view_is
    (subst (λ (p : CodePart). desks.CloseStep (desk_of a.shares a.clients.items a.stopped a.running a.is_closed a.other) writes (desk_of a.shares a.clients.items a.stopped c.restart.new.part true p)) (sym c.swap.ensures.y_after)
    (close_step a.shares a.clients.items a.stopped a.running a.other a.is_closed writes ended c.restart.new.part c.self.invariant c.end_unasked.ensures.part c.end_unasked.ensures.room
    (c.restart.ensures.part ∙ ap₂ (λ (p q : CodePart). desks.new_part (p.epoch + 1) q.order.params.batches) c.swap.ensures.y_after c.swap.ensures.x_after)
    (c.restart.ensures.params ∙ ap (λ (p : CodePart). p.order.params) c.swap.ensures.x_after)
    c.last_writes.ensures.writes))
