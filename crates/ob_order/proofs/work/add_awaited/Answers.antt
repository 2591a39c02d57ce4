use Rattle.std.proofs.Common.{is_some, ◌-◌, set, sym, ap, ◌∙◌}
use Rattle.ob_order.specs.Works as works
use Rattle.ob_order.proofs.Steps.{waits_before}
use Rattle.ob_order.proofs.Tidies.{edit_set_before}
use Rattle.ob_order.proofs.work.add_awaited.Goals as goal

pub returns : goal.returns
returns c =
    let items = c.args.list.now.items in
    ap (λ (w : works.Work). set items (c.args.t - 1) w) c.push_awaited.ensures
    ∙ sym (edit_set_before (works.add_op c.args.op) items c.args.t c.index_mut.result.now c.requires.t_in.0 c.requires.t_in.1 c.index_mut.ensures.value)

pub push_awaited-requires : goal.push_awaited-requires
push_awaited-requires c = let r = c.requires.t_in in ap is_some (sym (waits_before c.args.list.now.items c.args.t c.index_mut.result.now r.0 r.1 c.index_mut.ensures.value)) ∙ c.requires.waits
