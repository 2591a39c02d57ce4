use Rattle.std.proofs.Common.{◌-◌, set, sym, ap, ◌∙◌}
use Rattle.std.proofs.lemmas.List.{set-get_or}
use Rattle.std.proofs.lemmas.Result.{on_ok_weaker, on_err_weaker}
use Rattle.ob_order.specs.Works as works
use Rattle.ob_order.proofs.Tidies.{edit_set_before}
use Rattle.ob_order.proofs.work.add_to.Goals as goal

pub returns-clause-ok : goal.returns-clause-ok
returns-clause-ok c =
    let items = c.args.list.now.items in
    on_ok_weaker c.push_op.result (λ told. ap (λ (w : works.Work). set items (c.args.t - 1) w) told
    ∙ sym (edit_set_before (works.add_op c.args.op) items c.args.t c.index_mut.result.now c.requires.t_in.0 c.requires.t_in.1 c.index_mut.ensures.value))
    c.push_op.ensures.ok

pub returns-clause-err : goal.returns-clause-err
returns-clause-err c =
    let items = c.args.list.now.items in
    on_err_weaker c.push_op.result (λ told. ap (λ (w : works.Work). set items (c.args.t - 1) w) (told ∙ c.index_mut.ensures.value) ∙ set-get_or items (c.args.t - 1) c.index_mut.result.now)
    c.push_op.ensures.err
