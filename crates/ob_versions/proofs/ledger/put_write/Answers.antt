use Rattle.std.proofs.Common.{◌≡◌, ℕ, List, true, is_some, length, sym, ap, ◌∙◌, subst, arith, ◌==◌, ◌&&◌, if◌then◌else◌, Some}
use Rattle.std.proofs.lemmas.Result.{IfOk-from_err}
use Rattle.ob_order.specs.Works.{Op, Work, with_op, waiting_at, wait_for, with_waiting, edit}
use Rattle.ob_order.proofs.Edits.{length-edit}
use Rattle.ob_key_versions.specs.declared.chain.Link.{Link}
use Rattle.ob_key_versions.specs.Tables.{link_at}
use Rattle.ob_versions.proofs.Kept.{op_after_wait, restored, waits_then}
use Rattle.ob_versions.proofs.ledger.put_write.Goals as goal

pub add_awaited-requires-clause-t_in : goal.add_awaited-requires-clause-t_in
add_awaited-requires-clause-t_in c = let r = c.requires.in_range in (r.0, omega (arith, r.1, ap length c.in_ok-make_wait.ensures.ok, length-edit (wait_for c.args.key) c.args.list.now.items c.args.t))

pub add_awaited-requires-clause-waits : goal.add_awaited-requires-clause-waits
add_awaited-requires-clause-waits c = let r = c.requires.in_range in subst (λ (ws : List Work). is_some (waiting_at ws c.args.t) ≡ true) (sym c.in_ok-make_wait.ensures.ok) (waits_then c.args.list.now.items c.args.t c.args.key r.0 r.1)

pub set_waiting-requires-clause-t_in : goal.set_waiting-requires-clause-t_in
set_waiting-requires-clause-t_in c = let r = c.requires.in_range in (r.0, omega (arith, r.1, ap length c.in_ok-make_wait.ensures.ok, length-edit (wait_for c.args.key) c.args.list.now.items c.args.t))

pub set_waiting-requires-clause-waits : goal.set_waiting-requires-clause-waits
set_waiting-requires-clause-waits c = let r = c.requires.in_range in subst (λ (ws : List Work). is_some (waiting_at ws c.args.t) ≡ true) (sym c.in_ok-make_wait.ensures.ok) (waits_then c.args.list.now.items c.args.t c.args.key r.0 r.1)

pub returns-in-Ok-clause-ok : goal.returns-in-Ok-clause-ok
returns-in-Ok-clause-ok c =
    c.add_awaited.ensures
    ∙ (ap (λ (ws : List Work). with_op ws c.args.t c.write_op.result) c.in_ok-make_wait.ensures.ok
    ∙ (op_after_wait c.args.list.now.items c.args.t c.args.key c.write_op.result
    ∙ ap (λ (o : Op ℕ). with_op c.args.list.now.items c.args.t o) c.write_op.ensures))

pub returns-in-Err-clause-err : goal.returns-in-Err-clause-err
returns-in-Err-clause-err c =
    c.set_waiting.ensures
    ∙ (ap (λ (ws : List Work). edit (with_waiting c.waiting_of-waiting.result) ws c.args.t) c.in_ok-make_wait.ensures.ok
    ∙ restored c.args.list.now.items c.args.t c.args.key c.waiting_of-waiting.result (c.waiting_of-waiting.ensures ∙ ap (λ (ws : List Work). waiting_at ws c.args.t) c.deref.ensures.value))

pub returns-in_err-make_wait-clause-ok : goal.returns-in_err-make_wait-clause-ok
returns-in_err-make_wait-clause-ok c = IfOk-from_err c.from_residual.result _ c.from_residual.ensures.0

pub returns-in_err-make_wait-clause-first : goal.returns-in_err-make_wait-clause-first
returns-in_err-make_wait-clause-first c = IfOk-from_err c.from_residual.result _ c.from_residual.ensures.0

pub returns-in_err-make_wait-clause-links : goal.returns-in_err-make_wait-clause-links
returns-in_err-make_wait-clause-links c = IfOk-from_err c.from_residual.result _ c.from_residual.ensures.0

pub returns-in_err-make_wait-clause-keys : goal.returns-in_err-make_wait-clause-keys
returns-in_err-make_wait-clause-keys c = IfOk-from_err c.from_residual.result _ c.from_residual.ensures.0

pub returns-in-Ok-clause-first : goal.returns-in-Ok-clause-first
returns-in-Ok-clause-first c = c.in-Ok.ensures.first

pub returns-in-Ok-clause-links : goal.returns-in-Ok-clause-links
returns-in-Ok-clause-links c = λ k u. c.in-Ok.ensures.links k u ∙ ap (λ (l : Link). if (c.args.key == k) && (c.args.t == u) then Some l else link_at c.args.table.now k u) c.unread.ensures

pub returns-in-Ok-clause-keys : goal.returns-in-Ok-clause-keys
returns-in-Ok-clause-keys c = c.in-Ok.ensures.keys

pub returns-in-Ok-clause-bases : goal.returns-in-Ok-clause-bases
returns-in-Ok-clause-bases c = c.put.ensures.bases

pub returns-in-Ok-clause-readers : goal.returns-in-Ok-clause-readers
returns-in-Ok-clause-readers c = c.put.ensures.readers

pub returns-in-Err-clause-bases : goal.returns-in-Err-clause-bases
returns-in-Err-clause-bases c = c.put.ensures.bases

pub returns-in-Err-clause-readers : goal.returns-in-Err-clause-readers
returns-in-Err-clause-readers c = c.put.ensures.readers

pub returns-in-Err-clause-err_links : goal.returns-in-Err-clause-err_links
returns-in-Err-clause-err_links c = c.in-Err.ensures.err_links

pub returns-in-Err-clause-err_keys : goal.returns-in-Err-clause-err_keys
returns-in-Err-clause-err_keys c = c.in-Err.ensures.err_keys
