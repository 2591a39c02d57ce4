use Rattle.std.proofs.Common.{List, ◌++◌, ◌∙◌, ap}
use Rattle.std.proofs.lemmas.Result.{on_ok_weaker}
use Rattle.ob_store.specs.declared.watch.Note.{Note}
use Rattle.ob_schedule.specs.Schedule.{writes_of, log_gates}
use Rattle.ob_schedule.specs.Wants.{kept}
use Rattle.ob_wants.proofs.Formats.{first_notes, set_generation, front_made}
use Rattle.ob_wants.proofs.Pushed.{then_kept}
use Rattle.ob_wants.proofs.notes.push_front.Goals as goal

pub returns : goal.returns
returns c =
    let p = c.args.p.now in
    let old = c.args.wants.now in
    let even = writes_of (log_gates p 0) in
    let odd = writes_of (log_gates p 1) in
    let two = then_kept old _ _ first_notes even c.in_ok-push_kept.ensures c.in_ok-push_gates.ensures in
    let three = then_kept old _ _ (first_notes ++ even) odd two c.in_ok-push_gates-2.ensures in
    on_ok_weaker c.push_kept-2.result (λ told. then_kept old _ _ ((first_notes ++ even) ++ odd) set_generation three told ∙ ap (λ (ns : List Note). old ++ kept ns) (front_made p)) c.push_kept-2.ensures
