use Rattle.std.proofs.Common.{◌≡◌, ℕ, ◌+◌, length, ap, ◌∙◌}
use Rattle.std.specs.Option.{option_map, unwrap_or}
use Rattle.ob_serial.specs.declared.records.TxnRecord.{TxnRecord as CodeTxn}
use Rattle.ob_order.specs.Works.{Work}
use Rattle.ob_desk.specs.Desk.{Outcome, Committed, AbortedBy, why_of}
use Rattle.ob_desk.proofs.Told.{tells, tells_none, holder_here, same_txn, holder_past}
use Rattle.ob_desk.proofs.part.tell.Goals as goal

pub returns-in-Some-clause-told : goal.returns-in-Some-clause-told
returns-in-Some-clause-told c =
    let told = c.args.told.now in
    let holder = c.in-Some.holder.now in
    let at : c.len-at.result ≡ length told.items = c.len-at.ensures ∙ told.ok.0 in
    let ended : Outcome ℕ = unwrap_or (option_map AbortedBy (why_of c.args.work.fate holder.cause)) Committed in
    let outcome : c.outcome_of-outcome.result ≡ ended = c.outcome_of-outcome.ensures ∙ ap (λ (w : Work). unwrap_or (option_map AbortedBy (why_of w.fate holder.cause)) Committed) c.work.view_is in
    let made : CodeTxn ℕ = record { epoch = c.args.epoch; ticket = c.len-at.result + 1; client = holder.client; ops = c.into_ops.result; outcome = c.outcome_of-outcome.result } in
    tells c.args.epoch (length told.items) c.args.work c.args.holders.now holder told.items c.push_reserved.new.self.items made
    (holder_here c.args.holders.now holder c.len-at.result (length told.items) at c.in-Some.ensures.lookup.3.0 c.in-Some.ensures.lookup.1)
    (same_txn c.args.epoch (c.len-at.result + 1) (length told.items + 1) holder.client c.into_ops.result.items c.args.work.ops c.outcome_of-outcome.result ended (ap (λ n. n + 1) at) c.into_ops.ensures outcome)
    c.push_reserved.ensures.items

pub returns-in_default-clause-told : goal.returns-in_default-clause-told
returns-in_default-clause-told c =
    let told = c.args.told.now in
    let at : c.len-at.result ≡ length told.items = c.len-at.ensures ∙ told.ok.0 in
    tells_none c.args.epoch (length told.items) c.args.work c.args.holders.now _ (holder_past c.args.holders.now c.len-at.result (length told.items) at c.in_default.ensures.lookup.3)
