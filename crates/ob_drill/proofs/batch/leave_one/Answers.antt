use Rattle.std.proofs.Common.{[], Err, refl}
use Rattle.ob_serial.specs.VaultViews.{end_answer}
use Rattle.ob_serial.specs.Vaults.{End, Ended}
use Rattle.ob_drill.proofs.Chains.{reads_one, refused_one}
use Rattle.ob_drill.proofs.batch.leave_one.Goals as goal

pub returns-in-Ok-clause-reads : goal.returns-in-Ok-clause-reads
returns-in-Ok-clause-reads g c =
    let e = c.in-Ok.ensures in
    reads_one _ _ _ _ _ (End []) Ended (record { notes = e.called.0; called = e.called.2; answered = λ v held. tt; holds = e.holds; sound = e.sound; images = e.images; alike = e.alike; goes = e.goes }) e.called.1 tt tt

pub returns-in-Err-Before-clause-refused : goal.returns-in-Err-Before-clause-refused
returns-in-Err-Before-clause-refused g c =
    let e = c.in-Err-Before.ensures in
    refused_one _ 1 _ _ _ _ (End []) (end_answer (Err c.in-Err-Before.field-0)) c.in-Err-Before.fault
    (record { notes = e.called.0; called = e.called.2; answered = λ v held. rw c.in-Err-Before.field-0-is tt; holds = e.holds; sound = e.sound; images = e.images; alike = e.alike; goes = e.goes })
    e.called.1 tt (rw c.in-Err-Before.field-0-is refl)

pub returns-in-Err-Unsure-clause-refused : goal.returns-in-Err-Unsure-clause-refused
returns-in-Err-Unsure-clause-refused g c =
    let e = c.in-Err-Unsure.ensures in
    refused_one _ 1 _ _ _ _ (End []) (end_answer (Err c.in-Err-Unsure.field-0)) c.in-Err-Unsure.fault
    (record { notes = e.called.0; called = e.called.2; answered = λ v held. rw c.in-Err-Unsure.field-0-is tt; holds = e.holds; sound = e.sound; images = e.images; alike = e.alike; goes = e.goes })
    e.called.1 tt (rw c.in-Err-Unsure.field-0-is refl)
