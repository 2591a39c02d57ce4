use Rattle.std.proofs.Common.{◌∙◌, refl}
use Rattle.ob_base.specs.declared.fault.Fault.TheVariants.{SinkFault}
use Rattle.ob_serial.specs.Views.{record_of}
use Rattle.ob_conduct.proofs.Batches.{stop_is}
use Rattle.ob_conduct.proofs.Moving.{moves_one}
use Rattle.ob_conduct.proofs.Acting.{unrested, heeded_end, heeded_fails, unended, unwritten}
use Rattle.ob_conduct.proofs.epoch.end_epoch.Goals as goal

pub returns-in-Err-clause-refused : goal.returns-in-Err-clause-refused
returns-in-Err-clause-refused g c = λ beat look seen may end.
    unrested _ c.args.params.now beat _ _ _ look c.requires.ready c.requires.goes_on seen _ c.in-Err.err may end c.in-Err.ensures.refused

pub returns-in-Err-close-clause-refused : goal.returns-in-Err-close-clause-refused
returns-in-Err-close-clause-refused g c = λ beat look seen may end.
    let (batches, read, whole) = c.in-Ok.ensures.read in
    unended _ c.args.params.now beat _ _ _ look c.requires.ready c.requires.goes_on seen batches _ _ read may end _ c.in-Err-close.fault c.in-Err-close.ensures.refused

pub returns-in-Ok-text-clause-ended : goal.returns-in-Ok-text-clause-ended
returns-in-Ok-text-clause-ended g c = λ beat look seen may end.
    let (batches, read, whole) = c.in-Ok.ensures.read in
    heeded_end _ c.args.params.now beat _ _ _ look c.requires.ready c.requires.goes_on seen batches _ _ read may end c.close.new.desk _ _ _ _ _ (record_of c.in-Ok-close.told) c.in-Ok-close.ensures.ended
    (record { bytes = rw c.in-Ok-text.is at c.text.ensures.all; later = c.text.ensures.cause.later }) c.heed.result c.heed.ensures

pub returns-clause-refused : goal.returns-clause-refused
returns-clause-refused g c = λ beat look seen may end.
    let (batches, read, whole) = c.in-Ok.ensures.read in
    let e = c.in-Ok-close.ensures.ended in
    unwritten _ c.args.params.now beat _ _ _ look c.requires.ready c.requires.goes_on seen batches _ _ read may end _ _ _ _ (record_of c.in-Ok-close.told) e
    (moves_one _ c.close.new.desk c.stop.new.self c.close.new.vault _ _ _ tt c.stop.ensures (λ m. (tt, refl)))
    (stop_is c.close.new.desk c.stop.new.self SinkFault (e.same_stop ∙ read.same_stop ∙ c.requires.goes_on) c.stop.ensures.state)
    c.text.ensures.printed (rw c.in-Err-text.is at c.text.ensures.cause).failed

pub fetch_rest-requires-clause-ready : goal.fetch_rest-requires-clause-ready
fetch_rest-requires-clause-ready g c κs within = c.requires.ready

pub returns-in-Err-clause-params : goal.returns-in-Err-clause-params
returns-in-Err-clause-params g c = c.in-Err.ensures.params

pub returns-in-Err-clause-ended : goal.returns-in-Err-clause-ended
returns-in-Err-clause-ended g c = λ beat look seen may end. tt

pub close-requires-clause-params : goal.close-requires-clause-params
close-requires-clause-params g c κs within = c.in-Ok.ensures.params

pub close-requires-clause-ready : goal.close-requires-clause-ready
close-requires-clause-ready g c κs within = c.in-Ok.ensures.read.1.ready

pub close-requires-clause-goes_on : goal.close-requires-clause-goes_on
close-requires-clause-goes_on g c κs within = c.in-Ok.ensures.read.1.same_stop ∙ c.requires.goes_on

pub close-requires-clause-none_left : goal.close-requires-clause-none_left
close-requires-clause-none_left g c κs within = c.in-Ok.ensures.none_left

pub close-requires-clause-whole : goal.close-requires-clause-whole
close-requires-clause-whole g c κs within = c.in-Ok.ensures.read.2

pub close-requires-clause-room : goal.close-requires-clause-room
close-requires-clause-room g c κs within = c.requires.room

pub returns-in-Err-close-clause-params : goal.returns-in-Err-close-clause-params
returns-in-Err-close-clause-params g c = c.in-Err-close.ensures.params

pub returns-in-Err-close-clause-room : goal.returns-in-Err-close-clause-room
returns-in-Err-close-clause-room g c = c.in-Err-close.ensures.room

pub returns-in-Err-close-clause-ended : goal.returns-in-Err-close-clause-ended
returns-in-Err-close-clause-ended g c = λ beat look seen may end. tt

pub returns-in-Ok-text-clause-params : goal.returns-in-Ok-text-clause-params
returns-in-Ok-text-clause-params g c = c.in-Ok-close.ensures.params

pub returns-in-Ok-text-clause-room : goal.returns-in-Ok-text-clause-room
returns-in-Ok-text-clause-room g c = c.in-Ok-close.ensures.room

pub returns-in-Ok-text-clause-refused : goal.returns-in-Ok-text-clause-refused
returns-in-Ok-text-clause-refused g c = λ beat look seen may end.
    let (batches, read, whole) = c.in-Ok.ensures.read in
    let e = c.in-Ok-close.ensures.ended in
    heeded_fails _ c.args.params.now beat _ _ _ look c.requires.ready c.requires.goes_on seen batches _ _ read may end c.close.new.desk _ _ _ _ _ (record_of c.in-Ok-close.told) e
    (record { bytes = rw c.in-Ok-text.is at c.text.ensures.all; later = c.text.ensures.cause.later }) c.heed.result (e.same_stop ∙ read.same_stop ∙ c.requires.goes_on) c.heed.ensures

pub returns-clause-params : goal.returns-clause-params
returns-clause-params g c = c.in-Ok-close.ensures.params

pub returns-clause-room : goal.returns-clause-room
returns-clause-room g c = c.in-Ok-close.ensures.room

pub returns-clause-ended : goal.returns-clause-ended
returns-clause-ended g c = λ beat look seen may end. tt
