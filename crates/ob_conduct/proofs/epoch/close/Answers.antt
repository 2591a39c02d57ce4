use Rattle.std.proofs.Common.{◌≡◌, ◌∙◌, ap, map, refl, Err}
use Rattle.ob_base.specs.declared.params.Params.{Params}
use Rattle.ob_base.specs.Writes.{pair_of}
use Rattle.ob_serial.specs.VaultViews.{end_answer, writes_of}
use Rattle.ob_serial.specs.declared.vault.EndErr.{EndErr}
use Rattle.ob_serial.specs.declared.vault.EndErr.TheVariants.{Before, Unsure}
use Rattle.ob_serial.specs.Vaults.{End, Ended, counts_next}
use Rattle.ob_conduct.proofs.Closing.{ends, end_fails, end_doubts, close_few, close_rising, close_below, ended_with, next_fault, store_end}
use Rattle.ob_conduct.proofs.epoch.close.Goals as goal

pub end-requires-clause-few : goal.end-requires-clause-few
end-requires-clause-few g c = rw (c.deref.ensures.value, c.requires.params) (close_few c.args.params.now c.args.desk.now c.close.new.self _ _ c.requires.ready c.close.ensures.step)

pub end-requires-clause-rising : goal.end-requires-clause-rising
end-requires-clause-rising g c = rw c.deref.ensures.value (close_rising c.args.desk.now c.close.new.self _ c.close.ensures.step)

pub end-requires-clause-keys : goal.end-requires-clause-keys
end-requires-clause-keys g c = rw (c.deref.ensures.value, c.requires.params) (close_below c.args.params.now c.args.desk.now c.close.new.self _ _ c.requires.ready c.close.ensures.step)

pub returns-in-Ok-clause-ended : goal.returns-in-Ok-clause-ended
returns-in-Ok-clause-ended g c =
    let e = c.in-Ok.ensures in
    let are : writes_of c.deref.result.now ≡ map pair_of c.close.new.out.items = ap writes_of c.deref.ensures.value in
    ends _ c.args.params.now c.args.desk.now c.close.new.self c.publish.new.self c.args.vault.now c.end.new.self (g.W.Watch.trace c.args.watch.now) (g.W.Watch.trace c.end.new.watch) (g.V.Vault.counts c.args.vault.now) (g.V.Vault.counts c.end.new.self)
    (map pair_of c.close.new.out.items) _ c.args.params.now.batches
    c.requires.ready c.requires.goes_on c.requires.none_left c.close.ensures.step
    (ended_with _ _ _ _ _ _ _ _ _ are refl (record { one = record { notes = e.called.0; called = e.called.2; answered = λ v holds. tt; holds = e.holds; sound = e.sound; images = e.images; alike = e.alike; goes = e.goes }; whole = c.requires.whole; shown = e.called.1 }))
    (e.counts ∙ ap (λ (p : Params). counts_next p.batches (g.V.Vault.counts c.args.vault.now) (End (writes_of c.deref.result.now)) Ended) c.requires.params)
    (rw (← c.epoch.ensures.epoch) c.epoch.ensures.few) refl c.publish.ensures

pub returns-in-Err-Before-clause-refused : goal.returns-in-Err-Before-clause-refused
returns-in-Err-Before-clause-refused g c =
    let e = c.in-Err-Before.ensures in
    let are : writes_of c.deref.result.now ≡ map pair_of c.close.new.out.items = ap writes_of c.deref.ensures.value in
    end_fails _ c.args.params.now c.args.desk.now c.close.new.self c.stop.new.self c.args.vault.now c.end.new.self (g.W.Watch.trace c.args.watch.now) (g.W.Watch.trace c.end.new.watch) (g.V.Vault.counts c.args.vault.now) (map pair_of c.close.new.out.items) c.in-Err-Before.fault
    c.requires.ready c.requires.goes_on c.requires.none_left c.close.ensures.step
    (ended_with _ _ _ _ _ _ _ _ _ are (ap (λ (x : EndErr). end_answer (Err x)) c.in-Err-Before.field-0-is)
    (record { one = record { notes = e.called.0; called = e.called.2; answered = λ v holds. rw c.in-Err-Before.field-0-is tt; holds = e.holds; sound = e.sound; images = e.images; alike = e.alike; goes = e.goes }; whole = c.requires.whole; shown = e.called.1 }))
    c.stop.ensures (next_fault (g.V.Vault.counts c.args.vault.now).epoch (Before c.in-Err-Before.fault) (rw c.in-Err-Before.field-0-is at e.faults)) (λ store. (rw c.in-Err-Before.field-0-is at e.cause) (store_end c.in-Err-Before.fault store))

pub returns-in-Err-Unsure-clause-refused : goal.returns-in-Err-Unsure-clause-refused
returns-in-Err-Unsure-clause-refused g c =
    let e = c.in-Err-Unsure.ensures in
    let are : writes_of c.deref.result.now ≡ map pair_of c.close.new.out.items = ap writes_of c.deref.ensures.value in
    end_doubts _ c.args.params.now c.args.desk.now c.close.new.self c.unsure.new.self c.args.vault.now c.end.new.self (g.W.Watch.trace c.args.watch.now) (g.W.Watch.trace c.end.new.watch) (g.V.Vault.counts c.args.vault.now) (map pair_of c.close.new.out.items) c.in-Err-Unsure.fault
    c.requires.ready c.requires.goes_on c.requires.none_left c.close.ensures.step
    (ended_with _ _ _ _ _ _ _ _ _ are (ap (λ (x : EndErr). end_answer (Err x)) c.in-Err-Unsure.field-0-is)
    (record { one = record { notes = e.called.0; called = e.called.2; answered = λ v holds. rw c.in-Err-Unsure.field-0-is tt; holds = e.holds; sound = e.sound; images = e.images; alike = e.alike; goes = e.goes }; whole = c.requires.whole; shown = e.called.1 }))
    c.unsure.ensures (next_fault (g.V.Vault.counts c.args.vault.now).epoch (Unsure c.in-Err-Unsure.fault) (rw c.in-Err-Unsure.field-0-is at e.faults)) (λ store. (rw c.in-Err-Unsure.field-0-is at e.cause) tt)
