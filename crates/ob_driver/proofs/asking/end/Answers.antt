use Rattle.std.proofs.Common.{map, subst, List}
use Rattle.ob_base.specs.Writes.{pair_of}
use Rattle.ob_base.specs.declared.value.Write.{Write}
use Rattle.ob_serial.specs.Vaults.{End}
use Rattle.ob_serial.specs.VaultViews.{end_answer}
use Rattle.ob_serial.specs.VaultKinds.{kind_of}
use Rattle.ob_conduct.specs.Scenes.{Watched}
use Rattle.ob_driver.proofs.Insides.{end_answers}
use Rattle.ob_driver.proofs.asking.end.Goals as goal

pub returns-clause-called : goal.returns-clause-called
returns-clause-called g c =
    let e = c.end.ensures in
    subst (λ (ws : List Write). Watched (kind_of g.V.Vault) c.args.vault.now (g.W.Watch.trace c.args.watch.now) (End (map pair_of ws)) (end_answer c.end.result) c.end.new.self (g.W.Watch.trace c.end.new.watch)) c.as_slice.ensures.value
    (record {
      one = record { notes = e.called.0; called = e.called.2; answered = λ v holds. end_answers v.content (map pair_of c.as_slice.result.now) c.end.result; holds = e.holds; sound = e.sound; images = e.images; alike = e.alike; goes = e.goes };
      whole = c.requires.watched;
      shown = e.called.1;
    })

pub end-requires-clause-serves : goal.end-requires-clause-serves
end-requires-clause-serves g c = c.requires.serves

pub end-requires-clause-none_left : goal.end-requires-clause-none_left
end-requires-clause-none_left g c = c.requires.none_left

pub end-requires-clause-few : goal.end-requires-clause-few
end-requires-clause-few g c = rw c.as_slice.ensures.value c.requires.few

pub end-requires-clause-rising : goal.end-requires-clause-rising
end-requires-clause-rising g c = rw c.as_slice.ensures.value c.requires.rising

pub end-requires-clause-keys : goal.end-requires-clause-keys
end-requires-clause-keys g c = rw c.as_slice.ensures.value c.requires.keys

pub returns-clause-params : goal.returns-clause-params
returns-clause-params g c = c.end.ensures.params

pub returns-clause-faults : goal.returns-clause-faults
returns-clause-faults g c = c.end.ensures.faults

pub returns-clause-cause : goal.returns-clause-cause
returns-clause-cause g c = c.end.ensures.cause
