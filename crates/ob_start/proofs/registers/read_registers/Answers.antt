use Rattle.ob_store.proofs.Doing.{tells_then}
use Rattle.ob_twin.specs.Orders.{get_notes}
use Rattle.ob_start.specs.declared.registers.Numbers.{Numbers}
use Rattle.ob_start.specs.Orders.{registers_notes}
use Rattle.ob_start.proofs.Noted.{reads_cut, reads_cut_then, reads_own, register_alike}
use Rattle.std.proofs.Common.{Err, arith}
use Rattle.ob_store.specs.Calls.{IsStoreFault}
use Rattle.ob_start.proofs.Holding.{generation_gates, epoch_gates, both_open}
use Rattle.ob_store.proofs.Serving.{if_ok, goes_then, serves_err, serves_then}
use Rattle.ob_store.proofs.Keeping.{serves_own, keeps_then, same_then}
use Rattle.ob_start.proofs.registers.read_registers.Goals as goal

pub returns-in-Err-clause-does : goal.returns-in-Err-clause-does
returns-in-Err-clause-does g c = reads_cut Numbers (get_notes 1) (get_notes 5) _ _ _ _ c.in-Err.fault c.in-Err.ensures.faults c.in-Err.ensures.does.first

pub returns-in-Err-read_register-clause-does : goal.returns-in-Err-read_register-clause-does
returns-in-Err-read_register-clause-does g c =
    reads_cut_then Numbers (get_notes 1) (get_notes 5) _ _ _ _ _ _ c.in-Err-read_register.fault c.in-Err-read_register.ensures.faults c.in-Ok.ensures.does.all c.in-Err-read_register.ensures.does.first

pub returns-clause-value : goal.returns-clause-value
returns-clause-value g c = λ tells.
    let old = g.S.Store.disk c.args.store.now in
    let mid = g.S.Store.disk c.read_register.new.store in
    let keeps = c.in-Ok.ensures.keeps in
    c.judge.ensures.value c.args.sealer.now.keys old.cells (c.in-Ok.ensures.value tells) (register_alike c.args.sealer.now.keys 5 mid.cells old.cells c.in-Ok-read_register.epoch (keeps.cells tells) (c.in-Ok-read_register.ensures.value (keeps.tells tells)))

pub returns-clause-does : goal.returns-clause-does
returns-clause-does g c =
    reads_own registers_notes _ _ _ _ c.judge.result c.judge.ensures.own
    (tells_then (get_notes 1) (get_notes 1) (get_notes 5) (get_notes 5) _ _ _ _ _ _ c.in-Ok.ensures.does.all c.in-Ok-read_register.ensures.does.all)

pub returns-in-Err-clause-serves : goal.returns-in-Err-clause-serves
returns-in-Err-clause-serves g c = serves_err IsStoreFault IsStoreFault _ _ c.in-Err.fault c.in-Err.fault (λ f. f) c.in-Err.ensures.serves

pub returns-in-Err-read_register-clause-serves : goal.returns-in-Err-read_register-clause-serves
returns-in-Err-read_register-clause-serves g c =
    let first = c.read_register.ensures.serves in
    let fault = c.in-Err-read_register.fault in
    serves_then IsStoreFault _ (g.S.Store.disk c.read_register.new.store) _ (Err fault) first.goes first.out c.in-Ok.ensures.serves.tells (serves_err IsStoreFault IsStoreFault _ _ fault fault (λ f. f) c.in-Err-read_register.ensures.serves)

pub returns-clause-serves : goal.returns-clause-serves
returns-clause-serves g c =
    let first = c.in-Ok.ensures.serves in
    let second = c.in-Ok-read_register.ensures.serves in
    serves_own _ _ c.judge.result c.judge.ensures.own (goes_then _ (g.S.Store.disk c.read_register.new.store) _ first.goes second.goes) (let x = first.out in let y = second.out in omega arith) (λ told. second.tells (first.tells told))

pub returns-in-Err-read_register-clause-keeps : goal.returns-in-Err-read_register-clause-keeps
returns-in-Err-read_register-clause-keeps g c = keeps_then _ (g.S.Store.disk c.read_register.new.store) _ c.in-Ok.ensures.keeps c.in-Err-read_register.ensures.keeps

pub returns-clause-keeps : goal.returns-clause-keeps
returns-clause-keeps g c = keeps_then _ (g.S.Store.disk c.read_register.new.store) _ c.in-Ok.ensures.keeps c.in-Ok-read_register.ensures.keeps

pub returns-in-Err-read_register-clause-passes : goal.returns-in-Err-read_register-clause-passes
returns-in-Err-read_register-clause-passes g c = same_then _ (g.S.Store.disk c.read_register.new.store) _ c.in-Ok.ensures.passes c.in-Err-read_register.ensures.passes

pub returns-clause-generation : goal.returns-clause-generation
returns-clause-generation g c = λ tells.
    if_ok _ c.judge.result
    (generation_gates c.args.gates.now c.read_register.new.gates c.read_register-2.new.gates (g.S.Store.disk c.args.store.now).cells (c.in-Ok.ensures.gates tells) c.in-Ok-read_register.ensures.other)

pub returns-clause-epoch : goal.returns-clause-epoch
returns-clause-epoch g c = λ tells.
    let keeps = c.in-Ok.ensures.keeps in
    if_ok _ c.judge.result
    (epoch_gates c.read_register.new.gates c.read_register-2.new.gates (g.S.Store.disk c.read_register.new.store).cells (g.S.Store.disk c.args.store.now).cells (c.in-Ok-read_register.ensures.gates (keeps.tells tells)) (keeps.cells tells))

pub returns-clause-some : goal.returns-clause-some
returns-clause-some g c =
    both_open c.in-Ok.generation c.in-Ok-read_register.epoch c.read_register.new.gates c.read_register-2.new.gates c.judge.result c.judge.ensures.numbers c.in-Ok.ensures.some c.in-Ok-read_register.ensures.some
    c.in-Ok-read_register.ensures.other

pub returns-clause-below : goal.returns-clause-below
returns-clause-below g c = c.judge.ensures.below c.in-Ok.ensures.below c.in-Ok-read_register.ensures.below

pub returns-clause-passes : goal.returns-clause-passes
returns-clause-passes g c = same_then _ (g.S.Store.disk c.read_register.new.store) _ c.in-Ok.ensures.passes c.in-Ok-read_register.ensures.passes
