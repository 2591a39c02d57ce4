use Rattle.std.proofs.Common.{◌≡◌, None, Bool, true, false, refl, subst, arith}
use Rattle.ob_base.specs.Causes.{Rose}
use Rattle.ob_mem.proofs.Calls.{goes_call, goes_still, tears_call, tears_still, rest_call, put_call, time_call, refused, served}
use Rattle.ob_mem.proofs.mem_store.MemStoreStore.write.Goals as goal

pub returns-in-Err-clause-serves : goal.returns-in-Err-clause-serves
returns-in-Err-clause-serves c =
    let rose : Rose c.args.self.now.faults c.saturating_add-self-in-Err.result = omega arith in
    refused _ _ _
    (goes_still c.args.self.now.past c.write.new.self c.in-Err.ensures _ _ _ _ _ _ (omega arith) (c.starve.ensures.tells _ _ _ rose))
    (omega arith)
    rose

pub returns-in-Err-clause-crash : goal.returns-in-Err-clause-crash
returns-in-Err-clause-crash c = tears_still c.args.self.now.past c.write.new.self c.in-Err.ensures None None 0 0 0 0 c.args.cell

pub returns-then-is_named-clause-serves : goal.returns-then-is_named-clause-serves
returns-then-is_named-clause-serves c =
    let rose : Rose c.args.self.now.faults c.saturating_add-self-then-is_named.result = omega arith in
    refused _ _ _
    (goes_call c.args.self.now.past c.write.new.self _ c.in-Ok.ensures _ _ _ _ _ _ (omega arith) (c.note.ensures.tells _ _ (λ lost. rose)))
    (omega arith)
    rose

pub returns-then-is_named-clause-rest : goal.returns-then-is_named-clause-rest
returns-then-is_named-clause-rest c = λ tells. rest_call c.args.self.now.past c.write.new.self _ c.in-Ok.ensures None None 0 0 0 0 c.args.cell c.args.bytes.now refl

pub returns-then-is_named-clause-crash : goal.returns-then-is_named-clause-crash
returns-then-is_named-clause-crash c = tears_call c.args.self.now.past c.write.new.self _ c.in-Ok.ensures None None 0 0 0 0 c.args.cell c.args.bytes.now refl

pub returns-then-is_named-clause-time : goal.returns-then-is_named-clause-time
returns-then-is_named-clause-time c = time_call c.args.self.now.past c.write.new.self _ c.in-Ok.ensures None None 0 0 0 0

pub returns-then-cell-size-clause-serves : goal.returns-then-cell-size-clause-serves
returns-then-cell-size-clause-serves c =
    let rose : Rose c.args.self.now.faults c.saturating_add-self-then-cell-size.result = omega arith in
    refused _ _ _
    (goes_call c.args.self.now.past c.write.new.self _ c.in-Ok.ensures _ _ _ _ _ _ (omega arith) (c.note.ensures.tells _ _ (λ lost. rose)))
    (omega arith)
    rose

pub returns-then-cell-size-clause-rest : goal.returns-then-cell-size-clause-rest
returns-then-cell-size-clause-rest c = λ tells. rest_call c.args.self.now.past c.write.new.self _ c.in-Ok.ensures None None 0 0 0 0 c.args.cell c.args.bytes.now refl

pub returns-then-cell-size-clause-crash : goal.returns-then-cell-size-clause-crash
returns-then-cell-size-clause-crash c = tears_call c.args.self.now.past c.write.new.self _ c.in-Ok.ensures None None 0 0 0 0 c.args.cell c.args.bytes.now refl

pub returns-then-cell-size-clause-time : goal.returns-then-cell-size-clause-time
returns-then-cell-size-clause-time c = time_call c.args.self.now.past c.write.new.self _ c.in-Ok.ensures None None 0 0 0 0

pub returns-clause-serves : goal.returns-clause-serves
returns-clause-serves c =
    served _ _ _
    (goes_call c.args.self.now.past c.write.new.self _ c.in-Ok.ensures _ _ _ _ _ _ (omega arith)
    (c.note.ensures.tells _ _ (λ lost. let wrong : false ≡ true = subst (λ (b : Bool). b ≡ true) lost c.if-not-note.false in cc)))
    (omega arith)
    (λ t. t)

pub returns-clause-written : goal.returns-clause-written
returns-clause-written c = λ tells. put_call c.args.self.now.past c.write.new.self _ c.in-Ok.ensures None None 0 0 0 0 c.args.cell c.args.bytes.now refl (omega arith)

pub returns-clause-rest : goal.returns-clause-rest
returns-clause-rest c = λ tells. rest_call c.args.self.now.past c.write.new.self _ c.in-Ok.ensures None None 0 0 0 0 c.args.cell c.args.bytes.now refl

pub returns-clause-crash : goal.returns-clause-crash
returns-clause-crash c = tears_call c.args.self.now.past c.write.new.self _ c.in-Ok.ensures None None 0 0 0 0 c.args.cell c.args.bytes.now refl

pub returns-clause-time : goal.returns-clause-time
returns-clause-time c = time_call c.args.self.now.past c.write.new.self _ c.in-Ok.ensures None None 0 0 0 0
