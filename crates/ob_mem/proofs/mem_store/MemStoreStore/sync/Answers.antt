use Rattle.std.proofs.Common.{◌≡◌, None, Bool, true, false, not, refl, subst, ap, arith}
use Rattle.ob_base.specs.Causes.{Rose}
use Rattle.ob_mem.specs.declared.call.Call.TheVariants.{Synced}
use Rattle.ob_mem.proofs.Calls.{goes_call, goes_still, shrinks_call, keeps_call, settles_call, time_call, refused, served}
use Rattle.ob_mem.proofs.mem_store.MemStoreStore.sync.Goals as goal

pub returns-in-Err-clause-serves : goal.returns-in-Err-clause-serves
returns-in-Err-clause-serves c =
    let rose : Rose c.args.self.now.faults c.saturating_add-self-in-Err.result = omega arith in
    refused _ _ _
    (goes_still c.args.self.now.past c.sync.new.self c.in-Err.ensures _ _ _ _ _ _ (omega arith) (c.starve.ensures.tells _ _ _ rose))
    (omega arith)
    rose

pub returns-then-fails-clause-serves : goal.returns-then-fails-clause-serves
returns-then-fails-clause-serves c =
    let rose : Rose c.args.self.now.faults c.saturating_add-self-then-fails.result = omega arith in
    refused _ _ _
    (goes_call c.args.self.now.past c.sync.new.self _ c.in-Ok.ensures _ _ _ _ _ _ (omega arith) (c.note.ensures.tells _ _ (λ lost. rose)))
    (omega arith)
    rose

pub returns-then-fails-clause-keeps : goal.returns-then-fails-clause-keeps
returns-then-fails-clause-keeps c = keeps_call c.args.self.now.past c.sync.new.self _ c.in-Ok.ensures _ _ _ _ _ _ _ refl

pub returns-then-fails-clause-crash : goal.returns-then-fails-clause-crash
returns-then-fails-clause-crash c = shrinks_call c.args.self.now.past c.sync.new.self _ c.in-Ok.ensures None None 0 0 0 0 _ refl

pub returns-then-fails-clause-time : goal.returns-then-fails-clause-time
returns-then-fails-clause-time c = time_call c.args.self.now.past c.sync.new.self _ c.in-Ok.ensures None None 0 0 0 0

pub returns-clause-serves : goal.returns-clause-serves
returns-clause-serves c =
    served _ _ _
    (goes_call c.args.self.now.past c.sync.new.self _ c.in-Ok.ensures _ _ _ _ _ _ (omega arith)
    (c.note.ensures.tells _ _ (λ lost. let wrong : false ≡ true = subst (λ (b : Bool). b ≡ true) lost c.if-not-note.false in cc)))
    (omega arith)
    (λ t. t)

pub returns-clause-durable : goal.returns-clause-durable
returns-clause-durable c = λ tells. settles_call c.args.self.now.past c.sync.new.self _ c.in-Ok.ensures None None 0 0 0 0 (ap (λ (b : Bool). Synced (not b)) c.if-fails.false)

pub returns-clause-keeps : goal.returns-clause-keeps
returns-clause-keeps c = keeps_call c.args.self.now.past c.sync.new.self _ c.in-Ok.ensures _ _ _ _ _ _ _ refl

pub returns-clause-crash : goal.returns-clause-crash
returns-clause-crash c = shrinks_call c.args.self.now.past c.sync.new.self _ c.in-Ok.ensures None None 0 0 0 0 _ refl

pub returns-clause-time : goal.returns-clause-time
returns-clause-time c = time_call c.args.self.now.past c.sync.new.self _ c.in-Ok.ensures None None 0 0 0 0
