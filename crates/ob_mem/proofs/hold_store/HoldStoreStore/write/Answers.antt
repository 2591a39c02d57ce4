use Rattle.std.proofs.Common.{◌≤◌, Err, sym, subst}
use Rattle.ob_base.specs.Causes.{Rose}
use Rattle.ob_base.specs.declared.fault.Failed.{Failed}
use Rattle.ob_store.specs.Calls.{Serves, IsFailed}
use Rattle.ob_store.specs.Images.{Elapses}
use Rattle.ob_mem.specs.declared.mem_store.MemStore.{MemStore}
use Rattle.ob_mem.specs.Memory.{disk_of_store}
use Rattle.ob_mem.proofs.Holding.{serves_more}
use Rattle.ob_mem.proofs.hold_store.HoldStoreStore.write.Goals as goal

pub returns-clause-serves : goal.returns-clause-serves
returns-clause-serves c =
    subst (λ (m : MemStore). Serves {T = Unit {0}} IsFailed (disk_of_store c.args.self.now.store) (disk_of_store m) (Err (record {}))) (sym c.fail.ensures.made)
    (serves_more (disk_of_store c.args.self.now.store) (disk_of_store c.write-written.new.self) c.write-written.result (record {}) _ c.write-written.ensures.serves
    (subst (λ (m : MemStore). c.write-written.new.self.faults ≤ m.faults) c.fail.ensures.made c.fail.ensures.later)
    (subst (λ (m : MemStore). Rose c.write-written.new.self.faults m.faults) c.fail.ensures.made c.fail.ensures.rose))

pub returns-clause-time : goal.returns-clause-time
returns-clause-time c = subst (λ (m : MemStore). Elapses (disk_of_store c.args.self.now.store) (disk_of_store m)) (sym c.fail.ensures.made) c.write-written.ensures.time
