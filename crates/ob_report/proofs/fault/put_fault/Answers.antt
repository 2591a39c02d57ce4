use Rattle.std.proofs.Common.{append_assoc}
use Rattle.ob_report.proofs.fault.put_fault.Goals as goal

pub returns-in-Usage : goal.returns-in-Usage
returns-in-Usage g c = rw c.in-Usage.is c.put_bytes.ensures

pub returns-in-BadScript : goal.returns-in-BadScript
returns-in-BadScript g c = rw c.in-BadScript.is c.put_number.ensures

pub returns-in-BadParams : goal.returns-in-BadParams
returns-in-BadParams g c = rw c.in-BadParams.is c.put_parameter.ensures

pub returns-in-NotStore : goal.returns-in-NotStore
returns-in-NotStore g c = rw c.in-NotStore.is c.put_bytes-in-NotStore.ensures

pub returns-in-Damaged : goal.returns-in-Damaged
returns-in-Damaged g c = rw c.in-Damaged.is c.put_damaged.ensures

pub returns-in-StoreFault : goal.returns-in-StoreFault
returns-in-StoreFault g c = rw c.in-StoreFault.is c.put_store.ensures

pub returns-in-StashFull : goal.returns-in-StashFull
returns-in-StashFull g c = rw c.in-StashFull.is (simp append_assoc c.put_number-in-StashFull.ensures)

pub returns-in-SourceFault : goal.returns-in-SourceFault
returns-in-SourceFault g c = rw c.in-SourceFault.is c.put_bytes-in-SourceFault.ensures

pub returns-in-SinkFault : goal.returns-in-SinkFault
returns-in-SinkFault g c = rw c.in-SinkFault.is c.put_bytes-in-SinkFault.ensures

pub returns-in-Worn : goal.returns-in-Worn
returns-in-Worn g c = rw c.in-Worn.is c.put_number-in-Worn.ensures

pub returns-in-Memory : goal.returns-in-Memory
returns-in-Memory g c = rw c.in-Memory.is c.put_bytes-in-Memory.ensures
