-- What a `MemStore` tells, for contracts that name the type.
use Rattle.ob_store.specs.Disk.{Disk}
use Rattle.ob_mem.specs.declared.mem_store.MemStore.{MemStore}
use Rattle.ob_mem.specs.Replay.{disk_of}
use Rattle.ob_mem.specs.Heard.{told, heard_events}

-- its member `disk`
abbrev pub disk_of_store : MemStore → Disk
disk_of_store m = disk_of m.past (told m.log.starved (heard_events m.log.heard.items)) m.log.out m.faults
