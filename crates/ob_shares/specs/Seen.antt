-- What is seen of the names that are kept.
use Rattle.ob_shares.specs.Shares.{Uses}
use Rattle.ob_shares.specs.declared.uses.Uses.{Uses as CodeUses}

abbrev pub uses_of : CodeUses → Uses
uses_of uses = record { reads = uses.reads.items; writes = uses.writes.items }
