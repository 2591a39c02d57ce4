use Rattle.ob_vault.specs.RingKind.{ring_kind}
use Rattle.ob_top.proofs.Listing as listing
use Rattle.ob_top.proofs.lists.lists_hold.Goals as goal

pub returns : goal.returns
returns c = listing.lists_hold ring_kind
