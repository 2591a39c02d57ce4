-- No shares fit whatever an epoch has.
use Rattle.std.proofs.Common.{ℕ}
use Rattle.std.proofs.lemmas.Option.{none-some}
use Rattle.ob_shares.specs.Shares.{no_shares, AreFitting}

pub none_fit : (clients read_places write_places : ℕ) → AreFitting no_shares clients read_places write_places
none_fit clients read_places write_places = record {
  reads = λ keys is. absurd (none-some keys is);
  writes = λ keys is. absurd (none-some keys is);
}
