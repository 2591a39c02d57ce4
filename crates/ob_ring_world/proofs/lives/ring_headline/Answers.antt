use Rattle.ob_ring_world.proofs.Sounding.{ring_headline}
use Rattle.ob_ring_world.proofs.lives.ring_headline.Goals as goal

pub returns : goal.returns
returns c = record { headline = ring_headline }
