use Rattle.ob_mirror.proofs.mirror.MirrorLanes.TheImpl.Goals as goal

-- a bound of the trait's method is this one's
pub read_parts-asks : goal.read_parts-asks
read_parts-asks g c = record { sync = record { shared = c.requires.sync.shared }; few = c.requires.few; ready = c.requires.ready; jobs = c.requires.jobs }
