use Rattle.ob_stand.proofs.Laws as laws
use Rattle.ob_stand.proofs.images.sound_after.Goals as goal

pub returns : goal.returns
returns g c = laws.sound_after (λ store. g.S.Store.disk store) g.met.S.Store.counts_now
