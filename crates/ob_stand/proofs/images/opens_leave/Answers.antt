use Rattle.ob_stand.proofs.Laws as laws
use Rattle.ob_stand.proofs.images.opens_leave.Goals as goal

pub returns : goal.returns
returns g c = laws.opens_leave (λ store. g.S.Store.disk store) g.met.S.Store.only_now
