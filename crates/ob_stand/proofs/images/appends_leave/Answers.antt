use Rattle.ob_stand.proofs.Laws as laws
use Rattle.ob_stand.proofs.images.appends_leave.Goals as goal

pub returns : goal.returns
returns g c = λ keys p s r old new appending.
    laws.appends_leave keys p s r (g.S.Store.disk old) (g.S.Store.disk new) (g.met.S.Store.only_now old) appending
