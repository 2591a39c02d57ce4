use Rattle.ob_stand.proofs.Laws as laws
use Rattle.ob_stand.proofs.images.ends_leave.Goals as goal

pub returns : goal.returns
returns g c = λ keys p s end old mid new ending.
    laws.end_leaves keys p s end (g.S.Store.disk old) (g.S.Store.disk mid) (g.S.Store.disk new) (g.met.S.Store.only_now old) ending
