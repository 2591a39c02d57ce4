use Rattle.ob_report.proofs.Gathering.{handed}
use Rattle.ob_report.proofs.page.hand_over.Goals as goal

pub returns-clause-gathers : goal.returns-clause-gathers
returns-clause-gathers g c =
    let e = c.put_all-handed.ensures in
    handed _ _ _ _ _ _ _ (rw c.as_slice.ensures.value at e.all) (rw c.as_slice.ensures.value at e.front) e.cause c.clear.ensures
