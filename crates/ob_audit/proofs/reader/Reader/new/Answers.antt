use Rattle.std.proofs.Common.{[], refl}
use Rattle.ob_audit.proofs.reader.Reader.new.Goals as goal

pub returns-clause-read : goal.returns-clause-read
returns-clause-read c = record { before = []; begun = []; splits = λ more. refl; counts = refl; seen = refl; admitted = refl; kept = refl; array = refl }
