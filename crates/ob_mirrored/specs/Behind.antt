-- What stands behind a join.
use Rattle.ob_base.specs.declared.params.Params.{Params}
use Rattle.ob_seal.specs.declared.keys.Keys.{Keys}
use Rattle.ob_serial.specs.Vaults.{Standing}
use Rattle.ob_store.specs.Disk.{Disk}
use Rattle.ob_store.specs.Lines.{Trace}
use Rattle.ob_top.specs.Headline.{Stood}
use Rattle.ob_top.specs.Outside.{Given}
use Rattle.ob_top.specs.Pasts.{PastLife}
use Rattle.ob_mirrored.specs.Over.{AreJoined}

-- Where the first half stood, both stand behind a join, if the second told its cells and images and both tell their cells as one: so a run over
-- both may say all that the headline says.
abbrev pub JoinsStand : {X A B : Type 0} → (X → Disk) → (X → A) → (X → B) → (A → Disk) → (B → Disk) → Type 0
JoinsStand {X} {A} {B} disk first_of second_of one two = (keys : Keys) (p q : Params) (at : Standing) (past : PastLife) (tape : Given) (a : A) (b : B) (x : X) (t u : Trace) → Stood one keys p at past tape a
    → AreJoined keys q one a (first_of x) (two b) (two (second_of x)) t u → (two b).tells → (two b).leaves → (disk x).tells → Stood disk keys p at past tape x
