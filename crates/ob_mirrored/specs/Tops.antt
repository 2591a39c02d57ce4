-- All that the top call says of a store, in one word.
use Rattle.std.specs.Prelude.{ℕ, List, Option}
use Rattle.std.specs.Borrow.{Bor, MutBor}
use Rattle.ob_desk.specs.Beats.{BeatKind}
use Rattle.ob_io.specs.Streams.{Flow}
use Rattle.ob_store.specs.Disk.{Disk}
use Rattle.ob_top.specs.Complete.{AuditCompletes, Completes, DrillCompletes}
use Rattle.ob_top.specs.Outside.{Given, Left, Outside, StoreGoesOn}
use Rattle.ob_top.specs.Promised.{KeepsHeadline}
use Rattle.ob_top.specs.Top.{AuditDoes, DrillDoes, FormatDoes, RunDoes, UsageDoes}

-- Each clause of `obladi`, of the store that was handed in as it was and as it is left.
module _ {S W : Type 0} (disk : S → Disk) (flow : W → Flow) (beat : BeatKind) (words : List (List ℕ)) (text : Option (Bor (List ℕ))) (entry : Option (MutBor S)) (exit : Left S) (was is : Option W) (before after : Outside) (status : ℕ) (tape : Given) where
  pub record TopDoes : Type 0 where
    pub goes : StoreGoesOn disk entry exit
    pub usage : UsageDoes disk flow beat words text entry exit was is before after status
    pub audit : AuditDoes disk flow beat words text entry exit was is before after status
    pub drill : DrillDoes disk flow beat words text entry exit was is before after status
    pub format : FormatDoes disk flow beat words text entry exit was is before after status tape
    pub run : RunDoes disk flow beat words text entry exit was is before after status tape
    pub headline : KeepsHeadline disk flow beat words text entry exit was is before after status tape
    pub complete : Completes disk flow beat tape words text was is before after status entry exit
    pub drill_complete : DrillCompletes words before after status
    pub audit_complete : AuditCompletes words before after status
