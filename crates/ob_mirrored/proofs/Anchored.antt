-- A watch holds what it held, whatever was done under it.
use Rattle.std.proofs.Common.{◌≡◌, ◌∙◌, ℕ, List, [], ◌∷◌, Option, Some, None, Result, Err, inl, inr}
use Rattle.std.specs.Borrow.{GName}
use Rattle.ob_base.specs.declared.fault.Fault.{Fault}
use Rattle.ob_base.specs.declared.fault.Fault.TheVariants.{Memory, Usage, BadScript, BadParams, NotStore, Damaged, StoreFault, StashFull, Worn, SourceFault, SinkFault}
use Rattle.ob_base.specs.declared.params.Params.{Params}
use Rattle.ob_conduct.specs.declared.run_err.RunErr.{RunErr}
use Rattle.ob_conduct.specs.declared.run_err.RunErr.TheVariants as failed
use Rattle.ob_seal.specs.declared.keys.Keys.{Keys}
use Rattle.ob_serial.specs.Serial.{EpochRecord}
use Rattle.ob_store.specs.Disk.{Disk}
use Rattle.ob_store.specs.Lines.{Trace}
use Rattle.ob_store.specs.declared.event.Event.{Event}
use Rattle.ob_store.specs.declared.watch.Note.TheVariants.{Read}
use Rattle.ob_twin.specs.Got.{DoesReads}
use Rattle.ob_vault.specs.RingKind.{ring_kind}
use Rattle.ob_vault.specs.RingLives.{ring_lives}
use Rattle.ob_top.specs.Audited.{ring_audits}
use Rattle.ob_top.specs.Begun.{EndsAtHead}
use Rattle.ob_top.specs.Outside.{Given, Outside}
use Rattle.ob_top.specs.Parts.{Manner, head_cells, reading_head}
use Rattle.ob_top.specs.Runs.{EndsEarly, Ran, RunDone, Went}
use Rattle.ob_mirrored.specs.Over.{AreJoined, AreUnjoined}

reads_keep : (a b : Option (List Event)) (t u : Trace) (fault : Fault) → DoesReads {V = Params} (Read 0 ∷ []) a b t u (Err fault) → u.anchors ≡ t.anchors
reads_keep a b t u (StoreFault unsure) does = does.tells.shows.anchors
reads_keep a b t u Memory does = does.shows.anchors
reads_keep a b t u Usage does = does.shows.anchors
reads_keep a b t u (BadScript line) does = does.shows.anchors
reads_keep a b t u (BadParams field) does = does.shows.anchors
reads_keep a b t u NotStore does = does.shows.anchors
reads_keep a b t u (Damaged cell check kept computed) does = does.shows.anchors
reads_keep a b t u (StashFull rows) does = does.shows.anchors
reads_keep a b t u (Worn number) does = does.shows.anchors
reads_keep a b t u SourceFault does = does.shows.anchors
reads_keep a b t u SinkFault does = does.shows.anchors

head_keeps : (keys : Keys) (one then : Disk) (t u : Trace) (err : RunErr) → EndsAtHead keys 0 (record { reads = None; writes = None }) one then t u (record { bytes = None; faults = 0 }) (record { bytes = None; faults = 0 }) err → u.anchors ≡ t.anchors
head_keeps keys one then t u (failed.Fault fault) ends = reads_keep one.seen then.seen t u fault ends.shown
head_keeps keys one then t u failed.Unwatched ends = ends.shown.anchors

pub joined_keep : {A : Type 0} (keys : Keys) (p : Params) (one : A → Disk) (a c : A) (two last : Disk) (t u : Trace) → AreJoined keys p one a c two last t u → u.anchors ≡ t.anchors
joined_keep keys p one a c two last t u joined = joined.does.shows.anchors ∙ joined.head.shown.anchors

pub unjoined_keep : {A B : Type 0} (keys : Keys) (one : A → Disk) (two : B → Disk) (a c : A) (b d : B) (t u : Trace) (err : RunErr) → AreUnjoined keys one two a c b d t u err → u.anchors ≡ t.anchors
unjoined_keep keys one two a c b d t u err (inl head) = head_keeps keys (one a) (one c) t u err (head.ends 0 (record { reads = None; writes = None }) (record { bytes = None; faults = 0 }))
unjoined_keep keys one two a c b d t u err (inr (inl join)) = join.does.tells.shows.anchors ∙ join.head.shown.anchors
unjoined_keep keys one two a c b d t u err (inr (inr broken)) = joined_keep keys broken.p one a c (two b) (two d) t u broken.joined

pub no_head : {A : Type 0} → ◌≡◌ {A = List ℕ} [] head_cells → A
no_head is = absurd (cc is)

module _ {X : Type 0} (disk : X → Disk) (by : Manner) (tape : Given) (keys : Keys) (old new : X) (before : Outside) (t u : Trace) where
  ran_keeps : (after : Outside) (records : List (EpochRecord ℕ)) (err : Option RunErr) → Ran ring_kind ring_lives ring_audits disk (reading_head [] by) tape keys old new before after t u records err → u.anchors ≡ t.anchors
  ran_keeps after records err ran = ran.serving.shown.shows.anchors ∙ ran.opening_shown.anchors

  early_keeps : (after : Outside) (err : RunErr) → EndsEarly ring_kind ring_lives ring_audits [] keys by.lanes by.shares (disk old) (disk new) t u disk old new before.input after.input err → u.anchors ≡ t.anchors
  early_keeps after (failed.Fault fault) (inl head) = no_head head.own
  early_keeps after (failed.Fault fault) (inr (inl input)) = input.shown.anchors
  early_keeps after (failed.Fault fault) (inr (inr opening)) = opening.behind_head.1.behind.anchors ∙ opening.behind_head.1.head.anchors
  early_keeps after failed.Unwatched (inl head) = no_head head.own
  early_keeps after failed.Unwatched (inr opening) = opening.shown.behind.anchors ∙ opening.shown.head.anchors

  went_keeps : (after : Outside) (records : List (EpochRecord ℕ)) (err : Option RunErr) → Went ring_kind ring_lives ring_audits disk (reading_head [] by) tape keys old new before after t u records err → u.anchors ≡ t.anchors
  went_keeps after records None ran = ran_keeps after records None ran
  went_keeps after records (Some err) (inl (none, ended, lives)) = early_keeps after err ended
  went_keeps after records (Some err) (inr ran) = ran_keeps after records (Some err) ran

  pub run_keeps : (after : Outside) (status : ℕ) → RunDone ring_kind ring_lives ring_audits disk (reading_head [] by) tape keys old new before after t u status → u.anchors ≡ t.anchors
  run_keeps after status d = went_keeps _ d.records d.err d.went

-- so the sink is still the one that was lent
pub same_sink : (a b c : GName) → ◌≡◌ {A = List GName} (b ∷ []) (a ∷ []) → ◌≡◌ {A = List GName} (c ∷ []) (b ∷ []) → a ≡ c
same_sink a b c one two = cc (one, two)
