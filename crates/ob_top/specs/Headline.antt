-- The headline, on one page: what `run` promises over a store that stood.
use Rattle.std.specs.Prelude.{ℕ, suc, ◌≡◌, ◌+◌, List, ◌++◌, length, map, Option, None, decimal}
use Rattle.std.specs.Ordering.{nat_cmp}
use Rattle.ob_base.specs.declared.params.Params.{Params}
use Rattle.ob_conduct.specs.Acts.{calls, history}
use Rattle.ob_conduct.specs.Left.{IsLeftNow}
use Rattle.ob_conduct.specs.Records.{contents}
use Rattle.ob_conduct.specs.declared.run_err.RunErr.{RunErr}
use Rattle.ob_desk.specs.Desk.{setup_with}
use Rattle.ob_io.specs.Flows.{appended}
use Rattle.ob_outcomes.specs.Served.{ClientsServed, ClientsServedAll, IsServed}
use Rattle.ob_pads.specs.Lives.{LivesTo}
use Rattle.ob_recover.specs.Calls.{Finds}
use Rattle.ob_recover.specs.Life.{LifeAct}
use Rattle.ob_recover.specs.Telling.{ArePhasesMade}
use Rattle.ob_report.specs.Faults.{fault_line, status_of}
use Rattle.ob_report.specs.Printed.{IsPrinted}
use Rattle.ob_report.specs.Report.{report}
use Rattle.ob_run.specs.Threaded.{AreShaped}
use Rattle.ob_script.specs.Script.{Scripts}
use Rattle.ob_seal.specs.declared.keys.Keys.{Keys}
use Rattle.ob_serial.specs.Serial.{EpochRecord, OneByOne, committed_of}
use Rattle.ob_serial.specs.Vaults.{Standing, StandsIn}
use Rattle.ob_session.specs.Clients.{said_by, told_of}
use Rattle.ob_session.specs.Records.{TellAll, txns_by}
use Rattle.ob_store.specs.Calls.{Notes}
use Rattle.ob_store.specs.Disk.{Disk, Image}
use Rattle.ob_store.specs.Images.{IsImageOf, LeavesOnly}
use Rattle.ob_store.specs.declared.event.Event.{Event}
use Rattle.ob_twin.specs.declared.gates.Gates.{Gates}
use Rattle.ob_vault.specs.Acts.{AreTapeWords}
use Rattle.ob_vault.specs.Kinds.{AllStand, IsOpenedAt, StandsAsBefore, opened_with}
use Rattle.ob_vault.specs.Lives.{IsOpenedInLife}
use Rattle.ob_vault.specs.RingKind.{RingFound, ring_kind}
use Rattle.ob_vault.specs.Shapes.{answered}
use Rattle.ob_vault.specs.Shown.{AreShownBy}
use Rattle.ob_top.specs.Calls.{RunCall, IsRunCause, IsCutOff, IsToldInDoubt, StandsNow, desk_behind, end_point}
use Rattle.ob_top.specs.Endings.{IsNextBy, told_fault}
use Rattle.ob_top.specs.Listed.{AreListed}
use Rattle.ob_top.specs.Outside.{Given}
use Rattle.ob_top.specs.Pasts.{LeadsToAt, IsLifeFresh, IsPastLife, LeadsTo, PastLife, behind_run, life_of, opened_life, run_life}
use Rattle.ob_top.specs.Parts.{EndsWith, IsInClearBehind, IsNextEpoch, IsOpened, IsTraced, StagedFrom, begin_phases}

-- The premises. The store tells what a read gives and what a crash leaves; whatever crashed, it stands for something; what was done with it
-- since its format is one life, and it stands, at an epoch and a map, where that leads; and the tape gives its generation's words.
pub record Stood {S : Type 0} (disk : S → Disk) (keys : Keys) (p : Params) (at : Standing) (past : PastLife) (tape : Given) (old : S) : Type 0 where
  pub tells : (disk old).tells × (disk old).leaves
  pub sound : AllStand ring_kind keys p (disk old)
  pub is_past : IsPastLife p past
  pub is_at : LeadsToAt keys p past at (disk old).cells
  pub words : AreTapeWords past.word_of tape.generation tape.words

-- What a run came to; each part of it is tied below.
pub record RunTold (S : Type 0) : Type 0 where
  pub script : Scripts
  pub found : RingFound
  pub start : Gates
  pub opened : S
  pub records : List (EpochRecord ℕ)
  pub next : Option (EpochRecord ℕ)
  pub err : Option RunErr
  pub events : List Event
  pub shown : List LifeAct
  pub cut : List LifeAct
  pub flying : Option LifeAct

module _ {S : Type 0} (disk : S → Disk) (keys : Keys) (p : Params) (at : Standing) (past : PastLife) (call : RunCall S) (run : RunTold S) where
  pub record Headline : Type 0 where
    -- The bytes that came in are the script; the store's cells have what was found; and the opened store stands for what they stood for.
    pub came : IsOpened ring_kind keys (disk call.old) call.before.input p run.script run.found run.start × IsOpenedAt ring_kind keys p at run.found (disk run.opened)
    -- Committed transactions have the replies of running one by one, in timestamp order, from the map that the store held;
    pub serial : OneByOne nat_cmp at.content (committed_of run.records) (contents at.content run.records)
    -- they are what the clients' scripts ask for, in order, each once, and no others; all of them where nothing cut the run off.
    pub scripts : ClientsServed run.script run.records × (run.err ≡ None → ClientsServedAll run.script run.records)
    -- Behind them is one history of clients, workers and epoch ends, a list of the world's events; it shows how each transaction ended.
    pub served : IsServed (AreShaped call.by.threads run.script.clients) (ring_kind.is_map keys p (disk run.opened) run.found) call.by.beat (setup_with p call.by.shares) (ring_kind.epoch run.found) (ring_kind.left p run.found) run.script run.records
    pub world : AreListed ring_kind keys (setup_with p call.by.shares) at (ring_kind.left p run.found) run.script.clients served.evidence.acts
    -- At its end all clients signed off, and all that they began is told; or it stopped for what cut it off, which has its cause and no other.
    pub over : EndsWith run.err served.evidence.acts served.evidence.desk × (run.err ≡ None → (client : ℕ) → TellAll client (txns_by client run.records) (told_of (said_by client (history served.evidence.acts))))
    pub trace : IsTraced ring_kind call.by.lanes p run.found call.tape.words (calls served.evidence.acts) (told_fault run.err) run.events
    pub cause : IsRunCause disk keys p call run.found run.opened (end_point (length run.records) trace) run.err
    -- The output is the records' lines, and then the fault's; a front of these where it failed.
    pub output : (call.status ≡ status_of (told_fault run.err)) × IsPrinted call.before.output call.after.output (report decimal run.records ++ fault_line (told_fault run.err)) × (run.err ≡ None → call.after.output.bytes ≡ appended call.before.output.bytes (report decimal run.records))
    -- A crash leaves what the store held, until it was opened; then, at any write, a prefix of the epochs, with each that had ended by then,
    pub opening : LeavesOnly (disk call.old) (disk run.opened) (StandsAsBefore ring_kind keys p (disk call.old))
    pub prefix : StagedFrom disk (StandsNow keys p run.found) at run.records run.next (disk run.opened) (disk call.new)
    -- and at most the next one, whose end was begun, as the history had closed it;
    pub next : IsNextBy (desk_behind p call.by.shares run.found run.script) served.evidence.acts run.next × IsNextEpoch (λ m. m ≡ at.content) (suc at.epoch + length run.records) run.script run.records run.next
    -- so in the end every epoch whose lines stand in the output: each image, and what reads give, where they are told.
    pub kept : (c : Image) → IsImageOf (disk call.new) c → StandsIn (StandsNow keys p run.found) (IsLeftNow (opened_with p (ring_kind.left p run.found) at) run.records run.next (IsToldInDoubt (suc at.epoch + length run.records) run.err)) c
    -- What the store sees is the public schedule: an opening's, and (trace) that of batches and ends as they followed, filled by what these draw.
    pub seen : ArePhasesMade call.by.lanes (begin_phases ring_kind call.by.head p run.found run.start) (disk call.old).seen (disk run.opened).seen × Notes run.events (disk run.opened).seen (disk call.new).seen
    -- That is what the life shows there, by words of the generation begun: in the opening, which repeats; in each call; and in one refused.
    pub filled : (call.tape.generation ≡ ring_kind.generation run.found) × IsOpenedInLife p past.word_of run.found (life_of p past) × AreShownBy p past.word_of (opened_life p past) (answered (calls served.evidence.acts)) trace.steps run.shown
        × IsCutOff call.by.lanes p past.word_of (run_life p past run.shown) (end_point (length run.records) trace) run.cut run.flying
    -- So the life goes on, and in the whole of it no word is shown in two holes, nor a slot, and a hole that is shown again is filled as before.
    pub fresh : IsPastLife p (behind_run p past run.shown run.cut) × IsLifeFresh p (behind_run p past run.shown run.cut)
    -- Its seals go on in the life of its pads, none used twice (pads_are_fresh); behind answered calls the next has the hidden number, as what is public
    -- tells (seals_are_public). In the clear each cell of head and registers is as it was, or a register's; cut off, but for one whose write was refused.
    pub pads : (disk call.new).tells → LivesTo disk keys call.old call.new (map (λ s. s.1) (calls served.evidence.acts)) trace.behind.seals × IsInClearBehind keys (disk call.old) (disk call.new) run.err
    -- And the next run may say all of this again, from each image that a crash leaves at the return; of moments before it prefix alone speaks.
    pub again : ((c : Image) → IsImageOf (disk call.new) c → (found : List LifeAct) × Finds run.flying found × LeadsTo keys p (behind_run p past run.shown (run.cut ++ found)) c) × (run.err ≡ None → (disk call.new).tells × (disk call.new).leaves)
