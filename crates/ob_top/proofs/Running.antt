-- How what was begun and what was served join into a run.
use Rattle.std.proofs.Common.{◌≡◌, ◌⊎◌, false, ◌≤◌, ℕ, List, [], Option, Some, None, refl, inl, inr, subst, arith}
use Rattle.ob_base.specs.declared.params.Params.{Params}
use Rattle.ob_shares.specs.declared.shares.Shares.{Shares}
use Rattle.ob_conduct.specs.declared.run_err.RunErr.{RunErr}
use Rattle.ob_conduct.specs.declared.run_err.RunErr.TheVariants as failed
use Rattle.ob_store.specs.Lines.{Shows, Trace}
use Rattle.ob_seal.specs.declared.keys.Keys.{Keys}
use Rattle.ob_seal.specs.Sealing.{Sealing}
use Rattle.ob_base.specs.declared.fault.Fault.{Fault}
use Rattle.ob_base.specs.declared.fault.Fault.TheVariants.{SinkFault}
use Rattle.ob_io.proofs.Pieces.{appended-none}
use Rattle.ob_io.specs.Streams.{Flow}
use Rattle.ob_store.specs.Disk.{Clock, Disk, Image, NotAfter}
use Rattle.ob_store.specs.Images.{LeavesOnly, IsSynced}
use Rattle.ob_serial.specs.Vaults.{Standing}
use Rattle.ob_recover.specs.Telling.{ArePhasesMade}
use Rattle.ob_vault.specs.Shapes.{refused}
use Rattle.ob_vault.specs.Keeping.{AreStandingLaws}
use Rattle.ob_vault.specs.KindLives.{LifeWords}
use Rattle.ob_top.specs.Audited.{AuditWords}
use Rattle.ob_vault.specs.Kinds.{StoreKind, Stands, AllStand, StandsAsBefore, IsOpenedAt}
use Rattle.ob_store.proofs.Showing.{shows_then}
use Rattle.ob_serial.specs.Serial.{EpochRecord}
use Rattle.ob_script.specs.Script.{Scripts}
use Rattle.ob_top.specs.Outside.{Given, Outside, outside}
use Rattle.ob_top.specs.Runs.{AreSharesRefused, EndsEarly, IsInputRefused, beginning_notes, notes_of_head, IsReadAndOpened, LivesUnserved, ServedOver, Ran, Went, RunOn, ShownBehindHead}
use Rattle.ob_top.specs.Parts.{Manner, IsOpened, SharesFit, begin_phases, reading_head}
use Rattle.ob_top.specs.Staged.{OpensInStages}
use Rattle.ob_top.proofs.Lines.{Stand, stand_all, stand_unless}
use Rattle.ob_top.proofs.Living.{whole_clear}
use Rattle.ob_top.proofs.Sounding.{early_sound, ran_sound}

-- the output is no cause of a head's or an opening's refusal
pub record IsQuiet (store : StoreKind) : Type 0 where
  pub head : store.head_fault SinkFault → ⊥
  pub opening : store.open_fault SinkFault → ⊥

-- nor of the input's, or of the shares'
pub not_sink : (p : Params) (shares : Shares) (before after : Flow) → IsInputRefused p.keys before after SinkFault ⊎ AreSharesRefused p shares before SinkFault → ⊥
not_sink p shares before after (inl never) = never
not_sink p shares before after (inr (field, is, script, came, never)) = cc is

-- what was served is so whatever was read as the head
pub served_reading : (head : List ℕ) (store : StoreKind) (life : LifeWords store) (audit : AuditWords store) {S : Type 0} (disk : S → Disk) (by : Manner) (keys : Keys) (p : Params) (found : store.Found) (sealing : Sealing) (script : Scripts) (tape : Given) (old new : S) (before after : Flow) (t u : Trace) (err : Option RunErr)
    → ServedOver store life audit disk by keys p found sealing script tape old new before after t u err → ServedOver store life audit disk (reading_head head by) keys p found sealing script tape old new before after t u err
served_reading head store life audit disk by keys p found sealing script tape old new before after t u err s =
    let i = s.is_served in
    record {
      records = s.records;
      is_served = record { served = i.served; all = i.all; ends = i.ends; opens = i.opens; one_by_one = i.one_by_one };
      world = s.world;
      whole = s.whole;
      lines = s.lines;
      events = s.events;
      traced = s.traced;
      in_generation = s.in_generation;
      shown = s.shown;
      watched = s.watched;
      cause = s.cause;
      seen = s.seen;
      goes = s.goes;
      tells = s.tells;
      left = s.left;
      seals_on = s.seals_on;
      clear = s.clear;
      goes_on = s.goes_on;
      staged = s.staged;
      audited = s.audited;
    }

module _ (store : StoreKind) (quiet : IsQuiet store) (life : LifeWords store) (audit : AuditWords store) where
  -- an early end isn't the output's
  early_other : (head_is : List ℕ) {S : Type 0} (disk : S → Disk) (first last : S) (keys : Keys) (most : ℕ) (shares : Shares) (old new : Disk) (t u : Trace) (before after : Flow) → EndsEarly store life audit head_is keys most shares old new t u disk first last before after (failed.Fault SinkFault) → ⊥
  early_other head_is disk first last keys most shares old new t u before after (inl head) = quiet.head head.kind
  early_other head_is disk first last keys most shares old new t u before after (inr (inl input)) = not_sink input.p shares before after input.refused
  early_other head_is disk first last keys most shares old new t u before after (inr (inr opening)) = quiet.opening opening.kind

  -- so it has printed nothing, which is the report of no records
  early_stand : (head_is : List ℕ) {S : Type 0} (disk : S → Disk) (first last : S) (keys : Keys) (most : ℕ) (shares : Shares) (old new : Disk) (t u : Trace) (before after output : Flow) (err : RunErr) → EndsEarly store life audit head_is keys most shares old new t u disk first last before after err → Stand [] output output (Some err)
  early_stand head_is disk first last keys most shares old new t u before after output (failed.Fault refused) early =
      stand_unless [] output output refused (λ is. early_other head_is disk first last keys most shares old new t u before after (subst (λ (f : Fault). EndsEarly store life audit head_is keys most shares old new t u disk first last before after (failed.Fault f)) is early)) (record { bytes = appended-none output.bytes; later = omega arith })
  early_stand head_is disk first last keys most shares old new t u before after output failed.Unwatched early = stand_all [] output output (record { bytes = appended-none output.bytes; later = omega arith })

  pub ended_early : (laws : AreStandingLaws store) {S : Type 0} (disk : S → Disk)
      (counts_now : (x : S) (t : Clock) (c : Image) → NotAfter t (disk x).moment → (disk x).may_leave c → (disk x).left_since t c) (by : Manner) (tape : Given) (keys : Keys) (old new : S) (t u : Trace) (before after output : Flow) (err : RunErr)
      → EndsEarly store life audit by.head keys by.lanes by.shares (disk old) (disk new) t u disk old new before after err → ((disk new).tells → LivesUnserved disk keys old new)
      → RunOn store life audit disk by tape keys old new
      (outside before output) (outside after output) t u (Some err)
  ended_early laws disk counts_now by tape keys old new t u before after output err early lives = record {
    records = [];
    whole = (early_stand by.head disk old new keys by.lanes by.shares (disk old) (disk new) t u before after output err early).0;
    lines = (early_stand by.head disk old new keys by.lanes by.shares (disk old) (disk new) t u before after output err early).1;
    went = inl (refl, early, λ tells. (lives tells).0);
    clear = λ tells. (lives tells).1;
    sound = early_sound store laws life audit disk counts_now keys old new by.head by.lanes by.shares t u before after err early;
  }

  pub went_of : {S : Type 0} (disk : S → Disk) (by : Manner) (tape : Given) (keys : Keys) (old new : S) (before after : Outside) (t u : Trace) (records : List (EpochRecord ℕ)) (err : Option RunErr) → Ran store life audit disk by tape keys old new before after t u records err → Went store life audit
      disk by tape keys old new before after t u records err
  went_of disk by tape keys old new before after t u records None ran = ran
  went_of disk by tape keys old new before after t u records (Some err) ran = inr ran

  -- The script was run over the store that was opened.
  pub ran : (laws : AreStandingLaws store) {S : Type 0} (disk : S → Disk)
      (counts_now : (x : S) (t : Clock) (c : Image) → NotAfter t (disk x).moment → (disk x).may_leave c → (disk x).left_since t c) (by : Manner) (tape : Given) (keys : Keys) (old between new : S) (input input_new output output_new : Flow) (p : Params)
      (script : Scripts) (found : store.Found) (start : store.Start) (sealing : Sealing) (t midway u : Trace) (err : Option RunErr)
      → ShownBehindHead by.head (store.open_notes p found start) t midway → midway.broken ≡ false
      → (disk old).faults ≤ (disk between).faults → audit.knows_gates found (disk between)
      → IsOpened store keys (disk old) input p script found start → SharesFit p script by.shares → ArePhasesMade by.lanes (begin_phases store by.head p found start) (disk old).seen (disk between).seen
      → ((disk old).tells → (disk between).tells × IsSynced (disk between))
      → ((at : Standing) → (disk old).tells → Stands store keys p (disk old).cells at → IsOpenedAt store keys p at found (disk between))
      → ((at : Standing) → (disk old).tells → Stands store keys p (disk old).cells at → AllStand store keys p (disk old) → LeavesOnly (disk old) (disk between) (StandsAsBefore store keys p (disk old)))
      → OpensInStages by.head store life disk keys p old between
      → IsReadAndOpened disk keys old between sealing → ((disk old).tells → life.begins keys p (disk old).cells found)
      → ServedOver store life audit disk by keys p found sealing script tape between new output output_new midway u err
      → RunOn store life audit disk by tape keys old new (outside input output) (outside input_new output_new) t u err
  ran laws disk counts_now by tape keys old between new input input_new output output_new p script found start sealing t midway u err shown whole later knows opened fits seen durable stood before opens begun found_so s =
      let begins : Shows (beginning_notes store by.head p found start) t midway = shows_then (notes_of_head by.head) (store.open_notes p found start) t shown.between midway shown.head shown.behind in
      let its : Ran store life audit disk by tape keys old new (outside input output) (outside input_new output_new) t u s.records err = record {
        p = p;
        script = script;
        found = found;
        start = start;
        opened = opened;
        fits = fits;
        between = between;
        sealing = sealing;
        begun = begun;
        durable = durable;
        faults = later;
        knows = knows;
        opening_seen = seen;
        midway = midway;
        opening_shown = begins;
        whole_midway = whole;
        opens = opens.standing;
        opens_staged = opens.stages;
        stood = stood;
        opening_left = before;
        opens_life = found_so;
        serving = s;
        told = refl;
      } in
      record {
        records = s.records;
        whole = s.whole;
        lines = s.lines;
        went = went_of disk by tape keys old new (outside input output) (outside input_new output_new) t u s.records err its;
        sound = ran_sound store laws life audit disk counts_now keys old new by tape (outside input output) (outside input_new output_new) t u s.records err its;
        clear = whole_clear disk keys old between new sealing s.goes begun err s.clear;
      }
