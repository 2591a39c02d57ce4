-- What a run over a mirror comes to, once its fault's line is written.
use Rattle.std.proofs.Common.{◌≡◌, ◌⊎◌, ⊎_elim, ◌<◌, ℕ, false, List, [], Option, Some, inl, inr, refl, sym, subst, arith}
use Rattle.std.specs.Borrow.{Bor}
use Rattle.ob_base.specs.Causes.{Rose}
use Rattle.ob_base.specs.declared.fault.Fault.{Fault}
use Rattle.ob_base.specs.declared.fault.Fault.TheVariants as fault
use Rattle.ob_base.specs.declared.params.Params.{Params}
use Rattle.ob_conduct.specs.declared.run_err.RunErr.{RunErr}
use Rattle.ob_conduct.specs.declared.run_err.RunErr.TheVariants as failed
use Rattle.ob_io.specs.Streams.{Flow}
use Rattle.ob_report.specs.Faults.{status_of}
use Rattle.ob_script.specs.Script.{Scripts}
use Rattle.ob_seal.specs.declared.keys.Keys.{Keys}
use Rattle.ob_serial.specs.Serial.{EpochRecord}
use Rattle.ob_serial.specs.Vaults.{Standing}
use Rattle.ob_store.specs.Calls.{GoesOn}
use Rattle.ob_store.specs.Disk.{Disk, Image}
use Rattle.ob_store.specs.Lines.{Trace}
use Rattle.ob_store.proofs.Serving.{rose_later}
use Rattle.ob_vault.proofs.Standing.{ring_keeps}
use Rattle.ob_vault.specs.RingKind.{RingMayStop, ring_kind}
use Rattle.ob_vault.specs.RingLives.{ring_lives}
use Rattle.ob_top.specs.Audited.{ring_audits}
use Rattle.ob_top.proofs.Beginnings.{ring_quiet}
use Rattle.ob_top.proofs.Completing.{StopsFor, run_answers}
use Rattle.ob_top.proofs.Finishing.{run_done}
use Rattle.ob_top.proofs.Headlines.{done_promised}
use Rattle.ob_top.specs.Calls.{RunCall}
use Rattle.ob_top.specs.Complete.{CanRun, StopsFull}
use Rattle.ob_top.specs.Headline.{Stood}
use Rattle.ob_top.specs.Outside.{Given, IsCommandFinished, Outside, outside}
use Rattle.ob_top.specs.Parts.{Manner, reading_head}
use Rattle.ob_top.specs.Pasts.{PastLife}
use Rattle.ob_top.specs.Promised.{Promised}
use Rattle.ob_top.specs.Runs.{EndsEarly, Ran, RunDone, RunOn, Went}
use Rattle.ob_mirrored.proofs.Anchored.{no_head}

-- a count that was 0 and rose
pub refused_some : (before now : ℕ) → before ≡ 0 → Rose before now → 0 < now
refused_some before now none rose = omega arith

module _ {X : Type 0} (disk : X → Disk) (by : Manner) (tape : Given) (keys : Keys) (old new : X) (input input_new output output_new : Flow) (t u : Trace) (status : ℕ) where
  abbrev pub Done : Type 0
  Done = RunDone ring_kind ring_lives ring_audits disk (reading_head [] by) tape keys old new (outside input output) (outside input_new output_new) t u status

  pub ended_run : (mid : Flow) (err : Option RunErr) → RunOn ring_kind ring_lives ring_audits disk (reading_head [] by) tape keys old new (outside input output) (outside input_new mid) t u err → IsCommandFinished mid output_new err status → Done
  ended_run mid err r f = run_done ring_kind ring_quiet ring_lives ring_audits disk (reading_head [] by) tape keys old new (outside input output) (outside input_new mid) (outside input_new output_new) t u refl status err r f

  -- it is cut off by the store's fault only where the count of faults rose
  early_cause : (unsure : Option ℕ) → EndsEarly ring_kind ring_lives ring_audits [] keys by.lanes by.shares (disk old) (disk new) t u disk old new input input_new (failed.Fault (fault.StoreFault unsure)) → Rose (disk old).faults (disk new).faults
  early_cause unsure (inl head) = no_head head.own
  early_cause unsure (inr (inl came)) = ⊎_elim (λ none. absurd none) (λ shares. absurd (let wrong : fault.StoreFault unsure ≡ fault.BadParams shares.0 = shares.1 in cc)) came.refused
  early_cause unsure (inr (inr opening)) = opening.cause tt

  went_cause : (written : Flow) (records : List (EpochRecord ℕ)) (unsure : Option ℕ) → Went ring_kind ring_lives ring_audits disk (reading_head [] by) tape keys old new (outside input output) (outside input_new written) t u records (Some (failed.Fault (fault.StoreFault unsure)))
      → Rose (disk old).faults (disk new).faults
  went_cause written records unsure (inl (none, ended, lives)) = early_cause unsure ended
  went_cause written records unsure (inr ran) = rose_later (disk old).faults (disk ran.between).faults (disk new).faults ran.faults ran.serving.cause.0

  pub ended_cause : (run : Done) (unsure : Option ℕ) → run.err ≡ Some (failed.Fault (fault.StoreFault unsure)) → Rose (disk old).faults (disk new).faults
  ended_cause run unsure is = went_cause run.written run.records unsure
      (subst (λ (e : Option RunErr). Went ring_kind ring_lives ring_audits disk (reading_head [] by) tape keys old new (outside input output) (outside input_new run.written) t u run.records e) is run.went)

  -- the call, as the headline has it
  abbrev pub behind_join : RunCall X
  behind_join = record {
    old = old;
    new = new;
    before = outside input output;
    after = outside input_new output_new;
    lacks_trace = false;
    traced_before = t.faults;
    traced_after = u.faults;
    by = reading_head [] by;
    tape = tape;
    status = status;
  }

  module _ (whole : t.broken ≡ false) (run : Done) where
    pub ended_headline : ((x : X) (c : Image) → (disk x).left_since (disk x).moment c → (disk x).may_leave c) → ((x : X) → (disk x).tells → (disk x).leaves → (disk x).may_leave (disk x).cells) → GoesOn (disk old) (disk new)
        → (p : Params) (at : Standing) (past : PastLife) → Stood disk keys p at past tape old → Promised disk keys p at past behind_join
    ended_headline only_now includes_reads goes p at past stood = done_promised disk keys behind_join t u (λ rose. rose) only_now includes_reads goes p at past stood whole run

    module _ (words : List (List ℕ)) (text : Option (Bor (List ℕ))) (was is : Option Flow) (script : Scripts) (can : CanRun (λ (f : Flow). f) words text (disk old) (disk new) was is (outside input output) (outside input_new output_new) ring_kind script) where
      abbrev Full : Type 0
      Full = StopsFull disk (λ (f : Flow). f) by.beat tape words text was is (outside input output) (outside input_new output_new) status (reading_head [] by) can.keys can.p old new

      by_stop : (f : Fault) → RingMayStop can.p f → status ≡ status_of (Some f) → (records : List (EpochRecord ℕ)) (first last : Trace) (written : Flow)
          → Ran ring_kind ring_lives ring_audits disk (reading_head [] by) tape can.keys old new (outside input output) (outside input_new written) first last records (Some (failed.Fault f)) → Full
      by_stop (fault.StashFull rows) (past, few) is records first last written ran = record { status_is = is; fewer = omega (arith, past, few); records = records; rows = rows; first = first; last = last; written = written; ran = ran }
      by_stop fault.Memory may is records first last written ran = absurd may
      by_stop fault.Usage may is records first last written ran = absurd may
      by_stop (fault.BadScript line) may is records first last written ran = absurd may
      by_stop (fault.BadParams field) may is records first last written ran = absurd may
      by_stop fault.NotStore may is records first last written ran = absurd may
      by_stop (fault.Damaged cell check kept computed) may is records first last written ran = absurd may
      by_stop (fault.StoreFault unsure) may is records first last written ran = absurd may
      by_stop (fault.Worn number) may is records first last written ran = absurd may
      by_stop fault.SourceFault may is records first last written ran = absurd may
      by_stop fault.SinkFault may is records first last written ran = absurd may

      by_answer : (status ≡ 0) ⊎ ((status ≡ 9) ⊎ StopsFor ring_kind ring_keeps ring_lives ring_audits disk words text old new (λ (f : Flow). f) was is (outside input output) (outside input_new output_new) script can (reading_head [] by) tape status)
          → (status ≡ 0) ⊎ ((status ≡ 9) ⊎ Full)
      by_answer (inl none) = inl none
      by_answer (inr (inl nine)) = inr (inl nine)
      by_answer (inr (inr s)) = inr (inr (by_stop s.told s.may s.status_is s.records s.first s.last s.written s.ran))

      pub ended_complete : can.keys ≡ keys → by.shares ≡ can.shares → (Rose t.faults u.faults → ⊥) → (status ≡ 0) ⊎ ((status ≡ 9) ⊎ Full)
      ended_complete same shared holds = by_answer (run_answers ring_kind ring_keeps ring_lives ring_audits disk words text old new (λ (f : Flow). f) was is (outside input output) (outside input_new output_new) script can (reading_head [] by) shared tape status t u whole holds
          (subst (λ (k : Keys). RunDone ring_kind ring_lives ring_audits disk (reading_head [] by) tape k old new (outside input output) (outside input_new output_new) t u status) (sym same) run))
