-- How a run or a formatting ends, with its fault's line.
use Rattle.std.proofs.Common.{◌≡◌, ◌≤◌, ◌+◌, ◌∙◌, ℕ, List, [], ◌++◌, length, take, Option, Some, None, refl, sym, ap, subst, inl, inr, arith, ⊎_elim, length-append}
use Rattle.std.proofs.lemmas.List.{append-nil, take_all, take-append-le}
use Rattle.std.proofs.Math.Seq.{take-append-add}
use Rattle.std.specs.Prelude.{decimal}
use Rattle.ob_base.specs.declared.params.Params.{Params}
use Rattle.ob_seal.specs.declared.keys.Keys.{Keys}
use Rattle.ob_base.specs.declared.fault.Fault.TheVariants.{Memory, Usage, BadScript, BadParams, NotStore, Damaged, StoreFault, StashFull, Worn, SourceFault, SinkFault}
use Rattle.ob_base.specs.Causes.{Rose}
use Rattle.ob_io.specs.Flows.{appended}
use Rattle.ob_io.proofs.Pieces.{appended-again}
use Rattle.ob_io.specs.Streams.{Flow}
use Rattle.ob_report.specs.Printed.{IsPrinted}
use Rattle.ob_report.specs.Report.{report}
use Rattle.ob_report.specs.Faults.{fault_line, status_of}
use Rattle.ob_store.specs.Disk.{Disk}
use Rattle.ob_store.specs.Images.{LeavesOnly}
use Rattle.ob_store.specs.Lines.{Trace}
use Rattle.ob_conduct.specs.declared.run_err.RunErr.{RunErr}
use Rattle.ob_conduct.specs.declared.run_err.RunErr.TheVariants as failed
use Rattle.ob_store.proofs.Serving.{rose_later}
use Rattle.ob_serial.specs.Serial.{EpochRecord}
use Rattle.ob_top.specs.Outside.{Given, Outside, ErrTold, IsCommandFinished, outside}
use Rattle.ob_top.specs.Formats.{FormatEnds, FormatDone}
use Rattle.ob_vault.specs.Kinds.{StoreKind}
use Rattle.ob_vault.specs.KindLives.{LifeWords}
use Rattle.ob_top.specs.Audited.{AuditWords}
use Rattle.ob_top.specs.Endings.{LinesStand, told_fault}
use Rattle.ob_top.specs.Runs.{Went, RunOn, RunDone}
use Rattle.ob_top.specs.Parts.{IsInClearBehind, Manner}
use Rattle.ob_top.proofs.Lines.{cut_printed}
use Rattle.ob_top.specs.Sound.{StandsOn}
use Rattle.ob_top.proofs.Running.{IsQuiet, not_sink}
use Rattle.ob_top.proofs.Sounding.{formatted_sound, none_told_at_0}

-- a text behind one that is whole
behind : (before mid after : Flow) (text more : List ℕ) → mid.bytes ≡ appended before.bytes text → before.faults ≤ mid.faults → IsPrinted mid after more → IsPrinted before after (text ++ more)
behind before mid after text more bytes later p = record {
  count = length text + p.count;
  within = omega (arith, p.within, length-append text more);
  written = p.written ∙ rw bytes (appended-again before.bytes text (take p.count more)) ∙ ap (λ (l : List ℕ). appended before.bytes l) (sym (take-append-add text more p.count));
  whole = ⊎_elim (λ e. inl (ap (λ n. length text + n) e ∙ sym (length-append text more))) (λ r. inr (rose_later before.faults mid.faults after.faults later r)) p.whole;
}

pub whole : (before after : Flow) (text : List ℕ) → after.bytes ≡ appended before.bytes text → IsPrinted before after text
whole before after text bytes = record { count = length text; within = omega arith; written = bytes ∙ ap (λ (l : List ℕ). appended before.bytes l) (sym (take_all (length text) text (omega arith))); whole = inl refl }

-- a front of a text is a front of a longer one, where the output failed
front : (before after : Flow) (text more : List ℕ) → IsPrinted before after text → Rose before.faults after.faults → IsPrinted before after (text ++ more)
front before after text more p rose = record {
  count = p.count;
  within = omega (arith, p.within, length-append text more);
  written = p.written ∙ ap (λ (l : List ℕ). appended before.bytes l) (sym (take-append-le p.count text more p.within));
  whole = inr rose;
}

module _ (store : StoreKind) (quiet : IsQuiet store) (life : LifeWords store) (audit : AuditWords store) where
  module _ {S : Type 0} (disk : S → Disk) (by : Manner) (tape : Given) (keys : Keys) (old new : S) (before mid after : Outside) (t u : Trace) (input : after.input ≡ mid.input) where
    -- what stood in the output before the fault's line
    abbrev As : Outside
    As = outside after.input mid.output

    as_written : mid ≡ As
    as_written = ap (λ (f : Flow). outside f mid.output) (sym input)

    went_on : (records : List (EpochRecord ℕ)) (err : Option RunErr) → Went store life audit disk by tape keys old new before mid t u records err → Went store life audit disk by tape keys old new before As t u records err
    went_on records err went = subst (λ (o : Outside). Went store life audit disk by tape keys old new before o t u records err) as_written went

    module _ (status : ℕ) where
      done_whole : (r : RunOn store life audit disk by tape keys old new before mid t u None) → IsCommandFinished mid.output after.output None status → RunDone store life audit disk by tape keys old new before after t u status
      done_whole r f =
          let bytes : after.output.bytes ≡ appended before.output.bytes (report decimal r.records) = ap (λ (o : Flow). o.bytes) f.line ∙ r.lines.0.bytes in
          record {
            err = None;
            status_is = f.status_is;
            records = r.records;
            output_is = whole before.output after.output (report decimal r.records ++ []) (bytes ∙ ap (λ (l : List ℕ). appended before.output.bytes l) (sym (append-nil (report decimal r.records))));
            all_written = λ is. bytes;
            whole = r.whole;
            written = mid.output;
            lines = r.lines;
            line = f.line;
            went = went_on r.records None r.went;
            sound = r.sound;
            clear = r.clear;
          }

      sink_rose : (records : List (EpochRecord ℕ)) → Went store life audit disk by tape keys old new before mid t u records (Some (failed.Fault SinkFault)) → Rose before.output.faults mid.output.faults
      sink_rose records (inl (none, inl head, lives)) = absurd (quiet.head head.kind)
      sink_rose records (inl (none, inr (inl input), lives)) = absurd (not_sink input.p by.shares before.input mid.input input.refused)
      sink_rose records (inl (none, inr (inr opening), lives)) = absurd (quiet.opening opening.kind)
      sink_rose records (inr ran) = ran.serving.cause

      done_sink : (r : RunOn store life audit disk by tape keys old new before mid t u (Some (failed.Fault SinkFault))) → IsCommandFinished mid.output after.output (Some (failed.Fault SinkFault)) status → RunDone store life audit disk by tape keys old new before after t u status
      done_sink r f = record {
        err = Some (failed.Fault SinkFault);
        status_is = f.status_is;
        records = r.records;
        output_is = subst (λ (o : Flow). IsPrinted before.output o (report decimal r.records ++ fault_line (Some SinkFault))) (sym f.line)
            (front before.output mid.output (report decimal r.records) (fault_line (Some SinkFault)) (cut_printed r.records before.output mid.output r.lines.0) (sink_rose r.records r.went));
        all_written = λ is. absurd (no_fault is);
        whole = r.whole;
        written = mid.output;
        lines = r.lines;
        line = f.line;
        went = went_on r.records (Some (failed.Fault SinkFault)) r.went;
        sound = r.sound;
        clear = r.clear;
      }
        where
          no_fault : ◌≡◌ {A = Option RunErr} (Some (failed.Fault SinkFault)) None → ⊥
          no_fault is = cc is

      -- anything else, behind the whole report
      done_other : (err : RunErr) (records : List (EpochRecord ℕ)) (whole : ℕ) → LinesStand (Some err) records whole before.output mid.output → ErrTold mid.output after.output (Some err)
          → mid.output.bytes ≡ appended before.output.bytes (report decimal records) → before.output.faults ≤ mid.output.faults → IsPrinted mid.output after.output (fault_line (told_fault (Some err))) → status ≡ status_of (told_fault (Some err))
          → Went store life audit disk by tape keys old new before As t u records (Some err) → StandsOn store disk keys old new
          → ((disk new).tells → IsInClearBehind keys (disk old) (disk new) (Some err)) → RunDone store life audit disk by tape keys old new before after t u status
      done_other err records whole lines told bytes later line status_is went sound clear = record {
        err = Some err;
        status_is = status_is;
        records = records;
        output_is = behind before.output mid.output after.output (report decimal records) (fault_line (told_fault (Some err))) bytes later line;
        all_written = λ is. absurd (no_err is);
        whole = whole;
        written = mid.output;
        lines = lines;
        line = told;
        went = went;
        sound = sound;
        clear = clear;
      }
        where
          no_err : ◌≡◌ {A = Option RunErr} (Some err) None → ⊥
          no_err is = cc is

      pub run_done : (err : Option RunErr) → RunOn store life audit disk by tape keys old new before mid t u err → IsCommandFinished mid.output after.output err status → RunDone store life audit disk by tape keys old new before after t u status
      run_done None r f = done_whole r f
      run_done (Some (failed.Fault SinkFault)) r f = done_sink r f
      run_done (Some failed.Unwatched) r f = done_other failed.Unwatched r.records r.whole r.lines f.line r.lines.0.bytes r.lines.0.later f.line f.status_is (went_on r.records (Some failed.Unwatched) r.went) r.sound r.clear
      run_done (Some (failed.Fault Memory)) r f = done_other (failed.Fault Memory) r.records r.whole r.lines f.line r.lines.0.bytes r.lines.0.later f.line f.status_is (went_on r.records (Some (failed.Fault Memory)) r.went) r.sound r.clear
      run_done (Some (failed.Fault Usage)) r f = done_other (failed.Fault Usage) r.records r.whole r.lines f.line r.lines.0.bytes r.lines.0.later f.line f.status_is (went_on r.records (Some (failed.Fault Usage)) r.went) r.sound r.clear
      run_done (Some (failed.Fault (BadScript line))) r f = done_other (failed.Fault (BadScript line)) r.records r.whole r.lines f.line r.lines.0.bytes r.lines.0.later f.line f.status_is
          (went_on r.records (Some (failed.Fault (BadScript line))) r.went) r.sound r.clear
      run_done (Some (failed.Fault (BadParams field))) r f = done_other (failed.Fault (BadParams field)) r.records r.whole r.lines f.line r.lines.0.bytes r.lines.0.later f.line f.status_is
          (went_on r.records (Some (failed.Fault (BadParams field))) r.went) r.sound r.clear
      run_done (Some (failed.Fault NotStore)) r f = done_other (failed.Fault NotStore) r.records r.whole r.lines f.line r.lines.0.bytes r.lines.0.later f.line f.status_is (went_on r.records (Some (failed.Fault NotStore)) r.went) r.sound r.clear
      run_done (Some (failed.Fault (Damaged cell check kept computed))) r f = done_other (failed.Fault (Damaged cell check kept computed)) r.records r.whole r.lines f.line r.lines.0.bytes r.lines.0.later f.line f.status_is
          (went_on r.records (Some (failed.Fault (Damaged cell check kept computed))) r.went) r.sound r.clear
      run_done (Some (failed.Fault (StoreFault unsure))) r f = done_other (failed.Fault (StoreFault unsure)) r.records r.whole r.lines f.line r.lines.0.bytes r.lines.0.later f.line f.status_is
          (went_on r.records (Some (failed.Fault (StoreFault unsure))) r.went) r.sound r.clear
      run_done (Some (failed.Fault (StashFull rows))) r f = done_other (failed.Fault (StashFull rows)) r.records r.whole r.lines f.line r.lines.0.bytes r.lines.0.later f.line f.status_is
          (went_on r.records (Some (failed.Fault (StashFull rows))) r.went) r.sound r.clear
      run_done (Some (failed.Fault (Worn number))) r f = done_other (failed.Fault (Worn number)) r.records r.whole r.lines f.line r.lines.0.bytes r.lines.0.later f.line f.status_is (went_on r.records (Some (failed.Fault (Worn number))) r.went) r.sound r.clear
      run_done (Some (failed.Fault SourceFault)) r f = done_other (failed.Fault SourceFault) r.records r.whole r.lines f.line r.lines.0.bytes r.lines.0.later f.line f.status_is (went_on r.records (Some (failed.Fault SourceFault)) r.went) r.sound r.clear

  pub format_done : {S : Type 0} (disk : S → Disk) (tape : Given) (keys : Keys) (p : Params) (old new : S) (before mid after : Outside) (t u : Trace) (status : ℕ) (err : Option RunErr) → FormatEnds store life audit disk tape keys p old new before.output mid.output t u err
      → ((disk old).tells → LeavesOnly (disk old) (disk new) (store.format_leaves keys p tape.words (disk old))) → mid.input ≡ before.input → after.input ≡ mid.input
      → IsCommandFinished mid.output after.output err status → FormatDone store life audit disk tape keys p old new before after t u status
  format_done disk tape keys p old new before mid after t u status err ends leaves first second f = record {
    err = err;
    status_is = f.status_is;
    untouched = second ∙ first;
    written = mid.output;
    told = ends;
    line = f.line;
    left = leaves;
    sound = λ zero tells.
        formatted_sound store life audit disk tape keys p old new (subst (λ (x : Option RunErr). FormatEnds store life audit disk tape keys p old new before.output mid.output t u x) (none_told_at_0 err (sym f.status_is ∙ zero)) ends).0 tells;
  }
