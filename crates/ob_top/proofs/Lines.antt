-- What stands of a run's lines, and the epoch whose end was refused, as its last act tells.
use Rattle.std.proofs.Common.{◌≡◌, ◌∙◌, ◌+◌, ◌++◌, ◌∷◌, [], ℕ, suc, List, Option, Some, None, sym, refl, ap, subst, arith, inl, inr, length, Ok, Err, Result, decimal}
use Rattle.std.proofs.lemmas.List.{length-append}
use Rattle.std.proofs.lemmas.Option.{same_Some}
use Rattle.ob_base.specs.declared.fault.Fault.{Fault}
use Rattle.ob_base.specs.declared.fault.Fault.TheVariants.{Memory, Usage, BadScript, BadParams, NotStore, Damaged, StoreFault, StashFull, Worn, SourceFault, SinkFault}
use Rattle.ob_io.specs.Streams.{Flow}
use Rattle.ob_report.specs.Printed.{IsPrinted}
use Rattle.ob_report.specs.Report.{report}
use Rattle.ob_serial.specs.Serial.{EpochRecord}
use Rattle.ob_serial.specs.VaultViews.{IsFetchFault, IsEndFault}
use Rattle.ob_serial.specs.VaultKinds.{Kind}
use Rattle.ob_serial.specs.declared.vault.EndErr.{EndErr}
use Rattle.ob_serial.specs.declared.vault.EndErr.TheVariants.{Before, Unsure}
use Rattle.ob_conduct.specs.Acts.{Act, Says, Halts, Rests as Looked, Takes, Delivers, DeliverFails, FetchFails, RestUnwatched, Closes, Publishes, Refuses, Unprinted, Unwatched, records, fault_in, fault_told}
use Rattle.ob_conduct.specs.declared.run_err.RunErr.{RunErr}
use Rattle.ob_conduct.specs.declared.run_err.RunErr.TheVariants as failed
use Rattle.ob_conduct.specs.Scenes.{Scene, RunState}
use Rattle.ob_conduct.specs.Records.{IsWritten, IsCutShort, Makes}
use Rattle.ob_conduct.specs.Moves.{AreLines, Failure, IsReason}
use Rattle.ob_conduct.specs.Conducted.{RunEnds}
use Rattle.ob_conduct.specs.Left.{IsNextOf}
use Rattle.ob_conduct.proofs.Acting.{one_text, written_none}
use Rattle.ob_conduct.proofs.Going.{printed_then}
use Rattle.ob_top.specs.Endings.{IsNextBy, LinesStand, err_of}

module _ (told : List (EpochRecord ℕ)) (before after : Flow) where
  -- how many records' lines stand, and that they do
  abbrev pub Stand : Option RunErr → Type 0
  Stand err = (whole : ℕ) × LinesStand err told whole before after

  -- all of them, where the fault isn't the output's
  pub stand_unless : (fault : Fault) → (fault ≡ SinkFault → ⊥) → IsWritten (report decimal told) before after → Stand (Some (failed.Fault fault))
  stand_unless SinkFault other written = absurd (other refl)
  stand_unless Memory other written = (length told, (written, refl))
  stand_unless Usage other written = (length told, (written, refl))
  stand_unless (BadScript line) other written = (length told, (written, refl))
  stand_unless (BadParams field) other written = (length told, (written, refl))
  stand_unless NotStore other written = (length told, (written, refl))
  stand_unless (Damaged cell check kept computed) other written = (length told, (written, refl))
  stand_unless (StoreFault unsure) other written = (length told, (written, refl))
  stand_unless (StashFull rows) other written = (length told, (written, refl))
  stand_unless (Worn number) other written = (length told, (written, refl))
  stand_unless SourceFault other written = (length told, (written, refl))

  -- so where the watch broke
  pub stand_all : IsWritten (report decimal told) before after → Stand (Some failed.Unwatched)
  stand_all written = (length told, (written, refl))

  -- all but the last one's, where it is
  stand_cut : IsCutShort told before after → Stand (Some (failed.Fault SinkFault))
  stand_cut cut = (length cut.whole, (cut, one_more))
    where
      one_more : suc (length cut.whole) ≡ length told
      one_more = omega (arith, ap (λ (rs : List (EpochRecord ℕ)). length rs) cut.told_are, length-append cut.whole (cut.last ∷ []))

-- lines that were cut short are a front of the report
pub cut_printed : (told : List (EpochRecord ℕ)) (before after : Flow) → IsCutShort told before after → IsPrinted before after (report decimal told)
cut_printed told before after cut = subst (λ (rs : List (EpochRecord ℕ)). IsPrinted before after (report decimal rs)) (sym cut.told_are)
    (printed_then cut.whole (cut.last ∷ []) before cut.mid after cut.written (subst (λ (text : List ℕ). IsPrinted cut.mid after text) (one_text cut.last) cut.printed))

-- the output fails no call of the vault
no_fetch : (fault : Fault) → IsFetchFault fault → fault ≡ SinkFault → ⊥
no_fetch fault fetch is = subst IsFetchFault is fetch

no_end : (epoch : ℕ) (refused : EndErr) → IsEndFault epoch refused → fault_in refused ≡ SinkFault → ⊥
no_end epoch (Before fault) end is = subst (λ (f : Fault). IsEndFault epoch (Before f)) is end
no_end epoch (Unsure fault) end is = store_isnt (sym end ∙ is)
  where
    store_isnt : StoreFault (Some epoch) ≡ SinkFault → ⊥
    store_isnt same = cc same

no_memory : (fault : Fault) → fault ≡ Memory → fault ≡ SinkFault → ⊥
no_memory fault memory is = memory_isnt (sym memory ∙ is)
  where
    memory_isnt : Memory ≡ SinkFault → ⊥
    memory_isnt same = cc same

module _ {V : Type 0} (k : Kind V) (old new : Scene V) (acts : List Act) (before after : Flow) (err : RunErr) (f : Failure k old new acts before after err) where
  given_is : (act : Act) (given : RunErr) → f.act ≡ act → fault_told act ≡ Some given → given ≡ err
  given_is act given is tells = same_Some given err (sym tells ∙ ap fault_told (sym is) ∙ f.told)

  told_as : (act : Act) (given : RunErr) → f.act ≡ act → fault_told act ≡ Some given → Stand (records acts) before after (Some given) → Stand (records acts) before after (Some err)
  told_as act given is tells stand = subst (λ (x : RunErr). Stand (records acts) before after (Some x)) (given_is act given is tells) stand

  stand_by : (act : Act) → f.act ≡ act → IsReason k old f.front act new.trace → AreLines act (records acts) before after → Stand (records acts) before after (Some err)
  stand_by (Halts given) is reason lines = told_as (Halts given) (failed.Fault given) is refl (stand_unless (records acts) before after given (no_memory given reason) lines)
  stand_by Unprinted is reason lines = told_as Unprinted (failed.Fault SinkFault) is refl (stand_cut (records acts) before after lines)
  stand_by (DeliverFails keys given) is reason lines = told_as (DeliverFails keys given) (failed.Fault given) is refl (stand_unless (records acts) before after given (no_fetch given reason) lines)
  stand_by (FetchFails look batches keys given) is reason lines = told_as (FetchFails look batches keys given) (failed.Fault given) is refl (stand_unless (records acts) before after given (no_fetch given reason) lines)
  stand_by (Refuses writes refused) is reason lines =
      told_as (Refuses writes refused) (failed.Fault (fault_in refused)) is refl (stand_unless (records acts) before after (fault_in refused) (no_end (old.desk.running.epoch + length (records f.front)) refused reason.is_fault) lines)
  stand_by (RestUnwatched look batches) is reason lines = told_as (RestUnwatched look batches) failed.Unwatched is refl (stand_all (records acts) before after lines)
  stand_by Unwatched is reason lines = told_as Unwatched failed.Unwatched is refl (stand_all (records acts) before after lines)
  stand_by (Says client steps) is reason lines = absurd reason
  stand_by (Looked look) is reason lines = absurd reason
  stand_by (Takes look keys) is reason lines = absurd reason
  stand_by (Delivers batch) is reason lines = absurd reason
  stand_by (Closes look batches writes) is reason lines = absurd reason
  stand_by (Publishes writes left record_told) is reason lines = absurd reason

module _ {V U : Type 0} (k : Kind V) (old new : RunState V U) (acts : List Act) where
  -- so it is however a run ends
  pub lines_stand : (result : Result (Unit {0}) RunErr) → RunEnds k old new acts result → Stand (records acts) old.output new.output (err_of result)
  lines_stand (Ok done) (answered, over, written, still) = (length (records acts), (written, refl))
  lines_stand (Err err) (inl short) = subst (λ (e : RunErr). Stand (records acts) old.output new.output (Some e)) (sym short.fault_is)
      (stand_unless (records acts) old.output new.output Memory (no_memory Memory refl)
      (subst (λ (o : Flow). IsWritten (report decimal (records acts)) old.output o) (sym short.silent) (subst (λ (xs : List Act). IsWritten (report decimal (records xs)) old.output old.output) (sym short.none) (written_none old.output))))
  lines_stand (Err err) (inr f) = stand_by k old.scene new.scene acts old.output new.output err f f.act refl f.reason f.lines

  -- the epoch whose end was refused is the one that the desk had closed
  pub next_by_acts : (result : Result (Unit {0}) RunErr) (next : Option (EpochRecord ℕ)) → IsNextOf k old new acts result next → IsNextBy old.scene.desk acts next
  next_by_acts result None is = tt
  next_by_acts result (Some r) (err, told, f, (writes, refused, act_is, u, the)) = record {
    front = f.front;
    writes = writes;
    refused = refused;
    behind = f.behind;
    acts_are = f.acts_are ∙ ap (λ (x : Act). f.front ++ x ∷ f.behind) act_is;
    says = f.says;
    desk = u.mid.desk;
    leads = u.moves.leads;
    closed = u.closed;
    is_closed = u.is_closed;
    is_record = sym the;
    makes = subst (λ (q : EpochRecord ℕ). Makes writes q) the u.due.makes;
  }
