-- A whole opening, by what is known behind what was found.
use Rattle.std.proofs.Common.{◌≡◌, ◌⊎◌, ◌≤◌, inl, inr, ⊎_elim, ℕ, suc, List, Result, Ok, Err, OnOk, OnErr, IfErr, IfOk, sym, ◌∙◌, ap, subst}
use mathlib.Core.Path.{fun_ext}
use Rattle.ob_base.specs.declared.params.Params.{Params}
use Rattle.ob_base.specs.declared.fault.Fault.{Fault}
use Rattle.ob_store.specs.Calls.{Keeps}
use Rattle.ob_store.specs.Disk.{Disk, Image}
use Rattle.ob_store.specs.Images.{Passes, Same}
use Rattle.ob_store.specs.Lines.{Trace}
use Rattle.ob_store.specs.Told.{Tells}
use Rattle.ob_seal.specs.declared.keys.Keys.{Keys}
use Rattle.ob_seal.specs.Sealing.{Sealing}
use Rattle.ob_twin.specs.Keyed.{tagging}
use Rattle.ob_twin.specs.Register.{StandsAt}
use Rattle.ob_recover.specs.declared.found.Found.{Found}
use Rattle.ob_tables.specs.Content.{content_of}
use Rattle.ob_recover.specs.Finds.{IsFoundInRing, finding_notes}
use Rattle.ob_recover.specs.Known.{public_of_kept}
use Rattle.ob_recover.proofs.Telling.{openings_are_told}
use Rattle.ob_start.specs.Registers.{HaveOpen}
use Rattle.ob_start.proofs.Early.{AreRead}
use Rattle.ob_recover.proofs.ShownOpening.{openings_are_scheduled}
use Rattle.ob_twin.specs.declared.gates.Gates.{Gates}
use Rattle.ob_opening.specs.declared.opening.Opening.{Opening}
use Rattle.ob_opening.specs.OpeningParts.{FoundDoes, FoundRefused}
use Rattle.ob_opening.specs.OpeningRuns.{BeginsAt, FollowsSchedule, IsAtStart, IsRingOpened, OpeningLeaves, RepeatsBehind, StartsTape, begun_notes, next_notes}
use Rattle.ob_opening.specs.Openings.{IsOpeningOf, IsToldOpening}
use Rattle.ob_opening.proofs.OpenedLaws.{begins_behind, finding_read, opens_behind, register_same, repeats_behind}
use Rattle.ob_recover.proofs.FindLaws.{reads_both}

-- the reads came before
module _ {S : Type 0} (disk : S → Disk) (keys : Keys) (p : Params) (old mid new : S) (keeps : Keeps (disk old) (disk mid)) (passes : Passes Same (disk old) (disk mid)) where
  pub all_leaves : {L : Type 0} (r : Result (Opening L) Fault) → AreRead (disk old).seen (disk mid).seen → OpeningLeaves disk keys p mid new r → OpeningLeaves disk keys p old new r
  all_leaves (Ok o) read leaves = opens_behind disk keys p old mid new read passes keeps leaves
  all_leaves (Err f) read leaves = ⊎_elim (λ still. inl (reads_both (disk old) (disk mid) (disk new) passes still)) (λ opens. inr (opens_behind disk keys p old mid new read passes keeps opens)) leaves

  module _ (most : ℕ) (found : Found) (before between after : Trace) (reads : Tells (finding_notes p found.epoch) (finding_notes p found.epoch) (disk old).seen (disk mid).seen before between)
      (is : (disk old).tells → IsFoundInRing keys p (disk old).cells found) where
    told_before : {L : Type 0} (o : Opening L) → (disk old).tells → IsToldOpening keys p (disk mid).cells (disk new) found o → IsToldOpening keys p (disk old).cells (disk new) found o
    told_before o tells told = subst (λ (image : Image). IsToldOpening keys p image (disk new) found o) (fun_ext (λ k. keeps.cells tells k)) told

    behind : BeginsAt disk keys (next_notes found) found.generation mid new → BeginsAt disk keys (begun_notes p found) found.generation old new
    behind begins = begins_behind disk keys p (finding_notes p found.epoch) (next_notes found) found.generation old mid new keeps passes reads.seen (finding_read p found.epoch (disk old).seen (disk mid).seen reads.seen) begins

    whole : RepeatsBehind {T = Unit {0}} (next_notes found) most p found (disk mid).seen (disk new).seen between after (Ok tt) → RepeatsBehind {T = Unit {0}} (begun_notes p found) most p found (disk old).seen (disk new).seen before after (Ok tt)
    whole does = repeats_behind most p found (finding_notes p found.epoch) (next_notes found) (disk old).seen (disk mid).seen (disk new).seen before between after reads {T = Unit {0}} (Ok tt) does

    follows : {L : Type 0} (o : Opening L) → 1 ≤ most → IsOpeningOf keys p found o → HaveOpen found.gates → RepeatsBehind {T = Unit {0}} (begun_notes p found) most p found (disk old).seen (disk new).seen before after (Ok tt)
        → FollowsSchedule most p found o.gates (disk old).seen (disk new).seen before after
    follows o some opening gates does =
        let c = content_of found.tables in
        let fit = opening.obeys.records in
        record {
          found_open = gates;
          told = λ shown known. openings_are_told most p c found.records found.epoch found.generation found.gates shown known (disk old).seen does.seen (disk new).seen before does.shown after some opening.obeys.content fit gates.0 does.begun does.repeats;
          leads = λ shown known. (openings_are_scheduled p c found.records found.epoch found.generation found.gates shown known opening.obeys.content fit gates.0).behind
              ∙ ap (λ (known' : Gates). public_of_kept p c found.records found.epoch known') (sym opening.gates);
        }

    pub all_opened : {L : Type 0} (r : Result (Opening L) Fault) → 1 ≤ most → IfOk r (IsOpeningOf keys p found) → IfOk r (λ o. (o.crew).lanes ≡ most)
        → ((disk mid).tells → IfOk r (IsToldOpening keys p (disk mid).cells (disk new) found))
        → ((disk mid).tells → StandsAt (tagging keys) 1 (disk mid).cells found.generation → OnOk r (StandsAt (tagging keys) 1 (disk new).cells (suc found.generation)))
        → OnOk r (BeginsAt disk keys (next_notes found) found.generation mid new) → FoundDoes most p found (disk mid).seen (disk new).seen between after r → HaveOpen found.gates
        → IfOk r (IsRingOpened disk keys most p old new before after)
    all_opened (Ok o) some opening lanes told stood begins does gates = record {
      found = found;
      is = opening;
      lanes = lanes;
      told = λ tells. told_before o tells (told (keeps.tells tells));
      stood = λ tells stands. stood (keeps.tells tells) (register_same keys found.generation (disk old).cells (disk mid).cells (keeps.cells tells) stands);
      begins = behind begins;
      does = whole does;
      follows = follows o some opening gates (whole does);
    }
    all_opened (Err f) some opening lanes told stood begins does gates = tt

    pub all_tapes : {T L : Type 0} (present : ℕ) (drawn : List ℕ) (tape new_tape : T) (r : Result (Opening L) Fault)
        → IfErr r (FoundRefused disk keys most p found mid new tape new_tape present drawn between after)
        → OnErr r ((new_tape ≡ tape) ⊎ StartsTape disk keys p old new present drawn)
    all_tapes present drawn tape new_tape (Ok o) either = tt
    all_tapes present drawn tape new_tape (Err f) either = ⊎_elim (λ same. inl same.0) (λ begun. inr (record { found = found; found_in = is; begins = behind begun.begins; tape = begun.tape })) either

-- the tape of an opening
pub tape_of : {L : Type 0} (keys : Keys) (p : Params) (found : Found) (present : ℕ) (drawn : List ℕ) (r : Result (Opening L) Fault) → IfOk r (IsOpeningOf keys p found) → OnOk r (IsAtStart present drawn (suc found.generation))
    → IfOk r (λ o. IsAtStart present drawn (o.sealer).generation)
tape_of keys p found present drawn (Ok o) opening start = subst (λ n. IsAtStart present drawn n) (sym (ap (λ (s : Sealing). s.generation) opening.sealer)) start
tape_of keys p found present drawn (Err f) opening start = tt
