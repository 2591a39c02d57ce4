-- An opening of a ring store that was refused, in the words of its kind of store.
use Rattle.std.proofs.Common.{◌≡◌, ◌∙◌, ◌⊎◌, ◌≤◌, ℕ, List, [], ◌∷◌, length, map, take, Option, refl, sym, ap, subst, inl, inr, arith}
use Rattle.ob_base.specs.declared.fault.Fault.{Fault}
use Rattle.ob_base.specs.declared.fault.Fault.TheVariants as fault
use Rattle.ob_base.specs.declared.params.Params.{Params}
use Rattle.ob_tables.specs.Content.{content_of}
use Rattle.ob_stand.specs.Table.{flat_of}
use Rattle.ob_recover.specs.Finds.{IsFoundInRing, finding_notes}
use Rattle.ob_recover.specs.Repeats.{repeat_cells}
use Rattle.ob_recover.proofs.Dealing.{has_some, made_join, made_steps}
use Rattle.ob_recover.proofs.Telling.{turns_made}
use Rattle.ob_recover.specs.ShownOpenings.{began_notes, opened_phases}
use Rattle.ob_recover.specs.Telling.{ArePhasesMade}
use Rattle.ob_schedule.specs.Phases.{Phase, Reads, phases_of}
use Rattle.ob_seal.specs.declared.keys.Keys.{Keys}
use Rattle.ob_stand.specs.Stands.{Stands}
use Rattle.ob_start.specs.Orders.{registers_notes}
use Rattle.ob_start.specs.Registers as start
use Rattle.ob_store.proofs.Doing.{first_noted}
use Rattle.ob_store.proofs.Events.{joined_first}
use Rattle.ob_store.proofs.Moments.{passed_then}
use Rattle.ob_store.specs.Calls.{Keeps, Notes, NotesFirst}
use Rattle.ob_store.specs.Disk.{Disk, Image}
use Rattle.ob_store.specs.Images.{Passes, Same}
use Rattle.ob_store.specs.Lines.{Trace}
use Rattle.ob_store.specs.Told.{events_of}
use Rattle.ob_store.specs.declared.event.Event.{Event}
use Rattle.ob_store.specs.declared.event.Event.TheVariants as event
use Rattle.ob_store.specs.declared.watch.Note.{Note}
use Rattle.ob_store.specs.declared.watch.Note.TheVariants as note
use Rattle.ob_opening.specs.OpeningRuns as vault
use Rattle.ob_opening.specs.OpeningRuns.{BeginsFirst, IsReadAlone, OpensPart, RefusedDoes, RefusedWrites}
use Rattle.ob_opening.specs.Openings.{IsOpenFault, IsOpenRefusal}
use Rattle.ob_vault.specs.RingLaws.{RingRefuses}
use Rattle.ob_vault.specs.Seen.{OpensInPart, ReadsFirst, RingMayBegin, RingOpensPartly}

-- ---- what was shown

module _ (keys : Keys) (most : ℕ) (some : 1 ≤ most) (p : Params) (old mid new : Disk) (before after : Trace) (keeps : Keeps old mid) (head : Notes (event.Read 0 ∷ []) old.seen mid.seen) where
  behind_head : (row : List Event) → NotesFirst row mid.seen new.seen → NotesFirst (event.Read 0 ∷ row) old.seen new.seen
  behind_head row first = joined_first (event.Read 0 ∷ []) row old.seen mid.seen new.seen head first

  by_registers : NotesFirst (events_of registers_notes) mid.seen new.seen → ReadsFirst keys p old new
  by_registers first = inl (behind_head (events_of registers_notes) first)

  -- the head's read leaves the registers
  have_still : (generation epoch : ℕ) → (mid.tells → start.Found keys mid.cells generation epoch) → old.tells → start.Found keys old.cells generation epoch
  have_still generation epoch have tells = subst (λ (i : Image). start.Found keys i generation epoch) (λ i k. keeps.cells tells k i) (have (keeps.tells tells))

  by_reads : vault.ReadsFirst keys p mid new before after → ReadsFirst keys p old new
  by_reads (inl registers) = by_registers (first_noted registers_notes mid.seen new.seen before after registers)
  by_reads (inr part) = inr (record {
    generation = part.generation;
    epoch = part.epoch;
    registers = have_still part.generation part.epoch part.registers;
    seen = behind_head (events_of (finding_notes p part.epoch)) (first_noted (finding_notes p part.epoch) mid.seen new.seen before after part.told);
  })

  all_first : (row : List Event) (a b : Option (List Event)) → Notes row a b → NotesFirst row a b
  all_first row a b noted = (length row, omega arith, subst (λ (l : List Event). Notes l a b) (sym (take_all row)) noted)
    where
      take_all : (xs : List Event) → take (length xs) xs ≡ xs
      take_all [] = refl
      take_all (x ∷ xs) = ap (λ (l : List Event). x ∷ l) (take_all xs)

  module _ (refused : Fault) where
    by_part : (part : OpensPart keys most p mid new before after refused) → BeginsFirst (began_notes p (part.found).epoch (part.found).gates (part.found).generation) most p part.found mid.seen new.seen before after refused → OpensInPart keys most p old new
    by_part part told = record {
      found = part.found;
      found_in = λ tells. subst (λ (i : Image). IsFoundInRing keys p i part.found) (λ i k. keeps.cells tells k i) (part.found_in (keeps.tells tells));
      seen = by_told told;
    }
      where
        row : List Note
        row = began_notes p (part.found).epoch (part.found).gates (part.found).generation

        -- the batches of the first records
        repeats : ℕ → List (List ℕ)
        repeats count = repeat_cells p (content_of (part.found).tables).versions (flat_of p (content_of (part.found).tables)) (take count (part.found).records)

        whole : ℕ → List Phase
        whole count = opened_phases p (content_of (part.found).tables) (take count (part.found).records) (part.found).epoch (part.found).gates (part.found).generation

        by_told : BeginsFirst row most p part.found mid.seen new.seen before after refused
            → NotesFirst (event.Read 0 ∷ events_of row) old.seen new.seen
            ⊎ ((count : ℕ) × (count ≤ length (part.found).records) × ArePhasesMade most (Reads (0 ∷ []) ∷ whole count) old.seen new.seen)
        by_told (inl first) = inl (behind_head (events_of row) (first_noted row mid.seen new.seen before after first))
        by_told (inr r) =
            let count = (r.repeats).count in
            inr (
              count,
              (r.repeats).few,
              made_join most (Reads (0 ∷ []) ∷ []) (whole count) old.seen mid.seen new.seen (made_steps most (note.Read 0 ∷ []) old.seen mid.seen (some, tt) head)
                  (made_join most (phases_of row) (map (λ cells. Reads cells) (repeats count)) mid.seen r.seen new.seen
                  (made_steps most row mid.seen r.seen (has_some most some row) (r.begun).seen)
                  (turns_made most (repeats count) r.seen new.seen ((r.repeats).told).seen)),
            )

    either : vault.ReadsFirst keys p mid new before after ⊎ OpensPart keys most p mid new before after refused → ReadsFirst keys p old new ⊎ OpensInPart keys most p old new
    either (inl reads) = inl (by_reads reads)
    either (inr part) = inr (by_part part part.told)

  pub partly : (refused : Fault) → IsOpenFault refused → RefusedDoes keys most p mid new before after refused → RingOpensPartly keys most p old new refused
  partly (fault.StoreFault unsure) is does = either (fault.StoreFault unsure) does
  partly (fault.Damaged cell check kept computed) is does = either (fault.Damaged cell check kept computed) does
  partly fault.NotStore is does = by_registers (all_first (events_of registers_notes) mid.seen new.seen does.seen)
  partly fault.Memory is does = by_reads does
  partly (fault.Worn number) is does = inr (record {
    generation = (does.found).generation;
    epoch = (does.found).epoch;
    registers = have_still (does.found).generation (does.found).epoch (λ tells. (does.found_in tells).registers);
    seen = behind_head (events_of (finding_notes p (does.found).epoch)) (all_first (events_of (finding_notes p (does.found).epoch)) mid.seen new.seen (does.told).seen);
  })
  partly fault.Usage is does = absurd is
  partly (fault.BadScript line) is does = absurd is
  partly (fault.BadParams field) is does = absurd is
  partly (fault.StashFull rows) is does = absurd is
  partly fault.SourceFault is does = absurd is
  partly fault.SinkFault is does = absurd is

  -- ---- what was written

  -- unless the next generation may have begun, nothing was
  nothing : Passes Same old mid → Keeps mid new × Passes Same mid new → Keeps old new × Passes Same old new
  nothing passes (kept, same) = (
    record { tells = λ t. kept.tells (keeps.tells t); cells = λ t k. kept.cells (keeps.tells t) k ∙ keeps.cells t k },
    passed_then Same old mid new (λ c d e one run. one ∙ run) passes same,
  )

-- nothing was written, unless the next generation may have begun
read_alone : {S T : Type 0} (disk : S → Disk) (keys : Keys) (p : Params) (mid new : S) (tape_old tape_new : T) (present : ℕ) (drawn : List ℕ) (refused : Fault) → IsOpenFault refused
    → RefusedWrites disk keys p mid new tape_old tape_new present drawn refused → (RingMayBegin refused → ⊥) → IsReadAlone disk mid new tape_old tape_new
read_alone disk keys p mid new tape_old tape_new present drawn (fault.StoreFault unsure) is alone not = absurd (not tt)
read_alone disk keys p mid new tape_old tape_new present drawn (fault.Damaged cell check kept computed) is alone not = absurd (not tt)
read_alone disk keys p mid new tape_old tape_new present drawn fault.NotStore is alone not = alone
read_alone disk keys p mid new tape_old tape_new present drawn fault.Memory is alone not = alone
read_alone disk keys p mid new tape_old tape_new present drawn (fault.Worn number) is alone not = alone
read_alone disk keys p mid new tape_old tape_new present drawn fault.Usage is alone not = absurd is
read_alone disk keys p mid new tape_old tape_new present drawn (fault.BadScript line) is alone not = absurd is
read_alone disk keys p mid new tape_old tape_new present drawn (fault.BadParams field) is alone not = absurd is
read_alone disk keys p mid new tape_old tape_new present drawn (fault.StashFull rows) is alone not = absurd is
read_alone disk keys p mid new tape_old tape_new present drawn fault.SourceFault is alone not = absurd is
read_alone disk keys p mid new tape_old tape_new present drawn fault.SinkFault is alone not = absurd is

pub ring_refuses : {S : Type 0} (T : Type 0) (disk : S → Disk) → RingRefuses T disk
ring_refuses T disk keys most p old mid new tape_old tape_new present drawn before after refused some head is does refusal stood writes = record {
  refuses = λ tells.
      let same : (disk mid).cells ≡ (disk old).cells = λ i k. head.keeps.cells tells k i in
      record {
        is = subst (λ (c : Image). IsOpenRefusal keys p c refused) same (refusal (head.keeps.tells tells));
        stood = λ s stands. stood s (head.keeps.tells tells) (subst (λ (c : Image). Stands keys p s c) (sym same) stands);
      };
  seen = partly keys most some p (disk old) (disk mid) (disk new) before after head.keeps head.seen refused is does;
  unwritten = λ not.
      let alone = read_alone disk keys p mid new tape_old tape_new present drawn refused is writes not in
      nothing keys most some p (disk old) (disk mid) (disk new) before after head.keeps head.seen head.passes (alone.keeps, alone.passes);
}
