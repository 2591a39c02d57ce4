-- How the head's read and the opening join.
use Rattle.std.specs.Prelude.{true, false}
use Rattle.std.proofs.Common.{◌≡◌, ◌⊎◌, ◌∙◌, ◌≤◌, ℕ, List, [], ◌∷◌, length, Option, Some, Result, Ok, Err, refl, sym, ap, subst, inl, inr, arith}
use mathlib.Core.Path.{fun_ext}
use Rattle.ob_base.specs.Causes.{Rose}
use Rattle.ob_base.specs.declared.fault.Fault.{Fault}
use Rattle.ob_base.specs.declared.fault.Fault.TheVariants as fault
use Rattle.ob_base.specs.declared.params.Params.{Params}
use Rattle.ob_io.specs.Streams.{Flow}
use Rattle.ob_pads.specs.Lives.{IsFormattedStore}
use Rattle.ob_vault.proofs.Formatting.{ring_formats}
use Rattle.ob_vault.proofs.Opening.{goes_on, opened_notes, opens_or_not, ring_leaves_standing, ring_opens, ring_opens_at}
use Rattle.ob_vault.proofs.Refusing.{ring_refuses}
use Rattle.ob_vault.specs.RingLaws.{ReadsHead, found_ring}
use Rattle.ob_vault.specs.RingKind.{ring_kind}
use Rattle.ob_recover.specs.Life.{LifeAct, LifeState, WordId}
use Rattle.ob_vault.proofs.Stopping.{stops_in_life}
use Rattle.ob_vault.specs.Lives.{RingFormatted}
use Rattle.ob_vault.specs.RingLives.{ring_lives}
use Rattle.ob_vault.specs.Stages.{HowFar}
use Rattle.ob_top.specs.Audited.{ring_audits}
use Rattle.ob_script.specs.Script.{Scripts}
use Rattle.ob_seal.specs.declared.keys.Keys.{Keys}
use Rattle.ob_stand.specs.Stands as stand
use Rattle.ob_stand.specs.Stands.{RingStanding}
use Rattle.ob_start.specs.Heads.{IsHead}
use Rattle.ob_store.proofs.Serving.{rose_later}
use Rattle.ob_store.proofs.Showing.{shows_then}
use Rattle.ob_store.specs.declared.event.Event.{Event}
use Rattle.ob_store.specs.declared.watch.Note.{Note}
use Rattle.ob_schedule.specs.Schedule.{format_notes}
use Rattle.ob_store.specs.Told.{events_of}
use Rattle.ob_store.specs.Calls.{IsStoreFault, Notes, NotesFirst}
use Rattle.ob_store.specs.Disk.{Disk, Image}
use Rattle.ob_store.specs.Images.{IsSynced, Passes, Same}
use Rattle.ob_store.specs.Lines.{Shows, Trace}
use Rattle.ob_store.specs.Told.{TellsFirst}
use Rattle.ob_store.specs.declared.watch.Note.TheVariants as note
use Rattle.ob_shares.specs.declared.shares.Shares.{Shares}
use Rattle.ob_conduct.specs.declared.run_err.RunErr.{RunErr}
use Rattle.ob_conduct.specs.declared.run_err.RunErr.TheVariants as failed
use Rattle.ob_top.specs.Outside.{Given, IsWatched, words_given}
use Rattle.ob_opening.proofs.PlanLaws.{opened_plans}
use Rattle.ob_opening.specs.OpeningActs.{AreGatesIn, IsLeftAt, OpensInLife}
use Rattle.ob_opening.specs.OpeningStops.{OpeningStops}
use Rattle.ob_recover.specs.Known.{format_gates}
use Rattle.ob_opening.specs.Formats.{FormatsInClear, HasClosedLogs, IsFormatFault, format_words, formatted_standing}
use Rattle.ob_opening.specs.OpeningRuns.{BeginsFirst, IsAtStart, IsRingOpened, OpeningLeaves, OpensFrom, OpensPart, ReadsFirst, RefusedDoes, RefusedWrites, begun_notes}
use Rattle.ob_recover.specs.Finds.{finding_notes}
use Rattle.ob_recover.specs.declared.found.Found.{Found}
use Rattle.ob_start.specs.Orders.{registers_notes}
use Rattle.ob_opening.specs.Openings.{IsOpenFault, IsOpenRefusal, IsStandingRefusal, OpensWhatStood}
use Rattle.ob_opening.specs.declared.opening.Opening.{Opening}
use Rattle.ob_top.proofs.Running.{IsQuiet}
use Rattle.ob_top.specs.Begun.{EndsAtHead, IsRunBegun, RunsOnBegun, MayServe}
use Rattle.ob_top.specs.Formats.{FormatEnds, IsFormatted}
use Rattle.ob_top.specs.Runs.{BreaksAtHead, BreaksAtOpening, EndsEarly}
use Rattle.ob_top.specs.Parts.{CameIn, SharesFit, head_cells}

-- the watch was found broken
pub broke_early : (head_is : List ℕ) {S : Type 0} (disk : S → Disk) (first last : S) (keys : Keys) (most : ℕ) (shares : Shares) (old new : Disk) (t u : Trace) (before after : Flow) (err : RunErr) → IsWatched u (Some err)
    → (u.broken ≡ true → BreaksAtHead ring_kind ring_lives ring_audits head_is keys most shares old new t u before after ⊎ BreaksAtOpening ring_kind ring_lives ring_audits head_is keys most shares old new t u disk first last before) → EndsEarly ring_kind ring_lives ring_audits head_is keys most shares old new t u disk first last before after err
broke_early head_is disk first last keys most shares old new t u before after (failed.Fault refused) is so = absurd is
broke_early head_is disk first last keys most shares old new t u before after failed.Unwatched is so = so is

-- so it was behind the head's read
pub broke_at_head : (keys : Keys) (most : ℕ) (shares : Shares) (old new : Disk) (t u : Trace) (before after : Flow) (err : RunErr) → IsWatched u (Some err) → (u.broken ≡ true → BreaksAtHead ring_kind ring_lives ring_audits head_cells keys most shares old new t u before after)
    → EndsAtHead keys most shares old new t u before after err
broke_at_head keys most shares old new t u before after (failed.Fault refused) is so = absurd is
broke_at_head keys most shares old new t u before after failed.Unwatched is so = so is

-- a run that ends at its head ends early
pub early_at_head : {S : Type 0} (disk : S → Disk) (first last : S) (keys : Keys) (most : ℕ) (shares : Shares) (old new : Disk) (t u : Trace) (before after : Flow) (err : RunErr) → EndsAtHead keys most shares old new t u before after err
    → EndsEarly ring_kind ring_lives ring_audits head_cells keys most shares old new t u disk first last before after err
early_at_head disk first last keys most shares old new t u before after (failed.Fault refused) ends = inl ends
early_at_head disk first last keys most shares old new t u before after failed.Unwatched ends = inl ends

-- as far as a refused opening came
pub how_far : {S : Type 0} (disk : S → Disk) (keys : Keys) (p : Params) (old new : S) → Passes Same (disk old) (disk new) ⊎ OpensFrom disk keys p old new → HowFar disk keys p old new
how_far disk keys p old new (inl still) = inl still
how_far disk keys p old new (inr opens) = inr (inl opens)

-- a refused opening has shown some notes
abbrev pub SomeShown : Trace → Trace → Type 0
SomeShown before after = (notes : List Note) × Shows notes before after

reads_shown : (keys : Keys) (p : Params) (old new : Disk) (before after : Trace) → ReadsFirst keys p old new before after → SomeShown before after
reads_shown keys p old new before after (inl first) = (first.shown, first.tells.shows)
reads_shown keys p old new before after (inr found) = (found.told.shown, found.told.tells.shows)

begins_shown : (steps : List Note) (most : ℕ) (p : Params) (found : Found) (old new : Option (List Event)) (before after : Trace) (refused : Fault) → BeginsFirst steps most p found old new before after refused → SomeShown before after
begins_shown steps most p found old new before after refused (inl first) = (first.shown, first.tells.shows)
begins_shown steps most p found old new before after refused (inr r) = (_, shows_then _ _ before r.shown after r.begun.shows r.repeats.told.shows)

part_shown : (keys : Keys) (most : ℕ) (p : Params) (old new : Disk) (before after : Trace) (refused : Fault) → ReadsFirst keys p old new before after ⊎ OpensPart keys most p old new before after refused → SomeShown before after
part_shown keys most p old new before after refused (inl first) = reads_shown keys p old new before after first
part_shown keys most p old new before after refused (inr part) = begins_shown (begun_notes p part.found) most p part.found old.seen new.seen before after refused part.told

pub refused_shown : (keys : Keys) (most : ℕ) (p : Params) (old new : Disk) (before after : Trace) (refused : Fault) → RefusedDoes keys most p old new before after refused → SomeShown before after
refused_shown keys most p old new before after fault.NotStore does = (registers_notes, does.shows)
refused_shown keys most p old new before after (fault.Worn number) does = (finding_notes p does.found.epoch, does.told.shows)
refused_shown keys most p old new before after fault.Memory does = reads_shown keys p old new before after does
refused_shown keys most p old new before after fault.Usage does = part_shown keys most p old new before after fault.Usage does
refused_shown keys most p old new before after (fault.BadScript line) does = part_shown keys most p old new before after (fault.BadScript line) does
refused_shown keys most p old new before after (fault.BadParams field) does = part_shown keys most p old new before after (fault.BadParams field) does
refused_shown keys most p old new before after (fault.Damaged cell check kept computed) does = part_shown keys most p old new before after (fault.Damaged cell check kept computed) does
refused_shown keys most p old new before after (fault.StoreFault unsure) does = part_shown keys most p old new before after (fault.StoreFault unsure) does
refused_shown keys most p old new before after (fault.StashFull rows) does = part_shown keys most p old new before after (fault.StashFull rows) does
refused_shown keys most p old new before after fault.SourceFault does = part_shown keys most p old new before after fault.SourceFault does
refused_shown keys most p old new before after fault.SinkFault does = part_shown keys most p old new before after fault.SinkFault does

pub ring_quiet : IsQuiet ring_kind
ring_quiet = record { head = λ is. is; opening = λ is. is }

module _ {S : Type 0} (disk : S → Disk) (keys : Keys) (most : ℕ) (some : 1 ≤ most) (p : Params) (script : Scripts) (before : Flow) (old mid new : S) (head : (disk old).tells → IsHead keys 1 p ((disk old).cells 0)) (read : ReadsHead (disk old) (disk mid)) (came : CameIn p.keys before script) where
  -- the store was opened
  pub begun : {L : Type 0} (first shown later : Trace) (o : Opening L) (is : IsRingOpened disk keys most p mid new shown later o) → ((disk mid).tells → (disk new).tells)
      → ((s : RingStanding) → (disk mid).tells → stand.Stands keys p s (disk mid).cells → OpensWhatStood keys p s (disk new) (Ok o)) → Shows (note.Read 0 ∷ []) first shown → shown.broken ≡ false → IsRunBegun head_cells keys most p script (disk old) (disk new) first later before (found_ring is.found o)
  begun {L} first shown later o is told stands head_shown whole =
      let so = ring_opens L disk keys most p old mid new shown later o some read is in
      record {
        start = (is.found).gates;
        opened = record { head = head; came = came; finds = so.finds; starts = so.starts };
        seen = so.seen;
        shown = record { between = shown; head = head_shown; whole = whole; behind = subst (λ (l : List Note). Shows l shown later) (opened_notes keys p (disk old) (disk mid) (disk new) is.found o is.is) ((is.follows).told [] (is.found).gates).shows };
        stood = λ at tells here. ring_opens_at L disk keys p old mid new is.found o read tells (told (read.keeps.tells tells)) (is.told (read.keeps.tells tells)).found_in stands at here;
      }

  -- it was refused
  pub unopened : {T L : Type 0} (shares : Shares) (fits : SharesFit p script shares) (o : Result (Opening L) Fault) (tape_old tape_new : T) (present : ℕ) (drawn : List ℕ) (first shown later : Trace) (refused : Fault) (after : Flow) → Shows (note.Read 0 ∷ []) first shown → shown.broken ≡ false →
      ((c : Image) → (disk old).left_since (disk old).moment c → (disk old).may_leave c)
      → (disk old).faults ≤ (disk mid).faults → IsOpenFault refused → (IsStoreFault refused → Rose (disk mid).faults (disk new).faults) → RefusedDoes keys most p (disk mid) (disk new) shown later refused → OpeningStops keys most p (disk mid) (disk new) shown later refused
      → ((disk mid).tells → IsOpenRefusal keys p (disk mid).cells refused) → ((s : RingStanding) → (disk mid).tells → stand.Stands keys p s (disk mid).cells → IsStandingRefusal s refused)
      → RefusedWrites disk keys p mid new tape_old tape_new present drawn refused → OpeningLeaves {L = L} disk keys p mid new (Err refused)
      → ((word_of : WordId → ℕ) (s : LifeState) (pending : Option LifeAct) → (disk mid).tells → IsLeftAt keys p word_of s pending (disk mid).cells → OpensInLife keys most p word_of s pending (disk mid) (disk new) shown later false) → EndsEarly ring_kind ring_lives ring_audits head_cells keys most shares (disk old)
      (disk new) first later disk old new before after (failed.Fault refused)
  unopened {T} {L} shares fits o tape_old tape_new present drawn first shown later refused after head_shown whole only further kind cause does stops refusal stood writes leaves acts =
      let so = ring_refuses T disk keys most p old mid new tape_old tape_new present drawn shown later refused some read kind does refusal stood writes in
      let either = opens_or_not disk keys p old mid new read leaves in
      inr (inr (record {
        p = p;
        head = head;
        script = script;
        came = came;
        fits = fits;
        kind = kind;
        read = so.refuses;
        cause = λ is. rose_later (disk old).faults (disk mid).faults (disk new).faults further (cause is);
        seen = so.seen;
        shown = record { mid = mid; later = shown; read = read.seen; keeps = read.keeps; head = head_shown; does = does };
        stops = record { read = mid; between = shown; keeps = read.keeps; passes = read.passes; head = head_shown; seen = read.seen; stops = stops; far = how_far disk keys p mid new leaves };
        behind_head = let (notes, behind) = refused_shown keys most p (disk mid) (disk new) shown later refused does in (notes, record { between = shown; head = head_shown; whole = whole; behind = behind });
        unwritten = so.unwritten;
        left = λ at tells stands all. ring_leaves_standing disk keys p old new only tells all either at stands;
        opens = either;
        stops_life = λ tells word_of s pending here each. stops_in_life keys most p (disk old) (disk mid) (disk new) shown later false read word_of s pending (λ at. acts word_of s pending (read.keeps.tells tells) at) tells here each;
      }))

-- a run goes on from what an opening found
pub may_go_on : {S L : Type 0} (disk : S → Disk) (keys : Keys) (most : ℕ) (p : Params) (old new : S) (before later : Trace) (o : Opening L) (is : IsRingOpened disk keys most p old new before later o) → RunsOnBegun keys p o (found_ring is.found o)
may_go_on disk keys most p old new before later o is = record {
  run = refl;
  found = is.found;
  goes_on = goes_on keys p (disk old) (disk old) (disk new) is.found o is.is;
  planned = opened_plans disk keys most p old new before later o is;
}

-- a vault may be made of an opening
pub may_serve : {S L : Type 0} (disk : S → Disk) (keys : Keys) (most : ℕ) (p : Params) (mid new : S) (shown later : Trace) (present : ℕ) (drawn : List ℕ) (o : Opening L) (is : IsRingOpened disk keys most p mid new shown later o) → ((disk new).tells → (disk mid).tells)
    → IsAtStart present drawn (o.sealer).generation → MayServe most p (disk new) present drawn o
may_serve disk keys most p mid new shown later present drawn o is before tape = record {
  params = (is.is).params;
  planner = ((is.is).planner).params ∙ sym (is.is).params;
  few = subst (λ (q : Params). o.left ≤ q.batches) (sym (is.is).params) (omega (arith, (is.is).left));
  fit = (is.is).fit;
  present_is = tape.present_is;
  none_drawn = ap (λ (l : List ℕ). length l) tape.none_drawn;
  lanes = is.lanes;
  gates = λ tells. (is.told (before tells)).epoch_gates;
}

-- ---- a format

-- an empty store was made, and a life of it begins
pub formatted : {S : Type 0} (disk : S → Disk) (keys : Keys) (p : Params) (present : ℕ) (drawn : List ℕ) (old new : S) → Notes (events_of (format_notes p)) (disk old).seen (disk new).seen → ((disk old).tells → stand.Stands keys p (formatted_standing p drawn) (disk new).cells)
    → ((disk old).tells → (c : Image) → (disk new).may_leave c → stand.Stands keys p (formatted_standing p drawn) c) → ((disk old).tells → IsSynced (disk new)) → ((disk old).tells → HasClosedLogs p (disk new).cells) → ((disk old).tells → (disk old).leaves → IsFormattedStore disk keys new)
    → (present ≡ 1) × (length drawn ≡ format_words p) → ((disk old).tells → RingFormatted keys p drawn (disk new)) → ((disk old).tells → AreGatesIn format_gates (disk new).cells) → ((disk old).tells → (disk new).tells)
    → ((disk new).tells → FormatsInClear {T = Unit {0}} {E = Fault} keys p (disk new).seen (disk old).cells (disk new).cells (Ok tt)) → IsFormatted ring_kind ring_lives ring_audits disk (words_given present drawn) keys p old new
formatted disk keys p present drawn old new seen stands images durable closed begins draws life gates tells clear = record {
  made = (ring_formats disk).made keys p drawn old new seen stands images durable closed;
  tells = tells;
  draws = record { first = draws.0; many = draws.1 };
  begins = begins;
  clear = clear;
  begins_life = life;
  gates = λ told c left. subst (λ (image : Image). AreGatesIn format_gates image) (sym (fun_ext (λ k. durable told c left k))) (gates told);
}

-- the watch was found broken behind one
pub format_broke : {S : Type 0} (disk : S → Disk) (tape : Given) (keys : Keys) (p : Params) (old new : S) (t u : Trace) (before : Flow) (err : RunErr) → IsWatched u (Some err) → IsFormatted ring_kind ring_lives ring_audits disk tape keys p old new → Shows (format_notes p) t u
    → FormatEnds ring_kind ring_lives ring_audits disk tape keys p old new before before t u (Some err)
format_broke disk tape keys p old new t u before (failed.Fault refused) is made shown = absurd is
format_broke disk tape keys p old new t u before failed.Unwatched is made shown = (made, refl, (shown, is))

-- one that was refused
pub format_refused : {S : Type 0} (disk : S → Disk) (tape : Given) (keys : Keys) (p : Params) (old new : S) (t u : Trace) (before : Flow) (refused : Fault) → IsFormatFault refused → (IsStoreFault refused → Rose (disk old).faults (disk new).faults) → (refused ≡ fault.Memory → (new ≡ old) × (u ≡ t))
    → NotesFirst (events_of (format_notes p)) (disk old).seen (disk new).seen → TellsFirst (format_notes p) (disk old).seen (disk new).seen t u
    → ((disk new).tells → FormatsInClear {T = Unit {0}} keys p (disk new).seen (disk old).cells (disk new).cells (Err refused)) → FormatEnds ring_kind ring_lives ring_audits disk tape keys p old new before before t u (Some (failed.Fault refused))
format_refused disk tape keys p old new t u before (fault.StoreFault unsure) is cause same seen first clear = (is, cause tt, seen, refl, first, clear)
format_refused disk tape keys p old new t u before fault.Memory is cause same seen first clear = (refl, (same refl).0, refl, (same refl).1)
format_refused disk tape keys p old new t u before fault.Usage is cause same seen first clear = absurd is
format_refused disk tape keys p old new t u before (fault.BadScript line) is cause same seen first clear = absurd is
format_refused disk tape keys p old new t u before (fault.BadParams field) is cause same seen first clear = absurd is
format_refused disk tape keys p old new t u before fault.NotStore is cause same seen first clear = absurd is
format_refused disk tape keys p old new t u before (fault.Damaged cell check kept computed) is cause same seen first clear = absurd is
format_refused disk tape keys p old new t u before (fault.StashFull rows) is cause same seen first clear = absurd is
format_refused disk tape keys p old new t u before (fault.Worn number) is cause same seen first clear = absurd is
format_refused disk tape keys p old new t u before fault.SourceFault is cause same seen first clear = absurd is
format_refused disk tape keys p old new t u before fault.SinkFault is cause same seen first clear = absurd is
