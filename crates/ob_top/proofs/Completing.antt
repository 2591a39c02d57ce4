-- What can be done is done.
use Rattle.std.proofs.Common.{◌≡◌, ◌⊎◌, ◌≤◌, ◌+◌, ◌^◌, ℕ, Bool, true, false, not, List, [], ◌∷◌, length, take, Option, Some, None, refl, subst, inl, inr, arith, ◌∙◌, ⊎_elim, ap, sym}
use Rattle.std.specs.Borrow.{Bor}
use Rattle.ob_base.specs.declared.params.Params.{Params}
use Rattle.ob_base.specs.declared.fault.Fault.{Fault}
use Rattle.ob_base.specs.declared.fault.Fault.TheVariants as fault
use Rattle.ob_base.specs.Causes.{Rose}
use Rattle.ob_io.specs.Flows.{IsInput}
use Rattle.ob_report.specs.Faults.{status_of}
use Rattle.ob_seal.specs.declared.keys.Keys.{Keys}
use Rattle.ob_store.specs.Disk.{Disk}
use Rattle.ob_store.specs.Calls.{IsStoreFault}
use Rattle.ob_store.specs.Lines.{AddsOnly, BreaksOnly, Trace, lines_of, open_line, start_line}
use Rattle.ob_store.specs.declared.watch.Note.TheVariants as note
use Rattle.ob_store.proofs.Serving.{rose_later}
use Rattle.std.proofs.lemmas.Option.{same_Some}
use Rattle.ob_io.specs.Streams.{Flow}
use Rattle.ob_conduct.specs.declared.run_err.RunErr.{RunErr}
use Rattle.ob_conduct.specs.declared.run_err.RunErr.TheVariants as failed
use Rattle.ob_top.specs.Endings.{told_fault}
use Rattle.ob_top.specs.Top.{ByTrace}
use Rattle.ob_serial.specs.Serial.{EpochRecord}
use Rattle.ob_serial.specs.Vaults.{VaultCall}
use Rattle.ob_script.specs.Script.{Scripts, IsScript, IsFirstBad, limit}
use Rattle.ob_script.proofs.OneReading.{not_both}
use Rattle.ob_outcomes.proofs.Counting.{few_txns, few_epochs}
use Rattle.ob_base.specs.declared.fault.Field.{Field}
use Rattle.ob_base.specs.declared.fault.Field.TheVariants.{LANES}
use Rattle.ob_words.specs.Reading.{AskedShares, asked_by, format_asked, run_asked}
use Rattle.ob_words.specs.Work.{AreParams, IsBadNumber, AreLanes, AreBadLanes, AreShares, HasKeys, IsKeysRefused}
use Rattle.ob_top.specs.Outside.{ErrTold, Given, blind, HasTrace, Outside, IsOnlyTold, outside}
use Rattle.ob_top.specs.Formats.{FormatEnds, FormatDone}
use Rattle.ob_vault.specs.RingKind.{RingMayStop, ring_kind}
use Rattle.ob_vault.specs.RingLives.{ring_lives}
use Rattle.ob_top.specs.Audited.{ring_audits}
use Rattle.ob_vault.specs.Keeping.{AreStandingLaws}
use Rattle.ob_vault.specs.Kinds.{StoreKind}
use Rattle.ob_vault.specs.KindLives.{LifeWords}
use Rattle.ob_top.specs.Audited.{AuditWords}
use Rattle.ob_vault.specs.Shapes.{Shape, refused, shapes}
use Rattle.ob_conduct.specs.Acts.{calls}
use Rattle.ob_shares.specs.declared.shares.Shares.{Shares}
use Rattle.ob_desk.specs.Beats.{BeatKind}
use Rattle.ob_top.specs.Runs.{AreSharesRefused, IsInputRefused, EndsEarly, EndsFor, Ran, Went, RunDone}
use Rattle.ob_top.specs.Parts.{Manner, manner, CameIn, IsShareRefused}
use Rattle.ob_top.specs.Complete.{CanFormat, CanRun, DoesWhatItCan, StopsFull, TraceHolds}
use Rattle.ob_vault.proofs.Standing.{ring_keeps}
use Rattle.ob_top.proofs.Counted.{one_lanes, one_script}
use Rattle.ob_top.proofs.Opens.{none_refused}
use Rattle.ob_words.proofs.Named.{no_bad_number, no_bad_lanes, one_shares, one_keys, keys_stand}

-- ---- format

-- a watch that was whole and has broken: its sink's count rose
pub rose_added : (text : List ℕ) (t u : Trace) → AddsOnly text t u → t.broken ≡ false → u.broken ≡ true → Rose t.faults u.faults
rose_added text t u adds whole broken = subst (λ (b : Bool). BreaksOnly false b t.faults u.faults) broken (subst (λ (b : Bool). BreaksOnly b u.broken t.faults u.faults) whole adds.breaks)

format_fault : {S : Type 0} (disk : S → Disk) (tape : Given) (keys : Keys) (p : Params) (old new : S) (before written after : Flow) (t u : Trace) (f : Option RunErr) → FormatEnds ring_kind ring_lives ring_audits disk tape keys p old new before written t u f → ErrTold written after f
    → (Rose (disk old).faults (disk new).faults → ⊥) → (Rose before.faults after.faults → ⊥) → (t.broken ≡ false) → (Rose t.faults u.faults → ⊥) → (status_of (told_fault f) ≡ 0) ⊎ (status_of (told_fault f) ≡ 9)
format_fault disk tape keys p old new before written after t u None told line store output whole watch = inl refl
format_fault disk tape keys p old new before written after t u (Some failed.Unwatched) told line store output whole watch = absurd (watch (rose_added (lines_of (ring_kind.format_notes p)) t u told.2.0 whole told.2.1))
format_fault disk tape keys p old new before written after t u (Some (failed.Fault fault.SinkFault)) told line store output whole watch = absurd (output (subst (λ (o : Flow). Rose before.faults o.faults) (sym line) told.1))
format_fault disk tape keys p old new before written after t u (Some (failed.Fault (fault.StoreFault unsure))) told line store output whole watch = absurd (store told.1)
format_fault disk tape keys p old new before written after t u (Some (failed.Fault fault.Memory)) told line store output whole watch = inr refl
format_fault disk tape keys p old new before written after t u (Some (failed.Fault fault.Usage)) told line store output whole watch = inr (ap (λ (x : Fault). status_of (Some x)) told.0)
format_fault disk tape keys p old new before written after t u (Some (failed.Fault (fault.BadScript bad))) told line store output whole watch = inr (ap (λ (x : Fault). status_of (Some x)) told.0)
format_fault disk tape keys p old new before written after t u (Some (failed.Fault (fault.BadParams field))) told line store output whole watch = inr (ap (λ (x : Fault). status_of (Some x)) told.0)
format_fault disk tape keys p old new before written after t u (Some (failed.Fault fault.NotStore)) told line store output whole watch = inr (ap (λ (x : Fault). status_of (Some x)) told.0)
format_fault disk tape keys p old new before written after t u (Some (failed.Fault (fault.Damaged cell check kept computed))) told line store output whole watch = inr (ap (λ (x : Fault). status_of (Some x)) told.0)
format_fault disk tape keys p old new before written after t u (Some (failed.Fault (fault.StashFull rows))) told line store output whole watch = inr (ap (λ (x : Fault). status_of (Some x)) told.0)
format_fault disk tape keys p old new before written after t u (Some (failed.Fault (fault.Worn number))) told line store output whole watch = inr (ap (λ (x : Fault). status_of (Some x)) told.0)
format_fault disk tape keys p old new before written after t u (Some (failed.Fault fault.SourceFault)) told line store output whole watch = inr (ap (λ (x : Fault). status_of (Some x)) told.0)

-- ---- run

keys_few : (p : Params) → p.keys ≤ 2 ^ 32
keys_few p = omega (arith, p.in_range.few_keys)

module _ (store : StoreKind) (laws : AreStandingLaws store) (life : LifeWords store) (audit : AuditWords store) {S : Type 0} (disk : S → Disk) (words : List (List ℕ)) (text : Option (Bor (List ℕ))) (old new : S) {W : Type 0} (flow : W → Flow) (was is : Option W) (before after : Outside) (script : Scripts)
    (can : CanRun flow words text (disk old) (disk new) was is before after store script) where
  input_is : (input : List ℕ) → IsInput before.input.bytes limit input → input ≡ take (limit + 1) can.bytes
  input_is input is = subst (λ (b : Option (List ℕ)). IsInput b limit input) can.told is

  -- a script that came in is the one
  came_one : (n : ℕ) (came : Scripts) → n ≡ can.p.keys → CameIn n before.input came → came ≡ script
  came_one n came same c =
      let here : IsScript can.p.keys (take (limit + 1) can.bytes) came = subst (λ m. IsScript m (take (limit + 1) can.bytes) came) same (subst (λ (l : List ℕ). IsScript n l came) (input_is c.input c.input_is) c.is_script) in
      one_script can.p.keys (keys_few can.p) (take (limit + 1) can.bytes) came script here can.is_script

  input_told : (n : ℕ) (f : Fault) → n ≡ can.p.keys → IsInputRefused n before.input after.input f → status_of (Some f) ≡ 9
  input_told n fault.Memory same refused = refl
  input_told n fault.SourceFault same refused = absurd (can.input_holds refused)
  input_told n (fault.BadScript line) same (input, is, bad) =
      absurd (not_both can.p.keys (keys_few can.p) (take (limit + 1) can.bytes) line script (subst (λ m. IsFirstBad m (take (limit + 1) can.bytes) line) same (subst (λ (l : List ℕ). IsFirstBad n l line) (input_is input is) bad)) can.is_script)
  input_told n fault.Usage same refused = absurd refused
  input_told n (fault.BadParams field) same refused = absurd refused
  input_told n fault.NotStore same refused = absurd refused
  input_told n (fault.Damaged cell check kept computed) same refused = absurd refused
  input_told n (fault.StoreFault unsure) same refused = absurd refused
  input_told n (fault.StashFull rows) same refused = absurd refused
  input_told n (fault.Worn number) same refused = absurd refused
  input_told n fault.SinkFault same refused = absurd refused

  -- none of its shares is refused
  either_told : (q : Params) (f : Fault) → q ≡ can.p → IsInputRefused q.keys before.input after.input f ⊎ AreSharesRefused q can.shares before.input f → status_of (Some f) ≡ 9
  either_told q f same (inl refused) = input_told q.keys f (ap (λ (x : Params). x.keys) same) refused
  either_told q f same (inr (field, is, found, came, refused)) =
      let here = came_one q.keys found (ap (λ (x : Params). x.keys) same) came in
      absurd (none_refused can.p script can.shares field can.fits (subst (λ (s : Scripts). IsShareRefused can.p s can.shares field) here (subst (λ (x : Params). IsShareRefused x found can.shares field) same refused)))

  -- what stands has one head
  one_p : (q : Params) → ((disk old).tells → store.is_head can.keys q ((disk old).cells 0)) → q ≡ can.p
  one_p q head = laws.one_head can.keys q can.p ((disk old).cells 0) (head can.tells) (laws.has_head can.keys can.p can.generation (disk old).cells can.at can.stands)

  many_keys : (q : Params) → ((disk old).tells → store.is_head can.keys q ((disk old).cells 0)) → q.keys ≡ can.p.keys
  many_keys q head = ap (λ (x : Params). x.keys) (one_p q head)

  by_memory : (f : Fault) → IsStoreFault f ⊎ (f ≡ fault.Memory) → (IsStoreFault f → ⊥) → status_of (Some f) ≡ 9
  by_memory f (inl is) holds = absurd (holds is)
  by_memory f (inr is) holds = ap (λ (x : Fault). status_of (Some x)) is

  early : (head_is : List ℕ) (most : ℕ) (t u : Trace) (f : RunErr) → t.broken ≡ false → (Rose t.faults u.faults → ⊥) → EndsEarly store life audit head_is can.keys most can.shares (disk old) (disk new) t u disk old new before.input after.input f → status_of (told_fault (Some f)) ≡ 9
  early head_is most t u failed.Unwatched whole watch (inl head) = absurd (watch (rose_added (lines_of (note.Read 0 ∷ [])) t u head.shown whole head.broken))
  early head_is most t u failed.Unwatched whole watch (inr opening) = absurd (watch (rose_later t.faults opening.shown.between.faults u.faults opening.shown.head.faults
      (rose_added (lines_of (store.open_notes opening.p opening.found opening.start)) opening.shown.between u opening.shown.behind opening.shown.whole opening.broken)))
  early head_is most t u (failed.Fault f) whole watch (inl head) =
      absurd (can.store_holds (head.cause (laws.reads_head can.keys can.p ((disk old).cells 0) f (laws.has_head can.keys can.p can.generation (disk old).cells can.at can.stands) head.kind (head.read can.tells))))
  early head_is most t u (failed.Fault f) whole watch (inr (inl input)) = either_told input.p f (one_p input.p input.head) input.refused
  early head_is most t u (failed.Fault f) whole watch (inr (inr opening)) =
      by_memory f (laws.opens can.keys can.p can.generation (disk old).cells can.at (length script.txns) f can.stands can.lasts opening.kind
      (subst (λ (q : Params). store.refuses can.keys q (disk old).cells f) (one_p opening.p opening.head) (opening.read can.tells))) (λ is. can.store_holds (opening.cause is))

  -- a run was stopped by a fault that may do that even so
  pub record StopsFor (by : Manner) (tape : Given) (status : ℕ) : Type 0 where
    pub told : Fault
    pub may : store.may_stop can.p told
    pub status_is : status ≡ status_of (Some told)
    pub records : List (EpochRecord ℕ)
    pub first : Trace
    pub last : Trace
    pub written : Flow
    pub ran : Ran store life audit disk by tape can.keys old new before (outside after.input written) first last records (Some (failed.Fault told))

  module _ (by : Manner) (shared : by.shares ≡ can.shares) (tape : Given) (records : List (EpochRecord ℕ)) (t u : Trace) (written : Flow) (whole : t.broken ≡ false) (watch : Rose t.faults u.faults → ⊥) where
    ran_keys : (f : Option RunErr) (r : Ran store life audit disk by tape can.keys old new before (outside after.input written) t u records f) → r.p.keys ≡ can.p.keys
    ran_keys f r = many_keys r.p r.opened.head

    ran_epoch : (f : Option RunErr) (r : Ran store life audit disk by tape can.keys old new before (outside after.input written) t u records f) → store.epoch r.found ≡ can.at.epoch
    ran_epoch f r = laws.finds can.keys can.p can.generation (disk old).cells can.at r.found can.stands (subst (λ (q : Params). store.finds can.keys q (disk old).cells r.found) (one_p r.p r.opened.head) (r.opened.finds can.tells))

    ran_script : (f : Option RunErr) (r : Ran store life audit disk by tape can.keys old new before (outside after.input written) t u records f) → r.script ≡ script
    ran_script f r = came_one r.p.keys r.script (ran_keys f r) r.opened.came

    ran_few : (f : Option RunErr) (r : Ran store life audit disk by tape can.keys old new before (outside after.input written) t u records f) → length r.serving.records ≤ length script.txns
    ran_few f r =
        let served = r.serving.is_served.served in
        let epochs = few_epochs r.serving.records served.some in
        let txns = few_txns r.script.txns r.serving.records served.first in
        subst (λ (s : Scripts). length r.serving.records ≤ length s.txns) (ran_script f r) (omega (arith, epochs, txns))

    -- what stands was opened, so its map was found
    ran_map : (f : Option RunErr) (r : Ran store life audit disk by tape can.keys old new before (outside after.input written) t u records f) → store.is_map can.keys can.p (disk r.between) r.found can.at.content
    ran_map f r =
        let same = one_p r.p r.opened.head in
        subst (λ (q : Params). store.is_map can.keys q (disk r.between) r.found can.at.content) same
        (r.stood can.at can.tells (can.generation, subst (λ (q : Params). store.stands can.keys q can.generation (disk old).cells can.at) (sym same) can.stands)).content

    -- a fault of the kind is one that may stop it even so
    may_stop : (f : Fault) (r : Ran store life audit disk by tape can.keys old new before (outside after.input written) t u records (Some (failed.Fault f))) (h : store.Hidden) (so_far : List Shape) (call : Option VaultCall)
        → store.causes can.keys r.p r.found (disk r.between) (disk new) h so_far (length r.serving.records) call tape.words f → store.may_stop can.p f
    may_stop f r h so_far call cause =
        laws.serves can.keys can.p can.generation (length script.txns) (length r.serving.records) r.found (disk r.between) (disk new) h so_far call tape.words f can.at.content
        (subst (λ e. store.lasts can.p can.generation e (length script.txns)) (sym (ran_epoch (Some (failed.Fault f)) r)) can.lasts) (ran_few (Some (failed.Fault f)) r) (ran_map (Some (failed.Fault f)) r)
        (subst (λ (q : Params). store.causes can.keys q r.found (disk r.between) (disk new) h so_far (length r.serving.records) call tape.words f) (one_p r.p r.opened.head) cause)

    ran_fault : (f : Fault) (r : Ran store life audit disk by tape can.keys old new before (outside after.input written) t u records (Some (failed.Fault f))) (h : store.Hidden) (so_far : List Shape) (call : Option VaultCall)
        → EndsFor store can.keys r.p r.found (disk r.between) h so_far (length r.serving.records) call tape.words (disk r.between) (disk new) before.output written r.midway u (Some (failed.Fault f))
        → ErrTold written after.output (Some (failed.Fault f))
        → (status_of (Some f) ≡ 9) ⊎ store.may_stop can.p f
    ran_fault fault.Memory r h so_far call cause line = inl refl
    ran_fault fault.SinkFault r h so_far call cause line = absurd (can.output_holds (subst (λ (o : Flow). Rose before.output.faults o.faults) (sym line) cause))
    ran_fault (fault.StoreFault unsure) r h so_far call cause line = absurd (can.store_holds (rose_later (disk old).faults (disk r.between).faults (disk new).faults r.faults cause.0))
    ran_fault (fault.Worn number) r h so_far call cause line = inr (may_stop (fault.Worn number) r h so_far call cause)
    ran_fault fault.Usage r h so_far call cause line = inr (may_stop fault.Usage r h so_far call cause)
    ran_fault (fault.BadScript bad) r h so_far call cause line = inr (may_stop (fault.BadScript bad) r h so_far call cause)
    ran_fault (fault.BadParams field) r h so_far call cause line = inr (may_stop (fault.BadParams field) r h so_far call cause)
    ran_fault fault.NotStore r h so_far call cause line = inr (may_stop fault.NotStore r h so_far call cause)
    ran_fault (fault.Damaged cell check kept computed) r h so_far call cause line = inr (may_stop (fault.Damaged cell check kept computed) r h so_far call cause)
    ran_fault (fault.StashFull rows) r h so_far call cause line = inr (may_stop (fault.StashFull rows) r h so_far call cause)
    ran_fault fault.SourceFault r h so_far call cause line = inr (may_stop fault.SourceFault r h so_far call cause)

    -- it answers 0, or 9, or tells of a fault that may stop it even so
    abbrev pub Answers : ℕ → Type 0
    Answers status = (status ≡ 0) ⊎ ((status ≡ 9) ⊎ StopsFor by tape status)

    by_fault : (status : ℕ) (f : Fault) → status ≡ status_of (Some f) → Ran store life audit disk by tape can.keys old new before (outside after.input written) t u records (Some (failed.Fault f)) → (status_of (Some f) ≡ 9) ⊎ store.may_stop can.p f → Answers status
    by_fault status f is ran (inl nine) = inr (inl (is ∙ nine))
    by_fault status f is ran (inr may) = inr (inr (record { told = f; may = may; status_is = is; records = records; first = t; last = u; written = written; ran = ran }))

    answers : (status : ℕ) (f : Option RunErr) → status ≡ status_of (told_fault f) → ErrTold written after.output f → Went store life audit disk by tape can.keys old new before (outside after.input written) t u records f → Answers status
    answers status None is line ran = inl is
    answers status (Some f) is line (inl (none, ended, lives)) = inr (inl (is ∙ early by.head by.lanes t u f whole watch (subst (λ (x : Shares). EndsEarly store life audit by.head can.keys by.lanes x (disk old) (disk new) t u disk old new before.input after.input f) shared ended)))
    answers status (Some (failed.Fault f)) is line (inr ran) = by_fault status f is ran (ran_fault f ran ran.serving.traced.behind (shapes (calls ran.serving.is_served.served.evidence.acts)) (refused (calls ran.serving.is_served.served.evidence.acts)) ran.serving.cause line)
    answers status (Some failed.Unwatched) is line (inr ran) = absurd (watch (rose_later t.faults ran.midway.faults u.faults ran.opening_shown.faults ran.serving.cause.1))

  pub run_answers : (by : Manner) → by.shares ≡ can.shares → (tape : Given) (status : ℕ) (t u : Trace) → t.broken ≡ false → (Rose t.faults u.faults → ⊥) → RunDone store life audit disk by tape can.keys old new before after t u status → (status ≡ 0) ⊎ ((status ≡ 9) ⊎ StopsFor by tape status)
  run_answers by shared tape status t u whole watch d = answers by shared tape d.records t u d.written whole watch status d.err d.status_is d.line d.went

-- ---- the trace

no_rise : Rose 0 0 → ⊥
no_rise rose = omega (arith, rose)

none_isnt : {A : Type 0} (x : Option A) (y : A) → x ≡ None → x ≡ Some y → ⊥
none_isnt x y none some = let both : None ≡ Some y = sym none ∙ some in cc both

module _ {W : Type 0} (flow : W → Flow) (was is : Option W) (first : List ℕ) where
  -- the count of its sink rose
  sink_rose : (w v : W) (t u : Trace) → was ≡ Some w → is ≡ Some v → (has : HasTrace flow first was is t u) → Rose has.start.faults u.faults → Rose (flow w).faults (flow v).faults
  sink_rose w v t u was_is is_is has rose =
      subst (λ (x : W). Rose (flow x).faults (flow v).faults) (same_Some has.before w (sym has.was_is ∙ was_is))
      (subst (λ (x : W). Rose (flow has.before).faults (flow x).faults) (same_Some has.after v (sym has.is_is ∙ is_is))
      (subst (λ n. Rose (flow has.before).faults n) (sym has.told.1) (subst (λ n. Rose n u.faults) (sym has.tells.1) rose)))

module _ {S W : Type 0} (flow : W → Flow) (was is : Option W) (before after : Outside) (status : ℕ) (first : List ℕ) where
  -- where a trace holds, what was done was under a watch that never broke
  of_trace : (trace : Option (List ℕ)) (Done : Trace → Trace → Type 0) (old new : S) → TraceHolds flow was is trace → ByTrace flow was is before after status trace first Done old new
      → (A : Type 0) → ((t u : Trace) → t.broken ≡ false → (Rose t.faults u.faults → ⊥) → Done t u → A) → A
  of_trace None Done old new holds (kept, done) A so = so blind blind refl no_rise done
  of_trace (Some file) Done old new (w, v, was_is, is_is, holds) (inl (none, kept, same, told)) A so = absurd (none_isnt was w none was_is)
  of_trace (Some file) Done old new (w, v, was_is, is_is, holds) (inr (t, u, has, inl (broken, same, kept, told))) A so =
      absurd (holds (sink_rose flow was is first w v t u was_is is_is has (subst (λ (x : Trace). Rose has.start.faults x.faults) (sym same) (rose_added first has.start t has.line has.whole broken))))
  of_trace (Some file) Done old new (w, v, was_is, is_is, holds) (inr (t, u, has, inr (whole, done))) A so =
      so t u whole (λ rose. holds (sink_rose flow was is first w v t u was_is is_is has (rose_later has.start.faults t.faults u.faults has.line.faults rose))) done

-- ---- both

module _ {S W : Type 0} (disk : S → Disk) (flow : W → Flow) (beat : BeatKind) (tape : Given) (words : List (List ℕ)) (text : Option (Bor (List ℕ))) (old new : S) (was is : Option W) (before after : Outside) (status : ℕ) where
  abbrev pub Tell : Fault → Type 0
  Tell f = ((new ≡ old) × (is ≡ was)) × IsOnlyTold f before after status

  -- what is told of keys
  abbrev pub KeysTell : Type 0
  KeysTell = (f : Fault) × IsKeysRefused text f × Tell f

  abbrev pub FormatTells : List (List ℕ) → Option (List ℕ) → Type 0
  FormatTells numbers trace = Tell fault.Memory ⊎ (((field : Field) × IsBadNumber numbers field × Tell (fault.BadParams field))
      ⊎ ((p : Params) × AreParams numbers p × (KeysTell ⊎ ((keys : Keys) × HasKeys text keys × ByTrace flow was is before after status trace (start_line p) (λ t u. FormatDone ring_kind ring_lives ring_audits disk tape keys p old new before after t u status) old new))))

  abbrev pub RunTells : Option (List ℕ) → Bool → Option (List ℕ) → AskedShares → Type 0
  RunTells lanes turns trace limits = Tell fault.Memory ⊎ ((AreBadLanes lanes × Tell (fault.BadParams LANES))
      ⊎ ((k : ℕ) × AreLanes lanes k × (shares : Shares) × AreShares limits shares × (KeysTell ⊎ ((keys : Keys) × HasKeys text keys × ByTrace flow was is before after status trace (open_line false) (λ t u. RunDone ring_kind ring_lives ring_audits disk (manner beat (not turns) k shares) tape keys old new before after t u status) old new))))

  format_whole : (can : CanFormat flow words text (disk old) (disk new) was is before after) → FormatTells can.numbers can.trace → (status ≡ 0) ⊎ (status ≡ 9)
  format_whole can (inl (kept, told)) = inr told.status_is
  format_whole can (inr (inl (field, bad, (kept, told)))) = absurd (no_bad_number can.numbers can.p field can.params bad)
  format_whole can (inr (inr (p, are, inl (f, refused, (kept, told))))) = absurd (keys_stand text can.keys f can.has refused)
  format_whole can (inr (inr (p, are, inr (keys, has, by)))) = of_trace flow was is before after status (start_line p) can.trace (λ t u. FormatDone ring_kind ring_lives ring_audits disk tape keys p old new before after t u status) old new can.trace_holds by ((status ≡ 0) ⊎ (status ≡ 9))
      (λ t u whole watch d. ⊎_elim (λ none. inl (d.status_is ∙ none)) (λ nine. inr (d.status_is ∙ nine)) (format_fault disk tape keys p old new before.output d.written after.output t u d.err d.told d.line can.store_holds can.output_holds whole watch))

  module _ (script : Scripts) (can : CanRun flow words text (disk old) (disk new) was is before after ring_kind script) where
    abbrev by : Manner
    by = manner beat (not can.turns) can.k can.shares

    abbrev Full : Type 0
    Full = StopsFull disk flow beat tape words text was is before after status by can.keys can.p old new

    by_stop : (f : Fault) → RingMayStop can.p f → status ≡ status_of (Some f) → (records : List (EpochRecord ℕ)) (t u : Trace) (written : Flow) → Ran ring_kind ring_lives ring_audits disk by tape can.keys old new before (outside after.input written) t u records (Some (failed.Fault f)) → Full
    by_stop (fault.StashFull rows) (past, few) is records t u written ran = record { status_is = is; fewer = omega (arith, past, few); records = records; rows = rows; first = t; last = u; written = written; ran = ran }
    by_stop fault.Memory may is records t u written ran = absurd may
    by_stop fault.Usage may is records t u written ran = absurd may
    by_stop (fault.BadScript line) may is records t u written ran = absurd may
    by_stop (fault.BadParams field) may is records t u written ran = absurd may
    by_stop fault.NotStore may is records t u written ran = absurd may
    by_stop (fault.Damaged cell check kept computed) may is records t u written ran = absurd may
    by_stop (fault.StoreFault unsure) may is records t u written ran = absurd may
    by_stop (fault.Worn number) may is records t u written ran = absurd may
    by_stop fault.SourceFault may is records t u written ran = absurd may
    by_stop fault.SinkFault may is records t u written ran = absurd may

    abbrev Stopped : Type 0
    Stopped = StopsFor ring_kind ring_keeps ring_lives ring_audits disk words text old new flow was is before after script can by tape status

    by_answer : (status ≡ 0) ⊎ ((status ≡ 9) ⊎ Stopped) → (status ≡ 0) ⊎ ((status ≡ 9) ⊎ Full)
    by_answer (inl none) = inl none
    by_answer (inr (inl nine)) = inr (inl nine)
    by_answer (inr (inr s)) = inr (inr (by_stop s.told s.may s.status_is s.records s.first s.last s.written s.ran))

    run_whole : RunTells can.lanes can.turns can.trace can.limits → (status ≡ 0) ⊎ ((status ≡ 9) ⊎ Full)
    run_whole (inl (kept, told)) = inr (inl told.status_is)
    run_whole (inr (inl (bad, (kept, told)))) = absurd (no_bad_lanes can.lanes can.k can.in_range bad)
    run_whole (inr (inr (k, are, shares, given, inl (f, refusal, (kept, told))))) = absurd (keys_stand text can.keys f can.has refusal)
    run_whole (inr (inr (k, are, shares, given, inr (keys, has, done)))) = of_trace flow was is before after status (open_line false) can.trace (λ t u. RunDone ring_kind ring_lives ring_audits disk (manner beat (not can.turns) k shares) tape keys old new before after t u status) old new can.trace_holds done
        ((status ≡ 0) ⊎ ((status ≡ 9) ⊎ Full)) (λ t u whole watch d.
        by_answer (run_answers ring_kind ring_keeps ring_lives ring_audits disk words text old new flow was is before after script can by refl tape status t u whole watch
        (subst (λ (k : Keys). RunDone ring_kind ring_lives ring_audits disk by tape k old new before after t u status) (one_keys text keys can.keys has can.has)
        (subst (λ m. RunDone ring_kind ring_lives ring_audits disk (manner beat (not can.turns) m can.shares) tape keys old new before after t u status) (one_lanes can.lanes k can.k are can.in_range)
        (subst (λ (x : Shares). RunDone ring_kind ring_lives ring_audits disk (manner beat (not can.turns) k x) tape keys old new before after t u status) (one_shares can.limits shares can.shares given can.given) d)))))

  pub completes : ((store keys : List ℕ) (numbers : List (List ℕ)) (trace : Option (List ℕ)) → asked_by words ≡ Some (format_asked store keys numbers trace) → FormatTells numbers trace)
      → ((store keys : List ℕ) (lanes : Option (List ℕ)) (turns : Bool) (trace mirror : Option (List ℕ)) (limits : AskedShares) → asked_by words ≡ Some (run_asked store keys lanes turns trace mirror limits) → RunTells lanes turns trace limits)
      → DoesWhatItCan disk flow beat tape words text was is before after status old new
  completes format run = (
    λ can. format_whole can (format can.store_path can.keys_path can.numbers can.trace can.asked),
    λ script can. run_whole script can (run can.store_path can.keys_path can.lanes can.turns can.trace can.mirror can.limits can.asked),
  )
