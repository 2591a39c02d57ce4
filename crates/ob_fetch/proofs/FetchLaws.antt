-- What a fetch tells, leaves and answers, by its parts.
use Rattle.std.proofs.Common.{◌≡◌, inl, inr, ⊎_elim, ℕ, suc, ◌+◌, ◌%◌, ◌^◌, ◌<◌, ◌≤◌, Bool, true, false, MatchBool, List, [], ◌∷◌, ◌++◌, Option, None, Result, Err, length, length-append, refl, sym, ap, ◌∙◌, subst, arith}
use Rattle.std.proofs.lemmas.Bool.{false≢true}
use mathlib.Core.Path.{fun_ext}
use Rattle.ob_base.specs.Layout.{log_cell, record_cells}
use Rattle.ob_base.specs.declared.fault.Fault.{Fault}
use Rattle.ob_base.specs.declared.fault.Fault.TheVariants.{Memory, Usage, BadScript, BadParams, NotStore, Damaged, StoreFault, StashFull, Worn, SourceFault, SinkFault}
use Rattle.ob_base.specs.declared.params.Params.{Params}
use Rattle.ob_tables.specs.Buckets.{Buckets}
use Rattle.ob_tables.specs.Version.{Version}
use Rattle.ob_cells.specs.Writes.{WritesWithin}
use Rattle.ob_tables.specs.Content.{Rows}
use Rattle.ob_stand.specs.Table.{buckets_of, flat_of}
use Rattle.ob_log.specs.Appends.{HoldsOneOf, HoldsRecord, IsAppendFault, IsWornOut, append_notes}
use Rattle.ob_log.specs.Logs.{BatchRecord, OpenRecords, RecordObeys}
use Rattle.ob_recover.specs.Repeats.{BatchAnswers, BatchTells, IsRepeatFault, asked_of_record, batch_cells, record_of, repeated_notes, table_after_records}
use Rattle.ob_ring.specs.FlatTable.{FlatTable}
use Rattle.ob_ring.specs.Picked.{SameSeals}
use Rattle.ob_ring.specs.Ring.{Kept, StandsFor}
use Rattle.ob_seal.specs.declared.keys.Keys.{Keys}
use Rattle.ob_stand.proofs.AppendLaws.{appends_leave}
use Rattle.ob_twin.proofs.Moves.{settled_image}
use Rattle.ob_stand.proofs.Frames.{stands_all}
use Rattle.ob_stand.specs.Stands.{OneOf, RingStanding, Stands, with_record}
use Rattle.ob_store.proofs.Moments.{leaves_of, no_later, passed_then, passes_so, started, then_on}
use Rattle.ob_store.specs.Calls.{Keeps, Notes}
use Rattle.ob_store.specs.Disk.{Clock, Disk, Image, NotAfter}
use Rattle.ob_store.specs.Images.{IsSynced, LeavesOnly, Passes, Same, SameOff}
use Rattle.ob_store.specs.Lines.{Trace}
use Rattle.ob_store.specs.Told.{Tells, TellsFirst, events_of}
use Rattle.ob_store.specs.declared.event.Event.{Event}
use Rattle.ob_store.specs.declared.watch.Note.{Note}
use Rattle.ob_fetch.proofs.NextLaws.{Begun, at_batch, batch_is, may, seals_listed, stands_listed, stands_then}
use Rattle.ob_fetch.specs.Fetches.{DrawsWords, FetchAnswers, FetchDoes, FetchDraws, RunIsAt, FetchStages, IsFetchInStages, IsRecordInStages, IsFetchRefusal, IsLoggedFirst, IsWornForBatch, MovesPlanner, next_batch, record_next, words_since}
use Rattle.ob_fetch.specs.declared.run.Run.{Run}

-- ---- refusals, by their kind

pub fetch_fault : (f : Fault) → IsRepeatFault f → IsFetchRefusal f
fetch_fault Memory fault = absurd fault
fetch_fault Usage fault = absurd fault
fetch_fault (BadScript line) fault = absurd fault
fetch_fault (BadParams field) fault = absurd fault
fetch_fault NotStore fault = absurd fault
fetch_fault (Damaged cell check kept computed) fault = tt
fetch_fault (StoreFault unsure) fault = fault
fetch_fault (StashFull rows) fault = absurd fault
fetch_fault (Worn number) fault = absurd fault
fetch_fault SourceFault fault = absurd fault
fetch_fault SinkFault fault = absurd fault

pub store_fault : (f : Fault) → f ≡ StoreFault None → IsRepeatFault f
store_fault f is = subst IsRepeatFault (sym is) refl

-- a batch that was begun isn't worn
pub not_worn : (f : Fault) → IsRepeatFault f → IsWornOut (Err f) → ⊥
not_worn Memory fault worn = worn
not_worn Usage fault worn = worn
not_worn (BadScript line) fault worn = worn
not_worn (BadParams field) fault worn = worn
not_worn NotStore fault worn = worn
not_worn (Damaged cell check kept computed) fault worn = worn
not_worn (StoreFault unsure) fault worn = worn
not_worn (StashFull rows) fault worn = worn
not_worn (Worn number) fault worn = fault
not_worn SourceFault fault worn = worn
not_worn SinkFault fault worn = worn

-- words and seals are left for a batch
pub enough_left : (run : Run) (worn : Bool) → worn ≡ false
    → MatchBool worn (IsWornForBatch run) ((run.drawn + (run.params).places ≤ 2 ^ 62) × ((run.sealer).next + record_cells run.params ≤ 2 ^ 62)) → IsWornForBatch run → ⊥
enough_left run true is none worn = absurd (false≢true (sym is))
enough_left run false is (words, seals) (inl more) = omega arith
enough_left run false is (words, seals) (inr more) = omega arith

pub left_for : (run : Run) (worn : Bool) → worn ≡ false → MatchBool worn (IsWornForBatch run) ((run.drawn + (run.params).places ≤ 2 ^ 62) × ((run.sealer).next + record_cells run.params ≤ 2 ^ 62))
    → (run.drawn + (run.params).places ≤ 2 ^ 62) × ((run.sealer).next + record_cells run.params ≤ 2 ^ 62)
left_for run true is none = absurd (false≢true (sym is))
left_for run false is left = left

pub worn_for : (run : Run) (worn : Bool) → worn ≡ true → MatchBool worn (IsWornForBatch run) ((run.drawn + (run.params).places ≤ 2 ^ 62) × ((run.sealer).next + record_cells run.params ≤ 2 ^ 62)) → IsWornForBatch run
worn_for run true is worn = worn
worn_for run false is worn = absurd (false≢true is)

-- an append for which there are seals
pub append_fault : (f : Fault) → IsAppendFault f → (IsWornOut (Err f) → ⊥) → f ≡ StoreFault None
append_fault Memory fault none = absurd fault
append_fault Usage fault none = absurd fault
append_fault (BadScript line) fault none = absurd fault
append_fault (BadParams field) fault none = absurd fault
append_fault NotStore fault none = absurd fault
append_fault (Damaged cell check kept computed) fault none = absurd fault
append_fault (StoreFault unsure) fault none = ap StoreFault fault
append_fault (StashFull rows) fault none = absurd fault
append_fault (Worn number) fault none = absurd (none tt)
append_fault SourceFault fault none = absurd fault
append_fault SinkFault fault none = absurd fault

pub draws_refused : (places : ℕ) (old new : List ℕ) (f : Fault) → IsRepeatFault f → DrawsWords places old new → FetchDraws places old new (Err f)
draws_refused places old new Memory fault draws = draws
draws_refused places old new Usage fault draws = draws
draws_refused places old new (BadScript line) fault draws = draws
draws_refused places old new (BadParams field) fault draws = draws
draws_refused places old new NotStore fault draws = draws
draws_refused places old new (Damaged cell check kept computed) fault draws = draws
draws_refused places old new (StoreFault unsure) fault draws = draws
draws_refused places old new (StashFull rows) fault draws = draws
draws_refused places old new (Worn number) fault draws = absurd fault
draws_refused places old new SourceFault fault draws = draws
draws_refused places old new SinkFault fault draws = draws

module _ (keys : Keys) (p : Params) (versions : List Version) (image : Image) (t : FlatTable) (r : BatchRecord) (rows rows' : Rows) where
  pub answers_refused : (f : Fault) → IsRepeatFault f → BatchAnswers keys p versions image t r rows rows' (Err f) → FetchAnswers keys p versions image t r rows rows' (Err f)
  answers_refused Memory fault answer = absurd fault
  answers_refused Usage fault answer = absurd fault
  answers_refused (BadScript line) fault answer = absurd fault
  answers_refused (BadParams field) fault answer = absurd fault
  answers_refused NotStore fault answer = absurd fault
  answers_refused (Damaged cell check kept computed) fault answer = answer
  answers_refused (StoreFault unsure) fault answer = tt
  answers_refused (StashFull full) fault answer = absurd fault
  answers_refused (Worn number) fault answer = absurd fault
  answers_refused SourceFault fault answer = absurd fault
  answers_refused SinkFault fault answer = absurd fault

  pub answers_begun : (f : Fault) → f ≡ StoreFault None → FetchAnswers keys p versions image t r rows rows' (Err f)
  answers_begun f is = subst (λ (e : Fault). FetchAnswers keys p versions image t r rows rows' (Err e)) (sym is) tt

module _ {S : Type 0} (disk : S → Disk) (most : ℕ) (keys : Keys) (p : Params) (epoch : ℕ) (r : BatchRecord) (cells : List ℕ) (notes : List Note) (old new : S) (before later : Trace) where
  pub does_refused : (f : Fault) → IsRepeatFault f → IsLoggedFirst disk most keys p epoch r cells notes old new before later (Err f) → FetchDoes disk most keys p epoch r cells notes old new before later (Err f)
  does_refused Memory fault first = absurd fault
  does_refused Usage fault first = absurd fault
  does_refused (BadScript line) fault first = absurd fault
  does_refused (BadParams field) fault first = absurd fault
  does_refused NotStore fault first = absurd fault
  does_refused (Damaged cell check kept computed) fault first = first
  does_refused (StoreFault unsure) fault first = inr first
  does_refused (StashFull rows) fault first = absurd fault
  does_refused (Worn number) fault first = absurd fault
  does_refused SourceFault fault first = absurd fault
  does_refused SinkFault fault first = absurd fault

  pub does_begun : (f : Fault) → f ≡ StoreFault None → TellsFirst (append_notes p epoch r.batch) (disk old).seen (disk new).seen before later → FetchDoes disk most keys p epoch r cells notes old new before later (Err f)
  does_begun f is first = subst (λ (e : Fault). FetchDoes disk most keys p epoch r cells notes old new before later (Err e)) (sym is) (inl first)

-- ---- what a crash leaves

pub stood : (run : Run) (s : RingStanding) (d : Disk) → RunIsAt run s d → (c : Image) → d.may_leave c → Stands (run.sealer).keys run.params s c
stood run s d was c left = stands_all (run.sealer).keys run.params s c d.cells (was.settled c left) was.stands

-- where nothing was done
pub leaves_none : (run : Run) (s s' : RingStanding) (d : Disk) → ((c : Image) → d.left_since d.moment c → d.may_leave c) → RunIsAt run s d → LeavesOnly d d (OneOf (run.sealer).keys run.params s s')
leaves_none run s s' d only was = started d (OneOf (run.sealer).keys run.params s s') (λ c left. inl (stood run s d was c (only c left))) (λ tells. inl was.stands)

-- while the batch was begun
pub leaves_begun : (run : Run) (s : RingStanding) (r : BatchRecord) (old mid : Disk) → ((c : Image) → old.left_since old.moment c → old.may_leave c) → RunIsAt run s old → Begun run r old mid
    → Passes (SameOff (log_cell run.params (suc run.epoch % 2) (next_batch run) 0) (record_cells run.params + 1)) old mid
    → LeavesOnly old mid (HoldsOneOf (run.sealer).keys run.params (suc run.epoch) s.records r)
    → LeavesOnly old mid (OneOf (run.sealer).keys run.params s (with_record s r))
leaves_begun run s r old mid only was begun passes images =
    appends_leave (run.sealer).keys run.params s r old mid only (record {
      may = may run s r old mid was begun;
      images = λ c is. stands_all (run.sealer).keys run.params s c old.cells (settled_image old was.settled c is) was.stands;
      passes = at_batch run s r old mid was begun (λ e b. Passes (SameOff (log_cell run.params (e % 2) b 0) (record_cells run.params + 1)) old mid) passes;
      records = at_batch run s r old mid was begun (λ e b. LeavesOnly old mid (HoldsOneOf (run.sealer).keys run.params e s.records r)) images;
    })

-- and while it was read
pub leaves_read : (P : Image → Type 0) (old mid new : Disk) → ((c : Image) → mid.left_since mid.moment c → mid.may_leave c)
    → ((t : Clock) (c : Image) → NotAfter t mid.moment → mid.may_leave c → mid.left_since t c) → LeavesOnly old mid P → Passes Same mid new → LeavesOnly old new P
leaves_read P old mid new only counts first passes =
    then_on old mid new P first
    (leaves_of Same P P mid new passes only (λ c left. first.each c (counts old.moment c first.later left)) first.told (λ c d was step. subst P (sym step) was) (λ c was. was))

-- In two stages: its record's gate was synced, and then it was read.
pub in_stages : {S : Type 0} (disk : S → Disk) (run : Run) (s : RingStanding) (r : BatchRecord) (old mid new : S) → ((c : Image) → (disk mid).left_since (disk mid).moment c → (disk mid).may_leave c)
    → Notes (events_of (append_notes run.params (suc run.epoch) r.batch)) (disk old).seen (disk mid).seen → LeavesOnly (disk old) (disk mid) (OneOf (run.sealer).keys run.params s (with_record s r))
    → IsRecordInStages disk run s r old mid → IsSynced (disk mid) → Stands (run.sealer).keys run.params (with_record s r) (disk mid).cells → ((k : ℕ) → k < 9 → (disk mid).cells k ≡ (disk old).cells k) → Passes Same (disk mid) (disk new)
    → IsFetchInStages disk run s r old new
in_stages disk run s r old mid new only made until logs synced stands same passes = record {
  between = mid;
  made = made;
  until = until;
  logs = logs;
  since = leaves_of Same (Stands (run.sealer).keys run.params (with_record s r)) (Stands (run.sealer).keys run.params (with_record s r)) (disk mid) (disk new) passes only
      (λ c left. stands_all (run.sealer).keys run.params (with_record s r) c (disk mid).cells (synced c left) stands) (λ tells. stands) (λ c d was step. subst (Stands (run.sealer).keys run.params (with_record s r)) (sym step) was) (λ c was. was);
  kept = λ c left k low. ⊎_elim (λ (before : (disk mid).left_since (disk mid).moment c). synced c (only c before) k)
      (λ (back : (d : Image) × (disk mid).may_leave d × Same c d). ap (λ (i : Image). i k) back.2 ∙ synced back.0 back.1 k) (passes.since (disk mid).moment c (no_later (disk mid).moment) left)
      ∙ same k low;
}

module _ {S : Type 0} (disk : S → Disk) (run : Run) (s : RingStanding) (r : BatchRecord) (old new : S) where
  -- refused while it was read
  pub stages_refused : (f : Fault) → IsRepeatFault f → IsFetchInStages disk run s r old new → FetchStages disk run s r old new (Err f)
  stages_refused Memory fault both = both
  stages_refused Usage fault both = both
  stages_refused (BadScript line) fault both = both
  stages_refused (BadParams field) fault both = both
  stages_refused NotStore fault both = both
  stages_refused (Damaged cell check kept computed) fault both = both
  stages_refused (StoreFault unsure) fault both = inl both
  stages_refused (StashFull rows) fault both = both
  stages_refused (Worn number) fault both = absurd fault
  stages_refused SourceFault fault both = both
  stages_refused SinkFault fault both = both

-- ---- what is in the cells

pub settled_then : (mid new : Disk) → mid.tells → IsSynced mid → Keeps mid new → Passes Same mid new → IsSynced new
settled_then mid new tells settled keeps passes c left k =
    let back = passes.now c left in
    ap (λ (i : Image). i k) back.2 ∙ settled back.0 back.1 k ∙ sym (keeps.cells tells k)

pub within_then : (base many : ℕ) (old mid new : Disk) → (old.tells → mid.tells) → WritesWithin base many old mid → Keeps mid new → Passes Same mid new → WritesWithin base many old new
within_then base many old mid new told within keeps passes = record {
  rest = λ tells k off. keeps.cells (told tells) k ∙ within.rest tells k off;
  passes = passed_then (SameOff base many) old mid new (λ c d e a b k off. a k off ∙ b k off) within.passes
      (passes_so Same (SameOff base many) mid new (λ c d same k off. ap (λ (i : Image). i k) same) passes);
}

pub cells_same : (mid new : Disk) → mid.tells → Keeps mid new → new.cells ≡ mid.cells
cells_same mid new tells keeps = fun_ext (λ k. keeps.cells tells k)

-- ---- the words

pub drawn_since : (old words : List ℕ) → words_since old (old ++ words) ≡ words
drawn_since [] words = refl
drawn_since (x ∷ old) words = drawn_since old words

pub drawn_as : (old new words : List ℕ) → new ≡ old ++ words → words ≡ words_since old new
drawn_as old new words is = sym (ap (λ (l : List ℕ). words_since old l) is ∙ drawn_since old words)

pub draws_are : (places : ℕ) (old new words : List ℕ) → new ≡ old ++ words → length words ≡ places → DrawsWords places old new
draws_are places old new words is many =
    let since : words_since old new ≡ words = ap (λ (l : List ℕ). words_since old l) is ∙ drawn_since old words in
    record { words = is ∙ ap (λ (l : List ℕ). old ++ l) (sym since); many_are = ap length since ∙ many }

pub drawn_many : (places : ℕ) (old new : List ℕ) → DrawsWords places old new → length new ≡ length old + places
drawn_many places old new draws = ap length draws.words ∙ length-append old (words_since old new) ∙ ap (λ (n : ℕ). length old + n) draws.many_are

-- ---- a batch that was begun, as its call tells it

pub next_is : (epoch : ℕ) → epoch + 1 ≡ suc epoch
next_is epoch = omega arith

-- its record was opened first
pub logged_first : {S : Type 0} (disk : S → Disk) (most : ℕ) (keys : Keys) (p : Params) (epoch : ℕ) (r : BatchRecord) (cells : List ℕ) (notes : List Note) (old mid new : S) (before shown later : Trace) (x : Result (Unit {0}) Fault)
    → Tells (append_notes p (epoch + 1) r.batch) (append_notes p (epoch + 1) r.batch) (disk old).seen (disk mid).seen before shown
    → ((records : List BatchRecord) → (disk old).tells → length records ≡ r.batch → OpenRecords keys p (epoch + 1) records (disk old).cells → (c : Image) → (disk mid).may_leave c → OpenRecords keys p (epoch + 1) (records ++ r ∷ []) c)
    → Passes Same (disk mid) (disk new) → BatchTells most cells notes (disk mid).seen (disk new).seen shown later x → IsLoggedFirst disk most keys p (suc epoch) r cells notes old new before later x
logged_first disk most keys p epoch r cells notes old mid new before shown later x appended opened behind read = record {
  between = mid;
  shown = shown;
  appended = subst (λ (e : ℕ). Tells (append_notes p e r.batch) (append_notes p e r.batch) (disk old).seen (disk mid).seen before shown) (next_is epoch) appended;
  logged = λ records image tells long held left.
      subst (λ (e : ℕ). OpenRecords keys p e (records ++ r ∷ []) image) (next_is epoch)
      (opened records tells long (subst (λ (e : ℕ). OpenRecords keys p e records (disk old).cells) (sym (next_is epoch)) held) image left);
  behind = behind;
  read = read;
}

-- the cells of its record
abbrev pub RecordStep : Run → ℕ → Image → Image → Type 0
RecordStep run epoch = SameOff (log_cell run.params (epoch % 2) (next_batch run) 0) (record_cells run.params + 1)

pub within_next : (run : Run) (old new : Disk) → WritesWithin (log_cell run.params ((run.epoch + 1) % 2) (next_batch run) 0) (record_cells run.params + 1) old new
    → WritesWithin (log_cell run.params (suc run.epoch % 2) (next_batch run) 0) (record_cells run.params + 1) old new
within_next run old new within = subst (λ (e : ℕ). WritesWithin (log_cell run.params (e % 2) (next_batch run) 0) (record_cells run.params + 1) old new) (next_is run.epoch) within

pub begun_now : (run : Run) (asks : List (Option ℕ)) (words : List ℕ) (old new : Disk) → 0 < run.left → run.left ≤ (run.params).batches → RecordObeys run.params (next_batch run) (record_next run asks words)
    → WritesWithin (log_cell run.params (suc run.epoch % 2) (next_batch run) 0) (record_cells run.params + 1) old new → old.tells → Begun run (record_next run asks words) old new
begun_now run asks words old new some few obeys within tells = record { some = some; few = few; is = refl; obeys = obeys; within = within.rest tells }

-- its record stays while it is read
pub written_still : (keys : Keys) (p : Params) (epoch batch : ℕ) (r : BatchRecord) (mid new : Disk) → mid.tells → Keeps mid new → HoldsRecord keys p (epoch + 1) batch r mid.cells → HoldsRecord keys p (suc epoch) batch r new.cells
written_still keys p epoch batch r mid new told keeps held =
    subst (λ (image : Image). HoldsRecord keys p (suc epoch) batch r image) (sym (cells_same mid new told keeps)) (subst (λ (e : ℕ). HoldsRecord keys p e batch r mid.cells) (next_is epoch) held)

-- what is answered of the buckets as the store that stood has them
pub value_stood : (run : Run) (s : RingStanding) (old : Disk) (was : RunIsAt run s old) (image : Image) (r : BatchRecord) (rows' : Rows) (x : Result (Unit {0}) Fault)
    → ((start : Buckets) (t : FlatTable) → SameSeals start (run.ring).metas → StandsFor run.ring t → old.tells → FetchAnswers (run.sealer).keys run.params start.versions image t r ((run.ring).stash).rows rows' x)
    → FetchAnswers (run.sealer).keys run.params (s.content).versions image (table_after_records run.params (flat_of run.params s.content) s.records) r ((run.ring).stash).rows rows' x
value_stood run s old was image r rows' x told =
    let t = table_after_records run.params (flat_of run.params s.content) s.records in
    told (record (buckets_of run.params s.content) { order = ((run.ring).metas).order }) t (seals_listed (buckets_of run.params s.content) run.ring was.runs.planner.seals) (stands_listed run.ring t was.runs.planner.table) was.tells

module _ (run : Run) (s : RingStanding) (r : BatchRecord) (old mid : Disk) (was : RunIsAt run s old) (begun : Begun run r old mid) where
  -- the open records, as the call was told of them
  pub logged_at : OpenRecords (run.sealer).keys run.params (run.epoch + 1) s.records old.cells
  logged_at = subst (λ (e : ℕ). OpenRecords (run.sealer).keys run.params e s.records old.cells) (sym (next_is run.epoch ∙ ap suc was.runs.epoch_is)) was.stands.holds.log

  pub many_at : length s.records ≡ next_batch run
  many_at = sym (batch_is run s r old mid was begun)

  pub begun_leaves : ((c : Image) → old.left_since old.moment c → old.may_leave c)
      → WritesWithin (log_cell run.params ((run.epoch + 1) % 2) (next_batch run) 0) (record_cells run.params + 1) old mid
      → ((records : List BatchRecord) → old.tells → IsSynced old → length records ≡ next_batch run → OpenRecords (run.sealer).keys run.params (run.epoch + 1) records old.cells
      → LeavesOnly old mid (HoldsOneOf (run.sealer).keys run.params (run.epoch + 1) records r))
      → LeavesOnly old mid (OneOf (run.sealer).keys run.params s (with_record s r))
  begun_leaves only within images =
      leaves_begun run s r old mid only was begun (within_next run old mid within).passes
      (subst (λ (e : ℕ). LeavesOnly old mid (HoldsOneOf (run.sealer).keys run.params e s.records r)) (next_is run.epoch) (images s.records was.tells was.settled many_at logged_at))

-- the stages of a fetch whose record was opened
pub stages_logged : {S : Type 0} (disk : S → Disk) (run : Run) (s : RingStanding) (asks : List (Option ℕ)) (words : List ℕ) (old mid new : S) → ((c : Image) → (disk old).left_since (disk old).moment c → (disk old).may_leave c)
    → ((c : Image) → (disk mid).left_since (disk mid).moment c → (disk mid).may_leave c) → (was : RunIsAt run s (disk old)) → 0 < run.left → run.left ≤ (run.params).batches → RecordObeys run.params (next_batch run) (record_next run asks words)
    → WritesWithin (log_cell run.params ((run.epoch + 1) % 2) (next_batch run) 0) (record_cells run.params + 1) (disk old) (disk mid)
    → ((records : List BatchRecord) → (disk old).tells → IsSynced (disk old) → length records ≡ next_batch run → OpenRecords (run.sealer).keys run.params (run.epoch + 1) records (disk old).cells
    → LeavesOnly (disk old) (disk mid) (HoldsOneOf (run.sealer).keys run.params (run.epoch + 1) records (record_next run asks words)))
    → HoldsRecord (run.sealer).keys run.params (run.epoch + 1) (next_batch run) (record_next run asks words) (disk mid).cells → IsSynced (disk mid)
    → Notes (events_of (append_notes run.params (run.epoch + 1) (next_batch run))) (disk old).seen (disk mid).seen → IsRecordInStages disk run s (record_next run asks words) old mid → Passes Same (disk mid) (disk new) → IsFetchInStages disk run s (record_next run asks words) old new
stages_logged disk run s asks words old mid new only_old only_mid was some few obeys within images written synced seen logs passes =
    let r : BatchRecord = record_next run asks words in
    let begun = begun_now run asks words (disk old) (disk mid) some few obeys (within_next run (disk old) (disk mid) within) was.tells in
    in_stages disk run s r old mid new only_mid (subst (λ (e : ℕ). Notes (events_of (append_notes run.params e (next_batch run))) (disk old).seen (disk mid).seen) (next_is run.epoch) seen)
    (begun_leaves run s r (disk old) (disk mid) was begun only_old within images) logs synced
    (stands_then run s r (disk old) (disk mid) was begun (subst (λ (e : ℕ). HoldsRecord (run.sealer).keys run.params e (next_batch run) r (disk mid).cells) (next_is run.epoch) written))
    (λ k low. within.rest was.tells k (inl (omega (arith, low)))) passes

-- ---- a batch that was read, by the names that a run has for its parts

module _ {keys K : Keys} (ks : K ≡ keys) {p q : Params} (ps : q ≡ p) {g G : ℕ} (gs : G ≡ g) {words W : List ℕ} (ws : W ≡ words) (batch number first : ℕ) (asks : List (Option ℕ)) where
  abbrev r : BatchRecord
  r = record_of batch number g first asks words

  abbrev r' : BatchRecord
  r' = record_of batch number G first asks W

  r_is : r' ≡ r
  r_is = ap (λ (x : ℕ). record_of batch number x first asks W) gs ∙ ap (λ (x : List ℕ). record_of batch number g first asks x) ws

  pub answers_as : (versions : List Version) (image : Image) (t : FlatTable) (rows rows' : Rows) (result : Result (Unit {0}) Fault)
      → BatchAnswers K q versions image t (record_of batch number G first asks W) rows rows' result → BatchAnswers keys p versions image t (record_of batch number g first asks words) rows rows' result
  answers_as versions image t rows rows' result answer =
      subst (λ (k : Keys). BatchAnswers k p versions image t r rows rows' result) ks
      (subst (λ (x : Params). BatchAnswers K x versions image t r rows rows' result) ps
      (subst (λ (x : BatchRecord). BatchAnswers K q versions image t x rows rows' result) r_is answer))

  pub tells_as : (most : ℕ) (versions : List Version) (t : FlatTable) (a b : Option (List Event)) (k l : Trace) (result : Result (Unit {0}) Fault)
      → BatchTells most (batch_cells q versions t (asked_of_record q (record_of batch number G first asks W))) (repeated_notes q versions t (asked_of_record q (record_of batch number G first asks W))) a b k l result
      → BatchTells most (batch_cells p versions t (asked_of_record p (record_of batch number g first asks words))) (repeated_notes p versions t (asked_of_record p (record_of batch number g first asks words))) a b k l result
  tells_as most versions t a b k l result told =
      subst (λ (x : Params). BatchTells most (batch_cells x versions t (asked_of_record x r)) (repeated_notes x versions t (asked_of_record x r)) a b k l result) ps
      (subst (λ (x : BatchRecord). BatchTells most (batch_cells q versions t (asked_of_record q x)) (repeated_notes q versions t (asked_of_record q x)) a b k l result) r_is told)

  pub moves_as : (old new : Kept) → MovesPlanner q (record_of batch number G first asks W) old new → MovesPlanner p (record_of batch number g first asks words) old new
  moves_as old new moves = subst (λ (x : Params). MovesPlanner x r old new) ps (subst (λ (x : BatchRecord). MovesPlanner q x old new) r_is moves)
