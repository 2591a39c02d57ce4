-- What the end of an epoch needs of a run, answers, draws and leaves.
use Rattle.std.specs.Prelude.{◌≡◌, ◌⊎◌, ℕ, suc, ◌+◌, ◌*◌, ◌<◌, ◌≤◌, ◌^◌, Bool, true, false, List, [], take, drop, length, slice_index, Option, Result, Ok, Err, OnErr, OnOk}
use Rattle.std.specs.declared.option.Option.TheVariants.{None}
use Rattle.ob_base.specs.declared.fault.Fault.{Fault}
use Rattle.ob_base.specs.declared.fault.Fault.TheVariants as fault
use Rattle.ob_base.specs.declared.params.Params.{Params}
use Rattle.ob_base.specs.declared.value.Write.{Write}
use Rattle.ob_base.specs.Layout.{checkpoint_cells}
use Rattle.ob_base.specs.Tree.{buckets, width}
use Rattle.ob_tables.specs.Buckets.{Buckets, version_at}
use Rattle.ob_tables.specs.Version.{Version}
use Rattle.ob_tables.specs.Content.{Content, Obeys}
use Rattle.ob_end.specs.Lifts.{IsLiftDamage, IsUndamaged, LiftsAreRead, lifts_picked}
use Rattle.ob_end.specs.Renewals.{Renews}
use Rattle.ob_stand.specs.Table.{flat_of}
use Rattle.ob_fetch.specs.declared.run.Run.{Run}
use Rattle.ob_fetch.specs.Fetches.{DrawsWords, IsRunReady, RunIsAt}
use Rattle.ob_log.specs.Logs.{BatchRecord}
use Rattle.ob_recover.specs.Fits.{IsPlannerFit}
use Rattle.ob_recover.specs.Repeats.{BatchIsShown, NoneIsShown, RowsJoin, content_of_ring}
use Rattle.ob_ring.specs.Filling.{IsSealedAnew, base_of, words_of}
use Rattle.ob_ring.specs.FlatTable.{FlatTable, FinalLifts, Refill, Writes, after, refill_order, stash_size}
use Rattle.ob_ring.specs.Picked.{SameSeals}
use Rattle.ob_ring.specs.Ring.{IsListed, IsRing, Kept, StandsFor}
use Rattle.ob_ring.specs.Writing.{entries_after, leaf_writes, writes_of}
use Rattle.ob_recover.specs.Known.{PlansFrom, public_of_kept}
use Rattle.ob_schedule.specs.Paths.{is_one_of}
use Rattle.ob_schedule.specs.Schedule.{after_end}
use Rattle.ob_seal.specs.declared.keys.Keys.{Keys}
use Rattle.ob_serial.specs.declared.vault.EndErr.{EndErr}
use Rattle.ob_serial.specs.declared.vault.EndErr.TheVariants as end
use Rattle.ob_stand.specs.Reads.{plains_in}
use Rattle.ob_stand.specs.Stands.{OneOf, RingStanding, Stands}
use Rattle.ob_store.specs.Disk.{Disk, Image}
use Rattle.ob_store.specs.Lines.{Trace}
use Rattle.ob_store.specs.declared.event.Event.{Event}
use Rattle.ob_store.specs.declared.watch.Note.{Note}
use Rattle.ob_tables.specs.Kept.{entry_at}
use Rattle.ob_tables.specs.declared.entry.Entry.{Entry}
use Rattle.ob_stand.specs.Values.{with_entries}
use Rattle.ob_twin.specs.declared.gates.Gates.{Gates}
use Rattle.ob_twin.specs.declared.set_err.SetErr.{SetErr}
use Rattle.ob_twin.specs.declared.set_err.SetErr.TheVariants as set
use Rattle.ob_stand.specs.Runs.{slots_of}
use Rattle.ob_end.specs.Closings.{CloseDoes}

-- ---- what a run keeps at all times, whatever its store tells

-- Its planner fits, and it has room for what an end needs
pub record IsEndReady (run : Run) : Type 0 where
  pub ready : IsRunReady run
  pub own_words : (run.params).writes ≤ length (run.words).items
  pub all_words : buckets run.params * width run.params ≤ length (run.words).items
  pub sheet : length run.sheet ≡ 96 * checkpoint_cells run.params
  pub planner : IsPlannerFit run.ring

-- ---- an end of a table

-- how many buckets are lifted behind the final lifts
abbrev pub lifted_many : Params → FlatTable → ℕ
lifted_many p t = length (refill_order p (after p t FinalLifts))

-- the words that are drawn: for each place of a write, and for each slot of the lifted buckets
abbrev pub words_for_end : Params → FlatTable → ℕ
words_for_end p t = p.writes + lifted_many p t * width p

-- the seals that are made: of each slot of the lifted buckets, and of the checkpoint
abbrev pub seals_for_end : Params → FlatTable → ℕ
seals_for_end p t = lifted_many p t * width p + checkpoint_cells p

-- the i-th write has the entry that the i-th word gives, whose id is the generation and how many words were drawn before
abbrev pub end_writes : Params → List Write → List ℕ → (generation drawn : ℕ) → List (Write × Entry)
end_writes p writes words generation drawn = writes_of p writes (take p.writes words) (generation, drawn) (length writes)

-- the lifts, then the writes, then the refill
abbrev pub table_ended : Params → FlatTable → List (Write × Entry) → FlatTable
table_ended p t ws = after p (after p (after p t FinalLifts) (Writes (leaf_writes ws))) Refill

abbrev pub rows_ended : Params → FlatTable → List (Write × Entry) → ℕ
rows_ended p t ws = stash_size p (table_ended p t ws)

-- ---- what is answered

-- there is such an epoch, and its words are left
pub record HasWords (p : Params) (t : FlatTable) (epoch drawn : ℕ) : Type 0 where
  pub epochs : suc epoch < 2 ^ 62
  pub words : drawn + words_for_end p t ≤ 2 ^ 62

module _ (p : Params) (t : FlatTable) (epoch drawn next : ℕ) (ws : List (Write × Entry)) where
  -- so it can be written: the stash isn't too full then, and the seals are left
  pub record MayEndEpoch : Type 0 where
    pub has : HasWords p t epoch drawn
    pub rows : rows_ended p t ws ≤ p.room
    pub seals : next + seals_for_end p t ≤ 2 ^ 62

  -- too few of something are left: epochs; or else words; or else, where the stash isn't too full, seals
  abbrev pub IsWornForEnd : Type 0
  IsWornForEnd =
      (suc epoch ≡ 2 ^ 62)
      ⊎ (((suc epoch < 2 ^ 62) × (2 ^ 62 < drawn + words_for_end p t))
      ⊎ (HasWords p t epoch drawn × (rows_ended p t ws ≤ p.room) × (2 ^ 62 < next + seals_for_end p t)))

  -- what is answered before anything is written
  abbrev pub MakeAnswers : Result (Unit {0}) Fault → Type 0
  MakeAnswers (Ok done) = MayEndEpoch
  MakeAnswers (Err (fault.StoreFault unsure)) = (unsure ≡ None) × (suc epoch < 2 ^ 62)
  MakeAnswers (Err (fault.Damaged cell check kept computed)) = suc epoch < 2 ^ 62
  MakeAnswers (Err (fault.StashFull rows)) = HasWords p t epoch drawn × (rows ≡ rows_ended p t ws) × (p.room < rows_ended p t ws)
  MakeAnswers (Err (fault.Worn number)) = (number ≡ 2 ^ 62) × IsWornForEnd
  MakeAnswers (Err _) = ⊥

  abbrev pub EndAnswers : Result (Unit {0}) EndErr → Type 0
  EndAnswers (Ok done) = MayEndEpoch
  EndAnswers (Err (end.Before refused)) = MakeAnswers (Err refused)
  EndAnswers (Err (end.Unsure refused)) = MayEndEpoch

-- ---- what is drawn

module _ (p : Params) (t : FlatTable) (epoch drawn : ℕ) (old new : List ℕ) where
  -- its words
  abbrev pub DrawsForEnd : Type 0
  DrawsForEnd = DrawsWords (words_for_end p t) old new

  -- Its words, or none where the lifts were refused, or where there is no such epoch, or not its words.
  abbrev pub MakeDraws : Result (Unit {0}) Fault → Type 0
  MakeDraws (Ok done) = DrawsForEnd
  MakeDraws (Err (fault.StashFull rows)) = DrawsForEnd
  MakeDraws (Err (fault.Worn number)) = (HasWords p t epoch drawn × DrawsForEnd) ⊎ ((HasWords p t epoch drawn → ⊥) × (new ≡ old))
  MakeDraws (Err _) = new ≡ old

  -- behind them the store may be refused too
  abbrev pub EndDraws : Result (Unit {0}) EndErr → Type 0
  EndDraws (Ok done) = DrawsForEnd
  EndDraws (Err (end.Unsure refused)) = DrawsForEnd
  EndDraws (Err (end.Before (fault.StoreFault unsure))) = DrawsForEnd ⊎ (new ≡ old)
  EndDraws (Err (end.Before refused)) = MakeDraws (Err refused)

-- ---- what stands

-- behind an end of it: the run's planner has the content
abbrev pub standing_at_end : RingStanding → Run → List (Write × Entry) → RingStanding
standing_at_end s run ws = record { epoch = suc s.epoch; generation = s.generation; map = with_entries s.map ws; content = content_of_ring run.ring; records = [] }

-- where the store stood, it stands for the next epoch, with the writes
abbrev pub EndStands : RingStanding → List (Write × Entry) → Disk → Run → Result (Unit {0}) EndErr → Type 0
EndStands s ws disk run (Ok done) = RunIsAt run (standing_at_end s run ws) disk
EndStands s ws disk run (Err _) = Unit {0}

-- what a crash leaves: the epoch that stood where it was refused before the register's gate was written, else that or the next one
abbrev pub EndImages : Keys → Params → RingStanding → List (Write × Entry) → Run → Result (Unit {0}) EndErr → Image → Type 0
EndImages keys p s ws run (Err (end.Before refused)) image = Stands keys p s image
EndImages keys p s ws run _ image = OneOf keys p s (standing_at_end s run ws) image

-- a refused set refuses the end as it was refused
abbrev pub end_err_of : SetErr → EndErr
end_err_of (set.Before refused) = end.Before refused
end_err_of (set.Unsure refused) = end.Unsure refused

-- what holds once all was written, but maybe for the register
abbrev pub IfEnded : Type 0 → Result (Unit {0}) EndErr → Type 0
IfEnded A (Ok done) = A
IfEnded A (Err (end.Before refused)) = Unit {0}
IfEnded A (Err (end.Unsure refused)) = A

-- ---- the tables then

-- The buckets of this order are sealed anew, the i-th with its words as its slots' ranks, and the others stay as they were sealed.
pub record AreFilledAnew (p : Params) (order : List ℕ) (old new : Buckets) (words : List ℕ) (first : ℕ × ℕ) : Type 0 where
  pub anew : (i : ℕ) → i < length order → IsSealedAnew (version_at old.versions (slice_index order i)) (version_at new.versions (slice_index order i)) first.0 (base_of p first i) (words_of p words i)
  pub homes : (u : ℕ) → is_one_of order u ≡ false → (version_at new.versions u).home ≡ (version_at old.versions u).home
  pub generations : (u : ℕ) → is_one_of order u ≡ false → (version_at new.versions u).generation ≡ (version_at old.versions u).generation
  pub bases : (u : ℕ) → is_one_of order u ≡ false → (version_at new.versions u).base ≡ (version_at old.versions u).base
  pub ranks : (u : ℕ) → is_one_of order u ≡ false → (version_at new.versions u).ranks ≡ (version_at old.versions u).ranks

-- The planner's tables are a content that obeys, and stand for that content's table.
pub record IsAtContent (p : Params) (ring : Kept) : Type 0 where
  pub obeys : Obeys p (content_of_ring ring)
  pub stands : StandsFor ring (flat_of p (content_of_ring ring))

-- each put's key has its place's entry, each del's none, and the other keys what they had
abbrev pub AreEntriesWritten : List (Write × Entry) → Kept → Kept → Type 0
AreEntriesWritten ws old new = (k : ℕ) → entry_at new.book k ≡ entries_after (λ i. entry_at old.book i) ws k

-- The lifted buckets, which are buckets of the tree, take the words behind those of the writes, in the order of the refill.
pub record TakeBucketWords (p : Params) (t : FlatTable) (words : List ℕ) (generation next : ℕ) (old new : Kept) : Type 0 where
  pub within : (u : ℕ) → (after p t FinalLifts).lifted u ≡ true → u < buckets p
  pub filled : AreFilledAnew p (refill_order p (after p t FinalLifts)) old.metas new.metas (drop p.writes words) (generation, next)

-- Once all was written, but maybe for the register, the table is lifted, written and filled anew; a put's key has its own place's word, and
-- the lifted buckets have the words behind those; and what the planner then keeps is a content that obeys the rules of a checkpoint.
pub record EndTables (old new : Run) (ws : List (Write × Entry)) (words : List ℕ) (result : Result (Unit {0}) EndErr) : Type 0 where
  pub table : (t : FlatTable) → StandsFor old.ring t → IfEnded (StandsFor new.ring (table_ended old.params t ws)) result
  pub entries : IfEnded (AreEntriesWritten ws old.ring new.ring) result
  pub filled : (t : FlatTable) → StandsFor old.ring t → IfEnded (TakeBucketWords old.params t words (old.sealer).generation (old.sealer).next old.ring new.ring) result
  pub content : IfEnded (IsAtContent old.params new.ring) result

-- ---- what the store knows of it

-- Behind an end the planner is at the beginning of the next epoch, and what the store then knows of it is what the schedule's end leaves.
pub record LeadsOn (p : Params) (g : ℕ) (c : Content) (rs : List BatchRecord) (epoch : ℕ) (gates : Gates) (ring : Kept) (gates' : Gates) : Type 0 where
  pub plans : PlansFrom p g gates' ring (content_of_ring ring) []
  pub public : after_end p (public_of_kept p c rs epoch gates) ≡ public_of_kept p (content_of_ring ring) [] (suc epoch) gates'

-- ---- what is made before anything is written

-- The planner behind the final lifts is one of these, whatever the store tells; then the writes were made and the buckets filled anew.
pub record IsEndMade (keys : Keys) (disk : Disk) (writes : List Write) (words : List ℕ) (generation drawn next : ℕ) (old new : Kept) : Type 0 where
  pub lifted : Kept
  pub rules : IsRing lifted
  pub kept : lifted ≡ record old { metas = lifted.metas; stash = lifted.stash; counter = lifted.counter }
  pub room : (lifted.stash).room ≡ (old.stash).room
  pub seals : SameSeals (record old.metas { order = (lifted.metas).order }) lifted.metas
  pub listed : IsListed lifted
  pub table : (t : FlatTable) → StandsFor old t → StandsFor lifted (after old.p t FinalLifts)
  pub joins : (t : FlatTable) → StandsFor old t → RowsJoin (lifts_picked old.p t) (old.stash).rows (lifted.stash).rows
  -- where the store tells its cells, they were read as these hold them
  pub read : (start : Buckets) (t : FlatTable) → SameSeals start old.metas → StandsFor old t → disk.tells
      → LiftsAreRead old.p (slots_of old.p start.versions (plains_in keys disk.cells)) t (old.stash).rows (lifted.stash).rows
  pub renews : Renews writes words generation drawn next lifted new

-- what is damaged, where the store tells its cells: of the lifts what comes first
abbrev pub MakeDamage : Keys → Params → List Version → Image → FlatTable → Result (Unit {0}) Fault → Type 0
MakeDamage keys p versions image t (Err (fault.Damaged cell check kept computed)) =
    IsLiftDamage keys p versions image t (record { cell = cell; check = check; kept = kept; computed = computed })
MakeDamage keys p versions image t _ = Unit {0}

-- Refused so, the end is too: before anything was written.
abbrev pub EndDamage : Keys → Params → List Version → Image → FlatTable → Result (Unit {0}) EndErr → Type 0
EndDamage keys p versions image t (Err (end.Before refused)) = MakeDamage keys p versions image t (Err refused)
EndDamage keys p versions image t _ = Unit {0}

-- it isn't refused for damage
abbrev pub IsEndUndamaged : Result (Unit {0}) EndErr → Type 0
IsEndUndamaged (Err (end.Before refused)) = IsUndamaged (Err refused)
IsEndUndamaged _ = Unit {0}

-- What is answered follows from the table; of damage it is what comes first of the lifts, where the store tells its cells, and nothing where
-- it stood.
pub record EndAnswered (run : Run) (before behind : Disk) (ws : List (Write × Entry)) (result : Result (Unit {0}) EndErr) : Type 0 where
  pub answers : (t : FlatTable) → StandsFor run.ring t → EndAnswers run.params t run.epoch run.drawn (run.sealer).next ws result
  pub damage : (start : Buckets) (t : FlatTable) → SameSeals start (run.ring).metas → StandsFor run.ring t → before.tells → EndDamage (run.sealer).keys run.params start.versions behind.cells t result
  pub undamaged : (s : RingStanding) → RunIsAt run s before → IsEndUndamaged result

-- The next epoch runs, with all its batches, and the run serves on; or it was refused: the epoch runs on, and the run is spent.
pub record EndRunCounts (old new : Run) (result : Result (Unit {0}) EndErr) : Type 0 where
  pub served : OnOk result ((new.epoch ≡ suc old.epoch) × (new.left ≡ (old.params).batches) × (new.spent ≡ false))
  pub refused : OnErr result ((new.epoch ≡ old.epoch) × (new.left ≡ old.left) × (new.spent ≡ true))

-- the lifts were read and shown, or, of a store that failed or where numbers are worn, nothing was
abbrev pub MakeTells : ℕ → List ℕ → List Note → Option (List Event) → Option (List Event) → Trace → Trace → Result (Unit {0}) Fault → Type 0
MakeTells most cells notes old new before later (Err (fault.StoreFault unsure)) = BatchIsShown most cells notes old new before later ⊎ NoneIsShown old new before later
MakeTells most cells notes old new before later (Err (fault.Worn number)) = BatchIsShown most cells notes old new before later ⊎ NoneIsShown old new before later
MakeTells most cells notes old new before later _ = BatchIsShown most cells notes old new before later

-- the refusals
abbrev pub IsMakeFault : Fault → Type 0
IsMakeFault (fault.StoreFault unsure) = unsure ≡ None
IsMakeFault (fault.Damaged cell check kept computed) = Unit {0}
IsMakeFault (fault.StashFull rows) = Unit {0}
IsMakeFault (fault.Worn number) = number ≡ 2 ^ 62
IsMakeFault _ = ⊥

-- ---- what the end shows

-- the lifts were read and shown, and then this was done
pub record LiftsThen (most : ℕ) (cells : List ℕ) (notes : List Note) (old new : Option (List Event)) (before later : Trace) (Rest : Option (List Event) → Option (List Event) → Trace → Trace → Type 0) : Type 0 where
  pub mid : Option (List Event)
  pub shown : Trace
  pub lifts : BatchIsShown most cells notes old mid before shown
  pub rest : Rest mid new shown later

-- All of it: the lifts, the end's writes and the register. Refused before the register's gate it may be the first of that alone.
abbrev pub EndDoes : ℕ → List ℕ → List Note → List Note → Bool → ℕ → Option (List Event) → Option (List Event) → Trace → Trace → Result (Unit {0}) EndErr → Type 0
EndDoes most cells notes writes closes epoch old new before later (Ok done) =
    LiftsThen most cells notes old new before later (λ a b k l. CloseDoes writes closes epoch a b k l (Ok tt))
EndDoes most cells notes writes closes epoch old new before later (Err (end.Unsure refused)) =
    LiftsThen most cells notes old new before later (λ a b k l. CloseDoes writes closes epoch a b k l (Err (set.Unsure refused)))
EndDoes most cells notes writes closes epoch old new before later (Err (end.Before (fault.StoreFault unsure))) =
    MakeTells most cells notes old new before later (Err (fault.StoreFault unsure))
    ⊎ LiftsThen most cells notes old new before later (λ a b k l. CloseDoes writes closes epoch a b k l (Err (set.Before (fault.StoreFault unsure))))
EndDoes most cells notes writes closes epoch old new before later (Err (end.Before refused)) = MakeTells most cells notes old new before later (Err refused)
