-- What an auditor knows goes on with openings that stopped, and so with runs that were refused.
use Rattle.std.proofs.Common.{◌≡◌, ◌-◌, ◌%◌, ◌+◌, ℕ, zero, suc, Bool, false, cond, List, [], ◌∷◌, ◌++◌, length, take, Option, None, Some, ap, append_assoc, arith, inl, inr, refl, subst, sym}
use Rattle.std.proofs.lemmas.Bool.{le-ltb}
use Rattle.std.proofs.lemmas.List.{append-nil}
use Rattle.ob_base.specs.Layout.{EpochTwin, GenerationTwin, LogArea}
use Rattle.ob_base.specs.Tree.{width}
use Rattle.ob_base.specs.declared.params.Params.{Params}
use Rattle.ob_opening.specs.OpeningActs.{AreGatesIn, IsLeftAt, StandsInLife}
use Rattle.ob_recover.specs.Calls.{Finds}
use Rattle.ob_recover.specs.Known.{gates_open}
use Rattle.ob_recover.specs.Life.{IsActAllowed, LifeAct, LifeState, reached}
use Rattle.ob_schedule.specs.Follow.{Follow}
use Rattle.ob_schedule.specs.Schedule.{check_cells, head_notes, reads_of, region_cells}
use Rattle.ob_schedule.specs.declared.line.Line.TheVariants as L
use Rattle.ob_seal.specs.declared.keys.Keys.{Keys}
use Rattle.ob_store.specs.Disk.{Disk, Image}
use Rattle.ob_store.specs.Images.{Passes, Same}
use Rattle.ob_store.specs.declared.watch.Note.{Note}
use Rattle.ob_tables.specs.Rank.{IsRanking}
use Rattle.ob_twin.specs.Keyed.{tagging}
use Rattle.ob_twin.specs.Register.{StandsAt}
use Rattle.ob_twin.specs.declared.gates.Gates.{Gates}
use Rattle.ob_vault.proofs.Fetching.{none_pending}
use Rattle.ob_vault.proofs.Joining.{none_found}
use Rattle.ob_vault.specs.Acts.{AreBatchesSmall}
use Rattle.ob_histories.specs.Fills.{AllFills, AreAllFills}
use Rattle.ob_histories.specs.Histories.{MayFind, lines_of_notes}
use Rattle.ob_histories.specs.Runs.{HistoryRun, RunFound, is_settled, opening_reads}
use Rattle.ob_admitted.proofs.Begun as begun
use Rattle.ob_admitted.proofs.Stopped.{At, IsSound, front_of, gates_of, reads_barely}
use Rattle.ob_admitted.specs.Rows.{IsBarelyOpened, IsRunShown}
use Rattle.ob_admitted.specs.Stopped.{IsBegunLeft, IsStopShown, StopsBegun, StopsReading, begun_row}
use Rattle.ob_admitted.specs.Wholes.{found_of_life}
use Rattle.ob_top.proofs.Knowing.{acts, audited, audited_within, few, leads, leave_within, life_within, read_then, run_leaves, s, sound, stands, with_run}
use Rattle.ob_top.proofs.Refusing.{counted, head_part, opening_part, opening_shown}
use Rattle.ob_top.specs.AuditedStops.{HeadsAreRead, IsHeldOrLeft, IsSurelyLeft, OpeningsAreRead, StopsAreRead}
use Rattle.ob_top.specs.Auditors.{AreHistoryOf, AreNotesAudited, AuditorKnows, FillsPast, LeaveLife, last_settled}
use Rattle.ob_top.specs.Pasts.{PastLife}
use Rattle.ob_top.specs.Refusals.{notes_when_stopped}

module _ (keys : Keys) (p : Params) (past : PastLife) (in_flight : Option LifeAct) (known : Follow) (old new : Disk) (notes : List Note) (k : AuditorKnows keys p past in_flight (IsHeldOrLeft old) known) where
  abbrev image : Image
  image = old.cells

  abbrev before : List LifeAct
  before = acts keys p past in_flight (IsHeldOrLeft old) known k image (inl refl)

  abbrev here : LifeState
  here = s keys p past in_flight (IsHeldOrLeft old) known k image (inl refl)

  -- ---- it came to its reads at most: nothing is settled

  module _ (reads : StopsReading keys p old new notes) where
    within : (c : Image) → new.may_leave c → IsHeldOrLeft old c
    within c will = inr (reads.shrinks c will)

    abbrev gates : Gates
    gates = (gates_of image).0

    abbrev x : RunFound
    x = found_of_life p here (gates_open gates)

    stood : StandsAt (tagging keys) 5 image here.epoch
    stood = (let so = stands keys p past in_flight (IsHeldOrLeft old) known k image (inl refl) in subst (λ (n : ℕ). StandsAt (tagging keys) 5 image n) so.epoch (so.stands).epoch)

    module _ (f : AllFills) (are : AreAllFills p f) (filled : FillsPast p past f) where
      barely : IsBarelyOpened p f x notes
      barely = (let some = reads.shown here.epoch stood in reads_barely p f x here.epoch refl notes some.0 some.1)

      one : IsRunShown p f here (gates_open gates) notes
      one = record { run = record { mirrored = false; found = x; steps = 0; shown = barely.count }; alone = refl; finds = refl; shows = barely.shows }

      unsettled : is_settled p f false x 0 barely.count ≡ false
      unsettled = le-ltb (length (opening_reads p f false x)) barely.count barely.few

      abbrev was : (is : AreHistoryOf p f k.lines) × LeaveLife keys p past in_flight (IsHeldOrLeft old) f is.runs
      was = k.history f are filled

      abbrev last : Option HistoryRun
      last = last_settled p f None (was.0).runs

      finds_here : MayFind p f last x
      finds_here = leads keys p past in_flight (IsHeldOrLeft old) known k image (inl refl) f are filled gates (gates_of image).1

      still : (y : RunFound) → MayFind p f last y → MayFind p f (cond (is_settled p f false x 0 barely.count) (Some (record { mirrored = false; found = x; steps = 0; shown = barely.count })) last) y
      still y finds = subst (λ (b : Bool). MayFind p f (cond b (Some (record { mirrored = false; found = x; steps = 0; shown = barely.count })) last) y) (sym unsettled) finds

      goes : (is : AreHistoryOf p f (k.lines ++ L.Open false ∷ lines_of_notes notes)) × LeaveLife keys p past in_flight new.may_leave f is.runs
      unfolding one
      goes = (
        with_run p f k.lines was.0 here (gates_open gates) finds_here notes one,
        λ found finds next b.
            let y : RunFound = found_of_life p (At keys p past.word_of past.slot (past.acts ++ found)) next in
            run_leaves p f k.lines was.0 here (gates_open gates) finds_here notes one y
            (still y (leave_within keys p past in_flight (IsHeldOrLeft old) new.may_leave within f (was.0).runs was.1 found finds next b)),
      )

    pub reads_audited : AreNotesAudited keys p past known notes new.may_leave
    reads_audited = audited keys p past known k.lines k.takes notes past.acts [] (sym (append-nil past.acts)) in_flight new.may_leave (life_within keys p past in_flight (IsHeldOrLeft old) new.may_leave within k.life) goes

  -- ---- it showed its first sync

  module _ (b : StopsBegun keys p old new notes) where
    abbrev ranked : (u : ℕ) → IsRanking (width p) (past.slot u)
    ranked = (k.life).ranked

    so : IsSound keys p past.word_of past.slot before
    so = sound keys p past in_flight (IsHeldOrLeft old) known k image (inl refl)

    at : StandsInLife keys p past.word_of here image
    at = stands keys p past in_flight (IsHeldOrLeft old) known k image (inl refl)

    small : AreBatchesSmall here.log
    small = few keys p past in_flight (IsHeldOrLeft old) known k image (inl refl)

    abbrev lacking : ℕ
    lacking = length (begun_row p (b.found)) - b.count

    gates_here : AreGatesIn (b.found).gates image
    gates_here = begun.gates_in keys p past.word_of past.slot ranked old new notes b before so at small

    -- some of its notes lack: the generation hasn't begun, or it surely hasn't
    module _ (lack : ℕ) (is : lacking ≡ suc lack) where
      number_by : (n : ℕ) → lacking ≡ suc n → (c : Image) → IsSurelyLeft keys p old new notes c → StandsAt (tagging keys) 1 c (b.found).generation
      number_by zero one c will = will.before b.found b.found_in (counted p b.found b.count notes b.notes_are (omega (arith, one)))
      number_by (suc n) two c will = (begun.left_by keys p past.word_of past.slot ranked old new notes b before so at small (suc (suc n)) two c will.left).stands

      number : (c : Image) → IsSurelyLeft keys p old new notes c → StandsAt (tagging keys) 1 c (b.found).generation
      number = number_by lack is

      left_so : (c : Image) → new.may_leave c → IsBegunLeft keys (b.found).generation image (suc lack) c
      left_so c will = begun.left_by keys p past.word_of past.slot ranked old new notes b before so at small (suc lack) is c will

      left_short : (c : Image) → IsSurelyLeft keys p old new notes c → IsLeftAt keys p past.word_of here None c
      left_short c will = record {
        allowed = λ a e. none_pending (IsActAllowed p past.word_of here a) a e;
        stands = λ i same. inl (subst (λ (y : Image). StandsInLife keys p past.word_of here y) same (begun.stands_old keys p past.word_of past.slot ranked old new notes b before so at small c ((left_so c will.left).gates).rest (number c will)));
      }

      small_short : (found : List LifeAct) → Finds None found → AreBatchesSmall (reached p past.word_of here found).log
      small_short found finds = subst (λ (xs : List LifeAct). AreBatchesSmall (reached p past.word_of here xs).log) (sym (none_found found finds)) small

      abbrev run : HistoryRun
      run = begun.run keys p past.word_of past.slot ranked old new notes b before so at small

      abbrev After : AllFills → Option HistoryRun → RunFound → Type 0
      After f latest y = MayFind p f (cond (is_settled p f false run.found 0 b.count) (Some run) latest) y

      finds_short : (f : AllFills) (latest : Option HistoryRun) (c : Image) → IsSurelyLeft keys p old new notes c → (found : List LifeAct) → Finds None found → (g : Gates) → AreGatesIn g c → After f latest (found_of_life p (reached p past.word_of here found) (gates_open g))
      finds_short f latest c will found finds g in_g =
          subst (λ (xs : List LifeAct). After f latest (found_of_life p (reached p past.word_of here xs) (gates_open g))) (sym (none_found found finds))
          (subst (λ (yes : Bool). MayFind p f (cond yes (Some run) latest) (found_of_life p here (gates_open g))) (sym (begun.settled keys p past.word_of past.slot ranked old new notes b before so at small f))
          (begun.short_finds keys p past.word_of past.slot ranked old new notes b before so at small f lack is c (left_so c will.left) (number c will) g in_g))

      short_audited : AreNotesAudited keys p past known notes (IsSurelyLeft keys p old new notes)
      short_audited =
          read_then keys p past in_flight (IsHeldOrLeft old) known k image (inl refl) (begun.last_short keys p past.word_of past.slot ranked old new notes b before so at small) (IsSurelyLeft keys p old new notes) left_short small_short []
          (λ xs. ap (λ (ys : List LifeAct). ys ++ xs) (sym (append-nil before))) notes (b.found).gates gates_here
          (λ f life filled. (begun.short_run keys p past.word_of past.slot ranked old new notes b before so at small f (omega (arith, is)), λ latest finds c will found found_none stood g in_g. finds_short f latest c will found found_none g in_g))

    -- none lacks: it has
    module _ (is : lacking ≡ 0) where
      abbrev begins : List LifeAct
      begins = begun.begins keys p past.word_of past.slot ranked old new notes b before so at small

      begun_audited : AreNotesAudited keys p past known notes new.may_leave
      begun_audited =
          read_then keys p past in_flight (IsHeldOrLeft old) known k image (inl refl) (begun.last_begun keys p past.word_of past.slot ranked old new notes b before so at small) new.may_leave
          (begun.left_begun keys p past.word_of past.slot ranked old new notes b before so at small is) (begun.small_begun keys p past.word_of past.slot ranked old new notes b before so at small is) begins
          (λ xs. sym (append_assoc before begins xs)) notes (b.found).gates gates_here
          (λ f life filled. (
            (begun.shown_so keys p past.word_of past.slot ranked old new notes b before so at small is f life filled).0,
            λ latest finds c will found found_none stood g in_g.
                begun.found_so keys p past.word_of past.slot ranked old new notes b before so at small is f life filled latest finds c will found found_none g in_g,
          ))

    begun_by : (n : ℕ) → lacking ≡ n → AreNotesAudited keys p past known notes (IsSurelyLeft keys p old new notes)
    begun_by zero none = audited_within keys p past known notes new.may_leave (IsSurelyLeft keys p old new notes) (λ c will. will.left) (begun_audited none)
    begun_by (suc lack) some = short_audited lack some

  stop_audited : IsStopShown keys p old new notes → AreNotesAudited keys p past known notes (IsSurelyLeft keys p old new notes)
  stop_audited (inl reads) = audited_within keys p past known notes new.may_leave (IsSurelyLeft keys p old new notes) (λ c will. will.left) (reads_audited reads)
  stop_audited (inr begun) = begun_by begun (length (begun_row p begun.found) - begun.count) refl

-- ---- the laws

pub stops_read : {S : Type 0} (disk : S → Disk) → StopsAreRead disk
stops_read disk keys p past in_flight known old new notes k stop = stop_audited keys p past in_flight known (disk old) (disk new) notes k stop

pub openings_read : {S : Type 0} (disk : S → Disk) → OpeningsAreRead disk
openings_read disk keys p past in_flight known r k head stopped =
    let notes = notes_when_stopped disk keys p r stopped in
    (opening_shown disk keys p r head stopped, stop_audited keys p past in_flight known (disk r.old) (disk r.new) notes k (opening_part disk keys p r stopped).stop)

pub heads_read : {S : Type 0} (disk : S → Disk) → HeadsAreRead disk
heads_read disk keys p past in_flight known r k head came =
    let x = head_part disk keys p r head came in
    let notes : List Note = take x.count head_notes in
    record { notes = notes; shown = x.shown; audited = reads_audited keys p past in_flight known (disk r.old) (disk r.new) notes k (reading_head x.count x.passes) }
  where
    reading_head : (count : ℕ) → Passes Same (disk r.old) (disk r.new) → StopsReading keys p (disk r.old) (disk r.new) (take count head_notes)
    reading_head count passes = record {
      shown = λ epoch stood. (let front = front_of count head_notes (reads_of (region_cells p GenerationTwin ++ region_cells p EpochTwin) ++ reads_of (check_cells p (epoch % 2)) ++ reads_of (region_cells p (LogArea ((epoch + 1) % 2)))) in (front.0, front.2));
      shrinks = λ c will. (let (was, may, same) = passes.now c will in subst (λ (i : Image). (disk r.old).may_leave i) (sym same) may);
    }
