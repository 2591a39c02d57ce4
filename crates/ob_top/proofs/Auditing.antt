-- What an auditor knows of a format goes on with each run that served.
use Rattle.std.proofs.Common.{◌≡◌, ◌∙◌, ℕ, Bool, false, List, [], ◌∷◌, ◌++◌, Option, None, append_assoc, ap, inl, inr, refl, subst, sym}
use Rattle.std.proofs.lemmas.List.{append-nil}
use Rattle.ob_base.specs.Layout.{EpochTwin, GenerationTwin}
use Rattle.ob_base.specs.declared.params.Params.{Params}
use Rattle.ob_fresh.specs.PublicLives.{AreEndsShown}
use Rattle.ob_opening.specs.OpeningActs.{AreGatesIn, StandsInLife}
use Rattle.ob_recover.specs.Known.{format_gates, gates_open}
use Rattle.ob_recover.specs.Life.{IsActAllowed, LifeAct, LifeState, WordId, formatted_life, reached}
use Rattle.ob_schedule.specs.Follow.{Follow, started}
use Rattle.ob_schedule.specs.Schedule.{Fills, format_notes, gate_cell, head_notes}
use Rattle.ob_schedule.specs.declared.line.Line.{Line}
use Rattle.ob_schedule.specs.declared.line.Line.TheVariants as L
use Rattle.ob_seal.specs.declared.keys.Keys.{Keys}
use Rattle.ob_serial.specs.Vaults.{VaultCall}
use Rattle.ob_store.specs.Disk.{Disk, Image}
use Rattle.ob_store.specs.declared.event.Event.{Event}
use Rattle.ob_store.specs.declared.watch.Note.{Note}
use Rattle.ob_vault.proofs.Fetching.{none_pending}
use Rattle.ob_vault.proofs.Joining.{none_found}
use Rattle.ob_vault.specs.Acts.{AreBatchesSmall, AreTapeWords}
use Rattle.ob_vault.specs.Hidden.{RingHidden}
use Rattle.ob_vault.specs.Joined.{IsRunTold, Served}
use Rattle.ob_vault.specs.KindShown.{steps_notes}
use Rattle.ob_vault.specs.Lives.{RingFormatted}
use Rattle.ob_vault.specs.RingKind.{RingFound, ring_hidden, ring_kind, ring_public}
use Rattle.ob_vault.specs.Seen.{opening_shows}
use Rattle.ob_vault.specs.Shapes.{Shape}
use Rattle.ob_histories.specs.Fills.{AllFills}
use Rattle.ob_histories.specs.Histories.{MayFind, found_formatted, lines_of_notes}
use Rattle.ob_histories.specs.Runs.{HistoryRun, RunFound, is_settled}
use Rattle.ob_histories.specs.Laws.{AreAdmitted, TakesLines}
use Rattle.ob_admitted.proofs.Gating.{both_marked, marked_epoch, marked_generation}
use Rattle.ob_admitted.proofs.Fronting.{IsFrontLeft, refused_left}
use Rattle.ob_admitted.proofs.Going as going
use Rattle.ob_admitted.proofs.Rowing.{goes_on}
use Rattle.ob_admitted.specs.Parts.{IsServedShown}
use Rattle.ob_admitted.specs.Publics.{AreRecordsWhole}
use Rattle.ob_admitted.specs.Wholes.{found_of_life}
use Rattle.ob_top.proofs.Knowing.{acts, few, history_admitted, past_fills, read_then, s, sound, stands}
use Rattle.ob_top.proofs.Rowing.{IsRowPart, part}
use Rattle.ob_top.specs.Again.{new_past}
use Rattle.ob_top.specs.Auditors.{AreHistoryOf, AreNotesAudited, AuditorKnows, FormatsAreRead, IsHeld, IsLifeLeft, IsRunAudited, LeaveLife, MayBegin, RunsAreRead, RunsAreReadFrom}
use Rattle.ob_top.specs.Pasts.{PastLife, life_of, with_acts}
use Rattle.ob_top.specs.Rows.{IsRowRun, TracedRun}

-- ---- a run that served

-- From an image that was left a run of a row goes on: whole, or cut off within a call where these stores are the spans of its stages.
module _ {S : Type 0} (disk : S → Disk) (keys : Keys) (p : Params) (past : PastLife) (in_flight : Option LifeAct) (may_leave : Image → Type 0) (known : Follow) (k : AuditorKnows keys p past in_flight may_leave known)
    (most : ℕ) (old : S) (found : RingFound) (opened : S) (calls : List VaultCall) (steps : List (Shape × Fills)) (behind : RingHidden) (refused : Option VaultCall) (words : List ℕ) (seen : List Event) (new : S)
    (told : IsRunTold disk keys p (Served most old found opened calls steps behind refused words seen new)) (tape : AreTapeWords past.word_of (ring_hidden found).generation words)
    (notes : List Note) (is : IsFrontLeft disk keys p most old found opened calls steps behind refused words seen new told notes) (may : may_leave (disk old).cells) where
  abbrev before : List LifeAct
  before = acts keys p past in_flight may_leave known k (disk old).cells may

  abbrev serves : List LifeAct
  serves = going.serves disk keys p past.word_of past.slot (k.life).ranked most old found opened calls steps behind refused words seen new told tape notes is before (sound keys p past in_flight may_leave known k (disk old).cells may) (stands keys p past in_flight may_leave known k (disk old).cells may)
      (few keys p past in_flight may_leave known k (disk old).cells may)

  abbrev made : List LifeAct
  made = going.made disk keys p past.word_of past.slot (k.life).ranked most old found opened calls steps behind refused words seen new told tape notes is before (sound keys p past in_flight may_leave known k (disk old).cells may) (stands keys p past in_flight may_leave known k (disk old).cells may)
      (few keys p past in_flight may_leave known k (disk old).cells may)

  abbrev then : LifeState
  then = reached p past.word_of (s keys p past in_flight may_leave known k (disk old).cells may) (serves ++ made)

  acts_are : (xs : List LifeAct) → before ++ (serves ++ (made ++ xs)) ≡ (before ++ (serves ++ made)) ++ xs
  acts_are xs = ap (λ (ys : List LifeAct). before ++ ys) (sym (append_assoc serves made xs)) ∙ sym (append_assoc before (serves ++ made) xs)

  pub served_read : AreNotesAudited keys p past known notes (disk new).may_leave
  served_read =
      let so = sound keys p past in_flight may_leave known k (disk old).cells may in
      let at = stands keys p past in_flight may_leave known k (disk old).cells may in
      let small = few keys p past in_flight may_leave known k (disk old).cells may in
      read_then keys p past in_flight may_leave known k (disk old).cells may
      (going.last disk keys p past.word_of past.slot (k.life).ranked most old found opened calls steps behind refused words seen new told tape notes is before so at small) (disk new).may_leave
      (going.left_then disk keys p past.word_of past.slot (k.life).ranked most old found opened calls steps behind refused words seen new told tape notes is before so at small)
      (going.small_then disk keys p past.word_of past.slot (k.life).ranked most old found opened calls steps behind refused words seen new told tape notes is before so at small) (serves ++ made) acts_are notes
      (((is.shown).found_in).found).gates (record { generation = (((is.shown).found_in).found_in).generation_gates; epoch = (((is.shown).found_in).found_in).epoch_gates })
      (λ f here filled.
      let shown = going.shown_so disk keys p past.word_of past.slot (k.life).ranked most old found opened calls steps behind refused words seen new told tape notes is before so at small f here filled in
      let run : HistoryRun = (shown.0).run in (
        shown.0,
        λ latest finds c will xs found_then stands_then g are.
            goes_on p past.word_of f run latest (found_of_life p (reached p past.word_of then xs) (gates_open g)) (is_settled p f run.mirrored run.found run.steps run.shown)
            (subst (λ (y : RunFound). MayFind p f latest y) (sym (shown.0).finds) finds)
            (going.found_so disk keys p past.word_of past.slot (k.life).ranked most old found opened calls steps behind refused words seen new told tape notes is before so at small f here filled xs found_then c will stands_then g are),
      ))

module _ {S : Type 0} (disk : S → Disk) (keys : Keys) (p : Params) (past : PastLife) (in_flight : Option LifeAct) (may_leave : Image → Type 0) (known : Follow) (k : AuditorKnows keys p past in_flight may_leave known)
    (r : TracedRun S) (one : IsRowRun disk keys p may_leave r) (tape : AreTapeWords past.word_of (r.tape).generation (r.tape).words) where
  abbrev x : IsRowPart disk keys p r
  x = part disk keys p may_leave r one

  abbrev rows_notes : List Note
  rows_notes = (head_notes ++ opening_shows p (x.found).content (x.found).records ((x.found).run).epoch (((x.found).run).sealer).generation ((x.found_in).found).gates ++ steps_notes ring_kind p (ring_public p x.found) x.steps) ++ x.last

  abbrev told : IsRunTold disk keys p (Served (r.by).lanes r.old x.found x.opened x.calls x.steps x.behind x.refused (r.tape).words x.seen r.new)
  told = (x.begins, (x.left).goes, (x.map_found, x.is_map))

  abbrev shown : IsServedShown keys (r.by).lanes p (disk r.old).cells x.found x.calls x.steps x.behind x.refused (r.tape).words x.seen rows_notes
  shown = record { found_in = x.found_in; steps_are = x.steps_are; more = x.last; refused_shown = (x.left).shown; notes_are = refl }

  is_read : IsRunAudited disk keys p past known r
  is_read = record {
    notes = rows_notes;
    shown = x.shown;
    audited = served_read disk keys p past in_flight may_leave known k (r.by).lanes r.old x.found x.opened x.calls x.steps x.behind x.refused (r.tape).words x.seen r.new told
        (subst (λ (n : ℕ). AreTapeWords past.word_of n (r.tape).words) (sym x.generation) tape) rows_notes
        (refused_left disk keys p (r.by).lanes r.old x.found x.opened x.calls x.steps x.behind x.refused (r.tape).words x.seen r.new told rows_notes
        (record { shown = shown; noted = (x.left).noted; gated = (x.left).gated x.knows x.map_found x.is_map x.opened_gate })) one.begun;
  }

pub runs_read : {S : Type 0} (disk : S → Disk) → RunsAreRead disk
runs_read disk keys p past in_flight last known k r one tape = is_read disk keys p past in_flight (disk last).may_leave known k r one tape

pub runs_read_from : {S : Type 0} (disk : S → Disk) → RunsAreReadFrom disk
runs_read_from disk keys p past in_flight known r k one tape = is_read disk keys p past in_flight (IsHeld (disk r.old)) known k r one tape

-- ---- a format that is read

module _ {S : Type 0} (disk : S → Disk) (keys : Keys) (p : Params) (words : List ℕ) (made : S) (formatted : RingFormatted keys p words (disk made)) (shut : (c : Image) → (disk made).may_leave c → AreGatesIn format_gates c) (word_of : WordId → ℕ) where
  abbrev start : PastLife
  start = new_past word_of formatted.slot

  abbrev format_lines : List Line
  format_lines = lines_of_notes (format_notes p)

  start_left : IsLifeLeft keys p start None (disk made).may_leave
  start_left = record {
    ranked = formatted.ranked;
    is_life = tt;
    left = λ c may. record { allowed = λ a e. none_pending (IsActAllowed p word_of (formatted_life formatted.slot) a) a e; stands = λ i same. inl (subst (λ (image : Image). StandsInLife keys p word_of (formatted_life formatted.slot) image) same (formatted.stands word_of c may)) };
    small = λ found finds. subst (λ (l : List LifeAct). AreBatchesSmall (reached p word_of (formatted_life formatted.slot) l).log) (sym (none_found found finds)) formatted.small;
    whole = λ found finds life. subst (λ (l : List LifeAct). AreRecordsWhole p l × AreEndsShown p word_of (formatted_life formatted.slot) l) (sym (none_found found finds)) (tt, tt);
  }

  -- the gates that are set next are found closed
  first_found : (next : ℕ → Bool) → MayBegin keys p start (disk made).may_leave next → found_of_life p (formatted_life formatted.slot) next ≡ found_formatted
  first_found next b =
      let known = shut b.image b.may in
      let generation : next (gate_cell p GenerationTwin 2) ≡ false = ap (λ (g : ℕ → Bool). g (gate_cell p GenerationTwin 2)) b.gates_are ∙ marked_generation b.has 0 (inl refl) ∙ both_marked (b.has).generation format_gates.generation 1 b.image b.image 0 (inl refl) (b.in_image).generation known.generation refl in
      let epoch : next (gate_cell p EpochTwin 1) ≡ false = ap (λ (g : ℕ → Bool). g (gate_cell p EpochTwin 1)) b.gates_are ∙ marked_epoch b.has 1 (inr refl) ∙ both_marked (b.has).epoch format_gates.epoch 5 b.image b.image 1 (inr refl) (b.in_image).epoch known.epoch refl in
      λ i. record { epoch = 0; generation = 1; records = 0; generation_gate = generation i; epoch_gate = epoch i }

  start_history : (f : AllFills) → (is : AreHistoryOf p f format_lines) × LeaveLife keys p start None (disk made).may_leave f is.runs
  start_history f = (
    record { runs = []; behind = tt; are = sym (append-nil format_lines) },
    λ found finds next b.
        subst (λ (l : List LifeAct). MayBegin keys p (with_acts start l) (disk made).may_leave next → found_of_life p (life_of p (with_acts start l)) next ≡ found_formatted) (sym (none_found found finds)) (first_found next) b,
  )

  start_admitted : AreAdmitted (L.Start p ∷ format_lines)
  start_admitted = (let has = past_fills p word_of formatted.slot [] formatted.ranked tt in history_admitted p has.0 format_lines has.1.0 (start_history has.0).0)

  start_known : (known : Follow) × TakesLines (started p) format_lines known × AuditorKnows keys p start None (disk made).may_leave known
  start_known =
      let (known, takes) = start_admitted in
      (known, takes, record { life = start_left; lines = format_lines; takes = takes; history = λ f are filled. start_history f })

pub formats_read : {S : Type 0} (disk : S → Disk) → FormatsAreRead disk
formats_read disk keys p made_by blank made formatted told word_of =
    let begins = formatted.begins_life told in
    let known = start_known disk keys p made_by.words made begins (formatted.gates told) word_of in
    (begins.slot, known.0, known.1, known.2)
