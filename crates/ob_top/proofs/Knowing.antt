-- What an auditor knows goes on behind one more run: one that served, or an opening that stopped.
use Rattle.std.proofs.Common.{◌≡◌, ◌∙◌, ℕ, Bool, false, cond, List, [], ◌∷◌, ◌++◌, Option, None, Some, append_assoc, ap, inl, refl, subst, sym}
use Rattle.std.specs.List.{flat_map}
use Rattle.std.proofs.lemmas.List.{append-nil}
use Rattle.std.proofs.lemmas.List.Concat.{flat_map-append}
use Rattle.ob_audit.specs.Traces.{Admitted, lines_in}
use Rattle.ob_base.specs.Tree.{width}
use Rattle.ob_base.specs.declared.params.Params.{Params}
use Rattle.ob_opening.proofs.ActLaws.{FoundActs, found_acts}
use Rattle.ob_opening.specs.OpeningActs.{AreGatesIn, IsLeftAt, StandsInLife}
use Rattle.ob_recover.proofs.Pads.{life_goes_on}
use Rattle.ob_recover.specs.Calls.{Finds}
use Rattle.ob_recover.specs.Known.{gates_open}
use Rattle.ob_recover.specs.Life.{IsLife, LifeAct, LifeState, WordId, formatted_life, life_slots, planned_labels, reached}
use Rattle.ob_schedule.proofs.Determined.{determined}
use Rattle.ob_schedule.specs.Follow.{Follow, started}
use Rattle.ob_schedule.specs.Schedule.{format_notes}
use Rattle.ob_schedule.specs.declared.line.Line.{Line}
use Rattle.ob_schedule.specs.declared.line.Line.TheVariants as L
use Rattle.ob_seal.specs.declared.keys.Keys.{Keys}
use Rattle.ob_store.specs.Disk.{Image}
use Rattle.ob_store.specs.Lines.{lines_of, open_line}
use Rattle.ob_store.specs.declared.watch.Note.{Note}
use Rattle.ob_tables.specs.Rank.{IsRanking}
use Rattle.ob_twin.specs.declared.gates.Gates.{Gates}
use Rattle.ob_vault.proofs.Whole.{reached_join}
use Rattle.ob_vault.specs.Acts.{AreBatchesSmall}
use Rattle.ob_histories.proofs.Admitting.{admitted}
use Rattle.ob_histories.proofs.Written.{behind_takes, lines_are}
use Rattle.ob_histories.specs.Fills.{AllFills, AreAllFills}
use Rattle.ob_histories.specs.Histories.{AreRunsBehind, IsHistory, MayFind, lines_of_notes, run_lines}
use Rattle.ob_histories.specs.Laws.{AreAdmitted, TakesLines}
use Rattle.ob_histories.specs.Runs.{HistoryRun, RunFound, is_settled}
use Rattle.ob_histories.specs.Texts.{HaveTexts}
use Rattle.ob_admitted.proofs.Acts.{life_last}
use Rattle.ob_admitted.proofs.Living.{lives_are_filled}
use Rattle.ob_admitted.proofs.Parts.{Filled, filled_first, filled_last}
use Rattle.ob_admitted.proofs.Stopped.{At, IsSound, Last, filled_at, found_life}
use Rattle.ob_admitted.specs.Fills.{FillsAll, HasFills}
use Rattle.ob_admitted.specs.Lives.{IsLifeFilled}
use Rattle.ob_admitted.specs.Rows.{IsRunShown}
use Rattle.ob_admitted.specs.Wholes.{found_of_life}
use Rattle.ob_top.proofs.Bytes.{notes_text}
use Rattle.ob_top.specs.Auditors.{AreHistoryOf, AreNotesAudited, AuditorKnows, FillsPast, IsLifeLeft, LeaveLife, MayBegin, last_settled}
use Rattle.ob_top.specs.Pasts.{PastLife, life_of, with_acts}

-- ---- lines

takes_once : (known a b : Follow) (lines : List Line) → TakesLines known lines a → TakesLines known lines b → a ≡ b
takes_once known a b [] one two = one ∙ sym two
takes_once known a b (line ∷ lines) (g, first, one) (h, also, two) =
    takes_once h a b lines (subst (λ (k : Follow). TakesLines k lines a) (determined known line g h first also) one) two

takes_parts : (known last : Follow) (xs ys : List Line) → TakesLines known (xs ++ ys) last → (mid : Follow) × (TakesLines known xs mid × TakesLines mid ys last)
takes_parts known last [] ys takes = (known, (refl, takes))
takes_parts known last (x ∷ xs) ys (next, first, rest) = (let later = takes_parts next last xs ys rest in (later.0, ((next, first, later.1.0), later.1.1)))

texts_last : (xs ys : List Line) → HaveTexts (xs ++ ys) → HaveTexts ys
texts_last [] ys have = have
texts_last (L.Start p ∷ xs) ys have = texts_last xs ys have
texts_last (L.Open mirrored ∷ xs) ys have = texts_last xs ys have
texts_last (L.Note note ∷ xs) ys have = texts_last xs ys have.1
texts_last (L.Bad ∷ xs) ys have = absurd have

-- ---- runs of a history

behind_more : (p : Params) (f : AllFills) (last : Option HistoryRun) (runs : List HistoryRun) (run : HistoryRun) → AreRunsBehind p f last runs → MayFind p f (last_settled p f last runs) run.found → AreRunsBehind p f last (runs ++ run ∷ [])
behind_more p f last [] run are may = (may, tt)
behind_more p f last (one ∷ runs) run (first, are) may = (first, behind_more p f (cond (is_settled p f one.mirrored one.found one.steps one.shown) (Some one) last) runs run are may)

settled_more : (p : Params) (f : AllFills) (last : Option HistoryRun) (runs : List HistoryRun) (run : HistoryRun)
    → last_settled p f last (runs ++ run ∷ []) ≡ cond (is_settled p f run.mirrored run.found run.steps run.shown) (Some run) (last_settled p f last runs)
settled_more p f last [] run = refl
settled_more p f last (one ∷ runs) run = settled_more p f (cond (is_settled p f one.mirrored one.found one.steps one.shown) (Some one) last) runs run

lines_more : (p : Params) (f : AllFills) (before : List Line) (runs : List HistoryRun) (run : HistoryRun) → (before ++ flat_map (run_lines p f) runs) ++ run_lines p f run ≡ before ++ flat_map (run_lines p f) (runs ++ run ∷ [])
lines_more p f before runs run =
    append_assoc before (flat_map (run_lines p f) runs) (run_lines p f run)
    ∙ ap (λ (lines : List Line). before ++ lines) (ap (λ (more : List Line). flat_map (run_lines p f) runs ++ more) (sym (append-nil (run_lines p f run))) ∙ sym (flat_map-append (run_lines p f) runs (run ∷ [])))

-- a run more
module _ (p : Params) (f : AllFills) (lines : List Line) (was : AreHistoryOf p f lines) (s : LifeState) (gates : ℕ → Bool) (may : MayFind p f (last_settled p f None was.runs) (found_of_life p s gates)) (notes : List Note) (one : IsRunShown p f s gates notes) where
  abbrev before : Option HistoryRun
  before = last_settled p f None was.runs

  pub with_run : AreHistoryOf p f (lines ++ L.Open false ∷ lines_of_notes notes)
  with_run = record {
    runs = was.runs ++ one.run ∷ [];
    behind = behind_more p f None was.runs one.run was.behind (subst (λ (x : RunFound). MayFind p f before x) (sym one.finds) may);
    are = (λ i. was.are i ++ L.Open (sym one.alone i) ∷ lines_of_notes (one.shows i)) ∙ lines_more p f (lines_of_notes (format_notes p)) was.runs one.run;
  }

  pub run_leaves : (x : RunFound) → MayFind p f (cond (is_settled p f one.run.mirrored one.run.found one.run.steps one.run.shown) (Some one.run) before) x → MayFind p f (last_settled p f None with_run.runs) x
  unfolding with_run
  run_leaves x leaves = subst (λ (last : Option HistoryRun). MayFind p f last x) (sym (settled_more p f None was.runs one.run)) leaves

-- the lines of a history are admitted
pub history_admitted : (p : Params) (f : AllFills) (lines : List Line) → AreAllFills p f → AreHistoryOf p f lines → AreAdmitted (L.Start p ∷ lines)
history_admitted p f lines filled is =
    let all : IsHistory p (L.Start p ∷ lines) = record { fills = f; runs = is.runs; filled = filled; found = is.behind; are = ap (λ (more : List Line). L.Start p ∷ more) is.are } in
    subst (λ (more : List Line). AreAdmitted (L.Start p ∷ more)) (append-nil lines) (admitted ((L.Start p ∷ lines) ∷ []) ((p, inl all), tt))

-- ---- what is known behind the notes of a run

-- some fills that a life has
pub past_fills : (p : Params) (word_of : WordId → ℕ) (slot : ℕ → ℕ → ℕ) (acts : List LifeAct) → ((u : ℕ) → IsRanking (width p) (slot u)) → IsLife p word_of (formatted_life slot) acts
    → (f : AllFills) × (AreAllFills p f × FillsAll p word_of f (planned_labels p word_of (reached p word_of (formatted_life slot) acts)) (life_slots p word_of (formatted_life slot) acts))
past_fills p word_of slot acts ranked life = (let has : HasFills p word_of (formatted_life slot) acts = lives_are_filled p word_of slot acts ranked life in (has.fills, (has.are, record { leaves = (has.planned).leaves; slots_are = (has.shown).slots_are })))

abbrev pub acted : PastLife → List LifeAct → PastLife
acted past acts = record { word_of = past.word_of; slot = past.slot; acts = acts }

module _ (keys : Keys) (p : Params) (past : PastLife) (known : Follow) (lines : List Line) (takes : TakesLines (started p) lines known) (notes : List Note) (all more : List LifeAct) (are_all : all ≡ past.acts ++ more) (in_flight : Option LifeAct) (leaves : Image → Type 0)
    (life : IsLifeLeft keys p (acted past all) in_flight leaves)
    (history : (fills : AllFills) → AreAllFills p fills → FillsPast p (acted past all) fills → (is : AreHistoryOf p fills (lines ++ L.Open false ∷ lines_of_notes notes)) × LeaveLife keys p (acted past all) in_flight leaves fills is.runs) where
  abbrev new_lines : List Line
  new_lines = L.Open false ∷ lines_of_notes notes

  are_admitted : AreAdmitted (L.Start p ∷ (lines ++ new_lines))
  are_admitted = (let has = past_fills p past.word_of past.slot all life.ranked life.is_life in history_admitted p has.0 (lines ++ new_lines) has.1.0 (history has.0 has.1.0 has.1.1).0)

  -- the lines behind what was known
  goes_on : (then : Follow) × (TakesLines (started p) (lines ++ new_lines) then × TakesLines known new_lines then)
  goes_on =
      let (then, all_taken) = are_admitted in
      let parts = takes_parts (started p) then lines new_lines all_taken in
      (then, (all_taken, subst (λ (f : Follow). TakesLines f new_lines then) (takes_once (started p) parts.0 known lines parts.1.0 takes) parts.1.1))

  new_text : Admitted (Some known) (lines_in (open_line false ++ lines_of notes)) (Some goes_on.0)
  new_text =
      let have : HaveTexts new_lines = texts_last lines new_lines (lines_are.written (L.Start p ∷ (lines ++ new_lines)) are_admitted) in
      subst (λ (text : List ℕ). Admitted (Some known) (lines_in text) (Some goes_on.0)) (ap (λ (text : List ℕ). open_line false ++ text) (notes_text notes))
      ((lines_are.texts (Some known) (Some goes_on.0) new_lines have).1 (behind_takes known goes_on.0 new_lines goes_on.1.1))

  pub audited : AreNotesAudited keys p past known notes leaves
  audited = record {
    then = goes_on.0;
    takes = goes_on.1.1;
    read = new_text;
    more = more;
    in_flight = in_flight;
    knows = subst (λ (acts : List LifeAct). AuditorKnows keys p (acted past acts) in_flight leaves goes_on.0) are_all (record { life = life; lines = lines ++ new_lines; takes = goes_on.1.0; history = history });
  }

-- ---- of fewer images

module _ (keys : Keys) (p : Params) (past : PastLife) (in_flight : Option LifeAct) (may_leave leaves : Image → Type 0) (within : (c : Image) → leaves c → may_leave c) where
  pub life_within : IsLifeLeft keys p past in_flight may_leave → IsLifeLeft keys p past in_flight leaves
  life_within life = record { ranked = life.ranked; is_life = life.is_life; left = λ c will. life.left c (within c will); small = life.small; whole = life.whole }

  begins_within : (gates : ℕ → Bool) → MayBegin keys p past leaves gates → MayBegin keys p past may_leave gates
  begins_within gates b = record { has = b.has; gates_are = b.gates_are; image = b.image; may = within b.image b.may; stands = b.stands; in_image = b.in_image }

pub leave_within : (keys : Keys) (p : Params) (past : PastLife) (in_flight : Option LifeAct) (may_leave leaves : Image → Type 0) → ((c : Image) → leaves c → may_leave c) → (f : AllFills) (runs : List HistoryRun)
    → LeaveLife keys p past in_flight may_leave f runs → LeaveLife keys p past in_flight leaves f runs
leave_within keys p past in_flight may_leave leaves within f runs leave found finds gates b = leave found finds gates (begins_within keys p (with_acts past found) in_flight may_leave leaves within gates b)

pub known_within : (keys : Keys) (p : Params) (past : PastLife) (in_flight : Option LifeAct) (may_leave leaves : Image → Type 0) (known : Follow) → ((c : Image) → leaves c → may_leave c) → AuditorKnows keys p past in_flight may_leave known → AuditorKnows keys p past in_flight leaves known
known_within keys p past in_flight may_leave leaves known within k = record {
  life = life_within keys p past in_flight may_leave leaves within k.life;
  lines = k.lines;
  takes = k.takes;
  history = λ f are filled. (let was = k.history f are filled in (was.0, leave_within keys p past in_flight may_leave leaves within f (was.0).runs was.1));
}

pub audited_within : (keys : Keys) (p : Params) (past : PastLife) (known : Follow) (notes : List Note) (may_leave leaves : Image → Type 0) → ((c : Image) → leaves c → may_leave c) → AreNotesAudited keys p past known notes may_leave → AreNotesAudited keys p past known notes leaves
audited_within keys p past known notes may_leave leaves within a = record {
  then = a.then;
  takes = a.takes;
  read = a.read;
  more = a.more;
  in_flight = a.in_flight;
  knows = known_within keys p (with_acts past a.more) a.in_flight may_leave leaves a.then within a.knows;
}

-- ---- where a run begins, at an image that was left

module _ (keys : Keys) (p : Params) (past : PastLife) (in_flight : Option LifeAct) (may_leave : Image → Type 0) (known : Follow) (k : AuditorKnows keys p past in_flight may_leave known) (image : Image) (may : may_leave image) where
  abbrev at : IsLeftAt keys p past.word_of (life_of p past) in_flight image
  at = (k.life).left image may

  abbrev here : FoundActs keys p past.word_of (life_of p past) in_flight image
  here = found_acts keys p past.word_of (life_of p past) in_flight image at

  abbrev pub acts : List LifeAct
  acts = past.acts ++ here.found

  abbrev pub s : LifeState
  s = At keys p past.word_of past.slot acts

  pub sound : IsSound keys p past.word_of past.slot acts
  sound =
      let life = life_goes_on p past.word_of (formatted_life past.slot) past.acts here.found (k.life).is_life (found_life keys p past.word_of past.slot (life_of p past) in_flight here.found at.allowed here.finds) in
      let whole = (k.life).whole here.found here.finds life in
      record { life = life; ends = whole.1; whole = whole.0 }

  pub stands : StandsInLife keys p past.word_of s image
  stands = subst (λ (u : LifeState). StandsInLife keys p past.word_of u image) (sym (reached_join p past.word_of (formatted_life past.slot) past.acts here.found)) here.here

  pub few : AreBatchesSmall s.log
  few = (k.life).small here.found here.finds

  -- what it finds the history's runs leave
  pub leads : (f : AllFills) (are : AreAllFills p f) (filled : FillsPast p past f) (g : Gates) → AreGatesIn g image → MayFind p f (last_settled p f None ((k.history f are filled).0).runs) (found_of_life p s (gates_open g))
  leads f are filled g in_g = (k.history f are filled).1 here.found here.finds (gates_open g) (record { has = g; gates_are = refl; image = image; may = may; stands = stands; in_image = in_g })

  -- A run that goes on with the life from there, by acts of its own, and shows a run of a history; that leaves what the next one finds.
  module _ (l : Last keys p past.word_of past.slot) (leaves : Image → Type 0) (left : (c : Image) → leaves c → IsLeftAt keys p past.word_of l.t l.pending c) (small : (found : List LifeAct) → Finds l.pending found → AreBatchesSmall (reached p past.word_of l.t found).log)
      (own : List LifeAct) (acts_are : (xs : List LifeAct) → l.acts xs ≡ (acts ++ own) ++ xs) (notes : List Note) (g : Gates) (in_g : AreGatesIn g image)
      (shows : (f : AllFills) → IsLifeFilled p past.word_of past.slot f acts → Filled p past.word_of f s own → (one : IsRunShown p f s (gates_open g) notes) × ((latest : Option HistoryRun) → MayFind p f latest (found_of_life p s (gates_open g))
      → (c : Image) → leaves c → (found : List LifeAct) → Finds l.pending found → StandsInLife keys p past.word_of (reached p past.word_of l.t found) c → (h : Gates) → AreGatesIn h c
      → MayFind p f (cond (is_settled p f one.run.mirrored one.run.found one.run.steps one.run.shown) (Some one.run) latest) (found_of_life p (reached p past.word_of l.t found) (gates_open h)))) where
    abbrev all : List LifeAct
    all = acts ++ own

    there : (xs : List LifeAct) → At keys p past.word_of past.slot (all ++ xs) ≡ reached p past.word_of l.t xs
    there xs = ap (λ (ys : List LifeAct). At keys p past.word_of past.slot ys) (sym (acts_are xs)) ∙ l.there xs

    there_now : At keys p past.word_of past.slot all ≡ l.t
    there_now = ap (λ (ys : List LifeAct). At keys p past.word_of past.slot ys) (sym (append-nil all)) ∙ there []

    sound_then : (xs : List LifeAct) → Finds l.pending xs → IsLife p past.word_of l.t xs → IsSound keys p past.word_of past.slot (all ++ xs)
    sound_then xs finds life = subst (λ (ys : List LifeAct). IsSound keys p past.word_of past.slot ys) (acts_are xs) (l.sound xs finds life)

    sound_now : IsSound keys p past.word_of past.slot all
    sound_now = subst (λ (ys : List LifeAct). IsSound keys p past.word_of past.slot ys) (append-nil all) (sound_then [] (inl refl) tt)

    life_then : IsLifeLeft keys p (acted past all) l.pending leaves
    life_then = record {
      ranked = (k.life).ranked;
      is_life = sound_now.life;
      left = λ c will. subst (λ (u : LifeState). IsLeftAt keys p past.word_of u l.pending c) (sym there_now) (left c will);
      small = λ found finds. subst (λ (u : LifeState). AreBatchesSmall u.log) (sym (there found)) (small found finds);
      whole = λ found finds life.
          (let so = sound_then found finds (subst (λ (u : LifeState). IsLife p past.word_of u found) there_now (life_last p past.word_of (formatted_life past.slot) all found life)) in (so.whole, so.ends));
    }

    history_then : (f : AllFills) → AreAllFills p f → FillsPast p (acted past all) f → (is : AreHistoryOf p f (k.lines ++ L.Open false ∷ lines_of_notes notes)) × LeaveLife keys p (acted past all) l.pending leaves f is.runs
    history_then f are filled =
        let filled_acts : Filled p past.word_of f (formatted_life past.slot) acts = filled_first p past.word_of f (formatted_life past.slot) acts own filled in
        let filled_past : Filled p past.word_of f (formatted_life past.slot) past.acts = filled_first p past.word_of f (formatted_life past.slot) past.acts here.found filled_acts in
        let filled_own : Filled p past.word_of f s own = filled_last p past.word_of f (formatted_life past.slot) acts own filled in
        let was = k.history f are filled_past in
        let finds = leads f are filled_past g in_g in
        let run = shows f (filled_at keys p past.word_of past.slot f acts own sound filled_own) filled_own in
        let last : Option HistoryRun = last_settled p f None (was.0).runs in (
          with_run p f k.lines was.0 s (gates_open g) finds notes run.0,
          λ found finds_it gates b.
              let x : RunFound = found_of_life p (At keys p past.word_of past.slot (all ++ found)) gates in
              let stood = subst (λ (u : LifeState). StandsInLife keys p past.word_of u b.image) (there found) b.stands in
              run_leaves p f k.lines was.0 s (gates_open g) finds notes run.0 x
              ((λ (u : LifeState) (same : u ≡ reached p past.word_of l.t found) (n : ℕ → Bool) (opened : n ≡ gates_open b.has).
              subst (λ (v : LifeState). MayFind p f (cond (is_settled p f (run.0).run.mirrored (run.0).run.found (run.0).run.steps (run.0).run.shown) (Some (run.0).run) last) (found_of_life p v n)) (sym same)
              (subst (λ (m : ℕ → Bool). MayFind p f (cond (is_settled p f (run.0).run.mirrored (run.0).run.found (run.0).run.steps (run.0).run.shown) (Some (run.0).run) last) (found_of_life p (reached p past.word_of l.t found) m)) (sym opened)
              (run.1 last finds b.image b.may found finds_it stood b.has b.in_image))) (At keys p past.word_of past.slot (all ++ found)) (there found) gates b.gates_are),
        )

    pub read_then : AreNotesAudited keys p past known notes leaves
    read_then = audited keys p past known k.lines k.takes notes all (here.found ++ own) (append_assoc past.acts here.found own) l.pending leaves life_then history_then
