-- Lines of one format that are taken with the fills' labels and slots are a history's.
use Rattle.std.specs.Prelude.{◌≡◌, ◌<◌, ◌⊎◌, ℕ, Bool, true, false, cond, List, [], ◌∷◌, ◌++◌, take, length, Option, Some, None}
use Rattle.std.specs.List.{flat_map}
use Rattle.std.proofs.Common.{zero, suc, refl, sym, ap, ◌∙◌, subst, inl, inr, arith}
use Rattle.std.proofs.lemmas.List.{length-append}
use Rattle.ob_base.specs.declared.params.Params.{Params}
use Rattle.ob_store.specs.declared.watch.Note.{Note}
use Rattle.ob_store.specs.declared.watch.Note.TheVariants.{Read}
use Rattle.ob_schedule.specs.Schedule.{format_notes}
use Rattle.ob_schedule.specs.declared.line.Line.{Line}
use Rattle.ob_schedule.specs.declared.line.Line.TheVariants as L
use Rattle.ob_schedule.specs.declared.want.Gate.{Gate}
use Rattle.ob_schedule.specs.declared.want.Gate.TheVariants.{Open, Closed, Unsure}
use Rattle.ob_schedule.specs.Standing.{StandingKnown, standing_formatted}
use Rattle.ob_schedule.specs.Follow.{Follow, TakesLine, taken_up, started, opened, format_wants}
use Rattle.ob_histories.specs.Fills.{AllFills, AreAllFills}
use Rattle.ob_histories.specs.Runs.{RunFound, HistoryRun, HeadRun, is_settled}
use Rattle.ob_histories.specs.Histories.{RunLeaves, MayFind, AreRunsBehind, found_formatted, lines_of_notes, run_lines, head_lines, IsHistory, IsCutHistory}
use Rattle.ob_histories.specs.Laws.{FilledAreHistories}
use Rattle.ob_histories.specs.Filled.{epoch_behind, TakesFilled}
use Rattle.ob_histories.proofs.Places.{rest_of}
use Rattle.ob_histories.proofs.Finding.{GateMay}
use Rattle.ob_histories.proofs.Admitting.{formatting, formatted_stands, cut_opened}
use Rattle.ob_histories.proofs.Fronts.{Rest, Exactly, Good, Behind, Takes}
use Rattle.ob_histories.proofs.FrontsTurns.{may_one}
use Rattle.ob_histories.proofs.FrontsOpenings.{MayBe, Runs, conv_opening}

-- no line, or a run's first
abbrev IsStopped : List Line → Type 0
IsStopped [] = Unit {0}
IsStopped (L.Open mirrored ∷ lines) = Unit {0}
IsStopped (L.Start p ∷ lines) = ⊥
IsStopped (L.Note note ∷ lines) = ⊥
IsStopped (L.Bad ∷ lines) = ⊥

pick_gate : (g : Gate) → (is : Bool) × GateMay g is
pick_gate Open = (true, refl)
pick_gate Closed = (false, refl)
pick_gate Unsure = (false, tt)

one_found : (epoch generation : ℕ) (rest : Rest) → (x : RunFound) × Exactly epoch generation rest x
one_found epoch generation rest =
    let a = pick_gate rest.1.0 in
    let b = pick_gate rest.1.1.0 in (
      record { epoch = epoch; generation = generation; records = rest.1.1.1.0; generation_gate = a.0; epoch_gate = b.0 },
      record { at_epoch = refl; of_generation = refl; generation_gate = a.1; epoch_gate = b.1; records = inl refl },
    )

module _ (p : Params) (f : AllFills) (all : AreAllFills p f) where
  -- up to the next stop
  record Split (epoch : ℕ) (known : Follow) (lines : List Line) : Type 0 where
    notes : List Note
    rest : List Line
    then : Follow
    epoch_then : ℕ
    are : lines ≡ lines_of_notes notes ++ rest
    taken : Takes p f epoch known notes then epoch_then
    more : TakesFilled p f epoch_then then rest
    stopped : IsStopped rest

  split : (epoch : ℕ) (known : Follow) (lines : List Line) → TakesFilled p f epoch known lines → Split epoch known lines
  split epoch known [] taken = record { notes = []; rest = []; then = known; epoch_then = epoch; are = refl; taken = (refl, refl); more = tt; stopped = tt }
  split epoch known (L.Open mirrored ∷ lines) taken = record { notes = []; rest = L.Open mirrored ∷ lines; then = known; epoch_then = epoch; are = refl; taken = (refl, refl); more = taken; stopped = tt }
  split epoch known (L.Start q ∷ lines) taken = absurd taken
  split epoch known (L.Bad ∷ lines) taken = absurd taken
  split epoch known (L.Note note ∷ lines) (next, takes, filled, taken) =
      let s = split (epoch_behind known epoch) next lines taken in
      record {
        notes = note ∷ s.notes;
        rest = s.rest;
        then = s.then;
        epoch_then = s.epoch_then;
        are = ap (λ (ls : List Line). L.Note note ∷ ls) s.are;
        taken = (next, (takes, (filled, s.taken)));
        more = s.more;
        stopped = s.stopped;
      }

  some_behind : (epoch generation : ℕ) (s : StandingKnown) (newer : Option StandingKnown) → (y : RunFound) × ((z : RunFound) × Behind p f epoch generation s newer y z)
  some_behind epoch generation s None = (let y = one_found epoch generation (rest_of s) in (y.0, (y.0, (y.1, refl))))
  some_behind epoch generation s (Some newer) = (let y = one_found epoch generation (rest_of s) in let z = one_found (suc epoch) generation (rest_of newer) in (y.0, (z.0, (y.1, z.1))))

  with_found : (epoch generation : ℕ) (s : StandingKnown) (newer : Option StandingKnown) (x : RunFound) → MayBe epoch generation s newer x → (y : RunFound) × ((z : RunFound) × (Behind p f epoch generation s newer y z × ((x ≡ y) ⊎ (x ≡ z))))
  with_found epoch generation s None x is = (x, (x, ((is, refl), inl refl)))
  with_found epoch generation s (Some newer) x (inl is) = (let z = one_found (suc epoch) generation (rest_of newer) in (x, (z.0, ((is, z.1), inl refl))))
  with_found epoch generation s (Some newer) x (inr is) = (let y = one_found epoch generation (rest_of s) in (y.0, (x, ((y.1, is), inr refl))))

  -- runs behind a stop, from what it may leave
  record RunsFrom (epoch generation : ℕ) (h : Follow) (lines : List Line) : Type 0 where
    y : RunFound
    z : RunFound
    behind : Behind p f epoch generation h.stands h.newer y z
    runs : List HistoryRun
    are : lines ≡ flat_map (run_lines p f) runs
    found : (last : Option HistoryRun) → MayFind p f last y → MayFind p f last z → AreRunsBehind p f last runs

  found_either : (last : Option HistoryRun) (x y z : RunFound) → ((x ≡ y) ⊎ (x ≡ z)) → MayFind p f last y → MayFind p f last z → MayFind p f last x
  found_either last x y z (inl same) one two = subst (λ (v : RunFound). MayFind p f last v) (sym same) one
  found_either last x y z (inr same) one two = subst (λ (v : RunFound). MayFind p f last v) (sym same) two

  one_run : (mirrored : Bool) (epoch generation : ℕ) (h : Follow) (good : Good p f epoch generation h) (ms : List Note) (lines rest : List Line) (epoch_then generation_then : ℕ) (k : Follow) → lines ≡ lines_of_notes ms ++ rest
      → (more : RunsFrom epoch_then generation_then k rest) → Runs p f all mirrored epoch generation h good ms more.y more.z → RunsFrom epoch generation h (L.Open mirrored ∷ lines)
  one_run mirrored epoch generation h good ms lines rest epoch_then generation_then k are more run = go run.leaves
    where
      this : HistoryRun
      this = record { mirrored = mirrored; found = run.found; steps = run.steps; shown = run.shown }

      all_lines : L.Open mirrored ∷ lines ≡ flat_map (run_lines p f) (record { mirrored = mirrored; found = run.found; steps = run.steps; shown = run.shown } ∷ more.runs)
      all_lines = ap (λ (ls : List Line). L.Open mirrored ∷ ls) (are ∙ (λ i. lines_of_notes (run.are i) ++ more.are i))

      go : (((is_settled p f mirrored run.found run.steps run.shown ≡ true) × (RunLeaves p f mirrored run.found run.steps run.shown more.y × RunLeaves p f mirrored run.found run.steps run.shown more.z))
          ⊎ ((is_settled p f mirrored run.found run.steps run.shown ≡ false) × (((run.found ≡ more.y) ⊎ (run.found ≡ more.z)) × Behind p f epoch generation h.stands h.newer more.y more.z))) → RunsFrom epoch generation h (L.Open mirrored ∷ lines)
      go (inl (settled, (one, two))) =
          (let pair = with_found epoch generation h.stands h.newer run.found run.may in record {
            y = pair.0;
            z = pair.1.0;
            behind = pair.1.1.0;
            runs = record { mirrored = mirrored; found = run.found; steps = run.steps; shown = run.shown } ∷ more.runs;
            are = all_lines;
            found = λ last a b. (
              found_either last run.found pair.0 pair.1.0 pair.1.1.1 a b,
              subst (λ (c : Bool). AreRunsBehind p f (cond c (Some (record { mirrored = mirrored; found = run.found; steps = run.steps; shown = run.shown })) last) more.runs) (sym settled) (more.found (Some (record { mirrored = mirrored; found = run.found; steps = run.steps; shown = run.shown })) one two),
            );
          })
      go (inr (not_yet, (same, behind))) = record {
        y = more.y;
        z = more.z;
        behind = behind;
        runs = record { mirrored = mirrored; found = run.found; steps = run.steps; shown = run.shown } ∷ more.runs;
        are = all_lines;
        found = λ last a b. (
          found_either last run.found more.y more.z same a b,
          subst (λ (c : Bool). AreRunsBehind p f (cond c (Some (record { mirrored = mirrored; found = run.found; steps = run.steps; shown = run.shown })) last) more.runs) (sym not_yet) (more.found last a b),
        );
      }

  runs_from : (most : ℕ) (epoch generation : ℕ) (h : Follow) (lines : List Line) → length lines < most → Good p f epoch generation h → IsStopped lines → TakesFilled p f epoch h lines → RunsFrom epoch generation h lines
  runs_from zero epoch generation h lines few good stopped taken = absurd (omega (arith, few))
  runs_from (suc most) epoch generation h [] few good stopped taken =
      let some = some_behind epoch generation h.stands h.newer in record { y = some.0; z = some.1.0; behind = some.1.1; runs = []; are = refl; found = λ last a b. tt }
  runs_from (suc most) epoch generation h (L.Start q ∷ lines) few good stopped taken = absurd stopped
  runs_from (suc most) epoch generation h (L.Note note ∷ lines) few good stopped taken = absurd stopped
  runs_from (suc most) epoch generation h (L.Bad ∷ lines) few good stopped taken = absurd stopped
  runs_from (suc most) epoch generation h (L.Open mirrored ∷ lines) few good stopped taken =
      let s = split epoch (opened mirrored h) lines taken in
      let result = conv_opening p f all mirrored epoch generation h good (suc (length s.notes)) s.notes s.then s.epoch_then (omega arith) s.taken in
      let fewer : length s.rest < most = omega (arith, few, ap (length {A = Line}) s.are, length-append (lines_of_notes s.notes) s.rest) in
      let more = runs_from most s.epoch_then result.0 s.then s.rest fewer result.1.0 s.stopped s.more in
      one_run mirrored epoch generation h good s.notes lines s.rest s.epoch_then result.0 s.then s.are more (result.1.1 more.y more.z more.behind)

  -- ---- a format

  abbrev Whole : List Note → List Line → Type 0
  Whole notes lines = (rest : List Line) × ((lines ≡ lines_of_notes notes ++ rest) × TakesFilled p f 0 (formatting p true []) rest)

  record Cut (notes : List Note) (lines : List Line) : Type 0 where
    shown : ℕ
    rest : List Line
    then : Follow
    short : shown < length notes
    are : lines ≡ lines_of_notes (take shown notes) ++ rest
    cut : then.formatted ≡ false
    stopped : IsStopped rest
    more : TakesFilled p f 0 then rest

  one_note : (note x : Note) (notes : List Note) (lines : List Line) → x ≡ note → Whole notes lines ⊎ Cut notes lines → Whole (note ∷ notes) (L.Note x ∷ lines) ⊎ Cut (note ∷ notes) (L.Note x ∷ lines)
  one_note note x notes lines is (inl whole) = inl (whole.0, ((λ i. L.Note (is i) ∷ whole.1.0 i), whole.1.1))
  one_note note x notes lines is (inr c) =
      inr (record { shown = suc c.shown; rest = c.rest; then = c.then; short = omega (arith, c.short); are = (λ i. L.Note (is i) ∷ c.are i); cut = c.cut; stopped = c.stopped; more = c.more })

  up_wants : (next : Note) (notes : List Note) → taken_up (formatting p false (format_wants (next ∷ notes))) ≡ formatting p false (format_wants (next ∷ notes))
  up_wants next [] = refl
  up_wants next (more ∷ notes) = refl

  cut_here : (note : Note) (notes : List Note) (lines : List Line) → IsStopped lines → TakesFilled p f 0 (formatting p false (format_wants (note ∷ notes))) lines → Cut (note ∷ notes) lines
  cut_here note notes lines stopped taken = record { shown = 0; rest = lines; then = formatting p false (format_wants (note ∷ notes)); short = omega arith; are = refl; cut = refl; stopped = stopped; more = taken }

  format_lines : (note : Note) (notes : List Note) (lines : List Line) → TakesFilled p f 0 (formatting p false (format_wants (note ∷ notes))) lines → Whole (note ∷ notes) lines ⊎ Cut (note ∷ notes) lines
  format_lines note notes [] taken = inr (cut_here note notes [] tt taken)
  format_lines note notes (L.Open mirrored ∷ lines) taken = inr (cut_here note notes (L.Open mirrored ∷ lines) tt taken)
  format_lines note notes (L.Start q ∷ lines) taken = absurd taken
  format_lines note notes (L.Bad ∷ lines) taken = absurd taken
  format_lines note [] (L.Note x ∷ lines) (next, takes, filled, taken) = inl (lines, ((λ i. L.Note (takes.0 i) ∷ lines), subst (λ (g : Follow). TakesFilled p f 0 g lines) takes.1 taken))
  format_lines note (more ∷ notes) (L.Note x ∷ lines) (next, takes, filled, taken) =
      one_note note x (more ∷ notes) lines takes.0 (format_lines more notes lines (subst (λ (g : Follow). TakesFilled p f 0 g lines) (takes.1 ∙ up_wants more notes) taken))

  -- behind a whole one a run begins
  whole_stopped : (lines : List Line) → TakesFilled p f 0 (formatting p true []) lines → IsStopped lines
  whole_stopped [] taken = tt
  whole_stopped (L.Open mirrored ∷ lines) taken = tt
  whole_stopped (L.Start q ∷ lines) taken = absurd taken
  whole_stopped (L.Note x ∷ lines) (next, takes, filled, taken) = absurd takes
  whole_stopped (L.Bad ∷ lines) taken = absurd taken

  formatted_good : Good p f 0 1 (formatting p true [])
  formatted_good = (refl, (refl, ((formatted_stands p f).0, record { side = refl; few = omega arith; more = λ is. absurd (let never : false ≡ true = is in cc) })))

  first_found : (y : RunFound) → Exactly 0 1 (rest_of standing_formatted) y → y ≡ found_formatted
  first_found y is =
      let none : y.records ≡ 0 = may_one false 0 y.records refl is.records in
      λ i. record { epoch = is.at_epoch i; generation = is.of_generation i; records = none i; generation_gate = is.generation_gate i; epoch_gate = is.epoch_gate i }

  -- ---- behind a cut one

  still_cut : (mirrored : Bool) (k : Follow) → k.formatted ≡ false → (opened mirrored k).formatted ≡ false
  still_cut mirrored k cut = ap (λ (g : Follow). g.formatted) (cut_opened mirrored k cut) ∙ cut

  head_taken : (mirrored : Bool) (k next : Follow) (x : Note) → k.formatted ≡ false → TakesLine (opened mirrored k) (L.Note x) next → (x ≡ Read 0) × (next ≡ record k { runs = false; holes = []; wants = [] })
  head_taken mirrored k next x cut takes = subst (λ (g : Follow). TakesLine g (L.Note x) next) (cut_opened mirrored k cut) takes

  heads_of : (epoch : ℕ) (k : Follow) (lines : List Line) → k.formatted ≡ false → IsStopped lines → TakesFilled p f epoch k lines → (heads : List HeadRun) × (lines ≡ flat_map head_lines heads)
  heads_of epoch k [] cut stopped taken = ([], refl)
  heads_of epoch k (L.Start q ∷ lines) cut stopped taken = absurd stopped
  heads_of epoch k (L.Note x ∷ lines) cut stopped taken = absurd stopped
  heads_of epoch k (L.Bad ∷ lines) cut stopped taken = absurd stopped
  heads_of epoch k (L.Open mirrored ∷ []) cut stopped taken = (record { mirrored = mirrored; shown = 0 } ∷ [], refl)
  heads_of epoch k (L.Open mirrored ∷ L.Open after ∷ lines) cut stopped taken =
      let more = heads_of epoch (opened mirrored k) (L.Open after ∷ lines) (still_cut mirrored k cut) tt taken in
      (record { mirrored = mirrored; shown = 0 } ∷ more.0, ap (λ (ls : List Line). L.Open mirrored ∷ ls) more.1)
  heads_of epoch k (L.Open mirrored ∷ L.Start q ∷ lines) cut stopped taken = absurd taken
  heads_of epoch k (L.Open mirrored ∷ L.Bad ∷ lines) cut stopped taken = absurd taken
  heads_of epoch k (L.Open mirrored ∷ L.Note x ∷ []) cut stopped (next, takes, filled, taken) =
      (record { mirrored = mirrored; shown = 1 } ∷ [], ap (λ (n : Note). L.Open mirrored ∷ L.Note n ∷ []) (head_taken mirrored k next x cut takes).0)
  heads_of epoch k (L.Open mirrored ∷ L.Note x ∷ L.Open after ∷ lines) cut stopped (next, takes, filled, taken) =
      let is = head_taken mirrored k next x cut takes in
      let more = heads_of (epoch_behind (opened mirrored k) epoch) next (L.Open after ∷ lines) (ap (λ (g : Follow). g.formatted) is.1 ∙ cut) tt taken in
      (record { mirrored = mirrored; shown = 1 } ∷ more.0, (λ i. L.Open mirrored ∷ L.Note (is.0 i) ∷ more.1 i))
  heads_of epoch k (L.Open mirrored ∷ L.Note x ∷ L.Start q ∷ lines) cut stopped (next, takes, filled, taken) = absurd taken
  heads_of epoch k (L.Open mirrored ∷ L.Note x ∷ L.Bad ∷ lines) cut stopped (next, takes, filled, taken) = absurd taken
  heads_of epoch k (L.Open mirrored ∷ L.Note x ∷ L.Note w ∷ lines) cut stopped (next, takes, filled, (far, takes_then, filled_then, taken)) =
      let is = head_taken mirrored k next x cut takes in absurd (subst (λ (g : Follow). TakesLine g (L.Note w) far) is.1 takes_then)

  -- ---- all of it

  pub filled_are : (lines : List Line) → TakesFilled p f 0 (started p) lines → ((h : IsHistory p (L.Start p ∷ lines)) × (h.fills ≡ f)) ⊎ IsCutHistory p (L.Start p ∷ lines)
  filled_are lines taken = go (format_lines _ _ lines taken)
    where
      go : Whole (format_notes p) lines ⊎ Cut (format_notes p) lines → ((h : IsHistory p (L.Start p ∷ lines)) × (h.fills ≡ f)) ⊎ IsCutHistory p (L.Start p ∷ lines)
      go (inl (rest, (are, more))) =
          (let runs = runs_from (suc (length rest)) 0 1 (formatting p true []) rest (omega arith) formatted_good (whole_stopped rest more) more in
          let found = first_found runs.y runs.behind.0 in
          inl (
            record {
              fills = f;
              runs = runs.runs;
              filled = all;
              found = runs.found None found (runs.behind.1 ∙ found);
              are = ap (λ (ls : List Line). L.Start p ∷ ls) (are ∙ ap (λ (ls : List Line). lines_of_notes (format_notes p) ++ ls) runs.are);
            },
            refl,
          ))
      go (inr c) =
          (let heads = heads_of 0 c.then c.rest c.cut c.stopped c.more in
          inr (record {
            shown = c.shown;
            heads = heads.0;
            short = c.short;
            are = ap (λ (ls : List Line). L.Start p ∷ ls) (c.are ∙ ap (λ (ls : List Line). lines_of_notes (take c.shown (format_notes p)) ++ ls) heads.1);
          }))

pub filled_are_all : FilledAreHistories
filled_are_all p f lines all taken = filled_are p f all lines taken
