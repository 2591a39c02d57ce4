-- The lines of a history are admitted.
use Rattle.std.specs.Prelude.{◌≡◌, ◌<◌, ◌≤◌, ◌⊎◌, ℕ, ◌+◌, ◌%◌, Bool, true, false, cond, List, [], ◌∷◌, ◌++◌, take, length, Option, Some, None}
use Rattle.std.specs.List.{flat_map}
use Rattle.std.proofs.Common.{zero, suc, refl, sym, subst, inl, inr, arith}
use Rattle.std.proofs.lemmas.List.{length-append}
use Rattle.std.proofs.lemmas.Bool.{ltb-true, ltb-false}
use Rattle.ob_base.specs.declared.params.Params.{Params}
use Rattle.ob_base.specs.Layout.{GenerationTwin, EpochTwin, LogArea}
use Rattle.ob_store.specs.declared.watch.Note.{Note}
use Rattle.ob_store.specs.declared.watch.Note.TheVariants.{Sync}
use Rattle.ob_schedule.specs.Schedule.{check_cells, first_reads, format_notes, head_notes, reads_of, region_cells, set_twin}
use Rattle.ob_schedule.specs.declared.line.Line.{Line}
use Rattle.ob_schedule.specs.declared.line.Line.TheVariants as L
use Rattle.ob_schedule.specs.declared.want.Want.{Want}
use Rattle.ob_schedule.specs.Standing.{StandingKnown, standing_formatted}
use Rattle.ob_schedule.specs.Wants.{kept}
use Rattle.ob_schedule.specs.Follow.{Follow, taken_up, started, opened, opened_wants, format_wants}
use Rattle.ob_histories.specs.Fills.{AllFills, AreAllFills, public_at}
use Rattle.ob_histories.specs.Runs.{RunFound, HistoryRun, HeadRun, HistoryTurn, first_turn, next_turn, turn_behind, notes_of_turn, opening_reads, opening_step, notes_from, notes_shown, is_settled}
use Rattle.ob_histories.specs.Histories.{IsTurnLeft, RunLeaves, MayFind, AreRunsBehind, found_formatted, lines_of_notes, run_lines, head_lines, IsHistory, IsCutHistory, AreHistories}
use Rattle.ob_histories.specs.Laws.{TakesLines, AreAdmitted, HistoriesAreAdmitted}
use Rattle.ob_histories.proofs.Walks.{Reach, reach_join, taken_join, Stops}
use Rattle.ob_histories.proofs.Finding.{Stands, Allows}
use Rattle.ob_histories.proofs.Sets.{IsOf}
use Rattle.ob_histories.proofs.Batches.{AtTurn, before}
use Rattle.ob_histories.proofs.Turns.{walk_turn}
use Rattle.ob_histories.proofs.Openings.{opens}

-- ---- a run

module _ (p : Params) (f : AllFills) (all : AreAllFills p f) where
  -- from a turn on
  steps_taken : (n shown generation : ℕ) (t : HistoryTurn) (s : StandingKnown) → AtTurn p f t generation s
      → (h : Follow) × (Reach (before p f t s) (notes_from p f t n shown) h × ((y : RunFound) → IsOf generation y → IsTurnLeft p f (turn_behind p t n) shown y → Stops p (Allows p f y) h))
  steps_taken zero shown generation t s is = (walk_turn p f all t generation s is).stops shown
  steps_taken (suc n) shown generation t s is =
      let step = walk_turn p f all t generation s is in
      let more = steps_taken n shown generation (next_turn p t) step.then step.known in
      (more.0, (reach_join (before p f t s) (before p f (next_turn p t) step.then) more.0 (notes_of_turn p f t) (notes_from p f (next_turn p t) n shown) step.whole more.1.0, more.1.1))

  abbrev Taken : Bool → Follow → RunFound → ℕ → ℕ → Type 0
  Taken mirrored h x steps shown =
      (g : Follow) × (Reach (opened mirrored h) (notes_shown p f mirrored x steps shown) g
      × ((y : RunFound) → (is_settled p f mirrored x steps shown ≡ true → RunLeaves p f mirrored x steps shown y → Stops p (Allows p f y) g) × (is_settled p f mirrored x steps shown ≡ false → Stops p (Allows p f y) h → Stops p (Allows p f y) g)))

  abbrev ends : RunFound → List Note
  ends x = set_twin p GenerationTwin (suc x.generation) x.generation_gate

  -- the sync stands between an opening's reads and the setting
  opening_long : (mirrored : Bool) (x : RunFound) → length (opening_step p f mirrored x) ≡ length (opening_reads p f mirrored x) + suc (length (ends x))
  opening_long mirrored x =
      let rest : List Note = reads_of (region_cells p GenerationTwin ++ region_cells p EpochTwin) ++ reads_of (check_cells p ((public_at p f x.epoch).epoch % 2)) ++ reads_of (region_cells p (LogArea (((public_at p f x.epoch).epoch + 1) % 2))) in
      let first : List Note = first_reads p mirrored in
      omega (arith, length-append first ((rest ++ (Sync ∷ [])) ++ ends x), length-append first rest, length-append (rest ++ (Sync ∷ [])) (ends x), length-append rest (Sync ∷ []))

  run_taken : (mirrored : Bool) (h : Follow) (x : RunFound) (steps shown : ℕ) → Stops p (Allows p f x) h → Taken mirrored h x steps shown
  run_taken mirrored h x zero shown stops =
      let open_walk = opens p f mirrored x h stops in
      let at = open_walk.1.1.stops shown in
      let long = opening_long mirrored x in (
        at.0,
        (
          at.1.0,
          λ y. (
            (λ settled left. at.1.1.settled (let more : length (opening_reads p f mirrored x) < shown = ltb-true (length (opening_reads p f mirrored x)) shown settled in omega (arith, long, more)) y left),
            (λ not_yet was. at.1.1.still (let few : shown ≤ length (opening_reads p f mirrored x) = ltb-false (length (opening_reads p f mirrored x)) shown not_yet in omega (arith, long, few)) y was),
          ),
        ),
      )
  run_taken mirrored h x (suc n) shown stops =
      let open_walk = opens p f mirrored x h stops in
      let more = steps_taken n shown (suc x.generation) (first_turn x) open_walk.0 open_walk.1.0 in (
        more.0,
        (
          reach_join (opened mirrored h) (before p f (first_turn x) open_walk.0) more.0 (opening_step p f mirrored x) (notes_from p f (first_turn x) n shown) open_walk.1.1.whole more.1.0,
          λ y. ((λ settled left. more.1.1 y (left.0, left.1) left.2), (λ not_yet was. absurd (let never : true ≡ false = not_yet in cc))),
        ),
      )

  -- ---- runs behind each other

  next_may : (h g : Follow) (last : Option HistoryRun) (run : HistoryRun) (settled : Bool) → is_settled p f run.mirrored run.found run.steps run.shown ≡ settled → ((y : RunFound) → MayFind p f last y → Stops p (Allows p f y) h)
      → ((y : RunFound) → (is_settled p f run.mirrored run.found run.steps run.shown ≡ true → RunLeaves p f run.mirrored run.found run.steps run.shown y → Stops p (Allows p f y) g) × (is_settled p f run.mirrored run.found run.steps run.shown ≡ false → Stops p (Allows p f y) h → Stops p (Allows p f y) g))
      → (y : RunFound) → MayFind p f (cond settled (Some run) last) y → Stops p (Allows p f y) g
  next_may h g last run true is may told y found = (told y).0 is found
  next_may h g last run false is may told y found = (told y).1 is (may y found)

  pub runs_taken : (h : Follow) (last : Option HistoryRun) (runs : List HistoryRun) → ((y : RunFound) → MayFind p f last y → Stops p (Allows p f y) h) → AreRunsBehind p f last runs
      → (g : Follow) × TakesLines h (flat_map (run_lines p f) runs) g
  runs_taken h last [] may are = (h, refl)
  runs_taken h last (run ∷ runs) may are =
      let one = run_taken run.mirrored h run.found run.steps run.shown (may run.found are.0) in
      let more = runs_taken one.0 (cond (is_settled p f run.mirrored run.found run.steps run.shown) (Some run) last) runs (next_may h one.0 last run (is_settled p f run.mirrored run.found run.steps run.shown) refl may one.1.1) are.1 in
      (more.0, taken_join h one.0 more.0 (run_lines p f run) (flat_map (run_lines p f) runs) (opened run.mirrored h, refl, one.1.0) more.1)

-- ---- a format

abbrev pub formatting : Params → Bool → List Want → Follow
formatting p formatted wants =
    record { params = p; formatted = formatted; runs = false; stands = standing_formatted; newer = None; chosen = false; batch = 0; leaves = []; holes = []; wants = wants }

-- a front of it
format_front : (p : Params) (notes : List Note) (n : ℕ) → n < length notes → (h : Follow) × (Reach (formatting p false (format_wants notes)) (take n notes) h × (h.formatted ≡ false))
format_front p [] n few = absurd (omega (arith, few))
format_front p (note ∷ notes) zero few = (formatting p false (format_wants (note ∷ notes)), (refl, refl))
format_front p (note ∷ []) (suc n) few = absurd (omega (arith, few))
format_front p (note ∷ next ∷ notes) (suc n) few =
    let more = format_front p (next ∷ notes) n (omega (arith, few)) in
    (more.0, ((taken_up (formatting p false (format_wants (next ∷ notes))), (refl, refl), subst (λ (g : Follow). Reach g (take n (next ∷ notes)) more.0) (same next notes) more.1.0), more.1.1))
  where
    same : (next : Note) (notes : List Note) → formatting p false (format_wants (next ∷ notes)) ≡ taken_up (formatting p false (format_wants (next ∷ notes)))
    same next [] = refl
    same next (more ∷ notes) = refl

-- all of it
format_whole : (p : Params) (note : Note) (notes : List Note) → Reach (formatting p false (format_wants (note ∷ notes))) (note ∷ notes) (formatting p true [])
format_whole p note [] = (formatting p true [], (refl, refl), refl)
format_whole p note (next ∷ notes) =
    (taken_up (formatting p false (format_wants (next ∷ notes))), (refl, refl), subst (λ (g : Follow). Reach g (next ∷ notes) (formatting p true [])) (same next notes) (format_whole p next notes))
  where
    same : (next : Note) (notes : List Note) → formatting p false (format_wants (next ∷ notes)) ≡ taken_up (formatting p false (format_wants (next ∷ notes)))
    same next [] = refl
    same next (more ∷ notes) = refl

format_taken : (p : Params) (notes : List Note) → 0 < length notes → Reach (formatting p false (format_wants notes)) notes (formatting p true [])
format_taken p [] some = absurd (omega (arith, some))
format_taken p (note ∷ notes) some = format_whole p note notes

-- a whole format is found as it is
pub formatted_stands : (p : Params) (f : AllFills) → Stands p f found_formatted standing_formatted
formatted_stands p f = (
  record {
    side = refl;
    homes = λ u. refl;
    counts = λ u. refl;
    counter = refl;
    labels = λ batch place. tt;
    slots = λ h. tt;
    used = λ u x used. absurd (let never : false ≡ true = used in cc);
    below = λ h x shown. absurd (cc);
  },
  record { generation = refl; generation_gate = refl; epoch_gate = refl; records = inl refl; few = omega arith },
)

format_found : (p : Params) (f : AllFills) (y : RunFound) → y ≡ found_formatted → Stops p (Allows p f y) (formatting p true [])
format_found p f y is = (refl, (refl, subst (λ (x : RunFound). Stands p f x standing_formatted) (sym is) (formatted_stands p f)))

-- runs behind a cut format read the head at most
pub cut_opened : (mirrored : Bool) (h : Follow) → h.formatted ≡ false → opened mirrored h ≡ record h { runs = false; holes = []; wants = kept head_notes }
cut_opened mirrored h cut = λ i. cond (cut i)
    (record h { runs = true; chosen = false; batch = 0; leaves = []; holes = []; wants = opened_wants h.params mirrored h.stands h.newer }) (record h { runs = false; holes = []; wants = kept head_notes })

head_taken : (h : Follow) (n : ℕ) → h.formatted ≡ false → (g : Follow) × (Reach (record h { runs = false; holes = []; wants = kept head_notes }) (take n head_notes) g × (g.formatted ≡ false))
head_taken h zero cut = (record h { runs = false; holes = []; wants = kept head_notes }, (refl, cut))
head_taken h (suc zero) cut = (record h { runs = false; holes = []; wants = [] }, ((record h { runs = false; holes = []; wants = [] }, (refl, refl), refl), cut))
head_taken h (suc (suc n)) cut = (record h { runs = false; holes = []; wants = [] }, ((record h { runs = false; holes = []; wants = [] }, (refl, refl), refl), cut))

heads_taken : (h : Follow) (heads : List HeadRun) → h.formatted ≡ false → (g : Follow) × TakesLines h (flat_map head_lines heads) g
heads_taken h [] cut = (h, refl)
heads_taken h (head ∷ heads) cut =
    let one = head_taken h head.shown cut in
    let more = heads_taken one.0 heads one.1.1 in
    let reach : Reach (opened head.mirrored h) (take head.shown head_notes) one.0 = subst (λ (g : Follow). Reach g (take head.shown head_notes) one.0) (sym (cut_opened head.mirrored h cut)) one.1.0 in
    (more.0, taken_join h one.0 more.0 (head_lines head) (flat_map head_lines heads) (opened head.mirrored h, refl, reach) more.1)

-- ---- histories

-- what stands behind the first line
behind_first : (p : Params) (lines : List Line) → (IsHistory p lines ⊎ IsCutHistory p lines) → (rest : List Line) × ((lines ≡ L.Start p ∷ rest) × ((last : Follow) × TakesLines (started p) rest last))
behind_first p lines (inl is) =
    let runs = runs_taken p is.fills is.filled (formatting p true []) None is.runs (λ y found. format_found p is.fills y found) is.found in (
      lines_of_notes (format_notes p) ++ flat_map (run_lines p is.fills) is.runs,
      (
        is.are,
        (runs.0, taken_join (started p) (formatting p true []) runs.0 (lines_of_notes (format_notes p)) (flat_map (run_lines p is.fills) is.runs) (format_taken p (format_notes p) (omega arith)) runs.1),
      ),
    )
behind_first p lines (inr is) =
    let front = format_front p (format_notes p) is.shown is.short in
    let more = heads_taken front.0 is.heads front.1.1 in (
      lines_of_notes (take is.shown (format_notes p)) ++ flat_map head_lines is.heads,
      (
        is.are,
        (more.0, taken_join (started p) front.0 more.0 (lines_of_notes (take is.shown (format_notes p))) (flat_map head_lines is.heads) front.1.0 more.1),
      ),
    )

-- behind whatever is known a format may begin
all_taken : (g : Follow) (histories : List (List Line)) → AreHistories histories → (last : Follow) × TakesLines g (flat_map (λ lines. lines) histories) last
all_taken g [] are = (g, refl)
all_taken g (lines ∷ histories) (one, rest) =
    let first = behind_first one.0 lines one.1 in
    let more = all_taken first.1.1.0 histories rest in
    let taken : TakesLines g ((L.Start one.0 ∷ first.0) ++ flat_map (λ ls. ls) histories) more.0 =
    taken_join g first.1.1.0 more.0 (L.Start one.0 ∷ first.0) (flat_map (λ ls. ls) histories) (started one.0, refl, first.1.1.1) more.1 in
    (more.0, subst (λ (ls : List Line). TakesLines g (ls ++ flat_map (λ ls. ls) histories) more.0) (sym first.1.0) taken)

pub admitted : HistoriesAreAdmitted
admitted [] are = tt
admitted (lines ∷ histories) (one, rest) =
    let first = behind_first one.0 lines one.1 in
    let more = all_taken first.1.1.0 histories rest in
    subst (λ (ls : List Line). AreAdmitted (ls ++ flat_map (λ ls. ls) histories)) (sym first.1.0)
    (more.0, taken_join (started one.0) first.1.1.0 more.0 first.0 (flat_map (λ ls. ls) histories) first.1.1.1 more.1)
