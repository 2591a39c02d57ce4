-- Notes taken one behind the other, with what is known at each stop on the way, by how many notes it lacks.
use Rattle.std.specs.Prelude.{◌≡◌, ◌≤◌, ◌⊎◌, ℕ, ◌+◌, ◌-◌, nat_lt, Bool, true, false, cond, List, [], ◌∷◌, ◌++◌, take, length, Option}
use Rattle.std.proofs.Common.{zero, suc, refl, sym, subst, inl, inr, arith}
use Rattle.std.proofs.lemmas.List.{length-append}
use Rattle.ob_base.specs.declared.params.Params.{Params}
use Rattle.ob_store.specs.declared.watch.Note.{Note}
use Rattle.ob_schedule.specs.Holes.{Hole}
use Rattle.ob_schedule.specs.declared.line.Line.{Line}
use Rattle.ob_schedule.specs.declared.line.Line.TheVariants as L
use Rattle.ob_schedule.specs.declared.want.Want.{Want}
use Rattle.ob_schedule.specs.Standing.{StandingKnown}
use Rattle.ob_schedule.specs.Wants.{kept}
use Rattle.ob_schedule.specs.Follow.{Follow, TakesLine, taken_up, on_from, next_step}
use Rattle.ob_histories.specs.Histories.{lines_of_notes}
use Rattle.ob_histories.specs.Laws.{TakesLines}
use Rattle.ob_histories.proofs.Lists.{front_cases}

pub taken_join : (f g h : Follow) (xs ys : List Line) → TakesLines f xs g → TakesLines g ys h → TakesLines f (xs ++ ys) h
taken_join f g h [] ys is more = subst (λ (k : Follow). TakesLines k ys h) is more
taken_join f g h (x ∷ xs) ys (next, takes, rest) more = (next, takes, taken_join next g h xs ys rest more)

abbrev pub Reach : Follow → List Note → Follow → Type 0
Reach f notes g = TakesLines f (lines_of_notes notes) g

pub reach_join : (f g h : Follow) (xs ys : List Note) → Reach f xs g → Reach g ys h → Reach f (xs ++ ys) h
reach_join f g h [] ys is more = subst (λ (k : Follow). Reach k ys h) is more
reach_join f g h (x ∷ xs) ys (next, takes, rest) more = (next, takes, reach_join next g h xs ys rest more)

-- All are taken; and where one stops before, what lacks says what is known.
pub record Walk (I : ℕ → Follow → Type 0) (f : Follow) (notes : List Note) (g : Follow) : Type 0 where
  pub whole : Reach f notes g
  pub stops : (n : ℕ) → (h : Follow) × (Reach f (take n notes) h × I (length notes - n) h)

pub walk_none : (I : ℕ → Follow → Type 0) (f : Follow) → I 0 f → Walk I f [] f
walk_none I f known = record { whole = refl; stops = λ n. (f, (none n, subst (λ (k : ℕ). I k f) (nothing n) known)) }
  where
    none : (n : ℕ) → Reach f (take n []) f
    none zero = refl
    none (suc n) = refl

    nothing : (n : ℕ) → 0 ≡ 0 - n
    nothing n = omega arith

pub walk_note : (I : ℕ → Follow → Type 0) (f next g : Follow) (note : Note) (notes : List Note) → TakesLine f (L.Note note) next → I (suc (length notes)) f → Walk I next notes g → Walk I f (note ∷ notes) g
walk_note I f next g note notes takes known rest = record { whole = (next, takes, rest.whole); stops = stops }
  where
    stops : (n : ℕ) → (h : Follow) × (Reach f (take n (note ∷ notes)) h × I (length (note ∷ notes) - n) h)
    stops zero = (let all : suc (length notes) ≡ length (note ∷ notes) - 0 = omega arith in (f, (refl, subst (λ (k : ℕ). I k f) all known)))
    stops (suc n) = (let same : length notes - n ≡ length (note ∷ notes) - suc n = omega arith in
        let at = rest.stops n in (at.0, ((next, takes, at.1.0), subst (λ (k : ℕ). I k at.0) same at.1.1)))

pub walk_join : (I : ℕ → Follow → Type 0) (f g h : Follow) (xs ys : List Note) → Walk (λ k. I (k + length ys)) f xs g → Walk I g ys h → Walk I f (xs ++ ys) h
walk_join I f g h xs ys first then = record { whole = reach_join f g h xs ys first.whole then.whole; stops = λ n. stops n (front_cases n xs ys) }
  where
    stops : (n : ℕ) → ((n ≤ length xs) × (take n (xs ++ ys) ≡ take n xs)) ⊎ ((m : ℕ) × ((n ≡ length xs + m) × (take n (xs ++ ys) ≡ xs ++ take m ys)))
        → (k : Follow) × (Reach f (take n (xs ++ ys)) k × I (length (xs ++ ys) - n) k)
    stops n (inl (few, same)) =
        let at = first.stops n in
        let lacks : (length xs - n) + length ys ≡ length (xs ++ ys) - n = omega (arith, few, length-append xs ys) in
        (at.0, (subst (λ (ns : List Note). Reach f ns at.0) (sym same) at.1.0, subst (λ (k : ℕ). I k at.0) lacks at.1.1))
    stops n (inr (m, (is, same))) =
        let at = then.stops m in
        let lacks : length ys - m ≡ length (xs ++ ys) - n = omega (arith, is, length-append xs ys) in
        (at.0, (subst (λ (ns : List Note). Reach f ns at.0) (sym same) (reach_join f g at.0 xs (take m ys) first.whole at.1.0), subst (λ (k : ℕ). I k at.0) lacks at.1.1))

pub walk_weaker : (I J : ℕ → Follow → Type 0) (f g : Follow) (notes : List Note) → ((k : ℕ) (h : Follow) → I k h → J k h) → Walk I f notes g → Walk J f notes g
walk_weaker I J f g notes weaker walk =
    record { whole = walk.whole; stops = λ n. (let at = walk.stops n in (at.0, (at.1.0, weaker (length notes - n) at.0 at.1.1))) }

-- of what lacks no more than all
pub walk_within : (I J : ℕ → Follow → Type 0) (f g : Follow) (notes : List Note) → ((k : ℕ) (h : Follow) → k ≤ length notes → I k h → J k h) → Walk I f notes g → Walk J f notes g
walk_within I J f g notes weaker walk =
    record { whole = walk.whole; stops = λ n. (let at = walk.stops n in (at.0, (at.1.0, weaker (length notes - n) at.0 (omega arith) at.1.1))) }

-- ---- what a stop can tell

abbrev pub Stops : Params → (StandingKnown → Option StandingKnown → Type 0) → Follow → Type 0
Stops p K f = (f.params ≡ p) × ((f.formatted ≡ true) × K f.stands f.newer)

either_stops : (p : Params) (K : StandingKnown → Option StandingKnown → Type 0) (b : Bool) (f g : Follow) → Stops p K f → Stops p K g → Stops p K (cond b f g)
either_stops p K true f g one two = one
either_stops p K false f g one two = two

step_stops : (p : Params) (K : StandingKnown → Option StandingKnown → Type 0) (f : Follow) → Stops p K f → Stops p K (next_step f)
step_stops p K f known = either_stops p K (nat_lt f.batch f.params.batches) _ _ known known

pub up_stops : (p : Params) (K : StandingKnown → Option StandingKnown → Type 0) (f : Follow) → Stops p K f → Stops p K (taken_up f)
up_stops p K f known = go f.holes f.wants f.runs
  where
    go : (hs : List Hole) (ws : List Want) (runs : Bool) → Stops p K (on_from hs ws runs f)
    go (h ∷ hs) ws runs = known
    go [] (w ∷ ws) runs = known
    go [] [] true = step_stops p K f known
    go [] [] false = known

-- notes that change nothing
pub walk_kept : (p : Params) (K : StandingKnown → Option StandingKnown → Type 0) (g : Follow) (ns : List Note) (ws : List Want) → Stops p K g
    → Walk (λ k. Stops p K) (taken_up (record g { holes = []; wants = kept ns ++ ws })) ns (taken_up (record g { holes = []; wants = ws }))
walk_kept p K g [] ws known = walk_none (λ k. Stops p K) (taken_up (record g { holes = []; wants = ws })) (up_stops p K (record g { holes = []; wants = ws }) known)
walk_kept p K g (n ∷ ns) ws known =
    walk_note (λ k. Stops p K) (record g { holes = []; wants = kept (n ∷ ns) ++ ws }) (taken_up (record g { holes = []; wants = kept ns ++ ws })) (taken_up (record g { holes = []; wants = ws })) n ns
    (refl, refl) known (walk_kept p K g ns ws known)
