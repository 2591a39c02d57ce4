-- What is shown of a planned batch is what the flat table's batch shows.
use Rattle.std.proofs.Common.{◌≡◌, ℕ, zero, suc, ◌+◌, ◌-◌, ◌<◌, ◌≤◌, List, [], ◌∷◌, ◌++◌, Option, None, map, take, drop, length, get_or, refl, sym, ◌∙◌, ap, subst, arith, length-append, append_assoc, add-one, inl, inr}
use Rattle.std.proofs.lemmas.List.{map-append, take_more, take_all, append-nil}
use Rattle.std.proofs.lemmas.Bool.{cases_lt}
use Rattle.ob_base.specs.declared.params.Params.{Params}
use Rattle.ob_base.specs.declared.job.Job.{Job}
use Rattle.ob_base.specs.declared.job.Place.{Place}
use Rattle.ob_base.specs.Planned.{Planned, job_at}
use Rattle.ob_store.specs.Lines.{Trace, Shows}
use Rattle.ob_store.proofs.Showing.{shows_then}
use Rattle.ob_cells.specs.Jobs.{AreFilled}
use Rattle.ob_store.specs.declared.watch.Note.{Note}
use Rattle.ob_store.specs.declared.watch.Note.TheVariants as note
use Rattle.ob_tables.specs.Version.{Version}
use Rattle.ob_ring.specs.FlatTable.{FlatTable, after_batch, after_place, leaf_shown}
use Rattle.ob_ring.specs.Picked.{Picked, job_of, place_picked, batch_picked, places_from}
use Rattle.ob_ring.proofs.FetchLaws.{picked_both}
use Rattle.ob_recover.specs.Shows.{shown_place_at, place_end, ArePlaced, notes_of_place, placed_notes}
use Rattle.ob_recover.specs.Repeats.{place_notes, repeated_notes, batch_jobs}

abbrev Asked : Type 0
Asked = List (Option ℕ × ℕ)

abbrev asked_at : Asked → ℕ → Option ℕ × ℕ
asked_at asked i = get_or asked i (None, 0)

none_of : {X : Type 0} (n : ℕ) (xs : List X) → length xs ≤ 0 → take n xs ≡ []
none_of zero xs few = refl
none_of (suc n) [] few = refl
none_of (suc n) (x ∷ xs) few = absurd (omega arith)

-- the place of an index: the leaf that it shows, and the jobs of the places before it
place_from : (p : Params) (n : ℕ) (t : FlatTable) (asked : Asked) (i : ℕ) (d : Place) → i < length asked
    → get_or (places_from p n t asked) i d ≡ record { leaf = leaf_shown (after_batch p t (take i asked)) (asked_at asked i).0 (asked_at asked i).1; first = n + length (batch_picked p t (take i asked)) }
place_from p n t [] i d lt = absurd (omega arith)
place_from p n t (a ∷ asked) zero d lt = let z : n ≡ n + 0 = omega arith in ap (λ (m : ℕ). record { leaf = leaf_shown t a.0 a.1; first = m }) z
place_from p n t (a ∷ asked) (suc i) d lt =
    let more : length (place_picked p t a.0 a.1 ++ batch_picked p (after_place p t a.0 a.1) (take i asked)) ≡ length (place_picked p t a.0 a.1) + length (batch_picked p (after_place p t a.0 a.1) (take i asked)) = length-append (place_picked p t a.0 a.1)
    (batch_picked p (after_place p t a.0 a.1) (take i asked)) in
    let same : (n + length (place_picked p t a.0 a.1)) + length (batch_picked p (after_place p t a.0 a.1) (take i asked)) ≡ n + length (place_picked p t a.0 a.1 ++ batch_picked p (after_place p t a.0 a.1) (take i asked)) = omega arith in
    place_from p (n + length (place_picked p t a.0 a.1)) (after_place p t a.0 a.1) asked i d (omega arith)
    ∙ ap (λ (m : ℕ). record { leaf = leaf_shown (after_batch p (after_place p t a.0 a.1) (take i asked)) (asked_at asked i).0 (asked_at asked i).1; first = m }) same

length-places : (p : Params) (n : ℕ) (t : FlatTable) (asked : Asked) → length (places_from p n t asked) ≡ length asked
length-places p n t [] = refl
length-places p n t (a ∷ asked) = ap suc (length-places p (n + length (place_picked p t a.0 a.1)) (after_place p t a.0 a.1) asked)

notes_both : (p : Params) (versions : List Version) (t : FlatTable) (xs ys : Asked) → repeated_notes p versions t (xs ++ ys) ≡ repeated_notes p versions t xs ++ repeated_notes p versions (after_batch p t xs) ys
notes_both p versions t [] ys = refl
notes_both p versions t (x ∷ xs) ys =
    ap (λ (ns : List Note). place_notes p versions t x ++ ns) (notes_both p versions (after_place p t x.0 x.1) xs ys)
    ∙ sym (append_assoc (place_notes p versions t x) (repeated_notes p versions (after_place p t x.0 x.1) xs) (repeated_notes p versions (after_batch p (after_place p t x.0 x.1) xs) ys))

-- the part of a list between two others
drop_front : {X : Type 0} (xs ys : List X) → drop (length xs) (xs ++ ys) ≡ ys
drop_front [] ys = refl
drop_front (x ∷ xs) ys = drop_front xs ys

take_front : {X : Type 0} (xs ys : List X) → take (length xs) (xs ++ ys) ≡ xs
take_front [] ys = refl
take_front (x ∷ xs) ys = ap (λ l. x ∷ l) (take_front xs ys)

between : {X : Type 0} (xs ys zs : List X) → take (length (xs ++ ys) - length xs) (drop (length xs) ((xs ++ ys) ++ zs)) ≡ ys
between xs ys zs =
    let long : length (xs ++ ys) - length xs ≡ length ys = omega (arith, length-append xs ys) in
    ap (λ l. take (length (xs ++ ys) - length xs) (drop (length xs) l)) (append_assoc xs ys zs)
    ∙ ap (λ l. take (length (xs ++ ys) - length xs) l) (drop_front xs (ys ++ zs)) ∙ ap (λ n. take n (ys ++ zs)) long ∙ take_front ys zs

take_drop : {X : Type 0} (xs : List X) (n : ℕ) → xs ≡ take n xs ++ drop n xs
take_drop xs zero = refl
take_drop [] (suc n) = refl
take_drop (x ∷ xs) (suc n) = ap (λ l. x ∷ l) (take_drop xs n)

none_more : (n : ℕ) → 0 + n ≡ n
none_more n = omega arith

module _ (p : Params) (versions : List Version) (t : FlatTable) (asked : Asked) (s : Planned) (jobs_are : s.jobs ≡ batch_jobs p versions t asked) (places_are : s.places ≡ places_from p 0 t asked) where
  -- what is picked before a place, by it, and behind it
  abbrev before : ℕ → List Picked
  before i = batch_picked p t (take i asked)

  abbrev own : ℕ → List Picked
  own i = place_picked p (after_batch p t (take i asked)) (asked_at asked i).0 (asked_at asked i).1

  pub many_places : length s.places ≡ length asked
  many_places = ap length places_are ∙ length-places p 0 t asked

  before_next : (i : ℕ) → i < length asked → before (i + 1) ≡ before i ++ own i
  before_next i lt =
      ap (λ (xs : Asked). batch_picked p t xs) (take_more asked i (None, 0) lt) ∙ picked_both p t (take i asked) (asked_at asked i ∷ [])
      ∙ ap (λ (qs : List Picked). before i ++ qs) (append-nil (own i))

  place_is : (i : ℕ) → i < length asked → shown_place_at s i ≡ record { leaf = leaf_shown (after_batch p t (take i asked)) (asked_at asked i).0 (asked_at asked i).1; first = length (before i) }
  place_is i lt = ap (λ (l : List Place). get_or l i (record { leaf = 0; first = length s.jobs })) places_are ∙ place_from p 0 t asked i (record { leaf = 0; first = length s.jobs }) lt
      ∙ ap (λ (m : ℕ). record { leaf = leaf_shown (after_batch p t (take i asked)) (asked_at asked i).0 (asked_at asked i).1; first = m }) (none_more (length (before i)))

  all_before : before (length asked) ≡ batch_picked p t asked
  all_before = ap (λ (xs : Asked). batch_picked p t xs) (take_all (length asked) asked (omega arith))

  length-map : {X Y : Type 0} (f : X → Y) (xs : List X) → length (map f xs) ≡ length xs
  length-map f [] = refl
  length-map f (x ∷ xs) = ap suc (length-map f xs)

  many_jobs : length s.jobs ≡ length (batch_picked p t asked)
  many_jobs = ap length jobs_are ∙ length-map (job_of p versions) (batch_picked p t asked)

  -- behind the last place
  out_of : {X : Type 0} (xs : List X) (d : X) → get_or xs (length xs) d ≡ d
  out_of [] d = refl
  out_of (x ∷ xs) d = out_of xs d

  end_is : (i : ℕ) → i < length asked → place_end s i ≡ length (before (i + 1))
  end_is i lt = elim (cases_lt (i + 1) (length asked)) [
    | inl low ↦ ap (λ (pl : Place). pl.first) (place_is (i + 1) low)
    | inr high ↦ (let last : i + 1 ≡ length asked = omega arith in
        ap (λ (pl : Place). pl.first) (ap (λ (n : ℕ). shown_place_at s n) (last ∙ sym many_places) ∙ out_of s.places (record { leaf = 0; first = length s.jobs }))
        ∙ many_jobs ∙ ap length (sym all_before) ∙ ap (λ (n : ℕ). length (before n)) (sym last))
  ]

  front_few : (n : ℕ) → length (before n) ≤ length s.jobs
  front_few n =
      let both : batch_picked p t asked ≡ before n ++ batch_picked p (after_batch p t (take n asked)) (drop n asked) = ap (λ (xs : Asked). batch_picked p t xs) (take_drop asked n) ∙ picked_both p t (take n asked) (drop n asked) in
      let sum : length (batch_picked p t asked) ≡ length (before n) + length (batch_picked p (after_batch p t (take n asked)) (drop n asked)) = ap length both ∙ length-append (before n) (batch_picked p (after_batch p t (take n asked)) (drop n asked)) in
      omega (arith, many_jobs, sum)

  pub are_placed : ArePlaced s
  are_placed i lt =
      let low : i < length asked = omega (arith, many_places) in
      let first : (shown_place_at s i).first ≡ length (before i) = ap (λ (pl : Place). pl.first) (place_is i low) in
      let next : length (before (i + 1)) ≡ length (before i) + length (own i) = ap length (before_next i low) ∙ length-append (before i) (own i) in
      let end : place_end s i ≡ length (before (i + 1)) = end_is i low in
      (omega arith, omega (arith, end, front_few (i + 1)))

  -- the notes of a place
  abbrev job : Picked → Job
  job q = job_of p versions q

  jobs_split : (i : ℕ) → i < length asked → s.jobs ≡ (map job (before i) ++ map job (own i)) ++ map job (batch_picked p (after_batch p t (take (i + 1) asked)) (drop (i + 1) asked))
  jobs_split i lt =
      jobs_are ∙ ap (λ (xs : Asked). map job (batch_picked p t xs)) (take_drop asked (i + 1)) ∙ ap (λ (qs : List Picked). map job qs) (picked_both p t (take (i + 1) asked) (drop (i + 1) asked))
      ∙ map-append job (before (i + 1)) (batch_picked p (after_batch p t (take (i + 1) asked)) (drop (i + 1) asked))
      ∙ ap (λ (js : List Job). js ++ map job (batch_picked p (after_batch p t (take (i + 1) asked)) (drop (i + 1) asked))) (ap (λ (qs : List Picked). map job qs) (before_next i lt) ∙ map-append job (before i) (own i))

  own_jobs : (i : ℕ) → i < length asked → take (place_end s i - (shown_place_at s i).first) (drop (shown_place_at s i).first s.jobs) ≡ map job (own i)
  own_jobs i lt =
      let first : (shown_place_at s i).first ≡ length (map job (before i)) = ap (λ (pl : Place). pl.first) (place_is i lt) ∙ sym (length-map job (before i)) in
      let end : place_end s i ≡ length (map job (before i) ++ map job (own i)) = end_is i lt ∙ ap length (before_next i lt) ∙ sym (length-map job (before i ++ own i)) ∙ ap length (map-append job (before i) (own i)) in
      let rest : List Job = map job (batch_picked p (after_batch p t (take (i + 1) asked)) (drop (i + 1) asked)) in
      ap (λ (n : ℕ). take (place_end s i - n) (drop n s.jobs)) first
      ∙ ap (λ (n : ℕ). take (n - length (map job (before i))) (drop (length (map job (before i))) s.jobs)) end
      ∙ ap (λ (js : List Job). take (length (map job (before i) ++ map job (own i)) - length (map job (before i))) (drop (length (map job (before i))) js)) (jobs_split i lt)
      ∙ between (map job (before i)) (map job (own i)) rest

  map_twice : {X Y Z : Type 0} (f : X → Y) (g : Y → Z) (xs : List X) → map g (map f xs) ≡ map (λ x. g (f x)) xs
  map_twice f g [] = refl
  map_twice f g (x ∷ xs) = ap (λ l. g (f x) ∷ l) (map_twice f g xs)

  place_shows : (i : ℕ) → i < length asked → notes_of_place s i ≡ place_notes p versions (after_batch p t (take i asked)) (asked_at asked i)
  place_shows i lt =
      ap (λ (x : ℕ). note.Label x ∷ map (λ (j : Job). note.Read j.cell) (take (place_end s i - (shown_place_at s i).first) (drop (shown_place_at s i).first s.jobs))) (ap (λ (pl : Place). pl.leaf) (place_is i lt))
      ∙ ap (λ (ns : List Note). note.Label (leaf_shown (after_batch p t (take i asked)) (asked_at asked i).0 (asked_at asked i).1) ∷ ns)
      (ap (λ (js : List Job). map (λ (j : Job). note.Read j.cell) js) (own_jobs i lt) ∙ map_twice job (λ (j : Job). note.Read j.cell) (own i))

  -- no job stands before the first place
  none_before : take (shown_place_at s 0).first s.jobs ≡ []
  none_before = elim (cases_lt 0 (length asked)) [
    | inl some ↦ ap (λ (pl : Place). take pl.first s.jobs) (place_is 0 some)
    | inr none ↦ (let zeros : 0 ≡ length asked = omega arith in
        let all : 0 ≡ length (before (length asked)) = ap (λ (n : ℕ). length (before n)) zeros in
        let many : length s.jobs ≡ length (before (length asked)) = many_jobs ∙ ap length (sym all_before) in
        none_of (shown_place_at s 0).first s.jobs (omega (arith, all, many)))
  ]

  shown_to : (n : ℕ) → n ≤ length asked → placed_notes s n ≡ repeated_notes p versions t (take n asked)
  shown_to zero le = ap (λ (js : List Job). map (λ (j : Job). note.Read j.cell) js) none_before
  shown_to (suc n) le =
      let low : n < length asked = omega arith in
      ap (λ (ns : List Note). ns ++ notes_of_place s n) (shown_to n (omega arith)) ∙ ap (λ (ns : List Note). repeated_notes p versions t (take n asked) ++ ns) (place_shows n low)
      ∙ ap (λ (ns : List Note). repeated_notes p versions t (take n asked) ++ ns) (sym (append-nil (place_notes p versions (after_batch p t (take n asked)) (asked_at asked n))))
      ∙ sym (notes_both p versions t (take n asked) (asked_at asked n ∷ []))
      ∙ ap (λ (xs : Asked). repeated_notes p versions t xs) (sym (take_more asked n (None, 0) low) ∙ ap (λ (m : ℕ). take m asked) (add-one n))

  pub batch_shows : placed_notes s (length s.places) ≡ repeated_notes p versions t asked
  batch_shows =
      ap (λ (n : ℕ). placed_notes s n) many_places ∙ shown_to (length asked) (omega arith) ∙ ap (λ (xs : Asked). repeated_notes p versions t xs) (take_all (length asked) asked (omega arith))

-- where there is no place, all jobs are read
pub none_placed : (s : Planned) → s.places ≡ [] → placed_notes s (length s.places) ≡ map (λ j. note.Read j.cell) s.jobs
none_placed s none =
    ap (λ (l : List Place). placed_notes s (length l)) none
    ∙ ap (λ (l : List Place). map (λ (j : Job). note.Read j.cell) (take (get_or l 0 (record { leaf = 0; first = length s.jobs })).first s.jobs)) none
    ∙ ap (λ (js : List Job). map (λ (j : Job). note.Read j.cell) js) (take_all (length s.jobs) s.jobs (omega arith))

pub none_are_placed : (s : Planned) → s.places ≡ [] → ArePlaced s
none_are_placed s none i lt = let many : length s.places ≡ 0 = ap length none in absurd (omega arith)

-- there are as many jobs as stand before the first place
pub front_room : (s : Planned) → ArePlaced s → (shown_place_at s 0).first ≤ length s.jobs
front_room s placed = elim (cases_lt 0 (length s.places)) [
  | inl some ↦ (let at = placed 0 some in omega (arith, at.0, at.1))
  | inr none ↦ (let out : shown_place_at s 0 ≡ record { leaf = 0; first = length s.jobs } = behind s.places none in let same : (shown_place_at s 0).first ≡ length s.jobs = ap (λ (pl : Place). pl.first) out in omega (arith, same))
]
  where
    behind : (l : List Place) → length l ≤ 0 → get_or l 0 (record { leaf = 0; first = length s.jobs }) ≡ record { leaf = 0; first = length s.jobs }
    behind [] few = refl
    behind (x ∷ l) few = absurd (omega arith)

-- one place more
pub placed_more : (s : Planned) (n : ℕ) → placed_notes s (n + 1) ≡ placed_notes s n ++ notes_of_place s n
placed_more s n = ap (λ (m : ℕ). placed_notes s m) (add-one n)

-- ---- parts of the code

abbrev read_note : Job → Note
read_note j = note.Read j.cell

-- one job more
pub shows_next : (jobs : List Job) (i : ℕ) (a b d : Trace) → i < length jobs → Shows (map (λ j. note.Read j.cell) (take i jobs)) a b → Shows (note.Read (job_at jobs i).cell ∷ []) b d → Shows (map (λ j. note.Read j.cell) (take (i + 1) jobs)) a d
shows_next jobs i a b d lt so next =
    let more : map read_note (take (i + 1) jobs) ≡ map read_note (take i jobs) ++ read_note (job_at jobs i) ∷ [] =
    ap (λ (js : List Job). map read_note js) (take_more jobs i (record { cell = 0; generation = 0; number = 0; key = None; result = None }) lt) ∙ map-append read_note (take i jobs) (job_at jobs i ∷ []) in
    subst (λ (ns : List Note). Shows ns a d) (sym more) (shows_then (map read_note (take i jobs)) (read_note (job_at jobs i) ∷ []) a b d so next)

-- an item of a list, whatever stands behind its end
pub get_same : {X : Type 0} (xs : List X) (i : ℕ) (d e : X) → i < length xs → get_or xs i d ≡ get_or xs i e
get_same [] i d e lt = absurd (omega arith)
get_same (x ∷ xs) zero d e lt = refl
get_same (x ∷ xs) (suc i) d e lt = get_same xs i d e (omega arith)

-- a label and the reads behind it
pub place_shown : (s : Planned) (i : ℕ) (pl : Place) (end : ℕ) (jobs : List Job) (a b d : Trace) → pl ≡ shown_place_at s i → end ≡ place_end s i → jobs ≡ s.jobs
    → Shows (note.Label pl.leaf ∷ []) a b → Shows (map (λ j. note.Read j.cell) (take (end - pl.first) (drop pl.first jobs))) b d → Shows (notes_of_place s i) a d
place_shown s i pl end jobs a b d is ends all label reads =
    let same : note.Label pl.leaf ∷ map read_note (take (end - pl.first) (drop pl.first jobs)) ≡ notes_of_place s i =
    ap (λ (x : Place). note.Label x.leaf ∷ map read_note (take (end - x.first) (drop x.first jobs))) is
    ∙ ap (λ (n : ℕ). note.Label (shown_place_at s i).leaf ∷ map read_note (take (n - (shown_place_at s i).first) (drop (shown_place_at s i).first jobs))) ends
    ∙ ap (λ (js : List Job). note.Label (shown_place_at s i).leaf ∷ map read_note (take (place_end s i - (shown_place_at s i).first) (drop (shown_place_at s i).first js))) all in
    subst (λ (ns : List Note). Shows ns a d) same (shows_then (note.Label pl.leaf ∷ []) (map read_note (take (end - pl.first) (drop pl.first jobs))) a b d label reads)

pub place_next : (s : Planned) (i : ℕ) (a b d : Trace) → Shows (placed_notes s i) a b → Shows (notes_of_place s i) b d → Shows (placed_notes s (i + 1)) a d
place_next s i a b d so next = subst (λ (ns : List Note). Shows ns a d) (sym (placed_more s i)) (shows_then (placed_notes s i) (notes_of_place s i) a b d so next)

-- ---- jobs that were read show the same

map_take : {X Y : Type 0} (f : X → Y) (n : ℕ) (xs : List X) → map f (take n xs) ≡ take n (map f xs)
map_take f zero xs = refl
map_take f (suc n) [] = refl
map_take f (suc n) (x ∷ xs) = ap (λ l. f x ∷ l) (map_take f n xs)

map_drop : {X Y : Type 0} (f : X → Y) (n : ℕ) (xs : List X) → map f (drop n xs) ≡ drop n (map f xs)
map_drop f zero xs = refl
map_drop f (suc n) [] = refl
map_drop f (suc n) (x ∷ xs) = map_drop f n xs

part_is : (a n : ℕ) (js : List Job) → map read_note (take n (drop a js)) ≡ take n (drop a (map read_note js))
part_is a n js = map_take read_note n (drop a js) ∙ ap (λ l. take n l) (map_drop read_note a js)

filled_notes : (old new : List Job) (plain : ℕ → List ℕ) → length new ≡ length old → ((i : ℕ) → i < length old → (job_at new i).cell ≡ (job_at old i).cell) → map read_note new ≡ map read_note old
filled_notes [] [] plain many each = refl
filled_notes [] (n ∷ ns) plain many each = absurd (omega arith)
filled_notes (o ∷ os) [] plain many each = absurd (omega arith)
filled_notes (o ∷ os) (n ∷ ns) plain many each =
    let here : n.cell ≡ o.cell = each 0 (omega arith) in
    let rest : map read_note ns ≡ map read_note os = filled_notes os ns plain (omega arith) (λ i lt. each (suc i) (omega arith)) in
    ap (λ (c : ℕ). note.Read c ∷ map read_note ns) here ∙ ap (λ (l : List Note). note.Read o.cell ∷ l) rest

pub filled_shows : (old new : Planned) (plain : ℕ → List ℕ) (n : ℕ) → new ≡ record old { jobs = new.jobs } → AreFilled old.jobs new.jobs plain → placed_notes new n ≡ placed_notes old n
filled_shows old new plain n rest filled = all n
  where
    notes : map read_note new.jobs ≡ map read_note old.jobs
    notes = filled_notes old.jobs new.jobs plain filled.many (λ i lt. ap (λ (j : Job). j.cell) (filled.each i lt))

    places : new.places ≡ old.places
    places = ap (λ (s : Planned). s.places) rest

    place_same : (i : ℕ) → shown_place_at new i ≡ shown_place_at old i
    place_same i = ap (λ (l : List Place). get_or l i (record { leaf = 0; first = length new.jobs })) places ∙ ap (λ (m : ℕ). get_or old.places i (record { leaf = 0; first = m })) filled.many

    one : (i : ℕ) → notes_of_place new i ≡ notes_of_place old i
    one i =
        ap (λ (l : List Note). note.Label (shown_place_at new i).leaf ∷ l) (part_is (shown_place_at new i).first (place_end new i - (shown_place_at new i).first) new.jobs)
        ∙ ap (λ (l : List Note). note.Label (shown_place_at new i).leaf ∷ take (place_end new i - (shown_place_at new i).first) (drop (shown_place_at new i).first l)) notes
        ∙ ap (λ (pl : Place). note.Label pl.leaf ∷ take (place_end new i - pl.first) (drop pl.first (map read_note old.jobs))) (place_same i)
        ∙ ap (λ (pl : Place). note.Label (shown_place_at old i).leaf ∷ take (pl.first - (shown_place_at old i).first) (drop (shown_place_at old i).first (map read_note old.jobs))) (place_same (i + 1))
        ∙ ap (λ (l : List Note). note.Label (shown_place_at old i).leaf ∷ l) (sym (part_is (shown_place_at old i).first (place_end old i - (shown_place_at old i).first) old.jobs))

    all : (m : ℕ) → placed_notes new m ≡ placed_notes old m
    all zero =
        map_take read_note (shown_place_at new 0).first new.jobs ∙ ap (λ (l : List Note). take (shown_place_at new 0).first l) notes
        ∙ ap (λ (pl : Place). take pl.first (map read_note old.jobs)) (place_same 0) ∙ sym (map_take read_note (shown_place_at old 0).first old.jobs)
    all (suc m) = ap (λ (l : List Note). l ++ notes_of_place new m) (all m) ∙ ap (λ (l : List Note). placed_notes old m ++ l) (one m)

-- the place that is read
pub place_got : (s : Planned) (i : ℕ) (places : List Place) → i < length s.places → places ≡ s.places → get_or places i (record { leaf = 0; first = 0 }) ≡ shown_place_at s i
place_got s i places lt same = ap (λ (l : List Place). get_or l i (record { leaf = 0; first = 0 })) same ∙ get_same s.places i (record { leaf = 0; first = 0 }) (record { leaf = 0; first = length s.jobs }) lt

-- all places of jobs that were read
pub filled_batch : (old new : Planned) (plain : ℕ → List ℕ) (a b : Trace) → new ≡ record old { jobs = new.jobs } → AreFilled old.jobs new.jobs plain → Shows (placed_notes new (length new.places)) a b → Shows (placed_notes old (length old.places)) a b
filled_batch old new plain a b rest filled shows =
    subst (λ (ns : List Note). Shows ns a b) (filled_shows old new plain (length old.places) rest filled)
    (subst (λ (n : ℕ). Shows (placed_notes new n) a b) (ap (λ (s : Planned). length s.places) rest) shows)
