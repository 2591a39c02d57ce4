-- Notes that change nothing, put behind a list, and cells that follow each other.
use Rattle.std.specs.Prelude.{◌≡◌, ℕ, ◌+◌, ◌*◌, List, [], ◌∷◌, ◌++◌, map, OnOk, Result, Ok, Err}
use Rattle.std.specs.List.{range_with_len}
use Rattle.std.proofs.Common.{refl, sym, ap, ◌∙◌, subst, arith, zero, suc, add-one, append_assoc}
use Rattle.std.proofs.lemmas.List.{map-append}
use Rattle.ob_base.specs.declared.params.Params.{Params}
use Rattle.ob_base.specs.Tree.{below, buckets, width}
use Rattle.ob_base.specs.Layout.{LogArea, slot_cell, check_cell, log_cell, log_gate, start_of, log_cells, checkpoint_cells, record_cells}
use Rattle.ob_store.specs.declared.watch.Note.{Note}
use Rattle.ob_store.specs.declared.watch.Note.TheVariants.{Write}
use Rattle.ob_schedule.specs.Schedule.{writes_of, bucket_writes, check_cells, region_cells}
use Rattle.ob_schedule.specs.declared.want.Change.TheVariants.{Keeps}
use Rattle.ob_schedule.specs.declared.want.Want.{Want}
use Rattle.ob_schedule.specs.declared.want.Want.TheVariants.{Fixed}
use Rattle.ob_schedule.specs.Wants.{kept}
use Rattle.ob_schedule.specs.declared.want.Side.{Side}
use Rattle.ob_wants.proofs.Lists.{below_up, homes_more}

pub kept_both : (xs ys : List Note) → kept (xs ++ ys) ≡ kept xs ++ kept ys
kept_both xs ys = map-append (λ note. Fixed note Keeps) xs ys

-- two pieces behind a list are one
pub then_kept : (first mid now : List Want) (xs ys : List Note) → mid ≡ first ++ kept xs → now ≡ mid ++ kept ys → now ≡ first ++ kept (xs ++ ys)
then_kept first mid now xs ys a b = b ∙ (λ j. a j ++ kept ys) ∙ append_assoc first (kept xs) (kept ys) ∙ ap (λ (ws : List Want). first ++ ws) (sym (kept_both xs ys))

-- one gate more of a log area
pub gates_more : (p : Params) (area n cell : ℕ) (first mid now : List Want) (want : Want) → cell ≡ log_gate p area n → want ≡ Fixed (Write cell) Keeps
    → mid ≡ first ++ kept (writes_of (map (log_gate p area) (below n))) → now ≡ mid ++ want ∷ [] → now ≡ first ++ kept (writes_of (map (log_gate p area) (below (n + 1))))
gates_more p area n cell first mid now want at is before pushed =
    let gates : List ℕ → List Note = λ batches. writes_of (map (log_gate p area) batches) in
    let more : gates (below (n + 1)) ≡ gates (below n) ++ gates (n ∷ []) =
    ap gates (below_up n) ∙ ap writes_of (map-append (log_gate p area) (below n) (n ∷ [])) ∙ map-append (λ c. Write c) (map (log_gate p area) (below n)) (map (log_gate p area) (n ∷ [])) in
    then_kept first mid now (gates (below n)) (gates (n ∷ [])) before (pushed ∙ ap (λ (w : Want). mid ++ w ∷ []) (is ∙ ap (λ (c : ℕ). Fixed (Write c) Keeps) at))
    ∙ ap (λ (ns : List Note). first ++ kept ns) (sym more)

-- what an end writes, in its five parts
pub end_put : {E : Type 0} (result : Result Unit E) (old one two three four now : List Want) (side at : Side) (anew gates last : List Note) (checks : Side → List Note) (rest : Params → Side → List Want) (p : Params)
    → side ≡ at → one ≡ old ++ kept anew → two ≡ one ++ kept (checks side) → three ≡ two ++ kept gates → four ≡ three ++ kept last → OnOk result ((q : Params) → now ≡ four ++ rest q side)
    → OnOk result (now ≡ old ++ (kept (((anew ++ checks at) ++ gates) ++ last) ++ rest p at))
end_put {E} (Err fault) old one two three four now side at anew gates last checks rest p same a b c d put = tt
end_put {E} (Ok done) old one two three four now side at anew gates last checks rest p same a b c d put =
    let all : List Note = ((anew ++ checks side) ++ gates) ++ last in
    let parts : four ≡ old ++ kept all =
    then_kept old three four ((anew ++ checks side) ++ gates) last (then_kept old two three (anew ++ checks side) gates (then_kept old one two anew (checks side) a b) c) d in
    subst (λ (s : Side). now ≡ old ++ (kept (((anew ++ checks s) ++ gates) ++ last) ++ rest p s)) same
    (put p ∙ ap (λ (ws : List Want). ws ++ rest p side) parts ∙ append_assoc old (kept all) (rest p side))

-- ---- cells that follow each other

cells_from : (f : ℕ → ℕ) (first a n : ℕ) → ((i : ℕ) → f i ≡ first + i) → map f (range_with_len a n) ≡ range_with_len (first + a) n
cells_from f first a zero is = refl
cells_from f first a (suc n) is =
    let next : first + (a + 1) ≡ first + a + 1 = omega arith in
    (λ j. is a j ∷ cells_from f first (a + 1) n is j) ∙ ap (λ (b : ℕ). (first + a) ∷ range_with_len b n) next

pub cells_run : (f : ℕ → ℕ) (first n : ℕ) → ((i : ℕ) → f i ≡ first + i) → range_with_len first n ≡ map f (below n)
cells_run f first n is = let none : first + 0 ≡ first = omega arith in sym (cells_from f first 0 n is ∙ ap (λ (b : ℕ). range_with_len b n) none)

pub checks_run : (p : Params) (area n cell : ℕ) → cell ≡ check_cell p area 0 → n ≡ checkpoint_cells p → range_with_len cell n ≡ check_cells p area
checks_run p area n cell is many = cells_run (check_cell p area) cell n (λ i. omega (arith, is)) ∙ ap (λ (k : ℕ). map (check_cell p area) (below k)) many

pub record_run : (p : Params) (area batch n cell : ℕ) → cell ≡ log_cell p area batch 0 → n ≡ record_cells p → range_with_len cell n ≡ map (log_cell p area batch) (below (record_cells p))
record_run p area batch n cell is many = cells_run (log_cell p area batch) cell n (λ i. omega (arith, is)) ∙ ap (λ (k : ℕ). map (log_cell p area batch) (below k)) many

pub area_run : (p : Params) (area n cell : ℕ) → cell ≡ log_cell p area 0 0 → n ≡ log_cells p → range_with_len cell n ≡ region_cells p (LogArea area)
area_run p area n cell is many =
    cells_run (λ i. start_of p (LogArea area) + i) cell n (λ i. omega (arith, is)) ∙ ap (λ (k : ℕ). map (λ i. start_of p (LogArea area) + i) (below k)) many

pub slots_run : (p : Params) (home bucket n cell : ℕ) → cell ≡ slot_cell p home bucket 0 → range_with_len cell n ≡ map (slot_cell p home bucket) (below n)
slots_run p home bucket n cell is = cells_run (slot_cell p home bucket) cell n (λ i. omega (arith, is))

range_both : (a m n : ℕ) → range_with_len a m ++ range_with_len (a + m) n ≡ range_with_len a (m + n)
range_both a zero n =
    let same : a + 0 ≡ a = omega arith in
    let none : n ≡ 0 + n = omega arith in
    ap (λ (b : ℕ). range_with_len b n) same ∙ ap (range_with_len a) none
range_both a (suc m) n =
    let next : a + suc m ≡ a + 1 + m = omega arith in
    let more : suc (m + n) ≡ suc m + n = omega arith in
    ap (λ (b : ℕ). a ∷ (range_with_len (a + 1) m ++ range_with_len b n)) next ∙ ap (λ (cells : List ℕ). a ∷ cells) (range_both (a + 1) m n) ∙ ap (range_with_len a) more

-- the first home's buckets lie one behind the other
homes_in : (p : Params) (cell n : ℕ) → cell ≡ slot_cell p 0 0 0 → bucket_writes p (λ u. 0) (below n) ≡ writes_of (range_with_len cell (n * width p))
homes_in p cell zero is = let none : 0 ≡ 0 * width p = omega arith in ap (λ (k : ℕ). writes_of (range_with_len cell k)) none
homes_in p cell (suc n) is =
    let at : cell + n * width p ≡ slot_cell p 0 n 0 = omega (arith, is) in
    let more : n * width p + width p ≡ suc n * width p = omega arith in
    ap (λ (k : ℕ). bucket_writes p (λ u. 0) (below k)) (sym (add-one n)) ∙ homes_more p n
    ∙ (λ j. homes_in p cell n is j ++ writes_of (sym (slots_run p 0 n (width p) (cell + n * width p) at) j))
    ∙ sym (map-append (λ c. Write c) (range_with_len cell (n * width p)) (range_with_len (cell + n * width p) (width p)))
    ∙ ap writes_of (range_both cell (n * width p) (width p))
    ∙ ap (λ (k : ℕ). writes_of (range_with_len cell k)) more

pub homes_run : (p : Params) (cell n many : ℕ) → cell ≡ slot_cell p 0 0 0 → n ≡ buckets p → many ≡ n * width p → writes_of (range_with_len cell many) ≡ bucket_writes p (λ u. 0) (below (buckets p))
homes_run p cell n many is all so =
    ap (λ (k : ℕ). writes_of (range_with_len cell k)) so ∙ sym (homes_in p cell n is) ∙ ap (λ (k : ℕ). bucket_writes p (λ u. 0) (below k)) all

-- what was put behind a list, under another name
pub same_notes : {E : Type 0} (result : Result Unit E) (now old : List Want) (xs ys : List Note) → xs ≡ ys → OnOk result (now ≡ old ++ kept xs) → OnOk result (now ≡ old ++ kept ys)
same_notes {E} result now old xs ys same told = subst (λ (ns : List Note). OnOk result (now ≡ old ++ kept ns)) same told

pub all_told : {E : Type 0} (result : Result Unit E) (now old xs : List Want) (ys : Params → List Want) → ((p : Params) → xs ≡ ys p) → OnOk result (now ≡ old ++ xs) → OnOk result ((p : Params) → now ≡ old ++ ys p)
all_told {E} (Ok done) now old xs ys same told = λ p. told ∙ ap (λ (ws : List Want). old ++ ws) (same p)
all_told {E} (Err fault) now old xs ys same told = tt
