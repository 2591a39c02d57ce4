-- A row more in the counts.
use Rattle.std.specs.Prelude.{◌≡◌, ◌≢◌, ℕ, ◌+◌, ◌*◌, ◌<◌, ◌≤◌, nat_lt, Bool, true, false, cond, List, [], ◌∷◌, ◌++◌, length, take, Option, is_some, slice_index_or, slice_index, slice_set}
use Rattle.std.specs.declared.option.Option.TheVariants.{None, Some}
use Rattle.std.specs.List.{find}
use Rattle.std.specs.FinMap as finite
use Rattle.std.proofs.Common.{arith, refl, sym, ap, subst, ◌∙◌, inl, inr, get_or}
use Rattle.std.proofs.lemmas.Bool.{true≢false, false≢true, cases_eq, eq-eqb, ne_eqb, and_parts, ltb-true}
use Rattle.std.proofs.lemmas.List.{take_more, get_or-set_same, get_or-set_other}
use Rattle.ob_base.specs.declared.params.Params.{Params}
use Rattle.ob_tables.specs.Buckets.{Buckets, is_lifted}
use Rattle.ob_tables.specs.Kept.{entry_at}
use Rattle.ob_tables.specs.declared.entry.Entry.{Entry}
use Rattle.ob_ring.specs.FlatTable.{FlatTable, Row, in_stash}
use Rattle.ob_ring.specs.Settling.{Rows}
use Rattle.ob_ring.specs.Arrays.{IsTableOf, arrays_of, rest_of, leaf_in, leaf_of_entry}
use Rattle.ob_ring.proofs.StashWalks as walks
use Rattle.ob_ring.specs.Filling.{HasJustStashRows}
use Rattle.ob_ring.specs.Loops.{CountsTo, roomy, roomiest}
use Rattle.ob_ring.specs.Passing.{has_room, upwards, goes_to, one_more, taken_by, none_taken, put_among, row_keys, asking_steps, row_steps, steps_among}
use Rattle.ob_ring.proofs.StepLaws.{asking_few, path_length}
use Rattle.ob_ring.proofs.Turns.{taken_push, found_passes}

abbrev pub count_in : List ℕ → ℕ → ℕ
count_in counts u = slice_index_or counts u 0

steps_push : (p : Params) (t : FlatTable) (taken : ℕ → ℕ) (ks : List ℕ) (k : ℕ) → steps_among p t taken (ks ++ k ∷ []) ≡ steps_among p t taken ks + row_steps p t.lifted (taken_by p t taken ks) (t.rows k)
steps_push p t taken [] k = omega arith
steps_push p t taken (x ∷ ks) k = omega (arith, steps_push p t (one_more (goes_to p t.lifted taken (t.rows x)) taken) ks k)

puts_push : (p : Params) (t : FlatTable) (taken : ℕ → ℕ) (ks : List ℕ) (k : ℕ) → put_among p t taken (ks ++ k ∷ []) ≡ put_among p t taken ks + cond (is_some (goes_to p t.lifted (taken_by p t taken ks) (t.rows k))) 1 0
puts_push p t taken [] k = omega arith
puts_push p t taken (x ∷ ks) k = omega (arith, puts_push p t (one_more (goes_to p t.lifted taken (t.rows x)) taken) ks k)

record Goes (p : Params) (lifted : ℕ → Bool) (taken : ℕ → ℕ) (leaf : ℕ) (o : Option Row) : Type 0 where
  place : goes_to p lifted taken o ≡ find (has_room p lifted taken) (upwards p leaf (p.levels + 1))
  steps : row_steps p lifted taken o ≡ asking_steps (has_room p lifted taken) (upwards p leaf (p.levels + 1))

goes_of : (p : Params) (lifted : ℕ → Bool) (taken : ℕ → ℕ) (leaf : ℕ) (o : Option Row) → in_stash o ≡ true → leaf_in o ≡ Some leaf → Goes p lifted taken leaf o
goes_of p lifted taken leaf None out at = absurd (false≢true out)
goes_of p lifted taken leaf (Some r) out at =
    let same : r.leaf ≡ leaf = cc in
    record {
      place = ap (λ (b : Bool). cond b (find (has_room p lifted taken) (upwards p r.leaf (p.levels + 1))) None) out ∙ ap (λ (x : ℕ). find (has_room p lifted taken) (upwards p x (p.levels + 1))) same;
      steps = ap (λ (x : ℕ). asking_steps (has_room p lifted taken) (upwards p x (p.levels + 1))) same;
    }

pub no_leaf : (o : Option Row) → in_stash o ≡ true → leaf_in o ≡ None → ⊥
no_leaf None out at = false≢true out
no_leaf (Some r) out at = absurd (cc)

few_more : (p : Params) (metas : Buckets) (counts : List ℕ) (o : Option ℕ) (us : List ℕ) (u : ℕ) → find (roomy p metas counts) us ≡ o → count_in counts u ≤ p.real → one_more o (count_in counts) u ≤ p.real
few_more p metas counts None us u e h = h
few_more p metas counts (Some b) us u e h = elim (cases_eq u b) [
  | inl at ↦ (let room : nat_lt (count_in counts b) p.real ≡ true = (and_parts (is_lifted metas b) (nat_lt (count_in counts b) p.real) (found_passes (roomy p metas counts) us b e)).1 in
      omega (arith, ltb-true (count_in counts b) p.real room, ap (count_in counts) at, ap (λ (c : Bool). cond c (count_in counts u + 1) (count_in counts u)) (eq-eqb u b at)))
  | inr ne ↦ omega (arith, h, ap (λ (c : Bool). cond c (count_in counts u + 1) (count_in counts u)) (ne_eqb u b ne))
]

lifted_more : (p : Params) (metas : Buckets) (counts : List ℕ) (o : Option ℕ) (us : List ℕ) (u : ℕ) → find (roomy p metas counts) us ≡ o → is_lifted metas u ≡ false → one_more o (count_in counts) u ≡ count_in counts u
lifted_more p metas counts None us u e down = refl
lifted_more p metas counts (Some b) us u e down =
    let up : is_lifted metas b ≡ true = (and_parts (is_lifted metas b) (nat_lt (count_in counts b) p.real) (found_passes (roomy p metas counts) us b e)).0 in
    ap (λ (c : Bool). cond c (count_in counts u + 1) (count_in counts u)) (ne_eqb u b (λ at. true≢false (sym up ∙ ap (λ (x : ℕ). is_lifted metas x) (sym at) ∙ down)))

pub set_more : (counts : List ℕ) (b : ℕ) → b < length counts → (u : ℕ) → count_in (slice_set counts b (slice_index counts b + 1)) u ≡ one_more (Some b) (count_in counts) u
set_more counts b low u = elim (cases_eq u b) [
  | inl at ↦ ap (count_in (slice_set counts b (slice_index counts b + 1))) at ∙ get_or-set_same counts b (slice_index counts b + 1) 0 low
      ∙ ap (λ (x : ℕ). count_in counts x + 1) (sym at) ∙ sym (ap (λ (c : Bool). cond c (count_in counts u + 1) (count_in counts u)) (eq-eqb u b at))
  | inr ne ↦ get_or-set_other counts b u (slice_index counts b + 1) 0 ne ∙ sym (ap (λ (c : Bool). cond c (count_in counts u + 1) (count_in counts u)) (ne_eqb u b ne))
]

module _ (p : Params) (book : List (Option Entry)) (rows : Rows) (metas : Buckets) (counts : List ℕ) (n old now put key : ℕ) (s : CountsTo p book rows metas counts n old now put) (low : n < length (row_keys rows)) (is_key : key ≡ get_or (row_keys rows) n 0) where
  more : take (n + 1) (row_keys rows) ≡ take n (row_keys rows) ++ key ∷ []
  more = take_more (row_keys rows) n 0 low ∙ ap (λ (k : ℕ). take n (row_keys rows) ++ k ∷ []) (sym is_key)

  in_rows : finite.get rows key ≢ None
  in_rows = subst (λ (k : ℕ). finite.get rows k ≢ None) (sym is_key) (walks.row_is_there rows n low)

  pub count_none : entry_at book key ≡ None → CountsTo p book rows metas counts (n + 1) old now put
  count_none none = record {
    long = s.long;
    few = s.few;
    lifted_alone = s.lifted_alone;
    bound = (let b : now ≤ old + n * (p.levels + 2) = s.bound in let e : (n + 1) * (p.levels + 2) ≡ n * (p.levels + 2) + (p.levels + 2) = omega arith in omega (arith, b, e));
    put_few = omega (arith, s.put_few);
    counts_are = λ counter t just is u. absurd (no_leaf (t.rows key) ((just key).1 in_rows) (is.leaves_are key ∙ ap leaf_of_entry none));
    exact = λ counter t just is. absurd (no_leaf (t.rows key) ((just key).1 in_rows) (is.leaves_are key ∙ ap leaf_of_entry none));
    puts = λ counter t just is. absurd (no_leaf (t.rows key) ((just key).1 in_rows) (is.leaves_are key ∙ ap leaf_of_entry none));
  }

  pub count_some : (e : Entry) (o : Option ℕ) (counts' : List ℕ) (now' put' : ℕ) → entry_at book key ≡ Some e → o ≡ roomiest p metas counts e.leaf → now' ≡ now + asking_steps (roomy p metas counts) (upwards p e.leaf (p.levels + 1)) →
      put' ≡ put + cond (is_some o) 1 0 → length counts' ≡ length counts → ((u : ℕ) → count_in counts' u ≡ one_more o (count_in counts) u) → CountsTo p book rows metas counts' (n + 1) old now' put'
  count_some e o counts' now' put' at found ticked many long raised = record {
    long = long ∙ s.long;
    few = λ u. omega (arith, raised u, few_more p metas counts o (upwards p e.leaf (p.levels + 1)) u (sym found) (s.few u));
    lifted_alone = λ u down. raised u ∙ lifted_more p metas counts o (upwards p e.leaf (p.levels + 1)) u (sym found) down ∙ s.lifted_alone u down;
    bound = (let b : now ≤ old + n * (p.levels + 2) = s.bound in let m : (n + 1) * (p.levels + 2) ≡ n * (p.levels + 2) + (p.levels + 2) = omega arith in
        omega (arith, b, m, ticked, asking_few (roomy p metas counts) (upwards p e.leaf (p.levels + 1)), path_length p e.leaf (p.levels + 1)));
    put_few = omega (arith, s.put_few, many, at_most (is_some o));
    counts_are = λ counter t just is u. (
        let taken : taken_by p t none_taken (take n (row_keys rows)) ≡ count_in counts = λ i v. sym (s.counts_are counter t just is v) i in
        let lifted : t.lifted ≡ (λ v. is_lifted metas v) = λ i v. is.lifted_is v i in
        let g : Goes p t.lifted (taken_by p t none_taken (take n (row_keys rows))) e.leaf (t.rows key) = goes_of p t.lifted (taken_by p t none_taken (take n (row_keys rows))) e.leaf (t.rows key) ((just key).1 in_rows) (is.leaves_are key ∙ ap leaf_of_entry at) in
        let goes : goes_to p t.lifted (taken_by p t none_taken (take n (row_keys rows))) (t.rows key) ≡ o = g.place ∙ (λ i. find (has_room p (lifted i) (taken i)) (upwards p e.leaf (p.levels + 1))) ∙ sym found in
        raised u ∙ sym (ap (λ (f : ℕ → ℕ). f u) (ap (taken_by p t none_taken) more ∙ taken_push p t none_taken (take n (row_keys rows)) key) ∙ (λ i. one_more (goes i) (taken i) u)));
    exact = λ counter t just is. (
        let taken : taken_by p t none_taken (take n (row_keys rows)) ≡ count_in counts = λ i v. sym (s.counts_are counter t just is v) i in
        let lifted : t.lifted ≡ (λ v. is_lifted metas v) = λ i v. is.lifted_is v i in
        let g : Goes p t.lifted (taken_by p t none_taken (take n (row_keys rows))) e.leaf (t.rows key) = goes_of p t.lifted (taken_by p t none_taken (take n (row_keys rows))) e.leaf (t.rows key) ((just key).1 in_rows) (is.leaves_are key ∙ ap leaf_of_entry at) in
        let row : row_steps p t.lifted (taken_by p t none_taken (take n (row_keys rows))) (t.rows key) ≡ asking_steps (roomy p metas counts) (upwards p e.leaf (p.levels + 1)) = g.steps ∙ (λ i. asking_steps (has_room p (lifted i) (taken i)) (upwards p e.leaf (p.levels + 1))) in
        let before : now ≡ old + steps_among p t none_taken (take n (row_keys rows)) = s.exact counter t just is in
        let whole : steps_among p t none_taken (take (n + 1) (row_keys rows)) ≡ steps_among p t none_taken (take n (row_keys rows)) + row_steps p t.lifted (taken_by p t none_taken (take n (row_keys rows))) (t.rows key) =
        ap (steps_among p t none_taken) more ∙ steps_push p t none_taken (take n (row_keys rows)) key in
        omega (arith, ticked, row, before, whole));
    puts = λ counter t just is. (
        let taken : taken_by p t none_taken (take n (row_keys rows)) ≡ count_in counts = λ i v. sym (s.counts_are counter t just is v) i in
        let lifted : t.lifted ≡ (λ v. is_lifted metas v) = λ i v. is.lifted_is v i in
        let g : Goes p t.lifted (taken_by p t none_taken (take n (row_keys rows))) e.leaf (t.rows key) = goes_of p t.lifted (taken_by p t none_taken (take n (row_keys rows))) e.leaf (t.rows key) ((just key).1 in_rows) (is.leaves_are key ∙ ap leaf_of_entry at) in
        let goes : goes_to p t.lifted (taken_by p t none_taken (take n (row_keys rows))) (t.rows key) ≡ o = g.place ∙ (λ i. find (has_room p (lifted i) (taken i)) (upwards p e.leaf (p.levels + 1))) ∙ sym found in
        let before : put ≡ put_among p t none_taken (take n (row_keys rows)) = s.puts counter t just is in
        let whole : put_among p t none_taken (take (n + 1) (row_keys rows)) ≡ put_among p t none_taken (take n (row_keys rows)) + cond (is_some (goes_to p t.lifted (taken_by p t none_taken (take n (row_keys rows))) (t.rows key))) 1 0 =
        ap (put_among p t none_taken) more ∙ puts_push p t none_taken (take n (row_keys rows)) key in
        let one : ◌≡◌ {A = ℕ} (cond (is_some (goes_to p t.lifted (taken_by p t none_taken (take n (row_keys rows))) (t.rows key))) 1 0) (cond (is_some o) 1 0) = ap (λ (x : Option ℕ). cond (is_some x) 1 0) goes in
        omega (arith, many, before, whole, one));
  }
    where
      at_most : (b : Bool) → cond b 1 0 ≤ 1
      at_most true = omega arith
      at_most false = omega arith

-- where a row goes, as the counts say
pub goes_is : (p : Params) (book : List (Option Entry)) (rows : Rows) (metas : Buckets) (counts : List ℕ) (n old now put key : ℕ) (s : CountsTo p book rows metas counts n old now put) (low : n < length (row_keys rows)) (is_key : key ≡ get_or (row_keys rows) n 0)
    (e : Entry) (o : Option ℕ) (counter : ℕ) (t : FlatTable) → entry_at book key ≡ Some e → o ≡ roomiest p metas counts e.leaf → HasJustStashRows t rows → IsTableOf p (arrays_of metas (rest_of book counter)) t →
    goes_to p t.lifted (taken_by p t none_taken (take n (row_keys rows))) (t.rows key) ≡ o
goes_is p book rows metas counts n old now put key s low is_key e o counter t at found just is =
    let taken : taken_by p t none_taken (take n (row_keys rows)) ≡ count_in counts = λ i v. sym (s.counts_are counter t just is v) i in
    let lifted : t.lifted ≡ (λ v. is_lifted metas v) = λ i v. is.lifted_is v i in
    let there : finite.get rows key ≢ None = subst (λ (k : ℕ). finite.get rows k ≢ None) (sym is_key) (walks.row_is_there rows n low) in
    let g : Goes p t.lifted (taken_by p t none_taken (take n (row_keys rows))) e.leaf (t.rows key) = goes_of p t.lifted (taken_by p t none_taken (take n (row_keys rows))) e.leaf (t.rows key) ((just key).1 there) (is.leaves_are key ∙ ap leaf_of_entry at) in
    g.place ∙ (λ i. find (has_room p (lifted i) (taken i)) (upwards p e.leaf (p.levels + 1))) ∙ sym found

pub found_room : (p : Params) (metas : Buckets) (counts : List ℕ) (us : List ℕ) (b : ℕ) → Some b ≡ find (roomy p metas counts) us → count_in counts b < p.real
found_room p metas counts us b e = ltb-true (count_in counts b) p.real (and_parts (is_lifted metas b) (nat_lt (count_in counts b) p.real) (found_passes (roomy p metas counts) us b (sym e))).1

pub found_lifted : (p : Params) (metas : Buckets) (counts : List ℕ) (us : List ℕ) (b : ℕ) → Some b ≡ find (roomy p metas counts) us → is_lifted metas b ≡ true
found_lifted p metas counts us b e = (and_parts (is_lifted metas b) (nat_lt (count_in counts b) p.real) (found_passes (roomy p metas counts) us b (sym e))).0
