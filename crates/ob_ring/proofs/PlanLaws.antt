-- Parts of a plan, one after another.
use Rattle.std.specs.Prelude.{◌≡◌, ◌≢◌, ℕ, ◌+◌, ◌-◌, ◌<◌, ◌≤◌, ◌==◌, ◌%◌, ◌^◌, Bool, true, false, cond, not, ◌&&◌, ◌||◌, List, [], ◌∷◌, ◌++◌, map, take, filter, length, Option, IfSome, unwrap_or, slice_index, slice_index_or, slice_set}
use Rattle.std.specs.declared.option.Option.TheVariants.{None, Some}
use Rattle.std.specs.List.{find, range_with_len, count_by}
use Rattle.std.proofs.Common.{zero, suc, arith, refl, sym, ap, subst, ◌∙◌, inl, inr}
use Rattle.std.proofs.lemmas.Bool.{cases_Bool, cases_eq, eq-eqb, ne_eqb}
use Rattle.std.proofs.lemmas.List.{get_or-set_same, get_or-set_other, length-set}
use Rattle.ob_base.specs.declared.params.Params.{Params}
use Rattle.ob_base.specs.declared.job.Job.{Job}
use Rattle.ob_base.specs.Layout.{slot_cell}
use Rattle.ob_base.specs.Tree.{buckets, width}
use Rattle.ob_base.specs.Planned.{Planned}
use Rattle.ob_tables.specs.Version.{Version, HasSlots, key_at, used_at}
use Rattle.ob_tables.specs.Buckets.{Buckets, version_at, with_version, is_lifted, no_version}
use Rattle.ob_ring.specs.FlatTable.{FlatTable, Spot, index_in, mark_index, lift, lift_order, reads, visit}
use Rattle.ob_ring.specs.Order.{order_of, is_live, is_spare}
use Rattle.ob_ring.specs.Arrays.{IsTableOf, AreWhole, Rest, arrays_of}
use Rattle.ob_ring.specs.Picked.{Picked, Plans, SameSeals, job_of, with_jobs, index_of, lift_picked, show_picked, shown_index, shown_of, key_shown, visit_picked, IsEmptied}
use Rattle.ob_tables.proofs.Counting.{count_by-range_more}
use Rattle.ob_ring.proofs.Appends.{append_more, append_none, map-both}
use Rattle.ob_ring.proofs.TableOf.{table_like, HasVersion, holder_is, order_is, shown_is, reads_are, with_used, with_lifted, mark_is, lift_is}

-- ---- one version changes

pub at_same : {X : Type 0} (f : Version → X) (s : Buckets) (u : ℕ) (v : Version) → u < length s.versions → (w : ℕ) → w ≡ u → f (version_at (slice_set s.versions u v) w) ≡ f v
at_same f s u v h w e = ap f (ap (λ (x : ℕ). version_at (slice_set s.versions u v) x) e ∙ get_or-set_same s.versions u v no_version h)

pub at_other : {X : Type 0} (f : Version → X) (s : Buckets) (u : ℕ) (v : Version) (w : ℕ) → w ≢ u → f (version_at (slice_set s.versions u v) w) ≡ f (version_at s.versions w)
at_other f s u v w ne = ap f (get_or-set_other s.versions u w v no_version ne)

-- what the new version has as the old one had it
pub at_kept : {X : Type 0} (f : Version → X) (s : Buckets) (u : ℕ) (v : Version) → u < length s.versions → f v ≡ f (version_at s.versions u) → (w : ℕ) → f (version_at (slice_set s.versions u v) w) ≡ f (version_at s.versions w)
at_kept f s u v h same w = elim (cases_eq w u) [
  | inl e ↦ at_same f s u v h w e ∙ same ∙ sym (ap (λ (x : ℕ). f (version_at s.versions x)) e)
  | inr ne ↦ at_other f s u v w ne
]

pub whole_with : (p : Params) (s : Buckets) (u : ℕ) (v : Version) → AreWhole p s → u < buckets p → HasSlots p v → AreWhole p (with_version s u v)
whole_with p s u v whole h slots = record {
  many = length-set s.versions u v ∙ whole.many;
  marks = whole.marks;
  slots = λ w hw. elim (cases_eq w u) [
    | inl e ↦ subst (HasSlots p) (sym (at_same (λ x. x) s u v (omega (arith, whole.many)) w e)) slots
    | inr ne ↦ subst (HasSlots p) (sym (at_other (λ x. x) s u v w ne)) (whole.slots w hw)
  ];
}

-- the version of a bucket, in the arrays
pub has_version : (s : Buckets) (r : Rest) (u : ℕ) → HasVersion (arrays_of s r) u (version_at s.versions u)
has_version s r u = record { keys = λ j. refl; used = λ j. refl }

-- ---- parts

pub plans_like : (p : Params) (old new : Buckets) (before now : Planned) (f f' : FlatTable → List Picked) (g g' : FlatTable → FlatTable) → Plans p old new before now f g → ((r : Rest) (t : FlatTable) → IsTableOf p (arrays_of old r) t → (f t ≡ f' t) × (g t ≡ g' t)) → Plans p old new before now f' g'
plans_like p old new before now f f' g g' plans same = record {
  whole = plans.whole;
  seals = plans.seals;
  follows = λ r t is. subst (λ (x : FlatTable). IsTableOf p (arrays_of new r) x) (same r t is).1 (plans.follows r t is);
  jobs = λ r t is. plans.jobs r t is ∙ ap (λ (qs : List Picked). before.jobs ++ map (job_of p old.versions) qs) (same r t is).0;
}

pub job_same : (p : Params) (old new : Buckets) → SameSeals old new → job_of p new.versions ≡ job_of p old.versions
job_same p old new same = λ i q. record {
  cell = slot_cell p (same.homes q.bucket i) q.bucket (slice_index (same.ranks q.bucket i) q.index);
  generation = same.generations q.bucket i;
  number = (same.bases q.bucket i + slice_index (same.ranks q.bucket i) q.index) % 2 ^ 64;
  key = q.key;
  result = None;
}

pub seals_then : (old mid new : Buckets) → SameSeals old mid → SameSeals mid new → SameSeals old new
seals_then old mid new a b = record {
  homes = λ u. b.homes u ∙ a.homes u;
  generations = λ u. b.generations u ∙ a.generations u;
  bases = λ u. b.bases u ∙ a.bases u;
  ranks = λ u. b.ranks u ∙ a.ranks u;
  order = b.order ∙ a.order;
}

pub plans_then : (p : Params) (old mid new : Buckets) (before middle now : Planned) (f f' : FlatTable → List Picked) (g g' : FlatTable → FlatTable) → Plans p old mid before middle f g → Plans p mid new middle now f' g' → Plans p old new before now (λ t. f t ++ f' (g t)) (λ t. g' (g t))
plans_then p old mid new before middle now f f' g g' a b = record {
  whole = b.whole;
  seals = seals_then old mid new a.seals b.seals;
  follows = λ r t is. b.follows r (g t) (a.follows r t is);
  jobs = λ r t is. b.jobs r (g t) (a.follows r t is)
      ∙ (λ i. a.jobs r t is i ++ map (job_same p old mid a.seals i) (f' (g t)))
      ∙ append_more before.jobs (map (job_of p old.versions) (f t)) (map (job_of p old.versions) (f' (g t)))
      ∙ ap (λ (js : List Job). before.jobs ++ js) (sym (map-both (job_of p old.versions) (f t) (f' (g t))));
}

pub seals_none : (s : Buckets) → SameSeals s s
seals_none s = record { homes = λ u. refl; generations = λ u. refl; bases = λ u. refl; ranks = λ u. refl; order = refl }

pub plans_none : (p : Params) (s : Buckets) (jobs : Planned) → AreWhole p s → Plans p s s jobs jobs (λ t. []) (λ t. t)
plans_none p s jobs whole = record {
  whole = whole;
  seals = seals_none s;
  follows = λ r t is. is;
  jobs = λ r t is. sym (append_none jobs.jobs);
}

-- ---- an index is shown

set_bit : (xs : List Bool) (j i : ℕ) → j < length xs → slice_index_or (slice_set xs j true) i false ≡ ((i == j) || slice_index_or xs i false)
set_bit xs j i h = elim (cases_eq i j) [
  | inl e ↦ ap (λ (k : ℕ). slice_index_or (slice_set xs j true) k false) e ∙ get_or-set_same xs j true false h ∙ sym (ap (λ (b : Bool). b || slice_index_or xs i false) (eq-eqb i j e))
  | inr ne ↦ get_or-set_other xs j i true false ne ∙ sym (ap (λ (b : Bool). b || slice_index_or xs i false) (ne_eqb i j ne))
]

pub marked : (p : Params) (s : Buckets) (u j : ℕ) → AreWhole p s → u < buckets p → j < width p → (r : Rest) (t : FlatTable) → IsTableOf p (arrays_of s r) t → IsTableOf p
    (arrays_of (with_version s u (record (version_at s.versions u) { used = slice_set (version_at s.versions u).used j true })) r) (mark_index t u j)
marked p s u j whole hu hj r t is =
    let v : Version = version_at s.versions u in
    let v' : Version = record v { used = slice_set v.used j true } in
    let many : u < length s.versions = omega (arith, whole.many) in
    let slots : HasSlots p v = whole.slots u hu in
    table_like p (with_used (arrays_of s r) u j) (arrays_of (with_version s u v') r) (mark_index t u j) (mark_is p (arrays_of s r) t u j is)
    (λ w i. sym (at_kept (λ x. key_at x i) s u v' many refl w))
    (λ w i. elim (cases_eq w u) [
      | inl e ↦ ap (λ (b : Bool). (b && (i == j)) || used_at (version_at s.versions w) i) (eq-eqb w u e) ∙ ap (λ (x : ℕ). (i == j) || used_at (version_at s.versions x) i) e
          ∙ sym (set_bit v.used j i (omega (arith, slots.used))) ∙ sym (at_same (λ x. used_at x i) s u v' many w e)
      | inr ne ↦ ap (λ (b : Bool). (b && (i == j)) || used_at (version_at s.versions w) i) (ne_eqb w u ne) ∙ sym (at_other (λ x. used_at x i) s u v' w ne)
    ])
    (λ w. refl) (λ k. refl) refl

pub show_plans : (p : Params) (s : Buckets) (u : ℕ) (own ask : Option ℕ) (before : Planned) → AreWhole p s → u < buckets p → shown_of (version_at s.versions u) own < width p →
    Plans p s (with_version s u (record (version_at s.versions u) { used = slice_set (version_at s.versions u).used (shown_of (version_at s.versions u) own) true })) before
    (with_jobs before (job_of p s.versions (record { bucket = u; index = shown_of (version_at s.versions u) own; key = key_shown ask own }) ∷ []))
    (λ t. show_picked p t ask own u) (λ t. mark_index t u (shown_index p t own u))
show_plans p s u own ask before whole hu hj =
    let v : Version = version_at s.versions u in
    let j : ℕ = shown_of v own in
    let v' : Version = record v { used = slice_set v.used j true } in
    let many : u < length s.versions = omega (arith, whole.many) in
    let slots : HasSlots p v = whole.slots u hu in
    let index : (r : Rest) (t : FlatTable) → IsTableOf p (arrays_of s r) t → j ≡ shown_index p t own u = λ r t is. sym (shown_is p (arrays_of s r) t u v own is (has_version s r u) slots) in
    record {
      whole = whole_with p s u v' whole hu (record { keys = slots.keys; ranks = slots.ranks; used = length-set v.used j true ∙ slots.used });
      seals = record {
        homes = at_kept (λ x. x.home) s u v' many refl;
        generations = at_kept (λ x. x.generation) s u v' many refl;
        bases = at_kept (λ x. x.base) s u v' many refl;
        ranks = at_kept (λ x. x.ranks) s u v' many refl;
        order = refl;
      };
      follows = λ r t is. subst (λ (i : ℕ). IsTableOf p (arrays_of (with_version s u v') r) (mark_index t u i)) (index r t is) (marked p s u j whole hu hj r t is);
      jobs = λ r t is. ap (λ (i : ℕ). before.jobs ++ job_of p s.versions (record { bucket = u; index = i; key = key_shown ask own }) ∷ []) (index r t is);
    }

-- ---- a bucket is lifted

map-map : {A B C : Type 0} (f : B → C) (g : A → B) (xs : List A) → map f (map g xs) ≡ map (λ x. f (g x)) xs
map-map f g [] = refl
map-map f g (x ∷ xs) = ap (λ ys. f (g x) ∷ ys) (map-map f g xs)

cond_off : (b : Bool) (o : Option ℕ) → b ≡ false → cond b None o ≡ o
cond_off true o e = ap (λ (c : Bool). cond c None o) e
cond_off false o e = refl

pub lift_plans : (p : Params) (s : Buckets) (u : ℕ) (v' : Version) (js : List ℕ) (before : Planned) → AreWhole p s → u < buckets p → js ≡ order_of (version_at s.versions u).keys (version_at s.versions u).used → IsEmptied (version_at s.versions u) v' →
    Plans p s (record (with_version s u v') { lifted = slice_set s.lifted u true }) before (with_jobs before (map (λ j. job_of p s.versions (index_of s.versions u j)) js)) (λ t. lift_picked p t u) (λ t. lift t u)
lift_plans p s u v' js before whole hu order emptied =
    let v : Version = version_at s.versions u in
    let many : u < length s.versions = omega (arith, whole.many) in
    let slots : HasSlots p v = whole.slots u hu in
    let kept : AreWhole p (with_version s u v') = whole_with p s u v' whole hu (record { keys = emptied.keys ∙ slots.keys; ranks = ap length emptied.ranks ∙ slots.ranks; used = ap length emptied.used ∙ slots.used }) in
    record {
      whole = record { many = kept.many; marks = length-set s.lifted u true ∙ whole.marks; slots = kept.slots };
      seals = record {
        homes = at_kept (λ x. x.home) s u v' many emptied.home;
        generations = at_kept (λ x. x.generation) s u v' many emptied.generation;
        bases = at_kept (λ x. x.base) s u v' many emptied.base;
        ranks = at_kept (λ x. x.ranks) s u v' many emptied.ranks;
        order = refl;
      };
      follows = λ r t is. table_like p (with_lifted (arrays_of s r) u) (arrays_of (record (with_version s u v') { lifted = slice_set s.lifted u true }) r) (lift t u) (lift_is p (arrays_of s r) t u is)
          (λ w i. elim (cases_eq w u) [
            | inl e ↦ ap (λ (b : Bool). cond b None (key_at (version_at s.versions w) i)) (eq-eqb w u e) ∙ sym (at_same (λ x. key_at x i) s u v' many w e ∙ emptied.empty i)
            | inr ne ↦ cond_off (w == u) (key_at (version_at s.versions w) i) (ne_eqb w u ne) ∙ sym (at_other (λ x. key_at x i) s u v' w ne)
          ])
          (λ w i. sym (at_kept (λ x. used_at x i) s u v' many (ap (λ us. slice_index_or us i false) emptied.used) w))
          (λ w. sym (set_bit s.lifted u w (omega (arith, whole.marks)))) (λ k. refl) refl;
      jobs = λ r t is.
          (let same : lift_order p t u ≡ js = order_is p (arrays_of s r) t u v is (has_version s r u) slots ∙ sym order in
          let here : map (job_of p s.versions) (lift_picked p t u) ≡ map (λ j. job_of p s.versions (index_of s.versions u j)) js =
          (λ i. map (job_of p s.versions) (map (λ j. record { bucket = u; index = j; key = holder_is p (arrays_of s r) t u j is i }) (same i)))
          ∙ map-map (job_of p s.versions) (index_of s.versions u) js in
          ap (λ (more : List Job). before.jobs ++ more) (sym here));
    }

-- ---- as the code does it

found_low : (q : ℕ → Bool) (a n m : ℕ) → a + n ≤ m → 0 < m → unwrap_or (find q (range_with_len a n)) 0 < m
found_low q a zero m h some = some
found_low q a (suc n) m h some = elim (cases_Bool (q a)) [
  | inl on ↦ rw on (omega arith)
  | inr off ↦ rw off (found_low q (a + 1) n m (omega arith) some)
]

pub shown_low : (p : Params) (v : Version) (own : Option ℕ) → HasSlots p v → IfSome own (λ j. j < p.real) → shown_of v own < width p
shown_low p v None slots low = found_low (λ j. not (used_at v j)) (length v.keys) (length v.used - length v.keys) (width p) (omega (arith, slots.keys, slots.used)) (omega (arith, p.in_range.some_real))
shown_low p v (Some j) slots low = omega arith

pub shown_plans : (p : Params) (s : Buckets) (u : ℕ) (own ask : Option ℕ) (before now : Planned) (v v' : Version) (index : ℕ) (job : Job) → AreWhole p s → u < buckets p → IfSome own (λ j. j < p.real) → v ≡ version_at s.versions u → index ≡ shown_of v own → v'
    ≡ record v { used = slice_set v.used index true } → job ≡ job_of p s.versions (record { bucket = u; index = index; key = key_shown ask own }) → now ≡ record before { jobs = before.jobs ++ job ∷ [] } →
    Plans p s (with_version s u v') before now (λ t. show_picked p t ask own u) (λ t. mark_index t u (shown_index p t own u))
shown_plans p s u own ask before now v v' index job whole hu low is at changed planned pushed =
    let j : ℕ = shown_of (version_at s.versions u) own in
    let at_j : index ≡ j = at ∙ ap (λ x. shown_of x own) is in
    let e : v' ≡ record (version_at s.versions u) { used = slice_set (version_at s.versions u).used j true } = changed ∙ (λ i. record (is i) { used = slice_set (is i).used (at_j i) true }) in
    let one : job ≡ job_of p s.versions (record { bucket = u; index = j; key = key_shown ask own }) = planned ∙ (λ i. job_of p s.versions (record { bucket = u; index = at_j i; key = key_shown ask own })) in
    let f : now ≡ with_jobs before (job_of p s.versions (record { bucket = u; index = j; key = key_shown ask own }) ∷ []) = pushed ∙ (λ i. with_jobs before (one i ∷ [])) in
    subst (λ (x : Version). Plans p s (with_version s u x) before now (λ t. show_picked p t ask own u) (λ t. mark_index t u (shown_index p t own u))) (sym e)
    (subst (λ (y : Planned). Plans p s (with_version s u (record (version_at s.versions u) { used = slice_set (version_at s.versions u).used j true })) before y (λ t. show_picked p t ask own u) (λ t. mark_index t u (shown_index p t own u))) (sym f)
    (show_plans p s u own ask before whole hu (shown_low p (version_at s.versions u) own (whole.slots u hu) low)))

pub lifted_plans : (p : Params) (s new : Buckets) (u : ℕ) (v v' : Version) (js : List ℕ) (before now : Planned) → AreWhole p s → u < buckets p → v ≡ version_at s.versions u → js ≡ order_of v.keys v.used → IsEmptied (version_at s.versions u) v' → new ≡ record
    (with_version s u v') { lifted = slice_set s.lifted u true } → now ≡ with_jobs before (map (λ j. job_of p s.versions (index_of s.versions u j)) js) →
    Plans p s new before now (λ t. lift_picked p t u) (λ t. lift t u)
lifted_plans p s new u v v' js before now whole hu is order emptied changed pushed =
    subst (λ (x : Buckets). Plans p s x before now (λ t. lift_picked p t u) (λ t. lift t u)) (sym changed)
    (subst (λ (y : Planned). Plans p s (record (with_version s u v') { lifted = slice_set s.lifted u true }) before y (λ t. lift_picked p t u) (λ t. lift t u)) (sym pushed)
    (lift_plans p s u v' js before whole hu (order ∙ (λ i. order_of (is i).keys (is i).used)) emptied))

-- the indexes of a lift are the version's
take_low : (limit m : ℕ) (xs : List ℕ) → ((i : ℕ) → i < length xs → slice_index xs i < m) → (i : ℕ) → i < length (take limit xs) → slice_index (take limit xs) i < m
take_low zero m xs low i h = absurd (omega arith)
take_low (suc n) m [] low i h = absurd (omega arith)
take_low (suc n) m (x ∷ xs) low zero h = low zero (omega arith)
take_low (suc n) m (x ∷ xs) low (suc i) h = take_low n m xs (λ k g. low (suc k) (omega arith)) i (omega arith)

abbrev AllLow : ℕ → List ℕ → Type 0
AllLow m xs = (i : ℕ) → i < length xs → slice_index xs i < m

low_cons : (m x : ℕ) (xs : List ℕ) → x < m → AllLow m xs → AllLow m (x ∷ xs)
low_cons m x xs h low zero g = h
low_cons m x xs h low (suc i) g = low i (omega arith)

low_append : (m : ℕ) (xs ys : List ℕ) → AllLow m xs → AllLow m ys → AllLow m (xs ++ ys)
low_append m [] ys a b = b
low_append m (x ∷ xs) ys a b = low_cons m x (xs ++ ys) (a zero (omega arith)) (low_append m xs ys (λ k g. a (suc k) (omega arith)) b)

low_kept : (b : Bool) (m x : ℕ) (xs : List ℕ) → x < m → AllLow m xs → AllLow m (cond b (x ∷ xs) xs)
low_kept true m x xs h low = low_cons m x xs h low
low_kept false m x xs h low = low

low_filter : (q : ℕ → Bool) (a n m : ℕ) → a + n ≤ m → AllLow m (filter q (range_with_len a n))
low_filter q a zero m h = λ i g. absurd (omega arith)
low_filter q a (suc n) m h = low_kept (q a) m a (filter q (range_with_len (a + 1) n)) (omega arith) (low_filter q (a + 1) n m (omega arith))

pub order_low : (p : Params) (v : Version) → HasSlots p v → AllLow (width p) (order_of v.keys v.used)
order_low p v slots = take_low (length v.keys) (width p) (filter (is_live v.keys) (range_with_len 0 (length v.used)) ++ filter (is_spare v.keys v.used) (range_with_len 0 (length v.used)))
    (low_append (width p) (filter (is_live v.keys) (range_with_len 0 (length v.used))) (filter (is_spare v.keys v.used) (range_with_len 0 (length v.used)))
    (low_filter (is_live v.keys) 0 (length v.used) (width p) (omega (arith, slots.used))) (low_filter (is_spare v.keys v.used) 0 (length v.used) (width p) (omega (arith, slots.used))))

-- ---- a visit

closed_visit : (p : Params) (t : FlatTable) (ask : Option ℕ) (own : Spot) (u : ℕ) (b : Bool) → t.lifted u ≡ b → b ≡ true → ([] ≡ visit_picked p t ask own u) × (t ≡ visit p t own u)
closed_visit p t ask own u b is on = (rw (is, on) refl, rw (is, on) refl)

pub visit_closed : (p : Params) (s : Buckets) (jobs : Planned) (ask : Option ℕ) (own : Spot) (u : ℕ) → AreWhole p s → is_lifted s u ≡ true → Plans p s s jobs jobs (λ t. visit_picked p t ask own u) (λ t. visit p t own u)
visit_closed p s jobs ask own u whole up =
    plans_like p s s jobs jobs (λ t. []) (λ t. visit_picked p t ask own u) (λ t. t) (λ t. visit p t own u) (plans_none p s jobs whole)
    (λ r t is. closed_visit p t ask own u (is_lifted s u) (is.lifted_is u) up)

pub visit_shows : (p : Params) (s new : Buckets) (before now : Planned) (ask own : Option ℕ) (spot : Spot) (u : ℕ) (many : ℕ) → AreWhole p s → u < buckets p → is_lifted s u ≡ false → own ≡ index_in u spot → many ≡ count_by (used_at (version_at s.versions u))
    (range_with_len 0 (length (version_at s.versions u).used)) → (many + 1 ≢ p.dummies) →
    Plans p s new before now (λ t. show_picked p t ask own u) (λ t. mark_index t u (shown_index p t own u)) → Plans p s new before now (λ t. visit_picked p t ask spot u) (λ t. visit p t spot u)
visit_shows p s new before now ask own spot u many whole hu down at counted more plans =
    plans_like p s new before now (λ t. show_picked p t ask own u) (λ t. visit_picked p t ask spot u) (λ t. mark_index t u (shown_index p t own u)) (λ t. visit p t spot u) plans
    (λ r t is. (let open' : t.lifted u ≡ false = is.lifted_is u ∙ down in
    let n : reads p t u ≡ many = reads_are p (arrays_of s r) t u (version_at s.versions u) is (has_version s r u) (whole.slots u hu) ∙ sym counted in
    let mid : (reads p t u + 1 == p.dummies) ≡ false = ne_eqb (reads p t u + 1) p.dummies (λ e. more (omega arith)) in
    (rw (open', mid) (λ i. show_picked p t ask (at i) u), rw (open', mid) (λ i. mark_index t u (shown_index p t (at i) u)))))

pub visit_lifts : (p : Params) (s mid new : Buckets) (before middle now : Planned) (ask own : Option ℕ) (spot : Spot) (u : ℕ) (many : ℕ) → AreWhole p s → u < buckets p → is_lifted s u ≡ false → own ≡ index_in u spot → many ≡ count_by
    (used_at (version_at s.versions u)) (range_with_len 0 (length (version_at s.versions u).used)) → (many + 1 ≡ p.dummies) →
    Plans p s mid before middle (λ t. show_picked p t ask own u) (λ t. mark_index t u (shown_index p t own u)) → Plans p mid new middle now (λ t. lift_picked p t u) (λ t. lift t u) → Plans p s new before now (λ t. visit_picked p t ask spot u) (λ t. visit p t spot u)
visit_lifts p s mid new before middle now ask own spot u many whole hu down at counted last shows lifts =
    plans_like p s new before now (λ t. show_picked p t ask own u ++ lift_picked p (mark_index t u (shown_index p t own u)) u) (λ t. visit_picked p t ask spot u) (λ t. lift (mark_index t u (shown_index p t own u)) u) (λ t. visit p t spot u)
    (plans_then p s mid new before middle now (λ t. show_picked p t ask own u) (λ t. lift_picked p t u) (λ t. mark_index t u (shown_index p t own u)) (λ t. lift t u) shows lifts)
    (λ r t is. (let open' : t.lifted u ≡ false = is.lifted_is u ∙ down in
    let n : reads p t u ≡ many = reads_are p (arrays_of s r) t u (version_at s.versions u) is (has_version s r u) (whole.slots u hu) ∙ sym counted in
    let end' : (reads p t u + 1 == p.dummies) ≡ true = eq-eqb (reads p t u + 1) p.dummies (omega arith) in
    (rw (open', end') (λ i. show_picked p t ask (at i) u ++ lift_picked p (mark_index t u (shown_index p t (at i) u)) u), rw (open', end') (λ i. lift (mark_index t u (shown_index p t (at i) u)) u))))

pub one_counted : (xs : List Bool) (j many next : ℕ) (b : Bool) → many ≡ count_by (λ i. slice_index_or xs i false) (range_with_len 0 j) → slice_index_or xs j false ≡ b → next ≡ many + cond b 1 0 → next ≡ count_by (λ i. slice_index_or xs i false) (range_with_len 0 (j + 1))
one_counted xs j many next b before is e = e ∙ (λ i. before i + cond (sym is i) 1 0) ∙ sym (count_by-range_more (λ i. slice_index_or xs i false) j)
