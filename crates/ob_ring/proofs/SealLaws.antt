-- Buckets that are sealed anew, one after another.
use Rattle.std.specs.Prelude.{◌≡◌, ◌≢◌, ℕ, ◌+◌, ◌-◌, ◌<◌, ◌==◌, Bool, true, false, cond, not, ◌&&◌, ◌||◌, List, [], ◌∷◌, ◌++◌, take, length, slice_index, slice_index_or, slice_set}
use Rattle.std.proofs.Common.{arith, refl, sym, ap, subst, ◌∙◌, inl, inr, get_or}
use Rattle.std.proofs.lemmas.Bool.{cases_eq, eq-eqb, ne_eqb, true≢false}
use Rattle.std.proofs.lemmas.List.{take_more, length-replicate, length-map, length-set, get_or-set_same, get_or-set_other}
use Rattle.std.proofs.lemmas.List.FromFn.{length-range_with_len}
use Rattle.ob_base.specs.declared.params.Params.{Params}
use Rattle.ob_base.specs.Tree.{buckets, width}
use Rattle.ob_schedule.specs.Paths.{is_one_of}
use Rattle.ob_tables.specs.Version.{Version, HasSlots, key_at, used_at, sealed_anew}
use Rattle.ob_tables.specs.Buckets.{Buckets, version_at, with_version}
use Rattle.std.specs.List.{range_with_len}
use Rattle.ob_ring.specs.Arrays.{AreWhole}
use Rattle.ob_ring.specs.Filling.{IsSealedAnew, base_of, words_of}
use Rattle.ob_ring.specs.Loops.{SealsOne, SealsTo}
use Rattle.ob_ring.proofs.FillLaws.{distinct_at, none_used}
use Rattle.ob_ring.proofs.Listed.{IsListed, listed_distinct, not_before}
use Rattle.ob_ring.proofs.Members.{IsDistinct, one_of-append}
use Rattle.ob_ring.proofs.PlanLaws.{at_same, at_other, at_kept, whole_with}

pub sealed_one : (p : Params) (s : Buckets) (u : ℕ) (v v' : Version) (home under from : ℕ) (words : List ℕ) → AreWhole p s → u < buckets p → v ≡ version_at s.versions u → v' ≡ sealed_anew v home under from words → length words ≡ width p →
    home ≡ 1 - (version_at s.versions u).home → SealsOne p s (with_version s u v') u words under from
sealed_one p s u v v' home under from words whole hu is changed long other =
    let many : u < length s.versions = omega (arith, whole.many) in
    let slots : HasSlots p (version_at s.versions u) = whole.slots u hu in
    record {
      whole = whole_with p s u v' whole hu (record {
        keys = ap (λ x. length x.keys) changed ∙ ap (λ x. length x.keys) is ∙ slots.keys;
        ranks = ap (λ x. length x.ranks) changed ∙ length-map (range_with_len 0 (length words)) _ ∙ length-range_with_len 0 (length words) ∙ long;
        used = ap (λ x. length x.used) changed ∙ length-replicate {A = Bool} (length words) false ∙ long;
      });
      anew = record {
        home = at_same (λ x. x.home) s u v' many u refl ∙ ap (λ x. x.home) changed ∙ other;
        under = at_same (λ x. x.generation) s u v' many u refl ∙ ap (λ x. x.generation) changed;
        from = at_same (λ x. x.base) s u v' many u refl ∙ ap (λ x. x.base) changed;
        ranks = at_same (λ x. x.ranks) s u v' many u refl ∙ ap (λ x. x.ranks) changed;
      };
      others = λ w ne. at_other (λ x. x) s u v' w ne;
      keys = λ w j. at_kept (λ x. key_at x j) s u v' many (ap (λ x. key_at x j) changed ∙ ap (λ x. key_at x j) is) w;
      unshown = λ j. at_same (λ x. used_at x j) s u v' many u refl ∙ ap (λ x. used_at x j) changed ∙ none_used (length words) j;
      lifted = refl;
      order = refl;
    }

pub seals_none : (p : Params) (s : Buckets) (counts words : List ℕ) (first : ℕ × ℕ) → AreWhole p s → SealsTo p s s counts counts words first 0
seals_none p s counts words first whole = record {
  whole = whole;
  anew = record { anew = λ i lt. absurd (omega (arith, lt)); others = λ u no. refl };
  keys = λ u j. refl;
  used = λ u j. refl;
  lifted = refl;
  order = refl;
  long = refl;
  cleared = λ u. refl;
}

or_off : (a b : Bool) → (a || (b || false)) ≡ false → (a ≡ false) × (b ≡ false)
or_off true b e = absurd (true≢false e)
or_off false true e = absurd (true≢false e)
or_off false false e = (refl, refl)

or_here : (a b : Bool) → b ≡ true → (a || (b || false)) ≡ true
or_here true b e = refl
or_here false b e = ap (λ (c : Bool). c || false) e

or_there : (a b : Bool) → b ≡ false → (a || (b || false)) ≡ a
or_there true b e = refl
or_there false b e = ap (λ (c : Bool). c || false) e

module _ (p : Params) (old mid new : Buckets) (before counts words : List ℕ) (first : ℕ × ℕ) (n u : ℕ) (listed : IsListed p old) (h : n < length old.order) (at : u ≡ get_or old.order n 0) (a : SealsTo p old mid before counts words first n)
    (b : SealsOne p mid new u (words_of p words n) first.0 (base_of p first n)) (fits : u < length before) where
  more : take (n + 1) old.order ≡ take n old.order ++ u ∷ []
  more = take_more old.order n 0 h ∙ ap (λ (x : ℕ). take n old.order ++ x ∷ []) (sym at)

  distinct : IsDistinct old.order
  distinct = listed_distinct p old listed

  fresh : is_one_of (take n old.order) u ≡ false
  fresh = ap (is_one_of (take n old.order)) at ∙ not_before old.order n distinct h

  member : (v : ℕ) → is_one_of (take (n + 1) old.order) v ≡ (is_one_of (take n old.order) v || ((u == v) || false))
  member v = ap (λ xs. is_one_of xs v) more ∙ one_of-append (take n old.order) (u ∷ []) v

  anew_at : (i : ℕ) → i < n + 1 → IsSealedAnew (version_at old.versions (slice_index old.order i)) (version_at new.versions (slice_index old.order i)) first.0 (base_of p first i) (words_of p words i)
  anew_at i low = elim (cases_eq i n) [
    | inl e ↦ subst (λ (j : ℕ). IsSealedAnew (version_at old.versions (slice_index old.order j)) (version_at new.versions (slice_index old.order j)) first.0 (base_of p first j) (words_of p words j)) (sym e)
        (subst (λ (x : ℕ). IsSealedAnew (version_at old.versions x) (version_at new.versions x) first.0 (base_of p first n) (words_of p words n)) at
        (subst (λ (v : Version). IsSealedAnew v (version_at new.versions u) first.0 (base_of p first n) (words_of p words n)) ((a.anew).others u fresh) b.anew))
    | inr ne ↦ (let there : slice_index old.order i ≢ u = λ same. ne (distinct_at old.order i n distinct (omega arith) h (same ∙ at)) in
        subst (λ (v : Version). IsSealedAnew (version_at old.versions (slice_index old.order i)) v first.0 (base_of p first i) (words_of p words i)) (sym (b.others (slice_index old.order i) there)) ((a.anew).anew i (omega arith)))
  ]

  used_at_all : (v j : ℕ) → used_at (version_at new.versions v) j ≡ (not (is_one_of (take (n + 1) old.order) v) && used_at (version_at old.versions v) j)
  used_at_all v j = elim (cases_eq v u) [
    | inl same ↦ ap (λ (x : ℕ). used_at (version_at new.versions x) j) same ∙ b.unshown j
        ∙ sym (ap (λ (c : Bool). not c && used_at (version_at old.versions v) j) (member v ∙ or_here (is_one_of (take n old.order) v) (u == v) (eq-eqb u v (sym same))))
    | inr ne ↦ ap (λ x. used_at x j) (b.others v ne) ∙ a.used v j
        ∙ sym (ap (λ (c : Bool). not c && used_at (version_at old.versions v) j) (member v ∙ or_there (is_one_of (take n old.order) v) (u == v) (ne_eqb u v (λ same. ne (sym same)))))
  ]

  cleared_at : (v : ℕ) → slice_index_or (slice_set counts u 0) v 0 ≡ cond (is_one_of (take (n + 1) old.order) v) 0 (slice_index_or before v 0)
  cleared_at v = elim (cases_eq v u) [
    | inl same ↦ ap (λ (x : ℕ). slice_index_or (slice_set counts u 0) x 0) same ∙ get_or-set_same counts u 0 0 (omega (arith, a.long, fits))
        ∙ sym (ap (λ (c : Bool). cond c 0 (slice_index_or before v 0)) (member v ∙ or_here (is_one_of (take n old.order) v) (u == v) (eq-eqb u v (sym same))))
    | inr ne ↦ get_or-set_other counts u v 0 0 ne ∙ a.cleared v
        ∙ sym (ap (λ (c : Bool). cond c 0 (slice_index_or before v 0)) (member v ∙ or_there (is_one_of (take n old.order) v) (u == v) (ne_eqb u v (λ same. ne (sym same)))))
  ]

  pub seals_more : SealsTo p old new before (slice_set counts u 0) words first (n + 1)
  seals_more = record {
    whole = b.whole;
    anew = record {
      anew = anew_at;
      others = λ v off. (let parts : (is_one_of (take n old.order) v ≡ false) × ((u == v) ≡ false) = or_off (is_one_of (take n old.order) v) (u == v) (sym (member v) ∙ off) in
          b.others v (λ e. true≢false (sym (eq-eqb u v (sym e)) ∙ parts.1)) ∙ (a.anew).others v parts.0);
    };
    keys = λ v j. b.keys v j ∙ a.keys v j;
    used = used_at_all;
    lifted = b.lifted ∙ a.lifted;
    order = b.order ∙ a.order;
    long = length-set counts u 0 ∙ a.long;
    cleared = cleared_at;
  }
