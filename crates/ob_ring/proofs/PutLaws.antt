-- A key is put into its bucket.
use Rattle.std.specs.Prelude.{◌≡◌, ◌≢◌, ℕ, ◌+◌, ◌<◌, ◌==◌, Bool, false, cond, ◌&&◌, List, [], ◌∷◌, ◌++◌, length, take, replicate, Option, slice_index_or, slice_set}
use Rattle.std.specs.declared.option.Option.TheVariants.{None, Some}
use Rattle.std.specs.List.{find}
use Rattle.std.specs.FinMap as finite
use Rattle.std.proofs.Common.{zero, suc, arith, refl, sym, ap, subst, ◌∙◌, inl, inr, get_or}
use Rattle.std.proofs.lemmas.Bool.{true≢false, cases_eq, eq-eqb, ne_eqb}
use Rattle.std.proofs.lemmas.List.{take_more, length-replicate, length-set, get_or-set_same, get_or-set_other}
use Rattle.ob_base.specs.declared.params.Params.{Params}
use Rattle.ob_base.specs.Tree.{below, buckets}
use Rattle.ob_schedule.specs.Paths.{is_one_of}
use Rattle.ob_tables.specs.Version.{Version, HasSlots, key_at, used_at}
use Rattle.ob_tables.specs.Buckets.{Buckets, version_at, is_lifted}
use Rattle.ob_tables.specs.Kept.{entry_at}
use Rattle.ob_tables.specs.declared.entry.Entry.{Entry}
use Rattle.ob_ring.specs.Settling.{Rows}
use Rattle.ob_ring.specs.Arrays.{IsTableOf, AreWhole, arrays_of, rest_of, leaf_of_entry}
use Rattle.ob_ring.proofs.Members.{IsDistinct, distinct-filter, distinct-range}
use Rattle.ob_ring.proofs.PlanLaws.{at_same, at_other, at_kept, whole_with}
use Rattle.ob_ring.proofs.TableOf.{table_like}
use Rattle.ob_ring.specs.Filling.{HasJustStashRows}
use Rattle.ob_ring.specs.FlatTable.{FlatTable, in_stash}
use Rattle.ob_ring.specs.Loops.{PutsTo, roomy, roomiest, with_key_at}
use Rattle.ob_ring.specs.Passing.{asking_steps, has_room, upwards, taken_by, none_taken, row_keys, passed_table}
use Rattle.ob_ring.proofs.Listed.{not_before}
use Rattle.ob_ring.proofs.StashWalks as walks
use Rattle.ob_ring.proofs.Turns.{with_key, row_put, row_kept, rows_are}
use Rattle.ob_ring.proofs.Counting.{count_in, count_none, count_some, goes_is, no_leaf, found_room, found_lifted, set_more}

key_put : (v : Version) (j k : ℕ) → j < length v.keys → (i : ℕ) → slice_index_or (slice_set v.keys j (Some k)) i None ≡ cond (i == j) (Some k) (key_at v i)
key_put v j k low i = elim (cases_eq i j) [
  | inl at ↦ ap (λ (x : ℕ). slice_index_or (slice_set v.keys j (Some k)) x None) at ∙ get_or-set_same v.keys j (Some k) None low ∙ sym (ap (λ (b : Bool). cond b (Some k) (key_at v i)) (eq-eqb i j at))
  | inr ne ↦ get_or-set_other v.keys j i (Some k) None ne ∙ sym (ap (λ (b : Bool). cond b (Some k) (key_at v i)) (ne_eqb i j ne))
]

-- ---- a turn

-- what is asked of the buckets, of whose marks none has changed
pub same_room : (p : Params) (old mid : Buckets) (counts : List ℕ) (leaf : ℕ) → mid.lifted ≡ old.lifted → roomiest p mid counts leaf ≡ roomiest p old counts leaf
same_room p old mid counts leaf e = λ i. find (has_room p (λ u. slice_index_or (e i) u false) (count_in counts)) (upwards p leaf (p.levels + 1))

pub same_steps : (p : Params) (old mid : Buckets) (counts : List ℕ) (leaf : ℕ) → mid.lifted ≡ old.lifted → asking_steps (roomy p mid counts) (upwards p leaf (p.levels + 1)) ≡ asking_steps (roomy p old counts) (upwards p leaf (p.levels + 1))
same_steps p old mid counts leaf e = λ i. asking_steps (has_room p (λ u. slice_index_or (e i) u false) (count_in counts)) (upwards p leaf (p.levels + 1))

module _ (p : Params) (book : List (Option Entry)) (rows : Rows) (old mid : Buckets) (counts : List ℕ) (n before now put key : ℕ) (s : PutsTo p book rows old mid counts n before now put) (low : (k : ℕ) → finite.get rows k ≢ None → k < p.keys)
    (within : n < length (row_keys rows)) (is_key : key ≡ get_or (row_keys rows) n 0) where
  more : take (n + 1) (row_keys rows) ≡ take n (row_keys rows) ++ key ∷ []
  more = take_more (row_keys rows) n 0 within ∙ ap (λ (k : ℕ). take n (row_keys rows) ++ k ∷ []) (sym is_key)

  in_rows : finite.get rows key ≢ None
  in_rows = subst (λ (k : ℕ). finite.get rows k ≢ None) (sym is_key) (walks.row_is_there rows n within)

  -- the key's turn comes once
  fresh : (t : FlatTable) → HasJustStashRows t rows → is_one_of (take n (row_keys rows)) key ≡ false
  fresh t just =
      let d : IsDistinct (row_keys rows) = subst IsDistinct (sym (rows_are p t rows just low)) (distinct-filter (λ k. in_stash (t.rows k)) (below p.keys) (distinct-range 0 p.keys)) in
      ap (is_one_of (take n (row_keys rows))) is_key ∙ not_before (row_keys rows) n d within

  -- A row of a key that isn't present stays.
  pub turn_none : entry_at book key ≡ None → PutsTo p book rows old mid counts (n + 1) before now put
  turn_none none = record {
    whole = s.whole;
    seals = s.seals;
    lifted = s.lifted;
    others = s.others;
    index = count_none p book rows old counts n before now put key s.index within is_key none;
    follows = λ counter t sound just is. absurd (no_leaf (t.rows key) ((just key).1 in_rows) (is.leaves_are key ∙ ap leaf_of_entry none));
  }

  -- A row that finds no room stays.
  pub turn_stays : (e : Entry) (now' : ℕ) → entry_at book key ≡ Some e → None ≡ roomiest p mid counts e.leaf → now' ≡ now + asking_steps (roomy p mid counts) (upwards p e.leaf (p.levels + 1)) → PutsTo p book rows old mid counts (n + 1) before now' put
  turn_stays e now' at found ticked =
      let none : None ≡ roomiest p old counts e.leaf = found ∙ same_room p old mid counts e.leaf s.lifted in
      record {
        whole = s.whole;
        seals = s.seals;
        lifted = s.lifted;
        others = s.others;
        index = count_some p book rows old counts n before now put key s.index within is_key e None counts now' put at none
            (ticked ∙ ap (λ (m : ℕ). now + m) (same_steps p old mid counts e.leaf s.lifted)) (let same : put ≡ put + 0 = omega arith in same) refl (λ u. refl);
        follows = λ counter t sound just is.
            subst (λ (ks : List ℕ). IsTableOf p (arrays_of mid (rest_of book counter)) (passed_table p t ks)) (sym more)
            (row_kept p (arrays_of mid (rest_of book counter)) t (take n (row_keys rows)) key (fresh t just)
            (goes_is p book rows old counts n before now put key s.index within is_key e None counter t at none just is) (s.follows counter t sound just is));
      }

  -- A row that a bucket takes.
  pub turn_put : (e : Entry) (b now' put' : ℕ) → entry_at book key ≡ Some e → Some b ≡ roomiest p mid counts e.leaf → b < buckets p → now' ≡ now + asking_steps (roomy p mid counts) (upwards p e.leaf (p.levels + 1)) → put' ≡ put + 1 →
      PutsTo p book rows old (with_key_at mid b (count_in counts b) key) (slice_set counts b (count_in counts b + 1)) (n + 1) before now' put'
  turn_put e b now' put' at found_mid fits ticked one =
      let found : Some b ≡ roomiest p old counts e.leaf = found_mid ∙ same_room p old mid counts e.leaf s.lifted in
      let many : b < length mid.versions = omega (arith, s.whole.many) in
      let v : Version = version_at mid.versions b in
      let j : ℕ = count_in counts b in
      let v' : Version = record v { keys = slice_set v.keys j (Some key) } in
      let slots : HasSlots p v = s.whole.slots b fits in
      let real : j < length v.keys = omega (arith, slots.keys, found_room p old counts (upwards p e.leaf (p.levels + 1)) b found) in
      record {
        whole = whole_with p mid b v' s.whole fits (record { keys = length-set v.keys j (Some key) ∙ slots.keys; ranks = slots.ranks; used = slots.used });
        seals = record {
          homes = λ u. at_kept (λ x. x.home) mid b v' many refl u ∙ s.seals.homes u;
          generations = λ u. at_kept (λ x. x.generation) mid b v' many refl u ∙ s.seals.generations u;
          bases = λ u. at_kept (λ x. x.base) mid b v' many refl u ∙ s.seals.bases u;
          ranks = λ u. at_kept (λ x. x.ranks) mid b v' many refl u ∙ s.seals.ranks u;
          order = s.seals.order;
        };
        lifted = s.lifted;
        others = λ u down. at_other (λ x. x) mid b v' u (λ same. true≢false (sym (found_lifted p old counts (upwards p e.leaf (p.levels + 1)) b found) ∙ ap (λ (x : ℕ). is_lifted old x) (sym same) ∙ down)) ∙ s.others u down;
        index = count_some p book rows old counts n before now put key s.index within is_key e (Some b) (slice_set counts b (j + 1)) now' put' at found
            (ticked ∙ ap (λ (m : ℕ). now + m) (same_steps p old mid counts e.leaf s.lifted)) one (length-set counts b (j + 1)) (set_more counts b (omega (arith, fits, s.index.long)));
        follows = λ counter t sound just is.
            (let count : j ≡ taken_by p t none_taken (take n (row_keys rows)) b = s.index.counts_are counter t just is b in
            let there : IsTableOf p (with_key (arrays_of mid (rest_of book counter)) b (taken_by p t none_taken (take n (row_keys rows)) b) key) (passed_table p t (take n (row_keys rows) ++ key ∷ [])) =
            row_put p (arrays_of mid (rest_of book counter)) t (take n (row_keys rows)) key b sound (fresh t just) (goes_is p book rows old counts n before now put key s.index within is_key e (Some b) counter t at found just is) (s.follows counter t sound just is) in
            subst (λ (ks : List ℕ). IsTableOf p (arrays_of (with_key_at mid b j key) (rest_of book counter)) (passed_table p t ks)) (sym more)
            (table_like p (with_key (arrays_of mid (rest_of book counter)) b (taken_by p t none_taken (take n (row_keys rows)) b) key) (arrays_of (with_key_at mid b j key) (rest_of book counter)) (passed_table p t (take n (row_keys rows) ++ key ∷ [])) there
            (λ u i. elim (cases_eq u b) [
              | inl same ↦ ap (λ (c : Bool). cond (c && (i == taken_by p t none_taken (take n (row_keys rows)) b)) (Some key) (key_at (version_at mid.versions u) i)) (eq-eqb u b same)
                  ∙ (λ x. cond (i == sym count x) (Some key) (key_at (version_at mid.versions (same x)) i)) ∙ sym (key_put v j key real i) ∙ sym (at_same (λ x. key_at x i) mid b v' many u same)
              | inr ne ↦ ap (λ (c : Bool). cond (c && (i == taken_by p t none_taken (take n (row_keys rows)) b)) (Some key) (key_at (version_at mid.versions u) i)) (ne_eqb u b ne) ∙ sym (at_other (λ x. key_at x i) mid b v' u ne)
            ])
            (λ u i. sym (at_kept (λ x. used_at x i) mid b v' many refl u))
            (λ u. refl) (λ k. refl) refl));
      }

-- the places that a row which goes into a bucket is written to
pub record HasRoom (mid : Buckets) (counts : List ℕ) (b : ℕ) : Type 0 where
  pub version : b < length mid.versions
  pub index : count_in counts b < length (version_at mid.versions b).keys
  pub counted : b < length counts
  pub few : count_in counts b < 255

pub room_for : (p : Params) (book : List (Option Entry)) (rows : Rows) (old mid : Buckets) (counts : List ℕ) (n before now put b leaf : ℕ) → PutsTo p book rows old mid counts n before now put → Some b ≡ roomiest p mid counts leaf → b < buckets p → HasRoom mid counts b
room_for p book rows old mid counts n before now put b leaf s found fits =
    let room : count_in counts b < p.real = found_room p mid counts (upwards p leaf (p.levels + 1)) b found in
    let slots : HasSlots p (version_at mid.versions b) = s.whole.slots b fits in
    record {
      version = omega (arith, s.whole.many, fits);
      index = omega (arith, slots.keys, room);
      counted = omega (arith, s.index.long, fits);
      few = omega (arith, room, p.in_range.few_real);
    }

-- ---- before any turn

none_counted : (n u : ℕ) → ◌≡◌ {A = ℕ} (slice_index_or (replicate n 0) u 0) 0
none_counted zero u = refl
none_counted (suc n) zero = refl
none_counted (suc n) (suc u) = none_counted n u

pub turns_none : (p : Params) (book : List (Option Entry)) (rows : Rows) (metas : Buckets) (counts : List ℕ) (now : ℕ) → AreWhole p metas → counts ≡ replicate (buckets p) 0 → PutsTo p book rows metas metas counts 0 now now 0
turns_none p book rows metas counts now whole none =
    let zeros : (u : ℕ) → slice_index_or counts u 0 ≡ 0 = λ u. ap (λ (xs : List ℕ). slice_index_or xs u 0) none ∙ none_counted (buckets p) u in
    record {
      whole = whole;
      seals = record { homes = λ u. refl; generations = λ u. refl; bases = λ u. refl; ranks = λ u. refl; order = refl };
      lifted = refl;
      others = λ u down. refl;
      index = record {
        long = ap length none ∙ length-replicate (buckets p) 0;
        few = λ u. omega (arith, zeros u);
        lifted_alone = λ u down. zeros u;
        bound = omega arith;
        put_few = omega arith;
        counts_are = λ counter t just is u. zeros u;
        exact = λ counter t just is. (let same : now ≡ now + 0 = omega arith in same);
        puts = λ counter t just is. refl;
      };
      follows = λ counter t sound just is. is;
    }
