-- What the ring's calls do, as steps of the flat table.
use Rattle.std.specs.Prelude.{◌≡◌, ℕ, ◌+◌, ◌%◌, ◌^◌, ◌<◌, false, List, [], ◌++◌, map, length, replicate, filter, Option, slice_index_or}
use Rattle.std.specs.declared.option.Option.TheVariants.{None, Some}
use Rattle.std.specs.FinMap as finite
use Rattle.std.proofs.Common.{zero, suc, arith, refl, sym, ap, subst, ◌∙◌}
use Rattle.std.specs.Ordering.{nat_cmp}
use Rattle.std.proofs.lemmas.Nat.{pow_pos}
use Rattle.std.proofs.lemmas.List.{length-replicate}
use Rattle.std.proofs.lemmas.List.FromFn.{length-range_with_len}
use Rattle.ob_base.specs.declared.params.Params.{Params}
use Rattle.ob_base.specs.declared.job.Job.{Job}
use Rattle.ob_base.specs.Planned.{Planned}
use Rattle.ob_base.specs.Tree.{buckets, width}
use Rattle.ob_tables.specs.Version.{Version, HasSlots, blank, key_at, used_at}
use Rattle.ob_tables.specs.Buckets.{Buckets, new_buckets, version_at, is_lifted, no_version}
use Rattle.ob_tables.specs.declared.entry.Entry.{Entry}
use Rattle.ob_tables.specs.Kept.{Held, entry_at}
use Rattle.ob_schedule.specs.Paths.{eviction_path, by_falling_level}
use Rattle.ob_ring.specs.FlatTable.{FlatTable, Batch, FinalLifts, after_final}
use Rattle.ob_ring.specs.Arrays.{IsTableOf, arrays_of, rest_of, leaf_of_entry}
use Rattle.ob_ring.specs.Picked.{Plans, job_of, batch_picked, final_picked, places_from}
use Rattle.ob_ring.specs.Fetching.{Fetches, leaf_places}
use Rattle.ob_ring.specs.Ring.{Kept, IsRing, StandsFor, IsBatch, IsLifting, empty_table}
use Rattle.ob_ring.proofs.TableLaws.{steps_keep_order, none_counted}

pub batch_is : (p : Params) (book book' : List (Option Entry)) (metas metas' : Buckets) (stash : Held) (counter : ℕ) (before now : Planned) (asked : List (Option ℕ × Entry)) → Fetches p book book' (record metas { order = [] }) metas' before now asked →
    before.jobs ≡ [] → before.places ≡ [] → (t : FlatTable) → StandsFor (record { p = p; book = book; metas = metas; stash = stash; counter = counter }) t →
    IsBatch (record { p = p; book = book; metas = metas; stash = stash; counter = counter }) (record { p = p; book = book'; metas = metas'; stash = stash; counter = counter }) now asked t
batch_is p book book' metas metas' stash counter before now asked f no_jobs no_places t s = record {
  table = record { orderly = steps_keep_order p t (Batch (leaf_places asked)) s.orderly; arrays = f.follows counter t s.orderly s.arrays };
  jobs = f.jobs counter t s.orderly s.arrays ∙ ap (λ (js : List Job). js ++ map (job_of p metas.versions) (batch_picked p t (leaf_places asked))) no_jobs;
  places = f.places counter t s.orderly s.arrays ∙ (λ i. no_places i ++ places_from p (length (no_jobs i)) t (leaf_places asked));
}

pub lifting_is : (p : Params) (book : List (Option Entry)) (metas mid metas' : Buckets) (stash : Held) (counter next : ℕ) (before now : Planned) → Plans p metas mid before now (λ t. final_picked p t (eviction_path p counter))
    (λ t. after_final p t (eviction_path p counter)) → before.jobs ≡ [] → metas' ≡ record mid { order = metas'.order } → next ≡ (counter + p.evictions) % 2 ^ p.levels → (t : FlatTable) → StandsFor (record { p = p; book = book; metas = metas; stash = stash; counter = counter }) t →
    IsLifting (record { p = p; book = book; metas = metas; stash = stash; counter = counter }) (record { p = p; book = book; metas = metas'; stash = stash; counter = next }) now t
lifting_is p book metas mid metas' stash counter next before now plans no_jobs listed more t s =
    let after_lifts : IsTableOf p (arrays_of mid (rest_of book counter)) (after_final p t (eviction_path p counter)) = plans.follows (rest_of book counter) t s.arrays in
    let same : counter ≡ t.counter = sym (s.arrays).counter_is in
    let moved : IsTableOf p (arrays_of mid (rest_of book counter)) (after_final p t (eviction_path p t.counter)) = subst (λ (n : ℕ). IsTableOf p (arrays_of mid (rest_of book counter)) (after_final p t (eviction_path p n))) same after_lifts in
    let here : IsTableOf p (arrays_of metas' (rest_of book counter)) (after_final p t (eviction_path p t.counter)) = subst (λ (x : Buckets). IsTableOf p (arrays_of x (rest_of book counter)) (after_final p t (eviction_path p t.counter))) (sym listed) moved in
    record {
      table = record {
        orderly = steps_keep_order p t FinalLifts s.orderly;
        arrays = record {
          keys_low = here.keys_low;
          leaves_are = here.leaves_are;
          spots_are = here.spots_are;
          used_is = here.used_is;
          lifted_is = here.lifted_is;
          counter_is = ap (λ (n : ℕ). (n + p.evictions) % 2 ^ p.levels) (sym same) ∙ sym more;
        };
      };
      jobs = plans.jobs (rest_of book counter) t s.arrays ∙ (λ i. no_jobs i ++ map (job_of p metas.versions) (final_picked p t (eviction_path p (same i))));
    }

-- ---- an empty ring

same_all : {X : Type 0} (n i : ℕ) (x : X) → slice_index_or (replicate n x) i x ≡ x
same_all zero i x = refl
same_all (suc n) zero x = refl
same_all (suc n) (suc i) x = same_all n i x

blank_case : {X : Type 0} (f : Version → X) (x : X) (p : Params) (n u : ℕ) → f (blank p) ≡ x → f no_version ≡ x → f (version_at (replicate n (blank p)) u) ≡ x
blank_case f x p zero u e g = g
blank_case f x p (suc n) zero e g = e
blank_case f x p (suc n) (suc u) e g = blank_case f x p n u e g

blank_slots : (p : Params) (n u : ℕ) → u < n → HasSlots p (version_at (replicate n (blank p)) u)
blank_slots p zero u h = absurd (omega arith)
blank_slots p (suc n) zero h = record { keys = length-replicate p.real None; ranks = length-range_with_len 0 (width p); used = length-replicate (width p) false }
blank_slots p (suc n) (suc u) h = blank_slots p n u (omega arith)

no_leaf : (o : Option Entry) (x : ℕ) → o ≡ None → leaf_of_entry o ≡ Some x → ⊥
no_leaf o x a b = let c : leaf_of_entry o ≡ None = ap leaf_of_entry a in absurd (cc)

no_key : (k : ℕ) (o : Option ℕ) → o ≡ None → o ≡ Some k → ⊥
no_key k o a b = absurd (cc)

abbrev pub empty_kept : Params → Kept
empty_kept p = record { p = p; book = replicate p.keys None; metas = new_buckets p; stash = record { rows = finite.empty; room = p.keys }; counter = 0 }

no_entry : (o : Option Entry) (e : Entry) → o ≡ None → o ≡ Some e → ⊥
no_entry o e a b = absurd (cc)

pub empty_ring : (p : Params) → IsRing (empty_kept p)
empty_ring p = record {
  book = record { many = length-replicate p.keys None; leaves = λ k e at. absurd (no_entry (entry_at (replicate p.keys None) k) e (same_all p.keys k None) at) };
  metas = record { many = length-replicate (buckets p) (blank p); marks = length-replicate (buckets p) false; slots = blank_slots p (buckets p) };
  counter = pow_pos p.levels;
  stash_low = λ k some. absurd (some (finite.get-empty nat_cmp k));
  room = omega arith;
}

pub empty_stands : (p : Params) → StandsFor (empty_kept p) empty_table
empty_stands p = record {
  orderly = record {
    sound = record { placed = λ k u j e. absurd (cc); alone = λ k k' u j e f. absurd (cc) };
    few = λ u down. omega (arith, none_counted (p.real + p.dummies), p.in_range.some_dummies);
  };
  arrays = record {
    keys_low = λ k x e. absurd (no_leaf (entry_at (replicate p.keys None) k) x (same_all p.keys k None) e);
    leaves_are = λ k. sym (ap leaf_of_entry (same_all p.keys k None));
    spots_are = λ k u j. ((λ e. absurd (cc)), (λ e. absurd (no_key k (key_at (version_at (replicate (buckets p) (blank p)) u) j) (blank_case (λ v. key_at v j) None p (buckets p) u (same_all p.real j None) refl) e)));
    used_is = λ u j. sym (blank_case (λ v. used_at v j) false p (buckets p) u (same_all (width p) j false) refl);
    lifted_is = λ u. sym (same_all (buckets p) u false);
    counter_is = refl;
  };
}

pub listed_still : (p : Params) (old new : Buckets) → new.order ≡ old.order → new.lifted ≡ old.lifted → old.order ≡ filter (λ u. is_lifted old u) (by_falling_level (p.levels + 1)) → new.order ≡ filter (λ u. is_lifted new u) (by_falling_level (p.levels + 1))
listed_still p old new order lifted e = order ∙ e ∙ (λ i. filter (λ u. slice_index_or (sym lifted i) u false) (by_falling_level (p.levels + 1)))
