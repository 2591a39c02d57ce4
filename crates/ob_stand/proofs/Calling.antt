-- What the planner's calls give of an epoch.
use Rattle.std.specs.Prelude.{◌≡◌, ℕ, ◌+◌, ◌%◌, ◌^◌, ◌<◌, ◌≤◌, Bool, true, false, List, [], ◌∷◌, ◌++◌, filter, map, take, length}
use Rattle.std.specs.declared.option.Option.TheVariants.{Some}
use Rattle.std.specs.List.{range_with_len}
use Rattle.std.proofs.Common.{zero, suc, arith, refl, sym, ap, ◌∙◌, subst, inl, inr}
use Rattle.std.proofs.lemmas.Bool.{true≢false, cases_lt}
use Rattle.ob_base.specs.declared.params.Params.{Params}
use Rattle.ob_base.specs.declared.job.Job.{Job}
use Rattle.ob_base.specs.declared.value.Write.{Write}
use Rattle.ob_base.specs.Layout.{slot_cell}
use Rattle.ob_base.specs.Tree.{buckets}
use Rattle.ob_tables.specs.Version.{Version, rank_at}
use Rattle.ob_tables.specs.Buckets.{Buckets, no_version, version_at}
use Rattle.ob_schedule.specs.Paths.{by_falling_level, eviction_path, is_one_of}
use Rattle.ob_ring.specs.Arrays.{rest_of}
use Rattle.ob_ring.specs.Fetching.{leaf_places, own_entry}
use Rattle.ob_ring.specs.FlatTable.{FlatTable, Batch, Refill, after, refill_order}
use Rattle.ob_ring.specs.Picked.{Picked, SameSeals, batch_picked, final_picked, job_of}
use Rattle.ob_ring.specs.Plain.{without_buckets}
use Rattle.ob_ring.specs.Ring.{IsListed, Kept, StandsFor}
use Rattle.ob_ring.specs.Writing.{write_at}
use Rattle.ob_ring.proofs.Members.{off_unless, one_of-filter, one_of-filter_from, one_of-take}
use Rattle.ob_stand.specs.Carries.{AreRead}
use Rattle.ob_stand.specs.Epochs.{AreAllRead, Read, after_batches}
use Rattle.ob_stand.specs.ValueLaws.{AreFit}
use Rattle.ob_stand.specs.Refilled.{IsRefilled}
use Rattle.ob_stand.specs.Runs.{AreRun, Plains, slots_of}
use Rattle.ob_stand.proofs.Planned.{past_none, refill_is_written}
use Rattle.ob_stand.proofs.Running.{jobs_are_read}
use Rattle.ob_stand.specs.Calls.{AreSlotsWritten, CallsJoin, PlansAreRead, RefillsRing, RingsRefill, WritesAreFit}
use Rattle.ob_stand.specs.Plans.{AreAllWhole}
use Rattle.ob_stand.proofs.Plans.{bucket_listed, refill_plans}

-- ---- jobs that were run

read_at_start : (p : Params) (start now : Buckets) (plain : Plains) (qs : List Picked) (planned js : List Job) → SameSeals start now → planned ≡ map (job_of p now.versions) qs → AreRun plain planned js → AreRead (slots_of p start.versions plain) qs js
read_at_start p start now plain qs planned js seals is run =
    let here : AreRead (slots_of p now.versions plain) qs js = jobs_are_read.read p now.versions plain qs js (subst (λ (xs : List Job). AreRun plain xs js) is run) in
    subst (λ (slots : ℕ → ℕ → List ℕ). AreRead slots qs js) (λ i u j. jobs_are_read.same p start now plain u j seals i) here

read_further : (p : Params) (slots : ℕ → ℕ → List ℕ) (t : FlatTable) (bs : List Read) (b : Read) → AreAllRead p slots t bs → AreRead slots (batch_picked p (after_batches p t bs) b.0) b.1 → AreAllRead p slots t (bs ++ b ∷ [])
read_further p slots t [] b all last = (last, tt)
read_further p slots t (x ∷ bs) b all last = (all.0, read_further p slots (after p t (Batch x.0)) bs b all.1 last)

pub plans_are_read : PlansAreRead
plans_are_read = record {
  batch = λ old new now asked t start plain js seals is run. read_at_start old.p start old.metas plain (batch_picked old.p t (leaf_places asked)) now.jobs js seals is.jobs run;
  lifts = λ old new now t start plain js seals is run. read_at_start old.p start old.metas plain (final_picked old.p t (eviction_path old.p t.counter)) now.jobs js seals is.jobs run;
  further = λ p t start plain bs b all last. read_further p (slots_of p start.versions plain) t bs b all last;
}

fit_from : (p : Params) (writes : List Write) (words : List ℕ) (first : ℕ × ℕ) (a n : ℕ) → ((i : ℕ) → i < a + n → (write_at writes i).key < p.keys) → ((i : ℕ) (value : List ℕ) → i < a + n → (write_at writes i).value ≡ Some value → length value ≤ 64)
    → AreFit p (map (λ i. (write_at writes i, own_entry p words first i)) (range_with_len a n))
fit_from p writes words first a zero keys short = tt
fit_from p writes words first a (suc n) keys short = (
  keys a (omega arith),
  (λ value is. short a value (omega arith) is),
  fit_from p writes words first (a + 1) n (λ i low. keys i (omega arith)) (λ i value low. short i value (omega arith)),
)

pub writes_are_fit : WritesAreFit
writes_are_fit p writes words first keys short = fit_from p writes words first 0 (length writes) (λ i low. keys i (omega arith)) (λ i value low. short i value (omega arith))

listed_then : (r : Kept) (t : FlatTable) → StandsFor r t → IsListed r → (r.metas).order ≡ refill_order r.p t
listed_then r t stands listed = listed ∙ ap (λ (f : ℕ → Bool). filter f (by_falling_level ((r.p).levels + 1))) (λ i u. sym ((stands.arrays).lifted_is u) i)

pub calls_join : CallsJoin
calls_join = record {
  seals = λ old new s. record { homes = s.homes; generations = s.generations; bases = s.bases; ranks = s.ranks; order = refl };
  further = λ a b c s then. record {
    homes = λ u. then.homes u ∙ s.homes u;
    generations = λ u. then.generations u ∙ s.generations u;
    bases = λ u. then.bases u ∙ s.bases u;
    ranks = λ u. then.ranks u ∙ s.ranks u;
    order = refl;
  };
  listed = listed_then;
}

-- ---- a refill

-- a bucket with an index is one of the tree
within : (versions : List Version) (u j : ℕ) → j < length (version_at versions u).ranks → u < length versions
within versions u j low = elim (cases_lt u (length versions)) [
  | inl h ↦ h
  | inr high ↦ absurd (let out : version_at versions u ≡ no_version = past_none versions no_version u high in
      let none : length (version_at versions u).ranks ≡ 0 = ap (λ (v : Version). length v.ranks) out in
      omega arith)
]

module _ (old : Kept) (metas : Buckets) (words : List ℕ) (first : ℕ × ℕ) (t : FlatTable) (plain plain' : Plains) (r : RefillsRing old (record old { metas = metas }) words first t) (w : AreSlotsWritten (record old { metas = metas }) plain plain') where
  whole_then : AreAllWhole old.p metas
  whole_then = refill_plans.whole_anew old.p old.metas metas words first (r.rules_then).metas r.anew r.whole

  order_then : metas.order ≡ refill_order old.p t
  order_then = r.order ∙ listed_then old t r.before r.listed

  on_when : (u : ℕ) → u < buckets old.p → t.lifted u ≡ true → is_one_of metas.order u ≡ true
  on_when u low up = ap (λ (us : List ℕ). is_one_of us u) order_then ∙ one_of-filter_from t.lifted (by_falling_level ((old.p).levels + 1)) u up (bucket_listed old.p u low)

  off_when : (u : ℕ) → t.lifted u ≡ false → is_one_of metas.order u ≡ false
  off_when u down = off_unless (is_one_of metas.order u) (λ on. true≢false (sym (one_of-filter t.lifted (by_falling_level ((old.p).levels + 1)) u (sym (ap (λ (us : List ℕ). is_one_of us u) order_then) ∙ on)).0 ∙ down))

  rank_low : (u j : ℕ) → u < buckets old.p → j < length (version_at metas.versions u).ranks → rank_at (version_at metas.versions u) j < (old.p).real + (old.p).dummies
  rank_low u j low at =
      let many : length (version_at metas.versions u).ranks ≡ (old.p).real + (old.p).dummies = (((r.rules_then).metas).slots u low).ranks in
      let below : rank_at (version_at metas.versions u) j < length (version_at metas.versions u).ranks = ((whole_then u low).ranks).low j at in
      omega arith

  in_tree : (u j : ℕ) → j < length (version_at metas.versions u).ranks → u < buckets old.p
  in_tree u j at = let low : u < length metas.versions = within metas.versions u j at in omega (arith, ((r.rules_then).metas).many)

  stood : (u : ℕ) → t.lifted u ≡ false → version_at metas.versions u ≡ version_at (old.metas).versions u
  stood u down = (r.anew).others u (off_unless (is_one_of (take (length (old.metas).order) (old.metas).order) u) (λ on. true≢false
      (sym (ap (λ (us : List ℕ). is_one_of us u) r.order ∙ one_of-take (length (old.metas).order) (old.metas).order u on) ∙ off_when u down)))

  refilled : IsRefilled t (after old.p t Refill) (old.stash).rows (without_buckets (old.stash).rows metas.versions metas.order) (slots_of old.p (old.metas).versions plain) (slots_of old.p metas.versions plain')
  refilled = refill_is_written old.p metas (rest_of old.book old.counter) t (old.stash).rows (slots_of old.p (old.metas).versions plain) (slots_of old.p metas.versions plain')
      (r.before).orderly (r.rules_then).metas whole_then (r.refilled).arrays order_then
      (record {
        anew = λ u j up at. w.anew u (rank_at (version_at metas.versions u) j) (on_when u (in_tree u j at) up) (rank_low u j (in_tree u j at) at);
        same = λ u j down at. w.same u (rank_at (version_at metas.versions u) j) (off_when u down) (in_tree u j at) (rank_low u j (in_tree u j at) at)
            ∙ ap (λ (v : Version). plain (slot_cell old.p v.home u (rank_at v j)) v.generation ((v.base + rank_at v j) % 2 ^ 64)) (stood u down);
      })

pub rings_refill : RingsRefill
rings_refill old new words first t plain plain' r w =
    subst (λ (x : Kept). RefillsRing old x words first t → AreSlotsWritten x plain plain' → IsRefilled t (after old.p t Refill) (old.stash).rows (without_buckets (x.stash).rows (x.metas).versions (x.metas).order) (slots_of old.p (old.metas).versions plain) (slots_of old.p (x.metas).versions plain'))
    (sym r.kept)
    (λ s v. refilled old new.metas words first t plain plain' s v)
    r w
