-- Two rings of one table plan alike: each call's contract speaks of the table alone.
use Rattle.std.specs.Prelude.{◌≡◌, ℕ, ◌+◌, ◌<◌, ◌≤◌, List, map, filter, MatchResult, Option, Result, Ok, Err}
use Rattle.std.proofs.Common.{arith, refl, sym, ap, subst, ◌∙◌}
use mathlib.Core.Path.{fun_ext}
use Rattle.ob_base.specs.Planned.{Planned}
use Rattle.ob_base.specs.declared.fault.StashFull.{StashFull}
use Rattle.ob_base.specs.declared.params.Params.{Params}
use Rattle.ob_base.specs.declared.value.Write.{Write}
use Rattle.ob_tables.specs.Buckets.{is_lifted}
use Rattle.ob_tables.specs.declared.entry.Entry.{Entry}
use Rattle.ob_schedule.specs.Paths.{by_falling_level, eviction_path}
use Rattle.ob_ring.proofs.JobLaws.{jobs_read_picks}
use Rattle.ob_ring.specs.Fetching.{leaf_places}
use Rattle.ob_ring.specs.Filling.{HasJustStashRows}
use Rattle.ob_ring.specs.FlatTable.{FlatTable, Batch, FinalLifts, Writes, Refill, after, stash_size}
use Rattle.ob_ring.specs.Picked.{batch_picked, final_picked, job_of, places_from}
use Rattle.ob_ring.specs.Ring.{IsBatch, IsLifting, Kept, StandsFor}
use Rattle.ob_ring.specs.Writing.{leaf_writes}
use Rattle.ob_blind.specs.Rings.{AreLiftsPlanned, AreOfTable, ArePickedAlike, AreWritesMade, ChangesRows, IsFetchPlanned, IsRefillDone, RingCall, RingsPickAlike}

-- the rings behind two calls, each of which keeps its parameters
behind : (next : FlatTable) (one other : RingCall) → (one.old).p ≡ (other.old).p → (one.new).p ≡ (one.old).p → (other.new).p ≡ (other.old).p → StandsFor one.new next → StandsFor other.new next → AreOfTable next one.new other.new
behind next one other params one_keeps other_keeps one_stands other_stands = record { params = one_keeps ∙ params ∙ sym other_keeps; one_stands = one_stands; other_stands = other_stands }

-- ---- batches

fetches : (t : FlatTable) (one other : RingCall) (planned likewise : Planned) (asked others : List (Option ℕ × Entry)) → AreOfTable t one.old other.old → leaf_places asked ≡ leaf_places others
    → IsFetchPlanned one planned asked → IsFetchPlanned other likewise others → ArePickedAlike t (Batch (leaf_places asked)) one other planned likewise × (planned.places ≡ likewise.places)
fetches t one other planned likewise asked others both same does did = (
  record {
    picked = batch_picked p t (leaf_places asked);
    shown = jobs_read_picks.batch p t (leaf_places asked);
    jobs = first.jobs;
    other_jobs = second.jobs ∙ ap (λ (x : Params). map (job_of (other.old).p ((other.old).metas).versions) (batch_picked x t (leaf_places others))) (sym both.params)
        ∙ ap (λ (xs : List (Option ℕ × ℕ)). map (job_of (other.old).p ((other.old).metas).versions) (batch_picked p t xs)) (sym same);
    behind = behind (after p t (Batch (leaf_places asked))) one other both.params (ap (λ (r : Kept). r.p) does.kept) (ap (λ (r : Kept). r.p) did.kept) first.table
        (subst (λ (x : Params). StandsFor other.new (after x t (Batch (leaf_places asked)))) (sym both.params) (subst (λ (xs : List (Option ℕ × ℕ)). StandsFor other.new (after (other.old).p t (Batch xs))) (sym same) second.table));
  },
  first.places ∙ ap (λ (xs : List (Option ℕ × ℕ)). places_from p 0 t xs) same ∙ ap (λ (x : Params). places_from x 0 t (leaf_places others)) both.params ∙ sym second.places,
)
  where
    p : Params
    p = (one.old).p

    first : IsBatch one.old one.new planned asked t
    first = does.batch t both.one_stands

    second : IsBatch other.old other.new likewise others t
    second = did.batch t both.other_stands

-- ---- lifts

-- rings of one table list the same buckets
listed_alike : (t : FlatTable) (one other : Kept) → AreOfTable t one other → filter (λ u. is_lifted one.metas u) (by_falling_level ((one.p).levels + 1)) ≡ filter (λ u. is_lifted other.metas u) (by_falling_level ((other.p).levels + 1))
listed_alike t one other both = ap (λ q. filter q (by_falling_level ((one.p).levels + 1))) (fun_ext (λ u. sym (both.one_stands.arrays.lifted_is u) ∙ both.other_stands.arrays.lifted_is u))
    ∙ ap (λ (x : Params). filter (λ u. is_lifted other.metas u) (by_falling_level (x.levels + 1))) both.params

lifts : (t : FlatTable) (one other : RingCall) (planned likewise : Planned) → AreOfTable t one.old other.old → AreLiftsPlanned one planned → AreLiftsPlanned other likewise
    → ArePickedAlike t FinalLifts one other planned likewise × (((one.new).metas).order ≡ ((other.new).metas).order)
lifts t one other planned likewise both does did = (
  record {
    picked = final_picked p t (eviction_path p t.counter);
    shown = jobs_read_picks.lifts p t;
    jobs = first.jobs;
    other_jobs = second.jobs ∙ ap (λ (x : Params). map (job_of (other.old).p ((other.old).metas).versions) (final_picked x t (eviction_path x t.counter))) (sym both.params);
    behind = then;
  },
  does.listed ∙ listed_alike (after p t FinalLifts) one.new other.new then ∙ sym did.listed,
)
  where
    p : Params
    p = (one.old).p

    first : IsLifting one.old one.new planned t
    first = does.lifting t both.one_stands

    second : IsLifting other.old other.new likewise t
    second = did.lifting t both.other_stands

    then : AreOfTable (after p t FinalLifts) one.new other.new
    then = behind (after p t FinalLifts) one other both.params (ap (λ (r : Kept). r.p) does.kept) (ap (λ (r : Kept). r.p) did.kept) first.table (subst (λ (x : Params). StandsFor other.new (after x t FinalLifts)) (sym both.params) second.table)

-- ---- writes, refills and rows

writes : (t : FlatTable) (one other : RingCall) (ws others : List (Write × Entry)) → AreOfTable t one.old other.old → leaf_writes ws ≡ leaf_writes others → AreWritesMade one ws → AreWritesMade other others
    → AreOfTable (after (one.old).p t (Writes (leaf_writes ws))) one.new other.new
writes t one other ws others both same does did = behind (after (one.old).p t (Writes (leaf_writes ws))) one other both.params (ap (λ (r : Kept). r.p) does.kept) (ap (λ (r : Kept). r.p) did.kept) (does.written t both.one_stands)
    (subst (λ (x : Params). StandsFor other.new (after x t (Writes (leaf_writes ws)))) (sym both.params)
    (subst (λ (xs : List (ℕ × Option ℕ)). StandsFor other.new (after (other.old).p t (Writes xs))) (sym same) (did.written t both.other_stands)))

-- a refill's answer goes by how many rows are left
one_answer : (size room : ℕ) (answer reply : Result (Unit {0}) StashFull) → MatchResult answer (λ _. size ≤ room) (λ full. (full.rows ≡ size) × (room < full.rows)) → MatchResult reply (λ _. size ≤ room) (λ full. (full.rows ≡ size) × (room < full.rows)) → answer ≡ reply
one_answer size room (Ok done) (Ok again) fits fits' = refl
one_answer size room (Ok done) (Err full) fits over = absurd (omega (arith, fits, over.0, over.1))
one_answer size room (Err full) (Ok done) over fits = absurd (omega (arith, fits, over.0, over.1))
one_answer size room (Err full) (Err many) over above = ap (λ (n : ℕ). Err (record { rows = n })) (over.0 ∙ sym above.0)

refills : (t : FlatTable) (one other : RingCall) (answer reply : Result (Unit {0}) StashFull) → AreOfTable t one.old other.old → HasJustStashRows t ((one.old).stash).rows → HasJustStashRows t ((other.old).stash).rows
    → IsRefillDone one answer → IsRefillDone other reply → AreOfTable (after (one.old).p t Refill) one.new other.new × (answer ≡ reply)
refills t one other answer reply both one_rows other_rows does did = (
  behind (after p t Refill) one other both.params (ap (λ (r : Kept). r.p) does.kept) (ap (λ (r : Kept). r.p) did.kept) (does.refilled t both.one_stands one_rows)
      (subst (λ (x : Params). StandsFor other.new (after x t Refill)) (sym both.params) (did.refilled t both.other_stands other_rows)),
  one_answer (stash_size p (after p t Refill)) p.room answer reply (does.rows t both.one_stands one_rows)
      (subst (λ (x : Params). MatchResult reply (λ _. stash_size x (after x t Refill) ≤ x.room) (λ full. (full.rows ≡ stash_size x (after x t Refill)) × (x.room < full.rows))) (sym both.params) (did.rows t both.other_stands other_rows)),
)
  where
    p : Params
    p = (one.old).p

-- the table that a ring stands for says nothing of its stash's rows
rows_alone : (t : FlatTable) (c : RingCall) → ChangesRows c → StandsFor c.old t → StandsFor c.new t
rows_alone t c kept stands = subst (λ (r : Kept). StandsFor r t) (sym kept) (record { orderly = stands.orderly; arrays = stands.arrays })

rows : (t : FlatTable) (one other : RingCall) → AreOfTable t one.old other.old → ChangesRows one → ChangesRows other → AreOfTable t one.new other.new
rows t one other both does did = behind t one other both.params (ap (λ (r : Kept). r.p) does) (ap (λ (r : Kept). r.p) did) (rows_alone t one does both.one_stands) (rows_alone t other did both.other_stands)

pub rings_pick_alike : RingsPickAlike
rings_pick_alike = record { fetches = fetches; lifts = lifts; writes = writes; refills = refills; rows = rows }
