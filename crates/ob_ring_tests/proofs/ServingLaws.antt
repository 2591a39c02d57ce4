-- A run serves on after each batch.
use Rattle.std.specs.Prelude.{◌≡◌, ℕ, zero, suc, ◌*◌, ◌<◌, ◌≤◌, List, [], ◌∷◌, take, replicate, length, Option, Some, None, IfSome, slice_get, slice_set}
use Rattle.std.proofs.Common.{arith, inl, ⊎_elim, refl, sym, ap, ◌∙◌, subst, get_or-set_same, get_or-set_other, length-set}
use Rattle.std.proofs.lemmas.Bool.{cases_eq}
use Rattle.std.proofs.lemmas.List.{get_or-take}
use Rattle.ob_base.specs.declared.params.Params.{Params}
use Rattle.ob_base.specs.declared.value.Write.{Write}
use Rattle.ob_base.specs.Layout.{checkpoint_cells}
use Rattle.ob_base.specs.Tree.{buckets, width}
use Rattle.ob_cells.specs.Jobs.{Manned}
use Rattle.ob_cells.specs.Writes.{WritesWithin}
use Rattle.ob_end.specs.EndRuns.{IsEndReady}
use Rattle.ob_fetch.specs.declared.run.Run.{Run}
use Rattle.ob_fetch.specs.Fetches.{IsRunReady, MayGoOn}
use Rattle.ob_recover.specs.Fits.{IsPlannerFit}
use Rattle.ob_serial.specs.Vaults.{AreBelow, AreDistinct}
use Rattle.ob_store.specs.Disk.{Disk}
use Rattle.ob_store.specs.Calls.{GoesOn}
use Rattle.ob_twin.specs.declared.gates.Gates.{Gates}
use Rattle.ob_twin.specs.Opening.{GatesAre}
use Rattle.ob_twin.proofs.Frames.{gates_moved}
use Rattle.ob_ring.specs.Writing.{write_at}
use Rattle.ob_ring_tests.specs.Serving.{AreFitWrites, IsServing}

-- so a call may be made
pub goes_on : (disk : Disk) (present : ℕ) (drawn : List ℕ) (run : Run) (crew : Manned) (index : List ℕ) → IsServing disk present drawn run crew index → MayGoOn disk present drawn crew run
goes_on disk present drawn run crew index was = record {
  none_out = was.out;
  ready = (was.ready).ready;
  serves = was.serves;
  crew = was.crew_is;
  generation = was.generation;
  drawn = was.drawn_are;
  few = was.few;
}

-- where another may be made, and the epoch may be ended
pub serving_on : (disk : Disk) (present : ℕ) (drawn : List ℕ) (run : Run) (crew : Manned) (index : List ℕ) → MayGoOn disk present drawn crew run → IsEndReady run
    → (disk.tells → GatesAre (run.gates).epoch 5 disk.cells) → index ≡ replicate (buckets run.params) 0 → IsServing disk present drawn run crew index
serving_on disk present drawn run crew index on ready told counted = record {
  out = on.none_out;
  ready = ready;
  serves = on.serves;
  crew_is = on.crew;
  generation = on.generation;
  drawn_are = on.drawn;
  few = on.few;
  told = told;
  counted = counted;
}

-- ---- after a batch

module _ (run run' : Run) (kept : run' ≡ record run { sealer = run'.sealer; drawn = run'.drawn; left = run'.left; spent = run'.spent; ring = run'.ring; jobs = run'.jobs; words = run'.words }) (was : IsEndReady run) where
  params_are : run'.params ≡ run.params
  params_are = ap (λ (r : Run). r.params) kept

  ready_then : IsRunReady run' → IsPlannerFit run'.ring → length (run'.words).items ≡ length (run.words).items → IsEndReady run'
  ready_then ready fit many = record {
    ready = ready;
    own_words = (let own = was.own_words in subst (λ (q : Params). q.writes ≤ length (run'.words).items) (sym params_are) (omega (arith, own, many)));
    all_words = (let all = was.all_words in subst (λ (q : Params). buckets q * width q ≤ length (run'.words).items) (sym params_are) (omega (arith, all, many)));
    sheet = ap (λ (r : Run). length r.sheet) kept ∙ was.sheet ∙ ap (λ (q : Params). 96 * checkpoint_cells q) (sym params_are);
    planner = fit;
  }

pub serving_fetched : (old new : Disk) (present present' : ℕ) (drawn drawn' : List ℕ) (run run' : Run) (crew crew' : Manned) (index : List ℕ) → IsServing old present drawn run crew index
    → run' ≡ record run { sealer = run'.sealer; drawn = run'.drawn; left = run'.left; spent = run'.spent; ring = run'.ring; jobs = run'.jobs; words = run'.words }
    → GoesOn old new → MayGoOn new present' drawn' crew' run' → IsPlannerFit run'.ring → length (run'.words).items ≡ length (run.words).items
    → (base many : ℕ) → 9 ≤ base → WritesWithin base many old new → IsServing new present' drawn' run' crew' index
serving_fetched old new present present' drawn drawn' run run' crew crew' index was kept goes on fit many base wide low within = serving_on new present' drawn' run' crew' index on (ready_then run run' kept was.ready on.ready fit many)
    (λ tells. subst (λ (known : Gates). GatesAre known.epoch 5 new.cells) (sym (ap (λ (r : Run). r.gates) kept))
    (gates_moved (run.gates).epoch 5 new.cells old.cells (λ k from to. within.rest (goes.told tells) k (inl (omega (arith, to, low)))) (was.told (goes.told tells))))
    (was.counted ∙ ap (λ (r : Run). replicate (buckets r.params) 0) (sym kept))

-- ---- the asks of a batch

none_is : {X : Type 0} (x : X) → None ≡ Some x → ⊥
none_is x e = absurd (cc)

some_is : (o : Option ℕ) (k : ℕ) → Some o ≡ Some (Some k) → o ≡ Some k
some_is o k e = cc

no_ask : (k : ℕ) → Some None ≡ Some (Some k) → ⊥
no_ask k e = none_is k (some_is None k e)

-- only the first place asks
pub front_ask : (n : ℕ) (key : Option ℕ) (i k : ℕ) → slice_get (take n (key ∷ None ∷ [])) i ≡ Some (Some k) → (i ≡ 0) × (key ≡ Some k)
front_ask zero key i k is = absurd (none_is (Some k) is)
front_ask (suc n) key zero k is = (refl, some_is key k is)
front_ask (suc zero) key (suc i) k is = absurd (none_is (Some k) is)
front_ask (suc (suc n)) key (suc zero) k is = absurd (no_ask k is)
front_ask (suc (suc zero)) key (suc (suc i)) k is = absurd (none_is (Some k) is)
front_ask (suc (suc (suc n))) key (suc (suc i)) k is = absurd (none_is (Some k) is)

pub asks_below : (n keys : ℕ) (key : Option ℕ) → IfSome key (λ k. k < keys) → AreBelow keys (take n (key ∷ None ∷ []))
asks_below n keys key low i k is = below key (front_ask n key i k is).1 low
  where
    below : (o : Option ℕ) → o ≡ Some k → IfSome o (λ k. k < keys) → k < keys
    below o e l = subst (λ (x : Option ℕ). IfSome x (λ k. k < keys)) e l

pub asks_distinct : (n : ℕ) (key : Option ℕ) → AreDistinct (take n (key ∷ None ∷ []))
asks_distinct n key i j k one two = (front_ask n key i k one).0 ∙ sym (front_ask n key j k two).0

-- ---- the writes of an end

abbrev no_write : Write
no_write = record { key = 0; value = None }

all_none : (n i : ℕ) → write_at (replicate n no_write) i ≡ no_write
all_none zero i = refl
all_none (suc n) zero = refl
all_none (suc n) (suc i) = all_none n i

pub fit_none : (n keys : ℕ) → 0 < keys → AreFitWrites keys (replicate n no_write)
fit_none n keys some = record {
  low = λ i lt. subst (λ (w : Write). w.key < keys) (sym (all_none n i)) some;
  short = λ i value lt is. absurd (let none : None ≡ Some value = sym (ap (λ (w : Write). w.value) (all_none n i)) ∙ is in cc);
}

module _ (keys : ℕ) (ws : List Write) (i : ℕ) (w : Write) (lt : i < length ws) (was : AreFitWrites keys ws) (low : w.key < keys) (short : (value : List ℕ) → w.value ≡ Some value → length value ≤ 64) where
  here : (k : ℕ) → k ≡ i → write_at (slice_set ws i w) k ≡ w
  here k e = ap (λ n. write_at (slice_set ws i w) n) e ∙ get_or-set_same ws i w no_write lt

  there : (k : ℕ) → (k ≡ i → ⊥) → write_at (slice_set ws i w) k ≡ write_at ws k
  there k apart = get_or-set_other ws i k w no_write apart

  within : (k : ℕ) → k < length (slice_set ws i w) → k < length ws
  within k l = omega (arith, l, length-set ws i w)

  pub fit_set : AreFitWrites keys (slice_set ws i w)
  fit_set = record {
    low = λ k l. ⊎_elim
        (λ (e : k ≡ i). subst (λ (x : Write). x.key < keys) (sym (here k e)) low)
        (λ (apart : k ≡ i → ⊥). subst (λ (x : Write). x.key < keys) (sym (there k apart)) (was.low k (within k l)))
        (cases_eq k i);
    short = λ k value l is. ⊎_elim
        (λ (e : k ≡ i). short value (sym (ap (λ (x : Write). x.value) (here k e)) ∙ is))
        (λ (apart : k ≡ i → ⊥). was.short k value (within k l) (sym (ap (λ (x : Write). x.value) (there k apart)) ∙ is))
        (cases_eq k i);
  }

-- ---- the first ones of them

taken_within : (n i : ℕ) (ws : List Write) → i < length (take n ws) → (i < n) × (i < length ws)
taken_within zero i ws lt = (omega (arith, lt), omega (arith, lt))
taken_within (suc n) i [] lt = (omega (arith, lt), omega (arith, lt))
taken_within (suc n) zero (w ∷ ws) lt = (omega arith, omega arith)
taken_within (suc n) (suc i) (w ∷ ws) lt = let rest = taken_within n i ws (omega (arith, lt)) in let low = rest.0 in let here = rest.1 in (omega (arith, low), omega (arith, here))

pub fit_taken : (keys n : ℕ) (ws : List Write) → AreFitWrites keys ws → AreFitWrites keys (take n ws)
fit_taken keys n ws was = record {
  low = λ i lt. let within = taken_within n i ws lt in subst (λ (w : Write). w.key < keys) (sym (get_or-take n ws i no_write within.0)) (was.low i within.1);
  short = λ i value lt is. let within = taken_within n i ws lt in was.short i value within.1 (ap (λ (w : Write). w.value) (sym (get_or-take n ws i no_write within.0)) ∙ is);
}
