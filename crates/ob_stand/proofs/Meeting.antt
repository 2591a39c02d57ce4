-- The premises of an epoch can be met, whatever it asks for and writes.
use Rattle.std.specs.Prelude.{◌≡◌, ℕ, ◌+◌, ◌<◌, Bool, true, false, cond, List, [], ◌∷◌, map, Option, slice_index_or}
use Rattle.std.specs.declared.option.Option.TheVariants.{None, Some}
use Rattle.std.specs.List.{range_with_len}
use Rattle.std.proofs.Common.{zero, suc, arith, refl, sym, ap, ◌∙◌}
use Rattle.ob_base.specs.declared.params.Params.{Params}
use Rattle.ob_base.specs.Tree.{below}
use Rattle.ob_ring.specs.FlatTable.{FlatTable, Spot, InStash, In, Batch, FinalLifts, Writes, Refill, after, spot_of, refill_order}
use Rattle.ob_ring.specs.Laws.{IsOrderly}
use Rattle.ob_ring.specs.Picked.{Picked, holder, batch_picked, final_picked}
use Rattle.ob_schedule.specs.Paths.{eviction_path}
use Rattle.ob_base.specs.declared.job.Job.{Job}
use Rattle.ob_ring.specs.Writing.{leaf_writes}
use Rattle.ob_ring.specs.Plain.{plain_for, without}
use Rattle.ob_ring.specs.Settling.{Rows, rows_after}
use Rattle.ob_ring.proofs.TableLaws.{steps_keep_order}
use Rattle.ob_stand.specs.Takes.{AreKeysLow}
use Rattle.ob_stand.specs.ValueLaws.{Settles}
use Rattle.ob_stand.specs.Values.{with_entries}
use Rattle.ob_stand.specs.Carries.{Carries, AreRead}
use Rattle.ob_stand.specs.Epochs.{Read, AreAllRead, EpochsAreMet, after_batches, rows_of_batches, before_refill, rows_before_refill}
use Rattle.ob_stand.proofs.Epochs.{batches_done}
use Rattle.ob_stand.proofs.Steps.{lifts_carry}
use Rattle.ob_stand.proofs.Written.{writes_carry}
use Rattle.ob_stand.specs.Refilled.{IsRefilled}
use Rattle.ob_stand.proofs.Planned.{without_gone, without_kept}
use Rattle.ob_stand.proofs.Moving.{fills_present}
use Rattle.ob_stand.proofs.Taking.{holder_at, present_at}

-- a key that lies in a bucket that was lifted
abbrev gone_key : (ℕ → Bool) → ℕ → Spot → Option ℕ
gone_key lifted k InStash = None
gone_key lifted k (In u j) = cond (lifted u) (Some k) None

abbrev slots_then : Params → FlatTable → Rows → (ℕ → ℕ → List ℕ) → ℕ → ℕ → List ℕ
slots_then p t rows slots u j = cond (t.lifted u) (plain_for rows (holder p (after p t Refill) u j)) (slots u j)

abbrev rows_then : Params → FlatTable → Rows → Rows
rows_then p t rows = without rows (map (λ k. gone_key t.lifted k (spot_of ((after p t Refill).rows k))) (below p.keys))

mapped_at : (f : ℕ → Option ℕ) (a n i : ℕ) → i < n → slice_index_or (map f (range_with_len a n)) i None ≡ f (a + i)
mapped_at f a zero i h = absurd (omega arith)
mapped_at f a (suc n) zero h = let e : a ≡ a + 0 = omega arith in ap f e
mapped_at f a (suc n) (suc i) h = let e : (a + 1) + i ≡ a + suc i = omega arith in mapped_at f (a + 1) n i (omega arith) ∙ ap f e

mapped_from : (f : ℕ → Option ℕ) (a n i k : ℕ) → slice_index_or (map f (range_with_len a n)) i None ≡ Some k → f (a + i) ≡ Some k
mapped_from f a zero i k e = absurd (cc)
mapped_from f a (suc n) zero k e = let z : a + 0 ≡ a = omega arith in ap f z ∙ e
mapped_from f a (suc n) (suc i) k e = let z : a + suc i ≡ (a + 1) + i = omega arith in ap f z ∙ mapped_from f (a + 1) n i k e

gone_in : (lifted : ℕ → Bool) (k u j : ℕ) (s : Spot) → s ≡ In u j → lifted u ≡ true → gone_key lifted k s ≡ Some k
gone_in lifted k u j s e up = ap (gone_key lifted k) e ∙ ap (λ (b : Bool). cond b (Some k) None) up

gone_case : (b : Bool) (i k : ℕ) → cond b (Some i) None ≡ Some k → (b ≡ true) × (i ≡ k)
gone_case true i k e = (refl, (cc))
gone_case false i k e = absurd (cc)

gone_from : (lifted : ℕ → Bool) (i k : ℕ) (s : Spot) → gone_key lifted i s ≡ Some k → (i ≡ k) × ((u : ℕ) × (j : ℕ) × (s ≡ In u j) × (lifted u ≡ true))
gone_from lifted i k InStash e = absurd (cc)
gone_from lifted i k (In u j) e = let c : (lifted u ≡ true) × (i ≡ k) = gone_case (lifted u) i k e in (c.1, (u, j, refl, c.0))

pub refill_met : (p : Params) (t : FlatTable) (rows : Rows) (slots : ℕ → ℕ → List ℕ) → IsOrderly p t → AreKeysLow p t → IsRefilled t (after p t Refill) rows (rows_then p t rows) slots (slots_then p t rows slots)
refill_met p t rows slots o low =
    let f : ℕ → Option ℕ = λ k. gone_key t.lifted k (spot_of ((after p t Refill).rows k)) in
    let low' : AreKeysLow p (after p t Refill) = λ k e. low k (sym (fills_present p t (refill_order p t) k) ∙ e) in
    let sound' = (steps_keep_order p t Refill o).sound in
    record {
      written = λ k u j up e. ap (λ (b : Bool). cond b (plain_for rows (holder p (after p t Refill) u j)) (slots u j)) up ∙ ap (plain_for rows) (holder_at p (after p t Refill) k u j sound' low' e);
      same = λ k u j down e. ap (λ (b : Bool). cond b (plain_for rows (holder p (after p t Refill) u j)) (slots u j)) down;
      gone = λ k u j up e. (let l : k < p.keys = low' k (present_at ((after p t Refill).rows k) u j e) in
          let z : 0 + k ≡ k = omega arith in
          without_gone rows (map (λ k. gone_key t.lifted k (spot_of ((after p t Refill).rows k))) (below p.keys)) k k
          (mapped_at (λ k. gone_key t.lifted k (spot_of ((after p t Refill).rows k))) 0 p.keys k l ∙ ap (λ k. gone_key t.lifted k (spot_of ((after p t Refill).rows k))) z ∙ gone_in t.lifted k u j (spot_of ((after p t Refill).rows k)) e up));
      kept = λ k h. without_kept rows (map (λ k. gone_key t.lifted k (spot_of ((after p t Refill).rows k))) (below p.keys)) k
          (λ i e. (let z : 0 + i ≡ i = omega arith in
          let at = gone_from t.lifted i k (spot_of ((after p t Refill).rows i)) (ap (λ k. gone_key t.lifted k (spot_of ((after p t Refill).rows k))) (sym z) ∙ mapped_from (λ k. gone_key t.lifted k (spot_of ((after p t Refill).rows k))) 0 p.keys i k e) in
          h at.1.0 at.1.1 at.1.3 (ap (λ (x : ℕ). spot_of ((after p t Refill).rows x)) (sym at.0) ∙ at.1.2)));
    }

-- ---- a whole epoch

read_of : (ℕ → ℕ → List ℕ) → Picked → Job
read_of slots q = record { cell = 0; generation = 0; number = 0; key = q.key; result = Some (slots q.bucket q.index) }

are_read : (slots : ℕ → ℕ → List ℕ) (qs : List Picked) → AreRead slots qs (map (read_of slots) qs)
unfolding read_of
are_read slots [] = tt
are_read slots (q ∷ qs) = (refl, refl, are_read slots qs)

reads_from : Params → (ℕ → ℕ → List ℕ) → FlatTable → List (List (Option ℕ × ℕ)) → List Read
reads_from p slots t [] = []
reads_from p slots t (b ∷ bs) = (b, map (read_of slots) (batch_picked p t b)) ∷ reads_from p slots (after p t (Batch b)) bs

all_read : (p : Params) (slots : ℕ → ℕ → List ℕ) (t : FlatTable) (bs : List (List (Option ℕ × ℕ))) → AreAllRead p slots t (reads_from p slots t bs)
unfolding reads_from
all_read p slots t [] = tt
all_read p slots t (b ∷ bs) = (are_read slots (batch_picked p t b), all_read p slots (after p t (Batch b)) bs)

places_read : (p : Params) (slots : ℕ → ℕ → List ℕ) (t : FlatTable) (bs : List (List (Option ℕ × ℕ))) → map (λ b. b.0) (reads_from p slots t bs) ≡ bs
unfolding reads_from
places_read p slots t [] = refl
places_read p slots t (b ∷ bs) = ap (λ rest. b ∷ rest) (places_read p slots (after p t (Batch b)) bs)

-- whatever an epoch asks for and writes, there are jobs, slots and rows as it needs them
pub epochs_are_met : EpochsAreMet
epochs_are_met p t rows slots m bs ws o c fit =
    let rs : List Read = reads_from p slots t bs in
    let t1 : FlatTable = after_batches p t rs in
    let js : List Job = map (read_of slots) (final_picked p t1 (eviction_path p t1.counter)) in
    let t3 : FlatTable = before_refill p t rs ws in
    let rows3 : Rows = rows_before_refill rows rs js ws in
    let done = batches_done p t rows slots m rs o c (all_read p slots t bs) in
    let l : Settles p (after p t1 FinalLifts) (rows_of_batches rows rs) slots m js = lifts_carry p t1 (rows_of_batches rows rs) slots m js done.orderly done.carries (are_read slots (final_picked p t1 (eviction_path p t1.counter))) in
    let w : Carries p t3 rows3 slots (with_entries m ws) = writes_carry p (after p t1 FinalLifts) ws (rows_after (rows_of_batches rows rs) js) slots m fit l.carries in
    let o3 : IsOrderly p t3 = steps_keep_order p (after p t1 FinalLifts) (Writes (leaf_writes ws)) (steps_keep_order p t1 FinalLifts done.orderly) in
    record {
      batches = rs;
      jobs = js;
      rows_then = rows_then p t3 rows3;
      slots_then = slots_then p t3 rows3 slots;
      places = places_read p slots t bs;
      epoch = record {
        batches = all_read p slots t bs;
        lifts = are_read slots (final_picked p t1 (eviction_path p t1.counter));
        fit = fit;
        refilled = refill_met p t3 rows3 slots o3 w.low;
      };
    }
