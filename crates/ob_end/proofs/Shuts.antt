-- Gates as far as they are closed.
use Rattle.std.specs.Prelude.{◌≡◌, ◌<◌, ℕ, suc, ◌+◌, ◌%◌, length, get_or, Result, Ok, Err}
use Rattle.std.specs.Result.{IsErr}
use Rattle.std.proofs.Common.{arith, inl, inr, ⊎_elim, refl, sym, ap, ◌∙◌, subst, below_more}
use Rattle.std.proofs.lemmas.Bool.{cases_eq}
use Rattle.std.proofs.lemmas.List.FromFn.{length-map-range_with_len, get_or-map-range_with_len}
use Rattle.ob_base.specs.declared.params.Params.{Params}
use Rattle.ob_base.specs.Layout.{log_gate, record_cells}
use Rattle.ob_base.proofs.LayoutLaws.{parts_apart}
use Rattle.ob_schedule.specs.Schedule.{log_gates}
use Rattle.ob_seal.specs.declared.keys.Keys.{Keys}
use Rattle.ob_store.specs.Disk.{Disk}
use Rattle.ob_store.specs.Images.{Elapses, Passes, SameBut, Tears}
use Rattle.ob_store.proofs.Moments.{passed_none, passed_then, passes_so, torn_once}
use Rattle.ob_pads.specs.Seals.{IsGate, IsUnsealed}
use Rattle.ob_store.specs.Calls.{GoesOn, IsFailed, Serves}
use Rattle.ob_store.proofs.Serving.{goes_same, goes_then}
use Rattle.ob_twin.specs.Bodies.{closed_gate}
use Rattle.ob_stand.specs.Ends.{RingEnd, IsEndOf}
use Rattle.ob_stand.specs.Stands.{RingStanding}
use Rattle.ob_end.specs.EndWrites.{SameFirst, ShutsGates, KeepsStanding}
use Rattle.ob_end.proofs.Parts.{first_joins, gate_stays, stays_none, stays_then}

-- so many gates are closed
pub record Shutting (p : Params) (area n : ℕ) (old now : Disk) : Type 0 where
  pub goes : GoesOn old now
  pub tells : old.tells → now.tells
  pub out : now.out ≡ 0
  pub stays : (keys : Keys) (s : RingStanding) (end : RingEnd) → IsEndOf p s end → area ≡ suc (suc s.epoch) % 2 → KeepsStanding keys p s end old now
  pub shut : old.tells → (b : ℕ) → b < n → now.cells (log_gate p area b) ≡ closed_gate
  pub first : old.tells → SameFirst now.cells old.cells
  pub moments : Passes SameFirst old now
  pub unsealed : old.tells → (cell : ℕ) → IsUnsealed old.cells now.cells cell

pub shutting_none : (p : Params) (area : ℕ) (d : Disk) → d.out ≡ 0 → Shutting p area 0 d d
shutting_none p area d none = record {
  goes = goes_same d;
  tells = λ t. t;
  out = none;
  stays = λ keys s end follows is. stays_none keys p s end d;
  shut = λ t b low. absurd (omega arith);
  first = λ t k low. refl;
  moments = passed_none d SameFirst (λ c k low. refl);
  unsealed = λ t cell. inl refl;
}

module _ (p : Params) (area n cell : ℕ) (old mid new : Disk) (low : n < p.batches) (is : cell ≡ log_gate p area n) (so_far : Shutting p area n old mid)
    (goes : GoesOn mid new) (rest : mid.tells → SameBut cell new.cells mid.cells) (tears : Tears cell mid new) (time : Elapses mid new) where
  pub stays_one : (keys : Keys) (s : RingStanding) (end : RingEnd) → IsEndOf p s end → area ≡ suc (suc s.epoch) % 2 → KeepsStanding keys p s end old new
  stays_one keys s end follows at = stays_then keys p s end old mid new so_far.tells (so_far.stays keys s end follows at)
      (gate_stays keys p s end n cell mid new follows low (is ∙ ap (λ a. log_gate p a n) at) goes time tears rest)

  pub first_one : old.tells → SameFirst new.cells old.cells
  first_one t k lt = rest (so_far.tells t) k (λ e. absurd (omega (arith, e, is, lt))) ∙ so_far.first t k lt

  pub moments_one : Passes SameFirst old new
  moments_one = passed_then SameFirst old mid new first_joins so_far.moments
      (passes_so (SameBut cell) SameFirst mid new (λ c d same k lt. same k (λ e. absurd (omega (arith, e, is, lt)))) (torn_once cell mid new goes time tears rest))

  -- the call was refused
  pub shut_refused : {T E : Type 0} (r : Result T E) → IsErr r → (keys : Keys) (s : RingStanding) (end : RingEnd) → IsEndOf p s end → area ≡ suc (suc s.epoch) % 2 → ShutsGates keys p s end old new r
  shut_refused (Ok v) err keys s end follows at = absurd (grind (arith, err))
  shut_refused (Err e) err keys s end follows at = record { stays = stays_one keys s end follows at; shut = λ t. tt }

  pub shut_one : Serves {T = Unit {0}} IsFailed mid new (Ok tt) → (mid.tells → new.cells cell ≡ closed_gate) → Shutting p area (n + 1) old new
  shut_one serves put = record {
    goes = goes_then old mid new so_far.goes goes;
    tells = λ t. serves.tells (so_far.tells t);
    out = let none = so_far.out in let still = serves.out in omega arith;
    stays = stays_one;
    shut = λ t. below_more (λ b. new.cells (log_gate p area b) ≡ closed_gate) n
        (λ b below. rest (so_far.tells t) (log_gate p area b) (λ e. other b below (e ∙ is)) ∙ so_far.shut t b below)
        (subst (λ k. new.cells k ≡ closed_gate) is (put (so_far.tells t)));
    first = first_one;
    moments = moments_one;
    unsealed = λ t k. ⊎_elim
        (λ (at : k ≡ cell). inr (inr (ap new.cells at ∙ put (so_far.tells t))))
        (λ (apart : k ≡ cell → ⊥). still k (rest (so_far.tells t) k apart) (so_far.unsealed t k))
        (cases_eq k cell);
  }
    where
      still : (k : ℕ) → new.cells k ≡ mid.cells k → IsUnsealed old.cells mid.cells k → IsUnsealed old.cells new.cells k
      still k same unsealed = ⊎_elim (λ (e : mid.cells k ≡ old.cells k). inl (same ∙ e)) (λ (gate : IsGate (mid.cells k)). inr (subst IsGate (sym same) gate)) unsealed

      other : (b : ℕ) → b < n → log_gate p area b ≡ log_gate p area n → ⊥
      other b below e = let same : b ≡ n = (parts_apart p area b n (record_cells p) (record_cells p) (omega arith) (omega arith) e).0 in omega arith

-- all of them
pub shut_all : {E : Type 0} (p : Params) (area n : ℕ) (old new : Disk) → n ≡ p.batches → Shutting p area n old new → (keys : Keys) (s : RingStanding) (end : RingEnd) → IsEndOf p s end → area ≡ suc (suc s.epoch) % 2
    → ShutsGates {T = Unit {0}} {E = E} keys p s end old new (Ok tt)
shut_all p area n old new whole so keys s end follows at = record {
  stays = so.stays keys s end follows at;
  shut = λ t b low. subst (λ a. new.cells (log_gate p a b) ≡ closed_gate) at (so.shut t b (omega arith));
}

-- ---- the list of gates

pub gates_many : (p : Params) (area : ℕ) → length (log_gates p area) ≡ p.batches
gates_many p area = length-map-range_with_len (λ b. log_gate p area b) 0 p.batches

pub gate_at : (p : Params) (area n cell : ℕ) → n < p.batches → cell ≡ log_gate p area n → cell ≡ get_or (log_gates p area) n 0
gate_at p area n cell low is = is ∙ sym (get_or-map-range_with_len (λ b. log_gate p area b) 0 p.batches n n 0 low (omega arith))
