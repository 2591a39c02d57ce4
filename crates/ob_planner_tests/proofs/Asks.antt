-- What is planned of a batch of at most two places, of which only the first asks; of one write; and keys of jobs that are below 8.
use Rattle.std.specs.Prelude.{◌≡◌, ℕ, zero, suc, ◌<◌, ◌≤◌, List, [], ◌∷◌, take, length, Option, None, IfSome, slice_index_or}
use Rattle.std.proofs.Common.{arith, refl}
use Rattle.ob_base.specs.Planned.{job_at}
use Rattle.ob_base.specs.declared.job.Job.{Job}
use Rattle.ob_base.specs.declared.value.Write.{Write}
use Rattle.ob_ring.specs.Writing.{write_at}

pub front_low : (n keys : ℕ) (key : Option ℕ) → IfSome key (λ k. k < keys) → (i : ℕ) → IfSome (slice_index_or (take n (key ∷ None ∷ [])) i None) (λ k. k < keys)
front_low zero keys key low i = tt
front_low (suc n) keys key low zero = low
front_low (suc zero) keys key low (suc i) = tt
front_low (suc (suc n)) keys key low (suc zero) = tt
front_low (suc (suc zero)) keys key low (suc (suc i)) = tt
front_low (suc (suc (suc n))) keys key low (suc (suc i)) = tt

pub taken_many : {X : Type 0} (n : ℕ) (x y : X) → n ≤ 2 → length (take n (x ∷ y ∷ [])) ≡ n
taken_many zero x y le = refl
taken_many (suc zero) x y le = refl
taken_many (suc (suc zero)) x y le = refl
taken_many (suc (suc (suc n))) x y le = absurd (omega (arith, le))

pub one_low : (w : Write) (keys : ℕ) → w.key < keys → (i : ℕ) → i < 1 → (write_at (w ∷ []) i).key < keys
one_low w keys low zero lt = low
one_low w keys low (suc i) lt = absurd (omega (arith, lt))

-- behind the last job no key is expected
pub jobs_low : (jobs : List Job) → ((j : ℕ) → j < length jobs → IfSome (job_at jobs j).key (λ k. k < 8)) → (i : ℕ) → IfSome (job_at jobs i).key (λ k. k < 8)
jobs_low [] each i = tt
jobs_low (x ∷ xs) each zero = each 0 (omega arith)
jobs_low (x ∷ xs) each (suc i) = jobs_low xs (λ j lt. each (suc j) (omega (arith, lt))) i
