-- Jobs whose results are kept one after another.
use Rattle.std.specs.Prelude.{◌≡◌, ◌≢◌, ◌<◌, ◌≤◌, ℕ, ◌+◌, List, length, Some}
use Rattle.std.proofs.Common.{arith, refl, sym, ap, ◌∙◌, inl, inr, get_or-set_same, get_or-set_other}
use Rattle.std.proofs.lemmas.Bool.{cases_eq}
use Rattle.std.proofs.lemmas.List.{length-set}
use Rattle.ob_base.specs.declared.job.Job.{Job}
use Rattle.ob_base.specs.Planned.{job_at, with_result}
use Rattle.ob_cells.specs.Jobs.{AreFilled}

pub record Fills (old new : List Job) (plain : ℕ → List ℕ) (n : ℕ) : Type 0 where
  pub many : length new ≡ length old
  pub done : (i : ℕ) → i < n → job_at new i ≡ record (job_at old i) { result = Some (plain i) }
  pub rest : (i : ℕ) → n ≤ i → job_at new i ≡ job_at old i

pub fills_none : (jobs : List Job) (plain : ℕ → List ℕ) → Fills jobs jobs plain 0
fills_none jobs plain = record { many = refl; done = λ i lt. absurd (omega arith); rest = λ i le. refl }

pub fills_more : (old new : List Job) (plain : ℕ → List ℕ) (n : ℕ) (here : List ℕ) → n < length old → here ≡ plain n → Fills old new plain n → Fills old (with_result new n here) plain (n + 1)
fills_more old new plain n here lt is f = record {
  many = omega (arith, length-set new n (record (job_at new n) { result = Some here }), f.many);
  done = λ i below. elim (cases_eq i n) [
    | inl same ↦ (
        let at : job_at (with_result new n here) i ≡ record (job_at new n) { result = Some here } = ap (job_at (with_result new n here)) same ∙ get_or-set_same new n (record (job_at new n) { result = Some here }) _ (omega (arith, f.many)) in
        at ∙ ap (λ (j : Job). record j { result = Some here }) (f.rest n (omega arith) ∙ ap (job_at old) (sym same)) ∙ ap (λ (x : List ℕ). record (job_at old i) { result = Some x }) (is ∙ ap plain (sym same)))
    | inr ne ↦ get_or-set_other new n i (record (job_at new n) { result = Some here }) _ ne ∙ f.done i (omega arith)
  ];
  rest = λ i le. (let ne : i ≢ n = omega arith in get_or-set_other new n i (record (job_at new n) { result = Some here }) _ ne ∙ f.rest i (omega arith));
}

pub fills_all : (old new : List Job) (plain : ℕ → List ℕ) (n : ℕ) → length old ≤ n → Fills old new plain n → AreFilled old new plain
fills_all old new plain n all f = record { many = f.many; each = λ i lt. f.done i (omega arith) }
