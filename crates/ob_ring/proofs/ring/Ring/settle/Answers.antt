use Rattle.std.proofs.Common.{ℕ, List, sym, subst, refl}
use Rattle.std.specs.Prelude.{◌≡◌, ◌<◌, ◌≤◌, IfSome, MatchResult}
use Rattle.std.specs.declared.option.Option.TheVariants.{None, Some}
use Rattle.ob_base.specs.declared.job.Job.{Job}
use Rattle.ob_base.specs.Planned.{job_at}
use Rattle.ob_ring.specs.Settling.{first_fault, rows_after}
use Rattle.ob_ring.specs.Ring.{Kept}
use Rattle.ob_ring.proofs.ring.Ring.settle.Goals as goal

pub settle_jobs-requires-clause-keys : goal.settle_jobs-requires-clause-keys
settle_jobs-requires-clause-keys c =
    subst (λ (o : Kept). (i : ℕ) → IfSome (job_at c.jobs.result.now i).key (λ k. k < (o.p).keys)) (sym c.self.view_is)
    (subst (λ (js : List Job). (i : ℕ) → IfSome (job_at js i).key (λ k. k < c.args.self.now.p.keys)) (sym c.jobs.ensures) c.requires.keys)

pub settle_jobs-requires-clause-low : goal.settle_jobs-requires-clause-low
settle_jobs-requires-clause-low c = c.self.invariant.stash_low

pub settle_jobs-requires-clause-room : goal.settle_jobs-requires-clause-room
settle_jobs-requires-clause-room c = c.self.invariant.room

pub invariant_of-self : goal.invariant_of-self
invariant_of-self c = record {
  book = c.self.invariant.book;
  metas = c.self.invariant.metas;
  counter = c.self.invariant.counter;
  stash_low = c.settle_jobs.ensures.low;
  room = subst (λ (n : ℕ). c.self.inside.params.keys ≤ n) (sym c.settle_jobs.ensures.room) c.self.invariant.room;
}

pub returns-clause-kept : goal.returns-clause-kept
returns-clause-kept c =
    subst (λ (o : Kept). record { p = c.self.inside.params; book = c.self.inside.tables.book; metas = c.self.inside.tables.metas; stash = c.settle_jobs.new.stash; counter = c.self.inside.tables.counter } ≡
    record o { stash = c.settle_jobs.new.stash }) c.self.view_is refl

pub returns-clause-room : goal.returns-clause-room
returns-clause-room c = subst (λ (o : Kept). c.settle_jobs.new.stash.room ≡ (o.stash).room) c.self.view_is c.settle_jobs.ensures.room

pub returns-clause-settled : goal.returns-clause-settled
returns-clause-settled c =
    subst (λ (o : Kept). MatchResult c.settle_jobs.result (λ _. (first_fault c.args.jobs.now.jobs ≡ None) × (c.settle_jobs.new.stash.rows ≡ rows_after (o.stash).rows c.args.jobs.now.jobs)) (λ d. first_fault c.args.jobs.now.jobs ≡ Some d)) c.self.view_is
    (subst (λ (js : List Job). MatchResult c.settle_jobs.result (λ _. (first_fault js ≡ None) × (c.settle_jobs.new.stash.rows ≡ rows_after c.self.inside.tables.stash.rows js)) (λ d. first_fault js ≡ Some d)) c.jobs.ensures c.settle_jobs.ensures.settled)
