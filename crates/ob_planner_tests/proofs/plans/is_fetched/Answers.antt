use Rattle.std.proofs.Common.{◌≡◌, ◌<◌, ◌∙◌, ℕ, List, Option, None, IfSome, take, length, slice_index_or, sym, subst, ap}
use Rattle.ob_base.specs.declared.params.Params.{Params}
use Rattle.ob_base.specs.Planned.{most_jobs}
use Rattle.ob_planner_tests.proofs.Asks.{front_low, taken_many}
use Rattle.ob_planner_tests.proofs.plans.is_fetched.Goals as goal

pub plan_fetch-requires-clause-asks : goal.plan_fetch-requires-clause-asks
plan_fetch-requires-clause-asks c =
    subst (λ (asks : List (Option ℕ)). length (take c.args.p.now.places asks) ≡ c.args.ring.now.p.places) (sym c.asks_of-asks.ensures)
    (taken_many c.args.p.now.places c.args.fetch.now.key None (c.may_ask.ensures.few c.if-not-may_ask.false) ∙ sym (ap (λ (q : Params). q.places) c.requires.params))

pub plan_fetch-requires-clause-words : goal.plan_fetch-requires-clause-words
plan_fetch-requires-clause-words c = taken_many c.args.p.now.places 0 0 (c.may_ask.ensures.few c.if-not-may_ask.false) ∙ sym (ap (λ (q : Params). q.places) c.requires.params)

pub plan_fetch-requires-clause-keys : goal.plan_fetch-requires-clause-keys
plan_fetch-requires-clause-keys c = λ i.
    subst (λ (n : ℕ). IfSome (slice_index_or (take c.args.p.now.places c.asks_of-asks.result) i None) (λ k. k < n)) (sym (ap (λ (q : Params). q.keys) c.requires.params))
    (subst (λ (asks : List (Option ℕ)). IfSome (slice_index_or (take c.args.p.now.places asks) i None) (λ k. k < c.args.p.now.keys)) (sym c.asks_of-asks.ensures)
    (front_low c.args.p.now.places c.args.p.now.keys c.args.fetch.now.key (c.may_ask.ensures.low c.if-not-may_ask.false) i))

pub plan_fetch-requires-clause-jobs : goal.plan_fetch-requires-clause-jobs
plan_fetch-requires-clause-jobs c = subst (λ (q : Params). (c.args.jobs.now.room ≡ most_jobs q) × (c.args.jobs.now.place_room ≡ q.places)) (sym c.requires.params) c.requires.rooms
