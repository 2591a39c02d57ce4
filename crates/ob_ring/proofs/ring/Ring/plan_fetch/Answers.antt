use Rattle.std.proofs.Common.{sym, ap, subst, length, ◌∙◌, ℕ, [], refl}
use Rattle.ob_base.specs.Planned.{Planned, most_jobs}
use Rattle.ob_tables.specs.Buckets.{Buckets}
use Rattle.ob_ring.specs.Fetching.{Fetches, places_of, after_labels}
use Rattle.ob_ring.specs.Ring.{Kept, StandsFor, IsBatch}
use Rattle.ob_ring.proofs.KeysLow.{batch_keys}
use Rattle.ob_ring.proofs.RingLaws.{batch_is}
use Rattle.std.specs.Prelude.{◌≡◌, ◌<◌, IfSome, None, slice_index_or}
use Rattle.ob_ring.specs.Arrays.{AreWhole}
use Rattle.ob_tables.specs.Kept.{entry_at}
use Rattle.ob_ring.specs.Picked.{SameSeals}
use Rattle.ob_ring.proofs.ring.Ring.plan_fetch.Goals as goal

pub returns-clause-planned : goal.returns-clause-planned
returns-clause-planned c = λ t s.
    let new' : Kept = record { p = c.self.inside.params; book = c.plan_places.new.book; metas = c.plan_places.new.metas; stash = c.self.inside.tables.stash; counter = c.self.inside.tables.counter } in
    subst (λ (o : Kept). IsBatch o new' c.plan_places.new.jobs (places_of o.p c.args.asks.now c.args.words.now c.args.first (length c.args.asks.now)) t) c.self.view_is
    (batch_is c.self.inside.params c.self.inside.tables.book c.plan_places.new.book c.self.inside.tables.metas c.plan_places.new.metas c.self.inside.tables.stash c.self.inside.tables.counter c.clear.new.self c.plan_places.new.jobs
    (places_of c.self.inside.params c.args.asks.now c.args.words.now c.args.first (length c.args.asks.now))
    (subst (λ (m : Buckets). Fetches c.self.inside.params c.self.inside.tables.book c.plan_places.new.book m c.plan_places.new.metas c.clear.new.self c.plan_places.new.jobs
    (places_of c.self.inside.params c.args.asks.now c.args.words.now c.args.first (length c.args.asks.now))) c.clear_order.ensures c.plan_places.ensures.plans)
    (ap (λ (x : Planned). x.jobs) c.clear.ensures) (ap (λ (x : Planned). x.places) c.clear.ensures) t
    (subst (λ (o : Kept). StandsFor o t) (sym c.self.view_is) s))

pub returns-clause-keys : goal.returns-clause-keys
returns-clause-keys c = λ t s. batch_keys c.args.self.now.p c.args.self.now.metas.versions t c.args.asks.now c.args.words.now c.args.first (length c.args.asks.now) c.plan_places.new.jobs.jobs c.requires.keys (returns-clause-planned c t s).jobs

pub plan_places-requires-clause-book : goal.plan_places-requires-clause-book
plan_places-requires-clause-book c = c.self.invariant.book

pub plan_places-requires-clause-asks : goal.plan_places-requires-clause-asks
plan_places-requires-clause-asks c = subst (λ (o : Kept). length c.args.asks.now ≡ (o.p).places) (sym c.self.view_is) c.requires.asks

pub plan_places-requires-clause-keys : goal.plan_places-requires-clause-keys
plan_places-requires-clause-keys c = subst (λ (o : Kept). (i : ℕ) → IfSome (slice_index_or c.args.asks.now i None) (λ k. k < (o.p).keys)) (sym c.self.view_is) c.requires.keys

pub plan_places-requires-clause-words : goal.plan_places-requires-clause-words
plan_places-requires-clause-words c = subst (λ (o : Kept). length c.args.words.now ≡ (o.p).places) (sym c.self.view_is) c.requires.words

pub plan_places-requires-clause-jobs : goal.plan_places-requires-clause-jobs
plan_places-requires-clause-jobs c =
    subst (λ (o : Kept). c.clear.new.self ≡ record { jobs = []; places = []; room = most_jobs o.p; place_room = (o.p).places }) (sym c.self.view_is)
    (c.clear.ensures ∙ (λ i. record { jobs = []; places = []; room = c.requires.jobs.0 i; place_room = c.requires.jobs.1 i }))

pub invariant_of-self : goal.invariant_of-self
invariant_of-self c = record {
  book = c.plan_places.ensures.plans.book;
  metas = c.plan_places.ensures.plans.whole;
  counter = c.self.invariant.counter;
  stash_low = c.self.invariant.stash_low;
  room = c.self.invariant.room;
}

pub plan_places-requires-clause-whole : goal.plan_places-requires-clause-whole
plan_places-requires-clause-whole c =
    subst (λ (m : Buckets). AreWhole c.self.inside.params m) (sym c.clear_order.ensures)
    (record { many = c.self.invariant.metas.many; marks = c.self.invariant.metas.marks; slots = c.self.invariant.metas.slots })

pub returns-clause-rooms : goal.returns-clause-rooms
returns-clause-rooms c =
    let rooms : (c.plan_places.new.jobs.room ≡ most_jobs c.args.self.now.p) × (c.plan_places.new.jobs.place_room ≡ c.args.self.now.p.places) =
    subst (λ (o : Kept). (c.plan_places.new.jobs.room ≡ most_jobs o.p) × (c.plan_places.new.jobs.place_room ≡ (o.p).places)) c.self.view_is c.plan_places.ensures.rooms in
    (rooms.0 ∙ sym c.requires.jobs.0, rooms.1 ∙ sym c.requires.jobs.1)

pub returns-clause-kept : goal.returns-clause-kept
returns-clause-kept c =
    subst (λ (o : Kept). record { p = c.self.inside.params; book = c.plan_places.new.book; metas = c.plan_places.new.metas; stash = c.self.inside.tables.stash; counter = c.self.inside.tables.counter } ≡
    record o { book = c.plan_places.new.book; metas = c.plan_places.new.metas }) c.self.view_is refl

pub returns-clause-labels : goal.returns-clause-labels
returns-clause-labels c = λ k.
    subst (λ (o : Kept). entry_at c.plan_places.new.book k ≡ after_labels (λ i. entry_at o.book i) (places_of o.p c.args.asks.now c.args.words.now c.args.first (length c.args.asks.now)) k) c.self.view_is
    (c.plan_places.ensures.plans.labels k)

pub returns-clause-seals : goal.returns-clause-seals
returns-clause-seals c =
    subst (λ (o : Kept). SameSeals (record o.metas { order = [] }) c.plan_places.new.metas) c.self.view_is
    (subst (λ (m : Buckets). SameSeals m c.plan_places.new.metas) c.clear_order.ensures c.plan_places.ensures.plans.seals)
