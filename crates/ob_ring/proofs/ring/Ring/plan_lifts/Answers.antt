use Rattle.std.proofs.Common.{ℕ, ◌∙◌, sym, ap, subst, length, filter, refl}
use Rattle.ob_base.specs.Planned.{Planned, most_jobs}
use Rattle.ob_tables.specs.Buckets.{Buckets, is_lifted}
use Rattle.ob_ring.specs.Ring.{Kept, StandsFor, IsLifting}
use Rattle.ob_schedule.specs.Paths.{eviction_path, by_falling_level}
use Rattle.ob_ring.proofs.KeysLow.{lift_keys}
use Rattle.ob_ring.proofs.RingLaws.{lifting_is}
use Rattle.std.specs.Prelude.{◌≡◌, ◌+◌, ◌%◌, ◌^◌}
use Rattle.ob_ring.specs.Arrays.{AreWhole}
use Rattle.ob_ring.specs.Picked.{SameSeals}
use Rattle.ob_ring.proofs.ring.Ring.plan_lifts.Goals as goal

pub returns-clause-planned : goal.returns-clause-planned
returns-clause-planned c = λ t s.
    let new' : Kept = record { p = c.self.inside.params; book = c.self.inside.tables.book; metas = c.list_lifted.new.metas; stash = c.self.inside.tables.stash; counter = c.next_counter-self-inside.result } in
    subst (λ (o : Kept). IsLifting o new' c.lift_paths.new.jobs t) c.self.view_is
    (lifting_is c.self.inside.params c.self.inside.tables.book c.self.inside.tables.metas c.lift_paths.new.metas c.list_lifted.new.metas c.self.inside.tables.stash c.self.inside.tables.counter c.next_counter-self-inside.result c.clear.new.self c.lift_paths.new.jobs
    c.lift_paths.ensures.plans (ap (λ (x : Planned). x.jobs) c.clear.ensures)
    (c.list_lifted.ensures ∙ (λ i. record c.lift_paths.new.metas { order = ap (λ (m : Buckets). m.order) (sym c.list_lifted.ensures) i }))
    c.next_counter-self-inside.ensures.next t (subst (λ (o : Kept). StandsFor o t) (sym c.self.view_is) s))

pub returns-clause-keys : goal.returns-clause-keys
returns-clause-keys c = λ t s. lift_keys c.args.self.now.p c.args.self.now.metas.versions t (eviction_path c.args.self.now.p t.counter) c.lift_paths.new.jobs.jobs (returns-clause-planned c t s).jobs

pub lift_paths-requires-clause-whole : goal.lift_paths-requires-clause-whole
lift_paths-requires-clause-whole c = c.self.invariant.metas

pub lift_paths-requires-clause-counter : goal.lift_paths-requires-clause-counter
lift_paths-requires-clause-counter c = c.self.invariant.counter

pub lift_paths-requires-clause-none : goal.lift_paths-requires-clause-none
lift_paths-requires-clause-none c = ap (λ (x : Planned). length x.jobs) c.clear.ensures

pub lift_paths-requires-clause-room : goal.lift_paths-requires-clause-room
lift_paths-requires-clause-room c = ap (λ (x : Planned). x.room) c.clear.ensures ∙ subst (λ (o : Kept). c.args.jobs.now.room ≡ most_jobs o.p) (sym c.self.view_is) c.requires.jobs.0

pub invariant_of-self : goal.invariant_of-self
invariant_of-self c = record {
  book = c.self.invariant.book;
  metas = subst (λ (m : Buckets). AreWhole c.self.inside.params m) (sym c.list_lifted.ensures)
      (record { many = c.lift_paths.ensures.plans.whole.many; marks = c.lift_paths.ensures.plans.whole.marks; slots = c.lift_paths.ensures.plans.whole.slots });
  counter = c.next_counter-self-inside.ensures.low;
  stash_low = c.self.invariant.stash_low;
  room = c.self.invariant.room;
}

pub returns-clause-kept : goal.returns-clause-kept
returns-clause-kept c =
    let made : ℕ → Kept = λ n. record { p = c.self.inside.params; book = c.self.inside.tables.book; metas = c.list_lifted.new.metas; stash = c.self.inside.tables.stash; counter = n } in
    subst (λ (o : Kept). made c.next_counter-self-inside.result ≡ record o { metas = c.list_lifted.new.metas; counter = (o.counter + (o.p).evictions) % 2 ^ (o.p).levels }) c.self.view_is
    (ap made c.next_counter-self-inside.ensures.next)

pub returns-clause-rooms : goal.returns-clause-rooms
returns-clause-rooms c = (
  c.lift_paths.ensures.grows.room ∙ ap (λ (x : Planned). x.room) c.clear.ensures,
  c.lift_paths.ensures.grows.place_room ∙ ap (λ (x : Planned). x.place_room) c.clear.ensures,
)

pub returns-clause-places : goal.returns-clause-places
returns-clause-places c = c.lift_paths.ensures.grows.places ∙ ap (λ (x : Planned). x.places) c.clear.ensures

pub returns-clause-seals : goal.returns-clause-seals
returns-clause-seals c =
    let seals : SameSeals c.self.inside.tables.metas c.lift_paths.new.metas = c.lift_paths.ensures.plans.seals in
    subst (λ (o : Kept). SameSeals (record o.metas { order = (c.list_lifted.new.metas).order }) c.list_lifted.new.metas) c.self.view_is
    (subst (λ (m : Buckets). SameSeals (record c.self.inside.tables.metas { order = m.order }) m) (sym c.list_lifted.ensures)
    (record { homes = seals.homes; generations = seals.generations; bases = seals.bases; ranks = seals.ranks; order = refl }))

pub returns-clause-listed : goal.returns-clause-listed
returns-clause-listed c = subst (λ (m : Buckets). m.order ≡ filter (λ u. is_lifted m u) (by_falling_level (c.self.inside.params.levels + 1))) (sym c.list_lifted.ensures) refl
