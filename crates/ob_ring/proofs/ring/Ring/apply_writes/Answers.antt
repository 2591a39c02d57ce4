use Rattle.std.proofs.Common.{sym, subst, length, ℕ, List, Bool, ◌∙◌, refl, filter}
use Rattle.ob_ring.specs.FlatTable.{Writes as WritesStep, after}
use Rattle.ob_ring.specs.Writing.{leaf_writes, writes_of, write_at, entries_after, values_after}
use Rattle.ob_ring.specs.Ring.{Kept, StandsFor, IsListed}
use Rattle.ob_ring.proofs.TableLaws.{steps_keep_order}
use Rattle.std.specs.Prelude.{◌≡◌, ◌+◌, ◌<◌, ◌≤◌, false, slice_index_or}
use Rattle.ob_schedule.specs.Paths.{by_falling_level}
use Rattle.ob_ring.specs.Picked.{SameSeals}
use Rattle.ob_tables.specs.Kept.{entry_at}
use Rattle.ob_ring.proofs.ring.Ring.apply_writes.Goals as goal

pub returns-clause-applied : goal.returns-clause-applied
returns-clause-applied c = λ t s.
    let new' : Kept = record { p = c.self.inside.params; book = c.write_all.new.book; metas = c.write_all.new.metas; stash = c.write_all.new.stash; counter = c.self.inside.tables.counter } in
    let s' : StandsFor (record { p = c.self.inside.params; book = c.self.inside.tables.book; metas = c.self.inside.tables.metas; stash = c.self.inside.tables.stash; counter = c.self.inside.tables.counter }) t = subst (λ (o : Kept). StandsFor o t) (sym c.self.view_is) s in
    subst (λ (o : Kept). StandsFor new' (after o.p t (WritesStep (leaf_writes (writes_of o.p c.args.writes.now c.args.words.now c.args.first (length c.args.writes.now)))))) c.self.view_is
    (record {
      orderly = steps_keep_order c.self.inside.params t (WritesStep (leaf_writes (writes_of c.self.inside.params c.args.writes.now c.args.words.now c.args.first (length c.args.writes.now)))) s'.orderly;
      arrays = c.write_all.ensures.writes.follows c.self.inside.tables.counter t s'.orderly s'.arrays;
    })

pub write_all-requires-clause-book : goal.write_all-requires-clause-book
write_all-requires-clause-book c = c.self.invariant.book

pub write_all-requires-clause-whole : goal.write_all-requires-clause-whole
write_all-requires-clause-whole c = c.self.invariant.metas

pub write_all-requires-clause-keys : goal.write_all-requires-clause-keys
write_all-requires-clause-keys c = subst (λ (o : Kept). (i : ℕ) → i < length c.args.writes.now → (write_at c.args.writes.now i).key < (o.p).keys) (sym c.self.view_is) c.requires.keys

pub write_all-requires-clause-low : goal.write_all-requires-clause-low
write_all-requires-clause-low c = c.self.invariant.stash_low

pub write_all-requires-clause-room : goal.write_all-requires-clause-room
write_all-requires-clause-room c = c.self.invariant.room

pub invariant_of-self : goal.invariant_of-self
invariant_of-self c = record {
  book = c.write_all.ensures.writes.book;
  metas = c.write_all.ensures.writes.whole;
  counter = c.self.invariant.counter;
  stash_low = c.write_all.ensures.low;
  room = subst (λ (n : ℕ). c.self.inside.params.keys ≤ n) (sym c.write_all.ensures.room) c.self.invariant.room;
}

pub returns-clause-kept : goal.returns-clause-kept
returns-clause-kept c =
    subst (λ (o : Kept). record { p = c.self.inside.params; book = c.write_all.new.book; metas = c.write_all.new.metas; stash = c.write_all.new.stash; counter = c.self.inside.tables.counter } ≡
    record o { book = c.write_all.new.book; metas = c.write_all.new.metas; stash = c.write_all.new.stash }) c.self.view_is refl

pub returns-clause-room : goal.returns-clause-room
returns-clause-room c = subst (λ (o : Kept). c.write_all.new.stash.room ≡ (o.stash).room) c.self.view_is c.write_all.ensures.room

pub returns-clause-entries : goal.returns-clause-entries
returns-clause-entries c = λ k.
    subst (λ (o : Kept). entry_at c.write_all.new.book k ≡ entries_after (λ i. entry_at o.book i) (writes_of o.p c.args.writes.now c.args.words.now c.args.first (length c.args.writes.now)) k) c.self.view_is
    (c.write_all.ensures.writes.entries k)

pub returns-clause-values : goal.returns-clause-values
returns-clause-values c =
    subst (λ (o : Kept). c.write_all.new.stash.rows ≡ values_after (o.stash).rows (writes_of o.p c.args.writes.now c.args.words.now c.args.first (length c.args.writes.now))) c.self.view_is
    c.write_all.ensures.writes.values

pub returns-clause-seals : goal.returns-clause-seals
returns-clause-seals c = subst (λ (o : Kept). SameSeals o.metas c.write_all.new.metas) c.self.view_is c.write_all.ensures.writes.seals

pub returns-clause-lifted : goal.returns-clause-lifted
returns-clause-lifted c = subst (λ (o : Kept). (c.write_all.new.metas).lifted ≡ (o.metas).lifted) c.self.view_is c.write_all.ensures.writes.lifted

pub returns-clause-listed : goal.returns-clause-listed
returns-clause-listed c = λ listed.
    subst (λ (l : List Bool). (c.write_all.new.metas).order ≡ filter (λ u. slice_index_or l u false) (by_falling_level (c.self.inside.params.levels + 1))) (sym c.write_all.ensures.writes.lifted)
    (c.write_all.ensures.writes.seals.order ∙ subst (λ (o : Kept). IsListed o) (sym c.self.view_is) listed)
