use Rattle.std.proofs.Common.{ℕ, length, filter, sym, subst, ap, ◌∙◌}
use Rattle.std.specs.Prelude.{◌≡◌, ◌+◌, ◌-◌, ◌*◌, replicate}
use Rattle.ob_base.specs.Tree.{buckets, width}
use Rattle.ob_base.specs.declared.params.Params.{Params}
use Rattle.ob_tables.specs.Buckets.{is_lifted}
use Rattle.ob_schedule.specs.Paths.{by_falling_level}
use Rattle.ob_ring.specs.Arrays.{AreWhole}
use Rattle.ob_ring.specs.Ring.{Kept}
use Rattle.ob_ring.proofs.RefillLaws.{judged, refilled}
use Rattle.ob_ring.proofs.RingLaws.{listed_still}
use Rattle.ob_ring.proofs.ring.Ring.refill_indexed.Goals as goal

pub put_rows-put-requires-clause-book : goal.put_rows-put-requires-clause-book
put_rows-put-requires-clause-book g c = c.self.invariant.book

pub put_rows-put-requires-clause-whole : goal.put_rows-put-requires-clause-whole
put_rows-put-requires-clause-whole g c = c.self.invariant.metas

pub put_rows-put-requires-clause-low : goal.put_rows-put-requires-clause-low
put_rows-put-requires-clause-low g c = c.self.invariant.stash_low

pub put_rows-put-requires-clause-index : goal.put_rows-put-requires-clause-index
put_rows-put-requires-clause-index g c = subst (λ (o : Kept). c.args.index.now ≡ replicate (buckets o.p) 0) (sym c.self.view_is) c.requires.index

pub seal_all-requires-clause-whole : goal.seal_all-requires-clause-whole
seal_all-requires-clause-whole g c = c.put_rows-put.ensures.whole

pub seal_all-requires-clause-listed : goal.seal_all-requires-clause-listed
seal_all-requires-clause-listed g c =
    listed_still c.self.inside.params c.self.inside.tables.metas c.put_rows-put.new.metas c.put_rows-put.ensures.seals.order c.put_rows-put.ensures.lifted
    (subst (λ (o : Kept). o.metas.order ≡ filter (λ u. is_lifted o.metas u) (by_falling_level (o.p.levels + 1))) (sym c.self.view_is) c.requires.listed)

pub seal_all-requires-clause-index : goal.seal_all-requires-clause-index
seal_all-requires-clause-index g c = c.put_rows-put.ensures.index.long

pub seal_all-requires-clause-words : goal.seal_all-requires-clause-words
seal_all-requires-clause-words g c =
    subst (λ (o : Kept). length c.args.words.now ≡ length o.metas.order * width o.p) (sym c.self.view_is) c.requires.words ∙ ap (λ xs. length xs * width c.self.inside.params) (sym c.put_rows-put.ensures.seals.order)

pub invariant_of-self : goal.invariant_of-self
invariant_of-self g c = record {
  book = c.self.invariant.book;
  metas = subst (λ (q : Params). AreWhole q c.clear_lifted.new.self) (sym (ap (λ (o : Kept). o.p) c.self.view_is)) (refilled c.args.self.now c.self.inside.params c.self.inside.tables.book c.self.inside.tables.metas c.put_rows-put.new.metas c.seal_all.new.metas c.clear_lifted.new.self
      c.self.inside.tables.stash c.self.inside.tables.counter
      c.put_rows-put.new.index c.seal_all.new.index c.args.words.now c.args.first c.args.steps.now c.put_rows-put.new.steps c.put_rows-put.result c.self.view_is c.self.invariant c.requires.listed c.put_rows-put.ensures c.seal_all.ensures c.clear_lifted.ensures).whole;
  counter = c.self.invariant.counter;
  stash_low = c.self.invariant.stash_low;
  room = c.self.invariant.room;
}

pub returns-clause-kept : goal.returns-clause-kept
returns-clause-kept g c =
    (refilled c.args.self.now c.self.inside.params c.self.inside.tables.book c.self.inside.tables.metas c.put_rows-put.new.metas c.seal_all.new.metas c.clear_lifted.new.self c.self.inside.tables.stash c.self.inside.tables.counter
    c.put_rows-put.new.index c.seal_all.new.index c.args.words.now c.args.first c.args.steps.now c.put_rows-put.new.steps c.put_rows-put.result c.self.view_is c.self.invariant c.requires.listed c.put_rows-put.ensures c.seal_all.ensures c.clear_lifted.ensures).kept

pub returns-clause-order : goal.returns-clause-order
returns-clause-order g c =
    (refilled c.args.self.now c.self.inside.params c.self.inside.tables.book c.self.inside.tables.metas c.put_rows-put.new.metas c.seal_all.new.metas c.clear_lifted.new.self c.self.inside.tables.stash c.self.inside.tables.counter
    c.put_rows-put.new.index c.seal_all.new.index c.args.words.now c.args.first c.args.steps.now c.put_rows-put.new.steps c.put_rows-put.result c.self.view_is c.self.invariant c.requires.listed c.put_rows-put.ensures c.seal_all.ensures c.clear_lifted.ensures).order

pub returns-clause-within : goal.returns-clause-within
returns-clause-within g c =
    (refilled c.args.self.now c.self.inside.params c.self.inside.tables.book c.self.inside.tables.metas c.put_rows-put.new.metas c.seal_all.new.metas c.clear_lifted.new.self c.self.inside.tables.stash c.self.inside.tables.counter
    c.put_rows-put.new.index c.seal_all.new.index c.args.words.now c.args.first c.args.steps.now c.put_rows-put.new.steps c.put_rows-put.result c.self.view_is c.self.invariant c.requires.listed c.put_rows-put.ensures c.seal_all.ensures c.clear_lifted.ensures).within

pub returns-clause-anew : goal.returns-clause-anew
returns-clause-anew g c =
    (refilled c.args.self.now c.self.inside.params c.self.inside.tables.book c.self.inside.tables.metas c.put_rows-put.new.metas c.seal_all.new.metas c.clear_lifted.new.self c.self.inside.tables.stash c.self.inside.tables.counter
    c.put_rows-put.new.index c.seal_all.new.index c.args.words.now c.args.first c.args.steps.now c.put_rows-put.new.steps c.put_rows-put.result c.self.view_is c.self.invariant c.requires.listed c.put_rows-put.ensures c.seal_all.ensures c.clear_lifted.ensures).anew

pub returns-clause-refilled : goal.returns-clause-refilled
returns-clause-refilled g c =
    (refilled c.args.self.now c.self.inside.params c.self.inside.tables.book c.self.inside.tables.metas c.put_rows-put.new.metas c.seal_all.new.metas c.clear_lifted.new.self c.self.inside.tables.stash c.self.inside.tables.counter
    c.put_rows-put.new.index c.seal_all.new.index c.args.words.now c.args.first c.args.steps.now c.put_rows-put.new.steps c.put_rows-put.result c.self.view_is c.self.invariant c.requires.listed c.put_rows-put.ensures c.seal_all.ensures c.clear_lifted.ensures).stands

pub returns-clause-cost : goal.returns-clause-cost
returns-clause-cost g c =
    (refilled c.args.self.now c.self.inside.params c.self.inside.tables.book c.self.inside.tables.metas c.put_rows-put.new.metas c.seal_all.new.metas c.clear_lifted.new.self c.self.inside.tables.stash c.self.inside.tables.counter
    c.put_rows-put.new.index c.seal_all.new.index c.args.words.now c.args.first c.args.steps.now c.put_rows-put.new.steps c.put_rows-put.result c.self.view_is c.self.invariant c.requires.listed c.put_rows-put.ensures c.seal_all.ensures c.clear_lifted.ensures).cost

pub returns-clause-exact : goal.returns-clause-exact
returns-clause-exact g c =
    (refilled c.args.self.now c.self.inside.params c.self.inside.tables.book c.self.inside.tables.metas c.put_rows-put.new.metas c.seal_all.new.metas c.clear_lifted.new.self c.self.inside.tables.stash c.self.inside.tables.counter
    c.put_rows-put.new.index c.seal_all.new.index c.args.words.now c.args.first c.args.steps.now c.put_rows-put.new.steps c.put_rows-put.result c.self.view_is c.self.invariant c.requires.listed c.put_rows-put.ensures c.seal_all.ensures c.clear_lifted.ensures).exact

pub returns-clause-index : goal.returns-clause-index
returns-clause-index g c =
    (refilled c.args.self.now c.self.inside.params c.self.inside.tables.book c.self.inside.tables.metas c.put_rows-put.new.metas c.seal_all.new.metas c.clear_lifted.new.self c.self.inside.tables.stash c.self.inside.tables.counter
    c.put_rows-put.new.index c.seal_all.new.index c.args.words.now c.args.first c.args.steps.now c.put_rows-put.new.steps c.put_rows-put.result c.self.view_is c.self.invariant c.requires.listed c.put_rows-put.ensures c.seal_all.ensures c.clear_lifted.ensures).none ∙ sym c.requires.index

pub returns-clause-rows : goal.returns-clause-rows
returns-clause-rows g c = λ t stands just.
    judged c.judge.result _ _ _ _ (ap (λ (n : ℕ). n - c.put_rows-put.result) c.len.ensures ∙ (refilled c.args.self.now c.self.inside.params c.self.inside.tables.book c.self.inside.tables.metas c.put_rows-put.new.metas c.seal_all.new.metas c.clear_lifted.new.self
    c.self.inside.tables.stash c.self.inside.tables.counter
    c.put_rows-put.new.index c.seal_all.new.index c.args.words.now c.args.first c.args.steps.now c.put_rows-put.new.steps c.put_rows-put.result c.self.view_is c.self.invariant c.requires.listed c.put_rows-put.ensures c.seal_all.ensures c.clear_lifted.ensures).rows_left t stands just)
    (ap (λ (o : Kept). o.p.room) c.self.view_is) c.judge.ensures
