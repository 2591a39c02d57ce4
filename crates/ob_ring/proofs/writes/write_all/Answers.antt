use Rattle.std.proofs.Common.{ℕ, List, [], ◌∷◌, ◌++◌, arith, ◌∙◌, sym, subst, length}
use Rattle.std.specs.Prelude.{◌≡◌, ◌+◌, None}
use Rattle.std.proofs.lemmas.List.{get_or_default}
use Rattle.std.proofs.lemmas.List.FromFn.{map-range_with_len_more}
use Rattle.ob_base.specs.declared.value.Write.{Write}
use Rattle.ob_tables.specs.declared.entry.Entry.{Entry}
use Rattle.ob_ring.specs.Fetching.{own_entry}
use Rattle.ob_ring.specs.Writing.{Writes, write_at, writes_of}
use Rattle.ob_ring.proofs.WriteLaws.{writes_then}
use Rattle.ob_ring.proofs.writes.write_all.Goals as goal

pub loop-i-preserved : goal.loop-i-preserved
loop-i-preserved c =
    let more : writes_of c.args.p.now c.args.writes.now c.args.words.now c.args.first (c.loop-i.i + 1) ≡ writes_of c.args.p.now c.args.writes.now c.args.words.now c.args.first c.loop-i.i ++
    (write_at c.args.writes.now c.loop-i.i, own_entry c.args.p.now c.args.words.now c.args.first c.loop-i.i) ∷ [] =
    map-range_with_len_more (λ i. (write_at c.args.writes.now i, own_entry c.args.p.now c.args.words.now c.args.first i)) 0 c.loop-i.i c.loop-i.i (omega arith) in
    let at : c.index-writes-i.result ≡ write_at c.args.writes.now c.loop-i.i = c.index-writes-i.is ∙ get_or_default c.args.writes.now c.loop-i.i c.index-writes-i.result (record { key = 0; value = None }) c.loop-i-test.true in (
      c.write_one.ensures.low,
      c.write_one.ensures.room ∙ c.loop-i.invariant.1,
      subst (λ (xs : List (Write × Entry)). Writes c.args.p.now c.args.book.now c.write_one.new.book c.args.metas.now c.write_one.new.metas c.args.stash.now.rows c.write_one.new.stash.rows xs) (sym more)
          (writes_then c.args.p.now c.args.book.now c.loop-i.book c.write_one.new.book c.args.metas.now c.loop-i.metas c.write_one.new.metas c.args.stash.now.rows c.loop-i.stash.rows c.write_one.new.stash.rows
          (writes_of c.args.p.now c.args.writes.now c.args.words.now c.args.first c.loop-i.i) ((write_at c.args.writes.now c.loop-i.i, own_entry c.args.p.now c.args.words.now c.args.first c.loop-i.i) ∷ []) c.loop-i.invariant.2
          (subst (λ (x : Write × Entry). Writes c.args.p.now c.loop-i.book c.write_one.new.book c.loop-i.metas c.write_one.new.metas c.loop-i.stash.rows c.write_one.new.stash.rows (x ∷ [])) (λ i. (at i, c.own_entry-own.ensures.entry i)) c.write_one.ensures.writes)),
    )

pub returns-clause-writes : goal.returns-clause-writes
returns-clause-writes c =
    let end' : c.loop-i.i ≡ length c.args.writes.now = omega arith in
    subst (λ (n : ℕ). Writes c.args.p.now c.args.book.now c.loop-i.book c.args.metas.now c.loop-i.metas c.args.stash.now.rows c.loop-i.stash.rows (writes_of c.args.p.now c.args.writes.now c.args.words.now c.args.first n)) end' c.loop-i.invariant.2
