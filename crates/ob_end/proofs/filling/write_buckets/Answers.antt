use Rattle.std.proofs.Common.{◌≡◌, ◌<◌, ◌≤◌, ◌+◌, ◌*◌, ◌%◌, ◌∙◌, ℕ, List, [], ap, arith, get_or, length, refl, slice_index, subst, sym}
use Rattle.std.specs.Prelude.{slice_index_or}
use Rattle.std.proofs.lemmas.Option.{slice_get-get_or, get_or_from_slice_get}
use Rattle.ob_seal.specs.declared.keys.Keys.{Keys}
use Rattle.ob_end.specs.Sealing.{IsBucketSealed, IsGroupReady}
use Rattle.ob_end.proofs.Products.{between}
use Rattle.std.proofs.Math.Nat.{mul-le-mul_right}
use Rattle.std.proofs.lemmas.List.{take_all}
use Rattle.std.proofs.lemmas.Result.{IfOk-from_err}
use Rattle.ob_base.specs.Layout.{slot_cell}
use Rattle.ob_base.specs.Tree.{buckets, width}
use Rattle.ob_tables.specs.Buckets.{version_at}
use Rattle.ob_recover.specs.Ends.{refill_notes}
use Rattle.ob_store.specs.Runs.{write_notes}
use Rattle.ob_store.specs.Calls.{IsFailed}
use Rattle.ob_store.specs.Told.{Tells}
use Rattle.ob_store.proofs.Doing.{does_all, does_refused, tells_none}
use Rattle.ob_store.proofs.Keeping.{serves_failed}
use Rattle.ob_store.proofs.Serving.{serves_ok, serves_then}
use Rattle.ob_end.specs.EndWrites.{bucket_seals, listed_at}
use Rattle.ob_end.proofs.FillsAll.{fill_all, fill_one, fill_refused, filling_none, first_more, moments_more, seals_all, seals_refused}
use Rattle.ob_end.proofs.Parts.{told_cut, told_next}
use Rattle.ob_end.proofs.filling.write_buckets.Goals as goal

pub loop-i-init : goal.loop-i-init
loop-i-init g c = record {
  filling = filling_none c.args.ring.now c.args.sealer.now (g.S.Store.disk c.args.store.now) c.requires.none_out;
  told = tells_none (g.S.Store.disk c.args.store.now).seen (g.W.Watch.trace c.args.watch.now);
  ready = λ k ne. absurd (omega (arith, ne));
}

pub returns-in_err-write_bucket-clause-fills : goal.returns-in_err-write_bucket-clause-fills
returns-in_err-write_bucket-clause-fills g c =
    let r = c.args.ring.now in
    let low : c.loop-i.i < length r.metas.order = subst (λ (us : List ℕ). c.loop-i.i < length us) c.to_refill-i-end.ensures c.loop-i-test.true in
    let at = ap (λ (us : List ℕ). slice_index us c.loop-i.i) c.to_refill.ensures in
    fill_refused r c.loop-i.i (slice_index c.to_refill.result.now c.loop-i.i) c.args.sealer.now c.loop-i.sealer c.write_bucket.new.sealer
    (g.S.Store.disk c.args.store.now) (g.S.Store.disk c.loop-i.store) (g.S.Store.disk c.write_bucket.new.store) low at c.loop-i.invariant.filling
    c.write_bucket.result c.write_bucket.ensures.run c.from_residual.result c.from_residual.ensures.0

pub returns-in_err-write_bucket-clause-does : goal.returns-in_err-write_bucket-clause-does
returns-in_err-write_bucket-clause-does g c =
    let r = c.args.ring.now in
    let low : c.loop-i.i < length r.metas.order = subst (λ (us : List ℕ). c.loop-i.i < length us) c.to_refill-i-end.ensures c.loop-i-test.true in
    let at = ap (λ (us : List ℕ). slice_index us c.loop-i.i) c.to_refill.ensures in
    does_refused _ _ _ _ (refill_notes r.p r.metas.versions r.metas.order) c.from_residual.result c.from_residual.ensures.0
    (told_cut (λ u. write_notes (slot_cell r.p (version_at r.metas.versions u).home u 0) (width r.p)) r.metas.order c.loop-i.i (slice_index c.to_refill.result.now c.loop-i.i) low at
    _ _ _ _ _ _ c.loop-i.invariant.told c.in_err-write_bucket.ensures.does.first)

pub returns-in_err-write_bucket-clause-first : goal.returns-in_err-write_bucket-clause-first
returns-in_err-write_bucket-clause-first g c =
    let r = c.args.ring.now in
    let low : c.loop-i.i < length r.metas.order = subst (λ (us : List ℕ). c.loop-i.i < length us) c.to_refill-i-end.ensures c.loop-i-test.true in
    let at = ap (λ (us : List ℕ). slice_index us c.loop-i.i) c.to_refill.ensures in
    first_more r c.loop-i.i (slice_index c.to_refill.result.now c.loop-i.i) c.args.sealer.now c.loop-i.sealer c.write_bucket.new.sealer
    (g.S.Store.disk c.args.store.now) (g.S.Store.disk c.loop-i.store) (g.S.Store.disk c.write_bucket.new.store) low at c.loop-i.invariant.filling
    c.write_bucket.result c.write_bucket.ensures.run

pub returns-in_err-write_bucket-clause-moments : goal.returns-in_err-write_bucket-clause-moments
returns-in_err-write_bucket-clause-moments g c =
    let r = c.args.ring.now in
    let low : c.loop-i.i < length r.metas.order = subst (λ (us : List ℕ). c.loop-i.i < length us) c.to_refill-i-end.ensures c.loop-i-test.true in
    let at = ap (λ (us : List ℕ). slice_index us c.loop-i.i) c.to_refill.ensures in
    moments_more r c.loop-i.i (slice_index c.to_refill.result.now c.loop-i.i) c.args.sealer.now c.loop-i.sealer c.write_bucket.new.sealer
    (g.S.Store.disk c.args.store.now) (g.S.Store.disk c.loop-i.store) (g.S.Store.disk c.write_bucket.new.store) low at c.loop-i.invariant.filling
    c.write_bucket.result c.write_bucket.ensures.run

pub loop-i-preserved : goal.loop-i-preserved
loop-i-preserved g c =
    let r = c.args.ring.now in
    let low : c.loop-i.i < length r.metas.order = subst (λ (us : List ℕ). c.loop-i.i < length us) c.to_refill-i-end.ensures c.loop-i-test.true in
    let at = ap (λ (us : List ℕ). slice_index us c.loop-i.i) c.to_refill.ensures in
    let e = c.in_ok-write_bucket.ensures in
    record {
      filling = fill_one r c.loop-i.i (slice_index c.to_refill.result.now c.loop-i.i) c.args.sealer.now c.loop-i.sealer c.write_bucket.new.sealer
          (g.S.Store.disk c.args.store.now) (g.S.Store.disk c.loop-i.store) (g.S.Store.disk c.write_bucket.new.store) low at c.loop-i.invariant.filling
          _ e.run c.requires.sealed c.requires.room e.serves;
      told = told_next (λ u. write_notes (slot_cell r.p (version_at r.metas.versions u).home u 0) (width r.p)) r.metas.order c.loop-i.i (slice_index c.to_refill.result.now c.loop-i.i) low at
          _ _ _ _ _ _ c.loop-i.invariant.told e.does.all;
      ready = λ k ne le lt same.
          subst (λ (x : Keys). IsBucketSealed x c.args.sealer.now.generation (c.args.sealer.now.next + k * width r.p) r (listed_at r k) (slice_index_or c.make_ready.new.bench.rows.items (k % 32) [])) c.loop-i.invariant.filling.keys
          (subst (λ (x : ℕ). IsBucketSealed c.loop-i.sealer.keys x (c.args.sealer.now.next + k * width r.p) r (listed_at r k) (slice_index_or c.make_ready.new.bench.rows.items (k % 32) [])) c.loop-i.invariant.filling.generation
          (c.make_ready.ensures c.args.sealer.now.next c.loop-i.invariant.filling.next k (omega arith) lt (omega (arith, ne, same))));
    }

pub returns-clause-fills : goal.returns-clause-fills
returns-clause-fills g c =
    let r = c.args.ring.now in
    let many : length c.to_refill-i-end.result.now ≡ length r.metas.order = ap (λ (us : List ℕ). length us) c.to_refill-i-end.ensures in
    let whole : c.loop-i.i ≡ length r.metas.order = omega (arith, c.loop-i-test.false, c.loop-i.auto.i-end, many) in
    fill_all r c.loop-i.i c.args.sealer.now c.loop-i.sealer (g.S.Store.disk c.args.store.now) (g.S.Store.disk c.loop-i.store) whole c.loop-i.invariant.filling

-- ---- one bucket more may be written

pub write_bucket-requires-clause-none_out : goal.write_bucket-requires-clause-none_out
write_bucket-requires-clause-none_out g c = c.loop-i.invariant.filling.out

pub write_bucket-requires-clause-bucket : goal.write_bucket-requires-clause-bucket
write_bucket-requires-clause-bucket g c =
    let r = c.args.ring.now in
    let low : c.loop-i.i < length r.metas.order = subst (λ (us : List ℕ). c.loop-i.i < length us) c.to_refill-i-end.ensures c.loop-i-test.true in
    subst (λ u. u < buckets r.p) (sym (ap (λ (us : List ℕ). slice_index us c.loop-i.i) c.to_refill.ensures)) (c.requires.within c.loop-i.i low)

pub write_bucket-requires-clause-room : goal.write_bucket-requires-clause-room
write_bucket-requires-clause-room g c =
    let r = c.args.ring.now in
    let low : c.loop-i.i < length r.metas.order = subst (λ (us : List ℕ). c.loop-i.i < length us) c.to_refill-i-end.ensures c.loop-i-test.true in
    let part : (c.loop-i.i + 1) * width r.p ≤ bucket_seals r = mul-le-mul_right (width r.p) (omega (arith, low)) in
    omega (arith, c.loop-i.invariant.filling.next, part, c.requires.room)

-- ---- what each of them says of the store and of the seals

pub returns-in_err-write_bucket-clause-serves : goal.returns-in_err-write_bucket-clause-serves
returns-in_err-write_bucket-clause-serves g c =
    let so_far = c.loop-i.invariant.filling in
    serves_then IsFailed (g.S.Store.disk c.args.store.now) (g.S.Store.disk c.loop-i.store) (g.S.Store.disk c.write_bucket.new.store) c.from_residual.result so_far.goes (let none = so_far.out in omega arith) so_far.tells
    (serves_failed _ _ _ c.from_residual.result c.from_residual.ensures.0 c.in_err-write_bucket.ensures.serves)

pub returns-in_err-write_bucket-clause-seals : goal.returns-in_err-write_bucket-clause-seals
returns-in_err-write_bucket-clause-seals g c =
    let r = c.args.ring.now in
    let low : c.loop-i.i < length r.metas.order = subst (λ (us : List ℕ). c.loop-i.i < length us) c.to_refill-i-end.ensures c.loop-i-test.true in
    let at = ap (λ (us : List ℕ). slice_index us c.loop-i.i) c.to_refill.ensures in
    seals_refused r c.loop-i.i (slice_index c.to_refill.result.now c.loop-i.i) c.args.sealer.now c.loop-i.sealer c.write_bucket.new.sealer
    (g.S.Store.disk c.args.store.now) (g.S.Store.disk c.loop-i.store) (g.S.Store.disk c.write_bucket.new.store) low at c.loop-i.invariant.filling
    c.write_bucket.result c.write_bucket.ensures.run c.from_residual.result c.from_residual.ensures.0

pub returns-in_err-write_bucket-clause-sealed : goal.returns-in_err-write_bucket-clause-sealed
returns-in_err-write_bucket-clause-sealed g c = λ tells. IfOk-from_err c.from_residual.result _ c.from_residual.ensures.0

pub returns-clause-serves : goal.returns-clause-serves
returns-clause-serves g c =
    let so_far = c.loop-i.invariant.filling in
    serves_ok IsFailed _ _ tt so_far.goes (let none = so_far.out in omega arith) so_far.tells

pub returns-clause-seals : goal.returns-clause-seals
returns-clause-seals g c =
    let r = c.args.ring.now in
    let many : length c.to_refill-i-end.result.now ≡ length r.metas.order = ap (λ (us : List ℕ). length us) c.to_refill-i-end.ensures in
    let whole : c.loop-i.i ≡ length r.metas.order = omega (arith, c.loop-i-test.false, c.loop-i.auto.i-end, many) in
    seals_all r c.loop-i.i c.args.sealer.now c.loop-i.sealer (g.S.Store.disk c.args.store.now) (g.S.Store.disk c.loop-i.store) whole c.loop-i.invariant.filling

pub returns-clause-first : goal.returns-clause-first
returns-clause-first g c = c.loop-i.invariant.filling.first

pub returns-clause-moments : goal.returns-clause-moments
returns-clause-moments g c = c.loop-i.invariant.filling.moments

pub returns-clause-sealed : goal.returns-clause-sealed
returns-clause-sealed g c = c.loop-i.invariant.filling.sealed

pub returns-clause-does : goal.returns-clause-does
returns-clause-does g c =
    let r = c.args.ring.now in
    let many : length c.to_refill-i-end.result.now ≡ length r.metas.order = ap (λ (us : List ℕ). length us) c.to_refill-i-end.ensures in
    let all : length r.metas.order ≤ c.loop-i.i = omega (arith, c.loop-i-test.false, many) in
    does_all _ _ _ _ (refill_notes r.p r.metas.versions r.metas.order) tt
    (subst (λ (us : List ℕ). Tells (refill_notes r.p r.metas.versions us) (refill_notes r.p r.metas.versions us) (g.S.Store.disk c.args.store.now).seen (g.S.Store.disk c.loop-i.store).seen (g.W.Watch.trace c.args.watch.now) (g.W.Watch.trace c.loop-i.watch))
    (take_all c.loop-i.i r.metas.order all) c.loop-i.invariant.told)

pub make_ready-requires-clause-room : goal.make_ready-requires-clause-room
make_ready-requires-clause-room g c κs inside =
    let r = c.args.ring.now in
    let n = length r.metas.order in
    let parts = between c.loop-i.i n (width r.p) (omega (arith, c.loop-i.auto.i-end, ap (λ (us : List ℕ). length us) c.to_refill-i-end.ensures)) in
    omega (arith, c.loop-i.invariant.filling.next, parts, c.requires.room)

pub make_ready-requires-clause-ready : goal.make_ready-requires-clause-ready
make_ready-requires-clause-ready g c κs inside = λ first e.
    let r = c.args.ring.now in
    let before = c.args.sealer.now in
    let is : before.next ≡ first = (let then = c.loop-i.invariant.filling.next in omega (arith, e, then)) in
    subst (λ (x : Keys). IsGroupReady x c.loop-i.sealer.generation first r c.loop-i.i c.loop-i.bench.rows.items) (sym c.loop-i.invariant.filling.keys)
    (subst (λ (x : ℕ). IsGroupReady before.keys x first r c.loop-i.i c.loop-i.bench.rows.items) (sym c.loop-i.invariant.filling.generation)
    (subst (λ (x : ℕ). IsGroupReady before.keys before.generation x r c.loop-i.i c.loop-i.bench.rows.items) is c.loop-i.invariant.ready))

pub write_bucket-requires-clause-sealed : goal.write_bucket-requires-clause-sealed
write_bucket-requires-clause-sealed g c =
    let r = c.args.ring.now in
    let i = c.loop-i.i in
    let was = c.loop-i.sealer in
    let before = c.args.sealer.now in
    let e : was.next ≡ before.next + i * width r.p = c.loop-i.invariant.filling.next in
    let rows = c.make_ready.new.bench.rows.items in
    let at = i % 32 in
    let slots = c.index.result.now in
    let low : i < length r.metas.order = subst (λ (us : List ℕ). i < length us) c.to_refill-i-end.ensures c.loop-i-test.true in
    let within : at < length rows = (let whole = c.make_ready.new.bench.whole in omega arith) in
    let is : get_or rows at [] ≡ slots = get_or_from_slice_get rows at (get_or rows at slots) [] (slice_get-get_or rows at slots within) ∙ sym c.index.ensures in
    let bucket : get_or c.to_refill.result.now i 0 ≡ listed_at r i = ap (λ (us : List ℕ). slice_index us i) c.to_refill.ensures in
    subst (λ (u : ℕ). IsBucketSealed was.keys was.generation was.next r u slots) (sym bucket)
    (subst (λ (b : List (List ℕ)). IsBucketSealed was.keys was.generation was.next r (listed_at r i) b) is
    (subst (λ (n : ℕ). IsBucketSealed was.keys was.generation n r (listed_at r i) (slice_index_or rows at [])) (sym e)
    (c.make_ready.ensures before.next e i (omega arith) low refl)))
