use Rattle.std.proofs.Common.{ℕ, List, [], ◌∷◌, ◌++◌, arith, ◌∙◌, sym, ap, subst, length}
use Rattle.std.specs.Prelude.{◌≡◌, ◌<◌, ◌+◌, ◌*◌, Option, None, slice_index_or}
use Rattle.std.proofs.lemmas.List.FromFn.{map-range_with_len_more}
use Rattle.ob_base.specs.Planned.{Planned, most_jobs}
use Rattle.ob_tables.specs.declared.entry.Entry.{Entry}
use Rattle.ob_ring.specs.Fetching.{Fetches, own_entry, places_of}
use Rattle.ob_ring.proofs.Rooms.{batch_room, grows_by_then}
use Rattle.ob_ring.proofs.PathLaws.{product_more}
use Rattle.ob_ring.proofs.FetchLaws.{fetches_then}
use Rattle.ob_ring.proofs.batch.plan_places.Goals as goal

pub plan_place-requires-clause-room : goal.plan_place-requires-clause-room
plan_place-requires-clause-room c =
    let room : c.loop-i.jobs.room ≡ most_jobs c.args.p.now = c.loop-i.invariant.0.room ∙ ap (λ (s : Planned). s.room) c.requires.jobs in
    let none : length c.args.jobs.now.jobs ≡ 0 = ap (λ (s : Planned). length s.jobs) c.requires.jobs in
    let low : c.loop-i.i < c.args.p.now.places = omega (arith, c.loop-i-test.true, c.requires.asks) in
    omega (arith, c.loop-i.invariant.0.few, batch_room c.args.p.now c.loop-i.i low)

pub loop-i-preserved : goal.loop-i-preserved
loop-i-preserved c =
    let more : places_of c.args.p.now c.args.asks.now c.args.words.now c.args.first (c.loop-i.i + 1) ≡ places_of c.args.p.now c.args.asks.now c.args.words.now c.args.first c.loop-i.i ++
    (slice_index_or c.args.asks.now c.loop-i.i None, own_entry c.args.p.now c.args.words.now c.args.first c.loop-i.i) ∷ [] =
    map-range_with_len_more (λ i. (slice_index_or c.args.asks.now i None, own_entry c.args.p.now c.args.words.now c.args.first i)) 0 c.loop-i.i c.loop-i.i (omega arith) in (
      grows_by_then (c.loop-i.i * ((c.args.p.now.levels + 1) * (c.args.p.now.real + 1))) c.loop-i.i ((c.args.p.now.levels + 1) * (c.args.p.now.real + 1)) ((c.loop-i.i + 1) * ((c.args.p.now.levels + 1) * (c.args.p.now.real + 1))) c.args.jobs.now c.loop-i.jobs c.plan_place.new.jobs
          (sym (product_more c.loop-i.i ((c.args.p.now.levels + 1) * (c.args.p.now.real + 1)))) c.loop-i.invariant.0 c.plan_place.ensures.grows,
      subst (λ (xs : List (Option ℕ × Entry)). Fetches c.args.p.now c.args.book.now c.plan_place.new.book c.args.metas.now c.plan_place.new.metas c.args.jobs.now c.plan_place.new.jobs xs) (sym more)
          (fetches_then c.args.p.now c.args.book.now c.loop-i.book c.plan_place.new.book c.args.metas.now c.loop-i.metas c.plan_place.new.metas c.args.jobs.now c.loop-i.jobs c.plan_place.new.jobs
          (places_of c.args.p.now c.args.asks.now c.args.words.now c.args.first c.loop-i.i) ((slice_index_or c.args.asks.now c.loop-i.i None, own_entry c.args.p.now c.args.words.now c.args.first c.loop-i.i) ∷ []) c.loop-i.invariant.1
          (subst (λ (e : Entry). Fetches c.args.p.now c.loop-i.book c.plan_place.new.book c.loop-i.metas c.plan_place.new.metas c.loop-i.jobs c.plan_place.new.jobs ((slice_index_or c.args.asks.now c.loop-i.i None, e) ∷ [])) c.own_entry-own.ensures.entry c.plan_place.ensures.plans)),
    )

pub returns-clause-plans : goal.returns-clause-plans
returns-clause-plans c =
    let end' : c.loop-i.i ≡ length c.args.asks.now = omega arith in
    subst (λ (n : ℕ). Fetches c.args.p.now c.args.book.now c.loop-i.book c.args.metas.now c.loop-i.metas c.args.jobs.now c.loop-i.jobs (places_of c.args.p.now c.args.asks.now c.args.words.now c.args.first n)) end' c.loop-i.invariant.1
