use Rattle.std.proofs.Common.{◌≡◌, ap, arith, ◌∙◌}
use Rattle.std.specs.Int.{w32}
use Rattle.ob_base.specs.LittleEndian.{field_at}
use Rattle.ob_check.specs.Fields.{count_in}
use Rattle.ob_check.proofs.ContentReads.{kept_of}
use Rattle.ob_check.proofs.BuildLaws.{none_read, room_left, row_more, all_rows}
use Rattle.ob_check.proofs.building.read_stash.Goals as goal

pub loop-i-init : goal.loop-i-init
loop-i-init c = none_read c.args.p.now c.args.bytes.now c.args.stash.now c.requires.none

pub row_place-requires : goal.row_place-requires
row_place-requires c =
    let kept = kept_of c.args.p.now c.args.bytes.now c.requires.kept in
    let end : c.u32_at-i-end.result ≡ count_in c.args.p.now c.args.bytes.now = c.u32_at-i-end.ensures ∙ ap (field_at w32 c.args.bytes.now) c.count_place.ensures.place in
    let few = kept.room in
    record { i = omega (arith, c.loop-i-test.true) }

pub value_in-requires-clause-short : goal.value_in-requires-clause-short
value_in-requires-clause-short c =
    let kept = kept_of c.args.p.now c.args.bytes.now c.requires.kept in
    let end : c.u32_at-i-end.result ≡ count_in c.args.p.now c.args.bytes.now = c.u32_at-i-end.ensures ∙ ap (field_at w32 c.args.bytes.now) c.count_place.ensures.place in
    let many = kept.count in
    kept.row_lens c.loop-i.i (omega (arith, c.loop-i-test.true))

pub put-requires : goal.put-requires
put-requires c = λ none.
    let kept = kept_of c.args.p.now c.args.bytes.now c.requires.kept in
    let end : c.u32_at-i-end.result ≡ count_in c.args.p.now c.args.bytes.now = c.u32_at-i-end.ensures ∙ ap (field_at w32 c.args.bytes.now) c.count_place.ensures.place in
    room_left c.args.p.now c.args.bytes.now kept c.loop-i.i c.loop-i.stash c.args.stash.now (omega (arith, c.loop-i-test.true)) c.loop-i.invariant c.requires.room

pub loop-i-preserved : goal.loop-i-preserved
loop-i-preserved c =
    let kept = kept_of c.args.p.now c.args.bytes.now c.requires.kept in
    let end : c.u32_at-i-end.result ≡ count_in c.args.p.now c.args.bytes.now = c.u32_at-i-end.ensures ∙ ap (field_at w32 c.args.bytes.now) c.count_place.ensures.place in
    row_more c.args.p.now c.args.bytes.now kept c.loop-i.i c.u32_at.result c.value_in.result c.loop-i.stash c.put.new.self c.args.stash.now (omega (arith, c.loop-i-test.true))
    (c.u32_at.ensures ∙ ap (field_at w32 c.args.bytes.now) c.row_place.ensures.place) c.value_in.ensures c.loop-i.invariant c.put.ensures

pub returns : goal.returns
returns c =
    let end : c.u32_at-i-end.result ≡ count_in c.args.p.now c.args.bytes.now = c.u32_at-i-end.ensures ∙ ap (field_at w32 c.args.bytes.now) c.count_place.ensures.place in
    c.loop-i.invariant ∙ all_rows c.args.p.now c.args.bytes.now c.args.stash.now c.loop-i.i (let e : c.loop-i.i ≡ count_in c.args.p.now c.args.bytes.now = omega arith in e)
