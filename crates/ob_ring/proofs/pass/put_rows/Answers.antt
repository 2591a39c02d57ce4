use Rattle.std.proofs.Common.{◌≡◌, ◌<◌, ◌+◌, ℕ, arith, refl, ap, sym, subst, ◌∙◌, length, get_or}
use Rattle.std.specs.Prelude.{None}
use Rattle.std.specs.FinMap.{get}
use Rattle.ob_ring.specs.Loops.{PutsTo}
use Rattle.ob_ring.specs.Passing.{row_keys}
use Rattle.ob_ring.specs.Settling.{Rows}
use Rattle.ob_ring.proofs.PutLaws.{room_for, turn_none, turn_stays, turn_put, turns_none}
use Rattle.ob_ring.proofs.StashWalks.{keys_many, key_is, row_is_there}
use Rattle.ob_ring.proofs.pass.put_rows.Goals as goal
use Rattle.ob_ring.proofs.pass.put_rows.Goals.{in-Some+in-Some-find_room, in-Some+in_default-find_room, in_default}

pub get-requires : goal.get-requires
get-requires g c =
    let rows : Rows = c.args.stash.now.rows in
    let key : c.row-key.result.0 ≡ get_or (row_keys rows) c.loop-i.i 0 = ap (λ r. r.0) c.row-key.ensures ∙ sym (key_is rows c.loop-i.i) in
    let under : c.row-key.result.0 < c.args.p.now.keys = c.requires.low c.row-key.result.0 (λ none. row_is_there rows c.loop-i.i (omega (arith, c.loop-i-test.true, c.len-i-end.ensures, keys_many rows)) (subst (λ (k : ℕ). get rows k ≡ None) key none)) in
    omega (arith, under, c.requires.book.many)

pub get_mut-requires : goal.get_mut-requires
get_mut-requires g c =
    (room_for c.args.p.now c.args.book.now c.args.stash.now.rows c.args.metas.now c.loop-i.metas c.loop-i.index c.loop-i.i c.args.steps.now c.loop-i.steps c.loop-i.put
    c.in-Some-find_room.bucket c.in-Some.entry.leaf c.loop-i.invariant (sym c.in-Some-find_room.is ∙ c.find_room.ensures.found) c.in-Some-find_room.ensures.within).version

pub get-requires-in-Some-find_room : goal.get-requires-in-Some-find_room
get-requires-in-Some-find_room g c =
    (room_for c.args.p.now c.args.book.now c.args.stash.now.rows c.args.metas.now c.loop-i.metas c.loop-i.index c.loop-i.i c.args.steps.now c.loop-i.steps c.loop-i.put
    c.in-Some-find_room.bucket c.in-Some.entry.leaf c.loop-i.invariant (sym c.in-Some-find_room.is ∙ c.find_room.ensures.found) c.in-Some-find_room.ensures.within).counted

pub put_key-requires : goal.put_key-requires
put_key-requires g c =
    rw (c.get-in-Some-find_room.ensures, c.get_mut.ensures.value) (room_for c.args.p.now c.args.book.now c.args.stash.now.rows c.args.metas.now c.loop-i.metas c.loop-i.index c.loop-i.i c.args.steps.now c.loop-i.steps c.loop-i.put
    c.in-Some-find_room.bucket c.in-Some.entry.leaf c.loop-i.invariant (sym c.in-Some-find_room.is ∙ c.find_room.ensures.found) c.in-Some-find_room.ensures.within).index

pub raise-requires-clause-within : goal.raise-requires-clause-within
raise-requires-clause-within g c =
    (room_for c.args.p.now c.args.book.now c.args.stash.now.rows c.args.metas.now c.loop-i.metas c.loop-i.index c.loop-i.i c.args.steps.now c.loop-i.steps c.loop-i.put
    c.in-Some-find_room.bucket c.in-Some.entry.leaf c.loop-i.invariant (sym c.in-Some-find_room.is ∙ c.find_room.ensures.found) c.in-Some-find_room.ensures.within).counted

pub raise-requires-clause-few : goal.raise-requires-clause-few
raise-requires-clause-few g c =
    (room_for c.args.p.now c.args.book.now c.args.stash.now.rows c.args.metas.now c.loop-i.metas c.loop-i.index c.loop-i.i c.args.steps.now c.loop-i.steps c.loop-i.put
    c.in-Some-find_room.bucket c.in-Some.entry.leaf c.loop-i.invariant (sym c.in-Some-find_room.is ∙ c.find_room.ensures.found) c.in-Some-find_room.ensures.within).few

pub loop-i-init : goal.loop-i-init
loop-i-init g c = turns_none c.args.p.now c.args.book.now c.args.stash.now.rows c.args.metas.now c.args.index.now c.args.steps.now c.requires.whole c.requires.index

pub loop-i-preserved : goal.loop-i-preserved
loop-i-preserved g c =
    let rows : Rows = c.args.stash.now.rows in
    let key : c.row-key.result.0 ≡ get_or (row_keys rows) c.loop-i.i 0 = ap (λ r. r.0) c.row-key.ensures ∙ sym (key_is rows c.loop-i.i) in
    let low : c.loop-i.i < length (row_keys rows) = omega (arith, c.loop-i-test.true, c.len-i-end.ensures, keys_many rows) in
    elim c.match-get.branch [
      | in-Some+in-Some-find_room w ↦ rw (w.metas-is, w.index-is, w.steps-is, w.put-is, w.put_key.ensures, w.raise.ensures, w.get-in-Some-find_room.ensures, w.get_mut.ensures.value)
          (turn_put c.args.p.now c.args.book.now rows c.args.metas.now c.loop-i.metas c.loop-i.index c.loop-i.i c.args.steps.now c.loop-i.steps c.loop-i.put c.row-key.result.0 c.loop-i.invariant c.requires.low low key
          w.in-Some.entry w.in-Some-find_room.bucket w.find_room.new.steps (c.loop-i.put + 1)
          (sym c.get.ensures ∙ w.in-Some.is) (sym w.in-Some-find_room.is ∙ w.find_room.ensures.found) w.in-Some-find_room.ensures.within w.find_room.ensures.cost refl)
      | in-Some+in_default-find_room w ↦ rw (w.metas-is, w.index-is, w.steps-is, w.put-is)
          (turn_stays c.args.p.now c.args.book.now rows c.args.metas.now c.loop-i.metas c.loop-i.index c.loop-i.i c.args.steps.now c.loop-i.steps c.loop-i.put c.row-key.result.0 c.loop-i.invariant c.requires.low low key
          w.in-Some.entry w.find_room.new.steps (sym c.get.ensures ∙ w.in-Some.is) (sym w.in_default-find_room.is ∙ w.find_room.ensures.found) w.find_room.ensures.cost)
      | in_default w ↦ rw (w.metas-is, w.index-is, w.steps-is, w.put-is)
          (turn_none c.args.p.now c.args.book.now rows c.args.metas.now c.loop-i.metas c.loop-i.index c.loop-i.i c.args.steps.now c.loop-i.steps c.loop-i.put c.row-key.result.0 c.loop-i.invariant c.requires.low low key
          (sym c.get.ensures ∙ w.in_default.is))
    ]

pub returns : goal.returns
returns g c =
    subst (λ (n : ℕ). PutsTo c.args.p.now c.args.book.now c.args.stash.now.rows c.args.metas.now c.loop-i.metas c.loop-i.index n c.args.steps.now c.loop-i.steps c.loop-i.put)
    (omega (arith, c.loop-i-test.false, c.loop-i.auto.i-end, c.len-i-end.ensures)) c.loop-i.invariant
