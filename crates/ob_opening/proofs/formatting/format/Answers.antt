use Rattle.std.proofs.Common.{[], ap, sym, subst, ◌∙◌, ◌≡◌, ◌⊎◌, inl, inr, None, Ok, Err, refl, arith}
use mathlib.Core.Path.{fun_ext}
use Rattle.ob_base.specs.declared.fault.Failed.{Failed}
use Rattle.ob_base.specs.declared.fault.Fault.TheVariants.{Memory, StoreFault}
use Rattle.ob_store.specs.Disk.{Image}
use Rattle.ob_store.proofs.Doing.{does_all, does_err, first_all, first_more, tells_none}
use Rattle.ob_seal.specs.Sealing.{Sealing}
use Rattle.ob_schedule.specs.Schedule.{format_notes}
use Rattle.ob_stand.specs.Stands.{Stands}
use Rattle.ob_opening.specs.Formats.{formatted_standing, BeginsFirst, FormatsInClear, IsRingLaid, RingFormatLeaves}
use Rattle.ob_opening.proofs.FirstLives.{first_stands}
use Rattle.ob_opening.proofs.PadLaws.{formatted_store}
use Rattle.ob_store.specs.Calls.{IsFailed, IsStoreFault}
use Rattle.ob_store.specs.Images.{LeavesOnly}
use Rattle.ob_store.proofs.Moments.{started}
use Rattle.ob_store.proofs.Serving.{goes_same, serves_err, serves_ok}
use Rattle.ob_opening.proofs.formatting.format.Goals as goal

pub returns-in-Err-clause-does : goal.returns-in-Err-clause-does
returns-in-Err-clause-does g c =
    let seen = (g.S.Store.disk c.args.store.now).seen in
    let trace = g.W.Watch.trace c.args.watch.now in
    does_err seen seen trace trace (format_notes c.args.p.now) Memory (first_more seen seen trace trace [] (format_notes c.args.p.now) (first_all seen seen trace trace [] (tells_none seen trace)))

pub returns-in-Ok-lay-clause-images : goal.returns-in-Ok-lay-clause-images
returns-in-Ok-lay-clause-images g c = λ tells image left.
    let p = c.args.p.now in
    let cells = (g.S.Store.disk c.lay.new.store).cells in
    let standing = formatted_standing p (g.T.Tape.drawn c.lay.new.tape) in
    subst (λ (i : Image). Stands c.args.keys.now p standing i) (sym (fun_ext (λ k. c.in-Ok-lay.ensures.durable tells image left k)))
    (subst (λ (s : Sealing). Stands s.keys p standing cells) c.new-sealer.ensures (c.in-Ok-lay.ensures.stands tells))

pub returns-in-Ok-lay-clause-life : goal.returns-in-Ok-lay-clause-life
returns-in-Ok-lay-clause-life g c = λ tells word_of slot image are left.
    let p = c.args.p.now in
    let drawn = g.T.Tape.drawn c.lay.new.tape in
    let cells = (g.S.Store.disk c.lay.new.store).cells in
    let standing = formatted_standing p drawn in
    first_stands c.args.keys.now p word_of slot drawn image are (subst (λ (i : Image). Stands c.args.keys.now p standing i) (sym (fun_ext (λ k. c.in-Ok-lay.ensures.durable tells image left k)))
    (subst (λ (s : Sealing). Stands s.keys p standing cells) c.new-sealer.ensures (c.in-Ok-lay.ensures.stands tells)))

pub returns-in-Ok-lay-clause-act : goal.returns-in-Ok-lay-clause-act
returns-in-Ok-lay-clause-act g c = λ tells leaves.
    let serves = c.in-Ok-lay.ensures.serves in
    formatted_store g.S.Store.disk c.args.keys.now c.args.p.now (g.T.Tape.drawn c.lay.new.tape) c.lay.new.store (serves.tells tells) (serves.goes.leaves.0 leaves) (returns-in-Ok-lay-clause-images g c tells)

pub returns-in-Err-clause-serves : goal.returns-in-Err-clause-serves
returns-in-Err-clause-serves g c = record { goes = goes_same (g.S.Store.disk c.args.store.now); out = omega arith; tells = tt; cause = λ blamed. absurd blamed }

pub returns-in-Err-clause-crash : goal.returns-in-Err-clause-crash
returns-in-Err-clause-crash g c = λ tells. started (g.S.Store.disk c.args.store.now) _ (λ image left. inl (image, inl (g.met.S.Store.only_now c.args.store.now image left), λ k apart. refl))
    (λ read. inl ((g.S.Store.disk c.args.store.now).cells, inr (read, refl), λ k apart. refl))

pub returns-in-Err-clause-durable_first : goal.returns-in-Err-clause-durable_first
returns-in-Err-clause-durable_first g c = inl refl

pub returns-in-Ok-lay-clause-serves : goal.returns-in-Ok-lay-clause-serves
returns-in-Ok-lay-clause-serves g c =
    let serves = c.lay.ensures.serves in
    serves_ok IsStoreFault _ _ tt serves.goes serves.out c.in-Ok-lay.ensures.serves.tells

pub returns-in-Ok-lay-clause-stands : goal.returns-in-Ok-lay-clause-stands
returns-in-Ok-lay-clause-stands g c =
    let p = c.args.p.now in
    λ tells. subst (λ (s : Sealing). Stands s.keys p (formatted_standing p (g.T.Tape.drawn c.lay.new.tape)) (g.S.Store.disk c.lay.new.store).cells) c.new-sealer.ensures (c.in-Ok-lay.ensures.stands tells)

pub returns-in-Ok-lay-clause-laid : goal.returns-in-Ok-lay-clause-laid
returns-in-Ok-lay-clause-laid g c = λ tells. subst (λ (s : Sealing). IsRingLaid s.keys c.args.p.now (g.T.Tape.drawn c.lay.new.tape) (g.S.Store.disk c.lay.new.store).cells) c.new-sealer.ensures (c.in-Ok-lay.ensures.laid tells)

pub returns-in-Ok-lay-clause-closed : goal.returns-in-Ok-lay-clause-closed
returns-in-Ok-lay-clause-closed g c = λ tells. (returns-in-Ok-lay-clause-laid g c tells).closed

pub returns-in-Ok-lay-clause-durable_first : goal.returns-in-Ok-lay-clause-durable_first
returns-in-Ok-lay-clause-durable_first g c = subst (λ (s : Sealing). BeginsFirst g.S.Store.disk s.keys c.args.p.now c.args.store.now c.lay.new.store) c.new-sealer.ensures c.in-Ok-lay.ensures.begins

pub returns-in-Ok-lay-clause-crash : goal.returns-in-Ok-lay-clause-crash
returns-in-Ok-lay-clause-crash g c = λ tells. subst (λ (s : Sealing). LeavesOnly (g.S.Store.disk c.args.store.now) (g.S.Store.disk c.lay.new.store) (RingFormatLeaves s.keys c.args.p.now (g.T.Tape.drawn c.lay.new.tape) (g.S.Store.disk c.args.store.now)))
    c.new-sealer.ensures (c.lay.ensures.crash tells)

pub returns-clause-crash : goal.returns-clause-crash
returns-clause-crash g c = λ tells. subst (λ (s : Sealing). LeavesOnly (g.S.Store.disk c.args.store.now) (g.S.Store.disk c.lay.new.store) (RingFormatLeaves s.keys c.args.p.now (g.T.Tape.drawn c.lay.new.tape) (g.S.Store.disk c.args.store.now))) c.new-sealer.ensures (c.lay.ensures.crash tells)

pub returns-clause-serves : goal.returns-clause-serves
returns-clause-serves g c = serves_err IsFailed IsStoreFault _ _ c.in-Err-lay.field-0 (StoreFault None) (λ f. tt) c.in-Err-lay.ensures.serves

pub returns-clause-durable_first : goal.returns-clause-durable_first
returns-clause-durable_first g c = subst (λ (s : Sealing). (c.lay.new.tape ≡ c.args.tape.now) ⊎ BeginsFirst g.S.Store.disk s.keys c.args.p.now c.args.store.now c.lay.new.store) c.new-sealer.ensures c.in-Err-lay.ensures.begins_err

pub returns-clause-does : goal.returns-clause-does
returns-clause-does g c = does_err _ _ _ _ (format_notes c.args.p.now) (StoreFault None) c.in-Err-lay.ensures.does.first

pub returns-in-Err-clause-memory : goal.returns-in-Err-clause-memory
returns-in-Err-clause-memory g c = λ same. (refl, refl, refl)

-- ---- all may be laid

pub lay-requires-clause-none_out : goal.lay-requires-clause-none_out
lay-requires-clause-none_out g c κs inside = c.requires.none_out

pub lay-requires-clause-unstarted : goal.lay-requires-clause-unstarted
lay-requires-clause-unstarted g c κs inside = c.requires.unstarted

pub lay-requires-clause-generation : goal.lay-requires-clause-generation
lay-requires-clause-generation g c κs inside = ap (λ (s : Sealing). s.generation) c.new-sealer.ensures

pub lay-requires-clause-first : goal.lay-requires-clause-first
lay-requires-clause-first g c κs inside = ap (λ (s : Sealing). s.next) c.new-sealer.ensures

pub lay-requires-clause-gates : goal.lay-requires-clause-gates
lay-requires-clause-gates g c κs inside = c.as_slice-gates.ensures.value ∙ c.in-Ok.ensures.0

pub lay-requires-clause-blank : goal.lay-requires-clause-blank
lay-requires-clause-blank g c κs inside = c.in-Ok.ensures.2

pub lay-requires-clause-sheet : goal.lay-requires-clause-sheet
lay-requires-clause-sheet g c κs inside = c.in-Ok.ensures.1

pub returns-in-Ok-lay-clause-drawn : goal.returns-in-Ok-lay-clause-drawn
returns-in-Ok-lay-clause-drawn g c = c.in-Ok-lay.ensures.drawn

pub returns-in-Ok-lay-clause-durable : goal.returns-in-Ok-lay-clause-durable
returns-in-Ok-lay-clause-durable g c = c.in-Ok-lay.ensures.durable

pub returns-in-Ok-lay-clause-does : goal.returns-in-Ok-lay-clause-does
returns-in-Ok-lay-clause-does g c = does_all _ _ _ _ (format_notes c.args.p.now) tt c.in-Ok-lay.ensures.does.all

-- ---- in the clear

pub returns-in-Err-clause-clear : goal.returns-in-Err-clause-clear
returns-in-Err-clause-clear g c = λ tells. ((λ cell low. inl (inl (inl refl))), tt)

pub returns-in-Ok-lay-clause-clear : goal.returns-in-Ok-lay-clause-clear
returns-in-Ok-lay-clause-clear g c = λ tells.
    let new = g.S.Store.disk c.lay.new.store in
    subst (λ (s : Sealing). FormatsInClear {T = Unit {0}} {E = Failed} s.keys c.args.p.now new.seen (g.S.Store.disk c.args.store.now).cells new.cells (Ok tt)) c.new-sealer.ensures (c.in-Ok-lay.ensures.clear tells)

pub returns-clause-clear : goal.returns-clause-clear
returns-clause-clear g c = λ tells.
    let new = g.S.Store.disk c.lay.new.store in
    subst (λ (s : Sealing). FormatsInClear {T = Unit {0}} {E = Failed} s.keys c.args.p.now new.seen (g.S.Store.disk c.args.store.now).cells new.cells (Err c.in-Err-lay.field-0)) c.new-sealer.ensures (c.in-Err-lay.ensures.clear tells)

-- ---- the registers' gates

pub returns-in-Ok-lay-clause-gates : goal.returns-in-Ok-lay-clause-gates
returns-in-Ok-lay-clause-gates g c = c.in-Ok-lay.ensures.gates
