use Rattle.std.proofs.Common.{◌≡◌, ◌∙◌, ap, List, take}
use Rattle.ob_mem.specs.declared.call.Call.{Call}
use Rattle.ob_mem.specs.Replay.{replay, sure}
use Rattle.ob_mem.proofs.Fillings.{left_of, possible_of, take_min}
use Rattle.ob_mem.proofs.past.left_after.Goals as goal

pub returns-clause-left : goal.returns-clause-left
returns-clause-left c =
    let first = c.args.first.now in
    let calls : take c.min-kept.result c.args.calls.now ≡ take c.args.moment c.args.calls.now = ap (λ n. take n c.args.calls.now) c.min-kept.ensures ∙ take_min c.args.calls.now c.args.moment in
    left_of (replay (take c.args.moment c.args.calls.now) (sure first)) _ _
    (c.in_ok-held.ensures.cells ∙ ap (λ (l : List Call). (replay l (sure first)).cells) calls)
    (c.deref.ensures.value ∙ c.in_ok-held.ensures.unsure ∙ ap (λ (l : List Call). (replay l (sure first)).unsure) calls)
    _ _ c.fill.ensures.left

pub returns-clause-possible : goal.returns-clause-possible
returns-clause-possible c =
    let first = c.args.first.now in
    let calls : take c.min-kept.result c.args.calls.now ≡ take c.args.moment c.args.calls.now = ap (λ n. take n c.args.calls.now) c.min-kept.ensures ∙ take_min c.args.calls.now c.args.moment in
    possible_of (replay (take c.args.moment c.args.calls.now) (sure first)) c.in_ok-held.held.cells.items c.deref.result.now
    (c.in_ok-held.ensures.cells ∙ ap (λ (l : List Call). (replay l (sure first)).cells) calls)
    (c.deref.ensures.value ∙ c.in_ok-held.ensures.unsure ∙ ap (λ (l : List Call). (replay l (sure first)).unsure) calls)
    c.args.fillings.now _ c.fill.ensures.possible
