use Rattle.std.proofs.Common.{ℕ, ◌∷◌, [], ◌++◌, List, filter, refl, sym, ap, ◌∙◌, subst}
use Rattle.std.proofs.lemmas.Result.{IfOk-from_err}
use Rattle.ob_order.specs.OrderModel.{OrderModel}
use Rattle.ob_order.specs.Order.{after_begin}
use Rattle.ob_order.specs.Works.{goes_on}
use Rattle.ob_desk.specs.Desk.{Part, Holder, new_holder}
use Rattle.ob_shares.specs.Seen.{uses_of}
use Rattle.ob_desk.specs.Parts.{HasGoing, part_of}
use Rattle.ob_desk.proofs.Steps.{told_err}
use Rattle.ob_desk.proofs.Going.{pruned_listed, begun_listed}
use Rattle.ob_desk.proofs.part.draw.Goals as goal

pub returns-in_err-reserve-clause-going : goal.returns-in_err-reserve-clause-going
returns-in_err-reserve-clause-going c =
    let ws = c.args.part.now.order.state.works in
    subst (HasGoing ws) (sym (c.reserve.ensures.items ∙ c.prune.ensures)) (pruned_listed ws c.args.part.now.going.items c.requires.going)

pub returns-in_err-reserve-2-clause-going : goal.returns-in_err-reserve-2-clause-going
returns-in_err-reserve-2-clause-going c =
    let ws = c.args.part.now.order.state.works in
    subst (HasGoing ws) (sym (c.reserve.ensures.items ∙ c.prune.ensures)) (pruned_listed ws c.args.part.now.going.items c.requires.going)

pub returns-in_err-reserve-3-clause-going : goal.returns-in_err-reserve-3-clause-going
returns-in_err-reserve-3-clause-going c =
    let ws = c.args.part.now.order.state.works in
    subst (HasGoing ws) (sym (c.reserve.ensures.items ∙ c.prune.ensures)) (pruned_listed ws c.args.part.now.going.items c.requires.going)

pub returns-in_err-ticket-clause-going : goal.returns-in_err-ticket-clause-going
returns-in_err-ticket-clause-going c =
    let ws = c.args.part.now.order.state.works in
    subst (λ (o : OrderModel). HasGoing o.state.works c.reserve.new.self.items) (sym c.in_err-ticket.ensures.err)
    (subst (HasGoing ws) (sym (c.reserve.ensures.items ∙ c.prune.ensures)) (pruned_listed ws c.args.part.now.going.items c.requires.going))

pub returns-clause-going : goal.returns-clause-going
returns-clause-going c =
    let ws = c.args.part.now.order.state.works in
    let items = c.push_reserved.ensures.items ∙ (ap (λ (ts : List ℕ). ts ++ c.in_ok-ticket.ticket ∷ []) (c.reserve.ensures.items ∙ c.prune.ensures) ∙ ap (λ t. filter (goes_on ws) c.args.part.now.going.items ++ t ∷ []) c.in_ok-ticket.ensures.ticket) in
    subst (λ (o : OrderModel). HasGoing o.state.works c.push_reserved.new.self.items) (sym c.in_ok-ticket.ensures.ok)
    (subst (HasGoing _) (sym items) (begun_listed ws c.args.part.now.going.items c.requires.going))

pub returns-in_err-reserve-clause-ticket : goal.returns-in_err-reserve-clause-ticket
returns-in_err-reserve-clause-ticket c = IfOk-from_err c.from_residual.result _ c.from_residual.ensures.0

pub returns-in_err-reserve-clause-ok : goal.returns-in_err-reserve-clause-ok
returns-in_err-reserve-clause-ok c = IfOk-from_err c.from_residual.result _ c.from_residual.ensures.0

pub returns-in_err-reserve-clause-err : goal.returns-in_err-reserve-clause-err
returns-in_err-reserve-clause-err c = told_err c.from_residual.result refl

pub returns-in_err-reserve-2-clause-ticket : goal.returns-in_err-reserve-2-clause-ticket
returns-in_err-reserve-2-clause-ticket c = IfOk-from_err c.from_residual-in_err-reserve-2.result _ c.from_residual-in_err-reserve-2.ensures.0

pub returns-in_err-reserve-2-clause-ok : goal.returns-in_err-reserve-2-clause-ok
returns-in_err-reserve-2-clause-ok c = IfOk-from_err c.from_residual-in_err-reserve-2.result _ c.from_residual-in_err-reserve-2.ensures.0

pub returns-in_err-reserve-2-clause-err : goal.returns-in_err-reserve-2-clause-err
returns-in_err-reserve-2-clause-err c = told_err c.from_residual-in_err-reserve-2.result (ap (λ (hs : List Holder). let p : Part = record (part_of c.args.part.now) { holders = hs } in p) c.reserve-2.ensures.items)

pub returns-in_err-reserve-3-clause-ticket : goal.returns-in_err-reserve-3-clause-ticket
returns-in_err-reserve-3-clause-ticket c = IfOk-from_err c.from_residual-in_err-reserve-3.result _ c.from_residual-in_err-reserve-3.ensures.0

pub returns-in_err-reserve-3-clause-ok : goal.returns-in_err-reserve-3-clause-ok
returns-in_err-reserve-3-clause-ok c = IfOk-from_err c.from_residual-in_err-reserve-3.result _ c.from_residual-in_err-reserve-3.ensures.0

pub returns-in_err-reserve-3-clause-err : goal.returns-in_err-reserve-3-clause-err
returns-in_err-reserve-3-clause-err c = told_err c.from_residual-in_err-reserve-3.result (ap (λ (hs : List Holder). let p : Part = record (part_of c.args.part.now) { holders = hs } in p) c.reserve-2.ensures.items)

pub returns-in_err-ticket-clause-ticket : goal.returns-in_err-ticket-clause-ticket
returns-in_err-ticket-clause-ticket c = IfOk-from_err c.from_residual-in_err-ticket.result _ c.from_residual-in_err-ticket.ensures.0

pub returns-in_err-ticket-clause-ok : goal.returns-in_err-ticket-clause-ok
returns-in_err-ticket-clause-ok c = IfOk-from_err c.from_residual-in_err-ticket.result _ c.from_residual-in_err-ticket.ensures.0

pub returns-in_err-ticket-clause-err : goal.returns-in_err-ticket-clause-err
returns-in_err-ticket-clause-err c =
    let a = c.args.part.now in
    told_err c.from_residual-in_err-ticket.result
    (ap (λ (o : OrderModel). let p : Part = record { epoch = a.epoch; order = o.state; holders = c.reserve-2.new.self.items; uses = uses_of a.uses } in p) c.in_err-ticket.ensures.err
    ∙ ap (λ (hs : List Holder). let p : Part = record (part_of a) { holders = hs } in p) c.reserve-2.ensures.items)

pub returns-clause-ok : goal.returns-clause-ok
returns-clause-ok c =
    let a = c.args.part.now in
    let next = after_begin a.order.state in
    let drawn = new_holder c.args.client in
    ap (λ (o : OrderModel). let p : Part = record { epoch = a.epoch; order = o.state; holders = c.push_reserved-2.new.self.items; uses = uses_of a.uses } in p) c.in_ok-ticket.ensures.ok
    ∙ ap (λ (hs : List Holder). let p : Part = record (part_of a) { order = next; holders = hs } in p) (c.push_reserved-2.ensures.items ∙ ap (λ (hs : List Holder). hs ++ drawn ∷ []) c.reserve-2.ensures.items)
