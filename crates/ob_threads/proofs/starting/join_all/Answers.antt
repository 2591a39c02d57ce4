use Rattle.std.proofs.Common.{◌∷◌, [], ◌++◌, length, sym, ap, subst, ◌∙◌, append_assoc, length-append, arith}
use Rattle.std.specs.Vec.Iter.{into_iter_items, into_iter_len}
use Rattle.ob_threads.specs.Served.{words}
use Rattle.ob_threads.specs.Starts.{Each, IsJoined}
use Rattle.ob_threads.proofs.Eaching.{each-length, each-snoc, all_over}
use Rattle.ob_threads.proofs.starting.join_all.Goals as goal

pub push_reserved-requires : goal.push_reserved-requires
push_reserved-requires g c =
    let at = c.loop-one in
    let i = at.invariant in
    let same = each-length (IsJoined (words g.U.Runner.client g.U.Runner.bound g.U.Runner.plan g.U.Runner.fits g.U.Runner.turn) c.args.hall.now) at.yielded at.clients.items i.placed in
    let all = ap length i.items in
    let joined = length-append at.yielded (into_iter_items at.one-iterator) in
    let some = ap length c.in-Some.ensures.steps.0 in
    let room = i.room in
    let ok = at.clients.ok in
    omega (arith, same, all, joined, some, room, ok.0)

pub loop-one-preserved : goal.loop-one-preserved
loop-one-preserved g c =
    let at = c.loop-one in
    let i = at.invariant in
    let steps = c.in-Some.ensures.steps.0 in
    record {
      items = append_assoc at.yielded (c.in-Some.one ∷ []) _ ∙ (ap (λ l. at.yielded ++ l) (sym steps) ∙ i.items);
      count = (let was = i.count in let gone = c.in-Some.ensures.steps.1 in let short = ap length steps in omega (arith, was, gone, short));
      placed = subst (λ l. Each (IsJoined (words g.U.Runner.client g.U.Runner.bound g.U.Runner.plan g.U.Runner.fits g.U.Runner.turn) c.args.hall.now) (at.yielded ++ c.in-Some.one ∷ []) l) (sym c.push_reserved.ensures.items)
          (each-snoc (IsJoined (words g.U.Runner.client g.U.Runner.bound g.U.Runner.plan g.U.Runner.fits g.U.Runner.turn) c.args.hall.now) at.yielded at.clients.items c.in-Some.one c.join-client.result i.placed c.join-client.ensures.joined);
      room = (let room = i.room in let kept = c.push_reserved.ensures.capacity in omega (arith, room, kept));
    }

pub returns : goal.returns
returns g c =
    let at = c.loop-one in
    record {
      joined = subst (λ l. Each (IsJoined (words g.U.Runner.client g.U.Runner.bound g.U.Runner.plan g.U.Runner.fits g.U.Runner.turn) c.args.hall.now) l at.clients.items)
          (all_over at.yielded (into_iter_items at.one-iterator) c.args.started.items (into_iter_len at.one-iterator) (at.invariant.items ∙ c.into_iter-one-iterator.ensures.into_iter_gives.0) at.invariant.count c.in-None.ensures.steps.0)
          at.invariant.placed;
    }
