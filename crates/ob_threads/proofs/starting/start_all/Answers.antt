use Rattle.std.proofs.Common.{drop, map, ◌≡◌, ◌∷◌, [], ◌++◌, length, sym, ap, subst, ◌∙◌, append_assoc, length-append, arith}
use Rattle.std.specs.Vec.Iter.{into_iter_items, into_iter_len}
use Rattle.ob_threads.specs.Served.{words, IsClient}
use Rattle.ob_threads.specs.Starts.{Each, HasItsPlace, IsAsItCame, stays}
use Rattle.ob_threads.proofs.Eaching.{each-length, each-snoc, all-at, all_over, later_next}
use Rattle.ob_threads.proofs.starting.start_all.Goals as goal

pub push_reserved-requires : goal.push_reserved-requires
push_reserved-requires g c =
    let at = c.loop-client in
    let i = at.invariant in
    let same = each-length (HasItsPlace (words g.U.Runner.client g.U.Runner.bound g.U.Runner.plan g.U.Runner.fits g.U.Runner.turn) c.args.hall.now) at.yielded at.started.items i.placed in
    let all = ap length i.items in
    let joined = length-append at.yielded (into_iter_items at.client-iterator) in
    let some = ap length c.in-Some.ensures.steps.0 in
    let room = i.room in
    let ok = at.started.ok in
    omega (arith, same, all, joined, some, room, ok.0)

pub loop-client-preserved : goal.loop-client-preserved
loop-client-preserved g c =
    let at = c.loop-client in
    let i = at.invariant in
    let steps = c.in-Some.ensures.steps.0 in
    let same = each-length (HasItsPlace (words g.U.Runner.client g.U.Runner.bound g.U.Runner.plan g.U.Runner.fits g.U.Runner.turn) c.args.hall.now) at.yielded at.started.items i.placed in
    let many = c.len.ensures in
    let ok = at.started.ok in
    record {
      items = append_assoc at.yielded (c.in-Some.client ∷ []) _ ∙ (ap (λ l. at.yielded ++ l) (sym steps) ∙ i.items);
      count = (let was = i.count in let gone = c.in-Some.ensures.steps.1 in let short = ap length steps in omega (arith, was, gone, short));
      placed = subst (λ l. Each (HasItsPlace (words g.U.Runner.client g.U.Runner.bound g.U.Runner.plan g.U.Runner.fits g.U.Runner.turn) c.args.hall.now) (at.yielded ++ c.in-Some.client ∷ []) l) (sym c.push_reserved.ensures.items)
          (each-snoc (HasItsPlace (words g.U.Runner.client g.U.Runner.bound g.U.Runner.plan g.U.Runner.fits g.U.Runner.turn) c.args.hall.now) at.yielded at.started.items c.in-Some.client c.place-one.result i.placed c.place-one.ensures.placed);
      came = subst (λ l. Each IsAsItCame (at.yielded ++ c.in-Some.client ∷ []) l) (sym c.push_reserved.ensures.items) (each-snoc IsAsItCame at.yielded at.started.items c.in-Some.client c.place-one.result i.came c.place-one.ensures.came);
      others = subst (λ l. drop (length c.args.flags.now) l ≡ map stays (drop (length c.args.flags.now) (at.yielded ++ c.in-Some.client ∷ []))) (sym c.push_reserved.ensures.items)
          (later_next stays (length c.args.flags.now) c.len.result at.yielded at.started.items c.in-Some.client c.place-one.result c.get-flag.result _ same (omega (arith, many, ok.0)) c.get-flag.ensures.lookup.3 c.place-one.ensures.stays i.others);
      room = (let room = i.room in let kept = c.push_reserved.ensures.capacity in omega (arith, room, kept));
    }

pub place-one-requires-clause-client : goal.place-one-requires-clause-client
place-one-requires-clause-client g c κs within =
    let at = c.loop-client in
    all-at (IsClient (words g.U.Runner.client g.U.Runner.bound g.U.Runner.plan g.U.Runner.fits g.U.Runner.turn) c.args.hall.now) at.yielded (into_iter_items c.next.new.self) c.args.clients.items c.in-Some.client
    (ap (λ l. at.yielded ++ l) (sym c.in-Some.ensures.steps.0) ∙ (at.invariant.items ∙ c.into_iter-client-iterator.ensures.into_iter_gives.0)) c.requires.clients

pub returns-clause-placed : goal.returns-clause-placed
returns-clause-placed g c =
    let at = c.loop-client in
    subst (λ l. Each (HasItsPlace (words g.U.Runner.client g.U.Runner.bound g.U.Runner.plan g.U.Runner.fits g.U.Runner.turn) c.args.hall.now) l at.started.items)
    (all_over at.yielded (into_iter_items at.client-iterator) c.args.clients.items (into_iter_len at.client-iterator) (at.invariant.items ∙ c.into_iter-client-iterator.ensures.into_iter_gives.0) at.invariant.count c.in-None.ensures.steps.0)
    at.invariant.placed

pub returns-clause-came : goal.returns-clause-came
returns-clause-came g c =
    let at = c.loop-client in
    subst (λ l. Each IsAsItCame l at.started.items)
    (all_over at.yielded (into_iter_items at.client-iterator) c.args.clients.items (into_iter_len at.client-iterator) (at.invariant.items ∙ c.into_iter-client-iterator.ensures.into_iter_gives.0) at.invariant.count c.in-None.ensures.steps.0)
    at.invariant.came

pub returns-clause-others : goal.returns-clause-others
returns-clause-others g c =
    let at = c.loop-client in
    subst (λ l. drop (length c.args.flags.now) at.started.items ≡ map stays (drop (length c.args.flags.now) l))
    (all_over at.yielded (into_iter_items at.client-iterator) c.args.clients.items (into_iter_len at.client-iterator) (at.invariant.items ∙ c.into_iter-client-iterator.ensures.into_iter_gives.0) at.invariant.count c.in-None.ensures.steps.0)
    at.invariant.others
