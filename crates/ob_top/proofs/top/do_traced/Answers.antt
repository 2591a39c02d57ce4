use Rattle.std.proofs.Common.{◌∙◌, ap, refl, sym}
use Rattle.ob_io.specs.Streams.{outflow}
use Rattle.ob_top.proofs.Tracing.{broke_first, watched_on}
use Rattle.ob_top.proofs.top.do_traced.Goals as goal

pub returns-then-broken-clause-does : goal.returns-then-broken-clause-does
returns-then-broken-clause-does g c =
    broke_first (λ s. g.S.Store.disk s) (λ w. outflow g.W.Sink w) _ _ c.args.command c.args.keys.now _ _ c.args.trace.now _ _ _ _ c.start_of.result c.start.ensures c.start_of.ensures c.in-Some.is
    (ap (λ w. g.W.Sink.written w) (sym c.new-watch.ensures.sink), ap (λ w. g.W.Sink.faults w) (sym c.new-watch.ensures.sink))
    c.new-watch.ensures.broken (refl, refl) (sym c.broken.ensures ∙ c.if-broken.true)

pub returns-clause-does : goal.returns-clause-does
returns-clause-does g c =
    watched_on (λ s. g.S.Store.disk s) (λ w. outflow g.W.Sink w) _ _ c.args.command c.args.keys.now _ _ _ _ c.args.trace.now _ _ _ _ _ c.start_of.result _ c.start.ensures c.start_of.ensures c.in-Some.is
    (ap (λ w. g.W.Sink.written w) (sym c.new-watch.ensures.sink), ap (λ w. g.W.Sink.faults w) (sym c.new-watch.ensures.sink))
    c.new-watch.ensures.broken (refl, refl) (sym c.broken.ensures ∙ c.if-broken.false) c.do_watched.ensures.does
