use Rattle.std.proofs.Common.{◌∙◌, ap, inl, inr, refl, sym}
use Rattle.ob_mirrored.proofs.Anchored.{same_sink}
use Rattle.ob_mirrored.proofs.Telling.{told_unwatched}
use Rattle.ob_mirrored.proofs.mirrored.do_traced.Goals as goal

pub returns-then-broken-clause-done : goal.returns-then-broken-clause-done
returns-then-broken-clause-done g c = λ there. (
  _,
  _,
  record {
    before = _;
    after = _;
    was_is = c.in-Some.is;
    is_is = refl;
    start = _;
    tells = (ap (λ w. g.W.Sink.written w) (sym c.new-watch.ensures.sink), ap (λ w. g.W.Sink.faults w) (sym c.new-watch.ensures.sink));
    whole = c.new-watch.ensures.broken;
    line = c.start.ensures;
    told = (refl, refl);
  },
  inl (sym c.broken.ensures ∙ c.if-broken.true, refl, refl, refl, told_unwatched _ _ _ _ c.finish_run-then-broken.ensures),
)

pub returns-clause-done : goal.returns-clause-done
returns-clause-done g c = λ there. (
  _,
  _,
  record {
    before = _;
    after = _;
    was_is = c.in-Some.is;
    is_is = refl;
    start = _;
    tells = (ap (λ w. g.W.Sink.written w) (sym c.new-watch.ensures.sink), ap (λ w. g.W.Sink.faults w) (sym c.new-watch.ensures.sink));
    whole = c.new-watch.ensures.broken;
    line = c.start.ensures;
    told = (refl, refl);
  },
  inr (sym c.broken.ensures ∙ c.if-broken.false, c.do_joined.ensures.done),
)

-- ---- the sink is still the one that was lent

pub shape_of-trace : goal.shape_of-trace
shape_of-trace g c = sym c.new-watch.ensures.name ∙ same_sink _ _ _ c.start.ensures.anchors c.do_joined.ensures.anchors
