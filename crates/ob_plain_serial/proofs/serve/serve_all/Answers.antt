use Rattle.std.proofs.Common.{◌∙◌, refl, sym, ap, length}
use Rattle.ob_plain_serial.proofs.Answered.{grown, rest_may, count_more}
use Rattle.ob_plain_serial.proofs.serve.serve_all.Goals as goal

pub loop-request-init : goal.loop-request-init
loop-request-init g c = record {
  params = refl;
  may = c.requires;
  count = ap length c.new-replies.ensures.items;
  holds = λ v holds. (v, rw c.new-replies.ensures.items refl, holds);
}

pub returns-then-spent-clause-law : goal.returns-then-spent-clause-law
returns-then-spent-clause-law g c = λ v holds.
    let (mid, answered, held) = c.loop-request.invariant.holds v holds in (
      _,
      rw c.in_ok-push.ensures.items (grown v c.args.requests.now c.loop-request.replies.items c.loop-request.request-index c.request-item.result c.in_ok-reply.reply mid _ c.loop-request-test.true c.request-item.is c.loop-request.invariant.count answered
          (c.in_ok-reply.ensures.step mid held)),
      c.in_ok-reply.ensures.holds mid held,
    )

pub loop-request-preserved : goal.loop-request-preserved
loop-request-preserved g c = record {
  params = c.serve_one.ensures.params ∙ c.loop-request.invariant.params;
  may = (rest_may (g.V.Vault.params c.args.vault.now) (g.V.Vault.counts c.loop-request.vault) (g.V.Vault.counts c.serve_one.new.vault) c.args.requests.now c.loop-request.request-index c.request-item.result c.in_ok-reply.reply c.loop-request-test.true c.request-item.is
      (rw c.loop-request.invariant.params at c.in_ok-reply.ensures.counts) (sym c.spent.ensures ∙ c.if-spent.false) c.loop-request.invariant.may).1;
  count = ap length c.in_ok-push.ensures.items ∙ count_more c.loop-request.replies.items c.in_ok-reply.reply c.loop-request.request-index c.loop-request.invariant.count;
  holds = λ v holds.
      let (mid, answered, held) = c.loop-request.invariant.holds v holds in (
        _,
        rw c.in_ok-push.ensures.items (grown v c.args.requests.now c.loop-request.replies.items c.loop-request.request-index c.request-item.result c.in_ok-reply.reply mid _ c.loop-request-test.true c.request-item.is c.loop-request.invariant.count answered
            (c.in_ok-reply.ensures.step mid held)),
        c.in_ok-reply.ensures.holds mid held,
      );
}
