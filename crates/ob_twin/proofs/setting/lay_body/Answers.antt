use Rattle.ob_twin.specs.Clear.{IsWritten}
use Rattle.std.proofs.Common.{inl, inr, refl, subst, [], ◌∷◌, ◌%◌, arith, if◌then◌else◌, ◌++◌, ℕ, List, sym, ap, ◌∙◌}
use Rattle.ob_store.proofs.Doing.{does_refused, first_more, does_then, tells_none}
use Rattle.ob_twin.specs.Register.{body_at, gate_at}
use Rattle.ob_twin.specs.Orders.{through_notes, prepare_notes}
use Rattle.ob_twin.proofs.Moves.{preparing, closing, passes_within, passes_both}
use Rattle.std.proofs.lemmas.Result.{IfOk-from_err}
use Rattle.ob_store.specs.Calls.{IsFailed}
use Rattle.ob_store.proofs.Serving.{serves_then, on_ok, on_err, if_err}
use Rattle.ob_store.proofs.Keeping.{serves_failed}
use Rattle.ob_twin.proofs.Stages.{closing_stage, laid_few, laid_two, laying_stage}
use Rattle.ob_twin.proofs.Stops.{closing_left, closing_stops, laying_left, laying_stops}
use Rattle.ob_twin.proofs.setting.lay_body.Goals as goal

pub returns-in_err-close-clause-any_moment : goal.returns-in_err-close-clause-any_moment
returns-in_err-close-clause-any_moment g c = λ m next tells opened settled stands.
    closing (g.T.Stamper.tag c.args.stamper.now) c.args.first m c.args.n c.args.closes _ _ next stands opened (c.close.ensures.any_moment settled)

pub returns-clause-any_moment : goal.returns-clause-any_moment
returns-clause-any_moment g c = λ m next tells opened settled stands.
    preparing (g.T.Stamper.tag c.args.stamper.now) c.args.first m c.args.n c.args.closes _ (g.S.Store.disk c.close.new.store) _ next stands opened
    (c.close.ensures.any_moment settled)
    (c.close.ensures.rest tells)
    (c.in_ok-close.ensures.shut tells)
    (c.write_out.ensures.any_moment (c.in_ok-close.ensures.durable tells settled))

pub returns-in_err-close-clause-passes : goal.returns-in_err-close-clause-passes
returns-in_err-close-clause-passes g c = passes_within c.args.first (gate_at c.args.first (c.args.n % 2)) _ _ (omega arith) (omega arith) c.close.ensures.passes

pub returns-clause-passes : goal.returns-clause-passes
returns-clause-passes g c =
    let first = c.args.first in
    let mid = g.S.Store.disk c.close.new.store in
    passes_both first _ mid _ (passes_within first (gate_at first (c.args.n % 2)) _ mid (omega arith) (omega arith) c.close.ensures.passes)
    (passes_within first (body_at first (c.args.n % 2)) mid _ (omega arith) (omega arith) c.write_out.ensures.passes)

pub returns-in_err-close-clause-does : goal.returns-in_err-close-clause-does
returns-in_err-close-clause-does g c =
    does_refused _ _ _ _ (prepare_notes c.args.closes c.args.first c.args.n) c.from_residual.result c.from_residual.ensures.0
    (first_more _ _ _ _ (if c.args.closes then through_notes (gate_at c.args.first (c.args.n % 2)) else []) (through_notes (body_at c.args.first (c.args.n % 2))) c.in_err-close.ensures.does.first)

pub returns-clause-does : goal.returns-clause-does
returns-clause-does g c =
    does_then _ _ _ _ _ _ (if c.args.closes then through_notes (gate_at c.args.first (c.args.n % 2)) else []) (through_notes (body_at c.args.first (c.args.n % 2))) c.write_out.result
    c.in_ok-close.ensures.does.all c.write_out.ensures.does

pub returns-in_err-close-clause-serves : goal.returns-in_err-close-clause-serves
returns-in_err-close-clause-serves g c = serves_failed _ _ _ c.from_residual.result c.from_residual.ensures.0 c.in_err-close.ensures.serves

pub returns-in_err-close-clause-done : goal.returns-in_err-close-clause-done
returns-in_err-close-clause-done g c = λ tells. IfOk-from_err c.from_residual.result _ c.from_residual.ensures.0

pub returns-in_err-close-clause-durable : goal.returns-in_err-close-clause-durable
returns-in_err-close-clause-durable g c = λ tells. IfOk-from_err c.from_residual.result _ c.from_residual.ensures.0

pub returns-clause-serves : goal.returns-clause-serves
returns-clause-serves g c =
    let closed = c.in_ok-close.ensures.serves in
    serves_then IsFailed _ (g.S.Store.disk c.close.new.store) _ c.write_out.result closed.goes closed.out closed.tells c.write_out.ensures.serves

pub returns-clause-rest : goal.returns-clause-rest
returns-clause-rest g c = λ tells k off on. c.write_out.ensures.rest (c.in_ok-close.ensures.serves.tells tells) k off ∙ c.close.ensures.rest tells k on

pub returns-clause-done : goal.returns-clause-done
returns-clause-done g c = λ tells.
    let first = c.args.first in
    let tag = g.T.Stamper.tag c.args.stamper.now in
    let there = c.in_ok-close.ensures.serves.tells tells in
    on_ok _ _ c.write_out.result
    (λ put. record {
      body = put ∙ c.stamp.ensures ∙ ap (λ (l : List ℕ). l ++ tag (body_at first (c.args.n % 2)) l) c.plain_of.ensures;
      shut = λ opened. c.in_ok-close.ensures.shut tells (sym (c.write_out.ensures.rest there (gate_at first (c.args.n % 2)) (λ e. absurd (omega (arith, e)))) ∙ opened);
      rest = returns-clause-rest g c tells;
    })
    (c.write_out.ensures.written there)

-- ---- refused

pub returns-in_err-close-clause-refused : goal.returns-in_err-close-clause-refused
returns-in_err-close-clause-refused g c = λ tells. if_err _ c.from_residual.result (inl (c.in_err-close.ensures.refused tells))

pub returns-clause-refused : goal.returns-clause-refused
returns-clause-refused g c = λ tells.
    let first = c.args.first in
    let place = c.args.n % 2 in
    let tag = g.T.Stamper.tag c.args.stamper.now in
    let new = g.S.Store.disk c.write_out.new.store in
    let there = c.write_out.ensures.serves.goes.told tells in
    let here = c.close.ensures.serves.goes.told there in
    on_err _ _ c.write_out.result
    (λ wrote. inr (record {
      body_is = subst (λ (l : List ℕ). IsWritten (body_at first place) l new.seen new.cells) (c.stamp.ensures ∙ ap (λ (l : List ℕ). l ++ tag (body_at first place) l) c.plain_of.ensures) wrote;
      gate_is = c.write_out.ensures.rest there (gate_at first place) (λ e. absurd (omega (arith, e))) ∙ c.in_ok-close.ensures.gate here;
      rest = λ k off on. c.write_out.ensures.rest there k off ∙ c.close.ensures.rest here k on;
    }))
    (c.write_out.ensures.refused tells)

-- ---- what that leaves

pub returns-in_err-close-clause-stops : goal.returns-in_err-close-clause-stops
returns-in_err-close-clause-stops g c =
    let tag = g.T.Stamper.tag c.args.stamper.now in
    let old = g.S.Store.disk c.args.store.now in
    let new = g.S.Store.disk c.close.new.store in
    let before = g.W.Watch.trace c.args.watch.now in
    let after = g.W.Watch.trace c.close.new.watch in
    let shown = c.in_err-close.ensures.shown in
    if_err _ c.from_residual.result
    (closing_stops tag c.args.first c.args.n old old new before before after c.args.closes _ shown.0 shown.1 (closing_left tag c.args.first c.args.n c.args.closes old new shown.0 c.close.ensures.passes))

pub returns-clause-stops : goal.returns-clause-stops
returns-clause-stops g c =
    let tag = g.T.Stamper.tag c.args.stamper.now in
    let old = g.S.Store.disk c.args.store.now in
    let mid = g.S.Store.disk c.close.new.store in
    let new = g.S.Store.disk c.write_out.new.store in
    laying_stops tag c.args.first c.args.n old mid new (g.W.Watch.trace c.args.watch.now) (g.W.Watch.trace c.close.new.watch) (g.W.Watch.trace c.write_out.new.watch) c.args.closes c.write_out.result
    c.in_ok-close.ensures.does.all c.write_out.ensures.told
    (laying_left tag c.args.first c.args.n c.args.closes old mid new c.in_ok-close.ensures.durable c.in_ok-close.ensures.shut c.close.ensures.rest c.write_out.ensures.passes)

-- ---- in stages

pub returns-in_err-close-clause-stages : goal.returns-in_err-close-clause-stages
returns-in_err-close-clause-stages g c =
    let old = c.args.store.now in
    let new = c.close.new.store in
    let disk = g.S.Store.disk in
    record {
      ends = new ∷ [];
      many = laid_few c.from_residual.result 1 c.from_residual.ensures.0 (omega arith);
      spans = (
        closing_stage disk (g.T.Stamper.tag c.args.stamper.now) c.args.closes c.args.first c.args.n old new (tells_none (disk old).seen (g.W.Watch.trace c.args.watch.now)).seen c.close.ensures.any_moment,
        refl,
      );
    }

pub returns-clause-stages : goal.returns-clause-stages
returns-clause-stages g c =
    let tag = g.T.Stamper.tag c.args.stamper.now in
    let old = c.args.store.now in
    let mid = c.close.new.store in
    let new = c.write_out.new.store in
    let disk = g.S.Store.disk in
    record {
      ends = mid ∷ new ∷ [];
      many = laid_two c.write_out.result;
      spans = (
        closing_stage disk tag c.args.closes c.args.first c.args.n old mid (tells_none (disk old).seen (g.W.Watch.trace c.args.watch.now)).seen c.close.ensures.any_moment,
        (laying_stage disk tag c.args.closes c.args.first c.args.n old mid new c.in_ok-close.ensures.does.all.seen c.in_ok-close.ensures.durable c.in_ok-close.ensures.shut c.close.ensures.rest c.write_out.ensures.any_moment, refl),
      );
    }
