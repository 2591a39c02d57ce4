use Rattle.std.proofs.Common.{◌≡◌, ℕ, List, None, Ok, Err, Bool, IsTrue, ◌∙◌, ap, subst, sym, arith}
use Rattle.ob_base.specs.declared.fault.Fault.TheVariants.{StoreFault}
use Rattle.ob_store.specs.Images.{LeavesOnly, Passes}
use Rattle.ob_store.specs.Told.{TellsFirst}
use Rattle.ob_twin.specs.declared.gates.Gates.{Gates}
use Rattle.ob_twin.specs.declared.gates.Open.{Open}
use Rattle.ob_twin.specs.declared.twin.Twin.{Twin}
use Rattle.ob_twin.specs.declared.set_err.SetErr.TheVariants.{Before, Unsure}
use Rattle.ob_twin.specs.Register.{first_of, body_at, gate_at, place_of, IsOpen, StandsAt, IsPut, OldOrNew, SameOutside, SameTwo}
use Rattle.ob_twin.specs.Opening.{known_of, with_mark, is_closed_first, GatesAre, with_known}
use Rattle.ob_twin.specs.Orders.{prepare_notes, SetDoes}
use Rattle.ob_twin.specs.Refused.{SetLeaves, IsSetFault}
use Rattle.ob_twin.specs.Clear.{IsOpening, IsWritten, SetLeft}
use Rattle.ob_twin.proofs.Moves.{two_within, opening, passes_within, passes_both}
use Rattle.ob_twin.proofs.Sets.{set_done, set_unsure, put_at, put_everywhere, leaves_old, leaves_unsure, leaves_done}
use Rattle.ob_twin.proofs.Gating.{are_marked, known_again, closed_of, open_of}
use Rattle.ob_store.specs.Calls.{IsFailed}
use Rattle.ob_store.proofs.Serving.{serves_err, serves_ok, serves_then}
use Rattle.ob_twin.specs.Stages.{AreSetStages, SetMoments, StagesSet}
use Rattle.ob_twin.specs.Stops.{SetStops}
use Rattle.ob_twin.proofs.Stages.{opened_stages, opening_stage, stopped_moments}
use Rattle.ob_twin.proofs.Stops.{opening_left}
use Rattle.ob_twin.proofs.twin.Twin.set.Goals as goal

-- whether the gate is closed first, from what is known of the register
closed_by : (twin : Twin) (gates : Gates) (known : Open) (closes : Bool) (n : ℕ) → known ≡ known_of twin gates → closes ≡ is_closed_first known (place_of n) → closes ≡ is_closed_first (known_of twin gates) (place_of n)
closed_by twin gates known closes n is so = so ∙ ap (λ (k : Open). is_closed_first k (place_of n)) is

pub lay_body-requires-clause-told : goal.lay_body-requires-clause-told
lay_body-requires-clause-told g c = λ tells refuses opened.
    let known = known_of c.args.self c.args.gates.now in
    let cells = (g.S.Store.disk c.args.store.now).cells in
    let closes_is = closed_by c.args.self c.args.gates.now c.known_of-known.result c.is_closed_first-closes.result c.args.n c.known_of-known.ensures c.is_closed_first-closes.ensures in
    closed_of known (first_of c.args.self) c.args.n cells (c.requires.told tells) (λ closes. refuses (subst (λ b. IsTrue b) (sym closes_is) closes))
    (subst (λ f. IsOpen f cells (place_of c.args.n)) c.first-first.ensures opened)

-- ---- refused before the gate

pub returns-in-Err-clause-rest : goal.returns-in-Err-clause-rest
returns-in-Err-clause-rest g c = λ tells.
    let old = (g.S.Store.disk c.args.store.now).cells in
    let new = (g.S.Store.disk c.lay_body.new.store).cells in
    subst (λ f. SameOutside f new old) c.first-first.ensures (two_within c.first-first.result (place_of c.args.n) new old (omega arith) (c.lay_body.ensures.rest tells))

pub returns-in-Err-clause-old_or_new : goal.returns-in-Err-clause-old_or_new
returns-in-Err-clause-old_or_new g c = λ m next tells settled stands.
    let tag = g.T.Stamper.tag c.args.stamper.now in
    let known = known_of c.args.self c.args.gates.now in
    let old = g.S.Store.disk c.args.store.now in
    let new = g.S.Store.disk c.lay_body.new.store in
    let closes_is = closed_by c.args.self c.args.gates.now c.known_of-known.result c.is_closed_first-closes.result c.args.n c.known_of-known.ensures c.is_closed_first-closes.ensures in
    let opened = λ (closes : IsTrue c.is_closed_first-closes.result). subst (λ f. IsOpen f old.cells (place_of c.args.n)) (sym c.first-first.ensures)
    (open_of tag known (first_of c.args.self) m c.args.n old.cells next (c.requires.told tells) stands (subst (λ b. IsTrue b) closes_is closes)) in
    let stands_there = subst (λ f. StandsAt tag f old.cells m) (sym c.first-first.ensures) stands in
    subst (λ f. LeavesOnly old new (SetLeaves tag f old.cells m c.args.n (Err (Before (StoreFault None))))) c.first-first.ensures
    (leaves_old tag c.first-first.result m c.args.n old.cells old new (StoreFault None)
    (c.lay_body.ensures.any_moment m next tells opened settled stands_there))

pub returns-in-Err-clause-does : goal.returns-in-Err-clause-does
returns-in-Err-clause-does g c =
    let old = (g.S.Store.disk c.args.store.now).seen in
    let new = (g.S.Store.disk c.lay_body.new.store).seen in
    let before = g.W.Watch.trace c.args.watch.now in
    let after = g.W.Watch.trace c.lay_body.new.watch in
    let closes_is = closed_by c.args.self c.args.gates.now c.known_of-known.result c.is_closed_first-closes.result c.args.n c.known_of-known.ensures c.is_closed_first-closes.ensures in
    subst (λ b. TellsFirst (prepare_notes b (first_of c.args.self) c.args.n) old new before after) closes_is
    (subst (λ f. TellsFirst (prepare_notes c.is_closed_first-closes.result f c.args.n) old new before after) c.first-first.ensures c.in-Err.ensures.does.first)

-- ---- refused at the gate

pub returns-in-Err-write_out-clause-rest : goal.returns-in-Err-write_out-clause-rest
returns-in-Err-write_out-clause-rest g c = λ tells.
    let old = (g.S.Store.disk c.args.store.now).cells in
    let new = (g.S.Store.disk c.write_out.new.store).cells in
    let first = c.first-first.result in
    let two : SameTwo (body_at first (place_of c.args.n)) (gate_at first (place_of c.args.n)) new old =
    λ k body gate. c.write_out.ensures.rest (c.in-Ok.ensures.serves.tells tells) k gate ∙ c.lay_body.ensures.rest tells k body gate in
    subst (λ f. SameOutside f new old) c.first-first.ensures (two_within first (place_of c.args.n) new old (omega arith) two)

pub returns-in-Err-write_out-clause-passes : goal.returns-in-Err-write_out-clause-passes
returns-in-Err-write_out-clause-passes g c =
    let old = g.S.Store.disk c.args.store.now in
    let mid = g.S.Store.disk c.lay_body.new.store in
    let new = g.S.Store.disk c.write_out.new.store in
    let first = c.first-first.result in
    subst (λ f. Passes (SameOutside f) old new) c.first-first.ensures
    (passes_both first old mid new c.lay_body.ensures.passes (passes_within first (gate_at first (place_of c.args.n)) mid new (omega arith) (omega arith) c.write_out.ensures.passes))

pub returns-in-Err-write_out-clause-old_or_new : goal.returns-in-Err-write_out-clause-old_or_new
returns-in-Err-write_out-clause-old_or_new g c = λ m next tells settled stands.
    let tag = g.T.Stamper.tag c.args.stamper.now in
    let known = known_of c.args.self c.args.gates.now in
    let old = g.S.Store.disk c.args.store.now in
    let new = g.S.Store.disk c.write_out.new.store in
    let closes_is = closed_by c.args.self c.args.gates.now c.known_of-known.result c.is_closed_first-closes.result c.args.n c.known_of-known.ensures c.is_closed_first-closes.ensures in
    let opened = λ (closes : IsTrue c.is_closed_first-closes.result). subst (λ f. IsOpen f old.cells (place_of c.args.n)) (sym c.first-first.ensures)
    (open_of tag known (first_of c.args.self) m c.args.n old.cells next (c.requires.told tells) stands (subst (λ b. IsTrue b) closes_is closes)) in
    let stands_there = subst (λ f. StandsAt tag f old.cells m) (sym c.first-first.ensures) stands in
    leaves_unsure tag _ m c.args.n old.cells old new (StoreFault c.unsure_of.result)
    (subst (λ f. LeavesOnly old new (OldOrNew tag f old.cells m c.args.n)) c.first-first.ensures
    (opening tag c.first-first.result m c.args.n old (g.S.Store.disk c.lay_body.new.store) new next c.requires.small stands_there
    (c.lay_body.ensures.any_moment m next tells opened settled stands_there)
    (c.in-Ok.ensures.done tells)
    (c.write_out.ensures.any_moment (c.in-Ok.ensures.durable tells))))

pub returns-in-Err-write_out-clause-does : goal.returns-in-Err-write_out-clause-does
returns-in-Err-write_out-clause-does g c =
    let old = (g.S.Store.disk c.args.store.now).seen in
    let new = (g.S.Store.disk c.write_out.new.store).seen in
    let before = g.W.Watch.trace c.args.watch.now in
    let after = g.W.Watch.trace c.write_out.new.watch in
    let fault = StoreFault c.unsure_of.result in
    let closes_is = closed_by c.args.self c.args.gates.now c.known_of-known.result c.is_closed_first-closes.result c.args.n c.known_of-known.ensures c.is_closed_first-closes.ensures in
    subst (λ b. SetDoes b (first_of c.args.self) c.args.n old new before after (Err (Unsure fault))) closes_is
    (subst (λ f. SetDoes c.is_closed_first-closes.result f c.args.n old new before after (Err (Unsure fault))) c.first-first.ensures
    (set_unsure _ _ _ _ _ _ c.is_closed_first-closes.result c.first-first.result c.args.n c.in-Ok.ensures.does.all _ fault c.in-Err-write_out.ensures.told))

-- ---- done

pub returns-clause-done : goal.returns-clause-done
returns-clause-done g c = λ tells.
    let tag = g.T.Stamper.tag c.args.stamper.now in
    let old = (g.S.Store.disk c.args.store.now).cells in
    let new = (g.S.Store.disk c.write_out.new.store).cells in
    let there = c.in-Ok.ensures.serves.tells tells in
    subst (λ f. IsPut tag f old c.args.n new) c.first-first.ensures
    (put_at tag c.first-first.result c.args.n old (g.S.Store.disk c.lay_body.new.store).cells new
    (c.in-Ok.ensures.done tells) (c.in-Ok-write_out.ensures.written there ∙ c.open_gate.ensures) (c.write_out.ensures.rest there))

pub returns-clause-rest : goal.returns-clause-rest
returns-clause-rest g c = λ tells.
    let put = returns-clause-done g c tells in
    two_within (first_of c.args.self) (place_of c.args.n) (g.S.Store.disk c.write_out.new.store).cells (g.S.Store.disk c.args.store.now).cells (omega arith) put.rest

pub returns-clause-passes : goal.returns-clause-passes
returns-clause-passes g c =
    let old = g.S.Store.disk c.args.store.now in
    let mid = g.S.Store.disk c.lay_body.new.store in
    let new = g.S.Store.disk c.write_out.new.store in
    let first = c.first-first.result in
    subst (λ f. Passes (SameOutside f) old new) c.first-first.ensures
    (passes_both first old mid new c.lay_body.ensures.passes (passes_within first (gate_at first (place_of c.args.n)) mid new (omega arith) (omega arith) c.write_out.ensures.passes))

pub returns-clause-old_or_new : goal.returns-clause-old_or_new
returns-clause-old_or_new g c = λ m next tells settled stands.
    let tag = g.T.Stamper.tag c.args.stamper.now in
    let known = known_of c.args.self c.args.gates.now in
    let old = g.S.Store.disk c.args.store.now in
    let new = g.S.Store.disk c.write_out.new.store in
    let closes_is = closed_by c.args.self c.args.gates.now c.known_of-known.result c.is_closed_first-closes.result c.args.n c.known_of-known.ensures c.is_closed_first-closes.ensures in
    let opened = λ (closes : IsTrue c.is_closed_first-closes.result). subst (λ f. IsOpen f old.cells (place_of c.args.n)) (sym c.first-first.ensures)
    (open_of tag known (first_of c.args.self) m c.args.n old.cells next (c.requires.told tells) stands (subst (λ b. IsTrue b) closes_is closes)) in
    let stands_there = subst (λ f. StandsAt tag f old.cells m) (sym c.first-first.ensures) stands in
    leaves_done tag _ m c.args.n old.cells old new
    (subst (λ f. LeavesOnly old new (OldOrNew tag f old.cells m c.args.n)) c.first-first.ensures
    (opening tag c.first-first.result m c.args.n old (g.S.Store.disk c.lay_body.new.store) new next c.requires.small stands_there
    (c.lay_body.ensures.any_moment m next tells opened settled stands_there)
    (c.in-Ok.ensures.done tells)
    (c.write_out.ensures.any_moment (c.in-Ok.ensures.durable tells))))

pub returns-clause-tell : goal.returns-clause-tell
returns-clause-tell g c = λ tells.
    let known = known_of c.args.self c.args.gates.now in
    let put = returns-clause-done g c tells in
    let old = (g.S.Store.disk c.args.store.now).cells in
    let new = (g.S.Store.disk c.write_out.new.store).cells in
    subst (λ (k : Open). GatesAre k (first_of c.args.self) new)
    (sym (ap (λ (x : Gates). known_of c.args.self x) c.set_known.ensures ∙ known_again c.args.self c.args.gates.now c.with_mark.result ∙ c.with_mark.ensures ∙ ap (λ (k : Open). with_mark k (place_of c.args.n)) c.known_of-known.ensures))
    (are_marked known (first_of c.args.self) c.args.n old new (c.requires.told tells) put.rest put.opened)

pub returns-clause-does : goal.returns-clause-does
returns-clause-does g c =
    let old = (g.S.Store.disk c.args.store.now).seen in
    let new = (g.S.Store.disk c.write_out.new.store).seen in
    let before = g.W.Watch.trace c.args.watch.now in
    let after = g.W.Watch.trace c.write_out.new.watch in
    let closes_is = closed_by c.args.self c.args.gates.now c.known_of-known.result c.is_closed_first-closes.result c.args.n c.known_of-known.ensures c.is_closed_first-closes.ensures in
    subst (λ b. SetDoes b (first_of c.args.self) c.args.n old new before after (Ok tt)) closes_is
    (subst (λ f. SetDoes c.is_closed_first-closes.result f c.args.n old new before after (Ok tt)) c.first-first.ensures
    (set_done _ _ _ _ _ _ c.is_closed_first-closes.result c.first-first.result c.args.n c.in-Ok.ensures.does.all c.in-Ok-write_out.ensures.told))

-- ---- what each of them says of the store

pub returns-in-Err-clause-serves : goal.returns-in-Err-clause-serves
returns-in-Err-clause-serves g c = serves_err IsFailed (IsSetFault c.args.self c.args.n) _ _ _ _ (λ told. tt) c.in-Err.ensures.serves

pub returns-in-Err-write_out-clause-serves : goal.returns-in-Err-write_out-clause-serves
returns-in-Err-write_out-clause-serves g c =
    let laid = c.lay_body.ensures.serves in
    serves_then (IsSetFault c.args.self c.args.n) _ (g.S.Store.disk c.lay_body.new.store) _ _ laid.goes laid.out c.in-Ok.ensures.serves.tells
    (serves_err IsFailed (IsSetFault c.args.self c.args.n) _ _ _ _ (λ told. tt) c.in-Err-write_out.ensures.serves)

pub returns-clause-serves : goal.returns-clause-serves
returns-clause-serves g c =
    let laid = c.lay_body.ensures.serves in
    let opened = c.write_out.ensures.serves in
    serves_then (IsSetFault c.args.self c.args.n) _ (g.S.Store.disk c.lay_body.new.store) _ _ laid.goes laid.out c.in-Ok.ensures.serves.tells
    (serves_ok (IsSetFault c.args.self c.args.n) _ _ _ opened.goes opened.out c.in-Ok-write_out.ensures.serves.tells)

pub returns-in-Err-clause-passes : goal.returns-in-Err-clause-passes
returns-in-Err-clause-passes g c = subst (λ f. Passes (SameOutside f) (g.S.Store.disk c.args.store.now) (g.S.Store.disk c.lay_body.new.store)) c.first-first.ensures c.lay_body.ensures.passes

pub returns-clause-durable : goal.returns-clause-durable
returns-clause-durable g c = λ tells. c.in-Ok-write_out.ensures.durable (c.in-Ok.ensures.serves.tells tells)

pub returns-clause-gates : goal.returns-clause-gates
returns-clause-gates g c =
    c.set_known.ensures ∙ ap (λ (k : Open). with_known c.args.self c.args.gates.now k) (c.with_mark.ensures ∙ ap (λ (k : Open). with_mark k (place_of c.args.n)) c.known_of-known.ensures)

-- ---- the cells behind a refusal

pub returns-in-Err-clause-refused : goal.returns-in-Err-clause-refused
returns-in-Err-clause-refused g c = λ tells.
    let tag = g.T.Stamper.tag c.args.stamper.now in
    let old = (g.S.Store.disk c.args.store.now).cells in
    let new = g.S.Store.disk c.lay_body.new.store in
    let closes_is = closed_by c.args.self c.args.gates.now c.known_of-known.result c.is_closed_first-closes.result c.args.n c.known_of-known.ensures c.is_closed_first-closes.ensures in
    subst (λ b. SetLeft tag b (first_of c.args.self) c.args.n new.seen old new.cells (Before (StoreFault None))) closes_is
    (subst (λ f. SetLeft tag c.is_closed_first-closes.result f c.args.n new.seen old new.cells (Before (StoreFault None))) c.first-first.ensures (c.in-Err.ensures.refused tells))

pub returns-in-Err-write_out-clause-refused : goal.returns-in-Err-write_out-clause-refused
returns-in-Err-write_out-clause-refused g c = λ tells.
    let tag = g.T.Stamper.tag c.args.stamper.now in
    let old = (g.S.Store.disk c.args.store.now).cells in
    let new = g.S.Store.disk c.write_out.new.store in
    let first = c.first-first.result in
    let place = place_of c.args.n in
    let there = c.write_out.ensures.serves.goes.told tells in
    let here = c.lay_body.ensures.serves.goes.told there in
    let laid = c.in-Ok.ensures.done here in
    subst (λ f. IsOpening tag f c.args.n new.seen old new.cells) c.first-first.ensures
    (record {
      body_is = c.write_out.ensures.rest there (body_at first place) (λ e. absurd (omega (arith, e))) ∙ laid.body;
      gate_is = subst (λ (l : List ℕ). IsWritten (gate_at first place) l new.seen new.cells) c.open_gate.ensures (c.in-Err-write_out.ensures.refused tells);
      rest = λ k off on. c.write_out.ensures.rest there k on ∙ laid.rest k off on;
    })

-- ---- what is left, by the notes

pub returns-in-Err-clause-stops : goal.returns-in-Err-clause-stops
returns-in-Err-clause-stops g c =
    let tag = g.T.Stamper.tag c.args.stamper.now in
    let old = g.S.Store.disk c.args.store.now in
    let new = g.S.Store.disk c.lay_body.new.store in
    let before = g.W.Watch.trace c.args.watch.now in
    let after = g.W.Watch.trace c.lay_body.new.watch in
    let closes_is = closed_by c.args.self c.args.gates.now c.known_of-known.result c.is_closed_first-closes.result c.args.n c.known_of-known.ensures c.is_closed_first-closes.ensures in
    subst (λ b. SetStops tag b (first_of c.args.self) c.args.n old new before after (Err (Before (StoreFault None)))) closes_is
    (subst (λ f. SetStops tag c.is_closed_first-closes.result f c.args.n old new before after (Err (Before (StoreFault None)))) c.first-first.ensures c.in-Err.ensures.stops)

pub returns-in-Err-write_out-clause-stops : goal.returns-in-Err-write_out-clause-stops
returns-in-Err-write_out-clause-stops g c =
    let tag = g.T.Stamper.tag c.args.stamper.now in
    let old = g.S.Store.disk c.args.store.now in
    let mid = g.S.Store.disk c.lay_body.new.store in
    let new = g.S.Store.disk c.write_out.new.store in
    let before = g.W.Watch.trace c.args.watch.now in
    let after = g.W.Watch.trace c.write_out.new.watch in
    let fault = StoreFault c.unsure_of.result in
    let closes_is = closed_by c.args.self c.args.gates.now c.known_of-known.result c.is_closed_first-closes.result c.args.n c.known_of-known.ensures c.is_closed_first-closes.ensures in
    subst (λ b. SetStops tag b (first_of c.args.self) c.args.n old new before after (Err (Unsure fault))) closes_is
    (subst (λ f. SetStops tag c.is_closed_first-closes.result f c.args.n old new before after (Err (Unsure fault))) c.first-first.ensures
    (opening_left tag c.first-first.result c.args.n c.is_closed_first-closes.result old mid new c.in-Ok.ensures.durable c.in-Ok.ensures.done c.write_out.ensures.passes))

pub returns-clause-stops : goal.returns-clause-stops
returns-clause-stops g c = tt

-- ---- at its moments

pub returns-in-Err-clause-moments : goal.returns-in-Err-clause-moments
returns-in-Err-clause-moments g c =
    let tag = g.T.Stamper.tag c.args.stamper.now in
    let old = c.args.store.now in
    let new = c.lay_body.new.store in
    let disk = g.S.Store.disk in
    let closes_is = closed_by c.args.self c.args.gates.now c.known_of-known.result c.is_closed_first-closes.result c.args.n c.known_of-known.ensures c.is_closed_first-closes.ensures in
    subst (λ b. SetMoments disk tag b (first_of c.args.self) c.args.n old new (Err (Before (StoreFault None)))) closes_is
    (subst (λ f. SetMoments disk tag c.is_closed_first-closes.result f c.args.n old new (Err (Before (StoreFault None)))) c.first-first.ensures
    (stopped_moments disk tag c.is_closed_first-closes.result c.first-first.result c.args.n old new (StoreFault None) c.in-Err.ensures.stages))

pub returns-in-Err-write_out-clause-moments : goal.returns-in-Err-write_out-clause-moments
returns-in-Err-write_out-clause-moments g c =
    let tag = g.T.Stamper.tag c.args.stamper.now in
    let old = c.args.store.now in
    let mid = c.lay_body.new.store in
    let new = c.write_out.new.store in
    let disk = g.S.Store.disk in
    let fault = StoreFault c.unsure_of.result in
    let closes = c.is_closed_first-closes.result in
    let first = c.first-first.result in
    let closes_is = closed_by c.args.self c.args.gates.now c.known_of-known.result closes c.args.n c.known_of-known.ensures c.is_closed_first-closes.ensures in
    subst (λ b. SetMoments disk tag b (first_of c.args.self) c.args.n old new (Err (Unsure fault))) closes_is
    (subst (λ f. SetMoments disk tag closes f c.args.n old new (Err (Unsure fault))) c.first-first.ensures
    (record {
      stages = opened_stages disk tag closes first c.args.n old mid new c.in-Ok.ensures.stages
          (opening_stage disk tag closes first c.args.n old mid new c.requires.small c.in-Ok.ensures.does.all.seen c.in-Ok.ensures.durable c.in-Ok.ensures.done c.write_out.ensures.any_moment);
      behind = λ tells under. tt;
    }))

pub returns-clause-moments : goal.returns-clause-moments
returns-clause-moments g c =
    let tag = g.T.Stamper.tag c.args.stamper.now in
    let old = c.args.store.now in
    let mid = c.lay_body.new.store in
    let new = c.write_out.new.store in
    let disk = g.S.Store.disk in
    let closes = c.is_closed_first-closes.result in
    let first = c.first-first.result in
    let closes_is = closed_by c.args.self c.args.gates.now c.known_of-known.result closes c.args.n c.known_of-known.ensures c.is_closed_first-closes.ensures in
    record {
      stages = subst (λ b. AreSetStages disk tag b (first_of c.args.self) c.args.n (StagesSet (Ok tt)) old new) closes_is
          (subst (λ f. AreSetStages disk tag closes f c.args.n (StagesSet (Ok tt)) old new) c.first-first.ensures
          (opened_stages disk tag closes first c.args.n old mid new c.in-Ok.ensures.stages
          (opening_stage disk tag closes first c.args.n old mid new c.requires.small c.in-Ok.ensures.does.all.seen c.in-Ok.ensures.durable c.in-Ok.ensures.done c.write_out.ensures.any_moment)));
      behind = λ tells under.
          put_everywhere tag (first_of c.args.self) c.args.n (disk old).cells (disk new) c.requires.small under (returns-clause-done g c tells) (c.in-Ok-write_out.ensures.durable (c.in-Ok.ensures.serves.tells tells));
    }
