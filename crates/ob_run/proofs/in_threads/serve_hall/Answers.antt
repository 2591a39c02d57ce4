use Rattle.std.proofs.Common.{◌∙◌, length, map, ap, arith}
use Rattle.std.proofs.lemmas.List.{length-map}
use Rattle.ob_io.specs.Streams.{outflow}
use Rattle.ob_serial.specs.VaultKinds.{kind_of}
use Rattle.ob_desk.specs.Beats.{beat_kind}
use Rattle.ob_driver.specs.Driven.{side}
use Rattle.ob_run.proofs.Entries.{histories_weave}
use Rattle.ob_run.proofs.Over.{over_runs}
use Rattle.ob_run.proofs.Idle.{idle_halls}
use Rattle.ob_threads.specs.Served.{words, IsLater}
use Rattle.ob_threads.proofs.Eaching.{each-length}
use Rattle.ob_run.proofs.Opening.{first_pass, as_many}
use Rattle.ob_run.proofs.Laws.{own_calls, failed_runs}
use Rattle.ob_run.proofs.HallServing.{clients, handed_back, in_threads}
use Rattle.ob_run.proofs.in_threads.serve_hall.Goals as goal

pub seat_all-requires-clause-many : goal.seat_all-requires-clause-many
seat_all-requires-clause-many g c =
    let many = as_many c.args.opened.hall (map g.U.Runner.client c.args.runners.now.items) c.args.opened.driver c.args.opened.passes.items c.requires.passes in
    let named = length-map c.args.runners.now.items g.U.Runner.client in
    omega (arith, many, named)

pub serve-result-requires-clause-first : goal.serve-result-requires-clause-first
serve-result-requires-clause-first g c κs within =
    first_pass c.args.opened.hall (map g.U.Runner.client c.args.runners.now.items) c.args.opened.driver c.args.opened.passes.items c.requires.passes c.args.params.now _ (g.V.Vault.counts c.args.vault.now) c.requires.fresh c.requires.serves

pub serve-result-requires-clause-clients : goal.serve-result-requires-clause-clients
serve-result-requires-clause-clients g c κs within =
    clients (kind_of g.V.Vault) (beat_kind g.B.Beat.passes g.B.Beat.exact) g.U.Runner.client g.U.Runner.bound g.U.Runner.plan g.U.Runner.fits g.U.Runner.turn c.args.params.now c.args.opened.hall _ (g.V.Vault.counts c.args.vault.now) c.args.runners.now.items
    c.args.opened.passes.items c.seat_all.new.clients.items
    (side c.args.opened.driver c.args.vault.now (g.W.Watch.trace c.args.watch.now) (outflow g.O.Sink c.args.output.now)) c.requires.fresh c.requires.serves c.requires.passes c.seat_all.ensures.runners
    c.seat_all.ensures.passes c.requires.below c.requires.none_made c.args.starts

pub close_hall-requires : goal.close_hall-requires
close_hall-requires g c =
    let back = handed_back (kind_of g.V.Vault) (beat_kind g.B.Beat.passes g.B.Beat.exact) g.U.Runner.client g.U.Runner.bound g.U.Runner.plan g.U.Runner.fits g.U.Runner.turn c.args.params.now c.args.opened.hall _ (g.V.Vault.counts c.args.vault.now)
    c.args.runners.now.items c.args.opened.passes.items c.seat_all.new.clients.items
    (side c.args.opened.driver c.args.vault.now (g.W.Watch.trace c.args.watch.now) (outflow g.O.Sink c.args.output.now)) c.requires.fresh c.requires.serves c.requires.passes c.seat_all.ensures.runners
    c.seat_all.ensures.passes c.requires.below c.requires.none_made c.args.starts
    (side c.serve-result.new.pass c.serve-result.new.vault (g.W.Watch.trace c.serve-result.new.watch) (outflow g.O.Sink c.serve-result.new.output)) (g.V.Vault.counts c.serve-result.new.vault) c.serve-result.new.clients.items c.serve-result.result
    c.serve-result.ensures.back c.serve-result.ensures.ends in
    let all = each-length (IsLater (words g.U.Runner.client g.U.Runner.bound g.U.Runner.plan g.U.Runner.fits g.U.Runner.turn) c.args.opened.hall) c.seat_all.new.clients.items c.serve-result.new.clients.items c.serve-result.ensures.back in
    let seated = length-map c.seat_all.new.clients.items (λ x. x.1) in
    let runners = ap length c.seat_all.ensures.runners in
    let kept = c.seat_all.ensures.kept in
    let some = c.args.runners.now.ok in
    let more = c.requires.room.1 in
    record { own = back.0; idle = back.1; all = back.2; none = c.seat_all.ensures.taken; room = (omega (arith, all, seated, runners, kept.0, some.0, some.1), omega (arith, all, seated, runners, kept.1, more)) }

pub returns-clause-done : goal.returns-clause-done
returns-clause-done g c =
    let whole = c.close_hall.ensures.whole in (
      whole.0,
      in_threads (kind_of g.V.Vault) (beat_kind g.B.Beat.passes g.B.Beat.exact) g.U.Runner.client g.U.Runner.bound g.U.Runner.plan g.U.Runner.fits g.U.Runner.turn c.args.params.now c.args.opened.hall _ (g.V.Vault.counts c.args.vault.now) c.args.runners.now.items
          c.args.opened.passes.items c.seat_all.new.clients.items
          (side c.args.opened.driver c.args.vault.now (g.W.Watch.trace c.args.watch.now) (outflow g.O.Sink c.args.output.now)) c.requires.fresh c.requires.serves c.requires.passes c.seat_all.ensures.runners
          c.seat_all.ensures.passes c.requires.below c.requires.none_made c.args.starts
          (side c.serve-result.new.pass c.serve-result.new.vault (g.W.Watch.trace c.serve-result.new.watch) (outflow g.O.Sink c.serve-result.new.output)) (g.V.Vault.counts c.serve-result.new.vault) c.serve-result.new.clients.items c.serve-result.result
          c.serve-result.ensures.back c.serve-result.ensures.ends
          c.close_hall.new.runners.items whole.0 c.close_hall.ensures.runners whole.1 c.requires.opens (histories_weave (kind_of g.V.Vault)) own_calls c.requires.quiet (over_runs (kind_of g.V.Vault)) (failed_runs (kind_of g.V.Vault)) idle_halls,
    )
