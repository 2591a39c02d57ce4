use Rattle.std.proofs.Common.{◌≤◌, ◌∙◌, All, length, sym, ap, subst, arith}
use Rattle.std.specs.Prelude.{vec_capacity}
use Rattle.ob_io.specs.Streams.{outflow}
use Rattle.ob_serial.specs.VaultKinds.{kind_of}
use Rattle.ob_desk.specs.Beats.{beat_kind}
use Rattle.ob_driver.specs.Driven.{side}
use Rattle.ob_threads.specs.Served.{words, IsClient}
use Rattle.ob_threads.specs.Starts.{HasItsPlace}
use Rattle.ob_threads.proofs.Eaching.{each-length}
use Rattle.ob_run.proofs.Meeting.{back_same}
use Rattle.ob_run.proofs.DriverEnding.{ends_back, crew_waited, crew_back}
use Rattle.ob_run.proofs.serving.serve.Goals as goal

pub drive_beside-result-requires-clause-clients : goal.drive_beside-result-requires-clause-clients
drive_beside-result-requires-clause-clients g c κs within =
    subst (λ l. All (IsClient (words g.U.Runner.client g.U.Runner.bound g.U.Runner.plan g.U.Runner.fits g.U.Runner.turn) c.args.hall.now) l) (sym (ap (λ v. v.items) c.replace-waiting.ensures.value)) c.requires.clients

pub drive_beside-result-requires-clause-room : goal.drive_beside-result-requires-clause-room
drive_beside-result-requires-clause-room g c κs within =
    let ok = c.args.clients.now.ok in
    let many = c.len.ensures in
    let room = c.in-Ok.ensures.room.0 in
    subst (λ l. length l ≤ vec_capacity c.in-Ok.places.crew.started) (sym (ap (λ v. v.items) c.replace-waiting.ensures.value)) (omega (arith, ok.0, many, room))

pub join_all-requires : goal.join_all-requires
join_all-requires g c =
    let w = words g.U.Runner.client g.U.Runner.bound g.U.Runner.plan g.U.Runner.fits g.U.Runner.turn in
    let d = c.drive_beside-result in
    let started = d.new.team.crew.started.items in
    let same = ap (λ v. v.items) c.replace-waiting.ensures.value in
    let after = c.replace-waiting.ensures.after in
    let all = each-length (HasItsPlace w c.args.hall.now) c.replace-waiting.result.items started d.ensures.placed in
    let taken = ap length same in
    let ok = c.args.clients.now.ok in
    let many = c.len.ensures in
    let room = c.in-Ok.ensures.room.1 in
    record {
      placed = crew_waited w c.args.hall.now c.args.clients.now.items c.replace-waiting.result.items started c.requires.clients same d.ensures.placed;
      none = ap (λ v. v.items) after ∙ c.in-Ok.ensures.none.1;
      room = subst (λ v. length started ≤ vec_capacity v) (sym after) (omega (arith, ok.0, all, taken, many, room));
    }

pub returns-in_default-clause-back : goal.returns-in_default-clause-back
returns-in_default-clause-back g c = back_same (words g.U.Runner.client g.U.Runner.bound g.U.Runner.plan g.U.Runner.fits g.U.Runner.turn) c.args.hall.now c.args.clients.now.items

pub returns-clause-back : goal.returns-clause-back
returns-clause-back g c =
    let d = c.drive_beside-result in
    crew_back (words g.U.Runner.client g.U.Runner.bound g.U.Runner.plan g.U.Runner.fits g.U.Runner.turn) c.args.hall.now c.args.clients.now.items c.replace-waiting.result.items d.new.team.crew.started.items c.join_all.new.clients.items (ap (λ v. v.items) c.replace-waiting.ensures.value)
    d.ensures.placed c.join_all.ensures.joined

pub returns-clause-ends : goal.returns-clause-ends
returns-clause-ends g c =
    let d = c.drive_beside-result in
    let flags = ap length c.as_slice.ensures.value ∙ c.in-Ok.ensures.flags in
    ends_back (kind_of g.V.Vault) (beat_kind g.B.Beat.passes g.B.Beat.exact) (words g.U.Runner.client g.U.Runner.bound g.U.Runner.plan g.U.Runner.fits g.U.Runner.turn) c.args.hall.now c.args.starts (length c.as_slice.result.now) c.args.clients.now.items
    c.replace-waiting.result.items d.new.team.crew.started.items c.join_all.new.clients.items
    (side c.args.pass.now c.args.vault.now (g.W.Watch.trace c.args.watch.now) (outflow g.O.Sink c.args.output.now)) (g.V.Vault.counts c.args.vault.now)
    (side d.new.pass d.new.vault (g.W.Watch.trace d.new.watch) (outflow g.O.Sink d.new.output)) (g.V.Vault.counts d.new.vault) d.result
    flags (ap (λ v. v.items) c.replace-waiting.ensures.value) c.join_all.ensures.joined d.ensures.ends
