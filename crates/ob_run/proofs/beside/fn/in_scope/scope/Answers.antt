use Rattle.std.proofs.Common.{◌≡◌, ◌≤◌, ◌∙◌, All, length, drop, map, refl, sym, ap, subst}
use Rattle.std.specs.Prelude.{vec_capacity}
use Rattle.ob_io.specs.Streams.{outflow}
use Rattle.ob_serial.specs.VaultKinds.{kind_of}
use Rattle.ob_desk.specs.Beats.{beat_kind}
use Rattle.ob_driver.specs.Driven.{side}
use Rattle.ob_threads.specs.Served.{words, IsClient}
use Rattle.ob_threads.specs.Starts.{Each, HasItsPlace, IsAsItCame, stays}
use Rattle.ob_threads.proofs.Placing.{all_met}
use Rattle.ob_run.proofs.DriverEnding.{placed_last, ends_out}
use Rattle.ob_run.proofs.beside.fn.in_scope.scope.Goals as goal

pub start_all-requires-clause-clients : goal.start_all-requires-clause-clients
start_all-requires-clause-clients g c κs within =
    subst (All (IsClient (words g.U.Runner.client g.U.Runner.bound g.U.Runner.plan g.U.Runner.fits g.U.Runner.turn) c.captures.hall.now)) (sym (ap (λ v. v.items) c.replace-clients.ensures.value)) c.requires.2

pub start_all-requires-clause-none : goal.start_all-requires-clause-none
start_all-requires-clause-none g c κs within = c.requires.3

pub start_all-requires-clause-room : goal.start_all-requires-clause-room
start_all-requires-clause-room g c κs within = subst (λ l. length l ≤ vec_capacity c.captures.team.now.crew.started) (sym (ap (λ v. v.items) c.replace-clients.ensures.value)) c.requires.4

pub drive_lent-lent-requires-clause-params : goal.drive_lent-lent-requires-clause-params
drive_lent-lent-requires-clause-params g c κs within = c.requires.0

pub drive_lent-lent-requires-clause-first : goal.drive_lent-lent-requires-clause-first
drive_lent-lent-requires-clause-first g c κs within = c.requires.1

pub drive_lent-lent-requires-clause-room : goal.drive_lent-lent-requires-clause-room
drive_lent-lent-requires-clause-room g c κs within = c.requires.5

pub drive_lent-lent-requires-clause-whole : goal.drive_lent-lent-requires-clause-whole
drive_lent-lent-requires-clause-whole g c κs within = c.requires.6

pub drive_lent-lent-requires-clause-hands : goal.drive_lent-lent-requires-clause-hands
drive_lent-lent-requires-clause-hands g c κs within =
    let w = words g.U.Runner.client g.U.Runner.bound g.U.Runner.plan g.U.Runner.fits g.U.Runner.turn in
    let same = ap (λ v. v.items) c.replace-clients.ensures.value in
    all_met w c.captures.hall.now c.captures.team.now.waiting.items c.start_all.new.started.items c.requires.2 (subst (λ l. Each (HasItsPlace w c.captures.hall.now) l c.start_all.new.started.items) same c.start_all.ensures.placed)

pub returns : goal.returns
returns g c =
    let w = words g.U.Runner.client g.U.Runner.bound g.U.Runner.plan g.U.Runner.fits g.U.Runner.turn in
    let d = c.drive_lent-lent in
    let same = ap (λ v. v.items) c.replace-clients.ensures.value in
    let flags = length c.captures.flags.now in
    let first = c.start_all.new.started.items in
    let started = subst (λ l. Each (HasItsPlace w c.captures.hall.now) l first) same c.start_all.ensures.placed in
    let came = subst (λ l. Each IsAsItCame l first) same c.start_all.ensures.came in
    let others = subst (λ l. drop flags first ≡ map stays (drop flags l)) same c.start_all.ensures.others in
    let before = side c.captures.lent.pass.now c.captures.lent.vault.now (g.W.Watch.trace c.captures.lent.watch.now) (outflow g.O.Sink c.captures.lent.output.now) in
    let after = side d.result.0.pass.now d.result.0.vault.now (g.W.Watch.trace d.result.0.watch.now) (outflow g.O.Sink d.result.0.output.now) in
    let placed = placed_last (kind_of g.V.Vault) (beat_kind g.B.Beat.passes g.B.Beat.exact) w c.captures.hall.now (λ crew. crew.started.items) c.captures.team.now.waiting.items (record { started = c.start_all.new.started }) d.new.hands started
    before (g.V.Vault.counts c.captures.lent.vault.now) after (g.V.Vault.counts d.result.0.vault.now) d.result.1 d.ensures.ends in
    let ended = ends_out (kind_of g.V.Vault) (beat_kind g.B.Beat.passes g.B.Beat.exact) w c.captures.hall.now (λ crew. crew.started.items) c.captures.team.now.waiting.items (record { started = c.start_all.new.started }) d.new.hands started
    before (g.V.Vault.counts c.captures.lent.vault.now) after (g.V.Vault.counts d.result.0.vault.now) d.result.1 d.ensures.ends flags came others in
    let none = ap (λ v. v.items) c.replace-clients.ensures.after ∙ c.new.ensures.items in
    (d.ensures.pass_name, d.ensures.vault_name, d.ensures.watch_name, d.ensures.beat_name, d.ensures.output_name, refl, d.ensures.params, d.ensures.anchors, none, placed, ended)
