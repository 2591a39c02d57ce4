use Rattle.std.proofs.Common.{◌∙◌, sym, ap}
use Rattle.ob_io.specs.Streams.{outflow}
use Rattle.ob_serial.specs.VaultKinds.{kind_of}
use Rattle.ob_desk.specs.Beats.{beat_kind}
use Rattle.ob_driver.specs.Driven.{side}
use Rattle.ob_threads.specs.Served.{words}
use Rattle.ob_run.proofs.DriverEnding.{ends_told}
use Rattle.ob_run.proofs.serving.drive_beside.Goals as goal

pub returns-clause-ends : goal.returns-clause-ends
returns-clause-ends g c =
    let s = c.in_scope-lent in
    let p = c.into_parts-pass in
    let team = c.team-1.given.1 (sym s.ensures.team_name) ∙ c.finish.ensures in
    let pass = c.pass-1.given.1 (sym (p.ensures.pass_name ∙ s.ensures.pass_name)) ∙ (c.finish-6.ensures ∙ p.ensures.pass) in
    let vault = c.vault-1.given.1 (sym (p.ensures.vault_name ∙ s.ensures.vault_name)) ∙ (c.finish-5.ensures ∙ p.ensures.vault) in
    let watch = c.watch-1.given.1 (sym (p.ensures.watch_name ∙ s.ensures.watch_name)) ∙ (c.finish-4.ensures ∙ p.ensures.watch) in
    let output = c.output-1.given.1 (sym (p.ensures.output_name ∙ s.ensures.output_name)) ∙ (c.finish-2.ensures ∙ p.ensures.output) in
    ends_told (kind_of g.V.Vault) (beat_kind g.B.Beat.passes g.B.Beat.exact) (words g.U.Runner.client g.U.Runner.bound g.U.Runner.plan g.U.Runner.fits g.U.Runner.turn) c.args.hall.now _ c.args.team.now.waiting.items _ _
    _ (g.V.Vault.counts c.args.vault.now) _ _ _ _ s.result.2 (ap (λ t. t.crew.started.items) team) (λ i. side (pass i) (vault i) (g.W.Watch.trace (watch i)) (outflow g.O.Sink (output i))) (ap (λ v. g.V.Vault.counts v) vault) s.ensures.ends
