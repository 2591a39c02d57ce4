use Rattle.std.proofs.Common.{map, ◌≡◌, ◌≤◌, vec_capacity}
use Rattle.ob_io.specs.Streams.{outflow}
use Rattle.ob_serial.specs.VaultKinds.{kind_of}
use Rattle.ob_desk.specs.Beats.{beat_kind}
use Rattle.ob_conduct.specs.Rounds.{InRounds}
use Rattle.ob_conduct.specs.Scenes.{scene, run_state, runner_kind}
use Rattle.ob_conduct.proofs.Conducting.{Going}
use Rattle.ob_conduct.proofs.serving.run_rounds.Given as goal

abbrev pub invariant-loop : goal.invariant-loop
invariant-loop g l = record {
  params : g.V.Vault.params l.vault ≡ l.params;
  beat : g.B.Beat.anchors l.beat ≡ g.B.Beat.anchors l.fn.beat;
  room : l.params.writes ≤ vec_capacity l.writes;
  going : Going (kind_of g.V.Vault) (runner_kind g.U.Runner.client g.U.Runner.bound g.U.Runner.plan g.U.Runner.fits g.U.Runner.turn) l.params (beat_kind g.B.Beat.passes g.B.Beat.exact)
      (run_state (scene l.fn.desk l.fn.vault (g.W.Watch.trace l.fn.watch)) l.fn.runners (outflow g.O.Sink l.fn.output)) (InRounds (map g.U.Runner.client l.fn.runners))
      (run_state (scene l.desk l.vault (g.W.Watch.trace l.watch)) l.runners (outflow g.O.Sink l.output)) (g.V.Vault.counts l.vault);
}
