use Rattle.std.proofs.Common.{◌≡◌}
use Rattle.ob_io.specs.Streams.{outflow}
use Rattle.ob_serial.specs.VaultKinds.{kind_of}
use Rattle.ob_desk.specs.Beats.{beat_kind}
use Rattle.ob_driver.specs.Resting.{params_of}
use Rattle.ob_driver.specs.Rooms.{HasRoom}
use Rattle.ob_driver.specs.Driven.{side}
use Rattle.ob_driver.specs.Places.{AreInRounds}
use Rattle.ob_driver.specs.Drives.{DoneThings}
use Rattle.ob_driver.proofs.driving.drive_on.Given as goal

abbrev pub invariant-loop : goal.invariant-loop
invariant-loop g l = record {
  params : g.V.Vault.params l.vault ≡ params_of l.hall;
  room : HasRoom (params_of l.hall) l.room;
  anchors : g.B.Beat.anchors l.beat ≡ g.B.Beat.anchors l.fn.beat;
  hands : g.H.Hands.ready l.hall l.hands;
  done : DoneThings (kind_of g.V.Vault) (beat_kind g.B.Beat.passes g.B.Beat.exact) l.hall (λ acts. (q : AreInRounds (g.H.Hands.round l.hall) l.fn.hands l.hands l.fn.pass l.pass acts) × (q.count ≡ l.turns))
      (side l.fn.pass l.fn.vault (g.W.Watch.trace l.fn.watch) (outflow g.O.Sink l.fn.output)) (g.V.Vault.counts l.fn.vault)
      (side l.pass l.vault (g.W.Watch.trace l.watch) (outflow g.O.Sink l.output)) (g.V.Vault.counts l.vault);
}
