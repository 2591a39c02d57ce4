use Rattle.ob_ring_world.proofs.vaults.ring_vaults_are_over_rings.Goals as goal

pub returns : goal.returns
returns g c = record {
  over = record {
    words = record { called = λ v call answer notes w is. is; holds = λ v u is. is };
    sound = λ v u is. is;
    stands = λ v image at is. is;
    since = λ v w image left. left;
  };
}
