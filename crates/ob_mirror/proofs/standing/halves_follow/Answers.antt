use Rattle.ob_mirror.proofs.Alone.{follows_absorb, follows_lane, follows_none, follows_sync, follows_then, follows_write}
use Rattle.ob_mirror.proofs.standing.halves_follow.Goals as goal

pub returns : goal.returns
returns g c =
    let one = g.A.Store.disk in
    let two = g.B.Store.disk in
    let seen_a = g.A.Store.lane_seen in
    let faults_a = g.A.Store.lane_faults in
    let seen_b = g.B.Store.lane_seen in
    let faults_b = g.B.Store.lane_faults in
    record {
      none = λ a b. follows_none (one a) (two b);
      then = λ made more a c e b d f p q. follows_then made more (one a) (one c) (one e) (two b) (two d) (two f) p q;
      lane = λ a c b d result made. follows_lane seen_a faults_a seen_b faults_b one two a c b d result made;
      absorb = λ reads first second a c b d told back given. follows_absorb seen_a faults_a seen_b faults_b reads first second (one a) (one c) (two b) (two d) told back given;
      write = λ cell bytes result a c b d asked. follows_write cell bytes result (one a) (one c) (two b) (two d) asked;
      sync = λ result a c b d asked. follows_sync result (one a) (one c) (two b) (two d) asked;
    }
