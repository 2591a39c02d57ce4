use Rattle.std.specs.Prelude.{◌≡◌, ◌++◌, cond, false, map, nat_le, slice_index, slice_index_or}
use Rattle.ob_base.specs.Tree.{below}
use Rattle.ob_schedule.specs.Schedule.{counts_now}
use Rattle.ob_schedule.specs.Sides.{other}
use Rattle.ob_schedule.specs.Standing.{public_known}
use Rattle.ob_wants.specs.Shown.{standing_of}
use Rattle.ob_wants.proofs.standing.StandingPlain.push_after.Given as goal

abbrev pub invariant-loop-bucket : goal.invariant-loop-bucket
invariant-loop-bucket l = record {
  homes : l.homes.items ≡ l.initial.homes.items ++ map (λ u. cond (slice_index_or l.lifted u false) (other ((standing_of l.self).homes u)) ((standing_of l.self).homes u)) (below l.bucket);
  counts : l.counts.items ≡ l.initial.counts.items
      ++ map (λ u. cond (slice_index_or l.lifted u false) 0
      (cond (nat_le l.p.dummies (counts_now l.p (public_known l.p (standing_of l.self) l.leaves) u)) 0 (counts_now l.p (public_known l.p (standing_of l.self) l.leaves) u))) (below l.bucket);
  used : l.used.items ≡ l.initial.used.items ++ map (λ u. cond (slice_index_or l.lifted u false) 0 (slice_index l.self.used.items u)) (below l.bucket);
}
