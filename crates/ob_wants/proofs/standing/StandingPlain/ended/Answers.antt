use Rattle.std.specs.Prelude.{◌++◌, slice_index, slice_index_or, cond, nat_le, map, false}
use Rattle.std.proofs.Common.{◌∙◌, ℕ}
use Rattle.ob_base.specs.Tree.{below, buckets}
use Rattle.ob_schedule.specs.Schedule.{counts_now}
use Rattle.ob_schedule.specs.declared.want.Gate.TheVariants.{Open}
use Rattle.ob_schedule.specs.declared.want.Side.TheVariants.{Even}
use Rattle.ob_schedule.specs.Sides.{other}
use Rattle.ob_schedule.specs.Standing.{is_lifted, public_known}
use Rattle.ob_wants.specs.Rows.{in_rows, kept_number, has_bit}
use Rattle.ob_wants.specs.Seen.{label_shown}
use Rattle.ob_schedule.specs.Holes.{Hole}
use Rattle.ob_wants.specs.Shown.{standing_of}
use Rattle.ob_wants.proofs.RowLaws.{chosen_after, bits_left, kept_empty}
use Rattle.ob_wants.proofs.Within.{counts_left}
use Rattle.ob_wants.proofs.standing.StandingPlain.ended.Goals as goal

pub returns : goal.returns
returns c =
    let p = c.args.p.now in
    let s = standing_of c.args.self.now in
    let leaves = c.args.leaves.now in
    let marks = c.in_ok-lifted.lifted.items in
    let homes = (λ j u. slice_index_or (c.in_ok-push_after.ensures.0 j) u Even)
    ∙ (λ j u. slice_index_or (c.new-homes.ensures.items j ++ map (λ v. cond (slice_index_or (c.deref.ensures.value j) v false) (other (s.homes v)) (s.homes v)) (below (buckets p))) u Even)
    ∙ chosen_after (is_lifted p s leaves) marks (buckets p) (λ u b. cond b (other (s.homes u)) (s.homes u)) Even c.in_ok-lifted.ensures in
    let now : ℕ → ℕ = counts_now p (public_known p s leaves) in
    let left : ℕ → ℕ = λ u. cond (nat_le p.dummies (now u)) 0 (now u) in
    let counts = (λ j u. slice_index (c.in_ok-push_after.ensures.1 j) u)
    ∙ (λ j u. slice_index (c.new-counts.ensures.items j ++ map (λ v. cond (slice_index_or (c.deref.ensures.value j) v false) 0 (left v)) (below (buckets p))) u)
    ∙ chosen_after (is_lifted p s leaves) marks (buckets p) (λ u b. cond b 0 (left u)) 0 c.in_ok-lifted.ensures ∙ (λ j u. counts_left p s leaves u j) in
    let used = (λ j u x. has_bit (slice_index (c.in_ok-push_after.ensures.2 j) u) x)
    ∙ (λ j u x. has_bit (slice_index (c.new-used.ensures.items j ++ map (λ v. cond (slice_index_or (c.deref.ensures.value j) v false) 0 (slice_index c.args.self.now.used.items v)) (below (buckets p))) u) x)
    ∙ bits_left (is_lifted p s leaves) marks c.args.self.now.used.items (buckets p) c.in_ok-lifted.ensures in
    let slots = (λ j (h : Hole). kept_number (in_rows (c.new-2.ensures.items j) 0 h.bucket h.number)) ∙ (λ j h. kept_empty h.bucket h.number j) in
    λ j. record s {
      epoch = c.other.ensures j;
      homes = homes j;
      counts = counts j;
      counter = c.next_counter.ensures j;
      epoch_gate = Open;
      logged = 0;
      maybe = false;
      used = used j;
      labels = label_shown (c.new.ensures.items j);
      slots = slots j;
    }
