use Rattle.std.proofs.Common.{◌≡◌, ◌≤◌, length, suc, ℕ, sym, subst, arith}
use Rattle.ob_hall.specs.Passes.{Pass}
use Rattle.ob_hall.specs.Calling.{IsReady}
use Rattle.ob_hall.proofs.Gathering.{first_items, last_item}
use Rattle.ob_hall_tests.specs.declared.visitor.Visitor.{Visitor}
use Rattle.ob_hall_tests.specs.Halls.{LeavesOpen, AreDone}
use Rattle.ob_hall_tests.proofs.Passes.{given, left_done}
use Rattle.ob_hall_tests.proofs.starts.unseat.Goals as goal

pub loop-k-init : goal.loop-k-init
loop-k-init c =
    let one = c.requires.one in
    let three = c.requires.three in
    record {
      done = subst (λ (n : ℕ). AreDone c.args.hall.now n c.args.passes.now.items) (sym three) (left_done c.args.hall.now 3 c.args.passes.now.items c.requires.left);
      ready = c.requires.ready;
      count = omega (arith, one, three);
      left = omega (arith, three);
      room = c.requires.room;
    }

pub loop-k-preserved : goal.loop-k-preserved
loop-k-preserved c =
    let i = c.loop-k.invariant in
    let hall = c.args.hall.now in
    let its = last_item (λ (x : Pass × Visitor). IsReady hall x.0) c.loop-k.back.items c.pop.new.self.items (c.in-Some.pass, c.in-Some.visitor) c.in-Some.ensures.items i.ready in
    let shorter = c.in-Some.ensures.cases in
    let longer = c.push_reserved.ensures.len in
    let count = i.count in
    let left = i.left in
    let less : length c.loop-k.back.items ≡ suc (length c.pop.new.self.items) = omega (arith, shorter) in
    record {
      done = given hall (LeavesOpen hall) (IsReady hall) (length c.pop.new.self.items) c.loop-k.passes.items c.push_reserved.new.self.items c.in-Some.pass (subst (λ (n : ℕ). AreDone hall n c.loop-k.passes.items) less i.done) c.push_reserved.ensures.items its;
      ready = first_items (λ (x : Pass × Visitor). IsReady hall x.0) c.loop-k.back.items c.pop.new.self.items (c.in-Some.pass, c.in-Some.visitor) c.in-Some.ensures.items i.ready;
      count = omega (arith, shorter, longer, count);
      left = omega (arith, shorter, left);
      room = subst (λ (n : ℕ). 4 ≤ n) (sym c.push_reserved.ensures.capacity) i.room;
    }
