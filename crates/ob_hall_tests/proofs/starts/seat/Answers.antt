use Rattle.std.proofs.Common.{◌≡◌, ◌∙◌, ◌≤◌, All, List, length, suc, ℕ, sym, ap, refl, subst, arith}
use Rattle.std.proofs.lemmas.List.Elements.{All-nil, All-push}
use Rattle.ob_hall.specs.Passes.{Pass}
use Rattle.ob_hall_tests.specs.declared.visitor.Visitor.{Visitor}
use Rattle.ob_hall_tests.specs.Halls.{IsNewDriver, IsFresh, AreStarting, IsVisiting}
use Rattle.ob_hall_tests.proofs.Passes.{taken}
use Rattle.ob_hall_tests.proofs.Visits.{fresh_visiting, is_client, still_visiting}
use Rattle.ob_hall_tests.proofs.starts.seat.Goals as goal

pub loop-passes-init : goal.loop-passes-init
loop-passes-init g c =
    let none = ap length c.requires.none in
    let four = c.requires.three in
    record {
      left = subst (λ (ws : List (Pass × Visitor)). AreStarting c.args.hall.now (length ws) c.args.passes.now.items) (sym c.requires.none) c.requires.starting;
      visiting = subst (All (λ (x : Pass × Visitor). IsVisiting c.args.hall.now x.0 x.1.client x.1.gone)) (sym c.requires.none) (All-nil (λ (x : Pass × Visitor). IsVisiting c.args.hall.now x.0 x.1.client x.1.gone));
      count = omega (arith, none, four);
      room = c.requires.room;
      capacity = refl;
    }

pub run_unless-client-requires : goal.run_unless-client-requires
run_unless-client-requires g c =
    let i = c.loop-passes.invariant in
    let hall = c.args.hall.now in
    let many = c.loop-passes-test.true in
    let seen = c.len.ensures in
    let its = taken hall (IsNewDriver hall) (IsFresh hall) (length c.loop-passes.waiting.items) c.loop-passes.passes.items c.pop.new.self.items c.in-Some.pass i.left c.in-Some.ensures.items (omega (arith, many, seen)) in
    record {
      client = is_client (λ (v : Visitor). v.client) (λ v. v.gone) hall (c.in-Some.pass, c.new-visitor.result)
          (fresh_visiting hall c.in-Some.pass c.new-visitor.result.client c.new-visitor.result.gone its.1 (c.new-visitor.ensures.client ∙ c.number.ensures) c.new-visitor.ensures.here);
    }

pub loop-passes-preserved : goal.loop-passes-preserved
loop-passes-preserved g c =
    let i = c.loop-passes.invariant in
    let hall = c.args.hall.now in
    let before = c.loop-passes.waiting.items in
    let many = c.loop-passes-test.true in
    let seen = c.len.ensures in
    let its = taken hall (IsNewDriver hall) (IsFresh hall) (length before) c.loop-passes.passes.items c.pop.new.self.items c.in-Some.pass i.left c.in-Some.ensures.items (omega (arith, many, seen)) in
    let back = c.run_unless-client.result in
    let fresh = fresh_visiting hall c.in-Some.pass c.new-visitor.result.client c.new-visitor.result.gone its.1 (c.new-visitor.ensures.client ∙ c.number.ensures) c.new-visitor.ensures.here in
    let longer = c.push_reserved.ensures.len in
    let shorter = c.in-Some.ensures.cases in
    let count = i.count in
    let more : suc (length before) ≡ length c.push_reserved.new.self.items = omega (arith, longer) in
    record {
      left = subst (λ (n : ℕ). AreStarting hall n c.pop.new.self.items) more its.0;
      visiting = subst (All (λ (x : Pass × Visitor). IsVisiting hall x.0 x.1.client x.1.gone)) (sym c.push_reserved.ensures.items)
          (All-push (λ (x : Pass × Visitor). IsVisiting hall x.0 x.1.client x.1.gone) before back.0 i.visiting
          (still_visiting (λ (v : Visitor). v.client) (λ v. v.gone) hall (c.in-Some.pass, c.new-visitor.result) back.0 back.1 fresh c.run_unless-client.ensures.back));
      count = omega (arith, longer, shorter, count);
      room = subst (λ (n : ℕ). 3 ≤ n) (sym c.push_reserved.ensures.capacity) i.room;
      capacity = c.in-Some.ensures.capacity ∙ i.capacity;
    }
