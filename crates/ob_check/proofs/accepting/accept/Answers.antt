use Rattle.std.proofs.Common.{Some, Option, inl, inr, ap, sym, subst, ◌∙◌, arith, List, Bool}
use Rattle.ob_cells.specs.Rules.{Rule, epoch_damage, told_of}
use Rattle.ob_check.specs.Marks.{AreMarked}
use Rattle.ob_check.specs.Rules.{placed_in}
use Rattle.ob_check.proofs.MarkLaws.{marked_none}
use Rattle.ob_check.proofs.PlaceLaws.{numbers_within}
use Rattle.ob_check.proofs.accepting.accept.Goals as goal

pub u64_at-kept-requires : goal.u64_at-kept-requires
u64_at-kept-requires c = omega (arith, numbers_within c.args.p.now, c.requires.long)

pub returns-then-kept-epoch : goal.returns-then-kept-epoch
returns-then-kept-epoch c = inl (record {
  differs = λ same. c.if-kept-epoch.true (c.u64_at-kept.ensures ∙ same);
  told_as = c.bad_epoch.ensures ∙ ap (λ n. epoch_damage c.args.base n c.args.epoch) c.u64_at-kept.ensures;
})

pub check_all-requires-clause-marked : goal.check_all-requires-clause-marked
check_all-requires-clause-marked c = subst (λ (marks : List Bool). AreMarked c.args.p.now.keys marks (placed_in c.args.p.now c.args.bytes.now 0)) (sym c.requires.placed) (marked_none c.args.p.now.keys)

pub fill-requires-clause-kept : goal.fill-requires-clause-kept
fill-requires-clause-kept c = sym c.in-None.ensures

pub returns-in-Some : goal.returns-in-Some
returns-in-Some c = inr (record {
  epoch_is = sym c.u64_at-kept.ensures ∙ c.if-kept-epoch.false;
  told_as = ap (λ (r : Option Rule). told_of c.args.base r) (sym c.in-Some.ensures) ∙ ap Some (sym c.told.ensures);
})

pub returns-in-None : goal.returns-in-None
returns-in-None c = (
  record { epoch_is = sym c.u64_at-kept.ensures ∙ c.if-kept-epoch.false; kept = sym c.in-None.ensures; told = c.fill.ensures.content },
  c.fill.ensures.obeys,
  c.fill.ensures.idle,
)
