use Rattle.std.proofs.Common.{sym, subst, Option}
use Rattle.ob_ring.specs.declared.found.Found.{Found}
use Rattle.ob_ring.specs.Paths.{IsFound, IsTakenOut}
use Rattle.ob_ring.specs.Picked.{spot_at}
use Rattle.ob_ring.proofs.PathLaws.{taken_none, taken_out}
use Rattle.ob_ring.proofs.path.take_out.Goals as goal

pub returns-in-Some-clause-found : goal.returns-in-Some-clause-found
returns-in-Some-clause-found c = subst (λ (r : Option Found). IsFound c.args.p.now c.args.metas.now c.args.key c.args.leaf r) c.in-Some.is c.find_key-found.ensures

pub returns-in-Some-clause-taken : goal.returns-in-Some-clause-taken
returns-in-Some-clause-taken c =
    taken_out c.args.p.now c.args.metas.now c.in-Some.at.bucket c.in-Some.at.index c.get_mut.result.now c.clear_key.new.self c.requires.whole (returns-in-Some-clause-found c).0 c.get_mut.ensures.value c.clear_key.ensures

pub returns-in_default-clause-found : goal.returns-in_default-clause-found
returns-in_default-clause-found c = c.find_key-found.ensures

pub returns-in_default-clause-taken : goal.returns-in_default-clause-taken
returns-in_default-clause-taken c =
    subst (λ (r : Option Found). IsTakenOut c.args.p.now c.args.metas.now c.args.metas.now (spot_at r)) (sym c.in_default.is) (taken_none c.args.p.now c.args.metas.now c.requires.whole)
