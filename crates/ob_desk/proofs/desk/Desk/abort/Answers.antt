use Rattle.std.proofs.Common.{refl, sym, ◌∙◌, inl}
use Rattle.ob_desk.specs.Desk.{outcome_at}
use Rattle.ob_desk.proofs.Allowed.{was_aborted}
use Rattle.ob_desk.proofs.desk.Desk.abort.Goals as goal

pub returns-in-Some : goal.returns-in-Some
returns-in-Some c = record {
  step = inl (record {
    earlier = was_aborted (outcome_at c.args.self.now c.args.txn.now) c.in-Some.why (sym c.why_aborted.ensures ∙ c.in-Some.is);
    same = refl;
  });
}
