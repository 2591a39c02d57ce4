use Rattle.std.proofs.Common.{◌∙◌, ap, arith, length}
use Rattle.ob_shares.proofs.Fitting.{none_fit}
use Rattle.ob_desk.specs.Desk.{DeskState, setup_of}
use Rattle.ob_hall.specs.Rounds.{rounds_of}
use Rattle.ob_hall_tests.proofs.Passes.{starting, as_many}
use Rattle.ob_hall_tests.proofs.halls.opened.Goals as goal

pub new-requires-3 : goal.new-requires-3
new-requires-3 g c = record {
  opens = (
    setup_of c.in-Ok.params,
    1,
    1,
    (let batches = c.in-Ok.ensures.made.4 in record {
      few_left = omega (arith, batches);
      low_epoch = omega arith;
      named = c.requires.named;
      rising = c.requires.rising;
      fit = none_fit (length c.args.clients.now) _ _;
    }),
    c.in-Ok-new.ensures,
  );
}

pub returns-clause-starting : goal.returns-clause-starting
returns-clause-starting g c =
    let made = c.in-Ok-new-2.ensures.desk ∙ c.in-Ok-new.ensures in
    starting c.in-Ok-new-2.hall c.args.clients.now c.in-Ok-new-2.passes.items c.in-Ok-new-2.ensures.passes
    (ap (λ (d : DeskState). d.setup.params.keys) made ∙ c.in-Ok.ensures.made.0)
    (ap (λ (d : DeskState). (rounds_of d).has_closed) made)

pub returns-clause-as_many : goal.returns-clause-as_many
returns-clause-as_many g c = as_many c.in-Ok-new-2.hall c.args.clients.now c.in-Ok-new-2.passes.items c.in-Ok-new-2.ensures.passes (returns-clause-starting g c)
