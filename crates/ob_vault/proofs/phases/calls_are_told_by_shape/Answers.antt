use Rattle.ob_vault.proofs.Shapes as shapes
use Rattle.ob_vault.proofs.phases.calls_are_told_by_shape.Goals as goal

pub returns-clause-join : goal.returns-clause-join
returns-clause-join c = shapes.shapes_join

pub returns-clause-each : goal.returns-clause-each
returns-clause-each c = shapes.answered_have_shapes

pub returns-clause-none : goal.returns-clause-none
returns-clause-none c = shapes.answered_not_refused

pub returns-clause-of : goal.returns-clause-of
returns-clause-of c = shapes.shapes_of_answered
