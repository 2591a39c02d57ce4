use Rattle.std.proofs.Common.{subst}
use Rattle.ob_hall.specs.Passes.{Steps, NotesTurn}
use Rattle.ob_driver.proofs.noting.note.Goals as goal

pub note-requires-clause-own : goal.note-requires-clause-own
note-requires-clause-own c = c.requires.own

pub note-requires-clause-inside : goal.note-requires-clause-inside
note-requires-clause-inside c = c.requires.inside

pub returns-clause-noted : goal.returns-clause-noted
returns-clause-noted c = subst (λ (calls : Steps). NotesTurn c.args.pass.now c.note.new.pass calls) c.noted.ensures c.note.ensures.noted

pub returns-clause-own : goal.returns-clause-own
returns-clause-own c = c.note.ensures.own
