use Rattle.std.proofs.Common.{refl}
use Rattle.ob_hall.specs.Passes.{Pass, NotesTurn}
use Rattle.ob_hall.proofs.Keeping.{noted_own}
use Rattle.ob_hall.proofs.driver.Hall.note.Goals as goal

pub note-requires-clause-own : goal.note-requires-clause-own
note-requires-clause-own c = c.requires.own.seat

pub note-requires-clause-inside : goal.note-requires-clause-inside
note-requires-clause-inside c = c.requires.inside

pub returns : goal.returns
returns c =
    let after : Pass = record c.args.pass.now { seat = c.note.new.seat } in
    let noted : NotesTurn c.args.pass.now after c.args.calls.value = record { notes = c.note.ensures.noted; beside = record { ear = refl; client = refl; last = refl } } in record {
      noted = noted;
      own = noted_own c.args.self.now c.args.pass.now after c.args.calls.value c.requires.own noted;
    }
