use Rattle.std.proofs.Common.{◌∙◌}
use Rattle.std.proofs.lemmas.Result.{IfOk-from_err}
use Rattle.ob_versions.proofs.Readers.{notes_same, notes_then, notes_one}
use Rattle.ob_versions.proofs.ledger.note_reader.Goals as goal

pub returns-in_err-make_room-clause-ok : goal.returns-in_err-make_room-clause-ok
returns-in_err-make_room-clause-ok c = IfOk-from_err c.from_residual.result _ c.from_residual.ensures.0

pub returns-in_err-note-clause-ok : goal.returns-in_err-note-clause-ok
returns-in_err-note-clause-ok c = IfOk-from_err c.from_residual-in_err-note.result _ c.from_residual-in_err-note.ensures.0

pub returns-in_err-make_room-clause-notes : goal.returns-in_err-make_room-clause-notes
returns-in_err-make_room-clause-notes c = notes_same c.args.table.now c.make_room.new.table c.args.t c.make_room.ensures.readers

pub returns-in_err-note-clause-notes : goal.returns-in_err-note-clause-notes
returns-in_err-note-clause-notes c = notes_same c.args.table.now c.note.new.table c.args.t (λ k u. c.in_err-note.ensures.err k u ∙ c.make_room.ensures.readers k u)

pub returns-in_err-note-clause-links : goal.returns-in_err-note-clause-links
returns-in_err-note-clause-links c = λ k u. c.note.ensures.links k u ∙ c.make_room.ensures.links k u

pub returns-in_err-note-clause-bases : goal.returns-in_err-note-clause-bases
returns-in_err-note-clause-bases c = λ k. c.note.ensures.bases k ∙ c.make_room.ensures.bases k

pub returns-in_err-note-clause-keys : goal.returns-in_err-note-clause-keys
returns-in_err-note-clause-keys c = λ k. c.note.ensures.keys k ∙ c.make_room.ensures.keys k

pub returns-clause-notes : goal.returns-clause-notes
returns-clause-notes c =
    let first = notes_same c.args.table.now c.make_room.new.table c.args.t c.make_room.ensures.readers in
    notes_then c.args.table.now c.make_room.new.table c.note.new.table c.args.t first (notes_one c.make_room.new.table c.note.new.table c.args.key c.args.t c.in_ok-note.ensures.ok)

pub returns-clause-links : goal.returns-clause-links
returns-clause-links c = λ k u. c.note.ensures.links k u ∙ c.make_room.ensures.links k u

pub returns-clause-bases : goal.returns-clause-bases
returns-clause-bases c = λ k. c.note.ensures.bases k ∙ c.make_room.ensures.bases k

pub returns-clause-keys : goal.returns-clause-keys
returns-clause-keys c = λ k. c.note.ensures.keys k ∙ c.make_room.ensures.keys k
