use Rattle.ob_schedule.specs.Schedule.{format_notes}
use Rattle.ob_schedule.proofs.Told.{notes_format, notes_record, notes_set, notes_open, notes_end}
use Rattle.ob_schedule.proofs.laws.notes_are_scheduled.Goals as goal

pub returns : goal.returns
returns c = record { formats = λ p. notes_format (format_notes p); records = notes_record; settings = notes_set; opens = notes_open; ends = notes_end }
