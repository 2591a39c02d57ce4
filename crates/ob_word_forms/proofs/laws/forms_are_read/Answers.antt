use Rattle.ob_word_forms.proofs.ReadForms.{format_law, run_law, audit_law, drill_law}
use Rattle.ob_word_forms.proofs.laws.forms_are_read.Goals as goal

pub returns : goal.returns
returns c = record { format = format_law; run = run_law; audit = audit_law; drill = drill_law }
