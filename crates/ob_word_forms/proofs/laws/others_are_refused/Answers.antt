use Rattle.ob_word_forms.proofs.ReadForms.{no_words, no_name, format_short, run_short, audit_more, no_count, drill_more}
use Rattle.ob_word_forms.proofs.laws.others_are_refused.Goals as goal

pub returns : goal.returns
returns c = record { none = no_words; name = no_name; format = format_short; run = run_short; audit = audit_more; no_count = no_count; drill = drill_more }
