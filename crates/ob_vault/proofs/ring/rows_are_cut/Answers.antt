use Rattle.std.proofs.Common.{refl}
use Rattle.ob_end.proofs.Rows.{all_closes, before_closes, behind_lifts, up_closes}
use Rattle.ob_schedule.specs.Schedule.{batch_leaves, phase_notes}
use Rattle.ob_vault.proofs.ring.rows_are_cut.Goals as goal

pub returns : goal.returns
returns c = record {
  closes = λ p q f. all_closes p q.known f;
  opens = λ p q f. up_closes p q.known f;
  lifts = λ p q f. (behind_lifts p q.known f, before_closes p q.known f);
  logs = λ p q f. (phase_notes p q.known f (batch_leaves p f q.shown), refl);
}
