-- The record that is due of an epoch that was closed.
use Rattle.std.proofs.Common.{◌≡◌, ◌∙◌, ℕ, All, List, ◌∷◌, Option, refl, sym, ap, subst}
use Rattle.ob_base.specs.declared.params.Params.{Params}
use Rattle.ob_order.specs.Works.{last_writes}
use Rattle.ob_desk.specs.Desk as desk
use Rattle.ob_desk.specs.Desk.{DeskState, CloseStep, closing, record_of}
use Rattle.ob_desk.proofs.Ends.{closing-epoch}
use Rattle.ob_session.specs.Steps.{Leads}
use Rattle.ob_hall.specs.Passes.{Steps, IsNew}
use Rattle.ob_conduct.specs.Records.{Makes}
use Rattle.ob_conduct.specs.Ready.{IsFit, IsDueRecord}
use Rattle.ob_conduct.proofs.Fit.{fit_closing}
use Rattle.ob_conduct.proofs.Writes.{batch_makes, record_ordered}
use Rattle.ob_driver.specs.Resting.{IsMild}
use Rattle.ob_driver.proofs.Sound.{IsSound, chain_sound}

due_of : (p : Params) (d mid : DeskState) (writes : List (ℕ × Option (List ℕ))) → d.setup.params ≡ p → IsFit p d.running → CloseStep d writes mid → IsDueRecord d.running.epoch writes (record_of (closing d.running))
due_of p d mid writes params fit e = record {
  epoch_is = closing-epoch d.running;
  ordered = record_ordered (closing d.running);
  makes = subst (λ (ws : List (ℕ × Option (List ℕ))). Makes ws (record_of (closing d.running))) (ap (λ (q : Params). last_writes q.keys (closing d.running).order.works) (sym params) ∙ sym e.batch) (batch_makes p (closing d.running) (fit_closing p d.running fit));
}

-- It was closed at a desk that mild calls led to from a new one.
pub due_closed : (opened at new : DeskState) (front behind : Steps) (writes : List (ℕ × Option (List ℕ))) → IsNew opened → All IsMild front → Leads opened front at → Leads at ((desk.Close, desk.Writes writes) ∷ behind) new
    → IsDueRecord at.running.epoch writes (record_of (closing at.running))
due_closed opened at new front behind writes fresh mild led (there, may, e, rest) =
    let sound : IsSound opened.setup.params at = chain_sound opened.setup.params opened front at refl fresh led mild in
    due_of opened.setup.params at there writes sound.params sound.fit e
