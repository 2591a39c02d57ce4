-- A close: whom it ends, and what it keeps.
use Rattle.std.proofs.Common.{◌≡◌, ℕ, zero, suc, Bool, true, false, not, ◌&&◌, if◌then◌else◌, List, [], ◌∷◌, length, refl, sym, ap, ◌∙◌, arith}
use Rattle.std.proofs.lemmas.Bool.{false≢true}
use Rattle.ob_serial.specs.declared.records.Why.TheVariants.{EpochEnd}
use Rattle.ob_order.specs.Works.{Work, goes_on}
use Rattle.ob_order.proofs.Edits.{length-edit}
use Rattle.ob_order.proofs.Falls.{length-aborted}
use Rattle.ob_desk.specs.declared.clients.Holder.{Holder}
use Rattle.ob_desk.specs.Desk.{Part, end_of, end_unasked, close_to, closing, asked_at, note_cause, txns_from}
use Rattle.ob_outcomes.specs.Ends.{AllAsked, CloseLosesNone}

-- who asked isn't ended
end_unasked_none : (part : Part) (t : ℕ) → (goes_on part.order.works t ≡ true → asked_at part t ≡ true) → end_unasked part t ≡ part
end_unasked_none part t asked = step (goes_on part.order.works t) (asked_at part t) asked
  where
    step : (a b : Bool) → (a ≡ true → b ≡ true) → (if a && not b then end_of part t EpochEnd else part) ≡ part
    step false b h = refl
    step true true h = refl
    step true false h = absurd (false≢true (h refl))

close_to_none : (part : Part) (n : ℕ) → AllAsked part → close_to part n ≡ part
close_to_none part zero asked = refl
close_to_none part (suc n) asked = ap (λ (p : Part). end_unasked p (suc n)) (close_to_none part n asked) ∙ end_unasked_none part (suc n) (asked (suc n))

-- where all have asked a close aborts none
pub asked_outlast_close : (part : Part) → AllAsked part → closing part ≡ part
asked_outlast_close part asked = close_to_none part (length part.order.works) asked

-- ---- a close loses none

works_closed : (part : Part) (n : ℕ) → length (close_to part n).order.works ≡ length part.order.works
works_closed part zero = refl
works_closed part (suc n) = step (goes_on (close_to part n).order.works (suc n) && not (asked_at (close_to part n) (suc n))) ∙ works_closed part n
  where
    step : (b : Bool) → length (if b then end_of (close_to part n) (suc n) EpochEnd else close_to part n).order.works ≡ length (close_to part n).order.works
    step true = length-aborted (close_to part n).order.works (suc n)
    step false = refl

holders_closed : (part : Part) (n : ℕ) → length (close_to part n).holders ≡ length part.holders
holders_closed part zero = refl
holders_closed part (suc n) = step (goes_on (close_to part n).order.works (suc n) && not (asked_at (close_to part n) (suc n))) ∙ holders_closed part n
  where
    step : (b : Bool) → length (if b then end_of (close_to part n) (suc n) EpochEnd else close_to part n).holders ≡ length (close_to part n).holders
    step true = length-edit (note_cause EpochEnd) (close_to part n).holders (suc n)
    step false = refl

-- a record has each
pub length-txns_from : (epoch t : ℕ) (ws : List Work) (hs : List Holder) → length hs ≡ length ws → length (txns_from epoch t ws hs) ≡ length ws
length-txns_from epoch t [] hs e = refl
length-txns_from epoch t (w ∷ ws) [] e = absurd (omega arith)
length-txns_from epoch t (w ∷ ws) (h ∷ hs) e = ap suc (length-txns_from epoch (suc t) ws hs (omega arith))

pub close_loses_none : CloseLosesNone
close_loses_none part =
    let works = works_closed part (length part.order.works) in
    let holders = holders_closed part (length part.order.works) in
    record {
      works = works;
      holders = holders;
      told = λ even. length-txns_from (closing part).epoch 1 (closing part).order.works (closing part).holders (holders ∙ (even ∙ sym works)) ∙ works;
    }
