-- The set of an end's register in parts, as the schedule's phases.
use Rattle.std.specs.Prelude.{◌≡◌, ℕ, zero, suc, Bool, true, false, List, ◌++◌, Option}
use Rattle.std.proofs.Common.{refl, sym, ap, ◌∙◌, append_assoc}
use Rattle.ob_end.specs.Moments.{AreMadeBut}
use Rattle.ob_recover.proofs.Dealing.{HasLane, has_prepared, made_join, made_steps}
use Rattle.ob_schedule.proofs.Phased.{phases_append}
use Rattle.ob_schedule.specs.Phases.{Phase, phases_of}
use Rattle.ob_store.specs.Calls.{Notes}
use Rattle.ob_store.specs.Told.{events_of}
use Rattle.ob_store.specs.declared.event.Event.{Event}
use Rattle.ob_store.specs.declared.watch.Note.{Note}
use Rattle.ob_twin.specs.Orders.{set_notes}
use Rattle.ob_twin.specs.Stages.{made_before}
use Rattle.ob_vault.specs.Spans.{set_from}

-- what is made before a stage, and what isn't
set_parts : (closes : Bool) (n stage : ℕ) → set_notes closes 5 n ≡ made_before closes 5 n stage ++ set_from closes n stage
set_parts closes n zero = refl
set_parts true n (suc zero) = refl
set_parts false n (suc zero) = refl
set_parts closes n (suc (suc stage)) = refl

no_lane : (most : ℕ) (closes : Bool) (n stage : ℕ) → HasLane most (made_before closes 5 n stage)
no_lane most closes n zero = tt
no_lane most true n (suc zero) = tt
no_lane most false n (suc zero) = tt
no_lane most closes n (suc (suc stage)) = has_prepared most closes 5 n

-- all but the set was made, and then what comes before its stage
pub made_further : (most : ℕ) (closes : Bool) (n stage : ℕ) (phases : List Phase) (a b c : Option (List Event)) → AreMadeBut (set_notes closes 5 n) most phases a b → Notes (events_of (made_before closes 5 n stage)) b c → AreMadeBut (set_from closes n stage) most phases a c
made_further most closes n stage phases a b c but seen =
    let more : List Note = made_before closes 5 n stage in
    let rest : List Note = set_from closes n stage in
    record {
      first = but.first ++ phases_of more;
      split = but.split ∙ ap (λ (ns : List Note). but.first ++ phases_of ns) (set_parts closes n stage) ∙ ap (λ (ps : List Phase). but.first ++ ps) (phases_append more rest) ∙ sym (append_assoc but.first (phases_of more) (phases_of rest));
      made = made_join most but.first (phases_of more) a b c but.made (made_steps most more b c (no_lane most closes n stage) seen);
    }
