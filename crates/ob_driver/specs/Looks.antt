-- What the driver decides at a look, and how it goes on.
use Rattle.std.specs.Prelude.{◌≡◌, List, [], ◌∷◌}
use Rattle.ob_desk.specs.Beats.{BeatKind}
use Rattle.ob_desk.specs.declared.calls.Look.{Look}
use Rattle.ob_conduct.specs.Acts.{Act, Rests, Takes, Closes, MayAct, MayRest, IsToFetch, IsToEnd}
use Rattle.ob_driver.specs.declared.plan.Plan.{Plan}
use Rattle.ob_driver.specs.declared.plan.Plan.TheVariants as plan
use Rattle.ob_driver.specs.declared.round.Round.{Round}
use Rattle.ob_driver.specs.declared.round.Round.TheVariants as rounds

-- no client and no transaction is left
abbrev pub IsLastLook : Look → Type 0
IsLastLook look = (look.clients ≡ 0) × (look.txns ≡ 0)

-- this may be done at this look
abbrev pub IsPlan : BeatKind → Look → Plan → Type 0
IsPlan beat look plan.Fetch = MayAct beat look × IsToFetch look
IsPlan beat look plan.End = MayAct beat look × IsToEnd look
IsPlan beat look plan.Rest = MayRest beat look × (IsLastLook look → ⊥)
IsPlan beat look plan.Over = MayRest beat look × IsLastLook look

-- a batch was taken, or an epoch closed
abbrev pub HasActed : List Act → Type 0
HasActed (Takes look keys ∷ acts) = Unit {0}
HasActed (Closes look batches writes ∷ acts) = Unit {0}
HasActed _ = ⊥

-- Something was done; or nothing was, at a look that shows that something is left, or that nothing is.
abbrev pub SaysRound : Round → List Act → Type 0
SaysRound rounds.Acted acts = HasActed acts
SaysRound rounds.Rested acts = (look : Look) × (acts ≡ Rests look ∷ []) × (IsLastLook look → ⊥)
SaysRound rounds.Over acts = (look : Look) × (acts ≡ Rests look ∷ []) × IsLastLook look
