-- The acts of a whole history: the driver's of them.
use Rattle.std.proofs.Common.{◌≡◌, ◌∙◌, ℕ, zero, suc, List, [], ◌∷◌, ◌++◌, refl, sym, ap, ap₂, subst, inl, inr, append-nil}
use Rattle.ob_turn.specs.declared.turn.Entry.{Entry}
use Rattle.ob_hall.specs.Passes.{Steps, calls_in}
use Rattle.ob_conduct.specs.Acts.{Act, Says, Halts, Rests, Takes, Delivers, DeliverFails, FetchFails, RestUnwatched, Closes, Publishes, Refuses, Unprinted, Unwatched, history}
use Rattle.ob_conduct.specs.Rounds.{AreDriven}
use Rattle.ob_driver.specs.Turning.{IsOneTurn}
use Rattle.ob_run.specs.Woven.{IsEntryOf, AreWoven}
use Rattle.ob_run.specs.Threaded.{driven}

-- ---- one turn of the driver's

pub turn_driven : (acts : List Act) → IsOneTurn acts → AreDriven acts
turn_driven (Halts fault ∷ []) one = tt
turn_driven (Rests look ∷ []) one = tt
turn_driven (Takes look keys ∷ []) one = tt
turn_driven (Delivers batch ∷ []) one = tt
turn_driven (DeliverFails keys fault ∷ []) one = tt
turn_driven (FetchFails look batches keys fault ∷ []) one = tt
turn_driven (RestUnwatched look batches ∷ []) one = tt
turn_driven (Closes look batches writes ∷ []) one = tt
turn_driven (Publishes ended left told ∷ []) one = tt
turn_driven (Refuses asked refused ∷ []) one = tt
turn_driven (Unprinted ∷ []) one = tt
turn_driven (Unwatched ∷ []) one = tt
turn_driven _ one = absurd one

-- ---- the driver's acts

driven_append : (acts more : List Act) → driven (acts ++ more) ≡ driven acts ++ driven more
driven_append [] more = refl
driven_append (Says client steps ∷ acts) more = driven_append acts more
driven_append (Halts fault ∷ acts) more = ap (λ (l : List Act). Halts fault ∷ l) (driven_append acts more)
driven_append (Rests look ∷ acts) more = ap (λ (l : List Act). Rests look ∷ l) (driven_append acts more)
driven_append (Takes look keys ∷ acts) more = ap (λ (l : List Act). Takes look keys ∷ l) (driven_append acts more)
driven_append (Delivers batch ∷ acts) more = ap (λ (l : List Act). Delivers batch ∷ l) (driven_append acts more)
driven_append (DeliverFails keys fault ∷ acts) more = ap (λ (l : List Act). DeliverFails keys fault ∷ l) (driven_append acts more)
driven_append (FetchFails look batches keys fault ∷ acts) more = ap (λ (l : List Act). FetchFails look batches keys fault ∷ l) (driven_append acts more)
driven_append (RestUnwatched look batches ∷ acts) more = ap (λ (l : List Act). RestUnwatched look batches ∷ l) (driven_append acts more)
driven_append (Closes look batches writes ∷ acts) more = ap (λ (l : List Act). Closes look batches writes ∷ l) (driven_append acts more)
driven_append (Publishes writes left told ∷ acts) more = ap (λ (l : List Act). Publishes writes left told ∷ l) (driven_append acts more)
driven_append (Refuses writes refused ∷ acts) more = ap (λ (l : List Act). Refuses writes refused ∷ l) (driven_append acts more)
driven_append (Unprinted ∷ acts) more = ap (λ (l : List Act). Unprinted ∷ l) (driven_append acts more)
driven_append (Unwatched ∷ acts) more = ap (λ (l : List Act). Unwatched ∷ l) (driven_append acts more)

all_driven : (acts : List Act) → AreDriven acts → driven acts ≡ acts
all_driven [] are = refl
all_driven (Says client steps ∷ acts) are = absurd are
all_driven (Halts fault ∷ acts) are = ap (λ (l : List Act). Halts fault ∷ l) (all_driven acts are)
all_driven (Rests look ∷ acts) are = ap (λ (l : List Act). Rests look ∷ l) (all_driven acts are)
all_driven (Takes look keys ∷ acts) are = ap (λ (l : List Act). Takes look keys ∷ l) (all_driven acts are)
all_driven (Delivers batch ∷ acts) are = ap (λ (l : List Act). Delivers batch ∷ l) (all_driven acts are)
all_driven (DeliverFails keys fault ∷ acts) are = ap (λ (l : List Act). DeliverFails keys fault ∷ l) (all_driven acts are)
all_driven (FetchFails look batches keys fault ∷ acts) are = ap (λ (l : List Act). FetchFails look batches keys fault ∷ l) (all_driven acts are)
all_driven (RestUnwatched look batches ∷ acts) are = ap (λ (l : List Act). RestUnwatched look batches ∷ l) (all_driven acts are)
all_driven (Closes look batches writes ∷ acts) are = ap (λ (l : List Act). Closes look batches writes ∷ l) (all_driven acts are)
all_driven (Publishes writes left told ∷ acts) are = ap (λ (l : List Act). Publishes writes left told ∷ l) (all_driven acts are)
all_driven (Refuses writes refused ∷ acts) are = ap (λ (l : List Act). Refuses writes refused ∷ l) (all_driven acts are)
all_driven (Unprinted ∷ acts) are = ap (λ (l : List Act). Unprinted ∷ l) (all_driven acts are)
all_driven (Unwatched ∷ acts) are = ap (λ (l : List Act). Unwatched ∷ l) (all_driven acts are)

-- ---- a whole history's

-- The acts of an entry with these calls, of which these are the driver's.
pub record IsTurnOf (mine these : List Act) (steps : Steps) : Type 0 where
  pub driven_is : driven these ≡ mine
  pub history_is : history these ≡ steps

pub entry_turn : (clients : List ℕ) (by : ℕ) (steps : Steps) (mine these : List Act) → IsEntryOf clients by steps mine these → IsTurnOf mine these steps
entry_turn clients zero steps mine these (one, is, same) = subst (λ (l : List Act). IsTurnOf mine l steps) (sym same) (record {
  driven_is = all_driven mine (turn_driven mine one);
  history_is = sym is;
})
entry_turn clients (suc i) steps mine these (none, inr (nobody, quiet, same)) = subst (λ (l : List Act). IsTurnOf mine l steps) (sym same) (record { driven_is = sym none; history_is = sym quiet })
entry_turn clients (suc i) steps mine these (none, inl (number, named, same)) = subst (λ (l : List Act). IsTurnOf mine l steps) (sym same) (record { driven_is = sym none; history_is = append-nil steps })

pub driven_is : (clients : List ℕ) (log : List (Entry Steps)) (own acts : List Act) → AreWoven clients log own acts → driven acts ≡ own
driven_is clients [] own acts (none, same) = ap driven same ∙ sym none
driven_is clients (e ∷ log) own acts (mine, more, these, rest, own_is, acts_are, entry, woven) =
    ap driven acts_are ∙ (driven_append these rest ∙ (ap₂ (λ (x y : List Act). x ++ y) (entry_turn clients e.by (calls_in (e ∷ [])) mine these entry).driven_is (driven_is clients log more rest woven) ∙ sym own_is))
