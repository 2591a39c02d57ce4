-- What batches and final lifts make of the values.
use Rattle.std.specs.Prelude.{◌≡◌, ℕ, true, List, [], ◌∷◌, Option}
use Rattle.std.proofs.Common.{inl, inr}
use Rattle.std.proofs.lemmas.Bool.{false≢true, or_cases}
use Rattle.ob_base.specs.declared.params.Params.{Params}
use Rattle.ob_schedule.specs.Paths.{eviction_path}
use Rattle.ob_ring.specs.FlatTable.{FlatTable, FinalLifts, InStash, spot_of, asks_for, after, after_place, after_batch}
use Rattle.ob_ring.specs.Picked.{batch_picked, final_picked}
use Rattle.ob_stand.specs.ValueLaws.{BatchCarries, LiftsCarry, FetchIsAnswered, is_asked}
use Rattle.ob_stand.proofs.Taking.{batch_takes, batch_present, batch_stash, final_takes, final_present, place_asked}
use Rattle.ob_stand.proofs.Carrying.{taken_carries}

pub batch_carries : BatchCarries
batch_carries p t places rows slots m js o c read = taken_carries p t (after_batch p t places) rows slots m (batch_picked p t places) js (batch_takes p t places o c.low) (batch_present p t places) c read

pub lifts_carry : LiftsCarry
lifts_carry p t rows slots m js o c read =
    let us : List ℕ = eviction_path p t.counter in
    taken_carries p t (after p t FinalLifts) rows slots m (final_picked p t us) js (final_takes p t us o c.low) (final_present p t us) c read

asked_held : (p : Params) (t : FlatTable) (places : List (Option ℕ × ℕ)) (k : ℕ) → is_asked places k ≡ true → spot_of ((after_batch p t places).rows k) ≡ InStash
asked_held p t [] k e = absurd (false≢true e)
asked_held p t (a ∷ rest) k e = elim (or_cases (asks_for a.0 k) (is_asked rest k) e) [
  | inl here ↦ batch_stash p (after_place p t a.0 a.1) rest k (place_asked p t a.0 a.1 k here)
  | inr more ↦ asked_held p (after_place p t a.0 a.1) rest k more
]

pub fetch_is_answered : FetchIsAnswered
fetch_is_answered p t places rows slots m js o c read k asked = ((batch_carries p t places rows slots m js o c read).carries).held k (asked_held p t places k asked)
