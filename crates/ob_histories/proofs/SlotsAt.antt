-- Where an attempt stands among an epoch's places, by what is wanted.
use Rattle.std.specs.Prelude.{◌≡◌, ◌<◌, ℕ, ◌+◌, List, [], ◌∷◌, ◌++◌, map, take, drop, slice_index}
use Rattle.std.specs.List.{range_with_len}
use Rattle.std.proofs.Common.{zero, suc, refl, arith}
use Rattle.ob_base.specs.declared.params.Params.{Params}
use Rattle.ob_store.specs.declared.watch.Note.{Note}
use Rattle.ob_schedule.specs.Schedule.{batch_leaves}
use Rattle.ob_schedule.specs.declared.want.Side.{Side}
use Rattle.ob_schedule.specs.declared.want.Gate.{Gate}
use Rattle.ob_schedule.specs.declared.want.Gate.TheVariants.{Open, Closed, Unsure}
use Rattle.ob_schedule.specs.declared.want.Register.TheVariants.{Generation, Epoch}
use Rattle.ob_schedule.specs.declared.want.Change.{Change}
use Rattle.ob_schedule.specs.declared.want.Change.TheVariants.{Keeps, Formats, Settles, Doubts, Closes, SetsGeneration, EndsEpoch, MayLog, Logs}
use Rattle.ob_schedule.specs.declared.want.Want.{Want}
use Rattle.ob_schedule.specs.declared.want.Want.TheVariants.{Fixed, Place, Record, Setting, Checkpoint}
use Rattle.ob_schedule.specs.Wants.{kept, sets}
use Rattle.ob_histories.specs.Fills.{AllFills, AreAllFills, fills_at, leaves_of_batches}
use Rattle.ob_histories.proofs.Fronts.{Rest}
use Rattle.ob_histories.proofs.Places.{one_more, all_shown}

-- only a generation is set
abbrev pub SetsNoEpoch : Change → Type 0
SetsNoEpoch Settles = ⊥
SetsNoEpoch EndsEpoch = ⊥
SetsNoEpoch change = Unit {0}

abbrev pub IsOpeningsEnd : List Want → Type 0
IsOpeningsEnd [] = Unit {0}
IsOpeningsEnd (Fixed note change ∷ wants) = SetsNoEpoch change × IsOpeningsEnd wants
IsOpeningsEnd (Setting Generation ∷ wants) = wants ≡ []
IsOpeningsEnd (Setting Epoch ∷ wants) = ⊥
IsOpeningsEnd (Place b i ∷ wants) = ⊥
IsOpeningsEnd (Record b ∷ wants) = ⊥
IsOpeningsEnd (Checkpoint ∷ wants) = ⊥

abbrev pub ByKeeping : Change → Type 0 → Type 0
ByKeeping Keeps rest = rest
ByKeeping Formats rest = rest
ByKeeping Settles rest = Unit {0}
ByKeeping (Doubts r) rest = ⊥
ByKeeping (Closes r) rest = ⊥
ByKeeping SetsGeneration rest = ⊥
ByKeeping EndsEpoch rest = ⊥
ByKeeping MayLog rest = ⊥
ByKeeping Logs rest = ⊥

-- the sync comes with which what an end has set stands, and before it nothing is shown that changes what is known
abbrev pub UntilSettled : List Want → Type 0
UntilSettled [] = ⊥
UntilSettled (Fixed note change ∷ wants) = ByKeeping change (UntilSettled wants)
UntilSettled (Checkpoint ∷ wants) = Unit {0}
UntilSettled (Place b i ∷ wants) = ⊥
UntilSettled (Record b ∷ wants) = ⊥
UntilSettled (Setting r ∷ wants) = ⊥

pub kept_until : (ns : List Note) (wants : List Want) → UntilSettled wants → UntilSettled (kept ns ++ wants)
kept_until [] wants until = until
kept_until (n ∷ ns) wants until = kept_until ns wants until

abbrev pub AtChange : Change → Type 0 → Type 0 → Type 0 → Type 0
AtChange Settles opening ends stays = opening
AtChange EndsEpoch opening ends stays = ends × stays
AtChange change opening ends stays = stays

module _ (p : Params) (f : AllFills) (epoch : ℕ) where
  abbrev pub before_batch : ℕ → List ℕ
  before_batch b = leaves_of_batches p f (suc epoch) b

  abbrev pub leaf_here : ℕ → ℕ → ℕ
  leaf_here b i = slice_index (batch_leaves p (fills_at p f epoch) b) i

  -- the leaves that the attempt has shown, before what is wanted
  abbrev pub StandsAt : List ℕ → ℕ → List Want → Type 0
  StandsAt leaves batch [] = leaves ≡ before_batch batch
  StandsAt leaves batch (Fixed note change ∷ wants) = AtChange change (IsOpeningsEnd wants) ((leaves ≡ before_batch p.batches) × UntilSettled wants) (StandsAt leaves batch wants)
  StandsAt leaves batch (Place b i ∷ wants) =
      (b < p.batches) × ((i < p.places) × ((leaves ≡ before_batch b ++ take i (batch_leaves p (fills_at p f epoch) b)) × StandsAt (leaves ++ leaf_here b i ∷ []) batch wants))
  StandsAt leaves batch (Record b ∷ wants) = (b < p.batches) × ((leaves ≡ before_batch b) × ((batch ≡ suc b) × (wants ≡ [])))
  StandsAt leaves batch (Setting Generation ∷ wants) = (leaves ≡ before_batch batch) × (wants ≡ [])
  StandsAt leaves batch (Setting Epoch ∷ wants) = (leaves ≡ before_batch p.batches) × (wants ≡ [])
  StandsAt leaves batch (Checkpoint ∷ wants) = wants ≡ []

  pub kept_at : (leaves : List ℕ) (batch : ℕ) (ns : List Note) (wants : List Want) → StandsAt leaves batch wants → StandsAt leaves batch (kept ns ++ wants)
  kept_at leaves batch [] wants is = is
  kept_at leaves batch (n ∷ ns) wants is = kept_at leaves batch ns wants is

  pub dropped_at : (leaves : List ℕ) (batch : ℕ) (ns : List Note) (w : Want) (wants : List Want) → StandsAt leaves batch (w ∷ wants) → StandsAt leaves batch wants → StandsAt leaves batch (drop 1 (kept ns ++ w ∷ wants))
  dropped_at leaves batch [] w wants is rest = rest
  dropped_at leaves batch (n ∷ ns) w wants is rest = kept_at leaves batch ns (w ∷ wants) is

  pub end_of_opening_at : (leaves : List ℕ) (batch : ℕ) (wants : List Want) → leaves ≡ before_batch batch → IsOpeningsEnd wants → StandsAt leaves batch wants
  end_of_opening_at leaves batch [] none is = none
  end_of_opening_at leaves batch (Fixed note Keeps ∷ wants) none is = end_of_opening_at leaves batch wants none is.1
  end_of_opening_at leaves batch (Fixed note Formats ∷ wants) none is = end_of_opening_at leaves batch wants none is.1
  end_of_opening_at leaves batch (Fixed note Settles ∷ wants) none is = absurd is.0
  end_of_opening_at leaves batch (Fixed note (Doubts r) ∷ wants) none is = end_of_opening_at leaves batch wants none is.1
  end_of_opening_at leaves batch (Fixed note (Closes r) ∷ wants) none is = end_of_opening_at leaves batch wants none is.1
  end_of_opening_at leaves batch (Fixed note SetsGeneration ∷ wants) none is = end_of_opening_at leaves batch wants none is.1
  end_of_opening_at leaves batch (Fixed note EndsEpoch ∷ wants) none is = absurd is.0
  end_of_opening_at leaves batch (Fixed note MayLog ∷ wants) none is = end_of_opening_at leaves batch wants none is.1
  end_of_opening_at leaves batch (Fixed note Logs ∷ wants) none is = end_of_opening_at leaves batch wants none is.1
  end_of_opening_at leaves batch (Setting Generation ∷ wants) none is = (none, is)
  end_of_opening_at leaves batch (Setting Epoch ∷ wants) none is = absurd is
  end_of_opening_at leaves batch (Place b i ∷ wants) none is = absurd is
  end_of_opening_at leaves batch (Record b ∷ wants) none is = absurd is
  end_of_opening_at leaves batch (Checkpoint ∷ wants) none is = absurd is

  pub generation_ends : (side : Side) (gate : Gate) → IsOpeningsEnd (sets p Generation side gate)
  generation_ends side Open = (tt, (tt, (tt, (tt, (tt, (tt, tt))))))
  generation_ends side Closed = (tt, (tt, (tt, (tt, tt))))
  generation_ends side Unsure = refl

  pub epoch_at_end : (leaves : List ℕ) (batch : ℕ) (side : Side) (gate : Gate) → leaves ≡ before_batch p.batches → StandsAt leaves batch (sets p Epoch side gate)
  epoch_at_end leaves batch side Open all = ((all, tt), tt)
  epoch_at_end leaves batch side Closed all = ((all, tt), tt)
  epoch_at_end leaves batch side Unsure all = (all, refl)

  module _ (all : AreAllFills p f) (rest : Rest) where
    pub places_at : (n : ℕ) (leaves : List ℕ) (b i : ℕ) → b < p.batches → i + n ≡ p.places → leaves ≡ before_batch b ++ take i (batch_leaves p (fills_at p f epoch) b)
        → StandsAt leaves (suc b) (map (λ j. Place b j) (range_with_len i n))
    places_at zero leaves b i low whole is = all_shown p f all epoch rest b i leaves (omega (arith, whole)) is
    places_at (suc n) leaves b i low whole is =
        let few : i < p.places = omega (arith, whole) in
        (low, (few, (is, places_at n (leaves ++ leaf_here b i ∷ []) b (i + 1) low (omega (arith, whole)) (one_more p f all epoch rest b i leaves few is))))
