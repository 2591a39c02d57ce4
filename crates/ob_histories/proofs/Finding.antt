-- What a stop allows to be found.
use Rattle.std.specs.Prelude.{◌≡◌, ◌≤◌, ◌⊎◌, ℕ, ◌+◌, ◌%◌, Bool, true, false, Option, Some, None}
use Rattle.std.proofs.Common.{zero, suc, refl, sym, ap, ◌∙◌, subst, arith, add-one}
use Rattle.ob_base.specs.declared.params.Params.{Params}
use Rattle.ob_schedule.specs.declared.want.Side.{Side}
use Rattle.ob_schedule.specs.declared.want.Gate.{Gate}
use Rattle.ob_schedule.specs.declared.want.Gate.TheVariants.{Open, Closed, Unsure}
use Rattle.ob_schedule.specs.Sides.{other, side_number}
use Rattle.ob_schedule.specs.Standing.{StandingKnown}
use Rattle.ob_histories.specs.Fills.{AllFills, public_at}
use Rattle.ob_histories.specs.Runs.{RunFound}
use Rattle.ob_histories.specs.Histories.{IsGateLeft}
use Rattle.ob_histories.proofs.Standing.{Holds}
use Rattle.ob_histories.proofs.Places.{rest_of}

abbrev pub GateMay : Gate → Bool → Type 0
GateMay Open is = is ≡ true
GateMay Closed is = is ≡ false
GateMay Unsure is = Unit {0}

abbrev pub RecordsMay : ℕ → Bool → ℕ → Type 0
RecordsMay logged maybe records = (records ≡ logged) ⊎ ((maybe ≡ true) × (records ≡ suc logged))

pub record Fits (p : Params) (rest : Side × (Gate × (Gate × (ℕ × Bool)))) (x : RunFound) : Type 0 where
  pub generation : side_number rest.0 ≡ x.generation % 2
  pub generation_gate : GateMay rest.1.0 x.generation_gate
  pub epoch_gate : GateMay rest.1.1.0 x.epoch_gate
  pub records : RecordsMay rest.1.1.1.0 rest.1.1.1.1 x.records
  pub few : x.records ≤ p.batches

abbrev pub Stands : Params → AllFills → RunFound → StandingKnown → Type 0
Stands p f x s = Holds p f s x.epoch × Fits p (rest_of s) x

-- it may be found: what stands, or what stands if the last end's gate was opened
abbrev pub Allows : Params → AllFills → RunFound → StandingKnown → Option StandingKnown → Type 0
Allows p f x s None = Stands p f x s
Allows p f x s (Some newer) = Stands p f x s ⊎ ((newer.epoch ≡ other s.epoch) × Stands p f x newer)

-- ---- the rest of what is known may change

pub holds_rest : (p : Params) (f : AllFills) (s : StandingKnown) (epoch : ℕ) (generation : Side) (gate epoch_gate : Gate) (logged : ℕ) (maybe : Bool) → Holds p f s epoch
    → Holds p f (record s { generation = generation; generation_gate = gate; epoch_gate = epoch_gate; logged = logged; maybe = maybe }) epoch
holds_rest p f s epoch generation gate epoch_gate logged maybe holds =
    record {
      side = holds.side;
      homes = holds.homes;
      counts = holds.counts;
      counter = holds.counter;
      labels = holds.labels;
      slots = holds.slots;
      used = λ u x used. (let was = holds.used u x used in record { number = was.number; small = was.small; is = was.is; when = was.when });
      below = holds.below;
    }

-- as the same found, but for the generation and its gate
pub record IsBut (x y : RunFound) : Type 0 where
  pub epoch : y.epoch ≡ x.epoch
  pub epoch_gate : y.epoch_gate ≡ x.epoch_gate
  pub records : y.records ≡ x.records

pub refit : (p : Params) (f : AllFills) (s : StandingKnown) (x y : RunFound) (generation : Side) (gate : Gate) → Stands p f x s → IsBut x y → side_number generation ≡ y.generation % 2 → GateMay gate y.generation_gate
    → Stands p f y (record s { generation = generation; generation_gate = gate })
refit p f s x y generation gate stands same at may = (
  subst (λ (e : ℕ). Holds p f (record s { generation = generation; generation_gate = gate }) e) (sym same.epoch) (holds_rest p f s x.epoch generation gate s.epoch_gate s.logged s.maybe stands.0),
  record {
    generation = at;
    generation_gate = may;
    epoch_gate = subst (λ (b : Bool). GateMay s.epoch_gate b) (sym same.epoch_gate) stands.1.epoch_gate;
    records = subst (λ (n : ℕ). RecordsMay s.logged s.maybe n) (sym same.records) stands.1.records;
    few = subst (λ (n : ℕ). n ≤ p.batches) (sym same.records) stands.1.few;
  },
)

-- the durable epoch's number
pub epoch_at : (p : Params) (f : AllFills) (epoch : ℕ) → (public_at p f epoch).epoch ≡ epoch
epoch_at p f zero = refl
epoch_at p f (suc epoch) = ap (λ (n : ℕ). n + 1) (epoch_at p f epoch) ∙ add-one epoch

-- a gate that no note of its setting has reached
pub gate_still : (was is : Bool) (lacking : ℕ) → (was ≡ true → 6 ≤ lacking) → 4 ≤ lacking → IsGateLeft was lacking is → is ≡ was
gate_still true is zero six four left = absurd (omega (arith, four))
gate_still true is (suc zero) six four left = absurd (omega (arith, four))
gate_still true is (suc (suc zero)) six four left = absurd (omega (arith, four))
gate_still true is (suc (suc (suc zero))) six four left = absurd (omega (arith, four))
gate_still true is (suc (suc (suc (suc zero)))) six four left = absurd (omega (arith, six refl))
gate_still true is (suc (suc (suc (suc (suc zero))))) six four left = absurd (omega (arith, six refl))
gate_still true is (suc (suc (suc (suc (suc (suc n)))))) six four left = left
gate_still false is zero six four left = absurd (omega (arith, four))
gate_still false is (suc zero) six four left = left
gate_still false is (suc (suc zero)) six four left = left
gate_still false is (suc (suc (suc zero))) six four left = left
gate_still false is (suc (suc (suc (suc zero)))) six four left = left
gate_still false true (suc (suc (suc (suc (suc zero))))) six four left = (let e : false ≡ true = left refl in sym e)
gate_still false false (suc (suc (suc (suc (suc zero))))) six four left = refl
gate_still false is (suc (suc (suc (suc (suc (suc n)))))) six four left = left
