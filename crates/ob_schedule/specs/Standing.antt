-- What a stop finds: what the last end left, and what the running epoch has shown and logged since.
use Rattle.std.specs.Prelude.{ℕ, nat_lt, ◌==◌, Bool, true, false, not, ◌&&◌, ◌||◌, cond, List, Option, Some, None}
use Rattle.ob_base.specs.declared.params.Params.{Params}
use Rattle.ob_base.specs.Tree.{buckets}
use Rattle.ob_base.specs.Layout.{GenerationTwin, EpochTwin}
use Rattle.ob_schedule.specs.Holes.{Hole}
use Rattle.ob_schedule.specs.Schedule.{Public, gate_cell, is_lifted_by_end, after_end}
use Rattle.ob_schedule.specs.declared.want.Side.{Side}
use Rattle.ob_schedule.specs.declared.want.Side.TheVariants.{Even, Odd}
use Rattle.ob_schedule.specs.declared.want.Gate.{Gate}
use Rattle.ob_schedule.specs.declared.want.Gate.TheVariants.{Open, Closed}
use Rattle.ob_schedule.specs.Sides.{other, side_number}

-- Of epochs and generations only the place is kept. The gate at the place of the one that stands is open.
pub record StandingKnown : Type 0 where
  pub epoch : Side
  pub homes : ℕ → Side  -- where each bucket lies
  pub counts : ℕ → ℕ  -- reads of each bucket's version before the running epoch
  pub counter : ℕ
  pub generation : Side
  pub generation_gate : Gate  -- at the other place
  pub epoch_gate : Gate  -- at the other place
  pub logged : ℕ  -- batches of the running epoch that are logged for sure
  pub maybe : Bool  -- whether one more may be
  pub used : ℕ → ℕ → Bool  -- whether a bucket's present version has shown a slot
  pub labels : ℕ → ℕ → Option ℕ  -- what a place of a batch has shown in the running epoch
  pub slots : Hole → Option ℕ  -- what a read has shown in the running epoch

abbrev pub standing_formatted : StandingKnown
standing_formatted =
    record {
      epoch = Even;
      homes = λ u. Even;
      counts = λ u. 0;
      counter = 0;
      generation = Odd;
      generation_gate = Closed;
      epoch_gate = Closed;
      logged = 0;
      maybe = false;
      used = λ u slot. false;
      labels = λ batch place. None;
      slots = λ h. None;
    }

-- the public state of an attempt that has shown these leaves
abbrev pub public_known : Params → StandingKnown → List ℕ → Public
public_known p s leaves =
    record {
      epoch = side_number s.epoch;
      homes = λ u. side_number (s.homes u);
      counts = s.counts;
      counter = s.counter;
      gates = λ c. (c == gate_cell p GenerationTwin (side_number s.generation)) || (c == gate_cell p EpochTwin (side_number s.epoch));
      leaves = leaves;
    }

-- A place or a read that was shown before shows the same.
abbrev pub with_label : StandingKnown → ℕ → ℕ → ℕ → StandingKnown
with_label s batch place leaf =
    elim (s.labels batch place) [ None ↦ record s { labels = λ b i. cond ((batch == b) && (place == i)) (Some leaf) (s.labels b i) } | Some x ↦ s ]

-- another read of the version shows another slot
abbrev pub with_slot : StandingKnown → Hole → ℕ → StandingKnown
with_slot s h slot =
    elim (s.slots h) [
      | None ↦ record s {
        used = λ u x. cond ((h.bucket == u) && (slot == x)) true (s.used u x);
        slots = λ g. cond ((h.bucket == g.bucket) && (h.number == g.number)) (Some slot) (s.slots g);
      }
      | Some x ↦ s
    ]

-- ---- what an end leaves, behind an attempt that has shown these leaves

abbrev pub is_lifted : Params → StandingKnown → List ℕ → ℕ → Bool
is_lifted p s leaves u = is_lifted_by_end p (public_known p s leaves) u

-- Only the store's buckets lie anywhere, are counted and have shown slots. A slot is known as shown while its bucket's version stays.
abbrev pub home_after : Params → StandingKnown → List ℕ → ℕ → Side
home_after p s leaves u = cond (nat_lt u (buckets p)) (cond (is_lifted p s leaves u) (other (s.homes u)) (s.homes u)) Even

abbrev pub count_after : Params → StandingKnown → List ℕ → ℕ → ℕ
count_after p s leaves u = cond (nat_lt u (buckets p)) ((after_end p (public_known p s leaves)).counts u) 0

abbrev pub used_after : Params → StandingKnown → List ℕ → ℕ → ℕ → Bool
used_after p s leaves u slot = cond (nat_lt u (buckets p)) (not (is_lifted p s leaves u) && s.used u slot) false

abbrev pub standing_ended : Params → StandingKnown → List ℕ → StandingKnown
standing_ended p s leaves =
    record s {
      epoch = other s.epoch;
      homes = home_after p s leaves;
      counts = count_after p s leaves;
      counter = (after_end p (public_known p s leaves)).counter;
      epoch_gate = Open;
      logged = 0;
      maybe = false;
      used = used_after p s leaves;
      labels = λ batch place. None;
      slots = λ h. None;
    }
