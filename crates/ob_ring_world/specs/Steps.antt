-- What each step adds to the past of a ring store: a call, a crash, an opening.
use Rattle.std.specs.Prelude.{◌≡◌, ◌⊎◌, ℕ, suc, Bool, true, false, List, [], ◌∷◌, ◌++◌, length, Option, None, Some}
use Rattle.ob_base.specs.declared.params.Params.{Params}
use Rattle.ob_store.specs.Disk.{Image}
use Rattle.ob_seal.specs.Sealing.{Sealing}
use Rattle.ob_seal.specs.declared.keys.Keys.{Keys}
use Rattle.ob_serial.specs.Vaults.{Standing, VaultAnswer, VaultCall}
use Rattle.ob_recover.specs.Calls.{Finds}
use Rattle.ob_recover.specs.Life.{IsLife, LifeAct, WordId, formatted_life}
use Rattle.ob_pads.specs.Seals.{SealerGoesOn, pads_between}
use Rattle.ob_opening.specs.OpeningActs.{IsLeftAt}
use Rattle.ob_vault.specs.Acts.{is_answered}
use Rattle.ob_vault.specs.Shown.{AreActsOf}
use Rattle.ob_vault.specs.Lives.{AreFirstActs, AreShowing, IsBarelySeen, opening_acts}
use Rattle.ob_vault.specs.Shapes.{shape_of}
use Rattle.ob_ring_world.specs.Pasts.{GoesOnBehind, IsFrontRow, IsRowFilled, IsWholeRow, OfCall, OfOpening, RingPast, ShownRow, state_behind}

-- the row of a call that was cut off stands before the rows, if anything of it was shown
abbrev pub rows_with : Option ShownRow → List ShownRow → List ShownRow
rows_with None rows = rows
rows_with (Some row) rows = row ∷ rows

-- the seals of a call, which leaves the sealer so
pub record SealsOn (past : RingPast) : Type 0 where
  pub was : Sealing
  pub now : Sealing
  pub sealed : past.sealer ≡ Some was
  pub further : SealerGoesOn was now

-- the first acts were made, and the next may be in flight
abbrev pub IsNextAct : (rest : List LifeAct) → Option LifeAct → Type 0
IsNextAct rest in_flight = (in_flight ≡ None) ⊎ ((a : LifeAct) × (more : List LifeAct) × (in_flight ≡ Some a) × (rest ≡ a ∷ more))

module _ (p : Params) (word_of : WordId → ℕ) (slot : ℕ → ℕ → ℕ) where
  -- ---- calls

  -- It makes the acts of its call, and shows the schedule's row, filled by what they show.
  pub record IsAnsweredBy (past : RingPast) (call : VaultCall) (new : RingPast) : Type 0 where
    pub row : ShownRow
    pub kind : row.kind ≡ OfCall (shape_of call)
    pub before : row.before ≡ past.acts
    pub acts : AreActsOf call row.acts
    pub whole : IsWholeRow p row
    pub filled : IsRowFilled p word_of slot row
    pub behind : GoesOnBehind p past.rows row.kind row.public
    pub seals : SealsOn past
    pub state : new ≡ record { acts = past.acts ++ row.acts; in_flight = None; rows = row ∷ past.rows; pads = past.pads ++ pads_between (Some seals.was) seals.now; sealer = Some seals.now }

  -- what was shown of a call that was refused or cut off: nothing, or the first of the row, filled as the life would go on
  abbrev pub IsShownOf : RingPast → VaultCall → Option ShownRow → Type 0
  IsShownOf past call None = Unit {0}
  IsShownOf past call (Some row) = (row.kind ≡ OfCall (shape_of call)) × (row.before ≡ past.acts) × AreShowing call row.acts × IsFrontRow p row × IsRowFilled p word_of slot row × GoesOnBehind p past.rows row.kind row.public

  -- It makes the first acts of its call, and the next may be in flight; and it shows the first of the schedule's row.
  pub record IsPartOf (past : RingPast) (call : VaultCall) : Type 0 where
    pub made : List LifeAct
    pub in_flight : Option LifeAct
    pub first : AreFirstActs (Some call) made in_flight
    pub is_life : IsLife p word_of (formatted_life slot) (past.acts ++ made)
    pub shown : Option ShownRow
    pub fronts : IsShownOf past call shown
    pub seals : SealsOn past

  -- what is left of it, in a run that has this sealer, or in none
  abbrev pub part_left : (past : RingPast) (call : VaultCall) → IsPartOf past call → Option Sealing → RingPast
  part_left past call part sealer = record {
    acts = past.acts ++ part.made;
    in_flight = part.in_flight;
    rows = rows_with part.shown past.rows;
    pads = past.pads ++ pads_between (Some part.seals.was) part.seals.now;
    sealer = sealer;
  }

  -- What a refused call has shown is shown by the acts that were made of it; or none was made, and of a batch no more was shown than the first
  -- steps of its record, which have no hole.
  abbrev pub IsShownInActs : VaultCall → (made : List LifeAct) → Option ShownRow → Type 0
  IsShownInActs call made None = Unit {0}
  IsShownInActs call made (Some row) = ((more : List LifeAct) × (made ≡ row.acts ++ more)) ⊎ ((made ≡ []) × IsBarelySeen row.lanes p (state_behind p word_of slot row.before) call row.events)

  pub record IsRefusedBy (past : RingPast) (call : VaultCall) (new : RingPast) : Type 0 where
    pub part : IsPartOf past call
    pub shown_by : IsShownInActs call part.made part.shown
    pub state : new ≡ part_left past call part (Some part.seals.now)

  -- a call that was answered, or not
  abbrev pub IsCallBy : (answered : Bool) → RingPast → VaultCall → RingPast → Type 0
  IsCallBy true past call new = IsAnsweredBy past call new
  IsCallBy false past call new = IsRefusedBy past call new

  abbrev pub IsRingCall : RingPast → VaultCall → VaultAnswer → RingPast → Type 0
  IsRingCall past call answer new = IsCallBy (is_answered answer) past call new

  -- ---- openings

  -- what was shown of an opening that was cut off
  abbrev pub IsShownOfOpening : List LifeAct → Option ShownRow → Type 0
  IsShownOfOpening before None = Unit {0}
  IsShownOfOpening before (Some row) = (gates : ℕ → Bool) × (row.kind ≡ OfOpening gates (suc (state_behind p word_of slot before).generation) (length (state_behind p word_of slot before).log)) × (row.before ≡ before)
      × (row.acts ≡ opening_acts (state_behind p word_of slot before)) × IsFrontRow p row × IsRowFilled p word_of slot row

  -- It found the act in flight, or not, and the epoch behind that; then the next generation begins, and each batch of the log is shown
  -- again. Its sealer is a new one, of that generation.
  pub record IsOpenedBy (past : RingPast) (at : Standing) (new : RingPast) : Type 0 where
    pub found : List LifeAct
    pub finds : Finds past.in_flight found
    pub epoch : (state_behind p word_of slot (past.acts ++ found)).epoch ≡ at.epoch
    pub row : ShownRow
    pub gates : ℕ → Bool
    pub kind : row.kind ≡ OfOpening gates (suc (state_behind p word_of slot (past.acts ++ found)).generation) (length (state_behind p word_of slot (past.acts ++ found)).log)
    pub before : row.before ≡ past.acts ++ found
    pub acts : row.acts ≡ opening_acts (state_behind p word_of slot (past.acts ++ found))
    pub whole : IsWholeRow p row
    pub filled : IsRowFilled p word_of slot row
    pub sealing : Sealing
    pub generation : sealing.generation ≡ suc (state_behind p word_of slot (past.acts ++ found)).generation
    pub none_sealed : sealing.next ≡ 0
    pub state : new ≡ record { acts = (past.acts ++ found) ++ row.acts; in_flight = None; rows = row ∷ past.rows; pads = past.pads; sealer = Some sealing }

  -- ---- crashes

  module _ (keys : Keys) where
    -- inside a call: an opening can go on from the image, behind the first acts of the call
    pub record IsCutCall (past : RingPast) (call : VaultCall) (image : Image) (new : RingPast) : Type 0 where
      pub part : IsPartOf past call
      pub left : IsLeftAt keys p word_of (state_behind p word_of slot (past.acts ++ part.made)) part.in_flight image
      pub state : new ≡ part_left past call part None

    -- between calls: it can go on from where the life is, with the act in flight or without it
    pub record IsCutBetween (past : RingPast) (image : Image) (new : RingPast) : Type 0 where
      pub left : IsLeftAt keys p word_of (state_behind p word_of slot past.acts) past.in_flight image
      pub state : new ≡ record past { sealer = None }

    -- inside an opening: behind the first of its acts
    pub record IsCutOpening (past : RingPast) (image : Image) (new : RingPast) : Type 0 where
      pub found : List LifeAct
      pub finds : Finds past.in_flight found
      pub made : List LifeAct
      pub rest : List LifeAct
      pub acts : opening_acts (state_behind p word_of slot (past.acts ++ found)) ≡ made ++ rest
      pub in_flight : Option LifeAct
      pub next : IsNextAct rest in_flight
      pub is_life : IsLife p word_of (formatted_life slot) ((past.acts ++ found) ++ made)
      pub left : IsLeftAt keys p word_of (state_behind p word_of slot ((past.acts ++ found) ++ made)) in_flight image
      pub shown : Option ShownRow
      pub fronts : IsShownOfOpening (past.acts ++ found) shown
      pub state : new ≡ record { acts = (past.acts ++ found) ++ made; in_flight = in_flight; rows = rows_with shown past.rows; pads = past.pads; sealer = None }

    abbrev pub IsRingCut : RingPast → Option VaultCall → Image → RingPast → Type 0
    IsRingCut past None image new = IsCutBetween past image new ⊎ IsCutOpening past image new
    IsRingCut past (Some call) image new = IsCutCall past call image new
