-- The past of a ring store: the acts of its life, the rows of the public schedule that were shown of it, and the pads of its seals.
use Rattle.std.specs.Prelude.{◌≡◌, ℕ, ◌≤◌, ◌<◌, Bool, List, [], ◌∷◌, ◌++◌, map, length, take, Option, None, Some}
use Rattle.std.specs.List.{flat_map}
use Rattle.ob_base.specs.Repeats.{Has, NoRepeats}
use Rattle.ob_base.specs.Tree.{below}
use Rattle.ob_base.specs.declared.params.Params.{Params}
use Rattle.ob_store.specs.Told.{events_of}
use Rattle.ob_store.specs.declared.event.Event.{Event}
use Rattle.ob_seal.specs.Sealing.{Sealing}
use Rattle.ob_schedule.specs.Phases.{Phase, open_phases, phases_of}
use Rattle.ob_schedule.specs.Schedule.{Fills, after_open, batch_leaves, format_notes, public_formatted}
use Rattle.ob_recover.specs.LifePublic.{public_in}
use Rattle.ob_recover.specs.Life.{HolesAreFresh, IsLife, LifeAct, LifeState, Open, ShowBatch, ShowLifts, SlotFill, WordId, formatted_life, labels_shown, leaf_of_word, life_labels, life_slots, life_step, reached, slots_shown}
use Rattle.ob_recover.specs.Telling.{AreDealt}
use Rattle.ob_pads.specs.Seals.{Pad}
use Rattle.ob_vault.specs.Shapes.{Shape, Ends, Fetches}
use Rattle.ob_vault.specs.Hidden.{AreFirst}
use Rattle.ob_vault.specs.Seen.{RingPublic, ring_next, ring_phases}

-- ---- rows of the schedule

-- what a row is of: the format; an opening, which found these gates open and repeats so many batches; or a call
pub data RowKind : Type 0 where
  OfFormat : RowKind
  OfOpening : (gates : ℕ → Bool) (generation repeats : ℕ) → RowKind
  OfCall : (shape : Shape) → RowKind

-- A row that was shown.
pub record ShownRow : Type 0 where
  pub kind : RowKind
  -- what was public before it, and what fills its holes
  pub public : RingPublic
  pub fills : Fills
  -- how many lanes read at most, and what the store was called for
  pub lanes : ℕ
  pub events : List Event
  -- the acts of the life before it, and those that show what fills it
  pub before : List LifeAct
  pub acts : List LifeAct

abbrev pub row_phases : Params → RowKind → RingPublic → Fills → List Phase
row_phases p OfFormat q f = phases_of (format_notes p)
row_phases p (OfOpening gates generation repeats) q f = open_phases p q.known f gates generation repeats
row_phases p (OfCall shape) q f = ring_phases p q shape f

-- what is public behind it
abbrev pub row_next : Params → RowKind → RingPublic → Fills → RingPublic
row_next p OfFormat q f = record { known = public_formatted p; shown = 0 }
row_next p (OfOpening gates generation repeats) q f = record { known = after_open p q.known f gates generation repeats; shown = repeats }
row_next p (OfCall shape) q f = ring_next p q shape f

-- the leaves that it shows, behind so many batches of the epoch
abbrev pub row_leaves : Params → ℕ → RowKind → Fills → List ℕ
row_leaves p batch OfFormat f = []
row_leaves p batch (OfOpening gates generation repeats) f = flat_map (λ b. batch_leaves p f b) (below repeats)
row_leaves p batch (OfCall Fetches) f = batch_leaves p f batch
row_leaves p batch (OfCall Ends) f = []

-- All its phases were made; or the first events of the first of them, and these would have come behind.
abbrev pub IsWholeRow : Params → ShownRow → Type 0
IsWholeRow p row = AreDealt row.lanes (row_phases p row.kind row.public row.fills) row.events

abbrev pub IsFrontRow : Params → ShownRow → Type 0
IsFrontRow p row = (behind : List Event) × AreFirst row.lanes (row_phases p row.kind row.public row.fills) (row.events ++ behind)

-- A format's row comes behind none. A call's comes behind a whole one, and goes on from what is public behind that. The newest row is the first.
abbrev pub GoesOnBehind : Params → List ShownRow → RowKind → RingPublic → Type 0
GoesOnBehind p [] OfFormat q = Unit {0}
GoesOnBehind p (last ∷ rows) OfFormat q = ⊥
GoesOnBehind p rows (OfOpening gates generation repeats) q = Unit {0}
GoesOnBehind p [] (OfCall shape) q = ⊥
GoesOnBehind p (last ∷ rows) (OfCall shape) q = IsWholeRow p last × (q ≡ row_next p last.kind last.public last.fills)

-- the oldest row is the format's
abbrev pub BeginsWithFormat : List ShownRow → Type 0
BeginsWithFormat [] = ⊥
BeginsWithFormat (row ∷ []) = row.kind ≡ OfFormat
BeginsWithFormat (row ∷ last ∷ rows) = BeginsWithFormat (last ∷ rows)

-- all that the store was called for, in order
abbrev pub events_of_rows : List ShownRow → List Event
events_of_rows [] = []
events_of_rows (row ∷ rows) = events_of_rows rows ++ row.events

-- ---- the past

-- The acts of its life since the format; the act that a crash may have left in flight; the rows that were shown, the newest first; the
-- pads that were used; and, in a run, where its sealer is.
pub record RingPast : Type 0 where
  pub acts : List LifeAct
  pub in_flight : Option LifeAct
  pub rows : List ShownRow
  pub pads : List Pad
  pub sealer : Option Sealing

-- the format's row: its holes are none, and so many of its store's calls were made
abbrev pub format_row : Params → (calls : ℕ) → ShownRow
format_row p calls = record {
  kind = OfFormat;
  public = record { known = public_formatted p; shown = 0 };
  fills = record { label = λ batch place. 0; slot = λ hole. 0 };
  lanes = 1;
  events = take calls (events_of (format_notes p));
  before = [];
  acts = [];
}

-- a store that was formatted, and not opened yet
abbrev pub formatted_past : Params → (calls : ℕ) → RingPast
formatted_past p calls = record { acts = []; in_flight = None; rows = format_row p calls ∷ []; pads = []; sealer = None }

module _ (p : Params) (word_of : WordId → ℕ) (slot : ℕ → ℕ → ℕ) where
  -- where the life is behind these acts
  abbrev pub state_behind : List LifeAct → LifeState
  state_behind acts = reached p word_of (formatted_life slot) acts

  -- where the life is at a row: behind these acts, and of an opening behind the generation that it begins
  abbrev pub state_at : RowKind → (before : List LifeAct) → LifeState
  state_at OfFormat before = state_behind before
  state_at (OfOpening gates generation repeats) before = life_step p word_of (state_behind before) (Open generation)
  state_at (OfCall shape) before = state_behind before

  -- What is public before the row is what is public of the life there, with some register gates known to be open. The life may go on with the
  -- row's acts, and these show what fills it: each leaf is the low bits of the word that is shown there, and the hole of each slot that is shown
  -- is filled by it.
  pub record IsRowFilled (row : ShownRow) : Type 0 where
    pub gates : ℕ → Bool
    pub known : row.public.known ≡ public_in p word_of (state_at row.kind row.before) gates
    pub shown : row.public.shown ≡ (state_at row.kind row.before).begun
    pub is_life : IsLife p word_of (formatted_life slot) (row.before ++ row.acts)
    pub labels : map (λ l. leaf_of_word p word_of l.word) (life_labels p word_of (state_behind row.before) row.acts) ≡ row_leaves p (length (state_behind row.before).log) row.kind row.fills
    pub slots : (x : SlotFill) → Has (life_slots p word_of (state_behind row.before) row.acts) x → x.slot ≡ row.fills.slot (record { bucket = x.bucket; number = x.number })

  -- each row is one of the schedule's, or the first of it, filled by the life
  abbrev pub AreRowsShown : List ShownRow → Type 0
  AreRowsShown [] = Unit {0}
  AreRowsShown (row ∷ rows) = IsFrontRow p row × IsRowFilled row × GoesOnBehind p rows row.kind row.public × AreRowsShown rows

  -- ---- what is promised of it

  -- No word is shown in two holes, no slot of a bucket's filling either, and a hole that is shown again is filled as before: of the acts that
  -- were made, and with those that a row shows which was cut off.
  pub record AreHolesFresh (past : RingPast) : Type 0 where
    pub made : HolesAreFresh (life_labels p word_of (formatted_life slot) past.acts) (life_slots p word_of (formatted_life slot) past.acts)
    pub rows : (row : ShownRow) → Has past.rows row → HolesAreFresh (life_labels p word_of (formatted_life slot) (row.before ++ row.acts)) (life_slots p word_of (formatted_life slot) (row.before ++ row.acts))
    -- two attempts of an epoch that have shown as much show the same next
    pub attempts : (before more : List LifeAct) → past.acts ≡ before ++ more → (state_behind past.acts).epoch ≡ (state_behind before).epoch → (state_behind past.acts).begun ≡ (state_behind before).begun → (state_behind before).begun < length (state_behind before).log
        → (labels_shown p word_of (state_behind past.acts) ShowBatch ≡ labels_shown p word_of (state_behind before) ShowBatch) × (slots_shown p word_of (state_behind past.acts) ShowBatch ≡ slots_shown p word_of (state_behind before) ShowBatch)
    pub lifts : (before more : List LifeAct) → past.acts ≡ before ++ more → (state_behind past.acts).epoch ≡ (state_behind before).epoch → length (state_behind before).log ≡ p.batches → length (state_behind past.acts).log ≡ p.batches
        → slots_shown p word_of (state_behind past.acts) ShowLifts ≡ slots_shown p word_of (state_behind before) ShowLifts

  -- No pad was used twice; those of the sealer's generation are below its next one.
  pub record ArePadsApart (past : RingPast) : Type 0 where
    pub apart : NoRepeats past.pads
    pub earlier : (pad : Pad) → Has past.pads pad → pad.0 ≤ (state_behind past.acts).generation
    pub own : (now : Sealing) → past.sealer ≡ Some now → now.generation ≤ (state_behind past.acts).generation
    pub taken : (now : Sealing) → past.sealer ≡ Some now → (pad : Pad) → Has past.pads pad → pad.0 ≡ now.generation → pad.1 < now.next

  pub record IsSoundPast (past : RingPast) : Type 0 where
    pub is_life : IsLife p word_of (formatted_life slot) past.acts
    pub rows : AreRowsShown past.rows
    pub begins : BeginsWithFormat past.rows
    pub pads : ArePadsApart past
