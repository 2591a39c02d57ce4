-- Lines that are admitted and show just what these fills have.
use Rattle.std.specs.Prelude.{◌≡◌, ℕ, cond, List, [], ◌∷◌, Some, None}
use Rattle.std.proofs.Common.{suc}
use Rattle.ob_base.specs.declared.params.Params.{Params}
use Rattle.ob_base.specs.Layout.{slot_cell}
use Rattle.ob_store.specs.declared.watch.Note.{Note}
use Rattle.ob_store.specs.declared.watch.Note.TheVariants.{Label, Read}
use Rattle.ob_schedule.specs.Holes.{Hole}
use Rattle.ob_schedule.specs.declared.line.Line.{Line}
use Rattle.ob_schedule.specs.declared.line.Line.TheVariants as L
use Rattle.ob_schedule.specs.declared.want.Change.{Change}
use Rattle.ob_schedule.specs.declared.want.Change.TheVariants.{Settles}
use Rattle.ob_schedule.specs.declared.want.Want.{Want}
use Rattle.ob_schedule.specs.declared.want.Want.TheVariants.{Fixed, Place, Record, Setting, Checkpoint}
use Rattle.ob_schedule.specs.Sides.{side_number}
use Rattle.ob_schedule.specs.Standing.{StandingKnown}
use Rattle.ob_schedule.specs.Follow.{Follow, TakesLine, opened}
use Rattle.ob_histories.specs.Fills.{AllFills, version_filled}

-- the note's label, or its slot, is the fills' of the epoch that runs behind so many durable ones
abbrev pub IsOfFills : Params → AllFills → ℕ → StandingKnown → List Hole → List Want → Note → Type 0
IsOfFills p f epoch s (h ∷ holes) wants note = note ≡ Read (slot_cell p (side_number (s.homes h.bucket)) h.bucket (f.slot h.bucket (version_filled p f epoch h.bucket) h.number))
IsOfFills p f epoch s [] (Place batch place ∷ wants) note = note ≡ Label (f.leaf (suc epoch) batch place)
IsOfFills p f epoch s [] (Record batch ∷ wants) note = (leaf : ℕ) → note ≡ Label leaf → leaf ≡ f.leaf (suc epoch) batch 0
IsOfFills p f epoch s [] (Fixed wanted change ∷ wants) note = Unit {0}
IsOfFills p f epoch s [] (Setting r ∷ wants) note = Unit {0}
IsOfFills p f epoch s [] (Checkpoint ∷ wants) note = Unit {0}
IsOfFills p f epoch s [] [] note = Unit {0}

-- the sync that settles an epoch's end makes one more durable
abbrev pub settled_by : Change → Follow → ℕ → ℕ
settled_by Settles known epoch = cond known.chosen (elim known.newer [ None ↦ epoch | Some newer ↦ suc epoch ]) epoch
settled_by change known epoch = epoch

abbrev pub settled_next : List Hole → List Want → Follow → ℕ → ℕ
settled_next [] (Fixed note change ∷ wants) known epoch = settled_by change known epoch
settled_next holes wants known epoch = epoch

abbrev pub epoch_behind : Follow → ℕ → ℕ
epoch_behind known epoch = settled_next known.holes known.wants known epoch

-- of one format: each line may stand behind those before it, with the fills' label or slot
abbrev pub TakesFilled : Params → AllFills → ℕ → Follow → List Line → Type 0
TakesFilled p f epoch known [] = Unit {0}
TakesFilled p f epoch known (L.Note note ∷ lines) =
    (next : Follow) × TakesLine known (L.Note note) next × IsOfFills p f epoch known.stands known.holes known.wants note × TakesFilled p f (epoch_behind known epoch) next lines
TakesFilled p f epoch known (L.Open mirrored ∷ lines) = TakesFilled p f epoch (opened mirrored known) lines
TakesFilled p f epoch known (L.Start q ∷ lines) = ⊥
TakesFilled p f epoch known (L.Bad ∷ lines) = ⊥

-- ---- labels by themselves

-- the label is the leaf of its place
abbrev pub IsOfLeaves : ((epoch batch place : ℕ) → ℕ) → ℕ → List Hole → List Want → Note → Type 0
IsOfLeaves leaf epoch (h ∷ holes) wants note = Unit {0}
IsOfLeaves leaf epoch [] (Place batch place ∷ wants) note = note ≡ Label (leaf (suc epoch) batch place)
IsOfLeaves leaf epoch [] (Record batch ∷ wants) note = (x : ℕ) → note ≡ Label x → x ≡ leaf (suc epoch) batch 0
IsOfLeaves leaf epoch [] (Fixed wanted change ∷ wants) note = Unit {0}
IsOfLeaves leaf epoch [] (Setting r ∷ wants) note = Unit {0}
IsOfLeaves leaf epoch [] (Checkpoint ∷ wants) note = Unit {0}
IsOfLeaves leaf epoch [] [] note = Unit {0}

-- of one format: each line may stand behind those before it, each label the leaf of its place
abbrev pub TakesLabelled : ((epoch batch place : ℕ) → ℕ) → ℕ → Follow → List Line → Type 0
TakesLabelled leaf epoch known [] = Unit {0}
TakesLabelled leaf epoch known (L.Note note ∷ lines) =
    (next : Follow) × (TakesLine known (L.Note note) next × (IsOfLeaves leaf epoch known.holes known.wants note × TakesLabelled leaf (epoch_behind known epoch) next lines))
TakesLabelled leaf epoch known (L.Open mirrored ∷ lines) = TakesLabelled leaf epoch (opened mirrored known) lines
TakesLabelled leaf epoch known (L.Start q ∷ lines) = ⊥
TakesLabelled leaf epoch known (L.Bad ∷ lines) = ⊥

-- no other format begins
abbrev pub HasNoStart : List Line → Type 0
HasNoStart [] = Unit {0}
HasNoStart (L.Start q ∷ lines) = ⊥
HasNoStart (L.Open mirrored ∷ lines) = HasNoStart lines
HasNoStart (L.Note note ∷ lines) = HasNoStart lines
HasNoStart (L.Bad ∷ lines) = HasNoStart lines
