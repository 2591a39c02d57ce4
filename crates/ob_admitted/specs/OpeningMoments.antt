-- An opening that a crash cuts off: what it has shown at each moment, and what is left then, as a row of runs takes these.
use Rattle.std.specs.Prelude.{◌≡◌, ◌<◌, ℕ, zero, suc, ◌-◌, List, ◌∷◌, length, take}
use Rattle.std.proofs.Common.{inl, inr}
use Rattle.ob_base.specs.declared.params.Params.{Params}
use Rattle.ob_recover.specs.Finds.{IsFoundInRing}
use Rattle.ob_recover.specs.declared.found.Found.{Found}
use Rattle.ob_seal.specs.declared.keys.Keys.{Keys}
use Rattle.ob_stand.specs.Stands.{RingStanding, Stands}
use Rattle.ob_start.specs.Beginning.{IsLackingBy}
use Rattle.ob_store.specs.Disk.{Disk}
use Rattle.ob_store.specs.declared.watch.Note.{Note}
use Rattle.ob_twin.specs.Stages.{AreSpans}
use Rattle.ob_vault.specs.Joined.{IsRunTold, Stopped}
use Rattle.ob_vault.specs.RingLaws.{ReadsHead}
use Rattle.ob_vault.specs.Spans.{span}
use Rattle.ob_vault.specs.Stages.{HowFar}
use Rattle.ob_admitted.specs.Stopped.{IsStopShown, begun_row, opening_row, reads_of_opening}

-- An opening over that store, cut off at a moment of this stretch of time once it had shown these notes, is a part of a row of runs, and shows and leaves
-- what such a row takes of it.
abbrev pub IsMomentShown : {S : Type 0} → (S → Disk) → Keys → Params → (old : S) → S × S → (notes : List Note) → Type 0
IsMomentShown disk keys p old x notes = IsRunTold (span disk) keys p (Stopped (old, old) x) × IsStopShown keys p (span disk (old, old)) (span disk x) notes

-- the first of an opening's reads were shown
abbrev pub AreReadsShown : Params → (epoch : ℕ) → (notes : List Note) → Type 0
AreReadsShown p epoch notes = (count : ℕ) × (notes ≡ take count (reads_of_opening p epoch))

-- The stages of an opening that found this, numbered from 0: it reads, up to its first sync; that sync was shown; its generation's gate is closed, the body
-- laid, and the gate opened; and batches are shown again. These notes were shown at a moment of each: in those of the gate and the body, by how many lack
-- before the repeats.
abbrev pub IsShownIn : Params → Found → (stage : ℕ) → (notes : List Note) → Type 0
IsShownIn p found zero notes = AreReadsShown p found.epoch notes
IsShownIn p found (suc zero) notes = notes ≡ take (suc (length (reads_of_opening p found.epoch))) (opening_row p found)
IsShownIn p found (suc (suc stage)) notes = (count : ℕ) × (length (reads_of_opening p found.epoch) < count) × IsLackingBy stage (length (begun_row p found) - count) × (notes ≡ take count (opening_row p found))

-- It found this, and was sure of that store behind its first sync; it may be cut off at each moment of such stages.
pub record IsCutInStages {S : Type 0} (disk : S → Disk) (keys : Keys) (p : Params) (old new : S) : Type 0 where
  pub found : Found
  pub found_in : IsFoundInRing keys p (disk old).cells found
  pub synced : S
  pub ends : List S
  pub cut : AreSpans (λ stage x. (notes : List Note) → IsShownIn p found stage notes → IsMomentShown disk keys p old x notes) 0 old (synced ∷ synced ∷ ends) new

-- It came to its reads at most, those of an opening of the epoch that is durable; or it may be cut off in stages.
abbrev pub IsOpeningCutShown : {S : Type 0} (disk : S → Disk) (keys : Keys) (p : Params) (epoch : ℕ) (old read new : S) → HowFar disk keys p read new → Type 0
IsOpeningCutShown disk keys p epoch old read new (inl still) = (notes : List Note) → AreReadsShown p epoch notes → IsMomentShown disk keys p old (old, new) notes
IsOpeningCutShown disk keys p epoch old read new (inr since) = IsCutInStages disk keys p old new

-- The head was read, and behind it an opening came so far, answered or refused. Where the store stood for something, a run that is cut off at any moment of
-- it is such a part of a row.
abbrev pub CutOpeningsAreShown : {S : Type 0} → (S → Disk) → Type 0
CutOpeningsAreShown {S} disk = (keys : Keys) (p : Params) (old read new : S) (s : RingStanding) → (disk old).tells → Stands keys p s (disk old).cells → ReadsHead (disk old) (disk read) → (how : HowFar disk keys p read new)
    → IsOpeningCutShown disk keys p s.epoch old read new how
