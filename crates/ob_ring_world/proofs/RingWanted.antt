-- What is said of openings and of rows of runs over a ring store, without one of its premises: for each a case that keeps all the others, and of which it
-- isn't so.
use Rattle.std.specs.Prelude.{◌≡◌, ℕ, Bool, true, false, List, [], ◌∷◌, Option, None}
use Rattle.std.proofs.Common.{refl, inl, ⊎_elim, arith}
use Rattle.ob_base.specs.declared.fault.Fault.TheVariants.{Memory}
use Rattle.ob_base.specs.declared.params.Params.{Params}
use Rattle.ob_desk.specs.Desk.{Setup, setup_of}
use Rattle.ob_opening.specs.OpeningActs.{IsLeftAt, StandsInLife}
use Rattle.ob_opening.specs.OpeningRuns.{OpensFrom}
use Rattle.ob_recover.specs.Life.{LifeAct, LifeState, WordId}
use Rattle.ob_seal.specs.declared.keys.Keys.{Keys}
use Rattle.ob_serial.specs.VaultKinds.{Kind}
use Rattle.ob_stand.specs.Stands.{RingStanding, Stands, StandsRing}
use Rattle.ob_start.specs.Heads.{head_mark}
use Rattle.ob_store.specs.Disk.{Disk, Image}
use Rattle.ob_store.specs.Images.{IsSynced, Passes, Same}
use Rattle.ob_vault.specs.RingVaults.{Running}
use Rattle.ob_world.proofs.Rows.{at_zero}
use Rattle.ob_world.specs.Worlds.{World, IsWorld, first_world}
use Rattle.ob_ring_world.proofs.RingRows.{two_batches}
use Rattle.ob_ring_world.specs.OpeningMoments.{IsLeftInOpening}
use Rattle.ob_ring_world.specs.Pasts.{RingPast, formatted_past}
use Rattle.ob_ring_world.specs.RingCourses.{RingPromises, ring_course}
use Rattle.ob_ring_world.specs.Runs.{AreRingPartsFrom, BeginsWorld, Formats, IsOverRing, RingPart, Stops, events_of_parts, left_by_format}

-- ---- an image that is no store

abbrev pub no_store : Image
no_store cell = []

stands_not : (keys : Keys) (p : Params) (s : RingStanding) → Stands keys p s no_store → ⊥
unfolding head_mark
stands_not keys p s stands = (let e : ◌≡◌ {A = List ℕ} [] (head_mark 1) = ((stands.holds).head).marked in cc)

module _ (keys : Keys) (p : Params) (word_of : WordId → ℕ) where
  lives_not : (s : LifeState) → StandsInLife keys p word_of s no_store → ⊥
  lives_not s here = stands_not keys p here.standing here.stands

  left_not : (s : LifeState) (pending : Option LifeAct) → IsLeftAt keys p word_of s pending no_store → ⊥
  left_not s pending left = ⊎_elim (λ here. lives_not s here) (λ next. lives_not _ next.2) (left.stands no_store refl)

-- a store that tells these cells, and of which a crash may leave what has this
abbrev pub leaving : Type 0 → Image → (Image → Type 0) → Disk
leaving tells cells may = record { tells = tells; cells = cells; leaves = Unit {0}; may_leave = may; moment = λ part. 0; left_since = λ t c. may c; seen = None; out = 0; faults = 0; anchors = [] }

same_again : (tells : Type 0) (cells : Image) (may : Image → Type 0) → Passes Same (leaving tells cells may) (leaving tells cells may)
same_again tells cells may = record { later = λ part. omega arith; now = λ c left. (c, left, refl); since = λ t c le left. inl left; told = λ told. (told, refl) }

-- ---- openings

module _ (keys : Keys) (p : Params) (word_of : WordId → ℕ) (s : LifeState) (pending : Option LifeAct) where
  -- of a store where no life is
  abbrev pub empty_disk : Unit {0} → Disk
  empty_disk u = leaving (Unit {0}) no_store (λ c. c ≡ no_store)

  pub life_is_wanted : (empty_disk tt).tells × IsSynced (empty_disk tt) × Passes Same (empty_disk tt) (empty_disk tt) × (IsLeftInOpening empty_disk keys p word_of s pending tt tt → ⊥)
  life_is_wanted = (tt, λ c same k. (λ i. same i k), same_again (Unit {0}) no_store (λ c. c ≡ no_store), λ left. lives_not keys p word_of _ left.here)

  module _ (good : Image) (here : IsLeftAt keys p word_of s pending good) where
    -- of one for which writes wait
    abbrev pub waiting_disk : Unit {0} → Disk
    waiting_disk u = leaving (Unit {0}) good (λ c. Unit {0})

    pub sync_is_wanted : (waiting_disk tt).tells × IsLeftAt keys p word_of s pending (waiting_disk tt).cells × Passes Same (waiting_disk tt) (waiting_disk tt) × (IsLeftInOpening waiting_disk keys p word_of s pending tt tt → ⊥)
    sync_is_wanted = (tt, here, same_again (Unit {0}) good (λ c. Unit {0}), λ left. left_not keys p word_of _ _ (left.images.each no_store tt).0)

    -- of one that tells nothing of its cells
    abbrev pub untold_disk : Bool → Disk
    untold_disk true = leaving ⊥ good (λ c. c ≡ good)
    untold_disk false = leaving ⊥ good (λ c. Unit {0})

    pub telling_is_wanted : IsSynced (untold_disk true) × IsLeftAt keys p word_of s pending (untold_disk true).cells × OpensFrom untold_disk keys p true false × (IsLeftInOpening untold_disk keys p word_of s pending true false → ⊥)
    telling_is_wanted = (
      λ c same k. (λ i. same i k),
      here,
      record {
        synced = true;
        called = record { cells = []; called = tt };
        until = same_again ⊥ good (λ c. c ≡ good);
        keeps = record { tells = λ told. told; cells = λ none. absurd none };
        settled = λ none. absurd none;
        register = λ g none. absurd none;
        since = λ stood none. absurd none;
        in_stages = λ none. absurd none;
      },
      λ left. left_not keys p word_of _ _ (left.images.each no_store tt).0,
    )

-- ---- rows of runs

-- from a store where no life begins: an opening of it that is refused
abbrev pub nobody : Kind ⊥
nobody = record { holds = λ v u. ⊥; sound = λ v u. ⊥; stands = λ v image at. ⊥; disk = λ v. absurd v; called = λ old call answer notes new. ⊥ }

abbrev pub runs_none : ⊥ → Running (Unit {0})
runs_none v = absurd v

abbrev pub one_store : Unit {0} → Disk
one_store u = leaving (Unit {0}) no_store (λ c. c ≡ no_store)

abbrev pub setup : Setup
setup = setup_of two_batches

abbrev pub refused : List (RingPart ⊥ (Unit {0}))
refused = Stops tt tt 1 0 no_store ∷ []

nobody_over : IsOverRing nobody one_store runs_none
nobody_over = record { words = record { called = λ v. absurd v; holds = λ v. absurd v }; sound = λ v. absurd v; stands = λ v. absurd v; since = λ v. absurd v }

pub beginning_is_wanted : (keys : Keys) (word_of : WordId → ℕ) (slot : ℕ → ℕ → ℕ) (kept : RingPromises keys two_batches word_of slot)
    → IsOverRing nobody one_store runs_none × AreRingPartsFrom nobody one_store runs_none setup keys word_of (left_by_format (one_store tt) Formats) refused
    × ((last : World RingPast) → IsWorld (ring_course keys two_batches word_of slot kept) (first_world setup [] at_zero 0 (formatted_past two_batches 0)) (events_of_parts refused) last → ⊥)
beginning_is_wanted keys word_of slot kept = (
  nobody_over,
  (refl, tt, λ c same k. (λ i. same i k), inl (same_again (Unit {0}) no_store (λ c. c ≡ no_store)), omega arith, inl (Memory, inl (0, omega arith, tt)), refl, tt),
  λ last run. (let stands : (generation : ℕ) × StandsRing keys two_batches generation no_store run.1.left = run.1.stands in stands_not keys two_batches _ stands.1.stands),
)

-- from another image than one that was left: the same opening, behind a format that left a store elsewhere
abbrev pub two_stores : Image → Bool → Disk
two_stores good true = leaving (Unit {0}) good (λ c. c ≡ good)
two_stores good false = leaving (Unit {0}) no_store (λ c. c ≡ no_store)

abbrev pub runs_elsewhere : ⊥ → Running Bool
runs_elsewhere v = absurd v

abbrev pub elsewhere : List (RingPart ⊥ Bool)
elsewhere = Stops false false 1 0 no_store ∷ []

elsewhere_over : (good : Image) → IsOverRing nobody (two_stores good) runs_elsewhere
elsewhere_over good = record { words = record { called = λ v. absurd v; holds = λ v. absurd v }; sound = λ v. absurd v; stands = λ v. absurd v; since = λ v. absurd v }

pub left_image_is_wanted : (keys : Keys) (word_of : WordId → ℕ) (slot : ℕ → ℕ → ℕ) (kept : RingPromises keys two_batches word_of slot) (good : Image) → BeginsWorld keys two_batches word_of slot (left_by_format (two_stores good true) Formats) at_zero
    → IsOverRing nobody (two_stores good) runs_elsewhere × AreRingPartsFrom nobody (two_stores good) runs_elsewhere setup keys word_of (λ c. c ≡ no_store) elsewhere
    × ((last : World RingPast) → IsWorld (ring_course keys two_batches word_of slot kept) (first_world setup [] at_zero 0 (formatted_past two_batches 0)) (events_of_parts elsewhere) last → ⊥)
left_image_is_wanted keys word_of slot kept good begins = (
  elsewhere_over good,
  (refl, tt, λ c same k. (λ i. same i k), inl (same_again (Unit {0}) no_store (λ c. c ≡ no_store)), omega arith, inl (Memory, inl (0, omega arith, tt)), refl, tt),
  λ last run. (let stands : (generation : ℕ) × StandsRing keys two_batches generation no_store run.1.left = run.1.stands in stands_not keys two_batches _ stands.1.stands),
)
