-- What a crash inside an opening leaves.
use Rattle.std.proofs.Common.{◌≡◌, ◌⊎◌, inl, inr, ⊎_elim, ℕ, suc, List, [], ◌∷◌, Option, Some, refl, sym, ap, subst, arith}
use Rattle.ob_base.specs.declared.params.Params.{Params}
use Rattle.ob_store.specs.Disk.{Disk, Image}
use Rattle.ob_store.specs.Images.{IsSynced, LeavesOnly, Passes, Same}
use Rattle.ob_store.proofs.Moments.{leaves_of, then_on, weakened}
use Rattle.ob_seal.specs.declared.keys.Keys.{Keys}
use Rattle.ob_stand.specs.Stands.{OneOf, RingStanding, Stands, ring_standing, with_generation}
use Rattle.ob_stand.specs.Once.{SameStanding}
use Rattle.ob_stand.proofs.OnceLaws.{stands_once}
use Rattle.ob_recover.specs.Calls.{Finds}
use Rattle.ob_recover.specs.Life.{IsActAllowed, IsLife, LifeAct, LifeState, Open, WordId, life_step, reached}
use Rattle.ob_opening.specs.OpeningActs.{IsLeftAt, StandsInLife}
use Rattle.ob_opening.specs.OpeningRuns.{OpensFrom}
use Rattle.ob_vault.proofs.Fetching.{at_standing}
use Rattle.ob_ring_world.specs.OpeningMoments.{IsLeftInOpening, OpeningsMomentByMoment, StandsAlso}

pub same_act : (a b : LifeAct) → ◌≡◌ {A = Option LifeAct} (Some a) (Some b) → a ≡ b
same_act a b e = cc

module _ (keys : Keys) (p : Params) (word_of : WordId → ℕ) where
  -- what the image tells of the act in flight: it was not done, or it was
  pub record IsFound (s : LifeState) (pending : Option LifeAct) (image : Image) : Type 0 where
    pub found : List LifeAct
    pub finds : Finds pending found
    pub is_life : IsLife p word_of s found
    pub here : StandsInLife keys p word_of (reached p word_of s found) image

  pub found_at : (s : LifeState) (pending : Option LifeAct) (image : Image) → IsLeftAt keys p word_of s pending image → IsFound s pending image
  found_at s pending image left = ⊎_elim
      (λ (none : StandsInLife keys p word_of s image). record { found = []; finds = inl refl; is_life = tt; here = none })
      (λ (one : (a : LifeAct) × (pending ≡ Some a) × StandsInLife keys p word_of (life_step p word_of s a) image). record { found = one.0 ∷ []; finds = inr (one.0, one.1, refl); is_life = (left.allowed one.0 one.1, tt); here = one.2 })
      (left.stands image refl)

  -- behind what was found the next generation may have begun
  module _ (t : LifeState) (cells : Image) (here : StandsInLife keys p word_of t cells) where
    abbrev st : RingStanding
    st = here.standing

    abbrev opens : LifeAct
    opens = Open (suc t.generation)

    same_stands : (c : Image) → Stands keys p st c → StandsInLife keys p word_of t c
    same_stands c stands = at_standing keys p word_of st t c stands here.epoch here.generation here.life

    next_stands : (c : Image) → Stands keys p (with_generation st (suc st.generation)) c → StandsInLife keys p word_of (life_step p word_of t opens) c
    next_stands c stands = at_standing keys p word_of (with_generation st (suc st.generation)) (life_step p word_of t opens) c stands here.epoch (ap (λ (n : ℕ). suc n) here.generation)
        (record { table = (here.life).table; slots = (here.life).slots; homes = (here.life).homes; book = (here.life).book; kept = (here.life).kept; log = (here.life).log; words = (here.life).words })

    by_one : (c : Image) → OneOf keys p st (with_generation st (suc st.generation)) c → StandsInLife keys p word_of t c ⊎ ((a : LifeAct) × (Some opens ≡ Some a) × StandsInLife keys p word_of (life_step p word_of t a) c)
    by_one c (inl was) = inl (same_stands c was)
    by_one c (inr next) = inr (opens, refl, next_stands c next)

    pub left_behind : (c : Image) → OneOf keys p st (with_generation st (suc st.generation)) c → IsLeftAt keys p word_of t (Some opens) c
    left_behind c one = record {
      allowed = λ a e. subst (λ (x : LifeAct). IsActAllowed p word_of t x) (same_act opens a e) (omega arith);
      stands = λ i same. by_one i (subst (OneOf keys p st (with_generation st (suc st.generation))) same one);
    }

    pub also : (c : Image) → OneOf keys p st (with_generation st (suc st.generation)) c → StandsAlso keys p cells c
    also c one at (g, is) =
        let same : SameStanding (ring_standing at g is.content is.records) st = stands_once keys p (ring_standing at g is.content is.records) st cells is.stands here.stands in
        ⊎_elim
        (λ (was : Stands keys p st c). (g, record { content = is.content; records = is.records; stands = subst (λ (x : RingStanding). Stands keys p x c) (sym (standing_is (ring_standing at g is.content is.records) st same)) was }))
        (λ (next : Stands keys p (with_generation st (suc st.generation)) c).
        (suc g, record { content = is.content; records = is.records; stands = subst (λ (x : RingStanding). Stands keys p (with_generation x (suc x.generation)) c) (sym (standing_is (ring_standing at g is.content is.records) st same)) next }))
        one
      where
        standing_is : (a b : RingStanding) → SameStanding a b → a ≡ b
        standing_is a b same = λ i. record { epoch = same.epoch i; generation = same.generation i; map = λ k. same.map k i; content = same.content i; records = same.records i }

module _ {S : Type 0} (disk : S → Disk) (only : (x : S) (c : Image) → (disk x).left_since (disk x).moment c → (disk x).may_leave c) (keys : Keys) (p : Params) (word_of : WordId → ℕ) (s : LifeState) (pending : Option LifeAct) (old : S)
    (tells : (disk old).tells) (synced : IsSynced (disk old)) (left : IsLeftAt keys p word_of s pending (disk old).cells) where
  at : IsFound keys p word_of s pending (disk old).cells
  at = found_at keys p word_of s pending (disk old).cells left

  abbrev t : LifeState
  t = reached p word_of s at.found

  abbrev stood : RingStanding
  stood = at.here.standing

  abbrev P : Image → Type 0
  P image = IsLeftAt keys p word_of t (Some (Open (suc t.generation))) image × StandsAlso keys p (disk old).cells image

  by_one_of : (c : Image) → OneOf keys p stood (with_generation stood (suc stood.generation)) c → P c
  by_one_of c one = (left_behind keys p word_of t (disk old).cells at.here c one, also keys p word_of t (disk old).cells at.here c one)

  same_cells : (c : Image) → (disk old).may_leave c → c ≡ (disk old).cells
  same_cells c may = λ i k. synced c may k i

  at_first : P (disk old).cells
  at_first = by_one_of (disk old).cells (inl at.here.stands)

  reading : (mid : S) → Passes Same (disk old) (disk mid) → LeavesOnly (disk old) (disk mid) P
  reading mid passes = leaves_of Same P P (disk old) (disk mid) passes (λ c. only old c) (λ c may. subst P (sym (same_cells c may)) at_first) (λ is. at_first) (λ c d is same. subst P (sym same) is) (λ c is. is)

  by_leaves : (new : S) → Passes Same (disk old) (disk new) ⊎ OpensFrom disk keys p old new → LeavesOnly (disk old) (disk new) P
  by_leaves new (inl passes) = reading new passes
  by_leaves new (inr f) =
      then_on (disk old) (disk f.synced) (disk new) P (reading f.synced f.until)
      (weakened (disk f.synced) (disk new) (OneOf keys p stood (with_generation stood (suc stood.generation))) P by_one_of (f.since stood tells at.here.stands))

  pub left_in_opening : (new : S) → Passes Same (disk old) (disk new) ⊎ OpensFrom disk keys p old new → IsLeftInOpening disk keys p word_of s pending old new
  left_in_opening new leaves = record { found = at.found; finds = at.finds; is_life = at.is_life; here = at.here; images = by_leaves new leaves }

pub openings_moment_by_moment : {S : Type 0} (disk : S → Disk) → ((x : S) (c : Image) → (disk x).left_since (disk x).moment c → (disk x).may_leave c) → OpeningsMomentByMoment disk
openings_moment_by_moment disk only keys p word_of s pending old new tells synced left leaves = left_in_opening disk only keys p word_of s pending old tells synced left new leaves
