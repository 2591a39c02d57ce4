-- The stages of an opening.
use Rattle.std.specs.Prelude.{◌≡◌, ◌⊎◌, ℕ, suc, List, [], ◌∷◌, ◌++◌, length, Option, Some, None}
use Rattle.std.proofs.Common.{arith, refl, sym, ap, subst, ◌∙◌, inl, inr}
use Rattle.ob_base.specs.declared.params.Params.{Params}
use Rattle.ob_opening.proofs.ActLaws.{FoundActs, found_acts}
use Rattle.ob_opening.proofs.Movings.{kept_in}
use Rattle.ob_opening.proofs.OpenedLaws.{begun_opens, generation_is, next_stands}
use Rattle.ob_opening.specs.OpeningActs.{IsLeftAt, StandsInLife}
use Rattle.ob_opening.specs.OpeningRuns.{OpensFrom}
use Rattle.ob_recover.proofs.Pads.{life_goes_on}
use Rattle.ob_recover.specs.Calls.{Finds, repeated}
use Rattle.ob_recover.specs.Life.{IsActAllowed, IsLife, LifeAct, LifeState, Open, WordId, life_step, reached}
use Rattle.ob_seal.specs.declared.keys.Keys.{Keys}
use Rattle.ob_stand.specs.Stands.{OneOf, RingStanding, Stands, with_generation}
use Rattle.ob_store.proofs.Moments.{leaves_of, weakened}
use Rattle.ob_store.specs.Disk.{Disk, Image}
use Rattle.ob_store.specs.Images.{LeavesOnly, Passes, Same}
use Rattle.ob_twin.specs.Keyed.{tagging}
use Rattle.ob_twin.specs.Register.{KeepsAt, StandsAt}
use Rattle.ob_vault.proofs.Fetching.{at_standing, none_pending, same_act}
use Rattle.ob_vault.proofs.OpenedLife.{repeats_live}
use Rattle.ob_vault.proofs.OpenedRun.{IsFurther, further, moved}
use Rattle.ob_vault.proofs.Whole.{reached_join}
use Rattle.ob_vault.specs.Stages.{BeginsBehind, HowFar, IsOpeningStage, IsOpeningStaged, OpeningsComeInStages}

found_live : (p : Params) (word_of : WordId → ℕ) (s : LifeState) (pending : Option LifeAct) (found : List LifeAct) → ((a : LifeAct) → pending ≡ Some a → IsActAllowed p word_of s a) → Finds pending found → IsLife p word_of s found
found_live p word_of s pending found allowed (inl none) = subst (λ (acts : List LifeAct). IsLife p word_of s acts) (sym none) tt
found_live p word_of s pending found allowed (inr one) = subst (λ (acts : List LifeAct). IsLife p word_of s acts) (sym one.2) (allowed one.0 one.1, tt)

-- what an opening of which the generation began leaves until then
pub opens_of : {S : Type 0} (disk : S → Disk) (keys : Keys) (p : Params) (old new : S) (h : BeginsBehind disk keys p old new) → OpensFrom disk keys p old (h.begins).between
opens_of disk keys p old new h = begun_opens disk keys p h.found old h.found_in (h.begins).between (h.begins).from

module _ {S : Type 0} (disk : S → Disk) (only_now : (x : S) (c : Image) → (disk x).left_since (disk x).moment c → (disk x).may_leave c) (keys : Keys) (p : Params) (word_of : WordId → ℕ) (s : LifeState) (pending : Option LifeAct) (old : S)
    (tells : (disk old).tells) (left : IsLeftAt keys p word_of s pending (disk old).cells) (all : (c : Image) → (disk old).may_leave c → IsLeftAt keys p word_of s pending c) where
  abbrev pub f : FoundActs keys p word_of s pending (disk old).cells
  f = found_acts keys p word_of s pending (disk old).cells left

  abbrev t : LifeState
  t = reached p word_of s f.found

  abbrev st : RingStanding
  st = f.here.standing

  abbrev opens : LifeAct
  opens = Open (suc t.generation)

  abbrev begun : LifeState
  begun = life_step p word_of t opens

  abbrev repeats : List LifeAct
  repeats = repeated (length t.log)

  abbrev next : RingStanding
  next = with_generation st (suc st.generation)

  pub live : IsLife p word_of s f.found
  live = found_live p word_of s pending f.found left.allowed f.finds

  -- ---- up to the first sync

  pub finding : (x : S) → Passes Same (disk old) (disk x) → IsOpeningStage disk keys p word_of s ([], pending) old x
  finding x passes = record {
    is_life = tt;
    leaves = leaves_of Same (IsLeftAt keys p word_of s pending) (IsLeftAt keys p word_of s pending) (disk old) (disk x) passes (only_now old) all (λ told. left) (λ c d is same. subst (IsLeftAt keys p word_of s pending) (sym same) is) (λ c is. is);
  }

  -- ---- up to the generation's

  here_stands : (c : Image) → Stands keys p st c → StandsInLife keys p word_of t c
  here_stands c stands = at_standing keys p word_of st t c stands f.here.epoch f.here.generation f.here.life

  begun_stands : (c : Image) → Stands keys p next c → StandsInLife keys p word_of begun c
  begun_stands c stands = at_standing keys p word_of next begun c stands f.here.epoch (ap (λ (n : ℕ). suc n) f.here.generation)
      (record { table = (f.here.life).table; slots = (f.here.life).slots; homes = (f.here.life).homes; book = (f.here.life).book; kept = (f.here.life).kept; log = (f.here.life).log; words = (f.here.life).words })

  by_one : (c : Image) → OneOf keys p st next c → StandsInLife keys p word_of t c ⊎ ((a : LifeAct) × (Some opens ≡ Some a) × StandsInLife keys p word_of (life_step p word_of t a) c)
  by_one c (inl was) = inl (here_stands c was)
  by_one c (inr is) = inr (opens, refl, begun_stands c is)

  pub begun_left : (c : Image) → OneOf keys p st next c → IsLeftAt keys p word_of t (Some opens) c
  begun_left c one = record {
    allowed = λ y e. subst (λ (z : LifeAct). IsActAllowed p word_of t z) (same_act opens y e) (omega arith);
    stands = λ i same. by_one i (subst (OneOf keys p st next) same one);
  }

  pub beginning : (a x : S) → LeavesOnly (disk a) (disk x) (OneOf keys p st next) → IsOpeningStage disk keys p word_of s (f.found, Some opens) a x
  beginning a x leaves = record {
    is_life = live;
    leaves = weakened (disk a) (disk x) (OneOf keys p st next) (IsLeftAt keys p word_of t (Some opens)) begun_left leaves;
  }

  -- ---- the repeats

  abbrev behind : LifeState
  behind = reached p word_of begun repeats

  behind_stands : (c : Image) → Stands keys p next c → StandsInLife keys p word_of (reached p word_of s (f.found ++ opens ∷ repeats)) c
  behind_stands c stands =
      let there : IsFurther begun behind (length t.log) = further p word_of begun (length t.log) in
      let was : StandsInLife keys p word_of begun c = begun_stands c stands in
      subst (λ (u : LifeState). StandsInLife keys p word_of u c) (sym (reached_join p word_of s f.found (opens ∷ repeats)))
      (at_standing keys p word_of next behind c stands (f.here.epoch ∙ sym there.epoch) (ap (λ (n : ℕ). suc n) f.here.generation ∙ sym there.generation)
      (moved p word_of st.content st.records begun behind (length t.log) there
      (record { table = (f.here.life).table; slots = (f.here.life).slots; homes = (f.here.life).homes; book = (f.here.life).book; kept = (f.here.life).kept; log = (f.here.life).log; words = (f.here.life).words })))

  pub again_live : IsLife p word_of s (f.found ++ opens ∷ repeats)
  again_live = life_goes_on p word_of s f.found (opens ∷ repeats) live (omega arith, repeats_live p word_of begun (length t.log) (omega arith))

  pub again_left : (c : Image) → Stands keys p next c → IsLeftAt keys p word_of (reached p word_of s (f.found ++ opens ∷ repeats)) None c
  again_left c stands = record {
    allowed = λ y e. none_pending (IsActAllowed p word_of (reached p word_of s (f.found ++ opens ∷ repeats)) y) y e;
    stands = λ i same. inl (behind_stands i (subst (Stands keys p next) same stands));
  }

  repeating : (a x : S) → LeavesOnly (disk a) (disk x) (Stands keys p next) → IsOpeningStage disk keys p word_of s (f.found ++ opens ∷ repeats, None) a x
  repeating a x leaves = record {
    is_life = again_live;
    leaves = weakened (disk a) (disk x) (Stands keys p next) (IsLeftAt keys p word_of (reached p word_of s (f.found ++ opens ∷ repeats)) None) again_left leaves;
  }

  -- ---- by how far it came

  module _ (new : S) where
    pub synced : (x : S) (o : OpensFrom disk keys p old x) → LeavesOnly (disk o.synced) (disk x) (OneOf keys p st next)
    synced x o = o.since st tells f.here.stands

    -- the last stage of one whose generation began
    pub last_stage : (h : BeginsBehind disk keys p old new) → IsOpeningStage disk keys p word_of s (f.found ++ opens ∷ repeats, None) (h.begins).between new
    last_stage h =
        let b = h.begins in
        let number : (h.found).generation ≡ st.generation = generation_is keys p (disk old).cells h.found st.generation (h.found_in tells) (f.here.stands).generation in
        let register : StandsAt (tagging keys) 1 (disk old).cells (h.found).generation = subst (λ (n : ℕ). StandsAt (tagging keys) 1 (disk old).cells n) (sym number) (f.here.stands).generation in
        let kept : KeepsAt (tagging keys) 1 (disk old).cells (suc st.generation) (disk b.between).cells = subst (λ (n : ℕ). KeepsAt (tagging keys) 1 (disk old).cells (suc n) (disk b.between).cells) number (b.cells tells register) in
        let Q : Image → Type 0 = Stands keys p next in
        repeating b.between new
        (leaves_of Same Q Q (disk b.between) (disk new) b.reads (only_now b.between)
        (λ c may. next_stands keys p st (disk old).cells c f.here.stands (kept_in keys (disk b.between) (disk old).cells (suc st.generation) (b.settled tells) kept c may))
        (λ told. next_stands keys p st (disk old).cells (disk b.between).cells f.here.stands kept) (λ c d is same. subst Q (sym same) is) (λ c is. is))

    pub staged : (how : HowFar disk keys p old new) → IsOpeningStaged disk keys p old new word_of s pending how
    staged (inl still) = record { found = f.found; finds = f.finds; here = f.here; ends = new ∷ []; many = refl; stages = (finding new still, inl refl, refl) }
    staged (inr (inl o)) = record {
      found = f.found;
      finds = f.finds;
      here = f.here;
      ends = o.synced ∷ new ∷ [];
      many = refl;
      stages = (finding o.synced o.until, inr o.called, (beginning o.synced new (synced new o), inl refl, refl));
    }
    staged (inr (inr h)) =
        let b = h.begins in
        let o = opens_of disk keys p old new h in
        record {
          found = f.found;
          finds = f.finds;
          here = f.here;
          ends = o.synced ∷ b.between ∷ new ∷ [];
          many = refl;
          stages = (finding o.synced o.until, inr o.called, (beginning o.synced b.between (synced b.between o), inr (h.found, h.found_in tells, b.begun), (last_stage h, inl refl, refl)));
        }

pub openings_come_in_stages : {S : Type 0} (disk : S → Disk) → ((x : S) (c : Image) → (disk x).left_since (disk x).moment c → (disk x).may_leave c) → OpeningsComeInStages disk
openings_come_in_stages disk only_now keys p word_of s pending old new tells left all how = staged disk only_now keys p word_of s pending old tells left all new how
