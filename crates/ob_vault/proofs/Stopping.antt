-- An opening that was refused leaves a store where its life is.
use Rattle.std.specs.Prelude.{◌≡◌, ◌⊎◌, ℕ, suc, Bool, List, [], ◌∷◌, ◌++◌, length, Option, Some, None}
use Rattle.std.proofs.Common.{arith, sym, ap, subst, ◌∙◌, inl, inr}
use Rattle.ob_base.specs.declared.params.Params.{Params}
use Rattle.ob_recover.proofs.Pads.{life_goes_on}
use Rattle.ob_recover.specs.Calls.{Finds}
use Rattle.ob_recover.specs.Life.{IsActAllowed, IsLife, LifeAct, LifeState, Open, WordId, life_step, reached}
use Rattle.ob_vault.proofs.Fetching.{none_pending, same_act}
use Rattle.ob_vault.specs.RingLaws.{ReadsHead}
use Rattle.ob_seal.specs.declared.keys.Keys.{Keys}
use Rattle.ob_store.specs.Disk.{Disk, Image}
use Rattle.ob_store.specs.Lines.{Trace}
use Rattle.ob_opening.specs.OpeningActs.{IsLeftAt, OpensInLife, StandsInLife}
use Rattle.ob_vault.proofs.OpenedLife.{repeats_live}
use Rattle.ob_vault.specs.Lives.{IsStoppedInLife, opening_acts}

-- an act of a life is allowed where it comes
allowed_at : (p : Params) (word_of : WordId → ℕ) (s : LifeState) (xs : List LifeAct) (a : LifeAct) (ys : List LifeAct) → IsLife p word_of s (xs ++ a ∷ ys) → IsActAllowed p word_of (reached p word_of s xs) a
allowed_at p word_of s [] a ys life = life.0
allowed_at p word_of s (x ∷ xs) a ys life = allowed_at p word_of (life_step p word_of s x) xs a ys life.1

-- an opening's acts may always be made
pub opening_lives : (p : Params) (word_of : WordId → ℕ) (s : LifeState) → IsLife p word_of s (opening_acts s)
opening_lives p word_of s = (omega arith, repeats_live p word_of (life_step p word_of s (Open (suc s.generation))) (length s.log) (omega arith))

module _ (keys : Keys) (most : ℕ) (p : Params) (old mid new : Disk) (before after : Trace) (answered : Bool) (head : ReadsHead old mid) (word_of : WordId → ℕ) (s : LifeState) (pending : Option LifeAct)
    (acts : IsLeftAt keys p word_of s pending mid.cells → OpensInLife keys most p word_of s pending mid new before after answered) (tells : old.tells) (here : IsLeftAt keys p word_of s pending old.cells)
    (each : (c : Image) → old.may_leave c → IsLeftAt keys p word_of s pending c) where
  same_cells : old.cells ≡ mid.cells
  same_cells = λ i k. sym ((head.keeps).cells tells k) i

  o : OpensInLife keys most p word_of s pending mid new before after answered
  o = acts (subst (λ (c : Image). IsLeftAt keys p word_of s pending c) same_cells here)

  found_lives : (found : List LifeAct) → Finds pending found → IsLife p word_of s found
  found_lives found (inl none) = subst (λ (l : List LifeAct). IsLife p word_of s l) (sym none) tt
  found_lives found (inr (a, flies, is)) = subst (λ (l : List LifeAct). IsLife p word_of s l) (sym is) (here.allowed a flies, tt)

  all_lives : IsLife p word_of s (o.found ++ opening_acts (reached p word_of s o.found))
  all_lives = life_goes_on p word_of s o.found (opening_acts (reached p word_of s o.found)) (found_lives o.found o.finds) (opening_lives p word_of (reached p word_of s o.found))

  left_then : (i : Image) → new.may_leave i → StandsInLife keys p word_of (reached p word_of s o.made) i ⊎ ((a : LifeAct) × (o.in_flight ≡ Some a) × StandsInLife keys p word_of (life_step p word_of (reached p word_of s o.made) a) i)
  left_then = (o.law).leaves (λ c left. let back = (head.passes).now c left in let at = each back.0 back.1 in at.stands c (sym back.2))

  allowed_then : ((o.made ≡ []) × (o.in_flight ≡ pending))
      ⊎ ((rest : List LifeAct) × (o.found ++ opening_acts (reached p word_of s o.found) ≡ o.made ++ rest) × ((o.in_flight ≡ None) ⊎ ((a : LifeAct) × (more : List LifeAct) × (o.in_flight ≡ Some a) × (rest ≡ a ∷ more))))
      → (a : LifeAct) → o.in_flight ≡ Some a → IsActAllowed p word_of (reached p word_of s o.made) a
  allowed_then (inl (none, still)) a e = subst (λ (l : List LifeAct). IsActAllowed p word_of (reached p word_of s l) a) (sym none) (here.allowed a (sym still ∙ e))
  allowed_then (inr (rest, are, inl idle)) a e = none_pending (IsActAllowed p word_of (reached p word_of s o.made) a) a (sym idle ∙ e)
  allowed_then (inr (rest, are, inr (b, more, flies, is))) a e =
      subst (λ (x : LifeAct). IsActAllowed p word_of (reached p word_of s o.made) x) (same_act b a (sym flies ∙ e))
      (allowed_at p word_of s o.made b more (subst (λ (l : List LifeAct). IsLife p word_of s l) (are ∙ ap (λ (l : List LifeAct). o.made ++ l) is) all_lives))

  pub stops_in_life : IsStoppedInLife keys p word_of s pending new
  stops_in_life = record {
    found = o.found;
    finds = o.finds;
    made = o.made;
    in_flight = o.in_flight;
    part = (o.law).part;
    is_life = (o.law).is_life;
    images = λ c left. record { allowed = allowed_then (o.law).part; stands = λ i same. left_then i (subst new.may_leave same left) };
  }
