-- Parts of an end, one behind the other.
use Rattle.std.specs.Prelude.{◌≡◌, ◌<◌, ℕ, ◌+◌, List, [], ◌∷◌, ◌++◌, length, take, drop, get_or, Option, Result}
use Rattle.std.specs.List.{flat_map}
use Rattle.std.proofs.Common.{refl, sym, ap, ◌∙◌, subst}
use Rattle.std.proofs.lemmas.Grind.{flat_map-append}
use Rattle.std.proofs.lemmas.List.{append-nil, take_more, take-append-drop}
use Rattle.ob_base.specs.declared.params.Params.{Params}
use Rattle.ob_cells.specs.Writes.{WritesRun}
use Rattle.ob_seal.specs.declared.keys.Keys.{Keys}
use Rattle.ob_seal.specs.Sealing.{Sealing}
use Rattle.ob_store.specs.Disk.{Disk, Image}
use Rattle.ob_store.specs.Images.{Elapses, SameBut, Shrinks, Tears}
use Rattle.ob_store.specs.Calls.{GoesOn, Keeps}
use Rattle.ob_store.specs.Lines.{Trace}
use Rattle.ob_store.specs.Told.{Tells, TellsFirst}
use Rattle.ob_store.specs.declared.event.Event.{Event}
use Rattle.ob_store.specs.declared.watch.Note.{Note}
use Rattle.ob_store.proofs.Doing.{first_behind, first_more, tells_then}
use Rattle.ob_store.proofs.Moments.{passed_none, passed_still, passed_then, passes_so, torn_once}
use Rattle.ob_stand.specs.Ends.{RingEnd, IsEndOf}
use Rattle.ob_stand.specs.Fills.{next_gate}
use Rattle.ob_stand.specs.Spare.{Spare, SameButIn}
use Rattle.ob_stand.specs.Stands.{RingStanding}
use Rattle.ob_stand.proofs.EndLaws.{end_writes_spare}
use Rattle.ob_stand.proofs.FillLaws.{end_writes_stay}
use Rattle.ob_end.specs.EndWrites.{KeepsStanding, SameFirst, WritesSpare}

pub first_joins : (c d e : Image) → SameFirst c d → SameFirst d e → SameFirst c e
first_joins c d e one two k low = one k low ∙ two k low

pub in_join : (kind : ℕ → Type 0) (c d e : Image) → SameButIn kind c d → SameButIn kind d e → SameButIn kind c e
in_join kind c d e one two k off = one k off ∙ two k off

pub spare_none : (p : Params) (s : RingStanding) (d : Disk) → WritesSpare p s d d
spare_none p s d = record { rest = λ t k off. refl; passes = passed_none d (SameButIn (Spare p s)) (λ c k off. refl) }

pub spare_then : (p : Params) (s : RingStanding) (old mid new : Disk) → (old.tells → mid.tells) → WritesSpare p s old mid → WritesSpare p s mid new → WritesSpare p s old new
spare_then p s old mid new tells one two = record {
  rest = λ t. in_join (Spare p s) new.cells mid.cells old.cells (two.rest (tells t)) (one.rest t);
  passes = passed_then (SameButIn (Spare p s)) old mid new (in_join (Spare p s)) one.passes two.passes;
}

-- a sync behind
pub spare_synced : (p : Params) (s : RingStanding) (old mid new : Disk) → (old.tells → mid.tells) → WritesSpare p s old mid → Keeps mid new → GoesOn mid new → Elapses mid new → Shrinks mid new → WritesSpare p s old new
spare_synced p s old mid new tells one keeps goes time crash = record {
  rest = λ t k off. keeps.cells (tells t) k ∙ one.rest t k off;
  passes = passed_still (SameButIn (Spare p s)) old mid new one.passes goes time crash keeps;
}

module _ (keys : Keys) (p : Params) (s : RingStanding) (end : RingEnd) where
  pub stays_none : (d : Disk) → KeepsStanding keys p s end d d
  stays_none d = record { spare = spare_none p s d; buckets = λ t are. are; checkpoint = λ t is. is }

  pub stays_then : (old mid new : Disk) → (old.tells → mid.tells) → KeepsStanding keys p s end old mid → KeepsStanding keys p s end mid new → KeepsStanding keys p s end old new
  stays_then old mid new tells one two = record {
    spare = spare_then p s old mid new tells one.spare two.spare;
    buckets = λ t are. two.buckets (tells t) (one.buckets t are);
    checkpoint = λ t is. two.checkpoint (tells t) (one.checkpoint t is);
  }

  -- a gate is written
  pub gate_stays : (b cell : ℕ) (old new : Disk) → IsEndOf p s end → b < p.batches → cell ≡ next_gate p s b → GoesOn old new → Elapses old new → Tears cell old new
      → (old.tells → SameBut cell new.cells old.cells) → KeepsStanding keys p s end old new
  gate_stays b cell old new follows low is goes time tears rest = record {
    spare = record {
      rest = λ t. (end_writes_spare p s new.cells old.cells).gate b low (here new.cells old.cells (rest t));
      passes = passes_so (SameBut cell) (SameButIn (Spare p s)) old new (λ c d same. (end_writes_spare p s c d).gate b low (here c d same)) (torn_once cell old new goes time tears rest);
    };
    buckets = λ t are u on. (end_writes_stay keys p s end new.cells old.cells follows).bucket_gated u b on low (here new.cells old.cells (rest t)) (are u on);
    checkpoint = λ t holds. (end_writes_stay keys p s end new.cells old.cells follows).check_gated b low (here new.cells old.cells (rest t)) holds;
  }
    where
      here : (c d : Image) → SameBut cell c d → SameBut (next_gate p s b) c d
      here c d same = subst (λ k. SameBut k c d) is same

-- ---- lists

module _ {X : Type 0} (f : ℕ → List X) (us : List ℕ) (i : ℕ) (low : i < length us) where
  -- what is made of the first ones
  pub flat_next : flat_map f (take (i + 1) us) ≡ flat_map f (take i us) ++ f (get_or us i 0)
  flat_next = ap (flat_map f) (take_more us i 0 low) ∙ flat_map-append f (take i us) (get_or us i 0 ∷ []) ∙ ap (λ (l : List X). flat_map f (take i us) ++ l) (append-nil (f (get_or us i 0)))

  pub flat_split : (flat_map f (take i us) ++ f (get_or us i 0)) ++ flat_map f (drop (i + 1) us) ≡ flat_map f us
  flat_split = ap (λ (l : List X). l ++ flat_map f (drop (i + 1) us)) (sym flat_next) ∙ sym (flat_map-append f (take (i + 1) us) (drop (i + 1) us)) ∙ ap (flat_map f) (take-append-drop (i + 1) us)

-- ---- what is told of them

module _ (f : ℕ → List Note) (us : List ℕ) (i u : ℕ) (low : i < length us) (at : u ≡ get_or us i 0) (a b c : Option (List Event)) (k l m : Trace) where
  here : f (get_or us i 0) ≡ f u
  here = ap f (sym at)

  pub told_next : Tells (flat_map f (take i us)) (flat_map f (take i us)) a b k l → Tells (f u) (f u) b c l m → Tells (flat_map f (take (i + 1) us)) (flat_map f (take (i + 1) us)) a c k m
  told_next before now =
      subst (λ (xs : List Note). Tells xs xs a c k m) (sym (flat_next f us i low ∙ ap (λ (xs : List Note). flat_map f (take i us) ++ xs) here))
      (tells_then (flat_map f (take i us)) (flat_map f (take i us)) (f u) (f u) a b c k l m before now)

  pub told_cut : Tells (flat_map f (take i us)) (flat_map f (take i us)) a b k l → TellsFirst (f u) b c l m → TellsFirst (flat_map f us) a c k m
  told_cut before now =
      subst (λ (xs : List Note). TellsFirst xs a c k m) (ap (λ (xs : List Note). (flat_map f (take i us) ++ xs) ++ flat_map f (drop (i + 1) us)) (sym here) ∙ flat_split f us i low)
      (first_more a c k m (flat_map f (take i us) ++ f u) (flat_map f (drop (i + 1) us)) (first_behind a b c k l m (flat_map f (take i us)) (f u) before now))

-- a run of writes whose first cell and number of cells have another name
pub run_same : {T E : Type 0} (base from many wide : ℕ) (plain : ℕ → List ℕ) (sealer later : Sealing) (old new : Disk) (r : Result T E) → base ≡ from → many ≡ wide → WritesRun base many plain sealer later old new r → WritesRun from wide plain sealer later old new r
run_same base from many wide plain sealer later old new r at count run =
    subst (λ b. WritesRun b wide plain sealer later old new r) at (subst (λ n. WritesRun base n plain sealer later old new r) count run)
