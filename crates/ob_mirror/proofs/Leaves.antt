-- Events of which some of the reads are left out.
use Rattle.std.proofs.Common.{◌≡◌, ◌⊎◌, ◌<◌, ℕ, suc, zero, inl, inr, ⊎_elim, List, [], ◌∷◌, ◌++◌, Bool, true, false, cond, length, refl, sym, ◌∙◌, ap, subst, arith}
use Rattle.ob_store.specs.declared.event.Event.{Event}
use Rattle.ob_store.specs.declared.event.Event.TheVariants.{Read, Write, Sync}
use Rattle.ob_lanes.specs.declared.hand.SealedJobs.{SealedJobs}
use Rattle.ob_lanes.specs.declared.hand.Slot.{Slot}
use Rattle.ob_lanes.specs.Hands.{reads_of, slot_at, slot_places}
use Rattle.ob_mirror.specs.Reading.{failed_in, is_refused}
use Rattle.ob_mirror.specs.Telling.{BeginsWith, HasSomeRead, LeavesOutReads, changes}

-- what begins so, with more behind it
begins_join : (event : Event) (P Q : List Event → Type 0) (others more : List Event) → ((rest : List Event) → P rest → Q (rest ++ more)) → BeginsWith event P others → BeginsWith event Q (others ++ more)
begins_join event P Q [] more on begins = absurd begins
begins_join event P Q (x ∷ rest) more on begins = (begins.0, on rest begins.1)

-- it is the event and the rest
begins_is : (event : Event) (P Q : List Event → Type 0) (others : List Event) → ((rest : List Event) → P rest → Q (event ∷ rest)) → BeginsWith event P others → Q others
begins_is event P Q [] on begins = absurd begins
begins_is event P Q (x ∷ rest) on begins = subst (λ (e : Event). Q (e ∷ rest)) (sym begins.0) (on rest begins.1)

pub leaves_join : (xs ys others more : List Event) → LeavesOutReads xs others → LeavesOutReads ys more → LeavesOutReads (xs ++ ys) (others ++ more)
leaves_join [] ys others more p q = subst (λ (es : List Event). LeavesOutReads ys (es ++ more)) (sym p) q
leaves_join (Read cell ∷ xs) ys others more p q = ⊎_elim
    (λ l. inl (begins_join (Read cell) (LeavesOutReads xs) (LeavesOutReads (xs ++ ys)) others more (λ rest r. leaves_join xs ys rest more r q) l))
    (λ r. inr (leaves_join xs ys others more r q)) p
leaves_join (Write cell ∷ xs) ys others more p q = begins_join (Write cell) (LeavesOutReads xs) (LeavesOutReads (xs ++ ys)) others more (λ rest r. leaves_join xs ys rest more r q) p
leaves_join (Sync ∷ xs) ys others more p q = begins_join Sync (LeavesOutReads xs) (LeavesOutReads (xs ++ ys)) others more (λ rest r. leaves_join xs ys rest more r q) p

-- all reads may be left out
pub leaves_changes : (xs : List Event) → LeavesOutReads xs (changes xs)
leaves_changes [] = refl
leaves_changes (Read cell ∷ xs) = inr (leaves_changes xs)
leaves_changes (Write cell ∷ xs) = (refl, leaves_changes xs)
leaves_changes (Sync ∷ xs) = (refl, leaves_changes xs)

pub no_read : (xs : List Event) → HasSomeRead (changes xs) → ⊥
no_read [] has = has
no_read (Read cell ∷ xs) has = no_read xs has
no_read (Write cell ∷ xs) has = no_read xs has
no_read (Sync ∷ xs) has = no_read xs has

-- writes and syncs are all there
pub leaves_same : (xs others : List Event) → LeavesOutReads xs others → changes others ≡ changes xs
leaves_same [] others p = ap changes p
leaves_same (Read cell ∷ xs) others p = ⊎_elim
    (λ l. begins_is (Read cell) (LeavesOutReads xs) (λ (es : List Event). changes es ≡ changes xs) others (λ rest r. leaves_same xs rest r) l)
    (λ r. leaves_same xs others r) p
leaves_same (Write cell ∷ xs) others p = begins_is (Write cell) (LeavesOutReads xs) (λ (es : List Event). changes es ≡ Write cell ∷ changes xs) others (λ rest r. ap (λ (es : List Event). Write cell ∷ es) (leaves_same xs rest r)) p
leaves_same (Sync ∷ xs) others p = begins_is Sync (LeavesOutReads xs) (λ (es : List Event). changes es ≡ Sync ∷ changes xs) others (λ rest r. ap (λ (es : List Event). Sync ∷ es) (leaves_same xs rest r)) p

pub read_either : (xs ys : List Event) (P : Type 0) → (HasSomeRead xs → P) → (HasSomeRead ys → P) → HasSomeRead (xs ++ ys) → P
read_either [] ys P one two has = two has
read_either (Read cell ∷ xs) ys P one two has = one tt
read_either (Write cell ∷ xs) ys P one two has = read_either xs ys P one two has
read_either (Sync ∷ xs) ys P one two has = read_either xs ys P one two has

-- ---- slots

module _ (asked : SealedJobs) where
  -- of the reads of slots those that failed are made again
  failed_one : (x : Slot) (xs : List Slot) (refused : Bool) → LeavesOutReads (reads_of asked (slot_places xs)) (reads_of asked (slot_places (failed_in xs)))
      → LeavesOutReads (reads_of asked (slot_places (x ∷ xs))) (reads_of asked (slot_places (cond refused (x ∷ failed_in xs) (failed_in xs))))
  failed_one x xs true rest = inl (refl, rest)
  failed_one x xs false rest = inr rest

  pub leaves_failed : (slots : List Slot) → LeavesOutReads (reads_of asked (slot_places slots)) (reads_of asked (slot_places (failed_in slots)))
  leaves_failed [] = refl
  leaves_failed (x ∷ xs) = failed_one x xs (is_refused x.outcome) (leaves_failed xs)

  again_one : (x : Slot) (xs : List Slot) (refused : Bool) (P : Type 0) → (refused ≡ true → P) → (HasSomeRead (reads_of asked (slot_places (failed_in xs))) → P)
      → HasSomeRead (reads_of asked (slot_places (cond refused (x ∷ failed_in xs) (failed_in xs)))) → P
  again_one x xs true P one rest has = one refl
  again_one x xs false P one rest has = rest has

  -- where one is made again, that of a slot failed
  pub again_failed : (slots : List Slot) (P : Type 0) → ((i : ℕ) → i < length slots → is_refused (slot_at slots i).outcome ≡ true → P) → HasSomeRead (reads_of asked (slot_places (failed_in slots))) → P
  again_failed [] P on has = absurd has
  again_failed (x ∷ xs) P on has = again_one x xs (is_refused x.outcome) P (λ is. on zero (omega arith) is) (λ more. again_failed xs P (λ i lt is. on (suc i) (omega (arith, lt)) is) more) has
