-- An epoch's writes, as a vault's call has them.
use Rattle.std.specs.Prelude.{◌≡◌, ℕ, ◌+◌, ◌<◌, ◌≤◌, List, [], ◌∷◌, map, length, get_or, Option, Some, All}
use Rattle.std.specs.List.{range_with_len}
use Rattle.std.proofs.Common.{zero, suc, add-one, arith, refl, ap, subst, ◌∙◌}
use Rattle.ob_base.specs.declared.params.Params.{Params}
use Rattle.ob_base.specs.declared.value.Write.{Write}
use Rattle.ob_base.specs.Tree.{below}
use Rattle.ob_base.specs.Writes.{pair_of}
use Rattle.ob_ring.specs.Writing as ring
use Rattle.ob_ring.specs.Writing.{write_at}
use Rattle.ob_serial.specs.VaultViews.{writes_of}
use Rattle.ob_stand.specs.Vaults.{plain_writes}
use Rattle.ob_tables.specs.declared.entry.Entry.{Entry}
use Rattle.ob_vault.specs.Knowns.{HasShortValue, IsValueShort}
use Rattle.ob_vault.specs.RingVaults.{write_from}

pub at_all : (P : Write → Type 0) (ws : List Write) → All P ws → (i : ℕ) → i < length ws → P (write_at ws i)
at_all P [] all i lt = absurd (omega arith)
at_all P (w ∷ ws) all zero lt = all 0 w lt
at_all P (w ∷ ws) all (suc i) lt = at_all P ws (λ k d low. all (suc k) d (omega arith)) i (omega arith)

-- an item of the list, by its number
pub item_at : (ws : List Write) (i : ℕ) (w : Write) → i < length ws → get_or ws i w ≡ w → write_at ws i ≡ w
item_at [] i w lt e = absurd (omega arith)
item_at (x ∷ ws) zero w lt e = e
item_at (x ∷ ws) (suc i) w lt e = item_at ws i w (omega arith) e

pub short_at : (w : Write) (value : List ℕ) → HasShortValue w → w.value ≡ Some value → length value ≤ 64
short_at w value short is = subst IsValueShort is short

shift : {A : Type 0} (f : ℕ → A) (a n : ℕ) → map f (range_with_len (a + 1) n) ≡ map (λ i. f (i + 1)) (range_with_len a n)
shift f a zero = refl
shift {A} f a (suc n) = ap (λ (xs : List A). f (a + 1) ∷ xs) (shift f (a + 1) n)

items : (ws : List Write) → map (λ i. pair_of (write_at ws i)) (below (length ws)) ≡ writes_of ws
items [] = refl
items (w ∷ ws) =
    let next : (λ (i : ℕ). pair_of (write_at (w ∷ ws) (i + 1))) ≡ (λ i. pair_of (write_at ws i)) = λ j i. (let e : pair_of (write_at (w ∷ ws) (i + 1)) ≡ pair_of (write_at ws i) = rw add-one refl in e j) in
    ap (λ (xs : List (ℕ × Option (List ℕ))). pair_of w ∷ xs) (shift (λ i. pair_of (write_at (w ∷ ws) i)) 0 (length ws) ∙ ap (λ (g : ℕ → ℕ × Option (List ℕ)). map g (below (length ws))) next ∙ items ws)

plain_map : (f : ℕ → Write × Entry) (is : List ℕ) → plain_writes (map f is) ≡ map (λ i. pair_of (f i).0) is
plain_map f [] = refl
plain_map f (i ∷ is) = ap (λ (xs : List (ℕ × Option (List ℕ))). pair_of (f i).0 ∷ xs) (plain_map f is)

-- without the entries that their places give they are the call's
pub writes_plain : (p : Params) (ws : List Write) (words : List ℕ) (first : ℕ × ℕ) → plain_writes (ring.writes_of p ws words first (length ws)) ≡ writes_of ws
writes_plain p ws words first = plain_map _ (below (length ws)) ∙ items ws

pub writes_back : (ws : List Write) → map write_from (writes_of ws) ≡ ws
writes_back [] = refl
writes_back (w ∷ ws) = ap (λ (xs : List Write). w ∷ xs) (writes_back ws)
