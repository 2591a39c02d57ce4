-- What each step of the table keeps.
use Rattle.std.specs.Prelude.{◌≡◌, ◌≢◌, ℕ, ◌==◌, Bool, true, false, cond, ◌&&◌, ◌||◌, Option}
use Rattle.std.specs.declared.option.Option.TheVariants.{None, Some}
use Rattle.std.proofs.Common.{arith, refl, sym, ◌∙◌}
use Rattle.std.proofs.lemmas.Bool.{or_from, eqb-false}
use Rattle.std.proofs.lemmas.Bool.Decides.{nat_tests}
use Rattle.ob_base.specs.declared.params.Params.{Params}
use Rattle.ob_ring.specs.FlatTable.{FlatTable, Row, Spot, InStash, In, spot_of, leaf_of, mark_index, lift, out_of, leave, fetched, fetch, asks_for, written_row, write, asked_row}
pub use Rattle.ob_ring.specs.Sound.{Placed, IsSound}

-- ---- a spot after each change of a row

out_case : (w i v u j : ℕ) (b : Bool) → (w == v) ≡ b → cond b InStash (In w i) ≡ In u j → (In w i ≡ In u j) × ((u == v) ≡ false)
out_case w i v u j true is e = absurd (cc)
out_case w i v u j false is e = (e, (let same : w ≡ u = cc in rw (← same) is))

pub out_of-In : (v : ℕ) (s : Spot) (u j : ℕ) → out_of v s ≡ In u j → (s ≡ In u j) × ((u == v) ≡ false)
out_of-In v InStash u j e = absurd (cc)
out_of-In v (In w i) u j e = out_case w i v u j (w == v) refl e

pub spot-leave : (v : ℕ) (r : Option Row) → spot_of (leave v r) ≡ out_of v (spot_of r)
spot-leave v None = refl
spot-leave v (Some r) = refl

pub leaf-leave : (v : ℕ) (r : Option Row) (x : ℕ) → leaf_of (leave v r) x ≡ leaf_of r x
leaf-leave v None x = refl
leaf-leave v (Some r) x = refl

fetched_case : (b : Bool) (leaf : ℕ) (r : Row) (u j : ℕ) → spot_of (Some (cond b (record { leaf = leaf; spot = InStash }) r)) ≡ In u j → (b ≡ false) × (r.spot ≡ In u j) × (leaf_of (Some (cond b (record { leaf = leaf; spot = InStash }) r)) 0 ≡ r.leaf)
fetched_case true leaf r u j e = absurd (cc)
fetched_case false leaf r u j e = (refl, e, refl)

pub fetched-In : (b : Bool) (leaf : ℕ) (r : Option Row) (u j : ℕ) → spot_of (fetched b leaf r) ≡ In u j → (b ≡ false) × (spot_of r ≡ In u j) × (leaf_of (fetched b leaf r) 0 ≡ leaf_of r 0)
fetched-In b leaf None u j e = absurd (cc)
fetched-In b leaf (Some r) u j e = fetched_case b leaf r u j e

-- ---- the steps

pub sound_lift : (p : Params) (t : FlatTable) (v : ℕ) → IsSound p t → IsSound p (lift t v)
sound_lift p t v s = record {
  placed = λ k u j e.
      (let was : (spot_of (t.rows k) ≡ In u j) × ((u == v) ≡ false) = out_of-In v (spot_of (t.rows k)) u j (sym (spot-leave v (t.rows k)) ∙ e) in
      let at : Placed p t k u j = s.placed k u j was.0 in
      record { real = at.real; on_path = rw (leaf-leave v (t.rows k) 0) at.on_path; unread = at.unread; standing = or_from (u == v) (t.lifted u) was.1 at.standing });
  alone = λ k k' u j e e'. s.alone k k' u j (out_of-In v (spot_of (t.rows k)) u j (sym (spot-leave v (t.rows k)) ∙ e)).0 (out_of-In v (spot_of (t.rows k')) u j (sym (spot-leave v (t.rows k')) ∙ e')).0;
}

unmarked : (v i u j : ℕ) (b : Bool) → ((v ≡ u) → (i ≡ j) → ⊥) → b ≡ false → (((v == u) && (i == j)) || b) ≡ false
unmarked v i u j b h off = grind (arith, nat_tests)

-- an index that no key holds may be marked
pub sound_mark : (p : Params) (t : FlatTable) (v i : ℕ) → ((k : ℕ) → spot_of (t.rows k) ≢ In v i) → IsSound p t → IsSound p (mark_index t v i)
sound_mark p t v i vacant s = record {
  placed = λ k u j e.
      (let at : Placed p t k u j = s.placed k u j e in
      record {
        real = at.real;
        on_path = at.on_path;
        standing = at.standing;
        unread = unmarked u j v i (t.used u j) (λ a b. vacant k (e ∙ (λ n. In (a n) (b n)))) at.unread;
      });
  alone = s.alone;
}

pub sound_fetch : (p : Params) (t : FlatTable) (ask : Option ℕ) (leaf : ℕ) → IsSound p t → IsSound p (fetch t ask leaf)
sound_fetch p t ask leaf s = record {
  placed = λ k u j e.
      (let was : (asks_for ask k ≡ false) × (spot_of (t.rows k) ≡ In u j) × (leaf_of (fetched (asks_for ask k) leaf (t.rows k)) 0 ≡ leaf_of (t.rows k) 0) = fetched-In (asks_for ask k) leaf (t.rows k) u j e in
      let at : Placed p t k u j = s.placed k u j was.1 in
      record { real = at.real; on_path = rw was.2 at.on_path; unread = at.unread; standing = at.standing });
  alone = λ k k' u j e e'. s.alone k k' u j (fetched-In (asks_for ask k) leaf (t.rows k) u j e).1 (fetched-In (asks_for ask k') leaf (t.rows k') u j e').1;
}

-- after a place's key was fetched, its own index is held by no key
pub vacant_fetch : (p : Params) (t : FlatTable) (ask : Option ℕ) (leaf : ℕ) → IsSound p t → (k u j : ℕ) → spot_of (asked_row t ask) ≡ In u j → spot_of ((fetch t ask leaf).rows k) ≢ In u j
vacant_fetch p t None leaf s k u j e f = absurd (cc)
vacant_fetch p t (Some a) leaf s k u j e f =
    let was : ((a == k) ≡ false) × (spot_of (t.rows k) ≡ In u j) × (leaf_of (fetched (a == k) leaf (t.rows k)) 0 ≡ leaf_of (t.rows k) 0) = fetched-In (a == k) leaf (t.rows k) u j f in
    eqb-false a k was.0 (s.alone a k u j e was.1)

written_stash : (leaf : Option ℕ) (u j : ℕ) → spot_of (written_row leaf) ≡ In u j → ⊥
written_stash None u j e = cc
written_stash (Some x) u j e = cc

write_case : (b : Bool) (leaf : Option ℕ) (r : Option Row) (u j : ℕ) → spot_of (cond b (written_row leaf) r) ≡ In u j → (cond b (written_row leaf) r ≡ r) × (spot_of r ≡ In u j)
write_case true leaf r u j e = absurd (written_stash leaf u j e)
write_case false leaf r u j e = (refl, e)

pub sound_write : (p : Params) (t : FlatTable) (key : ℕ) (leaf : Option ℕ) → IsSound p t → IsSound p (write t key leaf)
sound_write p t key leaf s = record {
  placed = λ k u j e.
      (let was : (cond (k == key) (written_row leaf) (t.rows k) ≡ t.rows k) × (spot_of (t.rows k) ≡ In u j) = write_case (k == key) leaf (t.rows k) u j e in
      let at : Placed p t k u j = s.placed k u j was.1 in
      record { real = at.real; on_path = rw was.0 at.on_path; unread = at.unread; standing = at.standing });
  alone = λ k k' u j e e'. s.alone k k' u j (write_case (k == key) leaf (t.rows k) u j e).1 (write_case (k' == key) leaf (t.rows k') u j e').1;
}
