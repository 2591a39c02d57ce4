-- What a refill does, of its loops.
use Rattle.std.specs.Prelude.{◌≡◌, ◌≢◌, ℕ, ◌+◌, ◌-◌, ◌*◌, ◌^◌, ◌<◌, ◌≤◌, Bool, true, false, cond, not, ◌&&◌, List, [], ◌∷◌, take, filter, length, replicate, MatchResult, Option, Result, slice_index, slice_index_or}
use Rattle.std.specs.declared.option.Option.TheVariants.{None, Some}
use Rattle.std.specs.FinMap as finite
use Rattle.std.proofs.Common.{zero, suc, arith, refl, sym, ap, subst, ◌∙◌, inl, inr}
use Rattle.std.proofs.lemmas.Bool.{true≢false, false≢true, cases_Bool}
use Rattle.std.proofs.lemmas.List.{take_all, length-replicate}
use Rattle.ob_base.specs.declared.fault.StashFull.{StashFull}
use Rattle.ob_base.specs.declared.params.Params.{Params}
use Rattle.ob_base.specs.Tree.{buckets}
use Rattle.ob_schedule.specs.Paths.{is_one_of, by_falling_level}
use Rattle.ob_tables.specs.Version.{HasSlots, used_at}
use Rattle.ob_tables.specs.Buckets.{Buckets, version_at, is_lifted}
use Rattle.ob_tables.specs.Kept.{Held, entry_at}
use Rattle.ob_tables.specs.declared.entry.Entry.{Entry}
use Rattle.ob_ring.specs.Arrays.{IsTableOf, AreWhole, arrays_of, rest_of, leaf_in, leaf_of_entry}
use Rattle.ob_ring.specs.Fetching.{IsBook}
use Rattle.ob_ring.specs.Filling.{AreSealedAnew, HasJustStashRows, IsSealedAnew, base_of, words_of}
use Rattle.ob_ring.specs.FlatTable.{FlatTable, Refill, Row, after, fills, in_stash, leaf_of, refill_order, stash_size}
use Rattle.ob_ring.specs.Loops.{PutsTo, SealsTo}
use Rattle.ob_ring.specs.Passing.{HasLeaves, none_taken, passed_table, put_among, row_keys, steps_among}
use Rattle.ob_ring.specs.Ring.{Kept, IsRing, StandsFor, AreListedWithin}
use Rattle.ob_ring.specs.Sound.{IsSound}
use Rattle.ob_ring.proofs.Listed.{IsListed, in_order, listed_lifted, listed_within, past_false}
use Rattle.ob_ring.proofs.Members.{off_unless}
use Rattle.ob_ring.proofs.PassEnds.{left_are, passed_ends, sealed}
use Rattle.ob_ring.proofs.RingLaws.{listed_still}
use Rattle.ob_ring.proofs.StashWalks.{keys_many}
use Rattle.ob_ring.proofs.TableLaws.{steps_keep_order}
use Rattle.ob_ring.proofs.TableOf.{table_like}

no_mark : (n u : ℕ) → slice_index_or (replicate n false) u false ≡ false
no_mark zero u = refl
no_mark (suc n) zero = refl
no_mark (suc n) (suc u) = no_mark n u

-- counts that are all 0
pub all_zero : (xs : List ℕ) (n : ℕ) → length xs ≡ n → ((u : ℕ) → slice_index_or xs u 0 ≡ 0) → xs ≡ replicate n 0
all_zero [] zero long none = refl
all_zero [] (suc n) long none = absurd (omega arith)
all_zero (x ∷ xs) zero long none = absurd (omega arith)
all_zero (x ∷ xs) (suc n) long none = (λ i. none 0 i ∷ all_zero xs n (omega arith) (λ u. none (suc u)) i)

entry_leaf : (o : Option Entry) (x : ℕ) → leaf_of_entry o ≡ Some x → (e : Entry) × (o ≡ Some e) × (e.leaf ≡ x)
entry_leaf None x e = absurd (cc)
entry_leaf (Some e) x at = (e, refl, (cc))

stash_leaf : (r : Option Row) → in_stash r ≡ true → leaf_in r ≡ Some (leaf_of r 0)
stash_leaf None on = absurd (false≢true on)
stash_leaf (Some r) on = refl

-- the leaves that the position map keeps are the tree's
leaves_fit : (p : Params) (book : List (Option Entry)) (metas : Buckets) (counter : ℕ) (t : FlatTable) → IsBook p book → IsTableOf p (arrays_of metas (rest_of book counter)) t → HasLeaves p t
leaves_fit p book metas counter t ok is k on =
    let at : (e : Entry) × (entry_at book k ≡ Some e) × (e.leaf ≡ leaf_of (t.rows k) 0) = entry_leaf (entry_at book k) (leaf_of (t.rows k) 0) (sym (is.leaves_are k) ∙ stash_leaf (t.rows k) on) in
    subst (λ (x : ℕ). x < 2 ^ p.levels) at.2 (ok.leaves k at.0 at.1)

module _ (p : Params) (book : List (Option Entry)) (metas mid sent cleared : Buckets) (stash : Held) (counter : ℕ) (counts counts' words : List ℕ) (first : ℕ × ℕ) (before now put : ℕ) (ok : IsBook p book) (whole : AreWhole p metas) (low : (k : ℕ) → finite.get stash.rows k ≢ None → k < p.keys)
    (listed : IsListed p metas) (puts : PutsTo p book stash.rows metas mid counts (finite.len stash.rows) before now put) (seals : SealsTo p mid sent counts counts' words first (length mid.order)) (changed : cleared ≡ record sent { lifted = replicate (length sent.lifted) false }) where
  all_rows : take (finite.len stash.rows) (row_keys stash.rows) ≡ row_keys stash.rows
  all_rows = take_all (finite.len stash.rows) (row_keys stash.rows) (omega (arith, keys_many stash.rows))

  all_listed : take (length mid.order) mid.order ≡ mid.order
  all_listed = take_all (length mid.order) mid.order (omega arith)

  listed_mid : IsListed p mid
  listed_mid = listed_still p metas mid puts.seals.order puts.lifted listed

  same_order : cleared.order ≡ metas.order
  same_order = ap (λ (s : Buckets). s.order) changed ∙ seals.order ∙ puts.seals.order

  pub refilled_whole : AreWhole p cleared
  refilled_whole = record {
    many = ap (λ (s : Buckets). length s.versions) changed ∙ seals.whole.many;
    marks = ap (λ (s : Buckets). length s.lifted) changed ∙ length-replicate (length sent.lifted) false ∙ seals.whole.marks;
    slots = λ u h. subst (λ (s : Buckets). HasSlots p (version_at s.versions u)) (sym changed) (seals.whole.slots u h);
  }

  pub refilled_within : (i : ℕ) → i < length cleared.order → slice_index cleared.order i < buckets p
  refilled_within i h = listed_within p metas cleared.order i listed same_order (subst (λ (xs : List ℕ). i < length xs) same_order h)

  pub refilled_order : cleared.order ≡ metas.order
  refilled_order = same_order

  not_up : (u : ℕ) → is_one_of metas.order u ≡ false → is_lifted metas u ≡ false
  not_up u off = off_unless (is_lifted metas u) (λ up. true≢false (sym (in_order p metas u whole listed up) ∙ off))

  pub refilled_anew : AreSealedAnew p metas cleared words first (length metas.order)
  refilled_anew = record {
    anew = λ i h. (let at : slice_index mid.order i ≡ slice_index metas.order i = ap (λ (xs : List ℕ). slice_index xs i) puts.seals.order in
        let u : ℕ = slice_index metas.order i in
        let there : IsSealedAnew (version_at mid.versions u) (version_at sent.versions u) first.0 (base_of p first i) (words_of p words i) =
        subst (λ (x : ℕ). IsSealedAnew (version_at mid.versions x) (version_at sent.versions x) first.0 (base_of p first i) (words_of p words i)) at (seals.anew.anew i (subst (λ (xs : List ℕ). i < length xs) (sym puts.seals.order) h)) in
        subst (λ (s : Buckets). IsSealedAnew (version_at metas.versions u) (version_at s.versions u) first.0 (base_of p first i) (words_of p words i)) (sym changed)
        (record { home = there.home ∙ ap (λ (x : ℕ). 1 - x) (puts.seals.homes u); under = there.under; from = there.from; ranks = there.ranks }));
    others = λ u off. (let here : is_one_of metas.order u ≡ false = ap (λ (xs : List ℕ). is_one_of xs u) (sym (take_all (length metas.order) metas.order (omega arith))) ∙ off in
        ap (λ (s : Buckets). version_at s.versions u) changed
        ∙ seals.anew.others u (ap (λ (xs : List ℕ). is_one_of xs u) (all_listed ∙ puts.seals.order) ∙ here) ∙ puts.others u (not_up u here));
  }

  in_list : (u : ℕ) → is_one_of (take (length mid.order) mid.order) u ≡ is_lifted mid u
  in_list u = ap (λ (xs : List ℕ). is_one_of xs u) all_listed ∙ elim (cases_Bool (is_lifted mid u)) [
    | inl up ↦ in_order p mid u puts.whole listed_mid up ∙ sym up
    | inr down ↦ off_unless (is_one_of mid.order u) (λ on. true≢false (sym (listed_lifted p mid u listed_mid on) ∙ down)) ∙ sym down
  ]

  refilled_is : (t : FlatTable) → IsSound p t → HasJustStashRows t stash.rows → IsTableOf p (arrays_of metas (rest_of book counter)) t → IsTableOf p (arrays_of cleared (rest_of book counter)) (fills p t (refill_order p t))
  refilled_is t sound just is =
      let passed : IsTableOf p (arrays_of mid (rest_of book counter)) (passed_table p t (row_keys stash.rows)) =
      subst (λ (ks : List ℕ). IsTableOf p (arrays_of mid (rest_of book counter)) (passed_table p t ks)) all_rows (puts.follows counter t sound just is) in
      let ends : IsTableOf p (sealed (arrays_of mid (rest_of book counter))) (fills p t (refill_order p t)) =
      passed_ends p (arrays_of mid (rest_of book counter)) t stash.rows sound (leaves_fit p book metas counter t ok is) just low
      (λ v up. (let high : v < length metas.lifted = past_false metas.lifted v (sym (is.lifted_is v) ∙ up) in omega (arith, high, whole.marks))) passed in
      subst (λ (s : Buckets). IsTableOf p (arrays_of s (rest_of book counter)) (fills p t (refill_order p t))) (sym changed)
      (table_like p (sealed (arrays_of mid (rest_of book counter))) (arrays_of (record sent { lifted = replicate (length sent.lifted) false }) (rest_of book counter)) (fills p t (refill_order p t)) ends
      (λ u j. sym (seals.keys u j)) (λ u j. ap (λ (b : Bool). not b && used_at (version_at mid.versions u) j) (sym (in_list u)) ∙ sym (seals.used u j))
      (λ u. sym (no_mark (length sent.lifted) u)) (λ k. refl) refl)

  abbrev here : Kept
  here = record { p = p; book = book; metas = metas; stash = stash; counter = counter }

  pub refilled_stands : (t : FlatTable) → StandsFor here t → HasJustStashRows t stash.rows → StandsFor (record { p = p; book = book; metas = cleared; stash = stash; counter = counter }) (after p t Refill)
  refilled_stands t s just = record { orderly = steps_keep_order p t Refill s.orderly; arrays = refilled_is t s.orderly.sound just s.arrays }

  pub refilled_left : (t : FlatTable) → StandsFor here t → HasJustStashRows t stash.rows → finite.len stash.rows - put ≡ stash_size p (after p t Refill)
  refilled_left t s just =
      left_are p t stash.rows put (leaves_fit p book metas counter t ok s.arrays) just low (puts.index.puts counter t just s.arrays ∙ ap (put_among p t none_taken) all_rows)

  pub refilled_exact : (t : FlatTable) → StandsFor here t → HasJustStashRows t stash.rows → now ≡ before + steps_among p t none_taken (row_keys stash.rows)
  refilled_exact t s just = puts.index.exact counter t just s.arrays ∙ ap (λ (ks : List ℕ). before + steps_among p t none_taken ks) all_rows

  -- the counts are cleared
  pub counts_none : counts' ≡ replicate (buckets p) 0
  counts_none = all_zero counts' (buckets p) (seals.long ∙ puts.index.long) (λ u. seals.cleared u ∙ ap (λ (b : Bool). cond b 0 (slice_index_or counts u 0)) (in_list u) ∙ by u (is_lifted mid u) refl)
    where
      by : (u : ℕ) (b : Bool) → is_lifted mid u ≡ b → cond b 0 (slice_index_or counts u 0) ≡ 0
      by u true e = refl
      by u false e = puts.index.lifted_alone u (ap (λ (marks : List Bool). slice_index_or marks u false) (sym puts.lifted) ∙ e)

-- what is answered, of equal numbers
pub judged : (x : Result (Unit {0}) StashFull) (left size room most : ℕ) → left ≡ size → room ≡ most → MatchResult x (λ _. left ≤ room) (λ full. (full.rows ≡ left) × (room < full.rows)) → MatchResult x (λ _. size ≤ most) (λ full. (full.rows ≡ size) × (most < full.rows))
judged x left size room most sizes rooms told =
    subst (λ (m : ℕ). MatchResult x (λ _. size ≤ m) (λ full. (full.rows ≡ size) × (m < full.rows))) rooms (subst (λ (n : ℕ). MatchResult x (λ _. n ≤ room) (λ full. (full.rows ≡ n) × (room < full.rows))) sizes told)

-- What a refill does to the ring, how many rows are left, and what it took.
pub record Refilled (r new : Kept) (words : List ℕ) (first : ℕ × ℕ) (before now left : ℕ) (counts : List ℕ) : Type 0 where
  pub kept : new ≡ record r { metas = new.metas }
  pub whole : AreWhole r.p new.metas
  pub order : (new.metas).order ≡ (r.metas).order
  pub within : AreListedWithin new
  pub anew : AreSealedAnew r.p r.metas new.metas words first (length (r.metas).order)
  pub stands : (t : FlatTable) → StandsFor r t → HasJustStashRows t (r.stash).rows → StandsFor new (after r.p t Refill)
  pub rows_left : (t : FlatTable) → StandsFor r t → HasJustStashRows t (r.stash).rows → left ≡ stash_size r.p (after r.p t Refill)
  pub cost : now ≤ before + finite.len (r.stash).rows * (r.p.levels + 2)
  pub exact : (t : FlatTable) → StandsFor r t → HasJustStashRows t (r.stash).rows → now ≡ before + steps_among r.p t none_taken (row_keys (r.stash).rows)
  pub none : counts ≡ replicate (buckets r.p) 0

pub refilled : (r : Kept) (p : Params) (book : List (Option Entry)) (metas mid sent cleared : Buckets) (stash : Held) (counter : ℕ) (counts counts' words : List ℕ) (first : ℕ × ℕ) (before now put : ℕ) →
    ◌≡◌ {A = Kept} (record { p = p; book = book; metas = metas; stash = stash; counter = counter }) r → IsRing (record { p = p; book = book; metas = metas; stash = stash; counter = counter }) →
    (r.metas).order ≡ filter (λ u. is_lifted r.metas u) (by_falling_level (r.p.levels + 1)) → PutsTo p book stash.rows metas mid counts (finite.len stash.rows) before now put →
    SealsTo p mid sent counts counts' words first (length mid.order) → cleared ≡ record sent { lifted = replicate (length sent.lifted) false } →
    Refilled r (record { p = p; book = book; metas = cleared; stash = stash; counter = counter }) words first before now (finite.len stash.rows - put) counts'
refilled r p book metas mid sent cleared stash counter counts counts' words first before now put view ring listed puts seals changed =
    let mine : Kept = record { p = p; book = book; metas = metas; stash = stash; counter = counter } in
    let ok : IsBook p book = ring.book in
    let whole : AreWhole p metas = ring.metas in
    let low : (k : ℕ) → finite.get stash.rows k ≢ None → k < p.keys = ring.stash_low in
    let lists : IsListed p metas = subst (λ (o : Kept). (o.metas).order ≡ filter (λ u. is_lifted o.metas u) (by_falling_level (o.p.levels + 1))) (sym view) listed in
    subst (λ (o : Kept). Refilled o (record { p = p; book = book; metas = cleared; stash = stash; counter = counter }) words first before now (finite.len stash.rows - put) counts') view
    (record {
      kept = refl;
      whole = refilled_whole p book metas mid sent cleared stash counter counts counts' words first before now put ok whole low lists puts seals changed;
      order = refilled_order p book metas mid sent cleared stash counter counts counts' words first before now put ok whole low lists puts seals changed;
      within = refilled_within p book metas mid sent cleared stash counter counts counts' words first before now put ok whole low lists puts seals changed;
      anew = refilled_anew p book metas mid sent cleared stash counter counts counts' words first before now put ok whole low lists puts seals changed;
      stands = refilled_stands p book metas mid sent cleared stash counter counts counts' words first before now put ok whole low lists puts seals changed;
      rows_left = refilled_left p book metas mid sent cleared stash counter counts counts' words first before now put ok whole low lists puts seals changed;
      cost = puts.index.bound;
      exact = refilled_exact p book metas mid sent cleared stash counter counts counts' words first before now put ok whole low lists puts seals changed;
      none = counts_none p book metas mid sent cleared stash counter counts counts' words first before now put ok whole low lists puts seals changed;
    })
