-- The ids, the leaves and the words of an end's writes.
use Rattle.std.specs.Prelude.{◌≡◌, ℕ, zero, suc, ◌+◌, ◌<◌, ◌≤◌, ◌%◌, ◌^◌, ◌==◌, Bool, true, false, cond, List, [], ◌∷◌, map, slice_index, Option, Some, None}
use Rattle.std.specs.List.{range_with_len}
use Rattle.std.proofs.Common.{arith, refl, sym, ap, subst, ◌∙◌}
use Rattle.ob_base.specs.declared.params.Params.{Params}
use Rattle.ob_base.specs.declared.value.Write.{Write}
use Rattle.ob_recover.specs.Life.{AreDrawn, IsPutOf, WordId, book_written, leaf_of_put, leaf_write}
use Rattle.ob_ring.specs.Fetching.{own_entry}
use Rattle.ob_ring.specs.Writing.{entries_after, entry_of, leaf_of_write, leaf_writes, with_entry, write_at, writes_of}
use Rattle.ob_vault.specs.Acts.{id_write}
use Rattle.ob_recover.specs.Lives.{word_kept}
use Rattle.ob_tables.specs.declared.entry.Entry.{Entry}
use Rattle.ob_vault.proofs.Ids.{Fits, kept_cond, own_fits}

put_of : (value : Option (List ℕ)) (e : Entry) → IsPutOf (word_kept (entry_of value e)) (record { generation = e.generation; place = e.index })
put_of None e = tt
put_of (Some v) e = refl

module _ (p : Params) (word_of : WordId → ℕ) where
  pub written_ids : (ws : List (Write × Entry)) (entries : ℕ → Option Entry) (book : ℕ → Option WordId) → ((k : ℕ) → book k ≡ word_kept (entries k)) → (k : ℕ) → book_written p word_of book (map id_write ws) k ≡ word_kept (entries_after entries ws k)
  written_ids [] entries book same k = same k
  written_ids (w ∷ ws) entries book same k =
      written_ids ws (with_entry entries (w.0).key (entry_of (w.0).value w.1)) (λ i. cond (i == (w.0).key) (word_kept (entry_of (w.0).value w.1)) (book i))
      (λ i. ap (λ (o : Option WordId). cond (i == (w.0).key) (word_kept (entry_of (w.0).value w.1)) o) (same i) ∙ sym (kept_cond (i == (w.0).key) (entry_of (w.0).value w.1) (entries i)))
      k

  abbrev pub AreAllFit : List (Write × Entry) → Type 0
  AreAllFit [] = Unit {0}
  AreAllFit (w ∷ ws) = Fits p word_of w.1 × AreAllFit ws

  cond_fits : (b : Bool) (x y : Option Entry) (e : Entry) → ((z : Entry) → x ≡ Some z → Fits p word_of z) → ((z : Entry) → y ≡ Some z → Fits p word_of z) → cond b x y ≡ Some e → Fits p word_of e
  cond_fits true x y e one two is = one e is
  cond_fits false x y e one two is = two e is

  entry_fits : (value : Option (List ℕ)) (own : Entry) → Fits p word_of own → (z : Entry) → entry_of value own ≡ Some z → Fits p word_of z
  entry_fits None own fits z is = absurd (cc)
  entry_fits (Some v) own fits z is = subst (Fits p word_of) (let same : own ≡ z = cc in same) fits

  pub written_fit : (ws : List (Write × Entry)) (entries : ℕ → Option Entry) → AreAllFit ws → ((k : ℕ) (e : Entry) → entries k ≡ Some e → Fits p word_of e) → (k : ℕ) (e : Entry) → entries_after entries ws k ≡ Some e → Fits p word_of e
  written_fit [] entries all was k e is = was k e is
  written_fit (w ∷ ws) entries all was k e is =
      written_fit ws (with_entry entries (w.0).key (entry_of (w.0).value w.1)) all.1
      (λ i x at. cond_fits (i == (w.0).key) (entry_of (w.0).value w.1) (entries i) x (entry_fits (w.0).value w.1 all.0) (was i) at)
      k e is

  leaf_put : (value : Option (List ℕ)) (own : Entry) → Fits p word_of own → leaf_of_put p word_of (word_kept (entry_of value own)) ≡ leaf_of_write value own
  leaf_put None own fits = refl
  leaf_put (Some v) own fits = ap Some (sym fits)

  pub leaves_ids : (ws : List (Write × Entry)) → AreAllFit ws → map (leaf_write p word_of) (map id_write ws) ≡ leaf_writes ws
  leaves_ids [] all = refl
  leaves_ids (w ∷ ws) all = λ j. ((w.0).key, leaf_put (w.0).value w.1 all.0 j) ∷ leaves_ids ws all.1 j

  module _ (writes : List Write) (words : List ℕ) (g first : ℕ) where
    abbrev at : ℕ → Write × Entry
    at i = (write_at writes i, own_entry p words (g, first) i)

    fit_from : (a n : ℕ) → first + (a + n) ≤ 2 ^ 64 → ((i : ℕ) → i < a + n → word_of (record { generation = g; place = first + i }) ≡ slice_index words i) → AreAllFit (map at (range_with_len a n))
    fit_from a zero small given = tt
    fit_from a (suc n) small given = (own_fits p word_of g first words a (omega (arith, small)) (given a (omega arith)), fit_from (a + 1) n (omega (arith, small)) (λ i lt. given i (omega (arith, lt))))

    pub writes_fit : (n : ℕ) → first + n ≤ 2 ^ 64 → ((i : ℕ) → i < n → word_of (record { generation = g; place = first + i }) ≡ slice_index words i) → AreAllFit (writes_of p writes words (g, first) n)
    writes_fit n small given = fit_from 0 n (omega (arith, small)) (λ i lt. given i (omega (arith, lt)))

    drawn_from : (a n drawn : ℕ) → first + (a + n) ≤ drawn → drawn ≤ 2 ^ 62 → AreDrawn p word_of g (first + a) (map id_write (map at (range_with_len a n))) drawn
    drawn_from a zero drawn few small = omega (arith, few)
    drawn_from a (suc n) drawn few small =
        let place : (first + a) % 2 ^ 64 ≡ first + a = omega (arith, few, small) in
        let one : first + (a + 1) ≡ (first + a) % 2 ^ 64 + 1 = omega (arith, place) in (
          record { generation = g; place = (first + a) % 2 ^ 64 },
          put_of (write_at writes a).value (own_entry p words (g, first) a),
          refl,
          omega (arith, place),
          subst (λ m. AreDrawn p word_of g m (map id_write (map at (range_with_len (a + 1) n))) drawn) one (drawn_from (a + 1) n drawn (omega (arith, few)) small),
        )

    pub writes_drawn : (n drawn : ℕ) → first + n ≤ drawn → drawn ≤ 2 ^ 62 → AreDrawn p word_of g first (map id_write (writes_of p writes words (g, first) n)) drawn
    writes_drawn n drawn few small =
        let none : first + 0 ≡ first = omega arith in
        subst (λ m. AreDrawn p word_of g m (map id_write (writes_of p writes words (g, first) n)) drawn) none (drawn_from 0 n drawn (omega (arith, few)) small)
