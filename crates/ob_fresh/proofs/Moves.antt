-- Each act keeps the blocks apart.
use Rattle.std.specs.Prelude.{◌≡◌, ℕ, ◌+◌, ◌-◌, ◌*◌, ◌^◌, ◌<◌, ◌≤◌, ◌==◌, nat_le, Bool, true, false, cond, ◌||◌, List, [], ◌++◌, map, length, Option}
use Rattle.std.specs.declared.option.Option.TheVariants.{Some}
use Rattle.std.specs.List.{position_or_len}
use Rattle.std.proofs.Common.{arith, refl, sym, ap, subst, ◌∙◌, inl, inr}
use Rattle.std.proofs.lemmas.Bool.{cases_Bool, cases_lt, or_cases, leb-true}
use Rattle.ob_base.specs.declared.params.Params.{Params}
use Rattle.ob_base.specs.Repeats.{Has}
use Rattle.ob_base.specs.Tree.{buckets, width}
use Rattle.ob_base.proofs.Repeats.{has_cases, has_left, has_right}
use Rattle.ob_schedule.specs.Paths.{is_one_of, by_falling_level, eviction_path}
use Rattle.ob_ring.specs.FlatTable.{FinalLifts, FlatTable, after}
use Rattle.ob_ring.proofs.Batches.{FinalLaw, final_law}
use Rattle.ob_ring.proofs.Lows.{eviction_within}
use Rattle.ob_ring.proofs.Members.{one_of-filter, one_of-filter_from, position_apart, position_within}
use Rattle.ob_ring.proofs.Refills.{in_levels}
use Rattle.ob_recover.specs.Life.{WordId, LifeBatch, LifeState, LifeAct, Open, Append, ShowBatch, ShowLifts, End, LabelFill, IsActAllowed, batch_places, book_now, is_table_lifted, labels_of, life_step, planned_labels, table_now}
use Rattle.ob_recover.proofs.LabelLaws.{IsOlder, not_older, older_yet}
use Rattle.ob_recover.proofs.LifeLabels.{AreLabelsApart, book_more, newer, planned_more}
use Rattle.ob_recover.proofs.LifeSlots.{AreSlotsSound}
use Rattle.ob_fresh.specs.Drawn.{WordsKept, AreRanksFrom, EndDrawsNext, DrawsNext, refilled, words_on, words_step}
use Rattle.ob_fresh.proofs.Listed.{has_mapped, has_one, mapped_has, one_has, row_within, rows_apart}
use Rattle.ob_fresh.proofs.Ids.{IsAmong, IsFrom, IsHeld, words_of_book, words_of_labels, words_of_writes}
use Rattle.ob_fresh.proofs.Blocks.{AreApart, AreBlocksOf, AreRanked, Block, IsFree, block_now}

module _ (p : Params) (word_of : WordId → ℕ) (s : LifeState) (k : WordsKept) (bs : List Block) (inv : AreBlocksOf p word_of s k bs) where
  -- a word that is drawn now is in no block
  new_free : (w : WordId) → w.generation ≡ s.generation → k.drawn ≤ w.place → IsFree (width p) bs w
  new_free w now free b h j low e = not_older (words_on b.first j) w s.generation k.drawn (sym e) now free (inv.old b h j low)

  open_keeps : (g : ℕ) → s.generation < g → AreBlocksOf p word_of (life_step p word_of s (Open g)) (words_step p word_of s k (Open g)) bs
  open_keeps g later = record {
    drawn = omega arith;
    old = λ b h j low. newer (words_on b.first j) s.generation k.drawn g later (inv.old b h j low);
    apart = inv.apart;
    ranks = inv.ranks;
    present = inv.present;
    held = inv.held;
    shown = inv.shown;
  }

  show_keeps : (n : ℕ) (on : Bool) → AreBlocksOf p word_of (record s { lifting = on; begun = n }) k bs
  show_keeps n on = record {
    drawn = inv.drawn;
    old = inv.old;
    apart = inv.apart;
    ranks = inv.ranks;
    present = inv.present;
    held = inv.held;
    shown = inv.shown;
  }

  module _ (r : LifeBatch) (next : r.first ≡ record { generation = s.generation; place = k.drawn }) where
    held_or_new : (w : WordId) → IsHeld (book_now p word_of s) w → IsFree (width p) bs w
    held_or_new w held = inv.held held.0 w held.1

    from_free : (w : WordId) → IsFrom r.first w → IsFree (width p) bs w
    from_free w from =
        let g : r.first.generation ≡ s.generation = ap (λ (v : WordId). v.generation) next in
        let n : r.first.place ≡ k.drawn = ap (λ (v : WordId). v.place) next in
        new_free w (from.0 ∙ g) (let x : r.first.place ≤ w.place = from.1 in omega arith)

    append_keeps : AreBlocksOf p word_of (life_step p word_of s (Append r)) (words_step p word_of s k (Append r)) bs
    append_keeps = record {
      drawn = (let n : r.first.place ≡ k.drawn = ap (λ (v : WordId). v.place) next in omega arith);
      old = λ b h j low. older_yet (words_on b.first j) s.generation k.drawn (k.drawn + length r.asks) (omega arith) (inv.old b h j low);
      apart = inv.apart;
      ranks = inv.ranks;
      present = inv.present;
      held = λ key w h. elim (words_of_book (book_now p word_of s) r.first r.asks key w (subst (λ (book : ℕ → Option WordId). book key ≡ Some w) (book_more p word_of s.content.book s.log r) h)) [
        | inl held ↦ held_or_new w held
        | inr new ↦ from_free w new
      ];
      shown = λ l h. elim (has_cases (planned_labels p word_of s) (labels_of (s.epoch + 1) (0 + length s.log) 0 (book_now p word_of s) (batch_places r)) l
          (subst (λ (ls : List LabelFill). Has ls l) (planned_more p word_of s r) h)) [
            | inl old ↦ inv.shown l old
            | inr now ↦ elim (words_of_labels (s.epoch + 1) (0 + length s.log) 0 (book_now p word_of s) r.first r.asks l now) [
              | inl held ↦ held_or_new l.word held
              | inr new ↦ from_free l.word new
            ]
          ];
    }

-- ---- an end

module _ (p : Params) (word_of : WordId → ℕ) (s : LifeState) (sound : AreSlotsSound p word_of s) where
  abbrev t : FlatTable
  t = table_now p word_of s

  fin : FinalLaw p t sound.count (λ u. false) (eviction_path p t.counter)
  fin = final_law p t sound.count (λ u. false) (eviction_path p t.counter) sound.sound (record { lifted_is = sound.counted.lifted_is; reads_is = sound.counted.reads_is })

  up_within : (u : ℕ) → is_table_lifted p word_of s u ≡ true → u < 2 ^ (p.levels + 1) - 1
  up_within u e = elim (or_cases (is_one_of (eviction_path p t.counter) u) (false || nat_le p.dummies (sound.count u)) (sym (fin.lifted_is u) ∙ e)) [
    | inl path ↦ eviction_within p t.counter u path
    | inr full ↦ (
        let h : p.dummies ≤ sound.count u = leb-true p.dummies (sound.count u) full in
        elim (cases_lt u (2 ^ (p.levels + 1) - 1)) [ inl in' ↦ in' | inr out ↦ absurd (let g : sound.count u < p.dummies = sound.bound u out in omega arith) ])
  ]

  up_listed : (u : ℕ) → is_table_lifted p word_of s u ≡ true → is_one_of (refilled p word_of s) u ≡ true
  up_listed u up = one_of-filter_from (after p t FinalLifts).lifted (by_falling_level (p.levels + 1)) u up (in_levels (p.levels + 1) u (up_within u up))

  listed_up : (u : ℕ) → is_one_of (refilled p word_of s) u ≡ true → is_table_lifted p word_of s u ≡ true
  listed_up u one = (one_of-filter (after p t FinalLifts).lifted (by_falling_level (p.levels + 1)) u one).0

-- the blocks that an end begins
abbrev pub block_anew : Params → (WordId → ℕ) → LifeState → WordsKept → (ℕ → ℕ → ℕ) → ℕ → Block
block_anew p word_of s k slot u = record {
  version = s.epoch + 1;
  bucket = u;
  first = record { generation = s.generation; place = (k.drawn + p.writes) + position_or_len (λ v. v == u) (refilled p word_of s) * width p };
  slot = slot u;
}

abbrev pub blocks_step : Params → (WordId → ℕ) → LifeState → WordsKept → List Block → LifeAct → List Block
blocks_step p word_of s k bs (Open g) = bs
blocks_step p word_of s k bs (Append r) = bs
blocks_step p word_of s k bs ShowBatch = bs
blocks_step p word_of s k bs ShowLifts = bs
blocks_step p word_of s k bs (End ws drawn slot) = bs ++ map (block_anew p word_of s k slot) (refilled p word_of s)

module _ (p : Params) (word_of : WordId → ℕ) (s : LifeState) (k : WordsKept) (bs : List Block) (inv : AreBlocksOf p word_of s k bs) (labels : AreLabelsApart p word_of s) (sound : AreSlotsSound p word_of s)
    (ws : List (ℕ × Option WordId)) (drawn : ℕ) (slot : ℕ → ℕ → ℕ) (next : EndDrawsNext p word_of s k ws drawn slot) where
  abbrev order : List ℕ
  order = refilled p word_of s

  abbrev base : ℕ
  base = k.drawn + p.writes

  abbrev made : ℕ → Block
  made u = block_anew p word_of s k slot u

  abbrev new : List Block
  new = map made order

  abbrev up : ℕ → Bool
  up u = is_table_lifted p word_of s u

  made_of : (b : Block) → Has new b → (u : ℕ) × (is_one_of order u ≡ true) × (made u ≡ b)
  made_of b h = let x = has_mapped made order b h in (x.0, has_one order x.0 x.1, x.2)

  made_within : (u j : ℕ) → is_one_of order u ≡ true → j < width p → IsOlder (words_on (made u).first j) s.generation (base + length order * width p)
  made_within u j one low =
      let place : ℕ = position_or_len (λ v. v == u) order in
      let row : place * width p + j < length order * width p = row_within place (length order) (width p) j (position_within order u one) low in
      inr (refl, omega arith)

  made_apart : (u v i j : ℕ) → is_one_of order u ≡ true → is_one_of order v ≡ true → i < width p → j < width p → words_on (made u).first i ≡ words_on (made v).first j → (made u ≡ made v) × (i ≡ j)
  made_apart u v i j one two low high e =
      let a : ℕ = position_or_len (λ c. c == u) order in
      let b : ℕ = position_or_len (λ c. c == v) order in
      let at : (base + a * width p) + i ≡ (base + b * width p) + j = ap (λ (w : WordId). w.place) e in
      let rows : a ≡ b = rows_apart a b (width p) i j low high (omega arith) in
      let whole : a * width p ≡ b * width p = ap (λ (n : ℕ). n * width p) rows in
      (ap made (position_apart order u v one two rows), omega arith)

  -- an older word is in no new block
  old_free : (w : WordId) → IsOlder w s.generation k.drawn → IsFree (width p) new w
  old_free w old b h j low e =
      let x = made_of b h in
      not_older w (words_on (made x.0).first j) s.generation k.drawn (e ∙ sym (ap (λ (c : Block). words_on c.first j) x.2)) refl (omega arith) old

  -- nor is one of the writes
  write_free : (w : WordId) → w.place < k.drawn + length ws → IsFree (width p) new w
  write_free w low b h j lt e =
      let x = made_of b h in
      let at : w.place ≡ (base + position_or_len (λ v. v == x.0) order * width p) + j = ap (λ (v : WordId). v.place) (e ∙ sym (ap (λ (c : Block). words_on c.first j) x.2)) in
      let few : length ws ≤ p.writes = next.few in
      omega arith

  both_free : (w : WordId) → IsFree (width p) bs w → IsFree (width p) new w → IsFree (width p) (bs ++ new) w
  both_free w f g b h j low e = elim (has_cases bs new b h) [ inl old ↦ f b old j low e | inr now ↦ g b now j low e ]

  held_free : (w : WordId) → IsHeld (book_now p word_of s) w → IsFree (width p) (bs ++ new) w
  held_free w held = both_free w (inv.held held.0 w held.1) (old_free w (older_yet w s.generation s.drawn k.drawn inv.drawn (labels.held_old held.0 w held.1)))

  among_free : (w : WordId) → IsAmong (record { generation = s.generation; place = k.drawn }) (length ws) w → IsFree (width p) (bs ++ new) w
  among_free w among = both_free w (new_free p word_of s k bs inv w among.0.0 among.0.1) (write_free w among.1)

  old_new : (b c : Block) → Has bs b → Has new c → (i j : ℕ) → i < width p → words_on b.first i ≡ words_on c.first j → ⊥
  old_new b c h g i j low e =
      let x = made_of c g in
      not_older (words_on b.first i) (words_on (made x.0).first j) s.generation k.drawn (e ∙ sym (ap (λ (d : Block). words_on d.first j) x.2)) refl (omega arith) (inv.old b h i low)

  ended_apart : AreApart (width p) (bs ++ new)
  ended_apart b c h g i j low high e = elim (has_cases bs new b h) [
    | inl old ↦ elim (has_cases bs new c g) [ inl old' ↦ inv.apart b c old old' i j low high e | inr now' ↦ absurd (old_new b c old now' i j low e) ]
    | inr now ↦ elim (has_cases bs new c g) [
      | inl old' ↦ absurd (old_new c b old' now j i high (sym e))
      | inr now' ↦ (
          let x = made_of b now in
          let y = made_of c now' in
          let r = made_apart x.0 y.0 i j x.1 y.1 low high (ap (λ (d : Block). words_on d.first i) x.2 ∙ e ∙ sym (ap (λ (d : Block). words_on d.first j) y.2)) in
          (sym x.2 ∙ r.0 ∙ y.2, r.1))
    ]
  ]

  made_ranked : (u : ℕ) → is_one_of order u ≡ true → AreRanksFrom p word_of (slot u) (made u).first
  made_ranked u one =
      let on : up u ≡ true = listed_up p word_of s sound u one in
      subst (λ (b : Bool). AreRanksFrom p word_of (slot u) (cond b (made u).first (k.first u))) on (next.ranks u on)

  ended_ranked : AreRanked p word_of (bs ++ new)
  ended_ranked b h = elim (has_cases bs new b h) [
    | inl old ↦ inv.ranks b old
    | inr now ↦ (let x = made_of b now in subst (λ (c : Block). AreRanksFrom p word_of c.slot c.first) x.2 (made_ranked x.0 x.1))
  ]

  abbrev kept_or_made : ℕ → Bool → Block
  kept_or_made u b = record {
    version = cond b (s.epoch + 1) (s.content.version u);
    bucket = u;
    first = cond b (made u).first (k.first u);
    slot = cond b (slot u) (s.content.slot u);
  }

  ended_present : (u : ℕ) → u < buckets p → Has (bs ++ new) (kept_or_made u (up u))
  ended_present u low = elim (cases_Bool (up u)) [
    | inl on ↦ subst (λ (b : Bool). Has (bs ++ new) (kept_or_made u b)) (sym on) (has_right bs new (made u) (mapped_has made order u (one_has order u (up_listed p word_of s sound u on))))
    | inr off ↦ subst (λ (b : Bool). Has (bs ++ new) (kept_or_made u b)) (sym off) (has_left bs new (block_now s k u) (inv.present u low))
  ]

  end_keeps : AreBlocksOf p word_of (life_step p word_of s (End ws drawn slot)) (words_step p word_of s k (End ws drawn slot)) (bs ++ new)
  end_keeps = record {
    drawn = (let many : drawn ≡ base + length order * width p = next.many in omega arith);
    old = λ b h j low. elim (has_cases bs new b h) [
      | inl old ↦ older_yet (words_on b.first j) s.generation k.drawn (base + length order * width p) (omega arith) (inv.old b old j low)
      | inr now ↦ (let x = made_of b now in subst (λ (c : Block). IsOlder (words_on c.first j) s.generation (base + length order * width p)) x.2 (made_within x.0 j x.1 low))
    ];
    apart = ended_apart;
    ranks = ended_ranked;
    present = ended_present;
    held = λ key w h. elim (words_of_writes p word_of (book_now p word_of s) (record { generation = s.generation; place = k.drawn }) ws key w next.puts h) [
      | inl held ↦ held_free w held
      | inr among ↦ among_free w among
    ];
    shown = λ l h. elim (has_cases (planned_labels p word_of s) [] l h) [
      | inl old ↦ both_free l.word (inv.shown l old) (old_free l.word (older_yet l.word s.generation s.drawn k.drawn inv.drawn (labels.shown_old l old)))
      | inr none ↦ absurd none
    ];
  }

-- ---- any act

pub blocks_keep : (p : Params) (word_of : WordId → ℕ) (s : LifeState) (k : WordsKept) (bs : List Block) (a : LifeAct) → IsActAllowed p word_of s a → DrawsNext p word_of s k a → AreLabelsApart p word_of s → AreSlotsSound p word_of s →
    AreBlocksOf p word_of s k bs → AreBlocksOf p word_of (life_step p word_of s a) (words_step p word_of s k a) (blocks_step p word_of s k bs a)
blocks_keep p word_of s k bs (Open g) ok next labels sound inv = open_keeps p word_of s k bs inv g ok
blocks_keep p word_of s k bs (Append r) ok next labels sound inv = append_keeps p word_of s k bs inv r next
blocks_keep p word_of s k bs ShowBatch ok next labels sound inv = show_keeps p word_of s k bs inv (s.begun + 1) s.lifting
blocks_keep p word_of s k bs ShowLifts ok next labels sound inv = show_keeps p word_of s k bs inv (s.begun + 1) true
blocks_keep p word_of s k bs (End ws drawn slot) ok next labels sound inv = end_keeps p word_of s k bs inv labels sound ws drawn slot next

pub blocks_stay : (p : Params) (word_of : WordId → ℕ) (s : LifeState) (k : WordsKept) (bs : List Block) (a : LifeAct) (b : Block) → Has bs b → Has (blocks_step p word_of s k bs a) b
blocks_stay p word_of s k bs (Open g) b h = h
blocks_stay p word_of s k bs (Append r) b h = h
blocks_stay p word_of s k bs ShowBatch b h = h
blocks_stay p word_of s k bs ShowLifts b h = h
blocks_stay p word_of s k bs (End ws drawn slot) b h = has_left bs (map (block_anew p word_of s k slot) (refilled p word_of s)) b h
