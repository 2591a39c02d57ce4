-- The words of all versions that a life fills: apart, and free of each word that is drawn for anything else.
use Rattle.std.specs.Prelude.{◌≡◌, ℕ, ◌+◌, ◌*◌, ◌-◌, ◌^◌, ◌<◌, ◌≤◌, nat_le, true, false, ◌||◌, List, [], ◌∷◌, ◌++◌, map, length, Option}
use Rattle.std.proofs.Common.{arith, refl, sym, ap, subst, ◌∙◌, inl, inr}
use Rattle.std.proofs.lemmas.Bool.{cases_lt, or_cases, leb-true}
use Rattle.ob_base.specs.declared.params.Params.{Params}
use Rattle.ob_base.specs.Repeats.{Has}
use Rattle.ob_base.specs.Tree.{below, buckets, width}
use Rattle.ob_base.proofs.Repeats.{has_cases}
use Rattle.ob_schedule.specs.Paths.{is_one_of, eviction_path}
use Rattle.ob_ring.specs.FlatTable.{FlatTable}
use Rattle.ob_ring.proofs.Batches.{FinalLaw, final_law}
use Rattle.ob_ring.proofs.Lows.{eviction_within}
use Rattle.ob_tables.specs.Rank.{IsRanking}
use Rattle.ob_recover.specs.Life.{WordId, LifeState, LifeAct, Open, Append, ShowBatch, ShowLifts, End, IsActAllowed, IsLife, formatted_life, is_table_lifted, life_step, table_now}
use Rattle.ob_recover.proofs.FreshLaws.{labels_formatted, slots_formatted}
use Rattle.ob_recover.proofs.LabelLaws.{IsOlder, not_older, older_yet}
use Rattle.ob_recover.proofs.LifeLabels.{AreLabelsApart, labels_step, newer}
use Rattle.ob_recover.proofs.LifeSlots.{AreSlotsSound, slots_keep}
use Rattle.ob_fresh.specs.Drawn.{WordsKept, AllDrawNext, AreRanksFrom, DrawsNext, formatted_words, refilled, words_on, words_step}
use Rattle.ob_fresh.proofs.Blocks.{AreApart, AreBlocksOf, Block, IsFree}
use Rattle.ob_fresh.proofs.Listed.{has_mapped, has_range, mapped_has, range_has, row_within, rows_apart}
use Rattle.ob_fresh.proofs.Moves.{block_anew, blocks_keep, blocks_stay, blocks_step}

module _ (p : Params) (tape : WordId → ℕ) where
  -- with those of all acts behind this state
  abbrev pub all_blocks : LifeState → WordsKept → List Block → List LifeAct → List Block
  all_blocks s k bs [] = bs
  all_blocks s k bs (a ∷ rest) = all_blocks (life_step p tape s a) (words_step p tape s k a) (blocks_step p tape s k bs a) rest

  pub all_has : (s : LifeState) (k : WordsKept) (bs : List Block) (acts : List LifeAct) (b : Block) → Has bs b → Has (all_blocks s k bs acts) b
  all_has s k bs [] b h = h
  all_has s k bs (a ∷ rest) b h = all_has (life_step p tape s a) (words_step p tape s k a) (blocks_step p tape s k bs a) rest b (blocks_stay p tape s k bs a b h)

  -- what a state keeps
  pub record Keeps (s : LifeState) (k : WordsKept) (bs : List Block) : Type 0 where
    pub labels : AreLabelsApart p tape s
    pub slots : AreSlotsSound p tape s
    pub blocks : AreBlocksOf p tape s k bs

  module _ (some : 0 < p.dummies) where
    pub keeps_step : (s : LifeState) (k : WordsKept) (bs : List Block) (a : LifeAct) → IsActAllowed p tape s a → DrawsNext p tape s k a → Keeps s k bs → Keeps (life_step p tape s a) (words_step p tape s k a) (blocks_step p tape s k bs a)
    keeps_step s k bs a ok next keeps = record {
      labels = labels_step p tape s a ok keeps.labels;
      slots = slots_keep p tape some s a ok keeps.slots;
      blocks = blocks_keep p tape s k bs a ok next keeps.labels keeps.slots keeps.blocks;
    }

    pub all_apart : (s : LifeState) (k : WordsKept) (bs : List Block) (acts : List LifeAct) → IsLife p tape s acts → AllDrawNext p tape s k acts → Keeps s k bs → AreApart (width p) (all_blocks s k bs acts)
    all_apart s k bs [] life next keeps = keeps.blocks.apart
    all_apart s k bs (a ∷ rest) life next keeps = all_apart (life_step p tape s a) (words_step p tape s k a) (blocks_step p tape s k bs a) rest life.1 next.1 (keeps_step s k bs a life.0 next.0 keeps)

  -- a word behind those that were drawn is in no block yet
  pub new_free : (s : LifeState) (k : WordsKept) (bs : List Block) → AreBlocksOf p tape s k bs → (w : WordId) → w.generation ≡ s.generation → k.drawn ≤ w.place → IsFree (width p) bs w
  new_free s k bs inv w now free b h j low e = not_older (words_on b.first j) w s.generation k.drawn (sym e) now free (inv.old b h j low)

  -- nor in one that an end begins, where it is older than these
  end_free : (s : LifeState) (k : WordsKept) (bs : List Block) (slot : ℕ → ℕ → ℕ) (w : WordId) → IsFree (width p) bs w → IsOlder w s.generation (k.drawn + p.writes) → IsFree (width p) (bs ++ map (block_anew p tape s k slot) (refilled p tape s)) w
  end_free s k bs slot w free old b h j low e = elim (has_cases bs (map (block_anew p tape s k slot) (refilled p tape s)) b h) [
    | inl was ↦ free b was j low e
    | inr now ↦ (
        let x = has_mapped (block_anew p tape s k slot) (refilled p tape s) b now in
        not_older w (words_on (block_anew p tape s k slot x.0).first j) s.generation (k.drawn + p.writes) (e ∙ sym (ap (λ (c : Block). words_on c.first j) x.2)) refl (omega arith) old)
  ]

  pub all_free : (s : LifeState) (k : WordsKept) (bs : List Block) (acts : List LifeAct) → IsLife p tape s acts → AllDrawNext p tape s k acts → (w : WordId) → IsFree (width p) bs w → IsOlder w s.generation k.drawn → IsFree (width p) (all_blocks s k bs acts) w
  all_free s k bs [] life next w free old = free
  all_free s k bs (Open g ∷ rest) life next w free old = all_free (life_step p tape s (Open g)) (words_step p tape s k (Open g)) bs rest life.1 next.1 w free (newer w s.generation k.drawn g life.0 old)
  all_free s k bs (Append r ∷ rest) life next w free old = all_free (life_step p tape s (Append r)) (words_step p tape s k (Append r)) bs rest life.1 next.1 w free (older_yet w s.generation k.drawn (k.drawn + length r.asks) (omega arith) old)
  all_free s k bs (ShowBatch ∷ rest) life next w free old = all_free (life_step p tape s ShowBatch) k bs rest life.1 next.1 w free old
  all_free s k bs (ShowLifts ∷ rest) life next w free old = all_free (life_step p tape s ShowLifts) k bs rest life.1 next.1 w free old
  all_free s k bs (End ws drawn slot ∷ rest) life next w free old =
      all_free (life_step p tape s (End ws drawn slot)) (words_step p tape s k (End ws drawn slot)) (blocks_step p tape s k bs (End ws drawn slot)) rest life.1 next.1 w
      (end_free s k bs slot w free (older_yet w s.generation k.drawn (k.drawn + p.writes) (omega arith) old)) (older_yet w s.generation k.drawn ((k.drawn + p.writes) + length (refilled p tape s) * width p) (omega arith) old)

  -- ---- the words of a record and of an end's writes are free of all

  pub record_free : (s : LifeState) (k : WordsKept) (bs : List Block) (r : LifeAct) (many : ℕ) (rest : List LifeAct) → AreBlocksOf p tape s k bs → (w : WordId) → w.generation ≡ s.generation → k.drawn ≤ w.place → w.place < many →
      ((life_step p tape s r).generation ≡ s.generation) → ((words_step p tape s k r).drawn ≡ many) → (blocks_step p tape s k bs r ≡ bs) → IsLife p tape (life_step p tape s r) rest → AllDrawNext p tape (life_step p tape s r) (words_step p tape s k r) rest → IsFree (width p) (all_blocks s k bs (r ∷ rest)) w
  record_free s k bs r many rest inv w now low high g d b life next =
      all_free (life_step p tape s r) (words_step p tape s k r) (blocks_step p tape s k bs r) rest life next w (subst (λ (cs : List Block). IsFree (width p) cs w) (sym b) (new_free s k bs inv w now low)) (inr (now ∙ sym g, omega arith))

  pub write_free : (s : LifeState) (k : WordsKept) (bs : List Block) (ws : List (ℕ × Option WordId)) (drawn : ℕ) (slot : ℕ → ℕ → ℕ) (rest : List LifeAct) → AreBlocksOf p tape s k bs → (w : WordId) → w.generation ≡ s.generation → k.drawn ≤ w.place → w.place < k.drawn + p.writes →
      IsLife p tape (life_step p tape s (End ws drawn slot)) rest → AllDrawNext p tape (life_step p tape s (End ws drawn slot)) (words_step p tape s k (End ws drawn slot)) rest → IsFree (width p) (all_blocks s k bs (End ws drawn slot ∷ rest)) w
  write_free s k bs ws drawn slot rest inv w now low high life next =
      all_free (life_step p tape s (End ws drawn slot)) (words_step p tape s k (End ws drawn slot)) (blocks_step p tape s k bs (End ws drawn slot)) rest life next w
      (end_free s k bs slot w (new_free s k bs inv w now low) (inr (now, high))) (inr (now, omega arith))

  -- ---- a bucket that is lifted is one of the tree

  up_within : (s : LifeState) → AreSlotsSound p tape s → (u : ℕ) → is_table_lifted p tape s u ≡ true → u < 2 ^ (p.levels + 1) - 1
  up_within s sound u e =
      let t : FlatTable = table_now p tape s in
      let fin : FinalLaw p t sound.count (λ u. false) (eviction_path p t.counter) = final_law p t sound.count (λ u. false) (eviction_path p t.counter) sound.sound (record { lifted_is = sound.counted.lifted_is; reads_is = sound.counted.reads_is }) in
      elim (or_cases (is_one_of (eviction_path p t.counter) u) (false || nat_le p.dummies (sound.count u)) (sym (fin.lifted_is u) ∙ e)) [
        | inl path ↦ eviction_within p t.counter u path
        | inr full ↦ (
            let h : p.dummies ≤ sound.count u = leb-true p.dummies (sound.count u) full in
            elim (cases_lt u (2 ^ (p.levels + 1) - 1)) [ inl in' ↦ in' | inr out ↦ absurd (let g : sound.count u < p.dummies = sound.bound u out in omega arith) ])
      ]

  pub lifted_low : (s : LifeState) → AreSlotsSound p tape s → (u : ℕ) → is_table_lifted p tape s u ≡ true → u < buckets p
  unfolding buckets
  lifted_low s sound u e = up_within s sound u e

  -- ---- the format

  module _ (some : 0 < p.dummies) (slot : ℕ → ℕ → ℕ) (ranked : (u : ℕ) → IsRanking (width p) (slot u)) (format : (u : ℕ) → u < buckets p → AreRanksFrom p tape (slot u) ((formatted_words p).first u)) where
    abbrev made : ℕ → Block
    made u = record { version = 0; bucket = u; first = record { generation = 1; place = u * width p }; slot = slot u }

    abbrev pub formatted : List Block
    formatted = map made (below (buckets p))

    made_of : (b : Block) → Has formatted b → (u : ℕ) × (u < buckets p) × (made u ≡ b)
    made_of b h = let x = has_mapped made (below (buckets p)) b h in let low = range_has 0 (buckets p) x.0 x.1 in (x.0, omega (arith, low.1), x.2)

    pub formatted_has : (u : ℕ) → u < buckets p → Has formatted (made u)
    formatted_has u low = mapped_has made (below (buckets p)) u (has_range 0 (buckets p) u (omega arith) (omega arith))

    formatted_apart : AreApart (width p) formatted
    formatted_apart b c h g i j low high e =
        let x = made_of b h in
        let y = made_of c g in
        let at : x.0 * width p + i ≡ y.0 * width p + j = ap (λ (w : WordId). w.place) (ap (λ (d : Block). words_on d.first i) x.2 ∙ e ∙ sym (ap (λ (d : Block). words_on d.first j) y.2)) in
        let rows : x.0 ≡ y.0 = rows_apart x.0 y.0 (width p) i j low high at in
        let whole : x.0 * width p ≡ y.0 * width p = ap (λ (n : ℕ). n * width p) rows in
        (sym x.2 ∙ ap made rows ∙ y.2, omega arith)

    pub at_format : Keeps (formatted_life slot) (formatted_words p) formatted
    at_format = record {
      labels = labels_formatted p tape slot;
      slots = slots_formatted p tape slot some ranked;
      blocks = record {
        drawn = omega arith;
        old = λ b h j low. (
            let x = made_of b h in
            let row : x.0 * width p + j < buckets p * width p = row_within x.0 (buckets p) (width p) j x.1 low in
            subst (λ (c : Block). IsOlder (words_on c.first j) 1 (buckets p * width p)) x.2 (inr (refl, row)));
        apart = formatted_apart;
        ranks = λ b h. (let x = made_of b h in subst (λ (c : Block). AreRanksFrom p tape c.slot c.first) x.2 (format x.0 x.1));
        present = formatted_has;
        held = λ key w h. absurd (cc);
        shown = λ l h. absurd h;
      };
    }
