-- No word is shown twice.
use Rattle.std.specs.Prelude.{◌≡◌, ℕ, ◌+◌, ◌*◌, ◌<◌, ◌==◌, List, [], ◌∷◌, map}
use Rattle.std.specs.List.{position_or_len}
use Rattle.std.proofs.Common.{arith, refl, sym, ap, subst, ◌∙◌, inl, inr}
use Rattle.std.proofs.lemmas.Nat.{pow_pos}
use Rattle.ob_base.specs.declared.params.Params.{Params}
use Rattle.ob_base.specs.Repeats.{Has}
use Rattle.ob_base.specs.Tree.{below, buckets, width}
use Rattle.ob_base.proofs.Repeats.{has_cases, has_left, has_right}
use Rattle.ob_tables.specs.Rank.{IsRanking}
use Rattle.ob_ring.proofs.Lows.{IsLow}
use Rattle.ob_recover.specs.Life.{WordId, LifeState, LifeAct, Open, Append, ShowBatch, ShowLifts, End, HolesAreFresh, LabelFill, SlotFill, IsActAllowed, IsLife, labels_shown, slots_shown, life_labels, life_slots, life_step, planned_labels, reached, formatted_life}
use Rattle.ob_recover.proofs.FreshLaws.{labels_formatted, lives_are_fresh, slots_formatted}
use Rattle.ob_recover.proofs.LabelLaws.{IsOlder}
use Rattle.ob_recover.proofs.LifeLabels.{AreLabelsApart, labels_step, life_planned}
use Rattle.ob_recover.proofs.LifeSlots.{AreSlotsSound, slots_keep}
use Rattle.ob_fresh.specs.Drawn.{WordsKept, WordFill, LabelWord, SlotWord, AllDrawNext, AreRanksFrom, AreWordsInTurn, id_shown, index_lying, formatted_words, life_words, slot_word, words_on, words_shown, words_step}
use Rattle.ob_fresh.specs.Fresh.{NoWordTwice, WordsAreApart}
use Rattle.ob_fresh.proofs.Listed.{has_mapped, has_range, lying, mapped_has, range_has, row_within, rows_apart}
use Rattle.ob_fresh.proofs.Holes.{IsShownAt, shown_at}
use Rattle.ob_fresh.proofs.Blocks.{AreApart, AreBlocksOf, AreRanked, Block, IsFree, block_now}
use Rattle.ob_fresh.proofs.Moves.{blocks_keep, blocks_stay, blocks_step}

-- the slot hole shows a word of one of these blocks, at its slot
record IsTold (n : ℕ) (bs : List Block) (f : SlotFill) (word : WordId) : Type 0 where
  block : Block
  has : Has bs block
  index : ℕ
  low : index < n
  bucket : f.bucket ≡ block.bucket
  version : f.version ≡ block.version
  slot : f.slot ≡ block.slot index
  is_word : word ≡ words_on block.first index

told_more : (n : ℕ) (bs cs : List Block) → ((b : Block) → Has bs b → Has cs b) → (f : SlotFill) (word : WordId) → IsTold n bs f word → IsTold n cs f word
told_more n bs cs more f word t = record { block = t.block; has = more t.block t.has; index = t.index; low = t.low; bucket = t.bucket; version = t.version; slot = t.slot; is_word = t.is_word }

-- each fill of a row is one of these labels, or one of these slots with a word of a block
abbrev IsAmongThese : ℕ → List Block → List LabelFill → List SlotFill → WordFill → Type 0
IsAmongThese n bs labels slots (LabelWord l) = Has labels l
IsAmongThese n bs labels slots (SlotWord f word) = Has slots f × IsTold n bs f word

module _ (p : Params) (word_of : WordId → ℕ) (some : 0 < p.dummies) where
  -- what a state keeps
  record Keeps (s : LifeState) (k : WordsKept) (bs : List Block) : Type 0 where
    labels : AreLabelsApart p word_of s
    slots : AreSlotsSound p word_of s
    low : IsLow p s.content.table
    blocks : AreBlocksOf p word_of s k bs

  low_keeps : (s : LifeState) (a : LifeAct) → IsActAllowed p word_of s a → AreSlotsSound p word_of s → IsLow p s.content.table → IsLow p (life_step p word_of s a).content.table
  low_keeps s (Open g) ok sound low = low
  low_keeps s (Append r) ok sound low = low
  low_keeps s ShowBatch ok sound low = low
  low_keeps s ShowLifts ok sound low = low
  low_keeps s (End ws drawn slot) ok sound low = (slots_keep p word_of some s (End ws drawn slot) ok sound).low

  -- what an act shows is told by the blocks
  slot_told : (s : LifeState) (k : WordsKept) (bs : List Block) (a : LifeAct) → IsActAllowed p word_of s a → Keeps s k bs → (f : SlotFill) → Has (slots_shown p word_of s a) f → IsTold (width p) bs f (words_on (k.first f.bucket) (index_lying p s.content f.bucket f.slot))
  slot_told s k bs a ok keeps f h =
      let at : IsShownAt p word_of s f = shown_at p word_of some s keeps.slots keeps.low a ok f h in
      let ranked : IsRanking (width p) (s.content.slot f.bucket) = keeps.slots.slots.ranked f.bucket in
      let index : index_lying p s.content f.bucket f.slot ≡ at.index =
      ap (λ (slot : ℕ). position_or_len (λ j. s.content.slot f.bucket j == slot) (below (width p))) at.at ∙ lying (width p) (s.content.slot f.bucket) at.index ranked at.low in
      record {
        block = block_now s k f.bucket;
        has = keeps.blocks.present f.bucket at.present.in_tree;
        index = at.index;
        low = at.low;
        bucket = refl;
        version = at.present.version;
        slot = at.at;
        is_word = ap (λ (j : ℕ). words_on (k.first f.bucket) j) index;
      }

  act_told : (s : LifeState) (k : WordsKept) (bs : List Block) (a : LifeAct) → IsActAllowed p word_of s a → Keeps s k bs → (x : WordFill) → Has (words_shown p word_of s k a) x → IsAmongThese (width p) bs (labels_shown p word_of s a) (slots_shown p word_of s a) x
  act_told s k bs a ok keeps x h = elim (has_cases (map LabelWord (labels_shown p word_of s a)) (map (slot_word p s.content k) (slots_shown p word_of s a)) x h) [
    | inl label ↦ (
        let l = has_mapped LabelWord (labels_shown p word_of s a) x label in
        subst (λ (y : WordFill). IsAmongThese (width p) bs (labels_shown p word_of s a) (slots_shown p word_of s a) y) l.2 l.1)
    | inr slot ↦ (
        let f = has_mapped (slot_word p s.content k) (slots_shown p word_of s a) x slot in
        subst (λ (y : WordFill). IsAmongThese (width p) bs (labels_shown p word_of s a) (slots_shown p word_of s a) y) f.2 (f.1, slot_told s k bs a ok keeps f.0 f.1))
  ]

  -- what the acts behind a state leave
  record Left (s : LifeState) (k : WordsKept) (bs : List Block) (acts : List LifeAct) : Type 0 where
    all : List Block
    more : (b : Block) → Has bs b → Has all b
    apart : AreApart (width p) all
    ranks : AreRanked p word_of all
    free : (l : LabelFill) → Has (planned_labels p word_of (reached p word_of s acts)) l → IsFree (width p) all l.word
    told : (x : WordFill) → Has (life_words p word_of s k acts) x → IsAmongThese (width p) all (life_labels p word_of s acts) (life_slots p word_of s acts) x

  among_more : (bs cs : List Block) (ls ls' : List LabelFill) (fs fs' : List SlotFill) → ((b : Block) → Has bs b → Has cs b) → ((l : LabelFill) → Has ls l → Has ls' l) → ((f : SlotFill) → Has fs f → Has fs' f) →
      (x : WordFill) → IsAmongThese (width p) bs ls fs x → IsAmongThese (width p) cs ls' fs' x
  among_more bs cs ls ls' fs fs' more in_l in_f (LabelWord l) h = in_l l h
  among_more bs cs ls ls' fs fs' more in_l in_f (SlotWord f word) h = (in_f f h.0, told_more (width p) bs cs more f word h.1)

  left : (s : LifeState) (k : WordsKept) (bs : List Block) (acts : List LifeAct) → IsLife p word_of s acts → AllDrawNext p word_of s k acts → Keeps s k bs → Left s k bs acts
  left s k bs [] life next keeps = record {
    all = bs;
    more = λ b h. h;
    apart = keeps.blocks.apart;
    ranks = keeps.blocks.ranks;
    free = keeps.blocks.shown;
    told = λ x h. absurd h;
  }
  left s k bs (a ∷ rest) life next keeps =
      let s1 : LifeState = life_step p word_of s a in
      let k1 : WordsKept = words_step p word_of s k a in
      let bs1 : List Block = blocks_step p word_of s k bs a in
      let one : Keeps s1 k1 bs1 = record {
        labels = labels_step p word_of s a life.0 keeps.labels;
        slots = slots_keep p word_of some s a life.0 keeps.slots;
        low = low_keeps s a life.0 keeps.slots keeps.low;
        blocks = blocks_keep p word_of s k bs a life.0 next.0 keeps.labels keeps.slots keeps.blocks;
      } in
      let behind : Left s1 k1 bs1 rest = left s1 k1 bs1 rest life.1 next.1 one in
      let stay : (b : Block) → Has bs b → Has behind.all b = λ b h. behind.more b (blocks_stay p word_of s k bs a b h) in
      record {
        all = behind.all;
        more = stay;
        apart = behind.apart;
        ranks = behind.ranks;
        free = behind.free;
        told = λ x h. elim (has_cases (words_shown p word_of s k a) (life_words p word_of s1 k1 rest) x h) [
          | inl now ↦ among_more bs behind.all (labels_shown p word_of s a) (life_labels p word_of s (a ∷ rest)) (slots_shown p word_of s a) (life_slots p word_of s (a ∷ rest)) stay
              (λ l. has_left (labels_shown p word_of s a) (life_labels p word_of s1 rest) l) (λ f. has_left (slots_shown p word_of s a) (life_slots p word_of s1 rest) f) x (act_told s k bs a life.0 keeps x now)
          | inr later ↦ among_more behind.all behind.all (life_labels p word_of s1 rest) (life_labels p word_of s (a ∷ rest)) (life_slots p word_of s1 rest) (life_slots p word_of s (a ∷ rest)) (λ b k. k)
              (λ l. has_right (labels_shown p word_of s a) (life_labels p word_of s1 rest) l) (λ f. has_right (slots_shown p word_of s a) (life_slots p word_of s1 rest) f) x (behind.told x later)
        ];
      }

  -- ---- the format

  module _ (slot : ℕ → ℕ → ℕ) (ranked : (u : ℕ) → IsRanking (width p) (slot u)) (acts : List LifeAct) (life : IsLife p word_of (formatted_life slot) acts) (words : AreWordsInTurn p word_of slot acts) where
    abbrev made : ℕ → Block
    made u = record { version = 0; bucket = u; first = record { generation = 1; place = u * width p }; slot = slot u }

    abbrev formatted : List Block
    formatted = map made (below (buckets p))

    made_of : (b : Block) → Has formatted b → (u : ℕ) × (u < buckets p) × (made u ≡ b)
    made_of b h = let x = has_mapped made (below (buckets p)) b h in let low = range_has 0 (buckets p) x.0 x.1 in (x.0, omega (arith, low.1), x.2)

    formatted_apart : AreApart (width p) formatted
    formatted_apart b c h g i j low high e =
        let x = made_of b h in
        let y = made_of c g in
        let at : x.0 * width p + i ≡ y.0 * width p + j = ap (λ (w : WordId). w.place) (ap (λ (d : Block). words_on d.first i) x.2 ∙ e ∙ sym (ap (λ (d : Block). words_on d.first j) y.2)) in
        let rows : x.0 ≡ y.0 = rows_apart x.0 y.0 (width p) i j low high at in
        let whole : x.0 * width p ≡ y.0 * width p = ap (λ (n : ℕ). n * width p) rows in
        (sym x.2 ∙ ap made rows ∙ y.2, omega arith)

    at_first : Keeps (formatted_life slot) (formatted_words p) formatted
    at_first = record {
      labels = labels_formatted p word_of slot;
      slots = slots_formatted p word_of slot some ranked;
      low = λ key. pow_pos p.levels;
      blocks = record {
        drawn = omega arith;
        old = λ b h j low. (
            let x = made_of b h in
            let row : x.0 * width p + j < buckets p * width p = row_within x.0 (buckets p) (width p) j x.1 low in
            subst (λ (c : Block). IsOlder (words_on c.first j) 1 (buckets p * width p)) x.2 (inr (refl, row)));
        apart = formatted_apart;
        ranks = λ b h. (let x = made_of b h in subst (λ (c : Block). AreRanksFrom p word_of c.slot c.first) x.2 (words.format x.0 x.1));
        present = λ u low. mapped_has made (below (buckets p)) u (has_range 0 (buckets p) u (omega arith) (omega arith));
        held = λ key w h. absurd (cc);
        shown = λ l h. absurd h;
      };
    }

    -- ---- all of it

    whole_life : Left (formatted_life slot) (formatted_words p) formatted acts
    whole_life = left (formatted_life slot) (formatted_words p) formatted acts life words.behind at_first

    abbrev labels : List LabelFill
    labels = life_labels p word_of (formatted_life slot) acts

    abbrev slots : List SlotFill
    slots = life_slots p word_of (formatted_life slot) acts

    fresh : HolesAreFresh labels slots
    fresh = lives_are_fresh p word_of slot acts some ranked life

    label_slot : (l : LabelFill) (f : SlotFill) (word : WordId) → Has labels l → IsTold (width p) whole_life.all f word → l.word ≡ word → ⊥
    label_slot l f word h t e = whole_life.free l (life_planned p word_of (formatted_life slot) acts l h) t.block t.has t.index t.low (e ∙ t.is_word)

    one_slot : (f g : SlotFill) (v w : WordId) → Has slots f → Has slots g → IsTold (width p) whole_life.all f v → IsTold (width p) whole_life.all g w → v ≡ w → f ≡ g
    one_slot f g v w h i t u e =
        let same = whole_life.apart t.block u.block t.has u.has t.index u.index t.low u.low (sym t.is_word ∙ e ∙ u.is_word) in
        fresh.slots_apart f g h i (t.bucket ∙ ap (λ (b : Block). b.bucket) same.0 ∙ sym u.bucket) (t.version ∙ ap (λ (b : Block). b.version) same.0 ∙ sym u.version)
        (t.slot ∙ (λ j. (same.0 j).slot (same.1 j)) ∙ sym u.slot)

    one_fill : (x y : WordFill) → IsAmongThese (width p) whole_life.all labels slots x → IsAmongThese (width p) whole_life.all labels slots y → id_shown x ≡ id_shown y → x ≡ y
    one_fill (LabelWord l) (LabelWord m) h g e = ap LabelWord (fresh.labels_apart l m h g e)
    one_fill (LabelWord l) (SlotWord f word) h g e = absurd (label_slot l f word h g.1 e)
    one_fill (SlotWord f word) (LabelWord l) h g e = absurd (label_slot l f word g h.1 (sym e))
    one_fill (SlotWord f v) (SlotWord g w) h i e = λ j. SlotWord (one_slot f g v w h.0 i.0 h.1 i.1 e j) (e j)

    apart : WordsAreApart p word_of (life_words p word_of (formatted_life slot) (formatted_words p) acts)
    apart = record {
      apart = λ x y h g e. one_fill x y (whole_life.told x h) (whole_life.told y g) e;
      ranks = λ f word h. (
          let t = (whole_life.told (SlotWord f word) h).1 in
          record { first = t.block.first; index = t.index; within = t.low; is_word = t.is_word; is_rank = t.slot ∙ whole_life.ranks t.block t.has t.index t.low });
    }

pub no_word_twice : NoWordTwice
no_word_twice p word_of slot acts some ranked life words = apart p word_of some slot ranked acts life words
