-- Both works side by side: the other draws its words in turn, and the slots of its versions are the ranks of words that moved.
use Rattle.std.specs.Prelude.{◌≡◌, ℕ, ◌+◌, ◌*◌, ◌<◌, ◌==◌, Bool, true, cond, List, [], ◌∷◌, filter, length, map, slice_index, Option}
use Rattle.std.specs.List.{position_or_len}
use Rattle.std.proofs.Common.{arith, refl, sym, ap, subst, ◌∙◌, inr}
use Rattle.std.proofs.lemmas.List.FromFn.{get_or-map-range_with_len, length-map-range_with_len}
use Rattle.ob_base.specs.declared.params.Params.{Params}
use Rattle.ob_base.specs.Repeats.{Has}
use Rattle.ob_base.specs.Tree.{width}
use Rattle.ob_tables.specs.Rank.{rank, ranks_of}
use Rattle.ob_schedule.specs.Paths.{by_falling_level}
use Rattle.ob_recover.specs.Life.{WordId, LifeBatch, LifeState, Open, Append, ShowBatch, ShowLifts, End, LabelFill, IsLife, book_now, is_table_lifted, labels_shown, life_step, table_now}
use Rattle.ob_deniable.specs.Moved.{AreMoved, HasNoTie, PermutesBelow}
use Rattle.ob_deniable.specs.Telling.{ActFills, LeafFill, fills_of_acts, leaf_fill}
use Rattle.ob_deniable.specs.Works.{LifeWork, Opens, Logs, Shows, Lifts, Ends, VersionSlots, SameShape, acts_of, slots_moved}
use Rattle.ob_deniable.proofs.Acts.{Alike, Known, open_keeps, append_keeps, shows_keep, lifts_keep, end_keeps, now_known, faces_now}
use Rattle.ob_deniable.proofs.Pairs.{cons_head, cons_tail}
use Rattle.ob_deniable.proofs.RankLaws.{long_ranks, rankings_move}
use Rattle.ob_deniable.proofs.Tables.{Faces, leaf, leaf', up_same}
use Rattle.ob_deniable_runs.specs.Tapes.{ArePutsNext, EndsUntied, IsUntied}
use Rattle.ob_deniable_runs.proofs.Rows.{Keeps, all_blocks, all_has, keeps_step, lifted_low}
use Rattle.ob_fresh.specs.Drawn.{AllDrawNext, AreNextPuts, AreRanksFrom, EndDrawsNext, WordsKept, version_words, words_on, words_step}
use Rattle.ob_fresh.proofs.Blocks.{Block, block_now}
use Rattle.ob_fresh.proofs.Moves.{blocks_step}

-- ---- a version

at_ranks : (words : List ℕ) (j : ℕ) → j < length words → slice_index (ranks_of words) j ≡ rank words j
at_ranks words j low = get_or-map-range_with_len (rank words) 0 (length words) j j 0 low (omega arith)

module _ (p : Params) (w w' : WordId → ℕ) (to from : ℕ → ℕ) (m : PermutesBelow (width p) to from) (first : WordId) (moved : (j : ℕ) → j < width p → w' (words_on first j) ≡ w (words_on first (from j))) where
  long : (v : WordId → ℕ) → length (version_words p v first) ≡ width p
  long v = length-map-range_with_len (λ j. v (words_on first j)) 0 (width p)

  at : (v : WordId → ℕ) (j : ℕ) → j < width p → slice_index (version_words p v first) j ≡ v (words_on first j)
  at v j low = get_or-map-range_with_len (λ i. v (words_on first i)) 0 (width p) j j 0 low (omega arith)

  permutes : PermutesBelow (length (version_words p w first)) to from
  permutes = subst (λ (n : ℕ). PermutesBelow n to from) (sym (long w)) m

  along : AreMoved from (version_words p w first) (version_words p w' first)
  along = (long w' ∙ sym (long w), λ j low. (let here : j < width p = (let n : length (version_words p w first) ≡ width p = long w in omega arith) in at w' j here ∙ moved j here ∙ sym (at w (from j) (m.from_within j here))))

  pub version_untied : HasNoTie (version_words p w first) → HasNoTie (version_words p w' first)
  version_untied none = (rankings_move (version_words p w first) (version_words p w' first) to from permutes none along).0

  pub version_ranked : HasNoTie (version_words p w first) → (slot : ℕ → ℕ) → AreRanksFrom p w slot first → AreRanksFrom p w' (λ j. slot (from j)) first
  version_ranked none slot ranks j low =
      let law = (rankings_move (version_words p w first) (version_words p w' first) to from permutes none along).1 in
      let n : length (version_words p w first) ≡ width p = long w in
      let n' : length (version_words p w' first) ≡ width p = long w' in
      let r : length (ranks_of (version_words p w first)) ≡ length (version_words p w first) = long_ranks (version_words p w first) in
      let there : from j < width p = m.from_within j low in
      ranks (from j) there ∙ sym (at_ranks (version_words p w first) (from j) (omega arith)) ∙ sym (law.1 j (omega arith)) ∙ at_ranks (version_words p w' first) j (omega arith)

-- ---- leaves from fills

pub leaves_in_fills : (p : Params) (w w' : WordId → ℕ) (some : 0 < p.dummies) (ls ms : List LabelFill) → map (leaf_fill p w) ls ≡ map (leaf_fill p w') ms → map (leaf p some w w') ls ≡ map (leaf' p some w w') ms
leaves_in_fills p w w' some ls ms e = sym (both_maps w ls) ∙ ap (map (λ (f : LeafFill). f.leaf)) e ∙ both_maps w' ms
  where
    both_maps : (v : WordId → ℕ) (xs : List LabelFill) → map (λ (f : LeafFill). f.leaf) (map (leaf_fill p v) xs) ≡ map (λ (l : LabelFill). (leaf_fill p v l).leaf) xs
    both_maps v [] = refl
    both_maps v (x ∷ xs) = ap (λ (ns : List ℕ). (leaf_fill p v x).leaf ∷ ns) (both_maps v xs)

module _ (p : Params) (some : 0 < p.dummies) (w w' : WordId → ℕ) (to from : (version bucket index : ℕ) → ℕ) (m : (v u : ℕ) → PermutesBelow (width p) (to v u) (from v u)) (slots : VersionSlots) where
  abbrev slots' : VersionSlots
  slots' = slots_moved from slots

  -- the words of these versions moved
  abbrev pub AreWordsMoved : List Block → Type 0
  AreWordsMoved all = (b : Block) → Has all b → (j : ℕ) → j < width p → w' (words_on b.first j) ≡ w (words_on b.first (from b.version b.bucket j))

  module _ (s s' : LifeState) (a : Alike p some w w' s s') (on : s.lifting ≡ true) (gen : s.generation ≡ s'.generation) (k k' : WordsKept) (kept : k ≡ k') where
    faces : Faces p some w w' (table_now p w s) (table_now p w' s') (book_now p w s) (book_now p w' s')
    faces = faces_now p some w w' s s' a (λ n. a.known n (inr on))

    up : (u : ℕ) → is_table_lifted p w s u ≡ is_table_lifted p w' s' u
    up u = up_same p some w w' (table_now p w s) (table_now p w' s') (book_now p w s) (book_now p w' s') faces u

    kept_same : (ws vs : List (ℕ × Option WordId)) (x y : ℕ) (slot slot' : ℕ → ℕ → ℕ) → words_step p w s k (End ws x slot) ≡ words_step p w' s' k' (End vs y slot')
    kept_same ws vs x y slot slot' i = record {
      drawn = ((kept i).drawn + p.writes) + length (filter (λ u. up u i) (by_falling_level (p.levels + 1))) * width p;
      first = λ u. cond (up u i) (record { generation = gen i; place = ((kept i).drawn + p.writes) + position_or_len (λ v. v == u) (filter (λ u. up u i) (by_falling_level (p.levels + 1))) * width p }) ((kept i).first u);
    }

  pub both : (e : ℕ) (s s' : LifeState) (k k' : WordsKept) (bs : List Block) (one other : List LifeWork) (g n : ℕ) → SameShape one other → Alike p some w w' s s' → s.epoch ≡ e → s.generation ≡ s'.generation → k ≡ k' → g ≡ s.generation → n ≡ k.drawn → ArePutsNext p g n other →
      IsLife p w s (acts_of e slots one) → IsLife p w' s' (acts_of e slots' other) → AllDrawNext p w s k (acts_of e slots one) → EndsUntied p w s k (acts_of e slots one) → Keeps p w s k bs →
      fills_of_acts p w s (acts_of e slots one) ≡ fills_of_acts p w' s' (acts_of e slots' other) → AreWordsMoved (all_blocks p w s k bs (acts_of e slots one)) → AllDrawNext p w' s' k' (acts_of e slots' other) × EndsUntied p w' s' k' (acts_of e slots' other)
  both e s s' k k' bs [] [] g n sh a at gen kept g_is n_is puts life life' next none keeps h moved = (tt, tt)
  both e s s' k k' bs [] (y ∷ other) g n sh a at gen kept g_is n_is puts life life' next none keeps h moved = absurd sh
  both e s s' k k' bs (x ∷ one) [] g n sh a at gen kept g_is n_is puts life life' next none keeps h moved = absurd sh
  both e s s' k k' bs (Opens x ∷ one) (Opens y ∷ other) g n sh a at gen kept g_is n_is puts life life' next none keeps h moved =
      let rest = both e (life_step p w s (Open x)) (life_step p w' s' (Open y)) (words_step p w s k (Open x)) (words_step p w' s' k' (Open y)) bs one other y 0 sh.1 (open_keeps p some w w' s s' a x y life.0 life'.0) at sh.0 (λ i. record (kept i) { drawn = 0 }) (sym sh.0) refl puts
      life.1 life'.1 next.1 none (keeps_step p w some s k bs (Open x) life.0 next.0 keeps) (cons_tail _ _ _ _ h) moved in
      ((tt, rest.0), rest.1)
  both e s s' k k' bs (Logs asks first ∷ one) (Logs others start ∷ other) g n sh a at gen kept g_is n_is puts life life' next none keeps h moved =
      let r : LifeBatch = record { asks = asks; first = first } in
      let q : LifeBatch = record { asks = others; first = start } in
      let many : length asks ≡ length others = sh.0.0 in
      let rest = both e (life_step p w s (Append r)) (life_step p w' s' (Append q)) (words_step p w s k (Append r)) (words_step p w' s' k' (Append q)) bs one other g (n + length others) sh.1 (append_keeps p some w w' s s' a r q many life.0 life'.0) at gen
      (λ i. record (kept i) { drawn = (kept i).drawn + many i }) g_is (omega arith) puts life.1 life'.1 next.1 none (keeps_step p w some s k bs (Append r) life.0 next.0 keeps) (cons_tail _ _ _ _ h) moved in
      ((sym sh.0.1 ∙ next.0 ∙ (λ i. record { generation = gen i; place = (kept i).drawn }), rest.0), rest.1)
  both e s s' k k' bs (Shows ∷ one) (Shows ∷ other) g n sh a at gen kept g_is n_is puts life life' next none keeps h moved =
      let head : ◌≡◌ {A = ActFills} (record { leaves = map (leaf_fill p w) (labels_shown p w s ShowBatch); slots = _ }) (record { leaves = map (leaf_fill p w') (labels_shown p w' s' ShowBatch); slots = _ }) = cons_head _ _ _ _ h in
      let now : Known p some w w' s s' s.begun = now_known p some w w' s s' a (leaves_in_fills p w w' some (labels_shown p w s ShowBatch) (labels_shown p w' s' ShowBatch) (ap (λ (f : ActFills). f.leaves) head)) in
      let rest = both e (life_step p w s ShowBatch) (life_step p w' s' ShowBatch) k k' bs one other g n sh.1 (shows_keep p some w w' s s' a life.0 life'.0 now) at gen kept g_is n_is puts
      life.1 life'.1 next.1 none (keeps_step p w some s k bs ShowBatch life.0 next.0 keeps) (cons_tail _ _ _ _ h) moved in
      ((tt, rest.0), rest.1)
  both e s s' k k' bs (Lifts ∷ one) (Lifts ∷ other) g n sh a at gen kept g_is n_is puts life life' next none keeps h moved =
      let rest = both e (life_step p w s ShowLifts) (life_step p w' s' ShowLifts) k k' bs one other g n sh.1 (lifts_keep p some w w' s s' a life.0 life'.0) at gen kept g_is n_is puts
      life.1 life'.1 next.1 none (keeps_step p w some s k bs ShowLifts life.0 next.0 keeps) (cons_tail _ _ _ _ h) moved in
      ((tt, rest.0), rest.1)
  both e s s' k k' bs (Ends ws x ∷ one) (Ends vs y ∷ other) g n sh a at gen kept g_is n_is puts life life' next none keeps h moved =
      let slot : ℕ → ℕ → ℕ = slots (e + 1) in
      let slot' : ℕ → ℕ → ℕ = slots' (e + 1) in
      let s1 : LifeState = life_step p w s (End ws x slot) in
      let k1 : WordsKept = words_step p w s k (End ws x slot) in
      let k2 : WordsKept = words_step p w' s' k' (End vs y slot') in
      let bs1 : List Block = blocks_step p w s k bs (End ws x slot) in
      let same : k1 ≡ k2 = kept_same s s' a life.0.0 gen k k' kept ws vs x y slot slot' in
      let then : Keeps p w s1 k1 bs1 = keeps_step p w some s k bs (End ws x slot) life.0 next.0 keeps in
      let lifted : (u : ℕ) → is_table_lifted p w s u ≡ is_table_lifted p w' s' u = up s s' a life.0.0 gen k k' kept in
      let words : (u : ℕ) → is_table_lifted p w s u ≡ true → (j : ℕ) → j < width p → w' (words_on (k1.first u) j) ≡ w (words_on (k1.first u) (from (e + 1) u j)) =
      (λ u on j low. moved (block_now s1 k1 u) (all_has p w s1 k1 bs1 (acts_of (e + 1) slots one) (block_now s1 k1 u) (then.blocks.present u (lifted_low p w s keeps.slots u on))) j low
      ∙ (λ i. w (words_on (k1.first u) (from ((ap (λ (b : Bool). cond b (s.epoch + 1) (s.content.version u)) on ∙ ap (λ (n : ℕ). n + 1) at) i) u j)))) in
      let rest = both (e + 1) s1 (life_step p w' s' (End vs y slot')) k1 k2 bs1 one other g y sh.1 (end_keeps p some w w' s s' a ws vs x y slot slot' life.0 life'.0) (ap (λ (n : ℕ). n + 1) at) gen same g_is (sym sh.0 ∙ next.0.many) puts.2
      life.1 life'.1 next.1 none.1 then (cons_tail _ _ _ _ h) moved in
      let ends : EndDrawsNext p w' s' k' vs y slot' = record {
        few = puts.0;
        puts = subst (λ (v : WordId). AreNextPuts v vs) (λ i. record { generation = (g_is ∙ gen) i; place = (n_is ∙ ap (λ (c : WordsKept). c.drawn) kept) i }) puts.1;
        many = sym sh.0 ∙ next.0.many ∙ ap (λ (c : WordsKept). c.drawn) same;
        ranks = λ u on'. (
            let on : is_table_lifted p w s u ≡ true = lifted u ∙ on' in
            subst (λ (c : WordsKept). AreRanksFrom p w' (slot' u) (c.first u)) same (version_ranked p w w' (to (e + 1) u) (from (e + 1) u) (m (e + 1) u) (k1.first u) (words u on) (none.0 u on) (slot u) (next.0.ranks u on)));
      } in
      let free : (u : ℕ) → is_table_lifted p w' s' u ≡ true → IsUntied p w' (k2.first u) =
      (λ u on'. (
      let on : is_table_lifted p w s u ≡ true = lifted u ∙ on' in
      subst (λ (c : WordsKept). IsUntied p w' (c.first u)) same (version_untied p w w' (to (e + 1) u) (from (e + 1) u) (m (e + 1) u) (k1.first u) (words u on) (none.0 u on)))) in
      ((ends, rest.0), (free, rest.1))
  both e s s' k k' bs (x ∷ one) (y ∷ other) g n sh a at gen kept g_is n_is puts life life' next none keeps h moved = absurd sh.0
