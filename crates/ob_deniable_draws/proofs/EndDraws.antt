-- What a life's end makes durable, a vault draws from what is hidden there.
use Rattle.std.specs.Prelude.{◌≡◌, ℕ, ◌+◌, ◌-◌, ◌*◌, ◌%◌, ◌^◌, ◌<◌, ◌≤◌, ◌==◌, Bool, true, false, cond, List, [], ◌∷◌, map, take, drop, length, slice_index, Option, None, Some}
use Rattle.std.specs.List.{position_or_len, range_with_len}
use Rattle.std.proofs.Common.{suc, arith, refl, sym, ap, subst, ◌∙◌, inl, inr}
use Rattle.std.proofs.Math.Nat.{mul-le-mul_right}
use Rattle.std.proofs.lemmas.Bool.{cases_Bool, cases_lt, false≢true, true≢false}
use Rattle.std.proofs.lemmas.List.{get_or-take, get_or-drop, length-drop, length-map}
use Rattle.std.proofs.lemmas.List.FromFn.{length-range_with_len}
use Rattle.std.proofs.lemmas.List.Sums.{count_by-le-length}
use Rattle.ob_base.specs.Repeats.{Has}
use Rattle.ob_base.specs.Tree.{below, buckets, width}
use Rattle.ob_base.specs.declared.params.Params.{Params}
use Rattle.ob_base.specs.declared.value.Write.{Write}
use Rattle.ob_deniable_runs.specs.OtherCalls.{is_put, told_write}
use Rattle.ob_end.specs.EndRuns.{end_writes, seals_for_end, words_for_end}
use Rattle.ob_fresh.specs.Drawn.{AreNextPuts, EndDrawsNext, WordsKept, version_words, words_on, words_step}
use Rattle.ob_log.specs.Logs.{BatchRecord}
use Rattle.ob_recover.proofs.Living.{lives_show_fills}
use Rattle.ob_recover.specs.Known.{fills_with_lifts}
use Rattle.ob_recover.specs.Life.{End, IsActAllowed, IsPutOf, LifeBatch, LifeState, ShowLifts, WordId, book_after_log, book_now, book_written, is_table_lifted, leaf_write, life_step, table_now}
use Rattle.ob_recover.specs.Lives.{LifeShowsFills, life_batch, word_kept}
use Rattle.ob_recover.specs.Repeats.{entries_after_records}
use Rattle.ob_ring.proofs.Members.{IsDistinct, distinct-filter, one_of-filter, one_of-filter_from}
use Rattle.ob_ring.proofs.Refills.{distinct_levels, in_levels}
use Rattle.ob_ring.specs.Fetching.{own_entry}
use Rattle.ob_ring.specs.Filling.{words_of}
use Rattle.ob_ring.specs.FlatTable.{FinalLifts, FlatTable, Refill, Writes, after, in_stash, refill_order}
use Rattle.ob_ring.specs.Writing.{entries_after, entry_of, leaf_writes, write_at}
use Rattle.ob_schedule.specs.Paths.{by_falling_level, is_one_of}
use Rattle.ob_serial.specs.Vaults as vaults
use Rattle.ob_tables.specs.Buckets.{version_at}
use Rattle.ob_tables.specs.Content.{Content}
use Rattle.ob_tables.specs.Kept.{entry_at}
use Rattle.ob_tables.specs.Rank.{rank, ranks_of}
use Rattle.ob_tables.specs.Version.{Version}
use Rattle.ob_tables.specs.declared.entry.Entry.{Entry}
use Rattle.ob_vault.proofs.Ids as ids
use Rattle.ob_vault.proofs.VersionWords.{is_version, part_at, part_many}
use Rattle.ob_vault.proofs.Writing.{AreAllFit, leaves_ids, writes_fit, written_fit, written_ids}
use Rattle.ob_vault.specs.Acts.{id_write}
use Rattle.ob_vault.specs.Hidden.{IsContentEnded, RingDraws, RingHidden, table_hidden}
use Rattle.ob_vault.specs.RingVaults.{write_from}
use Rattle.ob_vault.specs.Shown.{IsInLife}
use Rattle.ob_deniable_draws.proofs.Contents.{content_hidden, entry_hidden, hidden_in, words_hidden}
use Rattle.ob_deniable_draws.proofs.Keeping.{in_levels_too}
use Rattle.ob_deniable_draws.proofs.Lists.{map_same, one_at, position_is}
use Rattle.ob_deniable_draws.proofs.Obeying.{book_is, version_is, version_out}
use Rattle.ob_deniable_draws.proofs.Stays.{Stays, content_obeys, home_is, in_life, table_of, word_at, words_long, words_more}

has_map : {A B : Type 0} (f : A → B) (xs : List A) (x : A) → Has xs x → Has (map f xs) (f x)
has_map f [] x none = absurd none
has_map f (y ∷ xs) x (inl is) = inl (ap f is)
has_map f (y ∷ xs) x (inr has) = inr (has_map f xs x has)

told_head : (x : ℕ × Bool) (xs : List (ℕ × Bool)) (y : ℕ × Bool) (ys : List (ℕ × Bool)) → x ∷ xs ≡ y ∷ ys → x ≡ y
told_head x xs y ys e = cc

told_tail : (x : ℕ × Bool) (xs : List (ℕ × Bool)) (y : ℕ × Bool) (ys : List (ℕ × Bool)) → x ∷ xs ≡ y ∷ ys → xs ≡ ys
told_tail x xs y ys e = cc

told_none : (y : ℕ × Bool) (ys : List (ℕ × Bool)) → ◌≡◌ {A = List (ℕ × Bool)} [] (y ∷ ys) → ⊥
told_none y ys e = cc

-- a write with its id, from what is told of it
one_write : (key : ℕ) (o : Option WordId) (v : Option (List ℕ)) (e : Entry) (w : WordId) → is_put o ≡ is_put v → IsPutOf o w → e.generation ≡ w.generation → e.index ≡ w.place → word_kept (entry_of v e) ≡ o
one_write key None None e w same put gen place = refl
one_write key None (Some x) e w same put gen place = absurd (false≢true same)
one_write key (Some y) None e w same put gen place = absurd (true≢false same)
one_write key (Some y) (Some x) e w same put gen place = (λ i. Some (record { generation = gen i; place = place i })) ∙ ap (λ (v : WordId). Some v) (sym put)

-- each of these places has its write, and an entry with the id of its word
abbrev AreAt : (ℕ → Write × Entry) → (g first a : ℕ) → List (ℕ × Option (List ℕ)) → Type 0
AreAt at g first a writes = (i : ℕ) → i < length writes → ((at (a + i)).0 ≡ write_at (map write_from writes) i) × ((at (a + i)).1.generation ≡ g) × ((at (a + i)).1.index ≡ first + (a + i))

ids_are : (at : ℕ → Write × Entry) (g first a : ℕ) (ws : List (ℕ × Option WordId)) (writes : List (ℕ × Option (List ℕ))) → map told_write ws ≡ map told_write writes → AreNextPuts (record { generation = g; place = first + a }) ws → AreAt at g first a writes →
    map id_write (map at (range_with_len a (length writes))) ≡ ws
ids_are at g first a [] [] told next each = refl
ids_are at g first a [] (y ∷ writes) told next each = absurd (told_none (told_write y) (map told_write writes) told)
ids_are at g first a (x ∷ ws) [] told next each = absurd (told_none (told_write x) (map told_write ws) (sym told))
ids_are at g first a (x ∷ ws) (y ∷ writes) told next each =
    let zeroth : a + 0 ≡ a = omega arith in
    let here = each 0 (omega arith) in
    let write : (at a).0 ≡ write_from y = ap (λ (n : ℕ). (at n).0) (sym zeroth) ∙ here.0 in
    let gen : (at a).1.generation ≡ g = ap (λ (n : ℕ). (at n).1.generation) (sym zeroth) ∙ here.1 in
    let place : (at a).1.index ≡ first + a = ap (λ (n : ℕ). (at n).1.index) (sym zeroth) ∙ here.2 ∙ ap (λ (n : ℕ). first + n) zeroth in
    let same : told_write x ≡ told_write y = told_head (told_write x) (map told_write ws) (told_write y) (map told_write writes) told in
    let key : (at a).0.key ≡ x.0 = ap (λ (w : Write). w.key) write ∙ sym (ap (λ (q : ℕ × Bool). q.0) same) in
    let word : word_kept (entry_of (at a).0.value (at a).1) ≡ x.1 =
    ap (λ (w : Write). word_kept (entry_of w.value (at a).1)) write ∙ one_write x.0 x.1 y.1 (at a).1 (record { generation = g; place = first + a }) (ap (λ (q : ℕ × Bool). q.1) same) next.0 gen place in
    let rest : map id_write (map at (range_with_len (a + 1) (length writes))) ≡ ws =
    ids_are at g first (a + 1) ws writes (told_tail (told_write x) (map told_write ws) (told_write y) (map told_write writes) told)
    (subst (λ (m : ℕ). AreNextPuts (record { generation = g; place = m }) ws) (let z : (first + a) + 1 ≡ first + (a + 1) = omega arith in z) next.1)
    (λ i low. (let e : a + suc i ≡ (a + 1) + i = omega arith in subst (λ (n : ℕ). ((at n).0 ≡ write_at (map write_from writes) i) × ((at n).1.generation ≡ g) × ((at n).1.index ≡ first + n)) e (each (suc i) (omega arith)))) in
    λ j. (key j, word j) ∷ rest j

entry_back : (p : Params) (tape : WordId → ℕ) (o : Option Entry) → ((e : Entry) → o ≡ Some e → ids.Fits p tape e) → entry_hidden p tape (word_kept o) ≡ o
entry_back p tape None fits = refl
entry_back p tape (Some e) fits = λ i. Some (record { generation = e.generation; index = e.index; leaf = sym (fits e refl) i })

cond_on : (b : Bool) (f g : ℕ → ℕ) → b ≡ true → cond b f g ≡ f
cond_on true f g on = refl
cond_on false f g on = absurd (false≢true on)

cond_off : (b : Bool) (f g : ℕ → ℕ) → b ≡ false → cond b f g ≡ g
cond_off true f g off = absurd (true≢false off)
cond_off false f g off = refl

first_on : (b : Bool) (v w : WordId) → b ≡ true → cond b v w ≡ v
first_on true v w on = refl
first_on false v w on = absurd (false≢true on)

module _ (p : Params) (tape : WordId → ℕ) (s : LifeState) (ws : List (ℕ × Option WordId)) (drawn : ℕ) (slot : ℕ → ℕ → ℕ) (writes : List (ℕ × Option (List ℕ))) (told : map told_write ws ≡ map told_write writes)
    (ok : IsActAllowed p tape s ShowLifts) (k : WordsKept) (so_far : k.drawn ≡ s.drawn) (turn : EndDrawsNext p tape (life_step p tape s ShowLifts) k ws drawn slot) (stays : Stays p tape s) (low : s.generation < 2 ^ 64) (room : p.keys ≤ p.room)
    (lifted_low : (u : ℕ) → is_table_lifted p tape s u ≡ true → u < buckets p) (seals : ℕ) where
  abbrev sl : LifeState
  sl = life_step p tape s ShowLifts

  abbrev pub se : LifeState
  se = life_step p tape sl (End ws drawn slot)

  abbrev pub h : RingHidden
  h = hidden_in p tape s seals

  here : IsInLife p tape h s
  here = in_life p tape s stays low room seals (ok.1 ∙ sym ok.0)

  shows : LifeShowsFills p tape h.content h.records s
  shows = lives_show_fills p tape h.content h.records s here.obeys here.fit here.life

  abbrev t0 : FlatTable
  t0 = table_hidden p h

  table_is : table_now p tape s ≡ t0
  table_is = shows.table

  abbrev order : List ℕ
  order = refill_order p (after p t0 FinalLifts)

  pub drawn_is : drawn ≡ s.drawn + words_for_end p t0
  drawn_is = turn.many ∙ ap (λ (t : FlatTable). (k.drawn + p.writes) + length (refill_order p (after p t FinalLifts)) * width p) table_is ∙ omega (arith, so_far)

  abbrev first : ℕ
  first = length h.words

  first_is : first ≡ s.drawn
  first_is = words_long p tape (record { generation = s.generation; place = 0 }) s.drawn

  abbrev words : List ℕ
  words = words_hidden p tape (record { generation = s.generation; place = s.drawn }) (words_for_end p t0)

  words_many : length words ≡ words_for_end p t0
  words_many = words_long p tape (record { generation = s.generation; place = s.drawn }) (words_for_end p t0)

  abbrev all_writes : List Write
  all_writes = map write_from writes

  abbrev fs : List (Write × Entry)
  fs = end_writes p all_writes words s.generation first

  writes_many : length all_writes ≡ length writes
  writes_many = length-map writes write_from

  ws_many : length ws ≡ length writes
  ws_many = sym (length-map ws told_write) ∙ ap length told ∙ length-map writes told_write

  pub few_writes : length all_writes ≤ p.writes
  few_writes = (let few = turn.few in omega (arith, few, ws_many, writes_many))

  module _ (few : s.drawn + words_for_end p t0 ≤ 2 ^ 62) where
    own_word : (i : ℕ) → i < length all_writes → tape (record { generation = s.generation; place = first + i }) ≡ slice_index (take p.writes words) i
    own_word i lt =
        ap (λ (n : ℕ). tape (record { generation = s.generation; place = n })) (omega (arith, first_is))
        ∙ sym (word_at p tape (record { generation = s.generation; place = s.drawn }) (words_for_end p t0) i (omega (arith, lt, few_writes)))
        ∙ sym (get_or-take p.writes words i 0 (omega (arith, lt, few_writes)))

    all_fit : AreAllFit p tape fs
    all_fit = writes_fit p tape all_writes (take p.writes words) s.generation first (length all_writes) (omega (arith, few, few_writes, first_is)) own_word

    fs_ids : map id_write fs ≡ ws
    fs_ids =
        ap (λ (n : ℕ). map id_write (map (λ i. (write_at all_writes i, own_entry p (take p.writes words) (s.generation, first) i)) (below n))) writes_many
        ∙ ids_are (λ i. (write_at all_writes i, own_entry p (take p.writes words) (s.generation, first) i)) s.generation first 0 ws writes told
        (subst (λ (n : ℕ). AreNextPuts (record { generation = s.generation; place = n }) ws) (omega (arith, so_far, first_is)) turn.puts)
        (λ i lt. (ap (write_at all_writes) (let z : 0 + i ≡ i = omega arith in z), refl, (let z : (first + (0 + i)) % 2 ^ 64 ≡ first + (0 + i) = omega (arith, few, first_is, few_writes, writes_many, lt) in z)))

    -- ---- entries

    abbrev entries : ℕ → Option Entry
    entries = entries_after_records p (λ i. entry_at (h.content).book i) h.records

    small_records : (r : BatchRecord) → Has h.records r → r.first + length r.asks ≤ 2 ^ 64
    small_records r has = here.small (life_batch r) (subst (λ (log : List LifeBatch). Has log (life_batch r)) (sym (here.life).log) (has_map life_batch h.records r has))

    book_now_is : (i : ℕ) → book_now p tape s i ≡ word_kept (entries i)
    book_now_is i =
        ap (λ (log : List LifeBatch). book_after_log p tape (s.content).book log i) (here.life).log
        ∙ ids.records_ids p tape h.records (λ j. entry_at (h.content).book j) (s.content).book small_records (here.life).book i

    old_fit : (i : ℕ) (e : Entry) → entries i ≡ Some e → ids.Fits p tape e
    old_fit i e is = ids.records_fit p tape h.records (λ j. entry_at (h.content).book j) small_records (here.life).words (here.life).kept i e is

    module _ (then : Stays p tape se) where
      abbrev ended : Content
      ended = content_hidden p tape se.content

      entries_are : (i : ℕ) → entry_at ended.book i ≡ entries_after entries fs i
      entries_are i =
          book_is p tape se.content then.ready i
          ∙ ap (λ (vs : List (ℕ × Option WordId)). entry_hidden p tape (book_written p tape (book_now p tape s) vs i)) (sym fs_ids)
          ∙ ap (entry_hidden p tape) (written_ids p tape fs entries (book_now p tape s) book_now_is i)
          ∙ entry_back p tape (entries_after entries fs i) (λ e is. written_fit p tape fs entries all_fit old_fit i e is)

      -- ---- buckets

      up_low : (u : ℕ) → (after p t0 FinalLifts).lifted u ≡ true → u < buckets p
      up_low u up = lifted_low u (ap (λ (t : FlatTable). (after p t FinalLifts).lifted u) table_is ∙ up)

      up_is : (u : ℕ) → is_table_lifted p tape sl u ≡ (after p t0 FinalLifts).lifted u
      up_is u = ap (λ (t : FlatTable). (after p t FinalLifts).lifted u) table_is

      in_order : (i : ℕ) → i < length order → (after p t0 FinalLifts).lifted (slice_index order i) ≡ true
      in_order i lt = (one_of-filter (after p t0 FinalLifts).lifted (by_falling_level (p.levels + 1)) (slice_index order i) (one_at order i lt)).0

      abbrev own_words : ℕ → List ℕ
      own_words i = words_of p (drop p.writes words) i

      rows : (i : ℕ) → i < length order → i * width p + width p ≤ length (drop p.writes words)
      rows i lt =
          let more : (i + 1) * width p ≤ length order * width p = mul-le-mul_right (width p) (omega arith) in
          omega (arith, more, words_many, length-drop p.writes words)

      own_many : (i : ℕ) → i < length order → length (own_words i) ≡ width p
      own_many i lt = part_many (width p) (i * width p) (drop p.writes words) (rows i lt)

      -- the i-th bucket that is filled anew takes its words
      version_is_own : (i : ℕ) → i < length order → (first_id : WordId) → first_id ≡ record { generation = s.generation; place = (s.drawn + p.writes) + i * width p } → version_words p tape first_id ≡ own_words i
      version_is_own i lt first_id is = is_version p tape first_id (own_words i) (own_many i lt) (λ j in'. (
          let r : i * width p + width p ≤ length (drop p.writes words) = rows i lt in
          ap (λ (w : WordId). tape (words_on w j)) is
          ∙ ap (λ (n : ℕ). tape (record { generation = s.generation; place = n })) (let z : ((s.drawn + p.writes) + i * width p) + j ≡ s.drawn + (p.writes + (i * width p + j)) = omega arith in z)
          ∙ sym (word_at p tape (record { generation = s.generation; place = s.drawn }) (words_for_end p t0) (p.writes + (i * width p + j)) (omega (arith, r, in', words_many, length-drop p.writes words)))
          ∙ sym (get_or-drop p.writes words (i * width p + j) 0)
          ∙ sym (part_at (width p) (i * width p) j (drop p.writes words) in')))

      distinct : (t : FlatTable) → IsDistinct (refill_order p t)
      distinct t = distinct-filter t.lifted (by_falling_level (p.levels + 1)) (distinct_levels (p.levels + 1))

      first_of : (u i : ℕ) → (after p t0 FinalLifts).lifted u ≡ true → position_or_len (λ v. v == u) order ≡ i →
          (words_step p tape sl k (End ws drawn slot)).first u ≡ record { generation = s.generation; place = (s.drawn + p.writes) + i * width p }
      first_of u i up at =
          first_on (is_table_lifted p tape sl u) _ (k.first u) (up_is u ∙ up)
          ∙ (λ j. record { generation = s.generation; place = (so_far j + p.writes) + (ap (λ (t : FlatTable). position_or_len (λ v. v == u) (refill_order p (after p t FinalLifts))) table_is ∙ at) j * width p })

      slot_is : (u : ℕ) → (after p t0 FinalLifts).lifted u ≡ true → se.content.slot u ≡ slot u
      slot_is u up = cond_on (is_table_lifted p tape sl u) (slot u) (s.content.slot u) (up_is u ∙ up)

      ranks_are : (i : ℕ) → i < length order → (version_at ended.versions (slice_index order i)).ranks ≡ ranks_of (own_words i)
      ranks_are i lt =
          let u : ℕ = slice_index order i in
          let up : (after p t0 FinalLifts).lifted u ≡ true = in_order i lt in
          let at : (words_step p tape sl k (End ws drawn slot)).first u ≡ record { generation = s.generation; place = (s.drawn + p.writes) + i * width p } = first_of u i up (position_is order i (distinct (after p t0 FinalLifts)) lt) in
          let own : version_words p tape ((words_step p tape sl k (End ws drawn slot)).first u) ≡ own_words i = version_is_own i lt ((words_step p tape sl k (End ws drawn slot)).first u) at in
          ap (λ (v : Version). v.ranks) (version_is p tape se.content then.ready u (up_low u up))
          ∙ ap (λ (f : ℕ → ℕ). map f (below (width p))) (slot_is u up)
          ∙ map_same (slot u) (rank (own_words i)) 0 0 (width p) (λ j in'. turn.ranks u (up_is u ∙ up) (0 + j) (omega arith) ∙ ap (λ (xs : List ℕ). rank xs (0 + j)) own)
          ∙ ap (λ (n : ℕ). map (rank (own_words i)) (below n)) (sym (own_many i lt))

      others_are : (u : ℕ) → is_one_of order u ≡ false → (version_at ended.versions u).ranks ≡ (version_at (h.content).versions u).ranks
      others_are u not = elim (cases_lt u (buckets p)) [
        | inl in' ↦ (
            let down : (after p t0 FinalLifts).lifted u ≡ false = elim (cases_Bool ((after p t0 FinalLifts).lifted u)) [
              | inl up ↦ absurd (true≢false (sym (one_of-filter_from (after p t0 FinalLifts).lifted (by_falling_level (p.levels + 1)) u up (in_levels (p.levels + 1) u (in_levels_too p u in'))) ∙ not))
              | inr off ↦ off
            ] in
            ap (λ (v : Version). v.ranks) (version_is p tape se.content then.ready u in')
            ∙ ap (λ (f : ℕ → ℕ). map f (below (width p))) (cond_off (is_table_lifted p tape sl u) (slot u) (s.content.slot u) (up_is u ∙ down))
            ∙ ap (λ (v : Version). v.ranks) (sym (version_is p tape s.content stays.ready u in')))
        | inr out ↦ ap (λ (v : Version). v.ranks) (version_out p tape se.content then.ready u out ∙ sym (version_out p tape s.content stays.ready u out))
      ]

      content_ended : IsContentEnded p h all_writes words ended
      content_ended = record {
        obeys = content_obeys p tape se then low room;
        table = table_of p tape se then low room
            ∙ (λ i. after p (after p (after p (table_is i) FinalLifts) (Writes ((ap (map (leaf_write p tape)) (sym fs_ids) ∙ leaves_ids p tape fs all_fit) i))) Refill);
        entries = entries_are;
        within = up_low;
        ranks = ranks_are;
        homes = λ u. sym (home_is p tape se then low room u) ∙ (λ i. cond (up_is u i) (1 - home_is p tape s stays low room u i) (home_is p tape s stays low room u i));
        others = others_are;
      }

      pub end_draws : suc s.epoch < 2 ^ 62 → seals + seals_for_end p t0 ≤ 2 ^ 62 → RingDraws p h (vaults.End writes) (fills_with_lifts p h.content h.records) (hidden_in p tape se (seals + seals_for_end p t0))
      end_draws epochs few_seals = record {
        all = omega (arith, ok.0, ap (λ (log : List LifeBatch). length log) (here.life).log, length-map h.records life_batch);
        epochs = epochs;
        few_writes = few_writes;
        words = words;
        many = words_many;
        few = omega (arith, few, first_is);
        few_rows = (let c = count_by-le-length (λ i. in_stash ((after p (after p (after p t0 FinalLifts) (Writes (leaf_writes fs))) Refill).rows i)) (below p.keys) in omega (arith, c, length-range_with_len 0 p.keys));
        few_seals = few_seals;
        fills = refl;
        ended = content_ended;
        epoch = omega arith;
        none = refl;
        generation = refl;
        grows = ap (words_hidden p tape (record { generation = s.generation; place = 0 })) drawn_is ∙ words_more p tape s.generation s.drawn (words_for_end p t0);
        sealed = refl;
      }
