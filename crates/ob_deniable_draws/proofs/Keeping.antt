-- Each act keeps what a state keeps.
use Rattle.std.specs.Prelude.{◌≡◌, ℕ, ◌+◌, ◌-◌, ◌^◌, ◌<◌, ◌≤◌, ◌==◌, nat_le, Bool, true, false, cond, not, ◌&&◌, List, [], ◌∷◌, map, length, Option, None}
use Rattle.std.proofs.Common.{arith, refl, sym, ap, subst, ◌∙◌, inl, inr, ◌⊎◌, length-append}
use Rattle.std.proofs.Math.Nat.{mod-lt}
use Rattle.std.proofs.lemmas.Bool.{and_parts, cases_Bool, eqb-true, false≢true, lt-leb, ne_eqb, or_cases, or_parts, true≢false}
use Rattle.std.proofs.lemmas.Nat.{pow_pos}
use Rattle.ob_base.proofs.Repeats.{has_cases}
use Rattle.ob_base.specs.Repeats.{Has}
use Rattle.ob_base.specs.Tree.{buckets, width}
use Rattle.ob_base.specs.declared.params.Params.{Params}
use Rattle.ob_fresh.specs.Drawn.{AreNextPuts}
use Rattle.ob_log.specs.Logs.{BatchRecord}
use Rattle.ob_recover.proofs.BookLaws.{IsBookOf, book_batch, book_end}
use Rattle.ob_recover.proofs.EndLaws.{EndLaw, count_ended, end_law, ended_table, used_final}
use Rattle.ob_recover.proofs.Fills.{RecordsLead, content_leads}
use Rattle.ob_recover.proofs.LabelLaws.{put_from, put_is, rebound_from}
use Rattle.ob_recover.proofs.LifeSlots.{AreSlotsSound, puts_low, slots_keep}
use Rattle.ob_recover.proofs.Living.{lives_show_fills}
use Rattle.ob_recover.proofs.Tree.{records_in_tree}
use Rattle.ob_recover.specs.Known.{picks_of_records}
use Rattle.ob_recover.specs.Life.{Append, End, IsActAllowed, LifeBatch, LifeState, Open, ShowBatch, ShowLifts, WordId, batch_places, book_after, book_after_log, book_now, book_written, ended_content, is_table_lifted, leaf_write, leaves, life_step, next_word, table_after, table_now, with_words}
use Rattle.ob_recover.specs.Lives.{LifeShowsFills}
use Rattle.ob_recover.specs.Repeats.{table_after_records}
use Rattle.ob_ring.proofs.Batches.{FinalLaw, final_law}
use Rattle.ob_ring.proofs.Members.{one_of-filter_from}
use Rattle.ob_ring.proofs.Refills.{FillsLaw, in_levels, refill_law, sound_writes, writes_keep}
use Rattle.ob_ring.specs.FlatTable.{FinalLifts, FlatTable, Shown, after, after_batch, after_final, after_label, after_writes, asks_for, rebound, refill_order}
use Rattle.ob_ring.specs.Laws.{seen_in}
use Rattle.ob_ring.specs.News.{Marks, Seen, with_all, with_shown}
use Rattle.ob_ring.specs.Sound.{IsSound}
use Rattle.ob_schedule.specs.Paths.{by_falling_level, eviction_path, is_one_of}
use Rattle.ob_stand.proofs.Counts.{fills_counter, writes_counter}
use Rattle.ob_stand.specs.Counts.{public_of}
use Rattle.ob_stand.specs.Table.{flat_of}
use Rattle.ob_tables.specs.Content.{Content, Obeys}
use Rattle.ob_tables.specs.Rank.{IsRanking}
use Rattle.ob_vault.specs.Acts.{IsBatchSmall}
use Rattle.ob_deniable_draws.proofs.Contents.{content_hidden, records_hidden}
use Rattle.ob_deniable_draws.specs.Fit.{AreAsksFit, AreWritesLow}
use Rattle.ob_deniable_draws.proofs.Obeying.{IsReady}
use Rattle.ob_deniable_draws.proofs.Stays.{AreFrom, Stays, content_obeys, life_at, records_fit, table_of}

pub in_levels_too : (p : Params) (u : ℕ) → u < buckets p → u < 2 ^ (p.levels + 1) - 1
unfolding buckets
in_levels_too p u low = low

-- what was shown was shown before, or is among these
abbrev IsAmong : List Shown → ℕ → ℕ → Type 0
IsAmong ss u j = (s : Shown) × Has ss s × (s.bucket ≡ u) × (s.index ≡ j)

among_more : (x : Shown) (ss : List Shown) (u j : ℕ) → IsAmong ss u j → IsAmong (x ∷ ss) u j
among_more x ss u j (s, has, bucket, index) = (s, inr has, bucket, index)

all_shown : (seen : Seen) (ss : List Shown) (u j : ℕ) → (with_all seen ss).shown u j ≡ true → (seen.shown u j ≡ true) ⊎ IsAmong ss u j
all_shown seen [] u j on = inl on
all_shown seen (x ∷ ss) u j on = elim (all_shown (with_shown seen x) ss u j on) [
  | inl first ↦ elim (or_cases ((u == x.bucket) && (j == x.index)) (seen.shown u j) first) [
    | inl here ↦ inr (let both = and_parts (u == x.bucket) (j == x.index) here in (x, inl refl, sym (eqb-true u x.bucket both.0), sym (eqb-true j x.index both.1)))
    | inr before ↦ inl before
  ]
  | inr later ↦ inr (among_more x ss u j later)
]

cond_low : (b : Bool) (h : ℕ) → h < 2 → cond b (1 - h) h < 2
cond_low true h low = omega arith
cond_low false h low = low

cond_none : (b : Bool) (h : ℕ) → b ≡ false → h ≡ 0 → cond b (1 - h) h ≡ 0
cond_none true h off none = absurd (true≢false off)
cond_none false h off none = none

cond_ranked : (n : ℕ) (b : Bool) (new old : ℕ → ℕ) → (b ≡ true → IsRanking n new) → IsRanking n old → IsRanking n (cond b new old)
cond_ranked n true new old one two = one refl
cond_ranked n false new old one two = two

not_true : (b : Bool) → not b ≡ true → b ≡ true → ⊥
not_true true e f = false≢true e
not_true false e f = false≢true f

module _ (p : Params) (tape : WordId → ℕ) (some : 0 < p.dummies) where
  from_more : (g g' : ℕ) (book : ℕ → Option WordId) → g ≤ g' → AreFrom p tape g book → AreFrom p tape g' book
  from_more g g' book le from k w e = (let h = (from k w e).0 in omega arith, (from k w e).1)

  pub open_stays : (s : LifeState) (g : ℕ) → IsActAllowed p tape s (Open g) → Stays p tape s → Stays p tape (life_step p tape s (Open g))
  open_stays s g ok stays =
      let more : s.generation < g = ok in
      record {
        ready = stays.ready;
        held = from_more s.generation g s.content.book (omega arith) stays.held;
        logged = λ b has. (let h = (stays.logged b has).0 in omega arith, (stays.logged b has).1, (stays.logged b has).2);
        few = stays.few;
        slots = slots_keep p tape some s (Open g) ok stays.slots;
      }

  pub append_stays : (s : LifeState) (r : LifeBatch) → IsActAllowed p tape s (Append r) → IsBatchSmall r → AreAsksFit p r.asks → Stays p tape s → Stays p tape (life_step p tape s (Append r))
  append_stays s r ok small fit stays =
      let room : length s.log < p.batches = ok.0 in
      let own : r.first.generation ≡ s.generation = ok.1 in
      record {
        ready = stays.ready;
        held = stays.held;
        logged = λ b has. elim (has_cases s.log (r ∷ []) b has) [
          | inl was ↦ stays.logged b was
          | inr now ↦ elim now [
            | inl is ↦ subst (λ (x : LifeBatch). (x.first.generation ≤ s.generation) × IsBatchSmall x × AreAsksFit p x.asks) is (omega arith, small, fit)
            | inr none ↦ absurd none
          ]
        ];
        few = omega (arith, length-append s.log (r ∷ []));
        slots = slots_keep p tape some s (Append r) ok stays.slots;
      }

  pub show_stays : (s : LifeState) → IsActAllowed p tape s ShowBatch → Stays p tape s → Stays p tape (life_step p tape s ShowBatch)
  show_stays s ok stays = record { ready = stays.ready; held = stays.held; logged = stays.logged; few = stays.few; slots = slots_keep p tape some s ShowBatch ok stays.slots }

  pub lifts_stay : (s : LifeState) → IsActAllowed p tape s ShowLifts → Stays p tape s → Stays p tape (life_step p tape s ShowLifts)
  lifts_stay s ok stays = record { ready = stays.ready; held = stays.held; logged = stays.logged; few = stays.few; slots = slots_keep p tape some s ShowLifts ok stays.slots }

  -- ---- books

  places_none : (book : ℕ → Option WordId) (places : List (Option ℕ × WordId)) (k : ℕ) → book k ≡ None → book_after book places k ≡ None
  places_none book [] k none = none
  places_none book (a ∷ rest) k none = places_none (after_label book a.0 a.1) rest k (ap (λ (o : Option WordId). rebound (asks_for a.0 k) a.1 o) none)

  log_none : (book : ℕ → Option WordId) (log : List LifeBatch) (k : ℕ) → book k ≡ None → book_after_log p tape book log k ≡ None
  log_none book [] k none = none
  log_none book (r ∷ log) k none = log_none (book_after book (batch_places r)) log k (places_none book (batch_places r) k none)

  written_none : (book : ℕ → Option WordId) (ws : List (ℕ × Option WordId)) (k : ℕ) → p.keys ≤ k → AreWritesLow p ws → book k ≡ None → book_written p tape book ws k ≡ None
  written_none book [] k high keys none = none
  written_none book (w ∷ ws) k high keys none =
      let other : (k == w.0) ≡ false = ne_eqb k w.0 (λ e. (let low : w.0 < p.keys = keys.0 in omega arith)) in
      written_none (λ i. cond (i == w.0) w.1 (book i)) ws k high keys.1 (ap (λ (b : Bool). cond b w.1 (book k)) other ∙ none)

  places_from : (g : ℕ) (book : ℕ → Option WordId) (first : WordId) (asks : List (Option ℕ)) → first.generation ≤ g → first.place + length asks ≤ 2 ^ 64 → AreFrom p tape g book → AreFrom p tape g (book_after book (with_words first asks))
  places_from g book first [] old small from = from
  places_from g book first (a ∷ asks) old small from =
      places_from g (after_label book a first) (next_word first) asks old (omega arith)
      (λ k w e. elim (rebound_from (asks_for a k) first (book k) w e) [
        | inl now ↦ subst (λ (v : WordId). (v.generation ≤ g) × (v.place < 2 ^ 64)) now.1 (old, omega arith)
        | inr was ↦ from k w was.1
      ])

  log_from : (g : ℕ) (book : ℕ → Option WordId) (log : List LifeBatch) → ((b : LifeBatch) → Has log b → (b.first.generation ≤ g) × IsBatchSmall b) → AreFrom p tape g book → AreFrom p tape g (book_after_log p tape book log)
  log_from g book [] each from = from
  log_from g book (r ∷ log) each from = log_from g (book_after book (batch_places r)) log (λ b has. each b (inr has)) (places_from g book r.first r.asks (each r (inl refl)).0 (each r (inl refl)).1 from)

  written_from : (g n : ℕ) (book : ℕ → Option WordId) (ws : List (ℕ × Option WordId)) → AreNextPuts (record { generation = g; place = n }) ws → n + length ws ≤ 2 ^ 64 → AreFrom p tape g book → AreFrom p tape g (book_written p tape book ws)
  written_from g n book [] next small from = from
  written_from g n book (x ∷ ws) next small from =
      written_from g (n + 1) (λ k. cond (k == x.0) x.1 (book k)) ws next.1 (omega arith)
      (λ k w e. elim (put_from (k == x.0) x.1 (book k) w e) [
        | inl put ↦ subst (λ (v : WordId). (v.generation ≤ g) × (v.place < 2 ^ 64)) (sym (put_is x.1 (record { generation = g; place = n }) w next.0 put.1)) (omega arith, omega arith)
        | inr was ↦ from k w was.1
      ])

  pub booked_log : (t : FlatTable) (book : ℕ → Option WordId) (log : List LifeBatch) → IsBookOf p tape t book → IsBookOf p tape (table_after p tape t log) (book_after_log p tape book log)
  booked_log t book [] is = is
  booked_log t book (r ∷ log) is = booked_log (after_batch p t (leaves p tape (batch_places r))) (book_after book (batch_places r)) log (book_batch p tape t book (batch_places r) is)

  -- ---- an end

  module _ (s : LifeState) (ws : List (ℕ × Option WordId)) (drawn n : ℕ) (slot : ℕ → ℕ → ℕ) (ok : IsActAllowed p tape s (End ws drawn slot)) (stays : Stays p tape s) (low : s.generation < 2 ^ 64) (room : p.keys ≤ p.room)
      (keys : AreWritesLow p ws) (puts : AreNextPuts (record { generation = s.generation; place = n }) ws) (small : n + length ws ≤ 2 ^ 64) (lifted_low : (u : ℕ) → is_table_lifted p tape s u ≡ true → u < buckets p) where
    abbrev t : FlatTable
    t = table_now p tape s

    abbrev leaf_ws : List (ℕ × Option ℕ)
    leaf_ws = map (leaf_write p tape) ws

    abbrev inv : AreSlotsSound p tape s
    inv = stays.slots

    law : EndLaw p t inv.count inv.seen leaf_ws
    law = end_law p some t inv.count inv.seen leaf_ws inv.sound inv.counted inv.low (puts_low p tape ws) inv.bound
        (subst (λ (b : Bool). Marks p (cond b (after_final p t (eviction_path p t.counter)) t) inv.seen) ok.0 inv.marks)

    -- ---- which indexes were shown

    abbrev C : Content
    C = content_hidden p tape s.content

    abbrev rs : List BatchRecord
    rs = records_hidden p tape 0 s.log

    obeying : Obeys p C
    obeying = content_obeys p tape s stays low room

    shows : LifeShowsFills p tape C rs s
    shows = lives_show_fills p tape C rs s obeying (records_fit p tape s.log stays.few (λ r has. (stays.logged r has).2)) (life_at p tape s stays low room)

    lead : RecordsLead p (flat_of p C) (public_of C 0 (λ cell. false)) (seen_in p (flat_of p C)) rs
    lead = content_leads p C 0 (λ cell. false) rs obeying

    used_now : (u j : ℕ) → t.lifted u ≡ false → t.used u j ≡ true → (u < buckets p) × (j < width p)
    used_now u j down on =
        let down' : (table_after_records p (flat_of p C) rs).lifted u ≡ false = ap (λ (x : FlatTable). x.lifted u) (sym shows.table) ∙ down in
        let shown : (with_all (seen_in p (flat_of p C)) (picks_of_records p (flat_of p C) rs)).shown u j ≡ true =
        lead.marks.shown_is u j down' ∙ ap (λ (x : FlatTable). x.used u j) (sym shows.table) ∙ on in
        elim (all_shown (seen_in p (flat_of p C)) (picks_of_records p (flat_of p C) rs) u j shown) [
          | inl first ↦ stays.ready.used u j (ap (λ (x : FlatTable). x.used u j) (sym (table_of p tape s stays low room)) ∙ first)
          | inr (x, has, bucket, index) ↦ (
              let at = records_in_tree p C rs obeying x has in
              (subst (λ (v : ℕ). v < buckets p) bucket at.0, subst (λ (i : ℕ). i < width p) index at.1))
        ]

    abbrev tf : FlatTable
    tf = after p t FinalLifts

    abbrev t3 : FlatTable
    t3 = after_writes tf leaf_ws

    fin : FinalLaw p t inv.count (λ u. false) (eviction_path p t.counter)
    fin = final_law p t inv.count (λ u. false) (eviction_path p t.counter) inv.sound (record { lifted_is = inv.counted.lifted_is; reads_is = inv.counted.reads_is })

    sound_tf : IsSound p tf
    sound_tf = record { placed = λ k u j e. (let at = fin.sound.placed k u j e in record { real = at.real; on_path = at.on_path; unread = at.unread; standing = at.standing }); alone = fin.sound.alone }

    refilled : FillsLaw p t3 (refill_order p t3)
    refilled = refill_law p t3 (sound_writes p tf leaf_ws sound_tf)

    lifted_3 : (u : ℕ) → t3.lifted u ≡ tf.lifted u
    lifted_3 u = ap (λ (f : ℕ → Bool). f u) (writes_keep tf leaf_ws).1

    used_3 : (u j : ℕ) → t3.used u j ≡ t.used u j
    used_3 u j = ap (λ (f : ℕ → ℕ → Bool). f u j) ((writes_keep tf leaf_ws).0 ∙ used_final p t (eviction_path p t.counter))

    used_ended : (u j : ℕ) → (ended_table p t leaf_ws).used u j ≡ true → (u < buckets p) × (j < width p)
    used_ended u j on =
        let both = and_parts (not (is_one_of (refill_order p t3) u)) (t3.used u j) (sym (refilled.used_is u j) ∙ on) in
        let was : t.used u j ≡ true = sym (used_3 u j) ∙ both.1 in
        elim (cases_Bool (tf.lifted u)) [
          | inl up ↦ absurd (not_true (is_one_of (refill_order p t3) u) both.0
              (one_of-filter_from t3.lifted (by_falling_level (p.levels + 1)) u (lifted_3 u ∙ up) (in_levels (p.levels + 1) u (in_levels_too p u (lifted_low u up)))))
          | inr down ↦ (
              let off = or_parts (is_one_of (eviction_path p t.counter) u) (nat_le p.dummies (inv.count u)) (sym (fin.lifted_is u) ∙ down) in
              used_now u j (inv.counted.lifted_is u ∙ off.1) was)
        ]

    not_lifted : (u : ℕ) → buckets p ≤ u → is_table_lifted p tape s u ≡ false
    not_lifted u high = elim (cases_Bool (is_table_lifted p tape s u)) [ inl on ↦ absurd (let l : u < buckets p = lifted_low u on in omega arith) | inr off ↦ off ]

    pub ready_ended : IsReady p tape (ended_content p tape s ws slot)
    ready_ended = record {
      sound = law.sound;
      few = λ u. (let f = law.few u in let c = law.counted.reads_is u f in omega arith);
      down = λ u. law.counted.lifted_is u ∙ lt-leb p.dummies (count_ended p t inv.count u) (law.few u);
      low = law.low;
      counter = subst (λ (m : ℕ). m < 2 ^ p.levels) (sym (fills_counter p t3 (refill_order p t3) ∙ writes_counter tf leaf_ws)) (mod-lt (t.counter + p.evictions) (pow_pos p.levels));
      booked = book_end p tape t (book_now p tape s) ws (booked_log s.content.table s.content.book s.log stays.ready.booked);
      keys = λ k high. written_none (book_now p tape s) ws k high keys (log_none s.content.book s.log k (stays.ready.keys k high));
      used = used_ended;
      home = λ u. cond_low (is_table_lifted p tape s u) (s.content.home u) (stays.ready.home u);
      home_out = λ u high. cond_none (is_table_lifted p tape s u) (s.content.home u) (not_lifted u high) (stays.ready.home_out u high);
      ranked = λ u. cond_ranked (width p) (is_table_lifted p tape s u) (slot u) (s.content.slot u) (ok.3 u) (stays.ready.ranked u);
    }

    pub end_stays : Stays p tape (life_step p tape s (End ws drawn slot))
    end_stays = record {
      ready = ready_ended;
      held = written_from s.generation n (book_now p tape s) ws puts small (log_from s.generation s.content.book s.log (λ b has. ((stays.logged b has).0, (stays.logged b has).1)) stays.held);
      logged = λ b has. absurd has;
      few = omega arith;
      slots = slots_keep p tape some s (End ws drawn slot) ok stays.slots;
    }
