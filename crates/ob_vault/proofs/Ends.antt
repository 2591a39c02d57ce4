-- What an end draws is what a life shows.
use Rattle.std.specs.Prelude.{◌≡◌, ℕ, ◌+◌, ◌-◌, ◌<◌, ◌≤◌, ◌^◌, Bool, true, false, cond, List, [], ◌∷◌, ◌++◌, map, take, length, slice_index, Option, Some}
use Rattle.std.proofs.Common.{arith, length-append, refl, sym, ap, subst, ◌∙◌, inl, inr}
use Rattle.std.proofs.lemmas.Bool.{true≢false}
use Rattle.std.proofs.lemmas.List.{append-nil, get_or-append-add, get_or-take, length-map}
use Rattle.ob_base.specs.Repeats.{Has}
use Rattle.ob_base.specs.Tree.{buckets, width}
use Rattle.ob_base.specs.declared.params.Params.{Params}
use Rattle.ob_base.specs.declared.value.Write.{Write}
use Rattle.ob_tables.specs.Buckets.{version_at}
use Rattle.ob_tables.specs.Rank.{IsRanking}
use Rattle.ob_end.specs.EndRuns.{end_writes, words_for_end}
use Rattle.ob_stand.proofs.Counts.{slots_rank}
use Rattle.ob_recover.specs.Life.{AreDrawn, End as EndAct, IsLife, LifeAct, LifeBatch, LifeState, ShowLifts, SlotFill, WordId, book_after_log, book_now, is_table_lifted, lift_slots, life_step, reached, table_now}
use Rattle.ob_log.specs.Logs.{BatchRecord, RecordsFit}
use Rattle.ob_recover.specs.Repeats.{entries_after_records}
use Rattle.ob_ring.proofs.Members.{off_unless, one_of-filter}
use Rattle.ob_ring.specs.FlatTable.{FinalLifts, FlatTable, Refill, Writes, after, refill_order}
use Rattle.ob_fresh.specs.Drawn.{EndDrawsNext, WordsKept}
use Rattle.ob_vault.proofs.Ids.{Fits, records_fit, records_ids}
use Rattle.ob_vault.proofs.InTurn.{end_next}
use Rattle.ob_vault.proofs.Writing.{AreAllFit, leaves_ids, writes_drawn, writes_fit, written_fit, written_ids}
use Rattle.ob_vault.specs.Acts.{AreTapeWords, id_write}
use Rattle.ob_vault.specs.Hidden.{DrawsEnd, RingHidden, table_hidden}
use Rattle.ob_recover.proofs.Living.{lives_show_fills}
use Rattle.ob_recover.specs.Known.{slot_kept}
use Rattle.ob_recover.specs.Lives.{IsLifeAt, LifeShowsFills, life_batch, word_kept}
use Rattle.ob_vault.specs.RingVaults.{write_from}
use Rattle.ob_schedule.specs.Paths.{by_falling_level, is_one_of}
use Rattle.ob_schedule.specs.Schedule.{Fills}
use Rattle.ob_serial.specs.Vaults.{End}
use Rattle.ob_tables.specs.Kept.{entry_at}
use Rattle.ob_tables.specs.declared.entry.Entry.{Entry}
use Rattle.ob_vault.specs.Shown.{AreFilledBy, IsInLife}

has_map : {A B : Type 0} (f : A → B) (xs : List A) (x : A) → Has xs x → Has (map f xs) (f x)
has_map f [] x none = absurd none
has_map f (y ∷ xs) x (inl is) = inl (ap f is)
has_map f (y ∷ xs) x (inr has) = inr (has_map f xs x has)

cond_by : (b : Bool) (f g : ℕ → ℕ) (j z : ℕ) → (b ≡ true → f j ≡ z) → (b ≡ false → g j ≡ z) → cond b f g j ≡ z
cond_by true f g j z one two = one refl
cond_by false f g j z one two = two refl

fit_none : (p : Params) (rs : List BatchRecord) → rs ≡ [] → RecordsFit p rs
fit_none p rs is = subst (λ (l : List BatchRecord). RecordsFit p l) (sym is) (record { few = omega arith; each = λ b lt. absurd (omega (arith, lt)) })

module _ (p : Params) (word_of : WordId → ℕ) (s : LifeState) (h : RingHidden) (here : IsInLife p word_of h s) (ws : List (ℕ × Option (List ℕ))) (f : Fills) (behind : RingHidden) (d : DrawsEnd p h (map write_from ws) f behind)
    (tape : AreTapeWords word_of h.generation (h.words ++ d.words)) where
  abbrev writes : List Write
  writes = map write_from ws

  abbrev first : ℕ
  first = length h.words

  abbrev fs : List (Write × Entry)
  fs = end_writes p writes d.words h.generation first

  abbrev t0 : FlatTable
  t0 = table_hidden p h

  abbrev lifted : LifeState
  lifted = life_step p word_of s ShowLifts

  abbrev the_end : LifeAct
  the_end = EndAct (map id_write fs) (length behind.words) (slot_kept behind.content)

  abbrev pub acts : List LifeAct
  acts = ShowLifts ∷ the_end ∷ []

  abbrev ended : LifeState
  ended = life_step p word_of lifted the_end

  abbrev entries : ℕ → Option Entry
  entries = entries_after_records p (λ i. entry_at (h.content).book i) h.records

  shows : LifeShowsFills p word_of h.content h.records s
  shows = lives_show_fills p word_of h.content h.records s here.obeys here.fit here.life

  table_is : table_now p word_of s ≡ t0
  table_is = shows.table

  log_many : length s.log ≡ length h.records
  log_many = ap (λ (log : List LifeBatch). length log) (here.life).log ∙ length-map h.records life_batch

  all_logged : length s.log ≡ p.batches
  all_logged = log_many ∙ d.all

  many : length behind.words ≡ first + words_for_end p t0
  many = ap (λ (l : List ℕ). length l) d.grows ∙ length-append h.words d.words ∙ ap (λ n. first + n) d.many

  own_word : (i : ℕ) → i < length writes → word_of (record { generation = h.generation; place = first + i }) ≡ slice_index (take p.writes d.words) i
  own_word i lt =
      tape (first + i) (let all = d.many in let few = d.few_writes in omega (arith, all, lt, few, length-append h.words d.words))
      ∙ get_or-append-add h.words d.words i 0
      ∙ sym (get_or-take p.writes d.words i 0 (let few = d.few_writes in omega (arith, lt, few)))

  all_fit : AreAllFit p word_of fs
  all_fit = writes_fit p word_of writes (take p.writes d.words) h.generation first (length writes) (let low = d.few in let few = d.few_writes in omega (arith, low, few)) own_word

  small_records : (r : BatchRecord) → Has h.records r → r.first + length r.asks ≤ 2 ^ 64
  small_records r has = here.small (life_batch r) (subst (λ (log : List LifeBatch). Has log (life_batch r)) (sym (here.life).log) (has_map life_batch h.records r has))

  book_is : (k : ℕ) → book_now p word_of s k ≡ word_kept (entries k)
  book_is k =
      ap (λ (log : List LifeBatch). book_after_log p word_of (s.content).book log k) (here.life).log
      ∙ records_ids p word_of h.records (λ i. entry_at (h.content).book i) (s.content).book small_records (here.life).book k

  old_fit : (k : ℕ) (e : Entry) → entries k ≡ Some e → Fits p word_of e
  old_fit k e is = records_fit p word_of h.records (λ i. entry_at (h.content).book i) small_records (here.life).words (here.life).kept k e is

  is_down : (u : ℕ) → is_table_lifted p word_of lifted u ≡ false → is_one_of (refill_order p (after p t0 FinalLifts)) u ≡ false
  is_down u down =
      let off : (after p t0 FinalLifts).lifted u ≡ false = ap (λ (t : FlatTable). (after p t FinalLifts).lifted u) (sym table_is) ∙ down in
      off_unless (is_one_of (refill_order p (after p t0 FinalLifts)) u) (λ on. true≢false (sym (one_of-filter (after p t0 FinalLifts).lifted (by_falling_level (p.levels + 1)) u on).0 ∙ off))

  kept_slot : (u j : ℕ) → u < buckets p → j < width p → is_table_lifted p word_of lifted u ≡ false → (s.content).slot u j ≡ slot_kept behind.content u j
  kept_slot u j low few_slots down = (here.life).slots u j low few_slots ∙ ap (λ (ranks : List ℕ). slice_index ranks j) (sym ((d.ended).others u (is_down u down)))

  life_ended : IsLifeAt p word_of behind.content [] ended
  life_ended = record {
    table = (λ i. after p (after p (after p (table_is i) FinalLifts) (Writes (leaves_ids p word_of fs all_fit i))) Refill) ∙ sym (d.ended).table;
    slots = λ u j low few_slots. cond_by (is_table_lifted p word_of lifted u) (slot_kept behind.content u) ((s.content).slot u) j (slot_kept behind.content u j) (λ up. refl) (λ down. kept_slot u j low few_slots down);
    homes = λ u.
        (λ i. cond ((after p (table_is i) FinalLifts).lifted u) (1 - (here.life).homes u i) ((here.life).homes u i))
        ∙ sym ((d.ended).homes u);
    book = λ k. written_ids p word_of fs entries (book_now p word_of s) book_is k ∙ ap word_kept (sym ((d.ended).entries k));
    kept = λ k e is. written_fit p word_of fs entries all_fit old_fit k e (sym ((d.ended).entries k) ∙ is);
    log = refl;
    words = λ r none. absurd none;
  }

  ranking : (u : ℕ) → is_table_lifted p word_of lifted u ≡ true → IsRanking (p.real + p.dummies) (slot_kept behind.content u)
  ranking u up =
      let low : u < buckets p = (d.ended).within u (ap (λ (t : FlatTable). (after p t FinalLifts).lifted u) (sym table_is) ∙ up) in
      let v = version_at (behind.content).versions u in
      let obeys = ((d.ended).obeys).versions u low in
      subst (λ n. IsRanking n (slot_kept behind.content u)) (obeys.slots).ranks (slots_rank v obeys.ranks)

  words_drawn : AreDrawn p word_of s.generation s.drawn (map id_write fs) (length behind.words)
  words_drawn = subst (λ n. AreDrawn p word_of n s.drawn (map id_write fs) (length behind.words)) (sym here.generation)
      (subst (λ n. AreDrawn p word_of h.generation n (map id_write fs) (length behind.words)) (sym here.drawn)
      (writes_drawn p word_of writes (take p.writes d.words) h.generation first (length writes) (length behind.words)
      (let all = many in let few = d.few_writes in omega (arith, all, few)) (let all = many in let low = d.few in omega (arith, all, low))))

  -- the words are the next ones
  pub end_turn : (k : WordsKept) → k.drawn ≡ s.drawn → EndDrawsNext p word_of lifted k (map id_write fs) (length behind.words) (slot_kept behind.content)
  end_turn k so_far =
      end_next p word_of t0 h.generation first h.words d.words refl behind.content writes d.few_writes d.many d.few (d.ended).within (d.ended).ranks tape
      lifted k table_is here.generation (so_far ∙ here.drawn) (length behind.words) many

  pub end_life : IsLife p word_of s acts
  end_life = ((all_logged, here.begun ∙ all_logged), ((refl, all_logged, words_drawn, ranking), tt))

  pub end_then : IsInLife p word_of behind (reached p word_of s acts)
  end_then = record {
    obeys = (d.ended).obeys;
    fit = fit_none p behind.records d.none;
    life = subst (λ (rs : List BatchRecord). IsLifeAt p word_of behind.content rs ended) (sym d.none) life_ended;
    small = λ b none. absurd none;
    epoch = (let was = here.epoch in let now = d.epoch in omega (arith, was, now));
    generation = here.generation ∙ sym d.generation;
    drawn = refl;
    begun = refl;
  }

  pub end_filled : AreFilledBy p word_of s acts (End ws) f
  end_filled = record {
    labels = refl;
    slots = λ x has.
        shows.lifts x (subst (λ (xs : List SlotFill). Has xs x) (append-nil (lift_slots p word_of (s.epoch + 1) s.content (table_now p word_of s))) has)
        ∙ ap (λ (y : Fills). y.slot (record { bucket = x.bucket; number = x.number })) (sym d.fills);
  }
