-- An end as a call of a life.
use Rattle.std.specs.Prelude.{◌≡◌, ◌⊎◌, ℕ, suc, ◌+◌, ◌-◌, ◌<◌, ◌≤◌, ◌^◌, Bool, true, false, cond, List, [], ◌∷◌, ◌++◌, map, take, length, slice_index, Option, None, Some, Result, Ok, Err}
use Rattle.std.proofs.Common.{arith, length-append, refl, sym, ap, subst, ◌∙◌, inl, inr, ⊎_elim}
use Rattle.std.proofs.lemmas.Bool.{false≢true, true≢false}
use Rattle.std.proofs.lemmas.List.{get_or-append-add, get_or-take, length-map}
use Rattle.ob_base.specs.Repeats.{Has}
use Rattle.ob_base.specs.Tree.{buckets, width}
use Rattle.ob_base.specs.declared.fault.Fault.{Fault}
use Rattle.ob_base.specs.declared.params.Params.{Params}
use Rattle.ob_base.specs.declared.value.Write.{Write}
use Rattle.ob_tables.specs.Buckets.{version_at}
use Rattle.ob_tables.specs.Rank.{IsRanking}
use Rattle.ob_tables.specs.Content.{Content}
use Rattle.ob_end.specs.EndRuns.{AreEntriesWritten, EndImages, IsAtContent, MayEndEpoch, TakeBucketWords, standing_at_end, table_ended, words_for_end}
use Rattle.ob_stand.proofs.Counts.{slots_rank}
use Rattle.ob_stand.specs.Table.{flat_of}
use Rattle.ob_fetch.specs.Fetches.{DrawsWords, RunIsAt, words_since}
use Rattle.ob_fetch.proofs.NextLaws.{stands_listed}
use Rattle.ob_recover.specs.Life.{AreDrawn, Append, End as EndAct, IsActAllowed, LifeAct, LifeBatch, LifeState, ShowLifts, WordId, book_now, book_after_log, is_table_lifted, life_step, table_now}
use Rattle.ob_log.specs.Logs.{BatchRecord, OpenRecords, RecordsFit}
use Rattle.ob_recover.specs.Repeats.{content_of_ring, table_after_records}
use Rattle.ob_ring.proofs.Members.{off_unless, one_of-filter}
use Rattle.ob_ring.specs.FlatTable.{FinalLifts, FlatTable, Refill, Writes, after, refill_order}
use Rattle.ob_ring.specs.Ring.{StandsFor}
use Rattle.ob_recover.proofs.Living.{lives_show_fills}
use Rattle.ob_recover.proofs.Once.{table_once}
use Rattle.ob_recover.specs.Known.{slot_kept}
use Rattle.ob_recover.specs.Lives.{IsLifeAt, life_batch, word_kept}
use Rattle.ob_vault.specs.RingVaults.{EndCalled, Running, write_from, writes_of_end}
use Rattle.ob_schedule.specs.Paths.{by_falling_level, is_one_of}
use Rattle.ob_seal.specs.declared.keys.Keys.{Keys}
use Rattle.ob_serial.specs.Vaults.{End}
use Rattle.ob_serial.specs.declared.vault.EndErr.{EndErr}
use Rattle.ob_serial.specs.declared.vault.EndErr.TheVariants as end
use Rattle.ob_stand.specs.Stands.{OneOf, RingStanding, Stands}
use Rattle.ob_store.specs.Disk.{Clock, Disk, Image, NotAfter}
use Rattle.ob_store.specs.Images.{LeavesOnly}
use Rattle.ob_store.proofs.Moments.{weakened}
use Rattle.ob_store.specs.declared.watch.Note.{Note}
use Rattle.ob_tables.specs.Kept.{entry_at}
use Rattle.ob_tables.specs.declared.entry.Entry.{Entry}
use Rattle.ob_twin.proofs.Moves.{at_the_end}
use Rattle.ob_opening.specs.OpeningActs.{IsLeftAt, StandsInLife}
use Rattle.ob_vault.specs.Acts.{AreTapeWords, IsBatchSmall, IsCallInLife, IsStaged, RunsInLife, id_write}
use Rattle.ob_vault.specs.Stages.{IsStage}
use Rattle.ob_end.specs.Moments.{IsEndInStages}
use Rattle.ob_vault.proofs.Fetching.{at_standing, none_pending, same_act, settled_stands, some_ends}
use Rattle.ob_fresh.proofs.Turns.{all_made}
use Rattle.ob_fresh.specs.Drawn.{DrawsNext, EndDrawsNext, WordsKept}
use Rattle.ob_vault.proofs.Homes.{homes_ended}
use Rattle.ob_vault.proofs.InTurn.{end_next}
use Rattle.ob_vault.proofs.Ids.{Fits, records_fit, records_ids}
use Rattle.ob_vault.proofs.Writing.{AreAllFit, leaves_ids, writes_drawn, writes_fit, written_fit, written_ids}

-- ---- lists and acts

has_map : {A B : Type 0} (f : A → B) (xs : List A) (x : A) → Has xs x → Has (map f xs) (f x)
has_map f [] x none = absurd none
has_map f (y ∷ xs) x (inl is) = inl (ap f is)
has_map f (y ∷ xs) x (inr has) = inr (has_map f xs x has)

cond_by : (b : Bool) (f g : ℕ → ℕ) (j z : ℕ) → (b ≡ true → f j ≡ z) → (b ≡ false → g j ≡ z) → cond b f g j ≡ z
cond_by true f g j z one two = one refl
cond_by false f g j z one two = two refl

no_append_end : (A : Type 0) (ws : List (ℕ × Option WordId)) (n : ℕ) (slot : ℕ → ℕ → ℕ) (b : LifeBatch) → ◌≡◌ {A = Option LifeAct} (Some (EndAct ws n slot)) (Some (Append b)) → A
no_append_end A ws n slot b e = absurd (cc)

-- open records fit
pub records_fit_of : (keys : Keys) (p : Params) (epoch : ℕ) (rs : List BatchRecord) (image : Image) → OpenRecords keys p epoch rs image → RecordsFit p rs
records_fit_of keys p epoch rs image opened = record {
  few = opened.few;
  each = λ b lt. (let o = opened.obey b lt in record { batch_is = o.batch_is; asks_many = o.asks_many; words_many = o.words_many; keys_low = o.keys_low; keys_apart = o.keys_apart });
}

-- ---- the call

module _ {S : Type 0} (disk : S → Disk) (word_of : WordId → ℕ) (s : LifeState) (old new : Running S) (notes : List Note) (ws : List (ℕ × Option (List ℕ))) (runs : RunsInLife word_of s old.run (disk old.store))
    (tape : AreTapeWords word_of ((old.run).sealer).generation new.drawn) (counts_now : (t : Clock) (c : Image) → NotAfter t (disk new.store).moment → (disk new.store).may_leave c → (disk new.store).left_since t c) where
  abbrev p : Params
  p = (old.run).params

  abbrev keys : Keys
  keys = ((old.run).sealer).keys

  abbrev g : ℕ
  g = ((old.run).sealer).generation

  abbrev st : RingStanding
  st = runs.standing

  abbrev writes : List Write
  writes = map write_from ws

  abbrev fs : List (Write × Entry)
  fs = writes_of_end disk old new notes writes

  abbrev then : Content
  then = content_of_ring (new.run).ring

  abbrev t0 : FlatTable
  t0 = table_after_records p (flat_of p st.content) st.records

  abbrev lifted : LifeState
  lifted = life_step p word_of s ShowLifts

  abbrev the_end : LifeAct
  the_end = EndAct (map id_write fs) (new.run).drawn (slot_kept then)

  abbrev ended : LifeState
  ended = life_step p word_of lifted the_end

  under : g ≡ s.generation
  under = ((runs.at).runs).generation_is ∙ runs.generation

  log_many : length s.log ≡ length st.records
  log_many = ap (λ (log : List LifeBatch). length log) (runs.life).log ∙ length-map st.records life_batch

  stands0 : StandsFor (old.run).ring t0
  stands0 = stands_listed (old.run).ring t0 (((runs.at).runs).planner).table

  -- the life's table is the planner's
  table_is : table_now p word_of s ≡ t0
  table_is = (lives_show_fills p word_of st.content st.records s (((runs.at).stands).holds).obeys (records_fit_of keys p (suc st.epoch) st.records (disk old.store).cells (((runs.at).stands).holds).log) runs.life).table

  stands_old : (c : Image) → Stands keys p st c → StandsInLife keys p word_of s c
  stands_old c stands = at_standing keys p word_of st s c stands runs.epoch runs.generation runs.life

  life_lifted : IsLifeAt p word_of st.content st.records lifted
  life_lifted = record { table = (runs.life).table; slots = (runs.life).slots; homes = (runs.life).homes; book = (runs.life).book; kept = (runs.life).kept; log = (runs.life).log; words = (runs.life).words }

  stands_lifted : (c : Image) → Stands keys p st c → StandsInLife keys p word_of lifted c
  stands_lifted c stands = at_standing keys p word_of st lifted c stands runs.epoch runs.generation life_lifted

  -- ---- the lifts may be shown

  module _ (none_left : (old.run).left ≡ 0) where
    all_logged : length s.log ≡ p.batches
    all_logged = let left = ((runs.at).runs).left_are in let many = log_many in omega (arith, left, many, none_left)

    lifts_allowed : IsActAllowed p word_of s ShowLifts
    lifts_allowed = (all_logged, runs.begun ∙ all_logged)

    -- all is made but the set of the register
    pub filling : (a x : S) → LeavesOnly (disk a) (disk x) (Stands keys p st) → IsStage disk keys p word_of s (ShowLifts ∷ [], None) a x
    filling a x all = record {
      is_life = (lifts_allowed, tt);
      small = (runs.small, λ b e. none_pending (IsBatchSmall b) (Append b) e);
      turn = λ k so_far. all_made p word_of s k (ShowLifts ∷ []) (tt, tt);
      leaves = weakened (disk a) (disk x) (Stands keys p st) (IsLeftAt keys p word_of lifted None)
          (λ c stands. record { allowed = λ a e. none_pending (IsActAllowed p word_of lifted a) a e; stands = λ i same. inl (stands_lifted i (subst (Stands keys p st) same stands)) })
          all;
    }

    -- refused before the register's gate was written: the lifts may have been shown
    before_stages : LeavesOnly (disk old.store) (disk new.store) (Stands keys p st) → IsStaged disk word_of old new notes s (End ws) false
    before_stages all = record {
      ends = new.store ∷ [];
      stages = (filling old.store new.store all, inl refl, refl);
      whole = λ yes. absurd (false≢true yes);
      idle = λ none. absurd (some_ends new.store [] none);
    }

    refused_before : (f : Fault) → EndCalled disk old new notes writes (Err (end.Before f)) → LeavesOnly (disk old.store) (disk new.store) (Stands keys p st) → ((c : Image) → (disk new.store).may_leave c → Stands keys p st c)
        → IsCallInLife disk word_of old new notes s (End ws) false
    refused_before f called all images = record {
      made = ShowLifts ∷ [];
      in_flight = None;
      law = record {
        is_life = (lifts_allowed, tt);
        whole = λ yes. absurd (false≢true yes);
        part = inr (the_end ∷ [], refl, inl refl);
        leaves = λ was c left. inl (stands_lifted c (images c left));
      };
      shown = λ b e. none_pending _ (Append b) e;
      shows = inr refl;
      told = λ no. (refl, inl (refl, (f, called)));
      turn = λ k so_far. all_made p word_of s k (ShowLifts ∷ []) (tt, tt);
      left = λ c left. record {
        allowed = λ a e. none_pending (IsActAllowed p word_of lifted a) a e;
        stands = λ i same. inl (stands_lifted i (images i (subst (disk new.store).may_leave same left)));
      };
      staged = before_stages all;
      small = (runs.small, λ b e. none_pending (IsBatchSmall b) (Append b) e);
      onward = λ yes. absurd (false≢true yes);
    }

    -- ---- all was written

    module _ (was_drawn : (old.run).drawn ≡ length old.drawn) (drawn : (new.run).drawn ≡ length new.drawn) (few : length writes ≤ p.writes) (may : MayEndEpoch p t0 (old.run).epoch (old.run).drawn ((old.run).sealer).next fs)
        (draws : DrawsWords (words_for_end p t0) old.drawn new.drawn) (table : StandsFor (new.run).ring (table_ended p t0 fs)) (entries : AreEntriesWritten fs (old.run).ring (new.run).ring)
        (filled : TakeBucketWords p t0 (words_since old.drawn new.drawn) g ((old.run).sealer).next (old.run).ring (new.run).ring) (content : IsAtContent p (new.run).ring) where
      abbrev words : List ℕ
      words = words_since old.drawn new.drawn

      many : length new.drawn ≡ (old.run).drawn + words_for_end p t0
      many = let ends = ap (λ (l : List ℕ). length l) draws.words in let some = draws.many_are in omega (arith, ends, some, was_drawn, length-append {A = ℕ})

      few_drawn : (old.run).drawn + words_for_end p t0 ≤ 2 ^ 62
      few_drawn = (may.has).words

      own_word : (i : ℕ) → i < length writes → word_of (record { generation = g; place = (old.run).drawn + i }) ≡ slice_index (take p.writes words) i
      own_word i lt =
          tape ((old.run).drawn + i) (let all = many in omega (arith, all, lt, few))
          ∙ ap (λ (l : List ℕ). slice_index l ((old.run).drawn + i)) draws.words
          ∙ ap (λ n. slice_index (old.drawn ++ words) (n + i)) was_drawn
          ∙ get_or-append-add old.drawn words i 0
          ∙ sym (get_or-take p.writes words i 0 (omega (arith, lt, few)))

      all_fit : AreAllFit p word_of fs
      all_fit = writes_fit p word_of writes (take p.writes words) g (old.run).drawn (length writes) (let low = few_drawn in omega (arith, low, few)) own_word

      small_records : (r : BatchRecord) → Has st.records r → r.first + length r.asks ≤ 2 ^ 64
      small_records r has = runs.small (life_batch r) (subst (λ (log : List LifeBatch). Has log (life_batch r)) (sym (runs.life).log) (has_map life_batch st.records r has))

      -- ---- the entries

      book_is : (k : ℕ) → book_now p word_of s k ≡ word_kept (entry_at ((old.run).ring).book k)
      book_is k =
          ap (λ (log : List LifeBatch). book_after_log p word_of (s.content).book log k) (runs.life).log
          ∙ records_ids p word_of st.records (λ i. entry_at (st.content).book i) (s.content).book small_records (runs.life).book k
          ∙ ap word_kept (sym ((((runs.at).runs).planner).entries k))

      old_fit : (k : ℕ) (e : Entry) → entry_at ((old.run).ring).book k ≡ Some e → Fits p word_of e
      old_fit k e is = records_fit p word_of st.records (λ i. entry_at (st.content).book i) small_records (runs.life).words (runs.life).kept k e (sym ((((runs.at).runs).planner).entries k) ∙ is)

      -- ---- the slots

      is_down : (u : ℕ) → is_table_lifted p word_of lifted u ≡ false → is_one_of (refill_order p (after p t0 FinalLifts)) u ≡ false
      is_down u down =
          let off : (after p t0 FinalLifts).lifted u ≡ false = ap (λ (t : FlatTable). (after p t FinalLifts).lifted u) (sym table_is) ∙ down in
          off_unless (is_one_of (refill_order p (after p t0 FinalLifts)) u) (λ on. true≢false (sym (one_of-filter (after p t0 FinalLifts).lifted (by_falling_level (p.levels + 1)) u on).0 ∙ off))

      kept_slot : (u j : ℕ) → u < buckets p → j < width p → is_table_lifted p word_of lifted u ≡ false → (s.content).slot u j ≡ slot_kept then u j
      kept_slot u j low few_slots down =
          (runs.life).slots u j low few_slots
          ∙ ap (λ (ranks : List ℕ). slice_index ranks j) (sym ((filled.filled).ranks u (is_down u down) ∙ ((((runs.at).runs).planner).seals).ranks u))

      -- ---- the life at the next epoch

      life_ended : IsLifeAt p word_of then [] ended
      life_ended = record {
        table =
            (λ i. after p (after p (after p (table_is i) FinalLifts) (Writes (leaves_ids p word_of fs all_fit i))) Refill)
            ∙ table_once (new.run).ring (table_ended p t0 fs) (flat_of p then) table content.stands;
        slots = λ u j low few_slots. cond_by (is_table_lifted p word_of lifted u) (slot_kept then u) ((s.content).slot u) j (slot_kept then u j) (λ up. refl) (λ down. kept_slot u j low few_slots down);
        homes = λ u.
            (λ i. cond ((after p (table_is i) FinalLifts).lifted u) (1 - (runs.life).homes u i) ((runs.life).homes u i))
            ∙ sym (homes_ended p t0 words g ((old.run).sealer).next (old.run).ring (new.run).ring st.content filled (((runs.at).runs).planner).seals.homes u);
        book = λ k. written_ids p word_of fs (λ i. entry_at ((old.run).ring).book i) (book_now p word_of s) book_is k ∙ ap word_kept (sym (entries k));
        kept = λ k e is. written_fit p word_of fs (λ i. entry_at ((old.run).ring).book i) all_fit old_fit k e (sym (entries k) ∙ is);
        log = refl;
        words = λ r none. absurd none;
      }

      ranking : (u : ℕ) → is_table_lifted p word_of lifted u ≡ true → IsRanking (p.real + p.dummies) (slot_kept then u)
      ranking u up =
          let low : u < buckets p = filled.within u (ap (λ (t : FlatTable). (after p t FinalLifts).lifted u) (sym table_is) ∙ up) in
          let v = version_at then.versions u in
          let obeys = (content.obeys).versions u low in
          subst (λ n. IsRanking n (slot_kept then u)) (obeys.slots).ranks (slots_rank v obeys.ranks)

      -- the words are the next ones
      end_turn : (k : WordsKept) → k.drawn ≡ s.drawn → EndDrawsNext p word_of lifted k (map id_write fs) (new.run).drawn (slot_kept then)
      end_turn k so_far =
          end_next p word_of t0 g (old.run).drawn old.drawn words was_drawn then writes few draws.many_are few_drawn filled.within (λ i lt. ((filled.filled).anew i lt).ranks)
          (subst (λ (l : List ℕ). AreTapeWords word_of g l) draws.words tape) lifted k table_is (sym under) (so_far ∙ runs.drawn) (new.run).drawn (drawn ∙ many)

      end_allowed : IsActAllowed p word_of lifted the_end
      end_allowed = (
        refl,
        all_logged,
        subst (λ n. IsActAllowedDrawn n s.drawn) under (subst (IsActAllowedDrawn g) (sym runs.drawn)
            (writes_drawn p word_of writes (take p.writes words) g (old.run).drawn (length writes) (new.run).drawn (let all = many in omega (arith, all, drawn, few)) (let all = many in let low = few_drawn in omega (arith, all, drawn, low)))),
        ranking,
      )
        where
          IsActAllowedDrawn : ℕ → ℕ → Type 0
          IsActAllowedDrawn n m = AreDrawn p word_of n m (map id_write fs) (new.run).drawn

      stands_ended : (c : Image) → Stands keys p (standing_at_end st new.run fs) c → StandsInLife keys p word_of ended c
      stands_ended c stands = at_standing keys p word_of (standing_at_end st new.run fs) ended c stands (let e : suc st.epoch ≡ s.epoch + 1 = (let same = runs.epoch in omega (arith, same)) in e) runs.generation life_ended

      by_one : (c : Image) → OneOf keys p st (standing_at_end st new.run fs) c → StandsInLife keys p word_of lifted c ⊎ ((a : LifeAct) × (Some the_end ≡ Some a) × StandsInLife keys p word_of (life_step p word_of lifted a) c)
      by_one c one = ⊎_elim
          (λ (was : Stands keys p st c). inl (stands_lifted c was))
          (λ (is : Stands keys p (standing_at_end st new.run fs) c). inr (the_end, refl, stands_ended c is))
          one

      -- the register is set: the end is in flight
      pub setting : (a x : S) → LeavesOnly (disk a) (disk x) (OneOf keys p st (standing_at_end st new.run fs)) → IsStage disk keys p word_of s (ShowLifts ∷ [], Some the_end) a x
      setting a x all = record {
        is_life = (lifts_allowed, tt);
        small = (runs.small, λ b e. no_append_end (IsBatchSmall b) (map id_write fs) (new.run).drawn (slot_kept then) b e);
        turn = λ k so_far. record { made_next = (tt, tt); flying_next = λ y e. subst (λ (z : LifeAct). DrawsNext p word_of lifted k z) (same_act the_end y e) (end_turn k so_far) };
        leaves = weakened (disk a) (disk x) (OneOf keys p st (standing_at_end st new.run fs)) (IsLeftAt keys p word_of lifted (Some the_end))
            (λ c one. record {
              allowed = λ y e. subst (λ (z : LifeAct). IsActAllowed p word_of lifted z) (same_act the_end y e) end_allowed;
              stands = λ i same. by_one i (subst (OneOf keys p st (standing_at_end st new.run fs)) same one);
            })
            all;
      }

      both_stages : (answered : Bool) → IsEndInStages disk old.lanes st fs old.run new.run old.store new.store → IsStaged disk word_of old new notes s (End ws) answered
      both_stages answered f = record {
        ends = f.between ∷ new.store ∷ [];
        stages = (filling old.store f.between f.until, inr f.made, (setting f.between new.store f.since, inl refl, refl));
        whole = λ yes. refl;
        idle = λ none. absurd (some_ends f.between (new.store ∷ []) none);
      }

      -- in doubt: the lifts were shown, and the end is in flight
      in_doubt : (f : Fault) → EndCalled disk old new notes writes (Err (end.Unsure f)) → IsEndInStages disk old.lanes st fs old.run new.run old.store new.store → ((c : Image) → (disk new.store).may_leave c → OneOf keys p st (standing_at_end st new.run fs) c) → IsCallInLife disk word_of old new notes s (End ws) false
      in_doubt f called all images = record {
        made = ShowLifts ∷ [];
        in_flight = Some the_end;
        law = record {
          is_life = (lifts_allowed, tt);
          whole = λ yes. absurd (false≢true yes);
          part = inr (the_end ∷ [], refl, inr (the_end, [], refl, refl));
          leaves = λ was. leaves_one;
        };
        shown = λ b e. no_append_end _ (map id_write fs) (new.run).drawn (slot_kept then) b e;
        shows = inr refl;
        told = λ no. (refl, inr (f, called));
        turn = λ k so_far. record { made_next = (tt, tt); flying_next = λ a e. subst (λ (x : LifeAct). DrawsNext p word_of lifted k x) (same_act the_end a e) (end_turn k so_far) };
        left = λ c left. record {
          allowed = λ a e. subst (λ (x : LifeAct). IsActAllowed p word_of lifted x) (same_act the_end a e) end_allowed;
          stands = λ i same. leaves_one i (subst (disk new.store).may_leave same left);
        };
        staged = both_stages false all;
        small = (runs.small, λ b e. no_append_end (IsBatchSmall b) (map id_write fs) (new.run).drawn (slot_kept then) b e);
        onward = λ yes. absurd (false≢true yes);
      }
        where
          leaves_one : (c : Image) → (disk new.store).may_leave c → StandsInLife keys p word_of lifted c ⊎ ((a : LifeAct) × (Some the_end ≡ Some a) × StandsInLife keys p word_of (life_step p word_of lifted a) c)
          leaves_one c left = by_one c (images c left)

      answered : IsEndInStages disk old.lanes st fs old.run new.run old.store new.store
          → RunIsAt new.run (standing_at_end st new.run fs) (disk new.store) → ((new.run).sealer).keys ≡ keys → (new.run).params ≡ p → IsCallInLife disk word_of old new notes s (End ws) true
      answered all at same_keys params = record {
        made = ShowLifts ∷ the_end ∷ [];
        in_flight = None;
        law = record {
          is_life = (lifts_allowed, (end_allowed, tt));
          whole = λ yes. (refl, refl);
          part = inr ([], refl, inl refl);
          leaves = λ was c left. inl (stands_then c left);
        };
        shown = λ b e. none_pending _ (Append b) e;
        shows = inl refl;
        told = λ no. absurd (false≢true (sym no));
        turn = λ k so_far. all_made p word_of s k (ShowLifts ∷ the_end ∷ []) (tt, (end_turn k so_far, tt));
        left = λ c left. record {
          allowed = λ a e. none_pending (IsActAllowed p word_of ended a) a e;
          stands = λ i same. inl (stands_then i (subst (disk new.store).may_leave same left));
        };
        staged = both_stages true all;
        small = ((λ b none. absurd none), λ b e. none_pending (IsBatchSmall b) (Append b) e);
        onward = λ yes. record {
          standing = standing_at_end st new.run fs;
          at = at;
          epoch = (let same = runs.epoch in omega (arith, same));
          generation = runs.generation;
          life = subst (λ (q : Params). IsLifeAt q word_of then [] ended) (sym params) life_ended;
          small = λ b none. absurd none;
          drawn = refl;
          begun = refl;
        };
      }
        where
          stands_then : (c : Image) → (disk new.store).may_leave c → StandsInLife keys p word_of ended c
          stands_then c left = stands_ended c (settled_stands new.run keys p (standing_at_end st new.run fs) (disk new.store) c at same_keys params left)

  -- ---- by its answer

  images_then : (x : Result (Unit {0}) EndErr) → EndCalled disk old new notes writes x → (c : Image) → (disk new.store).may_leave c → EndImages keys p st fs new.run x c
  images_then x is = at_the_end (disk old.store) (disk new.store) (EndImages keys p st fs new.run x) counts_now (is.images st runs.at)

  pub end_ok : EndCalled disk old new notes writes (Ok tt) → IsCallInLife disk word_of old new notes s (End ws) true
  end_ok is =
      answered is.none_left (is.run).was_drawn (is.run).drawn is.few (is.answers t0 stands0) (is.draws t0 stands0) (is.table t0 stands0) is.entries (is.filled t0 stands0) is.content
      (is.stages st runs.at) (is.stands st runs.at) (is.run).keys (is.run).params

  pub end_before : (f : Fault) → EndCalled disk old new notes writes (Err (end.Before f)) → IsCallInLife disk word_of old new notes s (End ws) false
  end_before f is = refused_before is.none_left f is (is.stages st runs.at) (images_then (Err (end.Before f)) is)

  pub end_unsure : (f : Fault) → EndCalled disk old new notes writes (Err (end.Unsure f)) → IsCallInLife disk word_of old new notes s (End ws) false
  end_unsure f is =
      in_doubt is.none_left (is.run).was_drawn (is.run).drawn is.few (is.answers t0 stands0) (is.draws t0 stands0) (is.table t0 stands0) is.entries (is.filled t0 stands0) is.content
      f is (is.stages st runs.at) (images_then (Err (end.Unsure f)) is)
