-- A fetch as a call of a life.
use Rattle.std.specs.Prelude.{◌≡◌, ◌⊎◌, ℕ, suc, ◌+◌, ◌<◌, ◌≤◌, ◌%◌, ◌^◌, Bool, true, false, List, [], ◌∷◌, ◌++◌, length, slice_index, Option, None, Some, Result, Ok, Err}
use Rattle.std.proofs.Common.{arith, length-append, refl, sym, ap, subst, ◌∙◌, inl, inr, ⊎_elim}
use Rattle.std.proofs.lemmas.Bool.{cases_lt, false≢true}
use Rattle.std.proofs.lemmas.List.{get_or-append-add, length-map, map-append}
use mathlib.Core.Path.{fun_ext}
use Rattle.ob_base.specs.Repeats.{Has}
use Rattle.ob_base.specs.declared.fault.Fault.{Fault}
use Rattle.ob_base.specs.declared.fault.Fault.TheVariants as fault
use Rattle.ob_base.specs.declared.params.Params.{Params}
use Rattle.ob_fetch.specs.declared.run.Run.{Run}
use Rattle.ob_fetch.proofs.LogLaws.{more_at}
use Rattle.ob_fetch.specs.Fetches.{DrawsWords, FetchStages, IsBodyAlone, IsFetchInStages, IsOpenBetween, RunIsAt, next_batch, words_since}
use Rattle.ob_recover.specs.Life.{Append, IsActAllowed, LifeAct, LifeBatch, LifeState, ShowBatch, WordId, life_step}
use Rattle.ob_fetch.proofs.StageLaws.{gate_cut}
use Rattle.ob_log.proofs.OnceLaws.{records_same}
use Rattle.ob_log.specs.Appends.{append_notes, body_notes, gate_notes}
use Rattle.ob_log.specs.Logs.{BatchRecord, OpenRecords}
use Rattle.ob_recover.specs.Lives.{AreWordsOf, IsLifeAt, life_batch}
use Rattle.ob_vault.specs.RingVaults.{FetchCalled, Running, record_of_fetch}
use Rattle.ob_seal.specs.declared.keys.Keys.{Keys}
use Rattle.ob_serial.specs.Vaults.{Fetch}
use Rattle.ob_stand.specs.Stands.{OneOf, RingStanding, Stands, with_record}
use Rattle.ob_store.specs.Disk.{Clock, Disk, Image, NotAfter}
use Rattle.ob_store.specs.Images.{LeavesOnly, SameOff}
use Rattle.ob_store.proofs.Doing.{cut_more}
use Rattle.ob_store.proofs.Moments.{started, weakened}
use Rattle.ob_store.specs.Told.{IsCut}
use Rattle.ob_store.specs.declared.watch.Note.{Note}
use Rattle.ob_store.specs.declared.watch.Note.TheVariants.{Sync, Write}
use Rattle.ob_base.specs.Layout.{log_cell, log_gate, record_cells}
use Rattle.ob_fresh.proofs.Turns.{all_made}
use Rattle.ob_fresh.specs.Drawn.{DrawsNext, WordsKept}
use Rattle.ob_twin.proofs.Moves.{at_the_end}
use Rattle.ob_opening.specs.OpeningActs.{IsLeftAt, StandsInLife}
use Rattle.ob_vault.specs.Acts.{AreBatchesSmall, AreTapeWords, IsBatchSmall, IsCallInLife, IsStaged, RunsInLife}
use Rattle.ob_vault.specs.Stages.{IsStage}

-- ---- lists and acts

has_more : {A : Type 0} (xs : List A) (y x : A) → Has (xs ++ y ∷ []) x → Has xs x ⊎ (y ≡ x)
has_more [] y x (inl is) = inr is
has_more [] y x (inr none) = absurd none
has_more (z ∷ xs) y x (inl is) = inl (inl is)
has_more (z ∷ xs) y x (inr has) = ⊎_elim (λ (h : Has xs x). inl (inr h)) (λ (is : y ≡ x). inr is) (has_more xs y x has)

pub same_act : (a b : LifeAct) → ◌≡◌ {A = Option LifeAct} (Some a) (Some b) → a ≡ b
same_act a b e = cc

same_batch : (a b : LifeBatch) → Append a ≡ Append b → a ≡ b
same_batch a b e = cc

pub some_ends : {A : Type 0} (x : A) (xs : List A) → x ∷ xs ≡ [] → ⊥
some_ends x xs e = cc e

pub none_pending : (A : Type 0) (a : LifeAct) → ◌≡◌ {A = Option LifeAct} None (Some a) → A
none_pending A a e = absurd (cc)

-- ---- what an image stands for

module _ (keys : Keys) (p : Params) (word_of : WordId → ℕ) where
  -- an image of this standing, where the life is at it
  pub at_standing : (st : RingStanding) (s : LifeState) (c : Image) → Stands keys p st c → st.epoch ≡ s.epoch → st.generation ≡ s.generation → IsLifeAt p word_of st.content st.records s → StandsInLife keys p word_of s c
  at_standing st s c stands epoch generation life = record { standing = st; stands = stands; epoch = epoch; generation = generation; life = life }

-- of a settled store every image is the one that it tells
pub settled_stands : (run : Run) (keys : Keys) (p : Params) (st : RingStanding) (disk : Disk) (c : Image) → RunIsAt run st disk → (run.sealer).keys ≡ keys → run.params ≡ p → disk.may_leave c → Stands keys p st c
settled_stands run keys p st disk c at same params left =
    subst (λ (i : Image). Stands keys p st i) (sym (fun_ext (λ k. at.settled c left k)))
    (subst (λ (q : Params). Stands keys q st disk.cells) params (subst (λ (x : Keys). Stands x run.params st disk.cells) same at.stands))

-- ---- the call

module _ {S : Type 0} (disk : S → Disk) (word_of : WordId → ℕ) (s : LifeState) (old new : Running S) (notes : List Note) (asks : List (Option ℕ)) (runs : RunsInLife word_of s old.run (disk old.store))
    (tape : AreTapeWords word_of ((old.run).sealer).generation new.drawn) where
  abbrev p : Params
  p = (old.run).params

  abbrev keys : Keys
  keys = ((old.run).sealer).keys

  abbrev st : RingStanding
  st = runs.standing

  abbrev r : BatchRecord
  r = record_of_fetch disk old new notes asks

  abbrev b : LifeBatch
  b = life_batch r

  -- the life once the record is in its log
  abbrev logged : LifeState
  logged = life_step p word_of s (Append b)

  under : ((old.run).sealer).generation ≡ s.generation
  under = ((runs.at).runs).generation_is ∙ runs.generation

  log_many : length s.log ≡ length st.records
  log_many = ap (λ (log : List LifeBatch). length log) (runs.life).log ∙ length-map st.records life_batch

  stands_old : (c : Image) → Stands keys p st c → StandsInLife keys p word_of s c
  stands_old c stands = at_standing keys p word_of st s c stands runs.epoch runs.generation runs.life

  -- its words are the next ones
  batch_turn : (k : WordsKept) → k.drawn ≡ s.drawn → DrawsNext p word_of s k (Append b)
  batch_turn k so_far = λ i. record { generation = under i; place = sym (so_far ∙ runs.drawn) i }

  module _ (some_left : 0 < (old.run).left) where
    allowed : IsActAllowed p word_of s (Append b)
    allowed = (
      (let left = ((runs.at).runs).left_are in let many = log_many in omega (arith, left, many, some_left)),
      under,
      (let drawn = runs.drawn in omega (arith, drawn)),
    )

  -- ---- where its words were drawn

  module _ (was_drawn : (old.run).drawn ≡ length old.drawn) (whole : length asks ≡ p.places) (draws : DrawsWords p.places old.drawn new.drawn) where
    abbrev words : List ℕ
    words = words_since old.drawn new.drawn

    many : length new.drawn ≡ (old.run).drawn + p.places
    many = let ends = ap (λ (l : List ℕ). length l) draws.words in let some = draws.many_are in omega (arith, ends, some, was_drawn, length-append {A = ℕ})

    words_of_record : AreWordsOf word_of r
    words_of_record i lt =
        tape ((old.run).drawn + i) (let all = many in omega (arith, all, lt, whole))
        ∙ ap (λ (l : List ℕ). slice_index l ((old.run).drawn + i)) draws.words
        ∙ ap (λ n. slice_index (old.drawn ++ words) (n + i)) was_drawn
        ∙ get_or-append-add old.drawn words i 0

    -- the life that has the record too
    pub life_more : (t : LifeState) → t.content ≡ s.content → t.log ≡ s.log ++ b ∷ [] → IsLifeAt p word_of st.content (st.records ++ r ∷ []) t
    life_more t content log = record {
      table = (λ i. (content i).table) ∙ (runs.life).table;
      slots = λ u j low few. (λ i. (content i).slot u j) ∙ (runs.life).slots u j low few;
      homes = λ u. (λ i. (content i).home u) ∙ (runs.life).homes u;
      book = λ k. (λ i. (content i).book k) ∙ (runs.life).book k;
      kept = (runs.life).kept;
      log = log ∙ ap (λ (l : List LifeBatch). l ++ b ∷ []) (runs.life).log ∙ sym (map-append life_batch st.records (r ∷ []));
      words = λ x has. ⊎_elim (λ (old_one : Has st.records x). (runs.life).words x old_one) (λ (is : r ≡ x). subst (AreWordsOf word_of) is words_of_record) (has_more st.records r x has);
    }

    stands_more : (t : LifeState) (c : Image) → t.content ≡ s.content → t.log ≡ s.log ++ b ∷ [] → t.epoch ≡ s.epoch → t.generation ≡ s.generation → Stands keys p (with_record st r) c → StandsInLife keys p word_of t c
    stands_more t c content log epoch generation stands = at_standing keys p word_of (with_record st r) t c stands (runs.epoch ∙ sym epoch) (runs.generation ∙ sym generation) (life_more t content log)

    module _ (words_left : (old.run).drawn + p.places ≤ 2 ^ 62) where
      small_batch : IsBatchSmall b
      small_batch = omega (arith, words_left, whole)

      small_more : AreBatchesSmall (s.log ++ b ∷ [])
      small_more x has = ⊎_elim (λ (old_one : Has s.log x). runs.small x old_one) (λ (is : b ≡ x). subst IsBatchSmall is small_batch) (has_more s.log b x has)

      by_one : (c : Image) → OneOf keys p st (with_record st r) c → StandsInLife keys p word_of s c ⊎ ((a : LifeAct) × (Some (Append b) ≡ Some a) × StandsInLife keys p word_of (life_step p word_of s a) c)
      by_one c one = ⊎_elim
          (λ (was : Stands keys p st c). inl (stands_old c was))
          (λ (more : Stands keys p (with_record st r) c). inr (Append b, refl, stands_more logged c refl refl refl refl more))
          one

      -- ---- its stages

      -- its body is written: no image has it
      pub keeping : (a x : S) → LeavesOnly (disk a) (disk x) (Stands keys p st) → IsStage disk keys p word_of s ([], None) a x
      keeping a x all = record {
        is_life = tt;
        small = (runs.small, λ y e. none_pending (IsBatchSmall y) (Append y) e);
        turn = λ k so_far. all_made p word_of s k [] tt;
        leaves = weakened (disk a) (disk x) (Stands keys p st) (IsLeftAt keys p word_of s None)
            (λ c stands. record { allowed = λ y e. none_pending (IsActAllowed p word_of s y) y e; stands = λ i same. inl (stands_old i (subst (Stands keys p st) same stands)) })
            all;
      }

      -- the record is in flight
      pub logging : 0 < (old.run).left → (a x : S) → LeavesOnly (disk a) (disk x) (OneOf keys p st (with_record st r)) → IsStage disk keys p word_of s ([], Some (Append b)) a x
      logging some_left a x all = record {
        is_life = tt;
        small = (runs.small, λ y e. subst IsBatchSmall (same_batch b y (same_act (Append b) (Append y) e)) small_batch);
        turn = λ k so_far. record { made_next = tt; flying_next = λ a e. subst (λ (y : LifeAct). DrawsNext p word_of s k y) (same_act (Append b) a e) (batch_turn k so_far) };
        leaves = weakened (disk a) (disk x) (OneOf keys p st (with_record st r)) (IsLeftAt keys p word_of s (Some (Append b)))
            (λ c one. record {
              allowed = λ a e. subst (λ (y : LifeAct). IsActAllowed p word_of s y) (same_act (Append b) a e) (allowed some_left);
              stands = λ i same. by_one i (subst (OneOf keys p st (with_record st r)) same one);
            })
            all;
      }

      batch_allowed : IsActAllowed p word_of logged ShowBatch
      batch_allowed = let begun = runs.begun in omega (arith, begun, length-append {A = LifeBatch})

      abbrev seen : LifeState
      seen = life_step p word_of logged ShowBatch

      -- the record is open, and its batch is shown
      pub reading : 0 < (old.run).left → (a x : S) → LeavesOnly (disk a) (disk x) (Stands keys p (with_record st r)) → IsStage disk keys p word_of s (Append b ∷ ShowBatch ∷ [], None) a x
      reading some_left a x all = record {
        is_life = (allowed some_left, (batch_allowed, tt));
        small = (small_more, λ y e. none_pending (IsBatchSmall y) (Append y) e);
        turn = λ k so_far. all_made p word_of s k (Append b ∷ ShowBatch ∷ []) (batch_turn k so_far, (tt, tt));
        leaves = weakened (disk a) (disk x) (Stands keys p (with_record st r)) (IsLeftAt keys p word_of seen None)
            (λ c stands. record {
              allowed = λ y e. none_pending (IsActAllowed p word_of seen y) y e;
              stands = λ i same. inl (stands_more seen i refl refl refl refl (subst (Stands keys p (with_record st r)) same stands));
            })
            all;
      }

      both_stages : 0 < (old.run).left → (answered : Bool) → IsFetchInStages disk old.run st r old.store new.store → IsStaged disk word_of old new notes s (Fetch asks) answered
      both_stages some_left answered f = record {
        ends = f.between ∷ new.store ∷ [];
        stages = (logging some_left old.store f.between f.until, inr f.made, (reading some_left f.between new.store f.since, inl refl, refl));
        whole = λ yes. refl;
        idle = λ none. absurd (some_ends f.between (new.store ∷ []) none);
      }

      -- refused by the store
      store_stages : 0 < (old.run).left → (unsure : Option ℕ) → FetchStages disk old.run st r old.store new.store (Err (fault.StoreFault unsure)) → IsStaged disk word_of old new notes s (Fetch asks) false
      store_stages some_left unsure (inl both) = both_stages some_left false both
      store_stages some_left unsure (inr first) = record {
        ends = new.store ∷ [];
        stages = (logging some_left old.store new.store first.leaves, inl refl, refl);
        whole = λ yes. absurd (false≢true yes);
        idle = λ none. absurd (some_ends new.store [] none);
      }

      -- the record is in flight, and all of its notes were shown but the last sync
      module _ (some_left : 0 < (old.run).left) (written : notes ≡ gate_notes p (suc (old.run).epoch) (next_batch old.run)) (staged : IsStaged disk word_of old new notes s (Fetch asks) false)
          (images : (c : Image) → (disk new.store).may_leave c → OneOf keys p st (with_record st r) c) where
        gate_shown : IsCut (append_notes p (suc (old.run).epoch) (next_batch old.run)) (gate_notes p (suc (old.run).epoch) (next_batch old.run)) notes
        gate_shown = subst (λ (xs : List Note). IsCut (append_notes p (suc (old.run).epoch) (next_batch old.run)) (gate_notes p (suc (old.run).epoch) (next_batch old.run)) xs) (sym written)
            (gate_cut p (suc (old.run).epoch) (next_batch old.run))

        leaves_one : (c : Image) → (disk new.store).may_leave c → StandsInLife keys p word_of s c ⊎ ((a : LifeAct) × (Some (Append b) ≡ Some a) × StandsInLife keys p word_of (life_step p word_of s a) c)
        leaves_one c left = by_one c (images c left)

        in_flight : IsCallInLife disk word_of old new notes s (Fetch asks) false
        in_flight = record {
          made = [];
          in_flight = Some (Append b);
          law = record {
            is_life = tt;
            whole = λ yes. absurd (false≢true yes);
            part = inr (Append b ∷ ShowBatch ∷ [], refl, inr (Append b, ShowBatch ∷ [], refl, refl));
            leaves = λ was. leaves_one;
          };
          shown = λ x e. (gate_notes p (suc (old.run).epoch) (next_batch old.run), gate_shown);
          shows = inr (refl, gate_notes p (suc (old.run).epoch) (next_batch old.run), gate_shown);
          told = λ no. inl (inr (refl, written));
          turn = λ k so_far. record { made_next = tt; flying_next = λ a e. subst (λ (x : LifeAct). DrawsNext p word_of s k x) (same_act (Append b) a e) (batch_turn k so_far) };
          left = λ c left. record {
            allowed = λ a e. subst (λ (x : LifeAct). IsActAllowed p word_of s x) (same_act (Append b) a e) (allowed some_left);
            stands = λ i same. leaves_one i (subst (disk new.store).may_leave same left);
          };
          staged = staged;
          small = (runs.small, λ x e. subst IsBatchSmall (same_batch b x (same_act (Append b) (Append x) e)) small_batch);
          onward = λ yes. absurd (false≢true yes);
        }

      -- no more was shown than the record's body, and no image has the record
      module _ (some_left : 0 < (old.run).left) (alone : IsBodyAlone disk keys p (suc (old.run).epoch) (next_batch old.run) notes old.store new.store) (staged : IsStaged disk word_of old new notes s (Fetch asks) false)
          (images : (c : Image) → (disk new.store).may_leave c → OneOf keys p st (with_record st r) c) (counts_now : (t : Clock) (c : Image) → NotAfter t (disk new.store).moment → (disk new.store).may_leave c → (disk new.store).left_since t c) where
        log_kept : (c : Image) → (disk new.store).may_leave c → OpenRecords keys p (suc st.epoch) st.records c
        log_kept c left =
            let batch : length st.records ≡ next_batch old.run = (let all = ((runs.at).runs).left_are in omega (arith, all)) in
            let epoch = ((runs.at).runs).epoch_is in
            subst (λ n. OpenRecords keys p (suc n) st.records c) epoch
            (at_the_end (disk old.store) (disk new.store) (λ i. OpenRecords keys p (suc (old.run).epoch) st.records i × SameOff (log_cell p (suc (old.run).epoch % 2) (next_batch old.run) 0) (record_cells p + 1) i (disk old.store).cells) counts_now
            (alone.kept st.records (runs.at).tells (runs.at).settled batch (subst (λ n. OpenRecords keys p (suc n) st.records (disk old.store).cells) (sym epoch) (((runs.at).stands).holds).log)) c left).0

        one_more : (rs : List BatchRecord) → rs ≡ rs ++ r ∷ [] → ⊥
        one_more rs same = let many : length rs ≡ length (rs ++ r ∷ []) = ap (λ (l : List BatchRecord). length l) same in omega (arith, many, length-append rs (r ∷ []))

        stood : (c : Image) → (disk new.store).may_leave c → Stands keys p st c
        stood c left = ⊎_elim
            (λ (was : Stands keys p st c). was)
            (λ (more : Stands keys p (with_record st r) c). absurd (one_more st.records (records_same keys p (suc st.epoch) st.records (st.records ++ r ∷ []) c (log_kept c left) (more.holds).log)))
            (images c left)

        body_alone : IsCallInLife disk word_of old new notes s (Fetch asks) false
        body_alone = record {
          made = [];
          in_flight = None;
          law = record { is_life = tt; whole = λ yes. absurd (false≢true yes); part = inl (refl, refl); leaves = λ was c left. inl (stands_old c (stood c left)) };
          shown = λ x e. none_pending _ (Append x) e;
          shows = inr (refl, alone.made, cut_more (body_notes p (suc (old.run).epoch) (next_batch old.run)) (Write (log_gate p (suc (old.run).epoch % 2) (next_batch old.run)) ∷ Sync ∷ []) alone.made notes alone.cut);
          told = λ no. inl (inl (refl, refl, (alone.made, alone.cut)));
          turn = λ k so_far. all_made p word_of s k [] tt;
          left = λ c left. record { allowed = λ a e. none_pending (IsActAllowed p word_of s a) a e; stands = λ i is. inl (stands_old i (stood i (subst (disk new.store).may_leave is left))) };
          staged = staged;
          small = (runs.small, λ x e. none_pending (IsBatchSmall x) (Append x) e);
          onward = λ yes. absurd (false≢true yes);
        }

      -- the record is open, and its batch was shown, or may have been
      module _ (some_left : 0 < (old.run).left) (opened : IsOpenBetween disk keys p (suc (old.run).epoch) r old.store new.store) (behind : (more : List Note) × (notes ≡ append_notes p (suc (old.run).epoch) (next_batch old.run) ++ more)) (staged : IsStaged disk word_of old new notes s (Fetch asks) false)
          (images : (c : Image) → (disk new.store).may_leave c → OneOf keys p st (with_record st r) c) where
        log_at : (c : Image) → (disk new.store).may_leave c → OpenRecords keys p (suc st.epoch) (st.records ++ r ∷ []) c
        log_at c left =
            let back = (opened.behind).now c left in
            let batch : length st.records ≡ next_batch old.run = (let all = ((runs.at).runs).left_are in omega (arith, all)) in
            let epoch = ((runs.at).runs).epoch_is in
            subst (λ n. OpenRecords keys p (suc n) (st.records ++ r ∷ []) c) epoch
            (subst (λ (i : Image). OpenRecords keys p (suc (old.run).epoch) (st.records ++ r ∷ []) i) (sym back.2)
            (opened.logged st.records back.0 (runs.at).tells batch (subst (λ n. OpenRecords keys p (suc n) st.records (disk old.store).cells) (sym epoch) (((runs.at).stands).holds).log) back.1))

        has_record : (c : Image) → (disk new.store).may_leave c → Stands keys p (with_record st r) c
        has_record c left = ⊎_elim
            (λ (was : Stands keys p st c). record {
              generation = was.generation;
              epoch = was.epoch;
              holds = record {
                head = (was.holds).head;
                checkpoint = (was.holds).checkpoint;
                obeys = (was.holds).obeys;
                slots = (was.holds).slots;
                log = log_at c left;
                known = (was.holds).known;
                records_known = more_at st.records r (λ x n. x.generation ≤ st.generation) (was.holds).records_known (let same = ((runs.at).runs).generation_is in omega (arith, same));
              };
            })
            (λ (more : Stands keys p (with_record st r) c). more)
            (images c left)

        stands_seen : (c : Image) → (disk new.store).may_leave c → StandsInLife keys p word_of seen c
        stands_seen c left = stands_more seen c refl refl refl refl (has_record c left)

        batch_seen : IsCallInLife disk word_of old new notes s (Fetch asks) false
        batch_seen = record {
          made = Append b ∷ ShowBatch ∷ [];
          in_flight = None;
          law = record {
            is_life = (allowed some_left, (batch_allowed, tt));
            whole = λ yes. absurd (false≢true yes);
            part = inr ([], refl, inl refl);
            leaves = λ was c left. inl (stands_seen c left);
          };
          shown = λ x e. none_pending _ (Append x) e;
          shows = inl refl;
          told = λ no. inr (refl, behind);
          turn = λ k so_far. all_made p word_of s k (Append b ∷ ShowBatch ∷ []) (batch_turn k so_far, (tt, tt));
          left = λ c left. record {
            allowed = λ a e. none_pending (IsActAllowed p word_of seen a) a e;
            stands = λ i same. inl (stands_seen i (subst (disk new.store).may_leave same left));
          };
          staged = staged;
          small = (small_more, λ x e. none_pending (IsBatchSmall x) (Append x) e);
          onward = λ yes. absurd (false≢true yes);
        }

      -- ---- it was answered

      module _ (some_left : 0 < (old.run).left) (stages : IsFetchInStages disk old.run st r old.store new.store)
          (then : RunIsAt new.run (with_record st r) (disk new.store)) (same_keys : ((new.run).sealer).keys ≡ keys) (params : (new.run).params ≡ p) (drawn : (new.run).drawn ≡ length new.drawn) where
        abbrev shown : LifeState
        shown = life_step p word_of logged ShowBatch

        stands_then : (c : Image) → (disk new.store).may_leave c → StandsInLife keys p word_of shown c
        stands_then c left = stands_more shown c refl refl refl refl (settled_stands new.run keys p (with_record st r) (disk new.store) c then same_keys params left)

        pub answered : IsCallInLife disk word_of old new notes s (Fetch asks) true
        answered = record {
          made = Append b ∷ ShowBatch ∷ [];
          in_flight = None;
          law = record {
            is_life = (allowed some_left, ((let begun = runs.begun in omega (arith, begun, length-append {A = LifeBatch})), tt));
            whole = λ yes. (refl, refl);
            part = inr ([], refl, inl refl);
            leaves = λ was c left. inl (stands_then c left);
          };
          shown = λ x e. none_pending _ (Append x) e;
          shows = inl refl;
          told = λ no. absurd (false≢true (sym no));
          turn = λ k so_far. all_made p word_of s k (Append b ∷ ShowBatch ∷ []) (batch_turn k so_far, (tt, tt));
          left = λ c left. record {
            allowed = λ a e. none_pending (IsActAllowed p word_of shown a) a e;
            stands = λ i same. inl (stands_then i (subst (disk new.store).may_leave same left));
          };
          staged = both_stages some_left true stages;
          small = (small_more, λ x e. none_pending (IsBatchSmall x) (Append x) e);
          onward = λ yes. record {
            standing = with_record st r;
            at = then;
            epoch = runs.epoch;
            generation = runs.generation;
            life = subst (λ (q : Params). IsLifeAt q word_of st.content (st.records ++ r ∷ []) shown) (sym params) (life_more shown refl refl);
            small = small_more;
            drawn = (let all = many in omega (arith, all, drawn, whole));
            begun = (let begun = runs.begun in omega (arith, begun, length-append {A = LifeBatch}));
          };
        }

  -- ---- it was worn out: the store is the same

  none_left_at : (c : Image) → Stands keys p st c → IsLeftAt keys p word_of s None c
  none_left_at c stands = record { allowed = λ a e. none_pending (IsActAllowed p word_of s a) a e; stands = λ i is. inl (stands_old i (subst (Stands keys p st) is stands)) }

  nothing_shown : notes ≡ [] → IsCut (append_notes p (suc (old.run).epoch) (next_batch old.run)) [] notes
  nothing_shown none = record { count = 0; few = omega arith; made_are = refl; shown_are = inl none }

  body_unshown : notes ≡ [] → IsCut (body_notes p (suc (old.run).epoch) (next_batch old.run)) [] notes
  body_unshown none = record { count = 0; few = omega arith; made_are = refl; shown_are = inl none }

  idle_called : ((c : Image) → (disk old.store).left_since (disk old.store).moment c → (disk old.store).may_leave c) → new.store ≡ old.store → notes ≡ [] → IsCallInLife disk word_of old new notes s (Fetch asks) false
  idle_called only same none =
      let stays = λ (c : Image) (left : (disk new.store).may_leave c).
      stands_old c (settled_stands old.run keys p st (disk old.store) c runs.at refl refl (subst (λ (x : S). (disk x).may_leave c) same left)) in
      record {
        made = [];
        in_flight = None;
        law = record { is_life = tt; whole = λ yes. absurd (false≢true yes); part = inl (refl, refl); leaves = λ was c left. inl (stays c left) };
        shown = λ x e. none_pending _ (Append x) e;
        shows = inr (refl, [], nothing_shown none);
        told = λ no. inl (inl (refl, refl, ([], body_unshown none)));
        turn = λ k so_far. all_made p word_of s k [] tt;
        left = λ c left. record { allowed = λ a e. none_pending (IsActAllowed p word_of s a) a e; stands = λ i is. inl (stays i (subst (disk new.store).may_leave is left)) };
        staged = record {
          ends = [];
          stages = same;
          whole = λ yes. absurd (false≢true yes);
          idle = λ none.
              subst (λ (x : S). LeavesOnly (disk old.store) (disk x) (IsLeftAt keys p word_of s None)) (sym same)
              (started (disk old.store) (IsLeftAt keys p word_of s None) (λ c since. none_left_at c (settled_stands old.run keys p st (disk old.store) c runs.at refl refl (only c since))) (λ tells. none_left_at (disk old.store).cells (runs.at).stands));
        };
        small = (runs.small, λ x e. none_pending (IsBatchSmall x) (Append x) e);
        onward = λ yes. absurd (false≢true yes);
      }

  -- ---- by its answer

  pub fetch_ok : FetchCalled disk old new notes asks (Ok tt) → IsCallInLife disk word_of old new notes s (Fetch asks) true
  fetch_ok is =
      answered (is.run).was_drawn is.whole is.draws
      (⊎_elim (λ (more : 2 ^ 62 < (old.run).drawn + p.places). absurd ((is.worn).1 (inl more))) (λ few. few) (cases_lt (2 ^ 62) ((old.run).drawn + p.places)))
      is.some_left (is.stages st runs.at) (is.stands st runs.at) (is.run).keys (is.run).params (is.run).drawn

  module _ (counts_now : (t : Clock) (c : Image) → NotAfter t (disk new.store).moment → (disk new.store).may_leave c → (disk new.store).left_since t c)
      (only_now : (c : Image) → (disk old.store).left_since (disk old.store).moment c → (disk old.store).may_leave c) where
    images_then : (x : Result (Unit {0}) Fault) → FetchCalled disk old new notes asks x → (c : Image) → (disk new.store).may_leave c → OneOf keys p st (with_record st r) c
    images_then x is = at_the_end (disk old.store) (disk new.store) (OneOf keys p st (with_record st r)) counts_now (is.images st runs.at)

    pub fetch_err : (f : Fault) → FetchCalled disk old new notes asks (Err f) → IsCallInLife disk word_of old new notes s (Fetch asks) false
    fetch_err fault.Memory is = absurd is.refusal
    fetch_err fault.Usage is = absurd is.refusal
    fetch_err (fault.BadScript line) is = absurd is.refusal
    fetch_err (fault.BadParams what) is = absurd is.refusal
    fetch_err fault.NotStore is = absurd is.refusal
    fetch_err (fault.Damaged cell what kept computed) is = absurd (is.undamaged st runs.at)
    fetch_err (fault.StoreFault unsure) is =
        let few : (old.run).drawn + p.places ≤ 2 ^ 62 = ⊎_elim (λ (more : 2 ^ 62 < (old.run).drawn + p.places). absurd ((is.worn).1 (inl more))) (λ few. few) (cases_lt (2 ^ 62) ((old.run).drawn + p.places)) in
        let images = images_then (Err (fault.StoreFault unsure)) is in
        let staged = store_stages (is.run).was_drawn is.whole is.draws few is.some_left unsure (is.stages st runs.at) in
        ⊎_elim
        (λ (short : IsBodyAlone disk keys p (suc (old.run).epoch) (next_batch old.run) notes old.store new.store ⊎ (notes ≡ gate_notes p (suc (old.run).epoch) (next_batch old.run))). ⊎_elim
        (λ (alone : IsBodyAlone disk keys p (suc (old.run).epoch) (next_batch old.run) notes old.store new.store). body_alone (is.run).was_drawn is.whole is.draws few is.some_left alone staged images counts_now)
        (λ (written : notes ≡ gate_notes p (suc (old.run).epoch) (next_batch old.run)). in_flight (is.run).was_drawn is.whole is.draws few is.some_left written staged images)
        short)
        (λ (opened : IsOpenBetween disk keys p (suc (old.run).epoch) r old.store new.store × ((more : List Note) × (notes ≡ append_notes p (suc (old.run).epoch) (next_batch old.run) ++ more))).
        batch_seen (is.run).was_drawn is.whole is.draws few is.some_left opened.0 opened.1 staged images)
        is.shown
    fetch_err (fault.StashFull rows) is = absurd is.refusal
    fetch_err (fault.Worn number) is = idle_called only_now (is.idle tt) is.shown
    fetch_err fault.SourceFault is = absurd is.refusal
    fetch_err fault.SinkFault is = absurd is.refusal
