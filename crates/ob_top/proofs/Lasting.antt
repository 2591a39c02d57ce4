-- What a past of a store leads to, behind more acts; and what an opening that was refused leaves of it.
use Rattle.std.proofs.Common.{◌≡◌, ◌⊎◌, ◌∙◌, ◌<◌, ℕ, zero, suc, List, [], ◌∷◌, ◌++◌, length, Option, Some, None, refl, sym, ap, subst, inl, inr, arith, ⊎_elim, append_assoc}
use Rattle.ob_base.specs.declared.params.Params.{Params}
use Rattle.ob_fresh.proofs.NoneTwice.{no_word_twice}
use Rattle.ob_fresh.proofs.Turns.{next_on}
use Rattle.ob_fresh.specs.Drawn.{AllDrawNext, AreWordsInTurn, WordsKept, formatted_words, words_behind}
use Rattle.ob_log.specs.Logs.{BatchRecord}
use Rattle.ob_opening.specs.OpeningActs.{IsLeftAt, StandsInLife}
use Rattle.ob_recover.proofs.FreshLaws.{lives_are_fresh}
use Rattle.ob_recover.proofs.Pads.{life_goes_on}
use Rattle.ob_recover.specs.Calls.{Finds, repeated}
use Rattle.ob_recover.specs.Life.{IsActAllowed, IsLife, LifeAct, LifeState, Open, ShowBatch, WordId, formatted_life, life_step, reached}
use Rattle.ob_recover.specs.Lives.{IsLifeAt}
use Rattle.ob_seal.specs.declared.keys.Keys.{Keys}
use Rattle.ob_serial.specs.Serial.{Map}
use Rattle.std.specs.Ordering.{nat_cmp}
use Rattle.ob_serial.specs.Vaults.{Standing}
use Rattle.ob_store.specs.Disk.{Disk, Image}
use Rattle.ob_tables.specs.Content.{Content}
use Rattle.ob_vault.proofs.Fetching.{at_standing, none_pending, settled_stands}
use Rattle.ob_vault.proofs.Whole.{reached_join, repeats_next}
use Rattle.ob_vault.specs.Acts.{AreBatchesSmall}
use Rattle.ob_vault.specs.Kinds.{Stands}
use Rattle.ob_vault.specs.Lives.{IsOpenedInLife, IsStoppedInLife, opening_acts}
use Rattle.ob_vault.specs.RingKind.{IsRingMap, RingFound, ring_hidden, ring_kind}
use Rattle.ob_vault.specs.Shown.{IsInLife}
use Rattle.ob_top.specs.Pasts.{IsLifeFresh, IsPastLife, LeadsTo, PastLife, life_of, with_acts}

none_cons : {A : Type 0} (x : A) (xs : List A) → x ∷ xs ≡ [] → ⊥
none_cons x xs e = cc e

same_head : {A : Type 0} (x y : A) (xs ys : List A) → x ∷ xs ≡ y ∷ ys → x ≡ y
same_head x y xs ys e = cc e

same_tail : {A : Type 0} (x y : A) (xs ys : List A) → x ∷ xs ≡ y ∷ ys → xs ≡ ys
same_tail x y xs ys e = cc e

-- ---- an opening's acts leave the log, and draw no word

module _ (p : Params) (word_of : WordId → ℕ) where
  log_of_repeats : (t : LifeState) (n : ℕ) (xs rest : List LifeAct) → xs ++ rest ≡ repeated n → (reached p word_of t xs).log ≡ t.log
  log_of_repeats t n [] rest e = refl
  log_of_repeats t zero (x ∷ xs) rest e = absurd (none_cons x (xs ++ rest) e)
  log_of_repeats t (suc n) (x ∷ xs) rest e =
      ap (λ (a : LifeAct). (reached p word_of (life_step p word_of t a) xs).log) (same_head x ShowBatch (xs ++ rest) (repeated n) e)
      ∙ log_of_repeats (life_step p word_of t ShowBatch) n xs rest (same_tail x ShowBatch (xs ++ rest) (repeated n) e)

  log_of_opening : (s : LifeState) (xs rest : List LifeAct) → opening_acts s ≡ xs ++ rest → (reached p word_of s xs).log ≡ s.log
  log_of_opening s [] rest e = refl
  log_of_opening s (x ∷ xs) rest e =
      ap (λ (a : LifeAct). (reached p word_of (life_step p word_of s a) xs).log) (same_head x (Open (suc s.generation)) (xs ++ rest) (repeated (length s.log)) (sym e))
      ∙ log_of_repeats (life_step p word_of s (Open (suc s.generation))) (length s.log) xs rest (same_tail x (Open (suc s.generation)) (xs ++ rest) (repeated (length s.log)) (sym e))

  turn_of_repeats : (t : LifeState) (k : WordsKept) (n : ℕ) (xs rest : List LifeAct) → xs ++ rest ≡ repeated n → AllDrawNext p word_of t k xs
  turn_of_repeats t k n [] rest e = tt
  turn_of_repeats t k zero (x ∷ xs) rest e = absurd (none_cons x (xs ++ rest) e)
  turn_of_repeats t k (suc n) (x ∷ xs) rest e =
      subst (λ (a : LifeAct). AllDrawNext p word_of t k (a ∷ xs)) (sym (same_head x ShowBatch (xs ++ rest) (repeated n) e))
      (tt, turn_of_repeats (life_step p word_of t ShowBatch) k n xs rest (same_tail x ShowBatch (xs ++ rest) (repeated n) e))

  turn_of_opening : (s : LifeState) (k : WordsKept) (xs rest : List LifeAct) → opening_acts s ≡ xs ++ rest → AllDrawNext p word_of s k xs
  turn_of_opening s k [] rest e = tt
  turn_of_opening s k (x ∷ xs) rest e =
      subst (λ (a : LifeAct). AllDrawNext p word_of s k (a ∷ xs)) (sym (same_head x (Open (suc s.generation)) (xs ++ rest) (repeated (length s.log)) (sym e)))
      (tt, turn_of_repeats (life_step p word_of s (Open (suc s.generation))) (record k { drawn = 0 }) (length s.log) xs rest (same_tail x (Open (suc s.generation)) (xs ++ rest) (repeated (length s.log)) (sym e)))

-- ---- a past and more acts

module _ (p : Params) (past : PastLife) (is_past : IsPastLife p past) (more : List LifeAct) (life : IsLife p past.word_of (life_of p past) more) (turn : (k : WordsKept) → AllDrawNext p past.word_of (life_of p past) k more) where
  abbrev on : LifeState
  on = reached p past.word_of (life_of p past) more

  there_too : life_of p (with_acts past more) ≡ on
  there_too = reached_join p past.word_of (formatted_life past.slot) past.acts more

  pub life_on : IsLife p past.word_of (formatted_life past.slot) (past.acts ++ more)
  life_on = life_goes_on p past.word_of (formatted_life past.slot) past.acts more is_past.is_life life

  pub turn_on : AreWordsInTurn p past.word_of past.slot (past.acts ++ more)
  turn_on = record {
    format = is_past.in_turn.format;
    behind = next_on p past.word_of (formatted_life past.slot) (formatted_words p) past.acts more is_past.in_turn.behind (turn (words_behind p past.word_of (formatted_life past.slot) (formatted_words p) past.acts));
  }

  -- it is fresh
  pub fresh_on : IsLifeFresh p (with_acts past more)
  fresh_on =
      let some : 0 < p.dummies = (let d = p.in_range.some_dummies in omega (arith, d)) in
      record {
        holes = lives_are_fresh p past.word_of past.slot (past.acts ++ more) some is_past.ranked life_on;
        words = no_word_twice p past.word_of past.slot (past.acts ++ more) some is_past.ranked life_on turn_on;
      }

  pub past_on : AreBatchesSmall on.log → IsPastLife p (with_acts past more)
  past_on small = record { ranked = is_past.ranked; is_life = life_on; in_turn = turn_on; small = subst (λ (u : LifeState). AreBatchesSmall u.log) (sym there_too) small }

  -- an image of where it is
  pub leads_on : (keys : Keys) (c : Image) (at : Standing) → Stands ring_kind keys p c at → StandsInLife keys p past.word_of on c → AreBatchesSmall on.log → LeadsTo keys p (with_acts past more) c
  leads_on keys c at stands there small = record {
    is_past = past_on small;
    at = at;
    is_at = record { stands = stands; there = subst (λ (u : LifeState). StandsInLife keys p past.word_of u c) (sym there_too) there };
  }

-- ---- behind an opening that was refused

-- where nothing is in flight
pub idle_at : (keys : Keys) (p : Params) (word_of : WordId → ℕ) (s : LifeState) (c : Image) → StandsInLife keys p word_of s c → IsLeftAt keys p word_of s None c
idle_at keys p word_of s c stands = record { allowed = λ a e. none_pending (IsActAllowed p word_of s a) a e; stands = λ i same. inl (subst (StandsInLife keys p word_of s) same stands) }

module _ (keys : Keys) (p : Params) (word_of : WordId → ℕ) (s : LifeState) (new : Disk) (small : AreBatchesSmall s.log) (o : IsStoppedInLife keys p word_of s None new) where
  none_some : (x : LifeAct) → ◌≡◌ {A = Option LifeAct} None (Some x) → ⊥
  none_some x n = cc n

  same_some : (x y : LifeAct) → ◌≡◌ {A = Option LifeAct} (Some x) (Some y) → x ≡ y
  same_some x y n = cc n

  -- nothing was in flight before, so nothing was found
  none_found : (found : List LifeAct) → Finds None found → found ≡ []
  none_found found (inl none) = none
  none_found found (inr (a, flies, is)) = absurd (none_some a flies)

  abbrev Going : List LifeAct → Option LifeAct → Type 0
  Going made in_flight = (rest : List LifeAct) × (opening_acts s ≡ made ++ rest) × ((in_flight ≡ None) ⊎ ((b : LifeAct) × (more : List LifeAct) × (in_flight ≡ Some b) × (rest ≡ b ∷ more)))

  going_on : (made : List LifeAct) (in_flight : Option LifeAct) → ((made ≡ []) × (in_flight ≡ None))
      ⊎ ((rest : List LifeAct) × (o.found ++ opening_acts (reached p word_of s o.found) ≡ made ++ rest) × ((in_flight ≡ None) ⊎ ((a : LifeAct) × (more : List LifeAct) × (in_flight ≡ Some a) × (rest ≡ a ∷ more)))) → Going made in_flight
  going_on made in_flight (inl (none, idle)) = (opening_acts s, subst (λ (l : List LifeAct). opening_acts s ≡ l ++ opening_acts s) (sym none) refl, inl idle)
  going_on made in_flight (inr (rest, are, next)) = (rest, subst (λ (l : List LifeAct). l ++ opening_acts (reached p word_of s l) ≡ made ++ rest) (none_found o.found o.finds) are, next)

  going : Going o.made o.in_flight
  going = going_on o.made o.in_flight o.part

  -- the act in flight is the opening's next one
  flying : (a : LifeAct) → o.in_flight ≡ Some a → (o.in_flight ≡ None) ⊎ ((b : LifeAct) × (more : List LifeAct) × (o.in_flight ≡ Some b) × (going.0 ≡ b ∷ more)) → (rest : List LifeAct) × (opening_acts s ≡ (o.made ++ a ∷ []) ++ rest)
  flying a e (inl idle) = absurd (none_some a (sym idle ∙ e))
  flying a e (inr (b, more, flies, is)) =
      let same : b ≡ a = same_some b a (sym flies ∙ e) in
      (more, going.1 ∙ ap (λ (l : List LifeAct). o.made ++ l) (is ∙ ap (λ (x : LifeAct). x ∷ more) same) ∙ sym (append_assoc o.made (a ∷ []) more))

  abbrev pub StopsAt : Image → Type 0
  StopsAt c = (first : List LifeAct) × (rest : List LifeAct) × (opening_acts s ≡ first ++ rest) × IsLife p word_of s first × ((k : WordsKept) → AllDrawNext p word_of s k first)
      × StandsInLife keys p word_of (reached p word_of s first) c × AreBatchesSmall (reached p word_of s first).log

  stops_at : (first rest : List LifeAct) → opening_acts s ≡ first ++ rest → (c : Image) → IsLife p word_of s first → StandsInLife keys p word_of (reached p word_of s first) c → StopsAt c
  stops_at first rest is c life stands = (first, rest, is, life, (λ k. turn_of_opening p word_of s k first rest is), stands, subst AreBatchesSmall (sym (log_of_opening p word_of s first rest is)) small)

  pub stopped_next : (c : Image) → new.may_leave c → StopsAt c
  stopped_next c left =
      let at : IsLeftAt keys p word_of (reached p word_of s o.made) o.in_flight c = o.images c left in
      ⊎_elim
      (λ (stands : StandsInLife keys p word_of (reached p word_of s o.made) c). stops_at o.made going.0 going.1 c o.is_life stands)
      (λ (one : (a : LifeAct) × (o.in_flight ≡ Some a) × StandsInLife keys p word_of (life_step p word_of (reached p word_of s o.made) a) c).
      let whole = flying one.0 one.1 going.2 in
      stops_at (o.made ++ one.0 ∷ []) whole.0 whole.1 c (life_goes_on p word_of s o.made (one.0 ∷ []) o.is_life (at.allowed one.0 one.1, tt))
      (subst (λ (u : LifeState). StandsInLife keys p word_of u c) (sym (reached_join p word_of s o.made (one.0 ∷ []))) one.2))
      (at.stands c refl)

-- ---- behind one that went well

module _ (keys : Keys) (p : Params) (word_of : WordId → ℕ) (s : LifeState) (f : RingFound) (new : Disk) (o : IsOpenedInLife p word_of f s) (m : Map nat_cmp) (is : IsRingMap keys p new f m) where
  pub opened_turn : (k : WordsKept) → AllDrawNext p word_of s k (opening_acts s)
  opened_turn k = (tt, repeats_next p word_of _ _ (length s.log))

  pub opened_there : (c : Image) → new.may_leave c → StandsInLife keys p word_of (reached p word_of s (opening_acts s)) c
  opened_there c left =
      let t : LifeState = reached p word_of s (opening_acts s) in
      let then : IsInLife p word_of (ring_hidden f) t = o.then in
      at_standing keys p word_of is.standing t c (settled_stands f.run keys p is.standing new c is.at is.keys_are is.params left)
      (sym ((is.at).runs).epoch_is ∙ sym then.epoch) (sym ((is.at).runs).generation_is ∙ sym then.generation)
      (subst (λ (x : Content). IsLifeAt p word_of x is.standing.records t) (sym is.content) (subst (λ (rs : List BatchRecord). IsLifeAt p word_of f.content rs t) (sym is.records) then.life))
