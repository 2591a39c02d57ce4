-- What a batch draws is what a life shows.
use Rattle.std.specs.Prelude.{◌≡◌, ◌⊎◌, ℕ, zero, suc, ◌+◌, ◌<◌, List, [], ◌∷◌, ◌++◌, map, length, Option}
use Rattle.std.proofs.Common.{arith, length-append, refl, sym, ap, subst, ◌∙◌, inl, inr, ⊎_elim}
use Rattle.std.proofs.lemmas.List.{append-nil, get_or-append-add, length-map, map-append}
use Rattle.ob_base.specs.Repeats.{Has}
use Rattle.ob_base.specs.declared.params.Params.{Params}
use Rattle.ob_base.proofs.Repeats.{has_left, has_right}
use Rattle.ob_recover.specs.Life.{Append, IsLife, LabelFill, LifeAct, LifeBatch, LifeContent, LifeState, ShowBatch, SlotFill, WordId, leaf_of_word, leaves, life_step, log_slots, phase_labels, phase_slots, reached, slots_of, batch_places}
use Rattle.ob_log.specs.Logs.{BatchRecord, RecordsFit}
use Rattle.ob_fetch.proofs.LogLaws.{more_at}
use Rattle.ob_ring.specs.FlatTable.{FlatTable, after_batch, batch_shown}
use Rattle.ob_vault.specs.Acts.{AreBatchesSmall, AreTapeWords, IsBatchSmall}
use Rattle.ob_vault.specs.Hidden.{DrawsBatch, RingHidden}
use Rattle.ob_recover.proofs.ShownOpening.{AreWide}
use Rattle.ob_recover.specs.Lives.{AreWordsOf, IsLifeAt, life_batch}
use Rattle.ob_schedule.specs.Schedule.{Fills, batch_leaves}
use Rattle.ob_serial.specs.Vaults.{Fetch}
use Rattle.ob_vault.proofs.Wide.{ShowFills, wide_show}
use Rattle.ob_vault.specs.Shown.{AreFilledBy, IsInLife}

has_more : {A : Type 0} (xs : List A) (y x : A) → Has (xs ++ y ∷ []) x → Has xs x ⊎ (y ≡ x)
has_more [] y x (inl is) = inr is
has_more [] y x (inr none) = absurd none
has_more (z ∷ xs) y x (inl is) = inl (inl is)
has_more (z ∷ xs) y x (inr has) = ⊎_elim (λ (h : Has xs x). inl (inr h)) (λ (is : y ≡ x). inr is) (has_more xs y x has)

-- what a phase shows is among what the log's phases show
pub has_phase : (p : Params) (word_of : WordId → ℕ) (e : ℕ) (c : LifeContent) (t : FlatTable) (log : List LifeBatch) (n : ℕ) (f : SlotFill) → Has (phase_slots p word_of e c t log n) f → Has (log_slots p word_of e c t log) f
has_phase p word_of e c t [] n f has = has
has_phase p word_of e c t (r ∷ log) zero f has = has_left (slots_of e c (batch_shown p t (leaves p word_of (batch_places r)))) (log_slots p word_of e c (after_batch p t (leaves p word_of (batch_places r))) log) f has
has_phase p word_of e c t (r ∷ log) (suc n) f has = has_right (slots_of e c (batch_shown p t (leaves p word_of (batch_places r)))) (log_slots p word_of e c (after_batch p t (leaves p word_of (batch_places r))) log) f
    (has_phase p word_of e c (after_batch p t (leaves p word_of (batch_places r))) log n f has)

module _ (p : Params) (word_of : WordId → ℕ) (s : LifeState) (h : RingHidden) (here : IsInLife p word_of h s) (asks : List (Option ℕ)) (f : Fills) (behind : RingHidden) (d : DrawsBatch p h asks f behind) (some_left : length h.records < p.batches)
    (tape : AreTapeWords word_of h.generation (h.words ++ (d.next).words)) where
  abbrev r : BatchRecord
  r = d.next

  abbrev b : LifeBatch
  b = life_batch r

  abbrev logged : LifeState
  logged = life_step p word_of s (Append b)

  abbrev pub acts : List LifeAct
  acts = Append b ∷ ShowBatch ∷ []

  abbrev shown : LifeState
  shown = life_step p word_of logged ShowBatch

  log_many : length s.log ≡ length h.records
  log_many = ap (λ (log : List LifeBatch). length log) (here.life).log ∙ length-map h.records life_batch

  asks_many : length r.asks ≡ p.places
  asks_many = ap (λ (l : List (Option ℕ)). length l) (d.is_next).asked ∙ d.whole

  wide : AreWide p (h.records ++ r ∷ [])
  wide = more_at h.records r (λ x n. length x.asks ≡ p.places) (λ b lt. ((here.fit).each b lt).asks_many) asks_many

  words_of_record : AreWordsOf word_of r
  words_of_record i lt =
      ap word_of (λ j. record { generation = (d.is_next).generation j; place = (d.is_next).first j + i })
      ∙ tape (length h.words + i) (let many = d.many in let asked = asks_many in omega (arith, lt, many, asked, length-append h.words r.words))
      ∙ get_or-append-add h.words r.words i 0

  life_more : (t : LifeState) → t.content ≡ s.content → t.log ≡ s.log ++ b ∷ [] → IsLifeAt p word_of h.content (h.records ++ r ∷ []) t
  life_more t content log = record {
    table = (λ i. (content i).table) ∙ (here.life).table;
    slots = λ u j low few. (λ i. (content i).slot u j) ∙ (here.life).slots u j low few;
    homes = λ u. (λ i. (content i).home u) ∙ (here.life).homes u;
    book = λ k. (λ i. (content i).book k) ∙ (here.life).book k;
    kept = (here.life).kept;
    log = log ∙ ap (λ (l : List LifeBatch). l ++ b ∷ []) (here.life).log ∙ sym (map-append life_batch h.records (r ∷ []));
    words = λ x has. ⊎_elim (λ (old_one : Has h.records x). (here.life).words x old_one) (λ (is : r ≡ x). subst (AreWordsOf word_of) is words_of_record) (has_more h.records r x has);
  }

  small_batch : IsBatchSmall b
  small_batch = let few = d.few in let first = (d.is_next).first in let asked = asks_many in omega (arith, few, first, asked)

  small_more : AreBatchesSmall (s.log ++ b ∷ [])
  small_more x has = ⊎_elim (λ (old_one : Has s.log x). here.small x old_one) (λ (is : b ≡ x). subst IsBatchSmall is small_batch) (has_more s.log b x has)

  shows : ShowFills p word_of h.content (h.records ++ r ∷ []) logged
  shows = wide_show p word_of h.content (h.records ++ r ∷ []) logged here.obeys wide (life_more logged refl refl)

  pub batch_life : IsLife p word_of s acts
  batch_life = (
    (
      (let many = log_many in omega (arith, many, some_left)),
      (d.is_next).generation ∙ sym here.generation,
      (let drawn = here.drawn in let first = (d.is_next).first in omega (arith, drawn, first)),
    ),
    ((let begun = here.begun in omega (arith, begun, length-append s.log (b ∷ []))), tt),
  )

  pub batch_then : RecordsFit p behind.records → IsInLife p word_of behind (reached p word_of s acts)
  batch_then fit = subst (λ (x : RingHidden). IsInLife p word_of x shown) (sym d.behind_is) (record {
    obeys = here.obeys;
    fit = subst (λ (x : RingHidden). RecordsFit p x.records) d.behind_is fit;
    life = life_more shown refl refl;
    small = small_more;
    epoch = here.epoch;
    generation = here.generation;
    drawn = (let first = (d.is_next).first in let many = d.many in let asked = asks_many in omega (arith, first, many, asked, length-append h.words r.words));
    begun = (let begun = here.begun in omega (arith, begun, length-append s.log (b ∷ [])));
  })

  abbrev leaf : LabelFill → ℕ
  leaf l = leaf_of_word p word_of l.word

  pub batch_filled : AreFilledBy p word_of s acts (Fetch asks) f
  batch_filled = record {
    labels = ap (λ (ls : List LabelFill). map leaf ls) (append-nil (phase_labels p word_of (s.epoch + 1) 0 (s.content).book (s.log ++ b ∷ []) s.begun))
        ∙ ap (λ (n : ℕ). map leaf (phase_labels p word_of (s.epoch + 1) 0 (s.content).book (s.log ++ b ∷ []) n)) here.begun
        ∙ shows.labels (length s.log) (let many = log_many in omega (arith, many, length-append h.records (r ∷ [])))
        ∙ ap (λ (x : Fills). batch_leaves p x (length s.log)) (sym d.fills);
    slots = λ x has.
        shows.slots x (has_phase p word_of (s.epoch + 1) s.content (s.content).table (s.log ++ b ∷ []) s.begun x
        (subst (λ (xs : List SlotFill). Has xs x) (append-nil (phase_slots p word_of (s.epoch + 1) s.content (s.content).table (s.log ++ b ∷ []) s.begun)) has))
        ∙ ap (λ (y : Fills). y.slot (record { bucket = x.bucket; number = x.number })) (sym d.fills);
  }
