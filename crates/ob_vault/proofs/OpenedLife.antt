-- An opening of what stands goes on with its life.
use Rattle.std.specs.Prelude.{◌≡◌, ℕ, zero, suc, ◌+◌, ◌<◌, ◌≤◌, List, ◌++◌, map, length}
use Rattle.std.specs.List.{flat_map, range_with_len}
use Rattle.std.proofs.Common.{arith, refl, sym, ap, subst, ◌∙◌, ⊎_elim}
use Rattle.std.proofs.lemmas.List.{length-map, map-append}
use Rattle.ob_base.proofs.Repeats.{has_cases}
use Rattle.ob_base.specs.Repeats.{Has}
use Rattle.ob_base.specs.declared.params.Params.{Params}
use Rattle.ob_tables.specs.Content.{Content, Obeys}
use Rattle.ob_recover.specs.Calls.{repeated}
use Rattle.ob_recover.specs.Life.{IsLife, LabelFill, LifeBatch, LifeState, Open, ShowBatch, SlotFill, WordId, leaf_of_word, life_labels, life_slots, life_step, log_slots, phase_labels, phase_slots, reached}
use Rattle.ob_log.specs.Logs.{BatchRecord, RecordsFit}
use Rattle.ob_recover.specs.Finds.{IsFoundOf}
use Rattle.ob_vault.proofs.Ending.{records_fit_of}
use Rattle.ob_vault.proofs.OpenedRun.{IsFurther, further, moved}
use Rattle.ob_vault.specs.Acts.{AreBatchesSmall}
use Rattle.ob_vault.proofs.Founding.{found_is_standing}
use Rattle.ob_vault.specs.RingKind.{IsRingFound, RingFound, ring_hidden}
use Rattle.ob_recover.proofs.Living.{lives_show_fills}
use Rattle.ob_recover.specs.Known.{fills_of}
use Rattle.ob_recover.specs.Lives.{IsLifeAt, LifeShowsFills, life_batch}
use Rattle.ob_schedule.specs.Schedule.{Fills, batch_leaves}
use Rattle.ob_seal.specs.Sealing.{Sealing}
use Rattle.ob_seal.specs.declared.keys.Keys.{Keys}
use Rattle.ob_stand.specs.Stands.{RingStanding}
use Rattle.ob_store.specs.Disk.{Image}
use Rattle.ob_opening.specs.OpeningActs.{StandsInLife}
use Rattle.ob_vault.proofs.Batches.{has_phase}
use Rattle.ob_vault.proofs.Publics.{public_is}
use Rattle.ob_vault.specs.Lives.{IsOpenedInLife, opening_acts}
use Rattle.ob_vault.specs.Shown.{IsInLife}

-- ---- repeats

module _ (p : Params) (word_of : WordId → ℕ) where
  pub repeats_live : (t : LifeState) (n : ℕ) → t.begun + n ≤ length t.log → IsLife p word_of t (repeated n)
  repeats_live t zero few = tt
  repeats_live t (suc n) few = (omega (arith, few), repeats_live (life_step p word_of t ShowBatch) n (omega (arith, few)))

  abbrev leaf : LabelFill → ℕ
  leaf l = leaf_of_word p word_of l.word

  pub repeats_leaves : (f : Fills) (t : LifeState) (n : ℕ) → ((b : ℕ) → b < t.begun + n → map leaf (phase_labels p word_of (t.epoch + 1) 0 (t.content).book t.log b) ≡ batch_leaves p f b)
      → map leaf (life_labels p word_of t (repeated n)) ≡ flat_map (λ b. batch_leaves p f b) (range_with_len t.begun n)
  repeats_leaves f t zero each = refl
  repeats_leaves f t (suc n) each =
      map-append leaf (phase_labels p word_of (t.epoch + 1) 0 (t.content).book t.log t.begun) (life_labels p word_of (life_step p word_of t ShowBatch) (repeated n))
      ∙ ap (λ (l : List ℕ). l ++ map leaf (life_labels p word_of (life_step p word_of t ShowBatch) (repeated n))) (each t.begun (omega arith))
      ∙ ap (λ (l : List ℕ). batch_leaves p f t.begun ++ l) (repeats_leaves f (life_step p word_of t ShowBatch) n (λ b lt. each b (omega (arith, lt))))

  pub repeats_slots : (t : LifeState) (n : ℕ) (x : SlotFill) → Has (life_slots p word_of t (repeated n)) x → Has (log_slots p word_of (t.epoch + 1) t.content (t.content).table t.log) x
  repeats_slots t zero x none = absurd none
  repeats_slots t (suc n) x has = ⊎_elim
      (λ (now : Has (phase_slots p word_of (t.epoch + 1) t.content (t.content).table t.log t.begun) x). has_phase p word_of (t.epoch + 1) t.content (t.content).table t.log t.begun x now)
      (λ (later : Has (life_slots p word_of (life_step p word_of t ShowBatch) (repeated n)) x). repeats_slots (life_step p word_of t ShowBatch) n x later)
      (has_cases (phase_slots p word_of (t.epoch + 1) t.content (t.content).table t.log t.begun) (life_slots p word_of (life_step p word_of t ShowBatch) (repeated n)) x has)

-- ---- the opening

module _ (keys : Keys) (p : Params) (word_of : WordId → ℕ) (s : LifeState) (image : Image) (f : RingFound) (found : IsRingFound keys p image f) (here : StandsInLife keys p word_of s image) (small : AreBatchesSmall s.log) where
  abbrev st : RingStanding
  st = here.standing

  same : IsFoundOf st found.found
  same = found_is_standing keys p st image found.found here.stands found.found_in

  content : st.content ≡ f.content
  content = sym same.content ∙ (found.goes_on).content

  records : st.records ≡ f.records
  records = sym same.records ∙ (found.goes_on).records

  life : IsLifeAt p word_of f.content f.records s
  life = subst (λ (c : Content). IsLifeAt p word_of c f.records s) content (subst (λ (rs : List BatchRecord). IsLifeAt p word_of st.content rs s) records here.life)

  obeys : Obeys p f.content
  obeys = subst (λ (c : Content). Obeys p c) content ((here.stands).holds).obeys

  fit : RecordsFit p f.records
  fit = subst (λ (rs : List BatchRecord). RecordsFit p rs) records (records_fit_of keys p (suc st.epoch) st.records image ((here.stands).holds).log)

  shows : LifeShowsFills p word_of f.content f.records s
  shows = lives_show_fills p word_of f.content f.records s obeys fit life

  log_many : length s.log ≡ length f.records
  log_many = ap (λ (log : List LifeBatch). length log) life.log ∙ length-map f.records life_batch

  abbrev begun : LifeState
  begun = life_step p word_of s (Open (suc s.generation))

  abbrev t : LifeState
  t = reached p word_of begun (repeated (length s.log))

  on : IsFurther begun t (length s.log)
  on = further p word_of begun (length s.log)

  now : IsInLife p word_of (ring_hidden f) (reached p word_of s (opening_acts s))
  now = record {
    obeys = obeys;
    fit = fit;
    life = moved p word_of f.content f.records begun t (length s.log) on (record { table = life.table; slots = life.slots; homes = life.homes; book = life.book; kept = life.kept; log = life.log; words = life.words });
    small = subst AreBatchesSmall (sym on.log) small;
    epoch = on.epoch ∙ sym here.epoch ∙ sym same.epoch ∙ sym (found.goes_on).epoch;
    generation = on.generation ∙ ap suc (sym here.generation ∙ sym same.generation) ∙ sym (ap (λ (x : Sealing). x.generation) (found.goes_on).sealer);
    drawn = on.drawn;
    begun = (let shown = on.begun in let many = ap (λ (log : List LifeBatch). length log) on.log in omega (arith, shown, many));
  }

  pub opened_lives : IsOpenedInLife p word_of f s
  opened_lives = record {
    is_life = (omega arith, repeats_live p word_of begun (length s.log) (omega arith));
    then = now;
    known = public_is p word_of (reached p word_of s (opening_acts s)) (ring_hidden f) now (f.run).gates;
    labels = repeats_leaves p word_of (fills_of p f.content f.records) begun (length s.log) (λ b lt. shows.labels b (let many = log_many in omega (arith, lt, many)))
        ∙ ap (λ n. flat_map (λ b. batch_leaves p (fills_of p f.content f.records) b) (range_with_len 0 n)) log_many;
    slots = λ x has. shows.slots x (repeats_slots p word_of begun (length s.log) x has);
  }
