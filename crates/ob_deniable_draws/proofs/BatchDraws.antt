-- What a life's batch shows, a vault draws from what is hidden there.
use Rattle.std.specs.Prelude.{◌≡◌, ℕ, ◌+◌, ◌^◌, ◌≤◌, [], ◌∷◌, ◌++◌, length}
use Rattle.std.proofs.Common.{arith, refl, sym, ap, ◌∙◌}
use Rattle.ob_base.specs.Layout.{record_cells}
use Rattle.ob_base.specs.declared.params.Params.{Params}
use Rattle.ob_log.specs.Logs.{BatchRecord}
use Rattle.ob_recover.specs.Known.{fills_of}
use Rattle.ob_recover.specs.Life.{Append, LifeBatch, LifeState, ShowBatch, WordId, life_step}
use Rattle.ob_schedule.specs.Schedule.{Fills}
use Rattle.ob_serial.specs.Vaults.{Fetch}
use Rattle.ob_vault.specs.Hidden.{RingDraws, RingHidden}
use Rattle.ob_deniable_draws.proofs.Contents.{hidden_in, record_hidden, records_hidden, words_hidden}
use Rattle.ob_deniable_draws.proofs.Stays.{Stays, records_fit, records_long, records_more, words_long, words_more}

module _ (p : Params) (tape : WordId → ℕ) (s : LifeState) (r : LifeBatch) (own : r.first ≡ record { generation = s.generation; place = s.drawn }) (seals : ℕ) where
  abbrev h : RingHidden
  h = hidden_in p tape s seals

  abbrev next : BatchRecord
  next = record_hidden p tape (length h.records) r

  abbrev pub shown : LifeState
  shown = life_step p tape (life_step p tape s (Append r)) ShowBatch

  abbrev pub batch_fills : Fills
  batch_fills = fills_of p h.content (h.records ++ next ∷ [])

  abbrev start : WordId
  start = record { generation = s.generation; place = 0 }

  words_are : words_hidden p tape start (r.first.place + length r.asks) ≡ words_hidden p tape start s.drawn ++ words_hidden p tape r.first (length r.asks)
  words_are =
      ap (λ (w : WordId). words_hidden p tape start (w.place + length r.asks)) own ∙ words_more p tape s.generation s.drawn (length r.asks)
      ∙ ap (λ (w : WordId). words_hidden p tape start s.drawn ++ words_hidden p tape w (length r.asks)) (sym own)

  records_are : records_hidden p tape 0 (s.log ++ r ∷ []) ≡ h.records ++ next ∷ []
  records_are = records_more p tape 0 s.log r ∙ ap (λ (n : ℕ). h.records ++ record_hidden p tape n r ∷ []) (let z : 0 + length s.log ≡ length h.records = omega (arith, records_long p tape 0 s.log) in z)

  pub batch_draws : Stays p tape shown → length r.asks ≡ p.places → s.drawn + p.places ≤ 2 ^ 62 → seals + record_cells p ≤ 2 ^ 62 → RingDraws p h (Fetch r.asks) batch_fills (hidden_in p tape shown (seals + record_cells p))
  batch_draws stays whole few few_seals = (
    record {
      next = next;
      is_next = record { batch = refl; generation = ap (λ (w : WordId). w.generation) own; first = ap (λ (w : WordId). w.place) own ∙ sym (words_long p tape start s.drawn); asked = refl };
      whole = whole;
      many = words_long p tape r.first (length r.asks) ∙ whole;
      few = omega (arith, few, words_long p tape start s.drawn);
      few_seals = few_seals;
      fills = refl;
      behind_is = λ i. record { epoch = s.epoch; content = h.content; records = records_are i; generation = s.generation; words = words_are i; seals = seals + record_cells p };
    },
    records_fit p tape (s.log ++ r ∷ []) stays.few (λ x has. (stays.logged x has).2),
  )
