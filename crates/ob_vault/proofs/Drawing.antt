-- What a call of a vault over a ring store draws, from what it keeps to itself.
use Rattle.std.proofs.Common.{◌≡◌, ◌∙◌, ◌+◌, ◌^◌, ◌<◌, ◌≤◌, ℕ, suc, List, [], ◌++◌, ◌∷◌, length, Option, Ok, refl, sym, ap, subst}
use Rattle.ob_base.specs.Layout.{record_cells}
use Rattle.ob_base.specs.declared.params.Params.{Params}
use Rattle.ob_base.specs.declared.value.Write.{Write}
use Rattle.ob_end.specs.EndRuns.{end_writes, rows_ended, seals_for_end, table_ended, words_for_end}
use Rattle.ob_fetch.proofs.NextLaws.{stands_listed}
use Rattle.ob_fetch.specs.Fetches.{next_batch}
use Rattle.ob_recover.specs.Repeats.{content_of_ring, entries_after_records}
use Rattle.ob_ring.specs.FlatTable.{FlatTable}
use Rattle.ob_ring.specs.Ring.{StandsFor}
use Rattle.ob_ring.specs.Writing.{entries_after}
use Rattle.ob_recover.proofs.Once.{table_once}
use Rattle.ob_recover.specs.Known.{fills_of, fills_with_lifts}
use Rattle.ob_vault.specs.RingVaults.{EndCalled, HasPlanned, KeepsRun, Running, record_of_fetch, words_of_call}
use Rattle.ob_seal.specs.Sealing.{Sealing}
use Rattle.ob_store.specs.Disk.{Disk}
use Rattle.ob_store.specs.declared.watch.Note.{Note}
use Rattle.ob_tables.specs.Kept.{entry_at}
use Rattle.ob_tables.specs.declared.entry.Entry.{Entry}
use Rattle.ob_vault.proofs.Homes.{homes_ended}
use Rattle.ob_vault.specs.Hidden.{DrawsBatch, DrawsEnd, IsContentEnded, RingHidden, table_hidden, with_next}

module _ {S : Type 0} (disk : S → Disk) (old new : Running S) (notes : List Note) (p : Params) (h : RingHidden) (params : (old.run).params ≡ p) (planned : HasPlanned old.run h.content h.records)
    (generation : ((old.run).sealer).generation ≡ h.generation) (tape : old.drawn ≡ h.words) (keeps : KeepsRun disk old new notes) where
  abbrev drawn : List ℕ
  drawn = words_of_call disk old new notes

  -- so many words were drawn before
  many_before : (old.run).drawn ≡ length h.words
  many_before = keeps.was_drawn ∙ ap (λ (l : List ℕ). length l) tape

  pub grown : new.drawn ≡ h.words ++ drawn
  grown = keeps.grows ∙ ap (λ (l : List ℕ). l ++ drawn) tape

  -- ---- a batch

  pub draws_batch : (asks : List (Option ℕ)) → length asks ≡ (old.run).params.places → length h.records ≡ next_batch old.run → length drawn ≡ (old.run).params.places → (old.run).drawn + (old.run).params.places ≤ 2 ^ 62
      → ((old.run).sealer).next ≡ h.seals → ((old.run).sealer).next + record_cells (old.run).params ≤ 2 ^ 62
      → DrawsBatch p h asks (fills_of p h.content (h.records ++ record_of_fetch disk old new notes asks ∷ [])) (with_next p h (record_of_fetch disk old new notes asks))
  draws_batch asks whole is_next many few sealed few_seals = record {
    next = record_of_fetch disk old new notes asks;
    is_next = record { batch = sym is_next; generation = generation; first = many_before; asked = refl };
    whole = whole ∙ ap (λ (x : Params). x.places) params;
    many = many ∙ ap (λ (x : Params). x.places) params;
    few = subst (λ (n : ℕ). n + p.places ≤ 2 ^ 62) many_before (subst (λ (x : Params). (old.run).drawn + x.places ≤ 2 ^ 62) params few);
    few_seals = subst (λ (n : ℕ). n + record_cells p ≤ 2 ^ 62) sealed (subst (λ (x : Params). ((old.run).sealer).next + record_cells x ≤ 2 ^ 62) params few_seals);
    fills = refl;
    behind_is = refl;
  }

  -- ---- an end

  abbrev own : Params
  own = (old.run).params

  abbrev t : FlatTable
  t = table_hidden own h

  stands : StandsFor (old.run).ring t
  stands = stands_listed (old.run).ring t (planned.planner).table

  module _ (writes : List Write) (one : EndCalled disk old new notes writes (Ok tt)) where
    abbrev pub ended : RingHidden
    ended = record { epoch = (new.run).epoch; content = content_of_ring (new.run).ring; records = []; generation = ((new.run).sealer).generation; words = new.drawn; seals = ((new.run).sealer).next }

    writes_same : end_writes own writes drawn ((old.run).sealer).generation (old.run).drawn ≡ end_writes own writes drawn h.generation (length h.words)
    writes_same = ap (λ (g : ℕ). end_writes own writes drawn g (old.run).drawn) generation ∙ ap (λ (n : ℕ). end_writes own writes drawn h.generation n) many_before

    content_ended : IsContentEnded own h writes drawn (content_of_ring (new.run).ring)
    content_ended = record {
      obeys = (one.content).obeys;
      table = table_once (new.run).ring _ _ (one.content).stands (one.table t stands) ∙ ap (λ ws. table_ended own t ws) writes_same;
      entries = λ k. one.entries k
          ∙ ap (λ (book : ℕ → Option Entry). entries_after book (end_writes own writes drawn ((old.run).sealer).generation (old.run).drawn) k) (λ j i. (planned.planner).entries i j)
          ∙ ap (λ ws. entries_after (entries_after_records own (λ i. entry_at (h.content).book i) h.records) ws k) writes_same;
      within = (one.filled t stands).within;
      ranks = λ i lt. ((one.filled t stands).filled.anew i lt).ranks;
      homes = λ u. homes_ended own t drawn ((old.run).sealer).generation ((old.run).sealer).next (old.run).ring (new.run).ring h.content (one.filled t stands) ((planned.planner).seals).homes u;
      others = λ u not. (one.filled t stands).filled.ranks u not ∙ ((planned.planner).seals).ranks u;
    }

    pub draws_end : length h.records ≡ own.batches → (old.run).epoch ≡ h.epoch → ((old.run).sealer).next ≡ h.seals → DrawsEnd p h writes (fills_with_lifts p h.content h.records) ended
    draws_end all epoch sealed = subst (λ (x : Params). DrawsEnd x h writes (fills_with_lifts x h.content h.records) ended) params (record {
      all = all;
      epochs = subst (λ (n : ℕ). suc n < 2 ^ 62) epoch ((one.answers t stands).has).epochs;
      few_writes = one.few;
      words = drawn;
      many = (one.draws t stands).many_are;
      few = subst (λ (n : ℕ). n + words_for_end own t ≤ 2 ^ 62) many_before ((one.answers t stands).has).words;
      few_rows = subst (λ (ws : List (Write × Entry)). rows_ended own t ws ≤ own.room) writes_same (one.answers t stands).rows;
      few_seals = subst (λ (n : ℕ). n + seals_for_end own t ≤ 2 ^ 62) sealed (one.answers t stands).seals;
      fills = refl;
      ended = content_ended;
      epoch = one.epoch ∙ ap suc epoch;
      none = refl;
      generation = keeps.generation ∙ generation;
      grows = grown;
      sealed = ap (λ (x : Sealing). x.next) (one.seals t stands).all ∙ ap (λ (n : ℕ). n + seals_for_end own t) sealed;
    })
