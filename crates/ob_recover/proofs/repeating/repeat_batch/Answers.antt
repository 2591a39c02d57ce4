use Rattle.std.proofs.Common.{◌≡◌, ◌∙◌, ℕ, List, Option, Some, None, OnOk, ap, length, slice_index_or, subst}
use Rattle.ob_log.specs.Logs.{BatchRecord}
use Rattle.ob_recover.proofs.BatchLaws.{record_is}
use Rattle.ob_recover.specs.Repeats.{BatchAnswers, BatchTells, asked_of_record, batch_cells, record_places, repeated_notes, RowsJoin}
use Rattle.ob_ring.specs.Fetching.{after_labels}
use Rattle.ob_ring.specs.FlatTable.{Batch, after}
use Rattle.ob_ring.specs.Picked.{batch_picked}
use Rattle.ob_ring.specs.Ring.{StandsFor}
use Rattle.ob_tables.specs.Kept.{entry_at}
use Rattle.ob_recover.proofs.repeating.repeat_batch.Goals as goal

pub returns-clause-entries : goal.returns-clause-entries
returns-clause-entries g c = λ k.
    let r = c.args.logged.now in
    let same = record_is r c.generation-generation.result c.first-first.result c.asks-asks.result.now c.words-words.result.now c.generation-generation.ensures c.first-first.ensures c.asks-asks.ensures c.words-words.ensures in
    subst (λ (x : BatchRecord). entry_at c.read_batch.new.ring.book k ≡ after_labels (λ i. entry_at c.args.ring.now.book i) (record_places c.args.ring.now.p x) k) same (c.read_batch.ensures.entries r.batch r.number k)

pub returns-clause-table : goal.returns-clause-table
returns-clause-table g c = λ t stands.
    let r = c.args.logged.now in
    let same = record_is r c.generation-generation.result c.first-first.result c.asks-asks.result.now c.words-words.result.now c.generation-generation.ensures c.first-first.ensures c.asks-asks.ensures c.words-words.ensures in
    subst (λ (x : BatchRecord). StandsFor c.read_batch.new.ring (after c.args.ring.now.p t (Batch (asked_of_record c.args.ring.now.p x)))) same (c.read_batch.ensures.table r.batch r.number t stands)

pub returns-clause-value : goal.returns-clause-value
returns-clause-value g c = λ start t seals stands tells.
    let r = c.args.logged.now in
    let same = record_is r c.generation-generation.result c.first-first.result c.asks-asks.result.now c.words-words.result.now c.generation-generation.ensures c.first-first.ensures c.asks-asks.ensures c.words-words.ensures in
    subst (λ (x : BatchRecord). BatchAnswers c.args.sealer.now.keys c.args.ring.now.p start.versions (g.S.Store.disk c.args.store.now).cells t x c.args.ring.now.stash.rows c.read_batch.new.ring.stash.rows c.read_batch.result) same
    (c.read_batch.ensures.value r.batch r.number start t seals stands tells)

pub returns-clause-told : goal.returns-clause-told
returns-clause-told g c = λ start t seals stands.
    let r = c.args.logged.now in
    let p = c.args.ring.now.p in
    let same = record_is r c.generation-generation.result c.first-first.result c.asks-asks.result.now c.words-words.result.now c.generation-generation.ensures c.first-first.ensures c.asks-asks.ensures c.words-words.ensures in
    subst (λ (x : BatchRecord). BatchTells c.args.crew.now.lanes (batch_cells p start.versions t (asked_of_record p x)) (repeated_notes p start.versions t (asked_of_record p x)) (g.S.Store.disk c.args.store.now).seen
    (g.S.Store.disk c.read_batch.new.store).seen (g.W.Watch.trace c.args.watch.now) (g.W.Watch.trace c.read_batch.new.watch) c.read_batch.result) same (c.read_batch.ensures.told r.batch r.number start t seals stands)

pub returns-clause-joins : goal.returns-clause-joins
returns-clause-joins g c = λ t stands.
    let r = c.args.logged.now in
    let ring = c.args.ring.now in
    let same = record_is r c.generation-generation.result c.first-first.result c.asks-asks.result.now c.words-words.result.now c.generation-generation.ensures c.first-first.ensures c.asks-asks.ensures c.words-words.ensures in
    subst (λ (x : BatchRecord). OnOk c.read_batch.result (RowsJoin (batch_picked ring.p t (asked_of_record ring.p x)) ring.stash.rows c.read_batch.new.ring.stash.rows)) same (c.read_batch.ensures.joins r.batch r.number t stands)

-- ---- the batch may be read

pub read_batch-requires-clause-asks : goal.read_batch-requires-clause-asks
read_batch-requires-clause-asks g c κs within = ap (λ (xs : List (Option ℕ)). length xs) c.asks-asks.ensures ∙ c.requires.fits.1.asks_many

pub read_batch-requires-clause-words : goal.read_batch-requires-clause-words
read_batch-requires-clause-words g c κs within = ap (λ (xs : List ℕ). length xs) c.words-words.ensures ∙ c.requires.fits.1.words_many

pub read_batch-requires-clause-keys_low : goal.read_batch-requires-clause-keys_low
read_batch-requires-clause-keys_low g c κs within = λ i k is. c.requires.fits.1.keys_low i k (subst (λ (xs : List (Option ℕ)). slice_index_or xs i None ≡ Some k) c.asks-asks.ensures is)

pub read_batch-requires-clause-stands : goal.read_batch-requires-clause-stands
read_batch-requires-clause-stands g c κs within = c.requires.stands

pub read_batch-requires-clause-jobs : goal.read_batch-requires-clause-jobs
read_batch-requires-clause-jobs g c κs within = c.requires.jobs

pub read_batch-requires-clause-crew : goal.read_batch-requires-clause-crew
read_batch-requires-clause-crew g c κs within = c.requires.crew

-- ---- what its read says

pub returns-clause-serves : goal.returns-clause-serves
returns-clause-serves g c = c.read_batch.ensures.serves

pub returns-clause-faults : goal.returns-clause-faults
returns-clause-faults g c = c.read_batch.ensures.faults

pub returns-clause-keeps : goal.returns-clause-keeps
returns-clause-keeps g c = c.read_batch.ensures.keeps

pub returns-clause-passes : goal.returns-clause-passes
returns-clause-passes g c = c.read_batch.ensures.passes

pub returns-clause-crew : goal.returns-clause-crew
returns-clause-crew g c = c.read_batch.ensures.crew

pub returns-clause-rooms : goal.returns-clause-rooms
returns-clause-rooms g c = c.read_batch.ensures.rooms

pub returns-clause-kept : goal.returns-clause-kept
returns-clause-kept g c = c.read_batch.ensures.kept

pub returns-clause-room : goal.returns-clause-room
returns-clause-room g c = c.read_batch.ensures.room

pub returns-clause-seals : goal.returns-clause-seals
returns-clause-seals g c = c.read_batch.ensures.seals

pub returns-clause-fit : goal.returns-clause-fit
returns-clause-fit g c = c.read_batch.ensures.fit
