-- What a store keeps to itself where a life has it: content, records and words, made of the life's state and its tape alone.
use Rattle.std.specs.Prelude.{ℕ, ◌+◌, cond, List, [], ◌∷◌, map, length, Option, None, Some}
use Rattle.std.proofs.Common.{zero, suc}
use Rattle.std.specs.FinMap as finite
use Rattle.ob_base.specs.Tree.{below, buckets, width}
use Rattle.ob_base.specs.declared.params.Params.{Params}
use Rattle.ob_fresh.specs.Drawn.{words_on}
use Rattle.ob_log.specs.Logs.{BatchRecord}
use Rattle.ob_recover.specs.Life.{LifeBatch, LifeContent, LifeState, WordId, leaf_of_word}
use Rattle.ob_ring.specs.FlatTable.{FlatTable, in_stash}
use Rattle.ob_ring.specs.Picked.{holder}
use Rattle.ob_tables.specs.Content.{Content, Rows}
use Rattle.ob_tables.specs.Version.{Version}
use Rattle.ob_tables.specs.declared.entry.Entry.{Entry}
use Rattle.ob_vault.specs.Hidden.{RingHidden}

-- a bucket, with its place, the keys that lie in it, the slots of its indexes, and which of these were shown
abbrev pub version_hidden : Params → LifeContent → ℕ → Version
version_hidden p c u = record { home = c.home u; generation = 0; base = 0; keys = map (holder p c.table u) (below p.real); ranks = map (c.slot u) (below (width p)); used = map (c.table.used u) (below (width p)) }

-- an empty value for each key below n that lies in no bucket
abbrev pub rows_hidden : FlatTable → ℕ → Rows
rows_hidden t zero = finite.empty
rows_hidden t (suc n) = cond (in_stash (t.rows n)) (finite.insert (rows_hidden t n) n []) (rows_hidden t n)

module _ (p : Params) (tape : WordId → ℕ) where
  -- the entry that keeps a word
  abbrev pub entry_hidden : Option WordId → Option Entry
  entry_hidden None = None
  entry_hidden (Some w) = Some (record { generation = w.generation; index = w.place; leaf = leaf_of_word p tape w })

  abbrev pub content_hidden : LifeContent → Content
  content_hidden c = record { counter = c.table.counter; book = map (λ k. entry_hidden (c.book k)) (below p.keys); versions = map (version_hidden p c) (below (buckets p)); rows = rows_hidden c.table p.keys }

  -- the words of a generation, from a place on
  abbrev pub words_hidden : WordId → ℕ → List ℕ
  words_hidden first n = map (λ i. tape (words_on first i)) (below n)

  -- the record of a batch of this number
  abbrev pub record_hidden : ℕ → LifeBatch → BatchRecord
  record_hidden b r = record { batch = b; generation = r.first.generation; number = 0; first = r.first.place; asks = r.asks; words = words_hidden r.first (length r.asks) }

  abbrev pub records_hidden : ℕ → List LifeBatch → List BatchRecord
  records_hidden b [] = []
  records_hidden b (r ∷ log) = record_hidden b r ∷ records_hidden (b + 1) log

  -- with so many seals of the generation
  abbrev pub hidden_in : LifeState → ℕ → RingHidden
  hidden_in s seals = record { epoch = s.epoch; content = content_hidden s.content; records = records_hidden 0 s.log; generation = s.generation; words = words_hidden (record { generation = s.generation; place = 0 }) s.drawn; seals = seals }
