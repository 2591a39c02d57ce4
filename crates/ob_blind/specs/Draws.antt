-- What calls draw in two stores that differ in words of buckets, and in what these decide: labels are equal, and picks are one list.
use Rattle.std.specs.Prelude.{◌≡◌, ℕ, List, [], ◌∷◌, drop, length, map, Option, None, Some, take}
use Rattle.ob_base.specs.declared.params.Params.{Params}
use Rattle.ob_tables.specs.Buckets.{version_at}
use Rattle.ob_tables.specs.Content.{Content}
use Rattle.ob_tables.specs.Kept.{entry_at}
use Rattle.ob_ring.specs.FlatTable.{Shown}
use Rattle.ob_stand.specs.Table.{flat_of}
use Rattle.ob_log.specs.Logs.{BatchRecord}
use Rattle.ob_recover.specs.Bridge.{slot_read_off}
use Rattle.ob_recover.specs.Known.{slot_kept}
use Rattle.ob_schedule.specs.Schedule.{Fills}
use Rattle.ob_serial.specs.Vaults.{End, Fetch, VaultCall}
use Rattle.ob_fetch.specs.Fetches.{words_since}
use Rattle.ob_vault.specs.Hidden.{RingDraws, RingHidden, table_hidden}
use Rattle.ob_vault.specs.KindShown.{AreDrawn}
use Rattle.ob_vault.specs.RingKind.{ring_kind}
use Rattle.ob_vault.specs.Shapes.{Shape}

-- ---- what is common to both stores

-- a record but for the number that its first cell is sealed with
abbrev pub unnumbered : BatchRecord → BatchRecord
unnumbered r = record r { number = 0 }

-- Two vaults hide one table and the same entries, behind the same epoch, with the same records, in one generation of which equally many words
-- were drawn. Their slots, homes, rows and seals may differ, and so may the words that they drew.
pub record AreHiddenAlike (p : Params) (one other : RingHidden) : Type 0 where
  pub epoch : one.epoch ≡ other.epoch
  pub table : flat_of p one.content ≡ flat_of p other.content
  pub entries : (k : ℕ) → entry_at (one.content).book k ≡ entry_at (other.content).book k
  pub records : map unnumbered one.records ≡ map unnumbered other.records
  pub generation : one.generation ≡ other.generation
  pub drawn : length one.words ≡ length other.words

-- ---- the calls of both

-- a write's value erased: whether there is one
abbrev pub value_erased : Option (List ℕ) → Option (List ℕ)
value_erased None = None
value_erased (Some value) = Some []

abbrev pub write_erased : ℕ × Option (List ℕ) → ℕ × Option (List ℕ)
write_erased w = (w.0, value_erased w.1)

-- which keys a call asks for, or puts and deletes
abbrev pub call_erased : VaultCall → VaultCall
call_erased (Fetch asks) = Fetch asks
call_erased (End writes) = End (map write_erased writes)

-- the words that a call draws for labels: a batch's, one for each place, and the first ones of an end's, one for each write
abbrev pub label_words : Params → VaultCall → (h behind : RingHidden) → List ℕ
label_words p (Fetch asks) h behind = words_since h.words behind.words
label_words p (End writes) h behind = take p.writes (words_since h.words behind.words)

-- and those that an end draws for the slots of the buckets that it fills anew
abbrev pub words_of_buckets : Params → (h behind : RingHidden) → List ℕ
words_of_buckets p h behind = drop p.writes (words_since h.words behind.words)

-- ---- what they fill

-- The labels are the same; the slots of each are those that its content has of one list of picks; and what is hidden then is alike again.
pub record AreFilledAlike (p : Params) (one other : RingHidden) (f g : Fills) (behind then : RingHidden) : Type 0 where
  pub labels : f.label ≡ g.label
  pub picked : List Shown
  pub slots : f.slot ≡ slot_read_off (slot_kept one.content) picked
  pub others : g.slot ≡ slot_read_off (slot_kept other.content) picked
  pub alike : AreHiddenAlike p behind then

-- ---- rows of calls

-- Call by call, both ask for the same keys, or put and delete the same ones, and the words that they draw for labels agree.
abbrev pub AgreeInLabels : (p : Params) (one other : RingHidden) (calls others : List VaultCall) (steps fills : List (Shape × Fills)) (behind then : RingHidden) → AreDrawn ring_kind p one calls steps behind → AreDrawn ring_kind p other others fills then → Type 0
AgreeInLabels p one other [] [] [] [] behind then drawn again = Unit {0}
AgreeInLabels p one other (c ∷ cs) (d ∷ ds) (s ∷ ss) (r ∷ rs) behind then (mid, draws, rest) (half, redraws, more) =
    (call_erased c ≡ call_erased d) × (label_words p c one mid ≡ label_words p d other half) × AgreeInLabels p mid half cs ds ss rs behind then rest more
AgreeInLabels p one other _ _ _ _ behind then drawn again = ⊥

-- call by call they are filled alike, and behind the last one the same is hidden
abbrev pub AreAllFilledAlike : (p : Params) (one other : RingHidden) (calls others : List VaultCall) (steps fills : List (Shape × Fills)) (behind then : RingHidden) → AreDrawn ring_kind p one calls steps behind → AreDrawn ring_kind p other others fills then → Type 0
AreAllFilledAlike p one other [] [] [] [] behind then drawn again = AreHiddenAlike p behind then
AreAllFilledAlike p one other (c ∷ cs) (d ∷ ds) (s ∷ ss) (r ∷ rs) behind then (mid, draws, rest) (half, redraws, more) = AreFilledAlike p one other s.1 r.1 mid half × AreAllFilledAlike p mid half cs ds ss rs behind then rest more
AreAllFilledAlike p one other _ _ _ _ behind then drawn again = ⊥

-- ---- the law

-- each bucket has the same slots in both
abbrev pub HaveSameSlots : Content → Content → Type 0
HaveSameSlots c d = (u : ℕ) → (version_at c.versions u).ranks ≡ (version_at d.versions u).ranks

pub record DrawsAreBlind : Type 0 where
  -- a call
  pub call : (p : Params) (one other : RingHidden) (c d : VaultCall) (f g : Fills) (behind then : RingHidden) → AreHiddenAlike p one other → call_erased c ≡ call_erased d → RingDraws p one c f behind → RingDraws p other d g then
      → label_words p c one behind ≡ label_words p d other then → AreFilledAlike p one other f g behind then
  -- a row of calls
  pub row : (p : Params) (one other : RingHidden) (calls others : List VaultCall) (steps fills : List (Shape × Fills)) (behind then : RingHidden) → AreHiddenAlike p one other
      → (drawn : AreDrawn ring_kind p one calls steps behind) (again : AreDrawn ring_kind p other others fills then) → AgreeInLabels p one other calls others steps fills behind then drawn again
      → AreAllFilledAlike p one other calls others steps fills behind then drawn again
  -- The other way round: from one table, ends of any writes, with any words for these, leave the same slots where the words of the buckets
  -- agree.
  pub slots : (p : Params) (one other : RingHidden) (writes others : List (ℕ × Option (List ℕ))) (f g : Fills) (behind then : RingHidden) → table_hidden p one ≡ table_hidden p other → HaveSameSlots one.content other.content
      → RingDraws p one (End writes) f behind → RingDraws p other (End others) g then → words_of_buckets p one behind ≡ words_of_buckets p other then → HaveSameSlots behind.content then.content
