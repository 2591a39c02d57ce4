-- Of a store that stands each batch is read, and the planner keeps its map.
use Rattle.std.proofs.Common.{◌≡◌, ⊎_elim, ℕ, zero, suc, ◌+◌, ◌-◌, ◌<◌, ◌≤◌, ◌^◌, ◌%◌, ◌==◌, ◌&&◌, ◌||◌, Bool, true, false, List, [], ◌∷◌, Option, Some, None, Result, Ok, Err, map, length, get_or, refl, sym, ◌∙◌, ap, subst, arith}
use Rattle.std.specs.List.{range_with_len}
use Rattle.std.specs.Prelude.{cond, ◌++◌}
use Rattle.std.proofs.lemmas.Bool.{eq-eqb, or_left, or_right, true≢false}
use Rattle.ob_base.specs.declared.params.Params.{Params}
use Rattle.ob_base.specs.declared.job.Job.{Job}
use Rattle.ob_base.specs.declared.fault.Damaged.{Damaged as Damage}
use Rattle.ob_base.specs.declared.fault.Fault.{Fault}
use Rattle.ob_base.specs.declared.fault.Fault.TheVariants.{Memory, Usage, BadScript, BadParams, NotStore, Damaged, StoreFault, StashFull, Worn, SourceFault, SinkFault}
use Rattle.ob_base.specs.Planned.{job_at}
use Rattle.ob_base.specs.Tree.{buckets, bucket_of, path}
use Rattle.ob_store.specs.Disk.{Image}
use Rattle.ob_seal.specs.declared.keys.Keys.{Keys}
use Rattle.ob_seal.specs.Damage.{IsDamage}
use Rattle.ob_seal.specs.Seals.{sealed}
use Rattle.ob_seal.proofs.Spelling.{sealed_parts}
use Rattle.ob_tables.specs.declared.entry.Entry.{Entry}
use Rattle.ob_tables.specs.Kept.{entry_at}
use Rattle.ob_tables.specs.Content.{Content, Rows, Obeys, content_of}
use Rattle.ob_store.specs.declared.event.Event.{Event}
use Rattle.ob_store.specs.Lines.{Trace}
use Rattle.ob_ring.specs.FlatTable.{FlatTable, Row, Spot, Shown, Batch, FinalLifts, after, batch_shown, final_shown, lift, leaf_of, leaf_shown, after_place, fetch, spot_of, asked_row, index_in, index_shown, mark_index, lift_order, reads, visit}
use Rattle.ob_ring.specs.Laws.{IsOrderly, seen_in}
use Rattle.ob_ring.specs.News.{Seen, with_shown, AreNew}
use Rattle.ob_ring.specs.Picked.{Picked, holder, key_shown, job_of, batch_picked, final_picked, place_picked, lift_picked, visit_picked, visits_picked}
use Rattle.ob_ring.specs.Jobs.{place_picked_at, place_shown_at}
use Rattle.ob_ring.specs.Settling.{first_fault, rows_after}
use Rattle.ob_ring.proofs.TableLaws.{shown_once, steps_keep_order}
use Rattle.ob_ring.proofs.JobLaws.{jobs_read_picks}
use Rattle.ob_ring.proofs.Lows.{IsLow, AreLow, low_batch, bucket_within, eviction_within}
use Rattle.ob_schedule.specs.Paths.{eviction_path, is_one_of}
use Rattle.ob_ring.specs.Fetching.{leaf_places, own_entry}
use Rattle.std.proofs.lemmas.Nat.{mod_below, pow_pos}
use Rattle.ob_log.specs.Logs.{BatchRecord}
use Rattle.ob_cells.specs.Jobs.{IsPlainOf, IsFirstFailing}
use Rattle.ob_stand.specs.Takes.{AreKeysLow}
use Rattle.ob_stand.specs.Values.{Values}
use Rattle.ob_stand.proofs.KeyLaws.{steps_only_take}
use Rattle.ob_stand.proofs.Taking.{batch_present}
use Rattle.ob_stand.specs.Carries.{AreRead, Slots, Carries}
use Rattle.ob_stand.specs.Epochs.{Read, AreAllRead, after_batches, rows_of_batches}
use Rattle.ob_stand.proofs.Steps.{batch_carries, lifts_carry}
use Rattle.ob_stand.specs.Table.{flat_of, lying_place, ring_of, row_for}
use Rattle.ob_stand.proofs.Reading.{tables_are_read}
use Rattle.ob_stand.proofs.Standing.{contents_carry}
use Rattle.ob_stand.specs.Reads.{slots_in}
use Rattle.ob_stand.specs.Stands.{RingStanding, Stands}
use Rattle.ob_stand.proofs.ReadLaws.{stands_valued}
use Rattle.ob_recover.specs.Repeats.{asked_of_record, table_after_records, batch_jobs, content_of_ring, AreRepeated, HasRepeated, IsRepeatDamage, IsRepeatFault, IsReplayOf, RepeatDoes, RepeatsAnswer, ReplaysStanding}
use Rattle.ob_recover.specs.declared.found.Found.{Found}
use Rattle.ob_recover.specs.Finds.{KeepsWhatStood}
use Rattle.ob_ring.specs.Ring.{Kept}
use Rattle.ob_recover.proofs.RepeatLaws.{tables_are}

-- ---- a sealed cell isn't damaged

pub not_damaged : (keys : Keys) (cell g n : ℕ) (bytes plain : List ℕ) (d : Damage) → length plain ≡ 96 → bytes ≡ sealed keys cell g n plain → IsDamage keys cell (Some (g, n)) bytes d → ⊥
not_damaged keys cell g n bytes plain d long is damage =
    let parts = sealed_parts keys cell g n bytes plain long is in
    ⊎_elim (λ wrong. wrong.differs parts.0) (λ other. other.1.differs parts.1) damage

in_tree : (p : Params) (u : ℕ) → u < 2 ^ (p.levels + 1) - 1 → u < buckets p
unfolding buckets
in_tree p u low = low

-- ---- which indexes are picked

-- an index that is shown wasn't shown before
new_at : (p : Params) (seen : Seen) (ss : List Shown) (d : Shown) (i : ℕ) → AreNew p seen ss → i < length ss → ((get_or ss i d).index < p.real + p.dummies) × (seen.shown (get_or ss i d).bucket (get_or ss i d).index ≡ false)
new_at p seen [] d i new lt = absurd (omega arith)
new_at p seen (s ∷ ss) d zero new lt = (new.0, new.1)
new_at p seen (s ∷ ss) d (suc i) new lt =
    let later = new_at p (with_shown seen s) ss d i new.3 (omega arith) in
    (later.0, off_second ((get_or ss i d).bucket == s.bucket && (get_or ss i d).index == s.index) (seen.shown (get_or ss i d).bucket (get_or ss i d).index) later.1)
  where
    off_second : (a b : Bool) → (a || b) ≡ false → b ≡ false
    off_second true b e = absurd (true≢false e)
    off_second false b e = e

-- each picked index lies in a bucket below n
abbrev AreWithin : ℕ → List Picked → Type 0
AreWithin n [] = Unit {0}
AreWithin n (q ∷ qs) = (q.bucket < n) × AreWithin n qs

both_within : (n : ℕ) (xs ys : List Picked) → AreWithin n xs → AreWithin n ys → AreWithin n (xs ++ ys)
both_within n [] ys a b = b
both_within n (x ∷ xs) ys a b = (a.0, both_within n xs ys a.1 b)

either_within : (n : ℕ) (b : Bool) (xs ys : List Picked) → AreWithin n xs → AreWithin n ys → AreWithin n (cond b xs ys)
either_within n true xs ys a b = a
either_within n false xs ys a b = b

lift_within : (n : ℕ) (p : Params) (t : FlatTable) (u : ℕ) (js : List ℕ) → u < n → AreWithin n (map (λ j. record { bucket = u; index = j; key = holder p t u j }) js)
lift_within n p t u [] low = tt
lift_within n p t u (j ∷ js) low = (low, lift_within n p t u js low)

visit_within : (n : ℕ) (p : Params) (t : FlatTable) (ask : Option ℕ) (own : Spot) (u : ℕ) → u < n → AreWithin n (visit_picked p t ask own u)
visit_within n p t ask own u low =
    let j : ℕ = index_shown p t own u in
    either_within n (t.lifted u) [] (record { bucket = u; index = j; key = key_shown ask (index_in u own) } ∷ cond (reads p t u + 1 == p.dummies) (lift_picked p (mark_index t u j) u) []) tt
    (low, either_within n (reads p t u + 1 == p.dummies) (lift_picked p (mark_index t u j) u) [] (lift_within n p (mark_index t u j) u (lift_order p (mark_index t u j) u) low) tt)

abbrev AreBelow : ℕ → List ℕ → Type 0
AreBelow n [] = Unit {0}
AreBelow n (u ∷ us) = (u < n) × AreBelow n us

visits_within : (n : ℕ) (p : Params) (t : FlatTable) (ask : Option ℕ) (own : Spot) (us : List ℕ) → AreBelow n us → AreWithin n (visits_picked p t ask own us)
visits_within n p t ask own [] low = tt
visits_within n p t ask own (u ∷ us) low = both_within n (visit_picked p t ask own u) (visits_picked p (visit p t own u) ask own us) (visit_within n p t ask own u low.0) (visits_within n p (visit p t own u) ask own us low.1)

path_from : (p : Params) (leaf a n : ℕ) → leaf < 2 ^ p.levels → a + n ≤ p.levels + 1 → AreBelow (2 ^ (p.levels + 1) - 1) (map (λ level. bucket_of p level leaf) (range_with_len a n))
path_from p leaf a zero low few = tt
path_from p leaf a (suc n) low few = (bucket_within p leaf a low (omega arith), path_from p leaf (a + 1) n low (omega arith))

low_default : (r : Option Row) (x m : ℕ) → x < m → leaf_of r 0 < m → leaf_of r x < m
low_default None x m h k = h
low_default (Some r) x m h k = k

low_shown : (p : Params) (t : FlatTable) (ask : Option ℕ) (leaf : ℕ) → leaf < 2 ^ p.levels → IsLow p t → leaf_shown t ask leaf < 2 ^ p.levels
low_shown p t None leaf h l = h
low_shown p t (Some k) leaf h l = low_default (t.rows k) leaf (2 ^ p.levels) h (l k)

low_one : (p : Params) (t : FlatTable) (a : Option ℕ × ℕ) → a.1 < 2 ^ p.levels → IsLow p t → IsLow p (after_place p t a.0 a.1)
low_one p t a low l = low_batch p t (a ∷ []) (low, tt) l

batch_within : (p : Params) (t : FlatTable) (asked : List (Option ℕ × ℕ)) → AreLow p asked → IsLow p t → AreWithin (2 ^ (p.levels + 1) - 1) (batch_picked p t asked)
batch_within p t [] low l = tt
batch_within p t (a ∷ asked) low l =
    both_within (2 ^ (p.levels + 1) - 1) (place_picked p t a.0 a.1) (batch_picked p (after_place p t a.0 a.1) asked)
    (visits_within (2 ^ (p.levels + 1) - 1) p (fetch t a.0 a.1) a.0 (spot_of (asked_row t a.0)) (path p (leaf_shown t a.0 a.1)) (path_from p (leaf_shown t a.0 a.1) 0 (p.levels + 1) (low_shown p t a.0 a.1 low.0 l) (omega arith)))
    (batch_within p (after_place p t a.0 a.1) asked low.1 (low_one p t a low.0 l))

abbrev no_pick : Picked
no_pick = record { bucket = 0; index = 0; key = None }

within_at : (n : ℕ) (qs : List Picked) (i : ℕ) → AreWithin n qs → i < length qs → (get_or qs i no_pick).bucket < n
within_at n [] i all lt = absurd (omega arith)
within_at n (q ∷ qs) zero all lt = all.0
within_at n (q ∷ qs) (suc i) all lt = within_at n qs i all.1 (omega arith)

-- the leaves of a record's places
own_low : (p : Params) (asks : List (Option ℕ)) (words : List ℕ) (first : ℕ × ℕ) (a n : ℕ) → AreLow p (leaf_places (map (λ i. (get_or asks i None, own_entry p words first i)) (range_with_len a n)))
own_low p asks words first a zero = tt
own_low p asks words first a (suc n) = (word_low, own_low p asks words first (a + 1) n)
  where
    word_low : get_or words a 0 % 2 ^ p.levels < 2 ^ p.levels
    word_low = mod_below (get_or words a 0) (2 ^ p.levels) (pow_pos p.levels)

pub asked_low : (p : Params) (r : BatchRecord) → AreLow p (asked_of_record p r)
asked_low p r = own_low p r.asks r.words (r.generation, r.first) 0 (length r.asks)

-- ---- the lists of what is picked and shown

length-map : {X Y : Type 0} (f : X → Y) (xs : List X) → length (map f xs) ≡ length xs
length-map f [] = refl
length-map f (x ∷ xs) = ap suc (length-map f xs)

get_or-map : {X Y : Type 0} (f : X → Y) (xs : List X) (i : ℕ) (d : X) (e : Y) → i < length xs → get_or (map f xs) i e ≡ f (get_or xs i d)
get_or-map f [] i d e lt = absurd (omega arith)
get_or-map f (x ∷ xs) zero d e lt = refl
get_or-map f (x ∷ xs) (suc i) d e lt = get_or-map f xs i d e (omega arith)

abbrev no_show : Shown
no_show = record { bucket = 0; number = 0; index = 0 }

-- picked indexes are one of their bucket's each, and weren't shown
abbrev ArePicksNew : Params → FlatTable → List Picked → Type 0
ArePicksNew p t qs = (i : ℕ) → i < length qs → ((get_or qs i no_pick).index < p.real + p.dummies) × (t.used (get_or qs i no_pick).bucket (get_or qs i no_pick).index ≡ false)

picks_new : (p : Params) (t : FlatTable) (qs : List Picked) (ss : List Shown) → map place_picked_at qs ≡ map place_shown_at ss → AreNew p (seen_in p t) ss → ArePicksNew p t qs
picks_new p t qs ss same once i lt =
    let many : length qs ≡ length ss = sym (length-map place_picked_at qs) ∙ ap length same ∙ length-map place_shown_at ss in
    let low : i < length ss = omega arith in
    let here : place_picked_at (get_or qs i no_pick) ≡ place_shown_at (get_or ss i no_show) =
    sym (get_or-map place_picked_at qs i no_pick (0, 0) lt) ∙ ap (λ (l : List (ℕ × ℕ)). get_or l i (0, 0)) same ∙ get_or-map place_shown_at ss i no_show (0, 0) low in
    let new = new_at p (seen_in p t) ss no_show i once low in
    let bucket : (get_or qs i no_pick).bucket ≡ (get_or ss i no_show).bucket = ap (λ (x : ℕ × ℕ). x.0) here in
    let index : (get_or qs i no_pick).index ≡ (get_or ss i no_show).index = ap (λ (x : ℕ × ℕ). x.1) here in
    (subst (λ n. n < p.real + p.dummies) (sym index) new.0, ap (λ n. t.used n (get_or qs i no_pick).index) bucket ∙ ap (λ n. t.used (get_or ss i no_show).bucket n) index ∙ new.1)

-- those of a batch, and of the final lifts
batch_new : (p : Params) (t : FlatTable) (asked : List (Option ℕ × ℕ)) → IsOrderly p t → ArePicksNew p t (batch_picked p t asked)
batch_new p t asked orderly = picks_new p t (batch_picked p t asked) (batch_shown p t asked) (jobs_read_picks.batch p t asked) (shown_once p t (Batch asked) orderly)

lifts_new : (p : Params) (t : FlatTable) → IsOrderly p t → ArePicksNew p t (final_picked p t (eviction_path p t.counter))
lifts_new p t orderly = picks_new p t (final_picked p t (eviction_path p t.counter)) (final_shown p t (eviction_path p t.counter)) (jobs_read_picks.lifts p t) (shown_once p t FinalLifts orderly)

unless_within : (n : ℕ) (b : Bool) (xs : List Picked) → AreWithin n xs → AreWithin n (cond b [] xs)
unless_within n true xs within = tt
unless_within n false xs within = within

final_within : (n : ℕ) (p : Params) (t : FlatTable) (us : List ℕ) → ((u : ℕ) → is_one_of us u ≡ true → u < n) → AreWithin n (final_picked p t us)
final_within n p t [] low = tt
final_within n p t (u ∷ us) low =
    both_within n (cond (t.lifted u) [] (lift_picked p t u)) (final_picked p (cond (t.lifted u) t (lift t u)) us)
    (unless_within n (t.lifted u) (lift_picked p t u) (lift_within n p t u (lift_order p t u) (low u (or_left (u == u) (is_one_of us u) (eq-eqb u u refl)))))
    (final_within n p (cond (t.lifted u) t (lift t u)) us (λ v on. low v (or_right (u == v) (is_one_of us v) on)))

-- ---- over the batches

-- what is true of the table after each batch: it began as the content's
pub record Goes (p : Params) (t0 t : FlatTable) : Type 0 where
  pub orderly : IsOrderly p t
  pub low : IsLow p t
  pub keys : AreKeysLow p t
  pub unshown : (u j : ℕ) → t.used u j ≡ false → t0.used u j ≡ false

goes_more : (p : Params) (t0 t : FlatTable) (r : BatchRecord) → Goes p t0 t → Goes p t0 (after p t (Batch (asked_of_record p r)))
goes_more p t0 t r g = record {
  orderly = steps_keep_order p t (Batch (asked_of_record p r)) g.orderly;
  low = low_batch p t (asked_of_record p r) (asked_low p r) g.low;
  keys = λ k is. g.keys k (sym (batch_present p t (asked_of_record p r) k) ∙ is);
  unshown = λ u j free. g.unshown u j ((steps_only_take.batch p t (asked_of_record p r) u g.orderly g.keys).used j free);
}

goes_all : (p : Params) (t0 t : FlatTable) (rs : List BatchRecord) → Goes p t0 t → Goes p t0 (table_after_records p t rs)
goes_all p t0 t [] g = g
goes_all p t0 t (r ∷ rs) g = goes_all p t0 (after p t (Batch (asked_of_record p r))) rs (goes_more p t0 t r g)

carried : (p : Params) (slots : Slots) (m : Values) (t : FlatTable) (rows : Rows) (bs : List Read) → IsOrderly p t → Carries p t rows slots m → AreAllRead p slots t bs → Carries p (after_batches p t bs) (rows_of_batches rows bs) slots m
carried p slots m t rows [] orderly carries read = carries
carried p slots m t rows (b ∷ bs) orderly carries read =
    carried p slots m (after p t (Batch b.0)) (rows_after rows b.1) bs (steps_keep_order p t (Batch b.0) orderly) (batch_carries p t b.0 rows slots m b.1 orderly carries read.0).carries read.1

module _ (keys : Keys) (p : Params) (s : RingStanding) (image : Image) (stands : Stands keys p s image) where
  abbrev c : Content
  c = s.content

  abbrev t0 : FlatTable
  t0 = flat_of p c

  abbrev slots : Slots
  slots = slots_in keys p c image

  obeys : Obeys p c
  obeys = stands.holds.obeys

  begins : Goes p t0 t0
  begins = record { orderly = (tables_are_read p c obeys).orderly; low = leaves; keys = present; unshown = λ u j free. free }
    where
      row_low : (e : Option Entry) (spot : Spot) → ((x : Entry) → e ≡ Some x → x.leaf < 2 ^ p.levels) → leaf_of (row_for e spot) 0 < 2 ^ p.levels
      row_low None spot fits = pow_pos p.levels
      row_low (Some x) spot fits = fits x refl

      leaves : IsLow p t0
      leaves k = row_low (entry_at c.book k) (lying_place p c.versions k) (λ x is. (obeys.book.entries k x is).leaf)

      present : AreKeysLow p t0
      present = (contents_carry p c slots s.map obeys (stands_valued keys p s image stands)).low

  -- a job that is picked is read
  job_read : (t : FlatTable) (qs : List Picked) (i : ℕ) → Goes p t0 t → AreWithin (2 ^ (p.levels + 1) - 1) qs → ArePicksNew p t qs → i < length qs → (plain : List ℕ) × IsPlainOf keys image (job_of p c.versions (get_or qs i no_pick)) plain
  job_read t qs i goes within are_new lt =
      let q : Picked = get_or qs i no_pick in
      let new = are_new i lt in
      let low : q.bucket < buckets p = in_tree p q.bucket (within_at (2 ^ (p.levels + 1) - 1) qs i within lt) in
      let was = stands.holds.slots.spelled q.bucket q.index low new.0 (goes.unshown q.bucket q.index new.1) in
      (stands.holds.slots.slots q.bucket q.index, record { whole = was.long; spelled = was.spelled })

  no_pick_fails : (t : FlatTable) (qs : List Picked) (d : Damage) → Goes p t0 t → AreWithin (2 ^ (p.levels + 1) - 1) qs → ArePicksNew p t qs → IsFirstFailing keys image (map (job_of p c.versions) qs) (Damaged d.cell d.check d.kept d.computed) → ⊥
  no_pick_fails t qs d goes within are_new failing =
      let i : ℕ = failing.job in
      let lt : i < length qs = (let w = failing.within in let m : length (map (job_of p c.versions) qs) ≡ length qs = length-map (job_of p c.versions) qs in omega arith) in
      let read = job_read t qs i goes within are_new lt in
      let job : Job = job_of p c.versions (get_or qs i no_pick) in
      let same : job_at (map (job_of p c.versions) qs) i ≡ job = get_or-map (job_of p c.versions) qs i no_pick (record { cell = 0; generation = 0; number = 0; key = None; result = None }) lt in
      let damage : IsDamage keys job.cell (Some (job.generation, job.number)) (image job.cell) d = subst (λ (j : Job). IsDamage keys j.cell (Some (j.generation, j.number)) (image j.cell) d) same failing.fails in
      not_damaged keys job.cell job.generation job.number (image job.cell) read.0 d read.1.whole read.1.spelled damage

  none_fails : (t : FlatTable) (r : BatchRecord) (d : Damage) → Goes p t0 t → IsFirstFailing keys image (batch_jobs p c.versions t (asked_of_record p r)) (Damaged d.cell d.check d.kept d.computed) → ⊥
  none_fails t r d goes failing =
      no_pick_fails t (batch_picked p t (asked_of_record p r)) d goes (batch_within p t (asked_of_record p r) (asked_low p r) goes.low) (batch_new p t (asked_of_record p r) goes.orderly) failing

  carries_to : (rs : List BatchRecord) (rows : Rows) → AreRepeated p slots t0 c.rows rows rs → Carries p (table_after_records p t0 rs) rows slots s.map
  carries_to rs rows all =
      subst (λ (t : FlatTable). Carries p t rows slots s.map) (tables_are p slots t0 all.batches rs all.asked)
      (subst (λ (rows' : Rows). Carries p (after_batches p t0 all.batches) rows' slots s.map) (sym all.rows_are)
      (carried p slots s.map t0 c.rows all.batches begins.orderly (contents_carry p c slots s.map obeys (stands_valued keys p s image stands)) all.read))

  -- the planner keeps the map
  pub map_kept : (rows : Rows) → AreRepeated p slots t0 c.rows rows s.records → Carries p (table_after_records p t0 s.records) rows slots s.map
  map_kept rows all = carries_to s.records rows all

  -- and nothing is damaged
  pub none_damaged : (rs : List BatchRecord) (d : Damage) → IsRepeatDamage keys p image c rs d → ⊥
  none_damaged rs d was =
      let goes = goes_all p t0 t0 was.before begins in
      ⊎_elim (λ failing. none_fails (table_after_records p t0 was.before) was.broken d goes failing)
      (λ row. (let settles = batch_carries p (table_after_records p t0 was.before) (asked_of_record p was.broken) was.rows slots s.map row.jobs goes.orderly (carries_to was.before was.rows was.read) row.read in
      let none : None ≡ Some d = sym settles.fault ∙ row.first in cc)) was.damage

  -- nor is anything of the final lifts behind the records' batches
  abbrev t_then : FlatTable
  t_then = table_after_records p t0 s.records

  pub no_lift_fails : (d : Damage) → IsFirstFailing keys image (map (job_of p c.versions) (final_picked p t_then (eviction_path p t_then.counter))) (Damaged d.cell d.check d.kept d.computed) → ⊥
  no_lift_fails d failing =
      let goes = goes_all p t0 t0 s.records begins in
      no_pick_fails t_then (final_picked p t_then (eviction_path p t_then.counter)) d goes (final_within (2 ^ (p.levels + 1) - 1) p t_then (eviction_path p t_then.counter) (eviction_within p t_then.counter)) (lifts_new p t_then goes.orderly) failing

  pub no_lift_breaks : (rows : Rows) (js : List Job) → AreRepeated p slots t0 c.rows rows s.records → AreRead slots (final_picked p t_then (eviction_path p t_then.counter)) js → first_fault js ≡ None
  no_lift_breaks rows js all read = (lifts_carry p t_then rows slots s.map js (goes_all p t0 t0 s.records begins).orderly (map_kept rows all) read).fault

-- ---- the answers of a replay

module _ (keys : Keys) (p : Params) (s : RingStanding) (image : Image) (stands : Stands keys p s image) (found : Found) (is : KeepsWhatStood s found) (o : Kept) (rs : List BatchRecord)
    (made : o ≡ ring_of p found.tables) (logged : rs ≡ found.records) (rows : Rows) where
  pub replayed_well : RepeatsAnswer keys o image rs rows (Ok tt) → Carries p (table_after_records p (flat_of p s.content) s.records) rows (slots_in keys p s.content image) s.map
  replayed_well all =
      map_kept keys p s image stands rows
      (subst (λ (l : List BatchRecord). AreRepeated p (slots_in keys p s.content image) (flat_of p s.content) s.content.rows rows l) (logged ∙ is.records)
      (subst (λ (c : Content). AreRepeated p (slots_in keys p c image) (flat_of p c) c.rows rows rs) is.content
      (subst (λ (r : Kept). RepeatsAnswer keys r image rs rows (Ok tt)) made all)))

  damage_of : (d : Damage) → RepeatsAnswer keys o image rs rows (Err (Damaged d.cell d.check d.kept d.computed)) → IsRepeatDamage keys p image s.content rs d
  damage_of d was =
      subst (λ (c : Content). IsRepeatDamage keys p image c rs d) is.content
      (subst (λ (r : Kept). RepeatsAnswer keys r image rs rows (Err (Damaged d.cell d.check d.kept d.computed))) made was)

  pub replayed_badly : (f : Fault) → IsRepeatFault f → RepeatsAnswer keys o image rs rows (Err f) → ReplaysStanding keys p image s (Err f)
  replayed_badly Memory fault was = absurd fault
  replayed_badly Usage fault was = absurd fault
  replayed_badly (BadScript line) fault was = absurd fault
  replayed_badly (BadParams field) fault was = absurd fault
  replayed_badly NotStore fault was = absurd fault
  replayed_badly (Damaged cell check kept computed) fault was = absurd (none_damaged keys p s image stands rs (record { cell = cell; check = check; kept = kept; computed = computed }) (damage_of (record { cell = cell; check = check; kept = kept; computed = computed }) was))
  replayed_badly (StoreFault unsure) fault was = tt
  replayed_badly (StashFull full) fault was = absurd fault
  replayed_badly (Worn number) fault was = absurd fault
  replayed_badly SourceFault fault was = absurd fault
  replayed_badly SinkFault fault was = absurd fault

-- ---- a replay of what was found, by the repeats of its records

module _ (p : Params) (found : Found) (o : Kept) (rs : List BatchRecord) (made : o ≡ ring_of p found.tables) (logged : rs ≡ found.records) where
  pub found_repeated : (ring : Kept) → HasRepeated o rs ring → HasRepeated (ring_of p found.tables) found.records ring
  found_repeated ring has = subst (λ (l : List BatchRecord). HasRepeated (ring_of p found.tables) l ring) logged (subst (λ (r : Kept). HasRepeated r rs ring) made has)

  pub found_does : (most : ℕ) (old new : Option (List Event)) (before after : Trace) (r : Result (Unit {0}) Fault) → RepeatDoes most o.p (content_of_ring o) rs old new before after r
      → RepeatDoes most p (content_of found.tables) found.records old new before after r
  found_does most old new before after r does =
      subst (λ (l : List BatchRecord). RepeatDoes most p (content_of found.tables) l old new before after r) logged (subst (λ (x : Kept). RepeatDoes most x.p (content_of_ring x) rs old new before after r) made does)

  module _ (keys : Keys) (image : Image) (rows : Rows) where
    pub found_answer : (r : Result (Unit {0}) Fault) → RepeatsAnswer keys o image rs rows r → RepeatsAnswer keys (ring_of p found.tables) image found.records rows r
    found_answer r was = subst (λ (l : List BatchRecord). RepeatsAnswer keys (ring_of p found.tables) image l rows r) logged (subst (λ (x : Kept). RepeatsAnswer keys x image rs rows r) made was)

    refused_as : (f : Fault) → RepeatsAnswer keys (ring_of p found.tables) image found.records rows (Err f) → IsReplayOf keys p image found (Err f)
    refused_as Memory was = was
    refused_as Usage was = was
    refused_as (BadScript line) was = was
    refused_as (BadParams field) was = was
    refused_as NotStore was = was
    refused_as (Damaged cell check kept computed) was = was
    refused_as (StoreFault unsure) was = was
    refused_as (StashFull full) was = was
    refused_as (Worn number) was = was
    refused_as SourceFault was = was
    refused_as SinkFault was = was

    pub found_refused : (f : Fault) → RepeatsAnswer keys o image rs rows (Err f) → IsReplayOf keys p image found (Err f)
    found_refused f was = refused_as f (found_answer (Err f) was)
