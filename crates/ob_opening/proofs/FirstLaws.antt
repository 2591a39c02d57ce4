-- What a store holds as it is formatted.
use Rattle.std.proofs.Common.{◌≡◌, ◌≢◌, ◌⊎◌, ⊎_elim, inl, inr, ℕ, zero, suc, true, false, ◌+◌, ◌*◌, ◌<◌, ◌≤◌, ◌^◌, List, [], ◌∷◌, ◌++◌, map, take, drop, length, get_or, refl, sym, ◌∙◌, ap, subst, arith, length-append}
use Rattle.std.proofs.Math.Nat.{mul-le-mul_right}
use Rattle.std.proofs.lemmas.List.{get_or_append_left, get_or-append-add}
use Rattle.std.proofs.lemmas.List.FromFn.{get_or-map-range_with_len, length-map-range_with_len}
use Rattle.ob_base.specs.declared.params.Params.{Params}
use Rattle.ob_base.specs.Tree.{below, buckets, width}
use Rattle.ob_base.specs.Layout.{check_cell, log_cell, log_cells, log_gate, record_cells, slot_cell}
use Rattle.ob_base.proofs.Bounds.{buckets_le}
use Rattle.ob_store.specs.Disk.{Disk, Image}
use Rattle.ob_store.specs.Images.{IsSynced, SameBut, LeavesOnly}
use Rattle.ob_store.proofs.Moments.{then_on, weakened}
use Rattle.ob_seal.specs.declared.keys.Keys.{Keys}
use Rattle.ob_twin.specs.Bodies.{open_gate}
use Rattle.ob_twin.specs.Keyed.{tagging}
use Rattle.ob_twin.specs.Opening.{GatesAre}
use Rattle.ob_twin.specs.Register.{StandsAt, gate_at}
use Rattle.ob_twin.specs.declared.gates.Open.{Open}
use Rattle.ob_recover.specs.Known.{format_gates}
use Rattle.ob_twin.proofs.Frames.{register_moved}
use Rattle.ob_twin.proofs.Moves.{closed-isnt-open}
use Rattle.ob_start.specs.Heads.{head_cell, IsHead}
use Rattle.ob_start.specs.Laying.{AreShut, HasNoHead, IsOpenAlone, IsTornHead, LieBehind}
use Rattle.ob_start.proofs.Spelling.{head_is}
use Rattle.ob_tables.specs.Buckets.{Buckets}
use Rattle.ob_tables.specs.Rank.{ranks_of}
use Rattle.ob_tables.proofs.VersionLaws.{ranks_are}
use Rattle.ob_tables.specs.declared.tables.Tables.{Tables}
use Rattle.ob_check.specs.Written as check
use Rattle.ob_check.specs.Written.{area_of}
use Rattle.ob_tables.specs.Content.{Content, content_of}
use Rattle.ob_schedule.specs.Schedule.{log_gates}
use Rattle.ob_stand.specs.Fresh.{AreRanked, Ranks, fresh_content, fresh_version}
use Rattle.ob_stand.specs.Stands.{HoldsCheckpoint, Stands}
use Rattle.ob_stand.proofs.FreshLaws.{formatted_stands}
use Rattle.ob_opening.specs.OpeningActs.{AreGatesIn}
use Rattle.ob_opening.specs.Formats.{RingFormatLeaves, HasBlankSlots, HasClosedLogs, IsBlankTables, IsRingLaid, all_gates, drawn_ranks, format_words, formatted_standing, words_of}

-- ---- the words

length-part : (a n : ℕ) (xs : List ℕ) → a + n ≤ length xs → length (take n (drop a xs)) ≡ n
length-part zero n xs few = taken n xs (omega (arith, few))
  where
    taken : (m : ℕ) (ys : List ℕ) → m ≤ length ys → length (take m ys) ≡ m
    taken zero ys few = refl
    taken (suc m) [] few = absurd (omega arith)
    taken (suc m) (y ∷ ys) few = ap suc (taken m ys (omega arith))
length-part (suc a) n [] few = absurd (omega arith)
length-part (suc a) n (x ∷ xs) few = length-part a n xs (omega arith)

length-ranks : (words : List ℕ) → length (ranks_of words) ≡ length words
length-ranks words = length-map-range_with_len _ 0 (length words)

pub are_ranked : (p : Params) (drawn : List ℕ) → length drawn ≡ format_words p → AreRanked p (drawn_ranks p drawn)
are_ranked p drawn many = record {
  many = λ u low. length-ranks (words_of p drawn u) ∙ length-part (u * width p) (width p) drawn (let rows : (u + 1) * width p ≤ buckets p * width p = mul-le-mul_right (width p) (omega arith) in omega arith);
  each = λ u low. ranks_are (words_of p drawn u);
}

-- ---- the tables

pub content_is : (p : Params) (drawn : List ℕ) (old new : Tables Buckets) → IsBlankTables p old
    → new ≡ record old { metas = record old.metas { versions = map (fresh_version p (drawn_ranks p drawn)) (below (buckets p)) } } → content_of new ≡ fresh_content p (drawn_ranks p drawn)
content_is p drawn old new blank is =
    let book = blank.book in
    let rows = blank.rows in
    let counter = blank.counter in
    ap content_of is ∙ cc

-- ---- the gates

length-log_gates : (p : Params) (area : ℕ) → length (log_gates p area) ≡ p.batches
length-log_gates p area = length-map-range_with_len (λ b. log_cell p area b (record_cells p)) 0 p.batches

gate_in : (p : Params) (area b : ℕ) → b < p.batches → get_or (log_gates p area) b 0 ≡ log_gate p area b
gate_in p area b low = get_or-map-range_with_len (λ i. log_cell p area i (record_cells p)) 0 p.batches b b 0 low (omega arith)

-- the gate of a batch in the first log area, and in the second
first_gate : (p : Params) (b : ℕ) → b < p.batches → get_or (all_gates p) b 0 ≡ log_gate p 0 b
first_gate p b low = get_or_append_left (log_gates p 0) (log_gates p 1) 0 b (omega (arith, low, length-log_gates p 0)) ∙ gate_in p 0 b low

second_gate : (p : Params) (b : ℕ) → b < p.batches → get_or (all_gates p) (length (log_gates p 0) + b) 0 ≡ log_gate p 1 b
second_gate p b low = get_or-append-add (log_gates p 0) (log_gates p 1) b 0 ∙ gate_in p 1 b low

pub gates_closed : (p : Params) (image : Image) → AreShut (all_gates p) image → HasClosedLogs p image
gates_closed p image shut zero b either low =
    let few : b < length (all_gates p) = omega (arith, low, length-append (log_gates p 0) (log_gates p 1), length-log_gates p 0) in
    ap image (sym (first_gate p b low)) ∙ shut b few
gates_closed p image shut (suc zero) b either low =
    let few : length (log_gates p 0) + b < length (all_gates p) = omega (arith, low, length-append (log_gates p 0) (log_gates p 1), length-log_gates p 1) in
    ap image (sym (second_gate p b low)) ∙ shut (length (log_gates p 0) + b) few
gates_closed p image shut (suc (suc area)) b either low = absurd (omega (arith, either))

-- the next epoch's are shut, then
next_shut : (p : Params) (image : Image) → HasClosedLogs p image → (b : ℕ) → b < p.batches → image (log_gate p 1 b) ≢ open_gate
next_shut p image closed b low opened = closed-isnt-open (sym (closed 1 b (omega arith) low) ∙ opened)

-- each lies behind the registers
gates_behind_both : (n : ℕ) (xs ys : List ℕ) → LieBehind n xs → LieBehind n ys → LieBehind n (xs ++ ys)
gates_behind_both n [] ys front back i low = back i low
gates_behind_both n (x ∷ xs) ys front back zero low = front 0 (omega arith)
gates_behind_both n (x ∷ xs) ys front back (suc i) low = gates_behind_both n xs ys (λ j lt. front (suc j) (omega arith)) back i (omega arith)

area_behind : (p : Params) (area : ℕ) → LieBehind 8 (log_gates p area)
area_behind p area i low =
    let few : i < p.batches = omega (arith, low, length-log_gates p area) in
    let here : 8 < log_gate p area i = omega arith in
    subst (λ (n : ℕ). 8 < n) (sym (gate_in p area i few)) here

pub gates_behind : (p : Params) → LieBehind 8 (all_gates p)
gates_behind p = gates_behind_both 8 (log_gates p 0) (log_gates p 1) (area_behind p 0) (area_behind p 1)

-- generation 1 is in each image of a synced store
pub begins_sure : (keys : Keys) (a : Disk) → StandsAt (tagging keys) 1 a.cells 1 → IsSynced a → (c : Image) → a.may_leave c → StandsAt (tagging keys) 1 c 1
begins_sure keys a stands synced c left = register_moved (tagging keys) 1 1 c a.cells (λ k from to. synced c left k) stands

-- they lie behind the registers and before the checkpoints
log_behind : (p : Params) (area n : ℕ) → 9 ≤ log_gate p area n
log_behind p area n = omega arith

log_within : (p : Params) (area n : ℕ) → area < 2 → n < p.batches → log_gate p area n < check_cell p 0 0
unfolding log_cells
log_within p area n either low =
    let rows : (n + 1) * (record_cells p + 1) ≤ p.batches * (record_cells p + 1) = mul-le-mul_right (record_cells p + 1) (omega arith) in
    let areas : area * (p.batches * (record_cells p + 1)) ≤ 1 * (p.batches * (record_cells p + 1)) = mul-le-mul_right (p.batches * (record_cells p + 1)) (omega arith) in
    omega (arith, rows, areas)

-- ---- all but the head

pub checkpoint_of : (keys : Keys) (p : Params) (c : Content) (image : Image) → check.HoldsCheckpointFrom keys p 0 c 1 (buckets p * width p) image → HoldsCheckpoint keys p 0 1 c image
checkpoint_of keys p c image held = record {
  first = record { generation = 1; number = buckets p * width p };
  known = omega arith;
  run = record { generation_fits = omega arith; number_fits = few; sealed_so = held };
}
  where
    few : buckets p * width p < 2 ^ 64
    few =
        let wide : width p ≤ 48 = (let r = p.in_range.few_real in let d = p.in_range.few_dummies in omega arith) in
        let most : buckets p * width p ≤ 131071 * width p = mul-le-mul_right (width p) (buckets_le p) in
        omega arith

module _ (keys : Keys) (p : Params) (drawn : List ℕ) (many : length drawn ≡ format_words p) where
  ranks : Ranks
  ranks = drawn_ranks p drawn

  -- from the store with its registers, and the one with its epoch, each image that differs in the head alone
  pub laid : (a b : Image) → StandsAt (tagging keys) 1 a 1 → ((k : ℕ) → k < 5 → b k ≡ a k) → ((k : ℕ) → 9 ≤ k → k < check_cell p 0 0 → b k ≡ a k) → AreShut (all_gates p) a → StandsAt (tagging keys) 5 b 0
      → HasBlankSlots keys p 1 b → check.HoldsCheckpointFrom keys p 0 (fresh_content p (drawn_ranks p drawn)) 1 (buckets p * width p) b → (c : Image) → SameBut 0 c b → IsRingLaid keys p drawn c
  laid a b generation low log gates epoch slots checkpoint c same = record {
    generation = register_moved (tagging keys) 1 1 c a (λ k from to. same k (omega arith) ∙ low k (omega arith)) generation;
    epoch = register_moved (tagging keys) 5 0 c b (λ k from to. same k (omega arith)) epoch;
    checkpoint = λ i lt. same (area_of p 0 + i) (omega arith) ∙ checkpoint i lt;
    slots = λ u slot lu ls. same (slot_cell p 0 u slot) (omega arith) ∙ slots u slot lu ls;
    closed = λ area n either lt. same (log_gate p area n) (omega (arith, log_behind p area n)) ∙ log (log_gate p area n) (log_behind p area n) (log_within p area n either lt) ∙ gates_closed p a gates area n either lt;
  }

  -- with the head it stands
  pub formatted : (c : Image) → IsRingLaid keys p drawn c → c 0 ≡ head_cell keys 1 p → Stands keys p (formatted_standing p drawn) c
  formatted c laid_so head = formatted_stands keys p (drawn_ranks p drawn) c (are_ranked p drawn many) (record {
    head = subst (λ (l : List ℕ). IsHead keys 1 p l) (sym head) (head_is keys 1 p);
    generation = laid_so.generation;
    epoch = laid_so.epoch;
    checkpoint = checkpoint_of keys p (fresh_content p (drawn_ranks p drawn)) c laid_so.checkpoint;
    slots = laid_so.slots;
    shut = next_shut p c laid_so.closed;
  })

-- ---- the registers' gates

gates_same : (known : Open) (first : ℕ) (a b : Image) → b (gate_at first 0) ≡ a (gate_at first 0) → b (gate_at first 1) ≡ a (gate_at first 1) → GatesAre known first a → GatesAre known first b
gates_same known first a b same_zero same_one are = record {
  zero = (λ marked. same_zero ∙ (are.zero).0 marked, λ opened. (are.zero).1 (sym same_zero ∙ opened));
  one = (λ marked. same_one ∙ (are.one).0 marked, λ opened. (are.one).1 (sym same_one ∙ opened));
}

pub gates_formatted : (regs cells new : Image) → IsOpenAlone 1 1 regs → ((k : ℕ) → k < 5 → cells k ≡ regs k) → IsOpenAlone 5 0 cells → SameBut 0 new cells → AreGatesIn format_gates new
gates_formatted regs cells new generation low epoch last = record {
  generation = gates_same (record { zero = false; one = true }) 1 regs new (last 2 (omega arith) ∙ low 2 (omega arith)) (last 4 (omega arith) ∙ low 4 (omega arith)) generation;
  epoch = gates_same (record { zero = true; one = false }) 5 cells new (last 6 (omega arith)) (last 8 (omega arith)) epoch;
}

-- ---- what a crash leaves meanwhile

module _ (keys : Keys) (p : Params) (drawn : List ℕ) (old : Disk) where
  pub as_cleared : (a : Disk) → LeavesOnly old a (λ c. IsTornHead old c ⊎ HasNoHead c) → LeavesOnly old a (RingFormatLeaves keys p drawn old)
  as_cleared a run = weakened old a (λ c. IsTornHead old c ⊎ HasNoHead c) (RingFormatLeaves keys p drawn old) (λ c either. ⊎_elim (λ torn. inl torn) (λ none. inr (inl none)) either) run

  pub still_cleared : (a b : Disk) → LeavesOnly old a (λ c. IsTornHead old c ⊎ HasNoHead c) → LeavesOnly a b HasNoHead → LeavesOnly old b (RingFormatLeaves keys p drawn old)
  still_cleared a b first second = then_on old a b (RingFormatLeaves keys p drawn old) (as_cleared a first) (weakened a b HasNoHead (RingFormatLeaves keys p drawn old) (λ c none. inr (inl none)) second)

  pub head_written : (b new : Disk) → LeavesOnly old b (RingFormatLeaves keys p drawn old) → ((c : Image) → SameBut 0 c b.cells → IsRingLaid keys p drawn c) → LeavesOnly b new (λ c. SameBut 0 c b.cells) → LeavesOnly old new (RingFormatLeaves keys p drawn old)
  head_written b new first made last =
      then_on old b new (RingFormatLeaves keys p drawn old) first (weakened b new (λ c. SameBut 0 c b.cells) (RingFormatLeaves keys p drawn old) (λ c same. inr (inr (made c same))) last)
