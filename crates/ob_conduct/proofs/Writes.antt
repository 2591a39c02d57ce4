-- The writes of an epoch that is closed, and its record.
use Rattle.std.proofs.Common.{◌≡◌, ◌∙◌, ℕ, zero, suc, ◌+◌, ◌<◌, ◌≤◌, if◌then◌else◌, All, List, [], ◌∷◌, length, map, filter, filter_map, get_or, Option, None, Some, option_map, unwrap_or, refl, sym, ap, ap₂, subst, arith, length-append, nat_cmp, add-one}
use Rattle.std.specs.List.{cons_option, range_with_len}
use Rattle.std.specs.Option.{is_some}
use Rattle.std.specs.List.Sorted.{IsStrictlyIncreasing}
use Rattle.std.proofs.lemmas.List.{append-nil}
use Rattle.std.proofs.lemmas.List.Elements.{All-nil, All-cons, All-weaker}
use Rattle.std.proofs.lemmas.List.FromFn.{length-range_with_len, get_or-range_with_len}
use Rattle.ob_base.specs.declared.params.Params.{Params}
use Rattle.ob_base.specs.declared.value.Write.{Write}
use Rattle.ob_serial.specs.Serial.{TxnRecord, Map, after_ops, OneByOne, is_committed}
use Rattle.ob_serial.specs.declared.records.Outcome.TheVariants.{Committed, Aborted as AbortedBy}
use Rattle.ob_order.specs.declared.answers.Version.{Version}
use Rattle.ob_order.specs.declared.fate.Fate.{Fate}
use Rattle.ob_order.specs.declared.fate.Fate.TheVariants.{Going, Ended, Fell}
use Rattle.ob_order.specs.Works.{Work, is_going, newest, last_writes}
use Rattle.ob_order.specs.Order.{count_below, is_written}
use Rattle.ob_base.specs.Writes.{pair_of}
use Rattle.ob_order.proofs.Counts.{last_writes_more}
use Rattle.ob_desk.specs.Desk.{Part, txns_from, record_of, why_of}
use Rattle.ob_desk.specs.declared.clients.Holder.{Holder}
use Rattle.ob_desk.specs.Replay.{map_after}
use Rattle.ob_desk.proofs.Published.{batch_gives, after_work, map_after-cons}
use Rattle.ob_conduct.specs.Records.{after_txns, Makes}
use Rattle.ob_conduct.specs.Ready.{IsFit, IsOrdered}

-- ---- few

one_written : (o : Option Version) (k : ℕ) → length {A = ℕ × Option (List ℕ)} (cons_option (option_map (λ v. (k, v.value)) o) []) ≡ (if is_some o then 1 else 0)
one_written None k = refl
one_written (Some v) k = refl

written_count : (ws : List Work) (n : ℕ) → length (last_writes n ws) ≡ count_below (is_written ws) n
written_count ws zero = refl
written_count ws (suc n) = ap (λ k. length (last_writes k ws)) (sym (add-one n))
    ∙ ap length (last_writes_more ws n) ∙ length-append (last_writes n ws) (cons_option (option_map (λ v. (n, v.value)) (newest ws (length ws) n)) [])
    ∙ ap₂ (λ a b. a + b) (written_count ws n) (one_written (newest ws (length ws) n) n)

pub few_writes : (p : Params) (part : Part) → IsFit p part → length (last_writes p.keys part.order.works) ≤ p.writes
few_writes p part f = let few = f.kept.few in let same = written_count part.order.works p.keys in omega (arith, few, same)

-- ---- in rising keys

pub rises_cons : (x : ℕ) (xs : List ℕ) → All (λ y. x < y) xs → IsStrictlyIncreasing xs → IsStrictlyIncreasing (x ∷ xs)
rises_cons x xs above rising zero within = above 0 0 (omega (arith, within))
rises_cons x xs above rising (suc k) within =
    let next : suc k + 1 ≡ suc (k + 1) = omega arith in
    subst (λ n. get_or xs k 0 < get_or (x ∷ xs) n 0) (sym next) (rising k (omega (arith, within)))

rises_none : IsStrictlyIncreasing []
rises_none k within = absurd (omega (arith, within))

-- keys from a on, below b
abbrev Between : ℕ → ℕ → List ℕ → Type 0
Between a b keys = All (λ k. (a ≤ k) × (k < b)) keys × IsStrictlyIncreasing keys

abbrev keys_of : List (ℕ × Option (List ℕ)) → List ℕ
keys_of ws = map (λ (w : ℕ × Option (List ℕ)). w.0) ws

between_more : (a b : ℕ) (keys : List ℕ) → Between (a + 1) b keys → Between a b keys
between_more a b keys (range, rising) = (All-weaker (λ k. (a + 1 ≤ k) × (k < b)) (λ k. (a ≤ k) × (k < b)) (λ k h. (let l = h.0 in omega (arith, l), h.1)) keys range, rising)

between_cons : (a b : ℕ) (keys : List ℕ) → a < b → Between (a + 1) b keys → Between a b (a ∷ keys)
between_cons a b keys lt (range, rising) = (
  All-cons (λ k. (a ≤ k) × (k < b)) a keys (omega arith, lt) (between_more a b keys (range, rising)).0,
  rises_cons a keys (All-weaker (λ k. (a + 1 ≤ k) × (k < b)) (λ k. a < k) (λ k h. let l = h.0 in omega (arith, l)) keys range) rising,
)

batch_between : (f : ℕ → Option Version) (a b n : ℕ) → a + n ≡ b → Between a b (keys_of (filter_map (λ k. option_map (λ v. (k, v.value)) (f k)) (range_with_len a n)))
batch_between f a b zero is = (All-nil _, rises_none)
batch_between f a b (suc n) is = step (f a) (batch_between f (a + 1) b n (omega (arith, is)))
  where
    rest : List (ℕ × Option (List ℕ))
    rest = filter_map (λ k. option_map (λ v. (k, v.value)) (f k)) (range_with_len (a + 1) n)

    step : (o : Option Version) → Between (a + 1) b (keys_of rest) → Between a b (keys_of (cons_option (option_map (λ v. (a, v.value)) o) rest))
    step None h = between_more a b (keys_of rest) h
    step (Some v) h = between_cons a b (keys_of rest) (omega (arith, is)) h

writes_between : (ws : List Work) (n : ℕ) → Between 0 n (keys_of (last_writes n ws))
writes_between ws n = batch_between (λ k. newest ws (length ws) k) 0 n n (omega arith)

keys_paired : (ws : List Write) → keys_of (map pair_of ws) ≡ map (λ w. w.key) ws
keys_paired [] = refl
keys_paired (w ∷ ws) = ap (λ ks. w.key ∷ ks) (keys_paired ws)

pub rising_writes : (ws : List Write) (works : List Work) (n : ℕ) → map pair_of ws ≡ last_writes n works → IsStrictlyIncreasing (map (λ w. w.key) ws)
rising_writes ws works n are = subst IsStrictlyIncreasing (ap keys_of (sym are) ∙ keys_paired ws) (writes_between works n).1

unmapped : (ws : List Write) (n : ℕ) → All (λ k. k < n) (map (λ (w : Write). w.key) ws) → All (λ w. w.key < n) ws
unmapped [] n h = All-nil _
unmapped (w ∷ ws) n h = All-cons (λ (v : Write). v.key < n) w ws (h 0 0 (omega arith)) (unmapped ws n (λ k d lt. h (suc k) d (omega (arith, lt))))

pub writes_below : (ws : List Write) (works : List Work) (n : ℕ) → map pair_of ws ≡ last_writes n works → All (λ w. w.key < n) ws
writes_below ws works n are = unmapped ws n
    (subst (λ ks. All (λ k. k < n) ks) (ap keys_of (sym are) ∙ keys_paired ws)
    (All-weaker (λ k. (0 ≤ k) × (k < n)) (λ k. k < n) (λ k h. h.1) (keys_of (last_writes n works)) (writes_between works n).0))

-- ---- what they make of a map

txns_make : (m : Map nat_cmp) (epoch t : ℕ) (ws : List Work) (hs : List Holder) → length hs ≡ length ws → map_after m ws (length ws) ≡ after_txns m (filter (λ x. is_committed x) (txns_from epoch t ws hs))
txns_make m epoch t [] hs e = refl
txns_make m epoch t (w ∷ ws) [] e = absurd (omega arith)
txns_make m epoch t (w ∷ ws) (x ∷ hs) e = map_after-cons m w ws (length ws) ∙ txns_make (after_work m w) epoch (suc t) ws hs (omega arith) ∙ step w.fate
  where
    step : (f : Fate) → after_txns (if is_going f then after_ops nat_cmp m w.ops else m) (filter (λ x. is_committed x) (txns_from epoch (suc t) ws hs))
        ≡ after_txns m (filter (λ x. is_committed x) (record { epoch = epoch; ticket = t; client = x.client; ops = w.ops; outcome = unwrap_or (option_map AbortedBy (why_of f x.cause)) Committed } ∷ txns_from epoch (suc t) ws hs))
    step Going = refl
    step Ended = refl
    step (Fell on) = refl

-- the writes of an epoch make of any map what its record does
pub batch_makes : (p : Params) (part : Part) → IsFit p part → Makes (last_writes p.keys part.order.works) (record_of part)
batch_makes p part f m = batch_gives m p.keys part.order.works (record { at_each = f.within })
    ∙ txns_make m part.epoch 1 part.order.works part.holders f.even
    ∙ ap (λ ts. after_txns m (filter (λ (x : TxnRecord ℕ). is_committed x) ts)) (sym (append-nil (record_of part).txns))

-- what ran one by one left
pub left_by : (m : Map nat_cmp) (ts : List (TxnRecord ℕ)) (last : Map nat_cmp) → OneByOne nat_cmp m ts last → last ≡ after_txns m ts
left_by m [] last is = sym is
left_by m (t ∷ ts) last (replays, rest) = left_by (after_ops nat_cmp m t.ops) ts last rest

-- ---- its order

ticketed : (epoch t : ℕ) (ws : List Work) (hs : List Holder) → map (λ x. x.ticket) (txns_from epoch t ws hs) ≡ range_with_len t (length (txns_from epoch t ws hs))
ticketed epoch t [] hs = refl
ticketed epoch t (w ∷ ws) [] = refl
ticketed epoch t (w ∷ ws) (x ∷ hs) = ap (λ ts. t ∷ ts) (ticketed epoch (suc t) ws hs ∙ ap (λ n. range_with_len n (length (txns_from epoch (suc t) ws hs))) (sym (add-one t)))

named : (epoch t : ℕ) (ws : List Work) (hs : List Holder) → All (λ x. x.epoch ≡ epoch) (txns_from epoch t ws hs)
named epoch t [] hs = All-nil _
named epoch t (w ∷ ws) [] = All-nil _
named epoch t (w ∷ ws) (x ∷ hs) = All-cons (λ (y : TxnRecord ℕ). y.epoch ≡ epoch) _ (txns_from epoch (suc t) ws hs) refl (named epoch (suc t) ws hs)

pub rising : (a n : ℕ) → IsStrictlyIncreasing (range_with_len a n)
rising a n k within =
    let len : length (range_with_len a n) ≡ n = length-range_with_len a n in
    rw (get_or-range_with_len a n k 0 (omega (arith, within, len)), get_or-range_with_len a n (k + 1) 0 (omega (arith, within, len))) (omega arith)

pub record_ordered : (part : Part) → IsOrdered (record_of part)
record_ordered part = record {
  tickets = subst IsStrictlyIncreasing (sym (ticketed part.epoch 1 part.order.works part.holders)) (rising 1 (length (txns_from part.epoch 1 part.order.works part.holders)));
  named = named part.epoch 1 part.order.works part.holders;
}
