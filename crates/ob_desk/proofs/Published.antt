-- A part's record, one by one, and its write batch lead to one map.
use Rattle.std.proofs.Common.{◌≡◌, ℕ, zero, suc, ◌+◌, ◌<◌, ◌≤◌, true, if◌then◌else◌, List, [], ◌∷◌, map, length, filter, filter_map, Option, None, Some, option_map, unwrap_or, slice_get, refl, sym, ap, ◌∙◌, subst, inl, inr, ◌⊎◌, ⊎_elim, arith, nat_cmp}
use Rattle.std.specs.Option.{option_or}
use Rattle.std.specs.List.{range_with_len, cons_option}
use Rattle.std.specs.FinMap as finite
use Rattle.std.specs.FinMap.{same_map, nat_cmp-IsAntisymmetric}
use Rattle.std.specs.Cmp.{nat_cmp_total}
use Rattle.std.proofs.lemmas.Bool.{cases_eq, cases_lt}
use Rattle.ob_serial.specs.Serial.{Map, after_ops, Replays, OneByOne, is_committed}
use Rattle.ob_serial.specs.Vaults.{with_writes}
use Rattle.ob_desk.specs.Desk.{Committed, AbortedBy}
use Rattle.ob_order.specs.Works.{Work, is_going, newest, write_of, last_write, last_writes}
use Rattle.ob_desk.specs.Replay.{map_after, EachReplays}
use Rattle.ob_order.specs.Order.{write_op}
use Rattle.ob_base.specs.declared.op.Op.{Op}
use Rattle.ob_order.specs.declared.answers.Version.{Version}
use Rattle.ob_order.specs.declared.fate.Fate.{Fate}
use Rattle.ob_order.specs.declared.fate.Fate.TheVariants.{Going, Ended, Fell}
use Rattle.ob_desk.specs.Desk.{Holder, why_of, txns_from}
use Rattle.ob_desk.proofs.Maps.{get-after}
use Rattle.ob_order.proofs.Newest.{newest_lower}
use Rattle.ob_order.proofs.Counts.{other_written, own_written}
use Rattle.ob_desk.proofs.Maps.{get-map_after}
use Rattle.ob_desk.proofs.Fine.{Within}

-- ---- one by one

-- the map after one transaction
abbrev pub after_work : Map nat_cmp → Work → Map nat_cmp
after_work m w = if is_going w.fate then after_ops nat_cmp m w.ops else m

pub map_after-cons : (m : Map nat_cmp) (w : Work) (ws : List Work) (n : ℕ) → map_after m (w ∷ ws) (suc n) ≡ map_after (after_work m w) ws n
map_after-cons m w ws zero = refl
map_after-cons m w ws (suc n) = ap (λ x. unwrap_or (option_map (λ v. after_work x v) (slice_get ws n)) x) (map_after-cons m w ws n)

rest_replays : (m : Map nat_cmp) (w : Work) (ws : List Work) → EachReplays m (w ∷ ws) → EachReplays (after_work m w) ws
rest_replays m w ws h = record { at_each = λ n v there going. subst (λ (x : Map nat_cmp). Replays nat_cmp x v.ops) (map_after-cons m w ws n) (h.at_each (suc n) v there going) }

pub one_by_one_from : (m : Map nat_cmp) (epoch t : ℕ) (ws : List Work) (hs : List Holder) → length hs ≡ length ws → EachReplays m ws → OneByOne nat_cmp m (filter (λ x. is_committed x) (txns_from epoch t ws hs)) (map_after m ws (length ws))
one_by_one_from m epoch t [] hs e h = refl
one_by_one_from m epoch t (w ∷ ws) [] e h = absurd (omega arith)
one_by_one_from m epoch t (w ∷ ws) (x ∷ hs) e h =
    subst (λ (last : Map nat_cmp). OneByOne nat_cmp m (filter (λ x. is_committed x) (txns_from epoch t (w ∷ ws) (x ∷ hs))) last) (sym (map_after-cons m w ws (length ws)))
    (step w.fate (h.at_each 0 w refl) (one_by_one_from (after_work m w) epoch (suc t) ws hs (omega arith) (rest_replays m w ws h)))
  where
    step : (f : Fate) → (is_going f ≡ true → Replays nat_cmp m w.ops)
        → OneByOne nat_cmp (if is_going f then after_ops nat_cmp m w.ops else m) (filter (λ x. is_committed x) (txns_from epoch (suc t) ws hs)) (map_after (after_work m w) ws (length ws))
        → OneByOne nat_cmp m (filter (λ x. is_committed x) (record { epoch = epoch; ticket = t; client = x.client; ops = w.ops; outcome = unwrap_or (option_map AbortedBy (why_of f x.cause)) Committed } ∷ txns_from epoch (suc t) ws hs)) (map_after (after_work m w) ws (length ws))
    step Going here rest = (here refl, rest)
    step Ended here rest = rest
    step (Fell on) here rest = rest

-- ---- the write batch

-- the writes of a function of keys, for n keys from a on
abbrev writes_from : (ℕ → Option Version) → ℕ → ℕ → List (Op ℕ)
writes_from f a n = map (λ (w : ℕ × Option (List ℕ)). write_op w.0 w.1) (filter_map (λ k. option_map (λ v. (k, v.value)) (f k)) (range_with_len a n))

-- one more at the front
abbrev first_write : Option Version → ℕ → List (Op ℕ) → List (Op ℕ)
first_write None a os = os
first_write (Some v) a os = write_op a v.value ∷ os

writes_from-suc : (f : ℕ → Option Version) (a n : ℕ) → writes_from f a (suc n) ≡ first_write (f a) a (writes_from f (a + 1) n)
writes_from-suc f a n = step (f a)
  where
    rest : List (ℕ × Option (List ℕ))
    rest = filter_map (λ k. option_map (λ v. (k, v.value)) (f k)) (range_with_len (a + 1) n)

    step : (o : Option Version) → map (λ (w : ℕ × Option (List ℕ)). write_op w.0 w.1) (cons_option (option_map (λ v. (a, v.value)) o) rest) ≡ first_write o a (map (λ (w : ℕ × Option (List ℕ)). write_op w.0 w.1) rest)
    step None = refl
    step (Some v) = refl

or_none : {A : Type 0} (o : Option A) → option_or o None ≡ o
or_none None = refl
or_none (Some x) = refl

last_write-other : (o : Option Version) (a q : ℕ) (os : List (Op ℕ)) → (q ≡ a → ⊥) → last_write (first_write o a os) q ≡ last_write os q
last_write-other None a q os h = refl
last_write-other (Some v) a q os h = ap (option_or (last_write os q)) (other_written a v.value q h) ∙ or_none (last_write os q)

last_write-here : (o : Option Version) (a : ℕ) (os : List (Op ℕ)) → last_write os a ≡ None → last_write (first_write o a os) a ≡ option_map (λ v. v.value) o
last_write-here None a os h = h
last_write-here (Some v) a os h = ap (λ x. option_or x (write_of (write_op a v.value) a)) h ∙ own_written a v.value

writes_apart : (f : ℕ → Option Version) (a n q : ℕ) → (q < a) ⊎ (a + n ≤ q) → last_write (writes_from f a n) q ≡ None
writes_apart f a zero q out = refl
writes_apart f a (suc n) q out = ap (λ os. last_write os q) (writes_from-suc f a n)
    ∙ (last_write-other (f a) a q (writes_from f (a + 1) n) (λ e. ⊎_elim (λ l. absurd (omega arith)) (λ l. absurd (omega arith)) out)
    ∙ writes_apart f (a + 1) n q (⊎_elim (λ l. inl (omega arith)) (λ l. inr (omega arith)) out))

writes_within : (f : ℕ → Option Version) (a n q : ℕ) → a ≤ q → q < a + n → last_write (writes_from f a n) q ≡ option_map (λ v. v.value) (f q)
writes_within f a zero q l g = absurd (omega arith)
writes_within f a (suc n) q l g = ap (λ os. last_write os q) (writes_from-suc f a n) ∙ ⊎_elim
    (λ same. subst (λ x. last_write (first_write (f a) a (writes_from f (a + 1) n)) x ≡ option_map (λ v. v.value) (f x)) (sym same)
    (last_write-here (f a) a (writes_from f (a + 1) n) (writes_apart f (a + 1) n a (inl (omega arith)))))
    (λ other. last_write-other (f a) a q (writes_from f (a + 1) n) other ∙ writes_within f (a + 1) n q (omega arith) (omega arith))
    (cases_eq q a)

none_newest : (ws : List Work) (keys n k : ℕ) → Within keys ws → keys ≤ k → newest ws n k ≡ None
none_newest ws keys zero k h l = refl
none_newest ws keys (suc n) k h l = newest_lower ws n k (h.at_each (suc n) k l) ∙ none_newest ws keys n k h l

-- the write batch leaves the map that the transactions, one by one, leave
pub batch_gives : (m : Map nat_cmp) (keys : ℕ) (ws : List Work) → Within keys ws → with_writes m (last_writes keys ws) ≡ map_after m ws (length ws)
batch_gives m keys ws h = same_map nat_cmp_total nat_cmp-IsAntisymmetric _ _ (λ q.
    get-after m (writes_from (newest ws (length ws)) 0 keys) q ∙ (ap (λ o. unwrap_or o (finite.get m q)) (at_key q) ∙ sym (get-map_after m ws (length ws) q)))
  where
    at_key : (q : ℕ) → last_write (writes_from (newest ws (length ws)) 0 keys) q ≡ option_map (λ v. v.value) (newest ws (length ws) q)
    at_key q = ⊎_elim
        (λ l. writes_within (newest ws (length ws)) 0 keys q (omega arith) (omega arith))
        (λ l. writes_apart (newest ws (length ws)) 0 keys q (inr (omega arith)) ∙ ap (option_map (λ v. v.value)) (sym (none_newest ws keys (length ws) q h l)))
        (cases_lt q keys)
