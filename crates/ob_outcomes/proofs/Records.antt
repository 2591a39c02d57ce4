-- A record and the part that it tells of.
use Rattle.std.proofs.Common.{◌≡◌, ℕ, zero, suc, ◌+◌, Bool, true, false, not, List, [], ◌∷◌, length, All, Contains, Option, None, Some, option_map, option_and_then, unwrap_or, slice_get, refl, sym, ap, ap₂, ◌∙◌, subst, arith}
use Rattle.std.proofs.lemmas.Bool.{false≢true}
use Rattle.std.proofs.lemmas.List.Elements.{All-nil, All-cons, Contains-get_or, at_from_Contains}
use Rattle.std.proofs.lemmas.Option.{none-some, same_Some, slice_get_within, get_or_from_slice_get, slice_get-get_or}
use Rattle.ob_base.specs.declared.op.Op.{Op}
use Rattle.ob_base.specs.declared.op.Op.TheVariants.{Get}
use Rattle.ob_serial.specs.Serial.{TxnRecord, is_committed}
use Rattle.ob_serial.specs.declared.records.Why.{Why}
use Rattle.ob_serial.specs.declared.records.Outcome.TheVariants.{Committed, Aborted as AbortedBy}
use Rattle.ob_order.specs.declared.fate.Fate.{Fate}
use Rattle.ob_order.specs.declared.fate.Fate.TheVariants.{Going, Ended, Fell}
use Rattle.ob_order.specs.Works.{Work, is_going, is_gone, has_get, has_read}
use Rattle.ob_order.proofs.Newest.{by_option}
use Rattle.ob_order.proofs.Links.{any_found}
use Rattle.ob_desk.specs.declared.clients.Holder.{Holder}
use Rattle.ob_desk.specs.Desk.{Part, txns_from, record_of, why_of, why_at}

-- ---- elements

pub contains_at : {X : Type 0} (xs : List X) (i : ℕ) (x : X) → slice_get xs i ≡ Some x → Contains xs x
contains_at xs i x e = subst (Contains xs) (get_or_from_slice_get xs i x x e) (Contains-get_or xs i x (slice_get_within xs i x e))

pub place_of : {X : Type 0} (xs : List X) (x : X) → Contains xs x → (i : ℕ) × (slice_get xs i ≡ Some x)
place_of xs x c = let at = at_from_Contains xs x c in (at.0, slice_get-get_or xs at.0 x at.1 ∙ ap Some (at.2 x))

-- ---- transactions

-- what is told of a transaction
abbrev pub made : ℕ → ℕ → Work → Holder → TxnRecord ℕ
made epoch t w h = record { epoch = epoch; ticket = t; client = h.client; ops = w.ops; outcome = unwrap_or (option_map AbortedBy (why_of w.fate h.cause)) Committed }

pub txn_there : (epoch t : ℕ) (ws : List Work) (hs : List Holder) (n : ℕ) (w : Work) → length hs ≡ length ws → slice_get ws n ≡ Some w
    → (h : Holder) × (slice_get hs n ≡ Some h) × (slice_get (txns_from epoch t ws hs) n ≡ Some (made epoch (t + n) w h))
txn_there epoch t [] hs n w e there = absurd (none-some w there)
txn_there epoch t (v ∷ ws) [] n w e there = absurd (omega arith)
txn_there epoch t (v ∷ ws) (h ∷ hs) zero w e there = (h, refl, ap₂ (λ (x : Work) (u : ℕ). Some (made epoch u x h)) (same_Some v w there) (let u : t ≡ t + 0 = omega arith in u))
txn_there epoch t (v ∷ ws) (h ∷ hs) (suc n) w e there =
    let rest = txn_there epoch (suc t) ws hs n w (omega arith) there in
    (rest.0, rest.1, rest.2 ∙ ap (λ u. Some (made epoch u w rest.0)) (let u : suc t + n ≡ t + suc n = omega arith in u))

pub txns_all : (R : TxnRecord ℕ → Type 0) (epoch t : ℕ) (ws : List Work) (hs : List Holder)
    → ((n : ℕ) (w : Work) (h : Holder) → slice_get ws n ≡ Some w → slice_get hs n ≡ Some h → R (made epoch (t + n) w h)) → All R (txns_from epoch t ws hs)
txns_all R epoch t [] hs each = All-nil R
txns_all R epoch t (w ∷ ws) [] each = All-nil R
txns_all R epoch t (w ∷ ws) (h ∷ hs) each = All-cons R (made epoch t w h) (txns_from epoch (suc t) ws hs)
    (subst (λ u. R (made epoch u w h)) (let u : t + 0 ≡ t = omega arith in u) (each 0 w h refl refl))
    (txns_all R epoch (suc t) ws hs (λ n v g at_work at_holder. subst (λ u. R (made epoch u v g)) (let u : t + suc n ≡ suc t + n = omega arith in u) (each (suc n) v g at_work at_holder)))

-- of each transaction of a part's record
pub record_all : (R : TxnRecord ℕ → Type 0) (part : Part)
    → ((n : ℕ) (w : Work) (h : Holder) → slice_get part.order.works n ≡ Some w → slice_get part.holders n ≡ Some h → R (made part.epoch (suc n) w h)) → All R (record_of part).txns
record_all R part each = txns_all R part.epoch 1 part.order.works part.holders (λ n w h at_work at_holder. subst (λ u. R (made part.epoch u w h)) (let u : suc n ≡ 1 + n = omega arith in u) (each n w h at_work at_holder))

-- the transaction of a work's ticket
pub record TxnOf (part : Part) (n : ℕ) (w : Work) : Type 0 where
  pub txn : TxnRecord ℕ
  pub there : Contains (record_of part).txns txn
  pub named : txn.ticket ≡ suc n
  pub ops : txn.ops ≡ w.ops
  pub committed : is_committed txn ≡ is_going w.fate

committed_going : (epoch t : ℕ) (w : Work) (h : Holder) → is_committed (made epoch t w h) ≡ is_going w.fate
committed_going epoch t w h = step w.fate
  where
    step : (f : Fate) → is_committed (let x : TxnRecord ℕ = record { epoch = epoch; ticket = t; client = h.client; ops = w.ops; outcome = unwrap_or (option_map AbortedBy (why_of f h.cause)) Committed } in x) ≡ is_going f
    step Going = refl
    step Ended = refl
    step (Fell on) = refl

pub txn_of_work : (part : Part) (n : ℕ) (w : Work) → length part.holders ≡ length part.order.works → slice_get part.order.works n ≡ Some w → TxnOf part n w
txn_of_work part n w even there =
    let f = txn_there part.epoch 1 part.order.works part.holders n w even there in
    record {
      txn = made part.epoch (1 + n) w f.0;
      there = contains_at (record_of part).txns n (made part.epoch (1 + n) w f.0) f.2;
      named = omega arith;
      ops = refl;
      committed = committed_going part.epoch (1 + n) w f.0;
    }

-- ---- tests of works, told of transactions

-- ticket t has read the key from there
pub record ReaderOf (part : Part) (key source t : ℕ) : Type 0 where
  pub txn : TxnRecord ℕ
  pub there : Contains (record_of part).txns txn
  pub named : txn.ticket ≡ t
  pub reply : Option (List ℕ)
  pub got : Contains txn.ops (Get key reply source)

pub reader_of : (part : Part) (key source t : ℕ) → length part.holders ≡ length part.order.works → has_read part.order.works key source t ≡ true → ReaderOf part key source t
reader_of part key source zero even e = absurd (false≢true e)
reader_of part key source (suc n) even e = by_option (slice_get part.order.works n)
    (λ none. absurd (false≢true (sym (ap (λ o. unwrap_or (option_map (λ w. has_get w.ops key source) o) false) none) ∙ e)))
    (λ w is.
    let x = txn_of_work part n w even is in
    let g = any_found key source w.ops (sym (ap (λ o. unwrap_or (option_map (λ w. has_get w.ops key source) o) false) is) ∙ e) in
    record {
      txn = x.txn;
      there = x.there;
      named = x.named;
      reply = g.1;
      got = subst (λ (os : List (Op ℕ)). Contains os (Get key g.1 source)) (sym x.ops) (contains_at w.ops g.0 (Get key g.1 source) g.2);
    })

-- ticket t is in the record, committed or not
pub record StandsIn (part : Part) (t : ℕ) (committed : Bool) : Type 0 where
  pub txn : TxnRecord ℕ
  pub there : Contains (record_of part).txns txn
  pub named : txn.ticket ≡ t
  pub stands : is_committed txn ≡ committed

pub gone_in : (part : Part) (t : ℕ) → length part.holders ≡ length part.order.works → is_gone part.order.works t ≡ true → StandsIn part t false
gone_in part zero even e = absurd (false≢true e)
gone_in part (suc n) even e = by_option (slice_get part.order.works n)
    (λ none. absurd (false≢true (sym (ap (λ o. unwrap_or (option_map (λ w. not (is_going w.fate)) o) false) none) ∙ e)))
    (λ w is.
    let x = txn_of_work part n w even is in
    record { txn = x.txn; there = x.there; named = x.named; stands = x.committed ∙ negated (is_going w.fate) (sym (ap (λ o. unwrap_or (option_map (λ w. not (is_going w.fate)) o) false) is) ∙ e) })
  where
    negated : (b : Bool) → not b ≡ true → b ≡ false
    negated true f = absurd (false≢true f)
    negated false f = refl

pub going_in : (part : Part) (n : ℕ) (w : Work) → length part.holders ≡ length part.order.works → slice_get part.order.works n ≡ Some w → is_going w.fate ≡ true → StandsIn part (suc n) true
going_in part n w even is going = let x = txn_of_work part n w even is in record { txn = x.txn; there = x.there; named = x.named; stands = x.committed ∙ going }

-- why one was aborted
pub why_told : (part : Part) (n : ℕ) (w : Work) (h : Holder) → slice_get part.order.works n ≡ Some w → slice_get part.holders n ≡ Some h → why_at part (suc n) ≡ why_of w.fate h.cause
why_told part n w h at_work at_holder = ap₂ (λ (a : Option Work) (b : Option Holder). option_and_then (λ f. why_of f (option_and_then (λ x. x.cause) b)) (option_map (λ x. x.fate) a)) at_work at_holder

pub why_none : (f : Fate) (cause : Option (Why ℕ)) → why_of f cause ≡ None → is_going f ≡ true
why_none Going cause e = refl
why_none Ended cause e = absurd (none-some _ (sym e))
why_none (Fell on) cause e = absurd (none-some _ (sym e))
