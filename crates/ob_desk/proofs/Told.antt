-- A record, transaction by transaction.
use Rattle.std.proofs.Common.{◌≡◌, ℕ, zero, suc, ◌+◌, ◌<◌, ◌≤◌, min, List, [], ◌∷◌, ◌++◌, map, get_or, length, append-nil, Option, None, Some, option_map, unwrap_or, slice_get, refl, sym, ap, ap₂, ◌∙◌, ⊎_elim, arith}
use Rattle.std.specs.List.{cons_option}
use Rattle.std.proofs.lemmas.Bool.{cases_lt}
use Rattle.std.proofs.lemmas.Option.{slice_get_past, slice_get_read}
use Rattle.std.proofs.lemmas.List.{map-append}
use Rattle.ob_serial.specs.declared.records.TxnRecord.{TxnRecord as CodeTxn}
use Rattle.ob_serial.specs.Views.{txn_of}
use Rattle.ob_serial.specs.Serial.{TxnRecord}
use Rattle.ob_order.specs.Works.{Op, Work}
use Rattle.ob_desk.specs.Desk.{Holder, Outcome, Committed, AbortedBy, why_of, txns_from}
use Rattle.ob_desk.specs.Parts.{told_at}

-- the record of a transaction
abbrev telling : ℕ → ℕ → Work → Option Holder → List (TxnRecord ℕ)
telling epoch t w h = cons_option (option_map (λ x. let q : TxnRecord ℕ = record { epoch = epoch; ticket = t; client = x.client; ops = w.ops; outcome = unwrap_or (option_map AbortedBy (why_of w.fate x.cause)) Committed } in q) h) []

-- one transaction more
pub told_more : (epoch : ℕ) (ws : List Work) (hs : List Holder) (w : Work) (n : ℕ) → n ≡ min (length ws) (length hs) → txns_from epoch 1 (ws ++ w ∷ []) hs ≡ txns_from epoch 1 ws hs ++ told_at epoch n w hs
told_more epoch ws hs w n e = from 1 ws hs ∙ ap (λ (ts : List (TxnRecord ℕ)). txns_from epoch 1 ws hs ++ ts) (⊎_elim
    (λ within. ap₂ (λ (t k : ℕ). telling epoch t w (slice_get hs k)) (let t : 1 + length ws ≡ n + 1 = omega arith in t) (let k : length ws ≡ n = omega arith in k))
    (λ past. ap (telling epoch (1 + length ws) w) (slice_get_past hs (length ws) past) ∙ sym (ap (telling epoch (n + 1) w) (slice_get_past hs n (omega arith))))
    (cases_lt (length ws) (length hs)))
  where
    from : (t : ℕ) (vs : List Work) (gs : List Holder) → txns_from epoch t (vs ++ w ∷ []) gs ≡ txns_from epoch t vs gs ++ telling epoch (t + length vs) w (slice_get gs (length vs))
    from t [] [] = refl
    from t [] (g ∷ gs) = ap (λ k. telling epoch k w (Some g)) (let k : t ≡ t + 0 = omega arith in k)
    from t (v ∷ vs) [] = refl
    from t (v ∷ vs) (g ∷ gs) = ap (λ (ts : List (TxnRecord ℕ)). record { epoch = epoch; ticket = t; client = g.client; ops = v.ops; outcome = unwrap_or (option_map AbortedBy (why_of v.fate g.cause)) Committed } ∷ ts)
        (from (suc t) vs gs ∙ ap (λ k. txns_from epoch (suc t) vs gs ++ telling epoch k w (slice_get gs (length vs))) (let k : suc t + length vs ≡ t + suc (length vs) = omega arith in k))

pub length-told_at : (epoch n : ℕ) (w : Work) (hs : List Holder) (k : ℕ) → n ≡ min k (length hs) → n + length (told_at epoch n w hs) ≡ min (k + 1) (length hs)
length-told_at epoch n w hs k e = ⊎_elim
    (λ within. let has = some_length (slice_get hs n) (slice_get_some hs n within) in omega (arith, has, e))
    (λ past. let none : length (told_at epoch n w hs) ≡ 0 = ap (λ h. length (telling epoch (n + 1) w h)) (slice_get_past hs n past) in omega (arith, none, e))
    (cases_lt n (length hs))
  where
    slice_get_some : {A : Type 0} (xs : List A) (i : ℕ) → i < length xs → (x : A) × (slice_get xs i ≡ Some x)
    slice_get_some [] i l = absurd (omega arith)
    slice_get_some (x ∷ xs) zero l = (x, refl)
    slice_get_some (x ∷ xs) (suc i) l = slice_get_some xs i (omega arith)

    some_length : (h : Option Holder) → ((x : Holder) × (h ≡ Some x)) → length (telling epoch (n + 1) w h) ≡ 1
    some_length h is = ap (λ g. length (telling epoch (n + 1) w g)) is.1

pub holder_here : (hs : List Holder) (h : Holder) (at n : ℕ) → at ≡ n → at < length hs → h ≡ get_or hs at h → slice_get hs n ≡ Some h
holder_here hs h at n e l is = ap (slice_get hs) (sym e) ∙ slice_get_read hs (length hs) at h refl l is

pub holder_past : (hs : List Holder) (at n : ℕ) → at ≡ n → length hs ≤ at → slice_get hs n ≡ None
holder_past hs at n e l = slice_get_past hs n (omega arith)

pub same_txn : (epoch t u client : ℕ) (ops qs : List (Op ℕ)) (o q : Outcome ℕ) → t ≡ u → ops ≡ qs → o ≡ q
    → (let r : TxnRecord ℕ = record { epoch = epoch; ticket = t; client = client; ops = ops; outcome = o } in r) ≡ record { epoch = epoch; ticket = u; client = client; ops = qs; outcome = q }
same_txn epoch t u client ops qs o q tickets same same_outcome = rw (tickets, same, same_outcome) refl

-- who has a holder is told
pub tells : (epoch n : ℕ) (w : Work) (hs : List Holder) (h : Holder) (xs ys : List (CodeTxn ℕ)) (r : CodeTxn ℕ) → slice_get hs n ≡ Some h
    → txn_of r ≡ record { epoch = epoch; ticket = n + 1; client = h.client; ops = w.ops; outcome = unwrap_or (option_map AbortedBy (why_of w.fate h.cause)) Committed }
    → ys ≡ xs ++ r ∷ [] → map (λ t. txn_of t) ys ≡ map (λ t. txn_of t) xs ++ told_at epoch n w hs
tells epoch n w hs h xs ys r here is e = ap (map (λ (t : CodeTxn ℕ). txn_of t)) e
    ∙ (map-append (λ (t : CodeTxn ℕ). txn_of t) xs (r ∷ [])
    ∙ ap (λ (ts : List (TxnRecord ℕ)). map (λ (t : CodeTxn ℕ). txn_of t) xs ++ ts) (ap (λ (t : TxnRecord ℕ). t ∷ []) is ∙ sym (ap (telling epoch (n + 1) w) here)))

pub tells_none : (epoch n : ℕ) (w : Work) (hs : List Holder) (xs : List (TxnRecord ℕ)) → slice_get hs n ≡ None → xs ≡ xs ++ told_at epoch n w hs
tells_none epoch n w hs xs none = sym (append-nil xs) ∙ ap (λ (ts : List (TxnRecord ℕ)). xs ++ ts) (sym (ap (telling epoch (n + 1) w) none))
