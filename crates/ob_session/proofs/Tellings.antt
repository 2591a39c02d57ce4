-- What a published record tells of a client, beside what it was told.
use Rattle.std.proofs.Common.{◌≡◌, ℕ, suc, ◌==◌, true, cond, List, [], ◌∷◌, ◌++◌, Option, None, Some, option_map, unwrap_or, filter, flat_map, refl, sym, ap, ◌∙◌, subst, inl, inr, append-nil, eq-eqb, ne_eqb}
use Rattle.std.proofs.lemmas.Bool.{false≢true}
use Rattle.std.proofs.lemmas.Option.{same_Some}
use Rattle.std.proofs.lemmas.Grind.{flat_map-append}
use Rattle.std.proofs.lemmas.List.Elements.{filter-append}
use Rattle.ob_serial.specs.declared.records.Why.{Why}
use Rattle.ob_serial.specs.declared.records.Why.TheVariants.{Conflict, Depends, ReadsFull, WritesFull, ShareReads, ShareWrites, EpochEnd, Asked, Stopped}
use Rattle.ob_serial.specs.declared.records.Outcome.{Outcome}
use Rattle.ob_serial.specs.declared.records.Outcome.TheVariants.{Committed, Aborted as AbortedBy, Unsure as UnsureOf}
use Rattle.ob_serial.specs.Serial.{TxnRecord, EpochRecord}
use Rattle.ob_order.specs.declared.fate.Fate.{Fate}
use Rattle.ob_order.specs.declared.fate.Fate.TheVariants.{Going, Ended, Fell}
use Rattle.ob_order.specs.Works.{Work, is_going}
use Rattle.ob_desk.specs.declared.calls.Txn.{Txn}
use Rattle.ob_desk.specs.declared.clients.Holder.{Holder}
use Rattle.ob_desk.specs.Desk.{why_of, txns_from, Reply, Published, records_told}
use Rattle.ob_session.specs.Clients.{Told, over}
use Rattle.ob_session.specs.Records.{IsToldEnd, IsTold, TellFirst, TellAll, txns_by}
use Rattle.ob_session.proofs.Mirrors.{Mirrors}
use Rattle.ob_session.proofs.Fits.{Stands, named_ticket}
use Rattle.ob_session.proofs.Parts.{FitsClosed}

-- ---- one transaction

-- the record of a transaction
abbrev pub txn_at : ℕ → ℕ → Work → Holder → TxnRecord ℕ
txn_at epoch t w h = record { epoch = epoch; ticket = t; client = h.client; ops = w.ops; outcome = unwrap_or (option_map AbortedBy (why_of w.fate h.cause)) Committed }

-- its record will tell of what its client was told
pub record FitsRecord (n epoch t : ℕ) (w : Work) (h : Holder) (one : Told) : Type 0 where
  pub ticket : one.txn.ticket ≡ t
  pub told : h.client ≡ n → IsTold n (txn_at epoch t w h) one

aborted_end : (why : Why ℕ) (one : Told) → (why ≡ Asked → one.ended ≡ Some (AbortedBy Asked)) → IsToldEnd (AbortedBy why) one
aborted_end (Conflict key reader) one asked = tt
aborted_end (Depends on) one asked = tt
aborted_end (ReadsFull queued left) one asked = tt
aborted_end (WritesFull keys) one asked = tt
aborted_end (ShareReads keys) one asked = tt
aborted_end (ShareWrites keys) one asked = tt
aborted_end EpochEnd one asked = tt
aborted_end Asked one asked = asked refl
aborted_end (Stopped fault) one asked = tt

told_end : (f : Fate) (cause : Option (Why ℕ)) (one : Told) → Stands f cause one.ended → (is_going f ≡ true → one.asked ≡ true) → IsToldEnd (unwrap_or (option_map AbortedBy (why_of f cause)) Committed) one
told_end Going cause one h asked = asked refl
told_end Ended None one h asked = absurd (false≢true h.caused)
told_end Ended (Some why) one h asked = aborted_end why one (λ e. h.by_client (ap Some e))
told_end (Fell on) cause one h asked = tt

pub recorded : (n epoch t : ℕ) (w : Work) (h : Holder) (one : Told) → FitsClosed n epoch t w h one → FitsRecord n epoch t w h one
recorded n epoch t w h one f = record {
  ticket = named_ticket n epoch t w h one f.fits;
  told = λ mine. record {
    client = mine;
    named = ap (λ (x : Txn). x.client) f.fits.named;
    epoch = sym (ap (λ (x : Txn). x.epoch) f.fits.named);
    ticket = sym (named_ticket n epoch t w h one f.fits);
    ops = f.fits.ops;
    ends = told_end w.fate h.cause one f.fits.stands (λ going. sym f.fits.asked ∙ f.asked going);
    as_told = λ o e. ap (λ x. unwrap_or x Committed) (f.fits.stands.as_told o e);
  };
}

over_end : (q o : Outcome ℕ) (one : Told) → q ≡ o → IsToldEnd q one → IsToldEnd q (over o one)
over_end Committed o one e h = h
over_end (AbortedBy (Conflict key reader)) o one e h = tt
over_end (AbortedBy (Depends on)) o one e h = tt
over_end (AbortedBy (ReadsFull queued left)) o one e h = tt
over_end (AbortedBy (WritesFull keys)) o one e h = tt
over_end (AbortedBy (ShareReads keys)) o one e h = tt
over_end (AbortedBy (ShareWrites keys)) o one e h = tt
over_end (AbortedBy EpochEnd) o one e h = tt
over_end (AbortedBy Asked) o one e h = ap Some (sym e)
over_end (AbortedBy (Stopped fault)) o one e h = tt
over_end (UnsureOf epoch) o one e h = h

-- told how it ended, as the record says
pub told_over : (n : ℕ) (t : TxnRecord ℕ) (one : Told) (o : Outcome ℕ) → t.outcome ≡ o → IsTold n t one → IsTold n t (over o one)
told_over n t one o e h = record {
  client = h.client;
  named = h.named;
  epoch = h.epoch;
  ticket = h.ticket;
  ops = h.ops;
  ends = over_end t.outcome o one e h.ends;
  as_told = λ p is. e ∙ same_Some o p is;
}

-- ---- a record

pub tells_record : (n epoch s : ℕ) (ws : List Work) (hs : List Holder) (told : List Told) → Mirrors (FitsRecord n epoch) n s ws hs told → TellAll n (filter (λ t. t.client == n) (txns_from epoch s ws hs)) told
tells_record n epoch s [] [] told h = subst (TellAll n []) (sym h) tt
tells_record n epoch s [] (x ∷ hs) told h = absurd h
tells_record n epoch s (w ∷ ws) [] told h = absurd h
tells_record n epoch s (w ∷ ws) (x ∷ hs) told (inl other) =
    subst (λ b. TellAll n (cond b (txn_at epoch s w x ∷ filter (λ t. t.client == n) (txns_from epoch (suc s) ws hs)) (filter (λ t. t.client == n) (txns_from epoch (suc s) ws hs))) told) (sym (ne_eqb x.client n other.0))
    (tells_record n epoch (suc s) ws hs told other.1)
tells_record n epoch s (w ∷ ws) (x ∷ hs) told (inr own) =
    subst (λ b. TellAll n (cond b (txn_at epoch s w x ∷ filter (λ t. t.client == n) (txns_from epoch (suc s) ws hs)) (filter (λ t. t.client == n) (txns_from epoch (suc s) ws hs))) told) (sym (eq-eqb x.client n own.mine))
    (subst (TellAll n (txn_at epoch s w x ∷ filter (λ t. t.client == n) (txns_from epoch (suc s) ws hs))) (sym own.is) (own.fits.told own.mine, tells_record n epoch (suc s) ws hs own.more own.rest))

-- ---- several

pub tell_all-append : (n : ℕ) (xs ys : List (TxnRecord ℕ)) (a b : List Told) → TellAll n xs a → TellAll n ys b → TellAll n (xs ++ ys) (a ++ b)
tell_all-append n [] ys [] b h g = g
tell_all-append n [] ys (one ∷ a) b h g = absurd h
tell_all-append n (t ∷ xs) ys [] b h g = absurd h
tell_all-append n (t ∷ xs) ys (one ∷ a) b h g = (h.0, tell_all-append n xs ys a b h.1 g)

pub tell_first-append : (n : ℕ) (xs : List (TxnRecord ℕ)) (a b : List Told) → TellFirst n xs a → TellFirst n xs (a ++ b)
tell_first-append n [] a b h = tt
tell_first-append n (t ∷ xs) [] b h = absurd h
tell_first-append n (t ∷ xs) (one ∷ a) b h = (h.0, tell_first-append n xs a b h.1)

pub first_from_all : (n : ℕ) (xs : List (TxnRecord ℕ)) (a : List Told) → TellAll n xs a → TellFirst n xs a
first_from_all n [] a h = tt
first_from_all n (t ∷ xs) [] h = h
first_from_all n (t ∷ xs) (one ∷ a) h = (h.0, first_from_all n xs a h.1)

-- the client's transactions that were published, behind one reply more
abbrev pub more_txns : ℕ → List (TxnRecord ℕ) → Reply → List (TxnRecord ℕ)
more_txns n txns (Published told) = txns ++ filter (λ t. t.client == n) told.txns
more_txns n txns _ = txns

pub more_is : (n : ℕ) (txns : List (TxnRecord ℕ)) (reply : Reply) → more_txns n txns reply ≡ txns ++ txns_by n (records_told reply)
more_is n txns (Published told) = ap (λ ts. txns ++ filter (λ (t : TxnRecord ℕ). t.client == n) ts) (sym (append-nil told.txns))
more_is n txns _ = sym (append-nil txns)

pub txns_by-append : (n : ℕ) (xs ys : List (EpochRecord ℕ)) → txns_by n (xs ++ ys) ≡ txns_by n xs ++ txns_by n ys
txns_by-append n xs ys =
    ap (filter (λ (t : TxnRecord ℕ). t.client == n)) (flat_map-append (λ (r : EpochRecord ℕ). r.txns) xs ys)
    ∙ filter-append (λ (t : TxnRecord ℕ). t.client == n) (flat_map (λ (r : EpochRecord ℕ). r.txns) xs) (flat_map (λ (r : EpochRecord ℕ). r.txns) ys)
