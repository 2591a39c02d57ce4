-- The committed transaction of a lone client's epoch is its last one.
use Rattle.std.proofs.Common.{◌≡◌, ℕ, suc, ◌<◌, true, false, List, [], ◌∷◌, length, map, All, Option, None, Some, option_map, unwrap_or, slice_get, get_or, refl, sym, ap, ◌∙◌, arith}
use Rattle.std.specs.List.{range_with_len}
use Rattle.std.proofs.lemmas.List.Elements.{All-nil, All-cons, All-head, All-tail}
use Rattle.ob_serial.specs.Serial.{TxnRecord, EpochRecord}
use Rattle.ob_serial.specs.declared.records.Why.{Why}
use Rattle.ob_serial.specs.declared.records.Outcome.TheVariants.{Committed, Aborted as AbortedBy}
use Rattle.ob_order.specs.Works.{Work, is_going, goes_on}
use Rattle.ob_desk.specs.declared.clients.Holder.{Holder}
use Rattle.ob_desk.specs.Desk.{Part, new_desk, why_of, record_of, published}
use Rattle.ob_outcomes.specs.Lone.{CommittedIsLast, LoneCommitsLast, HasOneCommitted, OneAnEpoch}
use Rattle.ob_outcomes.proofs.Alone.{OnlyLast, alone_tale}
use Rattle.ob_outcomes.proofs.Causes.{Sound, good_new, told_all}
use Rattle.ob_outcomes.proofs.Closed.{length-txns_from}
use Rattle.ob_outcomes.proofs.Desks.{runs_new}
use Rattle.ob_outcomes.proofs.Numbered.{records_are_numbered}
use Rattle.ob_outcomes.proofs.Records.{record_all, why_none}
use Rattle.ob_outcomes.specs.Alone.{IsOwnWhy}

none_told : (o : Option (Why ℕ)) → unwrap_or (option_map AbortedBy o) Committed ≡ Committed → o ≡ None
none_told None e = refl
none_told (Some why) e = let f : AbortedBy why ≡ Committed = e in absurd (cc)

record_last : (part : Part) → Sound (λ ws t why. IsOwnWhy why) OnlyLast part → CommittedIsLast (record_of part)
record_last part sound = record_all (λ t. t.outcome ≡ Committed → t.ticket ≡ length (record_of part).txns) part each
  where
    each : (n : ℕ) (w : Work) (h : Holder) → slice_get part.order.works n ≡ Some w → slice_get part.holders n ≡ Some h → unwrap_or (option_map AbortedBy (why_of w.fate h.cause)) Committed ≡ Committed → suc n ≡ length (record_of part).txns
    each n w h at_work at_holder e =
        let going : goes_on part.order.works (suc n) ≡ true = ap (λ o. unwrap_or (option_map (λ (x : Work). is_going x.fate) o) false) at_work ∙ why_none w.fate h.cause (none_told (why_of w.fate h.cause) e) in
        sound.more.at_each (suc n) going ∙ sym (length-txns_from part.epoch 1 part.order.works part.holders sound.even)

pub lone_commits_last : LoneCommitsLast
lone_commits_last setup epoch left client steps d may run =
    told_all (λ ws t why. IsOwnWhy why) OnlyLast setup (client ∷ []) (λ d. Unit {0}) (alone_tale setup client) CommittedIsLast record_last (λ d. tt)
    (new_desk setup epoch left (client ∷ [])) steps d run (runs_new setup epoch left (client ∷ [])) (good_new (λ ws t why. IsOwnWhy why) OnlyLast setup (client ∷ []) (λ d. Unit {0}) (alone_tale setup client) epoch left)

-- ---- so an epoch that has only committed ones has one

one_there : (txns : List (TxnRecord ℕ)) (n : ℕ) → n ≡ length txns → All (λ t. t.outcome ≡ Committed → t.ticket ≡ n) txns → map (λ t. t.ticket) txns ≡ range_with_len 1 (length txns) → 0 < length txns → All (λ t. t.outcome ≡ Committed) txns → length txns ≡ 1
one_there [] n is last numbered some all = absurd (omega (arith, some))
one_there (t ∷ txns) n is last numbered some all =
    let first : t.ticket ≡ 1 = ap (λ ts. get_or ts 0 0) numbered in
    let here = All-head (λ (t : TxnRecord ℕ). t.outcome ≡ Committed → t.ticket ≡ n) t txns last (All-head (λ (t : TxnRecord ℕ). t.outcome ≡ Committed) t txns all) in
    sym is ∙ sym here ∙ first

all_one : (rs : List (EpochRecord ℕ)) → All CommittedIsLast rs → All (λ r. map (λ t. t.ticket) r.txns ≡ range_with_len 1 (length r.txns)) rs → All (λ r. 0 < length r.txns) rs → All (λ r. All (λ t. t.outcome ≡ Committed) r.txns) rs → All HasOneCommitted rs
all_one [] last numbered some all = All-nil HasOneCommitted
all_one (r ∷ rs) last numbered some all = All-cons HasOneCommitted r rs
    (record {
      one = one_there r.txns (length r.txns) refl (All-head CommittedIsLast r rs last) (All-head (λ (r : EpochRecord ℕ). map (λ t. t.ticket) r.txns ≡ range_with_len 1 (length r.txns)) r rs numbered)
          (All-head (λ (r : EpochRecord ℕ). 0 < length r.txns) r rs some) (All-head (λ (r : EpochRecord ℕ). All (λ t. t.outcome ≡ Committed) r.txns) r rs all);
      committed = All-head (λ (r : EpochRecord ℕ). All (λ t. t.outcome ≡ Committed) r.txns) r rs all;
    })
    (all_one rs (All-tail CommittedIsLast r rs last) (All-tail (λ (r : EpochRecord ℕ). map (λ t. t.ticket) r.txns ≡ range_with_len 1 (length r.txns)) r rs numbered)
    (All-tail (λ (r : EpochRecord ℕ). 0 < length r.txns) r rs some) (All-tail (λ (r : EpochRecord ℕ). All (λ t. t.outcome ≡ Committed) r.txns) r rs all))

pub one_an_epoch : OneAnEpoch
one_an_epoch setup epoch left client steps d may run some all =
    all_one (published steps) (lone_commits_last setup epoch left client steps d may run) (records_are_numbered setup epoch left (client ∷ []) steps d may run).tickets some all
