use Rattle.std.proofs.Common.{◌+◌, ℕ, List, sym, subst, take, drop, map, filter}
use Rattle.std.specs.Prelude.{flat_map}
use Rattle.std.specs.Ordering.{nat_cmp}
use Rattle.ob_serial.specs.Serial.{TxnRecord, EpochRecord, OneByOne, is_committed}
use Rattle.ob_serial.specs.Views.{record_of}
use Rattle.ob_serial.proofs.Runs.{txns_more, txns_stop, next_part, all_parts}
use Rattle.ob_plain_serial.proofs.plain.run_records.Goals as goal

pub loop-one-preserved : goal.loop-one-preserved
loop-one-preserved c =
    let did = rw c.if-not-branch.false at c.in_ok-run_record.ensures in
    let more = next_part (λ r. record_of r) (λ (r : EpochRecord ℕ). r.txns) c.args.records.now c.loop-one.one-index c.one-item.result c.loop-one-test.true c.one-item.is in
    rw more (txns_more nat_cmp _ _ _ (flat_map (λ (r : EpochRecord ℕ). r.txns) (map (λ r. record_of r) (take c.loop-one.one-index c.args.records.now))) (record_of c.one-item.result).txns c.loop-one.invariant did)

pub returns-then-not-branch : goal.returns-then-not-branch
returns-then-not-branch c =
    let rs = c.args.records.now in
    let i = c.loop-one.one-index in
    let stuck = rw c.if-not-branch.true at c.in_ok-run_record.ensures in
    let more = next_part (λ r. record_of r) (λ (r : EpochRecord ℕ). r.txns) rs i c.one-item.result c.loop-one-test.true c.one-item.is in
    λ last run. txns_stop nat_cmp _ _ (flat_map (λ (r : EpochRecord ℕ). r.txns) (map (λ r. record_of r) (take i rs))) (record_of c.one-item.result).txns (flat_map (λ (r : EpochRecord ℕ). r.txns) (map (λ r. record_of r) (drop (i + 1) rs))) c.loop-one.invariant stuck last
    (subst (λ (ts : List (TxnRecord ℕ)). OneByOne nat_cmp c.args.values.now (filter (λ t. is_committed t) ts) last) (sym (all_parts (λ r. record_of r) (λ (r : EpochRecord ℕ). r.txns) rs i _ more)) run)
