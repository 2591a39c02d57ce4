use Rattle.std.proofs.Common.{◌≡◌, ◌∙◌, ap, arith, length, subst, take}
use Rattle.std.proofs.lemmas.List.{take_all}
use Rattle.ob_mem.specs.Laws.{counts_now, includes_reads}
use Rattle.ob_mem.specs.Memory.{disk_of_store}
use Rattle.ob_mem.specs.Replay.{MayLeave, Moment, moment_at, now_of, replay, sure}
use Rattle.ob_store.specs.Images.{IsSynced}
use Rattle.ob_life_tests.proofs.TwoRuns.{lived_so}
use Rattle.ob_life_tests.proofs.living.live.Goals as goal

pub returns-clause-lived : goal.returns-clause-lived
returns-clause-lived g c =
    let formatted : c.format_store-status.result ≡ 0 = omega (arith, c.if-status-ne0.false) in
    let first : c.run_store-status.result ≡ 0 = omega (arith, c.if-status-ne0-2.false) in
    let second : c.run_store-status-2.result ≡ 0 = omega (arith, c.if-status-ne0-3.false) in
    let past = c.run_store-status.new.store.past in
    let left = c.expect-left.result in
    let possible : MayLeave (moment_at past c.moments.result) (disk_of_store left).cells = rw c.expect-left.ensures at c.crash.ensures.possible in
    let all : moment_at past c.moments.result ≡ now_of past = ap (λ calls. replay calls (sure past.first)) (ap (λ n. take n past.calls) c.moments.ensures ∙ take_all (length past.calls) past.calls (omega arith)) in
    let synced : IsSynced (disk_of_store left) = rw c.expect-left.ensures at c.crash.ensures.sure in
    lived_so disk_of_store (λ x t i le left. counts_now x.past t i le left) (λ x tells leaves. includes_reads x.past) c.runs_are_one_life.ensures c.pads_are_fresh.ensures.fresh c.stood_again.ensures.formats c.stood_again.ensures.crashes (λ x. tt) (λ x. tt) c.as_bytes-keys.result _ _ _ _ _ _ _ _
    (c.format_store-status.ensures.made formatted).1 (c.run_store-status.ensures.ran first) (subst (λ (m : Moment). MayLeave m (disk_of_store left).cells) all possible) synced (c.run_store-status-2.ensures.ran second)
