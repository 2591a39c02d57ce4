use Rattle.std.proofs.Common.{refl, subst}
use Rattle.ob_plain_serial.specs.VaultRuns.{MayEnd, MayFetch}
use Rattle.ob_ring_vault_tests.proofs.CallLaws.{serving}
use Rattle.ob_ring_vault_tests.proofs.calls.may_serve.Goals as goal

pub returns-in-Fetch : goal.returns-in-Fetch
returns-in-Fetch c = λ is epoch. rw c.in-Fetch.is (subst (λ asks. MayFetch c.args.p.now (serving epoch c.args.left) asks) c.deref.ensures.value
    (let e = c.may_fetch.ensures in record { serves = refl; some_left = e.some_left is; whole = e.whole is; keys = e.keys is; distinct = e.distinct is }))

pub returns-in-End : goal.returns-in-End
returns-in-End c = λ is epoch. rw c.in-End.is (subst (λ writes. MayEnd c.args.p.now (serving epoch c.args.left) writes) c.deref-in-End.ensures.value
    (let e = c.may_end.ensures in record { serves = refl; none_left = e.none_left is; few = e.few is; rising = e.rising is; keys = e.keys is }))
