use Rattle.std.proofs.Common.{◌≡◌, ◌++◌, map, take, drop}
use Rattle.ob_order.specs.Works as works
use Rattle.ob_versions.proofs.ledger.Ledger.stop.Given as goal

-- those so far are stopped
abbrev pub invariant-loop-n : goal.invariant-loop-n
invariant-loop-n l = l.self ≡ record l.fn.self { works = map works.stop_work (take l.n l.fn.self.works) ++ drop l.n l.fn.self.works }
