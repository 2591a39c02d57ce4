use Rattle.std.proofs.Common.{◌≡◌, ◌*◌, ◌≤◌, [], ◌∷◌, map}
use Rattle.std.specs.Vec.{vec_len, vec_capacity}
use Rattle.ob_base.specs.Tree.{below}
use Rattle.ob_script.specs.Drill.{drill_txn, key_added, key_read, number_after}
use Rattle.ob_script.specs.ScriptViews.{script_of}
use Rattle.ob_script.proofs.drilling.drill.Given as goal

-- The transactions so far are made, those to come have room, and the number is that behind two steps for each.
abbrev pub invariant-loop : goal.invariant-loop
invariant-loop l =
    (l.clients.items ≡ 1 ∷ [])
    × (script_of l.txns.items ≡ map (λ i. drill_txn (key_read i) (key_added i)) (below l.counter))
    × (l.x ≡ number_after (2 * l.counter))
    × (vec_len l.txns ≡ l.counter)
    × (l.count ≤ vec_capacity l.txns)
