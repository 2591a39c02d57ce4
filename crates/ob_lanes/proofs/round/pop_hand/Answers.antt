use Rattle.std.proofs.Common.{◌∷◌, [], ◌++◌, Option, ap, ◌∙◌}
use Rattle.ob_lanes.specs.declared.hand.Hand.{Hand}
use Rattle.ob_lanes.proofs.Last.{popped_none}
use Rattle.ob_lanes.proofs.round.pop_hand.Goals as goal

-- a hand is at each place
pub unreachable-requires-in-None : goal.unreachable-requires-in-None
unreachable-requires-in-None g c = popped_none c.args.hands.now.items c.pop.new.self.items (c.in-Some.ensures.items ∙ ap (λ (p : Option (Hand g.row.L.Denot)). c.pop.new.self.items ++ p ∷ []) c.in-None.is) c.requires.there
