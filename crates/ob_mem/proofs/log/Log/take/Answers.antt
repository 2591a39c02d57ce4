use Rattle.std.proofs.lemmas.List.{append-nil}
use Rattle.ob_mem.proofs.Keeping.{noted_lane, of_lane}
use Rattle.ob_mem.proofs.log.Log.take.Goals as goal

pub returns-clause-notes : goal.returns-clause-notes
returns-clause-notes c =
    noted_lane c.args.self.now.starved _ c.args.starved c.args.self.now.heard.items c.push_reserved.new.self.items c.args.events.items c.sum_of-self.ensures.none c.sum_of-self.ensures.some
    (of_lane _ _ _ c.args.events.items c.push_reserved.ensures.items (append-nil c.args.events.items))
