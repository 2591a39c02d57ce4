use Rattle.ob_check.proofs.MarkLaws.{one_shown, none_shown}
use Rattle.ob_check.proofs.indexes.count_shown.Goals as goal

pub returns-then-bytes-index_place-eq1-clause-shown : goal.returns-then-bytes-index_place-eq1-clause-shown
returns-then-bytes-index_place-eq1-clause-shown c = one_shown c.args.p.now c.args.bytes.now c.args.u c.args.i c.index_place.result c.args.shown c.index_place.ensures.place c.requires.shown c.if-bytes-index_place-eq1.true

pub returns-clause-shown : goal.returns-clause-shown
returns-clause-shown c = none_shown c.args.p.now c.args.bytes.now c.args.u c.args.i c.index_place.result c.args.shown c.index_place.ensures.place c.requires.shown c.if-bytes-index_place-eq1.false
