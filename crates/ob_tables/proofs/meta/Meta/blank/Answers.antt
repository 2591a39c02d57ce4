use Rattle.ob_tables.proofs.VersionLaws.{whole_blank}
use Rattle.ob_tables.proofs.meta.Meta.blank.Goals as goal

pub invariant_of-result : goal.invariant_of-result
invariant_of-result c = rw (c.no_keys.ensures, c.own_ranks.ensures, c.no_marks.ensures) (whole_blank c.args.p.now)
