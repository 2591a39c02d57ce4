use Rattle.ob_key_versions.specs.Tables.{has_links}
use Rattle.ob_key_versions.proofs.Unlinks.{count_taken}
use Rattle.ob_key_versions.proofs.unlink.unlink_one.Goals as goal

pub returns-in-Some-clause-count : goal.returns-in-Some-clause-count
returns-in-Some-clause-count c = count_taken (has_links c.args.table.now) (has_links c.take.new.table) c.in-Some.key c.args.keys c.take.result c.count_where.result c.take.ensures.keys c.take.ensures.fewer c.take.ensures.last c.count_where.ensures
