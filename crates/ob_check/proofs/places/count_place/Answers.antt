use Rattle.std.proofs.Common.{◌+◌, ◌*◌, ◌∙◌, ap}
use Rattle.ob_check.proofs.PlaceLaws.{count_end, count_from, count_few}
use Rattle.ob_check.proofs.places.count_place.Goals as goal

pub returns-clause-place : goal.returns-clause-place
returns-clause-place c = count_from c.args.p.now c.buckets.result c.meta_len.result c.buckets.ensures.buckets c.meta_len.ensures.len

pub returns-clause-within : goal.returns-clause-within
returns-clause-within c = ap (λ n. n + 4 + 69 * c.args.p.now.room) (count_from c.args.p.now c.buckets.result c.meta_len.result c.buckets.ensures.buckets c.meta_len.ensures.len) ∙ count_end c.args.p.now

pub returns-clause-few : goal.returns-clause-few
returns-clause-few c = count_few c.args.p.now _ (count_from c.args.p.now c.buckets.result c.meta_len.result c.buckets.ensures.buckets c.meta_len.ensures.len)
