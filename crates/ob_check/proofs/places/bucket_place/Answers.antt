use Rattle.std.proofs.Common.{◌+◌, ◌*◌, ◌∙◌, ap, sym}
use Rattle.ob_check.proofs.PlaceLaws.{bucket_is, place_within, place_few}
use Rattle.ob_check.proofs.places.bucket_place.Goals as goal

pub returns-clause-place : goal.returns-clause-place
returns-clause-place c = ap (λ m. 16 + 21 * c.args.p.now.keys + c.args.u * m) c.meta_len.ensures.len ∙ sym (bucket_is c.args.p.now c.args.u)

pub returns-clause-within : goal.returns-clause-within
returns-clause-within c = place_within c.args.p.now c.args.u _ (ap (λ m. 16 + 21 * c.args.p.now.keys + c.args.u * m) c.meta_len.ensures.len) c.requires

pub returns-clause-few : goal.returns-clause-few
returns-clause-few c = place_few c.args.p.now c.args.u _ (ap (λ m. 16 + 21 * c.args.p.now.keys + c.args.u * m) c.meta_len.ensures.len) c.requires
