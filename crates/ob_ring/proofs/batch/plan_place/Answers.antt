use Rattle.std.proofs.Common.{◌∙◌, ap, [], ◌∷◌, ◌++◌, length}
use Rattle.ob_ring.specs.Fetching.{leaf_of_place}
use Rattle.ob_ring.proofs.FetchLaws.{place_fetches}
use Rattle.ob_ring.proofs.batch.plan_place.Goals as goal

pub returns-clause-plans : goal.returns-clause-plans
returns-clause-plans c =
    place_fetches c.args.p.now c.args.book.now c.fetch-found.new.book c.args.metas.now c.fetch-found.new.metas c.visit_path.new.metas c.args.jobs.now c.push_place.new.self c.visit_path.new.jobs c.args.ask c.args.own c.fetch-found.result c.leaf_of-leaf.result
    c.requires.book c.requires.own c.fetch-found.ensures (c.leaf_of-leaf.ensures ∙ ap (λ k. leaf_of_place k c.args.own) c.kept.ensures)
    (c.push_place.ensures ∙ (λ i. record c.args.jobs.now { places = c.args.jobs.now.places ++ record { leaf = c.leaf_of-leaf.result; first = length (c.jobs.ensures i) } ∷ [] }))
    c.visit_path.ensures.grows.places c.visit_path.ensures.plans
