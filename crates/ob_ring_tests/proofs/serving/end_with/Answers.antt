use Rattle.std.proofs.Common.{◌∙◌, ap, replicate, sym}
use Rattle.ob_base.specs.Tree.{buckets}
use Rattle.ob_base.specs.declared.params.Params.{Params}
use Rattle.ob_ring_tests.proofs.ServingLaws.{goes_on, serving_on}
use Rattle.ob_ring_tests.proofs.serving.end_with.Goals as goal

pub end-requires-clause-goes_on : goal.end-requires-clause-goes_on
end-requires-clause-goes_on g c κs within = goes_on _ _ _ _ _ _ c.requires.serving

pub end-requires-clause-ready : goal.end-requires-clause-ready
end-requires-clause-ready g c κs within = c.requires.serving.ready

pub end-requires-clause-told : goal.end-requires-clause-told
end-requires-clause-told g c κs within = c.requires.serving.told

pub returns-in-Ok-clause-out : goal.returns-in-Ok-clause-out
returns-in-Ok-clause-out g c = c.in-Ok.ensures.serves.out

pub returns-in-Ok-clause-serving : goal.returns-in-Ok-clause-serving
returns-in-Ok-clause-serving g c =
    let e = c.in-Ok.ensures in
    serving_on _ _ _ _ _ _ e.goes_on e.ready (λ tells. e.told (e.serves.goes.told tells)) (e.index ∙ c.requires.serving.counted ∙ ap (λ (q : Params). replicate (buckets q) 0) (sym e.params))

pub end-requires-clause-keys : goal.end-requires-clause-keys
end-requires-clause-keys g c κs within = c.requires.fit.low

pub end-requires-clause-short : goal.end-requires-clause-short
end-requires-clause-short g c κs within = c.requires.fit.short

pub end-requires-clause-index : goal.end-requires-clause-index
end-requires-clause-index g c κs within = c.requires.serving.counted
