use Rattle.std.proofs.Common.{ℕ, ◌∙◌, ap}
use Rattle.std.specs.Prelude.{◌-◌}
use Rattle.ob_ring.proofs.SealLaws.{sealed_one}
use Rattle.ob_ring.proofs.pass.seal_one.Goals as goal

pub returns : goal.returns
returns c =
    sealed_one c.args.p.now c.args.metas.now c.args.bucket c.get_mut.result.now c.seal_anew.new.self (1 - c.home-home.result) c.args.generation c.args.base c.args.words.now c.requires.whole c.requires.bucket c.get_mut.ensures.value c.seal_anew.ensures c.requires.words
    (ap (λ (h : ℕ). 1 - h) (c.home-home.ensures.home ∙ ap (λ v. v.home) c.get.ensures))
