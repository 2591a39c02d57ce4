use Rattle.std.proofs.Common.{ℕ, List, ◌∷◌, [], take, sym, ap, ◌∙◌}
use Rattle.std.specs.Prelude.{Option, None, slice_index_or}
use Rattle.std.proofs.lemmas.List.{take_more}
use Rattle.ob_ring.specs.Plain.{without}
use Rattle.ob_ring.proofs.Forgetting.{without_more}
use Rattle.ob_ring.proofs.plain.forget_keys.Goals as goal

pub loop-i-preserved : goal.loop-i-preserved
loop-i-preserved c = (
  c.forget_key.ensures.low,
  c.forget_key.ensures.room ∙ c.loop-i.invariant.1,
  c.forget_key.ensures.rows ∙ ap (λ m. without m (slice_index_or c.args.keys.now c.loop-i.i None ∷ [])) c.loop-i.invariant.2
      ∙ sym (ap (λ (xs : List (Option ℕ)). without c.args.stash.now.rows xs) (take_more c.args.keys.now c.loop-i.i None c.loop-i-test.true) ∙ without_more c.args.stash.now.rows (take c.loop-i.i c.args.keys.now) (slice_index_or c.args.keys.now c.loop-i.i None)),
)
