use Rattle.std.proofs.Common.{◌+◌, ◌*◌, ◌%◌, ℕ, List, [], arith, length, subst, sym, drop}
use Rattle.ob_base.specs.Tree.{width}
use Rattle.ob_end.specs.Sealing.{IsBucketSealed, IsGroupReady}
use Rattle.ob_end.specs.EndWrites.{listed_at}
use Rattle.ob_end.proofs.Products.{put_back}
use Rattle.ob_end.proofs.filling.make_ready.Goals as goal

pub seal_in_time-requires-clause-ready : goal.seal_in_time-requires-clause-ready
seal_in_time-requires-clause-ready g c κs within = λ first e.
    subst (λ (rows : List (List (List ℕ))). IsGroupReady c.args.sealer.now.keys c.args.sealer.now.generation first c.args.ring.now c.args.i rows) (sym c.as_mut_slice.ensures.value) (c.requires.ready first e)

pub returns : goal.returns
returns g c = λ first e k le lt same.
    let s = c.args.sealer.now in
    let r = c.args.ring.now in
    let rows = c.seal_in_time.new.rows in
    let many = c.args.bench.now.rows.len in
    let rest = drop (length rows) c.args.bench.now.rows.items in
    let whole = c.args.bench.now.whole in
    let at = k % 32 in
    subst (λ (b : List (List ℕ)). IsBucketSealed s.keys s.generation (first + k * width r.p) r (listed_at r k) b)
    (sym (put_back many rows rest at [] (omega (arith, whole)) (omega (arith, c.seal_in_time.ensures.many))))
    (c.seal_in_time.ensures.ready first e k le lt same)
