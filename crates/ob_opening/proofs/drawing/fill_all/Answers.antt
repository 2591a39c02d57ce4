use Rattle.std.proofs.Common.{◌≡◌, ◌<◌, ◌≤◌, ◌+◌, ℕ, List, length, drop, ap, sym, ◌∙◌, arith, length-append}
use Rattle.std.proofs.lemmas.List.{length-drop, length-take-le}
use Rattle.ob_base.specs.Tree.{buckets, width}
use Rattle.ob_base.proofs.Bounds.{width_le}
use Rattle.ob_tables.specs.Buckets.{Buckets, version_at, with_version}
use Rattle.ob_tables.specs.Version.{Version}
use Rattle.ob_opening.specs.Formats.{first_version}
use Rattle.ob_opening.proofs.DrawLaws.{filling, filling_blank, filling_next, length-filling}
use Rattle.ob_opening.proofs.drawing.fill_all.Goals as goal

pub fill_first-requires-clause-many : goal.fill_first-requires-clause-many
fill_first-requires-clause-many g c =
    let p = c.args.p.now in
    let low : c.loop-bucket.bucket ≤ buckets p = omega (arith, c.loop-bucket-test.true, c.loop-bucket.auto.bucket-end, c.buckets-bucket-end.ensures.buckets) in
    ap (λ (m : Buckets). length m.versions) c.loop-bucket.invariant.versions ∙ length-filling p (g.T.Tape.drawn c.loop-bucket.tape) c.loop-bucket.bucket low

pub fill_first-requires-clause-blank : goal.fill_first-requires-clause-blank
fill_first-requires-clause-blank g c =
    let p = c.args.p.now in
    let low : c.loop-bucket.bucket < buckets p = omega (arith, c.loop-bucket-test.true, c.loop-bucket.auto.bucket-end, c.buckets-bucket-end.ensures.buckets) in
    ap (λ (m : Buckets). version_at m.versions c.loop-bucket.bucket) c.loop-bucket.invariant.versions ∙ filling_blank p (g.T.Tape.drawn c.loop-bucket.tape) c.loop-bucket.bucket low

pub loop-bucket-preserved : goal.loop-bucket-preserved
loop-bucket-preserved g c =
    let p = c.args.p.now in
    let n = c.loop-bucket.bucket in
    let drawn = g.T.Tape.drawn c.loop-bucket.tape in
    let words = c.fill_first.new.words in
    let invariant = c.loop-bucket.invariant in
    let low : n < buckets p = omega (arith, c.loop-bucket-test.true, c.loop-bucket.auto.bucket-end, c.buckets-bucket-end.ensures.buckets) in
    let long : length words ≡ width p = c.fill_first.ensures.words ∙ length-take-le (width p) c.loop-bucket.words (omega (arith, invariant.words, width_le p)) in
    let all : length (g.T.Tape.drawn c.fill_first.new.tape) ≡ length drawn + length words = ap (λ (l : List ℕ). length l) c.fill_first.ensures.drawn ∙ length-append drawn words in
    let rest = drop (width p) c.loop-bucket.words in
    record {
      versions = c.fill_first.ensures.version
          ∙ ap (λ (m : Buckets). with_version m n (first_version p n words)) invariant.versions
          ∙ ap (λ (vs : List Version). record c.args.metas.now { versions = vs }) (filling_next p drawn words n low invariant.many long ∙ ap (λ (ds : List ℕ). filling p ds (n + 1)) (sym c.fill_first.ensures.drawn));
      many = omega (arith, all, long, invariant.many);
      words = omega (arith, length-append words rest, long, length-drop (width p) c.loop-bucket.words, invariant.words, width_le p);
      same = c.fill_first.ensures.same ∙ invariant.same;
    }
