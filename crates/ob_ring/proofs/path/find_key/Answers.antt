use Rattle.std.proofs.Common.{ℕ, arith, ◌∙◌, sym, ap, inl, inr}
use Rattle.std.specs.Prelude.{◌≡◌, ◌<◌, length}
use Rattle.std.specs.declared.option.Option.TheVariants.{None, Some}
use Rattle.std.proofs.lemmas.Bool.{cases_eq}
use Rattle.ob_base.specs.Tree.{bucket_of}
use Rattle.ob_tables.specs.Version.{Version, HasSlots, key_at, live_index}
use Rattle.ob_tables.specs.Buckets.{version_at}
use Rattle.ob_ring.proofs.PathLaws.{found_live, none_live}
use Rattle.ob_ring.proofs.path.find_key.Goals as goal

pub returns-in-Some : goal.returns-in-Some
returns-in-Some c =
    let v : Version = version_at c.args.metas.now.versions c.bucket_of-bucket.result in
    let slots : HasSlots c.args.p.now v = c.requires.whole.slots c.bucket_of-bucket.result c.bucket_of-bucket.ensures.within in
    let at : live_index v c.args.key ≡ Some c.in-Some.index = sym (c.live_index.ensures ∙ ap (λ x. live_index x c.args.key) c.get.ensures) ∙ c.in-Some.is in
    let live : (c.in-Some.index < length v.keys) × (key_at v c.in-Some.index ≡ Some c.args.key) = found_live v c.args.key c.in-Some.index at in
    (c.bucket_of-bucket.ensures.within, omega (arith, live.0, slots.keys), live.1)

pub loop-level-preserved : goal.loop-level-preserved
loop-level-preserved c = λ i j low. elim (cases_eq i c.loop-level.level) [
  | inl at ↦ (let v : Version = version_at c.args.metas.now.versions c.bucket_of-bucket.result in
      let none : live_index v c.args.key ≡ None = sym (c.live_index.ensures ∙ ap (λ x. live_index x c.args.key) c.get.ensures) ∙ c.in_default.is in
      let here : bucket_of c.args.p.now i c.args.leaf ≡ c.bucket_of-bucket.result = ap (λ (n : ℕ). bucket_of c.args.p.now n c.args.leaf) at ∙ sym c.bucket_of-bucket.ensures.bucket in
      λ e. none_live v c.args.key j none (ap (λ (w : ℕ). key_at (version_at c.args.metas.now.versions w) j) (sym here) ∙ e))
  | inr ne ↦ c.loop-level.invariant i j (omega arith)
]

pub returns : goal.returns
returns c = λ i j low. c.loop-level.invariant i j (omega arith)
