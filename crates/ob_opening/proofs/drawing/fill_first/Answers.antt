use Rattle.std.proofs.Common.{◌≡◌, length, ap, sym, ◌∙◌}
use Rattle.std.proofs.lemmas.List.FromFn.{length-range_with_len}
use Rattle.ob_base.specs.Tree.{width}
use Rattle.ob_tables.specs.Version.{Version}
use Rattle.ob_opening.proofs.drawing.fill_first.Goals as goal

pub fill-requires-clause-words : goal.fill-requires-clause-words
fill-requires-clause-words g c =
    let slots : length c.get_mut.result.now.ranks ≡ width c.args.p.now = ap (λ (v : Version). length v.ranks) (c.get_mut.ensures.value ∙ c.requires.blank) ∙ length-range_with_len 0 (width c.args.p.now) in
    c.draw_words.ensures.many ∙ c.requires.words ∙ sym slots
