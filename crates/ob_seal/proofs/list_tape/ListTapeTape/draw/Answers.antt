use Rattle.std.proofs.Common.{◌≡◌, ◌<◌, ◌^◌, arith, rules}
use Rattle.std.proofs.lemmas.List.FromFn.{length-map-range_with_len, map-range_with_len_more}
use Rattle.ob_seal.specs.Draws.{list_word}
use Rattle.ob_seal.proofs.list_tape.ListTapeTape.draw.Goals as goal

pub invariant_of-self : goal.invariant_of-self
invariant_of-self c =
    let drawn = length-map-range_with_len (list_word c.self.inside.words.items) 0 c.self.inside.place in
    let few : c.self.inside.place < 2 ^ 62 = rw (← c.self.view_is, drawn) at c.requires in
    omega arith

pub returns-clause-more : goal.returns-clause-more
returns-clause-more c =
    let word : c.unwrap_or-word.result ≡ list_word c.self.inside.words.items c.self.inside.place = search rules in
    rw (← c.self.view_is, word) (map-range_with_len_more (list_word c.self.inside.words.items) 0 c.self.inside.place c.self.inside.place (omega arith))
