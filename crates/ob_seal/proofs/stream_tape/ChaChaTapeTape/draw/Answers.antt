use Rattle.std.proofs.Common.{◌≡◌, ◌<◌, ◌*◌, ◌+◌, ◌/◌, ◌%◌, ◌^◌, ℕ, arith, refl, ap, ◌∙◌}
use Rattle.std.proofs.lemmas.List.FromFn.{length-map-range_with_len, map-range_with_len_more}
use Rattle.rand_chacha.specs.ChaCha.{ChaCha, next_word}
use Rattle.rand_core.specs.Steps.{u64_via_u32}
use Rattle.ob_seal.specs.Draws.{stream_word}
use Rattle.ob_seal.proofs.stream_tape.ChaChaTapeTape.draw.Goals as goal

-- a pair of words at an even place is the word of half that place, and leaves the next even place
pair_at : (g : ChaCha) (i : ℕ) → g.word_pos ≡ 2 * i → i < 2 ^ 62
    → u64_via_u32 (next_word 10) g ≡ (stream_word g.key g.stream i, record g { word_pos = 2 * (i + 1) })
pair_at g i place few =
    let here : (2 * i + 1) % 2 ^ 68 ≡ 2 * i + 1 = omega arith in
    let next : (2 * i + 1 + 1) % 2 ^ 68 ≡ 2 * (i + 1) = omega arith in
    rw (place, here, next) refl

pub invariant_of-self : goal.invariant_of-self
invariant_of-self c =
    let drawn = length-map-range_with_len (stream_word c.self.inside.generator.key c.self.inside.generator.stream) 0 (c.self.inside.generator.word_pos / 2) in
    let few : c.self.inside.generator.word_pos / 2 < 2 ^ 62 = rw (← c.self.view_is, drawn) at c.requires in
    let even : c.self.inside.generator.word_pos ≡ 2 * (c.self.inside.generator.word_pos / 2) = omega (arith, c.self.invariant.0) in
    let pair = c.next_u64_via_u32.ensures ∙ pair_at c.self.inside.generator (c.self.inside.generator.word_pos / 2) even few in
    let place = ap (λ (p : ℕ × ChaCha). p.1.word_pos) pair in
    (omega arith, omega arith)

pub returns-clause-more : goal.returns-clause-more
returns-clause-more c =
    let drawn = length-map-range_with_len (stream_word c.self.inside.generator.key c.self.inside.generator.stream) 0 (c.self.inside.generator.word_pos / 2) in
    let few : c.self.inside.generator.word_pos / 2 < 2 ^ 62 = rw (← c.self.view_is, drawn) at c.requires in
    let even : c.self.inside.generator.word_pos ≡ 2 * (c.self.inside.generator.word_pos / 2) = omega (arith, c.self.invariant.0) in
    let pair = c.next_u64_via_u32.ensures ∙ pair_at c.self.inside.generator (c.self.inside.generator.word_pos / 2) even few in
    let word = ap (λ (p : ℕ × ChaCha). p.0) pair in
    let key = ap (λ (p : ℕ × ChaCha). p.1.key) pair in
    let stream = ap (λ (p : ℕ × ChaCha). p.1.stream) pair in
    let place = ap (λ (p : ℕ × ChaCha). p.1.word_pos) pair in
    let next : c.next_u64_via_u32.new.rng.word_pos / 2 ≡ c.self.inside.generator.word_pos / 2 + 1 = omega arith in
    rw (← c.self.view_is, key, stream, next, word) (map-range_with_len_more (stream_word c.self.inside.generator.key c.self.inside.generator.stream) 0 (c.self.inside.generator.word_pos / 2) (c.self.inside.generator.word_pos / 2) (omega arith))
