use Rattle.std.proofs.Common.{◌≡◌, ℕ, ◌+◌, ◌*◌, List, arith, ap, ◌∙◌}
use Rattle.std.proofs.lemmas.List.{take_all}
use Rattle.rand_chacha.specs.ChaCha.{ChaCha, key_of}
use Rattle.ob_seal.specs.Pads.{words_from}
use Rattle.ob_seal.proofs.PadLemmas.{at_place, length-words_from, word_bytes-chacha}
use Rattle.ob_seal.proofs.cells.next_pad.Goals as goal

pub returns : goal.returns
returns c key generation number standing =
    let words = word_bytes-chacha (key_of key) generation (24 * number) 24 in
    let long = length-words_from (key_of key) generation (24 * number) 24 in
    let whole = take_all 96 (words_from (key_of key) generation (24 * number) 24) (omega arith) in
    let filled = ap (λ (p : List ℕ × ChaCha). p.0) c.fill_bytes_via_u32.ensures in
    let left = ap (λ (p : List ℕ × ChaCha). p.1) c.fill_bytes_via_u32.ensures in
    let pad = rw (standing, words) at filled in
    let behind = rw (standing, words) at left in
    let next : 24 * number + 24 ≡ 24 * (number + 1) = omega arith in
    (pad ∙ whole, behind ∙ ap (at_place (key_of key) generation) next)
