-- The words of a version, as the tape gave them; and a format's.
use Rattle.std.specs.Prelude.{◌≡◌, ℕ, zero, suc, ◌+◌, ◌*◌, ◌<◌, ◌≤◌, List, ◌∷◌, drop, length, map, slice_index, take}
use Rattle.std.specs.List.{range_with_len}
use Rattle.std.proofs.Common.{arith, refl, sym, ap, ◌∙◌}
use Rattle.std.proofs.Math.Nat.{mul-le-mul_right}
use Rattle.std.proofs.lemmas.List.{get_or-drop, get_or-take, length-drop, length-take-le}
use Rattle.std.proofs.lemmas.List.FromFn.{get_or-map-range_with_len}
use Rattle.ob_base.specs.declared.params.Params.{Params}
use Rattle.ob_base.specs.Tree.{below, buckets, width}
use Rattle.ob_tables.specs.Buckets.{no_version}
use Rattle.ob_tables.specs.Rank.{rank, ranks_of}
use Rattle.ob_tables.specs.Version.{Version, rank_at}
use Rattle.ob_stand.specs.Fresh.{fresh_content, fresh_version}
use Rattle.ob_recover.specs.Life.{WordId}
use Rattle.ob_recover.proofs.Fills.{items_of}
use Rattle.ob_fresh.specs.Drawn.{formatted_words, AreRanksFrom, version_words, words_on}
use Rattle.ob_opening.specs.Formats.{drawn_ranks, format_words, words_of}
use Rattle.ob_opening.specs.OpeningActs.{AreSlotsIn}
use Rattle.ob_vault.specs.Acts.{AreTapeWords}

map_agree : (f g : ℕ → ℕ) (a n : ℕ) → ((i : ℕ) → i < a + n → f i ≡ g i) → map f (range_with_len a n) ≡ map g (range_with_len a n)
map_agree f g a zero same = refl
map_agree f g a (suc n) same = λ j. same a (omega arith) j ∷ map_agree f g (a + 1) n (λ i lt. same i (omega arith)) j

-- as many words as a version has, each its own
pub is_version : (p : Params) (word_of : WordId → ℕ) (first : WordId) (words : List ℕ) → length words ≡ width p → ((j : ℕ) → j < width p → word_of (words_on first j) ≡ slice_index words j) → version_words p word_of first ≡ words
is_version p word_of first words many each =
    map_agree (λ j. word_of (words_on first j)) (λ j. slice_index words j) 0 (width p) (λ j lt. each j (omega arith))
    ∙ ap (λ (n : ℕ). map (λ j. slice_index words j) (below n)) (sym many) ∙ items_of words

pub rank_in : (words : List ℕ) (j : ℕ) → j < length words → slice_index (ranks_of words) j ≡ rank words j
rank_in words j low = get_or-map-range_with_len (rank words) 0 (length words) j j 0 low (omega arith)

-- slots that are the ranks of words which the tape gave
pub ranked_from : (p : Params) (word_of : WordId → ℕ) (slot : ℕ → ℕ) (first : WordId) (words : List ℕ) → length words ≡ width p → ((j : ℕ) → j < width p → word_of (words_on first j) ≡ slice_index words j) →
    ((j : ℕ) → j < width p → slot j ≡ slice_index (ranks_of words) j) → AreRanksFrom p word_of slot first
ranked_from p word_of slot first words many each ranks j low = ranks j low ∙ rank_in words j (omega (arith, low, many)) ∙ ap (λ (ws : List ℕ). rank ws j) (sym (is_version p word_of first words many each))

-- so many words of a list, behind so many others
pub part_many : (w m : ℕ) (words : List ℕ) → m + w ≤ length words → length (take w (drop m words)) ≡ w
part_many w m words room = length-take-le w (drop m words) (omega (arith, room, length-drop m words))

pub part_at : (w m j : ℕ) (words : List ℕ) → j < w → slice_index (take w (drop m words)) j ≡ slice_index words (m + j)
part_at w m j words low = get_or-take w (drop m words) j 0 low ∙ get_or-drop m words j 0

pub format_ranked : (p : Params) (drawn : List ℕ) (slot : ℕ → ℕ → ℕ) (word_of : WordId → ℕ) → length drawn ≡ format_words p → AreSlotsIn p (fresh_content p (drawn_ranks p drawn)) slot → AreTapeWords word_of 1 drawn → (u : ℕ) → u < buckets p →
    AreRanksFrom p word_of (slot u) ((formatted_words p).first u)
format_ranked p drawn slot word_of whole in_order tape u low =
    let m : ℕ = u * width p in
    let room : m + width p ≤ length drawn = (let more : (u + 1) * width p ≤ buckets p * width p = mul-le-mul_right (width p) (omega (arith, low)) in let many = whole in omega (arith, more, many)) in
    ranked_from p word_of (slot u) (record { generation = 1; place = m }) (words_of p drawn u) (part_many (width p) m drawn room)
    (λ j lt. tape (m + j) (omega (arith, lt, room)) ∙ sym (part_at (width p) m j drawn lt))
    (λ j lt. in_order u j low lt
    ∙ ap (λ (v : Version). rank_at v j) (get_or-map-range_with_len (fresh_version p (drawn_ranks p drawn)) 0 (buckets p) u u no_version low (omega arith)))
