-- What the bytes of a record tell: the record, and no broken rule.
use Rattle.std.proofs.Common.{◌≡◌, ℕ, zero, suc, ◌+◌, ◌*◌, ◌/◌, ◌%◌, ◌<◌, ◌≤◌, ◌^◌, ◌==◌, ◌&&◌, ◌||◌, not, true, if◌then◌else◌, List, [], ◌∷◌, ◌++◌, Option, Some, None, take, drop, length, get_or, refl, sym, ap, ◌∙◌, arith, add-one, append_assoc, length-append}
use Rattle.std.specs.Prelude.{nat_lt, replicate}
use Rattle.std.specs.Int.{w32, w64, from_le_bytes}
use Rattle.std.specs.List.{count_by}
use Rattle.std.proofs.lemmas.Bool.Decides.{nat_tests}
use Rattle.std.proofs.lemmas.List.{take_at, take_all, take_more, drop_at, drop-drop, get_or-take, get_or-drop, ext_get_or, length-take-le, take-append-drop}
use Rattle.std.proofs.Math.ListN.{get_or-append}
use Rattle.std.proofs.lemmas.Nat.{from_le_bytes-to_le_bytes_4, from_le_bytes-to_le_bytes_8}
use Rattle.ob_base.specs.declared.params.Params.{Params}
use Rattle.ob_base.specs.LittleEndian.{field_at}
use Rattle.ob_seal.specs.Pieces.{piece}
use Rattle.ob_seal.specs.Seals.{le64}
use Rattle.ob_cells.specs.Rules.{Rule, first_broken, told_of, form_damage, epoch_damage}
use Rattle.ob_log.specs.Logs.{BatchRecord, RecordObeys, le32, ask_bytes, places_bytes, record_bytes}
use Rattle.ob_log.specs.Places.{place_at, kind_in, key_in, word_in, ask_in, asks_in, words_in, is_ask, is_asked, kind_rule, key_rule, place_rules, batch_rule, record_rules, plain_damage, record_in}
use Rattle.ob_log.proofs.Apart.{lt_so, not_before, few_before}
use Rattle.ob_log.proofs.PlaceReads.{kept_on}
use Rattle.ob_log.proofs.Spelled.{ask_width}
use Rattle.ob_log.proofs.OnceLaws.{record_of}

-- ---- bytes by their pieces

byte_in : (i s : ℕ) (xs : List ℕ) → s < 96 → 96 * i + s < length xs → get_or (piece i xs) s 0 ≡ get_or xs (96 * i + s) 0
unfolding piece
byte_in i s xs low lt =
    let inside : s < length (drop (96 * i) xs) = omega (arith, ap length (take-append-drop (96 * i) xs), length-append (take (96 * i) xs) (drop (96 * i) xs), length-take-le (96 * i) xs (omega arith)) in
    get_or-take 96 (drop (96 * i) xs ++ replicate 96 0) s 0 low ∙ get_or-append (drop (96 * i) xs) (replicate 96 0) 0 s inside ∙ get_or-drop (96 * i) xs s 0

-- whole pieces that are those of shorter bytes begin with these
pub begins : (k : ℕ) (whole bytes : List ℕ) → length whole ≡ 96 * k → length bytes ≤ 96 * k → ((i : ℕ) → i < k → piece i whole ≡ piece i bytes) → whole ≡ bytes ++ drop (length bytes) whole
begins k whole bytes long short each =
    let front : length (take (length bytes) whole) ≡ length bytes = length-take-le (length bytes) whole (omega arith) in
    sym (take-append-drop (length bytes) whole)
    ∙ ap (λ (l : List ℕ). l ++ drop (length bytes) whole) (ext_get_or 0 (take (length bytes) whole) bytes front (λ j lt. at j (omega arith)))
  where
    at : (j : ℕ) → j < length bytes → get_or (take (length bytes) whole) j 0 ≡ get_or bytes j 0
    at j lt =
        let q : ℕ = j / 96 in
        let s : ℕ = j % 96 in
        let split : 96 * q + s ≡ j = omega arith in
        let low : s < 96 = omega arith in
        let few : q < k = omega arith in
        get_or-take (length bytes) whole j 0 lt ∙ ap (λ n. get_or whole n 0) (sym split) ∙ sym (byte_in q s whole low (omega arith))
        ∙ ap (λ (l : List ℕ). get_or l s 0) (each q few) ∙ byte_in q s bytes low (omega arith) ∙ ap (λ n. get_or bytes n 0) split

-- ---- one place

abbrev kind_of : Option ℕ → ℕ
kind_of None = 0
kind_of (Some k) = 1

abbrev key_of : Option ℕ → ℕ
key_of None = 0
key_of (Some k) = k

module _ (whole rest : List ℕ) (n word : ℕ) where
  kind_told : (ask : Option ℕ) → drop n whole ≡ ask_bytes ask ++ (le64 word ++ rest) → get_or whole n 0 ≡ kind_of ask
  kind_told ask at = ap (λ m. get_or whole m 0) (n_is n) ∙ sym (get_or-drop n whole 0 0) ∙ ap (λ (l : List ℕ). get_or l 0 0) at ∙ first ask
    where
      n_is : (m : ℕ) → m ≡ m + 0
      n_is m = omega arith

      first : (a : Option ℕ) → get_or (ask_bytes a ++ (le64 word ++ rest)) 0 0 ≡ kind_of a
      first None = refl
      first (Some k) = refl

  key_told : (ask : Option ℕ) → ((k : ℕ) → ask ≡ Some k → k < 2 ^ 32) → drop n whole ≡ ask_bytes ask ++ (le64 word ++ rest) → field_at w32 whole (n + 1) ≡ key_of ask
  key_told ask fits at = ap (λ (l : List ℕ). from_le_bytes w32 (take 4 l)) (sym (drop-drop 1 n whole) ∙ ap (drop 1) at) ∙ number ask fits
    where
      number : (a : Option ℕ) → ((k : ℕ) → a ≡ Some k → k < 2 ^ 32) → from_le_bytes w32 (take 4 (drop 1 (ask_bytes a ++ (le64 word ++ rest)))) ≡ key_of a
      number None low = from_le_bytes-to_le_bytes_4 0 (omega arith)
      number (Some k) low = from_le_bytes-to_le_bytes_4 k (low k refl)

  word_told : (ask : Option ℕ) → word < 2 ^ 64 → drop n whole ≡ ask_bytes ask ++ (le64 word ++ rest) → field_at w64 whole (n + 5) ≡ word
  word_told ask fits at =
      ap (λ (l : List ℕ). from_le_bytes w64 (take 8 l)) (sym (drop-drop 5 n whole) ∙ ap (drop 5) at ∙ drop_at (ask_bytes ask) (le64 word ++ rest) 5 (ask_width ask))
      ∙ ap (from_le_bytes w64) (take_at (le64 word) rest 8 refl) ∙ from_le_bytes-to_le_bytes_8 word fits

-- ---- the places, one behind the other

behind : (asks : List (Option ℕ)) (words tail : List ℕ) (i : ℕ) → i < length asks → length words ≡ length asks
    → (rest : List ℕ) × (drop (13 * i) (places_bytes asks words ++ tail) ≡ ask_bytes (get_or asks i None) ++ (le64 (get_or words i 0) ++ rest))
behind [] words tail i lt same = absurd (omega arith)
behind (ask ∷ asks) [] tail i lt same = absurd (omega arith)
behind (ask ∷ asks) (word ∷ words) tail zero lt same =
    (places_bytes asks words ++ tail, append_assoc (ask_bytes ask) (le64 word ++ places_bytes asks words) tail ∙ ap (λ (l : List ℕ). ask_bytes ask ++ l) (append_assoc (le64 word) (places_bytes asks words) tail))
behind (ask ∷ asks) (word ∷ words) tail (suc i) lt same =
    let later = behind asks words tail i (omega arith) (omega arith) in
    let all : List ℕ = (ask_bytes ask ++ (le64 word ++ places_bytes asks words)) ++ tail in
    let far : 13 * suc i ≡ 13 + 13 * i = omega arith in
    let wide : length (ask_bytes ask ++ le64 word) ≡ 13 = omega (arith, ask_width ask, length-append (ask_bytes ask) (le64 word)) in
    let split : all ≡ (ask_bytes ask ++ le64 word) ++ (places_bytes asks words ++ tail) =
    ap (λ (l : List ℕ). l ++ tail) (sym (append_assoc (ask_bytes ask) (le64 word) (places_bytes asks words))) ∙ append_assoc (ask_bytes ask ++ le64 word) (places_bytes asks words) tail in
    (later.0, ap (λ n. drop n all) far ∙ sym (drop-drop (13 * i) 13 all) ∙ ap (drop (13 * i)) (ap (drop 13) split ∙ drop_at (ask_bytes ask ++ le64 word) (places_bytes asks words ++ tail) 13 wide) ∙ later.1)

-- ---- the whole

module _ (p : Params) (e b : ℕ) (r : BatchRecord) (tail bytes : List ℕ) (o : RecordObeys p b r) (e_fits : e < 2 ^ 64) (b_fits : b < 2 ^ 32) (is : bytes ≡ record_bytes e r ++ tail) where
  abbrev after : List ℕ
  after = places_bytes r.asks r.words ++ tail

  parts : bytes ≡ le64 e ++ (le32 r.batch ++ (le64 r.first ++ after))
  unfolding record_bytes
  parts = is ∙ append_assoc (le64 e) (le32 r.batch ++ (le64 r.first ++ places_bytes r.asks r.words)) tail
      ∙ ap (λ (l : List ℕ). le64 e ++ l) (append_assoc (le32 r.batch) (le64 r.first ++ places_bytes r.asks r.words) tail ∙ ap (λ (l : List ℕ). le32 r.batch ++ l) (append_assoc (le64 r.first) (places_bytes r.asks r.words) tail))

  epoch_told : field_at w64 bytes 0 ≡ e
  epoch_told = ap (λ (l : List ℕ). from_le_bytes w64 (take 8 l)) parts ∙ ap (from_le_bytes w64) (take_at (le64 e) (le32 r.batch ++ (le64 r.first ++ after)) 8 refl) ∙ from_le_bytes-to_le_bytes_8 e e_fits

  batch_told : field_at w32 bytes 8 ≡ b
  batch_told = ap (λ (l : List ℕ). from_le_bytes w32 (take 4 (drop 8 l))) parts
      ∙ ap (λ (l : List ℕ). from_le_bytes w32 (take 4 l)) (drop_at (le64 e) (le32 r.batch ++ (le64 r.first ++ after)) 8 refl)
      ∙ ap (from_le_bytes w32) (take_at (le32 r.batch) (le64 r.first ++ after) 4 refl) ∙ ap (λ n. from_le_bytes w32 (le32 n)) o.batch_is ∙ from_le_bytes-to_le_bytes_4 b b_fits

  behind_batch : drop 12 bytes ≡ le64 r.first ++ after
  behind_batch = ap (drop 12) (parts ∙ sym (append_assoc (le64 e) (le32 r.batch) (le64 r.first ++ after))) ∙ drop_at (le64 e ++ le32 r.batch) (le64 r.first ++ after) 12 refl

  first_told : field_at w64 bytes 12 ≡ r.first
  first_told = ap (λ (l : List ℕ). from_le_bytes w64 (take 8 l)) behind_batch ∙ ap (from_le_bytes w64) (take_at (le64 r.first) after 8 refl) ∙ from_le_bytes-to_le_bytes_8 r.first o.first_fits

  place_found : (i : ℕ) → i < p.places → (rest : List ℕ) × (drop (place_at i) bytes ≡ ask_bytes (get_or r.asks i None) ++ (le64 (get_or r.words i 0) ++ rest))
  place_found i lt =
      let at = behind r.asks r.words tail i (omega (arith, o.asks_many)) (o.words_many ∙ sym o.asks_many) in
      (at.0, sym (drop-drop (13 * i) 20 bytes) ∙ ap (drop (13 * i)) (sym (drop-drop 8 12 bytes) ∙ ap (drop 8) behind_batch ∙ drop_at (le64 r.first) after 8 refl) ∙ at.1)

  key_fits : (i k : ℕ) → get_or r.asks i None ≡ Some k → k < 2 ^ 32
  key_fits i k at = let low : k < p.keys = o.keys_low i k at in omega (arith, p.in_range.few_keys)

  kind_at : (i : ℕ) → i < p.places → kind_in bytes i ≡ kind_of (get_or r.asks i None)
  kind_at i lt = let at = place_found i lt in kind_told bytes at.0 (place_at i) (get_or r.words i 0) (get_or r.asks i None) at.1

  key_at : (i : ℕ) → i < p.places → key_in bytes i ≡ key_of (get_or r.asks i None)
  key_at i lt = let at = place_found i lt in key_told bytes at.0 (place_at i) (get_or r.words i 0) (get_or r.asks i None) (key_fits i) at.1

  word_at : (i : ℕ) → i < p.places → word_in bytes i ≡ get_or r.words i 0
  word_at i lt = let at = place_found i lt in word_told bytes at.0 (place_at i) (get_or r.words i 0) (get_or r.asks i None) (o.words_fit i) at.1

  ask_at : (i : ℕ) → i < p.places → ask_in bytes i ≡ get_or r.asks i None
  ask_at i lt = ap (λ k. if k == 0 then None else Some (key_in bytes i)) (kind_at i lt) ∙ ap (λ k. if kind_of (get_or r.asks i None) == 0 then None else Some k) (key_at i lt) ∙ same (get_or r.asks i None)
    where
      same : (a : Option ℕ) → (if kind_of a == 0 then None else Some (key_of a)) ≡ a
      same None = refl
      same (Some k) = refl

  asks_told : (n : ℕ) → n ≤ p.places → asks_in bytes n ≡ take n r.asks
  asks_told zero le = refl
  asks_told (suc n) le =
      ap (λ (l : List (Option ℕ)). l ++ ask_in bytes n ∷ []) (asks_told n (omega arith)) ∙ ap (λ (a : Option ℕ). take n r.asks ++ a ∷ []) (ask_at n (omega arith))
      ∙ sym (ap (λ m. take m r.asks) (sym (add-one n)) ∙ take_more r.asks n None (omega (arith, o.asks_many)))

  words_told : (n : ℕ) → n ≤ p.places → words_in bytes n ≡ take n r.words
  words_told zero le = refl
  words_told (suc n) le =
      ap (λ (l : List ℕ). l ++ word_in bytes n ∷ []) (words_told n (omega arith)) ∙ ap (λ (w : ℕ). take n r.words ++ w ∷ []) (word_at n (omega arith))
      ∙ sym (ap (λ m. take m r.words) (sym (add-one n)) ∙ take_more r.words n 0 (omega (arith, o.words_many)))

  -- ---- no rule is broken

  rule_kept : (rule : Rule) (rules : List Rule) → rule.obeys ≡ true → first_broken (rule ∷ rules) ≡ first_broken rules
  rule_kept rule rules e = ap (λ t. if t then first_broken rules else Some rule) e

  kind_kept : (i : ℕ) → i < p.places → (kind_rule p bytes i).obeys ≡ true
  kind_kept i lt = ap (λ k. k == 0 || (k == 1 && nat_lt (count_by is_ask (asks_in bytes i)) p.keys)) (kind_at i lt)
      ∙ ap (λ (l : List (Option ℕ)). kind_of (get_or r.asks i None) == 0 || (kind_of (get_or r.asks i None) == 1 && nat_lt (count_by is_ask l) p.keys)) (asks_told i (omega arith)) ∙ so (get_or r.asks i None) refl
    where
      so : (a : Option ℕ) → get_or r.asks i None ≡ a → (kind_of a == 0 || (kind_of a == 1 && nat_lt (count_by is_ask (take i r.asks)) p.keys)) ≡ true
      so None at = refl
      so (Some k) at = lt_so (count_by is_ask (take i r.asks)) p.keys (few_before r.asks p.keys i k (omega (arith, o.asks_many)) o.keys_low o.keys_apart at)

  key_kept : (i : ℕ) → i < p.places → (key_rule p bytes i).obeys ≡ true
  key_kept i lt =
      ap (λ k. if k == 0 then key_in bytes i == 0 else nat_lt (key_in bytes i) p.keys && not (is_asked (asks_in bytes i) (key_in bytes i))) (kind_at i lt)
      ∙ ap (λ k. if kind_of (get_or r.asks i None) == 0 then k == 0 else nat_lt k p.keys && not (is_asked (asks_in bytes i) k)) (key_at i lt)
      ∙ ap (λ (l : List (Option ℕ)). if kind_of (get_or r.asks i None) == 0 then key_of (get_or r.asks i None) == 0 else nat_lt (key_of (get_or r.asks i None)) p.keys && not (is_asked l (key_of (get_or r.asks i None)))) (asks_told i (omega arith))
      ∙ so (get_or r.asks i None) refl
    where
      so : (a : Option ℕ) → get_or r.asks i None ≡ a → (if kind_of a == 0 then key_of a == 0 else nat_lt (key_of a) p.keys && not (is_asked (take i r.asks) (key_of a))) ≡ true
      so None at = refl
      so (Some k) at = ap (λ t. t && not (is_asked (take i r.asks) k)) (lt_so k p.keys (o.keys_low i k at)) ∙ ap (λ t. not t) (not_before r.asks i k (omega (arith, o.asks_many)) o.keys_apart at)

  places_kept : (n : ℕ) → n ≤ p.places → first_broken (place_rules p bytes n) ≡ None
  places_kept zero le = refl
  places_kept (suc n) le =
      ap (λ m. first_broken (place_rules p bytes m)) (sym (add-one n))
      ∙ kept_on p bytes n (places_kept n (omega arith)) (rule_kept (kind_rule p bytes n) (key_rule p bytes n ∷ []) (kind_kept n (omega arith)) ∙ rule_kept (key_rule p bytes n) [] (key_kept n (omega arith)))

  same_number : (m n : ℕ) → m ≡ n → (m == n) ≡ true
  same_number m n at = grind (arith, nat_tests)

  pub kept_all : (cell : ℕ) → plain_damage p e b cell bytes ≡ None
  kept_all cell =
      ap (λ t. if t then form_damage cell (record_rules p b bytes) else Some (epoch_damage cell (field_at w64 bytes 0) e)) (same_number (field_at w64 bytes 0) e epoch_told)
      ∙ ap (told_of cell) (rule_kept (batch_rule b bytes) (place_rules p bytes p.places) (same_number (field_at w32 bytes 8) b batch_told) ∙ places_kept p.places (omega arith))

  pub tells_it : record_in p b r.generation r.number bytes ≡ r
  tells_it = record_of b r.batch r.generation r.generation r.number r.number (field_at w64 bytes 12) r.first (asks_in bytes p.places) r.asks (words_in bytes p.places) r.words
      (sym o.batch_is) refl refl first_told
      (asks_told p.places (omega arith) ∙ take_all p.places r.asks (omega (arith, o.asks_many)))
      (words_told p.places (omega arith) ∙ take_all p.places r.words (omega (arith, o.words_many)))
