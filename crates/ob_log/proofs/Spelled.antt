-- The bytes of a record, part by part.
use Rattle.std.proofs.Common.{◌≡◌, ℕ, zero, suc, ◌+◌, ◌*◌, ◌<◌, ◌≤◌, List, [], ◌∷◌, ◌++◌, Option, Some, None, take, length, get_or, refl, sym, ap, ◌∙◌, arith, append_assoc, length-append}
use Rattle.std.proofs.lemmas.List.{append-nil, take_all, length-take-le}
use Rattle.ob_seal.specs.Seals.{le64}
use Rattle.ob_log.specs.Logs.{BatchRecord, RecordObeys, le32, ask_bytes, places_bytes, record_bytes}
use Rattle.ob_base.specs.declared.params.Params.{Params}

pub ask_width : (k : Option ℕ) → length (ask_bytes k) ≡ 5
ask_width None = refl
ask_width (Some k) = refl

pub length-places : (asks : List (Option ℕ)) (words : List ℕ) → length asks ≡ length words → length (places_bytes asks words) ≡ 13 * length asks
length-places [] words long = refl
length-places (ask ∷ asks) [] long = absurd (omega arith)
length-places (ask ∷ asks) (word ∷ words) long =
    let rest = length-places asks words (omega arith) in
    omega (arith, rest, ask_width ask, length-append (ask_bytes ask) (le64 word ++ places_bytes asks words), length-append (le64 word) (places_bytes asks words))

-- a place more
pub places_more : (asks : List (Option ℕ)) (words : List ℕ) (i : ℕ) → i < length asks → i < length words
    → places_bytes (take (i + 1) asks) (take (i + 1) words) ≡ (places_bytes (take i asks) (take i words) ++ ask_bytes (get_or asks i None)) ++ le64 (get_or words i 0)
places_more [] words i lt le = absurd (omega arith)
places_more (ask ∷ asks) [] i lt le = absurd (omega arith)
places_more (ask ∷ asks) (word ∷ words) zero lt le = ap (λ (l : List ℕ). ask_bytes ask ++ l) (append-nil (le64 word))
places_more (ask ∷ asks) (word ∷ words) (suc i) lt le =
    let rest = places_more asks words i (omega arith) (omega arith) in
    let e : suc i + 1 ≡ suc (i + 1) = omega arith in
    ap (λ n. places_bytes (take n (ask ∷ asks)) (take n (word ∷ words))) e
    ∙ ap (λ (l : List ℕ). ask_bytes ask ++ (le64 word ++ l)) rest
    ∙ moved (ask_bytes ask) (le64 word) (places_bytes (take i asks) (take i words)) (ask_bytes (get_or asks i None)) (le64 (get_or words i 0))
  where
    moved : (a b c d e : List ℕ) → a ++ (b ++ ((c ++ d) ++ e)) ≡ ((a ++ (b ++ c)) ++ d) ++ e
    moved a b c d e =
        ap (λ (l : List ℕ). a ++ l) (sym (append_assoc b (c ++ d) e) ∙ ap (λ (l : List ℕ). l ++ e) (sym (append_assoc b c d)))
        ∙ sym (append_assoc a ((b ++ c) ++ d) e) ∙ ap (λ (l : List ℕ). l ++ e) (sym (append_assoc a (b ++ c) d))

pub all_places : (asks : List (Option ℕ)) (words : List ℕ) (i : ℕ) → length asks ≡ i → length words ≡ i → places_bytes (take i asks) (take i words) ≡ places_bytes asks words
all_places asks words i a w = ap (λ l. places_bytes l (take i words)) (take_all i asks (omega arith)) ∙ ap (λ l. places_bytes asks l) (take_all i words (omega arith))

-- the parts of a record
pub record_made : (epoch batch first : ℕ) (asks : List (Option ℕ)) (words : List ℕ) (generation number : ℕ)
    → ((le64 epoch ++ le32 batch) ++ le64 first) ++ places_bytes asks words ≡ record_bytes epoch (record { batch = batch; generation = generation; number = number; first = first; asks = asks; words = words })
unfolding record_bytes
record_made epoch batch first asks words generation number =
    append_assoc (le64 epoch ++ le32 batch) (le64 first) (places_bytes asks words) ∙ append_assoc (le64 epoch) (le32 batch) (le64 first ++ places_bytes asks words)

pub length-record_bytes : (p : Params) (e b : ℕ) (r : BatchRecord) → RecordObeys p b r → length (record_bytes e r) ≡ 20 + 13 * p.places
unfolding record_bytes
length-record_bytes p e b r o =
    let places = length-places r.asks r.words (o.asks_many ∙ sym o.words_many) in
    let many = o.asks_many in
    omega (arith, length-append (le64 e) (le32 r.batch ++ (le64 r.first ++ places_bytes r.asks r.words)), length-append (le32 r.batch) (le64 r.first ++ places_bytes r.asks r.words), length-append (le64 r.first) (places_bytes r.asks r.words))

-- the first places
pub length-front : (asks : List (Option ℕ)) (words : List ℕ) (i : ℕ) → i ≤ length asks → length words ≡ length asks → length (places_bytes (take i asks) (take i words)) ≡ 13 * i
length-front asks words i le same =
    let a : length (take i asks) ≡ i = length-take-le i asks le in
    let w : length (take i words) ≡ i = length-take-le i words (omega arith) in
    length-places (take i asks) (take i words) (omega arith) ∙ ap (λ n. 13 * n) a

-- a place behind others
pub placed : (start all one two ask word : List ℕ) (asks : List (Option ℕ)) (words : List ℕ) (i : ℕ) → i < length asks → length words ≡ length asks
    → all ≡ start ++ places_bytes (take i asks) (take i words) → one ≡ all ++ ask → two ≡ one ++ word → ask ≡ ask_bytes (get_or asks i None) → word ≡ le64 (get_or words i 0)
    → two ≡ start ++ places_bytes (take (i + 1) asks) (take (i + 1) words)
placed start all one two ask word asks words i lt same so a w ask_is word_is =
    let front = places_bytes (take i asks) (take i words) in
    w ∙ ap (λ (l : List ℕ). l ++ word) (a ∙ ap (λ (l : List ℕ). l ++ ask) so ∙ append_assoc start front ask) ∙ append_assoc start (front ++ ask) word
    ∙ ap (λ (l : List ℕ). start ++ l) (ap (λ (l : List ℕ). (front ++ l) ++ word) ask_is ∙ ap (λ (l : List ℕ). (front ++ ask_bytes (get_or asks i None)) ++ l) word_is ∙ sym (places_more asks words i lt (omega arith)))

-- there is room for the place
pub room_for : (start all ask : List ℕ) (asks : List (Option ℕ)) (words : List ℕ) (i : ℕ) → i < length asks → length words ≡ length asks → length start + 13 * length asks ≤ 852
    → all ≡ start ++ places_bytes (take i asks) (take i words) → ask ≡ ask_bytes (get_or asks i None) → length all + length ask + 8 ≤ 852
room_for start all ask asks words i lt same room so ask_is =
    omega (arith, ap length so, length-append start (places_bytes (take i asks) (take i words)), length-front asks words i (omega arith) same, ap length ask_is, ask_width (get_or asks i None))

pub record_added : (epoch batch first : ℕ) (asks : List (Option ℕ)) (words : List ℕ) (none one two three all e b f : List ℕ)
    → none ≡ [] → one ≡ none ++ e → two ≡ one ++ b → three ≡ two ++ f → all ≡ three ++ places_bytes asks words → e ≡ le64 epoch → b ≡ le32 batch → f ≡ le64 first
    → (generation number : ℕ) → all ≡ record_bytes epoch (record { batch = batch; generation = generation; number = number; first = first; asks = asks; words = words })
record_added epoch batch first asks words none one two three all e b f n o t h w ee bb ff generation number =
    w ∙ ap (λ (l : List ℕ). l ++ places_bytes asks words)
    (h ∙ ap (λ (l : List ℕ). l ++ f) (t ∙ ap (λ (l : List ℕ). l ++ b) (o ∙ ap (λ (l : List ℕ). l ++ e) n ∙ ee) ∙ ap (λ (l : List ℕ). le64 epoch ++ l) bb) ∙ ap (λ (l : List ℕ). (le64 epoch ++ le32 batch) ++ l) ff)
    ∙ record_made epoch batch first asks words generation number
