-- A log area has one list of open records.
use Rattle.std.proofs.Common.{◌≡◌, ℕ, suc, ◌+◌, ◌*◌, ◌%◌, ◌<◌, ◌≤◌, ◌^◌, List, [], ◌∷◌, ◌++◌, Option, Some, None, drop, length, get_or, refl, sym, ap, ◌∙◌, ⊎_elim, arith}
use Rattle.std.proofs.lemmas.Bool.{cases_order}
use Rattle.ob_base.specs.declared.params.Params.{Params}
use Rattle.ob_base.specs.Layout.{record_cells, log_cell}
use Rattle.ob_seal.specs.declared.keys.Keys.{Keys}
use Rattle.ob_seal.specs.Pieces.{onward, piece}
use Rattle.ob_seal.specs.Seals.{le64}
use Rattle.ob_base.proofs.Spelled.{split_same, front64, le32_same}
use Rattle.ob_seal.proofs.Spelling.{sealed_same}
use Rattle.ob_seal.proofs.PieceLaws.{pieces_same, length-piece}
use Rattle.ob_store.specs.Disk.{Image}
use Rattle.ob_log.specs.Logs.{BatchRecord, RecordObeys, OpenRecords, SpellsRecord, le32, ask_bytes, places_bytes, record_bytes, record_at, nothing}
use Rattle.ob_log.proofs.Spelled.{ask_width, length-record_bytes}

pub same_lists : {X : Type 0} → (xs ys : List X) (d : X) → length xs ≡ length ys → ((i : ℕ) → i < length xs → get_or xs i d ≡ get_or ys i d) → xs ≡ ys
same_lists [] [] d long each = refl
same_lists [] (y ∷ ys) d long each = absurd (omega arith)
same_lists (x ∷ xs) [] d long each = absurd (omega arith)
same_lists (x ∷ xs) (y ∷ ys) d long each =
    let head : x ≡ y = each 0 (omega arith) in
    let tail : xs ≡ ys = same_lists xs ys d (omega arith) (λ i lt. each (suc i) (omega arith)) in
    cc

zero≢one : ◌≡◌ {A = ℕ} 0 1 → ⊥
zero≢one e = absurd (omega arith)

pub ask_same : (k l : Option ℕ) → ((x : ℕ) → k ≡ Some x → x < 2 ^ 32) → ((x : ℕ) → l ≡ Some x → x < 2 ^ 32) → ask_bytes k ≡ ask_bytes l → k ≡ l
ask_same None None fk fl e = refl
ask_same None (Some y) fk fl e = absurd (zero≢one (ap (λ xs. get_or xs 0 0) e))
ask_same (Some x) None fk fl e = absurd (zero≢one (sym (ap (λ xs. get_or xs 0 0) e)))
ask_same (Some x) (Some y) fk fl e = ap Some (le32_same x y (fk x refl) (fl y refl) (ap (drop 1) e))

places_same : (xs bs : List (Option ℕ)) (vs ws : List ℕ) → length xs ≡ length bs → length vs ≡ length xs → length ws ≡ length bs
    → ((i : ℕ) → get_or vs i 0 < 2 ^ 64) → ((i : ℕ) → get_or ws i 0 < 2 ^ 64)
    → ((i x : ℕ) → get_or xs i None ≡ Some x → x < 2 ^ 32) → ((i x : ℕ) → get_or bs i None ≡ Some x → x < 2 ^ 32)
    → places_bytes xs vs ≡ places_bytes bs ws → (xs ≡ bs) × (vs ≡ ws)
places_same [] [] [] [] l m n fv fw fa fb e = (refl, refl)
places_same [] [] (v ∷ vs) ws l m n fv fw fa fb e = absurd (omega arith)
places_same [] [] [] (w ∷ ws) l m n fv fw fa fb e = absurd (omega arith)
places_same [] (b ∷ bs) vs ws l m n fv fw fa fb e = absurd (omega arith)
places_same (a ∷ xs) [] vs ws l m n fv fw fa fb e = absurd (omega arith)
places_same (a ∷ xs) (b ∷ bs) [] ws l m n fv fw fa fb e = absurd (omega arith)
places_same (a ∷ xs) (b ∷ bs) (v ∷ vs) [] l m n fv fw fa fb e = absurd (omega arith)
places_same (a ∷ xs) (b ∷ bs) (v ∷ vs) (w ∷ ws) l m n fv fw fa fb e =
    let one = split_same (ask_bytes a) (ask_bytes b) (le64 v ++ places_bytes xs vs) (le64 w ++ places_bytes bs ws) (ask_width a ∙ sym (ask_width b)) e in
    let two = front64 v w (places_bytes xs vs) (places_bytes bs ws) (fv 0) (fw 0) one.1 in
    let rest = places_same xs bs vs ws (omega arith) (omega arith) (omega arith) (λ i. fv (suc i)) (λ i. fw (suc i)) (λ i. fa (suc i)) (λ i. fb (suc i)) two.1 in
    let head : a ≡ b = ask_same a b (fa 0) (fb 0) one.0 in
    let word : v ≡ w = two.0 in
    let tail : xs ≡ bs = rest.0 in
    let more : vs ≡ ws = rest.1 in
    (cc, cc)

pub some_cell : (p : Params) → 0 < record_cells p
unfolding record_cells
some_cell p = omega arith

pub cells_hold : (p : Params) → 20 + 13 * p.places ≤ 96 * record_cells p
unfolding record_cells
cells_hold p = omega arith

pub record_of : (b b' g g' n n' f f' : ℕ) (xs xs' : List (Option ℕ)) (ws ws' : List ℕ) → b ≡ b' → g ≡ g' → n ≡ n' → f ≡ f' → xs ≡ xs' → ws ≡ ws'
    → ◌≡◌ {A = BatchRecord} (record { batch = b; generation = g; number = n; first = f; asks = xs; words = ws }) (record { batch = b'; generation = g'; number = n'; first = f'; asks = xs'; words = ws' })
record_of b b' g g' n n' f f' xs xs' ws ws' h a c d e i = rw (h, a, c, d, e, i) refl

bytes_same : (p : Params) (e b : ℕ) (r q : BatchRecord) → RecordObeys p b r → RecordObeys p b q → record_bytes e r ≡ record_bytes e q → (r.first ≡ q.first) × (r.asks ≡ q.asks) × (r.words ≡ q.words)
unfolding record_bytes
bytes_same p e b r q o o' same =
    let one = split_same (le64 e) (le64 e) (le32 r.batch ++ (le64 r.first ++ places_bytes r.asks r.words)) (le32 q.batch ++ (le64 q.first ++ places_bytes q.asks q.words)) refl same in
    let two = split_same (le32 r.batch) (le32 q.batch) (le64 r.first ++ places_bytes r.asks r.words) (le64 q.first ++ places_bytes q.asks q.words) refl one.1 in
    let three = front64 r.first q.first (places_bytes r.asks r.words) (places_bytes q.asks q.words) o.first_fits o'.first_fits two.1 in
    let few = p.in_range.few_keys in
    let four = places_same r.asks q.asks r.words q.words (o.asks_many ∙ sym o'.asks_many) (o.words_many ∙ sym o.asks_many) (o'.words_many ∙ sym o'.asks_many) o.words_fit o'.words_fit
    (λ i x is. omega (arith, o.keys_low i x is, few)) (λ i x is. omega (arith, o'.keys_low i x is, few)) three.1 in
    (three.0, four.0, four.1)

-- a body spells one record
pub record_same : (keys : Keys) (p : Params) (e b : ℕ) (r q : BatchRecord) (image : Image) → RecordObeys p b r → RecordObeys p b q → SpellsRecord keys p e b r image → SpellsRecord keys p e b q image → r ≡ q
record_same keys p e b r q image o o' one two =
    let bytes : record_bytes e r ≡ record_bytes e q = pieces_same (record_cells p) (record_bytes e r) (record_bytes e q)
    (length-record_bytes p e b r o ∙ sym (length-record_bytes p e b q o')) (omega (arith, length-record_bytes p e b r o, cells_hold p)) (λ i lt. (cell i lt).2) in
    let first = cell 0 (some_cell p) in
    let gr = o.number_fits in
    let gq = o'.number_fits in
    let number : onward r.number 0 ≡ onward q.number 0 = first.1 in
    let parts = bytes_same p e b r q o o' bytes in
    record_of r.batch q.batch r.generation q.generation r.number q.number r.first q.first r.asks q.asks r.words q.words (o.batch_is ∙ sym o'.batch_is) first.0 (omega arith) parts.0 parts.1 parts.2
  where
    cell : (i : ℕ) → i < record_cells p → (r.generation ≡ q.generation) × (onward r.number i ≡ onward q.number i) × (piece i (record_bytes e r) ≡ piece i (record_bytes e q))
    cell i lt = sealed_same keys (log_cell p (e % 2) b i) r.generation q.generation (onward r.number i) (onward q.number i) (piece i (record_bytes e r)) (piece i (record_bytes e q))
        o.generation_fits o'.generation_fits (omega arith) (omega arith) (length-piece i (record_bytes e r) ∙ sym (length-piece i (record_bytes e q))) (sym (one i lt) ∙ two i lt)

pub records_same : (keys : Keys) (p : Params) (e : ℕ) (rs qs : List BatchRecord) (image : Image) → OpenRecords keys p e rs image → OpenRecords keys p e qs image → rs ≡ qs
records_same keys p e rs qs image one two =
    let long : length rs ≡ length qs = many in
    same_lists rs qs nothing long (λ b lt. record_same keys p e b (record_at rs b) (record_at qs b) image (one.obey b lt) (two.obey b (omega arith)) (one.bodies b lt) (two.bodies b (omega arith)))
  where
    fewer : (xs ys : List BatchRecord) → OpenRecords keys p e xs image → OpenRecords keys p e ys image → length xs < length ys → ⊥
    fewer xs ys a b lt = a.shut (length xs) (omega arith) (omega (arith, b.few)) (b.opened (length xs) lt)

    many : length rs ≡ length qs
    many = ⊎_elim (λ is. is) (λ other. absurd (⊎_elim (fewer rs qs one two) (fewer qs rs two one) other)) (cases_order (length rs) (length qs))
