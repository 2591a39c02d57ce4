-- Rows that are gathered, key by key, and the keys of a batch.
use Rattle.std.proofs.Common.{◌≡◌, ◌∙◌, ◌+◌, ◌<◌, ◌≤◌, ⊎_elim, ℕ, zero, suc, List, [], ◌∷◌, ◌++◌, length, get_or, take, slice_get, Option, Some, None, sym, ap, arith, get_or-take, length-append}
use Rattle.std.specs.List.{range_with_len, filter_map, cons_option}
use Rattle.std.specs.FinMap.{get}
use Rattle.std.specs.Ordering.{nat_cmp}
use Rattle.std.proofs.lemmas.List.{append-nil, length-take-le}
use Rattle.std.proofs.lemmas.List.Elements.{filter_map-append}
use Rattle.std.proofs.lemmas.List.Concat.{flat_map-append}
use Rattle.std.proofs.lemmas.Option.{slice_get_within, get_or_from_slice_get, slice_get-get_or, same_Some}
use Rattle.std.proofs.lemmas.Bool.{cases_lt}
use Rattle.ob_base.specs.Tree.{below}
use Rattle.ob_serial.specs.Serial.{Map}
use Rattle.ob_serial.specs.Vaults.{AreBelow, AreDistinct, AnswersAll}
use Rattle.ob_drill.specs.declared.rows.Rows.{Rows}
use Rattle.ob_drill.specs.Rows.{with_key, rows_below, row_bytes, bytes_of}
use Rattle.ob_drill.specs.Gathered.{HasRows, AsksFrom}

last : (a n j : ℕ) → a + n ≡ j → range_with_len a (suc n) ≡ range_with_len a n ++ j ∷ []
last a zero j is = ap (λ m. m ∷ []) (let here : a ≡ j = omega arith in here)
last a (suc n) j is = ap (λ (l : List ℕ). a ∷ l) (last (a + 1) n j (let here : (a + 1) + n ≡ j = omega arith in here))

below_next : (n : ℕ) → below (n + 1) ≡ below n ++ n ∷ []
below_next n = ap below (let e : n + 1 ≡ suc n = omega arith in e) ∙ last 0 n n (let here : 0 + n ≡ n = omega arith in here)

-- one key more
rows_next : (value : ℕ → Option (List ℕ)) (n : ℕ) → rows_below value (n + 1) ≡ rows_below value n ++ cons_option (with_key n (value n)) []
rows_next value n = ap (filter_map (λ key. with_key key (value key))) (below_next n) ∙ filter_map-append (λ key. with_key key (value key)) (below n) (n ∷ [])

-- an absent one
pub none_next : (value : ℕ → Option (List ℕ)) (key : ℕ) (found : Option (List ℕ)) (rows : Rows) → found ≡ None → value key ≡ found → HasRows value key rows → HasRows value (key + 1) rows
none_next value key found rows none is has = record { bytes = has.bytes ∙ sym (ap bytes_of same); many = has.many ∙ sym (ap length same) }
  where
    same : rows_below value (key + 1) ≡ rows_below value key
    same = rows_next value key ∙ ap (λ (o : Option (List ℕ)). rows_below value key ++ cons_option (with_key key o) []) (is ∙ none) ∙ append-nil (rows_below value key)

-- and one that is there
pub some_next : (value : ℕ → Option (List ℕ)) (key : ℕ) (bytes : List ℕ) (rows new : Rows) → value key ≡ Some bytes → new.bytes.items ≡ rows.bytes.items ++ row_bytes (key, bytes) → new.many ≡ rows.many + 1 → HasRows value key rows → HasRows value (key + 1) new
some_next value key bytes rows new is written counted has = record {
  bytes = written ∙ ap (λ (l : List ℕ). l ++ row_bytes (key, bytes)) has.bytes ∙ sym (ap bytes_of same ∙ flat_map-append row_bytes (rows_below value key) ((key, bytes) ∷ []) ∙ ap (λ (l : List ℕ). bytes_of (rows_below value key) ++ l) (append-nil (row_bytes (key, bytes))));
  many = counted ∙ ap (λ n. n + 1) has.many ∙ sym (ap length same ∙ length-append (rows_below value key) ((key, bytes) ∷ []));
}
  where
    same : rows_below value (key + 1) ≡ rows_below value key ++ (key, bytes) ∷ []
    same = rows_next value key ∙ ap (λ (o : Option (List ℕ)). rows_below value key ++ cons_option (with_key key o) []) is

-- what a list of values has at a place
pub found_at : (value : ℕ → Option (List ℕ)) (first : ℕ) (found : List (Option (List ℕ))) (i : ℕ) (d : Option (List ℕ)) → ((j : ℕ) → j < length found → slice_get found j ≡ Some (value (first + j))) → i < length found → value (first + i) ≡ get_or found i d
found_at value first found i d all lt = sym (get_or_from_slice_get found i (value (first + i)) d (all i lt))

module _ (first count : ℕ) (asks : List (Option ℕ)) (are : AsksFrom first count asks) where
  -- a key is asked for only before the pads
  asked_at : (i key : ℕ) → slice_get asks i ≡ Some (Some key) → (i < count) × (key ≡ first + i)
  asked_at i key at = ⊎_elim (λ lt. (lt, same_Some _ _ (same_Some _ _ (sym at ∙ are.keys i lt (slice_get_within asks i (Some key) at)))))
      (λ le. absurd (let wrong : Some (Some key) ≡ Some None = sym at ∙ are.pads i le (slice_get_within asks i (Some key) at) in let also : Some key ≡ None = same_Some _ _ wrong in cc))
      (cases_lt i count)

  pub asks_below : (bound : ℕ) → first + count ≤ bound → AreBelow bound asks
  asks_below bound le i key at = let (lt, is) = asked_at i key at in omega (arith, le, lt, is)

  pub asks_distinct : AreDistinct asks
  asks_distinct i j key at also = let one = (asked_at i key at).1 in let other = (asked_at j key also).1 in omega (arith, one, other)

  -- so the answers are those of the keys
  pub answers_are : (m : Map nat_cmp) (values : List (Option (List ℕ))) → AnswersAll m asks values → count ≤ length asks → (i : ℕ) → i < length (take count values) → slice_get (take count values) i ≡ Some (get m (first + i))
  answers_are m values answers few i lt =
      let whole : length (take count values) ≡ count = length-take-le count values (let e = answers.whole in omega (arith, e, few)) in
      let inside : i < count = omega (arith, whole, lt) in
      let at : slice_get values i ≡ Some (get m (first + i)) = answers.asked i (first + i) (are.keys i inside (omega (arith, inside, few))) in
      slice_get-get_or (take count values) i None lt ∙ ap Some (get_or-take count values i None inside ∙ get_or_from_slice_get values i (get m (first + i)) None at)
