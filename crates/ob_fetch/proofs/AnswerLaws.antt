-- The keys that a batch asks for have the map's values in the stash.
use Rattle.std.proofs.Common.{◌≡◌, ℕ, zero, suc, ◌+◌, ◌<◌, ◌||◌, Bool, true, false, List, [], ◌∷◌, Option, Some, None, map, length, refl, sym, ap, ◌∙◌, subst, arith}
use Rattle.std.proofs.lemmas.Bool.{false≢true}
use Rattle.std.proofs.lemmas.Option.{none-some, same_Some}
use Rattle.std.specs.List.{range_with_len}
use Rattle.std.specs.Prelude.{slice_get, slice_index_or}
use Rattle.std.specs.FinMap as finite
use Rattle.ob_base.specs.declared.params.Params.{Params}
use Rattle.ob_tables.specs.Content.{Rows}
use Rattle.ob_log.specs.Logs.{BatchRecord}
use Rattle.ob_recover.specs.Repeats.{BatchIsRead, asked_of_record}
use Rattle.ob_ring.specs.Fetching.{leaf_places, own_entry}
use Rattle.ob_ring.specs.FlatTable.{FlatTable, asks_for}
use Rattle.ob_ring.specs.Laws.{IsOrderly}
use Rattle.ob_tables.specs.declared.entry.Entry.{Entry}
use Rattle.ob_stand.specs.Values.{Values}
use Rattle.ob_stand.proofs.Steps.{fetch_is_answered}
use Rattle.ob_stand.specs.Carries.{Slots, Carries}
use Rattle.ob_stand.specs.ValueLaws.{is_asked}
use Rattle.ob_fetch.specs.Fetches.{AreMapValues, values_asked, row_asked}

-- an item of a list, by two names
pub got_item : {X : Type 0} (xs : List (Option X)) (i : ℕ) (x : X) → slice_get xs i ≡ Some (Some x) → (i < length xs) × (slice_index_or xs i None ≡ Some x)
got_item {X} [] i x is = absurd (none-some (Some x) is)
got_item {X} (y ∷ ys) zero x is = (omega arith, same_Some y (Some x) is)
got_item (y ∷ ys) (suc i) x is = let rest = got_item ys i x is in (omega (arith, rest.0), rest.1)

pub item_got : {X : Type 0} (xs : List (Option X)) (i : ℕ) (x : X) → slice_index_or xs i None ≡ Some x → slice_get xs i ≡ Some (Some x)
item_got [] i x is = absurd (none-some x is)
item_got (y ∷ ys) zero x is = ap Some is
item_got (y ∷ ys) (suc i) x is = item_got ys i x is

got_map : {X Y : Type 0} (f : X → Y) (xs : List X) (i : ℕ) (x : X) → slice_get xs i ≡ Some x → slice_get (map f xs) i ≡ Some (f x)
got_map f [] i x is = absurd (none-some x is)
got_map f (y ∷ ys) zero x is = ap (λ z. Some (f z)) (same_Some y x is)
got_map f (y ∷ ys) (suc i) x is = got_map f ys i x is

-- ---- a key that a place asks for is asked

asks_itself : (k : ℕ) → asks_for (Some k) k ≡ true
asks_itself k = grind arith

or_right : (a b : Bool) → b ≡ true → (a || b) ≡ true
or_right true b is = refl
or_right false b is = is

or_left : (a b : Bool) → a ≡ true → (a || b) ≡ true
or_left true b is = refl
or_left false b is = absurd (false≢true is)

asked_among : (f : ℕ → Option ℕ × Entry) (a n i key : ℕ) → i < n → (f (a + i)).0 ≡ Some key → is_asked (leaf_places (map f (range_with_len a n))) key ≡ true
asked_among f a zero i key lt is = absurd (omega arith)
asked_among f a (suc n) zero key lt is =
    let here : (f a).0 ≡ Some key = (let z : a + 0 ≡ a = omega arith in subst (λ x. (f x).0 ≡ Some key) z is) in
    or_left (asks_for (f a).0 key) _ (subst (λ (o : Option ℕ). asks_for o key ≡ true) (sym here) (asks_itself key))
asked_among f a (suc n) (suc i) key lt is =
    or_right (asks_for (f a).0 key) _ (asked_among f (a + 1) n i key (omega arith) (let z : a + suc i ≡ (a + 1) + i = omega arith in subst (λ x. (f x).0 ≡ Some key) z is))

asked_is : (p : Params) (r : BatchRecord) (i key : ℕ) → slice_get r.asks i ≡ Some (Some key) → is_asked (asked_of_record p r) key ≡ true
asked_is p r i key is =
    let got = got_item r.asks i key is in
    asked_among (λ i. (slice_index_or r.asks i None, own_entry p r.words (r.generation, r.first) i)) 0 (length r.asks) i key got.0 (let z : i ≡ 0 + i = omega arith in subst (λ n. slice_index_or r.asks n None ≡ Some key) z got.1)

-- so each is answered
pub answered : (p : Params) (r : BatchRecord) (t : FlatTable) (slots : Slots) (m : Values) (rows rows' : Rows) → IsOrderly p t → Carries p t rows slots m → BatchIsRead p slots t r rows rows'
    → AreMapValues m r.asks (values_asked rows' r.asks)
answered p r t slots m rows rows' orderly carries read = record {
  whole = many r.asks;
  asked = λ i key is.
      got_map (row_asked rows') r.asks i (Some key) is
      ∙ ap (λ (v : Option (List ℕ)). Some v)
      (ap (λ (m : Rows). finite.get m key) read.rows_are
      ∙ fetch_is_answered p t (asked_of_record p r) rows slots m read.jobs orderly carries read.read key (asked_is p r i key is));
  pads = λ i is. got_map (row_asked rows') r.asks i None is;
}
  where
    many : (asks : List (Option ℕ)) → length (values_asked rows' asks) ≡ length asks
    many [] = refl
    many (a ∷ asks) = ap suc (many asks)
