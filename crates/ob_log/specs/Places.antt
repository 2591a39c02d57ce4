-- What the plain bytes of a record tell, and the rules that they obey.
use Rattle.std.specs.Prelude.{ℕ, zero, suc, ◌+◌, ◌*◌, ◌==◌, Bool, true, false, ◌&&◌, ◌||◌, not, nat_lt, List, [], ◌∷◌, ◌++◌, length, slice_index, Option, Some, None, if◌then◌else◌}
use Rattle.std.specs.Int.{w32, w64}
use Rattle.std.specs.List.{list_any, count_by}
use Rattle.ob_base.specs.declared.params.Params.{Params}
use Rattle.ob_base.specs.declared.fault.Damaged.{Damaged}
use Rattle.ob_base.specs.LittleEndian.{field_at}
use Rattle.ob_cells.specs.Rules.{Rule, form_damage, epoch_damage}
use Rattle.ob_log.specs.Logs.{BatchRecord}

-- where a place's bytes begin: its kind, then its key, then its word
abbrev pub place_at : ℕ → ℕ
place_at i = 20 + 13 * i

abbrev pub kind_in : List ℕ → ℕ → ℕ
kind_in bytes i = slice_index bytes (place_at i)

abbrev pub key_in : List ℕ → ℕ → ℕ
key_in bytes i = field_at w32 bytes (place_at i + 1)

abbrev pub word_in : List ℕ → ℕ → ℕ
word_in bytes i = field_at w64 bytes (place_at i + 5)

abbrev pub ask_in : List ℕ → ℕ → Option ℕ
ask_in bytes i = if kind_in bytes i == 0 then None else Some (key_in bytes i)

-- what the first n places ask for, and their words
abbrev pub asks_in : List ℕ → ℕ → List (Option ℕ)
asks_in bytes zero = []
asks_in bytes (suc n) = asks_in bytes n ++ ask_in bytes n ∷ []

abbrev pub words_in : List ℕ → ℕ → List ℕ
words_in bytes zero = []
words_in bytes (suc n) = words_in bytes n ++ word_in bytes n ∷ []

-- whether a place asks for the key, or for any
abbrev pub is_for : ℕ → Option ℕ → Bool
is_for key None = false
is_for key (Some k) = k == key

abbrev pub is_asked : List (Option ℕ) → ℕ → Bool
is_asked asks key = list_any (is_for key) asks

abbrev pub is_ask : Option ℕ → Bool
is_ask None = false
is_ask (Some k) = true

-- The least key from this one on that no place asks for. Of the numbers up to that of the places one is asked for by none.
abbrev pub least_from : List (Option ℕ) → ℕ → ℕ → ℕ
least_from asks key zero = key
least_from asks key (suc more) = if is_asked asks key then least_from asks (key + 1) more else key

abbrev pub least_unasked : List (Option ℕ) → ℕ
least_unasked asks = least_from asks 0 (length asks)

-- a kind is 0 or 1, and 0 where as many places as there are keys have asked
abbrev pub kind_rule : Params → List ℕ → ℕ → Rule
kind_rule p bytes i = record {
  place = place_at i;
  kept = kind_in bytes i;
  obeys = kind_in bytes i == 0 || (kind_in bytes i == 1 && nat_lt (count_by is_ask (asks_in bytes i)) p.keys);
  least = 0;
}

-- a pad's key is 0; another is a key that no earlier place asks for
abbrev pub key_rule : Params → List ℕ → ℕ → Rule
key_rule p bytes i = record {
  place = place_at i + 1;
  kept = key_in bytes i;
  obeys = if kind_in bytes i == 0 then key_in bytes i == 0 else nat_lt (key_in bytes i) p.keys && not (is_asked (asks_in bytes i) (key_in bytes i));
  least = if kind_in bytes i == 0 then 0 else least_unasked (asks_in bytes i);
}

-- the rules of the first n places
abbrev pub place_rules : Params → List ℕ → ℕ → List Rule
place_rules p bytes zero = []
place_rules p bytes (suc n) = place_rules p bytes n ++ (kind_rule p bytes n ∷ key_rule p bytes n ∷ [])

-- the number of the batch is that of its place in the log
abbrev pub batch_rule : ℕ → List ℕ → Rule
batch_rule b bytes = record { place = 8; kept = field_at w32 bytes 8; obeys = field_at w32 bytes 8 == b; least = b }

abbrev pub record_rules : Params → ℕ → List ℕ → List Rule
record_rules p b bytes = batch_rule b bytes ∷ place_rules p bytes p.places

-- What is told of plain bytes, in cells from one on, that are no record of this batch of the epoch: first of the epoch, then of
-- the first rule that is broken.
abbrev pub plain_damage : Params → ℕ → ℕ → ℕ → List ℕ → Option Damaged
plain_damage p epoch b cell bytes =
    if field_at w64 bytes 0 == epoch then form_damage cell (record_rules p b bytes) else Some (epoch_damage cell (field_at w64 bytes 0) epoch)

-- the record that they tell else, under this seal
abbrev pub record_in : Params → ℕ → ℕ → ℕ → List ℕ → BatchRecord
record_in p b generation number bytes = record {
  batch = b;
  generation = generation;
  number = number;
  first = field_at w64 bytes 12;
  asks = asks_in bytes p.places;
  words = words_in bytes p.places;
}
