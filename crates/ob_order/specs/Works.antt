-- What the transactions of one epoch did, by ticket, and what is read off it: versions, marks, and who falls with an abort.
use Rattle.std.specs.Prelude.{ℕ, zero, suc, min, ◌≡◌, Bool, true, false, not, ◌&&◌, if◌then◌else◌, ◌==◌, ◌≤◌, List, [], ◌∷◌, ◌++◌, length, slice_get}
use Rattle.std.specs.Option.{option_or, option_map, option_and_then, unwrap_or}
use Rattle.std.specs.List.{list_any, filter_map, range_with_len}
use Rattle.std.specs.declared.option.Option.{Option}
use Rattle.std.specs.declared.option.Option.TheVariants.{None, Some}
pub use Rattle.ob_base.specs.declared.op.Op.{Op}
pub use Rattle.ob_base.specs.declared.op.Op.TheVariants.{Get, Put, Del}
pub use Rattle.ob_order.specs.declared.fate.Fate.{Fate}
pub use Rattle.ob_order.specs.declared.fate.Fate.TheVariants.{Going, Ended, Fell}
pub use Rattle.ob_order.specs.declared.answers.Version.{Version}

-- A transaction: its answered operations in order, how it stands, and the key of its get that isn't answered yet.
pub record Work : Type 0 where
  pub ops : List (Op ℕ)
  pub fate : Fate
  pub waiting : Option ℕ

-- whether a fate is that of one who isn't aborted
abbrev pub is_going : Fate → Bool
is_going Going = true
is_going Ended = false
is_going (Fell on) = false

-- the item of ticket t; tickets count from 1
abbrev pub at_ticket : {A : Type 0} → List A → ℕ → Option A
at_ticket xs zero = None
at_ticket xs (suc n) = slice_get xs n

-- the list with the item at index n changed
abbrev pub edit_index : {A : Type 0} → (A → A) → List A → ℕ → List A
edit_index f [] n = []
edit_index f (x ∷ xs) zero = f x ∷ xs
edit_index f (x ∷ xs) (suc n) = x ∷ edit_index f xs n

-- the list with the item of ticket t changed
abbrev pub edit : {A : Type 0} → (A → A) → List A → ℕ → List A
edit f xs zero = xs
edit f xs (suc n) = edit_index f xs n

-- whether ticket t was drawn and isn't aborted
abbrev pub goes_on : List Work → ℕ → Bool
goes_on ws t = unwrap_or (option_map (λ w. is_going w.fate) (at_ticket ws t)) false

-- how ticket t stands, where it was drawn
abbrev pub fate_at : List Work → ℕ → Option Fate
fate_at ws t = option_map (λ w. w.fate) (at_ticket ws t)

-- because of which ticket one fell
abbrev pub fell_on : Fate → Option ℕ
fell_on Going = None
fell_on Ended = None
fell_on (Fell on) = Some on

-- what an operation sets k to: a value, or none for a delete
abbrev pub write_of : Op ℕ → ℕ → Option (Option (List ℕ))
write_of (Get j r s) k = None
write_of (Put j v) k = if k == j then Some (Some v) else None
write_of (Del j) k = if k == j then Some None else None

-- what the last write of k sets it to
abbrev pub last_write : List (Op ℕ) → ℕ → Option (Option (List ℕ))
last_write [] k = None
last_write (o ∷ os) k = option_or (last_write os k) (write_of o k)

-- what a transaction's version of k is. An aborted one has none
abbrev pub version_in : Work → ℕ → Option (Option (List ℕ))
version_in w k = if is_going w.fate then last_write w.ops k else None

-- ticket t's version of k
abbrev pub version : List Work → ℕ → ℕ → Option (Option (List ℕ))
version ws t k = option_and_then (λ w. version_in w k) (at_ticket ws t)

-- the newest version of k at or below ticket t: its own, where it has one, else the newest below it
abbrev pub newest : List Work → ℕ → ℕ → Option Version
newest ws zero k = None
newest ws (suc n) k = option_or (option_map (λ v. record { source = suc n; value = v }) (version ws (suc n) k)) (newest ws n k)

-- where a version came from: a ticket, or the base
abbrev pub source_of : Option Version → ℕ
source_of None = 0
source_of (Some v) = v.source

-- whether an operation is a Get of k from source s
abbrev pub is_get_of : ℕ → ℕ → Op ℕ → Bool
is_get_of k s (Get j r from) = (k == j) && (s == from)
is_get_of k s (Put j v) = false
is_get_of k s (Del j) = false

-- whether these have a Get of k from source s
abbrev pub has_get : List (Op ℕ) → ℕ → ℕ → Bool
has_get os k s = list_any (is_get_of k s) os

-- whether ticket t has a Get of k from source s, aborted or not
abbrev pub has_read : List Work → ℕ → ℕ → ℕ → Bool
has_read ws k s t = unwrap_or (option_map (λ w. has_get w.ops k s) (at_ticket ws t)) false

-- the greatest ticket up to n that passes, else 0
abbrev pub greatest : (ℕ → Bool) → ℕ → ℕ
greatest p zero = zero
greatest p (suc n) = if p (suc n) then suc n else greatest p n

-- the mark of the version of k from source s: the greatest ticket with a Get of k from there
abbrev pub mark : List Work → ℕ → ℕ → ℕ
mark ws k s = greatest (has_read ws k s) (length ws)

-- one answered operation more, and no get that waits
abbrev pub add_op : Op ℕ → Work → Work
add_op o w = record w { ops = w.ops ++ o ∷ []; waiting = None }

-- a get of k that has to wait
abbrev pub wait_for : ℕ → Work → Work
wait_for k w = record w { waiting = Some k }

-- a get of this key that has to wait, or none
abbrev pub with_waiting : Option ℕ → Work → Work
with_waiting waiting w = record w { waiting = waiting }

-- because of this ticket aborted
abbrev pub fall_to : ℕ → Work → Work
fall_to on w = record w { fate = Fell on }

-- the key of ticket t's get that isn't answered yet
abbrev pub waiting_at : List Work → ℕ → Option ℕ
waiting_at ws t = option_and_then (λ w. w.waiting) (at_ticket ws t)

-- the works with one answered operation more of ticket t
abbrev pub with_op : List Work → ℕ → Op ℕ → List Work
with_op ws t o = edit (add_op o) ws t

-- aborted in a call of its own
abbrev pub end_work : Work → Work
end_work w = record w { fate = Ended }

-- stopped, if it goes on
abbrev pub stop_work : Work → Work
stop_work w = record w { fate = if is_going w.fate then Ended else w.fate }

-- whether ticket s was drawn and is aborted
abbrev pub is_gone : List Work → ℕ → Bool
is_gone ws s = unwrap_or (option_map (λ w. not (is_going w.fate)) (at_ticket ws s)) false

-- whether ticket s was aborted in the call that found the works `before` and has made them `now`
abbrev pub aborted_since : List Work → List Work → ℕ → Bool
aborted_since before now s = goes_on before s && not (goes_on now s)

-- the lesser of two, where there are two
abbrev pub least_of : Option ℕ → Option ℕ → Option ℕ
least_of None b = b
least_of (Some a) None = Some a
least_of (Some a) (Some b) = Some (min a b)

-- the source of a Get, where it passes
abbrev pub source_in : (ℕ → Bool) → Op ℕ → Option ℕ
source_in p (Get k r s) = if p s then Some s else None
source_in p (Put k v) = None
source_in p (Del k) = None

-- the least source of these Gets that passes
abbrev pub least_source : (ℕ → Bool) → List (Op ℕ) → Option ℕ
least_source p [] = None
least_source p (o ∷ os) = least_of (source_in p o) (least_source p os)

-- aborted because of an aborted source, where there is one and it goes on
abbrev pub fall : Option ℕ → Work → Work
fall None w = w
fall (Some on) w = record w { fate = if is_going w.fate then Fell on else w.fate }

-- Tickets 1 to n, one after the other: each that goes on and has read from tickets aborted in this call falls because of the least of them.
abbrev pub cascade : List Work → List Work → ℕ → List Work
cascade before now zero = now
cascade before now (suc n) = edit (λ w. fall (least_source (aborted_since before (cascade before now n)) w.ops) w) (cascade before now n) (suc n)

-- ticket t is aborted in a call of its own, and those fall that depend on it, directly or not
abbrev pub aborted : List Work → ℕ → List Work
aborted ws t = cascade ws (edit end_work ws t) (length ws)

-- for each key below `keys` in rising order its newest version, where there is one
abbrev pub last_writes : ℕ → List Work → List (ℕ × Option (List ℕ))
last_writes keys ws = filter_map (λ k. option_map (λ v. (k, v.value)) (newest ws (length ws) k)) (range_with_len 0 keys)

-- sources stand at or below their reader
pub record SourcesRise (ws : List Work) : Type 0 where
  pub at_each : (u : ℕ) (w : Work) → slice_get ws u ≡ Some w → is_going w.fate ≡ true → (i k : ℕ) (r : Option (List ℕ)) (s : ℕ) → slice_get w.ops i ≡ Some (Get k r s) → s ≤ suc u

-- sources stand at or below their reader, and none of a transaction that goes on is gone
pub record Tidy (ws : List Work) : Type 0 where
  pub rises : SourcesRise ws
  pub at_each : (u : ℕ) (w : Work) → slice_get ws u ≡ Some w → is_going w.fate ≡ true → (i k : ℕ) (r : Option (List ℕ)) (s : ℕ) → slice_get w.ops i ≡ Some (Get k r s) → is_gone ws s ≡ false
