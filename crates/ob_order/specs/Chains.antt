-- Private: how version chains with stored marks stand for the works: an index that computing afresh would give.
use Rattle.std.specs.Prelude.{ℕ, max, ◌≡◌, ◌<◌, ◌≤◌, nat_le, ◌==◌, if◌then◌else◌, List, [], ◌∷◌, Option, Some, None}
use Rattle.std.specs.Option.{option_or, option_map}
use Rattle.std.specs.List.{find}
use Rattle.std.specs.Prelude.{slice_get, is_some, true}
use Rattle.ob_order.specs.Works.{Get, Work, version, mark, at_ticket, last_write}

-- a version of a key as the code keeps it
pub record Link : Type 0 where
  pub ticket : ℕ
  pub value : Option (List ℕ)
  pub read_mark : ℕ

-- the link of ticket t
abbrev pub link_at : List Link → ℕ → Option Link
link_at ls t = find (λ l. l.ticket == t) ls

-- the last link at or below ticket t
abbrev pub last_link : List Link → ℕ → Option Link
last_link [] t = None
last_link (l ∷ ls) t = option_or (last_link ls t) (if nat_le l.ticket t then Some l else None)

-- tickets rise, from above this one
abbrev pub RisesAbove : ℕ → List Link → Type 0
RisesAbove t [] = Unit {0}
RisesAbove t (l ∷ ls) = (t < l.ticket) × RisesAbove l.ticket ls

-- a stored mark is the mark, but for reads of the writer itself, which forbid nothing
pub record IsMark (stored ticket real : ℕ) : Type 0 where
  pub low : stored ≤ real
  pub high : real ≤ max stored ticket

-- the chain of key k is what the works say
pub record IsChain (ws : List Work) (k : ℕ) (ls : List Link) : Type 0 where
  pub rising : RisesAbove 0 ls
  pub versions : (t : ℕ) → option_map (λ l. l.value) (link_at ls t) ≡ version ws t k
  pub marks : (t : ℕ) (l : Link) → link_at ls t ≡ Some l → IsMark l.read_mark t (mark ws k t)

-- whoever has a Get of k from ticket s, aborted or not: s is a ticket whose operations write k
pub record Sourced (ws : List Work) : Type 0 where
  pub at_each : (u : ℕ) (w : Work) → slice_get ws u ≡ Some w → (i k : ℕ) (r : Option (List ℕ)) (s : ℕ) → slice_get w.ops i ≡ Some (Get k r s) → 0 < s
      → (v : Work) × (at_ticket ws s ≡ Some v) × (is_some (last_write v.ops k) ≡ true)
