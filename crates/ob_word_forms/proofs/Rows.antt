-- Rows, of which each argument has at most one.
use Rattle.std.proofs.Common.{◌≡◌, if◌then◌else◌, Bool, true, false, ◌||◌, List, [], ◌∷◌, ◌++◌, Some, None, refl}
use Rattle.std.specs.Str.{bytes_eq}
use Rattle.clap.specs.Walk.{Row, Rule, Text, at_row, has_row, reading_by, with_default}
use Rattle.clap.specs.declared.parser.matches.ValueSource.TheVariants.{CommandLine}

-- what the words gave an argument
abbrev pub given_row : Rule → List Text → Row
given_row a values = record { id = a.id; values = values; count = None; source = Some CommandLine; reading = reading_by a }

pub neither : (a b : Bool) → (a || b) ≡ false → (a ≡ false) × (b ≡ false)
neither true b h = cc
neither false b h = (refl, h)

pub at_row-absent : (id : Text) (change : Row → List Row) (missing rows : List Row) → has_row id rows ≡ false
    → at_row id change missing rows ≡ rows ++ missing
at_row-absent id change missing [] absent = refl
at_row-absent id change missing (r ∷ rs) absent =
    let parts = neither (bytes_eq r.id id) (has_row id rs) absent in
    rw (parts.0, at_row-absent id change missing rs parts.1) refl

pub has_row-more : (id : Text) (rows : List Row) (r : Row) → has_row id rows ≡ false → bytes_eq r.id id ≡ false
    → has_row id (rows ++ r ∷ []) ≡ false
has_row-more id [] r absent other = rw other refl
has_row-more id (x ∷ xs) r absent other =
    let parts = neither (bytes_eq x.id id) (has_row id xs) absent in
    rw (parts.0, has_row-more id xs r parts.1 other) refl

-- defaults are added at the end
pub with_default-none : (rows : List Row) (a : Rule) → a.defaults ≡ [] → with_default rows a ≡ rows
with_default-none rows a none = rw none (go (has_row a.id rows))
  where
    go : (t : Bool) → (if t then rows else rows) ≡ rows
    go true = refl
    go false = refl
