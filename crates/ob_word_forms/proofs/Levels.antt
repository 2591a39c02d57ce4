-- A level of the parse whose walk passes.
use Rattle.std.proofs.Common.{◌≡◌, if◌then◌else◌, ℕ, Bool, true, false, ◌||◌, List, [], ◌∷◌, refl, ap, ◌∙◌}
use Rattle.std.specs.List.{fold}
use Rattle.clap.specs.Walk.{Held, Row, Rule, Text, Walk, finished, has_row, idle, nothing_held, rows_after, settled, walk_from, walked, with_default}
use Rattle.clap.specs.Simple.{Shape}
use Rattle.clap.specs.Kinds.{Kinds, or_else}
use Rattle.clap.specs.Faults.{check_fault, default_fault, defaults_fault, level_fault, settle_fault}
use Rattle.ob_word_forms.proofs.PlainWords.{at}
use Rattle.ob_word_forms.proofs.Rows.{with_default-none}
use Rattle.ob_word_forms.proofs.Steps.{Goes, Ready}

default_fault-none : (rows : List Row) (a : Rule) → a.defaults ≡ [] → default_fault rows a ≡ []
default_fault-none rows a none = rw none (go (has_row a.id rows) _)
  where
    go : (t : Bool) (other : Kinds) → (if t || true then [] else other) ≡ []
    go true other = refl
    go false other = refl

-- an argument with no default is passed over
pub defaults_skip : (rows : List Row) (a : Rule) (rest : List Rule) → a.defaults ≡ [] → defaults_fault rows (a ∷ rest) ≡ defaults_fault rows rest
unfolding defaults_fault
defaults_skip rows a rest none = rw (default_fault-none rows a none, with_default-none rows a none) refl

-- one whose default passes is given it
pub defaults_next : (rows : List Row) (a : Rule) (rest : List Rule) → default_fault rows a ≡ []
    → defaults_fault rows (a ∷ rest) ≡ defaults_fault (with_default rows a) rest
unfolding defaults_fault
defaults_next rows a rest e = ap (λ k. or_else k (defaults_fault (with_default rows a) rest)) e

pub defaults_done : (rows : List Row) → defaults_fault rows [] ≡ []
unfolding defaults_fault
defaults_done rows = refl

-- where the walk passes and leaves these rows, so does the level, but for what the defaults and the last checks say
pub level_is : (s : Shape) (words : List Text) (h : Held) (rows : List Row) (i : ℕ) → s.args_override_self ≡ false
    → Goes s (walk_from nothing_held) words (at h idle i) → Ready s h rows
    → level_fault s [] nothing_held words false []
    ≡ or_else (defaults_fault rows s.rules) (check_fault s (fold with_default rows s.rules) false)
level_is s words h rows i again goes ready =
    ap (λ k. or_else k (or_else (settle_fault s.rules s.args_override_self (fold (walked s.rules []) (walk_from nothing_held) words).held)
    (or_else (defaults_fault (settled s.rules (fold (walked s.rules []) (walk_from nothing_held) words).held).rows s.rules)
    (check_fault s (finished s.rules (fold (walked s.rules []) (walk_from nothing_held) words).held) false)))) goes.fault
    ∙ ap (λ (w : Walk). or_else (settle_fault s.rules s.args_override_self w.held)
    (or_else (defaults_fault (settled s.rules w.held).rows s.rules) (check_fault s (finished s.rules w.held) false))) goes.walk
    ∙ ap (λ b. or_else (settle_fault s.rules b h)
    (or_else (defaults_fault (settled s.rules h).rows s.rules) (check_fault s (finished s.rules h) false))) again
    ∙ ap (λ k. or_else k (or_else (defaults_fault (settled s.rules h).rows s.rules) (check_fault s (finished s.rules h) false))) ready.passes
    ∙ ap (λ (x : Held). or_else (defaults_fault x.rows s.rules) (check_fault s (fold with_default x.rows s.rules) false)) ready.settles

pub rows_are : (s : Shape) (words : List Text) (h : Held) (rows : List Row) (i : ℕ)
    → Goes s (walk_from nothing_held) words (at h idle i) → Ready s h rows
    → rows_after s.rules [] words ≡ fold with_default rows s.rules
rows_are s words h rows i goes ready =
    ap (λ (w : Walk). finished s.rules w.held) goes.walk ∙ ap (λ (x : Held). fold with_default x.rows s.rules) ready.settles
