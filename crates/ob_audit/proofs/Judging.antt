-- A line of which the first 97 bytes are kept, and whether it may stand next.
use Rattle.std.proofs.Common.{◌≡◌, ◌≤◌, ℕ, List, length, take, Option, Some, None, refl, sym, ap, subst, inl, inr, arith}
use Rattle.std.specs.Global.{Box}
use Rattle.std.specs.Prelude.{MatchOption}
use Rattle.std.proofs.lemmas.List.{length-take, take_all}
use Rattle.ob_schedule.specs.declared.line.Line.{Line}
use Rattle.ob_schedule.specs.declared.line.Wanted.{Wanted}
use Rattle.ob_schedule.specs.declared.line.Wanted.TheVariants as W
use Rattle.ob_schedule.specs.Follow.{Follow, TakesLine}
use Rattle.ob_schedule.specs.Names.{RefusesLine}
use Rattle.ob_follow.specs.declared.follow.FollowPlain.{FollowPlain}
use Rattle.ob_follow.specs.Plain.{follow_of}
use Rattle.ob_audit.specs.Spelling.{SpellsLine, IsLineOf}
use Rattle.ob_audit.specs.Traces.{TakesFirst, TakesNext, RefusesNext}
use Rattle.ob_audit.specs.Reader.{known_behind}

-- what is kept of a line that isn't too long is the line
short_whole : (text kept : List ℕ) → kept ≡ take 97 text → length kept ≤ 96 → kept ≡ text
short_whole text kept is short =
    let n : length kept ≡ length (take 97 text) = ap (λ (k : List ℕ). length k) is in
    subst (λ (k : List ℕ). kept ≡ k) (take_all 97 text (omega (arith, n, length-take 97 text, short))) is

short_kept : (text kept : List ℕ) → kept ≡ take 97 text → length text ≤ 96 → kept ≡ text
short_kept text kept is short = subst (λ (k : List ℕ). kept ≡ k) (take_all 97 text (omega (arith, short))) is

-- so the line that those bytes are is the whole line's
pub line_behind : (text kept : List ℕ) (line : Line) → kept ≡ take 97 text → IsLineOf kept line → IsLineOf text line
line_behind text kept line is (inl spells) = inl (subst (λ (t : List ℕ). SpellsLine t line) (short_whole text kept is spells.short) spells)
line_behind text kept line is (inr (bad, none)) =
    inr (bad, λ l spells. none l (subst (λ (t : List ℕ). SpellsLine t l) (sym (short_kept text kept is spells.short)) spells))

-- ---- which line may stand next

pub next_told : (old : Option (Box FollowPlain)) (present : Box FollowPlain) (before new : FollowPlain) (line : Line) (answer : Option Wanted) → old ≡ Some present → before ≡ present.value
    → MatchOption answer (TakesLine (follow_of before) line (follow_of new)) (λ wanted. (follow_of new ≡ follow_of before) × RefusesLine (follow_of before) line wanted)
    → MatchOption answer ((next : Follow) × TakesNext (known_behind old) line next × (◌≡◌ {A = Option Follow} (Some (follow_of new)) (Some next))) (λ wanted. RefusesNext (known_behind old) line wanted)
next_told old present before new line None is same takes = (follow_of new, rw is (subst (λ (f : FollowPlain). TakesLine (follow_of f) line (follow_of new)) same takes), refl)
next_told old present before new line (Some wanted) is same refuses = rw is (subst (λ (f : FollowPlain). RefusesLine (follow_of f) line wanted) same refuses.1)

pub first_told : (old : Option (Box FollowPlain)) (begun : Box FollowPlain) (line : Line) → old ≡ None → TakesFirst line (follow_of begun.value)
    → (next : Follow) × TakesNext (known_behind old) line next × (◌≡◌ {A = Option Follow} (Some (follow_of begun.value)) (Some next))
first_told old begun line is takes = (follow_of begun.value, subst (λ (o : Option (Box FollowPlain)). TakesNext (known_behind o) line (follow_of begun.value)) (sym is) takes, refl)

pub first_refused : (old : Option (Box FollowPlain)) (line : Line) → old ≡ None → ((next : Follow) → TakesFirst line next → ⊥) → RefusesNext (known_behind old) line W.Start
first_refused old line is never = subst (λ (o : Option (Box FollowPlain)). RefusesNext (known_behind o) line W.Start) (sym is) (refl, never)
