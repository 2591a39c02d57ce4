use Rattle.std.proofs.Common.{◌∷◌, ◌++◌, List, ℕ, Some, None, sym, ap, ◌∙◌}
use Rattle.ob_audit.proofs.Cuts.{cut_found, first_only, first_none}
use Rattle.ob_audit.proofs.numbers.first_small.Goals as goal

pub returns-in-Some-small_of-clause-found : goal.returns-in-Some-small_of-clause-found
returns-in-Some-small_of-clause-found c =
    cut_found 32 c.args.bytes.now (c.in-Some.word.now, c.in-Some.rest.now) (sym c.in-Some.ensures) ∙ ap (λ (word : List ℕ). word ++ 32 ∷ c.in-Some.rest.now) c.in-Some-small_of.ensures.found

pub returns-in-Some-small_of-clause-only : goal.returns-in-Some-small_of-clause-only
returns-in-Some-small_of-clause-only c = first_only c.args.bytes.now c.in-Some.word.now c.in-Some.rest.now (Some c.in-Some-small_of.number) c.in-Some.ensures c.in-Some-small_of.ensures.only

pub returns-in-None-small_of-clause-only : goal.returns-in-None-small_of-clause-only
returns-in-None-small_of-clause-only c = first_only c.args.bytes.now c.in-Some.word.now c.in-Some.rest.now None c.in-Some.ensures c.in-None-small_of.ensures.only

pub returns-in-None-clause-only : goal.returns-in-None-clause-only
returns-in-None-clause-only c = first_none c.args.bytes.now c.in-None.ensures
