use Rattle.std.proofs.Common.{sym, arith, inl, length}
use Rattle.std.proofs.lemmas.Bool.{eqb-false}
use Rattle.ob_script.proofs.Cuts.{line_some, line_last, line_none}
use Rattle.ob_script.proofs.parsing.next_line.Goals as goal

pub returns-in-Some-clause-some : goal.returns-in-Some-clause-some
returns-in-Some-clause-some c = line_some c.args.all c.args.bytes.now c.in-Some.line.now c.in-Some.rest.now (sym c.in-Some.ensures)

pub returns-then-not-all-clause-none : goal.returns-then-not-all-clause-none
returns-then-not-all-clause-none c = line_none c.args.all c.args.bytes.now (sym c.in_default.ensures) (inl c.if-not-all.true)

pub returns-clause-some : goal.returns-clause-some
returns-clause-some c =
    let some = eqb-false (length c.args.bytes.now) 0 (sym c.if-is_empty.ensures) in
    rw c.if-not-all.false (line_last c.args.bytes.now (sym c.in_default.ensures) (omega (arith, some)))
