use Rattle.std.proofs.Common.{◌∙◌, ◌++◌, ◌∷◌, [], List, refl, sym, ap, arith, length, append_assoc, length-append, length-take}
use Rattle.std.proofs.lemmas.Bool.{le-leb}
use Rattle.std.proofs.lemmas.List.{append-nil}
use Rattle.ob_script.specs.Script.{Text, start, lines_from, is_within}
use Rattle.ob_script.specs.ScriptViews.{state_of}
use Rattle.ob_script.proofs.MoreLines.{reads_more, none_mapped}
use Rattle.ob_script.proofs.parsing.read_lines.Goals as goal

pub loop-text-init : goal.loop-text-init
loop-text-init c = record {
  before = [];
  lines_are = ap (lines_from (is_within c.args.bytes.now)) (sym c.front-rest.ensures);
  good = sym c.requires;
  number_is = refl;
  room = rw c.front-rest.ensures (omega (arith, length-take 1048576 c.args.bytes.now));
}

pub loop-text-preserved : goal.loop-text-preserved
loop-text-preserved c =
    let h = c.loop-text.invariant in
    let some = c.in-Some.ensures.some in
    record {
      before = h.before ++ c.in-Some.text.now ∷ [];
      lines_are = h.lines_are ∙ ap (λ (t : List Text). h.before ++ t) some.0 ∙ sym (append_assoc h.before (c.in-Some.text.now ∷ []) (lines_from (is_within c.args.bytes.now) c.in-Some.after.now));
      good = reads_more c.args.keys start h.before (state_of c.loop-text.reader) c.in-Some.text.now (state_of c.take_text.new.self) h.good (rw c.if-not-branch.false at c.in_ok-take_text.ensures);
      number_is = rw length-append (omega (arith, h.number_is));
      room = omega (arith, h.room, some.1);
    }

pub returns-clause-within : goal.returns-clause-within
returns-clause-within c = le-leb (length c.args.bytes.now) 1048576 c.if-not-all.false

pub returns-clause-reads : goal.returns-clause-reads
returns-clause-reads c =
    let h = c.loop-text.invariant in
    let none = c.in_default.ensures.none in
    rw (h.lines_are ∙ ap (λ (t : List Text). h.before ++ t) none ∙ append-nil h.before) h.good

pub returns-clause-whole : goal.returns-clause-whole
returns-clause-whole c = none_mapped _ c.loop-text.reader.open_asks c.if-is_some.ensures

pub returns-then-not-branch-clause-refusal : goal.returns-then-not-branch-clause-refusal
returns-then-not-branch-clause-refusal c =
    let h = c.loop-text.invariant in
    record {
      before = h.before;
      behind = c.in-Some.text.now ∷ lines_from (is_within c.args.bytes.now) c.in-Some.after.now;
      state = state_of c.loop-text.reader;
      lines_are = h.lines_are ∙ ap (λ (t : List Text). h.before ++ t) c.in-Some.ensures.some.0;
      good = h.good;
      bad = rw c.if-not-branch.true at c.in_ok-take_text.ensures;
      number_is = h.number_is;
    }
