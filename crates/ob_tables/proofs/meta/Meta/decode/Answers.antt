use Rattle.std.proofs.Common.{List, ℕ, Bool, Option, subst, sym, IsTrue, false}
use Rattle.std.proofs.lemmas.Bool.{false≢true}
use Rattle.ob_tables.specs.Version.{AreRanks, MarksObey}
use Rattle.ob_tables.proofs.SpellingLaws.{no_ranks, no_marks}
use Rattle.ob_tables.proofs.meta.Meta.decode.Goals as goal

pub returns-then-not-are_ranks : goal.returns-then-not-are_ranks
returns-then-not-are_ranks c = λ v s.
    no_ranks c.args.p.now c.args.bytes.now
    (record { home = c.in_ok-home.field-0.home; generation = c.in_ok-home.field-0.generation; base = c.in_ok-home.field-0.base; keys = c.in_ok-home.field-0.keys.items; ranks = c.in_ok-home.field-0.ranks.items; used = c.in_ok-home.field-0.used.items })
    v c.in_ok-home.ensures
    (λ ok. (let t : IsTrue false = c.if-not-are_ranks.ensures.1 (subst AreRanks (sym c.as_slice.ensures.value) ok) in false≢true t)) s

pub returns-then-not-marks_obey : goal.returns-then-not-marks_obey
returns-then-not-marks_obey c = λ v s.
    no_marks c.args.p.now c.args.bytes.now
    (record { home = c.in_ok-home.field-0.home; generation = c.in_ok-home.field-0.generation; base = c.in_ok-home.field-0.base; keys = c.in_ok-home.field-0.keys.items; ranks = c.in_ok-home.field-0.ranks.items; used = c.in_ok-home.field-0.used.items })
    v c.in_ok-home.ensures
    (λ ok. (let here : MarksObey c.args.p.now.dummies c.as_slice-2.result.now c.in_ok-home.field-0.used.items = subst (λ (ks : List (Option ℕ)). MarksObey c.args.p.now.dummies ks c.in_ok-home.field-0.used.items) (sym c.as_slice-2.ensures.value) ok in
    let t : IsTrue false = c.if-not-marks_obey.ensures.1 (subst (λ (us : List Bool). MarksObey c.args.p.now.dummies c.as_slice-2.result.now us) (sym c.as_slice-3.ensures.value) here) in false≢true t)) s
