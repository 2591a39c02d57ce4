-- What a trace's sink has been written.
use Rattle.std.proofs.Common.{◌≡◌, ◌∙◌, ◌≤◌, ◌+◌, ◌⊎◌, ℕ, Bool, true, false, List, ◌++◌, length, take, Option, Some, None, refl, sym, ap, subst, inl, inr, arith, ⊎_elim, length-append}
use Rattle.std.proofs.lemmas.List.{take_all}
use Rattle.std.proofs.Math.Seq.{take-append-add}
use Rattle.ob_base.specs.Causes.{Rose}
use Rattle.ob_io.specs.Flows.{appended}
use Rattle.ob_io.proofs.Pieces.{appended-again}
use Rattle.ob_store.specs.Lines.{AddsLines, BreaksOnly, lines_of}
use Rattle.ob_store.proofs.Serving.{rose_later}
use Rattle.ob_store.proofs.Showing.{shows_then}
use Rattle.ob_top.specs.Traces.{RunsArePrinted, TracesArePrinted}

-- lines stand behind what was written, or a front of them where the count rose
abbrev Added : List ℕ → Option (List ℕ) → Option (List ℕ) → ℕ → ℕ → Type 0
Added lines old new m k = (n : ℕ) × (n ≤ length lines) × (new ≡ appended old (take n lines)) × ((n ≡ length lines) ⊎ Rose m k)

added : (lines : List ℕ) (was is : Bool) (old new : Option (List ℕ)) (m k : ℕ) → was ≡ false → AddsLines lines was is old new → BreaksOnly was is m k → Added lines old new m k
added lines false false None None m k whole adds breaks = (length lines, omega arith, refl, inl refl)
added lines false true None None m k whole adds breaks = (length lines, omega arith, refl, inl refl)
added lines false false (Some a) (Some b) m k whole adds breaks = (length lines, omega arith, ap Some (adds ∙ ap (λ (l : List ℕ). a ++ l) (sym (take_all (length lines) lines (omega arith)))), inl refl)
added lines false true (Some a) (Some b) m k whole (n, few, adds) breaks = (n, few, ap Some adds, inr breaks)
added lines false false None (Some b) m k whole adds breaks = absurd adds
added lines false true None (Some b) m k whole adds breaks = absurd adds
added lines false false (Some a) None m k whole adds breaks = absurd adds
added lines false true (Some a) None m k whole adds breaks = absurd adds
added lines true is old new m k whole adds breaks = absurd (cc whole)

-- all of them, where the watch is whole behind them
whole_added : (lines : List ℕ) (was is : Bool) (old new : Option (List ℕ)) → was ≡ false → is ≡ false → AddsLines lines was is old new → new ≡ appended old lines
whole_added lines false false None None was is adds = refl
whole_added lines false false (Some a) (Some b) was is adds = ap Some adds
whole_added lines false false None (Some b) was is adds = absurd adds
whole_added lines false false (Some a) None was is adds = absurd adds
whole_added lines true is old new was whole adds = absurd (cc was)
whole_added lines false true old new was whole adds = absurd (cc whole)

pub written_lines : TracesArePrinted
written_lines first notes before after s t u tells start line whole shows told =
    let lines = lines_of notes in
    let one = whole_added first s.broken t.broken s.written t.written start whole line.lines in
    let (n, few, two, all) = added lines t.broken u.broken t.written u.written t.faults u.faults whole shows.lines shows.breaks in
    record {
      all = λ unbroken. told.0 ∙ whole_added lines t.broken u.broken t.written u.written whole unbroken shows.lines ∙ ap (λ (b : Option (List ℕ)). appended b lines) (one ∙ ap (λ (b : Option (List ℕ)). appended b first) (sym tells.0)) ∙ appended-again before.bytes first lines;
      printed = record {
        count = length first + n;
        within = omega (arith, few, length-append first lines);
        written = told.0 ∙ two ∙ ap (λ (b : Option (List ℕ)). appended b (take n lines)) (one ∙ ap (λ (b : Option (List ℕ)). appended b first) (sym tells.0))
            ∙ appended-again before.bytes first (take n lines) ∙ ap (λ (l : List ℕ). appended before.bytes l) (sym (take-append-add first lines n));
        whole = ⊎_elim (λ e. inl (ap (λ m. length first + m) e ∙ sym (length-append first lines)))
            (λ r. inr (subst (λ m. Rose m after.faults) (sym tells.1) (subst (λ m. Rose s.faults m) (sym told.1) (rose_later s.faults t.faults u.faults line.faults r)))) all;
      };
    }

pub written_runs : RunsArePrinted
written_runs first notes others before after s t midway u tells start line whole opened served told = written_lines first (notes ++ others) before after s t u tells start line whole (shows_then notes others t midway u opened served) told
