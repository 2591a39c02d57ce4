-- Each form of `run` passes, and is read as it says.
use Rattle.std.proofs.Common.{◌≡◌, ◌||◌, if◌then◌else◌, ℕ, Bool, true, false, List, [], ◌∷◌, ◌++◌, map, Some, None, refl, ap, ◌∙◌, codes}
use Rattle.std.proofs.lemmas.List.{append-nil, append_assoc}
use Rattle.std.specs.List.{fold}
use Rattle.clap.specs.Walk.{Held, Row, Rule, Text, Walk, first_of, has_row, idle, more_values, nothing_held, reacted, rows_after, settled, used, walk_from, walked, with_default}
use Rattle.clap.specs.Kinds.{or_else}
use Rattle.clap.specs.Faults.{check_fault, default_fault, defaults_fault, level_fault, values_fault, settle_fault, turn_fault, use_fault}
use Rattle.clap.specs.declared.parser.matches.ValueSource.TheVariants.{DefaultValue}
use Rattle.clap.proofs.OnLiterals.{clap_on_literals}
use Rattle.ob_word_forms.specs.Forms.{Choice, AreChoices, IsPlain, IsWithout, id_of, lanes, lanes_in, mirror, mirror_in, reads, reads_in, writes, writes_in, trace, trace_in, turns, turns_in, words_of}
use Rattle.ob_words.proofs.Built.{built_flag, built_option, operand_at, run_built, run_rules}
use Rattle.ob_word_forms.proofs.Rows.{at_row-absent, given_row, has_row-more, with_default-none}
use Rattle.ob_word_forms.proofs.Levels.{defaults_done, defaults_next, defaults_skip, level_is, rows_are}
use Rattle.ob_word_forms.proofs.PlainWords.{at, plain_turn-idle, plain_walked-idle}
use Rattle.ob_word_forms.proofs.Steps.{Goes, Ready, goes_more, goes_none, option_goes, pending_held, pending_ready, plain_held, run_lanes, run_mirror, run_reads_option, run_writes_option, run_trace}

-- ---- the flag

turns_walk : (h : Held) (i : ℕ) → walked run_rules [] (at h idle i) (codes "--turns") ≡ at (reacted run_rules (built_flag (codes "turns")) [] h) idle i
unfolding clap_on_literals
turns_walk h i = refl

turns_turn : (h : Held) (i : ℕ) → turn_fault run_built [] (at h idle i) (codes "--turns")
    ≡ or_else (or_else (settle_fault run_rules false h) (use_fault false (built_flag (codes "turns")) [] (settled run_rules h).rows)) []
unfolding clap_on_literals
turns_turn h i = refl

abbrev turns_row : Row
turns_row = given_row (built_flag (codes "turns")) (codes "true" ∷ [])

turns_once : (rows : List Row) → has_row (codes "turns") rows ≡ false
    → used (built_flag (codes "turns")) [] rows ≡ rows ++ turns_row ∷ []
turns_once rows absent =
    let first = at_row-absent (codes "turns") (λ _. []) [] rows absent ∙ append-nil rows in
    rw (first, at_row-absent (codes "turns") _ _ rows absent) refl

turns_passes : (rows : List Row) → has_row (codes "turns") rows ≡ false → use_fault false (built_flag (codes "turns")) [] rows ≡ []
unfolding clap_on_literals
turns_passes rows absent = rw absent refl

-- ---- the operands

abbrev pub operand_row : ℕ → Text → Text → Row
operand_row i id word = given_row (operand_at i id) (word ∷ [])

abbrev pub run_operands : Text → Text → List Row
run_operands store keys = operand_row 1 (codes "STORE") store ∷ operand_row 2 (codes "KEYS") keys ∷ []

-- where the walk stands after both
abbrev pub run_held : Text → Text → Held
run_held store keys = pending_held (operand_row 1 (codes "STORE") store ∷ []) (codes "KEYS") keys

operands_go : (store keys : Text) (rest : List Text) (end : Walk) → IsPlain store → IsPlain keys
    → Goes run_built (at (run_held store keys) idle 3) rest end
    → Goes run_built (walk_from nothing_held) (store ∷ keys ∷ rest) end
operands_go store keys rest end ps pk goes =
    let one = at (pending_held [] (codes "STORE") store) idle 2 in
    goes_more run_built (walk_from nothing_held) one end store (keys ∷ rest)
    (plain_turn-idle run_built 1 store nothing_held ps)
    (plain_walked-idle run_rules 1 store nothing_held ps)
    (goes_more run_built one (at (run_held store keys) idle 3) end keys rest
    (plain_turn-idle run_built 2 keys (pending_held [] (codes "STORE") store) pk)
    (plain_walked-idle run_rules 2 keys (pending_held [] (codes "STORE") store) pk)
    goes)

operands_ready : (store keys : Text) → Ready run_built (run_held store keys) (run_operands store keys)
operands_ready store keys = record { settles = refl; passes = refl }

-- ---- the options

abbrev pub choice_row : Choice → Row
choice_row (lanes k) = given_row (built_option (codes "lanes")) (k ∷ [])
choice_row (mirror file) = given_row (built_option (codes "mirror")) (file ∷ [])
choice_row (reads q) = given_row (built_option (codes "reads")) (q ∷ [])
choice_row (writes w) = given_row (built_option (codes "writes")) (w ∷ [])
choice_row (trace file) = given_row (built_option (codes "trace")) (file ∷ [])
choice_row turns = given_row (built_flag (codes "turns")) (codes "true" ∷ [])

-- none of these options has a row yet
abbrev IsNew : List Choice → List Row → Type 0
IsNew [] rows = Unit {0}
IsNew (c ∷ cs) rows = (has_row (id_of c) rows ≡ false) × IsNew cs rows

new_more : (cs : List Choice) (rows : List Row) (r : Row) → IsNew cs rows → IsWithout r.id cs → IsNew cs (rows ++ r ∷ [])
new_more [] rows r new without = tt
new_more (c ∷ cs) rows r new without =
    (has_row-more (id_of c) rows r new.0 without.0, new_more cs rows r new.1 without.1)

record Ends (h : Held) (i : ℕ) (rows : List Row) (words : List Text) : Type 0 where
  held : Held
  goes : Goes run_built (at h idle i) words (at held idle i)
  ready : Ready run_built held rows

choices_go : (cs : List Choice) (h : Held) (rows : List Row) → AreChoices cs → IsNew cs rows → Ready run_built h rows
    → Ends h 3 (rows ++ map choice_row cs) (words_of cs)
choices_go [] h rows fine new ready = record {
  held = h;
  goes = goes_none run_built (at h idle 3);
  ready = rw (append-nil rows) ready;
}
choices_go (lanes k ∷ cs) h rows fine new ready =
    let row = choice_row (lanes k) in
    let rest = choices_go cs (pending_held rows (codes "lanes") k) (rows ++ row ∷ []) fine.2 (new_more cs rows row new.1 fine.1)
    (pending_ready run_built (codes "lanes") (codes "--lanes") k rows run_lanes new.0) in
    record {
      held = rest.held;
      goes = option_goes run_built (codes "lanes") (codes "--lanes") k h 3 rows (words_of cs) _ run_lanes ready fine.0 rest.goes;
      ready = rw (append_assoc rows (row ∷ []) (map choice_row cs)) at rest.ready;
    }
choices_go (mirror file ∷ cs) h rows fine new ready =
    let row = choice_row (mirror file) in
    let rest = choices_go cs (pending_held rows (codes "mirror") file) (rows ++ row ∷ []) fine.2 (new_more cs rows row new.1 fine.1)
    (pending_ready run_built (codes "mirror") (codes "--mirror") file rows run_mirror new.0) in
    record {
      held = rest.held;
      goes = option_goes run_built (codes "mirror") (codes "--mirror") file h 3 rows (words_of cs) _ run_mirror ready fine.0 rest.goes;
      ready = rw (append_assoc rows (row ∷ []) (map choice_row cs)) at rest.ready;
    }
choices_go (reads q ∷ cs) h rows fine new ready =
    let row = choice_row (reads q) in
    let rest = choices_go cs (pending_held rows (codes "reads") q) (rows ++ row ∷ []) fine.2 (new_more cs rows row new.1 fine.1)
    (pending_ready run_built (codes "reads") (codes "--reads") q rows run_reads_option new.0) in
    record {
      held = rest.held;
      goes = option_goes run_built (codes "reads") (codes "--reads") q h 3 rows (words_of cs) _ run_reads_option ready fine.0 rest.goes;
      ready = rw (append_assoc rows (row ∷ []) (map choice_row cs)) at rest.ready;
    }
choices_go (writes w ∷ cs) h rows fine new ready =
    let row = choice_row (writes w) in
    let rest = choices_go cs (pending_held rows (codes "writes") w) (rows ++ row ∷ []) fine.2 (new_more cs rows row new.1 fine.1)
    (pending_ready run_built (codes "writes") (codes "--writes") w rows run_writes_option new.0) in
    record {
      held = rest.held;
      goes = option_goes run_built (codes "writes") (codes "--writes") w h 3 rows (words_of cs) _ run_writes_option ready fine.0 rest.goes;
      ready = rw (append_assoc rows (row ∷ []) (map choice_row cs)) at rest.ready;
    }
choices_go (trace file ∷ cs) h rows fine new ready =
    let row = choice_row (trace file) in
    let rest = choices_go cs (pending_held rows (codes "trace") file) (rows ++ row ∷ []) fine.2 (new_more cs rows row new.1 fine.1)
    (pending_ready run_built (codes "trace") (codes "--trace") file rows run_trace new.0) in
    record {
      held = rest.held;
      goes = option_goes run_built (codes "trace") (codes "--trace") file h 3 rows (words_of cs) _ run_trace ready fine.0 rest.goes;
      ready = rw (append_assoc rows (row ∷ []) (map choice_row cs)) at rest.ready;
    }
choices_go (turns ∷ cs) h rows fine new ready =
    let row = choice_row turns in
    let rest = choices_go cs (plain_held (rows ++ row ∷ [])) (rows ++ row ∷ []) fine.2 (new_more cs rows row new.1 fine.1)
    (record { settles = refl; passes = refl }) in
    let once : used (built_flag (codes "turns")) [] rows ≡ rows ++ row ∷ [] = turns_once rows new.0 in
    let turn : turn_fault run_built [] (at h idle 3) (codes "--turns") ≡ [] =
    turns_turn h 3
    ∙ ap (λ k. or_else (or_else k (use_fault false (built_flag (codes "turns")) [] (settled run_rules h).rows)) []) ready.passes
    ∙ ap (λ (x : Held). or_else (use_fault false (built_flag (codes "turns")) [] x.rows) []) ready.settles
    ∙ ap (λ k. or_else k []) (turns_passes rows new.0) in
    let step : walked run_rules [] (at h idle 3) (codes "--turns") ≡ at (plain_held (rows ++ row ∷ [])) idle 3 =
    turns_walk h 3
    ∙ ap (λ (x : Held). at (record x { rows = used (built_flag (codes "turns")) [] x.rows }) idle 3) ready.settles
    ∙ ap (λ (x : List Row). at (plain_held x) idle 3) once in
    record {
      held = rest.held;
      goes = goes_more run_built _ _ _ (codes "--turns") (words_of cs) turn step rest.goes;
      ready = rw (append_assoc rows (row ∷ []) (map choice_row cs)) at rest.ready;
    }

-- ---- the whole level

abbrev run_rows : Text → Text → List Row → List Row
run_rows store keys xs = operand_row 1 (codes "STORE") store ∷ operand_row 2 (codes "KEYS") keys ∷ xs

turns_default : (rows : List Row) → default_fault rows (built_flag (codes "turns")) ≡ []
unfolding clap_on_literals
turns_default rows = go (has_row (codes "turns") rows)
  where
    go : (t : Bool) → (if t || false then [] else values_fault (built_flag (codes "turns")) (codes "false" ∷ [])) ≡ []
    go true = refl
    go false = refl

run_defaults : (store keys : Text) (xs : List Row) → defaults_fault (run_rows store keys xs) run_rules ≡ []
run_defaults store keys xs =
    let rows = run_rows store keys xs in
    let flag : Rule = built_flag (codes "turns") in
    defaults_skip rows (operand_at 1 (codes "STORE")) _ refl
    ∙ defaults_skip rows (operand_at 2 (codes "KEYS")) _ refl
    ∙ defaults_skip rows (built_option (codes "lanes")) _ refl
    ∙ defaults_skip rows (built_option (codes "mirror")) _ refl
    ∙ defaults_skip rows (built_option (codes "reads")) _ refl
    ∙ defaults_skip rows (built_option (codes "writes")) _ refl
    ∙ defaults_skip rows (built_option (codes "trace")) _ refl
    ∙ defaults_next rows flag _ (turns_default rows)
    ∙ defaults_done (with_default rows flag)

-- the rows at the end
run_finished : (store keys : Text) (xs : List Row)
    → fold with_default (run_rows store keys xs) run_rules ≡ with_default (run_rows store keys xs) (built_flag (codes "turns"))
run_finished store keys xs =
    let rows = run_rows store keys xs in
    let flag : Rule = built_flag (codes "turns") in
    rw (with_default-none rows (operand_at 1 (codes "STORE")) refl) (
    rw (with_default-none rows (operand_at 2 (codes "KEYS")) refl) (
    rw (with_default-none rows (built_option (codes "lanes")) refl) (
    rw (with_default-none rows (built_option (codes "mirror")) refl) (
    rw (with_default-none rows (built_option (codes "reads")) refl) (
    rw (with_default-none rows (built_option (codes "writes")) refl) (
    rw (with_default-none rows (built_option (codes "trace")) refl) refl))))))

abbrev pub run_end : Text → Text → List Row → List Row
run_end store keys xs = with_default (run_rows store keys xs) (built_flag (codes "turns"))

run_checked : (store keys : Text) (xs : List Row) (t : Bool) → has_row (codes "turns") xs ≡ t → check_fault run_built (run_end store keys xs) false ≡ []
run_checked store keys xs true e = rw e refl
run_checked store keys xs false e = rw e refl

no_rows : (store keys : Text) (cs : List Choice) → IsNew cs (run_operands store keys)
no_rows store keys [] = tt
no_rows store keys (lanes k ∷ cs) = (refl, no_rows store keys cs)
no_rows store keys (mirror file ∷ cs) = (refl, no_rows store keys cs)
no_rows store keys (reads q ∷ cs) = (refl, no_rows store keys cs)
no_rows store keys (writes w ∷ cs) = (refl, no_rows store keys cs)
no_rows store keys (trace file ∷ cs) = (refl, no_rows store keys cs)
no_rows store keys (turns ∷ cs) = (refl, no_rows store keys cs)

abbrev pub run_words : Text → Text → List Choice → List Text
run_words store keys cs = store ∷ keys ∷ words_of cs

pub run_passes : (store keys : Text) (cs : List Choice) → IsPlain store → IsPlain keys → AreChoices cs
    → level_fault run_built [] nothing_held (run_words store keys cs) false [] ≡ []
run_passes store keys cs ps pk fine =
    let xs = map choice_row cs in
    let ends = choices_go cs (run_held store keys) (run_operands store keys) fine (no_rows store keys cs) (operands_ready store keys) in
    let goes = operands_go store keys (words_of cs) (at ends.held idle 3) ps pk ends.goes in
    level_is run_built (run_words store keys cs) ends.held (run_rows store keys xs) 3 refl goes ends.ready
    ∙ ap (λ k. or_else k (check_fault run_built (fold with_default (run_rows store keys xs) run_rules) false)) (run_defaults store keys xs)
    ∙ ap (λ rows. check_fault run_built rows false) (run_finished store keys xs)
    ∙ run_checked store keys xs (has_row (codes "turns") xs) refl

pub run_reads : (store keys : Text) (cs : List Choice) → IsPlain store → IsPlain keys → AreChoices cs
    → rows_after run_rules [] (run_words store keys cs) ≡ run_end store keys (map choice_row cs)
run_reads store keys cs ps pk fine =
    let xs = map choice_row cs in
    let ends = choices_go cs (run_held store keys) (run_operands store keys) fine (no_rows store keys cs) (operands_ready store keys) in
    let goes = operands_go store keys (words_of cs) (at ends.held idle 3) ps pk ends.goes in
    rows_are run_built (run_words store keys cs) ends.held (run_rows store keys xs) 3 goes ends.ready ∙ run_finished store keys xs

-- what is read of them

pub run_store : (store keys : Text) (xs : List Row) (t : Bool) → has_row (codes "turns") xs ≡ t → first_of (codes "STORE") (run_end store keys xs) ≡ Some store
run_store store keys xs true e = rw e refl
run_store store keys xs false e = rw e refl

pub run_keys : (store keys : Text) (xs : List Row) (t : Bool) → has_row (codes "turns") xs ≡ t → first_of (codes "KEYS") (run_end store keys xs) ≡ Some keys
run_keys store keys xs true e = rw e refl
run_keys store keys xs false e = rw e refl

abbrev default_row : Row
default_row = record (given_row (built_flag (codes "turns")) (codes "false" ∷ [])) { source = Some DefaultValue }

-- the default stands at the end
defaulted : (rows : List Row) → has_row (codes "turns") rows ≡ false → with_default rows (built_flag (codes "turns")) ≡ rows ++ default_row ∷ []
defaulted rows absent = rw absent (at_row-absent (codes "turns") (more_values DefaultValue (codes "false" ∷ [])) (default_row ∷ []) rows absent)

first_lanes : (cs : List Choice) (ys : List Row) → first_of (codes "lanes") ys ≡ None → first_of (codes "lanes") (map choice_row cs ++ ys) ≡ lanes_in cs
first_lanes [] ys none = none
first_lanes (lanes k ∷ cs) ys none = refl
first_lanes (mirror file ∷ cs) ys none = first_lanes cs ys none
first_lanes (reads q ∷ cs) ys none = first_lanes cs ys none
first_lanes (writes w ∷ cs) ys none = first_lanes cs ys none
first_lanes (trace file ∷ cs) ys none = first_lanes cs ys none
first_lanes (turns ∷ cs) ys none = first_lanes cs ys none

first_mirror : (cs : List Choice) (ys : List Row) → first_of (codes "mirror") ys ≡ None → first_of (codes "mirror") (map choice_row cs ++ ys) ≡ mirror_in cs
first_mirror [] ys none = none
first_mirror (mirror file ∷ cs) ys none = refl
first_mirror (lanes k ∷ cs) ys none = first_mirror cs ys none
first_mirror (reads q ∷ cs) ys none = first_mirror cs ys none
first_mirror (writes w ∷ cs) ys none = first_mirror cs ys none
first_mirror (trace file ∷ cs) ys none = first_mirror cs ys none
first_mirror (turns ∷ cs) ys none = first_mirror cs ys none

first_reads : (cs : List Choice) (ys : List Row) → first_of (codes "reads") ys ≡ None → first_of (codes "reads") (map choice_row cs ++ ys) ≡ reads_in cs
first_reads [] ys none = none
first_reads (reads q ∷ cs) ys none = refl
first_reads (lanes k ∷ cs) ys none = first_reads cs ys none
first_reads (mirror file ∷ cs) ys none = first_reads cs ys none
first_reads (writes w ∷ cs) ys none = first_reads cs ys none
first_reads (trace file ∷ cs) ys none = first_reads cs ys none
first_reads (turns ∷ cs) ys none = first_reads cs ys none

first_writes : (cs : List Choice) (ys : List Row) → first_of (codes "writes") ys ≡ None → first_of (codes "writes") (map choice_row cs ++ ys) ≡ writes_in cs
first_writes [] ys none = none
first_writes (writes w ∷ cs) ys none = refl
first_writes (lanes k ∷ cs) ys none = first_writes cs ys none
first_writes (mirror file ∷ cs) ys none = first_writes cs ys none
first_writes (reads q ∷ cs) ys none = first_writes cs ys none
first_writes (trace file ∷ cs) ys none = first_writes cs ys none
first_writes (turns ∷ cs) ys none = first_writes cs ys none

first_trace : (cs : List Choice) (ys : List Row) → first_of (codes "trace") ys ≡ None → first_of (codes "trace") (map choice_row cs ++ ys) ≡ trace_in cs
first_trace [] ys none = none
first_trace (trace file ∷ cs) ys none = refl
first_trace (lanes k ∷ cs) ys none = first_trace cs ys none
first_trace (mirror file ∷ cs) ys none = first_trace cs ys none
first_trace (reads q ∷ cs) ys none = first_trace cs ys none
first_trace (writes w ∷ cs) ys none = first_trace cs ys none
first_trace (turns ∷ cs) ys none = first_trace cs ys none

pub run_lanes_read : (store keys : Text) (cs : List Choice) (t : Bool) → has_row (codes "turns") (map choice_row cs) ≡ t
    → first_of (codes "lanes") (run_end store keys (map choice_row cs)) ≡ lanes_in cs
run_lanes_read store keys cs true e = rw e (rw (append-nil (map choice_row cs)) at (first_lanes cs [] refl))
run_lanes_read store keys cs false e =
    let whole = defaulted (run_rows store keys (map choice_row cs)) e in
    ap (λ rows. first_of (codes "lanes") rows) whole ∙ first_lanes cs (default_row ∷ []) refl

pub run_mirror_read : (store keys : Text) (cs : List Choice) (t : Bool) → has_row (codes "turns") (map choice_row cs) ≡ t
    → first_of (codes "mirror") (run_end store keys (map choice_row cs)) ≡ mirror_in cs
run_mirror_read store keys cs true e = rw e (rw (append-nil (map choice_row cs)) at (first_mirror cs [] refl))
run_mirror_read store keys cs false e =
    let whole = defaulted (run_rows store keys (map choice_row cs)) e in
    ap (λ rows. first_of (codes "mirror") rows) whole ∙ first_mirror cs (default_row ∷ []) refl

pub run_reads_read : (store keys : Text) (cs : List Choice) (t : Bool) → has_row (codes "turns") (map choice_row cs) ≡ t
    → first_of (codes "reads") (run_end store keys (map choice_row cs)) ≡ reads_in cs
run_reads_read store keys cs true e = rw e (rw (append-nil (map choice_row cs)) at (first_reads cs [] refl))
run_reads_read store keys cs false e =
    let whole = defaulted (run_rows store keys (map choice_row cs)) e in
    ap (λ rows. first_of (codes "reads") rows) whole ∙ first_reads cs (default_row ∷ []) refl

pub run_writes_read : (store keys : Text) (cs : List Choice) (t : Bool) → has_row (codes "turns") (map choice_row cs) ≡ t
    → first_of (codes "writes") (run_end store keys (map choice_row cs)) ≡ writes_in cs
run_writes_read store keys cs true e = rw e (rw (append-nil (map choice_row cs)) at (first_writes cs [] refl))
run_writes_read store keys cs false e =
    let whole = defaulted (run_rows store keys (map choice_row cs)) e in
    ap (λ rows. first_of (codes "writes") rows) whole ∙ first_writes cs (default_row ∷ []) refl

pub run_trace_read : (store keys : Text) (cs : List Choice) (t : Bool) → has_row (codes "turns") (map choice_row cs) ≡ t
    → first_of (codes "trace") (run_end store keys (map choice_row cs)) ≡ trace_in cs
run_trace_read store keys cs true e = rw e (rw (append-nil (map choice_row cs)) at (first_trace cs [] refl))
run_trace_read store keys cs false e =
    let whole = defaulted (run_rows store keys (map choice_row cs)) e in
    ap (λ rows. first_of (codes "trace") rows) whole ∙ first_trace cs (default_row ∷ []) refl

abbrev pub flag_text : Bool → Text
flag_text true = codes "true"
flag_text false = codes "false"

turns_here : (cs : List Choice) → has_row (codes "turns") (map choice_row cs) ≡ turns_in cs
turns_here [] = refl
turns_here (turns ∷ cs) = refl
turns_here (lanes k ∷ cs) = turns_here cs
turns_here (mirror file ∷ cs) = turns_here cs
turns_here (reads q ∷ cs) = turns_here cs
turns_here (writes w ∷ cs) = turns_here cs
turns_here (trace file ∷ cs) = turns_here cs

turns_text_given : (cs : List Choice) → turns_in cs ≡ true → first_of (codes "turns") (map choice_row cs) ≡ Some (codes "true")
turns_text_given [] e = cc
turns_text_given (turns ∷ cs) e = refl
turns_text_given (lanes k ∷ cs) e = turns_text_given cs e
turns_text_given (mirror file ∷ cs) e = turns_text_given cs e
turns_text_given (reads q ∷ cs) e = turns_text_given cs e
turns_text_given (writes w ∷ cs) e = turns_text_given cs e
turns_text_given (trace file ∷ cs) e = turns_text_given cs e

turns_text_absent : (cs : List Choice) → turns_in cs ≡ false → first_of (codes "turns") (map choice_row cs ++ default_row ∷ []) ≡ Some (codes "false")
turns_text_absent [] e = refl
turns_text_absent (turns ∷ cs) e = cc
turns_text_absent (lanes k ∷ cs) e = turns_text_absent cs e
turns_text_absent (mirror file ∷ cs) e = turns_text_absent cs e
turns_text_absent (reads q ∷ cs) e = turns_text_absent cs e
turns_text_absent (writes w ∷ cs) e = turns_text_absent cs e
turns_text_absent (trace file ∷ cs) e = turns_text_absent cs e

pub run_turns_text : (store keys : Text) (cs : List Choice) (t : Bool) → turns_in cs ≡ t
    → first_of (codes "turns") (run_end store keys (map choice_row cs)) ≡ Some (flag_text t)
run_turns_text store keys cs true e = rw (turns_here cs, e) (turns_text_given cs e)
run_turns_text store keys cs false e =
    let absent : has_row (codes "turns") (map choice_row cs) ≡ false = turns_here cs ∙ e in
    ap (λ rows. first_of (codes "turns") rows) (defaulted (run_rows store keys (map choice_row cs)) absent) ∙ turns_text_absent cs e
