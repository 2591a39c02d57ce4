-- Each form of `format` passes, and is read as it says.
use Rattle.std.proofs.Common.{◌≡◌, ◌++◌, true, false, ℕ, List, [], ◌∷◌, Some, refl, ap, ◌∙◌, codes}
use Rattle.std.specs.List.{fold}
use Rattle.clap.specs.Walk.{Held, Row, Text, Walk, first_of, idle, nothing_held, rows_after, walk_from, with_default}
use Rattle.clap.specs.Kinds.{or_else}
use Rattle.clap.specs.Faults.{check_fault, defaults_fault, level_fault}
use Rattle.clap.proofs.OnLiterals.{clap_on_literals}
use Rattle.ob_word_forms.specs.Forms.{Choice, AreChoices, AreOfFormat, ArePlain, lanes, mirror, reads, writes, trace, trace_in, turns, words_of}
use Rattle.ob_words.specs.Reading.{asked_command, format_asked}
use Rattle.ob_words.proofs.Built.{built_option, format_built, format_rules, operand_at}
use Rattle.ob_word_forms.proofs.Rows.{given_row}
use Rattle.ob_word_forms.proofs.Levels.{level_is, rows_are}
use Rattle.ob_word_forms.proofs.PlainWords.{at}
use Rattle.ob_word_forms.proofs.Steps.{Goes, IsOperand, Ready, format_trace, goes_none, operand_goes, operand_ready, option_goes, pending_held, pending_ready}

abbrev operand_row : ℕ → Text → Text → Row
operand_row i id word = given_row (operand_at i id) (word ∷ [])

place_1 : IsOperand format_built (codes "STORE") 1 2
place_1 = record { again = refl; at_place = refl; found = refl; next = refl }

place_2 : IsOperand format_built (codes "KEYS") 2 3
place_2 = record { again = refl; at_place = refl; found = refl; next = refl }

place_3 : IsOperand format_built (codes "N") 3 4
place_3 = record { again = refl; at_place = refl; found = refl; next = refl }

place_4 : IsOperand format_built (codes "L") 4 5
place_4 = record { again = refl; at_place = refl; found = refl; next = refl }

place_5 : IsOperand format_built (codes "Z") 5 6
place_5 = record { again = refl; at_place = refl; found = refl; next = refl }

place_6 : IsOperand format_built (codes "S") 6 7
place_6 = record { again = refl; at_place = refl; found = refl; next = refl }

place_7 : IsOperand format_built (codes "R") 7 8
place_7 = record { again = refl; at_place = refl; found = refl; next = refl }

place_8 : IsOperand format_built (codes "BR") 8 9
place_8 = record { again = refl; at_place = refl; found = refl; next = refl }

place_9 : IsOperand format_built (codes "BW") 9 10
place_9 = record { again = refl; at_place = refl; found = refl; next = refl }

place_10 : IsOperand format_built (codes "E") 10 11
place_10 = record { again = refl; at_place = refl; found = refl; next = refl }

place_11 : IsOperand format_built (codes "T") 11 12
place_11 = record { again = refl; at_place = refl; found = refl; next = refl }

abbrev rows_0 : List Row
rows_0 = []

abbrev rows_1 : Text → List Row
rows_1 store = operand_row 1 (codes "STORE") store ∷ []

abbrev rows_2 : Text → Text → List Row
rows_2 store keys = operand_row 1 (codes "STORE") store ∷ operand_row 2 (codes "KEYS") keys ∷ []

abbrev rows_3 : Text → Text → Text → List Row
rows_3 store keys n = operand_row 1 (codes "STORE") store ∷ operand_row 2 (codes "KEYS") keys ∷ operand_row 3 (codes "N") n ∷ []

abbrev rows_4 : Text → Text → Text → Text → List Row
rows_4 store keys n l = operand_row 1 (codes "STORE") store ∷ operand_row 2 (codes "KEYS") keys ∷ operand_row 3 (codes "N") n ∷ operand_row 4 (codes "L") l ∷ []

abbrev rows_5 : Text → Text → Text → Text → Text → List Row
rows_5 store keys n l z = operand_row 1 (codes "STORE") store ∷ operand_row 2 (codes "KEYS") keys ∷ operand_row 3 (codes "N") n ∷ operand_row 4 (codes "L") l ∷ operand_row 5 (codes "Z") z ∷ []

abbrev rows_6 : Text → Text → Text → Text → Text → Text → List Row
rows_6 store keys n l z s = operand_row 1 (codes "STORE") store ∷ operand_row 2 (codes "KEYS") keys ∷ operand_row 3 (codes "N") n ∷ operand_row 4 (codes "L") l ∷ operand_row 5 (codes "Z") z ∷ operand_row 6 (codes "S") s ∷ []

abbrev rows_7 : Text → Text → Text → Text → Text → Text → Text → List Row
rows_7 store keys n l z s r = operand_row 1 (codes "STORE") store ∷ operand_row 2 (codes "KEYS") keys ∷ operand_row 3 (codes "N") n ∷ operand_row 4 (codes "L") l ∷ operand_row 5 (codes "Z") z ∷ operand_row 6 (codes "S") s ∷ operand_row 7 (codes "R") r ∷ []

abbrev rows_8 : Text → Text → Text → Text → Text → Text → Text → Text → List Row
rows_8 store keys n l z s r br = operand_row 1 (codes "STORE") store ∷ operand_row 2 (codes "KEYS") keys ∷ operand_row 3 (codes "N") n ∷ operand_row 4 (codes "L") l ∷ operand_row 5 (codes "Z") z ∷ operand_row 6 (codes "S") s ∷ operand_row 7 (codes "R") r ∷ operand_row 8 (codes "BR") br ∷ []

abbrev rows_9 : Text → Text → Text → Text → Text → Text → Text → Text → Text → List Row
rows_9 store keys n l z s r br bw = operand_row 1 (codes "STORE") store ∷ operand_row 2 (codes "KEYS") keys ∷ operand_row 3 (codes "N") n ∷ operand_row 4 (codes "L") l ∷ operand_row 5 (codes "Z") z ∷ operand_row 6 (codes "S") s ∷ operand_row 7 (codes "R") r ∷
    operand_row 8 (codes "BR") br ∷ operand_row 9 (codes "BW") bw ∷ []

abbrev rows_10 : Text → Text → Text → Text → Text → Text → Text → Text → Text → Text → List Row
rows_10 store keys n l z s r br bw e = operand_row 1 (codes "STORE") store ∷ operand_row 2 (codes "KEYS") keys ∷ operand_row 3 (codes "N") n ∷ operand_row 4 (codes "L") l ∷ operand_row 5 (codes "Z") z ∷ operand_row 6 (codes "S") s ∷ operand_row 7 (codes "R") r
    ∷ operand_row 8 (codes "BR") br ∷ operand_row 9 (codes "BW") bw ∷ operand_row 10 (codes "E") e ∷ []

abbrev pub rows_11 : Text → Text → Text → Text → Text → Text → Text → Text → Text → Text → Text → List Row
rows_11 store keys n l z s r br bw e t = operand_row 1 (codes "STORE") store ∷ operand_row 2 (codes "KEYS") keys ∷ operand_row 3 (codes "N") n ∷ operand_row 4 (codes "L") l ∷ operand_row 5 (codes "Z") z ∷ operand_row 6 (codes "S") s ∷ operand_row 7 (codes "R")
    r ∷ operand_row 8 (codes "BR") br ∷ operand_row 9 (codes "BW") bw ∷ operand_row 10 (codes "E") e ∷ operand_row 11 (codes "T") t ∷ []

ready_1 : (store : Text) → Ready format_built (pending_held rows_0 (codes "STORE") store) (rows_1 store)
ready_1 store = operand_ready format_built (codes "STORE") store 1 2 rows_0 place_1 refl

ready_2 : (store keys : Text) → Ready format_built (pending_held (rows_1 store) (codes "KEYS") keys) (rows_2 store keys)
ready_2 store keys = operand_ready format_built (codes "KEYS") keys 2 3 (rows_1 store) place_2 refl

ready_3 : (store keys n : Text) → Ready format_built (pending_held (rows_2 store keys) (codes "N") n) (rows_3 store keys n)
ready_3 store keys n = operand_ready format_built (codes "N") n 3 4 (rows_2 store keys) place_3 refl

ready_4 : (store keys n l : Text) → Ready format_built (pending_held (rows_3 store keys n) (codes "L") l) (rows_4 store keys n l)
ready_4 store keys n l = operand_ready format_built (codes "L") l 4 5 (rows_3 store keys n) place_4 refl

ready_5 : (store keys n l z : Text) → Ready format_built (pending_held (rows_4 store keys n l) (codes "Z") z) (rows_5 store keys n l z)
ready_5 store keys n l z = operand_ready format_built (codes "Z") z 5 6 (rows_4 store keys n l) place_5 refl

ready_6 : (store keys n l z s : Text) → Ready format_built (pending_held (rows_5 store keys n l z) (codes "S") s) (rows_6 store keys n l z s)
ready_6 store keys n l z s = operand_ready format_built (codes "S") s 6 7 (rows_5 store keys n l z) place_6 refl

ready_7 : (store keys n l z s r : Text) → Ready format_built (pending_held (rows_6 store keys n l z s) (codes "R") r) (rows_7 store keys n l z s r)
ready_7 store keys n l z s r = operand_ready format_built (codes "R") r 7 8 (rows_6 store keys n l z s) place_7 refl

ready_8 : (store keys n l z s r br : Text) → Ready format_built (pending_held (rows_7 store keys n l z s r) (codes "BR") br) (rows_8 store keys n l z s r br)
ready_8 store keys n l z s r br = operand_ready format_built (codes "BR") br 8 9 (rows_7 store keys n l z s r) place_8 refl

ready_9 : (store keys n l z s r br bw : Text) → Ready format_built (pending_held (rows_8 store keys n l z s r br) (codes "BW") bw) (rows_9 store keys n l z s r br bw)
ready_9 store keys n l z s r br bw = operand_ready format_built (codes "BW") bw 9 10 (rows_8 store keys n l z s r br) place_9 refl

ready_10 : (store keys n l z s r br bw e : Text) → Ready format_built (pending_held (rows_9 store keys n l z s r br bw) (codes "E") e) (rows_10 store keys n l z s r br bw e)
ready_10 store keys n l z s r br bw e = operand_ready format_built (codes "E") e 10 11 (rows_9 store keys n l z s r br bw) place_10 refl

ready_11 : (store keys n l z s r br bw e t : Text) → Ready format_built (pending_held (rows_10 store keys n l z s r br bw e) (codes "T") t) (rows_11 store keys n l z s r br bw e t)
ready_11 store keys n l z s r br bw e t = operand_ready format_built (codes "T") t 11 12 (rows_10 store keys n l z s r br bw e) place_11 refl

ready_0 : Ready format_built nothing_held rows_0
ready_0 = record { settles = refl; passes = refl }

operands_go : (store keys n l z s r br bw e t : Text) (rest : List Text) (end : Walk) → ArePlain (store ∷ keys ∷ n ∷ l ∷ z ∷ s ∷ r ∷ br ∷ bw ∷ e ∷ t ∷ [])
    → Goes format_built (at (pending_held (rows_10 store keys n l z s r br bw e) (codes "T") t) idle 12) rest end → Goes format_built (walk_from nothing_held) (store ∷ keys ∷ n ∷ l ∷ z ∷ s ∷ r ∷ br ∷ bw ∷ e ∷ t ∷ rest) end
operands_go store keys n l z s r br bw e t rest end plain goes =
    let g11 = operand_goes format_built (codes "T") t (pending_held (rows_9 store keys n l z s r br bw) (codes "E") e) 11 12 (rows_10 store keys n l z s r br bw e) (rest) end place_11 (ready_10 store keys n l z s r br bw e) refl plain.1.1.1.1.1.1.1.1.1.1.0 goes in
    let g10 = operand_goes format_built (codes "E") e (pending_held (rows_8 store keys n l z s r br) (codes "BW") bw) 10 11 (rows_9 store keys n l z s r br bw) (t ∷ rest) end place_10 (ready_9 store keys n l z s r br bw) refl plain.1.1.1.1.1.1.1.1.1.0 g11 in
    let g9 = operand_goes format_built (codes "BW") bw (pending_held (rows_7 store keys n l z s r) (codes "BR") br) 9 10 (rows_8 store keys n l z s r br) (e ∷ t ∷ rest) end place_9 (ready_8 store keys n l z s r br) refl plain.1.1.1.1.1.1.1.1.0 g10 in
    let g8 = operand_goes format_built (codes "BR") br (pending_held (rows_6 store keys n l z s) (codes "R") r) 8 9 (rows_7 store keys n l z s r) (bw ∷ e ∷ t ∷ rest) end place_8 (ready_7 store keys n l z s r) refl plain.1.1.1.1.1.1.1.0 g9 in
    let g7 = operand_goes format_built (codes "R") r (pending_held (rows_5 store keys n l z) (codes "S") s) 7 8 (rows_6 store keys n l z s) (br ∷ bw ∷ e ∷ t ∷ rest) end place_7 (ready_6 store keys n l z s) refl plain.1.1.1.1.1.1.0 g8 in
    let g6 = operand_goes format_built (codes "S") s (pending_held (rows_4 store keys n l) (codes "Z") z) 6 7 (rows_5 store keys n l z) (r ∷ br ∷ bw ∷ e ∷ t ∷ rest) end place_6 (ready_5 store keys n l z) refl plain.1.1.1.1.1.0 g7 in
    let g5 = operand_goes format_built (codes "Z") z (pending_held (rows_3 store keys n) (codes "L") l) 5 6 (rows_4 store keys n l) (s ∷ r ∷ br ∷ bw ∷ e ∷ t ∷ rest) end place_5 (ready_4 store keys n l) refl plain.1.1.1.1.0 g6 in
    let g4 = operand_goes format_built (codes "L") l (pending_held (rows_2 store keys) (codes "N") n) 4 5 (rows_3 store keys n) (z ∷ s ∷ r ∷ br ∷ bw ∷ e ∷ t ∷ rest) end place_4 (ready_3 store keys n) refl plain.1.1.1.0 g5 in
    let g3 = operand_goes format_built (codes "N") n (pending_held (rows_1 store) (codes "KEYS") keys) 3 4 (rows_2 store keys) (l ∷ z ∷ s ∷ r ∷ br ∷ bw ∷ e ∷ t ∷ rest) end place_3 (ready_2 store keys) refl plain.1.1.0 g4 in
    let g2 = operand_goes format_built (codes "KEYS") keys (pending_held rows_0 (codes "STORE") store) 2 3 (rows_1 store) (n ∷ l ∷ z ∷ s ∷ r ∷ br ∷ bw ∷ e ∷ t ∷ rest) end place_2 (ready_1 store) refl plain.1.0 g3 in
    operand_goes format_built (codes "STORE") store nothing_held 1 2 rows_0 (keys ∷ n ∷ l ∷ z ∷ s ∷ r ∷ br ∷ bw ∷ e ∷ t ∷ rest) end place_1 (ready_0) refl plain.0 g2

abbrev pub format_words : Text → Text → Text → Text → Text → Text → Text → Text → Text → Text → Text → List Choice → List Text
format_words store keys n l z s r br bw e t cs = store ∷ keys ∷ n ∷ l ∷ z ∷ s ∷ r ∷ br ∷ bw ∷ e ∷ t ∷ words_of cs

-- ---- the options: none, or one

abbrev trace_row : Text → Row
trace_row file = given_row (built_option (codes "trace")) (file ∷ [])

abbrev rows_of : List Choice → List Row
rows_of [] = []
rows_of (trace file ∷ cs) = trace_row file ∷ []
rows_of (_ ∷ cs) = []

module _ (store keys n l z s r br bw e t : Text) where
  abbrev plain_words : List Text
  plain_words = store ∷ keys ∷ n ∷ l ∷ z ∷ s ∷ r ∷ br ∷ bw ∷ e ∷ t ∷ []

  abbrev ended : List Row
  ended = rows_11 store keys n l z s r br bw e t

  abbrev pub format_end : List Choice → List Row
  format_end cs = ended ++ rows_of cs

  abbrev last_held : Held
  last_held = pending_held (rows_10 store keys n l z s r br bw e) (codes "T") t

  record Ends (cs : List Choice) : Type 0 where
    held : Held
    goes : Goes format_built (walk_from nothing_held) (format_words store keys n l z s r br bw e t cs) (at held idle 12)
    ready : Ready format_built held (format_end cs)

  choices_go : (cs : List Choice) → ArePlain plain_words → AreChoices cs → AreOfFormat cs → Ends cs
  choices_go [] plain fine only = record {
    held = last_held;
    goes = operands_go store keys n l z s r br bw e t [] (at last_held idle 12) plain (goes_none format_built (at last_held idle 12));
    ready = ready_11 store keys n l z s r br bw e t;
  }
  choices_go (trace file ∷ []) plain fine only =
      let end = pending_held ended (codes "trace") file in
      record {
        held = end;
        goes = operands_go store keys n l z s r br bw e t (codes "--trace" ∷ file ∷ []) (at end idle 12) plain
            (option_goes format_built (codes "trace") (codes "--trace") file last_held 12 ended [] (at end idle 12) format_trace (ready_11 store keys n l z s r br bw e t) fine.0 (goes_none format_built (at end idle 12)));
        ready = pending_ready format_built (codes "trace") (codes "--trace") file ended format_trace refl;
      }
  choices_go (trace file ∷ trace other ∷ cs) plain fine only = absurd (twice fine.1.0)
    where
      twice : true ≡ false → ⊥
      twice is = cc is
  choices_go (trace file ∷ lanes k ∷ cs) plain fine only = absurd only
  choices_go (trace file ∷ mirror copy ∷ cs) plain fine only = absurd only
  choices_go (trace file ∷ reads q ∷ cs) plain fine only = absurd only
  choices_go (trace file ∷ writes w ∷ cs) plain fine only = absurd only
  choices_go (trace file ∷ turns ∷ cs) plain fine only = absurd only
  choices_go (lanes k ∷ cs) plain fine only = absurd only
  choices_go (mirror file ∷ cs) plain fine only = absurd only
  choices_go (reads q ∷ cs) plain fine only = absurd only
  choices_go (writes w ∷ cs) plain fine only = absurd only
  choices_go (turns ∷ cs) plain fine only = absurd only

  format_defaults : (cs : List Choice) → defaults_fault (format_end cs) format_rules ≡ []
  unfolding clap_on_literals
  format_defaults [] = refl
  format_defaults (trace file ∷ cs) = refl
  format_defaults (lanes k ∷ cs) = refl
  format_defaults (mirror file ∷ cs) = refl
  format_defaults (reads q ∷ cs) = refl
  format_defaults (writes w ∷ cs) = refl
  format_defaults (turns ∷ cs) = refl

  format_checked : (cs : List Choice) → check_fault format_built (fold with_default (format_end cs) format_rules) false ≡ []
  format_checked [] = refl
  format_checked (trace file ∷ cs) = refl
  format_checked (lanes k ∷ cs) = refl
  format_checked (mirror file ∷ cs) = refl
  format_checked (reads q ∷ cs) = refl
  format_checked (writes w ∷ cs) = refl
  format_checked (turns ∷ cs) = refl

  format_finished : (cs : List Choice) → fold with_default (format_end cs) format_rules ≡ format_end cs
  format_finished [] = refl
  format_finished (trace file ∷ cs) = refl
  format_finished (lanes k ∷ cs) = refl
  format_finished (mirror file ∷ cs) = refl
  format_finished (reads q ∷ cs) = refl
  format_finished (writes w ∷ cs) = refl
  format_finished (turns ∷ cs) = refl

  pub format_trace_read : (cs : List Choice) → AreOfFormat cs → first_of (codes "trace") (format_end cs) ≡ trace_in cs
  format_trace_read [] only = refl
  format_trace_read (trace file ∷ cs) only = refl
  format_trace_read (lanes k ∷ cs) only = absurd only
  format_trace_read (mirror file ∷ cs) only = absurd only
  format_trace_read (reads q ∷ cs) only = absurd only
  format_trace_read (writes w ∷ cs) only = absurd only
  format_trace_read (turns ∷ cs) only = absurd only

  -- the operands stand in front, whatever the options are
  pub format_asks : (cs : List Choice) → asked_command (codes "format") (format_end cs)
      ≡ Some (format_asked store keys (n ∷ l ∷ z ∷ s ∷ r ∷ br ∷ bw ∷ e ∷ t ∷ []) (first_of (codes "trace") (format_end cs)))
  format_asks cs = refl

  pub format_passes : (cs : List Choice) → ArePlain plain_words → AreChoices cs → AreOfFormat cs
      → level_fault format_built [] nothing_held (format_words store keys n l z s r br bw e t cs) false [] ≡ []
  format_passes cs plain fine only =
      let ends = choices_go cs plain fine only in
      level_is format_built (format_words store keys n l z s r br bw e t cs) ends.held (format_end cs) 12 refl ends.goes ends.ready
      ∙ ap (λ k. or_else k (check_fault format_built (fold with_default (format_end cs) format_rules) false)) (format_defaults cs)
      ∙ format_checked cs

  pub format_reads : (cs : List Choice) → ArePlain plain_words → AreChoices cs → AreOfFormat cs
      → rows_after format_rules [] (format_words store keys n l z s r br bw e t cs) ≡ format_end cs
  format_reads cs plain fine only =
      let ends = choices_go cs plain fine only in
      rows_are format_built (format_words store keys n l z s r br bw e t cs) ends.held (format_end cs) 12 ends.goes ends.ready ∙ format_finished cs
