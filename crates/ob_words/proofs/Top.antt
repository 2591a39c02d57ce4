-- What the first word comes to.
use Rattle.std.proofs.Common.{◌≡◌, ℕ, Bool, true, false, List, [], ◌∷◌, ◌++◌, Option, Some, None, is_some, refl, ap, ap₂, sym, ◌∙◌, codes, append_assoc}
use Rattle.std.proofs.lemmas.List.{append-nil}
use Rattle.std.specs.Str.{bytes_eq, chars}
use Rattle.std.specs.List.{fold}
use Rattle.std.specs.Prelude.{find, length, slice_get, zero, suc}
use Rattle.clap.specs.Lexer.{long_of, short_of}
use Rattle.std.specs.Option.{option_map_or}
use Rattle.clap.specs.Walk.{after_flag, answers_to, bundle_met, bundle_step, long_or_other, long_word, plain, short_or_plain, Step, Held, Names, Rule, Text, Walk, finished, idle, nothing_held, rows_after, settled, stop_after, walk, walk_from, walked}
use Rattle.clap.specs.Simple.{App, entered, names_of, subcommand_of}
use Rattle.clap.specs.Kinds.{Kinds, or_else}
use Rattle.clap.specs.Faults.{built_fault, check_fault, defaults_fault, entered_fault, fault_of, bundle_fault, bundle_step_fault, flag_word_fault, flags_fault, level_fault, settle_fault, step_fault, turn_fault, walk_fault}
use Rattle.clap.proofs.FaultLemmas.{stopped_fault}
use Rattle.clap.proofs.OnLiterals.{clap_on_literals}
use Rattle.ob_words.specs.Commands.{program}
use Rattle.ob_words.proofs.Built.{audit_built, drill_built, format_built, is_built, program_built, run_built, top_built}

-- the words after the command's name are kept for it
stays : (c : List Rule) (names : Names) (w : Walk) (name : Text) (had words : List Text)
    → fold (walked c names) (record w { stopped = Some (name, had) }) words ≡ record w { stopped = Some (name, had ++ words) }
unfolding walked
stays c names w name had [] = ap (λ (x : List Text). record w { stopped = Some (name, x) }) (sym (append-nil had))
stays c names w name had (x ∷ xs) =
    stays c names w name (had ++ x ∷ []) xs
    ∙ ap (λ (y : List Text). record w { stopped = Some (name, y) }) (append_assoc had (x ∷ []) xs)

-- where the walk stops at a command's name
abbrev stopped_at : Text → List Text → Walk
stopped_at name words = record (walk_from nothing_held) { stopped = Some (name, words) }

format_stops : (rest : List Text) → walk [] (names_of program_built) nothing_held (codes "format" ∷ rest) ≡ stopped_at (codes "format") rest
unfolding clap_on_literals
format_stops rest = stays [] (names_of program_built) (walk_from nothing_held) (codes "format") [] rest

format_turn : (rest : List Text) → walk_fault top_built (names_of program_built) (walk_from nothing_held) (codes "format" ∷ rest) ≡ []
unfolding clap_on_literals
format_turn rest = stopped_fault top_built (names_of program_built) (walk_from nothing_held) (codes "format", []) rest

run_stops : (rest : List Text) → walk [] (names_of program_built) nothing_held (codes "run" ∷ rest) ≡ stopped_at (codes "run") rest
unfolding clap_on_literals
run_stops rest = stays [] (names_of program_built) (walk_from nothing_held) (codes "run") [] rest

run_turn : (rest : List Text) → walk_fault top_built (names_of program_built) (walk_from nothing_held) (codes "run" ∷ rest) ≡ []
unfolding clap_on_literals
run_turn rest = stopped_fault top_built (names_of program_built) (walk_from nothing_held) (codes "run", []) rest

audit_stops : (rest : List Text) → walk [] (names_of program_built) nothing_held (codes "audit" ∷ rest) ≡ stopped_at (codes "audit") rest
unfolding clap_on_literals
audit_stops rest = stays [] (names_of program_built) (walk_from nothing_held) (codes "audit") [] rest

audit_turn : (rest : List Text) → walk_fault top_built (names_of program_built) (walk_from nothing_held) (codes "audit" ∷ rest) ≡ []
unfolding clap_on_literals
audit_turn rest = stopped_fault top_built (names_of program_built) (walk_from nothing_held) (codes "audit", []) rest

drill_stops : (rest : List Text) → walk [] (names_of program_built) nothing_held (codes "drill" ∷ rest) ≡ stopped_at (codes "drill") rest
unfolding clap_on_literals
drill_stops rest = stays [] (names_of program_built) (walk_from nothing_held) (codes "drill") [] rest

drill_turn : (rest : List Text) → walk_fault top_built (names_of program_built) (walk_from nothing_held) (codes "drill" ∷ rest) ≡ []
unfolding clap_on_literals
drill_turn rest = stopped_fault top_built (names_of program_built) (walk_from nothing_held) (codes "drill", []) rest

-- the top level, from its walk
abbrev top_fault : Kinds → Walk → Kinds
top_fault turns w = or_else turns (or_else (entered_fault program_built w.stopped) (or_else (settle_fault [] false w.held)
    (or_else (defaults_fault (settled [] w.held).rows []) (check_fault top_built (finished [] w.held) (is_some (entered program_built w.stopped))))))

top_is : (words : List Text) → fault_of program words
    ≡ top_fault (walk_fault top_built (names_of program_built) (walk_from nothing_held) words) (walk [] (names_of program_built) nothing_held words)
top_is words = ap (λ (a : App). built_fault a nothing_held words) is_built

format_after : (rest : List Text) → top_fault [] (stopped_at (codes "format") rest) ≡ or_else (level_fault format_built [] nothing_held rest false []) []
unfolding clap_on_literals
format_after rest = refl

pub format_fault : (rest : List Text) → fault_of program (codes "format" ∷ rest) ≡ or_else (level_fault format_built [] nothing_held rest false []) []
format_fault rest = top_is (codes "format" ∷ rest) ∙ ap₂ top_fault (format_turn rest) (format_stops rest) ∙ format_after rest

pub format_subcommand : (rest : List Text) → subcommand_of program (codes "format" ∷ rest) ≡ Some (codes "format", rows_after format_built.rules [] rest)
format_subcommand rest =
    ap (λ (a : App). entered a (stop_after a.top.rules (names_of a) (codes "format" ∷ rest))) is_built
    ∙ ap (λ (w : Walk). entered program_built w.stopped) (format_stops rest)

run_after : (rest : List Text) → top_fault [] (stopped_at (codes "run") rest) ≡ or_else (level_fault run_built [] nothing_held rest false []) []
unfolding clap_on_literals
run_after rest = refl

pub run_fault : (rest : List Text) → fault_of program (codes "run" ∷ rest) ≡ or_else (level_fault run_built [] nothing_held rest false []) []
run_fault rest = top_is (codes "run" ∷ rest) ∙ ap₂ top_fault (run_turn rest) (run_stops rest) ∙ run_after rest

pub run_subcommand : (rest : List Text) → subcommand_of program (codes "run" ∷ rest) ≡ Some (codes "run", rows_after run_built.rules [] rest)
run_subcommand rest =
    ap (λ (a : App). entered a (stop_after a.top.rules (names_of a) (codes "run" ∷ rest))) is_built
    ∙ ap (λ (w : Walk). entered program_built w.stopped) (run_stops rest)

audit_after : (rest : List Text) → top_fault [] (stopped_at (codes "audit") rest) ≡ or_else (level_fault audit_built [] nothing_held rest false []) []
unfolding clap_on_literals
audit_after rest = refl

pub audit_fault : (rest : List Text) → fault_of program (codes "audit" ∷ rest) ≡ or_else (level_fault audit_built [] nothing_held rest false []) []
audit_fault rest = top_is (codes "audit" ∷ rest) ∙ ap₂ top_fault (audit_turn rest) (audit_stops rest) ∙ audit_after rest

pub audit_subcommand : (rest : List Text) → subcommand_of program (codes "audit" ∷ rest) ≡ Some (codes "audit", rows_after audit_built.rules [] rest)
audit_subcommand rest =
    ap (λ (a : App). entered a (stop_after a.top.rules (names_of a) (codes "audit" ∷ rest))) is_built
    ∙ ap (λ (w : Walk). entered program_built w.stopped) (audit_stops rest)

drill_after : (rest : List Text) → top_fault [] (stopped_at (codes "drill") rest) ≡ or_else (level_fault drill_built [] nothing_held rest false []) []
unfolding clap_on_literals
drill_after rest = refl

pub drill_fault : (rest : List Text) → fault_of program (codes "drill" ∷ rest) ≡ or_else (level_fault drill_built [] nothing_held rest false []) []
drill_fault rest = top_is (codes "drill" ∷ rest) ∙ ap₂ top_fault (drill_turn rest) (drill_stops rest) ∙ drill_after rest

pub drill_subcommand : (rest : List Text) → subcommand_of program (codes "drill" ∷ rest) ≡ Some (codes "drill", rows_after drill_built.rules [] rest)
drill_subcommand rest =
    ap (λ (a : App). entered a (stop_after a.top.rules (names_of a) (codes "drill" ∷ rest))) is_built
    ∙ ap (λ (w : Walk). entered program_built w.stopped) (drill_stops rest)

-- ---- words that name no command

empty_first : (a b : Kinds) → or_else a b ≡ [] → a ≡ []
empty_first [] b e = refl
empty_first (k ∷ ks) b e = cc

empty_next : (a b : Kinds) → or_else a b ≡ [] → b ≡ []
empty_next [] b e = e
empty_next (k ∷ ks) b e = cc

-- no command answers to the word
abbrev pub IsNoCommand : Text → Type 0
IsNoCommand word = find (answers_to word) (names_of program_built) ≡ None

abbrev start : Walk
start = walk_from nothing_held

-- the two parts of the first word's turn, by what the word looks like
abbrev flags_part : Option (Text × Option Text) → Option Text → Text → Kinds
flags_part (Some p) flags word = flag_word_fault [] false (Some p) word nothing_held
flags_part None flags word = option_map_or (λ f. bundle_fault [] false f nothing_held) flags []

abbrev met_part : Option (Text × Option Text) → Option Text → Text → Held × Step
met_part (Some p) flags word = long_word [] idle word p.0 p.1 nothing_held
met_part None flags word = short_or_plain [] idle word flags nothing_held

flags_are : (l : Option (Text × Option Text)) (word : Text) → flag_word_fault [] false l word nothing_held ≡ flags_part l (short_of word) word
flags_are (Some p) word = refl
flags_are None word = refl

met_is : (l : Option (Text × Option Text)) (word : Text) → long_or_other [] idle word l nothing_held ≡ met_part l (short_of word) word
met_is (Some p) word = refl
met_is None word = refl

abbrev first_fault : Kinds → Held × Step → Kinds
first_fault flags met = or_else flags (step_fault top_built 1 met.0 met.1)

first_char_fails : (o : Option ℕ) (flags word : Text) (k : ℕ)
    → first_fault (bundle_step_fault [] false o flags 0 nothing_held (flags_fault [] false k))
    (after_flag [] idle word (bundle_step [] o flags 0 plain nothing_held (bundle_met [] k)).0 (bundle_step [] o flags 0 plain nothing_held (bundle_met [] k)).1) ≡ [] → ⊥
first_char_fails (Some x) flags word k e = cc
first_char_fails None flags word k e = cc

bundle_fails : (n : ℕ) (flags word : Text)
    → first_fault (flags_fault [] false n flags 0 nothing_held)
    (after_flag [] idle word (bundle_met [] n flags 0 plain nothing_held).0 (bundle_met [] n flags 0 plain nothing_held).1) ≡ [] → ⊥
unfolding flags_fault bundle_met
bundle_fails zero flags word e = cc
bundle_fails (suc k) flags word e = first_char_fails (slice_get (chars flags) 0) flags word k e

parts_fail : (l : Option (Text × Option Text)) (flags : Option Text) (word : Text) → first_fault (flags_part l flags word) (met_part l flags word) ≡ [] → ⊥
parts_fail (Some p) flags word e = cc
parts_fail None None word e = cc
parts_fail None (Some flags) word e = bundle_fails (length flags) flags word e

-- the first word's turn fails, but for `--`
turn_fails : (word : Text) → IsNoCommand word → bytes_eq word (45 ∷ 45 ∷ []) ≡ false
    → turn_fault top_built (names_of program_built) start word ≡ [] → ⊥
turn_fails word none dash e =
    let parts = rw (none, dash) at e in
    parts_fail (long_of word) (short_of word) word (sym (ap₂ first_fault (flags_are (long_of word) word) (met_is (long_of word) word)) ∙ parts)

-- after `--` no command is met, and a word is one too many
abbrev trailing_walk : Walk
trailing_walk = record start { is_trailing = true }

dashes_walk : (word : Text) → IsNoCommand word → bytes_eq word (45 ∷ 45 ∷ []) ≡ true → walked [] (names_of program_built) start word ≡ trailing_walk
unfolding walked
dashes_walk word none dash = rw (none, dash) refl

dashes_alone : (k : Kinds) → top_fault k trailing_walk ≡ [] → ⊥
unfolding clap_on_literals
dashes_alone k e = let missing = empty_next k _ e in cc

trailing_fails : (word : Text) → turn_fault top_built (names_of program_built) trailing_walk word ≡ [] → ⊥
trailing_fails word e = cc

walk_next : (word : Text) (rest : List Text) → walk_fault top_built (names_of program_built) start (word ∷ rest)
    ≡ or_else (turn_fault top_built (names_of program_built) start word)
    (walk_fault top_built (names_of program_built) (walked [] (names_of program_built) start word) rest)
unfolding walk_fault
walk_next word rest = refl

second_fails : (word : Text) (rest : List Text) → walk_fault top_built (names_of program_built) trailing_walk (word ∷ rest) ≡ [] → ⊥
unfolding walk_fault
second_fails word rest e =
    trailing_fails word (empty_first _ (walk_fault top_built (names_of program_built) (walked [] (names_of program_built) trailing_walk word) rest) e)

dashes_fail : (word : Text) (rest : List Text) → IsNoCommand word → bytes_eq word (45 ∷ 45 ∷ []) ≡ true
    → fault_of program (word ∷ rest) ≡ [] → ⊥
dashes_fail word [] none dash e =
    let top = sym (top_is (word ∷ [])) ∙ e in
    dashes_alone _ (rw (dashes_walk word none dash) at top)
dashes_fail word (y ∷ ys) none dash e =
    let top = sym (top_is (word ∷ y ∷ ys)) ∙ e in
    let walks = sym (walk_next word (y ∷ ys)) ∙ empty_first _ _ top in
    let later = empty_next (turn_fault top_built (names_of program_built) start word) _ walks in
    second_fails y ys (ap (λ (w : Walk). walk_fault top_built (names_of program_built) w (y ∷ ys)) (sym (dashes_walk word none dash)) ∙ later)

by_dashes : (word : Text) (rest : List Text) (t : Bool) → bytes_eq word (45 ∷ 45 ∷ []) ≡ t → IsNoCommand word → fault_of program (word ∷ rest) ≡ [] → ⊥
by_dashes word rest true dash none e = dashes_fail word rest none dash e
by_dashes word rest false dash none e =
    let top = sym (top_is (word ∷ rest)) ∙ e in
    turn_fails word none dash (empty_first _ _ (sym (walk_next word rest) ∙ empty_first _ _ top))

pub no_command_fails : (word : Text) (rest : List Text) → IsNoCommand word → fault_of program (word ∷ rest) ≡ [] → ⊥
no_command_fails word rest none e = by_dashes word rest (bytes_eq word (45 ∷ 45 ∷ [])) refl none e

no_words_at : top_fault [] start ≡ [] → ⊥
unfolding clap_on_literals
no_words_at e = cc

no_words_walk : walk_fault top_built (names_of program_built) start [] ≡ []
unfolding walk_fault
no_words_walk = refl

pub no_words_fail : fault_of program [] ≡ [] → ⊥
no_words_fail e = no_words_at (ap (λ k. top_fault k start) (sym no_words_walk) ∙ (sym (top_is []) ∙ e))
