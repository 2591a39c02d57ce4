-- Walks that pass, word by word.
use Rattle.std.proofs.Common.{◌≡◌, ◌+◌, ◌&&◌, if◌then◌else◌, min, ℕ, Bool, true, false, List, [], ◌∷◌, ◌++◌, Some, None, refl, ap, ap₂, ◌∙◌, codes}
use Rattle.std.specs.Option.{option_map_or}
use Rattle.clap.specs.Lexer.{usize_max}
use Rattle.std.proofs.lemmas.List.{append-nil}
use Rattle.std.specs.Str.{bytes_eq}
use Rattle.std.specs.List.{fold}
use Rattle.clap.specs.Walk.{Held, Row, Rule, Text, Walk, arg_by_id, arg_by_index, has_row, idle, is_pending, option, pushed, settled, takes_several, to_positional, used, walked}
use Rattle.clap.specs.Simple.{Shape}
use Rattle.clap.specs.Kinds.{or_else}
use Rattle.clap.specs.Faults.{positional_fault, settle_fault, stray_fault, turn_fault, use_fault, walk_fault}
use Rattle.clap.proofs.OnLiterals.{clap_on_literals}
use Rattle.ob_word_forms.specs.Forms.{IsPlain}
use Rattle.ob_words.proofs.Built.{built_option, format_built, operand_at, run_built}
use Rattle.ob_word_forms.proofs.Rows.{at_row-absent, given_row}
use Rattle.ob_word_forms.proofs.PlainWords.{at, plain_turn-idle, plain_turn-option, plain_walked-idle, plain_walked-option}

pub record Goes (s : Shape) (w : Walk) (words : List Text) (end : Walk) : Type 0 where
  pub fault : walk_fault s [] w words ≡ []
  pub walk : fold (walked s.rules []) w words ≡ end

pub goes_none : (s : Shape) (w : Walk) → Goes s w [] w
unfolding walk_fault
goes_none s w = record { fault = refl; walk = refl }

pub goes_more : (s : Shape) (w v u : Walk) (x : Text) (xs : List Text) → turn_fault s [] w x ≡ [] → walked s.rules [] w x ≡ v
    → Goes s v xs u → Goes s w (x ∷ xs) u
unfolding walk_fault
goes_more s w v u x xs turn step rest = record {
  fault = ap (λ k. or_else k (walk_fault s [] (walked s.rules [] w x) xs)) turn
      ∙ ap (λ z. walk_fault s [] z xs) step ∙ rest.fault;
  walk = ap (λ z. fold (walked s.rules []) z xs) step ∙ rest.walk;
}

-- nothing is pending, and these are the rows
abbrev pub plain_held : List Row → Held
plain_held rows = record { rows = rows; pending = None; skip = 0 }

-- one value is pending
abbrev pub pending_held : List Row → Text → Text → Held
pending_held rows id word = record { rows = rows; pending = Some (id, word ∷ []); skip = 0 }

-- what is pending passes, and these are the rows then
pub record Ready (s : Shape) (h : Held) (rows : List Row) : Type 0 where
  pub settles : settled s.rules h ≡ plain_held rows
  pub passes : settle_fault s.rules false h ≡ []

-- `word` is `--id`, which takes one value
pub record IsValueOption (s : Shape) (id word : Text) : Type 0 where
  pub found : arg_by_id s.rules id ≡ Some (built_option id)
  pub same : bytes_eq id id ≡ true
  pub walk : (h : Held) (i : ℕ) → walked s.rules [] (at h idle i) word
      ≡ at (record (settled s.rules h) { pending = Some (id, []) }) (option id) i
  pub turn : (h : Held) (i : ℕ) → turn_fault s [] (at h idle i) word ≡ or_else (settle_fault s.rules false h) []

pub run_lanes : IsValueOption run_built (codes "lanes") (codes "--lanes")
unfolding clap_on_literals
run_lanes = record { found = refl; same = refl; walk = λ h i. refl; turn = λ h i. refl }

pub run_mirror : IsValueOption run_built (codes "mirror") (codes "--mirror")
unfolding clap_on_literals
run_mirror = record { found = refl; same = refl; walk = λ h i. refl; turn = λ h i. refl }

pub run_reads_option : IsValueOption run_built (codes "reads") (codes "--reads")
unfolding clap_on_literals
run_reads_option = record { found = refl; same = refl; walk = λ h i. refl; turn = λ h i. refl }

pub run_writes_option : IsValueOption run_built (codes "writes") (codes "--writes")
unfolding clap_on_literals
run_writes_option = record { found = refl; same = refl; walk = λ h i. refl; turn = λ h i. refl }

pub run_trace : IsValueOption run_built (codes "trace") (codes "--trace")
unfolding clap_on_literals
run_trace = record { found = refl; same = refl; walk = λ h i. refl; turn = λ h i. refl }

pub format_trace : IsValueOption format_built (codes "trace") (codes "--trace")
unfolding clap_on_literals
format_trace = record { found = refl; same = refl; walk = λ h i. refl; turn = λ h i. refl }

-- a use of an option by one value, where it has no row yet
used_once : (id word : Text) (rows : List Row) → has_row id rows ≡ false
    → used (built_option id) (word ∷ []) rows ≡ rows ++ given_row (built_option id) (word ∷ []) ∷ []
used_once id word rows absent =
    let first = at_row-absent id (λ _. []) [] rows absent ∙ append-nil rows in
    rw (first, at_row-absent id _ _ rows absent) refl

passes_once : (id word : Text) (rows : List Row) → has_row id rows ≡ false → use_fault false (built_option id) (word ∷ []) rows ≡ []
passes_once id word rows absent = rw absent refl

pub pending_ready : (s : Shape) (id word text : Text) (rows : List Row) → IsValueOption s id word → has_row id rows ≡ false
    → Ready s (pending_held rows id text) (rows ++ given_row (built_option id) (text ∷ []) ∷ [])
pending_ready s id word text rows is absent = record {
  settles = rw is.found (rw (used_once id text rows absent) refl);
  passes = rw is.found (passes_once id text rows absent);
}

-- `--id` and a plain word after it
pub option_goes : (s : Shape) (id word text : Text) (h : Held) (i : ℕ) (rows : List Row) (rest : List Text) (end : Walk) → IsValueOption s id word
    → Ready s h rows → IsPlain text → Goes s (at (pending_held rows id text) idle i) rest end
    → Goes s (at h idle i) (word ∷ text ∷ rest) end
option_goes s id word text h i rows rest end is ready plain goes =
    let started = record (plain_held rows) { pending = Some (id, []) } in
    let turn : turn_fault s [] (at h idle i) word ≡ [] = is.turn h i ∙ ap (λ k. or_else k []) ready.passes in
    let step : walked s.rules [] (at h idle i) word ≡ at started (option id) i =
    is.walk h i ∙ ap (λ (x : Held). at (record x { pending = Some (id, []) }) (option id) i) ready.settles in
    let valued : walked s.rules [] (at started (option id) i) text ≡ at (pending_held rows id text) idle i =
    plain_walked-option s.rules i id text started plain ∙ rw (is.found, is.same) refl in
    goes_more s _ _ end word (text ∷ rest) turn step
    (goes_more s _ _ end text rest (plain_turn-option s i id text started plain) valued goes)

-- ---- an operand

pub record IsOperand (s : Shape) (id : Text) (i j : ℕ) : Type 0 where
  pub again : s.args_override_self ≡ false
  pub at_place : arg_by_index s.rules i ≡ Some (operand_at i id)
  pub found : arg_by_id s.rules id ≡ Some (operand_at i id)
  pub next : min (i + 1) usize_max ≡ j

operand_once : (id word : Text) (i : ℕ) (rows : List Row) → has_row id rows ≡ false
    → used (operand_at i id) (word ∷ []) rows ≡ rows ++ given_row (operand_at i id) (word ∷ []) ∷ []
operand_once id word i rows absent =
    let first = at_row-absent id (λ _. []) [] rows absent ∙ append-nil rows in
    rw (first, at_row-absent id _ _ rows absent) refl

operand_passes : (id word : Text) (i : ℕ) (rows : List Row) → has_row id rows ≡ false → use_fault false (operand_at i id) (word ∷ []) rows ≡ []
operand_passes id word i rows absent = rw absent refl

pub operand_ready : (s : Shape) (id text : Text) (i j : ℕ) (rows : List Row) → IsOperand s id i j → has_row id rows ≡ false
    → Ready s (pending_held rows id text) (rows ++ given_row (operand_at i id) (text ∷ []) ∷ [])
operand_ready s id text i j rows is absent = record {
  settles = rw is.found (rw (operand_once id text i rows absent) refl);
  passes = rw is.found (operand_passes id text i rows absent);
}

-- how a plain word is walked where an operand is wanted
pub operand_walked : (s : Shape) (id text : Text) (h : Held) (i j : ℕ) (rows : List Row) → IsOperand s id i j
    → Ready s h rows → is_pending (operand_at i id) h.pending ≡ false → IsPlain text → walked s.rules [] (at h idle i) text ≡ at (pending_held rows id text) idle j
operand_walked s id text h i j rows is ready other plain =
    let a : Rule = operand_at i id in
    plain_walked-idle s.rules i text h plain
    ∙ ap (λ o. to_positional s.rules o text (at h idle i) h) is.at_place
    ∙ ap (λ (b : Bool). at (pushed id text (if b && takes_several a then h else settled s.rules h)) idle (min (i + 1) usize_max)) other
    ∙ ap₂ (λ (x : Held) (k : ℕ). at (pushed id text x) idle k) ready.settles is.next

-- a plain word where an operand is wanted
pub operand_goes : (s : Shape) (id text : Text) (h : Held) (i j : ℕ) (rows : List Row) (rest : List Text) (end : Walk) → IsOperand s id i j
    → Ready s h rows → is_pending (operand_at i id) h.pending ≡ false → IsPlain text
    → Goes s (at (pending_held rows id text) idle j) rest end → Goes s (at h idle i) (text ∷ rest) end
operand_goes s id text h i j rows rest end is ready other plain goes =
    let a : Rule = operand_at i id in
    let turn : turn_fault s [] (at h idle i) text ≡ [] =
    plain_turn-idle s i text h plain
    ∙ ap (λ o. option_map_or (λ x. positional_fault s.rules s.args_override_self x h) o (stray_fault s)) is.at_place
    ∙ ap (λ (b : Bool). if b && takes_several a then [] else settle_fault s.rules s.args_override_self h) other
    ∙ ap (λ (b : Bool). settle_fault s.rules b h) is.again ∙ ready.passes in
    goes_more s _ _ end text rest turn (operand_walked s id text h i j rows is ready other plain) goes
