-- The forms are read as they say, and what is too short or names no command is refused.
use Rattle.std.proofs.Common.{◌≡◌, ◌≢◌, ◌<◌, Bool, true, false, List, [], ◌∷◌, map, length, Option, Some, None, refl, inl, inr, ap, ap₂, sym, ◌∙◌, codes, arith}
use Rattle.std.specs.Prelude.{option_and_then, unwrap_or}
use Rattle.std.specs.Str.{bytes_eq}
use Rattle.std.proofs.lemmas.Slice.Eq.{bytes_eq-Decides}
use Rattle.clap.specs.Walk.{Row, Text, Walk, first_of, idle, nothing_held, walk_from, walked}
use Rattle.clap.specs.Kinds.{Kinds, or_else}
use Rattle.clap.specs.Faults.{fault_of, level_fault, stray_fault, turn_fault, walk_fault}
use Rattle.clap.specs.Simple.{Shape}
use Rattle.clap.proofs.OnLiterals.{clap_on_literals}
use Rattle.ob_words.specs.Commands.{program}
use Rattle.ob_word_forms.specs.Forms.{Choice, AreChoices, AreOfFormat, ArePlain, IsPlain, IsNoName, lanes_in, mirror_in, reads_in, writes_in, trace_in, turns_in}
use Rattle.ob_words.specs.Reading.{Asked, AskedShares, asked_at_all, asked_command, asked_by, text_at, shares_asked, run_asked, format_asked, audit_asked, drill_asked}
use Rattle.ob_words.proofs.Built.{run_built, format_built, audit_built, drill_built}
use Rattle.ob_word_forms.proofs.Few.{few_fail}
use Rattle.ob_word_forms.proofs.PlainWords.{at, plain_turn-idle}
use Rattle.ob_word_forms.proofs.Run.{choice_row, flag_text, run_end, run_keys, run_lanes_read, run_mirror_read, run_passes, run_reads, run_reads_read, run_store, run_trace_read, run_writes_read, run_turns_text, run_words}
use Rattle.ob_word_forms.proofs.Drill.{count_walked, counted, drill_passes, drill_reads}
use Rattle.ob_word_forms.proofs.Format.{format_asks, format_end, format_passes, format_reads, format_trace_read, format_words}
use Rattle.ob_words.proofs.Passed.{read_is, refused_is}
use Rattle.ob_words.proofs.Top.{IsNoCommand, no_command_fails, no_words_fail, format_fault, format_subcommand, run_fault, run_subcommand, audit_fault, audit_subcommand, drill_fault, drill_subcommand}

abbrev reads_by : Option (Text × List Row) → Option Asked
reads_by o = option_and_then (λ p. asked_command p.0 p.1) o

is_true : (t : Bool) → bytes_eq (flag_text t) (codes "true") ≡ t
is_true true = refl
is_true false = refl

-- what is read of `run`
run_is_read : (store keys : Text) (cs : List Choice) → IsPlain store → IsPlain keys → AreChoices cs
    → asked_at_all (codes "run" ∷ run_words store keys cs)
    ≡ Some (run_asked store keys (lanes_in cs) (turns_in cs) (trace_in cs) (mirror_in cs) (shares_asked (reads_in cs) (writes_in cs)))
run_is_read store keys cs ps pk fine =
    let rest = run_words store keys cs in
    let rows = run_end store keys (map choice_row cs) in
    let read = ap reads_by (run_subcommand rest) ∙ ap (λ r. asked_command (codes "run") r) (run_reads store keys cs ps pk fine) in
    let flag : bytes_eq (text_at (codes "turns") rows) (codes "true") ≡ turns_in cs =
    ap (λ o. bytes_eq (unwrap_or o []) (codes "true")) (run_turns_text store keys cs (turns_in cs) refl) ∙ is_true (turns_in cs) in
    let copy : Option Text = first_of (codes "mirror") rows in
    let limits : AskedShares = shares_asked (first_of (codes "reads") rows) (first_of (codes "writes") rows) in
    let one = ap (λ o. run_asked (unwrap_or o []) (text_at (codes "KEYS") rows) (first_of (codes "lanes") rows)
    (bytes_eq (text_at (codes "turns") rows) (codes "true")) (first_of (codes "trace") rows) copy limits) (run_store store keys (map choice_row cs) _ refl) in
    let two = ap (λ o. run_asked store (unwrap_or o []) (first_of (codes "lanes") rows)
    (bytes_eq (text_at (codes "turns") rows) (codes "true")) (first_of (codes "trace") rows) copy limits) (run_keys store keys (map choice_row cs) _ refl) in
    let three = ap₂ (λ (o : Option Text) (b : Bool). run_asked store keys o b (first_of (codes "trace") rows) copy limits) (run_lanes_read store keys cs _ refl) flag in
    let four = ap₂ (λ (o p : Option Text). run_asked store keys (lanes_in cs) (turns_in cs) o p limits) (run_trace_read store keys cs _ refl) (run_mirror_read store keys cs _ refl) in
    let five = ap₂ (λ (q w : Option Text). run_asked store keys (lanes_in cs) (turns_in cs) (trace_in cs) (mirror_in cs) (shares_asked q w)) (run_reads_read store keys cs _ refl) (run_writes_read store keys cs _ refl) in
    read ∙ ap (λ (a : Asked). Some a) (one ∙ two ∙ three ∙ four ∙ five)

pub run_law : (store keys : Text) (cs : List Choice) → IsPlain store → IsPlain keys → AreChoices cs
    → asked_by (codes "run" ∷ run_words store keys cs) ≡ Some (run_asked store keys (lanes_in cs) (turns_in cs) (trace_in cs) (mirror_in cs) (shares_asked (reads_in cs) (writes_in cs)))
run_law store keys cs ps pk fine =
    let rest = run_words store keys cs in
    let none = run_fault rest ∙ ap (λ k. or_else k []) (run_passes store keys cs ps pk fine) in
    read_is (codes "run" ∷ rest) _ none (run_is_read store keys cs ps pk fine)

pub format_law : (store keys n l z s r br bw e t : Text) (cs : List Choice) → ArePlain (store ∷ keys ∷ n ∷ l ∷ z ∷ s ∷ r ∷ br ∷ bw ∷ e ∷ t ∷ []) → AreChoices cs → AreOfFormat cs
    → asked_by (codes "format" ∷ format_words store keys n l z s r br bw e t cs) ≡ Some (format_asked store keys (n ∷ l ∷ z ∷ s ∷ r ∷ br ∷ bw ∷ e ∷ t ∷ []) (trace_in cs))
format_law store keys n l z s r br bw e t cs plain fine only =
    let rest = format_words store keys n l z s r br bw e t cs in
    let rows = format_end store keys n l z s r br bw e t cs in
    read_is (codes "format" ∷ rest) _
    (format_fault rest ∙ ap (λ k. or_else k []) (format_passes store keys n l z s r br bw e t cs plain fine only))
    (ap reads_by (format_subcommand rest) ∙ ap (λ x. asked_command (codes "format") x) (format_reads store keys n l z s r br bw e t cs plain fine only)
    ∙ format_asks store keys n l z s r br bw e t cs
    ∙ ap (λ (o : Option Text). Some (format_asked store keys (n ∷ l ∷ z ∷ s ∷ r ∷ br ∷ bw ∷ e ∷ t ∷ []) o)) (format_trace_read store keys n l z s r br bw e t cs only))

-- nothing is wanted behind `audit`
audit_passes : level_fault audit_built [] nothing_held [] false [] ≡ []
unfolding clap_on_literals
audit_passes = refl

pub audit_law : asked_by (codes "audit" ∷ []) ≡ Some audit_asked
audit_law = read_is (codes "audit" ∷ []) _
    (audit_fault [] ∙ ap (λ k. or_else k []) audit_passes)
    (ap reads_by (audit_subcommand []))

pub drill_law : (count : Text) → IsPlain count → asked_by (codes "drill" ∷ count ∷ []) ≡ Some (drill_asked count)
drill_law count plain = read_is (codes "drill" ∷ count ∷ []) _
    (drill_fault (count ∷ []) ∙ ap (λ k. or_else k []) (drill_passes count plain))
    (ap reads_by (drill_subcommand (count ∷ [])) ∙ ap (λ r. asked_command (codes "drill") r) (drill_reads count plain))

empty_left : (a b : Kinds) → or_else a b ≡ [] → a ≡ []
empty_left [] b e = refl
empty_left (k ∷ ks) b e = cc

run_fails : (rest : List Text) → length rest < 2 → fault_of program (codes "run" ∷ rest) ≡ [] → ⊥
run_fails rest few e = few_fail run_built (codes "KEYS") 2 rest (inl refl, (inr (refl, refl), (inl refl, (inl refl, (inl refl, (inl refl, (inl refl, (inl refl, tt)))))))) (λ x. refl)
    (inr (inl (refl, refl))) refl few (empty_left _ [] (sym (run_fault rest) ∙ e))

format_fails : (rest : List Text) → length rest < 11 → fault_of program (codes "format" ∷ rest) ≡ [] → ⊥
format_fails rest few e = few_fail format_built (codes "T") 11 rest
    (inl refl, (inl refl, (inl refl, (inl refl, (inl refl, (inl refl, (inl refl, (inl refl, (inl refl, (inl refl, (inr (refl, refl), (inl refl, tt)))))))))))) (λ x. refl)
    (inr (inr (inr (inr (inr (inr (inr (inr (inr (inr (inl (refl, refl)))))))))))) refl few (empty_left _ [] (sym (format_fault rest) ∙ e))

other_name : (name word : Text) → word ≢ name → bytes_eq name word ≡ false
other_name name word ne = go (bytes_eq name word) refl
  where
    go : (t : Bool) → bytes_eq name word ≡ t → t ≡ false
    go true e = absurd (ne (sym ((bytes_eq-Decides name word).0 e)))
    go false e = refl

name_fails : (word : Text) (rest : List Text) → IsNoName word → fault_of program (word ∷ rest) ≡ [] → ⊥
name_fails word rest other e =
    let f = other_name (codes "format") word other.0 in
    let r = other_name (codes "run") word other.1 in
    let a = other_name (codes "audit") word other.2 in
    let d = other_name (codes "drill") word other.3 in
    let no : IsNoCommand word = simp (f, r, a, d) in no_command_fails word rest no e

pub no_words : asked_by [] ≡ None
no_words = refused_is [] no_words_fail

pub no_name : (word : Text) (rest : List Text) → IsNoName word → asked_by (word ∷ rest) ≡ None
no_name word rest other = refused_is (word ∷ rest) (name_fails word rest other)

pub run_short : (rest : List Text) → length rest < 2 → asked_by (codes "run" ∷ rest) ≡ None
run_short rest few = refused_is (codes "run" ∷ rest) (run_fails rest few)

pub format_short : (rest : List Text) → length rest < 11 → asked_by (codes "format" ∷ rest) ≡ None
format_short rest few = refused_is (codes "format" ∷ rest) (format_fails rest few)

walk_first : (s : Shape) (w : Walk) (word : Text) (rest : List Text) → walk_fault s [] w (word ∷ rest) ≡ [] → turn_fault s [] w word ≡ []
unfolding walk_fault
walk_first s w word rest e = empty_left _ _ e

stray_fails : stray_fault audit_built ≡ [] → ⊥
stray_fails e = cc

-- a word behind `audit` is one too many
audit_fails : (word : Text) (rest : List Text) → IsPlain word → fault_of program (codes "audit" ∷ word ∷ rest) ≡ [] → ⊥
audit_fails word rest plain e =
    let level = empty_left _ [] (sym (audit_fault (word ∷ rest)) ∙ e) in
    let turn = walk_first audit_built (walk_from nothing_held) word rest (empty_left _ _ level) in
    stray_fails (sym (plain_turn-idle audit_built 1 word nothing_held plain) ∙ turn)

pub audit_more : (word : Text) (rest : List Text) → IsPlain word → asked_by (codes "audit" ∷ word ∷ rest) ≡ None
audit_more word rest plain = refused_is (codes "audit" ∷ word ∷ rest) (audit_fails word rest plain)

-- no word behind `drill`, or two
drill_fails : fault_of program (codes "drill" ∷ []) ≡ [] → ⊥
drill_fails e = few_fail drill_built (codes "COUNT") 1 [] (inr (refl, refl), tt) (λ x. refl) (inl (refl, refl)) refl (omega arith) (empty_left _ [] (sym (drill_fault []) ∙ e))

pub no_count : asked_by (codes "drill" ∷ []) ≡ None
no_count = refused_is (codes "drill" ∷ []) drill_fails

empty_right : (a b : Kinds) → or_else a b ≡ [] → b ≡ []
empty_right [] b e = e
empty_right (k ∷ ks) b e = cc

walk_rest : (s : Shape) (w : Walk) (word : Text) (rest : List Text) → walk_fault s [] w (word ∷ rest) ≡ [] → walk_fault s [] (walked s.rules [] w word) rest ≡ []
unfolding walk_fault
walk_rest s w word rest e = empty_right (turn_fault s [] w word) _ e

count_fails : stray_fault drill_built ≡ [] → ⊥
count_fails e = cc

two_fail : (count word : Text) (rest : List Text) → IsPlain count → IsPlain word → fault_of program (codes "drill" ∷ count ∷ word ∷ rest) ≡ [] → ⊥
two_fail count word rest first second e =
    let level = empty_left _ [] (sym (drill_fault (count ∷ word ∷ rest)) ∙ e) in
    let behind = walk_rest drill_built (walk_from nothing_held) count (word ∷ rest) (empty_left _ _ level) in
    let turn = walk_first drill_built (at (counted count) idle 2) word rest (ap (λ (w : Walk). walk_fault drill_built [] w (word ∷ rest)) (sym (count_walked count first)) ∙ behind) in
    count_fails (sym (plain_turn-idle drill_built 2 word (counted count) second) ∙ turn)

pub drill_more : (count word : Text) (rest : List Text) → IsPlain count → IsPlain word → asked_by (codes "drill" ∷ count ∷ word ∷ rest) ≡ None
drill_more count word rest first second = refused_is (codes "drill" ∷ count ∷ word ∷ rest) (two_fail count word rest first second)
