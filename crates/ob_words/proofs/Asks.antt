-- A parse that passes asks for something.
use Rattle.std.proofs.Common.{◌≡◌, ◌≢◌, Bool, true, false, List, [], ◌∷◌, None, refl, ap, sym, ◌∙◌, codes}
use Rattle.std.specs.Prelude.{option_and_then}
use Rattle.std.specs.Str.{bytes_eq}
use Rattle.std.proofs.lemmas.Slice.Eq.{bytes_eq-Decides}
use Rattle.clap.specs.Walk.{Text}
use Rattle.clap.specs.Simple.{is_simple}
use Rattle.clap.specs.Kinds.{IsAmong, Kinds}
use Rattle.clap.specs.Faults.{fault_of}
use Rattle.clap.specs.declared.error.ErrorKind.{ErrorKind}
use Rattle.clap.proofs.OnLiterals.{clap_on_literals}
use Rattle.ob_words.specs.Commands.{program}
use Rattle.ob_words.specs.Reading.{asked_at_all, asked_command}
use Rattle.ob_words.proofs.Top.{IsNoCommand, audit_subcommand, drill_subcommand, format_subcommand, no_command_fails, no_words_fail, run_subcommand}

pub is_simple_alone : is_simple program ≡ true
unfolding clap_on_literals
is_simple_alone = refl

pub among_some : (k : ErrorKind) (ks : Kinds) → IsAmong k ks → ks ≢ []
among_some k [] h e = absurd h
among_some k (x ∷ xs) h e = cc

asked_format : (rest : List Text) → asked_at_all (codes "format" ∷ rest) ≡ None → ⊥
asked_format rest e = let some = sym (ap (λ o. option_and_then (λ p. asked_command p.0 p.1) o) (format_subcommand rest)) ∙ e in cc

asked_run : (rest : List Text) → asked_at_all (codes "run" ∷ rest) ≡ None → ⊥
asked_run rest e = let some = sym (ap (λ o. option_and_then (λ p. asked_command p.0 p.1) o) (run_subcommand rest)) ∙ e in cc

asked_audit : (rest : List Text) → asked_at_all (codes "audit" ∷ rest) ≡ None → ⊥
asked_audit rest e = let some = sym (ap (λ o. option_and_then (λ p. asked_command p.0 p.1) o) (audit_subcommand rest)) ∙ e in cc

asked_drill : (rest : List Text) → asked_at_all (codes "drill" ∷ rest) ≡ None → ⊥
asked_drill rest e = let some = sym (ap (λ o. option_and_then (λ p. asked_command p.0 p.1) o) (drill_subcommand rest)) ∙ e in cc

same_word : (name word : Text) → bytes_eq name word ≡ true → word ≡ name
same_word name word e = sym ((bytes_eq-Decides name word).0 e)

by_name : (word : Text) (rest : List Text) (f r a d : Bool) → bytes_eq (codes "format") word ≡ f → bytes_eq (codes "run") word ≡ r → bytes_eq (codes "audit") word ≡ a → bytes_eq (codes "drill") word ≡ d
    → fault_of program (word ∷ rest) ≡ [] → asked_at_all (word ∷ rest) ≡ None → ⊥
by_name word rest true r a d ef er ea ed e none = asked_format rest (rw (same_word (codes "format") word ef) at none)
by_name word rest false true a d ef er ea ed e none = asked_run rest (rw (same_word (codes "run") word er) at none)
by_name word rest false false true d ef er ea ed e none = asked_audit rest (rw (same_word (codes "audit") word ea) at none)
by_name word rest false false false true ef er ea ed e none = asked_drill rest (rw (same_word (codes "drill") word ed) at none)
by_name word rest false false false false ef er ea ed e none =
    let no : IsNoCommand word = simp (ef, er, ea, ed) in no_command_fails word rest no e

pub passes_asks : (words : List Text) → fault_of program words ≡ [] → asked_at_all words ≡ None → ⊥
passes_asks [] e none = no_words_fail e
passes_asks (word ∷ rest) e none = by_name word rest _ _ _ _ refl refl refl refl e none
