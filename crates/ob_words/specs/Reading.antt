-- What the words ask for, as texts.
use Rattle.std.specs.Prelude.{Bool, List, [], ◌∷◌, Option, Some, None, unwrap_or, option_map, option_and_then, if◌then◌else◌, codes}
use Rattle.std.specs.Str.{bytes_eq}
use Rattle.clap.specs.Walk.{Row, Text, first_of}
use Rattle.clap.specs.Simple.{subcommand_of}
use Rattle.clap.specs.Kinds.{Kinds}
use Rattle.clap.specs.Faults.{fault_of}
use Rattle.ob_words.specs.Commands.{program}
use Rattle.ob_base.specs.declared.fault.Fault.{Fault}
use Rattle.ob_base.specs.declared.fault.Fault.TheVariants as fault
use Rattle.ob_words.specs.declared.request.Request.{Request}
use Rattle.ob_words.specs.declared.request.Request.TheVariants.{Format, Run, Audit, Drill}
use Rattle.ob_words.specs.declared.request.WordsErr.{WordsErr}
use Rattle.ob_words.specs.declared.request.WordsErr.TheVariants.{Memory, Usage}

-- each client's shares of reads and of writes, where they are given
pub record AskedShares : Type 0 where
  pub reads : Option Text
  pub writes : Option Text

abbrev pub shares_asked : Option Text → Option Text → AskedShares
shares_asked reads writes = record { reads = reads; writes = writes }

-- the store's path, the keys' path, and the nine numbers; or the lanes, where they are given, and whether `--turns` is; and the trace's path,
-- where it is given; and of a run the mirror's path, where it is given, and its clients' shares; or an audit; or a self-test, with its count
pub data Asked : Type 0 where
  format_asked : Text → Text → List Text → Option Text → Asked
  run_asked : Text → Text → Option Text → Bool → Option Text → Option Text → AskedShares → Asked
  audit_asked : Asked
  drill_asked : Text → Asked

-- the texts of a request
abbrev pub asked_of : Request → Asked
asked_of (Format store keys n l z s r br bw e t trace) =
    format_asked store.now keys.now (n.now ∷ l.now ∷ z.now ∷ s.now ∷ r.now ∷ br.now ∷ bw.now ∷ e.now ∷ t.now ∷ []) (option_map (λ s. s.now) trace)
asked_of (Run store keys lanes turns trace mirror reads writes) = run_asked store.now keys.now (option_map (λ s. s.now) lanes) turns (option_map (λ s. s.now) trace)
    (option_map (λ s. s.now) mirror) (shares_asked (option_map (λ s. s.now) reads) (option_map (λ s. s.now) writes))
asked_of Audit = audit_asked
asked_of (Drill count) = drill_asked count.now

-- the text of an operand in what a parse found
abbrev pub text_at : Text → List Row → Text
text_at id rows = unwrap_or (first_of id rows) []

-- what a command asks for, by what a parse found of it
abbrev pub asked_command : Text → List Row → Option Asked
asked_command name rows =
    if bytes_eq name (codes "format") then Some (format_asked (text_at (codes "STORE") rows) (text_at (codes "KEYS") rows)
    (text_at (codes "N") rows ∷ text_at (codes "L") rows ∷ text_at (codes "Z") rows ∷ text_at (codes "S") rows
    ∷ text_at (codes "R") rows ∷ text_at (codes "BR") rows ∷ text_at (codes "BW") rows ∷ text_at (codes "E") rows
    ∷ text_at (codes "T") rows ∷ []) (first_of (codes "trace") rows))
    else if bytes_eq name (codes "run") then Some (run_asked (text_at (codes "STORE") rows) (text_at (codes "KEYS") rows)
    (first_of (codes "lanes") rows) (bytes_eq (text_at (codes "turns") rows) (codes "true")) (first_of (codes "trace") rows)
    (first_of (codes "mirror") rows) (shares_asked (first_of (codes "reads") rows) (first_of (codes "writes") rows)))
    else if bytes_eq name (codes "audit") then Some audit_asked
    else if bytes_eq name (codes "drill") then Some (drill_asked (text_at (codes "COUNT") rows))
    else None

abbrev pub unless_refused : Kinds → Option Asked → Option Asked
unless_refused [] asked = asked
unless_refused (kind ∷ kinds) asked = None

-- what the words ask for, as a parse of the program's commands reads them, faults or none
abbrev pub asked_at_all : List Text → Option Asked
asked_at_all words = option_and_then (λ p. asked_command p.0 p.1) (subcommand_of program words)

-- what the words ask for: nothing where the parse has a fault
unfoldable pub asked_by : List Text → Option Asked
asked_by words = unless_refused (fault_of program words) (asked_at_all words)

-- what an error of the words is among the program's faults
abbrev pub fault_for : WordsErr → Fault
fault_for Memory = fault.Memory
fault_for Usage = fault.Usage
