-- The lines of a trace, and what an audit answers to it.
use Rattle.std.specs.Prelude.{◌≡◌, ◌≢◌, ◌<◌, ◌≤◌, ◌+◌, ◌⊎◌, ℕ, ◌==◌, if◌then◌else◌, List, [], ◌∷◌, ◌++◌, length, Option, Some, None}
use Rattle.ob_base.specs.Causes.{Rose}
use Rattle.ob_base.specs.declared.fault.Fault.{Fault}
use Rattle.ob_base.specs.declared.fault.Fault.TheVariants.{Memory, SourceFault}
use Rattle.ob_io.specs.Flows.{IsInput}
use Rattle.ob_schedule.specs.declared.line.Line.{Line}
use Rattle.ob_schedule.specs.declared.line.Line.TheVariants as L
use Rattle.ob_schedule.specs.declared.line.Wanted.{Wanted}
use Rattle.ob_schedule.specs.declared.line.Wanted.TheVariants as W
use Rattle.ob_schedule.specs.Follow.{Follow, TakesLine, started}
use Rattle.ob_schedule.specs.Names.{RefusesLine}
use Rattle.ob_audit.specs.declared.verdict.Audit.{Audit}
use Rattle.ob_audit.specs.declared.verdict.Audit.TheVariants.{Fits, Breaks}
use Rattle.ob_audit.specs.Spelling.{IsLineOf}

abbrev pub with_first : ℕ → List (List ℕ) → List (List ℕ)
with_first byte [] = (byte ∷ []) ∷ []
with_first byte (text ∷ texts) = (byte ∷ text) ∷ texts

-- The texts between line feeds. Behind the last line feed stands no further one, unless a byte does.
abbrev pub lines_in : List ℕ → List (List ℕ)
lines_in [] = []
lines_in (byte ∷ bytes) = if byte == 10 then [] ∷ lines_in bytes else with_first byte (lines_in bytes)

-- ---- which line may stand next, behind some lines or behind none

-- the first line begins a format
abbrev pub TakesFirst : Line → Follow → Type 0
TakesFirst (L.Start p) next = next ≡ started p
TakesFirst (L.Open mirrored) next = ⊥
TakesFirst (L.Note note) next = ⊥
TakesFirst L.Bad next = ⊥

abbrev pub TakesNext : Option Follow → Line → Follow → Type 0
TakesNext None line next = TakesFirst line next
TakesNext (Some known) line next = TakesLine known line next

-- The line may not stand there, and this was wanted.
abbrev pub RefusesNext : Option Follow → Line → Wanted → Type 0
RefusesNext None line wanted = (wanted ≡ W.Start) × ((next : Follow) → TakesFirst line next → ⊥)
RefusesNext (Some known) line wanted = RefusesLine known line wanted

-- Each text's line is taken behind those before it; what is known at the end.
abbrev pub Admitted : Option Follow → List (List ℕ) → Option Follow → Type 0
Admitted known [] last = last ≡ known
Admitted known (text ∷ texts) last = (line : Line) × IsLineOf text line × ((next : Follow) × TakesNext known line next × Admitted (Some next) texts last)

-- ---- what an audit answers to an input, of which the first byte past the limit is the last that is looked at

-- the line of the byte past the limit
pub record IsPast (limit : ℕ) (input : List ℕ) (rest : List (List ℕ)) (wanted : Wanted) (found : Line) : Type 0 where
  pub past : limit < length input
  pub last : rest ≡ []
  pub wanted_is : wanted ≡ W.End
  pub found_is : found ≡ L.Bad

-- a line that ends before, and may not stand there
pub record IsLineRefused (limit : ℕ) (input text : List ℕ) (rest : List (List ℕ)) (known : Option Follow) (wanted : Wanted) (found : Line) : Type 0 where
  pub ends_before : limit < length input → rest ≢ []
  pub is : IsLineOf text found
  pub refused : RefusesNext known found wanted

-- the lines before are admitted, and this one isn't
pub record BreaksAt (limit : ℕ) (input : List ℕ) (line : ℕ) (wanted : Wanted) (found : Line) : Type 0 where
  pub before : List (List ℕ)
  pub text : List ℕ
  pub rest : List (List ℕ)
  pub lines : lines_in input ≡ before ++ text ∷ rest
  pub counts : line ≡ length before + 1
  pub known : Option Follow
  pub admitted : Admitted None before known
  pub breaks : IsPast limit input rest wanted found ⊎ IsLineRefused limit input text rest known wanted found

pub record FitsWhole (limit : ℕ) (input : List ℕ) : Type 0 where
  pub within : length input ≤ limit
  pub last : Option Follow
  pub admitted : Admitted None (lines_in input) last

abbrev pub IsVerdict : ℕ → List ℕ → Audit → Type 0
IsVerdict limit input Fits = FitsWhole limit input
IsVerdict limit input (Breaks line wanted found) = BreaksAt limit input line wanted found

-- The bytes that came in, up to the first one past the limit, are answered so.
abbrev pub IsAudited : Option (List ℕ) → ℕ → Audit → Type 0
IsAudited left limit audit = (input : List ℕ) × IsInput left limit input × IsVerdict limit input audit

-- why none is given: for the source only where its count rose
abbrev pub IsAuditFault : ℕ → ℕ → Fault → Type 0
IsAuditFault before now Memory = Unit {0}
IsAuditFault before now SourceFault = Rose before now
IsAuditFault before now _ = ⊥
