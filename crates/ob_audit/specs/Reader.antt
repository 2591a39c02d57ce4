-- Private: what has been read of a trace.
use Rattle.std.specs.Global.{Box}
use Rattle.std.specs.Prelude.{◌≡◌, ◌+◌, ℕ, List, [], ◌∷◌, ◌++◌, length, take, Option, Some, None, option_map}
use Rattle.ob_follow.specs.declared.follow.FollowPlain.{FollowPlain}
use Rattle.ob_follow.specs.Plain.{follow_of}
use Rattle.ob_schedule.specs.Follow.{Follow}
use Rattle.ob_schedule.specs.declared.line.Line.{Line}
use Rattle.ob_schedule.specs.declared.line.Wanted.{Wanted}
use Rattle.ob_audit.specs.declared.reader.Reader.{Reader}
use Rattle.ob_audit.specs.declared.verdict.Audit.{Audit}
use Rattle.ob_audit.specs.declared.verdict.Audit.TheVariants.{Breaks}
use Rattle.ob_audit.specs.Spelling.{IsLineOf}
use Rattle.ob_audit.specs.Traces.{with_first, lines_in, TakesNext, RefusesNext, Admitted, IsVerdict}

-- the lines of some bytes without a line feed and what stands behind them
abbrev pub prefixed : List ℕ → List (List ℕ) → List (List ℕ)
prefixed [] texts = texts
prefixed (byte ∷ bytes) texts = with_first byte (prefixed bytes texts)

abbrev pub known_behind : Option (Box FollowPlain) → Option Follow
known_behind known = option_map (λ (present : Box FollowPlain). follow_of present.value) known

-- These bytes were read: whole lines, each admitted, and the beginning of one, of which 97 bytes are kept.
pub record HasReadLines (r : Reader) (bytes : List ℕ) : Type 0 where
  pub before : List (List ℕ)
  pub begun : List ℕ
  pub splits : (more : List ℕ) → lines_in (bytes ++ more) ≡ before ++ prefixed begun (lines_in more)
  pub counts : r.lines ≡ length before
  pub seen : r.seen ≡ length bytes
  pub admitted : Admitted None before (known_behind r.known)
  pub kept : take r.len r.begun ≡ take 97 begun
  pub array : length r.begun ≡ 97

-- a line was taken
abbrev pub TakesText : Option Follow → List ℕ → Option Follow → Type 0
TakesText known text now = (line : Line) × IsLineOf text line × ((next : Follow) × TakesNext known line next × (now ≡ Some next))

-- a line was refused, which is the one behind so many
abbrev pub RefusesText : Option Follow → List ℕ → ℕ → Audit → Type 0
RefusesText known text lines audit = (wanted : Wanted) × ((found : Line) × (audit ≡ Breaks (lines + 1) wanted found) × IsLineOf text found × RefusesNext known found wanted)

-- what is answered, whatever stands behind
abbrev pub IsSettled : ℕ → List ℕ → Audit → Type 0
IsSettled limit bytes audit = (more : List ℕ) → IsVerdict limit (take (limit + 1) (bytes ++ more)) audit
