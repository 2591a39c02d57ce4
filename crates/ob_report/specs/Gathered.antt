-- Private: what it means that a text was gathered for a sink: a prefix of it may have gone there, and the rest is held.
use Rattle.std.specs.Prelude.{ℕ, ◌≡◌, ◌≤◌, List, ◌++◌, length, take, drop, Option, Result, OnOk}
use Rattle.ob_base.specs.Causes.{HasCause}
use Rattle.ob_io.specs.Flows.{appended}
use Rattle.ob_io.specs.declared.Sink as sink

-- The bytes that went to a sink, where it tells, its count of faults, and the bytes that are held.
pub record Gathering : Type 0 where
  pub bytes : Option (List ℕ)
  pub faults : ℕ
  pub held : List ℕ

abbrev pub gathering : Option (List ℕ) → ℕ → List ℕ → Gathering
gathering bytes faults held = record { bytes = bytes; faults = faults; held = held }

-- what a sink tells, and the bytes that are held for it
abbrev pub gathered : {S : Type 0} → sink.Ghosts S → S → List ℕ → Gathering
gathered tells one held = gathering (tells.written one) (tells.faults one) held

-- A call gathers the text: of what was held and the text behind it a front went to the sink, and the rest is held.
-- It is refused only where the count of faults rose.
pub record Gathers {T E : Type 0} (text : List ℕ) (before after : Gathering) (result : Result T E) : Type 0 where
  pub count : ℕ
  pub within : count ≤ length (before.held ++ text)
  pub written : after.bytes ≡ appended before.bytes (take count (before.held ++ text))
  pub rest : OnOk result (after.held ≡ drop count (before.held ++ text))
  pub cause : HasCause before.faults after.faults result
