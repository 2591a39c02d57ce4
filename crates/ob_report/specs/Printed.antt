-- What it means that a text was printed to a sink.
use Rattle.std.specs.Prelude.{ℕ, ◌≡◌, ◌≤◌, ◌⊎◌, List, length, take, Result, OnOk}
use Rattle.ob_base.specs.Causes.{Rose, HasCause}
use Rattle.ob_io.specs.Flows.{appended}
use Rattle.ob_io.specs.Streams.{Flow}

-- Of the text a front was written, all of it unless the output failed.
pub record IsPrinted (before after : Flow) (text : List ℕ) : Type 0 where
  pub count : ℕ
  pub within : count ≤ length text
  pub written : after.bytes ≡ appended before.bytes (take count text)
  pub whole : (count ≡ length text) ⊎ Rose before.faults after.faults

-- A call prints the text. It is refused only where the count of faults rose, and otherwise all of the text is written.
pub record Prints {T E : Type 0} (text : List ℕ) (before after : Flow) (result : Result T E) : Type 0 where
  pub printed : IsPrinted before after text
  pub all : OnOk result (after.bytes ≡ appended before.bytes text)
  pub cause : HasCause before.faults after.faults result
