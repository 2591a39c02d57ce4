-- What a ring vault keeps of its run beside what it was lent.
use Rattle.std.specs.Prelude.{ℕ, ◌≤◌, List, Option, Some, None, length}
use Rattle.ob_base.specs.declared.value.Write.{Write}
use Rattle.ob_fetch.specs.declared.run.Run.{Run}
use Rattle.ob_vault.specs.declared.known.Known.{Known}

abbrev pub kept_of_run : Run → Known
kept_of_run run = record { gates = run.gates; generation = (run.sealer).generation; drawn = run.drawn; spent = run.spent }

-- a value has at most 64 bytes
abbrev pub IsValueShort : Option (List ℕ) → Type 0
IsValueShort None = Unit {0}
IsValueShort (Some value) = length value ≤ 64

abbrev pub HasShortValue : Write → Type 0
HasShortValue write = IsValueShort write.value
