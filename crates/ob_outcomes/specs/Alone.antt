-- How the transactions of a lone client end.
use Rattle.std.specs.Prelude.{ℕ, All, List, [], ◌∷◌}
use Rattle.ob_serial.specs.declared.records.Why.{Why}
use Rattle.ob_serial.specs.declared.records.Why.TheVariants.{Conflict, Depends, ReadsFull, WritesFull, ShareReads, ShareWrites, EpochEnd, Asked, Stopped}
use Rattle.ob_serial.specs.declared.records.Outcome.{Outcome}
use Rattle.ob_serial.specs.declared.records.Outcome.TheVariants.{Committed, Aborted, Unsure}
use Rattle.ob_desk.specs.Desk.{DeskState, Setup, Call, Reply, MayOpen, new_desk, published}
use Rattle.ob_session.specs.Steps.{Leads}

-- a cause in which no other transaction has a part
abbrev pub IsOwnWhy : Why ℕ → Type 0
IsOwnWhy (Conflict key reader) = ⊥
IsOwnWhy (Depends on) = ⊥
IsOwnWhy (ReadsFull queued left) = Unit {0}
IsOwnWhy (WritesFull keys) = Unit {0}
IsOwnWhy (ShareReads keys) = Unit {0}
IsOwnWhy (ShareWrites keys) = Unit {0}
IsOwnWhy EpochEnd = Unit {0}
IsOwnWhy Asked = Unit {0}
IsOwnWhy (Stopped fault) = ⊥

-- committed, or aborted for such a cause
abbrev pub IsOwnOutcome : Outcome ℕ → Type 0
IsOwnOutcome Committed = Unit {0}
IsOwnOutcome (Aborted why) = IsOwnWhy why
IsOwnOutcome (Unsure epoch) = ⊥

-- whatever calls one client made of a new desk
abbrev pub OneClient : Type 0
OneClient = (setup : Setup) (epoch left client : ℕ) (steps : List (Call × Reply)) (d : DeskState)
    → MayOpen setup epoch left (client ∷ []) → Leads (new_desk setup epoch left (client ∷ [])) steps d → All (λ r. All (λ t. IsOwnOutcome t.outcome) r.txns) (published steps)
