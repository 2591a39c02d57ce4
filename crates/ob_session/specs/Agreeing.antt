-- When the desk agrees with what a client was told.
use Rattle.std.specs.Prelude.{ℕ, ◌≡◌, ◌⊎◌, Bool, true, false, List, Option, Some, None, option_map}
use Rattle.std.specs.List.{Contains}
use Rattle.ob_desk.specs.Desk.{DeskState, Setup, Call, Reply, IsLive, MayOpen, new_desk, client_at, outcome_at, asked_at, waiting_at}
use Rattle.ob_desk.specs.declared.calls.Txn.{Txn}
use Rattle.ob_desk.specs.declared.clients.Client.{Client}
use Rattle.ob_serial.specs.declared.records.Why.{Why}
use Rattle.ob_serial.specs.declared.records.Why.TheVariants.{Asked}
use Rattle.ob_serial.specs.declared.records.Outcome.{Outcome}
use Rattle.ob_serial.specs.declared.records.Outcome.TheVariants.{Aborted as AbortedBy}
use Rattle.ob_session.specs.Steps.{Leads}
use Rattle.ob_session.specs.Clients.{Told, told_of, last_of, said_by, has_signed_off}

-- The transaction was aborted in the meantime; or it goes on, hasn't asked to commit, and waits for this key, or for none.
abbrev pub IsOpenTxn : DeskState → Txn → Option ℕ → Type 0
IsOpenTxn d x waiting = ((why : Why ℕ) × (outcome_at d x ≡ Some (AbortedBy why)))
    ⊎ (IsLive d x × (asked_at d.running x.ticket ≡ false) × (waiting_at d.running x.ticket ≡ waiting))

-- Its client hasn't aborted it.
abbrev pub IsNotGivenUp : DeskState → Txn → Type 0
IsNotGivenUp d x = outcome_at d x ≡ Some (AbortedBy Asked) → ⊥

-- What is known of a transaction: how it ended, where that was told; that its client hasn't aborted it, where it wasn't; and unless it asked to commit, that it may go on.
abbrev pub IsTxnKnown : DeskState → Txn → Option ℕ → Bool → Option (Outcome ℕ) → Type 0
IsTxnKnown d x waiting asked (Some outcome) = (outcome_at d x ≡ Some outcome) × (IsLive d x → ⊥)
IsTxnKnown d x waiting true None = IsNotGivenUp d x
IsTxnKnown d x waiting false None = IsNotGivenUp d x × IsOpenTxn d x waiting

abbrev pub IsLastKnown : DeskState → Option Told → Type 0
IsLastKnown d None = Unit {0}
IsLastKnown d (Some t) = IsTxnKnown d t.txn t.waiting t.asked t.ended

-- The desk agrees with what this client was told: whether it has signed off, which transaction is its last one, and how that stands.
pub record Agrees (d : DeskState) (number : ℕ) (said : List (Call × Reply)) : Type 0 where
  pub client : Client
  pub found : client_at d number ≡ Some client
  pub signed_off : client.signed_off ≡ has_signed_off said
  pub last : client.last ≡ option_map (λ t. t.txn) (last_of (told_of said))
  pub known : IsLastKnown d (last_of (told_of said))

-- whatever calls were made of a new desk, for each of its clients
abbrev pub CallsAgree : Type 0
CallsAgree = (setup : Setup) (epoch left : ℕ) (clients : List ℕ) (steps : List (Call × Reply)) (d : DeskState) (number : ℕ)
    → MayOpen setup epoch left clients → Leads (new_desk setup epoch left clients) steps d → Contains clients number → Agrees d number (said_by number steps)
