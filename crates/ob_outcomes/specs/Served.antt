-- What the records of a run tell of the scripts that were run.
use Rattle.std.specs.Prelude.{ℕ, suc, ◌≡◌, ◌⊎◌, ◌<◌, true, All, List, [], ◌∷◌, length, Option, Some, None}
use Rattle.std.specs.Ordering.{nat_cmp}
use Rattle.ob_base.specs.declared.op.Op.{Op}
use Rattle.ob_serial.specs.declared.records.Outcome.{Outcome}
use Rattle.ob_serial.specs.declared.records.Outcome.TheVariants.{Committed, Aborted, Unsure}
use Rattle.ob_serial.specs.declared.records.Why.TheVariants.{ReadsFull, WritesFull, ShareReads, ShareWrites, EpochEnd, Asked}
use Rattle.ob_serial.specs.Serial.{EpochRecord, Map, TxnRecord}
use Rattle.ob_desk.specs.Desk.{DeskState, Setup, Run, new_desk}
use Rattle.ob_desk.specs.declared.calls.Look.{Look}
use Rattle.ob_desk.specs.Beats.{BeatKind}
use Rattle.ob_session.specs.Steps.{Leads}
use Rattle.ob_outcomes.specs.Shown.{IsOutcome, AreNumbered}
use Rattle.ob_session.specs.Records.{txns_by}
use Rattle.ob_script.specs.Script.{ScriptTxn, Scripts, asks_by}
use Rattle.ob_runner.specs.Meaning.{Meets, MeetsFront, MeetsNoSum}
use Rattle.ob_script.specs.declared.line.Ending.TheVariants.{Commit, Abort}
use Rattle.ob_runner.specs.Turns.{IsScriptTurn}
use Rattle.ob_conduct.specs.Records.{contents}
use Rattle.ob_conduct.specs.Rounds.{TurnRule, KeepRule}
use Rattle.ob_conduct.specs.Acts.{Act, Closes, Publishes, history, records, PassesTest, IsAllowed}

-- How a transaction of a script ended, and what it did. A committed one did all that it asks for, and its last line asks for that. One
-- that is aborted because its client asked for that did all too, and its last line asks for that; or its last get was that of an add that
-- has no sum. Another one did a front of what it asks for.
abbrev pub EndsAs : ScriptTxn → List (Op ℕ) → Outcome ℕ → Type 0
EndsAs ask ops Committed = Meets ask.asks ops × (ask.ending ≡ Commit)
EndsAs ask ops (Aborted Asked) = (Meets ask.asks ops × (ask.ending ≡ Abort)) ⊎ MeetsNoSum ask.asks ops
EndsAs ask ops (Aborted why) = MeetsFront ask.asks ops
EndsAs ask ops (Unsure epoch) = ⊥

-- These are the first of the script's transactions, in order, each once, and no others.
abbrev pub ServedFirst : List ScriptTxn → List (TxnRecord ℕ) → Type 0
ServedFirst asks [] = Unit {0}
ServedFirst [] (t ∷ txns) = ⊥
ServedFirst (ask ∷ asks) (t ∷ txns) = EndsAs ask t.ops t.outcome × ServedFirst asks txns

-- They are all of them.
abbrev pub ServedAll : List ScriptTxn → List (TxnRecord ℕ) → Type 0
ServedAll [] [] = Unit {0}
ServedAll (ask ∷ asks) (t ∷ txns) = EndsAs ask t.ops t.outcome × ServedAll asks txns
ServedAll _ _ = ⊥

-- of each client
abbrev pub ClientsServed : Scripts → List (EpochRecord ℕ) → Type 0
ClientsServed script told = (client : ℕ) → ServedFirst (asks_by client script.txns) (txns_by client told)

abbrev pub ClientsServedAll : Scripts → List (EpochRecord ℕ) → Type 0
ClientsServedAll script told = (client : ℕ) → ServedAll (asks_by client script.txns) (txns_by client told)

-- Only where the beat was due, and fewer waited than were live, is a transaction aborted for the end of its epoch.
abbrev pub IsDueAt : BeatKind → Look → EpochRecord ℕ → Type 0
IsDueAt beat look told = All (λ t. t.outcome ≡ Aborted EpochEnd → PassesTest beat look × (look.waiting < look.live)) told.txns

-- Each record that was published is that of the epoch that was closed before it, and is due at the look that led to that close. None: no
-- epoch is closed; Some: one is, since this look.
abbrev pub AreDue : BeatKind → Option Look → List Act → Type 0
AreDue beat closed [] = Unit {0}
AreDue beat closed (Closes look batches writes ∷ acts) = AreDue beat (Some look) acts
AreDue beat closed (Publishes writes left told ∷ acts) = (look : Look) × (closed ≡ Some look) × IsDueAt beat look told × AreDue beat None acts
AreDue beat closed (_ ∷ acts) = AreDue beat closed acts

-- A beat that is due only where all that are live wait.
abbrev pub IsPatient : BeatKind → Type 0
IsPatient beat = (waiting live queued left : ℕ) → beat.passes waiting live queued left ≡ true → waiting ≡ live

-- It is committed, or had no place for a read or a write, or its client's share had none, or its client asked for its abort.
abbrev pub IsLonely : Outcome ℕ → Type 0
IsLonely Committed = Unit {0}
IsLonely (Aborted (ReadsFull queued left)) = Unit {0}
IsLonely (Aborted (WritesFull keys)) = Unit {0}
IsLonely (Aborted (ShareReads keys)) = Unit {0}
IsLonely (Aborted (ShareWrites keys)) = Unit {0}
IsLonely (Aborted Asked) = Unit {0}
IsLonely _ = ⊥

-- what a turn of a client of the script may be: its next call, or `stop` for want of memory in its place; none behind its sign-off
abbrev pub script_rule : Scripts → TurnRule
script_rule script client said steps = IsScriptTurn (asks_by client script.txns) client said steps

-- How the script was run, whatever the vault: from a new desk on, made with this setup, whose first epoch is the one behind this, with so many batches left; the
-- acts have this shape.
pub record Evidence (Shape : List Act → Type 0) (IsMap : Map nat_cmp → Type 0) (beat : BeatKind) (setup : Setup) (epoch left : ℕ) (script : Scripts) : Type 0 where
  -- what was done, in order: calls of the desk, each of them allowed where it is made
  pub acts : List Act
  pub allowed : All (IsAllowed beat) acts
  -- In its acts each client makes its script's next call, by what it was told.
  pub turns : KeepRule (script_rule script) [] acts
  pub rounds : Shape acts
  pub desk : DeskState
  pub leads : Leads (new_desk setup (suc epoch) left script.clients) (history acts) desk
  -- What batches delivered is the map's, of each such map, so the acts are a run from it.
  pub fed : (m : Map nat_cmp) → IsMap m → Run m (new_desk setup (suc epoch) left script.clients) (history acts) (contents m (records acts)) desk

-- A run of a script, of whose acts the records are told.
pub record IsServed (Shape : List Act → Type 0) (IsMap : Map nat_cmp → Type 0) (beat : BeatKind) (setup : Setup) (epoch left : ℕ) (script : Scripts) (told : List (EpochRecord ℕ)) : Type 0 where
  pub evidence : Evidence Shape IsMap beat setup epoch left script
  pub told_are : told ≡ records evidence.acts
  -- Each client's transactions are a front of its script's, in order, each once, with the operations that it means.
  pub first : ClientsServed script told
  -- How each transaction ended is shown by its record; and for the end of its epoch one is aborted only where the beat was due.
  pub shown : All (λ r. All (λ t. IsOutcome setup r t t.outcome) r.txns) told
  pub due : AreDue beat None evidence.acts
  -- epochs and tickets are numbered one by one, and each epoch has a transaction
  pub numbered : AreNumbered (suc epoch) told
  pub some : All (λ r. 0 < length r.txns) told
  -- With one client, and a beat that is due only where all wait, no other transaction has a part in a cause.
  pub alone : (client : ℕ) → script.clients ≡ client ∷ [] → IsPatient beat → All (λ r. All (λ t. IsLonely t.outcome) r.txns) told
