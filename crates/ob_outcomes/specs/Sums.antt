-- What the transactions of a lone client have read, and what those come to that each add 1 to a key.
use Rattle.std.specs.Prelude.{ℕ, zero, suc, ◌+◌, ◌≡◌, ◌<◌, ◌^◌, ◌==◌, if◌then◌else◌, All, List, [], ◌∷◌, length, map, take, Option, Some, None, pos}
use Rattle.std.specs.List.{count_by}
use Rattle.std.specs.Fmt.{decimal}
use Rattle.std.specs.Ordering.{nat_cmp}
use Rattle.std.specs.FinMap as finite
use Rattle.ob_base.specs.declared.params.Params.{Params}
use Rattle.ob_serial.specs.Serial.{EpochRecord, Map, Replays}
use Rattle.ob_desk.specs.Desk.{DeskState, Setup, Call, Reply, MayOpen, Run, new_desk, published, setup_of}
use Rattle.ob_desk.specs.Beats.{BeatKind}
use Rattle.ob_script.specs.declared.line.Ask.{Ask}
use Rattle.ob_script.specs.declared.line.Ask.TheVariants.{Get, Put, Del, Add}
use Rattle.ob_script.specs.declared.line.Ending.TheVariants.{Commit}
use Rattle.ob_script.specs.Script.{ScriptTxn, Scripts}
use Rattle.ob_conduct.specs.Acts.{Act, history, records, IsAllowed}
use Rattle.ob_conduct.specs.Records.{contents}
use Rattle.ob_outcomes.specs.Served.{ClientsServed, ClientsServedAll, IsLonely}
use Rattle.ob_outcomes.specs.Lone.{AsksFew, HasOneCommitted}

-- Each transaction of the records, committed or not, has read what the map below its record and its own earlier writes give.
abbrev pub ReadBelow : Map nat_cmp → List (EpochRecord ℕ) → Type 0
ReadBelow m [] = Unit {0}
ReadBelow m (r ∷ told) = All (λ t. Replays nat_cmp m t.ops) r.txns × ReadBelow (contents m (r ∷ [])) told

-- Over whatever calls one client made of a new desk, where each batch was delivered with the map's values.
abbrev pub LoneReadsBelow : Type 0
LoneReadsBelow = (setup : Setup) (epoch left client : ℕ) (m last : Map nat_cmp) (steps : List (Call × Reply)) (d : DeskState)
    → MayOpen setup epoch left (client ∷ []) → Run m (new_desk setup epoch left (client ∷ [])) steps last d → ReadBelow m (published steps)

-- it gets a key, adds 1 to a key, and commits
pub record IsAdder (asked : ScriptTxn) : Type 0 where
  pub read : ℕ
  pub added : ℕ
  pub asks_are : asked.asks ≡ Get read ∷ Add added (pos 1) ∷ []
  pub ending_is : asked.ending ≡ Commit

-- how many of these asks, and of these transactions' asks, add to a key
abbrev pub adds_in : ℕ → List Ask → ℕ
adds_in key [] = 0
adds_in key (Get other ∷ asks) = adds_in key asks
adds_in key (Put other value ∷ asks) = adds_in key asks
adds_in key (Del other ∷ asks) = adds_in key asks
adds_in key (Add other amount ∷ asks) = (if other == key then 1 else 0) + adds_in key asks

abbrev pub adds_to : ℕ → List ScriptTxn → ℕ
adds_to key [] = 0
adds_to key (asked ∷ script) = adds_in key asked.asks + adds_to key script

-- what a count is in the map: nothing for 0, else its decimal
abbrev pub count_value : ℕ → Option (List ℕ)
count_value zero = None
count_value (suc n) = Some (decimal (suc n))

-- the map holds these counts
abbrev pub HoldsCounts : Map nat_cmp → (ℕ → ℕ) → Type 0
HoldsCounts m counts = (key : ℕ) → finite.get m key ≡ count_value (counts key)

-- Each record has one transaction, committed, and the map behind them counts the adds of so many first transactions.
pub record CountsUp (m : Map nat_cmp) (script : List ScriptTxn) (told : List (EpochRecord ℕ)) : Type 0 where
  pub one_each : All HasOneCommitted told
  pub counts : HoldsCounts (contents m told) (λ key. adds_to key (take (length told) script))

-- Where all of the script was served, there are as many epochs as transactions, and the map holds the counts of all.
pub record CountsAll (m : Map nat_cmp) (script : List ScriptTxn) (told : List (EpochRecord ℕ)) : Type 0 where
  pub epochs : length told ≡ length script
  pub counts : HoldsCounts (contents m told) (λ key. adds_to key script)

-- Over acts of one client whose script's transactions each add 1 to a key, from a map without keys on.
abbrev pub LoneCountsUp : Type 0
LoneCountsUp = (beat : BeatKind) (p : Params) (epoch left client : ℕ) (script : Scripts) (acts : List Act) (d : DeskState) (m last : Map nat_cmp)
    → MayOpen (setup_of p) epoch left (client ∷ []) → All (IsAllowed beat) acts → Run m (new_desk (setup_of p) epoch left (client ∷ [])) (history acts) last d
    → All IsAdder script.txns → All (λ s. s.client ≡ client) script.txns → All (AsksFew left p) script.txns → length script.txns < 2 ^ 62 → ((key : ℕ) → finite.get m key ≡ None)
    → ClientsServed script (records acts) → All (λ r. All (λ t. IsLonely t.outcome) r.txns) (records acts) → All (λ r. 0 < length r.txns) (records acts)
    → CountsUp m script.txns (records acts) × (ClientsServedAll script (records acts) → CountsAll m script.txns (records acts))

-- Where the i-th transaction adds to the i-th key, what they come to at a key is how often it is among these.
abbrev pub AddsAreCounted : Type 0
AddsAreCounted = (read added : ℕ → ℕ) (make : ℕ → ScriptTxn) (numbers : List ℕ) (key : ℕ) → ((i : ℕ) → (make i).asks ≡ Get (read i) ∷ Add (added i) (pos 1) ∷ [])
    → adds_to key (map make numbers) ≡ count_by (λ i. added i == key) numbers
