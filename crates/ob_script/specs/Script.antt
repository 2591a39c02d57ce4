-- The scripts: which bytes are one, and what they ask for.
use Rattle.std.specs.Prelude.{ℕ, ◌≡◌, ◌<◌, ◌≤◌, ◌+◌, ◌⊎◌, Bool, true, false, ◌&&◌, not, ◌==◌, nat_le, nat_lt, List, [], ◌∷◌, ◌++◌, length, take, filter, codes, Option, Some, None, is_none, if◌then◌else◌, All, Contains, FitsSigned}
use Rattle.std.specs.List.{slice_split, list_all}
use Rattle.std.specs.Int.{w64}
use Rattle.std.specs.List.Sorted.{IsStrictlyIncreasing}
use Rattle.std.specs.Fmt.{decimal, signed_decimal}
use Rattle.ob_base.specs.Clients.{IsClientNumber}
use Rattle.ob_script.specs.declared.line.Ask.{Ask}
use Rattle.ob_script.specs.declared.line.Ask.TheVariants.{Get, Put, Del, Add}
use Rattle.ob_script.specs.declared.line.Ending.{Ending}
use Rattle.ob_script.specs.declared.line.Ending.TheVariants.{Commit, Abort}
use Rattle.ob_script.specs.declared.line.Line.{Line}
use Rattle.ob_script.specs.declared.line.Line.TheVariants.{Blank, Client, Begin, Asks, Ends}

abbrev pub Text : Type 0
Text = List ℕ

-- at most so many bytes
abbrev pub limit : ℕ
limit = 1048576

-- nothing, or `#` and any bytes
abbrev pub is_blank : Text → Bool
is_blank [] = true
is_blank (byte ∷ bytes) = byte == 35

-- the bytes of an operation
abbrev pub ask_text : Ask → Text
ask_text (Get key) = codes "get " ++ decimal key
ask_text (Put key value) = codes "put " ++ decimal key ++ 32 ∷ value
ask_text (Del key) = codes "del " ++ decimal key
ask_text (Add key amount) = codes "add " ++ decimal key ++ 32 ∷ signed_decimal amount

-- and of a transaction's end
abbrev pub ending_text : Ending → Text
ending_text Commit = codes "commit"
ending_text Abort = codes "abort"

-- The line has these bytes, without its end.
abbrev pub IsSpelled : Line → Text → Type 0
IsSpelled Blank text = is_blank text ≡ true
IsSpelled (Client client) text = text ≡ codes "client " ++ decimal client
IsSpelled Begin text = text ≡ codes "begin"
IsSpelled (Asks ask) text = text ≡ ask_text ask
IsSpelled (Ends ending) text = text ≡ ending_text ending

abbrev pub is_plain : ℕ → Bool
is_plain byte = nat_le 32 byte && nat_le byte 126

-- the numbers and bytes of an operation are in range, where keys are below n
abbrev pub IsAskInRange : ℕ → Ask → Type 0
IsAskInRange n (Get key) = key < n
IsAskInRange n (Put key value) = (key < n) × (length value ≤ 64) × (list_all is_plain value ≡ true)
IsAskInRange n (Del key) = key < n
IsAskInRange n (Add key amount) = (key < n) × FitsSigned w64 amount

-- those of a line are
abbrev pub IsInRange : ℕ → Line → Type 0
IsInRange n (Client client) = IsClientNumber client
IsInRange n (Asks ask) = IsAskInRange n ask
IsInRange n _ = Unit {0}

-- a transaction of a script
pub record ScriptTxn : Type 0 where
  pub client : ℕ
  pub asks : List Ask
  pub ending : Ending

-- A script that was read: a bound that its keys are below, the clients that its client lines name, and its transactions.
pub record Scripts : Type 0 where
  pub keys : ℕ
  pub clients : List ℕ
  pub txns : List ScriptTxn

-- What was read so far: the last client that was named, 0 before the first client line; all that were; the whole transactions; and the one that is open.
pub record State : Type 0 where
  pub client : ℕ
  pub clients : List ℕ
  pub done : List ScriptTxn
  pub open_asks : Option (List Ask)

abbrev pub start : State
start = record { client = 0; clients = []; done = []; open_asks = None }

-- the state with a client named, with a transaction begun, with an operation more, and with a transaction ended
abbrev pub with_client : ℕ → State → State
with_client client s = record s { client = client; clients = s.clients ++ client ∷ [] }

abbrev pub with_asks : Option (List Ask) → State → State
with_asks asks s = record s { open_asks = asks }

abbrev pub with_txn : List Ask → Ending → State → State
with_txn asks ending s = record s { done = s.done ++ record { client = s.client; asks = asks; ending = ending } ∷ []; open_asks = None }

-- the state after a line that means something, where that may stand there
abbrev pub step_from : State → Option (List Ask) → Line → Option State
step_from s None (Client client) = if nat_lt s.client client then Some (with_client client s) else None
step_from s None Begin = if s.client == 0 then None else Some (with_asks (Some []) s)
step_from s (Some asks) (Asks ask) = Some (with_asks (Some (asks ++ ask ∷ [])) s)
step_from s (Some asks) (Ends ending) = Some (with_txn asks ending s)
step_from s _ _ = None

abbrev pub step : State → Line → Option State
step s Blank = Some s
step s line = step_from s s.open_asks line

-- A line with this text stands there, and leads on to the next state.
pub record AcceptsLine (n : ℕ) (s : State) (text : Text) (next : State) : Type 0 where
  pub line : Line
  pub text_is : IsSpelled line text
  pub range : IsInRange n line
  pub next_is : step s line ≡ Some next

-- Lines with these texts lead from one state to the other.
abbrev pub ReadsLines : ℕ → State → List Text → State → Type 0
ReadsLines n first [] last = first ≡ last
ReadsLines n first (text ∷ texts) last = (next : State) × AcceptsLine n first text next × ReadsLines n next texts last

-- No line with this text may stand there.
abbrev pub CanNotStand : ℕ → State → Text → Type 0
CanNotStand n s text = (line : Line) → IsInRange n line → IsSpelled line text → step s line ≡ None

abbrev pub is_empty : List ℕ → Bool
is_empty [] = true
is_empty (x ∷ xs) = false

-- The parts between LFs, of which the last is a line only where the bytes are all and it isn't empty.
abbrev pub lines_of_parts : Bool → List Text → List Text
lines_of_parts all [] = []
lines_of_parts all (part ∷ []) = if all && not (is_empty part) then part ∷ [] else []
lines_of_parts all (part ∷ next ∷ more) = part ∷ lines_of_parts all (next ∷ more)

abbrev pub is_line_end : ℕ → Bool
is_line_end byte = byte == 10

abbrev pub lines_from : Bool → List ℕ → List Text
lines_from all bytes = lines_of_parts all (slice_split is_line_end bytes)

abbrev pub is_within : List ℕ → Bool
is_within bytes = nat_le (length bytes) limit

-- the lines that end within the limit
abbrev pub lines_of : List ℕ → List Text
lines_of bytes = lines_from (is_within bytes) (take limit bytes)

-- The bytes are this script, on keys below n.
pub record IsScript (n : ℕ) (bytes : List ℕ) (scripts : Scripts) : Type 0 where
  pub within : is_within bytes ≡ true
  pub last : State
  pub reads : ReadsLines n start (lines_of bytes) last
  pub whole : last.open_asks ≡ None
  pub scripts_are : scripts ≡ record { keys = n; clients = last.clients; txns = last.done }

-- What stands behind good lines is bad: a line that may not stand there or, behind all lines, a transaction that is open, or bytes past the limit.
abbrev pub IsBad : ℕ → List ℕ → State → List Text → Type 0
IsBad n bytes s (text ∷ texts) = CanNotStand n s text
IsBad n bytes s [] = (is_within bytes ≡ false) ⊎ (is_none s.open_asks ≡ false)

-- The line of this number, from 1, is the first bad one.
pub record IsFirstBad (n : ℕ) (bytes : List ℕ) (number : ℕ) : Type 0 where
  pub before : List Text
  pub behind : List Text
  pub state : State
  pub lines_are : lines_of bytes ≡ before ++ behind
  pub good : ReadsLines n start before state
  pub bad : IsBad n bytes state behind
  pub number_is : number ≡ length before + 1

-- the key that an operation names
abbrev pub key_of : Ask → ℕ
key_of (Get key) = key
key_of (Put key value) = key
key_of (Del key) = key
key_of (Add key amount) = key

-- the keys of all operations are below n
abbrev pub AreOpsBelow : ℕ → List ScriptTxn → Type 0
AreOpsBelow n txns = All (λ t. All (λ ask. key_of ask < n) t.asks) txns

-- A script's keys are below its bound. Its clients are from 1 to 64 and rise, and each transaction is of one of them.
pub record AreSound (scripts : Scripts) : Type 0 where
  pub below : AreOpsBelow scripts.keys scripts.txns
  pub named : All IsClientNumber scripts.clients
  pub rising : IsStrictlyIncreasing scripts.clients
  pub owned : All (λ t. Contains scripts.clients t.client) scripts.txns

-- the transactions of one client, in order
abbrev pub asks_by : ℕ → List ScriptTxn → List ScriptTxn
asks_by client txns = filter (λ t. t.client == client) txns
