-- What a request of the words comes to: the numbers that it names, and the files; and what the keys' text comes to.
use Rattle.std.specs.Prelude.{ℕ, ◌≡◌, ◌≢◌, ◌⊎◌, ◌<◌, ◌≤◌, ◌^◌, Bool, true, false, List, [], ◌∷◌, ◌++◌, length, replicate, Option, Some, None, is_some, Ok}
use Rattle.std.specs.Fmt.{decimal}
use Rattle.ob_base.specs.declared.params.Params.{Params}
use Rattle.ob_base.specs.declared.fault.Field.{Field}
use Rattle.ob_base.specs.declared.fault.Field.TheVariants.{KEYS, LANES, COUNT}
use Rattle.ob_base.specs.declared.fault.Fault.{Fault}
use Rattle.ob_base.specs.declared.fault.Fault.TheVariants.{Memory, Usage, BadParams, SourceFault}
use Rattle.ob_base.specs.Fields.{first_out_of_range}
use Rattle.std.specs.Borrow.{Bor}
use Rattle.ob_seal.specs.declared.keys.Keys.{Keys}
use Rattle.ob_seal.specs.KeyText.{IsKeyText, digits_of}
use Rattle.hex.specs.Hex.{decode_of}
use Rattle.ob_start.specs.Heads.{numbers_of}
use Rattle.ob_shares.specs.declared.shares.Shares.{Shares}
use Rattle.ob_words.specs.Reading.{Asked, AskedShares, asked_by, format_asked, run_asked, audit_asked, drill_asked}
use Rattle.ob_words.specs.declared.work.Command.{Command}
use Rattle.ob_words.specs.declared.work.Command.TheVariants.{Format, Run}
use Rattle.ob_words.specs.declared.work.Work.{Work}
use Rattle.ob_words.specs.declared.work.Work.TheVariants.{Audit, Drill, OnStore}

-- The number that a word is: 0, which is in no range, for a word that isn't the canonical decimal of a number below 2^32.
abbrev pub Denotes : List ℕ → ℕ → Type 0
Denotes word n = ((word ≡ decimal n) × (n < 2 ^ 32)) ⊎ ((n ≡ 0) × ((m : ℕ) → m < 2 ^ 32 → word ≢ decimal m))

abbrev pub AllDenote : List (List ℕ) → List ℕ → Type 0
AllDenote [] [] = Unit {0}
AllDenote (word ∷ words) (n ∷ numbers) = Denotes word n × AllDenote words numbers
AllDenote _ _ = ⊥

-- the first of nine numbers that is out of its range
abbrev pub first_out : List ℕ → Option Field
first_out (n ∷ l ∷ z ∷ s ∷ r ∷ br ∷ bw ∷ e ∷ t ∷ []) = first_out_of_range n l z s r br bw e t
first_out _ = None

-- The words of `format` behind its files are the parameters' numbers, each in its range.
pub record AreParams (words : List (List ℕ)) (p : Params) : Type 0 where
  pub denote : AllDenote words (numbers_of p)
  pub in_range : first_out (numbers_of p) ≡ None

-- this field is the first whose number is out of its range
pub record IsBadNumber (words : List (List ℕ)) (field : Field) : Type 0 where
  pub numbers : List ℕ
  pub denote : AllDenote words numbers
  pub first : first_out numbers ≡ Some field

-- How many lanes `--lanes` gives, from 1 to 16 as a canonical decimal; 4, where it isn't there.
abbrev pub AreLanes : Option (List ℕ) → ℕ → Type 0
AreLanes None k = k ≡ 4
AreLanes (Some word) k = (word ≡ decimal k) × (1 ≤ k) × (k ≤ 16)

-- it is there, and gives none of these
abbrev pub AreBadLanes : Option (List ℕ) → Type 0
AreBadLanes None = ⊥
AreBadLanes (Some word) = (k : ℕ) → 1 ≤ k → k ≤ 16 → word ≢ decimal k

-- The share that `--reads` or `--writes` gives: none, where it isn't there; 0, which fits no run, for a word that is no number.
abbrev pub IsShare : Option (List ℕ) → Option ℕ → Type 0
IsShare None share = share ≡ None
IsShare (Some word) share = (keys : ℕ) × (share ≡ Some keys) × Denotes word keys

-- and both
pub record AreShares (asked : AskedShares) (shares : Shares) : Type 0 where
  pub reads : IsShare asked.reads shares.reads
  pub writes : IsShare asked.writes shares.writes

-- How many transactions a self-test has, at most 10,000, as a canonical decimal.
abbrev pub IsCount : List ℕ → ℕ → Type 0
IsCount word n = (word ≡ decimal n) × (n ≤ 10000)

-- the word is none of these
abbrev pub IsBadCount : List ℕ → Type 0
IsBadCount word = (n : ℕ) → n ≤ 10000 → word ≢ decimal n

-- the command over a store of a request, whose numbers are in range
abbrev pub IsCommandOf : Asked → Command → Type 0
IsCommandOf (format_asked store keys numbers trace) (Format p traced) = AreParams numbers p × (traced ≡ is_some trace)
IsCommandOf (run_asked store keys lanes turns trace mirror limits) (Run k by_hand traced mirrored shares) = AreLanes lanes k × (by_hand ≡ turns) × (traced ≡ is_some trace) × (mirrored ≡ is_some mirror) × AreShares limits shares
IsCommandOf _ _ = ⊥

-- what a request asks for
abbrev pub IsWorkOf : Asked → Work → Type 0
IsWorkOf asked Audit = asked ≡ audit_asked
IsWorkOf asked (Drill n) = (word : List ℕ) × (asked ≡ drill_asked word) × IsCount word n
IsWorkOf asked (OnStore command) = IsCommandOf asked command

-- the first number of a request that is out of its range
abbrev pub IsOutOfRange : Asked → Field → Type 0
IsOutOfRange (format_asked store keys numbers trace) field = IsBadNumber numbers field
IsOutOfRange (run_asked store keys lanes turns trace mirror limits) field = (field ≡ LANES) × AreBadLanes lanes
IsOutOfRange audit_asked field = ⊥
IsOutOfRange (drill_asked count) field = (field ≡ COUNT) × IsBadCount count

-- the words ask for this over a store
abbrev pub Asks : List (List ℕ) → Command → Type 0
Asks words command = (asked : Asked) × (asked_by words ≡ Some asked) × IsCommandOf asked command

-- the words ask for this
abbrev pub AskFor : List (List ℕ) → Work → Type 0
AskFor words work = (asked : Asked) × (asked_by words ≡ Some asked) × IsWorkOf asked work

-- They ask for nothing, since they are no command with its operands and options, or since a number is out of its range; or memory was wanting.
abbrev pub IsRefusedFor : List (List ℕ) → Fault → Type 0
IsRefusedFor words Usage = asked_by words ≡ None
IsRefusedFor words (BadParams field) = (asked : Asked) × (asked_by words ≡ Some asked) × IsOutOfRange asked field
IsRefusedFor words Memory = Unit {0}
IsRefusedFor words _ = ⊥

-- a request's store: its path, and whether it may be made
abbrev pub store_file : Asked → Option (List ℕ × Bool)
store_file (format_asked store keys numbers trace) = Some (store, true)
store_file (run_asked store keys lanes turns trace mirror limits) = Some (store, false)
store_file audit_asked = None
store_file (drill_asked count) = None

-- the path of its keys
abbrev pub keys_file : Asked → Option (List ℕ)
keys_file (format_asked store keys numbers trace) = Some keys
keys_file (run_asked store keys lanes turns trace mirror limits) = Some keys
keys_file audit_asked = None
keys_file (drill_asked count) = None

-- the path of its trace, where it is given
abbrev pub trace_file : Asked → Option (List ℕ)
trace_file (format_asked store keys numbers trace) = trace
trace_file (run_asked store keys lanes turns trace mirror limits) = trace
trace_file audit_asked = None
trace_file (drill_asked count) = None

-- the path of the store's mirror, where it is given
abbrev pub mirror_file : Asked → Option (List ℕ)
mirror_file (format_asked store keys numbers trace) = None
mirror_file (run_asked store keys lanes turns trace mirror limits) = mirror
mirror_file audit_asked = None
mirror_file (drill_asked count) = None

-- The files that a request calls for: none, where a number is out of its range, for an audit, or for a self-test.
abbrev pub AreFilesOf : Asked → Option (List ℕ × Bool) → Option (List ℕ) → Option (List ℕ) → Option (List ℕ) → Type 0
AreFilesOf asked store keys trace mirror =
    ((field : Field) × IsOutOfRange asked field × (store ≡ None) × (keys ≡ None) × (trace ≡ None) × (mirror ≡ None))
    ⊎ ((work : Work) × IsWorkOf asked work × (store ≡ store_file asked) × (keys ≡ keys_file asked) × (trace ≡ trace_file asked) × (mirror ≡ mirror_file asked))

-- The files that the words call for: none, where they are no command with its operands and options.
abbrev pub AreWanted : List (List ℕ) → Option (List ℕ × Bool) → Option (List ℕ) → Option (List ℕ) → Option (List ℕ) → Type 0
AreWanted words store keys trace mirror =
    ((asked_by words ≡ None) × (store ≡ None) × (keys ≡ None) × (trace ≡ None) × (mirror ≡ None))
    ⊎ ((asked : Asked) × (asked_by words ≡ Some asked) × AreFilesOf asked store keys trace mirror)

-- The digits of a text are those of three keys of 32 bytes each.
pub record AreKeys (text : List ℕ) (keys : Keys) : Type 0 where
  pub spelled : decode_of (digits_of text) ≡ Ok (keys.seal ++ keys.tag ++ keys.tape)
  pub seal_whole : length keys.seal ≡ 32
  pub tag_whole : length keys.tag ≡ 32
  pub tape_whole : length keys.tape ≡ 32

-- the keys that were handed in, where a text of keys was
abbrev pub HasKeys : Option (Bor (List ℕ)) → Keys → Type 0
HasKeys None keys = ⊥
HasKeys (Some text) keys = AreKeys text.now keys

-- There was no text; or it is none of keys.
abbrev pub IsKeysRefused : Option (Bor (List ℕ)) → Fault → Type 0
IsKeysRefused None fault = fault ≡ SourceFault
IsKeysRefused (Some text) fault = (fault ≡ BadParams KEYS) × (IsKeyText text.now → ⊥)

-- The tape's key is the third of the keys; and zeros where the keys are refused.
abbrev pub IsTapeKey : Option (Bor (List ℕ)) → List ℕ → Type 0
IsTapeKey text key = ((keys : Keys) × HasKeys text keys × (key ≡ keys.tape)) ⊎ (((fault : Fault) × IsKeysRefused text fault) × (key ≡ replicate 32 0))
