-- What the top call promises, command by command.
use Rattle.std.specs.Prelude.{ℕ, ◌≡◌, ◌⊎◌, Bool, true, false, not, List, Option, Some, None}
use Rattle.std.specs.Borrow.{MutBor}
use Rattle.ob_base.specs.declared.params.Params.{Params}
use Rattle.ob_base.specs.declared.fault.Field.{Field}
use Rattle.ob_base.specs.declared.fault.Field.TheVariants.{LANES, COUNT}
use Rattle.ob_base.specs.declared.fault.Fault.{Fault}
use Rattle.ob_base.specs.declared.fault.Fault.TheVariants.{Memory, Usage, BadParams, StoreFault, SinkFault}
use Rattle.std.specs.Borrow.{Bor}
use Rattle.ob_seal.specs.declared.keys.Keys.{Keys}
use Rattle.ob_store.specs.Disk.{Disk}
use Rattle.ob_store.specs.Lines.{Trace, open_line, start_line}
use Rattle.ob_io.specs.Streams.{Flow}
use Rattle.ob_shares.specs.declared.shares.Shares.{Shares}
use Rattle.ob_desk.specs.Beats.{BeatKind}
use Rattle.ob_words.specs.Reading.{AskedShares, asked_by, format_asked, run_asked, audit_asked, drill_asked}
use Rattle.ob_words.specs.Work.{AreParams, IsBadNumber, AreLanes, AreBadLanes, AreShares, IsCount, IsBadCount, HasKeys, IsKeysRefused}
use Rattle.ob_top.specs.Outside.{Given, HasTrace, Outside, Left, OfStore, IsOnlyTold, blind}
use Rattle.ob_top.specs.Audits.{AuditDone}
use Rattle.ob_top.specs.Drills.{DrillDone}
use Rattle.ob_top.specs.Formats.{FormatDone}
use Rattle.ob_vault.specs.RingKind.{ring_kind}
use Rattle.ob_vault.specs.RingLives.{ring_lives}
use Rattle.ob_top.specs.Audited.{ring_audits}
use Rattle.ob_top.specs.Runs.{RunDone}
use Rattle.ob_top.specs.Parts.{manner}

module _ {S W : Type 0} (flow : W → Flow) (was is : Option W) (before after : Outside) (status : ℕ) where
  -- What was done over a store, under a watch of the trace. With `--trace` there must be one, and its first line be written: else the output's
  -- fault is told, before the store is touched. Without it the trace is as it was.
  abbrev pub ByTrace : Option (List ℕ) → (first : List ℕ) → (Trace → Trace → Type 0) → S → S → Type 0
  ByTrace None first Done old new = (is ≡ was) × Done blind blind
  ByTrace (Some file) first Done old new = ((was ≡ None) × (is ≡ was) × (new ≡ old) × IsOnlyTold SinkFault before after status)
      ⊎ ((t : Trace) × (u : Trace) × HasTrace flow first was is t u × (((t.broken ≡ true) × (u ≡ t) × (new ≡ old) × IsOnlyTold SinkFault before after status) ⊎ ((t.broken ≡ false) × Done t u)))

module _ {S W : Type 0} (disk : S → Disk) (flow : W → Flow) (beat : BeatKind) (words : List (List ℕ)) (text : Option (Bor (List ℕ))) (entry : Option (MutBor S)) (exit : Left S) (was is : Option W) (before after : Outside) (status : ℕ) where
  -- a store that was handed in is as it was
  abbrev pub StoreKept : Type 0
  StoreKept = OfStore entry exit (Unit {0}) (λ old new. new ≡ old)

  -- and so is the trace that was
  abbrev pub TraceKept : Type 0
  TraceKept = is ≡ was

  -- Nothing was touched but the output, and this was told.
  abbrev pub Refuses : Fault → Type 0
  Refuses fault = (StoreKept × TraceKept) × IsOnlyTold fault before after status

  -- there is no store, and that is told
  abbrev pub HasNoStore : Type 0
  HasNoStore = TraceKept × IsOnlyTold (StoreFault None) before after status

  -- Words that the parse refuses: Usage, unless memory was wanting.
  abbrev pub UsageDoes : Type 0
  UsageDoes = asked_by words ≡ None → Refuses Usage ⊎ Refuses Memory

  -- `audit`: want of memory for the words is told; else the trace that comes in is answered, and nothing but the input and the output is
  -- touched.
  abbrev pub AuditDoes : Type 0
  AuditDoes = asked_by words ≡ Some audit_asked → Refuses Memory ⊎ ((StoreKept × TraceKept) × AuditDone before after status)

  -- `drill`: want of memory for the words is told, then a count out of its range; else the self-test is made, over a store of its own.
  -- Nothing but the output is touched.
  abbrev pub DrillDoes : Type 0
  DrillDoes = (word : List ℕ) → asked_by words ≡ Some (drill_asked word) →
      Refuses Memory ⊎ ((IsBadCount word × Refuses (BadParams COUNT)) ⊎ ((n : ℕ) × IsCount word n × (StoreKept × TraceKept) × DrillDone n before after status))

  -- The keys were not read, or are none: that is told before anything is touched.
  abbrev pub KeysDo : Type 0
  KeysDo = (fault : Fault) × IsKeysRefused text fault × Refuses fault

  -- `format`: want of memory for the words is told, then the first number out of its range, then what is wrong with the keys, then that
  -- there is no store, before anything is touched. Behind it the tape has given this.
  abbrev pub FormatDoes : (tape : Given) → Type 0
  FormatDoes tape = (store_path keys_path : List ℕ) (numbers : List (List ℕ)) (trace : Option (List ℕ)) → asked_by words ≡ Some (format_asked store_path keys_path numbers trace) →
      Refuses Memory
      ⊎ (((field : Field) × IsBadNumber numbers field × Refuses (BadParams field))
      ⊎ ((p : Params) × AreParams numbers p × (KeysDo
      ⊎ ((keys : Keys) × HasKeys text keys × OfStore entry exit HasNoStore (λ old new. ByTrace flow was is before after status trace (start_line p) (λ t u. FormatDone ring_kind ring_lives ring_audits disk tape keys p old new before after t u status) old new)))))

  -- `run`: want of memory for the words is told, then lanes out of their range, then what is wrong with the keys, then that there is no
  -- store, before anything is touched. With `--turns` all clients are made by hand; so many lanes share a phase's reads; and each
  -- client has these shares. Behind it the tape has given this.
  abbrev pub RunDoes : (tape : Given) → Type 0
  RunDoes tape = (store_path keys_path : List ℕ) (lanes : Option (List ℕ)) (turns : Bool) (trace mirror : Option (List ℕ)) (limits : AskedShares) → asked_by words ≡ Some (run_asked store_path keys_path lanes turns trace mirror limits) →
      Refuses Memory
      ⊎ ((AreBadLanes lanes × Refuses (BadParams LANES))
      ⊎ ((k : ℕ) × AreLanes lanes k × (shares : Shares) × AreShares limits shares × (KeysDo
      ⊎ ((keys : Keys) × HasKeys text keys × OfStore entry exit HasNoStore (λ old new. ByTrace flow was is before after status trace (open_line false) (λ t u. RunDone ring_kind ring_lives ring_audits disk (manner beat (not turns) k shares) tape keys old new before after t u status) old new)))))
