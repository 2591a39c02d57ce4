-- What the top call promises by the headline: a run that was served, or what a refusal before that leaves.
use Rattle.std.specs.Prelude.{ℕ, suc, ◌≡◌, ◌⊎◌, ◌^◌, Bool, false, not, List, ◌++◌, Option, Some, None, true}
use Rattle.std.specs.Borrow.{Bor, MutBor}
use Rattle.ob_base.specs.Causes.{Rose}
use Rattle.ob_base.specs.declared.fault.Fault.{Fault}
use Rattle.ob_base.specs.declared.fault.Fault.TheVariants.{Memory, BadParams, BadScript, StoreFault, Worn, SourceFault, SinkFault}
use Rattle.ob_base.specs.declared.params.Params.{Params}
use Rattle.ob_shares.specs.declared.shares.Shares.{Shares}
use Rattle.ob_desk.specs.Beats.{BeatKind}
use Rattle.ob_io.specs.Flows.{IsInput}
use Rattle.ob_io.specs.Streams.{Flow}
use Rattle.ob_opening.specs.OpeningActs.{StandsInLife}
use Rattle.ob_recover.specs.Life.{LifeAct}
use Rattle.ob_report.specs.Faults.{fault_line, fault_status}
use Rattle.ob_report.specs.Printed.{IsPrinted}
use Rattle.ob_script.specs.Script.{Scripts, IsFirstBad, limit}
use Rattle.ob_seal.specs.declared.keys.Keys.{Keys}
use Rattle.ob_serial.specs.Vaults.{Standing}
use Rattle.ob_store.specs.Disk.{Disk, Image}
use Rattle.ob_store.specs.Images.{LeavesOnly}
use Rattle.ob_twin.specs.Clear.{AreInClearBut}
use Rattle.ob_twin.specs.Keyed.{tagging}
use Rattle.ob_vault.specs.Kinds.{AllStand, StandsAsBefore}
use Rattle.ob_vault.specs.Lives.{opening_acts}
use Rattle.ob_vault.specs.RingKind.{ring_kind}
use Rattle.ob_words.specs.Reading.{AskedShares, asked_by, run_asked}
use Rattle.ob_words.specs.Work.{AreLanes, AreShares, HasKeys}
use Rattle.ob_top.specs.Calls.{RunCall}
use Rattle.ob_top.specs.Headline.{Headline, RunTold, Stood}
use Rattle.ob_top.specs.Outside.{Given, Left, OfStore, Outside}
use Rattle.ob_top.specs.Pasts.{LeadsTo, PastLife, life_of, with_acts}
use Rattle.ob_top.specs.Parts.{CameIn, IsShareRefused, manner}

-- Why nothing was run over a store that stood: memory was wanting; the store failed; the input did, or has this first line that breaks the
-- grammar; the clients of the script that came in may not have a share; the trace's sink failed, or none was handed in though it is asked for; or no generation is left.
abbrev pub IsEarlyCause : {S : Type 0} → (S → Disk) → Params → PastLife → RunCall S → Fault → Type 0
IsEarlyCause disk p past call Memory = Unit {0}
IsEarlyCause disk p past call (StoreFault unsure) = Rose (disk call.old).faults (disk call.new).faults
IsEarlyCause disk p past call SourceFault = Rose call.before.input.faults call.after.input.faults
IsEarlyCause disk p past call (BadScript line) = (input : List ℕ) × IsInput call.before.input.bytes limit input × IsFirstBad p.keys input line
IsEarlyCause disk p past call (BadParams field) = (script : Scripts) × CameIn p.keys call.before.input script × IsShareRefused p script call.by.shares field
IsEarlyCause disk p past call SinkFault = (call.lacks_trace ≡ true) ⊎ Rose call.traced_before call.traced_after
IsEarlyCause disk p past call (Worn number) = suc (life_of p past).generation ≡ 2 ^ 62
IsEarlyCause disk p past call _ = ⊥

-- Nothing was run, for a cause, and the output is that fault's line. Each image that a crash leaves stands as one did before; and where each one
-- that it might have left was where the past leads, the next run goes on from each, behind some of an opening's acts.
pub record Unserved {S : Type 0} (disk : S → Disk) (keys : Keys) (p : Params) (past : PastLife) (call : RunCall S) : Type 0 where
  pub fault : Fault
  pub status_is : call.status ≡ fault_status fault
  pub output : IsPrinted call.before.output call.after.output (fault_line (Some fault))
  pub cause : IsEarlyCause disk p past call fault
  pub opening : LeavesOnly (disk call.old) (disk call.new) (StandsAsBefore ring_kind keys p (disk call.old))
  pub sound : AllStand ring_kind keys p (disk call.new)
  -- in the clear each cell of head and registers is as it was, or has what a register writes, but for one whose write the store refused
  pub clear : (disk call.new).tells → AreInClearBut (tagging keys) (disk call.new).seen (disk call.old).cells (disk call.new).cells
  pub again : ((d : Image) → (disk call.old).may_leave d → StandsInLife keys p past.word_of (life_of p past) d) → (c : Image) → (disk call.new).may_leave c
      → (made : List LifeAct) × (rest : List LifeAct) × (opening_acts (life_of p past) ≡ made ++ rest) × LeadsTo keys p (with_acts past made) c

-- The run came to something, of which the headline holds; or it was refused, or cut off, before its first transaction.
abbrev pub Promised : {S : Type 0} → (S → Disk) → Keys → Params → Standing → PastLife → RunCall S → Type 0
Promised {S} disk keys p at past call = ((run : RunTold S) × Headline disk keys p at past call run) ⊎ Unserved disk keys p past call

-- how often the sink of a trace had failed, where there is one
abbrev pub faults_of : {W : Type 0} → (W → Flow) → Option W → ℕ
faults_of flow None = 0
faults_of flow (Some w) = (flow w).faults

-- a trace is asked for, and none is there
abbrev pub is_lacking : {W : Type 0} → Option (List ℕ) → Option W → Bool
is_lacking (Some file) None = true
is_lacking (Some file) (Some w) = false
is_lacking None was = false

-- The words ask for `run`, with lanes in range and these shares, the keys are keys, and a store was handed in that stood.
module _ {S W : Type 0} (disk : S → Disk) (flow : W → Flow) (beat : BeatKind) (words : List (List ℕ)) (text : Option (Bor (List ℕ))) (entry : Option (MutBor S)) (exit : Left S) (was is : Option W) (before after : Outside) (status : ℕ) (tape : Given) where
  abbrev pub KeepsHeadline : Type 0
  KeepsHeadline = (store_path keys_path : List ℕ) (lanes : Option (List ℕ)) (turns : Bool) (trace mirror : Option (List ℕ)) (limits : AskedShares) (k : ℕ) (shares : Shares) (keys : Keys)
      → asked_by words ≡ Some (run_asked store_path keys_path lanes turns trace mirror limits) → AreLanes lanes k → AreShares limits shares → HasKeys text keys
      → OfStore entry exit (Unit {0}) (λ old new. (p : Params) (at : Standing) (past : PastLife) → Stood disk keys p at past tape old → Promised disk keys p at past (record {
        old = old;
        new = new;
        before = before;
        after = after;
        lacks_trace = is_lacking trace was;
        traced_before = faults_of flow was;
        traced_after = faults_of flow is;
        by = manner beat (not turns) k shares;
        tape = tape;
        status = status;
      }))
