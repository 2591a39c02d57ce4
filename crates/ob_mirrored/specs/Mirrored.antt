-- What the top call does of a store and a second one.
use Rattle.std.specs.Prelude.{◌≡◌, ◌⊎◌, ℕ, Bool, true, false, not, List, Option, Some, None}
use Rattle.std.specs.Borrow.{Bor, MutBor}
use Rattle.std.proofs.Common.{inl, inr}
use Rattle.ob_base.specs.declared.fault.Fault.{Fault}
use Rattle.ob_base.specs.declared.fault.Fault.TheVariants.{BadParams, Memory, SinkFault, StoreFault}
use Rattle.ob_base.specs.declared.fault.Field.TheVariants.{LANES}
use Rattle.ob_desk.specs.Beats.{BeatKind}
use Rattle.ob_io.specs.Streams.{Flow}
use Rattle.ob_seal.specs.declared.keys.Keys.{Keys}
use Rattle.ob_store.specs.Disk.{Disk}
use Rattle.ob_store.specs.Lines.{Trace, open_line}
use Rattle.ob_words.specs.Work.{AreBadLanes, HasKeys, IsKeysRefused}
use Rattle.ob_top.specs.Outside.{Given, HasTrace, IsOnlyTold, Left, OfStore, Outside, blind}
use Rattle.ob_top.specs.Parts.{Manner, manner}
use Rattle.ob_mirrored.specs.Asked.{AsksForMirror, IsRunOf}
use Rattle.ob_mirrored.specs.declared.asked.MirrorRun.{MirrorRun}
use Rattle.ob_mirrored.specs.Over.{OverBoth}
use Rattle.ob_mirrored.specs.Tops.{TopDoes}

-- A fact of the second store that was handed in, as it was and as it is left, where there is one; and a fact for the case that there is none.
abbrev pub OfSecond : {B : Type 0} → Option B → Option B → Type 0 → (B → B → Type 0) → Type 0
OfSecond (Some b) (Some d) without with_one = with_one b d
OfSecond None None without with_one = without
OfSecond (Some b) None without with_one = ⊥
OfSecond None (Some d) without with_one = ⊥

-- no lane of it is out
abbrev pub SecondIn : {B : Type 0} → (B → Disk) → Option B → Type 0
SecondIn two (Some b) = (two b).out ≡ 0
SecondIn two None = Unit {0}

-- it is there as before, and no lane of it is out
abbrev pub SecondStays : {B : Type 0} → (B → Disk) → Option B → Option B → Type 0
SecondStays two first last = OfSecond first last (Unit {0}) (λ b d. (two d).out ≡ 0)

-- no lane is out of a store that was handed in
abbrev pub StoreStays : {S : Type 0} → (S → Disk) → Option (MutBor S) → Left S → Type 0
StoreStays disk entry exit = OfStore entry exit (Unit {0}) (λ old new. (disk new).out ≡ 0)

-- a trace is asked for, and none was handed in
abbrev pub LacksTrace : {W : Type 0} → Option W → (traced : Bool) → Type 0
LacksTrace was true = was ≡ None
LacksTrace was false = ⊥

module _ {X A B W : Type 0} (disk : X → Disk) (first_of : X → A) (second_of : X → B) (one : A → Disk) (two : B → Disk) (flow : W → Flow) (was is : Option W) (before after : Outside) (status : ℕ) (tape : Given) where
  -- Nothing was touched but the output, and this was told.
  abbrev pub LeavesBoth : (a c : A) → (first last : Option B) → Fault → Type 0
  LeavesBoth a c first last fault = (c ≡ a) × (last ≡ first) × (is ≡ was) × IsOnlyTold fault before after status

  -- Without `--trace` the trace is as it was. With it its first line, which tells of the mirror, is written first: where that broke it the output's
  -- fault is told, before either store is touched; else both are run over under a watch of it.
  abbrev pub UnderTrace : (traced : Bool) → Manner → Keys → (a c : A) → (b d : B) → Type 0
  UnderTrace false by keys a c b d = (is ≡ was) × OverBoth disk first_of second_of one two by before after status tape keys a c b d blind blind
  UnderTrace true by keys a c b d = (t : Trace) × (u : Trace) × HasTrace flow (open_line true) was is t u × (((t.broken ≡ true) × (u ≡ t) × (c ≡ a) × (d ≡ b) × IsOnlyTold SinkFault before after status)
      ⊎ ((t.broken ≡ false) × OverBoth disk first_of second_of one two by before after status tape keys a c b d t u))

  -- That no trace was handed in though one is asked for is told, and then that there is no second store, before anything is touched.
  abbrev pub BothDo : (traced : Bool) → Manner → Keys → (a c : A) → (first last : Option B) → Type 0
  BothDo traced by keys a c first last = (LacksTrace was traced × LeavesBoth a c first last SinkFault)
      ⊎ ((LacksTrace was traced → ⊥) × OfSecond first last (LeavesBoth a c first last (StoreFault None)) (λ b d. UnderTrace traced by keys a c b d))

module _ {X A B W : Type 0} (disk : X → Disk) (first_of : X → A) (second_of : X → B) (one : A → Disk) (two : B → Disk) (flow : W → Flow) (text : Option (Bor (List ℕ))) (entry : Option (MutBor A)) (exit : Left A) (first last : Option B) (was is : Option W)
    (before after : Outside) (status : ℕ) (tape : Given) where
  -- Nothing was touched but the output, and this was told.
  abbrev pub RefusesBoth : Fault → Type 0
  RefusesBoth fault = OfStore entry exit (Unit {0}) (λ old new. new ≡ old) × (last ≡ first) × (is ≡ was) × IsOnlyTold fault before after status

  -- The keys were not read, or are none.
  abbrev pub KeysRefused : Type 0
  KeysRefused = (fault : Fault) × IsKeysRefused text fault × RefusesBoth fault

  -- A run with a mirror, the numbers being in range: what is wrong with the keys is told, then that there is no store, before anything is touched.
  -- Else, where a trace that is asked for and a second store are there too, the head of the first is read, both are joined, and it is run over both.
  abbrev pub MirrorDoes : (traced : Bool) → Manner → Type 0
  MirrorDoes traced by = KeysRefused ⊎ ((keys : Keys) × HasKeys text keys × OfStore entry exit (RefusesBoth (StoreFault None)) (λ a c.
      BothDo disk first_of second_of one two flow was is before after status tape traced by keys a c first last))

  -- Before that want of memory for the words is told, and then lanes out of their range. With `--turns` all clients are made by hand; so many
  -- lanes share a phase's reads; and each client has these shares.
  abbrev pub MirroredDoes : BeatKind → List (List ℕ) → Type 0
  MirroredDoes beat words = (lanes : Option (List ℕ)) (asks : AsksForMirror words lanes) → RefusesBoth Memory ⊎ ((AreBadLanes lanes × RefusesBoth (BadParams LANES))
      ⊎ ((run : MirrorRun) × IsRunOf asks run × MirrorDoes run.traced (manner beat (not run.turns) run.lanes run.shares)))

-- Words that ask for no mirror: the top call does what it does, and the second store is as it was.
abbrev pub AloneDoes : {S B W : Type 0} → (S → Disk) → (W → Flow) → BeatKind → List (List ℕ) → Option (Bor (List ℕ)) → Option (MutBor S) → Left S → (first last : Option B) → (was is : Option W) → (before after : Outside) → (status : ℕ) → (tape : Given) → Type 0
AloneDoes disk flow beat words text entry exit first last was is before after status tape = ((lanes : Option (List ℕ)) → AsksForMirror words lanes → ⊥) → TopDoes disk flow beat words text entry exit was is before after status tape × (last ≡ first)

-- what was left behind a reference that was handed in
abbrev pub left_behind : {S : Type 0} → MutBor S → Left S
left_behind left = inr (inl (left, tt))

-- why nothing is run without a store: what is wrong with the keys, or else that there is none
abbrev pub IsToldWithout : Option (Bor (List ℕ)) → Fault → Type 0
IsToldWithout text fault = IsKeysRefused text fault ⊎ (((keys : Keys) × HasKeys text keys) × (fault ≡ StoreFault None))
