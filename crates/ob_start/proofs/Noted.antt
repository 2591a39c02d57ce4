-- What is told of the reads of a call that may fail.
use Rattle.std.proofs.Common.{◌≡◌, ℕ, List, ◌++◌, Option, None, Result, Ok, Err, IfErr, sym, subst}
use mathlib.Core.Path.{fun_ext}
use Rattle.ob_base.specs.declared.fault.Fault.{Fault}
use Rattle.ob_base.specs.declared.fault.Fault.TheVariants.{Memory, Usage, BadScript, BadParams, NotStore, Damaged, StoreFault, StashFull, Worn, SourceFault, SinkFault}
use Rattle.ob_store.specs.declared.event.Event.{Event}
use Rattle.ob_store.specs.declared.watch.Note.{Note}
use Rattle.ob_store.specs.Disk.{Image}
use Rattle.ob_store.specs.Calls.{IsStoreFault}
use Rattle.ob_store.specs.Lines.{Trace}
use Rattle.ob_store.specs.Told.{Tells, TellsFirst}
use Rattle.ob_store.proofs.Doing.{first_more, first_behind, first_all}
use Rattle.ob_seal.specs.declared.keys.Keys.{Keys}
use Rattle.ob_twin.specs.Got.{DoesReads}
use Rattle.ob_start.specs.declared.registers.Register.{Register}
use Rattle.ob_start.specs.Registers.{IsRegister}

-- the store failed at the first reads,
pub reads_cut : (V : Type 0) (xs ys : List Note) (a b : Option (List Event)) (k l : Trace) (f : Fault) → f ≡ StoreFault None → TellsFirst xs a b k l → DoesReads {V = V} (xs ++ ys) a b k l (Err f)
reads_cut V xs ys a b k l f is first = subst (λ (e : Fault). DoesReads {V = V} (xs ++ ys) a b k l (Err e)) (sym is) (first_more a b k l xs ys first)

-- or at those behind them
pub reads_cut_then : (V : Type 0) (xs ys : List Note) (a b c : Option (List Event)) (k l m : Trace) (f : Fault) → f ≡ StoreFault None → Tells xs xs a b k l → TellsFirst ys b c l m → DoesReads {V = V} (xs ++ ys) a c k m (Err f)
reads_cut_then V xs ys a b c k l m f is all first = subst (λ (e : Fault). DoesReads {V = V} (xs ++ ys) a c k m (Err e)) (sym is) (first_behind a b c k l m xs ys all first)

-- a refusal that isn't the store's comes behind all reads
pub reads_own : {V : Type 0} (notes : List Note) (a b : Option (List Event)) (k l : Trace) (r : Result V Fault) → IfErr r (λ f. IsStoreFault f → ⊥) → Tells notes notes a b k l → DoesReads notes a b k l r
reads_own notes a b k l (Ok v) own tells = tells
reads_own notes a b k l (Err (StoreFault unsure)) own tells = absurd (own tt)
reads_own notes a b k l (Err Memory) own tells = tells
reads_own notes a b k l (Err Usage) own tells = tells
reads_own notes a b k l (Err (BadScript line)) own tells = tells
reads_own notes a b k l (Err (BadParams field)) own tells = tells
reads_own notes a b k l (Err NotStore) own tells = tells
reads_own notes a b k l (Err (Damaged cell check kept computed)) own tells = tells
reads_own notes a b k l (Err (StashFull rows)) own tells = tells
reads_own notes a b k l (Err (Worn number)) own tells = tells
reads_own notes a b k l (Err SourceFault) own tells = tells
reads_own notes a b k l (Err SinkFault) own tells = tells

-- what is told of a refused call is some of its reads
pub reads_front : (V : Type 0) (notes : List Note) (a b : Option (List Event)) (k l : Trace) (f : Fault) → DoesReads {V = V} notes a b k l (Err f) → TellsFirst notes a b k l
reads_front V notes a b k l (StoreFault unsure) tells = tells
reads_front V notes a b k l Memory tells = first_all a b k l notes tells
reads_front V notes a b k l Usage tells = first_all a b k l notes tells
reads_front V notes a b k l (BadScript line) tells = first_all a b k l notes tells
reads_front V notes a b k l (BadParams field) tells = first_all a b k l notes tells
reads_front V notes a b k l NotStore tells = first_all a b k l notes tells
reads_front V notes a b k l (Damaged cell check kept computed) tells = first_all a b k l notes tells
reads_front V notes a b k l (StashFull rows) tells = first_all a b k l notes tells
reads_front V notes a b k l (Worn number) tells = first_all a b k l notes tells
reads_front V notes a b k l SourceFault tells = first_all a b k l notes tells
reads_front V notes a b k l SinkFault tells = first_all a b k l notes tells

-- the same cells have the same registers
pub register_alike : (keys : Keys) (first : ℕ) (a b : Image) (r : Register) → ((k : ℕ) → a k ≡ b k) → IsRegister keys first a r → IsRegister keys first b r
register_alike keys first a b r same is = subst (λ (image : Image). IsRegister keys first image r) (fun_ext (λ k. same k)) is
