-- What an end seals, leaves of the register of generations, and tells damaged; and an end as an act of its store's life.
use Rattle.std.specs.Prelude.{◌≡◌, ℕ, ◌≤◌, ◌^◌, List, length, Result, Ok, Err}
use Rattle.std.proofs.Common.{◌∙◌, ap, arith, inl, inr, length-append, refl, sym, subst}
use mathlib.Core.Path.{fun_ext}
use Rattle.ob_base.specs.declared.fault.Fault.{Fault}
use Rattle.ob_base.specs.declared.params.Params.{Params}
use Rattle.ob_base.specs.declared.value.Write.{Write}
use Rattle.ob_tables.specs.Version.{Version}
use Rattle.ob_tables.specs.declared.entry.Entry.{Entry}
use Rattle.ob_cells.specs.Runs.{IsFurther}
use Rattle.ob_end.specs.Lifts.{IsUndamaged}
use Rattle.ob_end.specs.EndWrites.{SameFirst}
use Rattle.ob_fetch.specs.declared.run.Run.{Run}
use Rattle.ob_fetch.specs.Fetches.{RunIsAt, RunsAt}
use Rattle.ob_pads.specs.Lives.{Answers, IsAtGeneration}
use Rattle.ob_pads.specs.Seals.{CellsAreSealed, SealsBy, answer_of_end}
use Rattle.ob_pads.proofs.Sealing.{ended_clear, none_sealed, sealed_join}
use Rattle.ob_ring.specs.FlatTable.{FlatTable}
use Rattle.ob_seal.specs.Sealing.{Sealing}
use Rattle.ob_seal.specs.declared.keys.Keys.{Keys}
use Rattle.ob_serial.specs.declared.vault.EndErr.{EndErr}
use Rattle.ob_serial.specs.declared.vault.EndErr.TheVariants as end
use Rattle.ob_stand.specs.Stands.{RingStanding, Stands}
use Rattle.ob_store.specs.Calls.{GoesOn}
use Rattle.ob_store.specs.Disk.{Disk, Image}
use Rattle.ob_store.specs.Images.{Passes, Same}
use Rattle.ob_store.proofs.Moments.{leaves_of, passed_then, passes_so}
use Rattle.ob_twin.proofs.Frames.{register_moved}
use Rattle.ob_twin.specs.Clear.{InClearBy}
use Rattle.ob_twin.specs.Keyed.{tagging}
use Rattle.ob_twin.specs.Refused.{IsSetFault}
use Rattle.ob_twin.specs.Register.{SameOutside}
use Rattle.ob_twin.specs.declared.set_err.SetErr.{SetErr}
use Rattle.ob_twin.specs.declared.set_err.SetErr.TheVariants as set
use Rattle.ob_twin.specs.declared.twin.Twin.TheVariants.{EPOCH}
use Rattle.ob_end.specs.Closings.{IfWritten, SameGeneration}
use Rattle.ob_end.specs.EndRuns.{DrawsForEnd, EndDamage, IfEnded, IsEndUndamaged, MakeDamage, MayEndEpoch, end_err_of}

-- ---- what is sealed

-- the epoch's register behind cells that were sealed
pub set_sealed : (many : ℕ) (was now : Sealing) (old mid new : Image) → IsFurther many was now → CellsAreSealed was now old mid → SameOutside 5 new mid → CellsAreSealed was now old new
set_sealed many was now old mid new on first rest =
    sealed_join was now now old mid new
    (record { keys = on.keys; generation = on.generation; on = on.on })
    (record { keys = λ i. now.keys; generation = λ i. now.generation; on = omega arith })
    first
    (none_sealed now now mid new (λ cell low. inl (rest cell (inr low))))

-- from the sealer and the image before the lifts, which seal nothing and write nothing
pub sealed_from : (was mid now : Sealing) (old mids new : Image) → mid ≡ was → ((k : ℕ) → mids k ≡ old k) → CellsAreSealed mid now mids new → CellsAreSealed was now old new
sealed_from was mid now old mids new same kept sealed =
    subst (λ (s : Sealing). CellsAreSealed s now old new) same
    (subst (λ (i : Image). CellsAreSealed mid now i new) (fun_ext kept) sealed)

pub sealed_closed : (A B : Type 0) (x : SetErr) → (A → B) → IfWritten A (Err x) → IfEnded B (Err (end_err_of x))
sealed_closed A B (set.Before f) so a = tt
sealed_closed A B (set.Unsure f) so a = so a

-- ---- the register of generations

join : (c d e : Image) → SameGeneration c d → SameGeneration d e → SameGeneration c e
join c d e one two k lt = one k lt ∙ two k lt

pub written_moments : (old mid : Disk) → Passes SameFirst old mid → Passes SameGeneration old mid
written_moments old mid passes = passes_so SameFirst SameGeneration old mid (λ c d same k lt. same k (omega arith)) passes

pub set_moments : (old mid new : Disk) → Passes SameFirst old mid → Passes (SameOutside 5) mid new → Passes SameGeneration old new
set_moments old mid new first last =
    passed_then SameGeneration old mid new join (written_moments old mid first)
    (passes_so (SameOutside 5) SameGeneration mid new (λ c d same k lt. same k (inl lt)) last)

pub read_moments : (old mid : Disk) → Passes Same old mid → Passes SameGeneration old mid
read_moments old mid passes = passes_so Same SameGeneration old mid (λ c d same k lt. ap (λ (i : Image). i k) same) passes

pub end_moments : (old mid new : Disk) → Passes Same old mid → Passes SameGeneration mid new → Passes SameGeneration old new
end_moments old mid new first last = passed_then SameGeneration old mid new join (read_moments old mid first) last

-- ---- the act

pub further_same : (n : ℕ) (was now : Sealing) → now ≡ was → IsFurther n was now
further_same n was now same =
    let next : now.next ≡ was.next = ap (λ (s : Sealing). s.next) same in
    record { keys = ap (λ (s : Sealing). s.keys) same; generation = ap (λ (s : Sealing). s.generation) same; on = omega (arith, next); within = omega (arith, next) }

module _ {n : ℕ} (old new : Disk) (only : (c : Image) → old.left_since old.moment c → old.may_leave c) (was now : Sealing) (goes : GoesOn old new) (tells : new.tells) (further : IsFurther n was now) (moments : Passes SameGeneration old new) where
  abbrev stood : Image → Type 0
  stood = IsAtGeneration was.keys was.generation

  kept : (c d : Image) → SameGeneration c d → stood d → stood c
  kept c d same stands = register_moved (tagging was.keys) 1 was.generation c d (λ k from to. same k to) stands

  end_seals : (r : Result (Unit {0}) EndErr) → IfEnded (CellsAreSealed was now old.cells new.cells) r → SealsBy (answer_of_end r) was now old.cells new.cells
  end_seals (Ok done) sealed = sealed
  end_seals (Err (end.Before f)) sealed = tt
  end_seals (Err (end.Unsure f)) sealed = sealed

  pub end_acts : (r : Result (Unit {0}) EndErr) → IfEnded (CellsAreSealed was now old.cells new.cells) r → InClearBy (tagging was.keys) new.seen old.cells new.cells r → Answers old new was now (answer_of_end r)
  end_acts r sealed clear = record {
    goes = goes;
    tells = tells;
    further = record { keys = further.keys; generation = further.generation; on = further.on };
    seals = end_seals r sealed;
    clear = ended_clear r was.keys new.seen old.cells new.cells clear;
    images = λ all. leaves_of SameGeneration stood stood old new moments only (λ c left. all c (inl left)) (λ told. all old.cells (inr (told, refl))) (λ c d stands step. kept c d step stands) (λ c stands. stands);
  }

-- no more words than there are were drawn
pub few_drawn : (p : Params) (t : FlatTable) (epoch drawn next : ℕ) (ws : List (Write × Entry)) (now : ℕ) (old new : List ℕ) → MayEndEpoch p t epoch drawn next ws → DrawsForEnd p t epoch drawn old new → drawn ≡ length old → now ≡ length new → now ≤ 2 ^ 62
few_drawn p t epoch drawn next ws now old new may draws was is =
    let words = ap (λ (l : List ℕ). length l) draws.words in let many = draws.many_are in let few = (may.has).words in omega (arith, few, was, is, words, many, length-append {A = ℕ})

-- ---- damage

module _ (keys : Keys) (p : Params) (versions : List Version) (t : FlatTable) where
  pub damage_made : (old mid : Image) (f : Fault) → ((k : ℕ) → mid k ≡ old k) → MakeDamage keys p versions old t (Err f) → MakeDamage keys p versions mid t (Err f)
  damage_made old mid f kept damage = subst (λ (i : Image). MakeDamage keys p versions i t (Err f)) (sym (fun_ext kept)) damage

  pub damage_closed : (image : Image) (n : ℕ) (x : SetErr) → IsSetFault EPOCH n x → EndDamage keys p versions image t (Err (end_err_of x))
  damage_closed image n (set.Before f) is = subst (λ (y : Fault). MakeDamage keys p versions image t (Err y)) (sym is) tt
  damage_closed image n (set.Unsure f) is = tt

pub undamaged_closed : (n : ℕ) (x : SetErr) → IsSetFault EPOCH n x → IsEndUndamaged (Err (end_err_of x))
undamaged_closed n (set.Before f) is = subst (λ (y : Fault). IsUndamaged (Err y)) (sym is) tt
undamaged_closed n (set.Unsure f) is = tt

-- the run's own parameters are its planner's
module _ (run : Run) (s : RingStanding) (disk : Disk) (same : (run.ring).p ≡ run.params) (at : RunIsAt run s disk) where
  pub stands_of_ring : Stands (run.sealer).keys (run.ring).p s disk.cells
  stands_of_ring = subst (λ (q : Params). Stands (run.sealer).keys q s disk.cells) (sym same) at.stands

  pub runs_of_ring : RunsAt (run.sealer).keys (run.ring).p run.epoch (run.sealer).generation run.left run.ring s disk.cells
  runs_of_ring = subst (λ (q : Params). RunsAt (run.sealer).keys q run.epoch (run.sealer).generation run.left run.ring s disk.cells) (sym same) at.runs
