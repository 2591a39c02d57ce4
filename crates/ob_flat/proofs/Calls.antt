-- The calls of a plain vault as acts.
use Rattle.std.proofs.Common.{◌≡◌, ◌⊎◌, inl, inr, ⊎_elim, ℕ, suc, ◌+◌, ◌-◌, ◌<◌, ◌≤◌, List, Option, None, length, get_or, refl, ap, subst, ◌∙◌, arith}
use Rattle.std.proofs.lemmas.Bool.{cases_lt}
use Rattle.ob_base.specs.declared.params.Params.{Params}
use Rattle.ob_base.specs.declared.fault.Fault.{Fault}
use Rattle.ob_base.specs.declared.fault.Fault.TheVariants.{Memory, Usage, BadScript, BadParams, NotStore, Damaged, StoreFault, StashFull, Worn, SourceFault, SinkFault}
use Rattle.ob_store.specs.declared.watch.Note.{Note}
use Rattle.ob_store.specs.Disk.{Disk, Image}
use Rattle.ob_store.specs.Calls.{Holds}
use Rattle.ob_store.proofs.Moments.{leaves_of}
use Rattle.ob_seal.specs.Sealing.{Sealing}
use Rattle.ob_cells.specs.Runs.{IsFurther}
use Rattle.ob_flat.specs.Rows.{row_bytes, row_cell, row_cells}
use Rattle.ob_flat.proofs.RowCells.{length-row_cells, get_or-row_cells}
use Rattle.ob_twin.specs.declared.gates.Open.{Open}
use Rattle.ob_twin.specs.Keyed.{tagging}
use Rattle.ob_twin.proofs.Frames.{register_moved}
use Rattle.ob_serial.specs.Vaults.{VaultCall, Fetch, End, VaultAnswer, Values, Ended, RefusedBy, DoubtBy}
use Rattle.ob_pads.specs.Seals.{SealerGoesOn, IsSealedWith, CellsAreSealed, SealsBy}
use Rattle.ob_pads.specs.Lives.{IsAtGeneration, Answers}
use Rattle.ob_flat.specs.Places.{area_of}
use Rattle.ob_flat.specs.Calls.{Holding, FlatCalled, CallDoes, RefusedDoes, IsEndDone, IsInDoubt, SameOffEpoch}

-- ---- the sealer goes on

further_of : (n : ℕ) (was now : Sealing) → IsFurther n was now → SealerGoesOn was now
further_of n was now f = record { keys = f.keys; generation = f.generation; on = f.on }

further_same : (was now : Sealing) → now ≡ was → SealerGoesOn was now
further_same was now same = record {
  keys = ap (λ (s : Sealing). s.keys) same;
  generation = ap (λ (s : Sealing). s.generation) same;
  on = (let next : now.next ≡ was.next = ap (λ (s : Sealing). s.next) same in omega (arith, next));
}

further_by : (n : ℕ) (was now : Sealing) → now ≡ record was { next = was.next + n } → SealerGoesOn was now
further_by n was now is = record {
  keys = ap (λ (s : Sealing). s.keys) is;
  generation = ap (λ (s : Sealing). s.generation) is;
  on = (let next : now.next ≡ was.next + n = ap (λ (s : Sealing). s.next) is in omega (arith, next));
}

module _ {S : Type 0} (p : Params) (known : Open) (epoch : ℕ) (values : List (Option (List ℕ))) (before after : Holding S) (old new : Disk) (notes : List Note) where
  further_refused : (fault : Fault) → RefusedDoes p.keys known epoch before after old new notes fault → SealerGoesOn before.sealing after.sealing
  further_refused (StoreFault unsure) does = further_of p.keys before.sealing after.sealing does.1.seals
  further_refused (Worn number) does = further_same before.sealing after.sealing does.1.seals
  further_refused Memory does = absurd does
  further_refused Usage does = absurd does
  further_refused (BadScript line) does = absurd does
  further_refused (BadParams field) does = absurd does
  further_refused NotStore does = absurd does
  further_refused (Damaged cell check kept computed) does = absurd does
  further_refused (StashFull rows) does = absurd does
  further_refused SourceFault does = absurd does
  further_refused SinkFault does = absurd does

  further : (call : VaultCall) (answer : VaultAnswer) → CallDoes p known epoch values before after old new notes call answer → SealerGoesOn before.sealing after.sealing
  further (Fetch keys) (Values found) does = further_same before.sealing after.sealing (ap (λ (h : Holding S). h.sealing) does.0)
  further (Fetch keys) Ended does = absurd does
  further (Fetch keys) (RefusedBy fault) does = absurd does
  further (Fetch keys) (DoubtBy fault) does = absurd does
  further (End writes) Ended does = further_by p.keys before.sealing after.sealing does.seals
  further (End writes) (RefusedBy fault) does = further_refused fault does
  further (End writes) (DoubtBy fault) does = further_of p.keys before.sealing after.sealing does.1.seals
  further (End writes) (Values found) does = absurd does

-- ---- the cells that an end seals

none_sealed : (was now : Sealing) (old new : Image) → new ≡ old → CellsAreSealed was now old new
none_sealed was now old new same = record {
  number = λ cell. 0;
  each = λ cell low. inl (inl (ap (λ (i : Image). i cell) same));
  alone = λ j k low_j low_k is. inr (inl (inl (ap (λ (i : Image). i j) same)));
}

sealed_row : (was now : Sealing) (cell n : ℕ) (value : Option (List ℕ)) (bytes : List ℕ) → bytes ≡ row_cell was.keys cell was.generation n value → was.next ≤ n → n < now.next → IsSealedWith was now cell n bytes
unfolding row_cell
sealed_row was now cell n value bytes is taken lt = record { plain = row_bytes value; spelled = is; taken = taken; before = lt }

module _ (n epoch : ℕ) (rows : List (Option (List ℕ))) (was now : Sealing) (old new : Image) (whole : length rows ≡ n) (next : now.next ≡ was.next + n)
    (written : Holds (area_of n (suc epoch)) (row_cells was.keys (area_of n (suc epoch)) was.generation was.next rows) new) (rest : SameOffEpoch n (suc epoch) new old) where
  abbrev area : ℕ
  area = area_of n (suc epoch)

  abbrev number : ℕ → ℕ
  number cell = was.next + (cell - area)

  -- a row of the area, or a cell off it
  row_or_not : (cell : ℕ) → 9 ≤ cell → ((area ≤ cell) × (cell < area + n)) ⊎ (new cell ≡ old cell)
  row_or_not cell low = ⊎_elim
      (λ below. inr (rest cell (inr (low, inl below))))
      (λ from. ⊎_elim (λ lt. inl (from, lt)) (λ to. inr (rest cell (inr (low, inr to)))) (cases_lt cell (area + n)))
      (cases_lt cell area)

  sealed_row_at : (cell : ℕ) → area ≤ cell → cell < area + n → IsSealedWith was now cell (number cell) (new cell)
  sealed_row_at cell from to =
      let i : ℕ = cell - area in
      let here : area + i ≡ cell = omega (arith, from) in
      let lt : i < length rows = omega (arith, from, to, whole) in
      let held = written i (omega (arith, lt, length-row_cells was.keys area was.generation was.next rows)) in
      let spelled = held ∙ get_or-row_cells was.keys area was.generation was.next rows i lt in
      subst (λ c. IsSealedWith was now c (number cell) (new c)) here
      (sealed_row was now (area + i) (number cell) (get_or rows i None) (new (area + i)) spelled (omega arith) (omega (arith, next, from, to)))

  rows_sealed : CellsAreSealed was now old new
  rows_sealed = record {
    number = number;
    each = λ cell low. ⊎_elim (λ row. inr (sealed_row_at cell row.0 row.1)) (λ same. inl (inl same)) (row_or_not cell low);
    alone = λ j k low_j low_k is. ⊎_elim
        (λ row_j. ⊎_elim
        (λ row_k. inl (omega (arith, is, row_j.0, row_k.0)))
        (λ same. inr (inr (inl same)))
        (row_or_not k low_k))
        (λ same. inr (inl (inl same)))
        (row_or_not j low_j);
  }

module _ (n epoch : ℕ) (known : Open) (was now : Sealing) (old new : Disk) (notes : List Note) (tells : old.tells) where
  -- an end that went well
  ended_sealed : (values : List (Option (List ℕ))) → IsEndDone n known epoch values was now old new notes → SameOffEpoch n (suc epoch) new.cells old.cells → CellsAreSealed was now old.cells new.cells
  ended_sealed values done rest = rows_sealed n epoch values was now old.cells new.cells done.whole (ap (λ (s : Sealing). s.next) done.seals) (done.written tells) rest

  -- and one in doubt
  doubt_sealed : IsInDoubt n known epoch was now old new notes → SameOffEpoch n (suc epoch) new.cells old.cells → CellsAreSealed was now old.cells new.cells
  doubt_sealed done rest = rows_sealed n epoch done.rows was now old.cells new.cells done.whole (ap (λ (s : Sealing). s.next) done.all_sealed) (done.written tells) rest

-- ---- a call

module _ {S : Type 0} (disk : S → Disk) (only : (store : S) (c : Image) → (disk store).left_since (disk store).moment c → (disk store).may_leave c)
    (p : Params) (known : Open) (epoch : ℕ) (values : List (Option (List ℕ))) (before after : Holding S) (notes : List Note) where
  abbrev old : Disk
  old = disk before.store

  abbrev new : Disk
  new = disk after.store

  seals_by : (call : VaultCall) (answer : VaultAnswer) → old.tells → CallDoes p known epoch values before after old new notes call answer → (old.tells → SameOffEpoch p.keys (suc epoch) new.cells old.cells)
      → SealsBy answer before.sealing after.sealing old.cells new.cells
  seals_by (Fetch keys) (Values found) tells does rest = none_sealed before.sealing after.sealing old.cells new.cells (ap (λ (h : Holding S). (disk h.store).cells) does.0)
  seals_by (Fetch keys) Ended tells does rest = absurd does
  seals_by (Fetch keys) (RefusedBy fault) tells does rest = tt
  seals_by (Fetch keys) (DoubtBy fault) tells does rest = absurd does
  seals_by (End writes) Ended tells does rest = ended_sealed p.keys epoch known before.sealing after.sealing old new notes tells values does (rest tells)
  seals_by (End writes) (RefusedBy fault) tells does rest = tt
  seals_by (End writes) (DoubtBy fault) tells does rest = doubt_sealed p.keys epoch known before.sealing after.sealing old new notes tells does.1 (rest tells)
  seals_by (End writes) (Values found) tells does rest = absurd does

  abbrev stands : Image → Type 0
  stands = IsAtGeneration before.sealing.keys before.sealing.generation

  moved : (c d : Image) → SameOffEpoch p.keys (suc epoch) c d → stands d → stands c
  moved c d same at = register_moved (tagging before.sealing.keys) 1 before.sealing.generation c d (λ k from to. same k (inl (omega arith))) at

  pub is_act : (call : VaultCall) (answer : VaultAnswer) (p_new : Params) (known_new : Open) (epoch_new : ℕ) → FlatCalled p known epoch values before after old new notes call answer p_new known_new epoch_new → new.tells → Answers old new before.sealing after.sealing answer
  is_act call answer p_new known_new epoch_new f tells = record {
    goes = f.goes;
    tells = tells;
    further = further p known epoch values before after old new notes call answer f.does;
    seals = seals_by call answer (f.goes.told tells) f.does f.rest;
    clear = f.clear tells;
    images = λ all. leaves_of (SameOffEpoch p.keys (suc epoch)) stands stands old new f.passes (only before.store) (λ c left. all c (inl left)) (λ told. all old.cells (inr (told, refl))) (λ c d at step. moved c d step at) (λ c at. at);
  }
