-- What a format leaves in the clear.
use Rattle.std.proofs.Common.{◌≡◌, inl, inr, ⊎_elim, ℕ, ◌≤◌, List, Option, Result, Ok, Err, sym, subst}
use Rattle.std.specs.Prelude.{OnErr, OnOk}
use Rattle.std.proofs.lemmas.Bool.{cases_eq}
use Rattle.ob_store.specs.Disk.{Image}
use Rattle.ob_store.specs.Images.{SameBut}
use Rattle.ob_store.specs.declared.event.Event.{Event}
use Rattle.ob_twin.specs.Bodies.{Tagging}
use Rattle.ob_twin.specs.Clear.{IsLastWrite, IsWritten}
use Rattle.ob_start.specs.Clear.{IsLaidInClear, LaidInClearBy}
use Rattle.ob_start.proofs.InClear.{laid_on}

-- more may stand in the head's cell
module _ (Head Wider : List ℕ → Type 0) (wider : (bytes : List ℕ) → Head bytes → Wider bytes) (tag : Tagging) (old new : Image) where
  one_wider : (cell : ℕ) → IsLaidInClear Head tag old new cell → IsLaidInClear Wider tag old new cell
  one_wider cell (inl clear) = inl clear
  one_wider cell (inr (none, head)) = inr (none, wider (new 0) head)

  pub laid_wider : {T E : Type 0} (seen : Option (List Event)) (r : Result T E) → LaidInClearBy Head tag seen old new r → LaidInClearBy Wider tag seen old new r
  laid_wider seen (Ok v) laid = λ cell low. one_wider cell (laid cell low)
  laid_wider seen (Err e) laid = λ cell low. ⊎_elim (λ (clear : IsLaidInClear Head tag old new cell). inl (one_wider cell clear)) (λ (lost : IsLastWrite cell seen). inr lost) (laid cell low)

-- the head is written last
module _ (Head : List ℕ → Type 0) (tag : Tagging) (old mid new : Image) (bytes : List ℕ) (head : Head bytes) (first : (cell : ℕ) → cell ≤ 8 → IsLaidInClear Head tag old mid cell) (same : SameBut 0 new mid) where
  behind_head : (cell : ℕ) → cell ≤ 8 → new 0 ≡ bytes → IsLaidInClear Head tag old new cell
  behind_head cell low put = ⊎_elim
      (λ (none : cell ≡ 0). inr (none, subst Head (sym put) head))
      (λ off. laid_on Head tag old mid new cell (first cell low) (inl (same cell off)))
      (cases_eq cell 0)

  pub head_last : {T E : Type 0} (seen : Option (List Event)) (r : Result T E) → OnOk r (new 0 ≡ bytes) → OnErr r (IsWritten 0 bytes seen new) → LaidInClearBy Head tag seen old new r
  head_last seen (Ok v) put refused = λ cell low. behind_head cell low put
  head_last seen (Err e) put (inl is) = λ cell low. inl (behind_head cell low is)
  head_last seen (Err e) put (inr last) = λ cell low. ⊎_elim
      (λ (none : cell ≡ 0). inr (subst (λ k. IsLastWrite k seen) (sym none) last))
      (λ off. inl (laid_on Head tag old mid new cell (first cell low) (inl (same cell off))))
      (cases_eq cell 0)
