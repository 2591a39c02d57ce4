-- What a set did, step by step, and what it leaves.
use Rattle.std.proofs.Common.{◌≡◌, inl, inr, ⊎_elim, ℕ, ◌+◌, ◌^◌, ◌<◌, List, [], ◌∷◌, ◌++◌, Bool, true, false, Option, Result, Ok, Err, ◌∙◌, subst, arith, append_assoc}
use Rattle.std.specs.Prelude.{IsErr}
use Rattle.ob_base.specs.declared.fault.Failed.{Failed}
use Rattle.ob_base.specs.declared.fault.Fault.{Fault}
use Rattle.ob_store.specs.declared.event.Event.{Event}
use Rattle.ob_store.specs.declared.watch.Note.{Note}
use Rattle.ob_store.specs.declared.watch.Note.TheVariants.{Write, Sync}
use Rattle.ob_store.specs.Disk.{Disk, Image}
use Rattle.ob_store.specs.Images.{SameBut, IsSynced, LeavesOnly}
use Rattle.ob_store.specs.Lines.{Trace}
use Rattle.ob_store.specs.Told.{Tells, IsCut, TellsFirst, Does, if_well}
use Rattle.ob_store.proofs.Moments.{weakened}
use Rattle.ob_store.proofs.Doing.{tells_then, cut_none, cut_more, cut_sync, first_more, does_all, does_err}
use Rattle.ob_twin.specs.declared.set_err.SetErr.{SetErr}
use Rattle.ob_twin.specs.declared.set_err.SetErr.TheVariants.{Before, Unsure}
use Rattle.ob_twin.specs.Bodies.{Tagging, open_gate}
use Rattle.ob_twin.specs.Register.{gate_at, place_of, IsUnder, KeepsAt, IsPrepared, IsPut, OldOrNew}
use Rattle.ob_twin.specs.Orders.{through_notes, prepare_notes, gate_notes, set_notes, WriteDoes, SetDoes}
use Rattle.ob_twin.specs.Refused.{IsBefore, SetLeaves}
use Rattle.ob_twin.proofs.Moves.{new_one, kept_everywhere}

-- a write that was refused
pub write_refused : (a b : Option (List Event)) (k l : Trace) (cell : ℕ) (r : Result (Unit {0}) Failed) → IsErr r → Tells (Write cell ∷ []) (Write cell ∷ []) a b k l → WriteDoes cell a b k l r
write_refused a b k l cell (Ok done) err p = absurd (let wrong : false ≡ true = err in cc)
write_refused a b k l cell (Err failed) err p = inl p

module _ (a b c : Option (List Event)) (k l m : Trace) where
  -- a cell's write, and its sync
  pub write_tells : (cell : ℕ) (r : Result (Unit {0}) Failed) → Tells (Write cell ∷ []) (Write cell ∷ []) a b k l → Tells (Sync ∷ []) (if_well r (Sync ∷ [])) b c l m → WriteDoes cell a c k m r
  write_tells cell (Ok done) p q = tells_then (Write cell ∷ []) (Write cell ∷ []) (Sync ∷ []) (Sync ∷ []) a b c k l m p q
  write_tells cell (Err failed) p q = inr (tells_then (Write cell ∷ []) (Write cell ∷ []) (Sync ∷ []) [] a b c k l m p q)

  module _ (closes : Bool) (first n : ℕ) (before : Tells (prepare_notes closes first n) (prepare_notes closes first n) a b k l) where
    pub set_done : Tells (through_notes (gate_at first (place_of n))) (through_notes (gate_at first (place_of n))) b c l m → SetDoes closes first n a c k m (Ok tt)
    set_done p = tells_then (prepare_notes closes first n) (prepare_notes closes first n) (through_notes (gate_at first (place_of n))) (through_notes (gate_at first (place_of n))) a b c k l m before p

    pub set_unsure : (failed : Failed) (fault : Fault) → WriteDoes (gate_at first (place_of n)) b c l m (Err failed) → SetDoes closes first n a c k m (Err (Unsure fault))
    set_unsure failed fault p = ⊎_elim
        (λ one. inl (tells_then (prepare_notes closes first n) (prepare_notes closes first n) (Write (gate_at first (place_of n)) ∷ []) (Write (gate_at first (place_of n)) ∷ []) a b c k l m before one))
        (λ both. inr (tells_then (prepare_notes closes first n) (prepare_notes closes first n) (through_notes (gate_at first (place_of n))) (Write (gate_at first (place_of n)) ∷ []) a b c k l m before both))
        p

gate_then_sync : (closes : Bool) (first n : ℕ) → gate_notes closes first n ++ Sync ∷ [] ≡ set_notes closes first n
gate_then_sync closes first n = append_assoc (prepare_notes closes first n) (Write (gate_at first (place_of n)) ∷ []) (Sync ∷ [])

-- Unsure or not, a refused set did some of its steps, the first ones.
module _ (closes : Bool) (first n : ℕ) (a b : Option (List Event)) (k l : Trace) where
  pub unsure_first : (fault : Fault) → SetDoes closes first n a b k l (Err (Unsure fault)) → TellsFirst (set_notes closes first n) a b k l
  unsure_first fault (inl p) = record {
    made = gate_notes closes first n;
    shown = gate_notes closes first n;
    cut = subst (λ (all : List Note). IsCut all (gate_notes closes first n) (gate_notes closes first n)) (gate_then_sync closes first n)
        (cut_more (gate_notes closes first n) (Sync ∷ []) (gate_notes closes first n) (gate_notes closes first n) (cut_none (gate_notes closes first n)));
    tells = p;
  }
  unsure_first fault (inr p) = record {
    made = set_notes closes first n;
    shown = gate_notes closes first n;
    cut = subst (λ (all : List Note). IsCut all all (gate_notes closes first n)) (gate_then_sync closes first n) (cut_sync (gate_notes closes first n));
    tells = p;
  }

  pub set_does : (r : Result (Unit {0}) SetErr) → SetDoes closes first n a b k l r → Does (set_notes closes first n) a b k l r
  set_does (Ok done) p = does_all a b k l (set_notes closes first n) done p
  set_does (Err (Before fault)) p = does_err a b k l (set_notes closes first n) (Before fault) (first_more a b k l (prepare_notes closes first n) (through_notes (gate_at first (place_of n))) p)
  set_does (Err (Unsure fault)) p = does_err a b k l (set_notes closes first n) (Unsure fault) (unsure_first fault p)

-- the gate opened over a prepared body
pub put_at : (tag : Tagging) (first n : ℕ) (from mid image : Image) → IsPrepared tag first from n mid → image (gate_at first (place_of n)) ≡ open_gate → SameBut (gate_at first (place_of n)) image mid → IsPut tag first from n image
put_at tag first n from mid image ready opened same = record {
  body = same _ (omega arith) ∙ ready.body;
  opened = opened;
  rest = λ k a b. same k b ∙ ready.rest k a b;
}

-- a number that was put is the register's, where the other place has none that is greater
pub put_stands : (tag : Tagging) (first n : ℕ) (from image : Image) → n < 2 ^ 62 → IsUnder tag first from (place_of (n + 1)) n → IsPut tag first from n image → KeepsAt tag first from n image
put_stands tag first n from image small under put = new_one tag first n from small under image put.rest put.opened put.body

-- and so is every image of a store where no write waits
pub put_everywhere : (tag : Tagging) (first n : ℕ) (from : Image) (new : Disk) → n < 2 ^ 62 → IsUnder tag first from (place_of (n + 1)) n → IsPut tag first from n new.cells → IsSynced new → (c : Image) → new.may_leave c → KeepsAt tag first from n c
put_everywhere tag first n from new small under put settled c left = kept_everywhere tag first n from c new.cells (settled c left) (put_stands tag first n from new.cells small under put)

-- What a refused set leaves, by its answer.
module _ (tag : Tagging) (first m n : ℕ) (from : Image) (old new : Disk) where
  pub leaves_old : (fault : Fault) → LeavesOnly old new (KeepsAt tag first from m) → LeavesOnly old new (SetLeaves tag first from m n (Err (Before fault)))
  leaves_old fault run = weakened old new (KeepsAt tag first from m) (SetLeaves tag first from m n (Err (Before fault))) (λ c p. p) run

  pub leaves_unsure : (fault : Fault) → LeavesOnly old new (OldOrNew tag first from m n) → LeavesOnly old new (SetLeaves tag first from m n (Err (Unsure fault)))
  leaves_unsure fault run = weakened old new (OldOrNew tag first from m n) (SetLeaves tag first from m n (Err (Unsure fault))) (λ c p. p) run

  pub leaves_done : LeavesOnly old new (OldOrNew tag first from m n) → LeavesOnly old new (SetLeaves tag first from m n (Ok tt))
  leaves_done run = weakened old new (OldOrNew tag first from m n) (SetLeaves tag first from m n (Ok tt)) (λ c p. p) run

  -- whatever it answered, one of the two
  pub leaves_either : (r : Result (Unit {0}) SetErr) → LeavesOnly old new (SetLeaves tag first from m n r) → LeavesOnly old new (OldOrNew tag first from m n)
  leaves_either (Ok done) run = weakened old new (SetLeaves tag first from m n (Ok done)) (OldOrNew tag first from m n) (λ c p. p) run
  leaves_either (Err (Before fault)) run = weakened old new (SetLeaves tag first from m n (Err (Before fault))) (OldOrNew tag first from m n) (λ c p. inl p) run
  leaves_either (Err (Unsure fault)) run = weakened old new (SetLeaves tag first from m n (Err (Unsure fault))) (OldOrNew tag first from m n) (λ c p. p) run

  -- the old one where it was refused before the gate
  pub leaves_before : (r : Result (Unit {0}) SetErr) → IsBefore r → LeavesOnly old new (SetLeaves tag first from m n r) → LeavesOnly old new (KeepsAt tag first from m)
  leaves_before (Ok done) is run = absurd is
  leaves_before (Err (Before fault)) is run = weakened old new (SetLeaves tag first from m n (Err (Before fault))) (KeepsAt tag first from m) (λ c p. p) run
  leaves_before (Err (Unsure fault)) is run = absurd is
