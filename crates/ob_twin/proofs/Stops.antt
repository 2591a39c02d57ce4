-- What a set that was refused leaves of its register, and what it showed.
use Rattle.std.proofs.Common.{◌≡◌, ◌≢◌, ◌≤◌, ℕ, zero, suc, ◌+◌, ◌%◌, inl, inr, List, [], ◌∷◌, ◌++◌, Bool, true, false, IsTrue, if◌then◌else◌, Result, Ok, Err, OnErr, refl, sym, ◌∙◌, arith}
use Rattle.ob_base.specs.declared.fault.Failed.{Failed}
use Rattle.ob_store.specs.declared.watch.Note.{Note}
use Rattle.ob_store.specs.declared.watch.Note.TheVariants.{Write, Sync}
use Rattle.ob_store.specs.Disk.{Disk, Image}
use Rattle.ob_store.specs.Images.{IsSynced, Passes, SameBut}
use Rattle.ob_store.specs.Lines.{Trace}
use Rattle.ob_store.specs.Told.{Tells}
use Rattle.ob_store.proofs.Doing.{cut_behind, cut_more, cut_none, cut_sync, tells_then}
use Rattle.ob_twin.specs.Bodies.{Tagging, open_gate}
use Rattle.ob_twin.specs.Register.{IsOpen, IsPrepared, IsTornOnly, body_at, gate_at, place_of}
use Rattle.ob_twin.specs.Orders.{WriteDoes, prepare_notes, set_notes, through_notes}
use Rattle.ob_twin.specs.Stops.{IsPlaceLeft, IsRegisterLeft, IsSettingLeft, StopsShort}

-- what is known of a write that may be refused
pub if_refused : (cell : ℕ) (closes : Bool) (old new : Disk) (k l : Trace) (r : Result (Unit {0}) Failed) → IsTrue closes → WriteDoes cell old.seen new.seen k l r → OnErr r (IsTrue closes × WriteDoes cell old.seen new.seen k l r)
if_refused cell closes old new k l (Ok done) is told = tt
if_refused cell closes old new k l (Err failed) is told = (is, told)

module _ (tag : Tagging) (first n : ℕ) where
  -- ---- what is left

  module _ (from : Image) where
    pub closing_image : (closes : Bool) (c : Image) → (IsTrue closes → IsOpen first from (place_of n)) → IsTornOnly closes (gate_at first (place_of n)) c from → IsRegisterLeft tag first n from 5 c
    closing_image true c opened torn = record { place = λ now. opened refl; other = torn (gate_at first ((n + 1) % 2)) (omega arith) }
    closing_image false c opened torn = record { place = λ now. sym (torn (gate_at first (n % 2))) ∙ now; other = torn (gate_at first ((n + 1) % 2)) }

    -- a closed gate, whichever of the body's notes lack
    shut_left : (c : Image) (lacking : ℕ) → (2 ≤ lacking) × (lacking ≤ 4) → (IsOpen first c (place_of n) → ⊥) → IsPlaceLeft tag first n from lacking c
    shut_left c zero few shut = (let least = few.0 in absurd (omega (arith, least)))
    shut_left c (suc zero) few shut = (let least = few.0 in absurd (omega (arith, least)))
    shut_left c (suc (suc zero)) few shut = shut
    shut_left c (suc (suc (suc zero))) few shut = shut
    shut_left c (suc (suc (suc (suc zero)))) few shut = shut
    shut_left c (suc (suc (suc (suc (suc lacking))))) few shut = (let most = few.1 in absurd (omega (arith, most)))

    pub laying_image : (mid c : Image) (lacking : ℕ) → (2 ≤ lacking) × (lacking ≤ 4) → mid (gate_at first (place_of n)) ≢ open_gate → SameBut (gate_at first (place_of n)) mid from → SameBut (body_at first (place_of n)) c mid → IsRegisterLeft tag first n from lacking c
    laying_image mid c lacking few shut rest same = record {
      place = shut_left c lacking few (λ now. shut (sym (same (gate_at first (n % 2)) (omega arith)) ∙ now));
      other = same (gate_at first ((n + 1) % 2)) (omega arith) ∙ rest (gate_at first ((n + 1) % 2)) (omega arith);
    }

    pub opening_image : (mid c : Image) → IsPrepared tag first from n mid → SameBut (gate_at first (place_of n)) c mid → IsRegisterLeft tag first n from 1 c
    opening_image mid c ready same = record {
      place = same (body_at first (n % 2)) (omega arith) ∙ ready.body;
      other = same (gate_at first ((n + 1) % 2)) (omega arith) ∙ ready.rest (gate_at first ((n + 1) % 2)) (omega arith) (omega arith);
    }

  -- from a store where no write waits
  same_back : (cell : ℕ) (mid new : Disk) → IsSynced mid → Passes (SameBut cell) mid new → (c : Image) → new.may_leave c → SameBut cell c mid.cells
  same_back cell mid new settled passes c left = (let back = passes.now c left in λ k off. back.2 k off ∙ settled back.0 back.1 k)

  pub closing_left : (closes : Bool) (old new : Disk) → IsTrue closes → Passes (SameBut (gate_at first (place_of n))) old new → (c : Image) → new.may_leave c → IsSettingLeft tag closes first n old 5 c
  closing_left true old new is passes c left = λ tells settled opened. closing_image old.cells true c opened (same_back (gate_at first (n % 2)) old new settled passes c left)
  closing_left false old new is passes c left = absurd (let wrong : false ≡ true = is in cc)

  pub laying_left : (closes : Bool) (old mid new : Disk) → (old.tells → IsSynced old → IsSynced mid) → (old.tells → mid.cells (gate_at first (place_of n)) ≢ open_gate) → (old.tells → SameBut (gate_at first (place_of n)) mid.cells old.cells)
      → Passes (SameBut (body_at first (place_of n))) mid new → (c : Image) → new.may_leave c → IsSettingLeft tag closes first n old 3 c
  laying_left closes old mid new durable shut rest passes c left = λ tells settled opened.
      laying_image old.cells mid.cells c 3 (omega arith, omega arith) (shut tells) (rest tells) (same_back (body_at first (n % 2)) mid new (durable tells settled) passes c left)

  pub opening_left : (closes : Bool) (old mid new : Disk) → (old.tells → IsSynced mid) → (old.tells → IsPrepared tag first old.cells n mid.cells) → Passes (SameBut (gate_at first (place_of n))) mid new → (c : Image) → new.may_leave c
      → IsSettingLeft tag closes first n old 1 c
  opening_left closes old mid new durable ready passes c left = λ tells settled opened. opening_image old.cells mid.cells c (ready tells) (same_back (gate_at first (n % 2)) mid new (durable tells) passes c left)

  -- ---- and what was shown

  module _ (old mid new : Disk) (k j l : Trace) where
    abbrev Stops : Bool → Type 0
    Stops closes = StopsShort (set_notes closes first n) (prepare_notes closes first n) (IsSettingLeft tag closes first n old) old new k l

    -- the gate's closing write
    pub closing_stops : (closes : Bool) (failed : Failed) → IsTrue closes → WriteDoes (gate_at first (place_of n)) old.seen new.seen k l (Err failed) → ((c : Image) → new.may_leave c → IsSettingLeft tag closes first n old 5 c) → Stops closes
    closing_stops false failed is told left = absurd (let wrong : false ≡ true = is in cc)
    closing_stops true failed is (inl one) left =
        let w : List Note = Write (gate_at first (place_of n)) ∷ [] in
        record {
          first = record { made = w; shown = w; cut = cut_more w (Sync ∷ through_notes (body_at first (place_of n))) w w (cut_none w); tells = one };
          left = left;
        }
    closing_stops true failed is (inr both) left =
        let w : List Note = Write (gate_at first (place_of n)) ∷ [] in
        record {
          first = record { made = w ++ Sync ∷ []; shown = w; cut = cut_more (w ++ Sync ∷ []) (through_notes (body_at first (place_of n))) (w ++ Sync ∷ []) w (cut_sync w); tells = both };
          left = left;
        }

    -- the body's write behind it
    pub laying_stops : (closes : Bool) (r : Result (Unit {0}) Failed) → Tells (if closes then through_notes (gate_at first (place_of n)) else []) (if closes then through_notes (gate_at first (place_of n)) else []) old.seen mid.seen k j
        → WriteDoes (body_at first (place_of n)) mid.seen new.seen j l r → ((c : Image) → new.may_leave c → IsSettingLeft tag closes first n old 3 c) → OnErr r (Stops closes)
    laying_stops closes (Ok done) before told left = tt
    laying_stops true (Err failed) before (inl one) left =
        let xs : List Note = through_notes (gate_at first (place_of n)) in
        let w : List Note = Write (body_at first (place_of n)) ∷ [] in
        record {
          first = record { made = xs ++ w; shown = xs ++ w; cut = cut_behind xs (w ++ Sync ∷ []) w w (cut_more w (Sync ∷ []) w w (cut_none w)); tells = tells_then xs xs w w old.seen mid.seen new.seen k j l before one };
          left = left;
        }
    laying_stops true (Err failed) before (inr both) left =
        let xs : List Note = through_notes (gate_at first (place_of n)) in
        let w : List Note = Write (body_at first (place_of n)) ∷ [] in
        record {
          first = record { made = xs ++ w ++ Sync ∷ []; shown = xs ++ w; cut = cut_behind xs (w ++ Sync ∷ []) (w ++ Sync ∷ []) w (cut_sync w); tells = tells_then xs xs (w ++ Sync ∷ []) w old.seen mid.seen new.seen k j l before both };
          left = left;
        }
    laying_stops false (Err failed) before (inl one) left =
        let w : List Note = Write (body_at first (place_of n)) ∷ [] in
        record {
          first = record { made = w; shown = w; cut = cut_more w (Sync ∷ []) w w (cut_none w); tells = tells_then [] [] w w old.seen mid.seen new.seen k j l before one };
          left = left;
        }
    laying_stops false (Err failed) before (inr both) left =
        let w : List Note = Write (body_at first (place_of n)) ∷ [] in
        record {
          first = record { made = w ++ Sync ∷ []; shown = w; cut = cut_sync w; tells = tells_then [] [] (w ++ Sync ∷ []) w old.seen mid.seen new.seen k j l before both };
          left = left;
        }
