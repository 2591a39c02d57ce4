-- A vault holds its map, and stays sound, whatever its calls answer.
use Rattle.std.specs.Prelude.{◌≡◌, ℕ, suc, ◌+◌, Bool, true, false, List, ◌∷◌, Option, Some, Result, Ok, Err, OnOk, OnErr, IfErr}
use Rattle.std.specs.Borrow.{GName}
use Rattle.std.specs.FinMap as finite
use Rattle.std.proofs.Common.{arith, refl, sym, ap, ◌∙◌, subst, inl, inr, ⊎_elim}
use mathlib.Core.Path.{fun_ext}
use Rattle.ob_base.specs.declared.fault.Fault.{Fault}
use Rattle.ob_base.specs.declared.fault.Fault.TheVariants as fault
use Rattle.ob_base.specs.declared.params.Params.{Params}
use Rattle.ob_base.specs.declared.value.Write.{Write}
use Rattle.ob_end.specs.EndRuns.{EndImages, EndStands, standing_at_end}
use Rattle.ob_fetch.specs.declared.run.Run.{Run}
use Rattle.ob_fetch.specs.Fetches.{AreMapValues, FetchStands, IsFetchRefusal}
use Rattle.ob_log.specs.Logs.{BatchRecord}
use Rattle.ob_seal.specs.declared.keys.Keys.{Keys}
use Rattle.ob_serial.specs.declared.vault.EndErr.{EndErr}
use Rattle.ob_serial.specs.declared.vault.EndErr.TheVariants as end
use Rattle.ob_serial.specs.Vaults.{End, Fetch, IsAnswer, MayStand, MayStandIn, StandAlike, Standing, StandsIn, VaultCounts, VaultState, counts_next, counts_of, standing_next, standing_now, vault_next}
use Rattle.ob_serial.specs.Vaults as vault
use Rattle.ob_serial.specs.VaultViews.{IsFetchFault, end_answer, fetch_answer}
use Rattle.ob_stand.specs.Stands.{OneOf, RingStanding, Stands, StandsRing, with_record}
use Rattle.ob_stand.specs.Vaults.{IsRingOf, plain_writes}
use Rattle.ob_stand.proofs.EndLaws.{end_spares}
use Rattle.ob_stand.proofs.VaultLaws.{ring_stands, writes_agree}
use Rattle.ob_store.specs.Calls.{GoesOn}
use Rattle.ob_store.specs.Disk.{Clock, Disk, Image, NotAfter}
use Rattle.ob_store.specs.Images.{IsImageOf, IsSynced, LeavesOnly}
use Rattle.ob_store.proofs.Moments.{weakened}
use Rattle.ob_tables.specs.declared.entry.Entry.{Entry}
use Rattle.ob_stand.specs.Values as taken
use Rattle.ob_stand.specs.Values.{Values}
use Rattle.ob_twin.proofs.Moves.{images_at_end, settled_image}
use Rattle.ob_vault.specs.RingVaults.{RingHolds, RingServes, RingSound, counts_of_run, lent_both}

-- two references more change nothing of what crashes leave
pub lent_leaves : (a b x y : GName) (old new : Disk) (P : Image → Type 0) → LeavesOnly old new P → LeavesOnly (lent_both a b old) (lent_both x y new) P
lent_leaves a b x y old new P run = record { later = run.later; each = run.each; before = run.before; told = run.told }

-- nor of what goes on
pub lent_goes : (a b : GName) (old new : Disk) → GoesOn old new → GoesOn (lent_both a b old) (lent_both a b new)
lent_goes a b old new goes = record {
  anchors = ap (λ (l : List GName). a ∷ b ∷ l) goes.anchors;
  faults = goes.faults;
  later = goes.later;
  kept = goes.kept;
  told = goes.told;
  leaves = goes.leaves;
  seen = goes.seen;
}

parts : (v : VaultState) (run : Run) → counts_of v ≡ counts_of_run run → (v.epoch ≡ run.epoch) × (v.left ≡ run.left) × (v.spent ≡ run.spent)
parts v run is = (ap (λ (k : VaultCounts). k.epoch) is, ap (λ (k : VaultCounts). k.left) is, ap (λ (k : VaultCounts). k.spent) is)

counts_made : {epoch epoch' left left' : ℕ} {spent spent' : Bool} → epoch ≡ epoch' → left ≡ left' → spent ≡ spent' → ◌≡◌ {A = VaultCounts} (record { epoch = epoch; left = left; spent = spent }) (record { epoch = epoch'; left = left'; spent = spent' })
counts_made a b c = λ i. record { epoch = a i; left = b i; spent = c i }

-- what a call leaves of the counts
pub fetch_counts : (A : Type 0) (run new : Run) (asks : List (Option ℕ)) (out : List (Option (List ℕ))) (x : Result (Unit {0}) Fault) → new.epoch ≡ run.epoch → run.spent ≡ false → OnOk x ((new.left + 1 ≡ run.left) × (new.spent ≡ false))
    → OnErr x ((new.left ≡ run.left) × (new.spent ≡ true) × A) → counts_of_run new ≡ counts_next (run.params).batches (counts_of_run run) (Fetch asks) (fetch_answer out x)
fetch_counts A run new asks out (Ok done) epoch serving served refused = counts_made epoch (let one : new.left + 1 ≡ run.left = served.0 in omega arith) (served.1 ∙ sym serving)
fetch_counts A run new asks out (Err f) epoch serving served refused = counts_made epoch refused.0 refused.1

pub end_counts : (run new : Run) (writes : List (ℕ × Option (List ℕ))) (x : Result (Unit {0}) EndErr) → run.spent ≡ false → OnOk x ((new.epoch ≡ suc run.epoch) × (new.left ≡ (run.params).batches) × (new.spent ≡ false))
    → OnErr x ((new.epoch ≡ run.epoch) × (new.left ≡ run.left) × (new.spent ≡ true)) → counts_of_run new ≡ counts_next (run.params).batches (counts_of_run run) (End writes) (end_answer x)
end_counts run new writes (Ok done) serving served refused = counts_made served.0 served.1 (served.2 ∙ sym serving)
end_counts run new writes (Err (end.Before f)) serving served refused = counts_made refused.0 refused.1 refused.2
end_counts run new writes (Err (end.Unsure f)) serving served refused = counts_made refused.0 refused.1 refused.2

-- a fetch's refusals are those of a vault's fetch
refused_so : (f : Fault) → IsFetchRefusal f → IsFetchFault f
refused_so fault.Memory refusal = absurd refusal
refused_so fault.Usage refusal = absurd refusal
refused_so (fault.BadScript line) refusal = absurd refusal
refused_so (fault.BadParams what) refusal = absurd refusal
refused_so fault.NotStore refusal = absurd refusal
refused_so (fault.Damaged cell what kept computed) refusal = tt
refused_so (fault.StoreFault unsure) refusal = refusal
refused_so (fault.StashFull rows) refusal = absurd refusal
refused_so (fault.Worn number) refusal = tt
refused_so fault.SourceFault refusal = absurd refusal
refused_so fault.SinkFault refusal = absurd refusal

pub fetch_faults : (x : Result (Unit {0}) Fault) → IfErr x IsFetchRefusal → IfErr x IsFetchFault
fetch_faults (Ok done) refusal = tt
fetch_faults (Err f) refusal = refused_so f refusal

pub serves_still : (v : VaultState) (run : Run) → counts_of v ≡ counts_of_run run → run.spent ≡ false → v.spent ≡ false
serves_still v run is serving = (parts v run is).2 ∙ serving

-- what a refused call leaves of the counts
stopped : (v : VaultState) (run new : Run) → counts_of v ≡ counts_of_run run → (new.epoch ≡ run.epoch) → (new.left ≡ run.left) → new.spent ≡ true → counts_of (record v { spent = true }) ≡ counts_of_run new
stopped v run new counts epoch left spent = counts_made ((parts v run counts).0 ∙ sym epoch) ((parts v run counts).1 ∙ sym left) (sym spent)

module _ (keys : Keys) (p : Params) (g : ℕ) where
  -- one image
  stands_as : (s : RingStanding) (at : Standing) (c : Image) → g ≡ s.generation → IsRingOf s at → Stands keys p s c → StandsRing keys p g c at
  stands_as s at c under is stands = subst (λ n. StandsRing keys p n c at) (sym under) (ring_stands keys p s c at is stands)

  -- a settled store leaves what it stands for, and reads give it
  left_stands : (s : RingStanding) (disk : Disk) (c : Image) → IsSynced disk → Stands keys p s disk.cells → IsImageOf disk c → Stands keys p s c
  left_stands s disk c settled stands image = end_spares keys p s c disk.cells (λ k off. settled_image disk settled c image k) stands

module _ (run : Run) (old : Disk) (v : VaultState) (holds : RingHolds run old v) (serving : run.spent ≡ false) where
  abbrev pub serves : RingServes run old v
  serves = holds.serves (serves_still v run holds.counts_are serving)

  abbrev pub s : RingStanding
  s = serves.standing

  abbrev keys : Keys
  keys = (run.sealer).keys

  abbrev g : ℕ
  g = (run.sealer).generation

  under : g ≡ s.generation
  under = ((serves.at).runs).generation_is

  is_now : IsRingOf s (standing_now v)
  is_now = record { epoch = sym (((serves.at).runs).epoch_is) ∙ sym (parts v run holds.counts_are).0; map = serves.map }

  now_stands : (c : Image) → Stands keys run.params s c → StandsRing keys run.params g c (standing_now v)
  now_stands c stands = stands_as keys run.params g s (standing_now v) c under is_now stands

  -- ---- a fetch

  module _ (r : BatchRecord) (asks : List (Option ℕ)) where
    next_stands : (c : Image) → Stands keys run.params (with_record s r) c → StandsRing keys run.params g c (standing_now v)
    next_stands c stands = stands_as keys run.params g (with_record s r) (standing_now v) c under (record { epoch = is_now.epoch; map = is_now.map }) stands

    one_now : (c : Image) → OneOf keys run.params s (with_record s r) c → StandsRing keys run.params g c (standing_now v)
    one_now c one = ⊎_elim (now_stands c) (next_stands c) one

    pub fetch_images : (new : Disk) → LeavesOnly old new (OneOf keys run.params s (with_record s r)) → LeavesOnly old new (StandsIn (StandsRing keys run.params g) (MayStandIn v (Fetch asks)))
    fetch_images new leaves = weakened old new (OneOf keys run.params s (with_record s r)) (StandsIn (StandsRing keys run.params g) (MayStandIn v (Fetch asks))) (λ c one. (standing_now v, one_now c one, inl refl)) leaves

    module _ (new : Run) (disk : Disk) (out : List (Option (List ℕ))) where
      answers_all : AreMapValues s.map asks out → vault.AnswersAll v.content asks out
      answers_all values = record {
        whole = values.whole;
        asked = λ i key at. values.asked i key at ∙ ap Some (serves.map key);
        pads = values.pads;
      }

      pub fetch_answered : (x : Result (Unit {0}) Fault) → FetchStands s r asks disk new out x → IsAnswer v.content (Fetch asks) (fetch_answer out x)
      fetch_answered (Ok done) is = answers_all is.1
      fetch_answered (Err f) is = tt

      module _ (params : new.params ≡ run.params) (epoch : new.epoch ≡ run.epoch) where
        pub fetch_holds : (was : List (Option (List ℕ))) (x : Result (Unit {0}) Fault) → OnOk x ((new.left + 1 ≡ run.left) × (new.spent ≡ false)) → OnErr x ((new.left ≡ run.left) × (new.spent ≡ true) × (out ≡ was)) → FetchStands s r asks disk new out x
            → RingHolds new disk (vault_next v (Fetch asks) (fetch_answer out x))
        fetch_holds was (Ok done) served refused is = record {
          counts_are = counts_made ((parts v run holds.counts_are).0 ∙ sym epoch)
              (let was : v.left ≡ run.left = (parts v run holds.counts_are).1 in let one : new.left + 1 ≡ run.left = served.0 in omega arith)
              ((parts v run holds.counts_are).2 ∙ serving ∙ sym served.1);
          batches = holds.batches ∙ sym (ap (λ (q : Params). q.batches) params);
          serves = λ is_serving. record { standing = with_record s r; at = is.0; map = serves.map; no_doubt = serves.no_doubt };
        }
        fetch_holds was (Err f) served refused is = record {
          counts_are = stopped v run new holds.counts_are epoch refused.0 refused.1;
          batches = holds.batches ∙ sym (ap (λ (q : Params). q.batches) params);
          serves = λ wrong. absurd (cc);
        }

        module _ (same_keys : (new.sealer).keys ≡ keys) (same_generation : (new.sealer).generation ≡ g) (counts_now : (t : Clock) (c : Image) → NotAfter t disk.moment → disk.may_leave c → disk.left_since t c)
            (leaves : LeavesOnly old disk (OneOf keys run.params s (with_record s r))) where
          left_now : (c : Image) → IsImageOf disk c → StandsRing (new.sealer).keys new.params (new.sealer).generation c (standing_now v)
          left_now c left =
              subst (λ n. StandsRing (new.sealer).keys new.params n c (standing_now v)) (sym same_generation)
              (subst (λ (q : Params). StandsRing (new.sealer).keys q g c (standing_now v)) (sym params)
              (subst (λ (k : Keys). StandsRing k run.params g c (standing_now v)) (sym same_keys)
              (one_now c (images_at_end old disk (OneOf keys run.params s (with_record s r)) counts_now leaves c left))))

          pub fetch_sound : (x : Result (Unit {0}) Fault) → RingHolds new disk (vault_next v (Fetch asks) (fetch_answer out x)) → RingSound new disk (vault_next v (Fetch asks) (fetch_answer out x))
          fetch_sound (Ok done) then = record { holds = then; images = λ c left. (standing_now v, left_now c left, inl refl) }
          fetch_sound (Err f) then = record { holds = then; images = λ c left. (standing_now v, left_now c left, inl refl) }

  -- ---- an end

  module _ (ws : List (Write × Entry)) (writes : List (ℕ × Option (List ℕ))) (plain : plain_writes ws ≡ writes) (new : Run) (disk : Disk) where
    abbrev then : RingStanding
    then = standing_at_end s new ws

    map_then : (k : ℕ) → taken.with_entries s.map ws k ≡ finite.get (vault.with_writes v.content writes) k
    map_then k =
        ap (λ (m : Values). taken.with_entries m ws k) (fun_ext serves.map)
        ∙ writes_agree v.content ws k
        ∙ ap (λ (l : List (ℕ × Option (List ℕ))). finite.get (vault.with_writes v.content l) k) plain

    is_next : IsRingOf then (standing_next v writes)
    is_next = record { epoch = ap suc is_now.epoch; map = map_then }

    one_of : (c : Image) → OneOf keys run.params s then c → StandsIn (StandsRing keys run.params g) (MayStandIn v (End writes)) c
    one_of c one = ⊎_elim
        (λ (was : Stands keys run.params s c). (standing_now v, now_stands c was, inl (inl refl)))
        (λ (is : Stands keys run.params then c). (standing_next v writes, stands_as keys run.params g then (standing_next v writes) c under is_next is, inr refl))
        one

    pub end_images : (x : Result (Unit {0}) EndErr) → LeavesOnly old disk (EndImages keys run.params s ws new x) → LeavesOnly old disk (StandsIn (StandsRing keys run.params g) (MayStandIn v (End writes)))
    end_images (Ok done) leaves = weakened old disk (EndImages keys run.params s ws new (Ok done)) (StandsIn (StandsRing keys run.params g) (MayStandIn v (End writes))) one_of leaves
    end_images (Err (end.Before f)) leaves = weakened old disk (EndImages keys run.params s ws new (Err (end.Before f))) (StandsIn (StandsRing keys run.params g) (MayStandIn v (End writes))) (λ c was. (standing_now v, now_stands c was, inl (inl refl))) leaves
    end_images (Err (end.Unsure f)) leaves = weakened old disk (EndImages keys run.params s ws new (Err (end.Unsure f))) (StandsIn (StandsRing keys run.params g) (MayStandIn v (End writes))) one_of leaves

    module _ (params : new.params ≡ run.params) where
      batches_then : v.batches ≡ (new.params).batches
      batches_then = holds.batches ∙ sym (ap (λ (q : Params). q.batches) params)

      pub end_holds : (x : Result (Unit {0}) EndErr) → OnOk x ((new.epoch ≡ suc run.epoch) × (new.left ≡ (run.params).batches) × (new.spent ≡ false)) → OnErr x ((new.epoch ≡ run.epoch) × (new.left ≡ run.left) × (new.spent ≡ true)) → EndStands s ws disk new x
          → RingHolds new disk (vault_next v (End writes) (end_answer x))
      end_holds (Ok done) served refused is = record {
        counts_are = counts_made (ap suc (parts v run holds.counts_are).0 ∙ sym served.0) (holds.batches ∙ sym served.1) ((parts v run holds.counts_are).2 ∙ serving ∙ sym served.2);
        batches = batches_then;
        serves = λ is_serving. record { standing = then; at = is; map = map_then; no_doubt = serves.no_doubt };
      }
      end_holds (Err (end.Before f)) served refused is = record { counts_are = stopped v run new holds.counts_are refused.0 refused.1 refused.2; batches = batches_then; serves = λ wrong. absurd (cc) }
      end_holds (Err (end.Unsure f)) served refused is = record { counts_are = stopped v run new holds.counts_are refused.0 refused.1 refused.2; batches = batches_then; serves = λ wrong. absurd (cc) }

      module _ (same_keys : (new.sealer).keys ≡ keys) (same_generation : (new.sealer).generation ≡ g) (counts_now : (t : Clock) (c : Image) → NotAfter t disk.moment → disk.may_leave c → disk.left_since t c) where
        as_new : (allowed : Standing → Type 0) (c : Image) → StandsIn (StandsRing keys run.params g) allowed c → StandsIn (StandsRing (new.sealer).keys new.params (new.sealer).generation) allowed c
        as_new allowed c is =
            subst (λ n. StandsIn (StandsRing (new.sealer).keys new.params n) allowed c) (sym same_generation)
            (subst (λ (q : Params). StandsIn (StandsRing (new.sealer).keys q g) allowed c) (sym params)
            (subst (λ (k : Keys). StandsIn (StandsRing k run.params g) allowed c) (sym same_keys) is))

        pub end_sound : (x : Result (Unit {0}) EndErr) → EndStands s ws disk new x → LeavesOnly old disk (EndImages keys run.params s ws new x) → RingHolds new disk (vault_next v (End writes) (end_answer x)) → RingSound new disk (vault_next v (End writes) (end_answer x))
        end_sound (Ok done) at leaves holding = record {
          holds = holding;
          images = λ c left. as_new (MayStand (vault_next v (End writes) (end_answer (Ok done)))) c (
            standing_next v writes,
            stands_as keys run.params g then (standing_next v writes) c under is_next
                (left_stands keys run.params g then disk c at.settled (subst (λ (q : Params). Stands keys q then disk.cells) params (subst (λ (k : Keys). Stands k new.params then disk.cells) same_keys at.stands)) left),
            inl refl,
          );
        }
        end_sound (Err (end.Before f)) at leaves holding = record {
          holds = holding;
          images = λ c left. as_new (MayStand (record v { spent = true })) c (standing_now v, now_stands c (images_at_end old disk (EndImages keys run.params s ws new (Err (end.Before f))) counts_now leaves c left), inl refl);
        }
        end_sound (Err (end.Unsure f)) at leaves holding = record {
          holds = holding;
          images = λ c left. as_new (MayStand (record v { spent = true; doubt = Some (standing_next v writes) })) c (in_doubt c (images_at_end old disk (EndImages keys run.params s ws new (Err (end.Unsure f))) counts_now leaves c left));
        }
          where
            in_doubt : (c : Image) → OneOf keys run.params s then c → StandsIn (StandsRing keys run.params g) (MayStand (record v { spent = true; doubt = Some (standing_next v writes) })) c
            in_doubt c one = ⊎_elim
                (λ (was : Stands keys run.params s c). (standing_now v, now_stands c was, inl refl))
                (λ (is : Stands keys run.params then c). (standing_next v writes, stands_as keys run.params g then (standing_next v writes) c under is_next is, inr refl))
                one

-- the same images stand for the same, where the keys, the parameters and the generation stay
pub alike_kept : (old new : Run) → (new.sealer).keys ≡ (old.sealer).keys → new.params ≡ old.params → (new.sealer).generation ≡ (old.sealer).generation
    → StandAlike (λ image at. StandsRing (old.sealer).keys old.params (old.sealer).generation image at) (λ image at. StandsRing (new.sealer).keys new.params (new.sealer).generation image at)
alike_kept old new keys params generation =
    subst (λ (k : Keys). StandAlike (λ image at. StandsRing (old.sealer).keys old.params (old.sealer).generation image at) (λ image at. StandsRing k new.params (new.sealer).generation image at)) (sym keys)
    (subst (λ (q : Params). StandAlike (λ image at. StandsRing (old.sealer).keys old.params (old.sealer).generation image at) (λ image at. StandsRing (old.sealer).keys q (new.sealer).generation image at)) (sym params)
    (subst (λ n. StandAlike (λ image at. StandsRing (old.sealer).keys old.params (old.sealer).generation image at) (λ image at. StandsRing (old.sealer).keys old.params n image at)) (sym generation)
    (λ image at. ((λ stands. stands), (λ stands. stands)))))
