-- A vault stays sound, whatever an end of an epoch answers.
use Rattle.std.proofs.Common.{◌≡◌, inl, inr, ℕ, suc, Bool, true, false, List, Option, Some, Err, length, refl, sym, ap, subst, ◌∙◌}
use Rattle.std.specs.Borrow.{GName}
use Rattle.ob_base.specs.declared.params.Params.{Params}
use Rattle.ob_store.specs.Disk.{Disk, Image, Clock, NotAfter}
use Rattle.ob_store.specs.Images.{IsSynced, LeavesOnly}
use Rattle.ob_store.proofs.Moments.{started, weakened}
use Rattle.std.specs.Ordering.{nat_cmp}
use Rattle.ob_seal.specs.declared.keys.Keys.{Keys}
use Rattle.ob_seal.specs.Sealing.{Sealing}
use Rattle.ob_serial.specs.Serial.{Map}
use Rattle.ob_serial.specs.declared.vault.EndErr.{EndErr}
use Rattle.ob_serial.specs.declared.vault.EndErr.TheVariants.{Before, Unsure}
use Rattle.ob_serial.specs.Vaults.{VaultState, VaultCounts, Fetch, End, Ended, Standing, standing_now, standing_next, with_writes, vault_next, counts_of, MayStand, MayStandIn, StandsIn, StandAlike}
use Rattle.ob_serial.specs.VaultViews.{end_answer}
use Rattle.ob_flat.specs.Standing.{IsMapOf, StandsFlat}
use Rattle.ob_flat.specs.declared.opening.Opening.{Opening}
use Rattle.ob_flat.specs.Openings.{IsOpenedAt}
use Rattle.ob_flat.specs.Ends.{EndsFrom, EndsIn, StandsAtOne}
use Rattle.ob_flat.specs.Calls.{FlatServes, FlatSound, lent, opened_at}
use Rattle.ob_flat.proofs.Moved.{stands_same}
use Rattle.ob_twin.proofs.Moves.{images_at_end, settled_image}

-- a reference more changes nothing of what crashes leave
pub lent_leaves : (name other : GName) (old new : Disk) (P : Image → Type 0) → LeavesOnly old new P → LeavesOnly (lent name old) (lent other new) P
lent_leaves name other old new P run = record { later = run.later; each = run.each; before = run.before; told = run.told }

counts_of_parts : (v : VaultState) (counts : VaultCounts) → counts_of v ≡ counts → (v.epoch ≡ counts.epoch) × (v.left ≡ counts.left) × (v.spent ≡ counts.spent)
counts_of_parts v counts is = (ap (λ (k : VaultCounts). k.epoch) is, ap (λ (k : VaultCounts). k.left) is, ap (λ (k : VaultCounts). k.spent) is)

counts_made : {epoch epoch' left left' : ℕ} {spent spent' : Bool} → epoch ≡ epoch' → left ≡ left' → spent ≡ spent' → ◌≡◌ {A = VaultCounts} (record { epoch = epoch; left = left; spent = spent }) (record { epoch = epoch'; left = left'; spent = spent' })
counts_made a b c = λ i. record { epoch = a i; left = b i; spent = c i }

module _ (keys : Keys) (p : Params) (g : ℕ) (counts : VaultCounts) (values next : List (Option (List ℕ))) (old new : Disk) (v : VaultState) (writes : List (ℕ × Option (List ℕ))) (sound : FlatSound keys p g counts values old v) (serving : counts.spent ≡ false) where
  serves : FlatServes keys p g old v
  serves = sound.serves ((counts_of_parts v counts sound.holds.counts_are).2 ∙ serving)

  -- what the end begins with
  pub begins : length next ≡ p.keys → ((m : Map nat_cmp) → IsMapOf values m → IsMapOf next (with_writes m writes)) → EndsFrom keys p g old (suc counts.epoch) next (standing_now v) (standing_next v writes)
  begins whole written =
      let epoch : v.epoch ≡ counts.epoch = (counts_of_parts v counts sound.holds.counts_are).0 in
      record {
        whole = whole;
        follows = ap suc (sym epoch);
        is = ap suc epoch;
        content = written v.content sound.holds.content;
        tells = serves.tells;
        settled = serves.settled;
        stands = serves.stands;
      }

  one_of : (c : Image) → StandsAtOne keys p g (standing_now v) (standing_next v writes) c → StandsIn (StandsFlat keys p g) (MayStandIn v (End writes)) c
  one_of c (inl stands) = (standing_now v, stands, inl (inl refl))
  one_of c (inr stands) = (standing_next v writes, stands, inr refl)

  -- during an end that was refused an image stands for what is allowed
  pub refused_in : (r : EndErr) → EndsIn keys p g old new (standing_now v) (standing_next v writes) (end_answer (Err r)) → LeavesOnly old new (StandsIn (StandsFlat keys p g) (MayStandIn v (End writes)))
  refused_in (Before fault) run = weakened old new (λ c. StandsFlat keys p g c (standing_now v)) (StandsIn (StandsFlat keys p g) (MayStandIn v (End writes))) (λ c stands. (standing_now v, stands, inl (inl refl))) run
  refused_in (Unsure fault) run = weakened old new (StandsAtOne keys p g (standing_now v) (standing_next v writes)) (StandsIn (StandsFlat keys p g) (MayStandIn v (End writes))) one_of run

  -- and during one that went well
  pub ended_in : EndsIn keys p g old new (standing_now v) (standing_next v writes) Ended → LeavesOnly old new (StandsIn (StandsFlat keys p g) (MayStandIn v (End writes)))
  ended_in run = weakened old new (StandsAtOne keys p g (standing_now v) (standing_next v writes)) (StandsIn (StandsFlat keys p g) (MayStandIn v (End writes))) one_of run.0

  module _ (counts_now : (t : Clock) (c : Image) → NotAfter t new.moment → new.may_leave c → new.left_since t c) where
    in_doubt : (c : Image) → StandsAtOne keys p g (standing_now v) (standing_next v writes) c → StandsIn (StandsFlat keys p g) (MayStand (record v { spent = true; doubt = Some (standing_next v writes) })) c
    in_doubt c (inl stands) = (standing_now v, stands, inl refl)
    in_doubt c (inr stands) = (standing_next v writes, stands, inr refl)

    stopped : (spent : Bool) → spent ≡ true → counts_of (record v { spent = true }) ≡ record { epoch = counts.epoch; left = counts.left; spent = spent }
    stopped spent is =
        let parts = counts_of_parts v counts sound.holds.counts_are in
        counts_made parts.0 parts.1 (sym is)

    never : (spent : Bool) → spent ≡ true → true ≡ false → ⊥
    never spent is wrong = cc

    -- after a refused end
    pub refused_sound : (r : EndErr) (epoch : ℕ) (spent : Bool) → epoch ≡ counts.epoch → spent ≡ true → EndsIn keys p g old new (standing_now v) (standing_next v writes) (end_answer (Err r))
        → FlatSound keys p g (record { epoch = epoch; left = counts.left; spent = spent }) values new (vault_next v (End writes) (end_answer (Err r)))
    refused_sound (Before fault) epoch spent same ended run = record {
      holds = record { counts_are = stopped spent ended ∙ counts_made (sym same) refl refl; batches = sound.holds.batches; content = sound.holds.content };
      serves = λ wrong. absurd (never spent ended wrong);
      images = λ c is. (standing_now v, images_at_end old new (λ i. StandsFlat keys p g i (standing_now v)) counts_now run c is, inl refl);
    }
    refused_sound (Unsure fault) epoch spent same ended run = record {
      holds = record { counts_are = stopped spent ended ∙ counts_made (sym same) refl refl; batches = sound.holds.batches; content = sound.holds.content };
      serves = λ wrong. absurd (never spent ended wrong);
      images = λ c is. in_doubt c (images_at_end old new (StandsAtOne keys p g (standing_now v) (standing_next v writes)) counts_now run c is);
    }

  -- after one that went well
  pub ended_sound : (epoch left : ℕ) (spent : Bool) (kept : List (Option (List ℕ))) → epoch ≡ suc counts.epoch → left ≡ p.batches → spent ≡ false → kept ≡ next → ((m : Map nat_cmp) → IsMapOf values m → IsMapOf next (with_writes m writes))
      → EndsIn keys p g old new (standing_now v) (standing_next v writes) Ended
      → FlatSound keys p g (record { epoch = epoch; left = left; spent = spent }) kept new (vault_next v (End writes) Ended)
  ended_sound epoch left spent kept is full still same written run =
      let parts = counts_of_parts v counts sound.holds.counts_are in
      record {
        holds = record {
          counts_are = counts_made (ap suc parts.0 ∙ sym is) (sound.holds.batches ∙ sym full) (parts.2 ∙ serving ∙ sym still);
          batches = sound.holds.batches;
          content = subst (λ (l : List (Option (List ℕ))). IsMapOf l (with_writes v.content writes)) (sym same) (written v.content sound.holds.content);
        };
        serves = λ _. record { tells = run.1.tells; settled = run.1.settled; no_doubt = serves.no_doubt; stands = run.1.stands };
        images = λ c image. (standing_next v writes, stands_same keys p g (standing_next v writes) c new.cells (settled_image new run.1.settled c image) run.1.stands, inl refl);
      }

-- a fetch
pub fetch_in : (keys : Keys) (p : Params) (g : ℕ) (counts : VaultCounts) (values : List (Option (List ℕ))) (old : Disk) (v : VaultState) (asks : List (Option ℕ)) → FlatSound keys p g counts values old v → ((c : Image) → old.left_since old.moment c → old.may_leave c)
    → LeavesOnly old old (StandsIn (StandsFlat keys p g) (MayStandIn v (Fetch asks)))
fetch_in keys p g counts values old v asks sound only = started old (StandsIn (StandsFlat keys p g) (MayStandIn v (Fetch asks))) (λ c left. sound.images c (inl (only c left))) (λ tells. sound.images old.cells (inr (tells, refl)))

-- a vault over a store that was opened
pub opened_sound : (keys : Keys) (p : Params) (at : Standing) (opening : Opening) (d : Disk) → d.tells → IsSynced d → IsOpenedAt keys p at opening d
    → FlatSound keys p opening.sealer.generation (record { epoch = opening.epoch; left = p.batches; spent = false }) opening.values.items d (opened_at p at)
opened_sound keys p at opening d tells settled opened = record {
  holds = record { counts_are = counts_made (sym opened.epoch) refl refl; batches = refl; content = opened.content };
  serves = λ _. record { tells = tells; settled = settled; no_doubt = refl; stands = opened.stands };
  images = λ c is. (at, stands_same keys p opening.sealer.generation at c d.cells (settled_image d settled c is) opened.stands, inl refl);
}

-- an end leaves the keys and the generation
pub kept_sound : (old new : Sealing) → new.keys ≡ old.keys → new.generation ≡ old.generation → (p : Params) (counts : VaultCounts) (values : List (Option (List ℕ))) (d : Disk) (v : VaultState)
    → FlatSound old.keys p old.generation counts values d v → FlatSound new.keys p new.generation counts values d v
kept_sound old new keys generation p counts values d v sound =
    subst (λ (k : Keys). FlatSound k p new.generation counts values d v) (sym keys) (subst (λ g. FlatSound old.keys p g counts values d v) (sym generation) sound)

pub alike_kept : (old new : Sealing) → new.keys ≡ old.keys → new.generation ≡ old.generation → (p : Params)
    → StandAlike (λ image at. StandsFlat old.keys p old.generation image at) (λ image at. StandsFlat new.keys p new.generation image at)
alike_kept old new keys generation p =
    subst (λ (k : Keys). StandAlike (λ image at. StandsFlat old.keys p old.generation image at) (λ image at. StandsFlat k p new.generation image at)) (sym keys)
    (subst (λ g. StandAlike (λ image at. StandsFlat old.keys p old.generation image at) (λ image at. StandsFlat old.keys p g image at)) (sym generation) (λ image at. ((λ stands. stands), (λ stands. stands))))
