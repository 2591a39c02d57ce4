-- A store that stood stands behind each return.
use Rattle.std.proofs.Common.{◌≡◌, ℕ, List, Option, Some, None, refl, sym, subst, inl, inr, arith}
use Rattle.ob_base.specs.declared.params.Params.{Params}
use Rattle.ob_shares.specs.declared.shares.Shares.{Shares}
use Rattle.ob_conduct.specs.declared.run_err.RunErr.{RunErr}
use Rattle.ob_conduct.specs.declared.run_err.RunErr.TheVariants as failed
use Rattle.ob_store.specs.Lines.{Trace}
use Rattle.ob_top.specs.Endings.{told_fault}
use Rattle.ob_base.specs.declared.fault.Fault.{Fault}
use Rattle.ob_base.specs.declared.fault.Fault.TheVariants.{Memory, Usage, BadScript, BadParams, NotStore, Damaged, StoreFault, StashFull, Worn, SourceFault, SinkFault}
use Rattle.ob_io.specs.Streams.{Flow}
use Rattle.ob_report.specs.Faults.{status_of}
use Rattle.ob_seal.specs.declared.keys.Keys.{Keys}
use Rattle.ob_serial.specs.Serial.{EpochRecord}
use Rattle.ob_serial.specs.Vaults.{Standing, StandsIn}
use Rattle.ob_store.specs.Disk.{Clock, Disk, Image, NotAfter}
use Rattle.ob_store.specs.Images.{LeavesOnly, Passes, Same}
use Rattle.ob_vault.specs.Formats.{beginning}
use Rattle.ob_vault.specs.Keeping.{AreStandingLaws}
use Rattle.ob_vault.specs.KindLives.{LifeWords}
use Rattle.ob_top.specs.Audited.{AuditWords}
use Rattle.ob_vault.specs.Kinds.{AllStand, StoreKind, Stands, StandsAsBefore}
use Rattle.ob_top.specs.Formats.{IsFormatted}
use Rattle.ob_top.specs.Outside.{Given, Outside}
use Rattle.ob_top.specs.Runs.{EndsEarly, Ran}
use Rattle.ob_top.specs.Parts.{Manner}
use Rattle.ob_top.specs.Sound.{IsSound, StandsOn}

-- a status is 0 where there is no fault
none_at_0 : (fault : Option Fault) → status_of fault ≡ 0 → fault ≡ None
none_at_0 None is = refl
none_at_0 (Some Memory) is = absurd (omega (arith, is))
none_at_0 (Some Usage) is = absurd (omega (arith, is))
none_at_0 (Some (BadScript line)) is = absurd (omega (arith, is))
none_at_0 (Some (BadParams field)) is = absurd (omega (arith, is))
none_at_0 (Some NotStore) is = absurd (omega (arith, is))
none_at_0 (Some (Damaged cell check kept computed)) is = absurd (omega (arith, is))
none_at_0 (Some (StoreFault unsure)) is = absurd (omega (arith, is))
none_at_0 (Some (StashFull rows)) is = absurd (omega (arith, is))
none_at_0 (Some (Worn number)) is = absurd (omega (arith, is))
none_at_0 (Some SourceFault) is = absurd (omega (arith, is))
none_at_0 (Some SinkFault) is = absurd (omega (arith, is))

pub none_told_at_0 : (err : Option RunErr) → status_of (told_fault err) ≡ 0 → err ≡ None
none_told_at_0 None is = refl
none_told_at_0 (Some (failed.Fault fault)) is = absurd (some_isnt (none_at_0 (Some fault) is))
  where
    some_isnt : ◌≡◌ {A = Option Fault} (Some fault) None → ⊥
    some_isnt same = cc same
none_told_at_0 (Some failed.Unwatched) is = absurd (omega (arith, is))

module _ (store : StoreKind) where
  -- a new store stands
  pub formatted_sound : (life : LifeWords store) (audit : AuditWords store) {S : Type 0} (disk : S → Disk) (tape : Given) (keys : Keys) (p : Params) (old new : S) → IsFormatted store life audit disk tape keys p old new → (disk old).tells → IsSound store keys p (disk new)
  formatted_sound life audit disk tape keys p old new is tells = record {
    cells = λ told. (beginning, (1, is.made.stands tells));
    images = λ c left. (beginning, (1, is.made.images tells c left));
  }

  module _ (keys : Keys) (p : Params) where
    -- so does one that was only read
    read_sound : (old new : Disk) → Passes Same old new → IsSound store keys p old → IsSound store keys p new
    read_sound old new passes sound = record {
      cells = λ tells.
          let back = passes.told tells in
          let found = sound.cells back.0 in
          (found.0, subst (λ (i : Image). Stands store keys p i found.0) (sym back.1) found.1);
      images = λ c left.
          let back = passes.now c left in
          let found = sound.images back.0 back.1 in
          (found.0, subst (λ (i : Image). Stands store keys p i found.0) (sym back.2) found.1);
    }

    -- one of which all that is left stands as before
    left_sound : (old new : Disk) → ((c : Image) → new.may_leave c → new.left_since old.moment c) → LeavesOnly old new (StandsAsBefore store keys p old) → IsSound store keys p new
    left_sound old new since left = record {
      cells = λ tells. let found = left.told tells in (found.at, (found.generation, found.stands));
      images = λ c may. let found = left.each c (since c may) in (found.at, (found.generation, found.stands));
    }

    -- and one that stands at this generation
    in_generation : (g : ℕ) (allowed : Standing → Type 0) (c : Image) → StandsIn (store.stands keys p g) allowed c → (at : Standing) × Stands store keys p c at
    in_generation g allowed c (at, stands, is) = (at, (g, stands))

  module _ (laws : AreStandingLaws store) (keys : Keys) (p : Params) where
    -- what stands has one head
    one_p : (q : Params) (old : Disk) → old.tells → IsSound store keys p old → (old.tells → store.is_head keys q (old.cells 0)) → p ≡ q
    one_p q old tells sound head =
        let (at, (g, stands)) = sound.cells tells in
        laws.one_head keys p q (old.cells 0) (laws.has_head keys p g old.cells at stands) (head tells)

  module _ (laws : AreStandingLaws store) (life : LifeWords store) (audit : AuditWords store) {S : Type 0} (disk : S → Disk) (counts_now : (x : S) (t : Clock) (c : Image) → NotAfter t (disk x).moment → (disk x).may_leave c → (disk x).left_since t c) (keys : Keys) (old new : S) where
    -- one that was opened, as far as it came
    opened_sound : (q : Params) → ((disk old).tells → store.is_head keys q ((disk old).cells 0)) →
        ((at : Standing) → (disk old).tells → Stands store keys q (disk old).cells at → AllStand store keys q (disk old) → LeavesOnly (disk old) (disk new) (StandsAsBefore store keys q (disk old))) → StandsOn store disk keys old new
    opened_sound q head leaves p tells sound =
        let same : p ≡ q = one_p laws keys p q (disk old) tells sound head in
        let is = subst (λ (q : Params). IsSound store keys q (disk old)) same sound in
        let (at, stands) = is.cells tells in
        let left = leaves at tells stands is.images in
        subst (λ (q : Params). IsSound store keys q (disk new)) (sym same) (left_sound keys q (disk old) (disk new) (λ c may. counts_now new (disk old).moment c left.later may) left)

    pub early_sound : (head_is : List ℕ) (most : ℕ) (shares : Shares) (t u : Trace) (before after : Flow) (err : RunErr) → EndsEarly store life audit head_is keys most shares (disk old) (disk new) t u disk old new before after err → StandsOn store disk keys old new
    early_sound head_is most shares t u before after (failed.Fault refused) (inl head) p tells sound = read_sound keys p (disk old) (disk new) head.passes sound
    early_sound head_is most shares t u before after (failed.Fault refused) (inr (inl input)) p tells sound = read_sound keys p (disk old) (disk new) input.passes sound
    early_sound head_is most shares t u before after (failed.Fault refused) (inr (inr opening)) p tells sound = opened_sound opening.p opening.head opening.left p tells sound
    early_sound head_is most shares t u before after failed.Unwatched (inl head) p tells sound = read_sound keys p (disk old) (disk new) head.passes sound
    early_sound head_is most shares t u before after failed.Unwatched (inr opening) p tells sound = opened_sound opening.p opening.opened.head opening.left p tells sound

    pub ran_sound : (by : Manner) (tape : Given) (before after : Outside) (t u : Trace) (records : List (EpochRecord ℕ)) (err : Option RunErr) → Ran store life audit disk by tape keys old new before after t u records err → StandsOn store disk keys old new
    ran_sound by tape before after t u records err r p tells sound =
        let same : p ≡ r.p = one_p laws keys p r.p (disk old) tells sound r.opened.head in
        let is = subst (λ (q : Params). IsSound store keys q (disk old)) same sound in
        let (at, stands) = is.cells tells in
        let (told, settled) = r.durable tells in
        let left = r.serving.left at told settled (r.stood at tells stands) in
        subst (λ (q : Params). IsSound store keys q (disk new)) (sym same) (record {
          cells = λ told. in_generation keys r.p (store.generation r.found) _ (disk new).cells (left.now (disk new).cells (inr (told, refl)));
          images = λ c may. in_generation keys r.p (store.generation r.found) _ c (left.now c (inl may));
        })
