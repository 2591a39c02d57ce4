-- A run that a crash cuts off within its opening: what an auditor knows behind it.
use Rattle.std.proofs.Common.{◌≡◌, ◌⊎◌, ◌%◌, ◌+◌, ℕ, suc, List, [], ◌∷◌, ◌++◌, Option, arith, inl, inr, subst, sym, ⊎_elim}
use Rattle.std.specs.Prelude.{take}
use Rattle.ob_base.specs.Layout.{EpochTwin, GenerationTwin, LogArea}
use Rattle.ob_base.specs.declared.params.Params.{Params}
use Rattle.ob_recover.specs.Life.{LifeAct}
use Rattle.ob_schedule.specs.Follow.{Follow}
use Rattle.ob_schedule.specs.Schedule.{check_cells, head_notes, reads_of, region_cells}
use Rattle.ob_seal.specs.declared.keys.Keys.{Keys}
use Rattle.ob_serial.specs.Vaults.{Standing}
use Rattle.ob_stand.proofs.OnceLaws.{register_once}
use Rattle.ob_stand.specs.Stands.{RingStanding, Stands, ring_standing}
use Rattle.ob_store.specs.Calls.{Notes}
use Rattle.ob_store.specs.Disk.{Clock, Disk, Image, NotAfter}
use Rattle.ob_store.specs.Images.{Passes, Same}
use Rattle.ob_store.specs.declared.watch.Note.{Note}
use Rattle.ob_twin.specs.Keyed.{tagging}
use Rattle.ob_twin.specs.Register.{StandsAt}
use Rattle.ob_twin.specs.Stages.{AreSpans}
use Rattle.ob_vault.specs.Kinds as kinds
use Rattle.ob_vault.specs.RingKind.{ring_kind}
use Rattle.ob_vault.specs.RingLaws.{ReadsHead}
use Rattle.ob_vault.specs.RingLives.{ring_lives}
use Rattle.ob_vault.specs.Spans.{span}
use Rattle.ob_vault.specs.Staged.{RingOpensStaged}
use Rattle.ob_vault.specs.Stages.{HowFar}
use Rattle.ob_admitted.proofs.OpeningMoments.{cut_openings}
use Rattle.ob_admitted.proofs.Stopped.{front_of}
use Rattle.ob_admitted.specs.OpeningMoments.{AreReadsShown, IsCutInStages, IsMomentShown, IsOpeningCutShown, IsShownIn}
use Rattle.ob_admitted.specs.Stopped.{IsStopShown}
use Rattle.ob_top.proofs.AuditingStops.{stops_read}
use Rattle.ob_top.proofs.Knowing.{audited_within, known_within}
use Rattle.ob_top.proofs.Refusing.{head_part}
use Rattle.ob_top.specs.AuditedStops.{IsHeldOrLeft, IsSurelyLeft}
use Rattle.ob_top.specs.Auditors.{AuditorKnows}
use Rattle.ob_top.specs.CutOpenings.{AreReadsAudited, AreStagesAudited, BrokenOpeningsAreRead, CutHeadsAreRead, CutOpeningsAreRead, IsMomentAudited, IsOpeningAudited, OpeningsOfRunsAreRead, RefusedOpeningsAreRead, StopsLeadOn}
use Rattle.ob_top.specs.Parts.{head_cells}
use Rattle.ob_top.specs.Pasts.{PastLife}
use Rattle.ob_top.specs.Runs.{head_reads}
use Rattle.ob_top.specs.Staged.{OpensStaged}

module _ {S : Type 0} (disk : S → Disk) (counts_now : (x : S) (t : Clock) (c : Image) → NotAfter t (disk x).moment → (disk x).may_leave c → (disk x).left_since t c) (only_now : (x : S) (c : Image) → (disk x).left_since (disk x).moment c → (disk x).may_leave c) where
  module _ (keys : Keys) (p : Params) (past : PastLife) (in_flight : Option LifeAct) (known : Follow) (old : S) (k : AuditorKnows keys p past in_flight (IsHeldOrLeft (disk old)) known) where
    -- the store as it is, over no time
    within : (c : Image) → IsHeldOrLeft (span disk (old, old)) c → IsHeldOrLeft (disk old) c
    within c (inl held) = inl held
    within c (inr left) = inr (only_now old c left)

    at_moment : AuditorKnows keys p past in_flight (IsHeldOrLeft (span disk (old, old))) known
    at_moment = known_within keys p past in_flight (IsHeldOrLeft (disk old)) (IsHeldOrLeft (span disk (old, old))) known within k

    surely : (x : S × S) (notes : List Note) (c : Image) → IsSurelyLeft keys p (disk old) (span disk x) notes c → IsSurelyLeft keys p (span disk (old, old)) (span disk x) notes c
    surely x notes c will = record { left = will.left; before = will.before }

    moment : (x : S × S) (notes : List Note) → IsStopShown keys p (span disk (old, old)) (span disk x) notes → IsMomentAudited disk keys p past known old x notes
    moment x notes stop =
        audited_within keys p past known notes (IsSurelyLeft keys p (span disk (old, old)) (span disk x) notes) (IsSurelyLeft keys p (disk old) (span disk x) notes) (surely x notes)
        (stops_read (span disk) keys p past in_flight known (old, old) x notes at_moment stop)

    -- ---- up to its first sync

    reading : (end : S) → Passes Same (disk old) (disk end) → (notes : List Note) → ((epoch : ℕ) → StandsAt (tagging keys) 5 (disk old).cells epoch → AreReadsShown p epoch notes) → IsMomentAudited disk keys p past known old (old, end) notes
    reading end passes notes shown = moment (old, end) notes (inl (record {
      shown = shown;
      shrinks = λ c since.
          ⊎_elim (λ before. before)
          (λ now. subst (λ (i : Image). (disk old).left_since (disk old).moment i) (sym now.2) (counts_now old (disk old).moment now.0 (λ part. omega arith) now.1))
          (passes.since (disk old).moment c (λ part. omega arith) since);
    }))

    reads_audited : (s : RingStanding) → Stands keys p s (disk old).cells → (end : S) → Passes Same (disk old) (disk end) → AreReadsAudited disk keys p past known s.epoch old end
    reads_audited s stands end passes notes shown = reading end passes notes (λ epoch at. subst (λ (e : ℕ). AreReadsShown p e notes) (register_once (tagging keys) 5 (disk old).cells s.epoch epoch stands.epoch at) shown)

    head_audited : (end : S) → Passes Same (disk old) (disk end) → (count : ℕ) → IsMomentAudited disk keys p past known old (old, end) (take count head_notes)
    head_audited end passes count = reading end passes (take count head_notes)
        (λ epoch at. (let front = front_of count head_notes (reads_of (region_cells p GenerationTwin ++ region_cells p EpochTwin) ++ reads_of (check_cells p (epoch % 2)) ++ reads_of (region_cells p (LogArea ((epoch + 1) % 2)))) in (front.0, front.2)))

    -- ---- in stages

    each : {Is So : ℕ → S × S → Type 0} → ((stage : ℕ) (x : S × S) → Is stage x → So stage x) → (stage : ℕ) (from : S) (ends : List S) (to : S) → AreSpans Is stage from ends to → AreSpans So stage from ends to
    each so stage from [] to is = is
    each so stage from (end ∷ ends) to is = (so stage (from, end) is.0, each so (suc stage) end ends to is.1)

    in_stages : (new : S) → IsCutInStages disk keys p old new → AreStagesAudited disk keys p past known old new
    in_stages new cut = record {
      found = cut.found;
      found_in = cut.found_in;
      synced = cut.synced;
      ends = cut.ends;
      cut = each {Is = λ stage x. (notes : List Note) → IsShownIn p cut.found stage notes → IsMomentShown disk keys p old x notes} {So = λ stage x. (notes : List Note) → IsShownIn p cut.found stage notes → IsMomentAudited disk keys p past known old x notes}
          (λ stage x shown notes may. moment x notes (shown notes may).1) 0 old (cut.synced ∷ cut.synced ∷ cut.ends) new cut.cut;
    }

    opening_audited : (read new : S) (s : RingStanding) → Stands keys p s (disk old).cells → (how : HowFar disk keys p read new) → IsOpeningCutShown disk keys p s.epoch old read new how → IsOpeningAudited disk keys p past known p s.epoch old read new how
    opening_audited read new s stands (inl still) shown = λ notes may. moment (old, new) notes (shown notes may).1
    opening_audited read new s stands (inr since) shown = in_stages new shown

  -- ---- the laws

  pub cut_openings_read : CutOpeningsAreRead disk
  cut_openings_read keys p past in_flight known old read new s k tells stands head how = opening_audited keys p past in_flight known old k read new s stands how (cut_openings disk counts_now only_now keys p old read new s tells stands head how)

  -- an opening that came in all of its stages
  by_stages : (keys : Keys) (p : Params) (past : PastLife) (in_flight : Option LifeAct) (known : Follow) (old new : S) (at : Standing) → AuditorKnows keys p past in_flight (IsHeldOrLeft (disk old)) known → (disk old).tells → kinds.Stands ring_kind keys p (disk old).cells at
      → RingOpensStaged disk keys p old new → AreStagesAudited disk keys p past known old new
  by_stages keys p past in_flight known old new at k tells stood staged =
      cut_openings_read keys p past in_flight known old staged.read new (ring_standing at stood.0 (stood.1).content (stood.1).records) k tells (stood.1).stands staged.head (inr (inr staged.begins))

  -- by the parameters of which the head told
  of_params : (keys : Keys) (p q : Params) (head_is : List ℕ) (old new : S) → head_is ≡ head_cells → q ≡ p → OpensStaged head_is ring_kind ring_lives disk keys q old new → RingOpensStaged disk keys p old new
  of_params keys p q head_is old new head params staged =
      subst (λ (q : Params). RingOpensStaged disk keys q old new) params (subst (λ (cells : List ℕ). OpensStaged cells ring_kind ring_lives disk keys q old new) head staged)

  pub runs_openings_read : OpeningsOfRunsAreRead disk
  runs_openings_read keys p past in_flight known r k one =
      by_stages keys p past in_flight known r.old (one.ran).between one.at k one.tells one.stood (of_params keys p (one.ran).p (r.by).head r.old (one.ran).between one.head one.params (one.ran).opens_staged)

  pub broken_openings_read : BrokenOpeningsAreRead disk
  broken_openings_read keys p past in_flight known r k head broke =
      by_stages keys p past in_flight known r.old r.new broke.at k broke.tells broke.stood (of_params keys p (broke.went).p (r.by).head r.old r.new head broke.params (broke.went).opens_staged)

  pub refused_openings_read : RefusedOpeningsAreRead disk
  refused_openings_read keys p past in_flight known r k head_is stopped =
      let stops = (stopped.went).stops in
      let s = ring_standing stopped.at (stopped.stood).0 ((stopped.stood).1).content ((stopped.stood).1).records in
      let head : ReadsHead (disk r.old) (disk stops.read) = record { keeps = stops.keeps; passes = stops.passes; seen = subst (λ (cells : List ℕ). Notes (head_reads cells) (disk r.old).seen (disk stops.read).seen) head_is stops.seen } in
      subst (λ (q : Params). (how : HowFar disk keys q stops.read r.new) → IsOpeningAudited disk keys p past known q (stopped.at).epoch r.old stops.read r.new how) (sym stopped.params)
      (λ how. cut_openings_read keys p past in_flight known r.old stops.read r.new s k stopped.tells ((stopped.stood).1).stands head how) stops.far

  pub cut_heads_read : CutHeadsAreRead disk
  cut_heads_read keys p past in_flight known r k head came count = head_audited keys p past in_flight known r.old k r.new (head_part disk keys p r head came).passes count

  pub stops_lead_on : StopsLeadOn disk
  stops_lead_on keys p past in_flight old x notes next known k within = known_within keys p past in_flight (IsSurelyLeft keys p (disk old) (span disk x) notes) (IsHeldOrLeft (disk next)) known within k
