-- Why nothing was run over a store that stood.
use Rattle.std.proofs.Common.{◌≡◌, ◌∙◌, ◌⊎◌, suc, false, [], ◌∷◌, sym, ap, subst, inl, inr}
use Rattle.ob_base.specs.Causes.{Rose}
use Rattle.ob_base.specs.declared.fault.Fault.{Fault}
use Rattle.ob_base.specs.declared.fault.Fault.TheVariants.{Memory, Usage, BadScript, BadParams, NotStore, Damaged, StoreFault, StashFull, Worn, SourceFault, SinkFault}
use Rattle.ob_base.specs.declared.params.Params.{Params}
use Rattle.ob_conduct.specs.Acts.{fault_of}
use Rattle.ob_conduct.specs.declared.run_err.RunErr.{RunErr}
use Rattle.ob_conduct.specs.declared.run_err.RunErr.TheVariants as failed
use Rattle.ob_opening.specs.Openings.{IsStandingRefusal}
use Rattle.ob_seal.specs.declared.keys.Keys.{Keys}
use Rattle.ob_serial.specs.Vaults.{Standing}
use Rattle.ob_stand.specs.Stands.{RingStanding}
use Rattle.ob_stand.specs.Stands as ring
use Rattle.ob_store.proofs.Serving.{rose_later}
use Rattle.ob_store.specs.Calls.{IsStoreFault}
use Rattle.ob_store.specs.Disk.{Disk}
use Rattle.ob_store.specs.Lines.{Trace, lines_of}
use Rattle.ob_store.specs.declared.watch.Note.TheVariants as note
use Rattle.ob_vault.proofs.Standing.{ring_keeps}
use Rattle.ob_vault.specs.RingLives.{ring_lives}
use Rattle.ob_top.specs.Audited.{ring_audits}
use Rattle.ob_vault.specs.RingKind.{ring_kind}
use Rattle.ob_top.specs.Calls.{RunCall}
use Rattle.ob_top.specs.Headline.{Stood}
use Rattle.ob_top.specs.Pasts.{PastLife, life_of}
use Rattle.ob_top.specs.Promised.{IsEarlyCause}
use Rattle.ob_top.specs.Runs.{AreSharesRefused, EndsEarly, IsInputRefused}
use Rattle.ob_top.proofs.Completing.{rose_added}

module _ {S : Type 0} (disk : S → Disk) (keys : Keys) (p : Params) (at : Standing) (past : PastLife) (call : RunCall S) (stood : Stood disk keys p at past call.tape call.old) where
  abbrev Early : Fault → Type 0
  Early f = IsEarlyCause disk p past call f

  by_store : (f : Fault) → IsStoreFault f → Rose (disk call.old).faults (disk call.new).faults → Early f
  by_store (StoreFault unsure) is rose = rose
  by_store Memory is rose = absurd is
  by_store Usage is rose = absurd is
  by_store (BadScript line) is rose = absurd is
  by_store (BadParams field) is rose = absurd is
  by_store NotStore is rose = absurd is
  by_store (Damaged cell check kept computed) is rose = absurd is
  by_store (StashFull rows) is rose = absurd is
  by_store (Worn number) is rose = absurd is
  by_store SourceFault is rose = absurd is
  by_store SinkFault is rose = absurd is

  by_input : (f : Fault) → IsInputRefused p.keys call.before.input call.after.input f → Early f
  by_input Memory refusal = tt
  by_input SourceFault refusal = refusal
  by_input (BadScript line) refusal = refusal
  by_input Usage refusal = absurd refusal
  by_input (BadParams field) refusal = absurd refusal
  by_input NotStore refusal = absurd refusal
  by_input (Damaged cell check kept computed) refusal = absurd refusal
  by_input (StoreFault unsure) refusal = absurd refusal
  by_input (StashFull rows) refusal = absurd refusal
  by_input (Worn number) refusal = absurd refusal
  by_input SinkFault refusal = absurd refusal

  by_either : (f : Fault) → IsInputRefused p.keys call.before.input call.after.input f ⊎ AreSharesRefused p call.by.shares call.before.input f → Early f
  by_either f (inl refusal) = by_input f refusal
  by_either f (inr (field, is, script, came, refusal)) = subst Early (sym is) (script, came, refusal)

  by_opening : (s : RingStanding) → s.generation ≡ (life_of p past).generation → (f : Fault) → IsStandingRefusal s f → (IsStoreFault f → Rose (disk call.old).faults (disk call.new).faults) → Early f
  by_opening s same Memory is cause = tt
  by_opening s same (StoreFault unsure) is cause = cause tt
  by_opening s same (Worn number) is cause = ap suc (sym same) ∙ is
  by_opening s same Usage is cause = absurd is
  by_opening s same (BadScript line) is cause = absurd is
  by_opening s same (BadParams field) is cause = absurd is
  by_opening s same NotStore is cause = absurd is
  by_opening s same (Damaged cell check kept computed) is cause = absurd is
  by_opening s same (StashFull rows) is cause = absurd is
  by_opening s same SourceFault is cause = absurd is
  by_opening s same SinkFault is cause = absurd is

  has_head : ring_kind.is_head keys p ((disk call.old).cells 0)
  has_head = let (g, stands) = stood.is_at.stands in ring_keeps.has_head keys p g (disk call.old).cells at stands

  one_head : (q : Params) → ((disk call.old).tells → ring_kind.is_head keys q ((disk call.old).cells 0)) → q ≡ p
  one_head q head = ring_keeps.one_head keys q p ((disk call.old).cells 0) (head stood.tells.0) has_head

  module _ (t u : Trace) (whole : t.broken ≡ false) (traced : Rose t.faults u.faults → Rose call.traced_before call.traced_after) where
    pub early_cause : (e : RunErr) → EndsEarly ring_kind ring_lives ring_audits call.by.head keys call.by.lanes call.by.shares (disk call.old) (disk call.new) t u disk call.old call.new call.before.input call.after.input e → Early (fault_of e)
    early_cause (failed.Fault f) (inl head) =
        let is = ring_keeps.reads_head keys p ((disk call.old).cells 0) f has_head head.kind (head.read stood.tells.0) in
        by_store f is (head.cause is)
    early_cause (failed.Fault f) (inr (inl input)) = by_either f (subst (λ (q : Params). IsInputRefused q.keys call.before.input call.after.input f ⊎ AreSharesRefused q call.by.shares call.before.input f) (one_head input.p input.head) input.refused)
    early_cause (failed.Fault f) (inr (inr o)) =
        let there = stood.is_at.there in
        by_opening there.standing there.generation f
        ((o.read stood.tells.0).stood there.standing (subst (λ (q : Params). ring.Stands keys q there.standing (disk call.old).cells) (sym (one_head o.p o.head)) there.stands)) o.cause
    early_cause failed.Unwatched (inl head) = inr (traced (rose_added (lines_of (note.Read 0 ∷ [])) t u head.shown whole head.broken))
    early_cause failed.Unwatched (inr o) = inr (traced (rose_later t.faults o.shown.between.faults u.faults o.shown.head.faults
        (rose_added (lines_of (ring_kind.open_notes o.p o.found o.start)) o.shown.between u o.shown.behind o.shown.whole o.broken)))
