-- Where the store stands, nothing of the final lifts is damaged.
use Rattle.std.proofs.Common.{◌≡◌, ⊎_elim, ℕ, Some, None, Err, sym, ◌∙◌, subst}
use Rattle.ob_base.specs.declared.fault.Damaged.{Damaged as Damage}
use Rattle.ob_base.specs.declared.fault.Fault.{Fault}
use Rattle.ob_base.specs.declared.fault.Fault.TheVariants.{Memory, Usage, BadScript, BadParams, NotStore, Damaged, StoreFault, StashFull, Worn, SourceFault, SinkFault}
use Rattle.ob_base.specs.declared.params.Params.{Params}
use Rattle.ob_tables.specs.Buckets.{Buckets}
use Rattle.ob_tables.specs.Content.{Rows}
use Rattle.ob_stand.specs.Table.{buckets_of, flat_of}
use Rattle.ob_fetch.specs.Fetches.{RunsAt}
use Rattle.ob_fetch.proofs.NextLaws.{seals_listed, stands_listed}
use Rattle.ob_recover.specs.Repeats.{table_after_records}
use Rattle.ob_recover.proofs.StandingReads.{no_lift_breaks, no_lift_fails}
use Rattle.ob_ring.specs.FlatTable.{FlatTable}
use Rattle.ob_ring.specs.Picked.{SameSeals}
use Rattle.ob_ring.specs.Ring.{Kept, StandsFor}
use Rattle.ob_seal.specs.declared.keys.Keys.{Keys}
use Rattle.ob_stand.specs.Stands.{RingStanding, Stands}
use Rattle.ob_store.specs.Disk.{Image}
use Rattle.ob_end.specs.Lifts.{IsLiftDamage, IsUndamaged, LiftsAnswer}

module _ (keys : Keys) (p : Params) (ring : Kept) (s : RingStanding) (epoch generation left : ℕ) (image : Image) (stands : Stands keys p s image) (runs : RunsAt keys p epoch generation left ring s image) where
  -- the buckets as they were sealed, and the table
  abbrev start : Buckets
  start = record (buckets_of p s.content) { order = (ring.metas).order }

  abbrev table : FlatTable
  table = table_after_records p (flat_of p s.content) s.records

  sealed : SameSeals start ring.metas
  sealed = seals_listed (buckets_of p s.content) ring (runs.planner).seals

  stood : StandsFor ring table
  stood = stands_listed ring table (runs.planner).table

  none_damaged : (d : Damage) → IsLiftDamage keys p (s.content).versions image table d → ⊥
  none_damaged d damage = ⊎_elim (λ failing. no_lift_fails keys p s image stands d failing)
      (λ row. (let none : None ≡ Some d = sym (no_lift_breaks keys p s image stands (ring.stash).rows row.jobs runs.read row.read) ∙ row.first in cc)) damage

  by_fault : (rows' : Rows) (f : Fault) → LiftsAnswer keys p (s.content).versions image table (ring.stash).rows rows' (Err f) → IsUndamaged (Err f)
  by_fault rows' Memory answer = tt
  by_fault rows' Usage answer = tt
  by_fault rows' (BadScript line) answer = tt
  by_fault rows' (BadParams field) answer = tt
  by_fault rows' NotStore answer = tt
  by_fault rows' (Damaged cell check kept computed) answer = none_damaged (record { cell = cell; check = check; kept = kept; computed = computed }) answer
  by_fault rows' (StoreFault unsure) answer = tt
  by_fault rows' (StashFull full) answer = tt
  by_fault rows' (Worn number) answer = tt
  by_fault rows' SourceFault answer = tt
  by_fault rows' SinkFault answer = tt

  -- as the call answers of any table and any buckets
  pub undamaged : (rows' : Rows) (f : Fault) → ((from : Buckets) (t : FlatTable) → SameSeals from ring.metas → StandsFor ring t → LiftsAnswer keys ring.p from.versions image t (ring.stash).rows rows' (Err f)) → IsUndamaged (Err f)
  undamaged rows' f answers = by_fault rows' f (subst (λ (q : Params). LiftsAnswer keys q (s.content).versions image table (ring.stash).rows rows' (Err f)) (runs.planner).params (answers start table sealed stood))
