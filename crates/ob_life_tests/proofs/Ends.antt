-- What a status of 0 tells.
use Rattle.std.proofs.Common.{Option, sym, subst}
use Rattle.ob_conduct.specs.declared.run_err.RunErr.{RunErr}
use Rattle.ob_base.specs.declared.params.Params.{Params}
use Rattle.ob_seal.specs.declared.keys.Keys.{Keys}
use Rattle.ob_store.specs.Disk.{Disk}
use Rattle.ob_top.proofs.Sounding.{none_told_at_0}
use Rattle.ob_top.specs.Formats as format
use Rattle.ob_top.specs.Formats.{FormatDone, FormatEnds}
use Rattle.ob_top.specs.Outside.{Given, Outside, blind, outside}
use Rattle.ob_top.specs.Parts.{Manner}
use Rattle.ob_top.specs.Runs.{RunDone, Went}
use Rattle.ob_vault.specs.RingLives.{ring_lives}
use Rattle.ob_top.specs.Audited.{ring_audits}
use Rattle.ob_vault.specs.RingKind.{ring_kind}
use Rattle.ob_life_tests.specs.Lived.{IsWholeRun}

module _ {S : Type 0} (disk : S → Disk) (keys : Keys) where
  -- a store was made
  pub formatted : (tape : Given) (p : Params) (old new : S) (before after : Outside) → FormatDone ring_kind ring_lives ring_audits disk tape keys p old new before after blind blind 0 → format.IsFormatted ring_kind ring_lives ring_audits disk tape keys p old new
  formatted tape p old new before after d = (subst (λ (f : Option RunErr). FormatEnds ring_kind ring_lives ring_audits disk tape keys p old new before.output d.written blind blind f) (none_told_at_0 d.err (sym d.status_is)) d.told).0

  -- a script was run to its end
  pub whole : (by : Manner) (tape : Given) (old new : S) (before after : Outside) → RunDone ring_kind ring_lives ring_audits disk by tape keys old new before after blind blind 0 → IsWholeRun disk keys tape old new
  whole by tape old new before after d = record {
    by = by;
    before = before;
    after = outside after.input d.written;
    records = d.records;
    ran = subst (λ (f : Option RunErr). Went ring_kind ring_lives ring_audits disk by tape keys old new before (outside after.input d.written) blind blind d.records f) (none_told_at_0 d.err (sym d.status_is)) d.went;
  }
