-- What is accepted is the one content that a read answers.
use Rattle.std.proofs.Common.{◌≡◌, ◌⊎◌, inl, inr, ℕ, ◌<◌, List, [], Option, Some, None, Result, Ok, Err, length, take, sym, ap, ◌∙◌, arith, length-take}
use Rattle.ob_base.specs.declared.fault.Damaged.{Damaged}
use Rattle.ob_base.specs.declared.fault.Fault.{Fault}
use Rattle.ob_base.specs.declared.fault.Fault.TheVariants.{Memory, Usage, BadScript, BadParams, NotStore, Damaged as Broken, StoreFault, StashFull, Worn, SourceFault, SinkFault}
use Rattle.ob_base.specs.declared.params.Params.{Params}
use Rattle.ob_base.specs.Layout.{checkpoint_cells, checkpoint_len}
use Rattle.ob_base.proofs.LayoutLaws.{checkpoint_cells_hold}
use Rattle.ob_tables.specs.Buckets.{Buckets}
use Rattle.ob_seal.specs.declared.keys.Keys.{Keys}
use Rattle.ob_seal.specs.Pieces.{piece}
use Rattle.ob_seal.proofs.PieceLaws.{length-piece}
use Rattle.ob_store.specs.Disk.{Image}
use Rattle.ob_tables.specs.declared.tables.Tables.{Tables}
use Rattle.ob_cells.specs.declared.run.Identity.{Identity}
use Rattle.ob_cells.specs.Reads.{IsFirstDamage, IsRunOpened}
use Rattle.ob_cells.specs.Rules.{first_broken, told_of}
use Rattle.ob_cells.specs.Runs.{run_at}
use Rattle.ob_cells.proofs.RunReads as runs
use Rattle.ob_tables.specs.Content.{content_of}
use Rattle.ob_check.specs.ReadBack.{IsCheckRead, IsOpenedTo, IsRefused, IsReadFrom, IsRefusedFrom, IsContentRead, epoch_in}
use Rattle.ob_check.specs.Reading.{content_in}
use Rattle.ob_check.specs.Rules.{rules}
use Rattle.ob_check.specs.Written.{area_of}
use Rattle.ob_check.proofs.BackLaws.{front_same}
use Rattle.ob_check.proofs.PlaceLaws.{some_cell}

module _ (keys : Keys) (p : Params) (e : ℕ) (image : Image) (t : Tables Buckets) (is : IsReadFrom keys p e image t) where
  opened : (read : List ℕ) (result : Result Identity Damaged) → IsRunOpened keys (area_of p e) (checkpoint_cells p) (run_at (area_of p e) image) read result
      → (result ≡ Ok (record { generation = is.opened.first.generation; number = is.opened.first.number })) × ((i : ℕ) → i < checkpoint_cells p → piece i read ≡ piece i is.opened.plain)
  opened read result was =
      let run = is.opened.run in
      runs.reads_back keys (area_of p e) (checkpoint_cells p) is.opened.first.generation is.opened.first.number (λ i. piece i is.opened.plain) (run_at (area_of p e) image) read result run.generation_fits run.number_fits (some_cell p)
      (λ i lt. length-piece i is.opened.plain) run.sealed_so was

  same_bytes : (bytes : List ℕ) → IsOpenedTo keys p e image bytes → bytes ≡ is.bytes
  same_bytes bytes op =
      let here : length (take (checkpoint_len p) op.plain) ≡ checkpoint_len p = ap (λ (xs : List ℕ). length xs) op.front ∙ op.whole in
      let there : length (take (checkpoint_len p) is.opened.plain) ≡ checkpoint_len p = ap (λ (xs : List ℕ). length xs) is.opened.front ∙ is.opened.whole in
      sym op.front
      ∙ front_same (checkpoint_cells p) (checkpoint_len p) op.plain is.opened.plain (omega (arith, length-take (checkpoint_len p) op.plain)) (omega (arith, length-take (checkpoint_len p) is.opened.plain)) (checkpoint_cells_hold p) (opened op.plain (Ok op.first) op.run).1
      ∙ is.opened.front

  one_content : (other : Tables Buckets) → IsReadFrom keys p e image other → content_of other ≡ content_of t
  one_content other read = read.accepted.told ∙ ap (content_in p) (same_bytes read.bytes read.opened) ∙ sym is.accepted.told

  none≢some : {d : Damaged} → ◌≡◌ {A = Option Damaged} None (Some d) → ⊥
  none≢some h = cc

  err≢ok : {d : Damaged} {i : Identity} → ◌≡◌ {A = Result Identity Damaged} (Err d) (Ok i) → ⊥
  err≢ok h = cc

  refused_not : (d : Damaged) (bytes : List ℕ) → bytes ≡ is.bytes → IsRefused p (area_of p e) e bytes d → ⊥
  refused_not d bytes same (inl other) = other.differs (ap epoch_in same ∙ is.accepted.epoch_is)
  refused_not d bytes same (inr broken) = none≢some (sym (ap (told_of (area_of p e)) (ap (λ (xs : List ℕ). first_broken (rules p xs)) same ∙ is.accepted.kept)) ∙ broken.told_as)

  damaged_not : (d : Damaged) → IsFirstDamage keys (area_of p e) (checkpoint_cells p) (run_at (area_of p e) image) d ⊎ IsRefusedFrom keys p e image d → ⊥
  damaged_not d (inl damage) = err≢ok (opened [] (Err d) damage).0
  damaged_not d (inr refused) = refused_not d refused.bytes (same_bytes refused.bytes refused.opened) refused.refused

  pub accepted_back : (result : Result (Tables Buckets) Fault) → IsCheckRead keys p e image result → IsContentRead (content_of t) result
  accepted_back (Ok other) read = one_content other read
  accepted_back (Err (Broken cell check kept computed)) read = damaged_not (record { cell = cell; check = check; kept = kept; computed = computed }) read
  accepted_back (Err Memory) read = tt
  accepted_back (Err Usage) read = tt
  accepted_back (Err (BadScript line)) read = tt
  accepted_back (Err (BadParams field)) read = tt
  accepted_back (Err NotStore) read = tt
  accepted_back (Err (StoreFault unsure)) read = tt
  accepted_back (Err (StashFull rows)) read = tt
  accepted_back (Err (Worn number)) read = tt
  accepted_back (Err SourceFault) read = tt
  accepted_back (Err SinkFault) read = tt
