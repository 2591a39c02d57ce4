-- Open records are read as they were written.
use Rattle.std.proofs.Common.{◌≡◌, inl, inr, ⊎_elim, ℕ, ◌+◌, ◌%◌, ◌<◌, ◌≤◌, ◌^◌, List, [], ◌++◌, drop, Option, Some, None, Result, Ok, Err, length, sym, ap, ◌∙◌, arith}
use Rattle.std.proofs.lemmas.Bool.{cases_lt, cases_order}
use Rattle.ob_base.specs.declared.params.Params.{Params}
use Rattle.ob_base.specs.declared.fault.Damaged.{Damaged}
use Rattle.ob_base.specs.declared.fault.Fault.{Fault}
use Rattle.ob_base.specs.declared.fault.Fault.TheVariants.{Memory, Usage, BadScript, BadParams, NotStore, Damaged as Broken, StoreFault, StashFull, Worn, SourceFault, SinkFault}
use Rattle.ob_base.specs.Layout.{record_cells, log_cell}
use Rattle.ob_seal.specs.declared.keys.Keys.{Keys}
use Rattle.ob_seal.specs.Pieces.{onward, piece}
use Rattle.ob_seal.specs.Seals.{sealed}
use Rattle.ob_seal.proofs.PieceLaws.{length-piece}
use Rattle.ob_store.specs.Disk.{Image}
use Rattle.ob_cells.specs.declared.run.Identity.{Identity}
use Rattle.ob_cells.specs.Reads.{IsFirstDamage, IsRunOpened}
use Rattle.ob_cells.proofs.RunReads.{reads_back}
use Rattle.ob_log.specs.Logs.{BatchRecord, RecordObeys, OpenRecords, SpellsRecord, record_at, record_bytes, nothing}
use Rattle.ob_log.specs.Places.{plain_damage, record_in}
use Rattle.ob_log.specs.Reads.{HasBody, IsBodyDamage, Accepts, AreAccepted, IsFirstBroken, AreRecordsRead, AreReadBack, body_cells}
use Rattle.ob_log.proofs.OnceLaws.{same_lists, some_cell, cells_hold}
use Rattle.ob_log.proofs.Spelled.{length-record_bytes}
use Rattle.ob_log.proofs.Told.{begins, kept_all, tells_it}

module _ (keys : Keys) (p : Params) (e b : ℕ) (r : BatchRecord) (image : Image) (e_fits : e < 2 ^ 64) (b_fits : b < 2 ^ 32) (o : RecordObeys p b r) (spells : SpellsRecord keys p e b r image) where
  abbrev base : ℕ
  base = log_cell p (e % 2) b 0

  abbrev cells : ℕ → List ℕ
  cells = body_cells p e b image

  abbrev written : ℕ → List ℕ
  written i = piece i (record_bytes e r)

  as_run : (i : ℕ) → i < record_cells p → cells i ≡ sealed keys (base + i) r.generation (onward r.number i) (written i)
  as_run i lt =
      let at : base + i ≡ log_cell p (e % 2) b i = omega arith in
      ap image at ∙ spells i lt ∙ ap (λ c. sealed keys c r.generation (onward r.number i) (written i)) (sym at)

  opened : (read : List ℕ) (result : Result Identity Damaged) → IsRunOpened keys base (record_cells p) cells read result
      → (result ≡ Ok (record { generation = r.generation; number = r.number })) × ((i : ℕ) → i < record_cells p → piece i read ≡ written i)
  opened read result was = reads_back keys base (record_cells p) r.generation r.number written cells read result o.generation_fits o.number_fits (some_cell p) (λ i lt. length-piece i (record_bytes e r)) as_run was

  no_damage : (d : Damaged) → IsFirstDamage keys base (record_cells p) cells d → ⊥
  no_damage d was = err≢ok (opened [] (Err d) was).0
    where
      err≢ok : {first : Identity} → ◌≡◌ {A = Result Identity Damaged} (Err d) (Ok first) → ⊥
      err≢ok h = cc

  module _ (first : Identity) (bytes : List ℕ) (body : HasBody keys p base first bytes cells) where
    read_whole : bytes ≡ record_bytes e r ++ drop (length (record_bytes e r)) bytes
    read_whole = begins (record_cells p) bytes (record_bytes e r) body.0 (omega (arith, length-record_bytes p e b r o, cells_hold p)) (opened bytes (Ok first) body.1).1

    not_broken : plain_damage p e b base bytes ≡ None
    not_broken = kept_all p e b r (drop (length (record_bytes e r)) bytes) bytes o e_fits b_fits read_whole base

    told : record_in p b first.generation first.number bytes ≡ r
    told =
        let same : first ≡ record { generation = r.generation; number = r.number } = ok_same (opened bytes (Ok first) body.1).0 in
        ap (λ (i : Identity). record_in p b i.generation i.number bytes) same ∙ tells_it p e b r (drop (length (record_bytes e r)) bytes) bytes o e_fits b_fits read_whole
      where
        ok_same : {one two : Identity} → ◌≡◌ {A = Result Identity Damaged} (Ok one) (Ok two) → one ≡ two
        ok_same h = cc

  pub accepts_this : (q : BatchRecord) → Accepts keys p e b image q → q ≡ r
  accepts_this q was = was.tells ∙ told was.first was.bytes was.body

  pub never_broken : (d : Damaged) → IsBodyDamage keys p e b base cells d → ⊥
  never_broken d (inl damage) = no_damage d damage
  never_broken d (inr form) = none≢some (sym (not_broken form.first form.bytes form.body) ∙ form.broken)
    where
      none≢some : ◌≡◌ {A = Option Damaged} None (Some d) → ⊥
      none≢some h = cc

module _ (keys : Keys) (p : Params) (e : ℕ) (rs : List BatchRecord) (image : Image) (e_fits : e < 2 ^ 64) (log : OpenRecords keys p e rs image) where
  small : (b : ℕ) → b < length rs → b < 2 ^ 32
  small b lt = omega (arith, log.few, p.in_range.few_batches)

  pub accepted_same : (qs : List BatchRecord) → AreAccepted keys p e qs image → qs ≡ rs
  accepted_same qs was =
      let long : length qs ≡ length rs = many in
      same_lists qs rs nothing long (λ b lt. (let low : b < length rs = omega arith in
      accepts_this keys p e b (record_at rs b) image e_fits (small b low) (log.obey b low) (log.bodies b low) (record_at qs b) (was.each b lt)))
    where
      many : length qs ≡ length rs
      many = ⊎_elim (λ is. is)
          (λ other. absurd (⊎_elim
          (λ (less : length qs < length rs). was.ends (omega (arith, log.few)) (log.opened (length qs) less))
          (λ (more : length rs < length qs). log.shut (length rs) (omega arith) (omega (arith, was.few)) (was.opened (length rs) more))
          other))
          (cases_order (length qs) (length rs))

  pub not_first_broken : (d : Damaged) → IsFirstBroken keys p e image d → ⊥
  not_first_broken d was = ⊎_elim
      (λ (low : length was.earlier < length rs).
      never_broken keys p e (length was.earlier) (record_at rs (length was.earlier)) image e_fits (small (length was.earlier) low) (log.obey (length was.earlier) low) (log.bodies (length was.earlier) low) d was.breaks)
      (λ (ge : length rs ≤ length was.earlier). log.shut (length was.earlier) ge was.few (was.opened (length was.earlier) (omega arith)))
      (cases_lt (length was.earlier) (length rs))

  pub read_back : (result : Result (List BatchRecord) Fault) → AreRecordsRead keys p e image result → AreReadBack rs result
  read_back (Ok qs) was = accepted_same qs was
  read_back (Err (Broken cell check kept computed)) was = absurd (not_first_broken _ was)
  read_back (Err Memory) was = tt
  read_back (Err Usage) was = tt
  read_back (Err (BadScript line)) was = tt
  read_back (Err (BadParams field)) was = tt
  read_back (Err NotStore) was = tt
  read_back (Err (StoreFault unsure)) was = tt
  read_back (Err (StashFull left)) was = tt
  read_back (Err (Worn number)) was = tt
  read_back (Err SourceFault) was = tt
  read_back (Err SinkFault) was = tt
