-- What is accepted is the one answer of a read.
use Rattle.std.proofs.Common.{◌≡◌, inl, inr, ⊎_elim, ℕ, ◌+◌, ◌%◌, ◌<◌, ◌≤◌, List, [], Option, Some, None, Result, Ok, Err, length, sym, ap, ◌∙◌, arith}
use Rattle.std.proofs.lemmas.Bool.{cases_lt, cases_order}
use Rattle.ob_base.specs.declared.params.Params.{Params}
use Rattle.ob_base.specs.declared.fault.Damaged.{Damaged}
use Rattle.ob_base.specs.declared.fault.Fault.{Fault}
use Rattle.ob_base.specs.declared.fault.Fault.TheVariants.{Memory, Usage, BadScript, BadParams, NotStore, Damaged as Broken, StoreFault, StashFull, Worn, SourceFault, SinkFault}
use Rattle.ob_base.specs.Layout.{record_cells, log_cell}
use Rattle.ob_seal.specs.declared.keys.Keys.{Keys}
use Rattle.ob_seal.specs.Pieces.{piece}
use Rattle.ob_seal.proofs.PieceLaws.{length-piece, pieces_same}
use Rattle.ob_store.specs.Disk.{Image}
use Rattle.ob_cells.specs.declared.run.Identity.{Identity}
use Rattle.ob_cells.specs.Reads.{IsFirstDamage, IsRunOpened}
use Rattle.ob_cells.proofs.RunReads.{reads_back}
use Rattle.ob_log.specs.Logs.{BatchRecord, record_at, nothing}
use Rattle.ob_log.specs.Places.{plain_damage, record_in}
use Rattle.ob_log.specs.Reads.{HasBody, IsBody, IsBodyDamage, AreAccepted, IsFirstBroken, AreRecordsRead, AreReadBack}
use Rattle.ob_log.proofs.OnceLaws.{same_lists, some_cell}

module _ (keys : Keys) (p : Params) (e b base : ℕ) (cells : ℕ → List ℕ) where
  module _ (first : Identity) (bytes : List ℕ) (body : HasBody keys p base first bytes cells) where
    opened : (read : List ℕ) (result : Result Identity Damaged) → IsRunOpened keys base (record_cells p) cells read result
        → (result ≡ Ok (record { generation = first.generation; number = first.number })) × ((i : ℕ) → i < record_cells p → piece i read ≡ piece i bytes)
    opened read result was =
        reads_back keys base (record_cells p) first.generation first.number (λ i. piece i bytes) cells read result body.1.generation_fits body.1.number_fits (some_cell p) (λ i lt. length-piece i bytes) body.1.sealed_so was

    no_damage : (d : Damaged) → IsFirstDamage keys base (record_cells p) cells d → ⊥
    no_damage d was = err≢ok (opened [] (Err d) was).0
      where
        err≢ok : {one : Identity} → ◌≡◌ {A = Result Identity Damaged} (Err d) (Ok one) → ⊥
        err≢ok h = cc

    module _ (other : Identity) (read : List ℕ) (again : HasBody keys p base other read cells) where
      same_bytes : read ≡ bytes
      same_bytes = pieces_same (record_cells p) read bytes (again.0 ∙ sym body.0) (omega (arith, again.0)) (opened read (Ok other) again.1).1

      same_first : other ≡ record { generation = first.generation; number = first.number }
      same_first = ok_same (opened read (Ok other) again.1).0
        where
          ok_same : {one two : Identity} → ◌≡◌ {A = Result Identity Damaged} (Ok one) (Ok two) → one ≡ two
          ok_same h = cc

  -- a body tells one record,
  body_once : (r q : BatchRecord) → IsBody keys p e b base cells r → IsBody keys p e b base cells q → q ≡ r
  body_once r q one two =
      two.tells
      ∙ ap (λ (i : Identity). record_in p b i.generation i.number two.bytes) (same_first one.first one.bytes one.body two.first two.bytes two.body)
      ∙ ap (λ (bytes : List ℕ). record_in p b one.first.generation one.first.number bytes) (same_bytes one.first one.bytes one.body two.first two.bytes two.body)
      ∙ sym one.tells

  -- or is damaged
  never_broken : (r : BatchRecord) (d : Damaged) → IsBody keys p e b base cells r → IsBodyDamage keys p e b base cells d → ⊥
  never_broken r d is (inl damage) = no_damage is.first is.bytes is.body d damage
  never_broken r d is (inr form) =
      none≢some (sym is.whole ∙ ap (λ (bytes : List ℕ). plain_damage p e b base bytes) (sym (same_bytes is.first is.bytes is.body form.first form.bytes form.body)) ∙ form.broken)
    where
      none≢some : ◌≡◌ {A = Option Damaged} None (Some d) → ⊥
      none≢some h = cc

module _ (keys : Keys) (p : Params) (e : ℕ) (rs : List BatchRecord) (image : Image) (log : AreAccepted keys p e rs image) where
  abbrev first_at : ℕ → ℕ
  first_at b = log_cell p (e % 2) b 0

  abbrev cells_at : ℕ → ℕ → List ℕ
  cells_at b i = image (first_at b + i)

  accepted_once : (qs : List BatchRecord) → AreAccepted keys p e qs image → qs ≡ rs
  accepted_once qs was =
      let long : length qs ≡ length rs = many in
      same_lists qs rs nothing long (λ b lt. (let low : b < length rs = omega arith in body_once keys p e b (first_at b) (cells_at b) (record_at rs b) (record_at qs b) (log.each b low) (was.each b lt)))
    where
      many : length qs ≡ length rs
      many = ⊎_elim (λ is. is)
          (λ other. absurd (⊎_elim
          (λ (less : length qs < length rs). was.ends (omega (arith, log.few)) (log.opened (length qs) less))
          (λ (more : length rs < length qs). log.ends (omega (arith, was.few)) (was.opened (length rs) more))
          other))
          (cases_order (length qs) (length rs))

  not_first_broken : (d : Damaged) → IsFirstBroken keys p e image d → ⊥
  not_first_broken d was = ⊎_elim
      (λ (low : length was.earlier < length rs).
      never_broken keys p e (length was.earlier) (first_at (length was.earlier)) (cells_at (length was.earlier)) (record_at rs (length was.earlier)) d (log.each (length was.earlier) low) was.breaks)
      (λ (ge : length rs ≤ length was.earlier). log.ends (omega (arith, was.few)) (was.opened (length rs) ge))
      (cases_lt (length was.earlier) (length rs))

  pub accepted_back : (result : Result (List BatchRecord) Fault) → AreRecordsRead keys p e image result → AreReadBack rs result
  accepted_back (Ok qs) was = accepted_once qs was
  accepted_back (Err (Broken cell check kept computed)) was = absurd (not_first_broken _ was)
  accepted_back (Err Memory) was = tt
  accepted_back (Err Usage) was = tt
  accepted_back (Err (BadScript line)) was = tt
  accepted_back (Err (BadParams field)) was = tt
  accepted_back (Err NotStore) was = tt
  accepted_back (Err (StoreFault unsure)) was = tt
  accepted_back (Err (StashFull left)) was = tt
  accepted_back (Err (Worn number)) was = tt
  accepted_back (Err SourceFault) was = tt
  accepted_back (Err SinkFault) was = tt
