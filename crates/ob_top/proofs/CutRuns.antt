-- A run that a crash cuts off within a call: what an auditor knows behind it.
use Rattle.std.proofs.Common.{◌≡◌, ◌≤◌, ◌∙◌, ◌⊎◌, ◌-◌, ℕ, zero, suc, Bool, true, List, [], ◌++◌, length, map, Option, Some, append_assoc, ap, inl, inr, refl, subst, sym}
use Rattle.std.specs.Prelude.{drop, take}
use Rattle.std.proofs.lemmas.List.{length-take-le, take-append-drop}
use Rattle.ob_base.specs.Layout.{GenerationTwin}
use Rattle.ob_base.specs.declared.params.Params.{Params}
use Rattle.ob_conduct.specs.Acts.{calls}
use Rattle.ob_recover.specs.Known.{gates_open}
use Rattle.ob_schedule.specs.Follow.{Follow}
use Rattle.ob_schedule.specs.Schedule.{Fills, gate_cell, head_notes}
use Rattle.ob_recover.specs.Life.{LifeAct}
use Rattle.ob_seal.specs.declared.keys.Keys.{Keys}
use Rattle.ob_serial.specs.Vaults.{End, Fetch, Standing, VaultCall}
use Rattle.ob_store.specs.Disk.{Disk, Image}
use Rattle.ob_store.specs.declared.watch.Note.{Note}
use Rattle.ob_twin.specs.declared.gates.Gates.{Gates}
use Rattle.ob_vault.proofs.DrawnChains.{all_on}
use Rattle.ob_vault.proofs.Registers.{generations_known}
use Rattle.ob_vault.proofs.Shapes.{shapes_of_answered}
use Rattle.ob_vault.specs.Acts.{AreTapeWords}
use Rattle.ob_vault.specs.Hidden.{RingDrawsCut, RingHidden}
use Rattle.ob_vault.specs.Joined.{IsRunTold, Served}
use Rattle.ob_vault.specs.KindShown.{AreDrawn, public_behind, steps_notes}
use Rattle.ob_vault.specs.Kinds.{Stands}
use Rattle.ob_vault.specs.RingKind.{IsRingMap, RingFound, ring_hidden, ring_kind, ring_public}
use Rattle.ob_vault.specs.RingLives.{ring_lives}
use Rattle.ob_vault.specs.Seen.{RingPublic, opening_shows, ring_notes}
use Rattle.ob_vault.specs.Shapes.{Shape, answered, refused, shape_of}
use Rattle.ob_vault.specs.Spans.{IsSeenIn, span}
use Rattle.ob_admitted.proofs.Fronting.{DrawsShown, IsFrontLeft, IsServedFront}
use Rattle.ob_admitted.specs.Gates.{LeavesGates}
use Rattle.ob_admitted.specs.Told.{IsCountIn, IsLeftAsNoted}
use Rattle.ob_top.proofs.Auditing.{served_read}
use Rattle.ob_top.proofs.Knowing.{known_within}
use Rattle.ob_top.proofs.Rowing.{found_at, found_in, same_gates, steps_of}
use Rattle.ob_top.proofs.Staging.{calls_each}
use Rattle.ob_top.specs.Audited.{RingCutAsShown, ring_audits}
use Rattle.ob_top.specs.Auditors.{AreNotesAudited, AuditorKnows, IsHeld}
use Rattle.ob_top.specs.Cuts.{AreCutsAudited, CutsAreRead, CutsAreReadFrom, CutsLeadOn, IsCallStagedAudited, notes_up_to}
use Rattle.ob_top.specs.Parts.{head_cells}
use Rattle.ob_top.specs.Pasts.{PastLife}
use Rattle.ob_top.specs.Rows.{IsRowRun, TracedRun}
use Rattle.ob_top.specs.Runs.{Ran, beginning_notes, notes_of_head}
use Rattle.ob_top.specs.Staged.{IsCallStagedAsShown}

-- a store as it is, or over a stretch of its time
abbrev over_time : {S : Type 0} → (S → Disk) → S ⊎ (S × S) → Disk
over_time disk (inl x) = disk x
over_time disk (inr x) = span disk x

-- nothing need have been seen of a call
none_seen : (most : ℕ) (p : Params) (q : RingPublic) (call : VaultCall) (stage : ℕ) → IsSeenIn most p q call stage []
none_seen most p q (Fetch asks) zero = ([], _, refl, refl)
none_seen most p q (Fetch asks) (suc zero) = ([], _, refl, refl)
none_seen most p q (Fetch asks) (suc (suc stage)) = tt
none_seen most p q (End writes) stage = tt

its_draws : (p : Params) (h : RingHidden) (call : VaultCall) (fills : Fills) (words : List ℕ) (more : List Note) → RingDrawsCut p h call fills words → DrawsShown p h call fills words more
its_draws p h (Fetch asks) fills words more draws = inl draws
its_draws p h (End writes) fills words more draws = draws

module _ {S : Type 0} (disk : S → Disk) (keys : Keys) (r : TracedRun S) (ran : Ran ring_kind ring_lives ring_audits disk r.by r.tape keys r.old r.new r.before r.after r.first r.last r.records r.err) (head : (r.by).head ≡ head_cells) (tells : (disk r.old).tells)
    (at : Standing) (stood : Stands ring_kind keys ran.p (disk r.old).cells at) where
  abbrev p : Params
  p = ran.p

  abbrev found : RingFound
  found = ran.found

  abbrev map_found : IsRingMap keys p (disk ran.between) found at.content
  map_found = (ran.stood at tells stood).content

  -- what it opened with, and these calls
  abbrev Front : Gates → List (Shape × Fills) → List Note
  Front gates taken = head_notes ++ opening_shows p found.content found.records (found.run).epoch ((found.run).sealer).generation gates ++ steps_notes ring_kind p (ring_public p found) taken

  begun_front : (taken : List (Shape × Fills)) → beginning_notes ring_kind (r.by).head p found ran.start ++ steps_notes ring_kind p (ring_public p found) taken ≡ Front ((found_in disk keys r ran head tells at stood).found).gates taken
  begun_front taken =
      let served = steps_notes ring_kind p (ring_public p found) taken in
      let opening : Gates → List Note = (λ g. opening_shows p found.content found.records (found.run).epoch ((found.run).sealer).generation g) in
      ap (λ (cells : List ℕ). (notes_of_head cells ++ opening ran.start) ++ served) head
      ∙ append_assoc head_notes (opening ran.start) served
      ∙ ap (λ (g : Gates). Front g taken) (same_gates disk keys r ran head tells at stood)

  gate_open : (done : List VaultCall) (taken : List (Shape × Fills)) (h : RingHidden) → AreDrawn ring_kind p (ring_hidden found) done taken h → gates_open (found.run).gates (gate_cell p GenerationTwin (suc h.generation)) ≡ true
  gate_open done taken h drawn =
      let g = found_at disk keys r ran head tells at stood in
      subst (λ (n : ℕ). gates_open (found.run).gates (gate_cell p GenerationTwin (suc n)) ≡ true) (sym (all_on p (ring_hidden found) h done taken drawn).generation)
      (generations_known keys p (disk r.old).cells found g.0 (found_in disk keys r ran head tells at stood) g.1 g.2)

  module _ (past : PastLife) (in_flight : Option LifeAct) (may_leave : Image → Type 0) (known : Follow) (k : AuditorKnows keys p past in_flight may_leave known) (begun : may_leave (disk r.old).cells) where
    module _ (done : List VaultCall) (taken : List (Shape × Fills)) (h : RingHidden) (call : VaultCall) (words : List ℕ) (began : S) (drawn : AreDrawn ring_kind p (ring_hidden found) done taken h) (shaped : map (λ s. s.0) taken ≡ map shape_of done) where
      abbrev q : RingPublic
      q = public_behind ring_kind p (ring_public p found) taken

      module _ (stage : ℕ) (x : S × S) (shown : RingCutAsShown disk keys (r.by).lanes p found (disk ran.between) done taken q h call words [] stage x) (fills : Fills) (draws : RingDrawsCut p h call fills words)
          (count : ℕ) (few : count ≤ length (ring_notes p q (shape_of call) fills)) (many : IsCountIn p q call fills stage count) where
        abbrev row : List Note
        row = ring_notes p q (shape_of call) fills

        abbrev more : List Note
        more = take count row

        abbrev notes : List Note
        notes = notes_up_to disk keys p past known r ran taken row count

        same : length more ≡ count
        same = length-take-le count row few

        abbrev told : IsRunTold (over_time disk) keys p (Served (r.by).lanes (inl r.old) found (inl ran.between) done taken h (Some call) words [] (inr x))
        told = (ran.opens_life tells, shown.goes, (at.content, map_found))

        front : IsServedFront keys p (disk r.old).cells found done taken h (Some call) words notes
        front = record {
          found_in = found_in disk keys r ran head tells at stood;
          steps_are = steps_of done taken shaped;
          more = more;
          front_shown = (fills, its_draws p h call fills words more draws, (drop count row, sym (take-append-drop count row)));
          notes_are = ap (λ (l : List Note). l ++ more) (begun_front taken);
        }

        left : IsFrontLeft (over_time disk) keys p (r.by).lanes (inl r.old) found (inl ran.between) done taken h (Some call) words [] (inr x) told notes
        unfolding front
        left = record {
          shown = front;
          noted = λ word_of s here tape m is. subst (λ (n : ℕ). IsLeftAsNoted p q call fills n ((shown.goes word_of s here tape).left m is).made ((shown.goes word_of s here tape).left m is).in_flight) (sym same) (shown.noted fills count many word_of s here tape m is);
          gated = subst (λ (n : ℕ). LeavesGates keys p q h (Some call) (length row - n) (span disk x).may_leave) (sym same) (shown.gated fills count many ran.knows (gate_open done taken h drawn));
        }

        audited : AreTapeWords past.word_of (r.tape).generation words → AreNotesAudited keys p past known notes (span disk x).may_leave
        audited tape = served_read (over_time disk) keys p past in_flight may_leave known k (r.by).lanes (inl r.old) found (inl ran.between) done taken h (Some call) words [] (inr x) told
            (subst (λ (n : ℕ). AreTapeWords past.word_of n words) (ran.serving).in_generation tape) notes left begun

    one_audited : (done : List VaultCall) (taken : List (Shape × Fills)) (h : RingHidden) (call : VaultCall) (words : List ℕ) (whole : Bool) (old new : S) → AreDrawn ring_kind p (ring_hidden found) done taken h → map (λ s. s.0) taken ≡ map shape_of done
        → IsCallStagedAsShown ring_kind ring_lives ring_audits disk keys (r.by).lanes p found (disk ran.between) done taken (public_behind ring_kind p (ring_public p found) taken) h call words whole old new
        → IsCallStagedAudited disk keys p past known r ran done taken (public_behind ring_kind p (ring_public p found) taken) h call words whole old new
    one_audited done taken h call words whole old new drawn shaped (staged, shown) = (
      staged,
      λ stage x cut fills draws count few many tape.
          audited done taken h call words old drawn shaped stage x (shown at.content map_found stage x cut [] (none_seen (r.by).lanes p (public_behind ring_kind p (ring_public p found) taken) call stage)) fills draws count few many tape,
    )

    all_audited : AreCutsAudited disk keys p past known r ran
    all_audited =
        let acts = calls (ran.serving).is_served.served.evidence.acts in
        calls_each ring_kind p (IsCallStagedAsShown ring_kind ring_lives ring_audits disk keys (r.by).lanes p found (disk ran.between)) (IsCallStagedAudited disk keys p past known r ran) (ring_public p found) (ring_hidden found) one_audited
        (refused acts) (r.tape).words ((ran.serving).traced).behind r.new [] [] (ring_hidden found) (answered acts) ((ran.serving).traced).steps ran.between refl refl
        (((ran.serving).traced).shapes_are ∙ shapes_of_answered acts) (ran.serving).staged

module _ {S : Type 0} (disk : S → Disk) where
  cuts_from : (keys : Keys) (p : Params) (past : PastLife) (in_flight : Option LifeAct) (may_leave : Image → Type 0) (known : Follow) → AuditorKnows keys p past in_flight may_leave known → (r : TracedRun S) (one : IsRowRun disk keys p may_leave r) → AreCutsAudited disk keys p past known r one.ran
  cuts_from keys p past in_flight may_leave known k r one =
      subst (λ (x : Params). AuditorKnows keys x past in_flight may_leave known → Stands ring_kind keys x (disk r.old).cells one.at → AreCutsAudited disk keys x past known r one.ran) one.params
      (λ knows stood. all_audited disk keys r one.ran one.head one.tells one.at stood past in_flight may_leave known knows one.begun) k one.stood

  pub cuts_read : CutsAreRead disk
  cuts_read keys p past in_flight last known k r one = cuts_from keys p past in_flight (disk last).may_leave known k r one

  pub cuts_read_from : CutsAreReadFrom disk
  cuts_read_from keys p past in_flight known r k one = cuts_from keys p past in_flight (IsHeld (disk r.old)) known k r one

  pub cuts_lead_on : CutsLeadOn disk
  cuts_lead_on keys p past in_flight x next known k may = known_within keys p past in_flight (span disk x).may_leave (IsHeld (disk next)) known (λ c same. subst (λ (image : Image). (span disk x).may_leave image) (sym same) may) k
