-- Runs that served are a row of runs, and so their lines are admitted.
use Rattle.std.proofs.Common.{◌≡◌, ◌∙◌, ℕ, suc, true, List, [], ◌∷◌, ◌++◌, map, Option, inl, inr, append_assoc, ap, refl, subst, sym}
use Rattle.std.specs.Ordering.{nat_cmp}
use Rattle.ob_base.specs.Layout.{GenerationTwin}
use Rattle.ob_base.specs.declared.params.Params.{Params}
use Rattle.ob_conduct.specs.Acts.{calls}
use Rattle.ob_opening.proofs.OpenedLaws.{generation_is}
use Rattle.ob_opening.specs.OpeningActs.{AreGatesIn}
use Rattle.ob_recover.specs.Known.{gates_open}
use Rattle.ob_recover.specs.Life.{WordId}
use Rattle.ob_schedule.specs.Schedule.{Fills, gate_cell, head_notes}
use Rattle.ob_seal.specs.Sealing.{Sealing}
use Rattle.ob_seal.specs.declared.keys.Keys.{Keys}
use Rattle.ob_serial.specs.Serial.{Map}
use Rattle.ob_serial.specs.Vaults.{Standing, VaultCall}
use Rattle.ob_store.proofs.Showing.{shows_then}
use Rattle.ob_store.specs.Disk.{Disk, Image}
use Rattle.ob_store.specs.Lines.{Shows}
use Rattle.ob_store.specs.declared.event.Event.{Event}
use Rattle.ob_store.specs.declared.watch.Note.{Note}
use Rattle.ob_twin.specs.Keyed.{tagging}
use Rattle.ob_twin.specs.Opening.{GatesAre}
use Rattle.ob_twin.specs.Register.{StandsAt}
use Rattle.ob_twin.specs.declared.gates.Gates.{Gates}
use Rattle.ob_twin.specs.declared.gates.Open.{Open}
use Rattle.ob_vault.proofs.DrawnChains.{all_on}
use Rattle.ob_vault.proofs.Registers.{generations_known}
use Rattle.ob_vault.proofs.Shapes.{shapes_of_answered}
use Rattle.ob_vault.specs.Acts.{AreTapeWords}
use Rattle.ob_vault.specs.Gated.{AreGatesKnown}
use Rattle.ob_vault.specs.Hidden.{RingHidden}
use Rattle.ob_vault.specs.Joined.{AreGiven, AreRunsFrom, RunPart, Served}
use Rattle.ob_vault.specs.KindShown.{steps_notes}
use Rattle.ob_vault.specs.Kinds.{Stands}
use Rattle.ob_vault.specs.Lives.{RingBegins}
use Rattle.ob_vault.specs.RingKind.{IsRingFound, IsRingMap, RingFound, ring_hidden, ring_kind, ring_public}
use Rattle.ob_vault.specs.RingLives.{ring_lives}
use Rattle.ob_vault.specs.Seen.{opening_shows}
use Rattle.ob_vault.specs.Shapes.{Shape, answered, refused, shape_of}
use Rattle.ob_admitted.proofs.Gating.{both_marked}
use Rattle.ob_admitted.proofs.Walks.{gated_runs}
use Rattle.ob_admitted.specs.Calls.{AreStepsOf}
use Rattle.ob_admitted.specs.Gates.{AreRunsGated}
use Rattle.ob_admitted.specs.Parts.{IsServedShown}
use Rattle.ob_admitted.specs.Told.{AreRunsNoted}
use Rattle.ob_admitted.specs.Walks.{AreRunsTold}
use Rattle.ob_top.specs.Audited.{RingLeavesAsShown, ring_audits}
use Rattle.ob_top.specs.Parts.{head_cells}
use Rattle.ob_top.specs.Rows.{AreRowRuns, AreRowsTold, AreTapesOf, IsRowRun, RowsFit, TracedRun}
use Rattle.ob_top.specs.Runs.{Ran, beginning_notes}

-- ---- the gates that are found

known_once : (a b : Open) (first : ℕ) (image : Image) → GatesAre a first image → GatesAre b first image → a ≡ b
known_once a b first image here there =
    let zero : a.zero ≡ b.zero = both_marked a b first image image 0 (inl refl) here there refl in
    let one : a.one ≡ b.one = both_marked a b first image image 1 (inr refl) here there refl in
    λ i. record { zero = zero i; one = one i }

gates_once : (a b : Gates) (image : Image) → AreGatesIn a image → AreGatesIn b image → a ≡ b
gates_once a b image here there =
    let generation = known_once a.generation b.generation 1 image here.generation there.generation in
    let epoch = known_once a.epoch b.epoch 5 image here.epoch there.epoch in
    λ i. record { generation = generation i; epoch = epoch i }

-- ---- the calls

pub steps_of : (calls : List VaultCall) (steps : List (Shape × Fills)) → map (λ s. s.0) steps ≡ map shape_of calls → AreStepsOf calls steps
steps_of [] [] is = tt
steps_of (call ∷ calls) (step ∷ steps) is = (cc is, steps_of calls steps (cc is))
steps_of [] (step ∷ steps) is = absurd (cc is)
steps_of (call ∷ calls) [] is = absurd (cc is)

-- ---- one run

-- What a row of runs asks of one, at parameters of which the store's head told.
pub record IsRowPart {S : Type 0} (disk : S → Disk) (keys : Keys) (p : Params) (r : TracedRun S) : Type 0 where
  pub found : RingFound
  pub opened : S
  pub calls : List VaultCall
  pub steps : List (Shape × Fills)
  pub behind : RingHidden
  pub refused : Option VaultCall
  pub seen : List Event
  pub last : List Note
  pub generation : (ring_hidden found).generation ≡ (r.tape).generation
  pub begins : RingBegins keys p (disk r.old).cells found
  pub left : RingLeavesAsShown keys (r.by).lanes p found (disk opened) calls steps behind refused (r.tape).words seen last (disk r.new)
  pub map_found : Map nat_cmp
  pub is_map : IsRingMap keys p (disk opened) found map_found
  pub found_in : IsRingFound keys p (disk r.old).cells found
  pub steps_are : AreStepsOf calls steps
  pub knows : AreGatesKnown found.run (disk opened)
  pub opened_gate : gates_open (found.run).gates (gate_cell p GenerationTwin (suc behind.generation)) ≡ true
  pub shown : Shows ((head_notes ++ opening_shows p found.content found.records (found.run).epoch ((found.run).sealer).generation (found_in.found).gates ++ steps_notes ring_kind p (ring_public p found) steps) ++ last) r.first r.last

module _ {S : Type 0} (disk : S → Disk) (keys : Keys) (r : TracedRun S) (ran : Ran ring_kind ring_lives ring_audits disk r.by r.tape keys r.old r.new r.before r.after r.first r.last r.records r.err) (head : (r.by).head ≡ head_cells) (tells : (disk r.old).tells)
    (at : Standing) (stood : Stands ring_kind keys ran.p (disk r.old).cells at) where
  abbrev pub found : RingFound
  found = ran.found

  abbrev asked : List VaultCall
  asked = answered (calls (ran.serving).is_served.served.evidence.acts)

  pub found_in : IsRingFound keys ran.p (disk r.old).cells found
  found_in = (ran.opened).finds tells

  abbrev behind : RingHidden
  behind = ((ran.serving).traced).behind

  pub same_gates : ran.start ≡ (found_in.found).gates
  same_gates = gates_once ran.start (found_in.found).gates (disk r.old).cells ((ran.opened).starts tells) (record { generation = (found_in.found_in).generation_gates; epoch = (found_in.found_in).epoch_gates })

  -- the generation before was found
  pub found_at : (generation : ℕ) × StandsAt (tagging keys) 1 (disk r.old).cells generation × (((found.run).sealer).generation ≡ suc generation)
  found_at =
      let (g, stands) = stood in
      let is = generation_is keys ran.p (disk r.old).cells found_in.found g found_in.found_in (stands.stands).generation in
      (g, (stands.stands).generation, ap (λ (s : Sealing). s.generation) (found_in.goes_on).sealer ∙ ap suc is)

  its_generation : behind.generation ≡ ((found.run).sealer).generation
  its_generation = (all_on ran.p (ring_hidden found) behind asked ((ran.serving).traced).steps ((ran.serving).traced).drawn).generation

  abbrev Opening : Gates → List Note
  Opening gates = opening_shows ran.p found.content found.records (found.run).epoch ((found.run).sealer).generation gates

  abbrev served : List Note
  served = steps_notes ring_kind ran.p (ring_public ran.p found) ((ran.serving).traced).steps

  -- all that was shown, in one row
  whole_row : Shows ((head_notes ++ Opening (found_in.found).gates ++ served) ++ ((ran.serving).shown).last) r.first r.last
  whole_row =
      let last = ((ran.serving).shown).last in
      let opening = subst (λ (cells : List ℕ). Shows (beginning_notes ring_kind cells ran.p found ran.start) r.first ran.midway) head ran.opening_shown in
      let all = shows_then (head_notes ++ Opening ran.start) (served ++ last) r.first ran.midway r.last opening ((ran.serving).shown).shows in
      subst (λ (l : List Note). Shows l r.first r.last)
      (sym (append_assoc (head_notes ++ Opening (found_in.found).gates) served last))
      (subst (λ (g : Gates). Shows ((head_notes ++ Opening g) ++ (served ++ last)) r.first r.last) same_gates all)

  part_of : IsRowPart disk keys ran.p r
  part_of = record {
    found = found;
    opened = ran.between;
    calls = asked;
    steps = ((ran.serving).traced).steps;
    behind = behind;
    refused = refused (calls (ran.serving).is_served.served.evidence.acts);
    seen = ((ran.serving).traced).more;
    last = ((ran.serving).shown).last;
    generation = sym (ran.serving).in_generation;
    begins = ran.opens_life tells;
    left = (ran.serving).audited;
    map_found = at.content;
    is_map = (ran.stood at tells stood).content;
    found_in = found_in;
    steps_are = steps_of asked ((ran.serving).traced).steps (((ran.serving).traced).shapes_are ∙ shapes_of_answered (calls (ran.serving).is_served.served.evidence.acts));
    knows = ran.knows;
    opened_gate = subst (λ (n : ℕ). gates_open (found.run).gates (gate_cell ran.p GenerationTwin (suc n)) ≡ true) (sym its_generation) (generations_known keys ran.p (disk r.old).cells found found_at.0 found_in found_at.1 found_at.2);
    shown = whole_row;
  }

-- ---- the row

module _ {S : Type 0} (disk : S → Disk) (keys : Keys) (p : Params) where
  pub part : (may_leave : Image → Type 0) (r : TracedRun S) → IsRowRun disk keys p may_leave r → IsRowPart disk keys p r
  part may_leave r one = subst (λ (q : Params). IsRowPart disk keys q r) one.params (part_of disk keys r one.ran one.head one.tells one.at (subst (λ (q : Params). Stands ring_kind keys q (disk r.old).cells one.at) (sym one.params) one.stood))

  record IsRow (may_leave : Image → Type 0) (runs : List (TracedRun S)) : Type 0 where
    pub parts : List (RunPart S)
    pub rows : List (List Note)
    pub from : AreRunsFrom disk keys p may_leave parts
    pub told : AreRunsTold disk keys p parts rows
    pub noted : AreRunsNoted disk keys p may_leave parts rows from told
    pub gated : AreRunsGated disk keys p parts rows told
    pub shown : AreRowsTold runs rows
    pub given : (word_of : WordId → ℕ) → AreTapesOf word_of runs → AreGiven word_of parts

  row_of : (may_leave : Image → Type 0) (runs : List (TracedRun S)) → AreRowRuns disk keys p may_leave runs → IsRow may_leave runs
  row_of may_leave [] are = record { parts = []; rows = []; from = tt; told = tt; noted = tt; gated = tt; shown = tt; given = λ word_of tapes. tt }
  row_of may_leave (r ∷ runs) (one, later) =
      let x = part may_leave r one in
      let more = row_of (disk r.new).may_leave runs later in
      let notes = (head_notes ++ opening_shows p (x.found).content (x.found).records ((x.found).run).epoch (((x.found).run).sealer).generation ((x.found_in).found).gates ++ steps_notes ring_kind p (ring_public p x.found) x.steps) ++ x.last in
      let told : IsServedShown keys (r.by).lanes p (disk r.old).cells x.found x.calls x.steps x.behind x.refused (r.tape).words x.seen notes = record { found_in = x.found_in; steps_are = x.steps_are; more = x.last; refused_shown = (x.left).shown; notes_are = refl } in
      record {
        parts = Served (r.by).lanes r.old x.found x.opened x.calls x.steps x.behind x.refused (r.tape).words x.seen r.new ∷ more.parts;
        rows = notes ∷ more.rows;
        from = (one.begun, (x.begins, (x.left).goes, (x.map_found, x.is_map)), more.from);
        told = (told, more.told);
        noted = ((x.left).noted, more.noted);
        gated = ((x.left).gated x.knows x.map_found x.is_map x.opened_gate, more.gated);
        shown = (x.shown, more.shown);
        given = λ word_of tapes. (subst (λ (n : ℕ). AreTapeWords word_of n (r.tape).words) (sym x.generation) tapes.0, more.given word_of tapes.1);
      }

pub rows_fit : {S : Type 0} (disk : S → Disk) → RowsFit disk
rows_fit disk keys p made_by blank made runs formatted told are word_of tapes =
    let row = row_of disk keys p (disk made).may_leave runs are in
    let fits = gated_runs disk keys p made_by.words made row.parts row.rows (formatted.begins_life told) (formatted.gates told) row.from row.told row.noted row.gated word_of (row.given word_of tapes) in
    (row.rows, row.shown, fits.1, fits.2)
