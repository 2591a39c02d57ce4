-- The gates that a call leaves which was refused, as the next run finds them.
use Rattle.std.specs.Prelude.{◌≡◌, ◌⊎◌, ◌<◌, ◌≤◌, ℕ, ◌+◌, ◌*◌, ◌-◌, ◌%◌, ◌^◌, ◌||◌, Bool, true, false, List, ◌++◌, length, replicate, take, Option}
use Rattle.std.specs.Ordering.{nat_cmp}
use Rattle.std.specs.Int.{w64, to_le_bytes, from_le_bytes}
use Rattle.std.proofs.Common.{zero, suc, append_assoc, arith, refl, sym, ap, subst, ◌∙◌, inl, inr, ⊎_elim}
use Rattle.std.proofs.lemmas.Bool.{cases_eq}
use Rattle.std.proofs.lemmas.List.{take_at}
use Rattle.std.proofs.lemmas.Nat.{from_le_bytes-to_le_bytes_8}
use Rattle.ob_base.specs.Layout.{EpochTwin, GenerationTwin}
use Rattle.ob_base.specs.declared.fault.Fault.{Fault}
use Rattle.ob_base.specs.declared.params.Params.{Params}
use Rattle.ob_end.proofs.Stops.{kept_left}
use Rattle.ob_end.specs.Closings.{SameGeneration}
use Rattle.ob_end.specs.EndWrites.{SameFirst}
use Rattle.ob_fetch.specs.declared.run.Run.{Run}
use Rattle.ob_recover.proofs.Orders.{epoch_set}
use Rattle.ob_opening.specs.OpeningActs.{AreGatesIn, StandsInLife}
use Rattle.ob_recover.specs.Known.{fills_with_lifts, gates_open, public_of_kept}
use Rattle.ob_recover.specs.Life.{LifeState, WordId}
use Rattle.ob_schedule.specs.Schedule.{Fills, Public, end_notes, gate_cell, set_twin}
use Rattle.ob_seal.specs.declared.keys.Keys.{Keys}
use Rattle.ob_serial.specs.Serial.{Map}
use Rattle.ob_serial.specs.VaultKinds.{Called, Kind}
use Rattle.ob_serial.specs.Vaults.{End, Fetch, VaultAnswer, VaultCall}
use Rattle.ob_store.specs.Disk.{Disk, Image}
use Rattle.ob_store.specs.declared.event.Event.{Event}
use Rattle.ob_store.specs.declared.watch.Note.{Note}
use Rattle.ob_twin.specs.Bodies.{Tagging, body_of, number_of, plain_of}
use Rattle.ob_twin.specs.Keyed.{tagging}
use Rattle.ob_twin.proofs.Gating.{closed_of}
use Rattle.ob_twin.specs.Opening.{GatesAre, is_closed_first, is_marked}
use Rattle.ob_twin.specs.Orders.{set_notes}
use Rattle.ob_twin.specs.Stages.{IsLackingIn}
use Rattle.ob_twin.specs.Register.{IsOpen, StandsAt, body_at, gate_at, number_at, place_of}
use Rattle.ob_twin.specs.Stops.{IsPlaceLeft, IsRegisterLeft}
use Rattle.ob_twin.specs.declared.gates.Gates.{Gates}
use Rattle.ob_twin.specs.declared.gates.Open.{Open}
use Rattle.ob_vault.proofs.Registers.{gates_same, refused_gated}
use Rattle.ob_vault.specs.Acts.{is_answered}
use Rattle.ob_vault.specs.Gated.{AreGatesBehind, AreGatesKnown, row_of_end}
use Rattle.ob_vault.specs.Hidden.{RingCut, RingCutShown, RingHidden}
use Rattle.ob_vault.specs.RingKind.{IsRingMap, RingFound}
use Rattle.ob_vault.specs.RingSteps.{HasRingWords, RingAt, RunIsAtHidden}
use Rattle.ob_vault.specs.RingVaults.{Running}
use Rattle.ob_vault.specs.Seen.{RingPublic, ring_notes}
use Rattle.ob_vault.specs.Shapes.{Ends, shape_of}
use Rattle.ob_vault.specs.Spans.{AreRegistersIn}
use Rattle.ob_histories.specs.Histories.{IsGateLeft}
use Rattle.ob_admitted.proofs.Noting.{end_few, setting_long}
use Rattle.ob_admitted.specs.Gates.{CallsLeaveGates, IsGateFound, StagesLeaveGates}
use Rattle.ob_admitted.specs.Told.{IsCountIn, setting_row}
use Rattle.ob_admitted.specs.Wholes.{found_of_life}

-- ---- what is known of a gate

abbrev pub IsPlace : ℕ → Type 0
IsPlace m = (m ≡ 0) ⊎ (m ≡ 1)

pub two_places : (n : ℕ) → IsPlace (n % 2)
two_places n = ⊎_elim (λ e. inl e) (λ ne. inr (omega arith)) (cases_eq (n % 2) 0)

or_false : (b : Bool) → (b || false) ≡ b
or_false true = refl
or_false false = refl

pub marked_generation : (gates : Gates) (m : ℕ) → IsPlace m → gates_open gates (1 + 2 * m + 1) ≡ is_marked gates.generation m
marked_generation gates m (inl is) = subst (λ (n : ℕ). gates_open gates (1 + 2 * n + 1) ≡ is_marked gates.generation n) (sym is) (or_false ((gates.generation).zero || false) ∙ or_false (gates.generation).zero)
marked_generation gates m (inr is) = subst (λ (n : ℕ). gates_open gates (1 + 2 * n + 1) ≡ is_marked gates.generation n) (sym is) (or_false (gates.generation).one)

pub marked_epoch : (gates : Gates) (m : ℕ) → IsPlace m → gates_open gates (5 + 2 * m + 1) ≡ is_marked gates.epoch m
marked_epoch gates m (inl is) = subst (λ (n : ℕ). gates_open gates (5 + 2 * n + 1) ≡ is_marked gates.epoch n) (sym is) (or_false (gates.epoch).zero)
marked_epoch gates m (inr is) = subst (λ (n : ℕ). gates_open gates (5 + 2 * n + 1) ≡ is_marked gates.epoch n) (sym is) refl

-- it is known to be open just where it is
pub marked_open : (known : Open) (first : ℕ) (image : Image) (m : ℕ) → IsPlace m → GatesAre known first image → is_marked known m ≡ true → IsOpen first image m
marked_open known first image m (inl is) are = subst (λ (n : ℕ). is_marked known n ≡ true → IsOpen first image n) (sym is) (are.zero).0
marked_open known first image m (inr is) are = subst (λ (n : ℕ). is_marked known n ≡ true → IsOpen first image n) (sym is) (are.one).0

pub open_marked : (known : Open) (first : ℕ) (image : Image) (m : ℕ) → IsPlace m → GatesAre known first image → IsOpen first image m → is_marked known m ≡ true
open_marked known first image m (inl is) are = subst (λ (n : ℕ). IsOpen first image n → is_marked known n ≡ true) (sym is) (are.zero).1
open_marked known first image m (inr is) are = subst (λ (n : ℕ). IsOpen first image n → is_marked known n ≡ true) (sym is) (are.one).1

same_truth : (a b : Bool) → (a ≡ true → b ≡ true) → (b ≡ true → a ≡ true) → a ≡ b
same_truth true b on back = sym (on refl)
same_truth false true on back = back refl
same_truth false false on back = refl

not_true : (b : Bool) → (b ≡ true → ⊥) → b ≡ false
not_true true never = absurd (never refl)
not_true false never = refl

-- two who know a register's gates know the same of each
pub both_marked : (a b : Open) (first : ℕ) (image other : Image) (m : ℕ) → IsPlace m → GatesAre a first image → GatesAre b first other → image (gate_at first m) ≡ other (gate_at first m) → is_marked a m ≡ is_marked b m
both_marked a b first image other m place here there same =
    same_truth (is_marked a m) (is_marked b m) (λ marked. open_marked b first other m place there (sym same ∙ marked_open a first image m place here marked)) (λ marked. open_marked a first image m place here (same ∙ marked_open b first other m place there marked))

-- ---- a register that an end left

-- the number of a body, of as many bytes as it has
number_plain : (n : ℕ) (tag : List ℕ) → n < 2 ^ 64 → number_of (plain_of n ++ tag) ≡ n
unfolding number_of plain_of
number_plain n tag small =
    ap (λ (l : List ℕ). from_le_bytes w64 (take 8 l)) (append_assoc (to_le_bytes w64 n) (replicate 104 0) tag)
    ∙ ap (λ (l : List ℕ). from_le_bytes w64 l) (take_at (to_le_bytes w64 n) (replicate 104 0 ++ tag) 8 refl)
    ∙ from_le_bytes-to_le_bytes_8 n (omega arith)

module _ (tag : Tagging) (first e : ℕ) (cells image : Image) (stood : StandsAt tag first cells e) where
  -- where the image stands at the number before, the gate isn't open over the next one's body
  shut_over : StandsAt tag first image e → image (body_at first (suc e % 2)) ≡ body_of tag (body_at first (suc e % 2)) (suc e) → IsOpen first image (suc e % 2) → ⊥
  shut_over stands body opened =
      let small = stood.small in
      let place : (e + 1) % 2 ≡ suc e % 2 = omega arith in
      let under = subst (λ (m : ℕ). IsOpen first image m → number_at first image m ≤ e) place (λ now. (stands.other now).1) opened in
      let is : number_at first image (suc e % 2) ≡ suc e = ap number_of body ∙ number_plain (suc e) (tag (body_at first (suc e % 2)) (plain_of (suc e))) (omega (arith, small)) in
      omega (arith, under, is)

  -- the gate of the end's place, by how many of its notes lack
  pub place_found : (lacking : ℕ) (was found : Bool) → 0 < lacking → (was ≡ true → IsOpen first cells (suc e % 2)) → (IsOpen first cells (suc e % 2) → was ≡ true) → (found ≡ true → IsOpen first image (suc e % 2)) → (IsOpen first image (suc e % 2) → found ≡ true)
      → StandsAt tag first image e → IsPlaceLeft tag first (suc e) cells lacking image → IsGateLeft was lacking found
  place_found zero was found some a b x y stands left = absurd (omega (arith, some))
  place_found (suc zero) was found some a b x y stands left = not_true found (λ opened. shut_over stands left (x opened))
  place_found (suc (suc zero)) was found some a b x y stands left = not_true found (λ opened. left (x opened))
  place_found (suc (suc (suc zero))) was found some a b x y stands left = not_true found (λ opened. left (x opened))
  place_found (suc (suc (suc (suc zero)))) was found some a b x y stands left = not_true found (λ opened. left (x opened))
  place_found (suc (suc (suc (suc (suc zero))))) was found some a b x y stands left = λ opened. b (left (x opened))
  place_found (suc (suc (suc (suc (suc (suc lacking)))))) was found some a b x y stands left = same_truth found was (λ opened. b (sym left ∙ x opened)) (λ opened. y (left ∙ a opened))

-- ---- behind a call

module _ {V S : Type 0} (k : Kind V) (disk : S → Disk) (runs : V → Running S) (words : HasRingWords k disk runs) (keys : Keys) (most : ℕ) (p : Params) (f : RingFound) (first : V) (q : RingPublic) (h : RingHidden) (n : ℕ) (v : V)
    (at : RingAt k disk runs keys most p f (disk (runs first).store) q h n v) (known : AreGatesKnown (runs v).run (disk (runs v).store)) (m : Map nat_cmp) (is_map : IsRingMap keys p (disk (runs first).store) f m)
    (word_of : WordId → ℕ) (s : LifeState) (image : Image) (gates : Gates) (here : StandsInLife keys p word_of s image) (found : AreGatesIn gates image) where
  abbrev run : Run
  run = (runs v).run

  abbrev cells : Image
  cells = (disk (runs v).store).cells

  lies : RunIsAtHidden run h.content h.records (disk (runs v).store)
  lies = at.stands m is_map

  knows : AreGatesIn run.gates cells
  knows = known (lies.at).tells

  -- the gate that is found of the generations' register, and that of the epoch's
  generation_is : gates_open gates (gate_cell p GenerationTwin (suc s.generation)) ≡ is_marked gates.generation (suc s.generation % 2)
  generation_is = marked_generation gates (suc s.generation % 2) (two_places (suc s.generation))

  epoch_is : gates_open gates (gate_cell p EpochTwin (s.epoch + 1)) ≡ is_marked gates.epoch ((s.epoch + 1) % 2)
  epoch_is = marked_epoch gates ((s.epoch + 1) % 2) (two_places (s.epoch + 1))

  was_is : q.known.gates (gate_cell p EpochTwin (h.epoch + 1)) ≡ is_marked (run.gates).epoch ((h.epoch + 1) % 2)
  was_is = ap (λ (x : Public). x.gates (gate_cell p EpochTwin (h.epoch + 1))) (sym at.known) ∙ marked_epoch run.gates ((h.epoch + 1) % 2) (two_places (h.epoch + 1))

  generation_found : GatesAre (run.gates).generation 1 image → s.generation ≡ h.generation → gates_open gates (gate_cell p GenerationTwin (suc s.generation)) ≡ gates_open run.gates (gate_cell p GenerationTwin (suc h.generation))
  generation_found left same =
      generation_is ∙ both_marked gates.generation (run.gates).generation 1 image image (suc s.generation % 2) (two_places (suc s.generation)) found.generation left refl
      ∙ ap (λ (g : ℕ). is_marked (run.gates).generation (suc g % 2)) same ∙ sym (marked_generation run.gates (suc h.generation % 2) (two_places (suc h.generation)))

  fetch_found : GatesAre (run.gates).epoch 5 image → s.epoch ≡ h.epoch → gates_open gates (gate_cell p EpochTwin (s.epoch + 1)) ≡ q.known.gates (gate_cell p EpochTwin (h.epoch + 1))
  fetch_found left same =
      epoch_is ∙ both_marked gates.epoch (run.gates).epoch 5 image image ((s.epoch + 1) % 2) (two_places (s.epoch + 1)) found.epoch left refl
      ∙ ap (λ (e : ℕ). is_marked (run.gates).epoch ((e + 1) % 2)) same ∙ sym was_is

  -- the store stood at the epoch that is hidden
  stood : StandsAt (tagging (run.sealer).keys) 5 cells h.epoch
  stood = subst (λ (e : ℕ). StandsAt (tagging (run.sealer).keys) 5 cells e) (sym ((lies.at).runs).epoch_is ∙ at.epoch_hidden) ((lies.at).stands).epoch

  -- its end's own gate, and the other one
  end_found : (lacking : ℕ) → 0 < lacking → IsRegisterLeft (tagging (run.sealer).keys) 5 (suc run.epoch) cells lacking image → (writes : List (ℕ × Option (List ℕ)))
      → IsGateFound h.epoch (q.known.gates (gate_cell p EpochTwin (h.epoch + 1))) (End writes) lacking (found_of_life p s (gates_open gates))
  end_found lacking some there writes = (λ ended. next_found ended, λ stays. own_found stays)
    where
      e : ℕ
      e = h.epoch

      left : IsRegisterLeft (tagging (run.sealer).keys) 5 (suc e) cells lacking image
      left = subst (λ (x : ℕ). IsRegisterLeft (tagging (run.sealer).keys) 5 (suc x) cells lacking image) at.epoch_hidden there

      next_found : s.epoch ≡ suc e → gates_open gates (gate_cell p EpochTwin (s.epoch + 1)) ≡ true
      next_found ended =
          let place : (s.epoch + 1) % 2 ≡ (suc e + 1) % 2 = ap (λ (x : ℕ). (x + 1) % 2) ended in
          let back : e % 2 ≡ (suc e + 1) % 2 = omega arith in
          let opened : IsOpen 5 image ((suc e + 1) % 2) = left.other ∙ subst (λ (x : ℕ). IsOpen 5 cells x) back stood.open_at in
          epoch_is ∙ open_marked gates.epoch 5 image ((s.epoch + 1) % 2) (two_places (s.epoch + 1)) found.epoch (subst (λ (x : ℕ). IsOpen 5 image x) (sym place) opened)

      own_found : s.epoch ≡ e → IsGateLeft (q.known.gates (gate_cell p EpochTwin (e + 1))) lacking (gates_open gates (gate_cell p EpochTwin (s.epoch + 1)))
      own_found stays =
          let here_at : StandsAt (tagging (run.sealer).keys) 5 image e =
          subst (λ (x : Keys). StandsAt (tagging x) 5 image e) (sym at.keys_are) (subst (λ (x : ℕ). StandsAt (tagging keys) 5 image x) (here.epoch ∙ stays) (here.stands).epoch) in
          let then : (s.epoch + 1) % 2 ≡ suc e % 2 = ap (λ (x : ℕ). (x + 1) % 2) stays ∙ omega arith in
          let before : (e + 1) % 2 ≡ suc e % 2 = omega arith in
          let own : gates_open gates (gate_cell p EpochTwin (s.epoch + 1)) ≡ is_marked gates.epoch (suc e % 2) = epoch_is ∙ ap (λ (x : ℕ). is_marked gates.epoch x) then in
          let was : q.known.gates (gate_cell p EpochTwin (e + 1)) ≡ is_marked (run.gates).epoch (suc e % 2) = was_is ∙ ap (λ (x : ℕ). is_marked (run.gates).epoch x) before in
          place_found (tagging (run.sealer).keys) 5 e cells image stood lacking (q.known.gates (gate_cell p EpochTwin (e + 1))) (gates_open gates (gate_cell p EpochTwin (s.epoch + 1))) some
          (λ is. marked_open (run.gates).epoch 5 cells (suc e % 2) (two_places (suc e)) knows.epoch (sym was ∙ is)) (λ opened. was ∙ open_marked (run.gates).epoch 5 cells (suc e % 2) (two_places (suc e)) knows.epoch opened)
          (λ is. marked_open gates.epoch 5 image (suc e % 2) (two_places (suc e)) found.epoch (sym own ∙ is)) (λ opened. own ∙ open_marked gates.epoch 5 image (suc e % 2) (two_places (suc e)) found.epoch opened)
          here_at left.place

  abbrev planned_row : Params → List Note
  planned_row x = end_notes x (public_of_kept x h.content h.records run.epoch run.gates) (fills_with_lifts x h.content h.records)

  row_is : (c : Fills) → c ≡ fills_with_lifts p h.content h.records → row_of_end run h.content h.records ≡ ring_notes p q Ends c
  row_is c fills = ap planned_row at.params ∙ ap (λ (x : Public). end_notes p x (fills_with_lifts p h.content h.records)) at.known ∙ ap (λ (x : Fills). end_notes p q.known x) (sym fills)

  module _ (w : V) (answer : VaultAnswer) (unserved : is_answered answer ≡ false) (left : (disk (runs w).store).may_leave image) (c : Fills) (refused : Fault) (seen : List Event) where
    behind : (call : VaultCall) (one : Called k v call answer w) → AreGatesBehind run cells (length (row_of_end run h.content h.records) - length one.notes) call image
    behind call one = refused_gated disk (runs v) (runs w) one.notes call answer known (lies.standing) lies.at (words.called v call answer one.notes w one.called) unserved h.content h.records at.planned image left

    pub gates_found : gates_open run.gates (gate_cell p GenerationTwin (suc h.generation)) ≡ true → (call : VaultCall) (one : Called k v call answer w) → RingCut most p q h call c (runs w).drawn refused seen → RingCutShown most p q call c refused seen one.notes
        → (s.generation ≡ h.generation → (found_of_life p s (gates_open gates)).generation_gate ≡ true)
        × IsGateFound h.epoch (q.known.gates (gate_cell p EpochTwin (h.epoch + 1))) call (length (ring_notes p q (shape_of call) c) - length one.notes) (found_of_life p s (gates_open gates))
    gates_found opened (Fetch asks) one cut shown = (let is = behind (Fetch asks) one in (λ same. generation_found is.generation same ∙ opened, fetch_found is.epoch))
    gates_found opened (End writes) one cut shown =
        let is = behind (End writes) one in
        let few : suc (length one.notes) ≤ length (ring_notes p q Ends c) = end_few most p q c one.notes seen refused shown in
        let same : length (row_of_end run h.content h.records) ≡ length (ring_notes p q Ends c) = ap (λ (ns : List Note). length ns) (row_is c cut.0) in
        let lacking : length (row_of_end run h.content h.records) - length one.notes ≡ length (ring_notes p q Ends c) - length one.notes = ap (λ (x : ℕ). x - length one.notes) same in (
          λ stays. generation_found is.generation stays ∙ opened,
          end_found (length (ring_notes p q Ends c) - length one.notes) (omega (arith, few)) (subst (λ (x : ℕ). IsRegisterLeft (tagging (run.sealer).keys) 5 (suc run.epoch) cells x image) lacking is.epoch) writes,
        )

  -- where none was refused the images are what was known
  pub rest_found : gates_open run.gates (gate_cell p GenerationTwin (suc h.generation)) ≡ true → (disk (runs v).store).may_leave image
      → (s.generation ≡ h.generation → (found_of_life p s (gates_open gates)).generation_gate ≡ true) × (s.epoch ≡ h.epoch → (found_of_life p s (gates_open gates)).epoch_gate ≡ q.known.gates (gate_cell p EpochTwin (h.epoch + 1)))
  rest_found opened left =
      let same : (j : ℕ) → image j ≡ cells j = (lies.at).settled image left in (
        λ stays. generation_found (gates_same (run.gates).generation 1 cells image (same 2) (same 4) knows.generation) stays ∙ opened,
        fetch_found (gates_same (run.gates).epoch 5 cells image (same 6) (same 8) knows.epoch),
      )

  -- ---- in a stage

  generation_kept : SameGeneration image cells → GatesAre (run.gates).generation 1 image
  generation_kept same = gates_same (run.gates).generation 1 cells image (same 2 (omega arith)) (same 4 (omega arith)) knows.generation

  -- no note of an end's set was shown
  unset_left : (lacking : ℕ) → length (setting_row p q) ≤ lacking → SameFirst image cells → IsRegisterLeft (tagging (run.sealer).keys) 5 (suc run.epoch) cells lacking image
  unset_left lacking few same =
      let e : ℕ = suc run.epoch in
      let closes : Bool = is_closed_first (run.gates).epoch (place_of e) in
      let one : (q.known).epoch + 1 ≡ e = (let at_epoch = ap (λ (x : Public). x.epoch) at.known in omega (arith, at_epoch)) in
      let set : setting_row p q ≡ set_notes closes 5 e =
      ap (λ (x : Public). set_twin p EpochTwin ((q.known).epoch + 1) (x.gates (gate_cell p EpochTwin ((q.known).epoch + 1)))) (sym at.known)
      ∙ ap (λ (x : ℕ). set_twin p EpochTwin x (gates_open run.gates (gate_cell p EpochTwin x))) one ∙ sym (epoch_set p run.gates e (at.planned).gate) in
      kept_left (tagging (run.sealer).keys) e cells image (same (gate_at 5 (e % 2)) (omega arith)) closes lacking (subst (λ (row : List Note). length row ≤ lacking) set few)
      (λ open_first opened. closed_of (run.gates).epoch 5 e cells knows.epoch open_first opened) (same (gate_at 5 ((e + 1) % 2)) (omega arith))

  some_lack : (stage lacking : ℕ) → IsLackingIn stage lacking → 0 < lacking
  some_lack zero lacking is = omega (arith, is)
  some_lack (suc zero) lacking is = (let least = is.0 in omega (arith, least))
  some_lack (suc (suc stage)) lacking is = omega (arith, is)

  pub cut_found : gates_open run.gates (gate_cell p GenerationTwin (suc h.generation)) ≡ true → (call : VaultCall) (stage count : ℕ) (c : Fills) → IsCountIn p q call c stage count → AreRegistersIn keys h.epoch cells call stage image
      → (s.generation ≡ h.generation → (found_of_life p s (gates_open gates)).generation_gate ≡ true)
      × IsGateFound h.epoch (q.known.gates (gate_cell p EpochTwin (h.epoch + 1))) call (length (ring_notes p q (shape_of call) c) - count) (found_of_life p s (gates_open gates))
  cut_found opened (Fetch asks) stage count c many same = (
    λ stays. generation_found (generation_kept (λ j low. same j (omega (arith, low)))) stays ∙ opened,
    fetch_found (gates_same (run.gates).epoch 5 cells image (same 6 (omega arith)) (same 8 (omega arith)) knows.epoch),
  )
  cut_found opened (End writes) zero count c many same =
      let lacking : ℕ = length (ring_notes p q Ends c) - count in (
        λ stays. generation_found (generation_kept (λ j low. same j (omega (arith, low)))) stays ∙ opened,
        end_found lacking (let set = setting_long p q in omega (arith, many, set)) (unset_left lacking many same) writes,
      )
  cut_found opened (End writes) (suc stage) count c many left =
      let lacking : ℕ = length (ring_notes p q Ends c) - count in (
        λ stays. generation_found (generation_kept left.0) stays ∙ opened,
        end_found lacking (some_lack stage lacking many)
            (subst (λ (x : ℕ). IsRegisterLeft (tagging (run.sealer).keys) 5 (suc x) cells lacking image) (sym at.epoch_hidden) (subst (λ (x : Keys). IsRegisterLeft (tagging x) 5 (suc h.epoch) cells lacking image) (sym at.keys_are) (left.1 lacking many))) writes,
      )

pub calls_gated : {V S : Type 0} (k : Kind V) (disk : S → Disk) → CallsLeaveGates k disk
calls_gated k disk runs words keys most p f first q h n v at known opened m is_map = (
  λ word_of s image gates left here found. rest_found k disk runs words keys most p f first q h n v at known m is_map word_of s image gates here found opened left,
  λ call answer w one unserved c refused seen cut shown word_of s image gates left here found.
      gates_found k disk runs words keys most p f first q h n v at known m is_map word_of s image gates here found w answer unserved left c refused seen opened call one cut shown,
)

pub stages_gated : {V S : Type 0} (k : Kind V) (disk : S → Disk) → StagesLeaveGates k disk
stages_gated k disk runs words keys most p f first calls steps q h n v at known opened m is_map call drawn stage x is c count many word_of s image gates left here found =
    cut_found k disk runs words keys most p f first q h n v at known m is_map word_of s image gates here found opened call stage count c many (is.registers image left)
