-- What a self-test does over a ring vault; and that it is refused for want of memory, or by its store.
use Rattle.std.specs.Borrow.{GName}
use Rattle.std.specs.FinMap.{empty}
use Rattle.ob_base.specs.Causes.{Rose}
use Rattle.std.proofs.Common.{◌≡◌, ◌∙◌, ◌⊎◌, ◌+◌, ◌≤◌, ℕ, true, List, [], ◌∷◌, ◌++◌, length, Result, Ok, Err, IfErr, None, refl, sym, ap, subst, arith, inl, inr}
use Rattle.ob_base.specs.declared.fault.Fault.{Fault}
use Rattle.ob_base.specs.declared.fault.Fault.TheVariants.{Memory}
use Rattle.ob_base.specs.declared.params.Params.{Params}
use Rattle.ob_fetch.specs.declared.run.Run.{Run}
use Rattle.ob_recover.specs.declared.found.Found.{Found}
use Rattle.ob_seal.specs.declared.keys.Keys.{Keys}
use Rattle.ob_start.specs.Heads.{numbers_of}
use Rattle.ob_store.specs.Calls.{GoesOn, IsStoreFault}
use Rattle.ob_store.specs.declared.watch.Note.{Note}
use Rattle.ob_store.specs.Disk.{Clock, Disk, Image, NotAfter}
use Rattle.ob_serial.specs.Vaults.{VaultCall, Fetch, End, VaultAnswer, Values, Ended, RefusedBy, DoubtBy, VaultCounts, VaultState, IsAnswer, counts_of}
use Rattle.std.specs.Ordering.{nat_cmp}
use Rattle.ob_serial.specs.Serial.{Map}
use Rattle.ob_serial.specs.VaultKinds.{AllCalled, Called, Kind, ended_of}
use Rattle.ob_vault.specs.Hidden.{RingHidden}
use Rattle.ob_vault.specs.RingLives.{ring_lives}
use Rattle.ob_top.specs.Audited.{ring_audits}
use Rattle.ob_vault.specs.RingKind.{GoesOnFrom, IsRingMap, RingFound, ring_hidden, ring_kind, ring_public}
use Rattle.ob_vault.specs.RingSteps.{HasRingWords}
use Rattle.ob_vault.specs.RingVaults.{HasPlanned, RingHolds, Running, lent_both}
use Rattle.ob_vault.specs.Seen.{RingPublic}
use Rattle.ob_vault.specs.Shapes.{Shape, refused, shapes}
use Rattle.ob_vault.specs.Steps.{IsCallOfKind}
use Rattle.ob_vault.proofs.Begun.{held_with, holds_found, ring_begun}
use Rattle.ob_vault.proofs.Calling.{RingBehind, ring_does}
use Rattle.ob_script.specs.Drill.{drill_script}
use Rattle.ob_script.specs.Script.{AreSound, Scripts}
use Rattle.ob_script.proofs.Drills.{drill_sound}
use Rattle.ob_runner.specs.Runners.{AreRunners}
use Rattle.ob_runner.specs.declared.runner.ScriptRunner.{ScriptRunner}
use Rattle.ob_desk.specs.Beats.{BeatKind}
use Rattle.ob_conduct.specs.Acts.{calls, records}
use Rattle.ob_conduct.specs.Records.{AreAnswered}
use Rattle.ob_conduct.proofs.Going.{answered_join}
use Rattle.ob_outcomes.proofs.Counting.{few_epochs, few_txns}
use Rattle.ob_drill.specs.Reading.{ChangesNone, IsRefusal}
use Rattle.ob_shares.specs.Shares.{no_shares}
use Rattle.ob_shares.proofs.Fitting.{none_fit}
use Rattle.ob_top.specs.Drilling.{DrillFails, HasDrilled, IsWant, WasRun, no_output}
use Rattle.ob_top.specs.Endings.{err_of}
use Rattle.ob_top.specs.Runs.{ServedOver}
use Rattle.ob_top.specs.Parts.{manner}
use Rattle.ob_top.specs.SelfTests.{IsServedAndRead}
use Rattle.ob_top.specs.declared.drill.Drilled.{Drilled}
use Rattle.ob_conduct.specs.declared.run_err.RunErr.{RunErr}
use Rattle.ob_top.specs.Drills.{drill_numbers}
use Rattle.ob_top.specs.Outside.{blind}
use Rattle.ob_top.proofs.Lent.{IsLent, rest_same, serves_lent}
use Rattle.ob_top.proofs.RingServing.{at_rest, at_stage, at_stop, tells, told_by}
use Rattle.ob_top.proofs.SelfTest.{holds_behind, all_committed, its, its_length, keys_are, reads_called}
use Rattle.ob_top.proofs.Serving.{Behind, CallsBehind, behind, counted_ends}
use Rattle.ob_top.proofs.Wanting.{blind_chain, call_wants, chained, few_ended, reads_answered, run_wants}

ended_join : (xs ys : List (VaultCall × VaultAnswer)) → length (ended_of (xs ++ ys)) ≤ length (ended_of xs) + length ys
ended_join [] ys = let f = few_ended ys in omega (arith, f)
ended_join ((End writes, Ended) ∷ xs) ys = let f = ended_join xs ys in omega (arith, f)
ended_join ((End writes, Values values) ∷ xs) ys = let f = ended_join xs ys in omega (arith, f)
ended_join ((End writes, RefusedBy fault) ∷ xs) ys = let f = ended_join xs ys in omega (arith, f)
ended_join ((End writes, DoubtBy fault) ∷ xs) ys = let f = ended_join xs ys in omega (arith, f)
ended_join ((Fetch keys, Ended) ∷ xs) ys = let f = ended_join xs ys in omega (arith, f)
ended_join ((Fetch keys, Values values) ∷ xs) ys = let f = ended_join xs ys in omega (arith, f)
ended_join ((Fetch keys, RefusedBy fault) ∷ xs) ys = let f = ended_join xs ys in omega (arith, f)
ended_join ((Fetch keys, DoubtBy fault) ∷ xs) ys = let f = ended_join xs ys in omega (arith, f)

-- what goes on of the store that a vault was lent
pub lent_goes : (a b c d : GName) (x y : Disk) → GoesOn (lent_both a b x) (lent_both c d y) → GoesOn x y
lent_goes a b c d x y both = record { anchors = rest_same _ _ _ _ (rest_same _ _ _ _ both.anchors); faults = both.faults; later = both.later; kept = both.kept; told = both.told; leaves = both.leaves; seen = both.seen }

module _ {V S : Type 0} (k : Kind V) (counts : V → VaultCounts) (agrees : (x : V) (u : VaultState) → k.holds x u → counts_of u ≡ counts x) (disk : S → Disk) (counts_now : (x : S) (t : Clock) (c : Image) → NotAfter t (disk x).moment → (disk x).may_leave c → (disk x).left_since t c)
    (only_now : (x : S) (c : Image) → (disk x).left_since (disk x).moment c → (disk x).may_leave c) (runs : V → Running S) (words : HasRingWords k disk runs) (lent : IsLent k disk runs) (keys : Keys) (p : Params) (numbers : numbers_of p ≡ drill_numbers)
    (found : Found) (f : RingFound) (first : V) (goes : GoesOnFrom keys p found f) (run_is : (runs first).run ≡ f.run) (lanes : (runs first).lanes ≡ 4) (has : HasPlanned f.run f.content f.records) (none : (runs first).drawn ≡ []) (started : (runs first).present ≡ f.run.sealer.generation)
    (begins : (f.run).epoch ≡ 0) (left : (f.run).left ≡ p.batches) (is_map : IsRingMap keys p (disk (runs first).store) f empty) (epoch_is : (counts first).epoch ≡ ((runs first).run).epoch) (left_is : (counts first).left ≡ ((runs first).run).left) where
  abbrev opened : Disk
  opened = disk (runs first).store

  abbrev At : RingPublic → RingHidden → List Shape → ℕ → V → Type 0
  At = RingBehind k disk runs words keys 4 p f opened

  holding : (u : VaultState) → RingHolds f.run opened u → k.holds first u
  holding u holds = lent.holds first u (subst (λ (r : Run). RingHolds r opened u) (sym run_is) holds)

  begun : At (ring_public p f) (ring_hidden f) [] 0 first
  begun = ring_begun k disk runs keys 4 p found f first goes run_is lanes (omega arith, omega arith) has none holding

  held : k.holds first (held_with f.run empty)
  held = holding (held_with f.run empty) (holds_found keys p f opened empty goes.serving is_map)

  -- where the vault is behind calls that were answered, and what was seen of them
  behind_blind : (steps : List (VaultCall × VaultAnswer)) (last : V) → (chain : AllCalled k first steps last) → AreAnswered steps
      → Behind k ring_kind disk (λ v. (runs v).store) keys 4 p f first At (λ v. told_by (runs v)) (ring_does k disk runs words keys 4 p f opened) (tells k disk counts_now only_now runs words keys 4 p f first) ring_lives ring_audits (at_rest k disk counts_now only_now runs words keys 4 p f first)
      (at_stop k disk counts_now only_now runs words keys 4 p f first) (at_stage k disk counts_now only_now runs words keys 4 p f first run_is) (ring_public p f) (ring_hidden f) [] 0 first blind steps (blind_chain k first steps last chain).0 last blind
  behind_blind steps last chain all =
      behind k ring_kind disk (λ v. (runs v).store) keys 4 p f first At (λ v. told_by (runs v)) (ring_does k disk runs words keys 4 p f opened) (tells k disk counts_now only_now runs words keys 4 p f first) ring_lives ring_audits (at_rest k disk counts_now only_now runs words keys 4 p f first)
      (at_stop k disk counts_now only_now runs words keys 4 p f first) (at_stage k disk counts_now only_now runs words keys 4 p f first run_is) (ring_public p f) (ring_hidden f) [] 0 first blind steps (blind_chain k first steps last chain).0 last blind begun (blind_chain k first steps last chain).1 all

  -- a call was refused behind calls that were answered
  refused_behind : (steps : List (VaultCall × VaultAnswer)) (mid : V) → AllCalled k first steps mid → AreAnswered steps → length (ended_of steps) ≤ 20000 → (call : VaultCall) (answer : VaultAnswer) (last : V) (fault : Fault) → Called k mid call answer last → ChangesNone call → IsRefusal fault answer
      → (fault ≡ Memory) ⊎ IsStoreFault fault
  refused_behind steps mid chain all few call answer last fault one none_changed is =
      let b = behind_blind steps mid chain all in
      let does = ring_does k disk runs words keys 4 p f opened _ b.kept ([] ++ shapes steps) (0 + length (ended_of steps)) mid call answer last b.at one in
      let (u, holds, serving) = b.at.held empty is_map in
      by_call one.notes _ u.content b.kept ([] ++ shapes steps) (0 + length (ended_of steps)) (omega (arith, few)) call answer none_changed is does (one.answered u holds)
    where
      by_call : (notes : List Note) (q : RingPublic) (m : Map nat_cmp) (h : RingHidden) (so_far : List Shape) (n : ℕ) → n ≤ 20000 → (call : VaultCall) (answer : VaultAnswer) → ChangesNone call → IsRefusal fault answer
          → IsCallOfKind ring_kind keys 4 p f opened At (disk (runs mid).store) (disk (runs last).store) (runs last).drawn last notes q h so_far n call answer → IsAnswer m call answer → (fault ≡ Memory) ⊎ IsStoreFault fault
      by_call notes q m h so_far n few (Fetch asks) (RefusedBy other) none_changed is does right = subst (λ (x : Fault). (x ≡ Memory) ⊎ IsStoreFault x) is (call_wants p numbers keys f opened (disk (runs last).store) begins is_map h so_far n (Fetch asks) (runs last).drawn other few does.why)
      by_call notes q m h so_far n few (End writes) (RefusedBy other) none_changed is does right = subst (λ (x : Fault). (x ≡ Memory) ⊎ IsStoreFault x) is (call_wants p numbers keys f opened (disk (runs last).store) begins is_map h so_far n (End writes) (runs last).drawn other few does.why)
      by_call notes q m h so_far n few (End writes) (DoubtBy other) none_changed is does right = subst (λ (x : Fault). (x ≡ Memory) ⊎ IsStoreFault x) is (call_wants p numbers keys f opened (disk (runs last).store) begins is_map h so_far n (End writes) (runs last).drawn other few does.why)
      by_call notes q m h so_far n few (Fetch asks) (DoubtBy other) none_changed is does right = absurd right
      by_call notes q m h so_far n few (Fetch asks) (Values values) none_changed is does right = absurd is
      by_call notes q m h so_far n few (Fetch asks) Ended none_changed is does right = absurd is
      by_call notes q m h so_far n few (End writes) (Values values) none_changed is does right = absurd is
      by_call notes q m h so_far n few (End writes) Ended none_changed is does right = absurd is

  module _ (beat : BeatKind) (n : ℕ) (few : n ≤ 10000) (script : Scripts) (script_is : script ≡ drill_script n) (runners : List ScriptRunner) (are : AreRunners script runners) where
    many_txns : length script.txns ≡ n
    many_txns = ap (λ (s : Scripts). length s.txns) script_is ∙ its_length n

    -- the script was served as `run` serves one
    served_as : (mid : V) (result : Result (Unit {0}) RunErr) → WasRun k counts beat p script runners first mid result
        → (s : ServedOver ring_kind ring_lives ring_audits disk (manner beat true 4 no_shares) keys p f (f.run).sealer script (told_by (runs mid)) (runs first).store (runs mid).store no_output no_output blind blind (err_of result))
        × CallsBehind k first (calls s.is_served.served.evidence.acts) mid (err_of result)
    served_as mid result run =
        serves_lent first k beat true p no_shares script blind runners no_output mid blind run.ran no_output result _ _ (run.desk, run.by) refl (subst AreSound (sym script_is) (drill_sound n)) (none_fit (length script.clients) p.places p.writes) are disk counts_now only_now runs words lent keys 4 found f f.run goes run_is refl epoch_is left_is
        (omega (arith, begins)) (omega (arith, left)) lanes (omega arith, omega arith) has none started

    -- all was served, and then read
    pub served_and_read : (last : V) (d : Drilled) → HasDrilled k counts beat p script runners first last d → IsServedAndRead disk beat keys p n f (runs first).store (runs last).store
    served_and_read last d h =
        let (s, its) = subst (λ (x : Scripts). (s : ServedOver ring_kind ring_lives ring_audits disk (manner beat true 4 no_shares) keys p f (f.run).sealer x (told_by (runs h.mid)) (runs first).store (runs h.mid).store no_output no_output blind blind None) × CallsBehind k first
        (calls s.is_served.served.evidence.acts) h.mid None) script_is (served_as h.mid (Ok tt) h.run) in
        let asked = calls s.is_served.served.evidence.acts in
        let reads = h.reads.steps in
        let read = reads_called k h.mid blind reads last blind h.reads.chain in
        let all = answered_join asked reads (its.answered refl) (reads_answered k h.mid _ reads last (holds_behind k first asked h.mid _ its.called held) read h.reads.reads) in
        let b = behind_blind (asked ++ reads) last (chained k first asked h.mid reads last its.called read) all in
        record {
          between = (runs h.mid).store;
          tape = told_by (runs h.mid);
          served = s;
          committed = λ patient. all_committed p numbers n few beat keys opened f left is_map s.records s.is_served patient;
          read = record { reads = reads; few = h.reads.few; reading = h.reads.reads; steps = b.taken; shapes_are = b.shapes_are; behind = b.kept; drawn = b.drawn; seen = b.seen };
        }

    pub drill_wants : (last : V) (fault : Fault) → DrillFails k counts beat p script runners first last fault → (fault ≡ Memory) ⊎ IsStoreFault fault
    drill_wants last fault (inl (err, run, same)) =
        let s = (served_as last (Err err) run).0 in
        let epochs = few_epochs s.records s.is_served.served.some in
        let txns = few_txns script.txns s.records s.is_served.served.first in
        subst (λ (x : Fault). (x ≡ Memory) ⊎ IsStoreFault x) (sym same) (run_wants p numbers keys f opened (disk (runs last).store) begins is_map s.traced.behind (shapes (calls s.is_served.served.evidence.acts)) (length s.records)
        (refused (calls s.is_served.served.evidence.acts)) (runs last).drawn opened err (omega (arith, epochs, txns, many_txns, few)) s.cause)
    drill_wants last fault (inr (mid, run, inl (memory, reads))) = inl memory
    drill_wants last fault (inr (mid, run, inr r)) =
        let i = its k counts agrees p numbers n few beat script script_is first (epoch_is ∙ ap (λ (x : Run). x.epoch) run_is ∙ begins) (left_is ∙ ap (λ (x : Run). x.left) run_is ∙ left) runners are (held_with f.run empty) held refl mid run in
        let read = reads_called k mid blind r.behind.steps r.mid r.at r.behind.chain in
        let ends = counted_ends (ended_of (calls i.acts)) (records i.acts) i.wrote in
        let joined = ended_join (calls i.acts) r.behind.steps in
        let short = r.behind.few in
        let ended = i.not_more in
        let bound = keys_are p numbers in
        refused_behind (calls i.acts ++ r.behind.steps) r.mid (chained k first (calls i.acts) mid r.behind.steps r.mid i.chain read)
        (answered_join (calls i.acts) r.behind.steps i.answered (reads_answered k mid _ r.behind.steps r.mid (holds_behind k first (calls i.acts) mid _ i.chain held) read r.behind.reads))
        (omega (arith, ends, joined, short, ended, few, bound)) r.call r.answer last fault r.one r.reads r.refused

pub want_is : (old new : Disk) (refused : Fault) → (refused ≡ Memory) ⊎ IsStoreFault refused → (IsStoreFault refused → Rose old.faults new.faults) → IsWant old new refused
want_is old new refused (inl memory) cause = inl memory
want_is old new refused (inr store) cause = inr (store, cause store)

pub both_refused : {T : Type 0} (P Q : Fault → Type 0) (r : Result T Fault) → IfErr r P → IfErr r Q → IfErr r (λ f. P f × Q f)
both_refused P Q (Ok x) p q = tt
both_refused P Q (Err f) p q = (p, q)
