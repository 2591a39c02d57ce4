-- What the calls of a ring vault leave of the registers' gates.
use Rattle.std.specs.Prelude.{◌≡◌, ◌⊎◌, ℕ, suc, ◌+◌, ◌*◌, ◌-◌, ◌%◌, ◌<◌, ◌||◌, Bool, true, false, List, [], ◌∷◌, length, map, Option, Result, Ok, Err}
use Rattle.std.proofs.Common.{arith, ap, inl, inr, refl, subst, sym, ◌∙◌, ⊎_elim}
use Rattle.std.proofs.lemmas.Bool.{cases_eq}
use Rattle.ob_base.specs.declared.fault.Fault.{Fault}
use Rattle.ob_base.specs.declared.params.Params.{Params}
use Rattle.ob_base.specs.declared.value.Write.{Write}
use Rattle.ob_fetch.specs.Fetches.{RunIsAt}
use Rattle.ob_log.specs.Logs.{BatchRecord}
use Rattle.ob_opening.specs.OpeningActs.{AreGatesIn}
use Rattle.ob_opening.specs.Openings.{IsOpenedAt}
use Rattle.ob_opening.specs.declared.opening.Opening.{Opening}
use Rattle.ob_seal.specs.declared.keys.Keys.{Keys}
use Rattle.ob_serial.specs.Vaults.{DoubtBy, End, Ended, Fetch, RefusedBy, Values, VaultAnswer, VaultCall}
use Rattle.ob_serial.specs.declared.vault.EndErr.{EndErr}
use Rattle.ob_stand.specs.Stands.{RingStanding}
use Rattle.ob_store.specs.Disk.{Disk, Image}
use Rattle.ob_store.specs.declared.watch.Note.{Note}
use Rattle.ob_tables.specs.Content.{Content}
use Rattle.ob_twin.proofs.Gating.{open_of}
use Rattle.ob_twin.specs.Keyed.{tagging}
use Rattle.ob_twin.specs.Opening.{GatesAre, is_marked, with_mark}
use Rattle.ob_twin.specs.Register.{IsOpen, gate_at}
use Rattle.ob_twin.specs.declared.gates.Gates.{Gates}
use Rattle.ob_twin.specs.declared.gates.Open.{Open}
use Rattle.ob_vault.specs.Acts.{is_answered}
use Rattle.ob_recover.specs.Known.{gates_open}
use Rattle.ob_serial.specs.VaultKinds.{Kind}
use Rattle.ob_vault.specs.Gated.{AreGatesBehind, AreGatesKnown, ChainsKnowGates, FoundRunsKnowGenerations, RunsKnowGates, row_of_end}
use Rattle.ob_vault.specs.RingVaults.{EndCalled, FetchCalled, HasPlanned, KeepsRun, RingCalled, Running, run_over, write_from}

-- what is known of a register's gates is so where these have the same bytes
pub gates_same : (known : Open) (first : ℕ) (a b : Image) → b (gate_at first 0) ≡ a (gate_at first 0) → b (gate_at first 1) ≡ a (gate_at first 1) → GatesAre known first a → GatesAre known first b
gates_same known first a b zero one gates = record {
  zero = (λ marked. zero ∙ (gates.zero).0 marked, λ opened. (gates.zero).1 (sym zero ∙ opened));
  one = (λ marked. one ∙ (gates.one).0 marked, λ opened. (gates.one).1 (sym one ∙ opened));
}

pub opened_known : {S L : Type 0} (disk : S → Disk) (keys : Keys) (p : Params) (s : RingStanding) (store : S) (o : Opening L) → IsOpenedAt keys p s (disk store) o → AreGatesKnown (run_over o) (disk store)
opened_known disk keys p s store o is = λ tells. record { generation = (is.gates).0; epoch = (is.gates).1 }

module _ {S : Type 0} (disk : S → Disk) (old new : Running S) (notes : List Note) where
  -- ---- answered

  abbrev Known : Type 0
  Known = AreGatesKnown new.run (disk new.store) × (((new.run).gates).generation ≡ ((old.run).gates).generation)

  fetch_known : (asks : List (Option ℕ)) → AreGatesKnown old.run (disk old.store) → FetchCalled disk old new notes asks (Ok tt) → Known
  fetch_known asks known is = (
    λ tells.
        let was = known (((is.run).goes).told tells) in
        let a : Image = (disk old.store).cells in
        let b : Image = (disk new.store).cells in
        subst (λ (x : Gates). AreGatesIn x b) (sym is.gates)
        (record {
          generation = gates_same ((old.run).gates).generation 1 a b (is.first tells 2 (omega arith)) (is.first tells 4 (omega arith)) was.generation;
          epoch = gates_same ((old.run).gates).epoch 5 a b (is.first tells 6 (omega arith)) (is.first tells 8 (omega arith)) was.epoch;
        }),
    ap (λ (x : Gates). x.generation) is.gates,
  )

  end_known : (writes : List Write) → AreGatesKnown old.run (disk old.store) → EndCalled disk old new notes writes (Ok tt) → Known
  end_known writes known is =
      let same : ((new.run).gates).generation ≡ ((old.run).gates).generation = ap (λ (x : Gates). x.generation) is.gates in (
        λ tells.
            let told = ((is.run).moments).told tells in
            let a : Image = (disk old.store).cells in
            let b : Image = (disk new.store).cells in
            record {
              generation = subst (λ (x : Open). GatesAre x 1 b) (sym same) (gates_same ((old.run).gates).generation 1 a b (told.1 2 (omega arith)) (told.1 4 (omega arith)) (known told.0).generation);
              epoch = is.knows told.0;
            },
        same,
      )

  pub calls_known : (call : VaultCall) (answer : VaultAnswer) → AreGatesKnown old.run (disk old.store) → RingCalled disk old new notes call answer → is_answered answer ≡ true → Known
  calls_known (Fetch asks) (Values out) known is answered = fetch_known asks known is
  calls_known (Fetch asks) (RefusedBy refused) known is answered = absurd (let wrong : false ≡ true = answered in cc)
  calls_known (Fetch asks) Ended known is answered = absurd is
  calls_known (Fetch asks) (DoubtBy refused) known is answered = absurd is
  calls_known (End writes) (Values out) known is answered = absurd is
  calls_known (End writes) (RefusedBy refused) known is answered = absurd (let wrong : false ≡ true = answered in cc)
  calls_known (End writes) Ended known is answered = end_known (map write_from writes) known is
  calls_known (End writes) (DoubtBy refused) known is answered = absurd (let wrong : false ≡ true = answered in cc)

  -- ---- refused, where the store stood

  module _ (known : AreGatesKnown old.run (disk old.store)) (s : RingStanding) (at : RunIsAt old.run s (disk old.store)) (c : Content) (rs : List BatchRecord) (from : HasPlanned old.run c rs) (image : Image) (left : (disk new.store).may_leave image) where
    abbrev cells : Image
    cells = (disk old.store).cells

    abbrev lacking : ℕ
    lacking = length (row_of_end old.run c rs) - length notes

    generation_left : KeepsRun disk old new notes → GatesAre ((old.run).gates).generation 1 image
    generation_left kept =
        let back = (kept.moments).now image left in
        let same : (k : ℕ) → k < 5 → image k ≡ cells k = λ k lt. back.2 k lt ∙ at.settled back.0 back.1 k in
        gates_same ((old.run).gates).generation 1 cells image (same 2 (omega arith)) (same 4 (omega arith)) (known at.tells).generation

    fetch_gated : (asks : List (Option ℕ)) (x : Result (Unit {0}) Fault) → FetchCalled disk old new notes asks x → AreGatesBehind old.run cells lacking (Fetch asks) image
    fetch_gated asks x is =
        let back = (is.registers).now image left in
        let same : (k : ℕ) → k < 9 → image k ≡ cells k = λ k lt. back.2 k lt ∙ at.settled back.0 back.1 k in
        record { generation = generation_left is.run; epoch = gates_same ((old.run).gates).epoch 5 cells image (same 6 (omega arith)) (same 8 (omega arith)) (known at.tells).epoch }

    end_gated : (writes : List (ℕ × Option (List ℕ))) (e : EndErr) → EndCalled disk old new notes (map write_from writes) (Err e) → AreGatesBehind old.run cells lacking (End writes) image
    end_gated writes e is =
        let here = (at.runs).epoch_is in
        record {
          generation = generation_left is.run;
          epoch = is.stops c rs from image left at.tells at.settled
              (open_of (tagging ((old.run).sealer).keys) ((old.run).gates).epoch 5 s.epoch (suc (old.run).epoch) cells (omega (arith, here)) (known at.tells).epoch (at.stands).epoch);
        }

    by_answer : (call : VaultCall) (answer : VaultAnswer) → RingCalled disk old new notes call answer → is_answered answer ≡ false → AreGatesBehind old.run cells lacking call image
    by_answer (Fetch asks) (Values out) is refused = absurd (let wrong : true ≡ false = refused in cc)
    by_answer (Fetch asks) (RefusedBy e) is refused = fetch_gated asks (Err e) is
    by_answer (Fetch asks) Ended is refused = absurd is
    by_answer (Fetch asks) (DoubtBy e) is refused = absurd is
    by_answer (End writes) (Values out) is refused = absurd is
    by_answer (End writes) (RefusedBy e) is refused = end_gated writes _ is
    by_answer (End writes) Ended is refused = absurd (let wrong : true ≡ false = refused in cc)
    by_answer (End writes) (DoubtBy e) is refused = end_gated writes _ is

  pub refused_gated : (call : VaultCall) (answer : VaultAnswer) → AreGatesKnown old.run (disk old.store) → (s : RingStanding) → RunIsAt old.run s (disk old.store) → RingCalled disk old new notes call answer → is_answered answer ≡ false
      → (c : Content) (rs : List BatchRecord) → HasPlanned old.run c rs → (image : Image) → (disk new.store).may_leave image → AreGatesBehind old.run (disk old.store).cells (length (row_of_end old.run c rs) - length notes) call image
  refused_gated call answer known s at is refused c rs from image left = by_answer known s at c rs from image left call answer is refused

-- ---- chains

pub chains_known : {V S : Type 0} (k : Kind V) (disk : S → Disk) → ChainsKnowGates k disk
chains_known k disk runs words first last [] known called answered =
    subst (λ v. AreGatesKnown (runs v).run (disk (runs v).store) × ((((runs v).run).gates).generation ≡ (((runs first).run).gates).generation)) (sym called) (known, refl)
chains_known k disk runs words first last (step ∷ steps) known (mid, one, rest) answered =
    let here = calls_known disk (runs first) (runs mid) one.notes step.0 step.1 known (words.called first step.0 step.1 one.notes mid one.called) answered.0 in
    let later = chains_known k disk runs words mid last steps here.0 rest answered.1 in
    (later.0, later.1 ∙ here.1)

-- ---- what an opening finds of the generations' register

abbrev IsPlace : ℕ → Type 0
IsPlace m = (m ≡ 0) ⊎ (m ≡ 1)

two_places : (n : ℕ) → IsPlace (n % 2)
two_places n = ⊎_elim (λ e. inl e) (λ ne. inr (omega arith)) (cases_eq (n % 2) 0)

or_false : (b : Bool) → (b || false) ≡ b
or_false true = refl
or_false false = refl

marked_generation : (gates : Gates) (m : ℕ) → IsPlace m → gates_open gates (1 + 2 * m + 1) ≡ is_marked gates.generation m
marked_generation gates m (inl is) = subst (λ (n : ℕ). gates_open gates (1 + 2 * n + 1) ≡ is_marked gates.generation n) (sym is) (or_false ((gates.generation).zero || false) ∙ or_false (gates.generation).zero)
marked_generation gates m (inr is) = subst (λ (n : ℕ). gates_open gates (1 + 2 * n + 1) ≡ is_marked gates.generation n) (sym is) (or_false (gates.generation).one)

-- a gate that is known to be open stays so where another one is
mark_stays : (known : Open) (a m : ℕ) → IsPlace a → IsPlace m → is_marked known m ≡ true → is_marked (with_mark known a) m ≡ true
mark_stays known a m (inl x) (inl y) is = subst (λ (i : ℕ). is_marked (with_mark known i) m ≡ true) (sym x) (subst (λ (j : ℕ). is_marked (with_mark known 0) j ≡ true) (sym y) refl)
mark_stays known a m (inl x) (inr y) is = subst (λ (i : ℕ). is_marked (with_mark known i) m ≡ true) (sym x) (subst (λ (j : ℕ). is_marked (with_mark known 0) j ≡ true) (sym y) (subst (λ (j : ℕ). is_marked known j ≡ true) y is))
mark_stays known a m (inr x) (inl y) is = subst (λ (i : ℕ). is_marked (with_mark known i) m ≡ true) (sym x) (subst (λ (j : ℕ). is_marked (with_mark known 1) j ≡ true) (sym y) (subst (λ (j : ℕ). is_marked known j ≡ true) y is))
mark_stays known a m (inr x) (inr y) is = subst (λ (i : ℕ). is_marked (with_mark known i) m ≡ true) (sym x) (subst (λ (j : ℕ). is_marked (with_mark known 1) j ≡ true) (sym y) refl)

open_marked : (known : Open) (image : Image) (m : ℕ) → IsPlace m → GatesAre known 1 image → IsOpen 1 image m → is_marked known m ≡ true
open_marked known image m (inl is) are = subst (λ (n : ℕ). IsOpen 1 image n → is_marked known n ≡ true) (sym is) (are.zero).1
open_marked known image m (inr is) are = subst (λ (n : ℕ). IsOpen 1 image n → is_marked known n ≡ true) (sym is) (are.one).1

pub generations_known : FoundRunsKnowGenerations
generations_known keys p image f generation is stands next =
    let found = is.found in
    let known : Open = (found.gates).generation in
    let own : ℕ = suc found.generation % 2 in
    let begun : ((f.run).gates).generation ≡ with_mark known own = ap (λ (x : Gates). x.generation) (is.goes_on).gates in
    let place : generation % 2 ≡ suc ((f.run).sealer).generation % 2 = omega (arith, next) in
    let before : is_marked known (generation % 2) ≡ true = open_marked known image (generation % 2) (two_places generation) (is.found_in).generation_gates stands.open_at in
    marked_generation (f.run).gates (suc ((f.run).sealer).generation % 2) (two_places (suc ((f.run).sealer).generation))
    ∙ ap (λ (o : Open). is_marked o (suc ((f.run).sealer).generation % 2)) begun
    ∙ subst (λ (m : ℕ). is_marked (with_mark known own) m ≡ true) place (mark_stays known own (generation % 2) (two_places (suc found.generation)) (two_places generation) before)

-- both together
pub runs_known : {V S : Type 0} (k : Kind V) (disk : S → Disk) → RunsKnowGates k disk
runs_known k disk runs words keys p image f generation is stands next first last steps begun known called answered =
    let there = chains_known k disk runs words first last steps known called answered in
    let n : ℕ = suc ((f.run).sealer).generation in
    let same : (((runs last).run).gates).generation ≡ ((f.run).gates).generation = there.1 ∙ ap (λ (x : Gates). x.generation) begun in (
      there.0,
      marked_generation ((runs last).run).gates (n % 2) (two_places n) ∙ ap (λ (o : Open). is_marked o (n % 2)) same ∙ sym (marked_generation (f.run).gates (n % 2) (two_places n)) ∙ generations_known keys p image f generation is stands next,
    )
