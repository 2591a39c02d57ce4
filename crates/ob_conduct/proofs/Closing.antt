-- An epoch that is closed, ended and published, and one whose end is refused.
use Rattle.std.proofs.Common.{◌≡◌, ◌∙◌, ◌<◌, ◌≤◌, ◌^◌, ◌+◌, ℕ, suc, add-one, true, All, map, length, List, [], Option, None, Some, refl, sym, ap, subst, inl, arith, nat_cmp}
use Rattle.std.specs.Option.{option_or, is_some}
use Rattle.std.proofs.lemmas.Option.{same_Some}
use Rattle.ob_base.specs.Causes.{Rose}
use Rattle.ob_base.specs.declared.fault.Fault.{Fault}
use Rattle.ob_base.specs.declared.params.Params.{Params}
use Rattle.ob_store.specs.Calls.{IsStoreFault}
use Rattle.ob_store.specs.Lines.{Trace}
use Rattle.ob_store.proofs.Showing.{shows_none}
use Rattle.ob_serial.specs.Serial.{Map, EpochRecord}
use Rattle.ob_serial.specs.Vaults.{VaultCall, End, VaultAnswer, Ended, RefusedBy, DoubtBy, VaultState, VaultCounts, vault_next, counts_next}
use Rattle.ob_serial.specs.Vaults as vaults
use Rattle.ob_base.specs.declared.fault.Fault.TheVariants.{Memory, Usage, BadScript, BadParams, NotStore, Damaged, StoreFault, StashFull, Worn, SourceFault, SinkFault}
use Rattle.ob_serial.specs.declared.vault.EndErr.{EndErr}
use Rattle.ob_serial.specs.VaultViews.{IsEndFault, IsStoreEnd}
use Rattle.ob_serial.specs.VaultKinds.{Kind, Called}
use Rattle.ob_serial.specs.declared.vault.EndErr.TheVariants.{Before, Unsure}
use Rattle.std.specs.List.Sorted.{IsStrictlyIncreasing}
use Rattle.std.proofs.lemmas.List.{length-map, append-nil}
use Rattle.ob_base.specs.declared.value.Write.{Write}
use Rattle.ob_order.specs.Works.{last_writes}
use Rattle.ob_base.specs.Writes.{pair_of}
use Rattle.ob_desk.specs.Desk as desk
use Rattle.ob_desk.specs.Desk.{DeskState, Part, MayCall, CloseStep, PublishStep, StopStep, UnsureStep, closing, record_of, new_part, base_map}
use Rattle.ob_desk.proofs.Ends.{closing-epoch}
use Rattle.ob_conduct.specs.Scenes.{scene, Watched}
use Rattle.ob_conduct.specs.Records.{Makes}
use Rattle.ob_conduct.specs.Ready.{IsFit, IsBetweenActs, IsDueRecord}
use Rattle.ob_conduct.specs.Moves.{IsClosed, IsEnded, EndFails}
use Rattle.ob_conduct.proofs.Fit.{fit_new, fit_closing}
use Rattle.ob_conduct.proofs.Writes.{batch_makes, record_ordered, few_writes, rising_writes, writes_below}
use Rattle.ob_conduct.proofs.Batches.{stop_is}

may_close : (p : Params) (d : DeskState) (c : VaultCounts) → IsBetweenActs p d c → d.stop ≡ None → c.left ≡ 0 → MayCall d desk.Close
may_close p d c r none zero = (r.none_closed, r.left ∙ zero, r.landed, none)

-- what a desk has just closed
closed_part : (d mid : DeskState) (writes : List (ℕ × Option (List ℕ))) → CloseStep d writes mid → mid.closed ≡ Some (closing d.running)
closed_part d mid writes e = ap (λ (x : DeskState). x.closed) e.state

some_closed : (d mid : DeskState) (writes : List (ℕ × Option (List ℕ))) → CloseStep d writes mid → is_some mid.closed ≡ true
some_closed d mid writes e = ap (λ (o : Option Part). is_some o) (closed_part d mid writes e)

pub due_of : (p : Params) (d mid : DeskState) (c : VaultCounts) (writes : List (ℕ × Option (List ℕ))) → IsBetweenActs p d c → CloseStep d writes mid → IsDueRecord d.running.epoch writes (record_of (closing d.running))
due_of p d mid c writes r e = record {
  epoch_is = closing-epoch d.running;
  ordered = record_ordered (closing d.running);
  makes = subst (λ (ws : List (ℕ × Option (List ℕ))). Makes ws (record_of (closing d.running))) (ap (λ (q : Params). last_writes q.keys (closing d.running).order.works) (sym r.params) ∙ sym e.batch) (batch_makes p (closing d.running) (fit_closing p d.running r.fit));
}

-- what a vault asks of the writes
pub close_few : (p : Params) (d mid : DeskState) (c : VaultCounts) (ws : List Write) → IsBetweenActs p d c → CloseStep d (map pair_of ws) mid → length ws ≤ p.writes
close_few p d mid c ws r e =
    let few : length (last_writes p.keys (closing d.running).order.works) ≤ p.writes = few_writes p (closing d.running) (fit_closing p d.running r.fit) in
    let same : length (map pair_of ws) ≡ length (last_writes p.keys (closing d.running).order.works) = ap length (e.batch ∙ ap (λ (q : Params). last_writes q.keys (closing d.running).order.works) r.params) in
    let all : length (map pair_of ws) ≡ length ws = length-map ws pair_of in
    omega (arith, few, same, all)

pub close_rising : (d mid : DeskState) (ws : List Write) → CloseStep d (map pair_of ws) mid → IsStrictlyIncreasing (map (λ w. w.key) ws)
close_rising d mid ws e = rising_writes ws (closing d.running).order.works d.setup.params.keys e.batch

pub close_below : (p : Params) (d mid : DeskState) (c : VaultCounts) (ws : List Write) → IsBetweenActs p d c → CloseStep d (map pair_of ws) mid → All (λ w. w.key < p.keys) ws
close_below p d mid c ws r e = subst (λ (q : Params). All (λ (w : Write). w.key < q.keys) ws) r.params (writes_below ws (closing d.running).order.works d.setup.params.keys e.batch)

-- the vault's map behind the end is that below the desk's running part
ended_map : (p : Params) (d mid : DeskState) (writes : List (ℕ × Option (List ℕ))) (m : Map nat_cmp) → CloseStep d writes mid → vaults.with_writes m writes ≡ base_map m mid
ended_map p d mid writes m e = ap (vaults.with_writes m) e.batch
    ∙ sym (ap (λ (x : DeskState). base_map m x) e.state)

pub ended_with : {V : Type 0} (k : Kind V) (old new : V) (t u : Trace) (writes as_are : List (ℕ × Option (List ℕ))) (answer as_is : VaultAnswer) → writes ≡ as_are → answer ≡ as_is
    → Watched k old t (End writes) answer new u → Watched k old t (End as_are) as_is new u
ended_with k old new t u writes as_are answer as_is are is last = subst (λ a. Watched k old t (End as_are) a new u) is (subst (λ w. Watched k old t (End w) answer new u) are last)

pub next_fault : (n : ℕ) (refused : EndErr) → IsEndFault (n + 1) refused → IsEndFault (suc n) refused
next_fault n refused is = subst (λ m. IsEndFault m refused) (add-one n) is

pub store_end : (fault : Fault) → IsStoreFault fault → IsStoreEnd (Before fault)
store_end Memory store = absurd store
store_end Usage store = absurd store
store_end (BadScript line) store = absurd store
store_end (BadParams field) store = absurd store
store_end NotStore store = absurd store
store_end (Damaged cell check kept computed) store = absurd store
store_end (StoreFault unsure) store = tt
store_end (StashFull rows) store = absurd store
store_end (Worn number) store = absurd store
store_end SourceFault store = absurd store
store_end SinkFault store = absurd store

module _ {V : Type 0} (k : Kind V) (p : Params) where
  -- the desk closed its epoch
  closed_by : (d mid : DeskState) (v : V) (t : Trace) (c : VaultCounts) (writes : List (ℕ × Option (List ℕ))) → IsBetweenActs p d c → d.stop ≡ None → c.left ≡ 0 → CloseStep d writes mid → IsClosed k (scene d v t) writes (scene mid v t)
  closed_by d mid v t c writes r none zero e = record {
    moves = record {
      leads = (mid, may_close p d c r none zero, e, refl);
      notes = [];
      chain = (refl, refl, refl);
      shown = shows_none t;
      run = λ m held. (m, (mid, may_close p d c r none zero, e, tt, (refl, refl)), held);
    };
    part = closing d.running;
    is_closed = closed_part d mid writes e;
    due = due_of p d mid c writes r e;
  }

  pub ends : (d mid new : DeskState) (v w : V) (t u : Trace) (c next : VaultCounts) (writes : List (ℕ × Option (List ℕ))) (told : EpochRecord ℕ) (left : ℕ) → IsBetweenActs p d c → d.stop ≡ None → c.left ≡ 0
      → CloseStep d writes mid → Watched k v t (End writes) Ended w u → next ≡ counts_next p.batches c (End writes) Ended → next.epoch < 2 ^ 62 → left ≡ p.batches → PublishStep mid told new → IsEnded k p (scene d v t) told (scene new w u) next
  ends d mid new v w t u c next writes told left r none zero e called counts low left_is pub_step =
      let one : Called k v (End writes) Ended w = called.one in
      let part_is : closing d.running ≡ pub_step.part = same_Some (closing d.running) pub_step.part (sym (closed_part d mid writes e) ∙ pub_step.is_closed) in
      let told_is : told ≡ record_of (closing d.running) = pub_step.record_is ∙ ap record_of (sym part_is) in
      let due : IsDueRecord d.running.epoch writes told = subst (λ (x : EpochRecord ℕ). IsDueRecord d.running.epoch writes x) (sym told_is) (due_of p d mid c writes r e) in
      let named : suc told.epoch ≡ mid.running.epoch = ap suc due.epoch_is ∙ sym (ap (λ (x : DeskState). x.running.epoch) e.state) in
      let at : next.epoch ≡ suc c.epoch = ap (λ (x : VaultCounts). x.epoch) counts in
      let now : told.epoch ≡ suc c.epoch = due.epoch_is ∙ r.epoch in
      let may : MayCall mid (desk.Publish (suc told.epoch) left) = (named, omega (arith, at, now, low), left_is ∙ sym (ap (λ (q : Params). q.batches) r.params) ∙ sym (ap (λ (x : DeskState). x.setup.params.batches) e.state), some_closed d mid writes e) in
      record {
        writes = writes;
        left = left;
        mid = scene mid v t;
        closed = closed_by d mid v t c writes r none zero e;
        moves = record {
          leads = (new, may, pub_step, refl);
          notes = one.notes;
          chain = (w, u, called, [], sym (append-nil one.notes), (refl, refl, refl));
          shown = called.shown;
          run = λ m held. (
            base_map m mid,
            (new, may, pub_step, tt, (refl, refl)),
            (vault_next held.0 (End writes) Ended, one.holds held.0 held.1, ap (λ (n : Map nat_cmp). vaults.with_writes n writes) held.2 ∙ ended_map p d mid writes m e),
          );
        };
        due = due;
        ready = ready;
        next_epoch = ap (λ (x : DeskState). x.running.epoch) pub_step.state ∙ ap (λ (x : DeskState). x.running.epoch) e.state;
        same_stop = ap (λ (x : DeskState). x.stop) pub_step.state ∙ ap (λ (x : DeskState). x.stop) e.state;
      }
    where
      ready : IsBetweenActs p new next
      ready = subst (λ (x : VaultCounts). IsBetweenActs p new x) (sym counts) (subst (λ (x : DeskState). IsBetweenActs p x (counts_next p.batches c (End writes) Ended)) (sym pub_step.state) (record {
        params = ap (λ (x : DeskState). x.setup.params) e.state ∙ r.params;
        none_closed = refl;
        landed = ap (λ (x : DeskState). x.running.order.flying) e.state;
        epoch = ap (λ (x : DeskState). x.running.epoch) e.state ∙ ap suc r.epoch;
        left = ap (λ (x : DeskState). x.running.order.left) e.state ∙ ap (λ (q : Params). q.batches) r.params;
        serves = r.serves;
        stop = inl (ap (λ (x : DeskState). x.stop) e.state ∙ none);
        fit = subst (λ (x : DeskState). IsFit p x.running) (sym e.state) (fit_new p (suc d.running.epoch) d.setup.params.batches);
      }))

  -- the end was refused before its last write,
  pub end_fails : (d mid new : DeskState) (v w : V) (t u : Trace) (c : VaultCounts) (writes : List (ℕ × Option (List ℕ))) (fault : Fault) → IsBetweenActs p d c → d.stop ≡ None → c.left ≡ 0
      → CloseStep d writes mid → Watched k v t (End writes) (RefusedBy fault) w u → StopStep mid fault new → IsEndFault (suc c.epoch) (Before fault) → (IsStoreFault fault → Rose (k.disk v).faults (k.disk w).faults) → EndFails k (scene d v t) fault (scene new w u)
  end_fails d mid new v w t u c writes fault r none zero e called halt is_fault cause =
      let one : Called k v (End writes) (RefusedBy fault) w = called.one in
      record {
        writes = writes;
        refused = Before fault;
        mid = scene mid v t;
        closed = closed_by d mid v t c writes r none zero e;
        moves = record {
          leads = (new, tt, halt, refl);
          notes = one.notes;
          chain = (w, u, called, [], sym (append-nil one.notes), (refl, refl, refl));
          shown = called.shown;
          run = λ m held. (m, (new, tt, halt, tt, (refl, refl)), (vault_next held.0 (End writes) (RefusedBy fault), one.holds held.0 held.1, held.2));
        };
        fault_is = refl;
        is_fault = subst (λ n. IsEndFault n (Before fault)) (sym r.epoch) is_fault;
        cause = cause;
        stopped = stop_is mid new fault (ap (λ (x : DeskState). x.stop) e.state ∙ none) halt.state;
      }

  -- or left in doubt
  pub end_doubts : (d mid new : DeskState) (v w : V) (t u : Trace) (c : VaultCounts) (writes : List (ℕ × Option (List ℕ))) (fault : Fault) → IsBetweenActs p d c → d.stop ≡ None → c.left ≡ 0
      → CloseStep d writes mid → Watched k v t (End writes) (DoubtBy fault) w u → UnsureStep mid fault new → IsEndFault (suc c.epoch) (Unsure fault) → (IsStoreFault fault → Rose (k.disk v).faults (k.disk w).faults) → EndFails k (scene d v t) fault (scene new w u)
  end_doubts d mid new v w t u c writes fault r none zero e called halt is_fault cause =
      let one : Called k v (End writes) (DoubtBy fault) w = called.one in
      record {
        writes = writes;
        refused = Unsure fault;
        mid = scene mid v t;
        closed = closed_by d mid v t c writes r none zero e;
        moves = record {
          leads = (new, some_closed d mid writes e, halt, refl);
          notes = one.notes;
          chain = (w, u, called, [], sym (append-nil one.notes), (refl, refl, refl));
          shown = called.shown;
          run = λ m held. (m, (new, some_closed d mid writes e, halt, tt, (refl, refl)), (vault_next held.0 (End writes) (DoubtBy fault), one.holds held.0 held.1, held.2));
        };
        fault_is = refl;
        is_fault = subst (λ n. IsEndFault n (Unsure fault)) (sym r.epoch) is_fault;
        cause = cause;
        stopped = ap (λ (x : DeskState). x.stop) halt.state ∙ ap (λ (o : Option Fault). option_or o (Some fault)) (ap (λ (x : DeskState). x.stop) e.state ∙ none);
      }
