-- Batches that are taken, fetched and delivered, and one that is refused.
use Rattle.std.proofs.Common.{◌≡◌, ◌∙◌, ◌⊎◌, ◌<◌, ◌-◌, ℕ, Bool, true, false, if◌then◌else◌, List, [], ◌∷◌, ◌++◌, length, slice_get, Option, None, Some, Result, Ok, Err, OnOk, IfErr, refl, sym, ap, subst, nat_cmp}
use Rattle.std.specs.Option.{option_or}
use Rattle.std.specs.FinMap as finite
use Rattle.std.proofs.lemmas.List.{map-append, append-nil}
use Rattle.std.proofs.lemmas.List.Concat.{flat_map-append}
use Rattle.ob_base.specs.Causes.{Rose}
use Rattle.ob_base.specs.declared.fault.Fault.{Fault}
use Rattle.ob_base.specs.declared.fault.Fault.TheVariants.{Memory, SinkFault}
use Rattle.ob_base.specs.declared.params.Params.{Params}
use Rattle.ob_store.specs.Calls.{IsStoreFault}
use Rattle.ob_store.specs.Lines.{Trace, Shows}
use Rattle.ob_store.proofs.Serving.{rose_later}
use Rattle.ob_serial.specs.Serial.{Map}
use Rattle.ob_serial.specs.Vaults.{VaultCall, Fetch, VaultAnswer, Values, RefusedBy, VaultCounts, vault_next, counts_next}
use Rattle.ob_serial.specs.VaultViews.{IsFetchFault}
use Rattle.ob_serial.specs.VaultKinds.{Kind, Called}
use Rattle.ob_order.proofs.Batches.{taken_in_flight}
use Rattle.ob_desk.specs.Desk as desk
use Rattle.ob_desk.specs.Desk.{DeskState, Call, Reply, MayCall, TakeStep, DeliverStep, StopStep, stopped_by, is_memory, stop_closed, stop_part, with_order}
use Rattle.ob_conduct.specs.declared.run_err.RunErr.{RunErr}
use Rattle.ob_conduct.specs.declared.run_err.RunErr.TheVariants as failed
use Rattle.ob_conduct.specs.Acts.{Batch, rest_calls, rest_fetches, batch_calls, batch_fetch}
use Rattle.ob_conduct.specs.Scenes.{Scene, scene}
use Rattle.ob_conduct.specs.Records.{HoldsMap}
use Rattle.ob_conduct.specs.Ready.{IsFit, IsBetweenActs}
use Rattle.ob_conduct.specs.Moves.{Moves, ReadsBatches, ReadFails, HaltsUnwatched, HeedsWatch, BatchStops, RestStops}
use Rattle.ob_conduct.proofs.Fit.{fit_taken, fit_delivered, batch_placed}
use Rattle.ob_conduct.proofs.Moving.{moves_none, moves_join, moves_one, later}

-- what a vault asks of a batch
pub batch_below : (p : Params) (d mid : DeskState) (c : VaultCounts) (keys : List (Option ℕ)) → IsBetweenActs p d c → TakeStep d keys mid → (i key : ℕ) → slice_get keys i ≡ Some (Some key) → key < p.keys
batch_below p d mid c keys r t i key at = r.fit.below i key (batch_placed d.setup.params.places d.running.order.queue i key (subst (λ (ks : List (Option ℕ)). slice_get ks i ≡ Some (Some key)) t.taken at))

pub batch_distinct : (p : Params) (d mid : DeskState) (c : VaultCounts) (keys : List (Option ℕ)) → IsBetweenActs p d c → TakeStep d keys mid → (i j key : ℕ) → slice_get keys i ≡ Some (Some key) → slice_get keys j ≡ Some (Some key) → i ≡ j
batch_distinct p d mid c keys r t i j key at too = r.fit.distinct i j key
    (batch_placed d.setup.params.places d.running.order.queue i key (subst (λ (ks : List (Option ℕ)). slice_get ks i ≡ Some (Some key)) t.taken at))
    (batch_placed d.setup.params.places d.running.order.queue j key (subst (λ (ks : List (Option ℕ)). slice_get ks j ≡ Some (Some key)) t.taken too))

-- the first fault stays
pub stop_is : (d new : DeskState) (f : Fault) → d.stop ≡ None → new ≡ stopped_by f d → new.stop ≡ Some f
stop_is d new f none e = ap (λ (x : DeskState). x.stop) e ∙ step (is_memory f) ∙ ap (λ (o : Option Fault). option_or o (Some f)) none
  where
    step : (b : Bool) → (if b then record d { stop = option_or d.stop (Some f); running = stop_part f d.running } else stop_closed f (record d { stop = option_or d.stop (Some f); running = stop_part f d.running })).stop ≡ option_or d.stop (Some f)
    step true = refl
    step false = refl

pub may_take : (p : Params) (d : DeskState) (c : VaultCounts) → IsBetweenActs p d c → 0 < c.left → MayCall d desk.TakeBatch
may_take p d c r some = (r.none_closed, subst (λ n. 0 < n) (sym r.left) some, r.landed)

pub may_deliver : (p : Params) (d mid : DeskState) (c : VaultCounts) (keys : List (Option ℕ)) (values : List (Option (List ℕ))) → IsBetweenActs p d c → TakeStep d keys mid → length values ≡ length keys → MayCall mid (desk.Deliver keys values)
may_deliver p d mid c keys values r t whole = subst (λ (x : DeskState). MayCall x (desk.Deliver keys values)) (sym t.state) (r.none_closed, t.taken ∙ taken_in_flight d.setup.params d.running.order, whole)

holds_on : {V : Type 0} (k : Kind V) (v w : V) (keys : List (Option ℕ)) (values : List (Option (List ℕ))) (m : Map nat_cmp) → Called k v (Fetch keys) (Values values) w → HoldsMap k v m → HoldsMap k w m
holds_on k v w keys values m one (u, held, is) = (vault_next u (Fetch keys) (Values values), one.holds u held, is)

fed : {V : Type 0} (k : Kind V) (v w : V) (keys : List (Option ℕ)) (values : List (Option (List ℕ))) (m : Map nat_cmp) → Called k v (Fetch keys) (Values values) w → HoldsMap k v m → (i key : ℕ) → slice_get keys i ≡ Some (Some key) → slice_get values i ≡ Some (finite.get m key)
fed k v w keys values m one (u, held, is) i key at = (one.answered u held).asked i key at ∙ ap (λ (n : Map nat_cmp). Some (finite.get n key)) is

delivered_ready : (p : Params) (d mid new : DeskState) (c : VaultCounts) (keys : List (Option ℕ)) (values : List (Option (List ℕ))) → IsBetweenActs p d c → TakeStep d keys mid → DeliverStep mid keys values new → IsBetweenActs p new (counts_next p.batches c (Fetch keys) (Values values))
delivered_ready p d mid new c keys values r t e = subst (λ (x : DeskState). IsBetweenActs p x (counts_next p.batches c (Fetch keys) (Values values))) (sym e.state) (record {
  params = ap (λ (x : DeskState). x.setup.params) t.state ∙ r.params;
  none_closed = ap (λ (x : DeskState). x.closed) t.state ∙ r.none_closed;
  landed = refl;
  epoch = ap (λ (x : DeskState). x.running.epoch) t.state ∙ r.epoch;
  left = ap (λ (x : DeskState). x.running.order.left) t.state ∙ ap (λ n. n - 1) r.left;
  serves = r.serves;
  stop = subst (λ (o : Option Fault). (o ≡ None) ⊎ (o ≡ Some Memory)) (sym (ap (λ (x : DeskState). x.stop) t.state)) r.stop;
  fit = fit_delivered p mid.running keys values (subst (λ (x : DeskState). IsFit p x.running) (sym t.state) (fit_taken p d.setup.params d.running r.fit));
})

module _ {V : Type 0} (k : Kind V) (p : Params) where
  pub read_one : (d mid new : DeskState) (v w : V) (t u : Trace) (c next : VaultCounts) (keys : List (Option ℕ)) (values : List (Option (List ℕ))) → IsBetweenActs p d c → 0 < c.left → length values ≡ length keys
      → TakeStep d keys mid → DeliverStep mid keys values new → (one : Called k v (Fetch keys) (Values values) w) → t.broken ≡ false → Shows one.notes t u
      → next ≡ counts_next p.batches c (Fetch keys) (Values values) → (batch : Batch) × ReadsBatches k p (scene d v t) (batch ∷ []) (scene new w u) next
  read_one d mid new v w t u c next keys values r some whole took e one watched shown counts = (
    record { keys = keys; values = values },
    record {
      moves = record {
        leads = (mid, may_take p d c r some, took, (new, may_deliver p d mid c keys values r took whole, e, refl));
        notes = one.notes;
        chain = (w, u, record { one = one; whole = watched; shown = shown }, [], sym (append-nil one.notes), (refl, refl, refl));
        shown = shown;
        run = λ m held. (m, (mid, may_take p d c r some, took, tt, (new, may_deliver p d mid c keys values r took whole, e, fed k v w keys values m one held, (refl, refl))), holds_on k v w keys values m one held);
      };
      ready = subst (λ (x : VaultCounts). IsBetweenActs p new x) (sym counts) (delivered_ready p d mid new c keys values r took e);
      same_epoch = ap (λ (x : DeskState). x.running.epoch) e.state ∙ ap (λ (x : DeskState). x.running.epoch) took.state;
      same_stop = ap (λ (x : DeskState). x.stop) e.state ∙ ap (λ (x : DeskState). x.stop) took.state;
    },
  )

  pub refuse_one : (d mid new : DeskState) (v w : V) (t u : Trace) (c : VaultCounts) (keys : List (Option ℕ)) (fault : Fault) → IsBetweenActs p d c → d.stop ≡ None → 0 < c.left
      → TakeStep d keys mid → StopStep mid fault new → (one : Called k v (Fetch keys) (RefusedBy fault) w) → t.broken ≡ false → Shows one.notes t u → IsFetchFault fault → (IsStoreFault fault → Rose (k.disk v).faults (k.disk w).faults) → ReadFails k (scene d v t) [] fault (scene new w u)
  refuse_one d mid new v w t u c keys fault r none some took e one watched shown is_fault cause = record {
    keys = keys;
    moves = record {
      leads = (mid, may_take p d c r some, took, (new, tt, e, refl));
      notes = one.notes;
      chain = (w, u, record { one = one; whole = watched; shown = shown }, [], sym (append-nil one.notes), (refl, refl, refl));
      shown = shown;
      run = λ m held. (m, (mid, may_take p d c r some, took, tt, (new, tt, e, tt, (refl, refl))), (vault_next held.0 (Fetch keys) (RefusedBy fault), one.holds held.0 held.1, held.2));
    };
    is_fault = is_fault;
    cause = cause;
    stopped = stop_is mid new fault (ap (λ (x : DeskState). x.stop) took.state ∙ none) e.state;
  }

  pub reads_none : (a : Scene V) (c : VaultCounts) → IsBetweenActs p a.desk c → ReadsBatches k p a [] a c
  reads_none a c r = record { moves = moves_none k a; ready = r; same_epoch = refl; same_stop = refl }

  pub reads_more : (a b d : Scene V) (batches : List Batch) (batch : Batch) (e c : VaultCounts) → ReadsBatches k p a batches b e → ReadsBatches k p b (batch ∷ []) d c → ReadsBatches k p a (batches ++ batch ∷ []) d c
  reads_more a b d batches batch e c first one = record {
    moves = subst (λ (steps : List (Call × Reply)). Moves k a steps (rest_fetches (batches ++ batch ∷ [])) d) (sym (flat_map-append batch_calls batches (batch ∷ [])))
        (subst (λ (asked : List (VaultCall × VaultAnswer)). Moves k a (rest_calls batches ++ rest_calls (batch ∷ [])) asked d) (sym (map-append batch_fetch batches (batch ∷ [])))
        (moves_join k a b d (rest_calls batches) (rest_calls (batch ∷ [])) (rest_fetches batches) (rest_fetches (batch ∷ [])) first.moves one.moves));
    ready = one.ready;
    same_epoch = one.same_epoch ∙ first.same_epoch;
    same_stop = one.same_stop ∙ first.same_stop;
  }

  pub fails_behind : (a b d : Scene V) (batches : List Batch) (e : VaultCounts) (fault : Fault) → ReadsBatches k p a batches b e → ReadFails k b [] fault d → ReadFails k a batches fault d
  fails_behind a b d batches e fault first last = record {
    keys = last.keys;
    moves = moves_join k a b d (rest_calls batches) _ (rest_fetches batches) _ first.moves last.moves;
    is_fault = last.is_fault;
    cause = λ store. rose_later (k.disk a.vault).faults (k.disk b.vault).faults (k.disk d.vault).faults (later k a b (rest_calls batches) (rest_fetches batches) first.moves) (last.cause store);
    stopped = last.stopped;
  }

  -- what stops one batch more stops them all
  pub stops_behind : (a b d : Scene V) (batches : List Batch) (e : VaultCounts) (err : RunErr) → ReadsBatches k p a batches b e → BatchStops k p b err d → RestStops k p a err d
  stops_behind a b d batches e (failed.Fault fault) first last = (batches, fails_behind a b d batches e fault first last)
  stops_behind a b d batches e failed.Unwatched first (batch, last) = (
    batches ++ batch ∷ [],
    record { mid = last.mid; counts = last.counts; read = reads_more a b last.mid batches batch e last.counts first last.read; halts = last.halts },
  )

  -- ---- a look at the watch

  pub halts : (d new : DeskState) (w : V) (u : Trace) → d.stop ≡ None → u.broken ≡ true → StopStep d SinkFault new → HaltsUnwatched k (scene d w u) (scene new w u)
  halts d new w u none broken e = record { moves = moves_one k d new w u (desk.Stop SinkFault) desk.Done tt e (λ m. (tt, refl)); broken = broken; stopped = stop_is d new SinkFault none e.state }

  -- behind a batch that was read
  module _ (a : Scene V) (d new : DeskState) (w : V) (u : Trace) (c : VaultCounts) where
    pub heeded_read : (batch : Batch) (result : Result (Unit {0}) RunErr) → ReadsBatches k p a (batch ∷ []) (scene d w u) c → HeedsWatch d new u result
        → OnOk result ((b : Batch) × ReadsBatches k p a (b ∷ []) (scene new w u) c × (u.broken ≡ false))
    heeded_read batch (Ok done) read (whole, same) = (batch, subst (λ (x : DeskState). ReadsBatches k p a (batch ∷ []) (scene x w u) c) (sym same) read, whole)
    heeded_read batch (Err err) read heeds = tt

    pub heeded_stops : (batch : Batch) (result : Result (Unit {0}) RunErr) → ReadsBatches k p a (batch ∷ []) (scene d w u) c → a.desk.stop ≡ None → HeedsWatch d new u result → IfErr result (λ err. BatchStops k p a err (scene new w u))
    heeded_stops batch (Ok done) read none heeds = tt
    heeded_stops batch (Err (failed.Fault fault)) read none heeds = absurd heeds
    heeded_stops batch (Err failed.Unwatched) read none (broken, stop) = (batch, record { mid = scene d w u; counts = c; read = read; halts = halts d new w u (read.same_stop ∙ none) broken stop })
