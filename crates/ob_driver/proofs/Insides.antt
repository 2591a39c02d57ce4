-- Batches that are taken, read and delivered within a turn, and one that is refused.
use Rattle.std.proofs.Common.{◌≡◌, ◌∙◌, ◌⊎◌, ◌<◌, ◌-◌, ℕ, List, [], ◌∷◌, ◌++◌, length, take, drop, Option, None, Some, Result, Ok, Err, refl, sym, ap, subst, append-nil, nat_cmp}
use Rattle.std.proofs.Math.Seq.{take-append_seam}
use Rattle.std.proofs.lemmas.List.{map-append}
use Rattle.std.proofs.lemmas.List.Concat.{flat_map-append}
use Rattle.ob_base.specs.Causes.{Rose}
use Rattle.ob_base.specs.declared.fault.Fault.{Fault}
use Rattle.ob_base.specs.declared.fault.Fault.TheVariants.{Memory}
use Rattle.ob_base.specs.declared.params.Params.{Params}
use Rattle.ob_store.specs.Calls.{IsStoreFault}
use Rattle.ob_store.specs.Lines.{Trace}
use Rattle.ob_store.proofs.Serving.{rose_later}
use Rattle.ob_store.proofs.Showing.{shows_none, shows_then}
use Rattle.ob_serial.specs.Serial.{Map}
use Rattle.ob_serial.specs.declared.vault.EndErr.{EndErr}
use Rattle.ob_serial.specs.declared.vault.EndErr.TheVariants.{Before, Unsure}
use Rattle.ob_serial.specs.Vaults.{VaultCall, VaultAnswer, IsAnswer, Fetch, End, Values, RefusedBy, VaultCounts, counts_next}
use Rattle.ob_serial.specs.VaultViews.{IsFetchFault, end_answer}
use Rattle.ob_serial.specs.VaultKinds.{Kind}
use Rattle.ob_order.proofs.Batches.{taken_in_flight}
use Rattle.ob_desk.specs.Desk as desk
use Rattle.ob_desk.specs.Desk.{DeskState, MayCall, TakeStep, DeliverStep}
use Rattle.ob_hall.specs.Passes.{Steps, Hall, Pass, IsPassOf, NotesTurn}
use Rattle.ob_conduct.specs.declared.run_err.RunErr.{RunErr}
use Rattle.ob_conduct.specs.declared.run_err.RunErr.TheVariants as failed
use Rattle.ob_conduct.specs.Acts.{Batch, batch_calls, batch_fetch, rest_calls, rest_fetches}
use Rattle.ob_conduct.specs.Scenes.{Scene, scene, Watched}
use Rattle.ob_conduct.specs.Ready.{IsFit, IsBetweenActs}
use Rattle.ob_conduct.proofs.Fit.{fit_taken, fit_delivered}
use Rattle.ob_conduct.proofs.Moving.{noted_join, goes_all}
use Rattle.ob_driver.specs.Resting.{params_of, noted_by, IsInTurn}
use Rattle.ob_driver.specs.Turning.{NotesMore}
use Rattle.ob_driver.specs.Inside.{AsksAll, ReadsInside, RefusesInside, StopsInside}
use Rattle.ob_driver.proofs.Turning.{call_noted, notes_one, notes_join}

-- what a vector has once a slice of all of it was written
pub slice_back : {A : Type 0} (len : ℕ) (new old : List A) → len ≡ length new → take len (new ++ drop (length new) old) ≡ new
slice_back len new old is = ap (λ (n : ℕ). take n (new ++ drop (length new) old)) is ∙ take-append_seam new (drop (length new) old)

-- an end may answer this, whatever the map
pub end_answers : (m : Map nat_cmp) (writes : List (ℕ × Option (List ℕ))) (result : Result (Unit {0}) EndErr) → IsAnswer m (End writes) (end_answer result)
end_answers m writes (Ok done) = tt
end_answers m writes (Err (Before fault)) = tt
end_answers m writes (Err (Unsure fault)) = tt

-- ---- what the desk allows

pub may_take : (p : Params) (d : DeskState) (c : VaultCounts) → IsBetweenActs p d c → 0 < c.left → MayCall d desk.TakeBatch
may_take p d c r some = (r.none_closed, subst (λ n. 0 < n) (sym r.left) some, r.landed)

pub may_deliver : (p : Params) (d mid : DeskState) (c : VaultCounts) (keys : List (Option ℕ)) (values : List (Option (List ℕ))) → IsBetweenActs p d c → TakeStep d keys mid → length values ≡ length keys → MayCall mid (desk.Deliver keys values)
may_deliver p d mid c keys values r t whole = subst (λ (x : DeskState). MayCall x (desk.Deliver keys values)) (sym t.state) (r.none_closed, t.taken ∙ taken_in_flight d.setup.params d.running.order, whole)

delivered_ready : (p : Params) (d mid new : DeskState) (c : VaultCounts) (keys : List (Option ℕ)) (values : List (Option (List ℕ))) → IsBetweenActs p d c → TakeStep d keys mid → DeliverStep mid keys values new → IsBetweenActs p new (counts_next p.batches c (Fetch keys) (Values values))
delivered_ready p d mid new c keys values r t e = subst (λ (x : DeskState). IsBetweenActs p x (counts_next p.batches c (Fetch keys) (Values values))) (sym e.state) (record {
  params = ap (λ (x : DeskState). x.setup.params) t.state ∙ r.params;
  none_closed = ap (λ (x : DeskState). x.closed) t.state ∙ r.none_closed;
  landed = refl;
  epoch = ap (λ (x : DeskState). x.running.epoch) t.state ∙ r.epoch;
  left = ap (λ (x : DeskState). x.running.order.left) t.state ∙ ap (λ n. n - 1) r.left;
  serves = r.serves;
  stop = subst (λ (o : Option Fault). (o ≡ None) ⊎ (o ≡ Some Memory)) (sym (ap (λ (x : DeskState). x.stop) t.state)) r.stop;
  fit = fit_delivered p mid.running keys values (subst (λ (x : DeskState). IsFit p x.running) (sym t.state) (fit_taken p d.setup.params d.running r.fit));
})

-- ---- calls of the vault, one behind the other

pub asks_none : {V : Type 0} (k : Kind V) (d : DeskState) (v : V) (t : Trace) → AsksAll k (scene d v t) [] (scene d v t)
asks_none k d v t = record { notes = []; chain = (refl, refl, refl); shown = shows_none t }

pub asks_one : {V : Type 0} (k : Kind V) (d e : DeskState) (v w : V) (t u : Trace) (call : VaultCall) (answer : VaultAnswer) → Watched k v t call answer w u → AsksAll k (scene d v t) ((call, answer) ∷ []) (scene e w u)
asks_one k d e v w t u call answer a = record { notes = a.one.notes; chain = (w, u, a, [], sym (append-nil a.one.notes), (refl, refl, refl)); shown = a.shown }

pub asks_join : {V : Type 0} (k : Kind V) (a b c : Scene V) (xs ys : List (VaultCall × VaultAnswer)) → AsksAll k a xs b → AsksAll k b ys c → AsksAll k a (xs ++ ys) c
asks_join k a b c xs ys m n = record {
  notes = m.notes ++ n.notes;
  chain = noted_join k a.vault a.trace xs m.notes b.vault b.trace ys n.notes c.vault c.trace m.chain n.chain;
  shown = shows_then m.notes n.notes a.trace b.trace c.trace m.shown n.shown;
}

-- the count of faults of the vault's store doesn't fall
pub asks_later : {V : Type 0} (k : Kind V) (a b : Scene V) (xs : List (VaultCall × VaultAnswer)) (n : ℕ) → AsksAll k a xs b → Rose (k.disk b.vault).faults n → Rose (k.disk a.vault).faults n
asks_later k a b xs n m rose = rose_later (k.disk a.vault).faults (k.disk b.vault).faults n (goes_all k a.vault a.trace xs m.notes b.vault b.trace m.chain).faults rose

-- ---- batches within a turn

pub notes_none : (now : Pass) → NotesMore now now []
notes_none now = record { made = refl; seen = refl; noted = sym (append-nil (noted_by now)); place = refl; ear = refl }

module _ {V : Type 0} (k : Kind V) (hall : Hall) where
  pub inside_none : (now : Pass) (a : Scene V) (c : VaultCounts) → IsInTurn hall now a.desk → IsBetweenActs (params_of hall) a.desk c → ReadsInside k hall now a [] now a c
  inside_none now a c t r = record { notes = notes_none now; turn = t; asks = asks_none k a.desk a.vault a.trace; ready = r; same_epoch = refl; same_stop = refl }

  module _ (before mid after : Pass) (d taken new : DeskState) (v w : V) (t u : Trace) (c : VaultCounts) (keys : List (Option ℕ)) (turn : IsInTurn hall before d) (r : IsBetweenActs (params_of hall) d c) (some : 0 < c.left) (took : TakeStep d keys taken)
      (first : NotesTurn before mid ((desk.TakeBatch, desk.Batch keys) ∷ [])) (own : IsPassOf hall mid) where
    turn_then : IsInTurn hall mid taken
    turn_then = call_noted hall before mid d taken (desk.TakeBatch, desk.Batch keys) turn first own (may_take (params_of hall) d c r some) took refl

    -- one was read, and delivered
    pub inside_one : (next : VaultCounts) (values : List (Option (List ℕ))) → length values ≡ length keys → DeliverStep taken keys values new → NotesTurn mid after ((desk.Deliver keys values, desk.Done) ∷ []) → IsPassOf hall after → Watched k v t (Fetch keys) (Values values) w u
        → next ≡ counts_next (params_of hall).batches c (Fetch keys) (Values values) → ReadsInside k hall before (scene d v t) (record { keys = keys; values = values } ∷ []) after (scene new w u) next
    inside_one next values whole delivered last own_now asked counts = record {
      notes = notes_join before mid after ((desk.TakeBatch, desk.Batch keys) ∷ []) ((desk.Deliver keys values, desk.Done) ∷ []) (notes_one before mid (desk.TakeBatch, desk.Batch keys) first) (notes_one mid after (desk.Deliver keys values, desk.Done) last);
      turn = call_noted hall mid after taken new (desk.Deliver keys values, desk.Done) turn_then last own_now (may_deliver (params_of hall) d taken c keys values r took whole) delivered refl;
      asks = asks_one k d new v w t u (Fetch keys) (Values values) asked;
      ready = subst (λ (x : VaultCounts). IsBetweenActs (params_of hall) new x) (sym counts) (delivered_ready (params_of hall) d taken new c keys values r took delivered);
      same_epoch = ap (λ (x : DeskState). x.running.epoch) delivered.state ∙ ap (λ (x : DeskState). x.running.epoch) took.state;
      same_stop = ap (λ (x : DeskState). x.stop) delivered.state ∙ ap (λ (x : DeskState). x.stop) took.state;
    }

    -- one was refused
    pub refuses_one : (fault : Fault) → Watched k v t (Fetch keys) (RefusedBy fault) w u → IsFetchFault fault → (IsStoreFault fault → Rose (k.disk v).faults (k.disk w).faults) → RefusesInside k hall before (scene d v t) [] fault mid (scene taken w u)
    refuses_one fault asked is_fault cause = record {
      keys = keys;
      notes = notes_one before mid (desk.TakeBatch, desk.Batch keys) first;
      turn = turn_then;
      asks = asks_one k d taken v w t u (Fetch keys) (RefusedBy fault) asked;
      is_fault = is_fault;
      cause = cause;
    }

  module _ (before mid after : Pass) (a b e : Scene V) (batches : List Batch) (c : VaultCounts) (m : ReadsInside k hall before a batches mid b c) where
    -- one more was read
    pub inside_more : (batch : Batch) (next : VaultCounts) → ReadsInside k hall mid b (batch ∷ []) after e next → ReadsInside k hall before a (batches ++ batch ∷ []) after e next
    inside_more batch next n = record {
      notes = subst (λ (calls : Steps). NotesMore before after calls) (sym (flat_map-append batch_calls batches (batch ∷ []))) (notes_join before mid after (rest_calls batches) (rest_calls (batch ∷ [])) m.notes n.notes);
      turn = n.turn;
      asks = subst (λ (asked : List (VaultCall × VaultAnswer)). AsksAll k a asked e) (sym (map-append batch_fetch batches (batch ∷ []))) (asks_join k a b e (rest_fetches batches) (rest_fetches (batch ∷ [])) m.asks n.asks);
      ready = n.ready;
      same_epoch = n.same_epoch ∙ m.same_epoch;
      same_stop = n.same_stop ∙ m.same_stop;
    }

    -- one more was refused
    pub refuses_behind : (fault : Fault) → RefusesInside k hall mid b [] fault after e → RefusesInside k hall before a batches fault after e
    refuses_behind fault n = record {
      keys = n.keys;
      notes = notes_join before mid after (rest_calls batches) ((desk.TakeBatch, desk.Batch n.keys) ∷ []) m.notes n.notes;
      turn = n.turn;
      asks = asks_join k a b e (rest_fetches batches) ((Fetch n.keys, RefusedBy fault) ∷ []) m.asks n.asks;
      is_fault = n.is_fault;
      cause = λ store. asks_later k a b (rest_fetches batches) (k.disk e.vault).faults m.asks (n.cause store);
    }

  -- ---- what stops the run within the turn

  module _ (before after : Pass) (a e : Scene V) where
    pub stops_turn : (err : RunErr) → StopsInside k hall before a err after e → IsInTurn hall after e.desk
    stops_turn (failed.Fault fault) (batches, f) = f.turn
    stops_turn failed.Unwatched (batches, c, r, broken) = r.turn

    pub stops_notes : (err : RunErr) → StopsInside k hall before a err after e → (calls : Steps) × NotesMore before after calls
    stops_notes (failed.Fault fault) (batches, f) = (rest_calls batches ++ (desk.TakeBatch, desk.Batch f.keys) ∷ [], f.notes)
    stops_notes failed.Unwatched (batches, c, r, broken) = (rest_calls batches, r.notes)
