use Rattle.std.proofs.Common.{◌≡◌, ◌<◌, ◌≤◌, ◌^◌, ℕ, suc, Ok, Err, inl, inr, ⊎_elim, refl, sym, ap, subst, ◌∙◌, arith}
use Rattle.ob_base.specs.Planned.{most_jobs}
use Rattle.ob_cells.specs.Jobs.{Manned}
use Rattle.ob_seal.specs.Sealing.{Sealing}
use Rattle.ob_start.specs.Beginning.{BeginLeaves, BeginStops, BeginsFrom, IsBegun, IsSyncedLeft}
use Rattle.ob_store.specs.Calls.{IsStoreFault}
use Rattle.ob_store.proofs.Serving.{goes_then, serves_err, serves_ok, serves_then}
use Rattle.ob_tables.specs.Content.{content_of}
use Rattle.ob_twin.specs.declared.gates.Gates.{Gates}
use Rattle.ob_twin.specs.declared.gates.Open.{Open}
use Rattle.ob_twin.specs.Clear.{AreInClear, AreInClearBut}
use Rattle.ob_twin.proofs.Clear.{both_clear, none_clear}
use Rattle.ob_twin.specs.Keyed.{tagging}
use Rattle.ob_twin.specs.Register.{KeepsAt, SameOutside, StandsAt}
use Rattle.ob_twin.specs.Opening.{GatesAre}
use Rattle.ob_twin.proofs.Frames.{gates_moved}
use Rattle.ob_recover.specs.Repeats.{IsReplayOf}
use Rattle.ob_opening.specs.OpeningRuns.{next_notes}
use Rattle.ob_opening.specs.Openings.{fresh_sealer}
use Rattle.ob_opening.proofs.FaultLaws.{begin_fault, begin_refusal, begin_stays, repeat_fault, repeat_refusal, repeat_stays}
use Rattle.ob_opening.proofs.Movings.{repeated_off, synced_on}
use Rattle.ob_opening.proofs.OpenedLaws.{begins_then, begun_opens, generation_is, opens_then, planner_of, register_same}
use Rattle.ob_opening.proofs.StopLaws.{begin_stops, repeat_stops}
use Rattle.ob_opening.proofs.preparing.open_found.Goals as goal

-- ---- the generation didn't begin

pub returns-in-Err-clause-faults : goal.returns-in-Err-clause-faults
returns-in-Err-clause-faults g c = begin_fault c.args.found.generation c.in-Err.fault c.in-Err.ensures.faults

pub returns-in-Err-clause-refused : goal.returns-in-Err-clause-refused
returns-in-Err-clause-refused g c = λ tells. begin_refusal c.args.keys.now c.args.p.now (g.S.Store.disk c.args.store.now).cells c.args.found c.in-Err.fault c.in-Err.ensures.faults

pub returns-in-Err-clause-leaves : goal.returns-in-Err-clause-leaves
returns-in-Err-clause-leaves g c =
    let keys = c.args.keys.now in
    let p = c.args.p.now in
    let found = c.args.found in
    let old = c.args.store.now in
    let mid = c.begin.new.store in
    ⊎_elim (λ still. inl still) (λ begun. inr (begun_opens g.S.Store.disk keys p found old c.requires.gates mid begun))
    (subst (λ (s : Sealing). BeginLeaves g.S.Store.disk s.keys found.generation old mid (Err c.in-Err.fault)) c.new-known.ensures c.in-Err.ensures.leaves)

pub returns-in-Err-clause-does : goal.returns-in-Err-clause-does
returns-in-Err-clause-does g c = inl c.in-Err.ensures.does.first

pub returns-in-Err-clause-begins_err : goal.returns-in-Err-clause-begins_err
returns-in-Err-clause-begins_err g c = inl (refl, c.in-Err.ensures.does.first)

pub returns-in-Err-clause-stays : goal.returns-in-Err-clause-stays
returns-in-Err-clause-stays g c =
    begin_stays c.args.found.generation (g.T.Tape.present c.args.tape.now) c.args.store.now c.begin.new.store c.args.tape.now c.args.watch.now c.begin.new.watch c.in-Err.fault c.in-Err.ensures.faults c.in-Err.ensures.untouched

-- ---- a batch wasn't repeated

pub returns-in-Err-replay-clause-faults : goal.returns-in-Err-replay-clause-faults
returns-in-Err-replay-clause-faults g c =
    let next = c.in-Ok.ensures.next in
    repeat_fault c.args.found.generation c.in-Err-replay.fault (subst (λ n. n < 2 ^ 62) next.0 next.1) c.in-Err-replay.ensures.faults

pub returns-in-Err-replay-clause-refused : goal.returns-in-Err-replay-clause-refused
returns-in-Err-replay-clause-refused g c = λ tells.
    let keys = c.args.keys.now in
    let p = c.args.p.now in
    let old = (g.S.Store.disk c.args.store.now).cells in
    let mid = (g.S.Store.disk c.begin.new.store).cells in
    let told = c.in-Ok.ensures.serves.tells tells in
    repeat_refusal keys p mid old c.args.found c.in-Err-replay.fault (c.begin.ensures.rest tells) c.in-Err-replay.ensures.faults
    (subst (λ (s : Sealing). IsReplayOf s.keys p mid c.args.found (Err c.in-Err-replay.fault)) c.new-sealer.ensures (c.in-Err-replay.ensures.value told))

pub returns-in-Err-replay-clause-leaves : goal.returns-in-Err-replay-clause-leaves
returns-in-Err-replay-clause-leaves g c =
    let keys = c.args.keys.now in
    let p = c.args.p.now in
    let found = c.args.found in
    let old = c.args.store.now in
    let mid = c.begin.new.store in
    let new = c.replay.new.store in
    let kept : (g.S.Store.disk old).tells → StandsAt (tagging keys) 1 (g.S.Store.disk old).cells found.generation → KeepsAt (tagging keys) 1 (g.S.Store.disk old).cells (suc found.generation) (g.S.Store.disk mid).cells =
    λ tells stands. subst (λ (s : Sealing). KeepsAt (tagging s.keys) 1 (g.S.Store.disk old).cells (suc found.generation) (g.S.Store.disk mid).cells) c.new-known.ensures
    (c.in-Ok.ensures.stands tells (subst (λ (s : Sealing). StandsAt (tagging s.keys) 1 (g.S.Store.disk old).cells found.generation) (sym c.new-known.ensures) stands)) in
    let number : (h : ℕ) → (g.S.Store.disk old).tells → StandsAt (tagging keys) 1 (g.S.Store.disk old).cells h → found.generation ≡ h = λ h tells stands. generation_is keys p (g.S.Store.disk old).cells found h (c.requires.gates tells) stands in
    let begun = subst (λ (s : Sealing). (from : BeginsFrom g.S.Store.disk s.keys found.generation old mid) × IsBegun g.S.Store.disk s.keys found.generation old mid from) c.new-known.ensures c.in-Ok.ensures.leaves in
    inr (opens_then g.S.Store.disk keys p found old c.requires.gates mid new begun.0 begun.1 (g.met.S.Store.only_now mid) (λ image left. g.met.S.Store.counts_now mid (g.S.Store.disk mid).moment image (λ part. omega arith) left) c.in-Err-replay.ensures.passes c.in-Ok.ensures.durable
    (λ h tells stands.
    let at = number h tells stands in
    subst (λ n. KeepsAt (tagging keys) 1 (g.S.Store.disk old).cells (suc n) (g.S.Store.disk mid).cells) at (kept tells (subst (λ n. StandsAt (tagging keys) 1 (g.S.Store.disk old).cells n) (sym at) stands))))

pub returns-in-Err-replay-clause-begins_err : goal.returns-in-Err-replay-clause-begins_err
returns-in-Err-replay-clause-begins_err g c =
    let keys = c.args.keys.now in
    let p = c.args.p.now in
    let found = c.args.found in
    let old = c.args.store.now in
    let mid = c.begin.new.store in
    let new = c.replay.new.store in
    let kept : (g.S.Store.disk old).tells → StandsAt (tagging keys) 1 (g.S.Store.disk old).cells found.generation → KeepsAt (tagging keys) 1 (g.S.Store.disk old).cells (suc found.generation) (g.S.Store.disk mid).cells =
    λ tells stands. subst (λ (s : Sealing). KeepsAt (tagging s.keys) 1 (g.S.Store.disk old).cells (suc found.generation) (g.S.Store.disk mid).cells) c.new-known.ensures
    (c.in-Ok.ensures.stands tells (subst (λ (s : Sealing). StandsAt (tagging s.keys) 1 (g.S.Store.disk old).cells found.generation) (sym c.new-known.ensures) stands)) in
    let number : (h : ℕ) → (g.S.Store.disk old).tells → StandsAt (tagging keys) 1 (g.S.Store.disk old).cells h → found.generation ≡ h = λ h tells stands. generation_is keys p (g.S.Store.disk old).cells found h (c.requires.gates tells) stands in
    let begun = subst (λ (s : Sealing). (from : BeginsFrom g.S.Store.disk s.keys found.generation old mid) × IsBegun g.S.Store.disk s.keys found.generation old mid from) c.new-known.ensures c.in-Ok.ensures.leaves in
    inr (record {
      begins = begins_then g.S.Store.disk keys p (next_notes found) found.generation old mid new begun.0 begun.1 c.in-Ok.ensures.durable kept c.in-Ok.ensures.does.all.seen c.in-Err-replay.ensures.serves.goes c.in-Err-replay.ensures.keeps c.in-Err-replay.ensures.passes;
      opens = opens_then g.S.Store.disk keys p found old c.requires.gates mid new begun.0 begun.1 (g.met.S.Store.only_now mid) (λ image left. g.met.S.Store.counts_now mid (g.S.Store.disk mid).moment image (λ part. omega arith) left) c.in-Err-replay.ensures.passes c.in-Ok.ensures.durable
          (λ h tells stands.
          let at = number h tells stands in
          subst (λ n. KeepsAt (tagging keys) 1 (g.S.Store.disk old).cells (suc n) (g.S.Store.disk mid).cells) at (kept tells (subst (λ n. StandsAt (tagging keys) 1 (g.S.Store.disk old).cells n) (sym at) stands)));
      tape = record { present_is = c.start.ensures.in_force ∙ c.in-Ok.ensures.next.0; none_drawn = c.start.ensures.none_drawn };
      repeats = record {
        seen = (g.S.Store.disk mid).seen;
        shown = g.W.Watch.trace c.begin.new.watch;
        begun = c.in-Ok.ensures.does.all;
        repeats = c.in-Err-replay.ensures.does;
      };
    })

pub returns-in-Err-replay-clause-serves : goal.returns-in-Err-replay-clause-serves
returns-in-Err-replay-clause-serves g c =
    let old = g.S.Store.disk c.args.store.now in
    let mid = g.S.Store.disk c.begin.new.store in
    let new = g.S.Store.disk c.replay.new.store in
    let a = c.in-Ok.ensures.serves in
    serves_err IsStoreFault IsStoreFault old new c.in-Err-replay.fault c.in-Err-replay.fault (λ blamed. blamed)
    (serves_then IsStoreFault old mid new (Err c.in-Err-replay.fault) a.goes a.out a.tells c.in-Err-replay.ensures.serves)

pub returns-in-Err-replay-clause-stays : goal.returns-in-Err-replay-clause-stays
returns-in-Err-replay-clause-stays g c =
    repeat_stays c.args.found.generation (g.T.Tape.present c.start.new.self) c.args.store.now c.replay.new.store c.args.tape.now c.start.new.self c.args.watch.now c.replay.new.watch c.in-Err-replay.fault c.in-Err-replay.ensures.faults
    (c.start.ensures.in_force ∙ c.in-Ok.ensures.next.0)

pub returns-in-Err-replay-clause-does : goal.returns-in-Err-replay-clause-does
returns-in-Err-replay-clause-does g c = inr (record {
  seen = (g.S.Store.disk c.begin.new.store).seen;
  shown = g.W.Watch.trace c.begin.new.watch;
  begun = c.in-Ok.ensures.does.all;
  repeats = c.in-Err-replay.ensures.does;
})

-- ---- all went well

pub returns-clause-leaves : goal.returns-clause-leaves
returns-clause-leaves g c =
    let keys = c.args.keys.now in
    let p = c.args.p.now in
    let found = c.args.found in
    let old = c.args.store.now in
    let mid = c.begin.new.store in
    let new = c.replay.new.store in
    let kept : (g.S.Store.disk old).tells → StandsAt (tagging keys) 1 (g.S.Store.disk old).cells found.generation → KeepsAt (tagging keys) 1 (g.S.Store.disk old).cells (suc found.generation) (g.S.Store.disk mid).cells =
    λ tells stands. subst (λ (s : Sealing). KeepsAt (tagging s.keys) 1 (g.S.Store.disk old).cells (suc found.generation) (g.S.Store.disk mid).cells) c.new-known.ensures
    (c.in-Ok.ensures.stands tells (subst (λ (s : Sealing). StandsAt (tagging s.keys) 1 (g.S.Store.disk old).cells found.generation) (sym c.new-known.ensures) stands)) in
    let number : (h : ℕ) → (g.S.Store.disk old).tells → StandsAt (tagging keys) 1 (g.S.Store.disk old).cells h → found.generation ≡ h = λ h tells stands. generation_is keys p (g.S.Store.disk old).cells found h (c.requires.gates tells) stands in
    let begun = subst (λ (s : Sealing). (from : BeginsFrom g.S.Store.disk s.keys found.generation old mid) × IsBegun g.S.Store.disk s.keys found.generation old mid from) c.new-known.ensures c.in-Ok.ensures.leaves in
    (opens_then g.S.Store.disk keys p found old c.requires.gates mid new begun.0 begun.1 (g.met.S.Store.only_now mid) (λ image left. g.met.S.Store.counts_now mid (g.S.Store.disk mid).moment image (λ part. omega arith) left) c.in-Ok-replay.ensures.passes c.in-Ok.ensures.durable
    (λ h tells stands.
    let at = number h tells stands in
    subst (λ n. KeepsAt (tagging keys) 1 (g.S.Store.disk old).cells (suc n) (g.S.Store.disk mid).cells) at (kept tells (subst (λ n. StandsAt (tagging keys) 1 (g.S.Store.disk old).cells n) (sym at) stands))))

pub returns-clause-begins : goal.returns-clause-begins
returns-clause-begins g c =
    let keys = c.args.keys.now in
    let p = c.args.p.now in
    let found = c.args.found in
    let old = c.args.store.now in
    let mid = c.begin.new.store in
    let new = c.replay.new.store in
    let kept : (g.S.Store.disk old).tells → StandsAt (tagging keys) 1 (g.S.Store.disk old).cells found.generation → KeepsAt (tagging keys) 1 (g.S.Store.disk old).cells (suc found.generation) (g.S.Store.disk mid).cells =
    λ tells stands. subst (λ (s : Sealing). KeepsAt (tagging s.keys) 1 (g.S.Store.disk old).cells (suc found.generation) (g.S.Store.disk mid).cells) c.new-known.ensures
    (c.in-Ok.ensures.stands tells (subst (λ (s : Sealing). StandsAt (tagging s.keys) 1 (g.S.Store.disk old).cells found.generation) (sym c.new-known.ensures) stands)) in
    let begun = subst (λ (s : Sealing). (from : BeginsFrom g.S.Store.disk s.keys found.generation old mid) × IsBegun g.S.Store.disk s.keys found.generation old mid from) c.new-known.ensures c.in-Ok.ensures.leaves in
    begins_then g.S.Store.disk keys p (next_notes found) found.generation old mid new begun.0 begun.1 c.in-Ok.ensures.durable kept
    c.in-Ok.ensures.does.all.seen c.in-Ok-replay.ensures.serves.goes c.in-Ok-replay.ensures.keeps c.in-Ok-replay.ensures.passes

pub returns-clause-tape : goal.returns-clause-tape
returns-clause-tape g c = record { present_is = c.start.ensures.in_force ∙ c.in-Ok.ensures.next.0; none_drawn = c.start.ensures.none_drawn }

pub returns-clause-serves : goal.returns-clause-serves
returns-clause-serves g c =
    let old = g.S.Store.disk c.args.store.now in
    let mid = g.S.Store.disk c.begin.new.store in
    let new = g.S.Store.disk c.replay.new.store in
    let a = c.in-Ok.ensures.serves in
    let b = c.in-Ok-replay.ensures.serves in
    let first : mid.out ≤ old.out = a.out in
    let second : new.out ≤ mid.out = b.out in
    serves_ok IsStoreFault old new _ (goes_then old mid new a.goes b.goes) (omega (arith, first, second)) (λ tells. b.tells (a.tells tells))

pub returns-clause-is : goal.returns-clause-is
returns-clause-is g c =
    let replayed = c.in-Ok-replay.ensures.replayed in
    record {
      obeys = c.requires.obeys;
      params = refl;
      sealer = c.new-sealer.ensures ∙ ap (λ n. fresh_sealer c.args.keys.now n) c.in-Ok.ensures.next.0;
      gates = c.in-Ok.ensures.gates;
      epoch = refl;
      left = replayed.left_are;
      planner = planner_of c.args.p.now c.args.found c.in-Ok-replay.replayed.0 c.in-Ok-replay.replayed.1 c.requires.obeys replayed;
      joins = replayed.repeated.joins;
      fit = c.in-Ok-replay.ensures.fit;
    }

pub returns-clause-told : goal.returns-clause-told
returns-clause-told g c = λ tells.
    let keys = c.args.keys.now in
    let p = c.args.p.now in
    let found = c.args.found in
    let content = content_of found.tables in
    let old = (g.S.Store.disk c.args.store.now).cells in
    let mid = g.S.Store.disk c.begin.new.store in
    let new = g.S.Store.disk c.replay.new.store in
    let told = c.in-Ok.ensures.serves.tells tells in
    let keeps = c.in-Ok-replay.ensures.keeps in
    let rest : SameOutside 1 new.cells old = λ k off. keeps.cells told k ∙ c.begin.ensures.rest tells k off in
    let was = c.requires.gates tells in
    record {
      found_in = was;
      repeated = repeated_off keys p content mid.cells old c.in-Ok-replay.replayed.0.stash.rows found.records (c.begin.ensures.rest tells)
          (subst (λ (s : Sealing). IsReplayOf s.keys p mid.cells found (Ok c.in-Ok-replay.replayed)) c.new-sealer.ensures (c.in-Ok-replay.ensures.value told));
      rest = rest;
      settled = synced_on mid new (c.in-Ok.ensures.durable tells) c.in-Ok-replay.ensures.passes (keeps.cells told);
      generation_gates = gates_moved c.begin.new.gates.generation 1 new.cells mid.cells (λ k from to. keeps.cells told k) (c.in-Ok.ensures.known tells);
      epoch_gates = subst (λ (known : Open). GatesAre known 5 new.cells) (sym (ap (λ (x : Gates). x.epoch) c.in-Ok.ensures.gates)) (gates_moved found.gates.epoch 5 new.cells old (λ k from to. rest k (inr from)) was.epoch_gates);
    }

pub returns-clause-stood : goal.returns-clause-stood
returns-clause-stood g c = λ tells stands.
    let keys = c.args.keys.now in
    let p = c.args.p.now in
    let found = c.args.found in
    let old = c.args.store.now in
    let mid = c.begin.new.store in
    let new = c.replay.new.store in
    let kept : (g.S.Store.disk old).tells → StandsAt (tagging keys) 1 (g.S.Store.disk old).cells found.generation → KeepsAt (tagging keys) 1 (g.S.Store.disk old).cells (suc found.generation) (g.S.Store.disk mid).cells =
    λ tells stands. subst (λ (s : Sealing). KeepsAt (tagging s.keys) 1 (g.S.Store.disk old).cells (suc found.generation) (g.S.Store.disk mid).cells) c.new-known.ensures
    (c.in-Ok.ensures.stands tells (subst (λ (s : Sealing). StandsAt (tagging s.keys) 1 (g.S.Store.disk old).cells found.generation) (sym c.new-known.ensures) stands)) in
    let told = c.in-Ok.ensures.serves.tells tells in
    register_same keys (suc found.generation) (g.S.Store.disk mid).cells (g.S.Store.disk new).cells (c.in-Ok-replay.ensures.keeps.cells told) (kept tells stands).stands

pub returns-clause-does : goal.returns-clause-does
returns-clause-does g c = record {
  seen = (g.S.Store.disk c.begin.new.store).seen;
  shown = g.W.Watch.trace c.begin.new.watch;
  begun = c.in-Ok.ensures.does.all;
  repeats = c.in-Ok-replay.ensures.does;
}

pub returns-in-Err-clause-serves : goal.returns-in-Err-clause-serves
returns-in-Err-clause-serves g c = serves_err IsStoreFault IsStoreFault _ _ c.in-Err.fault c.in-Err.fault (λ f. f) c.in-Err.ensures.serves

-- ---- what each of them may begin with

pub begin-requires-clause-none_out : goal.begin-requires-clause-none_out
begin-requires-clause-none_out g c = c.requires.none_out

pub begin-requires-clause-told : goal.begin-requires-clause-told
begin-requires-clause-told g c = λ tells. (c.requires.gates tells).generation_gates

pub replay-requires-clause-found : goal.replay-requires-clause-found
replay-requires-clause-found g c κs within = c.requires.obeys

pub replay-requires-clause-jobs : goal.replay-requires-clause-jobs
replay-requires-clause-jobs g c κs within = (c.requires.rooms.planned, c.requires.rooms.placed)

pub replay-requires-clause-crew : goal.replay-requires-clause-crew
replay-requires-clause-crew g c κs within = subst (λ (m : Manned). most_jobs c.args.p.now ≤ m.jobs) (sym c.requires.rooms.crew) (omega arith)

pub returns-clause-lanes : goal.returns-clause-lanes
returns-clause-lanes g c = ap (λ (m : Manned). m.lanes) c.in-Ok-replay.ensures.crew

-- ---- in the clear

pub returns-in-Err-clause-clear : goal.returns-in-Err-clause-clear
returns-in-Err-clause-clear g c = λ tells.
    let new = g.S.Store.disk c.begin.new.store in
    subst (λ (s : Sealing). AreInClearBut (tagging s.keys) new.seen (g.S.Store.disk c.args.store.now).cells new.cells) c.new-known.ensures (c.in-Err.ensures.clear tells)

pub returns-in-Err-replay-clause-clear : goal.returns-in-Err-replay-clause-clear
returns-in-Err-replay-clause-clear g c = λ tells cell low.
    let tag = tagging c.args.keys.now in
    let old = (g.S.Store.disk c.args.store.now).cells in
    let mid = (g.S.Store.disk c.begin.new.store).cells in
    let new = (g.S.Store.disk c.replay.new.store).cells in
    let there = c.in-Err-replay.ensures.serves.goes.told tells in
    inl (both_clear tag old mid new (subst (λ (s : Sealing). AreInClear (tagging s.keys) old mid) c.new-known.ensures (c.in-Ok.ensures.clear there))
    (none_clear tag mid new (λ k here. c.in-Err-replay.ensures.keeps.cells there k)) cell low)

pub returns-clause-clear : goal.returns-clause-clear
returns-clause-clear g c = λ tells.
    let tag = tagging c.args.keys.now in
    let old = (g.S.Store.disk c.args.store.now).cells in
    let mid = (g.S.Store.disk c.begin.new.store).cells in
    let new = g.S.Store.disk c.replay.new.store in
    let there = c.in-Ok-replay.ensures.serves.goes.told tells in
    both_clear tag old mid new.cells (subst (λ (s : Sealing). AreInClear (tagging s.keys) old mid) c.new-known.ensures (c.in-Ok.ensures.clear there))
    (none_clear tag mid new.cells (λ cell low. c.in-Ok-replay.ensures.keeps.cells there cell))

-- ---- where it stopped

pub returns-in-Err-clause-stops : goal.returns-in-Err-clause-stops
returns-in-Err-clause-stops g c =
    let keys = c.args.keys.now in
    let found = c.args.found in
    let old = c.args.store.now in
    let new = c.begin.new.store in
    begin_stops keys c.args.rooms.crew.lanes c.args.p.now found g.S.Store.disk g.W.Watch.trace old new c.args.watch.now c.begin.new.watch c.in-Err.fault (λ told. (c.requires.gates told).generation_gates) c.requires.some
    c.in-Err.ensures.faults c.in-Err.ensures.untouched
    (subst (λ (s : Sealing). BeginStops s.keys found.gates.generation (suc found.generation) (g.S.Store.disk old) (g.S.Store.disk new) (g.W.Watch.trace c.args.watch.now) (g.W.Watch.trace c.begin.new.watch) (Err c.in-Err.fault)) c.new-known.ensures c.in-Err.ensures.stops)

pub returns-in-Err-replay-clause-stops : goal.returns-in-Err-replay-clause-stops
returns-in-Err-replay-clause-stops g c =
    let keys = c.args.keys.now in
    let found = c.args.found in
    let old = g.S.Store.disk c.args.store.now in
    let mid = g.S.Store.disk c.begin.new.store in
    repeat_stops keys c.args.rooms.crew.lanes c.args.p.now found old mid (g.S.Store.disk c.replay.new.store) (g.W.Watch.trace c.args.watch.now) (g.W.Watch.trace c.replay.new.watch) c.in-Err-replay.fault
    (record { seen = mid.seen; shown = g.W.Watch.trace c.begin.new.watch; begun = c.in-Ok.ensures.does.all; repeats = c.in-Err-replay.ensures.does })
    c.in-Ok.ensures.durable c.in-Err-replay.ensures.passes
    (subst (λ (s : Sealing). old.tells → IsSyncedLeft s.keys (suc found.generation) old.cells 0 mid.cells) c.new-known.ensures c.in-Ok.ensures.stops)

pub returns-clause-stops : goal.returns-clause-stops
returns-clause-stops g c = tt
