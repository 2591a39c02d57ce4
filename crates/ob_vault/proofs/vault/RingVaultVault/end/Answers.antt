use Rattle.std.proofs.Common.{suc, ◌≡◌, ◌<◌, ◌≤◌, ◌^◌, true, false, length, replicate, take, ap, sym, ◌∙◌, subst}
use Rattle.ob_base.specs.declared.params.Params.{Params}
use Rattle.ob_base.specs.declared.value.Write.{Write}
use Rattle.ob_base.specs.Planned.{most_jobs}
use Rattle.ob_base.specs.Tree.{buckets}
use Rattle.ob_cells.specs.Jobs.{Manned}
use Rattle.ob_end.specs.EndRuns.{IsEndReady, end_writes}
use Rattle.ob_fetch.specs.Fetches.{MayGoOn, words_since}
use Rattle.ob_ring.specs.Writing.{write_at}
use Rattle.ob_serial.specs.VaultViews.{writes_of}
use Rattle.ob_twin.specs.Opening.{GatesAre}
use Rattle.ob_vault.specs.declared.known.Known.{Known}
use Rattle.ob_vault.specs.RingVaults.{running}
use Rattle.ob_vault.proofs.Callings.{end_called, first_of_three, second_of_three}
use Rattle.ob_vault.proofs.Holding.{alike_kept, end_counts, end_holds, end_images, end_sound, lent_leaves, s, serves, lent_goes}
use Rattle.ob_vault.proofs.Lending.{end_grows, end_small, end_went, may_go_on}
use Rattle.ob_vault.proofs.Ready.{ready_of}
use Rattle.ob_vault.proofs.Written.{at_all, short_at, writes_plain}
use Rattle.ob_vault.proofs.vault.RingVaultVault.end.Goals as goal

pub returns-clause-holds : goal.returns-clause-holds
returns-clause-holds g c = λ v holds.
    let run = c.args.self.now.run in
    let old = g.S.Store.disk c.args.self.now.lent.store.now in
    let new = g.S.Store.disk c.end-result.new.store in
    let writes = c.args.writes.now in
    let words = words_since (g.T.Tape.drawn c.args.self.now.lent.tape.now) (g.T.Tape.drawn c.end-result.new.tape) in
    let ws = end_writes run.params writes words run.sealer.generation run.drawn in
    let plain = writes_plain run.params writes (take run.params.writes words) (run.sealer.generation, run.drawn) in
    end_holds run old v holds c.requires.serves ws (writes_of writes) plain c.end-result.new.run new c.end-result.ensures.params c.end-result.result c.end-result.ensures.counts.served c.end-result.ensures.counts.refused
    (c.end-result.ensures.stands (s run old v holds c.requires.serves) (serves run old v holds c.requires.serves).at)

pub returns-clause-sound : goal.returns-clause-sound
returns-clause-sound g c = λ v sound.
    let run = c.args.self.now.run in
    let old = g.S.Store.disk c.args.self.now.lent.store.now in
    let new = g.S.Store.disk c.end-result.new.store in
    let writes = c.args.writes.now in
    let words = words_since (g.T.Tape.drawn c.args.self.now.lent.tape.now) (g.T.Tape.drawn c.end-result.new.tape) in
    let ws = end_writes run.params writes words run.sealer.generation run.drawn in
    let plain = writes_plain run.params writes (take run.params.writes words) (run.sealer.generation, run.drawn) in
    let kept = ready_of run (c.args.self.now.ready c.requires.serves) in
    let some = (c.end-result.ensures.seals kept.planner.table kept.planner.stands).some in
    let holds = sound.holds in
    let at = (serves run old v holds c.requires.serves).at in
    let stands = c.end-result.ensures.stands (s run old v holds c.requires.serves) at in
    end_sound run old v holds c.requires.serves ws (writes_of writes) plain c.end-result.new.run new c.end-result.ensures.params some.keys some.generation (g.met.S.Store.counts_now c.end-result.new.store) c.end-result.result stands
    (c.end-result.ensures.images (s run old v holds c.requires.serves) at).leaves
    (end_holds run old v holds c.requires.serves ws (writes_of writes) plain c.end-result.new.run new c.end-result.ensures.params c.end-result.result c.end-result.ensures.counts.served c.end-result.ensures.counts.refused stands)

pub returns-clause-images : goal.returns-clause-images
returns-clause-images g c = λ v sound.
    let run = c.args.self.now.run in
    let old = g.S.Store.disk c.args.self.now.lent.store.now in
    let new = g.S.Store.disk c.end-result.new.store in
    let writes = c.args.writes.now in
    let words = words_since (g.T.Tape.drawn c.args.self.now.lent.tape.now) (g.T.Tape.drawn c.end-result.new.tape) in
    let ws = end_writes run.params writes words run.sealer.generation run.drawn in
    let plain = writes_plain run.params writes (take run.params.writes words) (run.sealer.generation, run.drawn) in
    let holds = sound.holds in
    lent_leaves _ _ _ _ old new _ (end_images run old v holds c.requires.serves ws (writes_of writes) plain c.end-result.new.run new c.end-result.result (c.end-result.ensures.images (s run old v holds c.requires.serves) (serves run old v holds c.requires.serves).at).leaves)

pub returns-clause-alike : goal.returns-clause-alike
returns-clause-alike g c =
    let run = c.args.self.now.run in
    let kept = ready_of run (c.args.self.now.ready c.requires.serves) in
    let some = (c.end-result.ensures.seals kept.planner.table kept.planner.stands).some in
    alike_kept run c.end-result.new.run some.keys c.end-result.ensures.params some.generation

pub returns-clause-called : goal.returns-clause-called
returns-clause-called g c =
    let run = c.args.self.now.run in
    let old = g.S.Store.disk c.args.self.now.lent.store.now in
    let new = g.S.Store.disk c.end-result.new.store in
    let writes = c.args.writes.now in
    let words = words_since (g.T.Tape.drawn c.args.self.now.lent.tape.now) (g.T.Tape.drawn c.end-result.new.tape) in
    let ws = end_writes run.params writes words run.sealer.generation run.drawn in
    let plain = writes_plain run.params writes (take run.params.writes words) (run.sealer.generation, run.drawn) in
    let kept = ready_of run (c.args.self.now.ready c.requires.serves) in
    let serving = ap (λ (k : Known). k.spent) c.args.self.now.known ∙ c.requires.serves in
    let some = (c.end-result.ensures.seals kept.planner.table kept.planner.stands).some in
    let told = c.end-result.ensures.scheduled in (
      told.0,
      told.1,
      end_called g.S.Store.disk (running c.args.self.now.lent.store.now (g.T.Tape.present c.args.self.now.lent.tape.now) (g.T.Tape.drawn c.args.self.now.lent.tape.now) c.args.self.now.crew.lanes run)
          (running c.end-result.new.store (g.T.Tape.present c.end-result.new.tape) (g.T.Tape.drawn c.end-result.new.tape) c.end-result.new.crew.lanes c.end-result.new.run) told.0 writes c.end-result.result
          (record {
            run = record {
              params = c.end-result.ensures.params;
              lanes = ap (λ (m : Manned). m.lanes) c.end-result.ensures.crew;
              keys = some.keys;
              generation = some.generation;
              on = some.on;
              was_present = c.args.self.now.lent.present serving ∙ ap (λ (k : Known). k.generation) c.args.self.now.known;
              present = c.end-result.ensures.generation;
              was_drawn = sym (ap (λ (k : Known). k.drawn) c.args.self.now.known) ∙ c.args.self.now.lent.drawn serving;
              drawn = c.end-result.ensures.drawn;
              grows = end_grows run.params kept.planner.table run.epoch run.drawn (g.T.Tape.drawn c.args.self.now.lent.tape.now) (g.T.Tape.drawn c.end-result.new.tape) c.end-result.result (c.end-result.ensures.draws kept.planner.table kept.planner.stands);
              goes = c.end-result.ensures.serves.goes;
              moments = c.end-result.ensures.moments;
            };
            tells = c.end-result.ensures.serves.tells;
            none_left = c.requires.none_left;
            few = c.requires.few;
            epoch = first_of_three (c.end-result.new.run.epoch ≡ suc run.epoch) (c.end-result.new.run.left ≡ run.params.batches) (c.end-result.new.run.spent ≡ false) c.end-result.result c.end-result.ensures.counts.served;
            left = second_of_three (c.end-result.new.run.epoch ≡ suc run.epoch) (c.end-result.new.run.left ≡ run.params.batches) (c.end-result.new.run.spent ≡ false) c.end-result.result c.end-result.ensures.counts.served;
            gates = c.end-result.ensures.gates;
            knows = c.end-result.ensures.told;
            refusal = c.end-result.ensures.faults;
            answers = c.end-result.ensures.answered.answers;
            damage = c.end-result.ensures.answered.damage;
            undamaged = c.end-result.ensures.answered.undamaged;
            sealed = c.end-result.ensures.sealed;
            clear = λ tells. (c.end-result.ensures.act tells).clear;
            draws = c.end-result.ensures.draws;
            seals = c.end-result.ensures.seals;
            scheduled = λ content rs from. (told.2 content rs from).0;
            stops = λ content rs from. (told.2 content rs from).1;
            onward = c.end-result.ensures.onward;
            table = c.end-result.ensures.tables.table;
            entries = c.end-result.ensures.tables.entries;
            filled = c.end-result.ensures.tables.filled;
            content = c.end-result.ensures.tables.content;
            stands = c.end-result.ensures.stands;
            images = λ s at. (c.end-result.ensures.images s at).leaves;
            stages = λ s at. (c.end-result.ensures.images s at).stages;
            spans = λ s at. (c.end-result.ensures.images s at).spans;
          }),
    )

pub end-result-requires-clause-goes_on : goal.end-result-requires-clause-goes_on
end-result-requires-clause-goes_on g c κs within =
    let me = c.args.self.now in
    may_go_on (g.S.Store.disk me.lent.store.now) (g.T.Tape.present me.lent.tape.now) (g.T.Tape.drawn me.lent.tape.now) me.crew me.run me.lent.known me.known me.lent.none_out (ready_of me.run (me.ready c.requires.serves)) c.requires.serves
    me.manned me.lent.present me.lent.drawn me.lent.small

pub end-result-requires-clause-index : goal.end-result-requires-clause-index
end-result-requires-clause-index g c κs within = c.args.self.now.counted

pub end-result-requires-clause-ready : goal.end-result-requires-clause-ready
end-result-requires-clause-ready g c κs within = ready_of c.args.self.now.run (c.args.self.now.ready c.requires.serves)

pub end-result-requires-clause-keys : goal.end-result-requires-clause-keys
end-result-requires-clause-keys g c κs within = at_all (λ (w : Write). w.key < c.args.self.now.run.params.keys) c.args.writes.now c.requires.keys

pub end-result-requires-clause-short : goal.end-result-requires-clause-short
end-result-requires-clause-short g c κs within = λ i value low is. short_at (write_at c.args.writes.now i) value (c.measure_all.ensures i low) is

pub invariant_of-lent-clause-told : goal.invariant_of-lent-clause-told
invariant_of-lent-clause-told g c =
    let new = g.S.Store.disk c.end-result.new.store in
    let then = c.end-result.new.run in
    let e = c.end-result.ensures in
    subst (λ (k : Known). k.spent ≡ false → new.tells → GatesAre k.gates.epoch 5 new.cells) (sym c.knows-lent.ensures)
    (λ serves tells. end_went _ _ (GatesAre then.gates.epoch 5 new.cells) then.spent c.end-result.result (e.told (e.serves.goes.told tells)) e.counts.refused serves)

pub invariant_of-lent-clause-present : goal.invariant_of-lent-clause-present
invariant_of-lent-clause-present g c =
    let run = c.args.self.now.run in
    let kept = ready_of run (c.args.self.now.ready c.requires.serves) in
    let serving = ap (λ (k : Known). k.spent) c.args.self.now.known ∙ c.requires.serves in
    let some = (c.end-result.ensures.seals kept.planner.table kept.planner.stands).some in
    subst (λ (k : Known). k.spent ≡ false → g.T.Tape.present c.end-result.new.tape ≡ k.generation) (sym c.knows-lent.ensures)
    (λ serves. c.end-result.ensures.generation ∙ c.args.self.now.lent.present serving ∙ ap (λ (k : Known). k.generation) c.args.self.now.known ∙ sym some.generation)

pub invariant_of-lent-clause-drawn : goal.invariant_of-lent-clause-drawn
invariant_of-lent-clause-drawn g c =
    subst (λ (k : Known). k.spent ≡ false → k.drawn ≡ length (g.T.Tape.drawn c.end-result.new.tape)) (sym c.knows-lent.ensures) (λ serves. c.end-result.ensures.drawn)

pub invariant_of-lent-clause-small : goal.invariant_of-lent-clause-small
invariant_of-lent-clause-small g c =
    let new = c.end-result.new.run in
    subst (λ (k : Known). k.spent ≡ false → k.drawn ≤ 2 ^ 62) (sym c.knows-lent.ensures)
    (λ serves. (end_went _ _ (MayGoOn (g.S.Store.disk c.end-result.new.store) (g.T.Tape.present c.end-result.new.tape) (g.T.Tape.drawn c.end-result.new.tape) c.end-result.new.crew c.end-result.new.run) new.spent
    c.end-result.result c.end-result.ensures.goes_on c.end-result.ensures.counts.refused serves).few)

pub invariant_of-self-clause-small : goal.invariant_of-self-clause-small
invariant_of-self-clause-small g c = end_small (c.end-result.new.run.left ≡ c.args.self.now.run.left) (c.end-result.new.run.spent ≡ true) c.args.self.now.run c.end-result.new.run c.end-result.result c.args.self.now.small c.end-result.ensures.ready c.end-result.ensures.counts.refused

pub invariant_of-self-clause-generation : goal.invariant_of-self-clause-generation
invariant_of-self-clause-generation g c =
    let run = c.args.self.now.run in
    let kept = ready_of run (c.args.self.now.ready c.requires.serves) in
    let serving = ap (λ (k : Known). k.spent) c.args.self.now.known ∙ c.requires.serves in
    let some = (c.end-result.ensures.seals kept.planner.table kept.planner.stands).some in
    subst (λ n. n < 2 ^ 62) (sym some.generation) c.args.self.now.generation

pub invariant_of-self-clause-manned : goal.invariant_of-self-clause-manned
invariant_of-self-clause-manned g c =
    subst (λ (m : Manned). most_jobs c.end-result.new.run.params ≤ m.jobs) (sym c.end-result.ensures.crew)
    (subst (λ (q : Params). most_jobs q ≤ c.args.self.now.crew.jobs) (sym c.end-result.ensures.params) c.args.self.now.manned)

pub invariant_of-self-clause-counted : goal.invariant_of-self-clause-counted
invariant_of-self-clause-counted g c =
    c.end-result.ensures.index ∙ subst (λ (q : Params). c.args.self.now.index ≡ replicate (buckets q) 0) (sym c.end-result.ensures.params) c.args.self.now.counted

pub invariant_of-self-clause-ready : goal.invariant_of-self-clause-ready
invariant_of-self-clause-ready g c = λ serves. ∣ end_went _ _ (IsEndReady c.end-result.new.run) c.end-result.new.run.spent c.end-result.result c.end-result.ensures.ready c.end-result.ensures.counts.refused serves ∣₁

pub returns-clause-goes : goal.returns-clause-goes
returns-clause-goes g c = lent_goes _ _ _ _ c.end-result.ensures.serves.goes

pub returns-clause-cause : goal.returns-clause-cause
returns-clause-cause g c = c.end-result.ensures.serves.cause

-- ---- what is counted, and how it is refused

pub returns-clause-counts : goal.returns-clause-counts
returns-clause-counts g c = end_counts c.args.self.now.run c.end-result.new.run (writes_of c.args.writes.now) c.end-result.result c.requires.serves c.end-result.ensures.counts.served c.end-result.ensures.counts.refused

pub returns-clause-faults : goal.returns-clause-faults
returns-clause-faults g c = c.end-result.ensures.faults
