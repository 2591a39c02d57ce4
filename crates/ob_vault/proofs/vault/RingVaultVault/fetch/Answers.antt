use Rattle.std.proofs.Common.{◌+◌, ◌∙◌, ◌%◌, false, suc, ◌≡◌, ◌<◌, ◌≤◌, ◌^◌, inl, ap, arith, length, replicate, sym, subst}
use Rattle.ob_base.specs.Layout.{log_cell, record_cells}
use Rattle.ob_base.specs.declared.params.Params.{Params}
use Rattle.ob_base.specs.Planned.{most_jobs}
use Rattle.ob_base.specs.Tree.{buckets}
use Rattle.ob_cells.specs.Jobs.{Manned}
use Rattle.ob_fetch.specs.declared.run.Run.{Run}
use Rattle.ob_fetch.specs.Fetches.{MayGoOn, next_batch, record_next, words_since}
use Rattle.ob_recover.specs.Fits.{IsPlannerFit}
use Rattle.ob_ring.proofs.PlanLaws.{seals_none}
use Rattle.ob_twin.specs.Opening.{GatesAre}
use Rattle.ob_twin.specs.declared.gates.Gates.{Gates}
use Rattle.ob_vault.specs.declared.known.Known.{Known}
use Rattle.ob_vault.specs.RingVaults.{running}
use Rattle.ob_vault.proofs.Callings.{fetch_called, fetch_moments, fetch_registers, fetch_stood, fetch_undamaged, first_of, open_first}
use Rattle.ob_vault.proofs.Holding.{alike_kept, fetch_answered, fetch_counts, fetch_faults, fetch_holds, fetch_images, fetch_sound, lent_leaves, s, serves, lent_goes}
use Rattle.ob_vault.proofs.Lending.{fetch_grows, fetch_ready, fetch_told, fetch_went, may_go_on}
use Rattle.ob_vault.proofs.Ready.{ready_of}
use Rattle.ob_vault.proofs.vault.RingVaultVault.fetch.Goals as goal

pub returns-clause-answered : goal.returns-clause-answered
returns-clause-answered g c = λ v holds.
    let run = c.args.self.now.run in
    let old = g.S.Store.disk c.args.self.now.lent.store.now in
    let new = g.S.Store.disk c.fetch-result.new.store in
    let asks = c.args.asks.now in
    let words = words_since (g.T.Tape.drawn c.args.self.now.lent.tape.now) (g.T.Tape.drawn c.fetch-result.new.tape) in
    let r = record_next run asks words in
    fetch_answered run old v holds c.requires.serves r asks c.fetch-result.new.run new c.fetch-result.new.out c.fetch-result.result (c.fetch-result.ensures.standing.stands (s run old v holds c.requires.serves) (serves run old v holds c.requires.serves).at)

pub returns-clause-holds : goal.returns-clause-holds
returns-clause-holds g c = λ v holds.
    let run = c.args.self.now.run in
    let old = g.S.Store.disk c.args.self.now.lent.store.now in
    let new = g.S.Store.disk c.fetch-result.new.store in
    let asks = c.args.asks.now in
    let words = words_since (g.T.Tape.drawn c.args.self.now.lent.tape.now) (g.T.Tape.drawn c.fetch-result.new.tape) in
    let r = record_next run asks words in
    let params = ap (λ (x : Run). x.params) c.fetch-result.ensures.keeps.kept in
    let epoch = ap (λ (x : Run). x.epoch) c.fetch-result.ensures.keeps.kept in
    let stands = c.fetch-result.ensures.standing.stands (s run old v holds c.requires.serves) (serves run old v holds c.requires.serves).at in
    fetch_holds run old v holds c.requires.serves r asks c.fetch-result.new.run new c.fetch-result.new.out params epoch c.args.out.now c.fetch-result.result c.fetch-result.ensures.counts.served c.fetch-result.ensures.counts.refused stands

pub returns-clause-sound : goal.returns-clause-sound
returns-clause-sound g c = λ v sound.
    let run = c.args.self.now.run in
    let old = g.S.Store.disk c.args.self.now.lent.store.now in
    let new = g.S.Store.disk c.fetch-result.new.store in
    let asks = c.args.asks.now in
    let words = words_since (g.T.Tape.drawn c.args.self.now.lent.tape.now) (g.T.Tape.drawn c.fetch-result.new.tape) in
    let r = record_next run asks words in
    let holds = sound.holds in
    let params = ap (λ (x : Run). x.params) c.fetch-result.ensures.keeps.kept in
    let epoch = ap (λ (x : Run). x.epoch) c.fetch-result.ensures.keeps.kept in
    let at = (serves run old v holds c.requires.serves).at in
    let stands = c.fetch-result.ensures.standing.stands (s run old v holds c.requires.serves) at in
    let some = c.fetch-result.ensures.seals.some in
    fetch_sound run old v holds c.requires.serves r asks c.fetch-result.new.run new c.fetch-result.new.out params epoch some.keys some.generation
    (g.met.S.Store.counts_now c.fetch-result.new.store) (c.fetch-result.ensures.standing.images (s run old v holds c.requires.serves) at) c.fetch-result.result
    (fetch_holds run old v holds c.requires.serves r asks c.fetch-result.new.run new c.fetch-result.new.out params epoch c.args.out.now c.fetch-result.result c.fetch-result.ensures.counts.served c.fetch-result.ensures.counts.refused stands)

pub returns-clause-images : goal.returns-clause-images
returns-clause-images g c = λ v sound.
    let run = c.args.self.now.run in
    let old = g.S.Store.disk c.args.self.now.lent.store.now in
    let new = g.S.Store.disk c.fetch-result.new.store in
    let asks = c.args.asks.now in
    let words = words_since (g.T.Tape.drawn c.args.self.now.lent.tape.now) (g.T.Tape.drawn c.fetch-result.new.tape) in
    let r = record_next run asks words in
    let holds = sound.holds in
    lent_leaves _ _ _ _ old new _ (fetch_images run old v holds c.requires.serves r asks new (c.fetch-result.ensures.standing.images (s run old v holds c.requires.serves) (serves run old v holds c.requires.serves).at))

pub returns-clause-alike : goal.returns-clause-alike
returns-clause-alike g c =
    let some = c.fetch-result.ensures.seals.some in
    alike_kept c.args.self.now.run c.fetch-result.new.run some.keys (ap (λ (x : Run). x.params) c.fetch-result.ensures.keeps.kept) some.generation

pub returns-clause-called : goal.returns-clause-called
returns-clause-called g c =
    let run = c.args.self.now.run in
    let old = g.S.Store.disk c.args.self.now.lent.store.now in
    let new = g.S.Store.disk c.fetch-result.new.store in
    let asks = c.args.asks.now in
    let words = words_since (g.T.Tape.drawn c.args.self.now.lent.tape.now) (g.T.Tape.drawn c.fetch-result.new.tape) in
    let r = record_next run asks words in
    let serving = ap (λ (k : Known). k.spent) c.args.self.now.known ∙ c.requires.serves in
    let some = c.fetch-result.ensures.seals.some in
    let told = c.fetch-result.ensures.scheduled in (
      told.0,
      told.1,
      fetch_called g.S.Store.disk (running c.args.self.now.lent.store.now (g.T.Tape.present c.args.self.now.lent.tape.now) (g.T.Tape.drawn c.args.self.now.lent.tape.now) c.args.self.now.crew.lanes run)
          (running c.fetch-result.new.store (g.T.Tape.present c.fetch-result.new.tape) (g.T.Tape.drawn c.fetch-result.new.tape) c.fetch-result.new.crew.lanes c.fetch-result.new.run) told.0 asks c.fetch-result.new.out c.fetch-result.result
          (record {
            run = record {
              params = ap (λ (x : Run). x.params) c.fetch-result.ensures.keeps.kept;
              lanes = ap (λ (m : Manned). m.lanes) c.fetch-result.ensures.crew;
              keys = some.keys;
              generation = some.generation;
              on = some.on;
              was_present = c.args.self.now.lent.present serving ∙ ap (λ (k : Known). k.generation) c.args.self.now.known;
              present = c.fetch-result.ensures.generation;
              was_drawn = sym (ap (λ (k : Known). k.drawn) c.args.self.now.known) ∙ c.args.self.now.lent.drawn serving;
              drawn = c.fetch-result.ensures.drawn;
              grows = fetch_grows run.params.places (g.T.Tape.drawn c.args.self.now.lent.tape.now) (g.T.Tape.drawn c.fetch-result.new.tape) c.fetch-result.result c.fetch-result.ensures.draws;
              goes = c.fetch-result.ensures.serves.goes;
              moments = fetch_moments run.params (suc run.epoch % 2) (next_batch run) old new c.fetch-result.ensures.within;
            };
            tells = c.fetch-result.ensures.serves.tells;
            some_left = c.requires.some_left;
            whole = c.requires.whole;
            epoch = ap (λ (x : Run). x.epoch) c.fetch-result.ensures.keeps.kept;
            gates = ap (λ (x : Run). x.gates) c.fetch-result.ensures.keeps.kept;
            left = first_of (c.fetch-result.new.run.left + 1 ≡ run.left) (c.fetch-result.new.run.spent ≡ false) c.fetch-result.result c.fetch-result.ensures.counts.served;
            refusal = c.fetch-result.ensures.faults;
            worn = c.fetch-result.ensures.wears.worn;
            idle = λ out. (c.fetch-result.ensures.wears.idle out).0;
            answers = c.fetch-result.ensures.value;
            undamaged = λ s at. fetch_undamaged s r asks new c.fetch-result.new.run c.fetch-result.new.out c.fetch-result.result (c.fetch-result.ensures.standing.stands s at);
            sealed = c.fetch-result.ensures.sealed;
            registers = fetch_registers run.params (suc run.epoch % 2) (next_batch run) old new c.fetch-result.ensures.within;
            first = λ tells cell low. (c.fetch-result.ensures.within.passes.told tells).1 cell (inl (omega (arith, low)));
            draws = c.fetch-result.ensures.draws;
            seals = c.fetch-result.ensures.seals;
            scheduled = told.3;
            shown = told.2;
            onward = c.fetch-result.ensures.onward;
            logged = λ t stands. open_first g.S.Store.disk _ _ _ _ r _ _ _ _ _ _ c.fetch-result.result (c.fetch-result.ensures.does run.ring.metas t (seals_none run.ring.metas) stands);
            moves = c.fetch-result.ensures.moves;
            stands = λ s at. fetch_stood s r asks new c.fetch-result.new.run c.fetch-result.new.out c.fetch-result.result (c.fetch-result.ensures.standing.stands s at);
            images = c.fetch-result.ensures.standing.images;
            stages = c.fetch-result.ensures.standing.stages;
          }),
    )

pub invariant_of-self-clause-small : goal.invariant_of-self-clause-small
invariant_of-self-clause-small g c = subst (λ n. n < 2 ^ 62) (sym (ap (λ (x : Run). x.epoch) c.fetch-result.ensures.keeps.kept)) c.args.self.now.small

pub invariant_of-self-clause-generation : goal.invariant_of-self-clause-generation
invariant_of-self-clause-generation g c = subst (λ n. n < 2 ^ 62) (sym c.fetch-result.ensures.seals.some.generation) c.args.self.now.generation

pub invariant_of-self-clause-manned : goal.invariant_of-self-clause-manned
invariant_of-self-clause-manned g c =
    subst (λ (m : Manned). most_jobs c.fetch-result.new.run.params ≤ m.jobs) (sym c.fetch-result.ensures.crew)
    (subst (λ (q : Params). most_jobs q ≤ c.args.self.now.crew.jobs) (sym (ap (λ (x : Run). x.params) c.fetch-result.ensures.keeps.kept)) c.args.self.now.manned)

pub invariant_of-self-clause-counted : goal.invariant_of-self-clause-counted
invariant_of-self-clause-counted g c = subst (λ (q : Params). c.args.self.now.index ≡ replicate (buckets q) 0) (sym (ap (λ (x : Run). x.params) c.fetch-result.ensures.keeps.kept)) c.args.self.now.counted

pub invariant_of-self-clause-ready : goal.invariant_of-self-clause-ready
invariant_of-self-clause-ready g c = λ serves.
    let run = c.args.self.now.run in
    let new = c.fetch-result.new.run in
    let e = c.fetch-result.ensures in
    let was = ready_of run (c.args.self.now.ready c.requires.serves) in
    let after : Type 0 = MayGoOn (g.S.Store.disk c.fetch-result.new.store) (g.T.Tape.present c.fetch-result.new.tape) (g.T.Tape.drawn c.fetch-result.new.tape) c.fetch-result.new.crew new in
    let left : Type 0 = new.left ≡ run.left in
    let same : Type 0 = c.fetch-result.new.out ≡ c.args.out.now in
    let went = fetch_went left same after new.spent c.fetch-result.result e.goes_on e.counts.refused serves in
    fetch_ready run new e.keeps.kept was went.ready e.keeps.words (fetch_went left same (IsPlannerFit new.ring) new.spent c.fetch-result.result (e.keeps.fit was.planner) e.counts.refused serves)

pub returns-clause-goes : goal.returns-clause-goes
returns-clause-goes g c = lent_goes _ _ _ _ c.fetch-result.ensures.serves.goes

pub returns-clause-cause : goal.returns-clause-cause
returns-clause-cause g c = c.fetch-result.ensures.serves.cause

-- ---- the conditions of the call

pub fetch-result-requires-clause-goes_on : goal.fetch-result-requires-clause-goes_on
fetch-result-requires-clause-goes_on g c κs within =
    let me = c.args.self.now in
    may_go_on (g.S.Store.disk me.lent.store.now) (g.T.Tape.present me.lent.tape.now) (g.T.Tape.drawn me.lent.tape.now) me.crew me.run me.lent.known me.known me.lent.none_out (ready_of me.run (me.ready c.requires.serves)) c.requires.serves
    me.manned me.lent.present me.lent.drawn me.lent.small

-- ---- what is known of the store and of the tape

pub invariant_of-lent-clause-told : goal.invariant_of-lent-clause-told
invariant_of-lent-clause-told g c =
    let run = c.args.self.now.run in
    let old = g.S.Store.disk c.args.self.now.lent.store.now in
    let new = g.S.Store.disk c.fetch-result.new.store in
    let serving = ap (λ (k : Known). k.spent) c.args.self.now.known ∙ c.requires.serves in
    let gates : c.fetch-result.new.run.gates ≡ c.args.self.now.lent.known.gates = ap (λ (x : Run). x.gates) c.fetch-result.ensures.keeps.kept ∙ sym (ap (λ (k : Known). k.gates) c.args.self.now.known) in
    subst (λ (k : Known). k.spent ≡ false → new.tells → GatesAre k.gates.epoch 5 new.cells) (sym c.knows-lent.ensures)
    (λ serves. subst (λ (gs : Gates). new.tells → GatesAre gs.epoch 5 new.cells) (sym gates)
    (fetch_told c.args.self.now.lent.known.gates (log_cell run.params (suc run.epoch % 2) (next_batch run) 0) (record_cells run.params + 1) old new (omega arith) c.fetch-result.ensures.within c.fetch-result.ensures.serves.goes.told (c.args.self.now.lent.told serving)))

pub invariant_of-lent-clause-present : goal.invariant_of-lent-clause-present
invariant_of-lent-clause-present g c =
    let serving = ap (λ (k : Known). k.spent) c.args.self.now.known ∙ c.requires.serves in
    subst (λ (k : Known). k.spent ≡ false → g.T.Tape.present c.fetch-result.new.tape ≡ k.generation) (sym c.knows-lent.ensures)
    (λ serves. c.fetch-result.ensures.generation ∙ c.args.self.now.lent.present serving ∙ ap (λ (k : Known). k.generation) c.args.self.now.known ∙ sym c.fetch-result.ensures.seals.some.generation)

pub invariant_of-lent-clause-drawn : goal.invariant_of-lent-clause-drawn
invariant_of-lent-clause-drawn g c =
    subst (λ (k : Known). k.spent ≡ false → k.drawn ≡ length (g.T.Tape.drawn c.fetch-result.new.tape)) (sym c.knows-lent.ensures) (λ serves. c.fetch-result.ensures.drawn)

pub invariant_of-lent-clause-small : goal.invariant_of-lent-clause-small
invariant_of-lent-clause-small g c =
    let run = c.args.self.now.run in
    let new = c.fetch-result.new.run in
    subst (λ (k : Known). k.spent ≡ false → k.drawn ≤ 2 ^ 62) (sym c.knows-lent.ensures)
    (λ serves. (fetch_went (new.left ≡ run.left) (c.fetch-result.new.out ≡ c.args.out.now)
    (MayGoOn (g.S.Store.disk c.fetch-result.new.store) (g.T.Tape.present c.fetch-result.new.tape) (g.T.Tape.drawn c.fetch-result.new.tape) c.fetch-result.new.crew c.fetch-result.new.run) new.spent c.fetch-result.result c.fetch-result.ensures.goes_on c.fetch-result.ensures.counts.refused serves).few)

pub invariant_of-self-clause-known : goal.invariant_of-self-clause-known
invariant_of-self-clause-known g c = c.knows-lent.ensures

-- ---- what is counted, and how it is refused

pub returns-clause-counts : goal.returns-clause-counts
returns-clause-counts g c =
    let run = c.args.self.now.run in
    let new = c.fetch-result.new.run in
    fetch_counts (c.fetch-result.new.out ≡ c.args.out.now) run new c.args.asks.now c.fetch-result.new.out c.fetch-result.result (ap (λ (x : Run). x.epoch) c.fetch-result.ensures.keeps.kept) c.requires.serves c.fetch-result.ensures.counts.served c.fetch-result.ensures.counts.refused

pub returns-clause-faults : goal.returns-clause-faults
returns-clause-faults g c = fetch_faults c.fetch-result.result c.fetch-result.ensures.faults

pub returns-clause-params : goal.returns-clause-params
returns-clause-params g c = ap (λ (x : Run). x.params) c.fetch-result.ensures.keeps.kept
