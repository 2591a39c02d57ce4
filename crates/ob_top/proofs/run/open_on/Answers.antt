use Rattle.std.proofs.Common.{inl, inr, arith, refl}
use Rattle.ob_vault.proofs.Opening.{ring_leaves_standing, ring_opens_standing}
use Rattle.ob_vault.specs.RingLaws.{found_ring}
use Rattle.ob_store.specs.Disk.{Disk}
use Rattle.ob_store.proofs.Events.{none_noted}
use Rattle.ob_store.proofs.Keeping.{same_none}
use Rattle.ob_store.proofs.Serving.{goes_same}
use Rattle.ob_store.proofs.Showing.{shows_none}
use Rattle.ob_top.proofs.Beginnings.{begun, may_go_on, may_serve, unopened}
use Rattle.ob_top.proofs.Behind.{begun_here, keeps_none, opens_here, staged_here, unopened_here}
use Rattle.ob_top.proofs.Staging.{opens_in_stages}
use Rattle.ob_top.proofs.Living.{read_lives, refused_lives, read_opened}
use Rattle.ob_top.proofs.run.open_on.Goals as goal

-- ---- the input or the shares were refused

pub returns-in-Err-clause-refused : goal.returns-in-Err-clause-refused
returns-in-Err-clause-refused g c =
    let none : Disk = g.S.Store.disk c.args.store.now in (
      λ first before h. record {
        early = inr (inl (record { p = c.args.params; head = h.head; refused = inl c.in-Err.ensures.refused; keeps = h.keeps; passes = h.passes; seen = h.seen; shown = h.shown; whole = h.whole }));
        lives = read_lives (λ s. g.S.Store.disk s) g.met.S.Store.only_now c.args.keys.now first c.args.store.now h.goes h.keeps h.passes;
      },
      record {
        early = inr (inl (record { p = c.args.params; head = c.requires.head; refused = inl c.in-Err.ensures.refused; keeps = keeps_none none; passes = same_none none; seen = none_noted none.seen; shown = shows_none _; whole = c.requires.whole }));
        lives = read_lives (λ s. g.S.Store.disk s) g.met.S.Store.only_now c.args.keys.now c.args.store.now c.args.store.now (goes_same none) (keeps_none none) (same_none none);
      },
    )

pub returns-in-Err-check_shares-clause-refused : goal.returns-in-Err-check_shares-clause-refused
returns-in-Err-check_shares-clause-refused g c =
    let none : Disk = g.S.Store.disk c.args.store.now in (
      λ first before h. record {
        early = inr (inl (record { p = c.args.params; head = h.head; refused = inr (c.in-Err-check_shares.field, refl, c.in-Ok.scripts, c.in-Ok.ensures.came, c.in-Err-check_shares.ensures); keeps = h.keeps; passes = h.passes; seen = h.seen; shown = h.shown; whole = h.whole }));
        lives = read_lives (λ s. g.S.Store.disk s) g.met.S.Store.only_now c.args.keys.now first c.args.store.now h.goes h.keeps h.passes;
      },
      record {
        early = inr (inl (record { p = c.args.params; head = c.requires.head; refused = inr (c.in-Err-check_shares.field, refl, c.in-Ok.scripts, c.in-Ok.ensures.came, c.in-Err-check_shares.ensures); keeps = keeps_none none; passes = same_none none; seen = none_noted none.seen; shown = shows_none _; whole = c.requires.whole }));
        lives = read_lives (λ s. g.S.Store.disk s) g.met.S.Store.only_now c.args.keys.now c.args.store.now c.args.store.now (goes_same none) (keeps_none none) (same_none none);
      },
    )

pub returns-in-Err-runners-clause-refused : goal.returns-in-Err-runners-clause-refused
returns-in-Err-runners-clause-refused g c =
    let none : Disk = g.S.Store.disk c.args.store.now in (
      λ first before h. record {
        early = inr (inl (record { p = c.args.params; head = h.head; refused = inl tt; keeps = h.keeps; passes = h.passes; seen = h.seen; shown = h.shown; whole = h.whole }));
        lives = read_lives (λ s. g.S.Store.disk s) g.met.S.Store.only_now c.args.keys.now first c.args.store.now h.goes h.keeps h.passes;
      },
      record {
        early = inr (inl (record { p = c.args.params; head = c.requires.head; refused = inl tt; keeps = keeps_none none; passes = same_none none; seen = none_noted none.seen; shown = shows_none _; whole = c.requires.whole }));
        lives = read_lives (λ s. g.S.Store.disk s) g.met.S.Store.only_now c.args.keys.now c.args.store.now c.args.store.now (goes_same none) (keeps_none none) (same_none none);
      },
    )

-- ---- the opening was refused

pub returns-in-Err-prepare-clause-refused : goal.returns-in-Err-prepare-clause-refused
returns-in-Err-prepare-clause-refused g c =
    let e = c.in-Err-prepare.ensures in
    let none : Disk = g.S.Store.disk c.args.store.now in (
      λ first before h. record {
        early = unopened (λ s. g.S.Store.disk s) c.args.keys.now c.args.means.now.lanes c.requires.lanes.0 c.args.params c.in-Ok.scripts _ first c.args.store.now c.prepare.new.store h.head (record { keeps = h.keeps; passes = h.passes; seen = h.seen })
            c.in-Ok.ensures.came c.args.means.now.shares c.in-Ok-check_shares.ensures c.prepare.result _ _ _ _ before _ _ c.in-Err-prepare.fault _ h.shown h.whole (g.met.S.Store.only_now first) h.goes.faults e.faults e.serves.cause e.does_err e.stops e.refused e.stands e.unwritten e.leaves
            (λ word_of s pending told at. e.acts word_of s pending told at);
        lives = refused_lives (λ s. g.S.Store.disk s) g.met.S.Store.only_now c.args.keys.now first c.args.store.now h.goes h.keeps h.passes c.prepare.new.store e.serves.goes e.act;
      },
      record {
        early = unopened_here (λ s. g.S.Store.disk s) c.args.keys.now c.args.means.now.lanes c.args.params c.in-Ok.scripts _ c.args.store.now c.prepare.new.store c.requires.head c.in-Ok.ensures.came _ _ c.requires.whole
            c.args.means.now.shares c.in-Ok-check_shares.ensures c.prepare.result _ _ _ _ c.in-Err-prepare.fault _ (g.met.S.Store.only_now c.args.store.now) e.faults e.serves.cause e.does_err e.stops e.refused e.stands e.unwritten e.leaves
            (λ word_of s pending told at. e.acts word_of s pending told at);
        lives = refused_lives (λ s. g.S.Store.disk s) g.met.S.Store.only_now c.args.keys.now c.args.store.now c.args.store.now (goes_same none) (keeps_none none) (same_none none) c.prepare.new.store e.serves.goes e.act;
      },
    )

pub returns-in-Err-prepare-clause-goes : goal.returns-in-Err-prepare-clause-goes
returns-in-Err-prepare-clause-goes g c = c.in-Err-prepare.ensures.serves.goes

pub returns-in-Err-prepare-clause-none_out : goal.returns-in-Err-prepare-clause-none_out
returns-in-Err-prepare-clause-none_out g c = omega (arith, c.in-Err-prepare.ensures.serves.out, c.requires.none_out)

-- ---- it was opened

pub returns-in-Ok-prepare-clause-goes : goal.returns-in-Ok-prepare-clause-goes
returns-in-Ok-prepare-clause-goes g c = c.in-Ok-prepare.ensures.serves.goes

pub returns-in-Ok-prepare-clause-none_out : goal.returns-in-Ok-prepare-clause-none_out
returns-in-Ok-prepare-clause-none_out g c = omega (arith, c.in-Ok-prepare.ensures.serves.out, c.requires.none_out)

pub returns-in-Ok-prepare-clause-serves : goal.returns-in-Ok-prepare-clause-serves
returns-in-Ok-prepare-clause-serves g c =
    let e = c.in-Ok-prepare.ensures in
    may_serve (λ s. g.S.Store.disk s) c.args.keys.now c.args.means.now.lanes c.args.params c.args.store.now c.prepare.new.store _ _ _ _ c.in-Ok-prepare.opening e.opened e.serves.goes.told e.tape

pub returns-in-Ok-prepare-clause-sound : goal.returns-in-Ok-prepare-clause-sound
returns-in-Ok-prepare-clause-sound g c = c.in-Ok.ensures.sound

pub returns-in-Ok-prepare-clause-fits : goal.returns-in-Ok-prepare-clause-fits
returns-in-Ok-prepare-clause-fits g c = c.in-Ok-check_shares.ensures

pub returns-in-Ok-prepare-clause-begun : goal.returns-in-Ok-prepare-clause-begun
returns-in-Ok-prepare-clause-begun g c =
    let e = c.in-Ok-prepare.ensures in
    let none : Disk = g.S.Store.disk c.args.store.now in (
      found_ring e.opened.found c.in-Ok-prepare.opening,
      may_go_on (λ s. g.S.Store.disk s) c.args.keys.now c.args.means.now.lanes c.args.params c.args.store.now c.prepare.new.store _ _ c.in-Ok-prepare.opening e.opened,
      (
        λ first before h. record {
          is_begun = begun (λ s. g.S.Store.disk s) c.args.keys.now c.args.means.now.lanes c.requires.lanes.0 c.args.params c.in-Ok.scripts _ first c.args.store.now c.prepare.new.store h.head (record { keeps = h.keeps; passes = h.passes; seen = h.seen })
              c.in-Ok.ensures.came before _ _ c.in-Ok-prepare.opening e.opened e.serves.tells e.stands h.shown h.whole;
          durable = λ tells. let here = h.keeps.tells tells in (e.serves.tells here, (e.opened.told here).settled);
          knows = λ tells. let told = e.opened.told (e.serves.goes.told tells) in record { generation = told.generation_gates; epoch = told.epoch_gates };
          left = λ at tells stands all. ring_leaves_standing (λ s. g.S.Store.disk s) c.args.keys.now c.args.params first c.prepare.new.store (g.met.S.Store.only_now first) tells all
              (inr (ring_opens_standing (λ s. g.S.Store.disk s) c.args.keys.now c.args.params first c.args.store.now c.prepare.new.store (record { keeps = h.keeps; passes = h.passes; seen = h.seen }) e.leaves)) at stands;
          since = opens_in_stages (λ s. g.S.Store.disk s) (λ x t image at left. g.met.S.Store.counts_now x t image at left) (λ x image left. g.met.S.Store.only_now x image left) c.args.keys.now c.args.means.now.lanes c.args.params first c.args.store.now c.prepare.new.store
              (record { keeps = h.keeps; passes = h.passes; seen = h.seen }) _ _ c.in-Ok-prepare.opening e.opened e.leaves;
          opens = read_opened (λ s. g.S.Store.disk s) g.met.S.Store.only_now c.args.keys.now first c.args.store.now h.goes h.keeps h.passes c.prepare.new.store e.serves.goes c.in-Ok-prepare.opening.sealer e.act;
        },
        record {
          is_begun = begun_here (λ s. g.S.Store.disk s) c.args.keys.now c.args.means.now.lanes c.args.params c.in-Ok.scripts _ c.args.store.now c.prepare.new.store c.requires.head c.in-Ok.ensures.came _ _ c.requires.whole c.in-Ok-prepare.opening e.opened e.serves.tells e.stands;
          durable = λ tells. (e.serves.tells tells, (e.opened.told tells).settled);
          knows = λ tells. let told = e.opened.told (e.serves.goes.told tells) in record { generation = told.generation_gates; epoch = told.epoch_gates };
          left = λ at tells stands all. ring_leaves_standing (λ s. g.S.Store.disk s) c.args.keys.now c.args.params c.args.store.now c.prepare.new.store (g.met.S.Store.only_now c.args.store.now) tells all
              (inr (opens_here (λ s. g.S.Store.disk s) c.args.keys.now c.args.params c.args.store.now c.prepare.new.store e.leaves)) at stands;
          since = staged_here (λ s. g.S.Store.disk s) (λ x image left. g.met.S.Store.only_now x image left) c.args.keys.now c.args.means.now.lanes c.args.params c.args.store.now c.prepare.new.store _ _ c.in-Ok-prepare.opening e.opened e.leaves;
          opens = read_opened (λ s. g.S.Store.disk s) g.met.S.Store.only_now c.args.keys.now c.args.store.now c.args.store.now (goes_same none) (keeps_none none) (same_none none) c.prepare.new.store e.serves.goes c.in-Ok-prepare.opening.sealer e.act;
        },
      ),
    )

-- ---- what the opening needs

pub prepare-requires-clause-none_out : goal.prepare-requires-clause-none_out
prepare-requires-clause-none_out g c κs within = c.requires.none_out

pub prepare-requires-clause-unstarted : goal.prepare-requires-clause-unstarted
prepare-requires-clause-unstarted g c κs within = c.requires.unstarted

pub prepare-requires-clause-lanes : goal.prepare-requires-clause-lanes
prepare-requires-clause-lanes g c κs within = c.requires.lanes
