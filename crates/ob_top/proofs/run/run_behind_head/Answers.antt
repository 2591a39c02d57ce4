use Rattle.ob_store.proofs.Serving.{goes_then}
use Rattle.ob_vault.specs.RingKind.{ring_kind}
use Rattle.ob_vault.proofs.OpenedLife.{opened_lives}
use Rattle.ob_vault.proofs.Standing.{ring_keeps}
use Rattle.ob_vault.specs.RingLives.{ring_lives}
use Rattle.ob_top.specs.Audited.{ring_audits}
use Rattle.std.proofs.Common.{[], arith, inr}
use Rattle.ob_top.proofs.Beginnings.{broke_early, ring_quiet}
use Rattle.ob_top.proofs.Living.{open_lives}
use Rattle.ob_top.proofs.Running.{ended_early, ran, served_reading}
use Rattle.ob_top.specs.Parts.{head_cells}
use Rattle.ob_top.proofs.run.run_behind_head.Goals as goal

-- ---- nothing was begun

pub returns-in-Err-clause-done : goal.returns-in-Err-clause-done
returns-in-Err-clause-done g c =
    let (from, behind) = c.in-Err.ensures.refused in (
      λ first before h.
          let not = from first before h in
          ended_early ring_kind ring_quiet ring_lives ring_audits ring_keeps (λ s. g.S.Store.disk s) (λ x t image at left. g.met.S.Store.counts_now x t image at left) _ _ c.args.keys.now first _ before _ _ _ _ c.in-Err.err not.early not.lives,
      ended_early ring_kind ring_quiet ring_lives ring_audits ring_keeps (λ s. g.S.Store.disk s) (λ x t image at left. g.met.S.Store.counts_now x t image at left) _ _ c.args.keys.now c.args.store.now _ _ _ _ _ _ c.in-Err.err behind.early behind.lives,
    )

pub returns-in-Err-clause-goes : goal.returns-in-Err-clause-goes
returns-in-Err-clause-goes g c = c.in-Err.ensures.goes

pub returns-in-Err-clause-none_out : goal.returns-in-Err-clause-none_out
returns-in-Err-clause-none_out g c = c.in-Err.ensures.none_out

-- ---- the watch broke

pub returns-in-Err-still_watched-clause-done : goal.returns-in-Err-still_watched-clause-done
returns-in-Err-still_watched-clause-done g c =
    let (f, on, (from, behind)) = c.in-Ok.ensures.begun in (
      λ first before h.
          let all = from first before h in
          let b = all.is_begun in
          ended_early ring_kind ring_quiet ring_lives ring_audits ring_keeps (λ s. g.S.Store.disk s) (λ x t image at left. g.met.S.Store.counts_now x t image at left) _ _ c.args.keys.now first _ before _ _ _ _ c.in-Err-still_watched.err
          (broke_early head_cells (λ s. g.S.Store.disk s) first _ _ _ _ _ _ _ _ _ _ c.in-Err-still_watched.err c.in-Err-still_watched.ensures (λ broken. inr (record {
            p = c.in-Ok.begun.params;
            script = c.in-Ok.begun.scripts;
            found = f;
            start = b.start;
            opened = b.opened;
            fits = c.in-Ok.ensures.fits;
            seen = b.seen;
            shown = b.shown;
            broken = broken;
            stood = b.stood;
            left = all.left;
            opens = all.since.standing;
            opens_staged = all.since.stages;
            opens_life = λ tells word_of s here small. opened_lives c.args.keys.now c.in-Ok.begun.params word_of s (g.S.Store.disk first).cells f (b.opened.finds tells) here small;
          })))
          (open_lives (λ s. g.S.Store.disk s) c.args.keys.now first _ c.in-Ok.begun.opening.sealer all.opens),
      let b = behind.is_begun in
          ended_early ring_kind ring_quiet ring_lives ring_audits ring_keeps (λ s. g.S.Store.disk s) (λ x t image at left. g.met.S.Store.counts_now x t image at left) _ _ c.args.keys.now c.args.store.now _ _ _ _ _ _ c.in-Err-still_watched.err
          (broke_early [] (λ s. g.S.Store.disk s) c.args.store.now _ _ _ _ _ _ _ _ _ _ c.in-Err-still_watched.err c.in-Err-still_watched.ensures (λ broken. inr (record {
            p = c.in-Ok.begun.params;
            script = c.in-Ok.begun.scripts;
            found = f;
            start = b.start;
            opened = b.opened;
            fits = c.in-Ok.ensures.fits;
            seen = b.seen;
            shown = b.shown;
            broken = broken;
            stood = b.stood;
            left = behind.left;
            opens = behind.since.standing;
            opens_staged = behind.since.stages;
            opens_life = λ tells word_of s here small. opened_lives c.args.keys.now c.in-Ok.begun.params word_of s (g.S.Store.disk c.args.store.now).cells f (b.opened.finds tells) here small;
          })))
          (open_lives (λ s. g.S.Store.disk s) c.args.keys.now c.args.store.now _ c.in-Ok.begun.opening.sealer behind.opens),
    )

pub returns-in-Err-still_watched-clause-goes : goal.returns-in-Err-still_watched-clause-goes
returns-in-Err-still_watched-clause-goes g c = c.in-Ok.ensures.goes

pub returns-in-Err-still_watched-clause-none_out : goal.returns-in-Err-still_watched-clause-none_out
returns-in-Err-still_watched-clause-none_out g c = c.in-Ok.ensures.none_out

-- ---- it was run

pub returns-clause-done : goal.returns-clause-done
returns-clause-done g c =
    let (f, on, (from, behind)) = c.in-Ok.ensures.begun in
    let later = c.in-Ok.ensures.goes.faults in
    let serving = c.serve_on.ensures.serves f on.found on.run on.goes_on on.planned in (
      λ first before h.
          let all = from first before h in
          let b = all.is_begun in
          let read = h.goes.faults in
          ran ring_kind ring_quiet ring_lives ring_audits ring_keeps (λ s. g.S.Store.disk s) (λ x t image at left. g.met.S.Store.counts_now x t image at left) _ _ c.args.keys.now first c.open_on.new.store _ _ _ _ _
          c.in-Ok.begun.params c.in-Ok.begun.scripts f b.start c.in-Ok.begun.opening.sealer before _ _ _ b.shown c.in-Ok-still_watched.ensures
          (omega (arith, read, later)) all.knows b.opened c.in-Ok.ensures.fits b.seen all.durable b.stood all.left all.since all.opens
          (λ tells word_of s here small. opened_lives c.args.keys.now c.in-Ok.begun.params word_of s (g.S.Store.disk first).cells f (b.opened.finds tells) here small) serving,
      let b = behind.is_begun in
          ran ring_kind ring_quiet ring_lives ring_audits ring_keeps (λ s. g.S.Store.disk s) (λ x t image at left. g.met.S.Store.counts_now x t image at left) _ _ c.args.keys.now c.args.store.now c.open_on.new.store _ _ _ _ _
          c.in-Ok.begun.params c.in-Ok.begun.scripts f b.start c.in-Ok.begun.opening.sealer _ _ _ _ b.shown c.in-Ok-still_watched.ensures
          later behind.knows b.opened c.in-Ok.ensures.fits b.seen behind.durable b.stood behind.left behind.since behind.opens
          (λ tells word_of s here small. opened_lives c.args.keys.now c.in-Ok.begun.params word_of s (g.S.Store.disk c.args.store.now).cells f (b.opened.finds tells) here small)
          (served_reading [] ring_kind ring_lives ring_audits g.S.Store.disk _ c.args.keys.now c.in-Ok.begun.params f c.in-Ok.begun.opening.sealer c.in-Ok.begun.scripts _ c.open_on.new.store _ _ _ _ _ _ serving),
    )

pub returns-clause-goes : goal.returns-clause-goes
returns-clause-goes g c =
    let (f, on, all) = c.in-Ok.ensures.begun in
    goes_then _ _ _ c.in-Ok.ensures.goes (c.serve_on.ensures.serves f on.found on.run on.goes_on on.planned).goes

pub returns-clause-none_out : goal.returns-clause-none_out
returns-clause-none_out g c = c.serve_on.ensures.none_out

-- ---- what its calls need

pub open_on-requires-clause-none_out : goal.open_on-requires-clause-none_out
open_on-requires-clause-none_out g c κs within = c.requires.none_out

pub open_on-requires-clause-unstarted : goal.open_on-requires-clause-unstarted
open_on-requires-clause-unstarted g c κs within = c.requires.unstarted

pub open_on-requires-clause-lanes : goal.open_on-requires-clause-lanes
open_on-requires-clause-lanes g c κs within = c.requires.lanes

pub open_on-requires-clause-whole : goal.open_on-requires-clause-whole
open_on-requires-clause-whole g c κs within = c.requires.whole

pub open_on-requires-clause-head : goal.open_on-requires-clause-head
open_on-requires-clause-head g c κs within = c.requires.head

pub serve_on-requires-clause-none_out : goal.serve_on-requires-clause-none_out
serve_on-requires-clause-none_out g c κs within = c.in-Ok.ensures.none_out

pub serve_on-requires-clause-lanes : goal.serve_on-requires-clause-lanes
serve_on-requires-clause-lanes g c κs within = c.requires.lanes

pub serve_on-requires-clause-whole : goal.serve_on-requires-clause-whole
serve_on-requires-clause-whole g c κs within = c.in-Ok-still_watched.ensures

pub serve_on-requires-clause-serves : goal.serve_on-requires-clause-serves
serve_on-requires-clause-serves g c κs within = c.in-Ok.ensures.serves

pub serve_on-requires-clause-sound : goal.serve_on-requires-clause-sound
serve_on-requires-clause-sound g c κs within = c.in-Ok.ensures.sound

pub serve_on-requires-clause-runners : goal.serve_on-requires-clause-runners
serve_on-requires-clause-runners g c κs within = c.in-Ok.ensures.runners

pub serve_on-requires-clause-keys : goal.serve_on-requires-clause-keys
serve_on-requires-clause-keys g c κs within = c.in-Ok.ensures.keys

pub serve_on-requires-clause-fits : goal.serve_on-requires-clause-fits
serve_on-requires-clause-fits g c κs within = c.in-Ok.ensures.fits
