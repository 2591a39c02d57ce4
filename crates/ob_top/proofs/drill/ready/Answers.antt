use Rattle.std.proofs.Common.{refl, sym, nat_cmp, []}
use Rattle.std.specs.FinMap.{get-empty}
use Rattle.ob_store.proofs.Keeping.{keeps_none}
use Rattle.ob_stand.proofs.VaultLaws.{ring_stands}
use Rattle.ob_opening.specs.Formats.{formatted_standing}
use Rattle.ob_opening.proofs.PlanLaws.{opened_plans}
use Rattle.ob_vault.specs.Formats.{beginning}
use Rattle.ob_vault.specs.RingLaws.{found_ring}
use Rattle.ob_vault.proofs.Opening.{goes_on, opened_at}
use Rattle.ob_top.proofs.Beginnings.{may_serve}
use Rattle.ob_top.proofs.SelfTest.{all_left, opens_seen, want_of}
use Rattle.ob_top.proofs.drill.ready.Goals as goal

pub returns-clause-serves : goal.returns-clause-serves
returns-clause-serves g c =
    let e = c.in-Ok-prepare.ensures in
    may_serve (λ s. g.S.Store.disk s) c.args.keys.now 4 c.args.params.now c.args.store.now c.prepare.new.store _ _ _ _ c.in-Ok-prepare.opening e.opened e.serves.goes.told e.tape

pub returns-clause-ready : goal.returns-clause-ready
returns-clause-ready g c =
    let e = c.in-Ok-prepare.ensures in
    let o = c.in-Ok-prepare.opening in
    let p = c.args.params.now in
    let keys = c.args.keys.now in
    let old = g.S.Store.disk c.args.store.now in
    let new = g.S.Store.disk c.prepare.new.store in
    let (words, here) = c.requires.stands in
    let s = formatted_standing p words in
    let opened = e.stands s c.requires.tells here in
    let told = e.opened.told c.requires.tells in (
      found_ring e.opened.found o,
      record {
        opened = record {
          found = e.opened.found;
          goes_on = goes_on keys p old old new e.opened.found o e.opened.is;
          planned = opened_plans (λ x. g.S.Store.disk x) keys 4 p c.args.store.now c.prepare.new.store _ _ o e.opened;
          run_is = refl;
          left = all_left _ _ opened.left;
          epoch = opened.epoch;
          map = (opened_at keys p old old new e.opened.found o (keeps_none old) c.requires.tells (e.serves.tells c.requires.tells) told.found_in e.stands beginning
              (1, ring_stands keys p s old.cells beginning (record { epoch = refl; map = λ k. sym (get-empty nat_cmp k) }) here)).content;
        };
        start = (e.opened.found).gates;
        seen = opens_seen keys p e.opened.found o e.opened.is old new ((e.opened.follows).told [] (e.opened.found).gates).seen;
      },
    )

pub returns-in-Err-prepare-clause-refused : goal.returns-in-Err-prepare-clause-refused
returns-in-Err-prepare-clause-refused g c =
    let e = c.in-Err-prepare.ensures in
    let (words, here) = c.requires.stands in
    want_of c.args.params.now words c.in-Err-prepare.fault (g.S.Store.disk c.args.store.now) (g.S.Store.disk c.prepare.new.store) (e.stands (formatted_standing c.args.params.now words) c.requires.tells here) e.serves.cause
