use Rattle.std.proofs.Common.{◌≡◌, ◌∙◌, Some, ap, refl, sym, subst}
use Rattle.ob_mirror.specs.Laws.{includes_reads_of_first, only_now_of_either}
use Rattle.ob_mirror.proofs.Alone.{each_stands}
use Rattle.ob_mirrored.proofs.Doing.{both_in, each_in, mirror_tells, name_first, name_second}
use Rattle.ob_vault.specs.RingKind.{ring_kind}
use Rattle.ob_desk.specs.Beats.{beat_kind}
use Rattle.ob_top.specs.Parts.{Manner, manner}
use Rattle.ob_mirrored.proofs.Ending.{ended_cause, ended_complete, ended_headline, ended_run, refused_some}
use Rattle.ob_mirrored.proofs.Following.{over_follows}
use Rattle.ob_mirrored.proofs.OfHalves.{half_keeps, is_first, is_second}
use Rattle.ob_mirrored.proofs.over.do_over.Goals as goal

pub run_behind_head-ended-requires-clause-none_out : goal.run_behind_head-ended-requires-clause-none_out
run_behind_head-ended-requires-clause-none_out g c κs within =
    both_in _ _ (subst (λ x. (g.S.Store.disk x).out ≡ 0) (sym c.over-mirror.ensures.first) c.requires.none_out) (subst (λ x. (g.M.Store.disk x).out ≡ 0) (sym c.over-mirror.ensures.second) c.requires.second_in)

pub run_behind_head-ended-requires-clause-unstarted : goal.run_behind_head-ended-requires-clause-unstarted
run_behind_head-ended-requires-clause-unstarted g c κs within = c.requires.unstarted

pub run_behind_head-ended-requires-clause-lanes : goal.run_behind_head-ended-requires-clause-lanes
run_behind_head-ended-requires-clause-lanes g c κs within = c.requires.lanes

pub run_behind_head-ended-requires-clause-whole : goal.run_behind_head-ended-requires-clause-whole
run_behind_head-ended-requires-clause-whole g c κs within = c.requires.whole

pub run_behind_head-ended-requires-clause-head : goal.run_behind_head-ended-requires-clause-head
run_behind_head-ended-requires-clause-head g c κs within = λ tells.
    subst (λ x. ring_kind.is_head c.args.keys.now c.args.params ((g.S.Store.disk x).cells 0)) (sym c.over-mirror.ensures.first) (c.requires.head (subst (λ x. (g.S.Store.disk x).tells) c.over-mirror.ensures.first tells.1))

pub returns-clause-none_out : goal.returns-clause-none_out
returns-clause-none_out g c =
    let names : c.over-arg-1.given ≡ c.into_lent-first.result.0.ghost_name = sym (c.into_lent-first.ensures.name ∙ name_first _ _ _ _ c.run_behind_head-ended.ensures.goes.anchors ∙ c.over-mirror.ensures.name) in
    subst (λ x. (g.S.Store.disk x).out ≡ 0) (sym (c.first-1.given.1 names ∙ c.hand_back.ensures.first ∙ c.into_lent-first.ensures.first)) (each_in _ _ c.run_behind_head-ended.ensures.none_out).0

pub returns-clause-second_in : goal.returns-clause-second_in
returns-clause-second_in g c =
    let names : c.over-arg-2-1.given ≡ c.into_lent-first.result.1.ghost_name = sym (c.into_lent-first.ensures.second_name ∙ name_second _ _ _ _ _ _ c.run_behind_head-ended.ensures.goes.anchors ∙ c.over-mirror.ensures.second_name) in
    subst (λ x. (g.M.Store.disk x).out ≡ 0) (sym (c.second-1.given.1 names ∙ c.hand_back.ensures.second ∙ c.into_lent-first.ensures.second)) (each_in _ _ c.run_behind_head-ended.ensures.none_out).1

pub returns-clause-done : goal.returns-clause-done
returns-clause-done g c =
    let one = g.S.Store.disk in
    let two = g.M.Store.disk in
    let made = c.over-mirror.ensures in
    let does = c.run_behind_head-ended.ensures in
    let begun = c.over-mirror.result.halves in
    let ended = c.run_behind_head-ended.new.store.halves in
    let names : c.over-arg-1.given ≡ c.into_lent-first.result.0.ghost_name = sym (c.into_lent-first.ensures.name ∙ name_first _ _ _ _ does.goes.anchors ∙ made.name) in
    let second_names : c.over-arg-2-1.given ≡ c.into_lent-first.result.1.ghost_name = sym (c.into_lent-first.ensures.second_name ∙ name_second _ _ _ _ _ _ does.goes.anchors ∙ made.second_name) in
    let by : Manner = manner (beat_kind g.B.Beat.passes g.B.Beat.exact) c.args.means.threads c.args.means.lanes c.args.means.shares in
    let run = ended_run _ by _ c.args.keys.now c.over-mirror.result c.run_behind_head-ended.new.store _ _ _ _ _ _ c.finish_run.result _ _ does.done.1 c.finish_run.ensures in
    record {
      lent = c.over-mirror.result;
      left = c.run_behind_head-ended.new.store;
      first = made.first;
      second = made.second;
      tells = mirror_tells one two begun.apart begun.first_then.value begun.first.now _ begun.second_then.value begun.second.now _ made.apart made.first_then made.second_then made.first made.second;
      first_left = sym (c.first-1.given.1 names ∙ c.hand_back.ensures.first ∙ c.into_lent-first.ensures.first);
      second_left = sym (c.second-1.given.1 second_names ∙ c.hand_back.ensures.second ∙ c.into_lent-first.ensures.second);
      goes = does.goes;
      none_made = ap (λ events. Some events) made.made;
      none_failed = made.failed;
      made = ended.made.events;
      told = refl;
      follows = over_follows one two ended.made.events begun.first.ghost_name begun.second.ghost_name ended.first.ghost_name ended.second.ghost_name begun.first_then.value ended.first_then.value ended.first.now begun.second_then.value ended.second_then.value ended.second.now _ _ _ _ _ _
          does.goes.anchors ended.follows made.first_then made.second_then
          (sym (c.first-1.given.1 names ∙ c.hand_back.ensures.first ∙ c.into_lent-first.ensures.first)) (sym (c.second-1.given.1 second_names ∙ c.hand_back.ensures.second ∙ c.into_lent-first.ensures.second));
      run = run;
      cause = λ unsure is. refused_some _ _ made.failed (ended_cause _ by _ c.args.keys.now c.over-mirror.result c.run_behind_head-ended.new.store _ _ _ _ _ _ c.finish_run.result run unsure is);
      headline = ended_headline _ by _ c.args.keys.now c.over-mirror.result c.run_behind_head-ended.new.store _ _ _ _ _ _ c.finish_run.result c.requires.whole run
          (λ m image left. only_now_of_either (one m.halves.first.now) (two m.halves.second.now) (g.met.S.Store.only_now m.halves.first.now) (g.met.M.Store.only_now m.halves.second.now) image left)
          (λ m tells leaves. includes_reads_of_first (one m.halves.first.now) (two m.halves.second.now) _ (g.met.S.Store.includes_reads m.halves.first.now) tells leaves) does.goes;
      complete = ended_complete _ by _ c.args.keys.now c.over-mirror.result c.run_behind_head-ended.new.store _ _ _ _ _ _ c.finish_run.result c.requires.whole run;
      each = each_stands begun.first.ghost_name begun.second.ghost_name ended.first.ghost_name ended.second.ghost_name begun.apart (one begun.first_then.value) (two begun.second_then.value) ended.apart (one ended.first_then.value) (two ended.second_then.value) begun.made.events ended.made.events begun.failed ended.failed
          (one begun.first.now) (one ended.first.now) (two begun.second.now) (two ended.second.now) ended.agree;
      first_keeps = half_keeps _ _ (is_first _ (λ m. one m.halves.first.now) (λ m. two m.halves.second.now) (λ x y. each_stands x.halves.first.ghost_name x.halves.second.ghost_name y.halves.first.ghost_name y.halves.second.ghost_name x.halves.apart (one x.halves.first_then.value) (two x.halves.second_then.value) y.halves.apart (one y.halves.first_then.value) (two y.halves.second_then.value) x.halves.made.events y.halves.made.events x.halves.failed y.halves.failed
          (one x.halves.first.now) (one y.halves.first.now) (two x.halves.second.now) (two y.halves.second.now) y.halves.agree));
      second_keeps = half_keeps _ _ (is_second _ (λ m. one m.halves.first.now) (λ m. two m.halves.second.now) (λ x y. each_stands x.halves.first.ghost_name x.halves.second.ghost_name y.halves.first.ghost_name y.halves.second.ghost_name x.halves.apart (one x.halves.first_then.value) (two x.halves.second_then.value) y.halves.apart (one y.halves.first_then.value) (two y.halves.second_then.value) x.halves.made.events y.halves.made.events x.halves.failed y.halves.failed
          (one x.halves.first.now) (one y.halves.first.now) (two x.halves.second.now) (two y.halves.second.now) y.halves.agree));
    }
