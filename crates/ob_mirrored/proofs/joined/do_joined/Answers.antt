use Rattle.std.proofs.Common.{rules, ◌∙◌, inl, inr, refl}
use Rattle.ob_desk.specs.Beats.{beat_kind}
use Rattle.ob_top.specs.Parts.{manner}
use Rattle.ob_mirrored.proofs.Anchored.{joined_keep, run_keeps, unjoined_keep}
use Rattle.ob_mirrored.proofs.joined.do_joined.Goals as goal

-- ---- they weren't joined

pub returns-in-Err-clause-done : goal.returns-in-Err-clause-done
returns-in-Err-clause-done g c = inl (c.in-Err.err, c.in-Err.ensures.refused, refl, c.finish_run.ensures)

-- ---- it was run over both

pub returns-in-Ok-clause-none_out : goal.returns-in-Ok-clause-none_out
returns-in-Ok-clause-none_out g c = c.do_over.ensures.none_out

pub returns-in-Ok-clause-second_in : goal.returns-in-Ok-clause-second_in
returns-in-Ok-clause-second_in g c = c.do_over.ensures.second_in

pub returns-in-Ok-clause-done : goal.returns-in-Ok-clause-done
returns-in-Ok-clause-done g c = inr (record {
  p = c.in-Ok.params;
  a_joined = c.join_on.new.first;
  b_joined = c.join_on.new.second;
  midway = _;
  joined = c.in-Ok.ensures.joined;
  whole = c.in-Ok.ensures.whole;
  done = c.do_over.ensures.done;
})

-- ---- the watch holds what it held

pub returns-in-Err-clause-anchors : goal.returns-in-Err-clause-anchors
returns-in-Err-clause-anchors g c = unjoined_keep c.args.keys.now g.S.Store.disk g.M.Store.disk c.args.first.now _ c.args.second.now _ _ _ c.in-Err.err c.in-Err.ensures.refused

pub returns-in-Ok-clause-anchors : goal.returns-in-Ok-clause-anchors
returns-in-Ok-clause-anchors g c = run_keeps _ (manner (beat_kind g.B.Beat.passes g.B.Beat.exact) c.args.means.threads c.args.means.lanes c.args.means.shares) _ c.args.keys.now _ _ _ _ _ _ _ c.do_over.ensures.done.run ∙ joined_keep c.args.keys.now c.in-Ok.params g.S.Store.disk c.args.first.now _ _ _ _ _ c.in-Ok.ensures.joined

pub do_over-requires-after_bounds : goal.do_over-requires-after_bounds
do_over-requires-after_bounds g c κs within = (search rules, (c.in-Ok.ensures.none_out, (c.in-Ok.ensures.second_in, (c.requires.unstarted, (c.requires.lanes, (c.in-Ok.ensures.whole, c.in-Ok.ensures.head))))))
