use Rattle.std.proofs.Common.{◌*◌, arith, nat_cmp, rules, subst, sym}
use Rattle.std.specs.FinMap.{get}
use Rattle.ob_serial.specs.Serial.{Map}
use Rattle.ob_drill.specs.Gathered.{HasRows}
use Rattle.ob_drill.proofs.Chains.{reads_none, reads_then, reads_within, fails_then, cause_then, held_behind}
use Rattle.ob_drill.proofs.map.read_map.Goals as goal

pub loop-next-init : goal.loop-next-init
loop-next-init g c = record {
  params = c.requires.params;
  serves = c.requires.serves;
  inside = search rules;
  few = search rules;
  rows = λ v held. c.new-rows.ensures.none (get v.content);
  reads = reads_none _ _ _ _;
}

pub returns-in-Err-clause-refused : goal.returns-in-Err-clause-refused
returns-in-Err-clause-refused g c = fails_then _ (2 * c.loop-next.next) 2 (2 * c.args.params.now.keys) (let inside = c.loop-next-test.true in omega (arith, inside)) _ _ _ _ _ _ c.in-Err.refused c.loop-next.invariant.reads c.in-Err.ensures.refused

pub returns-in-Err-clause-cause : goal.returns-in-Err-clause-cause
returns-in-Err-clause-cause g c = λ store. cause_then _ _ _ _ _ _ _ c.loop-next.invariant.reads (c.in-Err.ensures.cause store)

pub loop-next-preserved : goal.loop-next-preserved
loop-next-preserved g c =
    let i = c.loop-next.invariant in
    let e = c.in-Ok.ensures in
    record {
      params = e.params;
      serves = e.serves;
      inside = e.next.1;
      few = e.few;
      rows = λ v held.
          let (w, holds, is) = held_behind _ _ _ _ _ _ i.reads v held in
          subst (λ (m : Map nat_cmp). HasRows (get m) c.in-Ok.behind c.read_batch.new.rows) is (e.rows w holds (subst (λ (m : Map nat_cmp). HasRows (get m) c.loop-next.next c.loop-next.rows) (sym is) (i.rows v held)));
      reads = reads_then _ (2 * c.loop-next.next) 2 (2 * c.in-Ok.behind) (let further = e.next.0 in omega (arith, further)) _ _ _ _ _ _ i.reads e.reads;
    }

pub returns-clause-reads : goal.returns-clause-reads
returns-clause-reads g c = let i = c.loop-next.invariant in let inside = i.inside in reads_within _ (2 * c.loop-next.next) (2 * c.args.params.now.keys) (omega (arith, inside)) _ _ _ _ i.reads
