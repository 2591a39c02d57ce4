use Rattle.std.proofs.Common.{◌∙◌, [], ◌++◌, ◌∷◌, sym}
use Rattle.ob_serial.specs.VaultKinds.{kind_of}
use Rattle.ob_conduct.specs.Scenes.{scene}
use Rattle.ob_driver.proofs.Insides.{inside_none, inside_more, refuses_behind}
use Rattle.ob_driver.proofs.ending.read_left.Goals as goal

pub loop-pass-init : goal.loop-pass-init
loop-pass-init g c = record {
  params = c.requires.params;
  goes_on = c.requires.goes_on;
  whole = c.requires.whole;
  places = c.requires.places;
  room = c.requires.room;
  read = ([], inside_none (kind_of g.V.Vault) c.args.hall.now c.args.pass.now (scene c.args.desk.now c.args.vault.now (g.W.Watch.trace c.args.watch.now)) (g.V.Vault.counts c.args.vault.now) c.requires.turn c.requires.ready);
}

pub loop-pass-preserved : goal.loop-pass-preserved
loop-pass-preserved g c =
    let i = c.loop-pass.invariant in
    let e = c.in-Ok.ensures in
    let (batch, one) = e.read in
    record {
      params = e.params;
      goes_on = one.same_stop ∙ i.goes_on;
      whole = sym c.broken.ensures ∙ c.if-broken.false;
      places = e.places;
      room = e.room;
      read = (i.read.0 ++ batch ∷ [], inside_more _ _ _ _ _ _ _ _ i.read.0 _ i.read.1 batch _ one);
    }

pub returns-in-Err-clause-refused : goal.returns-in-Err-clause-refused
returns-in-Err-clause-refused g c =
    let (batches, read) = c.loop-pass.invariant.read in
    (batches, refuses_behind _ _ _ _ _ _ _ _ batches _ read c.in-Err.fault c.in-Err.ensures.refused)

pub returns-then-broken-clause-refused : goal.returns-then-broken-clause-refused
returns-then-broken-clause-refused g c =
    let (batches, read) = c.loop-pass.invariant.read in
    let (batch, one) = c.in-Ok.ensures.read in
    (batches ++ batch ∷ [], _, inside_more _ _ _ _ _ _ _ _ batches _ read batch _ one, sym c.broken.ensures ∙ c.if-broken.true)

pub returns-then-broken-clause-params : goal.returns-then-broken-clause-params
returns-then-broken-clause-params g c = c.in-Ok.ensures.params

pub returns-then-broken-clause-places : goal.returns-then-broken-clause-places
returns-then-broken-clause-places g c = c.in-Ok.ensures.places

pub returns-then-broken-clause-room : goal.returns-then-broken-clause-room
returns-then-broken-clause-room g c = c.in-Ok.ensures.room

pub returns-then-broken-clause-read : goal.returns-then-broken-clause-read
returns-then-broken-clause-read g c = tt

pub returns-then-broken-clause-none_left : goal.returns-then-broken-clause-none_left
returns-then-broken-clause-none_left g c = tt

pub read_inside-requires-clause-whole : goal.read_inside-requires-clause-whole
read_inside-requires-clause-whole g c κs within = c.loop-pass.invariant.whole

pub read_inside-requires-clause-params : goal.read_inside-requires-clause-params
read_inside-requires-clause-params g c κs within = c.loop-pass.invariant.params

pub read_inside-requires-clause-turn : goal.read_inside-requires-clause-turn
read_inside-requires-clause-turn g c κs within = c.loop-pass.invariant.read.1.turn

pub read_inside-requires-clause-ready : goal.read_inside-requires-clause-ready
read_inside-requires-clause-ready g c κs within = c.loop-pass.invariant.read.1.ready

pub read_inside-requires-clause-goes_on : goal.read_inside-requires-clause-goes_on
read_inside-requires-clause-goes_on g c κs within = c.loop-pass.invariant.goes_on

pub read_inside-requires-clause-places : goal.read_inside-requires-clause-places
read_inside-requires-clause-places g c κs within = c.loop-pass.invariant.places

pub read_inside-requires-clause-room : goal.read_inside-requires-clause-room
read_inside-requires-clause-room g c κs within = c.loop-pass.invariant.room

pub loop-pass-smaller : goal.loop-pass-smaller
loop-pass-smaller g c = c.in-Ok.ensures.less

pub returns-in-Err-clause-params : goal.returns-in-Err-clause-params
returns-in-Err-clause-params g c = c.in-Err.ensures.params

pub returns-in-Err-clause-places : goal.returns-in-Err-clause-places
returns-in-Err-clause-places g c = c.in-Err.ensures.places

pub returns-in-Err-clause-room : goal.returns-in-Err-clause-room
returns-in-Err-clause-room g c = c.in-Err.ensures.room

pub returns-in-Err-clause-read : goal.returns-in-Err-clause-read
returns-in-Err-clause-read g c = tt

pub returns-in-Err-clause-none_left : goal.returns-in-Err-clause-none_left
returns-in-Err-clause-none_left g c = tt

pub returns-clause-params : goal.returns-clause-params
returns-clause-params g c = c.loop-pass.invariant.params

pub returns-clause-places : goal.returns-clause-places
returns-clause-places g c = c.loop-pass.invariant.places

pub returns-clause-room : goal.returns-clause-room
returns-clause-room g c = c.loop-pass.invariant.room

pub returns-clause-read : goal.returns-clause-read
returns-clause-read g c = let i = c.loop-pass.invariant in (i.read.0, i.read.1, i.whole)

pub returns-clause-refused : goal.returns-clause-refused
returns-clause-refused g c = tt
