use Rattle.std.proofs.Common.{Err, [], ◌∷◌, refl}
use Rattle.ob_base.specs.declared.params.Params.{Params}
use Rattle.ob_store.specs.declared.watch.Note.TheVariants.{Read}
use Rattle.ob_top.proofs.Noted.{reads_noted}
use Rattle.ob_top.proofs.Beginnings.{broke_at_head}
use Rattle.ob_top.proofs.Living.{read_lives}
use Rattle.ob_top.proofs.run.head_on.Goals as goal

-- ---- the head was refused

pub returns-in-Err-clause-out : goal.returns-in-Err-clause-out
returns-in-Err-clause-out g c = c.in-Err.ensures.serves.out

pub returns-in-Err-clause-goes : goal.returns-in-Err-clause-goes
returns-in-Err-clause-goes g c = c.in-Err.ensures.serves.goes

pub returns-in-Err-clause-refused : goal.returns-in-Err-clause-refused
returns-in-Err-clause-refused g c = λ most shares input.
    let e = c.in-Err.ensures in
    record {
      own = refl;
      untouched = refl;
      kind = e.faults;
      read = e.value;
      cause = e.serves.cause;
      keeps = e.keeps;
      passes = e.passes;
      seen = reads_noted {V = Params} (Read 0 ∷ []) _ _ _ _ (Err c.in-Err.fault) e.does;
      shown = e.does;
    }

pub returns-in-Err-clause-lives : goal.returns-in-Err-clause-lives
returns-in-Err-clause-lives g c = read_lives (λ s. g.S.Store.disk s) g.met.S.Store.only_now c.args.keys.now c.args.store.now c.head.new.store c.in-Err.ensures.serves.goes c.in-Err.ensures.keeps c.in-Err.ensures.passes

-- ---- the watch broke

pub returns-in-Err-still_watched-clause-out : goal.returns-in-Err-still_watched-clause-out
returns-in-Err-still_watched-clause-out g c = c.in-Ok.ensures.serves.out

pub returns-in-Err-still_watched-clause-goes : goal.returns-in-Err-still_watched-clause-goes
returns-in-Err-still_watched-clause-goes g c = c.in-Ok.ensures.serves.goes

pub returns-in-Err-still_watched-clause-refused : goal.returns-in-Err-still_watched-clause-refused
returns-in-Err-still_watched-clause-refused g c = λ most shares input.
    let e = c.in-Ok.ensures in
    broke_at_head _ most shares _ _ _ _ input input c.in-Err-still_watched.err c.in-Err-still_watched.ensures (λ broken. record {
      own = refl;
      untouched = refl;
      p = c.in-Ok.params;
      head = e.value;
      keeps = e.keeps;
      passes = e.passes;
      seen = e.does.seen;
      shown = e.does.shows;
      broken = broken;
    })

pub returns-in-Err-still_watched-clause-lives : goal.returns-in-Err-still_watched-clause-lives
returns-in-Err-still_watched-clause-lives g c = read_lives (λ s. g.S.Store.disk s) g.met.S.Store.only_now c.args.keys.now c.args.store.now c.head.new.store c.in-Ok.ensures.serves.goes c.in-Ok.ensures.keeps c.in-Ok.ensures.passes

-- ---- it was read

pub returns-in-Ok-still_watched-clause-out : goal.returns-in-Ok-still_watched-clause-out
returns-in-Ok-still_watched-clause-out g c = c.in-Ok.ensures.serves.out

pub returns-in-Ok-still_watched-clause-goes : goal.returns-in-Ok-still_watched-clause-goes
returns-in-Ok-still_watched-clause-goes g c = c.in-Ok.ensures.serves.goes

pub returns-in-Ok-still_watched-clause-read : goal.returns-in-Ok-still_watched-clause-read
returns-in-Ok-still_watched-clause-read g c =
    let e = c.in-Ok.ensures in
    record { goes = e.serves.goes; head = e.value; keeps = e.keeps; passes = e.passes; seen = e.does.seen; shown = e.does.shows; whole = c.in-Ok-still_watched.ensures }
