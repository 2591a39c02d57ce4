use Rattle.std.proofs.Common.{inl, inr, refl, arith}
use Rattle.ob_mirrored.proofs.Telling.{broke_joining, head_behind, only_head, only_then}
use Rattle.ob_mirrored.proofs.Copied.{joined_cause}
use Rattle.ob_mirrored.proofs.joined.join_on.Goals as goal

-- ---- the head was refused

pub returns-in-Err-clause-none_out : goal.returns-in-Err-clause-none_out
returns-in-Err-clause-none_out g c = omega (arith, c.in-Err.ensures.out, c.requires.none_out)

pub returns-in-Err-clause-second_in : goal.returns-in-Err-clause-second_in
returns-in-Err-clause-second_in g c = c.requires.second_in

pub returns-in-Err-clause-refused : goal.returns-in-Err-clause-refused
returns-in-Err-clause-refused g c = inl (record { ends = c.in-Err.ensures.refused; second = refl })

-- ---- the join was

pub returns-in-Err-copy_store-clause-none_out : goal.returns-in-Err-copy_store-clause-none_out
returns-in-Err-copy_store-clause-none_out g c = omega (arith, c.in-Err-copy_store.ensures.first.out, c.in-Ok.ensures.out, c.requires.none_out)

pub returns-in-Err-copy_store-clause-second_in : goal.returns-in-Err-copy_store-clause-second_in
returns-in-Err-copy_store-clause-second_in g c = omega (arith, c.in-Err-copy_store.ensures.second_out, c.requires.second_in)

pub returns-in-Err-copy_store-clause-refused : goal.returns-in-Err-copy_store-clause-refused
returns-in-Err-copy_store-clause-refused g c =
    let head = c.in-Ok.ensures.read in
    let tried = c.in-Err-copy_store.ensures in
    inr (inl (record {
      is = refl;
      p = c.in-Ok.params;
      read = c.head_on.new.store;
      between = _;
      head = head;
      first = only_then (g.S.Store.disk c.args.first.now) (g.S.Store.disk c.head_on.new.store) (g.S.Store.disk c.copy_store.new.first) (only_head c.args.keys.now c.in-Ok.params _ _ _ _ head c.in-Ok.ensures.out) tried.first;
      does = tried.does.first;
      second = tried.second;
      second_seen = tried.second_seen;
      second_passes = tried.second_passes;
      cause = joined_cause _ _ _ _ head.goes.faults tried.cause;
    }))

-- ---- the watch broke

pub returns-in-Err-still_watched-clause-none_out : goal.returns-in-Err-still_watched-clause-none_out
returns-in-Err-still_watched-clause-none_out g c = omega (arith, c.in-Ok-copy_store.ensures.first.out, c.in-Ok.ensures.out, c.requires.none_out)

pub returns-in-Err-still_watched-clause-second_in : goal.returns-in-Err-still_watched-clause-second_in
returns-in-Err-still_watched-clause-second_in g c = omega (arith, c.in-Ok-copy_store.ensures.second_out, c.requires.second_in)

pub returns-in-Err-still_watched-clause-refused : goal.returns-in-Err-still_watched-clause-refused
returns-in-Err-still_watched-clause-refused g c =
    let head = c.in-Ok.ensures.read in
    let tried = c.in-Ok-copy_store.ensures in
    let (is, broken) = broke_joining (g.W.Watch.trace c.copy_store.new.watch) c.in-Err-still_watched.err c.in-Err-still_watched.ensures in
    inr (inr (record {
      is = is;
      p = c.in-Ok.params;
      joined = record {
        read = c.head_on.new.store;
        between = _;
        head = head;
        first = only_then (g.S.Store.disk c.args.first.now) (g.S.Store.disk c.head_on.new.store) (g.S.Store.disk c.copy_store.new.first) (only_head c.args.keys.now c.in-Ok.params _ _ _ _ head c.in-Ok.ensures.out) tried.first;
        does = tried.does.all;
        second = tried.second;
        second_seen = tried.second_seen;
        second_passes = tried.second_passes;
        second_tells = tried.second_tells;
        copied = tried.copied;
      };
      broken = broken;
    }))

-- ---- they are joined

pub returns-in-Ok-still_watched-clause-none_out : goal.returns-in-Ok-still_watched-clause-none_out
returns-in-Ok-still_watched-clause-none_out g c = omega (arith, c.in-Ok-copy_store.ensures.first.out, c.in-Ok.ensures.out, c.requires.none_out)

pub returns-in-Ok-still_watched-clause-second_in : goal.returns-in-Ok-still_watched-clause-second_in
returns-in-Ok-still_watched-clause-second_in g c = omega (arith, c.in-Ok-copy_store.ensures.second_out, c.requires.second_in)

pub returns-in-Ok-still_watched-clause-joined : goal.returns-in-Ok-still_watched-clause-joined
returns-in-Ok-still_watched-clause-joined g c =
    let head = c.in-Ok.ensures.read in
    let tried = c.in-Ok-copy_store.ensures in
    record {
      read = c.head_on.new.store;
      between = _;
      head = head;
      first = only_then (g.S.Store.disk c.args.first.now) (g.S.Store.disk c.head_on.new.store) (g.S.Store.disk c.copy_store.new.first) (only_head c.args.keys.now c.in-Ok.params _ _ _ _ head c.in-Ok.ensures.out) tried.first;
      does = tried.does.all;
      second = tried.second;
      second_seen = tried.second_seen;
      second_passes = tried.second_passes;
      second_tells = tried.second_tells;
      copied = tried.copied;
    }

pub returns-in-Ok-still_watched-clause-head : goal.returns-in-Ok-still_watched-clause-head
returns-in-Ok-still_watched-clause-head g c = λ tells. head_behind c.args.keys.now c.in-Ok.params (g.S.Store.disk c.args.first.now) (g.S.Store.disk c.head_on.new.store) (g.S.Store.disk c.copy_store.new.first) _ _ c.in-Ok.ensures.read c.in-Ok-copy_store.ensures.first tells
