use Rattle.std.proofs.Common.{◌++◌, ℕ, List, take, sym, subst, arith}
use Rattle.std.proofs.lemmas.List.{append-nil, take_all}
use Rattle.ob_audit.specs.Reader.{HasReadLines}
use Rattle.ob_audit.proofs.Sources.{settled_byte, read_byte}
use Rattle.ob_audit.proofs.reader.Reader.take_piece.Goals as goal

pub returns-in-Ok-Some-clause-read : goal.returns-in-Ok-Some-clause-read
returns-in-Ok-Some-clause-read c = λ bytes h.
    let told = rw c.in-Ok-Some.field-0-is at (c.in-Ok-Some.ensures.read (bytes ++ take c.loop-byte.byte-index c.args.piece.now) (c.loop-byte.invariant.read bytes h)) in
    settled_byte c.args.limit bytes c.args.piece.now c.loop-byte.byte-index c.in-Ok-Some.audit c.loop-byte-test.true told

pub loop-byte-init : goal.loop-byte-init
loop-byte-init c = record {
  within = c.requires.within;
  few = c.requires.few;
  seen = c.requires.seen;
  more = omega arith;
  read = λ bytes h. subst (λ (t : List ℕ). HasReadLines c.args.self.now t) (sym (append-nil bytes)) h;
}

pub loop-byte-preserved : goal.loop-byte-preserved
loop-byte-preserved c = record {
  within = c.take_byte.ensures.within;
  few = c.take_byte.ensures.few;
  seen = c.take_byte.ensures.seen;
  more = omega (arith, c.in-Ok-None.ensures.more c.in-Ok-None.field-0-is, c.loop-byte.invariant.more);
  read = λ bytes h. read_byte c.take_byte.new.self bytes c.args.piece.now c.loop-byte.byte-index c.loop-byte-test.true
      (rw c.in-Ok-None.field-0-is at (c.in-Ok-None.ensures.read (bytes ++ take c.loop-byte.byte-index c.args.piece.now) (c.loop-byte.invariant.read bytes h)));
}

pub returns-in-Err-clause-read : goal.returns-in-Err-clause-read
returns-in-Err-clause-read c = λ bytes h. tt

pub returns-clause-read : goal.returns-clause-read
returns-clause-read c = λ bytes h. subst (λ (t : List ℕ). HasReadLines c.loop-byte.self (bytes ++ t)) (take_all c.loop-byte.byte-index c.args.piece.now c.loop-byte-test.false) (c.loop-byte.invariant.read bytes h)
