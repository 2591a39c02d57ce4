use Rattle.std.proofs.Common.{◌≡◌, ℕ, List, Option, length, sym, subst, arith}
use Rattle.ob_desk.specs.Desk as desk
use Rattle.ob_driver.proofs.Insides.{slice_back}
use Rattle.ob_driver.proofs.asking.take_batch.Goals as goal

pub take_batch-requires-clause-may : goal.take_batch-requires-clause-may
take_batch-requires-clause-may c = c.requires.may

pub take_batch-requires-clause-places : goal.take_batch-requires-clause-places
take_batch-requires-clause-places c = rw c.as_mut_slice.ensures.value c.requires.places

pub returns-clause-taken : goal.returns-clause-taken
returns-clause-taken c =
    let long : c.args.asks.now.len ≡ length c.take_batch.new.out = omega (arith, c.as_mut_slice.ensures.len) in
    subst (λ (keys : List (Option ℕ)). desk.TakeStep c.args.desk.now keys c.take_batch.new.self) (sym (slice_back c.args.asks.now.len c.take_batch.new.out c.args.asks.now.items long)) c.take_batch.ensures
