use Rattle.std.proofs.Common.{◌<◌, ℕ, List, subst, arith, length}
use Rattle.std.specs.List.Sorted.{IsPermutation}
use Rattle.ob_tables.specs.Order.{index_at}
use Rattle.ob_tables.proofs.OrderLaws.{InOrder, as_many, index_is, are_apart, placed}
use Rattle.ob_tables.proofs.rank.rank_by.Goals as goal

pub place-requires-clause-within : goal.place-requires-clause-within
place-requires-clause-within c = λ k h. (
    let o : InOrder c.args.words.now c.sort_unstable.new.self = record {
      moved = subst (λ (xs : List (ℕ × ℕ)). IsPermutation xs c.sort_unstable.new.self) c.number.ensures c.sort_unstable.ensures.permutation;
      sorted = c.sort_unstable.ensures.sorted;
    } in
    let low : index_at c.sort_unstable.new.self k < length c.args.words.now = (index_is c.args.words.now c.sort_unstable.new.self o k h).0 in
    omega (arith, as_many c.args.words.now c.sort_unstable.new.self o))

pub place-requires-clause-apart : goal.place-requires-clause-apart
place-requires-clause-apart c =
    let o : InOrder c.args.words.now c.sort_unstable.new.self = record {
      moved = subst (λ (xs : List (ℕ × ℕ)). IsPermutation xs c.sort_unstable.new.self) c.number.ensures c.sort_unstable.ensures.permutation;
      sorted = c.sort_unstable.ensures.sorted;
    } in
    are_apart c.args.words.now c.sort_unstable.new.self o

pub returns : goal.returns
returns c =
    let o : InOrder c.args.words.now c.sort_unstable.new.self = record {
      moved = subst (λ (xs : List (ℕ × ℕ)). IsPermutation xs c.sort_unstable.new.self) c.number.ensures c.sort_unstable.ensures.permutation;
      sorted = c.sort_unstable.ensures.sorted;
    } in
    record { ranks = placed c.args.words.now c.sort_unstable.new.self o c.place.new.out (omega (arith, c.place.auto.out, c.requires.long)) c.place.ensures }
