use Rattle.std.proofs.Common.{◌++◌, [], ◌∷◌, List, ℕ, Option, length, arith, sym, ap, ◌∙◌}
use Rattle.ob_log.specs.Places.{asks_in, words_in}
use Rattle.ob_log.proofs.PlaceReads.{asks_more, words_more, asks_many, words_many, kept_on, stops_at}
use Rattle.ob_log.proofs.places.read_places.Goals as goal

pub returns-in-Err : goal.returns-in-Err
returns-in-Err c = stops_at c.args.p.now c.args.bytes.now c.args.cell c.loop-i.i c.args.p.now.places c.in-Err.damaged c.loop-i-test.true c.loop-i.invariant.kept c.in-Err.ensures

pub push-requires : goal.push-requires
push-requires c = (omega arith, omega (arith, ap length c.loop-i.invariant.asks, asks_many c.args.bytes.now c.loop-i.i, c.args.p.now.in_range.few_places))

pub push-requires-in-loop-i : goal.push-requires-in-loop-i
push-requires-in-loop-i c = (omega arith, omega (arith, ap length c.loop-i.invariant.words, words_many c.args.bytes.now c.loop-i.i, c.args.p.now.in_range.few_places))

pub loop-i-preserved : goal.loop-i-preserved
loop-i-preserved c = record {
  asks = c.push.ensures.items ∙ ap (λ (l : List (Option ℕ)). l ++ c.in-Ok.ask ∷ []) c.loop-i.invariant.asks ∙ ap (λ (a : Option ℕ). asks_in c.args.bytes.now c.loop-i.i ++ a ∷ []) c.in-Ok.ensures.1 ∙ sym (asks_more c.args.bytes.now c.loop-i.i);
  words = c.push-in-loop-i.ensures.items ∙ ap (λ (l : List ℕ). l ++ c.u64_at.result ∷ []) c.loop-i.invariant.words ∙ ap (λ (w : ℕ). words_in c.args.bytes.now c.loop-i.i ++ w ∷ []) c.u64_at.ensures ∙ sym (words_more c.args.bytes.now c.loop-i.i);
  kept = kept_on c.args.p.now c.args.bytes.now c.loop-i.i c.loop-i.invariant.kept c.in-Ok.ensures.0;
}
