use Rattle.std.proofs.Common.{◌≡◌, ℕ, ◌∷◌, [], ◌++◌, List, map, length, refl, sym, ap, subst, ◌∙◌, append_assoc, append-nil, length-append, arith}
use Rattle.std.proofs.lemmas.List.{length-map}
use Rattle.std.specs.Vec.Iter.{into_iter_items}
use Rattle.ob_serial.specs.declared.records.TxnRecord.{TxnRecord as CodeTxn}
use Rattle.ob_serial.specs.Serial.{TxnRecord}
use Rattle.ob_serial.specs.Views.{txn_of}
use Rattle.ob_order.specs.Works.{Work}
use Rattle.ob_desk.specs.Desk as desks
use Rattle.ob_desk.specs.Parts.{told_at}
use Rattle.ob_desk.proofs.Told.{told_more, length-told_at}
use Rattle.ob_desk.proofs.part.tell_all.Goals as goal

nothing_left : {X : Type 0} (l : List X) → length l ≡ 0 → l ≡ []
nothing_left [] h = refl
nothing_left (x ∷ xs) h = absurd (omega arith)

pub loop-work-preserved : goal.loop-work-preserved
loop-work-preserved c =
    let at = c.loop-work in
    let w = c.in-Some.work in
    let n = length at.told.items in
    let holders = c.args.holders.now in
    let steps : into_iter_items at.work-iterator ≡ w ∷ into_iter_items c.next.new.self = c.in-Some.ensures.steps.0 in
    let views : List (CodeTxn ℕ) → List (TxnRecord ℕ) = map (λ (t : CodeTxn ℕ). txn_of t) in
    let told : views c.tell.new.told.items ≡ views at.told.items ++ told_at c.args.epoch n w holders = c.tell.ensures.told in
    let more = ap length told ∙ length-append (views at.told.items) (told_at c.args.epoch n w holders) in
    let as_many = length-map c.tell.new.told.items (λ (t : CodeTxn ℕ). txn_of t) in
    let were = length-map at.told.items (λ (t : CodeTxn ℕ). txn_of t) in
    let next = length-told_at c.args.epoch n w holders (length at.yielded) at.invariant.3 in
    let longer = length-append at.yielded (w ∷ []) in (
      append_assoc at.yielded (w ∷ []) _ ∙ rw (← steps) at.invariant.0,
      (let was = at.invariant.1 in let gone = c.in-Some.ensures.steps.1 in let short = ap length steps in omega arith),
      told ∙ (ap (λ (ts : List (TxnRecord ℕ)). ts ++ told_at c.args.epoch n w holders) at.invariant.2 ∙ sym (told_more c.args.epoch at.yielded holders w n at.invariant.3)),
      omega (arith, more, as_many, were, next, longer),
      (let fits = at.invariant.4 in let room = c.tell.ensures.room in omega (arith, fits, room)),
    )

pub returns : goal.returns
returns c =
    let at = c.loop-work in
    let none = c.in-None.ensures.steps in
    let empty : into_iter_items at.work-iterator ≡ [] = nothing_left _ (sym at.invariant.1 ∙ none.0) in
    let all = sym (append-nil at.yielded) ∙ rw empty at at.invariant.0 ∙ c.into_iter-work-iterator.ensures.into_iter_gives.0 in
    subst (λ (ws : List Work). map (λ (t : CodeTxn ℕ). txn_of t) at.told.items ≡ desks.txns_from c.args.epoch 1 ws c.args.holders.now) all at.invariant.2
