use Rattle.std.proofs.Common.{◌≡◌, ◌∷◌, [], false, Err, IsTrue, inl, inr, refl, sym, ap, subst, ◌∙◌}
use Rattle.std.proofs.lemmas.Bool.{false≢true}
use Rattle.ob_base.specs.declared.fault.Fault.{Fault}
use Rattle.ob_base.specs.declared.fault.Check.TheVariants.{Form}
use Rattle.ob_base.specs.Fields.{first_out_of_range}
use Rattle.ob_cells.specs.Numbers.{told_number}
use Rattle.ob_store.specs.Calls.{IsStoreFault}
use Rattle.ob_start.specs.Heads.{head_number_at, first_bad, IsHeadRead, IsHeadFault}
use Rattle.ob_start.proofs.heads.open_head.Goals as goal

pub returns-then-not-is_marked-clause-read : goal.returns-then-not-is_marked-clause-read
returns-then-not-is_marked-clause-read c = λ marked. (let wrong : IsTrue false = c.if-not-is_marked.ensures.1 marked in false≢true wrong)

-- ---- the tag

pub returns-in-Err-clause-read : goal.returns-in-Err-clause-read
returns-in-Err-clause-read c =
    subst (λ (f : Fault). IsHeadRead c.args.sealer.now.keys c.args.version c.args.bytes.now (Err f)) (sym c.from.ensures) (c.if-not-is_marked.ensures.0 refl, inl c.in-Err.ensures.damaged)

pub returns-in-Err-clause-faults : goal.returns-in-Err-clause-faults
returns-in-Err-clause-faults c = subst IsHeadFault (sym c.from.ensures) tt

pub returns-in-Err-clause-own : goal.returns-in-Err-clause-own
returns-in-Err-clause-own c = λ blamed. subst IsStoreFault c.from.ensures blamed

-- ---- the numbers

pub returns-in-Ok-read-clause-read : goal.returns-in-Ok-read-clause-read
returns-in-Ok-read-clause-read c =
    let made = c.in-Ok-read.ensures.made in
    let n = sym (made.0 ∙ c.number_at.ensures) in
    let l = sym (made.1 ∙ c.number_at-2.ensures) in
    let z = sym (made.2 ∙ c.number_at-3.ensures) in
    let s = sym (made.3 ∙ c.number_at-4.ensures) in
    let r = sym (made.4 ∙ c.number_at-5.ensures) in
    let br = sym (made.5 ∙ c.number_at-6.ensures) in
    let bw = sym (made.6 ∙ c.number_at-7.ensures) in
    let e = sym (made.7 ∙ c.number_at-8.ensures) in
    let t = sym (made.8 ∙ c.number_at-9.ensures) in
    record {
      marked = c.if-not-is_marked.ensures.0 refl;
      stamped = c.in-Ok.ensures.plain.1;
      numbers = λ i. n i ∷ l i ∷ z i ∷ s i ∷ r i ∷ br i ∷ bw i ∷ e i ∷ t i ∷ [];
    }

pub returns-in-Err-read-clause-read : goal.returns-in-Err-read-clause-read
returns-in-Err-read-clause-read c =
    let first : first_out_of_range c.number_at.result c.number_at-2.result c.number_at-3.result c.number_at-4.result c.number_at-5.result c.number_at-6.result c.number_at-7.result c.number_at-8.result
    c.number_at-9.result ≡ first_bad c.args.bytes.now = λ i. first_out_of_range (c.number_at.ensures i) (c.number_at-2.ensures i) (c.number_at-3.ensures i) (c.number_at-4.ensures i)
    (c.number_at-5.ensures i) (c.number_at-6.ensures i) (c.number_at-7.ensures i) (c.number_at-8.ensures i) (c.number_at-9.ensures i) in
    let number : c.number_at-number.result ≡ head_number_at c.args.bytes.now c.place_of.result = c.number_at-number.ensures in
    subst (λ (f : Fault). IsHeadRead c.args.sealer.now.keys c.args.version c.args.bytes.now (Err f)) (sym c.from-in-Err-read.ensures) (
      c.if-not-is_marked.ensures.0 refl,
      inr (
        c.in-Ok.ensures.plain.1,
        record {
          field = c.in-Err-read.field;
          first = sym first ∙ c.in-Err-read.ensures.first;
          is = c.bad_number.ensures ∙ (λ i. record { cell = 0; check = Form; kept = told_number ((number ∙ ap (head_number_at c.args.bytes.now) c.place_of.ensures.place) i); computed = told_number 1 });
        },
      ),
    )

pub returns-in-Err-read-clause-faults : goal.returns-in-Err-read-clause-faults
returns-in-Err-read-clause-faults c = subst IsHeadFault (sym c.from-in-Err-read.ensures) tt

pub returns-in-Err-read-clause-own : goal.returns-in-Err-read-clause-own
returns-in-Err-read-clause-own c = λ blamed. subst IsStoreFault c.from-in-Err-read.ensures blamed
