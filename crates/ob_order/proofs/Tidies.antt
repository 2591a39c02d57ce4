-- Works in which nobody that goes on has a source that is gone stay so.
use Rattle.std.proofs.Common.{◌≡◌, ℕ, zero, suc, ◌+◌, ◌-◌, ◌<◌, ◌≤◌, Bool, true, false, not, ◌&&◌, if◌then◌else◌, List, [], ◌∷◌, ◌++◌, set, get_or, take, length, Option, None, Some, option_map, unwrap_or, slice_get, refl, sym, ap, ap₂, ◌∙◌, subst, ⊎_elim, arith, add-one}
use Rattle.std.specs.Option.{option_or}
use Rattle.std.proofs.lemmas.Bool.{cases_eq, cases_Bool, false≢true}
use Rattle.std.proofs.lemmas.Option.{none-some, same_Some, slice_get_within, slice_get_read}
use Rattle.std.proofs.lemmas.List.{take_more}
use Rattle.ob_order.specs.Works.{wait_for, Op, Get, Put, Del, Work, Version, Fell, is_going, at_ticket, edit, edit_index, goes_on, newest, end_work, Tidy, aborted_since, is_gone, least_of, source_in, least_source, fall, cascade, aborted, add_op, with_op}
use Rattle.ob_order.specs.Order.{OrderState, answer, write_op, fresh}
use Rattle.std.specs.FinMap as finite
use Rattle.ob_order.proofs.Edits.{slice_get-push, at_edit_same, at_edit_other}
use Rattle.ob_order.proofs.Newest.{with_op_cases, by_option, newest_found, held_goes}
use Rattle.ob_order.proofs.Falls.{fallen_waits, is_gone-edit, Fallen, fallen_aborted, fallen_ended, fallen_cascade, went_on_before, unbroken_cascade, length-aborted, length-cascade, fallen_then}

-- ---- for a loop that asks who is gone now: where nobody that goes on had a source that was gone before, that is the same

least_source-same : (p q : ℕ → Bool) (os : List (Op ℕ)) → ((i k : ℕ) (r : Option (List ℕ)) (s : ℕ) → slice_get os i ≡ Some (Get k r s) → p s ≡ q s) → least_source p os ≡ least_source q os
least_source-same p q [] h = refl
least_source-same p q (Get k r s ∷ os) h = ap₂ least_of (ap (λ b. if b then Some s else None) (h 0 k r s refl)) (least_source-same p q os (λ i. h (suc i)))
least_source-same p q (Put k v ∷ os) h = least_source-same p q os (λ i. h (suc i))
least_source-same p q (Del k ∷ os) h = least_source-same p q os (λ i. h (suc i))

gone_since : (before now : List Work) (s : ℕ) → Fallen before now → is_gone before s ≡ false → aborted_since before now s ≡ is_gone now s
gone_since before now s h e = step (at_ticket before s) (at_ticket now s) (h.same_ops s) e
  where
    known : (b c : Bool) → not b ≡ false → (b && not c) ≡ not c
    known true c e = refl
    known false c e = absurd (false≢true (sym e))

    step : (b n : Option Work) → option_map (λ w. w.ops) n ≡ option_map (λ w. w.ops) b → unwrap_or (option_map (λ w. not (is_going w.fate)) b) false ≡ false
        → (unwrap_or (option_map (λ w. is_going w.fate) b) false && not (unwrap_or (option_map (λ w. is_going w.fate) n) false)) ≡ unwrap_or (option_map (λ w. not (is_going w.fate)) n) false
    step None None o e = refl
    step None (Some n) o e = absurd (none-some n.ops (sym o))
    step (Some b) None o e = absurd (none-some b.ops o)
    step (Some b) (Some n) o e = known (is_going b.fate) (is_going n.fate) e

-- who doesn't go on can't fall
pub fall_idle : (o : Option ℕ) (w : Work) → is_going w.fate ≡ false → fall o w ≡ w
fall_idle None w e = refl
fall_idle (Some on) w e = ap (λ b. record w { fate = if b then Fell on else w.fate }) e

pub fall_gone : (before now : List Work) (n : ℕ) (w : Work) → Tidy before → Fallen before now → slice_get now n ≡ Some w → fall (least_source (aborted_since before now) w.ops) w ≡ fall (least_source (is_gone now) w.ops) w
fall_gone before now n w tidy fallen there = ⊎_elim
    (λ going.
    let b = went_on_before before now fallen n w there going in
    ap (λ o. fall o w) (least_source-same (aborted_since before now) (is_gone now) w.ops (λ i k r s got.
    gone_since before now s fallen (tidy.at_each n b.0 b.1 b.2 i k r s (subst (λ (ops : List (Op ℕ)). slice_get ops i ≡ Some (Get k r s)) (sym b.3) got)))))
    (λ idle. fall_idle _ w idle ∙ sym (fall_idle _ w idle))
    (cases_Bool (is_going w.fate))

edit_index-set : {A : Type 0} (f : A → A) (xs : List A) (n : ℕ) (x : A) → slice_get xs n ≡ Some x → edit_index f xs n ≡ set xs n (f x)
edit_index-set f [] n x e = absurd (none-some x e)
edit_index-set f (y ∷ ys) zero x e = ap (λ z. f z ∷ ys) (same_Some y x e)
edit_index-set f (y ∷ ys) (suc n) x e = ap (λ zs. y ∷ zs) (edit_index-set f ys n x e)

pub edit_set : {A : Type 0} (f : A → A) (xs : List A) (n : ℕ) (x : A) → n < length xs → x ≡ get_or xs n x → edit f xs (n + 1) ≡ set xs n (f x)
edit_set f xs n x l e = ap (edit f xs) (add-one n) ∙ edit_index-set f xs n x (slice_get_read xs (length xs) n x refl l e)

-- the loop of an abort, one ticket on
pub cascade_more : (before now : List Work) (n : ℕ) (w : Work) → Tidy before → Fallen before now → n < length now → w ≡ get_or (cascade before now n) n w
    → cascade before now (n + 1) ≡ set (cascade before now n) n (fall (least_source (is_gone (cascade before now n)) w.ops) w)
cascade_more before now n w tidy fallen l e =
    let mid = cascade before now n in
    let there : slice_get mid n ≡ Some w = slice_get_read mid (length mid) n w refl (subst (λ q. n < q) (sym (length-cascade before now n)) l) e in
    ap (cascade before now) (add-one n) ∙ (edit_index-set _ mid n w there ∙ ap (set mid n) (fall_gone before mid n w tidy (fallen_then before now mid fallen (fallen_cascade before now n)) there))

least_of-assoc : (a b c : Option ℕ) → least_of (least_of a b) c ≡ least_of a (least_of b c)
least_of-assoc None b c = refl
least_of-assoc (Some a) None c = refl
least_of-assoc (Some a) (Some b) None = refl
least_of-assoc (Some a) (Some b) (Some c) = ap Some (omega arith)

least_source-push : (p : ℕ → Bool) (os : List (Op ℕ)) (o : Op ℕ) → least_source p (os ++ o ∷ []) ≡ least_of (least_source p os) (source_in p o)
least_source-push p [] o = step (source_in p o)
  where
    step : (a : Option ℕ) → least_of a None ≡ a
    step None = refl
    step (Some a) = refl
least_source-push p (x ∷ os) o = ap (least_of (source_in p x)) (least_source-push p os o) ∙ sym (least_of-assoc (source_in p x) (least_source p os) (source_in p o))

pub least_source_more : (p : ℕ → Bool) (os : List (Op ℕ)) (i : ℕ) (o : Op ℕ) → i < length os → o ≡ get_or os i o → least_source p (take (i + 1) os) ≡ least_of (least_source p (take i os)) (source_in p o)
least_source_more p os i o l e = ap (least_source p) (take_more os i o l ∙ ap (λ x. take i os ++ x ∷ []) (sym e)) ∙ least_source-push p (take i os) o

-- the same from the ticket's side
pub edit_set_before : {A : Type 0} (f : A → A) (xs : List A) (t : ℕ) (x : A) → 0 < t → t ≤ length xs → x ≡ get_or xs (t - 1) x → edit f xs t ≡ set xs (t - 1) (f x)
edit_set_before f xs zero x l g e = absurd (omega arith)
edit_set_before f xs (suc n) x l g e = edit_index-set f xs n x (slice_get_read xs (length xs) n x refl g (e ∙ ap (λ i. get_or xs i x) (sub-one-suc n))) ∙ ap (λ i. set xs i (f x)) (sym (sub-one-suc n))
  where
    sub-one-suc : (n : ℕ) → suc n - 1 ≡ n
    sub-one-suc n = omega arith

-- ---- tidy works stay tidy

gone_op : (ws : List Work) (t : ℕ) (o : Op ℕ) (s : ℕ) → is_gone (with_op ws t o) s ≡ is_gone ws s
gone_op ws t o s = ⊎_elim
    (λ same. subst (λ q. is_gone (with_op ws t o) q ≡ is_gone ws q) (sym same) (ap (λ x. unwrap_or (option_map (λ w. not (is_going w.fate)) x) false) (at_edit_same (add_op o) ws t) ∙ grown (at_ticket ws t)))
    (λ other. ap (λ x. unwrap_or (option_map (λ w. not (is_going w.fate)) x) false) (at_edit_other (add_op o) ws t s other))
    (cases_eq s t)
  where
    grown : (w : Option Work) → unwrap_or (option_map (λ w. not (is_going w.fate)) (option_map (add_op o) w)) false ≡ unwrap_or (option_map (λ w. not (is_going w.fate)) w) false
    grown None = refl
    grown (Some w) = refl

pub tidy_op : (ws : List Work) (t : ℕ) (o : Op ℕ) → Tidy ws → ((k : ℕ) (r : Option (List ℕ)) (s : ℕ) → o ≡ Get k r s → (s ≤ t) × (is_gone ws s ≡ false)) → Tidy (with_op ws t o)
tidy_op ws t o h new = record {
  rises = record { at_each = λ u w there going i k r s got. (both u w there going i k r s got).0 };
  at_each = λ u w there going i k r s got. gone_op ws t o s ∙ (both u w there going i k r s got).1;
}
  where
    both : (u : ℕ) (w : Work) → slice_get (with_op ws t o) u ≡ Some w → is_going w.fate ≡ true → (i k : ℕ) (r : Option (List ℕ)) (s : ℕ) → slice_get w.ops i ≡ Some (Get k r s) → (s ≤ suc u) × (is_gone ws s ≡ false)
    both u w there going i k r s got = ⊎_elim
        (λ c. (h.rises.at_each u w c.0 going i k r s got, h.at_each u w c.0 going i k r s got))
        (λ c.
        let v = c.0 in
        let v_going : is_going v.fate ≡ true = ap (λ x. is_going x.fate) c.3 ∙ going in
        let got_there : slice_get (v.ops ++ o ∷ []) i ≡ Some (Get k r s) = ap (λ x. slice_get x.ops i) c.3 ∙ got in
        ⊎_elim
        (λ old. (h.rises.at_each u v c.1 v_going i k r s (sym old ∙ got_there), h.at_each u v c.1 v_going i k r s (sym old ∙ got_there)))
        (λ last. let n = new k r s (same_Some o (Get k r s) (sym last.2 ∙ got_there)) in (subst (λ q. s ≤ q) (sym c.2) n.0, n.1))
        (slice_get-push v.ops o i))
        (with_op_cases ws t o u w there)

going_not_gone : (ws : List Work) (s : ℕ) → goes_on ws s ≡ true → is_gone ws s ≡ false
going_not_gone ws s e = step (at_ticket ws s) e
  where
    step : (w : Option Work) → unwrap_or (option_map (λ w. is_going w.fate) w) false ≡ true → unwrap_or (option_map (λ w. not (is_going w.fate)) w) false ≡ false
    step None e = refl
    step (Some w) e = ap not e

-- what an answer comes from stands at or below the ticket, and goes on or is the base
pub answer_source : (o : OrderState) (t k : ℕ) (v : Version) → answer o t k ≡ Some v → (v.source ≤ t) × (is_gone o.works v.source ≡ false)
answer_source o t k v e = by_option (newest o.works t k)
    (λ none. from_base (finite.get o.bases k) (ap (λ n. option_or n (option_map (λ x. let q : Version = record { source = 0; value = x } in q) (finite.get o.bases k))) (sym none) ∙ e))
    (λ w is.
    let same : w ≡ v = same_Some w v (ap (λ n. option_or n (option_map (λ x. let q : Version = record { source = 0; value = x } in q) (finite.get o.bases k))) (sym is) ∙ e) in
    let f = newest_found o.works t k w is in
    subst (λ (q : Version). (q.source ≤ t) × (is_gone o.works q.source ≡ false)) same (f.at_or_below, going_not_gone o.works w.source (held_goes o.works w.source k w.value f.held)))
  where
    from_base : (b : Option (Option (List ℕ))) → option_map (λ x. let q : Version = record { source = 0; value = x } in q) b ≡ Some v → (v.source ≤ t) × (is_gone o.works v.source ≡ false)
    from_base None e = absurd (none-some v e)
    from_base (Some x) e = subst (λ (q : Version). (q.source ≤ t) × (is_gone o.works q.source ≡ false)) (same_Some _ v e) (omega arith, refl)

pub tidy_got : (o : OrderState) (t k : ℕ) (v : Version) → Tidy o.works → answer o t k ≡ Some v → Tidy (with_op o.works t (Get k v.value v.source))
tidy_got o t k v h e = tidy_op o.works t (Get k v.value v.source) h (λ j r s same.
    let from : v.source ≡ s = cc in subst (λ q. (q ≤ t) × (is_gone o.works q ≡ false)) from (answer_source o t k v e))

pub tidy_wrote : (ws : List Work) (t k : ℕ) (v : Option (List ℕ)) → Tidy ws → Tidy (with_op ws t (write_op k v))
tidy_wrote ws t k None h = tidy_op ws t (Del k) h (λ j r s e. let q : Del k ≡ Get j r s = e in absurd (cc))
tidy_wrote ws t k (Some v) h = tidy_op ws t (Put k v) h (λ j r s e. let q : Put k v ≡ Get j r s = e in absurd (cc))

pub tidy_aborted : (ws : List Work) (t : ℕ) → Tidy ws → Tidy (aborted ws t)
tidy_aborted ws t h =
    let vs = aborted ws t in
    let fallen = fallen_aborted ws t in
    let unbroken = unbroken_cascade ws (edit end_work ws t) (length ws) h.rises (fallen_ended ws t) in
    let before : (u : ℕ) (w : Work) → slice_get vs u ≡ Some w → is_going w.fate ≡ true → (v : Work) × (slice_get ws u ≡ Some v) × (is_going v.fate ≡ true) × (v.ops ≡ w.ops) = went_on_before ws vs fallen in
    record {
      rises = record { at_each = λ u w there going i k r s got. let b = before u w there going in h.rises.at_each u b.0 b.1 b.2 i k r s (ap (λ ops. slice_get ops i) b.3 ∙ got) };
      at_each = λ u w there going i k r s got. let b = before u w there going in
          sym (gone_since ws vs s fallen (h.at_each u b.0 b.1 b.2 i k r s (ap (λ ops. slice_get ops i) b.3 ∙ got)))
          ∙ unbroken.at_each u w (subst (λ q. u < q) (length-aborted ws t) (slice_get_within vs u w there)) there going i k r s got;
    }

pub tidy_none : Tidy []
tidy_none = record { rises = record { at_each = λ u w there. absurd (none-some w there) }; at_each = λ u w there. absurd (none-some w there) }

pub tidy_begun : (ws : List Work) → Tidy ws → Tidy (ws ++ fresh ∷ [])
tidy_begun ws h = record {
  rises = record {
    at_each = λ u w there going i k r s got. ⊎_elim
        (λ old. h.rises.at_each u w (sym old ∙ there) going i k r s got)
        (λ last. absurd (none-some _ (ap (λ x. slice_get x.ops i) (same_Some fresh w (sym last.2 ∙ there)) ∙ got)))
        (slice_get-push ws fresh u);
  };
  at_each = λ u w there going i k r s got. gone_begun s ∙ ⊎_elim
      (λ old. h.at_each u w (sym old ∙ there) going i k r s got)
      (λ last. absurd (none-some _ (ap (λ x. slice_get x.ops i) (same_Some fresh w (sym last.2 ∙ there)) ∙ got)))
      (slice_get-push ws fresh u);
}
  where
    gone_begun : (s : ℕ) → is_gone (ws ++ fresh ∷ []) s ≡ is_gone ws s
    gone_begun zero = refl
    gone_begun (suc n) = ⊎_elim
        (λ old. ap (λ x. unwrap_or (option_map (λ w. not (is_going w.fate)) x) false) old)
        (λ last. ap (λ x. unwrap_or (option_map (λ w. not (is_going w.fate)) x) false) last.2 ∙ ap (λ x. unwrap_or (option_map (λ w. not (is_going w.fate)) x) false) (sym last.1))
        (slice_get-push ws fresh n)

-- a get that has to wait leaves them so
pub tidy_waits : (ws : List Work) (t k : ℕ) → Tidy ws → Tidy (edit (wait_for k) ws t)
tidy_waits ws t k h =
    let vs = edit (wait_for k) ws t in
    let before : (u : ℕ) (w : Work) → slice_get vs u ≡ Some w → is_going w.fate ≡ true → (v : Work) × (slice_get ws u ≡ Some v) × (is_going v.fate ≡ true) × (v.ops ≡ w.ops) = went_on_before ws vs (fallen_waits ws t k) in
    record {
      rises = record { at_each = λ u w there going i j r s got. let b = before u w there going in h.rises.at_each u b.0 b.1 b.2 i j r s (ap (λ ops. slice_get ops i) b.3 ∙ got) };
      at_each = λ u w there going i j r s got. let b = before u w there going in
          is_gone-edit (wait_for k) ws t s (λ v. refl) ∙ h.at_each u b.0 b.1 b.2 i j r s (ap (λ ops. slice_get ops i) b.3 ∙ got);
    }
