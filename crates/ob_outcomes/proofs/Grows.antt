-- What was read stays read, and who is gone stays gone. Who falls has read from one that is gone.
use Rattle.std.proofs.Common.{◌≡◌, ℕ, zero, suc, ◌<◌, ◌≤◌, min, Bool, true, false, not, ◌&&◌, ◌==◌, if◌then◌else◌, List, [], ◌∷◌, ◌++◌, length, Option, None, Some, option_map, unwrap_or, slice_get, refl, sym, ap, ◌∙◌, subst, inl, inr, ◌⊎◌, ⊎_elim, arith}
use Rattle.std.specs.List.{list_any}
use Rattle.std.proofs.lemmas.Bool.{cases_eq, false≢true, or_left, or_right, and_from, eq-eqb}
use Rattle.std.proofs.lemmas.List.{append-nil}
use Rattle.std.proofs.lemmas.List.Folds.{list_any-append}
use Rattle.std.proofs.lemmas.Option.{none-some, same_Some}
use Rattle.ob_base.specs.declared.op.Op.{Op}
use Rattle.ob_base.specs.declared.op.Op.TheVariants.{Get, Put, Del}
use Rattle.ob_order.specs.declared.fate.Fate.TheVariants.{Fell}
use Rattle.ob_order.specs.Works.{Work, is_going, at_ticket, edit, goes_on, fate_at, is_gone, has_get, has_read, is_get_of, add_op, with_op, end_work, SourcesRise, aborted_since, least_of, source_in, least_source, fall, cascade, aborted}
use Rattle.ob_order.specs.Order.{fresh}
use Rattle.ob_order.proofs.Edits.{at_edit_same, at_edit_other, slice_get-push}
use Rattle.ob_order.proofs.Newest.{by_option}
use Rattle.ob_order.proofs.Falls.{ops_at, Fallen, fallen_edit, fallen_then, fallen_ended, fallen_cascade, went_on_before, is_gone-edit, fall_keeps, fall_stops}

pub record Grows (ws vs : List Work) : Type 0 where
  pub reads : (k s t : ℕ) → has_read ws k s t ≡ true → has_read vs k s t ≡ true
  pub gone : (s : ℕ) → is_gone ws s ≡ true → is_gone vs s ≡ true
  -- each transaction has the operations that it had, and perhaps more behind them
  pub longer : (t : ℕ) (os : List (Op ℕ)) → ops_at ws t ≡ Some os → (more : List (Op ℕ)) × (ops_at vs t ≡ Some (os ++ more))

pub grows_op : (ws : List Work) (t : ℕ) (o : Op ℕ) → Grows ws (with_op ws t o)
grows_op ws t o = record {
  reads = λ k s u e. ⊎_elim
      (λ same. subst (λ q. has_read (with_op ws t o) k s q ≡ true) (sym same) (ap (λ x. unwrap_or (option_map (λ w. has_get w.ops k s) x) false) (at_edit_same (add_op o) ws t) ∙ more k s (at_ticket ws t) (subst (λ q. has_read ws k s q ≡ true) same e)))
      (λ other. ap (λ x. unwrap_or (option_map (λ w. has_get w.ops k s) x) false) (at_edit_other (add_op o) ws t u other) ∙ e)
      (cases_eq u t);
  gone = λ s e. is_gone-edit (add_op o) ws t s (λ w. refl) ∙ e;
  longer = λ u os e. ⊎_elim
      (λ same. (
        o ∷ [],
        subst (λ q. ops_at (with_op ws t o) q ≡ Some (os ++ o ∷ [])) (sym same)
            (ap (option_map (λ w. w.ops)) (at_edit_same (add_op o) ws t) ∙ pushed os (at_ticket ws t) (subst (λ q. ops_at ws q ≡ Some os) same e)),
      ))
      (λ other. ([], ap (option_map (λ w. w.ops)) (at_edit_other (add_op o) ws t u other) ∙ e ∙ ap Some (sym (append-nil os))))
      (cases_eq u t);
}
  where
    pushed : (os : List (Op ℕ)) (x : Option Work) → option_map (λ w. w.ops) x ≡ Some os → option_map (λ w. w.ops) (option_map (add_op o) x) ≡ Some (os ++ o ∷ [])
    pushed os None e = absurd (none-some os e)
    pushed os (Some w) e = ap (λ xs. Some (xs ++ o ∷ [])) (same_Some w.ops os e)

    more : (k s : ℕ) (x : Option Work) → unwrap_or (option_map (λ w. has_get w.ops k s) x) false ≡ true → unwrap_or (option_map (λ w. has_get w.ops k s) (option_map (add_op o) x)) false ≡ true
    more k s None e = e
    more k s (Some w) e = list_any-append (is_get_of k s) w.ops (o ∷ []) ∙ or_left (has_get w.ops k s) (has_get (o ∷ []) k s) e

pub grows_begun : (ws : List Work) → Grows ws (ws ++ fresh ∷ [])
grows_begun ws = record { reads = reads; gone = gone; longer = longer }
  where
    longer : (t : ℕ) (os : List (Op ℕ)) → ops_at ws t ≡ Some os → (more : List (Op ℕ)) × (ops_at (ws ++ fresh ∷ []) t ≡ Some (os ++ more))
    longer zero os e = absurd (none-some os e)
    longer (suc n) os e = ⊎_elim
        (λ old. ([], ap (option_map (λ w. w.ops)) old ∙ e ∙ ap Some (sym (append-nil os))))
        (λ last. absurd (none-some os (sym (ap (option_map (λ w. w.ops)) last.1) ∙ e)))
        (slice_get-push ws fresh n)

    reads : (k s t : ℕ) → has_read ws k s t ≡ true → has_read (ws ++ fresh ∷ []) k s t ≡ true
    reads k s zero e = e
    reads k s (suc n) e = ⊎_elim
        (λ old. ap (λ o. unwrap_or (option_map (λ w. has_get w.ops k s) o) false) old ∙ e)
        (λ last. absurd (false≢true (sym (ap (λ o. unwrap_or (option_map (λ w. has_get w.ops k s) o) false) last.1) ∙ e)))
        (slice_get-push ws fresh n)

    gone : (s : ℕ) → is_gone ws s ≡ true → is_gone (ws ++ fresh ∷ []) s ≡ true
    gone zero e = e
    gone (suc n) e = ⊎_elim
        (λ old. ap (λ o. unwrap_or (option_map (λ w. not (is_going w.fate)) o) false) old ∙ e)
        (λ last. absurd (false≢true (sym (ap (λ o. unwrap_or (option_map (λ w. not (is_going w.fate)) o) false) last.1) ∙ e)))
        (slice_get-push ws fresh n)

pub grows_fallen : (ws vs : List Work) → Fallen ws vs → Grows ws vs
grows_fallen ws vs h = record {
  reads = λ k s t e. same_reads k s (at_ticket vs t) (at_ticket ws t) (h.same_ops t) ∙ e;
  gone = λ s e. still (at_ticket ws s) (at_ticket vs s) (h.same_ops s) (h.went_on s) e;
  longer = λ t os e. ([], h.same_ops t ∙ e ∙ ap Some (sym (append-nil os)));
}
  where
    same_reads : (k s : ℕ) (v w : Option Work) → option_map (λ x. x.ops) v ≡ option_map (λ x. x.ops) w → unwrap_or (option_map (λ x. has_get x.ops k s) v) false ≡ unwrap_or (option_map (λ x. has_get x.ops k s) w) false
    same_reads k s None None e = refl
    same_reads k s None (Some w) e = absurd (none-some w.ops e)
    same_reads k s (Some v) None e = absurd (none-some v.ops (sym e))
    same_reads k s (Some v) (Some w) e = ap (λ os. has_get os k s) (same_Some v.ops w.ops e)

    was_going : (b c : Bool) → (c ≡ true → b ≡ true) → not b ≡ true → not c ≡ true
    was_going b false f e = refl
    was_going b true f e = absurd (false≢true (sym (ap not (f refl)) ∙ e))

    still : (w v : Option Work) → option_map (λ x. x.ops) v ≡ option_map (λ x. x.ops) w → (unwrap_or (option_map (λ x. is_going x.fate) v) false ≡ true → unwrap_or (option_map (λ x. is_going x.fate) w) false ≡ true)
        → unwrap_or (option_map (λ x. not (is_going x.fate)) w) false ≡ true → unwrap_or (option_map (λ x. not (is_going x.fate)) v) false ≡ true
    still None v o f e = absurd (false≢true e)
    still (Some w) None o f e = absurd (none-some w.ops o)
    still (Some w) (Some v) o f e = was_going (is_going w.fate) (is_going v.fate) f e

-- ---- who falls

-- ticket t has read from an earlier one, which is gone
pub record HasLost (ws : List Work) (t on : ℕ) : Type 0 where
  pub earlier : on < t
  pub key : ℕ
  pub read : has_read ws key on t ≡ true
  pub gone : is_gone ws on ≡ true

pub lost_grows : (ws vs : List Work) (t on : ℕ) → Grows ws vs → HasLost ws t on → HasLost vs t on
lost_grows ws vs t on g h = record { earlier = h.earlier; key = h.key; read = g.reads h.key on t h.read; gone = g.gone on h.gone }

least_of-one : (a b : Option ℕ) (n : ℕ) → least_of a b ≡ Some n → (a ≡ Some n) ⊎ (b ≡ Some n)
least_of-one None b n e = inr e
least_of-one (Some a) None n e = inl e
least_of-one (Some a) (Some b) n e =
    let is : min a b ≡ n = same_Some (min a b) n e in
    ⊎_elim (λ l. inl (ap Some (l ∙ is))) (λ l. inr (ap Some (l ∙ is))) (one_of a b)
  where
    one_of : (a b : ℕ) → (a ≡ min a b) ⊎ (b ≡ min a b)
    one_of a b = ⊎_elim (λ same. inl same) (λ other. inr (omega arith)) (cases_eq a (min a b))

source_in-found : (p : ℕ → Bool) (s n : ℕ) → (if p s then Some s else None) ≡ Some n → (s ≡ n) × (p s ≡ true)
source_in-found p s n e = step (p s) refl e
  where
    step : (b : Bool) → p s ≡ b → (if b then Some s else None) ≡ Some n → (s ≡ n) × (p s ≡ true)
    step true is e = (same_Some s n e, is)
    step false is e = absurd (none-some n e)

-- the least source is that of a Get, and passes
record IsSource (p : ℕ → Bool) (os : List (Op ℕ)) (on : ℕ) : Type 0 where
  place : ℕ
  key : ℕ
  reply : Option (List ℕ)
  got : slice_get os place ≡ Some (Get key reply on)
  passes : p on ≡ true

least_source-found : (p : ℕ → Bool) (os : List (Op ℕ)) (on : ℕ) → least_source p os ≡ Some on → IsSource p os on
least_source-found p [] on e = absurd (none-some on e)
least_source-found p (o ∷ os) on e = ⊎_elim
    (λ first. at_first o first)
    (λ later. let s = least_source-found p os on later in record { place = suc s.place; key = s.key; reply = s.reply; got = s.got; passes = s.passes })
    (least_of-one (source_in p o) (least_source p os) on e)
  where
    at_first : (q : Op ℕ) → source_in p q ≡ Some on → IsSource p (q ∷ os) on
    at_first (Get k r s) f = let is = source_in-found p s on f in record { place = 0; key = k; reply = r; got = ap (λ x. Some (Get k r x)) is.0; passes = ap p (sym is.0) ∙ is.1 }
    at_first (Put k v) f = absurd (none-some on f)
    at_first (Del k) f = absurd (none-some on f)

-- how ticket t stands after others were aborted: as before, or it went on and fell
pub record Stands (before now after : List Work) (t : ℕ) : Type 0 where
  pub either : (fate_at after t ≡ fate_at now t) ⊎ ((on : ℕ) × (fate_at after t ≡ Some (Fell on)) × (goes_on now t ≡ true) × HasLost after t on)

fall_fate : (o : Option ℕ) (w : Work) → ((fall o w).fate ≡ w.fate) ⊎ ((on : ℕ) × (o ≡ Some on) × (is_going w.fate ≡ true) × ((fall o w).fate ≡ Fell on))
fall_fate None w = inl refl
fall_fate (Some on) w = step (is_going w.fate) refl
  where
    step : (b : Bool) → is_going w.fate ≡ b → ((if b then Fell on else w.fate) ≡ w.fate) ⊎ ((s : ℕ) × (Some on ≡ Some s) × (is_going w.fate ≡ true) × ((if b then Fell on else w.fate) ≡ Fell s))
    step true is = inr (on, refl, is, refl)
    step false is = inl refl

-- aborted since: it went on, and doesn't any more
gone_of_since : (before now : List Work) (s : ℕ) → Fallen before now → aborted_since before now s ≡ true → (is_gone now s ≡ true) × (goes_on now s ≡ false)
gone_of_since before now s h e = step (at_ticket before s) (at_ticket now s) (h.same_ops s) e
  where
    bits : (b c : Bool) → (b && not c) ≡ true → (not c ≡ true) × (c ≡ false)
    bits true true e = absurd (false≢true e)
    bits true false e = (refl, refl)
    bits false c e = absurd (false≢true e)

    step : (b n : Option Work) → option_map (λ w. w.ops) n ≡ option_map (λ w. w.ops) b → (unwrap_or (option_map (λ w. is_going w.fate) b) false && not (unwrap_or (option_map (λ w. is_going w.fate) n) false)) ≡ true
        → (unwrap_or (option_map (λ w. not (is_going w.fate)) n) false ≡ true) × (unwrap_or (option_map (λ w. is_going w.fate) n) false ≡ false)
    step None n o e = absurd (false≢true e)
    step (Some b) None o e = absurd (none-some b.ops o)
    step (Some b) (Some n) o e = bits (is_going b.fate) (is_going n.fate) e

any_at : (p : Op ℕ → Bool) (os : List (Op ℕ)) (i : ℕ) (o : Op ℕ) → slice_get os i ≡ Some o → p o ≡ true → list_any p os ≡ true
any_at p [] i o e q = absurd (none-some o e)
any_at p (x ∷ os) zero o e q = or_left (p x) (list_any p os) (ap p (same_Some x o e) ∙ q)
any_at p (x ∷ os) (suc i) o e q = or_right (p x) (list_any p os) (any_at p os i o e q)

module _ (before now : List Work) (n : ℕ) (rises : SourcesRise before) (fallen : Fallen before now) where
  abbrev mid : List Work
  mid = cascade before now n

  abbrev falls : Work → Work
  falls w = fall (least_source (aborted_since before mid) w.ops) w

  abbrev next : List Work
  next = edit falls mid (suc n)

  grows_next : Grows mid next
  grows_next = grows_fallen mid next (fallen_edit falls mid (suc n) (λ w. fall_keeps (least_source (aborted_since before mid) w.ops) w) (λ w. fall_stops (least_source (aborted_since before mid) w.ops) w))

  -- with the same fate it stands as it stood
  as_before : (t : ℕ) → fate_at next t ≡ fate_at mid t → Stands before now mid t → Stands before now next t
  as_before t same h = record {
    either = ⊎_elim
        (λ kept. inl (same ∙ kept))
        (λ fell. inr (fell.0, same ∙ fell.1, fell.2, lost_grows mid next t fell.0 grows_next fell.3))
        h.either;
  }

  -- who falls has lost a source
  loses : (w : Work) (on : ℕ) → slice_get mid n ≡ Some w → is_going w.fate ≡ true → least_source (aborted_since before mid) w.ops ≡ Some on → HasLost mid (suc n) on
  loses w on there going found =
      let all = fallen_then before now mid fallen (fallen_cascade before now n) in
      let src = least_source-found (aborted_since before mid) w.ops on found in
      let gone = gone_of_since before mid on all src.passes in
      let b = went_on_before before mid all n w there going in
      let low : on ≤ suc n = rises.at_each n b.0 b.1 b.2 src.place src.key src.reply on (ap (λ os. slice_get os src.place) b.3 ∙ src.got) in
      let goes : goes_on mid (suc n) ≡ true = ap (λ o. unwrap_or (option_map (λ x. is_going x.fate) o) false) there ∙ going in
      record {
        earlier = ⊎_elim (λ same. absurd (false≢true (sym gone.1 ∙ (ap (goes_on mid) same ∙ goes)))) (λ other. omega arith) (cases_eq on (suc n));
        key = src.key;
        read = ap (λ o. unwrap_or (option_map (λ x. has_get x.ops src.key on) o) false) there
            ∙ any_at (is_get_of src.key on) w.ops src.place (Get src.key src.reply on) src.got (and_from (src.key == src.key) (on == on) (eq-eqb src.key src.key refl) (eq-eqb on on refl));
        gone = gone.0;
      }

  stands_here : Stands before now mid (suc n) → Stands before now next (suc n)
  stands_here h = by_option (slice_get mid n)
      (λ none. as_before (suc n) (ap (option_map (λ w. w.fate)) (at_edit_same falls mid (suc n) ∙ (ap (option_map falls) none ∙ sym none))) h)
      (λ w there.
      let made : fate_at next (suc n) ≡ Some (falls w).fate = ap (option_map (λ x. x.fate)) (at_edit_same falls mid (suc n) ∙ ap (option_map falls) there) in
      ⊎_elim
      (λ kept. as_before (suc n) (made ∙ (ap Some kept ∙ sym (ap (option_map (λ x. x.fate)) there))) h)
      (λ fell. record {
        either = inr (
          fell.0,
          made ∙ ap Some fell.3,
          (fallen_cascade before now n).went_on (suc n) (ap (λ o. unwrap_or (option_map (λ x. is_going x.fate) o) false) there ∙ fell.2),
          lost_grows mid next (suc n) fell.0 grows_next (loses w fell.0 there fell.2 fell.1),
        );
      })
      (fall_fate (least_source (aborted_since before mid) w.ops) w))

  stands_next : (t : ℕ) → Stands before now mid t → Stands before now next t
  stands_next t h = ⊎_elim
      (λ same. subst (Stands before now next) (sym same) (stands_here (subst (Stands before now mid) same h)))
      (λ other. as_before t (ap (option_map (λ w. w.fate)) (at_edit_other falls mid (suc n) t other)) h)
      (cases_eq t (suc n))

stands_cascade : (before now : List Work) (n t : ℕ) → SourcesRise before → Fallen before now → Stands before now (cascade before now n) t
stands_cascade before now zero t rises fallen = record { either = inl refl }
stands_cascade before now (suc n) t rises fallen = stands_next before now n rises fallen t (stands_cascade before now n t rises fallen)

-- how ticket t stands after ticket s was aborted
pub stands_aborted : (ws : List Work) (s t : ℕ) → SourcesRise ws → Stands ws (edit end_work ws s) (aborted ws s) t
stands_aborted ws s t rises = stands_cascade ws (edit end_work ws s) (length ws) t rises (fallen_ended ws s)
