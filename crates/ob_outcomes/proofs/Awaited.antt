-- What is queued has a place, and each key that is waited for is there, queued or in flight.
use Rattle.std.proofs.Common.{◌≡◌, ℕ, zero, suc, ◌+◌, ◌-◌, ◌*◌, ◌<◌, ◌≤◌, Bool, true, false, cond, not, ◌&&◌, ◌||◌, ◌==◌, if◌then◌else◌, List, [], ◌∷◌, ◌++◌, length, map, take, drop, replicate, Option}
use Rattle.std.proofs.Common.{None, Some, option_map, option_and_then, unwrap_or, slice_get, refl, sym, ap, ap₂, ◌∙◌, subst, inl, inr, ◌⊎◌, ⊎_elim, arith, nat_cmp, length-append, length-drop}
use Rattle.std.specs.List.{list_any}
use Rattle.std.specs.Option.{option_or}
use Rattle.std.specs.FinMap as finite
use Rattle.std.specs.FinMap.{get-insert}
use Rattle.std.specs.Cmp.{nat_cmp_total, unsigned_tied}
use Rattle.std.proofs.Math.Nat.{mul-suc}
use Rattle.std.proofs.lemmas.Bool.{cases_eq, false≢true, ne_eqb, eq-eqb, or_left, or_right, or_cases}
use Rattle.std.proofs.lemmas.Option.{none-some, same_Some}
use Rattle.ob_base.specs.declared.params.Params.{Params}
use Rattle.ob_base.specs.declared.op.Op.{Op}
use Rattle.ob_order.specs.Works.{Work, edit, at_ticket, newest, wait_for, add_op, end_work, stop_work, least_source, aborted_since, fall, cascade, aborted, waiting_at}
use Rattle.ob_order.specs.Order.{OrderState, fresh, new_order, asked, is_asked_for, answer, found, read_reply, after_queued, after_take, after_deliver, delivered}
use Rattle.ob_order.specs.declared.answers.Version.{Version}
use Rattle.ob_order.specs.declared.answers.Read.TheVariants.{Value as Found, Queued, Full as ReadsAreFull}
use Rattle.ob_order.proofs.Edits.{at_edit_same, at_edit_other, slice_get-push}
use Rattle.ob_order.proofs.Newest.{by_option}
use Rattle.ob_order.proofs.Batches.{delivered_pads}
use Rattle.ob_desk.proofs.Fine.{asked_bases}

-- the key of each unanswered get was delivered, or is queued or in flight
pub record Awaited (o : OrderState) : Type 0 where
  pub at_each : (t k : ℕ) → waiting_at o.works t ≡ Some k → finite.get o.bases k ≡ None → is_asked_for o k ≡ true

-- the batches that are left have a place for each queued key
pub record Fits (places : ℕ) (o : OrderState) : Type 0 where
  pub few : length o.queue ≤ places * o.left

pub awaited_new : (left : ℕ) → Awaited (new_order left)
awaited_new left = record { at_each = none }
  where
    none : (t k : ℕ) → waiting_at [] t ≡ Some k → finite.get (new_order left).bases k ≡ None → is_asked_for (new_order left) k ≡ true
    none zero k e n = absurd (none-some k e)
    none (suc t) k e n = absurd (none-some k e)

pub fits_new : (places left : ℕ) → Fits places (new_order left)
fits_new places left = record { few = omega arith }

-- ---- works that wait for no more than before

-- nobody waits for what it didn't wait for
pub record NoneWaits (ws vs : List Work) : Type 0 where
  pub at_each : (t k : ℕ) → waiting_at vs t ≡ Some k → waiting_at ws t ≡ Some k

pub awaited_works : (o : OrderState) (vs : List Work) → NoneWaits o.works vs → Awaited o → Awaited (record o { works = vs })
awaited_works o vs less h = record { at_each = λ t k e none. h.at_each t k (less.at_each t k e) none }

none_waits_edit : (f : Work → Work) (ws : List Work) (s : ℕ) → ((w : Work) (k : ℕ) → (f w).waiting ≡ Some k → w.waiting ≡ Some k) → NoneWaits ws (edit f ws s)
none_waits_edit f ws s keeps = record {
  at_each = λ t k e. ⊎_elim
      (λ same. subst (λ q. waiting_at ws q ≡ Some k) (sym same) (step (at_ticket ws s) k (ap (option_and_then (λ w. w.waiting)) (sym (at_edit_same f ws s)) ∙ subst (λ q. waiting_at (edit f ws s) q ≡ Some k) same e)))
      (λ other. ap (option_and_then (λ w. w.waiting)) (sym (at_edit_other f ws s t other)) ∙ e)
      (cases_eq t s);
}
  where
    step : (o : Option Work) (k : ℕ) → option_and_then (λ w. w.waiting) (option_map f o) ≡ Some k → option_and_then (λ w. w.waiting) o ≡ Some k
    step None k e = e
    step (Some w) k e = keeps w k e

none_waits_then : (us vs ws : List Work) → NoneWaits us vs → NoneWaits vs ws → NoneWaits us ws
none_waits_then us vs ws a b = record { at_each = λ t k e. a.at_each t k (b.at_each t k e) }

pub none_waits_op : (ws : List Work) (s : ℕ) (o : Op ℕ) → NoneWaits ws (edit (add_op o) ws s)
none_waits_op ws s o = none_waits_edit (add_op o) ws s (λ w k e. absurd (none-some k e))

none_waits_cascade : (before now : List Work) (n : ℕ) → NoneWaits now (cascade before now n)
none_waits_cascade before now zero = record { at_each = λ t k e. e }
none_waits_cascade before now (suc n) = none_waits_then now (cascade before now n) (cascade before now (suc n)) (none_waits_cascade before now n)
    (none_waits_edit (λ w. fall (least_source (aborted_since before (cascade before now n)) w.ops) w) (cascade before now n) (suc n) (λ w k e. fell (least_source (aborted_since before (cascade before now n)) w.ops) w k e))
  where
    fell : (o : Option ℕ) (w : Work) (k : ℕ) → (fall o w).waiting ≡ Some k → w.waiting ≡ Some k
    fell None w k e = e
    fell (Some on) w k e = e

pub none_waits_aborted : (ws : List Work) (s : ℕ) → NoneWaits ws (aborted ws s)
none_waits_aborted ws s = none_waits_then ws (edit end_work ws s) (aborted ws s) (none_waits_edit end_work ws s (λ w k e. e)) (none_waits_cascade ws (edit end_work ws s) (length ws))

pub none_waits_begun : (ws : List Work) → NoneWaits ws (ws ++ fresh ∷ [])
none_waits_begun ws = record { at_each = at_each }
  where
    at_each : (t k : ℕ) → waiting_at (ws ++ fresh ∷ []) t ≡ Some k → waiting_at ws t ≡ Some k
    at_each zero k e = absurd (none-some k e)
    at_each (suc n) k e = ⊎_elim
        (λ old. ap (option_and_then (λ w. w.waiting)) (sym old) ∙ e)
        (λ last. absurd (none-some k (sym (ap (option_and_then (λ w. w.waiting)) last.2) ∙ e)))
        (slice_get-push ws fresh n)

pub none_waits_stopped : (ws : List Work) → NoneWaits ws (map stop_work ws)
none_waits_stopped ws = record { at_each = at_each }
  where
    there : (vs : List Work) (n k : ℕ) → option_and_then (λ w. w.waiting) (slice_get (map stop_work vs) n) ≡ Some k → option_and_then (λ w. w.waiting) (slice_get vs n) ≡ Some k
    there [] n k e = e
    there (v ∷ vs) zero k e = e
    there (v ∷ vs) (suc n) k e = there vs n k e

    at_each : (t k : ℕ) → waiting_at (map stop_work ws) t ≡ Some k → waiting_at ws t ≡ Some k
    at_each zero k e = absurd (none-some k e)
    at_each (suc n) k e = there ws n k e

-- ---- a get that has to wait

asked_for_push : (o : OrderState) (k j : ℕ) → is_asked_for o j ≡ true → is_asked_for (asked o k) j ≡ true
asked_for_push o k j e = step (is_asked_for o k)
  where
    step : (b : Bool) → is_asked_for (if b then o else record o { queue = o.queue ++ k ∷ [] }) j ≡ true
    step true = e
    step false = ⊎_elim
        (λ q. or_left (list_any (λ i. i == j) (o.queue ++ k ∷ [])) (list_any (λ i. i == j) o.flying) (in_front o.queue q))
        (λ f. or_right (list_any (λ i. i == j) (o.queue ++ k ∷ [])) (list_any (λ i. i == j) o.flying) f)
        (or_cases (list_any (λ i. i == j) o.queue) (list_any (λ i. i == j) o.flying) e)
      where
        in_front : (xs : List ℕ) → list_any (λ i. i == j) xs ≡ true → list_any (λ i. i == j) (xs ++ k ∷ []) ≡ true
        in_front [] q = absurd (false≢true q)
        in_front (x ∷ xs) q = ⊎_elim (λ here. or_left (x == j) (list_any (λ i. i == j) (xs ++ k ∷ [])) here) (λ later. or_right (x == j) (list_any (λ i. i == j) (xs ++ k ∷ [])) (in_front xs later)) (or_cases (x == j) (list_any (λ i. i == j) xs) q)

asked_for_new : (o : OrderState) (k : ℕ) → is_asked_for (asked o k) k ≡ true
asked_for_new o k = step (is_asked_for o k) refl
  where
    last : (xs : List ℕ) → list_any (λ i. i == k) (xs ++ k ∷ []) ≡ true
    last [] = or_left (k == k) false (eq-eqb k k refl)
    last (x ∷ xs) = or_right (x == k) (list_any (λ i. i == k) (xs ++ k ∷ [])) (last xs)

    step : (b : Bool) → is_asked_for o k ≡ b → is_asked_for (if b then o else record o { queue = o.queue ++ k ∷ [] }) k ≡ true
    step true e = e
    step false e = or_left (list_any (λ i. i == k) (o.queue ++ k ∷ [])) (list_any (λ i. i == k) o.flying) (last o.queue)

pub awaited_queued : (o : OrderState) (s k : ℕ) → Awaited o → Awaited (after_queued o s k)
awaited_queued o s k h = record {
  at_each = λ t j e none.
      let was_none : finite.get o.bases j ≡ None = ap (λ b. finite.get b j) (sym (asked_bases o k)) ∙ none in
      let asked_before : waiting_at o.works t ≡ Some j → is_asked_for (asked o k) j ≡ true = λ q. asked_for_push o k j (h.at_each t j q was_none) in
      ⊎_elim
      (λ same. by_option (at_ticket o.works s)
      (λ no. absurd (none-some j (sym (ap (λ x. option_and_then (λ (w : Work). w.waiting) (option_map (wait_for k) x)) no) ∙ (ap (option_and_then (λ (w : Work). w.waiting)) (sym (at_edit_same (wait_for k) o.works s)) ∙ subst (λ q. waiting_at (edit (wait_for k) o.works s) q ≡ Some j) same e))))
      (λ w is.
      let here : k ≡ j = same_Some k j (sym (ap (λ x. option_and_then (λ (w : Work). w.waiting) (option_map (wait_for k) x)) is) ∙
      (ap (option_and_then (λ (w : Work). w.waiting)) (sym (at_edit_same (wait_for k) o.works s)) ∙ subst (λ q. waiting_at (edit (wait_for k) o.works s) q ≡ Some j) same e)) in
      subst (λ q. is_asked_for (asked o k) q ≡ true) here (asked_for_new o k)))
      (λ other. asked_before (ap (option_and_then (λ (w : Work). w.waiting)) (sym (at_edit_other (wait_for k) o.works s t other)) ∙ e))
      (cases_eq t s);
}

-- a get that was queued found its key asked for, or a place for it
queued_has_place : (a : Option Version) (b c : Bool) (q l : ℕ) → unwrap_or (option_map found a) (if not b && c then ReadsAreFull q l else Queued) ≡ Queued → (b ≡ true) ⊎ (c ≡ false)
queued_has_place (Some v) b c q l e = let f : Found v.value v.source ≡ Queued = e in absurd (cc)
queued_has_place None true c q l e = inl refl
queued_has_place None false false q l e = inr refl
queued_has_place None false true q l e = let f : ReadsAreFull q l ≡ Queued = e in absurd (cc)

pub fits_queued : (p : Params) (o : OrderState) (s k : ℕ) → read_reply p o s k ≡ Queued → Fits p.places o → Fits p.places (after_queued o s k)
fits_queued p o s k e h = record { few = step (is_asked_for o k) refl (queued_has_place (answer o s k) (is_asked_for o k) (length o.queue == p.places * o.left) (length o.queue) o.left e) }
  where
    step : (b : Bool) → is_asked_for o k ≡ b → (is_asked_for o k ≡ true) ⊎ ((length o.queue == p.places * o.left) ≡ false)
        → length (if b then o else record o { queue = o.queue ++ k ∷ [] }).queue ≤ p.places * (if b then o else record o { queue = o.queue ++ k ∷ [] }).left
    step true is place = h.few
    step false is place = ⊎_elim
        (λ asked. absurd (false≢true (sym is ∙ asked)))
        (λ room.
        let apart : length o.queue ≡ p.places * o.left → ⊥ = λ same. false≢true (sym room ∙ eq-eqb (length o.queue) (p.places * o.left) same) in
        let long = length-append o.queue (k ∷ []) in
        let few = h.few in
        ⊎_elim (λ same. absurd (apart same)) (λ other. omega (arith, long, few, other)) (cases_eq (length o.queue) (p.places * o.left)))
        place

-- ---- batches

pub fits_taken : (p : Params) (o : OrderState) → 0 < o.left → Fits p.places o → Fits p.places (after_take p o)
fits_taken p o some h = record { few = step o.left some h.few }
  where
    step : (n : ℕ) → 0 < n → length o.queue ≤ p.places * n → length (drop p.places o.queue) ≤ p.places * (n - 1)
    step zero l few = absurd (omega arith)
    step (suc n) l few =
        let one : suc n - 1 ≡ n = omega arith in
        let all = mul-suc p.places n in
        let rest = length-drop p.places o.queue in
        subst (λ q. length (drop p.places o.queue) ≤ p.places * q) (sym one) (omega (arith, all, rest, few))

in_two : (p : ℕ → Bool) (n : ℕ) (xs : List ℕ) → list_any p xs ≡ true → (list_any p (take n xs) ≡ true) ⊎ (list_any p (drop n xs) ≡ true)
in_two p zero xs e = inr e
in_two p (suc n) [] e = absurd (false≢true e)
in_two p (suc n) (x ∷ xs) e = ⊎_elim
    (λ here. inl (or_left (p x) (list_any p (take n xs)) here))
    (λ later. ⊎_elim (λ a. inl (or_right (p x) (list_any p (take n xs)) a)) (λ b. inr b) (in_two p n xs later))
    (or_cases (p x) (list_any p xs) e)

pub awaited_taken : (p : Params) (o : OrderState) → o.flying ≡ [] → Awaited o → Awaited (after_take p o)
awaited_taken p o none_flies h = record {
  at_each = λ t k e none.
      let queue : Bool = list_any (λ j. j == k) (drop p.places o.queue) in
      let flying : Bool = list_any (λ j. j == k) (take p.places o.queue) in
      ⊎_elim
      (λ queued. ⊎_elim (λ taken. or_right queue flying taken) (λ left. or_left queue flying left) (in_two (λ j. j == k) p.places o.queue queued))
      (λ flew. absurd (false≢true (sym (ap (list_any (λ j. j == k)) none_flies) ∙ flew)))
      (or_cases (list_any (λ j. j == k) o.queue) (list_any (λ j. j == k) o.flying) (h.at_each t k e none));
}

-- what was delivered is there
delivered_none : (bases : finite.FinMap nat_cmp (Option (List ℕ))) (keys : List ℕ) (values : List (Option (List ℕ))) (k : ℕ) → length keys ≤ length values → finite.get (delivered bases (map Some keys) values) k ≡ None
    → (finite.get bases k ≡ None) × (list_any (λ j. j == k) keys ≡ false)
delivered_none bases [] values k l e = (e, refl)
delivered_none bases (x ∷ keys) [] k l e = absurd (omega arith)
delivered_none bases (x ∷ keys) (v ∷ values) k l e =
    let rest = delivered_none (finite.insert bases x v) keys values k (omega arith) e in
    let here : cond (k == x) (Some v) (finite.get bases k) ≡ None = ap (λ b. cond b (Some v) (finite.get bases k)) (sym (unsigned_tied k x)) ∙ (sym (get-insert nat_cmp_total bases x v k) ∙ rest.0) in
    let other : k ≡ x → ⊥ = λ same. none-some v (sym here ∙ ap (λ b. cond b (Some v) (finite.get bases k)) (eq-eqb k x same)) in (
      sym (ap (λ b. cond b (Some v) (finite.get bases k)) (ne_eqb k x other)) ∙ here,
      ap (λ b. b || list_any (λ j. j == k) keys) (ne_eqb x k (λ same. other (sym same))) ∙ rest.1,
    )

pub awaited_delivered : (places : ℕ) (o : OrderState) (keys : List (Option ℕ)) (values : List (Option (List ℕ)))
    → keys ≡ map Some o.flying ++ replicate (places - length o.flying) None → length values ≡ length keys → Awaited o → Awaited (after_deliver o keys values)
awaited_delivered places o keys values are whole h = record {
  at_each = λ t k e none.
      let pads : List (Option ℕ) = replicate (places - length o.flying) None in
      let long : length keys ≡ length (map Some o.flying) + length pads = ap length are ∙ length-append (map Some o.flying) pads in
      let mapped = length_mapped o.flying in
      let kept = delivered_none o.bases o.flying values k (omega (arith, long, mapped, whole)) (ap (λ b. finite.get b k) (sym (delivered_pads o.bases o.flying (places - length o.flying) values)) ∙ (ap (λ ks. finite.get (delivered o.bases ks values) k) (sym are) ∙ none)) in
      ⊎_elim
      (λ queued. or_left (list_any (λ j. j == k) o.queue) false queued)
      (λ flew. absurd (false≢true (sym kept.1 ∙ flew)))
      (or_cases (list_any (λ j. j == k) o.queue) (list_any (λ j. j == k) o.flying) (h.at_each t k e kept.0));
}
  where
    length_mapped : (xs : List ℕ) → length (map Some xs) ≡ length xs
    length_mapped [] = refl
    length_mapped (x ∷ xs) = ap suc (length_mapped xs)

-- where nothing is queued or in flight, each unanswered get can be answered
pub answered_now : (o : OrderState) (t k : ℕ) → o.queue ≡ [] → o.flying ≡ [] → waiting_at o.works t ≡ Some k → Awaited o → (v : Version) × (answer o t k ≡ Some v)
answered_now o t k queue flying waits h = by_option (finite.get o.bases k)
    (λ none. absurd (false≢true (sym (ap₂ (λ (a b : List ℕ). list_any (λ j. j == k) a || list_any (λ j. j == k) b) queue flying) ∙ h.at_each t k waits none)))
    (λ x is. step (newest o.works t k) (finite.get o.bases k) x is)
  where
    step : (a : Option Version) (b : Option (Option (List ℕ))) (x : Option (List ℕ)) → b ≡ Some x → (v : Version) × (option_or a (option_map (λ y. let q : Version = record { source = 0; value = y } in q) b) ≡ Some v)
    step (Some v) b x e = (v, refl)
    step None b x e = (record { source = 0; value = x }, ap (option_map (λ y. let q : Version = record { source = 0; value = y } in q)) e)
