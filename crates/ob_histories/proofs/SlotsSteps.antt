-- One line at a time, of lines whose labels are some leaves: a slot that isn't its version's becomes that, and all that was known stays.
use Rattle.std.specs.Prelude.{◌≡◌, ◌<◌, ◌≤◌, ◌⊎◌, ℕ, ◌-◌, Bool, true, false, cond, not, List, [], ◌∷◌, ◌++◌, map, take, drop, ◌&&◌, Option, Some, None}
use Rattle.std.specs.List.{range_with_len}
use Rattle.std.proofs.Common.{zero, suc, refl, sym, ap, ◌∙◌, subst, subst₂, inl, inr, arith, append_assoc, true≢false}
use Rattle.std.proofs.lemmas.Bool.{lt-ltb, cases_lt}
use Rattle.std.proofs.lemmas.List.{append-nil}
use Rattle.ob_base.specs.declared.params.Params.{Params}
use Rattle.ob_base.specs.Tree.{width, buckets, below}
use Rattle.ob_base.specs.Layout.{LogArea, slot_cell, log_cell, log_gate, record_cells, check_cell, checkpoint_cells}
use Rattle.ob_store.specs.declared.watch.Note.{Note}
use Rattle.ob_store.specs.declared.watch.Note.TheVariants.{Label, Read, Write, Sync}
use Rattle.ob_schedule.specs.Holes.{Hole, place_holes}
use Rattle.ob_schedule.specs.Schedule.{Public, counts_now, is_lifted_by_end, batch_leaves, reads_of, region_cells}
use Rattle.ob_schedule.specs.declared.line.Line.TheVariants as L
use Rattle.ob_schedule.specs.declared.want.Side.{Side}
use Rattle.ob_schedule.specs.declared.want.Gate.{Gate}
use Rattle.ob_schedule.specs.declared.want.Gate.TheVariants.{Open, Closed, Unsure}
use Rattle.ob_schedule.specs.declared.want.Register.{Register}
use Rattle.ob_schedule.specs.declared.want.Register.TheVariants.{Generation, Epoch}
use Rattle.ob_schedule.specs.declared.want.Change.{Change}
use Rattle.ob_schedule.specs.declared.want.Change.TheVariants.{Keeps, Formats, Settles, Doubts, Closes, SetsGeneration, EndsEpoch, MayLog, Logs}
use Rattle.ob_schedule.specs.declared.want.Want.{Want}
use Rattle.ob_schedule.specs.declared.want.Want.TheVariants.{Fixed, Place, Record, Setting, Checkpoint}
use Rattle.ob_schedule.specs.Sides.{other, side_number}
use Rattle.ob_schedule.specs.Standing.{StandingKnown, public_known, with_label, with_slot, is_lifted, standing_ended, used_after}
use Rattle.ob_schedule.specs.Wants.{kept, setting, sets, record_wants, places, found_wants}
use Rattle.ob_schedule.specs.Follow.{Follow, TakesLine, TakesNote, TakesWant, TakesSlot, MayShow, shows_label, with_gate, taken_up, changed, next_side, newer_or_same}
use Rattle.ob_histories.specs.Fills.{AllFills, AreAllFills, public_in_epoch, fills_at, leaves_of_batches, version_filled}
use Rattle.ob_histories.specs.Filled.{IsOfFills, settled_next, IsOfLeaves}
use Rattle.ob_histories.proofs.Standing.{Holds, WasShown, GoesBelow, IsHole, filled_slot, slot_holds, label_holds, outside}
use Rattle.ob_histories.proofs.Ended.{same_lifted, ended_holds}
use Rattle.ob_histories.proofs.Holes.{AreHoles, count_before, place_are}
use Rattle.ob_histories.proofs.Places.{leaf_at, one_more, same_before}
use Rattle.ob_histories.proofs.Finding.{holds_rest}
use Rattle.ob_histories.proofs.Openings.{some_checks, less_one}
use Rattle.ob_histories.proofs.Fronts.{same_label}
use Rattle.ob_histories.proofs.Labels.{Leaves, InRange, up_stands}
use Rattle.ob_histories.proofs.Slots.{Slots, leaves_same, in_epoch_same, version_same, holes_same, AreSlots, AgreeSlots, agree_trans, agree_used, first_slots, fills_by, holds_by, one_slot}
use Rattle.ob_histories.proofs.SlotsAt.{UntilSettled, StandsAt, before_batch, leaf_here, kept_at, dropped_at, kept_until, end_of_opening_at, generation_ends, places_at}
use Rattle.ob_histories.proofs.SlotsKnown.{used_of, slots_of, Marked, marked_by, slot_marked, slot_more, slot_shown, label_same, OnlyKept, any_rest, fills, bare, all_bare, IsNewer, NewerIs, Slotted, no_newer, never_newer, slot_newer, leaves_by, up_slotted}

label_or_write : (x c : ℕ) (n : Note) → n ≡ Label x → n ≡ Write c → ⊥
label_or_write x c n a b = cc

-- the version that a bucket has is of no later epoch
version_low : (p : Params) (f : AllFills) (epoch u : ℕ) → version_filled p f epoch u ≤ epoch
version_low p f zero u = omega arith
version_low p f (suc epoch) u = go (is_lifted_by_end p (public_in_epoch p f epoch p.batches) u) (version_low p f epoch u)
  where
    go : (c : Bool) → version_filled p f epoch u ≤ epoch → cond c (suc epoch) (version_filled p f epoch u) ≤ suc epoch
    go true low = omega arith
    go false low = omega (arith, low)

module _ (p : Params) (leaf : Leaves) (within : InRange p leaf) where
  abbrev Agree : Slots → Slots → ℕ → StandingKnown → Type 0
  Agree a b epoch s = AgreeSlots p leaf within a b epoch s

  abbrev Known : Slots → ℕ → Follow → Type 0
  Known slots epoch k = Slotted p leaf within slots epoch k

  abbrev with_slots : Slots → AllFills
  with_slots slots = fills p leaf within slots

  pub record Step (slots : Slots) (epoch : ℕ) (k : Follow) (hs : List Hole) (ws : List Want) (note : Note) (next : Follow) : Type 0 where
    pub then : Slots
    pub are : AreSlots p leaf within then
    pub known : Slotted p leaf within then (settled_next hs ws k epoch) next
    pub back : (last : Slots) → AgreeSlots p leaf within then last (settled_next hs ws k epoch) next.stands → AgreeSlots p leaf within slots last epoch k.stands × IsOfFills p (fills p leaf within last) epoch k.stands hs ws note

  -- no slot, and no end
  quiet : (slots : Slots) (epoch : ℕ) (k : Follow) (hs : List Hole) (ws : List Want) (note : Note) (next g : Follow) → AreSlots p leaf within slots → settled_next hs ws k epoch ≡ epoch → next ≡ taken_up g
      → used_of g.stands ≡ used_of k.stands → Known slots epoch g → ((last : Slots) → IsOfFills p (with_slots last) epoch k.stands hs ws note) → Step slots epoch k hs ws note next
  quiet slots epoch k hs ws note next g are still same used is shows =
      let used_then : used_of next.stands ≡ used_of k.stands = ap (λ (h : Follow). used_of h.stands) same ∙ ap used_of (up_stands g) ∙ used in
      record {
        then = slots;
        are = are;
        known = subst₂ (λ (n : ℕ) (h : Follow). Known slots n h) (sym still) (sym same) (up_slotted p leaf within slots epoch g are is);
        back = λ last agree. (
          agree_used p leaf within slots last epoch next.stands k.stands (λ u x shown. ap (λ (f : ℕ → ℕ → Bool). f u x) used_then ∙ shown) (subst (λ (n : ℕ). Agree slots last n next.stands) still agree),
          shows last,
        );
      }

  -- ---- a slot

  module _ (slots : Slots) (epoch : ℕ) (k0 : Follow) (are : AreSlots p leaf within slots) (h : Hole) (hs : List Hole) where
    abbrev slot_state : Follow
    slot_state = record k0 { params = p; holes = h ∷ hs }

    may_new : (x : ℕ) (o : Option ℕ) → MayShow slot_state h o x → o ≡ None → (x < width p) × (k0.stands.used h.bucket x ≡ false)
    may_new x None may none = may
    may_new x (Some y) may none = absurd (cc)

    may_same : (x : ℕ) (o : Option ℕ) → MayShow slot_state h o x → (y : ℕ) → o ≡ Some y → x ≡ y
    may_same x None may y some = absurd (cc)
    may_same x (Some z) may y some = may ∙ some_same z y some
      where
        some_same : (a b : ℕ) → ◌≡◌ {A = Option ℕ} (Some a) (Some b) → a ≡ b
        some_same a b e = cc

    by_slot : (note : Note) (next : Follow) (x : ℕ) → Known slots epoch slot_state → TakesSlot slot_state h hs note next x → Step slots epoch slot_state (h ∷ hs) k0.wants note next
    by_slot note next x is (shows, same) =
        let s : StandingKnown = k0.stands in
        let hole : IsHole p (with_slots slots) epoch h = (holes_same p leaf within (first_slots p leaf within) slots epoch (h ∷ hs) is.holes).0 in
        let one = one_slot p leaf within slots epoch s h x (s.slots h) refl are is.holds hole (may_new x (s.slots h) shows.may) (may_same x (s.slots h) shows.may) in
        let b : Slots = one.then in
        let hole_then : IsHole p (with_slots b) epoch h = (holes_same p leaf within (first_slots p leaf within) b epoch (h ∷ hs) is.holes).0 in
        let holds_then : Holds p (with_slots b) s epoch = holds_by p leaf within slots b epoch s is.marked one.agree is.holds in
        let t : StandingKnown = with_slot s h x in
        let holds : Holds p (with_slots b) t epoch = subst (λ (y : ℕ). Holds p (with_slots b) (with_slot s h y) epoch) (sym one.is) (slot_holds p (with_slots b) s epoch h holds_then hole_then) in
        let g : Follow = record k0 { params = p; stands = t; holes = hs } in
        let known : Known b epoch g = record {
          params = refl;
          few = is.few;
          holds = holds;
          marked = slot_marked s h x is.marked;
          newer = no_newer p leaf within b epoch t k0.newer k0.runs hs k0.wants (slot_newer p leaf within slots epoch s k0.newer k0.runs h hs k0.wants is.newer);
          holes = is.holes.1;
          wants = is.wants;
        } in
        let stands : next.stands ≡ t = ap (λ (h : Follow). h.stands) same ∙ up_stands g in
        let here : t.used h.bucket x ≡ true = slot_shown s h x is.marked (may_same x (s.slots h) shows.may) in
        record {
          then = b;
          are = one.are;
          known = subst (λ (f : Follow). Known b epoch f) (sym same) (up_slotted p leaf within b epoch g one.are known);
          back = λ last agree. (
            agree_trans p leaf within slots b last epoch s one.agree (agree_used p leaf within b last epoch t s (slot_more s h x) (subst (λ (r : StandingKnown). Agree b last epoch r) stands agree)),
            shows.is ∙ ap (λ (y : ℕ). Read (slot_cell p (side_number (s.homes h.bucket)) h.bucket y)) (is_last b last t x one.is here (subst (λ (r : StandingKnown). Agree b last epoch r) stands agree)),
          );
        }
      where
        is_last : (b last : Slots) (t : StandingKnown) (x : ℕ) → x ≡ filled_slot p (with_slots b) epoch h → t.used h.bucket x ≡ true → Agree b last epoch t → x ≡ last h.bucket (version_filled p (with_slots last) epoch h.bucket) h.number
        is_last b last t x is used agree =
            is ∙ sym (agree.present h.bucket h.number (subst (λ (y : ℕ). t.used h.bucket y ≡ true) is used))
            ∙ ap (λ (v : ℕ). last h.bucket v h.number) (version_same p leaf within b last epoch h.bucket)

  -- ---- in a run

  module _ (slots : Slots) (epoch : ℕ) (k0 : Follow) (are : AreSlots p leaf within slots) (note : Note) (next : Follow) where
    abbrev k : Follow
    k = record k0 { params = p; holes = []; runs = true }

    abbrev Newer : List Want → Type 0
    Newer ws = NewerIs p leaf within slots epoch k0.stands k0.newer true [] ws

    abbrev At : List Want → Type 0
    At ws = StandsAt p (bare p leaf within) epoch k0.leaves k0.batch ws

    abbrev Taken : List Want → Type 0
    Taken ws = Step slots epoch k [] ws note next

    -- before the line
    record Before (ws : List Want) : Type 0 where
      few : k0.batch ≤ p.batches
      holds : Holds p (with_slots slots) k0.stands epoch
      marked : Marked k0.stands
      newer : Newer ws
      wants : At ws

    none_newer : (ws : List Want) → (UntilSettled ws → ⊥) → Newer ws → k0.newer ≡ None
    none_newer ws never is = never_newer p leaf within slots epoch k0.stands k0.newer true [] ws never is

    -- what stands but for the rest, and other wants
    changes : (s : StandingKnown) (chosen : Bool) (ws wants : List Want) → Before ws → Holds p (with_slots slots) s epoch → slots_of s ≡ slots_of k0.stands → used_of s ≡ used_of k0.stands → k0.newer ≡ None → settled_next [] ws k epoch ≡ epoch
        → next ≡ taken_up (record k { stands = s; chosen = chosen; wants = wants }) → At wants → ((last : Slots) → IsOfFills p (with_slots last) epoch k0.stands [] ws note) → Taken ws
    changes s chosen ws wants is holds same_slots used none still same at shows =
        quiet slots epoch k [] ws note next (record k { stands = s; chosen = chosen; wants = wants }) are still same used
        (record {
          params = refl;
          few = is.few;
          holds = holds;
          marked = marked_by k0.stands s same_slots used is.marked;
          newer = no_newer p leaf within slots epoch s k0.newer true [] wants none;
          holes = tt;
          wants = at;
        }) shows

    -- nothing that stands changes
    stays : (chosen : Bool) (ws wants : List Want) → Before ws → (Newer ws → Newer wants) → settled_next [] ws k epoch ≡ epoch → next ≡ taken_up (record k { chosen = chosen; wants = wants }) → At wants
        → ((last : Slots) → IsOfFills p (with_slots last) epoch k0.stands [] ws note) → Taken ws
    stays chosen ws wants is newer still same at shows =
        quiet slots epoch k [] ws note next (record k { chosen = chosen; wants = wants }) are still same refl
        (record { params = refl; few = is.few; holds = is.holds; marked = is.marked; newer = newer is.newer; holes = tt; wants = at }) shows

    newer_by : (ws wants : List Want) → (UntilSettled ws → UntilSettled wants) → Newer ws → Newer wants
    newer_by ws wants until is = go k0.newer is
      where
        go : (o : Option StandingKnown) → NewerIs p leaf within slots epoch k0.stands o true [] ws → NewerIs p leaf within slots epoch k0.stands o true [] wants
        go None was = tt
        go (Some t) was = (was.0, (until was.1.0, refl))

    -- ---- what was found, or an end has set, stands

    -- behind a sync what stands is known as before, or is the newer one
    abbrev settled : StandingKnown → List Want → Follow
    settled s wants = record k { stands = s; newer = None; chosen = false; batch = 0; leaves = []; wants = wants }

    known_settled : (s : StandingKnown) (n : ℕ) (wants : List Want) → Holds p (with_slots slots) s n → Marked s → StandsAt p (bare p leaf within) n [] 0 wants → Known slots n (settled s wants)
    known_settled s n wants holds marked at = record { params = refl; few = omega arith; holds = holds; marked = marked; newer = tt; holes = tt; wants = at }

    -- what agrees with the newer one agrees with what stood
    settled_back : (t : StandingKnown) (last : Slots) → IsNewer p leaf within slots epoch k0.stands t → Agree slots last (suc epoch) t → Agree slots last epoch k0.stands
    settled_back t last newer agree = record { old = λ u v n few other. old u v n few other (lifted u) refl; present = λ u n used. present u n used (lifted u) refl }
      where
        lifted : ℕ → Bool
        lifted u = is_lifted_by_end p (public_in_epoch p (with_slots slots) epoch p.batches) u

        version : ℕ → ℕ
        version u = version_filled p (with_slots slots) epoch u

        version_then : (u : ℕ) (c : Bool) → is_lifted_by_end p (public_in_epoch p (with_slots slots) epoch p.batches) u ≡ c → version_filled p (with_slots slots) (suc epoch) u ≡ cond c (suc epoch) (version u)
        version_then u c is = ap (λ (b : Bool). cond b (suc epoch) (version u)) is

        old : (u v n : ℕ) → v ≤ epoch → (v ≡ version u → ⊥) → (c : Bool) → is_lifted_by_end p (public_in_epoch p (with_slots slots) epoch p.batches) u ≡ c → last u v n ≡ slots u v n
        old u v n few other true is = agree.old u v n (omega (arith, few)) (λ same. (let at : v ≡ suc epoch = same ∙ version_then u true is in omega (arith, at, few)))
        old u v n few other false is = agree.old u v n (omega (arith, few)) (λ same. other (same ∙ version_then u false is))

        present : (u n : ℕ) → k0.stands.used u (slots u (version u) n) ≡ true → (c : Bool) → is_lifted_by_end p (public_in_epoch p (with_slots slots) epoch p.batches) u ≡ c → last u (version u) n ≡ slots u (version u) n
        present u n used true is =
            (let low : version u ≤ epoch = version_low p (with_slots slots) epoch u in
            agree.old u (version u) n (omega (arith, low)) (λ same. (let at : version u ≡ suc epoch = same ∙ version_then u true is in omega (arith, at, low))))
        present u n used false is =
            (let then : version_filled p (with_slots slots) (suc epoch) u ≡ version u = version_then u false is in
            let bare_is : is_lifted_by_end p (public_in_epoch p (bare p leaf within) epoch p.batches) u ≡ false =
            ap (λ (q : Public). is_lifted_by_end p q u) (in_epoch_same p leaf within (first_slots p leaf within) slots epoch p.batches) ∙ is in
            let more : t.used u (slots u (version u) n) ≡ true = newer.more u (slots u (version u) n) bare_is used in
            subst (λ (v : ℕ). last u v n ≡ slots u v n) then (agree.present u n (subst (λ (v : ℕ). t.used u (slots u v n) ≡ true) (sym then) more)))

    by_settling : (wanted : Note) (wants : List Want) (c : Bool) (o : Option StandingKnown) → k0.chosen ≡ c → k0.newer ≡ o → Before (Fixed wanted Settles ∷ wants) → next ≡ taken_up (changed Settles (record k { wants = wants })) → Taken (Fixed wanted Settles ∷ wants)
    by_settling wanted wants false o chosen newer is same = settled_as_before wanted wants is same (ap (λ (c : Bool). cond c (newer_or_same k0.stands k0.newer) k0.stands) chosen) (ap (λ (c : Bool). cond c (elim k0.newer [ None ↦ epoch | Some s ↦ suc epoch ]) epoch) chosen)
      where
        settled_as_before : (wanted : Note) (wants : List Want) → Before (Fixed wanted Settles ∷ wants) → next ≡ taken_up (changed Settles (record k { wants = wants })) → cond k0.chosen (newer_or_same k0.stands k0.newer) k0.stands ≡ k0.stands
            → cond k0.chosen (elim k0.newer [ None ↦ epoch | Some s ↦ suc epoch ]) epoch ≡ epoch → Taken (Fixed wanted Settles ∷ wants)
        settled_as_before wanted wants is same stands index =
            quiet slots epoch k [] (Fixed wanted Settles ∷ wants) note next (settled k0.stands wants) are index (same ∙ ap (λ (s : StandingKnown). taken_up (settled s wants)) stands) refl
            (known_settled k0.stands epoch wants is.holds is.marked (end_of_opening_at p (bare p leaf within) epoch [] 0 wants refl is.wants)) (λ last. tt)
    by_settling wanted wants true None chosen newer is same =
        quiet slots epoch k [] (Fixed wanted Settles ∷ wants) note next (settled k0.stands wants) are (λ i. cond (chosen i) (elim (newer i) [ None ↦ epoch | Some s ↦ suc epoch ]) epoch)
        (same ∙ (λ i. taken_up (settled (cond (chosen i) (newer_or_same k0.stands (newer i)) k0.stands) wants))) refl
        (known_settled k0.stands epoch wants is.holds is.marked (end_of_opening_at p (bare p leaf within) epoch [] 0 wants refl is.wants)) (λ last. tt)
    by_settling wanted wants true (Some t) chosen newer is same =
        let was : IsNewer p leaf within slots epoch k0.stands t = (subst (λ (o : Option StandingKnown). NewerIs p leaf within slots epoch k0.stands o true [] (Fixed wanted Settles ∷ wants)) newer is.newer).0 in
        let index : settled_next [] (Fixed wanted Settles ∷ wants) k epoch ≡ suc epoch = (λ i. cond (chosen i) (elim (newer i) [ None ↦ epoch | Some s ↦ suc epoch ]) epoch) in
        let then : next ≡ taken_up (settled t wants) = same ∙ (λ i. taken_up (settled (cond (chosen i) (newer_or_same k0.stands (newer i)) k0.stands) wants)) in
        let stands : next.stands ≡ t = ap (λ (h : Follow). h.stands) then ∙ up_stands (settled t wants) in
        let marked : Marked t = (λ h x shown. absurd (let never : ◌≡◌ {A = Option ℕ} None (Some x) = sym (was.none h) ∙ shown in cc)) in
        record {
          then = slots;
          are = are;
          known = subst₂ (λ (n : ℕ) (h : Follow). Known slots n h) (sym index) (sym then)
              (up_slotted p leaf within slots (suc epoch) (settled t wants) are (known_settled t (suc epoch) wants was.holds marked (end_of_opening_at p (bare p leaf within) (suc epoch) [] 0 wants refl is.wants)));
          back = λ last agree. (settled_back t last was (subst₂ (λ (n : ℕ) (s : StandingKnown). Agree slots last n s) index stands agree), tt);
        }

    -- ---- an epoch's end may have been made

    by_ending : (wanted : Note) (wants : List Want) → Before (Fixed wanted EndsEpoch ∷ wants) → next ≡ taken_up (changed EndsEpoch (record k { wants = wants })) → Taken (Fixed wanted EndsEpoch ∷ wants)
    by_ending wanted wants is same =
        quiet slots epoch k [] (Fixed wanted EndsEpoch ∷ wants) note next (record k { newer = Some ended; chosen = true; wants = wants }) are refl same refl
        (record {
          params = refl;
          few = is.few;
          holds = is.holds;
          marked = is.marked;
          newer = (record { holds = ended_holds p (with_slots slots) k0.stands epoch all is.holds k0.leaves shown; none = λ h. refl; more = more }, (is.wants.0.1, refl));
          holes = tt;
          wants = is.wants.1;
        }) (λ last. tt)
      where
        ended : StandingKnown
        ended = standing_ended p k0.stands k0.leaves

        all : AreAllFills p (with_slots slots)
        all = fills_by p leaf within slots are

        shown : k0.leaves ≡ leaves_of_batches p (with_slots slots) (suc epoch) p.batches
        shown = is.wants.0.0 ∙ leaves_same p leaf within (first_slots p leaf within) slots (suc epoch) p.batches

        not_outside : (u x : ℕ) → buckets p ≤ u → WasShown p (with_slots slots) k0.stands epoch u x → ⊥
        not_outside u x out was = when was.when
          where
            when : (was.number < k0.stands.counts u) ⊎ (k0.stands.slots (record { bucket = u; number = was.number }) ≡ Some x) → ⊥
            when (inl counted) = (let none = (outside p (with_slots slots) epoch u all out).counts in omega (arith, counted, none, is.holds.counts u))
            when (inr now) = here (is.holds.below (record { bucket = u; number = was.number }) x now)
              where
                here : GoesBelow p (with_slots slots) epoch (record { bucket = u; number = was.number }) → ⊥
                here (inl lifted) = true≢false (sym lifted ∙ (outside p (with_slots slots) epoch u all out).stays)
                here (inr low) = (let then = (outside p (with_slots slots) (suc epoch) u all out).counts in
                    let stays = (outside p (with_slots slots) epoch u all out).stays in
                    let none : counts_now p (public_in_epoch p (with_slots slots) epoch p.batches) u ≡ 0 = sym (ap (λ (l : Bool). cond l 0 (counts_now p (public_in_epoch p (with_slots slots) epoch p.batches) u)) stays) ∙ then in
                    omega (arith, low, none))

        more : (u x : ℕ) → is_lifted_by_end p (public_in_epoch p (bare p leaf within) epoch p.batches) u ≡ false → k0.stands.used u x ≡ true → used_after p k0.stands k0.leaves u x ≡ true
        more u x stays used = go (cases_lt u (buckets p))
          where
            lifted : is_lifted p k0.stands k0.leaves u ≡ false
            lifted = same_lifted p (with_slots slots) k0.stands epoch all is.holds k0.leaves shown u ∙ ap (λ (q : Public). is_lifted_by_end p q u) (in_epoch_same p leaf within slots (first_slots p leaf within) epoch p.batches) ∙ stays

            go : (u < buckets p) ⊎ (buckets p ≤ u) → used_after p k0.stands k0.leaves u x ≡ true
            go (inl lt) = (λ i. cond (lt-ltb u (buckets p) lt i) (not (lifted i) && used i) false)
            go (inr ge) = absurd (not_outside u x ge (is.holds.used u x used))

    -- ---- notes that are fixed

    rest_holds : (generation : Side) (gate epoch_gate : Gate) (logged : ℕ) (maybe : Bool) → Holds p (with_slots slots) k0.stands epoch
        → Holds p (with_slots slots) (record k0.stands { generation = generation; generation_gate = gate; epoch_gate = epoch_gate; logged = logged; maybe = maybe }) epoch
    rest_holds generation gate epoch_gate logged maybe holds = holds_rest p (with_slots slots) k0.stands epoch generation gate epoch_gate logged maybe holds

    by_fixed : (wanted : Note) (change : Change) (wants : List Want) → Before (Fixed wanted change ∷ wants) → next ≡ taken_up (changed change (record k { wants = wants })) → Taken (Fixed wanted change ∷ wants)
    by_fixed wanted Keeps wants is same = stays k0.chosen (Fixed wanted Keeps ∷ wants) wants is (newer_by (Fixed wanted Keeps ∷ wants) wants (λ until. until)) refl same is.wants (λ last. tt)
    by_fixed wanted Formats wants is same =
        quiet slots epoch k [] (Fixed wanted Formats ∷ wants) note next (record k { formatted = true; wants = wants }) are refl same refl
        (record { params = refl; few = is.few; holds = is.holds; marked = is.marked; newer = newer_by (Fixed wanted Formats ∷ wants) wants (λ until. until) is.newer; holes = tt; wants = is.wants }) (λ last. tt)
    by_fixed wanted Settles wants is same = by_settling wanted wants k0.chosen k0.newer refl refl is same
    by_fixed wanted (Doubts Generation) wants is same =
        changes (with_gate Generation Unsure k0.stands) k0.chosen (Fixed wanted (Doubts Generation) ∷ wants) wants is (rest_holds k0.stands.generation Unsure k0.stands.epoch_gate k0.stands.logged k0.stands.maybe is.holds) refl refl
        (none_newer (Fixed wanted (Doubts Generation) ∷ wants) (λ never. never) is.newer) refl same is.wants (λ last. tt)
    by_fixed wanted (Doubts Epoch) wants is same =
        changes (with_gate Epoch Unsure k0.stands) k0.chosen (Fixed wanted (Doubts Epoch) ∷ wants) wants is (rest_holds k0.stands.generation k0.stands.generation_gate Unsure k0.stands.logged k0.stands.maybe is.holds) refl refl
        (none_newer (Fixed wanted (Doubts Epoch) ∷ wants) (λ never. never) is.newer) refl same is.wants (λ last. tt)
    by_fixed wanted (Closes Generation) wants is same =
        changes (with_gate Generation Closed k0.stands) k0.chosen (Fixed wanted (Closes Generation) ∷ wants) wants is (rest_holds k0.stands.generation Closed k0.stands.epoch_gate k0.stands.logged k0.stands.maybe is.holds) refl refl
        (none_newer (Fixed wanted (Closes Generation) ∷ wants) (λ never. never) is.newer) refl same is.wants (λ last. tt)
    by_fixed wanted (Closes Epoch) wants is same =
        changes (with_gate Epoch Closed k0.stands) k0.chosen (Fixed wanted (Closes Epoch) ∷ wants) wants is (rest_holds k0.stands.generation k0.stands.generation_gate Closed k0.stands.logged k0.stands.maybe is.holds) refl refl
        (none_newer (Fixed wanted (Closes Epoch) ∷ wants) (λ never. never) is.newer) refl same is.wants (λ last. tt)
    by_fixed wanted SetsGeneration wants is same =
        changes (record k0.stands { generation = other k0.stands.generation; generation_gate = Open }) k0.chosen (Fixed wanted SetsGeneration ∷ wants) wants is
        (rest_holds (other k0.stands.generation) Open k0.stands.epoch_gate k0.stands.logged k0.stands.maybe is.holds) refl refl (none_newer (Fixed wanted SetsGeneration ∷ wants) (λ never. never) is.newer) refl same is.wants (λ last. tt)
    by_fixed wanted EndsEpoch wants is same = by_ending wanted wants is same
    by_fixed wanted MayLog wants is same =
        changes (record k0.stands { maybe = true }) k0.chosen (Fixed wanted MayLog ∷ wants) wants is (rest_holds k0.stands.generation k0.stands.generation_gate k0.stands.epoch_gate k0.stands.logged true is.holds) refl refl
        (none_newer (Fixed wanted MayLog ∷ wants) (λ never. never) is.newer) refl same is.wants (λ last. tt)
    by_fixed wanted Logs wants is same =
        changes (record k0.stands { logged = k0.batch; maybe = false }) k0.chosen (Fixed wanted Logs ∷ wants) wants is (rest_holds k0.stands.generation k0.stands.generation_gate k0.stands.epoch_gate k0.batch false is.holds) refl refl
        (none_newer (Fixed wanted Logs ∷ wants) (λ never. never) is.newer) refl same is.wants (λ last. tt)

    -- ---- labels

    label_step : (s : StandingKnown) (b i x : ℕ) (ws wants : List Want) → Before ws → Holds p (with_slots slots) s epoch → slots_of s ≡ slots_of k0.stands → used_of s ≡ used_of k0.stands → k0.newer ≡ None → b < p.batches → i < p.places
        → k0.leaves ≡ before_batch p (bare p leaf within) epoch b ++ take i (batch_leaves p (fills_at p (bare p leaf within) epoch) b) → x ≡ leaf (suc epoch) b i
        → StandsAt p (bare p leaf within) epoch (k0.leaves ++ leaf_here p (bare p leaf within) epoch b i ∷ []) k0.batch wants
        → settled_next [] ws k epoch ≡ epoch → next ≡ taken_up (shows_label (record k { stands = s; wants = wants }) b i x) → ((last : Slots) → IsOfFills p (with_slots last) epoch k0.stands [] ws note) → Taken ws
    label_step s b i x ws wants is holds same_slots used none few low leaves at_leaf at still same shows =
        let t : StandingKnown = with_label s b i x in
        let kept_parts = label_same s b i x in
        let here : x ≡ leaf_here p (bare p leaf within) epoch b i = at_leaf ∙ sym (leaf_at p (bare p leaf within) (all_bare p leaf within) epoch any_rest b i low) in
        quiet slots epoch k [] ws note next (shows_label (record k { stands = s; wants = wants }) b i x) are still same (kept_parts.1 ∙ used)
        (record {
          params = refl;
          few = is.few;
          holds = label_holds p (with_slots slots) s epoch b i x holds at_leaf;
          marked = marked_by k0.stands t (kept_parts.0 ∙ same_slots) (kept_parts.1 ∙ used) is.marked;
          newer = no_newer p leaf within slots epoch t k0.newer true (place_holes p (counts_now p (public_known p s k0.leaves)) x) wants none;
          holes = holes_same p leaf within slots (first_slots p leaf within) epoch (place_holes p (counts_now p (public_known p s k0.leaves)) x)
              (subst (λ (hs : List Hole). AreHoles p (with_slots slots) epoch hs) (λ j. place_holes p (sym before j) (sym here j)) (place_are p (with_slots slots) epoch b i few low));
          wants = subst (λ (y : ℕ). StandsAt p (bare p leaf within) epoch (k0.leaves ++ y ∷ []) k0.batch wants) (sym here) at;
        }) shows
      where
        before : counts_now p (public_known p s k0.leaves) ≡ count_before p (with_slots slots) epoch b i
        before = same_before p (with_slots slots) (fills_by p leaf within slots are) epoch any_rest s b i k0.leaves holds
            (leaves_by p leaf within slots (suc epoch) b k0.leaves (take i (batch_leaves p (fills_at p (bare p leaf within) epoch) b)) leaves)

    by_place : (b i : ℕ) (wants : List Want) → Before (Place b i ∷ wants) → IsOfLeaves leaf epoch [] (Place b i ∷ wants) note → TakesWant k (Place b i) wants note next → Taken (Place b i ∷ wants)
    by_place b i wants is given (x, (shows, same)) =
        label_step k0.stands b i x (Place b i ∷ wants) wants is is.holds refl refl (none_newer (Place b i ∷ wants) (λ never. never) is.newer) is.wants.0 is.wants.1.0 is.wants.1.1.0 (same_label x (leaf (suc epoch) b i) note shows.is given)
        is.wants.1.1.1 refl same (λ last. given)

    by_record : (b : ℕ) (wants : List Want) → Before (Record b ∷ wants) → IsOfLeaves leaf epoch [] (Record b ∷ wants) note → TakesWant k (Record b) wants note next → Taken (Record b ∷ wants)
    by_record b wants is given (inl (x, repeats)) =
        label_step (record k0.stands { logged = k0.batch; maybe = false }) b 0 x (Record b ∷ wants) (wants ++ drop 1 (places p b)) is (rest_holds k0.stands.generation k0.stands.generation_gate k0.stands.epoch_gate k0.batch false is.holds) refl refl
        (none_newer (Record b ∷ wants) (λ never. never) is.newer) is.wants.0 some begun (given x repeats.is)
        (subst (λ (ws : List Want). StandsAt p (bare p leaf within) epoch shown k0.batch (ws ++ drop 1 (places p b))) (sym is.wants.1.1.1) (subst₂ (λ (c : ℕ) (ws : List Want). StandsAt p (bare p leaf within) epoch shown c ws) (sym is.wants.1.1.0) (sym rest) others))
        refl repeats.then given_last
      where
        some : 0 < p.places
        some = (let one : 1 ≤ p.places = p.in_range.some_places in omega (arith, one))

        many : ℕ
        many = p.places - 1

        all_places : p.places ≡ suc many
        all_places = less_one p.places some

        shown : List ℕ
        shown = k0.leaves ++ leaf_here p (bare p leaf within) epoch b 0 ∷ []

        begun : k0.leaves ≡ before_batch p (bare p leaf within) epoch b ++ take 0 (batch_leaves p (fills_at p (bare p leaf within) epoch) b)
        begun = is.wants.1.0 ∙ sym (append-nil (before_batch p (bare p leaf within) epoch b))

        rest : drop 1 (places p b) ≡ map (λ j. Place b j) (range_with_len 1 many)
        rest = ap (λ (n : ℕ). drop 1 (map (λ j. Place b j) (range_with_len 0 n))) all_places

        others : StandsAt p (bare p leaf within) epoch shown (suc b) (map (λ j. Place b j) (range_with_len 1 many))
        others = places_at p (bare p leaf within) epoch (all_bare p leaf within) any_rest many shown b 1 is.wants.0 (omega (arith, all_places))
            (one_more p (bare p leaf within) (all_bare p leaf within) epoch any_rest b 0 k0.leaves some begun)

        given_last : (last : Slots) → IsOfFills p (with_slots last) epoch k0.stands [] (Record b ∷ wants) note
        given_last last = given
    by_record b wants is given (inr begins) =
        changes (record k0.stands { maybe = false }) k0.chosen (Record b ∷ wants) (wants ++ drop 1 (record_wants p (other k0.stands.epoch) b ++ places p b)) is
        (rest_holds k0.stands.generation k0.stands.generation_gate k0.stands.epoch_gate k0.stands.logged false is.holds) refl refl (none_newer (Record b ∷ wants) (λ never. never) is.newer) refl begins.then
        (subst (λ (ws : List Want). At (ws ++ drop 1 (record_wants p (other k0.stands.epoch) b ++ places p b))) (sym is.wants.1.1.1)
        (subst (λ (ws : List Want). At (drop 1 ws)) (sym (append_assoc (kept cells) gates (places p b)))
        (dropped_at p (bare p leaf within) epoch k0.leaves k0.batch cells (Fixed Sync Keeps) (Fixed (Write (log_gate p (side_number (other k0.stands.epoch)) b)) MayLog ∷ Fixed Sync Logs ∷ places p b) all_places all_places)))
        (λ last. given)
      where
        cells : List Note
        cells = map (λ c. Write c) (map (log_cell p (side_number (other k0.stands.epoch)) b) (below (record_cells p)))

        gates : List Want
        gates = Fixed Sync Keeps ∷ Fixed (Write (log_gate p (side_number (other k0.stands.epoch)) b)) MayLog ∷ Fixed Sync Logs ∷ []

        all_places : At (places p b)
        all_places = subst (λ (c : ℕ). StandsAt p (bare p leaf within) epoch k0.leaves c (places p b)) (sym is.wants.1.1.0)
            (places_at p (bare p leaf within) epoch (all_bare p leaf within) any_rest p.places k0.leaves b 0 is.wants.0 (omega arith) (is.wants.1.0 ∙ sym (append-nil (before_batch p (bare p leaf within) epoch b))))

    -- ---- a register, and what a run finds

    by_setting : (r : Register) (wants : List Want) → Before (Setting r ∷ wants) → TakesWant k (Setting r) wants note next → Taken (Setting r ∷ wants)
    by_setting Generation wants is (inl closes) =
        stays k0.chosen (Setting Generation ∷ wants) (wants ++ drop 1 (setting p Generation (next_side k0.stands Generation))) is (newer_by (Setting Generation ∷ wants) (wants ++ drop 1 (setting p Generation (next_side k0.stands Generation))) (λ never. absurd never)) refl closes.then
        (subst (λ (ws : List Want). At (ws ++ drop 1 (setting p Generation (next_side k0.stands Generation)))) (sym is.wants.1) is.wants.0) (λ last. tt)
    by_setting Generation wants is (inr body) =
        changes (with_gate Generation Closed k0.stands) k0.chosen (Setting Generation ∷ wants) (wants ++ drop 3 (setting p Generation (next_side k0.stands Generation))) is
        (rest_holds k0.stands.generation Closed k0.stands.epoch_gate k0.stands.logged k0.stands.maybe is.holds) refl refl (none_newer (Setting Generation ∷ wants) (λ never. never) is.newer) refl body.then
        (subst (λ (ws : List Want). At (ws ++ drop 3 (setting p Generation (next_side k0.stands Generation)))) (sym is.wants.1) is.wants.0) (λ last. tt)
    by_setting Epoch wants is (inl closes) =
        stays k0.chosen (Setting Epoch ∷ wants) (wants ++ drop 1 (setting p Epoch (next_side k0.stands Epoch))) is (newer_by (Setting Epoch ∷ wants) (wants ++ drop 1 (setting p Epoch (next_side k0.stands Epoch))) (λ never. absurd never)) refl closes.then
        (subst (λ (ws : List Want). At (ws ++ drop 1 (setting p Epoch (next_side k0.stands Epoch)))) (sym is.wants.1) ((is.wants.0, tt), tt)) (λ last. tt)
    by_setting Epoch wants is (inr body) =
        changes (with_gate Epoch Closed k0.stands) k0.chosen (Setting Epoch ∷ wants) (wants ++ drop 3 (setting p Epoch (next_side k0.stands Epoch))) is
        (rest_holds k0.stands.generation k0.stands.generation_gate Closed k0.stands.logged k0.stands.maybe is.holds) refl refl (none_newer (Setting Epoch ∷ wants) (λ never. never) is.newer) refl body.then
        (subst (λ (ws : List Want). At (ws ++ drop 3 (setting p Epoch (next_side k0.stands Epoch)))) (sym is.wants.1) ((is.wants.0, tt), tt)) (λ last. tt)

    -- behind the first cell that is read the other reads are left, and the sync
    found_rest : (q : Params) (s : StandingKnown) → (ns : List Note) × (drop 1 (found_wants q s) ≡ kept ns ++ (Fixed Sync Settles ∷ sets q Generation (other s.generation) s.generation_gate))
    found_rest q s =
        let logs : List Note = reads_of (region_cells q (LogArea (side_number (other s.epoch)))) in
        let less : ℕ = checkpoint_cells q - 1 in (
          reads_of (map (check_cell q (side_number s.epoch)) (range_with_len 1 less)) ++ logs,
          ap (λ (n : ℕ). drop 1 (kept (reads_of (map (check_cell q (side_number s.epoch)) (range_with_len 0 n)) ++ logs) ++ (Fixed Sync Settles ∷ sets q Generation (other s.generation) s.generation_gate))) (less_one (checkpoint_cells q) (some_checks q)),
        )

    by_found : (chosen : Bool) (s : StandingKnown) (wants : List Want) → Before (Checkpoint ∷ wants) → next ≡ taken_up (record k { chosen = chosen; wants = wants ++ drop 1 (found_wants p s) }) → Taken (Checkpoint ∷ wants)
    by_found chosen s wants is same =
        let found = found_rest p s in
        let end : List Want = Fixed Sync Settles ∷ sets p Generation (other s.generation) s.generation_gate in
        let then : next ≡ taken_up (record k { chosen = chosen; wants = kept found.0 ++ end }) = same ∙ (λ i. taken_up (record k { chosen = chosen; wants = is.wants i ++ found.1 i })) in
        stays chosen (Checkpoint ∷ wants) (kept found.0 ++ end) is (newer_by (Checkpoint ∷ wants) (kept found.0 ++ end) (λ until. kept_until found.0 end tt)) refl then
        (kept_at p (bare p leaf within) epoch k0.leaves k0.batch found.0 end (generation_ends p (bare p leaf within) epoch (other s.generation) s.generation_gate)) (λ last. tt)

    by_want : (w : Want) (wants : List Want) → Before (w ∷ wants) → IsOfLeaves leaf epoch [] (w ∷ wants) note → TakesWant k w wants note next → Taken (w ∷ wants)
    by_want (Fixed wanted change) wants is given takes = by_fixed wanted change wants is takes.1
    by_want (Place b i) wants is given takes = by_place b i wants is given takes
    by_want (Record b) wants is given takes = by_record b wants is given takes
    by_want (Setting r) wants is given takes = by_setting r wants is takes
    by_want Checkpoint wants is given (inl older) = by_found k0.chosen k0.stands wants is older.then
    by_want Checkpoint wants is given (inr newer) = by_found true (newer_or_same k0.stands k0.newer) wants is newer.then

  -- ---- outside of runs

  idle : (slots : Slots) (epoch : ℕ) (k0 : Follow) (w : Want) (wants : List Want) (note : Note) (next : Follow) → AreSlots p leaf within slots → Known slots epoch (record k0 { params = p; holes = []; runs = false; wants = w ∷ wants })
      → TakesWant (record k0 { params = p; holes = []; runs = false; wants = w ∷ wants }) w wants note next → Step slots epoch (record k0 { params = p; holes = []; runs = false; wants = w ∷ wants }) [] (w ∷ wants) note next
  idle slots epoch k0 w wants note next are is takes = go w is.wants takes
    where
      before : List Want → Follow
      before ws = record k0 { params = p; holes = []; runs = false; wants = ws }

      still_newer : (o : Option StandingKnown) → NewerIs p leaf within slots epoch k0.stands o false [] (w ∷ wants) → NewerIs p leaf within slots epoch k0.stands o false [] wants
      still_newer None was = tt
      still_newer (Some t) was = (was.0, (tt, refl))

      known : (formatted : Bool) → OnlyKept wants → Known slots epoch (record k0 { params = p; holes = []; runs = false; formatted = formatted; wants = wants })
      known formatted only = record { params = refl; few = is.few; holds = is.holds; marked = is.marked; newer = still_newer k0.newer is.newer; holes = tt; wants = only }

      go : (x : Want) → OnlyKept (x ∷ wants) → TakesWant (before (w ∷ wants)) x wants note next → Step slots epoch (before (w ∷ wants)) [] (x ∷ wants) note next
      go (Fixed wanted Keeps) only takes = quiet slots epoch (before (w ∷ wants)) [] (Fixed wanted Keeps ∷ wants) note next (before wants) are refl takes.1 refl (known k0.formatted only.1) (λ last. tt)
      go (Fixed wanted Formats) only takes = quiet slots epoch (before (w ∷ wants)) [] (Fixed wanted Formats ∷ wants) note next (record (before wants) { formatted = true }) are refl takes.1 refl (known true only.1) (λ last. tt)
      go (Fixed wanted Settles) only takes = absurd only.0
      go (Fixed wanted (Doubts r)) only takes = absurd only.0
      go (Fixed wanted (Closes r)) only takes = absurd only.0
      go (Fixed wanted SetsGeneration) only takes = absurd only.0
      go (Fixed wanted EndsEpoch) only takes = absurd only.0
      go (Fixed wanted MayLog) only takes = absurd only.0
      go (Fixed wanted Logs) only takes = absurd only.0
      go (Place b i) only takes = absurd only
      go (Record b) only takes = absurd only
      go (Setting r) only takes = absurd only
      go Checkpoint only takes = absurd only

  -- ---- any note

  pub one_step : (slots : Slots) (epoch : ℕ) (k : Follow) (note : Note) (next : Follow) → AreSlots p leaf within slots → Slotted p leaf within slots epoch k → IsOfLeaves leaf epoch k.holes k.wants note → TakesLine k (L.Note note) next
      → Step slots epoch k k.holes k.wants note next
  one_step slots epoch k note next are is given takes = go k.holes k.wants k.runs refl refl refl
    where
      parts : List Hole → List Want → Bool → Follow
      parts hs ws runs = record k { params = p; holes = hs; wants = ws; runs = runs }

      Goal : Follow → Type 0
      Goal g = IsOfLeaves leaf epoch g.holes g.wants note → Slotted p leaf within slots epoch g → TakesNote g g.holes g.wants note next → Step slots epoch g g.holes g.wants note next

      by : (hs : List Hole) (ws : List Want) (runs : Bool) → Goal (parts hs ws runs)
      by (h ∷ hs) ws runs given is (x, takes) = by_slot slots epoch (parts (h ∷ hs) ws runs) are h hs note next x is takes
      by [] (w ∷ ws) true given is takes =
          by_want slots epoch (parts [] (w ∷ ws) true) are note next w ws (record { few = is.few; holds = is.holds; marked = is.marked; newer = is.newer; wants = is.wants }) given takes
      by [] (w ∷ ws) false given is takes = idle slots epoch (parts [] (w ∷ ws) false) w ws note next are is takes
      by [] [] runs given is takes = absurd takes

      go : (hs : List Hole) (ws : List Want) (runs : Bool) → k.holes ≡ hs → k.wants ≡ ws → k.runs ≡ runs → Step slots epoch k k.holes k.wants note next
      go hs ws runs a b c =
          let same : k ≡ parts hs ws runs = (λ i. record k { params = is.params i; holes = a i; wants = b i; runs = c i }) in
          (subst (λ (g : Follow). Goal g) (sym same) (by hs ws runs)) given is takes
