-- What is merely known of the halves' events is known of them: it can be so in one way.
use Rattle.std.proofs.Common.{◌≡◌, ◌⊎◌, ◌≤◌, inl, inr, ⊎_elim, arith, ℕ, zero, suc, List, [], ◌∷◌, ◌++◌, Option, Some, None, length, drop, refl, sym, ◌∙◌, ap, subst}
use Rattle.std.specs.Coded.{Coded, Coded-set, code_by, coded×, coded_list, coded_ℕ, le_prop, Unit-prop}
use Rattle.std.specs.Borrow.{GName}
use Rattle.std.proofs.Math.Logic.{∥∥₁_elim, ∥∥₁_map}
use Rattle.std.proofs.Math.Seq.{drop-append_seam}
use Rattle.ob_base.specs.Causes.{Rose}
use Rattle.ob_store.specs.declared.event.Event.{Event}
use Rattle.ob_store.specs.declared.event.Event.TheVariants.{Read, Write, Sync}
use Rattle.ob_store.specs.Disk.{Disk}
use Rattle.ob_store.specs.Calls.{Notes, TellsOn}
use Rattle.ob_mirror.specs.Begun.{event_cell, events_before, half_before, event_kind, told_before}
use Rattle.ob_mirror.specs.Telling.{BeginsWith, Follows, HasSomeRead, LeavesOutReads, TellsStill, changes}
use Rattle.ob_mirror.proofs.Leaves.{leaves_changes, no_read}

-- ---- events as numbers

abbrev event_of : ℕ × ℕ → Event
event_of (suc zero, cell) = Read cell
event_of (suc (suc zero), cell) = Write cell
event_of (kind, cell) = Sync

of_event : (event : Event) → event_of (event_kind event, event_cell event) ≡ event
of_event (Read cell) = refl
of_event (Write cell) = refl
of_event Sync = refl

events_code : Coded (List Event)
events_code = coded_list (code_by (ℕ × ℕ) (coded× coded_ℕ coded_ℕ) (λ event. (event_kind event, event_cell event)) event_of of_event)

same_event : (x y : Event) → event_kind x ≡ event_kind y → event_cell x ≡ event_cell y → x ≡ y
same_event x y kind cell = sym (of_event x) ∙ ap (λ (k : ℕ). event_of (k, event_cell x)) kind ∙ ap (λ (c : ℕ). event_of (event_kind y, c)) cell ∙ of_event y

heads : {A : Type 0} (x y : A) (xs ys : List A) → x ∷ xs ≡ y ∷ ys → x ≡ y
heads x y xs ys is = cc is

tails : {A : Type 0} (x y : A) (xs ys : List A) → x ∷ xs ≡ y ∷ ys → xs ≡ ys
tails x y xs ys is = cc is

no_kind : (event : Event) → 0 ≡ event_kind event → ⊥
no_kind (Read cell) is = cc is
no_kind (Write cell) is = cc is
no_kind Sync is = cc is

events_are : (xs ys : List Event) (s t : List ℕ) → events_before xs s ≡ events_before ys t → (xs ≡ ys) × (s ≡ t)
events_are [] [] s t is = (refl, tails 0 0 s t is)
events_are [] (y ∷ ys) s t is = absurd (no_kind y (heads 0 (event_kind y) s (event_cell y ∷ events_before ys t) is))
events_are (x ∷ xs) [] s t is = absurd (no_kind x (sym (heads (event_kind x) 0 (event_cell x ∷ events_before xs s) t is)))
events_are (x ∷ xs) (y ∷ ys) s t is =
    let kind = heads (event_kind x) (event_kind y) (event_cell x ∷ events_before xs s) (event_cell y ∷ events_before ys t) is in
    let more = tails (event_kind x) (event_kind y) (event_cell x ∷ events_before xs s) (event_cell y ∷ events_before ys t) is in
    let cell = heads (event_cell x) (event_cell y) (events_before xs s) (events_before ys t) more in
    let rest = events_are xs ys s t (tails (event_cell x) (event_cell y) (events_before xs s) (events_before ys t) more) in
    (ap (λ (e : Event). e ∷ xs) (same_event x y kind cell) ∙ ap (λ (es : List Event). y ∷ es) rest.0, rest.1)

told_are : (a b : Option (List Event)) (s t : List ℕ) → told_before a s ≡ told_before b t → (a ≡ b) × (s ≡ t)
told_are None None s t is = (refl, tails 0 0 s t is)
told_are None (Some b) s t is = absurd (let wrong : 0 ≡ 1 = heads 0 1 s (events_before b t) is in cc wrong)
told_are (Some a) None s t is = absurd (let wrong : 1 ≡ 0 = heads 1 0 (events_before a s) t is in cc wrong)
told_are (Some a) (Some b) s t is =
    let both = events_are a b s t (tails 1 1 (events_before a s) (events_before b t) is) in
    (ap (λ (es : List Event). Some es) both.0, both.1)

pub half_is : (a b : Disk) (s t : List ℕ) → half_before a s ≡ half_before b t → (a.faults ≡ b.faults) × (a.seen ≡ b.seen) × (s ≡ t)
half_is a b s t is =
    let told = told_are a.seen b.seen s t (tails a.faults b.faults (told_before a.seen s) (told_before b.seen t) is) in
    (heads a.faults b.faults (told_before a.seen s) (told_before b.seen t) is, told.0, told.1)

-- ---- whether some of the reads are left out

same_number : (m n : ℕ) → (m ≡ n) ⊎ (m ≡ n → ⊥)
same_number zero zero = inl refl
same_number zero (suc n) = inr (λ is. omega (arith, is))
same_number (suc m) zero = inr (λ is. omega (arith, is))
same_number (suc m) (suc n) = ⊎_elim (λ is. inl (ap (λ (k : ℕ). suc k) is)) (λ no. inr (λ is. no (omega (arith, is)))) (same_number m n)

event_or : (x y : Event) → (x ≡ y) ⊎ (x ≡ y → ⊥)
event_or x y = ⊎_elim
    (λ kind. ⊎_elim (λ cell. inl (same_event x y kind cell)) (λ no. inr (λ is. no (ap event_cell is))) (same_number (event_cell x) (event_cell y)))
    (λ no. inr (λ is. no (ap event_kind is))) (same_number (event_kind x) (event_kind y))

begins_or : (event : Event) (P : List Event → Type 0) (others : List Event) → ((rest : List Event) → P rest ⊎ (P rest → ⊥)) → BeginsWith event P others ⊎ (BeginsWith event P others → ⊥)
begins_or event P [] either = inr (λ begins. begins)
begins_or event P (x ∷ rest) either = ⊎_elim
    (λ is. ⊎_elim (λ so. inl (is, so)) (λ no. inr (λ begins. no begins.1)) (either rest))
    (λ no. inr (λ begins. no begins.0)) (event_or x event)

leaves_or : (made others : List Event) → LeavesOutReads made others ⊎ (LeavesOutReads made others → ⊥)
leaves_or [] [] = inl refl
leaves_or [] (x ∷ rest) = inr (λ is. let many = ap length is in omega (arith, many))
leaves_or (Read cell ∷ made) others = ⊎_elim
    (λ begins. inl (inl begins))
    (λ no. ⊎_elim (λ leaves. inl (inr leaves)) (λ none. inr (λ so. ⊎_elim no none so)) (leaves_or made others))
    (begins_or (Read cell) (LeavesOutReads made) others (λ rest. leaves_or made rest))
leaves_or (Write cell ∷ made) others = begins_or (Write cell) (LeavesOutReads made) others (λ rest. leaves_or made rest)
leaves_or (Sync ∷ made) others = begins_or Sync (LeavesOutReads made) others (λ rest. leaves_or made rest)

-- ---- what is merely known

leaves_once : (made others : List Event) → ∥ LeavesOutReads made others ∥₁ → LeavesOutReads made others
leaves_once made others kept = ⊎_elim (λ leaves. leaves) (λ no. absurd (∥∥₁_elim kept (λ x y. absurd x) (λ leaves. no leaves))) (leaves_or made others)

still_once : (a b : Disk) → ∥ TellsStill a b ∥₁ → TellsStill a b
still_once a b kept = record { faults = ∥∥₁_elim kept le_prop (λ k. k.faults); seen = ∥∥₁_elim kept (on_once a.seen b.seen a.faults b.faults) (λ k. k.seen) }
  where
    on_once : (s n : Option (List Event)) (k l : ℕ) → IsProp (TellsOn s n k l)
    on_once (Some s) None k l = le_prop
    on_once (Some s) (Some n) k l = Unit-prop
    on_once None None k l = Unit-prop
    on_once None (Some n) k l = λ x y. absurd x

notes_once : (events : List Event) (old new : Option (List Event)) → IsProp (Notes events old new)
notes_once events old None = Unit-prop
notes_once events (Some old) (Some new) = Coded-set events_code new (old ++ events)
notes_once events None (Some new) = λ x y. absurd x

record Own (made : List Event) (before now : ℕ) (old new : Option (List Event)) : Type 0 where
  own : List Event
  noted : Notes own old new
  same : LeavesOutReads made own
  failed : HasSomeRead own → Rose before now

own_once : (made : List Event) (before now : ℕ) (old new : Option (List Event)) → ∥ Own made before now old new ∥₁ → Own made before now old new
own_once made before now old None kept = record { own = changes made; noted = tt; same = leaves_changes made; failed = λ has. absurd (no_read made has) }
own_once made before now (Some old) (Some new) kept =
    let behind = drop (length old) new in
    let is : (k : Own made before now (Some old) (Some new)) → behind ≡ k.own = (λ k. ap (drop (length old)) k.noted ∙ drop-append_seam old k.own) in
    record {
      own = behind;
      noted = ∥∥₁_elim kept (Coded-set events_code new (old ++ behind)) (λ k. k.noted ∙ ap (λ (es : List Event). old ++ es) (sym (is k)));
      same = leaves_once made behind (∥∥₁_map kept (λ k. subst (LeavesOutReads made) (sym (is k)) k.same));
      failed = λ has. ∥∥₁_elim kept le_prop (λ k. k.failed (subst HasSomeRead (is k) has));
    }
own_once made before now None (Some new) kept = absurd (∥∥₁_elim kept (λ x y. absurd x) (λ k. k.noted))

follows_once : (made : List Event) (a c b d : Disk) → ∥ Follows made a c b d ∥₁ → Follows made a c b d
follows_once made a c b d kept =
    let own = own_once made a.faults c.faults b.seen d.seen (∥∥₁_map kept (λ k. record { own = k.own; noted = k.second; same = k.same; failed = k.failed })) in
    record {
      own = own.own;
      first = ∥∥₁_elim kept (notes_once made a.seen c.seen) (λ k. k.first);
      second = own.noted;
      same = own.same;
      failed = own.failed;
      first_still = still_once a c (∥∥₁_map kept (λ k. k.first_still));
      second_still = still_once b d (∥∥₁_map kept (λ k. k.second_still));
    }

-- ---- halves that had told as much when they were put together

still_from : (a e c : Disk) → a.faults ≡ e.faults → a.seen ≡ e.seen → TellsStill a c → TellsStill e c
still_from a e c faults seen still = record {
  faults = subst (λ (n : ℕ). n ≤ c.faults) faults still.faults;
  seen = subst (λ (s : Option (List Event)). TellsOn s c.seen e.faults c.faults) seen (subst (λ (n : ℕ). TellsOn a.seen c.seen n c.faults) faults still.seen);
}

follows_from : (made : List Event) (a e c b f d : Disk) (s t : List ℕ) → half_before a (half_before b s) ≡ half_before e (half_before f t) → Follows made a c b d → Follows made e c f d
follows_from made a e c b f d s t is follows =
    let one = half_is a e (half_before b s) (half_before f t) is in
    let two = half_is b f s t one.2 in
    record {
      own = follows.own;
      first = subst (λ (x : Option (List Event)). Notes made x c.seen) one.1 follows.first;
      second = subst (λ (x : Option (List Event)). Notes follows.own x d.seen) two.1 follows.second;
      same = follows.same;
      failed = subst (λ (n : ℕ). HasSomeRead follows.own → Rose n c.faults) one.0 follows.failed;
      first_still = still_from a e c one.0 one.1 follows.first_still;
      second_still = still_from b f d two.0 two.1 follows.second_still;
    }

behind_names : (x y v w : GName) (xs ys : List ℕ) → ◌≡◌ {A = List ℕ} (x ∷ y ∷ xs) (v ∷ w ∷ ys) → xs ≡ ys
behind_names x y v w xs ys is = cc is

-- Two states of one mirror: what its halves had told when they were put together, the earlier one has too.
pub follows_of_one : (made : List Event) (x y v w : GName) (a e c b f d : Disk) (s t : List ℕ) → ◌≡◌ {A = List ℕ} (x ∷ y ∷ half_before a (half_before b s)) (v ∷ w ∷ half_before e (half_before f t)) → ∥ Follows made a c b d ∥₁ → Follows made e c f d
follows_of_one made x y v w a e c b f d s t same kept = follows_from made a e c b f d s t (behind_names x y v w _ _ same) (follows_once made a c b d kept)
