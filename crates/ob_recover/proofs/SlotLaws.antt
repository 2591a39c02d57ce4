-- No two slot holes of a bucket's version show one slot.
use Rattle.std.specs.Prelude.{◌≡◌, ℕ, ◌+◌, ◌<◌, ◌≤◌, ◌==◌, Bool, true, false, cond, not, ◌&&◌, List, [], ◌∷◌, ◌++◌}
use Rattle.std.proofs.Common.{arith, refl, sym, ap, subst, ◌∙◌, inl, inr}
use Rattle.std.proofs.lemmas.Bool.{true≢false, cases_Bool, eq-eqb, or_left, or_right, and_from}
use Rattle.std.proofs.lemmas.List.{append_assoc, append-nil}
use Rattle.ob_tables.specs.Rank.{IsRanking}
use Rattle.ob_base.specs.declared.params.Params.{Params}
use Rattle.ob_ring.specs.FlatTable.{Shown}
use Rattle.ob_ring.specs.News.{Seen, with_shown, with_all, AreNew}
use Rattle.ob_recover.specs.Life.{LifeContent, SlotFill, slot_fill, slots_of}
use Rattle.ob_base.proofs.Repeats.{has_push}
use Rattle.ob_base.specs.Repeats.{Has}

-- of the slots planned so far, the present versions with what was seen of them, and the epoch that runs
pub record AreSlotsApart (p : Params) (fs : List SlotFill) (version : ℕ → ℕ) (slot : ℕ → ℕ → ℕ) (k : Seen) (e : ℕ) : Type 0 where
  pub ranked : (u : ℕ) → IsRanking (p.real + p.dummies) (slot u)
  pub versions_old : (u : ℕ) → version u < e
  pub present : (f : SlotFill) → Has fs f → f.version ≡ version f.bucket → (f.number < k.next f.bucket) × ((j : ℕ) × (j < p.real + p.dummies) × (f.slot ≡ slot f.bucket j) × (k.shown f.bucket j ≡ true))
  pub old : (f : SlotFill) → Has fs f → f.version ≤ version f.bucket
  pub by_slot : (f g : SlotFill) → Has fs f → Has fs g → f.bucket ≡ g.bucket → f.version ≡ g.version → f.slot ≡ g.slot → f ≡ g
  pub by_number : (f g : SlotFill) → Has fs f → Has fs g → f.bucket ≡ g.bucket → f.version ≡ g.version → f.number ≡ g.number → f ≡ g
  pub epochs : (f : SlotFill) → Has fs f → f.epoch ≤ e
  pub this_epoch : (f : SlotFill) → Has fs f → f.epoch ≡ e → f.version ≡ version f.bucket
  pub one_version : (f g : SlotFill) → Has fs f → Has fs g → f.epoch ≡ g.epoch → f.bucket ≡ g.bucket → f.version ≡ g.version

bucket_at : (f g : SlotFill) → f ≡ g → f.bucket ≡ g.bucket
bucket_at f g e = ap (λ (x : SlotFill). x.bucket) e

version_at : (f g : SlotFill) → f ≡ g → f.version ≡ g.version
version_at f g e = ap (λ (x : SlotFill). x.version) e

epoch_at : (f g : SlotFill) → f ≡ g → f.epoch ≡ g.epoch
epoch_at f g e = ap (λ (x : SlotFill). x.epoch) e

module _ (p : Params) (fs : List SlotFill) (c : LifeContent) (k : Seen) (e : ℕ) (a : AreSlotsApart p fs c.version c.slot k e) (s : Shown) (within : s.index < p.real + p.dummies) (unseen : k.shown s.bucket s.index ≡ false) (at : s.number ≡ k.next s.bucket) where
  abbrev new : SlotFill
  new = slot_fill e c s

  -- an earlier hole of the same version has another slot, and another number
  other_slot : (f : SlotFill) → Has fs f → f.bucket ≡ s.bucket → f.version ≡ c.version s.bucket → f.slot ≡ c.slot s.bucket s.index → ⊥
  other_slot f h b v q =
      let was : (f.number < k.next f.bucket) × ((j : ℕ) × (j < p.real + p.dummies) × (f.slot ≡ c.slot f.bucket j) × (k.shown f.bucket j ≡ true)) = a.present f h (v ∙ ap c.version (sym b)) in
      let j : ℕ = (was.1).0 in
      let same : j ≡ s.index = (a.ranked s.bucket).apart j s.index (was.1).1 within (ap (λ (u : ℕ). c.slot u j) (sym b) ∙ sym (was.1).2 ∙ q) in
      true≢false (sym (was.1).3 ∙ (λ i. k.shown (b i) (same i)) ∙ unseen)

  other_number : (f : SlotFill) → Has fs f → f.bucket ≡ s.bucket → f.version ≡ c.version s.bucket → f.number ≡ s.number → ⊥
  other_number f h b v n =
      let was : f.number < k.next f.bucket = (a.present f h (v ∙ ap c.version (sym b))).0 in
      let x : k.next f.bucket ≡ k.next s.bucket = ap k.next b in
      omega arith

  grows : (u : ℕ) → k.next u ≤ (with_shown k s).next u
  grows u = elim (cases_Bool (u == s.bucket)) [ inl on ↦ rw on (omega arith) | inr off ↦ rw off (omega arith) ]

  grown : k.next s.bucket < (with_shown k s).next s.bucket
  grown = rw (eq-eqb s.bucket s.bucket refl) (omega arith)

  pub slot_step : AreSlotsApart p (fs ++ new ∷ []) c.version c.slot (with_shown k s) e
  slot_step = record {
    ranked = a.ranked;
    versions_old = a.versions_old;
    present = λ f h v. elim (has_push fs new f h) [
      | inl o ↦ (let was : (f.number < k.next f.bucket) × ((j : ℕ) × (j < p.real + p.dummies) × (f.slot ≡ c.slot f.bucket j) × (k.shown f.bucket j ≡ true)) = a.present f o v in
          (omega (arith, was.0, grows f.bucket), ((was.1).0, (was.1).1, (was.1).2, or_right ((f.bucket == s.bucket) && ((was.1).0 == s.index)) (k.shown f.bucket (was.1).0) (was.1).3)))
      | inr n ↦ subst (λ (f : SlotFill). (f.number < (with_shown k s).next f.bucket) × ((j : ℕ) × (j < p.real + p.dummies) × (f.slot ≡ c.slot f.bucket j) × ((with_shown k s).shown f.bucket j ≡ true))) n (
        (let g : k.next s.bucket < (with_shown k s).next s.bucket = grown in omega arith),
        (s.index, within, refl, or_left ((s.bucket == s.bucket) && (s.index == s.index)) (k.shown s.bucket s.index) (and_from (s.bucket == s.bucket) (s.index == s.index) (eq-eqb s.bucket s.bucket refl) (eq-eqb s.index s.index refl))),
      )
    ];
    old = λ f h. elim (has_push fs new f h) [
      | inl o ↦ a.old f o
      | inr n ↦ subst (λ (f : SlotFill). f.version ≤ c.version f.bucket) n (omega arith)
    ];
    by_slot = λ f g h i b v q. elim (has_push fs new f h) [
      | inl o ↦ elim (has_push fs new g i) [
        | inl o' ↦ a.by_slot f g o o' b v q
        | inr n' ↦ absurd (other_slot f o (b ∙ sym (bucket_at new g n')) (v ∙ sym (version_at new g n')) (q ∙ ap (λ (x : SlotFill). x.slot) (sym n')))
      ]
      | inr n ↦ elim (has_push fs new g i) [
        | inl o' ↦ absurd (other_slot g o' (sym b ∙ sym (bucket_at new f n)) (sym v ∙ sym (version_at new f n)) (sym q ∙ ap (λ (x : SlotFill). x.slot) (sym n)))
        | inr n' ↦ sym n ∙ n'
      ]
    ];
    by_number = λ f g h i b v q. elim (has_push fs new f h) [
      | inl o ↦ elim (has_push fs new g i) [
        | inl o' ↦ a.by_number f g o o' b v q
        | inr n' ↦ absurd (other_number f o (b ∙ sym (bucket_at new g n')) (v ∙ sym (version_at new g n')) (q ∙ ap (λ (x : SlotFill). x.number) (sym n')))
      ]
      | inr n ↦ elim (has_push fs new g i) [
        | inl o' ↦ absurd (other_number g o' (sym b ∙ sym (bucket_at new f n)) (sym v ∙ sym (version_at new f n)) (sym q ∙ ap (λ (x : SlotFill). x.number) (sym n)))
        | inr n' ↦ sym n ∙ n'
      ]
    ];
    epochs = λ f h. elim (has_push fs new f h) [
      | inl o ↦ a.epochs f o
      | inr n ↦ subst (λ (f : SlotFill). f.epoch ≤ e) n (omega arith)
    ];
    this_epoch = λ f h x. elim (has_push fs new f h) [
      | inl o ↦ a.this_epoch f o x
      | inr n ↦ subst (λ (f : SlotFill). f.version ≡ c.version f.bucket) n refl
    ];
    one_version = λ f g h i x b. elim (has_push fs new f h) [
      | inl o ↦ elim (has_push fs new g i) [
        | inl o' ↦ a.one_version f g o o' x b
        | inr n' ↦ a.this_epoch f o (x ∙ sym (epoch_at new g n')) ∙ ap c.version (b ∙ sym (bucket_at new g n')) ∙ version_at new g n'
      ]
      | inr n ↦ elim (has_push fs new g i) [
        | inl o' ↦ sym (version_at new f n) ∙ ap c.version (bucket_at new f n ∙ b) ∙ sym (a.this_epoch g o' (sym x ∙ sym (epoch_at new f n)))
        | inr n' ↦ version_at f g (sym n ∙ n')
      ]
    ];
  }

pub slots_step : (p : Params) (fs : List SlotFill) (c : LifeContent) (k : Seen) (e : ℕ) (ss : List Shown) → AreSlotsApart p fs c.version c.slot k e → AreNew p k ss → AreSlotsApart p (fs ++ slots_of e c ss) c.version c.slot (with_all k ss) e
slots_step p fs c k e [] a n = subst (λ (l : List SlotFill). AreSlotsApart p l c.version c.slot k e) (sym (append-nil fs)) a
slots_step p fs c k e (s ∷ ss) a n =
    subst (λ (l : List SlotFill). AreSlotsApart p l c.version c.slot (with_all (with_shown k s) ss) e) (append_assoc fs (slot_fill e c s ∷ []) (slots_of e c ss))
    (slots_step p (fs ++ slot_fill e c s ∷ []) c (with_shown k s) e ss (slot_step p fs c k e a s n.0 n.1 n.2) n.3)

-- ---- an end: the lifted buckets begin new versions

abbrev pub seen_ended : (ℕ → Bool) → Seen → Seen
seen_ended up k = record { shown = λ u j. not (up u) && k.shown u j; next = λ u. cond (up u) 0 (k.next u) }

end_case : (b : Bool) (v w e : ℕ) → v ≤ w → w < e → v ≡ cond b e w → (b ≡ false) × (v ≡ w)
end_case true v w e h k x = absurd (omega arith)
end_case false v w e h k x = (refl, x)

end_old : (b : Bool) (v w e : ℕ) → v ≤ w → w < e → v ≤ cond b e w
end_old true v w e h k = omega arith
end_old false v w e h k = h

end_lt : (b : Bool) (w e : ℕ) → w < e → cond b e w < e + 1
end_lt true w e k = omega arith
end_lt false w e k = omega arith

end_ranked : (n : ℕ) (b : Bool) (s t : ℕ → ℕ) → (b ≡ true → IsRanking n s) → IsRanking n t → IsRanking n (cond b s t)
end_ranked n true s t h k = h refl
end_ranked n false s t h k = k

pub slots_end : (p : Params) (fs : List SlotFill) (version : ℕ → ℕ) (slot slot' : ℕ → ℕ → ℕ) (k : Seen) (e : ℕ) (up : ℕ → Bool) → AreSlotsApart p fs version slot k e → ((u : ℕ) → up u ≡ true → IsRanking (p.real + p.dummies) (slot' u)) → AreSlotsApart p fs
    (λ u. cond (up u) e (version u)) (λ u. cond (up u) (slot' u) (slot u)) (seen_ended up k) (e + 1)
slots_end p fs version slot slot' k e up a r = record {
  ranked = λ u. end_ranked (p.real + p.dummies) (up u) (slot' u) (slot u) (r u) (a.ranked u);
  versions_old = λ u. end_lt (up u) (version u) e (a.versions_old u);
  present = λ f h v.
      (let was : (up f.bucket ≡ false) × (f.version ≡ version f.bucket) = end_case (up f.bucket) f.version (version f.bucket) e (a.old f h) (a.versions_old f.bucket) v in
      let at : (f.number < k.next f.bucket) × ((j : ℕ) × (j < p.real + p.dummies) × (f.slot ≡ slot f.bucket j) × (k.shown f.bucket j ≡ true)) = a.present f h was.1 in
      rw was.0 (at.0, ((at.1).0, (at.1).1, (at.1).2, (at.1).3)));
  old = λ f h. end_old (up f.bucket) f.version (version f.bucket) e (a.old f h) (a.versions_old f.bucket);
  by_slot = a.by_slot;
  by_number = a.by_number;
  epochs = λ f h. omega (arith, a.epochs f h);
  this_epoch = λ f h x. absurd (omega (arith, a.epochs f h));
  one_version = a.one_version;
}
