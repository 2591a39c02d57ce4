-- What keeps the index of versions and marks true of the works.
use Rattle.std.proofs.Common.{◌≡◌, ℕ, zero, suc, max, ◌<◌, ◌≤◌, Bool, true, false, ◌==◌, ◌&&◌, if◌then◌else◌, List, [], ◌∷◌, ◌++◌, length, Option, None, Some, option_map, option_and_then, unwrap_or, refl, sym, ap, ap₂, ◌∙◌, subst, inl, inr, ◌⊎◌, ⊎_elim, arith, eq-eqb, ne_eqb}
use Rattle.std.proofs.lemmas.Bool.{cases_eq, false≢true}
use Rattle.std.specs.Option.{option_or}
use Rattle.std.proofs.lemmas.Option.{none-some, same_Some}
use Rattle.ob_order.specs.Works.{Get, Work, is_going, goes_on, at_ticket, edit, with_op, add_op, version, version_in, newest, source_of, mark, last_write, is_get_of}
use Rattle.ob_order.specs.declared.answers.Version.{Version}
use Rattle.ob_order.specs.Order.{write_op}
use Rattle.ob_order.specs.Chains.{IsMark, Sourced}
use Rattle.ob_order.proofs.Edits.{at_edit_same, at_edit_other, length-edit, last_write-push}
use Rattle.ob_order.proofs.Newest.{by_option, newest_own, newest_lower, version-with_op}
use Rattle.ob_order.proofs.Falls.{fallen_edit}
use Rattle.ob_order.proofs.Links.{conflict_alike, mark_at_put}
use Rattle.ob_order.proofs.Counts.{other_written, own_written}
use Rattle.ob_key_versions.specs.declared.chain.Link.{Link}
use Rattle.ob_key_versions.specs.Chains.{IsNewest}
use Rattle.ob_key_versions.specs.Tables.{raised}
use Rattle.ob_versions.specs.Index.{IsIndex}
use Rattle.ob_versions.proofs.Marks.{mark_other, mark_here, mark_same_ops}

-- ---- the newest version

pub none_newest : (ws : List Work) (n k : ℕ) → ((q : ℕ) → q ≤ n → version ws q k ≡ None) → newest ws n k ≡ None
none_newest ws zero k h = refl
none_newest ws (suc n) k h = newest_lower ws n k (h (suc n) (omega arith)) ∙ none_newest ws n k (λ q l. h q (omega arith))

abbrev made : ℕ → Option (List ℕ) → Version
made s x = record { source = s; value = x }

some_newest : (ws : List Work) (s n k : ℕ) (x : Option (List ℕ)) → s ≤ n → version ws s k ≡ Some x → ((q : ℕ) → s < q → q ≤ n → version ws q k ≡ None) → newest ws n k ≡ Some (made s x)
some_newest ws s zero k x l e h = absurd (none-some x (subst (λ q. version ws q k ≡ Some x) (let z : s ≡ 0 = omega arith in z) e))
some_newest ws s (suc n) k x l e h = ⊎_elim
    (λ same. newest_own ws n k x (subst (λ q. version ws q k ≡ Some x) same e) ∙ ap (λ q. Some (made q x)) (sym same))
    (λ other. newest_lower ws n k (h (suc n) (omega arith) (omega arith)) ∙ some_newest ws s n k x (omega arith) e (λ q a b. h q a (omega arith)))
    (cases_eq s (suc n))

abbrev pub version_from : ℕ × Link → Version
version_from p = record { source = p.0; value = p.1.value }

pub newest_is : (ws : List Work) (links : ℕ → ℕ → Option Link) (base : ℕ → ℕ) → IsIndex ws links base → (k t : ℕ) (r : Option (ℕ × Link)) → IsNewest (links k) t r → newest ws t k ≡ option_map version_from r
newest_is ws links base h k t None n = none_newest ws t k (λ q l. sym (h.versions k q) ∙ ap (option_map (λ x. x.value)) (n q l))
newest_is ws links base h k t (Some p) n = some_newest ws p.0 t k p.1.value n.0
    (sym (h.versions k p.0) ∙ ap (option_map (λ x. x.value)) n.1)
    (λ q a b. sym (h.versions k q) ∙ ap (option_map (λ x. x.value)) (n.2 q a b))

-- the mark of what a write would cover, as far as the test of a write goes
pub record IsCovered (stored real t : ℕ) : Type 0 where
  pub above : t < stored → real ≡ stored
  pub below : stored ≤ t → real ≤ t

pub covered_is : (ws : List Work) (links : ℕ → ℕ → Option Link) (base : ℕ → ℕ) → IsIndex ws links base → (k t : ℕ) (r : Option (ℕ × Link)) → IsNewest (links k) t r
    → IsCovered (unwrap_or (option_map (λ p. p.1.mark) r) (base k)) (mark ws k (source_of (newest ws t k))) t
covered_is ws links base h k t None n = let none = newest_is ws links base h k t None n in let same : mark ws k (source_of (newest ws t k)) ≡ base k = ap (λ v. mark ws k (source_of v)) none ∙ sym (h.bases k) in record { above = λ l. same; below = λ l. omega (arith, same) }
covered_is ws links base h k t (Some p) n =
    let some = newest_is ws links base h k t (Some p) n in
    let same : mark ws k (source_of (newest ws t k)) ≡ mark ws k p.0 = ap (λ v. mark ws k (source_of v)) some in
    let m = h.marks k p.0 p.1 n.1 in
    ⊎_elim
    (λ c. record { above = λ l. same ∙ c.1; below = λ l. absurd (omega (arith, c.0)) })
    (λ c. record { above = λ l. absurd (omega (arith, c.0)); below = λ l. omega (arith, c.1, same) })
    (conflict_alike p.1.mark p.0 (mark ws k p.0) t m n.0)

-- ---- upkeep

-- the versions and the marks are as before, and so is what is kept
pub index_moved : (ws vs : List Work) (links links' : ℕ → ℕ → Option Link) (base base' : ℕ → ℕ) → IsIndex ws links base
    → ((k t : ℕ) → version vs t k ≡ version ws t k) → ((k s : ℕ) → mark vs k s ≡ mark ws k s)
    → ((k t : ℕ) → links' k t ≡ links k t) → ((k : ℕ) → base' k ≡ base k) → IsIndex vs links' base'
index_moved ws vs links links' base base' h same_versions same_marks same_links same_bases = record {
  versions = λ k t. ap (option_map (λ l. l.value)) (same_links k t) ∙ (h.versions k t ∙ sym (same_versions k t));
  marks = λ k t l is. subst (λ m. IsMark l.mark t m) (sym (same_marks k t)) (h.marks k t l (sym (same_links k t) ∙ is));
  bases = λ k. same_bases k ∙ (h.bases k ∙ sym (same_marks k 0));
}

-- what stands at one place of two, and elsewhere
place : {A : Type 0} (k j s u : ℕ) (a b : A) → ((k ≡ j) × (s ≡ u) × ((if (k == j) && (s == u) then a else b) ≡ a)) ⊎ (((k ≡ j) × (s ≡ u) → ⊥) × ((if (k == j) && (s == u) then a else b) ≡ b))
place k j s u a b = ⊎_elim
    (λ same. ⊎_elim
    (λ both. inl (same, both, ap₂ (λ (x y : Bool). if x && y then a else b) (eq-eqb k j same) (eq-eqb s u both)))
    (λ other. inr (λ p. other p.1, ap₂ (λ (x y : Bool). if x && y then a else b) (eq-eqb k j same) (ne_eqb s u other)))
    (cases_eq s u))
    (λ other. inr (λ p. other p.0, ap (λ x. if x && (s == u) then a else b) (ne_eqb k j other)))
    (cases_eq k j)

-- whether a Get of k from s is one of j from q
get_of_other : (j q k s : ℕ) (r : Option (List ℕ)) → ((k ≡ j) × (s ≡ q) → ⊥) → is_get_of j q (Get k r s) ≡ false
get_of_other j q k s r h = ⊎_elim
    (λ same. ap₂ (λ (x y : Bool). x && y) (eq-eqb j k (sym same)) (ne_eqb q s (λ e. h (same, sym e))))
    (λ other. ap (λ x. x && (q == s)) (ne_eqb j k (λ e. other (sym e))))
    (cases_eq k j)

get_of_same : (k s : ℕ) (r : Option (List ℕ)) → is_get_of k s (Get k r s) ≡ true
get_of_same k s r = ap₂ (λ (x y : Bool). x && y) (eq-eqb k k refl) (eq-eqb s s refl)

-- a Get from an earlier write or the own one
pub index_got : (ws : List Work) (links links' : ℕ → ℕ → Option Link) (base base' : ℕ → ℕ) (t k : ℕ) (r : Option (List ℕ)) (s : ℕ) → IsIndex ws links base → 0 < t → t ≤ length ws → 0 < s
    → ((j u : ℕ) → links' j u ≡ (if (k == j) && (s == u) then option_map (raised t) (links j u) else links j u)) → ((j : ℕ) → base' j ≡ base j) → IsIndex (with_op ws t (Get k r s)) links' base'
index_got ws links links' base base' t k r s h above within from raises same_bases = record {
  versions = λ j u. ⊎_elim
      (λ here. ap (option_map (λ l. l.value)) (raises j u ∙ here.2) ∙ (value_stays (links j u) ∙ (h.versions j u ∙ sym (version-with_op ws t (Get k r s) j refl u))))
      (λ other. ap (option_map (λ l. l.value)) (raises j u ∙ other.1) ∙ (h.versions j u ∙ sym (version-with_op ws t (Get k r s) j refl u)))
      (place k j s u (option_map (raised t) (links j u)) (links j u));
  marks = λ j u l is. ⊎_elim
      (λ here. by_option (links j u)
      (λ none. absurd (none-some l (sym (ap (option_map (raised t)) none) ∙ (sym (raises j u ∙ here.2) ∙ is))))
      (λ x there.
      let l_is : raised t x ≡ l = same_Some (raised t x) l (sym (ap (option_map (raised t)) there) ∙ (sym (raises j u ∙ here.2) ∙ is)) in
      let before = h.marks j u x there in
      let now : mark (with_op ws t (Get k r s)) j u ≡ max (mark ws j u) t = mark_here ws t (Get k r s) j u (ap₂ (λ (a b : ℕ). is_get_of a b (Get k r s)) (sym here.0) (sym here.1) ∙ get_of_same k s r) above within in
      subst (λ (q : Link). IsMark q.mark u (mark (with_op ws t (Get k r s)) j u)) l_is (record { low = omega (arith, now, before.low); high = omega (arith, now, before.high) })))
      (λ other. subst (λ m. IsMark l.mark u m) (sym (mark_other ws t (Get k r s) j u (get_of_other j u k s r other.0))) (h.marks j u l (sym (raises j u ∙ other.1) ∙ is)))
      (place k j s u (option_map (raised t) (links j u)) (links j u));
  bases = λ j. same_bases j ∙ (h.bases j ∙ sym (mark_other ws t (Get k r s) j 0 (get_of_other j 0 k s r (λ p. absurd (let e : s ≡ 0 = p.1 in omega arith)))));
}
  where
    value_stays : (o : Option Link) → option_map (λ l. l.value) (option_map (raised t) o) ≡ option_map (λ l. l.value) o
    value_stays None = refl
    value_stays (Some l) = refl

-- no link is of ticket 0
none_of_base : (ws : List Work) (links : ℕ → ℕ → Option Link) (base : ℕ → ℕ) → IsIndex ws links base → (k : ℕ) → links k 0 ≡ None
none_of_base ws links base h k = by_option (links k 0) (λ none. none) (λ l is. absurd (none-some l.value (sym (h.versions k 0) ∙ ap (option_map (λ x. x.value)) is)))

-- a Get of what the epoch began with
pub index_got_base : (ws : List Work) (links links' : ℕ → ℕ → Option Link) (base base' : ℕ → ℕ) (t k : ℕ) (r : Option (List ℕ)) → IsIndex ws links base → 0 < t → t ≤ length ws
    → ((j u : ℕ) → links' j u ≡ links j u) → ((j : ℕ) → base' j ≡ (if k == j then max (base j) t else base j)) → IsIndex (with_op ws t (Get k r 0)) links' base'
index_got_base ws links links' base base' t k r h above within same_links raises = record {
  versions = λ j u. ap (option_map (λ l. l.value)) (same_links j u) ∙ (h.versions j u ∙ sym (version-with_op ws t (Get k r 0) j refl u));
  marks = λ j u l is. ⊎_elim
      (λ zero. absurd (none-some l (sym (none_of_base ws links base h j) ∙ subst (λ q. links j q ≡ Some l) zero (sym (same_links j u) ∙ is))))
      (λ other. subst (λ m. IsMark l.mark u m) (sym (mark_other ws t (Get k r 0) j u (get_of_other j u k 0 r (λ p. other (sym p.1))))) (h.marks j u l (sym (same_links j u) ∙ is)))
      (cases_eq u 0);
  bases = λ j. ⊎_elim
      (λ same.
      let now : mark (with_op ws t (Get k r 0)) j 0 ≡ max (mark ws j 0) t = mark_here ws t (Get k r 0) j 0 (ap (λ a. is_get_of a 0 (Get k r 0)) (sym same) ∙ get_of_same k 0 r) above within in
      raises j ∙ (ap (λ x. if x then max (base j) t else base j) (eq-eqb k j same) ∙ (ap (λ m. max m t) (h.bases j) ∙ sym now)))
      (λ other. raises j ∙ (ap (λ x. if x then max (base j) t else base j) (ne_eqb k j other) ∙ (h.bases j ∙ sym (mark_other ws t (Get k r 0) j 0 (get_of_other j 0 k 0 r (λ p. other p.0))))))
      (cases_eq k j);
}

-- a write that passed the test
no_get : (k : ℕ) (v : Option (List ℕ)) (j q : ℕ) → is_get_of j q (write_op k v) ≡ false
no_get k None j q = refl
no_get k (Some v) j q = refl

version_wrote : (ws : List Work) (t k : ℕ) (v : Option (List ℕ)) → goes_on ws t ≡ true → version (with_op ws t (write_op k v)) t k ≡ Some v
version_wrote ws t k v going = ap (option_and_then (λ w. version_in w k)) (at_edit_same (add_op (write_op k v)) ws t) ∙ step (at_ticket ws t) going
  where
    by_fate : (b : Bool) (a : Option (Option (List ℕ))) → b ≡ true → a ≡ Some v → (if b then a else None) ≡ Some v
    by_fate true a e is = is
    by_fate false a e is = absurd (false≢true e)

    step : (o : Option Work) → unwrap_or (option_map (λ w. is_going w.fate) o) false ≡ true → option_and_then (λ w. version_in w k) (option_map (add_op (write_op k v)) o) ≡ Some v
    step None e = absurd (false≢true e)
    step (Some w) e = by_fate (is_going w.fate) (last_write (w.ops ++ write_op k v ∷ []) k) e (last_write-push w.ops (write_op k v) k ∙ ap (λ a. option_or a (last_write w.ops k)) (own_written k v))

version_beside : (ws : List Work) (t k : ℕ) (v : Option (List ℕ)) (j u : ℕ) → ((k ≡ j) × (t ≡ u) → ⊥) → version (with_op ws t (write_op k v)) u j ≡ version ws u j
version_beside ws t k v j u h = ⊎_elim
    (λ same. ap (option_and_then (λ w. version_in w j)) (at_edit_other (add_op (write_op k v)) ws t u (λ e. h (same, sym e))))
    (λ other. version-with_op ws t (write_op k v) j (other_written k v j (λ e. other (sym e))) u)
    (cases_eq k j)

covered_write : (ws : List Work) (t k : ℕ) → Sourced ws → goes_on ws t ≡ true → mark ws k (source_of (newest ws t k)) ≤ t → mark ws k t ≤ t
covered_write ws zero k h going l = absurd (false≢true going)
covered_write ws (suc n) k h going l = mark_at_put ws n k h going l

pub index_wrote : (ws : List Work) (links links' : ℕ → ℕ → Option Link) (base base' : ℕ → ℕ) (t k : ℕ) (v : Option (List ℕ)) (x : Link) → IsIndex ws links base → Sourced ws → goes_on ws t ≡ true → mark ws k (source_of (newest ws t k)) ≤ t
    → x.value ≡ v → x.mark ≡ 0 → ((j u : ℕ) → links' j u ≡ (if (k == j) && (t == u) then Some x else links j u)) → ((j : ℕ) → base' j ≡ base j) → IsIndex (with_op ws t (write_op k v)) links' base'
index_wrote ws links links' base base' t k v x h sourced going test value_is unread puts same_bases = record {
  versions = λ j u. ⊎_elim
      (λ here. ap (option_map (λ l. l.value)) (puts j u ∙ here.2) ∙ (ap Some value_is ∙ sym (ap₂ (λ (a b : ℕ). version (with_op ws t (write_op k v)) a b) (sym here.1) (sym here.0) ∙ version_wrote ws t k v going)))
      (λ other. ap (option_map (λ l. l.value)) (puts j u ∙ other.1) ∙ (h.versions j u ∙ sym (version_beside ws t k v j u other.0)))
      (place k j t u (Some x) (links j u));
  marks = λ j u l is. ⊎_elim
      (λ here.
      let l_is : x ≡ l = same_Some x l (sym (puts j u ∙ here.2) ∙ is) in
      let few = covered_write ws t k sourced going test in
      let now : mark (with_op ws t (write_op k v)) j u ≡ mark ws k t = mark_other ws t (write_op k v) j u (no_get k v j u) ∙ ap₂ (λ (a b : ℕ). mark ws a b) (sym here.0) (sym here.1) in
      let at : t ≡ u = here.1 in
      subst (λ (q : Link). IsMark q.mark u (mark (with_op ws t (write_op k v)) j u)) l_is (record { low = omega (arith, unread); high = omega (arith, now, few, at) }))
      (λ other. subst (λ m. IsMark l.mark u m) (sym (mark_other ws t (write_op k v) j u (no_get k v j u))) (h.marks j u l (sym (puts j u ∙ other.1) ∙ is)))
      (place k j t u (Some x) (links j u));
  bases = λ j. same_bases j ∙ (h.bases j ∙ sym (mark_other ws t (write_op k v) j 0 (no_get k v j 0)));
}

-- a work that doesn't go on any more has no versions
pub index_ended : (ws : List Work) (links links' : ℕ → ℕ → Option Link) (base base' : ℕ → ℕ) (f : Work → Work) (t : ℕ) → IsIndex ws links base → ((w : Work) → (f w).ops ≡ w.ops) → ((w : Work) → is_going (f w).fate ≡ false)
    → ((j u : ℕ) → links' j u ≡ (if t == u then None else links j u)) → ((j : ℕ) → base' j ≡ base j) → IsIndex (edit f ws t) links' base'
index_ended ws links links' base base' f t h keeps ends takes same_bases = record {
  versions = λ j u. ⊎_elim
      (λ same. ap (option_map (λ l. l.value)) (takes j u ∙ ap (λ b. if b then None else links j u) (eq-eqb t u same)) ∙ sym (subst (λ q. version (edit f ws t) q j ≡ None) same (ap (option_and_then (λ w. version_in w j)) (at_edit_same f ws t) ∙ ended j (at_ticket ws t))))
      (λ other. ap (option_map (λ l. l.value)) (takes j u ∙ ap (λ b. if b then None else links j u) (ne_eqb t u other)) ∙ (h.versions j u ∙ sym (ap (option_and_then (λ w. version_in w j)) (at_edit_other f ws t u (λ e. other (sym e))))))
      (cases_eq t u);
  marks = λ j u l is. ⊎_elim
      (λ same. absurd (none-some l (sym (takes j u ∙ ap (λ b. if b then None else links j u) (eq-eqb t u same)) ∙ is)))
      (λ other. subst (λ m. IsMark l.mark u m) (sym (same_marks j u)) (h.marks j u l (sym (takes j u ∙ ap (λ b. if b then None else links j u) (ne_eqb t u other)) ∙ is)))
      (cases_eq t u);
  bases = λ j. same_bases j ∙ (h.bases j ∙ sym (same_marks j 0));
}
  where
    by_fate : (b : Bool) (a : Option (Option (List ℕ))) → b ≡ false → (if b then a else None) ≡ None
    by_fate true a e = absurd (false≢true (sym e))
    by_fate false a e = refl

    ended : (j : ℕ) (o : Option Work) → option_and_then (λ w. version_in w j) (option_map f o) ≡ None
    ended j None = refl
    ended j (Some w) = by_fate (is_going (f w).fate) (last_write (f w).ops j) (ends w)

    same_marks : (j u : ℕ) → mark (edit f ws t) j u ≡ mark ws j u
    same_marks j u = mark_same_ops ws (edit f ws t) (fallen_edit f ws t keeps (λ w e. absurd (false≢true (sym (ends w) ∙ e)))).same_ops (length-edit f ws t) j u
