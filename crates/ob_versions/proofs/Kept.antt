-- What each call keeps of a ledger.
use Rattle.std.proofs.Common.{◌≡◌, ℕ, zero, suc, ◌+◌, ◌-◌, ◌<◌, ◌≤◌, Bool, true, false, not, ◌==◌, ◌&&◌, nat_lt, if◌then◌else◌, List, [], ◌∷◌, ◌++◌, length, Option, None, Some, option_map}
use Rattle.std.proofs.Common.{option_and_then, unwrap_or, is_some, slice_get, refl, sym, ap, ap₂, ◌∙◌, subst, inl, inr, ⊎_elim, arith, eq-eqb, ne_eqb, length-append}
use Rattle.std.proofs.lemmas.Bool.{cases_eq, cases_lt, lt-ltb, le-ltb}
use Rattle.std.proofs.lemmas.Option.{none-some, same_Some}
use Rattle.std.specs.Map.{lookup}
use Rattle.std.specs.HashMap as hash
use Rattle.ob_order.specs.Works.{Op, Get, Work, is_going, goes_on, at_ticket, edit, edit_index, with_op, wait_for, with_waiting, waiting_at, version, version_in, newest, last_write}
use Rattle.ob_order.specs.Order.{fresh, write_op, count_below, is_other_written}
use Rattle.ob_order.proofs.Counts.{count_same}
use Rattle.ob_order.proofs.Edits.{length-edit, at_edit_same}
use Rattle.ob_order.proofs.Newest.{by_option}
use Rattle.ob_key_versions.specs.declared.chain.Link.{Link}
use Rattle.ob_key_versions.specs.declared.chain.Chain.{Chain}
use Rattle.ob_key_versions.specs.Chains.{IsNewest, link_in, has_reader}
use Rattle.ob_key_versions.specs.Tables.{chain_at, link_at, base_mark, has_links, is_reader, SameLinks, SameBases, SameKeys, SameReaders, IsMarkRaised}
use Rattle.ob_key_versions.specs.Agendas.{AgendaModel}
use Rattle.ob_versions.specs.Index.{IsIndex}
use Rattle.ob_versions.specs.Ledgers.{LedgerModel, IsLedger, IsReadyAgenda, NotesReader, covered_mark}
use Rattle.ob_versions.proofs.Marks.{mark_begun, mark_same_ops, ops_edit, version_edit, version_begun}
use Rattle.ob_versions.proofs.Indexed.{version_from, newest_is, IsCovered, covered_is, index_moved, index_got, index_got_base, index_wrote, index_ended}
use Rattle.ob_key_versions.proofs.Counted.{count_moved, count_stays}
use Rattle.ob_versions.proofs.Counted.{others_counted}
use Rattle.ob_versions.proofs.Sources.{sourced_none, sourced_begun, sourced_same_ops, sourced_got, sourced_wrote}
use Rattle.ob_versions.proofs.Readers.{readers_none, readers_begun, readers_moved, readers_noted, readers_edit, readers_got, readers_wrote}

abbrev bit : Bool → ℕ
bit b = if b then 1 else 0

-- ---- reading

abbrev pub model : ℕ → List Work → LedgerModel
model keys ws = record { keys = keys; works = ws }

pub newest_in : {S : Type 0} (keys w : ℕ) (ws : List Work) (m : hash.HashMap ℕ Chain S) (d : LedgerModel) → IsLedger keys w ws m → model keys ws ≡ d
    → (k t : ℕ) (r : Option (ℕ × Link)) → IsNewest (λ u. link_at m k u) t r → option_map version_from r ≡ newest d.works t k
newest_in keys w ws m d h is k t r n = sym (newest_is ws (λ k t. link_at m k t) (λ k. base_mark m k) h.index k t r n) ∙ ap (λ (x : LedgerModel). newest x.works t k) is

pub covered_in : {S : Type 0} (keys w : ℕ) (ws : List Work) (m : hash.HashMap ℕ Chain S) (d : LedgerModel) → IsLedger keys w ws m → model keys ws ≡ d
    → (k t stored : ℕ) (r : Option (ℕ × Link)) → IsNewest (λ u. link_at m k u) t r → stored ≡ unwrap_or (option_map (λ p. p.1.mark) r) (base_mark m k) → IsCovered stored (covered_mark d.works t k) t
covered_in keys w ws m d h is k t stored r n e =
    subst (λ (x : LedgerModel). IsCovered stored (covered_mark x.works t k) t) is
    (subst (λ q. IsCovered q (covered_mark ws t k) t) (sym e) (covered_is ws (λ k t. link_at m k t) (λ k. base_mark m k) h.index k t r n))

pub others_in : {S : Type 0} (keys w : ℕ) (ws : List Work) (m : hash.HashMap ℕ Chain S) (d : LedgerModel) → IsLedger keys w ws m → model keys ws ≡ d
    → (k c : ℕ) → c ≡ bit (has_links m k && nat_lt k keys) → w - c ≡ count_below (is_other_written d.works k) d.keys
others_in keys w ws m d h is k c e =
    subst (λ (x : LedgerModel). w - c ≡ count_below (is_other_written x.works k) x.keys) is
    (ap₂ (λ (a b : ℕ). a - b) h.counted (e ∙ turned (has_links m k) (nat_lt k keys)) ∙ sym (others_counted ws m (λ k. base_mark m k) h.index k keys))
  where
    turned : (a b : Bool) → bit (a && b) ≡ bit (b && a)
    turned true true = refl
    turned true false = refl
    turned false true = refl
    turned false false = refl

-- ---- counts

zeros : (p : ℕ → Bool) (n : ℕ) → ((j : ℕ) → p j ≡ false) → count_below p n ≡ 0
zeros p zero h = refl
zeros p (suc n) h = let none = zeros p n h in let here : bit (p n) ≡ 0 = ap bit (h n) in omega (arith, none, here)

pub count_most : (p : ℕ → Bool) (n : ℕ) → count_below p n ≤ n
count_most p zero = omega arith
count_most p (suc n) = let low = count_most p n in let b = few (p n) in omega (arith, low, b)
  where
    few : (x : Bool) → bit x ≤ 1
    few true = omega arith
    few false = omega arith

-- a key that is counted is one of them
pub count_has : (p : ℕ → Bool) (k n c : ℕ) → c ≡ bit (p k && nat_lt k n) → c ≤ count_below p n
count_has p k zero c e = let z : bit (p k && nat_lt k 0) ≡ 0 = ap (λ b. bit (p k && b)) (le-ltb k 0 (omega arith)) ∙ off (p k) in omega (arith, e, z)
  where
    off : (x : Bool) → bit (x && false) ≡ 0
    off true = refl
    off false = refl
count_has p k (suc n) c e = ⊎_elim
    (λ same. let here : c ≡ bit (p n) = e ∙ (ap (λ b. bit (p k && b)) (lt-ltb k (suc n) (omega arith)) ∙ (on (p k) ∙ ap (λ j. bit (p j)) same)) in omega (arith, here))
    (λ other. ⊎_elim
    (λ l. let low = count_has p k n c (e ∙ (ap (λ b. bit (p k && b)) (lt-ltb k (suc n) (omega arith)) ∙ sym (ap (λ b. bit (p k && b)) (lt-ltb k n l)))) in omega (arith, low))
    (λ l. let z : c ≡ 0 = e ∙ (ap (λ b. bit (p k && b)) (le-ltb k (suc n) (omega arith)) ∙ off (p k)) in omega (arith, z))
    (cases_lt k n))
    (cases_eq k n)
  where
    on : (x : Bool) → bit (x && true) ≡ bit x
    on true = refl
    on false = refl

    off : (x : Bool) → bit (x && false) ≡ 0
    off true = refl
    off false = refl

pub count_fits : {S : Type 0} (keys w : ℕ) (ws : List Work) (m : hash.HashMap ℕ Chain S) (k c : ℕ) → IsLedger keys w ws m → c ≡ bit (has_links m k && nat_lt k keys) → c ≤ w
count_fits keys w ws m k c h e = let a = count_has (has_links m) k keys c e in let b = h.counted in omega (arith, a, b)

-- ---- upkeep

pub ledger_none : {S : Type 0} (keys : ℕ) (m : hash.HashMap ℕ Chain S) → m.entries ≡ [] → IsLedger keys 0 [] m
ledger_none keys m e = record {
  index = record {
    versions = λ k t. ap (option_map (λ l. l.value)) (none k t) ∙ sym (empty t k);
    marks = λ k t l is. absurd (none-some l (sym (none k t) ∙ is));
    bases = λ k. ap (λ o. unwrap_or (option_map (λ c. c.base_mark) o) 0) (gone k);
  };
  sourced = sourced_none;
  counted = sym (zeros (has_links m) keys (λ j. ap (λ o. unwrap_or (option_map (λ c. nat_lt 0 (length c.links.entries)) o) false) (gone j)));
  readers = readers_none m (λ k t. ap (λ o. unwrap_or (option_map (λ c. has_reader c t) o) false) (gone k));
}
  where
    gone : (k : ℕ) → chain_at m k ≡ None
    gone k = ap (λ es. lookup (λ j. k == j) es) e

    none : (k t : ℕ) → link_at m k t ≡ None
    none k t = ap (option_and_then (λ c. link_in c t)) (gone k)

    empty : (t k : ℕ) → version [] t k ≡ None
    empty zero k = refl
    empty (suc t) k = refl

pub ledger_begun : {S : Type 0} (keys w : ℕ) (ws : List Work) (m : hash.HashMap ℕ Chain S) → IsLedger keys w ws m → IsLedger keys w (ws ++ fresh ∷ []) m
ledger_begun keys w ws m h = record {
  index = index_moved ws (ws ++ fresh ∷ []) _ _ _ _ h.index (λ k t. version_begun ws t k) (mark_begun ws) (λ k t. refl) (λ k. refl);
  sourced = sourced_begun ws h.sourced;
  counted = h.counted;
  readers = readers_begun ws m h.readers;
}

-- room was made
pub ledger_room : {S : Type 0} (keys w : ℕ) (ws : List Work) (m n : hash.HashMap ℕ Chain S) → IsLedger keys w ws m → SameLinks m n → SameBases m n → SameKeys m n → SameReaders m n → IsLedger keys w ws n
ledger_room keys w ws m n h links bases same readers = record {
  index = index_moved ws ws _ _ _ _ h.index (λ k t. refl) (λ k s. refl) links bases;
  sourced = h.sourced;
  counted = h.counted ∙ sym (count_same (has_links m) (has_links n) keys same);
  readers = readers_moved ws m n h.readers readers;
}

-- a reader was noted
pub ledger_noted : {S : Type 0} (keys w : ℕ) (ws : List Work) (m n : hash.HashMap ℕ Chain S) (t : ℕ) → IsLedger keys w ws m → 0 < t → t ≤ length ws → SameLinks m n → SameBases m n → SameKeys m n → NotesReader m n t → IsLedger keys w ws n
ledger_noted keys w ws m n t h above within links bases same notes = record {
  index = index_moved ws ws _ _ _ _ h.index (λ k t. refl) (λ k s. refl) links bases;
  sourced = h.sourced;
  counted = h.counted ∙ sym (count_same (has_links m) (has_links n) keys same);
  readers = readers_noted ws m n t h.readers notes above within;
}

-- a get waits
pub ledger_waits : {S : Type 0} (keys w : ℕ) (ws : List Work) (m : hash.HashMap ℕ Chain S) (t k : ℕ) → IsLedger keys w ws m → is_reader m k t ≡ true → IsLedger keys w (edit (wait_for k) ws t) m
ledger_waits keys w ws m t k h there = record {
  index = index_moved ws (edit (wait_for k) ws t) _ _ _ _ h.index (λ j u. version_edit (wait_for k) ws t (λ x i. refl) u j) (mark_same_ops ws (edit (wait_for k) ws t) (ops_edit (wait_for k) ws t (λ x. refl)) (length-edit (wait_for k) ws t)) (λ j u. refl) (λ j. refl);
  sourced = sourced_same_ops ws (edit (wait_for k) ws t) h.sourced (ops_edit (wait_for k) ws t (λ x. refl));
  counted = h.counted;
  readers = readers_edit (wait_for k) ws t m h.readers (ops_edit (wait_for k) ws t (λ x. refl)) (λ x j e. inr (subst (λ q. is_reader m q t ≡ true) (same_Some k j e) there));
}

-- a get was answered
pub ledger_got : {S : Type 0} (keys w : ℕ) (ws : List Work) (m n : hash.HashMap ℕ Chain S) (t k : ℕ) (r : Option (List ℕ)) (s : ℕ) → IsLedger keys w ws m → 0 < t → t ≤ length ws
    → (0 < s → is_some (version ws s k) ≡ true) → (0 < s → is_reader m k t ≡ true) → IsMarkRaised m n k s t → SameKeys m n → SameReaders m n → IsLedger keys w (with_op ws t (Get k r s)) n
ledger_got keys w ws m n t k r s h above within from noted raises same readers = record {
  index = ⊎_elim
      (λ zero. subst (λ q. IsIndex (with_op ws t (Get k r q)) (λ j u. link_at n j u) (λ j. base_mark n j)) (sym zero) (index_got_base ws _ _ _ _ t k r h.index above within (raises.from_base zero).0 (raises.from_base zero).1))
      (λ other. let l : 0 < s = omega arith in index_got ws _ _ _ _ t k r s h.index above within l (raises.from_write l).0 (raises.from_write l).1)
      (cases_eq s 0);
  sourced = sourced_got ws t k r s h.sourced from;
  counted = h.counted ∙ sym (count_same (has_links m) (has_links n) keys same);
  readers = readers_got ws t k r s n (readers_moved ws m n h.readers readers) (λ l. readers k t ∙ noted l);
}

-- a write that covers nothing that a later ticket has read
pub ledger_wrote : {S : Type 0} (keys w : ℕ) (ws : List Work) (m n : hash.HashMap ℕ Chain S) (t k : ℕ) (v : Option (List ℕ)) (x : Link) (first : Bool) (c : ℕ) → IsLedger keys w ws m → goes_on ws t ≡ true → covered_mark ws t k ≤ t
    → x.value ≡ v → x.mark ≡ 0 → ((j u : ℕ) → link_at n j u ≡ (if (k == j) && (t == u) then Some x else link_at m j u)) → SameBases m n
    → ((j : ℕ) → has_links n j ≡ (if k == j then true else has_links m j)) → first ≡ not (has_links m k) → c ≡ bit (first && nat_lt k keys) → SameReaders m n → IsLedger keys (w + c) (with_op ws t (write_op k v)) n
ledger_wrote keys w ws m n t k v x first c h going test value_is unread puts bases has is count readers = record {
  index = index_wrote ws _ _ _ _ t k v x h.index h.sourced going test value_is unread puts bases;
  sourced = sourced_wrote ws t k v h.sourced;
  counted = counted;
  readers = readers_wrote ws t k v n (readers_moved ws m n h.readers readers);
}
  where
    p : ℕ → Bool
    p = has_links m

    q : ℕ → Bool
    q = has_links n

    apart : (j : ℕ) → (k ≡ j → ⊥) → q j ≡ p j
    apart j other = has j ∙ ap (λ b. if b then true else p j) (ne_eqb k j other)

    now : q k ≡ true
    now = has k ∙ ap (λ b. if b then true else p k) (eq-eqb k k refl)

    on : (y : Bool) → bit (y && true) ≡ bit y
    on true = refl
    on false = refl

    off : (y : Bool) → bit (y && false) ≡ 0
    off true = refl
    off false = refl

    flip : (y : Bool) → bit (not y) + bit y ≡ 1
    flip true = refl
    flip false = refl

    counted : w + c ≡ count_below q keys
    counted = ⊎_elim
        (λ l.
        let moved = count_moved p q k keys apart l in
        let bits : bit (q k) ≡ 1 = ap bit now in
        let one : c ≡ bit (not (p k)) = count ∙ (ap₂ (λ (a b : Bool). bit (a && b)) is (lt-ltb k keys l) ∙ on (not (p k))) in
        let both = flip (p k) in
        let before = h.counted in
        omega (arith, moved, bits, one, both, before))
        (λ l.
        let stays = count_stays p q k keys apart l in
        let none : c ≡ 0 = count ∙ (ap (λ b. bit (first && b)) (le-ltb k keys l) ∙ off first) in
        let before = h.counted in
        omega (arith, stays, none, before))
        (cases_lt k keys)

-- ticket t is drawn
at_some : (ws : List Work) (t : ℕ) → 0 < t → t ≤ length ws → (w : Work) × (at_ticket ws t ≡ Some w)
at_some ws zero a b = absurd (omega arith)
at_some [] (suc n) a b = absurd (omega arith)
at_some (w ∷ ws) (suc zero) a b = (w, refl)
at_some (w ∷ ws) (suc (suc n)) a b = at_some ws (suc n) (omega arith) (omega arith)

-- a transaction was aborted, and its versions went
pub ledger_ended : {S : Type 0} (keys w : ℕ) (ws : List Work) (m n : hash.HashMap ℕ Chain S) (f : Work → Work) (t lost : ℕ) → IsLedger keys w ws m → 0 < t → t ≤ length ws → ((x : Work) → (f x).ops ≡ x.ops) → ((x : Work) → is_going (f x).fate ≡ false) → ((x : Work) → (f x).waiting ≡ x.waiting)
    → ((x : Work) → at_ticket ws t ≡ Some x → (k u : ℕ) → link_at n k u ≡ (if (t == u) && is_some (last_write x.ops k) then None else link_at m k u))
    → count_below (has_links m) keys ≡ count_below (has_links n) keys + lost → SameBases m n → SameReaders m n → IsLedger keys (w - lost) (edit f ws t) n
ledger_ended keys w ws m n f t lost h above within keeps ends waits takes count bases readers = record {
  index = let x = at_some ws t above within in index_ended ws _ _ _ _ f t h.index keeps ends (λ j u. takes x.0 x.1 j u ∙ gone x.0 x.1 j u) bases;
  sourced = sourced_same_ops ws (edit f ws t) h.sourced (ops_edit f ws t keeps);
  counted = let before = h.counted in omega (arith, before, count);
  readers = readers_edit f ws t n (readers_moved ws m n h.readers readers) (ops_edit f ws t keeps) (λ x j e. inl (sym (waits x) ∙ e));
}
  where
    none_there : (x : Work) → at_ticket ws t ≡ Some x → (j : ℕ) → last_write x.ops j ≡ None → link_at m j t ≡ None
    none_there x there j none = by_option (link_at m j t) (λ e. e) (λ l is. absurd (none-some l.value (sym (by_fate (is_going x.fate) (last_write x.ops j) none) ∙ (sym (ap (option_and_then (λ y. version_in y j)) there) ∙ (sym (h.index.versions j t) ∙ ap (option_map (λ y. y.value)) is)))))
      where
        by_fate : (b : Bool) (a : Option (Option (List ℕ))) → a ≡ None → (if b then a else None) ≡ None
        by_fate true a e = e
        by_fate false a e = refl

    gone : (x : Work) → at_ticket ws t ≡ Some x → (j u : ℕ) → (if (t == u) && is_some (last_write x.ops j) then None else link_at m j u) ≡ (if t == u then None else link_at m j u)
    gone x there j u = ⊎_elim
        (λ same. by_option (last_write x.ops j)
        (λ none. ap₂ (λ (a b : Bool). if a && b then None else link_at m j u) (eq-eqb t u same) (ap is_some none) ∙ (subst (λ q. link_at m j q ≡ None) same (none_there x there j none) ∙ sym (ap (λ a. if a then None else link_at m j u) (eq-eqb t u same))))
        (λ y some. ap₂ (λ (a b : Bool). if a && b then None else link_at m j u) (eq-eqb t u same) (ap is_some some) ∙ sym (ap (λ a. if a then None else link_at m j u) (eq-eqb t u same))))
        (λ other. ap (λ a. if a && is_some (last_write x.ops j) then None else link_at m j u) (ne_eqb t u other) ∙ sym (ap (λ a. if a then None else link_at m j u) (ne_eqb t u other)))
        (cases_eq t u)

-- ---- the agenda is ready for all tickets

pub ready_none : (vs : List Work) (agenda : AgendaModel) → vs ≡ [] → agenda.tickets ≡ [] → IsReadyAgenda vs agenda
ready_none vs agenda e empty = (omega (arith, ap length e), empty)

pub ready_same : (ws vs : List Work) (agenda : AgendaModel) → vs ≡ ws → IsReadyAgenda ws agenda → IsReadyAgenda vs agenda
ready_same ws vs agenda e h = (omega (arith, ap length e, h.0), h.1)

pub ready_edit : (f : Work → Work) (ws vs : List Work) (t : ℕ) (agenda : AgendaModel) → vs ≡ edit f ws t → IsReadyAgenda ws agenda → IsReadyAgenda vs agenda
ready_edit f ws vs t agenda e h = (omega (arith, ap length e, length-edit f ws t, h.0), h.1)

-- there is room for one more
pub ready_more : (ws vs : List Work) (w : Work) (old new : AgendaModel) → vs ≡ ws ++ w ∷ [] → IsReadyAgenda ws old → length ws + 1 ≤ new.room → new.tickets ≡ old.tickets → IsReadyAgenda vs new
ready_more ws vs w old new e h l same = (omega (arith, ap length e, length-append ws (w ∷ []), l), same ∙ h.1)

pub ready_still : (ws vs : List Work) (old new : AgendaModel) → vs ≡ ws → IsReadyAgenda ws old → old.room ≤ new.room → new.tickets ≡ old.tickets → IsReadyAgenda vs new
ready_still ws vs old new e h l same = (omega (arith, ap length e, h.0, l), same ∙ h.1)

-- ---- works that waited for room

edit_edit : {A : Type 0} (f g : A → A) (xs : List A) (t : ℕ) → edit f (edit g xs t) t ≡ edit (λ x. f (g x)) xs t
edit_edit f g xs zero = refl
edit_edit f g xs (suc n) = go f g xs n
  where
    go : {A : Type 0} (f g : A → A) (xs : List A) (n : ℕ) → edit_index f (edit_index g xs n) n ≡ edit_index (λ x. f (g x)) xs n
    go f g [] n = refl
    go f g (x ∷ xs) zero = refl
    go f g (x ∷ xs) (suc n) = ap (λ ys. x ∷ ys) (go f g xs n)

pub op_after_wait : (ws : List Work) (t k : ℕ) (o : Op ℕ) → with_op (edit (wait_for k) ws t) t o ≡ with_op ws t o
op_after_wait ws t k o = edit_edit _ (wait_for k) ws t

pub restored : (ws : List Work) (t k : ℕ) (was : Option ℕ) → was ≡ waiting_at ws t → edit (with_waiting was) (edit (wait_for k) ws t) t ≡ ws
restored ws zero k was e = refl
restored ws (suc n) k was e = edit_edit (with_waiting was) (wait_for k) ws (suc n) ∙ go ws n e
  where
    go : (ws : List Work) (n : ℕ) → was ≡ option_and_then (λ w. w.waiting) (slice_get ws n) → edit_index (λ w. with_waiting was (wait_for k w)) ws n ≡ ws
    go [] n e = refl
    go (w ∷ ws) zero e = ap (λ (x : Option ℕ). (let q : Work = record w { waiting = x } in q) ∷ ws) e
    go (w ∷ ws) (suc n) e = ap (λ ys. w ∷ ys) (go ws n e)

pub waits_then : (ws : List Work) (t k : ℕ) → 0 < t → t ≤ length ws → is_some (waiting_at (edit (wait_for k) ws t) t) ≡ true
waits_then ws t k above within = let x = at_some ws t above within in ap (λ o. is_some (option_and_then (λ w. w.waiting) o)) (at_edit_same (wait_for k) ws t ∙ ap (option_map (wait_for k)) x.1)
