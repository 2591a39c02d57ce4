-- What the entries of a map are, and what it gives to lay them over another one.
use Rattle.std.proofs.Common.{◌≡◌, ◌∙◌, ℕ, Bool, true, false, ◌&&◌, T, List, [], ◌∷◌, map, Option, Some, None, refl, arith, length, sym, ap, cond}
use Rattle.std.specs.Ordering.{nat_cmp, is_lt, is_eq, eq_by_cmp}
use Rattle.std.specs.declared.cmp.Ordering.{Ordering}
use Rattle.std.specs.declared.cmp.Ordering.TheVariants.{Less, Equal, Greater}
use Rattle.std.specs.Cmp.{nat_cmp_total}
use Rattle.std.specs.List.{AllByRecursion}
use Rattle.std.proofs.lemmas.Simd.{map-map}
use Rattle.ob_base.specs.declared.value.Write.{Write}
use Rattle.ob_serial.specs.VaultViews.{writes_of}
use Rattle.std.specs.List.Sorted.{IsStrictlySortedBy}
use Rattle.std.specs.Map.{keys_of}
use Rattle.std.specs.FinMap.{same_map, nat_cmp-IsAntisymmetric, get-empty, get, find, put, insert, empty, entries, from_entries, entries-insert, len-entries, len-empty, entries_sorted, get-insert, get-entries}
use Rattle.std.specs.FinMap.Entries.{is_sorted, below_all}
use Rattle.ob_base.specs.declared.op.Op.{Op}
use Rattle.ob_base.specs.declared.op.Op.TheVariants.{Get, Put, Del}
use Rattle.ob_serial.specs.Serial.{Map, after_ops}
use Rattle.ob_serial.specs.Vaults.{with_writes, entry_writes}

abbrev Entries : Type 0
Entries = List (ℕ × List ℕ)

-- to put what is below all the rest is to stand in front of it
put_first : (k : ℕ) (v : List ℕ) (es : Entries) → AllByRecursion (λ y. nat_cmp k y ≡ Less) (keys_of es) → put nat_cmp k v es ≡ (k, v) ∷ es
put_first k v [] below = refl
put_first k v (e ∷ es) below = rw below.0 refl

no_length : (es : Entries) → length es ≡ 0 → es ≡ []
no_length [] is = refl
no_length (e ∷ es) is = absurd (omega (arith, is))

pub entries_of : (es : Entries) → IsStrictlySortedBy nat_cmp (keys_of es) → entries (from_entries {R = nat_cmp} es) ≡ es
unfolding IsStrictlySortedBy
entries_of [] sorted = no_length (entries empty) (sym (len-entries empty) ∙ len-empty nat_cmp (List ℕ))
entries_of (e ∷ es) sorted = entries-insert nat_cmp_total (from_entries es) e.0 e.1 ∙ ap (put nat_cmp e.0 e.1) (entries_of es sorted.1) ∙ put_first e.0 e.1 es sorted.0

-- an entry as a write
abbrev pub as_write : ℕ × List ℕ → ℕ × Option (List ℕ)
as_write e = (e.0, Some e.1)

-- the keys of writes that put entries are the entries' keys
pub keys_written : (ws : List Write) (es : Entries) → writes_of ws ≡ map as_write es → map (λ w. w.key) ws ≡ keys_of es
keys_written ws es is = sym (map-map (λ (p : ℕ × Option (List ℕ)). p.0) (λ (w : Write). (w.key, w.value)) ws) ∙ ap (map (λ p. p.0)) is ∙ map-map (λ (p : ℕ × Option (List ℕ)). p.0) as_write es

-- the first answer, where there is one
abbrev pub first_of : Option (List ℕ) → Option (List ℕ) → Option (List ℕ)
first_of (Some v) other = Some v
first_of None other = other

abbrev pub HasNoDelete : List (Op ℕ) → Type 0
HasNoDelete [] = Unit {0}
HasNoDelete (Get key reply source ∷ ops) = HasNoDelete ops
HasNoDelete (Put key value ∷ ops) = HasNoDelete ops
HasNoDelete (Del key ∷ ops) = ⊥

one_over : (b : Bool) (v : List ℕ) (own m : Option (List ℕ)) → cond b (Some v) (first_of own m) ≡ first_of (cond b (Some v) own) m
one_over true v own m = refl
one_over false v own m = refl

-- where a map is another one laid over a third, it stays so under the same operations
pub over_after : (ops : List (Op ℕ)) → HasNoDelete ops → (own m below : Map nat_cmp) → ((q : ℕ) → get m q ≡ first_of (get own q) (get below q))
    → (q : ℕ) → get (after_ops nat_cmp m ops) q ≡ first_of (get (after_ops nat_cmp own ops) q) (get below q)
over_after [] none own m below is q = is q
over_after (Get key reply source ∷ ops) none own m below is q = over_after ops none own m below is q
over_after (Put key value ∷ ops) none own m below is q = over_after ops none (insert own key value) (insert m key value) below
    (λ p. get-insert nat_cmp_total m key value p ∙ ap (cond (eq_by_cmp nat_cmp p key) (Some value)) (is p) ∙ one_over (eq_by_cmp nat_cmp p key) value (get own p) (get below p)
    ∙ ap (λ x. first_of x (get below p)) (sym (get-insert nat_cmp_total own key value p))) q
over_after (Del key ∷ ops) none own m below is q = absurd none

-- nothing is found of what is below all the rest
none_below : (k : ℕ) (es : Entries) → T (below_all nat_cmp k es) → (q : ℕ) → eq_by_cmp nat_cmp q k ≡ true → find nat_cmp q es ≡ None
none_below k es below q same = not_found es below
  where
    is_k : q ≡ k
    is_k = nat_cmp-IsAntisymmetric q k (is_equal (nat_cmp q k) same)
      where
        is_equal : (r : Ordering) → is_eq r ≡ true → r ≡ Equal
        is_equal Less e = cc e
        is_equal Equal e = refl
        is_equal Greater e = cc e

    not_at : (x : ℕ) → T (is_lt (nat_cmp k x)) → eq_by_cmp nat_cmp q x ≡ false
    not_at x less = ap (λ p. eq_by_cmp nat_cmp p x) is_k ∙ by_less (nat_cmp k x) less
      where
        by_less : (r : Ordering) → T (is_lt r) → is_eq r ≡ false
        by_less Less t = refl
        by_less Equal t = absurd t
        by_less Greater t = absurd t

    both : (a b : Bool) → T (a && b) → T a × T b
    both true b t = (tt, t)
    both false b t = absurd t

    not_found : (fs : Entries) → T (below_all nat_cmp k fs) → find nat_cmp q fs ≡ None
    not_found [] t = refl
    not_found (f ∷ fs) t =
        let split = both _ _ t in
        ap (λ b. cond b (Some f.1) (find nat_cmp q fs)) (not_at f.0 split.0) ∙ not_found fs split.1

laid : (es : Entries) → T (is_sorted nat_cmp es) → (m : Map nat_cmp) (q : ℕ) → get (with_writes m (map as_write es)) q ≡ first_of (find nat_cmp q es) (get m q)
laid [] sorted m q = refl
laid (e ∷ es) sorted m q =
    let split = both _ _ sorted in
    laid es split.1 (insert m e.0 e.1) q ∙ ap (first_of (find nat_cmp q es)) (get-insert nat_cmp_total m e.0 e.1 q) ∙ here (eq_by_cmp nat_cmp q e.0) refl split.0
  where
    both : (a b : Bool) → T (a && b) → T a × T b
    both true b t = (tt, t)
    both false b t = absurd t

    here : (b : Bool) → eq_by_cmp nat_cmp q e.0 ≡ b → T (below_all nat_cmp e.0 es) → first_of (find nat_cmp q es) (cond b (Some e.1) (get m q)) ≡ first_of (cond b (Some e.1) (find nat_cmp q es)) (get m q)
    here true is below = ap (λ x. first_of x (Some e.1)) (none_below e.0 es below q is)
    here false is below = refl

-- What operations without a delete write is what the writes of their own map lay over the map before them.
pub laid_over : (m : Map nat_cmp) (ops : List (Op ℕ)) → HasNoDelete ops → with_writes m (entry_writes (after_ops nat_cmp empty ops)) ≡ after_ops nat_cmp m ops
laid_over m ops none = same_map nat_cmp_total nat_cmp-IsAntisymmetric _ _ (λ q.
    laid (entries (after_ops nat_cmp empty ops)) (entries_sorted (after_ops nat_cmp empty ops)) m q
    ∙ ap (λ x. first_of x (get m q)) (sym (get-entries (after_ops nat_cmp empty ops) q))
    ∙ sym (over_after ops none empty m m (λ p. ap (λ x. first_of x (get m p)) (sym (get-empty nat_cmp p))) q))
