-- Histories: the entries of one caller, and what a longer history leads to.
use Rattle.std.proofs.Common.{◌≡◌, ◌≢◌, ℕ, ◌==◌, Option, Some, None, Bool, true, false, List, [], ◌∷◌, ◌++◌, if◌then◌else◌, refl, ap, sym, subst, eq-eqb, ne_eqb}
use Rattle.ob_turn.specs.declared.turn.Entry.{Entry}
use Rattle.ob_turn.specs.History.{entry, entries_of, Calls, LeadsByTurns, LeadsFromOpening}

if-cons : {A : Type 0} (b : Bool) (l : A) (xs ys zs : List A) → xs ≡ ys ++ zs → (if b then l ∷ xs else xs) ≡ (if b then l ∷ ys else ys) ++ zs
if-cons true l xs ys zs e = ap (λ m. l ∷ m) e
if-cons false l xs ys zs e = e

if-same : {A : Type 0} (b : Bool) (l : A) (xs ys : List A) → xs ≡ ys → (if b then l ∷ xs else xs) ≡ (if b then l ∷ ys else ys)
if-same true l xs ys e = ap (λ m. l ∷ m) e
if-same false l xs ys e = e

-- A new entry is its caller's last.
pub entries-same : {E : Type 0} (by : ℕ) (ls : List (Entry E)) (es : List E) → entries_of by (ls ++ entry by es ∷ []) ≡ entries_of by ls ++ entry by es ∷ []
entries-same {E = E} by [] es = subst (λ (b : Bool). (if b then entry by es ∷ [] else []) ≡ entry by es ∷ []) (sym (eq-eqb by by refl)) refl
entries-same {E = E} by (l ∷ ls) es = if-cons (by == l.by) l (entries_of by (ls ++ entry by es ∷ [])) (entries_of by ls) (entry by es ∷ []) (entries-same by ls es)

-- It is no other caller's.
pub entries-other : {E : Type 0} (by other : ℕ) (ls : List (Entry E)) (es : List E) → by ≢ other → entries_of by (ls ++ entry other es ∷ []) ≡ entries_of by ls
entries-other {E = E} by other [] es ne = subst (λ (b : Bool). (if b then entry other es ∷ [] else []) ≡ []) (sym (ne_eqb by other ne)) refl
entries-other {E = E} by other (l ∷ ls) es ne = if-same (by == l.by) l (entries_of by (ls ++ entry other es ∷ [])) (entries_of by ls) (entries-other by other ls es ne)

module _ {T E : Type 0} (steps : ℕ → T → E → T → Type 0) where
  pub calls-snoc : (by : ℕ) (x : T) (es : List E) (y z : T) (e : E) → Calls steps by x es y → steps by y e z → Calls steps by x (es ++ e ∷ []) z
  calls-snoc by x [] y z e h st = (z, subst (λ u. steps by u e z) (sym h) st, refl)
  calls-snoc by x (c ∷ es) y z e h st = (h.0, h.1, calls-snoc by h.0 es y z e h.2 st)

  -- A turn more, whose calls lead on.
  pub leads-snoc : (x : T) (ls : List (Entry E)) (y z : T) (by : ℕ) (es : List E) → LeadsByTurns steps x ls y → Calls steps by y es z → LeadsByTurns steps x (ls ++ entry by es ∷ []) z
  leads-snoc x [] y z by es h st = (z, subst (λ u. Calls steps by u es z) (sym h) st, refl)
  leads-snoc x (l ∷ ls) y z by es h st = (h.0, h.1, leads-snoc h.0 ls y z by es h.2 st)

  pub stands-snoc : (o : Option T) (ls : List (Entry E)) (y z : T) (by : ℕ) (es : List E) → LeadsFromOpening steps o ls y → Calls steps by y es z → LeadsFromOpening steps o (ls ++ entry by es ∷ []) z
  stands-snoc None ls y z by es h st = absurd h
  stands-snoc (Some x) ls y z by es h st = leads-snoc x ls y z by es h st
