-- What one client was told, beside the works and holders of an epoch.
use Rattle.std.proofs.Common.{◌≡◌, ℕ, zero, suc, ◌+◌, ◌≤◌, List, [], ◌∷◌, ◌++◌, map, length, Some, slice_get, refl, sym, ap, ◌∙◌, subst, inl, inr, ◌⊎◌, arith}
use Rattle.std.proofs.lemmas.Option.{none-some, same_Some}
use Rattle.ob_order.specs.Works.{Work, edit_index}
use Rattle.ob_desk.specs.declared.clients.Holder.{Holder}
use Rattle.ob_session.specs.Clients.{Told, on_last, last_of}
use Rattle.ob_session.proofs.Lasts.{on_last-cons}

-- the transaction is the client's, and the next one that it was told of
pub record Own (n : ℕ) (h : Holder) (Fit : Told → Type 0) (Rest : List Told → Type 0) (told : List Told) : Type 0 where
  pub mine : h.client ≡ n
  pub one : Told
  pub more : List Told
  pub is : told ≡ one ∷ more
  pub fits : Fit one
  pub rest : Rest more

-- from ticket t on, this client's transactions are those that it was told of, each of which fits
abbrev pub Mirrors : (ℕ → Work → Holder → Told → Type 0) → ℕ → ℕ → List Work → List Holder → List Told → Type 0
Mirrors P n t [] [] told = told ≡ []
Mirrors P n t [] (h ∷ hs) told = ⊥
Mirrors P n t (w ∷ ws) [] told = ⊥
Mirrors P n t (w ∷ ws) (h ∷ hs) told = ((h.client ≡ n → ⊥) × Mirrors P n (suc t) ws hs told) ⊎ Own n h (P t w h) (λ more. Mirrors P n (suc t) ws hs more) told

-- the work and the holder of one that the client was told of
pub record Found (P : ℕ → Work → Holder → Told → Type 0) (n s : ℕ) (ws : List Work) (hs : List Holder) (one : Told) : Type 0 where
  pub index : ℕ
  pub work : Work
  pub holder : Holder
  pub work_is : slice_get ws index ≡ Some work
  pub holder_is : slice_get hs index ≡ Some holder
  pub mine : holder.client ≡ n
  pub fits : P (s + index) work holder one

module _ (P : ℕ → Work → Holder → Told → Type 0) (n : ℕ) where
  -- the last one
  pub found_last : (s : ℕ) (ws : List Work) (hs : List Holder) (told : List Told) (one : Told) → Mirrors P n s ws hs told → last_of told ≡ Some one → Found P n s ws hs one
  found_last s [] [] told one h last = absurd (none-some one (sym (ap last_of h) ∙ last))
  found_last s [] (x ∷ hs) told one h last = absurd h
  found_last s (w ∷ ws) [] told one h last = absurd h
  found_last s (w ∷ ws) (x ∷ hs) told one (inl other) last = later (found_last (suc s) ws hs told one other.1 last)
    where
      later : Found P n (suc s) ws hs one → Found P n s (w ∷ ws) (x ∷ hs) one
      later f = record { index = suc f.index; work = f.work; holder = f.holder; work_is = f.work_is; holder_is = f.holder_is; mine = f.mine; fits = subst (λ t. P t f.work f.holder one) (let e : suc s + f.index ≡ s + suc f.index = omega arith in e) f.fits }
  found_last s (w ∷ ws) (x ∷ hs) told one (inr own) last = step own.more refl (λ l. found_last (suc s) ws hs own.more one own.rest l)
    where
      later : Found P n (suc s) ws hs one → Found P n s (w ∷ ws) (x ∷ hs) one
      later f = record { index = suc f.index; work = f.work; holder = f.holder; work_is = f.work_is; holder_is = f.holder_is; mine = f.mine; fits = subst (λ t. P t f.work f.holder one) (let e : suc s + f.index ≡ s + suc f.index = omega arith in e) f.fits }

      step : (more : List Told) → own.more ≡ more → (last_of own.more ≡ Some one → Found P n (suc s) ws hs one) → Found P n s (w ∷ ws) (x ∷ hs) one
      step [] none next =
          let same : own.one ≡ one = same_Some own.one one (sym (ap last_of (own.is ∙ ap (λ (ys : List Told). own.one ∷ ys) none)) ∙ last) in
          record { index = 0; work = w; holder = x; work_is = refl; holder_is = refl; mine = own.mine; fits = subst (λ t. P t w x one) (let e : s ≡ s + 0 = omega arith in e) (subst (P s w x) same own.fits) }
      step (y ∷ ys) some next = later (next (ap last_of some ∙ (sym (ap last_of (own.is ∙ ap (λ (zs : List Told). own.one ∷ zs) some)) ∙ last)))

  -- tickets rise
  above : (s : ℕ) (ws : List Work) (hs : List Holder) (told : List Told) (one : Told) → ((t : ℕ) (w : Work) (h : Holder) (x : Told) → P t w h x → x.txn.ticket ≡ t)
      → Mirrors P n s ws hs told → last_of told ≡ Some one → s ≤ one.txn.ticket
  above s ws hs told one named h last =
      let f = found_last s ws hs told one h last in
      let e : one.txn.ticket ≡ s + f.index = named (s + f.index) f.work f.holder one f.fits in
      omega (arith, e)

  -- one work and its holder change, of another client or so that it still fits
  pub edited : (f : Work → Work) (g : Holder → Holder) (s i : ℕ) (ws : List Work) (hs : List Holder) (told : List Told) → ((h : Holder) → (g h).client ≡ h.client)
      → ((t : ℕ) (w : Work) (h : Holder) (x : Told) → slice_get ws i ≡ Some w → slice_get hs i ≡ Some h → h.client ≡ n → P t w h x → P t (f w) (g h) x)
      → Mirrors P n s ws hs told → Mirrors P n s (edit_index f ws i) (edit_index g hs i) told
  edited f g s i [] [] told keeps fit h = h
  edited f g s i [] (x ∷ hs) told keeps fit h = absurd h
  edited f g s i (w ∷ ws) [] told keeps fit h = absurd h
  edited f g s zero (w ∷ ws) (x ∷ hs) told keeps fit (inl other) = inl ((λ e. other.0 (sym (keeps x) ∙ e)), other.1)
  edited f g s zero (w ∷ ws) (x ∷ hs) told keeps fit (inr own) = inr (record { mine = keeps x ∙ own.mine; one = own.one; more = own.more; is = own.is; fits = fit s w x own.one refl refl own.mine own.fits; rest = own.rest })
  edited f g s (suc i) (w ∷ ws) (x ∷ hs) told keeps fit (inl other) = inl (other.0, edited f g (suc s) i ws hs told keeps fit other.1)
  edited f g s (suc i) (w ∷ ws) (x ∷ hs) told keeps fit (inr own) = inr (record { mine = own.mine; one = own.one; more = own.more; is = own.is; fits = own.fits; rest = edited f g (suc s) i ws hs own.more keeps fit own.rest })

  -- the last one changes, and what was told of it
  pub last_edited : (f : Work → Work) (g : Holder → Holder) (k : Told → Told) (s i t : ℕ) (ws : List Work) (hs : List Holder) (told : List Told) (one : Told)
      → ((u : ℕ) (w : Work) (h : Holder) (x : Told) → P u w h x → x.txn.ticket ≡ u) → ((h : Holder) → (g h).client ≡ h.client)
      → t ≡ s + i → one.txn.ticket ≡ t → last_of told ≡ Some one
      → ((w : Work) (h : Holder) → slice_get ws i ≡ Some w → slice_get hs i ≡ Some h → P t w h one → P t (f w) (g h) (k one))
      → Mirrors P n s ws hs told → Mirrors P n s (edit_index f ws i) (edit_index g hs i) (on_last k told)
  last_edited f g k s i t [] [] told one named keeps at ticket last fit h = absurd (none-some one (sym (ap last_of h) ∙ last))
  last_edited f g k s i t [] (x ∷ hs) told one named keeps at ticket last fit h = absurd h
  last_edited f g k s i t (w ∷ ws) [] told one named keeps at ticket last fit h = absurd h
  last_edited f g k s zero t (w ∷ ws) (x ∷ hs) told one named keeps at ticket last fit (inl other) =
      let low = above (suc s) ws hs told one named other.1 last in absurd (omega (arith, low, ticket, at))
  last_edited f g k s zero t (w ∷ ws) (x ∷ hs) told one named keeps at ticket last fit (inr own) = step own.more refl
    where
      step : (more : List Told) → own.more ≡ more → Mirrors P n s (f w ∷ ws) (g x ∷ hs) (on_last k told)
      step [] none =
          let whole : told ≡ own.one ∷ [] = own.is ∙ ap (λ (ys : List Told). own.one ∷ ys) none in
          let same : own.one ≡ one = same_Some own.one one (sym (ap last_of whole) ∙ last) in
          let here : t ≡ s = omega (arith, at) in
          inr (record {
            mine = keeps x ∙ own.mine;
            one = k one;
            more = [];
            is = ap (on_last k) whole ∙ ap (λ (y : Told). k y ∷ []) same;
            fits = subst (λ u. P u (f w) (g x) (k one)) here (fit w x refl refl (subst (λ u. P u w x one) (sym here) (subst (P s w x) same own.fits)));
            rest = subst (λ (ys : List Told). Mirrors P n (suc s) ws hs ys) none own.rest;
          })
      step (y ∷ ys) some =
          let low = above (suc s) ws hs own.more one named own.rest (ap last_of some ∙ (sym (ap last_of (own.is ∙ ap (λ (zs : List Told). own.one ∷ zs) some)) ∙ last)) in
          absurd (omega (arith, low, ticket, at))
  last_edited f g k s (suc i) t (w ∷ ws) (x ∷ hs) told one named keeps at ticket last fit (inl other) =
      inl (other.0, last_edited f g k (suc s) i t ws hs told one named keeps (omega (arith, at)) ticket last fit other.1)
  last_edited f g k s (suc i) t (w ∷ ws) (x ∷ hs) told one named keeps at ticket last fit (inr own) =
      step own.more refl (λ l. last_edited f g k (suc s) i t ws hs own.more one named keeps (omega (arith, at)) ticket l fit own.rest)
    where
      step : (more : List Told) → own.more ≡ more → (last_of own.more ≡ Some one → Mirrors P n (suc s) (edit_index f ws i) (edit_index g hs i) (on_last k own.more)) → Mirrors P n s (w ∷ edit_index f ws i) (x ∷ edit_index g hs i) (on_last k told)
      step [] none next =
          let same : own.one ≡ one = same_Some own.one one (sym (ap last_of (own.is ∙ ap (λ (ys : List Told). own.one ∷ ys) none)) ∙ last) in
          let first : own.one.txn.ticket ≡ s = named s w x own.one own.fits in
          let equal : own.one.txn.ticket ≡ one.txn.ticket = ap (λ (y : Told). y.txn.ticket) same in
          absurd (omega (arith, first, equal, ticket, at))
      step (y ∷ ys) some next =
          let l : last_of own.more ≡ Some one = ap last_of some ∙ (sym (ap last_of (own.is ∙ ap (λ (zs : List Told). own.one ∷ zs) some)) ∙ last) in
          inr (record {
            mine = own.mine;
            one = own.one;
            more = on_last k own.more;
            is = ap (on_last k) own.is ∙ on_last-cons k own.one own.more one l;
            fits = own.fits;
            rest = next l;
          })

  -- a transaction begins, of the client
  pub pushed_own : (s : ℕ) (ws : List Work) (hs : List Holder) (told : List Told) (w : Work) (h : Holder) (one : Told) → h.client ≡ n → P (s + length ws) w h one
      → Mirrors P n s ws hs told → Mirrors P n s (ws ++ w ∷ []) (hs ++ h ∷ []) (told ++ one ∷ [])
  pushed_own s [] [] told w h one mine fit m = inr (record { mine = mine; one = one; more = []; is = ap (λ (ys : List Told). ys ++ one ∷ []) m; fits = subst (λ t. P t w h one) (let e : s + 0 ≡ s = omega arith in e) fit; rest = refl })
  pushed_own s [] (x ∷ hs) told w h one mine fit m = absurd m
  pushed_own s (v ∷ ws) [] told w h one mine fit m = absurd m
  pushed_own s (v ∷ ws) (x ∷ hs) told w h one mine fit (inl other) = inl (other.0, pushed_own (suc s) ws hs told w h one mine (subst (λ t. P t w h one) (let e : s + suc (length ws) ≡ suc s + length ws = omega arith in e) fit) other.1)
  pushed_own s (v ∷ ws) (x ∷ hs) told w h one mine fit (inr own) = inr (record {
    mine = own.mine;
    one = own.one;
    more = own.more ++ one ∷ [];
    is = ap (λ (ys : List Told). ys ++ one ∷ []) own.is;
    fits = own.fits;
    rest = pushed_own (suc s) ws hs own.more w h one mine (subst (λ t. P t w h one) (let e : s + suc (length ws) ≡ suc s + length ws = omega arith in e) fit) own.rest;
  })

  -- of another
  pub pushed_other : (s : ℕ) (ws : List Work) (hs : List Holder) (told : List Told) (w : Work) (h : Holder) → (h.client ≡ n → ⊥) → Mirrors P n s ws hs told → Mirrors P n s (ws ++ w ∷ []) (hs ++ h ∷ []) told
  pushed_other s [] [] told w h not_mine m = inl (not_mine, m)
  pushed_other s [] (x ∷ hs) told w h not_mine m = absurd m
  pushed_other s (v ∷ ws) [] told w h not_mine m = absurd m
  pushed_other s (v ∷ ws) (x ∷ hs) told w h not_mine (inl other) = inl (other.0, pushed_other (suc s) ws hs told w h not_mine other.1)
  pushed_other s (v ∷ ws) (x ∷ hs) told w h not_mine (inr own) = inr (record { mine = own.mine; one = own.one; more = own.more; is = own.is; fits = own.fits; rest = pushed_other (suc s) ws hs own.more w h not_mine own.rest })

-- all change
pub mapped : (P Q : ℕ → Work → Holder → Told → Type 0) (n : ℕ) (f : Work → Work) (g : Holder → Holder) (s : ℕ) (ws : List Work) (hs : List Holder) (told : List Told) → ((h : Holder) → (g h).client ≡ h.client)
    → ((t : ℕ) (w : Work) (h : Holder) (x : Told) → P t w h x → Q t (f w) (g h) x) → Mirrors P n s ws hs told → Mirrors Q n s (map f ws) (map g hs) told
mapped P Q n f g s [] [] told keeps fit h = h
mapped P Q n f g s [] (x ∷ hs) told keeps fit h = absurd h
mapped P Q n f g s (w ∷ ws) [] told keeps fit h = absurd h
mapped P Q n f g s (w ∷ ws) (x ∷ hs) told keeps fit (inl other) = inl ((λ e. other.0 (sym (keeps x) ∙ e)), mapped P Q n f g (suc s) ws hs told keeps fit other.1)
mapped P Q n f g s (w ∷ ws) (x ∷ hs) told keeps fit (inr own) = inr (record { mine = keeps x ∙ own.mine; one = own.one; more = own.more; is = own.is; fits = fit s w x own.one own.fits; rest = mapped P Q n f g (suc s) ws hs own.more keeps fit own.rest })

-- they fit in another sense
pub weakened : (P Q : ℕ → Work → Holder → Told → Type 0) (n s : ℕ) (ws : List Work) (hs : List Holder) (told : List Told)
    → ((t i : ℕ) (w : Work) (h : Holder) (x : Told) → t ≡ s + i → slice_get ws i ≡ Some w → slice_get hs i ≡ Some h → P t w h x → Q t w h x) → Mirrors P n s ws hs told → Mirrors Q n s ws hs told
weakened P Q n s [] [] told fit h = h
weakened P Q n s [] (x ∷ hs) told fit h = absurd h
weakened P Q n s (w ∷ ws) [] told fit h = absurd h
weakened P Q n s (w ∷ ws) (x ∷ hs) told fit (inl other) = inl (other.0, weakened P Q n (suc s) ws hs told (λ t i v y one at. fit t (suc i) v y one (omega (arith, at))) other.1)
weakened P Q n s (w ∷ ws) (x ∷ hs) told fit (inr own) = inr (record {
  mine = own.mine;
  one = own.one;
  more = own.more;
  is = own.is;
  fits = fit s 0 w x own.one (omega arith) refl refl own.fits;
  rest = weakened P Q n (suc s) ws hs own.more (λ t i v y one at. fit t (suc i) v y one (omega (arith, at))) own.rest;
})
