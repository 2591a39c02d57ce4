-- No two label holes of a life show one word.
use Rattle.std.specs.Prelude.{◌≡◌, ℕ, ◌+◌, ◌<◌, ◌≤◌, ◌==◌, Bool, true, false, cond, List, [], ◌∷◌, ◌++◌, length, Option, unwrap_or}
use Rattle.std.specs.declared.option.Option.TheVariants.{None, Some}
use Rattle.std.proofs.Common.{suc, arith, refl, sym, ap, subst, ◌∙◌, inl, inr, ◌⊎◌}
use Rattle.std.proofs.lemmas.Bool.{true≢false, false≢true, eqb-true}
use Rattle.std.proofs.lemmas.List.{append_assoc, append-nil}
use Rattle.ob_ring.specs.FlatTable.{asks_for, shown_label, rebound, after_label}
use Rattle.ob_ring.proofs.FetchLaws.{asks_some}
use Rattle.ob_recover.specs.Life.{WordId, next_word, LabelFill, with_words, labels_of, book_after, IsPutOf}
use Rattle.ob_base.proofs.Repeats.{has_push}
use Rattle.ob_base.specs.Repeats.{Has}

abbrev pub IsOlder : WordId → ℕ → ℕ → Type 0
IsOlder w g n = (w.generation < g) ⊎ ((w.generation ≡ g) × (w.place < n))

abbrev pub IsNamedBefore : LabelFill → ℕ → ℕ → ℕ → Type 0
IsNamedBefore l e b i = (l.epoch < e) ⊎ ((l.epoch ≡ e) × ((l.batch < b) ⊎ ((l.batch ≡ b) × (l.place < i))))

-- of the labels planned so far, the book after them, the words drawn, and the name of the next place
pub record IsApart (ls : List LabelFill) (book : ℕ → Option WordId) (g n e b i : ℕ) : Type 0 where
  pub held_once : (k k' : ℕ) (w : WordId) → book k ≡ Some w → book k' ≡ Some w → k ≡ k'
  pub held_old : (k : ℕ) (w : WordId) → book k ≡ Some w → IsOlder w g n
  pub shown_old : (l : LabelFill) → Has ls l → IsOlder l.word g n
  pub not_held : (l : LabelFill) (k : ℕ) → Has ls l → book k ≡ Some l.word → ⊥
  pub by_word : (l m : LabelFill) → Has ls l → Has ls m → l.word ≡ m.word → l ≡ m
  pub by_name : (l m : LabelFill) → Has ls l → Has ls m → l.epoch ≡ m.epoch → l.batch ≡ m.batch → l.place ≡ m.place → l ≡ m
  pub named : (l : LabelFill) → Has ls l → IsNamedBefore l e b i

pub not_older : (w v : WordId) (g n : ℕ) → w ≡ v → v.generation ≡ g → n ≤ v.place → IsOlder w g n → ⊥
not_older w v g n e a b (inl h) = (let x : w.generation ≡ v.generation = ap (λ (u : WordId). u.generation) e in omega arith)
not_older w v g n e a b (inr h) = (let x : w.place ≡ v.place = ap (λ (u : WordId). u.place) e in let y : w.place < n = h.1 in omega arith)

pub older_yet : (w : WordId) (g n m : ℕ) → n ≤ m → IsOlder w g n → IsOlder w g m
older_yet w g n m h (inl a) = inl a
older_yet w g n m h (inr a) = inr (a.0, (let x : w.place < n = a.1 in omega arith))

-- a word shown is the place's own, or one that was held
pub label_from : (book : ℕ → Option WordId) (ask : Option ℕ) (own : WordId) → (shown_label book ask own ≡ own) ⊎ ((a : ℕ) × (ask ≡ Some a) × (book a ≡ Some (shown_label book ask own)))
label_from book None own = inl refl
label_from book (Some a) own = from_held (book a) refl
  where
    from_held : (o : Option WordId) → book a ≡ o → (unwrap_or (book a) own ≡ own) ⊎ ((c : ℕ) × (Some a ≡ Some c) × (book c ≡ Some (unwrap_or (book a) own)))
    from_held None e = inl (rw e refl)
    from_held (Some w) e = inr (a, refl, rw e refl)

-- a word held afterwards is the place's own, of a key that was asked for and held, or was held by a key not asked for
pub rebound_from : (asked : Bool) (own : WordId) (o : Option WordId) (x : WordId) → rebound asked own o ≡ Some x → ((asked ≡ true) × (own ≡ x) × ((w : WordId) × (o ≡ Some w))) ⊎ ((asked ≡ false) × (o ≡ Some x))
rebound_from asked own None x e = absurd (cc)
rebound_from true own (Some w) x e = inl (refl, (cc), (w, refl))
rebound_from false own (Some w) x e = inr (refl, e)

asks_is : (ask : Option ℕ) (a k : ℕ) → ask ≡ Some a → asks_for ask k ≡ true → a ≡ k
asks_is None a k e f = absurd (cc)
asks_is (Some c) a k e f = let x : c ≡ a = cc in sym x ∙ eqb-true c k f

asks_one : (ask : Option ℕ) (k k' : ℕ) → asks_for ask k ≡ true → asks_for ask k' ≡ true → k ≡ k'
asks_one None k k' e f = absurd (false≢true e)
asks_one (Some c) k k' e f = sym (eqb-true c k e) ∙ eqb-true c k' f

before_next : (l : LabelFill) (e b i : ℕ) → IsNamedBefore l e b i → IsNamedBefore l e b (i + 1)
before_next l e b i (inl h) = inl h
before_next l e b i (inr (x, inl h)) = inr (x, inl h)
before_next l e b i (inr (x, inr h)) = inr (x, inr (h.0, (let y : l.place < i = h.1 in omega arith)))

not_itself : (l : LabelFill) (e b i : ℕ) → IsNamedBefore l e b i → l.epoch ≡ e → l.batch ≡ b → l.place ≡ i → ⊥
not_itself l e b i (inl h) x y z = omega arith
not_itself l e b i (inr (w, inl h)) x y z = omega arith
not_itself l e b i (inr (w, inr h)) x y z = (let g : l.place < i = h.1 in omega arith)

module _ (ls : List LabelFill) (book : ℕ → Option WordId) (g n e b i : ℕ) (s : IsApart ls book g n e b i) (ask : Option ℕ) (own : WordId) (now : own.generation ≡ g) (free : n ≤ own.place) where
  own_unheld : (k : ℕ) (w : WordId) → book k ≡ Some w → w ≡ own → ⊥
  own_unheld k w h same = not_older w own g n same now free (s.held_old k w h)

  own_unshown : (l : LabelFill) → Has ls l → l.word ≡ own → ⊥
  own_unshown l h same = not_older l.word own g n same now free (s.shown_old l h)

  abbrev word : WordId
  word = shown_label book ask own

  abbrev fill : LabelFill
  fill = record { epoch = e; batch = b; place = i; word = word }

  abbrev book' : ℕ → Option WordId
  book' = after_label book ask own

  word_old : IsOlder word g (own.place + 1)
  word_old = elim (label_from book ask own) [
    | inl same ↦ subst (λ (w : WordId). IsOlder w g (own.place + 1)) (sym same) (inr (now, omega arith))
    | inr held ↦ older_yet word g n (own.place + 1) (omega arith) (s.held_old held.0 word held.2)
  ]

  -- the word shown was shown of no hole before
  word_unshown : (l : LabelFill) → Has ls l → l.word ≡ word → ⊥
  word_unshown l h same = elim (label_from book ask own) [
    | inl e ↦ own_unshown l h (same ∙ e)
    | inr held ↦ s.not_held l held.0 h (held.2 ∙ ap (λ (w : WordId). Some w) (sym same))
  ]

  held_after : (k : ℕ) (x : WordId) → book' k ≡ Some x → ((asks_for ask k ≡ true) × (own ≡ x) × ((w : WordId) × (book k ≡ Some w))) ⊎ ((asks_for ask k ≡ false) × (book k ≡ Some x))
  held_after k x h = rebound_from (asks_for ask k) own (book k) x h

  -- a key that was asked for and held shows what it held
  shown_held : (a : Option ℕ) (k : ℕ) (w : WordId) → asks_for a k ≡ true → book k ≡ Some w → shown_label book a own ≡ w
  shown_held None k w e h = absurd (false≢true e)
  shown_held (Some c) k w e h = let x : c ≡ k = eqb-true c k e in rw (x, h) refl

  asked_held : (a : Option ℕ) (k : ℕ) (w : WordId) → asks_for a k ≡ true → book k ≡ Some w → shown_label book a own ≡ own → ⊥
  asked_held a k w e h same = own_unheld k w h (sym (shown_held a k w e h) ∙ same)

  -- and isn't held any more
  word_unheld : (k : ℕ) → book' k ≡ Some word → ⊥
  word_unheld k h = elim (held_after k word h) [
    | inl new ↦ elim (label_from book ask own) [
      | inl same ↦ asked_held ask k (new.2).0 new.0 (new.2).1 same
      | inr held ↦ own_unheld held.0 word held.2 (sym new.1)
    ]
    | inr old ↦ elim (label_from book ask own) [
      | inl same ↦ own_unheld k word old.1 same
      | inr held ↦ true≢false (sym (asks_some ask held.0 k held.1 (s.held_once held.0 k word held.2 old.1)) ∙ old.0)
    ]
  ]

  pub label_step : IsApart (ls ++ fill ∷ []) book' g (own.place + 1) e b (i + 1)
  label_step = record {
    held_once = λ k k' w h h'. elim (held_after k w h) [
      | inl a ↦ elim (held_after k' w h') [ inl a' ↦ asks_one ask k k' a.0 a'.0 | inr o' ↦ absurd (own_unheld k' w o'.1 (sym a.1)) ]
      | inr o ↦ elim (held_after k' w h') [ inl a' ↦ absurd (own_unheld k w o.1 (sym a'.1)) | inr o' ↦ s.held_once k k' w o.1 o'.1 ]
    ];
    held_old = λ k w h. elim (held_after k w h) [
      | inl a ↦ subst (λ (v : WordId). IsOlder v g (own.place + 1)) a.1 (inr (now, omega arith))
      | inr o ↦ older_yet w g n (own.place + 1) (omega arith) (s.held_old k w o.1)
    ];
    shown_old = λ l h. elim (has_push ls fill l h) [
      | inl old ↦ older_yet l.word g n (own.place + 1) (omega arith) (s.shown_old l old)
      | inr new ↦ subst (λ (m : LabelFill). IsOlder m.word g (own.place + 1)) new word_old
    ];
    not_held = λ l k h held. elim (has_push ls fill l h) [
      | inl old ↦ elim (held_after k l.word held) [ inl a ↦ own_unshown l old (sym a.1) | inr o ↦ s.not_held l k old o.1 ]
      | inr new ↦ word_unheld k (held ∙ ap (λ (m : LabelFill). Some m.word) (sym new))
    ];
    by_word = λ l m h g same. elim (has_push ls fill l h) [
      | inl old ↦ elim (has_push ls fill m g) [ inl old' ↦ s.by_word l m old old' same | inr new' ↦ absurd (word_unshown l old (same ∙ ap (λ (x : LabelFill). x.word) (sym new'))) ]
      | inr new ↦ elim (has_push ls fill m g) [ inl old' ↦ absurd (word_unshown m old' (sym same ∙ ap (λ (x : LabelFill). x.word) (sym new))) | inr new' ↦ sym new ∙ new' ]
    ];
    by_name = λ l m h g x y z. elim (has_push ls fill l h) [
      | inl old ↦ elim (has_push ls fill m g) [
        | inl old' ↦ s.by_name l m old old' x y z
        | inr new' ↦ absurd (not_itself l e b i (s.named l old) (x ∙ ap (λ (f : LabelFill). f.epoch) (sym new')) (y ∙ ap (λ (f : LabelFill). f.batch) (sym new')) (z ∙ ap (λ (f : LabelFill). f.place) (sym new')))
      ]
      | inr new ↦ elim (has_push ls fill m g) [
        | inl old' ↦ absurd (not_itself m e b i (s.named m old') (sym x ∙ ap (λ (f : LabelFill). f.epoch) (sym new)) (sym y ∙ ap (λ (f : LabelFill). f.batch) (sym new)) (sym z ∙ ap (λ (f : LabelFill). f.place) (sym new)))
        | inr new' ↦ sym new ∙ new'
      ]
    ];
    named = λ l h. elim (has_push ls fill l h) [
      | inl old ↦ before_next l e b i (s.named l old)
      | inr new ↦ subst (λ (m : LabelFill). IsNamedBefore m e b (i + 1)) new (inr (refl, inr (refl, omega arith)))
    ];
  }

-- later words and later names
pub apart_later : (ls : List LabelFill) (book : ℕ → Option WordId) (g n e b i g' n' e' b' i' : ℕ) → ((w : WordId) → IsOlder w g n → IsOlder w g' n') → ((l : LabelFill) → IsNamedBefore l e b i → IsNamedBefore l e' b' i') → IsApart ls book g n e b i → IsApart ls book g' n' e' b' i'
apart_later ls book g n e b i g' n' e' b' i' older name s = record {
  held_once = s.held_once;
  held_old = λ k w h. older w (s.held_old k w h);
  shown_old = λ l h. older l.word (s.shown_old l h);
  not_held = s.not_held;
  by_word = s.by_word;
  by_name = s.by_name;
  named = λ l h. name l (s.named l h);
}

apart_at : (ls ls' : List LabelFill) (book : ℕ → Option WordId) (g e b n n' i i' : ℕ) → ls ≡ ls' → n ≡ n' → i ≡ i' → IsApart ls book g n e b i → IsApart ls' book g n' e b i'
apart_at ls ls' book g e b n n' i i' x y z s = subst (λ (l : List LabelFill). IsApart l book g n' e b i') x (subst (λ (m : ℕ). IsApart ls book g m e b i') y (subst (λ (j : ℕ). IsApart ls book g n e b j) z s))

pub label_batch : (ls : List LabelFill) (book : ℕ → Option WordId) (g e b i n : ℕ) (first : WordId) (asks : List (Option ℕ)) → first.generation ≡ g → n ≤ first.place → IsApart ls book g n e b i → IsApart (ls ++ labels_of e b i book (with_words first asks))
    (book_after book (with_words first asks)) g (first.place + length asks) e b (i + length asks)
label_batch ls book g e b i n first [] now free s =
    apart_at ls (ls ++ []) book g e b (first.place + 0) (first.place + 0) i (i + 0) (sym (append-nil ls)) refl (omega arith)
    (apart_later ls book g n e b i g (first.place + 0) e b i (λ w. older_yet w g n (first.place + 0) (omega arith)) (λ l h. h) s)
label_batch ls book g e b i n first (a ∷ asks) now free s =
    let one : IsApart (ls ++ record { epoch = e; batch = b; place = i; word = shown_label book a first } ∷ []) (after_label book a first) g (first.place + 1) e b (i + 1) = label_step ls book g n e b i s a first now free in
    apart_at _ _ (book_after (after_label book a first) (with_words (next_word first) asks)) g e b ((first.place + 1) + length asks) (first.place + suc (length asks)) ((i + 1) + length asks) (i + suc (length asks))
    (append_assoc ls (record { epoch = e; batch = b; place = i; word = shown_label book a first } ∷ []) (labels_of e b (i + 1) (after_label book a first) (with_words (next_word first) asks)))
    (omega arith) (omega arith)
    (label_batch (ls ++ record { epoch = e; batch = b; place = i; word = shown_label book a first } ∷ []) (after_label book a first) g e b (i + 1) (first.place + 1) (next_word first) asks now (omega arith) one)

-- ---- the writes

pub put_from : (c : Bool) (v o : Option WordId) (x : WordId) → cond c v o ≡ Some x → ((c ≡ true) × (v ≡ Some x)) ⊎ ((c ≡ false) × (o ≡ Some x))
put_from true v o x e = inl (refl, e)
put_from false v o x e = inr (refl, e)

pub put_is : (v : Option WordId) (own x : WordId) → IsPutOf v own → v ≡ Some x → x ≡ own
put_is None own x h e = absurd (cc)
put_is (Some w) own x h e = let y : w ≡ x = cc in sym y ∙ h

pub write_apart : (ls : List LabelFill) (book : ℕ → Option WordId) (g n e b i key : ℕ) (v : Option WordId) (own : WordId) → IsPutOf v own → own.generation ≡ g → n ≤ own.place → IsApart ls book g n e b i → IsApart ls (λ k. cond (k == key) v (book k)) g (own.place + 1) e b i
write_apart ls book g n e b i key v own put now free s = record {
  held_once = λ k k' w h h'. elim (put_from (k == key) v (book k) w h) [
    | inl a ↦ elim (put_from (k' == key) v (book k') w h') [
      | inl a' ↦ eqb-true k key a.0 ∙ sym (eqb-true k' key a'.0)
      | inr o' ↦ absurd (not_older w own g n (put_is v own w put a.1) now free (s.held_old k' w o'.1))
    ]
    | inr o ↦ elim (put_from (k' == key) v (book k') w h') [
      | inl a' ↦ absurd (not_older w own g n (put_is v own w put a'.1) now free (s.held_old k w o.1))
      | inr o' ↦ s.held_once k k' w o.1 o'.1
    ]
  ];
  held_old = λ k w h. elim (put_from (k == key) v (book k) w h) [
    | inl a ↦ subst (λ (x : WordId). IsOlder x g (own.place + 1)) (sym (put_is v own w put a.1)) (inr (now, omega arith))
    | inr o ↦ older_yet w g n (own.place + 1) (omega arith) (s.held_old k w o.1)
  ];
  shown_old = λ l h. older_yet l.word g n (own.place + 1) (omega arith) (s.shown_old l h);
  not_held = λ l k h held. elim (put_from (k == key) v (book k) l.word held) [
    | inl a ↦ not_older l.word own g n (put_is v own l.word put a.1) now free (s.shown_old l h)
    | inr o ↦ s.not_held l k h o.1
  ];
  by_word = s.by_word;
  by_name = s.by_name;
  named = s.named;
}
