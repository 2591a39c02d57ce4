-- Two works of one shape, act by act: leaves equal, the same holes of slots come.
use Rattle.std.specs.Prelude.{◌≡◌, ℕ, ◌+◌, ◌<◌, ◌≤◌, true, cond, List, [], ◌∷◌, ◌++◌, map, length, Option}
use Rattle.std.proofs.Common.{zero, suc, arith, refl, sym, ap, subst, ◌∙◌, inl, inr, ◌⊎◌}
use Rattle.std.proofs.lemmas.Bool.{false≢true, cases_lt, cases_eq}
use Rattle.std.proofs.lemmas.List.{map-append, length-map}
use Rattle.ob_base.specs.declared.params.Params.{Params}
use Rattle.ob_recover.specs.Life.{WordId, LifeBatch, LifeState, LifeAct, Open, Append, ShowBatch, ShowLifts, End, LabelFill, SlotFill, IsActAllowed, IsLife, batch_places, book_after, phase_labels, life_labels, labels_shown, slots_shown, life_step, table_now, book_now}
use Rattle.ob_recover.proofs.LifeSlots.{AreSlotsSound, slots_keep}
use Rattle.ob_deniable.specs.Works.{LifeWork, Opens, Logs, Shows, Lifts, Ends, VersionSlots, acts_of, SameShape}
use Rattle.ob_deniable.proofs.Pairs.{rows_split}
use Rattle.ob_deniable.proofs.Shapes.{label_name, SameHoles, logs_push, logs_long, names_shown}
use Rattle.ob_deniable.proofs.Tables.{slot_name, leaf, leaf', Faces, PhaseKnown, phase_names, log_faces, lifts_names, up_same, faces_end}

module _ (p : Params) (v : WordId → ℕ) where
  phase_more : (e b : ℕ) (book : ℕ → Option WordId) (log more : List LifeBatch) (n : ℕ) → n < length log → phase_labels p v e b book (log ++ more) n ≡ phase_labels p v e b book log n
  phase_more e b book [] more n h = absurd (omega arith)
  phase_more e b book (r ∷ log) more zero h = refl
  phase_more e b book (r ∷ log) more (suc n) h = phase_more e (b + 1) (book_after book (batch_places r)) log more n (omega arith)

  phase_behind : (e b : ℕ) (book : ℕ → Option WordId) (log : List LifeBatch) (n : ℕ) → length log ≤ n → phase_labels p v e b book log n ≡ []
  phase_behind e b book [] n h = refl
  phase_behind e b book (r ∷ log) zero h = absurd (omega arith)
  phase_behind e b book (r ∷ log) (suc n) h = phase_behind e (b + 1) (book_after book (batch_places r)) log n (omega arith)

  -- what each act shows
  abbrev pub rows : LifeState → List LifeAct → List (List LabelFill × List SlotFill)
  rows s [] = []
  rows s (a ∷ rest) = (labels_shown p v s a, slots_shown p v s a) ∷ rows (life_step p v s a) rest

module _ (p : Params) (some : 0 < p.dummies) (w w' : WordId → ℕ) where
  -- act by act, the leaves are equal, and the names of the slot holes are
  abbrev pub RowsAlike : List (List LabelFill × List SlotFill) → List (List LabelFill × List SlotFill) → Type 0
  RowsAlike [] [] = Unit {0}
  RowsAlike (x ∷ xs) (y ∷ ys) = (map (leaf p some w w') x.0 ≡ map (leaf' p some w w') y.0) × (map slot_name x.1 ≡ map slot_name y.1) × RowsAlike xs ys
  RowsAlike [] (y ∷ ys) = ⊥
  RowsAlike (x ∷ xs) [] = ⊥

  abbrev pub Known : LifeState → LifeState → ℕ → Type 0
  Known s s' n = PhaseKnown p some w w' (s.epoch + 1) 0 s.content.book s'.content.book s.log s'.log n

  pub record Alike (s s' : LifeState) : Type 0 where
    pub holes : SameHoles p s s'
    pub lifting : s.lifting ≡ s'.lifting
    pub version : (u : ℕ) → s.content.version u ≡ s'.content.version u
    pub faces : Faces p some w w' s.content.table s'.content.table s.content.book s'.content.book
    pub within : (s.begun ≤ length s.log) ⊎ (length s.log ≡ p.batches)
    pub known : (n : ℕ) → (n < s.begun) ⊎ (s.lifting ≡ true) → Known s s' n
    pub mine : AreSlotsSound p w s
    pub theirs : AreSlotsSound p w' s'

  module _ (s s' : LifeState) (a : Alike s s') where
    long : length s.log ≡ length s'.log
    long = logs_long p s.log s'.log a.holes.log

    pub open_keeps : (g g' : ℕ) → IsActAllowed p w s (Open g) → IsActAllowed p w' s' (Open g') → Alike (life_step p w s (Open g)) (life_step p w' s' (Open g'))
    open_keeps g g' ok ok' = record {
      holes = record { epoch = a.holes.epoch; begun = refl; log = a.holes.log };
      lifting = a.lifting;
      version = a.version;
      faces = a.faces;
      within = inl (omega arith);
      known = λ n h. elim h [ inl low ↦ absurd (omega arith) | inr on ↦ a.known n (inr on) ];
      mine = slots_keep p w some s (Open g) ok a.mine;
      theirs = slots_keep p w' some s' (Open g') ok' a.theirs;
    }

    pub append_keeps : (r r' : LifeBatch) → length r.asks ≡ length r'.asks → IsActAllowed p w s (Append r) → IsActAllowed p w' s' (Append r') → Alike (life_step p w s (Append r)) (life_step p w' s' (Append r'))
    append_keeps r r' many ok ok' =
        let room : length s.log < p.batches = ok.0 in
        record {
          holes = record { epoch = a.holes.epoch; begun = a.holes.begun; log = logs_push p s.log s'.log r r' a.holes.log many };
          lifting = a.lifting;
          version = a.version;
          faces = a.faces;
          within = elim a.within [ inl low ↦ inl (omega (arith, more s.log r)) | inr full ↦ absurd (omega arith) ];
          known = λ n h. elim h [
            | inl low ↦ elim a.within [
              | inl in' ↦ (
                  let short : n < length s.log = omega arith in
                  let short' : n < length s'.log = (let l : length s.log ≡ length s'.log = long in omega arith) in
                  ap (map (leaf p some w w')) (phase_more p w (s.epoch + 1) 0 s.content.book s.log (r ∷ []) n short) ∙ a.known n (inl low)
                  ∙ ap (map (leaf' p some w w')) (sym (phase_more p w' (s.epoch + 1) 0 s'.content.book s'.log (r' ∷ []) n short')))
              | inr full ↦ absurd (omega arith)
            ]
            | inr on ↦ absurd (let full : length s.log ≡ p.batches = a.mine.full on in omega arith)
          ];
          mine = slots_keep p w some s (Append r) ok a.mine;
          theirs = slots_keep p w' some s' (Append r') ok' a.theirs;
        }
      where
        more : (log : List LifeBatch) (q : LifeBatch) → length (log ++ q ∷ []) ≡ length log + 1
        more [] q = refl
        more (x ∷ log) q = let rest : length (log ++ q ∷ []) ≡ length log + 1 = more log q in omega arith

    pub shows_keep : IsActAllowed p w s ShowBatch → IsActAllowed p w' s' ShowBatch → Known s s' s.begun → Alike (life_step p w s ShowBatch) (life_step p w' s' ShowBatch)
    shows_keep ok ok' now =
        let low : s.begun < length s.log = ok in
        record {
          holes = record { epoch = a.holes.epoch; begun = ap (λ (n : ℕ). n + 1) a.holes.begun; log = a.holes.log };
          lifting = a.lifting;
          version = a.version;
          faces = a.faces;
          within = inl (omega arith);
          known = λ n h. elim h [
            | inl below ↦ elim (cases_eq n s.begun) [
              | inl same ↦ subst (λ (m : ℕ). Known s s' m) (sym same) now
              | inr other ↦ a.known n (inl (omega arith))
            ]
            | inr on ↦ a.known n (inr on)
          ];
          mine = slots_keep p w some s ShowBatch ok a.mine;
          theirs = slots_keep p w' some s' ShowBatch ok' a.theirs;
        }

    -- where each phase was shown in this attempt, all are known
    all_known : length s.log ≤ s.begun → (n : ℕ) → Known s s' n
    all_known all n = elim (cases_lt n s.begun) [
      | inl low ↦ a.known n (inl low)
      | inr high ↦ (
          let behind : length s.log ≤ n = omega arith in
          let behind' : length s'.log ≤ n = (let l : length s.log ≡ length s'.log = long in omega arith) in
          ap (map (leaf p some w w')) (phase_behind p w (s.epoch + 1) 0 s.content.book s.log n behind) ∙ ap (map (leaf' p some w w')) (sym (phase_behind p w' (s.epoch + 1) 0 s'.content.book s'.log n behind')))
    ]

    pub lifts_keep : IsActAllowed p w s ShowLifts → IsActAllowed p w' s' ShowLifts → Alike (life_step p w s ShowLifts) (life_step p w' s' ShowLifts)
    lifts_keep ok ok' =
        let whole : length s.log ≡ p.batches = ok.0 in
        let begun : s.begun ≡ p.batches = ok.1 in
        record {
          holes = record { epoch = a.holes.epoch; begun = ap (λ (n : ℕ). n + 1) a.holes.begun; log = a.holes.log };
          lifting = refl;
          version = a.version;
          faces = a.faces;
          within = inr whole;
          known = λ n h. all_known (omega arith) n;
          mine = slots_keep p w some s ShowLifts ok a.mine;
          theirs = slots_keep p w' some s' ShowLifts ok' a.theirs;
        }

    pub faces_now : ((n : ℕ) → Known s s' n) → Faces p some w w' (table_now p w s) (table_now p w' s') (book_now p w s) (book_now p w' s')
    faces_now known = log_faces p some w w' (s.epoch + 1) 0 s.content.table s'.content.table s.content.book s'.content.book s.log s'.log a.holes.log a.faces (λ m h. known m)

    pub end_keeps : (ws ws' : List (ℕ × Option WordId)) (n n' : ℕ) (slot slot' : ℕ → ℕ → ℕ) → IsActAllowed p w s (End ws n slot) → IsActAllowed p w' s' (End ws' n' slot') → Alike (life_step p w s (End ws n slot)) (life_step p w' s' (End ws' n' slot'))
    end_keeps ws ws' n n' slot slot' ok ok' =
        let f : Faces p some w w' (table_now p w s) (table_now p w' s') (book_now p w s) (book_now p w' s') = faces_now (λ n. a.known n (inr ok.0)) in
        record {
          holes = record { epoch = ap (λ (n : ℕ). n + 1) a.holes.epoch; begun = refl; log = tt };
          lifting = refl;
          version = λ u i. cond (up_same p some w w' (table_now p w s) (table_now p w' s') (book_now p w s) (book_now p w' s') f u i) (a.holes.epoch i + 1) (a.version u i);
          faces = faces_end p some w w' s s' ws ws' a.mine a.theirs ok.0 ok'.0 f;
          within = inl (omega arith);
          known = λ n h. elim h [ inl low ↦ absurd (omega arith) | inr on ↦ absurd (false≢true on) ];
          mine = slots_keep p w some s (End ws n slot) ok a.mine;
          theirs = slots_keep p w' some s' (End ws' n' slot') ok' a.theirs;
        }

    -- the labels of the next phase, whose leaves are equal
    pub now_known : map (leaf p some w w') (labels_shown p w s ShowBatch) ≡ map (leaf' p some w w') (labels_shown p w' s' ShowBatch) → Known s s' s.begun
    now_known h = h ∙ (λ i. map (leaf' p some w w') (phase_labels p w' (sym a.holes.epoch i + 1) 0 s'.content.book s'.log (sym a.holes.begun i)))

    pub batch_names : IsActAllowed p w s ShowBatch → Known s s' s.begun → map slot_name (slots_shown p w s ShowBatch) ≡ map slot_name (slots_shown p w' s' ShowBatch)
    batch_names ok now =
        phase_names p some w w' (s.epoch + 1) 0 s.content s'.content s.content.table s'.content.table s.content.book s'.content.book s.log s'.log s.begun a.version a.holes.log a.faces
        (λ m h. elim (cases_eq m s.begun) [ inl same ↦ subst (λ (k : ℕ). Known s s' k) (sym same) now | inr other ↦ a.known m (inl (omega arith)) ])
        ∙ (λ i. map slot_name (slots_shown p w' (record s' { epoch = a.holes.epoch i; begun = a.holes.begun i }) ShowBatch))

    pub lift_names : IsActAllowed p w s ShowLifts → map slot_name (slots_shown p w s ShowLifts) ≡ map slot_name (slots_shown p w' s' ShowLifts)
    lift_names ok =
        let whole : length s.log ≡ p.batches = ok.0 in
        let begun : s.begun ≡ p.batches = ok.1 in
        lifts_names p some w w' (s.epoch + 1) s.content s'.content (table_now p w s) (table_now p w' s') (book_now p w s) (book_now p w' s') a.version (faces_now (all_known (omega arith)))
        ∙ (λ i. map slot_name (slots_shown p w' (record s' { epoch = a.holes.epoch i }) ShowLifts))

  pub rows_alike : (e e' : ℕ) (slots slots' : VersionSlots) (s s' : LifeState) (one other : List LifeWork) → SameShape one other → Alike s s' → IsLife p w s (acts_of e slots one) → IsLife p w' s' (acts_of e' slots' other) →
      map (leaf p some w w') (life_labels p w s (acts_of e slots one)) ≡ map (leaf' p some w w') (life_labels p w' s' (acts_of e' slots' other)) → RowsAlike (rows p w s (acts_of e slots one)) (rows p w' s' (acts_of e' slots' other))
  rows_alike e e' slots slots' s s' [] [] sh a life life' h = tt
  rows_alike e e' slots slots' s s' [] (y ∷ other) sh a life life' h = absurd sh
  rows_alike e e' slots slots' s s' (x ∷ one) [] sh a life life' h = absurd sh
  rows_alike e e' slots slots' s s' (Opens g ∷ one) (Opens g' ∷ other) sh a life life' h =
      (refl, refl, rows_alike e e' slots slots' (life_step p w s (Open g)) (life_step p w' s' (Open g')) one other sh.1 (open_keeps s s' a g g' life.0 life'.0) life.1 life'.1 h)
  rows_alike e e' slots slots' s s' (Logs asks first ∷ one) (Logs others start ∷ other) sh a life life' h =
      let r : LifeBatch = record { asks = asks; first = first } in
      let r' : LifeBatch = record { asks = others; first = start } in
      (refl, refl, rows_alike e e' slots slots' (life_step p w s (Append r)) (life_step p w' s' (Append r')) one other sh.1 (append_keeps s s' a r r' sh.0.0 life.0 life'.0) life.1 life'.1 h)
  rows_alike e e' slots slots' s s' (Shows ∷ one) (Shows ∷ other) sh a life life' h =
      let L : List LabelFill = labels_shown p w s ShowBatch in
      let L' : List LabelFill = labels_shown p w' s' ShowBatch in
      let more : List LabelFill = life_labels p w (life_step p w s ShowBatch) (acts_of e slots one) in
      let more' : List LabelFill = life_labels p w' (life_step p w' s' ShowBatch) (acts_of e' slots' other) in
      let many : length (map (leaf p some w w') L) ≡ length (map (leaf' p some w w') L') = length-map L (leaf p some w w') ∙ sym (length-map L (label_name p)) ∙ ap length (names_shown p w w' s s' a.holes) ∙ length-map L' (label_name p) ∙ sym (length-map L' (leaf' p some w w')) in
      let parts = rows_split (map (leaf p some w w') L) (map (leaf' p some w w') L') (map (leaf p some w w') more) (map (leaf' p some w w') more') many
      (sym (map-append (leaf p some w w') L more) ∙ h ∙ map-append (leaf' p some w w') L' more') in
      let now : Known s s' s.begun = now_known s s' a parts.0 in
      (parts.0, batch_names s s' a life.0 now, rows_alike e e' slots slots' (life_step p w s ShowBatch) (life_step p w' s' ShowBatch) one other sh.1 (shows_keep s s' a life.0 life'.0 now) life.1 life'.1 parts.1)
  rows_alike e e' slots slots' s s' (Lifts ∷ one) (Lifts ∷ other) sh a life life' h =
      (refl, lift_names s s' a life.0, rows_alike e e' slots slots' (life_step p w s ShowLifts) (life_step p w' s' ShowLifts) one other sh.1 (lifts_keep s s' a life.0 life'.0) life.1 life'.1 h)
  rows_alike e e' slots slots' s s' (Ends ws n ∷ one) (Ends vs m ∷ other) sh a life life' h = (
    refl,
    refl,
    rows_alike (e + 1) (e' + 1) slots slots' (life_step p w s (End ws n (slots (e + 1)))) (life_step p w' s' (End vs m (slots' (e' + 1)))) one other sh.1
        (end_keeps s s' a ws vs n m (slots (e + 1)) (slots' (e' + 1)) life.0 life'.0) life.1 life'.1 h,
  )
  rows_alike e e' slots slots' s s' (x ∷ one) (y ∷ other) sh a life life' h = absurd sh.0
