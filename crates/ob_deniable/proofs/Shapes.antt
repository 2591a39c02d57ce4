-- What a work's shape decides: whether it is a life, and the names of its label holes; and that labels are of ids alone.
use Rattle.std.specs.Prelude.{◌≡◌, ℕ, ◌+◌, ◌<◌, ◌≤◌, ◌==◌, cond, List, [], ◌∷◌, ◌++◌, map, length, Option}
use Rattle.std.proofs.Common.{zero, suc, arith, refl, sym, ap, subst, ◌∙◌, length-append}
use Rattle.std.proofs.lemmas.List.{map-append}
use Rattle.ob_tables.specs.Rank.{IsRanking}
use Rattle.ob_base.specs.declared.params.Params.{Params}
use Rattle.ob_ring.specs.FlatTable.{after_label}
use Rattle.ob_recover.specs.Life.{WordId, LifeBatch, LifeState, Open, Append, ShowBatch, ShowLifts, End, LabelFill, AreDrawn, IsLife, next_word, with_words, batch_places, labels_of, book_after, book_after_log, book_written, phase_labels, life_labels, labels_shown, life_step}
use Rattle.ob_deniable.specs.Works.{LifeWork, Opens, Logs, Shows, Lifts, Ends, VersionSlots, acts_of, SameShape, AreWritesDrawn}

-- each version's slots are a ranking, filled or not
abbrev pub AreRankings : Params → VersionSlots → Type 0
AreRankings p slots = (version bucket : ℕ) → IsRanking (p.real + p.dummies) (slots version bucket)

-- ---- a life

pub record SameRun (s s' : LifeState) : Type 0 where
  pub generation : s.generation ≡ s'.generation
  pub drawn : s.drawn ≡ s'.drawn
  pub begun : s.begun ≡ s'.begun
  pub lifting : s.lifting ≡ s'.lifting
  pub many : length s.log ≡ length s'.log

module _ (p : Params) where
  pub drawn_any : (w w' : WordId → ℕ) (g n : ℕ) (ws : List (ℕ × Option WordId)) (d : ℕ) → AreDrawn p w g n ws d → AreDrawn p w' g n ws d
  drawn_any w w' g n [] d h = h
  drawn_any w w' g n (x ∷ ws) d h = (h.0, h.1, h.2, h.3, drawn_any w w' g (h.0.place + 1) ws d h.4)

  pub life_by_shape : (w w' : WordId → ℕ) (e e' : ℕ) (slots slots' : VersionSlots) (s s' : LifeState) (one other : List LifeWork) → SameShape one other → SameRun s s' → AreWritesDrawn p s'.generation s'.drawn other → AreRankings p slots' →
      IsLife p w s (acts_of e slots one) → IsLife p w' s' (acts_of e' slots' other)
  life_by_shape w w' e e' slots slots' s s' [] [] sh r d k life = life
  life_by_shape w w' e e' slots slots' s s' [] (b ∷ other) sh r d k life = absurd sh
  life_by_shape w w' e e' slots slots' s s' (a ∷ one) [] sh r d k life = absurd sh
  life_by_shape w w' e e' slots slots' s s' (Opens g ∷ one) (Opens h ∷ other) sh r d k life =
      let same : g ≡ h = sh.0 in
      let was : s.generation < g = life.0 in
      let gen : s.generation ≡ s'.generation = r.generation in
      ((omega arith), life_by_shape w w' e e' slots slots' (life_step p w s (Open g)) (life_step p w' s' (Open h)) one other sh.1 (record { generation = same; drawn = refl; begun = refl; lifting = r.lifting; many = r.many }) d k life.1)
  life_by_shape w w' e e' slots slots' s s' (Logs asks first ∷ one) (Logs others start ∷ other) sh r d k life =
      let many : length asks ≡ length others = sh.0.0 in
      let same : first ≡ start = sh.0.1 in
      let place : first.place ≡ start.place = ap (λ (x : WordId). x.place) same in
      let gen : first.generation ≡ start.generation = ap (λ (x : WordId). x.generation) same in
      let room : length s.log < p.batches = life.0.0 in
      let at : first.generation ≡ s.generation = life.0.1 in
      let free : s.drawn ≤ first.place = life.0.2 in
      let drawn : s.drawn ≡ s'.drawn = r.drawn in
      let logs : length s.log ≡ length s'.log = r.many in
      let ra : LifeBatch = record { asks = asks; first = first } in
      let rb : LifeBatch = record { asks = others; first = start } in
      let more : length (s.log ++ ra ∷ []) ≡ length (s'.log ++ rb ∷ []) = omega (arith, length-append s.log (ra ∷ []), length-append s'.log (rb ∷ [])) in (
        ((omega arith), sym gen ∙ at ∙ r.generation, (omega arith)),
        life_by_shape w w' e e' slots slots' (life_step p w s (Append ra)) (life_step p w' s' (Append rb)) one other sh.1
            (record { generation = r.generation; drawn = (omega arith); begun = r.begun; lifting = r.lifting; many = more }) (subst (λ (g : ℕ). AreWritesDrawn p g (start.place + length others) other) refl d) k life.1,
      )
  life_by_shape w w' e e' slots slots' s s' (Shows ∷ one) (Shows ∷ other) sh r d k life =
      let was : s.begun < length s.log = life.0 in
      let begun : s.begun ≡ s'.begun = r.begun in
      let logs : length s.log ≡ length s'.log = r.many in
      ((omega arith), life_by_shape w w' e e' slots slots' (life_step p w s ShowBatch) (life_step p w' s' ShowBatch) one other sh.1 (record { generation = r.generation; drawn = r.drawn; begun = (omega arith); lifting = r.lifting; many = r.many }) d k life.1)
  life_by_shape w w' e e' slots slots' s s' (Lifts ∷ one) (Lifts ∷ other) sh r d k life =
      let begun : s.begun ≡ s'.begun = r.begun in
      ((sym r.many ∙ life.0.0, sym r.begun ∙ life.0.1), life_by_shape w w' e e' slots slots' (life_step p w s ShowLifts) (life_step p w' s' ShowLifts) one other sh.1 (record { generation = r.generation; drawn = r.drawn; begun = (omega arith); lifting = refl; many = r.many }) d k life.1)
  life_by_shape w w' e e' slots slots' s s' (Ends ws n ∷ one) (Ends vs m ∷ other) sh r d k life = (
    (sym r.lifting ∙ life.0.0, sym r.many ∙ life.0.1, drawn_any (λ x. 0) w' s'.generation s'.drawn vs m d.0, λ u up. k (e' + 1) u),
    life_by_shape w w' (e + 1) (e' + 1) slots slots' (life_step p w s (End ws n (slots (e + 1)))) (life_step p w' s' (End vs m (slots' (e' + 1)))) one other sh.1 (record { generation = r.generation; drawn = sh.0; begun = refl; lifting = refl; many = refl }) d.1 k life.1,
  )
  life_by_shape w w' e e' slots slots' s s' (a ∷ one) (b ∷ other) sh r d k life = absurd sh.0

  -- ---- labels are of ids alone: whatever the words, and the slots, are

  phase_labels_any : (w w' : WordId → ℕ) (e b : ℕ) (book : ℕ → Option WordId) (log : List LifeBatch) (n : ℕ) → phase_labels p w e b book log n ≡ phase_labels p w' e b book log n
  phase_labels_any w w' e b book [] n = refl
  phase_labels_any w w' e b book (r ∷ log) zero = refl
  phase_labels_any w w' e b book (r ∷ log) (suc n) = phase_labels_any w w' e (b + 1) (book_after book (batch_places r)) log n

  book_after_log_any : (w w' : WordId → ℕ) (book : ℕ → Option WordId) (log : List LifeBatch) → book_after_log p w book log ≡ book_after_log p w' book log
  book_after_log_any w w' book [] = refl
  book_after_log_any w w' book (r ∷ log) = book_after_log_any w w' (book_after book (batch_places r)) log

  book_written_any : (w w' : WordId → ℕ) (book : ℕ → Option WordId) (ws : List (ℕ × Option WordId)) → book_written p w book ws ≡ book_written p w' book ws
  book_written_any w w' book [] = refl
  book_written_any w w' book (x ∷ ws) = book_written_any w w' (λ k. cond (k == x.0) x.1 (book k)) ws

  pub record SameBooks (s s' : LifeState) : Type 0 where
    pub epoch : s.epoch ≡ s'.epoch
    pub begun : s.begun ≡ s'.begun
    pub book : s.content.book ≡ s'.content.book
    pub log : s.log ≡ s'.log

  pub labels_any : (w w' : WordId → ℕ) (e e' : ℕ) (slots slots' : VersionSlots) (s s' : LifeState) (one : List LifeWork) → SameBooks s s' → life_labels p w s (acts_of e slots one) ≡ life_labels p w' s' (acts_of e' slots' one)
  labels_any w w' e e' slots slots' s s' [] r = refl
  labels_any w w' e e' slots slots' s s' (Opens g ∷ one) r = labels_any w w' e e' slots slots' (life_step p w s (Open g)) (life_step p w' s' (Open g)) one (record { epoch = r.epoch; begun = refl; book = r.book; log = r.log })
  labels_any w w' e e' slots slots' s s' (Logs asks first ∷ one) r =
      let b : LifeBatch = record { asks = asks; first = first } in
      labels_any w w' e e' slots slots' (life_step p w s (Append b)) (life_step p w' s' (Append b)) one (record { epoch = r.epoch; begun = r.begun; book = r.book; log = ap (λ (l : List LifeBatch). l ++ b ∷ []) r.log })
  labels_any w w' e e' slots slots' s s' (Shows ∷ one) r =
      let here : labels_shown p w s ShowBatch ≡ labels_shown p w' s' ShowBatch = (λ i. phase_labels p w (r.epoch i + 1) 0 (r.book i) (r.log i) (r.begun i)) ∙ phase_labels_any w w' (s'.epoch + 1) 0 s'.content.book s'.log s'.begun in
      let rest : life_labels p w (life_step p w s ShowBatch) (acts_of e slots one) ≡ life_labels p w' (life_step p w' s' ShowBatch) (acts_of e' slots' one) =
      labels_any w w' e e' slots slots' (life_step p w s ShowBatch) (life_step p w' s' ShowBatch) one (record { epoch = r.epoch; begun = ap (λ (n : ℕ). n + 1) r.begun; book = r.book; log = r.log }) in
      λ i. here i ++ rest i
  labels_any w w' e e' slots slots' s s' (Lifts ∷ one) r = labels_any w w' e e' slots slots' (life_step p w s ShowLifts) (life_step p w' s' ShowLifts) one (record { epoch = r.epoch; begun = ap (λ (n : ℕ). n + 1) r.begun; book = r.book; log = r.log })
  labels_any w w' e e' slots slots' s s' (Ends ws n ∷ one) r =
      let now : book_after_log p w s.content.book s.log ≡ book_after_log p w' s'.content.book s'.log = (λ i. book_after_log p w (r.book i) (r.log i)) ∙ book_after_log_any w w' s'.content.book s'.log in
      let ended : book_written p w (book_after_log p w s.content.book s.log) ws ≡ book_written p w' (book_after_log p w' s'.content.book s'.log) ws = (λ i. book_written p w (now i) ws) ∙ book_written_any w w' (book_after_log p w' s'.content.book s'.log) ws in
      labels_any w w' (e + 1) (e' + 1) slots slots' (life_step p w s (End ws n (slots (e + 1)))) (life_step p w' s' (End ws n (slots' (e' + 1)))) one (record { epoch = ap (λ (n : ℕ). n + 1) r.epoch; begun = refl; book = ended; log = refl })

  -- ---- the names of label holes are the shape's

  abbrev pub label_name : LabelFill → LabelFill
  label_name l = record l { word = record { generation = 0; place = 0 } }

  abbrev pub AreLogsAlike : List LifeBatch → List LifeBatch → Type 0
  AreLogsAlike [] [] = Unit {0}
  AreLogsAlike (r ∷ rs) (q ∷ qs) = (length r.asks ≡ length q.asks) × AreLogsAlike rs qs
  AreLogsAlike [] (q ∷ qs) = ⊥
  AreLogsAlike (r ∷ rs) [] = ⊥

  pub logs_push : (xs ys : List LifeBatch) (r q : LifeBatch) → AreLogsAlike xs ys → length r.asks ≡ length q.asks → AreLogsAlike (xs ++ r ∷ []) (ys ++ q ∷ [])
  logs_push [] [] r q h e = (e, tt)
  logs_push [] (y ∷ ys) r q h e = absurd h
  logs_push (x ∷ xs) [] r q h e = absurd h
  logs_push (x ∷ xs) (y ∷ ys) r q h e = (h.0, logs_push xs ys r q h.1 e)

  pub logs_long : (xs ys : List LifeBatch) → AreLogsAlike xs ys → length xs ≡ length ys
  logs_long [] [] h = refl
  logs_long [] (y ∷ ys) h = absurd h
  logs_long (x ∷ xs) [] h = absurd h
  logs_long (x ∷ xs) (y ∷ ys) h = let rest : length xs ≡ length ys = logs_long xs ys h.1 in omega arith

  names_of_labels : (e b i : ℕ) (book book' : ℕ → Option WordId) (first first' : WordId) (asks asks' : List (Option ℕ)) → length asks ≡ length asks' →
      map label_name (labels_of e b i book (with_words first asks)) ≡ map label_name (labels_of e b i book' (with_words first' asks'))
  names_of_labels e b i book book' first first' [] [] h = refl
  names_of_labels e b i book book' first first' [] (y ∷ ys) h = absurd (omega arith)
  names_of_labels e b i book book' first first' (x ∷ xs) [] h = absurd (omega arith)
  names_of_labels e b i book book' first first' (x ∷ xs) (y ∷ ys) h =
      ap (λ (ls : List LabelFill). record { epoch = e; batch = b; place = i; word = record { generation = 0; place = 0 } } ∷ ls)
      (names_of_labels e b (i + 1) (after_label book x first) (after_label book' y first') (next_word first) (next_word first') xs ys (omega arith))

  names_of_phase : (w w' : WordId → ℕ) (e b : ℕ) (book book' : ℕ → Option WordId) (log log' : List LifeBatch) (n : ℕ) → AreLogsAlike log log' → map label_name (phase_labels p w e b book log n) ≡ map label_name (phase_labels p w' e b book' log' n)
  names_of_phase w w' e b book book' [] [] n h = refl
  names_of_phase w w' e b book book' [] (q ∷ log') n h = absurd h
  names_of_phase w w' e b book book' (r ∷ log) [] n h = absurd h
  names_of_phase w w' e b book book' (r ∷ log) (q ∷ log') zero h = names_of_labels e b 0 book book' r.first q.first r.asks q.asks h.0
  names_of_phase w w' e b book book' (r ∷ log) (q ∷ log') (suc n) h = names_of_phase w w' e (b + 1) (book_after book (batch_places r)) (book_after book' (batch_places q)) log log' n h.1

  pub record SameHoles (s s' : LifeState) : Type 0 where
    pub epoch : s.epoch ≡ s'.epoch
    pub begun : s.begun ≡ s'.begun
    pub log : AreLogsAlike s.log s'.log

  pub names_shown : (w w' : WordId → ℕ) (s s' : LifeState) → SameHoles s s' → map label_name (labels_shown p w s ShowBatch) ≡ map label_name (labels_shown p w' s' ShowBatch)
  names_shown w w' s s' r = (λ i. map label_name (phase_labels p w (r.epoch i + 1) 0 s.content.book s.log (r.begun i))) ∙ names_of_phase w w' (s'.epoch + 1) 0 s.content.book s'.content.book s.log s'.log s'.begun r.log

  pub names_any : (w w' : WordId → ℕ) (e e' : ℕ) (slots slots' : VersionSlots) (s s' : LifeState) (one other : List LifeWork) → SameShape one other → SameHoles s s' →
      map label_name (life_labels p w s (acts_of e slots one)) ≡ map label_name (life_labels p w' s' (acts_of e' slots' other))
  names_any w w' e e' slots slots' s s' [] [] sh r = refl
  names_any w w' e e' slots slots' s s' [] (b ∷ other) sh r = absurd sh
  names_any w w' e e' slots slots' s s' (a ∷ one) [] sh r = absurd sh
  names_any w w' e e' slots slots' s s' (Opens g ∷ one) (Opens h ∷ other) sh r = names_any w w' e e' slots slots' (life_step p w s (Open g)) (life_step p w' s' (Open h)) one other sh.1 (record { epoch = r.epoch; begun = refl; log = r.log })
  names_any w w' e e' slots slots' s s' (Logs asks first ∷ one) (Logs others start ∷ other) sh r =
      let ra : LifeBatch = record { asks = asks; first = first } in
      let rb : LifeBatch = record { asks = others; first = start } in
      names_any w w' e e' slots slots' (life_step p w s (Append ra)) (life_step p w' s' (Append rb)) one other sh.1 (record { epoch = r.epoch; begun = r.begun; log = logs_push s.log s'.log ra rb r.log sh.0.0 })
  names_any w w' e e' slots slots' s s' (Shows ∷ one) (Shows ∷ other) sh r =
      let rest = names_any w w' e e' slots slots' (life_step p w s ShowBatch) (life_step p w' s' ShowBatch) one other sh.1 (record { epoch = r.epoch; begun = ap (λ (n : ℕ). n + 1) r.begun; log = r.log }) in
      map-append label_name (labels_shown p w s ShowBatch) (life_labels p w (life_step p w s ShowBatch) (acts_of e slots one))
      ∙ (λ i. names_shown w w' s s' r i ++ rest i)
      ∙ sym (map-append label_name (labels_shown p w' s' ShowBatch) (life_labels p w' (life_step p w' s' ShowBatch) (acts_of e' slots' other)))
  names_any w w' e e' slots slots' s s' (Lifts ∷ one) (Lifts ∷ other) sh r = names_any w w' e e' slots slots' (life_step p w s ShowLifts) (life_step p w' s' ShowLifts) one other sh.1 (record { epoch = r.epoch; begun = ap (λ (n : ℕ). n + 1) r.begun; log = r.log })
  names_any w w' e e' slots slots' s s' (Ends ws n ∷ one) (Ends vs m ∷ other) sh r =
      names_any w w' (e + 1) (e' + 1) slots slots' (life_step p w s (End ws n (slots (e + 1)))) (life_step p w' s' (End vs m (slots' (e' + 1)))) one other sh.1 (record { epoch = ap (λ (n : ℕ). n + 1) r.epoch; begun = refl; log = tt })
  names_any w w' e e' slots slots' s s' (a ∷ one) (b ∷ other) sh r = absurd sh.0
