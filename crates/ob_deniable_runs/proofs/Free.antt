-- The words of another work's records and puts, which stand where the first work's do, are in no version.
use Rattle.std.specs.Prelude.{◌≡◌, ℕ, ◌+◌, ◌<◌, ◌≤◌, List, [], ◌∷◌, length, Option}
use Rattle.std.proofs.Common.{suc, arith, refl, sym, ap, subst, ◌∙◌}
use Rattle.ob_base.specs.declared.params.Params.{Params}
use Rattle.ob_base.specs.Tree.{width}
use Rattle.ob_recover.specs.Life.{WordId, LifeBatch, LifeState, Open, Append, ShowBatch, ShowLifts, End, AreDrawn, IsLife, life_step, next_word, with_words}
use Rattle.ob_recover.proofs.LabelLaws.{put_is}
use Rattle.ob_deniable.specs.Works.{LifeWork, Opens, Logs, Shows, Lifts, Ends, VersionSlots, SameShape, AreWritesDrawn, acts_of}
use Rattle.ob_deniable.proofs.Shapes.{drawn_any}
use Rattle.ob_deniable_runs.specs.Tapes.{ArePutsNext}
use Rattle.ob_deniable_runs.proofs.Used.{AreActsIn, ArePlacesIn, ArePutsIn}
use Rattle.ob_deniable_runs.proofs.Rows.{Keeps, all_blocks, keeps_step, record_free, write_free}
use Rattle.ob_fresh.specs.Drawn.{AllDrawNext, AreNextPuts, WordsKept, words_step}
use Rattle.ob_fresh.proofs.Blocks.{Block, IsFree}
use Rattle.ob_fresh.proofs.Moves.{blocks_step}

-- ---- what holds of the words of a record, or of puts

-- those of so many places from this word on
abbrev AllFrom : (P : WordId → Type 0) → WordId → ℕ → Type 0
AllFrom P first n = (v : WordId) → v.generation ≡ first.generation → first.place ≤ v.place → v.place < first.place + n → P v

module _ (P : WordId → Type 0) where
  later : (first : WordId) (n : ℕ) → AllFrom P first (suc n) → AllFrom P (next_word first) n
  later first n each v g low high = each v g (let x : first.place + 1 ≤ v.place = low in omega arith) (let y : v.place < (first.place + 1) + n = high in omega arith)

  places_in : (first : WordId) (asks : List (Option ℕ)) → AllFrom P first (length asks) → ArePlacesIn P (with_words first asks)
  places_in first [] each = tt
  places_in first (a ∷ asks) each = (each first refl (omega arith) (omega arith), places_in (next_word first) asks (later first (length asks) each))

  puts_in : (first : WordId) (ws : List (ℕ × Option WordId)) → AreNextPuts first ws → AllFrom P first (length ws) → ArePutsIn P ws
  puts_in first [] puts each = tt
  puts_in first (x ∷ ws) puts each = (
    λ v e. subst P (sym (put_is x.1 first v puts.0 e)) (each first refl (omega arith) (omega arith)),
    puts_in (next_word first) ws puts.1 (later first (length ws) each),
  )

puts_drawn : (p : Params) (w : WordId → ℕ) (g n drawn : ℕ) (first : WordId) (ws : List (ℕ × Option WordId)) → AreNextPuts first ws → first.generation ≡ g → n ≤ first.place → first.place + length ws ≤ drawn → AreDrawn p w g n ws drawn
puts_drawn p w g n drawn first [] puts at low high = omega arith
puts_drawn p w g n drawn first (x ∷ ws) puts at low high = (first, puts.0, at, low, puts_drawn p w g (first.place + 1) drawn (next_word first) ws puts.1 at (omega arith) (omega arith))

writes_of_life : (p : Params) (w : WordId → ℕ) (e : ℕ) (slots : VersionSlots) (s : LifeState) (one : List LifeWork) → IsLife p w s (acts_of e slots one) → AreWritesDrawn p s.generation s.drawn one
writes_of_life p w e slots s [] life = tt
writes_of_life p w e slots s (Opens g ∷ one) life = writes_of_life p w e slots (life_step p w s (Open g)) one life.1
writes_of_life p w e slots s (Logs asks first ∷ one) life = writes_of_life p w e slots (life_step p w s (Append (record { asks = asks; first = first }))) one life.1
writes_of_life p w e slots s (Shows ∷ one) life = writes_of_life p w e slots (life_step p w s ShowBatch) one life.1
writes_of_life p w e slots s (Lifts ∷ one) life = writes_of_life p w e slots (life_step p w s ShowLifts) one life.1
writes_of_life p w e slots s (Ends ws n ∷ one) life = (drawn_any p w (λ x. 0) s.generation s.drawn ws n life.0.2, writes_of_life p w (e + 1) slots (life_step p w s (End ws n (slots (e + 1)))) one life.1)

pub first_writes : (p : Params) (w : WordId → ℕ) (slots : VersionSlots) (s : LifeState) (one : List LifeWork) → IsLife p w s (acts_of 0 slots one) → AreWritesDrawn p s.generation s.drawn one
first_writes p w slots s one life = writes_of_life p w 0 slots s one life

module _ (p : Params) (tape : WordId → ℕ) (slots : VersionSlots) where
  -- the other's puts are of words that it draws
  pub other_writes : (e : ℕ) (s : LifeState) (k : WordsKept) (one other : List LifeWork) (g n : ℕ) → SameShape one other → AllDrawNext p tape s k (acts_of e slots one) → ArePutsNext p g n other → g ≡ s.generation → n ≡ k.drawn → (m : ℕ) → m ≤ n → AreWritesDrawn p g m other
  other_writes e s k [] [] g n sh next puts gen at m low = tt
  other_writes e s k [] (b ∷ other) g n sh next puts gen at m low = absurd sh
  other_writes e s k (a ∷ one) [] g n sh next puts gen at m low = absurd sh
  other_writes e s k (Opens x ∷ one) (Opens y ∷ other) g n sh next puts gen at m low = other_writes e (life_step p tape s (Open x)) (words_step p tape s k (Open x)) one other y 0 sh.1 next.1 puts (sym sh.0) refl 0 (omega arith)
  other_writes e s k (Logs asks first ∷ one) (Logs others start ∷ other) g n sh next puts gen at m low =
      let r : LifeBatch = record { asks = asks; first = first } in
      let many : length asks ≡ length others = sh.0.0 in
      let same : first.place ≡ start.place = ap (λ (x : WordId). x.place) sh.0.1 in
      let place : first.place ≡ k.drawn = ap (λ (x : WordId). x.place) next.0 in
      other_writes e (life_step p tape s (Append r)) (words_step p tape s k (Append r)) one other g (n + length others) sh.1 next.1 puts gen (omega arith) (start.place + length others) (omega arith)
  other_writes e s k (Shows ∷ one) (Shows ∷ other) g n sh next puts gen at m low = other_writes e (life_step p tape s ShowBatch) k one other g n sh.1 next.1 puts gen at m low
  other_writes e s k (Lifts ∷ one) (Lifts ∷ other) g n sh next puts gen at m low = other_writes e (life_step p tape s ShowLifts) k one other g n sh.1 next.1 puts gen at m low
  other_writes e s k (Ends ws x ∷ one) (Ends vs y ∷ other) g n sh next puts gen at m low =
      let same : x ≡ y = sh.0 in
      let many : x ≡ (words_step p tape s k (End ws x (slots (e + 1)))).drawn = next.0.many in
      let few : length vs ≤ p.writes = puts.0 in (
        puts_drawn p (λ x. 0) g m y (record { generation = g; place = n }) vs puts.1 refl low (omega arith),
        other_writes (e + 1) (life_step p tape s (End ws x (slots (e + 1)))) (words_step p tape s k (End ws x (slots (e + 1)))) one other g y sh.1 next.1 puts.2 gen (sym same ∙ many) y (omega arith),
      )
  other_writes e s k (a ∷ one) (b ∷ other) g n sh next puts gen at m low = absurd sh.0

  -- what holds of all words that are in no version holds of those of its acts
  pub acts_in : (some : 0 < p.dummies) (P : WordId → Type 0) (slots' : VersionSlots) (e : ℕ) (s : LifeState) (k : WordsKept) (bs : List Block) (one other : List LifeWork) (g n : ℕ) → SameShape one other → IsLife p tape s (acts_of e slots one) → AllDrawNext p tape s k (acts_of e slots one) → Keeps p tape s k bs →
      ArePutsNext p g n other → g ≡ s.generation → n ≡ k.drawn → ((v : WordId) → IsFree (width p) (all_blocks p tape s k bs (acts_of e slots one)) v → P v) → AreActsIn P (acts_of e slots' other)
  acts_in some P slots' e s k bs [] [] g n sh life next keeps puts gen at each = tt
  acts_in some P slots' e s k bs [] (b ∷ other) g n sh life next keeps puts gen at each = absurd sh
  acts_in some P slots' e s k bs (a ∷ one) [] g n sh life next keeps puts gen at each = absurd sh
  acts_in some P slots' e s k bs (Opens x ∷ one) (Opens y ∷ other) g n sh life next keeps puts gen at each =
      (tt, acts_in some P slots' e (life_step p tape s (Open x)) (words_step p tape s k (Open x)) bs one other y 0 sh.1 life.1 next.1 (keeps_step p tape some s k bs (Open x) life.0 next.0 keeps) puts (sym sh.0) refl each)
  acts_in some P slots' e s k bs (Logs asks first ∷ one) (Logs others start ∷ other) g n sh life next keeps puts gen at each =
      let r : LifeBatch = record { asks = asks; first = first } in
      let many : length asks ≡ length others = sh.0.0 in
      let place : start.place ≡ k.drawn = ap (λ (x : WordId). x.place) (sym sh.0.1 ∙ next.0) in
      let from : start.generation ≡ s.generation = ap (λ (x : WordId). x.generation) (sym sh.0.1 ∙ next.0) in (
        places_in P start others (λ v now low high. each v (record_free p tape s k bs (Append r) (k.drawn + length asks) (acts_of e slots one) keeps.blocks v (now ∙ from) (omega arith) (omega arith) refl refl refl life.1 next.1)),
        acts_in some P slots' e (life_step p tape s (Append r)) (words_step p tape s k (Append r)) bs one other g (n + length others) sh.1 life.1 next.1 (keeps_step p tape some s k bs (Append r) life.0 next.0 keeps) puts gen (omega arith) each,
      )
  acts_in some P slots' e s k bs (Shows ∷ one) (Shows ∷ other) g n sh life next keeps puts gen at each =
      (tt, acts_in some P slots' e (life_step p tape s ShowBatch) k bs one other g n sh.1 life.1 next.1 (keeps_step p tape some s k bs ShowBatch life.0 next.0 keeps) puts gen at each)
  acts_in some P slots' e s k bs (Lifts ∷ one) (Lifts ∷ other) g n sh life next keeps puts gen at each =
      (tt, acts_in some P slots' e (life_step p tape s ShowLifts) k bs one other g n sh.1 life.1 next.1 (keeps_step p tape some s k bs ShowLifts life.0 next.0 keeps) puts gen at each)
  acts_in some P slots' e s k bs (Ends ws x ∷ one) (Ends vs y ∷ other) g n sh life next keeps puts gen at each =
      let same : x ≡ y = sh.0 in
      let many : x ≡ (words_step p tape s k (End ws x (slots (e + 1)))).drawn = next.0.many in
      let few : length vs ≤ p.writes = puts.0 in (
        puts_in P (record { generation = g; place = n }) vs puts.1 (λ v now low high. each v (write_free p tape s k bs ws x (slots (e + 1)) (acts_of (e + 1) slots one) keeps.blocks v (now ∙ gen) (omega arith) (omega arith) life.1 next.1)),
        acts_in some P slots' (e + 1) (life_step p tape s (End ws x (slots (e + 1)))) (words_step p tape s k (End ws x (slots (e + 1)))) (blocks_step p tape s k bs (End ws x (slots (e + 1)))) one other g y sh.1 life.1 next.1
            (keeps_step p tape some s k bs (End ws x (slots (e + 1))) life.0 next.0 keeps) puts.2 gen (sym same ∙ many) each,
      )
  acts_in some P slots' e s k bs (a ∷ one) (b ∷ other) g n sh life next keeps puts gen at each = absurd sh.0

  -- a work that draws in turn is of such puts
  pub turn_puts : (e : ℕ) (s : LifeState) (k : WordsKept) (one : List LifeWork) → AllDrawNext p tape s k (acts_of e slots one) → ArePutsNext p s.generation k.drawn one
  turn_puts e s k [] next = tt
  turn_puts e s k (Opens g ∷ one) next = turn_puts e (life_step p tape s (Open g)) (words_step p tape s k (Open g)) one next.1
  turn_puts e s k (Logs asks first ∷ one) next = turn_puts e (life_step p tape s (Append (record { asks = asks; first = first }))) (words_step p tape s k (Append (record { asks = asks; first = first }))) one next.1
  turn_puts e s k (Shows ∷ one) next = turn_puts e (life_step p tape s ShowBatch) k one next.1
  turn_puts e s k (Lifts ∷ one) next = turn_puts e (life_step p tape s ShowLifts) k one next.1
  turn_puts e s k (Ends ws x ∷ one) next = (
    next.0.few,
    next.0.puts,
    subst (λ (n : ℕ). ArePutsNext p s.generation n one) (sym next.0.many) (turn_puts (e + 1) (life_step p tape s (End ws x (slots (e + 1)))) (words_step p tape s k (End ws x (slots (e + 1)))) one next.1),
  )
