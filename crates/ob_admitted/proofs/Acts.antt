-- The acts of a run's calls, and of the one that was refused.
use Rattle.std.specs.Prelude.{◌≡◌, ◌⊎◌, ℕ, ◌+◌, List, [], ◌∷◌, ◌++◌, map, length, Option, None, Some}
use Rattle.std.proofs.Common.{suc, arith, refl, sym, ap, ◌∙◌, subst, inl, inr, append_assoc, length-append}
use Rattle.std.proofs.lemmas.List.{append-nil, length-map}
use Rattle.std.proofs.lemmas.List.FromFn.{length-map-range_with_len}
use Rattle.ob_base.specs.Repeats.{Has}
use Rattle.ob_base.proofs.Repeats.{has_left, has_right}
use Rattle.ob_base.specs.declared.params.Params.{Params}
use Rattle.ob_schedule.specs.Schedule.{Fills, batch_leaves}
use Rattle.ob_fresh.specs.PublicLives.{AreEndsShown}
use Rattle.ob_ring.specs.FlatTable.{after_label}
use Rattle.ob_recover.specs.Calls.{Finds}
use Rattle.ob_recover.specs.Life.{WordId, LabelFill, LifeAct, LifeBatch, LifeState, SlotFill, Append, Open, ShowBatch, ShowLifts, End as EndAct, IsLife, batch_places, book_after, labels_of, leaf_of_word}
use Rattle.ob_recover.specs.Life.{life_slots, life_step, phase_labels, reached, slots_shown}
use Rattle.ob_serial.specs.Vaults.{End, Fetch, VaultCall}
use Rattle.ob_vault.specs.Lives.{AreFirstActs}
use Rattle.ob_vault.specs.Shapes.{Shape}
use Rattle.ob_vault.specs.Shown.{AreFilledBy, AreShownBy}
use Rattle.ob_admitted.specs.Between.{AreActsLeft}
use Rattle.ob_admitted.specs.Publics.{AreRecordsWhole}
use Rattle.ob_admitted.proofs.Publics.{words_many}

-- ---- fronts of two acts

same_head : {A : Type 0} (x y : A) (xs ys : List A) → x ∷ xs ≡ y ∷ ys → x ≡ y
same_head x y xs ys e = cc e

same_tail : {A : Type 0} (x y : A) (xs ys : List A) → x ∷ xs ≡ y ∷ ys → xs ≡ ys
same_tail x y xs ys e = cc e

none_cons : {A : Type 0} (x : A) (xs : List A) → [] ≡ x ∷ xs → ⊥
none_cons x xs e = cc e

none_some : (a : LifeAct) → ◌≡◌ {A = Option LifeAct} None (Some a) → ⊥
none_some a e = cc e

same_act : (a b : LifeAct) → ◌≡◌ {A = Option LifeAct} (Some a) (Some b) → a ≡ b
same_act a b e = cc e

pub fronts_of_two : (a b : LifeAct) (xs more : List LifeAct) → a ∷ b ∷ [] ≡ xs ++ more → (xs ≡ []) ⊎ ((xs ≡ a ∷ []) ⊎ (xs ≡ a ∷ b ∷ []))
fronts_of_two a b [] more e = inl refl
fronts_of_two a b (x ∷ []) more e = inr (inl (ap (λ (y : LifeAct). y ∷ []) (sym (same_head a x (b ∷ []) more e))))
fronts_of_two a b (x ∷ y ∷ []) more e =
    let first : a ≡ x = same_head a x (b ∷ []) (y ∷ more) e in
    let second : b ≡ y = same_head b y [] more (same_tail a x (b ∷ []) (y ∷ more) e) in
    inr (inr (λ i. sym first i ∷ sym second i ∷ []))
fronts_of_two a b (x ∷ y ∷ z ∷ xs) more e = absurd (none_cons z (xs ++ more) (same_tail b y [] (z ∷ (xs ++ more)) (same_tail a x (b ∷ []) (y ∷ z ∷ (xs ++ more)) e)))

module _ (made rest : List LifeAct) (in_flight : Option LifeAct) (found : List LifeAct) where
  abbrev IsNext : Type 0
  IsNext = (in_flight ≡ None) ⊎ ((a : LifeAct) × (more : List LifeAct) × (in_flight ≡ Some a) × (rest ≡ a ∷ more))

  abbrev Behind : Type 0
  Behind = (more : List LifeAct) × (made ++ rest ≡ (made ++ found) ++ more)

  behind_none : found ≡ [] → Behind
  behind_none none = (rest, ap (λ (xs : List LifeAct). xs ++ rest) (sym (append-nil made) ∙ ap (λ (xs : List LifeAct). made ++ xs) (sym none)))

  -- what is found of the next act stands behind those that were made
  found_behind : IsNext → Finds in_flight found → Behind
  found_behind next (inl none) = behind_none none
  found_behind (inl idle) (inr (a, flies, is)) = absurd (none_some a (sym idle ∙ flies))
  found_behind (inr (b, more, flying, rest_is)) (inr (a, flies, is)) =
      let same : b ≡ a = same_act b a (sym flying ∙ flies) in
      let own : rest ≡ found ++ more = rest_is ∙ ap (λ (c : LifeAct). c ∷ more) same ∙ ap (λ (xs : List LifeAct). xs ++ more) (sym is) in
      (more, ap (λ (xs : List LifeAct). made ++ xs) own ∙ sym (append_assoc made found more))

none_left : (made found : List LifeAct) (in_flight : Option LifeAct) → made ≡ [] → in_flight ≡ None → Finds in_flight found → made ++ found ≡ []
none_left made found in_flight none idle (inl empty) = (λ i. none i ++ empty i)
none_left made found in_flight none idle (inr (a, flies, is)) = absurd (none_some a (sym idle ∙ flies))

-- so they are the first of the refused call's
pub acts_left : (refused : Option VaultCall) (made found : List LifeAct) (in_flight : Option LifeAct) → AreFirstActs refused made in_flight → Finds in_flight found → AreActsLeft refused (made ++ found)
acts_left None made found in_flight first finds = none_left made found in_flight first.0 first.1 finds
acts_left (Some (Fetch asks)) made found in_flight (rest, are, next) finds =
    let behind = found_behind made rest in_flight found next finds in
    go are.0 (fronts_of_two (Append are.0) ShowBatch (made ++ found) behind.0 (sym are.2 ∙ behind.1))
  where
    go : (r : LifeBatch) → (made ++ found ≡ []) ⊎ ((made ++ found ≡ Append r ∷ []) ⊎ (made ++ found ≡ Append r ∷ ShowBatch ∷ [])) → AreActsLeft (Some (Fetch asks)) (made ++ found)
    go r (inl none) = inl none
    go r (inr some) = inr (r, some)
acts_left (Some (End writes)) made found in_flight (rest, are, next) finds =
    let behind = found_behind made rest in_flight found next finds in
    go are.0 are.1 are.2 (fronts_of_two ShowLifts (EndAct are.0 are.1 are.2) (made ++ found) behind.0 (sym are.3 ∙ behind.1))
  where
    go : (ws : List (ℕ × Option WordId)) (drawn : ℕ) (slot : ℕ → ℕ → ℕ) → (made ++ found ≡ []) ⊎ ((made ++ found ≡ ShowLifts ∷ []) ⊎ (made ++ found ≡ ShowLifts ∷ EndAct ws drawn slot ∷ [])) → AreActsLeft (Some (End writes)) (made ++ found)
    go ws drawn slot (inl none) = inl (inl none)
    go ws drawn slot (inr (inl lifts)) = inl (inr lifts)
    go ws drawn slot (inr (inr all)) = inr (ws, drawn, slot, all)

module _ (p : Params) (word_of : WordId → ℕ) where
  -- ---- slots

  slots_join : (s : LifeState) (xs ys : List LifeAct) → life_slots p word_of s (xs ++ ys) ≡ life_slots p word_of s xs ++ life_slots p word_of (reached p word_of s xs) ys
  slots_join s [] ys = refl
  slots_join s (x ∷ xs) ys =
      ap (λ (l : List SlotFill). slots_shown p word_of s x ++ l) (slots_join (life_step p word_of s x) xs ys)
      ∙ sym (append_assoc (slots_shown p word_of s x) (life_slots p word_of (life_step p word_of s x) xs) (life_slots p word_of (reached p word_of (life_step p word_of s x) xs) ys))

  pub slots_first : (s : LifeState) (xs ys : List LifeAct) (x : SlotFill) → Has (life_slots p word_of s xs) x → Has (life_slots p word_of s (xs ++ ys)) x
  slots_first s xs ys x h = subst (λ (l : List SlotFill). Has l x) (sym (slots_join s xs ys)) (has_left (life_slots p word_of s xs) (life_slots p word_of (reached p word_of s xs) ys) x h)

  pub slots_last : (s : LifeState) (xs ys : List LifeAct) (x : SlotFill) → Has (life_slots p word_of (reached p word_of s xs) ys) x → Has (life_slots p word_of s (xs ++ ys)) x
  slots_last s xs ys x h = subst (λ (l : List SlotFill). Has l x) (sym (slots_join s xs ys)) (has_right (life_slots p word_of s xs) (life_slots p word_of (reached p word_of s xs) ys) x h)

  -- ---- records are whole

  labels_many : (e b i : ℕ) (book : ℕ → Option WordId) (places : List (Option ℕ × WordId)) → length (labels_of e b i book places) ≡ length places
  labels_many e b i book [] = refl
  labels_many e b i book (a ∷ rest) = ap suc (labels_many e b (i + 1) (after_label book a.0 a.1) rest)

  last_many : (e b : ℕ) (book : ℕ → Option WordId) (log : List LifeBatch) (r : LifeBatch) → length (phase_labels p word_of e b book (log ++ r ∷ []) (length log)) ≡ length r.asks
  last_many e b book [] r = labels_many e b 0 book (batch_places r) ∙ words_many r.first r.asks
  last_many e b book (x ∷ log) r = last_many e (b + 1) (book_after book (batch_places x)) log r

  -- one whose batch fills these holes asks for so many places
  pub batch_whole : (s : LifeState) (r : LifeBatch) (asks : List (Option ℕ)) (c : Fills) → s.begun ≡ length s.log → AreFilledBy p word_of s (Append r ∷ ShowBatch ∷ []) (Fetch asks) c → length r.asks ≡ p.places
  batch_whole s r asks c begun filled =
      let shown : List LabelFill = phase_labels p word_of (s.epoch + 1) 0 (s.content).book (s.log ++ r ∷ []) s.begun in
      let many : length (map (λ (l : LabelFill). leaf_of_word p word_of l.word) (shown ++ [])) ≡ length (batch_leaves p c (length s.log)) = ap (λ (l : List ℕ). length l) filled.labels in
      let all : length (shown ++ []) ≡ length r.asks =
      ap (λ (l : List LabelFill). length l) (append-nil shown) ∙ ap (λ (n : ℕ). length (phase_labels p word_of (s.epoch + 1) 0 (s.content).book (s.log ++ r ∷ []) n)) begun ∙ last_many (s.epoch + 1) 0 (s.content).book s.log r in
      sym all ∙ sym (length-map (shown ++ []) (λ (l : LabelFill). leaf_of_word p word_of l.word)) ∙ many ∙ length-map-range_with_len (c.label (length s.log)) 0 p.places

  pub record Sound (s : LifeState) (acts : List LifeAct) : Type 0 where
    pub whole : AreRecordsWhole p acts
    pub ended : IsLife p word_of s acts → AreEndsShown p word_of s acts
    pub begun : (reached p word_of s acts).begun ≡ length (reached p word_of s acts).log

  fetched : (s : LifeState) (r : LifeBatch) (rest : List LifeAct) → length r.asks ≡ p.places → Sound (life_step p word_of (life_step p word_of s (Append r)) ShowBatch) rest → Sound s (Append r ∷ ShowBatch ∷ rest)
  fetched s r rest many later = record { whole = (many, later.whole); ended = λ life. later.ended life.1.1; begun = later.begun }

  ended_then : (s : LifeState) (ws : List (ℕ × Option WordId)) (drawn : ℕ) (slot : ℕ → ℕ → ℕ) (rest : List LifeAct) → Sound (life_step p word_of (life_step p word_of s ShowLifts) (EndAct ws drawn slot)) rest
      → Sound s (ShowLifts ∷ EndAct ws drawn slot ∷ rest)
  ended_then s ws drawn slot rest later = record { whole = later.whole; ended = λ life. ((let all = life.0.1 in omega (arith, all)), later.ended life.1.1); begun = later.begun }

  -- the calls' records are whole, and their ends come behind all their batches
  pub calls_sound : (calls : List VaultCall) (steps : List (Shape × Fills)) (s : LifeState) (acts : List LifeAct) → s.begun ≡ length s.log → AreShownBy p word_of s calls steps acts → Sound s acts
  calls_sound [] [] s acts begun show = subst (λ (xs : List LifeAct). Sound s xs) (sym show) (record { whole = tt; ended = λ life. tt; begun = begun })
  calls_sound [] (step ∷ steps) s acts begun show = absurd show
  calls_sound (call ∷ calls) [] s acts begun show = absurd show
  calls_sound (Fetch asks ∷ calls) (step ∷ steps) s acts begun show =
      let r : LifeBatch = show.3.0 in
      let rest : List LifeAct = show.1 in
      let are : acts ≡ Append r ∷ ShowBatch ∷ rest = show.2 ∙ ap (λ (xs : List LifeAct). xs ++ rest) show.3.2 in
      let filled : AreFilledBy p word_of s (Append r ∷ ShowBatch ∷ []) (Fetch asks) step.1 = subst (λ (xs : List LifeAct). AreFilledBy p word_of s xs (Fetch asks) step.1) show.3.2 show.4 in
      let behind = subst (λ (xs : List LifeAct). AreShownBy p word_of (reached p word_of s xs) calls steps rest) show.3.2 show.5 in
      let longer = length-append s.log (r ∷ []) in
      subst (λ (xs : List LifeAct). Sound s xs) (sym are)
      (fetched s r rest (batch_whole s r asks step.1 begun filled)
      (calls_sound calls steps (life_step p word_of (life_step p word_of s (Append r)) ShowBatch) rest (let more : s.begun + 1 ≡ length (s.log ++ r ∷ []) = omega (arith, begun, longer) in more) behind))
  calls_sound (End writes ∷ calls) (step ∷ steps) s acts begun show =
      let ws = show.3.0 in
      let drawn : ℕ = show.3.1 in
      let slot = show.3.2 in
      let rest : List LifeAct = show.1 in
      let are : acts ≡ ShowLifts ∷ EndAct ws drawn slot ∷ rest = show.2 ∙ ap (λ (xs : List LifeAct). xs ++ rest) show.3.3 in
      let behind = subst (λ (xs : List LifeAct). AreShownBy p word_of (reached p word_of s xs) calls steps rest) show.3.3 show.5 in
      subst (λ (xs : List LifeAct). Sound s xs) (sym are)
      (ended_then s ws drawn slot rest (calls_sound calls steps (life_step p word_of (life_step p word_of s ShowLifts) (EndAct ws drawn slot)) rest refl behind))

  -- ---- acts, one behind the other

  pub life_first : (s : LifeState) (xs ys : List LifeAct) → IsLife p word_of s (xs ++ ys) → IsLife p word_of s xs
  life_first s [] ys life = tt
  life_first s (x ∷ xs) ys life = (life.0, life_first (life_step p word_of s x) xs ys life.1)

  pub life_last : (s : LifeState) (xs ys : List LifeAct) → IsLife p word_of s (xs ++ ys) → IsLife p word_of (reached p word_of s xs) ys
  life_last s [] ys life = life
  life_last s (x ∷ xs) ys life = life_last (life_step p word_of s x) xs ys life.1

  pub whole_join : (xs ys : List LifeAct) → AreRecordsWhole p xs → AreRecordsWhole p ys → AreRecordsWhole p (xs ++ ys)
  whole_join [] ys one two = two
  whole_join (Open g ∷ xs) ys one two = whole_join xs ys one two
  whole_join (Append r ∷ xs) ys one two = (one.0, whole_join xs ys one.1 two)
  whole_join (ShowBatch ∷ xs) ys one two = whole_join xs ys one two
  whole_join (ShowLifts ∷ xs) ys one two = whole_join xs ys one two
  whole_join (EndAct ws drawn slot ∷ xs) ys one two = whole_join xs ys one two

  pub ends_join : (s : LifeState) (xs ys : List LifeAct) → AreEndsShown p word_of s xs → AreEndsShown p word_of (reached p word_of s xs) ys → AreEndsShown p word_of s (xs ++ ys)
  ends_join s [] ys one two = two
  ends_join s (Open g ∷ xs) ys one two = ends_join (life_step p word_of s (Open g)) xs ys one two
  ends_join s (Append r ∷ xs) ys one two = ends_join (life_step p word_of s (Append r)) xs ys one two
  ends_join s (ShowBatch ∷ xs) ys one two = ends_join (life_step p word_of s ShowBatch) xs ys one two
  ends_join s (ShowLifts ∷ xs) ys one two = ends_join (life_step p word_of s ShowLifts) xs ys one two
  ends_join s (EndAct ws drawn slot ∷ xs) ys one two = (one.0, ends_join (life_step p word_of s (EndAct ws drawn slot)) xs ys one.1 two)

  -- ---- and those that are left of a refused call

  pub record LeftSound (acts : List LifeAct) : Type 0 where
    pub whole : AreRecordsWhole p acts
    pub ended : (s : LifeState) → IsLife p word_of s acts → AreEndsShown p word_of s acts

  none_sound : (acts : List LifeAct) → acts ≡ [] → LeftSound acts
  none_sound acts none = subst (λ (xs : List LifeAct). LeftSound xs) (sym none) (record { whole = tt; ended = λ s life. tt })

  batch_sound : (r : LifeBatch) (acts : List LifeAct) → length r.asks ≡ p.places → (acts ≡ []) ⊎ ((acts ≡ Append r ∷ []) ⊎ (acts ≡ Append r ∷ ShowBatch ∷ [])) → LeftSound acts
  batch_sound r acts many (inl none) = none_sound acts none
  batch_sound r acts many (inr (inl one)) = subst (λ (xs : List LifeAct). LeftSound xs) (sym one) (record { whole = (many, tt); ended = λ s life. tt })
  batch_sound r acts many (inr (inr both)) = subst (λ (xs : List LifeAct). LeftSound xs) (sym both) (record { whole = (many, tt); ended = λ s life. tt })

  end_sound : (ws : List (ℕ × Option WordId)) (drawn : ℕ) (slot : ℕ → ℕ → ℕ) (acts : List LifeAct) → (acts ≡ []) ⊎ ((acts ≡ ShowLifts ∷ []) ⊎ (acts ≡ ShowLifts ∷ EndAct ws drawn slot ∷ [])) → LeftSound acts
  end_sound ws drawn slot acts (inl none) = none_sound acts none
  end_sound ws drawn slot acts (inr (inl lifts)) = subst (λ (xs : List LifeAct). LeftSound xs) (sym lifts) (record { whole = tt; ended = λ s life. tt })
  end_sound ws drawn slot acts (inr (inr all)) = subst (λ (xs : List LifeAct). LeftSound xs) (sym all) (record { whole = tt; ended = λ s life. ((let begun = life.0.1 in omega (arith, begun)), tt) })

  pub left_sound : (refused : Option VaultCall) (made found : List LifeAct) (in_flight : Option LifeAct) → ((asks : List (Option ℕ)) → refused ≡ Some (Fetch asks) → length asks ≡ p.places) → AreFirstActs refused made in_flight → Finds in_flight found → LeftSound (made ++ found)
  left_sound None made found in_flight many first finds = none_sound (made ++ found) (none_left made found in_flight first.0 first.1 finds)
  left_sound (Some (Fetch asks)) made found in_flight many (rest, are, next) finds =
      let behind = found_behind made rest in_flight found next finds in
      batch_sound are.0 (made ++ found) (ap (λ (l : List (Option ℕ)). length l) are.1 ∙ many asks refl) (fronts_of_two (Append are.0) ShowBatch (made ++ found) behind.0 (sym are.2 ∙ behind.1))
  left_sound (Some (End writes)) made found in_flight many (rest, are, next) finds =
      let behind = found_behind made rest in_flight found next finds in
      end_sound are.0 are.1 are.2 (made ++ found) (fronts_of_two ShowLifts (EndAct are.0 are.1 are.2) (made ++ found) behind.0 (sym are.3 ∙ behind.1))
