-- Worked lives of a small ring store, of two batches an epoch, as steps of its course; and steps that there are not.
use Rattle.std.proofs.Common.{inl, ◌≡◌, inr, ℕ, suc, ◌+◌, ◌<◌, ◌≤◌, List, [], ◌∷◌, ◌++◌, length, map, Option, Some, None, refl, sym, ap, subst, ◌∙◌, arith}
use Rattle.std.proofs.lemmas.Option.{same_Some}
use Rattle.ob_base.specs.declared.params.Params.{Params}
use Rattle.ob_tables.specs.Rank.{IsRanking}
use Rattle.ob_seal.specs.Sealing.{Sealing}
use Rattle.ob_serial.specs.Vaults.{Fetch, Standing}
use Rattle.ob_recover.proofs.FreshLaws.{lives_are_fresh}
use Rattle.ob_recover.specs.Calls.{Finds}
use Rattle.ob_recover.specs.Life.{Append, End, HolesAreFresh, IsLife, LabelFill, LifeAct, LifeBatch, Open, ShowBatch, ShowLifts, WordId, formatted_life, leaf_of_word, life_labels, life_slots, SlotFill}
use Rattle.ob_vault.specs.Shown.{AreActsOf}
use Rattle.ob_vault.specs.Lives.{AreFirstActs, opening_acts}
use Rattle.ob_ring_world.proofs.Sounding.{behind_rises, life_front}
use Rattle.ob_seal.specs.declared.keys.Keys.{Keys}
use Rattle.ob_world.specs.Headlines.{Headline}
use Rattle.ob_world.specs.Worlds.{first_world}
use Rattle.ob_desk.specs.Desk.{setup_of}
use Rattle.ob_ring_world.specs.RingCourses.{RingPromises, ring_course}
use Rattle.ob_ring_world.specs.Pasts.{formatted_past, IsRowFilled, RingPast, ShownRow, row_leaves, state_behind}
use Rattle.ob_ring_world.specs.Steps.{IsOpenedBy}

abbrev pub two_batches : Params
two_batches = record {
  keys = 8;
  levels = 2;
  real = 2;
  dummies = 3;
  batches = 2;
  places = 2;
  writes = 2;
  evictions = 2;
  room = 8;
  in_range = record {
    some_keys = omega arith;
    few_keys = omega arith;
    some_levels = omega arith;
    few_levels = omega arith;
    some_real = omega arith;
    few_real = omega arith;
    some_dummies = omega arith;
    few_dummies = omega arith;
    some_batches = omega arith;
    few_batches = omega arith;
    some_places = omega arith;
    few_places = omega arith;
    some_writes = omega arith;
    few_writes = omega arith;
    some_evictions = omega arith;
    few_evictions = omega arith;
    some_room = omega arith;
    few_room = omega arith;
    keys_fit = omega arith;
  };
}

-- a word is its place
abbrev pub words : WordId → ℕ
words w = w.place

abbrev pub slots : ℕ → ℕ → ℕ
slots u j = j

abbrev leaf : LabelFill → ℕ
leaf l = leaf_of_word two_batches words l.word

pub slots_ranked : (u : ℕ) → IsRanking (two_batches.real + two_batches.dummies) (slots u)
slots_ranked u = record { within = λ j lt. lt; apart = λ i j a b same. same; onto = λ s lt. (s, lt, refl) }

-- ---- a batch, a crash inside the next one behind its record's gate, and an opening that shows both again

abbrev pub asks : List (Option ℕ)
asks = None ∷ None ∷ []

abbrev pub first_batch : LifeBatch
first_batch = record { asks = asks; first = record { generation = 2; place = 0 } }

abbrev pub second_batch : LifeBatch
second_batch = record { asks = asks; first = record { generation = 2; place = 2 } }

abbrev pub shown : List LifeAct
shown = Open 2 ∷ Append first_batch ∷ ShowBatch ∷ []

abbrev pub found : List LifeAct
found = Append second_batch ∷ []

abbrev pub again : List LifeAct
again = Open 3 ∷ ShowBatch ∷ ShowBatch ∷ []

abbrev pub label : ℕ → ℕ → ℕ → LabelFill
label batch place word = record { epoch = 1; batch = batch; place = place; word = record { generation = 2; place = word } }

-- the record is in flight when the call is cut off, and the opening finds it
pub cut_in_flight : AreFirstActs (Some (Fetch asks)) [] (Some (Append second_batch))
cut_in_flight = (Append second_batch ∷ ShowBatch ∷ [], (second_batch, refl, refl), inr (Append second_batch, ShowBatch ∷ [], refl, refl))

pub record_is_found : Finds (Some (Append second_batch)) found
record_is_found = inr (Append second_batch, refl, refl)

pub both_again : opening_acts (state_behind two_batches words slots (shown ++ found)) ≡ again
both_again = refl

pub row_is_life : IsLife two_batches words (formatted_life slots) ((shown ++ found) ++ again)
row_is_life = (omega arith, ((omega arith, refl, omega arith), (omega arith, ((omega arith, refl, omega arith), (omega arith, (omega arith, (omega arith, tt)))))))

-- the labels of the first batch are shown twice the same
pub first_labels : life_labels two_batches words (formatted_life slots) shown ≡ label 0 0 0 ∷ label 0 1 1 ∷ []
first_labels = refl

pub labels_again : life_labels two_batches words (state_behind two_batches words slots (shown ++ found)) again ≡ (label 0 0 0 ∷ label 0 1 1 ∷ []) ++ (label 1 0 2 ∷ label 1 1 3 ∷ [])
labels_again = refl

pub row_is_fresh : HolesAreFresh (life_labels two_batches words (formatted_life slots) ((shown ++ found) ++ again)) (life_slots two_batches words (formatted_life slots) ((shown ++ found) ++ again))
row_is_fresh = lives_are_fresh two_batches words slots ((shown ++ found) ++ again) (omega arith) slots_ranked row_is_life

-- ---- steps that there are not

module _ (p : Params) (word_of : WordId → ℕ) (slot : ℕ → ℕ → ℕ) where
  -- an opening in the generation found, or an earlier one
  pub opening_in_found_generation : (past : RingPast) (at : Standing) (new : RingPast) (s : Sealing) → IsOpenedBy p word_of slot past at new → new.sealer ≡ Some s → s.generation ≤ (state_behind p word_of slot past.acts).generation → ⊥
  opening_in_found_generation past at new s o is low =
      let before : List LifeAct = past.acts ++ o.found in
      let life : IsLife p word_of (formatted_life slot) (before ++ o.row.acts) = subst (λ (l : List LifeAct). IsLife p word_of (formatted_life slot) (l ++ o.row.acts)) o.before o.filled.is_life in
      let up = behind_rises p word_of slot past.acts o.found (life_front p word_of (formatted_life slot) before o.row.acts life) in
      let same : s ≡ o.sealing = same_Some s o.sealing (sym is ∙ ap (λ (x : RingPast). x.sealer) o.state) in
      let gen : s.generation ≡ suc (state_behind p word_of slot before).generation = ap (λ (x : Sealing). x.generation) same ∙ o.generation in
      omega (arith, gen, up, low)

-- a repeat with another word's leaf in its second place
pub repeat_with_other_words : (row : ShownRow) → row.before ≡ shown ++ found → row.acts ≡ again → row_leaves two_batches 2 row.kind row.fills ≡ 0 ∷ 0 ∷ 2 ∷ 3 ∷ [] → IsRowFilled two_batches words slots row → ⊥
repeat_with_other_words row before acts leaves filled =
    let so : map leaf (life_labels two_batches words (state_behind two_batches words slots (shown ++ found)) again) ≡ row_leaves two_batches 2 row.kind row.fills =
    subst (λ (l : List LifeAct). map leaf (life_labels two_batches words (state_behind two_batches words slots (shown ++ found)) l) ≡ row_leaves two_batches 2 row.kind row.fills) acts
    (subst (λ (l : List LifeAct). map leaf (life_labels two_batches words (state_behind two_batches words slots l) row.acts) ≡ row_leaves two_batches (length (state_behind two_batches words slots l).log) row.kind row.fills) before filled.labels) in
    let is : ◌≡◌ {A = List ℕ} (0 ∷ 1 ∷ 2 ∷ 3 ∷ []) (0 ∷ 0 ∷ 2 ∷ 3 ∷ []) = so ∙ leaves in
    cc

-- a batch that is shown before its record is in the log
pub shown_before_record : IsLife two_batches words (formatted_life slots) (Open 2 ∷ ShowBatch ∷ []) → ⊥
shown_before_record life = (let begun : 0 < 0 = life.1.0 in omega (arith, begun))

pub shown_without_record : AreActsOf (Fetch asks) (ShowBatch ∷ []) → ⊥
shown_without_record (b, same, is) = cc

-- an end with a word that its batch has drawn
pub end_of_old_words : (drawn : ℕ) (slot : ℕ → ℕ → ℕ) → IsLife two_batches words (formatted_life slots) (Open 2 ∷ Append first_batch ∷ ShowBatch ∷ Append second_batch ∷ ShowBatch ∷ ShowLifts ∷ End ((5, Some (record { generation = 2; place = 0 })) ∷ []) drawn slot ∷ []) → ⊥
end_of_old_words drawn slot life =
    let ends = life.1.1.1.1.1.1.0 in
    let word = ends.2.0 in
    let is : record { generation = 2; place = 0 } ≡ word = ends.2.1 in
    let late : 4 ≤ word.place = ends.2.3 in
    let place : 0 ≡ word.place = ap (λ (w : WordId). w.place) is in
    omega (arith, late, place)

-- ---- without its premises a law says nothing

-- a past that began with a pad twice
abbrev pub began_badly : RingPast
began_badly = record (formatted_past two_batches 0) { pads = (1, 0) ∷ (1, 0) ∷ [] }

pub soundness_is_wanted : (keys : Keys) (kept : RingPromises keys two_batches words slots) (at : Standing)
    → Headline (ring_course keys two_batches words slots kept) (first_world (setup_of two_batches) [] at 0 began_badly) [] (first_world (setup_of two_batches) [] at 0 began_badly) → ⊥
soundness_is_wanted keys kept at h = h.pads.0 (inl refl)

-- a format that gave every index of a bucket one slot
abbrev pub one_slot : ℕ → ℕ → ℕ
one_slot u j = 0

pub order_is_wanted : IsLife two_batches words (formatted_life one_slot) shown × (HolesAreFresh (life_labels two_batches words (formatted_life one_slot) shown) (life_slots two_batches words (formatted_life one_slot) shown) → ⊥)
order_is_wanted = (
  (omega arith, ((omega arith, refl, omega arith), (omega arith, tt))),
  λ h. (let e = h.slots_apart _ _ (inl refl) (inr (inr (inr (inl refl)))) refl refl refl in let n : ◌≡◌ {A = ℕ} 0 1 = ap (λ (x : SlotFill). x.number) e in omega (arith, n)),
)
