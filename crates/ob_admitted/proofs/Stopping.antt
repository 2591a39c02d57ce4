-- What is found behind an opening that stopped.
use Rattle.std.specs.Prelude.{◌≡◌, ◌<◌, ◌≤◌, ◌⊎◌, ℕ, ◌+◌, ◌-◌, Bool, true, false, cond, List, ◌∷◌, length}
use Rattle.std.proofs.Common.{zero, suc, arith, refl, sym, ap, ◌∙◌, subst, inl, inr}
use Rattle.std.proofs.lemmas.Bool.{lt-ltb}
use Rattle.ob_base.specs.declared.params.Params.{Params}
use Rattle.ob_schedule.specs.Schedule.{record_notes}
use Rattle.ob_recover.specs.Calls.{repeated}
use Rattle.ob_recover.specs.Life.{WordId, LifeAct, LifeState, Open, life_step, reached}
use Rattle.ob_vault.proofs.OpenedRun.{IsFurther, further}
use Rattle.ob_histories.specs.Fills.{AllFills}
use Rattle.ob_histories.specs.Histories.{AreRecordsLeft, IsBatchLeft, IsEndLeft, IsGateLeft, IsGenerationLeft, IsTurnLeft}
use Rattle.ob_histories.specs.Runs.{HistoryTurn, RunFound, first_turn, notes_of_turn, opening_step, turn_behind}
use Rattle.ob_admitted.specs.Between.{AreOpeningActs, IsOpeningFoundAsShown, OpeningsLeaveHistories, RepeatsLeaveHistories}
use Rattle.ob_admitted.specs.Wholes.{found_of_life}
use Rattle.ob_admitted.proofs.Betweens.{turns_pass}
use Rattle.ob_admitted.proofs.Wholes.{turn_at}

generation_left : (x y : RunFound) (lacking : ℕ) → (y.generation ≡ x.generation) ⊎ (y.generation ≡ suc x.generation) → (y.generation ≡ suc x.generation → (lacking ≡ 0) × (y.generation_gate ≡ true)) → (lacking ≡ 0 → y.generation ≡ suc x.generation)
    → (y.generation ≡ x.generation → IsGateLeft x.generation_gate lacking y.generation_gate) → IsGenerationLeft x lacking y
generation_left x y zero either shown surely gate = (surely refl, (shown (surely refl)).1)
generation_left x y (suc lacking) (inl same) shown surely gate = (same, gate same)
generation_left x y (suc lacking) (inr next) shown surely gate = (let none = (shown next).0 in absurd (omega (arith, none)))

module _ (p : Params) (word_of : WordId → ℕ) (f : AllFills) (s : LifeState) (found next : ℕ → Bool) where
  abbrev x : RunFound
  x = found_of_life p s found

  abbrev Found : List LifeAct → RunFound
  Found made = found_of_life p (reached p word_of s made) next

  -- what the acts leave of a life
  pub record Stays (made : List LifeAct) : Type 0 where
    pub epoch : (Found made).epoch ≡ x.epoch
    pub records : (Found made).records ≡ x.records
    pub generation : ((Found made).generation ≡ x.generation) ⊎ ((Found made).generation ≡ suc x.generation)

  abbrev on : (n : ℕ) → IsFurther (life_step p word_of s (Open (suc s.generation))) (reached p word_of (life_step p word_of s (Open (suc s.generation))) (repeated n)) n
  on n = further p word_of (life_step p word_of s (Open (suc s.generation))) n

  stays : (made : List LifeAct) → AreOpeningActs s made → Stays made
  stays made (inl none) = subst (λ (xs : List LifeAct). Stays xs) (sym none) (record { epoch = refl; records = refl; generation = inl refl })
  stays made (inr (n, are)) = subst (λ (xs : List LifeAct). Stays xs) (sym are) (record { epoch = (on n).epoch; records = ap length (on n).log; generation = inr (on n).generation })

  stopped : (count : ℕ) (made : List LifeAct) → AreOpeningActs s made → (is : IsOpeningFoundAsShown p f x count (Found made)) → IsGenerationLeft x (length (opening_step p f false x) - count) (Found made)
  stopped count made acts is = generation_left x (Found made) (length (opening_step p f false x) - count) (stays made acts).generation
      (λ set. (let few = (is.shown set).0 in omega (arith, few), (is.shown set).1)) (λ all. is.surely (omega (arith, all))) is.gate

  repeating : (whole count repeats : ℕ) → whole < length s.log → length s.log ≤ p.batches → (Found (Open (suc s.generation) ∷ repeated repeats)).epoch_gate ≡ x.epoch_gate
      → IsTurnLeft p f (turn_behind p (first_turn x) whole) count (Found (Open (suc s.generation) ∷ repeated repeats))
  repeating whole count repeats few room gate =
      let y : RunFound = Found (Open (suc s.generation) ∷ repeated repeats) in
      let t : HistoryTurn = turn_at p f s.epoch x.records x.epoch_gate whole in
      let none : whole + 0 ≡ whole = omega arith in
      let same : 0 + whole ≡ whole = omega arith in
      let turn : turn_behind p (first_turn x) whole ≡ t =
      ap (λ (k : ℕ). turn_behind p (first_turn x) k) (sym none) ∙ turns_pass p f s.epoch x.records x.epoch_gate whole 0 0 (omega (arith, few, room)) ∙ ap (λ (b : ℕ). turn_at p f s.epoch x.records x.epoch_gate b) same in
      subst (λ (u : HistoryTurn). IsTurnLeft p f u count y) (sym turn)
      (subst (λ (b : Bool). cond b (IsBatchLeft p t count y) (IsEndLeft p t (length (notes_of_turn p f t) - count) y)) (sym (lt-ltb whole p.batches (omega (arith, few, room))))
      ((on repeats).epoch, gate, subst (λ (b : Bool). cond b (y.records ≡ x.records) (AreRecordsLeft whole (length (record_notes p 0 whole) - count) y.records)) (sym (lt-ltb whole x.records few)) (ap length (on repeats).log)))

pub openings_leave : OpeningsLeaveHistories
openings_leave p word_of f s found next count made acts is =
    ((stays p word_of f s found next made acts).epoch, is.epoch_gate, (stays p word_of f s found next made acts).records, stopped p word_of f s found next count made acts is)

pub repeats_leave : RepeatsLeaveHistories
repeats_leave p word_of f s found next whole count repeats few room stays_open gate =
    ((on p word_of f s found next repeats).generation, stays_open, repeating p word_of f s found next whole count repeats few room gate)
