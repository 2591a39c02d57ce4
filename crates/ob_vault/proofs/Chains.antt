-- A chain of calls is a life's.
use Rattle.std.specs.Prelude.{◌≡◌, ℕ, List, [], ◌∷◌, ◌++◌}
use Rattle.std.proofs.Common.{arith, length-append, refl, sym, ap, subst, ◌∙◌, append_assoc}
use Rattle.std.proofs.lemmas.List.{append-nil, get_or_append_left}
use Rattle.ob_base.specs.declared.params.Params.{Params}
use Rattle.ob_fetch.specs.Fetches.{words_since}
use Rattle.ob_recover.proofs.Pads.{life_goes_on}
use Rattle.ob_recover.specs.Life.{IsLife, LifeAct, LifeState, WordId, life_step, reached}
use Rattle.ob_vault.specs.SealActs.{IsRingVault}
use Rattle.ob_vault.proofs.SealCalls.{kept_by}
use Rattle.ob_vault.specs.RingVaults.{Running}
use Rattle.ob_serial.specs.VaultKinds.{AllCalled, Kind}
use Rattle.ob_serial.specs.Vaults.{VaultAnswer, VaultCall}
use Rattle.ob_store.specs.Disk.{Clock, Disk, Image, NotAfter}
use Rattle.ob_vault.proofs.Calls.{call_lives}
use Rattle.ob_vault.specs.Acts.{AreAllAnswered, AreTapeWords, LeadsInLife, RunsInLife}

reached_join : (p : Params) (word_of : WordId → ℕ) (s : LifeState) (xs ys : List LifeAct) → reached p word_of s (xs ++ ys) ≡ reached p word_of (reached p word_of s xs) ys
reached_join p word_of s [] ys = refl
reached_join p word_of s (x ∷ xs) ys = reached_join p word_of (life_step p word_of s x) xs ys

-- the words of a front of what was drawn
front_words : (word_of : WordId → ℕ) (g : ℕ) (drawn more : List ℕ) → AreTapeWords word_of g (drawn ++ more) → AreTapeWords word_of g drawn
front_words word_of g drawn more all i lt = all i (omega (arith, lt, length-append {A = ℕ})) ∙ get_or_append_left drawn more 0 i lt

module _ {V S : Type 0} (kind : Kind V) (disk : S → Disk) (counts_now : (x : S) (t : Clock) (c : Image) → NotAfter t (disk x).moment → (disk x).may_leave c → (disk x).left_since t c)
    (only_now : (x : S) (c : Image) → (disk x).left_since (disk x).moment c → (disk x).may_leave c) (runs : V → Running S) (ring : IsRingVault kind disk runs)
    (word_of : WordId → ℕ) where
  -- what a chain draws stands behind what was drawn before, in one generation
  record IsLater (old new : Running S) : Type 0 where
    more : List ℕ
    words : new.drawn ≡ old.drawn ++ more
    generation : ((new.run).sealer).generation ≡ ((old.run).sealer).generation
    params : (new.run).params ≡ (old.run).params

  later : (steps : List (VaultCall × VaultAnswer)) (first last : V) → AllCalled kind first steps last → IsLater (runs first) (runs last)
  later [] first last same = record {
    more = [];
    words = ap (λ (v : V). (runs v).drawn) same ∙ sym (append-nil (runs first).drawn);
    generation = ap (λ (v : V). (((runs v).run).sealer).generation) same;
    params = ap (λ (v : V). ((runs v).run).params) same;
  }
  later (step ∷ steps) first last called =
      let mid = called.0 in
      let does = ring first mid step.0 step.1 (called.1).notes (called.1).called in
      let kept = kept_by disk (runs first) (runs mid) (called.1).notes step.0 step.1 does in
      let rest = later steps mid last called.2 in
      record {
        more = words_since (runs first).drawn (runs mid).drawn ++ rest.more;
        words = rest.words ∙ ap (λ (l : List ℕ). l ++ rest.more) kept.grows ∙ append_assoc (runs first).drawn (words_since (runs first).drawn (runs mid).drawn) rest.more;
        generation = rest.generation ∙ kept.generation;
        params = rest.params ∙ kept.params;
      }

  pub chain_lives : (last : V) (steps : List (VaultCall × VaultAnswer)) (s : LifeState) (first : V) → RunsInLife word_of s (runs first).run (disk (runs first).store) → AreTapeWords word_of (((runs first).run).sealer).generation (runs last).drawn → AllCalled kind first steps last
      → AreAllAnswered steps → LeadsInLife ((runs first).run).params word_of s (runs last).run (disk (runs last).store)
  chain_lives last [] s first at tape same answered = record { acts = []; is_life = tt; runs = subst (λ (v : V). RunsInLife word_of s (runs v).run (disk (runs v).store)) (sym same) at }
  chain_lives last (step ∷ steps) s first at tape called answered =
      let mid = called.0 in
      let p = ((runs first).run).params in
      let does = ring first mid step.0 step.1 (called.1).notes (called.1).called in
      let kept = kept_by disk (runs first) (runs mid) (called.1).notes step.0 step.1 does in
      let ahead = later steps mid last called.2 in
      let words_then : AreTapeWords word_of (((runs mid).run).sealer).generation (runs last).drawn = subst (λ g. AreTapeWords word_of g (runs last).drawn) (sym kept.generation) tape in
      let words_now : AreTapeWords word_of (((runs first).run).sealer).generation (runs mid).drawn =
      front_words word_of (((runs first).run).sealer).generation (runs mid).drawn ahead.more (subst (λ (l : List ℕ). AreTapeWords word_of (((runs first).run).sealer).generation l) ahead.words tape) in
      let one = call_lives disk word_of s (runs first) (runs mid) (called.1).notes (counts_now (runs mid).store) (only_now (runs first).store) step.0 step.1 at words_now does in
      let then : LifeState = reached p word_of s one.made in
      let rest = chain_lives last steps then mid (one.onward answered.0) words_then called.2 answered.1 in
      let rest_life : IsLife p word_of then rest.acts = subst (λ (q : Params). IsLife q word_of then rest.acts) kept.params rest.is_life in
      record {
        acts = one.made ++ rest.acts;
        is_life = life_goes_on p word_of s one.made rest.acts (one.law).is_life rest_life;
        runs = subst (λ (t : LifeState). RunsInLife word_of t (runs last).run (disk (runs last).store)) (sym (reached_join p word_of s one.made rest.acts))
            (subst (λ (q : Params). RunsInLife word_of (reached q word_of then rest.acts) (runs last).run (disk (runs last).store)) kept.params rest.runs);
      }
