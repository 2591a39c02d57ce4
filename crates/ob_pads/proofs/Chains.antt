-- Acts behind acts, and chains of calls as acts.
use Rattle.std.proofs.Common.{◌≡◌, ℕ, List, [], ◌∷◌, ◌++◌, Some, map, refl, sym, ap, subst, ◌∙◌}
use Rattle.ob_store.specs.declared.watch.Note.{Note}
use Rattle.ob_store.specs.Disk.{Disk}
use Rattle.ob_seal.specs.declared.keys.Keys.{Keys}
use Rattle.ob_seal.specs.Sealing.{Sealing}
use Rattle.ob_serial.specs.Vaults.{VaultCall, VaultAnswer, Values, Ended, RefusedBy, DoubtBy}
use Rattle.ob_serial.specs.VaultKinds.{Kind, AllCalled}
use Rattle.ob_pads.specs.Lives.{StoreAct, Opened, Unopened, Answered, Crashed, At, after_act, after_acts, answers_of, number_behind, AreUncrashed, Opens, LeavesUnopened, Answers, IsLife, LivesOn, LivesTo}
use Rattle.ob_pads.specs.Laws.{AllServed, NoneServed}

pub answers_join : {S : Type 0} (xs ys : List (StoreAct S)) → answers_of (xs ++ ys) ≡ answers_of xs ++ answers_of ys
answers_join [] ys = refl
answers_join (Opened store sealing ∷ xs) ys = answers_join xs ys
answers_join (Unopened store ∷ xs) ys = answers_join xs ys
answers_join (Answered store sealing answer ∷ xs) ys = ap (λ (l : List VaultAnswer). answer ∷ l) (answers_join xs ys)
answers_join (Crashed store ∷ xs) ys = answers_join xs ys

pub uncrashed_join : {S : Type 0} (xs ys : List (StoreAct S)) → AreUncrashed xs → AreUncrashed ys → AreUncrashed (xs ++ ys)
uncrashed_join [] ys first more = more
uncrashed_join (Opened store sealing ∷ xs) ys first more = uncrashed_join xs ys first more
uncrashed_join (Unopened store ∷ xs) ys first more = uncrashed_join xs ys first more
uncrashed_join (Answered store sealing answer ∷ xs) ys first more = uncrashed_join xs ys first more
uncrashed_join (Crashed store ∷ xs) ys first more = absurd first

pub after_join : {S : Type 0} (at : At S) (xs ys : List (StoreAct S)) → after_acts at (xs ++ ys) ≡ after_acts (after_acts at xs) ys
after_join at [] ys = refl
after_join at (act ∷ xs) ys = after_join (after_act at act) xs ys

module _ {S : Type 0} (disk : S → Disk) (keys : Keys) where
  pub lives_join : (at : At S) (first more : List (StoreAct S)) → IsLife disk keys at first → IsLife disk keys (after_acts at first) more → IsLife disk keys at (first ++ more)
  lives_join at [] more life rest = rest
  lives_join at (act ∷ first) more life rest = (life.0, lives_join (after_act at act) first more life.1 rest)

  pub runs_join : (a b c : S) (first more : List VaultAnswer) → LivesOn disk keys a b first → LivesOn disk keys b c more → LivesOn disk keys a c (first ++ more)
  runs_join a b c first more one two = record {
    acts = one.acts ++ two.acts;
    uncrashed = uncrashed_join one.acts two.acts one.uncrashed two.uncrashed;
    answers_are = answers_join one.acts two.acts ∙ ap (λ (l : List VaultAnswer). l ++ answers_of two.acts) one.answers_are ∙ ap (λ (l : List VaultAnswer). first ++ l) two.answers_are;
    life = λ at here. lives_join at one.acts two.acts (one.life at here) (two.life (after_acts at one.acts) (one.ends at here));
    ends = λ at here. ap (λ (x : At S). x.store) (after_join at one.acts two.acts) ∙ two.ends (after_acts at one.acts) (one.ends at here);
  }

  pub unopened_lives : (old new : S) → LeavesUnopened keys (disk old) (disk new) → LivesOn disk keys old new []
  unopened_lives old new leaves = record {
    acts = Unopened new ∷ [];
    uncrashed = tt;
    answers_are = refl;
    life = λ at here. (subst (λ (x : S). LeavesUnopened keys (disk x) (disk new)) (sym here) leaves, tt);
    ends = λ at here. refl;
  }

module _ {V S : Type 0} (kind : Kind V) (disk : S → Disk) (store : V → S) (sealing : V → Sealing)
    (each : (v w : V) (call : VaultCall) (answer : VaultAnswer) (notes : List Note) → kind.called v call answer notes w → (disk (store w)).tells → Answers (disk (store v)) (disk (store w)) (sealing v) (sealing w) answer)
    (keys : Keys) where
  -- a store told its cells before a chain, where it does behind it
  pub told_first : (first last : V) (steps : List (VaultCall × VaultAnswer)) → (disk (store last)).tells → AllCalled kind first steps last → (disk (store first)).tells
  told_first first last [] tells same = subst (λ (x : V). (disk (store x)).tells) same tells
  told_first first last (step ∷ steps) tells (mid, one, more) =
      let told = told_first mid last steps tells more in
      (each first mid step.0 step.1 one.notes one.called told).goes.told told

  -- the acts of a chain
  pub record ChainLives (first last : V) (answers : List VaultAnswer) : Type 0 where
    pub acts : List (StoreAct S)
    pub uncrashed : AreUncrashed acts
    pub answers_are : answers_of acts ≡ answers
    pub life : (at : At S) → at.store ≡ store first → at.sealing ≡ Some (sealing first) → IsLife disk keys at acts
    pub ends : (at : At S) → at.store ≡ store first → (after_acts at acts).store ≡ store last

  pub chain_lives : (first last : V) (steps : List (VaultCall × VaultAnswer)) → (disk (store last)).tells → AllCalled kind first steps last → ChainLives first last (map (λ s. s.1) steps)
  chain_lives first last [] tells same = record {
    acts = [];
    uncrashed = tt;
    answers_are = refl;
    life = λ at here seals. tt;
    ends = λ at here. here ∙ ap store (sym same);
  }
  chain_lives first last (step ∷ steps) tells (mid, one, more) =
      let rest = chain_lives mid last steps tells more in
      let act = each first mid step.0 step.1 one.notes one.called (told_first mid last steps tells more) in
      record {
        acts = Answered (store mid) (sealing mid) step.1 ∷ rest.acts;
        uncrashed = rest.uncrashed;
        answers_are = ap (λ (l : List VaultAnswer). step.1 ∷ l) rest.answers_are;
        life = λ at here seals. (
          (sealing first, seals, subst (λ (x : S). Answers (disk x) (disk (store mid)) (sealing first) (sealing mid) step.1) (sym here) act),
          rest.life (after_act at (Answered (store mid) (sealing mid) step.1)) refl refl,
        );
        ends = λ at here. rest.ends (after_act at (Answered (store mid) (sealing mid) step.1)) refl;
      }

  pub chain_runs : (old : S) (first last : V) (steps : List (VaultCall × VaultAnswer)) → (disk (store last)).tells → ((disk (store first)).tells → Opens keys (disk old) (disk (store first)) (sealing first))
      → AllCalled kind first steps last → LivesOn disk keys old (store last) (map (λ s. s.1) steps)
  chain_runs old first last steps tells opens called =
      let rest = chain_lives first last steps tells called in
      let act : StoreAct S = Opened (store first) (sealing first) in
      record {
        acts = act ∷ rest.acts;
        uncrashed = rest.uncrashed;
        answers_are = rest.answers_are;
        life = λ at here. (
          subst (λ (x : S). Opens keys (disk x) (disk (store first)) (sealing first)) (sym here) (opens (told_first first last steps tells called)),
          rest.life (after_act at act) refl refl,
        );
        ends = λ at here. rest.ends (after_act at act) refl;
      }

  -- calls that weren't answered take the number no further
  none_numbered : (n : ℕ) (first last : V) (steps : List (VaultCall × VaultAnswer)) (tells : (disk (store last)).tells) (called : AllCalled kind first steps last) → NoneServed steps
      → number_behind n (chain_lives first last steps tells called).acts ≡ n
  unfolding chain_lives
  none_numbered n first last [] tells same none = refl
  none_numbered n first last ((call, Values values) ∷ steps) tells (mid, one, more) none = absurd none
  none_numbered n first last ((call, Ended) ∷ steps) tells (mid, one, more) none = absurd none
  none_numbered n first last ((call, RefusedBy fault) ∷ steps) tells (mid, one, more) none = none_numbered n mid last steps tells more none
  none_numbered n first last ((call, DoubtBy fault) ∷ steps) tells (mid, one, more) none = none_numbered n mid last steps tells more none

  -- a chain behind a chain
  chains_join : (first mid last : V) (front rest : List (VaultCall × VaultAnswer)) → AllCalled kind first front mid → AllCalled kind mid rest last → AllCalled kind first (front ++ rest) last
  chains_join first mid last [] rest same more = subst (λ (x : V). AllCalled kind x rest last) same more
  chains_join first mid last (step ∷ front) rest (next, one, called) more = (next, one, chains_join next mid last front rest called more)

  numbered : (first mid last : V) (front rest : List (VaultCall × VaultAnswer)) (tells : (disk (store last)).tells) (called : AllCalled kind first front mid) (more : AllCalled kind mid rest last)
      → AllServed front → NoneServed rest → number_behind (sealing first).next (chain_lives first last (front ++ rest) tells (chains_join first mid last front rest called more)).acts ≡ (sealing mid).next
  unfolding chain_lives chains_join
  numbered first mid last [] rest tells same more all none =
      none_numbered (sealing first).next first last rest tells (chains_join first mid last [] rest same more) none ∙ ap (λ (x : V). (sealing x).next) (sym same)
  numbered first mid last ((call, Values values) ∷ front) rest tells (next, one, called) more all none = numbered next mid last front rest tells called more all none
  numbered first mid last ((call, Ended) ∷ front) rest tells (next, one, called) more all none = numbered next mid last front rest tells called more all none
  numbered first mid last ((call, RefusedBy fault) ∷ front) rest tells (next, one, called) more all none = absurd all
  numbered first mid last ((call, DoubtBy fault) ∷ front) rest tells (next, one, called) more all none = absurd all

  pub numbered_runs : (old : S) (first mid last : V) (front rest : List (VaultCall × VaultAnswer)) → (disk (store last)).tells → ((disk (store first)).tells → Opens keys (disk old) (disk (store first)) (sealing first))
      → AllCalled kind first front mid → AllServed front → AllCalled kind mid rest last → NoneServed rest → LivesTo disk keys old (store last) (map (λ s. s.1) (front ++ rest)) (sealing mid).next
  unfolding chain_runs
  numbered_runs old first mid last front rest tells opens called all more none = record {
    lives = chain_runs old first last (front ++ rest) tells opens (chains_join first mid last front rest called more);
    number_is = numbered first mid last front rest tells called more all none;
  }
