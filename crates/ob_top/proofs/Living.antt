-- The head's read, the opening and the vault's calls, as acts of the store's life.
use Rattle.std.proofs.Common.{◌≡◌, ◌∙◌, ◌⊎◌, ℕ, suc, List, [], ◌∷◌, ◌++◌, Option, Some, None, ap, inl, inr, refl, subst, sym}
use Rattle.ob_store.specs.Disk.{Disk, Image}
use Rattle.ob_store.specs.Images.{LeavesOnly, Same, Passes}
use Rattle.ob_store.specs.Calls.{GoesOn, Keeps}
use Rattle.ob_store.proofs.Moments.{leaves_of}
use Rattle.ob_seal.specs.declared.keys.Keys.{Keys}
use Rattle.ob_seal.specs.Sealing.{Sealing}
use Rattle.ob_serial.specs.Vaults.{DoubtBy, Ended, RefusedBy, Values, VaultAnswer}
use Rattle.ob_pads.specs.Lives.{Answered, At, Crashed, IsAtGeneration, IsLife, LeavesUnopened, LivesOn, LivesTo, Opened, Opens, StoreAct, Unopened, after_act, after_acts, answers_of, formatted_at, number_behind}
use Rattle.ob_pads.proofs.Chains.{after_join, answers_join, lives_join, runs_join, uncrashed_join, unopened_lives}
use Rattle.ob_twin.proofs.Clear.{both_clear, clear_but, none_clear}
use Rattle.ob_twin.specs.Clear.{AreInClear}
use Rattle.ob_twin.specs.Keyed.{tagging}
use Rattle.ob_conduct.specs.declared.run_err.RunErr.{RunErr}
use Rattle.ob_top.specs.Parts.{IsInClearBehind}
use Rattle.ob_top.specs.Runs.{IsReadAndOpened, LivesBehind, LivesUnserved}

module _ {S : Type 0} (disk : S → Disk) (only : (store : S) (c : Image) → (disk store).left_since (disk store).moment c → (disk store).may_leave c) (keys : Keys) (old mid : S) (goes : GoesOn (disk old) (disk mid)) (keeps : Keeps (disk old) (disk mid))
    (passes : Passes Same (disk old) (disk mid)) where
  -- what a read leaves, from a generation on
  abbrev Left : ℕ → Image → Type 0
  Left g c = (disk old).may_leave c ⊎ (IsAtGeneration keys g c ⊎ IsAtGeneration keys (suc g) c)

  reads_leave : (g : ℕ) → IsAtGeneration keys g (disk old).cells → LeavesOnly (disk old) (disk mid) (Left g)
  reads_leave g stands = leaves_of Same (Left g) (Left g) (disk old) (disk mid) passes (only old) (λ c left. inl left) (λ tells. inr (inl stands))
      (λ c d was same. subst (Left g) (sym same) was)
      (λ c was. was)

  reads_unopened : (disk mid).tells → LeavesUnopened keys (disk old) (disk mid)
  reads_unopened tells = record { goes = goes; tells = tells; crash = λ g stands. reads_leave g stands; clear = λ cell low. inl (inl (keeps.cells (goes.told tells) cell)) }

  pub read_lives : (disk mid).tells → LivesUnserved disk keys old mid
  read_lives tells = (unopened_lives disk keys old mid (reads_unopened tells), (reads_unopened tells).clear)

  kept : (disk mid).tells → AreInClear (tagging keys) (disk old).cells (disk mid).cells
  kept tells = none_clear (tagging keys) (disk old).cells (disk mid).cells (λ cell low. keeps.cells (goes.told tells) cell)

  module _ (new : S) (on : GoesOn (disk mid) (disk new)) where
    pub refused_lives : ((disk new).tells → LeavesUnopened keys (disk mid) (disk new)) → (disk new).tells → LivesUnserved disk keys old new
    refused_lives act tells = (
      runs_join disk keys old mid new [] [] (read_lives (on.told tells)).0 (unopened_lives disk keys mid new (act tells)),
      clear_but (tagging keys) (disk old).cells (disk mid).cells (disk new).cells (kept (on.told tells)) (disk new).seen (act tells).clear,
    )

    pub read_opened : (sealing : Sealing) → ((disk new).tells → Opens keys (disk mid) (disk new) sealing) → IsReadAndOpened disk keys old new sealing
    read_opened sealing act = record {
      read = mid;
      head = λ tells. (read_lives (on.told tells)).0;
      opens = act;
      clear = λ tells. both_clear (tagging keys) (disk old).cells (disk mid).cells (disk new).cells (kept (on.told tells)) (act tells).clear;
    }

-- an opening behind which no call was made
opened_lives : {S : Type 0} (disk : S → Disk) (keys : Keys) (old new : S) (sealing : Sealing) → Opens keys (disk old) (disk new) sealing → LivesOn disk keys old new []
opened_lives disk keys old new sealing opens = record {
  acts = Opened new sealing ∷ [];
  uncrashed = tt;
  answers_are = refl;
  life = λ at here. (subst (λ x. Opens keys (disk x) (disk new) sealing) (sym here) opens, tt);
  ends = λ at here. refl;
}

pub open_lives : {S : Type 0} (disk : S → Disk) (keys : Keys) (old new : S) (sealing : Sealing) → IsReadAndOpened disk keys old new sealing → (disk new).tells → LivesUnserved disk keys old new
open_lives disk keys old new sealing o tells = (runs_join disk keys old o.read new [] [] (o.head tells) (opened_lives disk keys o.read new sealing (o.opens tells)), λ cell low. inl (o.clear tells cell low))

-- acts that answer nothing make no seal
none_numbered : {S : Type 0} (disk : S → Disk) (keys : Keys) (at : At S) (acts : List (StoreAct S)) → IsLife disk keys at acts → answers_of acts ≡ [] → number_behind 0 acts ≡ 0
none_numbered disk keys at [] life none = refl
none_numbered disk keys at (Opened store sealing ∷ acts) life none = ap (λ (n : ℕ). number_behind n acts) life.0.none_sealed ∙ none_numbered disk keys (after_act at (Opened store sealing)) acts life.1 none
none_numbered disk keys at (Unopened store ∷ acts) life none = none_numbered disk keys (after_act at (Unopened store)) acts life.1 none
none_numbered disk keys at (Answered store sealing answer ∷ acts) life none = absurd (no_cons answer (answers_of acts) none)
  where
    no_cons : (x : VaultAnswer) (xs : List VaultAnswer) → x ∷ xs ≡ [] → ⊥
    no_cons x xs e = cc e
none_numbered disk keys at (Crashed store ∷ acts) life none = none_numbered disk keys (after_act at (Crashed store)) acts life.1 none

number_join : {S : Type 0} (n : ℕ) (xs ys : List (StoreAct S)) → number_behind n (xs ++ ys) ≡ number_behind (number_behind n xs) ys
number_join n [] ys = refl
number_join n (Opened store sealing ∷ xs) ys = number_join sealing.next xs ys
number_join n (Unopened store ∷ xs) ys = number_join n xs ys
number_join n (Answered store sealing (Values values) ∷ xs) ys = number_join sealing.next xs ys
number_join n (Answered store sealing Ended ∷ xs) ys = number_join sealing.next xs ys
number_join n (Answered store sealing (RefusedBy fault) ∷ xs) ys = number_join n xs ys
number_join n (Answered store sealing (DoubtBy fault) ∷ xs) ys = number_join n xs ys
number_join n (Crashed store ∷ xs) ys = number_join n xs ys

-- a run to a number behind acts that answered nothing
runs_to : {S : Type 0} (disk : S → Disk) (keys : Keys) (a b c : S) (answers : List VaultAnswer) (number : ℕ) → LivesOn disk keys a b [] → LivesTo disk keys b c answers number → LivesTo disk keys a c answers number
runs_to disk keys a b c answers number one to =
    let two = to.lives in
    record {
      lives = record {
        acts = one.acts ++ two.acts;
        uncrashed = uncrashed_join one.acts two.acts one.uncrashed two.uncrashed;
        answers_are = answers_join one.acts two.acts ∙ ap (λ (l : List VaultAnswer). l ++ answers_of two.acts) one.answers_are ∙ two.answers_are;
        life = λ at here. lives_join disk keys at one.acts two.acts (one.life at here) (two.life (after_acts at one.acts) (one.ends at here));
        ends = λ at here. ap (λ (x : At _). x.store) (after_join at one.acts two.acts) ∙ two.ends (after_acts at one.acts) (one.ends at here);
      };
      number_is = number_join 0 one.acts two.acts ∙ ap (λ (n : ℕ). number_behind n two.acts) (none_numbered disk keys (formatted_at a) one.acts (one.life (formatted_at a) refl) one.answers_are) ∙ to.number_is;
    }

module _ {S : Type 0} (disk : S → Disk) (keys : Keys) (old between new : S) (sealing : Sealing) (goes : GoesOn (disk between) (disk new)) (o : IsReadAndOpened disk keys old between sealing) where
  -- the calls behind both
  pub whole_lives : (answers : List VaultAnswer) (number : ℕ) → LivesBehind disk keys sealing between new answers number → (disk new).tells → LivesTo disk keys old new answers number
  whole_lives answers number behind tells = runs_to disk keys old o.read new answers number (o.head (goes.told tells)) (behind o.read o.opens tells)

  -- and what stands in the clear
  pub whole_clear : (err : Option RunErr) → ((disk new).tells → IsInClearBehind keys (disk between) (disk new) err) → (disk new).tells → IsInClearBehind keys (disk old) (disk new) err
  whole_clear None behind tells = both_clear (tagging keys) (disk old).cells (disk between).cells (disk new).cells (o.clear (goes.told tells)) (behind tells)
  whole_clear (Some err) behind tells = clear_but (tagging keys) (disk old).cells (disk between).cells (disk new).cells (o.clear (goes.told tells)) (disk new).seen (behind tells)
