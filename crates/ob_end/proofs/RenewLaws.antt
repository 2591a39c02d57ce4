-- The words of an end, in the order in which they are taken.
use Rattle.std.proofs.Common.{◌≡◌, ◌+◌, ℕ, zero, suc, List, [], ◌∷◌, ◌++◌, take, drop, length, Result, length-append, append_assoc, refl, sym, ap, ◌∙◌, subst, arith}
use Rattle.ob_base.specs.declared.fault.Fault.{Fault}
use Rattle.ob_base.specs.declared.params.Params.{Params}
use Rattle.ob_base.specs.declared.value.Write.{Write}
use Rattle.ob_fetch.proofs.FetchLaws.{drawn_since, draws_are}
use Rattle.ob_fetch.specs.Fetches.{DrawsWords, words_since}
use Rattle.ob_ring.specs.FlatTable.{FlatTable, Refill, after, stash_size}
use Rattle.ob_ring.specs.Filling.{HasJustStashRows}
use Rattle.ob_ring.specs.Ring.{Kept, StandsFor}
use Rattle.ob_ring.specs.Settling.{Rows}
use Rattle.ob_ring.specs.Writing.{values_after, writes_of}
use Rattle.ob_ring.proofs.StashRows.{just_like, just_written}
use Rattle.ob_tables.specs.declared.entry.Entry.{Entry}
use Rattle.ob_end.specs.Renewals.{HasItsRows, AreRefilled, AreMade, RenewAnswers, renewed_writes, table_behind_writes}

front_is : (n : ℕ) (xs ys : List ℕ) → length xs ≡ n → take n (xs ++ ys) ≡ xs
front_is zero [] ys many = refl
front_is zero (x ∷ xs) ys many = absurd (omega arith)
front_is (suc n) [] ys many = absurd (omega arith)
front_is (suc n) (x ∷ xs) ys many = ap (λ (l : List ℕ). x ∷ l) (front_is n xs ys (omega arith))

back_is : (n : ℕ) (xs ys : List ℕ) → length xs ≡ n → drop n (xs ++ ys) ≡ ys
back_is zero [] ys many = refl
back_is zero (x ∷ xs) ys many = absurd (omega arith)
back_is (suc n) [] ys many = absurd (omega arith)
back_is (suc n) (x ∷ xs) ys many = back_is n xs ys (omega arith)

-- two draws, one behind the other
module _ (a : ℕ) (old mid new own rest : List ℕ) (first : mid ≡ old ++ own) (second : new ≡ mid ++ rest) (own_many : length own ≡ a) where
  since : words_since old new ≡ own ++ rest
  since =
      ap (λ (l : List ℕ). words_since old l) (second ∙ ap (λ (l : List ℕ). l ++ rest) first ∙ append_assoc old own rest)
      ∙ drawn_since old (own ++ rest)

  pub own_is : own ≡ take a (words_since old new)
  own_is = sym (ap (λ (l : List ℕ). take a l) since ∙ front_is a own rest own_many)

  pub rest_is : rest ≡ drop a (words_since old new)
  rest_is = sym (ap (λ (l : List ℕ). drop a l) since ∙ back_is a own rest own_many)

  -- as many as both have
  pub both_counted : (drawn b : ℕ) → drawn ≡ length old → length rest ≡ b → drawn + (a + b) ≡ length new
  both_counted drawn b drawn_are many =
      let all = ap length second ∙ length-append mid rest in
      let some = ap length first ∙ length-append old own in
      omega arith

  pub both_drawn : (b : ℕ) → length rest ≡ b → DrawsWords (a + b) old new
  both_drawn b many =
      draws_are (a + b) old new (own ++ rest) (second ∙ ap (λ (l : List ℕ). l ++ rest) first ∙ append_assoc old own rest) (let all = length-append own rest in omega arith)

-- ---- the calls of the planner, by these names

module _ (old between : Kept) (writes : List Write) {W own : List ℕ} (ws : W ≡ own) {G g : ℕ} (gs : G ≡ g) (drawn : ℕ) where
  writes_as : writes_of old.p writes W (G, drawn) (length writes) ≡ renewed_writes old writes own g drawn
  writes_as =
      ap (λ (x : List ℕ). writes_of old.p writes x (G, drawn) (length writes)) ws ∙ ap (λ (x : ℕ). writes_of old.p writes own (x, drawn) (length writes)) gs

  pub made_as : AreMade (writes_of old.p writes W (G, drawn) (length writes)) old between → AreMade (renewed_writes old writes own g drawn) old between
  made_as made = subst (λ (x : List (Write × Entry)). AreMade x old between) writes_as made

  -- how many rows are left
  pub size_as : between.p ≡ old.p → (t : FlatTable)
      → stash_size between.p (after between.p (table_behind_writes old (writes_of old.p writes W (G, drawn) (length writes)) t) Refill)
      ≡ stash_size old.p (after old.p (table_behind_writes old (renewed_writes old writes own g drawn) t) Refill)
  size_as ps t =
      ap (λ (q : Params). stash_size q (after q (table_behind_writes old (writes_of old.p writes W (G, drawn) (length writes)) t) Refill)) ps
      ∙ ap (λ (x : List (Write × Entry)). stash_size old.p (after old.p (table_behind_writes old x t) Refill)) writes_as

  -- Behind the writes too the stash has rows of just the keys that lie in no bucket, in whatever table the planner then stands for.
  pub at_between : HasItsRows old → (between.stash).rows ≡ values_after (old.stash).rows (writes_of old.p writes W (G, drawn) (length writes))
      → ((t : FlatTable) → StandsFor old t → StandsFor between (table_behind_writes old (writes_of old.p writes W (G, drawn) (length writes)) t)) → (t : FlatTable) → StandsFor between t → HasJustStashRows t (between.stash).rows
  at_between has values applied t stands =
      let made : List (Write × Entry) = writes_of old.p writes W (G, drawn) (length writes) in
      just_like between (table_behind_writes old made has.table) t (between.stash).rows (applied has.table has.stands) stands
      (subst (λ (rows : Rows). HasJustStashRows (table_behind_writes old made has.table) rows) (sym values) (just_written has.table (old.stash).rows made has.rows))

pub filled_as : (old new : Kept) {W rest : List ℕ} {G g N n : ℕ} → W ≡ rest → G ≡ g → N ≡ n → AreRefilled W G N old new → AreRefilled rest g n old new
filled_as old new {W} {rest} {G} {g} {N} {n} ws gs ns filled =
    subst (λ (x : List ℕ). AreRefilled x g n old new) ws (subst (λ (x : ℕ). AreRefilled W x n old new) gs (subst (λ (x : ℕ). AreRefilled W G x old new) ns filled))

-- what is answered, of equal numbers
pub answers_as : (x : Result (Unit {0}) Fault) {size rows room most next first seals all : ℕ} → size ≡ rows → room ≡ most → next ≡ first → seals ≡ all → RenewAnswers size room next seals x → RenewAnswers rows most first all x
answers_as x {size} {rows} {room} {most} {next} {first} {seals} {all} sizes rooms nexts sum told =
    subst (λ n. RenewAnswers rows most first n x) sum (subst (λ n. RenewAnswers rows most n seals x) nexts (subst (λ n. RenewAnswers rows n next seals x) rooms (subst (λ n. RenewAnswers n room next seals x) sizes told)))
