-- A hall's passes, as they were made, and when they are handed back.
use Rattle.std.proofs.Common.{◌≡◌, ◌∙◌, ℕ, suc, false, All, List, [], ◌∷◌, length, Ok, Err, Result, remove, slice_index_or, refl, sym, ap, ap₂, subst, inl, inr}
use Rattle.ob_base.specs.declared.params.Params.{Params}
use Rattle.ob_conduct.specs.declared.run_err.RunErr.{RunErr}
use Rattle.ob_serial.specs.Vaults.{VaultCounts}
use Rattle.ob_serial.specs.VaultKinds.{Kind}
use Rattle.ob_shares.specs.declared.shares.Shares.{Shares}
use Rattle.ob_desk.specs.Desk.{new_desk, setup_with}
use Rattle.ob_desk.specs.Beats.{BeatKind}
use Rattle.ob_hall.specs.Passes.{Hall, Pass, opening_of, may_raise, IsPassOf, IsOutOfTurn}
use Rattle.ob_hall.specs.Opening.{IsFreshPass, AreClients, ArePasses}
use Rattle.ob_hall.specs.Calling.{IsReady, IsBetween}
use Rattle.ob_driver.specs.Driven.{Side}
use Rattle.ob_driver.specs.Drives.{IsFirstPass}
use Rattle.ob_threads.specs.Served.{Words}
use Rattle.ob_run.specs.Serving.{ServeEnds}

first_is : {A : Type 0} (x y : A) (xs ys : List A) → ◌≡◌ {A = List A} (x ∷ xs) (y ∷ ys) → x ≡ y
first_is x y xs ys is = cc is

rest_is : {A : Type 0} (x y : A) (xs ys : List A) → ◌≡◌ {A = List A} (x ∷ xs) (y ∷ ys) → xs ≡ ys
rest_is x y xs ys is = cc is

-- the driver's pass is taken off the list
pub taken_off : (hall : Hall) (numbers : List ℕ) (all : List Pass) (driver : Pass) (rest : List Pass) → ArePasses hall numbers all → driver ≡ slice_index_or all 0 driver → rest ≡ remove all 0 → ArePasses hall numbers (driver ∷ rest)
taken_off hall numbers all driver rest passes first others =
    subst (ArePasses hall numbers) (passes.are ∙ ap₂ (λ (p : Pass) (ps : List Pass). p ∷ ps)
    (sym (first ∙ ap (λ (ps : List Pass). slice_index_or ps 0 driver) passes.are)) (sym (others ∙ ap (λ (ps : List Pass). remove ps 0) passes.are))) passes

module _ (hall : Hall) (numbers : List ℕ) (driver : Pass) (others : List Pass) (passes : ArePasses hall numbers (driver ∷ others)) where
  same_driver : driver ≡ passes.driver
  same_driver = first_is driver passes.driver others passes.others passes.are

  same_others : others ≡ passes.others
  same_others = rest_is driver passes.driver others passes.others passes.are

  pub first_pass : (p : Params) (shares : Shares) (c : VaultCounts) → opening_of hall ≡ new_desk (setup_with p shares) (suc c.epoch) c.left numbers → c.spent ≡ false → IsFirstPass hall driver p c
  first_pass p shares c opening serves = record {
    fresh = subst (IsFreshPass hall 0) (sym same_driver) passes.first;
    raises = ap may_raise same_driver ∙ passes.raises;
    shares = shares;
    clients = numbers;
    opening = opening;
    serves = serves;
  }

  pub are_clients : AreClients hall 0 numbers others
  are_clients = subst (AreClients hall 0 numbers) (sym same_others) passes.clients_are

  pub are_ready : All (λ p. IsReady hall p × IsBetween p) others
  are_ready = subst (All (λ p. IsReady hall p × IsBetween p)) (sym same_others) passes.ready

  pub as_many : length others ≡ length numbers
  as_many = count 0 numbers others are_clients
    where
      count : (at : ℕ) (ns : List ℕ) (ps : List Pass) → AreClients hall at ns ps → length ps ≡ length ns
      count at [] [] are = refl
      count at [] (p ∷ ps) are = absurd are
      count at (n ∷ ns) [] are = absurd are
      count at (n ∷ ns) (p ∷ ps) (fresh, named, raises, rest) = ap suc (count (suc at) ns ps rest)

-- the driver's pass is in no turn once its run has ended
pub driver_back : {V U Plan : Type 0} (k : Kind V) (beat : BeatKind) (w : Words U Plan) (hall : Hall) (starts : ℕ) (p : Params) (old : Side V) (c : VaultCounts) (before : List (Pass × U)) (new : Side V) (next : VaultCounts) (after : List (Pass × U)) (result : Result (Unit {0}) RunErr)
    → IsFirstPass hall old.pass p c → ServeEnds k beat w hall starts old c before new next after result → IsPassOf hall new.pass × IsOutOfTurn new.pass
driver_back k beat w hall starts p old c before new next after (Ok done) first r = (r.done.done.rests.at.driver.own, r.done.done.rests.idle)
driver_back k beat w hall starts p old c before new next after (Err err) first (inl none) =
    (subst (λ (s : Side _). IsPassOf hall s.pass) (sym none.0.1) first.fresh.own, subst (λ (s : Side _). IsOutOfTurn s.pass) (sym none.0.1) first.fresh.idle)
driver_back k beat w hall starts p old c before new next after (Err err) first (inr r) = (r.fails.fails.own, r.fails.fails.idle)
