-- The driver's pass of a new hall, and those of its sessions.
use Rattle.std.proofs.Common.{◌≡◌, ◌∙◌, ◌≤◌, suc, All, List, remove, slice_index_or, sym, ap, subst, arith}
use Rattle.std.proofs.lemmas.List.Elements.{All-same, All-weaker}
use Rattle.ob_base.specs.declared.params.Params.{Params}
use Rattle.ob_serial.specs.Vaults.{VaultCounts}
use Rattle.ob_shares.specs.Shares.{no_shares}
use Rattle.ob_desk.specs.Desk.{DeskState, new_desk, setup_of}
use Rattle.ob_hall.specs.Passes.{Hall, Pass, opening_of, may_raise}
use Rattle.ob_hall.specs.Opening.{IsFreshPass, ArePasses}
use Rattle.ob_hall.specs.Calling.{IsReady, IsBetween}
use Rattle.ob_driver.specs.Drives.{IsFirstPass}
use Rattle.ob_driver.specs.Testing.{two_clients}
use Rattle.ob_session_tests.specs.Sessions.{ServesDesks, IsSession}

-- The passes of a new hall of both clients: the first one is the driver's, and the others may begin.
module _ (hall : Hall) (p : Params) (c : VaultCounts) (all : List Pass) (passes : ArePasses hall two_clients all) (opening : opening_of hall ≡ new_desk (setup_of p) (suc c.epoch) c.left two_clients) (can : ServesDesks p c) where
  pub driver_first : (driver : Pass) → driver ≡ slice_index_or all 0 driver → IsFirstPass hall driver p c
  driver_first driver taken = let is : driver ≡ passes.driver = taken ∙ ap (λ (ps : List Pass). slice_index_or ps 0 driver) passes.are in record {
    fresh = subst (λ (q : Pass). IsFreshPass hall 0 q) (sym is) passes.first;
    raises = ap may_raise is ∙ passes.raises;
    shares = no_shares;
    clients = two_clients;
    opening = opening;
    serves = can.serves;
  }

  pub sessions_are : (rest : List Pass) → rest ≡ remove all 0 → All (IsSession hall) rest
  sessions_are rest left = let same : (opening_of hall).setup.params.keys ≡ p.keys = ap (λ (d : DeskState). d.setup.params.keys) opening in
      let eight = can.keys in
      All-same (IsSession hall) rest passes.others (left ∙ ap (λ (ps : List Pass). remove ps 0) passes.are)
      (All-weaker (λ q. IsReady hall q × IsBetween q) (IsSession hall) (λ q may. record { ready = may.0; between = may.1; keys = omega (arith, same, eight) }) passes.others passes.ready)
