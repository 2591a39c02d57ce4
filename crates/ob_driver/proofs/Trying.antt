-- A hall of the tests, with the passes that were taken off its list.
use Rattle.std.proofs.Common.{◌≡◌, ◌∙◌, ◌+◌, ℕ, suc, false, List, [], ◌∷◌, All, remove, slice_index_or, sym, ap, subst, arith}
use Rattle.std.proofs.lemmas.List.Elements.{All-head, All-tail}
use Rattle.ob_base.specs.declared.params.Params.{Params}
use Rattle.ob_serial.specs.Vaults.{VaultCounts}
use Rattle.ob_shares.specs.Shares.{no_shares}
use Rattle.ob_desk.specs.Desk.{DeskState, new_desk, setup_of}
use Rattle.ob_session.specs.Clients.{said_by}
use Rattle.ob_turn.specs.declared.turn.Entry.{Entry}
use Rattle.ob_hall.specs.Passes.{Steps, Hall, Pass, opening_of, may_raise, calls_in}
use Rattle.ob_hall.specs.Opening.{IsFreshPass, AreClients, ArePasses}
use Rattle.ob_hall.specs.Calling.{IsReady, IsBetween}
use Rattle.ob_driver.specs.Drives.{IsFirstPass}
use Rattle.ob_driver.specs.Testing.{two_clients, IsNewClient, AreTwoPasses}

new_client : (hall : Hall) (p : Params) (epoch left at number : ℕ) (pass : Pass) → opening_of hall ≡ new_desk (setup_of p) epoch left two_clients → IsFreshPass hall at pass → pass.client ≡ number → IsReady hall pass → IsNewClient hall number pass p.keys
new_client hall p epoch left at number pass opening fresh client ready = record {
  ready = ready;
  client = client;
  unsaid = ap (λ (es : List (Entry Steps)). said_by pass.client (calls_in es)) fresh.none_made;
  below = let same : (opening_of hall).setup.params.keys ≡ p.keys = ap (λ (d : DeskState). d.setup.params.keys) opening in omega (arith, same);
}

module _ (hall : Hall) (p : Params) (epoch left : ℕ) (opening : opening_of hall ≡ new_desk (setup_of p) epoch left two_clients) where
  two_are : (driver : Pass) (others : List Pass) (all : List Pass) → all ≡ driver ∷ others → IsFreshPass hall 0 driver → AreClients hall 0 two_clients others → All (λ q. IsReady hall q × IsBetween q) others → (d a b : Pass) (rest more : List Pass)
      → d ≡ slice_index_or all 0 d → rest ≡ remove all 0 → a ≡ slice_index_or rest 0 a → more ≡ remove rest 0 → b ≡ slice_index_or more 0 b
      → (d ≡ driver) × (IsNewClient hall 1 a p.keys) × (IsNewClient hall 2 b p.keys)
  two_are driver [] all are fresh clients ready d a b rest more di ri ai mi bi = absurd clients
  two_are driver (x ∷ []) all are fresh (fx, cx, mx, none) ready d a b rest more di ri ai mi bi = absurd none
  two_are driver (x ∷ y ∷ z ∷ zs) all are fresh (fx, cx, mx, (fy, cy, my, none)) ready d a b rest more di ri ai mi bi = absurd none
  two_are driver (x ∷ y ∷ []) all are fresh (fx, cx, mx, (fy, cy, my, none)) ready d a b rest more di ri ai mi bi =
      let rest_is : rest ≡ x ∷ y ∷ [] = ri ∙ ap (λ (ps : List Pass). remove ps 0) are in
      let more_is : more ≡ y ∷ [] = mi ∙ ap (λ (ps : List Pass). remove ps 0) rest_is in
      let a_is : a ≡ x = ai ∙ ap (λ (ps : List Pass). slice_index_or ps 0 a) rest_is in
      let b_is : b ≡ y = bi ∙ ap (λ (ps : List Pass). slice_index_or ps 0 b) more_is in
      let ready_y : IsReady hall y = (All-head (λ q. IsReady hall q × IsBetween q) y [] (All-tail (λ q. IsReady hall q × IsBetween q) x (y ∷ []) ready)).0 in (
        di ∙ ap (λ (ps : List Pass). slice_index_or ps 0 d) are,
        subst (λ (q : Pass). IsNewClient hall 1 q p.keys) (sym a_is) (new_client hall p epoch left 1 1 x opening fx cx (All-head (λ q. IsReady hall q × IsBetween q) x (y ∷ []) ready).0),
        subst (λ (q : Pass). IsNewClient hall 2 q p.keys) (sym b_is) (new_client hall p epoch left 2 2 y opening fy cy ready_y),
      )

  pub two_passes : (all : List Pass) → ArePasses hall two_clients all → (d a b : Pass) (rest more : List Pass) → d ≡ slice_index_or all 0 d → rest ≡ remove all 0 → a ≡ slice_index_or rest 0 a → more ≡ remove rest 0 → b ≡ slice_index_or more 0 b
      → AreTwoPasses hall p epoch left d a b
  two_passes all passes d a b rest more di ri ai mi bi =
      let these : (d ≡ passes.driver) × (IsNewClient hall 1 a p.keys) × (IsNewClient hall 2 b p.keys) = two_are passes.driver passes.others all passes.are passes.first passes.clients_are passes.ready d a b rest more di ri ai mi bi in record {
        opening = opening;
        fresh = subst (λ (q : Pass). IsFreshPass hall 0 q) (sym these.0) passes.first;
        raises = ap may_raise these.0 ∙ passes.raises;
        first_is = these.1;
        second_is = these.2;
      }

-- So the driver's pass is its first one, at a vault that is there.
pub first_pass : (hall : Hall) (p : Params) (c : VaultCounts) (epoch left : ℕ) (driver first second : Pass) → AreTwoPasses hall p epoch left driver first second → epoch ≡ c.epoch + 1 → left ≡ c.left → c.spent ≡ false → IsFirstPass hall driver p c
first_pass hall p c epoch left driver first second two epoch_is left_is serves = record {
  fresh = two.fresh;
  raises = two.raises;
  shares = no_shares;
  clients = two_clients;
  opening = let at : epoch ≡ suc c.epoch = omega (arith, epoch_is) in two.opening ∙ (ap (λ (n : ℕ). new_desk (setup_of p) n left two_clients) at ∙ ap (λ (n : ℕ). new_desk (setup_of p) (suc c.epoch) n two_clients) left_is);
  serves = serves;
}
