-- Halls of the tests: as they are opened, and the driver's turns.
use Rattle.std.proofs.Common.{◌≡◌, ℕ, suc, false, List, [], ◌∷◌, ◌++◌, length, remove, slice_index_or, None, refl, sym, ap, subst, ◌∙◌}
use Rattle.std.specs.List.{All}
use Rattle.std.proofs.lemmas.List.Elements.{All-nil, All-cons, All-weaker, All-push}
use Rattle.ob_base.specs.declared.fault.Fault.{Fault}
use Rattle.ob_desk.specs.Desk as desk
use Rattle.ob_desk.specs.Desk.{DeskState, DeskStep}
use Rattle.ob_session.specs.Clients.{client_of, said_by}
use Rattle.ob_turn.specs.declared.turn.Entry.{Entry}
use Rattle.ob_turn.specs.History.{IsAt}
use Rattle.ob_hall.specs.Turns.{IsBy, IsTurn}
use Rattle.ob_hall.specs.Opening.{AreClients, ArePasses}
use Rattle.ob_hall.specs.Passes.{Steps, Hall, Pass, opening_of, pass_place, calls_in, said_of, EntersTurn}
use Rattle.ob_hall.specs.Rounds.{rounds_of}
use Rattle.ob_hall.specs.Testing.{IsOpenedHall}
use Rattle.ob_hall.proofs.Making.{one_note}
use Rattle.ob_hall.proofs.Gathering.{first_items}
use Rattle.ob_hall.specs.Calling.{IsReady, IsBetween}

-- passes that were popped and pushed
pub pushed : (P : Pass → Type 0) (all less more : List Pass) (was now : Pass) → all ≡ less ++ was ∷ [] → more ≡ less ++ now ∷ [] → All P all → P now → All P more
pushed P all less more was now is are ready its = subst (All P) (sym are) (All-push P less now (first_items P all less was is ready) its)

-- ---- a new hall

as_many : (hall : Hall) (at : ℕ) (clients : List ℕ) (passes : List Pass) → AreClients hall at clients passes → length passes ≡ length clients
as_many hall at [] [] are = refl
as_many hall at [] (p ∷ passes) are = absurd are
as_many hall at (n ∷ clients) [] are = absurd are
as_many hall at (n ∷ clients) (p ∷ passes) (fresh, client, mute, more) = ap suc (as_many hall (suc at) clients passes more)

-- none of them has said anything
unsaid : (hall : Hall) (at : ℕ) (clients : List ℕ) (passes : List Pass) → AreClients hall at clients passes → All (λ p. said_of p ≡ []) passes
unsaid hall at [] [] are = All-nil (λ p. said_of p ≡ [])
unsaid hall at [] (p ∷ passes) are = absurd are
unsaid hall at (n ∷ clients) [] are = absurd are
unsaid hall at (n ∷ clients) (p ∷ passes) (fresh, client, mute, more) =
    All-cons (λ q. said_of q ≡ []) p passes (ap (λ (es : List (Entry Steps)). said_by p.client (calls_in es)) fresh.none_made) (unsaid hall (suc at) clients passes more)

pub opened_is : (keys : ℕ) (hall : Hall) (clients : List ℕ) (all rest : List Pass) (driver : Pass) → ArePasses hall clients all → driver ≡ slice_index_or all 0 driver → rest ≡ remove all 0 → (opening_of hall).setup.params.keys ≡ keys
    → (rounds_of (opening_of hall)).has_closed ≡ false → IsOpenedHall keys hall driver rest
opened_is keys hall clients all rest driver a driver_is rest_is keys_are none_closed =
    let first : driver ≡ a.driver = driver_is ∙ ap (λ (ps : List Pass). slice_index_or ps 0 driver) a.are in
    let others : rest ≡ a.others = rest_is ∙ ap (λ (ps : List Pass). remove ps 0) a.are in
    let base : IsOpenedHall keys hall a.driver a.others = record {
      own = a.first.own;
      idle = a.first.idle;
      place = a.first.place;
      raises = a.raises;
      none_told = a.first.none_told;
      ready = All-weaker (λ p. IsReady hall p × IsBetween p) (λ p. IsReady hall p) (λ p both. both.0) a.others a.ready;
      between = All-weaker (λ p. IsReady hall p × IsBetween p) (λ p. IsBetween p) (λ p both. both.1) a.others a.ready;
      count = ap suc (as_many hall 0 clients a.others a.clients_are) ∙ sym a.callers;
      keys_are = keys_are;
      unmade = a.first.none_made;
      unsaid = unsaid hall 0 clients a.others a.clients_are;
      none_closed = none_closed;
    } in
    subst (λ (p : Pass). IsOpenedHall keys hall p rest) (sym first) (subst (λ (ps : List Pass). IsOpenedHall keys hall a.driver ps) (sym others) base)

-- ---- the driver's turn in which nothing is called

pub idle_turn : (hall : Hall) (before mid : Pass) (d : DeskState) → EntersTurn hall before mid d → pass_place before ≡ 0 → IsAt IsTurn mid.seat.me.0 (mid.seat.me.0.noted ++ [] ∷ []) d
idle_turn hall before mid d e place =
    let place_mid : pass_place mid ≡ 0 = (λ i. (e.enters.knows i).by) ∙ place in
    one_note hall before mid d d [] e refl (subst (λ (n : ℕ). IsBy n d []) (sym place_mid) (All-nil (λ s. client_of s.0 ≡ None)))

-- ---- the driver's turn in which the desk is stopped

pub stopped_turn : (hall : Hall) (before mid : Pass) (d new : DeskState) (f : Fault) (last : Steps) → EntersTurn hall before mid d → pass_place before ≡ 0 → DeskStep d (desk.Stop f) desk.Done new → last ≡ (desk.Stop f, desk.Done) ∷ []
    → IsAt IsTurn mid.seat.me.0 (mid.seat.me.0.noted ++ last ∷ []) new
stopped_turn hall before mid d new f last e place step is =
    let place_mid : pass_place mid ≡ 0 = (λ i. (e.enters.knows i).by) ∙ place in
    let calls : Steps = (desk.Stop f, desk.Done) ∷ [] in
    let none : All (λ s. client_of s.0 ≡ None) calls = All-cons (λ s. client_of s.0 ≡ None) (desk.Stop f, desk.Done) [] refl (All-nil (λ s. client_of s.0 ≡ None)) in
    subst (λ (l : Steps). IsAt IsTurn mid.seat.me.0 (mid.seat.me.0.noted ++ l ∷ []) new) (sym is)
    (one_note hall before mid d new calls e (new, tt, step, refl) (subst (λ (n : ℕ). IsBy n d calls) (sym place_mid) none))
