use Rattle.std.specs.Prelude.{vec_capacity}
use Rattle.std.proofs.Common.{◌≤◌, ◌∙◌, All, length, refl, sym, ap, subst}
use Rattle.ob_hall_tests.specs.declared.visitor.Visitor.{Visitor}
use Rattle.ob_threads.specs.Served.{IsClient}
use Rattle.ob_threads.specs.Starts.{Each, HasItsPlace, IsWaitedFor, IsJoined}
use Rattle.ob_threads.proofs.Eaching.{each-length}
use Rattle.ob_threads.proofs.Placing.{all_met, all_waited, still_placed}
use Rattle.ob_hall_tests.proofs.Visits.{visits, are_clients, all_ready}
use Rattle.ob_hall_tests.proofs.starts.fn.in_scope.scope.Goals as goal

pub start_all-requires-clause-clients : goal.start_all-requires-clause-clients
start_all-requires-clause-clients g c κs within =
    let hall = c.captures.hall.now in
    let same = ap (λ v. v.items) c.replace-clients.ensures.value in
    subst (All (IsClient (visits (λ (v : Visitor). v.client) (λ v. v.gone) hall) hall)) (sym same) (are_clients (λ (v : Visitor). v.client) (λ v. v.gone) hall c.captures.crew.now.waiting.items c.requires.0)

pub start_all-requires-clause-none : goal.start_all-requires-clause-none
start_all-requires-clause-none g c κs within = c.requires.2

pub start_all-requires-clause-room : goal.start_all-requires-clause-room
start_all-requires-clause-room g c κs within =
    let same = ap (λ v. v.items) c.replace-clients.ensures.value in
    subst (λ n. n ≤ vec_capacity c.captures.crew.now.started) (sym (ap length same ∙ c.requires.1)) c.requires.4

pub step_each-requires : goal.step_each-requires
step_each-requires g c =
    let hall = c.captures.hall.now in
    let w = visits (λ (v : Visitor). v.client) (λ v. v.gone) hall in
    let waiting = c.captures.crew.now.waiting.items in
    let first = c.start_all.new.started.items in
    let same = ap (λ v. v.items) c.replace-clients.ensures.value in
    let clients = are_clients (λ (v : Visitor). v.client) (λ v. v.gone) hall waiting c.requires.0 in
    let placed = subst (λ l. Each (HasItsPlace w hall) l first) same c.start_all.ensures.placed in
    record { met = all_met w hall waiting first clients placed }

pub join_all-requires : goal.join_all-requires
join_all-requires g c =
    let hall = c.captures.hall.now in
    let w = visits (λ (v : Visitor). v.client) (λ v. v.gone) hall in
    let waiting = c.captures.crew.now.waiting.items in
    let first = c.start_all.new.started.items in
    let next = c.step_each.new.started.items in
    let same = ap (λ v. v.items) c.replace-clients.ensures.value in
    let still = ap (λ v. v.items) c.replace-started.ensures.value in
    let clients = are_clients (λ (v : Visitor). v.client) (λ v. v.gone) hall waiting c.requires.0 in
    let placed = still_placed w hall waiting first next (subst (λ l. Each (HasItsPlace w hall) l first) same c.start_all.ensures.placed) c.step_each.ensures.stepped in
    record {
      placed = subst (All (IsWaitedFor w hall)) (sym still) (all_waited w hall waiting next clients placed);
      none = c.requires.3;
      room = subst (λ n. n ≤ vec_capacity c.captures.crew.now.back) (sym (ap length still ∙ (each-length (HasItsPlace w hall) waiting next placed ∙ c.requires.1))) c.requires.5;
    }

pub returns : goal.returns
returns g c =
    let hall = c.captures.hall.now in
    let w = visits (λ (v : Visitor). v.client) (λ v. v.gone) hall in
    let waiting = c.captures.crew.now.waiting.items in
    let first = c.start_all.new.started.items in
    let next = c.step_each.new.started.items in
    let back = c.join_all.new.clients.items in
    let same = ap (λ v. v.items) c.replace-clients.ensures.value in
    let still = ap (λ v. v.items) c.replace-started.ensures.value in
    let clients = are_clients (λ (v : Visitor). v.client) (λ v. v.gone) hall waiting c.requires.0 in
    let placed = subst (λ l. Each (HasItsPlace w hall) l first) same c.start_all.ensures.placed in
    let joined = subst (λ l. Each (IsJoined w hall) l back) still c.join_all.ensures.joined in
    let all = all_ready (λ (v : Visitor). v.client) (λ v. v.gone) hall waiting first next back clients placed c.step_each.ensures.stepped joined in
    (refl, ap (λ v. v.items) c.replace-clients.ensures.after ∙ c.new.ensures.items, ap (λ v. v.items) c.replace-started.ensures.after ∙ c.new-2.ensures.items, all.0, all.1 ∙ c.requires.1)
