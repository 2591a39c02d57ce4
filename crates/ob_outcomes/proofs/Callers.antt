-- Only the desk's clients call it.
use Rattle.std.proofs.Common.{◌≡◌, ℕ, Bool, true, false, cond, ◌==◌, List, [], ◌∷◌, map, Contains, Option, None, Some, option_map, unwrap_or, refl, ap, ◌∙◌, subst, ⊎_elim, eqb-true}
use Rattle.std.proofs.lemmas.Bool.{cases_Bool}
use Rattle.std.proofs.lemmas.List.Elements.{Contains-append_right}
use Rattle.std.proofs.lemmas.Option.{none-some, same_Some}
use Rattle.ob_desk.specs.declared.clients.Client.{Client}
use Rattle.ob_desk.specs.Desk.{DeskState, Setup, new_desk, Call, Begin, GetKey, Poll, Write, Commit, Abort, Settled, SignOff, Reply, MayCall, client_in, client_at}
use Rattle.ob_session.specs.Steps.{Leads}
use Rattle.ob_session.specs.Clients.{client_of, said_by}
use Rattle.ob_outcomes.specs.Callers.{ClientsStay, OnlyClientsCall}
use Rattle.ob_outcomes.proofs.Desks.{Runs, runs_new, runs_step, setup_step}
use Rattle.ob_outcomes.proofs.Records.{contains_at}

pub clients_stay : ClientsStay
clients_stay d [] new run = ap (λ (n : DeskState). map (λ c. c.number) n.clients) run
clients_stay d (step ∷ steps) new run = clients_stay run.0 steps new run.3 ∙ (setup_step d step.0 step.1 run.0 run.2).numbers

-- who is found is one of them
pub contains_found : (cs : List Client) (n : ℕ) (c : Client) → client_in cs n ≡ Some c → Contains (map (λ x. x.number) cs) n
contains_found [] n c e = absurd (none-some c e)
contains_found (x ∷ cs) n c e = step (x.number == n) refl (contains_found cs n c) e
  where
    step : (b : Bool) → (x.number == n) ≡ b → (client_in cs n ≡ Some c → Contains (map (λ y. y.number) cs) n) → cond b (Some x) (client_in cs n) ≡ Some c → Contains (map (λ y. y.number) (x ∷ cs)) n
    step true is rest q = contains_at (map (λ y. y.number) (x ∷ cs)) 0 n (ap Some (eqb-true x.number n is))
    step false is rest q = Contains-append_right (x.number ∷ []) (map (λ y. y.number) cs) n (rest q)

-- whose call may be made
record IsCaller (d : DeskState) (number : ℕ) : Type 0 where
  client : Client
  found : client_at d number ≡ Some client

caller_found : (d : DeskState) (call : Call) (n : ℕ) → MayCall d call → client_of call ≡ Some n → IsCaller d n
caller_found d (Begin client) n may e = subst (IsCaller d) (same_Some client n e) (record { client = may.0.client; found = may.0.found })
caller_found d (GetKey x k) n may e = subst (IsCaller d) (same_Some x.client n e) (record { client = may.0.client; found = may.0.found })
caller_found d (Poll x) n may e = subst (IsCaller d) (same_Some x.client n e) (record { client = may.0.client; found = may.0.found })
caller_found d (Write x k value) n may e = subst (IsCaller d) (same_Some x.client n e) (record { client = may.0.client; found = may.0.found })
caller_found d (Commit x) n may e = subst (IsCaller d) (same_Some x.client n e) (record { client = may.0.client; found = may.0.found })
caller_found d (Abort x) n may e = subst (IsCaller d) (same_Some x.client n e) (record { client = may.0.client; found = may.0.found })
caller_found d (Settled x) n may e = subst (IsCaller d) (same_Some x.client n e) (record { client = may.client; found = may.found })
caller_found d (SignOff client) n may e = subst (IsCaller d) (same_Some client n e) (record { client = may.0.client; found = may.0.found })
caller_found d _ n may e = absurd (none-some n e)

none_said : (setup : Setup) (clients : List ℕ) (d : DeskState) (steps : List (Call × Reply)) (new : DeskState) (number : ℕ) → Leads d steps new → Runs setup clients d → (Contains clients number → ⊥) → said_by number steps ≡ []
none_said setup clients d [] new number run runs apart = refl
none_said setup clients d (step ∷ steps) new number run runs apart =
    let rest = none_said setup clients run.0 steps new number run.3 (runs_step setup clients d step.0 step.1 run.0 run.1 run.2 runs) apart in
    ap (λ b. cond b (step ∷ said_by number steps) (said_by number steps)) (not_its step.0 (client_of step.0) refl run.1) ∙ rest
  where
    not_its : (call : Call) (o : Option ℕ) → client_of call ≡ o → MayCall d call → unwrap_or (option_map (λ c. c == number) o) false ≡ false
    not_its call None e may = refl
    not_its call (Some n) e may = ⊎_elim
        (λ same.
        let f = caller_found d call n may e in
        absurd (apart (subst (Contains clients) (eqb-true n number same) (subst (λ (cs : List ℕ). Contains cs n) runs.numbers (contains_found d.clients n f.client f.found)))))
        (λ other. other)
        (cases_Bool (n == number))

pub only_clients_call : OnlyClientsCall
only_clients_call setup epoch left clients steps d number run apart = none_said setup clients (new_desk setup epoch left clients) steps d number run (runs_new setup epoch left clients) apart
