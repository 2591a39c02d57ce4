-- Calls of the desk and of the vault, one behind the other.
use Rattle.std.proofs.Common.{◌≡◌, ◌∙◌, ◌≤◌, ℕ, All, List, [], ◌∷◌, ◌++◌, None, refl, sym, ap, subst, nat_cmp}
use Rattle.std.proofs.lemmas.List.{append_assoc}
use Rattle.ob_store.specs.declared.watch.Note.{Note}
use Rattle.ob_store.specs.Calls.{GoesOn}
use Rattle.ob_store.specs.Lines.{Trace, Shows}
use Rattle.ob_store.proofs.Serving.{goes_same, goes_then}
use Rattle.ob_store.proofs.Showing.{shows_none, shows_then}
use Rattle.ob_serial.specs.Serial.{Map}
use Rattle.ob_serial.specs.Vaults.{VaultCall, VaultAnswer}
use Rattle.ob_serial.specs.VaultKinds.{Kind, AllCalled}
use Rattle.ob_desk.specs.Desk as desk
use Rattle.ob_desk.specs.Desk.{DeskState, Call, Reply, DeskStep, MayCall, Run}
use Rattle.ob_desk.specs.declared.calls.Look.{Look}
use Rattle.ob_session.specs.Steps.{Leads, IsOwn}
use Rattle.ob_session.proofs.Saying.{leads_join}
use Rattle.ob_conduct.specs.Acts.{look_calls}
use Rattle.ob_conduct.specs.Scenes.{Scene, scene, AllNoted}
use Rattle.ob_conduct.specs.Moves.{Moves}
use Rattle.ob_conduct.proofs.Ready.{own_run}

pub run_join : (m : Map nat_cmp) (a : DeskState) (steps : List (Call × Reply)) (n : Map nat_cmp) (b : DeskState) (more : List (Call × Reply)) (o : Map nat_cmp) (c : DeskState) → Run m a steps n b → Run n b more o c → Run m a (steps ++ more) o c
run_join m a [] n b more o c (same_map, is) rest = subst (λ (x : DeskState). Run m x more o c) is (subst (λ (y : Map nat_cmp). Run y b more o c) same_map rest)
run_join m a (step ∷ steps) n b more o c (mid, may, one, fed, first) rest = (mid, may, one, fed, run_join (desk.map_next m a step.0) mid steps n b more o c first rest)

pub noted_join : {V : Type 0} (k : Kind V) (a : V) (t : Trace) (steps : List (VaultCall × VaultAnswer)) (notes : List Note) (b : V) (u : Trace) (more : List (VaultCall × VaultAnswer)) (also : List Note) (c : V) (w : Trace)
    → AllNoted k a t steps notes b u → AllNoted k b u more also c w → AllNoted k a t (steps ++ more) (notes ++ also) c w
noted_join k a t [] notes b u more also c w (same, none, still) rest = subst (λ (ns : List Note). AllNoted k a t more ns c w) (ap (λ (ns : List Note). ns ++ also) (sym none))
    (subst (λ (x : Trace). AllNoted k a x more also c w) still (subst (λ x. AllNoted k x u more also c w) same rest))
noted_join k a t (step ∷ steps) notes b u more also c w (mid, between, one, others, are, first) rest =
    (mid, between, one, others ++ also, ap (λ (ns : List Note). ns ++ also) are ∙ append_assoc one.one.notes others also, noted_join k mid between steps others b u more also c w first rest)

-- the chain by itself
pub called : {V : Type 0} (k : Kind V) (first : V) (t : Trace) (steps : List (VaultCall × VaultAnswer)) (notes : List Note) (last : V) (u : Trace) → AllNoted k first t steps notes last u → AllCalled k first steps last
called k first t [] notes last u (same, none, still) = same
called k first t (step ∷ steps) notes last u (mid, between, one, more, are, rest) = (mid, one.one, called k mid between steps more last u rest)

-- what its notes showed
pub all_shown : {V : Type 0} (k : Kind V) (first : V) (t : Trace) (steps : List (VaultCall × VaultAnswer)) (notes : List Note) (last : V) (u : Trace) → AllNoted k first t steps notes last u → Shows notes t u
all_shown k first t [] notes last u (same, none, still) = subst (λ (x : Trace). Shows notes t x) (sym still) (subst (λ (ns : List Note). Shows ns t t) (sym none) (shows_none t))
all_shown k first t (step ∷ steps) notes last u (mid, between, one, more, are, rest) =
    subst (λ (ns : List Note). Shows ns t u) (sym are) (shows_then one.one.notes more t between u one.shown (all_shown k mid between steps more last u rest))

-- A chain of calls goes on with the store: it holds the same references, and its count of faults doesn't fall.
pub goes_all : {V : Type 0} (k : Kind V) (first : V) (t : Trace) (steps : List (VaultCall × VaultAnswer)) (notes : List Note) (last : V) (u : Trace) → AllNoted k first t steps notes last u → GoesOn (k.disk first) (k.disk last)
goes_all k first t [] notes last u (same, none, still) = subst (λ x. GoesOn (k.disk first) (k.disk x)) (sym same) (goes_same (k.disk first))
goes_all k first t (step ∷ steps) notes last u (mid, between, one, more, are, rest) = goes_then (k.disk first) (k.disk mid) (k.disk last) one.one.goes (goes_all k mid between steps more last u rest)

module _ {V : Type 0} (k : Kind V) where
  pub moves_none : (a : Scene V) → Moves k a [] [] a
  moves_none a = record { leads = refl; notes = []; chain = (refl, refl, refl); shown = shows_none a.trace; run = λ m held. (m, (refl, refl), held) }

  pub moves_join : (a b c : Scene V) (steps more : List (Call × Reply)) (asked also : List (VaultCall × VaultAnswer)) → Moves k a steps asked b → Moves k b more also c → Moves k a (steps ++ more) (asked ++ also) c
  moves_join a b c steps more asked also first rest = record {
    leads = leads_join a.desk steps b.desk more c.desk first.leads rest.leads;
    notes = first.notes ++ rest.notes;
    chain = noted_join k a.vault a.trace asked first.notes b.vault b.trace also rest.notes c.vault c.trace first.chain rest.chain;
    shown = shows_then first.notes rest.notes a.trace b.trace c.trace first.shown rest.shown;
    run = λ m held.
        let (n, run, holds) = first.run m held in
        let (o, runs, last) = rest.run n holds in
        (o, run_join m a.desk steps n b.desk more o c.desk run runs, last);
  }

  -- the count of faults of the vault's store doesn't fall
  pub later : (a b : Scene V) (steps : List (Call × Reply)) (asked : List (VaultCall × VaultAnswer)) → Moves k a steps asked b → (k.disk a.vault).faults ≤ (k.disk b.vault).faults
  later a b steps asked m = (goes_all k a.vault a.trace asked m.notes b.vault b.trace m.chain).faults

  -- a client's calls
  pub moves_own : (client : ℕ) (d new : DeskState) (v : V) (t : Trace) (steps : List (Call × Reply)) → All (IsOwn client) steps → Leads d steps new → Moves k (scene d v t) steps [] (scene new v t)
  moves_own client d new v t steps own leads = record { leads = leads; notes = []; chain = (refl, refl, refl); shown = shows_none t; run = λ m held. (m, own_run m client d steps new own leads, held) }

  -- a call of the desk that neither delivers nor publishes
  pub moves_one : (d new : DeskState) (v : V) (t : Trace) (call : Call) (reply : Reply) → MayCall d call → DeskStep d call reply new → ((m : Map nat_cmp) → desk.IsFed m call × (desk.map_next m d call ≡ m)) → Moves k (scene d v t) ((call, reply) ∷ []) [] (scene new v t)
  moves_one d new v t call reply may step plain = record {
    leads = (new, may, step, refl);
    notes = [];
    chain = (refl, refl, refl);
    shown = shows_none t;
    run = λ m held. (m, (new, may, step, (plain m).0, (sym (plain m).1, refl)), held);
  }

  -- a look
  pub looked : (a : Scene V) (look : Look) → a.desk.closed ≡ None → a.desk.stop ≡ None → look ≡ desk.look_at a.desk → Moves k a (look_calls look) [] a
  looked a look closed none is = moves_join a a a ((desk.IsStopped, desk.StoppedBy None) ∷ []) ((desk.Looks, desk.Seen look) ∷ []) [] []
      (moves_one a.desk a.desk a.vault a.trace desk.IsStopped (desk.StoppedBy None) tt (sym none, refl) (λ m. (tt, refl)))
      (moves_one a.desk a.desk a.vault a.trace desk.Looks (desk.Seen look) closed (is, refl) (λ m. (tt, refl)))
