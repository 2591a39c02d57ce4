-- Histories of turns at a desk: as a chain of allowed calls, and by their callers.
use Rattle.std.proofs.Common.{◌≡◌, ℕ, zero, suc, ◌==◌, Bool, true, false, cond, if◌then◌else◌, List, [], ◌∷◌, ◌++◌, flat_map, None, Some, option_map, unwrap_or, refl, sym, ap, ap₂, ◌∙◌, subst, eq-eqb, eqb-true}
use Rattle.std.proofs.lemmas.Bool.{false≢true}
use Rattle.std.proofs.lemmas.Option.{same_Some}
use Rattle.std.specs.List.{All, slice_get}
use Rattle.std.specs.List.Sorted.{IsStrictlyIncreasing}
use Rattle.std.proofs.lemmas.List.Elements.{All-nil, All-head, All-tail, All-append, filter-append}
use Rattle.ob_desk.specs.Desk.{DeskState, Call, Reply}
use Rattle.ob_session.specs.Steps.{Leads, IsOwn}
use Rattle.ob_session.specs.Clients.{client_of, is_of, said_by}
use Rattle.ob_turn.specs.declared.turn.Entry.{Entry}
use Rattle.ob_turn.specs.History as turns
use Rattle.ob_turn.specs.History.{Calls, entries_of}
use Rattle.ob_hall.specs.Turns.{client_numbers, IsBy, IsTurn}
use Rattle.ob_hall.specs.Passes.{Steps, calls_in}
use Rattle.ob_session.proofs.Numbers.{numbers_run}
use Rattle.ob_session.proofs.Saying.{leads_join, other_said}
use Rattle.ob_hall.proofs.Numbers.{one_place}

-- the calls that a turn noted, one behind the other
abbrev pub noted_calls : List Steps → Steps
noted_calls cs = flat_map (λ (calls : Steps). calls) cs

-- ---- a chain of allowed calls

pub calls_lead : (by : ℕ) (x : DeskState) (cs : List Steps) (y : DeskState) → Calls IsTurn by x cs y → Leads x (noted_calls cs) y
calls_lead by x [] y is = sym is
calls_lead by x (c ∷ cs) y (z, turn, rest) = leads_join x c z (noted_calls cs) y turn.0 (calls_lead by z cs y rest)

-- The calls of a legal history are a chain of allowed calls.
pub history_leads : (x : DeskState) (es : List (Entry Steps)) (y : DeskState) → turns.LeadsByTurns IsTurn x es y → Leads x (calls_in es) y
history_leads x [] y is = sym is
history_leads x (e ∷ es) y (z, calls, rest) = leads_join x (noted_calls e.calls) z (calls_in es) y (calls_lead e.by x e.calls z calls) (history_leads z es y rest)

-- ---- who called what

abbrev pub IsNoClients : Call × Reply → Type 0
IsNoClients step = client_of step.0 ≡ None

-- what isn't any client's isn't this one's
pub none_said : (c : ℕ) (steps : Steps) → All IsNoClients steps → said_by c steps ≡ []
none_said c [] none = refl
none_said c (step ∷ steps) none =
    ap (λ o. cond (unwrap_or (option_map (λ n. n == c) o) false) (step ∷ said_by c steps) (said_by c steps)) (All-head IsNoClients step steps none) ∙ none_said c steps (All-tail IsNoClients step steps none)

silent : (ns : List ℕ) (number i by : ℕ) (d : DeskState) (calls : Steps) → IsStrictlyIncreasing ns → slice_get ns i ≡ Some number → (suc i ≡ by → ⊥) → client_numbers d ≡ ns → IsBy by d calls → said_by number calls ≡ []
silent ns number i zero d calls up named other same by = none_said number calls by
silent ns number i (suc j) d calls up named other same (m, got, own) =
    other_said number m calls (λ is. other (ap suc (one_place ns i j number up named (ap (λ (l : List ℕ). slice_get l j) (sym same) ∙ (got ∙ ap Some is))))) own

calls_silent : (ns : List ℕ) (number i by : ℕ) (x : DeskState) (cs : List Steps) (y : DeskState) → IsStrictlyIncreasing ns → slice_get ns i ≡ Some number → (suc i ≡ by → ⊥) → client_numbers x ≡ ns → Calls IsTurn by x cs y
    → said_by number (noted_calls cs) ≡ []
calls_silent ns number i by x [] y up named other same calls = refl
calls_silent ns number i by x (c ∷ cs) y up named other same (z, turn, rest) =
    filter-append (λ (s : Call × Reply). is_of number s.0) c (noted_calls cs)
    ∙ ap₂ (λ (a b : Steps). a ++ b) (silent ns number i by x c up named other same turn.1) (calls_silent ns number i by z cs y up named other (numbers_run x c z turn.0 ∙ same) rest)

-- A client's calls in a legal history are those of its own pass's entries.
pub said_own : (ns : List ℕ) (number i : ℕ) (x : DeskState) (es : List (Entry Steps)) (y : DeskState) → IsStrictlyIncreasing ns → slice_get ns i ≡ Some number → client_numbers x ≡ ns → turns.LeadsByTurns IsTurn x es y
    → said_by number (calls_in es) ≡ said_by number (calls_in (entries_of (suc i) es))
said_own ns number i x [] y up named same leads = refl
said_own ns number i x (e ∷ es) y up named same (z, calls, rest) =
    filter-append (λ (s : Call × Reply). is_of number s.0) (noted_calls e.calls) (calls_in es)
    ∙ by_caller (suc i == e.by) refl (said_own ns number i z es y up named (numbers_run x (noted_calls e.calls) z (calls_lead e.by x e.calls z calls) ∙ same) rest)
  where
    by_caller : (b : Bool) → (suc i == e.by) ≡ b → said_by number (calls_in es) ≡ said_by number (calls_in (entries_of (suc i) es))
        → said_by number (noted_calls e.calls) ++ said_by number (calls_in es) ≡ said_by number (calls_in (if b then e ∷ entries_of (suc i) es else entries_of (suc i) es))
    by_caller true is later = ap (λ (l : Steps). said_by number (noted_calls e.calls) ++ l) later ∙ sym (filter-append (λ (s : Call × Reply). is_of number s.0) (noted_calls e.calls) (calls_in (entries_of (suc i) es)))
    by_caller false not later =
        ap (λ (l : Steps). l ++ said_by number (calls_in es)) (calls_silent ns number i e.by x e.calls z up named (λ is. false≢true (sym not ∙ eq-eqb (suc i) e.by is)) same calls) ∙ later

-- ---- the driver's entries

driver_calls : (by : ℕ) (x : DeskState) (cs : List Steps) (y : DeskState) → by ≡ zero → Calls IsTurn by x cs y → All IsNoClients (noted_calls cs)
driver_calls by x [] y is calls = All-nil IsNoClients
driver_calls by x (c ∷ cs) y is (z, turn, rest) = All-append IsNoClients c (noted_calls cs) (subst (λ (n : ℕ). IsBy n x c) is turn.1) (driver_calls by z cs y is rest)

-- The entries of place 0 have no client's call.
pub driver_alone : (x : DeskState) (es : List (Entry Steps)) (y : DeskState) → turns.LeadsByTurns IsTurn x es y → All IsNoClients (calls_in (entries_of 0 es))
driver_alone x [] y leads = All-nil IsNoClients
driver_alone x (e ∷ es) y (z, calls, rest) = by_caller (0 == e.by) refl (driver_alone z es y rest)
  where
    by_caller : (b : Bool) → (0 == e.by) ≡ b → All IsNoClients (calls_in (entries_of 0 es)) → All IsNoClients (calls_in (if b then e ∷ entries_of 0 es else entries_of 0 es))
    by_caller true is later = All-append IsNoClients (noted_calls e.calls) (calls_in (entries_of 0 es)) (driver_calls e.by x e.calls z (sym (eqb-true 0 e.by is)) calls) later
    by_caller false not later = later

-- ---- a client's entries

client_calls : (ns : List ℕ) (number i by : ℕ) (x : DeskState) (cs : List Steps) (y : DeskState) → slice_get ns i ≡ Some number → by ≡ suc i → client_numbers x ≡ ns → Calls IsTurn by x cs y → All (IsOwn number) (noted_calls cs)
client_calls ns number i by x [] y named is same calls = All-nil (IsOwn number)
client_calls ns number i by x (c ∷ cs) y named is same (z, turn, rest) =
    let mine : IsBy (suc i) x c = subst (λ (n : ℕ). IsBy n x c) is turn.1 in
    let one : mine.0 ≡ number = same_Some mine.0 number (sym mine.1 ∙ (ap (λ (l : List ℕ). slice_get l i) same ∙ named)) in
    All-append (IsOwn number) c (noted_calls cs) (subst (λ (n : ℕ). All (IsOwn n) c) one mine.2) (client_calls ns number i by z cs y named is (numbers_run x c z turn.0 ∙ same) rest)

pub client_alone : (ns : List ℕ) (number i : ℕ) (x : DeskState) (es : List (Entry Steps)) (y : DeskState) → slice_get ns i ≡ Some number → client_numbers x ≡ ns → turns.LeadsByTurns IsTurn x es y → All (IsOwn number) (calls_in (entries_of (suc i) es))
client_alone ns number i x [] y named same leads = All-nil (IsOwn number)
client_alone ns number i x (e ∷ es) y named same (z, calls, rest) =
    by_caller (suc i == e.by) refl (client_alone ns number i z es y named (numbers_run x (noted_calls e.calls) z (calls_lead e.by x e.calls z calls) ∙ same) rest)
  where
    by_caller : (b : Bool) → (suc i == e.by) ≡ b → All (IsOwn number) (calls_in (entries_of (suc i) es)) → All (IsOwn number) (calls_in (if b then e ∷ entries_of (suc i) es else entries_of (suc i) es))
    by_caller true is later = All-append (IsOwn number) (noted_calls e.calls) (calls_in (entries_of (suc i) es)) (client_calls ns number i e.by x e.calls z named (sym (eqb-true (suc i) e.by is)) same calls) later
    by_caller false not later = later
