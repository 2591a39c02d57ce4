-- Clients that call nothing behind their sign-off, and a desk that stays over.
use Rattle.std.proofs.Common.{◌≡◌, ◌∙◌, ℕ, zero, suc, ◌==◌, Bool, true, false, if◌then◌else◌, All, List, [], ◌∷◌, ◌++◌, length, Option, None, Some, slice_get, refl, sym, ap, ap₂, subst, arith, append-nil, append_assoc, eq-eqb}
use Rattle.std.proofs.lemmas.Option.{none-some}
use Rattle.std.proofs.lemmas.List.{length-append, nil_from_length}
use Rattle.std.proofs.lemmas.List.Elements.{All-nil, All-cons, All-head, All-tail}
use Rattle.ob_desk.specs.Desk.{DeskState}
use Rattle.ob_session.specs.Clients.{said_by, has_signed_off}
use Rattle.ob_session.specs.Agreeing.{Agrees}
use Rattle.ob_session.proofs.Numbers.{numbers_run}
use Rattle.ob_session.proofs.Saying.{said_append}
use Rattle.ob_turn.specs.declared.turn.Entry.{Entry}
use Rattle.ob_turn.specs.History.{Calls, entries_of, LeadsByTurns}
use Rattle.ob_hall.specs.Turns.{client_numbers, IsTurn}
use Rattle.ob_hall.specs.Passes.{Steps, IsNew, calls_in}
use Rattle.ob_hall.specs.Driving.{StepRule, AreSteps}
use Rattle.ob_hall.proofs.Histories.{noted_calls, calls_lead, history_leads}
use Rattle.ob_hall.proofs.Chaining.{calls_append}
use Rattle.ob_hall.proofs.Agreeing.{agrees}
use Rattle.ob_conduct.specs.Records.{IsOver}
use Rattle.ob_run.specs.Ends.{QuietRule, IsQuiet, AreQuiet}
use Rattle.ob_run.proofs.DeskShapes.{has_left}
use Rattle.ob_run.proofs.Cutting.{turns_split}

-- by what runners of a kind are to do
pub steps_quiet : {Plan : Type 0} (turn : Plan → StepRule) → IsQuiet turn → (plan : Plan) (client : ℕ) (said : Steps) (steps : List (Entry Steps)) → AreSteps (turn plan) client said steps → AreSteps QuietRule client said steps
steps_quiet turn quiet plan client said [] are = tt
steps_quiet turn quiet plan client said (e ∷ es) (one, rest) = (quiet plan client said (calls_in (e ∷ [])) one, steps_quiet turn quiet plan client (said ++ said_by client (calls_in (e ∷ []))) es rest)

-- ---- one caller's entries

entries_append : (by : ℕ) (xs ys : List (Entry Steps)) → entries_of by (xs ++ ys) ≡ entries_of by xs ++ entries_of by ys
entries_append by [] ys = refl
entries_append by (x ∷ xs) ys = one (by == x.by) (entries_append by xs ys)
  where
    one : (b : Bool) → entries_of by (xs ++ ys) ≡ entries_of by xs ++ entries_of by ys → (if b then x ∷ entries_of by (xs ++ ys) else entries_of by (xs ++ ys)) ≡ (if b then x ∷ entries_of by xs else entries_of by xs) ++ entries_of by ys
    one true later = ap (λ (es : List (Entry Steps)). x ∷ es) later
    one false later = later

none_more : (xs ys : List (Entry Steps)) → xs ++ ys ≡ xs → ys ≡ []
none_more xs ys is = let long = length-append xs ys in let same : length (xs ++ ys) ≡ length xs = ap length is in nil_from_length ys (omega (arith, long, same))

-- nothing was called in an entry
abbrev IsIdle : Entry Steps → Type 0
IsIdle e = calls_in (e ∷ []) ≡ []

behind_front : (rule : StepRule) (client : ℕ) (said : Steps) (xs ys : List (Entry Steps)) → AreSteps rule client said (xs ++ ys) → AreSteps rule client (said ++ said_by client (calls_in xs)) ys
behind_front rule client said [] ys are = subst (λ (s : Steps). AreSteps rule client s ys) (sym (append-nil said)) are
behind_front rule client said (x ∷ xs) ys (one, rest) = subst (λ (s : Steps). AreSteps rule client s ys) joined (behind_front rule client (said ++ said_by client (calls_in (x ∷ []))) xs ys rest)
  where
    joined : (said ++ said_by client (calls_in (x ∷ []))) ++ said_by client (calls_in xs) ≡ said ++ said_by client (calls_in (x ∷ xs))
    joined = append_assoc said (said_by client (calls_in (x ∷ []))) (said_by client (calls_in xs)) ∙ ap (λ (s : Steps). said ++ s) (sym (said_append client (calls_in (x ∷ [])) (calls_in xs)) ∙ ap (said_by client) (sym (calls_append (x ∷ []) xs)))

idle_behind : (client : ℕ) (said : Steps) (es : List (Entry Steps)) → has_signed_off said ≡ true → AreSteps QuietRule client said es → All IsIdle es
idle_behind client said [] signed are = All-nil IsIdle
idle_behind client said (e ∷ es) signed (one, rest) =
    All-cons IsIdle e es (one signed)
    (idle_behind client said es signed (subst (λ (s : Steps). AreSteps QuietRule client s es) (append-nil said) (subst (λ (s : Steps). AreSteps QuietRule client (said ++ said_by client s) es) (one signed) rest)))

-- ---- entries behind a desk that is over

-- of each client's place there are idle ones alone
abbrev AreIdle : List ℕ → List (Entry Steps) → Type 0
AreIdle clients es = (at number : ℕ) → slice_get clients at ≡ Some number → All IsIdle (entries_of (suc at) es)

idle_here : (at : ℕ) (e : Entry Steps) (es : List (Entry Steps)) → e.by ≡ suc at → All IsIdle (entries_of (suc at) (e ∷ es)) → IsIdle e
idle_here at e es by all = All-head IsIdle e (entries_of (suc at) es) (subst (λ (b : Bool). All IsIdle (if b then e ∷ entries_of (suc at) es else entries_of (suc at) es)) (eq-eqb (suc at) e.by (sym by)) all)

idle_later : (at : ℕ) (e : Entry Steps) (es : List (Entry Steps)) → All IsIdle (entries_of (suc at) (e ∷ es)) → All IsIdle (entries_of (suc at) es)
idle_later at e es all = one (suc at == e.by) all
  where
    one : (b : Bool) → All IsIdle (if b then e ∷ entries_of (suc at) es else entries_of (suc at) es) → All IsIdle (entries_of (suc at) es)
    one true is = All-tail IsIdle e (entries_of (suc at) es) is
    one false is = is

-- a caller that is none of the clients called nothing
no_client : (clients : List ℕ) (i : ℕ) (x : DeskState) (cs : List Steps) (y : DeskState) → client_numbers x ≡ clients → slice_get clients i ≡ None → Calls IsTurn (suc i) x cs y → noted_calls cs ≡ []
no_client clients i x [] y same none turn = refl
no_client clients i x (c ∷ cs) y same none (z, (led, by), rest) = absurd (none-some by.0 (sym none ∙ (ap (λ (l : List ℕ). slice_get l i) (sym same) ∙ by.1)))

entry_idle : (clients : List ℕ) (e : Entry Steps) (es : List (Entry Steps)) (x y : DeskState) (by : ℕ) → e.by ≡ by → client_numbers x ≡ clients → Calls IsTurn e.by x e.calls y → entries_of 0 (e ∷ es) ≡ [] → AreIdle clients (e ∷ es) → IsIdle e
entry_idle clients e es x y zero is same turn none idle = cc (subst (λ (b : Bool). (if b then e ∷ entries_of 0 es else entries_of 0 es) ≡ []) (eq-eqb 0 e.by (sym is)) none)
entry_idle clients e es x y (suc i) is same turn none idle = found (slice_get clients i) refl
  where
    found : (o : Option ℕ) → slice_get clients i ≡ o → IsIdle e
    found (Some number) at = idle_here i e es is (idle i number at)
    found None at = append-nil (noted_calls e.calls) ∙ no_client clients i x e.calls y same at (subst (λ (n : ℕ). Calls IsTurn n x e.calls y) is turn)

none_driven : (e : Entry Steps) (es : List (Entry Steps)) → entries_of 0 (e ∷ es) ≡ [] → entries_of 0 es ≡ []
none_driven e es none = one (0 == e.by) none
  where
    one : (b : Bool) → (if b then e ∷ entries_of 0 es else entries_of 0 es) ≡ [] → entries_of 0 es ≡ []
    one true is = cc is
    one false is = is

none_called : (clients : List ℕ) (es : List (Entry Steps)) (x y : DeskState) → client_numbers x ≡ clients → LeadsByTurns IsTurn x es y → entries_of 0 es ≡ [] → AreIdle clients es → calls_in es ≡ []
none_called clients [] x y same legal none idle = refl
none_called clients (e ∷ es) x y same (z, turn, rest) none idle =
    let first : IsIdle e = entry_idle clients e es x z e.by refl same turn none idle in
    let later : calls_in es ≡ [] = none_called clients es z y (numbers_run x (noted_calls e.calls) z (calls_lead e.by x e.calls z turn) ∙ same) rest (none_driven e es none) (λ at number named. idle_later at e es (idle at number named)) in
    calls_append (e ∷ []) es ∙ ap₂ (λ (s t : Steps). s ++ t) first later

-- Behind a history that leads to a desk that is over nothing is called, where the driver makes no entry and the clients are quiet.
pub same_calls : (opened over d : DeskState) (seen rest : List (Entry Steps)) → IsNew opened → LeadsByTurns IsTurn opened (seen ++ rest) d → LeadsByTurns IsTurn opened seen over → IsOver over → entries_of 0 (seen ++ rest) ≡ entries_of 0 seen → AreQuiet opened (seen ++ rest)
    → calls_in (seen ++ rest) ≡ calls_in seen
same_calls opened over d seen rest fresh legal so_far is_over driven quiet =
    let (mid, first, last) = turns_split opened seen rest d legal in
    let numbers : client_numbers mid ≡ client_numbers opened = numbers_run opened (calls_in seen) mid (history_leads opened seen mid first) in
    let none : entries_of 0 rest ≡ [] = none_more (entries_of 0 seen) (entries_of 0 rest) (sym (entries_append 0 seen rest) ∙ driven) in
    let idle : AreIdle (client_numbers opened) rest = λ at number named.
    let a : Agrees over number (said_by number (calls_in (entries_of (suc at) seen))) = agrees opened over seen at number fresh so_far named in
    let signed : has_signed_off (said_by number (calls_in (entries_of (suc at) seen))) ≡ true = sym a.signed_off ∙ has_left over.clients number a.client is_over.signed_off a.found in
    let steps : AreSteps QuietRule number [] (entries_of (suc at) seen ++ entries_of (suc at) rest) = subst (AreSteps QuietRule number []) (entries_append (suc at) seen rest) (quiet at number named) in
    idle_behind number (said_by number (calls_in (entries_of (suc at) seen))) (entries_of (suc at) rest) signed (behind_front QuietRule number [] (entries_of (suc at) seen) (entries_of (suc at) rest) steps) in
    calls_append seen rest ∙ (ap (λ (s : Steps). calls_in seen ++ s) (none_called (client_numbers opened) rest mid d numbers last none idle) ∙ append-nil (calls_in seen))
