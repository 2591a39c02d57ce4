-- A hall whose passes made no call.
use Rattle.std.proofs.Common.{◌≡◌, ◌∙◌, ◌≤◌, ◌<◌, ◌+◌, ◌⊎◌, ℕ, zero, suc, Bool, if◌then◌else◌, All, List, [], ◌∷◌, length, refl, sym, subst, inl, inr, arith, eq-eqb}
use Rattle.std.proofs.lemmas.Bool.{cases_lt}
use Rattle.std.proofs.lemmas.List.Elements.{All-head, All-tail}
use Rattle.ob_desk.specs.Desk.{DeskState}
use Rattle.ob_turn.specs.declared.turn.Entry.{Entry}
use Rattle.ob_turn.specs.History.{entries_of, LeadsByTurns}
use Rattle.ob_hall.specs.Turns.{IsTurn}
use Rattle.ob_hall.specs.Passes.{Steps, Hall, Pass, opening_of, raised_by}
use Rattle.ob_hall.specs.Opening.{IsFreshPass, AreClients, ArePasses}
use Rattle.ob_hall.specs.Closing.{HasPass, IsWholeHistory}

-- a pass that made no entry has none in the history
none_of : (hall : Hall) (log : List (Entry Steps)) (raised : List ℕ) (at : ℕ) (pass : Pass) → IsFreshPass hall at pass → HasPass log raised pass → entries_of at log ≡ []
none_of hall log raised at pass fresh has = subst (λ (n : ℕ). entries_of n log ≡ []) fresh.place (has.own ∙ fresh.none_made)

not_below : (n : ℕ) → n < 0 → ⊥
not_below n below = omega (arith, below)

clients_none : (hall : Hall) (log : List (Entry Steps)) (raised : List ℕ) (at : ℕ) (clients : List ℕ) (passes : List Pass) → AreClients hall at clients passes → All (HasPass log raised) passes → (n : ℕ) → n < length clients → entries_of (suc at + n) log ≡ []
clients_none hall log raised at [] [] are has n below = absurd (not_below n below)
clients_none hall log raised at [] (p ∷ passes) are has n below = absurd are
clients_none hall log raised at (c ∷ clients) [] are has n below = absurd are
clients_none hall log raised at (c ∷ clients) (p ∷ passes) (fresh, named, mute, more) has zero below =
    subst (λ (m : ℕ). entries_of m log ≡ []) (plus_zero (suc at)) (none_of hall log raised (suc at) p fresh (All-head (HasPass log raised) p passes has))
  where
    plus_zero : (m : ℕ) → m ≡ m + zero
    plus_zero m = omega arith
clients_none hall log raised at (c ∷ clients) (p ∷ passes) (fresh, named, mute, more) has (suc n) below =
    subst (λ (m : ℕ). entries_of m log ≡ []) (move at n) (clients_none hall log raised (suc at) clients passes more (All-tail (HasPass log raised) p passes has) n (omega (arith, below)))
  where
    move : (i j : ℕ) → suc (suc i) + j ≡ suc i + suc j
    move i j = omega arith

-- a history of which no caller made an entry
no_entry : (log : List (Entry Steps)) → ((by : ℕ) → entries_of by log ≡ []) → log ≡ []
no_entry [] none = refl
no_entry (e ∷ es) none = cc (subst (λ (b : Bool). (if b then e ∷ entries_of e.by es else entries_of e.by es) ≡ []) (eq-eqb e.by e.by refl) (none e.by))

pub idle_halls : (hall : Hall) (clients : List ℕ) (passes : List Pass) (d : DeskState) → ArePasses hall clients passes → (w : IsWholeHistory hall passes d) → (w.log ≡ []) × (d ≡ opening_of hall)
idle_halls hall clients passes d are w = (empty, sym (subst (λ (es : List (Entry Steps)). LeadsByTurns IsTurn (opening_of hall) es d) empty w.legal))
  where
    has : All (HasPass w.log (raised_by w.driver)) (are.driver ∷ are.others)
    has = subst (All (HasPass w.log (raised_by w.driver))) are.are w.passes_are

    one_more : (by : ℕ) → suc 0 + by ≡ suc by
    one_more by = omega arith

    of_client : (by : ℕ) → (by < length clients) ⊎ (length clients ≤ by) → entries_of (suc by) w.log ≡ []
    of_client by (inl below) = subst (λ (n : ℕ). entries_of n w.log ≡ []) (one_more by) (clients_none hall w.log (raised_by w.driver) 0 clients are.others are.clients_are (All-tail (HasPass w.log (raised_by w.driver)) are.driver are.others has) by below)
    of_client by (inr above) = w.no_others (suc by) (let count = are.callers in omega (arith, count, above))

    none : (by : ℕ) → entries_of by w.log ≡ []
    none zero = none_of hall w.log (raised_by w.driver) 0 are.driver are.first (All-head (HasPass w.log (raised_by w.driver)) are.driver are.others has)
    none (suc by) = of_client by (cases_lt by (length clients))

    empty : w.log ≡ []
    empty = no_entry w.log none
