-- Clients' turns behind the driver's, and whether one of them stopped the desk.
use Rattle.std.proofs.Common.{◌≡◌, ◌∙◌, ◌⊎◌, ℕ, All, List, [], ◌∷◌, ◌++◌, flat_map, Option, None, Some, refl, sym, ap, subst, inl, inr, append-nil, append_assoc}
use Rattle.std.proofs.lemmas.List.Elements.{All-head, All-tail, All-weaker}
use Rattle.ob_base.specs.declared.fault.Fault.TheVariants.{Memory}
use Rattle.ob_desk.specs.Desk.{DeskState}
use Rattle.ob_session.specs.Steps.{Leads, IsOwn}
use Rattle.ob_turn.specs.declared.turn.Entry.{Entry}
use Rattle.ob_turn.specs.History.{LeadsByTurns}
use Rattle.ob_hall.specs.Turns.{IsTurn}
use Rattle.ob_hall.specs.Passes.{Steps}
use Rattle.ob_hall.proofs.Histories.{noted_calls, calls_lead, history_leads}
use Rattle.ob_conduct.specs.Acts.{Act, Batch, Says, Halts, Rests, Takes, Delivers, DeliverFails, FetchFails, RestUnwatched, Closes, Publishes, Refuses, Unprinted, Unwatched, history, rest_calls}
use Rattle.ob_conduct.specs.Rounds.{IsOneThing}
use Rattle.ob_conduct.specs.Moves.{IsSaid, MayComeBefore, IsForestalled}
use Rattle.ob_conduct.proofs.Behind.{leads_split}
use Rattle.ob_driver.specs.Turning.{IsOneTurn}
use Rattle.ob_run.proofs.Stops.{stop_behind, stop_run, stays_stopped, EndsBy, own_stops}
use Rattle.ob_run.proofs.Cutting.{snoc_same, LastTurn, woven_history, turns_split}

-- ---- the desks about the driver's last turn

pub record Desks (clients : List ℕ) (entries : List (Entry Steps)) (driven acts : List Act) (opened d : DeskState) (l : LastTurn clients entries driven acts) : Type 0 where
  pub x : DeskState
  pub y : DeskState
  pub legal : LeadsByTurns IsTurn opened l.before x
  pub front : Leads opened (history l.front) x
  pub its : Leads x (history l.these) y
  pub rest : Leads y (history l.behind) d

pub desks : (clients : List ℕ) (entries : List (Entry Steps)) (driven acts : List Act) (opened d : DeskState) (l : LastTurn clients entries driven acts) → LeadsByTurns IsTurn opened entries d → Desks clients entries driven acts opened d l
desks clients entries driven acts opened d l legal =
    let (x, first, (y, turn, last)) = turns_split opened l.before (l.turn ∷ l.after) d (subst (λ (es : List (Entry Steps)). LeadsByTurns IsTurn opened es d) l.entries_are legal) in
    record {
      x = x;
      y = y;
      legal = first;
      front = subst (λ (s : Steps). Leads opened s x) (sym (woven_history clients l.before l.earlier l.front l.woven)) (history_leads opened l.before x first);
      its = subst (λ (s : Steps). Leads x s y) (sym (append-nil (noted_calls l.turn.calls)) ∙ l.calls_are) (calls_lead l.turn.by x l.turn.calls y turn);
      rest = subst (λ (s : Steps). Leads y s d) (sym (woven_history clients l.after [] l.behind l.rest)) (history_leads y l.after d last);
    }

-- ---- clients' turns

said_before : (act one : Act) → IsSaid one → MayComeBefore one act
said_before act (Says client steps) said = said
said_before act (Halts fault) said = absurd said
said_before act (Rests look) said = absurd said
said_before act (Takes look keys) said = absurd said
said_before act (Delivers batch) said = absurd said
said_before act (DeliverFails keys fault) said = absurd said
said_before act (FetchFails look batches keys fault) said = absurd said
said_before act (RestUnwatched look batches) said = absurd said
said_before act (Closes look batches writes) said = absurd said
said_before act (Publishes writes left told) said = absurd said
said_before act (Refuses writes refused) said = absurd said
said_before act Unprinted said = absurd said
said_before act Unwatched said = absurd said

pub all_before : (act : Act) (acts : List Act) → All IsSaid acts → All (λ (one : Act). MayComeBefore one act) acts
all_before act acts said = All-weaker IsSaid (λ (one : Act). MayComeBefore one act) (said_before act) acts said

-- the desk isn't stopped, or one of these turns stopped it
abbrev pub Held : Act → DeskState → List Act → Type 0
Held act new acts = (new.stop ≡ None) ⊎ ((new.stop ≡ Some Memory) × IsForestalled act acts)

pub held_later : (act : Act) (new : DeskState) (xs ys : List Act) → Held act new ys → Held act new (xs ++ ys)
held_later act new xs ys (inl none) = inl none
held_later act new xs ys (inr (stop, f)) = inr (
  stop,
  record {
    before = xs ++ f.before;
    client = f.client;
    steps = f.steps;
    behind = f.behind;
    front_is = ap (λ (zs : List Act). xs ++ zs) f.front_is ∙ sym (append_assoc xs f.before (Says f.client f.steps ∷ f.behind));
    stops = f.stops;
    says = f.says;
  },
)

then_held : (act : Act) (client : ℕ) (steps : Steps) (acts : List Act) (mid new : DeskState) → All IsSaid acts → Leads mid (history acts) new → EndsBy mid steps → (mid.stop ≡ None → Held act new acts) → Held act new (Says client steps ∷ acts)
then_held act client steps acts mid new said rest (inl still) on = held_later act new (Says client steps ∷ []) acts (on still)
then_held act client steps acts mid new said rest (inr (stop, has)) on = inr (stays_stopped Memory mid (history acts) new rest stop, record { before = []; client = client; steps = steps; behind = acts; front_is = refl; stops = has; says = all_before act acts said })

pub said_held : (act : Act) (acts : List Act) (d new : DeskState) → All IsSaid acts → Leads d (history acts) new → d.stop ≡ None → Held act new acts
said_held act [] d new said is none = inl (ap (λ (x : DeskState). x.stop) is ∙ none)
said_held act (Says client steps ∷ acts) d new said leads none =
    let own : All (IsOwn client) steps = All-head IsSaid (Says client steps) acts said in
    let others : All IsSaid acts = All-tail IsSaid (Says client steps) acts said in
    let (mid, first, rest) = leads_split d steps (history acts) new leads in
    then_held act client steps acts mid new others rest (own_stops client d steps mid own first none) (λ still. said_held act acts mid new others rest still)
said_held act (Halts fault ∷ acts) d new said leads none = absurd (All-head IsSaid (Halts fault) acts said)
said_held act (Rests look ∷ acts) d new said leads none = absurd (All-head IsSaid (Rests look) acts said)
said_held act (Takes look keys ∷ acts) d new said leads none = absurd (All-head IsSaid (Takes look keys) acts said)
said_held act (Delivers batch ∷ acts) d new said leads none = absurd (All-head IsSaid (Delivers batch) acts said)
said_held act (DeliverFails keys fault ∷ acts) d new said leads none = absurd (All-head IsSaid (DeliverFails keys fault) acts said)
said_held act (FetchFails look batches keys fault ∷ acts) d new said leads none = absurd (All-head IsSaid (FetchFails look batches keys fault) acts said)
said_held act (RestUnwatched look batches ∷ acts) d new said leads none = absurd (All-head IsSaid (RestUnwatched look batches) acts said)
said_held act (Closes look batches writes ∷ acts) d new said leads none = absurd (All-head IsSaid (Closes look batches writes) acts said)
said_held act (Publishes writes left told ∷ acts) d new said leads none = absurd (All-head IsSaid (Publishes writes left told) acts said)
said_held act (Refuses writes refused ∷ acts) d new said leads none = absurd (All-head IsSaid (Refuses writes refused) acts said)
said_held act (Unprinted ∷ acts) d new said leads none = absurd (All-head IsSaid Unprinted acts said)
said_held act (Unwatched ∷ acts) d new said leads none = absurd (All-head IsSaid Unwatched acts said)

-- ---- an act behind which no client can have stopped the desk

abbrev pub IsCalm : Act → Type 0
IsCalm (Takes look keys) = Unit {0}
IsCalm (Closes look batches writes) = Unit {0}
IsCalm _ = ⊥

pub rest_stop : (s : Option _) (batches : List Batch) (more last : Steps) → stop_behind s ((rest_calls batches ++ more) ++ last) ≡ stop_behind s (more ++ last)
rest_stop s [] more last = refl
rest_stop s (batch ∷ batches) more last = rest_stop s batches more last

-- what its turn ends with
abbrev pub EndsWith : (Act → Type 0) → List Act → Type 0
EndsWith P these = (zs : List Act) (z : Act) → these ≡ zs ++ z ∷ [] → P z

pub calm_turn : (these : List Act) (x y : DeskState) → IsOneTurn these → EndsWith IsCalm these → Leads x (history these) y → y.stop ≡ None
calm_turn (Takes look keys ∷ []) x y one calm leads = stop_run x (history (Takes look keys ∷ [])) y leads ∙ sym leads.2.0
calm_turn (Closes look batches writes ∷ []) x y one calm leads = stop_run x (history (Closes look batches writes ∷ [])) y leads ∙ (rest_stop x.stop batches _ _ ∙ sym leads.2.0)
calm_turn (Publishes ended left told ∷ []) x y one calm leads = absurd (calm [] (Publishes ended left told) refl)
calm_turn (Refuses asked refused ∷ []) x y one calm leads = absurd (calm [] (Refuses asked refused) refl)
calm_turn (Halts fault ∷ []) x y one calm leads = absurd (calm [] (Halts fault) refl)
calm_turn (Rests look ∷ []) x y one calm leads = absurd (calm [] (Rests look) refl)
calm_turn (Delivers batch ∷ []) x y one calm leads = absurd (calm [] (Delivers batch) refl)
calm_turn (DeliverFails keys fault ∷ []) x y one calm leads = absurd (calm [] (DeliverFails keys fault) refl)
calm_turn (FetchFails look batches keys fault ∷ []) x y one calm leads = absurd (calm [] (FetchFails look batches keys fault) refl)
calm_turn (RestUnwatched look batches ∷ []) x y one calm leads = absurd (calm [] (RestUnwatched look batches) refl)
calm_turn (Unprinted ∷ []) x y one calm leads = absurd (calm [] Unprinted refl)
calm_turn (Unwatched ∷ []) x y one calm leads = absurd (calm [] Unwatched refl)
calm_turn _ x y one calm leads = absurd one

-- ---- what the driver does between such an act and another one

-- a batch that was read is delivered, and an epoch that was ended is published
abbrev pub IsCarried : Act → Type 0
IsCarried (Delivers batch) = Unit {0}
IsCarried (Publishes writes left told) = Unit {0}
IsCarried _ = ⊥

-- It is a turn of its own, which leaves a desk stopped or not.
abbrev pub CarriedTurn : List Act → DeskState → DeskState → Type 0
CarriedTurn these x y = (z : Act) × (these ≡ z ∷ []) × (y.stop ≡ x.stop)

pub carried_turn : (these : List Act) (x y : DeskState) → IsOneTurn these → EndsWith IsCarried these → Leads x (history these) y → CarriedTurn these x y
carried_turn (Delivers batch ∷ []) x y one ends leads = (Delivers batch, refl, stop_run x (history (Delivers batch ∷ [])) y leads)
carried_turn (Publishes ended left told ∷ []) x y one ends leads = (Publishes ended left told, refl, stop_run x (history (Publishes ended left told ∷ [])) y leads)
carried_turn (Takes look keys ∷ []) x y one ends leads = absurd (ends [] (Takes look keys) refl)
carried_turn (Closes look batches writes ∷ []) x y one ends leads = absurd (ends [] (Closes look batches writes) refl)
carried_turn (Refuses asked refused ∷ []) x y one ends leads = absurd (ends [] (Refuses asked refused) refl)
carried_turn (Halts fault ∷ []) x y one ends leads = absurd (ends [] (Halts fault) refl)
carried_turn (Rests look ∷ []) x y one ends leads = absurd (ends [] (Rests look) refl)
carried_turn (DeliverFails keys fault ∷ []) x y one ends leads = absurd (ends [] (DeliverFails keys fault) refl)
carried_turn (FetchFails look batches keys fault ∷ []) x y one ends leads = absurd (ends [] (FetchFails look batches keys fault) refl)
carried_turn (RestUnwatched look batches ∷ []) x y one ends leads = absurd (ends [] (RestUnwatched look batches) refl)
carried_turn (Unprinted ∷ []) x y one ends leads = absurd (ends [] Unprinted refl)
carried_turn (Unwatched ∷ []) x y one ends leads = absurd (ends [] Unwatched refl)
carried_turn _ x y one ends leads = absurd one

-- ---- an act that stands behind another of its thing

-- a batch that is refused, an end that is, lines that fail, and what is done where the watch broke
abbrev pub IsSecond : Act → Type 0
IsSecond (DeliverFails keys fault) = Unit {0}
IsSecond (Refuses writes refused) = Unit {0}
IsSecond Unprinted = Unit {0}
IsSecond Unwatched = Unit {0}
IsSecond _ = ⊥

pub record EndsCalm (acts : List Act) : Type 0 where
  pub init : List Act
  pub last : Act
  pub are : acts ≡ init ++ last ∷ []
  pub calm : IsCalm last

-- these end with a batch that was taken, and delivered, or with an epoch that was closed, and published
pub record EndsCarried (act : Act) (acts : List Act) : Type 0 where
  pub init : List Act
  pub begun : Act
  pub calm : IsCalm begun
  pub carried : Act
  pub is_carried : IsCarried carried
  pub may : MayComeBefore carried act
  pub are : acts ≡ (init ++ begun ∷ []) ++ carried ∷ []

-- what stands before such an act
abbrev pub StandsBefore : Act → List Act → Type 0
StandsBefore act xs = EndsCalm xs ⊎ EndsCarried act xs

not_second : (init xs : List Act) (a y : Act) → init ++ a ∷ [] ≡ xs ++ y ∷ [] → IsSecond y → IsSecond a
not_second init xs a y is second = subst IsSecond (sym (snoc_same init xs a y is).1) second

two_then : (init : List Act) (a b : Act) → (init ++ a ∷ []) ++ b ∷ [] ≡ init ++ a ∷ b ∷ []
two_then init a b = append_assoc init (a ∷ []) (b ∷ [])

three_then : (init : List Act) (a b c : Act) → ((init ++ a ∷ []) ++ b ∷ []) ++ c ∷ [] ≡ init ++ a ∷ b ∷ c ∷ []
three_then init a b c = ap (λ (xs : List Act). xs ++ c ∷ []) (two_then init a b) ∙ append_assoc init (a ∷ b ∷ []) (c ∷ [])

-- the first of two acts, where it is calm
first_calm : (init xs : List Act) (a b y : Act) → IsCalm a → init ++ a ∷ b ∷ [] ≡ xs ++ y ∷ [] → StandsBefore y xs
first_calm init xs a b y calm is = inl (record { init = init; last = a; are = sym (snoc_same (init ++ a ∷ []) xs b y (two_then init a b ∙ is)).0; calm = calm })

-- the first two of three
two_carried : (init xs : List Act) (a b c y : Act) → IsCalm a → IsCarried b → MayComeBefore b c → init ++ a ∷ b ∷ c ∷ [] ≡ xs ++ y ∷ [] → StandsBefore y xs
two_carried init xs a b c y calm carried may is =
    let same = snoc_same ((init ++ a ∷ []) ++ b ∷ []) xs c y (three_then init a b c ∙ is) in
    inr (record { init = init; begun = a; calm = calm; carried = b; is_carried = carried; may = subst (MayComeBefore b) same.1 may; are = sym same.0 })

thing_calm : (thing init xs : List Act) (y : Act) → IsOneThing thing → init ++ thing ≡ xs ++ y ∷ [] → IsSecond y → StandsBefore y xs
thing_calm (Takes look keys ∷ DeliverFails asked fault ∷ []) init xs y one is second = first_calm init xs (Takes look keys) (DeliverFails asked fault) y tt is
thing_calm (Closes look batches writes ∷ Refuses asked refused ∷ []) init xs y one is second = first_calm init xs (Closes look batches writes) (Refuses asked refused) y tt is
thing_calm (Takes look keys ∷ Delivers batch ∷ Unwatched ∷ []) init xs y one is second = two_carried init xs (Takes look keys) (Delivers batch) Unwatched y tt tt tt is
thing_calm (Closes look batches writes ∷ Publishes ended left told ∷ Unprinted ∷ []) init xs y one is second = two_carried init xs (Closes look batches writes) (Publishes ended left told) Unprinted y tt tt tt is
thing_calm (Closes look batches writes ∷ Publishes ended left told ∷ Unwatched ∷ []) init xs y one is second = two_carried init xs (Closes look batches writes) (Publishes ended left told) Unwatched y tt tt tt is
thing_calm (Halts fault ∷ []) init xs y one is second = absurd (not_second init xs (Halts fault) y is second)
thing_calm (Rests look ∷ []) init xs y one is second = absurd (not_second init xs (Rests look) y is second)
thing_calm (Takes look keys ∷ Delivers batch ∷ []) init xs y one is second = absurd (not_second (init ++ Takes look keys ∷ []) xs (Delivers batch) y (two_then init (Takes look keys) (Delivers batch) ∙ is) second)
thing_calm (FetchFails look batches keys fault ∷ []) init xs y one is second = absurd (not_second init xs (FetchFails look batches keys fault) y is second)
thing_calm (RestUnwatched look batches ∷ []) init xs y one is second = absurd (not_second init xs (RestUnwatched look batches) y is second)
thing_calm (Closes look batches writes ∷ Publishes ended left told ∷ []) init xs y one is second =
    absurd (not_second (init ++ Closes look batches writes ∷ []) xs (Publishes ended left told) y (two_then init (Closes look batches writes) (Publishes ended left told) ∙ is) second)
thing_calm _ init xs y one is second = absurd one

pub before_second : (thing : List Act) (things : List (List Act)) (init xs : List Act) (y : Act) → All IsOneThing (thing ∷ things) → init ++ flat_map (λ (t : List Act). t) (thing ∷ things) ≡ xs ++ y ∷ [] → IsSecond y → StandsBefore y xs
before_second thing [] init xs y each is second = thing_calm thing init xs y (All-head IsOneThing thing [] each) (ap (λ (zs : List Act). init ++ zs) (sym (append-nil thing)) ∙ is) second
before_second thing (next ∷ things) init xs y each is second =
    before_second next things (init ++ thing) xs y (All-tail IsOneThing thing (next ∷ things) each) (append_assoc init thing (flat_map (λ (t : List Act). t) (next ∷ things)) ∙ is) second
