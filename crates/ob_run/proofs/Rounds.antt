-- Rounds in a whole history: the acts of the entries that stand in it in rounds.
use Rattle.std.proofs.Common.{◌≡◌, ◌∙◌, ◌≤◌, ◌==◌, ◌||◌, ℕ, zero, suc, Bool, true, false, if◌then◌else◌, All, List, [], ◌∷◌, ◌++◌, flat_map, slice_get, Some, refl, sym, ap, ap₂, subst, inl, inr, append_assoc, eq-eqb}
use Rattle.std.proofs.lemmas.Option.{none-some, same_Some}
use Rattle.std.proofs.lemmas.List.Elements.{All-nil, All-cons, All-head, All-tail, All-append, All-weaker}
use Rattle.ob_turn.specs.declared.turn.Entry.{Entry}
use Rattle.ob_hall.specs.Passes.{Steps, calls_in}
use Rattle.ob_conduct.specs.Acts.{Act, Says, Halts, Rests, Takes, Delivers, DeliverFails, FetchFails, RestUnwatched, Closes, Publishes, Refuses, Unprinted, Unwatched}
use Rattle.ob_conduct.specs.Rounds.{AreDriven, AreTurns, IsOneThing, acts_of, InRounds}
use Rattle.ob_driver.specs.Turning.{IsOneTurn, AreActs}
use Rattle.ob_driver.specs.Places.{StandIn}
use Rattle.ob_run.specs.Woven.{IsEntryOf, AreWoven}
use Rattle.ob_run.specs.Threaded.{is_by_hand, without_others}
use Rattle.ob_run.proofs.Cutting.{lone_turn}
use Rattle.ob_run.proofs.WovenRun.{turn_driven}
use Rattle.ob_run.proofs.Standing.{count, ComesInRounds, IsOthers, IsWithoutOthers, stand_within, are_all}

-- ---- acts without those of others

less_one : (i j : ℕ) → suc i ≡ suc j → i ≡ j
less_one i j same = cc same

module _ (hand : List ℕ) where
  -- the driver's stay
  without_driven : (acts more : List Act) → AreDriven acts → without_others hand (acts ++ more) ≡ acts ++ without_others hand more
  without_driven [] more are = refl
  without_driven (Says client steps ∷ acts) more are = absurd are
  without_driven (Halts fault ∷ acts) more are = ap (λ (l : List Act). Halts fault ∷ l) (without_driven acts more are)
  without_driven (Rests look ∷ acts) more are = ap (λ (l : List Act). Rests look ∷ l) (without_driven acts more are)
  without_driven (Takes look keys ∷ acts) more are = ap (λ (l : List Act). Takes look keys ∷ l) (without_driven acts more are)
  without_driven (Delivers batch ∷ acts) more are = ap (λ (l : List Act). Delivers batch ∷ l) (without_driven acts more are)
  without_driven (DeliverFails keys fault ∷ acts) more are = ap (λ (l : List Act). DeliverFails keys fault ∷ l) (without_driven acts more are)
  without_driven (FetchFails look batches keys fault ∷ acts) more are = ap (λ (l : List Act). FetchFails look batches keys fault ∷ l) (without_driven acts more are)
  without_driven (RestUnwatched look batches ∷ acts) more are = ap (λ (l : List Act). RestUnwatched look batches ∷ l) (without_driven acts more are)
  without_driven (Closes look batches writes ∷ acts) more are = ap (λ (l : List Act). Closes look batches writes ∷ l) (without_driven acts more are)
  without_driven (Publishes writes left told ∷ acts) more are = ap (λ (l : List Act). Publishes writes left told ∷ l) (without_driven acts more are)
  without_driven (Refuses writes refused ∷ acts) more are = ap (λ (l : List Act). Refuses writes refused ∷ l) (without_driven acts more are)
  without_driven (Unprinted ∷ acts) more are = ap (λ (l : List Act). Unprinted ∷ l) (without_driven acts more are)
  without_driven (Unwatched ∷ acts) more are = ap (λ (l : List Act). Unwatched ∷ l) (without_driven acts more are)

  -- and so do those of a client by hand, but for those of another
  without_said : (client : ℕ) (steps : Steps) (more : List Act) (b : Bool) → is_by_hand hand client ≡ b → without_others hand (Says client steps ∷ more) ≡ (if b then Says client steps ∷ without_others hand more else without_others hand more)
  without_said client steps more b is = ap (λ (b : Bool). if b then Says client steps ∷ without_others hand more else without_others hand more) is

module _ (clients hand : List ℕ) where
  kept_entry : (by : ℕ) (steps : Steps) (mine these rest : List Act) → ComesInRounds clients hand by → IsEntryOf clients by steps mine these → without_others hand (these ++ rest) ≡ these ++ without_others hand rest
  kept_entry zero steps mine these rest comes (one, is, same) =
      subst (λ (l : List Act). without_others hand (l ++ rest) ≡ l ++ without_others hand rest) (sym same) (without_driven hand mine rest (turn_driven mine one))
  kept_entry (suc i) steps mine these rest (inl driver) entry = absurd (cc driver)
  kept_entry (suc i) steps mine these rest (inr (j, client, place, named, among)) (none, inl (number, is, same)) =
      let at : i ≡ j = less_one i j place in
      let known : client ≡ number = same_Some client number (sym named ∙ (ap (slice_get clients) (sym at) ∙ is)) in
      subst (λ (l : List Act). without_others hand (l ++ rest) ≡ l ++ without_others hand rest) (sym same) (without_said hand number steps rest true (ap (is_by_hand hand) (sym known) ∙ among))
  kept_entry (suc i) steps mine these rest (inr (j, client, place, named, among)) (none, inr (nobody, quiet, same)) =
      absurd (none-some client (sym nobody ∙ (ap (slice_get clients) (less_one i j place) ∙ named)))

  other_entry : (by : ℕ) (steps : Steps) (mine these rest : List Act) → IsOthers clients hand by → IsEntryOf clients by steps mine these → (mine ≡ []) × (without_others hand (these ++ rest) ≡ without_others hand rest)
  other_entry zero steps mine these rest (i, place, others) entry = absurd (cc place)
  other_entry (suc i) steps mine these rest (j, place, others) (none, inl (number, is, same)) = (
    none,
    ap (λ (l : List Act). without_others hand (l ++ rest)) same ∙ without_said hand number steps rest false (others number (ap (slice_get clients) (sym (less_one i j place)) ∙ is)),
  )
  other_entry (suc i) steps mine these rest (j, place, others) (none, inr (nobody, quiet, same)) = (none, ap (λ (l : List Act). without_others hand (l ++ rest)) same)

  -- the acts of a history without the others' entries are its acts without theirs
  pub woven_without : (es log : List (Entry Steps)) (own acts : List Act) → IsWithoutOthers clients hand es log → AreWoven clients log own acts → AreWoven clients es own (without_others hand acts)
  woven_without es [] own acts none (nothing, quiet) = subst (λ (l : List (Entry Steps)). AreWoven clients l own (without_others hand acts)) (sym none) (nothing, ap (without_others hand) quiet)
  woven_without es (e ∷ log) own acts (inl (other, is)) (mine, more, these, rest, own_is, acts_are, entry, woven) =
      let (none, without) = other_entry e.by (calls_in (e ∷ [])) mine these rest other entry in
      subst (λ (l : List Act). AreWoven clients es own l) (sym (ap (without_others hand) acts_are ∙ without))
      (subst (λ (l : List Act). AreWoven clients es l (without_others hand rest)) (sym (own_is ∙ ap (λ (l : List Act). l ++ more) none)) (woven_without es log more rest is woven))
  woven_without es (e ∷ log) own acts (inr (kept, same, comes, is)) (mine, more, these, rest, own_is, acts_are, entry, woven) =
      subst (λ (l : List (Entry Steps)). AreWoven clients l own (without_others hand acts)) (sym same)
      (mine, more, these, without_others hand rest, own_is, ap (without_others hand) acts_are ∙ kept_entry e.by (calls_in (e ∷ [])) mine these rest comes entry, entry, woven_without kept log more rest is woven)

-- ---- rounds of entries

-- a round: an entry of each client by hand, and then those of the driver, in which it did one thing
pub record EntryRound : Type 0 where
  pub steps : List (Entry Steps)
  pub turns : List (Entry Steps)
  pub thing : List Act

abbrev pub entries_in : List EntryRound → List (Entry Steps)
entries_in rounds = flat_map (λ (r : EntryRound). r.steps ++ r.turns) rounds

abbrev pub things_in : List EntryRound → List Act
things_in rounds = flat_map (λ (r : EntryRound). r.thing) rounds

-- an entry of each of these clients, in order
abbrev pub AreStepsOf : List ℕ → List ℕ → List (Entry Steps) → Type 0
AreStepsOf clients [] [] = Unit {0}
AreStepsOf clients (client ∷ hand) (e ∷ es) = ((i : ℕ) × (e.by ≡ suc i) × (slice_get clients i ≡ Some client)) × AreStepsOf clients hand es
AreStepsOf clients _ _ = ⊥

pub record IsEntryRound (clients hand : List ℕ) (round : EntryRound) : Type 0 where
  pub steps_are : AreStepsOf clients hand round.steps
  pub driver : All (λ (e : Entry Steps). e.by ≡ 0) round.turns
  pub turns_are : AreActs round.turns round.thing
  pub one : IsOneThing round.thing

-- ---- one turn of the driver's is one act

begins_turn : (acts : List Act) → IsOneTurn acts → (act : Act) × (acts ≡ act ∷ [])
begins_turn [] one = absurd one
begins_turn (act ∷ []) one = (act, refl)
begins_turn (act ∷ x ∷ xs) one = absurd (lone_turn act x xs one)

same_first : (x y : Act) (xs ys : List Act) → ◌≡◌ {A = List Act} (x ∷ xs) (y ∷ ys) → x ≡ y
same_first x y xs ys same = cc same

same_rest : (x y : Act) (xs ys : List Act) → ◌≡◌ {A = List Act} (x ∷ xs) (y ∷ ys) → xs ≡ ys
same_rest x y xs ys same = cc same

same_turn : (a b x y : List Act) → IsOneTurn a → IsOneTurn b → a ++ x ≡ b ++ y → (a ≡ b) × (x ≡ y)
same_turn a b x y one other same =
    let (p, first) = begins_turn a one in
    let (q, second) = begins_turn b other in
    let whole : ◌≡◌ {A = List Act} (p ∷ x) (q ∷ y) = ap (λ (l : List Act). l ++ x) (sym first) ∙ (same ∙ ap (λ (l : List Act). l ++ y) second) in
    (first ∙ (ap (λ (z : Act). z ∷ []) (same_first p q x y whole) ∙ sym second), same_rest p q x y whole)

-- ---- the acts of rounds

module _ (clients : List ℕ) where
  -- what comes of a list of entries before others
  pub record TakesTurns (hand : List ℕ) (more : List (Entry Steps)) (own acts : List Act) : Type 0 where
    pub turns : List Act
    pub rest : List Act
    pub acts_are : acts ≡ turns ++ rest
    pub are : AreTurns hand turns
    pub woven : AreWoven clients more own rest

  one_step : (client : ℕ) (hand : List ℕ) (more : List (Entry Steps)) (by i : ℕ) (steps : Steps) (mine rest these behind own acts : List Act) → by ≡ suc i → slice_get clients i ≡ Some client → IsEntryOf clients by steps mine these → own ≡ mine ++ rest → acts ≡ these ++ behind
      → ((mine ≡ []) → TakesTurns hand more rest behind) → TakesTurns (client ∷ hand) more own acts
  one_step client hand more zero i steps mine rest these behind own acts place named entry own_is acts_are on = absurd (cc place)
  one_step client hand more (suc j) i steps mine rest these behind own acts place named (none, inr (nobody, quiet, same)) own_is acts_are on = absurd (none-some client (sym nobody ∙ (ap (slice_get clients) (less_one j i place) ∙ named)))
  one_step client hand more (suc j) i steps mine rest these behind own acts place named (none, inl (number, is, same)) own_is acts_are on =
      let t = on none in
      let known : number ≡ client = same_Some number client (sym is ∙ (ap (slice_get clients) (less_one j i place) ∙ named)) in record {
        turns = Says number steps ∷ t.turns;
        rest = t.rest;
        acts_are = acts_are ∙ (ap (λ (l : List Act). l ++ behind) same ∙ ap (λ (l : List Act). Says number steps ∷ l) t.acts_are);
        are = (known, t.are);
        woven = subst (λ (l : List Act). AreWoven clients more l t.rest) (sym (own_is ∙ ap (λ (l : List Act). l ++ rest) none)) t.woven;
      }

  take_steps : (hand : List ℕ) (es more : List (Entry Steps)) (own acts : List Act) → AreStepsOf clients hand es → AreWoven clients (es ++ more) own acts → TakesTurns hand more own acts
  take_steps [] [] more own acts are woven = record { turns = []; rest = acts; acts_are = refl; are = tt; woven = woven }
  take_steps [] (e ∷ es) more own acts are woven = absurd are
  take_steps (client ∷ hand) [] more own acts are woven = absurd are
  take_steps (client ∷ hand) (e ∷ es) more own acts ((i, place, named), are) (mine, rest, these, behind, own_is, acts_are, entry, woven) =
      one_step client hand more e.by i (calls_in (e ∷ [])) mine rest these behind own acts place named entry own_is acts_are (λ none. take_steps hand es more rest behind are woven)

  pub record TakesThing (more : List (Entry Steps)) (thing things acts : List Act) : Type 0 where
    pub rest : List Act
    pub acts_are : acts ≡ thing ++ rest
    pub woven : AreWoven clients more things rest

  take_turns : (es more : List (Entry Steps)) (thing things own acts : List Act) → All (λ (e : Entry Steps). e.by ≡ 0) es → AreActs es thing → own ≡ thing ++ things → AreWoven clients (es ++ more) own acts → TakesThing more thing things acts
  take_turns [] more thing things own acts driver none own_is woven = record {
    rest = acts;
    acts_are = ap (λ (l : List Act). l ++ acts) (sym none);
    woven = subst (λ (l : List Act). AreWoven clients more l acts) (own_is ∙ ap (λ (l : List Act). l ++ things) none) woven;
  }
  take_turns (e ∷ es) more thing things own acts driver (first, next, thing_is, one, calls_are, are) own_is (mine, later, these, behind, own_are, acts_are, entry, woven) =
      let its : IsEntryOf clients 0 (calls_in (e ∷ [])) mine these = subst (λ n. IsEntryOf clients n (calls_in (e ∷ [])) mine these) (All-head (λ (x : Entry Steps). x.by ≡ 0) e es driver) entry in
      let whole : mine ++ later ≡ first ++ (next ++ things) = sym own_are ∙ (own_is ∙ (ap (λ (l : List Act). l ++ things) thing_is ∙ append_assoc first next things)) in
      let (same, others) = same_turn mine first later (next ++ things) its.0 one whole in
      let t = take_turns es more next things later behind (All-tail (λ (x : Entry Steps). x.by ≡ 0) e es driver) are others woven in record {
        rest = t.rest;
        acts_are = acts_are ∙ (ap₂ (λ (x y : List Act). x ++ y) (its.2 ∙ same) t.acts_are ∙ (sym (append_assoc first next t.rest) ∙ ap (λ (l : List Act). l ++ t.rest) (sym thing_is)));
        woven = t.woven;
      }

  pub in_rounds : (hand : List ℕ) (rounds : List EntryRound) (own acts : List Act) → All (IsEntryRound clients hand) rounds → own ≡ things_in rounds → AreWoven clients (entries_in rounds) own acts → InRounds hand acts
  in_rounds hand [] own acts each own_is (none, quiet) = record { rounds = []; acts_are = quiet; each = tt }
  in_rounds hand (r ∷ rounds) own acts each own_is woven =
      let one = All-head (IsEntryRound clients hand) r rounds each in
      let steps = take_steps hand r.steps (r.turns ++ entries_in rounds) own acts one.steps_are (subst (λ (l : List (Entry Steps)). AreWoven clients l own acts) (append_assoc r.steps r.turns (entries_in rounds)) woven) in
      let turns = take_turns r.turns (entries_in rounds) r.thing (things_in rounds) own steps.rest one.driver one.turns_are own_is steps.woven in
      let behind = in_rounds hand rounds (things_in rounds) turns.rest (All-tail (IsEntryRound clients hand) r rounds each) refl turns.woven in record {
        rounds = record { turns = steps.turns; thing = r.thing } ∷ behind.rounds;
        acts_are = steps.acts_are ∙ (ap (λ (l : List Act). steps.turns ++ l) (turns.acts_are ∙ ap (λ (l : List Act). r.thing ++ l) behind.acts_are) ∙ sym (append_assoc steps.turns r.thing (acts_of behind.rounds)));
        each = (steps.are, one.one, behind.each);
      }

  -- ---- whose they are

  module _ (hand : List ℕ) where
    steps_come : (part : List ℕ) (es : List (Entry Steps)) → AreStepsOf clients part es → All (λ client. is_by_hand hand client ≡ true) part → All (λ (e : Entry Steps). ComesInRounds clients hand e.by) es
    steps_come [] [] are among = All-nil (λ (e : Entry Steps). ComesInRounds clients hand e.by)
    steps_come [] (e ∷ es) are among = absurd are
    steps_come (client ∷ part) [] are among = absurd are
    steps_come (client ∷ part) (e ∷ es) ((i, place, named), are) among =
        All-cons (λ (x : Entry Steps). ComesInRounds clients hand x.by) e es (inr (i, client, place, named, All-head (λ n. is_by_hand hand n ≡ true) client part among))
        (steps_come part es are (All-tail (λ n. is_by_hand hand n ≡ true) client part among))

    all_come : (rounds : List EntryRound) → All (IsEntryRound clients hand) rounds → All (λ client. is_by_hand hand client ≡ true) hand → All (λ (e : Entry Steps). ComesInRounds clients hand e.by) (entries_in rounds)
    all_come [] each among = All-nil (λ (e : Entry Steps). ComesInRounds clients hand e.by)
    all_come (r ∷ rounds) each among =
        let one = All-head (IsEntryRound clients hand) r rounds each in
        All-append (λ (e : Entry Steps). ComesInRounds clients hand e.by) (r.steps ++ r.turns) (entries_in rounds)
        (All-append (λ (e : Entry Steps). ComesInRounds clients hand e.by) r.steps r.turns (steps_come hand r.steps one.steps_are among)
        (All-weaker (λ (e : Entry Steps). e.by ≡ 0) (λ (e : Entry Steps). ComesInRounds clients hand e.by) (λ e driver. inl driver) r.turns one.driver))
        (all_come rounds (All-tail (IsEntryRound clients hand) r rounds each) among)

-- each of these is one of these
pub is_among : (front : List ℕ) (client : ℕ) (behind : List ℕ) → is_by_hand (front ++ client ∷ behind) client ≡ true
is_among [] client behind = ap (λ (b : Bool). b || is_by_hand behind client) (eq-eqb client client refl)
is_among (x ∷ front) client behind = ap (λ (b : Bool). (x == client) || b) (is_among front client behind) ∙ or_true (x == client)
  where
    or_true : (b : Bool) → (b || true) ≡ true
    or_true true = refl
    or_true false = refl

pub all_among : (front hand : List ℕ) → All (λ client. is_by_hand (front ++ hand) client ≡ true) hand
all_among front [] = All-nil (λ client. is_by_hand (front ++ []) client ≡ true)
all_among front (client ∷ hand) = All-cons (λ n. is_by_hand (front ++ client ∷ hand) n ≡ true) client hand (is_among front client hand)
    (subst (λ (l : List ℕ). All (λ n. is_by_hand l n ≡ true) hand) (append_assoc front (client ∷ []) hand) (all_among (front ++ client ∷ []) hand))

-- Where rounds of entries stand in the history in order, and it has no more of the driver's and these clients', its acts but for the others' turns are rounds.
pub rounds_stand : (clients hand : List ℕ) (log : List (Entry Steps)) (rounds : List EntryRound) (own acts : List Act) (m : ℕ) → StandIn log 0 (entries_in rounds) m → All (IsEntryRound clients hand) rounds
    → ((by : ℕ) → ComesInRounds clients hand by → count by log ≤ count by (entries_in rounds)) → own ≡ things_in rounds → AreWoven clients log own acts → InRounds hand (without_others hand acts)
rounds_stand clients hand log rounds own acts m stand each many own_is woven =
    in_rounds clients hand rounds own (without_others hand acts) each own_is
    (woven_without clients hand (entries_in rounds) log own acts
    (are_all clients hand (entries_in rounds) log (stand_within log (entries_in rounds) 0 m stand) (all_come clients hand rounds each (all_among [] hand)) many) woven)
