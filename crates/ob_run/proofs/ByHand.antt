-- A run in whose rounds some clients were made by hand: its acts, but for the others' turns, are rounds of these.
use Rattle.std.proofs.Common.{◌≡◌, ◌∙◌, ◌≤◌, ◌+◌, ◌==◌, ◌||◌, ℕ, zero, suc, Bool, true, false, All, List, [], ◌∷◌, ◌++◌, length, map, take, drop, flat_map, slice_get, Some, refl, sym, ap, subst, inl, inr, length-append, append_assoc, eqb-true, arith}
use Rattle.std.specs.List.Sorted.{IsStrictlyIncreasing}
use Rattle.std.proofs.lemmas.List.Elements.{All-nil, All-cons, All-head, All-tail}
use mathlib.Core.List.{IsPrefix}
use Rattle.ob_turn.specs.declared.turn.Entry.{Entry}
use Rattle.ob_turn.specs.History.{entries_of}
use Rattle.ob_session.specs.Clients.{stands_after}
use Rattle.ob_session.specs.declared.runner.Step.TheVariants.{Done}
use Rattle.ob_hall.specs.Turns.{client_numbers}
use Rattle.ob_hall.specs.Passes.{Steps, Hall, Pass, opening_of, pass_place, history_of, entries_by, said_of, IsClients}
use Rattle.ob_hall.specs.Closing.{HasPass}
use Rattle.ob_hall.proofs.Numbers.{one_place}
use Rattle.ob_conduct.specs.Acts.{Act}
use Rattle.ob_conduct.specs.Rounds.{InRounds}
use Rattle.ob_threads.specs.declared.starting.Started.{Started}
use Rattle.ob_threads.specs.declared.starting.Started.TheVariants.{Away, Here}
use Rattle.ob_threads.specs.Served.{Words}
use Rattle.ob_threads.specs.Starts.{Each, IsAsItCame, IsJoined, stays}
use Rattle.ob_driver.specs.Places.{StandIn, HandRound, AreHandRounds}
use Rattle.ob_run.specs.Crews.{CrewSteps}
use Rattle.ob_run.specs.Woven.{AreWoven}
use Rattle.ob_run.specs.Threaded.{is_by_hand, without_others, IsSublist}
use Rattle.ob_run.proofs.Standing.{count, count_own, ComesInRounds}
use Rattle.ob_run.proofs.Rounds.{EntryRound, entries_in, things_in, IsEntryRound, is_among, rounds_stand}
use Rattle.ob_run.proofs.Hands.{count_append, theirs, stand_more, stand_join, here, here_stepped, here_ordered, Gained, gained_same, gained_join, numbers_of, IsSeen, in_order}

-- ---- lists

own_count : (by : ℕ) (es : List (Entry Steps)) → All (λ (e : Entry Steps). e.by ≡ by) es → count by es ≡ length es
own_count by [] all = refl
own_count by (e ∷ es) all =
    subst (λ k. count k (e ∷ es) ≡ suc (count k es)) (All-head (λ (x : Entry Steps). x.by ≡ by) e es all) (count_own e es) ∙ ap suc (own_count by es (All-tail (λ (x : Entry Steps). x.by ≡ by) e es all))

front_all : (P : Entry Steps → Type 0) (xs ys : List (Entry Steps)) → All P (xs ++ ys) → All P xs
front_all P [] ys all = All-nil P
front_all P (x ∷ xs) ys all = All-cons P x xs (All-head P x (xs ++ ys) all) (front_all P xs ys (All-tail P x (xs ++ ys) all))

back_all : (P : Entry Steps → Type 0) (xs ys : List (Entry Steps)) → All P (xs ++ ys) → All P ys
back_all P [] ys all = all
back_all P (x ∷ xs) ys all = back_all P xs ys (All-tail P x (xs ++ ys) all)

sub_more : (xs ys : List ℕ) (y : ℕ) → IsSublist xs ys → IsSublist xs (y ∷ ys)
sub_more [] ys y is = tt
sub_more (x ∷ xs) ys y is = inr is

module _ {U Plan : Type 0} (w : Words U Plan) (hall : Hall) where
  -- ---- who is made by hand

  stay_here : (clients : List (Pass × U)) → here w hall (map stays clients) ≡ clients
  stay_here [] = refl
  stay_here (c ∷ clients) = ap (λ (l : List (Pass × U)). c ∷ l) (stay_here clients)

  -- those of the first ones whose thread was refused, and the others
  pub record AreHands (starts : ℕ) (clients : List (Pass × U)) (first : List (Started U)) : Type 0 where
    pub refused : List ℕ
    pub some : IsSublist refused (take starts (numbers_of w hall clients))
    pub are : numbers_of w hall (here w hall first) ≡ refused ++ drop starts (numbers_of w hall clients)

  pub hands_are : (starts : ℕ) (clients : List (Pass × U)) (first : List (Started U)) → Each IsAsItCame clients first → drop starts first ≡ map stays (drop starts clients) → AreHands starts clients first
  hands_are zero clients first came stayed = record { refused = []; some = tt; are = ap (numbers_of w hall) (ap (here w hall) stayed ∙ stay_here clients) }
  hands_are (suc n) [] [] came stayed = record { refused = []; some = tt; are = refl }
  hands_are (suc n) [] (f ∷ first) came stayed = absurd came
  hands_are (suc n) (c ∷ clients) [] came stayed = absurd came
  hands_are (suc n) (c ∷ clients) (Away handle ∷ first) (one, came) stayed =
      let h = hands_are n clients first came stayed in
      record { refused = h.refused; some = sub_more h.refused (take n (numbers_of w hall clients)) c.0.client h.some; are = h.are }
  hands_are (suc n) (c ∷ clients) (Here now ∷ first) (one, came) stayed =
      let h = hands_are n clients first came stayed in
      record { refused = now.0.client ∷ h.refused; some = inl (ap (λ (x : Pass × U). x.0.client) one, h.some); are = ap (λ (l : List ℕ). now.0.client ∷ l) h.are }

  -- a client that has made no call
  pub record IsNewHere (client : Pass × U) : Type 0 where
    pub none_made : entries_by client.0 ≡ []
    pub clients : IsClients hall client.0

  pub new_here : (clients : List (Pass × U)) (first : List (Started U)) → All IsNewHere clients → Each IsAsItCame clients first → All IsNewHere (here w hall first)
  new_here [] [] new came = All-nil IsNewHere
  new_here [] (f ∷ first) new came = absurd came
  new_here (c ∷ clients) [] new came = absurd came
  new_here (c ∷ clients) (Away handle ∷ first) new (one, came) = new_here clients first (All-tail IsNewHere c clients new) came
  new_here (c ∷ clients) (Here now ∷ first) new (one, came) =
      All-cons IsNewHere now (here w hall first) (subst IsNewHere (sym one) (All-head IsNewHere c clients new)) (new_here clients first (All-tail IsNewHere c clients new) came)

  module _ (log : List (Entry Steps)) (raised : List ℕ) where
    abbrev pub passes_of : List (Pass × U) → List Pass
    passes_of clients = map (λ (c : Pass × U). c.0) clients

    abbrev pub IsTold : Pass × U → Type 0
    IsTold client = HasPass log raised client.0

    pub told_here : (last : List (Started U)) (back : List (Pass × U)) → Each (IsJoined w hall) last back → All (HasPass log raised) (passes_of back) → All IsTold (here w hall last)
    told_here [] [] joined told = All-nil IsTold
    told_here [] (b ∷ back) joined told = absurd joined
    told_here (l ∷ last) [] joined told = absurd joined
    told_here (Away handle ∷ last) (b ∷ back) (one, joined) told = told_here last back joined (All-tail (HasPass log raised) b.0 (passes_of back) told)
    told_here (Here client ∷ last) (b ∷ back) (one, joined) told =
        All-cons IsTold client (here w hall last) (subst IsTold one (All-head (HasPass log raised) b.0 (passes_of back) told)) (told_here last back joined (All-tail (HasPass log raised) b.0 (passes_of back) told))

    seen_all : (clients : List (Pass × U)) → All IsTold clients → All (IsSeen w hall log) clients
    seen_all [] told = All-nil (IsSeen w hall log)
    seen_all (c ∷ clients) told = All-cons (IsSeen w hall log) c clients (All-head IsTold c clients told).seen (seen_all clients (All-tail IsTold c clients told))

    -- Each client that isn't by hand has signed off.
    pub others_off : (front : List ℕ) (last : List (Started U)) (back : List (Pass × U)) → Each (IsJoined w hall) last back → All (λ (b : Pass × U). is_by_hand (front ++ numbers_of w hall (here w hall last)) b.0.client ≡ false → stands_after (said_of b.0) ≡ Done) back
    others_off front [] [] joined = All-nil (λ (b : Pass × U). is_by_hand (front ++ []) b.0.client ≡ false → stands_after (said_of b.0) ≡ Done)
    others_off front [] (b ∷ back) joined = absurd joined
    others_off front (l ∷ last) [] joined = absurd joined
    others_off front (Away handle ∷ last) (b ∷ back) (one, joined) =
        All-cons (λ (x : Pass × U). is_by_hand (front ++ numbers_of w hall (here w hall last)) x.0.client ≡ false → stands_after (said_of x.0) ≡ Done) b back (λ none. one.signed_off) (others_off front last back joined)
    others_off front (Here client ∷ last) (b ∷ back) (one, joined) =
        let rest = numbers_of w hall (here w hall last) in
        All-cons (λ (x : Pass × U). is_by_hand (front ++ client.0.client ∷ rest) x.0.client ≡ false → stands_after (said_of x.0) ≡ Done) b back
        (λ none. let no : true ≡ false = sym (is_among front client.0.client rest) ∙ (ap (λ (x : Pass × U). is_by_hand (front ++ client.0.client ∷ rest) x.0.client) (sym one) ∙ none) in absurd (cc no))
        (subst (λ (l : List ℕ). All (λ (x : Pass × U). is_by_hand l x.0.client ≡ false → stands_after (said_of x.0) ≡ Done) back) (append_assoc front (client.0.client ∷ []) rest)
        (others_off (front ++ client.0.client ∷ []) last back joined))

    -- ---- rounds

    abbrev numbers : List ℕ
    numbers = client_numbers (opening_of hall)

    abbrev turns_in : List (HandRound (List (Started U))) → List (Entry Steps)
    turns_in rounds = flat_map (λ (r : HandRound (List (Started U))). r.entries) rounds

    abbrev acts_in : List (HandRound (List (Started U))) → List Act
    acts_in rounds = flat_map (λ (r : HandRound (List (Started U))). r.thing) rounds

    pub record RoundsMade (n : ℕ) (first : List (Pass × U)) (done : List (HandRound (List (Started U)))) (last : List (Pass × U)) (m : ℕ) : Type 0 where
      pub rounds : List EntryRound
      pub stand : StandIn log n (entries_in rounds) m
      pub each : All (IsEntryRound numbers (numbers_of w hall first)) rounds
      pub gained : Each (Gained w hall (entries_in rounds)) first last
      pub seen : All (IsSeen w hall log) first
      pub things_are : acts_in done ≡ things_in rounds
      pub driver : length (turns_in done) ≤ count 0 (entries_in rounds)
      pub same : numbers_of w hall last ≡ numbers_of w hall first

    rounds_made : (before : List (Entry Steps)) → IsPrefix before log → (n : ℕ) (first : List (Started U)) (rounds : List (HandRound (List (Started U)))) (last : List (Started U)) (m : ℕ) → AreHandRounds (CrewSteps w hall) before n first rounds last m
        → All (λ (e : Entry Steps). e.by ≡ 0) (turns_in rounds) → All (IsSeen w hall log) (here w hall last) → RoundsMade n (here w hall first) rounds (here w hall last) m
    rounds_made before goes_on n first [] last m (same, none) driver seen = subst (λ (l : List (Started U)). RoundsMade n (here w hall l) [] (here w hall last) m) same (record {
      rounds = [];
      stand = none;
      each = All-nil (IsEntryRound numbers (numbers_of w hall (here w hall last)));
      gained = gained_same w hall [] (here w hall last);
      seen = seen;
      things_are = refl;
      driver = omega arith;
      same = refl;
    })
    rounds_made before goes_on n first (r ∷ rounds) last m (steps, one, are, stand, rest) driver seen =
        let later = rounds_made before goes_on r.turns r.hands rounds last m rest (back_all (λ (e : Entry Steps). e.by ≡ 0) r.entries (turns_in rounds) driver) seen in
        let s = in_order w hall log n (here w hall first) (here w hall r.hands) r.stepped (here_stepped w hall first r.hands steps.0) (here_ordered w hall n r.hands r.stepped steps.1) later.seen in
        let own = front_all (λ (e : Entry Steps). e.by ≡ 0) r.entries (turns_in rounds) driver in
        record {
          rounds = record { steps = s.entries; turns = r.entries; thing = r.thing } ∷ later.rounds;
          stand = stand_join log n (s.entries ++ r.entries) r.turns (entries_in later.rounds) m
              (stand_join log n s.entries r.stepped r.entries r.turns s.stand (stand_more before log r.stepped r.entries r.turns goes_on stand)) later.stand;
          each = All-cons (IsEntryRound numbers (numbers_of w hall (here w hall first))) (record { steps = s.entries; turns = r.entries; thing = r.thing }) later.rounds
              (record { steps_are = s.are; driver = own; turns_are = are; one = one })
              (subst (λ (hand : List ℕ). All (IsEntryRound numbers hand) later.rounds) s.same later.each);
          gained = gained_join w hall (s.entries ++ r.entries) (entries_in later.rounds) (here w hall first) (here w hall r.hands) (here w hall last)
              (gained_join w hall s.entries r.entries (here w hall first) (here w hall r.hands) (here w hall r.hands) s.gained (gained_same w hall r.entries (here w hall r.hands))) later.gained;
          seen = s.seen;
          things_are = ap (λ (l : List Act). r.thing ++ l) later.things_are;
          driver =
              let many = later.driver in
              let long = length-append r.entries (turns_in rounds) in
              let sum = count_append 0 (s.entries ++ r.entries) (entries_in later.rounds) in
              let part = count_append 0 s.entries r.entries in
              let its = own_count 0 r.entries own in
              omega (arith, many, long, sum, part, its);
          same = later.same ∙ s.same;
        }

    -- no client by hand has more entries than those of its rounds
    as_many : IsStrictlyIncreasing numbers → (es : List (Entry Steps)) (i client : ℕ) → slice_get numbers i ≡ Some client → (first last : List (Pass × U)) → Each (Gained w hall es) first last → All IsNewHere first → All IsTold last
        → is_by_hand (numbers_of w hall first) client ≡ true → count (suc i) log ≤ count (suc i) es
    as_many rising es i client named [] [] each new told among = absurd (cc among)
    as_many rising es i client named [] (b ∷ last) each new told among = absurd each
    as_many rising es i client named (c ∷ first) [] each new told among = absurd each
    as_many rising es i client named (c ∷ first) (b ∷ last) ((place, few), each) new told among =
        which (c.0.client == client) refl (λ others. as_many rising es i client named first last each (All-tail IsNewHere c first new) (All-tail IsTold b last told) others)
      where
        which : (is : Bool) → (c.0.client == client) ≡ is → (is_by_hand (numbers_of w hall first) client ≡ true → count (suc i) log ≤ count (suc i) es) → count (suc i) log ≤ count (suc i) es
        which false other on = on (ap (λ (x : Bool). x || is_by_hand (numbers_of w hall first) client) (sym other) ∙ among)
        which true same on =
            let its = All-head IsNewHere c first new in
            let at : its.clients.at ≡ i = one_place numbers its.clients.at i client rising (its.clients.named ∙ ap (λ k. Some k) (eqb-true c.0.client client same)) named in
            let here_is : pass_place c.0 ≡ suc i = its.clients.place ∙ ap suc at in
            let own : count (suc i) log ≡ length (entries_by b.0) = ap (λ k. count k log) (sym (place ∙ here_is)) ∙ ap length (All-head IsTold b last told).own in
            let none = ap length its.none_made in
            let less = subst (λ k. length (entries_by b.0) ≤ length (entries_by c.0) + count k es) here_is few in
            omega (arith, own, none, less)

    -- The acts of the whole history, but for the others' turns, are rounds of the clients by hand.
    pub are_rounds : IsStrictlyIncreasing numbers → (before after : Pass) (m : ℕ) (first : List (Started U)) (rounds : List (HandRound (List (Started U)))) (last : List (Started U)) → AreHandRounds (CrewSteps w hall) (history_of after) 0 first rounds last m
        → entries_by after ≡ entries_by before ++ turns_in rounds → entries_by before ≡ [] → pass_place after ≡ 0 → HasPass log raised after → All IsNewHere (here w hall first) → All IsTold (here w hall last)
        → (own acts : List Act) → own ≡ acts_in rounds → AreWoven numbers log own acts
        → (numbers_of w hall (here w hall last) ≡ numbers_of w hall (here w hall first)) × InRounds (numbers_of w hall (here w hall first)) (without_others (numbers_of w hall (here w hall first)) acts)
    are_rounds rising before after m first rounds last are made none place its new told own acts own_is woven = (r.same, rounds_stand numbers hand log r.rounds own acts m r.stand r.each many (own_is ∙ r.things_are) woven)
      where
        turns_are : entries_of 0 log ≡ turns_in rounds
        turns_are = ap (λ k. entries_of k log) (sym place) ∙ (its.own ∙ (made ∙ ap (λ (l : List (Entry Steps)). l ++ turns_in rounds) none))

        r : RoundsMade 0 (here w hall first) rounds (here w hall last) m
        r = rounds_made (history_of after) its.seen 0 first rounds last m are (subst (All (λ (e : Entry Steps). e.by ≡ 0)) turns_are (theirs 0 log)) (seen_all (here w hall last) told)

        hand : List ℕ
        hand = numbers_of w hall (here w hall first)

        many : (by : ℕ) → ComesInRounds numbers hand by → count by log ≤ count by (entries_in r.rounds)
        many by (inl driver) = subst (λ k. count k log ≤ count k (entries_in r.rounds)) (sym driver) (let long = ap length turns_are in let few = r.driver in omega (arith, long, few))
        many by (inr (i, client, at, named, among)) = subst (λ k. count k log ≤ count k (entries_in r.rounds)) (sym at) (as_many rising (entries_in r.rounds) i client named (here w hall first) (here w hall last) r.gained new told among)
