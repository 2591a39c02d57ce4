-- How the driver's run ended.
use Rattle.std.proofs.Common.{◌≡◌, ◌∙◌, ℕ, inr, List, [], ◌∷◌, ◌++◌, All, flat_map, map, drop, refl, sym, ap, subst, OnOk, IfErr, Result, Ok, Err}
use Rattle.ob_conduct.specs.declared.run_err.RunErr.{RunErr}
use Rattle.ob_serial.specs.Vaults.{VaultCounts}
use Rattle.ob_serial.specs.VaultKinds.{Kind}
use Rattle.ob_desk.specs.Beats.{BeatKind}
use Rattle.ob_turn.specs.declared.turn.Entry.{Entry}
use Rattle.ob_hall.specs.Passes.{Steps, Hall, Pass, history_of, entries_by}
use Rattle.ob_conduct.specs.Acts.{Act}
use Rattle.ob_driver.specs.Driven.{Side}
use Rattle.ob_driver.specs.Drives.{RunsOut, RunFails}
use Rattle.ob_driver.specs.Places.{HandRound, AreHandRounds, AreInRounds}
use Rattle.ob_driver.proofs.Joining.{runs_out_also, run_fails_also}
use Rattle.ob_threads.specs.declared.starting.Started.{Started}
use Rattle.ob_threads.specs.Served.{Words, IsClient, IsLater}
use Rattle.ob_threads.specs.Starts.{Each, HasItsPlace, IsAsItCame, IsWaitedFor, IsJoined, stays}
use Rattle.ob_threads.proofs.Placing.{all_waited, all_back}
use Rattle.ob_run.specs.Crews.{CrewSteps, AreOut, AreBack}
use Rattle.ob_run.specs.Serving.{DriverEnds, ServeEnds}
use Rattle.ob_run.proofs.Meeting.{rounds_kept}

pub ends_is : {V : Type 0} (k : Kind V) (beat : BeatKind) (hall : Hall) (Also : List Act → Type 0) (old : Side V) (c : VaultCounts) (new : Side V) (next : VaultCounts) (result : Result (Unit {0}) RunErr)
    → OnOk result (RunsOut k beat hall Also old c new next) → IfErr result (λ err. RunFails k beat hall Also old c new err) → DriverEnds k beat hall Also old c new next result
ends_is k beat hall Also old c new next (Ok done) out fails = out
ends_is k beat hall Also old c new next (Err err) out fails = fails

-- and so all ended
pub all_ends : {V U Plan : Type 0} (k : Kind V) (beat : BeatKind) (w : Words U Plan) (hall : Hall) (flags : ℕ) (old : Side V) (c : VaultCounts) (before : List (Pass × U)) (new : Side V) (next : VaultCounts) (after : List (Pass × U)) (result : Result (Unit {0}) RunErr)
    → DriverEnds k beat hall (AreBack w hall flags before after old.pass new.pass) old c new next result → ServeEnds k beat w hall flags old c before new next after result
all_ends k beat w hall flags old c before new next after (Ok done) ends = ends
all_ends k beat w hall flags old c before new next after (Err err) ends = inr ends

-- what is so of the acts, too
pub ends_also : {V : Type 0} (k : Kind V) (beat : BeatKind) (hall : Hall) (A B : List Act → Type 0) → ((acts : List Act) → A acts → B acts) → (old : Side V) (c : VaultCounts) (new : Side V) (next : VaultCounts) (result : Result (Unit {0}) RunErr)
    → DriverEnds k beat hall A old c new next result → DriverEnds k beat hall B old c new next result
ends_also k beat hall A B also old c new next (Ok done) ends = runs_out_also k beat hall A B old c new next also ends
ends_also k beat hall A B also old c new next (Err err) ends = run_fails_also k beat hall A B old c new err also ends

pub acts_also : {V : Type 0} (k : Kind V) (beat : BeatKind) (hall : Hall) (A : List Act → Type 0) (old : Side V) (c : VaultCounts) (new : Side V) (next : VaultCounts) (result : Result (Unit {0}) RunErr) → DriverEnds k beat hall A old c new next result → (acts : List Act) × A acts
acts_also k beat hall A old c new next (Ok done) ends = (ends.done.acts, ends.done.also)
acts_also k beat hall A old c new next (Err err) ends = (ends.fails.acts, ends.fails.also)

-- ---- rounds, told of what the hands are

module _ {H K : Type 0} (f : H → K) (steps : ℕ → K → K → ℕ → Type 0) where
  abbrev pub told_round : HandRound H → HandRound K
  told_round r = record { hands = f r.hands; stepped = r.stepped; thing = r.thing; entries = r.entries; turns = r.turns }

  told_rounds : (log : List (Entry Steps)) (n : ℕ) (first : H) (rounds : List (HandRound H)) (last : H) (m : ℕ) → AreHandRounds (λ n a b m. steps n (f a) (f b) m) log n first rounds last m → AreHandRounds steps log n (f first) (map told_round rounds) (f last) m
  told_rounds log n first [] last m (same, none) = (ap f same, none)
  told_rounds log n first (r ∷ rounds) last m (made, one, are, stand, rest) = (made, one, are, stand, told_rounds log r.turns r.hands rounds last m rest)

  same_things : (rounds : List (HandRound H)) → flat_map (λ (r : HandRound H). r.thing) rounds ≡ flat_map (λ (r : HandRound K). r.thing) (map told_round rounds)
  same_things [] = refl
  same_things (r ∷ rounds) = ap (λ (l : List Act). r.thing ++ l) (same_things rounds)

  same_entries : (rounds : List (HandRound H)) → flat_map (λ (r : HandRound H). r.entries) rounds ≡ flat_map (λ (r : HandRound K). r.entries) (map told_round rounds)
  same_entries [] = refl
  same_entries (r ∷ rounds) = ap (λ (l : List (Entry Steps)). r.entries ++ l) (same_entries rounds)

  pub told_in_rounds : (first last : H) (before after : Pass) (acts : List Act) → AreInRounds (λ n a b m. steps n (f a) (f b) m) first last before after acts → AreInRounds steps (f first) (f last) before after acts
  told_in_rounds first last before after acts r = record {
    rounds = map told_round r.rounds;
    count = r.count;
    are = told_rounds (history_of after) 0 first r.rounds last r.count r.are;
    acts_are = r.acts_are ∙ same_things r.rounds;
    made = r.made ∙ ap (λ (l : List (Entry Steps)). entries_by before ++ l) (same_entries r.rounds);
  }

-- ---- the crew behind it

module _ {V U Plan H : Type 0} (k : Kind V) (beat : BeatKind) (w : Words U Plan) (hall : Hall) (f : H → List (Started U)) (clients : List (Pass × U)) (first last : H) (placed : Each (HasItsPlace w hall) clients (f first)) (old : Side V) (c : VaultCounts) (new : Side V) (next : VaultCounts)
    (result : Result (Unit {0}) RunErr) (ends : DriverEnds k beat hall (AreInRounds (λ n a b m. CrewSteps w hall n (f a) (f b) m) first last old.pass new.pass) old c new next result) where
  pub placed_last : Each (HasItsPlace w hall) clients (f last)
  placed_last =
      let (acts, r) = acts_also k beat hall (AreInRounds (λ n a b m. CrewSteps w hall n (f a) (f b) m) first last old.pass new.pass) old c new next result ends in
      rounds_kept w hall clients (f first) (f last) old.pass new.pass acts placed (told_in_rounds f (CrewSteps w hall) first last old.pass new.pass acts r)

  -- and so it ended
  pub ends_out : (flags : ℕ) → Each IsAsItCame clients (f first) → drop flags (f first) ≡ map stays (drop flags clients) → DriverEnds k beat hall (AreOut w hall flags clients (f last) old.pass new.pass) old c new next result
  ends_out flags came stayed = ends_also k beat hall (AreInRounds (λ n a b m. CrewSteps w hall n (f a) (f b) m) first last old.pass new.pass) (AreOut w hall flags clients (f last) old.pass new.pass)
      (λ acts r. record { first = f first; placed = placed; came = came; stayed = stayed; rounds = told_in_rounds f (CrewSteps w hall) first last old.pass new.pass acts r }) old c new next result ends

-- and so all ended, where those that were away are joined
pub ends_back : {V U Plan : Type 0} (k : Kind V) (beat : BeatKind) (w : Words U Plan) (hall : Hall) (starts flags : ℕ) (clients taken : List (Pass × U)) (last : List (Started U))
    (back : List (Pass × U)) (old : Side V) (c : VaultCounts) (new : Side V) (next : VaultCounts) (result : Result (Unit {0}) RunErr)
    → flags ≡ starts → taken ≡ clients → Each (IsJoined w hall) last back → DriverEnds k beat hall (AreOut w hall flags taken last old.pass new.pass) old c new next result → ServeEnds k beat w hall starts old c clients new next back result
ends_back k beat w hall starts flags clients taken last back old c new next result many same joined ends =
    all_ends k beat w hall starts old c clients new next back result
    (ends_also k beat hall (AreOut w hall flags taken last old.pass new.pass) (AreBack w hall starts clients back old.pass new.pass)
    (λ acts r. let s = subst (λ n. AreOut w hall n clients last old.pass new.pass acts) many (subst (λ l. AreOut w hall flags l last old.pass new.pass acts) same r) in
    record { first = s.first; placed = s.placed; came = s.came; stayed = s.stayed; last = last; rounds = s.rounds; joined = joined }) old c new next result ends)

-- told of what it is the same as
pub ends_told : {V U Plan : Type 0} (k : Kind V) (beat : BeatKind) (w : Words U Plan) (hall : Hall) (flags : ℕ) (clients : List (Pass × U)) (last now : List (Started U)) (old : Side V) (c : VaultCounts) (new after : Side V) (next counts : VaultCounts) (result : Result (Unit {0}) RunErr)
    → now ≡ last → after ≡ new → counts ≡ next → DriverEnds k beat hall (AreOut w hall flags clients last old.pass new.pass) old c new next result → DriverEnds k beat hall (AreOut w hall flags clients now old.pass after.pass) old c after counts result
ends_told k beat w hall flags clients last now old c new after next counts result crew side told ends =
    subst (λ n. DriverEnds k beat hall (AreOut w hall flags clients now old.pass after.pass) old c after n result) (sym told)
    (subst (λ s. DriverEnds k beat hall (AreOut w hall flags clients now old.pass s.pass) old c s next result) (sym side)
    (subst (λ l. DriverEnds k beat hall (AreOut w hall flags clients l old.pass new.pass) old c new next result) (sym crew) ends))

-- ---- those that are away

module _ {U Plan : Type 0} (w : Words U Plan) (hall : Hall) (clients taken : List (Pass × U)) (last : List (Started U)) where
  pub crew_waited : All (IsClient w hall) clients → taken ≡ clients → Each (HasItsPlace w hall) taken last → All (IsWaitedFor w hall) last
  crew_waited are same placed = all_waited w hall clients last are (subst (λ l. Each (HasItsPlace w hall) l last) same placed)

  pub crew_back : (back : List (Pass × U)) → taken ≡ clients → Each (HasItsPlace w hall) taken last → Each (IsJoined w hall) last back → Each (IsLater w hall) clients back
  crew_back back same placed joined = all_back w hall clients last back (subst (λ l. Each (HasItsPlace w hall) l last) same placed) joined
