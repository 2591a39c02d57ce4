-- What serving a script does to the store that the vault was lent, whatever the kind of store.
use Rattle.std.specs.List.{All}
use Rattle.std.proofs.Common.{Bool, true, false, ◌≡◌, ◌+◌, ◌∙◌, ◌⊎◌, ℕ, suc, List, [], ◌∷◌, ◌++◌, length, map, Option, Some, None, Result, Ok, Err, refl, sym, ap, subst, inl, inr, arith, ⊎_elim}
use Rattle.std.proofs.lemmas.List.{append-nil, append_assoc}
use Rattle.std.proofs.lemmas.Option.{same_Some}
use Rattle.std.specs.Ordering.{nat_cmp}
use Rattle.ob_base.specs.declared.params.Params.{Params}
use Rattle.ob_base.specs.declared.fault.Fault.{Fault}
use Rattle.ob_base.specs.declared.fault.Fault.TheVariants.{Memory, Usage, BadScript, BadParams, NotStore, Damaged, StoreFault, StashFull, Worn, SourceFault, SinkFault}
use Rattle.ob_base.specs.Causes.{Rose}
use Rattle.ob_io.specs.Streams.{Flow}
use Rattle.ob_store.specs.declared.event.Event.{Event}
use Rattle.ob_store.specs.Disk.{Disk, Image}
use Rattle.ob_store.specs.Images.{IsImageOf, LeavesOnly, IsSynced}
use Rattle.ob_store.specs.Lines.{BreaksOnly, Shows, Trace}
use Rattle.ob_store.specs.declared.watch.Note.{Note}
use Rattle.ob_store.specs.Calls.{GoesOn, Notes, IsStoreFault}
use Rattle.ob_store.proofs.Events.{joined as joined_seen, none_noted}
use Rattle.ob_store.proofs.Moments.{weakened}
use Rattle.ob_store.proofs.Serving.{rose_later}
use Rattle.ob_seal.specs.declared.keys.Keys.{Keys}
use Rattle.ob_seal.specs.Sealing.{Sealing}
use Rattle.ob_serial.specs.Serial.{EpochRecord, Map}
use Rattle.ob_serial.specs.VaultViews.{end_answer}
use Rattle.ob_serial.specs.declared.vault.EndErr.{EndErr}
use Rattle.ob_serial.specs.declared.vault.EndErr.TheVariants.{Before, Unsure}
use Rattle.ob_serial.specs.Vaults.{Standing, StandsIn, VaultCall, Fetch, End, VaultAnswer, Values, Ended, RefusedBy, DoubtBy}
use Rattle.ob_serial.specs.VaultKinds.{Kind, Called, AllCalled, ended_of, ended_by}
use Rattle.ob_recover.specs.Telling.{ArePhasesMade}
use Rattle.ob_recover.proofs.Dealing.{made_join, made_none}
use Rattle.ob_vault.specs.Acts.{is_answered}
use Rattle.ob_vault.specs.Shapes.{Shape, Fetches, Ends, answered, shape_of, shapes, refused}
use Rattle.ob_vault.specs.Kinds.{StoreKind, IsOpenedAt, opened_with}
use Rattle.ob_vault.specs.KindLives.{LifeWords}
use Rattle.ob_top.specs.Audited.{AuditWords}
use Rattle.ob_vault.specs.KindShown.{AreDrawn, IsCutShown, IsSeenCut, public_behind, steps_notes, steps_phases}
use Rattle.ob_vault.specs.Steps.{IsAnsweredCall, Stops, IsCallOfKind}
use Rattle.ob_vault.specs.KindLaws.{AllAnswered}
use Rattle.ob_vault.proofs.Shapes.{answered_join as answers_join, shapes_join, answered_not_refused, refused_last}
use Rattle.ob_script.specs.Script.{ScriptTxn, Scripts, AreSound, asks_by}
use Rattle.ob_shares.specs.declared.shares.Shares.{Shares}
use Rattle.ob_desk.specs.Desk.{DeskState, MayOpen, Run, new_desk, setup_with}
use Rattle.ob_conduct.specs.Acts.{Act, Says, Halts, Rests as Looked, Takes, Delivers, DeliverFails, FetchFails, RestUnwatched, Closes, Publishes, Refuses, Unprinted, Unwatched, calls, history, vault_calls, rest_fetches, fault_in, fault_of as stop_fault, fault_told, records as records_of_acts}
use Rattle.ob_conduct.specs.declared.run_err.RunErr.{RunErr}
use Rattle.ob_conduct.specs.declared.run_err.RunErr.TheVariants as failed
use Rattle.ob_conduct.specs.Scenes.{AllNoted, scene, RunState, run_state, RunnerKind}
use Rattle.ob_conduct.specs.Records.{AreAnswered, AreWritten, HoldsMap, contents}
use Rattle.ob_conduct.specs.Moves.{Failure, IsReason, AreLines}
use Rattle.ob_conduct.specs.Conducted.{Conducted, RunEnds}
use Rattle.ob_run.specs.Threaded.{RunsBy, AreShaped}
use Rattle.ob_run.proofs.Shapes.{runs_shaped}
use Rattle.ob_conduct.specs.Left.{Rests, OnlyNow, IsLeftStanding, TellsDoubt, IsNextOf, IsThisOrNext, Stages, next_at}
use Rattle.ob_conduct.proofs.Leaving.{run_leaves}
use Rattle.ob_conduct.proofs.Moving.{all_shown, goes_all, called}
use Rattle.ob_conduct.proofs.Acting.{answered_rest}
use Rattle.ob_conduct.proofs.Going.{answered_join}
use Rattle.ob_conduct.proofs.Behind.{asks_before}
use Rattle.ob_conduct.proofs.Conducting.{due_epoch, due_in_order, due_one_by_one}
use Rattle.ob_outcomes.specs.Served.{IsServed, ClientsServedAll}
use Rattle.ob_outcomes.proofs.Whole.{RunsScripts, is_served, its_acts, its_desk, all_served, next_served}
use Rattle.ob_desk.specs.Beats.{BeatKind}
use Rattle.ob_top.specs.Endings.{err_of, told_fault}
use Rattle.ob_top.specs.Outside.{Given}
use Rattle.ob_pads.specs.Laws.{NoneServed}
use Rattle.ob_top.proofs.Clearing.{Parted}
use Rattle.ob_top.proofs.Listing.{are_listed}
use Rattle.ob_top.proofs.Lines.{lines_stand, next_by_acts}
use Rattle.ob_top.proofs.Staging.{called_more, calls_then, drawn_more}
use Rattle.ob_top.specs.Staged.{CallsStaged, IsCallStagedAsShown}
use Rattle.ob_top.specs.Runs.{ListsActs, EachShown, EndsFor, IsShownToWatch, refused_row, steps_rows, IsLeftOnDisk, ServedOver, LivesBehind}
use Rattle.ob_top.specs.Parts.{IsInClearBehind, Manner, manner, EndsWith, IsTraced, StagedFrom, IsNextEpoch, ComesNext}

-- an end that was refused ended nothing
none_ended : (writes : List (ℕ × Option (List ℕ))) (refused : EndErr) → ended_by (End writes, end_answer (Err refused)) ≡ []
none_ended writes (Before fault) = refl
none_ended writes (Unsure fault) = refl

-- each record has its writes
pub counted_ends : (written : List (List (ℕ × Option (List ℕ)))) (records : List (EpochRecord ℕ)) → AreWritten written records → length written ≡ length records
counted_ends [] [] are = refl
counted_ends [] (r ∷ records) are = absurd are
counted_ends (w ∷ written) [] are = absurd are
counted_ends (w ∷ written) (r ∷ records) (one, are) = ap suc (counted_ends written records are)

-- a watch that was whole and has broken: its sink's count rose
rose_broken : (notes : List Note) (t u : Trace) → Shows notes t u → t.broken ≡ false → u.broken ≡ true → Rose t.faults u.faults
rose_broken notes t u shows whole broken = subst (λ (b : Bool). BreaksOnly false b t.faults u.faults) broken (subst (λ (b : Bool). BreaksOnly b u.broken t.faults u.faults) whole shows.breaks)

-- The calls of a vault that lead there, all of them answered where nothing cut the run off.
pub record CallsBehind {V : Type 0} (k : Kind V) (start : V) (asked : List (VaultCall × VaultAnswer)) (last : V) (err : Option RunErr) : Type 0 where
  pub called : AllCalled k start asked last
  pub answered : err ≡ None → AreAnswered asked

-- rows that were shown, and then others
each_then : (xs ys : List (List Note)) (t m u : Trace) → EachShown xs t m → EachShown ys m u → EachShown (xs ++ ys) t u
each_then [] ys t m u still rest = subst (λ (x : Trace). EachShown ys x u) still rest
each_then (x ∷ xs) ys t m u (whole, (between, shown, more)) rest = (whole, (between, shown, each_then xs ys between m u more rest))

all_answered : (steps : List (VaultCall × VaultAnswer)) → AreAnswered steps → AllAnswered steps
all_answered [] are = tt
all_answered ((Fetch keys, Values values) ∷ steps) are = all_answered steps are
all_answered ((End writes, Ended) ∷ steps) are = all_answered steps are
all_answered ((Fetch keys, Ended) ∷ steps) are = absurd are
all_answered ((Fetch keys, RefusedBy fault) ∷ steps) are = absurd are
all_answered ((Fetch keys, DoubtBy fault) ∷ steps) are = absurd are
all_answered ((End writes, Values values) ∷ steps) are = absurd are
all_answered ((End writes, RefusedBy fault) ∷ steps) are = absurd are
all_answered ((End writes, DoubtBy fault) ∷ steps) are = absurd are

module _ {V S : Type 0} (k : Kind V) (store : StoreKind) (disk : S → Disk) (store_of : V → S) (under : Keys) (most : ℕ) (p : Params) (found : store.Found) (start : V) (At : store.Public → store.Hidden → List Shape → ℕ → V → Type 0) (tape_of : V → Given)
    (does : (q : store.Public) (h : store.Hidden) (so_far : List Shape) (n : ℕ) (v : V) (call : VaultCall) (answer : VaultAnswer) (w : V) → At q h so_far n v → (one : Called k v call answer w)
    → IsCallOfKind store under most p found (disk (store_of start)) At (disk (store_of v)) (disk (store_of w)) (tape_of w).words w one.notes q h so_far n call answer)
    (tells : (q : store.Public) (h : store.Hidden) (so_far : List Shape) (n : ℕ) (v : V) → At q h so_far n v → (fault : Option Fault) → store.is_of_tape p h None (tape_of v).words fault) (life : LifeWords store) (audit : AuditWords store)
    (at_rest : (calls : List VaultCall) (taken : List (Shape × store.Drawn)) (q : store.Public) (h : store.Hidden) (so_far : List Shape) (n : ℕ) (v : V) → AreDrawn store p (store.hidden p found) calls taken h → At q h so_far n v
    → (seen : List Event) → life.goes_on under most p found (disk (store_of start)) calls taken h None (tape_of v).words seen (disk (store_of v)))
    (at_stop : (calls : List VaultCall) (taken : List (Shape × store.Drawn)) (q : store.Public) (h : store.Hidden) (so_far : List Shape) (n : ℕ) (v : V) → AreDrawn store p (store.hidden p found) calls taken h → At q h so_far n v
    → (call : VaultCall) (answer : VaultAnswer) (w : V) (one : Called k v call answer w) (fault : Fault) (seen : List Event) (cut : IsSeenCut store most p q h (Some call) (tape_of w).words (Some fault) seen) → store.cut_shown most p q call cut.0 fault seen one.notes
    → life.goes_on under most p found (disk (store_of start)) calls taken h (Some call) (tape_of w).words seen (disk (store_of w)))
    (at_stage : (asked : List (VaultCall × VaultAnswer)) (calls : List VaultCall) (taken : List (Shape × store.Drawn)) (q : store.Public) (h : store.Hidden) (so_far : List Shape) (n : ℕ) (v : V) → AllCalled k start asked v → AreAnswered asked → AreDrawn store p (store.hidden p found) calls taken h → At q h so_far n v
    → (call : VaultCall) (answer : VaultAnswer) (w : V) → Called k v call answer w → IsCallStagedAsShown store life audit disk under most p found (disk (store_of start)) calls taken q h call (tape_of w).words (is_answered answer) (store_of v) (store_of w)) where
  -- these calls came in stages behind earlier ones, from this store to that
  abbrev Staged : Option VaultCall → (words : List ℕ) (behind : store.Hidden) (new : S) (done : List VaultCall) (taken : List (Shape × store.Drawn)) → store.Public → store.Hidden → List VaultCall → List (Shape × store.Drawn) → S → Type 0
  Staged = CallsStaged store life audit disk under most p found (disk (store_of start))

  -- so did one of them, behind earlier ones
  abbrev OneStaged : (done : List VaultCall) (taken : List (Shape × store.Drawn)) → store.Public → store.Hidden → VaultCall → (words : List ℕ) → (whole : Bool) → (old new : S) → Type 0
  OneStaged = IsCallStagedAsShown store life audit disk under most p found (disk (store_of start))

  -- Behind calls that were all answered: what they drew, what was seen, and where the vault is.
  pub record Behind (q : store.Public) (h : store.Hidden) (so_far : List Shape) (n : ℕ) (first : V) (t : Trace) (steps : List (VaultCall × VaultAnswer)) (notes : List Note) (last : V) (u : Trace) : Type 0 where
    pub taken : List (Shape × store.Drawn)
    pub shapes_are : map (λ s. s.0) taken ≡ shapes steps
    pub kept : store.Hidden
    pub drawn : AreDrawn store p h (answered steps) taken kept
    pub at : At (public_behind store p q taken) kept (so_far ++ shapes steps) (n + length (ended_of steps)) last
    pub seen : ArePhasesMade most (steps_phases store p q taken) (disk (store_of first)).seen (disk (store_of last)).seen
    pub shown : notes ≡ steps_notes store p q taken
    pub each : EachShown (steps_rows store p q taken) t u
    pub staged : (asked : List (VaultCall × VaultAnswer)) (done : List VaultCall) (earlier : List (Shape × store.Drawn)) → AllCalled k start asked first → AreAnswered asked → AreDrawn store p (store.hidden p found) done earlier h → Staged None (tape_of last).words kept (store_of last) done earlier q h (answered steps) taken (store_of first)

  stays : (q : store.Public) (h : store.Hidden) (so_far : List Shape) (n : ℕ) (v : V) (t u : Trace) → u ≡ t → At q h so_far n v → Behind q h so_far n v t [] [] v u
  stays q h so_far n v t u still at = record {
    taken = [];
    shapes_are = refl;
    kept = h;
    drawn = refl;
    at = subst (λ (l : List Shape). At q h l (n + length {A = List (ℕ × Option (List ℕ))} []) v) (sym (append-nil so_far)) (subst (λ m. At q h so_far m v) (no_more n) at);
    seen = made_none most _ _ (none_noted _);
    shown = refl;
    each = still;
    staged = λ asked done earlier chain all so_drawn. (refl, refl);
  }
    where
      no_more : (m : ℕ) → m ≡ m + length {A = List (ℕ × Option (List ℕ))} []
      no_more m = omega arith

  -- one call before them
  before_it : (q : store.Public) (h : store.Hidden) (so_far : List Shape) (n : ℕ) (first mid last : V) (t between u : Trace) → t.broken ≡ false → (call : VaultCall) (answer : VaultAnswer) → Called k first call answer mid → AreAnswered ((call, answer) ∷ []) → (m : ℕ) (step : VaultCall × VaultAnswer) (steps : List (VaultCall × VaultAnswer)) → shapes
      (step ∷ steps) ≡ shape_of call ∷ shapes steps
      → answered (step ∷ steps) ≡ call ∷ answered steps
      → m + length (ended_of steps) ≡ n + length (ended_of (step ∷ steps)) → (own more : List Note) (one : IsAnsweredCall store most p At (disk (store_of first)) (disk (store_of mid)) mid q h so_far call m own)
      → ((asked : List (VaultCall × VaultAnswer)) (done : List VaultCall) (earlier : List (Shape × store.Drawn)) → AllCalled k start asked first → AreAnswered asked → AreDrawn store p (store.hidden p found) done earlier h → OneStaged done earlier q h call (tape_of mid).words true (store_of first) (store_of mid))
      → Shows own t between → Behind (store.next p q (shape_of call) one.drawn) one.behind (so_far ++ shape_of call ∷ []) m mid between steps more last u
      → Behind q h so_far n first t (step ∷ steps) (own ++ more) last u
  before_it q h so_far n first mid last t between u whole call answer its_call given m step steps is are counts own more one own_stages own_shown b = record {
    taken = (shape_of call, one.drawn) ∷ b.taken;
    shapes_are = ap (λ (l : List Shape). shape_of call ∷ l) b.shapes_are ∙ sym is;
    kept = b.kept;
    drawn = subst (λ (l : List VaultCall). AreDrawn store p h l ((shape_of call, one.drawn) ∷ b.taken) b.kept) (sym are) (one.behind, one.draws, b.drawn);
    at = subst (λ (l : List Shape). At (public_behind store p q ((shape_of call, one.drawn) ∷ b.taken)) b.kept l (n + length (ended_of (step ∷ steps))) last) (append_assoc so_far (shape_of call ∷ []) (shapes steps) ∙ ap (λ (l : List Shape). so_far ++ l) (sym is))
        (subst (λ i. At (public_behind store p q ((shape_of call, one.drawn) ∷ b.taken)) b.kept ((so_far ++ shape_of call ∷ []) ++ shapes steps) i last) counts b.at);
    seen = made_join most (store.phases p q (shape_of call) one.drawn) (steps_phases store p (store.next p q (shape_of call) one.drawn) b.taken) _ _ _ one.seen b.seen;
    shown = ap (λ (l : List Note). l ++ more) one.shown ∙ ap (λ (l : List Note). store.notes p q (shape_of call) one.drawn ++ l) b.shown;
    each = (whole, (between, subst (λ (l : List Note). Shows l t between) one.shown own_shown, b.each));
    staged = λ asked done earlier chain all so_drawn.
        subst (λ (l : List VaultCall). Staged None (tape_of last).words b.kept (store_of last) done earlier q h l ((shape_of call, one.drawn) ∷ b.taken) (store_of first)) (sym are) (
          store_of mid,
          (tape_of mid).words,
          one.behind,
          one.draws,
          tells (store.next p q (shape_of call) one.drawn) one.behind (so_far ++ shape_of call ∷ []) m mid one.at None,
          own_stages asked done earlier chain all so_drawn,
          b.staged (asked ++ (call, answer) ∷ []) (done ++ call ∷ []) (earlier ++ (shape_of call, one.drawn) ∷ []) (called_more k start first mid asked call answer chain its_call) (answered_join asked ((call, answer) ∷ []) all given) (drawn_more store p (store.hidden p found) h done earlier call (shape_of call, one.drawn) one.behind so_drawn one.draws),
        );
  }

  pub behind : (q : store.Public) (h : store.Hidden) (so_far : List Shape) (n : ℕ) (first : V) (t : Trace) (steps : List (VaultCall × VaultAnswer)) (notes : List Note) (last : V) (u : Trace) → At q h so_far n first → AllNoted k first t steps notes last u →
      AreAnswered steps → Behind q h so_far n first t steps notes last u
  behind q h so_far n first t [] notes last u at (same, none, still) all = subst (λ w. Behind q h so_far n first t [] notes w u) (sym same) (subst (λ (l : List Note). Behind q h so_far n first t [] l first u) (sym none) (stays q h so_far n first t u still at))
  behind q h so_far n first t ((Fetch keys, Values values) ∷ steps) notes last u at (mid, between, one, more, are, rest) all =
      let goes = does q h so_far n first (Fetch keys) (Values values) mid at one.one in
      subst (λ (l : List Note). Behind q h so_far n first t ((Fetch keys, Values values) ∷ steps) l last u) (sym are)
      (before_it q h so_far n first mid last t between u one.whole (Fetch keys) (Values values) one.one tt n (Fetch keys, Values values) steps refl refl refl one.one.notes more goes (λ asked done earlier chain all_so so_drawn. at_stage asked done earlier q h so_far n first chain all_so so_drawn at (Fetch keys) (Values values) mid one.one) one.shown
      (behind (store.next p q Fetches goes.drawn) goes.behind (so_far ++ Fetches ∷ []) n mid between steps more last u goes.at rest all))
  behind q h so_far n first t ((End writes, Ended) ∷ steps) notes last u at (mid, between, one, more, are, rest) all =
      let goes = does q h so_far n first (End writes) Ended mid at one.one in
      subst (λ (l : List Note). Behind q h so_far n first t ((End writes, Ended) ∷ steps) l last u) (sym are)
      (before_it q h so_far n first mid last t between u one.whole (End writes) Ended one.one tt (suc n) (End writes, Ended) steps refl refl (one_more n (length (ended_of steps))) one.one.notes more goes (λ asked done earlier chain all_so so_drawn. at_stage asked done earlier q h so_far n first chain all_so so_drawn at (End writes) Ended mid one.one) one.shown
      (behind (store.next p q Ends goes.drawn) goes.behind (so_far ++ Ends ∷ []) (suc n) mid between steps more last u goes.at rest all))
    where
      one_more : (i j : ℕ) → suc i + j ≡ i + suc j
      one_more i j = omega arith
  behind q h so_far n first t ((Fetch keys, Ended) ∷ steps) notes last u at chain all = absurd all
  behind q h so_far n first t ((Fetch keys, RefusedBy fault) ∷ steps) notes last u at chain all = absurd all
  behind q h so_far n first t ((Fetch keys, DoubtBy fault) ∷ steps) notes last u at chain all = absurd all
  behind q h so_far n first t ((End writes, Values values) ∷ steps) notes last u at chain all = absurd all
  behind q h so_far n first t ((End writes, RefusedBy fault) ∷ steps) notes last u at chain all = absurd all
  behind q h so_far n first t ((End writes, DoubtBy fault) ∷ steps) notes last u at chain all = absurd all

  -- a last call with these notes, made under a whole watch
  abbrev CalledWith : V → Trace → VaultCall → VaultAnswer → V → Trace → List Note → Type 0
  CalledWith mid at call answer last u own = (one : Called k mid call answer last) × (one.notes ≡ own) × (at.broken ≡ false) × Shows own at u

  split : (first : V) (t : Trace) (front : List (VaultCall × VaultAnswer)) (call : VaultCall) (answer : VaultAnswer) (notes : List Note) (last : V) (u : Trace) → AllNoted k first t (front ++ (call, answer) ∷ []) notes last u
      → (mid : V) × (between : Trace) × (before : List Note) × (own : List Note) × AllNoted k first t front before mid between × CalledWith mid between call answer last u own × (notes ≡ before ++ own)
  split first t [] call answer notes last u (end, between, one, more, are, (same, none, still)) = (
    first,
    t,
    [],
    one.one.notes,
    (refl, refl, refl),
    subst (λ w. CalledWith first t call answer w u one.one.notes) (sym same) (one.one, refl, one.whole, subst (λ (x : Trace). Shows one.one.notes t x) (sym still) one.shown),
    are ∙ ap
        (λ (l : List Note). one.one.notes ++ l) none ∙ append-nil one.one.notes,
  )
  split first t (step ∷ front) call answer notes last u (next, between, one, more, are, rest) =
      let (mid, at, before, own, chain, last_one, joined) = split next between front call answer more last u rest in (
        mid,
        at,
        one.one.notes ++ before,
        own,
        (next, between, one, before, refl, chain),
        last_one,
        are ∙ ap (λ (l : List Note). one.one.notes ++ l) joined ∙ sym (append_assoc one.one.notes before own),
      )

  none_more : (front : List (VaultCall × VaultAnswer)) (call : VaultCall) (answer : VaultAnswer) → ended_by (call, answer) ≡ [] → ended_of (front ++ (call, answer) ∷ []) ≡ ended_of front
  none_more [] call answer none = append-nil (ended_by (call, answer)) ∙ none
  none_more (step ∷ front) call answer none = ap (λ l. ended_by step ++ l) (none_more front call answer none)

  -- this is hidden in the vault
  abbrev pub Hides : store.Hidden → V → Type 0
  Hides h v = (q : store.Public) × (so_far : List Shape) × (n : ℕ) × At q h so_far n v

  -- behind calls that were answered the store is left as they showed
  abbrev pub RestShown : V → Type 0
  RestShown first = (asked : List (VaultCall × VaultAnswer)) (taken : List (Shape × store.Drawn)) (h : store.Hidden) (so_far : List Shape) (n : ℕ) (v : V) → AllCalled k first asked v → AreAnswered asked → AreDrawn store p (store.hidden p found) (answered asked) taken h
      → At (public_behind store p (store.public p found) taken) h so_far n v → audit.leaves_as_shown under most p found (disk (store_of start)) (answered asked) taken h None (tape_of v).words [] [] (disk (store_of v))

  -- and so behind one that was refused
  abbrev pub StopShown : V → Type 0
  StopShown first = (asked : List (VaultCall × VaultAnswer)) (taken : List (Shape × store.Drawn)) (h : store.Hidden) (so_far : List Shape) (n : ℕ) (v : V) → AllCalled k first asked v → AreAnswered asked → AreDrawn store p (store.hidden p found) (answered asked) taken h
      → At (public_behind store p (store.public p found) taken) h so_far n v → (call : VaultCall) (answer : VaultAnswer) (w : V) (one : Called k v call answer w) (fault : Fault) (seen : List Event)
      (cut : IsSeenCut store most p (public_behind store p (store.public p found) taken) h (Some call) (tape_of w).words (Some fault) seen) → store.cut_shown most p (public_behind store p (store.public p found) taken) call cut.0 fault seen one.notes → is_answered answer ≡ false
      → audit.leaves_as_shown under most p found (disk (store_of start)) (answered asked) taken h (Some call) (tape_of w).words seen one.notes (disk (store_of w))

  module _ (first last : V) (t u : Trace) (unbroken : t.broken ≡ false) (before after : Flow) (records : List (EpochRecord ℕ)) (begun : At (store.public p found) (store.hidden p found) [] 0 first)
      (opened_so : first ≡ start) (rest_shown : RestShown first) (stop_shown : StopShown first) where
    abbrev old_disk : Disk
    old_disk = disk (store_of first)

    abbrev new_disk : Disk
    new_disk = disk (store_of last)

    -- How it ended, after these calls: why, what was written, what was seen, and what was shown.
    pub record Ending (asked : List (VaultCall × VaultAnswer)) (err : Option RunErr) : Type 0 where
      pub events : List Event
      pub traced : IsTraced store most p found (tape_of last).words asked (told_fault err) events
      pub shown : IsShownToWatch store most p found (tape_of last).words asked (told_fault err) events traced t u
      pub cause : EndsFor store under p found (disk (store_of start)) traced.behind (shapes asked) (length records) (refused asked) (tape_of last).words (disk (store_of first)) (disk (store_of last)) before after t u err
      pub seen : Notes events (disk (store_of first)).seen (disk (store_of last)).seen
      pub goes_on : life.goes_on under most p found (disk (store_of start)) (answered asked) traced.steps traced.behind (refused asked) (tape_of last).words traced.more (disk (store_of last))
      pub parted : Parted k first last asked err (Hides traced.behind)
      pub staged : Staged (refused asked) (tape_of last).words traced.behind (store_of last) [] [] (store.public p found) (store.hidden p found) (answered asked) traced.steps (store_of first)
      pub audited : audit.leaves_as_shown under most p found (disk (store_of start)) (answered asked) traced.steps traced.behind (refused asked) (tape_of last).words traced.more shown.last (disk (store_of last))

    -- what was seen of a last call, and what was shown
    abbrev Cut : (q : store.Public) (h : store.Hidden) (one : Option VaultCall) (fault : Option Fault) → List Event → List Note → Type 0
    Cut q h one fault more own = (cut : IsSeenCut store most p q h one (tape_of last).words fault more) × IsCutShown store most p q h one (tape_of last).words fault more cut own

    none_cut : (q : store.Public) (h : store.Hidden) (one : Option VaultCall) (fault : Option Fault) → one ≡ None → Cut q h one fault [] []
    none_cut q h one fault is = subst (λ (o : Option VaultCall). Cut q h o fault [] []) (sym is) (refl, refl)

    -- no call was refused
    ends_alone : (asked : List (VaultCall × VaultAnswer)) (notes : List Note) → AllNoted k first t asked notes last u → AreAnswered asked → (err : Option RunErr) →
        ((h : store.Hidden) → EndsFor store under p found (disk (store_of start)) h (shapes asked) (length records) (refused asked) (tape_of last).words (disk (store_of first)) (disk (store_of last)) before after t u err)
        → Ending asked err
    ends_alone asked notes chain all err cause =
        let b = behind (store.public p found) (store.hidden p found) [] 0 first t asked notes last u begun chain all in
        let none : refused asked ≡ None = answered_not_refused asked (all_answered asked all) in
        let cut = none_cut (public_behind store p (store.public p found) b.taken) b.kept (refused asked) (told_fault err) none in
        record {
          cause = cause b.kept;
          events = b.seen.events ++ [];
          traced = record {
            steps = b.taken;
            shapes_are = b.shapes_are;
            behind = b.kept;
            drawn = b.drawn;
            of_tape = subst (λ (o : Option VaultCall). store.is_of_tape p b.kept o (tape_of last).words (told_fault err)) (sym none)
                (tells (public_behind store p (store.public p found) b.taken) b.kept (shapes asked) (0 + length (ended_of asked)) last b.at (told_fault err));
            first = b.seen.events;
            dealt = b.seen.dealt;
            more = [];
            cut = cut.0;
            events_are = refl;
          };
          shown = record {
            last = [];
            cut = cut.1;
            shows = subst (λ (l : List Note). Shows l t u) (b.shown ∙ sym (append-nil (steps_notes store p (store.public p found) b.taken))) (all_shown k first t asked notes last u chain);
            each = each_then (steps_rows store p (store.public p found) b.taken) (refused_row (refused asked) []) t u u b.each (subst (λ (o : Option VaultCall). EachShown (refused_row o []) u u) (sym none) refl);
          };
          goes_on = subst (λ (o : Option VaultCall). life.goes_on under most p found (disk (store_of start)) (answered asked) b.taken b.kept o (tape_of last).words [] (disk (store_of last))) (sym none)
              (at_rest (answered asked) b.taken (public_behind store p (store.public p found) b.taken) b.kept (shapes asked) (0 + length (ended_of asked)) last b.drawn b.at []);
          seen = subst (λ (l : List Event). Notes l (disk (store_of first)).seen (disk (store_of last)).seen) (sym (append-nil b.seen.events)) b.seen.noted;
          parted = record {
            front = asked;
            rest = [];
            mid = last;
            are = append-nil asked;
            called = called k first t asked notes last u chain;
            answered = all;
            is_at = (public_behind store p (store.public p found) b.taken, shapes asked, 0 + length (ended_of asked), b.at);
            more = refl;
            cut = tt;
          };
          staged = subst (λ (o : Option VaultCall). Staged o (tape_of last).words b.kept (store_of last) [] [] (store.public p found) (store.hidden p found) (answered asked) b.taken (store_of first)) (sym none) (b.staged [] [] [] opened_so tt refl);
          audited = subst (λ (o : Option VaultCall). audit.leaves_as_shown under most p found (disk (store_of start)) (answered asked) b.taken b.kept o (tape_of last).words [] [] (disk (store_of last))) (sym none)
              (rest_shown asked b.taken b.kept (shapes asked) (0 + length (ended_of asked)) last (called k first t asked notes last u chain) all b.drawn b.at);
        }

    module _ (faults : (v : V) → (k.disk v).faults ≡ (disk (store_of v)).faults) where
      rises : Rose (k.disk first).faults (k.disk last).faults → Rose (disk (store_of first)).faults (disk (store_of last)).faults
      rises rose = subst (λ n. Rose (disk (store_of first)).faults n) (faults last) (subst (λ n. Rose n (k.disk last).faults) (faults first) rose)

      -- the vault refused a call
      cause_of : (so_far : List Shape) (n : ℕ) (call : VaultCall) (fault : Fault) (mid : V) (q : store.Public) (h : store.Hidden) (own : List Note) → Stops store under most p found (disk (store_of start)) (disk (store_of mid)) (disk (store_of last)) (tape_of last).words q h so_far n call
          fault own → so_far ≡ so_far → n ≡ length records
          → (IsStoreFault fault → Rose (k.disk first).faults (k.disk last).faults) → EndsFor store under p found (disk (store_of start)) h so_far (length records) (Some call) (tape_of last).words (disk (store_of first)) (disk (store_of last)) before after t u (Some (failed.Fault fault))
      cause_of so_far n call (StoreFault unsure) mid q h own s same is rose = (rises (rose tt), subst (λ m. (unsure ≡ None) ⊎ (unsure ≡ Some (suc (store.epoch found + m)))) is s.why)
      cause_of so_far n call Memory mid q h own s same is rose = tt
      cause_of so_far n call SinkFault mid q h own s same is rose = absurd s.why
      cause_of so_far n call (Worn number) mid q h own s same is rose = subst (λ m. store.causes under p found (disk (store_of start)) (disk (store_of last)) h so_far m (Some call) (tape_of last).words (Worn number)) is s.why
      cause_of so_far n call Usage mid q h own s same is rose = subst (λ m. store.causes under p found (disk (store_of start)) (disk (store_of last)) h so_far m (Some call) (tape_of last).words Usage) is s.why
      cause_of so_far n call (BadScript line) mid q h own s same is rose = subst (λ m. store.causes under p found (disk (store_of start)) (disk (store_of last)) h so_far m (Some call) (tape_of last).words (BadScript line)) is s.why
      cause_of so_far n call (BadParams field) mid q h own s same is rose = subst (λ m. store.causes under p found (disk (store_of start)) (disk (store_of last)) h so_far m (Some call) (tape_of last).words (BadParams field)) is s.why
      cause_of so_far n call NotStore mid q h own s same is rose = subst (λ m. store.causes under p found (disk (store_of start)) (disk (store_of last)) h so_far m (Some call) (tape_of last).words NotStore) is s.why
      cause_of so_far n call (Damaged cell check kept computed) mid q h own s same is rose = subst (λ m. store.causes under p found (disk (store_of start)) (disk (store_of last)) h so_far m (Some call) (tape_of last).words (Damaged cell check kept computed)) is s.why
      cause_of so_far n call (StashFull rows) mid q h own s same is rose = subst (λ m. store.causes under p found (disk (store_of start)) (disk (store_of last)) h so_far m (Some call) (tape_of last).words (StashFull rows)) is s.why
      cause_of so_far n call SourceFault mid q h own s same is rose = subst (λ m. store.causes under p found (disk (store_of start)) (disk (store_of last)) h so_far m (Some call) (tape_of last).words SourceFault) is s.why

      -- a last call was refused with this fault, behind others that were answered
      cut_short : (front : List (VaultCall × VaultAnswer)) (call : VaultCall) (answer : VaultAnswer) (fault : Fault) (notes : List Note) → AllNoted k first t (front ++ (call, answer) ∷ []) notes last u → AreAnswered front → AreWritten (ended_of front) records
          → refused ((call, answer) ∷ []) ≡ Some call → shapes ((call, answer) ∷ []) ≡ [] → answered ((call, answer) ∷ []) ≡ [] → NoneServed ((call, answer) ∷ []) → is_answered answer ≡ false
          → ((q : store.Public) (h : store.Hidden) (so_far : List Shape) (n : ℕ) (v : V) (w : V) → At q h so_far n v → (one : Called k v call answer w)
          → Stops store under most p found (disk (store_of start)) (disk (store_of v)) (disk (store_of w)) (tape_of w).words q h so_far n call fault one.notes)
          → (IsStoreFault fault → Rose (k.disk first).faults (k.disk last).faults) → Ending (front ++ (call, answer) ∷ []) (Some (failed.Fault fault))
      cut_short front call answer fault notes chain all wrote is none none_answered unserved unanswered stops cause =
          let (mid, between, front_notes, own, before_last, (one, own_is, whole, own_shown), joined) = split first t front call answer notes last u chain in
          let b = behind (store.public p found) (store.hidden p found) [] 0 first t front front_notes mid between begun before_last all in
          let q = public_behind store p (store.public p found) b.taken in
          let s = stops q b.kept (shapes front) (0 + length (ended_of front)) mid last b.at one in
          let as_front : shapes (front ++ (call, answer) ∷ []) ≡ shapes front = shapes_join front ((call, answer) ∷ []) ∙ ap (λ (l : List Shape). shapes front ++ l) none ∙ append-nil (shapes front) in
          let was_cut : refused (front ++ (call, answer) ∷ []) ≡ Some call = refused_last front (call, answer) (all_answered front all) ∙ is in
          let calls_front : answered (front ++ (call, answer) ∷ []) ≡ answered front = answers_join front ((call, answer) ∷ []) ∙ ap (λ (l : List VaultCall). answered front ++ l) none_answered ∙ append-nil (answered front) in
          let cut : Cut q b.kept (refused (front ++ (call, answer) ∷ [])) (Some fault) s.more one.notes = subst (λ (o : Option VaultCall). Cut q b.kept o (Some fault) s.more one.notes) (sym was_cut) (s.cut, s.shown) in
          record {
            cause = subst (λ (l : List Shape). EndsFor store under p found (disk (store_of start)) b.kept l (length records) (refused (front ++ (call, answer) ∷ [])) (tape_of last).words (disk (store_of first)) (disk (store_of last)) before after t u (Some (failed.Fault fault))) (sym as_front)
                (subst (λ (o : Option VaultCall). EndsFor store under p found (disk (store_of start)) b.kept (shapes front) (length records) o (tape_of last).words (disk (store_of first)) (disk (store_of last)) before after t u (Some (failed.Fault fault))) (sym was_cut)
                (cause_of (shapes front) (0 + length (ended_of front)) call fault mid q b.kept one.notes s refl (none_before (length (ended_of front)) ∙ counted_ends (ended_of front) records wrote) cause));
            events = b.seen.events ++ s.more;
            traced = record {
              steps = b.taken;
              shapes_are = b.shapes_are ∙ sym as_front;
              behind = b.kept;
              drawn = subst (λ (l : List VaultCall). AreDrawn store p (store.hidden p found) l b.taken b.kept) (sym calls_front) b.drawn;
              of_tape = subst (λ (o : Option VaultCall). store.is_of_tape p b.kept o (tape_of last).words (Some fault)) (sym was_cut) s.of_tape;
              first = b.seen.events;
              dealt = b.seen.dealt;
              more = s.more;
              cut = cut.0;
              events_are = refl;
            };
            shown = record {
              last = one.notes;
              cut = cut.1;
              shows = subst (λ (l : List Note). Shows l t u)
                  (joined ∙ ap (λ (l : List Note). l ++ own) b.shown ∙ ap (λ (l : List Note). steps_notes store p (store.public p found) b.taken ++ l) (sym own_is))
                  (all_shown k first t (front ++ (call, answer) ∷ []) notes last u chain);
              each = each_then (steps_rows store p (store.public p found) b.taken) (refused_row (refused (front ++ (call, answer) ∷ [])) one.notes) t between u b.each
                  (subst (λ (o : Option VaultCall). EachShown (refused_row o one.notes) between u) (sym was_cut) (whole, (u, subst (λ (l : List Note). Shows l between u) (sym own_is) own_shown, refl)));
            };
            goes_on = subst (λ (l : List VaultCall). life.goes_on under most p found (disk (store_of start)) l b.taken b.kept (refused (front ++ (call, answer) ∷ [])) (tape_of last).words s.more (disk (store_of last))) (sym calls_front)
                (subst (λ (o : Option VaultCall). life.goes_on under most p found (disk (store_of start)) (answered front) b.taken b.kept o (tape_of last).words s.more (disk (store_of last))) (sym was_cut)
                (at_stop (answered front) b.taken q b.kept (shapes front) (0 + length (ended_of front)) mid b.drawn b.at call answer last one fault s.more s.cut s.shown));
            seen = joined_seen b.seen.events s.more _ _ _ b.seen.noted s.seen;
            parted = record {
              front = front;
              rest = (call, answer) ∷ [];
              mid = mid;
              are = refl;
              called = called k first t front front_notes mid between before_last;
              answered = all;
              is_at = (q, shapes front, 0 + length (ended_of front), b.at);
              more = (last, one, refl);
              cut = unserved;
            };
            staged = subst (λ (l : List VaultCall). Staged (refused (front ++ (call, answer) ∷ [])) (tape_of last).words b.kept (store_of last) [] [] (store.public p found) (store.hidden p found) l b.taken (store_of first)) (sym calls_front)
                (subst (λ (o : Option VaultCall). Staged o (tape_of last).words b.kept (store_of last) [] [] (store.public p found) (store.hidden p found) (answered front) b.taken (store_of first)) (sym was_cut)
                (calls_then store p (OneStaged) call (tape_of mid).words (tape_of last).words b.kept (store_of mid) (store_of last) [] [] (store.public p found) (store.hidden p found) (answered front) b.taken (store_of first) (b.staged [] [] [] opened_so tt refl)
                (subst (λ (whole : Bool). OneStaged (answered front) b.taken q b.kept call (tape_of last).words whole (store_of mid) (store_of last)) unanswered
                (at_stage front (answered front) b.taken q b.kept (shapes front) (0 + length (ended_of front)) mid (subst (λ v. AllCalled k v front mid) opened_so (called k first t front front_notes mid between before_last)) all b.drawn b.at call answer last one))));
            audited = subst (λ (l : List VaultCall). audit.leaves_as_shown under most p found (disk (store_of start)) l b.taken b.kept (refused (front ++ (call, answer) ∷ [])) (tape_of last).words s.more one.notes (disk (store_of last))) (sym calls_front)
                (subst (λ (o : Option VaultCall). audit.leaves_as_shown under most p found (disk (store_of start)) (answered front) b.taken b.kept o (tape_of last).words s.more one.notes (disk (store_of last))) (sym was_cut)
                (stop_shown front b.taken b.kept (shapes front) (0 + length (ended_of front)) mid (called k first t front front_notes mid between before_last) all b.drawn b.at call answer last one fault s.more s.cut s.shown unanswered));
          }
        where
          none_before : (m : ℕ) → 0 + m ≡ m
          none_before m = omega arith

      -- a refused batch, and a refused end
      by_fetch : (front : List (VaultCall × VaultAnswer)) (keys : List (Option ℕ)) (fault : Fault) (notes : List Note) → AllNoted k first t (front ++ (Fetch keys, RefusedBy fault) ∷ []) notes last u → AreAnswered front → AreWritten (ended_of front) records
          → (IsStoreFault fault → Rose (k.disk first).faults (k.disk last).faults) → Ending (front ++ (Fetch keys, RefusedBy fault) ∷ []) (Some (failed.Fault fault))
      by_fetch front keys fault notes chain answered wrote cause = cut_short front (Fetch keys) (RefusedBy fault) fault notes chain answered wrote refl refl refl tt refl (λ q h so_far n v w at one. does q h so_far n v (Fetch keys) (RefusedBy fault) w at one) cause

      by_end : (front : List (VaultCall × VaultAnswer)) (writes : List (ℕ × Option (List ℕ))) (refusal : EndErr) (notes : List Note) → AllNoted k first t (front ++ (End writes, end_answer (Err refusal)) ∷ []) notes last u → AreAnswered front → AreWritten (ended_of front) records
          → (IsStoreFault (fault_in refusal) → Rose (k.disk first).faults (k.disk last).faults) → Ending (front ++ (End writes, end_answer (Err refusal)) ∷ []) (Some (failed.Fault (fault_in refusal)))
      by_end front writes (Before fault) notes chain answered wrote cause = cut_short front (End writes) (RefusedBy fault) fault notes chain answered wrote refl refl refl tt refl (λ q h so_far n v w at one. does q h so_far n v (End writes) (RefusedBy fault) w at one) cause
      by_end front writes (Unsure fault) notes chain answered wrote cause = cut_short front (End writes) (DoubtBy fault) fault notes chain answered wrote refl refl refl tt refl (λ q h so_far n v w at one. does q h so_far n v (End writes) (DoubtBy fault) w at one) cause

      module _ (acts : List Act) (notes : List Note) (same : records_of_acts acts ≡ records) (chain : AllNoted k first t (calls acts) notes last u) (wrote : AreWritten (ended_of (calls acts)) records) where
        module _ (d e : DeskState) (err : RunErr) (f : Failure k (scene d first t) (scene e last u) acts before after err) where
          its_calls : (act : Act) → f.act ≡ act → calls acts ≡ calls f.front ++ vault_calls act
          its_calls act is = asks_before acts f.front act f.behind (f.acts_are ∙ ap (λ (x : Act). f.front ++ x ∷ f.behind) is) f.says

          told_by : (act : Act) (given : RunErr) → f.act ≡ act → fault_told act ≡ Some given → err ≡ given
          told_by act given is tells = same_Some err given (sym f.told ∙ ap fault_told is ∙ tells)

          its_err : (act : Act) (other : RunErr) → f.act ≡ act → fault_told act ≡ Some other → Ending (calls acts) (Some other) → Ending (calls acts) (Some err)
          its_err act other is tells = subst (λ (x : RunErr). Ending (calls acts) (Some x)) (sym (told_by act other is tells))

          -- it asked the vault for nothing
          answered_all : (act : Act) → f.act ≡ act → vault_calls act ≡ [] → AreAnswered (calls acts)
          answered_all act is asks = subst AreAnswered (sym (its_calls act is ∙ ap (λ l. calls f.front ++ l) asks ∙ append-nil (calls f.front))) f.answered

          -- it was refused one call, behind these
          by_last : (front : List (VaultCall × VaultAnswer)) (call : VaultCall) (answer : VaultAnswer) (given : Fault) → err ≡ failed.Fault given → calls acts ≡ front ++ (call, answer) ∷ [] → ended_by (call, answer) ≡ []
              → (AllNoted k first t (front ++ (call, answer) ∷ []) notes last u → AreWritten (ended_of front) records → (IsStoreFault given → Rose (k.disk first).faults (k.disk last).faults) → Ending (front ++ (call, answer) ∷ []) (Some (failed.Fault given))) → Ending (calls acts) (Some err)
          by_last front call answer given err_is are none so = subst (λ l. Ending l (Some err)) (sym are) (subst (λ (x : RunErr). Ending (front ++ (call, answer) ∷ []) (Some x)) (sym err_is)
              (so (subst (λ l. AllNoted k first t l notes last u) are chain) (subst (λ ws. AreWritten ws records) (ap ended_of are ∙ none_more front call answer none) wrote) (λ is. f.cause (subst (λ (x : RunErr). IsStoreFault (stop_fault x)) (sym err_is) is))))

          -- it stopped for a watch that broke
          by_watch : AreAnswered (calls acts) → u.broken ≡ true → Ending (calls acts) (Some failed.Unwatched)
          by_watch all broken = ends_alone (calls acts) notes chain all (Some failed.Unwatched) (λ h. (broken, rose_broken notes t u (all_shown k first t (calls acts) notes last u chain) unbroken broken))

          by_act : (act : Act) → f.act ≡ act → IsReason k (scene d first t) f.front act u → AreLines act records before after → Ending (calls acts) (Some err)
          by_act (Halts given) is reason lines = its_err (Halts given) (failed.Fault Memory) is (ap (λ (x : Fault). Some (failed.Fault x)) reason) (ends_alone (calls acts) notes chain (answered_all (Halts given) is refl) (Some (failed.Fault Memory)) (λ h. tt))
          by_act Unprinted is reason lines = its_err Unprinted (failed.Fault SinkFault) is refl
              (ends_alone (calls acts) notes chain (answered_all Unprinted is refl) (Some (failed.Fault SinkFault)) (λ h. rose_later before.faults lines.mid.faults after.faults lines.written.later lines.rose))
          by_act (DeliverFails keys given) is reason lines = by_last (calls f.front) (Fetch keys) (RefusedBy given) given (told_by (DeliverFails keys given) (failed.Fault given) is refl) (its_calls (DeliverFails keys given) is) refl
              (λ c w cause. by_fetch (calls f.front) keys given notes c f.answered w cause)
          by_act (FetchFails look batches keys given) is reason lines = by_last (calls f.front ++ rest_fetches batches) (Fetch keys) (RefusedBy given) given (told_by (FetchFails look batches keys given) (failed.Fault given) is refl)
              (its_calls (FetchFails look batches keys given) is ∙ sym (append_assoc (calls f.front) (rest_fetches batches) ((Fetch keys, RefusedBy given) ∷ []))) refl
              (λ c w cause. by_fetch (calls f.front ++ rest_fetches batches) keys given notes c (answered_join (calls f.front) (rest_fetches batches) f.answered (subst AreAnswered (append-nil (rest_fetches batches)) (answered_rest batches [] tt))) w cause)
          by_act (Refuses writes refusal) is reason lines = by_last (calls f.front) (End writes) (end_answer (Err refusal)) (fault_in refusal) (told_by (Refuses writes refusal) (failed.Fault (fault_in refusal)) is refl) (its_calls (Refuses writes refusal) is) (none_ended writes refusal)
              (λ c w cause. by_end (calls f.front) writes refusal notes c f.answered w cause)
          by_act (RestUnwatched look batches) is reason lines = its_err (RestUnwatched look batches) failed.Unwatched is refl
              (by_watch (subst AreAnswered (sym (its_calls (RestUnwatched look batches) is)) (answered_join (calls f.front) (rest_fetches batches) f.answered (subst AreAnswered (append-nil (rest_fetches batches)) (answered_rest batches [] tt)))) reason)
          by_act Unwatched is reason lines = its_err Unwatched failed.Unwatched is refl (by_watch (answered_all Unwatched is refl) reason)
          by_act (Says client steps) is reason lines = absurd reason
          by_act (Looked look) is reason lines = absurd reason
          by_act (Takes look keys) is reason lines = absurd reason
          by_act (Delivers batch) is reason lines = absurd reason
          by_act (Closes look batches writes) is reason lines = absurd reason
          by_act (Publishes writes left told) is reason lines = absurd reason

        ending : {U : Type 0} (d e : DeskState) (were are : List U) (result : Result (Unit {0}) RunErr) → RunEnds k (run_state (scene d first t) were before) (run_state (scene e last u) are after) acts result → Ending (calls acts) (err_of result)
        ending d e were are (Ok done) (answered, over, written, still) = ends_alone (calls acts) notes chain answered None (λ h. tt)
        ending d e were are (Err err) (inl short) = subst (λ (x : RunErr). Ending (calls acts) (Some x)) (sym short.fault_is)
            (ends_alone (calls acts) notes chain (subst (λ (xs : List Act). AreAnswered (calls xs)) (sym short.none) tt) (Some (failed.Fault Memory)) (λ h. tt))
        ending d e were are (Err err) (inr f) = by_act d e err f f.act refl f.reason (subst (λ (rs : List (EpochRecord ℕ)). AreLines f.act rs before after) same f.lines)

  -- what the lender knows of a vault's words
  pub record IsLender (sealing : Sealing) : Type 1 where
    pub faults : (v : V) → (k.disk v).faults ≡ (disk (store_of v)).faults
    pub goes : (v w : V) → GoesOn (k.disk v) (k.disk w) → GoesOn (disk (store_of v)) (disk (store_of w))
    pub since : (a b : V) (P : Image → Type 0) → LeavesOnly (k.disk a) (k.disk b) P → LeavesOnly (disk (store_of a)) (disk (store_of b)) P
    pub now : (v : V) (c : Image) → IsImageOf (disk (store_of v)) c → IsImageOf (k.disk v) c
    pub stands : (c : Image) (at : Standing) → k.stands start c at → store.stands under p (store.generation found) c at
    pub only : OnlyNow k
    pub rests : Rests k
    pub holds : (m : Map nat_cmp) → store.is_map under p (disk (store_of start)) found m → k.holds start (opened_with p (store.left p found) (record { epoch = store.epoch found; content = m }))
    pub sound : (at : Standing) → (disk (store_of start)).tells → IsSynced (disk (store_of start)) → IsOpenedAt store under p at found (disk (store_of start)) → k.sound start (opened_with p (store.left p found) at)
    pub stays : (w : V) (steps : List (VaultCall × VaultAnswer)) → AllCalled k start steps w → (tape_of w).generation ≡ store.generation found
    pub told : (w : V) (steps : List (VaultCall × VaultAnswer)) → AllCalled k start steps w → AreAnswered steps → (disk (store_of start)).tells → (disk (store_of w)).tells
    pub seals : (w : V) (asked : List (VaultCall × VaultAnswer)) (h : store.Hidden) (err : Option RunErr) → Parted k start w asked err (Hides h)
        → LivesBehind disk under sealing (store_of start) (store_of w) (map (λ s. s.1) asked) (store.seals h) × ((disk (store_of w)).tells → IsInClearBehind under (disk (store_of start)) (disk (store_of w)) err)

  module _ {U : Type 0} (beat : BeatKind) (threads : Bool) (shares : Shares) (kind : RunnerKind U (List ScriptTxn))
      (means : RunsScripts kind)
      (sealing : Sealing) (script : Scripts) (sound : AreSound script) (may : MayOpen (setup_with p shares) (suc (store.epoch found)) (store.left p found) script.clients)
      (trace : Trace) (runners : List U) (before : Flow) (end : RunState V U) (result : Result (Unit {0}) RunErr)
      (unbroken : trace.broken ≡ false) (named : map kind.client runners ≡ script.clients) (planned : All (λ u. kind.plan u ≡ asks_by (kind.client u) script.txns) runners) where
    abbrev base : DeskState
    base = new_desk (setup_with p shares) (suc (store.epoch found)) (store.left p found) script.clients

    abbrev begin : RunState V U
    begin = run_state (scene base start trace) runners before

    module _ (acts : List Act) (d : Conducted k kind beat begin end acts result) (rounds : AreShaped threads script.clients acts) (l : IsLender sealing) (rest_shown : RestShown start) (stop_shown : StopShown start) where
      abbrev last : V
      last = end.scene.vault

      abbrev after : Flow
      after = end.output

      abbrev records : List (EpochRecord ℕ)
      records = records_of_acts acts

      -- the vault held the map that was found
      held_map : (m : Map nat_cmp) → store.is_map under p (disk (store_of start)) found m → HoldsMap k start m
      held_map m of = (opened_with p (store.left p found) (record { epoch = store.epoch found; content = m }), l.holds m of, refl)

      comes_next : (epoch : ℕ) → epoch ≡ store.epoch found → (next : Option (EpochRecord ℕ)) → IsNextOf k begin end acts result next → IsNextEpoch (store.is_map under p (disk (store_of start)) found) (suc epoch + length records) script records next
      comes_next epoch same None is = tt
      comes_next epoch same (Some r) (err, told, f, (writes, refused, act_is, u, the)) =
          let is = f.acts_are ∙ ap (λ (x : Act). f.front ++ x ∷ f.behind) act_is in
          subst (ComesNext (store.is_map under p (disk (store_of start)) found) (suc epoch + length records) script records) the (record {
            epoch_is = due_epoch k kind p beat begin (setup_with p shares) (suc (store.epoch found)) (store.left p found) script.clients refl acts end result d f.front writes refused f.behind is f.says u ∙ ap (λ e. suc e + length records) (sym same);
            served = next_served k beat kind means (setup_with p shares) (store.epoch found) (store.left p found) script sound may start trace runners before end acts result named planned d f.front writes refused f.behind is f.says u;
            in_order = due_in_order k kind p beat begin (setup_with p shares) (suc (store.epoch found)) (store.left p found) script.clients refl acts end result d f.front writes refused f.behind is f.says u;
            one_by_one = λ m of. due_one_by_one k kind p beat begin (setup_with p shares) (suc (store.epoch found)) (store.left p found) script.clients refl acts end result d f.front writes refused f.behind is f.says u m (held_map m of);
          })

      doubt_told : (epoch n : ℕ) → epoch ≡ n → TellsDoubt epoch result → err_of result ≡ Some (failed.Fault (StoreFault (Some n)))
      doubt_told epoch n same told = ap err_of told ∙ ap (λ (m : ℕ). Some (failed.Fault (StoreFault (Some m)))) same

      standing_in : {P Q : Standing → Type 0} (c : Image) → ((at : Standing) → P at → Q at) → StandsIn (k.stands start) P c → StandsIn (store.stands under p (store.generation found)) Q c
      standing_in c to (at, stands, is) = (at, l.stands c at stands, to at is)

      as_stored : (P : Standing → Type 0) (from to : V) → LeavesOnly (k.disk from) (k.disk to) (StandsIn (k.stands start) P) → LeavesOnly (disk (store_of from)) (disk (store_of to)) (StandsIn (store.stands under p (store.generation found)) P)
      as_stored P from to leaves = weakened (disk (store_of from)) (disk (store_of to)) (StandsIn (k.stands start) P) (StandsIn (store.stands under p (store.generation found)) P)
          (λ c is. standing_in c (λ s x. x) is) (l.since from to (StandsIn (k.stands start) P) leaves)

      staged_stores : (at : Standing) (told : List (EpochRecord ℕ)) (next : Option (EpochRecord ℕ)) (from to : V) → Stages k (k.stands start) at told next from to
          → StagedFrom disk (store.stands under p (store.generation found)) at told next (disk (store_of from)) (disk (store_of to))
      staged_stores at [] next from to leaves = as_stored (IsThisOrNext at next) from to leaves
      staged_stores at (r ∷ told) next from to (mid, leaves, rest) = (store_of mid, as_stored (IsThisOrNext at (Some r)) from mid leaves, staged_stores (next_at at r) told next mid to rest)

      left : (at : Standing) → (disk (store_of start)).tells → IsSynced (disk (store_of start)) → IsOpenedAt store under p at found (disk (store_of start))
          → IsLeftOnDisk store under p shares found at script records (err_of result) acts disk (disk (store_of start)) (disk (store_of last))
      left at tells settled opened =
          let v = opened_with p (store.left p found) at in
          let same : at.epoch ≡ store.epoch found = sym opened.epoch in
          let by = run_leaves k l.only l.rests kind beat begin end acts v (l.sound at tells settled opened) refl result d in
          record {
            next = by.next;
            is_next = comes_next at.epoch same by.next by.is_next;
            closed = next_by_acts k begin end acts result by.next by.is_next;
            since = weakened (disk (store_of start)) (disk (store_of last)) (StandsIn (k.stands start) (IsLeftStanding v records by.next)) (StandsIn (store.stands under p (store.generation found)) (IsLeftStanding v records by.next))
                (λ c is. standing_in c (λ s x. x) is) (l.since start last (StandsIn (k.stands start) (IsLeftStanding v records by.next)) by.since);
            stages = staged_stores at records by.next start last by.stages;
            now = λ c may. standing_in c
                (λ s x. ⊎_elim (λ e. inl e) (λ (r, is, told, e). inr (r, is, doubt_told (suc (store.epoch found) + length records) (suc at.epoch + length records) (ap (λ e. suc e + length records) (sym same)) told, e)) x) (by.now c (l.now last c may));
          }

      whole : (r : Result (Unit {0}) RunErr) → RunEnds k begin end acts r → r ≡ result → err_of result ≡ None → ClientsServedAll script records
      whole (Ok done) (answered, over, written, still) is none = all_served k beat kind means (setup_with p shares) (store.epoch found) (store.left p found) script sound may start trace runners before end acts result named planned d over
      whole (Err err) ends is none = absurd (no_err err (ap err_of is ∙ none))
        where
          no_err : (f : RunErr) → ◌≡◌ {A = Option RunErr} (Some f) None → ⊥
          no_err f e = cc e

      watch_whole : (r : Result (Unit {0}) RunErr) → RunEnds k begin end acts r → err_of r ≡ None → end.scene.trace.broken ≡ false
      watch_whole (Ok done) (answered, over, written, still) none = still
      watch_whole (Err err) ends none = absurd (no_err none)
        where
          no_err : ◌≡◌ {A = Option RunErr} (Some err) None → ⊥
          no_err e = cc e

      chain : AllCalled k start (calls acts) last
      chain = called k start trace (calls acts) d.notes last end.scene.trace d.chain

      -- without a fault all calls were answered
      all_given : (r : Result (Unit {0}) RunErr) → RunEnds k begin end acts r → err_of r ≡ None → AreAnswered (calls acts)
      all_given (Ok done) (answered, over, written, still) none = answered
      all_given (Err err) ends none = absurd (no_err none)
        where
          no_err : ◌≡◌ {A = Option RunErr} (Some err) None → ⊥
          no_err e = cc e

      still_told : (r : Result (Unit {0}) RunErr) → RunEnds k begin end acts r → err_of r ≡ None → (disk (store_of start)).tells → (disk (store_of last)).tells
      still_told (Ok done) (answered, over, written, still) none = l.told last (calls acts) chain answered
      still_told (Err err) ends none = absurd (no_err none)
        where
          no_err : ◌≡◌ {A = Option RunErr} (Some err) None → ⊥
          no_err e = cc e

      -- what batches delivered is that map's
      fed_on : (m : Map nat_cmp) → store.is_map under p (disk (store_of start)) found m → Run m base (history acts) (contents m records) end.scene.desk
      fed_on m of = (d.serial m (held_map m of)).0

      abbrev is_run : IsServed (AreShaped threads script.clients) (store.is_map under p (disk (store_of start)) found) beat (setup_with p shares) (store.epoch found) (store.left p found) script records
      is_run = is_served k beat kind means (setup_with p shares) (store.epoch found) (store.left p found) script sound may start trace runners before end acts result named planned d (AreShaped threads script.clients) (store.is_map under p (disk (store_of start)) found) rounds fed_on

      acts_are : acts ≡ (is_served k beat kind means (setup_with p shares) (store.epoch found) (store.left p found) script sound may start trace runners before end acts result named planned d (AreShaped threads script.clients) (store.is_map under p (disk (store_of start)) found) rounds fed_on).evidence.acts
      acts_are = sym (its_acts k beat kind means (setup_with p shares) (store.epoch found) (store.left p found) script sound may start trace runners before end acts result named planned d (AreShaped threads script.clients) (store.is_map under p (disk (store_of start)) found) rounds fed_on)

      desk_is : end.scene.desk ≡ (is_served k beat kind means (setup_with p shares) (store.epoch found) (store.left p found) script sound may start trace runners before end acts result named planned d (AreShaped threads script.clients) (store.is_map under p (disk (store_of start)) found) rounds fed_on).evidence.desk
      desk_is = sym (its_desk k beat kind means (setup_with p shares) (store.epoch found) (store.left p found) script sound may start trace runners before end acts result named planned d (AreShaped threads script.clients) (store.is_map under p (disk (store_of start)) found) rounds fed_on)

      ends_with : (r : Result (Unit {0}) RunErr) → RunEnds k begin end acts r → EndsWith (err_of r) acts end.scene.desk
      ends_with (Ok done) (answered, over, written, still) = over
      ends_with (Err err) (inl short) = inl (short.fault_is, short.none)
      ends_with (Err err) (inr f) = inr (f.front, f.act, f.behind, f.acts_are, f.says, f.told, f.stopped)

      -- the trace, what goes on in the life with its steps, and why it ended there
      abbrev TracesLife : List Act → List Event → Type 0
      TracesLife xs events = (t : IsTraced store most p found (tape_of last).words (calls xs) (told_fault (err_of result)) events)
          × (shown : IsShownToWatch store most p found (tape_of last).words (calls xs) (told_fault (err_of result)) events t trace end.scene.trace)
          × life.goes_on under most p found (disk (store_of start)) (answered (calls xs)) t.steps t.behind (refused (calls xs)) (tape_of last).words t.more (disk (store_of last))
          × EndsFor store under p found (disk (store_of start)) t.behind (shapes (calls xs)) (length records) (refused (calls xs)) (tape_of last).words (disk (store_of start)) (disk (store_of last)) before after trace end.scene.trace (err_of result)
          × LivesBehind disk under sealing (store_of start) (store_of last) (map (λ s. s.1) (calls xs)) (store.seals t.behind)
          × Staged (refused (calls xs)) (tape_of last).words t.behind (store_of last) [] [] (store.public p found) (store.hidden p found) (answered (calls xs)) t.steps (store_of start)
          × audit.leaves_as_shown under most p found (disk (store_of start)) (answered (calls xs)) t.steps t.behind (refused (calls xs)) (tape_of last).words t.more shown.last (disk (store_of last))

      -- the acts, as a list of the world's events
      listed : ListsActs store under p shares (disk (store_of start)) found script acts
      listed m of = are_listed k store under (setup_with p shares) (record { epoch = store.epoch found; content = m }) (store.left p found) script.clients beat threads start last acts end.scene.desk (l.holds m of) chain d.allowed d.leads rounds

      -- the vault's calls, beside what serving does
      calls_behind : CallsBehind k start (calls is_run.evidence.acts) last (err_of result)
      calls_behind = subst (λ (xs : List Act). CallsBehind k start (calls xs) last (err_of result)) acts_are (record { called = chain; answered = all_given result d.ends })

      -- what serving does
      pub serves : At (store.public p found) (store.hidden p found) [] 0 start → (s : ServedOver store life audit disk (manner beat threads most shares) under p found sealing script (tape_of last) (store_of start) (store_of last) before after trace end.scene.trace (err_of result))
          × CallsBehind k start (calls s.is_served.served.evidence.acts) last (err_of result)
      serves begun =
          let e = ending start last trace end.scene.trace unbroken before after records begun refl rest_shown stop_shown l.faults acts d.notes refl d.chain d.wrote base end.scene.desk runners end.runners result d.ends in
          let (lives, clear) = l.seals last (calls acts) e.traced.behind (err_of result) e.parted in
          let told = subst (λ (xs : List Act). TracesLife xs e.events) acts_are (e.traced, e.shown, e.goes_on, e.cause, lives, e.staged, e.audited) in
          let stand = lines_stand k begin end acts result d.ends in (
            record {
              records = records;
              is_served = record {
                served = is_run;
                all = whole result d.ends refl;
                ends = subst (λ (x : DeskState). EndsWith (err_of result) is_run.evidence.acts x) desk_is (subst (λ (xs : List Act). EndsWith (err_of result) xs end.scene.desk) acts_are (ends_with result d.ends));
                opens = may;
                one_by_one = λ m of. d.one_by_one m (held_map m of);
              };
              world = subst (λ (xs : List Act). ListsActs store under p shares (disk (store_of start)) found script xs) acts_are listed;
              cause = told.3;
              shown = told.1;
              watched = watch_whole result d.ends;
              whole = stand.0;
              lines = stand.1;
              events = e.events;
              traced = told.0;
              in_generation = l.stays last (calls acts) chain;
              seen = e.seen;
              goes = l.goes start last (goes_all k start trace (calls acts) d.notes last end.scene.trace d.chain);
              tells = still_told result d.ends;
              left = λ at tells settled opened. subst (λ (xs : List Act). IsLeftOnDisk store under p shares found at script records (err_of result) xs disk (disk (store_of start)) (disk (store_of last))) acts_are (left at tells settled opened);
              seals_on = told.4;
              clear = clear;
              goes_on = told.2;
              staged = told.5;
              audited = told.6;
            },
            calls_behind,
          )

  -- the same, from the epoch and the batches left that the vault tells
  pub serves_on : {U : Type 0} (beat : BeatKind) (threads : Bool) (shares : Shares) (kind : RunnerKind U (List ScriptTxn))
      (means : RunsScripts kind)
      (sealing : Sealing) (script : Scripts) (sound : AreSound script) (may : MayOpen (setup_with p shares) (suc (store.epoch found)) (store.left p found) script.clients)
      (trace : Trace) (runners : List U) (before : Flow) (end : RunState V U) (result : Result (Unit {0}) RunErr) (epoch left : ℕ)
      → trace.broken ≡ false → map kind.client runners ≡ script.clients → All (λ u. kind.plan u ≡ asks_by (kind.client u) script.txns) runners → epoch ≡ store.epoch found → left ≡ store.left p found
      → RunsBy threads k kind beat (run_state (scene (new_desk (setup_with p shares) (suc epoch) left script.clients) start trace) runners before) end result
      → IsLender sealing → RestShown start → StopShown start → At (store.public p found) (store.hidden p found) [] 0 start
      → (s : ServedOver store life audit disk (manner beat threads most shares) under p found sealing script (tape_of end.scene.vault) (store_of start) (store_of end.scene.vault) before end.output trace end.scene.trace (err_of result))
      × CallsBehind k start (calls s.is_served.served.evidence.acts) end.scene.vault (err_of result)
  serves_on beat threads shares kind means sealing script sound may trace runners before end result epoch left unbroken named planned epoch_is left_is run l rest_shown stop_shown begun =
      let run_is = subst (λ n. RunsBy threads k kind beat (run_state (scene (new_desk (setup_with p shares) (suc (store.epoch found)) n script.clients) start trace) runners before) end result) left_is
      (subst (λ e. RunsBy threads k kind beat (run_state (scene (new_desk (setup_with p shares) (suc e) left script.clients) start trace) runners before) end result) epoch_is run) in
      let (acts, d, shaped) = runs_shaped threads k kind beat _ end result run_is in
      serves beat threads shares kind means sealing script sound may trace runners before end result unbroken named planned acts d (subst (λ numbers. AreShaped threads numbers acts) named shaped) l rest_shown stop_shown begun

-- the same by other names
pub renamed : (store : StoreKind) (life : LifeWords store) (audit : AuditWords store) {S : Type 0} (disk : S → Disk) (by : Manner) (keys : Keys) (p : Params) (found : store.Found) (was sealing : Sealing) (script : Scripts) (first_told tape : Given) (a old b new : S) (before after : Flow) (t u : Trace) (err : Option RunErr)
    → was ≡ sealing → first_told ≡ tape → a ≡ old → new ≡ b → ServedOver store life audit disk by keys p found was script first_told a b before after t u err → ServedOver store life audit disk by keys p found sealing script tape old new before after t u err
renamed store life audit disk by keys p found was sealing script first_told tape a old b new before after t u err sealing_is tape_is old_is new_is s = rw (← sealing_is, ← tape_is, ← old_is, new_is) s
