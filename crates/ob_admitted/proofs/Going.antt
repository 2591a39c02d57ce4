-- A run that served, in a row of runs in which openings stop.
use Rattle.std.specs.Prelude.{◌≡◌, ℕ, Bool, cond, List, [], ◌∷◌, ◌++◌, length, Option, None, Some}
use Rattle.std.specs.Ordering.{nat_cmp}
use Rattle.std.proofs.Common.{suc, append_assoc, refl, sym, ap, ◌∙◌, subst, inl}
use Rattle.ob_base.specs.Tree.{width}
use Rattle.ob_base.specs.declared.params.Params.{Params}
use Rattle.ob_store.specs.Disk.{Disk, Image}
use Rattle.ob_store.specs.declared.event.Event.{Event}
use Rattle.ob_store.specs.declared.watch.Note.{Note}
use Rattle.ob_tables.specs.Rank.{IsRanking}
use Rattle.ob_schedule.specs.Schedule.{Fills}
use Rattle.ob_seal.specs.declared.keys.Keys.{Keys}
use Rattle.ob_twin.specs.declared.gates.Gates.{Gates}
use Rattle.ob_recover.proofs.Pads.{life_goes_on}
use Rattle.ob_recover.specs.Calls.{Finds}
use Rattle.ob_recover.specs.Known.{gates_open}
use Rattle.ob_recover.specs.Life.{IsLife, LifeAct, LifeState, Open, WordId, formatted_life, life_step, reached}
use Rattle.ob_serial.specs.Serial.{Map}
use Rattle.ob_serial.specs.Vaults.{End, Fetch, VaultCall}
use Rattle.ob_opening.specs.OpeningActs.{AreGatesIn, IsLeftAt, StandsInLife}
use Rattle.ob_vault.proofs.Joining.{small_found}
use Rattle.ob_vault.proofs.Whole.{reached_join, whole_goes, whole_run}
use Rattle.ob_vault.specs.Acts.{AreBatchesSmall, AreTapeWords}
use Rattle.ob_vault.specs.Hidden.{RingHidden}
use Rattle.ob_vault.specs.Joined.{IsRunTold, Served}
use Rattle.ob_vault.specs.KindShown.{public_behind}
use Rattle.ob_vault.specs.Lives.{GoesOnInLife, IsLeftInLife, IsOpenedInLife, IsRunInLife, opening_acts}
use Rattle.ob_vault.specs.RingKind.{RingFound, ring_hidden, ring_kind, ring_public}
use Rattle.ob_vault.specs.Seen.{RingPublic}
use Rattle.ob_vault.specs.Shapes.{Shape}
use Rattle.ob_histories.specs.Fills.{AllFills}
use Rattle.ob_histories.specs.Histories.{MayFind}
use Rattle.ob_histories.specs.Runs.{HistoryRun, RunFound, is_settled}
use Rattle.ob_admitted.specs.Lives.{IsLifeFilled}
use Rattle.ob_admitted.specs.Rows.{LeavesFound}
use Rattle.ob_admitted.specs.Served.{IsServedLeft, IsServedRun}
use Rattle.ob_admitted.specs.Wholes.{found_of_life}
use Rattle.ob_admitted.proofs.Acts.{LeftSound, Sound, calls_sound, ends_join, left_sound, life_first, life_last, whole_join}
use Rattle.ob_admitted.proofs.Lives.{Shown, one_run}
use Rattle.ob_admitted.proofs.Fronting.{IsFrontLeft, IsFrontNoted, IsFrontShown}
use Rattle.ob_admitted.proofs.Parts.{Filled, IsAlone, filled_last, filled_made, gates_left, left_as_shown, left_so, served_run}
use Rattle.ob_admitted.proofs.Rowing.{Row, goes_on, run_one}
use Rattle.ob_admitted.proofs.Stopped.{At, IsSound, Last, Leaves, Tail, filled_at, gates_of, sound_then}
use Rattle.ob_admitted.proofs.Walking.{LeftWithin, SmallWithin}
use Rattle.ob_admitted.proofs.Walks.{same_found}
use Rattle.ob_admitted.proofs.Wholes.{repeats_ended, repeats_whole}

-- ---- a batch that was refused asked for as many places as it has

no_call : (call : VaultCall) → ◌≡◌ {A = Option VaultCall} None (Some call) → ⊥
no_call call e = cc e

no_end : (writes : List (ℕ × Option (List ℕ))) (asks : List (Option ℕ)) → ◌≡◌ {A = Option VaultCall} (Some (End writes)) (Some (Fetch asks)) → ⊥
no_end writes asks e = cc e

same_asks : (a b : List (Option ℕ)) → ◌≡◌ {A = Option VaultCall} (Some (Fetch a)) (Some (Fetch b)) → a ≡ b
same_asks a b e = cc e

asks_many : (p : Params) (q : RingPublic) (h : RingHidden) (cut : Option VaultCall) (words : List ℕ) (more : List Note) (is : IsFrontShown p q h cut words more) (made : List LifeAct) (flies : Option LifeAct)
    → IsFrontNoted p q h cut words more is made flies → (asks : List (Option ℕ)) → cut ≡ Some (Fetch asks) → length asks ≡ p.places
asks_many p q h None words more is made flies noted asks e = absurd (no_call (Fetch asks) e)
asks_many p q h (Some (Fetch a)) words more is made flies noted asks e = subst (λ (xs : List (Option ℕ)). length xs ≡ p.places) (same_asks a asks e) (noted.0).1
asks_many p q h (Some (End ws)) words more is made flies noted asks e = absurd (no_end ws asks e)

no_gates : (gates : ℕ → Bool) → ◌≡◌ {A = Option (ℕ → Bool)} None (Some gates) → ⊥
no_gates gates e = cc e

module _ {S : Type 0} (disk : S → Disk) (keys : Keys) (p : Params) (word_of : WordId → ℕ) (slot : ℕ → ℕ → ℕ) (ranked : (u : ℕ) → IsRanking (width p) (slot u))
    (most : ℕ) (old : S) (found : RingFound) (opened : S) (calls : List VaultCall) (steps : List (Shape × Fills)) (behind : RingHidden) (refused : Option VaultCall) (words : List ℕ) (seen : List Event) (new : S)
    (told : IsRunTold disk keys p (Served most old found opened calls steps behind refused words seen new)) (tape : AreTapeWords word_of (ring_hidden found).generation words)
    (notes : List Note) (is : IsFrontLeft disk keys p most old found opened calls steps behind refused words seen new told notes)
    (before : List LifeAct) (sound : IsSound keys p word_of slot before) (stands : StandsInLife keys p word_of (At keys p word_of slot before) (disk old).cells) (few : AreBatchesSmall (At keys p word_of slot before).log) where
  abbrev s : LifeState
  s = At keys p word_of slot before

  abbrev o : IsOpenedInLife p word_of found s
  o = told.0 word_of s stands few

  abbrev run : IsRunInLife keys most p word_of s found (disk opened) calls steps behind refused words seen (disk new)
  run = whole_run keys most p (disk old).cells found (disk opened) (disk new) calls steps behind refused words seen told.0 told.1 word_of s stands few tape

  abbrev m : Map nat_cmp
  m = told.2.0

  abbrev left : IsLeftInLife keys most p word_of (reached p word_of (reached p word_of s (opening_acts s)) (run.goes).acts) behind refused words seen (disk new)
  left = (run.goes).left m told.2.1

  abbrev pub serves : List LifeAct
  serves = opening_acts s ++ (run.goes).acts

  abbrev pub made : List LifeAct
  made = left.made

  abbrev pub flies : Option LifeAct
  flies = left.in_flight

  abbrev q : RingPublic
  q = public_behind ring_kind p (ring_public p found) steps

  noted : IsFrontNoted p q behind refused words (is.shown).more (is.shown).front_shown made flies
  noted = subst (λ (g : GoesOnInLife keys most p word_of (reached p word_of s (opening_acts s)) found (disk opened) calls steps behind refused words seen (disk new)).
      IsFrontNoted p q behind refused words (is.shown).more (is.shown).front_shown (g.left m told.2.1).made (g.left m told.2.1).in_flight)
      (sym (whole_goes keys most p (disk old).cells found (disk opened) (disk new) calls steps behind refused words seen told.0 told.1 word_of s stands few tape))
      (is.noted word_of (reached p word_of s (opening_acts s)) o.then tape m told.2.1)

  -- ---- where the life is left

  abbrev pub then : LifeState
  then = reached p word_of s (serves ++ made)

  pub at_then : (xs : List LifeAct) → reached p word_of s (serves ++ (made ++ xs)) ≡ reached p word_of then xs
  at_then xs = ap (λ (ys : List LifeAct). reached p word_of s ys) (sym (append_assoc serves made xs)) ∙ reached_join p word_of s (serves ++ made) xs

  with_made : IsLife p word_of s (serves ++ made)
  with_made = life_goes_on p word_of s serves made run.is_life (subst (λ (u : LifeState). IsLife p word_of u made) (sym run.leads) left.is_life)

  pub life_then : (xs : List LifeAct) → IsLife p word_of then xs → IsLife p word_of s (serves ++ (made ++ xs))
  life_then xs life = subst (λ (ys : List LifeAct). IsLife p word_of s ys) (append_assoc serves made xs) (life_goes_on p word_of s (serves ++ made) xs with_made life)

  same_then : then ≡ reached p word_of (reached p word_of (reached p word_of s (opening_acts s)) (run.goes).acts) made
  same_then = reached_join p word_of s serves made ∙ ap (λ (u : LifeState). reached p word_of u made) run.leads

  pub left_then : LeftWithin disk keys p word_of then flies (disk new).may_leave
  left_then c will = subst (λ (u : LifeState). IsLeftAt keys p word_of u flies c) (sym same_then) (left.images c will)

  pub small_then : SmallWithin disk keys p word_of then flies
  small_then xs finds =
      subst (λ (u : LifeState). AreBatchesSmall (reached p word_of u xs).log) (sym same_then)
      (small_found p word_of (reached p word_of (reached p word_of s (opening_acts s)) (run.goes).acts) made flies (left.small).0 (λ b e. (left.small).1 b e) xs finds)

  pub sound_behind : (xs : List LifeAct) → Finds flies xs → IsLife p word_of then xs → IsSound keys p word_of slot (before ++ (serves ++ (made ++ xs)))
  sound_behind xs finds life =
      let began : LifeState = reached p word_of s (opening_acts s) in
      let all : IsLife p word_of s (serves ++ (made ++ xs)) = life_then xs life in
      let calls_are : Sound p word_of began (run.goes).acts = calls_sound p word_of calls steps began (run.goes).acts (o.then).begun (run.goes).shown in
      let left_are : LeftSound p word_of (made ++ xs) =
      left_sound p word_of refused made xs flies (asks_many p q behind refused words (is.shown).more (is.shown).front_shown made flies noted) left.first finds in
      sound_then keys p word_of slot before (serves ++ (made ++ xs)) sound all
      (ends_join p word_of s serves (made ++ xs)
      (ends_join p word_of s (opening_acts s) (run.goes).acts (repeats_ended p word_of (life_step p word_of s (Open (suc s.generation))) (length s.log))
      (calls_are.ended (life_last p word_of s (opening_acts s) (run.goes).acts (life_first p word_of s serves (made ++ xs) all))))
      (left_are.ended (reached p word_of s serves) (life_last p word_of s serves (made ++ xs) all)))
      (whole_join p word_of serves (made ++ xs) (whole_join p word_of (opening_acts s) (run.goes).acts (repeats_whole p word_of (length s.log)) calls_are.whole) left_are.whole)

  abbrev pub last : Last keys p word_of slot
  last = record {
    t = then;
    pending = flies;
    IsSo = λ c. Unit {0};
    acts = λ xs. before ++ (serves ++ (made ++ xs));
    there = λ xs. reached_join p word_of (formatted_life slot) before (serves ++ (made ++ xs)) ∙ at_then xs;
    sound = sound_behind;
  }

  -- ---- what it shows, and leaves to be found

  abbrev pub gates : ℕ → Bool
  gates = gates_open (((is.shown).found_in).found).gates

  module _ (f : AllFills) (here : IsLifeFilled p word_of slot f before) (filled : Filled p word_of f s (serves ++ made)) where
    pub alone : IsAlone disk keys p word_of slot f before ranked here most old found opened calls steps behind refused words seen new stands o notes is.shown run m told.2.1 filled
    alone = (left_as_shown disk keys p word_of slot f before ranked here most old found opened calls steps behind refused words seen new stands o notes is.shown run m told.2.1 filled [] (serves ++ (made ++ [])) (inl refl) refl noted None
        (record { stays = λ g e. absurd (no_gates g e); shown = λ g e. absurd (no_gates g e) })).alone

    abbrev run_is : IsServedRun p word_of f s gates notes
    run_is = served_run disk keys p word_of slot f before ranked here most old found opened calls steps behind refused words seen new stands o notes is.shown run m told.2.1 filled alone

    pub shown_so : Shown p word_of slot f ranked before gates notes (λ acts next. IsServedLeft p word_of f s gates notes run_is acts next)
    shown_so = one_run p word_of slot f ranked before gates notes here (inl run_is)

    abbrev history : HistoryRun
    history = shown_so.0.run

    -- the next one finds it so
    pub found_so : (xs : List LifeAct) → Finds flies xs → (c : Image) → (disk new).may_leave c → StandsInLife keys p word_of (reached p word_of then xs) c → (g : Gates) → AreGatesIn g c
        → LeavesFound p f history (found_of_life p (reached p word_of then xs) (gates_open g))
    found_so xs finds c may stands_then g are =
        let acts : List LifeAct = serves ++ (made ++ xs) in
        let gated = gates_left disk keys p word_of slot f before ranked here most old found opened calls steps behind refused words seen new stands o notes is.shown run m told.2.1 filled xs acts finds refl noted is.gated (Some (gates_open g))
        (λ next e. (g, sym (same_found (gates_open g) next e), c, may, subst (λ (u : LifeState). StandsInLife keys p word_of u c) (sym (at_then xs)) stands_then, are)) in
        let as_shown = left_as_shown disk keys p word_of slot f before ranked here most old found opened calls steps behind refused words seen new stands o notes is.shown run m told.2.1 filled xs acts finds refl noted (Some (gates_open g)) gated in
        subst (λ (u : LifeState). LeavesFound p f history (found_of_life p u (gates_open g))) (at_then xs)
        (shown_so.1 acts (gates_open g)
        (left_so disk keys p word_of slot f before ranked here most old found opened calls steps behind refused words seen new stands o notes is.shown run m told.2.1 filled xs acts finds refl alone (Some (gates_open g)) as_shown (gates_open g) refl))

    abbrev after : Option HistoryRun → Option HistoryRun
    after latest = cond (is_settled p f history.mirrored history.found history.steps history.shown) (Some history) latest

    leaves_so : (latest : Option HistoryRun) → MayFind p f latest (found_of_life p s gates) → Leaves keys p word_of slot last (disk new).may_leave f (after latest)
    leaves_so latest finds_here =
        let settled : Bool = is_settled p f history.mirrored history.found history.steps history.shown in
        let here_finds : MayFind p f latest history.found = subst (λ (x : RunFound). MayFind p f latest x) (sym shown_so.0.finds) finds_here in
        record {
          finds = λ c may xs finds stands_then g are so. goes_on p word_of f history latest (found_of_life p (reached p word_of then xs) (gates_open g)) settled here_finds (found_so xs finds c may stands_then g are);
          reads = λ c may xs finds stands_then.
              let (g, are) = gates_of c in
              (found_of_life p (reached p word_of then xs) (gates_open g), goes_on p word_of f history latest (found_of_life p (reached p word_of then xs) (gates_open g)) settled here_finds (found_so xs finds c may stands_then g are), refl);
        }

  -- with the runs behind it
  pub served_goes : (rows : List (List Note)) (tail : Tail keys p word_of slot last (disk new).may_leave rows) (f : AllFills) → Filled p word_of f s (serves ++ (made ++ (tail.found ++ tail.later))) → (latest : Option HistoryRun)
      → MayFind p f latest (found_of_life p s gates) → Row p word_of f latest (notes ∷ rows)
  served_goes rows tail f filled latest finds =
      let all : List LifeAct = tail.found ++ tail.later in
      let here : IsLifeFilled p word_of slot f before = filled_at keys p word_of slot f before (serves ++ (made ++ all)) sound filled in
      let own : Filled p word_of f s (serves ++ made) = filled_made p word_of f s serves made all (serves ++ (made ++ all)) refl filled in
      let behind_own : Filled p word_of f then all = filled_last p word_of f s (serves ++ made) all (subst (λ (xs : List LifeAct). Filled p word_of f s xs) (sym (append_assoc serves made all)) filled) in
      run_one p word_of f s gates notes (shown_so f here own).0 latest finds rows (tail.goes f behind_own (after f here own latest) (leaves_so f here own latest finds))
