-- An opening comes in stages behind the head's read; and a run that was cut off in a stage is a part of a row of runs.
use Rattle.std.specs.Prelude.{◌≡◌, ℕ, suc, List, [], ◌∷◌, ◌++◌, length, Option, Some, None}
use Rattle.std.specs.Ordering.{nat_cmp}
use Rattle.std.proofs.Common.{arith, refl, sym, subst, inl, inr, ⊎_elim}
use Rattle.std.proofs.lemmas.List.{append-nil}
use Rattle.ob_base.specs.declared.params.Params.{Params}
use Rattle.ob_fetch.specs.Fetches.{RunIsAt}
use Rattle.ob_fetch.specs.declared.run.Run.{Run}
use Rattle.ob_opening.specs.OpeningActs.{IsLeftAt}
use Rattle.ob_opening.specs.OpeningRuns.{OpensFrom}
use Rattle.ob_recover.specs.Calls.{repeated}
use Rattle.ob_recover.specs.Life.{LifeAct, LifeState, Open, WordId, reached}
use Rattle.ob_schedule.specs.Schedule.{Fills}
use Rattle.ob_seal.specs.declared.keys.Keys.{Keys}
use Rattle.ob_serial.specs.Serial.{Map}
use Rattle.ob_serial.specs.Vaults.{VaultCall}
use Rattle.ob_stand.specs.Stands.{OneOf, RingStanding, Stands, with_generation}
use Rattle.ob_store.specs.Disk.{Clock, Disk, Image, NotAfter}
use Rattle.ob_store.specs.Images.{Passes, Same}
use Rattle.ob_store.specs.declared.event.Event.{Event}
use Rattle.ob_twin.specs.Stages.{AreSpans}
use Rattle.ob_vault.proofs.OpeningStages as opening
use Rattle.ob_vault.specs.Hidden.{RingHidden}
use Rattle.ob_vault.specs.Joined.{IsRunTold, Served}
use Rattle.ob_vault.specs.Lives.{IsStoppedInLife, RingBegins, RingGoesOn, RingStops, opening_acts}
use Rattle.ob_vault.specs.RingKind.{IsRingMap, RingFound}
use Rattle.ob_vault.specs.RingLaws.{ReadsHead}
use Rattle.ob_vault.specs.Seen.{RingPublic}
use Rattle.ob_vault.specs.Shapes.{Shape}
use Rattle.ob_vault.specs.Spans.{IsCutIn, IsSeenIn, span}
use Rattle.ob_vault.specs.Staged.{CutRunsAreTold, IsCalledToSync, IsOpeningCut, RingOpensStaged}
use Rattle.ob_vault.specs.Stages.{BeginsBehind, HowFar, stages_done}

module _ {S : Type 0} (disk : S → Disk) (counts_now : (x : S) (t : Clock) (c : Image) → NotAfter t (disk x).moment → (disk x).may_leave c → (disk x).left_since t c) (only_now : (x : S) (c : Image) → (disk x).left_since (disk x).moment c → (disk x).may_leave c) where
  -- ---- an opening

  module _ (keys : Keys) (p : Params) (old read new : S) (head : ReadsHead (disk old) (disk read)) where
    module _ (word_of : WordId → ℕ) (s : LifeState) (pending : Option LifeAct) (tells : (disk old).tells) (left : IsLeftAt keys p word_of s pending (disk old).cells) (all : (c : Image) → (disk old).may_leave c → IsLeftAt keys p word_of s pending c) where
      -- the head's read leaves it so
      read_left : IsLeftAt keys p word_of s pending (disk read).cells
      read_left = subst (λ (c : Image). IsLeftAt keys p word_of s pending c) (λ i k. sym ((head.keeps).cells tells k) i) left

      read_all : (c : Image) → (disk read).may_leave c → IsLeftAt keys p word_of s pending c
      read_all c may = let back = (head.passes).now c may in subst (λ (x : Image). IsLeftAt keys p word_of s pending x) (sym back.2) (all back.0 back.1)

      abbrev told : (disk read).tells
      told = (head.keeps).tells tells

      -- a run that is cut off in a stage was left so
      abbrev found : List LifeAct
      found = (opening.f disk only_now keys p word_of s pending read told read_left read_all).found

      abbrev then : LifeState
      then = reached p word_of s found

      finding : (a x : S) → ((c : Image) → (disk x).left_since (disk a).moment c → IsLeftAt keys p word_of s pending c) → IsStoppedInLife keys p word_of s pending (span disk (a, x))
      finding a x each = record {
        found = found;
        finds = (opening.f disk only_now keys p word_of s pending read told read_left read_all).finds;
        made = [];
        in_flight = pending;
        part = inl (refl, refl);
        is_life = tt;
        images = each;
      }

      beginning : (a x : S) → ((c : Image) → (disk x).left_since (disk a).moment c → IsLeftAt keys p word_of then (Some (Open (suc then.generation))) c) → IsStoppedInLife keys p word_of s pending (span disk (a, x))
      beginning a x each = record {
        found = found;
        finds = (opening.f disk only_now keys p word_of s pending read told read_left read_all).finds;
        made = found;
        in_flight = Some (Open (suc then.generation));
        part = inr (opening_acts then, refl, inr (Open (suc then.generation), repeated (length then.log), refl, refl));
        is_life = opening.live disk only_now keys p word_of s pending read told read_left read_all;
        images = each;
      }

      repeating : (a x : S) → ((c : Image) → (disk x).left_since (disk a).moment c → IsLeftAt keys p word_of (reached p word_of s (found ++ opening_acts then)) None c) → IsStoppedInLife keys p word_of s pending (span disk (a, x))
      repeating a x each = record {
        found = found;
        finds = (opening.f disk only_now keys p word_of s pending read told read_left read_all).finds;
        made = found ++ opening_acts then;
        in_flight = None;
        part = inr ([], sym (append-nil (found ++ opening_acts then)), inl refl);
        is_life = opening.again_live disk only_now keys p word_of s pending read told read_left read_all;
        images = each;
      }

    -- what might be left of the store before was left at that moment
    abbrev now_left : (word_of : WordId → ℕ) (s : LifeState) (pending : Option LifeAct) → ((c : Image) → (span disk (old, old)).may_leave c → IsLeftAt keys p word_of s pending c) → (c : Image) → (disk old).may_leave c → IsLeftAt keys p word_of s pending c
    now_left word_of s pending all c may = all c (counts_now old (disk old).moment c (λ part. omega arith) may)

    -- a stretch of time from which a run that stops goes on
    abbrev Stops : S × S → Type 0
    Stops x = RingStops keys p (span disk (old, old)) (span disk x)

    -- it only read
    find_stops : (disk old).tells → (x : S) → Passes Same (disk read) (disk x) → Stops (read, x)
    find_stops tells x until word_of s pending left all =
        let every = now_left word_of s pending all in
        finding word_of s pending tells left every read x
        (λ c since. (opening.finding disk only_now keys p word_of s pending read (told word_of s pending tells left every) (read_left word_of s pending tells left every) (read_all word_of s pending tells left every) x until).leaves.each c since)

    -- also from the head on
    pub read_stops : (disk old).tells → (x : S) → Passes Same (disk old) (disk x) → Stops (old, x)
    read_stops tells x until word_of s pending left all =
        let every = now_left word_of s pending all in
        finding word_of s pending tells left every old x
        (λ c since. ⊎_elim (λ before. every c (only_now old c before)) (λ now. subst (λ (i : Image). IsLeftAt keys p word_of s pending i) (sym now.2) (every now.0 now.1)) (until.since (disk old).moment c (λ part. omega arith) since))

    -- each image stood at the old generation or the next one
    pub stage_stops : (disk old).tells → (a x : S) → ((st : RingStanding) → Stands keys p st (disk read).cells → (c : Image) → (disk x).left_since (disk a).moment c → OneOf keys p st (with_generation st (suc st.generation)) c) → Stops (a, x)
    stage_stops tells a x one word_of s pending left all =
        let every = now_left word_of s pending all in
        let here = told word_of s pending tells left every in
        let cells = read_left word_of s pending tells left every in
        let each = read_all word_of s pending tells left every in
        let f = opening.f disk only_now keys p word_of s pending read here cells each in
        beginning word_of s pending tells left every a x (λ c since. opening.begun_left disk only_now keys p word_of s pending read here cells each c (one f.here.standing f.here.stands c since))

    begin_stops : (disk old).tells → (x : S) (o : OpensFrom disk keys p read x) → Stops (o.synced, x)
    begin_stops tells x o = stage_stops tells o.synced x (λ st stands c since. (o.since st (head.keeps.tells tells) stands).each c since)

    -- each stood at the next one
    pub again_stops : (disk old).tells → (a x : S) → ((st : RingStanding) → Stands keys p st (disk read).cells → (c : Image) → (disk x).left_since (disk a).moment c → Stands keys p (with_generation st (suc st.generation)) c) → Stops (a, x)
    again_stops tells a x next word_of s pending left all =
        let every = now_left word_of s pending all in
        let here = told word_of s pending tells left every in
        let cells = read_left word_of s pending tells left every in
        let each = read_all word_of s pending tells left every in
        let f = opening.f disk only_now keys p word_of s pending read here cells each in
        repeating word_of s pending tells left every a x (λ c since. opening.again_left disk only_now keys p word_of s pending read here cells each c (next f.here.standing f.here.stands c since))

    repeat_stops : (disk old).tells → (begins : BeginsBehind disk keys p read new) → Stops ((begins.begins).between, new)
    repeat_stops tells begins word_of s pending left all =
        let every = now_left word_of s pending all in
        repeating word_of s pending tells left every (begins.begins).between new
        (λ c since. (opening.last_stage disk only_now keys p word_of s pending read (told word_of s pending tells left every) (read_left word_of s pending tells left every) (read_all word_of s pending tells left every) new begins).leaves.each c since)

    -- the stores at the ends of its stages
    abbrev ends_of : HowFar disk keys p read new → List S
    ends_of (inl still) = new ∷ []
    ends_of (inr (inl o)) = o.synced ∷ new ∷ []
    ends_of (inr (inr begins)) = (opening.opens_of disk keys p read new begins).synced ∷ (begins.begins).between ∷ new ∷ []

    many_ends : (how : HowFar disk keys p read new) → length (ends_of how) ≡ stages_done disk keys p read new how
    many_ends (inl still) = refl
    many_ends (inr (inl o)) = refl
    many_ends (inr (inr begins)) = refl

    called_first : (how : HowFar disk keys p read new) → IsCalledToSync disk read (ends_of how)
    called_first (inl still) = tt
    called_first (inr (inl o)) = o.called
    called_first (inr (inr begins)) = (opening.opens_of disk keys p read new begins).called

    cut_off : (disk old).tells → (how : HowFar disk keys p read new) → AreSpans (λ stage x. Stops x) 0 read (ends_of how) new
    cut_off tells (inl still) = (find_stops tells new still, refl)
    cut_off tells (inr (inl o)) = (find_stops tells o.synced o.until, (begin_stops tells new o, refl))
    cut_off tells (inr (inr begins)) =
        let o = opening.opens_of disk keys p read new begins in
        (find_stops tells o.synced o.until, (begin_stops tells (begins.begins).between o, (repeat_stops tells begins, refl)))

    pub opens_cut : (disk old).tells → (how : HowFar disk keys p read new) → IsOpeningCut disk keys p old read new (stages_done disk keys p read new how)
    opens_cut tells how = record { ends = ends_of how; many = many_ends how; called = called_first how; cut = cut_off tells how }

    pub ring_opens_staged : (begins : BeginsBehind disk keys p read new) → RingOpensStaged disk keys p old new
    ring_opens_staged begins = record {
      read = read;
      head = head;
      begins = begins;
      staged = λ word_of s pending tells left all.
          opening.staged disk only_now keys p word_of s pending read (told word_of s pending tells left all) (read_left word_of s pending tells left all) (read_all word_of s pending tells left all) new (inr (inr begins));
      cut = λ tells. opens_cut tells (inr (inr begins));
    }

  -- ---- parts of a row of runs

  -- over the time of its return a store is where it is
  run_at : (run : Run) (st : RingStanding) (x : S) → RunIsAt run st (span disk (x, x)) → RunIsAt run st (disk x)
  run_at run st x is = record { tells = is.tells; settled = λ c may. is.settled c (counts_now x (disk x).moment c (λ part. omega arith) may); stands = is.stands; runs = is.runs }

  run_over_time : (run : Run) (st : RingStanding) (x : S) → RunIsAt run st (disk x) → RunIsAt run st (span disk (x, x))
  run_over_time run st x is = record { tells = is.tells; settled = λ c since. is.settled c (only_now x c since); stands = is.stands; runs = is.runs }

  map_at : (keys : Keys) (p : Params) (f : RingFound) (x : S) (m : Map nat_cmp) → IsRingMap keys p (span disk (x, x)) f m → IsRingMap keys p (disk x) f m
  map_at keys p f x m is = record { standing = is.standing; content = is.content; records = is.records; params = is.params; keys_are = is.keys_are; at = run_at f.run is.standing x is.at; map = is.map }

  map_over_time : (keys : Keys) (p : Params) (f : RingFound) (x : S) (m : Map nat_cmp) → IsRingMap keys p (disk x) f m → IsRingMap keys p (span disk (x, x)) f m
  map_over_time keys p f x m is = record { standing = is.standing; content = is.content; records = is.records; params = is.params; keys_are = is.keys_are; at = run_over_time f.run is.standing x is.at; map = is.map }

  -- so the run goes on over it
  on_over_time : (keys : Keys) (most : ℕ) (p : Params) (f : RingFound) (opened : S) (calls : List VaultCall) (steps : List (Shape × Fills)) (h : RingHidden) (refused : Option VaultCall) (words : List ℕ) (seen : List Event) (new : Disk)
      → RingGoesOn keys most p f (disk opened) calls steps h refused words seen new → RingGoesOn keys most p f (span disk (opened, opened)) calls steps h refused words seen new
  on_over_time keys most p f opened calls steps h refused words seen new on word_of s here tape =
      let g = on word_of s here tape in
      record {
        acts = g.acts;
        is_life = g.is_life;
        then = g.then;
        shown = g.shown;
        fresh = g.fresh;
        cut = g.cut;
        left = λ m is. g.left m (map_at keys p f opened m is);
        turn = g.turn;
        turn_left = λ m is k so_far. g.turn_left m (map_at keys p f opened m is) k so_far;
      }

  told_calls : (keys : Keys) (most : ℕ) (p : Params) (f : RingFound) (old opened : S) (calls : List VaultCall) (steps : List (Shape × Fills)) (q : RingPublic) (h : RingHidden) (call : VaultCall) (words : List ℕ)
      → RingBegins keys p (disk old).cells f → ((m : Map nat_cmp) × IsRingMap keys p (disk opened) f m) → (began : S) (stage : ℕ) (from : S) (ends : List S) (to : S) → AreSpans (IsCutIn disk keys most p f (disk opened) calls steps q h call words began) stage from ends to
      → AreSpans (λ n x. (seen : List Event) → IsSeenIn most p q call n seen → IsRunTold (span disk) keys p (Served most (old, old) f (opened, opened) calls steps h (Some call) words seen x)) stage from ends to
  told_calls keys most p f old opened calls steps q h call words begins maps began stage from [] to is = is
  told_calls keys most p f old opened calls steps q h call words begins (m, at) began stage from (end ∷ ends) to (one, rest) = (
    (λ seen may. (begins, on_over_time keys most p f opened calls steps h (Some call) words seen (span disk (from, end)) (one.stops seen may).0, (m, map_over_time keys p f opened m at))),
    told_calls keys most p f old opened calls steps q h call words begins (m, at) began (suc stage) end ends to rest,
  )

  pub cut_runs_are_told : CutRunsAreTold disk
  cut_runs_are_told = record {
    calls = λ keys most p f old opened from to calls steps q h call words answered begins maps staged. told_calls keys most p f old opened calls steps q h call words begins maps from 0 from staged.cut_at to staged.cut;
    openings = λ keys p old read new head tells how. opens_cut keys p old read new head tells how;
  }
