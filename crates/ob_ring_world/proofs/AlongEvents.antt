-- A vault's list of events is one of the store's course.
use Rattle.std.specs.Ordering.{nat_cmp}
use Rattle.std.proofs.Common.{◌≡◌, ◌⊎◌, inl, inr, ⊎_elim, ℕ, zero, suc, true, false, List, [], ◌∷◌, ◌++◌, length-append, Option, Some, None, refl, sym, ap, subst, ◌∙◌, arith, append_assoc}
use Rattle.std.proofs.lemmas.Bool.{false≢true}
use Rattle.std.proofs.lemmas.List.{append-nil, get_or_append_left}
use Rattle.ob_base.specs.declared.params.Params.{Params}
use Rattle.ob_store.proofs.Events.{joined}
use Rattle.ob_store.specs.Calls.{Notes}
use Rattle.ob_store.specs.declared.event.Event.{Event}
use Rattle.ob_store.specs.Disk.{Clock, Disk, Image, NotAfter}
use Rattle.ob_seal.specs.declared.keys.Keys.{Keys}
use Rattle.ob_serial.specs.Serial.{EpochRecord, Map}
use Rattle.ob_serial.specs.VaultKinds.{Called, Kind}
use Rattle.ob_serial.specs.Vaults.{VaultCall, VaultAnswer, VaultState}
use Rattle.ob_fetch.specs.Fetches.{words_since}
use Rattle.ob_recover.specs.Life.{WordId}
use Rattle.ob_vault.proofs.SealCalls.{kept_by}
use Rattle.ob_vault.specs.Acts.{AreTapeWords}
use Rattle.ob_vault.specs.RingKind.{IsRingMap, RingFound}
use Rattle.ob_vault.specs.RingVaults.{KeepsRun, Running}
use Rattle.ob_world.proofs.Driving.{Stepped, desk_at}
use Rattle.ob_world.proofs.Keeping.{Inv, Kept, step_kept}
use Rattle.ob_world.specs.Courses.{course_of}
use Rattle.ob_world.specs.Headlines.{acknowledged_by, told_behind}
use Rattle.ob_world.specs.Laws.{IsOneRun}
use Rattle.ob_conduct.specs.Acts.{calls}
use Rattle.ob_world.specs.Weaves.{CallIsDue, Due, MadeCall, NothingIsDue, ReportIsDue, asked_left, calls_made, due_behind, events_due, reports_left, woven_from}
use Rattle.ob_world.specs.Worlds.{WorldEvent, Desk, Vault, Report, Crash, Open, World, IsWorld, ended_with}
use Rattle.ob_ring_world.proofs.InCalls.{AreRowsSeen, IsServing, IsSpent, call_on}
use Rattle.ob_ring_world.specs.Pasts.{RingPast, ShownRow, events_of_rows}
use Rattle.ob_ring_world.specs.RingCourses.{RingPromises, ring_course}
use Rattle.ob_ring_world.specs.Runs.{ActsAreOneRun, IsOverRing}

-- the same world, with another past, and other records of epochs that ended
abbrev pub other : {A B : Type 0} → World A → B → List (EpochRecord ℕ) → World B
other w past ended = record { desk = w.desk; vault = w.vault; past = past; driver = w.driver; found = w.found; ended = ended }

-- the words of a front of what was drawn
front_words : (word_of : WordId → ℕ) (g : ℕ) (drawn more : List ℕ) → AreTapeWords word_of g (drawn ++ more) → AreTapeWords word_of g drawn
front_words word_of g drawn more all i lt = all i (omega (arith, lt, length-append {A = ℕ})) ∙ get_or_append_left drawn more 0 i lt

-- ---- acts are one run

one_more : (xs ys : List WorldEvent) → IsOneRun xs → IsOneRun ys → IsOneRun (xs ++ ys)
one_more [] ys one two = two
one_more (Desk caller call reply ∷ xs) ys one two = one_more xs ys one two
one_more (Vault call answer ∷ xs) ys one two = one_more xs ys one two
one_more (Report told ∷ xs) ys one two = one_more xs ys one two
one_more (Crash inside image ∷ xs) ys one two = absurd one
one_more (Open clients ∷ xs) ys one two = absurd one

due_one : (due : Due) (asked : List (VaultCall × VaultAnswer)) (reports : ℕ) → IsOneRun (events_due due asked reports)
due_one NothingIsDue asked reports = tt
due_one CallIsDue [] reports = tt
due_one CallIsDue (step ∷ asked) reports = tt
due_one (ReportIsDue told) asked zero = tt
due_one (ReportIsDue told) asked (suc reports) = tt

woven_one : (made : List MadeCall) (asked : List (VaultCall × VaultAnswer)) (reports : ℕ) → IsOneRun (woven_from made asked reports)
woven_one [] asked reports = tt
woven_one (one ∷ made) asked reports =
    let due : Due = due_behind one.call one.reply in
    one_more (events_due due asked reports) (woven_from made (asked_left due asked) (reports_left due reports)) (due_one due asked reports) (woven_one made (asked_left due asked) (reports_left due reports))

pub acts_are_one_run : ActsAreOneRun
acts_are_one_run acts reports = woven_one (calls_made acts) (calls acts) reports

-- ---- a run keeps its setup

module _ {V : Type 0} (k : Kind V) (first : Map nat_cmp) where
  pub setup_stays : (told : List (EpochRecord ℕ)) (acked : List ℕ) (w : World V) (es : List WorldEvent) (last : World V) → IsOneRun es → Inv first told acked w → IsWorld (course_of k) w es last → last.desk.setup ≡ w.desk.setup
  setup_stays told acked w [] last one h run = ap (λ (x : World V). x.desk.setup) (sym run)
  setup_stays told acked w (Desk caller call reply ∷ es) last one h (mid, s, run) =
      let kept : Kept (course_of k) first told acked w (Desk caller call reply) mid = step_kept (course_of k) first told acked w (Desk caller call reply) mid h s in
      let t : Stepped h.below w.desk s.desk w.vault w.ended reply s.driver = desk_at h.below w.desk w.vault w.ended w.driver call reply s.desk s.driver s.may s.step s.moves h.good h.at_place in
      setup_stays (told_behind told (Desk caller call reply)) (acked ++ acknowledged_by (Desk caller call reply)) mid es last one kept.inv run ∙ (ap (λ (x : World V). x.desk.setup) s.state ∙ t.setup)
  setup_stays told acked w (Vault call answer ∷ es) last one h (mid, s, run) =
      let kept : Kept (course_of k) first told acked w (Vault call answer) mid = step_kept (course_of k) first told acked w (Vault call answer) mid h s in
      setup_stays (told_behind told (Vault call answer)) (acked ++ acknowledged_by (Vault call answer)) mid es last one kept.inv run ∙ ap (λ (x : World V). x.desk.setup) s.state
  setup_stays told acked w (Report r ∷ es) last one h (mid, s, run) =
      let kept : Kept (course_of k) first told acked w (Report r) mid = step_kept (course_of k) first told acked w (Report r) mid h s in
      setup_stays (told_behind told (Report r)) (acked ++ acknowledged_by (Report r)) mid es last one kept.inv run ∙ ap (λ (x : World V). x.desk.setup) s.state
  setup_stays told acked w (Crash inside image ∷ es) last one h run = absurd one
  setup_stays told acked w (Open clients ∷ es) last one h run = absurd one

module _ {V S : Type 0} (k : Kind V) (disk : S → Disk) (runs : V → Running S) (over : IsOverRing k disk runs)
    (counts_now : (x : S) (t : Clock) (c : Image) → NotAfter t (disk x).moment → (disk x).may_leave c → (disk x).left_since t c) (only_now : (x : S) (c : Image) → (disk x).left_since (disk x).moment c → (disk x).may_leave c)
    (keys : Keys) (most : ℕ) (p : Params) (f : RingFound) (first : V) (map : Map nat_cmp) (is_map : IsRingMap keys p (disk (runs first).store) f map) (word_of : WordId → ℕ) (slot : ℕ → ℕ → ℕ) (gen : ℕ) (kept : RingPromises keys p word_of slot) where
  -- what is drawn stands behind what was drawn
  words_grow : (es : List WorldEvent) (w last : World V) → IsOneRun es → IsWorld (course_of k) w es last → (more : List ℕ) × ((runs last.past).drawn ≡ (runs w.past).drawn ++ more)
  words_grow [] w last one run = ([], ap (λ (x : World V). (runs x.past).drawn) (sym run) ∙ sym (append-nil (runs w.past).drawn))
  words_grow (Desk caller call reply ∷ es) w last one (mid, s, run) = let (more, is) = words_grow es mid last one run in (more, is ∙ ap (λ (x : World V). (runs x.past).drawn ++ more) s.state)
  words_grow (Report r ∷ es) w last one (mid, s, run) = let (more, is) = words_grow es mid last one run in (more, is ∙ ap (λ (x : World V). (runs x.past).drawn ++ more) s.state)
  words_grow (Vault call answer ∷ es) w last one (mid, s, run) =
      let called : Called k w.past call answer s.past = s.called in
      let on : KeepsRun disk (runs w.past) (runs s.past) called.notes = kept_by disk (runs w.past) (runs s.past) called.notes call answer (over.words.called w.past call answer called.notes s.past called.called) in
      let (more, is) = words_grow es mid last one run in (
        words_since (runs w.past).drawn (runs s.past).drawn ++ more,
        is ∙ ap (λ (x : World V). (runs x.past).drawn ++ more) s.state ∙ ap (λ (l : List ℕ). l ++ more) on.grows ∙ append_assoc (runs w.past).drawn (words_since (runs w.past).drawn (runs s.past).drawn) more,
      )
  words_grow (Crash inside image ∷ es) w last one run = absurd one
  words_grow (Open clients ∷ es) w last one run = absurd one

  abbrev Serving : V → RingPast → Type 0
  Serving v x = IsServing k disk runs over counts_now only_now keys most p f first map is_map word_of slot gen v x

  abbrev Spent : V → RingPast → Type 0
  Spent v x = IsSpent k disk runs over counts_now only_now keys most p f first map is_map word_of slot gen v x

  -- the vault is sound, and serves where the life is, or serves no more
  pub record Tells (v : V) (u : VaultState) (x : RingPast) : Type 0 where
    pub sound : k.sound v u
    pub goes : Serving v x ⊎ ((u.spent ≡ true) × Spent v x)

  abbrev Seen : (v w : V) (x y : RingPast) → Type 0
  Seen v w x y = AreRowsSeen k disk runs over counts_now only_now keys most p f first map is_map word_of slot gen v w x y

  noted_none : (told : Option (List Event)) → Notes [] told told
  noted_none None = tt
  noted_none (Some events) = sym (append-nil events)

  events_join : (later earlier : List ShownRow) → events_of_rows (later ++ earlier) ≡ events_of_rows earlier ++ events_of_rows later
  events_join [] earlier = sym (append-nil (events_of_rows earlier))
  events_join (row ∷ later) earlier = ap (λ (l : List Event). l ++ row.events) (events_join later earlier) ∙ append_assoc (events_of_rows earlier) (events_of_rows later) row.events

  seen_none : (v : V) (x : RingPast) → Seen v v x x
  seen_none v x = record { rows = []; rows_are = refl; seen = noted_none (disk (runs v).store).seen }

  seen_join : (u v w : V) (x y z : RingPast) → Seen u v x y → Seen v w y z → Seen u w x z
  seen_join u v w x y z one two = record {
    rows = two.rows ++ one.rows;
    rows_are = two.rows_are ∙ ap (λ (l : List ShownRow). two.rows ++ l) one.rows_are ∙ sym (append_assoc two.rows one.rows x.rows);
    seen = subst (λ (l : List Event). Notes l (disk (runs u).store).seen (disk (runs w).store).seen) (sym (events_join two.rows one.rows))
        (joined (events_of_rows one.rows) (events_of_rows two.rows) (disk (runs u).store).seen (disk (runs v).store).seen (disk (runs w).store).seen one.seen two.seen);
  }

  pub record Mapped (w last : World V) (es : List WorldEvent) (x : RingPast) (ended : List (EpochRecord ℕ)) : Type 0 where
    pub past : RingPast
    pub after : List (EpochRecord ℕ)
    pub leads : IsWorld (ring_course keys p word_of slot kept) (other w x ended) es (other last past after)
    pub tells : Tells last.past last.vault past
    pub seen : Seen w.past last.past x past

  pub serving : (v : V) (u : VaultState) (x : RingPast) → Tells v u x → u.spent ≡ false → Serving v x
  serving v u x t serves = ⊎_elim (λ (s : Serving v x). s) (λ (o : (u.spent ≡ true) × Spent v x). absurd (false≢true (sym serves ∙ o.0))) t.goes

  pub mapped : (es : List WorldEvent) (w last : World V) (x : RingPast) (ended : List (EpochRecord ℕ)) → IsOneRun es → IsWorld (course_of k) w es last → Tells w.past w.vault x → AreTapeWords word_of gen (runs last.past).drawn → Mapped w last es x ended
  mapped [] w last x ended one run t tape = record { past = x; after = ended; leads = ap (λ (m : World V). other m x ended) run; tells = subst (λ (m : World V). Tells m.past m.vault x) run t; seen = subst (λ (m : World V). Seen w.past m.past x x) run (seen_none w.past x) }
  mapped (Desk caller call reply ∷ es) w last x ended one (mid, s, run) t tape =
      let rest = mapped es mid last x ended one run (subst (λ (m : World V). Tells m.past m.vault x) (sym s.state) t) tape in
      record {
        past = rest.past;
        after = rest.after;
        leads = (other mid x ended, record { up = s.up; own = s.own; desk = s.desk; driver = s.driver; may = s.may; step = s.step; moves = s.moves; state = ap (λ (m : World V). other m x ended) s.state }, rest.leads);
        tells = rest.tells;
        seen = subst (λ (v : V). Seen v last.past x rest.past) (ap (λ (m : World V). m.past) s.state) rest.seen;
      }
  mapped (Report r ∷ es) w last x ended one (mid, s, run) t tape =
      let rest = mapped es mid last x ended one run (subst (λ (m : World V). Tells m.past m.vault x) (sym s.state) t) tape in
      record { past = rest.past; after = rest.after; leads = (other mid x ended, record { was = s.was; state = ap (λ (m : World V). other m x ended) s.state }, rest.leads); tells = rest.tells; seen = subst (λ (v : V). Seen v last.past x rest.past) (ap (λ (m : World V). m.past) s.state) rest.seen }
  mapped (Vault call answer ∷ es) w last x ended one (mid, s, run) t tape =
      let called : Called k w.past call answer s.past = s.called in
      let there : mid.past ≡ s.past = ap (λ (m : World V). m.past) s.state in
      let (more, is) = words_grow es mid last one run in
      let words : AreTapeWords word_of gen (runs s.past).drawn = front_words word_of gen (runs s.past).drawn more
      (subst (λ (v : V). AreTapeWords word_of gen ((runs v).drawn ++ more)) there (subst (λ (l : List ℕ). AreTapeWords word_of gen l) is tape)) in
      let (y, step, goes, own) = call_on k disk runs over counts_now only_now keys most p f first map is_map word_of slot gen w.past x (serving w.past w.vault x t s.law.serves) call answer s.past called words in
      let sound : k.sound s.past s.vault = subst (k.sound s.past) (sym s.law.state) (called.sound w.vault t.sound) in
      let now : Tells s.past s.vault y = record { sound = sound; goes = ⊎_elim (λ one. inl one) (λ two. inr (ap (λ (u : VaultState). u.spent) s.law.state ∙ two.0 w.vault, two.1)) goes } in
      let then = ended_with (Some call) w.desk w.vault ended in
      let rest = mapped es mid last y then one run (subst (λ (m : World V). Tells m.past m.vault y) (sym s.state) now) tape in
      record {
        past = rest.past;
        after = rest.after;
        leads = (other mid y then, record { vault = s.vault; past = y; law = s.law; called = step; was = s.was; state = ap (λ (m : World V). other m y then) s.state }, rest.leads);
        tells = rest.tells;
        seen = seen_join w.past s.past last.past x y rest.past own (subst (λ (v : V). Seen v last.past y rest.past) there rest.seen);
      }
  mapped (Crash inside image ∷ es) w last x ended one run t tape = absurd one
  mapped (Open clients ∷ es) w last x ended one run t tape = absurd one
