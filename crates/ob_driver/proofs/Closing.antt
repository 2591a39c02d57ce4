-- An epoch that is closed in one turn, and published in another, and one whose end, or a batch before it, was refused.
use Rattle.std.proofs.Common.{◌≡◌, ◌∙◌, ◌≤◌, ◌-◌, ℕ, suc, true, All, List, [], ◌∷◌, ◌++◌, Option, Some, Err, refl, sym, ap, subst, append-nil, append_assoc, arith, decimal}
use Rattle.std.proofs.lemmas.List.Elements.{All-nil, All-cons}
use Rattle.ob_base.specs.declared.fault.Fault.{Fault}
use Rattle.ob_base.specs.declared.fault.Fault.TheVariants.{SinkFault}
use Rattle.ob_io.specs.Streams.{Flow}
use Rattle.ob_report.specs.Report.{report, record_text}
use Rattle.ob_serial.specs.Serial.{EpochRecord}
use Rattle.ob_serial.specs.Vaults.{VaultCall, VaultAnswer, Fetch, End, Ended, RefusedBy, VaultCounts}
use Rattle.ob_serial.specs.VaultViews.{end_answer, IsEndFault}
use Rattle.ob_serial.specs.VaultKinds.{Kind, ended_of}
use Rattle.ob_desk.specs.Desk as desk
use Rattle.ob_desk.specs.declared.calls.Look.{Look}
use Rattle.ob_desk.specs.Beats.{BeatKind}
use Rattle.ob_turn.specs.declared.bell.Heard.{Heard}
use Rattle.ob_turn.specs.BellCalls.{Raises}
use Rattle.ob_turn.specs.BellHistory.{latest}
use Rattle.ob_turn.proofs.BellSteps.{latest-snoc}
use Rattle.atomic_table.specs.declared.shared.Seat.{Seat}
use Rattle.ob_turn.specs.declared.turn.Entry.{Entry}
use Rattle.ob_hall.specs.Passes.{Steps, Hall, Pass, entries_by, raised_by, told_by, IsPassOf, IsOutOfTurn}
use Rattle.ob_hall.specs.Rounds.{Rounds, rounds_behind}
use Rattle.ob_conduct.specs.declared.run_err.RunErr.{RunErr}
use Rattle.ob_conduct.specs.declared.run_err.RunErr.TheVariants as failed
use Rattle.ob_conduct.specs.Acts.{Act, Closes, Publishes, Refuses, FetchFails, RestUnwatched, Batch, history, calls, records, look_calls, rest_calls, rest_fetches, close_calls, publish_calls, stop_calls, stop_for, fault_of, MayAct, IsToEnd, IsAllowed}
use Rattle.ob_conduct.specs.Scenes.{Scene, AllNoted}
use Rattle.ob_conduct.specs.Records.{IsWritten}
use Rattle.ob_conduct.specs.Ready.{IsDueRecord, TellsEpochs}
use Rattle.ob_conduct.proofs.Acting.{tells_none, written_none, published_rest, answered_rest, ended_rest, refused_ends}
use Rattle.ob_driver.specs.Resting.{params_of, IsMild, rounds_by, resting, ending, noted_by, IsDriver, IsBetweenTurns, IsEnding}
use Rattle.ob_driver.specs.Turning.{MakesTurn, IsOneTurn, AreActs}
use Rattle.ob_driver.specs.Inside.{counts_ended, IsLooking, AsksAll, ReadsInside, RefusesInside, StopsInside, Ends, EndRefused}
use Rattle.ob_driver.specs.Driven.{side, epochs_of, EndedOnce, FailsOnce}
use Rattle.ob_driver.proofs.Sound.{mild_one, mild_more, mild_look}
use Rattle.ob_driver.proofs.Turning.{turn_from}
use Rattle.ob_driver.proofs.Insides.{asks_join, asks_later}
use Rattle.ob_driver.proofs.Batching.{rounds_later, driver_later, same_raises}

-- ---- how far the epochs are behind batches and a close

rounds_shut : (n : ℕ) (r : Rounds) (batches : List Batch) (writes : List (ℕ × Option (List ℕ)))
    → rounds_behind n r (rest_calls batches ++ close_calls writes) ≡ record { epoch = suc r.epoch; has_closed = true; due = Some (record { epoch = r.epoch; writes = writes }); left = n; flying = [] }
rounds_shut n r [] writes = refl
rounds_shut n r (batch ∷ batches) writes = rounds_shut n (record r { left = r.left - 1; flying = [] }) batches writes

rest_mild : (batches : List Batch) (more : Steps) → All IsMild more → All IsMild (rest_calls batches ++ more)
rest_mild [] more mild = mild
rest_mild (batch ∷ batches) more mild = mild_more desk.TakeBatch (desk.Batch batch.keys) ((desk.Deliver batch.keys batch.values, desk.Done) ∷ (rest_calls batches ++ more)) tt (mild_more (desk.Deliver batch.keys batch.values) desk.Done (rest_calls batches ++ more) tt (rest_mild batches more mild))

one_text : (told : EpochRecord ℕ) → record_text decimal told ≡ report decimal (told ∷ [])
one_text told = sym (append-nil (record_text decimal told))

-- ---- an epoch that was closed behind the batches that were left, and ended

module _ {V : Type 0} (k : Kind V) (hall : Hall) (before mid shut : Pass) (a b : Scene V) (c cm : VaultCounts) (look : Look) (batches : List Batch) (writes : List (ℕ × Option (List ℕ))) (l : IsLooking hall before a.desk c) (noted : noted_by before ≡ look_calls look)
    (r : ReadsInside k hall before a batches mid b cm) (closes : MakesTurn mid shut (noted_by mid ++ close_calls writes)) (ear : shut.ear ≡ mid.ear) (own_shut : IsPassOf hall shut) where
  epoch_is : b.desk.running.epoch ≡ suc c.epoch
  epoch_is = r.same_epoch ∙ l.ready.epoch

  same_epoch : cm.epoch ≡ c.epoch
  same_epoch = let x = r.ready.epoch in let y = epoch_is in omega (arith, x, y)

  same_ear : shut.ear ≡ before.ear
  same_ear = ear ∙ r.notes.ear

  -- the turn, from its look on
  first : MakesTurn before shut (look_calls look ++ (rest_calls batches ++ close_calls writes))
  first = subst (λ (s : Steps). MakesTurn before shut s) (ap (λ (s : Steps). s ++ close_calls writes) (r.notes.noted ∙ ap (λ (s : Steps). s ++ rest_calls batches) noted) ∙ append_assoc (look_calls look) (rest_calls batches) (close_calls writes))
      (turn_from before mid shut (rest_calls batches) (noted_by mid ++ close_calls writes) r.notes closes)

  shut_driver : IsDriver hall shut
  shut_driver = driver_later hall before shut (look_calls look ++ (rest_calls batches ++ close_calls writes)) first l.at.driver own_shut (same_raises before shut same_ear)
      (mild_look look (rest_calls batches ++ close_calls writes) (rest_mild batches (close_calls writes) (mild_one desk.Close (desk.Writes writes) tt)))

  shut_rounds : rounds_by hall shut ≡ ending (params_of hall).batches cm writes
  shut_rounds = rounds_later hall before shut (look_calls look ++ (rest_calls batches ++ close_calls writes)) first (resting c) l.at.rounds
      ∙ (rounds_shut (params_of hall).batches (resting c) batches writes ∙ ap (λ (n : ℕ). ending (params_of hall).batches (record cm { epoch = n }) writes) (sym same_epoch))

  shut_told : told_by shut ≤ cm.epoch
  shut_told = subst (λ (n : ℕ). told_by shut ≤ n) (sym same_epoch) (subst (λ (s : Seat (Unit {0}) Heard). latest 0 s.me.0.seen ≤ c.epoch) (sym same_ear) l.at.told)

  -- what came of it is still to be told
  pub is_ending : IsOutOfTurn shut → IsEnding hall shut cm writes
  is_ending idle = record { driver = shut_driver; idle = idle; rounds = shut_rounds; told = shut_told }

  -- both turns
  module _ (after : Pass) (e : Scene V) where
    asks_so : (more : List (VaultCall × VaultAnswer)) → AsksAll k b more e → AsksAll k a (rest_fetches batches ++ more) e
    asks_so more asks = asks_join k a b e (rest_fetches batches) more r.asks asks

    made_both : (calls : Steps) (m : MakesTurn shut after calls) → entries_by after ≡ entries_by before ++ first.turn ∷ m.turn ∷ []
    made_both calls m = m.made ∙ (ap (λ (es : List (Entry Steps)). es ++ m.turn ∷ []) first.made ∙ append_assoc (entries_by before) (first.turn ∷ []) (m.turn ∷ []))

    are_both : (act : Act) (calls : Steps) (m : MakesTurn shut after calls) → IsOneTurn (act ∷ []) → calls ≡ history (act ∷ []) → AreActs (first.turn ∷ m.turn ∷ []) (Closes look batches writes ∷ act ∷ [])
    are_both act calls m one calls_are = (
      Closes look batches writes ∷ [],
      act ∷ [],
      refl,
      tt,
      first.calls_are ∙ sym (append-nil (look_calls look ++ (rest_calls batches ++ close_calls writes))),
      (act ∷ [], [], refl, one, m.calls_are ∙ calls_are, refl),
    )

    module _ (next : VaultCounts) (told : EpochRecord ℕ) (ends : Ends k (suc cm.epoch) writes shut b told after e) (counts : next ≡ counts_ended (params_of hall).batches cm) (raised : Raises shut.ear after.ear (suc cm.epoch)) (own : IsPassOf hall after)
        (idle : IsOutOfTurn after) where
      asked : AsksAll k a (rest_fetches batches ++ (End writes, Ended) ∷ []) e
      asked = asks_so ((End writes, Ended) ∷ []) ends.asks

      tells : records (Closes look batches writes ∷ Publishes writes ends.left told ∷ []) ≡ told ∷ []
      tells = published_rest batches (close_calls writes) (publish_calls ends.left told)

      due_now : IsDueRecord (suc c.epoch) writes told
      due_now = subst (λ (n : ℕ). IsDueRecord (suc n) writes told) same_epoch ends.due

      next_epoch : next.epoch ≡ suc c.epoch
      next_epoch = ap (λ (x : VaultCounts). x.epoch) counts ∙ ap suc same_epoch

      seen_is : raised_by after ≡ raised_by before ++ suc c.epoch ∷ []
      seen_is = (λ i. (raised.knows i).seen) ∙ (ap (λ (s : Seat (Unit {0}) Heard). s.me.0.seen ++ suc cm.epoch ∷ []) same_ear ∙ ap (λ (n : ℕ). raised_by before ++ suc n ∷ []) same_epoch)

      -- it is at rest again
      pub ended_rests : IsBetweenTurns hall after next
      ended_rests = record {
        at = record {
          driver = driver_later hall shut after (publish_calls ends.left told) ends.made shut_driver own (λ i. (raised.knows i).raises) (mild_one (desk.Publish (suc told.epoch) ends.left) (desk.Published told) tt);
          rounds = rounds_later hall shut after (publish_calls ends.left told) ends.made (ending (params_of hall).batches cm writes) shut_rounds ∙ ap resting (sym counts);
          serves = ap (λ (x : VaultCounts). x.spent) counts ∙ r.ready.serves;
          told = subst (λ (n : ℕ). n ≤ next.epoch) (sym (ap (latest 0) seen_is ∙ latest-snoc 0 (suc c.epoch) (raised_by before))) (let x = next_epoch in omega (arith, x));
        };
        idle = idle;
      }

      -- behind a look at which that may be done
      pub ended_once : (beat : BeatKind) (flow : Flow) → MayAct beat look → IsToEnd look → EndedOnce k beat hall (side before a.vault a.trace flow) c (side after e.vault e.trace flow) next told
      ended_once beat flow may end = record {
        look = look;
        batches = batches;
        writes = writes;
        left = ends.left;
        acts_are = record {
          allowed = All-cons (IsAllowed beat) (Closes look batches writes) (Publishes writes ends.left told ∷ []) (may, end) (All-cons (IsAllowed beat) (Publishes writes ends.left told) [] tt (All-nil _));
          turns = first.turn ∷ ends.made.turn ∷ [];
          made = made_both (publish_calls ends.left told) ends.made;
          are = are_both (Publishes writes ends.left told) (publish_calls ends.left told) ends.made tt refl;
          notes = asked.notes;
          chain = asked.chain;
          shown = asked.shown;
          rung = seen_is ∙ (ap (λ (n : ℕ). raised_by before ++ n ∷ []) (sym due_now.epoch_is) ∙ ap (λ (rs : List (EpochRecord ℕ)). raised_by before ++ epochs_of rs) (sym tells));
          place = ends.made.place ∙ first.place;
        };
        due = due_now;
        epoch = next_epoch;
        rests = ended_rests;
      }

    -- ---- and what was refused

    module _ (err : RunErr) (f : EndRefused k (suc cm.epoch) writes shut b err after e) (due : EpochRecord ℕ) (is_due : IsDueRecord (suc cm.epoch) writes due) where
      refused_asks : AsksAll k a (rest_fetches batches ++ (End writes, end_answer (Err f.refused)) ∷ []) e
      refused_asks = asks_so ((End writes, end_answer (Err f.refused)) ∷ []) f.asks

      none : records (Closes look batches writes ∷ Refuses writes f.refused ∷ []) ≡ []
      none = published_rest batches (close_calls writes) ((stop_for f.refused, desk.Done) ∷ [])

      none_ended : ended_of (calls (Closes look batches writes ∷ Refuses writes f.refused ∷ [])) ≡ []
      none_ended = ended_rest batches ((End writes, end_answer (Err f.refused)) ∷ []) ∙ refused_ends writes f.refused

      -- the end was, or is in doubt
      pub end_refused_once : (beat : BeatKind) (flow : Flow) → MayAct beat look → IsToEnd look → after.ear ≡ shut.ear → IsPassOf hall after → IsOutOfTurn after → FailsOnce k beat hall (side before a.vault a.trace flow) c (side after e.vault e.trace flow) err
      end_refused_once beat flow may end still own idle = record {
        acts = Closes look batches writes ∷ Refuses writes f.refused ∷ [];
        one = refl;
        fails = record {
          acts_are = record {
            allowed = All-cons (IsAllowed beat) (Closes look batches writes) (Refuses writes f.refused ∷ []) (may, end) (All-cons (IsAllowed beat) (Refuses writes f.refused) [] tt (All-nil _));
            turns = first.turn ∷ f.made.turn ∷ [];
            made = made_both ((stop_for f.refused, desk.Done) ∷ []) f.made;
            are = are_both (Refuses writes f.refused) ((stop_for f.refused, desk.Done) ∷ []) f.made tt refl;
            notes = refused_asks.notes;
            chain = refused_asks.chain;
            shown = refused_asks.shown;
            rung = ap (λ (s : Seat (Unit {0}) Heard). s.me.0.seen) (still ∙ same_ear) ∙ (sym (append-nil (raised_by before)) ∙ ap (λ (rs : List (EpochRecord ℕ)). raised_by before ++ epochs_of rs) (sym none));
            place = f.made.place ∙ first.place;
          };
          own = own;
          idle = idle;
          front = Closes look batches writes ∷ [];
          last = Refuses writes f.refused;
          ends = refl;
          answered = answered_rest batches [] tt;
          fault_is = ap Some (sym f.fault_is);
          next = suc c.epoch;
          told = subst (λ (ws : List (List (ℕ × Option (List ℕ)))). TellsEpochs (suc c.epoch) (suc c.epoch) ws (records (Closes look batches writes ∷ Refuses writes f.refused ∷ []))) (sym none_ended)
              (subst (λ (rs : List (EpochRecord ℕ)). TellsEpochs (suc c.epoch) (suc c.epoch) [] rs) (sym none) (tells_none (suc c.epoch) (suc c.epoch) refl));
          reason = (subst (λ (n : ℕ). IsEndFault (suc n) f.refused) same_epoch f.is_fault, (due, subst (λ (n : ℕ). IsDueRecord (suc n) writes due) same_epoch is_due));
          cause = λ store. asks_later k a b (rest_fetches batches) (k.disk e.vault).faults r.asks (f.cause store);
          lines = subst (λ (rs : List (EpochRecord ℕ)). IsWritten (report decimal rs) flow flow) (sym none) (written_none flow);
        };
      }

-- a batch before the end was refused
module _ {V : Type 0} (k : Kind V) (beat : BeatKind) (hall : Hall) (before mid after : Pass) (a b : Scene V) (c : VaultCounts) (look : Look) (batches : List Batch) (flow : Flow) (noted : noted_by before ≡ look_calls look) (may : MayAct beat look)
    (end : IsToEnd look) where
  pub batch_refused_once : (fault : Fault) → RefusesInside k hall before a batches fault mid b → MakesTurn mid after (noted_by mid ++ (desk.Stop fault, desk.Done) ∷ []) → after.ear ≡ mid.ear → IsPassOf hall after → IsOutOfTurn after
      → FailsOnce k beat hall (side before a.vault a.trace flow) c (side after b.vault b.trace flow) (failed.Fault fault)
  batch_refused_once fault f made ear own idle = record {
    acts = act ∷ [];
    one = tt;
    fails = record {
      acts_are = record {
        allowed = All-cons (IsAllowed beat) act [] (may, end) (All-nil _);
        turns = turn.turn ∷ [];
        made = turn.made;
        are = (act ∷ [], [], refl, tt, turn.calls_are ∙ sym (append-nil (look_calls look ++ (rest_calls batches ++ (desk.TakeBatch, desk.Batch f.keys) ∷ stop_calls fault))), refl);
        notes = f.asks.notes;
        chain = subst (λ (asked : List (VaultCall × VaultAnswer)). AllNoted k a.vault a.trace asked f.asks.notes b.vault b.trace) (sym (append-nil (rest_fetches batches ++ (Fetch f.keys, RefusedBy fault) ∷ []))) f.asks.chain;
        shown = f.asks.shown;
        rung = ap (λ (s : Seat (Unit {0}) Heard). s.me.0.seen) (ear ∙ f.notes.ear) ∙ (sym (append-nil (raised_by before)) ∙ ap (λ (rs : List (EpochRecord ℕ)). raised_by before ++ epochs_of rs) (sym none));
        place = turn.place;
      };
      own = own;
      idle = idle;
      front = [];
      last = act;
      ends = refl;
      answered = tt;
      fault_is = refl;
      next = suc c.epoch;
      told = subst (λ (ws : List (List (ℕ × Option (List ℕ)))). TellsEpochs (suc c.epoch) (suc c.epoch) ws (records (act ∷ []))) (sym none_ended)
          (subst (λ (rs : List (EpochRecord ℕ)). TellsEpochs (suc c.epoch) (suc c.epoch) [] rs) (sym none) (tells_none (suc c.epoch) (suc c.epoch) refl));
      reason = f.is_fault;
      cause = f.cause;
      lines = subst (λ (rs : List (EpochRecord ℕ)). IsWritten (report decimal rs) flow flow) (sym none) (written_none flow);
    };
  }
    where
      act : Act
      act = FetchFails look batches f.keys fault

      turn : MakesTurn before after (look_calls look ++ (rest_calls batches ++ (desk.TakeBatch, desk.Batch f.keys) ∷ stop_calls fault))
      turn = subst (λ (s : Steps). MakesTurn before after s)
          (ap (λ (s : Steps). s ++ stop_calls fault) (f.notes.noted ∙ ap (λ (s : Steps). s ++ (rest_calls batches ++ (desk.TakeBatch, desk.Batch f.keys) ∷ [])) noted)
          ∙ (append_assoc (look_calls look) (rest_calls batches ++ (desk.TakeBatch, desk.Batch f.keys) ∷ []) (stop_calls fault)
          ∙ ap (λ (s : Steps). look_calls look ++ s) (append_assoc (rest_calls batches) ((desk.TakeBatch, desk.Batch f.keys) ∷ []) (stop_calls fault))))
          (turn_from before mid after (rest_calls batches ++ (desk.TakeBatch, desk.Batch f.keys) ∷ []) (noted_by mid ++ stop_calls fault) f.notes made)

      none : records (FetchFails look batches f.keys fault ∷ []) ≡ []
      none = published_rest batches ((desk.TakeBatch, desk.Batch f.keys) ∷ stop_calls fault) []

      none_ended : ended_of (calls (FetchFails look batches f.keys fault ∷ [])) ≡ []
      none_ended = ap ended_of (append-nil (rest_fetches batches ++ (Fetch f.keys, RefusedBy fault) ∷ [])) ∙ ended_rest batches ((Fetch f.keys, RefusedBy fault) ∷ [])

  -- the watch broke in the last of them
  pub batch_unwatched_once : (next : VaultCounts) → ReadsInside k hall before a batches mid b next → b.trace.broken ≡ true → MakesTurn mid after (noted_by mid ++ (desk.Stop SinkFault, desk.Done) ∷ []) → after.ear ≡ mid.ear → IsPassOf hall after → IsOutOfTurn after
      → FailsOnce k beat hall (side before a.vault a.trace flow) c (side after b.vault b.trace flow) failed.Unwatched
  batch_unwatched_once next r broken made ear own idle = record {
    acts = act ∷ [];
    one = tt;
    fails = record {
      acts_are = record {
        allowed = All-cons (IsAllowed beat) act [] (may, end) (All-nil _);
        turns = turn.turn ∷ [];
        made = turn.made;
        are = (act ∷ [], [], refl, tt, turn.calls_are ∙ sym (append-nil (look_calls look ++ (rest_calls batches ++ stop_calls SinkFault))), refl);
        notes = r.asks.notes;
        chain = subst (λ (asked : List (VaultCall × VaultAnswer)). AllNoted k a.vault a.trace asked r.asks.notes b.vault b.trace) (sym (append-nil (rest_fetches batches))) r.asks.chain;
        shown = r.asks.shown;
        rung = ap (λ (s : Seat (Unit {0}) Heard). s.me.0.seen) (ear ∙ r.notes.ear) ∙ (sym (append-nil (raised_by before)) ∙ ap (λ (rs : List (EpochRecord ℕ)). raised_by before ++ epochs_of rs) (sym none));
        place = turn.place;
      };
      own = own;
      idle = idle;
      front = [];
      last = act;
      ends = refl;
      answered = tt;
      fault_is = refl;
      next = suc c.epoch;
      told = subst (λ (ws : List (List (ℕ × Option (List ℕ)))). TellsEpochs (suc c.epoch) (suc c.epoch) ws (records (act ∷ []))) (sym (ended_rest batches []))
          (subst (λ (rs : List (EpochRecord ℕ)). TellsEpochs (suc c.epoch) (suc c.epoch) [] rs) (sym none) (tells_none (suc c.epoch) (suc c.epoch) refl));
      reason = broken;
      cause = λ store. absurd store;
      lines = subst (λ (rs : List (EpochRecord ℕ)). IsWritten (report decimal rs) flow flow) (sym none) (written_none flow);
    };
  }
    where
      act : Act
      act = RestUnwatched look batches

      turn : MakesTurn before after (look_calls look ++ (rest_calls batches ++ stop_calls SinkFault))
      turn = subst (λ (s : Steps). MakesTurn before after s)
          (ap (λ (s : Steps). s ++ stop_calls SinkFault) (r.notes.noted ∙ ap (λ (s : Steps). s ++ rest_calls batches) noted) ∙ append_assoc (look_calls look) (rest_calls batches) (stop_calls SinkFault))
          (turn_from before mid after (rest_calls batches) (noted_by mid ++ stop_calls SinkFault) r.notes made)

      none : records (RestUnwatched look batches ∷ []) ≡ []
      none = published_rest batches (stop_calls SinkFault) []

-- one of those two
pub batch_stops_once : {V : Type 0} (k : Kind V) (beat : BeatKind) (hall : Hall) (before mid after : Pass) (a b : Scene V) (c : VaultCounts) (look : Look) (flow : Flow) → noted_by before ≡ look_calls look → MayAct beat look → IsToEnd look → (err : RunErr) (stop : Fault)
    → StopsInside k hall before a err mid b → stop ≡ fault_of err → MakesTurn mid after (noted_by mid ++ (desk.Stop stop, desk.Done) ∷ []) → after.ear ≡ mid.ear → IsPassOf hall after → IsOutOfTurn after
    → FailsOnce k beat hall (side before a.vault a.trace flow) c (side after b.vault b.trace flow) err
batch_stops_once k beat hall before mid after a b c look flow noted may end (failed.Fault fault) stop (batches, refused) is made ear own idle =
    batch_refused_once k beat hall before mid after a b c look batches flow noted may end fault refused (subst (λ (f : Fault). MakesTurn mid after (noted_by mid ++ (desk.Stop f, desk.Done) ∷ [])) is made) ear own idle
batch_stops_once k beat hall before mid after a b c look flow noted may end failed.Unwatched stop (batches, next, read, broken) is made ear own idle =
    batch_unwatched_once k beat hall before mid after a b c look batches flow noted may end next read broken (subst (λ (f : Fault). MakesTurn mid after (noted_by mid ++ (desk.Stop f, desk.Done) ∷ [])) is made) ear own idle
