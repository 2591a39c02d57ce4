-- A look at which nothing was done, a desk that was found stopped, and the lines of an epoch.
use Rattle.std.proofs.Common.{◌≡◌, ◌∙◌, ◌≤◌, ℕ, suc, true, false, List, [], ◌∷◌, ◌++◌, Option, Some, refl, sym, ap, subst, append-nil, append_assoc, decimal}
use Rattle.std.proofs.lemmas.List.Elements.{All-nil, All-cons, All-append}
use Rattle.ob_base.specs.Causes.{Rose}
use Rattle.ob_base.specs.declared.fault.Fault.{Fault}
use Rattle.ob_base.specs.declared.fault.Fault.TheVariants.{Memory, SinkFault}
use Rattle.ob_io.specs.Streams.{Flow}
use Rattle.ob_report.specs.Printed.{IsPrinted}
use Rattle.ob_report.specs.Report.{report, record_text}
use Rattle.ob_store.specs.Calls.{IsStoreFault}
use Rattle.ob_store.specs.Lines.{Trace}
use Rattle.ob_store.proofs.Showing.{shows_none}
use Rattle.ob_serial.specs.Serial.{EpochRecord}
use Rattle.ob_serial.specs.Vaults.{VaultCall, VaultAnswer, End, Ended, VaultCounts}
use Rattle.ob_serial.specs.VaultKinds.{Kind, ended_of}
use Rattle.ob_desk.specs.Desk as desk
use Rattle.ob_desk.specs.Desk.{Call, Reply, published}
use Rattle.ob_desk.specs.declared.calls.Look.{Look}
use Rattle.ob_desk.specs.Beats.{BeatKind}
use Rattle.ob_turn.specs.declared.turn.Entry.{Entry}
use Rattle.ob_turn.specs.declared.bell.Heard.{Heard}
use Rattle.ob_turn.specs.BellHistory.{latest}
use Rattle.atomic_table.specs.declared.shared.Seat.{Seat}
use Rattle.ob_hall.specs.Passes.{pass_place, Steps, Hall, Pass, entries_by, raised_by, IsPassOf, IsOutOfTurn}
use Rattle.ob_conduct.specs.declared.run_err.RunErr.{RunErr}
use Rattle.ob_conduct.specs.declared.run_err.RunErr.TheVariants as failed
use Rattle.ob_conduct.specs.Acts.{Act, Halts, Rests, Closes, Publishes, Unprinted, Unwatched, calls, records, look_calls, close_calls, publish_calls, stop_calls, MayRest, IsAllowed}
use Rattle.ob_conduct.specs.Rounds.{IsOneThing}
use Rattle.ob_conduct.specs.Scenes.{AllNoted}
use Rattle.ob_conduct.specs.Records.{AreAnswered, IsWritten}
use Rattle.ob_conduct.specs.Ready.{TellsEpochs}
use Rattle.ob_conduct.proofs.Acting.{tells_none, tells_one, written_none, published_rest, answered_rest, ended_rest}
use Rattle.ob_conduct.proofs.Going.{calls_append, records_append}
use Rattle.ob_driver.specs.declared.round.Round.{Round}
use Rattle.ob_driver.specs.declared.round.Round.TheVariants.{Acted}
use Rattle.ob_driver.specs.Looks.{SaysRound}
use Rattle.ob_driver.specs.Resting.{IsMild, resting, IsWhere}
use Rattle.ob_driver.specs.Turning.{MakesTurn}
use Rattle.ob_driver.specs.Driven.{Side, side, epochs_of, Acts, EndedOnce, DoneOnce, FailsOnce}
use Rattle.ob_driver.proofs.Sound.{mild_look}
use Rattle.ob_driver.proofs.Turning.{acts_append, acts_one}
use Rattle.ob_driver.proofs.Batching.{rounds_later, driver_later, same_raises, ear_raised}

-- ---- by a pass that has entered, in place of the one that was at rest

acts_from : {V : Type 0} (k : Kind V) (beat : BeatKind) (before mid : Pass) (v : V) (t : Trace) (from : Flow) (new : Side V) (acts : List Act) → entries_by mid ≡ entries_by before → raised_by mid ≡ raised_by before → pass_place mid ≡ pass_place before → Acts k beat (side mid v t from) new acts
    → Acts k beat (side before v t from) new acts
acts_from k beat before mid v t from new acts same rung at a = record {
  allowed = a.allowed;
  turns = a.turns;
  made = a.made ∙ ap (λ (es : List (Entry Steps)). es ++ a.turns) same;
  are = a.are;
  notes = a.notes;
  chain = a.chain;
  shown = a.shown;
  rung = a.rung ∙ ap (λ (ns : List ℕ). ns ++ epochs_of (records acts)) rung;
  place = a.place ∙ at;
}

pub done_from : {V : Type 0} (k : Kind V) (beat : BeatKind) (hall : Hall) (before mid : Pass) (v : V) (t : Trace) (from : Flow) (c : VaultCounts) (new : Side V) (next : VaultCounts) (round : Round) → entries_by mid ≡ entries_by before → raised_by mid ≡
    raised_by before → pass_place mid ≡ pass_place before
    → DoneOnce k beat hall (side mid v t from) c new next round → DoneOnce k beat hall (side before v t from) c new next round
done_from k beat hall before mid v t from c new next round same rung at d = record {
  acts = d.acts;
  one = d.one;
  says = d.says;
  done = record { acts_are = acts_from k beat before mid v t from new d.acts same rung at d.done.acts_are; answered = d.done.answered; told = d.done.told; written = d.done.written; whole = d.done.whole; rests = d.done.rests };
}

pub fails_from : {V : Type 0} (k : Kind V) (beat : BeatKind) (hall : Hall) (before mid : Pass) (v : V) (t : Trace) (from : Flow) (c : VaultCounts) (new : Side V) (err : RunErr) → entries_by mid ≡ entries_by before → raised_by mid ≡ raised_by before → pass_place mid ≡ pass_place before
    → FailsOnce k beat hall (side mid v t from) c new err → FailsOnce k beat hall (side before v t from) c new err
fails_from k beat hall before mid v t from c new err same rung at f = record {
  acts = f.acts;
  one = f.one;
  fails = record {
    acts_are = acts_from k beat before mid v t from new f.acts same rung at f.fails.acts_are;
    own = f.fails.own;
    idle = f.fails.idle;
    front = f.fails.front;
    last = f.fails.last;
    ends = f.fails.ends;
    answered = f.fails.answered;
    fault_is = f.fails.fault_is;
    next = f.fails.next;
    told = f.fails.told;
    reason = f.fails.reason;
    cause = f.fails.cause;
    lines = f.fails.lines;
  };
}

-- ---- nothing was done

module _ {V : Type 0} (k : Kind V) (beat : BeatKind) (hall : Hall) (before after : Pass) (v : V) (t : Trace) (flow : Flow) (c : VaultCounts) where
  pub rested_once : (look : Look) → IsWhere hall before c → MakesTurn before after (look_calls look) → after.ear ≡ before.ear → IsPassOf hall after → IsOutOfTurn after → MayRest beat look → t.broken ≡ false → (round : Round) → SaysRound round (Rests look ∷ []) → DoneOnce k beat
      hall (side before v t flow) c (side after v t flow) c round
  rested_once look w m ear own idle may whole round says = record {
    acts = Rests look ∷ [];
    one = tt;
    says = says;
    done = record {
      acts_are = record {
        allowed = All-cons (IsAllowed beat) (Rests look) [] may (All-nil _);
        turns = m.turn ∷ [];
        made = m.made;
        are = (Rests look ∷ [], [], refl, tt, m.calls_are, refl);
        notes = [];
        chain = (refl, refl, refl);
        shown = shows_none t;
        rung = ear_raised before after ear;
        place = m.place;
      };
      answered = tt;
      told = tells_none (suc c.epoch) (suc c.epoch) refl;
      written = written_none flow;
      whole = whole;
      rests = record {
        at = record {
          driver = driver_later hall before after (look_calls look) m w.driver own (same_raises before after ear) (mild_look look [] (All-nil IsMild));
          rounds = rounds_later hall before after (look_calls look) m (resting c) w.rounds;
          serves = w.serves;
          told = subst (λ (e : Seat (Unit {0}) Heard). latest 0 e.me.0.seen ≤ c.epoch) (sym ear) w.told;
        };
        idle = idle;
      };
    };
  }

  -- The desk was found stopped.
  pub halted_once : (fault : Fault) → MakesTurn before after ((desk.IsStopped, desk.StoppedBy (Some fault)) ∷ []) → after.ear ≡ before.ear → IsPassOf hall after → IsOutOfTurn after → fault ≡ Memory
      → FailsOnce k beat hall (side before v t flow) c (side after v t flow) (failed.Fault fault)
  halted_once fault m ear own idle memory = record {
    acts = Halts fault ∷ [];
    one = tt;
    fails = record {
      acts_are = record {
        allowed = All-cons (IsAllowed beat) (Halts fault) [] tt (All-nil _);
        turns = m.turn ∷ [];
        made = m.made;
        are = (Halts fault ∷ [], [], refl, tt, m.calls_are, refl);
        notes = [];
        chain = (refl, refl, refl);
        shown = shows_none t;
        rung = ear_raised before after ear;
        place = m.place;
      };
      own = own;
      idle = idle;
      front = [];
      last = Halts fault;
      ends = refl;
      answered = tt;
      fault_is = refl;
      next = suc c.epoch;
      told = tells_none (suc c.epoch) (suc c.epoch) refl;
      reason = memory;
      cause = λ store. absurd (subst (λ (f : Fault). IsStoreFault f) memory store);
      lines = written_none flow;
    };
  }

-- ---- acts in the last of which the watch broke, and the desk was stopped in another turn

pub unwatched_once : {V : Type 0} (k : Kind V) (beat : BeatKind) (hall : Hall) (before after last : Pass) (v w : V) (t u : Trace) (from to : Flow) (c : VaultCounts) (acts : List Act) → Acts k beat (side before v t from) (side after w u to) acts
    → MakesTurn after last ((desk.Stop SinkFault, desk.Done) ∷ []) → last.ear ≡ after.ear → IsOneThing (acts ++ Unwatched ∷ []) → AreAnswered (calls acts) → (next : ℕ) → TellsEpochs (suc c.epoch) next (ended_of (calls acts)) (records acts)
    → IsWritten (report decimal (records acts)) from to → u.broken ≡ true → IsPassOf hall last → IsOutOfTurn last → FailsOnce k beat hall (side before v t from) c (side last w u to) failed.Unwatched
unwatched_once {V} k beat hall before after last v w t u from to c acts a m ear one answered next told written broken own idle = record {
  acts = all;
  one = one;
  fails = record {
    acts_are = record {
      allowed = All-append (IsAllowed beat) acts (Unwatched ∷ []) a.allowed (All-cons (IsAllowed beat) Unwatched [] tt (All-nil _));
      turns = a.turns ++ m.turn ∷ [];
      made = m.made ∙ (ap (λ (es : List (Entry Steps)). es ++ m.turn ∷ []) a.made ∙ append_assoc (entries_by before) a.turns (m.turn ∷ []));
      are = acts_append a.turns acts (m.turn ∷ []) (Unwatched ∷ []) a.are (acts_one m.turn (Unwatched ∷ []) tt m.calls_are);
      notes = a.notes;
      chain = subst (λ (asked : List (VaultCall × VaultAnswer)). AllNoted k v t asked a.notes w u) (sym same_calls) a.chain;
      shown = a.shown;
      rung = ap (λ (s : Seat (Unit {0}) Heard). s.me.0.seen) ear ∙ (a.rung ∙ ap (λ (rs : List (EpochRecord ℕ)). raised_by before ++ epochs_of rs) (sym same_records));
      place = m.place ∙ a.place;
    };
    own = own;
    idle = idle;
    front = acts;
    last = Unwatched;
    ends = refl;
    answered = answered;
    fault_is = refl;
    next = next;
    told = subst (λ (asked : List (VaultCall × VaultAnswer)). TellsEpochs (suc c.epoch) next (ended_of asked) (records (acts ++ Unwatched ∷ []))) (sym same_calls) (subst (λ (rs : List (EpochRecord ℕ)). TellsEpochs (suc c.epoch) next (ended_of (calls acts)) rs) (sym same_records) told);
    reason = broken;
    cause = λ store. absurd store;
    lines = subst (λ (rs : List (EpochRecord ℕ)). IsWritten (report decimal rs) from to) (sym same_records) written;
  };
}
  where
    all : List Act
    all = acts ++ Unwatched ∷ []

    same_calls : calls (acts ++ Unwatched ∷ []) ≡ calls acts
    same_calls = calls_append acts (Unwatched ∷ []) ∙ append-nil (calls acts)

    same_records : records (acts ++ Unwatched ∷ []) ≡ records acts
    same_records = records_append acts (Unwatched ∷ []) ∙ append-nil (records acts)

-- ---- the lines of an epoch that was ended

module _ {V : Type 0} (k : Kind V) (beat : BeatKind) (hall : Hall) (before after : Pass) (v w : V) (t u : Trace) (from to : Flow) (c next : VaultCounts) (told : EpochRecord ℕ) (e : EndedOnce k beat hall (side before v t from) c (side after w u from) next told) where
  abbrev acts : List Act
  acts = Closes e.look e.batches e.writes ∷ Publishes e.writes e.left told ∷ []

  tells : records (Closes e.look e.batches e.writes ∷ Publishes e.writes e.left told ∷ []) ≡ told ∷ []
  tells = published_rest e.batches (close_calls e.writes) (publish_calls e.left told)

  ended : ended_of (calls (Closes e.look e.batches e.writes ∷ Publishes e.writes e.left told ∷ [])) ≡ e.writes ∷ []
  ended = ended_rest e.batches ((End e.writes, Ended) ∷ [])

  one_record : TellsEpochs (suc c.epoch) (suc next.epoch) (e.writes ∷ []) (told ∷ [])
  one_record = tells_one (suc c.epoch) (suc next.epoch) e.writes told e.due (ap suc e.epoch)

  told_acts : Acts k beat (side before v t from) (side after w u to) (Closes e.look e.batches e.writes ∷ Publishes e.writes e.left told ∷ [])
  told_acts = record { allowed = a.allowed; turns = a.turns; made = a.made; are = a.are; notes = a.notes; chain = a.chain; shown = a.shown; rung = a.rung; place = a.place }
    where
      a : Acts k beat (side before v t from) (side after w u from) (Closes e.look e.batches e.writes ∷ Publishes e.writes e.left told ∷ [])
      a = e.acts_are

  tells_acts : TellsEpochs (suc c.epoch) (suc next.epoch) (ended_of (calls (Closes e.look e.batches e.writes ∷ Publishes e.writes e.left told ∷ []))) (records (Closes e.look e.batches e.writes ∷ Publishes e.writes e.left told ∷ []))
  tells_acts = subst (λ (ws : List (List (ℕ × Option (List ℕ)))). TellsEpochs (suc c.epoch) (suc next.epoch) ws (records acts)) (sym ended)
      (subst (λ (rs : List (EpochRecord ℕ)). TellsEpochs (suc c.epoch) (suc next.epoch) (e.writes ∷ []) rs) (sym tells) one_record)

  written_acts : IsWritten (record_text decimal told) from to → IsWritten (report decimal (records (Closes e.look e.batches e.writes ∷ Publishes e.writes e.left told ∷ []))) from to
  written_acts written = subst (λ (rs : List (EpochRecord ℕ)). IsWritten (report decimal rs) from to) (sym tells) (subst (λ (text : List ℕ). IsWritten text from to) (sym (append-nil (record_text decimal told))) written)

  -- All of them are written.
  pub told_once : IsWritten (record_text decimal told) from to → u.broken ≡ false → DoneOnce k beat hall (side before v t from) c (side after w u to) next Acted
  told_once written whole = record {
    acts = acts;
    one = refl;
    says = tt;
    done = record {
      acts_are = told_acts;
      answered = answered_rest e.batches ((End e.writes, Ended) ∷ []) tt;
      told = tells_acts;
      written = written_acts written;
      whole = whole;
      rests = e.rests;
    };
  }

  -- They are, but the watch had broken.
  pub told_unwatched : (last : Pass) → MakesTurn after last ((desk.Stop SinkFault, desk.Done) ∷ []) → last.ear ≡ after.ear → IsPassOf hall last → IsOutOfTurn last → IsWritten (record_text decimal told) from to → u.broken ≡ true
      → FailsOnce k beat hall (side before v t from) c (side last w u to) failed.Unwatched
  told_unwatched last m ear own idle written broken =
      unwatched_once k beat hall before after last v w t u from to c acts told_acts m ear refl (answered_rest e.batches ((End e.writes, Ended) ∷ []) tt) (suc next.epoch) tells_acts (written_acts written) broken own idle

  -- The output failed at them, and the desk was stopped in another turn.
  pub untold_once : (last : Pass) → MakesTurn after last ((desk.Stop SinkFault, desk.Done) ∷ []) → last.ear ≡ after.ear → IsPassOf hall last → IsOutOfTurn last → IsPrinted from to (record_text decimal told) → Rose from.faults to.faults
      → FailsOnce k beat hall (side before v t from) c (side last w u to) (failed.Fault SinkFault)
  untold_once last m ear own idle printed rose = record {
    acts = all;
    one = refl;
    fails = record {
      acts_are = record {
        allowed = All-append (IsAllowed beat) acts (Unprinted ∷ []) a.allowed (All-cons (IsAllowed beat) Unprinted [] tt (All-nil _));
        turns = a.turns ++ m.turn ∷ [];
        made = m.made ∙ (ap (λ (es : List (Entry Steps)). es ++ m.turn ∷ []) a.made ∙ append_assoc (entries_by before) a.turns (m.turn ∷ []));
        are = acts_append a.turns acts (m.turn ∷ []) (Unprinted ∷ []) a.are (acts_one m.turn (Unprinted ∷ []) tt m.calls_are);
        notes = a.notes;
        chain = a.chain;
        shown = a.shown;
        rung = ap (λ (s : Seat (Unit {0}) Heard). s.me.0.seen) ear ∙ (a.rung ∙ ap (λ (rs : List (EpochRecord ℕ)). raised_by before ++ epochs_of rs) (tells ∙ sym tells_all));
        place = m.place ∙ a.place;
      };
      own = own;
      idle = idle;
      front = acts;
      last = Unprinted;
      ends = refl;
      answered = answered_rest e.batches ((End e.writes, Ended) ∷ []) tt;
      fault_is = refl;
      next = suc next.epoch;
      told = subst (λ (ws : List (List (ℕ × Option (List ℕ)))). TellsEpochs (suc c.epoch) (suc next.epoch) ws (records all)) (sym ended)
          (subst (λ (rs : List (EpochRecord ℕ)). TellsEpochs (suc c.epoch) (suc next.epoch) (e.writes ∷ []) rs) (sym tells_all) one_record);
      reason = tt;
      cause = λ store. absurd store;
      lines = record { whole = []; last = told; told_are = tells_all; mid = from; written = written_none from; printed = printed; rose = rose };
    };
  }
    where
      all : List Act
      all = Closes e.look e.batches e.writes ∷ Publishes e.writes e.left told ∷ Unprinted ∷ []

      a : Acts k beat (side before v t from) (side after w u from) (Closes e.look e.batches e.writes ∷ Publishes e.writes e.left told ∷ [])
      a = e.acts_are

      tells_all : records (Closes e.look e.batches e.writes ∷ Publishes e.writes e.left told ∷ Unprinted ∷ []) ≡ told ∷ []
      tells_all = published_rest e.batches (close_calls e.writes) (publish_calls e.left told ++ stop_calls SinkFault)
