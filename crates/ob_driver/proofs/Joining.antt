-- What the driver did, one thing behind the other.
use Rattle.std.proofs.Common.{◌≡◌, ◌∙◌, ℕ, suc, false, List, [], ◌∷◌, ◌++◌, flat_map, Option, refl, sym, ap, subst, append-nil, append_assoc, decimal}
use Rattle.std.proofs.lemmas.List.{map-append}
use Rattle.std.proofs.lemmas.List.Elements.{All-nil, All-cons, All-append}
use Rattle.std.proofs.lemmas.List.Concat.{flat_map-append}
use Rattle.ob_io.specs.Streams.{Flow}
use Rattle.ob_report.specs.Report.{report}
use Rattle.ob_store.proofs.Serving.{rose_later}
use Rattle.ob_store.proofs.Showing.{shows_none, shows_then}
use Rattle.ob_serial.specs.Serial.{EpochRecord}
use Rattle.ob_serial.specs.Vaults.{VaultCall, VaultAnswer, VaultCounts}
use Rattle.ob_serial.specs.VaultKinds.{Kind, ended_of}
use Rattle.ob_desk.specs.Beats.{BeatKind}
use Rattle.ob_turn.specs.declared.turn.Entry.{Entry}
use Rattle.ob_hall.specs.Passes.{Steps, Hall, entries_by, raised_by}
use Rattle.ob_conduct.specs.declared.run_err.RunErr.{RunErr}
use Rattle.ob_conduct.specs.Acts.{Act, Says, Halts, Rests, Takes, Delivers, DeliverFails, FetchFails, RestUnwatched, Closes, Publishes, Refuses, Unprinted, Unwatched, calls, records, IsAllowed}
use Rattle.ob_conduct.specs.Rounds.{IsOneThing}
use Rattle.ob_conduct.specs.Scenes.{AllNoted}
use Rattle.ob_conduct.specs.Records.{AreAnswered, IsWritten}
use Rattle.ob_conduct.specs.Ready.{TellsEpochs}
use Rattle.ob_conduct.specs.Moves.{AreLines}
use Rattle.ob_conduct.proofs.Moving.{noted_join, goes_all}
use Rattle.ob_conduct.proofs.Acting.{tells_none, written_none}
use Rattle.ob_conduct.proofs.Going.{calls_append, records_append, ended_append, answered_join, tells_join, written_then, cut_then}
use Rattle.ob_driver.specs.declared.round.Round.{Round}
use Rattle.ob_driver.specs.Resting.{IsBetweenTurns}
use Rattle.ob_driver.specs.Driven.{Side, side, epochs_of, Acts, DoneOnce, FailsOnce}
use Rattle.ob_driver.specs.Drives.{AreThings, DoneThings, FailsThings, RunsOut, RunFails}
use Rattle.ob_driver.proofs.Turning.{acts_append}

-- ---- lists of things

things_none : AreThings []
things_none = record { things = []; acts_are = refl; each = All-nil IsOneThing }

things_more : (acts thing : List Act) → AreThings acts → IsOneThing thing → AreThings (acts ++ thing)
things_more acts thing t one = record {
  things = t.things ++ thing ∷ [];
  acts_are = ap (λ (x : List Act). x ++ thing) t.acts_are ∙ (ap (λ (x : List Act). flat_map (λ (thing : List Act). thing) t.things ++ x) (sym (append-nil thing)) ∙ sym (flat_map-append (λ (thing : List Act). thing) t.things (thing ∷ [])));
  each = All-append IsOneThing t.things (thing ∷ []) t.each (All-cons IsOneThing thing [] one (All-nil IsOneThing));
}

-- ---- what is told

epochs_append : (acts more : List Act) → epochs_of (records (acts ++ more)) ≡ epochs_of (records acts) ++ epochs_of (records more)
epochs_append acts more = ap epochs_of (records_append acts more) ∙ map-append (λ (r : EpochRecord ℕ). r.epoch) (records acts) (records more)

tells_more : (a b c : ℕ) (acts more : List Act) → TellsEpochs a b (ended_of (calls acts)) (records acts) → TellsEpochs b c (ended_of (calls more)) (records more) → TellsEpochs a c (ended_of (calls (acts ++ more))) (records (acts ++ more))
tells_more a b c acts more first rest =
    subst (λ (ws : List (List (ℕ × Option (List ℕ)))). TellsEpochs a c ws (records (acts ++ more))) (sym (ap ended_of (calls_append acts more) ∙ ended_append (calls acts) (calls more)))
    (subst (λ (rs : List (EpochRecord ℕ)). TellsEpochs a c (ended_of (calls acts) ++ ended_of (calls more)) rs) (sym (records_append acts more))
    (tells_join a b c (ended_of (calls acts)) (ended_of (calls more)) (records acts) (records more) first rest))

written_more : (acts more : List Act) (from mid to : Flow) → IsWritten (report decimal (records acts)) from mid → IsWritten (report decimal (records more)) mid to → IsWritten (report decimal (records (acts ++ more))) from to
written_more acts more from mid to first rest = subst (λ (rs : List (EpochRecord ℕ)). IsWritten (report decimal rs) from to) (sym (records_append acts more)) (written_then (records acts) (records more) from mid to first rest)

lines_behind : (act : Act) (some told : List (EpochRecord ℕ)) (from mid to : Flow) → IsWritten (report decimal some) from mid → AreLines act told mid to → AreLines act (some ++ told) from to
lines_behind Unprinted some told from mid to first lines = cut_then some told from mid to first lines
lines_behind Unwatched some told from mid to first lines = written_then some told from mid to first lines
lines_behind (Halts fault) some told from mid to first lines = written_then some told from mid to first lines
lines_behind (DeliverFails keys fault) some told from mid to first lines = written_then some told from mid to first lines
lines_behind (FetchFails look batches keys fault) some told from mid to first lines = written_then some told from mid to first lines
lines_behind (RestUnwatched look batches) some told from mid to first lines = written_then some told from mid to first lines
lines_behind (Refuses writes refused) some told from mid to first lines = written_then some told from mid to first lines
lines_behind (Says client steps) some told from mid to first lines = written_then some told from mid to first lines
lines_behind (Rests look) some told from mid to first lines = written_then some told from mid to first lines
lines_behind (Takes look keys) some told from mid to first lines = written_then some told from mid to first lines
lines_behind (Delivers batch) some told from mid to first lines = written_then some told from mid to first lines
lines_behind (Closes look batches writes) some told from mid to first lines = written_then some told from mid to first lines
lines_behind (Publishes writes left published) some told from mid to first lines = written_then some told from mid to first lines

module _ {V : Type 0} (k : Kind V) (beat : BeatKind) where
  acts_join : (a b e : Side V) (acts more : List Act) → Acts k beat a b acts → Acts k beat b e more → Acts k beat a e (acts ++ more)
  acts_join a b e acts more m n = record {
    allowed = All-append (IsAllowed beat) acts more m.allowed n.allowed;
    turns = m.turns ++ n.turns;
    made = n.made ∙ (ap (λ (es : List (Entry Steps)). es ++ n.turns) m.made ∙ append_assoc (entries_by a.pass) m.turns n.turns);
    are = acts_append m.turns acts n.turns more m.are n.are;
    notes = m.notes ++ n.notes;
    chain = subst (λ (asked : List (VaultCall × VaultAnswer)). AllNoted k a.vault a.trace asked (m.notes ++ n.notes) e.vault e.trace) (sym (calls_append acts more))
        (noted_join k a.vault a.trace (calls acts) m.notes b.vault b.trace (calls more) n.notes e.vault e.trace m.chain n.chain);
    shown = shows_then m.notes n.notes a.trace b.trace e.trace m.shown n.shown;
    rung = n.rung ∙ (ap (λ (ns : List ℕ). ns ++ epochs_of (records more)) m.rung ∙ (append_assoc (raised_by a.pass) (epochs_of (records acts)) (epochs_of (records more)) ∙ ap (λ (ns : List ℕ). raised_by a.pass ++ ns) (sym (epochs_append acts more))));
    place = n.place ∙ m.place;
  }

  module _ (hall : Hall) (a : Side V) (c : VaultCounts) where
    -- nothing was done yet
    pub done_none : (Also : List Act → Type 0) → Also [] → a.trace.broken ≡ false → IsBetweenTurns hall a.pass c → DoneThings k beat hall Also a c a c
    done_none Also also whole rests = record {
      acts = [];
      things = things_none;
      also = also;
      done = record {
        acts_are = record {
          allowed = All-nil (IsAllowed beat);
          turns = [];
          made = sym (append-nil (entries_by a.pass));
          are = refl;
          notes = [];
          chain = (refl, refl, refl);
          shown = shows_none a.trace;
          rung = sym (append-nil (raised_by a.pass));
          place = refl;
        };
        answered = tt;
        told = tells_none (suc c.epoch) (suc c.epoch) refl;
        written = written_none a.output;
        whole = whole;
        rests = rests;
      };
    }

    module _ (b e : Side V) (d : VaultCounts) (A B : List Act → Type 0) (m : DoneThings k beat hall A a c b d) where
      -- one more was done
      pub done_more : (next : VaultCounts) (round : Round) (n : DoneOnce k beat hall b d e next round) → B (m.acts ++ n.acts) → DoneThings k beat hall B a c e next
      done_more next round n also = record {
        acts = m.acts ++ n.acts;
        things = things_more m.acts n.acts m.things n.one;
        also = also;
        done = record {
          acts_are = acts_join a b e m.acts n.acts m.done.acts_are n.done.acts_are;
          answered = subst AreAnswered (sym (calls_append m.acts n.acts)) (answered_join (calls m.acts) (calls n.acts) m.done.answered n.done.answered);
          told = tells_more (suc c.epoch) (suc d.epoch) (suc next.epoch) m.acts n.acts m.done.told n.done.told;
          written = written_more m.acts n.acts a.output b.output e.output m.done.written n.done.written;
          whole = n.done.whole;
          rests = n.done.rests;
        };
      }

      -- one more failed
      pub fails_behind : (err : RunErr) (n : FailsOnce k beat hall b d e err) → B (m.acts ++ n.acts) → FailsThings k beat hall B a c e err
      fails_behind err n also = record {
        acts = m.acts ++ n.acts;
        things = things_more m.acts n.acts m.things n.one;
        also = also;
        fails = record {
          acts_are = acts_join a b e m.acts n.acts m.done.acts_are n.fails.acts_are;
          own = n.fails.own;
          idle = n.fails.idle;
          front = m.acts ++ n.fails.front;
          last = n.fails.last;
          ends = ap (λ (x : List Act). m.acts ++ x) n.fails.ends ∙ sym (append_assoc m.acts n.fails.front (n.fails.last ∷ []));
          answered = subst AreAnswered (sym (calls_append m.acts n.fails.front)) (answered_join (calls m.acts) (calls n.fails.front) m.done.answered n.fails.answered);
          fault_is = n.fails.fault_is;
          next = n.fails.next;
          told = tells_more (suc c.epoch) (suc d.epoch) n.fails.next m.acts n.acts m.done.told n.fails.told;
          reason = n.fails.reason;
          cause = λ store. rose_later (k.disk a.vault).faults (k.disk b.vault).faults (k.disk e.vault).faults (goes_all k a.vault a.trace (calls m.acts) m.done.acts_are.notes b.vault b.trace m.done.acts_are.chain).faults (n.fails.cause store);
          lines = subst (λ (rs : List (EpochRecord ℕ)). AreLines n.fails.last rs a.output e.output) (sym (records_append m.acts n.acts)) (lines_behind n.fails.last (records m.acts) (records n.acts) a.output b.output e.output m.done.written n.fails.lines);
        };
      }

-- ---- what else is so of the acts, by what it follows from

module _ {V : Type 0} (k : Kind V) (beat : BeatKind) (hall : Hall) (A B : List Act → Type 0) (so : (acts : List Act) → A acts → B acts) (old : Side V) (c : VaultCounts) (new : Side V) where
  pub done_also : (next : VaultCounts) → DoneThings k beat hall A old c new next → DoneThings k beat hall B old c new next
  done_also next m = record { acts = m.acts; things = m.things; also = so m.acts m.also; done = m.done }

  pub fails_also : (err : RunErr) → FailsThings k beat hall A old c new err → FailsThings k beat hall B old c new err
  fails_also err m = record { acts = m.acts; things = m.things; also = so m.acts m.also; fails = m.fails }

pub runs_out_also : {V : Type 0} (k : Kind V) (beat : BeatKind) (hall : Hall) (A B : List Act → Type 0) (old : Side V) (c : VaultCounts) (new : Side V) (next : VaultCounts) → ((acts : List Act) → A acts → B acts) → RunsOut k beat hall A old c new next → RunsOut k beat hall B old c new next
runs_out_also k beat hall A B old c new next so r = record { rung = r.rung; found = r.found; done = done_also k beat hall A B so (side r.rung old.vault old.trace old.output) c new next r.done; over = r.over }

pub run_fails_also : {V : Type 0} (k : Kind V) (beat : BeatKind) (hall : Hall) (A B : List Act → Type 0) (old : Side V) (c : VaultCounts) (new : Side V) (err : RunErr) → ((acts : List Act) → A acts → B acts) → RunFails k beat hall A old c new err → RunFails k beat hall B old c new err
run_fails_also k beat hall A B old c new err so r = record { rung = r.rung; found = r.found; fails = fails_also k beat hall A B so (side r.rung old.vault old.trace old.output) c new err r.fails }
