-- What a look and what is done at it make: one thing that the driver does.
use Rattle.std.proofs.Common.{◌≡◌, ◌∙◌, ◌⊎◌, ◌+◌, ◌<◌, ℕ, zero, suc, true, false, All, List, [], ◌∷◌, ◌++◌, length, Option, None, Some, Err, Result, OnOk, IfErr, Ok, refl, sym, ap, subst, inl, inr, arith, decimal}
use Rattle.std.proofs.lemmas.List.{append-nil, take_all}
use Rattle.std.proofs.lemmas.List.Elements.{All-nil, All-cons}
use Rattle.std.proofs.lemmas.Option.{none-some, same_Some}
use Rattle.ob_base.specs.Causes.{Rose}
use Rattle.ob_base.specs.declared.fault.Fault.{Fault}
use Rattle.ob_base.specs.declared.fault.Fault.TheVariants.{Memory, SinkFault}
use Rattle.ob_base.specs.declared.params.Params.{Params}
use Rattle.ob_store.specs.Calls.{IsStoreFault}
use Rattle.ob_store.specs.Lines.{Trace}
use Rattle.ob_store.proofs.Serving.{rose_later}
use Rattle.ob_io.specs.Flows.{appended}
use Rattle.ob_io.specs.Streams.{Flow}
use Rattle.ob_report.specs.Printed.{IsPrinted}
use Rattle.ob_report.specs.Report.{report, record_text}
use Rattle.ob_serial.specs.Serial.{EpochRecord}
use Rattle.ob_serial.specs.Vaults.{VaultCall, Fetch, End, VaultAnswer, Ended, RefusedBy, VaultCounts}
use Rattle.ob_serial.specs.VaultViews.{end_answer, IsEndFault}
use Rattle.ob_serial.specs.VaultKinds.{Kind, ended_of}
use Rattle.ob_serial.specs.declared.vault.EndErr.{EndErr}
use Rattle.ob_serial.specs.declared.vault.EndErr.TheVariants.{Before, Unsure}
use Rattle.ob_desk.specs.Desk as desk
use Rattle.ob_desk.specs.Desk.{DeskState, Call, Reply, published, look_at, record_of}
use Rattle.ob_desk.specs.declared.calls.Look.{Look}
use Rattle.ob_desk.specs.Beats.{BeatKind}
use Rattle.ob_session.specs.Clients.{said_by}
use Rattle.ob_conduct.specs.declared.run_err.RunErr.{RunErr}
use Rattle.ob_conduct.specs.declared.run_err.RunErr.TheVariants as failed
use Rattle.ob_conduct.specs.Acts.{Act, Halts, Rests, Takes, Delivers, DeliverFails, FetchFails, RestUnwatched, Closes, Publishes, Refuses, Unprinted, Unwatched, Batch, history, calls, records, desk_calls, vault_calls}
use Rattle.ob_conduct.specs.Acts.{look_calls, rest_calls, rest_fetches, close_calls, publish_calls, stop_calls, stop_for, MayAct, PassesTest, MayRest, IsToFetch, IsToEnd, IsAllowed}
use Rattle.ob_conduct.specs.Scenes.{Scene, scene}
use Rattle.ob_conduct.specs.Records.{AreAnswered, IsOver, IsWritten}
use Rattle.ob_conduct.specs.Ready.{IsBetweenActs, IsOrdered, TellsEpochs, IsDueRecord}
use Rattle.ob_conduct.specs.Moves.{Moves, ReadsBatches, ReadFails, HaltsUnwatched, HeedsWatch, ReadsUnwatched, BatchStops, RestStops, IsClosed, IsEnded, EndFails, Acted, IsSaid, ActFails}
use Rattle.ob_conduct.proofs.Moving.{moves_join, moves_one, looked, later}
use Rattle.ob_conduct.proofs.Batches.{halts}

-- ---- nothing told, and one record

pub tells_none : (epoch next : ℕ) → next ≡ epoch → TellsEpochs epoch next [] []
tells_none epoch next is = record { counted = is ∙ none epoch; numbered = refl; ordered = All-nil _; written = tt }
  where
    none : (n : ℕ) → n ≡ n + 0
    none n = omega arith

pub tells_one : (epoch next : ℕ) (writes : List (ℕ × Option (List ℕ))) (told : EpochRecord ℕ) → IsDueRecord epoch writes told → next ≡ suc epoch → TellsEpochs epoch next (writes ∷ []) (told ∷ [])
tells_one epoch next writes told due is = record {
  counted = is ∙ one epoch;
  numbered = ap (λ n. n ∷ []) due.epoch_is;
  ordered = All-cons IsOrdered told [] due.ordered (All-nil _);
  written = (due.makes, tt);
}
  where
    one : (n : ℕ) → suc n ≡ n + 1
    one n = omega arith

-- the same calls and records by other lists
told_by : (epoch next : ℕ) (ws vs : List (List (ℕ × Option (List ℕ)))) (rs qs : List (EpochRecord ℕ)) → ws ≡ vs → rs ≡ qs → TellsEpochs epoch next vs qs → TellsEpochs epoch next ws rs
told_by epoch next ws vs rs qs writes same t = subst (λ (xs : List (List (ℕ × Option (List ℕ)))). TellsEpochs epoch next xs rs) (sym writes) (subst (λ (ys : List (EpochRecord ℕ)). TellsEpochs epoch next vs ys) (sym same) t)

append_none : (b : Option (List ℕ)) → b ≡ appended b []
append_none None = refl
append_none (Some b) = ap Some (sym (append-nil b))

pub written_none : (f : Flow) → IsWritten [] f f
written_none f = record { bytes = append_none f.bytes; later = omega arith }

pub printed_whole : (text : List ℕ) (before after : Flow) → IsWritten text before after → IsPrinted before after text
printed_whole text before after w = record { count = length text; within = omega arith; written = w.bytes ∙ ap (appended before.bytes) (sym (take_all (length text) text (omega arith))); whole = inl refl }

pub one_text : (told : EpochRecord ℕ) → record_text decimal told ≡ report decimal (told ∷ [])
one_text told = sym (append-nil (record_text decimal told))

-- no records, no lines
silent_written : (rs : List (EpochRecord ℕ)) (f : Flow) → rs ≡ [] → IsWritten (report decimal rs) f f
silent_written rs f none = subst (λ (xs : List (EpochRecord ℕ)). IsWritten (report decimal xs) f f) (sym none) (written_none f)

silent_printed : (rs : List (EpochRecord ℕ)) (f : Flow) → rs ≡ [] → IsPrinted f f (report decimal rs)
silent_printed rs f none = printed_whole (report decimal rs) f f (silent_written rs f none)

-- ---- batches tell nothing, and end nothing

pub published_rest : (batches : List Batch) (more also : List (Call × Reply)) → published ((rest_calls batches ++ more) ++ also) ≡ published (more ++ also)
published_rest [] more also = refl
published_rest (batch ∷ batches) more also = published_rest batches more also

pub ended_rest : (batches : List Batch) (more : List (VaultCall × VaultAnswer)) → ended_of (rest_fetches batches ++ more) ≡ ended_of more
ended_rest [] more = refl
ended_rest (batch ∷ batches) more = ended_rest batches more

ended_rest_then : (batches : List Batch) (more also : List (VaultCall × VaultAnswer)) → ended_of ((rest_fetches batches ++ more) ++ also) ≡ ended_of (more ++ also)
ended_rest_then [] more also = refl
ended_rest_then (batch ∷ batches) more also = ended_rest_then batches more also

pub answered_rest : (batches : List Batch) (more : List (VaultCall × VaultAnswer)) → AreAnswered more → AreAnswered (rest_fetches batches ++ more)
answered_rest [] more are = are
answered_rest (batch ∷ batches) more are = answered_rest batches more are

-- nor do they say anything for a client
quiet_rest : (c : ℕ) (batches : List Batch) (more also : List (Call × Reply)) → said_by c ((rest_calls batches ++ more) ++ also) ≡ said_by c (more ++ also)
quiet_rest c [] more also = refl
quiet_rest c (batch ∷ batches) more also = quiet_rest c batches more also

quiet_stop : (c : ℕ) (writes : List (ℕ × Option (List ℕ))) (refused : EndErr) → said_by c (close_calls writes ++ (stop_for refused, desk.Done) ∷ []) ≡ []
quiet_stop c writes (Before fault) = refl
quiet_stop c writes (Unsure fault) = refl

pub refused_ends : (writes : List (ℕ × Option (List ℕ))) (refused : EndErr) → ended_of ((End writes, end_answer (Err refused)) ∷ []) ≡ []
refused_ends writes (Before fault) = refl
refused_ends writes (Unsure fault) = refl

-- for each answer
pub on_ok : {T E : Type 0} (result : Result T E) (P Q : Type 0) → (P → Q) → OnOk result P → OnOk result Q
on_ok (Ok x) P Q so holds = so holds
on_ok (Err e) P Q so holds = tt

pub if_err : {T E : Type 0} (result : Result T E) (P Q : E → Type 0) → ((e : E) → P e → Q e) → IfErr result P → IfErr result Q
if_err (Ok x) P Q so holds = tt
if_err (Err e) P Q so holds = so e holds

-- ---- one act, and two

module _ (beat : BeatKind) where
  all_one : (x : Act) → IsAllowed beat x → All (IsAllowed beat) (x ∷ [])
  all_one x one = All-cons (IsAllowed beat) x [] one (All-nil _)

  all_two : (x y : Act) → IsAllowed beat x → IsAllowed beat y → All (IsAllowed beat) (x ∷ y ∷ [])
  all_two x y one two = All-cons (IsAllowed beat) x (y ∷ []) one (all_one y two)

  all_three : (x y z : Act) → IsAllowed beat x → IsAllowed beat y → IsAllowed beat z → All (IsAllowed beat) (x ∷ y ∷ z ∷ [])
  all_three x y z one two three = All-cons (IsAllowed beat) x (y ∷ z ∷ []) one (all_two y z two three)

module _ {V : Type 0} (k : Kind V) where
  one_act : (a b : Scene V) (x : Act) → Moves k a (desk_calls x) (vault_calls x) b → Moves k a (history (x ∷ [])) (calls (x ∷ [])) b
  one_act a b x m = subst (λ (steps : List (Call × Reply)). Moves k a steps (calls (x ∷ [])) b) (sym (append-nil (desk_calls x)))
      (subst (λ (asked : List (VaultCall × VaultAnswer)). Moves k a (desk_calls x) asked b) (sym (append-nil (vault_calls x))) m)

  two_acts : (a b c : Scene V) (x y : Act) → Moves k a (desk_calls x) (vault_calls x) b → Moves k b (desk_calls y) (vault_calls y) c → Moves k a (history (x ∷ y ∷ [])) (calls (x ∷ y ∷ [])) c
  two_acts a b c x y m n = moves_join k a b c (desk_calls x) (history (y ∷ [])) (vault_calls x) (calls (y ∷ [])) m (one_act b c y n)

  three_acts : (a b c d : Scene V) (x y z : Act) → Moves k a (desk_calls x) (vault_calls x) b → Moves k b (desk_calls y) (vault_calls y) c → Moves k c (desk_calls z) (vault_calls z) d → Moves k a (history (x ∷ y ∷ z ∷ [])) (calls (x ∷ y ∷ z ∷ [])) d
  three_acts a b c d x y z m n o = moves_join k a b d (desk_calls x) (history (y ∷ z ∷ [])) (vault_calls x) (calls (y ∷ z ∷ [])) m (two_acts b c d y z n o)

-- ---- what is done at a look

none_of_length : {A : Type 0} (xs : List A) → length xs ≡ 0 → xs ≡ []
none_of_length [] is = refl
none_of_length (x ∷ xs) is = absurd (omega (arith, is))

-- a look that shows that nothing is left
pub over_desk : (d : DeskState) (look : Look) → d.closed ≡ None → d.stop ≡ None → look ≡ look_at d → (look.clients ≡ 0) × (look.txns ≡ 0) → IsOver d
over_desk d look closed none seen last = record {
  at_rest = record { none_runs = none_of_length d.running.order.works (sym (ap (λ (l : Look). l.txns) seen) ∙ last.1); none_closed = closed; not_stopped = none };
  signed_off = sym (ap (λ (l : Look). l.clients) seen) ∙ last.0;
}

-- nothing is to be done at a look that isn't the last one
pub still : (beat : BeatKind) (look : Look) → (look.clients ≡ 0 → 0 < look.txns) → (look.queued ≡ 0) ⊎ (look.left ≡ 0) → look.txns ≡ 0 → MayRest beat look
still beat look not_over idle none = by look.clients refl
  where
    by : (n : ℕ) → look.clients ≡ n → MayRest beat look
    by zero is = let some = not_over is in absurd (omega (arith, some, none))
    by (suc n) is = inr (omega (arith, is), λ exact passed. (idle, none))

-- and where an exact beat doesn't act
pub undue : (beat : BeatKind) (look : Look) → 0 < look.clients → (beat.exact ≡ true → PassesTest beat look → ⊥) → MayRest beat look
undue beat look some not = inr (some, λ exact passed. absurd (not exact passed))

module _ {V : Type 0} (k : Kind V) (p : Params) (beat : BeatKind) (a : Scene V) (c : VaultCounts) (before : Flow) (look : Look) (r : IsBetweenActs p a.desk c) (none : a.desk.stop ≡ None) (seen : look ≡ look_at a.desk) where
  look_moves : Moves k a (look_calls look) [] a
  look_moves = looked k a look r.none_closed none seen

  abbrev epoch : ℕ
  epoch = a.desk.running.epoch

  -- nothing was done
  pub rested : MayRest beat look → a.trace.broken ≡ false → Acted k p beat a before a c before
  rested may whole = record {
    thing = Rests look ∷ [];
    one = tt;
    allowed = all_one beat (Rests look) may;
    moves = one_act k a a (Rests look) look_moves;
    driven = tt;
    quiet = λ client. refl;
    ready = r;
    answered = tt;
    told = tells_none epoch epoch refl;
    written = written_none before;
    whole = whole;
  }

  -- a batch was fetched
  pub fetched : (new : Scene V) (next : VaultCounts) (batch : Batch) → MayAct beat look → IsToFetch look → ReadsBatches k p a (batch ∷ []) new next → new.trace.broken ≡ false → Acted k p beat a before new next before
  fetched new next batch may fetch read whole = record {
    thing = Takes look batch.keys ∷ Delivers batch ∷ [];
    one = refl;
    allowed = all_two beat (Takes look batch.keys) (Delivers batch) (may, fetch) tt;
    moves = moves_join k a a new (look_calls look) (rest_calls (batch ∷ [])) [] (rest_fetches (batch ∷ [])) look_moves read.moves;
    driven = tt;
    quiet = λ client. refl;
    ready = read.ready;
    answered = tt;
    told = tells_none epoch new.desk.running.epoch read.same_epoch;
    written = written_none before;
    whole = whole;
  }

  -- the vault refused it
  pub unfetched : (new : Scene V) (fault : Fault) → MayAct beat look → IsToFetch look → ReadFails k a [] fault new → ActFails k beat a before (failed.Fault fault) new before
  unfetched new fault may fetch f = record {
    thing = Takes look f.keys ∷ DeliverFails f.keys fault ∷ [];
    one = refl;
    allowed = all_two beat (Takes look f.keys) (DeliverFails f.keys fault) (may, fetch) tt;
    moves = moves_join k a a new (look_calls look) ((desk.TakeBatch, desk.Batch f.keys) ∷ stop_calls fault) [] ((Fetch f.keys, RefusedBy fault) ∷ []) look_moves f.moves;
    driven = tt;
    quiet = λ client. refl;
    next = epoch;
    told = tells_none epoch epoch refl;
    printed = silent_printed [] before refl;
    failure = record {
      front = Takes look f.keys ∷ [];
      act = DeliverFails f.keys fault;
      behind = [];
      acts_are = refl;
      says = All-nil IsSaid;
      answered = tt;
      told = refl;
      reason = f.is_fault;
      cause = f.cause;
      stopped = inl f.stopped;
      lines = written_none before;
    };
  }

  -- the watch broke in it
  pub unwatched : (new : Scene V) (batch : Batch) → MayAct beat look → IsToFetch look → ReadsUnwatched k p a (batch ∷ []) new → ActFails k beat a before failed.Unwatched new before
  unwatched new batch may fetch u = record {
    thing = Takes look batch.keys ∷ Delivers batch ∷ Unwatched ∷ [];
    one = refl;
    allowed = all_three beat (Takes look batch.keys) (Delivers batch) Unwatched (may, fetch) tt tt;
    moves = moves_join k a a new (look_calls look) (rest_calls (batch ∷ []) ++ stop_calls SinkFault) [] (rest_fetches (batch ∷ [])) look_moves
        (moves_join k a u.mid new (rest_calls (batch ∷ [])) (stop_calls SinkFault) (rest_fetches (batch ∷ [])) [] u.read.moves u.halts.moves);
    driven = tt;
    quiet = λ client. refl;
    next = epoch;
    told = tells_none epoch epoch refl;
    printed = silent_printed [] before refl;
    failure = record {
      front = Takes look batch.keys ∷ Delivers batch ∷ [];
      act = Unwatched;
      behind = [];
      acts_are = refl;
      says = All-nil IsSaid;
      answered = tt;
      told = refl;
      reason = u.halts.broken;
      cause = λ store. absurd store;
      stopped = inl u.halts.stopped;
      lines = written_none before;
    };
  }

  -- one of those two
  pub unbatched : (new : Scene V) (err : RunErr) → MayAct beat look → IsToFetch look → BatchStops k p a err new → ActFails k beat a before err new before
  unbatched new (failed.Fault fault) may fetch stops = unfetched new fault may fetch stops
  unbatched new failed.Unwatched may fetch (batch, u) = unwatched new batch may fetch u

  -- one of those before a close
  pub unread : (new : Scene V) (batches : List Batch) (fault : Fault) → MayAct beat look → IsToEnd look → ReadFails k a batches fault new → ActFails k beat a before (failed.Fault fault) new before
  unread new batches fault may end f = record {
    thing = act ∷ [];
    one = tt;
    allowed = all_one beat act (may, end);
    moves = one_act k a new act (moves_join k a a new (look_calls look) (rest_calls batches ++ (desk.TakeBatch, desk.Batch f.keys) ∷ stop_calls fault) [] (rest_fetches batches ++ (Fetch f.keys, RefusedBy fault) ∷ []) look_moves f.moves);
    driven = tt;
    quiet = λ client. quiet_rest client batches ((desk.TakeBatch, desk.Batch f.keys) ∷ stop_calls fault) [];
    next = epoch;
    told = told_by epoch epoch (ended_of (calls (act ∷ []))) [] (records (act ∷ [])) [] (ended_rest_then batches ((Fetch f.keys, RefusedBy fault) ∷ []) []) tells (tells_none epoch epoch refl);
    printed = silent_printed (records (act ∷ [])) before tells;
    failure = record {
      front = [];
      act = act;
      behind = [];
      acts_are = refl;
      says = All-nil IsSaid;
      answered = tt;
      told = refl;
      reason = f.is_fault;
      cause = f.cause;
      stopped = inl f.stopped;
      lines = silent_written (records (act ∷ [])) before tells;
    };
  }
    where
      act : Act
      act = FetchFails look batches f.keys fault

      tells : records (FetchFails look batches f.keys fault ∷ []) ≡ []
      tells = published_rest batches ((desk.TakeBatch, desk.Batch f.keys) ∷ stop_calls fault) []

  -- the watch broke in one of them
  pub unwatched_rest : (new : Scene V) (batches : List Batch) → MayAct beat look → IsToEnd look → ReadsUnwatched k p a batches new → ActFails k beat a before failed.Unwatched new before
  unwatched_rest new batches may end u = record {
    thing = act ∷ [];
    one = tt;
    allowed = all_one beat act (may, end);
    moves = one_act k a new act (subst (λ (asked : List (VaultCall × VaultAnswer)). Moves k a (desk_calls act) asked new) (append-nil (rest_fetches batches))
        (moves_join k a a new (look_calls look) (rest_calls batches ++ stop_calls SinkFault) [] (rest_fetches batches ++ []) look_moves
        (moves_join k a u.mid new (rest_calls batches) (stop_calls SinkFault) (rest_fetches batches) [] u.read.moves u.halts.moves)));
    driven = tt;
    quiet = λ client. quiet_rest client batches (stop_calls SinkFault) [];
    next = epoch;
    told = told_by epoch epoch (ended_of (calls (act ∷ []))) [] (records (act ∷ [])) [] (ended_rest batches []) tells (tells_none epoch epoch refl);
    printed = silent_printed (records (act ∷ [])) before tells;
    failure = record {
      front = [];
      act = act;
      behind = [];
      acts_are = refl;
      says = All-nil IsSaid;
      answered = tt;
      told = refl;
      reason = u.halts.broken;
      cause = λ store. absurd store;
      stopped = inl u.halts.stopped;
      lines = silent_written (records (act ∷ [])) before tells;
    };
  }
    where
      act : Act
      act = RestUnwatched look batches

      tells : records (RestUnwatched look batches ∷ []) ≡ []
      tells = published_rest batches (stop_calls SinkFault) []

  -- one of those two
  pub unrested : (new : Scene V) (err : RunErr) → MayAct beat look → IsToEnd look → RestStops k p a err new → ActFails k beat a before err new before
  unrested new (failed.Fault fault) may end (batches, f) = unread new batches fault may end f
  unrested new failed.Unwatched may end (batches, u) = unwatched_rest new batches may end u

  module _ (batches : List Batch) (mid : Scene V) (counts : VaultCounts) (read : ReadsBatches k p a batches mid counts) (may : MayAct beat look) (end : IsToEnd look) where
    -- the epoch was closed
    closing : (writes : List (ℕ × Option (List ℕ))) (shut : Scene V) → IsClosed k mid writes shut → Moves k a (desk_calls (Closes look batches writes)) (rest_fetches batches) shut
    closing writes shut closed = subst (λ (asked : List (VaultCall × VaultAnswer)). Moves k a (desk_calls (Closes look batches writes)) asked shut) (append-nil (rest_fetches batches))
        (moves_join k a a shut (look_calls look) (rest_calls batches ++ close_calls writes) [] (rest_fetches batches ++ []) look_moves
        (moves_join k a mid shut (rest_calls batches) (close_calls writes) (rest_fetches batches) [] read.moves closed.moves))

    due_here : (writes : List (ℕ × Option (List ℕ))) (told : EpochRecord ℕ) → IsDueRecord mid.desk.running.epoch writes told → IsDueRecord epoch writes told
    due_here writes told due = subst (λ n. IsDueRecord n writes told) read.same_epoch due

    -- it was ended, and its lines were written
    pub ended : (new : Scene V) (next : VaultCounts) (after : Flow) (told : EpochRecord ℕ) → IsEnded k p mid told new next → IsWritten (record_text decimal told) before after → new.trace.broken ≡ false → Acted k p beat a before new next after
    ended new next after told e written whole = record {
      thing = thing;
      one = refl;
      allowed = all_two beat (Closes look batches e.writes) (Publishes e.writes e.left told) (may, end) tt;
      moves = two_acts k a e.mid new (Closes look batches e.writes) (Publishes e.writes e.left told) (closing e.writes e.mid e.closed) e.moves;
      driven = tt;
      quiet = λ client. quiet_rest client batches (close_calls e.writes) (publish_calls e.left told);
      ready = e.ready;
      answered = answered_rest batches ((End e.writes, Ended) ∷ []) tt;
      told = told_by epoch new.desk.running.epoch (ended_of (calls thing)) (e.writes ∷ []) (records thing) (told ∷ []) (ended_rest batches ((End e.writes, Ended) ∷ [])) tells
          (tells_one epoch new.desk.running.epoch e.writes told (due_here e.writes told e.due) (e.next_epoch ∙ ap suc read.same_epoch));
      written = subst (λ (rs : List (EpochRecord ℕ)). IsWritten (report decimal rs) before after) (sym tells) (subst (λ text. IsWritten text before after) (one_text told) written);
      whole = whole;
    }
      where
        thing : List Act
        thing = Closes look batches e.writes ∷ Publishes e.writes e.left told ∷ []

        tells : records (Closes look batches e.writes ∷ Publishes e.writes e.left told ∷ []) ≡ told ∷ []
        tells = published_rest batches (close_calls e.writes) (publish_calls e.left told)

    -- its end was refused, or left in doubt
    pub unended : (new : Scene V) (fault : Fault) → EndFails k mid fault new → ActFails k beat a before (failed.Fault fault) new before
    unended new fault e = record {
      thing = thing;
      one = refl;
      allowed = all_two beat (Closes look batches e.writes) (Refuses e.writes e.refused) (may, end) tt;
      moves = two_acts k a e.mid new (Closes look batches e.writes) (Refuses e.writes e.refused) (closing e.writes e.mid e.closed) e.moves;
      driven = tt;
      quiet = λ client. quiet_rest client batches (close_calls e.writes) stop ∙ quiet_stop client e.writes e.refused;
      next = epoch;
      told = told_by epoch epoch (ended_of (calls thing)) [] (records thing) [] (ended_rest batches ((End e.writes, end_answer (Err e.refused)) ∷ []) ∙ refused_ends e.writes e.refused) tells (tells_none epoch epoch refl);
      printed = silent_printed (records thing) before tells;
      failure = record {
        front = Closes look batches e.writes ∷ [];
        act = Refuses e.writes e.refused;
        behind = [];
        acts_are = refl;
        says = All-nil IsSaid;
        answered = answered_rest batches [] tt;
        told = ap (λ (f : Fault). Some (failed.Fault f)) (sym e.fault_is);
        reason = record {
          mid = e.mid;
          moves = one_act k a e.mid (Closes look batches e.writes) (closing e.writes e.mid e.closed);
          closed = e.closed.part;
          is_closed = e.closed.is_closed;
          due = subst (λ n. IsDueRecord n e.writes (record_of e.closed.part)) here e.closed.due;
          is_fault = subst (λ n. IsEndFault n e.refused) here e.is_fault;
        };
        cause = λ store. rose_later (k.disk a.vault).faults (k.disk mid.vault).faults (k.disk new.vault).faults (later k a mid (rest_calls batches) (rest_fetches batches) read.moves) (e.cause store);
        stopped = inl e.stopped;
        lines = silent_written (records thing) before tells;
      };
    }
      where
        stop : List (Call × Reply)
        stop = (stop_for e.refused, desk.Done) ∷ []

        thing : List Act
        thing = Closes look batches e.writes ∷ Refuses e.writes e.refused ∷ []

        tells : records (Closes look batches e.writes ∷ Refuses e.writes e.refused ∷ []) ≡ []
        tells = published_rest batches (close_calls e.writes) ((stop_for e.refused, desk.Done) ∷ [])

        none_yet : (n : ℕ) → n ≡ n + length {A = EpochRecord ℕ} []
        none_yet n = omega arith

        here : mid.desk.running.epoch ≡ epoch + length (records (Closes look batches e.writes ∷ []))
        here = read.same_epoch ∙ none_yet epoch ∙ ap (λ (rs : List (EpochRecord ℕ)). epoch + length rs) (sym (published_rest batches (close_calls e.writes) []))

    -- the output failed behind the publish
    pub unwritten : (shut new : Scene V) (next : VaultCounts) (after : Flow) (told : EpochRecord ℕ) → IsEnded k p mid told shut next → Moves k shut (stop_calls SinkFault) [] new → new.desk.stop ≡ Some SinkFault
        → IsPrinted before after (record_text decimal told) → Rose before.faults after.faults → ActFails k beat a before (failed.Fault SinkFault) new after
    unwritten shut new next after told e halt stopped printed rose = record {
      thing = thing;
      one = refl;
      allowed = all_three beat (Closes look batches e.writes) (Publishes e.writes e.left told) Unprinted (may, end) tt tt;
      moves = three_acts k a e.mid shut new (Closes look batches e.writes) (Publishes e.writes e.left told) Unprinted (closing e.writes e.mid e.closed) e.moves halt;
      driven = tt;
      quiet = λ client. quiet_rest client batches (close_calls e.writes) (publish_calls e.left told ++ stop_calls SinkFault);
      next = suc epoch;
      told = told_by epoch (suc epoch) (ended_of (calls thing)) (e.writes ∷ []) (records thing) (told ∷ []) (ended_rest batches ((End e.writes, Ended) ∷ [])) tells
          (tells_one epoch (suc epoch) e.writes told (due_here e.writes told e.due) refl);
      printed = subst (λ (rs : List (EpochRecord ℕ)). IsPrinted before after (report decimal rs)) (sym tells) (subst (IsPrinted before after) (one_text told) printed);
      failure = record {
        front = Closes look batches e.writes ∷ Publishes e.writes e.left told ∷ [];
        act = Unprinted;
        behind = [];
        acts_are = refl;
        says = All-nil IsSaid;
        answered = answered_rest batches ((End e.writes, Ended) ∷ []) tt;
        told = refl;
        reason = tt;
        cause = λ store. absurd store;
        stopped = inl stopped;
        lines = record { whole = []; last = told; told_are = tells; mid = before; written = written_none before; printed = printed; rose = rose };
      };
    }
      where
        thing : List Act
        thing = Closes look batches e.writes ∷ Publishes e.writes e.left told ∷ Unprinted ∷ []

        tells : records (Closes look batches e.writes ∷ Publishes e.writes e.left told ∷ Unprinted ∷ []) ≡ told ∷ []
        tells = published_rest batches (close_calls e.writes) (publish_calls e.left told ++ stop_calls SinkFault)

    -- its lines were written, but the watch had broken in it
    pub ended_unwatched : (shut new : Scene V) (next : VaultCounts) (after : Flow) (told : EpochRecord ℕ) → IsEnded k p mid told shut next → HaltsUnwatched k shut new → IsWritten (record_text decimal told) before after → ActFails k beat a before failed.Unwatched new after
    ended_unwatched shut new next after told e halt written = record {
      thing = thing;
      one = refl;
      allowed = all_three beat (Closes look batches e.writes) (Publishes e.writes e.left told) Unwatched (may, end) tt tt;
      moves = three_acts k a e.mid shut new (Closes look batches e.writes) (Publishes e.writes e.left told) Unwatched (closing e.writes e.mid e.closed) e.moves halt.moves;
      driven = tt;
      quiet = λ client. quiet_rest client batches (close_calls e.writes) (publish_calls e.left told ++ stop_calls SinkFault);
      next = suc epoch;
      told = told_by epoch (suc epoch) (ended_of (calls thing)) (e.writes ∷ []) (records thing) (told ∷ []) (ended_rest batches ((End e.writes, Ended) ∷ [])) tells
          (tells_one epoch (suc epoch) e.writes told (due_here e.writes told e.due) refl);
      printed = printed_whole (report decimal (records thing)) before after lines;
      failure = record {
        front = Closes look batches e.writes ∷ Publishes e.writes e.left told ∷ [];
        act = Unwatched;
        behind = [];
        acts_are = refl;
        says = All-nil IsSaid;
        answered = answered_rest batches ((End e.writes, Ended) ∷ []) tt;
        told = refl;
        reason = halt.broken;
        cause = λ store. absurd store;
        stopped = inl halt.stopped;
        lines = lines;
      };
    }
      where
        thing : List Act
        thing = Closes look batches e.writes ∷ Publishes e.writes e.left told ∷ Unwatched ∷ []

        tells : records (Closes look batches e.writes ∷ Publishes e.writes e.left told ∷ Unwatched ∷ []) ≡ told ∷ []
        tells = published_rest batches (close_calls e.writes) (publish_calls e.left told ++ stop_calls SinkFault)

        lines : IsWritten (report decimal (records thing)) before after
        lines = subst (λ (rs : List (EpochRecord ℕ)). IsWritten (report decimal rs) before after) (sym tells) (subst (λ text. IsWritten text before after) (one_text told) written)

    -- by a look at the watch
    module _ (d new : DeskState) (w : V) (t : Trace) (next : VaultCounts) (after : Flow) (told : EpochRecord ℕ) (e : IsEnded k p mid told (scene d w t) next) (written : IsWritten (record_text decimal told) before after) where
      pub heeded_end : (result : Result (Unit {0}) RunErr) → HeedsWatch d new t result → OnOk result (Acted k p beat a before (scene new w t) next after)
      heeded_end (Ok done) (whole, same) = subst (λ (x : DeskState). Acted k p beat a before (scene x w t) next after) (sym same) (ended (scene d w t) next after told e written whole)
      heeded_end (Err err) heeds = tt

      pub heeded_fails : (result : Result (Unit {0}) RunErr) → d.stop ≡ None → HeedsWatch d new t result → IfErr result (λ err. ActFails k beat a before err (scene new w t) after)
      heeded_fails (Ok done) none heeds = tt
      heeded_fails (Err (failed.Fault fault)) none heeds = absurd heeds
      heeded_fails (Err failed.Unwatched) none (broken, stop) = ended_unwatched (scene d w t) (scene new w t) next after told e (halts k p d new w t none broken stop) written

-- the desk was found stopped: by a client that found no memory
stop_memory : (a : Option Fault) (fault : Fault) → a ≡ Some fault → (a ≡ None) ⊎ (a ≡ Some Memory) → fault ≡ Memory
stop_memory a fault is (inl none) = absurd (none-some fault (sym none ∙ is))
stop_memory a fault is (inr memory) = same_Some fault Memory (sym is ∙ memory)

pub halted : {V : Type 0} (k : Kind V) (p : Params) (beat : BeatKind) (a : Scene V) (c : VaultCounts) (before : Flow) (fault : Fault) → IsBetweenActs p a.desk c → a.desk.stop ≡ Some fault → ActFails k beat a before (failed.Fault fault) a before
halted k p beat a c before fault r is = let memory : fault ≡ Memory = stop_memory a.desk.stop fault is r.stop in record {
  thing = Halts fault ∷ [];
  one = tt;
  allowed = all_one beat (Halts fault) tt;
  moves = moves_one k a.desk a.desk a.vault a.trace desk.IsStopped (desk.StoppedBy (Some fault)) tt (sym is, refl) (λ m. (tt, refl));
  driven = tt;
  quiet = λ client. refl;
  next = a.desk.running.epoch;
  told = tells_none a.desk.running.epoch a.desk.running.epoch refl;
  printed = silent_printed [] before refl;
  failure = record {
    front = [];
    act = Halts fault;
    behind = [];
    acts_are = refl;
    says = All-nil IsSaid;
    answered = tt;
    told = refl;
    reason = memory;
    cause = λ store. absurd (subst (λ (f : Fault). IsStoreFault f) memory store);
    stopped = inl is;
    lines = written_none before;
  };
}
