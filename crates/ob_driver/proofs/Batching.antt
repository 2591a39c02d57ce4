-- A batch that was taken in one turn, read, and delivered or refused in another.
use Rattle.std.proofs.Common.{◌≡◌, ◌∙◌, ◌≤◌, ◌-◌, ℕ, zero, suc, false, All, List, [], ◌∷◌, ◌++◌, length, map, replicate, take, Option, None, Some, refl, sym, ap, subst, append-nil, append_assoc}
use Rattle.std.proofs.lemmas.List.Elements.{All-nil, All-cons, All-append}
use Rattle.ob_base.specs.Causes.{Rose}
use Rattle.ob_base.specs.declared.fault.Fault.{Fault}
use Rattle.ob_io.specs.Streams.{Flow}
use Rattle.ob_store.specs.Calls.{IsStoreFault}
use Rattle.ob_store.specs.Lines.{Trace}
use Rattle.ob_serial.specs.Vaults.{Fetch, Values, RefusedBy, VaultCounts, counts_next}
use Rattle.ob_serial.specs.VaultViews.{IsFetchFault}
use Rattle.ob_serial.specs.VaultKinds.{Kind}
use Rattle.ob_order.proofs.Batches.{taken_in_flight}
use Rattle.ob_desk.specs.Desk as desk
use Rattle.ob_desk.specs.Desk.{DeskState, Call, Reply, MayCall, TakeStep}
use Rattle.ob_desk.specs.declared.calls.Look.{Look}
use Rattle.ob_desk.specs.Beats.{BeatKind}
use Rattle.ob_turn.specs.declared.turn.Entry.{Entry}
use Rattle.ob_turn.specs.declared.bell.Heard.{Heard}
use Rattle.ob_turn.specs.BellHistory.{latest}
use Rattle.atomic_table.specs.declared.shared.Seat.{Seat}
use Rattle.ob_hall.specs.Passes.{Steps, Hall, Pass, entries_by, own_calls, raised_by, may_raise, IsPassOf, IsOutOfTurn, opening_of}
use Rattle.ob_hall.specs.Rounds.{Rounds, rounds_of, keys_in, rounds_after, rounds_behind}
use Rattle.ob_conduct.specs.declared.run_err.RunErr.TheVariants as failed
use Rattle.ob_conduct.specs.Acts.{Takes, Delivers, DeliverFails, Batch, look_calls, MayAct, IsToFetch, IsAllowed}
use Rattle.ob_conduct.specs.Scenes.{Watched}
use Rattle.ob_conduct.proofs.Acting.{tells_none, written_none}
use Rattle.ob_driver.specs.declared.round.Round.TheVariants.{Acted}
use Rattle.ob_driver.specs.Resting.{params_of, IsMild, rounds_by, resting, fetching, noted_by, IsDriver, IsOut}
use Rattle.ob_driver.specs.Turning.{MakesTurn}
use Rattle.ob_driver.specs.Inside.{IsLooking}
use Rattle.ob_driver.specs.Driven.{side, Acts, DoneOnce, FailsOnce}
use Rattle.ob_driver.proofs.Sound.{mild_one, mild_look}
use Rattle.ob_driver.proofs.Turning.{calls_longer}

pub behind-append : (batches : ℕ) (r : Rounds) (xs ys : Steps) → rounds_behind batches r (xs ++ ys) ≡ rounds_behind batches (rounds_behind batches r xs) ys
behind-append batches r [] ys = refl
behind-append batches r (x ∷ xs) ys = behind-append batches (rounds_after batches r x.0 x.1) xs ys

keys_of_batch : (keys : List ℕ) (pads : ℕ) → keys_in (map Some keys ++ replicate pads None) ≡ keys
keys_of_batch [] zero = refl
keys_of_batch [] (suc pads) = keys_of_batch [] pads
keys_of_batch (k ∷ keys) pads = ap (λ (l : List ℕ). k ∷ l) (keys_of_batch keys pads)

-- ---- how far the pass has come behind a turn

module _ (hall : Hall) (before after : Pass) (calls : Steps) (made : MakesTurn before after calls) where
  pub rounds_later : (r : Rounds) → rounds_by hall before ≡ r → rounds_by hall after ≡ rounds_behind (params_of hall).batches r calls
  rounds_later r is = ap (rounds_behind (params_of hall).batches (rounds_of (opening_of hall))) (calls_longer before after calls made)
      ∙ (behind-append (params_of hall).batches (rounds_of (opening_of hall)) (own_calls before) calls
      ∙ ap (λ (q : Rounds). rounds_behind (params_of hall).batches q calls) is)

  pub driver_later : IsDriver hall before → IsPassOf hall after → may_raise after ≡ may_raise before → All IsMild calls → IsDriver hall after
  driver_later d own raises mild = record {
    own = own;
    place = made.place ∙ d.place;
    raises = raises ∙ d.raises;
    mild = subst (All IsMild) (sym (calls_longer before after calls made)) (All-append IsMild (own_calls before) calls d.mild mild);
  }

pub same_raises : (before after : Pass) → after.ear ≡ before.ear → may_raise after ≡ may_raise before
same_raises before after ear = ap (λ (e : Seat (Unit {0}) Heard). e.me.0.raises) ear

look_mild : (look : Look) (keys : List (Option ℕ)) → All IsMild (look_calls look ++ (desk.TakeBatch, desk.Batch keys) ∷ [])
look_mild look keys = mild_look look ((desk.TakeBatch, desk.Batch keys) ∷ []) (mild_one desk.TakeBatch (desk.Batch keys) tt)

module _ (hall : Hall) (before taken : Pass) (d mid : DeskState) (c : VaultCounts) (look : Look) (keys : List (Option ℕ)) (l : IsLooking hall before d c) (noted : noted_by before ≡ look_calls look) (took : TakeStep d keys mid)
    (first : MakesTurn before taken (noted_by before ++ (desk.TakeBatch, desk.Batch keys) ∷ [])) (own : IsPassOf hall taken) (ear : taken.ear ≡ before.ear) where
  abbrev calls : Steps
  calls = look_calls look ++ (desk.TakeBatch, desk.Batch keys) ∷ []

  turn : MakesTurn before taken calls
  turn = subst (λ (n : Steps). MakesTurn before taken (n ++ (desk.TakeBatch, desk.Batch keys) ∷ [])) noted first

  pub taken_driver : IsDriver hall taken
  taken_driver = driver_later hall before taken calls turn l.at.driver own (same_raises before taken ear) (look_mild look keys)

  pub taken_rounds : rounds_by hall taken ≡ fetching c (keys_in keys)
  taken_rounds = rounds_later hall before taken calls turn (resting c) l.at.rounds

-- the batch is out
pub batch_is_out : (hall : Hall) (before taken : Pass) (d mid : DeskState) (c : VaultCounts) (look : Look) (keys : List (Option ℕ)) → IsLooking hall before d c → noted_by before ≡ look_calls look → TakeStep d keys mid
    → MakesTurn before taken (noted_by before ++ (desk.TakeBatch, desk.Batch keys) ∷ []) → IsPassOf hall taken → IsOutOfTurn taken → taken.ear ≡ before.ear → IsOut hall taken c keys
batch_is_out hall before taken d mid c look keys l noted took first own idle ear = record {
  driver = taken_driver hall before taken d mid c look keys l noted took first own ear;
  idle = idle;
  flying = flying;
  rounds = taken_rounds hall before taken d mid c look keys l noted took first own ear ∙ ap (fetching c) (ap keys_in keys_are ∙ keys_of_batch flying _);
  keys_are = keys_are;
}
  where
    flying : List ℕ
    flying = take d.setup.params.places d.running.order.queue

    keys_are : keys ≡ map Some (take d.setup.params.places d.running.order.queue) ++ replicate ((params_of hall).places - length (take d.setup.params.places d.running.order.queue)) None
    keys_are = took.taken ∙ (taken_in_flight d.setup.params d.running.order ∙ ap (λ (n : ℕ). map Some (take d.setup.params.places d.running.order.queue) ++ replicate (n - length (take d.setup.params.places d.running.order.queue)) None) (ap (λ q. q.places) l.ready.params))

-- ---- the thing that was done

pub ear_raised : (before after : Pass) → after.ear ≡ before.ear → raised_by after ≡ raised_by before ++ []
ear_raised before after ear = ap (λ (e : Seat (Unit {0}) Heard). e.me.0.seen) ear ∙ sym (append-nil (raised_by before))

two_turns : (before taken after : Pass) (xs ys : Steps) (m : MakesTurn before taken xs) (n : MakesTurn taken after ys) → entries_by after ≡ entries_by before ++ m.turn ∷ n.turn ∷ []
two_turns before taken after xs ys m n = n.made ∙ (ap (λ (es : List (Entry Steps)). es ++ n.turn ∷ []) m.made ∙ append_assoc (entries_by before) (m.turn ∷ []) (n.turn ∷ []))

module _ {V : Type 0} (k : Kind V) (beat : BeatKind) (hall : Hall) (before taken after : Pass) (d mid : DeskState) (c : VaultCounts) (look : Look) (flow : Flow) (keys : List (Option ℕ)) (l : IsLooking hall before d c) (noted : noted_by before ≡ look_calls look)
    (may : MayAct beat look) (fetch : IsToFetch look) (took : TakeStep d keys mid) (first : MakesTurn before taken (noted_by before ++ (desk.TakeBatch, desk.Batch keys) ∷ [])) (own : IsPassOf hall taken) (ear : taken.ear ≡ before.ear)
    (v w : V) (t u : Trace) where
  abbrev asked_calls : Steps
  asked_calls = look_calls look ++ (desk.TakeBatch, desk.Batch keys) ∷ []

  one : MakesTurn before taken asked_calls
  one = subst (λ (n : Steps). MakesTurn before taken (n ++ (desk.TakeBatch, desk.Batch keys) ∷ [])) noted first

  taken_now : IsDriver hall taken
  taken_now = taken_driver hall before taken d mid c look keys l noted took first own ear

  told_still : (seat : Seat (Unit {0}) Heard) → seat ≡ before.ear → latest 0 seat.me.0.seen ≤ c.epoch
  told_still seat same = subst (λ (e : Seat (Unit {0}) Heard). latest 0 e.me.0.seen ≤ c.epoch) (sym same) l.at.told

  -- it was read, and delivered
  module _ (next : VaultCounts) (values : List (Option (List ℕ))) (called : Watched k v t (Fetch keys) (Values values) w u) (counts : next ≡ counts_next (params_of hall).batches c (Fetch keys) (Values values))
      (last : MakesTurn taken after ((desk.Deliver keys values, desk.Done) ∷ [])) (same : after.ear ≡ taken.ear) (own_now : IsPassOf hall after) where
    abbrev batch : Batch
    batch = record { keys = keys; values = values }

    epoch_is : next.epoch ≡ c.epoch
    epoch_is = ap (λ (x : VaultCounts). x.epoch) counts

    pub fetched_acts : Acts k beat (side before v t flow) (side after w u flow) (Takes look keys ∷ Delivers (record { keys = keys; values = values }) ∷ [])
    fetched_acts = record {
      allowed = All-cons (IsAllowed beat) (Takes look keys) (Delivers batch ∷ []) (may, fetch) (All-cons (IsAllowed beat) (Delivers batch) [] tt (All-nil _));
      turns = one.turn ∷ last.turn ∷ [];
      made = two_turns before taken after asked_calls _ one last;
      are = (Takes look keys ∷ [], Delivers batch ∷ [], refl, tt, one.calls_are ∙ sym (append-nil asked_calls), (Delivers batch ∷ [], [], refl, tt, last.calls_are, refl));
      notes = called.one.notes;
      chain = (w, u, called, [], sym (append-nil called.one.notes), (refl, refl, refl));
      shown = called.shown;
      rung = ear_raised before after (same ∙ ear);
      place = last.place ∙ one.place;
    }

    pub fetched_driver : IsDriver hall after
    fetched_driver = driver_later hall taken after _ last taken_now own_now (same_raises taken after same) (mild_one (desk.Deliver keys values) desk.Done tt)

    pub fetched_once : u.broken ≡ false → IsOutOfTurn after → DoneOnce k beat hall (side before v t flow) c (side after w u flow) next Acted
    fetched_once whole idle = record {
      acts = Takes look keys ∷ Delivers batch ∷ [];
      one = refl;
      says = tt;
      done = record {
        acts_are = fetched_acts;
        answered = tt;
        told = tells_none (suc c.epoch) (suc next.epoch) (ap suc epoch_is);
        written = written_none flow;
        whole = whole;
        rests = record {
          at = record {
            driver = fetched_driver;
            rounds = rounds_later hall taken after _ last (fetching c (keys_in keys)) (taken_rounds hall before taken d mid c look keys l noted took first own ear) ∙ ap resting (sym counts);
            serves = ap (λ (x : VaultCounts). x.spent) counts ∙ l.at.serves;
            told = subst (λ (e : ℕ). latest 0 after.ear.me.0.seen ≤ e) (sym epoch_is) (told_still after.ear (same ∙ ear));
          };
          idle = idle;
        };
      };
    }

  pub refused_once : (fault : Fault) → Watched k v t (Fetch keys) (RefusedBy fault) w u → IsFetchFault fault → (IsStoreFault fault → Rose (k.disk v).faults (k.disk w).faults)
      → MakesTurn taken after ((desk.Stop fault, desk.Done) ∷ []) → after.ear ≡ taken.ear → IsPassOf hall after → IsOutOfTurn after → FailsOnce k beat hall (side before v t flow) c (side after w u flow) (failed.Fault fault)
  refused_once fault called is_fault cause last same own_now idle =
      let n : MakesTurn taken after ((desk.Stop fault, desk.Done) ∷ []) = last in
      record {
        acts = Takes look keys ∷ DeliverFails keys fault ∷ [];
        one = refl;
        fails = record {
          acts_are = record {
            allowed = All-cons (IsAllowed beat) (Takes look keys) (DeliverFails keys fault ∷ []) (may, fetch) (All-cons (IsAllowed beat) (DeliverFails keys fault) [] tt (All-nil _));
            turns = one.turn ∷ n.turn ∷ [];
            made = two_turns before taken after asked_calls _ one n;
            are = (Takes look keys ∷ [], DeliverFails keys fault ∷ [], refl, tt, one.calls_are ∙ sym (append-nil asked_calls), (DeliverFails keys fault ∷ [], [], refl, tt, n.calls_are, refl));
            notes = called.one.notes;
            chain = (w, u, called, [], sym (append-nil called.one.notes), (refl, refl, refl));
            shown = called.shown;
            rung = ear_raised before after (same ∙ ear);
            place = n.place ∙ one.place;
          };
          own = own_now;
          idle = idle;
          front = Takes look keys ∷ [];
          last = DeliverFails keys fault;
          ends = refl;
          answered = tt;
          fault_is = refl;
          next = suc c.epoch;
          told = tells_none (suc c.epoch) (suc c.epoch) refl;
          reason = is_fault;
          cause = cause;
          lines = written_none flow;
        };
      }
