-- What a publish, a stop and a doubt leave of the tie to one client.
use Rattle.std.proofs.Common.{◌≡◌, ℕ, ◌==◌, Bool, true, false, if◌then◌else◌, List, ◌++◌, Option, None, Some, is_some, option_map, unwrap_or, filter, refl, sym, ap, ◌∙◌, subst, inl, inr}
use Rattle.std.specs.Option.{option_or}
use Rattle.std.proofs.lemmas.Option.{none-some}
use Rattle.ob_base.specs.declared.fault.Fault.{Fault}
use Rattle.ob_serial.specs.declared.records.Why.TheVariants.{Asked, Stopped}
use Rattle.ob_serial.specs.declared.records.Outcome.{Outcome}
use Rattle.ob_serial.specs.declared.records.Outcome.TheVariants.{Committed, Aborted as AbortedBy, Unsure as UnsureOf}
use Rattle.ob_serial.specs.Serial.{TxnRecord, EpochRecord}
use Rattle.ob_desk.specs.Desk.{Part, DeskState, stop_part, outcome_in, settle, record_of, is_memory, stop_closed, stopped_by}
use Rattle.ob_session.specs.Clients.{Told, on_last, over}
use Rattle.ob_session.specs.Records.{TellFirst, TellAll}
use Rattle.ob_session.proofs.Mirrors.{Mirrors, weakened}
use Rattle.ob_session.proofs.Parts.{FitsClosed, retold}
use Rattle.ob_session.proofs.State.{Shut, Before, Mirror, why_is}
use Rattle.ob_session.proofs.Tellings.{FitsRecord, recorded, told_over, tells_record, tell_all-append, tell_first-append, first_from_all}
use Rattle.ob_session.proofs.Epochs.{halted, halted_mirror, PastGrows, settled_mirror}

closed_all : (n : ℕ) (closed : Option Part) (part : Part) (stop : Option Fault) (txns : List (TxnRecord ℕ)) (past : List Told) → closed ≡ Some part → Before n closed stop txns past → TellAll n txns past
closed_all n closed part stop txns past is (inl all) = all
closed_all n closed part stop txns past is (inr first) = absurd (none-some part (sym first.1 ∙ is))

-- the record of the closed part would tell of it
shut_record : (d : DeskState) (n : ℕ) (txns : List (TxnRecord ℕ)) (told : List Told) (signed : Bool) (part : Part) → d.closed ≡ Some part → (m : Mirror d n txns told signed) → Mirrors (FitsRecord n part.epoch) n 1 part.order.works part.holders m.shut
shut_record d n txns told signed part is m = weakened (FitsClosed n part.epoch) (FitsRecord n part.epoch) n 1 part.order.works part.holders m.shut (λ t i w h one at at_work at_holder f. recorded n part.epoch t w h one f)
    (subst (λ (c : Option Part). Shut n d.running.epoch c m.shut) is m.closed).1

pub closed_tells : (d : DeskState) (n : ℕ) (txns : List (TxnRecord ℕ)) (told : List Told) (signed : Bool) (part : Part) → d.closed ≡ Some part → (m : Mirror d n txns told signed)
    → TellAll n (txns ++ filter (λ t. t.client == n) (record_of part).txns) (m.past ++ m.shut)
closed_tells d n txns told signed part is m = tell_all-append n txns (filter (λ t. t.client == n) (record_of part).txns) m.past m.shut (closed_all n d.closed part d.stop txns m.past is m.tells)
    (tells_record n part.epoch 1 part.order.works part.holders m.shut (shut_record d n txns told signed part is m))

-- its record tells of all of it
pub published_mirror : (d new : DeskState) (n : ℕ) (txns : List (TxnRecord ℕ)) (told : List Told) (signed : Bool) (part : Part) (epoch_record : EpochRecord ℕ) → d.closed ≡ Some part → epoch_record ≡ record_of part
    → new ≡ record d { closed = None; clients = settle part Committed d.clients } → Mirror d n txns told signed → Mirror new n (txns ++ filter (λ t. t.client == n) epoch_record.txns) told signed
published_mirror d new n txns told signed part epoch_record is record_is e m =
    subst (λ (r : EpochRecord ℕ). Mirror new n (txns ++ filter (λ t. t.client == n) r.txns) told signed) (sym record_is)
    (subst (λ (q : DeskState). Mirror q n (txns ++ filter (λ t. t.client == n) (record_of part).txns) told signed) (sym e)
    (settled_mirror d n txns (txns ++ filter (λ t. t.client == n) (record_of part).txns) told signed part Committed (λ e. cc) m is grows))
  where
    grows : (past : List Told) → PastGrows n d part Committed txns (txns ++ filter (λ t. t.client == n) (record_of part).txns) past m.shut
    grows past = record {
      tells = λ before. inl (tell_all-append n txns (filter (λ t. t.client == n) (record_of part).txns) past m.shut (closed_all n d.closed part d.stop txns past is before) (tells_record n part.epoch 1 part.order.works part.holders m.shut (shut_record d n txns told signed part is m)));
      keeps_last = λ one last before. inl (tell_all-append n txns (filter (λ t. t.client == n) (record_of part).txns) past (on_last (over (outcome_in part Committed one.txn.ticket)) m.shut) (closed_all n d.closed part d.stop txns past is before)
          (tells_record n part.epoch 1 part.order.works part.holders (on_last (over (outcome_in part Committed one.txn.ticket)) m.shut)
          (retold (FitsRecord n part.epoch) n (λ t w h x f. f.ticket) (over (outcome_in part Committed one.txn.ticket)) part.order.works part.holders m.shut one last
          (λ w h at_work at_holder f. record {
            ticket = f.ticket;
            told = λ mine. told_over n _ one (outcome_in part Committed one.txn.ticket) (ap (λ y. unwrap_or (option_map AbortedBy y) Committed) (sym (why_is part one.txn.ticket w h at_work at_holder))) (f.told mine);
          }) (shut_record d n txns told signed part is m))));
    }

pub first_before : (n : ℕ) (closed : Option Part) (stop : Option Fault) (txns : List (TxnRecord ℕ)) (past : List Told) → Before n closed stop txns past → TellFirst n txns past
first_before n closed stop txns past (inl all) = first_from_all n txns past all
first_before n closed stop txns past (inr first) = first.0

-- nothing is told of it in a record
pub given_up : (d : DeskState) (n : ℕ) (txns : List (TxnRecord ℕ)) (told : List Told) (signed : Bool) (part : Part) (otherwise : Outcome ℕ) → (otherwise ≡ AbortedBy Asked → ⊥) → d.closed ≡ Some part → is_some d.stop ≡ true → Mirror d n txns told signed
    → Mirror (record d { closed = None; clients = settle part otherwise d.clients }) n txns told signed
given_up d n txns told signed part otherwise other is halt m = settled_mirror d n txns txns told signed part otherwise other m is (λ past. record {
  tells = λ before. inr (tell_first-append n txns past m.shut (first_before n d.closed d.stop txns past before), refl, halt);
  keeps_last = λ one last before. inr (tell_first-append n txns past (on_last (over (outcome_in part otherwise one.txn.ticket)) m.shut) (first_before n d.closed d.stop txns past before), refl, halt);
})

has_stop : (stop : Option Fault) (f : Fault) → is_some (option_or stop (Some f)) ≡ true
has_stop None f = refl
has_stop (Some g) f = refl

pub unsure_mirror : (d new : DeskState) (n : ℕ) (txns : List (TxnRecord ℕ)) (told : List Told) (signed : Bool) (f : Fault) (part : Part) → d.closed ≡ Some part
    → new ≡ record d { stop = option_or d.stop (Some f); running = stop_part f d.running; closed = None; clients = settle part (UnsureOf part.epoch) d.clients } → Mirror d n txns told signed → Mirror new n txns told signed
unsure_mirror d new n txns told signed f part is e m = subst (λ (q : DeskState). Mirror q n txns told signed) (sym e)
    (given_up (halted f d) n txns told signed part (UnsureOf part.epoch) (λ e. cc) is (has_stop d.stop f) (halted_mirror d n txns told signed f m))

stop_closed_mirror : (d : DeskState) (n : ℕ) (txns : List (TxnRecord ℕ)) (told : List Told) (signed : Bool) (f : Fault) (closed : Option Part) → d.closed ≡ closed → is_some d.stop ≡ true → Mirror d n txns told signed
    → Mirror (record d { closed = None; clients = unwrap_or (option_map (λ c. settle c (AbortedBy (Stopped f)) d.clients) closed) d.clients }) n txns told signed
stop_closed_mirror d n txns told signed f None is halt m = subst (λ (c : Option Part). Mirror (record d { closed = c }) n txns told signed) is m
stop_closed_mirror d n txns told signed f (Some part) is halt m = given_up d n txns told signed part (AbortedBy (Stopped f)) (λ e. cc) is halt m

pub stopped_mirror : (d new : DeskState) (n : ℕ) (txns : List (TxnRecord ℕ)) (told : List Told) (signed : Bool) (f : Fault) → new ≡ stopped_by f d → Mirror d n txns told signed → Mirror new n txns told signed
stopped_mirror d new n txns told signed f e m = subst (λ (q : DeskState). Mirror q n txns told signed) (sym e) (step (is_memory f))
  where
    step : (b : Bool) → Mirror (if b then halted f d else stop_closed f (halted f d)) n txns told signed
    step true = halted_mirror d n txns told signed f m
    step false = stop_closed_mirror (halted f d) n txns told signed f d.closed refl (has_stop d.stop f) (halted_mirror d n txns told signed f m)
