-- What is said of a run's moments and of its records, without one of its premises: for each a case that keeps all the others, and of which it isn't so.
use Rattle.std.specs.Prelude.{ℕ, ◌≡◌, Bool, true, false, All, List, [], ◌∷◌, ◌++◌, length, take, None, Some}
use Rattle.std.proofs.Common.{refl, ap, ◌∙◌, inl, inr, ⊎_elim, arith}
use Rattle.std.proofs.lemmas.Option.{none-some, same_Some}
use Rattle.std.proofs.lemmas.Bool.{false≢true}
use Rattle.std.proofs.lemmas.List.Elements.{All-nil, All-cons}
use Rattle.ob_store.specs.Disk.{Disk, silent}
use Rattle.ob_store.specs.Images.{LeavesOnly}
use Rattle.ob_serial.specs.Serial.{EpochRecord}
use Rattle.ob_serial.specs.Vaults.{End, Ended, VaultState, StandsIn}
use Rattle.ob_serial.specs.VaultKinds.{Kind}
use Rattle.ob_base.specs.declared.op.Op.{Op}
use Rattle.ob_base.specs.declared.op.Op.TheVariants.{Put}
use Rattle.ob_order.specs.Order.{after_begin, after_write}
use Rattle.ob_order.specs.declared.answers.Wrote.TheVariants.{Yes}
use Rattle.ob_desk.specs.declared.calls.Txn.{Txn}
use Rattle.ob_desk.specs.Desk.{Part, DeskState, Close, Committed, Done, Write, Writes, begin_client, closing, new_holder, new_part, on_client, record_of, settle, with_order, Begin, Commit, Publish, TakeBatch, Begun, Published, new_client}
use Rattle.ob_desk.specs.declared.clients.Client.{Client}
use Rattle.ob_session.specs.Clients.{told_of, said_by}
use Rattle.ob_session.specs.Records.{IsAtRest, TellAll, txns_by}
use Rattle.ob_session.specs.Steps.{IsOwn, Leads}
use Rattle.ob_conduct.specs.Acts.{Act, Says, IsAllowed, history, records}
use Rattle.ob_conduct.specs.Left.{Rests as CrashesRest, OnlyNow}
use Rattle.ob_world.specs.Courses.{course_of}
use Rattle.ob_world.specs.Drivers.{AtRest, HasClosed, HasEnded, HasTold, IsDown}
use Rattle.ob_world.specs.Headlines.{IsPrefix, acknowledged, published_in}
use Rattle.ob_world.specs.Laws.{IsOneRun, desk_steps}
use Rattle.ob_world.specs.Weaves.{publishes_in, reported_in, woven}
use Rattle.ob_world.specs.Worlds.{WorldEvent, Desk, Vault, Crash, Open, World, IsWorld, cut_vault, first_world, opened_vault}
use Rattle.ob_world.proofs.Rows.{at_zero, bare, d1, d6, d7, empty, image_of, part, setup, told, w0, w1, w8, w9, x}
use Rattle.ob_world.proofs.Wanted.{LeadsBy, Unasked, r0}
use Rattle.ob_world.proofs.WantedActs.{eager}

-- ---- moments

-- a store that a crash may leave as anything; one that says so of a crash at the very moment alone; and by which of two vaults it is
abbrev pub anything : Disk
anything = record (silent 0) { may_leave = λ c. Unit {0}; left_since = λ t c. Unit {0} }

abbrev pub late : Disk
late = record (silent 0) { left_since = λ t c. Unit {0} }

abbrev pub by_soundness : Bool → Disk
by_soundness true = silent 0
by_soundness false = anything

-- a vault over such a store, sound where this says so, of which no image stands for anything
abbrev pub of_store : (Bool → Disk) → (Bool → Type 0) → Kind Bool
of_store disk sound = record { holds = λ v u. Unit {0}; sound = λ v u. sound v; stands = λ v image at. ⊥; disk = disk; called = λ old call answer notes new. ⊥ }

abbrev pub u0 : VaultState
u0 = opened_vault 1 at_zero 0

abbrev pub start : World Bool
start = first_world setup [] at_zero 0 true

-- what the law would say from a place of the run to a later one
abbrev pub IsMoment : (k : Kind Bool) (before : List WorldEvent) (mid last : World Bool) → Type 0
IsMoment k before mid last = LeavesOnly (k.disk mid.past) (k.disk last.past) (StandsIn (k.stands mid.past) (IsPrefix empty last.ended (acknowledged before)))

-- that each image which may be left of a sound vault stands for something
pub standing_is_wanted : OnlyNow (of_store (λ v. anything) (λ v. Unit {0})) × (IsMoment (of_store (λ v. anything) (λ v. Unit {0})) [] start start → ⊥)
standing_is_wanted = (λ w c left. tt, λ moment. (moment.each (λ cell. []) tt).1)

-- that a crash at the very moment leaves what may be left
pub only_now_is_wanted : CrashesRest (of_store (λ v. late) (λ v. Unit {0})) × (IsMoment (of_store (λ v. late) (λ v. Unit {0})) [] start start → ⊥)
only_now_is_wanted = (λ w v c sound is. ⊎_elim (λ none. absurd none) (λ two. absurd two.0) is, λ moment. (moment.each (λ cell. []) tt).1)

-- that the vault is sound
pub sound_vault_is_wanted : CrashesRest (of_store (λ v. anything) (λ v. ⊥)) × OnlyNow (of_store (λ v. anything) (λ v. ⊥)) × (IsMoment (of_store (λ v. anything) (λ v. ⊥)) [] start start → ⊥)
sound_vault_is_wanted = (λ w v c none. absurd none, λ w c left. tt, λ moment. (moment.each (λ cell. []) tt).1)

-- that no opening comes between, which may give a vault that isn't
abbrev pub changing : Kind Bool
changing = of_store by_soundness (λ v. v ≡ true)

changing_rests : CrashesRest changing
changing_rests true v c sound is = ⊎_elim (λ none. absurd none) (λ two. absurd two.0) is
changing_rests false v c sound is = absurd (false≢true sound)

changing_now : OnlyNow changing
changing_now true c none = absurd none
changing_now false c left = tt

abbrev pub again : World Bool
again = record start { past = false }

opens_another : IsWorld (course_of changing) start (Open [] ∷ []) again
opens_another = (again, record { found = at_zero; left = 0; may = inl refl; past = false; opened = (u0, tt, refl); few = omega arith; state = refl }, refl)

pub one_run_before_is_wanted : CrashesRest changing × OnlyNow changing × changing.sound true u0 × IsWorld (course_of changing) start (Open [] ∷ []) again × (IsMoment changing (Open [] ∷ []) again again → ⊥)
one_run_before_is_wanted = (changing_rests, changing_now, refl, opens_another, λ moment. (moment.each (λ cell. []) tt).1)

pub one_run_after_is_wanted : CrashesRest changing × OnlyNow changing × changing.sound true u0 × IsWorld (course_of changing) start (Open [] ∷ []) again × (IsMoment changing [] start again → ⊥)
one_run_after_is_wanted = (changing_rests, changing_now, refl, opens_another, λ moment. (moment.each (λ cell. []) tt).1)

-- ---- records

-- of acts whose calls the desk doesn't answer so
abbrev pub untrue : List Act
untrue = Says 1 ((TakeBatch, Published told) ∷ []) ∷ []

pub answers_are_wanted : (reported_in (woven untrue 1) ≡ take 1 (records untrue)) → ⊥
answers_are_wanted e = (let n : 0 ≡ 1 = ap (λ (rs : List (EpochRecord ℕ)). length rs) e in omega (arith, n))

abbrev pub unheard : List Act
unheard = Says 1 ((Commit x, Published told) ∷ []) ∷ []

pub heard_is_wanted : All (IsAllowed eager) unheard × ((publishes_in unheard ≡ length (records unheard)) → ⊥)
heard_is_wanted = (
  All-cons (IsAllowed eager) (Says 1 ((Commit x, Published told) ∷ [])) [] (All-cons (IsOwn 1) (Commit x, Published told) [] refl (All-nil (IsOwn 1))) (All-nil (IsAllowed eager)),
  λ e. (let n : 0 ≡ 1 = e in omega (arith, n)),
)

-- of a client that publishes
abbrev published_by_client : List Act
published_by_client = Says 1 ((Publish 2 1, Published told) ∷ []) ∷ []

pub own_publish_is_wanted : Leads d6 (history published_by_client) d7 × ((publishes_in published_by_client ≡ length (records published_by_client)) → ⊥)
own_publish_is_wanted = ((d7, (refl, omega arith, refl, refl), record { part = part; is_closed = refl; record_is = refl; state = refl }, refl), λ e. (let n : 0 ≡ 1 = e in omega (arith, n)))

-- ---- what was begun

abbrev pub begins : List WorldEvent
begins = Desk 1 (Begin 1) (Begun x) ∷ []

abbrev pub AllTold : List WorldEvent → Type 0
AllTold events = TellAll 1 (txns_by 1 (published_in events)) (told_of (said_by 1 (desk_steps events)))

begins_is_world : IsWorld bare w0 begins w1
begins_is_world = (
  w1,
  record {
    up = tt;
    own = inr refl;
    desk = d1;
    driver = AtRest;
    may = (record { client = new_client 1; found = refl; not_signed_off = refl }, λ c y found last. absurd (none-some y (ap (λ (c : Client). c.last) (same_Some (new_client 1) c found) ∙ last)));
    step = record { not_stopped = refl; next = refl; state = refl };
    moves = refl;
    state = refl;
  },
  refl,
)

-- where the desk isn't at rest
pub rest_is_wanted : IsOneRun begins × IsWorld bare w0 begins w1 × (AllTold begins → ⊥)
rest_is_wanted = (tt, begins_is_world, λ none. none)

-- where a crash and an opening came between
abbrev pub lost : List WorldEvent
lost = Desk 1 (Begin 1) (Begun x) ∷ Crash None (image_of 0) ∷ Open (1 ∷ []) ∷ []

abbrev pub w_cut : World (Unit {0})
w_cut = record w1 { vault = cut_vault w1.vault at_zero; driver = IsDown }

pub one_run_is_wanted : IsWorld bare w0 lost w0 × IsAtRest w0.desk × (AllTold lost → ⊥)
unfolding begins_is_world
one_run_is_wanted = (
  (w1, begins_is_world.1, (w_cut, record { was = tt; left = at_zero; may = inl refl; stands = refl; past = tt; cut = tt; state = refl }, (w0, record { found = at_zero; left = 1; may = inl refl; past = tt; opened = tt; few = omega arith; state = refl }, refl))),
  record { none_runs = refl; none_closed = refl; not_stopped = refl },
  λ none. none,
)

-- from a desk that isn't new
pub new_is_wanted : IsOneRun (Desk 0 (Publish 2 1) (Published told) ∷ []) × IsWorld bare w8 (Desk 0 (Publish 2 1) (Published told) ∷ []) w9 × IsAtRest w9.desk × (AllTold (Desk 0 (Publish 2 1) (Published told) ∷ []) → ⊥)
new_is_wanted = (
  tt,
  (w9, record { up = tt; own = inl (refl, tt); desk = d7; driver = HasTold told; may = (refl, omega arith, refl, refl); step = record { part = part; is_closed = refl; record_is = refl; state = refl }; moves = record { published = told; was = refl; told = refl; now = refl }; state = refl }, refl),
  record { none_runs = refl; none_closed = refl; not_stopped = refl },
  λ none. none,
)

-- of calls that may not be made: a client begins again, and then writes in its transaction before
abbrev pub y : Txn
y = record { client = 1; epoch = 1; ticket = 2 }

abbrev pub f1 : DeskState
f1 = record r0.desk { running = record r0.desk.running { order = after_begin r0.desk.running.order; holders = r0.desk.running.holders ++ new_holder 1 ∷ [] }; clients = on_client (begin_client x) r0.desk.clients 1 }

abbrev pub f2 : DeskState
f2 = record f1 { running = record f1.running { order = after_begin f1.running.order; holders = f1.running.holders ++ new_holder 1 ∷ [] }; clients = on_client (begin_client y) f1.clients 1 }

abbrev pub f3 : DeskState
f3 = record f2 { running = with_order f2.running (after_write f2.running.order 1 5 (Some (7 ∷ [])) Yes) }

abbrev pub late_part : Part
late_part = closing f3.running

abbrev pub f4 : DeskState
f4 = record f3 { running = new_part 2 1; closed = Some late_part }

abbrev pub f5 : DeskState
f5 = record f4 { closed = None; clients = settle late_part Committed f4.clients }

abbrev pub g1 : World (Unit {0})
g1 = record r0 { desk = f1 }

abbrev pub g2 : World (Unit {0})
g2 = record r0 { desk = f2 }

abbrev pub g3 : World (Unit {0})
g3 = record r0 { desk = f3 }

abbrev pub g4 : World (Unit {0})
g4 = record r0 { desk = f4; driver = HasClosed [] }

abbrev pub g5 : World (Unit {0})
g5 = record g4 { vault = opened_vault 1 (record { epoch = 1; content = empty }) 1; driver = HasEnded; ended = record_of late_part ∷ [] }

abbrev pub g6 : World (Unit {0})
g6 = record g5 { desk = f5; driver = HasTold (record_of late_part) }

abbrev pub both_begun : List WorldEvent
both_begun =
    Desk 1 (Begin 1) (Begun x) ∷ Desk 1 (Begin 1) (Begun y) ∷ Desk 1 (Write x 5 (Some (7 ∷ []))) Done
    ∷ Desk 0 Close (Writes []) ∷ Vault (End []) Ended ∷ Desk 0 (Publish 2 1) (Published (record_of late_part)) ∷ []

pub asking_is_wanted : LeadsBy Unasked r0 both_begun g6 × IsOneRun both_begun × IsAtRest g6.desk × (AllTold both_begun → ⊥)
asking_is_wanted = (
  (
    g1,
    record { up = tt; own = inr refl; desk = f1; driver = AtRest; step = record { not_stopped = refl; next = refl; state = refl }; moves = refl; state = refl },
    (
      g2,
      record { up = tt; own = inr refl; desk = f2; driver = AtRest; step = record { not_stopped = refl; next = refl; state = refl }; moves = refl; state = refl },
      (
        g3,
        record { up = tt; own = inr refl; desk = f3; driver = AtRest; step = record { live = record { runs = refl; goes = refl }; within = refl; reply = refl; state = refl }; moves = refl; state = refl },
        (
          g4,
          record { up = tt; own = inl (refl, tt); desk = f4; driver = HasClosed []; step = record { batch = refl; state = refl }; moves = record { writes = []; was = refl; told = refl; now = refl }; state = refl },
          (
            g5,
            record { vault = g5.vault; past = tt; law = record { serves = refl; answered = tt; state = refl }; called = tt; was = refl; state = refl },
            (
              g6,
              record {
                up = tt;
                own = inl (refl, tt);
                desk = f5;
                driver = HasTold (record_of late_part);
                step = record { part = late_part; is_closed = refl; record_is = refl; state = refl };
                moves = record { published = record_of late_part; was = refl; told = refl; now = refl };
                state = refl;
              },
              refl,
            ),
          ),
        ),
      ),
    ),
  ),
  tt,
  record { none_runs = refl; none_closed = refl; not_stopped = refl },
  λ all. (let none : ◌≡◌ {A = List (Op ℕ)} (Put 5 (7 ∷ []) ∷ []) [] = all.0.ops in cc),
)
