-- Worked lists of events, on a store of eight keys with one batch an epoch: each is a world, step by step.
use Rattle.std.specs.Prelude.{ℕ, zero, suc, ◌≡◌, true, List, [], ◌∷◌, ◌++◌, slice_get, Option, None, Some}
use Rattle.std.proofs.Common.{refl, ap, ◌∙◌, inl, inr, arith}
use Rattle.std.proofs.lemmas.Option.{none-some, same_Some}
use Rattle.std.specs.Ordering.{nat_cmp}
use Rattle.std.specs.FinMap as finite
use Rattle.ob_base.specs.declared.params.Params.{Params}
use Rattle.ob_base.specs.declared.fault.Fault.TheVariants.{SourceFault}
use Rattle.ob_store.specs.Disk.{Image}
use Rattle.ob_serial.specs.Serial.{EpochRecord, Map}
use Rattle.ob_serial.specs.Vaults.{Fetch, End, Values, Ended, DoubtBy, Standing, VaultState, with_writes}
use Rattle.ob_order.specs.Order.{after_begin, after_write, after_take, after_deliver}
use Rattle.ob_order.specs.declared.answers.Wrote.TheVariants.{Yes}
use Rattle.ob_desk.specs.Desk.{Setup, Part, DeskState, Memory, Fault, Committed, UnsureOf, new_desk, new_part, new_client, new_holder, begin_client, note_asked, on_client, with_order, with_holder, closing, settle, setup_of}
use Rattle.ob_desk.specs.Desk.{record_of, stopped_by, stop_part, Begin, Write, Commit, Settled, TakeBatch, Deliver, Close, Publish, Stop, Unsure, IsStopped, StoppedBy, Begun, Done, IsSettled, Batch, Writes, Published}
use Rattle.ob_desk.specs.declared.calls.Txn.{Txn}
use Rattle.ob_desk.specs.declared.clients.Client.{Client}
use Rattle.ob_world.specs.Courses.{Course}
use Rattle.ob_world.specs.Drivers.{AtRest, HasTaken, HasFetched, HasClosed, HasEnded, HasDoubt, HasTold, HasFailed, IsDown}
use Rattle.ob_world.specs.Worlds.{WorldEvent, Desk, Vault, Report, Crash, Open, World, IsWorld, first_world, cut_vault, opened_vault}
use Rattle.ob_world.specs.Headlines.{acknowledged, IsPrefix, Headline}
use Rattle.ob_world.proofs.Holding.{headline}

abbrev pub small : Params
small = record {
  keys = 8;
  levels = 2;
  real = 2;
  dummies = 3;
  batches = 1;
  places = 2;
  writes = 2;
  evictions = 2;
  room = 8;
  in_range = record {
    some_keys = omega arith;
    few_keys = omega arith;
    some_levels = omega arith;
    few_levels = omega arith;
    some_real = omega arith;
    few_real = omega arith;
    some_dummies = omega arith;
    few_dummies = omega arith;
    some_batches = omega arith;
    few_batches = omega arith;
    some_places = omega arith;
    few_places = omega arith;
    some_writes = omega arith;
    few_writes = omega arith;
    some_evictions = omega arith;
    few_evictions = omega arith;
    some_room = omega arith;
    few_room = omega arith;
    keys_fit = omega arith;
  };
}

abbrev pub setup : Setup
setup = setup_of small

abbrev pub writes : List (ℕ × Option (List ℕ))
writes = (5, Some (7 ∷ [])) ∷ []

abbrev pub empty : Map nat_cmp
empty = finite.empty

-- before any epoch, and behind the first
abbrev pub at_zero : Standing
at_zero = record { epoch = 0; content = empty }

abbrev pub at_one : Standing
at_one = record { epoch = 1; content = with_writes empty writes }

-- an image's first byte tells what it stands for
abbrev pub told_in : List ℕ → Option Standing
told_in [] = None
told_in (zero ∷ more) = Some at_zero
told_in (suc zero ∷ more) = Some at_one
told_in (suc (suc n) ∷ more) = Some (record { epoch = suc (suc n); content = empty })

abbrev pub image_of : ℕ → Image
image_of n cell = n ∷ []

abbrev pub bare : Course
bare = record {
  Past = Unit {0};
  stands = λ past image at. told_in (image 0) ≡ Some at;
  called = λ old call answer new. Unit {0};
  cut = λ old inside image new. Unit {0};
  opened = λ old found new. Unit {0};
  IsSound = λ past. Unit {0};
  goes_on_called = λ old call answer new step sound. tt;
  goes_on_cut = λ old inside image new step sound. tt;
  goes_on_opened = λ old found new step sound. tt;
  IsPublic = λ past. Unit {0};
  IsFresh = λ past. Unit {0};
  ArePadsOnce = λ past. Unit {0};
  public = λ past sound. tt;
  fresh = λ past sound. tt;
  pads_once = λ past sound. tt;
}

abbrev pub w0 : World (Unit {0})
w0 = first_world setup (1 ∷ []) at_zero 1 tt

abbrev pub x : Txn
x = record { client = 1; epoch = 1; ticket = 1 }

abbrev pub d0 : DeskState
d0 = new_desk setup 1 1 (1 ∷ [])

abbrev pub d1 : DeskState
d1 = record d0 { running = record d0.running { order = after_begin d0.running.order; holders = d0.running.holders ++ new_holder 1 ∷ [] }; clients = on_client (begin_client x) d0.clients 1 }

abbrev pub d2 : DeskState
d2 = record d1 { running = with_order d1.running (after_write d1.running.order 1 5 (Some (7 ∷ [])) Yes) }

abbrev pub d3 : DeskState
d3 = record d2 { running = with_holder note_asked d2.running 1 }

abbrev pub d4 : DeskState
d4 = record d3 { running = with_order d3.running (after_take small d3.running.order) }

abbrev pub keys : List (Option ℕ)
keys = None ∷ None ∷ []

abbrev pub values : List (Option (List ℕ))
values = None ∷ None ∷ []

abbrev pub d5 : DeskState
d5 = record d4 { running = with_order d4.running (after_deliver d4.running.order keys values) }

abbrev pub part : Part
part = closing d5.running

abbrev pub d6 : DeskState
d6 = record d5 { running = new_part 2 1; closed = Some part }

abbrev pub told : EpochRecord ℕ
told = record_of part

abbrev pub d7 : DeskState
d7 = record d6 { closed = None; clients = settle part Committed d6.clients }

abbrev pub v1 : VaultState
v1 = opened_vault 1 at_zero 0

abbrev pub v2 : VaultState
v2 = opened_vault 1 at_one 1

abbrev pub w1 : World (Unit {0})
w1 = record w0 { desk = d1 }

abbrev pub w2 : World (Unit {0})
w2 = record w0 { desk = d2 }

abbrev pub w3 : World (Unit {0})
w3 = record w0 { desk = d3 }

abbrev pub w4 : World (Unit {0})
w4 = record w0 { desk = d4; driver = HasTaken keys }

abbrev pub w5 : World (Unit {0})
w5 = record w0 { desk = d4; vault = v1; driver = HasFetched keys values }

abbrev pub w6 : World (Unit {0})
w6 = record w0 { desk = d5; vault = v1 }

abbrev pub w7 : World (Unit {0})
w7 = record w0 { desk = d6; vault = v1; driver = HasClosed writes }

abbrev pub w8 : World (Unit {0})
w8 = record w0 { desk = d6; vault = v2; driver = HasEnded; ended = told ∷ [] }

abbrev pub w9 : World (Unit {0})
w9 = record w8 { desk = d7; driver = HasTold told }

abbrev pub w10 : World (Unit {0})
w10 = record w9 { driver = AtRest }

abbrev pub w11 : World (Unit {0})
w11 = record w10 { vault = cut_vault v2 at_one; driver = IsDown }

abbrev pub w12 : World (Unit {0})
w12 = record { desk = new_desk setup 2 1 (1 ∷ []); vault = v2; past = tt; driver = AtRest; found = with_writes empty writes; ended = told ∷ [] }

abbrev pub busy : Client
busy = begin_client x (new_client 1)

abbrev pub settled : Client
settled = record busy { outcome = Some Committed }

pub asked : (i key : ℕ) → slice_get keys i ≡ Some (Some key) → slice_get values i ≡ Some (finite.get empty key)
asked zero key is = absurd (let e : ◌≡◌ {A = Option ℕ} None (Some key) = same_Some None (Some key) is in none-some key e)
asked (suc zero) key is = absurd (let e : ◌≡◌ {A = Option ℕ} None (Some key) = same_Some None (Some key) is in none-some key e)
asked (suc (suc n)) key is = absurd (let e : ◌≡◌ {A = Option (Option ℕ)} None (Some (Some key)) = is in none-some (Some key) e)

pub pads : (i : ℕ) → slice_get keys i ≡ Some None → slice_get values i ≡ Some None
pads zero is = refl
pads (suc zero) is = refl
pads (suc (suc n)) is = absurd (let e : ◌≡◌ {A = Option (Option ℕ)} None (Some None) = is in none-some None e)

-- ---- one client's put is committed, told, and stands behind a crash

abbrev pub work : List WorldEvent
work =
    Desk 1 (Begin 1) (Begun x) ∷ Desk 1 (Write x 5 (Some (7 ∷ []))) Done ∷ Desk 1 (Commit x) Done
    ∷ Desk 0 TakeBatch (Batch keys) ∷ Vault (Fetch keys) (Values values) ∷ Desk 0 (Deliver keys values) Done
    ∷ Desk 0 Close (Writes writes) ∷ []

abbrev pub finish : List WorldEvent
finish =
    Vault (End writes) Ended ∷ Desk 0 (Publish 2 1) (Published told) ∷ Report told
    ∷ Desk 1 (Settled x) (IsSettled (Some Committed)) ∷ Crash None (image_of 1) ∷ Open (1 ∷ []) ∷ []

pub work_is_world : (events : List WorldEvent) (last : World (Unit {0})) → IsWorld bare w7 events last → IsWorld bare w0 (work ++ events) last
work_is_world events last rest = (
  w1,
  record {
    up = tt;
    own = inr refl;
    desk = d1;
    driver = AtRest;
    may = (record { client = new_client 1; found = refl; not_signed_off = refl }, λ c y found last. absurd (none-some y (ap (λ (c : Client). c.last) (same_Some (new_client 1) c found) ∙ last)));
    step = record { not_stopped = refl; next = refl; state = refl };
    moves = refl;
    state = refl;
  },
  (
    w2,
    record {
      up = tt;
      own = inr refl;
      desk = d2;
      driver = AtRest;
      may = (record { client = busy; found = refl; last = refl }, inr (record { runs = refl; goes = refl }, refl, refl), omega arith);
      step = record { live = record { runs = refl; goes = refl }; within = refl; reply = refl; state = refl };
      moves = refl;
      state = refl;
    },
    (
      w3,
      record { up = tt; own = inr refl; desk = d3; driver = AtRest; may = (record { client = busy; found = refl; last = refl }, inr (record { runs = refl; goes = refl }, refl, refl)); step = record { live = record { runs = refl; goes = refl }; state = refl }; moves = refl; state = refl },
      (
        w4,
        record { up = tt; own = inl (refl, tt); desk = d4; driver = HasTaken keys; may = (refl, omega arith, refl); step = record { taken = refl; state = refl }; moves = record { keys = keys; was = refl; told = refl; now = refl }; state = refl },
        (
          w5,
          record { vault = v1; past = tt; law = record { serves = refl; answered = record { whole = refl; asked = asked; pads = pads }; state = refl }; called = tt; was = refl; state = refl },
          (
            w6,
            record { up = tt; own = inl (refl, tt); desk = d5; driver = AtRest; may = (refl, refl, refl); step = record { state = refl }; moves = record { was = refl; now = refl }; state = refl },
            (
              w7,
              record { up = tt; own = inl (refl, tt); desk = d6; driver = HasClosed writes; may = (refl, refl, refl, refl); step = record { batch = refl; state = refl }; moves = record { writes = writes; was = refl; told = refl; now = refl }; state = refl },
              rest,
            ),
          ),
        ),
      ),
    ),
  ),
)

pub finish_is_world : IsWorld bare w7 finish w12
finish_is_world = (
  w8,
  record { vault = v2; past = tt; law = record { serves = refl; answered = tt; state = refl }; called = tt; was = refl; state = refl },
  (
    w9,
    record { up = tt; own = inl (refl, tt); desk = d7; driver = HasTold told; may = (refl, omega arith, refl, refl); step = record { part = part; is_closed = refl; record_is = refl; state = refl }; moves = record { published = told; was = refl; told = refl; now = refl }; state = refl },
    (
      w10,
      record { was = refl; state = refl },
      (
        w10,
        record { up = tt; own = inr refl; desk = d7; driver = AtRest; may = record { client = settled; found = refl; last = refl }; step = (refl, refl); moves = refl; state = refl },
        (
          w11,
          record { was = tt; left = at_one; may = inl refl; stands = refl; past = tt; cut = tt; state = refl },
          (w12, record { found = at_one; left = 1; may = inl refl; past = tt; opened = tt; few = omega arith; state = refl }, refl),
        ),
      ),
    ),
  ),
)

pub row_is_world : IsWorld bare w0 (work ++ finish) w12
row_is_world = work_is_world finish w12 finish_is_world

pub row_is_acknowledged : acknowledged (work ++ finish) ≡ 1 ∷ 1 ∷ []
row_is_acknowledged = refl

-- ---- a crash inside the end leaves the epoch before or this one

abbrev pub cut_to : Standing → World (Unit {0})
cut_to at = record w7 { vault = cut_vault v1 at; driver = IsDown; ended = told ∷ [] }

pub crash_leaves_none : IsWorld bare w7 (Crash (Some (End writes)) (image_of 0) ∷ []) (cut_to at_zero)
crash_leaves_none = (cut_to at_zero, record { was = refl; left = at_zero; may = inl (inl refl); stands = refl; past = tt; cut = tt; state = refl }, refl)

pub crash_leaves_one : IsWorld bare w7 (Crash (Some (End writes)) (image_of 1) ∷ []) (cut_to at_one)
crash_leaves_one = (cut_to at_one, record { was = refl; left = at_one; may = inr refl; stands = refl; past = tt; cut = tt; state = refl }, refl)

-- from the epoch before an opening goes on with no batch left of the next
abbrev pub again : World (Unit {0})
again = record (cut_to at_zero) { desk = new_desk setup 1 0 (1 ∷ []); vault = opened_vault 1 at_zero 0; driver = AtRest }

pub opens_again : IsWorld bare w7 (Crash (Some (End writes)) (image_of 0) ∷ Open (1 ∷ []) ∷ []) again
opens_again = (
  cut_to at_zero,
  record { was = refl; left = at_zero; may = inl (inl refl); stands = refl; past = tt; cut = tt; state = refl },
  (again, record { found = at_zero; left = 0; may = inl refl; past = tt; opened = tt; few = omega arith; state = refl }, refl),
)

-- An epoch that is ended again takes the place of its earlier attempt, so its record is there once, the later one.
abbrev pub later : EpochRecord ℕ
later = record { epoch = 1; txns = [] }

abbrev pub closed_again : World (Unit {0})
closed_again = record again { desk = record again.desk { running = new_part 2 1; closed = Some (closing (new_part 1 0)) }; driver = HasClosed [] }

abbrev pub ended_again : World (Unit {0})
ended_again = record closed_again { vault = opened_vault 1 (record { epoch = 1; content = empty }) 1; driver = HasEnded; ended = later ∷ [] }

pub ends_again : IsWorld bare again (Desk 0 Close (Writes []) ∷ Vault (End []) Ended ∷ []) ended_again
ends_again = (
  closed_again,
  record { up = tt; own = inl (refl, tt); desk = closed_again.desk; driver = HasClosed []; may = (refl, refl, refl, refl); step = record { batch = refl; state = refl }; moves = record { writes = []; was = refl; told = refl; now = refl }; state = refl },
  (ended_again, record { vault = ended_again.vault; past = tt; law = record { serves = refl; answered = tt; state = refl }; called = tt; was = refl; state = refl }, refl),
)

-- ---- an end in doubt

abbrev pub refusal : Fault
refusal = SourceFault

abbrev pub doubtful : World (Unit {0})
doubtful = record w7 { vault = record v1 { spent = true; doubt = Some at_one }; driver = HasDoubt refusal; ended = told ∷ [] }

abbrev pub d8 : DeskState
d8 = record d6 { stop = Some refusal; running = stop_part refusal d6.running; closed = None; clients = settle part (UnsureOf 1) d6.clients }

abbrev pub unsure_client : Client
unsure_client = record busy { outcome = Some (UnsureOf 1) }

abbrev pub unsure : World (Unit {0})
unsure = record doubtful { desk = d8; driver = HasFailed refusal }

abbrev pub doubt_events : List WorldEvent
doubt_events = Vault (End writes) (DoubtBy refusal) ∷ Desk 0 (Unsure refusal) Done ∷ Desk 1 (Settled x) (IsSettled (Some (UnsureOf 1))) ∷ Crash None (image_of 1) ∷ []

pub doubt_is_world : IsWorld bare w7 doubt_events (record unsure { vault = cut_vault unsure.vault at_one; driver = IsDown })
doubt_is_world = (
  doubtful,
  record { vault = doubtful.vault; past = tt; law = record { serves = refl; answered = tt; state = refl }; called = tt; was = refl; state = refl },
  (
    unsure,
    record { up = tt; own = inl (refl, tt); desk = d8; driver = HasFailed refusal; may = refl; step = record { part = part; is_closed = refl; state = refl }; moves = record { was = refl; now = refl }; state = refl },
    (
      unsure,
      record { up = tt; own = inr refl; desk = d8; driver = HasFailed refusal; may = record { client = unsure_client; found = refl; last = refl }; step = (refl, refl); moves = refl; state = refl },
      (record unsure { vault = cut_vault unsure.vault at_one; driver = IsDown }, record { was = tt; left = at_one; may = inr refl; stands = refl; past = tt; cut = tt; state = refl }, refl),
    ),
  ),
)

-- before the crash both epochs may stand, and each is a prefix
abbrev pub doubt_front : List WorldEvent
doubt_front = Vault (End writes) (DoubtBy refusal) ∷ Desk 0 (Unsure refusal) Done ∷ []

doubt_front_is_world : IsWorld bare w7 doubt_front unsure
unfolding doubt_is_world
doubt_front_is_world = (doubtful, doubt_is_world.1, (unsure, doubt_is_world.2.1, refl))

pub doubt_is_prefix : IsPrefix empty (told ∷ []) [] at_zero × IsPrefix empty (told ∷ []) [] at_one
doubt_is_prefix =
    let h : Headline bare w0 (work ++ doubt_front) unsure = headline bare setup (1 ∷ []) at_zero 1 tt (work ++ doubt_front) unsure tt (work_is_world doubt_front unsure doubt_front_is_world) in
    (h.prefix None tt at_zero (inl refl), h.prefix None tt at_one (inr refl))

pub doubt_is_not_acknowledged : acknowledged (work ++ doubt_events) ≡ []
doubt_is_not_acknowledged = refl

-- ---- another client begins in the next epoch while the end is due

abbrev pub z : Txn
z = record { client = 2; epoch = 2; ticket = 1 }

abbrev pub e0 : DeskState
e0 = record d6 { clients = d6.clients ++ new_client 2 ∷ [] }

abbrev pub e1 : DeskState
e1 = record e0 { running = record e0.running { order = after_begin e0.running.order; holders = e0.running.holders ++ new_holder 2 ∷ [] }; clients = on_client (begin_client z) e0.clients 2 }

pub epochs_overlap : IsWorld bare (record w7 { desk = e0 }) (Desk 2 (Begin 2) (Begun z) ∷ Vault (End writes) Ended ∷ []) (record w8 { desk = e1 })
epochs_overlap = (
  record w7 { desk = e1 },
  record {
    up = tt;
    own = inr refl;
    desk = e1;
    driver = HasClosed writes;
    may = (record { client = new_client 2; found = refl; not_signed_off = refl }, λ c y found last. absurd (none-some y (ap (λ (c : Client). c.last) (same_Some (new_client 2) c found) ∙ last)));
    step = record { not_stopped = refl; next = refl; state = refl };
    moves = refl;
    state = refl;
  },
  (record w8 { desk = e1 }, record { vault = v2; past = tt; law = record { serves = refl; answered = tt; state = refl }; called = tt; was = refl; state = refl }, refl),
)

-- ---- a client finds no memory while a batch is fetched: it is delivered, and then the driver finds the desk stopped

abbrev pub m4 : DeskState
m4 = stopped_by Memory d4

abbrev pub m5 : DeskState
m5 = record m4 { running = with_order m4.running (after_deliver m4.running.order keys values) }

pub stop_in_batch : IsWorld bare w4 (Desk 1 (Stop Memory) Done ∷ Vault (Fetch keys) (Values values) ∷ Desk 0 (Deliver keys values) Done ∷ Desk 0 IsStopped (StoppedBy (Some Memory)) ∷ []) (record w6 { desk = m5 })
stop_in_batch = (
  record w4 { desk = m4 },
  record { up = tt; own = inr refl; desk = m4; driver = HasTaken keys; may = tt; step = record { state = refl }; moves = record { may = inl refl; now = refl }; state = refl },
  (
    record w5 { desk = m4 },
    record { vault = v1; past = tt; law = record { serves = refl; answered = record { whole = refl; asked = asked; pads = pads }; state = refl }; called = tt; was = refl; state = refl },
    (
      record w6 { desk = m5 },
      record { up = tt; own = inl (refl, tt); desk = m5; driver = AtRest; may = (refl, refl, refl); step = record { state = refl }; moves = record { was = refl; now = refl }; state = refl },
      (record w6 { desk = m5 }, record { up = tt; own = inl (refl, tt); desk = m5; driver = AtRest; may = tt; step = (refl, refl); moves = refl; state = refl }, refl),
    ),
  ),
)
