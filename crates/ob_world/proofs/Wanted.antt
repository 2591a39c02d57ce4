-- The headline without one of its premises: for each a list of events that keeps all the others, and of which it isn't so.
use Rattle.std.specs.Prelude.{ℕ, suc, ◌≡◌, ◌≤◌, List, [], ◌∷◌, ◌++◌, map, Option, None, Some}
use Rattle.std.proofs.Common.{refl, sym, ap, subst, ◌∙◌, inl, inr, arith}
use Rattle.std.proofs.lemmas.Option.{none-some, same_Some}
use Rattle.std.specs.Ordering.{nat_cmp}
use Rattle.std.specs.FinMap as finite
use Rattle.std.specs.FinMap.{get-empty}
use Rattle.ob_base.specs.Writes.{write_op}
use Rattle.ob_desk.proofs.Maps.{get-after}
use Rattle.ob_store.specs.Disk.{Image}
use Rattle.ob_serial.specs.Serial.{EpochRecord, Map}
use Rattle.ob_serial.specs.Vaults.{VaultCall, VaultAnswer, End, Ended, VaultState, VaultStep, Standing, with_writes}
use Rattle.ob_desk.specs.Desk.{Setup, Part, DeskState, Call, Reply, DeskStep, MayCall, Committed, Close, Publish, Settled, Writes, Published, IsSettled, closing, new_desk, new_part, settle}
use Rattle.ob_desk.specs.declared.calls.Txn.{Txn}
use Rattle.ob_world.specs.Drivers.{DriverAt, AtRest, HasClosed, HasEnded, HasTold, IsDown, IsUp, MovesDriver, IsInsideCall, IsCallOf, before_call, behind_call}
use Rattle.ob_world.specs.Headlines.{Headline}
use Rattle.ob_world.specs.Worlds.{WorldEvent, Desk, Vault, Report, Crash, Open, World, WorldStep, IsWorld, first_world, cut_vault, ended_with, opened_vault}
use Rattle.ob_world.proofs.Rows.{at_one, at_zero, bare, d7, empty, image_of, part, setup, told, w0, w8, w9, w10, v2, work, work_is_world, writes}

-- ---- lists by other steps than the world's

abbrev pub Steps : Type 1
Steps = World (Unit {0}) → WorldEvent → World (Unit {0}) → Type 0

abbrev pub LeadsBy : Steps → World (Unit {0}) → List WorldEvent → World (Unit {0}) → Type 0
LeadsBy Step w [] last = w ≡ last
LeadsBy Step w (e ∷ events) last = (mid : World (Unit {0})) × Step w e mid × LeadsBy Step mid events last

-- the headline of all of them, from an opening on
abbrev pub HeadlineBy : Steps → Type 0
HeadlineBy Step = (setup : Setup) (clients : List ℕ) (found : Standing) (left : ℕ) (events : List WorldEvent) (last : World (Unit {0}))
    → LeadsBy Step (first_world setup clients found left tt) events last → Headline bare (first_world setup clients found left tt) events last

-- where each step of the world is one of these, a world's list can stand before others
led_on : (Step : Steps) → ((w : World (Unit {0})) (e : WorldEvent) (new : World (Unit {0})) → WorldStep bare w e new → Step w e new)
    → (w : World (Unit {0})) (events : List WorldEvent) (mid : World (Unit {0})) (more : List WorldEvent) (last : World (Unit {0})) → IsWorld bare w events mid → LeadsBy Step mid more last → LeadsBy Step w (events ++ more) last
led_on Step weaker w [] mid more last run rest = subst (λ (u : World (Unit {0})). LeadsBy Step u more last) (sym run) rest
led_on Step weaker w (e ∷ events) mid more last (next, step, run) rest = (next, weaker w e next step, led_on Step weaker next events mid more last run rest)

-- an epoch without transactions, closed, ended and published
abbrev pub blank : EpochRecord ℕ
blank = record { epoch = 1; txns = [] }

abbrev pub blank_part : Part
blank_part = closing (new_part 1 0)

abbrev pub r0 : World (Unit {0})
r0 = first_world setup (1 ∷ []) at_zero 0 tt

abbrev pub r1 : World (Unit {0})
r1 = record r0 { desk = record r0.desk { running = new_part 2 1; closed = Some blank_part }; driver = HasClosed [] }

abbrev pub r_desk : DeskState
r_desk = record r1.desk { closed = None; clients = settle blank_part Committed r1.desk.clients }

-- the row's epoch is ended and reported
abbrev pub printed : List WorldEvent
printed = Vault (End writes) Ended ∷ Desk 0 (Publish 2 1) (Published told) ∷ Report told ∷ []

printed_is_world : IsWorld bare w0 (work ++ printed) w10
printed_is_world = work_is_world printed w10 (
  w8,
  record { vault = v2; past = tt; law = record { serves = refl; answered = tt; state = refl }; called = tt; was = refl; state = refl },
  (
    w9,
    record { up = tt; own = inl (refl, tt); desk = d7; driver = HasTold told; may = (refl, omega arith, refl, refl); step = record { part = part; is_closed = refl; record_is = refl; state = refl }; moves = record { published = told; was = refl; told = refl; now = refl }; state = refl },
    (w10, record { was = refl; state = refl }, refl),
  ),
)

-- ---- allowed calls

-- a call of the desk, whether it may be made or not
pub record UnaskedCall (w : World (Unit {0})) (caller : ℕ) (call : Call) (reply : Reply) (new : World (Unit {0})) : Type 0 where
  pub up : IsUp w.driver
  pub own : IsCallOf caller call reply
  pub desk : DeskState
  pub driver : DriverAt
  pub step : DeskStep w.desk call reply desk
  pub moves : MovesDriver w.driver call reply driver
  pub state : new ≡ record w { desk = desk; driver = driver }

abbrev pub Unasked : Steps
Unasked w (Desk caller call reply) new = UnaskedCall w caller call reply new
Unasked w e new = WorldStep bare w e new

unasked : (w : World (Unit {0})) (e : WorldEvent) (new : World (Unit {0})) → WorldStep bare w e new → Unasked w e new
unasked w (Desk caller call reply) new s = record { up = s.up; own = s.own; desk = s.desk; driver = s.driver; step = s.step; moves = s.moves; state = s.state }
unasked w (Vault call answer) new s = s
unasked w (Report r) new s = s
unasked w (Crash inside image) new s = s
unasked w (Open clients) new s = s

-- a client asks how a transaction ended that isn't its own last one, and is told of that one
abbrev pub never_begun : Txn
never_begun = record { client = 1; epoch = 9; ticket = 1 }

pub asking_is_wanted : HeadlineBy Unasked → ⊥
asking_is_wanted holds =
    let more : List WorldEvent = Desk 1 (Settled never_begun) (IsSettled (Some Committed)) ∷ [] in
    let run : LeadsBy Unasked w0 ((work ++ printed) ++ more) w10 = led_on Unasked unasked w0 (work ++ printed) w10 more w10 printed_is_world
    (w10, record { up = tt; own = inr refl; desk = d7; driver = AtRest; step = (refl, refl); moves = refl; state = refl }, refl) in
    let h : Headline bare w0 ((work ++ printed) ++ more) w10 = holds setup (1 ∷ []) at_zero 1 ((work ++ printed) ++ more) w10 run in
    let late : 9 ≤ 1 = (h.prefix None tt at_one (inl refl)).holds.1.0 in
    omega (arith, late)

-- ---- the driver's order

-- a call of the desk, wherever the driver is
pub record UnorderedCall (w : World (Unit {0})) (caller : ℕ) (call : Call) (reply : Reply) (new : World (Unit {0})) : Type 0 where
  pub up : IsUp w.driver
  pub own : IsCallOf caller call reply
  pub desk : DeskState
  pub driver : DriverAt
  pub may : MayCall w.desk call
  pub step : DeskStep w.desk call reply desk
  pub state : new ≡ record w { desk = desk; driver = driver }

abbrev pub Unordered : Steps
Unordered w (Desk caller call reply) new = UnorderedCall w caller call reply new
Unordered w e new = WorldStep bare w e new

-- a publish that no end came before
pub order_is_wanted : HeadlineBy Unordered → ⊥
order_is_wanted holds =
    let last : World (Unit {0}) = record r1 { desk = r_desk; driver = AtRest } in
    let events : List WorldEvent = Desk 0 Close (Writes []) ∷ Desk 0 (Publish 2 1) (Published blank) ∷ [] in
    let run : LeadsBy Unordered r0 events last = (
      r1,
      record { up = tt; own = inl (refl, tt); desk = r1.desk; driver = HasClosed []; may = (refl, refl, refl, refl); step = record { batch = refl; state = refl }; state = refl },
      (last, record { up = tt; own = inl (refl, tt); desk = r_desk; driver = AtRest; may = (refl, omega arith, refl, refl); step = record { part = blank_part; is_closed = refl; record_is = refl; state = refl }; state = refl }, refl),
    ) in
    (holds setup (1 ∷ []) at_zero 0 events last run).published blank (inl refl)

-- a call of the vault, wherever the driver is
pub record UnorderedVault (w : World (Unit {0})) (call : VaultCall) (answer : VaultAnswer) (new : World (Unit {0})) : Type 0 where
  pub vault : VaultState
  pub past : Unit {0}
  pub law : VaultStep w.vault call answer vault
  pub state : new ≡ record w { vault = vault; past = past; driver = behind_call call answer; ended = ended_with (Some call) w.desk w.vault w.ended }

abbrev pub Unclosed : Steps
Unclosed w (Vault call answer) new = UnorderedVault w call answer new
Unclosed w e new = WorldStep bare w e new

-- an end with writes that no close gave
pub close_is_wanted : HeadlineBy Unclosed → ⊥
close_is_wanted holds =
    let last : World (Unit {0}) = record r0 { vault = opened_vault 1 at_one 1; driver = HasEnded } in
    let run : LeadsBy Unclosed r0 (Vault (End writes) Ended ∷ []) last = (last, record { vault = last.vault; past = tt; law = record { serves = refl; answered = tt; state = refl }; state = refl }, refl) in
    let h : Headline bare r0 (Vault (End writes) Ended ∷ []) last = holds setup (1 ∷ []) at_zero 0 (Vault (End writes) Ended ∷ []) last run in
    let same : empty ≡ with_writes empty writes = (h.prefix None tt at_one (inl refl)).one_by_one in
    none-some (7 ∷ []) (sym (get-empty nat_cmp 5) ∙ ap (λ (m : Map nat_cmp). finite.get m 5) same ∙ get-after empty (map (λ w. write_op w.0 w.1) writes) 5)

-- a report, wherever the driver is
pub record UnorderedReport (w new : World (Unit {0})) : Type 0 where
  pub state : new ≡ record w { driver = AtRest }

abbrev pub Unpublished : Steps
Unpublished w (Report r) new = UnorderedReport w new
Unpublished w e new = WorldStep bare w e new

-- lines of a record that nobody published
pub publish_is_wanted : HeadlineBy Unpublished → ⊥
publish_is_wanted holds =
    let h : Headline bare r0 (Report blank ∷ []) r0 = holds setup (1 ∷ []) at_zero 0 (Report blank ∷ []) r0 (r0, record { state = refl }, refl) in
    let late : 1 ≤ 0 = (h.prefix None tt at_zero (inl refl)).holds.0 in
    omega (arith, late)

-- ---- the vault's law

-- a call of the vault that answers and leaves what it likes
pub record LawlessVault (w : World (Unit {0})) (call : VaultCall) (answer : VaultAnswer) (new : World (Unit {0})) : Type 0 where
  pub vault : VaultState
  pub past : Unit {0}
  pub was : w.driver ≡ before_call call
  pub state : new ≡ record w { vault = vault; past = past; driver = behind_call call answer; ended = ended_with (Some call) w.desk w.vault w.ended }

abbrev pub Lawless : Steps
Lawless w (Vault call answer) new = LawlessVault w call answer new
Lawless w e new = WorldStep bare w e new

-- it says that the epoch ended, and is where it was
pub law_is_wanted : HeadlineBy Lawless → ⊥
law_is_wanted holds =
    let mid : World (Unit {0}) = record r1 { driver = HasEnded; ended = blank ∷ [] } in
    let last : World (Unit {0}) = record mid { desk = r_desk; driver = HasTold blank } in
    let events : List WorldEvent = Desk 0 Close (Writes []) ∷ Vault (End []) Ended ∷ Desk 0 (Publish 2 1) (Published blank) ∷ [] in
    let run : LeadsBy Lawless r0 events last = (
      r1,
      record { up = tt; own = inl (refl, tt); desk = r1.desk; driver = HasClosed []; may = (refl, refl, refl, refl); step = record { batch = refl; state = refl }; moves = record { writes = []; was = refl; told = refl; now = refl }; state = refl },
      (
        mid,
        record { vault = r1.vault; past = tt; was = refl; state = refl },
        (
          last,
          record {
            up = tt;
            own = inl (refl, tt);
            desk = r_desk;
            driver = HasTold blank;
            may = (refl, omega arith, refl, refl);
            step = record { part = blank_part; is_closed = refl; record_is = refl; state = refl };
            moves = record { published = blank; was = refl; told = refl; now = refl };
            state = refl;
          },
          refl,
        ),
      ),
    ) in
    (holds setup (1 ∷ []) at_zero 0 events last run).published blank (inl refl)

-- ---- images that may be left, and openings of what stands

-- a crash that leaves any image, whatever that stands for
pub record AnyCrash (w : World (Unit {0})) (inside : Option VaultCall) (image : Image) (new : World (Unit {0})) : Type 0 where
  pub was : IsInsideCall w.driver inside
  pub left : Standing
  pub past : Unit {0}
  pub state : new ≡ record w { vault = cut_vault w.vault left; past = past; driver = IsDown; ended = ended_with inside w.desk w.vault w.ended }

abbrev pub Anywhere : Steps
Anywhere w (Crash inside image) new = AnyCrash w inside image new
Anywhere w e new = WorldStep bare w e new

anywhere : (w : World (Unit {0})) (e : WorldEvent) (new : World (Unit {0})) → WorldStep bare w e new → Anywhere w e new
anywhere w (Desk caller call reply) new s = s
anywhere w (Vault call answer) new s = s
anywhere w (Report r) new s = s
anywhere w (Crash inside image) new s = record { was = s.was; left = s.left; past = s.past; state = s.state }
anywhere w (Open clients) new s = s

-- behind an epoch that was reported the image of the epoch before
pub standing_is_wanted : HeadlineBy Anywhere → ⊥
standing_is_wanted holds =
    let last : World (Unit {0}) = record w10 { vault = cut_vault v2 at_one; driver = IsDown } in
    let more : List WorldEvent = Crash None (image_of 0) ∷ [] in
    let run : LeadsBy Anywhere w0 ((work ++ printed) ++ more) last = led_on Anywhere anywhere w0 (work ++ printed) w10 more last printed_is_world (last, record { was = tt; left = at_one; past = tt; state = refl }, refl) in
    let h : Headline bare w0 ((work ++ printed) ++ more) last = holds setup (1 ∷ []) at_zero 1 ((work ++ printed) ++ more) last run in
    let left = h.crashes (work ++ printed) [] None (image_of 0) refl in
    let zero_at : at_zero ≡ left.at = same_Some at_zero left.at left.stands in
    let late : 1 ≤ left.at.epoch = left.prefix.holds.0 in
    let is : 0 ≡ left.at.epoch = ap (λ (at : Standing). at.epoch) zero_at in
    omega (arith, late, is)

-- an opening that finds any epoch
pub record AnyOpening (w : World (Unit {0})) (clients : List ℕ) (new : World (Unit {0})) : Type 0 where
  pub found : Standing
  pub left : ℕ
  pub past : Unit {0}
  pub few : left ≤ w.vault.batches
  pub state : new ≡ record w { desk = new_desk w.desk.setup (suc found.epoch) left clients; vault = opened_vault w.vault.batches found left; past = past; driver = AtRest; found = found.content }

abbrev pub Anytime : Steps
Anytime w (Open clients) new = AnyOpening w clients new
Anytime w e new = WorldStep bare w e new

anytime : (w : World (Unit {0})) (e : WorldEvent) (new : World (Unit {0})) → WorldStep bare w e new → Anytime w e new
anytime w (Desk caller call reply) new s = s
anytime w (Vault call answer) new s = s
anytime w (Report r) new s = s
anytime w (Crash inside image) new s = s
anytime w (Open clients) new s = record { found = s.found; left = s.left; past = s.past; few = s.few; state = s.state }

-- behind an epoch that was reported the epoch before
pub finding_is_wanted : HeadlineBy Anytime → ⊥
finding_is_wanted holds =
    let last : World (Unit {0}) = record { desk = new_desk setup 1 1 (1 ∷ []); vault = opened_vault 1 at_zero 1; past = tt; driver = AtRest; found = empty; ended = told ∷ [] } in
    let more : List WorldEvent = Open (1 ∷ []) ∷ [] in
    let run : LeadsBy Anytime w0 ((work ++ printed) ++ more) last = led_on Anytime anytime w0 (work ++ printed) w10 more last printed_is_world (last, record { found = at_zero; left = 1; past = tt; few = omega arith; state = refl }, refl) in
    let h : Headline bare w0 ((work ++ printed) ++ more) last = holds setup (1 ∷ []) at_zero 1 ((work ++ printed) ++ more) last run in
    let late : 1 ≤ 0 = (h.prefix None tt at_zero (inl refl)).holds.0 in
    omega (arith, late)
