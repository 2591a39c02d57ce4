-- A run's acts are a list of the world's events, whatever its vault.
use Rattle.std.proofs.Common.{ℕ, zero, suc, Bool, true, false, List, [], ◌∷◌, ◌++◌, refl, ap}
use Rattle.std.specs.List.{All}
use Rattle.ob_conduct.specs.Acts.{Act, IsAllowed, calls, history}
use Rattle.ob_desk.specs.Beats.{BeatKind}
use Rattle.ob_desk.specs.Desk.{DeskState, Setup, new_desk}
use Rattle.ob_driver.specs.Drives.{AreThings}
use Rattle.ob_run.specs.Threaded.{AreShaped, driven}
use Rattle.ob_seal.specs.declared.keys.Keys.{Keys}
use Rattle.ob_serial.specs.VaultKinds.{AllCalled, Kind}
use Rattle.ob_serial.specs.Vaults.{Standing, VaultAnswer, VaultCall}
use Rattle.ob_session.specs.Steps.{Leads}
use Rattle.ob_vault.specs.Kinds.{StoreKind, opened_with}
use Rattle.ob_world.proofs.Holding.{headline}
use Rattle.ob_world.proofs.Running.{rounds_are_things}
use Rattle.ob_world.proofs.Weaving.{acts_are_a_world}
use Rattle.ob_world.specs.Courses.{course_of}
use Rattle.ob_world.specs.Laws.{IsOneRun, IsWovenWorld}
use Rattle.ob_world.specs.Weaves.{CallIsDue, Due, MadeCall, NothingIsDue, ReportIsDue, asked_left, calls_made, due_behind, events_due, reports_left, reports_of, woven, woven_from}
use Rattle.ob_world.specs.Worlds.{IsWorld, World, WorldEvent, Desk, Vault, Report, Crash, Open, first_world}
use Rattle.ob_top.specs.Listed.{AreListed, ListsHold, store_course}

-- ---- no crash and no opening

due_one_run : (due : Due) (asked : List (VaultCall × VaultAnswer)) (reports : ℕ) (more : List WorldEvent) → IsOneRun more → IsOneRun (events_due due asked reports ++ more)
due_one_run NothingIsDue asked reports more one = one
due_one_run CallIsDue [] reports more one = one
due_one_run CallIsDue (step ∷ asked) reports more one = one
due_one_run (ReportIsDue told) asked zero more one = one
due_one_run (ReportIsDue told) asked (suc reports) more one = one

one_run : (made : List MadeCall) (asked : List (VaultCall × VaultAnswer)) (reports : ℕ) → IsOneRun (woven_from made asked reports)
one_run [] asked reports = tt
one_run (one ∷ made) asked reports =
    let due = due_behind one.call one.reply in
    due_one_run due asked reports (woven_from made (asked_left due asked) (reports_left due reports)) (one_run made (asked_left due asked) (reports_left due reports))

module _ {V : Type 0} (k : Kind V) (store : StoreKind) (keys : Keys) (setup : Setup) where
  -- a world of which the past is forgotten
  abbrev forget : World V → World (Unit {0})
  forget w = record { desk = w.desk; vault = w.vault; past = tt; driver = w.driver; found = w.found; ended = w.ended }

  forgotten : (events : List WorldEvent) (w last : World V) → IsOneRun events → IsWorld (course_of k) w events last → IsWorld (store_course store keys setup.params) (forget w) events (forget last)
  forgotten [] w last one same = ap forget same
  forgotten (Desk caller call reply ∷ events) w last one (mid, e, rest) = (
    forget mid,
    record { up = e.up; own = e.own; desk = e.desk; driver = e.driver; may = e.may; step = e.step; moves = e.moves; state = ap forget e.state },
    forgotten events mid last one rest,
  )
  forgotten (Vault call answer ∷ events) w last one (mid, e, rest) = (
    forget mid,
    record { vault = e.vault; past = tt; law = e.law; called = tt; was = e.was; state = ap forget e.state },
    forgotten events mid last one rest,
  )
  forgotten (Report told ∷ events) w last one (mid, e, rest) = (forget mid, record { was = e.was; state = ap forget e.state }, forgotten events mid last one rest)
  forgotten (Crash inside image ∷ events) w last one leads = absurd one
  forgotten (Open clients ∷ events) w last one leads = absurd one

  are_things : (threads : Bool) (clients : List ℕ) (acts : List Act) → AreShaped threads clients acts → AreThings (driven acts)
  are_things true clients acts shaped = shaped.things
  are_things false clients acts shaped = rounds_are_things clients acts shaped

  -- from an opening at this standing on
  pub are_listed : (at : Standing) (left : ℕ) (clients : List ℕ) (beat : BeatKind) (threads : Bool) (start last : V) (acts : List Act) (d : DeskState) → k.holds start (opened_with setup.params left at) → AllCalled k start (calls acts) last
      → All (IsAllowed beat) acts → Leads (new_desk setup (suc at.epoch) left clients) (history acts) d → AreShaped threads clients acts → AreListed store keys setup at left clients acts
  are_listed at left clients beat threads start last acts d holds chain allowed leads shaped =
      let w : IsWovenWorld k setup clients (opened_with setup.params left at) start last acts d = acts_are_a_world k setup clients (opened_with setup.params left at) start last acts d
      (record { beat = beat; allowed = allowed; leads = leads; chain = chain; holds = holds; fresh = refl }) (are_things threads clients acts shaped) in
      (forget w.last, forgotten (woven acts (reports_of acts)) (first_world setup clients at left start) w.last (one_run (calls_made acts) (calls acts) (reports_of acts)) w.leads)

pub lists_hold : (store : StoreKind) → ListsHold store
lists_hold store keys p = headline (store_course store keys p)
