-- A run by threads: what the driver does, and the clients' turns between, in whatever order they come; and of the clients whose calls are made by hand, in rounds.
use Rattle.std.specs.Prelude.{ℕ, ◌≡◌, ◌⊎◌, ◌==◌, Bool, true, false, if◌then◌else◌, All, List, [], ◌∷◌, ◌++◌, length, map, take, drop, Option, Result}
use Rattle.std.specs.List.{list_any}
use Rattle.ob_serial.specs.VaultKinds.{Kind}
use Rattle.ob_desk.specs.Beats.{BeatKind}
use Rattle.ob_session.specs.Clients.{said_by, stands_after}
use Rattle.ob_session.specs.declared.runner.Step.TheVariants.{Done}
use Rattle.ob_conduct.specs.declared.run_err.RunErr.{RunErr}
use Rattle.ob_conduct.specs.Acts.{Act, Says, history}
use Rattle.ob_conduct.specs.Rounds.{InRounds}
use Rattle.ob_conduct.specs.Scenes.{RunState, RunnerKind}
use Rattle.ob_conduct.specs.Conducted.{Conducted, ByHand}
use Rattle.ob_driver.specs.Drives.{AreThings}

-- the acts that are the driver's
abbrev pub driven : List Act → List Act
driven [] = []
driven (Says client steps ∷ acts) = driven acts
driven (act ∷ acts) = act ∷ driven acts

-- whether the client is one of those made by hand
abbrev pub is_by_hand : List ℕ → ℕ → Bool
is_by_hand hand client = list_any (λ one. one == client) hand

-- the acts without the turns of clients that aren't among these
abbrev pub without_others : List ℕ → List Act → List Act
without_others hand [] = []
without_others hand (Says client steps ∷ acts) = if is_by_hand hand client then Says client steps ∷ without_others hand acts else without_others hand acts
without_others hand (act ∷ acts) = act ∷ without_others hand acts

-- the first list is the second one without some of its items
abbrev pub IsSublist : List ℕ → List ℕ → Type 0
IsSublist [] all = Unit {0}
IsSublist (x ∷ some) [] = ⊥
IsSublist (x ∷ some) (y ∷ all) = ((x ≡ y) × IsSublist some all) ⊎ IsSublist (x ∷ some) all

-- The last call of each client that isn't among these is its sign-off.
abbrev pub OthersSignedOff : List ℕ → List ℕ → List Act → Type 0
OthersSignedOff hand clients acts = All (λ client. is_by_hand hand client ≡ false → stands_after (said_by client (history acts)) ≡ Done) clients

-- So many clients' threads were tried, the first ones'. Those whose thread was refused, and the clients behind, were made by hand: but for the turns of the others, who all signed off, the acts are whole rounds of these, in their order.
pub record HandRounds (starts : ℕ) (clients : List ℕ) (acts : List Act) : Type 0 where
  pub refused : List ℕ
  pub some : IsSublist refused (take starts clients)
  pub rounds : InRounds (refused ++ drop starts clients) (without_others (refused ++ drop starts clients) acts)
  pub others : OthersSignedOff (refused ++ drop starts clients) clients acts

-- How the acts go where so many clients' threads were tried: the driver's are things that it does, one behind the other, and the clients have their turns between, as they come, but in rounds where they were made by hand.
pub record AreThreaded (starts : ℕ) (clients : List ℕ) (acts : List Act) : Type 0 where
  pub things : AreThings (driven acts)
  pub by_hand : HandRounds starts clients acts

-- a run of which so many clients' threads were tried
abbrev pub InThreads : {V U Plan : Type 0} → ℕ → Kind V → RunnerKind U Plan → BeatKind → RunState V U → RunState V U → Result (Unit {0}) RunErr → Type 0
InThreads starts k kind beat old new result = (acts : List Act) × Conducted k kind beat old new acts result × AreThreaded starts (map kind.client old.runners) acts

-- a run by threads, or by hand
abbrev pub RunsBy : {V U Plan : Type 0} → Bool → Kind V → RunnerKind U Plan → BeatKind → RunState V U → RunState V U → Result (Unit {0}) RunErr → Type 0
RunsBy true k kind beat old new result = InThreads (length old.runners) k kind beat old new result
RunsBy false k kind beat old new result = ByHand k kind beat old new result

-- How the acts of a run go: by hand in whole rounds of these clients; by threads as above, where each client's was tried.
abbrev pub AreShaped : Bool → List ℕ → List Act → Type 0
AreShaped true clients acts = AreThreaded (length clients) clients acts
AreShaped false clients acts = InRounds clients acts
