-- Scripts' runners call nothing behind their sign-off, and may be run over a new desk.
use Rattle.std.proofs.Common.{◌≡◌, ◌∙◌, ◌≤◌, ◌^◌, ℕ, Bool, if◌then◌else◌, All, List, [], map, Some, None, sym, subst, arith, length}
use Rattle.std.proofs.lemmas.List.Elements.{All-weaker}
use Rattle.ob_base.specs.declared.params.Params.{Params}
use Rattle.ob_desk.specs.Desk as desk
use Rattle.ob_shares.specs.declared.shares.Shares.{Shares}
use Rattle.ob_shares.specs.Shares.{AreFitting}
use Rattle.ob_desk.specs.Desk.{MayOpen, setup_with}
use Rattle.ob_session.specs.Clients.{told_of, was_refused}
use Rattle.ob_script.specs.Script.{Scripts, AreSound}
use Rattle.ob_runner.specs.declared.runner.ScriptRunner.{ScriptRunner}
use Rattle.ob_runner.specs.RunnerViews.{client_of, bound_of, MayHaveMade}
use Rattle.ob_runner.specs.Runners.{IsNewOf, AreRunners}
use Rattle.ob_runner.specs.Turns.{script_call, MakesCall, IsScriptTurn}
use Rattle.ob_run.specs.Ends.{IsQuiet}

pub scripts_are_quiet : IsQuiet IsScriptTurn
scripts_are_quiet script client said steps turn off =
    subst (λ (b : Bool). MakesCall (if b then None else Some (if was_refused said then desk.SignOff client else script_call client script (told_of said))) steps) off turn

pub may_open : (p : Params) (shares : Shares) (epoch left : ℕ) (script : Scripts) → epoch ≤ 2 ^ 62 → left ≤ p.batches → AreSound script → AreFitting shares (length script.clients) p.places p.writes → MayOpen (setup_with p shares) epoch left script.clients
may_open p shares epoch left script small few sound fit = record { few_left = few; low_epoch = small; named = sound.named; rising = sound.rising; fit = fit }

module _ (script : Scripts) (runners : List ScriptRunner) (are : AreRunners script runners) where
  pub none_made : All (λ u. MayHaveMade u []) runners
  none_made = All-weaker (IsNewOf script) (λ u. MayHaveMade u []) (λ u n. n.fits) runners are.new

  pub below_all : (keys : ℕ) → script.keys ≡ keys → All (λ u. bound_of u ≤ keys) runners
  below_all keys same = All-weaker (IsNewOf script) (λ u. bound_of u ≤ keys) (λ u n. let b = n.bound ∙ same in omega (arith, b)) runners are.new

  pub opens_all : (p : Params) (shares : Shares) (epoch left : ℕ) → MayOpen (setup_with p shares) epoch left script.clients → MayOpen (setup_with p shares) epoch left (map client_of runners)
  opens_all p shares epoch left may = subst (MayOpen (setup_with p shares) epoch left) (sym are.clients_are) may
