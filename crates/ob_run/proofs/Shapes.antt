-- A run by threads or by hand has a list of acts, of one shape or the other.
use Rattle.std.proofs.Common.{◌≡◌, ◌∙◌, ℕ, zero, suc, Bool, true, false, All, List, [], ◌∷◌, ◌++◌, length, map, take, drop, Result, Err, refl, sym, ap, subst, inl}
use Rattle.std.proofs.lemmas.List.{length-map}
use Rattle.std.proofs.lemmas.List.Elements.{All-nil, All-weaker}
use Rattle.ob_conduct.specs.declared.run_err.RunErr.{RunErr}
use Rattle.ob_conduct.specs.declared.run_err.RunErr.TheVariants as failed
use Rattle.ob_base.specs.declared.fault.Fault.TheVariants.{Memory}
use Rattle.ob_base.specs.declared.params.Params.{Params}
use Rattle.ob_serial.specs.VaultKinds.{Kind}
use Rattle.ob_desk.specs.Desk.{Setup, new_desk}
use Rattle.ob_desk.specs.Beats.{BeatKind}
use Rattle.ob_conduct.specs.Acts.{Act}
use Rattle.ob_conduct.specs.Rounds.{IsOneThing}
use Rattle.ob_conduct.specs.Scenes.{RunState, RunnerKind}
use Rattle.ob_conduct.specs.Conducted.{Conducted}
use Rattle.ob_conduct.proofs.Acting.{tells_none, written_none, printed_whole}
use Rattle.ob_conduct.proofs.Moving.{moves_none}
use Rattle.ob_conduct.proofs.Conducting.{finish, done_short}
use Rattle.ob_session.specs.Clients.{said_by, stands_after}
use Rattle.ob_session.specs.declared.runner.Step.TheVariants.{Done}
use Rattle.ob_run.specs.Threaded.{is_by_hand, IsSublist, OthersSignedOff, HandRounds, AreThreaded, InThreads, RunsBy, AreShaped}
use Rattle.ob_run.proofs.Rounds.{all_among}

pub runs_shaped : {V U Plan : Type 0} (threads : Bool) (k : Kind V) (kind : RunnerKind U Plan) (beat : BeatKind) (old new : RunState V U) (result : Result (Unit {0}) RunErr) → RunsBy threads k kind beat old new result
    → (acts : List Act) × Conducted k kind beat old new acts result × AreShaped threads (map kind.client old.runners) acts
runs_shaped true k kind beat old new result run = let (acts, d, threaded) = run in (acts, d, subst (λ n. AreThreaded n (map kind.client old.runners) acts) (sym (length-map old.runners kind.client)) threaded)
runs_shaped false k kind beat old new result run = run

-- ---- nothing was done, for want of memory

all_of : (xs : List ℕ) → IsSublist xs xs
all_of [] = tt
all_of (x ∷ xs) = inl (refl, all_of xs)

cut_back : (n : ℕ) (xs : List ℕ) → take n xs ++ drop n xs ≡ xs
cut_back zero xs = refl
cut_back (suc n) [] = refl
cut_back (suc n) (x ∷ xs) = ap (λ (l : List ℕ). x ∷ l) (cut_back n xs)

-- all were by hand, in no round
no_rounds : (starts : ℕ) (clients : List ℕ) → HandRounds starts clients []
no_rounds starts clients = record {
  refused = take starts clients;
  some = all_of (take starts clients);
  rounds = record { rounds = []; acts_are = refl; each = tt };
  others = subst (λ (hand : List ℕ). OthersSignedOff hand clients []) (sym (cut_back starts clients))
      (All-weaker (λ number. is_by_hand clients number ≡ true) (λ number. is_by_hand clients number ≡ false → stands_after (said_by number []) ≡ Done)
      (λ number is none. let no : true ≡ false = sym is ∙ none in absurd (cc no)) clients (all_among [] clients));
}

module _ {V U Plan : Type 0} (k : Kind V) (kind : RunnerKind U Plan) (p : Params) (beat : BeatKind) (old : RunState V U) (setup : Setup) (epoch left : ℕ) (clients : List ℕ) (fresh : old.scene.desk ≡ new_desk setup epoch left clients) where
  pub idle : (starts : ℕ) → All (λ u. kind.fits u []) old.runners → InThreads starts k kind beat old old (Err (failed.Fault Memory))
  idle starts none = (
    [],
    finish k kind p beat old setup epoch left clients fresh [] old old.scene.desk.running.epoch (Err (failed.Fault Memory)) (All-nil _) (moves_none k old.scene) (tells_none old.scene.desk.running.epoch old.scene.desk.running.epoch refl)
        (printed_whole [] old.output old.output (written_none old.output)) none tt refl refl refl (inl (record { fault_is = refl; none = refl; silent = refl })),
    record { things = record { things = []; acts_are = refl; each = All-nil IsOneThing }; by_hand = no_rounds starts (map kind.client old.runners) },
  )

pub short_by : {V U Plan : Type 0} (threads : Bool) (k : Kind V) (kind : RunnerKind U Plan) (p : Params) (beat : BeatKind) (old : RunState V U) (setup : Setup) (epoch left : ℕ) (clients : List ℕ)
    → old.scene.desk ≡ new_desk setup epoch left clients → All (λ u. kind.fits u []) old.runners → RunsBy threads k kind beat old old (Err (failed.Fault Memory))
short_by true k kind p beat old setup epoch left clients fresh none = idle k kind p beat old setup epoch left clients fresh (length old.runners) none
short_by false k kind p beat old setup epoch left clients fresh none = done_short k kind p beat old setup epoch left clients fresh none
