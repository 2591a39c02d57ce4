-- Acts of a store's life before a crash, the crash, and acts behind it.
use Rattle.std.proofs.Common.{◌≡◌, ◌∙◌, ℕ, List, [], ◌∷◌, ◌++◌, refl, sym, ap, subst}
use Rattle.ob_base.specs.Repeats.{NoRepeats}
use Rattle.ob_pads.proofs.Chains.{answers_join, lives_join}
use Rattle.ob_pads.specs.Laws.{PadsAreFresh}
use Rattle.ob_pads.specs.Lives.{Answered, At, AreUncrashed, Crashed, IsCrashed, IsFormattedStore, IsLife, LivesOn, Opened, StoreAct, Unopened, after_act, after_acts, answers_of, formatted_at, pads_of}
use Rattle.ob_pads.specs.Seals.{pads_from}
use Rattle.ob_seal.specs.declared.keys.Keys.{Keys}
use Rattle.ob_serial.specs.Vaults.{VaultAnswer}
use Rattle.ob_store.proofs.Moments.{no_later}
use Rattle.ob_store.specs.Disk.{Clock, Disk, Image, NotAfter}
use Rattle.ob_store.specs.Images.{IsSynced}

-- What lives that go on before a crash and behind it come to.
pub record AreJoined {S : Type 0} (disk : S → Disk) (keys : Keys) (formatted : S) (answers : List VaultAnswer) : Type 0 where
  pub acts : List (StoreAct S)
  pub is_life : IsLife disk keys (formatted_at formatted) acts
  pub answered : answers_of acts ≡ answers
  pub fresh : (seals : ℕ) → NoRepeats (pads_from 1 0 seals ++ pads_of (formatted_at formatted) acts)

module _ {S : Type 0} (disk : S → Disk) (keys : Keys) where
  -- the last act ended no earlier than it began
  later : (at : At S) (acts : List (StoreAct S)) → AreUncrashed acts → IsLife disk keys at acts → NotAfter (disk at.since).moment (disk at.store).moment
      → NotAfter (disk (after_acts at acts).since).moment (disk (after_acts at acts).store).moment
  later at [] calm life no_earlier = no_earlier
  later at (Opened store sealing ∷ acts) calm life no_earlier = later (after_act at (Opened store sealing)) acts calm life.1 life.0.goes.later
  later at (Unopened store ∷ acts) calm life no_earlier = later (after_act at (Unopened store)) acts calm life.1 life.0.goes.later
  later at (Answered store sealing answer ∷ acts) calm life no_earlier = later (after_act at (Answered store sealing answer)) acts calm life.1 life.0.2.goes.later
  later at (Crashed store ∷ acts) calm life no_earlier = absurd calm

  module _ (counts_now : (x : S) (t : Clock) (c : Image) → NotAfter t (disk x).moment → (disk x).may_leave c → (disk x).left_since t c) (pads : PadsAreFresh disk)
      (formatted ran left new : S) (first second : List VaultAnswer) (one : LivesOn disk keys formatted ran first) (two : LivesOn disk keys left new second) where
    abbrev start : At S
    start = formatted_at formatted

    abbrev stopped : At S
    stopped = after_acts start one.acts

    crash : (disk ran).may_leave (disk left).cells → IsSynced (disk left) → (disk left).tells → (disk left).leaves → IsCrashed (disk stopped.since) (disk stopped.store) (disk left)
    crash may sure tells leaves = record {
      left = counts_now stopped.store (disk stopped.since).moment (disk left).cells (later start one.acts one.uncrashed (one.life start refl) (no_later (disk formatted).moment))
          (subst (λ (x : S). (disk x).may_leave (disk left).cells) (sym (one.ends start refl)) may);
      sure = sure;
      tells = tells;
      leaves = leaves;
    }

    pub joined : IsFormattedStore disk keys formatted → (disk ran).may_leave (disk left).cells → IsSynced (disk left) → (disk left).tells → (disk left).leaves → AreJoined disk keys formatted (first ++ second)
    joined is may sure tells leaves =
        let acts : List (StoreAct S) = one.acts ++ Crashed left ∷ two.acts in
        let life : IsLife disk keys start acts = lives_join disk keys start one.acts (Crashed left ∷ two.acts) (one.life start refl) (crash may sure tells leaves, two.life (after_act stopped (Crashed left)) refl) in
        record {
          acts = acts;
          is_life = life;
          answered = answers_join one.acts (Crashed left ∷ two.acts) ∙ ap (λ (l : List VaultAnswer). l ++ answers_of two.acts) one.answers_are ∙ ap (λ (l : List VaultAnswer). first ++ l) two.answers_are;
          fresh = λ seals. pads keys seals formatted acts is life;
        }
