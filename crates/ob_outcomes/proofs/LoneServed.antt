-- The counts of a lone client's script, of a run that serves it.
use Rattle.std.proofs.Common.{◌≡◌, ℕ, suc, ◌<◌, ◌^◌, List, [], ◌∷◌, length, All, None, sym, subst, nat_cmp}
use Rattle.std.specs.FinMap as finite
use Rattle.ob_base.specs.declared.params.Params.{Params}
use Rattle.ob_serial.specs.Serial.{Map, EpochRecord}
use Rattle.ob_desk.specs.Desk.{MayOpen, Run, new_desk, setup_of}
use Rattle.ob_desk.specs.Beats.{BeatKind}
use Rattle.ob_script.specs.Script.{Scripts}
use Rattle.ob_conduct.specs.Acts.{Act, history}
use Rattle.ob_outcomes.specs.Lone.{AsksFew}
use Rattle.ob_outcomes.specs.Served.{IsServed, IsPatient, IsLonely, ClientsServed, ClientsServedAll}
use Rattle.ob_outcomes.specs.Sums.{IsAdder, CountsUp, CountsAll}
use Rattle.ob_outcomes.proofs.Counted.{lone_counts_up}

pub served_counts : (Shape : List Act → Type 0) (IsMap : Map nat_cmp → Type 0) (beat : BeatKind) (p : Params) (epoch left client : ℕ) (script : Scripts) (told : List (EpochRecord ℕ)) (m last : Map nat_cmp) (s : IsServed Shape IsMap beat (setup_of p) epoch left script told)
    → script.clients ≡ client ∷ [] → IsPatient beat → MayOpen (setup_of p) (suc epoch) left script.clients
    → Run m (new_desk (setup_of p) (suc epoch) left script.clients) (history s.evidence.acts) last s.evidence.desk
    → All IsAdder script.txns → All (λ t. t.client ≡ client) script.txns → All (AsksFew left p) script.txns → length script.txns < 2 ^ 62 → ((key : ℕ) → finite.get m key ≡ None)
    → CountsUp m script.txns told × (ClientsServedAll script told → CountsAll m script.txns told)
served_counts Shape IsMap beat p epoch left client script told m last s one patient may run adders own few short empty =
    subst (λ (rs : List (EpochRecord ℕ)). CountsUp m script.txns rs × (ClientsServedAll script rs → CountsAll m script.txns rs)) (sym s.told_are)
    (lone_counts_up beat p (suc epoch) left client script s.evidence.acts s.evidence.desk m last
    (subst (λ l. MayOpen (setup_of p) (suc epoch) left l) one may) s.evidence.allowed
    (subst (λ l. Run m (new_desk (setup_of p) (suc epoch) left l) (history s.evidence.acts) last s.evidence.desk) one run) adders own few short empty
    (subst (ClientsServed script) s.told_are s.first)
    (subst (λ (rs : List (EpochRecord ℕ)). All (λ r. All (λ t. IsLonely t.outcome) r.txns) rs) s.told_are (s.alone client one patient))
    (subst (λ (rs : List (EpochRecord ℕ)). All (λ r. 0 < length r.txns) rs) s.told_are s.some))
