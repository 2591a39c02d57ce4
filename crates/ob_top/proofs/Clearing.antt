-- The calls of a run, those that were answered and the one that cut it off: what they leave in the clear.
use Rattle.std.proofs.Common.{◌≡◌, ◌∙◌, List, [], ◌∷◌, ◌++◌, Option, Some, None, inl, refl, sym, ap, subst}
use Rattle.ob_conduct.specs.Records.{AreAnswered}
use Rattle.ob_conduct.specs.declared.run_err.RunErr.{RunErr}
use Rattle.ob_pads.proofs.Chains.{told_first}
use Rattle.ob_pads.specs.Laws.{AllServed, NoneServed}
use Rattle.ob_pads.specs.Lives.{Answers}
use Rattle.ob_seal.specs.Sealing.{Sealing}
use Rattle.ob_seal.specs.declared.keys.Keys.{Keys}
use Rattle.ob_serial.specs.VaultKinds.{AllCalled, Kind}
use Rattle.ob_serial.specs.Vaults.{DoubtBy, End, Ended, Fetch, RefusedBy, Values, VaultAnswer, VaultCall}
use Rattle.ob_store.specs.Disk.{Disk}
use Rattle.ob_store.specs.declared.watch.Note.{Note}
use Rattle.ob_twin.proofs.Clear.{both_clear, clear_but, none_clear}
use Rattle.ob_twin.specs.Clear.{AreInClear, AreInClearBut}
use Rattle.ob_twin.specs.Keyed.{tagging}
use Rattle.ob_top.specs.Parts.{IsInClearBehind}

-- none, or one that wasn't answered, which cut the run off
abbrev pub IsCut : List (VaultCall × VaultAnswer) → Option RunErr → Type 0
IsCut [] err = Unit {0}
IsCut (step ∷ []) None = ⊥
IsCut (step ∷ []) (Some err) = NoneServed (step ∷ [])
IsCut (step ∷ other ∷ rest) err = ⊥

-- The calls of a run in two parts: those that were answered, behind which the vault is so, and at most one that wasn't.
pub record Parted {V : Type 0} (k : Kind V) (first last : V) (asked : List (VaultCall × VaultAnswer)) (err : Option RunErr) (IsAt : V → Type 0) : Type 0 where
  pub front : List (VaultCall × VaultAnswer)
  pub rest : List (VaultCall × VaultAnswer)
  pub mid : V
  pub are : front ++ rest ≡ asked
  pub called : AllCalled k first front mid
  pub answered : AreAnswered front
  pub is_at : IsAt mid
  pub more : AllCalled k mid rest last
  pub cut : IsCut rest err

pub all_served : (steps : List (VaultCall × VaultAnswer)) → AreAnswered steps → AllServed steps
all_served [] are = tt
all_served ((Fetch keys, Values values) ∷ steps) are = all_served steps are
all_served ((End writes, Ended) ∷ steps) are = all_served steps are
all_served ((Fetch keys, Ended) ∷ steps) are = absurd are
all_served ((Fetch keys, RefusedBy fault) ∷ steps) are = absurd are
all_served ((Fetch keys, DoubtBy fault) ∷ steps) are = absurd are
all_served ((End writes, Values values) ∷ steps) are = absurd are
all_served ((End writes, RefusedBy fault) ∷ steps) are = absurd are
all_served ((End writes, DoubtBy fault) ∷ steps) are = absurd are

pub none_served : (rest : List (VaultCall × VaultAnswer)) (err : Option RunErr) → IsCut rest err → NoneServed rest
none_served [] err cut = tt
none_served (step ∷ []) None cut = absurd cut
none_served (step ∷ []) (Some err) cut = cut
none_served (step ∷ other ∷ rest) err cut = absurd cut

module _ {V S : Type 0} (kind : Kind V) (disk : S → Disk) (store : V → S) (sealing : V → Sealing)
    (each : (v w : V) (call : VaultCall) (answer : VaultAnswer) (notes : List Note) → kind.called v call answer notes w → (disk (store w)).tells → Answers (disk (store v)) (disk (store w)) (sealing v) (sealing w) answer)
    (keys : Keys) where
  -- a call that was answered, and others
  on : (v mid w : V) → (sealing v).keys ≡ keys → (sealing mid).keys ≡ (sealing v).keys → AreInClear (tagging (sealing v).keys) (disk (store v)).cells (disk (store mid)).cells
      → ((sealing mid).keys ≡ keys → AreInClear (tagging keys) (disk (store mid)).cells (disk (store w)).cells × ((sealing w).keys ≡ keys))
      → AreInClear (tagging keys) (disk (store v)).cells (disk (store w)).cells × ((sealing w).keys ≡ keys)
  on v mid w keyed same one rest =
      let (clear, now) = rest (same ∙ keyed) in
      (both_clear (tagging keys) (disk (store v)).cells (disk (store mid)).cells (disk (store w)).cells (subst (λ (x : Keys). AreInClear (tagging x) (disk (store v)).cells (disk (store mid)).cells) keyed one) clear, now)

  pub served_clear : (v w : V) (front : List (VaultCall × VaultAnswer)) → (disk (store w)).tells → AllCalled kind v front w → AllServed front → (sealing v).keys ≡ keys → AreInClear (tagging keys) (disk (store v)).cells (disk (store w)).cells × ((sealing w).keys ≡ keys)
  served_clear v w [] tells same all keyed = (
    subst (λ (x : V). AreInClear (tagging keys) (disk (store v)).cells (disk (store x)).cells) (sym same) (none_clear (tagging keys) (disk (store v)).cells (disk (store v)).cells (λ cell low. refl)),
    ap (λ (x : V). (sealing x).keys) same ∙ keyed,
  )
  served_clear v w ((call, Values values) ∷ front) tells (mid, one, more) all keyed =
      let act = each v mid call (Values values) one.notes one.called (told_first kind disk store sealing each keys mid w front tells more) in
      on v mid w keyed act.further.keys act.clear (λ now. served_clear mid w front tells more all now)
  served_clear v w ((call, Ended) ∷ front) tells (mid, one, more) all keyed =
      let act = each v mid call Ended one.notes one.called (told_first kind disk store sealing each keys mid w front tells more) in
      on v mid w keyed act.further.keys act.clear (λ now. served_clear mid w front tells more all now)
  served_clear v w ((call, RefusedBy fault) ∷ front) tells (mid, one, more) all keyed = absurd all
  served_clear v w ((call, DoubtBy fault) ∷ front) tells (mid, one, more) all keyed = absurd all

  module _ (old : Disk) (mid w : V) (first : AreInClear (tagging keys) old.cells (disk (store mid)).cells) (keyed : (sealing mid).keys ≡ keys) (tells : (disk (store w)).tells) where
    abbrev But : V → Type 0
    But x = AreInClearBut (tagging keys) (disk (store x)).seen old.cells (disk (store x)).cells

    last_but : (next : V) → w ≡ next → AreInClearBut (tagging (sealing mid).keys) (disk (store next)).seen (disk (store mid)).cells (disk (store next)).cells → But w
    last_but next same one =
        subst But (sym same)
        (clear_but (tagging keys) old.cells (disk (store mid)).cells (disk (store next)).cells first (disk (store next)).seen
        (subst (λ (x : Keys). AreInClearBut (tagging x) (disk (store next)).seen (disk (store mid)).cells (disk (store next)).cells) keyed one))

    pub rest_clear : (rest : List (VaultCall × VaultAnswer)) (err : Option RunErr) → AllCalled kind mid rest w → IsCut rest err → IsInClearBehind keys old (disk (store w)) err
    rest_clear [] None same cut = subst (λ (x : V). AreInClear (tagging keys) old.cells (disk (store x)).cells) (sym same) first
    rest_clear [] (Some err) same cut = subst But (sym same) (λ cell low. inl (first cell low))
    rest_clear ((call, RefusedBy fault) ∷ []) (Some err) (next, one, same) cut =
        last_but next same (each mid next call (RefusedBy fault) one.notes one.called (subst (λ (x : V). (disk (store x)).tells) same tells)).clear
    rest_clear ((call, DoubtBy fault) ∷ []) (Some err) (next, one, same) cut =
        last_but next same (each mid next call (DoubtBy fault) one.notes one.called (subst (λ (x : V). (disk (store x)).tells) same tells)).clear
    rest_clear ((call, Values values) ∷ []) (Some err) more cut = absurd cut
    rest_clear ((call, Ended) ∷ []) (Some err) more cut = absurd cut
    rest_clear (step ∷ []) None more cut = absurd cut
    rest_clear (step ∷ other ∷ rest) err more cut = absurd cut
