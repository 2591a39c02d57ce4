-- The stages of an opening, and of a run's calls, one behind the other.
use Rattle.std.proofs.Common.{◌≡◌, ◌∙◌, Bool, true, false, List, [], ◌∷◌, ◌++◌, map, ℕ, Option, Some, None, refl, subst, sym}
use Rattle.std.proofs.lemmas.List.{append-nil, append_assoc, map-append}
use Rattle.ob_base.specs.declared.params.Params.{Params}
use Rattle.ob_opening.specs.OpeningRuns.{IsRingOpened, OpensFrom}
use Rattle.ob_opening.specs.declared.opening.Opening.{Opening}
use Rattle.ob_seal.specs.declared.keys.Keys.{Keys}
use Rattle.ob_serial.specs.VaultKinds.{AllCalled, Called, Kind}
use Rattle.ob_serial.specs.Vaults.{VaultAnswer, VaultCall}
use Rattle.ob_store.specs.Disk.{Clock, Disk, Image, NotAfter}
use Rattle.ob_store.specs.Lines.{Trace}
use Rattle.ob_vault.proofs.Opening.{ring_opens_standing}
use Rattle.ob_vault.proofs.Staging.{ring_opens_staged}
use Rattle.ob_vault.specs.KindShown.{AreDrawn, public_behind}
use Rattle.ob_vault.specs.Kinds.{StoreKind}
use Rattle.ob_vault.specs.RingKind.{ring_kind}
use Rattle.ob_vault.specs.RingLaws.{ReadsHead}
use Rattle.ob_vault.specs.RingLives.{ring_lives}
use Rattle.ob_vault.specs.Shapes.{Shape, shape_of}
use Rattle.ob_top.specs.Parts.{head_cells}
use Rattle.ob_top.specs.Staged.{CallsAre, LastIs, OpensInStages}

-- a ring store was opened
pub opens_in_stages : {S L : Type 0} (disk : S → Disk) (counts_now : (x : S) (t : Clock) (c : Image) → NotAfter t (disk x).moment → (disk x).may_leave c → (disk x).left_since t c) (only_now : (x : S) (c : Image) → (disk x).left_since (disk x).moment c → (disk x).may_leave c)
    (keys : Keys) (most : ℕ) (p : Params) (old mid new : S) → ReadsHead (disk old) (disk mid) → (shown later : Trace) (o : Opening L) → IsRingOpened disk keys most p mid new shown later o → OpensFrom disk keys p mid new → OpensInStages head_cells ring_kind ring_lives disk keys p old new
opens_in_stages disk counts_now only_now keys most p old mid new head shown later o is leaves = record {
  standing = ring_opens_standing disk keys p old mid new head leaves;
  stages = ring_opens_staged disk counts_now only_now keys p old mid new head (record { found = is.found; found_in = λ tells. (is.told tells).found_in; begins = is.begins });
}

-- what was drawn by these calls, and by one more
pub drawn_more : (store : StoreKind) (p : Params) (h mid : store.Hidden) (calls : List VaultCall) (steps : List (Shape × store.Drawn)) (call : VaultCall) (step : Shape × store.Drawn) (behind : store.Hidden) → AreDrawn store p h calls steps mid → store.draws p mid call step.1 behind
    → AreDrawn store p h (calls ++ call ∷ []) (steps ++ step ∷ []) behind
drawn_more store p h mid [] [] call step behind same draws = (behind, subst (λ (x : store.Hidden). store.draws p x call step.1 behind) same draws, refl)
drawn_more store p h mid (c ∷ calls) (s ∷ steps) call step behind (next, one, rest) draws = (next, one, drawn_more store p next mid calls steps call step behind rest draws)
drawn_more store p h mid [] (s ∷ steps) call step behind none draws = absurd none
drawn_more store p h mid (c ∷ calls) [] call step behind none draws = absurd none

-- a call more
pub called_more : {V : Type 0} (k : Kind V) (a b c : V) (asked : List (VaultCall × VaultAnswer)) (call : VaultCall) (answer : VaultAnswer) → AllCalled k a asked b → Called k b call answer c → AllCalled k a (asked ++ (call, answer) ∷ []) c
called_more k a b c [] call answer same one = (c, subst (λ v. Called k v call answer c) same one, refl)
called_more k a b c (step ∷ asked) call answer (mid, first, rest) one = (mid, first, called_more k mid b c asked call answer rest one)

-- what is public behind these calls, and one more
public_more : (store : StoreKind) (p : Params) (q : store.Public) (taken : List (Shape × store.Drawn)) (step : Shape × store.Drawn) → store.next p (public_behind store p q taken) step.0 step.1 ≡ public_behind store p q (taken ++ step ∷ [])
public_more store p q [] step = refl
public_more store p q (s ∷ taken) step = public_more store p (store.next p q s.0 s.1) taken step

-- what may be so of a call
abbrev pub OfCall : StoreKind → Type 0 → Type 1
OfCall store S = List VaultCall → List (Shape × store.Drawn) → store.Public → store.Hidden → VaultCall → (words : List ℕ) → (answered : Bool) → (old new : S) → Type 0

module _ (store : StoreKind) (p : Params) {S : Type 0} where
  -- calls that were all answered, and then one that was refused
  pub calls_then : (IsSo : OfCall store S) (call : VaultCall) (ws words : List ℕ) (behind : store.Hidden) (mid new : S) (done : List VaultCall) (taken : List (Shape × store.Drawn)) (q : store.Public) (h : store.Hidden) (calls : List VaultCall) (steps : List (Shape × store.Drawn)) (old : S)
      → CallsAre store p IsSo None ws behind mid done taken q h calls steps old → IsSo (done ++ calls) (taken ++ steps) (public_behind store p q steps) behind call words false mid new → CallsAre store p IsSo (Some call) words behind new done taken q h calls steps old
  calls_then IsSo call ws words behind mid new done taken q h [] [] old (same, still) one = (
    same,
    subst (λ (x : S). IsSo done taken q behind call words false x new) still
        (subst (λ (l : List VaultCall). IsSo l taken q behind call words false mid new) (append-nil done) (subst (λ (l : List (Shape × store.Drawn)). IsSo (done ++ []) l q behind call words false mid new) (append-nil taken) one)),
  )
  calls_then IsSo call ws words behind mid new done taken q h (c ∷ calls) (s ∷ steps) old (next, given, then, draws, tape, first, rest) one = (
    next,
    given,
    then,
    draws,
    tape,
    first,
    calls_then IsSo call ws words behind mid new (done ++ c ∷ []) (taken ++ s ∷ []) (store.next p q s.0 s.1) then calls steps next rest
        (subst (λ (l : List VaultCall). IsSo l ((taken ++ s ∷ []) ++ steps) (public_behind store p q (s ∷ steps)) behind call words false mid new) (sym (append_assoc done (c ∷ []) calls))
        (subst (λ (l : List (Shape × store.Drawn)). IsSo (done ++ c ∷ calls) l (public_behind store p q (s ∷ steps)) behind call words false mid new) (sym (append_assoc taken (s ∷ []) steps)) one)),
  )
  calls_then IsSo call ws words behind mid new done taken q h [] (s ∷ steps) old none one = absurd none
  calls_then IsSo call ws words behind mid new done taken q h (c ∷ calls) [] old none one = absurd none

  -- what follows for each call from what is so of it, behind calls that drew this
  module _ (IsSo Then : OfCall store S) (q0 : store.Public) (h0 : store.Hidden)
      (each : (done : List VaultCall) (taken : List (Shape × store.Drawn)) (h : store.Hidden) (call : VaultCall) (words : List ℕ) (answered : Bool) (old new : S) → AreDrawn store p h0 done taken h → map (λ s. s.0) taken ≡ map shape_of done
      → IsSo done taken (public_behind store p q0 taken) h call words answered old new → Then done taken (public_behind store p q0 taken) h call words answered old new)
      (last : Option VaultCall) (words : List ℕ) (behind : store.Hidden) (new : S) where
    last_each : (refused : Option VaultCall) (done : List VaultCall) (taken : List (Shape × store.Drawn)) (h : store.Hidden) (old : S) → AreDrawn store p h0 done taken h → map (λ s. s.0) taken ≡ map shape_of done → behind ≡ h
        → LastIs store p IsSo last words behind new refused done taken (public_behind store p q0 taken) old → LastIs store p Then last words behind new refused done taken (public_behind store p q0 taken) old
    last_each None done taken h old drawn shaped same is = is
    last_each (Some call) done taken h old drawn shaped same is = each done taken behind call words false old new (subst (λ (x : store.Hidden). AreDrawn store p h0 done taken x) (sym same) drawn) shaped is

    pub calls_each : (done : List VaultCall) (taken : List (Shape × store.Drawn)) (h : store.Hidden) (calls : List VaultCall) (steps : List (Shape × store.Drawn)) (old : S) → AreDrawn store p h0 done taken h → map (λ s. s.0) taken ≡ map shape_of done → map (λ s. s.0) steps ≡ map shape_of calls
        → CallsAre store p IsSo last words behind new done taken (public_behind store p q0 taken) h calls steps old → CallsAre store p Then last words behind new done taken (public_behind store p q0 taken) h calls steps old
    calls_each done taken h [] [] old drawn shaped shapes (same, is) = (same, last_each last done taken h old drawn shaped same is)
    calls_each done taken h (call ∷ calls) (step ∷ steps) old drawn shaped shapes (mid, given, then, draws, tape, first, rest) =
        let more : CallsAre store p IsSo last words behind new (done ++ call ∷ []) (taken ++ step ∷ []) (public_behind store p q0 (taken ++ step ∷ [])) then calls steps mid =
        subst (λ (q : store.Public). CallsAre store p IsSo last words behind new (done ++ call ∷ []) (taken ++ step ∷ []) q then calls steps mid) (public_more store p q0 taken step) rest in
        let parts = same_first step.0 (shape_of call) (map (λ s. s.0) steps) (map shape_of calls) shapes in
        let shaped_more : map (λ s. s.0) (taken ++ step ∷ []) ≡ map shape_of (done ++ call ∷ []) =
        map-append (λ s. s.0) taken (step ∷ []) ∙ (λ i. shaped i ++ parts.0 i ∷ []) ∙ sym (map-append shape_of done (call ∷ [])) in
        let later = calls_each (done ++ call ∷ []) (taken ++ step ∷ []) then calls steps mid (drawn_more store p h0 h done taken call step then drawn draws) shaped_more parts.1 more in (
          mid,
          given,
          then,
          draws,
          tape,
          each done taken h call given true old mid drawn shaped first,
          subst (λ (q : store.Public). CallsAre store p Then last words behind new (done ++ call ∷ []) (taken ++ step ∷ []) q then calls steps mid) (sym (public_more store p q0 taken step)) later,
        )
      where
        same_first : (a b : Shape) (xs ys : List Shape) → a ∷ xs ≡ b ∷ ys → (a ≡ b) × (xs ≡ ys)
        same_first a b xs ys e = (cc e, cc e)
    calls_each done taken h [] (step ∷ steps) old drawn shaped shapes none = absurd none
    calls_each done taken h (call ∷ calls) [] old drawn shaped shapes none = absurd none
