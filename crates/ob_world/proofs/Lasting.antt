-- What a crash leaves from one place of a run on to a later one.
use Rattle.std.proofs.Common.{◌≡◌, ℕ, suc, ◌≤◌, List, [], ◌∷◌, ◌++◌, None, Some, refl, sym, ap, ◌∙◌, subst, inl, inr, ◌⊎◌, ⊎_elim, arith, nat_cmp}
use Rattle.std.proofs.lemmas.Option.{none-some}
use Rattle.ob_store.specs.Disk.{Image}
use Rattle.ob_store.specs.Images.{IsImageOf, LeavesOnly}
use Rattle.ob_store.proofs.Moments.{started, then_on, weakened}
use Rattle.ob_serial.specs.Serial.{EpochRecord, Map}
use Rattle.ob_serial.specs.Vaults.{VaultCall, Fetch, End, VaultAnswer, Values, Ended, RefusedBy, DoubtBy, VaultState, Standing, StandsIn, MayStandIn, vault_next, IsAnswer}
use Rattle.ob_serial.specs.VaultKinds.{Kind, Called}
use Rattle.ob_desk.specs.Desk as desk
use Rattle.ob_desk.specs.Desk.{DeskState, Call, Reply}
use Rattle.ob_conduct.specs.Left.{Rests as CrashesRest, OnlyNow}
use Rattle.ob_world.specs.Courses.{Course, course_of}
use Rattle.ob_world.specs.Drivers.{DriverAt, HasDoubt, HasFailed, IsDown, MovesDriver, before_call, behind_call}
use Rattle.ob_world.specs.Worlds.{WorldEvent, Desk, Vault, Report, Crash, Open, World, IsWorld, VaultEvent, first_world, ended_with, records_up_to}
use Rattle.ob_world.specs.Headlines.{acknowledged, acknowledged_by, told_behind, told_since, AreUpTo, IsPrefix}
use Rattle.ob_world.specs.Laws.{IsOneRun, MomentsArePrefixes}
use Rattle.ob_world.proofs.Driving.{AtDriver}
use Rattle.ob_world.proofs.Keeping.{Inv, Kept, Ran, step_kept, ran, moment}
use Rattle.ob_world.proofs.Holding.{inv_first, prefix_later}

-- ---- behind a refused end no other is made in the run

abbrev HasGivenUp : DriverAt → Type 0
HasGivenUp (HasFailed fault) = Unit {0}
HasGivenUp (HasDoubt fault) = Unit {0}
HasGivenUp _ = ⊥

gives_up : (at : DriverAt) (call : Call) (reply : Reply) (next : DriverAt) → MovesDriver at call reply next → HasGivenUp at → HasGivenUp next
gives_up at desk.TakeBatch reply next moves h = absurd (subst HasGivenUp moves.was h)
gives_up at (desk.Deliver keys values) reply next moves h = absurd (subst HasGivenUp moves.was h)
gives_up at desk.Close reply next moves h = absurd (subst HasGivenUp moves.was h)
gives_up at (desk.Publish epoch left) reply next moves h = absurd (subst HasGivenUp moves.was h)
gives_up at (desk.Unsure fault) reply next moves h = subst HasGivenUp (sym moves.now) tt
gives_up at (desk.Stop fault) reply next moves h = subst HasGivenUp (sym moves.now) h
gives_up at _ reply next moves h = subst HasGivenUp (sym moves) h

none_before : (call : VaultCall) → HasGivenUp (before_call call) → ⊥
none_before (Fetch keys) h = h
none_before (End writes) h = h

pub given_up : (c : Course) (w : World c.Past) (events : List WorldEvent) (last : World c.Past) → IsOneRun events → IsWorld c w events last → HasGivenUp w.driver → last.ended ≡ w.ended
given_up c w [] last one run h = ap (λ (x : World c.Past). x.ended) (sym run)
given_up c w (Desk caller call reply ∷ events) last one (mid, s, run) h =
    given_up c mid events last one run (subst (λ (x : World c.Past). HasGivenUp x.driver) (sym s.state) (gives_up w.driver call reply s.driver s.moves h)) ∙ ap (λ (x : World c.Past). x.ended) s.state
given_up c w (Vault call answer ∷ events) last one (mid, s, run) h = absurd (none_before call (subst HasGivenUp s.was h))
given_up c w (Report told ∷ events) last one (mid, s, run) h = absurd (subst HasGivenUp s.was h)
given_up c w (Crash inside image ∷ events) last one run h = absurd one
given_up c w (Open clients ∷ events) last one run h = absurd one

held_front : (e : ℕ) (xs ys : List ℕ) → AreUpTo e (xs ++ ys) → AreUpTo e xs
held_front e [] ys h = tt
held_front e (x ∷ xs) ys h = (h.0, held_front e xs ys h.1)

-- Between calls it stands for this epoch, and inside an end for this or the next. An end that was refused gives the run up.
bounded : (m : Map nat_cmp) (d : DeskState) (v : VaultState) (ended : List (EpochRecord ℕ)) (call : VaultCall) (answer : VaultAnswer) (at : Standing) → AtDriver m d v ended (before_call call) → MayStandIn v call at
    → (at.epoch ≤ (vault_next v call answer).epoch) ⊎ HasGivenUp (behind_call call answer) ⊎ (behind_call call answer ≡ IsDown)
bounded m d v ended (Fetch keys) answer at h (inl now) = inl (low answer)
  where
    epoch : at.epoch ≡ v.epoch
    epoch = ap (λ (x : Standing). x.epoch) now

    low : (answer : VaultAnswer) → at.epoch ≤ (vault_next v (Fetch keys) answer).epoch
    low (Values values) = omega (arith, epoch)
    low Ended = omega (arith, epoch)
    low (RefusedBy fault) = omega (arith, epoch)
    low (DoubtBy fault) = omega (arith, epoch)
bounded m d v ended (Fetch keys) answer at h (inr doubt) = absurd (none-some at (sym h.running.sure ∙ doubt))
bounded m d v ended (End writes) answer at h (inl (inr doubt)) = absurd (none-some at (sym h.sure ∙ doubt))
bounded m d v ended (End writes) answer at h (inl (inl now)) = inl (low answer)
  where
    epoch : at.epoch ≡ v.epoch
    epoch = ap (λ (x : Standing). x.epoch) now

    low : (answer : VaultAnswer) → at.epoch ≤ (vault_next v (End writes) answer).epoch
    low (Values values) = omega (arith, epoch)
    low Ended = omega (arith, epoch)
    low (RefusedBy fault) = omega (arith, epoch)
    low (DoubtBy fault) = omega (arith, epoch)
bounded m d v ended (End writes) (Values values) at h (inr next) = inr (inr refl)
bounded m d v ended (End writes) Ended at h (inr next) = inl (let e : at.epoch ≡ suc v.epoch = ap (λ (x : Standing). x.epoch) next in omega (arith, e))
bounded m d v ended (End writes) (RefusedBy fault) at h (inr next) = inr (inl tt)
bounded m d v ended (End writes) (DoubtBy fault) at h (inr next) = inr (inl tt)

-- an answer of the call's own kind doesn't bring all down
not_down : (m : Map nat_cmp) (call : VaultCall) (answer : VaultAnswer) → IsAnswer m call answer → behind_call call answer ≡ IsDown → ⊥
not_down m (Fetch keys) (Values values) is down = cc
not_down m (Fetch keys) (RefusedBy fault) is down = cc
not_down m (End writes) Ended is down = cc
not_down m (End writes) (RefusedBy fault) is down = cc
not_down m (End writes) (DoubtBy fault) is down = cc
not_down m _ _ is down = absurd is

module _ {V : Type 0} (k : Kind V) (first : Map nat_cmp) where
  -- what stood inside a call still stands for a prefix at the end of the run
  inside_last : (told : List (EpochRecord ℕ)) (acked : List ℕ) (w mid last : World V) (call : VaultCall) (answer : VaultAnswer) (events : List WorldEvent) → Inv first told acked w → VaultEvent (course_of k) w call answer mid
      → IsOneRun events → IsWorld (course_of k) mid events last → (at : Standing) → MayStandIn w.vault call at → records_up_to at.epoch last.ended ≡ records_up_to at.epoch (ended_with (Some call) w.desk w.vault w.ended)
  inside_last told acked w mid last call answer events h s one run at may =
      let kept : Kept (course_of k) first told acked w (Vault call answer) mid = step_kept (course_of k) first told acked w (Vault call answer) mid h s in
      let rest : Ran (course_of k) first (told_behind told (Vault call answer)) (acked ++ acknowledged_by (Vault call answer)) mid events last =
      ran (course_of k) first (told_behind told (Vault call answer)) (acked ++ acknowledged_by (Vault call answer)) mid events last kept.inv run in
      let ended : mid.ended ≡ ended_with (Some call) w.desk w.vault w.ended = ap (λ (x : World V). x.ended) s.state in
      let driver : mid.driver ≡ behind_call call answer = ap (λ (x : World V). x.driver) s.state in
      let epoch : mid.vault.epoch ≡ (vault_next w.vault call answer).epoch = ap (λ (x : World V). x.vault.epoch) s.state ∙ ap (λ (v : VaultState). v.epoch) s.law.state in
      ⊎_elim
      (λ (le : at.epoch ≤ (vault_next w.vault call answer).epoch). rest.same at.epoch (subst (λ (n : ℕ). at.epoch ≤ n) (sym epoch) le) ∙ ap (λ (rs : List (EpochRecord ℕ)). records_up_to at.epoch rs) ended)
      (λ other. ⊎_elim
      (λ (up : HasGivenUp (behind_call call answer)). ap (λ (rs : List (EpochRecord ℕ)). records_up_to at.epoch rs) (given_up (course_of k) mid events last one run (subst HasGivenUp (sym driver) up) ∙ ended))
      (λ (down : behind_call call answer ≡ IsDown). absurd (not_down w.vault.content call answer s.law.answered down))
      other)
      (bounded h.below w.desk w.vault w.ended call answer at (subst (AtDriver h.below w.desk w.vault w.ended) s.was h.at_place) may)

  -- it stands for a prefix, and holds what was acknowledged
  abbrev IsLeft : (V → Image → Standing → Type 0) → List ℕ → List (EpochRecord ℕ) → V → Image → Type 0
  IsLeft stands acked ended past = StandsIn (stands past) (IsPrefix first ended acked)

  fewer : (acked more : List ℕ) (ended : List (EpochRecord ℕ)) (past : V) (image : Image) → IsLeft k.stands (acked ++ more) ended past image → IsLeft k.stands acked ended past image
  fewer acked more ended past image (at, stands, prefix) = (at, stands, record { one_by_one = prefix.one_by_one; holds = held_front at.epoch acked more prefix.holds })

  -- so does what stands between calls
  rested : CrashesRest k → (told : List (EpochRecord ℕ)) (acked : List ℕ) (w : World V) → Inv first told acked w → k.sound w.past w.vault → (image : Image) → IsImageOf (k.disk w.past) image → IsLeft k.stands acked w.ended w.past image
  rested rests told acked w h sound image left = let (at, stands, may) = rests w.past w.vault image sound left in (at, stands, (moment first told acked w h None tt at may).0)

  pub lasts : CrashesRest k → OnlyNow k → (told : List (EpochRecord ℕ)) (acked : List ℕ) (w : World V) (events : List WorldEvent) (last : World V) → Inv first told acked w → k.sound w.past w.vault → IsOneRun events
      → IsWorld (course_of k) w events last → LeavesOnly (k.disk w.past) (k.disk last.past) (IsLeft k.stands acked last.ended w.past)
  lasts rests now told acked w [] last h sound one run = subst (λ (x : World V). LeavesOnly (k.disk w.past) (k.disk x.past) (IsLeft k.stands acked x.ended w.past)) run
      (started (k.disk w.past) (IsLeft k.stands acked w.ended w.past)
      (λ image left. rested rests told acked w h sound image (inl (now w.past image left)))
      (λ tells. rested rests told acked w h sound (k.disk w.past).cells (inr (tells, refl))))
  lasts rests now told acked w (Desk caller call reply ∷ events) last h sound one (mid, s, run) =
      let kept : Kept (course_of k) first told acked w (Desk caller call reply) mid = step_kept (course_of k) first told acked w (Desk caller call reply) mid h s in
      let more : List ℕ = acknowledged_by (Desk caller call reply) in
      subst (λ (x : World V). LeavesOnly (k.disk x.past) (k.disk last.past) (IsLeft k.stands acked last.ended x.past)) s.state
      (weakened (k.disk mid.past) (k.disk last.past) (IsLeft k.stands (acked ++ more) last.ended mid.past) (IsLeft k.stands acked last.ended mid.past) (fewer acked more last.ended mid.past)
      (lasts rests now (told_behind told (Desk caller call reply)) (acked ++ more) mid events last kept.inv (subst (λ (x : World V). k.sound x.past x.vault) (sym s.state) sound) one run))
  lasts rests now told acked w (Report r ∷ events) last h sound one (mid, s, run) =
      let kept : Kept (course_of k) first told acked w (Report r) mid = step_kept (course_of k) first told acked w (Report r) mid h s in
      let more : List ℕ = acknowledged_by (Report r) in
      subst (λ (x : World V). LeavesOnly (k.disk x.past) (k.disk last.past) (IsLeft k.stands acked last.ended x.past)) s.state
      (weakened (k.disk mid.past) (k.disk last.past) (IsLeft k.stands (acked ++ more) last.ended mid.past) (IsLeft k.stands acked last.ended mid.past) (fewer acked more last.ended mid.past)
      (lasts rests now (told_behind told (Report r)) (acked ++ more) mid events last kept.inv (subst (λ (x : World V). k.sound x.past x.vault) (sym s.state) sound) one run))
  lasts rests now told acked w (Vault call answer ∷ events) last h sound one (mid, s, run) =
      let kept : Kept (course_of k) first told acked w (Vault call answer) mid = step_kept (course_of k) first told acked w (Vault call answer) mid h s in
      let called : Called k w.past call answer s.past = s.called in
      let past : mid.past ≡ s.past = ap (λ (x : World V). x.past) s.state in
      let next : k.sound mid.past mid.vault = subst (λ (x : World V). k.sound x.past x.vault) (sym s.state) (subst (k.sound s.past) (sym s.law.state) (called.sound w.vault sound)) in
      let here : LeavesOnly (k.disk w.past) (k.disk s.past) (IsLeft k.stands acked last.ended w.past) =
      weakened (k.disk w.past) (k.disk s.past) (StandsIn (k.stands w.past) (MayStandIn w.vault call)) (IsLeft k.stands acked last.ended w.past)
      (λ image left. let (at, stands, may) = left in
      (at, stands, prefix_later (course_of k) first acked (ended_with (Some call) w.desk w.vault w.ended) last.ended at (inside_last told acked w mid last call answer events h s one run at may) (moment first told acked w h (Some call) s.was at may).0))
      (called.images w.vault sound) in
      let there : LeavesOnly (k.disk s.past) (k.disk last.past) (IsLeft k.stands (acked ++ []) last.ended s.past) =
      subst (λ (x : V). LeavesOnly (k.disk x) (k.disk last.past) (IsLeft k.stands (acked ++ []) last.ended x)) past
      (lasts rests now (told_behind told (Vault call answer)) (acked ++ []) mid events last kept.inv next one run) in
      then_on (k.disk w.past) (k.disk s.past) (k.disk last.past) (IsLeft k.stands acked last.ended w.past) here
      (weakened (k.disk s.past) (k.disk last.past) (IsLeft k.stands (acked ++ []) last.ended s.past) (IsLeft k.stands acked last.ended w.past)
      (λ image left. let (at, stands, prefix) = fewer acked [] last.ended s.past image left in (at, (called.alike image at).1 stands, prefix)) there)
  lasts rests now told acked w (Crash inside image ∷ events) last h sound one run = absurd one
  lasts rests now told acked w (Open clients ∷ events) last h sound one run = absurd one

  stays_sound : (w : World V) (events : List WorldEvent) (last : World V) → IsOneRun events → IsWorld (course_of k) w events last → k.sound w.past w.vault → k.sound last.past last.vault
  stays_sound w [] last one run sound = subst (λ (x : World V). k.sound x.past x.vault) run sound
  stays_sound w (Desk caller call reply ∷ events) last one (mid, s, run) sound = stays_sound mid events last one run (subst (λ (x : World V). k.sound x.past x.vault) (sym s.state) sound)
  stays_sound w (Report told ∷ events) last one (mid, s, run) sound = stays_sound mid events last one run (subst (λ (x : World V). k.sound x.past x.vault) (sym s.state) sound)
  stays_sound w (Vault call answer ∷ events) last one (mid, s, run) sound =
      let called : Called k w.past call answer s.past = s.called in
      stays_sound mid events last one run (subst (λ (x : World V). k.sound x.past x.vault) (sym s.state) (subst (k.sound s.past) (sym s.law.state) (called.sound w.vault sound)))
  stays_sound w (Crash inside image ∷ events) last one run sound = absurd one
  stays_sound w (Open clients ∷ events) last one run sound = absurd one

pub moments_are_prefixes : {V : Type 0} (k : Kind V) → MomentsArePrefixes k
moments_are_prefixes {V} k setup clients found left old before after mid last rests now sound first_one one first_run run =
    let first : World V = first_world setup clients found left old in
    let r : Ran (course_of k) found.content [] [] first before mid = ran (course_of k) found.content [] [] first before mid (inv_first setup clients found left old) first_run in
    lasts k found.content rests now (told_since [] before) (acknowledged before) mid after last r.inv (stays_sound k found.content first before mid first_one first_run sound) one run
