-- What a crash leaves at any moment of a run.
use Rattle.std.proofs.Common.{◌≡◌, ◌∙◌, ◌+◌, ◌++◌, ◌∷◌, [], ℕ, suc, List, Option, Some, None, sym, refl, ap, subst, arith, inl, inr, length, Ok, Err, Result, nat_cmp}
use Rattle.std.proofs.lemmas.List.{append-nil, append_assoc, length-append}
use Rattle.std.proofs.lemmas.Option.{same_Some}
use Rattle.ob_base.specs.declared.fault.Fault.{Fault}
use Rattle.ob_serial.specs.Serial.{EpochRecord, Map, TxnRecord, after_ops, committed_of}
use Rattle.ob_serial.specs.Vaults.{VaultCall, Fetch, End, VaultAnswer, Values, Ended, RefusedBy, DoubtBy, VaultState, Standing, MayStand, MayStandIn, StandsIn, StandAlike, standing_now, standing_next, with_writes, vault_next}
use Rattle.ob_serial.specs.VaultViews.{end_answer, IsEndFault}
use Rattle.ob_serial.specs.VaultKinds.{Kind, Called, AllCalled, after_calls, ended_of, ended_by}
use Rattle.ob_serial.specs.declared.vault.EndErr.{EndErr}
use Rattle.ob_serial.specs.declared.vault.EndErr.TheVariants.{Before, Unsure}
use Rattle.ob_store.specs.Disk.{Image}
use Rattle.ob_store.specs.Images.{LeavesOnly, IsImageOf}
use Rattle.ob_store.proofs.Moments.{started, then_on, weakened}
use Rattle.ob_desk.specs.Desk.{record_of}
use Rattle.ob_desk.specs.Beats.{BeatKind}
use Rattle.ob_desk.proofs.Runs.{committed_append}
use Rattle.ob_conduct.specs.declared.run_err.RunErr.{RunErr}
use Rattle.ob_conduct.specs.declared.run_err.RunErr.TheVariants as failed
use Rattle.ob_conduct.specs.Acts.{Act, Says, Halts, Rests as Looked, Takes, Delivers, DeliverFails, FetchFails, RestUnwatched, Closes, Publishes, Refuses, Unprinted, Unwatched, calls, records, rest_fetches, vault_calls, fault_in, fault_told}
use Rattle.ob_conduct.specs.Scenes.{RunState, RunnerKind}
use Rattle.ob_conduct.specs.Records.{after_txns, contents, Makes, AreWritten, AreAnswered}
use Rattle.ob_conduct.specs.Moves.{IsUnended, IsReason, Failure}
use Rattle.ob_conduct.specs.Conducted.{RunEnds, Conducted}
use Rattle.ob_conduct.specs.Left.{Rests, OnlyNow, standing_behind, IsFront, IsLeftStanding, TellsDoubt, IsLeftNow, next_at, IsThisOrNext, Stages, LeftByRun}
use Rattle.ob_conduct.proofs.Acting.{answered_rest}
use Rattle.ob_conduct.proofs.Moving.{called}
use Rattle.ob_conduct.proofs.Behind.{asks_before, tells_before}
use Rattle.ob_conduct.proofs.Going.{ended_append, answered_join}

-- ---- maps behind records

txns_append : (m : Map nat_cmp) (ts us : List (TxnRecord ℕ)) → after_txns m (ts ++ us) ≡ after_txns (after_txns m ts) us
txns_append m [] us = refl
txns_append m (t ∷ ts) us = txns_append (after_ops nat_cmp m t.ops) ts us

pub contents_append : (m : Map nat_cmp) (rs qs : List (EpochRecord ℕ)) → contents m (rs ++ qs) ≡ contents (contents m rs) qs
contents_append m rs qs = ap (after_txns m) (committed_append rs qs) ∙ txns_append m (committed_of rs) (committed_of qs)

-- ---- standings

abbrev standing : ℕ → Map nat_cmp → Standing
standing epoch content = record { epoch = epoch; content = content }

same_standing : (e f : ℕ) (m n : Map nat_cmp) → e ≡ f → m ≡ n → standing e m ≡ standing f n
same_standing e f m n epochs maps = ap (λ x. standing x m) epochs ∙ ap (standing f) maps

no_doubt : (at : Standing) → None ≡ Some at → ⊥
no_doubt at is = cc is

one_doubt : (at next : Standing) → Some next ≡ Some at → at ≡ next
one_doubt at next is = cc is

-- what stands for something allowed stands for something that this allows
stands_still : (stands : Image → Standing → Type 0) (A B : Standing → Type 0) → ((at : Standing) → A at → B at) → (c : Image) → StandsIn stands A c → StandsIn stands B c
stands_still stands A B so c (at, is, allowed) = (at, is, so at allowed)

stands_alike : (old new : Image → Standing → Type 0) → StandAlike old new → (A B : Standing → Type 0) → ((at : Standing) → A at → B at) → (c : Image) → StandsIn new A c → StandsIn old B c
stands_alike old new alike A B so c (at, is, allowed) = (at, (alike c at).1 is, so at allowed)

-- a vault without doubt: what it holds is behind none of the records,
now_front : (v : VaultState) (told : List (EpochRecord ℕ)) → v.doubt ≡ None → (at : Standing) → MayStand v at → IsFront v told at
now_front v told none at (inl is) = ([], told, refl, is ∙ same_standing v.epoch (v.epoch + length {A = EpochRecord ℕ} []) v.content v.content (omega arith) refl)
now_front v told none at (inr is) = absurd (no_doubt at (sym none ∙ is))

-- and within an end, behind none or the first one of them
end_front : (v : VaultState) (writes : List (ℕ × Option (List ℕ))) (r : EpochRecord ℕ) (told : List (EpochRecord ℕ)) → Makes writes r → v.doubt ≡ None → (at : Standing) → MayStandIn v (End writes) at → IsFront v (r ∷ told) at
end_front v writes r told makes none at (inl may) = now_front v (r ∷ told) none at may
end_front v writes r told makes none at (inr is) =
    (r ∷ [], told, refl, is ∙ same_standing (suc v.epoch) (v.epoch + length (r ∷ [])) (with_writes v.content writes) (contents v.content (r ∷ [])) (omega arith) (makes v.content))

-- one epoch before the others
front_more : (v : VaultState) (writes : List (ℕ × Option (List ℕ))) (r : EpochRecord ℕ) (told : List (EpochRecord ℕ)) → Makes writes r → (at : Standing) → IsFront (vault_next v (End writes) Ended) told at → IsFront v (r ∷ told) at
front_more v writes r told makes at (front, behind, is, at_is) = (
  r ∷ front,
  behind,
  ap (λ x. r ∷ x) is,
  at_is ∙ same_standing (suc v.epoch + length front) (v.epoch + length (r ∷ front)) (contents (with_writes v.content writes) front) (contents v.content (r ∷ front)) (omega arith)
      (ap (λ (m : Map nat_cmp). contents m front) (makes v.content) ∙ sym (contents_append v.content (r ∷ []) front)),
)

-- What it holds is behind the records, and nothing is in doubt.
record IsBehind (v : VaultState) (told : List (EpochRecord ℕ)) (u : VaultState) : Type 0 where
  pub content : u.content ≡ contents v.content told
  pub epoch : u.epoch ≡ v.epoch + length told
  pub none : u.doubt ≡ None

behind_now : (v u : VaultState) (told : List (EpochRecord ℕ)) → IsBehind v told u → standing_now u ≡ standing_behind v told
behind_now v u told b = same_standing u.epoch (v.epoch + length told) u.content (contents v.content told) b.epoch b.content

behind_next : (v u : VaultState) (told : List (EpochRecord ℕ)) (r : EpochRecord ℕ) (writes : List (ℕ × Option (List ℕ))) → Makes writes r → IsBehind v told u → standing_next u writes ≡ standing_behind v (told ++ r ∷ [])
behind_next v u told r writes makes b =
    let epoch : u.epoch ≡ v.epoch + length told = b.epoch in
    let longer : length (told ++ r ∷ []) ≡ length told + length (r ∷ []) = length-append told (r ∷ []) in
    same_standing (suc u.epoch) (v.epoch + length (told ++ r ∷ [])) (with_writes u.content writes) (contents v.content (told ++ r ∷ [])) (omega (arith, epoch, longer))
    (makes u.content ∙ ap (λ (m : Map nat_cmp). contents m (r ∷ [])) b.content ∙ sym (contents_append v.content told (r ∷ [])))

-- so it is once all were ended
is_behind : (v : VaultState) (steps : List (VaultCall × VaultAnswer)) (told : List (EpochRecord ℕ)) → AreAnswered steps → AreWritten (ended_of steps) told → v.doubt ≡ None → IsBehind v told (after_calls v steps)
is_behind v [] [] are wrote none = record { content = refl; epoch = omega arith; none = none }
is_behind v [] (r ∷ told) are wrote none = absurd wrote
is_behind v ((Fetch keys, Values values) ∷ steps) told are wrote none = let b = is_behind (vault_next v (Fetch keys) (Values values)) steps told are wrote none in record { content = b.content; epoch = b.epoch; none = b.none }
is_behind v ((Fetch keys, Ended) ∷ steps) told are wrote none = absurd are
is_behind v ((Fetch keys, RefusedBy fault) ∷ steps) told are wrote none = absurd are
is_behind v ((Fetch keys, DoubtBy fault) ∷ steps) told are wrote none = absurd are
is_behind v ((End writes, Values values) ∷ steps) told are wrote none = absurd are
is_behind v ((End writes, Ended) ∷ steps) [] are wrote none = absurd wrote
is_behind v ((End writes, Ended) ∷ steps) (r ∷ told) are (makes, more) none =
    let b = is_behind (vault_next v (End writes) Ended) steps told are more none in
    record {
      content = b.content ∙ ap (λ (m : Map nat_cmp). contents m told) (makes v.content) ∙ sym (contents_append v.content (r ∷ []) told);
      epoch = let e = b.epoch in omega (arith, e);
      none = b.none;
    }
is_behind v ((End writes, RefusedBy fault) ∷ steps) told are wrote none = absurd are
is_behind v ((End writes, DoubtBy fault) ∷ steps) told are wrote none = absurd are

-- what a vault behind the records may stand for
may_front : (v u : VaultState) (told : List (EpochRecord ℕ)) → IsBehind v told u → (at : Standing) → MayStand u at → IsFront v told at
may_front v u told b at (inl is) = (told, [], sym (append-nil told), is ∙ behind_now v u told b)
may_front v u told b at (inr is) = absurd (no_doubt at (sym b.none ∙ is))

may_in_end : (v u : VaultState) (told : List (EpochRecord ℕ)) (r : EpochRecord ℕ) (writes : List (ℕ × Option (List ℕ))) → Makes writes r → IsBehind v told u → (at : Standing) → MayStandIn u (End writes) at → IsLeftStanding v told (Some r) at
may_in_end v u told r writes makes b at (inl may) = inl (may_front v u told b at may)
may_in_end v u told r writes makes b at (inr is) = inr (r, refl, is ∙ behind_next v u told r writes makes b)

may_now : (v u : VaultState) (told : List (EpochRecord ℕ)) (next : Option (EpochRecord ℕ)) (doubt : Type 0) → IsBehind v told u → (at : Standing) → MayStand u at → IsLeftNow v told next doubt at
may_now v u told next doubt b at (inl is) = inl (is ∙ behind_now v u told b)
may_now v u told next doubt b at (inr is) = absurd (no_doubt at (sym b.none ∙ is))

-- what may stand once an end was refused, or left in doubt
may_unended : (v u : VaultState) (told : List (EpochRecord ℕ)) (r : EpochRecord ℕ) (writes : List (ℕ × Option (List ℕ))) (epoch : ℕ) (refused : EndErr) (err : RunErr) → Makes writes r → IsBehind v told u → err ≡ failed.Fault (fault_in refused) → IsEndFault epoch refused
    → (at : Standing) → MayStand (vault_next u (End writes) (end_answer (Err refused))) at → IsLeftNow v told (Some r) (TellsDoubt epoch (Err err)) at
may_unended v u told r writes epoch (Before given) err makes b is_given is_fault at may = may_now v (vault_next u (End writes) (RefusedBy given)) told (Some r) (TellsDoubt epoch (Err err)) (record { content = b.content; epoch = b.epoch; none = b.none }) at may
may_unended v u told r writes epoch (Unsure given) err makes b is_given is_fault at (inl is) = inl (is ∙ behind_now v u told b)
may_unended v u told r writes epoch (Unsure given) err makes b is_given is_fault at (inr is) = inr (r, refl, ap Err (is_given ∙ ap failed.Fault is_fault), one_doubt at (standing_next u writes) is ∙ behind_next v u told r writes makes b)

-- ---- chains

module _ {V : Type 0} (k : Kind V) where
  alike_all : (first : V) (steps : List (VaultCall × VaultAnswer)) (last : V) → AllCalled k first steps last → StandAlike (k.stands first) (k.stands last)
  alike_all first [] last is = subst (λ x. StandAlike (k.stands first) (k.stands x)) (sym is) (λ c at. (λ s. s, λ s. s))
  alike_all first (step ∷ steps) last (mid, one, rest) =
      let more = alike_all mid steps last rest in
      λ c at. (λ s. (more c at).0 ((one.alike c at).0 s), λ s. (one.alike c at).1 ((more c at).1 s))

  chain_last : (first : V) (front : List (VaultCall × VaultAnswer)) (call : VaultCall) (answer : VaultAnswer) (last : V) → AllCalled k first (front ++ (call, answer) ∷ []) last → (mid : V) × AllCalled k first front mid × Called k mid call answer last
  chain_last first [] call answer last (mid, one, is) = (first, refl, subst (λ x. Called k first call answer x) (sym is) one)
  chain_last first (step ∷ front) call answer last (next, one, rest) =
      let (mid, before, final) = chain_last next front call answer last rest in
      (mid, (next, one, before), final)

  sound_after : (first : V) (steps : List (VaultCall × VaultAnswer)) (last : V) (v : VaultState) → AllCalled k first steps last → k.sound first v → k.sound last (after_calls v steps)
  sound_after first [] last v is sound = subst (λ x. k.sound x v) (sym is) sound
  sound_after first (step ∷ steps) last v (mid, one, rest) sound = sound_after mid steps last (vault_next v step.0 step.1) rest (one.sound v sound)

module _ {V : Type 0} (k : Kind V) (only : OnlyNow k) (rests : Rests k) where
  -- where no call was made yet
  at_start : (w : V) (v : VaultState) (P : Image → Type 0) → k.sound w v → ((c : Image) → StandsIn (k.stands w) (MayStand v) c → P c) → LeavesOnly (k.disk w) (k.disk w) P
  at_start w v P sound so = started (k.disk w) P (λ c left. so c (rests w v c sound (inl (only w c left)))) (λ tells. so (k.disk w).cells (rests w v (k.disk w).cells sound (inr (tells, refl))))

  -- where each call was answered
  answered_leave : (first : V) (steps : List (VaultCall × VaultAnswer)) (last : V) (v : VaultState) (told : List (EpochRecord ℕ)) → AllCalled k first steps last → AreAnswered steps → AreWritten (ended_of steps) told
      → k.sound first v → v.doubt ≡ None → LeavesOnly (k.disk first) (k.disk last) (StandsIn (k.stands first) (IsFront v told))
  answered_leave first [] last v told is are wrote sound none = subst (λ x. LeavesOnly (k.disk first) (k.disk x) (StandsIn (k.stands first) (IsFront v told))) (sym is)
      (at_start first v (StandsIn (k.stands first) (IsFront v told)) sound (stands_still (k.stands first) (MayStand v) (IsFront v told) (now_front v told none)))
  answered_leave first ((Fetch keys, Values values) ∷ steps) last v told (mid, one, rest) are wrote sound none =
      let u : VaultState = vault_next v (Fetch keys) (Values values) in
      then_on (k.disk first) (k.disk mid) (k.disk last) (StandsIn (k.stands first) (IsFront v told))
      (weakened (k.disk first) (k.disk mid) (StandsIn (k.stands first) (MayStandIn v (Fetch keys))) (StandsIn (k.stands first) (IsFront v told)) (stands_still (k.stands first) (MayStandIn v (Fetch keys)) (IsFront v told) (now_front v told none)) (one.images v sound))
      (weakened (k.disk mid) (k.disk last) (StandsIn (k.stands mid) (IsFront u told)) (StandsIn (k.stands first) (IsFront v told)) (stands_alike (k.stands first) (k.stands mid) one.alike (IsFront u told) (IsFront v told) (λ at front. front))
      (answered_leave mid steps last u told rest are wrote (one.sound v sound) none))
  answered_leave first ((Fetch keys, Ended) ∷ steps) last v told chain are wrote sound none = absurd are
  answered_leave first ((Fetch keys, RefusedBy fault) ∷ steps) last v told chain are wrote sound none = absurd are
  answered_leave first ((Fetch keys, DoubtBy fault) ∷ steps) last v told chain are wrote sound none = absurd are
  answered_leave first ((End writes, Values values) ∷ steps) last v told chain are wrote sound none = absurd are
  answered_leave first ((End writes, Ended) ∷ steps) last v [] chain are wrote sound none = absurd wrote
  answered_leave first ((End writes, Ended) ∷ steps) last v (r ∷ told) (mid, one, rest) are (makes, more) sound none =
      let u : VaultState = vault_next v (End writes) Ended in
      then_on (k.disk first) (k.disk mid) (k.disk last) (StandsIn (k.stands first) (IsFront v (r ∷ told)))
      (weakened (k.disk first) (k.disk mid) (StandsIn (k.stands first) (MayStandIn v (End writes))) (StandsIn (k.stands first) (IsFront v (r ∷ told))) (stands_still (k.stands first) (MayStandIn v (End writes)) (IsFront v (r ∷ told)) (end_front v writes r told makes none)) (one.images v sound))
      (weakened (k.disk mid) (k.disk last) (StandsIn (k.stands mid) (IsFront u told)) (StandsIn (k.stands first) (IsFront v (r ∷ told))) (stands_alike (k.stands first) (k.stands mid) one.alike (IsFront u told) (IsFront v (r ∷ told)) (front_more v writes r told makes))
      (answered_leave mid steps last u told rest are more (one.sound v sound) none))
  answered_leave first ((End writes, RefusedBy fault) ∷ steps) last v told chain are wrote sound none = absurd are
  answered_leave first ((End writes, DoubtBy fault) ∷ steps) last v told chain are wrote sound none = absurd are

  -- and where one more was made, within which no more may stand than this
  one_more_leaves : (first : V) (front : List (VaultCall × VaultAnswer)) (mid : V) (call : VaultCall) (answer : VaultAnswer) (last : V) (v : VaultState) (told : List (EpochRecord ℕ)) (B : Standing → Type 0)
      → AllCalled k first front mid → Called k mid call answer last → AreAnswered front → AreWritten (ended_of front) told → k.sound first v → v.doubt ≡ None
      → ((at : Standing) → IsFront v told at → B at) → ((at : Standing) → MayStandIn (after_calls v front) call at → B at) → LeavesOnly (k.disk first) (k.disk last) (StandsIn (k.stands first) B)
  one_more_leaves first front mid call answer last v told B before one are wrote sound none fronts within =
      then_on (k.disk first) (k.disk mid) (k.disk last) (StandsIn (k.stands first) B)
      (weakened (k.disk first) (k.disk mid) (StandsIn (k.stands first) (IsFront v told)) (StandsIn (k.stands first) B) (stands_still (k.stands first) (IsFront v told) B fronts) (answered_leave first front mid v told before are wrote sound none))
      (weakened (k.disk mid) (k.disk last) (StandsIn (k.stands mid) (MayStandIn (after_calls v front) call)) (StandsIn (k.stands first) B) (stands_alike (k.stands first) (k.stands mid) (alike_all k first front mid before) (MayStandIn (after_calls v front) call) B within)
      (one.images (after_calls v front) (sound_after k first front mid v before sound)))

  -- ---- stages

  module _ (stands : Image → Standing → Type 0) where
    -- what a vault without doubt stands for, and what it may stand for within a call
    now_between : (u : VaultState) (next : Option (EpochRecord ℕ)) → u.doubt ≡ None → (at : Standing) → MayStand u at → IsThisOrNext (standing_now u) next at
    now_between u next none at (inl is) = inl is
    now_between u next none at (inr is) = absurd (no_doubt at (sym none ∙ is))

    end_between : (u : VaultState) (writes : List (ℕ × Option (List ℕ))) (r : EpochRecord ℕ) → Makes writes r → u.doubt ≡ None → (at : Standing) → MayStandIn u (End writes) at → IsThisOrNext (standing_now u) (Some r) at
    end_between u writes r makes none at (inl may) = now_between u (Some r) none at may
    end_between u writes r makes none at (inr is) = inr (r, refl, is ∙ same_standing (suc u.epoch) (suc u.epoch) (with_writes u.content writes) (contents u.content (r ∷ [])) refl (makes u.content))

    none_between : (at : Standing) (next : Option (EpochRecord ℕ)) (x : Standing) → IsThisOrNext at None x → IsThisOrNext at next x
    none_between at next x (inl is) = inl is
    none_between at next x (inr (r, is, same)) = absurd (no_record r is)
      where
        no_record : (r : EpochRecord ℕ) → None ≡ Some r → ⊥
        no_record r is = cc is

    -- one call more in a stage
    longer : (from cur mid : V) (at : Standing) (before next : Option (EpochRecord ℕ)) (B : Standing → Type 0) → StandAlike stands (k.stands cur) → LeavesOnly (k.disk from) (k.disk cur) (StandsIn stands (IsThisOrNext at before))
        → ((x : Standing) → IsThisOrNext at before x → IsThisOrNext at next x) → LeavesOnly (k.disk cur) (k.disk mid) (StandsIn (k.stands cur) B) → ((x : Standing) → B x → IsThisOrNext at next x)
        → LeavesOnly (k.disk from) (k.disk mid) (StandsIn stands (IsThisOrNext at next))
    longer from cur mid at before next B alike so_far widen one within =
        then_on (k.disk from) (k.disk cur) (k.disk mid) (StandsIn stands (IsThisOrNext at next))
        (weakened (k.disk from) (k.disk cur) (StandsIn stands (IsThisOrNext at before)) (StandsIn stands (IsThisOrNext at next)) (stands_still stands (IsThisOrNext at before) (IsThisOrNext at next) widen) so_far)
        (weakened (k.disk cur) (k.disk mid) (StandsIn (k.stands cur) B) (StandsIn stands (IsThisOrNext at next)) (stands_alike stands (k.stands cur) alike B (IsThisOrNext at next) within) one)

    -- a stage begins
    begins : (mid : V) (u : VaultState) → k.sound mid u → u.doubt ≡ None → StandAlike stands (k.stands mid) → LeavesOnly (k.disk mid) (k.disk mid) (StandsIn stands (IsThisOrNext (standing_now u) None))
    begins mid u sound none alike = at_start mid u (StandsIn stands (IsThisOrNext (standing_now u) None)) sound
        (stands_alike stands (k.stands mid) alike (MayStand u) (IsThisOrNext (standing_now u) None) (now_between u None none))

    alike_then : (a b : V) → StandAlike stands (k.stands a) → StandAlike (k.stands a) (k.stands b) → StandAlike stands (k.stands b)
    alike_then a b one two = λ c at. (λ s. (two c at).0 ((one c at).0 s), λ s. (one c at).1 ((two c at).1 s))

    staged : (from cur : V) (steps : List (VaultCall × VaultAnswer)) (last : V) (u : VaultState) (told : List (EpochRecord ℕ)) → LeavesOnly (k.disk from) (k.disk cur) (StandsIn stands (IsThisOrNext (standing_now u) None)) → StandAlike stands (k.stands cur)
        → AllCalled k cur steps last → AreAnswered steps → AreWritten (ended_of steps) told → k.sound cur u → u.doubt ≡ None → Stages k stands (standing_now u) told None from last
    staged from cur [] last u [] so_far alike is are wrote sound none = subst (λ x. LeavesOnly (k.disk from) (k.disk x) (StandsIn stands (IsThisOrNext (standing_now u) None))) (sym is) so_far
    staged from cur [] last u (r ∷ told) so_far alike is are wrote sound none = absurd wrote
    staged from cur ((Fetch keys, Values values) ∷ steps) last u told so_far alike (mid, one, rest) are wrote sound none =
        staged from mid steps last (vault_next u (Fetch keys) (Values values)) told
        (longer from cur mid (standing_now u) None None (MayStandIn u (Fetch keys)) alike so_far (λ x is. is) (one.images u sound) (now_between u None none))
        (alike_then cur mid alike one.alike) rest are wrote (one.sound u sound) none
    staged from cur ((Fetch keys, Ended) ∷ steps) last u told so_far alike chain are wrote sound none = absurd are
    staged from cur ((Fetch keys, RefusedBy fault) ∷ steps) last u told so_far alike chain are wrote sound none = absurd are
    staged from cur ((Fetch keys, DoubtBy fault) ∷ steps) last u told so_far alike chain are wrote sound none = absurd are
    staged from cur ((End writes, Values values) ∷ steps) last u told so_far alike chain are wrote sound none = absurd are
    staged from cur ((End writes, Ended) ∷ steps) last u [] so_far alike chain are wrote sound none = absurd wrote
    staged from cur ((End writes, Ended) ∷ steps) last u (r ∷ told) so_far alike (mid, one, rest) are (makes, more) sound none =
        let w : VaultState = vault_next u (End writes) Ended in
        let after = alike_then cur mid alike one.alike in (
          mid,
          longer from cur mid (standing_now u) None (Some r) (MayStandIn u (End writes)) alike so_far (none_between (standing_now u) (Some r)) (one.images u sound) (end_between u writes r makes none),
          subst (λ (at : Standing). Stages k stands at told None mid last) (same_standing (suc u.epoch) (suc u.epoch) (with_writes u.content writes) (contents u.content (r ∷ [])) refl (makes u.content))
              (staged mid mid steps last w told (begins mid w (one.sound u sound) none after) after rest are more (one.sound u sound) none),
        )
    staged from cur ((End writes, RefusedBy fault) ∷ steps) last u told so_far alike chain are wrote sound none = absurd are
    staged from cur ((End writes, DoubtBy fault) ∷ steps) last u told so_far alike chain are wrote sound none = absurd are

    -- what stands behind all of them
    abbrev behind_all : Standing → List (EpochRecord ℕ) → Standing
    behind_all at [] = at
    behind_all at (r ∷ told) = behind_all (next_at at r) told

    all_behind : (at : Standing) (told : List (EpochRecord ℕ)) → behind_all at told ≡ standing (at.epoch + length told) (contents at.content told)
    all_behind at [] = same_standing at.epoch (at.epoch + length {A = EpochRecord ℕ} []) at.content at.content (omega arith) refl
    all_behind at (r ∷ told) = all_behind (next_at at r) told ∙ same_standing (suc at.epoch + length told) (at.epoch + length (r ∷ told)) (contents (contents at.content (r ∷ [])) told) (contents at.content (r ∷ told)) (omega arith) (sym (contents_append at.content (r ∷ []) told))

    -- the last stage goes on
    on_to : (from mid last : V) (at : Standing) (told : List (EpochRecord ℕ)) (next : Option (EpochRecord ℕ)) → Stages k stands at told None from mid → LeavesOnly (k.disk mid) (k.disk last) (StandsIn stands (IsThisOrNext (behind_all at told) next)) → Stages k stands at told next from last
    on_to from mid last at [] next so_far more =
        then_on (k.disk from) (k.disk mid) (k.disk last) (StandsIn stands (IsThisOrNext at next))
        (weakened (k.disk from) (k.disk mid) (StandsIn stands (IsThisOrNext at None)) (StandsIn stands (IsThisOrNext at next)) (stands_still stands (IsThisOrNext at None) (IsThisOrNext at next) (none_between at next)) so_far) more
    on_to from mid last at (r ∷ told) next (one, first, rest) more = (one, first, on_to one mid last (next_at at r) told next rest more)

  -- the stages of a run whose last call was made behind others that were answered
  last_staged : (first : V) (front : List (VaultCall × VaultAnswer)) (mid : V) (call : VaultCall) (answer : VaultAnswer) (last : V) (v : VaultState) (told : List (EpochRecord ℕ)) (next : Option (EpochRecord ℕ))
      → AllCalled k first front mid → Called k mid call answer last → AreAnswered front → AreWritten (ended_of front) told → k.sound first v → v.doubt ≡ None
      → ((at : Standing) → MayStandIn (after_calls v front) call at → IsThisOrNext (standing_now (after_calls v front)) next at) → Stages k (k.stands first) (standing_now v) told next first last
  last_staged first front mid call answer last v told next before one are wrote sound none within =
      let u : VaultState = after_calls v front in
      let same : standing_now u ≡ behind_all (k.stands first) (standing_now v) told = behind_now v u told (is_behind v front told are wrote none) ∙ sym (all_behind (k.stands first) (standing_now v) told) in
      let alike = alike_all k first front mid before in
      on_to (k.stands first) first mid last (standing_now v) told next
      (staged (k.stands first) first first front mid v told (begins (k.stands first) first v sound none (λ c at. (λ s. s, λ s. s))) (λ c at. (λ s. s, λ s. s)) before are wrote sound none)
      (subst (λ (at : Standing). LeavesOnly (k.disk mid) (k.disk last) (StandsIn (k.stands first) (IsThisOrNext at next))) same
      (weakened (k.disk mid) (k.disk last) (StandsIn (k.stands mid) (MayStandIn u call)) (StandsIn (k.stands first) (IsThisOrNext (standing_now u) next))
      (stands_alike (k.stands first) (k.stands mid) alike (MayStandIn u call) (IsThisOrNext (standing_now u) next) within) (one.images u (sound_after k first front mid v before sound))))

-- ---- a run

wrote_before : (acts : List Act) (front : List (VaultCall × VaultAnswer)) (call : VaultCall) (answer : VaultAnswer) → calls acts ≡ front ++ (call, answer) ∷ [] → ended_by (call, answer) ≡ [] → AreWritten (ended_of (calls acts)) (records acts) → AreWritten (ended_of front) (records acts)
wrote_before acts front call answer is none wrote = subst (λ (ws : List (List (ℕ × Option (List ℕ)))). AreWritten ws (records acts))
    (ap ended_of is ∙ ended_append front ((call, answer) ∷ []) ∙ ap (λ x. ended_of front ++ x) (append-nil (ended_by (call, answer)) ∙ none) ∙ append-nil (ended_of front)) wrote

refused_ends : (writes : List (ℕ × Option (List ℕ))) (refused : EndErr) → ended_by (End writes, end_answer (Err refused)) ≡ []
refused_ends writes (Before fault) = refl
refused_ends writes (Unsure fault) = refl

module _ {V U Plan : Type 0} (k : Kind V) (only : OnlyNow k) (rests : Rests k) (kind : RunnerKind U Plan) (beat : BeatKind) (old new : RunState V U) (acts : List Act) (v : VaultState) (sound : k.sound old.scene.vault v) (none : v.doubt ≡ None) where
  abbrev first : V
  first = old.scene.vault

  abbrev last : V
  last = new.scene.vault

  abbrev told : List (EpochRecord ℕ)
  told = records acts

  abbrev epoch : ℕ
  epoch = old.scene.desk.running.epoch + length (records acts)

  module _ (result : Result (Unit {0}) RunErr) (d : Conducted k kind beat old new acts result) where
    chain : AllCalled k first (calls acts) last
    chain = called k first old.scene.trace (calls acts) d.notes last new.scene.trace d.chain

    all_answered : AreAnswered (calls acts) → LeftByRun k old new acts result v
    all_answered are =
        let u : VaultState = after_calls v (calls acts) in
        let b : IsBehind v told u = is_behind v (calls acts) told are d.wrote none in
        let doubt : Type 0 = TellsDoubt epoch result in
        record {
          next = None;
          is_next = tt;
          since = weakened (k.disk first) (k.disk last) (StandsIn (k.stands first) (IsFront v told)) (StandsIn (k.stands first) (IsLeftStanding v told None))
              (stands_still (k.stands first) (IsFront v told) (IsLeftStanding v told None) (λ at front. inl front)) (answered_leave k only rests first (calls acts) last v told chain are d.wrote sound none);
          stages = staged k only rests (k.stands first) first first (calls acts) last v told (begins k only rests (k.stands first) first v sound none (λ c at. (λ s. s, λ s. s))) (λ c at. (λ s. s, λ s. s)) chain are d.wrote sound none;
          now = λ c left. stands_alike (k.stands first) (k.stands last) (alike_all k first (calls acts) last chain) (MayStand u) (IsLeftNow v told None doubt) (may_now v u told None doubt b) c
              (rests last u c (sound_after k first (calls acts) last v chain sound) left);
        }

    -- a batch was refused
    by_fetch : (front : List (VaultCall × VaultAnswer)) (keys : List (Option ℕ)) (fault : Fault) → calls acts ≡ front ++ (Fetch keys, RefusedBy fault) ∷ [] → AreAnswered front → LeftByRun k old new acts result v
    by_fetch front keys fault is are =
        let wrote : AreWritten (ended_of front) told = wrote_before acts front (Fetch keys) (RefusedBy fault) is refl d.wrote in
        let u : VaultState = after_calls v front in
        let b : IsBehind v told u = is_behind v front told are wrote none in
        let (mid, before, one) = chain_last k first front (Fetch keys) (RefusedBy fault) last (subst (λ (s : List (VaultCall × VaultAnswer)). AllCalled k first s last) is chain) in
        let doubt : Type 0 = TellsDoubt epoch result in
        record {
          next = None;
          is_next = tt;
          since = one_more_leaves k only rests first front mid (Fetch keys) (RefusedBy fault) last v told (IsLeftStanding v told None) before one are wrote sound none (λ at f. inl f) (λ at may. inl (may_front v u told b at may));
          stages = last_staged k only rests first front mid (Fetch keys) (RefusedBy fault) last v told None before one are wrote sound none (now_between k only rests (k.stands first) u None b.none);
          now = λ c left. stands_alike (k.stands first) (k.stands last) (alike_all k first (calls acts) last chain) (MayStand (vault_next u (Fetch keys) (RefusedBy fault))) (IsLeftNow v told None doubt)
              (may_now v (vault_next u (Fetch keys) (RefusedBy fault)) told None doubt (record { content = b.content; epoch = b.epoch; none = b.none })) c
              (rests last (vault_next u (Fetch keys) (RefusedBy fault)) c (one.sound u (sound_after k first front mid v before sound)) left);
        }

  module _ (err : RunErr) (d : Conducted k kind beat old new acts (Err err)) (f : Failure k old.scene new.scene acts old.output new.output err) where
    -- the end of an epoch was refused, or left in doubt
    by_end : (writes : List (ℕ × Option (List ℕ))) (refused : EndErr) → f.act ≡ Refuses writes refused → IsUnended k old.scene f.front writes refused → LeftByRun k old new acts (Err err) v
    by_end writes refused act_is r =
        let due : EpochRecord ℕ = record_of r.closed in
        let answer : VaultAnswer = end_answer (Err refused) in
        let acts_are : acts ≡ f.front ++ Refuses writes refused ∷ f.behind = f.acts_are ∙ ap (λ (x : Act). f.front ++ x ∷ f.behind) act_is in
        let front : List (VaultCall × VaultAnswer) = calls f.front in
        let is : calls acts ≡ front ++ (End writes, answer) ∷ [] = asks_before acts f.front (Refuses writes refused) f.behind acts_are f.says in
        let wrote : AreWritten (ended_of front) told = wrote_before acts front (End writes) answer is (refused_ends writes refused) d.wrote in
        let u : VaultState = after_calls v front in
        let b : IsBehind v told u = is_behind v front told f.answered wrote none in
        let err_is : err ≡ failed.Fault (fault_in refused) = same_Some err (failed.Fault (fault_in refused)) (sym f.told ∙ ap fault_told act_is) in
        let same_records : records acts ≡ records f.front = tells_before acts f.front (Refuses writes refused) f.behind acts_are f.says old.scene.desk new.scene.desk d.leads ∙ append-nil (records f.front) in
        let is_fault : IsEndFault epoch refused = subst (λ (rs : List (EpochRecord ℕ)). IsEndFault (old.scene.desk.running.epoch + length rs) refused) (sym same_records) r.is_fault in
        let whole : AllCalled k first (calls acts) last = chain (Err err) d in
        let (mid, before, one) = chain_last k first front (End writes) answer last (subst (λ (s : List (VaultCall × VaultAnswer)). AllCalled k first s last) is whole) in
        record {
          next = Some due;
          is_next = (err, refl, f, (writes, refused, act_is, r, refl));
          since = one_more_leaves k only rests first front mid (End writes) answer last v told (IsLeftStanding v told (Some due)) before one f.answered wrote sound none (λ at x. inl x) (may_in_end v u told due writes r.due.makes b);
          stages = last_staged k only rests first front mid (End writes) answer last v told (Some due) before one f.answered wrote sound none (end_between k only rests (k.stands first) u writes due r.due.makes b.none);
          now = λ c left. stands_alike (k.stands first) (k.stands last) (alike_all k first (calls acts) last whole) (MayStand (vault_next u (End writes) answer)) (IsLeftNow v told (Some due) (TellsDoubt epoch (Err err)))
              (may_unended v u told due writes epoch refused err r.due.makes b err_is is_fault) c
              (rests last (vault_next u (End writes) answer) c (one.sound u (sound_after k first front mid v before sound)) left);
        }

    -- the calls that stand before the last act
    before_it : (act : Act) → f.act ≡ act → calls acts ≡ calls f.front ++ vault_calls act
    before_it act is = asks_before acts f.front f.act f.behind f.acts_are f.says ∙ ap (λ (x : Act). calls f.front ++ vault_calls x) is

    no_calls : (act : Act) → f.act ≡ act → vault_calls act ≡ [] → LeftByRun k old new acts (Err err) v
    no_calls act is asks = all_answered (Err err) d (subst AreAnswered (sym (before_it act is ∙ ap (λ (x : List (VaultCall × VaultAnswer)). calls f.front ++ x) asks ∙ append-nil (calls f.front))) f.answered)

    by_act : (act : Act) → f.act ≡ act → IsReason k old.scene f.front act new.scene.trace → LeftByRun k old new acts (Err err) v
    by_act (Halts given) is reason = no_calls (Halts given) is refl
    by_act Unprinted is reason = no_calls Unprinted is refl
    by_act Unwatched is reason = no_calls Unwatched is refl
    by_act (RestUnwatched look batches) is reason = all_answered (Err err) d (subst AreAnswered (sym (before_it (RestUnwatched look batches) is))
        (answered_join (calls f.front) (rest_fetches batches) f.answered (subst AreAnswered (append-nil (rest_fetches batches)) (answered_rest batches [] tt))))
    by_act (DeliverFails keys given) is reason = by_fetch (Err err) d (calls f.front) keys given (before_it (DeliverFails keys given) is) f.answered
    by_act (FetchFails look batches keys given) is reason = by_fetch (Err err) d (calls f.front ++ rest_fetches batches) keys given
        (before_it (FetchFails look batches keys given) is ∙ sym (append_assoc (calls f.front) (rest_fetches batches) ((Fetch keys, RefusedBy given) ∷ [])))
        (answered_join (calls f.front) (rest_fetches batches) f.answered (subst AreAnswered (append-nil (rest_fetches batches)) (answered_rest batches [] tt)))
    by_act (Refuses writes refused) is reason = by_end writes refused is reason
    by_act (Says client steps) is reason = absurd reason
    by_act (Looked look) is reason = absurd reason
    by_act (Takes look keys) is reason = absurd reason
    by_act (Delivers batch) is reason = absurd reason
    by_act (Closes look batches writes) is reason = absurd reason
    by_act (Publishes writes left record_told) is reason = absurd reason

  refused_leaves : (err : RunErr) (d : Conducted k kind beat old new acts (Err err)) → RunEnds k old new acts (Err err) → LeftByRun k old new acts (Err err) v
  refused_leaves err d (inl short) = all_answered (Err err) d (subst (λ (xs : List Act). AreAnswered (calls xs)) (sym short.none) tt)
  refused_leaves err d (inr f) = by_act err d f f.act refl f.reason

  -- A crash at any moment of a run leaves what stands behind a front of the records, or behind all of them and the epoch whose end was
  -- begun; at the return behind all of them, or also that epoch, but this only where the answer tells of doubt.
  pub run_leaves : (result : Result (Unit {0}) RunErr) (d : Conducted k kind beat old new acts result) → LeftByRun k old new acts result v
  run_leaves (Ok done) d = all_answered (Ok done) d d.ends.0
  run_leaves (Err err) d = refused_leaves err d d.ends

  -- where the answer tells of no doubt, a crash at the return leaves what stands behind all the records,
  pub sure_now : (result : Result (Unit {0}) RunErr) (d : Conducted k kind beat old new acts result) → (TellsDoubt epoch result → ⊥)
      → (c : Image) → IsImageOf (k.disk last) c → StandsIn (k.stands first) (λ at. at ≡ standing_behind v told) c
  sure_now result d sure c left = let l = run_leaves result d in
      stands_still (k.stands first) (IsLeftNow v told l.next (TellsDoubt epoch result)) (λ at. at ≡ standing_behind v told)
      (sure_at l.next (TellsDoubt epoch result) sure) c (l.now c left)
    where
      sure_at : (next : Option (EpochRecord ℕ)) (doubt : Type 0) → (doubt → ⊥) → (at : Standing) → IsLeftNow v told next doubt at → at ≡ standing_behind v told
      sure_at next doubt sure at (inl is) = is
      sure_at next doubt sure at (inr (r, is, tells, behind)) = absurd (sure tells)

  told_ok : (n : ℕ) (done : Unit {0}) → TellsDoubt n (Ok done) → ⊥
  told_ok n done is = cc is

  -- as it does where the run went to its end
  pub done_now : (done : Unit {0}) (d : Conducted k kind beat old new acts (Ok done)) → (c : Image) → IsImageOf (k.disk last) c → StandsIn (k.stands first) (λ at. at ≡ standing_behind v told) c
  done_now done d = sure_now (Ok done) d (told_ok epoch done)
