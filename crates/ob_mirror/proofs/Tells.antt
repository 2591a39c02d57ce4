-- What the halves tell stays beside the mirror's log, call by call.
use Rattle.std.proofs.Common.{◌≡◌, ◌≤◌, ◌<◌, ℕ, List, [], ◌∷◌, ◌++◌, Option, Some, None, Bool, true, length, inl, inr, refl, sym, ◌∙◌, ap, subst, arith}
use Rattle.std.proofs.Math.Logic.{∥∥₁_map, ∥∥₁_map₂}
use Rattle.std.proofs.lemmas.Grind.{merely}
use Rattle.std.proofs.lemmas.List.{append-nil}
use Rattle.ob_base.specs.Causes.{Rose}
use Rattle.ob_store.specs.declared.event.Event.{Event}
use Rattle.ob_store.specs.declared.event.Event.TheVariants.{Read}
use Rattle.ob_store.specs.Disk.{Disk}
use Rattle.ob_store.specs.Calls.{GoesOn, IsFreshLane, Keeps, Notes, TellsNone}
use Rattle.ob_store.proofs.Events.{none_noted}
use Rattle.ob_store.proofs.Lanes.{fresh_tells_none}
use Rattle.ob_lanes.specs.declared.hand.Hand.{Hand}
use Rattle.ob_lanes.specs.declared.hand.SealedJobs.{SealedJobs}
use Rattle.ob_lanes.specs.declared.hand.Slot.{Slot}
use Rattle.ob_lanes.specs.Hands.{reads_of, slot_at, slot_places}
use Rattle.ob_mirror.specs.declared.lane.SecondLane.{SecondLane}
use Rattle.ob_mirror.specs.Asked.{IsAbsorbed}
use Rattle.ob_mirror.specs.Mirrored.{Agree}
use Rattle.ob_mirror.specs.Reading.{LaneTellsPart, TellPlaces, failed_in, is_refused}
use Rattle.ob_mirror.specs.Telling.{Follows, HasSomeRead, LaneTells, LeavesOutReads, TellsReads, TellsSome, TellsStill, ToldRead, changes}
use Rattle.ob_mirror.proofs.Alone.{changes_join, follows_absorb, follows_none, follows_then}
use Rattle.ob_mirror.proofs.Leaves.{again_failed, leaves_failed, leaves_join, read_either}

-- ---- lanes

same_on : (reads more now : List Event) (old new : Option (List Event)) → now ≡ reads ++ more → TellsReads reads old → Notes more old new → TellsReads now new
same_on reads more now old None is tells noted = tt
same_on reads more now (Some es) (Some fs) is tells noted = noted ∙ ap (λ (xs : List Event). xs ++ more) tells ∙ sym is
same_on reads more now None (Some fs) is tells noted = absurd noted

-- nothing but reads, and then nothing but reads
none_join : (xs ys : List Event) → changes xs ≡ [] → changes ys ≡ [] → changes (xs ++ ys) ≡ []
none_join xs ys one two = changes_join xs ys ∙ ap (λ (es : List Event). es ++ changes ys) one ∙ two

-- some of the reads, and then some of more
some_on : (reads more own now : List Event) (old new : Option (List Event)) → now ≡ reads ++ more → LeavesOutReads more own → TellsSome reads old → Notes own old new → TellsSome now new
some_on reads more own now old None is leaves some noted = tt
some_on reads more own now (Some es) (Some fs) is leaves some noted =
    subst (λ (xs : List Event). LeavesOutReads xs fs) (sym is) (subst (λ (xs : List Event). LeavesOutReads (reads ++ more) xs) (sym noted) (leaves_join reads more es own some leaves))
some_on reads more own now None (Some fs) is leaves some noted = absurd noted

-- the lane had told a read, or tells one now
told_either : (own : List Event) (old new : Option (List Event)) (P : Type 0) → (ToldRead old → P) → (HasSomeRead own → P) → Notes own old new → ToldRead new → P
told_either own old None P one two noted told = absurd told
told_either own (Some es) (Some fs) P one two noted told = read_either es own P one two (subst HasSomeRead noted told)
told_either own None (Some fs) P one two noted told = absurd noted

none_same : (lane : Option (List Event)) → TellsNone lane → TellsReads [] lane
none_same (Some es) none = none
none_same None none = tt

none_some : (lane : Option (List Event)) → TellsNone lane → TellsSome [] lane
none_some (Some es) none = none
none_some None none = tt

none_told : (lane : Option (List Event)) → TellsNone lane → ToldRead lane → ⊥
none_told (Some es) none told = subst HasSomeRead none told
none_told None none told = told

-- new lanes
pub lanes_new : (now : List Event) (a b first second : Option (List Event)) (faults : ℕ) → now ≡ [] → IsFreshLane a first → IsFreshLane b second → ∥ LaneTells now first second faults ∥₁
lanes_new now a b first second faults is one two = merely (record {
  only = ap changes is;
  same = subst (λ (es : List Event). TellsReads es first) (sym is) (none_same first (fresh_tells_none a first one));
  again = subst (λ (es : List Event). TellsSome es second) (sym is) (none_some second (fresh_tells_none b second two));
  failed = λ told. absurd (none_told second (fresh_tells_none b second two) told);
})

-- a read more, of the first half alone
pub lanes_read : (cell : ℕ) (reads now : List Event) (a c b : Option (List Event)) (was is : ℕ) → now ≡ reads ++ Read cell ∷ [] → ∥ LaneTells reads a b was ∥₁ → Notes (Read cell ∷ []) a c → was ≤ is → ∥ LaneTells now c b is ∥₁
lanes_read cell reads now a c b was is more tells one later = ∥∥₁_map tells (λ t. record {
  only = ap changes more ∙ none_join reads (Read cell ∷ []) t.only refl;
  same = same_on reads (Read cell ∷ []) now a c more t.same one;
  again = some_on reads (Read cell ∷ []) [] now b b more (inr refl) t.again (none_noted b);
  failed = λ told. let some = t.failed told in omega (arith, some, later);
})

-- of both, where the first half failed
pub lanes_read_again : (cell : ℕ) (reads now : List Event) (a c b d : Option (List Event)) (was is : ℕ) → now ≡ reads ++ Read cell ∷ [] → ∥ LaneTells reads a b was ∥₁ → Notes (Read cell ∷ []) a c → Notes (Read cell ∷ []) b d → Rose was is → ∥ LaneTells now c d is ∥₁
lanes_read_again cell reads now a c b d was is more tells one two rose = ∥∥₁_map tells (λ t. record {
  only = ap changes more ∙ none_join reads (Read cell ∷ []) t.only refl;
  same = same_on reads (Read cell ∷ []) now a c more t.same one;
  again = some_on reads (Read cell ∷ []) (Read cell ∷ []) now b d more (inl (refl, refl)) t.again two;
  failed = λ told. omega (arith, rose);
})

reads_only : (asked : SealedJobs) (places : List ℕ) → changes (reads_of asked places) ≡ []
reads_only asked [] = refl
reads_only asked (x ∷ xs) = reads_only asked xs

module _ {L M : Type 0} (seen_a : L → Option (List Event)) (faults_a : L → ℕ) (seen_b : M → Option (List Event)) (asked : SealedJobs) where
  -- The first half's lane has read the jobs of its part, of which it had none.
  pub part_read : (out back : Hand L) (second : SecondLane M) → ∥ LaneTells second.reads.events (seen_a out.lane) (seen_b second.lane) (faults_a out.lane) ∥₁ → faults_a out.lane ≤ faults_a back.lane
      → ((i : ℕ) → i < length back.part.items → is_refused (slot_at back.part.items i).outcome ≡ true → 0 < faults_a back.lane) → Notes (reads_of asked (slot_places back.part.items)) (seen_a out.lane) (seen_a back.lane) → ∥ LaneTellsPart seen_a faults_a seen_b asked back second ∥₁
  part_read out back second tells later refused noted = ∥∥₁_map tells (λ t. record {
    only = t.only;
    same = same_on second.reads.events (reads_of asked (slot_places back.part.items)) _ (seen_a out.lane) (seen_a back.lane) refl t.same noted;
    again = t.again;
    failed = λ told. let some = t.failed told in omega (arith, some, later);
    refused = refused;
  })

  -- The second half's has these reads in its log too, and has read those that failed itself.
  part_joined : (back : Hand L) (second after : SecondLane M) → ∥ LaneTellsPart seen_a faults_a seen_b asked back second ∥₁ → after.reads.events ≡ second.reads.events ++ reads_of asked (slot_places back.part.items)
      → Notes (reads_of asked (slot_places (failed_in back.part.items))) (seen_b second.lane) (seen_b after.lane) → ∥ LaneTells after.reads.events (seen_a back.lane) (seen_b after.lane) (faults_a back.lane) ∥₁
  part_joined back second after tells log noted =
      let slots = back.part.items in
      let failed = reads_of asked (slot_places (failed_in slots)) in
      ∥∥₁_map tells (λ t. record {
        only = ap changes log ∙ none_join second.reads.events _ t.only (reads_only asked (slot_places slots));
        same = subst (λ (es : List Event). TellsReads es (seen_a back.lane)) (sym log) t.same;
        again = some_on second.reads.events (reads_of asked (slot_places slots)) failed after.reads.events (seen_b second.lane) (seen_b after.lane) log (leaves_failed asked slots) t.again noted;
        failed = told_either failed (seen_b second.lane) (seen_b after.lane) (0 < faults_a back.lane) t.failed (again_failed asked slots (0 < faults_a back.lane) t.refused) noted;
      })

  pub place_joined : (f : Option (Hand L)) (s : Option (SecondLane M)) (back : Hand L) (second after : SecondLane M) (slots : List Slot) → f ≡ Some back → s ≡ Some second → slots ≡ back.part.items → TellPlaces seen_a faults_a seen_b asked f s
      → after.reads.events ≡ second.reads.events ++ reads_of asked (slot_places slots) → Notes (reads_of asked (slot_places (failed_in slots))) (seen_b second.lane) (seen_b after.lane) → ∥ LaneTells after.reads.events (seen_a back.lane) (seen_b after.lane) (faults_a back.lane) ∥₁
  place_joined f s back second after slots first_is second_is slots_are told log noted =
      part_joined back second after
      (subst (λ (y : Option (SecondLane M)). TellPlaces seen_a faults_a seen_b asked (Some back) y) second_is (subst (λ (x : Option (Hand L)). TellPlaces seen_a faults_a seen_b asked x s) first_is told))
      (log ∙ ap (λ (l : List Slot). second.reads.events ++ reads_of asked (slot_places l)) slots_are)
      (subst (λ (l : List Slot). Notes (reads_of asked (slot_places (failed_in l))) (seen_b second.lane) (seen_b after.lane)) slots_are noted)

-- ---- the halves

-- halves that agree, and each of which is as it was
pub agree_still : (together : Type 0) (a c b d : Disk) → Agree together a b → GoesOn a c → Keeps a c → GoesOn b d → Keeps b d → Agree together c d
agree_still together a c b d agree goes keeps goes' keeps' = λ is one two k.
    let told = goes.told one in
    let told' = goes'.told two in
    keeps'.cells told' k ∙ agree is told told' k ∙ sym (keeps.cells told k)

-- no call so far
pub follows_begun : {A B : Type 0} (one : A → Disk) (two : B → Disk) (now : List Event) (then a : A) (then' b : B) → now ≡ [] → then ≡ a → then' ≡ b → ∥ Follows now (one then) (one a) (two then') (two b) ∥₁
follows_begun one two now then a then' b is first second = merely (
    subst (λ (es : List Event). Follows es (one then) (one a) (two then') (two b)) (sym is)
    (subst (λ (x : _). Follows [] (one x) (one a) (two then') (two b)) (sym first) (subst (λ (y : _). Follows [] (one a) (one a) (two y) (two b)) (sym second) (follows_none (one a) (two b)))))

-- calls more
pub follows_on : (made more now : List Event) (a c e b d f : Disk) → now ≡ made ++ more → ∥ Follows made a c b d ∥₁ → Follows more c e d f → ∥ Follows now a e b f ∥₁
follows_on made more now a c e b d f is kept on = ∥∥₁_map kept (λ was. subst (λ (es : List Event). Follows es a e b f) (sym is) (follows_then made more a c e b d f was on))

-- calls that none is told of
pub follows_still : (made : List Event) (a c e b d f : Disk) → Notes [] c.seen e.seen → TellsStill c e → Notes [] d.seen f.seen → TellsStill d f → ∥ Follows made a c b d ∥₁ → ∥ Follows made a e b f ∥₁
follows_still made a c e b d f one still two still' kept = follows_on made [] made a c e b d f (sym (append-nil made)) kept (record { own = []; first = one; second = two; same = refl; failed = λ has. absurd has; first_still = still; second_still = still' })

-- lanes that are given back
pub follows_back : {L M : Type 0} (seen_a : L → Option (List Event)) (faults_a : L → ℕ) (seen_b : M → Option (List Event)) (faults_b : M → ℕ) (reads made now : List Event) (first : L) (second : M) (a c e b d f : Disk) → now ≡ made ++ reads → ∥ Follows made a c b d ∥₁
    → ∥ LaneTells reads (seen_a first) (seen_b second) (faults_a first) ∥₁ → IsAbsorbed seen_a faults_a first c e → IsAbsorbed seen_b faults_b second d f → ∥ Follows now a e b f ∥₁
follows_back seen_a faults_a seen_b faults_b reads made now first second a c e b d f is kept tells one two = ∥∥₁_map₂ kept tells (λ was t.
    subst (λ (es : List Event). Follows es a e b f) (sym is) (follows_then made reads a c e b d f was (follows_absorb seen_a faults_a seen_b faults_b reads first second c e d f t one two)))
