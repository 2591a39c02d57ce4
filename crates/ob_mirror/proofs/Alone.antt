-- Each half of a mirror alone.
use Rattle.std.proofs.Common.{◌≡◌, ◌<◌, inl, inr, ⊎_elim, ℕ, Bool, ◌≤◌, ◌+◌, ◌*◌, ◌/◌, ◌%◌, List, [], ◌∷◌, ◌++◌, Option, Some, None, Result, Ok, Err, refl, sym, ◌∙◌, ap, subst, arith}
use mathlib.Core.Path.{fun_ext}
use Rattle.std.specs.Borrow.{GName}
use Rattle.ob_base.specs.Causes.{Rose}
use Rattle.ob_base.specs.declared.fault.Failed.{Failed}
use Rattle.ob_store.specs.declared.event.Event.{Event}
use Rattle.ob_store.specs.declared.event.Event.TheVariants.{Read, Write, Sync}
use Rattle.ob_store.specs.declared.store.Store.{Ghosts}
use Rattle.ob_store.specs.Disk.{Clock, Disk, Image}
use Rattle.ob_store.specs.Images.{LeavesOnly}
use Rattle.ob_store.specs.Calls.{AddsFaults, GoesOn, Notes, NotesLane, TellsOn}
use Rattle.ob_store.proofs.Events.{joined, none_noted}
use Rattle.ob_store.proofs.Lanes.{lane_noted}
use Rattle.ob_store.proofs.Serving.{goes_same, goes_then}
use Rattle.ob_mirror.specs.Mirrored.{even_moments, odd_moments, woven_moments, Agree, Together, mirrored}
use Rattle.ob_mirror.specs.declared.lane.MirrorLane.{MirrorLane}
use Rattle.ob_mirror.specs.Asked.{IsAbsorbed, IsMadeSure, IsCellWritten}
use Rattle.ob_mirror.specs.Both.{AreAsked}
use Rattle.ob_mirror.specs.Joins.{IsCopy}
use Rattle.ob_mirror.specs.Lanes.{AreLanesMade}
use Rattle.ob_mirror.specs.Standing.{EachStands}
use Rattle.ob_mirror.specs.Telling.{Follows, HasSomeRead, LaneTells, LeavesOutReads, TellsReads, TellsSome, TellsStill, ToldRead, changes}
use Rattle.ob_mirror.proofs.Leaves.{leaves_changes, leaves_join, read_either}

woven_even : (a b : Clock) (part : ℕ) → part % 2 ≡ 0 → woven_moments a b part ≡ a (part / 2)
woven_even a b part is = rw is refl

woven_odd : (a b : Clock) (part : ℕ) → part % 2 ≡ 1 → woven_moments a b part ≡ b (part / 2)
woven_odd a b part is = rw is refl

at_even : (a b : Clock) (part : ℕ) → woven_moments a b (2 * part) ≡ a part
at_even a b part =
    let zero_rest : (2 * part) % 2 ≡ 0 = omega arith in
    let half : (2 * part) / 2 ≡ part = omega arith in
    woven_even a b (2 * part) zero_rest ∙ ap a half

at_odd : (a b : Clock) (part : ℕ) → woven_moments a b (2 * part + 1) ≡ b part
at_odd a b part =
    let one_rest : (2 * part + 1) % 2 ≡ 1 = omega arith in
    let half : (2 * part + 1) / 2 ≡ part = omega arith in
    woven_odd a b (2 * part + 1) one_rest ∙ ap b half

evens_woven : (a b : Clock) → even_moments (woven_moments a b) ≡ a
evens_woven a b = fun_ext (λ part. at_even a b part)

odds_woven : (a b : Clock) → odd_moments (woven_moments a b) ≡ b
odds_woven a b = fun_ext (λ part. at_odd a b part)

module _ (x y v w : GName) (was : Bool) (a0 b0 : Disk) (is : Bool) (c0 d0 : Disk) (made now : List Event) (failed still : ℕ) (a c b d : Disk) where
  pub each_stands : Agree (Together is c0 d0) c d → EachStands a c b d (mirrored x y was a0 b0 made failed a b) (mirrored v w is c0 d0 now still c d)
  each_stands agree = record {
    first = λ image left. inl left;
    second = λ image left. inr left;
    first_since = λ image left. inl (subst (λ (t : Clock). c.left_since t image) (sym (evens_woven a.moment b.moment)) left);
    second_since = λ image left. inr (subst (λ (t : Clock). d.left_since t image) (sym (odds_woven a.moment b.moment)) left);
    no_other = λ image left. ⊎_elim
        (λ l. inl (subst (λ (t : Clock). c.left_since t image) (evens_woven a.moment b.moment) l))
        (λ r. inr (subst (λ (t : Clock). d.left_since t image) (odds_woven a.moment b.moment) r))
        left;
    reads = λ tells cell. (refl, agree tells.0 tells.1 tells.2 cell);
  }

  -- what is proved of the mirror's images is true of those of either half
  pub half_leaves : (P : Image → Type 0) → LeavesOnly (mirrored x y was a0 b0 made failed a b) (mirrored v w is c0 d0 now still c d) P → ((image : Image) → c.left_since a.moment image → P image) × ((image : Image) → d.left_since b.moment image → P image)
  half_leaves P leaves = (
    (λ image left. leaves.each image (inl (subst (λ (t : Clock). c.left_since t image) (sym (evens_woven a.moment b.moment)) left))),
    (λ image left. leaves.each image (inr (subst (λ (t : Clock). d.left_since t image) (sym (odds_woven a.moment b.moment)) left))),
  )

-- behind a join, what is true of the first half's cells, and is told by those that were copied, is true of each image of the second
pub copy_leaves : (cells : ℕ) (P : Image → Type 0) (first second : Disk) → ((c d : Image) → ((k : ℕ) → k < cells → c k ≡ d k) → P d → P c) → IsCopy cells first second → first.tells → second.tells → P first.cells → (image : Image) → second.may_leave image → P image
copy_leaves cells P first second by copy one two has image left = by image first.cells (λ k lt. copy.images one two image left k lt) has

-- ---- events

pub changes_join : (xs ys : List Event) → changes (xs ++ ys) ≡ changes xs ++ changes ys
changes_join [] ys = refl
changes_join (Read cell ∷ xs) ys = changes_join xs ys
changes_join (Write cell ∷ xs) ys = ap (λ (es : List Event). Write cell ∷ es) (changes_join xs ys)
changes_join (Sync ∷ xs) ys = ap (λ (es : List Event). Sync ∷ es) (changes_join xs ys)

-- a half tells still
pub still_by : (a b : Disk) → GoesOn a b → TellsStill a b
still_by a b goes = record { faults = goes.faults; seen = goes.seen }

pub still_same : (a : Disk) → TellsStill a a
still_same a = still_by a a (goes_same a)

on_then : (a b c : Option (List Event)) (l m n : ℕ) → l ≤ m → m ≤ n → TellsOn a b l m → TellsOn b c m n → TellsOn a c l n
on_then (Some a) None None l m n le me p q = omega arith
on_then (Some a) (Some b) None l m n le me p q = omega arith
on_then (Some a) (Some b) (Some c) l m n le me p q = tt
on_then (Some a) None (Some c) l m n le me p q = absurd q
on_then None None None l m n le me p q = tt
on_then None None (Some c) l m n le me p q = absurd q
on_then None (Some b) c l m n le me p q = absurd p

still_then : (a b c : Disk) → TellsStill a b → TellsStill b c → TellsStill a c
still_then a b c p q = record { faults = (let one = p.faults in let two = q.faults in omega (arith, one, two)); seen = on_then a.seen b.seen c.seen a.faults b.faults c.faults p.faults q.faults p.seen q.seen }

pub follows_none : (a b : Disk) → Follows [] a a b b
follows_none a b = record { own = []; first = none_noted a.seen; second = none_noted b.seen; same = refl; failed = λ has. absurd has; first_still = still_same a; second_still = still_same b }

pub follows_then : (made more : List Event) (a c e b d f : Disk) → Follows made a c b d → Follows more c e d f → Follows (made ++ more) a e b f
follows_then made more a c e b d f p q = record {
  own = p.own ++ q.own;
  first = joined made more a.seen c.seen e.seen p.first q.first;
  second = joined p.own q.own b.seen d.seen f.seen p.second q.second;
  same = leaves_join made more p.own q.own p.same q.same;
  failed = read_either p.own q.own (Rose a.faults e.faults)
      (λ has. let rose = p.failed has in let on = q.first_still.faults in omega (arith, rose, on))
      (λ has. let rose = q.failed has in let on = p.first_still.faults in omega (arith, rose, on));
  first_still = still_then a c e p.first_still q.first_still;
  second_still = still_then b d f p.second_still q.second_still;
}

-- a lane's events were noted, and are some of these reads
lane_row : (reads : List Event) (lane old new : Option (List Event)) → changes reads ≡ [] → TellsSome reads lane → NotesLane lane old new → (own : List Event) × Notes own old new × LeavesOutReads reads own × (HasSomeRead own → ToldRead lane)
lane_row reads (Some events) old new none some back = (events, back, some, λ has. has)
lane_row reads None old None none some back = ([], tt, subst (LeavesOutReads reads) none (leaves_changes reads), λ has. absurd has)
lane_row reads None old (Some x) none some back = absurd (let wrong : Some x ≡ None = back in cc)

-- the faults of a lane with any make the count rise
adds_rose : (lane old new : ℕ) → 0 < lane → AddsFaults lane old new → Rose old new
adds_rose lane old new some adds = omega (arith, some, adds)

lane_reads : (reads : List Event) (lane old new : Option (List Event)) → TellsReads reads lane → NotesLane lane old new → Notes reads old new
lane_reads reads (Some events) old new tells back = subst (λ (es : List Event). Notes es old new) tells back
lane_reads reads None old None tells back = tt
lane_reads reads None old (Some x) tells back = absurd (let wrong : Some x ≡ None = back in cc)

module _ {L M : Type 0} (seen_a : L → Option (List Event)) (faults_a : L → ℕ) (seen_b : M → Option (List Event)) (faults_b : M → ℕ) where
  pub follows_absorb : (reads : List Event) (first : L) (second : M) (a c b d : Disk) → LaneTells reads (seen_a first) (seen_b second) (faults_a first) → IsAbsorbed seen_a faults_a first a c → IsAbsorbed seen_b faults_b second b d → Follows reads a c b d
  follows_absorb reads first second a c b d tells back again =
      let s = lane_row reads (seen_b second) b.seen d.seen tells.only tells.again again.seen in
      record { own = s.0; first = lane_reads reads (seen_a first) a.seen c.seen tells.same back.seen; second = s.1; same = s.2; failed = λ has. adds_rose (faults_a first) a.faults c.faults (tells.failed (s.3 has)) back.faults; first_still = still_by a c back.goes; second_still = still_by b d again.goes }

  pub follows_lane : {S T : Type 0} {ga : Ghosts S L} {gb : Ghosts T M} (one : S → Disk) (two : T → Disk) (a c : S) (b d : T) (result : Result (MirrorLane S T L M ga gb) Failed) → AreLanesMade seen_a faults_a seen_b faults_b one two a c b d result → Follows [] (one a) (one c) (two b) (two d)
  follows_lane one two a c b d (Ok lane) made = record { own = []; first = made.0.seen; second = made.1.seen; same = refl; failed = λ has. absurd has; first_still = still_by (one a) (one c) made.0.goes; second_still = still_by (two b) (two d) made.1.goes }
  follows_lane one two a c b d (Err e) (inl refused) = record {
    own = [];
    first = refused.0.seen;
    second = subst (λ (t : _). Notes [] (two b).seen (two t).seen) (sym refused.1) (none_noted (two b).seen);
    same = refl;
    failed = λ has. absurd has;
    first_still = still_by (one a) (one c) refused.0.goes;
    second_still = subst (λ (t : _). TellsStill (two b) (two t)) (sym refused.1) (still_same (two b));
  }
  follows_lane one two a c b d (Err e) (inr had) = record {
    own = [];
    first = lane_noted [] (one a).seen (one had.0).seen (seen_a had.1) (seen_a had.1) (one c).seen had.2.fresh_seen had.2.seen (none_noted (seen_a had.1)) had.3.seen;
    second = had.4.seen;
    same = refl;
    failed = λ has. absurd has;
    first_still = still_by (one a) (one c) (goes_then (one a) (one had.0) (one c) had.2.goes had.3.goes);
    second_still = still_by (two b) (two d) had.4.goes;
  }

pub follows_write : (cell : ℕ) (bytes : List ℕ) (result : Result (Unit {0}) Failed) (a c b d : Disk) → AreAsked (IsCellWritten cell bytes) a c b d result → Follows (Write cell ∷ []) a c b d
follows_write cell bytes result a c b d asked = record { own = Write cell ∷ []; first = asked.first.seen; second = asked.second.seen; same = (refl, refl); failed = λ has. absurd has; first_still = still_by a c asked.first.serves.goes; second_still = still_by b d asked.second.serves.goes }

pub follows_sync : (result : Result (Unit {0}) Failed) (a c b d : Disk) → AreAsked IsMadeSure a c b d result → Follows (Sync ∷ []) a c b d
follows_sync result a c b d asked = record { own = Sync ∷ []; first = asked.first.seen; second = asked.second.seen; same = (refl, refl); failed = λ has. absurd has; first_still = still_by a c asked.first.serves.goes; second_still = still_by b d asked.second.serves.goes }
