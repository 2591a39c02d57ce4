-- How images go on through a run of calls.
use Rattle.std.proofs.Common.{◌≡◌, ◌≢◌, ◌⊎◌, inl, inr, ⊎_elim, ℕ, ◌+◌, ◌<◌, ◌≤◌, refl, sym, ◌∙◌, subst, arith}
use mathlib.Core.Path.{fun_ext}
use Rattle.ob_store.specs.Disk.{Clock, NotAfter, Disk, Image}
use Rattle.ob_store.specs.Images.{Elapses, LeavesOnly, Passes, SameBut, SameOff, Tears, Shrinks, IsSynced}
use Rattle.ob_store.specs.Calls.{GoesOn, Keeps}

pub no_later : (t : Clock) → NotAfter t t
no_later t part = omega arith

pub then_later : (t u v : Clock) → NotAfter t u → NotAfter u v → NotAfter t v
then_later t u v a b part = omega (arith, a part, b part)

-- before the first call
pub started : (d : Disk) (P : Image → Type 0) → ((c : Image) → d.left_since d.moment c → P c) → (d.tells → P d.cells) → LeavesOnly d d P
started d P here told = record { later = no_later d.moment; each = here; before = λ t c le left. inl left; told = told }

-- one call more, after which a crash leaves what has P
pub goes_on : (old mid new : Disk) (P : Image → Type 0) → LeavesOnly old mid P → NotAfter mid.moment new.moment → Elapses mid new → ((c : Image) → new.may_leave c → P c) → (new.tells → P new.cells) → LeavesOnly old new P
goes_on old mid new P so_far later time here told = record {
  later = then_later old.moment mid.moment new.moment so_far.later later;
  each = λ c left. ⊎_elim (so_far.each c) (here c) (time old.moment c so_far.later left);
  before = λ t c le left. ⊎_elim (so_far.before t c le) (λ now. inr (here c now)) (time t c (then_later t old.moment mid.moment le so_far.later) left);
  told = told;
}

-- one run after another
pub then_on : (old mid new : Disk) (P : Image → Type 0) → LeavesOnly old mid P → LeavesOnly mid new P → LeavesOnly old new P
then_on old mid new P first second = record {
  later = then_later old.moment mid.moment new.moment first.later second.later;
  each = λ c left. ⊎_elim (first.each c) (λ p. p) (second.before old.moment c first.later left);
  before = λ t c le left. ⊎_elim (first.before t c le) (λ p. inr p) (second.before t c (then_later t old.moment mid.moment le first.later) left);
  told = second.told;
}

-- what has P has Q
pub weakened : (old new : Disk) (P Q : Image → Type 0) → ((c : Image) → P c → Q c) → LeavesOnly old new P → LeavesOnly old new Q
weakened old new P Q so run = record {
  later = run.later;
  each = λ c left. so c (run.each c left);
  before = λ t c le left. ⊎_elim (λ was. inl was) (λ p. inr (so c p)) (run.before t c le left);
  told = λ tells. so new.cells (run.told tells);
}

-- nothing yet
pub passed_none : (d : Disk) (step : Image → Image → Type 0) → ((c : Image) → step c c) → Passes step d d
passed_none d step self = record { later = no_later d.moment; now = λ c left. (c, left, self c); since = λ t c le left. inl left; told = λ tells. (tells, self d.cells) }

-- one call more, by a step that is one of those
pub passed_on : (step one : Image → Image → Type 0) (old mid new : Disk) → ((c d e : Image) → one c d → step d e → step c e) → Passes step old mid → GoesOn mid new → Elapses mid new
    → ((c : Image) → new.may_leave c → (d : Image) × mid.may_leave d × one c d) → (mid.tells → one new.cells mid.cells) → Passes step old new
passed_on step one old mid new join so_far goes time crash read = record {
  later = then_later old.moment mid.moment new.moment so_far.later goes.later;
  now = joined_now;
  since = λ t c le left. ⊎_elim (so_far.since t c le) (λ now. inr (joined_now c now)) (time t c (then_later t old.moment mid.moment le so_far.later) left);
  told = λ tells. (let was = so_far.told (goes.told tells) in (was.0, join new.cells mid.cells old.cells (read (goes.told tells)) was.1));
}
  where
    joined_now : (c : Image) → new.may_leave c → (e : Image) × old.may_leave e × step c e
    joined_now c left =
        let one_back = crash c left in
        let back = so_far.now one_back.0 one_back.1 in
        (back.0, back.1, join c one_back.0 back.0 one_back.2 back.2)

-- a step that is another one too
pub passes_so : (one step : Image → Image → Type 0) (old new : Disk) → ((c d : Image) → one c d → step c d) → Passes one old new → Passes step old new
passes_so one step old new so passes = record {
  later = passes.later;
  now = λ c left. (let back = passes.now c left in (back.0, back.1, so c back.0 back.2));
  since = λ t c le left. ⊎_elim (λ was. inl was) (λ back. inr (back.0, back.1, so c back.0 back.2)) (passes.since t c le left);
  told = λ tells. (let was = passes.told tells in (was.0, so new.cells old.cells was.1));
}

-- one run after another, by steps that join
pub passed_then : (step : Image → Image → Type 0) (old mid new : Disk) → ((c d e : Image) → step c d → step d e → step c e) → Passes step old mid → Passes step mid new → Passes step old new
passed_then step old mid new join first second = record {
  later = then_later old.moment mid.moment new.moment first.later second.later;
  now = λ c left. back_to c (second.now c left);
  since = λ t c le left. ⊎_elim (first.since t c le) (λ p. inr (back_to c p)) (second.since t c (then_later t old.moment mid.moment le first.later) left);
  told = λ tells. (let last = second.told tells in let was = first.told last.0 in (was.0, join new.cells mid.cells old.cells last.1 was.1));
}
  where
    back_to : (c : Image) → ((d : Image) × mid.may_leave d × step c d) → (e : Image) × old.may_leave e × step c e
    back_to c one_back =
        let back = first.now one_back.0 one_back.1 in
        (back.0, back.1, join c one_back.0 back.0 one_back.2 back.2)

-- what every image before had, and what was read, turns into P
pub leaves_of : (step : Image → Image → Type 0) (Q P : Image → Type 0) (old new : Disk) → Passes step old new → ((c : Image) → old.left_since old.moment c → old.may_leave c) → ((c : Image) → old.may_leave c → Q c)
    → (old.tells → Q old.cells) → ((c d : Image) → Q d → step c d → P c) → ((c : Image) → Q c → P c) → LeavesOnly old new P
leaves_of step Q P old new run only was read so same = record {
  later = run.later;
  each = λ c left. ⊎_elim (λ before. same c (was c (only c before))) (λ back. so c back.0 (was back.0 back.1) back.2) (run.since old.moment c (no_later old.moment) left);
  before = λ t c le left. ⊎_elim (λ before. inl before) (λ back. inr (so c back.0 (was back.0 back.1) back.2)) (run.since t c le left);
  told = λ tells. (let back = run.told tells in so new.cells old.cells (read back.0) back.1);
}

-- a write into a run of cells
pub run_step : (base n i : ℕ) (c d e : Image) → i < n → SameBut (base + i) c d → SameOff base n d e → SameOff base n c e
run_step base n i c d e lt one run k out = one k (off k out) ∙ run k out
  where
    off : (j : ℕ) → (j < base) ⊎ (base + n ≤ j) → j ≢ base + i
    off j (inl low) = omega arith
    off j (inr high) = omega arith

pub same_but_again : (cell : ℕ) (c d e : Image) → SameBut cell c d → SameBut cell d e → SameBut cell c e
same_but_again cell c d e one two k off = one k off ∙ two k off

pub same_off_again : (base n : ℕ) (c d e : Image) → SameOff base n c d → SameOff base n d e → SameOff base n c e
same_off_again base n c d e one two k off = one k off ∙ two k off

-- one write, whatever it answered
pub torn_once : (cell : ℕ) (old new : Disk) → GoesOn old new → Elapses old new → Tears cell old new → (old.tells → SameBut cell new.cells old.cells) → Passes (SameBut cell) old new
torn_once cell old new goes time tears rest = record {
  later = goes.later;
  now = tears;
  since = λ t c le left. ⊎_elim (λ was. inl was) (λ now. inr (tears c now)) (time t c le left);
  told = λ tells. (goes.told tells, rest (goes.told tells));
}

-- one call more that leaves no new image, and each cell as it was
pub passed_still : (step : Image → Image → Type 0) (old mid new : Disk) → Passes step old mid → GoesOn mid new → Elapses mid new → Shrinks mid new → Keeps mid new → Passes step old new
passed_still step old mid new so_far goes time shrinks keeps = record {
  later = then_later old.moment mid.moment new.moment so_far.later goes.later;
  now = λ c left. so_far.now c (shrinks c left);
  since = λ t c le left. ⊎_elim (so_far.since t c le) (λ now. inr (so_far.now c (shrinks c now))) (time t c (then_later t old.moment mid.moment le so_far.later) left);
  told = λ tells. (let was = so_far.told (goes.told tells) in (was.0, subst (λ (i : Image). step i old.cells) (sym (fun_ext (λ k. keeps.cells (goes.told tells) k))) was.1));
}

-- from a settled store on, only this cell is torn
pub torn_alone : (cell : ℕ) (old new : Disk) → ((c : Image) → old.left_since old.moment c → old.may_leave c) → Passes (SameBut cell) old new → IsSynced old → LeavesOnly old new (λ c. SameBut cell c old.cells)
torn_alone cell old new only passes settled =
    leaves_of (SameBut cell) (λ d. (k : ℕ) → d k ≡ old.cells k) (λ c. SameBut cell c old.cells) old new passes only settled (λ tells k. refl)
    (λ c d was step k off. step k off ∙ was k)
    (λ c was k off. was k)
