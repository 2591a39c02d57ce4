-- One call more, and what a crash may leave then.
use Rattle.std.proofs.Common.{◌≡◌, ◌≢◌, ◌⊎◌, inl, inr, ⊎_elim, ℕ, ◌+◌, ◌-◌, ◌<◌, ◌≤◌, List, [], ◌∷◌, ◌++◌, length, take, Bool, true, false, Contains, Ok, Err, Option, refl, sym, ◌∙◌, ap, subst, arith, length-append}
use Rattle.std.proofs.Math.ListN.{set}
use Rattle.std.proofs.lemmas.Bool.{cases_eq}
use Rattle.std.proofs.lemmas.List.Elements.{Contains-append_cases}
use Rattle.std.proofs.lemmas.List.{take_all, take-append-le, get_or-set_other, get_or-set_same, set_past, length-set}
use Rattle.ob_store.specs.declared.event.Event.{Event}
use Rattle.ob_store.specs.Disk.{Disk, Image}
use Rattle.ob_store.specs.Images.{SameBut, Elapses, Tears, Shrinks, IsSynced}
use Rattle.ob_store.specs.Calls.{TellsOn, GoesOn, Serves, IsFailed, Keeps}
use Rattle.ob_base.specs.declared.fault.Failed.{Failed}
use Rattle.ob_base.specs.Causes.{Rose}
use Rattle.ob_mem.specs.declared.call.Call.{Call}
use Rattle.ob_mem.specs.declared.call.Call.TheVariants.{Wrote, Synced}
use Rattle.ob_mem.specs.Replay.{Moment, Past, after_call, replay, sure, now_of, with_call, zeros, cell_of, IsUnsure, IsCell, MayLeave, LeftSince, disk_of}

pub replay-push : (calls : List Call) (call : Call) (s : Moment) → replay (calls ++ call ∷ []) s ≡ after_call call (replay calls s)
replay-push [] call s = refl
replay-push (c ∷ calls) call s = replay-push calls call (after_call c s)

-- the cells after one call more
pub kept_call : (first : List (List ℕ)) (calls later : List Call) (call : Call) (cells : List (List ℕ)) → later ≡ calls ++ call ∷ []
    → cells ≡ (after_call call (replay calls (sure first))).cells → cells ≡ (replay later (sure first)).cells
kept_call first calls later call cells is same =
    same ∙ sym (ap (λ (s : Moment). s.cells) (ap (λ (l : List Call). replay l (sure first)) is ∙ replay-push calls call (sure first)))

pub kept_write : (first : List (List ℕ)) (calls later : List Call) (cells : List (List ℕ)) (cell : ℕ) (bytes : List ℕ) → cells ≡ (replay calls (sure first)).cells → later ≡ calls ++ Wrote cell bytes ∷ []
    → set cells cell bytes ≡ (replay later (sure first)).cells
kept_write first calls later cells cell bytes kept is = kept_call first calls later (Wrote cell bytes) (set cells cell bytes) is (ap (λ (l : List (List ℕ)). set l cell bytes) kept)

pub kept_past : (first : List (List ℕ)) (calls later : List Call) (cells : List (List ℕ)) (cell : ℕ) (bytes : List ℕ) → cells ≡ (replay calls (sure first)).cells → length cells ≤ cell → later ≡ calls ++ Wrote cell bytes ∷ []
    → cells ≡ (replay later (sure first)).cells
kept_past first calls later cells cell bytes kept out is = sym (set_past cells cell bytes out) ∙ kept_write first calls later cells cell bytes kept is

pub kept_sync : (first : List (List ℕ)) (calls later : List Call) (cells : List (List ℕ)) (done : Bool) → cells ≡ (replay calls (sure first)).cells → later ≡ calls ++ Synced done ∷ []
    → cells ≡ (replay later (sure first)).cells
kept_sync first calls later cells done kept is = kept_call first calls later (Synced done) cells is kept

within : (k n : ℕ) → (k ≤ n) ⊎ (n < k)
within k n = ⊎_elim (λ none. inl (omega arith)) (λ some. inr (omega arith)) (cases_eq (k - n) 0)

-- what the calls of an earlier moment are later
earlier : (past : Past) (call : Call) (j : ℕ) (c : Image) → j ≤ length past.calls → MayLeave (replay (take j (past.calls ++ call ∷ [])) (sure past.first)) c → MayLeave (replay (take j past.calls) (sure past.first)) c
earlier past call j c le left = subst (λ (l : List Call). MayLeave (replay l (sure past.first)) c) (take-append-le j past.calls (call ∷ []) le) left

-- the moment after one call more
pub now_push : (past : Past) (call : Call) → now_of (with_call past call) ≡ after_call call (now_of past)
now_push past call = replay-push past.calls call (sure past.first)

-- the image before the write: what the cell had got last
before : (s : Moment) (cell : ℕ) (c : Image) (k : ℕ) → (k ≡ cell) ⊎ (k ≡ cell → ⊥) → List ℕ
before s cell c k (inl here) = cell_of s.cells k
before s cell c k (inr other) = c k

before_left : (s : Moment) (cell : ℕ) (c : Image) (k : ℕ) (v : (k ≡ cell) ⊎ (k ≡ cell → ⊥)) → (k ≢ cell → (IsUnsure s k × IsCell (c k)) ⊎ (c k ≡ cell_of s.cells k))
    → (IsUnsure s k × IsCell (before s cell c k v)) ⊎ (before s cell c k v ≡ cell_of s.cells k)
unfolding before
before_left s cell c k (inl here) left = inr refl
before_left s cell c k (inr other) left = left other

before_same : (s : Moment) (cell : ℕ) (c : Image) (k : ℕ) (v : (k ≡ cell) ⊎ (k ≡ cell → ⊥)) → k ≢ cell → c k ≡ before s cell c k v
unfolding before
before_same s cell c k (inl here) ne = absurd (ne here)
before_same s cell c k (inr other) ne = refl

-- a write leaves the other cells
pub other_cell : (s : Moment) (cell : ℕ) (bytes : List ℕ) (k : ℕ) → k ≢ cell → cell_of (after_call (Wrote cell bytes) s).cells k ≡ cell_of s.cells k
other_cell s cell bytes k ne = get_or-set_other s.cells cell k bytes zeros ne

only_one : (cell k : ℕ) → Contains (cell ∷ []) k → k ≡ cell
only_one cell k here = let first : here.0 ≡ 0 = omega (arith, here.1) in sym (rw first at here.2)

still_unsure : (s : Moment) (cell : ℕ) (bytes : List ℕ) (k : ℕ) → k ≢ cell → IsUnsure (after_call (Wrote cell bytes) s) k → IsUnsure s k
still_unsure s cell bytes k ne unsure = (
  ⊎_elim (λ was. was) (λ here. absurd (ne (only_one cell k here))) (Contains-append_cases s.unsure (cell ∷ []) k unsure.0),
  omega (arith, unsure.1, length-set s.cells cell bytes),
)

torn : (s : Moment) (cell : ℕ) (bytes : List ℕ) (c : Image) → MayLeave (after_call (Wrote cell bytes) s) c → (d : Image) × MayLeave s d × SameBut cell c d
torn s cell bytes c left = (
  (λ k. before s cell c k (cases_eq k cell)),
  (λ k. before_left s cell c k (cases_eq k cell) (λ ne. ⊎_elim (λ any. inl (still_unsure s cell bytes k ne any.0, any.1)) (λ same. inr (same ∙ other_cell s cell bytes k ne)) (left k))),
  (λ k ne. before_same s cell c k (cases_eq k cell) ne),
)

none_sure : {k : ℕ} → Contains [] k → ⊥
none_sure some = let lt = some.1 in absurd (omega arith)

shrunk : (s : Moment) (done : Bool) (c : Image) → MayLeave (after_call (Synced done) s) c → MayLeave s c
shrunk s true c left = λ k. ⊎_elim (λ any. absurd (none_sure any.0.0)) (λ same. inr same) (left k)
shrunk s false c left = left

settles : (s : Moment) (c : Image) → MayLeave (after_call (Synced true) s) c → (k : ℕ) → c k ≡ cell_of s.cells k
settles s c left k = ⊎_elim (λ any. absurd (none_sure any.0.0)) (λ same. same) (left k)

-- a store keeps its size
pub length-replay : (calls : List Call) (s : Moment) → length (replay calls s).cells ≡ length s.cells
length-replay [] s = refl
length-replay (Wrote cell bytes ∷ calls) s = length-replay calls (after_call (Wrote cell bytes) s) ∙ length-set s.cells cell bytes
length-replay (Synced done ∷ calls) s = length-replay calls (after_call (Synced done) s)

-- what the disk tells after one call more
module _ (past later : Past) (call : Call) (is : later ≡ with_call past call) (a b : Option (List Event)) (i j f g : ℕ) where
  longer : length later.calls ≡ length past.calls + 1
  longer = ap (λ (p : Past). length p.calls) is ∙ length-append past.calls (call ∷ [])

  elapses_call : Elapses (disk_of past a i f) (disk_of (with_call past call) b j g)
  elapses_call t c le left = ⊎_elim
      (λ short. inl (left.0, left.1, short, earlier past call left.0 c short left.3))
      (λ long. inr (subst (λ (l : List Call). MayLeave (replay l (sure past.first)) c) (take_all left.0 (past.calls ++ call ∷ []) (omega (arith, length-append past.calls (call ∷ []), long))) left.3))
      (within left.0 (length past.calls))

  pub time_call : Elapses (disk_of past a i f) (disk_of later b j g)
  time_call = subst (λ (p : Past). Elapses (disk_of past a i f) (disk_of p b j g)) (sym is) elapses_call

  kept_left : (t : ℕ → ℕ) (c : Image) → LeftSince past t c → LeftSince later t c
  kept_left t c left = subst (λ (p : Past). LeftSince p t c) (sym is)
      (left.0, left.1, omega (arith, length-append past.calls (call ∷ []), left.2), subst (λ (l : List Call). MayLeave (replay l (sure past.first)) c) (sym (take-append-le left.0 past.calls (call ∷ []) left.2)) left.3)

  pub goes_call : f ≤ g → TellsOn a b f g → GoesOn (disk_of past a i f) (disk_of later b j g)
  goes_call more tells = record {
    anchors = refl;
    faults = more;
    later = λ part. omega (arith, longer);
    kept = λ t c le left. kept_left t c left;
    told = λ t. t;
    leaves = ((λ l. l), (λ l. l));
    seen = tells;
  }

  now_later : now_of later ≡ after_call call (now_of past)
  now_later = ap now_of is ∙ now_push past call

  pub tears_call : (cell : ℕ) (bytes : List ℕ) → call ≡ Wrote cell bytes → Tears cell (disk_of past a i f) (disk_of later b j g)
  tears_call cell bytes wrote c left = torn (now_of past) cell bytes c (subst (λ (s : Moment). MayLeave s c) (now_later ∙ ap (λ (x : Call). after_call x (now_of past)) wrote) left)

  pub rest_call : (cell : ℕ) (bytes : List ℕ) → call ≡ Wrote cell bytes → SameBut cell (cell_of (now_of later).cells) (cell_of (now_of past).cells)
  rest_call cell bytes wrote k ne = ap (λ (s : Moment). cell_of s.cells k) (now_later ∙ ap (λ (x : Call). after_call x (now_of past)) wrote) ∙ other_cell (now_of past) cell bytes k ne

  pub put_call : (cell : ℕ) (bytes : List ℕ) → call ≡ Wrote cell bytes → cell < length later.first → cell_of (now_of later).cells cell ≡ bytes
  put_call cell bytes wrote lt =
      let now = now_later ∙ ap (λ (x : Call). after_call x (now_of past)) wrote in
      let size : length (now_of past).cells ≡ length past.first = length-replay past.calls (sure past.first) in
      let same : length later.first ≡ length past.first = ap (λ (p : Past). length p.first) is in
      let there : cell < length (now_of past).cells = omega arith in
      ap (λ (s : Moment). cell_of s.cells cell) now ∙ get_or-set_same (now_of past).cells cell bytes zeros there

  pub shrinks_call : (done : Bool) → call ≡ Synced done → Shrinks (disk_of past a i f) (disk_of later b j g)
  shrinks_call done synced c left = shrunk (now_of past) done c (subst (λ (s : Moment). MayLeave s c) (now_later ∙ ap (λ (x : Call). after_call x (now_of past)) synced) left)

  pub keeps_call : (done : Bool) → call ≡ Synced done → Keeps (disk_of past a i f) (disk_of later b j g)
  keeps_call done synced = record { tells = λ t. t; cells = λ t k. ap (λ (s : Moment). cell_of s.cells k) (now_later ∙ ap (λ (x : Call). after_call x (now_of past)) synced) }

  pub settles_call : call ≡ Synced true → IsSynced (disk_of later b j g)
  settles_call synced c left k =
      let now = now_later ∙ ap (λ (x : Call). after_call x (now_of past)) synced in
      settles (now_of past) c (subst (λ (s : Moment). MayLeave s c) now left) k ∙ sym (ap (λ (s : Moment). cell_of s.cells k) now)

-- where no call was kept
module _ (past later : Past) (is : later ≡ past) (a b : Option (List Event)) (i j f g : ℕ) where
  pub time_still : Elapses (disk_of past a i f) (disk_of later b j g)
  time_still = subst (λ (p : Past). Elapses (disk_of past a i f) (disk_of p b j g)) (sym is) (λ t c le left. inl left)

  pub goes_still : f ≤ g → TellsOn a b f g → GoesOn (disk_of past a i f) (disk_of later b j g)
  goes_still more tells = record {
    anchors = refl;
    faults = more;
    later = λ part. let same : length later.calls ≡ length past.calls = ap (λ (p : Past). length p.calls) is in omega arith;
    kept = λ t c le left. subst (λ (p : Past). LeftSince p t c) (sym is) left;
    told = λ t. t;
    leaves = ((λ l. l), (λ l. l));
    seen = tells;
  }

  pub tears_still : (cell : ℕ) → Tears cell (disk_of past a i f) (disk_of later b j g)
  tears_still cell c left = (c, subst (λ (p : Past). MayLeave (now_of p) c) is left, λ k ne. refl)

  pub shrinks_still : Shrinks (disk_of past a i f) (disk_of later b j g)
  shrinks_still c left = subst (λ (p : Past). MayLeave (now_of p) c) is left

  pub keeps_still : Keeps (disk_of past a i f) (disk_of later b j g)
  keeps_still = record { tells = λ t. t; cells = λ t k. ap (λ (p : Past). cell_of (now_of p).cells k) is }

  pub rest_still : (cell : ℕ) → SameBut cell (cell_of (now_of later).cells) (cell_of (now_of past).cells)
  rest_still cell k ne = ap (λ (p : Past). cell_of (now_of p).cells k) is

pub refused : (old new : Disk) (failed : Failed) → GoesOn old new → new.out ≤ old.out → Rose old.faults new.faults → Serves {T = Unit {0}} IsFailed old new (Err failed)
refused old new failed goes out rose = record { goes = goes; out = out; tells = tt; cause = λ blamed. rose }

pub served : (old new : Disk) (done : Unit {0}) → GoesOn old new → new.out ≤ old.out → (old.tells → new.tells) → Serves {E = Failed} IsFailed old new (Ok done)
served old new done goes out tells = record { goes = goes; out = out; tells = tells; cause = tt }
