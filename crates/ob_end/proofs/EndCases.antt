-- How the refusals of a close, and of what is made before it, are told as an end's.
use Rattle.std.specs.Prelude.{◌≡◌, ℕ, suc, ◌+◌, Bool, true, List, Option, Result, Ok, Err}
use Rattle.std.proofs.Common.{◌∙◌, ap, arith, inl, inr, refl, sym, subst}
use Rattle.ob_base.specs.declared.fault.Fault.{Fault}
use Rattle.ob_base.specs.declared.fault.Fault.TheVariants as fault
use Rattle.ob_base.specs.declared.params.Params.{Params}
use Rattle.ob_base.specs.declared.value.Write.{Write}
use Rattle.ob_cells.specs.Writes.{Seals}
use Rattle.ob_end.specs.EndWrites.{end_write_notes}
use Rattle.ob_fetch.specs.declared.run.Run.{Run}
use Rattle.ob_fetch.specs.Fetches.{RunIsAt}
use Rattle.ob_recover.specs.Repeats.{BatchIsShown}
use Rattle.ob_ring.specs.FlatTable.{FlatTable}
use Rattle.ob_ring.specs.Ring.{Kept}
use Rattle.ob_recover.specs.Ends.{gates_ended}
use Rattle.ob_seal.specs.Sealing.{Sealing}
use Rattle.ob_seal.specs.declared.keys.Keys.{Keys}
use Rattle.ob_serial.specs.VaultViews.{IsEndFault, IsStoreEnd}
use Rattle.ob_serial.specs.declared.vault.EndErr.{EndErr}
use Rattle.ob_serial.specs.declared.vault.EndErr.TheVariants as end
use Rattle.ob_stand.specs.Stands.{OneOf, RingStanding, Stands}
use Rattle.ob_store.specs.Calls.{IsStoreFault, Serves}
use Rattle.ob_store.specs.Disk.{Disk, Image}
use Rattle.ob_stand.proofs.EndLaws.{end_spares}
use Rattle.ob_store.specs.Images.{IsSynced, LeavesOnly, Passes, Same}
use Rattle.ob_store.specs.Lines.{Trace}
use Rattle.ob_store.specs.declared.event.Event.{Event}
use Rattle.ob_store.specs.declared.watch.Note.{Note}
use Rattle.ob_store.proofs.Moments.{leaves_of, weakened}
use Rattle.ob_store.proofs.Serving.{serves_then}
use Rattle.ob_tables.specs.declared.entry.Entry.{Entry}
use Rattle.ob_twin.specs.Opening.{gates_set}
use Rattle.ob_twin.specs.Refused.{IsSetFault}
use Rattle.ob_twin.specs.declared.set_err.SetErr.{SetErr}
use Rattle.ob_twin.specs.declared.set_err.SetErr.TheVariants as set
use Rattle.ob_twin.specs.declared.twin.Twin.TheVariants.{EPOCH}
use Rattle.ob_end.specs.Closings.{CloseDoes}
use Rattle.ob_end.specs.EndRuns.{DrawsForEnd, EndAnswers, EndDoes, EndDraws, EndImages, IfEnded, IsEndReady, IsMakeFault, MakeAnswers, MakeDraws, MakeTells, MayEndEpoch, end_err_of, standing_at_end}

-- ---- a run that counts as spent while it is at work

pub ready_spent : (run : Run) → IsEndReady run → IsEndReady (record run { spent = true })
ready_spent run is = record {
  ready = record { params = (is.ready).params; rooms = (is.ready).rooms; words = (is.ready).words; few = (is.ready).few; small = (is.ready).small; generation = (is.ready).generation; table = (is.ready).table };
  own_words = is.own_words;
  all_words = is.all_words;
  sheet = is.sheet;
  planner = is.planner;
}

pub at_spent : (run : Run) (s : RingStanding) (disk : Disk) → RunIsAt run s disk → RunIsAt (record run { spent = true }) s disk
at_spent run s disk is = record { tells = is.tells; settled = is.settled; stands = is.stands; runs = is.runs }

-- ---- answers and causes

-- a refusal before anything was written, as an end's
pub before_fault : (n : ℕ) (f : Fault) → IsMakeFault f → IsEndFault n (end.Before f)
before_fault n fault.Memory is = absurd is
before_fault n fault.Usage is = absurd is
before_fault n (fault.BadScript line) is = absurd is
before_fault n (fault.BadParams field) is = absurd is
before_fault n fault.NotStore is = absurd is
before_fault n (fault.Damaged cell check kept computed) is = tt
before_fault n (fault.StoreFault unsure) is = is
before_fault n (fault.StashFull rows) is = tt
before_fault n (fault.Worn number) is = tt
before_fault n fault.SourceFault is = absurd is
before_fault n fault.SinkFault is = absurd is

pub before_blames : (f : Fault) → IsStoreEnd (end.Before f) → IsStoreFault f
before_blames fault.Memory blamed = absurd blamed
before_blames fault.Usage blamed = absurd blamed
before_blames (fault.BadScript line) blamed = absurd blamed
before_blames (fault.BadParams field) blamed = absurd blamed
before_blames fault.NotStore blamed = absurd blamed
before_blames (fault.Damaged cell check kept computed) blamed = absurd blamed
before_blames (fault.StoreFault unsure) blamed = tt
before_blames (fault.StashFull rows) blamed = absurd blamed
before_blames (fault.Worn number) blamed = absurd blamed
before_blames fault.SourceFault blamed = absurd blamed
before_blames fault.SinkFault blamed = absurd blamed

pub answers_closed : (p : Params) (t : FlatTable) (epoch drawn next n : ℕ) (ws : List (Write × Entry)) (x : SetErr) → MayEndEpoch p t epoch drawn next ws → IsSetFault EPOCH n x → EndAnswers p t epoch drawn next ws (Err (end_err_of x))
answers_closed p t epoch drawn next n ws (set.Before f) may is = subst (λ (y : Fault). MakeAnswers p t epoch drawn next ws (Err y)) (sym is) (refl, (may.has).epochs)
answers_closed p t epoch drawn next n ws (set.Unsure f) may is = may

pub serves_closed : (old mids new : Disk) (n : ℕ) (x : SetErr) → Serves {T = Unit {0}} {E = Fault} IsStoreFault old mids (Ok tt) → Serves {T = Unit {0}} {E = SetErr} (IsSetFault EPOCH n) mids new (Err x) → IsSetFault EPOCH n x
    → Serves {T = Unit {0}} {E = EndErr} IsStoreEnd old new (Err (end_err_of x))
serves_closed old mids new n x first then is =
    serves_then IsStoreEnd old mids new (Err (end_err_of x)) first.goes first.out first.tells (record { goes = then.goes; out = then.out; tells = tt; cause = λ blamed. then.cause is })

pub serves_ended : (old mids new : Disk) (n : ℕ) → Serves {T = Unit {0}} {E = Fault} IsStoreFault old mids (Ok tt) → Serves {T = Unit {0}} {E = SetErr} (IsSetFault EPOCH n) mids new (Ok tt)
    → Serves {T = Unit {0}} {E = EndErr} IsStoreEnd old new (Ok tt)
serves_ended old mids new n first then =
    serves_then IsStoreEnd old mids new (Ok tt) first.goes first.out first.tells (record { goes = then.goes; out = then.out; tells = then.tells; cause = tt })

pub seals_closed : (n m : ℕ) (a b c : Sealing) (x : SetErr) (e : EndErr) → n ≡ m → b ≡ a → Seals {T = Unit {0}} {E = SetErr} n b c (Err x) → Seals {T = Unit {0}} {E = EndErr} m a c (Err e)
seals_closed n m a b c x e is same seals =
    subst (λ (y : Sealing). Seals {T = Unit {0}} {E = EndErr} m y c (Err e)) same (subst (λ k. Seals {T = Unit {0}} {E = EndErr} k b c (Err e)) is (record { all = tt; some = seals.some }))

pub seals_ended : (n m : ℕ) (a b c : Sealing) → n ≡ m → b ≡ a → Seals {T = Unit {0}} {E = SetErr} n b c (Ok tt) → Seals {T = Unit {0}} {E = EndErr} m a c (Ok tt)
seals_ended n m a b c is same seals =
    subst (λ (y : Sealing). Seals {T = Unit {0}} {E = EndErr} m y c (Ok tt)) same (subst (λ k. Seals {T = Unit {0}} {E = EndErr} k b c (Ok tt)) is (record { all = seals.all; some = seals.some }))

-- ---- what is drawn

module _ (p : Params) (t : FlatTable) (epoch drawn : ℕ) (old new : List ℕ) where
  pub draws_made : (f : Fault) → MakeDraws p t epoch drawn old new (Err f) → EndDraws p t epoch drawn old new (Err (end.Before f))
  draws_made fault.Memory draws = draws
  draws_made fault.Usage draws = draws
  draws_made (fault.BadScript line) draws = draws
  draws_made (fault.BadParams what) draws = draws
  draws_made fault.NotStore draws = draws
  draws_made (fault.Damaged cell what kept computed) draws = draws
  draws_made (fault.StoreFault unsure) draws = inr draws
  draws_made (fault.StashFull rows) draws = draws
  draws_made (fault.Worn number) draws = draws
  draws_made fault.SourceFault draws = draws
  draws_made fault.SinkFault draws = draws

  pub draws_closed : (n : ℕ) (x : SetErr) → IsSetFault EPOCH n x → DrawsForEnd p t epoch drawn old new → EndDraws p t epoch drawn old new (Err (end_err_of x))
  draws_closed n (set.Before f) is draws = subst (λ (y : Fault). EndDraws p t epoch drawn old new (Err (end.Before y))) (sym is) (inl draws)
  draws_closed n (set.Unsure f) is draws = draws

-- ---- what is shown

-- of the ring that is left behind, and the run's own register and epoch
pub does_as : (r last : Kept) (n m : ℕ) (x y : Bool) (a b : Option (List Event)) (k l : Trace) (z : Result (Unit {0}) SetErr) → last ≡ record r { stash = last.stash } → n ≡ m → x ≡ y
    → CloseDoes (end_write_notes r n) x n a b k l z → CloseDoes (end_write_notes last m) y m a b k l z
does_as r last n m x y a b k l z kept is closes does =
    subst (λ (h : Kept). CloseDoes (end_write_notes h m) y m a b k l z) (sym kept)
    (subst (λ (w : Bool). CloseDoes (end_write_notes r m) w m a b k l z) closes (subst (λ i. CloseDoes (end_write_notes r i) x i a b k l z) is does))

module _ (most : ℕ) (cells : List ℕ) (notes writes : List Note) (closes : Bool) (epoch : ℕ) where
  pub does_made : (a b : Option (List Event)) (k l : Trace) (f : Fault) → MakeTells most cells notes a b k l (Err f) → EndDoes most cells notes writes closes epoch a b k l (Err (end.Before f))
  does_made a b k l fault.Memory told = told
  does_made a b k l fault.Usage told = told
  does_made a b k l (fault.BadScript line) told = told
  does_made a b k l (fault.BadParams what) told = told
  does_made a b k l fault.NotStore told = told
  does_made a b k l (fault.Damaged cell what kept computed) told = told
  does_made a b k l (fault.StoreFault unsure) told = inl told
  does_made a b k l (fault.StashFull rows) told = told
  does_made a b k l (fault.Worn number) told = told
  does_made a b k l fault.SourceFault told = told
  does_made a b k l fault.SinkFault told = told

  pub does_closed : (a m b : Option (List Event)) (k j l : Trace) (n : ℕ) (x : SetErr) → IsSetFault EPOCH n x → BatchIsShown most cells notes a m k j → CloseDoes writes closes epoch m b j l (Err x)
      → EndDoes most cells notes writes closes epoch a b k l (Err (end_err_of x))
  does_closed a m b k j l n (set.Before f) is lifts rest =
      subst (λ (y : Fault). EndDoes most cells notes writes closes epoch a b k l (Err (end.Before y))) (sym is)
      (inr (record { mid = m; shown = j; lifts = lifts; rest = subst (λ (y : Fault). CloseDoes writes closes epoch m b j l (Err (set.Before y))) is rest }))
  does_closed a m b k j l n (set.Unsure f) is lifts rest = record { mid = m; shown = j; lifts = lifts; rest = rest }

-- ---- what a crash leaves

module _ (keys : Keys) (p : Params) (s : RingStanding) (ws : List (Write × Entry)) (run : Run) (old new : Disk) where
  pub images_refused : (f : Fault) → LeavesOnly old new (Stands keys p s) → LeavesOnly old new (EndImages keys p s ws run (Err (end.Before f)))
  images_refused f leaves = weakened old new (Stands keys p s) (EndImages keys p s ws run (Err (end.Before f))) (λ c is. is) leaves

  pub images_ended : LeavesOnly old new (OneOf keys p s (standing_at_end s run ws)) → LeavesOnly old new (EndImages keys p s ws run (Ok tt))
  images_ended leaves = weakened old new (OneOf keys p s (standing_at_end s run ws)) (EndImages keys p s ws run (Ok tt)) (λ c is. is) leaves

-- once all was written, whatever came of the register
pub if_ended : (A : Type 0) (x : SetErr) → A → IfEnded A (Err (end_err_of x))
if_ended A (set.Before f) a = tt
if_ended A (set.Unsure f) a = a

pub one_more : (n : ℕ) → n + 1 ≡ suc n
one_more n = omega arith

-- reads alone
pub read_leaves : (keys : Keys) (p : Params) (s : RingStanding) (old new : Disk) → ((c : Image) → old.left_since old.moment c → old.may_leave c) → IsSynced old → Stands keys p s old.cells → Passes Same old new → LeavesOnly old new (Stands keys p s)
read_leaves keys p s old new only synced stands passes =
    leaves_of Same (Stands keys p s) (Stands keys p s) old new passes only (λ c left. end_spares keys p s c old.cells (λ k off. synced c left k) stands) (λ tells. stands) (λ c d before same. subst (Stands keys p s) (sym same) before) (λ c before. before)

-- the register's gates then, from those of the run's beginning
pub gates_at : (run mid : Run) → mid ≡ record run { drawn = mid.drawn; ring = mid.ring; jobs = mid.jobs; words = mid.words } → gates_set EPOCH (mid.epoch + 1) mid.gates (Ok tt) ≡ gates_ended run.gates run.epoch
gates_at run mid kept = ap (λ (m : Run). gates_set EPOCH (m.epoch + 1) m.gates (Ok tt)) kept ∙ ap (λ n. gates_set EPOCH n run.gates (Ok tt)) (one_more run.epoch)
