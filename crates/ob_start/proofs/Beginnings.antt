-- How a generation is begun.
use Rattle.std.proofs.Common.{◌≡◌, ℕ, suc, ◌+◌, ◌^◌, ◌<◌, List, [], ◌∷◌, length, Option, Result, arith, refl, sym, ◌∙◌, subst, add-one}
use Rattle.ob_store.specs.declared.event.Event.{Event}
use Rattle.ob_store.specs.declared.event.Event.TheVariants as event
use Rattle.ob_store.specs.declared.watch.Note.TheVariants.{Sync}
use Rattle.ob_store.specs.Disk.{Disk, Image}
use Rattle.ob_store.specs.Images.{Same, Shrinks, Elapses, Passes, IsSynced, LeavesOnly}
use Rattle.ob_store.specs.Calls.{GoesOn, Keeps, Notes}
use Rattle.ob_store.specs.Lines.{Trace}
use Rattle.ob_store.specs.Told.{Tells, Does, events_of}
use Rattle.ob_store.proofs.Moments.{passed_none, passed_still}
use Rattle.ob_store.proofs.Doing.{does_then}
use Rattle.ob_seal.specs.declared.keys.Keys.{Keys}
use Rattle.ob_twin.specs.declared.gates.Open.{Open}
use Rattle.ob_twin.specs.declared.set_err.SetErr.{SetErr}
use Rattle.ob_twin.specs.Bodies.{Tagging}
use Rattle.ob_twin.specs.Keyed.{tagging}
use Rattle.ob_twin.specs.Register.{place_of, StandsAt, KeepsAt, IsPut, OldOrNew}
use Rattle.ob_twin.specs.Opening.{GatesAre, is_closed_first}
use Rattle.ob_twin.specs.Orders.{set_notes, SetDoes}
use Rattle.ob_twin.specs.Refused.{SetLeaves}
use Rattle.ob_twin.specs.Stages.{SetMoments}
use Rattle.ob_twin.proofs.Moves.{under_next}
use Rattle.ob_twin.proofs.Frames.{register_moved}
use Rattle.ob_twin.proofs.Sets.{set_does, put_stands, leaves_either}
use Rattle.ob_start.specs.Orders.{begin_notes}
use Rattle.ob_start.specs.Beginning.{BeginsFrom, IsBeginStage, IsBegun, IsSyncedLeft, WhereStood}
use Rattle.ob_start.proofs.Early.{sync_first}
use Rattle.ob_start.proofs.Moments.{behind_known, few_set, stages_known}

-- a sync that leaves no new image
pub still : (old new : Disk) → GoesOn old new → Elapses old new → Shrinks old new → Keeps old new → Passes Same old new
still old new goes time shrinks keeps = passed_still Same old old new (passed_none old Same (λ c. refl)) goes time shrinks keeps

-- the sync, and the generation set behind it
pub begin_does : (known : Open) (g : ℕ) (a b c : Option (List Event)) (k l m : Trace) (r : Result (Unit {0}) SetErr) → Tells (Sync ∷ []) (Sync ∷ []) a b k l → SetDoes (is_closed_first known (place_of (g + 1))) 1 (g + 1) b c l m r
    → Does (begin_notes known (suc g)) a c k m r
begin_does known g a b c k l m r sync set =
    subst (λ n. Does (begin_notes known n) a c k m r) (add-one g)
    (does_then a b c k l m (Sync ∷ []) (set_notes (is_closed_first known (place_of (g + 1))) 1 (g + 1)) r sync (set_does (is_closed_first known (place_of (g + 1))) 1 (g + 1) b c l m r set))

-- the same register stands where the cells are the same
pub stands_again : (tag : Tagging) (first n : ℕ) (mid old : Image) → ((k : ℕ) → mid k ≡ old k) → StandsAt tag first old n → StandsAt tag first mid n
stands_again tag first n mid old same stands = register_moved tag first n mid old (λ k from to. same k) stands

-- where the register stood, it stands at the next generation
pub next_stands : (tag : Tagging) (g : ℕ) (old mid new : Image) → g + 1 < 2 ^ 62 → ((k : ℕ) → mid k ≡ old k) → StandsAt tag 1 old g → IsPut tag 1 mid (g + 1) new → KeepsAt tag 1 old (suc g) new
next_stands tag g old mid new small same stands put =
    let kept = put_stands tag 1 (g + 1) mid new small (under_next tag 1 g (g + 1) mid refl (stands_again tag 1 g mid old same stands)) put in
    subst (λ n. KeepsAt tag 1 old n new) (add-one g) (record { stands = kept.stands; rest = λ k out. kept.rest k out ∙ same k })

-- the same, whatever its number is called
pub next_number : (keys : Keys) (g m : ℕ) (old mid new : Image) → g + 1 < 2 ^ 62 → ((k : ℕ) → mid k ≡ old k) → g + 1 ≡ suc m → IsPut (tagging keys) 1 mid (g + 1) new → StandsAt (tagging keys) 1 old m → KeepsAt (tagging keys) 1 old (g + 1) new
next_number keys g m old mid new small same is put stands =
    let at : m ≡ g = omega (arith, is) in
    subst (λ n. KeepsAt (tagging keys) 1 old n new) (sym (add-one g)) (next_stands (tagging keys) g old mid new small same (subst (λ n. StandsAt (tagging keys) 1 old n) at stands) put)

-- from the sync on, and how many stages it has
pub begins : {S : Type 0} (disk : S → Disk) (keys : Keys) (known : Open) (g : ℕ) (old mid new : S) (r : Result (Unit {0}) SetErr) → ((disk old).tells → GatesAre known 1 (disk old).cells) → Notes (event.Sync ∷ []) (disk old).seen (disk mid).seen
    → Passes Same (disk old) (disk mid) → Keeps (disk old) (disk mid) → ((disk old).tells → IsSynced (disk mid))
    → ((m : ℕ) → g + 1 ≡ m + 1 → (disk mid).tells → IsSynced (disk mid) → StandsAt (tagging keys) 1 (disk mid).cells m → LeavesOnly (disk mid) (disk new) (SetLeaves (tagging keys) 1 (disk mid).cells m (g + 1) r))
    → (moments : SetMoments disk (tagging keys) (is_closed_first known (place_of (g + 1))) 1 (g + 1) mid new r) → (from : BeginsFrom disk keys g old new) × (from.ends ≡ (moments.stages).ends) × (from.synced ≡ mid)
begins disk keys known g old mid new r gates seen until keeps settled set moments = (
  record {
    synced = mid;
    called = sync_first (disk old) (disk mid) seen;
    until = until;
    keeps = keeps;
    settled = settled;
    since = λ tells stands.
        subst (λ n. LeavesOnly (disk mid) (disk new) (OldOrNew (tagging keys) 1 (disk mid).cells g n)) (add-one g)
        (leaves_either (tagging keys) 1 g (g + 1) (disk mid).cells (disk mid) (disk new) r
        (set g refl (keeps.tells tells) (settled tells) (stands_again (tagging keys) 1 g (disk mid).cells (disk old).cells (keeps.cells tells) stands)));
    ends = (moments.stages).ends;
    stages = stages_known disk keys known g old mid new gates keeps settled (moments.stages).ends (few_set r (length (moments.stages).ends) (moments.stages).many) (moments.stages).spans;
  },
  refl,
  refl,
)

-- done
pub begun : {S : Type 0} (disk : S → Disk) (keys : Keys) (known : Open) (g : ℕ) (old mid new : S) → ((disk old).tells → GatesAre known 1 (disk old).cells) → Keeps (disk old) (disk mid) → ((disk old).tells → IsSynced (disk mid))
    → (from : BeginsFrom disk keys g old new) → length from.ends ≡ 3 → from.synced ≡ mid → ((image : Image) → (disk new).left_since (disk new).moment image → (disk new).may_leave image) → ((disk old).tells → IsSynced (disk new))
    → Notes (events_of (set_notes (is_closed_first known (place_of (g + 1))) 1 (g + 1))) (disk mid).seen (disk new).seen → ((disk old).tells → IsSyncedLeft keys (suc g) (disk old).cells 0 (disk new).cells) → IsBegun disk keys g old new from
begun disk keys known g old mid new gates keeps settled from many synced only durable made set = record {
  three = many;
  behind = subst (λ s. WhereStood keys g (disk old) (λ closes. IsBeginStage disk keys closes (suc g) s 3 (new, new))) (sym synced) (behind_known disk keys known g old mid new gates keeps settled only durable made set);
}
