-- What opening leaves and tells.
use Rattle.std.proofs.Common.{◌≡◌, inl, inr, ⊎_elim, ◌⊎◌, ℕ, suc, ◌+◌, arith, Result, Ok, Err, refl, sym, ◌∙◌, subst, add-one}
use mathlib.Core.Path.{fun_ext}
use Rattle.ob_base.specs.declared.params.Params.{Params}
use Rattle.ob_base.specs.declared.fault.Fault.{Fault}
use Rattle.ob_base.specs.declared.fault.Fault.TheVariants.{Memory, Usage, BadScript, BadParams, NotStore, Damaged, StoreFault, StashFull, Worn, SourceFault, SinkFault}
use Rattle.ob_store.specs.Disk.{Disk, Image}
use Rattle.ob_store.specs.Images.{Same, Passes, LeavesOnly}
use Rattle.ob_store.specs.Calls.{IsStoreFault, Keeps}
use Rattle.ob_store.specs.Lines.{Trace}
use Rattle.ob_store.proofs.Moments.{started, then_on, weakened, leaves_of, passed_none, passed_then}
use Rattle.ob_store.proofs.Events.{none_noted}
use Rattle.ob_seal.specs.declared.keys.Keys.{Keys}
use Rattle.ob_twin.specs.Keyed.{tagging}
use Rattle.ob_twin.specs.Register.{StandsAt, OldOrNew}
use Rattle.ob_store.proofs.Lanes.{first_none}
use Rattle.ob_serial.specs.Vaults.{Standing}
use Rattle.ob_start.specs.Orders.{registers_notes}
use Rattle.ob_start.proofs.Early.{AreRead, reads_called}
use Rattle.ob_start.specs.Beginning.{BeginsFrom, BeginLeaves, IsBeginFault, IsBeginStage, IsWornFault}
use Rattle.ob_start.proofs.Moments.{stood_before}
use Rattle.ob_twin.specs.Stages.{AreSpans}
use Rattle.ob_flat.specs.Orders.{found_notes}
use Rattle.ob_flat.specs.declared.opening.Opening.{Opening}
use Rattle.ob_flat.specs.Openings.{OpensFrom, BeginsNext, ReadsAlone, IsOpening}
use Rattle.ob_flat.specs.Standing.{StandsFlat, Stands, AllStand, StandsAsBefore}
use Rattle.ob_flat.proofs.Moved.{stands_same, generation_set}

-- each image that may be left stands as before
pub all_before : (keys : Keys) (p : Params) (d : Disk) → AllStand keys p d → (c : Image) → d.may_leave c → StandsAsBefore keys p d c
all_before keys p d all c left = let at = all c left in record { at = at.0; generation = at.1.0; stands = at.1.1; earlier = at.1.0; no_lower = omega arith; was = inr (c, left, at.1.1) }

-- and what reads give does
cells_before : (keys : Keys) (p : Params) (d : Disk) (at : Standing) → Stands keys p d.cells at → StandsAsBefore keys p d d.cells
cells_before keys p d at stands = record { at = at; generation = stands.0; stands = stands.1; earlier = stands.0; no_lower = omega arith; was = inl stands.1 }

-- no call
pub none_before : (keys : Keys) (p : Params) (d : Disk) (at : Standing) → Stands keys p d.cells at → AllStand keys p d → ((c : Image) → d.left_since d.moment c → d.may_leave c) → LeavesOnly d d (StandsAsBefore keys p d)
none_before keys p d at stands all only = started d (StandsAsBefore keys p d) (λ c left. all_before keys p d all c (only c left)) (λ tells. cells_before keys p d at stands)

-- reads
pub reads_before : (keys : Keys) (p : Params) (old new : Disk) (at : Standing) → Stands keys p old.cells at → AllStand keys p old → ((c : Image) → old.left_since old.moment c → old.may_leave c) → Passes Same old new
    → LeavesOnly old new (StandsAsBefore keys p old)
reads_before keys p old new at stands all only passes =
    leaves_of Same (StandsAsBefore keys p old) (StandsAsBefore keys p old) old new passes only (all_before keys p old all) (λ tells. cells_before keys p old at stands)
    (λ c d was same. subst (λ (i : Image). StandsAsBefore keys p old i) (sym same) was)
    (λ c was. was)

-- reads leave the images
pub all_after : (keys : Keys) (p : Params) (old new : Disk) → AllStand keys p old → Passes Same old new → AllStand keys p new
all_after keys p old new all passes c left =
    let back = passes.now c left in
    subst (λ (i : Image). (at : Standing) × Stands keys p i at) (sym back.2) (all back.0 back.1)

-- what stands as after the reads stands as before them
pub as_before : (keys : Keys) (p : Params) (old new : Disk) → Passes Same old new → ((k : ℕ) → new.cells k ≡ old.cells k) → (c : Image) → StandsAsBefore keys p new c → StandsAsBefore keys p old c
as_before keys p old new passes same c now = record { at = now.at; generation = now.generation; stands = now.stands; earlier = now.earlier; no_lower = now.no_lower; was = ⊎_elim from_cells from_image now.was }
  where
    Was : Type 0
    Was = StandsFlat keys p now.earlier old.cells now.at ⊎ ((d : Image) × old.may_leave d × StandsFlat keys p now.earlier d now.at)

    from_cells : StandsFlat keys p now.earlier new.cells now.at → Was
    from_cells cells = inl (subst (λ (i : Image). StandsFlat keys p now.earlier i now.at) (fun_ext (λ k. same k)) cells)

    from_image : ((d : Image) × new.may_leave d × StandsFlat keys p now.earlier d now.at) → Was
    from_image (d, left, was) =
        let back = passes.now d left in
        inr (back.0, back.1, subst (λ (i : Image). StandsFlat keys p now.earlier i now.at) back.2 was)

-- a set of the generation
pub set_before : (keys : Keys) (p : Params) (old mid new : Disk) (at : Standing) (g : ℕ) → LeavesOnly old mid (StandsAsBefore keys p old) → StandsFlat keys p g old.cells at → StandsFlat keys p g mid.cells at
    → LeavesOnly mid new (OldOrNew (tagging keys) 1 mid.cells g (g + 1)) → LeavesOnly old new (StandsAsBefore keys p old)
set_before keys p old mid new at g first stands stands_mid last =
    then_on old mid new (StandsAsBefore keys p old) first
    (weakened mid new (OldOrNew (tagging keys) 1 mid.cells g (g + 1)) (StandsAsBefore keys p old)
    (λ c either. ⊎_elim
    (λ kept. record { at = at; generation = g; stands = generation_set keys p at g g c mid.cells kept stands_mid; earlier = g; no_lower = omega arith; was = inl stands })
    (λ kept. record { at = at; generation = g + 1; stands = generation_set keys p at g (g + 1) c mid.cells kept stands_mid; earlier = g; no_lower = omega arith; was = inl stands })
    either)
    last)

-- reads, and then reads
pub reads_both : (a b c : Disk) → Passes Same a b → Passes Same b c → Passes Same a c
reads_both a b c first second = passed_then Same a b c (λ x y z one two. one ∙ two) first second

-- reads, and then the start of a generation
pub begun_before : (keys : Keys) (p : Params) (old mid new : Disk) (at : Standing) → Stands keys p old.cells at → AllStand keys p old → ((c : Image) → old.left_since old.moment c → old.may_leave c) → Passes Same old mid → ((k : ℕ) → mid.cells k ≡ old.cells k)
    → LeavesOnly mid new (StandsAsBefore keys p mid) → LeavesOnly old new (StandsAsBefore keys p old)
begun_before keys p old mid new at stands all only passes same last =
    then_on old mid new (StandsAsBefore keys p old) (reads_before keys p old mid at stands all only passes) (weakened mid new (StandsAsBefore keys p mid) (StandsAsBefore keys p old) (as_before keys p old mid passes same) last)

-- a generation that is begun, or not
module _ {S : Type 0} (disk : S → Disk) (keys : Keys) (p : Params) (at : Standing) (g : ℕ) (old new : S) (stands : StandsFlat keys p g (disk old).cells at) (tells : (disk old).tells) (all : AllStand keys p (disk old))
    (only : (c : Image) → (disk old).left_since (disk old).moment c → (disk old).may_leave c) where
  from_sync : BeginsFrom disk keys g old new → LeavesOnly (disk old) (disk new) (StandsAsBefore keys p (disk old))
  from_sync b = set_before keys p (disk old) (disk b.synced) (disk new) at g (reads_before keys p (disk old) (disk b.synced) at (g, stands) all only b.until) stands
      (stands_same keys p g at (disk b.synced).cells (disk old).cells (b.keeps.cells tells) stands)
      (subst (λ n. LeavesOnly (disk b.synced) (disk new) (OldOrNew (tagging keys) 1 (disk b.synced).cells g n)) (sym (add-one g)) (b.since tells stands.begun))

  pub begin_before : (r : Result ℕ Fault) → BeginLeaves disk keys g old new r → LeavesOnly (disk old) (disk new) (StandsAsBefore keys p (disk old))
  begin_before (Ok next) leaves = from_sync leaves.0
  begin_before (Err refused) leaves = ⊎_elim (λ passes. reads_before keys p (disk old) (disk new) at (g, stands) all only passes) from_sync leaves

pub keeps_both : (a b c : Disk) → Keeps a b → Keeps b c → Keeps a c
keeps_both a b c first second = record { tells = λ t. second.tells (first.tells t); cells = λ t k. second.cells (first.tells t) k ∙ first.cells t k }

-- a generation that is begun behind reads, by its register alone
module _ {S : Type 0} (disk : S → Disk) (keys : Keys) (g : ℕ) (old mid new : S) (read : AreRead (disk old).seen (disk mid).seen) (passes : Passes Same (disk old) (disk mid)) (keeps : Keeps (disk old) (disk mid))
    (number : (h : ℕ) → (disk old).tells → StandsAt (tagging keys) 1 (disk old).cells h → g ≡ h) where
  register_kept : (h : ℕ) → (disk old).tells → StandsAt (tagging keys) 1 (disk old).cells h → StandsAt (tagging keys) 1 (disk mid).cells h
  register_kept h tells stands = subst (λ (i : Image). StandsAt (tagging keys) 1 i h) (sym (fun_ext (λ k. keeps.cells tells k))) stands

  pub begins_behind : BeginsFrom disk keys g mid new → BeginsFrom disk keys g old new
  begins_behind b = record {
    synced = b.synced;
    called = reads_called (disk old) (disk mid) (disk b.synced) read b.called;
    until = reads_both (disk old) (disk mid) (disk b.synced) passes b.until;
    keeps = keeps_both (disk old) (disk mid) (disk b.synced) keeps b.keeps;
    settled = λ tells. b.settled (keeps.tells tells);
    since = λ tells stands. b.since (keeps.tells tells) (register_kept g tells stands);
    ends = b.ends;
    stages = stood_before keys g (disk old) (disk mid) (λ closes. AreSpans (IsBeginStage disk keys closes (suc g) b.synced) 0 b.synced b.ends new) keeps b.stages;
  }

  pub begins_or_not : Passes Same (disk mid) (disk new) ⊎ BeginsFrom disk keys g mid new
      → Passes Same (disk old) (disk new) ⊎ ((h : ℕ) → (disk old).tells → StandsAt (tagging keys) 1 (disk old).cells h → BeginsFrom disk keys h old new)
  begins_or_not leaves = ⊎_elim
      (λ still. inl (reads_both (disk old) (disk mid) (disk new) passes still))
      (λ begun. inr (λ h tells stands. subst (λ n. BeginsFrom disk keys n old new) (number h tells stands) (begins_behind begun)))
      leaves

  pub begins_next : (opening : Opening) → opening.sealer.generation ≡ suc g → ((disk mid).tells → StandsAt (tagging keys) 1 (disk mid).cells g → StandsAt (tagging keys) 1 (disk new).cells (suc g))
      → BeginsFrom disk keys g mid new → (h : ℕ) → (disk old).tells → StandsAt (tagging keys) 1 (disk old).cells h → BeginsNext disk keys h old new opening
  begins_next opening next stands begun h tells at =
      let same = number h tells at in
      let here = subst (λ n. StandsAt (tagging keys) 1 (disk old).cells n) (sym same) at in
      subst (λ n. BeginsNext disk keys n old new opening) same (record { next = next; stands = stands (keeps.tells tells) (register_kept g tells here); leaves = begins_behind begun })

-- from the first sync of an opening on, where a generation is begun behind reads
module _ {S : Type 0} (disk : S → Disk) (keys : Keys) (p : Params) (g : ℕ) (old mid new : S) (read : AreRead (disk old).seen (disk mid).seen) (passes : Passes Same (disk old) (disk mid)) (keeps : Keeps (disk old) (disk mid))
    (number : (h : ℕ) (at : Standing) → (disk old).tells → StandsFlat keys p h (disk old).cells at → g ≡ h) where
  pub opens_from : BeginsFrom disk keys g mid new → OpensFrom disk keys p old new
  opens_from b = record {
    synced = b.synced;
    called = reads_called (disk old) (disk mid) (disk b.synced) read b.called;
    until = reads_both (disk old) (disk mid) (disk b.synced) passes b.until;
    keeps = keeps_both (disk old) (disk mid) (disk b.synced) keeps b.keeps;
    settled = λ tells. b.settled (keeps.tells tells);
    since = λ h at tells stands.
        let told = keeps.tells tells in
        let same = number h at tells stands in
        let at_mid = stands_same keys p g at (disk mid).cells (disk old).cells (keeps.cells tells) (subst (λ n. StandsFlat keys p n (disk old).cells at) (sym same) stands) in
        let at_sync = stands_same keys p g at (disk b.synced).cells (disk mid).cells (b.keeps.cells told) at_mid in
        subst (λ n. LeavesOnly (disk b.synced) (disk new) (λ c. StandsFlat keys p n c at ⊎ StandsFlat keys p (suc n) c at)) same
        (weakened (disk b.synced) (disk new) (OldOrNew (tagging keys) 1 (disk b.synced).cells g (suc g)) (λ c. StandsFlat keys p g c at ⊎ StandsFlat keys p (suc g) c at)
        (λ c either. ⊎_elim (λ kept. inl (generation_set keys p at g g c (disk b.synced).cells kept at_sync)) (λ kept. inr (generation_set keys p at g (suc g) c (disk b.synced).cells kept at_sync)) either)
        (b.since told at_mid.begun));
  }

  -- or it isn't begun
  pub opens_or_not : Passes Same (disk mid) (disk new) ⊎ BeginsFrom disk keys g mid new → Passes Same (disk old) (disk new) ⊎ OpensFrom disk keys p old new
  opens_or_not leaves = ⊎_elim (λ still. inl (reads_both (disk old) (disk mid) (disk new) passes still)) (λ begun. inr (opens_from begun)) leaves

-- ---- what a refused opening did

-- nothing
pub none_alone : (n : ℕ) (d : Disk) (t : Trace) → ReadsAlone n d d t t
none_alone n d t = record {
  epoch = 0;
  told = first_none (found_notes n 0) d.seen d.seen t (none_noted d.seen);
  keeps = record { tells = λ told. told; cells = λ told k. refl };
  passes = passed_none d Same (λ c. refl);
}

-- nothing, since memory was wanting
pub none_opened : {S : Type 0} (disk : S → Disk) (keys : Keys) (p : Params) (s : S) (t : Trace) → ((c : Image) → (disk s).left_since (disk s).moment c → (disk s).may_leave c) → IsOpening disk keys p s s t t (Err Memory)
none_opened disk keys p s t only =
    let d = disk s in
    record {
      value = λ tells. tt;
      begins = tt;
      opened = λ at tells stands. tt;
      crash = λ at tells stands all. none_before keys p d at stands all only;
      since = inl (passed_none d Same (λ c. refl));
      register = inl (passed_none d Same (λ c. refl));
      order = inl (first_none registers_notes d.seen d.seen t (none_noted d.seen));
      clear = λ tells cell low. inl (inl refl);
      unwritten = λ own. none_alone p.keys d t;
    }

-- nothing more
pub alone_still : {S W : Type 0} (disk : S → Disk) (trace : W → Trace) (n : ℕ) (old : Disk) (shown : Trace) (s t : S) (v w : W) → (t ≡ s) × (w ≡ v) → ReadsAlone n old (disk s) shown (trace v) → ReadsAlone n old (disk t) shown (trace w)
alone_still disk trace n old shown s t v w same alone =
    subst (λ x. ReadsAlone n old (disk x) shown (trace w)) (sym same.0) (subst (λ x. ReadsAlone n old (disk s) shown (trace x)) (sym same.1) alone)

-- a generation that didn't begin for another reason than the store's is worn
pub worn_out : (g : ℕ) (f : Fault) → IsBeginFault g f → (IsStoreFault f → ⊥) → IsWornFault f
worn_out g (Worn number) fault own = tt
worn_out g (StoreFault unsure) fault own = absurd (own tt)
worn_out g Memory fault own = absurd fault
worn_out g Usage fault own = absurd fault
worn_out g (BadScript line) fault own = absurd fault
worn_out g (BadParams field) fault own = absurd fault
worn_out g NotStore fault own = absurd fault
worn_out g (Damaged cell check kept computed) fault own = absurd fault
worn_out g (StashFull rows) fault own = absurd fault
worn_out g SourceFault fault own = absurd fault
worn_out g SinkFault fault own = absurd fault
