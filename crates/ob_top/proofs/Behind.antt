-- An opening behind a head that was read before.
use Rattle.std.proofs.Common.{◌≡◌, ◌∙◌, ◌⊎◌, ◌≤◌, false, ℕ, suc, List, [], ◌∷◌, ◌++◌, length, Bool, Option, Some, None, Result, Ok, Err, refl, sym, ap, subst, inl, inr, arith}
use Rattle.ob_base.specs.Causes.{Rose}
use Rattle.ob_base.specs.declared.fault.Fault.{Fault}
use Rattle.ob_base.specs.declared.fault.Fault.TheVariants as fault
use Rattle.ob_base.specs.declared.params.Params.{Params}
use Rattle.ob_tables.specs.Content.{Content, content_of}
use Rattle.ob_io.specs.Streams.{Flow}
use Rattle.ob_log.specs.Logs.{BatchRecord}
use Rattle.ob_recover.proofs.Dealing.{made_as}
use Rattle.ob_recover.proofs.Pads.{life_goes_on}
use Rattle.ob_recover.specs.Calls.{Finds}
use Rattle.ob_recover.specs.Known.{fills_of, gates_open, public_of_kept}
use Rattle.ob_recover.specs.Life.{IsActAllowed, IsLife, LifeAct, LifeState, WordId, life_step, reached}
use Rattle.ob_schedule.specs.Phases.{open_phases}
use Rattle.ob_script.specs.Script.{Scripts}
use Rattle.ob_seal.specs.Sealing.{Sealing}
use Rattle.ob_seal.specs.declared.keys.Keys.{Keys}
use Rattle.ob_serial.specs.Vaults.{Standing}
use Rattle.ob_shares.specs.declared.shares.Shares.{Shares}
use Rattle.ob_stand.specs.Stands as stand
use Rattle.ob_stand.specs.Stands.{OneOf, RingStanding, StandsRing, ring_standing, with_generation}
use Rattle.ob_start.specs.Heads.{IsHead}
use Rattle.ob_store.proofs.Events.{none_noted}
use Rattle.ob_store.proofs.Keeping.{same_none}
use Rattle.ob_store.proofs.Moments.{weakened}
use Rattle.ob_store.proofs.Showing.{shows_none}
use Rattle.ob_store.specs.Calls.{IsStoreFault, Keeps}
use Rattle.ob_store.specs.Disk.{Disk, Image}
use Rattle.ob_store.specs.Images.{Passes, Same}
use Rattle.ob_store.specs.Lines.{Shows, Trace}
use Rattle.ob_store.specs.declared.watch.Note.{Note}
use Rattle.ob_conduct.specs.declared.run_err.RunErr.TheVariants as failed
use Rattle.ob_opening.specs.OpeningActs.{IsLeftAt, OpensInLife, StandsInLife}
use Rattle.ob_opening.specs.OpeningRuns.{IsReadAlone, IsRingOpened, OpeningLeaves, OpensFrom, RefusedDoes, RefusedWrites}
use Rattle.ob_opening.specs.OpeningStops.{OpeningStops}
use Rattle.ob_opening.specs.Openings.{IsOpenFault, IsOpenRefusal, IsOpeningOf, IsStandingRefusal, OpensWhatStood}
use Rattle.ob_opening.specs.declared.opening.Opening.{Opening}
use Rattle.ob_vault.proofs.Fetching.{none_pending, same_act}
use Rattle.ob_vault.proofs.Opening.{finds, opened_at, opened_notes, ring_leaves_standing, starts}
use Rattle.ob_vault.proofs.OpeningStages.{openings_come_in_stages}
use Rattle.ob_vault.proofs.Stopping.{opening_lives}
use Rattle.ob_vault.specs.Lives.{IsStoppedInLife, opening_acts}
use Rattle.ob_vault.specs.Openings.{OpensStanding}
use Rattle.ob_vault.specs.RingKind.{ring_kind}
use Rattle.ob_vault.specs.RingLaws.{found_ring}
use Rattle.ob_vault.specs.RingLives.{ring_lives}
use Rattle.ob_top.specs.Audited.{ring_audits}
use Rattle.ob_vault.specs.Seen.{RingMayBegin, opening_phases}
use Rattle.ob_top.proofs.Beginnings.{how_far, refused_shown}
use Rattle.ob_top.specs.Begun.{HasReadHead, IsRunBegun}
use Rattle.ob_top.specs.Parts.{CameIn, SharesFit}
use Rattle.ob_top.specs.Runs.{EndsEarly}
use Rattle.ob_top.specs.Staged.{OpensInStages}

-- nothing was done
pub keeps_none : (d : Disk) → Keeps d d
keeps_none d = record { tells = λ t. t; cells = λ t k. refl }

-- a head that was read is there still
pub head_still : (keys : Keys) (p : Params) (old new : Disk) (t u : Trace) → HasReadHead keys p old new t u → new.tells → ring_kind.is_head keys p (new.cells 0)
head_still keys p old new t u h tells = let before = h.goes.told tells in subst (λ (bytes : List ℕ). ring_kind.is_head keys p bytes) (sym (h.keeps.cells before 0)) (h.head before)

-- ---- what a crash leaves

-- what stands at this generation or the next one stands at no lower one
one_stands : (keys : Keys) (p : Params) (at : Standing) (g : ℕ) (c : Content) (rs : List BatchRecord) (i : Image) → OneOf keys p (ring_standing at g c rs) (with_generation (ring_standing at g c rs) (suc g)) i → (later : ℕ) × (g ≤ later) × StandsRing keys p later i at
one_stands keys p at g c rs i (inl is) = (g, omega arith, record { content = c; records = rs; stands = is })
one_stands keys p at g c rs i (inr is) = (suc g, omega arith, record { content = c; records = rs; stands = is })

pub opens_here : {S : Type 0} (disk : S → Disk) (keys : Keys) (p : Params) (old new : S) → OpensFrom disk keys p old new → OpensStanding ring_kind disk keys p (disk old) (disk new)
opens_here disk keys p old new f = record {
  synced = f.synced;
  called = f.called;
  until = f.until;
  settled = f.settled;
  since = λ g at tells (is : StandsRing keys p g (disk old).cells at).
      let s = ring_standing at g is.content is.records in
      weakened (disk f.synced) (disk new) (OneOf keys p s (with_generation s (suc g))) (λ c. (later : ℕ) × (g ≤ later) × StandsRing keys p later c at) (one_stands keys p at g is.content is.records)
      (f.since s tells is.stands);
}

-- of one that was refused
either_here : {S : Type 0} (disk : S → Disk) (keys : Keys) (p : Params) (old new : S) → Passes Same (disk old) (disk new) ⊎ OpensFrom disk keys p old new → Passes Same (disk old) (disk new) ⊎ OpensStanding ring_kind disk keys p (disk old) (disk new)
either_here disk keys p old new (inl same) = inl same
either_here disk keys p old new (inr from) = inr (opens_here disk keys p old new from)

-- nothing was written, unless the next generation may have begun
read_alone : {S T : Type 0} (disk : S → Disk) (keys : Keys) (p : Params) (old new : S) (tape_old tape_new : T) (present : ℕ) (drawn : List ℕ) (refused : Fault) → IsOpenFault refused
    → RefusedWrites disk keys p old new tape_old tape_new present drawn refused → (RingMayBegin refused → ⊥) → IsReadAlone disk old new tape_old tape_new
read_alone disk keys p old new tape_old tape_new present drawn (fault.StoreFault unsure) is alone not = absurd (not tt)
read_alone disk keys p old new tape_old tape_new present drawn (fault.Damaged cell check kept computed) is alone not = absurd (not tt)
read_alone disk keys p old new tape_old tape_new present drawn fault.NotStore is alone not = alone
read_alone disk keys p old new tape_old tape_new present drawn fault.Memory is alone not = alone
read_alone disk keys p old new tape_old tape_new present drawn (fault.Worn number) is alone not = alone
read_alone disk keys p old new tape_old tape_new present drawn fault.Usage is alone not = absurd is
read_alone disk keys p old new tape_old tape_new present drawn (fault.BadScript line) is alone not = absurd is
read_alone disk keys p old new tape_old tape_new present drawn (fault.BadParams field) is alone not = absurd is
read_alone disk keys p old new tape_old tape_new present drawn (fault.StashFull rows) is alone not = absurd is
read_alone disk keys p old new tape_old tape_new present drawn fault.SourceFault is alone not = absurd is
read_alone disk keys p old new tape_old tape_new present drawn fault.SinkFault is alone not = absurd is

-- ---- the life

-- an act of a life is allowed where it comes
allowed_at : (p : Params) (word_of : WordId → ℕ) (s : LifeState) (xs : List LifeAct) (a : LifeAct) (ys : List LifeAct) → IsLife p word_of s (xs ++ a ∷ ys) → IsActAllowed p word_of (reached p word_of s xs) a
allowed_at p word_of s [] a ys life = life.0
allowed_at p word_of s (x ∷ xs) a ys life = allowed_at p word_of (life_step p word_of s x) xs a ys life.1

module _ (keys : Keys) (most : ℕ) (p : Params) (old new : Disk) (before after : Trace) (answered : Bool) (word_of : WordId → ℕ) (s : LifeState) (pending : Option LifeAct) (o : OpensInLife keys most p word_of s pending old new before after answered)
    (here : IsLeftAt keys p word_of s pending old.cells) (each : (c : Image) → old.may_leave c → IsLeftAt keys p word_of s pending c) where
  found_lives : (found : List LifeAct) → Finds pending found → IsLife p word_of s found
  found_lives found (inl none) = subst (λ (l : List LifeAct). IsLife p word_of s l) (sym none) tt
  found_lives found (inr (a, flies, is)) = subst (λ (l : List LifeAct). IsLife p word_of s l) (sym is) (here.allowed a flies, tt)

  all_lives : IsLife p word_of s (o.found ++ opening_acts (reached p word_of s o.found))
  all_lives = life_goes_on p word_of s o.found (opening_acts (reached p word_of s o.found)) (found_lives o.found o.finds) (opening_lives p word_of (reached p word_of s o.found))

  left_then : (i : Image) → new.may_leave i → StandsInLife keys p word_of (reached p word_of s o.made) i ⊎ ((a : LifeAct) × (o.in_flight ≡ Some a) × StandsInLife keys p word_of (life_step p word_of (reached p word_of s o.made) a) i)
  left_then = (o.law).leaves (λ c left. (each c left).stands c refl)

  allowed_then : ((o.made ≡ []) × (o.in_flight ≡ pending))
      ⊎ ((rest : List LifeAct) × (o.found ++ opening_acts (reached p word_of s o.found) ≡ o.made ++ rest) × ((o.in_flight ≡ None) ⊎ ((a : LifeAct) × (more : List LifeAct) × (o.in_flight ≡ Some a) × (rest ≡ a ∷ more))))
      → (a : LifeAct) → o.in_flight ≡ Some a → IsActAllowed p word_of (reached p word_of s o.made) a
  allowed_then (inl (none, still)) a e = subst (λ (l : List LifeAct). IsActAllowed p word_of (reached p word_of s l) a) (sym none) (here.allowed a (sym still ∙ e))
  allowed_then (inr (rest, are, inl idle)) a e = none_pending (IsActAllowed p word_of (reached p word_of s o.made) a) a (sym idle ∙ e)
  allowed_then (inr (rest, are, inr (b, more, flies, is))) a e =
      subst (λ (x : LifeAct). IsActAllowed p word_of (reached p word_of s o.made) x) (same_act b a (sym flies ∙ e))
      (allowed_at p word_of s o.made b more (subst (λ (l : List LifeAct). IsLife p word_of s l) (are ∙ ap (λ (l : List LifeAct). o.made ++ l) is) all_lives))

  stops_here : IsStoppedInLife keys p word_of s pending new
  stops_here = record {
    found = o.found;
    finds = o.finds;
    made = o.made;
    in_flight = o.in_flight;
    part = (o.law).part;
    is_life = (o.law).is_life;
    images = λ c left. record { allowed = allowed_then (o.law).part; stands = λ i same. left_then i (subst new.may_leave same left) };
  }

-- ---- the opening

module _ {S : Type 0} (disk : S → Disk) (keys : Keys) (most : ℕ) (p : Params) (script : Scripts) (before : Flow) (old new : S) (head : (disk old).tells → IsHead keys 1 p ((disk old).cells 0)) (came : CameIn p.keys before script) (shown later : Trace) (whole : shown.broken ≡ false) where
  -- it was opened
  module _ {L : Type 0} (o : Opening L) (is : IsRingOpened disk keys most p old new shown later o) where
    opening_is : IsOpeningOf keys p is.found o → open_phases p (public_of_kept p (content_of (is.found).tables) [] (is.found).epoch (is.found).gates) (fills_of p (content_of (is.found).tables) (is.found).records) (gates_open (is.found).gates) (suc (is.found).generation) (length (is.found).records)
        ≡ opening_phases p (content_of (is.found).tables) (is.found).records o.epoch (o.sealer).generation (is.found).gates
    opening_is of =
        ap (λ e. opening_phases p (content_of (is.found).tables) (is.found).records e (suc (is.found).generation) (is.found).gates) (sym of.epoch)
        ∙ ap (λ g. opening_phases p (content_of (is.found).tables) (is.found).records o.epoch g (is.found).gates) (sym (ap (λ (x : Sealing). x.generation) of.sealer))

    pub begun_here : ((disk old).tells → (disk new).tells) → ((s : RingStanding) → (disk old).tells → stand.Stands keys p s (disk old).cells → OpensWhatStood keys p s (disk new) (Ok o)) → IsRunBegun [] keys most p script (disk old) (disk new) shown later before (found_ring is.found o)
    begun_here told stands =
        let in_cells = λ (tells : (disk old).tells). (is.told tells).found_in in
        record {
          start = (is.found).gates;
          opened = record {
            head = head;
            came = came;
            finds = finds keys p (disk old) (disk old) (disk new) is.found o (keeps_none (disk old)) is.is in_cells;
            starts = starts keys p (disk old) (disk old) (disk new) is.found o (keeps_none (disk old)) in_cells;
          };
          seen = made_as most _ (ring_kind.opens p (found_ring is.found o) (is.found).gates) (disk old).seen (disk new).seen (opening_is is.is) ((is.follows).told [] (is.found).gates).seen;
          shown = record {
            between = shown;
            head = shows_none shown;
            whole = whole;
            behind = subst (λ (l : List Note). Shows l shown later) (opened_notes keys p (disk old) (disk old) (disk new) is.found o is.is) ((is.follows).told [] (is.found).gates).shows;
          };
          stood = λ at tells here. opened_at keys p (disk old) (disk old) (disk new) is.found o (keeps_none (disk old)) tells (told tells) (is.told tells).found_in stands at here;
        }

  -- it was refused
  pub unopened_here : {T L : Type 0} (shares : Shares) (fits : SharesFit p script shares) (o : Result (Opening L) Fault) (tape_old tape_new : T) (present : ℕ) (drawn : List ℕ) (refused : Fault) (after : Flow) → ((c : Image) → (disk old).left_since (disk old).moment c → (disk old).may_leave c)
      → IsOpenFault refused → (IsStoreFault refused → Rose (disk old).faults (disk new).faults) → RefusedDoes keys most p (disk old) (disk new) shown later refused → OpeningStops keys most p (disk old) (disk new) shown later refused
      → ((disk old).tells → IsOpenRefusal keys p (disk old).cells refused) → ((s : RingStanding) → (disk old).tells → stand.Stands keys p s (disk old).cells → IsStandingRefusal s refused)
      → RefusedWrites disk keys p old new tape_old tape_new present drawn refused → OpeningLeaves {L = L} disk keys p old new (Err refused)
      → ((word_of : WordId → ℕ) (s : LifeState) (pending : Option LifeAct) → (disk old).tells → IsLeftAt keys p word_of s pending (disk old).cells → OpensInLife keys most p word_of s pending (disk old) (disk new) shown later false)
      → EndsEarly ring_kind ring_lives ring_audits [] keys most shares (disk old) (disk new) shown later disk old new before after (failed.Fault refused)
  unopened_here {T} {L} shares fits o tape_old tape_new present drawn refused after only kind cause does stops refusal stood writes leaves acts =
      let either = either_here disk keys p old new leaves in
      inr (inr (record {
        p = p;
        head = head;
        script = script;
        came = came;
        fits = fits;
        kind = kind;
        read = λ tells. record { is = refusal tells; stood = λ s stands. stood s tells stands };
        cause = cause;
        seen = tt;
        shown = does;
        stops = record { read = old; between = shown; keeps = keeps_none (disk old); passes = same_none (disk old); head = shows_none shown; seen = none_noted (disk old).seen; stops = stops; far = how_far disk keys p old new leaves };
        behind_head = let (notes, behind) = refused_shown keys most p (disk old) (disk new) shown later refused does in (notes, record { between = shown; head = shows_none shown; whole = whole; behind = behind });
        unwritten = λ not. let alone = read_alone disk keys p old new tape_old tape_new present drawn refused kind writes not in (alone.keeps, alone.passes);
        left = λ at tells stands all. ring_leaves_standing disk keys p old new only tells all either at stands;
        opens = either;
        stops_life = λ tells word_of s pending here each. stops_here keys most p (disk old) (disk new) shown later false word_of s pending (acts word_of s pending tells here) here each;
      }))

-- in stages
pub staged_here : {S L : Type 0} (disk : S → Disk) (only_now : (x : S) (c : Image) → (disk x).left_since (disk x).moment c → (disk x).may_leave c) (keys : Keys) (most : ℕ) (p : Params) (old new : S) (shown later : Trace) (o : Opening L)
    → IsRingOpened disk keys most p old new shown later o → OpensFrom disk keys p old new → OpensInStages [] ring_kind ring_lives disk keys p old new
staged_here disk only_now keys most p old new shown later o is leaves = record {
  standing = opens_here disk keys p old new leaves;
  stages = (
    record { found = is.found; found_in = λ tells. (is.told tells).found_in; begins = is.begins },
    λ word_of s pending tells left all. openings_come_in_stages disk only_now keys p word_of s pending old new tells left all _,
  );
}
