-- A row of runs over a formatted store, in which openings stop, is a history.
use Rattle.std.specs.Prelude.{◌≡◌, ℕ, ◌-◌, List, [], ◌∷◌, ◌++◌, length, None}
use Rattle.std.proofs.Common.{zero, suc, arith, refl, sym, subst, inl, inr}
use Rattle.ob_base.specs.Tree.{width}
use Rattle.ob_base.specs.declared.params.Params.{Params}
use Rattle.ob_store.specs.Disk.{Disk, Image}
use Rattle.ob_store.specs.declared.watch.Note.{Note}
use Rattle.ob_tables.specs.Rank.{IsRanking}
use Rattle.ob_seal.specs.declared.keys.Keys.{Keys}
use Rattle.ob_twin.specs.Keyed.{tagging}
use Rattle.ob_twin.specs.Register.{StandsAt}
use Rattle.ob_twin.specs.declared.gates.Gates.{Gates}
use Rattle.ob_recover.specs.Calls.{Finds}
use Rattle.ob_recover.specs.Known.{format_gates, gates_open}
use Rattle.ob_recover.specs.Life.{IsActAllowed, LifeAct, LifeState, WordId, formatted_life, reached}
use Rattle.ob_opening.proofs.ActLaws.{FoundActs, found_acts}
use Rattle.ob_opening.specs.OpeningActs.{AreGatesIn, IsLeftAt, StandsInLife}
use Rattle.ob_vault.proofs.Fetching.{none_pending}
use Rattle.ob_vault.proofs.Joining.{none_found}
use Rattle.ob_vault.specs.Acts.{AreBatchesSmall}
use Rattle.ob_vault.specs.Joined.{AreGiven, AreRunsFrom, RunPart, Served, Stopped}
use Rattle.ob_histories.specs.Fills.{AllFills}
use Rattle.ob_histories.specs.Histories.{MayFind, found_formatted}
use Rattle.ob_admitted.specs.Fills.{HasFills}
use Rattle.ob_admitted.specs.Stopped.{AreAllShown, IsGateSure, IsNextBegun, StoppedRunsAreAdmitted, StopsBegun, begun_row}
use Rattle.ob_admitted.specs.Wholes.{found_of_life}
use Rattle.ob_admitted.proofs.Begun as begun
use Rattle.ob_admitted.proofs.Fronting.{IsFrontLeft, refused_left}
use Rattle.ob_admitted.proofs.Going as going
use Rattle.ob_admitted.proofs.Living.{lives_are_filled}
use Rattle.ob_admitted.proofs.Parts.{Filled}
use Rattle.ob_admitted.proofs.Rowing.{row_is}
use Rattle.ob_admitted.proofs.Stopped.{At, IsSound, Last, Tail, found_life, gates_of, tail_none, tail_reads, tail_settled}
use Rattle.ob_admitted.proofs.Walking.{LeftWithin, SmallWithin}
use Rattle.ob_admitted.proofs.Walks.{first_shut}

module _ {S : Type 0} (disk : S → Disk) (keys : Keys) (p : Params) (word_of : WordId → ℕ) (slot : ℕ → ℕ → ℕ) (ranked : (u : ℕ) → IsRanking (width p) (slot u)) where
  abbrev LeftAt : Last keys p word_of slot → (Image → Type 0) → Type 0
  LeftAt l may_leave = LeftWithin disk keys p word_of l.t l.pending may_leave

  abbrev SmallAt : Last keys p word_of slot → Type 0
  SmallAt l = SmallWithin disk keys p word_of l.t l.pending

  next_any : (parts : List (RunPart S)) (rows : List (List Note)) (may_leave : Image → Type 0) (from : AreRunsFrom disk keys p may_leave parts) (shown : AreAllShown disk keys p may_leave parts rows from) → IsNextBegun disk keys p (λ c. Unit {0}) may_leave parts rows from shown
  next_any [] rows may_leave from shown = tt
  next_any (Served most old found opened calls steps behind refused words seen new ∷ parts) [] may_leave from shown = tt
  next_any (Stopped old new ∷ parts) [] may_leave from shown = tt
  next_any (Served most old found opened calls steps behind refused words seen new ∷ parts) (notes ∷ rows) may_leave from shown = tt
  next_any (Stopped old new ∷ parts) (notes ∷ rows) may_leave from (inl reads, more) = next_any parts rows (disk new).may_leave from.2 more
  next_any (Stopped old new ∷ parts) (notes ∷ rows) may_leave from (inr stops, more) = tt

  -- an opening that showed its first sync, with the runs behind it
  module _ (old new : Disk) (notes : List Note) (rows : List (List Note)) (b : StopsBegun keys p old new notes) (l : Last keys p word_of slot) (may_leave : Image → Type 0) (may : may_leave old.cells) (at : IsLeftAt keys p word_of l.t l.pending old.cells) (small : SmallAt l) (so : l.IsSo old.cells)
      (Next : (Image → Type 0) → Type 0) (any : Next (λ c. Unit {0})) (sure : length (begun_row p (b.found)) ≡ suc b.count → Next (λ image. StandsAt (tagging keys) 1 image (b.found).generation))
      (again : (after : Last keys p word_of slot) → LeftAt after new.may_leave → SmallAt after → Next after.IsSo → Tail keys p word_of slot after new.may_leave rows) where
    f_acts : FoundActs keys p word_of l.t l.pending old.cells
    f_acts = found_acts keys p word_of l.t l.pending old.cells at

    abbrev before : List LifeAct
    before = l.acts f_acts.found

    sound : IsSound keys p word_of slot before
    sound = l.sound f_acts.found f_acts.finds (found_life keys p word_of slot l.t l.pending f_acts.found at.allowed f_acts.finds)

    stands : StandsInLife keys p word_of (At keys p word_of slot before) old.cells
    stands = subst (λ (u : LifeState). StandsInLife keys p word_of u old.cells) (sym (l.there f_acts.found)) f_acts.here

    few : AreBatchesSmall (At keys p word_of slot before).log
    few = subst (λ (u : LifeState). AreBatchesSmall u.log) (sym (l.there f_acts.found)) (small f_acts.found f_acts.finds)

    begun_by : (lack : ℕ) → length (begun_row p (b.found)) - b.count ≡ lack → Tail keys p word_of slot l may_leave (notes ∷ rows)
    begun_by zero is =
        let tail = again (begun.last_begun keys p word_of slot ranked old new notes b before sound stands few) (begun.left_begun keys p word_of slot ranked old new notes b before sound stands few is)
        (begun.small_begun keys p word_of slot ranked old new notes b before sound stands few is) any in
        tail_settled keys p word_of slot old.cells notes rows l may_leave may at f_acts so (b.found).gates (begun.gates_in keys p word_of slot ranked old new notes b before sound stands few)
        (begun.begins keys p word_of slot ranked old new notes b before sound stands few ++ (tail.found ++ tail.later)) (begun.life_then keys p word_of slot ranked old new notes b before sound stands few (tail.found ++ tail.later) tail.life)
        (λ f filled latest finds. begun.begun_goes keys p word_of slot ranked old new notes b before sound stands few is rows tail f filled latest finds)
    begun_by (suc zero) is =
        let tail = again (begun.last_unsure keys p word_of slot ranked old new notes b before sound stands few) (begun.left_unsure keys p word_of slot ranked old new notes b before sound stands few is)
        (begun.small_opened keys p word_of slot ranked old new notes b before sound stands few) (sure (omega (arith, is))) in
        tail_settled keys p word_of slot old.cells notes rows l may_leave may at f_acts so (b.found).gates (begun.gates_in keys p word_of slot ranked old new notes b before sound stands few) (tail.found ++ tail.later) tail.life
        (λ f filled latest finds. begun.unsure_goes keys p word_of slot ranked old new notes b before sound stands few is rows tail f filled latest finds)
    begun_by (suc (suc lack)) is =
        let tail = again (begun.last_short keys p word_of slot ranked old new notes b before sound stands few) (begun.left_short keys p word_of slot ranked old new notes b before sound stands few lack is)
        (begun.small_short keys p word_of slot ranked old new notes b before sound stands few lack is) any in
        tail_settled keys p word_of slot old.cells notes rows l may_leave may at f_acts so (b.found).gates (begun.gates_in keys p word_of slot ranked old new notes b before sound stands few) (tail.found ++ tail.later) tail.life
        (λ f filled latest finds. begun.short_goes keys p word_of slot ranked old new notes b before sound stands few lack is rows tail f filled latest finds)

  go : (parts : List (RunPart S)) (rows : List (List Note)) (l : Last keys p word_of slot) (may_leave : Image → Type 0) → LeftAt l may_leave → SmallAt l → (from : AreRunsFrom disk keys p may_leave parts) (shown : AreAllShown disk keys p may_leave parts rows from)
      → IsGateSure disk keys p may_leave parts rows from shown → AreGiven word_of parts → IsNextBegun disk keys p l.IsSo may_leave parts rows from shown → Tail keys p word_of slot l may_leave rows
  go [] [] l may_leave left small from shown sure given next = tail_none keys p word_of slot l may_leave
  go [] (notes ∷ rows) l may_leave left small from shown sure given next = absurd shown
  go (Served most old found opened calls steps behind refused words seen new ∷ parts) [] l may_leave left small from shown sure given next = absurd shown
  go (Stopped old new ∷ parts) [] l may_leave left small from shown sure given next = absurd shown
  go (Served most old found opened calls steps behind refused words seen new ∷ parts) (notes ∷ rows) l may_leave left small from (is, more) sure given next =
      let front : IsFrontLeft disk keys p most old found opened calls steps behind refused words seen new from.1 notes = refused_left disk keys p most old found opened calls steps behind refused words seen new from.1 notes is in
      let at : IsLeftAt keys p word_of l.t l.pending (disk old).cells = left (disk old).cells from.0 in
      let b : FoundActs keys p word_of l.t l.pending (disk old).cells = found_acts keys p word_of l.t l.pending (disk old).cells at in
      let before : List LifeAct = l.acts b.found in
      let sound : IsSound keys p word_of slot before = l.sound b.found b.finds (found_life keys p word_of slot l.t l.pending b.found at.allowed b.finds) in
      let stands : StandsInLife keys p word_of (At keys p word_of slot before) (disk old).cells = subst (λ (u : LifeState). StandsInLife keys p word_of u (disk old).cells) (sym (l.there b.found)) b.here in
      let few : AreBatchesSmall (At keys p word_of slot before).log = subst (λ (u : LifeState). AreBatchesSmall u.log) (sym (l.there b.found)) (small b.found b.finds) in
      let tail = go parts rows (going.last disk keys p word_of slot ranked most old found opened calls steps behind refused words seen new from.1 given.0 notes front before sound stands few) (disk new).may_leave
      (going.left_then disk keys p word_of slot ranked most old found opened calls steps behind refused words seen new from.1 given.0 notes front before sound stands few)
      (going.small_then disk keys p word_of slot ranked most old found opened calls steps behind refused words seen new from.1 given.0 notes front before sound stands few) from.2 more sure given.1 (next_any parts rows (disk new).may_leave from.2 more) in
      tail_settled keys p word_of slot (disk old).cells notes rows l may_leave from.0 at b next (((is.shown).found_in).found).gates
      (record { generation = (((is.shown).found_in).found_in).generation_gates; epoch = (((is.shown).found_in).found_in).epoch_gates })
      (going.serves disk keys p word_of slot ranked most old found opened calls steps behind refused words seen new from.1 given.0 notes front before sound stands few
      ++ (going.made disk keys p word_of slot ranked most old found opened calls steps behind refused words seen new from.1 given.0 notes front before sound stands few ++ (tail.found ++ tail.later)))
      (going.life_then disk keys p word_of slot ranked most old found opened calls steps behind refused words seen new from.1 given.0 notes front before sound stands few (tail.found ++ tail.later) tail.life)
      (λ f filled latest finds. going.served_goes disk keys p word_of slot ranked most old found opened calls steps behind refused words seen new from.1 given.0 notes front before sound stands few rows tail f filled latest finds)
  go (Stopped old new ∷ parts) (notes ∷ rows) l may_leave left small from (inl reads, more) sure given next =
      tail_reads keys p word_of slot (disk old) (disk new) notes rows l may_leave from.0.0 (λ c will. from.0.1 c will) (left (disk old).cells from.0.0) reads
      (go parts rows l (disk new).may_leave (λ c will. left c (from.0.1 c (reads.shrinks c will))) small from.2 more sure given next)
  go (Stopped old new ∷ parts) (notes ∷ rows) l may_leave left small from (inr stops, more) sure given next =
      begun_by (disk old) (disk new) notes rows stops l may_leave from.0.0 (left (disk old).cells from.0.0) small next (λ IsSo. IsNextBegun disk keys p IsSo (disk new).may_leave parts rows from.2 more) (next_any parts rows (disk new).may_leave from.2 more) sure.0
      (λ after left_then small_then next_then. go parts rows after (disk new).may_leave left_then small_then from.2 more sure.1 given next_then) (length (begun_row p (stops.found)) - stops.count) refl

  -- behind the format
  abbrev formatted : Last keys p word_of slot
  formatted = record {
    t = formatted_life slot;
    pending = None;
    IsSo = λ c. Unit {0};
    acts = λ xs. xs;
    there = λ xs. refl;
    sound = λ xs finds life. subst (λ (ys : List LifeAct). IsSound keys p word_of slot ys) (sym (none_found xs finds)) (record { life = tt; ends = tt; whole = tt });
  }

  finds_formatted : (may_leave : Image → Type 0) → ((c : Image) → may_leave c → AreGatesIn format_gates c) → (f : AllFills) (c : Image) → may_leave c → (xs : List LifeAct) → Finds None xs → StandsInLife keys p word_of (reached p word_of (formatted_life slot) xs) c → (g : Gates) → AreGatesIn g c
      → MayFind p f None (found_of_life p (reached p word_of (formatted_life slot) xs) (gates_open g))
  finds_formatted may_leave shut f c may xs finds stands g are =
      let none : xs ≡ [] = none_found xs finds in
      let here : StandsInLife keys p word_of (formatted_life slot) c = subst (λ (ys : List LifeAct). StandsInLife keys p word_of (reached p word_of (formatted_life slot) ys) c) none stands in
      let closed = first_shut disk keys p word_of slot may_leave shut (gates_open g) (g, refl, c, may, here, are) in
      subst (λ (ys : List LifeAct). found_of_life p (reached p word_of (formatted_life slot) ys) (gates_open g) ≡ found_formatted) (sym none)
      (λ i. record { epoch = 0; generation = 1; records = 0; generation_gate = closed.0 i; epoch_gate = closed.1 i })

pub stopped_runs : {S : Type 0} (disk : S → Disk) → StoppedRunsAreAdmitted disk
stopped_runs disk keys p drawn made parts rows f shut from shown sure word_of given =
    let slot : ℕ → ℕ → ℕ = f.slot in
    let may : Image → Type 0 = (disk made).may_leave in
    let t : LifeState = formatted_life slot in
    let tail = go disk keys p word_of slot f.ranked parts rows (formatted disk keys p word_of slot f.ranked) may
    (λ c left. record { allowed = λ a e. none_pending (IsActAllowed p word_of t a) a e; stands = λ i same. inl (subst (λ (x : Image). StandsInLife keys p word_of t x) same (f.stands word_of c left)) })
    (λ found finds. subst (λ (l : List LifeAct). AreBatchesSmall (reached p word_of t l).log) (sym (none_found found finds)) f.small) from shown sure given (next_any disk keys p word_of slot f.ranked parts rows may from shown) in
    let has : HasFills p word_of t (tail.found ++ tail.later) = lives_are_filled p word_of slot (tail.found ++ tail.later) f.ranked tail.life in
    let filled : Filled p word_of has.fills t (tail.found ++ tail.later) = record { leaves = (has.planned).leaves; slots_are = (has.shown).slots_are } in
    row_is p word_of has.fills has.are rows (tail.goes has.fills filled None (record {
      finds = λ c will xs finds stands g are so. finds_formatted disk keys p word_of slot f.ranked may shut has.fills c will xs finds stands g are;
      reads = λ c will xs finds stands.
          (let (g, are) = gates_of c in (found_of_life p (reached p word_of t xs) (gates_open g), finds_formatted disk keys p word_of slot f.ranked may shut has.fills c will xs finds stands g are, refl));
    }))
