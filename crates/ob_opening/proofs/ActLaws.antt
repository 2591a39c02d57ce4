-- An opening as acts of a life.
use Rattle.std.specs.Prelude.{◌≡◌, ◌⊎◌, ℕ, zero, suc, ◌+◌, ◌-◌, ◌<◌, ◌≤◌, Bool, true, false, IsTrue, List, [], ◌∷◌, ◌++◌, length, take, Option, Some, None, Result, Ok, Err, IfErr, is_ok}
use Rattle.std.proofs.Common.{arith, inl, inr, ⊎_elim, refl, sym, ap, subst, ◌∙◌, append_assoc}
use Rattle.std.proofs.lemmas.List.{append-nil, length-map, length-take-le, take_all}
use Rattle.std.proofs.lemmas.Bool.{true≢false}
use Rattle.ob_base.specs.declared.params.Params.{Params}
use Rattle.ob_base.specs.declared.fault.Fault.{Fault}
use Rattle.ob_base.specs.declared.fault.Fault.TheVariants.{Memory, Usage, BadScript, BadParams, NotStore, Damaged, StoreFault, StashFull, Worn, SourceFault, SinkFault}
use Rattle.ob_store.specs.declared.event.Event.{Event}
use Rattle.ob_store.specs.declared.watch.Note.{Note}
use Rattle.ob_store.specs.Calls.{Keeps}
use Rattle.ob_store.specs.Disk.{Clock, Disk, Image, NotAfter}
use Rattle.ob_store.specs.Images.{Passes, Same}
use Rattle.ob_store.specs.Lines.{Trace}
use Rattle.ob_store.specs.Told.{Tells, TellsFirst}
use Rattle.ob_store.proofs.Doing.{first_all, first_behind}
use Rattle.ob_seal.specs.declared.keys.Keys.{Keys}
use Rattle.ob_twin.specs.Keyed.{tagging}
use Rattle.ob_twin.specs.Opening.{GatesAre}
use Rattle.ob_twin.specs.Register.{StandsAt}
use Rattle.ob_twin.specs.declared.gates.Gates.{Gates}
use Rattle.ob_twin.specs.declared.gates.Open.{Open as Known}
use Rattle.ob_start.specs.Orders.{registers_notes}
use Rattle.ob_start.specs.Registers.{HaveOpen}
use Rattle.ob_tables.specs.Content.{Content, content_of}
use Rattle.ob_log.specs.Logs.{BatchRecord, RecordFits, RecordsFit, record_at}
use Rattle.ob_schedule.specs.Phases.{open_phases}
use Rattle.ob_schedule.specs.Schedule.{Fills, Public, open_notes}
use Rattle.ob_recover.specs.Life.{LifeAct, LifeState, Open, ShowBatch, WordId, IsActAllowed, IsLife, life_step, reached}
use Rattle.ob_recover.specs.Calls.{Finds, repeated}
use Rattle.ob_recover.proofs.Pads.{life_goes_on}
use Rattle.ob_stand.specs.Stands.{OneOf, RingStanding, Stands, with_generation}
use Rattle.ob_stand.proofs.OnceLaws.{register_once}
use Rattle.ob_recover.specs.declared.found.Found.{Found}
use Rattle.ob_recover.specs.Finds.{FindDoes, FindsPart, IsFoundInRing, IsFoundOf, ObeysFound, finding_notes}
use Rattle.ob_recover.specs.Repeats.{RepeatsTold}
use Rattle.ob_recover.proofs.FindLaws.{number_found}
use Rattle.ob_recover.specs.Fronts.{AreFirstNotes}
use Rattle.ob_recover.specs.Known.{fills_of, gates_open, public_of_kept}
use Rattle.ob_recover.specs.Lives.{IsLifeAt, life_batch}
use Rattle.ob_recover.specs.Telling.{AreTold}
use Rattle.ob_recover.proofs.ShownOpening.{cuts_of_fronts, openings_are_scheduled, openings_begin}
use Rattle.ob_recover.proofs.Telling.{as_told, openings_are_told}
use Rattle.ob_opening.specs.OpeningActs.{AreGatesIn, IsLeftAt, OpensInLife, StandsInLife, notes_of_opening, phases_of_opening}
use Rattle.ob_opening.specs.OpeningRuns.{OpeningLeaves, OpensFrom, begun_notes, next_notes}
use Rattle.ob_opening.specs.OpeningParts.{FoundDoes, FoundRefused}
use Rattle.ob_opening.specs.Openings.{OpensWhatStood}
use Rattle.ob_opening.specs.declared.opening.Opening.{Opening}
use Rattle.ob_opening.proofs.OpenedLaws.{begins_behind, finding_read, opens_behind, repeats_behind}

-- ---- lives

repeats_live : (p : Params) (word_of : WordId → ℕ) (s : LifeState) (n : ℕ) → s.begun + n ≤ length s.log → IsLife p word_of s (repeated n)
repeats_live p word_of s zero few = tt
repeats_live p word_of s (suc n) few = (omega arith, repeats_live p word_of (life_step p word_of s ShowBatch) n (omega arith))

repeats_split : (n k m : ℕ) → n ≡ k + m → repeated n ≡ repeated k ++ repeated m
repeats_split n zero m is = let same : n ≡ m = omega (arith, is) in ap repeated same
repeats_split zero (suc k) m is = absurd (omega (arith, is))
repeats_split (suc n) (suc k) m is = ap (λ (acts : List LifeAct). ShowBatch ∷ acts) (repeats_split n k m (omega (arith, is)))

reached_join : (p : Params) (word_of : WordId → ℕ) (s : LifeState) (xs ys : List LifeAct) → reached p word_of s (xs ++ ys) ≡ reached p word_of (reached p word_of s xs) ys
reached_join p word_of s [] ys = refl
reached_join p word_of s (x ∷ xs) ys = reached_join p word_of (life_step p word_of s x) xs ys

-- ---- what an image stands for

module _ (keys : Keys) (p : Params) (word_of : WordId → ℕ) where
  -- an act that changes neither the content nor the log
  stays_at : (c : Content) (rs : List BatchRecord) (s t : LifeState) → t.content ≡ s.content → t.log ≡ s.log → IsLifeAt p word_of c rs s → IsLifeAt p word_of c rs t
  stays_at c rs s t content log life = record {
    table = (λ i. (content i).table) ∙ life.table;
    slots = λ u j low few. (λ i. (content i).slot u j) ∙ life.slots u j low few;
    homes = λ u. (λ i. (content i).home u) ∙ life.homes u;
    book = λ k. (λ i. (content i).book k) ∙ life.book k;
    kept = life.kept;
    log = log ∙ life.log;
    words = life.words;
  }

  begun_stands : (s : LifeState) (g : ℕ) (d c : Image) (here : StandsInLife keys p word_of s d) → Stands keys p (with_generation here.standing g) c → StandsInLife keys p word_of (life_step p word_of s (Open g)) c
  begun_stands s g d c here stands = record {
    standing = with_generation here.standing g;
    stands = stands;
    epoch = here.epoch;
    generation = refl;
    life = stays_at here.standing.content here.standing.records s (life_step p word_of s (Open g)) refl refl here.life;
  }

  shown_stands : (s : LifeState) (n : ℕ) (c : Image) → StandsInLife keys p word_of s c → StandsInLife keys p word_of (reached p word_of s (repeated n)) c
  shown_stands s zero c here = here
  shown_stands s (suc n) c here = shown_stands (life_step p word_of s ShowBatch) n c (record {
    standing = here.standing;
    stands = here.stands;
    epoch = here.epoch;
    generation = here.generation;
    life = stays_at here.standing.content here.standing.records s (life_step p word_of s ShowBatch) refl refl here.life;
  })

  old_stands : (s : LifeState) (d c : Image) (here : StandsInLife keys p word_of s d) → Stands keys p here.standing c → StandsInLife keys p word_of s c
  old_stands s d c here stands = record { standing = here.standing; stands = stands; epoch = here.epoch; generation = here.generation; life = here.life }

-- an image of a generation that is sure
next_one : (keys : Keys) (p : Params) (s : RingStanding) (c : Image) → OneOf keys p s (with_generation s (suc s.generation)) c → StandsAt (tagging keys) 1 c (suc s.generation) → Stands keys p (with_generation s (suc s.generation)) c
next_one keys p s c (inl old) sure = absurd (let same : s.generation ≡ suc s.generation = register_once (tagging keys) 1 c s.generation (suc s.generation) old.generation sure in omega arith)
next_one keys p s c (inr next) sure = next

-- ---- what is found

pub record FoundActs (keys : Keys) (p : Params) (word_of : WordId → ℕ) (s : LifeState) (pending : Option LifeAct) (cells : Image) : Type 0 where
  pub found : List LifeAct
  pub finds : Finds pending found
  pub here : StandsInLife keys p word_of (reached p word_of s found) cells

pub found_acts : (keys : Keys) (p : Params) (word_of : WordId → ℕ) (s : LifeState) (pending : Option LifeAct) (cells : Image) → IsLeftAt keys p word_of s pending cells → FoundActs keys p word_of s pending cells
found_acts keys p word_of s pending cells left = ⊎_elim
    (λ now. record { found = []; finds = inl refl; here = now })
    (λ next. record { found = next.0 ∷ []; finds = inr (next.0, next.1, refl); here = next.2 })
    (left.stands cells refl)

found_live : (p : Params) (word_of : WordId → ℕ) (s : LifeState) (pending : Option LifeAct) (found : List LifeAct) → ((a : LifeAct) → pending ≡ Some a → IsActAllowed p word_of s a) → Finds pending found → IsLife p word_of s found
found_live p word_of s pending found allowed (inl none) = subst (λ (acts : List LifeAct). IsLife p word_of s acts) (sym none) tt
found_live p word_of s pending found allowed (inr one) = subst (λ (acts : List LifeAct). IsLife p word_of s acts) (sym one.2) (allowed one.0 one.1, tt)

-- ---- gates

bool_same : (x y : Bool) → (IsTrue x → IsTrue y) → (IsTrue y → IsTrue x) → x ≡ y
bool_same true true there back = refl
bool_same true false there back = absurd (true≢false (sym (there refl)))
bool_same false true there back = absurd (true≢false (sym (back refl)))
bool_same false false there back = refl

known_once : (a b : Known) (first : ℕ) (image : Image) → GatesAre a first image → GatesAre b first image → a ≡ b
known_once a b first image one two =
    let zero_same : a.zero ≡ b.zero = bool_same a.zero b.zero (λ x. two.zero.1 (one.zero.0 x)) (λ x. one.zero.1 (two.zero.0 x)) in
    let one_same : a.one ≡ b.one = bool_same a.one b.one (λ x. two.one.1 (one.one.0 x)) (λ x. one.one.1 (two.one.0 x)) in
    λ i. record { zero = zero_same i; one = one_same i }

gates_once : (a b : Gates) (image : Image) → GatesAre a.generation 1 image → GatesAre a.epoch 5 image → AreGatesIn b image → a ≡ b
gates_once a b image generation epoch are =
    let g : a.generation ≡ b.generation = known_once a.generation b.generation 1 image generation are.generation in
    let e : a.epoch ≡ b.epoch = known_once a.epoch b.epoch 5 image epoch are.epoch in
    λ i. record { generation = g i; epoch = e i }

-- ---- what is told

first_front : (xs ys : List Note) (a b : Option (List Event)) (k l : Trace) → AreFirstNotes xs ys → TellsFirst xs a b k l → TellsFirst ys a b k l
first_front xs ys a b k l front told = record { made = told.made; shown = told.shown; cut = cuts_of_fronts xs ys told.made told.shown front told.cut; tells = told.tells }

-- what was found is what stands
module _ (keys : Keys) (p : Params) (cells : Image) (st : RingStanding) (found : Found) (is : IsFoundOf st found) (in_cells : IsFoundInRing keys p cells found) (gates : Gates) (are : AreGatesIn gates cells) (shown : List BatchRecord) (known : Gates) where
  gates_are : found.gates ≡ gates
  gates_are = gates_once found.gates gates cells in_cells.generation_gates in_cells.epoch_gates are

  -- whatever is made of it
  as_stands : {X : Type 0} (of : Public → Fills → (ℕ → Bool) → ℕ → X)
      → of (public_of_kept p (content_of found.tables) shown found.epoch known) (fills_of p (content_of found.tables) found.records) (gates_open found.gates) (suc found.generation)
      ≡ of (public_of_kept p st.content shown st.epoch known) (fills_of p st.content st.records) (gates_open gates) (suc st.generation)
  as_stands of =
      let content = is.content in
      let records = is.records in
      let epoch = is.epoch in
      let generation = is.generation in
      let same = gates_are in
      λ i. of (public_of_kept p (content i) shown (epoch i) known) (fills_of p (content i) (records i)) (gates_open (same i)) (suc (generation i))

-- ---- the law

module _ (keys : Keys) (most : ℕ) (p : Params) (word_of : WordId → ℕ) (s : LifeState) (pending : Option LifeAct) (old new : Disk) (before after : Trace)
    (allowed : (a : LifeAct) → pending ≡ Some a → IsActAllowed p word_of s a) (f : FoundActs keys p word_of s pending old.cells) where
  abbrev t : LifeState
  t = reached p word_of s f.found

  abbrev st : RingStanding
  st = f.here.standing

  abbrev IsToldFirst : Type 0
  IsToldFirst = (gates : Gates) → AreGatesIn gates old.cells → (shown : List BatchRecord) (known : Gates) → TellsFirst (notes_of_opening p st gates (length st.records) shown known) old.seen new.seen before after

  abbrev IsToldTo : ℕ → Type 0
  IsToldTo count = (gates : Gates) → AreGatesIn gates old.cells → (shown : List BatchRecord) (known : Gates) → AreTold most (phases_of_opening p st gates count shown known) (notes_of_opening p st gates count shown known) old.seen new.seen before after

  next : suc st.generation ≡ suc t.generation
  next = ap suc f.here.generation

  many : length st.records ≡ length t.log
  many = sym (ap length f.here.life.log ∙ length-map st.records life_batch)

  began : (c : Image) → Stands keys p (with_generation st (suc st.generation)) c → StandsInLife keys p word_of (life_step p word_of t (Open (suc t.generation))) c
  began c stands = subst (λ (g : ℕ). StandsInLife keys p word_of (life_step p word_of t (Open g)) c) next (begun_stands keys p word_of t (suc st.generation) old.cells c f.here stands)

  -- nothing was done
  pub opens_nothing : Passes Same old new → IsToldFirst → OpensInLife keys most p word_of s pending old new before after false
  opens_nothing passes told = record {
    found = f.found;
    finds = f.finds;
    here = f.here;
    made = [];
    in_flight = pending;
    law = record {
      is_life = tt;
      whole = λ yes. absurd (true≢false (sym yes));
      part = inl (refl, refl);
      leaves = λ was c left.
          let back = passes.now c left in
          subst (λ (i : Image). StandsInLife keys p word_of s i ⊎ ((a : LifeAct) × (pending ≡ Some a) × StandsInLife keys p word_of (life_step p word_of s a) i)) (sym back.2) (was back.0 back.1);
    };
    told = inr (record { acts = inl (refl, refl); told = told });
  }

  -- the generation may have begun
  pub opens_partly : ((c : Image) → new.may_leave c → OneOf keys p st (with_generation st (suc st.generation)) c) → IsToldFirst → OpensInLife keys most p word_of s pending old new before after false
  opens_partly one told = record {
    found = f.found;
    finds = f.finds;
    here = f.here;
    made = f.found;
    in_flight = Some (Open (suc t.generation));
    law = record {
      is_life = found_live p word_of s pending f.found allowed f.finds;
      whole = λ yes. absurd (true≢false (sym yes));
      part = inr (Open (suc t.generation) ∷ repeated (length t.log), refl, inr (Open (suc t.generation), repeated (length t.log), refl, refl));
      leaves = λ was c left. ⊎_elim
          (λ stands. inl (old_stands keys p word_of t old.cells c f.here stands))
          (λ stands. inr (Open (suc t.generation), refl, began c stands))
          (one c left);
    };
    told = inr (record { acts = inr (refl, ap (λ (n : ℕ). Some (Open n)) (sym next)); told = told });
  }

  -- it has begun, and so many batches were repeated
  pub opens_to : (answered : Bool) (count : ℕ) → count ≤ length st.records → (answered ≡ true → count ≡ length st.records) → ((c : Image) → new.may_leave c → Stands keys p (with_generation st (suc st.generation)) c) → IsToldTo count
      → OpensInLife keys most p word_of s pending old new before after answered
  opens_to answered count few all stand told =
      let g : ℕ = suc t.generation in
      let rest : List LifeAct = repeated (length t.log - count) in
      record {
        found = f.found;
        finds = f.finds;
        here = f.here;
        made = f.found ++ Open g ∷ repeated count;
        in_flight = None;
        law = record {
          is_life = life_goes_on p word_of s f.found (Open g ∷ repeated count) (found_live p word_of s pending f.found allowed f.finds) (omega arith, repeats_live p word_of (life_step p word_of t (Open g)) count (omega (arith, few, many)));
          whole = λ yes. (ap (λ (n : ℕ). f.found ++ Open g ∷ repeated n) (all yes ∙ many), refl);
          part = inr (
            rest,
            ap (λ (acts : List LifeAct). f.found ++ Open g ∷ acts) (repeats_split (length t.log) count (length t.log - count) (omega (arith, few, many))) ∙ sym (append_assoc f.found (Open g ∷ repeated count) rest),
            inl refl,
          );
          leaves = λ was c left. inl (
              subst (λ (u : LifeState). StandsInLife keys p word_of u c) (sym (reached_join p word_of s f.found (Open g ∷ repeated count))) (shown_stands keys p word_of (life_step p word_of t (Open g)) count c (began c (stand c left)))
              );
        };
        told = inl (record { count = count; few = few; made_are = ap (λ (n : ℕ). f.found ++ Open n ∷ repeated count) (sym next); none = refl; told = told });
      }

-- ---- what wasn't found

pub find_first : (keys : Keys) (p : Params) (old new : Disk) (k l : Trace) (f : Fault) → FindDoes keys p old new k l (Err f) → TellsFirst registers_notes old.seen new.seen k l ⊎ FindsPart keys p old new k l
find_first keys p old new k l Memory does = does
find_first keys p old new k l Usage does = does
find_first keys p old new k l (BadScript line) does = does
find_first keys p old new k l (BadParams field) does = does
find_first keys p old new k l NotStore does = inl (first_all old.seen new.seen k l registers_notes does)
find_first keys p old new k l (Damaged cell check kept computed) does = does
find_first keys p old new k l (StoreFault unsure) does = does
find_first keys p old new k l (StashFull rows) does = does
find_first keys p old new k l (Worn number) does = does
find_first keys p old new k l SourceFault does = does
find_first keys p old new k l SinkFault does = does

-- the first of the reads are the first steps of any opening of what stands
pub reads_told : (keys : Keys) (p : Params) (st : RingStanding) (old new : Disk) (k l : Trace) (f : Fault) → old.tells → Stands keys p st old.cells → FindDoes keys p old new k l (Err f) → (gates : Gates) (count : ℕ) (shown : List BatchRecord) (known : Gates)
    → TellsFirst (notes_of_opening p st gates count shown known) old.seen new.seen k l
reads_told keys p st old new k l f tells stands does gates count shown known =
    let parts = openings_begin p (public_of_kept p st.content shown st.epoch known) (fills_of p st.content st.records) (gates_open gates) (suc st.generation) count in
    let all : List Note = notes_of_opening p st gates count shown known in
    ⊎_elim
    (λ first. first_front registers_notes all old.seen new.seen k l parts.registers first)
    (λ part.
    let registers = part.registers tells in
    let epoch : part.epoch ≡ st.epoch = number_found keys 5 old.cells st.epoch part.epoch stands.epoch registers.epoch_whole registers.epoch_counts in
    first_front (finding_notes p st.epoch) all old.seen new.seen k l parts.finding (subst (λ (e : ℕ). TellsFirst (finding_notes p e) old.seen new.seen k l) epoch part.told))
    (find_first keys p old new k l f does)

-- ---- the first records

first_at : (rs : List BatchRecord) (n b : ℕ) → b < n → record_at (take n rs) b ≡ record_at rs b
first_at rs zero b lt = absurd (omega arith)
first_at [] (suc n) b lt = refl
first_at (r ∷ rs) (suc n) zero lt = refl
first_at (r ∷ rs) (suc n) (suc b) lt = first_at rs n b (omega arith)

first_fit : (p : Params) (rs : List BatchRecord) (n : ℕ) → n ≤ length rs → RecordsFit p rs → RecordsFit p (take n rs)
first_fit p rs n few fit =
    let long : length (take n rs) ≡ n = length-take-le n rs few in
    record {
      few = (let most = fit.few in omega (arith, few, long, most));
      each = λ b lt. subst (λ (r : BatchRecord). RecordFits p b r) (sym (first_at rs n b (omega (arith, lt, long)))) (fit.each b (omega (arith, lt, long, few)));
    }

-- ---- what was found, and what is done behind it

module _ {S : Type 0} (disk : S → Disk) (counts : (store : S) (t : Clock) (c : Image) → NotAfter t (disk store).moment → (disk store).may_leave c → (disk store).left_since t c)
    (keys : Keys) (most : ℕ) (p : Params) (found : Found) (old mid new : S) (before between after : Trace)
    (keeps : Keeps (disk old) (disk mid)) (passes : Passes Same (disk old) (disk mid)) (reads : Tells (finding_notes p found.epoch) (finding_notes p found.epoch) (disk old).seen (disk mid).seen before between)
    (obeys : ObeysFound p found) (gates : HaveOpen found.gates) (tells : (disk old).tells) (in_cells : IsFoundInRing keys p (disk old).cells found) (some : 1 ≤ most) where
  -- so many batches were repeated
  shown_to : (count : ℕ) → count ≤ length found.records → (seen : Option (List Event)) (shown : Trace) → Tells (begun_notes p found) (begun_notes p found) (disk old).seen seen before shown
      → RepeatsTold most p (content_of found.tables) (take count found.records) seen (disk new).seen shown after → (others : List BatchRecord) (known : Gates)
      → AreTold most (open_phases p (public_of_kept p (content_of found.tables) others found.epoch known) (fills_of p (content_of found.tables) found.records) (gates_open found.gates) (suc found.generation) count)
      (open_notes p (public_of_kept p (content_of found.tables) others found.epoch known) (fills_of p (content_of found.tables) found.records) (gates_open found.gates) (suc found.generation) count) (disk old).seen (disk new).seen before after
  shown_to count few seen shown begun told others known =
      let c : Content = content_of found.tables in
      let rs : List BatchRecord = found.records in
      let first : List BatchRecord = take count rs in
      let fit = first_fit p rs count few obeys.records in
      let alone = openings_are_scheduled p c first found.epoch found.generation found.gates others known obeys.content fit gates.0 in
      let within = openings_are_scheduled p c rs found.epoch found.generation found.gates others known obeys.content obeys.records gates.0 in
      as_told most _ _ _ _ (disk old).seen (disk new).seen before after (sym alone.all_phases ∙ within.phases count few) (sym alone.whole ∙ within.notes count few)
      (openings_are_told most p c first found.epoch found.generation found.gates others known (disk old).seen seen (disk new).seen before shown after some obeys.content fit gates.0 begun told)

  -- what comes before the repeats is the front of any opening of what was found
  begun_front : (others : List BatchRecord) (known : Gates) → AreFirstNotes (begun_notes p found)
      (open_notes p (public_of_kept p (content_of found.tables) others found.epoch known) (fills_of p (content_of found.tables) found.records) (gates_open found.gates) (suc found.generation) (length found.records))
  begun_front others known =
      let c : Content = content_of found.tables in
      let q : Public = public_of_kept p c others found.epoch known in
      let fills : Fills = fills_of p c found.records in
      let scheduled = openings_are_scheduled p c found.records found.epoch found.generation found.gates others known obeys.content obeys.records gates.0 in
      let none : begun_notes p found ≡ open_notes p q fills (gates_open found.gates) (suc found.generation) 0 = sym (append-nil (begun_notes p found)) ∙ scheduled.notes 0 (omega arith) in
      subst (λ (ns : List Note). AreFirstNotes ns (open_notes p q fills (gates_open found.gates) (suc found.generation) (length found.records))) (sym none)
      ((openings_begin p q fills (gates_open found.gates) (suc found.generation) (length found.records)).fewer 0 (omega arith))

  module _ (word_of : WordId → ℕ) (s : LifeState) (pending : Option LifeAct) (left : IsLeftAt keys p word_of s pending (disk old).cells) (is : (st : RingStanding) → Stands keys p st (disk old).cells → IsFoundOf st found) where
    abbrev f : FoundActs keys p word_of s pending (disk old).cells
    f = found_acts keys p word_of s pending (disk old).cells left

    abbrev here : RingStanding
    here = f.here.standing

    same : IsFoundOf here found
    same = is here f.here.stands

    register : StandsAt (tagging keys) 1 (disk old).cells found.generation
    register = subst (λ (g : ℕ). StandsAt (tagging keys) 1 (disk old).cells g) (sym same.generation) f.here.stands.generation

    first_told : TellsFirst (next_notes found) (disk mid).seen (disk new).seen between after → (g : Gates) → AreGatesIn g (disk old).cells → (others : List BatchRecord) (known : Gates)
        → TellsFirst (notes_of_opening p here g (length here.records) others known) (disk old).seen (disk new).seen before after
    first_told told g are others known =
        subst (λ (n : ℕ). TellsFirst (notes_of_opening p here g n others known) (disk old).seen (disk new).seen before after) (ap length same.records)
        (subst (λ (ns : List Note). TellsFirst ns (disk old).seen (disk new).seen before after)
        (as_stands keys p (disk old).cells here found same in_cells g are others known (λ q fills is_open generation. open_notes p q fills is_open generation (length found.records)))
        (first_front (begun_notes p found) _ (disk old).seen (disk new).seen before after (begun_front others known)
        (first_behind (disk old).seen (disk mid).seen (disk new).seen before between after (finding_notes p found.epoch) (next_notes found) reads told)))

    -- an image that an opening may leave
    one_of_both : OpensFrom disk keys p old new → (c : Image) → (disk new).may_leave c → OneOf keys p here (with_generation here (suc here.generation)) c
    one_of_both opens c may = let since = opens.since here tells f.here.stands in since.each c (counts new (disk opens.synced).moment c since.later may)

    told_to : (count : ℕ) → count ≤ length found.records → (seen : Option (List Event)) (shown : Trace) → Tells (begun_notes p found) (begun_notes p found) (disk old).seen seen before shown
        → RepeatsTold most p (content_of found.tables) (take count found.records) seen (disk new).seen shown after → (g : Gates) → AreGatesIn g (disk old).cells → (others : List BatchRecord) (known : Gates)
        → AreTold most (phases_of_opening p here g count others known) (notes_of_opening p here g count others known) (disk old).seen (disk new).seen before after
    told_to count few seen shown begun told g are others known =
        as_told most _ _ _ _ (disk old).seen (disk new).seen before after
        (as_stands keys p (disk old).cells here found same in_cells g are others known (λ q fills is_open generation. open_phases p q fills is_open generation count))
        (as_stands keys p (disk old).cells here found same in_cells g are others known (λ q fills is_open generation. open_notes p q fills is_open generation count))
        (shown_to count few seen shown begun told others known)

    -- by the answer
    pub all_acts : {T L : Type 0} (tape new_tape : T) (present : ℕ) (drawn : List ℕ) (r : Result (Opening L) Fault) → OpensWhatStood keys p here (disk new) r → OpeningLeaves disk keys p old new r
        → FoundDoes most p found (disk mid).seen (disk new).seen between after r → IfErr r (FoundRefused disk keys most p found mid new tape new_tape present drawn between after)
        → OpensInLife keys most p word_of s pending (disk old) (disk new) before after (is_ok r)
    all_acts tape new_tape present drawn (Ok o) stood leaves does refused =
        let n : ℕ = length here.records in
        let whole = repeats_behind most p found (finding_notes p found.epoch) (next_notes found) (disk old).seen (disk mid).seen (disk new).seen before between after reads {T = Unit {0}} (Ok tt) does in
        let many : length found.records ≡ n = ap length same.records in
        let all : RepeatsTold most p (content_of found.tables) (take n found.records) whole.seen (disk new).seen whole.shown after =
        subst (λ (rs : List BatchRecord). RepeatsTold most p (content_of found.tables) rs whole.seen (disk new).seen whole.shown after) (sym (take_all n found.records (omega (arith, many)))) whole.repeats in
        opens_to keys most p word_of s pending (disk old) (disk new) before after left.allowed f true n (omega arith) (λ yes. refl) stood.images (told_to n (omega (arith, many)) whole.seen whole.shown whole.begun all)
    all_acts tape new_tape present drawn (Err fault) stood leaves does (inl not_begun) =
        let told = first_told not_begun.1 in
        ⊎_elim
        (λ still. opens_nothing keys most p word_of s pending (disk old) (disk new) before after left.allowed f still told)
        (λ opens. opens_partly keys most p word_of s pending (disk old) (disk new) before after left.allowed f (one_of_both opens) told)
        leaves
    all_acts tape new_tape present drawn (Err fault) stood leaves does (inr begun) =
        let read = finding_read p found.epoch (disk old).seen (disk mid).seen reads.seen in
        let behind = begins_behind disk keys p (finding_notes p found.epoch) (next_notes found) found.generation old mid new keeps passes reads.seen read begun.begins in
        let opens = opens_behind disk keys p old mid new read passes keeps begun.opens in
        let whole = repeats_behind most p found (finding_notes p found.epoch) (next_notes found) (disk old).seen (disk mid).seen (disk new).seen before between after reads {T = Unit {0}} (Err fault) begun.repeats in
        let first = whole.repeats in
        let many : length found.records ≡ length here.records = ap length same.records in
        let few : first.count ≤ length found.records = first.few in
        let sure : (c : Image) → (disk new).may_leave c → StandsAt (tagging keys) 1 c (suc here.generation) =
        λ c may. (let back = behind.reads.now c may in
        subst (λ (i : Image). StandsAt (tagging keys) 1 i (suc here.generation)) (sym back.2) (subst (λ (g : ℕ). StandsAt (tagging keys) 1 back.0 (suc g)) same.generation (behind.sure tells register back.0 back.1))) in
        opens_to keys most p word_of s pending (disk old) (disk new) before after left.allowed f false first.count (omega (arith, few, many)) (λ yes. absurd (true≢false (sym yes)))
        (λ c may. next_one keys p here c (one_of_both opens c may) (sure c may)) (told_to first.count few whole.seen whole.shown whole.begun first.told)
