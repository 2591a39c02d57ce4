-- A run that is written part by part.
use Rattle.std.proofs.Common.{◌≡◌, ◌<◌, ◌≤◌, ℕ, zero, suc, ◌+◌, ◌-◌, ◌*◌, ◌^◌, List, [], ◌∷◌, ◌++◌, length, Result, Ok, Err, refl, sym, ap, ◌∙◌, subst, arith, append_assoc, get_or, ⊎_elim, inl, inr}
use Rattle.std.specs.Result.{IsErr}
use Rattle.std.proofs.lemmas.Bool.{cases_lt}
use Rattle.std.proofs.lemmas.List.{append-nil}
use Rattle.ob_base.specs.declared.fault.Failed.{Failed}
use Rattle.ob_seal.specs.declared.keys.Keys.{Keys}
use Rattle.ob_seal.specs.Pieces.{onward}
use Rattle.ob_seal.specs.Seals.{sealed}
use Rattle.ob_seal.specs.Sealing.{Sealing}
use Rattle.ob_store.specs.declared.watch.Note.{Note}
use Rattle.ob_store.specs.declared.watch.Note.TheVariants.{Write}
use Rattle.ob_store.specs.Calls.{GoesOn, Serves, IsFailed}
use Rattle.ob_store.specs.Disk.{Disk, Image}
use Rattle.ob_store.specs.Images.{SameOff}
use Rattle.ob_store.specs.Lines.{Trace}
use Rattle.ob_store.specs.Runs.{write_notes}
use Rattle.ob_store.specs.Told.{Does, Tells, TellsFirst}
use Rattle.ob_store.proofs.Doing.{does_refused, first_all, first_behind, first_more, tells_none, tells_then}
use Rattle.ob_store.proofs.Moments.{passed_none, passed_then, passes_so}
use Rattle.ob_store.proofs.Runs.{run_next}
use Rattle.ob_store.proofs.Serving.{goes_same, goes_then, serves_then}
use Rattle.ob_cells.specs.Runs.{AreSealed, IsFurther, run_at}
use Rattle.ob_cells.specs.Windows.{IsRowSealed, IsSlotSealed}
use Rattle.ob_cells.specs.Writes.{WritesRun, WritesWithin}
use Rattle.ob_cells.proofs.Listed.{onward_low}
use Rattle.ob_cells.proofs.Written.{refused_run}

-- the first cells of a row that has a run's cells from one on, for a sealer that has come so far
pub row_slots : (keys : Keys) (base generation number : ℕ) (plain : ℕ → List ℕ) (many at k few : ℕ) (row : List (List ℕ)) (s : Sealing) → few ≤ 48 → at + 48 * k + few ≤ many → IsRowSealed keys base generation (number + 48 * k) plain many (at + 48 * k) row
    → s.keys ≡ keys → s.generation ≡ generation → s.next ≡ number + 48 * k → (j : ℕ) → j < few → IsSlotSealed s.keys (base + at + 48 * k + j) s.generation (s.next + j) (plain (at + (48 * k + j))) (get_or row j [])
row_slots keys base generation number plain many at k few row s low within are same_keys same_generation on j lt =
    let slot = get_or row j [] in
    let cell : base + (at + 48 * k + j) ≡ base + at + 48 * k + j = omega arith in
    let place : at + 48 * k + j ≡ at + (48 * k + j) = omega arith in
    let seal : number + 48 * k + j ≡ s.next + j = omega (arith, on) in
    subst (λ (x : Keys). IsSlotSealed x (base + at + 48 * k + j) s.generation (s.next + j) (plain (at + (48 * k + j))) slot) (sym same_keys)
    (subst (λ (x : ℕ). IsSlotSealed keys (base + at + 48 * k + j) x (s.next + j) (plain (at + (48 * k + j))) slot) (sym same_generation)
    (subst (λ (x : ℕ). IsSlotSealed keys (base + at + 48 * k + j) generation x (plain (at + (48 * k + j))) slot) seal
    (subst (λ (x : ℕ). IsSlotSealed keys x generation (number + 48 * k + j) (plain (at + (48 * k + j))) slot) cell
    (subst (λ (x : ℕ). IsSlotSealed keys (base + (at + 48 * k + j)) generation (number + 48 * k + j) (plain x) slot) place
    (are j (omega (arith, lt, low)) (omega (arith, lt, within)))))))

-- the notes of a run are those of its first cells, and then of the others
pub notes_parted : (base i n : ℕ) → write_notes base (i + n) ≡ write_notes base i ++ write_notes (base + i) n
notes_parted base i zero = ap (write_notes base) (none i) ∙ sym (append-nil (write_notes base i))
  where
    none : (i : ℕ) → i + 0 ≡ i
    none i = omega arith
notes_parted base i (suc n) =
    let next : i + suc n ≡ i + n + 1 = omega arith in
    let last : suc n ≡ n + 1 = omega arith in
    let cell : base + (i + n) ≡ base + i + n = omega arith in
    ap (write_notes base) next ∙ run_next (λ c. Write c) base (i + n) ∙ ap (λ (l : List Note). l ++ Write (base + (i + n)) ∷ []) (notes_parted base i n)
    ∙ append_assoc (write_notes base i) (write_notes (base + i) n) (Write (base + (i + n)) ∷ [])
    ∙ ap (λ (c : ℕ). write_notes base i ++ (write_notes (base + i) n ++ Write c ∷ [])) cell
    ∙ ap (λ (l : List Note). write_notes base i ++ l) (sym (ap (write_notes (base + i)) last ∙ run_next (λ c. Write c) (base + i) n))

-- the notes of a run begin with those of a shorter one
notes_more : (base i many : ℕ) → i ≤ many → write_notes base many ≡ write_notes base i ++ write_notes (base + i) (many - i)
notes_more base i many le = (let e : many ≡ i + (many - i) = omega (arith, le) in ap (write_notes base) e) ∙ notes_parted base i (many - i)

-- images that differ in cells of a part of a run alone
off_wider : (base many part n : ℕ) (c d : Image) → base ≤ part → part + n ≤ base + many → SameOff part n c d → SameOff base many c d
off_wider base many part n c d low high same = λ k off. same k (⊎_elim (λ below. inl (omega (arith, below, low))) (λ above. inr (omega (arith, above, high))) off)

off_then : (base n : ℕ) (c d e : Image) → SameOff base n c d → SameOff base n d e → SameOff base n c e
off_then base n c d e p q = λ k off. p k off ∙ q k off

-- a run is written as far as its cell of this number, and shown
pub record Turning (base many at : ℕ) (plain : ℕ → List ℕ) (first now : Sealing) (old disk : Disk) (before after : Trace) : Type 0 where
  pub within : at ≤ many
  pub goes : GoesOn old disk
  pub out : disk.out ≡ 0
  pub told : old.tells → disk.tells
  pub run : WritesRun {T = Unit {0}} {E = Failed} base at plain first now old disk (Ok tt)
  pub notes : Tells (write_notes base at) (write_notes base at) old.seen disk.seen before after

pub turning_none : (base many : ℕ) (plain : ℕ → List ℕ) (sealer : Sealing) (disk : Disk) (t : Trace) → disk.out ≡ 0 → Turning base many 0 plain sealer sealer disk disk t t
turning_none base many plain sealer disk t none = record {
  within = omega arith;
  goes = goes_same disk;
  out = none;
  told = λ tells. tells;
  run = record {
    written = λ tells j lt. absurd (omega arith);
    whole = λ j lt. absurd (omega arith);
    seals = record { all = zero_on; some = record { keys = refl; generation = refl; on = omega arith; within = omega arith } };
    within = record { rest = λ tells k off. refl; passes = passed_none disk (SameOff base 0) (λ c k off. refl) };
  };
  notes = tells_none disk.seen t;
}
  where
    zero_on : sealer ≡ record sealer { next = sealer.next + 0 }
    zero_on = (let e : sealer.next ≡ sealer.next + 0 = omega arith in ap (λ (x : ℕ). record sealer { next = x }) e)

module _ (base many at n : ℕ) (plain : ℕ → List ℕ) (first now last : Sealing) (old disk new : Disk) (before then after : Trace) (few : at + n ≤ many) (turning : Turning base many at plain first now old disk before then) where
  further : IsFurther n now last → IsFurther many first last
  further q =
      let is = turning.run.seals.all in record {
        keys = q.keys ∙ ap (λ (s : Sealing). s.keys) is;
        generation = q.generation ∙ ap (λ (s : Sealing). s.generation) is;
        on = (let next = ap (λ (s : Sealing). s.next) is in let on = q.on in omega arith);
        within = (let next = ap (λ (s : Sealing). s.next) is in let w = q.within in omega (arith, few));
      }

  within_to : (to : ℕ) → at + n ≤ to → WritesWithin (base + at) n disk new → WritesWithin base to old new
  within_to to le q = record {
    rest = λ tells. off_then base to new.cells disk.cells old.cells (off_wider base to (base + at) n new.cells disk.cells (omega arith) (omega (arith, le)) (q.rest (turning.told tells)))
        (off_wider base to base at disk.cells old.cells (omega arith) (omega (arith, le)) (turning.run.within.rest tells));
    passes = passed_then (SameOff base to) old disk new (off_then base to)
        (passes_so (SameOff base at) (SameOff base to) old disk (λ c d. off_wider base to base at c d (omega arith) (omega (arith, le))) turning.run.within.passes)
        (passes_so (SameOff (base + at) n) (SameOff base to) disk new (λ c d. off_wider base to (base + at) n c d (omega arith) (omega (arith, le))) q.passes);
  }

  -- the run's next cells were refused
  pub run_refused : {T U E F : Type 0} (q : Result T E) (r : Result U F) → IsErr r → WritesRun (base + at) n (λ j. plain (at + j)) now last disk new q → WritesRun base many plain first last old new r
  run_refused q r is run = refused_run base many plain first last old new r is (further run.seals.some) (within_to many few run.within)

  first_of : {T E : Type 0} (q : Result T E) → Does (write_notes (base + at) n) disk.seen new.seen then after q → TellsFirst (write_notes (base + at) n) disk.seen new.seen then after
  first_of (Ok v) does = first_all _ _ _ _ _ does.all
  first_of (Err e) does = does.first

  pub notes_refused : {T U E F : Type 0} (q : Result T E) (r : Result U F) → IsErr r → Does (write_notes (base + at) n) disk.seen new.seen then after q → Does (write_notes base many) old.seen new.seen before after r
  notes_refused q r is does =
      does_refused old.seen new.seen before after (write_notes base many) r is
      (subst (λ (l : List Note). TellsFirst l old.seen new.seen before after) (sym (notes_more base (at + n) many few ∙ ap (λ (l : List Note). l ++ write_notes (base + (at + n)) (many - (at + n))) (notes_parted base at n)))
      (first_more old.seen new.seen before after (write_notes base at ++ write_notes (base + at) n) (write_notes (base + (at + n)) (many - (at + n)))
      (first_behind old.seen disk.seen new.seen before then after (write_notes base at) (write_notes (base + at) n) turning.notes (first_of q does))))

  pub serves_behind : {T : Type 0} (q : Result T Failed) → Serves IsFailed disk new q → Serves IsFailed old new q
  serves_behind q serves = serves_then IsFailed old disk new q turning.goes (let none = turning.out in omega arith) turning.told serves

  module _ (room : first.next + many ≤ 2 ^ 62) (last_is : last ≡ record now { next = now.next + n }) where
    sealing_is : last ≡ record first { next = first.next + (at + n) }
    sealing_is =
        let sum : first.next + at + n ≡ first.next + (at + n) = omega arith in
        last_is ∙ ap (λ (s : Sealing). record s { next = s.next + n }) turning.run.seals.all ∙ ap (λ (x : ℕ). record first { next = x }) sum

    sealed_on : old.tells → SameOff (base + at) n new.cells disk.cells → AreSealed now.keys (base + at) n now.generation now.next (λ j. plain (at + j)) (run_at (base + at) new.cells)
        → AreSealed first.keys base (at + n) first.generation first.next plain (run_at base new.cells)
    sealed_on tells same there k lt =
        let is = turning.run.seals.all in
        ⊎_elim
        (λ below. same (base + k) (inl (omega (arith, below))) ∙ turning.run.written tells k below)
        (λ (le : at ≤ k). (
        let j = k - at in
        let place : at + j ≡ k = omega (arith, le) in
        let cell : base + at + j ≡ base + k = omega (arith, le) in
        let number : now.next ≡ first.next + at = ap (λ (s : Sealing). s.next) is in
        let sum : now.next + j ≡ first.next + k = omega (arith, le, number) in
        let seal : onward now.next j ≡ onward first.next k = onward_low now.next j (omega (arith, room, lt, few, sum)) ∙ sum ∙ sym (onward_low first.next k (omega (arith, room, lt, few))) in
        ap new.cells (sym cell) ∙ there j (omega (arith, lt, place))
        ∙ ap (λ (x : ℕ). sealed now.keys x now.generation (onward now.next j) (plain (at + j))) cell
        ∙ ap (λ (x : ℕ). sealed now.keys (base + k) now.generation x (plain (at + j))) seal
        ∙ ap (λ (x : ℕ). sealed now.keys (base + k) now.generation (onward first.next k) (plain x)) place
        ∙ ap (λ (s : Sealing). sealed s.keys (base + k) s.generation (onward first.next k) (plain k)) is))
        (cases_lt k at)

    whole_on : ((j : ℕ) → j < n → length (plain (at + j)) ≡ 96) → (k : ℕ) → k < at + n → length (plain k) ≡ 96
    whole_on there k lt =
        ⊎_elim (λ below. turning.run.whole k below)
        (λ (le : at ≤ k). let place : at + (k - at) ≡ k = omega (arith, le) in subst (λ (x : ℕ). length (plain x) ≡ 96) place (there (k - at) (omega (arith, le, lt))))
        (cases_lt k at)

    -- the run's next cells were written
    pub turning_on : {T : Type 0} (v : T) → Serves {T = T} IsFailed disk new (Ok v) → WritesRun {T = T} {E = Failed} (base + at) n (λ j. plain (at + j)) now last disk new (Ok v)
        → Does {T = T} {E = Failed} (write_notes (base + at) n) disk.seen new.seen then after (Ok v) → Turning base many (at + n) plain first last old new before after
    turning_on v serves run does = record {
      within = few;
      goes = goes_then old disk new turning.goes serves.goes;
      out = (let none = turning.out in let still = serves.out in omega arith);
      told = λ tells. serves.tells (turning.told tells);
      run = record {
        written = λ tells. sealed_on tells (run.within.rest (turning.told tells)) (run.written (turning.told tells));
        whole = whole_on run.whole;
        seals = record { all = sealing_is; some = (let f = further run.seals.some in record { keys = f.keys; generation = f.generation; on = f.on; within = (let next = ap (λ (s : Sealing). s.next) sealing_is in omega arith) }) };
        within = within_to (at + n) (omega arith) run.within;
      };
      notes = rw (notes_parted base at n) (tells_then (write_notes base at) (write_notes base at) (write_notes (base + at) n) (write_notes (base + at) n) old.seen disk.seen new.seen before then after turning.notes does.all);
    }
