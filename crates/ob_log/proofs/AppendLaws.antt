-- During an append the open records are those before, or one more once the gate may be open.
use Rattle.std.proofs.Common.{◌≡◌, ◌≢◌, ◌⊎◌, inl, inr, ⊎_elim, ℕ, ◌+◌, ◌*◌, ◌%◌, ◌<◌, ◌≤◌, ◌^◌, List, [], ◌∷◌, ◌++◌, Option, Some, None, Ok, Err, get_or, refl, length, sym, ap, ◌∙◌, subst, arith, length-append}
use mathlib.Core.Path.{fun_ext}
use Rattle.std.proofs.lemmas.Bool.{cases_eq, cases_lt}
use Rattle.std.proofs.Math.ListN.{get_or-append}
use Rattle.std.proofs.Math.Seq.{get_or-append_seam}
use Rattle.std.proofs.Math.Nat.{mul-le-mul_right}
use Rattle.ob_base.specs.declared.fault.Failed.{Failed}
use Rattle.ob_base.specs.declared.fault.Fault.{Fault}
use Rattle.ob_base.specs.declared.params.Params.{Params}
use Rattle.ob_base.specs.Layout.{record_cells, log_cell, log_gate}
use Rattle.ob_base.proofs.LayoutLaws.{row_fits, parts_apart}
use Rattle.ob_seal.specs.declared.keys.Keys.{Keys}
use Rattle.ob_seal.specs.Pieces.{onward, piece}
use Rattle.ob_seal.specs.Sealing.{Sealing}
use Rattle.ob_seal.specs.Seals.{sealed}
use Rattle.ob_cells.specs.Runs.{AreSealed, run_at}
use Rattle.ob_cells.specs.Writes.{WritesWithin}
use Rattle.ob_store.specs.Disk.{Disk, Image}
use Rattle.ob_store.specs.Images.{IsSynced, LeavesOnly, Passes, SameBut, SameOff}
use Rattle.ob_store.specs.declared.watch.Note.{Note}
use Rattle.ob_store.specs.declared.watch.Note.TheVariants.{Write, Sync}
use Rattle.ob_store.specs.Runs.{write_notes}
use Rattle.ob_store.specs.Calls.{Serves}
use Rattle.ob_store.specs.declared.event.Event.{Event}
use Rattle.ob_store.specs.Lines.{Trace}
use Rattle.ob_store.specs.Told.{Tells, TellsFirst, Does}
use Rattle.ob_store.proofs.Doing.{does_all, does_err, first_more, first_behind, tells_then}
use Rattle.ob_store.proofs.Serving.{goes_then}
use Rattle.ob_store.proofs.Moments.{started, passed_none, then_on, weakened, leaves_of, passed_then, passes_so}
use Rattle.ob_twin.specs.Bodies.{open_gate}
use Rattle.ob_twin.proofs.Moves.{same_or_not}
use Rattle.ob_log.specs.Logs.{BatchRecord, RecordObeys, OpenRecords, SpellsRecord, record_at, record_bytes, nothing}
use Rattle.ob_twin.specs.Orders.{WriteDoes}
use Rattle.ob_log.specs.Appends.{HoldsRecord, HoldsOneOf, body_notes, gate_notes, record_for, append_notes}

module _ (p : Params) (a n : ℕ) where
  abbrev base : ℕ
  base = log_cell p a n 0

  -- a cell of an earlier batch
  earlier_off : (b i : ℕ) → b < n → i < record_cells p + 1 → log_cell p a b i < base
  earlier_off b i lt li = let h : b * (record_cells p + 1) + i < n * (record_cells p + 1) = row_fits n (record_cells p + 1) b i lt li in omega arith

  gates_off : (b : ℕ) → (log_gate p a b < base) ⊎ (base + record_cells p ≤ log_gate p a b)
  gates_off b = ⊎_elim (λ (lt : b < n). inl (earlier_off b (record_cells p) lt (omega arith)))
      (λ (ge : n ≤ b). (let h : n * (record_cells p + 1) ≤ b * (record_cells p + 1) = mul-le-mul_right (record_cells p + 1) ge in inr (omega arith)))
      (cases_lt b n)

  other_gate : (b : ℕ) → b ≢ n → log_gate p a b ≢ log_gate p a n
  other_gate b ne same = ne (parts_apart p a b n (record_cells p) (record_cells p) (omega arith) (omega arith) same).0

  body_gate : (b i : ℕ) → i < record_cells p → log_cell p a b i ≢ log_gate p a n
  body_gate b i lt same = let e : i ≡ record_cells p = (parts_apart p a b n i (record_cells p) (omega arith) (omega arith) same).1 in omega arith

module _ (keys : Keys) (p : Params) (epoch : ℕ) (rs : List BatchRecord) (r : BatchRecord) (room : length rs < p.batches) (obeys : RecordObeys p (length rs) r) where
  abbrev area : ℕ
  area = epoch % 2

  abbrev many : ℕ
  many = length rs

  abbrev pub BodyStep : Image → Image → Type 0
  BodyStep = SameOff (log_cell p (epoch % 2) (length rs) 0) (record_cells p)

  abbrev pub GateStep : Image → Image → Type 0
  GateStep = SameBut (log_gate p (epoch % 2) (length rs))

  -- the body of a batch behind a closed gate isn't read
  pub body_kept : (c d : Image) → BodyStep c d → OpenRecords keys p epoch rs d → OpenRecords keys p epoch rs c
  body_kept c d same log = record {
    few = log.few;
    opened = λ b lt. same _ (gates_off p area many b) ∙ log.opened b lt;
    shut = λ b le lt o. log.shut b le lt (sym (same _ (gates_off p area many b)) ∙ o);
    bodies = λ b lt i li. same _ (inl (earlier_off p area many b i lt (omega arith))) ∙ log.bodies b lt i li;
    obey = log.obey;
  }

  -- a torn gate that is closed
  pub gate_shut : (c mid : Image) → GateStep c mid → c (log_gate p (epoch % 2) (length rs)) ≢ open_gate → OpenRecords keys p epoch rs mid → OpenRecords keys p epoch rs c
  gate_shut c mid same shut log = record {
    few = log.few;
    opened = λ b lt. same _ (other_gate p area many b (omega arith)) ∙ log.opened b lt;
    shut = λ b le lt. ⊎_elim
        (λ (at : b ≡ many). subst (λ x. c (log_gate p area x) ≢ open_gate) (sym at) shut)
        (λ (ne : b ≢ many). λ o. log.shut b le lt (sym (same _ (other_gate p area many b ne)) ∙ o))
        (cases_eq b many);
    bodies = λ b lt i li. same _ (body_gate p area many b i li) ∙ log.bodies b lt i li;
    obey = log.obey;
  }

  abbrev more : List BatchRecord
  more = rs ++ r ∷ []

  more_many : length more ≡ many + 1
  more_many = omega (arith, length-append rs (r ∷ []))

  more_at : (P : BatchRecord → ℕ → Type 0) → ((b : ℕ) → b < many → P (record_at rs b) b) → P r many → (b : ℕ) → b < length more → P (record_at more b) b
  more_at P before here b lt = ⊎_elim
      (λ (at : b < many). subst (λ x. P x b) (sym (get_or-append rs (r ∷ []) nothing b at)) (before b at))
      (λ (ge : many ≤ b). (let is : many ≡ b = omega (arith, more_many) in subst (λ x. P (record_at more x) x) is (subst (λ x. P x many) (sym (get_or-append_seam rs r [] nothing)) here)))
      (cases_lt b many)

  -- one that is open
  pub gate_opened : (c mid : Image) → GateStep c mid → c (log_gate p (epoch % 2) (length rs)) ≡ open_gate → SpellsRecord keys p epoch (length rs) r mid → OpenRecords keys p epoch rs mid → OpenRecords keys p epoch (rs ++ r ∷ []) c
  gate_opened c mid same opened spells log = record {
    few = omega (arith, more_many);
    opened = more_at (λ x b. c (log_gate p area b) ≡ open_gate)
        (λ b lt. same _ (other_gate p area many b (omega arith)) ∙ log.opened b lt)
        opened;
    shut = λ b le lt o. log.shut b (omega (arith, more_many)) lt (sym (same _ (other_gate p area many b (omega (arith, more_many)))) ∙ o);
    bodies = more_at (λ x b. SpellsRecord keys p epoch b x c)
        (λ b lt i li. same _ (body_gate p area many b i li) ∙ log.bodies b lt i li)
        (λ i li. same _ (body_gate p area many many i li) ∙ spells i li);
    obey = more_at (λ x b. RecordObeys p b x) log.obey obeys;
  }

  pub torn_gate : (c mid : Image) → GateStep c mid → SpellsRecord keys p epoch (length rs) r mid → OpenRecords keys p epoch rs mid → HoldsOneOf keys p epoch rs r c
  torn_gate c mid same spells log = ⊎_elim
      (λ opened. inr (gate_opened c mid same opened spells log))
      (λ shut. inl (gate_shut c mid same shut log))
      (same_or_not (c (log_gate p area many)) open_gate)

  pub same_image : (c d : Image) → ((k : ℕ) → c k ≡ d k) → OpenRecords keys p epoch rs d → OpenRecords keys p epoch rs c
  same_image c d same = body_kept c d (λ k off. same k)

  module _ (old mid : Disk) (only : (c : Image) → old.left_since old.moment c → old.may_leave c) (settled : IsSynced old) (held : OpenRecords keys p epoch rs old.cells) (passes : Passes BodyStep old mid) where
    -- while the body is written and synced
    pub filling : LeavesOnly old mid (OpenRecords keys p epoch rs)
    filling = leaves_of BodyStep (OpenRecords keys p epoch rs) (OpenRecords keys p epoch rs) old mid passes only (λ c left. same_image c old.cells (settled c left) held) (λ tells. held) (λ c d was step. body_kept c d step was) (λ c was. was)

    pub filling_one : LeavesOnly old mid (HoldsOneOf keys p epoch rs r)
    filling_one = weakened old mid (OpenRecords keys p epoch rs) (HoldsOneOf keys p epoch rs r) (λ c was. inl was) filling

    -- after it the gate is written and synced
    pub any_moment : (new : Disk) → OpenRecords keys p epoch rs mid.cells → SpellsRecord keys p epoch (length rs) r mid.cells → LeavesOnly mid new (λ c. GateStep c mid.cells) → LeavesOnly old new (HoldsOneOf keys p epoch rs r)
    any_moment new log spells last = then_on old mid new (HoldsOneOf keys p epoch rs r) filling_one
        (weakened mid new (λ c. GateStep c mid.cells) (HoldsOneOf keys p epoch rs r) (λ c same. torn_gate c mid.cells same spells log) last)

-- ---- as the calls say it

-- what is off a run and the cell behind it
off_run : (base many k : ℕ) → (k < base) ⊎ (base + (many + 1) ≤ k) → (k < base) ⊎ (base + many ≤ k)
off_run base many k (inl low) = inl low
off_run base many k (inr high) = inr (omega arith)

off_body : (base many cell cells k : ℕ) → base ≡ cell → many ≡ cells → (k < cell) ⊎ (cell + (cells + 1) ≤ k) → (k < base) ⊎ (base + many ≤ k)
off_body base many cell cells k at is (inl low) = inl (omega arith)
off_body base many cell cells k at is (inr high) = inr (omega arith)

off_gate : (base many gate k : ℕ) → gate ≡ base + many → (k < base) ⊎ (base + (many + 1) ≤ k) → k ≢ gate
off_gate base many gate k is (inl low) = omega arith
off_gate base many gate k is (inr high) = omega arith

-- the body, and the cell behind it
pub passes_both : (base many gate : ℕ) (old mid new : Disk) → gate ≡ base + many → Passes (SameOff base many) old mid → Passes (SameBut gate) mid new → Passes (SameOff base (many + 1)) old new
passes_both base many gate old mid new is first second =
    passed_then (SameOff base (many + 1)) old mid new (λ c d e a b k off. a k off ∙ b k off)
    (passes_so (SameOff base many) (SameOff base (many + 1)) old mid (λ c d same k off. same k (off_run base many k off)) first)
    (passes_so (SameBut gate) (SameOff base (many + 1)) mid new (λ c d same k off. same k (off_gate base many gate k is off)) second)

within_wider : (base many : ℕ) (old new : Disk) → WritesWithin base many old new → WritesWithin base (many + 1) old new
within_wider base many old new within = record {
  rest = λ tells k off. within.rest tells k (off_run base many k off);
  passes = passes_so (SameOff base many) (SameOff base (many + 1)) old new (λ c d same k off. same k (off_run base many k off)) within.passes;
}

within_both : (base many gate : ℕ) (old mid new : Disk) → gate ≡ base + many → WritesWithin base many old mid → (old.tells → mid.tells) → (mid.tells → SameBut gate new.cells mid.cells) → Passes (SameBut gate) mid new
    → WritesWithin base (many + 1) old new
within_both base many gate old mid new is within told rest passes = record {
  rest = λ tells k off. rest (told tells) k (off_gate base many gate k is off) ∙ within.rest tells k (off_run base many k off);
  passes = passes_both base many gate old mid new is within.passes passes;
}

-- nothing was written
pub prefix_none : (keys : Keys) (p : Params) (epoch : ℕ) (rs : List BatchRecord) (r : BatchRecord) (d : Disk) → ((c : Image) → d.left_since d.moment c → d.may_leave c) → IsSynced d → OpenRecords keys p epoch rs d.cells → LeavesOnly d d (HoldsOneOf keys p epoch rs r)
prefix_none keys p epoch rs r d only settled held =
    started d (HoldsOneOf keys p epoch rs r) (λ c left. inl (subst (λ (i : Image). OpenRecords keys p epoch rs i) (sym (fun_ext (λ k. settled c (only c left) k))) held)) (λ tells. inl held)

pub within_none : (base many : ℕ) (d : Disk) → WritesWithin base many d d
within_none base many d = record { rest = λ tells k off. refl; passes = passed_none d (SameOff base many) (λ c k off. refl) }

-- the cells of a run that spells a record's bytes
pub spells_at : (keys : Keys) (p : Params) (epoch batch base many : ℕ) (r : BatchRecord) (bytes : List ℕ) (image : Image) → base ≡ log_cell p (epoch % 2) batch 0 → many ≡ record_cells p → bytes ≡ record_bytes epoch r
    → AreSealed keys base many r.generation r.number (λ i. piece i bytes) (run_at base image) → SpellsRecord keys p epoch batch r image
spells_at keys p epoch batch base many r bytes image base_is many_is bytes_is so i lt =
    let cell : base + i ≡ log_cell p (epoch % 2) batch i = omega arith in
    ap image (sym cell) ∙ so i (omega arith) ∙ ap (λ c. sealed keys c r.generation (onward r.number i) (piece i bytes)) cell
    ∙ ap (λ (l : List ℕ). sealed keys (log_cell p (epoch % 2) batch i) r.generation (onward r.number i) (piece i l)) bytes_is

module _ (keys : Keys) (p : Params) (epoch batch : ℕ) (rs : List BatchRecord) (r : BatchRecord) (base many gate : ℕ) (long : length rs ≡ batch) (small : batch < p.batches) (obeys : RecordObeys p batch r)
    (base_is : base ≡ log_cell p (epoch % 2) batch 0) (many_is : many ≡ record_cells p) (gate_is : gate ≡ log_gate p (epoch % 2) batch) where
  room_at : length rs < p.batches
  room_at = omega arith

  obeys_at : RecordObeys p (length rs) r
  obeys_at = subst (λ b. RecordObeys p b r) (sym long) obeys

  body_of : (c d : Image) → SameOff base many c d → BodyStep keys p epoch rs r room_at obeys_at c d
  body_of c d same = subst (λ n. SameOff (log_cell p (epoch % 2) (length rs) 0) n c d) many_is
      (subst (λ b. SameOff b many c d) (base_is ∙ ap (λ b. log_cell p (epoch % 2) b 0) (sym long)) same)

  gate_of : (c d : Image) → SameBut gate c d → GateStep keys p epoch rs r room_at obeys_at c d
  gate_of c d same = subst (λ k. SameBut k c d) (gate_is ∙ ap (λ b. log_gate p (epoch % 2) b) (sym long)) same

  module _ (old mid : Disk) (only : (c : Image) → old.left_since old.moment c → old.may_leave c) (passes : Passes (SameOff base many) old mid) (settled : IsSynced old) (held : OpenRecords keys p epoch rs old.cells) where
    passes_at : Passes (BodyStep keys p epoch rs r room_at obeys_at) old mid
    passes_at = passes_so (SameOff base many) (BodyStep keys p epoch rs r room_at obeys_at) old mid body_of passes

    -- the body was refused
    pub prefix_refused : LeavesOnly old mid (HoldsOneOf keys p epoch rs r)
    prefix_refused = filling_one keys p epoch rs r room_at obeys_at old mid only settled held passes_at

    -- the gate was written, or refused
    pub prefix_open : (new : Disk) → SameOff base many mid.cells old.cells → SpellsRecord keys p epoch batch r mid.cells → LeavesOnly mid new (λ c. SameBut gate c mid.cells) → LeavesOnly old new (HoldsOneOf keys p epoch rs r)
    prefix_open new rest spells last = any_moment keys p epoch rs r room_at obeys_at old mid only settled held passes_at new
        (body_kept keys p epoch rs r room_at obeys_at mid.cells old.cells (body_of mid.cells old.cells rest) held)
        (subst (λ b. SpellsRecord keys p epoch b r mid.cells) (sym long) spells)
        (weakened mid new (λ c. SameBut gate c mid.cells) (λ c. GateStep keys p epoch rs r room_at obeys_at c mid.cells) (λ c same. gate_of c mid.cells same) last)

    -- no cell differs but the batch's
    abbrev Within : Image → Type 0
    Within c = SameOff (log_cell p (epoch % 2) batch 0) (record_cells p + 1) c old.cells

    in_body : (k : ℕ) → (k < log_cell p (epoch % 2) batch 0) ⊎ (log_cell p (epoch % 2) batch 0 + (record_cells p + 1) ≤ k) → (k < base) ⊎ (base + many ≤ k)
    in_body k off = off_body base many (log_cell p (epoch % 2) batch 0) (record_cells p) k base_is many_is off

    not_gate : (k : ℕ) → (k < log_cell p (epoch % 2) batch 0) ⊎ (log_cell p (epoch % 2) batch 0 + (record_cells p + 1) ≤ k) → k ≢ gate
    not_gate k off = off_gate (log_cell p (epoch % 2) batch 0) (record_cells p) gate k (omega (arith, gate_is)) off

    -- until the body is synced, or refused
    pub body_alone : LeavesOnly old mid (λ c. OpenRecords keys p epoch rs c × Within c)
    body_alone = leaves_of (SameOff base many) (λ d. (k : ℕ) → d k ≡ old.cells k) (λ c. OpenRecords keys p epoch rs c × Within c) old mid passes only settled (λ tells k. refl)
        (λ c d was step. (body_kept keys p epoch rs r room_at obeys_at c old.cells (body_of c old.cells (λ k off. step k off ∙ was k)) held, λ k off. step k (in_body k off) ∙ was k))
        (λ c was. (same_image keys p epoch rs r room_at obeys_at c old.cells was held, λ k off. was k))

    -- and behind that
    pub gate_moments : (new : Disk) → SameOff base many mid.cells old.cells → SpellsRecord keys p epoch batch r mid.cells → LeavesOnly mid new (λ c. SameBut gate c mid.cells) → LeavesOnly mid new (λ c. HoldsOneOf keys p epoch rs r c × Within c)
    gate_moments new rest spells last = weakened mid new (λ c. SameBut gate c mid.cells) (λ c. HoldsOneOf keys p epoch rs r c × Within c)
        (λ c same. (
          torn_gate keys p epoch rs r room_at obeys_at c mid.cells (gate_of c mid.cells same) (subst (λ b. SpellsRecord keys p epoch b r mid.cells) (sym long) spells)
              (body_kept keys p epoch rs r room_at obeys_at mid.cells old.cells (body_of mid.cells old.cells rest) held),
          λ k off. same k (not_gate k off) ∙ rest k (in_body k off),
        ))
        last

  -- once it went well
  pub acknowledged : (old mid now c : Image) → OpenRecords keys p epoch rs old → SameOff base many mid old → SpellsRecord keys p epoch batch r mid → SameBut gate now mid → now gate ≡ open_gate → ((k : ℕ) → c k ≡ now k) → OpenRecords keys p epoch (rs ++ r ∷ []) c
  acknowledged old mid now c held rest spells same opened left =
      gate_opened keys p epoch rs r room_at obeys_at c mid (gate_of c mid (λ k off. left k ∙ same k off))
      (left (log_gate p (epoch % 2) (length rs)) ∙ ap now (sym (gate_is ∙ ap (λ b. log_gate p (epoch % 2) b) (sym long))) ∙ opened)
      (subst (λ b. SpellsRecord keys p epoch b r mid) (sym long) spells)
      (body_kept keys p epoch rs r room_at obeys_at mid old (body_of mid old rest) held)

-- the gate's write leaves the body
pub holds_record : (keys : Keys) (p : Params) (epoch batch : ℕ) (r : BatchRecord) (gate : ℕ) → gate ≡ log_gate p (epoch % 2) batch → (mid now : Image) → SpellsRecord keys p epoch batch r mid → SameBut gate now mid → now gate ≡ open_gate
    → HoldsRecord keys p epoch batch r now
holds_record keys p epoch batch r gate is mid now spells same opened = record {
  body = λ i lt. same _ (λ at. body_gate p (epoch % 2) batch batch i lt (at ∙ is)) ∙ spells i lt;
  gate = ap now (sym is) ∙ opened;
}

-- the record that is appended obeys
pub obeys_for : (p : Params) (sealer : Sealing) (batch first : ℕ) (asks : List (Option ℕ)) (words : List ℕ) → sealer.generation < 2 ^ 64 → sealer.next ≤ 2 ^ 62 → first < 2 ^ 64
    → length asks ≡ p.places → length words ≡ p.places → ((i : ℕ) → get_or words i 0 < 2 ^ 64) → ((i k : ℕ) → get_or asks i None ≡ Some k → k < p.keys)
    → ((i j k : ℕ) → get_or asks i None ≡ Some k → get_or asks j None ≡ Some k → i ≡ j) → RecordObeys p batch (record_for sealer batch first asks words)
obeys_for p sealer batch first asks words g n f a w fit low apart = record {
  batch_is = refl;
  generation_fits = g;
  number_fits = omega arith;
  first_fits = f;
  asks_many = a;
  words_many = w;
  words_fit = fit;
  keys_low = low;
  keys_apart = apart;
}

-- two calls that went well
pub serves_both : {T U V E F G : Type 0} (blames : E → Type 0) (also : F → Type 0) (told : G → Type 0) (a b c : Disk) (u : T) (v : U) (w : V) → Serves {T = T} {E = E} blames a b (Ok u) → Serves {T = U} {E = F} also b c (Ok v) → Serves {T = V} {E = G} told a c (Ok w)
serves_both blames also told a b c u v w p q = record { goes = goes_then a b c p.goes q.goes; out = (let x = p.out in let y = q.out in omega arith); tells = λ t. q.tells (p.tells t); cause = tt }

abbrev pub run_notes : ℕ → ℕ → ℕ → List Note
run_notes base many gate = (write_notes base many ++ Sync ∷ []) ++ (Write gate ∷ Sync ∷ [])

-- where the record lies
module _ (p : Params) (epoch batch base many gate : ℕ) (base_is : base ≡ log_cell p (epoch % 2) batch 0) (many_is : many ≡ record_cells p) (gate_is : gate ≡ log_gate p (epoch % 2) batch) where
  at_log : (old new : Disk) → WritesWithin base (many + 1) old new → WritesWithin (log_cell p (epoch % 2) batch 0) (record_cells p + 1) old new
  at_log old new within = subst (λ n. WritesWithin (log_cell p (epoch % 2) batch 0) (n + 1) old new) many_is (subst (λ b. WritesWithin b (many + 1) old new) base_is within)

  -- only the body was written
  pub body_within : (old new : Disk) → WritesWithin base many old new → WritesWithin (log_cell p (epoch % 2) batch 0) (record_cells p + 1) old new
  body_within old new within = at_log old new (within_wider base many old new within)

  -- the body, and the gate
  pub both_within : (old mid new : Disk) → WritesWithin base many old mid → (old.tells → mid.tells) → (mid.tells → SameBut gate new.cells mid.cells) → Passes (SameBut gate) mid new
      → WritesWithin (log_cell p (epoch % 2) batch 0) (record_cells p + 1) old new
  both_within old mid new within told rest passes = at_log old new (within_both base many gate old mid new (omega arith) within told rest passes)

  pub notes_are : run_notes base many gate ≡ append_notes p epoch batch
  notes_are =
      ap (λ b. run_notes b many gate) base_is ∙ ap (λ n. run_notes (log_cell p (epoch % 2) batch 0) n gate) many_is ∙ ap (λ g. run_notes (log_cell p (epoch % 2) batch 0) (record_cells p) g) gate_is

  -- the body's, and all but the last sync
  pub body_is : write_notes base many ++ Sync ∷ [] ≡ body_notes p epoch batch
  body_is = ap (λ b. write_notes b many ++ Sync ∷ []) base_is ∙ ap (λ n. write_notes (log_cell p (epoch % 2) batch 0) n ++ Sync ∷ []) many_is

  gate_notes_are : (write_notes base many ++ Sync ∷ []) ++ Write gate ∷ [] ≡ gate_notes p epoch batch
  gate_notes_are = ap (λ (xs : List Note). xs ++ Write gate ∷ []) body_is ∙ ap (λ g. body_notes p epoch batch ++ Write g ∷ []) gate_is

  pub first_body : (a b : Option (List Event)) (k l : Trace) → TellsFirst (write_notes base many ++ Sync ∷ []) a b k l → TellsFirst (body_notes p epoch batch) a b k l
  first_body a b k l first = subst (λ (xs : List Note). TellsFirst xs a b k l) body_is first

  -- the body was refused
  pub told_body : (a b : Option (List Event)) (k l : Trace) (f : Fault) → TellsFirst (write_notes base many ++ Sync ∷ []) a b k l → Does {T = Unit {0}} {E = Fault} (append_notes p epoch batch) a b k l (Err f)
  told_body a b k l f written = subst (λ (xs : List Note). Does {T = Unit {0}} {E = Fault} xs a b k l (Err f)) notes_are
      (does_err a b k l (run_notes base many gate) f (first_more a b k l (write_notes base many ++ Sync ∷ []) (Write gate ∷ Sync ∷ []) written))

  module _ (a b c : Option (List Event)) (k l m : Trace) (body : Tells (write_notes base many ++ Sync ∷ []) (write_notes base many ++ Sync ∷ []) a b k l) where
    -- all went well
    pub told_all : Tells (Write gate ∷ Sync ∷ []) (Write gate ∷ Sync ∷ []) b c l m → Does {T = Unit {0}} {E = Fault} (append_notes p epoch batch) a c k m (Ok tt)
    told_all opened = subst (λ (xs : List Note). Does {T = Unit {0}} {E = Fault} xs a c k m (Ok tt)) notes_are
        (does_all a c k m (run_notes base many gate) tt (tells_then (write_notes base many ++ Sync ∷ []) (write_notes base many ++ Sync ∷ []) (Write gate ∷ Sync ∷ []) (Write gate ∷ Sync ∷ []) a b c k l m body opened))

    -- the gate was refused
    pub told_refused : (f : Fault) → TellsFirst (Write gate ∷ Sync ∷ []) b c l m → Does {T = Unit {0}} {E = Fault} (append_notes p epoch batch) a c k m (Err f)
    told_refused f opened = subst (λ (xs : List Note). Does {T = Unit {0}} {E = Fault} xs a c k m (Err f)) notes_are
        (does_err a c k m (run_notes base many gate) f (first_behind a b c k l m (write_notes base many ++ Sync ∷ []) (Write gate ∷ Sync ∷ []) body opened))

    -- the gate was refused, or the sync behind it: its write was shown
    pub told_unsure : (failed : Failed) → WriteDoes gate b c l m (Err failed) → Tells (gate_notes p epoch batch) (gate_notes p epoch batch) a c k m ⊎ Tells (append_notes p epoch batch) (gate_notes p epoch batch) a c k m
    told_unsure failed (inl written) = inl (subst (λ (xs : List Note). Tells xs xs a c k m) gate_notes_are
        (tells_then (write_notes base many ++ Sync ∷ []) (write_notes base many ++ Sync ∷ []) (Write gate ∷ []) (Write gate ∷ []) a b c k l m body written))
    told_unsure failed (inr synced) = inr (subst (λ (xs : List Note). Tells xs (gate_notes p epoch batch) a c k m) notes_are (subst (λ (xs : List Note). Tells (run_notes base many gate) xs a c k m) gate_notes_are
        (tells_then (write_notes base many ++ Sync ∷ []) (write_notes base many ++ Sync ∷ []) (Write gate ∷ Sync ∷ []) (Write gate ∷ []) a b c k l m body synced)))
