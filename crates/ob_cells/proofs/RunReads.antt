-- A run of cells as far as it is read.
use Rattle.std.proofs.Common.{◌≡◌, ⊎_elim, ℕ, zero, suc, ◌+◌, ◌*◌, ◌<◌, ◌≤◌, ◌^◌, List, Option, Some, None, Result, Ok, Err, [], length, get_or, refl, sym, ap, ◌∙◌, subst, arith, below_more}
use Rattle.std.specs.Prelude.{IsSomeAnd}
use Rattle.ob_base.specs.declared.fault.Damaged.{Damaged}
use Rattle.ob_base.specs.declared.fault.Fault.{Fault}
use Rattle.ob_base.specs.declared.fault.Fault.TheVariants.{Memory, Usage, BadScript, BadParams, NotStore, Damaged as Broken, StoreFault, StashFull, Worn, SourceFault, SinkFault}
use Rattle.ob_base.specs.LittleEndian.{with_part}
use Rattle.ob_seal.specs.declared.keys.Keys.{Keys}
use Rattle.ob_seal.specs.declared.sealer.Opened.{Opened}
use Rattle.ob_seal.specs.Damage.{IsDamage, IsExpected, IsWrongTag, IsWrongSeal}
use Rattle.ob_seal.specs.Pieces.{onward, piece}
use Rattle.ob_seal.specs.Seals.{sealed, identity_bytes}
use Rattle.ob_seal.proofs.PieceLaws.{length-piece}
use Rattle.ob_seal.proofs.Spelling.{sealed_same, sealed_parts}
use Rattle.ob_cells.specs.declared.run.Identity.{Identity}
use Rattle.ob_store.specs.Disk.{Image}
use Rattle.ob_cells.specs.Runs.{IsRun, run_at}
use Rattle.ob_cells.specs.Reads.{IsOpenedCell, IsNextRead, expected_at, IsFirstDamage, IsRunRead, IsRunOpened, ReadsBack}
use Rattle.ob_cells.proofs.PieceParts.{piece_same, piece_other}

zero_on : (n : ℕ) → n + 0 ≡ n
zero_on n = omega arith

onward_none : (n : ℕ) → n < 2 ^ 64 → onward n 0 ≡ n
onward_none n lt = omega arith

-- the seal behind the first one's
expected_behind : (g n i : ℕ) → 0 < i → Some (g, onward n i) ≡ expected_at g n i
expected_behind g n zero some = absurd (omega arith)
expected_behind g n (suc i) some = refl

module _ (keys : Keys) (base : ℕ) (cells : ℕ → List ℕ) where
  -- the first cell
  pub run_first : (bytes : List ℕ) (opened : Opened) → 0 < length bytes → IsOpenedCell keys base (cells 0) opened
      → IsRun keys base 1 (record { generation = opened.generation; number = opened.number }) (λ i. piece i (with_part bytes 0 opened.plain)) cells
  run_first bytes opened some is = record {
    generation_fits = is.generation_fits;
    number_fits = is.number_fits;
    sealed_so = λ i lt. at_first i lt;
  }
    where
      here : cells 0 ≡ sealed keys (base + 0) opened.generation (onward opened.number 0) (piece 0 (with_part bytes 0 opened.plain))
      here = is.spelled ∙ ap (λ c. sealed keys c opened.generation opened.number opened.plain) (sym (zero_on base)) ∙ ap (λ n. sealed keys (base + 0) opened.generation n opened.plain) (sym (onward_none opened.number is.number_fits))
          ∙ ap (λ (l : List ℕ). sealed keys (base + 0) opened.generation (onward opened.number 0) l) (sym (piece_same 0 bytes opened.plain is.whole (omega arith)))

      at_first : (i : ℕ) → i < 1 → cells i ≡ sealed keys (base + i) opened.generation (onward opened.number i) (piece i (with_part bytes 0 opened.plain))
      at_first zero lt = here
      at_first (suc i) lt = absurd (omega arith)

  -- one cell more
  pub run_more : (i : ℕ) (first : Identity) (bytes : List ℕ) (opened : Opened) → 96 * i ≤ length bytes → IsRun keys base i first (λ j. piece j bytes) cells
      → IsExpected (Some (first.generation, onward first.number i)) opened.generation opened.number → IsOpenedCell keys (base + i) (cells i) opened
      → IsRun keys base (i + 1) first (λ j. piece j (with_part bytes (96 * i) opened.plain)) cells
  run_more i first bytes opened le run same is =
      let made = with_part bytes (96 * i) opened.plain in
      record {
        generation_fits = run.generation_fits;
        number_fits = run.number_fits;
        sealed_so = below_more (λ j. cells j ≡ sealed keys (base + j) first.generation (onward first.number j) (piece j made)) i
            (λ j lt. run.sealed_so j lt ∙ ap (λ (l : List ℕ). sealed keys (base + j) first.generation (onward first.number j) l) (sym (piece_other i j bytes opened.plain lt le)))
            (is.spelled ∙ ap (λ (e : ℕ × ℕ). sealed keys (base + i) e.0 e.1 opened.plain) (sym same)
            ∙ ap (λ (l : List ℕ). sealed keys (base + i) first.generation (onward first.number i) l) (sym (piece_same i bytes opened.plain is.whole le)));
      }

  module _ (many : ℕ) where
    pub damaged_first : (d : Damaged) → 0 < many → IsDamage keys base None (cells 0) d → IsFirstDamage keys base many cells d
    damaged_first d some breaks = record {
      at = 0;
      within = some;
      first = record { generation = 0; number = 0 };
      plain = λ i. piece i (cells i);
      whole = λ i lt. absurd (omega arith);
      earlier = record { generation_fits = omega arith; number_fits = omega arith; sealed_so = λ i lt. absurd (omega arith) };
      breaks = subst (λ (c : ℕ). IsDamage keys c None (cells 0) d) (sym (zero_on base)) breaks;
    }

    pub damaged_more : (i : ℕ) (first : Identity) (bytes : List ℕ) (d : Damaged) → 0 < i → i < many → IsRun keys base i first (λ j. piece j bytes) cells
        → IsDamage keys (base + i) (Some (first.generation, onward first.number i)) (cells i) d → IsFirstDamage keys base many cells d
    damaged_more i first bytes d some lt run breaks = record {
      at = i;
      within = lt;
      first = first;
      plain = λ j. piece j bytes;
      whole = λ j _. length-piece j bytes;
      earlier = run;
      breaks = subst (λ (e : Option (ℕ × ℕ)). IsDamage keys (base + i) e (cells i) d) (expected_behind first.generation first.number i some) breaks;
    }

    -- a cell that breaks a rule stops the reading
    stopped : (cell : ℕ) (expected : Option (ℕ × ℕ)) (bytes plain : List ℕ) (f : Fault) → ((d : Damaged) → IsDamage keys cell expected bytes d → IsFirstDamage keys base many cells d)
        → IsNextRead keys cell expected bytes (Err f) → IsRunRead keys base many cells plain (Err f)
    stopped cell expected bytes plain (Broken at check kept computed) so read = so _ read
    stopped cell expected bytes plain Memory so read = tt
    stopped cell expected bytes plain Usage so read = tt
    stopped cell expected bytes plain (BadScript line) so read = tt
    stopped cell expected bytes plain (BadParams field) so read = tt
    stopped cell expected bytes plain NotStore so read = tt
    stopped cell expected bytes plain (StoreFault unsure) so read = tt
    stopped cell expected bytes plain (StashFull left) so read = tt
    stopped cell expected bytes plain (Worn number) so read = tt
    stopped cell expected bytes plain SourceFault so read = tt
    stopped cell expected bytes plain SinkFault so read = tt

    pub stopped_first : (plain : List ℕ) (f : Fault) → 0 < many → IsNextRead keys base None (cells 0) (Err f) → IsRunRead keys base many cells plain (Err f)
    stopped_first plain f some read = stopped base None (cells 0) plain f (λ d. damaged_first d some) read

    pub stopped_more : (i : ℕ) (first : Identity) (bytes plain : List ℕ) (f : Fault) → 0 < i → i < many → IsRun keys base i first (λ j. piece j bytes) cells
        → IsNextRead keys (base + i) (Some (first.generation, onward first.number i)) (cells i) (Err f) → IsRunRead keys base many cells plain (Err f)
    stopped_more i first bytes plain f some lt run read =
        stopped (base + i) (Some (first.generation, onward first.number i)) (cells i) plain f (λ d. damaged_more i first bytes d some lt run) read

-- ---- as the calls say it

pub run_first_at : (keys : Keys) (base : ℕ) (image : Image) (bytes : List ℕ) (opened : Opened) (made : List ℕ) → made ≡ with_part bytes 0 opened.plain → 0 < length bytes → IsOpenedCell keys base (image base) opened
    → IsRun keys base 1 (record { generation = opened.generation; number = opened.number }) (λ i. piece i made) (run_at base image)
run_first_at keys base image bytes opened made is some opens =
    subst (λ (l : List ℕ). IsRun keys base 1 (record { generation = opened.generation; number = opened.number }) (λ i. piece i l) (run_at base image)) (sym is)
    (run_first keys base (run_at base image) bytes opened some (subst (λ (c : ℕ). IsOpenedCell keys base (image c) opened) (sym (zero_on base)) opens))

pub run_more_at : (keys : Keys) (base : ℕ) (cells : ℕ → List ℕ) (i : ℕ) (first : Identity) (bytes made : List ℕ) (opened : Opened) (seal : ℕ × ℕ) → made ≡ with_part bytes (96 * i) opened.plain → 96 * i ≤ length bytes
    → seal ≡ (first.generation, onward first.number i) → IsRun keys base i first (λ j. piece j bytes) cells
    → IsExpected (Some seal) opened.generation opened.number × IsOpenedCell keys (base + i) (cells i) opened → IsRun keys base (i + 1) first (λ j. piece j made) cells
run_more_at keys base cells i first bytes made opened seal is le seal_is run read =
    subst (λ (l : List ℕ). IsRun keys base (i + 1) first (λ j. piece j l) cells) (sym is) (run_more keys base cells i first bytes opened le run (sym seal_is ∙ read.0) read.1)

pub stopped_first_at : (keys : Keys) (base : ℕ) (image : Image) (many : ℕ) (plain : List ℕ) (f : Fault) → 0 < many → IsNextRead keys base None (image base) (Err f) → IsRunRead keys base many (run_at base image) plain (Err f)
stopped_first_at keys base image many plain f some read =
    stopped_first keys base (run_at base image) many plain f some (subst (λ (c : ℕ). IsNextRead keys base None (image c) (Err f)) (sym (zero_on base)) read)

pub stopped_more_at : (keys : Keys) (base : ℕ) (cells : ℕ → List ℕ) (many i : ℕ) (first : Identity) (bytes plain : List ℕ) (f : Fault) (seal : ℕ × ℕ) → 0 < i → i < many
    → seal ≡ (first.generation, onward first.number i) → IsRun keys base i first (λ j. piece j bytes) cells → IsNextRead keys (base + i) (Some seal) (cells i) (Err f) → IsRunRead keys base many cells plain (Err f)
stopped_more_at keys base cells many i first bytes plain f seal some lt seal_is run read =
    stopped_more keys base cells many i first bytes plain f some lt run (subst (λ (e : ℕ × ℕ). IsNextRead keys (base + i) (Some e) (cells i) (Err f)) seal_is read)

-- ---- of cells in a list

module _ (keys : Keys) (base : ℕ) (cells : List (List ℕ)) where
  abbrev in_list : ℕ → List ℕ
  in_list i = get_or cells i []

  pub opens_first : (bytes cell : List ℕ) (opened : Opened) (made : List ℕ) → cell ≡ get_or cells 0 [] → made ≡ with_part bytes 0 opened.plain → 0 < length bytes
      → opened.generation < 2 ^ 64 → opened.number < 2 ^ 64 → length opened.plain ≡ 96 → cell ≡ sealed keys base opened.generation opened.number opened.plain
      → IsRun keys base 1 (record { generation = opened.generation; number = opened.number }) (λ i. piece i made) (λ i. get_or cells i [])
  opens_first bytes cell opened made at is some hg hn long spelled =
      subst (λ (l : List ℕ). IsRun keys base 1 (record { generation = opened.generation; number = opened.number }) (λ i. piece i l) in_list) (sym is)
      (run_first keys base in_list bytes opened some (record { generation_fits = hg; number_fits = hn; whole = long; spelled = sym at ∙ spelled }))

  pub opens_more : (i : ℕ) (first : Identity) (bytes cell made : List ℕ) (opened : Opened) (seal : ℕ × ℕ) → cell ≡ get_or cells i [] → made ≡ with_part bytes (96 * i) opened.plain → 96 * i ≤ length bytes
      → seal ≡ (first.generation, onward first.number i) → IsRun keys base i first (λ j. piece j bytes) (λ j. get_or cells j [])
      → opened.generation < 2 ^ 64 → opened.number < 2 ^ 64 → length opened.plain ≡ 96 → cell ≡ sealed keys (base + i) opened.generation opened.number opened.plain → IsExpected (Some seal) opened.generation opened.number
      → IsRun keys base (i + 1) first (λ j. piece j made) (λ j. get_or cells j [])
  opens_more i first bytes cell made opened seal at is le seal_is run hg hn long spelled same =
      run_more_at keys base in_list i first bytes made opened seal is le seal_is run (same, record { generation_fits = hg; number_fits = hn; whole = long; spelled = sym at ∙ spelled })

  pub breaks_first : (many : ℕ) (cell : List ℕ) (d : Damaged) → 0 < many → cell ≡ get_or cells 0 [] → IsDamage keys base None cell d → IsFirstDamage keys base many (λ i. get_or cells i []) d
  breaks_first many cell d some at breaks = damaged_first keys base in_list many d some (subst (λ (l : List ℕ). IsDamage keys base None l d) at breaks)

  pub breaks_more : (many i : ℕ) (first : Identity) (bytes cell : List ℕ) (d : Damaged) (seal : ℕ × ℕ) → 0 < i → i < many → cell ≡ get_or cells i []
      → seal ≡ (first.generation, onward first.number i) → IsRun keys base i first (λ j. piece j bytes) (λ j. get_or cells j []) → IsDamage keys (base + i) (Some seal) cell d
      → IsFirstDamage keys base many (λ j. get_or cells j []) d
  breaks_more many i first bytes cell d seal some lt at seal_is run breaks =
      damaged_more keys base in_list many i first bytes d some lt run
      (subst (λ (e : ℕ × ℕ). IsDamage keys (base + i) (Some e) (get_or cells i []) d) seal_is (subst (λ (l : List ℕ). IsDamage keys (base + i) (Some seal) l d) at breaks))

-- the same cells have the same run
pub run_alike : (keys : Keys) (base many : ℕ) (a b : ℕ → List ℕ) (plain : List ℕ) (r : Result Identity Fault) → a ≡ b → IsRunRead keys base many a plain r → IsRunRead keys base many b plain r
run_alike keys base many a b plain r same read = subst (λ (cells : ℕ → List ℕ). IsRunRead keys base many cells plain r) same read

-- ---- what was written is read again

module _ (keys : Keys) (base many : ℕ) (cells written : ℕ → List ℕ) (generation number : ℕ) (hg : generation < 2 ^ 64) (hn : number < 2 ^ 64)
    (whole : (i : ℕ) → i < many → length (written i) ≡ 96)
    (so : (i : ℕ) → i < many → cells i ≡ sealed keys (base + i) generation (onward number i) (written i)) where
  -- a cell of another run over the same cells
  cell_same : (first : Identity) (plain : ℕ → List ℕ) (n i : ℕ) → IsRun keys base n first plain cells → length (plain i) ≡ 96 → i < n → i < many
      → (first.generation ≡ generation) × (onward first.number i ≡ onward number i) × (plain i ≡ written i)
  cell_same first plain n i run long lt le =
      sealed_same keys (base + i) first.generation generation (onward first.number i) (onward number i) (plain i) (written i)
      run.generation_fits hg (omega arith) (omega arith) (long ∙ sym (whole i le)) (sym (run.sealed_so i lt) ∙ so i le)

  pub first_same : (first : Identity) (plain : ℕ → List ℕ) (n : ℕ) → IsRun keys base n first plain cells → length (plain 0) ≡ 96 → 0 < n → 0 < many → (first.generation ≡ generation) × (first.number ≡ number)
  first_same first plain n run long lt le =
      let same = cell_same first plain n 0 run long lt le in
      (same.0, sym (onward_none first.number run.number_fits) ∙ same.1 ∙ onward_none number hn)

  not_other : (i : ℕ) (first : Identity) (plain : ℕ → List ℕ) (d : Damaged) → i < many → ((j : ℕ) → j < i → length (plain j) ≡ 96) → IsRun keys base i first plain cells
      → IsSomeAnd (expected_at first.generation first.number i) (λ e. IsWrongSeal keys (base + i) (identity_bytes e.0 e.1) (cells i) d) → ⊥
  not_other zero first plain d lt long run other = absurd other
  not_other (suc i) first plain d lt long run other =
      let same = first_same first plain (suc i) run (long 0 (omega arith)) (omega arith) (omega arith) in
      let parts = sealed_parts keys (base + suc i) generation (onward number (suc i)) (cells (suc i)) (written (suc i)) (whole (suc i) lt) (so (suc i) lt) in
      let expected : identity_bytes first.generation (onward first.number (suc i)) ≡ identity_bytes generation (onward number (suc i)) =
      ap (λ g. identity_bytes g (onward first.number (suc i))) same.0 ∙ ap (λ n. identity_bytes generation (onward n (suc i))) same.1 in
      other.1.differs (parts.1 ∙ sym expected)

  not_damaged : (d : Damaged) → IsFirstDamage keys base many cells d → ⊥
  not_damaged d damage =
      let parts = sealed_parts keys (base + damage.at) generation (onward number damage.at) (cells damage.at) (written damage.at) (whole damage.at damage.within) (so damage.at damage.within) in
      ⊎_elim (λ (tag : IsWrongTag keys (base + damage.at) (cells damage.at) d). tag.differs parts.0)
      (λ other. not_other damage.at damage.first damage.plain d damage.within damage.whole damage.earlier other)
      damage.breaks

  pub read_same : (read : List ℕ) (result : Result Identity Damaged) → 0 < many → IsRunOpened keys base many cells read result
      → (result ≡ Ok (record { generation = generation; number = number })) × ((i : ℕ) → i < many → piece i read ≡ written i)
  read_same read (Err d) some damage = absurd (not_damaged d damage)
  read_same read (Ok first) some run =
      let same = first_same first (λ i. piece i read) many run (length-piece 0 read) some some in
      (ap Ok (identity_is first generation number same.0 same.1), λ i lt. (cell_same first (λ j. piece j read) many i run (length-piece i read) lt lt).2)
    where
      identity_is : (first : Identity) (g n : ℕ) → first.generation ≡ g → first.number ≡ n → first ≡ record { generation = g; number = n }
      identity_is first g n a b = rw (← a, ← b) refl

pub reads_back : ReadsBack
reads_back keys base many generation number written cells read result hg hn some whole so opened = read_same keys base many cells written generation number hg hn whole so read result some opened
