-- What was written is read again.
use Rattle.std.specs.Prelude.{◌≡◌, ◌<◌, ◌≤◌, ◌⊎◌, ℕ, ◌+◌, ◌-◌, ◌*◌, ◌^◌, List, [], ◌++◌, map, take, drop, replicate, length, Option, Some, None, Result, Ok, Err}
use Rattle.std.specs.FinMap as finite
use Rattle.std.specs.Ordering.{nat_cmp}
use Rattle.std.specs.Cmp.{nat_cmp_total}
use Rattle.std.proofs.Common.{zero, suc, arith, refl, sym, ap, ◌∙◌, inl, inr, get_or, length-drop, length-take}
use Rattle.std.proofs.lemmas.Bool.{cases_lt}
use Rattle.std.proofs.lemmas.List.{ext_get_or, take-append-le, take_all}
use Rattle.std.proofs.lemmas.List.FromFn.{length-map-range_with_len, get_or-map-range_with_len}
use Rattle.ob_base.specs.declared.fault.Damaged.{Damaged}
use Rattle.ob_base.specs.declared.fault.Fault.{Fault}
use Rattle.ob_base.specs.declared.fault.Fault.TheVariants.{Memory, Usage, BadScript, BadParams, NotStore, Damaged as Broken, StoreFault, StashFull, Worn, SourceFault, SinkFault}
use Rattle.ob_base.specs.declared.params.Params.{Params}
use Rattle.ob_base.specs.Layout.{checkpoint_len, checkpoint_cells}
use Rattle.ob_base.specs.Tree.{buckets, width, below}
use Rattle.ob_base.proofs.LayoutLaws.{checkpoint_cells_hold}
use Rattle.ob_tables.specs.Buckets.{Buckets, version_at, no_version}
use Rattle.ob_tables.specs.Version.{Version, EMPTY, key_at}
use Rattle.ob_tables.proofs.SpellingLaws.{take_joined}
use Rattle.ob_tables.proofs.VersionLaws.{version_of}
use Rattle.ob_seal.specs.declared.keys.Keys.{Keys}
use Rattle.ob_seal.specs.Pieces.{piece}
use Rattle.ob_seal.proofs.PieceLaws.{length-piece, piece_next, piece_first}
use Rattle.ob_store.specs.Disk.{Image}
use Rattle.ob_tables.specs.declared.tables.Tables.{Tables}
use Rattle.ob_cells.specs.declared.run.Identity.{Identity}
use Rattle.ob_cells.specs.Reads.{IsFirstDamage}
use Rattle.ob_cells.specs.Rules.{first_broken, told_of}
use Rattle.ob_cells.specs.Runs.{run_at}
use Rattle.ob_cells.proofs.RunReads as runs
use Rattle.ob_tables.specs.Content.{Content, Obeys, content_of}
use Rattle.ob_tables.specs.Spelling.{checkpoint_bytes}
use Rattle.ob_tables.proofs.TextLaws.{content_length, fields_fit}
use Rattle.ob_check.specs.Fields.{number_in, rank_in, count_in}
use Rattle.ob_check.specs.ReadBack.{IsCheckRead, IsOpenedTo, IsRefused, IsReadFrom, IsRefusedFrom, IsContentRead, ReadsBack, epoch_in}
use Rattle.ob_check.specs.Reading.{content_in, entry_in, key_of, version_in, row_in}
use Rattle.ob_check.specs.Rules.{rules}
use Rattle.ob_check.specs.Written.{HoldsCheckpointFrom, area_of}
use Rattle.ob_check.proofs.BuildLaws.{told_content}
use Rattle.ob_check.proofs.PlaceLaws.{some_cell}
use Rattle.ob_check.proofs.TextReads.{number_of, holds_version, bucket_spelled, entry_stands, epoch_is, counter_is, count_is, rows_of, holds_row}
use Rattle.ob_check.proofs.TextRules.{used_are, rules_kept}
use Rattle.ob_check.proofs.VersionReads.{take_low, key_there}

-- ---- bytes with the same pieces

pub front_same : (k n : ℕ) (xs ys : List ℕ) → n ≤ length xs → n ≤ length ys → n ≤ 96 * k → ((i : ℕ) → i < k → piece i xs ≡ piece i ys) → take n xs ≡ take n ys
front_same zero n xs ys lx ly le each = let z : n ≡ 0 = omega arith in ap (λ m. take m xs) z ∙ sym (ap (λ m. take m ys) z)
front_same (suc k) n xs ys lx ly le each =
    let z : List ℕ = replicate 96 0 in
    let first : take 96 (xs ++ z) ≡ take 96 (ys ++ z) = sym (piece_first xs) ∙ each 0 (omega arith) ∙ piece_first ys in
    elim (cases_lt n 96) [
      | inl short ↦ sym (take-append-le n xs z lx) ∙ sym (take_low n 96 (xs ++ z) (omega arith)) ∙ ap (take n) first ∙ take_low n 96 (ys ++ z) (omega arith) ∙ take-append-le n ys z ly
      | inr far ↦ (
          let e : n ≡ 96 + (n - 96) = omega arith in
          let head : take 96 xs ≡ take 96 ys = sym (take-append-le 96 xs z (omega arith)) ∙ first ∙ take-append-le 96 ys z (omega arith) in
          let rest : take (n - 96) (drop 96 xs) ≡ take (n - 96) (drop 96 ys) = front_same k (n - 96) (drop 96 xs) (drop 96 ys) (omega (arith, length-drop 96 xs)) (omega (arith, length-drop 96 ys)) (omega arith)
          (λ i lt. sym (piece_next i xs) ∙ each (suc i) (omega arith) ∙ piece_next i ys) in
          ap (λ m. take m xs) e ∙ sym (take_joined 96 (n - 96) xs) ∙ ap (λ (l : List ℕ). l ++ take (n - 96) (drop 96 xs)) head ∙ ap (λ (l : List ℕ). take 96 ys ++ l) rest
          ∙ take_joined 96 (n - 96) ys ∙ ap (λ m. take m ys) (sym e))
    ]

-- ---- what a text tells is its content

key_back : (x : Option ℕ) → ((k : ℕ) → x ≡ Some k → k < EMPTY) → key_of (number_of x) ≡ x
key_back None low = refl
key_back (Some k) low = key_there k (let l : k < EMPTY = low k refl in λ e. absurd (omega arith))

pair_is : (a b : ℕ) (v w : List ℕ) → a ≡ b → v ≡ w → ◌≡◌ {A = ℕ × List ℕ} (a, v) (b, w)
pair_is a b v w e f = rw (e, f) refl

module _ (p : Params) (e : ℕ) (c : Content) (o : Obeys p c) where
  abbrev text : List ℕ
  text = checkpoint_bytes p e c

  version_read : (u : ℕ) → u < buckets p → version_in p text u ≡ version_at c.versions u
  version_read u h =
      let v : Version = version_at c.versions u in
      let holds = holds_version p text u v (bucket_spelled p e c o u h) in
      let slots = (o.versions u h).slots in
      let low = (fields_fit p c o u h).keys in
      let kn : length v.keys ≡ p.real = slots.keys in
      let rn : length v.ranks ≡ width p = slots.ranks in
      version_of (version_in p text u).home v.home (version_in p text u).generation v.generation (version_in p text u).base v.base
      (version_in p text u).keys v.keys (version_in p text u).ranks v.ranks (version_in p text u).used v.used holds.home holds.generation holds.base
      (ext_get_or None (version_in p text u).keys v.keys (length-map-range_with_len (λ j. key_of (number_in p text u j)) 0 p.real ∙ sym kn)
      (λ j lt. (let l : j < p.real = omega (arith, length-map-range_with_len (λ j. key_of (number_in p text u j)) 0 p.real) in
      get_or-map-range_with_len (λ j. key_of (number_in p text u j)) 0 p.real j j None l (omega arith) ∙ ap key_of (holds.numbers j l) ∙ key_back (key_at v j) (λ k is. low j k is))))
      (ext_get_or 0 (version_in p text u).ranks v.ranks (length-map-range_with_len (rank_in p text u) 0 (width p) ∙ sym rn)
      (λ i lt. (let l : i < width p = omega (arith, length-map-range_with_len (rank_in p text u) 0 (width p)) in get_or-map-range_with_len (rank_in p text u) 0 (width p) i i 0 l (omega arith) ∙ holds.ranks i l)))
      (sym (used_are p e c o u h))

  versions_read : map (version_in p text) (below (buckets p)) ≡ c.versions
  versions_read = ext_get_or no_version (map (version_in p text) (below (buckets p))) c.versions (length-map-range_with_len (version_in p text) 0 (buckets p) ∙ sym o.many)
      (λ u lt. (let l : u < buckets p = omega (arith, length-map-range_with_len (version_in p text) 0 (buckets p)) in get_or-map-range_with_len (version_in p text) 0 (buckets p) u u no_version l (omega arith) ∙ version_read u l))

  book_read : map (entry_in text) (below p.keys) ≡ c.book
  book_read = ext_get_or None (map (entry_in text) (below p.keys)) c.book (length-map-range_with_len (entry_in text) 0 p.keys ∙ sym o.book.many)
      (λ k lt. (let l : k < p.keys = omega (arith, length-map-range_with_len (entry_in text) 0 p.keys) in get_or-map-range_with_len (entry_in text) 0 p.keys k k None l (omega arith) ∙ (entry_stands p e c o k l).entry))

  rows_are : map (row_in p text) (below (count_in p text)) ≡ rows_of c
  rows_are =
      let count : count_in p text ≡ length (rows_of c) = count_is p e c o ∙ finite.len-entries c.rows in
      ext_get_or (0, []) (map (row_in p text) (below (count_in p text))) (rows_of c) (length-map-range_with_len (row_in p text) 0 (count_in p text) ∙ count)
      (λ i lt. (
      let l : i < count_in p text = omega (arith, length-map-range_with_len (row_in p text) 0 (count_in p text)) in
      let holds = holds_row p e c o i (omega arith) in
      get_or-map-range_with_len (row_in p text) 0 (count_in p text) i i (0, []) l (omega arith)
      ∙ pair_is (row_in p text i).0 (get_or (rows_of c) i (0, [])).0 (row_in p text i).1 (get_or (rows_of c) i (0, [])).1 holds.key holds.value))

  rows_read : finite.from_entries (map (row_in p text) (below (count_in p text))) ≡ c.rows
  rows_read = ap (λ (es : List (ℕ × List ℕ)). finite.from_entries {R = nat_cmp} es) rows_are
      ∙ finite.same_map nat_cmp_total finite.nat_cmp-IsAntisymmetric (finite.from_entries {R = nat_cmp} (rows_of c)) c.rows (λ q. finite.get-from_entries nat_cmp_total (rows_of c) q ∙ sym (finite.get-entries c.rows q))

  pub content_read : content_in p text ≡ c
  content_read = sym (told_content p text c.counter c.book c.versions c.rows (sym (counter_is p e c o)) (sym book_read) (sym versions_read) (sym rows_read))

-- ---- the law

module _ (keys : Keys) (p : Params) (e : ℕ) (c : Content) (generation first : ℕ) (image : Image) (he : e < 2 ^ 64) (hg : generation < 2 ^ 64) (hf : first < 2 ^ 64) (o : Obeys p c)
    (holds : HoldsCheckpointFrom keys p e c generation first image) where
  opened_is : (bytes : List ℕ) → IsOpenedTo keys p e image bytes → bytes ≡ checkpoint_bytes p e c
  opened_is bytes op =
      let back = runs.reads_back keys (area_of p e) (checkpoint_cells p) generation first (λ i. piece i (checkpoint_bytes p e c)) (run_at (area_of p e) image) op.plain (Ok op.first) hg hf (some_cell p)
      (λ i lt. length-piece i (checkpoint_bytes p e c)) holds op.run in
      let long : length (checkpoint_bytes p e c) ≡ checkpoint_len p = content_length p e c o in
      let front : length (take (checkpoint_len p) op.plain) ≡ checkpoint_len p = ap (λ (xs : List ℕ). length xs) op.front ∙ op.whole in
      sym op.front ∙ front_same (checkpoint_cells p) (checkpoint_len p) op.plain (checkpoint_bytes p e c) (omega (arith, length-take (checkpoint_len p) op.plain)) (omega arith) (checkpoint_cells_hold p) back.1
      ∙ take_all (checkpoint_len p) (checkpoint_bytes p e c) (omega arith)

  tables_read : (t : Tables Buckets) → IsReadFrom keys p e image t → content_of t ≡ c
  tables_read t read = read.accepted.told ∙ ap (content_in p) (opened_is read.bytes read.opened) ∙ content_read p e c o

  none≢some : {d : Damaged} → ◌≡◌ {A = Option Damaged} None (Some d) → ⊥
  none≢some e = cc

  err≢ok : {d : Damaged} {i : Identity} → ◌≡◌ {A = Result Identity Damaged} (Err d) (Ok i) → ⊥
  err≢ok e = cc

  refused_not : (d : Damaged) (bytes : List ℕ) → bytes ≡ checkpoint_bytes p e c → IsRefused p (area_of p e) e bytes d → ⊥
  refused_not d bytes is (inl other) = other.differs (ap epoch_in is ∙ epoch_is p e c he)
  refused_not d bytes is (inr broken) = none≢some (sym (ap (told_of (area_of p e)) (ap (λ (xs : List ℕ). first_broken (rules p xs)) is ∙ rules_kept p e c o)) ∙ broken.told_as)

  damaged_not : (d : Damaged) → IsFirstDamage keys (area_of p e) (checkpoint_cells p) (run_at (area_of p e) image) d ⊎ IsRefusedFrom keys p e image d → ⊥
  damaged_not d (inl damage) = err≢ok (runs.reads_back keys (area_of p e) (checkpoint_cells p) generation first (λ i. piece i (checkpoint_bytes p e c)) (run_at (area_of p e) image) [] (Err d) hg hf (some_cell p)
      (λ i lt. length-piece i (checkpoint_bytes p e c)) holds damage).0
  damaged_not d (inr refused) = refused_not d refused.bytes (opened_is refused.bytes refused.opened) refused.refused

  pub read_again : (result : Result (Tables Buckets) Fault) → IsCheckRead keys p e image result → IsContentRead c result
  read_again (Ok t) read = tables_read t read
  read_again (Err (Broken cell check kept computed)) read = damaged_not (record { cell = cell; check = check; kept = kept; computed = computed }) read
  read_again (Err Memory) read = tt
  read_again (Err Usage) read = tt
  read_again (Err (BadScript line)) read = tt
  read_again (Err (BadParams field)) read = tt
  read_again (Err NotStore) read = tt
  read_again (Err (StoreFault unsure)) read = tt
  read_again (Err (StashFull rows)) read = tt
  read_again (Err (Worn number)) read = tt
  read_again (Err SourceFault) read = tt
  read_again (Err SinkFault) read = tt

pub reads_back : ReadsBack
reads_back keys p e c generation first image result he hg hf o holds read = read_again keys p e c generation first image he hg hf o holds result read
