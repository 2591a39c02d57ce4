-- There is an image with all that an end writes.
use Rattle.std.specs.Prelude.{◌≡◌, ◌≢◌, ◌<◌, ◌≤◌, ℕ, suc, ◌+◌, ◌-◌, ◌*◌, ◌/◌, ◌%◌, ◌==◌, ◌&&◌, Bool, true, false, if◌then◌else◌, nat_lt, List, [], length}
use Rattle.std.proofs.Common.{arith, refl, sym, ap, ◌∙◌, inl, inr, ⊎_elim, subst}
use Rattle.std.proofs.lemmas.Bool.{cases_lt, cases_eq, false≢true, le-ltb, lt-ltb, ltb-true, eqb-true, eq-eqb}
use Rattle.std.proofs.lemmas.Nat.{div-mul-add, mod-mul-add}
use Rattle.std.proofs.Math.Nat.{div-add-mod, mod-lt}
use Rattle.ob_base.specs.declared.params.Params.{Params}
use Rattle.ob_base.specs.Tree.{buckets, width}
use Rattle.ob_base.specs.Layout.{Region, LogArea, CheckArea, Home, Lies, start_of, size_of, record_cells, checkpoint_cells, check_cell, log_gate, slot_cell}
use Rattle.ob_base.proofs.LayoutLaws.{regions_apart, log_lies, slot_lies}
use Rattle.ob_store.specs.Disk.{Image}
use Rattle.ob_seal.specs.declared.keys.Keys.{Keys}
use Rattle.ob_seal.specs.Pieces.{onward, piece}
use Rattle.ob_seal.specs.Seals.{sealed}
use Rattle.ob_twin.specs.Bodies.{open_gate}
use Rattle.ob_tables.specs.Version.{Version, rank_at}
use Rattle.ob_tables.specs.Buckets.{version_at}
use Rattle.ob_tables.specs.Spelling.{checkpoint_bytes}
use Rattle.ob_schedule.specs.Paths.{is_one_of}
use Rattle.ob_stand.proofs.Planned.{index_of_rank}
use Rattle.ob_stand.specs.EndImages.{EndsExist, end_image, home_then, is_in, plain_of_index, slot_then}
use Rattle.ob_stand.specs.Ends.{RingEnd, IsEndOf}
use Rattle.ob_stand.specs.Spare.{Spare, SameButIn}
use Rattle.ob_stand.specs.Stands.{RingStanding, cell_at}
use Rattle.ob_stand.proofs.FormatLaws.{else_so, nothing_shut, then_so}

-- ---- tests of regions

is_in-yes : (p : Params) (r : Region) (c : ℕ) → Lies p r c → is_in p r c ≡ true
is_in-yes p r c lies = else_so (nat_lt c (start_of p r)) false (nat_lt c (start_of p r + size_of p r)) (le-ltb c (start_of p r) lies.from) ∙ lt-ltb c (start_of p r + size_of p r) lies.to

is_in-lies : (p : Params) (r : Region) (c : ℕ) → is_in p r c ≡ true → Lies p r c
is_in-lies p r c is = ⊎_elim
    (λ (low : c < start_of p r). absurd (false≢true (sym (then_so (nat_lt c (start_of p r)) false (nat_lt c (start_of p r + size_of p r)) (lt-ltb c (start_of p r) low)) ∙ is)))
    (λ (from : start_of p r ≤ c). record {
      from = from;
      to = ltb-true c (start_of p r + size_of p r) (sym (else_so (nat_lt c (start_of p r)) false (nat_lt c (start_of p r + size_of p r)) (le-ltb c (start_of p r) from)) ∙ is);
    })
    (cases_lt c (start_of p r))

in_no : (p : Params) (r : Region) (c : ℕ) (b : Bool) → is_in p r c ≡ b → (Lies p r c → ⊥) → is_in p r c ≡ false
in_no p r c true is out = absurd (out (is_in-lies p r c is))
in_no p r c false is out = is

is_in-no : (p : Params) (r : Region) (c : ℕ) → (Lies p r c → ⊥) → is_in p r c ≡ false
is_in-no p r c out = in_no p r c (is_in p r c) refl out

both : (a b : Bool) → a ≡ true → b ≡ true → a && b ≡ true
both true true x y = refl
both true false x y = absurd (false≢true y)
both false b x y = absurd (false≢true x)

first_of : (a b : Bool) → a && b ≡ true → a ≡ true
first_of true b x = refl
first_of false b x = absurd (false≢true x)

second_of : (a b : Bool) → a && b ≡ true → b ≡ true
second_of true b x = x
second_of false b x = absurd (false≢true x)

home_of : (x y : ℕ) → Home x ≡ Home y → x ≡ y
home_of x y is = cc

module _ (keys : Keys) (p : Params) (s : RingStanding) (end : RingEnd) (image : Image) (follows : IsEndOf p s end) where
  abbrev now : Image
  now = end_image keys p s end image

  abbrev at : ℕ → Version
  at u = version_at end.content.versions u

  abbrev check_then : ℕ → List ℕ
  check_then c = sealed keys c s.generation (onward 0 (c - check_cell p (suc s.epoch % 2) 0)) (piece (c - check_cell p (suc s.epoch % 2) 0) (checkpoint_bytes p (suc s.epoch) end.content))

  abbrev past_homes : ℕ → List ℕ
  past_homes c = if is_in p (Home 1) c then home_then keys p end image 1 c else image c

  abbrev past_check : ℕ → List ℕ
  past_check c = if is_in p (Home 0) c then home_then keys p end image 0 c else past_homes c

  abbrev past_log : ℕ → List ℕ
  past_log c = if is_in p (CheckArea (suc s.epoch % 2)) c then check_then c else past_check c

  log_at : (c : ℕ) → Lies p (LogArea (s.epoch % 2)) c → now c ≡ []
  log_at c lies = then_so (is_in p (LogArea (s.epoch % 2)) c) [] (past_log c) (is_in-yes p (LogArea (s.epoch % 2)) c lies)

  off_log : (c : ℕ) → (Lies p (LogArea (s.epoch % 2)) c → ⊥) → now c ≡ past_log c
  off_log c out = else_so (is_in p (LogArea (s.epoch % 2)) c) [] (past_log c) (is_in-no p (LogArea (s.epoch % 2)) c out)

  off_check : (c : ℕ) → (Lies p (LogArea (s.epoch % 2)) c → ⊥) → (Lies p (CheckArea (suc s.epoch % 2)) c → ⊥) → now c ≡ past_check c
  off_check c out far = off_log c out ∙ else_so (is_in p (CheckArea (suc s.epoch % 2)) c) (check_then c) (past_check c) (is_in-no p (CheckArea (suc s.epoch % 2)) c far)

  -- ---- elsewhere

  -- a cell of a home that isn't spare is as it was
  home_kept : (h c : ℕ) → (Spare p s c → ⊥) → Lies p (Home h) c → (b : Bool) → (is_one_of end.order ((c - start_of p (Home h)) / width p) && (at ((c - start_of p (Home h)) / width p)).home == h) ≡ b → home_then keys p end image h c ≡ image c
  home_kept h c out lies false is = else_so (is_one_of end.order ((c - start_of p (Home h)) / width p) && (at ((c - start_of p (Home h)) / width p)).home == h) _ (image c) is
  home_kept h c out lies true is =
      let on : is_one_of end.order ((c - start_of p (Home h)) / width p) ≡ true = first_of (is_one_of end.order ((c - start_of p (Home h)) / width p)) ((at ((c - start_of p (Home h)) / width p)).home == h) is in
      let home : (at ((c - start_of p (Home h)) / width p)).home ≡ h = eqb-true (at ((c - start_of p (Home h)) / width p)).home h (second_of (is_one_of end.order ((c - start_of p (Home h)) / width p)) ((at ((c - start_of p (Home h)) / width p)).home == h) is) in
      let some : 0 < width p = (let d = p.in_range.some_dummies in omega arith) in
      let low : (c - start_of p (Home h)) % width p < width p = mod-lt (c - start_of p (Home h)) some in
      let whole : width p * ((c - start_of p (Home h)) / width p) + (c - start_of p (Home h)) % width p ≡ c - start_of p (Home h) = div-add-mod (c - start_of p (Home h)) (width p) in
      let from = lies.from in
      let there : c ≡ slot_cell p h ((c - start_of p (Home h)) / width p) ((c - start_of p (Home h)) % width p) = omega arith in
      let turned : h ≡ 1 - (version_at s.content.versions ((c - start_of p (Home h)) / width p)).home = sym home ∙ follows.homes ((c - start_of p (Home h)) / width p) on in
      absurd (out (inr (inr (record {
        bucket = (c - start_of p (Home h)) / width p;
        slot = (c - start_of p (Home h)) % width p;
        bucket_low = follows.within ((c - start_of p (Home h)) / width p) on;
        slot_low = low;
        is = there ∙ ap (λ x. slot_cell p x ((c - start_of p (Home h)) / width p) ((c - start_of p (Home h)) % width p)) turned;
      }))))

  homes_kept : (c : ℕ) → (Spare p s c → ⊥) → (b : Bool) → is_in p (Home 1) c ≡ b → past_homes c ≡ image c
  homes_kept c out true is = then_so (is_in p (Home 1) c) (home_then keys p end image 1 c) (image c) is ∙ home_kept 1 c out (is_in-lies p (Home 1) c is) _ refl
  homes_kept c out false is = else_so (is_in p (Home 1) c) (home_then keys p end image 1 c) (image c) is

  rest_kept : (c : ℕ) → (Spare p s c → ⊥) → (b : Bool) → is_in p (Home 0) c ≡ b → past_check c ≡ image c
  rest_kept c out true is = then_so (is_in p (Home 0) c) (home_then keys p end image 0 c) (past_homes c) is ∙ home_kept 0 c out (is_in-lies p (Home 0) c is) _ refl
  rest_kept c out false is = else_so (is_in p (Home 0) c) (home_then keys p end image 0 c) (past_homes c) is ∙ homes_kept c out (is_in p (Home 1) c) refl

  elsewhere : SameButIn (Spare p s) now image
  elsewhere c out = off_check c (λ l. out (inl l)) (λ l. out (inr (inl l))) ∙ rest_kept c out (is_in p (Home 0) c) refl

  -- ---- what is written

  -- a cell of a home is none of the log's and the checkpoint's
  in_home : (h c : ℕ) → h < 2 → Lies p (Home h) c → now c ≡ past_check c
  in_home h c lt lies = off_check c
      (λ l. regions_apart p (Home h) (LogArea (s.epoch % 2)) c lt (omega arith) (λ x. cc) lies l)
      (λ l. regions_apart p (Home h) (CheckArea (suc s.epoch % 2)) c lt (omega arith) (λ x. cc) lies l)

  home_at : (h c : ℕ) → h < 2 → Lies p (Home h) c → now c ≡ home_then keys p end image h c
  home_at h c lt lies = ⊎_elim
      (λ (zeroth : h ≡ 0). in_home h c lt lies ∙ subst (λ x. past_check c ≡ home_then keys p end image x c) (sym zeroth)
      (then_so (is_in p (Home 0) c) (home_then keys p end image 0 c) (past_homes c) (is_in-yes p (Home 0) c (subst (λ x. Lies p (Home x) c) zeroth lies))))
      (λ (ne : h ≢ 0). (
      let first : h ≡ 1 = omega arith in
      let there : Lies p (Home 1) c = subst (λ x. Lies p (Home x) c) first lies in
      let not_zeroth : Lies p (Home 0) c → ⊥ = λ l. regions_apart p (Home 1) (Home 0) c (omega arith) (omega arith) (λ x. (let y : 1 ≡ 0 = home_of 1 0 x in omega arith)) there l in
      in_home h c lt lies
      ∙ else_so (is_in p (Home 0) c) (home_then keys p end image 0 c) (past_homes c) (is_in-no p (Home 0) c not_zeroth)
      ∙ subst (λ x. past_homes c ≡ home_then keys p end image x c) (sym first) (then_so (is_in p (Home 1) c) (home_then keys p end image 1 c) (image c) (is_in-yes p (Home 1) c there))))
      (cases_eq h 0)

  slot_sealed : (u j : ℕ) → is_one_of end.order u ≡ true → j < width p → now (cell_at p u (at u) j) ≡ sealed keys (cell_at p u (at u) j) (at u).generation (onward (at u).base (rank_at (at u) j)) (end.slots u j)
  slot_sealed u j on lj =
      let lu : u < buckets p = follows.within u on in
      let o = follows.obeys.versions u lu in
      let lr : j < length (at u).ranks = omega (arith, o.slots.ranks) in
      let low : rank_at (at u) j < width p = (let r = o.ranks.low j lr in omega (arith, o.slots.ranks)) in
      let back : cell_at p u (at u) j - start_of p (Home (at u).home) ≡ u * width p + rank_at (at u) j = omega arith in
      let bucket : (cell_at p u (at u) j - start_of p (Home (at u).home)) / width p ≡ u = ap (λ x. x / width p) back ∙ div-mul-add u (width p) (rank_at (at u) j) low in
      let slot : (cell_at p u (at u) j - start_of p (Home (at u).home)) % width p ≡ rank_at (at u) j = ap (λ x. x % width p) back ∙ mod-mul-add u (width p) (rank_at (at u) j) low in
      home_at (at u).home (cell_at p u (at u) j) o.home (slot_lies p (at u).home u (rank_at (at u) j) lu low)
      ∙ ap (λ x. slot_then keys end image (at u).home x ((cell_at p u (at u) j - start_of p (Home (at u).home)) % width p) (cell_at p u (at u) j)) bucket
      ∙ ap (λ x. slot_then keys end image (at u).home u x (cell_at p u (at u) j)) slot
      ∙ then_so (is_one_of end.order u && (at u).home == (at u).home) _ (image (cell_at p u (at u) j)) (both (is_one_of end.order u) ((at u).home == (at u).home) on (eq-eqb (at u).home (at u).home refl))
      ∙ ap (λ x. sealed keys (cell_at p u (at u) j) (at u).generation (onward (at u).base (rank_at (at u) j)) (plain_of_index end u x)) (index_of_rank (at u) j o.ranks lr)

  check_sealed : (i : ℕ) → i < checkpoint_cells p → now (check_cell p (suc s.epoch % 2) 0 + i) ≡ sealed keys (check_cell p (suc s.epoch % 2) 0 + i) s.generation (onward 0 i) (piece i (checkpoint_bytes p (suc s.epoch) end.content))
  check_sealed i lt =
      let lies : Lies p (CheckArea (suc s.epoch % 2)) (check_cell p (suc s.epoch % 2) 0 + i) = record { from = omega arith; to = omega arith } in
      let back : check_cell p (suc s.epoch % 2) 0 + i - check_cell p (suc s.epoch % 2) 0 ≡ i = omega arith in
      off_log (check_cell p (suc s.epoch % 2) 0 + i) (λ l. regions_apart p (CheckArea (suc s.epoch % 2)) (LogArea (s.epoch % 2)) (check_cell p (suc s.epoch % 2) 0 + i) (omega arith) (omega arith) (λ x. cc) lies l)
      ∙ then_so (is_in p (CheckArea (suc s.epoch % 2)) (check_cell p (suc s.epoch % 2) 0 + i)) (check_then (check_cell p (suc s.epoch % 2) 0 + i)) (past_check (check_cell p (suc s.epoch % 2) 0 + i)) (is_in-yes p (CheckArea (suc s.epoch % 2)) (check_cell p (suc s.epoch % 2) 0 + i) lies)
      ∙ ap (λ x. sealed keys (check_cell p (suc s.epoch % 2) 0 + i) s.generation (onward 0 x) (piece x (checkpoint_bytes p (suc s.epoch) end.content))) back

  gate_shut : (b : ℕ) → b < p.batches → now (log_gate p (suc (suc s.epoch) % 2) b) ≢ open_gate
  gate_shut b lb is =
      let area : suc (suc s.epoch) % 2 ≡ s.epoch % 2 = omega arith in
      let lies : Lies p (LogArea (s.epoch % 2)) (log_gate p (suc (suc s.epoch) % 2) b) = subst (λ a. Lies p (LogArea (s.epoch % 2)) (log_gate p a b)) (sym area) (log_lies p (s.epoch % 2) b (record_cells p) lb (omega arith)) in
      nothing_shut (sym (log_at (log_gate p (suc (suc s.epoch) % 2) b) lies) ∙ is)

pub ends_exist : EndsExist
ends_exist keys p s end image follows small long = record {
  elsewhere = elsewhere keys p s end image follows;
  written = record {
    slots = λ u on j lj free. record { long = long u j; spelled = slot_sealed keys p s end image follows u j on lj };
    checkpoint = record {
      first = record { generation = s.generation; number = 0 };
      known = omega arith;
      run = record { generation_fits = small; number_fits = omega arith; sealed_so = check_sealed keys p s end image follows };
    };
    shut = gate_shut keys p s end image follows;
  };
}
