-- There is an image as a format leaves it.
use Rattle.std.specs.Prelude.{◌≡◌, ◌≢◌, ◌<◌, ◌≤◌, ℕ, ◌+◌, ◌-◌, ◌*◌, Bool, true, false, if◌then◌else◌, nat_lt, List, []}
use Rattle.std.proofs.Common.{arith, refl, sym, ap, ◌∙◌}
use Rattle.std.proofs.lemmas.Bool.{false≢true, le-ltb, lt-ltb}
use Rattle.ob_base.specs.declared.params.Params.{Params}
use Rattle.ob_base.specs.Tree.{width}
use Rattle.ob_base.specs.Layout.{LogArea, Lies, checkpoint_cells, record_cells, home_cells, check_cell, log_gate, slot_cell}
use Rattle.ob_base.proofs.Bounds.{cells_le}
use Rattle.ob_base.proofs.LayoutLaws.{log_lies}
use Rattle.ob_store.specs.Disk.{Image}
use Rattle.ob_seal.specs.declared.keys.Keys.{Keys}
use Rattle.ob_seal.specs.Pieces.{onward, piece}
use Rattle.ob_seal.specs.Seals.{sealed}
use Rattle.ob_twin.specs.Bodies.{open_gate}
use Rattle.ob_twin.specs.Keyed.{tagging}
use Rattle.ob_twin.specs.Register.{StandsAt}
use Rattle.ob_twin.proofs.Moves.{stamped-body, number-body}
use Rattle.ob_start.proofs.Spelling.{head_is}
use Rattle.ob_tables.specs.Version.{EMPTY}
use Rattle.ob_tables.specs.Spelling.{checkpoint_bytes, slot_bytes}
use Rattle.ob_stand.specs.Fresh.{Ranks, FormatsExist, fresh_content, format_image}

pub nothing_shut : [] ≢ open_gate
unfolding open_gate
nothing_shut is = cc

pub then_so : {X : Type 0} (b : Bool) (x y : X) → b ≡ true → (if b then x else y) ≡ x
then_so true x y is = refl
then_so false x y is = absurd (false≢true is)

pub else_so : {X : Type 0} (b : Bool) (x y : X) → b ≡ false → (if b then x else y) ≡ y
else_so true x y is = absurd (false≢true (sym is))
else_so false x y is = refl

module _ (keys : Keys) (p : Params) (ranks : Ranks) where
  abbrev image : Image
  image = format_image keys p ranks

  abbrev check_part : ℕ → List ℕ
  check_part c = sealed keys c 1 (onward (home_cells p) (c - check_cell p 0 0)) (piece (c - check_cell p 0 0) (checkpoint_bytes p 0 (fresh_content p ranks)))

  abbrev slot_part : ℕ → List ℕ
  slot_part c = sealed keys c 1 (c - slot_cell p 0 0 0) (slot_bytes EMPTY [])

  abbrev behind_logs : ℕ → List ℕ
  behind_logs c = if nat_lt c (slot_cell p 0 0 0) then check_part c else slot_part c

  past_first : (c : ℕ) → 9 ≤ c → image c ≡ (if nat_lt c (check_cell p 0 0) then [] else behind_logs c)
  past_first c le = else_so (nat_lt c 9) _ _ (le-ltb c 9 le)

  logs_empty : (c : ℕ) → 9 ≤ c → c < check_cell p 0 0 → image c ≡ []
  logs_empty c le lt = past_first c le ∙ then_so (nat_lt c (check_cell p 0 0)) _ _ (lt-ltb c (check_cell p 0 0) lt)

  past_logs : (c : ℕ) → check_cell p 0 0 ≤ c → image c ≡ behind_logs c
  past_logs c le = past_first c (omega arith) ∙ else_so (nat_lt c (check_cell p 0 0)) _ _ (le-ltb c (check_cell p 0 0) le)

  check_at : (c : ℕ) → check_cell p 0 0 ≤ c → c < slot_cell p 0 0 0 → image c ≡ check_part c
  check_at c le lt = past_logs c le ∙ then_so (nat_lt c (slot_cell p 0 0 0)) (check_part c) (slot_part c) (lt-ltb c (slot_cell p 0 0 0) lt)

  slot_at : (c : ℕ) → slot_cell p 0 0 0 ≤ c → image c ≡ slot_part c
  slot_at c le = past_logs c (omega arith) ∙ else_so (nat_lt c (slot_cell p 0 0 0)) (check_part c) (slot_part c) (le-ltb c (slot_cell p 0 0 0) le)

  generation_stands : StandsAt (tagging keys) 1 image 1
  generation_stands = record {
    small = omega arith;
    open_at = refl;
    stamped = stamped-body (tagging keys) 3 1;
    number = number-body (tagging keys) 3 1 (omega arith);
    other = λ opened. absurd (nothing_shut opened);
  }

  epoch_stands : StandsAt (tagging keys) 5 image 0
  epoch_stands = record {
    small = omega arith;
    open_at = refl;
    stamped = stamped-body (tagging keys) 5 0;
    number = number-body (tagging keys) 5 0 (omega arith);
    other = λ opened. absurd (nothing_shut opened);
  }

  piece_at : (i : ℕ) → i < checkpoint_cells p → image (check_cell p 0 0 + i) ≡ sealed keys (check_cell p 0 0 + i) 1 (onward (home_cells p) i) (piece i (checkpoint_bytes p 0 (fresh_content p ranks)))
  piece_at i lt =
      let back : check_cell p 0 0 + i - check_cell p 0 0 ≡ i = omega arith in
      check_at (check_cell p 0 0 + i) (omega arith) (omega arith)
      ∙ ap (λ n. sealed keys (check_cell p 0 0 + i) 1 (onward (home_cells p) n) (piece n (checkpoint_bytes p 0 (fresh_content p ranks)))) back

  slot_is : (u slot : ℕ) → image (slot_cell p 0 u slot) ≡ sealed keys (slot_cell p 0 u slot) 1 (u * width p + slot) (slot_bytes EMPTY [])
  slot_is u slot =
      let back : slot_cell p 0 u slot - slot_cell p 0 0 0 ≡ u * width p + slot = omega arith in
      slot_at (slot_cell p 0 u slot) (omega arith) ∙ ap (λ n. sealed keys (slot_cell p 0 u slot) 1 n (slot_bytes EMPTY [])) back

  gate_shut : (b : ℕ) → b < p.batches → image (log_gate p 1 b) ≢ open_gate
  gate_shut b lt is =
      let lies : Lies p (LogArea 1) (log_gate p 1 b) = log_lies p 1 b (record_cells p) lt (omega arith) in
      let from = lies.from in
      let to = lies.to in
      nothing_shut (sym (logs_empty (log_gate p 1 b) (omega arith) (omega arith)) ∙ is)

pub formats_exist : FormatsExist
formats_exist keys p ranks = record {
  head = head_is keys 1 p;
  generation = generation_stands keys p ranks;
  epoch = epoch_stands keys p ranks;
  checkpoint = record {
    first = record { generation = 1; number = home_cells p };
    known = omega arith;
    run = record { generation_fits = omega arith; number_fits = omega (arith, cells_le p); sealed_so = piece_at keys p ranks };
  };
  slots = λ u slot lu ls. slot_is keys p ranks u slot;
  shut = gate_shut keys p ranks;
}
