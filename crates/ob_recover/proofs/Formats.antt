-- The public state of a new store.
use Rattle.std.specs.Prelude.{◌≡◌, ℕ, zero, suc, ◌+◌, ◌==◌, ◌&&◌, ◌||◌, Bool, true, false, [], map, replicate, slice_index_or}
use Rattle.std.specs.List.{count_by, range_with_len}
use Rattle.std.proofs.Common.{refl}
use Rattle.ob_base.specs.declared.params.Params.{Params}
use Rattle.ob_base.specs.Layout.{EpochTwin, GenerationTwin}
use Rattle.ob_base.specs.Tree.{buckets, width}
use Rattle.ob_tables.specs.Buckets.{no_version, version_at}
use Rattle.ob_tables.specs.Version.{Version}
use Rattle.ob_stand.specs.Counts.{marks_of}
use Rattle.ob_schedule.specs.Schedule.{gate_cell}
use Rattle.ob_stand.specs.Fresh.{Ranks, fresh_content, fresh_version}
use Rattle.ob_recover.specs.Known.{FormatIsPublic, format_gates, gates_open}

none_used : (n : ℕ) → count_by (λ b. b) (replicate n false) ≡ 0
none_used zero = refl
none_used (suc n) = none_used n

-- past the last bucket there is no version
item_or : (f : ℕ → Version) (P : Version → Type 0) → ((u : ℕ) → P (f u)) → P no_version → (a n u : ℕ) → P (slice_index_or (map f (range_with_len a n)) u no_version)
item_or f P each none a zero u = none
item_or f P each none a (suc n) zero = each a
item_or f P each none a (suc n) (suc u) = item_or f P each none (a + 1) n u

module _ (p : Params) (ranks : Ranks) where
  home_zero : (u : ℕ) → (version_at (fresh_content p ranks).versions u).home ≡ 0
  home_zero u = item_or (fresh_version p ranks) (λ v. v.home ≡ 0) (λ u. refl) refl 0 (buckets p) u

  none_marked : (u : ℕ) → marks_of (fresh_content p ranks) u ≡ 0
  none_marked u = item_or (fresh_version p ranks) (λ v. count_by (λ b. b) v.used ≡ 0) (λ u. none_used (width p)) refl 0 (buckets p) u

gate_case : (a b c d : Bool) → (((a && false) || (b && true)) || ((c && true) || (d && false))) ≡ (b || c)
gate_case true true c d = refl
gate_case true false true d = refl
gate_case true false false true = refl
gate_case true false false false = refl
gate_case false true c d = refl
gate_case false false true d = refl
gate_case false false false true = refl
gate_case false false false false = refl

format_open : (p : Params) (d : ℕ) → gates_open format_gates d ≡ ((d == gate_cell p GenerationTwin 1) || (d == gate_cell p EpochTwin 0))
format_open p d = gate_case (d == 2) (d == 4) (d == 6) (d == 8)

pub format_is_public : FormatIsPublic
format_is_public p ranks i = record {
  epoch = 0;
  homes = λ u. home_zero p ranks u i;
  counts = λ u. none_marked p ranks u i;
  counter = 0;
  gates = λ d. format_open p d i;
  leaves = [];
}
