-- The content that a checkpoint's bytes tell.
use Rattle.std.specs.Prelude.{ℕ, ◌+◌, ◌==◌, List, map, Option, if◌then◌else◌}
use Rattle.std.specs.declared.option.Option.TheVariants.{None, Some}
use Rattle.std.specs.Int.{w64}
use Rattle.std.specs.FinMap as finite
use Rattle.ob_base.specs.declared.params.Params.{Params}
use Rattle.ob_base.specs.LittleEndian.{field_at}
use Rattle.ob_base.specs.Tree.{buckets, width, below}
use Rattle.ob_tables.specs.Version.{Version, EMPTY}
use Rattle.ob_tables.specs.declared.entry.Entry.{Entry}
use Rattle.ob_tables.specs.Content.{Content}
use Rattle.ob_check.specs.Fields.{byte_at, entry_place, is_present, leaf_in, bucket_place, number_in, rank_in, mark_in, count_in, row_key_in, row_value_in}

abbrev pub entry_in : List ℕ → ℕ → Option Entry
entry_in bytes k =
    if is_present bytes k then Some (record { generation = field_at w64 bytes (entry_place k + 1); index = field_at w64 bytes (entry_place k + 9); leaf = leaf_in bytes k }) else None

-- the key that a number stands for
abbrev pub key_of : ℕ → Option ℕ
key_of number = if number == EMPTY then None else Some number

abbrev pub version_in : Params → List ℕ → ℕ → Version
version_in p bytes u = record {
  home = byte_at bytes (bucket_place p u);
  generation = field_at w64 bytes (bucket_place p u + 1);
  base = field_at w64 bytes (bucket_place p u + 9);
  keys = map (λ j. key_of (number_in p bytes u j)) (below p.real);
  ranks = map (rank_in p bytes u) (below (width p));
  used = map (λ i. mark_in p bytes u i == 1) (below (width p));
}

abbrev pub row_in : Params → List ℕ → ℕ → ℕ × List ℕ
row_in p bytes i = (row_key_in p bytes i, row_value_in p bytes i)

abbrev pub content_in : Params → List ℕ → Content
content_in p bytes = record {
  counter = field_at w64 bytes 8;
  book = map (entry_in bytes) (below p.keys);
  versions = map (version_in p bytes) (below (buckets p));
  rows = finite.from_entries (map (row_in p bytes) (below (count_in p bytes)));
}
