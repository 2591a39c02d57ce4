use Rattle.std.proofs.Common.{nat_lt, arith, rules, []}
use Rattle.std.proofs.lemmas.List.Sorted.{IsPartitionPoint-from_clause}
use Rattle.ob_tables.specs.Rows.{row_key_at}
use Rattle.ob_tables.proofs.RowLaws.{parted_by, le_of, lt_from}
use Rattle.ob_tables.proofs.rows.lesser.Goals as goal

pub returns : goal.returns
returns c =
    let point = IsPartitionPoint-from_clause (λ row. nat_lt row.0 c.args.k) c.args.rows.now c.partition_point.result c.partition_point.ensures.partitioned (parted_by c.args.k c.args.rows.now c.requires) (λ a r q k. search rules) in
    record {
      within = c.partition_point.ensures.bound;
      before = λ j h. lt_from (row_key_at c.args.rows.now j) c.args.k (point.0 j (0, []) (omega arith) h);
      after = λ j h l. le_of (row_key_at c.args.rows.now j) c.args.k (point.1 j (0, []) h l);
    }
