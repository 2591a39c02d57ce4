use Rattle.std.proofs.Common.{ℕ, List, ◌++◌, replicate, ◌∙◌, ap}
use Rattle.std.specs.List.{flat_map}
use Rattle.std.specs.Int.{w32, to_le_bytes}
use Rattle.ob_base.specs.LittleEndian.{with_part}
use Rattle.ob_start.specs.Heads.{head_mark, head_plain, numbers_of}
use Rattle.ob_start.proofs.heads.head_cell.Goals as goal

pub returns : goal.returns
unfolding head_mark head_plain
returns g c =
    c.stamp.ensures
    ∙ ap (λ (l : List ℕ). l ++ g.T.Stamper.tag c.args.stamper.now 0 l)
    (c.put_numbers.ensures ∙ ap (λ (l : List ℕ). with_part l 12 (flat_map (λ n. to_le_bytes w32 n) (numbers_of c.args.params.now))) (c.put.ensures ∙ ap (λ (l : List ℕ). with_part (replicate 112 0) 0 l) c.mark.ensures))
