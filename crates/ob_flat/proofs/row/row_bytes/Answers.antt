use Rattle.std.proofs.Common.{ℕ, List, [], ◌∷◌, ap, sym, ◌∙◌, length, replicate}
use Rattle.ob_base.specs.LittleEndian.{with_part}
use Rattle.ob_flat.specs.Rows.{row_bytes}
use Rattle.ob_flat.proofs.RowCells.{row_made}
use Rattle.ob_flat.proofs.row.row_bytes.Goals as goal

pub returns-in-Some-clause-bytes : goal.returns-in-Some-clause-bytes
returns-in-Some-clause-bytes c =
    let v = c.in-Some.value in
    c.put-in-Some.ensures ∙ ap (λ (l : List ℕ). with_part c.put.new.all 2 l) c.as_slice-bytes.ensures.bytes
    ∙ ap (λ (l : List ℕ). with_part l 2 v) (c.put.ensures ∙ ap (λ (l : List ℕ). with_part (replicate 96 0) 0 (1 ∷ length l ∷ [])) c.as_slice-bytes.ensures.bytes)
    ∙ row_made v c.as_slice-bytes.ensures.few ∙ sym (ap row_bytes c.in-Some.is)
