use Rattle.std.specs.Prelude.{◌<◌, Bool, false, slice_index_or}
use Rattle.std.proofs.Common.{◌∙◌, List, length, ap, arith}
use Rattle.std.proofs.lemmas.List.{length-replicate, get_or-replicate}
use Rattle.ob_wants.proofs.TotalLaws.{in_place}
use Rattle.ob_wants.proofs.marks.marks_of.Goals as goal

pub returns : goal.returns
returns c = λ u lt.
    (let n = c.buckets.result in
    let none = c.deref_mut.ensures.value ∙ c.in_ok-marks.ensures.items_if_clones_equal (λ y one. one) in
    let within : u < n = omega (arith, lt, c.buckets.ensures.buckets) in
    ap (λ (ms : List Bool). slice_index_or ms u false) (in_place c.mark_all.new.marks _ _ (omega (arith, c.mark_all.ensures.same)))
    ∙ c.mark_all.ensures.more u (omega (arith, within, ap (λ (ms : List Bool). length ms) none, length-replicate n false)) (ap (λ (ms : List Bool). slice_index_or ms u false) none ∙ get_or-replicate n u false false within))
