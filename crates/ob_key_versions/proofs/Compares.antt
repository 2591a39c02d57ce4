-- Comparisons of numbers.
use Rattle.std.proofs.Common.{◌≡◌, ℕ, ◌<◌, ◌≤◌, false, sym, ap, ⊎_elim, arith}
use Rattle.std.specs.Ordering.{nat_cmp, is_gt}
use Rattle.std.specs.Cmp.{nat_cmp_is}
use Rattle.std.specs.declared.cmp.Ordering.TheVariants.{Less, Equal}
use Rattle.std.proofs.lemmas.Bool.{cases_eq}

pub not_gt_from_le : (a b : ℕ) → a ≤ b → is_gt (nat_cmp a b) ≡ false
not_gt_from_le a b l = ⊎_elim
    (λ same. sym (ap is_gt (nat_cmp_is a b Equal same)))
    (λ other. sym (ap is_gt (nat_cmp_is a b Less (let l : a < b = omega arith in l))))
    (cases_eq a b)
