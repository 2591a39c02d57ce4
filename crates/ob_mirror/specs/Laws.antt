-- The laws of a store, for two that serve as one.
use Rattle.std.proofs.Common.{◌⊎◌, inl, inr, ⊎_elim}
use Rattle.ob_store.specs.Disk.{Disk, Image, Clock, NotAfter}
use Rattle.ob_mirror.specs.Mirrored.{woven_moments, even_moments, odd_moments}
use Rattle.ob_store.proofs.Pairs.{evens_before, odds_before, only_now_both}

module _ (a b : Disk) where
  pub counts_now_of_either : ((t : Clock) (c : Image) → NotAfter t a.moment → a.may_leave c → a.left_since t c) → ((t : Clock) (c : Image) → NotAfter t b.moment → b.may_leave c → b.left_since t c)
      → (t : Clock) (c : Image) → NotAfter t (woven_moments a.moment b.moment) → a.may_leave c ⊎ b.may_leave c → a.left_since (even_moments t) c ⊎ b.left_since (odd_moments t) c
  counts_now_of_either one two t c le left = ⊎_elim
      (λ l. inl (one _ c (evens_before t a.moment b.moment le) l))
      (λ r. inr (two _ c (odds_before t a.moment b.moment le) r))
      left

  pub only_now_of_either : ((c : Image) → a.left_since a.moment c → a.may_leave c) → ((c : Image) → b.left_since b.moment c → b.may_leave c) → (c : Image)
      → a.left_since (even_moments (woven_moments a.moment b.moment)) c ⊎ b.left_since (odd_moments (woven_moments a.moment b.moment)) c → a.may_leave c ⊎ b.may_leave c
  only_now_of_either one two c left = only_now_both (Unit {0}) a b one two c left

  pub includes_reads_of_first : (together : Type 0) → (a.tells → a.leaves → a.may_leave a.cells) → together × a.tells × b.tells → a.leaves × b.leaves → a.may_leave a.cells ⊎ b.may_leave a.cells
  includes_reads_of_first together one tells leaves = inl (one tells.1 leaves.0)
