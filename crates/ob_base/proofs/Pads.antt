-- Bytes copied over the front of 64 zeros are padded.
use Rattle.std.proofs.Common.{ℕ, ◌-◌, ◌≤◌, List, ◌++◌, drop, length, arith, length-append, ◌∙◌}
use Rattle.std.specs.Prelude.{replicate}
use Rattle.std.proofs.lemmas.List.{drop-replicate, length-replicate}
use Rattle.std.proofs.Math.Seq.{drop-append_seam}
use Rattle.ob_base.specs.Padded.{IsPadded}

pub padded_over : (bytes : List ℕ) → length bytes ≤ 64 → IsPadded (bytes ++ drop (length bytes) (replicate 64 0)) (length bytes)
padded_over bytes few = record {
  within = few;
  room = let zero : ℕ = 0 in rw (length-append, drop-replicate {X = ℕ} (length bytes) 64 0) (rw (length-replicate {A = ℕ} (64 - length bytes) 0) (omega arith));
  zeros = drop-append_seam bytes _ ∙ drop-replicate {X = ℕ} (length bytes) 64 0;
}
