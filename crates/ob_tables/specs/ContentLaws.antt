-- The laws of a checkpoint's text.
use Rattle.std.specs.Prelude.{◌≡◌, ◌<◌, ℕ, ◌^◌, length}
use Rattle.ob_base.specs.declared.params.Params.{Params}
use Rattle.ob_base.specs.Layout.{checkpoint_len}
use Rattle.ob_tables.specs.Content.{Content, Obeys}
use Rattle.ob_tables.specs.Spelling.{checkpoint_bytes}

-- equal texts have equal epochs and contents
abbrev pub ContentOnce : Type 0
ContentOnce = (p : Params) (d e : ℕ) (b c : Content) → d < 2 ^ 64 → e < 2 ^ 64 → Obeys p b → Obeys p c
    → checkpoint_bytes p d b ≡ checkpoint_bytes p e c → (d ≡ e) × (b ≡ c)

-- the text has the length that the layout gives it
abbrev pub ContentLength : Type 0
ContentLength = (p : Params) (e : ℕ) (c : Content) → Obeys p c → length (checkpoint_bytes p e c) ≡ checkpoint_len p
