-- Private: that the versions and marks that the code keeps are those of the works.
use Rattle.std.specs.Prelude.{ℕ, ◌≡◌, List}
use Rattle.std.specs.Option.{option_map}
use Rattle.std.specs.declared.option.Option.{Option}
use Rattle.std.specs.declared.option.Option.TheVariants.{Some}
use Rattle.ob_order.specs.Works.{Work, version, mark}
use Rattle.ob_order.specs.Chains.{IsMark}
use Rattle.ob_key_versions.specs.declared.chain.Link.{Link}

-- these links, by key and ticket, are the versions with their marks, and these the marks of the values that the epoch began with
pub record IsIndex (ws : List Work) (links : ℕ → ℕ → Option Link) (base : ℕ → ℕ) : Type 0 where
  pub versions : (k t : ℕ) → option_map (λ l. l.value) (links k t) ≡ version ws t k
  pub marks : (k t : ℕ) (l : Link) → links k t ≡ Some l → IsMark l.mark t (mark ws k t)
  pub bases : (k : ℕ) → base k ≡ mark ws k 0
