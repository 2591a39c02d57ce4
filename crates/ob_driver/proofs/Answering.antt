-- What holds of each answer, by what holds of its parts.
use Rattle.std.proofs.Common.{◌≡◌, ◌∙◌, sym, subst, Result, Ok, Err, IfOk, IfErr, OnOk, OnErr}
use Rattle.ob_driver.specs.declared.round.Round.{Round}
use Rattle.ob_driver.specs.declared.round.Round.TheVariants.{Acted, Rested, Over}

module _ {T E : Type 0} where
  pub if_ok_all : (result : Result T E) (P S : T → Type 0) (Q R : Type 0) → ((x : T) → P x → Q → R → S x) → IfOk result P → OnOk result Q → OnOk result R → IfOk result S
  if_ok_all (Ok x) P S Q R so p q r = so x p q r
  if_ok_all (Err e) P S Q R so p q r = tt

  pub on_ok_all : (result : Result T E) (P : T → Type 0) (Q R S : Type 0) → ((x : T) → P x → Q → R → S) → IfOk result P → OnOk result Q → OnOk result R → OnOk result S
  on_ok_all (Ok x) P Q R S so p q r = so x p q r
  on_ok_all (Err e) P Q R S so p q r = tt

  pub if_err_both : (result : Result T E) (P S : E → Type 0) (Q : Type 0) → ((e : E) → P e → Q → S e) → IfErr result P → OnErr result Q → IfErr result S
  if_err_both (Ok x) P S Q so p q = tt
  if_err_both (Err e) P S Q so p q = so e p q

  pub on_ok : (result : Result T E) (P S : Type 0) → (P → S) → OnOk result P → OnOk result S
  on_ok (Ok x) P S so p = so p
  on_ok (Err e) P S so p = tt

  pub if_err : (result : Result T E) (P S : E → Type 0) → ((e : E) → P e → S e) → IfErr result P → IfErr result S
  if_err (Ok x) P S so p = tt
  if_err (Err e) P S so p = so e p

  pub on_ok_both : (result : Result T E) (P Q S : Type 0) → (P → Q → S) → OnOk result P → OnOk result Q → OnOk result S
  on_ok_both (Ok x) P Q S so p q = so p q
  on_ok_both (Err e) P Q S so p q = tt

  -- an answer that can only be this one
  pub if_ok_at : (result : Result T E) (P : T → Type 0) (x : T) (Q : Type 0) → (Q → P x) → OnOk result Q → IfOk result (λ y. y ≡ x) → IfOk result P
  if_ok_at (Ok y) P x Q so q is = subst P (sym is) (so q)
  if_ok_at (Err e) P x Q so q is = tt

abbrev is_rested : Round → Type 0
is_rested Acted = ⊥
is_rested Rested = Unit {0}
is_rested Over = ⊥

abbrev is_acted : Round → Type 0
is_acted Acted = Unit {0}
is_acted Rested = ⊥
is_acted Over = ⊥

-- where nothing was done and something is left, or something was done, it isn't over
pub rested_never : (P : Type 0) → Rested ≡ Over → P
rested_never P over = absurd (subst is_rested over tt)

pub never_over : {E : Type 0} (result : Result Round E) (P : Type 0) → IfOk result (λ round. round ≡ Acted) → IfOk result (λ round. round ≡ Over → P)
never_over (Ok round) P acted = λ over. absurd (subst is_acted (sym acted ∙ over) tt)
never_over (Err e) P acted = tt
