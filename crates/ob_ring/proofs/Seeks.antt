-- Seeking the deepest bucket of a path that has room.
use Rattle.std.specs.Prelude.{◌≡◌, ℕ, ◌+◌, ◌-◌, ◌<◌, ◌≤◌, nat_lt, Bool, true, false, cond}
use Rattle.std.specs.declared.option.Option.TheVariants.{None, Some}
use Rattle.std.specs.List.{find}
use Rattle.std.proofs.Common.{suc, arith, refl, sym, ap, ◌∙◌}
use Rattle.std.proofs.lemmas.Bool.{and_from, and_left, and_right, lt-ltb, le-ltb}
use Rattle.ob_base.specs.declared.params.Params.{Params}
use Rattle.ob_base.specs.Tree.{bucket_of}
use Rattle.ob_ring.specs.Loops.{Sought}
use Rattle.ob_ring.specs.Passing.{has_room, asking_steps, upwards}

module _ (p : Params) (room : ℕ → Bool) (leaf n old now : ℕ) (s : Sought p room leaf n old now) where
  level_left : (m : ℕ) → m ≡ p.levels - n → n < p.levels + 1 → n + suc m ≡ p.levels + 1
  level_left m e h = omega arith

  pub sought_yes : (b : ℕ) → n < p.levels + 1 → b ≡ bucket_of p (p.levels - n) leaf → room b ≡ true →
      (Some b ≡ find room (upwards p leaf (p.levels + 1))) × (now + 2 ≡ old + asking_steps room (upwards p leaf (p.levels + 1)))
  sought_yes b h at on =
      let m : ℕ = p.levels - n in
      let here : room (bucket_of p m leaf) ≡ true = ap room (sym at) ∙ on in (
        ap (λ (x : ℕ). Some x) at ∙ sym (ap (λ (c : Bool). cond c (Some (bucket_of p m leaf)) (find room (upwards p leaf m))) here) ∙ s.found (suc m) (level_left m refl h),
        sym (ap (λ (c : Bool). now + cond c 2 (1 + asking_steps room (upwards p leaf m))) here) ∙ s.steps (suc m) (level_left m refl h),
      )

  pub sought_no : (b : ℕ) → n < p.levels + 1 → b ≡ bucket_of p (p.levels - n) leaf → room b ≡ false → Sought p room leaf (n + 1) old (now + 1)
  sought_no b h at off = record {
    found = λ m e. sym (ap (λ (c : Bool). cond c (Some (bucket_of p m leaf)) (find room (upwards p leaf m))) (here m (omega arith))) ∙ s.found (suc m) (omega arith);
    steps = λ m e. (let more : (now + 1) + asking_steps room (upwards p leaf m) ≡ now + (1 + asking_steps room (upwards p leaf m)) = omega arith in
        more ∙ sym (ap (λ (c : Bool). now + cond c 2 (1 + asking_steps room (upwards p leaf m))) (here m (omega arith))) ∙ s.steps (suc m) (omega arith));
  }
    where
      here : (m : ℕ) → m ≡ p.levels - n → room (bucket_of p m leaf) ≡ false
      here m e = ap (λ (k : ℕ). room (bucket_of p k leaf)) e ∙ ap room (sym at) ∙ off

  pub sought_end : n ≡ p.levels + 1 → (None ≡ find room (upwards p leaf (p.levels + 1))) × (now ≡ old + asking_steps room (upwards p leaf (p.levels + 1)))
  sought_end e = (s.found 0 (omega arith), (let none : now ≡ now + 0 = omega arith in none ∙ s.steps 0 (omega arith)))

pub room_is : (p : Params) (lifted : ℕ → Bool) (taken : ℕ → ℕ) (u : ℕ) → lifted u ≡ true → taken u < p.real → has_room p lifted taken u ≡ true
room_is p lifted taken u up h = and_from (lifted u) (nat_lt (taken u) p.real) up (lt-ltb (taken u) p.real h)

pub no_room : (p : Params) (lifted : ℕ → Bool) (taken : ℕ → ℕ) (u : ℕ) → p.real ≤ taken u → has_room p lifted taken u ≡ false
no_room p lifted taken u h = and_right (lifted u) (nat_lt (taken u) p.real) (le-ltb (taken u) p.real h)

pub not_lifted : (p : Params) (lifted : ℕ → Bool) (taken : ℕ → ℕ) (u : ℕ) → lifted u ≡ false → has_room p lifted taken u ≡ false
not_lifted p lifted taken u down = and_left (lifted u) (nat_lt (taken u) p.real) down
