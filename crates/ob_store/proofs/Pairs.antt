-- Time goes on for two disks as for each.
use Rattle.std.proofs.Common.{◌≡◌, inl, inr, ⊎_elim, ℕ, ◌+◌, ◌*◌, ◌/◌, ◌%◌, refl, ◌∙◌, ap, subst, arith}
use mathlib.Core.Path.{fun_ext}
use Rattle.std.proofs.lemmas.Bool.{cases_eq}
use Rattle.ob_store.specs.Disk.{Clock, NotAfter, Image, Disk}
use Rattle.ob_store.specs.Images.{Elapses}
use Rattle.ob_store.specs.Pair.{weave, evens, odds, paired}

woven_even : (a b : Clock) (part : ℕ) → part % 2 ≡ 0 → weave a b part ≡ a (part / 2)
woven_even a b part is = rw is refl

woven_odd : (a b : Clock) (part : ℕ) → part % 2 ≡ 1 → weave a b part ≡ b (part / 2)
woven_odd a b part is = rw is refl

at_even : (a b : Clock) (part : ℕ) → weave a b (2 * part) ≡ a part
at_even a b part =
    let zero_rest : (2 * part) % 2 ≡ 0 = omega arith in
    let half : (2 * part) / 2 ≡ part = omega arith in
    woven_even a b (2 * part) zero_rest ∙ ap a half

at_odd : (a b : Clock) (part : ℕ) → weave a b (2 * part + 1) ≡ b part
at_odd a b part =
    let one_rest : (2 * part + 1) % 2 ≡ 1 = omega arith in
    let half : (2 * part + 1) / 2 ≡ part = omega arith in
    woven_odd a b (2 * part + 1) one_rest ∙ ap b half

pub evens_before : (t a b : Clock) → NotAfter t (weave a b) → NotAfter (evens t) a
evens_before t a b le part = omega (arith, le (2 * part), at_even a b part)

pub odds_before : (t a b : Clock) → NotAfter t (weave a b) → NotAfter (odds t) b
odds_before t a b le part = omega (arith, le (2 * part + 1), at_odd a b part)

pub woven_before : (a b c d : Clock) → NotAfter a c → NotAfter b d → NotAfter (weave a b) (weave c d)
woven_before a b c d ac bd part =
    ⊎_elim
    (λ even. omega (arith, woven_even a b part even, woven_even c d part even, ac (part / 2)))
    (λ other. let odd : part % 2 ≡ 1 = omega arith in omega (arith, woven_odd a b part odd, woven_odd c d part odd, bd (part / 2)))
    (cases_eq (part % 2) 0)

pub elapses_both : (p q : Type 0) (a b c d : Disk) → Elapses a c → Elapses b d → Elapses (paired p a b) (paired q c d)
elapses_both p q a b c d first second t i le left = ⊎_elim
    (λ one. ⊎_elim (λ was. inl (inl was)) (λ now. inr (inl now)) (first (evens t) i (evens_before t a.moment b.moment le) one))
    (λ two. ⊎_elim (λ was. inl (inr was)) (λ now. inr (inr now)) (second (odds t) i (odds_before t a.moment b.moment le) two))
    left

pub kept_both : (p q : Type 0) (a b c d : Disk) → ((t : Clock) (i : Image) → NotAfter t a.moment → a.left_since t i → c.left_since t i) → ((t : Clock) (i : Image) → NotAfter t b.moment → b.left_since t i → d.left_since t i)
    → (t : Clock) (i : Image) → NotAfter t (paired p a b).moment → (paired p a b).left_since t i → (paired q c d).left_since t i
kept_both p q a b c d first second t i le left = ⊎_elim
    (λ one. inl (first (evens t) i (evens_before t a.moment b.moment le) one))
    (λ two. inr (second (odds t) i (odds_before t a.moment b.moment le) two))
    left

-- since the moment of both there is no other
pub only_now_both : (p : Type 0) (a b : Disk) → ((c : Image) → a.left_since a.moment c → a.may_leave c) → ((c : Image) → b.left_since b.moment c → b.may_leave c) → (c : Image)
    → (paired p a b).left_since (paired p a b).moment c → (paired p a b).may_leave c
only_now_both p a b one two c left =
    let first : evens (weave a.moment b.moment) ≡ a.moment = fun_ext (λ part. at_even a.moment b.moment part) in
    let second : odds (weave a.moment b.moment) ≡ b.moment = fun_ext (λ part. at_odd a.moment b.moment part) in
    ⊎_elim
    (λ was. inl (one c (subst (λ t. a.left_since t c) first was)))
    (λ was. inr (two c (subst (λ t. b.left_since t c) second was)))
    left
