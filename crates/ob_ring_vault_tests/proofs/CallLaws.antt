-- Lists of calls that a vault takes.
use Rattle.std.specs.Prelude.{◌≡◌, ℕ, suc, ◌+◌, ◌-◌, ◌<◌, ◌≤◌, false, List, ◌∷◌, map, drop, take, length, All, slice_index}
use Rattle.std.proofs.Common.{get_or, sym, ap, ◌∙◌, subst, arith, ⊎_elim}
use Rattle.std.proofs.lemmas.Bool.{cases_eq}
use Rattle.std.proofs.lemmas.List.{drop_more, get_or-map, take_all}
use Rattle.std.proofs.lemmas.List.Elements.{All-more}
use Rattle.ob_base.specs.declared.params.Params.{Params}
use Rattle.ob_base.specs.declared.value.Write.{Write}
use Rattle.ob_plain_serial.specs.declared.calls.Request.{Request}
use Rattle.ob_plain_serial.specs.declared.calls.Request.TheVariants as request
use Rattle.ob_serial.specs.Vaults.{VaultCounts, counts_next}
use Rattle.ob_plain_serial.specs.VaultRuns.{MayServe, MayServeAll, call_of, served}

-- ---- keys of writes

pub low_more : (keys : ℕ) (ws : List Write) (i : ℕ) (w : Write) → i < length ws → w ≡ get_or ws i w → w.key < keys → All (λ x. x.key < keys) (take i ws) → All (λ x. x.key < keys) (take (i + 1) ws)
low_more keys ws i w lt is low all = All-more (λ (x : Write). x.key < keys) ws i w lt all (subst (λ (x : Write). x.key < keys) is low)

pub low_all : (keys : ℕ) (ws : List Write) (i : ℕ) → length ws ≤ i → All (λ x. x.key < keys) (take i ws) → All (λ x. x.key < keys) ws
low_all keys ws i le all = subst (λ (xs : List Write). All (λ x. x.key < keys) xs) (take_all i ws le) all

key_at : (ws : List Write) (i : ℕ) (w : Write) → i < length ws → w ≡ get_or ws i w → slice_index (map (λ x. x.key) ws) i ≡ w.key
key_at ws i w lt is = get_or-map (λ (x : Write). x.key) ws i w 0 lt ∙ ap (λ (x : Write). x.key) (sym is)

pub rising_more : (ws : List Write) (i : ℕ) (a b : Write) → 1 ≤ i → i < length ws → a ≡ get_or ws (i - 1) a → b ≡ get_or ws i b → a.key < b.key
    → ((k : ℕ) → k + 1 < i → slice_index (map (λ x. x.key) ws) k < slice_index (map (λ x. x.key) ws) (k + 1))
    → (k : ℕ) → k + 1 < i + 1 → slice_index (map (λ x. x.key) ws) k < slice_index (map (λ x. x.key) ws) (k + 1)
rising_more ws i a b some lt is_a is_b less before k le = ⊎_elim
    (λ (e : k + 1 ≡ i).
    let low : slice_index (map (λ x. x.key) ws) k ≡ a.key = ap (λ n. slice_index (map (λ x. x.key) ws) n) (omega (arith, e)) ∙ key_at ws (i - 1) a (omega (arith, lt)) is_a in
    let high : slice_index (map (λ x. x.key) ws) (k + 1) ≡ b.key = ap (λ n. slice_index (map (λ x. x.key) ws) n) e ∙ key_at ws i b lt is_b in
    omega (arith, low, high, less))
    (λ (ne : k + 1 ≡ i → ⊥). before k (omega (arith, le, ne)))
    (cases_eq (k + 1) i)

-- ---- the next call of a list

abbrev pub serving : ℕ → ℕ → VaultCounts
serving epoch left = record { epoch = epoch; left = left; spent = false }

rest_taken : (p : Params) (left left' : ℕ) (x : Request) (rest : List Request) → ((epoch : ℕ) → (counts_next p.batches (serving epoch left) (call_of x) (served (call_of x))).left ≡ left')
    → ((epoch : ℕ) → MayServeAll p (serving epoch left') rest) → (epoch : ℕ) → MayServeAll p (counts_next p.batches (serving epoch left) (call_of x) (served (call_of x))) rest
rest_taken p left left' (request.Fetch asks) rest is all epoch = subst (λ n. MayServeAll p (serving epoch n) rest) (sym (is epoch)) (all epoch)
rest_taken p left left' (request.End writes) rest is all epoch = subst (λ n. MayServeAll p (serving (suc epoch) n) rest) (sym (is epoch)) (all (suc epoch))

pub next_taken : (p : Params) (left left' : ℕ) (x : Request) (xs : List Request) (i : ℕ) → i < length xs → x ≡ get_or xs i x → ((epoch : ℕ) → MayServe p (serving epoch left) x)
    → ((epoch : ℕ) → (counts_next p.batches (serving epoch left) (call_of x) (served (call_of x))).left ≡ left')
    → ((epoch : ℕ) → MayServeAll p (serving epoch left') (drop (i + 1) xs)) → (epoch : ℕ) → MayServeAll p (serving epoch left) (drop i xs)
next_taken p left left' x xs i lt is may left_is all epoch =
    subst (λ (l : List Request). MayServeAll p (serving epoch left) l) (sym (drop_more xs i x lt ∙ ap (λ y. y ∷ drop (i + 1) xs) (sym is))) (may epoch, rest_taken p left left' x (drop (i + 1) xs) left_is all epoch)

-- of a vault with these counts
pub all_taken : (p q : Params) (v : VaultCounts) (left : ℕ) (xs : List Request) → q ≡ p → left ≡ v.left → v.spent ≡ false → ((epoch : ℕ) → MayServeAll p (serving epoch left) xs) → MayServeAll q v xs
all_taken p q v left xs same is serves may = subst (λ (r : Params). MayServeAll r v xs) (sym same) (subst (λ (w : VaultCounts). MayServeAll p w xs) (λ i. record { epoch = v.epoch; left = is i; spent = sym serves i }) (may v.epoch))
