-- A new desk by other names of its epoch, batches and clients.
use Rattle.std.proofs.Common.{◌≡◌, ◌∙◌, ℕ, suc, List, ap}
use Rattle.ob_base.specs.declared.params.Params.{Params}
use Rattle.ob_desk.specs.Desk.{new_desk, setup_of}

pub new_same : (p : Params) (a e l m : ℕ) (xs ys : List ℕ) → a ≡ suc e → l ≡ m → xs ≡ ys → new_desk (setup_of p) a l xs ≡ new_desk (setup_of p) (suc e) m ys
new_same p a e l m xs ys epoch left clients = ap (λ n. new_desk (setup_of p) n l xs) epoch ∙ (ap (λ n. new_desk (setup_of p) (suc e) n xs) left ∙ ap (new_desk (setup_of p) (suc e) m) clients)
