-- Calls behind one another: a chain of them, each client's own, and what they tell.
use Rattle.std.proofs.Common.{◌≡◌, ℕ, false, cond, List, [], ◌∷◌, ◌++◌, refl, sym, ap, ◌∙◌, subst}
use Rattle.std.specs.List.{All}
use Rattle.std.proofs.lemmas.Bool.{ne_eqb}
use Rattle.std.proofs.lemmas.List.Elements.{All-head, All-tail, filter-append}
use Rattle.ob_desk.specs.Desk as desk
use Rattle.ob_desk.specs.Desk.{DeskState, Call, Reply}
use Rattle.ob_session.specs.Steps.{Leads, IsOwn}
use Rattle.ob_session.specs.Clients.{Told, told_after, told_from, told_of, is_of, said_by}

pub leads_join : (a : DeskState) (steps : List (Call × Reply)) (b : DeskState) (more : List (Call × Reply)) (c : DeskState) → Leads a steps b → Leads b more c → Leads a (steps ++ more) c
leads_join a [] b more c is rest = subst (λ (x : DeskState). Leads x more c) is rest
leads_join a (step ∷ steps) b more c (mid, may, one, first) rest = (mid, may, one, leads_join mid steps b more c first rest)

pub said_append : (c : ℕ) (xs ys : List (Call × Reply)) → said_by c (xs ++ ys) ≡ said_by c xs ++ said_by c ys
said_append c xs ys = filter-append (λ (s : Call × Reply). is_of c s.0) xs ys

-- another client's calls are none of this one's
not_of : (c e : ℕ) (call : Call) (reply : Reply) → (e ≡ c → ⊥) → IsOwn e (call, reply) → is_of c call ≡ false
not_of c e (desk.Begin number) reply other own = ne_eqb number c (λ is. other (sym own ∙ is))
not_of c e (desk.GetKey x k) reply other own = ne_eqb x.client c (λ is. other (sym own ∙ is))
not_of c e (desk.Poll x) reply other own = ne_eqb x.client c (λ is. other (sym own ∙ is))
not_of c e (desk.Write x k value) reply other own = ne_eqb x.client c (λ is. other (sym own ∙ is))
not_of c e (desk.Commit x) reply other own = ne_eqb x.client c (λ is. other (sym own ∙ is))
not_of c e (desk.Abort x) reply other own = ne_eqb x.client c (λ is. other (sym own ∙ is))
not_of c e (desk.Settled x) reply other own = ne_eqb x.client c (λ is. other (sym own ∙ is))
not_of c e (desk.SignOff number) reply other own = ne_eqb number c (λ is. other (sym own ∙ is))
not_of c e (desk.Stop f) reply other own = refl
not_of c e desk.IsStopped reply other own = refl
not_of c e desk.Looks reply other own = absurd own
not_of c e (desk.Unsure f) reply other own = absurd own
not_of c e desk.TakeBatch reply other own = absurd own
not_of c e (desk.Deliver keys values) reply other own = absurd own
not_of c e desk.Close reply other own = absurd own
not_of c e (desk.Publish epoch left) reply other own = absurd own

pub other_said : (c e : ℕ) (steps : List (Call × Reply)) → (e ≡ c → ⊥) → All (IsOwn e) steps → said_by c steps ≡ []
other_said c e [] other own = refl
other_said c e (step ∷ steps) other own =
    ap (λ b. cond b (step ∷ said_by c steps) (said_by c steps)) (not_of c e step.0 step.1 other (All-head (IsOwn e) step steps own)) ∙ other_said c e steps other (All-tail (IsOwn e) step steps own)

pub told_from-append : (told : List Told) (xs ys : List (Call × Reply)) → told_from told (xs ++ ys) ≡ told_from (told_from told xs) ys
told_from-append told [] ys = refl
told_from-append told (x ∷ xs) ys = told_from-append (told_after told x) xs ys

-- what is told behind one call more
pub told_push : (said : List (Call × Reply)) (s : Call × Reply) → told_of (said ++ s ∷ []) ≡ told_after (told_of said) s
told_push said s = told_from-append [] said (s ∷ [])
