-- A runner of the tests that signs off: its call may be made, and its step keeps what it knows.
use Rattle.std.proofs.Common.{◌≡◌, ◌∙◌, ℕ, true, false, cond, [], ◌∷◌, ◌++◌, refl, sym, ap, inr, eq-eqb, append-nil}
use Rattle.std.proofs.lemmas.Option.{none-some}
use Rattle.ob_desk.specs.Desk as desk
use Rattle.ob_desk.specs.Desk.{DeskState, Call, Reply, MayCall}
use Rattle.ob_session.specs.Clients.{told_of, last_of, said_by, has_signed_off, stands_after, IsOneCall}
use Rattle.ob_session.specs.Agreeing.{Agrees}
use Rattle.ob_session.specs.declared.runner.Step.TheVariants as stands
use Rattle.ob_hall.specs.Passes.{Steps}
use Rattle.ob_hall.specs.Testing.{Visits}
use Rattle.ob_session.proofs.Between.{may_sign_off}

pub may_visit : (d : DeskState) (client : ℕ) (said : Steps) → Visits client false said → Agrees d client said → MayCall d (desk.SignOff client)
may_visit d client said none agrees = may_sign_off d client said agrees (ap has_signed_off none) (λ t is. absurd (none-some t (sym (ap (λ (s : Steps). last_of (told_of s)) none) ∙ is)))

abbrev Bye : ℕ → Steps
Bye client = (desk.SignOff client, desk.Done) ∷ []

own_bye : (client : ℕ) → said_by client (Bye client) ≡ Bye client
own_bye client = ap (λ b. cond b (Bye client) []) (eq-eqb client client refl)

pub visited : (client : ℕ) (said : Steps) → Visits client false said → Visits client true (said ++ said_by client (Bye client))
visited client said none = ap (λ (s : Steps). s ++ said_by client (Bye client)) none ∙ own_bye client

pub visited_stands : (client : ℕ) (said : Steps) → Visits client false said → stands.Done ≡ stands_after (said ++ said_by client (Bye client))
visited_stands client said none = sym (ap stands_after (visited client said none))

pub gone_stays : (client : ℕ) (said : Steps) → Visits client true said → Visits client true (said ++ [])
gone_stays client said is = append-nil said ∙ is

pub gone_stands : (client : ℕ) (said : Steps) → Visits client true said → stands.Done ≡ stands_after (said ++ [])
gone_stands client said is = sym (ap stands_after (gone_stays client said is))

pub gone_one : (client : ℕ) (said : Steps) → Visits client true said → IsOneCall said []
gone_one client said is = inr (refl, ap has_signed_off is)
