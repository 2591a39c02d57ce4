use Rattle.std.proofs.Common.{◌≡◌, ◌<◌, is_some, true, nat_eq, nat_cmp, Result, Ok, Err, OnOk, is_ok, sym, ap, ◌∙◌, subst}
use Rattle.std.specs.FinMap as finite
use Rattle.std.specs.HashMap.{spare}
use Rattle.std.proofs.lemmas.Bool.{false≢true}
use Rattle.std.specs.Map.{lookup}
use Rattle.std.specs.Option.{option_copied_mut}
use Rattle.ob_queue.proofs.Given.{one_put}
use Rattle.ob_queue.proofs.bases.put.Goals as goal

pub returns-in-Some-clause-given : goal.returns-in-Some-clause-given
returns-in-Some-clause-given c =
    let found : is_some (lookup (nat_eq c.args.key) c.args.bases.now.entries) ≡ true = ap is_some (sym c.get_mut.ensures.value) ∙ ap (λ r. is_some (option_copied_mut r)) c.in-Some.is in
    one_put c.args.bases.now.entries _ c.args.key c.args.value ((c.get_mut.follows.holds c.args.value).3 found).0

ok_holds : {T E : Type 0} (r : Result T E) (P : Type 0) → is_ok r ≡ true → OnOk r P → P
ok_holds (Ok x) P is p = p
ok_holds (Err e) P is p = absurd (false≢true is)

pub returns-in-None-clause-given : goal.returns-in-None-clause-given
returns-in-None-clause-given c =
    let same = c.get_mut.follows.holds-at-none in
    let room : 0 < spare c.get_mut.follows.lender-at-none = subst (λ m. 0 < spare m) (sym same) c.requires in
    let put = ok_holds c.insert.result _ (c.insert.ensures.succeeds room) c.insert.ensures.updates in
    one_put c.get_mut.follows.lender-at-none.entries c.insert.new.self.entries c.args.key c.args.value put.0
    ∙ ap (λ m. finite.insert (finite.from_entries {R = nat_cmp} m.entries) c.args.key c.args.value) same
