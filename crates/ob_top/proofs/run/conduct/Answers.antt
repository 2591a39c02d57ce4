use Rattle.std.proofs.Common.{◌≤◌, ◌∙◌, ℕ, All, List, arith, length, refl, subst, sym}
use Rattle.std.specs.List.Sorted.{IsStrictlyIncreasing}
use Rattle.ob_base.specs.Clients.{IsClientNumber}
use Rattle.ob_shares.specs.Shares.{AreFitting}
use Rattle.ob_desk.specs.Desk.{new_desk}
use Rattle.ob_conduct.proofs.Conducting.{own_shares, own_opens}
use Rattle.ob_run.proofs.Shapes.{short_by}
use Rattle.ob_run.proofs.Scripts.{scripts_are_quiet}
use Rattle.ob_top.proofs.Opens.{none_made, below_all, opens_all, new_same}
use Rattle.ob_top.proofs.run.conduct.Goals as goal

pub new-requires : goal.new-requires
new-requires g c = record {
  few_left = subst (λ n. n ≤ c.args.params.now.batches) (sym c.left.ensures) c.requires.few;
  low_epoch = let e = c.epoch.ensures.epoch in let few = c.epoch.ensures.few in omega (arith, e, few);
  named = subst (λ (cs : List ℕ). All IsClientNumber cs) (sym c.clients.ensures.clients) c.requires.sound.named;
  rising = subst (λ (cs : List ℕ). IsStrictlyIncreasing cs) (sym c.clients.ensures.clients) c.requires.sound.rising;
  fit = subst (λ (cs : List ℕ). AreFitting c.args.means.now.shares (length cs) c.args.params.now.places c.args.params.now.writes) (sym c.clients.ensures.clients) c.requires.fit;
}

pub returns-in-Err-clause-done : goal.returns-in-Err-clause-done
returns-in-Err-clause-done g c =
    (new_desk _ _ _ _, short_by c.args.means.now.threads _ _ c.args.params.now _ _ _ _ _ _ refl (none_made c.args.scripts.now c.args.runners.now.items c.requires.runners))

pub run-requires-clause-clients : goal.run-requires-clause-clients
run-requires-clause-clients g c κs within = c.clients-2.ensures.clients ∙ sym c.requires.runners.clients_are

pub run-requires-clause-fresh : goal.run-requires-clause-fresh
run-requires-clause-fresh g c κs within = own_shares c.args.params.now c.args.means.now.shares _ _ _ _
    (c.in-Ok.ensures ∙ new_same c.args.params.now c.args.means.now.shares _ _ _ _ _ _ (let e = c.epoch.ensures.epoch in omega (arith, e)) c.left.ensures (c.clients.ensures.clients ∙ sym c.requires.runners.clients_are))

pub run-requires-clause-opens : goal.run-requires-clause-opens
run-requires-clause-opens g c κs within = own_opens c.args.params.now c.args.means.now.shares _ _ _ _
    (c.in-Ok.ensures ∙ new_same c.args.params.now c.args.means.now.shares _ _ _ _ _ _ (let e = c.epoch.ensures.epoch in omega (arith, e)) c.left.ensures (c.clients.ensures.clients ∙ sym c.requires.runners.clients_are))
    (opens_all c.args.scripts.now c.args.runners.now.items c.requires.runners c.args.params.now c.args.means.now.shares _ _ (let e = c.epoch.ensures.epoch in let few = c.epoch.ensures.few in omega (arith, e, few)) c.requires.few c.requires.sound c.requires.fit)

pub run-requires-clause-below : goal.run-requires-clause-below
run-requires-clause-below g c κs within = below_all c.args.scripts.now c.args.runners.now.items c.requires.runners c.args.params.now.keys c.requires.keys

pub run-requires-clause-none_made : goal.run-requires-clause-none_made
run-requires-clause-none_made g c κs within = none_made c.args.scripts.now c.args.runners.now.items c.requires.runners

pub run-requires-clause-quiet : goal.run-requires-clause-quiet
run-requires-clause-quiet g c κs within = scripts_are_quiet

pub returns-clause-done : goal.returns-clause-done
returns-clause-done g c =
    let new = c.in-Ok.ensures ∙ new_same c.args.params.now c.args.means.now.shares _ _ _ _ _ _ (let e = c.epoch.ensures.epoch in omega (arith, e)) c.left.ensures c.clients.ensures.clients in
    rw new at c.run.ensures.done

pub run-requires-clause-params : goal.run-requires-clause-params
run-requires-clause-params g c κs within = c.requires.params

pub run-requires-clause-whole : goal.run-requires-clause-whole
run-requires-clause-whole g c κs within = c.requires.whole

pub run-requires-clause-serves : goal.run-requires-clause-serves
run-requires-clause-serves g c κs within = c.requires.serves

pub returns-in-Err-clause-anchors : goal.returns-in-Err-clause-anchors
returns-in-Err-clause-anchors g c = refl

pub returns-clause-anchors : goal.returns-clause-anchors
returns-clause-anchors g c = c.run.ensures.anchors
