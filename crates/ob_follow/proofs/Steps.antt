-- Behind the last batch comes the end; and what logs a batch, with its places behind.
use Rattle.std.specs.Prelude.{◌≡◌, ◌≤◌, false, nat_lt, List, ◌++◌, OnOk, Result, Ok, Err}
use Rattle.std.proofs.Common.{refl, ◌∙◌, append_assoc}
use Rattle.std.proofs.lemmas.Bool.{le-ltb}
use Rattle.ob_schedule.specs.declared.want.Want.{Want}
use Rattle.ob_schedule.specs.Wants.{end_wants, end_holes}
use Rattle.ob_schedule.specs.Follow.{Follow, next_step}

abbrev pub last_step : Follow → Follow
last_step f = record f { holes = end_holes f.params f.stands f.leaves; wants = end_wants f.params f.stands f.leaves }

pub step_end : (f : Follow) → f.params.batches ≤ f.batch → last_step f ≡ next_step f
step_end f all = let is : nat_lt f.batch f.params.batches ≡ false = le-ltb f.batch f.params.batches all in rw is refl

-- two pieces put behind a list
pub both_put : {T E : Type 0} (result : Result T E) (old mid now one put two : List Want) → mid ≡ old ++ one → put ≡ two → OnOk result (now ≡ mid ++ put) → OnOk result (now ≡ old ++ (one ++ two))
both_put (Ok done) old mid now one put two first same second = second ∙ (λ j. first j ++ same j) ∙ append_assoc old one two
both_put (Err fault) old mid now one put two first same second = tt
