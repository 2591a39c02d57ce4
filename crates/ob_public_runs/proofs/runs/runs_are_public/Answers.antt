use Rattle.ob_public_runs.proofs.Parts as parts
use Rattle.ob_public_runs.proofs.runs.runs_are_public.Goals as goal

pub returns : goal.returns
returns g c = λ keys p drawn made word_of found_by some one. parts.runs_are_public (λ x. g.S.Store.disk x) keys p drawn made word_of found_by some one
