use Rattle.ob_claims.proofs.ClaimSteps.{opens}
use Rattle.ob_claims.proofs.claims.Claims.new.Goals as goal

pub of_words-requires : goal.of_words-requires
of_words-requires c = opens _ _ c.requires.some c.requires.few
