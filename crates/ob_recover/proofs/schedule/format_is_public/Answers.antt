use Rattle.ob_recover.proofs.Formats as laws
use Rattle.ob_recover.proofs.schedule.format_is_public.Goals as goal

pub returns : goal.returns
returns c = laws.format_is_public
