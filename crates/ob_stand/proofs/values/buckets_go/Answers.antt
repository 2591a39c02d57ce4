use Rattle.ob_stand.proofs.Epochs as laws
use Rattle.ob_stand.proofs.values.buckets_go.Goals as goal

pub returns : goal.returns
returns c = laws.buckets_go
