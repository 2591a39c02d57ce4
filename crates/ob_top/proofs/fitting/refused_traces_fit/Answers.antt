use Rattle.ob_io.specs.Streams.{outflow}
use Rattle.ob_top.proofs.Bytes.{refused_traces_fit}
use Rattle.ob_top.proofs.fitting.refused_traces_fit.Goals as goal

pub returns : goal.returns
returns g c = refused_traces_fit (λ x. g.S.Store.disk x) (λ x. outflow g.W.Sink x)
