use Rattle.ob_serial.specs.VaultKinds.{kind_of}
use Rattle.ob_vault.proofs.Leaving.{goes_on_refused, refused_as_told}
use Rattle.ob_vault.proofs.runs.runs_go_on_as_told.Goals as goal

pub returns : goal.returns
returns g c = λ runs words keys most p f first calls steps q h n v drawn at call answer w one no fills refused seen cut shown. (
  goes_on_refused (kind_of g.V.Vault) (λ x. g.S.Store.disk x) runs words (λ x t image left. g.met.S.Store.counts_now x t image left) (λ x image left. g.met.S.Store.only_now x image left) keys most p f (g.S.Store.disk (runs first).store) calls steps q h n v drawn at call answer
      w one fills refused seen cut shown,
  refused_as_told (kind_of g.V.Vault) (λ x. g.S.Store.disk x) runs words (λ x t image left. g.met.S.Store.counts_now x t image left) (λ x image left. g.met.S.Store.only_now x image left) keys most p f (g.S.Store.disk (runs first).store) calls steps q h n v drawn at call answer
      w one fills refused seen cut shown no,
)
