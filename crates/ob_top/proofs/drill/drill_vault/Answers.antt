use Rattle.std.proofs.Common.{◌∙◌, arith, ap, inl, inr, refl, sym, subst}
use Rattle.ob_serial.specs.Vaults.{VaultCounts}
use Rattle.ob_serial.specs.VaultKinds.{kind_of}
use Rattle.ob_shares.proofs.Fitting.{none_fit}
use Rattle.ob_store.proofs.Serving.{goes_then, rose_later}
use Rattle.ob_script.specs.Script.{AreSound, Scripts}
use Rattle.ob_script.proofs.Drills.{drill_sound}
use Rattle.ob_top.proofs.SelfTest.{digest_counted, epochs_counted, failed_goes, keys_are, reads_go, run_cause, run_goes, still_serves}
use Rattle.ob_top.proofs.drill.drill_vault.Goals as goal

pub conduct-requires-clause-params : goal.conduct-requires-clause-params
conduct-requires-clause-params g c κs within = c.requires.params

pub conduct-requires-clause-whole : goal.conduct-requires-clause-whole
conduct-requires-clause-whole g c κs within = refl

pub conduct-requires-clause-few : goal.conduct-requires-clause-few
conduct-requires-clause-few g c κs within = let e = c.requires.left in omega (arith, e)

pub conduct-requires-clause-serves : goal.conduct-requires-clause-serves
conduct-requires-clause-serves g c κs within =
    let (v, held, unspent, none) = c.requires.held in
    ap (λ (x : VaultCounts). x.spent) (sym (g.met.V.Vault.agrees c.args.vault.now v held).0) ∙ unspent

pub conduct-requires-clause-sound : goal.conduct-requires-clause-sound
conduct-requires-clause-sound g c κs within =
    let (n, few, is) = c.requires.script in
    subst AreSound (sym is) (drill_sound n)

pub conduct-requires-clause-keys : goal.conduct-requires-clause-keys
conduct-requires-clause-keys g c κs within =
    let (n, few, is) = c.requires.script in
    ap (λ (s : Scripts). s.keys) is ∙ sym (keys_are c.args.params.now c.requires.numbers)

pub conduct-requires-clause-fit : goal.conduct-requires-clause-fit
conduct-requires-clause-fit g c κs within = none_fit _ _ _

pub conduct-requires-clause-runners : goal.conduct-requires-clause-runners
conduct-requires-clause-runners g c κs within = c.requires.runners

pub returns-in-Err-clause-refused : goal.returns-in-Err-clause-refused
returns-in-Err-clause-refused g c =
    let (desk, by) = c.in-Err.ensures.done in
    inl (c.in-Err.err, record { desk = desk; ran = _; by = by }, c.fault.ensures)

pub read_map-requires-clause-params : goal.read_map-requires-clause-params
read_map-requires-clause-params g c κs within = c.in-Ok.ensures.params

pub read_map-requires-clause-serves : goal.read_map-requires-clause-serves
read_map-requires-clause-serves g c κs within =
    let (n, few, is) = c.requires.script in
    let (v, held, unspent, none) = c.requires.held in
    let (desk, by) = c.in-Ok.ensures.done in
    still_serves (kind_of g.V.Vault) (λ x. g.V.Vault.counts x) (λ x u holds. (g.met.V.Vault.agrees x u holds).0) c.args.params.now c.requires.numbers n few _ c.args.scripts.now is c.args.vault.now c.requires.begins c.requires.left c.args.runners.now.items c.requires.runners v held none
    c.conduct.new.vault (record { desk = desk; ran = _; by = by }) unspent

pub returns-in-Ok-read_map-clause-drilled : goal.returns-in-Ok-read_map-clause-drilled
returns-in-Ok-read_map-clause-drilled g c =
    let (desk, by) = c.in-Ok.ensures.done in
    record {
      mid = c.conduct.new.vault;
      run = record { desk = desk; ran = _; by = by };
      reads = c.in-Ok-read_map.ensures.reads;
      epochs = c.epoch-epochs.ensures.epoch;
      digest = c.in-Ok-read_map.ensures.digest;
    }

pub returns-in-Ok-read_map-clause-epochs : goal.returns-in-Ok-read_map-clause-epochs
returns-in-Ok-read_map-clause-epochs g c = λ n is few patient.
    let (v, held, unspent, none) = c.requires.held in
    let (desk, by) = c.in-Ok.ensures.done in
    c.epoch-epochs.ensures.epoch
    ∙ epochs_counted (kind_of g.V.Vault) (λ x. g.V.Vault.counts x) (λ x u holds. (g.met.V.Vault.agrees x u holds).0) c.args.params.now c.requires.numbers n few _ c.args.scripts.now is c.args.vault.now c.requires.begins c.requires.left c.args.runners.now.items c.requires.runners v held none
    c.conduct.new.vault (record { desk = desk; ran = _; by = by }) patient

pub returns-in-Ok-read_map-clause-digest : goal.returns-in-Ok-read_map-clause-digest
returns-in-Ok-read_map-clause-digest g c = λ n is few patient.
    let (v, held, unspent, none) = c.requires.held in
    let (desk, by) = c.in-Ok.ensures.done in
    digest_counted (kind_of g.V.Vault) (λ x. g.V.Vault.counts x) (λ x u holds. (g.met.V.Vault.agrees x u holds).0) c.args.params.now c.requires.numbers n few _ c.args.scripts.now is c.args.vault.now c.requires.begins c.requires.left c.args.runners.now.items c.requires.runners v held none
    c.conduct.new.vault (record { desk = desk; ran = _; by = by }) patient c.in-Ok-read_map.digest c.in-Ok-read_map.ensures.digest

pub returns-in-Err-read_map-clause-refused : goal.returns-in-Err-read_map-clause-refused
returns-in-Err-read_map-clause-refused g c =
    let (desk, by) = c.in-Ok.ensures.done in
    inr (c.conduct.new.vault, record { desk = desk; ran = _; by = by }, c.in-Err-read_map.ensures.refused)

-- ---- whatever it answers

pub returns-in-Err-clause-goes : goal.returns-in-Err-clause-goes
returns-in-Err-clause-goes g c = let (desk, by) = c.in-Err.ensures.done in run_goes _ (λ x. g.V.Vault.counts x) _ c.args.params.now c.args.scripts.now c.args.runners.now.items c.args.vault.now c.conduct.new.vault _ (record { desk = desk; ran = _; by = by })

pub returns-in-Err-clause-cause : goal.returns-in-Err-clause-cause
returns-in-Err-clause-cause g c = λ store. let (desk, by) = c.in-Err.ensures.done in run_cause _ (λ x. g.V.Vault.counts x) _ c.args.params.now c.args.scripts.now c.args.runners.now.items c.args.vault.now c.conduct.new.vault _ c.in-Err.err
    (record { desk = desk; ran = _; by = by }) c.fault.ensures store

pub returns-in-Ok-read_map-clause-goes : goal.returns-in-Ok-read_map-clause-goes
returns-in-Ok-read_map-clause-goes g c =
    let (desk, by) = c.in-Ok.ensures.done in
    goes_then _ _ _ (run_goes _ (λ x. g.V.Vault.counts x) _ c.args.params.now c.args.scripts.now c.args.runners.now.items c.args.vault.now c.conduct.new.vault _ (record { desk = desk; ran = _; by = by })) (reads_go _ _ _ _ _ _ c.in-Ok-read_map.ensures.reads)

pub returns-in-Err-read_map-clause-goes : goal.returns-in-Err-read_map-clause-goes
returns-in-Err-read_map-clause-goes g c =
    let (desk, by) = c.in-Ok.ensures.done in
    goes_then _ _ _ (run_goes _ (λ x. g.V.Vault.counts x) _ c.args.params.now c.args.scripts.now c.args.runners.now.items c.args.vault.now c.conduct.new.vault _ (record { desk = desk; ran = _; by = by })) (failed_goes _ _ _ _ _ _ _ c.in-Err-read_map.ensures.refused)

pub returns-in-Err-read_map-clause-cause : goal.returns-in-Err-read_map-clause-cause
returns-in-Err-read_map-clause-cause g c = λ store.
    let (desk, by) = c.in-Ok.ensures.done in
    rose_later _ _ _ (run_goes _ (λ x. g.V.Vault.counts x) _ c.args.params.now c.args.scripts.now c.args.runners.now.items c.args.vault.now c.conduct.new.vault _ (record { desk = desk; ran = _; by = by })).faults (c.in-Err-read_map.ensures.cause store)

pub returns-in-Ok-read_map-clause-anchors : goal.returns-in-Ok-read_map-clause-anchors
returns-in-Ok-read_map-clause-anchors g c = (reads_go _ _ _ _ _ _ c.in-Ok-read_map.ensures.reads).anchors ∙ c.in-Ok.ensures.anchors

pub returns-in-Err-read_map-clause-anchors : goal.returns-in-Err-read_map-clause-anchors
returns-in-Err-read_map-clause-anchors g c = (failed_goes _ _ _ _ _ _ _ c.in-Err-read_map.ensures.refused).anchors ∙ c.in-Ok.ensures.anchors
