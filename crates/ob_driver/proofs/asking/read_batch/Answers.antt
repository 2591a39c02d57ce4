use Rattle.std.proofs.Common.{◌≡◌, ◌++◌, ℕ, List, Option, length, take, drop, sym, subst, arith}
use Rattle.ob_serial.specs.Vaults.{Fetch, counts_next}
use Rattle.ob_serial.specs.VaultViews.{fetch_answer}
use Rattle.ob_serial.specs.VaultKinds.{kind_of}
use Rattle.ob_base.specs.declared.value.Value.{Value}
use Rattle.ob_conduct.specs.Scenes.{Watched}
use Rattle.ob_driver.proofs.Insides.{slice_back}
use Rattle.ob_driver.proofs.asking.read_batch.Goals as goal

pub returns-clause-called : goal.returns-clause-called
returns-clause-called g c =
    let e = c.fetch.ensures in
    let long : c.args.found.now.len ≡ length c.fetch.new.out = omega (arith, c.as_mut_slice.ensures.len) in
    subst
    (λ (keys : List (Option ℕ)). Watched (kind_of g.V.Vault) c.args.vault.now (g.W.Watch.trace c.args.watch.now) (Fetch keys) (fetch_answer (take c.args.found.now.len (c.fetch.new.out ++ drop (length c.fetch.new.out) c.args.found.now.items)) c.fetch.result) c.fetch.new.self
    (g.W.Watch.trace c.fetch.new.watch)) c.as_slice.ensures.value
    (subst (λ (values : List (Option Value)). Watched (kind_of g.V.Vault) c.args.vault.now (g.W.Watch.trace c.args.watch.now) (Fetch c.as_slice.result.now) (fetch_answer values c.fetch.result) c.fetch.new.self (g.W.Watch.trace c.fetch.new.watch))
    (sym (slice_back c.args.found.now.len c.fetch.new.out c.args.found.now.items long))
    (record {
      one = record { notes = e.called.0; called = e.called.2; answered = e.answered; holds = e.holds; sound = e.sound; images = e.images; alike = e.alike; goes = e.goes };
      whole = c.requires.watched;
      shown = e.called.1;
    }))

pub fetch-requires-clause-serves : goal.fetch-requires-clause-serves
fetch-requires-clause-serves g c = c.requires.serves

pub fetch-requires-clause-some_left : goal.fetch-requires-clause-some_left
fetch-requires-clause-some_left g c = c.requires.some_left

pub fetch-requires-clause-whole : goal.fetch-requires-clause-whole
fetch-requires-clause-whole g c = rw c.as_slice.ensures.value c.requires.whole

pub fetch-requires-clause-room : goal.fetch-requires-clause-room
fetch-requires-clause-room g c = rw c.as_mut_slice.ensures.value c.requires.room

pub fetch-requires-clause-keys : goal.fetch-requires-clause-keys
fetch-requires-clause-keys g c = rw c.as_slice.ensures.value c.requires.keys

pub fetch-requires-clause-distinct : goal.fetch-requires-clause-distinct
fetch-requires-clause-distinct g c = rw c.as_slice.ensures.value c.requires.distinct

pub returns-clause-params : goal.returns-clause-params
returns-clause-params g c = c.fetch.ensures.params

pub returns-clause-counts : goal.returns-clause-counts
returns-clause-counts g c =
    let long : c.args.found.now.len ≡ length c.fetch.new.out = omega (arith, c.as_mut_slice.ensures.len) in
    subst
    (λ (keys : List (Option ℕ)). g.V.Vault.counts c.fetch.new.self ≡ counts_next (g.V.Vault.params c.args.vault.now).batches (g.V.Vault.counts c.args.vault.now) (Fetch keys)
    (fetch_answer (take c.args.found.now.len (c.fetch.new.out ++ drop (length c.fetch.new.out) c.args.found.now.items)) c.fetch.result)) c.as_slice.ensures.value
    (subst (λ (values : List (Option Value)). g.V.Vault.counts c.fetch.new.self ≡ counts_next (g.V.Vault.params c.args.vault.now).batches (g.V.Vault.counts c.args.vault.now) (Fetch c.as_slice.result.now) (fetch_answer values c.fetch.result))
    (sym (slice_back c.args.found.now.len c.fetch.new.out c.args.found.now.items long)) c.fetch.ensures.counts)

pub returns-clause-faults : goal.returns-clause-faults
returns-clause-faults g c = c.fetch.ensures.faults

pub returns-clause-cause : goal.returns-clause-cause
returns-clause-cause g c = c.fetch.ensures.cause
